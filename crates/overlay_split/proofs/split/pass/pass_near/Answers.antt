use Rattle.std.proofs.Common.{◌≡◌, refl, ◌∙◌, sym, subst, arith, ℕ, ◌+◌, ◌<◌, ◌≤◌, List, length, rules}
use Rattle.std.specs.Vec.{vec_len}
use Rattle.std.proofs.lemmas.List.{length-map}
use Rattle.std.proofs.lemmas.Result.{IfOk-from_err}
use Rattle.overlay_base.specs.EdgeData.{without_data}
use Rattle.overlay_base.specs.EdgeData.IsMadeFrom.{no_call}
use Rattle.std.specs.Prelude.{IsTrue, IfSome}
use Rattle.overlay_base.specs.SegmentOf.{segment_of, segments_of, data_segments_of, pairs_in}
use Rattle.overlay_base.specs.declared.segm.segment.Segment.{Segment}
use Rattle.overlay_base.specs.declared.segm.fault.Fault.TheVariants.{CountOutOfRange}
use Rattle.overlay_intersections.specs.MarkOf.{AreMarks, AreMarksOf, mark_of, marks_of}
use Rattle.overlay_intersections.specs.PassMarks.{marks_on}
use Rattle.overlay_intersections.specs.PlacingOf.{placing_of}
use Rattle.overlay_intersections.specs.declared.split.line_mark.LineMark.{LineMark}
use Rattle.overlay_intersections.specs.declared.split.placing.Placing.{Placing}
use Rattle.overlay_cuts.specs.DataPass.{data_pass}
use Rattle.overlay_cuts.specs.Pass.{pass}
use Rattle.overlay_cuts.specs.CutOf.{AreCutMarksOf, ForMarks}
use Rattle.overlay_split.specs.PassOf.{StopsPass, piece_count, pieces_leave_range}
use Rattle.overlay_split.specs.steps.ChangedBoxes.{AreAround, rects_of}
use Rattle.overlay_split.proofs.laws.passes.PieceNumbers.{pieces_counted}
use Rattle.overlay_cuts.proofs.laws.passes.Ready.{AreCutMarks-pass, AreMarksBy-bare, AreMarksBy-pass, IsPairInRange-each, IsSortedByKey-is_map, marks_tell}
use Rattle.overlay_split.proofs.laws.passes.BoundChanges.{bound_change}
use Rattle.overlay_split.proofs.laws.passes.StoppedRuns.{refused_in}
use Rattle.overlay_split.proofs.split.pass.pass_near.Goals as goal

pub find_marks_near-requires-clause-sorted : goal.find_marks_near-requires-clause-sorted
find_marks_near-requires-clause-sorted g c = rw (c.as_slice.ensures.value) (IsSortedByKey-is_map c.args.list.now.items c.requires.map)

pub find_marks_near-requires-clause-in_range : goal.find_marks_near-requires-clause-in_range
find_marks_near-requires-clause-in_range g c = rw (c.as_slice.ensures.value) (IsPairInRange-each c.args.list.now.items g.I.OverlayInt.MIN_COORD g.I.OverlayInt.MAX_COORD c.requires.splittable)

pub find_marks_near-requires-clause-inside : goal.find_marks_near-requires-clause-inside
find_marks_near-requires-clause-inside g c = rw (c.as_slice.ensures.value) c.requires.inside

pub returns-in-Err-clause-store_made : goal.returns-in-Err-clause-store_made
returns-in-Err-clause-store_made g c = no_call

pub pass_at-requires-clause-marks : goal.pass_at-requires-clause-marks
pass_at-requires-clause-marks g c =
    let whole = g.I.OverlayInt.whole in
    let found = subst (λ l. AreMarks (placing_of c.args.placing) (segments_of l) (marks_of whole c.find_marks_near.new.marks.items)) c.as_slice.ensures.value c.in-Ok.ensures.marks in
    AreCutMarks-pass (placing_of c.args.placing) (segments_of c.args.list.now.items) _ found

pub returns-in_err-pass_at-clause-stopped : goal.returns-in_err-pass_at-clause-stopped
returns-in_err-pass_at-clause-stopped g c =
    let items = c.args.list.now.items in
    let whole = g.I.OverlayInt.whole in
    let placing = placing_of c.args.placing in
    let found = subst (λ l. AreMarks placing (segments_of l) (marks_of whole c.find_marks_near.new.marks.items)) c.as_slice.ensures.value c.in-Ok.ensures.marks in
    let stopped : c.in_err-pass_at.field-0.0 ≡ CountOutOfRange → StopsPass g.D.OverlayEdgeData c.args.placing c.args.list.now c.args.store.now c.pass_at.new.store =
    λ e. c.in_err-pass_at.ensures.stopped e (marks_on placing (without_data (data_segments_of items))) (AreMarksBy-bare items placing _ found) in
    refused_in c.from_residual.result c.in_err-pass_at.field-0.0 _ c.from_residual.ensures.1 stopped

pub changed_boxes-requires : goal.changed_boxes-requires
changed_boxes-requires g c =
    let items = c.args.list.now.items in
    let placing = placing_of c.args.placing in
    let marks = c.find_marks_near.new.marks.items in
    let found = subst (λ l. AreMarks placing (segments_of l) (marks_of g.I.OverlayInt.whole marks)) c.as_slice.ensures.value c.in-Ok.ensures.marks in
    let given = AreCutMarks-pass placing (segments_of items) (marks_of g.I.OverlayInt.whole marks) found in
    record { marks = subst (λ l. AreCutMarksOf l c.as_slice-3.result.now) (sym c.as_slice-2.ensures.value) (subst (λ l. AreCutMarksOf items l) (sym c.as_slice-3.ensures.value) given) }

pub returns-in-Err-changed_boxes-clause-store_made : goal.returns-in-Err-changed_boxes-clause-store_made
returns-in-Err-changed_boxes-clause-store_made g c = no_call

pub returns-in_err-pass_at-clause-refused : goal.returns-in_err-pass_at-clause-refused
returns-in_err-pass_at-clause-refused g c =
    let segments = segments_of c.args.list.now.items in
    let whole = g.I.OverlayInt.whole in
    let placing = placing_of c.args.placing in
    let found = subst (λ l. AreMarks placing (segments_of l) (marks_of whole c.find_marks_near.new.marks.items)) c.as_slice.ensures.value c.in-Ok.ensures.marks in
    let refused : c.in_err-pass_at.field-0.0 ≡ CountOutOfRange → IsTrue (pieces_leave_range c.args.placing c.args.list.now.items) =
    λ e. c.in_err-pass_at.ensures.refused e (marks_on placing segments) (AreMarksBy-pass placing segments _ found) in
    refused_in c.from_residual.result c.in_err-pass_at.field-0.0 _ c.from_residual.ensures.1 refused

pub returns-clause-changed : goal.returns-clause-changed
unfolding pass
returns-clause-changed g c =
    let whole = g.I.OverlayInt.whole in
    let items = c.args.list.now.items in
    let segments = segments_of items in
    let placing = placing_of c.args.placing in
    let marks = c.find_marks_near.new.marks.items in
    let boxes = c.in-Ok-changed_boxes.boxes in
    let are : AreMarks placing segments (marks_of whole marks) = subst (λ l. AreMarks placing (segments_of l) (marks_of whole marks)) c.as_slice.ensures.value c.in-Ok.ensures.marks in
    let geometry : segments_of c.pass_at.new.list.items ≡ pass placing segments = c.in_ok-pass_at.ensures.geometry (marks_on placing segments) (AreMarksBy-pass placing segments _ are) in
    let first = subst (λ l. IfSome boxes (λ b. ForMarks l c.as_slice-3.result.now (λ on. AreAround on (pairs_in l) (rects_of whole b.items)))) c.as_slice-2.ensures.value c.in-Ok-changed_boxes.ensures.around in
    let around = subst (λ l. IfSome boxes (λ b. ForMarks items l (λ on. AreAround on (pairs_in items) (rects_of whole b.items)))) c.as_slice-3.ensures.value first in
    bound_change placing items c.pass_at.new.list.items marks boxes c.requires.map are around c.in-Ok-changed_boxes.ensures.from_left geometry

-- the marks that were found are those of the pass
found : (g : _) (c : goal.In_ok-pass_at g) → AreMarks (placing_of c.args.placing) (segments_of c.args.list.now.items) (marks_of g.I.OverlayInt.whole c.find_marks_near.new.marks.items)
found g c =
    subst (λ l. AreMarks (placing_of c.args.placing) (segments_of l) (marks_of g.I.OverlayInt.whole c.find_marks_near.new.marks.items)) c.as_slice.ensures.value c.in-Ok.ensures.marks

pub returns-clause-geometry : goal.returns-clause-geometry
unfolding pass
returns-clause-geometry g c =
    let segments = segments_of c.args.list.now.items in
    c.in_ok-pass_at.ensures.geometry (marks_on (placing_of c.args.placing) segments) (AreMarksBy-pass (placing_of c.args.placing) segments _ (found g c))

pub returns-clause-edge_data : goal.returns-clause-edge_data
unfolding data_pass
returns-clause-edge_data g c =
    let items = c.args.list.now.items in
    c.in_ok-pass_at.ensures.edge_data (marks_on (placing_of c.args.placing) (without_data (data_segments_of items))) (AreMarksBy-bare items (placing_of c.args.placing) _ (found g c))

pub returns-clause-store : goal.returns-clause-store
unfolding data_pass
returns-clause-store g c =
    let items = c.args.list.now.items in
    c.in_ok-pass_at.ensures.store (marks_on (placing_of c.args.placing) (without_data (data_segments_of items))) (AreMarksBy-bare items (placing_of c.args.placing) _ (found g c))

pub returns-clause-marked : goal.returns-clause-marked
returns-clause-marked g c =
    let whole = g.I.OverlayInt.whole in
    let segments = segments_of c.args.list.now.items in
    let marks = c.find_marks_near.new.marks in
    let length_is : length (marks_of whole marks.items) ≡ vec_len marks = length-map marks.items (mark_of whole) ∙ sym marks.ok.0 in
    marks_tell (placing_of c.args.placing) segments (marks_of whole marks.items) (found g c) (vec_len marks) length_is c.is_empty-has_marks.result c.is_empty-has_marks.ensures

pub returns-clause-fits : goal.returns-clause-fits
returns-clause-fits g c =
    let segments = segments_of c.args.list.now.items in
    c.in_ok-pass_at.ensures.fits (marks_on (placing_of c.args.placing) segments) (AreMarksBy-pass (placing_of c.args.placing) segments _ (found g c))

-- ---- the limit

pub returns-then-len-limit-clause-store_made : goal.returns-then-len-limit-clause-store_made
returns-then-len-limit-clause-store_made g c = no_call

-- the lengths of a list and of its marks are together the number of pieces
all_pieces : (segments marks items found list listed held noted pieces : ℕ) → segments + marks ≡ pieces → segments ≡ items → marks ≡ found → list ≡ items → listed ≡ list → held ≡ found → noted ≡ held → listed + noted ≡ pieces
all_pieces segments marks items found list listed held noted pieces e f g h k l n = omega arith

pieces_are : {C I D : Type 0} {m : _} {w : _} {o : _} {e : _} {p : _} (placing : Placing) (list taken : List (Segment C I D m w o e p)) (marks : List (LineMark I)) → taken ≡ list → AreMarksOf placing taken marks →
    (len listed held noted : ℕ) → len ≡ length list → listed ≡ len → held ≡ length marks → noted ≡ held → listed + noted ≡ piece_count placing list
pieces_are {w = w} placing list taken marks same found len listed held noted e f g h =
    let these = subst (λ l. AreMarks (placing_of placing) (segments_of l) (marks_of w.whole marks)) same found in
    all_pieces (length (segments_of list)) (length (marks_of w.whole marks)) (length list) (length marks) len listed held noted (piece_count placing list)
    (pieces_counted (placing_of placing) (segments_of list) (marks_of w.whole marks) these)
    (length-map list segment_of) (length-map marks (mark_of w.whole)) e f g h

pub returns-then-len-limit-clause-beyond : goal.returns-then-len-limit-clause-beyond
returns-then-len-limit-clause-beyond g c = λ _.
    let marks = c.find_marks_near.new.marks in
    let pieces = pieces_are c.args.placing c.args.list.now.items c.as_slice.result.now marks.items c.as_slice.ensures.value c.in-Ok.ensures.marks (vec_len c.args.list.now) c.len.result (vec_len marks) c.len-2.result c.args.list.now.ok.0 c.len.ensures marks.ok.0 c.len-2.ensures in
    subst (λ n. c.args.limit < n) pieces c.if-len-limit.true

pub returns-clause-within : goal.returns-clause-within
returns-clause-within g c =
    let marks = c.find_marks_near.new.marks in
    let pieces = pieces_are c.args.placing c.args.list.now.items c.as_slice.result.now marks.items c.as_slice.ensures.value c.in-Ok.ensures.marks (vec_len c.args.list.now) c.len.result (vec_len marks) c.len-2.result c.args.list.now.ok.0 c.len.ensures marks.ok.0 c.len-2.ensures in
    subst (λ n. n ≤ c.args.limit) pieces c.if-len-limit.false

-- what holds of a result of the other kind, and what stays as it was

pub returns-in-Err-clause-geometry : goal.returns-in-Err-clause-geometry
returns-in-Err-clause-geometry g c = tt

pub returns-in-Err-clause-edge_data : goal.returns-in-Err-clause-edge_data
returns-in-Err-clause-edge_data g c = tt

pub returns-in-Err-clause-store : goal.returns-in-Err-clause-store
returns-in-Err-clause-store g c = tt

pub returns-in-Err-clause-rounded : goal.returns-in-Err-clause-rounded
returns-in-Err-clause-rounded g c = tt

pub returns-in-Err-clause-marked : goal.returns-in-Err-clause-marked
returns-in-Err-clause-marked g c = tt

pub returns-in-Err-clause-looked : goal.returns-in-Err-clause-looked
returns-in-Err-clause-looked g c = tt

pub returns-in-Err-clause-within : goal.returns-in-Err-clause-within
returns-in-Err-clause-within g c = tt

pub returns-in-Err-clause-fits : goal.returns-in-Err-clause-fits
returns-in-Err-clause-fits g c = tt

pub returns-then-len-limit-clause-geometry : goal.returns-then-len-limit-clause-geometry
returns-then-len-limit-clause-geometry g c = tt

pub returns-then-len-limit-clause-edge_data : goal.returns-then-len-limit-clause-edge_data
returns-then-len-limit-clause-edge_data g c = tt

pub returns-then-len-limit-clause-store : goal.returns-then-len-limit-clause-store
returns-then-len-limit-clause-store g c = tt

pub returns-then-len-limit-clause-rounded : goal.returns-then-len-limit-clause-rounded
returns-then-len-limit-clause-rounded g c = tt

pub returns-then-len-limit-clause-marked : goal.returns-then-len-limit-clause-marked
returns-then-len-limit-clause-marked g c = tt

pub returns-then-len-limit-clause-looked : goal.returns-then-len-limit-clause-looked
returns-then-len-limit-clause-looked g c = tt

pub returns-then-len-limit-clause-within : goal.returns-then-len-limit-clause-within
returns-then-len-limit-clause-within g c = tt

pub returns-then-len-limit-clause-fits : goal.returns-then-len-limit-clause-fits
returns-then-len-limit-clause-fits g c = tt

pub returns-in_err-pass_at-clause-geometry : goal.returns-in_err-pass_at-clause-geometry
returns-in_err-pass_at-clause-geometry g c = IfOk-from_err c.from_residual.result _ c.from_residual.ensures.0

pub returns-in_err-pass_at-clause-edge_data : goal.returns-in_err-pass_at-clause-edge_data
returns-in_err-pass_at-clause-edge_data g c = IfOk-from_err c.from_residual.result _ c.from_residual.ensures.0

pub returns-in_err-pass_at-clause-store : goal.returns-in_err-pass_at-clause-store
returns-in_err-pass_at-clause-store g c = IfOk-from_err c.from_residual.result _ c.from_residual.ensures.0

pub returns-in_err-pass_at-clause-rounded : goal.returns-in_err-pass_at-clause-rounded
returns-in_err-pass_at-clause-rounded g c = IfOk-from_err c.from_residual.result _ c.from_residual.ensures.0

pub returns-in_err-pass_at-clause-marked : goal.returns-in_err-pass_at-clause-marked
returns-in_err-pass_at-clause-marked g c = IfOk-from_err c.from_residual.result _ c.from_residual.ensures.0

pub returns-in_err-pass_at-clause-looked : goal.returns-in_err-pass_at-clause-looked
returns-in_err-pass_at-clause-looked g c = IfOk-from_err c.from_residual.result _ c.from_residual.ensures.0

pub returns-in_err-pass_at-clause-within : goal.returns-in_err-pass_at-clause-within
returns-in_err-pass_at-clause-within g c = IfOk-from_err c.from_residual.result _ c.from_residual.ensures.0

pub returns-in_err-pass_at-clause-fits : goal.returns-in_err-pass_at-clause-fits
returns-in_err-pass_at-clause-fits g c = IfOk-from_err c.from_residual.result _ c.from_residual.ensures.0

pub returns-clause-refused : goal.returns-clause-refused
returns-clause-refused g c = tt

pub returns-clause-emptied : goal.returns-clause-emptied
returns-clause-emptied g c = tt

pub returns-clause-stopped : goal.returns-clause-stopped
returns-clause-stopped g c = tt

pub returns-clause-beyond : goal.returns-clause-beyond
returns-clause-beyond g c = tt

pub returns-clause-uncut : goal.returns-clause-uncut
returns-clause-uncut g c = tt

pub returns-clause-unbounded : goal.returns-clause-unbounded
returns-clause-unbounded g c = tt

pub returns-in-Err-clause-solver : goal.returns-in-Err-clause-solver
returns-in-Err-clause-solver g c = c.find_marks_near.ensures.solver

pub returns-in-Err-clause-grid : goal.returns-in-Err-clause-grid
returns-in-Err-clause-grid g c = c.find_marks_near.ensures.grid

pub returns-then-len-limit-clause-solver : goal.returns-then-len-limit-clause-solver
returns-then-len-limit-clause-solver g c = c.find_marks_near.ensures.solver

pub returns-then-len-limit-clause-grid : goal.returns-then-len-limit-clause-grid
returns-then-len-limit-clause-grid g c = c.find_marks_near.ensures.grid

pub returns-in_err-pass_at-clause-solver : goal.returns-in_err-pass_at-clause-solver
returns-in_err-pass_at-clause-solver g c = c.find_marks_near.ensures.solver

pub returns-in_err-pass_at-clause-grid : goal.returns-in_err-pass_at-clause-grid
returns-in_err-pass_at-clause-grid g c = c.find_marks_near.ensures.grid

pub returns-clause-solver : goal.returns-clause-solver
returns-clause-solver g c = c.find_marks_near.ensures.solver

pub returns-clause-grid : goal.returns-clause-grid
returns-clause-grid g c = c.find_marks_near.ensures.grid

pub returns-clause-store_made : goal.returns-clause-store_made
returns-clause-store_made g c = c.in_ok-pass_at.ensures.store_made

pub returns-in_err-pass_at-clause-store_made : goal.returns-in_err-pass_at-clause-store_made
returns-in_err-pass_at-clause-store_made g c = c.in_err-pass_at.ensures.store_made

pub returns-then-len-limit-clause-uncut : goal.returns-then-len-limit-clause-uncut
returns-then-len-limit-clause-uncut g c = λ _. refl

pub pass_at-requires-clause-map : goal.pass_at-requires-clause-map
pass_at-requires-clause-map g c = c.requires.map

pub pass_at-requires-clause-splittable : goal.pass_at-requires-clause-splittable
pass_at-requires-clause-splittable g c = c.requires.splittable

pub find_marks_near-requires-clause-radius : goal.find_marks_near-requires-clause-radius
find_marks_near-requires-clause-radius g c = c.requires.radius

pub find_marks_near-requires-clause-changed : goal.find_marks_near-requires-clause-changed
find_marks_near-requires-clause-changed g c = rw (c.as_slice.ensures.value) c.requires.changed

pub returns-in-Err-clause-emptied : goal.returns-in-Err-clause-emptied
returns-in-Err-clause-emptied g c = search rules
