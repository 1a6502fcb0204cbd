use Rattle.std.proofs.Common.{◌≡◌, ◌∙◌, refl, sym, ap, subst, arith, ℕ, zero, suc, length, Bool, not, true, false, List, [], ◌∷◌, ◌==◌}
use Rattle.std.specs.Prelude.{◌↔◌, IsTrue}
use Rattle.std.proofs.lemmas.Bool.{both_ways, not-true}
use Rattle.std.proofs.lemmas.List.{length-map}
use Rattle.overlay_base.specs.EdgeData.{IsMadeFrom}
use Rattle.overlay_base.specs.EdgeData.IsMadeFrom.{no_call}
use Rattle.overlay_base.specs.HooksOf.{hooks_of}
use Rattle.overlay_base.specs.SegmentOf.{segments_of, data_segments_of}
use Rattle.overlay_base.specs.Segments.{WholeSegment}
use Rattle.overlay_base.proofs.laws.joins.Maps.{are_ordered-map}
use Rattle.overlay_base.proofs.laws.joins.OneValues.{same_without_data}
use Rattle.overlay_base.proofs.laws.joins.Views.{segments_of-bare}
use Rattle.overlay_intersections.specs.MarkOf.{Mark, mark_of, marks_of}
use Rattle.overlay_cuts.specs.Pass.{pass_by}
use Rattle.overlay_cuts.proofs.laws.passes.DataPasses.{bare-data_pass_by}
use Rattle.overlay_cuts.proofs.laws.passes.Refusals.{refused_by}
use Rattle.overlay_snapping.specs.CutsOf.{AreCuts}
use Rattle.overlay_snapping.specs.steps.Batches.{HasCut}
use Rattle.overlay_snapping.proofs.laws.batches.Walks.{cut_fits}
use Rattle.overlay_snapping.proofs.laws.batches.CutLists.{cuts_are_few}
use Rattle.overlay_snapping.proofs.laws.chains.MarkLists.{marks_by_cuts, cut_marks, first_is_cut, cut_is_marked}
use Rattle.overlay_snapping.proofs.snap.solver.SnapSolver.cut.Goals as goal

-- ---- listed cuts

pub pass_at-requires-clause-marks : goal.pass_at-requires-clause-marks
pass_at-requires-clause-marks g c =
    let segments = segments_of c.args.list.now.items in
    let cuts = subst (λ l. AreCuts segments (marks_of g.I.OverlayInt.whole l)) (sym (ap (λ v. v.items) c.replace-cuts.ensures.value)) (c.requires.cuts c.if-found.true) in
    cut_marks segments (marks_of g.I.OverlayInt.whole c.replace-cuts.result.items) cuts

pub returns-in_err-pass_at-clause-refused : goal.returns-in_err-pass_at-clause-refused
returns-in_err-pass_at-clause-refused g c =
    let segments = segments_of c.args.list.now.items in
    let marks = marks_of g.I.OverlayInt.whole c.replace-cuts.result.items in
    let cuts = subst (λ l. AreCuts segments (marks_of g.I.OverlayInt.whole l)) (sym (ap (λ v. v.items) c.replace-cuts.ensures.value)) (c.requires.cuts c.if-found.true) in
    refused_by c.from_residual.result c.in_err-pass_at.field-0.0 _ c.from_residual.ensures.1 (λ e on h. c.in_err-pass_at.ensures.refused e on (marks_by_cuts segments marks on cuts h))

pub returns-in_err-pass_at-clause-stopped : goal.returns-in_err-pass_at-clause-stopped
returns-in_err-pass_at-clause-stopped g c =
    let segments = segments_of c.args.list.now.items in
    let marks = marks_of g.I.OverlayInt.whole c.replace-cuts.result.items in
    let cuts = subst (λ l. AreCuts segments (marks_of g.I.OverlayInt.whole l)) (sym (ap (λ v. v.items) c.replace-cuts.ensures.value)) (c.requires.cuts c.if-found.true) in
    refused_by c.from_residual.result c.in_err-pass_at.field-0.0 _ c.from_residual.ensures.1 (λ e on h. c.in_err-pass_at.ensures.stopped e on (marks_by_cuts segments marks on cuts h))

pub returns-then-found-clause-geometry : goal.returns-then-found-clause-geometry
returns-then-found-clause-geometry g c =
    let segments = segments_of c.args.list.now.items in
    let marks = marks_of g.I.OverlayInt.whole c.replace-cuts.result.items in
    let cuts = subst (λ l. AreCuts segments (marks_of g.I.OverlayInt.whole l)) (sym (ap (λ v. v.items) c.replace-cuts.ensures.value)) (c.requires.cuts c.if-found.true) in
    λ on h. c.in_ok-pass_at.ensures.geometry on (marks_by_cuts segments marks on cuts h)

pub returns-then-found-clause-edge_data : goal.returns-then-found-clause-edge_data
returns-then-found-clause-edge_data g c =
    let segments = segments_of c.args.list.now.items in
    let marks = marks_of g.I.OverlayInt.whole c.replace-cuts.result.items in
    let cuts = subst (λ l. AreCuts segments (marks_of g.I.OverlayInt.whole l)) (sym (ap (λ v. v.items) c.replace-cuts.ensures.value)) (c.requires.cuts c.if-found.true) in
    λ on h. c.in_ok-pass_at.ensures.edge_data on (marks_by_cuts segments marks on cuts h)

pub returns-then-found-clause-store : goal.returns-then-found-clause-store
returns-then-found-clause-store g c =
    let segments = segments_of c.args.list.now.items in
    let marks = marks_of g.I.OverlayInt.whole c.replace-cuts.result.items in
    let cuts = subst (λ l. AreCuts segments (marks_of g.I.OverlayInt.whole l)) (sym (ap (λ v. v.items) c.replace-cuts.ensures.value)) (c.requires.cuts c.if-found.true) in
    λ on h. c.in_ok-pass_at.ensures.store on (marks_by_cuts segments marks on cuts h)

pub returns-then-found-clause-fits : goal.returns-then-found-clause-fits
returns-then-found-clause-fits g c =
    let segments = segments_of c.args.list.now.items in
    let marks = marks_of g.I.OverlayInt.whole c.replace-cuts.result.items in
    let cuts = subst (λ l. AreCuts segments (marks_of g.I.OverlayInt.whole l)) (sym (ap (λ v. v.items) c.replace-cuts.ensures.value)) (c.requires.cuts c.if-found.true) in
    λ on h. c.in_ok-pass_at.ensures.fits on (marks_by_cuts segments marks on cuts h)

is_nothing : (n k : ℕ) → n ≡ k → n ≡ 0 → (k == 0) ≡ true
is_nothing n k same none = rw (sym same ∙ none) refl

has_cut : (segments : List WholeSegment) (marks : List Mark) (empty : Bool) (n : ℕ) → AreCuts segments marks → length marks ≡ n → empty ≡ (n == 0) → IsTrue (not empty) ↔ HasCut segments
has_cut segments [] empty n cuts long told = (
  λ h. absurd (both_ways empty (not-true empty h) (told ∙ is_nothing 0 n long refl)),
  λ cut. absurd (cut_is_marked segments [] cuts cut.0 cut.1 cut.2 cut.3 cut.4 refl),
)
has_cut segments (mark ∷ marks) empty n cuts long told = (λ h. first_is_cut segments mark marks cuts, λ h. ap not (told ∙ some n long))
  where
    some : (n : ℕ) → length (mark ∷ marks) ≡ n → (n == 0) ≡ false
    some zero e = absurd (omega (arith, e))
    some (suc n) e = grind (arith)

pub returns-then-found-clause-cut : goal.returns-then-found-clause-cut
returns-then-found-clause-cut g c =
    let segments = segments_of c.args.list.now.items in
    let slice = c.replace-cuts.result.items in
    let cuts = subst (λ l. AreCuts segments (marks_of g.I.OverlayInt.whole l)) (sym (ap (λ v. v.items) c.replace-cuts.ensures.value)) (c.requires.cuts c.if-found.true) in
    has_cut segments (marks_of g.I.OverlayInt.whole slice) c.is_empty-is_cut.result _ cuts (length-map slice (mark_of g.I.OverlayInt.whole) ∙ (sym c.replace-cuts.result.ok.0)) c.is_empty-is_cut.ensures

-- ---- pieces that are joined some at a time

pub returns-in-Ok-clause-geometry : goal.returns-in-Ok-clause-geometry
returns-in-Ok-clause-geometry g c = λ on h. c.in-Ok.ensures.joined on h

pub returns-in-Ok-clause-edge_data : goal.returns-in-Ok-clause-edge_data
returns-in-Ok-clause-edge_data g c = λ on h.
    let hooks = hooks_of g.C.WindingCount.counted g.D.OverlayEdgeData in
    let given = c.args.list.now.items in
    let pieces = c.in-Ok.pieces.items in
    same_without_data (c.requires.one_data c.if-found.false) (data_segments_of pieces) _
    (sym (segments_of-bare pieces) ∙ returns-in-Ok-clause-geometry g c on h ∙ ap (λ l. pass_by on l) (segments_of-bare given) ∙ sym (bare-data_pass_by hooks on (data_segments_of given) c.args.store.now))

pub returns-in-Ok-clause-store : goal.returns-in-Ok-clause-store
returns-in-Ok-clause-store g c = λ on h. c.requires.one_store c.if-found.false c.joined_pieces.new.store _

pub returns-in-Ok-clause-fits : goal.returns-in-Ok-clause-fits
returns-in-Ok-clause-fits g c = λ on h.
    let segments = segments_of c.args.list.now.items in
    cut_fits on segments (cuts_are_few segments on (are_ordered-map segments c.requires.map) (c.requires.known c.if-found.false).decided h) (c.requires.small c.if-found.false)

pub returns-in-Ok-clause-store_made : goal.returns-in-Ok-clause-store_made
returns-in-Ok-clause-store_made g c = subst (λ s. IsMadeFrom (hooks_of g.C.WindingCount.counted g.D.OverlayEdgeData) c.args.store.now s) (c.requires.one_store c.if-found.false c.args.store.now c.joined_pieces.new.store) no_call

pub returns-in-Err-clause-store_made : goal.returns-in-Err-clause-store_made
returns-in-Err-clause-store_made g c = subst (λ s. IsMadeFrom (hooks_of g.C.WindingCount.counted g.D.OverlayEdgeData) c.args.store.now s) (c.requires.one_store c.if-found.false c.args.store.now c.joined_pieces.new.store) no_call
