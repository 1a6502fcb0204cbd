use denote.Enum.Bare.{sameb}
use Rattle.std.proofs.Common.{◌≡◌, refl, ◌∙◌, ap, sym, subst, false, filter, length}
use Rattle.std.proofs.lemmas.Bool.{both_ways}
use Rattle.std.specs.Prelude.{IfSome, Some}
use Rattle.overlay_base.specs.Choices.{list_splits}
use Rattle.overlay_base.specs.contracts.overlay_core.solver.Strategy.{the_type}
use Rattle.overlay_base.specs.declared.overlay_core.solver.Solver.{Solver}
use Rattle.overlay_base.specs.declared.overlay_core.solver.Strategy.TheVariants.{List as ByList}
use Rattle.overlay_base.specs.SegmentOf.{ends_of, segments_of, pairs_in}
use Rattle.overlay_intersections.specs.MarkOf.{marks_of, AreMarks}
use Rattle.overlay_intersections.specs.PlacingOf.{placing_of}
use Rattle.overlay_tree.proofs.laws.tree.Sweeps.{length-pairs}
use Rattle.overlay_cuts.specs.FinderOf.{solver_in, layout_in, looks_in}
use Rattle.overlay_split.specs.steps.ChangedBoxes.{BoundChange, AreFromLeft, AreApartElsewhere, is_near, near_from, rects_of}
use Rattle.overlay_split.proofs.laws.passes.PartFinds.{found_sorted, found_in_range, found_inside, found_listed, found_looks, found_rounded, found_marks, found_within}
use Rattle.overlay_split.proofs.laws.passes.RunLooks.{ArePassLooks-fewer}
use Rattle.overlay_split.proofs.split.near.find_marks_near.Goals as goal

pub part_near-requires-clause-from_left : goal.part_near-requires-clause-from_left
part_near-requires-clause-from_left g c =
    let whole = g.I.OverlayInt.whole in
    let segments = segments_of c.args.segments.now in
    let known0 : BoundChange whole (Some c.in-Some.boxes) segments = subst (λ o. BoundChange whole o segments) c.in-Some.is c.requires.changed in
    subst (λ l. AreFromLeft (rects_of whole l)) (sym c.as_slice.ensures.value) known0.0

pub find_as_chosen-requires-clause-sorted : goal.find_as_chosen-requires-clause-sorted
find_as_chosen-requires-clause-sorted g c =
    let whole = g.I.OverlayInt.whole in
    let xs = c.args.segments.now in
    let rects = rects_of whole c.as_slice.result.now in
    let items = subst (λ o. IfSome o (λ part. part.segments.items ≡ filter (λ s. is_near rects (ends_of s)) xs)) c.in-Some-2.is c.in_ok-part.ensures.segments in
    let same : c.as_slice-near.result.now ≡ filter (λ s. is_near rects (ends_of s)) xs = c.as_slice-near.ensures.value ∙ items in
    found_sorted rects xs c.as_slice-near.result.now same c.requires.sorted

pub find_as_chosen-requires-clause-in_range : goal.find_as_chosen-requires-clause-in_range
find_as_chosen-requires-clause-in_range g c =
    let whole = g.I.OverlayInt.whole in
    let xs = c.args.segments.now in
    let rects = rects_of whole c.as_slice.result.now in
    let items = subst (λ o. IfSome o (λ part. part.segments.items ≡ filter (λ s. is_near rects (ends_of s)) xs)) c.in-Some-2.is c.in_ok-part.ensures.segments in
    let same : c.as_slice-near.result.now ≡ filter (λ s. is_near rects (ends_of s)) xs = c.as_slice-near.ensures.value ∙ items in
    found_in_range rects xs c.as_slice-near.result.now same c.requires.in_range

pub find_as_chosen-requires-clause-inside : goal.find_as_chosen-requires-clause-inside
find_as_chosen-requires-clause-inside g c =
    let whole = g.I.OverlayInt.whole in
    let xs = c.args.segments.now in
    let rects = rects_of whole c.as_slice.result.now in
    let items = subst (λ o. IfSome o (λ part. part.segments.items ≡ filter (λ s. is_near rects (ends_of s)) xs)) c.in-Some-2.is c.in_ok-part.ensures.segments in
    let same : c.as_slice-near.result.now ≡ filter (λ s. is_near rects (ends_of s)) xs = c.as_slice-near.ensures.value ∙ items in
    found_inside rects xs c.as_slice-near.result.now same (layout_in c.args.finder.now) c.requires.inside

pub rename_marks-requires : goal.rename_marks-requires
rename_marks-requires g c =
    let whole = g.I.OverlayInt.whole in
    let xs = c.args.segments.now in
    let rects = rects_of whole c.as_slice.result.now in
    let known0 : BoundChange whole (Some c.in-Some.boxes) (segments_of xs) = subst (λ o. BoundChange whole o (segments_of xs)) c.in-Some.is c.requires.changed in
    let apart : AreApartElsewhere rects (pairs_in xs) = subst (λ l. AreApartElsewhere (rects_of whole l) (pairs_in xs)) (sym c.as_slice.ensures.value) known0.1 in
    let items = subst (λ o. IfSome o (λ part. part.segments.items ≡ filter (λ s. is_near rects (ends_of s)) xs)) c.in-Some-2.is c.in_ok-part.ensures.segments in
    let same : c.as_slice-near.result.now ≡ filter (λ s. is_near rects (ends_of s)) xs = c.as_slice-near.ensures.value ∙ items in
    let listed = subst (λ o. IfSome o (λ part. part.indexes.items ≡ near_from rects 0 (pairs_in xs))) c.in-Some-2.is c.in_ok-part.ensures.indexes in
    let at : c.as_slice-2.result.now ≡ near_from rects 0 (pairs_in xs) = c.as_slice-2.ensures.value ∙ listed in
    found_within rects xs c.as_slice-near.result.now same (placing_of c.args.placing) apart c.find_as_chosen.new.marks.items c.as_slice-2.result.now at c.in_ok-rounded.ensures.marks

pub returns-clause-marks : goal.returns-clause-marks
returns-clause-marks g c =
    let whole = g.I.OverlayInt.whole in
    let xs = c.args.segments.now in
    let rects = rects_of whole c.as_slice.result.now in
    let known0 : BoundChange whole (Some c.in-Some.boxes) (segments_of xs) = subst (λ o. BoundChange whole o (segments_of xs)) c.in-Some.is c.requires.changed in
    let apart : AreApartElsewhere rects (pairs_in xs) = subst (λ l. AreApartElsewhere (rects_of whole l) (pairs_in xs)) (sym c.as_slice.ensures.value) known0.1 in
    let items = subst (λ o. IfSome o (λ part. part.segments.items ≡ filter (λ s. is_near rects (ends_of s)) xs)) c.in-Some-2.is c.in_ok-part.ensures.segments in
    let same : c.as_slice-near.result.now ≡ filter (λ s. is_near rects (ends_of s)) xs = c.as_slice-near.ensures.value ∙ items in
    let listed = subst (λ o. IfSome o (λ part. part.indexes.items ≡ near_from rects 0 (pairs_in xs))) c.in-Some-2.is c.in_ok-part.ensures.indexes in
    let at : c.as_slice-2.result.now ≡ near_from rects 0 (pairs_in xs) = c.as_slice-2.ensures.value ∙ listed in
    subst (λ l. AreMarks (placing_of c.args.placing) (segments_of xs) l) (sym c.rename_marks.ensures)
    (found_marks rects xs c.as_slice-near.result.now same (placing_of c.args.placing) apart (marks_of whole c.find_as_chosen.new.marks.items) c.as_slice-2.result.now at c.in_ok-rounded.ensures.marks)

pub returns-clause-rounded : goal.returns-clause-rounded
returns-clause-rounded g c =
    let whole = g.I.OverlayInt.whole in
    let xs = c.args.segments.now in
    let rects = rects_of whole c.as_slice.result.now in
    let known0 : BoundChange whole (Some c.in-Some.boxes) (segments_of xs) = subst (λ o. BoundChange whole o (segments_of xs)) c.in-Some.is c.requires.changed in
    let apart : AreApartElsewhere rects (pairs_in xs) = subst (λ l. AreApartElsewhere (rects_of whole l) (pairs_in xs)) (sym c.as_slice.ensures.value) known0.1 in
    let items = subst (λ o. IfSome o (λ part. part.segments.items ≡ filter (λ s. is_near rects (ends_of s)) xs)) c.in-Some-2.is c.in_ok-part.ensures.segments in
    let same : c.as_slice-near.result.now ≡ filter (λ s. is_near rects (ends_of s)) xs = c.as_slice-near.ensures.value ∙ items in
    c.in_ok-rounded.ensures.rounded ∙ found_rounded rects xs c.as_slice-near.result.now same (placing_of c.args.placing) apart

pub returns-clause-looked : goal.returns-clause-looked
returns-clause-looked g c =
    let whole = g.I.OverlayInt.whole in
    let xs = c.args.segments.now in
    let rects = rects_of whole c.as_slice.result.now in
    let items = subst (λ o. IfSome o (λ part. part.segments.items ≡ filter (λ s. is_near rects (ends_of s)) xs)) c.in-Some-2.is c.in_ok-part.ensures.segments in
    let same : c.as_slice-near.result.now ≡ filter (λ s. is_near rects (ends_of s)) xs = c.as_slice-near.ensures.value ∙ items in
    let grid = layout_in c.args.finder.now in
    let strategy = (solver_in c.args.finder.now).strategy in
    let asked : c.is_list_split-is_list.result ≡ list_splits strategy (length (pairs_in xs)) = c.is_list_split-is_list.ensures ∙ ap (λ (s : Solver). list_splits s.strategy (length xs)) c.solver-solver.ensures ∙ ap (list_splits strategy) (sym (length-pairs xs)) in
    let other : strategy ≡ ByList → ⊥ = λ h. both_ways false refl (subst (λ s. false ≡ sameb the_type s ByList) (ap (λ (s : Solver). s.strategy) c.solver-solver.ensures ∙ h) c.if-eq.ensures) in
    ArePassLooks-fewer strategy grid (pairs_in xs) (pairs_in c.as_slice-near.result.now) (looks_in c.args.finder.now) (looks_in c.find_as_chosen.new.self) c.is_list_split-is_list.result asked other (found_listed rects xs c.as_slice-near.result.now same) (found_looks rects xs c.as_slice-near.result.now same grid) c.in_ok-rounded.ensures.listed c.in_ok-rounded.ensures.wide
