use Rattle.std.proofs.Common.{◌≡◌, ◌∙◌, ◌∷◌, true, false, sym, ap, subst, map, refl}
use Rattle.std.specs.List.{list_any}
use Rattle.std.proofs.lemmas.Bool.{both_ways}
use Rattle.std.proofs.lemmas.List.{nil_from_length}
use Rattle.overlay_geometry.specs.Points.{point_cmp, point_eq}
use Rattle.overlay_geometry.specs.PointOf.{point_of}
use Rattle.overlay_geometry.proofs.laws.geometry.Points.{point_cmp_total}
use Rattle.overlay_geometry.proofs.laws.lists.Keys.{IsInOrder, IsInOrder-from_sort}
use Rattle.overlay_build.proofs.laws.walks.ContourLoops.{has_repeat-found, has_repeat-rest, has_repeat-none, one_after_neighbor, none_after_neighbor, none_without_neighbor}
use Rattle.overlay_build.proofs.build.util.has_equal_neighbors.Goals as goal
use Rattle.overlay_build.proofs.build.util.has_equal_neighbors.Goals.{in-None, in-Some-split_first}

pub loop-first-init : goal.loop-first-init
loop-first-init g c = record {
  repeat = refl;
  in_order = IsInOrder-from_sort point_cmp_total (point_of g.I.OverlayInt.whole) c.args.points.now c.requires;
}

pub returns-then-is_repeated : goal.returns-then-is_repeated
returns-then-is_repeated g c =
    let at = point_of g.I.OverlayInt.whole in
    let first = at c.in-Some.first.now in
    let later = map at c.in-Some.later.now in
    let found : list_any (λ p. point_eq first p) later ≡ true = elim c.match-split_first-2.branch [
      | in-None w ↦ absurd (both_ways _ w.is_repeated-is c.if-is_repeated.true)
      | in-Some-split_first w ↦ one_after_neighbor point_cmp_total first (at w.in-Some-split_first.next.now) _ later (ap (map at) w.in-Some-split_first.ensures.cases.0) (sym w.is_same-is_repeated.ensures ∙ sym w.is_repeated-is ∙ c.if-is_repeated.true)
    ] in
    has_repeat-found point_eq (map at c.args.points.now) first later (map at c.loop-first.rest.now) c.loop-first.invariant.repeat (ap (map at) c.in-Some.ensures.cases.0) found

pub loop-first-preserved : goal.loop-first-preserved
loop-first-preserved g c =
    let at = point_of g.I.OverlayInt.whole in
    let first = at c.in-Some.first.now in
    let later = map at c.in-Some.later.now in
    let is = ap (map at) c.in-Some.ensures.cases.0 in
    let order : IsInOrder point_cmp (first ∷ later) = subst (IsInOrder point_cmp) is c.loop-first.invariant.in_order in
    let none : list_any (λ p. point_eq first p) later ≡ false = elim c.match-split_first-2.branch [
      | in-None w ↦ none_without_neighbor point_cmp_total first later (ap (map at) (nil_from_length c.in-Some.later.now w.in-None.ensures.cases))
      | in-Some-split_first w ↦ none_after_neighbor point_cmp_total first (at w.in-Some-split_first.next.now) _ later order (ap (map at) w.in-Some-split_first.ensures.cases.0) (sym w.is_same-is_repeated.ensures ∙ sym w.is_repeated-is ∙ c.if-is_repeated.false)
    ] in
    record {
      repeat = has_repeat-rest point_eq (map at c.args.points.now) first later (map at c.loop-first.rest.now) c.loop-first.invariant.repeat is none;
      in_order = order.1;
    }

pub returns : goal.returns
returns g c =
    let at = point_of g.I.OverlayInt.whole in
    has_repeat-none point_eq (map at c.args.points.now) (map at c.loop-first.rest.now) c.loop-first.invariant.repeat (ap (map at) (nil_from_length c.loop-first.rest.now c.in_default.ensures.cases))
