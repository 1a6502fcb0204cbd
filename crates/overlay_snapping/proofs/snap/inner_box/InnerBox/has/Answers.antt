use Rattle.std.proofs.Common.{◌≡◌, ◌∙◌, ap₂, subst, refl, rules, bit_or}
use Rattle.std.specs.Prelude.{int_lt}
use Rattle.std.specs.Int.{w64}
use Rattle.std.specs.Int.RustNames.{FitsSigned}
use Rattle.std.proofs.lemmas.Int.{to_z-of_z}
use Rattle.overlay_geometry.specs.PointOf.{point_of}
use Rattle.overlay_snapping.specs.steps.Distances.{IsSmall, turned, distance, are_inside}
use Rattle.overlay_snapping.proofs.laws.cells.Inner.{small_coordinates, inner_by_distances}
use Rattle.overlay_snapping.proofs.snap.inner_box.InnerBox.has.Goals as goal

pub distance-requires-3-clause-from : goal.distance-requires-3-clause-from
distance-requires-3-clause-from g c =
    let whole = g.I.OverlayInt.whole in
    let f : FitsSigned w64 c.to_wide-x.result = search rules in
    let small = small_coordinates (whole g.I.OverlayInt.MIN_COORD) (whole g.I.OverlayInt.MAX_COORD) g.met.I.OverlayInt.lowest g.met.I.OverlayInt.highest (point_of whole c.args.point) c.requires.point in
    rw (to_z-of_z w64 c.to_wide-x.result f, c.to_wide-x.ensures) small.0

pub returns : goal.returns
returns g c = λ s i.
    let whole = g.I.OverlayInt.whole in
    let box = c.args.self.now in
    let p = point_of whole c.args.point in
    let falls = int_lt s.b.y s.a.y in
    let left : FitsSigned w64 box.left = search rules in
    let right : FitsSigned w64 box.right = search rules in
    let start : FitsSigned w64 box.start = search rules in
    let end : FitsSigned w64 box.end = search rules in
    let x : FitsSigned w64 c.to_wide-x.result = search rules in
    let y : FitsSigned w64 c.to_wide.result = search rules in
    let height : FitsSigned w64 c.turned-y.result = search rules in
    let small = small_coordinates (whole g.I.OverlayInt.MIN_COORD) (whole g.I.OverlayInt.MAX_COORD) g.met.I.OverlayInt.lowest g.met.I.OverlayInt.highest p c.requires.point in
    let is_x = to_z-of_z w64 c.to_wide-x.result x ∙ c.to_wide-x.ensures in
    let is_turned : c.turned-y.result ≡ turned falls p.y = c.turned-y.ensures.turned ∙ ap₂ turned i.falls (to_z-of_z w64 c.to_wide.result y ∙ c.to_wide.ensures) in
    let is_y = to_z-of_z w64 c.turned-y.result height ∙ is_turned in
    let is_left = to_z-of_z w64 box.left left ∙ i.left in
    let is_right = to_z-of_z w64 box.right right ∙ i.right in
    let is_start = to_z-of_z w64 box.start start ∙ i.start in
    let is_end = to_z-of_z w64 box.end end ∙ i.end in
    c.are_inside.ensures
    ∙ ap₂ are_inside (ap₂ bit_or (c.distance.ensures ∙ ap₂ distance is_left is_x) (c.distance-2.ensures ∙ ap₂ distance is_start is_y)) (ap₂ bit_or (c.distance-3.ensures ∙ ap₂ distance is_x is_right) (c.distance-4.ensures ∙ ap₂ distance is_y is_end))
    ∙ inner_by_distances s p falls i.ordered refl (subst IsSmall i.left box.small.0) (subst IsSmall i.right box.small.1) (subst IsSmall i.start box.small.2) (subst IsSmall i.end box.small.3) small.0 (subst IsSmall is_turned c.turned-y.ensures.small)
