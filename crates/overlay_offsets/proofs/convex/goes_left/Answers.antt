use Rattle.std.proofs.Common.{◌≡◌, sym, ap, ◌∙◌, ◌&&◌, not, Bool, true, false, cond, arith}
use Rattle.std.specs.Prelude.{ℤ, pos, int_le, int_lt}
use Rattle.std.specs.Ordering.{int_eq}
use Rattle.std.proofs.lemmas.Int.{ints}
use Rattle.overlay_geometry.specs.PointOf.{point_of}
use Rattle.overlay_geometry.specs.Points.{point_eq, turn}
use Rattle.overlay_intersections.proofs.laws.marks.Comparisons.{same_points}
use Rattle.overlay_offsets.proofs.convex.goes_left.Goals as goal

not_right : (z : ℤ) (b : Bool) → b ≡ int_lt z (pos 0) → not b ≡ int_le (pos 0) z
not_right z b e = grind (arith, ints)

pub returns-else-eq : goal.returns-else-eq
returns-else-eq g c =
    let whole = g.I.OverlayInt.whole in
    let same = same_points g.I.PartialEq.eq g.I.Ord.cmp whole g.met.I.Ord.matches_eq g.met.I.OverlayInt.ordered in
    let edge = c.args.edge.now in
    let other = c.args.other.now in
    let apart : point_eq (point_of whole other.a) (point_of whole edge.b) ≡ false = sym (same other.a edge.b) ∙ (sym c.eq.ensures ∙ c.if-eq.false) in
    let z = turn (point_of whole edge.a) (point_of whole edge.b) (point_of whole other.b) in
    sym (ap (λ (b : Bool). cond b (int_lt (pos 0) z) (int_le (pos 0) z)) apart ∙ sym (not_right z c.is_clockwise-right.result c.is_clockwise-right.ensures))
