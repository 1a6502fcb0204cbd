use Rattle.std.proofs.Common.{◌≡◌, ◌∙◌, ◌||◌, ◌&&◌, not, refl, arith, Bool}
use Rattle.std.specs.Prelude.{ℤ, int_lt}
use Rattle.std.specs.Ordering.{int_eq}
use Rattle.std.proofs.lemmas.Int.{ints}
use Rattle.std.proofs.Math.Bool.{beq}
use Rattle.overlay_geometry.specs.Points.{is_between}
use Rattle.overlay_geometry.proofs.laws.geometry.Comparisons.{whole_eq, int_lt-by_cmp}
use Rattle.overlay_intersections.specs.steps.CornerOf.{is_strictly_between}
use Rattle.overlay_intersections.proofs.split.cross.corner.relation_of.Goals as goal

between_by_tests : (u v z : ℤ) → (not (beq (int_lt u z) (int_lt v z)) || (int_eq u z || int_eq v z)) ≡ is_between u v z
between_by_tests u v z = grind (arith, ints)

inside_by_tests : (u v z : ℤ) → (not (beq (int_lt u z) (int_lt v z)) && not (int_eq u z || int_eq v z)) ≡ is_strictly_between u v z
inside_by_tests u v z = grind (arith, ints)

-- the four comparisons are those of the whole coordinates
compared : (g : _) (c : goal.After-lt-2 g) (f : Bool → Bool → Bool → Bool → Bool) →
    f c.lt.result c.lt-2.result c.eq.result c.eq-2.result
    ≡ f (int_lt (g.I.OverlayInt.whole c.args.one) (g.I.OverlayInt.whole c.args.coordinate)) (int_lt (g.I.OverlayInt.whole c.args.other) (g.I.OverlayInt.whole c.args.coordinate))
    (int_eq (g.I.OverlayInt.whole c.args.one) (g.I.OverlayInt.whole c.args.coordinate)) (int_eq (g.I.OverlayInt.whole c.args.other) (g.I.OverlayInt.whole c.args.coordinate))
compared g c f =
    let whole = g.I.OverlayInt.whole in
    let same = whole_eq g.I.PartialEq.eq g.I.Ord.cmp whole g.met.I.Ord.matches_eq g.met.I.OverlayInt.ordered in
    let one : c.lt.result ≡ int_lt (whole c.args.one) (whole c.args.coordinate) = simp (g.met.I.Ord.matches_partial_cmp, g.met.I.OverlayInt.ordered, int_lt-by_cmp) at c.lt.ensures in
    let two : c.lt-2.result ≡ int_lt (whole c.args.other) (whole c.args.coordinate) = simp (g.met.I.Ord.matches_partial_cmp, g.met.I.OverlayInt.ordered, int_lt-by_cmp) at c.lt-2.ensures in
    let three : c.eq.result ≡ int_eq (whole c.args.one) (whole c.args.coordinate) = simp same at c.eq.ensures in
    let four : c.eq-2.result ≡ int_eq (whole c.args.other) (whole c.args.coordinate) = simp same at c.eq-2.ensures in
    rw (one, two, three, four) refl

pub returns-clause-inside : goal.returns-clause-inside
returns-clause-inside g c = compared g c (λ p q r s. not (beq p q) && not (r || s)) ∙ inside_by_tests (g.I.OverlayInt.whole c.args.one) (g.I.OverlayInt.whole c.args.other) (g.I.OverlayInt.whole c.args.coordinate)

pub returns-clause-between : goal.returns-clause-between
returns-clause-between g c = compared g c (λ p q r s. not (beq p q) || (r || s)) ∙ between_by_tests (g.I.OverlayInt.whole c.args.one) (g.I.OverlayInt.whole c.args.other) (g.I.OverlayInt.whole c.args.coordinate)
