use Rattle.std.proofs.Common.{◌≡◌, refl, sym, rules, arith, is_le}
use Rattle.std.specs.Prelude.{ℤ, int_le}
use Rattle.std.specs.Ordering.{int_cmp}
use Rattle.std.proofs.lemmas.Int.{ints}
use Rattle.overlay_geometry.proofs.geom.rect.do_meet.Goals as goal

int_le-by_cmp : (a b : ℤ) → is_le (int_cmp a b) ≡ int_le a b
int_le-by_cmp a b = grind (arith, ints)

pub le-requires : goal.le-requires
le-requires g c κs = search rules

pub le-requires-then-le : goal.le-requires-then-le
le-requires-then-le g c κs = search rules

pub returns-then-le : goal.returns-then-le
returns-then-le g c =
    let first : int_le (g.I.OverlayInt.whole c.args.min) (g.I.OverlayInt.whole c.args.other_max) ≡ c.le.result = sym (simp (g.met.I.Ord.matches_partial_cmp, g.met.I.OverlayInt.ordered, int_le-by_cmp) at c.le.ensures) in
    let second : int_le (g.I.OverlayInt.whole c.args.other_min) (g.I.OverlayInt.whole c.args.max) ≡ c.le-then-le.result = sym (simp (g.met.I.Ord.matches_partial_cmp, g.met.I.OverlayInt.ordered, int_le-by_cmp) at c.le-then-le.ensures) in
    rw (first, second, c.if-le.true) refl

pub returns-else-le : goal.returns-else-le
returns-else-le g c =
    let first : int_le (g.I.OverlayInt.whole c.args.min) (g.I.OverlayInt.whole c.args.other_max) ≡ c.le.result = sym (simp (g.met.I.Ord.matches_partial_cmp, g.met.I.OverlayInt.ordered, int_le-by_cmp) at c.le.ensures) in
    rw (first, c.if-le.false) refl
