use Rattle.std.proofs.Common.{◌≡◌, refl, sym, rules}
use Rattle.std.specs.Prelude.{int_lt}
use Rattle.overlay_geometry.proofs.laws.geometry.Comparisons.{int_lt-by_cmp}
use Rattle.overlay_geometry.proofs.geom.x_segment.XSegment.is_below.Goals as goal

pub lt-requires : goal.lt-requires
lt-requires g c κs = search rules

pub lt-requires-then-lt : goal.lt-requires-then-lt
lt-requires-then-lt g c κs = search rules

pub returns-then-lt : goal.returns-then-lt
returns-then-lt g c =
    let first : int_lt (g.I.OverlayInt.whole c.args.self.now.a.y) (g.I.OverlayInt.whole c.args.y) ≡ c.lt.result = sym (simp (g.met.I.Ord.matches_partial_cmp, g.met.I.OverlayInt.ordered, int_lt-by_cmp) at c.lt.ensures) in
    let second : int_lt (g.I.OverlayInt.whole c.args.self.now.b.y) (g.I.OverlayInt.whole c.args.y) ≡ c.lt-then-lt.result = sym (simp (g.met.I.Ord.matches_partial_cmp, g.met.I.OverlayInt.ordered, int_lt-by_cmp) at c.lt-then-lt.ensures) in
    rw (first, second, c.if-lt.true) refl

pub returns-else-lt : goal.returns-else-lt
returns-else-lt g c =
    let first : int_lt (g.I.OverlayInt.whole c.args.self.now.a.y) (g.I.OverlayInt.whole c.args.y) ≡ c.lt.result = sym (simp (g.met.I.Ord.matches_partial_cmp, g.met.I.OverlayInt.ordered, int_lt-by_cmp) at c.lt.ensures) in
    rw (first, c.if-lt.false) refl
