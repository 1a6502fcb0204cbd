use Rattle.std.proofs.Common.{◌≡◌, sym, ap₂, ◌∙◌, true, false, arith}
use Rattle.std.specs.Prelude.{ℤ, int_lt}
use Rattle.std.specs.Int.{int_min, int_max}
use Rattle.std.proofs.lemmas.Int.{ints}
use Rattle.overlay_geometry.specs.Ranges.{WholeRange}
use Rattle.overlay_geometry.proofs.laws.geometry.Comparisons.{int_lt-by_cmp}
use Rattle.overlay_geometry.proofs.geom.x_segment.XSegment.y_range.Goals as goal
use Rattle.overlay_geometry.proofs.geom.x_segment.XSegment.y_range.Goals.{then-lt, else-lt}

range : ℤ → ℤ → WholeRange
range least greatest = record { least = least; greatest = greatest }

rising : (a b : ℤ) → int_lt a b ≡ true → range a b ≡ range (int_min a b) (int_max a b)
rising a b less =
    let least : a ≡ int_min a b = grind (arith, ints) in
    let greatest : b ≡ int_max a b = grind (arith, ints) in
    ap₂ range least greatest

falling : (a b : ℤ) → int_lt a b ≡ false → range b a ≡ range (int_min a b) (int_max a b)
falling a b not_less =
    let least : b ≡ int_min a b = grind (arith, ints) in
    let greatest : a ≡ int_max a b = grind (arith, ints) in
    ap₂ range least greatest

pub lt-requires : goal.lt-requires
lt-requires g c κs kept = kept

pub returns : goal.returns
unfolding range
returns g c =
    let a = g.I.OverlayInt.whole c.args.self.now.a.y in
    let b = g.I.OverlayInt.whole c.args.self.now.b.y in
    let less : int_lt a b ≡ c.lt.result = sym (simp (g.met.I.Ord.matches_partial_cmp, g.met.I.OverlayInt.ordered, int_lt-by_cmp) at c.lt.ensures) in
    elim c.if-lt.branch [
      | then-lt w ↦ rw w.min-is (rising a b (less ∙ w.if-lt.true))
      | else-lt w ↦ rw w.min-is (falling a b (less ∙ w.if-lt.false))
    ]
