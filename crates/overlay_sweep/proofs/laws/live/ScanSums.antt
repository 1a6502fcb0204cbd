-- The live sums without those that have ended.
use Rattle.std.proofs.Common.{◌≡◌, arith}
use Rattle.std.specs.Prelude.{ℤ, int_le, int_lt, Bool, true, List, filter}
use Rattle.std.proofs.lemmas.Int.{ints}
use Rattle.std.proofs.lemmas.Bool.{and_parts}
use Rattle.overlay_base.specs.Segments.{WholeSegment}
use Rattle.overlay_sweep.specs.Live.{HoldSameFrom}
use Rattle.overlay_geometry.proofs.laws.lists.Lists.{Has-filter, Has-filter_out}
use Rattle.overlay_geometry.proofs.laws.integers.Tests.{lt-test, lt-tested}
use Rattle.overlay_geometry.proofs.laws.lists.Elements.{Contains-from_Has, Has-from_Contains}

abbrev pub lasting : ℤ → WholeSegment → Bool
lasting x s = int_lt x s.pair.b.x

pub HoldSameFrom-lasting : (x : ℤ) (ks : List WholeSegment) → HoldSameFrom x (filter (λ t. lasting x t) ks) ks
HoldSameFrom-lasting x ks s y h l = (
  λ m. Contains-from_Has ks s (Has-filter_out (λ t. lasting x t) ks s (Has-from_Contains (filter (λ t. lasting x t) ks) s m)).0,
  λ m. Contains-from_Has (filter (λ t. lasting x t) ks) s (Has-filter (λ t. lasting x t) ks s (Has-from_Contains ks s m) (ends_later (and_parts (int_le s.pair.a.x y) _ l).1)),
)
  where
    ends_later : int_lt y s.pair.b.x ≡ true → int_lt x s.pair.b.x ≡ true
    ends_later k = let q = lt-tested y s.pair.b.x k in lt-test x s.pair.b.x (omega (arith, ints))
