-- Sums over lists in a commutative monoid, and the linear sums over the segments of a bag.
use Rattle.std.specs.Prelude.{◌≡◌, ℤ, pos, ◌+ℤ◌, ◌*ℤ◌, List, [], ◌∷◌}
use Rattle.overlay_geometry.specs.Points.{Pair}
use Rattle.overlay_base.specs.Windings.{Winding, add, empty}
use Rattle.overlay_base.specs.Segments.{WholeSegment}

-- a sum that is commutative and associative, with a unit
pub record IsCommutativeMonoid {M : Type 0} (op : M → M → M) (unit : M) : Type 0 where
  pub comm : (a b : M) → op a b ≡ op b a
  pub assoc : (a b c : M) → op (op a b) c ≡ op a (op b c)
  pub unit_left : (a : M) → op unit a ≡ a

-- f of each element, added up
abbrev pub gathered : {X M : Type 0} → (M → M → M) → M → (X → M) → List X → M
gathered op unit f [] = unit
gathered op unit f (x ∷ xs) = op (f x) (gathered op unit f xs)

-- a number of a count that adds up where counts do
pub record IsLinear (part : Winding → ℤ) : Type 0 where
  pub at_empty : part empty ≡ pos 0
  pub at_sum : (c d : Winding) → part (add c d) ≡ part c +ℤ part d

-- a number for each pair, times a number of the count there, added up
abbrev pub weighed : (Pair → ℤ) → (Winding → ℤ) → List WholeSegment → ℤ
weighed g part segments = gathered ◌+ℤ◌ (pos 0) (λ s. g s.pair *ℤ part s.count) segments
