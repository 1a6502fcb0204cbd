-- What is live in a scan tree is ordered from below: which of it is below a point, and where a new segment goes.
use Rattle.std.proofs.Common.{inl, inr}
use Rattle.std.specs.Prelude.{ℕ, zero, suc, ℤ, List, [], ◌∷◌, ◌++◌}
use Rattle.overlay_base.specs.Segments.{WholeSegment}
use Rattle.overlay_geometry.proofs.laws.lists.Lists as lists
use Rattle.overlay_sweep.specs.LiveRows.{IsFromBelow}
use Rattle.overlay_sweep.proofs.laws.list.Members.{Has-left, Has-right, Has-parts}

-- ---- the order of a list, apart

pub from_below_without : (x : ℤ) (segments : List WholeSegment) (xs ys : List ℕ) (b : ℕ) → IsFromBelow x segments (xs ++ b ∷ ys) → IsFromBelow x segments (xs ++ ys)
from_below_without x segments [] ys b f = f.1
from_below_without x segments (z ∷ xs) ys b f = (λ j m. f.0 j (elim (Has-parts xs ys j m) [ inl n ↦ Has-left xs (b ∷ ys) j n | inr n ↦ Has-right xs (b ∷ ys) j (inr n) ]), from_below_without x segments xs ys b f.1)
