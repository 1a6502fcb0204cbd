-- A sum of whole numbers is odd where an odd number of them is; what a truth function gains is odd where it changes.
use Rattle.std.proofs.Common.{◌≡◌, ap, refl, arith}
use Rattle.std.specs.Prelude.{ℤ, pos, negsuc, ◌+ℤ◌, ◌-ℤ◌, Bool, true, false, cond, ◌&&◌, List, [], ◌∷◌, filter}
use Rattle.std.proofs.lemmas.Int.{ints}
use Rattle.overlay_base.specs.Windings.{Winding}
use Rattle.overlay_base.specs.Segments.{WholeSegment}
use Rattle.overlay_base.specs.Rules.{differ}
use Rattle.overlay_sweep.specs.ColumnWindings.{side_bottom, side_top}
use Rattle.overlay_build.specs.Boundary.{truth}
use Rattle.overlay_sweep.proofs.laws.columns.WeightSums.{when, sum_of}
use Rattle.overlay_sweep.proofs.laws.columns.Parity.{odd_of}

-- z is odd where b says so, else even
abbrev pub HasParity : ℤ → Bool → Type 0
HasParity z b = (k : ℤ) × (z ≡ (k +ℤ k) +ℤ truth b)

pub same_parity : (z : ℤ) (a b : Bool) → HasParity z a → HasParity z b → a ≡ b
same_parity z true true p q = refl
same_parity z true false p q = absurd (apart z p.0 q.0 p.1 q.1)
  where
    apart : (z k l : ℤ) → z ≡ (k +ℤ k) +ℤ pos 1 → z ≡ (l +ℤ l) +ℤ pos 0 → ⊥
    apart z k l e f = omega (arith, ints, e, f)
same_parity z false true p q = absurd (apart z p.0 q.0 p.1 q.1)
  where
    apart : (z k l : ℤ) → z ≡ (k +ℤ k) +ℤ pos 0 → z ≡ (l +ℤ l) +ℤ pos 1 → ⊥
    apart z k l e f = omega (arith, ints, e, f)
same_parity z false false p q = refl

two_parities : (y z : ℤ) (a b : Bool) → HasParity y a → HasParity z b → HasParity (y +ℤ z) (differ a b)
two_parities y z true true p q = ((p.0 +ℤ q.0) +ℤ pos 1, plain y z p.0 q.0 p.1 q.1)
  where
    plain : (y z k l : ℤ) → y ≡ (k +ℤ k) +ℤ pos 1 → z ≡ (l +ℤ l) +ℤ pos 1 → y +ℤ z ≡ (((k +ℤ l) +ℤ pos 1) +ℤ ((k +ℤ l) +ℤ pos 1)) +ℤ pos 0
    plain y z k l e f = omega (arith, ints, e, f)
two_parities y z true false p q = (p.0 +ℤ q.0, plain y z p.0 q.0 p.1 q.1)
  where
    plain : (y z k l : ℤ) → y ≡ (k +ℤ k) +ℤ pos 1 → z ≡ (l +ℤ l) +ℤ pos 0 → y +ℤ z ≡ ((k +ℤ l) +ℤ (k +ℤ l)) +ℤ pos 1
    plain y z k l e f = omega (arith, ints, e, f)
two_parities y z false true p q = (p.0 +ℤ q.0, plain y z p.0 q.0 p.1 q.1)
  where
    plain : (y z k l : ℤ) → y ≡ (k +ℤ k) +ℤ pos 0 → z ≡ (l +ℤ l) +ℤ pos 1 → y +ℤ z ≡ ((k +ℤ l) +ℤ (k +ℤ l)) +ℤ pos 1
    plain y z k l e f = omega (arith, ints, e, f)
two_parities y z false false p q = (p.0 +ℤ q.0, plain y z p.0 q.0 p.1 q.1)
  where
    plain : (y z k l : ℤ) → y ≡ (k +ℤ k) +ℤ pos 0 → z ≡ (l +ℤ l) +ℤ pos 0 → y +ℤ z ≡ ((k +ℤ l) +ℤ (k +ℤ l)) +ℤ pos 0
    plain y z k l e f = omega (arith, ints, e, f)

pub parity_of_sum : {X : Type 0} (g : X → ℤ) (t : X → Bool) (xs : List X) → ((x : X) → HasParity (g x) (t x)) → HasParity (sum_of g xs) (odd_of t xs)
parity_of_sum g t [] h = (pos 0, refl)
parity_of_sum g t (x ∷ xs) h = two_parities (g x) (sum_of g xs) (t x) (odd_of t xs) (h x) (parity_of_sum g t xs h)

pub odd_of-filter : {X : Type 0} (test k : X → Bool) (xs : List X) → odd_of k (filter test xs) ≡ odd_of (λ x. test x && k x) xs
odd_of-filter test k [] = refl
odd_of-filter test k (x ∷ xs) = elim (test x) as (λ b. odd_of k (cond b (x ∷ filter test xs) (filter test xs)) ≡ differ (b && k x) (odd_of (λ y. test y && k y) xs)) [ true ↦ ap (differ (k x)) (odd_of-filter test k xs) | false ↦ odd_of-filter test k xs ]

pub parity_of_gain : (a b : Bool) → HasParity (truth b -ℤ truth a) (differ a b)
parity_of_gain true true = (pos 0, refl)
parity_of_gain true false = (negsuc 0, refl)
parity_of_gain false true = (pos 0, refl)
parity_of_gain false false = (pos 0, refl)

pub parity_where : (test b : Bool) (z : ℤ) → HasParity z b → HasParity (when test z) (b && test)
parity_where true true z h = h
parity_where true false z h = h
parity_where false true z h = (pos 0, refl)
parity_where false false z h = (pos 0, refl)

-- whether F separates two windings
abbrev pub tells : (ℤ → ℤ → Bool) → Winding → Winding → Bool
tells F b t = differ (F b.subj b.clip) (F t.subj t.clip)

-- whether it separates the two sides of a segment
abbrev pub tells_sides_of : (ℤ → ℤ → Bool) → List WholeSegment → WholeSegment → Bool
tells_sides_of F xs s = tells F (side_bottom xs s) (side_top xs s)
