-- A path that is refined by a line: no step of it leads from one side of that line to the other, nor of another line where none did.
use Rattle.std.proofs.Common.{◌≡◌, ◌⊎◌, inl, inr, refl, Bool, true, false, ◌&&◌, ◌||◌, if◌then◌else◌, arith, List, [], ◌∷◌}
use Rattle.std.specs.Prelude.{ℤ, ◌≤ℤ◌, ◌<ℤ◌, int_lt}
use Rattle.std.specs.List.{AllByRecursion}
use Rattle.std.proofs.lemmas.Int.{ints, by_lt_z}
use Rattle.overlay_geometry.proofs.laws.lists.Lists.{Steps}
use Rattle.overlay_geometry.specs.Points.{Point, Pair}
use Rattle.overlay_geometry.proofs.laws.integers.Tests.{lt-test, lt-test_false, le_weak}
use Rattle.overlay_tiles.specs.Tiles.{Line, upright, level, is_amid, parts, cut, refined}

-- ---- on one side of a line, the line included

abbrev pub AreUpTo : ℤ → ℤ → ℤ → Type 0
AreUpTo z u v = ((u ≤ℤ z) × (v ≤ℤ z)) ⊎ ((z ≤ℤ u) × (z ≤ℤ v))

abbrev pub IsOneSided : Line → Point → Point → Type 0
IsOneSided (upright x) u v = AreUpTo x u.x v.x
IsOneSided (level y) u v = AreUpTo y u.y v.y

-- ---- a test of what lies strictly between

amid_up : (u v z : ℤ) → u <ℤ z → z <ℤ v → is_amid u v z ≡ true
amid_up u v z h k = rw (lt-test u z h, lt-test z v k) refl

amid_down : (u v z : ℤ) → v <ℤ z → z <ℤ u → is_amid u v z ≡ true
amid_down u v z h k = rw (lt-test v z h, lt-test z u k, lt-test_false u z (le_weak z u k)) refl

-- either way
abbrev pub IsAmid : ℤ → ℤ → ℤ → Type 0
IsAmid u v z = ((u <ℤ z) × (z <ℤ v)) ⊎ ((v <ℤ z) × (z <ℤ u))

unequal : (b : Bool) → b ≡ true → b ≡ false → ⊥
unequal b h k = cc

pub amid-tested : (u v z : ℤ) → is_amid u v z ≡ true → IsAmid u v z
amid-tested u v z e =
    by_lt_z u z
    (λ (up : u <ℤ z). by_lt_z z v (λ (on : z <ℤ v). inl (up, on)) (λ (off : v ≤ℤ z). absurd (unequal (is_amid u v z) e (rw (lt-test_false z v off, lt-test_false z u (le_weak u z up)) (none (int_lt u z) (int_lt v z))))))
    (λ (down : z ≤ℤ u). by_lt_z v z
    (λ (under : v <ℤ z). by_lt_z z u (λ (on : z <ℤ u). inr (under, on)) (λ (off : u ≤ℤ z). absurd (unequal (is_amid u v z) e (rw (lt-test_false u z down, lt-test_false z u off) (also (int_lt z v) (int_lt v z))))))
    (λ (off : z ≤ℤ v). absurd (unequal (is_amid u v z) e (rw (lt-test_false u z down, lt-test_false v z off) refl))))
  where
    none : (a b : Bool) → ((a && false) || (b && false)) ≡ false
    none true true = refl
    none true false = refl
    none false true = refl
    none false false = refl

    also : (a b : Bool) → ((false && a) || (b && false)) ≡ false
    also a true = refl
    also a false = refl

one_sided : (u v z : ℤ) → is_amid u v z ≡ false → AreUpTo z u v
one_sided u v z e =
    by_lt_z u z
    (λ (up : u <ℤ z). by_lt_z z v (λ (on : z <ℤ v). absurd (unequal (is_amid u v z) (amid_up u v z up on) e)) (λ (off : v ≤ℤ z). inl (le_weak u z up, off)))
    (λ (down : z ≤ℤ u). by_lt_z v z
    (λ (under : v <ℤ z). by_lt_z z u (λ (on : z <ℤ u). absurd (unequal (is_amid u v z) (amid_down u v z under on) e)) (λ (off : u ≤ℤ z). inl (off, le_weak v z under)))
    (λ (off : z ≤ℤ v). inr (down, off)))

not_parted : (line : Line) (u v : Point) → parts line u v ≡ false → IsOneSided line u v
unfolding parts
not_parted (upright x) u v e = one_sided u.x v.x x e
not_parted (level y) u v e = one_sided u.y v.y y e

-- ---- the cut lies on the line

to_line : (u z : ℤ) → AreUpTo z u z × AreUpTo z z u
to_line u z = by_lt_z u z (λ (l : u <ℤ z). let h : u ≤ℤ z = omega (arith, ints, l) in let k : z ≤ℤ z = omega (arith, ints) in (inl (h, k), inl (k, h))) (λ (h : z ≤ℤ u). let k : z ≤ℤ z = omega (arith, ints) in (inr (h, k), inr (k, h)))

to_cut : (s : Pair) (line : Line) (u : Point) → IsOneSided line u (cut s line) × IsOneSided line (cut s line) u
unfolding cut
to_cut s (upright x) u = to_line u.x x
to_cut s (level y) u = to_line u.y y

-- so no step of the refined path leads across the line
step_one_sided : (s : Pair) (line : Line) (u v : Point) (rest : List Point) → Steps (IsOneSided line) v rest → (b : Bool) → parts line u v ≡ b → Steps (IsOneSided line) u (if b then cut s line ∷ v ∷ rest else v ∷ rest)
step_one_sided s line u v rest along true e = ((to_cut s line u).0, ((to_cut s line v).1, along))
step_one_sided s line u v rest along false e = (not_parted line u v e, along)

pub refined_one_sided : (s : Pair) (line : Line) (u : Point) (points : List Point) → Steps (IsOneSided line) u (refined s line u points)
unfolding refined
refined_one_sided s line u [] = tt
refined_one_sided s line u (v ∷ points) = step_one_sided s line u v (refined s line v points) (refined_one_sided s line v points) (parts line u v) refl

-- ---- what is kept

-- c lies in the box of u and v
abbrev pub IsAmong : ℤ → ℤ → ℤ → Type 0
IsAmong u v c = ((u ≤ℤ c) × (c ≤ℤ v)) ⊎ ((v ≤ℤ c) × (c ≤ℤ u))

pub record IsInBoxOf (u v c : Point) : Type 0 where
  pub in_x : IsAmong u.x v.x c.x
  pub in_y : IsAmong u.y v.y c.y

stays : (u v c z : ℤ) → IsAmong u v c → AreUpTo z u v → AreUpTo z u c × AreUpTo z c v
stays u v c z (inl h) (inl k) = let l : c ≤ℤ z = omega (arith, ints, h.1, k.1) in (inl (k.0, l), inl (l, k.1))
stays u v c z (inr h) (inl k) = let l : c ≤ℤ z = omega (arith, ints, h.1, k.0) in (inl (k.0, l), inl (l, k.1))
stays u v c z (inl h) (inr k) = let l : z ≤ℤ c = omega (arith, ints, h.0, k.0) in (inr (k.0, l), inr (l, k.1))
stays u v c z (inr h) (inr k) = let l : z ≤ℤ c = omega (arith, ints, h.0, k.1) in (inr (k.0, l), inr (l, k.1))

one_sided_at : (line : Line) (u v c : Point) → IsInBoxOf u v c → IsOneSided line u v → IsOneSided line u c × IsOneSided line c v
one_sided_at (upright x) u v c box h = stays u.x v.x c.x x box.in_x h
one_sided_at (level y) u v c box h = stays u.y v.y c.y y box.in_y h

module _ (s : Pair) (line : Line) (Q : Point → Type 0) (cut_in_box : (u v : Point) → Q u → Q v → parts line u v ≡ true → Q (cut s line) × IsInBoxOf u v (cut s line)) where
  step_all : (u v : Point) (rest : List Point) → Q u → Q v → AllByRecursion Q rest → (b : Bool) → parts line u v ≡ b → AllByRecursion Q (if b then cut s line ∷ v ∷ rest else v ∷ rest)
  step_all u v rest at next all true e = ((cut_in_box u v at next e).0, (next, all))
  step_all u v rest at next all false e = (next, all)

  -- what holds of all points of the path, and of cuts
  pub refined_all : (u : Point) (points : List Point) → Q u → AllByRecursion Q points → AllByRecursion Q (refined s line u points)
  unfolding refined
  refined_all u [] at all = tt
  refined_all u (v ∷ points) at all = step_all u v (refined s line v points) at all.0 (refined_all v points all.0 all.1) (parts line u v) refl

  step_stays : (other : Line) (u v : Point) (rest : List Point) → Q u → Q v → IsOneSided other u v → Steps (IsOneSided other) v rest → (b : Bool) → parts line u v ≡ b → Steps (IsOneSided other) u (if b then cut s line ∷ v ∷ rest else v ∷ rest)
  step_stays other u v rest at next one along true e =
      let halves = one_sided_at other u v (cut s line) (cut_in_box u v at next e).1 one in
      (halves.0, (halves.1, along))
  step_stays other u v rest at next one along false e = (one, along)

  -- and no step leads across another line, where none did
  pub refined_stays : (other : Line) (u : Point) (points : List Point) → Q u → AllByRecursion Q points → Steps (IsOneSided other) u points → Steps (IsOneSided other) u (refined s line u points)
  unfolding refined
  refined_stays other u [] at all along = tt
  refined_stays other u (v ∷ points) at all along =
      step_stays other u v (refined s line v points) at all.0 along.0 (refined_stays other v points all.0 all.1 along.1) (parts line u v) refl
