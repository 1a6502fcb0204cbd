-- The lengths of the steps of a path that runs one way sum to that of its pair.
use Rattle.std.proofs.Common.{◌≡◌, refl, sym, ap, ◌∙◌, arith, ℕ, zero, suc, ◌+◌, ◌<◌, List, [], ◌∷◌, length}
use Rattle.std.specs.Prelude.{ℤ, pos, negsuc, ◌-ℤ◌, ◌≤ℤ◌, ◌<ℤ◌, neg_ℤ, unsigned_abs}
use Rattle.std.proofs.lemmas.Int.{ints, by_lt_z}
use Rattle.std.proofs.lemmas.List.{length-append, length-reverse}
use Rattle.std.proofs.lemmas.List.Sums.{sum_by-cons}
use Rattle.std.proofs.lemmas.Bool.{cond_both}
use Rattle.overlay_geometry.specs.Points.{Point, Pair, point_lt}
use Rattle.overlay_base.specs.Windings.{Winding}
use Rattle.overlay_base.specs.Segments.{WholeSegment}
use Rattle.overlay_cuts.specs.Path.{next_point, last_point, column_path, path_from, piece, pieces_along}
use Rattle.overlay_cuts.specs.Potential.{spread, potential}
use Rattle.overlay_geometry.proofs.laws.geometry.Points.{same_point}
use Rattle.overlay_geometry.proofs.laws.lists.Lists.{Steps}
use Rattle.overlay_cuts.proofs.laws.paths.Paths.{all_of, column_path_has}
use Rattle.overlay_intersections.proofs.laws.marks.Marks.{Differ}
use Rattle.overlay_geometry.proofs.laws.integers.Products.{abs_nonneg}
use Rattle.overlay_cuts.proofs.laws.paths.Monotone.{Falls, Rises}

-- ---- lengths of steps

-- |dx| + |dy|
unfoldable pub reach : Point → Point → ℕ
reach p q = unsigned_abs (q.x -ℤ p.x) + unsigned_abs (q.y -ℤ p.y)

abs_down : (z : ℤ) → z ≤ℤ pos 0 → pos (unsigned_abs z) ≡ neg_ℤ z
abs_down (pos zero) h = refl
abs_down (pos (suc n)) h = absurd (omega (arith, ints))
abs_down (negsuc n) h = refl

abs_zero : (z : ℤ) → unsigned_abs z ≡ 0 → z ≡ pos 0
abs_zero (pos n) h = ap pos h
abs_zero (negsuc n) h = absurd (omega arith)

abs_back : (u v : ℤ) → unsigned_abs (u -ℤ v) ≡ unsigned_abs (v -ℤ u)
abs_back u v = by_lt_z u v (λ (l : u <ℤ v). let e = abs_down (u -ℤ v) (omega (arith, ints, l)) in let f = abs_nonneg (v -ℤ u) (omega (arith, ints, l)) in omega (arith, ints, e, f))
    (λ (l : v ≤ℤ u). let e = abs_nonneg (u -ℤ v) (omega (arith, ints, l)) in let f = abs_down (v -ℤ u) (omega (arith, ints, l)) in omega (arith, ints, e, f))

-- a direction: steps in it can be joined, and their lengths then add up
pub record IsDirection (R : Point → Point → Type 0) : Type 0 where
  pub itself : (p : Point) → R p p
  pub on : (p q r : Point) → R p q → R q r → R p r
  pub adds : (p q r : Point) → R p q → R q r → reach p q + reach q r ≡ reach p r

ups : (u v w : ℤ) → u ≤ℤ v → v ≤ℤ w → unsigned_abs (v -ℤ u) + unsigned_abs (w -ℤ v) ≡ unsigned_abs (w -ℤ u)
ups u v w h k =
    let e = abs_nonneg (v -ℤ u) (omega (arith, ints, h)) in
    let f = abs_nonneg (w -ℤ v) (omega (arith, ints, k)) in
    let g = abs_nonneg (w -ℤ u) (omega (arith, ints, h, k)) in
    omega (arith, ints, e, f, g)

downs : (u v w : ℤ) → v ≤ℤ u → w ≤ℤ v → unsigned_abs (v -ℤ u) + unsigned_abs (w -ℤ v) ≡ unsigned_abs (w -ℤ u)
downs u v w h k =
    let e = abs_down (v -ℤ u) (omega (arith, ints, h)) in
    let f = abs_down (w -ℤ v) (omega (arith, ints, k)) in
    let g = abs_down (w -ℤ u) (omega (arith, ints, h, k)) in
    omega (arith, ints, e, f, g)

pub Rises-is_direction : IsDirection Rises
unfolding reach
Rises-is_direction = record {
  itself = λ p. (omega (arith, ints), omega (arith, ints));
  on = λ p q r h k. (omega (arith, ints, h.0, k.0), omega (arith, ints, h.1, k.1));
  adds = λ p q r h k. let e = ups p.x q.x r.x h.0 k.0 in let f = ups p.y q.y r.y h.1 k.1 in omega (arith, e, f);
}

pub Falls-is_direction : IsDirection Falls
unfolding reach
Falls-is_direction = record {
  itself = λ p. (omega (arith, ints), omega (arith, ints));
  on = λ p q r h k. (omega (arith, ints, h.0, k.0), omega (arith, ints, h.1, k.1));
  adds = λ p q r h k. let e = ups p.x q.x r.x h.0 k.0 in let f = downs p.y q.y r.y h.1 k.1 in omega (arith, e, f);
}

reach_some : (p q : Point) → Differ p q → 0 < reach p q
unfolding reach
reach_some p q d = not_nil (unsigned_abs (q.x -ℤ p.x)) (unsigned_abs (q.y -ℤ p.y))
    (λ e f. d (same_point p q (let g = abs_zero (q.x -ℤ p.x) e in omega (arith, ints, g)) (let g = abs_zero (q.y -ℤ p.y) f in omega (arith, ints, g))))
  where
    not_nil : (m n : ℕ) → (m ≡ 0 → n ≡ 0 → ⊥) → 0 < m + n
    not_nil zero zero f = absurd (f refl refl)
    not_nil zero (suc n) f = omega arith
    not_nil (suc m) n f = omega arith

pub spread_is : (s : Pair) → Differ s.a s.b → spread s + 1 ≡ reach s.a s.b
unfolding spread reach
spread_is s d = let h = reach_some s.a s.b d in omega (arith, h)

spread_back : (p q : Point) → spread (record { a = q; b = p }) ≡ spread (record { a = p; b = q })
unfolding spread
spread_back p q = let e = abs_back p.x q.x in let f = abs_back p.y q.y in rw (e, f) refl

spread_of_piece : (count : Winding) (p q : Point) → Differ p q → spread (piece count p q).pair + 1 ≡ reach p q
unfolding piece
spread_of_piece count p q d =
    cond_both (point_lt p q) _ _ (λ (s : WholeSegment). spread s.pair + 1 ≡ reach p q) (λ e. spread_is (record { a = p; b = q }) d)
    (λ e. ap (λ (n : ℕ). n + 1) (spread_back p q) ∙ spread_is (record { a = p; b = q }) d)

steps_last : (R : Point → Point → Type 0) → IsDirection R → (p : Point) (points : List Point) → Steps R p points → R p (last_point p points)
unfolding last_point
steps_last R is p [] h = is.itself p
steps_last R is p (q ∷ points) h = is.on p q (last_point q points) h.0 (steps_last R is q points h.1)

reach_nil : (p : Point) → reach p p ≡ 0
unfolding reach
reach_nil p = let e = abs_nonneg (p.x -ℤ p.x) (omega (arith, ints)) in let f = abs_nonneg (p.y -ℤ p.y) (omega (arith, ints)) in omega (arith, ints, e, f)

-- the spreads of the pieces and their number, along a path in one direction
pub potential-pieces_along : (R : Point → Point → Type 0) → IsDirection R → (count : Winding) (p : Point) (points : List Point) → Steps R p points → Steps Differ p points → potential (pieces_along count (p ∷ points)) + length points ≡ reach p (last_point p points)
unfolding potential pieces_along last_point
potential-pieces_along R is count p [] h d = sym (reach_nil p)
potential-pieces_along R is count p (q ∷ points) h d =
    let e = sum_by-cons (λ (s : WholeSegment). spread s.pair) (piece count p q) (pieces_along count (q ∷ points)) in
    let f = potential-pieces_along R is count q points h.1 d.1 in
    let g = spread_of_piece count p q d.0 in
    let k = is.adds p q (last_point q points) h.0 (steps_last R is q points h.1) in
    joined _ _ _ _ _ _ _ e f g k
  where
    joined : (all first others n u v w : ℕ) → all ≡ first + others → others + n ≡ v → first + 1 ≡ u → u + v ≡ w → all + suc n ≡ w
    joined all first others n u v w e f g k = omega arith

-- ---- the path has a point for each mark, and the end

length-column_path : (p : Point) (column : List Point) (next : Point) → length (column_path p column next) ≡ length column
length-column_path p column next = column_path_has (λ (ps : List Point). length ps ≡ length column) p column next refl (length-reverse column)

pub length-path_from : (columns : List (List Point)) (p b : Point) → length (path_from p columns b) ≡ length (all_of columns) + 1
unfolding path_from
length-path_from [] p b = refl
length-path_from (column ∷ columns) p b =
    let points = column_path p column (next_point columns b) in
    let e = length-append points (path_from (last_point p points) columns b) in
    let f = length-column_path p column (next_point columns b) in
    let g = length-path_from columns (last_point p points) b in
    let h = length-append column (all_of columns) in
    joined _ _ _ _ _ _ e f g h
  where
    joined : (all here on c o w : ℕ) → all ≡ here + on → here ≡ c → on ≡ o + 1 → w ≡ c + o → all ≡ w + 1
    joined all here on c o w e f g h = omega arith
