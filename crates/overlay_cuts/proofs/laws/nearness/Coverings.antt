-- Every point of a segment lies near one of its pieces, and a pair of the pieces is left by their join, or cancels.
use Rattle.std.proofs.Common.{◌≡◌, ◌⊎◌, inl, inr, refl, sym, ap, subst, ◌∙◌, arith, ℕ, zero, suc, ◌+◌, ◌*◌, ◌-◌, ◌<◌, ◌≤◌, List, [], ◌∷◌}
use Rattle.std.specs.Prelude.{ℤ, pos, ◌+ℤ◌, ◌-ℤ◌, ◌*ℤ◌, unsigned_abs, IsTrue, Contains, take, drop, flat_map}
use Rattle.std.specs.List.{AllByRecursion}
use Rattle.std.proofs.lemmas.Int.{ints}
use Rattle.std.proofs.lemmas.Bool.{cond_both, cases_lt, cases_Bool}
use Rattle.std.proofs.lemmas.List.{take-append-drop}
use Rattle.overlay_geometry.specs.Points.{Point, Pair, point_cmp, point_lt, pair_eq, is_ordered}
use Rattle.overlay_base.specs.Windings.{Winding, inverse, is_not_empty}
use Rattle.overlay_base.specs.Segments.{WholeSegment, pairs, are_ordered, winding_at}
use Rattle.overlay_base.specs.Join.{join}
use Rattle.overlay_geometry.proofs.laws.geometry.Polynomials.{as_D, diffs, D-eq}
use Rattle.overlay_geometry.proofs.laws.lists.Lists.{Has, Has-append_left, Has-append_right, Has-flat_map, Has-map, Has-map_out, Has-from_list_any, list_all-at}
use Rattle.overlay_geometry.proofs.laws.lists.Elements.{Has-append_out, Contains-from_Has, Has-from_Contains}
use Rattle.overlay_geometry.proofs.laws.geometry.Points.{same_pair_by_eq}
use Rattle.overlay_base.proofs.laws.joins.Members.{holds-join}
use Rattle.overlay_geometry.proofs.laws.lists.Keys.{AllByRecursion-distinct_in_order}
use Rattle.overlay_cuts.specs.Path.{columns_of, last_point, path_from, path, piece, pieces_along, pieces}
use Rattle.overlay_cuts.specs.Pass.{cut_by}
use Rattle.overlay_base.specs.Places.{RationalPoint}
use Rattle.overlay_cuts.specs.Nearness.{whole_point, Fraction, point_along, IsWithin, IsNear, IsNearSome, Cancels}
use Rattle.overlay_cuts.specs.Laws.{CutPiecesStayNear}
use Rattle.overlay_cuts.proofs.laws.nearness.Distances.{no_way, whole_way, mean, IsWithin-start, IsWithin-end, IsNear-end, IsWithin-mean, IsWithin-swap, IsWithin-triangle}
use Rattle.overlay_cuts.proofs.laws.nearness.NearMarks.{AreNear, MarksAreNear}
use Rattle.overlay_cuts.proofs.laws.paths.Ends.{ends_differ}
use Rattle.overlay_cuts.proofs.laws.paths.Boxes.{path_from_has}
use Rattle.overlay_cuts.proofs.laws.paths.MarkedPairs.{EachMark-at}
use Rattle.overlay_cuts.proofs.laws.paths.Paths.{all_of-columns_of}
use Rattle.overlay_intersections.proofs.laws.marks.Marks.{Differ}
use Rattle.overlay_cuts.proofs.laws.paths.Pieces.{last_point-path_from}
use Rattle.std.proofs.Math.Nat.{add-zero}

-- ---- between two fractions

abbrev UpTo : Fraction → Fraction → Type 0
UpTo g f = g.part * f.whole ≤ f.part * g.whole

-- two ways to write one number
abbrev IsSame : Fraction → Fraction → Type 0
IsSame m f = m.part * f.whole ≡ f.part * m.whole

-- f is some part of the way from g to k
record IsBetween (g f k : Fraction) : Type 0 where
  way : Fraction
  is_same : IsSame (mean way g k) f

-- with f = x / X, g = y / Y, k = z / Z, where x Y = y X + n and z X = x Z + e
way_plain : (x X y Y z Z e n : ℕ) → x * Y ≡ y * X + n → z * X ≡ x * Z + e → (e * Y * (y * Z) + n * Z * (z * Y)) * X ≡ x * ((e * Y + n * Z) * (Y * Z))
way_plain x X y Y z Z e n p q = apart x X y Y z Z e n ∙ ap (λ (i : ℕ). Y * Z * i) (middle (y * X) (x * Y) (x * Z) (z * X) e n p q) ∙ together x X y Y z Z e n
  where
    apart : (x X y Y z Z e n : ℕ) → (e * Y * (y * Z) + n * Z * (z * Y)) * X ≡ Y * Z * (e * (y * X) + n * (z * X))
    apart x X y Y z Z e n = omega arith

    middle : (u v w t e n : ℕ) → v ≡ u + n → t ≡ w + e → e * u + n * t ≡ e * v + n * w
    middle u v w t e n p q = rw (p, q) (omega arith)

    together : (x X y Y z Z e n : ℕ) → Y * Z * (e * (x * Y) + n * (x * Z)) ≡ x * ((e * Y + n * Z) * (Y * Z))
    together x X y Y z Z e n = omega arith

way_there : (x X y Y z Z : ℕ) → x * Y ≡ y * X → ((1 - 0) * (y * Z) + 0 * (z * Y)) * X ≡ x * (1 * (Y * Z))
way_there x X y Y z Z p = apart x X y Y z Z ∙ ap (λ (i : ℕ). Z * i) (sym p) ∙ together x X y Y z Z
  where
    apart : (x X y Y z Z : ℕ) → ((1 - 0) * (y * Z) + 0 * (z * Y)) * X ≡ Z * (y * X)
    apart x X y Y z Z = omega arith

    together : (x X y Y z Z : ℕ) → Z * (x * Y) ≡ x * (1 * (Y * Z))
    together x X y Y z Z = omega arith

between : (g f k : Fraction) → UpTo g f → UpTo f k → IsBetween g f k
unfolding mean no_way
between g f k low high =
    elim (cases_lt 0 (e + n)) [
      | inl some ↦ record {
        way = record { part = n * k.whole; whole = e * g.whole + n * k.whole; positive = weights_positive e n g.whole k.whole g.positive k.positive some; at_most_one = omega arith };
        is_same = rw (left_over (e * g.whole) (n * k.whole)) (way_plain f.part f.whole g.part g.whole k.part k.whole e n up down);
      }
      | inr same ↦ record { way = no_way; is_same = way_there f.part f.whole g.part g.whole k.part k.whole (omega (arith, up, same)) }
    ]
  where
    n : ℕ
    n = f.part * g.whole - g.part * f.whole

    e : ℕ
    e = k.part * f.whole - f.part * k.whole

    up : f.part * g.whole ≡ g.part * f.whole + n
    up = omega (arith, low)

    down : k.part * f.whole ≡ f.part * k.whole + e
    down = omega (arith, high)

    left_over : (u v : ℕ) → u + v - v ≡ u
    left_over u v = omega arith

    weights_positive : (e n Y Z : ℕ) → 0 < Y → 0 < Z → 0 < e + n → 0 < e * Y + n * Z
    weights_positive zero zero Y Z p q s = absurd (omega (arith, s))
    weights_positive (suc e) n zero Z p q s = absurd (omega (arith, p))
    weights_positive (suc e) n (suc Y) Z p q s = omega arith
    weights_positive zero (suc n) Y zero p q s = absurd (omega (arith, q))
    weights_positive zero (suc n) Y (suc Z) p q s = omega arith

-- one point, written in two ways
IsWithin-same : (s : Pair) (m f : Fraction) → IsSame m f → IsWithin 0 (point_along s m) (point_along s f)
IsWithin-same s m f e = record { in_x = no_distance s.a.x s.b.x m.part m.whole f.part f.whole e; in_y = no_distance s.a.y s.b.y m.part m.whole f.part f.whole e }
  where
    difference : (a b : ℤ) (p m x w : ℤ) → (a *ℤ m +ℤ (b -ℤ a) *ℤ p) *ℤ w -ℤ (a *ℤ w +ℤ (b -ℤ a) *ℤ x) *ℤ m ≡ (b -ℤ a) *ℤ (p *ℤ w -ℤ x *ℤ m)
    difference a b p m x w = rw (as_D a, as_D b, as_D p, as_D m, as_D x, as_D w) (simp diffs (D-eq _ _ _ _ (omega arith)))

    no_difference : (p m x w : ℕ) → p * w ≡ x * m → pos p *ℤ pos w -ℤ pos x *ℤ pos m ≡ pos 0
    no_difference p m x w e = omega (arith, ints, e)

    no_distance : (a b : ℤ) (p m x w : ℕ) → p * w ≡ x * m → 2 * unsigned_abs ((a *ℤ pos m +ℤ (b -ℤ a) *ℤ pos p) *ℤ pos w -ℤ (a *ℤ pos w +ℤ (b -ℤ a) *ℤ pos x) *ℤ pos m) ≤ 0 * (m * w)
    no_distance a b p m x w e = rw (difference a b (pos p) (pos m) (pos x) (pos w), no_difference p m x w e) (none_left (b -ℤ a) (m * w))
      where
        none_left : (d : ℤ) (n : ℕ) → 2 * unsigned_abs (d *ℤ pos 0) ≤ 0 * n
        none_left d n = omega (arith, ints)

-- r leads from near the point g of s to near the point k of it: so the points of s between them are near r
step_covers : (h : ℕ) (r s : Pair) (g f k : Fraction) → IsWithin h (whole_point r.a) (point_along s g) → IsWithin h (whole_point r.b) (point_along s k) → UpTo g f → UpTo f k → IsNear h (point_along s f) r
step_covers h r s g f k first last low high =
    let b = between g f k low high in
    let m = mean b.way g k in
    let there = IsWithin-triangle h 0 (point_along r b.way) (point_along s m) (point_along s f) m.positive (IsWithin-mean h r s b.way g k first last) (IsWithin-same s m f b.is_same) in
    let plain : IsWithin h (point_along r b.way) (point_along s f) = subst (λ (i : ℕ). IsWithin i (point_along r b.way) (point_along s f)) (add-zero h) there in
    (b.way, IsWithin-swap h (point_along r b.way) (point_along s f) plain)

-- ---- pieces

-- a pair with its ends exchanged has the same points
IsNear-turned : (h : ℕ) (c : RationalPoint) (p q : Point) → IsNear h c (record { a = p; b = q }) → IsNear h c (record { a = q; b = p })
IsNear-turned h c p q (f, w) = (
  record { part = f.whole - f.part; whole = f.whole; positive = f.positive; at_most_one = omega arith },
  record { in_x = subst (λ (z : ℤ). 2 * unsigned_abs (c.x *ℤ pos f.whole -ℤ z *ℤ pos c.bottom) ≤ h * (c.bottom * f.whole)) (back p.x q.x f.part f.whole f.at_most_one) w.in_x; in_y = subst (λ (z : ℤ). 2 * unsigned_abs (c.y *ℤ pos f.whole -ℤ z *ℤ pos c.bottom) ≤ h * (c.bottom * f.whole)) (back p.y q.y f.part f.whole f.at_most_one) w.in_y },
)
  where
    same : (a b : ℤ) (e n : ℕ) → a *ℤ pos (e + n) +ℤ (b -ℤ a) *ℤ pos n ≡ b *ℤ pos (e + n) +ℤ (a -ℤ b) *ℤ pos e
    same a b e n = rw (as_D a, as_D b) (simp diffs (D-eq _ _ _ _ (omega arith)))

    back : (a b : ℤ) (n d : ℕ) → n ≤ d → a *ℤ pos d +ℤ (b -ℤ a) *ℤ pos n ≡ b *ℤ pos d +ℤ (a -ℤ b) *ℤ pos (d - n)
    back a b n d l = let e : (d - n) + n ≡ d = omega (arith, l) in subst (λ (i : ℕ). a *ℤ pos i +ℤ (b -ℤ a) *ℤ pos n ≡ b *ℤ pos i +ℤ (a -ℤ b) *ℤ pos (d - n)) e (same a b (d - n) n)

piece_covers : (h : ℕ) (count : Winding) (p q : Point) (s : Pair) (g f k : Fraction) → IsWithin h (whole_point p) (point_along s g) → IsWithin h (whole_point q) (point_along s k) → UpTo g f → UpTo f k → IsNear h (point_along s f) (piece count p q).pair
unfolding piece
piece_covers h count p q s g f k first last low high =
    let near = step_covers h (record { a = p; b = q }) s g f k first last low high in
    cond_both (point_lt p q) (record { pair = record { a = p; b = q }; count = count }) (record { pair = record { a = q; b = p }; count = inverse count }) (λ (r : WholeSegment). IsNear h (point_along s f) r.pair) (λ _. near) (λ _. IsNear-turned h (point_along s f) p q near)

-- some segment of the list is that near
abbrev pub HasNear : ℕ → RationalPoint → List WholeSegment → Type 0
HasNear h c list = (r : WholeSegment) × Has list r × IsNear h c r.pair

HasNear-later : (h : ℕ) (c : RationalPoint) (r : WholeSegment) (list : List WholeSegment) → HasNear h c list → HasNear h c (r ∷ list)
HasNear-later h c r list (s, i, near) = (s, inr i, near)

-- the steps of a path from before f to the end of s: one of them leads past f
steps_cover : (h : ℕ) (count : Winding) (s : Pair) (f : Fraction) (p q : Point) (points : List Point) (g : Fraction) → IsWithin h (whole_point p) (point_along s g) → UpTo g f → AreNear h (q ∷ points) s → last_point q points ≡ s.b → HasNear h (point_along s f) (pieces_along count (p ∷ q ∷ points))
unfolding pieces_along last_point whole_way
steps_cover h count s f p q [] g first low near e =
    let last : IsWithin h (whole_point q) (point_along s whole_way) = subst (λ (z : Point). IsWithin h (whole_point z) (point_along s whole_way)) (sym e) (IsWithin-end h s) in
    (piece count p q, inl refl, piece_covers h count p q s g f whole_way first last low (let l = f.at_most_one in omega (arith, l)))
steps_cover h count s f p q (q' ∷ points) g first low ((k, last), near) e =
    elim (cases_lt (k.part * f.whole) (f.part * k.whole)) [
      | inl less ↦ HasNear-later h (point_along s f) (piece count p q) (pieces_along count (q ∷ q' ∷ points)) (steps_cover h count s f q q' points k last (omega (arith, less)) near e)
      | inr more ↦ (piece count p q, inl refl, piece_covers h count p q s g f k first last low more)
    ]

path_covers : (h : ℕ) (count : Winding) (s : Pair) (f : Fraction) (points : List Point) → Differ s.a s.b → AreNear h points s → last_point s.a points ≡ s.b → HasNear h (point_along s f) (pieces_along count (s.a ∷ points))
unfolding last_point no_way
path_covers h count s f [] differ near e = absurd (differ e)
path_covers h count s f (q ∷ points) differ near e = steps_cover h count s f s.a q points no_way (IsWithin-start h s) (omega arith) near e

pub pieces_cover : (h : ℕ) (s : WholeSegment) (marks : List Point) → Differ s.pair.a s.pair.b → AreNear h marks s.pair → (f : Fraction) → HasNear h (point_along s.pair f) (pieces s marks)
unfolding pieces path
pieces_cover h s marks differ near f =
    path_covers h s.count s.pair f (path_from s.pair.a (columns_of marks) s.pair.b) differ
    (path_from_has (λ p. IsNear h (whole_point p) s.pair) (columns_of marks) s.pair.a s.pair.b (subst (AllByRecursion (λ p. IsNear h (whole_point p) s.pair)) (sym (all_of-columns_of marks)) (AllByRecursion-distinct_in_order point_cmp (λ p. IsNear h (whole_point p) s.pair) marks near)) (IsNear-end h s.pair))
    (last_point-path_from (columns_of marks) s.pair.a s.pair.a s.pair.b)

-- ---- a pass

pub Has-cut : (marks : Pair → List Point) (segments : List WholeSegment) (s r : WholeSegment) → Has segments s → Has (pieces s (marks s.pair)) r → Has (cut_by marks segments) r
unfolding cut_by
Has-cut marks segments s r i j =
    let whole = λ (u : WholeSegment). pieces u (marks u.pair) in
    let firsts = flat_map (λ u. take 1 (whole u)) segments in
    let others = flat_map (λ u. drop 1 (whole u)) segments in
    elim (Has-append_out (take 1 (whole s)) (drop 1 (whole s)) r (subst (λ (l : List WholeSegment). Has l r) (sym (take-append-drop 1 (whole s))) j)) [
      | inl first ↦ Has-append_left firsts others r (Has-flat_map (λ u. take 1 (whole u)) segments s r i first)
      | inr other ↦ Has-append_right firsts others r (Has-flat_map (λ u. drop 1 (whole u)) segments s r i other)
    ]

-- where the marks on each pair are near it, each point of a segment is near a piece of the cut
pub cut_covers : (h : ℕ) (marks : Pair → List Point) (segments : List WholeSegment) (s : Pair) → MarksAreNear h marks segments → IsTrue (are_ordered segments) → Contains (pairs segments) s → (f : Fraction) → IsNearSome h (point_along s f) (pairs (cut_by marks segments))
cut_covers h marks segments s near ordered i f =
    let within = Has-from_Contains (pairs segments) s i in
    let there = Has-map_out (λ (u : WholeSegment). u.pair) segments s within in
    let at = there.0 in
    let order = list_all-at (λ (u : WholeSegment). is_ordered u.pair) segments at ordered there.1 in
    let some = pieces_cover h at (marks at.pair) (ends_differ at.pair order) (near at.pair (Has-map (λ (u : WholeSegment). u.pair) segments at there.1)) f in
    let piece = Has-map (λ (u : WholeSegment). u.pair) (cut_by marks segments) some.0 (Has-cut marks segments at some.0 there.1 some.1) in
    subst (λ (u : Pair). IsNearSome h (point_along u f) (pairs (cut_by marks segments))) there.2 (some.0.pair, Contains-from_Has (pairs (cut_by marks segments)) some.0.pair piece, some.2)

pub cut_pieces_stay_near : CutPiecesStayNear
cut_pieces_stay_near h marks segments s ordered near i f = cut_covers h marks segments s (EachMark-at (λ t m. IsNear h (whole_point m) t) marks segments near) ordered i f

-- ---- a run

-- a pair of a bag is one of its join, or its counts cancel
pub joined_or_cancels : (bag : List WholeSegment) (r : Pair) → Contains (pairs bag) r → Contains (pairs (join bag)) r ⊎ Cancels bag r
joined_or_cancels bag r i =
    elim (cases_Bool (is_not_empty (winding_at bag r))) [
      | inl kept ↦
          let there = Has-from_list_any (λ q. pair_eq r q) (pairs (join bag)) (holds-join bag r ∙ kept) in
          inl (Contains-from_Has (pairs (join bag)) r (subst (λ (q : Pair). Has (pairs (join bag)) q) (sym (same_pair_by_eq r there.0 there.2)) there.1))
      | inr gone ↦ inr (i, gone)
    ]
