-- Ends whose numbers keep their ties in order: so do their points.
use Rattle.std.proofs.Common.{◌≡◌, ◌∙◌, refl, sym, ap, ap₂, Bool, true, false, not, ◌&&◌, List, [], ◌∷◌, map, arith}
use Rattle.std.specs.List.{filter}
use Rattle.std.specs.List.Sorted.{IsStableByKey, ties}
use Rattle.std.specs.Ordering.{nat_cmp, is_lt}
use Rattle.std.proofs.lemmas.Int.{ints}
use Rattle.overlay_geometry.specs.Points.{Point, point_cmp, point_lt}
use Rattle.overlay_geometry.proofs.laws.geometry.Points.{same_point}
use Rattle.overlay_geometry.proofs.laws.lists.Lists.{filter-map}
use Rattle.overlay_build.specs.declared.build.link_ends.PackedEnd.{PackedEnd}
use Rattle.overlay_build.specs.steps.EndOf.{WholeEnd, unpacked, end_of, ends_of}
use Rattle.overlay_build.proofs.laws.graphs.PackedEnds.{unpacked-order}

-- ---- a test that is a tie with each element on which it is true

module _ {X : Type 0} (own : X → Bool) where
  own_first : (xs : List X) (z : X) (zs : List X) → filter own xs ≡ z ∷ zs → own z ≡ true
  own_first [] z zs e = cc
  own_first (x ∷ xs) z zs e = by (own_first xs z zs) (own x) refl
    where
      by : (filter own xs ≡ z ∷ zs → own z ≡ true) → (t : Bool) → own x ≡ t → own z ≡ true
      by later true t = let k = rw t at e in cc
      by later false t = later (rw t at e)

  -- picks the same elements of two lists that have the same ties in order
  filter-own : (tie : X → X → Bool) (xs ys : List X) → ((x y : X) → own x ≡ true → own y ≡ tie x y) → ((x : X) → filter (tie x) ys ≡ filter (tie x) xs) → filter own ys ≡ filter own xs
  filter-own tie xs ys ties_own s = by (filter own ys) (filter own xs) refl refl
    where
      through : (z : X) → own z ≡ true → filter own ys ≡ filter own xs
      through z o = (λ i. filter (λ y. ties_own z y o i) ys) ∙ s z ∙ (λ i. filter (λ y. sym (ties_own z y o) i) xs)

      by : (l m : List X) → filter own ys ≡ l → filter own xs ≡ m → filter own ys ≡ filter own xs
      by [] [] e f = e ∙ sym f
      by [] (z ∷ zs) e f = through z (own_first xs z zs f)
      by (z ∷ zs) m e f = through z (own_first ys z zs e)

-- ---- ends

tied_points : (p q : Point) → ties point_lt p q ≡ true → p ≡ q
tied_points p q t = same_point p q (grind (arith, ints)) (grind (arith, ints))

-- what keeps ties of the numbers in order keeps those of the points
pub stable-ends : (xs ys : List PackedEnd) → IsStableByKey (λ (e : PackedEnd). e.key) nat_cmp xs ys → IsStableByKey (λ (e : WholeEnd). e.point) point_cmp (ends_of xs) (ends_of ys)
stable-ends xs ys s = λ u.
    let at : WholeEnd → Bool = λ e. ties point_lt u.point e.point in
    let own : PackedEnd → Bool = λ e. ties point_lt u.point (unpacked e.key) in
    let tie : PackedEnd → PackedEnd → Bool = ties (λ e f. is_lt (nat_cmp e.key f.key)) in
    let tied : (e f : PackedEnd) → own e ≡ true → own f ≡ tie e f =
    λ e f o.
    ap (λ p. ties point_lt p (unpacked f.key)) (tied_points u.point (unpacked e.key) o)
    ∙ ap₂ (λ a b. not (is_lt a) && not (is_lt b)) (unpacked-order e.key f.key) (unpacked-order f.key e.key) in
    filter-map at end_of ys ∙ ap (map end_of) (filter-own own tie xs ys tied s) ∙ sym (filter-map at end_of xs)
