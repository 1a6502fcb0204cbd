-- The places of the points whose pixels a segment meets, in the parts of a list.
use Rattle.std.proofs.Common.{◌≡◌, refl, sym, ap, ◌∙◌, ℕ, ◌+◌, suc, zero, Bool, true, false, List, [], ◌∷◌, ◌++◌, map, filter, length, arith, append_assoc, append-nil, take, get_or, ◌<◌, add-one}
use Rattle.std.specs.List.{AllByRecursion, enumerate_from, list_all}
use Rattle.std.proofs.Math.Seq.{take-suc}
use Rattle.std.proofs.lemmas.List.{map-append, length-map, length-take-le}
use Rattle.std.proofs.lemmas.Bool.{and_parts}
use Rattle.std.proofs.lemmas.List.Elements.{filter-append}
use Rattle.overlay_geometry.specs.Points.{Point, Pair}
use Rattle.overlay_geometry.specs.Ranges.{Rect}
use Rattle.overlay_geometry.proofs.laws.lists.Lists.{AllByRecursion-weaker, AllByRecursion-from_list_all}
use Rattle.overlay_snapping.specs.Pixels.{meets_pixel, met_places}
use Rattle.overlay_snapping.specs.steps.PointTrees.{met_places_from, is_in_rect}

pub numbered-append : {X : Type 0} (n : ℕ) (xs ys : List X) → enumerate_from n (xs ++ ys) ≡ enumerate_from n xs ++ enumerate_from (n + length xs) ys
numbered-append n [] ys = ap (λ k. enumerate_from k ys) (omega arith)
numbered-append n (x ∷ xs) ys =
    ap (λ l. (n, x) ∷ l) (numbered-append (n + 1) xs ys ∙ ap (λ k. enumerate_from (n + 1) xs ++ enumerate_from k ys) (omega arith))

-- the first elements and the next one
pub taken_next : {X : Type 0} (xs : List X) (i : ℕ) (x : X) → i < length xs → x ≡ get_or xs i x → take (i + 1) xs ≡ take i xs ++ x ∷ []
taken_next xs i x h e = ap (λ k. take k xs) (add-one i) ∙ take-suc xs i x h ∙ ap (λ y. take i xs ++ y ∷ []) (sym e)

-- a test of all elements, at one of them
pub passes_at : {X Y : Type 0} (p : Y → Bool) (f : X → Y) (xs : List X) (i : ℕ) (x : X) → i < length xs → x ≡ get_or xs i x → list_all p (map f xs) ≡ true → p (f x) ≡ true
passes_at p f [] i x h e all = absurd (omega (arith, h))
passes_at p f (z ∷ xs) zero x h e all = ap (λ y. p (f y)) e ∙ (and_parts (p (f z)) (list_all p (map f xs)) all).0
passes_at p f (z ∷ xs) (suc i) x h e all = passes_at p f xs i x (omega (arith, h)) e (and_parts (p (f z)) (list_all p (map f xs)) all).1

module _ (s : Pair) where
  pub met-from_first : (points : List Point) → met_places_from 0 s points ≡ met_places s points
  unfolding met_places met_places_from
  met-from_first points = refl

  -- of two lists in a row
  pub met-append : (n : ℕ) (xs ys : List Point) → met_places_from n s (xs ++ ys) ≡ met_places_from n s xs ++ met_places_from (n + length xs) s ys
  unfolding met_places_from
  met-append n xs ys =
      let test = λ (e : ℕ × Point). meets_pixel s e.1 in
      ap (λ l. map (λ e. e.0) (filter test l)) (numbered-append n xs ys)
      ∙ ap (map (λ e. e.0)) (filter-append test (enumerate_from n xs) (enumerate_from (n + length xs) ys))
      ∙ map-append (λ e. e.0) (filter test (enumerate_from n xs)) (filter test (enumerate_from (n + length xs) ys))

  pub met_one : (n : ℕ) (c : Point) → meets_pixel s c ≡ true → met_places_from n s (c ∷ []) ≡ n ∷ []
  unfolding met_places_from
  met_one n c e = rw e refl

  pub passed_one : (n : ℕ) (c : Point) → meets_pixel s c ≡ false → met_places_from n s (c ∷ []) ≡ []
  unfolding met_places_from
  passed_one n c e = rw e refl

  none_met : (n : ℕ) (points : List Point) → AllByRecursion (λ c. meets_pixel s c ≡ false) points → met_places_from n s points ≡ []
  unfolding met_places_from
  none_met n [] h = refl
  none_met n (c ∷ points) h = rw h.0 (none_met (n + 1) points h.1)

  -- of points in a rectangle where none is met
  none_met_within : (r : Rect) (n : ℕ) (points : List Point) → ((c : Point) → is_in_rect r c ≡ true → meets_pixel s c ≡ false) → list_all (is_in_rect r) points ≡ true → met_places_from n s points ≡ []
  none_met_within r n points off inside =
      none_met n points (AllByRecursion-weaker (λ c. is_in_rect r c ≡ true) (λ c. meets_pixel s c ≡ false) off points (AllByRecursion-from_list_all (is_in_rect r) points inside))

  pub none_found : (r : Rect) (n : ℕ) (points : List Point) (found : List ℕ) → ((c : Point) → is_in_rect r c ≡ true → meets_pixel s c ≡ false) → list_all (is_in_rect r) points ≡ true → found ≡ found ++ met_places_from n s points
  none_found r n points found off inside = sym (append-nil found) ∙ ap (λ l. found ++ l) (sym (none_met_within r n points off inside))

  -- of a list that is cut at an element
  pub met-cut : (n m : ℕ) (xs ys : List Point) (c : Point) → length xs ≡ m →
      met_places_from n s (xs ++ c ∷ ys) ≡ met_places_from n s xs ++ (met_places_from (n + m) s (c ∷ []) ++ met_places_from (n + m + 1) s ys)
  met-cut n m xs ys c e =
      met-append n xs (c ∷ ys)
      ∙ ap (λ k. met_places_from n s xs ++ met_places_from (n + k) s (c ∷ ys)) e
      ∙ ap (λ l. met_places_from n s xs ++ l) (met-append (n + m) (c ∷ []) ys)

  -- what was found, once the part before, an element and the part after are done
  pub met_in_all : (n m : ℕ) (xs ys : List Point) (c : Point) (found first second third : List ℕ) → length xs ≡ m →
      first ≡ found ++ met_places_from n s xs → second ≡ first ++ met_places_from (n + m) s (c ∷ []) → third ≡ second ++ met_places_from (n + m + 1) s ys →
      third ≡ found ++ met_places_from n s (xs ++ c ∷ ys)
  met_in_all n m xs ys c found first second third e e1 e2 e3 =
      let a = met_places_from n s xs in
      let b = met_places_from (n + m) s (c ∷ []) in
      let d = met_places_from (n + m + 1) s ys in
      e3 ∙ ap (λ l. l ++ d) (e2 ∙ ap (λ l. l ++ b) e1)
      ∙ append_assoc (found ++ a) b d
      ∙ append_assoc found a (b ++ d)
      ∙ ap (λ l. found ++ l) (sym (met-cut n m xs ys c e))

  pub met_none : (n : ℕ) (found : List ℕ) → found ≡ found ++ met_places_from n s []
  unfolding met_places_from
  met_none n found = sym (append-nil found)

  -- one point more of a list that is passed over from its first point
  pub met_one_more : {X : Type 0} (f : X → Point) (xs : List X) (n i : ℕ) (x : X) (found now more : List ℕ) → i < length xs → x ≡ get_or xs i x →
      now ≡ found ++ met_places_from n s (map f (take i xs)) → more ≡ now ++ met_places_from (n + i) s (f x ∷ []) → more ≡ found ++ met_places_from n s (map f (take (i + 1) xs))
  met_one_more f xs n i x found now more h at e k =
      let a = met_places_from n s (map f (take i xs)) in
      let b = met_places_from (n + i) s (f x ∷ []) in
      let long : length (map f (take i xs)) ≡ i = length-map (take i xs) f ∙ length-take-le i xs (omega (arith, h)) in
      let all : map f (take (i + 1) xs) ≡ map f (take i xs) ++ f x ∷ [] = ap (map f) (taken_next xs i x h at) ∙ map-append f (take i xs) (x ∷ []) in
      k ∙ ap (λ l. l ++ b) e ∙ append_assoc found a b
      ∙ ap (λ l. found ++ l) (ap (λ m. a ++ met_places_from (n + m) s (f x ∷ [])) (sym long) ∙ sym (met-append n (map f (take i xs)) (f x ∷ [])) ∙ ap (met_places_from n s) (sym all))
