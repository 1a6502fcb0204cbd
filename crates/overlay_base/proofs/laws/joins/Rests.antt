-- What is left of a list from an index on, and a test of each element; lists that may be split.
use Rattle.std.specs.Prelude.{ℤ, All, IsTrue}
use Rattle.std.proofs.Common.{◌≡◌, refl, sym, ap, ap₂, subst, ◌∙◌, arith, ℕ, zero, suc, ◌+◌, ◌<◌, ◌≤◌, add-one, Bool, true, false, ◌&&◌, List, [], ◌∷◌, map, drop, length, get_or}
use Rattle.std.specs.List.{list_all, AllByRecursion}
use Rattle.std.proofs.lemmas.List.Elements.{All-from_recursion}
use Rattle.std.proofs.Math.Seq.{drop-cons}
use Rattle.std.proofs.lemmas.List.{get_or-map, length-map}
use Rattle.std.proofs.lemmas.Bool.{and_parts}
use Rattle.overlay_geometry.specs.Points.{Pair}
use Rattle.overlay_base.specs.Windings.{is_valid, is_not_empty}
use Rattle.overlay_base.specs.Segments.{WholeSegment}
use Rattle.overlay_base.specs.Planar.{is_splittable}
use Rattle.overlay_geometry.specs.Coordinates.{is_pair_in_range}
use Rattle.overlay_geometry.specs.InRange.{IsPairInRange}
use Rattle.overlay_geometry.specs.PairOf.{pair_of}
use Rattle.overlay_geometry.specs.declared.geom.x_segment.XSegment.{XSegment}
use Rattle.overlay_geometry.proofs.laws.geometry.Coordinates.{ends_in_range}

-- the element at an index, and what follows
pub rest-more : {X Y : Type 0} (f : X → Y) (xs : List X) (j : ℕ) (x : X) → j < length xs → x ≡ get_or xs j x → drop j (map f xs) ≡ f x ∷ drop (j + 1) (map f xs)
rest-more f xs j x lt is =
    drop-cons (map f xs) j (f x) (subst (λ (n : ℕ). j < n) (sym (length-map xs f)) lt)
    ∙ ap₂ (λ y ys. y ∷ ys) (get_or-map f xs j x (f x) lt ∙ ap f (sym is)) (ap (λ (n : ℕ). drop n (map f xs)) (sym (add-one j)))

pub rest-none : {X Y : Type 0} (f : X → Y) (xs : List X) (j : ℕ) → length xs ≤ j → drop j (map f xs) ≡ []
rest-none f [] zero le = refl
rest-none f [] (suc j) le = refl
rest-none f (x ∷ xs) zero le = absurd (omega arith)
rest-none f (x ∷ xs) (suc j) le = rest-none f xs j (omega arith)

-- what is tested of all is tested of the rest
pub list_all-drop : {X : Type 0} (p : X → Bool) (n : ℕ) (xs : List X) → list_all p xs ≡ true → list_all p (drop n xs) ≡ true
list_all-drop p zero xs h = h
list_all-drop p (suc n) [] h = refl
list_all-drop p (suc n) (x ∷ xs) h = list_all-drop p n xs (and_parts (p x) (list_all p xs) h).1

-- Each element so far has passed, so that the rest is enough for all: one more passes, one fails, or none is left.
pub passes : {X : Type 0} (p : X → Bool) (all rest next : List X) (x : X) → list_all p rest ≡ list_all p all → rest ≡ x ∷ next → p x ≡ true → list_all p next ≡ list_all p all
passes p all rest next x h is e = sym (ap (λ xs. list_all p xs) is ∙ ap (λ b. b && list_all p next) e) ∙ h

pub fails : {X : Type 0} (p : X → Bool) (all rest next : List X) (x : X) → list_all p rest ≡ list_all p all → rest ≡ x ∷ next → p x ≡ false → false ≡ list_all p all
fails p all rest next x h is e = sym (ap (λ xs. list_all p xs) is ∙ ap (λ b. b && list_all p next) e) ∙ h

pub none_left : {X : Type 0} (p : X → Bool) (all rest : List X) → list_all p rest ≡ list_all p all → rest ≡ [] → true ≡ list_all p all
none_left p all rest h is = sym (ap (λ xs. list_all p xs) is) ∙ h

-- ---- lists that may be split

-- in range, with a valid count that is not empty
abbrev pub is_usable : ℤ → ℤ → WholeSegment → Bool
is_usable least greatest s = is_pair_in_range least greatest s.pair && is_valid s.count && is_not_empty s.count

pub is_splittable-is : (least greatest : ℤ) (segments : List WholeSegment) → is_splittable least greatest segments ≡ list_all (is_usable least greatest) segments
unfolding is_splittable
is_splittable-is least greatest segments = refl

-- so the first may be split, and the rest
pub is_splittable-parts : (least greatest : ℤ) (s : WholeSegment) (segments : List WholeSegment) → IsTrue (is_splittable least greatest (s ∷ segments)) →
    IsTrue (is_usable least greatest s) × IsTrue (is_splittable least greatest segments)
unfolding is_splittable
is_splittable-parts least greatest s segments h = and_parts (is_usable least greatest s) (list_all (is_usable least greatest) segments) h

pub is_splittable-drop : (least greatest : ℤ) (n : ℕ) (segments : List WholeSegment) → IsTrue (is_splittable least greatest segments) → IsTrue (is_splittable least greatest (drop n segments))
unfolding is_splittable
is_splittable-drop least greatest n segments h = list_all-drop (is_usable least greatest) n segments h

usable_pair : (least greatest : ℤ) (s : WholeSegment) → IsTrue (is_usable least greatest s) → IsTrue (is_pair_in_range least greatest s.pair)
usable_pair least greatest s h = (and_parts _ _ (and_parts _ _ h).0).0

-- the ends of the first are in range
pub first_in_range : {I : Type 0} (whole : I → ℤ) (least greatest : I) (x : XSegment I) (s : WholeSegment) (segments : List WholeSegment) → s.pair ≡ pair_of whole x → IsTrue (is_splittable (whole least) (whole greatest) (s ∷ segments)) → IsPairInRange whole least greatest x
first_in_range whole least greatest x s segments e h =
    ends_in_range whole least greatest x (subst (λ (p : Pair). IsTrue (is_pair_in_range (whole least) (whole greatest) p)) e (usable_pair (whole least) (whole greatest) s (is_splittable-parts (whole least) (whole greatest) s segments h).0))

-- and each has a valid count
pub is_splittable-valid : {X : Type 0} (whole : X → WholeSegment) (least greatest : ℤ) (xs : List X) → IsTrue (is_splittable least greatest (map whole xs)) → All (λ x. IsTrue (is_valid (whole x).count)) xs
is_splittable-valid {X} whole least greatest xs h = All-from_recursion (λ x. IsTrue (is_valid (whole x).count)) xs (go xs h)
  where
    go : (xs : List X) → IsTrue (is_splittable least greatest (map whole xs)) → AllByRecursion (λ x. IsTrue (is_valid (whole x).count)) xs
    go [] h = tt
    go (x ∷ xs) h = let parts = is_splittable-parts least greatest (whole x) (map whole xs) h in ((and_parts _ _ (and_parts _ _ parts.0).0).1, go xs parts.1)
