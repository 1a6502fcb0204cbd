-- The points of contours, contour by contour, and whether two lists of points share one.
use Rattle.std.proofs.Common.{◌≡◌, ap, sym, subst, ◌∙◌, ℕ, ◌+◌, ◌<◌, inl, inr, List, [], ◌∷◌, ◌++◌, length, get_or, map, take}
use Rattle.std.specs.Prelude.{Contains, ◌↔◌}
use Rattle.std.proofs.lemmas.List.{append-nil, map-append, take_more}
use Rattle.std.proofs.lemmas.List.Concat.{flat_map-append}
use Rattle.overlay_geometry.specs.Points.{Point}
use Rattle.overlay_geometry.proofs.laws.lists.Elements.{Contains-from_Has, Has-from_Contains, Has-append_out}
use Rattle.overlay_geometry.proofs.laws.lists.Lists.{Has, Has-map, Has-flat_map}
use Rattle.overlay_contours.specs.Boxes.{all_points}
use Rattle.overlay_relations.specs.steps.ContactOutcomes.{ShareSome}

-- ---- one more

pub next_taken : {X Y : Type 0} (f : X → Y) (xs : List X) (i : ℕ) (x : X) → i < length xs → x ≡ get_or xs i x → map f (take (i + 1) xs) ≡ map f (take i xs) ++ f x ∷ []
next_taken f xs i x h is = ap (map f) (take_more xs i x h ∙ ap (λ z. take i xs ++ z ∷ []) (sym is)) ∙ map-append f (take i xs) (x ∷ [])

pub next_points : {X : Type 0} (f : X → List Point) (xs : List X) (i : ℕ) (x : X) → i < length xs → x ≡ get_or xs i x → all_points (map f (take (i + 1) xs)) ≡ all_points (map f (take i xs)) ++ f x
next_points f xs i x h is =
    ap all_points (next_taken f xs i x h is) ∙ flat_map-append (λ (c : List Point). c) (map f (take i xs)) (f x ∷ [])
    ∙ ap (λ (l : List Point). all_points (map f (take i xs)) ++ l) (append-nil (f x))

-- ---- a point in both of two lists

pub none_more : (sorted before more next : List Point) → more ≡ before ++ next → (ShareSome sorted before → ⊥) → (ShareSome sorted next → ⊥) → ShareSome sorted more → ⊥
none_more sorted before more next is none other (p, m, k) = elim (Has-append_out before next p (Has-from_Contains (before ++ next) p (subst (λ (l : List Point). Contains l p) is k))) [
  | inl i ↦ none (p, m, Contains-from_Has before p i)
  | inr i ↦ other (p, m, Contains-from_Has next p i)
]

pub not_alone : (sorted : List Point) (q : Point) → (Contains sorted q → ⊥) → ShareSome sorted (q ∷ []) → ⊥
not_alone sorted q none (p, m, k) = at (Has-from_Contains (q ∷ []) p k)
  where
    at : Has (q ∷ []) p → ⊥
    at (inl e) = none (subst (Contains sorted) (sym e) m)
    at (inr i) = i

pub point_of_one : {X : Type 0} (f : X → List Point) (xs : List X) (i : ℕ) (x : X) → i < length xs → x ≡ get_or xs i x → (p : Point) → Contains (f x) p → Contains (all_points (map f xs)) p
point_of_one f xs i x h is p m =
    Contains-from_Has (all_points (map f xs)) p (Has-flat_map (λ (c : List Point). c) (map f xs) (f x) p (Has-map f xs x (Has-from_Contains xs x (i, h, sym is))) (Has-from_Contains (f x) p m))

-- the same points in another order share as much
pub shared_to : (sorted all second : List Point) → ((p : Point) → Contains sorted p ↔ Contains all p) → ShareSome all second → ShareSome sorted second
shared_to sorted all second same (p, m, k) = (p, (same p).1 m, k)
