-- What a binary search among points in order finds.
use Rattle.std.proofs.Common.{◌≡◌, ap, ◌∙◌, ℕ, ◌≤◌, Bool, List, map, length, get_or, Result, Ok, Err, subst, arith, ⊎_elim, Equal, ◌↔◌}
use Rattle.std.specs.Prelude.{Contains, IsTrue, is_ok, IsSortedByKey}
use Rattle.std.specs.List.Sorted.{IsBinarySearchResult, IsSearchInRange}
use Rattle.std.proofs.lemmas.Bool.{both_ways, cases_order}
use Rattle.std.proofs.lemmas.Cmp.{tied_itself}
use Rattle.std.proofs.lemmas.List.Elements.{Contains-get_or}
use Rattle.std.proofs.lemmas.List.Sorted.{searchable_from_sorted}
use Rattle.overlay_geometry.specs.Points.{Point, point_cmp}
use Rattle.overlay_geometry.proofs.laws.geometry.Points.{point_cmp_total, point_same}
use Rattle.overlay_geometry.proofs.laws.lists.Lists.{Has-map, Has-map_out}
use Rattle.overlay_geometry.proofs.laws.lists.Elements.{Contains-from_Has, Has-from_Contains}

pub found_among : {X : Type 0} (f : X → Point) (xs : List X) (x : X) (r : Result ℕ ℕ) (b : Bool) → IsSortedByKey f point_cmp xs → IsSearchInRange r (length xs) →
    IsBinarySearchResult (λ y. point_cmp (f y) (f x)) xs r → b ≡ is_ok r → IsTrue b ↔ Contains (map f xs) (f x)
found_among {X = X} f xs x (Ok i) b s inside at e = (λ _. there, λ _. e)
  where
    there : Contains (map f xs) (f x)
    there =
        let same : f (get_or xs i x) ≡ f x = point_same (f (get_or xs i x)) (f x) (at x) in
        subst (λ (p : Point). Contains (map f xs) p) same (Contains-from_Has (map f xs) (f (get_or xs i x)) (Has-map f xs (get_or xs i x) (Has-from_Contains xs (get_or xs i x) (Contains-get_or xs i x inside))))
found_among {X = X} f xs x (Err i) b s inside at e = (λ t. absurd (both_ways b e t), λ h. absurd (none h))
  where
    none : Contains (map f xs) (f x) → ⊥
    none h =
        let r = Has-map_out f xs (f x) (Has-from_Contains (map f xs) (f x) h) in
        let k = Contains-from_Has xs r.0 r.1 in
        let parts = at (searchable_from_sorted point_cmp_total f xs (f x) s) in
        let tied : point_cmp (f (get_or xs k.0 r.0)) (f x) ≡ Equal = ap (λ y. point_cmp (f y) (f x)) k.2 ∙ ap (λ p. point_cmp p (f x)) r.2 ∙ tied_itself point_cmp_total (f x) in
        let above : i ≤ k.0 → ⊥ = λ l. cc (parts.1 k.0 r.0 l k.1, tied) in
        ⊎_elim
        (λ e. above (omega (arith, e)))
        (λ o. ⊎_elim (λ l. cc (parts.0 k.0 r.0 (omega arith) l, tied)) (λ l. above (omega (arith, l))) o)
        (cases_order k.0 i)
