-- Edges in order: what a binary search finds, and whether two lists share one.
use Rattle.std.proofs.Common.{◌≡◌, ap, sym, subst, ◌∙◌, ℕ, ◌<◌, ◌≤◌, Bool, inl, inr, List, [], ◌∷◌, ◌++◌, map, length, get_or, Result, Ok, Err, arith, ⊎_elim, Equal, ◌↔◌}
use Rattle.std.specs.Prelude.{Contains, IsTrue, is_ok, IsSortedByKey, IsPermutation}
use Rattle.std.specs.List.Sorted.{IsBinarySearchResult, IsSearchInRange}
use Rattle.std.proofs.lemmas.Bool.{both_ways, cases_order}
use Rattle.std.proofs.lemmas.Cmp.{tied_itself}
use Rattle.std.proofs.lemmas.Simd.{map-map}
use Rattle.std.proofs.lemmas.List.Elements.{Contains-get_or}
use Rattle.std.proofs.lemmas.List.Sorted.{searchable_from_sorted, Contains-permutation, IsPermutation-sym}
use Rattle.overlay_geometry.specs.Points.{Point, Pair, pair_cmp}
use Rattle.overlay_geometry.proofs.laws.geometry.Points.{pair_cmp_total, pair_same}
use Rattle.overlay_geometry.proofs.laws.lists.Lists.{Has, Has-map, Has-map_out}
use Rattle.overlay_geometry.proofs.laws.lists.Elements.{Contains-from_Has, Has-from_Contains, Has-append_out}
use Rattle.overlay_base.specs.Segments.{WholeSegment, pairs}
use Rattle.overlay_base.specs.declared.segm.shape_type.ShapeType.TheVariants.{Subject}
use Rattle.overlay_contours.specs.Contours.{edges}
use Rattle.overlay_contours.specs.ContourSegments.{overlay_segments}
use Rattle.overlay_relations.specs.MatrixLaws.{HaveCommonEdge}
use Rattle.overlay_relations.specs.steps.MatrixOutcomes.{ShareSomePair}
use Rattle.overlay_relations.proofs.laws.Boundaries.{subject_alone, contour_pairs}

-- the segments of one shape have its edges
pub pairs_alone : (contours : List (List Point)) → pairs (overlay_segments contours []) ≡ edges contours
pairs_alone contours = ap pairs (subject_alone contours) ∙ contour_pairs Subject contours

-- ---- a binary search

pub found_pair : {X : Type 0} (f : X → Pair) (xs : List X) (x : X) (r : Result ℕ ℕ) (b : Bool) → IsSortedByKey f pair_cmp xs → IsSearchInRange r (length xs) →
    IsBinarySearchResult (λ y. pair_cmp (f y) (f x)) xs r → b ≡ is_ok r → IsTrue b ↔ Contains (map f xs) (f x)
found_pair {X = X} f xs x (Ok i) b s inside at e = (λ _. there, λ _. e)
  where
    there : Contains (map f xs) (f x)
    there =
        let same : f (get_or xs i x) ≡ f x = pair_same (f (get_or xs i x)) (f x) (at x) in
        subst (λ (p : Pair). Contains (map f xs) p) same (Contains-from_Has (map f xs) (f (get_or xs i x)) (Has-map f xs (get_or xs i x) (Has-from_Contains xs (get_or xs i x) (Contains-get_or xs i x inside))))
found_pair {X = X} f xs x (Err i) b s inside at e = (λ t. absurd (both_ways b e t), λ h. absurd (none h))
  where
    none : Contains (map f xs) (f x) → ⊥
    none h =
        let r = Has-map_out f xs (f x) (Has-from_Contains (map f xs) (f x) h) in
        let k = Contains-from_Has xs r.0 r.1 in
        let parts = at (searchable_from_sorted pair_cmp_total f xs (f x) s) in
        let tied : pair_cmp (f (get_or xs k.0 r.0)) (f x) ≡ Equal = ap (λ y. pair_cmp (f y) (f x)) k.2 ∙ ap (λ p. pair_cmp p (f x)) r.2 ∙ tied_itself pair_cmp_total (f x) in
        let above : i ≤ k.0 → ⊥ = λ l. cc (parts.1 k.0 r.0 l k.1, tied) in
        ⊎_elim
        (λ e. above (omega (arith, e)))
        (λ o. ⊎_elim (λ l. cc (parts.0 k.0 r.0 (omega arith) l, tied)) (λ l. above (omega (arith, l))) o)
        (cases_order k.0 i)

-- ---- a pair in both of two lists

pub none_further : (sorted before more next : List Pair) → more ≡ before ++ next → (ShareSomePair sorted before → ⊥) → (ShareSomePair sorted next → ⊥) → ShareSomePair sorted more → ⊥
none_further sorted before more next is none other (p, m, k) = elim (Has-append_out before next p (Has-from_Contains (before ++ next) p (subst (λ (l : List Pair). Contains l p) is k))) [
  | inl i ↦ none (p, m, Contains-from_Has before p i)
  | inr i ↦ other (p, m, Contains-from_Has next p i)
]

pub not_one : (sorted : List Pair) (q : Pair) → (Contains sorted q → ⊥) → ShareSomePair sorted (q ∷ []) → ⊥
not_one sorted q none (p, m, k) = at (Has-from_Contains (q ∷ []) p k)
  where
    at : Has (q ∷ []) p → ⊥
    at (inl e) = none (subst (Contains sorted) (sym e) m)
    at (inr i) = i

-- the same pairs in another order
pub reordered : {X : Type 0} (f : X → Pair) (xs ys : List X) → IsPermutation xs ys → (e : Pair) → Contains (map f ys) e ↔ Contains (map f xs) e
reordered {X = X} f xs ys same e =
    (turn ys xs (λ x. Contains-permutation ys xs x (IsPermutation-sym xs ys same)), turn xs ys (λ x. Contains-permutation xs ys x same))
  where
    turn : (from to : List X) → ((x : X) → Contains from x → Contains to x) → Contains (map f from) e → Contains (map f to) e
    turn from to h i =
        let r = Has-map_out f from e (Has-from_Contains (map f from) e i) in
        Contains-from_Has (map f to) e (subst (λ (q : Pair). Has (map f to) q) r.2 (Has-map f to r.0 (Has-from_Contains to r.0 (h r.0 (Contains-from_Has from r.0 r.1)))))

-- they share as much
pub shared_edges : (sorted others : List Pair) (first second : List (List Point)) (found : Bool) → ((e : Pair) → Contains sorted e ↔ Contains (edges first) e) → others ≡ edges second → (IsTrue found ↔ ShareSomePair sorted others) → IsTrue found ↔ HaveCommonEdge first second
shared_edges sorted others first second found same o h = (
  λ t. let s = h.0 t in (s.0, (same s.0).0 s.1, subst (λ (l : List Pair). Contains l s.0) o s.2),
  λ c. h.1 (c.0, (same c.0).1 c.1, subst (λ (l : List Pair). Contains l c.0) (sym o) c.2),
)

-- the ends of the segments of one shape are its edges
pub sides_are : {X : Type 0} (f : X → WholeSegment) (xs : List X) (contours : List (List Point)) → map f xs ≡ overlay_segments contours [] → map (λ x. (f x).pair) xs ≡ edges contours
sides_are f xs contours e = sym (map-map (λ (s : WholeSegment). s.pair) f xs) ∙ ap pairs e ∙ pairs_alone contours

-- ---- edges by their places

pub side_at : {X : Type 0} (f : X → WholeSegment) (xs : List X) (i : ℕ) (x : X) → i < length xs → x ≡ get_or xs i x → Contains (pairs (map f xs)) (f x).pair
side_at f xs i x inside is = Contains-from_Has (pairs (map f xs)) (f x).pair (Has-map (λ (s : WholeSegment). s.pair) (map f xs) (f x) (Has-map f xs x (Has-from_Contains xs x (i, inside, sym is))))

pub below_end : (i end len : ℕ) → i < end → end ≤ len → i < len
below_end i end len l k = omega (arith, l, k)
