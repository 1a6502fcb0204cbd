-- The nodes of a graph: the ends of its links in strict order, each once, and their numbers.
use Rattle.std.proofs.Common.{◌≡◌, ℕ, ◌<◌, ◌==◌, zero, suc, Bool, true, false, ◌||◌, List, [], ◌∷◌, length, get_or, Less, is_eq, refl, sym, ap, ◌∙◌, arith}
use Rattle.std.specs.Prelude.{position, unwrap_or}
use Rattle.std.specs.List.{AllByRecursion, list_any, position_or_len}
use Rattle.std.specs.List.Sorted.{IsStrictlySortedBy}
use Rattle.std.proofs.lemmas.List.{get_or_default}
use Rattle.std.proofs.lemmas.Bool.{or_left, or_right, lt-ltb, eq-eqb, ne_eqb, false≢true}
use Rattle.std.proofs.lemmas.List.Sums.{position_or_len_is}
use Rattle.std.proofs.lemmas.List.Folds.{list_any_at, Any-from_list_any}
use Rattle.overlay_geometry.specs.Points.{Point, Pair, point_cmp, point_eq, is_end}
use Rattle.overlay_base.specs.Segments.{ends}
use Rattle.overlay_build.specs.Graph.{node_points, node_number}
use Rattle.overlay_base.proofs.laws.geometry.Pairs.{has_point, has_point-distinct}
use Rattle.overlay_geometry.proofs.laws.geometry.Points.{point_cmp_total, same_by_eq, point_eq_same}
use Rattle.overlay_geometry.proofs.laws.lists.Keys.{IsStrictlySortedBy-distinct}

-- ---- the ends, in strict order

pub sorted_ends : (links : List Pair) → IsStrictlySortedBy point_cmp (node_points links)
unfolding node_points
sorted_ends links = IsStrictlySortedBy-distinct point_cmp_total (ends links)

-- ---- just the ends

or_assoc : (a b c : Bool) → (a || (b || c)) ≡ ((a || b) || c)
or_assoc true b c = refl
or_assoc false b c = refl

pub has_point-ends : (links : List Pair) (q : Point) → has_point (ends links) q ≡ list_any (λ l. is_end l q) links
has_point-ends [] q = refl
has_point-ends (l ∷ links) q = ap (λ b. point_eq q l.a || (point_eq q l.b || b)) (has_point-ends links q) ∙ or_assoc (point_eq q l.a) (point_eq q l.b) (list_any (λ l. is_end l q) links)

-- a point is among the nodes where it is an end of some link
pub node_points-exactly : (links : List Pair) (q : Point) → has_point (node_points links) q ≡ list_any (λ l. is_end l q) links
unfolding node_points
node_points-exactly links q = has_point-distinct (ends links) q ∙ has_point-ends links q

-- both ends of each link are
pub has_start : (links : List Pair) (i : ℕ) (d : Pair) → i < length links → has_point (node_points links) (get_or links i d).a ≡ true
has_start links i d h =
    let l : Pair = get_or links i d in
    node_points-exactly links l.a ∙ list_any_at (λ k. is_end k l.a) links i d h (or_left (point_eq l.a l.a) (point_eq l.a l.b) (point_eq_same l.a))

pub has_end : (links : List Pair) (i : ℕ) (d : Pair) → i < length links → has_point (node_points links) (get_or links i d).b ≡ true
has_end links i d h =
    let l : Pair = get_or links i d in
    node_points-exactly links l.b ∙ list_any_at (λ k. is_end k l.b) links i d h (or_right (point_eq l.b l.a) (point_eq l.b l.b) (point_eq_same l.b))

-- ---- numbers of nodes

above_at : (x : Point) (xs : List Point) (i : ℕ) (d : Point) → AllByRecursion (λ y. point_cmp x y ≡ Less) xs → i < length xs → point_cmp x (get_or xs i d) ≡ Less
above_at x [] i d a h = absurd (omega arith)
above_at x (y ∷ ys) zero d a h = a.0
above_at x (y ∷ ys) (suc i) d a h = above_at x ys i d a.1 (omega arith)

-- in strict order an earlier point is below a later one
pub sorted_at : (ks : List Point) (i j : ℕ) (d : Point) → IsStrictlySortedBy point_cmp ks → i < j → j < length ks → point_cmp (get_or ks i d) (get_or ks j d) ≡ Less
unfolding IsStrictlySortedBy
sorted_at [] i j d s l h = absurd (omega arith)
sorted_at (x ∷ xs) i zero d s l h = absurd (omega arith)
sorted_at (x ∷ xs) zero (suc j) d s l h = above_at x xs j d s.0 (omega arith)
sorted_at (x ∷ xs) (suc i) (suc j) d s l h = sorted_at xs i j d s.1 (omega arith) (omega arith)

first_place : (ks : List Point) (i : ℕ) (d : Point) → IsStrictlySortedBy point_cmp ks → i < length ks → position_or_len (λ q. point_eq q (get_or ks i d)) ks ≡ i
first_place ks i d s h =
    position_or_len_is (λ q. point_eq q (get_or ks i d)) ks i d (omega arith) (λ k l. ap is_eq (sorted_at ks k i d s l h)) (λ _. point_eq_same (get_or ks i d))

place_in : (ks : List Point) (i : ℕ) (d : Point) → IsStrictlySortedBy point_cmp ks → i < length ks → unwrap_or (position (λ q. point_eq q (get_or ks i d)) ks) 0 ≡ i
place_in ks i d s h =
    let e : position_or_len (λ q. point_eq q (get_or ks i d)) ks ≡ i = first_place ks i d s h in
    rw (e, lt-ltb i (length ks) h) refl

-- the number of an end is its place
pub node_number-at : (links : List Pair) (i : ℕ) (d : Point) → i < length (node_points links) → node_number links (get_or (node_points links) i d) ≡ i
unfolding node_number
node_number-at links i d h = place_in (node_points links) i d (sorted_ends links) h

-- at the number of an end is that end
pub node_number-of : (links : List Pair) (p d : Point) → has_point (node_points links) p ≡ true → (node_number links p < length (node_points links)) × (get_or (node_points links) (node_number links p) d ≡ p)
node_number-of links p d h =
    let found = Any-from_list_any (λ k. point_eq p k) (node_points links) h in
    let there : get_or (node_points links) found.0 d ≡ p = get_or_default (node_points links) found.0 d found.1 found.2 ∙ found.3 ∙ sym (same_by_eq p found.1 found.4) in
    let number : node_number links p ≡ found.0 = ap (node_number links) (sym there) ∙ node_number-at links found.0 d found.2 in
    (rw number found.2, rw number there)

-- a node's number is that of its point alone
pub node_number-is : (links : List Pair) (p d : Point) (m : ℕ) → has_point (node_points links) p ≡ true → m < length (node_points links) → (node_number links p == m) ≡ point_eq p (get_or (node_points links) m d)
node_number-is links p d m h l =
    by (point_eq p (get_or (node_points links) m d)) refl
  where
    by : (b : Bool) → point_eq p (get_or (node_points links) m d) ≡ b → (node_number links p == m) ≡ b
    by true e = eq-eqb (node_number links p) m (ap (node_number links) (same_by_eq p (get_or (node_points links) m d) e) ∙ node_number-at links m d l)
    by false e = ne_eqb (node_number links p) m (λ n. false≢true (sym e ∙ (ap (λ k. point_eq p (get_or (node_points links) k d)) (sym n) ∙ ap (point_eq p) (node_number-of links p d h).1 ∙ point_eq_same p)))
