-- The segments of a list that start at one point, and their order by angle.
use Rattle.std.proofs.Common.{◌≡◌, ap, ap₂, refl, sym, subst, ◌∙◌, arith, get_or, Ordering, is_eq}
use Rattle.std.proofs.Common.{zero-add}
use Rattle.std.specs.Prelude.{ℕ, zero, suc, ◌+◌, ◌-◌, ◌<◌, ◌≤◌, ℤ, Bool, true, ◌&&◌, List, [], ◌∷◌, ◌++◌, map, length, take, drop}
use Rattle.std.specs.List.{enumerate_from}
use Rattle.std.specs.Cmp.{IsStrictWeakOrder}
use Rattle.std.proofs.lemmas.List.FromFn.{length-enumerate_from, get_or-enumerate_from}
use Rattle.std.specs.Ordering.{int_cmp, eq_by_cmp, is_lt}
use Rattle.std.proofs.lemmas.List.{get_or-map, length-map, get_or-drop, length-drop, take_more}
use Rattle.overlay_geometry.specs.Points.{Point, Pair, point_eq, is_ordered}
use Rattle.overlay_base.specs.Segments.{WholeSegment, pairs}
use Rattle.overlay_geometry.specs.Below.{angle_cmp}
use Rattle.overlay_geometry.specs.PointOf.{point_of}
use Rattle.overlay_geometry.specs.declared.geom.point.IntPoint.{IntPoint}
use Rattle.overlay_sweep.specs.steps.WayOf.{WholeWay, ways_between}
use Rattle.overlay_sweep.proofs.laws.live.Supports.{angle_asymmetric, angle-chain}
use Rattle.overlay_geometry.proofs.laws.geometry.Points.{is_eq-then}

-- ---- equal points

whole_eq : {I : Type 0} (eq : I → I → Bool) (cmp : I → I → Ordering) (whole : I → ℤ) → ((a b : I) → eq a b ≡ eq_by_cmp cmp a b) → ((a b : I) → cmp a b ≡ int_cmp (whole a) (whole b)) → (a b : I) → eq a b ≡ is_eq (int_cmp (whole a) (whole b))
whole_eq eq cmp whole e o a b = e a b ∙ ap is_eq (o a b)

-- `==` of points is that of their whole numbers
pub point_eq_is : {I : Type 0} (eq : I → I → Bool) (cmp : I → I → Ordering) (whole : I → ℤ) → ((a b : I) → eq a b ≡ eq_by_cmp cmp a b) → ((a b : I) → cmp a b ≡ int_cmp (whole a) (whole b)) → (p q : IntPoint I) → (eq p.x q.x && eq p.y q.y) ≡ point_eq (point_of whole p) (point_of whole q)
point_eq_is eq cmp whole e o p q = ap₂ (λ a b. a && b) (whole_eq eq cmp whole e o p.x q.x) (whole_eq eq cmp whole e o p.y q.y) ∙ sym (is_eq-then (int_cmp (whole p.x) (whole q.x)) (int_cmp (whole p.y) (whole q.y)))

-- ---- the block of segments with one start

pub pair_at : {X : Type 0} (f : X → WholeSegment) (xs : List X) (k : ℕ) (x : X) (d : Pair) → k < length xs → x ≡ get_or xs k x → get_or (pairs (map f xs)) k d ≡ (f x).pair
pair_at f xs k x d h e =
    let within : k < length (map f xs) = rw length-map h in
    get_or-map (λ (s : WholeSegment). s.pair) (map f xs) k (f x) d within ∙ ap (λ (s : WholeSegment). s.pair) (get_or-map f xs k x (f x) h ∙ ap f (sym e))

pub same_start_first : (ps : List Pair) (p : Point) (i : ℕ) → ((d : Pair) → (get_or ps i d).a ≡ p) → (k : ℕ) (d : Pair) → i ≤ k → k < i + 1 → (get_or ps k d).a ≡ p
same_start_first ps p i here k d h l = let e : i ≡ k = omega (arith, h, l) in subst (λ j. (get_or ps j d).a ≡ p) e (here d)

by_last : {P : Type 0} (k n : ℕ) → k < n + 1 → (k < n → P) → (n ≡ k → P) → P
by_last zero zero h f g = g refl
by_last zero (suc n) h f g = f (omega arith)
by_last (suc k) zero h f g = absurd (omega (arith, h))
by_last (suc k) (suc n) h f g = by_last k n (omega (arith, h)) (λ l. f (omega (arith, l))) (λ e. g (ap suc e))

pub same_start_more : (ps : List Pair) (p : Point) (i n : ℕ) → ((k : ℕ) (d : Pair) → i ≤ k → k < n → (get_or ps k d).a ≡ p) → ((d : Pair) → (get_or ps n d).a ≡ p) → (k : ℕ) (d : Pair) → i ≤ k → k < n + 1 → (get_or ps k d).a ≡ p
same_start_more ps p i n before here k d h l = by_last k n l (λ m. before k d h m) (λ e. subst (λ j. (get_or ps j d).a ≡ p) e (here d))

-- ---- what holds up to a place, one place more

pub each_more : {D : Type 0} (P : ℕ → D → Type 0) (n : ℕ) → ((k : ℕ) (d : D) → k < n → P k d) → ((d : D) → P n d) → (k : ℕ) (d : D) → k < n + 1 → P k d
each_more P n before here k d h = by_last k n h (λ l. before k d l) (λ e. subst (λ j. P j d) e (here d))

-- ---- the ways of a block of segments

abbrev listed_way : ℕ × WholeSegment → WholeWay
listed_way e = record { index = e.0; pair = e.1.pair }

-- one element more of the part of a list from a place on
pub take_drop-more : {Y : Type 0} (ys : List Y) (i at : ℕ) (y : Y) → i ≤ at → at < length ys → get_or ys at y ≡ y → take ((at + 1) - i) (drop i ys) ≡ take (at - i) (drop i ys) ++ y ∷ []
take_drop-more ys i at y order h here =
    let left : at - i < length (drop i ys) = rw length-drop (omega (arith, h, order)) in
    let back : i + (at - i) ≡ at = omega (arith, order) in
    let more : (at + 1) - i ≡ (at - i) + 1 = omega (arith, order) in
    let last : get_or (drop i ys) (at - i) y ≡ y = get_or-drop i ys (at - i) y ∙ ap (λ n. get_or ys n y) back ∙ here in
    ap (λ n. take n (drop i ys)) more ∙ take_more (drop i ys) (at - i) y left ∙ ap (λ z. take (at - i) (drop i ys) ++ z ∷ []) last

pub ways_between-more : {X : Type 0} (f : X → WholeSegment) (xs : List X) (i at : ℕ) (x : X) → i ≤ at → at < length xs → x ≡ get_or xs at x → ways_between (map f xs) i (at + 1) ≡ ways_between (map f xs) i at ++ record { index = at; pair = (f x).pair } ∷ []
ways_between-more f xs i at x order h e =
    let d : WholeWay = record { index = at; pair = (f x).pair } in
    let mapped : at < length (map f xs) = rw length-map h in
    let listed : at < length (enumerate_from 0 (map f xs)) = rw length-enumerate_from mapped in
    take_drop-more (map listed_way (enumerate_from 0 (map f xs))) i at d order (rw length-map listed)
    (get_or-map listed_way (enumerate_from 0 (map f xs)) at (0, f x) d listed
    ∙ ap listed_way (get_or-enumerate_from 0 (map f xs) at (0, f x) mapped)
    ∙ ap (λ (s : WholeSegment). record { index = 0 + at; pair = s.pair }) (get_or-map f xs at x (f x) h ∙ ap f (sym e))
    ∙ ap (λ n. record { index = n; pair = (f x).pair }) (zero-add at))

-- ways in order can be compared
pub by_angle-ranks : {X : Type 0} (f : X → WholeWay) → ((x : X) → is_ordered (f x).pair ≡ true) → IsStrictWeakOrder (λ x y. is_lt (angle_cmp (f x).pair (f y).pair))
by_angle-ranks f ordered = record {
  one_way = λ x y. angle_asymmetric (f x).pair (f y).pair;
  chain = λ x y z. angle-chain (f x).pair (f y).pair (f z).pair (ordered x) (ordered y) (ordered z);
}
