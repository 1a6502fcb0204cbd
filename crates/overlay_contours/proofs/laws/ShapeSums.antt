-- How shapes wind: each shape's links as shares of all links, and what it follows that no place lies in two.
use Rattle.std.proofs.Common.{◌≡◌, ℕ, zero, suc, ◌+◌, ◌<◌, ◌≤◌, ◌==◌, ◌⊎◌, inl, inr, Bool, true, false, cond, if◌then◌else◌, List, [], ◌∷◌, ◌++◌, map, length, get_or, refl, sym, ap, ap₂, subst, ◌∙◌, arith}
use Rattle.std.specs.Prelude.{ℤ, pos, negsuc, ◌+ℤ◌, ◌-ℤ◌, ◌*ℤ◌, count_by, Some}
use Rattle.std.specs.List.{AllByRecursion, list_all}
use Rattle.std.proofs.lemmas.Bool.{eqb-true, eq-eqb, and_parts, cases_Bool}
use Rattle.std.proofs.lemmas.Int.{ints}
use Rattle.std.proofs.lemmas.List.{length-map, get_or-map}
use Rattle.std.proofs.lemmas.List.Sums.{sum_by-cons}
use Rattle.std.proofs.lemmas.Grind.{flat_map-append}
use Rattle.overlay_geometry.specs.Points.{Point, Pair, point_eq, pair_eq, pair_lt, pair_cmp, is_ordered}
use Rattle.overlay_geometry.specs.Sorting.{is_strictly_sorted}
use Rattle.overlay_geometry.proofs.laws.geometry.Points.{pair_eq_same, from_not_same_pair}
use Rattle.overlay_geometry.proofs.laws.geometry.Polynomials.{as_D, diffs, D-eq}
use Rattle.overlay_geometry.proofs.laws.integers.Products.{times_zero}
use Rattle.overlay_geometry.proofs.laws.lists.Lists.{Has, AllByRecursion-flat_map, AllByRecursion-weaker, list_all-at}
use Rattle.overlay_base.specs.Places.{RationalPoint, lies_below}
use Rattle.overlay_base.specs.Rules.{top_value}
use Rattle.overlay_base.specs.Segments.{WholeSegment, pairs}
use Rattle.overlay_base.specs.Sums.{gathered}
use Rattle.overlay_sweep.specs.ChainWindings.{support, bottom}
use Rattle.overlay_sweep.proofs.laws.columns.Members.{IsArranged, single_sum, sorted_all, sorted_tail, differ_when_less}
use Rattle.overlay_sweep.proofs.laws.columns.WeightSums.{when, sum_of, sum_of-add, sum_of-same}
use Rattle.overlay_sweep.proofs.laws.live.Sides.{sum_of-zero_in}
use Rattle.overlay_build.specs.Boundary.{of_subject, direction, directed_links}
use Rattle.overlay_build.specs.DirectedWalks.{arcs, no_link, contour, IsDirectedWalk}
use Rattle.overlay_build.specs.DirectedWalks.{turned as turned_link}
use Rattle.overlay_build.specs.Graph.{Filled, Link, graph_of}
use Rattle.overlay_contours.specs.Contours.{steps, steps_of, steps_from, step_winding, winding_number}
use Rattle.overlay_contours.proofs.laws.DirectedWindings.{one_link}
use Rattle.overlay_contours.proofs.laws.Extracts.{steps_of_walks, links_are_ordered}
use Rattle.overlay_shapes.specs.Gathered.{all_links}
use Rattle.overlay_shapes.proofs.laws.SharedRegions.{share_winding, share_flow, shares_apart}

-- ---- sums

spread_left : (a b c : ℤ) → (a +ℤ b) *ℤ c ≡ a *ℤ c +ℤ b *ℤ c
spread_left a b c = rw (as_D a, as_D b, as_D c) (simp diffs (D-eq _ _ _ _ (omega arith)))

spread_less : (a b c : ℤ) → a *ℤ b -ℤ a *ℤ c ≡ a *ℤ (b -ℤ c)
spread_less a b c = rw (as_D a, as_D b, as_D c) (simp diffs (D-eq _ _ _ _ (omega arith)))

one_times : (x : ℤ) → pos 1 *ℤ x ≡ x
one_times x = omega (arith, ints)

none_times : (x : ℤ) → pos 0 *ℤ x ≡ pos 0
none_times x = omega (arith, ints)

when_times : (b : Bool) (x : ℤ) → when b (pos 1) *ℤ x ≡ when b x
when_times true x = one_times x
when_times false x = none_times x

times_when : (b : Bool) (a x : ℤ) → when b (a *ℤ x) ≡ a *ℤ when b x
times_when true a x = refl
times_when false a x = sym (times_zero a)

sum_of-append : {X : Type 0} (f : X → ℤ) (xs ys : List X) → sum_of f (xs ++ ys) ≡ sum_of f xs +ℤ sum_of f ys
sum_of-append f [] ys = omega (arith, ints)
sum_of-append f (x ∷ xs) ys = let r = sum_of-append f xs ys in omega (arith, ints, r)

sum_of-mapped : {X Y : Type 0} (f : X → Y) (g : Y → ℤ) (xs : List X) → sum_of g (map f xs) ≡ sum_of (λ x. g (f x)) xs
sum_of-mapped f g [] = refl
sum_of-mapped f g (x ∷ xs) = ap (λ (z : ℤ). g (f x) +ℤ z) (sum_of-mapped f g xs)

sum_of-each : {X : Type 0} (P : X → Type 0) (f g : X → ℤ) (xs : List X) → AllByRecursion P xs → ((x : X) → P x → f x ≡ g x) → sum_of f xs ≡ sum_of g xs
sum_of-each P f g [] a h = refl
sum_of-each P f g (x ∷ xs) a h = ap₂ (λ (u v : ℤ). u +ℤ v) (h x a.0) (sum_of-each P f g xs a.1 h)

pub gathered_sum : (f : Pair → ℤ) (xs : List Pair) → gathered ◌+ℤ◌ (pos 0) f xs ≡ sum_of f xs
gathered_sum f [] = refl
gathered_sum f (x ∷ xs) = ap (λ (z : ℤ). f x +ℤ z) (gathered_sum f xs)

pub winds_in_sums : (contours : List (List Point)) (p : RationalPoint) → winding_number contours p ≡ sum_of (step_winding p) (steps contours)
unfolding winding_number
winds_in_sums contours p = gathered_sum (step_winding p) (steps contours)

-- more contours wind together
pub winds-append : (xs ys : List (List Point)) (p : RationalPoint) → winding_number (xs ++ ys) p ≡ winding_number xs p +ℤ winding_number ys p
winds-append xs ys p =
    winds_in_sums (xs ++ ys) p ∙ ap (sum_of (step_winding p)) (flat_map-append steps_of xs ys) ∙ sum_of-append (step_winding p) (steps xs) (steps ys)
    ∙ ap₂ (λ (u v : ℤ). u +ℤ v) (sym (winds_in_sums xs p)) (sym (winds_in_sums ys p))

-- ---- what a step takes from a point to another

abbrev leaves : Point → Pair → ℤ
leaves q e = when (point_eq e.a q) (pos 1) -ℤ when (point_eq e.b q) (pos 1)

along_steps : (q p r : Point) (points : List Point) → sum_of (leaves q) (steps_from p (points ++ r ∷ [])) ≡ when (point_eq p q) (pos 1) -ℤ when (point_eq r q) (pos 1)
along_steps q p r [] = omega (arith, ints)
along_steps q p r (s ∷ points) = let h = along_steps q s r points in omega (arith, ints, h)

round_contour : (q : Point) (c : List Point) → sum_of (leaves q) (steps_of c) ≡ pos 0
round_contour q [] = refl
round_contour q (p ∷ points) = let h = along_steps q p p points in omega (arith, ints, h)

round_contours : (q : Point) (cs : List (List Point)) → sum_of (leaves q) (steps cs) ≡ pos 0
round_contours q [] = refl
round_contours q (c ∷ cs) = sum_of-append (leaves q) (steps_of c) (steps cs) ∙ (let h = round_contour q c in let k = round_contours q cs in omega (arith, ints, h, k))

less_at : (x : WholeSegment) (ys : List WholeSegment) (n : ℕ) (f : WholeSegment) → list_all (λ y. pair_lt x.pair y.pair) ys ≡ true → n < length ys → pair_lt x.pair (get_or ys n f).pair ≡ true
less_at x [] n f a l = absurd (omega (arith, l))
less_at x (y ∷ ys) zero f a l = (and_parts (pair_lt x.pair y.pair) _ a).0
less_at x (y ∷ ys) (suc n) f a l = less_at x ys n f (and_parts (pair_lt x.pair y.pair) _ a).1 (omega (arith, l))

pub index_by_pair : (xs : List WholeSegment) (i j : ℕ) (d e : WholeSegment) → is_strictly_sorted pair_cmp (pairs xs) ≡ true → i < length xs → j < length xs → (get_or xs i d).pair ≡ (get_or xs j e).pair → i ≡ j
index_by_pair [] i j d e o h k s = absurd (omega (arith, h))
index_by_pair (x ∷ xs) zero zero d e o h k s = refl
index_by_pair (x ∷ xs) zero (suc j) d e o h k s = absurd (differ_when_less x.pair (get_or xs j e).pair (less_at x xs j e (sorted_all x xs o) (omega (arith, k))) s)
index_by_pair (x ∷ xs) (suc i) zero d e o h k s = absurd (differ_when_less x.pair (get_or xs i d).pair (less_at x xs i d (sorted_all x xs o) (omega (arith, h))) (sym s))
index_by_pair (x ∷ xs) (suc i) (suc j) d e o h k s = let r = index_by_pair xs i j d e (sorted_tail x xs o) (omega (arith, h)) (omega (arith, k)) s in omega (arith, r)

-- ---- links as shares

module _ (rule : Bool → Bool → Bool) (kept : List Filled) (ordered : list_all (λ f. is_ordered f.pair) kept ≡ true) (arranged : IsArranged (directed_links rule (graph_of kept))) where
  abbrev pub links : List Link
  links = (graph_of kept).links

  abbrev pub ways : List Link
  ways = arcs rule links

  abbrev pub runs : List WholeSegment
  runs = directed_links rule (graph_of kept)

  abbrev pub none : WholeSegment
  none = record { pair = no_link.pair; count = of_subject (direction rule 0) }

  abbrev pub at : ℕ → WholeSegment
  at j = get_or (directed_links rule (graph_of kept)) j none

  abbrev pub way_at : ℕ → Pair
  way_at j = (get_or ways j no_link).pair

  abbrev pub counted : Link → WholeSegment
  counted l = record { pair = l.pair; count = of_subject (direction rule l.fill) }

  pub as_many : length ways ≡ length links
  as_many = length-map links _

  pub runs_many : length (directed_links rule (graph_of kept)) ≡ length links
  unfolding directed_links
  runs_many = length-map links counted

  pub at_is : (j : ℕ) → j < length links → at j ≡ counted (get_or links j no_link)
  unfolding directed_links
  at_is j h = get_or-map counted links j no_link none h

  pub way_is : (j : ℕ) → j < length links → get_or ways j no_link ≡ (if top_value rule (get_or links j no_link).fill then get_or links j no_link else turned_link (get_or links j no_link))
  way_is j h = get_or-map _ links j no_link no_link h

  is_right : (j : ℕ) → j < length links → is_ordered (get_or links j no_link).pair ≡ true
  is_right j h = list_all-at (λ (l : Link). is_ordered l.pair) links (get_or links j no_link) (links_are_ordered rule kept ordered) (has_at links j h)
    where
      has_at : (ls : List Link) (k : ℕ) → k < length ls → Has ls (get_or ls k no_link)
      has_at [] k l = absurd (omega (arith, l))
      has_at (x ∷ ls) zero l = inl refl
      has_at (x ∷ ls) (suc k) l = inr (has_at ls k (omega (arith, l)))

  pub has_run : (j : ℕ) → j < length links → Has (directed_links rule (graph_of kept)) (at j)
  has_run j h = has_at (directed_links rule (graph_of kept)) j (omega (arith, h, runs_many))
    where
      has_at : (ls : List WholeSegment) (k : ℕ) → k < length ls → Has ls (get_or ls k none)
      has_at [] k l = absurd (omega (arith, l))
      has_at (x ∷ ls) zero l = inl refl
      has_at (x ∷ ls) (suc k) l = inr (has_at ls k (omega (arith, l)))

  -- a link winds as its way
  winds_at : (p : RationalPoint) (j : ℕ) → j < length links → step_winding p (way_at j) ≡ when (lies_below (at j).pair p) (at j).count.subj
  unfolding direction
  winds_at p j h =
      ap (λ (l : Link). step_winding p l.pair) (way_is j h) ∙ one_link p (top_value rule (get_or links j no_link).fill) (get_or links j no_link) (is_right j h)
      ∙ ap (λ (s : WholeSegment). when (lies_below s.pair p) s.count.subj) (sym (at_is j h))

  leaves_at : (q : Point) (j : ℕ) → j < length links → leaves q (way_at j) ≡ when (point_eq (at j).pair.a q) (at j).count.subj -ℤ when (point_eq (at j).pair.b q) (at j).count.subj
  unfolding direction
  leaves_at q j h =
      ap (λ (l : Link). leaves q l.pair) (way_is j h) ∙ either (top_value rule (get_or links j no_link).fill) (get_or links j no_link)
      ∙ ap (λ (s : WholeSegment). when (point_eq s.pair.a q) s.count.subj -ℤ when (point_eq s.pair.b q) s.count.subj) (sym (at_is j h))
    where
      both : (a b : Bool) → when b (pos 1) -ℤ when a (pos 1) ≡ when a (negsuc 0) -ℤ when b (negsuc 0)
      both true true = refl
      both true false = refl
      both false true = refl
      both false false = refl

      either : (t : Bool) (l : Link) → leaves q (if t then l else turned_link l).pair ≡ when (point_eq l.pair.a q) (if t then pos 1 else negsuc 0) -ℤ when (point_eq l.pair.b q) (if t then pos 1 else negsuc 0)
      either true l = refl
      either false l = both (point_eq l.pair.a q) (point_eq l.pair.b q)

  -- how often a segment is among the links of a list
  abbrev pub share : List ℕ → WholeSegment → ℤ
  share js s = sum_of (λ j. when (pair_eq s.pair (at j).pair) (pos 1)) js

  abbrev pub AreLow : List ℕ → Type 0
  AreLow js = AllByRecursion (λ j. j < length links) js

  share_sum : (f : WholeSegment → ℤ) (js : List ℕ) → AreLow js → sum_of (λ s. share js s *ℤ f s) (directed_links rule (graph_of kept)) ≡ sum_of (λ j. f (at j)) js
  share_sum f [] a = sum_of-zero_in (λ s. pos 0 *ℤ f s) (directed_links rule (graph_of kept)) (λ s m. none_times (f s))
  share_sum f (j ∷ js) a =
      sum_of-add (λ s. (when (pair_eq s.pair (at j).pair) (pos 1) +ℤ share js s) *ℤ f s) (λ s. when (pair_eq s.pair (at j).pair) (f s)) (λ s. share js s *ℤ f s) (directed_links rule (graph_of kept))
      (λ s. spread_left (when (pair_eq s.pair (at j).pair) (pos 1)) (share js s) (f s) ∙ ap (λ z. z +ℤ share js s *ℤ f s) (when_times (pair_eq s.pair (at j).pair) (f s)))
      ∙ ap₂ (λ (u v : ℤ). u +ℤ v) (single_sum f (at j) (directed_links rule (graph_of kept)) arranged.sorted (has_run j a.0)) (share_sum f js a.1)

  abbrev pub AreWalks : List (List ℕ) → Type 0
  AreWalks walks = AllByRecursion (IsDirectedWalk ways) walks

  pub low_links : (walks : List (List ℕ)) → AreWalks walks → AreLow (all_links walks)
  low_links walks a = AllByRecursion-flat_map (λ w. w) (λ j. j < length links) walks (AllByRecursion-weaker (IsDirectedWalk ways) (λ w. AllByRecursion (λ j. j < length links) w) (λ w d. low w (λ k e h. subst (λ n. get_or w k e < n) as_many (d.1.1.within k e h))) walks a)
    where
      low : (w : List ℕ) → ((k d : ℕ) → k < length w → get_or w k d < length links) → AllByRecursion (λ j. j < length links) w
      low [] h = tt
      low (j ∷ w) h = (h 0 0 (omega arith), low w (λ k d l. h (suc k) d (omega (arith, l))))

  sum_over_steps : (f : Pair → ℤ) (walks : List (List ℕ)) → AreWalks walks → sum_of f (steps (map (contour ways) walks)) ≡ sum_of (λ j. f (way_at j)) (all_links walks)
  sum_over_steps f walks a = ap (sum_of f) (steps_of_walks rule kept ordered walks a) ∙ sum_of-mapped way_at f (all_links walks)

  -- walks wind as the share of their links
  pub winds_as_share : (walks : List (List ℕ)) → AreWalks walks → (p : RationalPoint) → share_winding runs (share (all_links walks)) p ≡ winding_number (map (contour ways) walks) p
  winds_as_share walks a p =
      sum_of-same (λ s. when (lies_below s.pair p) (share (all_links walks) s *ℤ s.count.subj)) (λ s. share (all_links walks) s *ℤ when (lies_below s.pair p) s.count.subj) runs (λ s. times_when (lies_below s.pair p) (share (all_links walks) s) s.count.subj)
      ∙ share_sum (λ s. when (lies_below s.pair p) s.count.subj) (all_links walks) (low_links walks a)
      ∙ sum_of-each (λ j. j < length links) (λ j. when (lies_below (at j).pair p) (at j).count.subj) (λ j. step_winding p (way_at j)) (all_links walks) (low_links walks a) (λ j h. sym (winds_at p j h))
      ∙ sym (sum_over_steps (step_winding p) walks a) ∙ sym (winds_in_sums (map (contour ways) walks) p)

  -- as walks are closed, it gains nothing at any point
  pub flows_as_share : (walks : List (List ℕ)) → AreWalks walks → (q : Point) → share_flow runs (share (all_links walks)) q ≡ pos 0
  flows_as_share walks a q =
      sum_of-same (λ s. when (point_eq s.pair.a q) (share (all_links walks) s *ℤ s.count.subj) -ℤ when (point_eq s.pair.b q) (share (all_links walks) s *ℤ s.count.subj)) (λ s. share (all_links walks) s *ℤ (when (point_eq s.pair.a q) s.count.subj -ℤ when (point_eq s.pair.b q) s.count.subj)) runs
      (λ s. ap₂ (λ (u v : ℤ). u -ℤ v) (times_when (point_eq s.pair.a q) (share (all_links walks) s) s.count.subj) (times_when (point_eq s.pair.b q) (share (all_links walks) s) s.count.subj) ∙ spread_less (share (all_links walks) s) (when (point_eq s.pair.a q) s.count.subj) (when (point_eq s.pair.b q) s.count.subj))
      ∙ share_sum (λ s. when (point_eq s.pair.a q) s.count.subj -ℤ when (point_eq s.pair.b q) s.count.subj) (all_links walks) (low_links walks a)
      ∙ sum_of-each (λ j. j < length links) (λ j. when (point_eq (at j).pair.a q) (at j).count.subj -ℤ when (point_eq (at j).pair.b q) (at j).count.subj) (λ j. leaves q (way_at j)) (all_links walks) (low_links walks a) (λ j h. sym (leaves_at q j h))
      ∙ sym (sum_over_steps (leaves q) walks a) ∙ round_contours q (map (contour ways) walks)

  -- ---- the share of a link, by how often it is in a list

  same_pair : (i j : ℕ) → i < length links → j < length links → pair_eq (at i).pair (at j).pair ≡ (j == i)
  same_pair i j h l = elim (cases_Bool (j == i)) [
    | inl e ↦ ap (λ k. pair_eq (at i).pair (at k).pair) (eqb-true j i e) ∙ pair_eq_same (at i).pair ∙ sym e
    | inr e ↦ from_not_same_pair (at i).pair (at j).pair (λ s. let k = index_by_pair (directed_links rule (graph_of kept)) i j none none arranged.sorted (omega (arith, h, runs_many)) (omega (arith, l, runs_many)) s in let t = eq-eqb j i (sym k) in absurd (cc)) ∙ sym e
  ]

  pub share_at : (i : ℕ) (js : List ℕ) → i < length links → AreLow js → share js (at i) ≡ pos (count_by (λ j. j == i) js)
  share_at i [] h a = refl
  share_at i (j ∷ js) h a =
      ap₂ (λ (b : Bool) (z : ℤ). when b (pos 1) +ℤ z) (same_pair i j h a.0) (share_at i js h a.1)
      ∙ one_more (j == i) (count_by (λ j. j == i) js) ∙ ap (λ n. pos n) (sym (sum_by-cons (λ j. cond (j == i) 1 0) j js))
    where
      one_more : (b : Bool) (n : ℕ) → when b (pos 1) +ℤ pos n ≡ pos (cond b 1 0 + n)
      one_more true n = omega (arith, ints)
      one_more false n = omega (arith, ints)

  pub index_of : (s : WholeSegment) → Has (directed_links rule (graph_of kept)) s → (i : ℕ) × (i < length links) × (at i ≡ s)
  index_of s m = let r = find (directed_links rule (graph_of kept)) m in (r.0, omega (arith, r.1, runs_many), r.2)
    where
      find : (ls : List WholeSegment) → Has ls s → (i : ℕ) × (i < length ls) × (get_or ls i none ≡ s)
      find [] never = elim never [ ]
      find (x ∷ ls) (inl e) = (0, omega arith, e)
      find (x ∷ ls) (inr n) = let r = find ls n in (suc r.0, omega (arith, r.1), r.2)

  no_product_of : (m n : ℕ) → m + n ≤ 1 → pos m *ℤ pos n ≡ pos 0
  no_product_of zero n h = none_times (pos n)
  no_product_of (suc m) zero h = times_zero (pos (suc m))
  no_product_of (suc m) (suc n) h = absurd (omega (arith, h))

  abbrev times_in : ℕ → List (List ℕ) → ℕ
  times_in i walks = count_by (λ j. j == i) (all_links walks)

  -- Two lists of walks that share no link, and that have each link as often as its support, unless nothing winds between them: no place is
  -- wound around by both.
  pub walks_apart : (us vs : List (List ℕ)) → AreWalks us → AreWalks vs → ((i : ℕ) → i < length links → times_in i us + times_in i vs ≤ 1) →
      ((i j : ℕ) → i < length links → j < length links → support runs (at i) ≡ Some (at j) → ((bottom runs (at i)).subj ≡ pos 0) ⊎ ((times_in i us ≡ times_in j us) × (times_in i vs ≡ times_in j vs))) →
      (p : RationalPoint) → 0 < p.bottom → winding_number (map (contour ways) us) p *ℤ winding_number (map (contour ways) vs) p ≡ pos 0
  walks_apart us vs au av few alike p some =
      ap₂ (λ (x y : ℤ). x *ℤ y) (sym (winds_as_share us au p)) (sym (winds_as_share vs av p))
      ∙ shares_apart runs (share (all_links us)) (share (all_links vs)) arranged
      (λ s t m n e.
      let i = index_of s m in
      let j = index_of t n in
      let on : support runs (at i.0) ≡ Some (at j.0) = ap (support runs) i.2 ∙ e ∙ ap (λ v. Some v) (sym j.2) in
      elim (alike i.0 j.0 i.1 j.1 on) [
        | inl z ↦ inl (subst (λ v. (bottom runs v).subj ≡ pos 0) i.2 z)
        | inr q ↦ inr (told us au i j q.0, told vs av i j q.1)
      ])
      (λ s m.
      let i = index_of s m in
      subst (λ v. share (all_links us) v *ℤ share (all_links vs) v ≡ pos 0) i.2
      (ap₂ (λ (x y : ℤ). x *ℤ y) (share_at i.0 (all_links us) i.1 (low_links us au)) (share_at i.0 (all_links vs) i.1 (low_links vs av)) ∙ no_product_of (times_in i.0 us) (times_in i.0 vs) (few i.0 i.1)))
      (flows_as_share us au) (flows_as_share vs av) p some
    where
      told : (ws : List (List ℕ)) (aw : AreWalks ws) {s t : WholeSegment} (i : (k : ℕ) × (k < length links) × (at k ≡ s)) (j : (k : ℕ) × (k < length links) × (at k ≡ t)) → times_in i.0 ws ≡ times_in j.0 ws → share (all_links ws) s ≡ share (all_links ws) t
      told ws aw i j e =
          ap (share (all_links ws)) (sym i.2) ∙ share_at i.0 (all_links ws) i.1 (low_links ws aw) ∙ ap (λ n. pos n) e ∙ sym (share_at j.0 (all_links ws) j.1 (low_links ws aw)) ∙ ap (share (all_links ws)) j.2
