-- The contours of walks in shapes: each is simple, the first one of a shape has its least point, and steps from edge to edge join a shape.
use Rattle.std.proofs.Common.{◌≡◌, ℕ, zero, suc, ◌+◌, ◌<◌, ◌≤◌, ◌==◌, ◌⊎◌, inl, inr, Bool, true, false, cond, ◌&&◌, ◌||◌, if◌then◌else◌, List, [], ◌∷◌, ◌++◌, map, length, get_or, refl, sym, ap, subst, ◌∙◌, arith}
use Rattle.std.specs.Prelude.{pos, count_by, All, Contains, Some, slice_get}
use Rattle.std.specs.List.{AllByRecursion, list_all}
use Rattle.std.proofs.lemmas.Bool.{cases_Bool, eq-eqb}
use Rattle.std.proofs.lemmas.List.{length-map, get_or-map}
use Rattle.std.proofs.lemmas.List.Elements.{All-from_recursion, recursion_from_All}
use Rattle.std.proofs.lemmas.List.Sums.{sum_by-cons}
use Rattle.overlay_geometry.specs.Points.{Point, Pair, point_eq, point_lt, is_ordered}
use Rattle.overlay_geometry.proofs.laws.geometry.Points.{same_by_eq, point_lt-trans}
use Rattle.overlay_geometry.proofs.laws.lists.Lists.{Has, Has-map, Has-map_out, Has-append_left, Has-append_right, AllByRecursion-map, AllByRecursion-from_Has, AllByRecursion-at, sum_by-map, list_all-at}
use Rattle.overlay_geometry.proofs.laws.lists.Elements.{Has-from_Contains, Contains-from_Has}
use Rattle.overlay_base.specs.Rules.{top_value}
use Rattle.overlay_base.specs.Segments.{WholeSegment}
use Rattle.overlay_sweep.specs.ChainWindings.{bottom}
use Rattle.overlay_build.specs.Boundary.{of_subject, direction, directed_links}
use Rattle.overlay_build.specs.DirectedWalks.{arcs, in_direction, no_link, contour, IsDirectedWalk}
use Rattle.overlay_build.specs.DirectedWalks.{turned as turned_link}
use Rattle.overlay_build.specs.Graph.{Filled, Link, graph_of, node_number}
use Rattle.overlay_shapes.specs.Classes.{AreLinked}
use Rattle.overlay_shapes.specs.Gathered.{all_links}
use Rattle.overlay_shapes.specs.Sectors.{lies_in_sector, leads_into_sector}
use Rattle.overlay_shapes.specs.Sectors.{TurnsInto as LinkTurns}
use Rattle.overlay_shapes.specs.ShapeWalks.{StandsOn, comes_before}
use Rattle.overlay_shapes.specs.ShapeWalks.{IsStep as LinkStep, IsLed as IsLedWalks}
use Rattle.overlay_shapes.specs.SimpleWalks.{PassesOnce}
use Rattle.overlay_shapes.proofs.laws.Linked.{AreLinked-map, AreLinked-step}
use Rattle.overlay_contours.specs.Contours.{steps_from, steps_of, steps, turned}
use Rattle.overlay_contours.specs.Polygons.{run_of}
use Rattle.overlay_contours.specs.Shapes.{IsSimple, IsStep, IsLed}
use Rattle.overlay_contours.proofs.laws.Extracts.{steps_of_walk, steps_of_walks, links_are_ordered}
use Rattle.overlay_contours.proofs.laws.Overlays.{run_of_link}

-- ---- lists

all_at : {X : Type 0} (P : X → Type 0) (xs : List X) (i : ℕ) (d : X) → AllByRecursion P xs → i < length xs → P (get_or xs i d)
all_at P [] i d a h = absurd (omega (arith, h))
all_at P (x ∷ xs) zero d a h = a.0
all_at P (x ∷ xs) (suc i) d a h = all_at P xs i d a.1 (omega (arith, h))

pub all_from_at : {X : Type 0} (P : X → Type 0) (xs : List X) (d : X) → ((i : ℕ) → i < length xs → P (get_or xs i d)) → AllByRecursion P xs
all_from_at P [] d h = tt
all_from_at P (x ∷ xs) d h = (h 0 (omega arith), all_from_at P xs d (λ i l. h (suc i) (omega (arith, l))))

pub Has-at : {X : Type 0} (xs : List X) (i : ℕ) (d : X) → i < length xs → Has xs (get_or xs i d)
Has-at [] i d h = absurd (omega (arith, h))
Has-at (x ∷ xs) zero d h = inl refl
Has-at (x ∷ xs) (suc i) d h = inr (Has-at xs i d (omega (arith, h)))

pub slice_get-is : {X : Type 0} (xs : List X) (i : ℕ) (x d : X) → slice_get xs i ≡ Some x → (i < length xs) × (get_or xs i d ≡ x)
slice_get-is [] i x d e = absurd (cc)
slice_get-is (y ∷ xs) zero x d e = (omega arith, cc)
slice_get-is (y ∷ xs) (suc i) x d e = let r = slice_get-is xs i x d e in (omega (arith, r.0), r.1)

pub Has-links : (walks : List (List ℕ)) (w : List ℕ) (i : ℕ) → Has walks w → Has w i → Has (all_links walks) i
Has-links [] w i m n = absurd m
Has-links (y ∷ walks) w i (inl e) n = Has-append_left y (all_links walks) i (subst (λ v. Has v i) (sym e) n)
Has-links (y ∷ walks) w i (inr m) n = Has-append_right y (all_links walks) i (Has-links walks w i m n)

abbrev flag : Bool → ℕ
flag b = cond b 1 0

-- where each that passes one test passes another, no more pass the one
counted_more : {X : Type 0} (f g : X → Bool) (xs : List X) → AllByRecursion (λ x. f x ≡ true → g x ≡ true) xs → count_by f xs ≤ count_by g xs
counted_more f g [] a = omega arith
counted_more f g (x ∷ xs) a =
    let m = sum_by-cons (λ y. flag (f y)) x xs in
    let n = sum_by-cons (λ y. flag (g y)) x xs in
    let r = counted_more f g xs a.1 in
    let here : flag (f x) ≤ flag (g x) = elim (cases_Bool (f x)) [ inl e ↦ (let k = ap flag (a.0 e) in let l = ap flag e in omega (arith, k, l)) | inr e ↦ (let l = ap flag e in omega (arith, l)) ] in
    omega (arith, m, n, r, here)

-- ---- where the edges of a contour end

end_along : (p r : Point) (points : List Point) (e : Pair) → Has (steps_from p (points ++ r ∷ [])) e → Has points e.b ⊎ (e.b ≡ r)
end_along p r [] e (inl s) = inr (ap (λ (v : Pair). v.b) (sym s))
end_along p r [] e (inr m) = absurd m
end_along p r (q ∷ points) e (inl s) = inl (inl (ap (λ (v : Pair). v.b) s))
end_along p r (q ∷ points) e (inr m) = elim (end_along q r points e m) [ inl n ↦ inl (inr n) | inr n ↦ inr n ]

end_of_edge : (c : List Point) (e : Pair) → Has (steps_of c) e → Has c e.b
end_of_edge [] e m = absurd m
end_of_edge (p ∷ points) e m = elim (end_along p p points e m) [ inl n ↦ inr n | inr n ↦ inl (sym n) ]

-- ---- tests where one or neither holds

or_first : (a b : Bool) → (a || b) ≡ false → a ≡ false
or_first true b e = absurd (cc)
or_first false b e = refl

or_swap : (a b : Bool) → (a || b) ≡ (b || a)
or_swap true true = refl
or_swap true false = refl
or_swap false true = refl
or_swap false false = refl

-- a pair leads into a sector either way
pub leads_turned : (v q r : Point) (t : Bool) (s : Pair) → leads_into_sector v q r (if t then s else turned s) ≡ leads_into_sector v q r s
leads_turned v q r true s = refl
leads_turned v q r false s = or_swap (point_eq s.b v && lies_in_sector v q r s.a) (point_eq s.a v && lies_in_sector v q r s.b)

-- ---- walks through a graph

module _ (rule : Bool → Bool → Bool) (kept : List Filled) (ordered : list_all (λ f. is_ordered f.pair) kept ≡ true) where
  abbrev links : List Link
  links = (graph_of kept).links

  abbrev ways : List Link
  ways = arcs rule links

  abbrev way_at : ℕ → Pair
  way_at i = (get_or ways i no_link).pair

  abbrev runs : List WholeSegment
  runs = directed_links rule (graph_of kept)

  abbrev none : WholeSegment
  none = record { pair = no_link.pair; count = of_subject (direction rule 0) }

  abbrev number : Point → ℕ
  number p = node_number (map (λ (f : Filled). f.pair) kept) p

  abbrev Names : Link → Type 0
  Names l = (l.a_node ≡ number l.pair.a) × (l.b_node ≡ number l.pair.b)

  names_links : AllByRecursion Names links
  unfolding graph_of
  names_links = each kept
    where
      each : (fs : List Filled) → AllByRecursion Names (map (λ f. record { pair = f.pair; fill = f.fill; a_node = number f.pair.a; b_node = number f.pair.b }) fs)
      each [] = tt
      each (f ∷ fs) = ((refl, refl), each fs)

  way_is : (i : ℕ) → i < length links → get_or ways i no_link ≡ (if top_value rule (get_or links i no_link).fill then get_or links i no_link else turned_link (get_or links i no_link))
  way_is i h = get_or-map (in_direction rule) links i no_link no_link h

  run_is : (i : ℕ) → i < length links → get_or runs i none ≡ record { pair = (get_or links i no_link).pair; count = of_subject (direction rule (get_or links i no_link).fill) }
  unfolding directed_links
  run_is i h = get_or-map (λ (l : Link). record { pair = l.pair; count = of_subject (direction rule l.fill) }) links i no_link none h

  runs_many : length (directed_links rule (graph_of kept)) ≡ length links
  unfolding directed_links
  runs_many = length-map links _

  as_many : length ways ≡ length links
  as_many = length-map links _

  pub way_of_run : (i : ℕ) → i < length links → way_at i ≡ run_of (get_or runs i none)
  unfolding direction
  way_of_run i h =
      ap (λ (l : Link). l.pair) (way_is i h) ∙ sym (run_of_link (top_value rule (get_or links i no_link).fill) (get_or links i no_link)) ∙ ap run_of (sym (run_is i h))

  starts_at : (i : ℕ) → i < length links → (get_or ways i no_link).a_node ≡ number (way_at i).a
  starts_at i h =
      ap (λ (l : Link). l.a_node) (way_is i h) ∙ either (top_value rule (get_or links i no_link).fill) (get_or links i no_link) (all_at Names links i no_link names_links h) ∙ ap (λ (l : Link). number l.pair.a) (sym (way_is i h))
    where
      either : (t : Bool) (l : Link) → Names l → (if t then l else turned_link l).a_node ≡ number (if t then l else turned_link l).pair.a
      either true l n = n.0
      either false l n = n.1

  is_right : (i : ℕ) → i < length links → is_ordered (get_or links i no_link).pair ≡ true
  is_right i h = list_all-at (λ (l : Link). is_ordered l.pair) links (get_or links i no_link) (links_are_ordered rule kept ordered) (Has-at links i no_link h)

  pub low_in : (w : List ℕ) → IsDirectedWalk ways w → AllByRecursion (λ i. i < length links) w
  low_in w d = subst (λ n. AllByRecursion (λ i. i < n) w) as_many (recursion_from_All (λ i. i < length ways) w d.1.1.within)

  points_are : (w : List ℕ) → contour ways w ≡ map (λ i. (way_at i).a) w
  points_are [] = refl
  points_are (i ∷ w) = ap (λ (l : List Point). (way_at i).a ∷ l) (points_are w)

  -- a walk that comes to no node twice comes to no point twice
  pub is_simple : (w : List ℕ) → IsDirectedWalk ways w → PassesOnce ways w → IsSimple (contour ways w)
  is_simple w d once p =
      let all = ap (count_by (λ q. point_eq q p)) (points_are w) ∙ sum_by-map (λ q. flag (point_eq q p)) (λ i. (way_at i).a) w in
      let more = counted_more (λ i. point_eq (way_at i).a p) (λ i. (get_or ways i no_link).a_node == number p) w
      (AllByRecursion-from_Has (λ i. point_eq (way_at i).a p ≡ true → ((get_or ways i no_link).a_node == number p) ≡ true) w
      (λ i m e. eq-eqb (get_or ways i no_link).a_node (number p) (starts_at i (AllByRecursion-at (λ k. k < length links) w i (low_in w d) m) ∙ ap number (same_by_eq (way_at i).a p e)))) in
      let few = once (number p) in
      omega (arith, all, more, few)

  -- ---- the least point

  either_way : (i : ℕ) → i < length links → ((way_at i).a ≡ (get_or links i no_link).pair.a) ⊎ (((way_at i).a ≡ (get_or links i no_link).pair.b) × ((way_at i).b ≡ (get_or links i no_link).pair.a))
  either_way i h = by (top_value rule (get_or links i no_link).fill) (way_is i h)
    where
      by : (t : Bool) → get_or ways i no_link ≡ (if t then get_or links i no_link else turned_link (get_or links i no_link)) → ((way_at i).a ≡ (get_or links i no_link).pair.a) ⊎ (((way_at i).a ≡ (get_or links i no_link).pair.b) × ((way_at i).b ≡ (get_or links i no_link).pair.a))
      by true e = inl (ap (λ (l : Link). l.pair.a) e)
      by false e = inr (ap (λ (l : Link). l.pair.a) e, ap (λ (l : Link). l.pair.b) e)

  on_contour : (w : List ℕ) (i : ℕ) → IsDirectedWalk ways w → Has w i → Has (contour ways w) (get_or links i no_link).pair.a
  on_contour w i d m =
      let low = AllByRecursion-at (λ k. k < length links) w i (low_in w d) m in
      elim (either_way i low) [
        | inl e ↦ subst (λ (l : List Point). Has l (get_or links i no_link).pair.a) (sym (points_are w)) (subst (Has (map (λ i. (way_at i).a) w)) e (Has-map (λ i. (way_at i).a) w i m))
        | inr e ↦ subst (Has (contour ways w)) e.1 (end_of_edge (contour ways w) (way_at i) (subst (λ (l : List Pair). Has l (way_at i)) (sym (steps_of_walk rule kept ordered w d)) (Has-map way_at w i m)))
      ]

  -- the pair of a link in its direction
  pub way_pair : (i : ℕ) → i < length links → way_at i ≡ (if top_value rule (get_or links i no_link).fill then (get_or runs i none).pair else turned (get_or runs i none).pair)
  way_pair i h =
      ap (λ (l : Link). l.pair) (way_is i h) ∙ either (top_value rule (get_or links i no_link).fill) (get_or links i no_link)
      ∙ ap (λ (s : WholeSegment). if top_value rule (get_or links i no_link).fill then s.pair else turned s.pair) (sym (run_is i h))
    where
      either : (t : Bool) (l : Link) → (if t then l else turned_link l).pair ≡ (if t then l.pair else turned l.pair)
      either true l = refl
      either false l = refl

  leads_alike : (v q r : Point) (i : ℕ) → i < length links → leads_into_sector v q r (way_at i) ≡ leads_into_sector v q r (get_or runs i none).pair
  leads_alike v q r i h = ap (leads_into_sector v q r) (way_pair i h) ∙ leads_turned v q r (top_value rule (get_or links i no_link).fill) (get_or runs i none).pair

  -- links in their directions lead into a sector as segments do
  pub none_of_runs : (v q r : Point) → All (λ (l : Link). leads_into_sector v q r l.pair ≡ false) ways → All (λ (s : WholeSegment). leads_into_sector v q r s.pair ≡ false) runs
  none_of_runs v q r a =
      All-from_recursion (λ (s : WholeSegment). leads_into_sector v q r s.pair ≡ false) runs
      (all_from_at (λ (s : WholeSegment). leads_into_sector v q r s.pair ≡ false) runs none (λ i h.
      let low : i < length links = omega (arith, h, runs_many) in sym (leads_alike v q r i low) ∙ a i no_link (omega (arith, low, as_many))))

  pub none_of_ways : (v q r : Point) → All (λ (s : WholeSegment). leads_into_sector v q r s.pair ≡ false) runs → All (λ (l : Link). leads_into_sector v q r l.pair ≡ false) ways
  none_of_ways v q r a =
      All-from_recursion (λ (l : Link). leads_into_sector v q r l.pair ≡ false) ways
      (all_from_at (λ (l : Link). leads_into_sector v q r l.pair ≡ false) ways no_link (λ i h.
      let low : i < length links = omega (arith, h, as_many) in leads_alike v q r i low ∙ a i none (omega (arith, low, runs_many))))

  link_starts : (i j : ℕ) → comes_before (get_or links j no_link).pair (get_or links i no_link).pair ≡ false → point_lt (get_or links j no_link).pair.a (get_or links i no_link).pair.a ≡ false
  link_starts i j h = or_first (point_lt (get_or links j no_link).pair.a (get_or links i no_link).pair.a) _ h

  not_below : (i j : ℕ) → comes_before (get_or links j no_link).pair (get_or links i no_link).pair ≡ false → j < length links → point_lt (way_at j).a (get_or links i no_link).pair.a ≡ false
  not_below i j h l = elim (either_way j l) [
    | inl e ↦ ap (λ p. point_lt p (get_or links i no_link).pair.a) e ∙ link_starts i j h
    | inr e ↦
        elim (cases_Bool (point_lt (get_or links j no_link).pair.b (get_or links i no_link).pair.a)) [
          | inl k ↦ (let less = point_lt-trans (get_or links j no_link).pair.a (get_or links j no_link).pair.b (get_or links i no_link).pair.a (is_right j l) k in let not_so = link_starts i j h in absurd (cc))
          | inr k ↦ ap (λ p. point_lt p (get_or links i no_link).pair.a) e.0 ∙ k
        ]
  ]

  -- the first walk has the least point, as it has the first link
  pub is_led : (group : List (List ℕ)) → AllByRecursion (IsDirectedWalk ways) group → IsLedWalks links group → IsLed (map (contour ways) group)
  is_led group closed led =
      let before = recursion_from_All (λ i. comes_before (get_or links i no_link).pair (get_or links led.first no_link).pair ≡ false) (all_links group) led.none_before in
      let front_there : Has group led.front = subst (λ (g : List (List ℕ)). Has g led.front) (sym led.shape_is) (inl refl) in
      record {
        front = contour ways led.front;
        later = map (contour ways) led.later;
        shape_is = ap (map (contour ways)) led.shape_is;
        least = (get_or links led.first no_link).pair.a;
        on_front = Contains-from_Has (contour ways led.front) (get_or links led.first no_link).pair.a (on_contour led.front led.first (AllByRecursion-at (IsDirectedWalk ways) group led.front closed front_there) (Has-from_Contains led.front led.first led.on_front));
        below_none = All-from_recursion (All (λ p. point_lt p (get_or links led.first no_link).pair.a ≡ false)) (map (contour ways) group)
            (AllByRecursion-map (All (λ p. point_lt p (get_or links led.first no_link).pair.a ≡ false)) (contour ways) group
            (AllByRecursion-from_Has (λ w. All (λ p. point_lt p (get_or links led.first no_link).pair.a ≡ false) (contour ways w)) group (λ w m.
            All-from_recursion (λ p. point_lt p (get_or links led.first no_link).pair.a ≡ false) (contour ways w)
            (subst (AllByRecursion (λ p. point_lt p (get_or links led.first no_link).pair.a ≡ false)) (sym (points_are w))
            (AllByRecursion-map (λ p. point_lt p (get_or links led.first no_link).pair.a ≡ false) (λ i. (way_at i).a) w
            (AllByRecursion-from_Has (λ i. point_lt (way_at i).a (get_or links led.first no_link).pair.a ≡ false) w (λ i n.
            not_below led.first i (AllByRecursion-at (λ i. comes_before (get_or links i no_link).pair (get_or links led.first no_link).pair ≡ false) (all_links group) i before (Has-links group w i m n)) (AllByRecursion-at (λ k. k < length links) w i (low_in w (AllByRecursion-at (IsDirectedWalk ways) group w closed m)) n))))))));
      }

  -- ---- steps from edge to edge

  -- the edges of the contours of walks are their links
  pub edge_of : (walks : List (List ℕ)) → AllByRecursion (IsDirectedWalk ways) walks → (i : ℕ) → Has (all_links walks) i → Contains (steps (map (contour ways) walks)) (way_at i)
  edge_of walks closed i m = Contains-from_Has (steps (map (contour ways) walks)) (way_at i) (subst (λ (ps : List Pair). Has ps (way_at i)) (sym (steps_of_walks rule kept ordered walks closed)) (Has-map way_at (all_links walks) i m))

  pub link_of_edge : (walks : List (List ℕ)) → AllByRecursion (IsDirectedWalk ways) walks → (e : Pair) → Contains (steps (map (contour ways) walks)) e → (i : ℕ) × Has (all_links walks) i × (way_at i ≡ e)
  link_of_edge walks closed e c = Has-map_out way_at (all_links walks) e (subst (λ (ps : List Pair). Has ps e) (steps_of_walks rule kept ordered walks closed) (Has-from_Contains (steps (map (contour ways) walks)) e c))

  module _ (walks : List (List ℕ)) (closed : AllByRecursion (IsDirectedWalk ways) walks) (all : (i : ℕ) → i < length links → Has (all_links walks) i)
      (between : (i : ℕ) → i < length links → top_value rule (get_or links i no_link).fill ≡ rule false false → (bottom runs (get_or runs i none)).subj ≡ pos 0 → ⊥) where
    meet_across : (i j : ℕ) (n : StandsOn rule (graph_of kept) i j) → IsStep runs (map (contour ways) walks) (way_at i) (way_at j)
    meet_across i j n =
        let above = slice_get-is runs i n.above none n.above_is in
        let below = slice_get-is runs j n.below none n.below_is in
        let low : i < length links = omega (arith, above.0, runs_many) in
        let low_other : j < length links = omega (arith, below.0, runs_many) in
        record {
          is_first = edge_of walks closed i (all i low);
          is_second = edge_of walks closed j (all j low_other);
          leads = inl (record {
            above = n.above;
            below = n.below;
            is_there = Contains-from_Has runs n.above (subst (Has runs) above.1 (Has-at runs i none above.0));
            on = n.on;
            between = λ z. between i low n.between (ap (λ s. (bottom runs s).subj) above.1 ∙ z);
            of_first = sym (way_of_run i low ∙ ap run_of above.1);
            of_second = sym (way_of_run j low_other ∙ ap run_of below.1);
          });
        }

    turns_into : (i j : ℕ) → LinkTurns ways i j → IsStep runs (map (contour ways) walks) (way_at i) (way_at j)
    turns_into i j t =
        let first = slice_get-is ways i t.first no_link t.first_is in
        let second = slice_get-is ways j t.second no_link t.second_is in
        let low : i < length links = omega (arith, first.0, as_many) in
        let low_other : j < length links = omega (arith, second.0, as_many) in
        record {
          is_first = edge_of walks closed i (all i low);
          is_second = edge_of walks closed j (all j low_other);
          leads = inr (record {
            meets = ap (λ (l : Link). l.pair.b) first.1 ∙ t.meets ∙ ap (λ (l : Link). l.pair.a) (sym second.1);
            none_between = none_of_runs (way_at i).b (way_at j).b (way_at i).a
                (subst (λ (l : Link). All (λ (m : Link). leads_into_sector l.pair.b (way_at j).b l.pair.a m.pair ≡ false) ways) (sym first.1)
                (subst (λ (l : Link). All (λ (m : Link). leads_into_sector t.first.pair.b l.pair.b t.first.pair.a m.pair ≡ false) ways) (sym second.1) t.none_between));
          });
        }

    -- steps from link to link are steps from edge to edge
    pub are_linked : (group : List (List ℕ)) → AllByRecursion (IsDirectedWalk ways) group → ((i j : ℕ) → Contains (all_links group) i → Contains (all_links group) j → AreLinked (LinkStep rule (graph_of kept) ways) i j) →
        (e f : Pair) → Contains (steps (map (contour ways) group)) e → Contains (steps (map (contour ways) group)) f → AreLinked (IsStep runs (map (contour ways) walks)) e f
    are_linked group shut linked e f is_first is_second =
        let i = link_of_edge group shut e is_first in
        let j = link_of_edge group shut f is_second in
        subst (λ x. AreLinked (IsStep runs (map (contour ways) walks)) x f) i.2
        (subst (λ y. AreLinked (IsStep runs (map (contour ways) walks)) (way_at i.0) y) j.2
        (AreLinked-map (LinkStep rule (graph_of kept) ways) (IsStep runs (map (contour ways) walks)) way_at
        (λ x y s. AreLinked-step (IsStep runs (map (contour ways) walks)) (elim s [ inl n ↦ meet_across x y n | inr t ↦ turns_into x y t ]))
        (linked i.0 j.0 (Contains-from_Has (all_links group) i.0 i.1) (Contains-from_Has (all_links group) j.0 j.1))))
