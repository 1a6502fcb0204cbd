-- Around a node of a graph, each link that comes in is led on by the one before it.
use Rattle.std.proofs.Common.{◌≡◌, ◌≢◌, ℕ, ◌+◌, ◌<◌, ◌==◌, eqb, ◌⊎◌, ◌&&◌, ◌||◌, inl, inr, zero, suc, Bool, true, false, not, List, [], ◌∷◌, filter, length, get_or, refl, sym, ap, subst, ◌∙◌, arith, if◌then◌else◌}
use Rattle.std.specs.Prelude.{ℤ, pos, ◌+ℤ◌, ◌-ℤ◌, nat_lt, All, Contains}
use Rattle.std.specs.List.{IsDistinct}
use Rattle.std.proofs.lemmas.Bool.{and_parts, and_from, or_cases, or_left, or_right, eqb-true, eq-eqb}
use Rattle.std.proofs.lemmas.Int.{ints}
use Rattle.std.proofs.lemmas.List.{length-map, get_or-map}
use Rattle.std.proofs.lemmas.List.Elements.{All-get_or, All-contains}
use Rattle.overlay_geometry.specs.Points.{Point, Pair, point_eq, is_ordered}
use Rattle.overlay_geometry.proofs.laws.geometry.Points.{Before, Before-irreflexive, from_not_same, same_by_eq, point_eq_same}
use Rattle.overlay_geometry.proofs.laws.integers.Tests.{nat_lt-test}
use Rattle.overlay_geometry.proofs.laws.lists.Elements.{Contains-from_Has}
use Rattle.overlay_geometry.proofs.laws.lists.Lists.{Has, Has-map_out, Has-filter, Has-filter_out, Has-from_list_any}
use Rattle.overlay_base.specs.Balance.{IsBalanced}
use Rattle.overlay_base.specs.Rules.{top_value}
use Rattle.overlay_base.specs.Segments.{WholeSegment}
use Rattle.overlay_base.specs.Windings.{Winding}
use Rattle.overlay_sweep.specs.ColumnWindings.{side_bottom, side_top}
use Rattle.overlay_sweep.proofs.laws.columns.ColumnLines.{point_lt-cases}
use Rattle.overlay_sweep.proofs.laws.columns.Members.{IsArranged}
use Rattle.overlay_sweep.proofs.laws.live.Sides.{side_top_is}
use Rattle.overlay_build.specs.Boundary.{truth, direction}
use Rattle.overlay_build.specs.DirectedWalks.{turned, in_direction, arcs, IsFlow, no_link}
use Rattle.overlay_build.specs.Graph.{Filled, Link, Node, links_at, node_points, node_number, graph_of}
use Rattle.overlay_build.proofs.laws.graphs.GraphLaws.{pairs_of, length-links, length-nodes, node_at, link_at, names_its_nodes, links_at-exactly}
use Rattle.overlay_build.proofs.laws.graphs.GraphNodes.{node_number-at}
use Rattle.overlay_build.proofs.laws.graphs.Indexes.{has_number}
use Rattle.overlay_shapes.specs.Sectors.{TurnsInto, leads_into_sector, winding_on_left, HaveRegionOnLeft}
use Rattle.overlay_shapes.specs.steps.Rays.{WholeRay, no_ray, center, tip, one_before, ray_before, led_on}
use Rattle.overlay_shapes.proofs.laws.AroundNodes.{HasNode, IsRay, ray_is, AreRays, nat_lt-tested, indexes_differ}
use Rattle.overlay_shapes.proofs.laws.LedOn.{led_on_at, led_on_other, link_before}
use Rattle.overlay_shapes.proofs.laws.Sectors.{other_end, counterclockwise_side, clockwise_side, sides_of_sector}
use Rattle.overlay_shapes.proofs.laws.Turns.{Has_at, run, runs, arc_at, arcs_many, Meets, comes_to, goes_from, not_both_ends, Turns, from_turns, run_in, ordered_at, own_link}

has_index : {X : Type 0} (xs : List X) (x d : X) → Has xs x → (k : ℕ) × (k < length xs) × (get_or xs k d ≡ x)
has_index [] x d m = absurd m
has_index (y ∷ xs) x d (inl e) = (0, omega arith, e)
has_index (y ∷ xs) x d (inr m) = let r = has_index xs x d m in (suc r.0, omega (arith, r.1), r.2)

some_of : {X : Type 0} (xs ys : List X) (y : X) → length xs ≡ length ys → Has ys y → (x : X) × Has xs x
some_of (x ∷ xs) ys y e m = (x, inl refl)
some_of [] [] y e m = absurd m
some_of [] (z ∷ ys) y e m = absurd (omega (arith, e))

-- ---- around a point, with region on the left of each link

module _ (rule : Bool → Bool → Bool) (ls : List Link) (arranged : IsArranged (runs rule ls)) (balanced : IsBalanced (runs rule ls)) (outside : Bool) (region : HaveRegionOnLeft outside (runs rule ls)) (p : Point) where
  abbrev lk : ℕ → Link
  lk i = get_or ls i no_link

  abbrev ar : ℕ → Link
  ar i = in_direction rule (lk i)

  abbrev seg : Link → WholeSegment
  seg l = run rule ls l

  left_of : (i : ℕ) → i < length ls → winding_on_left (runs rule ls) (seg (lk i)) ≡ truth (not outside)
  left_of i h = All-contains (λ s. winding_on_left (runs rule ls) s ≡ truth (not outside)) (runs rule ls) (seg (lk i)) region (Contains-from_Has (runs rule ls) (seg (lk i)) (run_in rule ls arranged i h))

  start_eq : (l : Link) → l.pair.a ≡ p → point_eq l.pair.a p ≡ true
  start_eq l e = ap (λ (z : Point). point_eq z p) e ∙ point_eq_same p

  start_ne : (l : Link) → is_ordered l.pair ≡ true → l.pair.b ≡ p → point_eq l.pair.a p ≡ false
  start_ne l o e = from_not_same l.pair.a p (λ k. Before-irreflexive p (subst (λ (z : Point). Before p z) e (subst (λ (z : Point). Before z l.pair.b) k (point_lt-cases l.pair.a l.pair.b o))))

  -- beside what comes to p the left is the clockwise side
  clockwise_is_left : (l : Link) → is_ordered l.pair ≡ true → (in_direction rule l).pair.b ≡ p → (clockwise_side (runs rule ls) (seg l) p).subj ≡ winding_on_left (runs rule ls) (seg l)
  unfolding direction
  clockwise_is_left l o = by (top_value rule l.fill) refl
    where
      by : (t : Bool) → top_value rule l.fill ≡ t → (if t then l else turned l).pair.b ≡ p → (clockwise_side (runs rule ls) (seg l) p).subj ≡ winding_on_left (runs rule ls) (seg l)
      by true e k = rw (e, start_ne l o k) refl
      by false e k = rw (e, start_eq l k) refl

  -- and the counterclockwise side winds once less
  counterclockwise_is_right : (l : Link) → Has (runs rule ls) (seg l) → is_ordered l.pair ≡ true → (in_direction rule l).pair.b ≡ p → (counterclockwise_side (runs rule ls) (seg l) p).subj ≡ winding_on_left (runs rule ls) (seg l) -ℤ pos 1
  unfolding direction
  counterclockwise_is_right l m o = by (top_value rule l.fill) refl
    where
      sum : (side_top (runs rule ls) (seg l)).subj ≡ (side_bottom (runs rule ls) (seg l)).subj +ℤ direction rule l.fill
      sum = ap (λ (w : Winding). w.subj) (side_top_is (runs rule ls) arranged balanced (seg l) m)

      by : (t : Bool) → top_value rule l.fill ≡ t → (if t then l else turned l).pair.b ≡ p → (counterclockwise_side (runs rule ls) (seg l) p).subj ≡ winding_on_left (runs rule ls) (seg l) -ℤ pos 1
      by true e k = let more = rw e at sum in rw (e, start_ne l o k) (omega (arith, ints, more))
      by false e k = let more = rw e at sum in rw (e, start_eq l k) (omega (arith, ints, more))

  not_less : (z : ℤ) → z -ℤ pos 1 ≡ z → ⊥
  not_less z e = omega (arith, ints, e)

  -- where nothing leads into the sector from the link j to the link i, and i comes in, j goes out
  pub goes_out : (i j : ℕ) → i < length ls → j < length ls → (i ≡ j → ⊥) → (q s : Point) → Meets rule ls (lk j) p q → Meets rule ls (lk i) p s → ((k : ℕ) → k < length ls → leads_into_sector p q s (lk k).pair ≡ false) →
      (ar i).pair.b ≡ p → (ar j).pair.b ≡ p → ⊥
  goes_out i j hi hj other q s mj mi none ei ej =
      let xs = runs rule ls in
      let alike = sides_of_sector xs arranged balanced p (seg (lk j)) (seg (lk i)) (run_in rule ls arranged j hj) (run_in rule ls arranged i hi) mj.at mi.at (λ e. other (own_link rule ls arranged i j hi hj (sym e)))
      (λ u m.
      let from = Has-map_out (run rule ls) ls u m in
      let at = has_index ls from.0 no_link from.1 in
      ap (λ (z : Point). leads_into_sector p z (other_end (lk i).pair p) u.pair) mj.far_is ∙ ap (λ (z : Point). leads_into_sector p q z u.pair) mi.far_is
      ∙ ap (λ (v : WholeSegment). leads_into_sector p q s v.pair) (sym from.2) ∙ ap (λ (l : Link). leads_into_sector p q s l.pair) (sym at.2) ∙ none at.0 at.1) in
      let left = left_of i hi in
      let right = left_of j hj in
      not_less (truth (not outside)) (ap (λ (z : ℤ). z -ℤ pos 1) (sym right) ∙ sym (counterclockwise_is_right (lk j) (run_in rule ls arranged j hj) (ordered_at rule ls arranged j hj) ej)
      ∙ ap (λ (w : Winding). w.subj) alike ∙ clockwise_is_left (lk i) (ordered_at rule ls arranged i hi) ei ∙ left)

-- ---- at a node

module _ (rule : Bool → Bool → Bool) (ls : List Link) (arranged : IsArranged (runs rule ls)) (balanced : IsBalanced (runs rule ls)) (outside : Bool) (region : HaveRegionOnLeft outside (runs rule ls)) (level : IsFlow (arcs rule ls)) (u : ℕ) (p : Point)
    (a_at : (i : ℕ) → i < length ls → ((get_or ls i no_link).a_node ≡ u → (get_or ls i no_link).pair.a ≡ p) × ((get_or ls i no_link).pair.a ≡ p → (get_or ls i no_link).a_node ≡ u))
    (b_at : (i : ℕ) → i < length ls → ((get_or ls i no_link).b_node ≡ u → (get_or ls i no_link).pair.b ≡ p) × ((get_or ls i no_link).pair.b ≡ p → (get_or ls i no_link).b_node ≡ u)) where
  abbrev lk' : ℕ → Link
  lk' i = get_or ls i no_link

  abbrev ar' : ℕ → Link
  ar' i = in_direction rule (lk' i)

  abbrev AtNode : ℕ → Type 0
  AtNode i = HasNode rule ls arranged u p a_at b_at i

  ends_there : (i : ℕ) → i < length ls → (ar' i).b_node ≡ u → AtNode i × ((ar' i).pair.b ≡ p)
  ends_there i h = by (top_value rule (lk' i).fill)
    where
      by : (t : Bool) → (if t then lk' i else turned (lk' i)).b_node ≡ u → AtNode i × ((if t then lk' i else turned (lk' i)).pair.b ≡ p)
      by true e = (inr e, (b_at i h).0 e)
      by false e = (inl e, (a_at i h).0 e)

  starts_there : (i : ℕ) → i < length ls → (ar' i).a_node ≡ u → AtNode i × ((ar' i).pair.a ≡ p)
  starts_there i h = by (top_value rule (lk' i).fill)
    where
      by : (t : Bool) → (if t then lk' i else turned (lk' i)).a_node ≡ u → AtNode i × ((if t then lk' i else turned (lk' i)).pair.a ≡ p)
      by true e = (inl e, (a_at i h).0 e)
      by false e = (inr e, (b_at i h).0 e)

  -- what has an end there starts or ends there in its direction
  either_way : (i : ℕ) → i < length ls → (lk' i).pair.a ≡ p ⊎ ((lk' i).pair.b ≡ p) → ((ar' i).pair.a ≡ p) ⊎ ((ar' i).pair.b ≡ p)
  either_way i h = by (top_value rule (lk' i).fill)
    where
      by : (t : Bool) → (lk' i).pair.a ≡ p ⊎ ((lk' i).pair.b ≡ p) → ((if t then lk' i else turned (lk' i)).pair.a ≡ p) ⊎ ((if t then lk' i else turned (lk' i)).pair.b ≡ p)
      by true m = m
      by false (inl e) = inr e
      by false (inr e) = inl e

  -- where one comes in another goes out
  one_out : (i : ℕ) → i < length ls → (ar' i).b_node ≡ u → (o : ℕ) × (o < length ls) × ((ar' o).a_node ≡ u)
  one_out i h e =
      let many = arcs_many rule ls in
      let at : Has (arcs rule ls) (ar' i) = subst (λ (l : Link). Has (arcs rule ls) l) (arc_at rule ls i h) (Has_at (arcs rule ls) i no_link (subst (λ (n : ℕ). i < n) (sym many) h)) in
      let some = some_of (filter (λ l. l.a_node == u) (arcs rule ls)) (filter (λ l. l.b_node == u) (arcs rule ls)) (ar' i) (level u) (Has-filter (λ (l : Link). l.b_node == u) (arcs rule ls) (ar' i) at (eq-eqb (ar' i).b_node u e)) in
      let is = Has-filter_out (λ (l : Link). l.a_node == u) (arcs rule ls) some.0 some.1 in
      let k = has_index (arcs rule ls) some.0 no_link is.0 in
      let low : k.0 < length ls = subst (λ (n : ℕ). k.0 < n) many k.1 in
      (k.0, low, ap (λ (l : Link). l.a_node) (sym (arc_at rule ls k.0 low) ∙ k.2) ∙ eqb-true some.0.a_node u is.1)

  module _ (rays : List WholeRay) (are : AreRays rule ls arranged u p a_at b_at rays)
      (between : (k : ℕ) → k < length rays → (ray_before rays k).link ≢ (get_or rays k no_ray).link → All (λ l. leads_into_sector (center (get_or rays k no_ray)) (tip (ray_before rays k)) (tip (get_or rays k no_ray)) l.pair ≡ false) ls) where
    abbrev at : ℕ → WholeRay
    at k = get_or rays k no_ray

    before_less : (n k : ℕ) → k < n → one_before n k < n
    before_less n zero h = omega (arith, h)
    before_less n (suc k) h = omega (arith, h)

    before_other : (n k : ℕ) → 1 < n → one_before n k ≡ k → ⊥
    before_other n zero h e = omega (arith, h, e)
    before_other n (suc k) h e = omega (arith, e)

    two_places : (j k n : ℕ) → j < n → k < n → (j ≡ k → ⊥) → 1 < n
    two_places zero zero n h l other = absurd (other refl)
    two_places zero (suc k) n h l other = omega (arith, l)
    two_places (suc j) k n h l other = omega (arith, h)

    -- at the index of a link that comes in
    module _ (i : ℕ) (hi : i < length ls) (comes : (ar' i).b_node ≡ u) (k : ℕ) (hk : k < length rays) (ray : IsRay rule ls arranged u p a_at b_at i (at k)) where
      abbrev j : ℕ
      j = (ray_before rays k).link

      prior : IsRay rule ls arranged u p a_at b_at j (ray_before rays k)
      prior = are.each (one_before (length rays) k) (before_less (length rays) k hk)

      ends_here : (ar' i).pair.b ≡ p
      ends_here = (ends_there i hi comes).1

      two_rays : 1 < length rays
      two_rays =
          let out = one_out i hi comes in
          let start = starts_there out.0 out.1 out.2 in
          let found = are.all out.0 out.1 start.0 in
          two_places found.0 k (length rays) found.1 hk (λ e.
          let same : out.0 ≡ i = sym (ap (λ (r : WholeRay). r.link) found.2) ∙ ap (λ (n : ℕ). (at n).link) e ∙ ray.link_is in
          not_both_ends rule ls (lk' i) p (ordered_at rule ls arranged i hi) (ap (λ (n : ℕ). (ar' n).pair.a) (sym same) ∙ start.1) ends_here)

      differs : i ≡ j → ⊥
      differs e = before_other (length rays) k two_rays (are.once (one_before (length rays) k) k (before_less (length rays) k hk) hk (sym e ∙ sym ray.link_is))

      free : (n : ℕ) → n < length ls → leads_into_sector p (tip (ray_before rays k)) (tip (at k)) (lk' n).pair ≡ false
      free n h =
          ap (λ (z : Point). leads_into_sector z (tip (ray_before rays k)) (tip (at k)) (lk' n).pair) (sym ray.center_is)
          ∙ All-get_or (λ l. leads_into_sector (center (at k)) (tip (ray_before rays k)) (tip (at k)) l.pair ≡ false) ls n no_link h (between k hk (λ e. differs (sym (e ∙ ray.link_is))))

      starts_here : (ar' j).pair.a ≡ p
      starts_here = elim (either_way j prior.inside prior.meets.at) [
        | inl e ↦ e
        | inr e ↦ absurd (goes_out rule ls arranged balanced outside region p i j hi prior.inside differs (tip (ray_before rays k)) (tip (at k)) prior.meets ray.meets free ends_here e)
      ]

      turns : Turns rule ls i j
      turns =
          let first = comes_to rule ls (lk' i) p (ordered_at rule ls arranged i hi) ends_here in
          let second = goes_from rule ls (lk' j) p (ordered_at rule ls arranged j prior.inside) starts_here in
          let a : (ar' i).pair.a ≡ tip (at k) = sym first.far_is ∙ ray.meets.far_is in
          let b : (ar' j).pair.b ≡ tip (ray_before rays k) = sym second.far_is ∙ prior.meets.far_is in
          record {
            i_in = hi;
            j_in = prior.inside;
            meets = ends_here ∙ sym starts_here;
            none = λ n h.
                ap (λ (z : Point). leads_into_sector z (ar' j).pair.b (ar' i).pair.a (lk' n).pair) ends_here
                ∙ ap (λ (z : Point). leads_into_sector p z (ar' i).pair.a (lk' n).pair) b
                ∙ ap (λ (z : Point). leads_into_sector p (tip (ray_before rays k)) z (lk' n).pair) a
                ∙ free n h;
          }

    before_is : (before k : ℕ) → before ≡ (ray_before rays 0).link → link_before before rays k ≡ (ray_before rays k).link
    before_is before zero e = e
    before_is before (suc k) e = refl

    module _ (next : List ℕ) (each : length next ≡ length ls) where
      abbrev led : List ℕ
      led = led_on (ray_before rays 0).link rays next

      pub turns_stored : (i : ℕ) → i < length ls → (ar' i).b_node ≡ u → TurnsInto (arcs rule ls) i (get_or led i 0)
      turns_stored i hi comes =
          let found = are.all i hi (ends_there i hi comes).0 in
          let k = found.0 in
          let hk = found.1 in
          let ray : IsRay rule ls arranged u p a_at b_at i (at k) = subst (λ (r : WholeRay). IsRay rule ls arranged u p a_at b_at i r) (sym found.2) (ray_is rule ls arranged u p a_at b_at i hi (ends_there i hi comes).0) in
          let inside : (at k).link < length next = subst (λ (n : ℕ). n < length next) (sym ray.link_is) (subst (λ (n : ℕ). i < n) (sym each) hi) in
          let value = led_on_at (ray_before rays 0).link rays next are.once k hk inside (ray.comes_is ∙ eq-eqb (ar' i).b_node u comes) ∙ before_is (ray_before rays 0).link k refl in
          let stored : get_or led i 0 ≡ (ray_before rays k).link = ap (λ (n : ℕ). get_or led n 0) (sym ray.link_is) ∙ value in
          subst (λ (n : ℕ). TurnsInto (arcs rule ls) i n) (sym stored) (from_turns rule ls i (ray_before rays k).link (turns i hi comes k hk ray))

      pub others_kept : (i : ℕ) → i < length ls → (ar' i).b_node ≢ u → get_or led i 0 ≡ get_or next i 0
      others_kept i hi other = led_on_other (ray_before rays 0).link rays next i (λ k h c e.
          let ray = are.each k h in
          other (ap (λ (n : ℕ). (ar' n).b_node) (sym e) ∙ eqb-true (ar' (at k).link).b_node u (sym ray.comes_is ∙ c)))

-- ---- of a graph

module _ (rule : Bool → Bool → Bool) (kept : List Filled) (arranged : IsArranged (runs rule (graph_of kept).links)) (u : ℕ) (within : u < length (graph_of kept).nodes) where
  abbrev links : List Link
  links = (graph_of kept).links

  abbrev no_node : Node
  no_node = record { point = no_link.pair.a; links = [] }

  abbrev pub node_point : Point
  node_point = (get_or (graph_of kept).nodes u no_node).point

  abbrev pub node_links : List ℕ
  node_links = (get_or (graph_of kept).nodes u no_node).links

  abbrev no_filled : Filled
  no_filled = record { pair = no_link.pair; fill = 0 }

  in_points : u < length (node_points (pairs_of kept))
  in_points = subst (λ (n : ℕ). u < n) (length-nodes kept) within

  node_is : get_or (graph_of kept).nodes u no_node ≡ record { point = get_or (node_points (pairs_of kept)) u node_point; links = links_at (pairs_of kept) (get_or (node_points (pairs_of kept)) u node_point) }
  node_is = node_at kept u no_node node_point in_points

  point_is : node_point ≡ get_or (node_points (pairs_of kept)) u node_point
  point_is = ap (λ (n : Node). n.point) node_is

  number_is : node_number (pairs_of kept) node_point ≡ u
  number_is = ap (node_number (pairs_of kept)) point_is ∙ node_number-at (pairs_of kept) u node_point in_points

  in_kept : (i : ℕ) → i < length links → i < length kept
  in_kept i h = subst (λ (n : ℕ). i < n) (length-links kept) h

  pub a_of : (i : ℕ) → i < length links → ((get_or links i no_link).a_node ≡ u → (get_or links i no_link).pair.a ≡ node_point) × ((get_or links i no_link).pair.a ≡ node_point → (get_or links i no_link).a_node ≡ u)
  a_of i h =
      let names = names_its_nodes kept i no_link (in_kept i h) in
      let is = link_at kept i no_link no_filled (in_kept i h) in (
        λ e. sym (names.a_point no_node) ∙ ap (λ (n : ℕ). (get_or (graph_of kept).nodes n no_node).point) e,
        λ e. ap (λ (l : Link). l.a_node) is ∙ ap (λ (l : Link). node_number (pairs_of kept) l.pair.a) (sym is) ∙ ap (node_number (pairs_of kept)) e ∙ number_is,
      )

  pub b_of : (i : ℕ) → i < length links → ((get_or links i no_link).b_node ≡ u → (get_or links i no_link).pair.b ≡ node_point) × ((get_or links i no_link).pair.b ≡ node_point → (get_or links i no_link).b_node ≡ u)
  b_of i h =
      let names = names_its_nodes kept i no_link (in_kept i h) in
      let is = link_at kept i no_link no_filled (in_kept i h) in (
        λ e. sym (names.b_point no_node) ∙ ap (λ (n : ℕ). (get_or (graph_of kept).nodes n no_node).point) e,
        λ e. ap (λ (l : Link). l.b_node) is ∙ ap (λ (l : Link). node_number (pairs_of kept) l.pair.b) (sym is) ∙ ap (node_number (pairs_of kept)) e ∙ number_is,
      )

  abbrev Listed : ℕ → Type 0
  Listed i = HasNode rule links arranged u node_point a_of b_of i

  links_are : node_links ≡ links_at (pairs_of kept) node_point
  links_are = ap (λ (n : Node). n.links) node_is ∙ ap (links_at (pairs_of kept)) (sym point_is)

  pair_is : (i : ℕ) → i < length links → get_or (pairs_of kept) i no_link.pair ≡ (get_or links i no_link).pair
  pair_is i h = get_or-map (λ (f : Filled). f.pair) kept i no_filled no_link.pair (in_kept i h) ∙ ap (λ (l : Link). l.pair) (sym (link_at kept i no_link no_filled (in_kept i h)))

  exactly : (i : ℕ) → has_number i node_links ≡ (nat_lt i (length (pairs_of kept)) && (point_eq (get_or (pairs_of kept) i no_link.pair).a node_point || point_eq (get_or (pairs_of kept) i no_link.pair).b node_point))
  exactly i = ap (has_number i) links_are ∙ links_at-exactly (pairs_of kept) node_point i no_link.pair

  many : length (pairs_of kept) ≡ length links
  many = length-map kept (λ (f : Filled). f.pair) ∙ sym (length-links kept)

  pub listed : (i : ℕ) → has_number i node_links ≡ true → (i < length links) × Listed i
  listed i e =
      let parts = and_parts (nat_lt i (length (pairs_of kept))) _ (sym (exactly i) ∙ e) in
      let h : i < length links = subst (λ (n : ℕ). i < n) many (nat_lt-tested i (length (pairs_of kept)) parts.0) in (
        h,
        elim (or_cases _ _ parts.1) [
          | inl a ↦ inl ((a_of i h).1 (ap (λ (s : Pair). s.a) (sym (pair_is i h)) ∙ same_by_eq _ node_point a))
          | inr b ↦ inr ((b_of i h).1 (ap (λ (s : Pair). s.b) (sym (pair_is i h)) ∙ same_by_eq _ node_point b))
        ],
      )

  pub found : (i : ℕ) → i < length links → Listed i → Contains node_links i
  found i h at =
      let here : (point_eq (get_or (pairs_of kept) i no_link.pair).a node_point || point_eq (get_or (pairs_of kept) i no_link.pair).b node_point) ≡ true = elim at [
        | inl e ↦ or_left _ _ (ap (λ (z : Point). point_eq z node_point) (ap (λ (s : Pair). s.a) (pair_is i h) ∙ (a_of i h).0 e) ∙ point_eq_same node_point)
        | inr e ↦ or_right _ _ (ap (λ (z : Point). point_eq z node_point) (ap (λ (s : Pair). s.b) (pair_is i h) ∙ (b_of i h).0 e) ∙ point_eq_same node_point)
      ] in
      let low : nat_lt i (length (pairs_of kept)) ≡ true = nat_lt-test i (length (pairs_of kept)) (subst (λ (n : ℕ). i < n) (sym many) h) in
      let some = Has-from_list_any (λ k. k == i) node_links (exactly i ∙ and_from _ _ low here) in
      Contains-from_Has node_links i (subst (λ (n : ℕ). Has node_links n) (eqb-true some.0 i some.2) some.1)

  pub distinct : IsDistinct eqb node_links
  unfolding links_at
  distinct = subst (λ (ks : List ℕ). IsDistinct eqb ks) (sym links_are) (indexes_differ (λ l. point_eq l.a node_point) (λ l. point_eq l.b node_point) (pairs_of kept) no_link.pair (λ i h e.
      let low : i < length links = subst (λ (n : ℕ). i < n) many h in
      let l : Pair = get_or (pairs_of kept) i no_link.pair in
      from_not_same l.b node_point (λ k.
      let o : Before l.a l.b = subst (λ (s : Pair). Before s.a s.b) (sym (pair_is i low)) (point_lt-cases _ _ (ordered_at rule links arranged i low)) in
      Before-irreflexive node_point (subst (λ (z : Point). Before node_point z) k (subst (λ (z : Point). Before z l.b) (same_by_eq l.a node_point e) o)))))
