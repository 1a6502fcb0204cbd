-- A graph of code around one of its nodes: the order of the rays there, and which link leads on from each that comes in.
use Rattle.std.proofs.Common.{◌≡◌, ◌≢◌, ℕ, ◌<◌, ◌≤◌, ◌∙◌, List, [], ap, refl, sym, subst, map, length, get_or, if◌then◌else◌}
use Rattle.std.specs.Prelude.{ℤ, Bool, true, false, All, slice_index_or}
use Rattle.std.specs.List.Sorted.{IsPermutation}
use Rattle.std.specs.Ordering.{is_lt}
use Rattle.std.proofs.lemmas.List.{length-map, get_or-map}
use Rattle.std.proofs.lemmas.List.Elements.{All-from_get_or}
use Rattle.std.proofs.lemmas.Simd.{map-map}
use Rattle.overlay_geometry.specs.Points.{Point}
use Rattle.overlay_base.specs.Balance.{IsBalanced}
use Rattle.overlay_base.specs.Planar.{is_arranged}
use Rattle.overlay_base.specs.Rules.{top_value}
use Rattle.overlay_base.specs.Segments.{WholeSegment}
use Rattle.overlay_base.specs.declared.overlay_core.link.OverlayLink.{OverlayLink}
use Rattle.overlay_base.specs.declared.segm.shape_type.ShapeType.TheVariants.{Subject}
use Rattle.overlay_sweep.proofs.laws.columns.Members.{IsArranged}
use Rattle.overlay_sweep.proofs.laws.visits.Arrangements.{whole_arranged}
use Rattle.overlay_build.specs.Boundary.{directed_links, of_subject}
use Rattle.overlay_build.specs.DirectedWalks.{turned, in_direction, arcs, no_link, IsFlow}
use Rattle.overlay_build.specs.Graph.{Filled, Graph, Link, Node, node_number}
use Rattle.overlay_build.specs.GraphOf.{HoldGraph, link_of, kept_of, graph_with}
use Rattle.overlay_build.specs.ShapedBoundary.{in_shape}
use Rattle.overlay_build.proofs.laws.graphs.GraphLaws.{pairs_of, length-links, link_at, link_of as kept_link}
use Rattle.overlay_build.proofs.laws.walks.DirectedSteps.{ListArcs-held, length-arcs}
use Rattle.overlay_shapes.specs.Sectors.{HaveRegionOnLeft, TurnsInto}
use Rattle.overlay_shapes.specs.steps.LeadOn.{LeadOn}
use Rattle.overlay_shapes.specs.steps.Rays.{WholeRay, no_ray, ray_at, ray_before, around_cmp, AreAround, led_on}
use Rattle.overlay_shapes.proofs.laws.AroundNodes.{few_around, sorted_around, are_rays}
use Rattle.overlay_shapes.proofs.laws.LinkBalances.{balance_from_flow}
use Rattle.overlay_shapes.proofs.laws.NodeLeads.{node_point, node_links, a_of, b_of, listed, found, distinct, turns_stored, others_kept}
use Rattle.overlay_shapes.proofs.laws.Turns.{runs, arc_at, arcs_many, lead_on}

-- as segments of a subject links in their directions are what they are
as_subject : (rule : Bool → Bool → Bool) (graph : Graph) → in_shape Subject (directed_links rule graph) ≡ directed_links rule graph
unfolding in_shape directed_links
as_subject rule graph = map-map (λ (s : WholeSegment). record { pair = s.pair; count = of_subject s.count.subj }) _ graph.links

pub directed_is : (rule : Bool → Bool → Bool) (graph : Graph) → directed_links rule graph ≡ runs rule graph.links
unfolding directed_links
directed_is rule graph = refl

module _ {N I D : Type 0} (indexes : N → List ℕ) (is_canonical : N → Bool) (whole : I → ℤ) (nodes : List N) (links : List (OverlayLink I D)) (holds : HoldGraph indexes is_canonical whole nodes links (graph_with whole links))
    (rule : Bool → Bool → Bool) (least greatest : ℤ) (arranged : is_arranged least greatest (in_shape Subject (directed_links rule (graph_with whole links))) ≡ true) where
  abbrev graph : Graph
  graph = graph_with whole links

  abbrev shown : List Link
  shown = map (link_of whole) links

  pub runs_arranged : IsArranged (runs rule graph.links)
  runs_arranged = subst (λ (xs : List WholeSegment). IsArranged xs) (directed_is rule graph) (whole_arranged least greatest (directed_links rule graph) _ (sym (as_subject rule graph)) arranged)

  module _ (u : ℕ) (within : u < length nodes) where
    abbrev listed_there : List ℕ
    listed_there = slice_index_or (map indexes nodes) u []

    inside : u < length graph.nodes
    inside = subst (λ (n : ℕ). u < n) (sym (length-map nodes indexes) ∙ ap length holds.same_nodes ∙ length-map graph.nodes (λ (n : Node). n.links)) within

    abbrev the_point : Point
    the_point = node_point rule (kept_of whole links) runs_arranged u inside

    abbrev the_links : List ℕ
    the_links = node_links rule (kept_of whole links) runs_arranged u inside

    listed_is : listed_there ≡ the_links
    listed_is = ap (λ (l : List (List ℕ)). get_or l u []) holds.same_nodes ∙ get_or-map (λ (n : Node). n.links) graph.nodes u _ [] inside

    First : List Link → List ℕ → List WholeRay → Type 0
    First ls ks rays = IsPermutation (map (ray_at rule ls u) ks) rays

    Around : List Link → List ℕ → List WholeRay → Type 0
    Around ls ks rays = AreAround rule ls u ks rays

    to_graph : (rays : List WholeRay) → First shown listed_there rays → First graph.links the_links rays
    to_graph rays moved = subst (λ (ls : List Link). First ls the_links rays) holds.same_links (subst (λ (ks : List ℕ). First shown ks rays) listed_is moved)

    from_graph : (rays : List WholeRay) → Around graph.links the_links rays → Around shown listed_there rays
    from_graph rays around = subst (λ (ks : List ℕ). Around shown ks rays) (sym listed_is) (subst (λ (ls : List Link). Around ls the_links rays) (sym holds.same_links) around)

    pub held_few : (rays : List WholeRay) → IsPermutation (map (ray_at rule shown u) listed_there) rays → length rays ≤ 2 → AreAround rule shown u listed_there rays
    unfolding First Around
    held_few rays moved few = from_graph rays (few_around rule graph.links runs_arranged u the_point (a_of rule (kept_of whole links) runs_arranged u inside) (b_of rule (kept_of whole links) runs_arranged u inside) the_links
        (listed rule (kept_of whole links) runs_arranged u inside) (found rule (kept_of whole links) runs_arranged u inside) (distinct rule (kept_of whole links) runs_arranged u inside) rays (to_graph rays moved) few)

    pub held_sorted : (rays : List WholeRay) → IsPermutation (map (ray_at rule shown u) listed_there) rays → ((i j : ℕ) → i ≤ j → j < length rays → is_lt (around_cmp (get_or rays j no_ray) (get_or rays i no_ray)) ≡ false) → AreAround rule shown u listed_there rays
    unfolding First Around
    held_sorted rays moved up = from_graph rays (sorted_around rule graph.links runs_arranged u the_point (a_of rule (kept_of whole links) runs_arranged u inside) (b_of rule (kept_of whole links) runs_arranged u inside) the_links
        (listed rule (kept_of whole links) runs_arranged u inside) (found rule (kept_of whole links) runs_arranged u inside) (distinct rule (kept_of whole links) runs_arranged u inside) rays (to_graph rays moved) up)

    -- what is stored along the rays in their order around the node
    module _ (region : HaveRegionOnLeft (rule false false) (directed_links rule graph)) (rays : List WholeRay) (next : List ℕ) where
      abbrev led : List ℕ
      led = led_on (ray_before rays 0).link rays next

      pub record LeadsAt (ls : List Link) : Type 0 where
        pub turns : (i : ℕ) → i < length (arcs rule ls) → (slice_index_or (arcs rule ls) i no_link).b_node ≡ u → TurnsInto (arcs rule ls) i (slice_index_or led i 0)
        pub others : (i : ℕ) → i < length (arcs rule ls) → (slice_index_or (arcs rule ls) i no_link).b_node ≢ u → slice_index_or led i 0 ≡ slice_index_or next i 0

      leads_in_graph : IsFlow (arcs rule graph.links) → AreAround rule graph.links u the_links rays → length next ≡ length (arcs rule graph.links) → LeadsAt graph.links
      leads_in_graph level around each =
          let balanced : IsBalanced (runs rule graph.links) = subst (λ (xs : List WholeSegment). IsBalanced xs) (directed_is rule graph) (balance_from_flow rule (kept_of whole links) level) in
          let left : HaveRegionOnLeft (rule false false) (runs rule graph.links) = subst (λ (xs : List WholeSegment). HaveRegionOnLeft (rule false false) xs) (directed_is rule graph) region in
          let a = a_of rule (kept_of whole links) runs_arranged u inside in
          let b = b_of rule (kept_of whole links) runs_arranged u inside in
          let are = are_rays rule graph.links runs_arranged u the_point a b the_links (listed rule (kept_of whole links) runs_arranged u inside) (found rule (kept_of whole links) runs_arranged u inside) (distinct rule (kept_of whole links) runs_arranged u inside) rays around.same in
          let many = each ∙ arcs_many rule graph.links in
          let low = λ (i : ℕ) (h : i < length (arcs rule graph.links)). subst (λ (n : ℕ). i < n) (arcs_many rule graph.links) h in
          record {
            turns = λ i h e. turns_stored rule graph.links runs_arranged balanced (rule false false) left level u the_point a b rays are around.none_between next many i (low i h) (ap (λ (l : Link). l.b_node) (sym (arc_at rule graph.links i (low i h))) ∙ e);
            others = λ i h e. others_kept rule graph.links runs_arranged balanced (rule false false) left level u the_point a b rays are around.none_between next many i (low i h) (λ k. e (ap (λ (l : Link). l.b_node) (arc_at rule graph.links i (low i h)) ∙ k));
          }

      Leads : List Link → Type 0
      Leads ls = IsFlow (arcs rule ls) → AreAround rule ls u the_links rays → length next ≡ length (arcs rule ls) → LeadsAt ls

      pub leads_at : IsFlow (arcs rule shown) → AreAround rule shown u listed_there rays → length next ≡ length (arcs rule shown) → LeadsAt shown
      unfolding Leads
      leads_at level around each = subst Leads (sym holds.same_links) leads_in_graph level (subst (λ (ks : List ℕ). AreAround rule shown u ks rays) listed_is around) each

      -- each ray is that of a link
      pub rays_inside : AreAround rule shown u listed_there rays → length next ≡ length (arcs rule shown) → All (λ ray. ray.link < length next) rays
      rays_inside around each =
          let a = a_of rule (kept_of whole links) runs_arranged u inside in
          let b = b_of rule (kept_of whole links) runs_arranged u inside in
          let are = are_rays rule graph.links runs_arranged u the_point a b the_links (listed rule (kept_of whole links) runs_arranged u inside) (found rule (kept_of whole links) runs_arranged u inside) (distinct rule (kept_of whole links) runs_arranged u inside) rays
          (subst (λ (ls : List Link). IsPermutation (map (ray_at rule ls u) the_links) rays) holds.same_links (subst (λ (ks : List ℕ). IsPermutation (map (ray_at rule shown u) ks) rays) listed_is around.same)) in
          let many : length next ≡ length graph.links = each ∙ arcs_many rule shown ∙ ap length holds.same_links in
          All-from_get_or (λ (ray : WholeRay). ray.link < length next) rays no_ray (λ k h. subst (λ (n : ℕ). (get_or rays k no_ray).link < n) (sym many) (are.each k h).inside)

  -- ---- all nodes

  number_of : Point → ℕ
  number_of q = node_number (pairs_of (kept_of whole links)) q

  Numbered : List Link → Type 0
  Numbered ls = (i : ℕ) → i < length ls → ((in_direction rule (get_or ls i no_link)).a_node ≡ number_of (in_direction rule (get_or ls i no_link)).pair.a) × ((in_direction rule (get_or ls i no_link)).b_node ≡ number_of (in_direction rule (get_or ls i no_link)).pair.b)

  numbered : Numbered graph.links
  unfolding Numbered number_of
  numbered i h = by (top_value rule (get_or graph.links i no_link).fill)
    where
      kept : List Filled
      kept = kept_of whole links

      low : i < length kept
      low = subst (λ (n : ℕ). i < n) (length-links kept) h

      is : get_or graph.links i no_link ≡ kept_link kept (get_or kept i (record { pair = no_link.pair; fill = 0 }))
      is = link_at kept i no_link (record { pair = no_link.pair; fill = 0 }) low

      a : (get_or graph.links i no_link).a_node ≡ node_number (pairs_of kept) (get_or graph.links i no_link).pair.a
      a = ap (λ (l : Link). l.a_node) is ∙ ap (λ (l : Link). node_number (pairs_of kept) l.pair.a) (sym is)

      b : (get_or graph.links i no_link).b_node ≡ node_number (pairs_of kept) (get_or graph.links i no_link).pair.b
      b = ap (λ (l : Link). l.b_node) is ∙ ap (λ (l : Link). node_number (pairs_of kept) l.pair.b) (sym is)

      by : (t : Bool) → ((if t then get_or graph.links i no_link else turned (get_or graph.links i no_link)).a_node ≡ node_number (pairs_of kept) (if t then get_or graph.links i no_link else turned (get_or graph.links i no_link)).pair.a)
          × ((if t then get_or graph.links i no_link else turned (get_or graph.links i no_link)).b_node ≡ node_number (pairs_of kept) (if t then get_or graph.links i no_link else turned (get_or graph.links i no_link)).pair.b)
      by true = (a, b)
      by false = (b, a)

  module _ (next : List ℕ) where
    Lead : List Link → Type 0
    Lead ls = length next ≡ length ls → ((i : ℕ) → i < length ls → TurnsInto (arcs rule ls) i (get_or next i 0)) → LeadOn (arcs rule ls) next

    lead_in_graph : Lead graph.links
    unfolding Lead Numbered
    lead_in_graph each turns = lead_on rule graph.links runs_arranged number_of numbered next each turns

    -- where each link is led on, the list says which links lead on
    pub all_lead_on : length next ≡ length links → ((i : ℕ) → i < length links → TurnsInto (arcs rule shown) i (get_or next i 0)) → LeadOn (arcs rule shown) next
    unfolding Lead
    all_lead_on each turns =
        let many = length-map links (link_of whole) in
        subst Lead (sym holds.same_links) lead_in_graph (each ∙ sym many) (λ i h. turns i (subst (λ (n : ℕ). i < n) many h))

    pub ends_at_nodes : (i : ℕ) → i < length links → (slice_index_or (arcs rule shown) i no_link).b_node < length nodes
    ends_at_nodes i h =
        subst (λ (n : ℕ). (slice_index_or (arcs rule shown) i no_link).b_node < n) (length-map nodes indexes)
        ((ListArcs-held indexes is_canonical whole nodes links rule holds).end_in i (subst (λ (n : ℕ). i < n) (sym (length-arcs whole rule links)) h))
