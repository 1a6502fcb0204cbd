-- Edges between which one step leads are in one shape.
use Rattle.std.proofs.Common.{◌≡◌, ℕ, ◌<◌, ◌⊎◌, inl, inr, Bool, true, false, if◌then◌else◌, List, [], map, length, get_or, sym, ap, subst, ◌∙◌, arith}
use Rattle.std.specs.Prelude.{pos, Contains, Some}
use Rattle.std.specs.List.{AllByRecursion, list_all}
use Rattle.std.proofs.lemmas.List.Elements.{recursion_from_All}
use Rattle.overlay_geometry.specs.Points.{Point, Pair, is_ordered}
use Rattle.overlay_geometry.proofs.laws.lists.Lists.{Has, Has-map, AllByRecursion-from_Has, AllByRecursion-at}
use Rattle.overlay_geometry.proofs.laws.lists.Elements.{Has-from_Contains, Contains-from_Has}
use Rattle.overlay_base.specs.Rules.{top_value}
use Rattle.overlay_base.specs.Segments.{WholeSegment}
use Rattle.overlay_sweep.specs.ChainWindings.{support, bottom}
use Rattle.overlay_sweep.proofs.laws.columns.ChainSums.{by_earlier}
use Rattle.overlay_sweep.proofs.laws.columns.Members.{IsArranged}
use Rattle.overlay_build.specs.Boundary.{of_subject, direction, directed_links}
use Rattle.overlay_build.specs.DirectedWalks.{arcs, no_link, contour, IsDirectedWalk}
use Rattle.overlay_build.specs.Graph.{Filled, Link, graph_of}
use Rattle.overlay_shapes.specs.Gathered.{all_walks, all_links, group_at}
use Rattle.overlay_shapes.specs.ShapeWalks.{StandsOn, AreShapeWalks}
use Rattle.overlay_shapes.specs.ShapeWalks.{IsStep as LinkStep}
use Rattle.overlay_contours.specs.Contours.{steps, in_order, turned}
use Rattle.overlay_contours.specs.Polygons.{run_of}
use Rattle.overlay_contours.specs.Shapes.{MeetAcross, TurnsInto, IsStep}
use Rattle.overlay_contours.proofs.laws.Extracts.{in_order_either_way}
use Rattle.overlay_contours.proofs.laws.ShapeLists.{walk_at}
use Rattle.overlay_contours.proofs.laws.ShapeOverlays.{either_bool, slice_get-at}
use Rattle.overlay_contours.proofs.laws.ShapeParts.{Has-at, way_of_run, none_of_ways, edge_of, link_of_edge}
use Rattle.overlay_contours.proofs.laws.ShapeSums.{index_of, index_by_pair, runs_many, as_many, low_links}

-- a run in order is its segment
in_order_run : (b : Bool) (p : Pair) → is_ordered p ≡ true → in_order (if b then p else turned p) ≡ p
in_order_run true p h = in_order_either_way true (record { pair = p; fill = 0; a_node = 0; b_node = 0 }) h
in_order_run false p h = in_order_either_way false (record { pair = p; fill = 0; a_node = 0; b_node = 0 }) h

run_pair : (s t : WholeSegment) → is_ordered s.pair ≡ true → is_ordered t.pair ≡ true → run_of s ≡ run_of t → s.pair ≡ t.pair
run_pair s t h k e = sym (in_order_run _ s.pair h) ∙ ap in_order e ∙ in_order_run _ t.pair k

module _ (rule : Bool → Bool → Bool) (kept : List Filled) (ordered : list_all (λ f. is_ordered f.pair) kept ≡ true) (arranged : IsArranged (directed_links rule (graph_of kept))) where
  abbrev links : List Link
  links = (graph_of kept).links

  abbrev ways : List Link
  ways = arcs rule links

  abbrev runs : List WholeSegment
  runs = directed_links rule (graph_of kept)

  abbrev none : WholeSegment
  none = record { pair = no_link.pair; count = of_subject (direction rule 0) }

  low_run : (i : ℕ) → i < length links → i < length (directed_links rule (graph_of kept))
  low_run i h = let m = runs_many rule kept ordered arranged in omega (arith, h, m)

  -- the link that runs as a segment does
  link_on : (i : ℕ) → i < length links → (s : WholeSegment) → Has (directed_links rule (graph_of kept)) s → run_of s ≡ (get_or ways i no_link).pair → get_or runs i none ≡ s
  link_on i low s m c =
      let k = index_of rule kept ordered arranged s m in
      let same : (get_or runs i none).pair ≡ s.pair = run_pair (get_or runs i none) s (arranged.ordered (get_or runs i none) (Has-at runs i none (low_run i low))) (arranged.ordered s m) (sym (way_of_run rule kept ordered i low) ∙ sym c) in
      let e : i ≡ k.0 = index_by_pair runs i k.0 none none arranged.sorted (low_run i low) (low_run k.0 k.1) (same ∙ ap (λ (t : WholeSegment). t.pair) (sym k.2)) in
      ap (λ j. get_or runs j none) e ∙ k.2

  support_there : (s t : WholeSegment) → Has (directed_links rule (graph_of kept)) s → support runs s ≡ Some t → Has (directed_links rule (graph_of kept)) t
  support_there s t m on = by_earlier runs arranged s m
      (λ e. absurd (cc))
      (λ r e k before. let same : r ≡ t = cc in subst (Has runs) same k)

  module _ (groups : List (List (List ℕ))) (are : AreShapeWalks rule (graph_of kept) (arcs rule (graph_of kept).links) groups)
      (between : (i : ℕ) → i < length links → (top_value rule (get_or links i no_link).fill ≡ rule false false → ⊥) → (bottom runs (get_or runs i none)).subj ≡ pos 0) where
    closed : AllByRecursion (IsDirectedWalk ways) (all_walks groups)
    closed = recursion_from_All (IsDirectedWalk ways) (all_walks groups) are.walks.closed

    group_closed : (k : ℕ) → k < length groups → AllByRecursion (IsDirectedWalk ways) (group_at groups k)
    group_closed k h = AllByRecursion-from_Has (IsDirectedWalk ways) (group_at groups k) (λ w m. AllByRecursion-at (IsDirectedWalk ways) (all_walks groups) w closed (walk_at groups k w h m))

    low_edge : (i : ℕ) → Has (all_links (all_walks groups)) i → i < length links
    low_edge i m = AllByRecursion-at (λ j. j < length links) (all_links (all_walks groups)) i (low_links rule kept ordered arranged (all_walks groups) closed) m

    stands_on : (i j : ℕ) → i < length links → j < length links → MeetAcross runs (get_or ways i no_link).pair (get_or ways j no_link).pair → StandsOn rule (graph_of kept) i j
    stands_on i j h l m =
        let there = Has-from_Contains runs m.above m.is_there in
        let first = link_on i h m.above there m.of_first in
        let second = link_on j l m.below (support_there m.above m.below there m.on) m.of_second in
        record {
          above = m.above;
          below = m.below;
          above_is = slice_get-at runs i none (low_run i h) ∙ ap (λ s. Some s) first;
          below_is = slice_get-at runs j none (low_run j l) ∙ ap (λ s. Some s) second;
          on = m.on;
          between = elim (either_bool (top_value rule (get_or links i no_link).fill) (rule false false)) [
            | inl e ↦ e
            | inr n ↦ absurd (m.between (ap (λ (s : WholeSegment). (bottom runs s).subj) (sym first) ∙ between i h n))
          ];
        }

    link_step : (i j : ℕ) → i < length links → j < length links → MeetAcross runs (get_or ways i no_link).pair (get_or ways j no_link).pair ⊎ TurnsInto runs (get_or ways i no_link).pair (get_or ways j no_link).pair → LinkStep rule (graph_of kept) ways i j
    link_step i j h l (inl m) = inl (stands_on i j h l m)
    link_step i j h l (inr t) = inr (record {
      first = get_or ways i no_link;
      second = get_or ways j no_link;
      first_is = slice_get-at ways i no_link (let m = as_many rule kept ordered arranged in omega (arith, h, m));
      second_is = slice_get-at ways j no_link (let m = as_many rule kept ordered arranged in omega (arith, l, m));
      meets = t.meets;
      none_between = none_of_ways rule kept ordered (get_or ways i no_link).pair.b (get_or ways j no_link).pair.b (get_or ways i no_link).pair.a t.none_between;
    })

    pub in_one_shape : (e f : Pair) → IsStep runs (map (contour ways) (all_walks groups)) e f → (shape : List (List Point)) × Contains (map (map (contour ways)) groups) shape × Contains (steps shape) e × Contains (steps shape) f
    in_one_shape e f m =
        let i = link_of_edge rule kept ordered (all_walks groups) closed e m.is_first in
        let j = link_of_edge rule kept ordered (all_walks groups) closed f m.is_second in
        let r = are.whole i.0 j.0 (link_step i.0 j.0 (low_edge i.0 i.1) (low_edge j.0 j.1) (subst (λ x. MeetAcross runs x (get_or ways j.0 no_link).pair ⊎ TurnsInto runs x (get_or ways j.0 no_link).pair) (sym i.2) (subst (λ y. MeetAcross runs e y ⊎ TurnsInto runs e y) (sym j.2) m.leads))) in
        let g = group_at groups r.0 in
        let edge_in : (k : ℕ) (x : Pair) → Contains (all_links g) k → (get_or ways k no_link).pair ≡ x → Contains (steps (map (contour ways) g)) x =
        λ k x c same. subst (Contains (steps (map (contour ways) g))) same (edge_of rule kept ordered g (group_closed r.0 r.1) k (Has-from_Contains (all_links g) k c)) in (
          map (contour ways) g,
          Contains-from_Has (map (map (contour ways)) groups) (map (contour ways) g) (Has-map (map (contour ways)) groups g (Has-at groups r.0 [] r.1)),
          edge_in i.0 e r.2 i.2,
          edge_in j.0 f r.3 j.2,
        )
