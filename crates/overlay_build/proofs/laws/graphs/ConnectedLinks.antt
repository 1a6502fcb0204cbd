-- When all ends have their nodes, nodes and links are those of the graph of the given links.
use Rattle.std.proofs.Common.{◌≡◌, refl, sym, ap, ap₂, subst, ◌∙◌, arith, inl, inr, ℕ, suc, ◌+◌, ◌-◌, ◌<◌, ◌≤◌, Bool, true, List, [], ◌∷◌, map, length, get_or}
use Rattle.std.specs.Prelude.{◌⊎◌, ℤ, pos, nat_lt}
use Rattle.std.specs.List.{list_all}
use Rattle.std.proofs.lemmas.List.{take_all, length-map, get_or-map, get_or_default}
use Rattle.std.proofs.lemmas.Bool.{lt-ltb}
use Rattle.std.proofs.lemmas.Simd.{map-map}
use Rattle.overlay_geometry.specs.Coordinates.{is_pair_in_range}
use Rattle.overlay_geometry.specs.Points.{Point, Pair, pair_cmp, point_eq}
use Rattle.overlay_geometry.specs.Sorting.{is_strictly_sorted}
use Rattle.overlay_geometry.specs.PointOf.{point_of}
use Rattle.overlay_base.specs.declared.overlay_core.link.OverlayLink.{OverlayLink}
use Rattle.overlay_build.specs.declared.build.link_ends.PackedEnd.{PackedEnd}
use Rattle.overlay_build.specs.steps.EndOf.{WholeEnd, ends_of}
use Rattle.overlay_build.specs.steps.LinkEnds.{numbered_starts}
use Rattle.overlay_build.specs.steps.LinksOf.{starts_of, AreEndsInRange, IsNextPoint, IsRunAt, indexes_between}
use Rattle.overlay_build.specs.Graph.{Filled, Node, node_points, node_number, indexes_where, links_at, graph_of, nodes_of_pairs}
use Rattle.overlay_build.specs.GraphOf.{link_of, kept_of, graph_with, pairs_of_links, HoldGraph}
use Rattle.overlay_build.specs.Graph.{without_nodes}
use Rattle.overlay_base.proofs.laws.geometry.Pairs.{has_point}
use Rattle.overlay_build.proofs.laws.graphs.GraphNodes.{has_start, has_end, node_number-of}
use Rattle.overlay_build.proofs.laws.graphs.NodeSteps.{sorted_ends_of, numbered_to, IsConnectedUpTo, node_has_end, by_less, indexes_of_starts, indexes_of_ends, run_is_some}

-- lists are mapped to the same where their elements are
pub same_maps : {X Y Z : Type 0} (f : X → Z) (g : Y → Z) (xs : List X) (ys : List Y) → length xs ≡ length ys → ((k : ℕ) (d : X) (e : Y) → k < length ys → f (get_or xs k d) ≡ g (get_or ys k e)) → map f xs ≡ map g ys
same_maps f g [] [] same each = refl
same_maps f g [] (y ∷ ys) same each = absurd (omega (arith, same))
same_maps f g (x ∷ xs) [] same each = absurd (omega (arith, same))
same_maps f g (x ∷ xs) (y ∷ ys) same each = ap₂ (λ z zs. z ∷ zs) (each 0 x y (omega arith)) (same_maps f g xs ys (omega (arith, same)) (λ k d e l. each (suc k) d e (omega (arith, l))))

module _ {N I D : Type 0} (indexes : N → List ℕ) (is_canonical : N → Bool) (whole : I → ℤ) (given : List (OverlayLink I D)) (start end : ℕ) (nodes : List N) (links : List (OverlayLink I D))
    (up : IsConnectedUpTo indexes is_canonical whole given start end nodes links) where
  -- numbers of nodes change no pair
  pub same_pairs : pairs_of_links whole links ≡ pairs_of_links whole given
  same_pairs = same_maps (λ (l : OverlayLink I D). (link_of whole l).pair) (λ (l : OverlayLink I D). (link_of whole l).pair) links given up.as_many (λ k d e h. ap (λ (l : OverlayLink I D). (link_of whole l).pair) (up.numbers k d h ∙ ap (numbered_to whole (pairs_of_links whole given) (length nodes)) (get_or_default given k d e h)))

  -- so the ends stay in range
  pub stay_in_range : (least greatest : I) (seen : List (OverlayLink I D)) → seen ≡ links → AreEndsInRange whole least greatest given → AreEndsInRange whole least greatest seen
  stay_in_range least greatest seen e h = ap (list_all (is_pair_in_range (whole least) (whole greatest))) (ap (pairs_of_links whole) e ∙ same_pairs) ∙ h

  -- numbers of nodes change no data
  pub same_data : map (λ (l : OverlayLink I D). l.edge_data) links ≡ map (λ (l : OverlayLink I D). l.edge_data) given
  same_data = same_maps (λ (l : OverlayLink I D). l.edge_data) (λ (l : OverlayLink I D). l.edge_data) links given up.as_many (λ k d e h. ap (λ (l : OverlayLink I D). l.edge_data) (up.numbers k d h ∙ ap (numbered_to whole (pairs_of_links whole given) (length nodes)) (get_or_default given k d e h)))

  -- a node for each point
  all_made : length (numbered_starts (pairs_of_links whole given)) ≤ start → length (sorted_ends_of (pairs_of_links whole given)) ≤ end → length nodes ≡ length (node_points (pairs_of_links whole given))
  all_made over ended =
      let pairs : List Pair = pairs_of_links whole given in
      let p : Point = record { x = pos 0; y = pos 0 } in
      let mark : WholeEnd = record { index = 0; point = p } in
      let few = up.few in
      by_less (length nodes) (length (node_points pairs))
      (λ less. elim (node_has_end pairs (length nodes) p less) [
        | inl found ↦ (let low = up.firsts.before found.0 mark (omega (arith, over, found.1)) in let its = found.2 mark in absurd (omega (arith, low, its)))
        | inr found ↦ (let low = up.seconds.before found.0 mark (omega (arith, ended, found.1)) in let its = found.2 mark in absurd (omega (arith, low, its)))
      ])
      (λ enough. omega (arith, few, enough))

  -- then each link has the numbers of its nodes
  numbered_all : length (numbered_starts (pairs_of_links whole given)) ≤ start → length (sorted_ends_of (pairs_of_links whole given)) ≤ end → (k : ℕ) (d e : OverlayLink I D) → k < length given →
      link_of whole (get_or links k d) ≡ record { pair = (link_of whole (get_or given k e)).pair; fill = (get_or given k e).fill; a_node = node_number (pairs_of_links whole given) (point_of whole (get_or given k e).a.point); b_node = node_number (pairs_of_links whole given) (point_of whole (get_or given k e).b.point) }
  numbered_all over ended k d e h =
      let pairs : List Pair = pairs_of_links whole given in
      let l : OverlayLink I D = get_or given k e in
      let f : OverlayLink I D → Pair = λ l. (link_of whole l).pair in
      let h' : k < length pairs = rw (length-map given f) h in
      let pair_at : get_or pairs k (f e) ≡ f l = get_or-map f given k e (f e) h in
      let a = (node_number-of pairs (point_of whole l.a.point) (point_of whole l.a.point) (ap (λ (s : Pair). has_point (node_points pairs) s.a) (sym pair_at) ∙ has_start pairs k (f e) h')).0 in
      let b = (node_number-of pairs (point_of whole l.b.point) (point_of whole l.b.point) (ap (λ (s : Pair). has_point (node_points pairs) s.b) (sym pair_at) ∙ has_end pairs k (f e) h')).0 in
      let a_has : nat_lt (node_number pairs (point_of whole l.a.point)) (length nodes) ≡ true = lt-ltb _ _ (rw (all_made over ended) a) in
      let b_has : nat_lt (node_number pairs (point_of whole l.b.point)) (length nodes) ≡ true = lt-ltb _ _ (rw (all_made over ended) b) in
      ap (link_of whole) (up.numbers k d h ∙ ap (numbered_to whole pairs (length nodes)) (get_or_default given k d e h)) ∙ (rw (a_has, b_has) refl)

  kept_pairs : map (λ (f : Filled). f.pair) (kept_of whole given) ≡ pairs_of_links whole given
  kept_pairs = map-map (λ (f : Filled). f.pair) (λ (l : OverlayLink I D). without_nodes (link_of whole l)) given

  pub holds_graph : length (numbered_starts (pairs_of_links whole given)) ≤ start → length (sorted_ends_of (pairs_of_links whole given)) ≤ end → HoldGraph indexes is_canonical whole nodes links (graph_with whole given)
  unfolding graph_of nodes_of_pairs
  holds_graph over ended = record {
    same_links = rw kept_pairs (same_maps (link_of whole) (λ (l : OverlayLink I D). record { pair = (link_of whole l).pair; fill = l.fill; a_node = node_number (pairs_of_links whole given) (point_of whole l.a.point); b_node = node_number (pairs_of_links whole given) (point_of whole l.b.point) }) links given up.as_many (numbered_all over ended)
        ∙ sym (map-map (λ (f : Filled). record { pair = f.pair; fill = f.fill; a_node = node_number (pairs_of_links whole given) f.pair.a; b_node = node_number (pairs_of_links whole given) f.pair.b }) (λ (l : OverlayLink I D). without_nodes (link_of whole l)) given));
    same_nodes = rw kept_pairs (up.made ∙ ap (map (λ p. links_at (pairs_of_links whole given) p)) (take_all (length nodes) (node_points (pairs_of_links whole given)) (let made = all_made over ended in omega (arith, made)))
        ∙ sym (map-map (λ (n : Node). n.links) (λ (p : Point). record { point = p; links = links_at (pairs_of_links whole given) p }) (node_points (pairs_of_links whole given))));
    form = up.form;
  }

-- ---- what the calls of a step show, of the given links

-- the next point, the runs of ends there, and the indexes of their links
pub record IsFound (pairs : List Pair) (start end next_start next_end : ℕ) (p : Point) (firsts seconds : List ℕ) : Type 0 where
  pub next : IsNextPoint (numbered_starts pairs) (sorted_ends_of pairs) start end p
  pub first : IsRunAt (numbered_starts pairs) p start next_start
  pub second : IsRunAt (sorted_ends_of pairs) p end next_end
  pub starts : firsts ≡ indexes_where (λ l. point_eq l.a p) pairs
  pub ends : seconds ≡ indexes_where (λ l. point_eq l.b p) pairs
  pub some : (start < next_start) ⊎ (end < next_end)

module _ {N I D : Type 0} (indexes : N → List ℕ) (is_canonical : N → Bool) (whole : I → ℤ) (given : List (OverlayLink I D)) (sorted : is_strictly_sorted pair_cmp (pairs_of_links whole given) ≡ true)
    (start end : ℕ) (nodes : List N) (links : List (OverlayLink I D)) (up : IsConnectedUpTo indexes is_canonical whole given start end nodes links)
    (ends : List PackedEnd) (all : ends_of ends ≡ sorted_ends_of (pairs_of_links whole given)) where
  starts_seen : (seen : List (OverlayLink I D)) → seen ≡ links → starts_of whole seen ≡ starts_of whole given
  starts_seen seen e = ap (starts_of whole) e ∙ ap numbered_starts (same_pairs indexes is_canonical whole given start end nodes links up)

  ends_seen : (seen : List PackedEnd) → seen ≡ ends → ends_of seen ≡ sorted_ends_of (pairs_of_links whole given)
  ends_seen seen e = ap ends_of e ∙ all

  pub found : (seen again : List (OverlayLink I D)) (seen_ends ends_again : List PackedEnd) (p : Point) (next_start next_end : ℕ) → seen ≡ links → again ≡ links → seen_ends ≡ ends → ends_again ≡ ends →
      IsNextPoint (starts_of whole seen) (ends_of seen_ends) start end p → IsRunAt (starts_of whole again) p start next_start → IsRunAt (ends_of ends_again) p end next_end →
      IsFound (pairs_of_links whole given) start end next_start next_end p (indexes_between (starts_of whole again) start next_start) (indexes_between (ends_of ends_again) end next_end)
  found seen again seen_ends ends_again p next_start next_end e f h k next run run_ends =
      let pairs : List Pair = pairs_of_links whole given in
      let here : IsNextPoint (numbered_starts pairs) (sorted_ends_of pairs) start end p = subst (λ l. IsNextPoint (numbered_starts pairs) l start end p) (ends_seen seen_ends h) (subst (λ l. IsNextPoint l (ends_of seen_ends) start end p) (starts_seen seen e) next) in
      let one : IsRunAt (numbered_starts pairs) p start next_start = subst (λ l. IsRunAt l p start next_start) (starts_seen again f) run in
      let two : IsRunAt (sorted_ends_of pairs) p end next_end = subst (λ l. IsRunAt l p end next_end) (ends_seen ends_again k) run_ends in
      record {
        next = here;
        first = one;
        second = two;
        starts = ap (λ l. indexes_between l start next_start) (starts_seen again f) ∙ indexes_of_starts pairs sorted start end (length nodes) p up.firsts up.seconds here next_start one;
        ends = ap (λ l. indexes_between l end next_end) (ends_seen ends_again k) ∙ indexes_of_ends pairs sorted start end (length nodes) p up.firsts up.seconds here next_end two;
        some = run_is_some pairs sorted start end (length nodes) p up.firsts up.seconds here next_start next_end one two;
      }

-- so fewer ends are left
pub fewer_left : (pairs : List Pair) (start end next_start next_end links ends : ℕ) (p : Point) (firsts seconds : List ℕ) → IsFound pairs start end next_start next_end p firsts seconds → length (numbered_starts pairs) ≡ links → length (sorted_ends_of pairs) ≡ ends →
    (links - next_start) + (ends - next_end) < (links - start) + (ends - end)
fewer_left pairs start end next_start next_end links ends p firsts seconds found a b =
    let order = found.first.order in
    let within = found.first.within in
    let order_ends = found.second.order in
    let within_ends = found.second.within in
    elim found.some [ inl more ↦ omega (arith, order, within, order_ends, within_ends, more, a, b) | inr more ↦ omega (arith, order, within, order_ends, within_ends, more, a, b) ]
