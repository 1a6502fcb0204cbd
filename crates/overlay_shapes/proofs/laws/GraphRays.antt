-- The links of a graph of code at one of its nodes, index by index.
use Rattle.std.proofs.Common.{◌≡◌, ℕ, ◌<◌, ◌==◌, ◌∙◌, List, [], ap, sym, subst, map, length, get_or}
use Rattle.std.specs.Prelude.{ℤ, Bool, true}
use Rattle.std.proofs.lemmas.List.{length-map, get_or-map}
use Rattle.overlay_base.specs.Planar.{is_arranged}
use Rattle.overlay_base.specs.declared.overlay_core.link.OverlayLink.{OverlayLink}
use Rattle.overlay_base.specs.declared.segm.shape_type.ShapeType.TheVariants.{Subject}
use Rattle.overlay_sweep.proofs.laws.visits.Arrangements.{IsUsable, usable_item}
use Rattle.overlay_build.specs.Boundary.{directed_links}
use Rattle.overlay_build.specs.DirectedWalks.{in_direction, no_link}
use Rattle.overlay_build.specs.Graph.{Link}
use Rattle.overlay_build.specs.GraphOf.{HoldGraph, link_of, graph_with}
use Rattle.overlay_build.specs.ShapedBoundary.{in_shape}
use Rattle.overlay_build.proofs.laws.regions.Again.{link_in_shape, links_in_shape}
use Rattle.overlay_build.proofs.laws.walks.WalkSteps.{list_of}
use Rattle.overlay_build.proofs.laws.walks.DirectedSteps.{ListArcs-held, length-arcs}
use Rattle.overlay_shapes.specs.steps.Rays.{WholeRay, ray_at}

module _ {N I D : Type 0} (indexes : N → List ℕ) (is_canonical : N → Bool) (whole : I → ℤ) (rule : Bool → Bool → Bool) (nodes : List N) (links : List (OverlayLink I D)) where
  -- a node lists indexes of links
  pub listed_inside : HoldGraph indexes is_canonical whole nodes links (graph_with whole links) → (given : List N) (shown : List (OverlayLink I D)) (u : ℕ) (n : N) (ks : List ℕ) → given ≡ nodes → shown ≡ links → u < length nodes → n ≡ get_or given u n → ks ≡ indexes n →
      (k : ℕ) → k < length ks → get_or ks k 0 < length shown
  listed_inside holds given shown u n ks same seen h is e k low =
      let lists = ListArcs-held indexes is_canonical whole nodes links rule holds in
      let at : ks ≡ get_or (map indexes nodes) u [] = list_of indexes nodes given u n ks same h is e in
      let node_in : u < length (map indexes nodes) = subst (λ (m : ℕ). u < m) (sym (length-map nodes indexes)) h in
      let listed = lists.listed u k node_in (subst (λ (l : List ℕ). k < length l) at low) in
      let inside : get_or (get_or (map indexes nodes) u []) k 0 < length links = subst (λ (m : ℕ). get_or (get_or (map indexes nodes) u []) k 0 < m) (length-arcs whole rule links) listed in
      subst (λ (l : List ℕ). get_or l k 0 < length shown) (sym at) (subst (λ (l : List (OverlayLink I D)). get_or (get_or (map indexes nodes) u []) k 0 < length l) (sym seen) inside)

abbrev ray_from : (Bool → Bool → Bool) → Link → ℕ → ℕ → WholeRay
ray_from rule l node index = record { link = index; leads_on = (l.a_node == node); comes_in = ((in_direction rule l).b_node == node); pair = l.pair }

module _ {I D : Type 0} (whole : I → ℤ) (rule : Bool → Bool → Bool) where
  -- the ends of a link of an arrangement are in range
  pub usable_link : (least greatest : ℤ) (links shown : List (OverlayLink I D)) → shown ≡ links → is_arranged least greatest (in_shape Subject (directed_links rule (graph_with whole links))) ≡ true → (k : ℕ) (x : OverlayLink I D) → k < length shown → x ≡ get_or shown k x →
      IsUsable least greatest (link_in_shape Subject rule whole x)
  usable_link least greatest links shown seen arranged k x h is =
      usable_item (link_in_shape Subject rule whole) shown least greatest
      (ap (is_arranged least greatest) (ap (map (link_in_shape Subject rule whole)) seen ∙ sym (links_in_shape Subject rule whole links)) ∙ arranged) k x h is

  pub ray_at-is : (links : List (OverlayLink I D)) (node k : ℕ) (x : OverlayLink I D) → k < length links → x ≡ get_or links k x → ray_from rule (link_of whole x) node k ≡ ray_at rule (map (link_of whole) links) node k
  ray_at-is links node k x h is = ap (λ (l : Link). ray_from rule l node k) (ap (link_of whole) is ∙ sym (get_or-map (link_of whole) links k x no_link h))
