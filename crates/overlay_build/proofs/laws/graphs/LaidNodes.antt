-- Nodes as lists one behind another, node after node.
use Rattle.std.proofs.Common.{◌≡◌, refl, sym, ap, ap₂, ◌∙◌, arith, ℕ, ◌+◌, ◌<◌, ◌≤◌, Bool, true, List, [], ◌∷◌, ◌++◌, map, take, drop, flat_map, length, get_or, if◌then◌else◌}
use Rattle.std.specs.Prelude.{ℤ}
use Rattle.std.proofs.lemmas.Grind.{flat_map-append}
use Rattle.std.proofs.lemmas.List.{append-nil, drop_more, get_or-map, length-map, map-append, take_more}
use Rattle.overlay_geometry.specs.Points.{Point, pair_cmp}
use Rattle.overlay_geometry.specs.Sorting.{is_strictly_sorted}
use Rattle.overlay_base.specs.declared.overlay_core.link.OverlayLink.{OverlayLink}
use Rattle.overlay_build.specs.GraphOf.{graph_with, pairs_of_links, names_node, with_start, with_end, HoldLists}
use Rattle.overlay_build.specs.Graph.{links_at}
use Rattle.overlay_build.specs.Laid.{AreLaid}
use Rattle.overlay_build.specs.declared.build.link_ends.PackedEnd.{PackedEnd}
use Rattle.overlay_build.specs.steps.EndOf.{ends_of}
use Rattle.overlay_build.specs.steps.LinkEnds.{numbered_starts}
use Rattle.overlay_build.specs.steps.LinksOf.{starts_of, AreNumberedAt, IsNextPoint, IsRunAt, indexes_between}
use Rattle.overlay_build.proofs.laws.graphs.NodeSteps.{IsConnectedUpTo, sorted_ends_of, connected_none, connected_next}
use Rattle.overlay_build.proofs.laws.graphs.ConnectedLinks.{IsFound, found, holds_graph}

-- the indexes that a list node has
abbrev pub own : List ℕ → List ℕ
own list = list

abbrev pub any : List ℕ → Bool
any list = true

-- The ends up to two places have their nodes, whose lists are one behind another.
pub record IsLaidUpTo {I D : Type 0} (whole : I → ℤ) (given : List (OverlayLink I D)) (start end : ℕ) (links : List (OverlayLink I D)) (degrees indexes : List ℕ) : Type 0 where
  pub lists : List (List ℕ)
  pub up : IsConnectedUpTo own any whole given start end lists links
  pub laid : AreLaid lists degrees indexes

pub laid_none : {I D : Type 0} (whole : I → ℤ) (given : List (OverlayLink I D)) → IsLaidUpTo whole given 0 0 given [] []
laid_none whole given = record { lists = []; up = connected_none own any whole given; laid = (refl, refl) }

-- one list more behind the others
pub laid_more : {A : Type 0} (lists : List (List A)) (lengths : List ℕ) (all : List A) (list : List A) → AreLaid lists lengths all → AreLaid (lists ++ list ∷ []) (lengths ++ length list ∷ []) (all ++ list)
laid_more lists lengths all list laid = (
  ap (λ l. l ++ length list ∷ []) laid.0 ∙ sym (map-append length lists (list ∷ [])),
  ap₂ (λ a b. a ++ b) laid.1 (sym (append-nil list)) ∙ sym (flat_map-append (λ l. l) lists (list ∷ [])),
)

module _ {I D : Type 0} (whole : I → ℤ) (given : List (OverlayLink I D)) (sorted : is_strictly_sorted pair_cmp (pairs_of_links whole given) ≡ true)
    (start end : ℕ) (links : List (OverlayLink I D)) (degrees indexes : List ℕ) (at : IsLaidUpTo whole given start end links degrees indexes) where
  -- what the calls of a step find
  pub found_next : (ends : List PackedEnd) → ends_of ends ≡ sorted_ends_of (pairs_of_links whole given) → (seen again : List (OverlayLink I D)) (seen_ends ends_again : List PackedEnd) (p : Point) (next_start next_end : ℕ) → seen ≡ links → again ≡ links → seen_ends ≡ ends → ends_again ≡ ends →
      IsNextPoint (starts_of whole seen) (ends_of seen_ends) start end p → IsRunAt (starts_of whole again) p start next_start → IsRunAt (ends_of ends_again) p end next_end →
      IsFound (pairs_of_links whole given) start end next_start next_end p (indexes_between (starts_of whole again) start next_start) (indexes_between (ends_of ends_again) end next_end)
  found_next = found own any whole given sorted start end at.lists links at.up

  -- with the next node its list is behind the others
  pub laid_next : (next_start next_end : ℕ) (p : Point) (firsts seconds : List ℕ) (with_starts more : List (OverlayLink I D)) (degrees_after indexes_after : List ℕ) → IsFound (pairs_of_links whole given) start end next_start next_end p firsts seconds →
      length with_starts ≡ length links → length more ≡ length with_starts →
      AreNumberedAt (with_start (length degrees)) firsts links with_starts → AreNumberedAt (with_end (length degrees)) seconds with_starts more →
      degrees_after ≡ degrees ++ length (firsts ++ seconds) ∷ [] → indexes_after ≡ indexes ++ (firsts ++ seconds) → IsLaidUpTo whole given next_start next_end more degrees_after indexes_after
  unfolding links_at
  laid_next next_start next_end p firsts seconds with_starts more degrees_after indexes_after its many_starts as_many numbers_starts numbers_ends counted listed =
      let many : length degrees ≡ length at.lists = ap length at.laid.0 ∙ length-map at.lists length in
      let laid = laid_more at.lists degrees indexes (firsts ++ seconds) at.laid in
      record {
        lists = at.lists ++ (firsts ++ seconds) ∷ [];
        up = connected_next own any whole given sorted start end next_start next_end at.lists links with_starts more (firsts ++ seconds) firsts seconds p at.up its.next its.first its.second
            (ap₂ (λ (a b : List ℕ). a ++ b) its.starts its.ends) its.starts its.ends refl many_starts as_many
            (λ k d h. numbers_starts k d h ∙ ap (λ n. if names_node k firsts then with_start n (get_or links k d) else get_or links k d) many)
            (λ k d h. numbers_ends k d h ∙ ap (λ n. if names_node k seconds then with_end n (get_or with_starts k d) else get_or with_starts k d) many);
        laid = (counted ∙ laid.0, listed ∙ laid.1);
      }

-- when all ends have their nodes, the lists are those of the graph of the given links
pub holds_lists : {I D : Type 0} (whole : I → ℤ) (given : List (OverlayLink I D)) (start end : ℕ) (links : List (OverlayLink I D)) (degrees indexes : List ℕ) → IsLaidUpTo whole given start end links degrees indexes →
    length (numbered_starts (pairs_of_links whole given)) ≤ start → length (sorted_ends_of (pairs_of_links whole given)) ≤ end → HoldLists whole links degrees indexes (graph_with whole given)
holds_lists whole given start end links degrees indexes at over ended =
    let held = holds_graph own any whole given start end at.lists links at.up over ended in
    let same : at.lists ≡ map (λ n. n.links) (graph_with whole given).nodes = sym (map-own at.lists) ∙ held.same_nodes in
    record { same_links = held.same_links; same_nodes = (at.laid.0 ∙ ap (λ ls. map length ls) same, at.laid.1 ∙ ap (λ ls. flat_map (λ l. l) ls) same) }
  where
    map-own : (lists : List (List ℕ)) → map own lists ≡ lists
    map-own [] = refl
    map-own (l ∷ ls) = ap (λ rest. l ∷ rest) (map-own ls)

-- the first of the lists that are left is what is in front
pub first_is : {A : Type 0} (lists : List (List A)) (lengths : List ℕ) (all rest : List A) (k d : ℕ) → AreLaid lists lengths all → k < length lengths → rest ≡ flat_map (λ list. list) (drop k lists) →
    (own : List A) × (get_or lengths k d ≡ length own) × (rest ≡ own ++ flat_map (λ list. list) (drop (k + 1) lists)) × (take (k + 1) lists ≡ take k lists ++ own ∷ [])
first_is lists lengths all rest k d laid h is =
    let many : length lengths ≡ length lists = ap length laid.0 ∙ length-map lists length in
    let within : k < length lists = omega (arith, many, h) in
    let list : List _ = get_or lists k [] in (
      list,
      ap (λ l. get_or l k d) laid.0 ∙ get_or-map length lists k [] d within,
      is ∙ ap (flat_map (λ l. l)) (drop_more lists k [] within),
      take_more lists k [] within,
    )
