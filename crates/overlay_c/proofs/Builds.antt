-- The records of links for all segments of an arrangement.
use Rattle.std.proofs.Common.{◌≡◌, ◌∙◌, refl, sym, ap, arith, ℕ, ◌<◌, true, IsTrue, List, [], ◌∷◌, filter, get_or, length, map}
use Rattle.std.specs.Prelude.{ℤ, ◌≤ℤ◌}
use Rattle.std.specs.List.{list_all}
use Rattle.std.proofs.lemmas.Bool.{and_from}
use Rattle.std.proofs.lemmas.Int.{ints}
use Rattle.std.proofs.lemmas.List.{get_or-map, length-map}
use Rattle.std.proofs.lemmas.List.Sums.{AllPass-from_list_all, list_all-from_AllPass}
use Rattle.std.proofs.lemmas.Simd.{map-map}
use Rattle.overlay_geometry.specs.Coordinates.{least_coordinate, greatest_coordinate, is_coordinate, is_point_in_range, is_pair_in_range}
use Rattle.overlay_geometry.proofs.laws.geometry.Coordinates.{pair_parts, point_from, point_parts}
use Rattle.overlay_geometry.specs.Points.{Pair, Point}
use Rattle.overlay_base.specs.Segments.{WholeSegment, pairs}
use Rattle.overlay_base.specs.declared.overlay_core.fill_rule.FillRule.{FillRule}
use Rattle.overlay_sweep.specs.Sweep.{fill_of}
use Rattle.overlay_build.specs.Graph.{Filled, filled, fills_of, without_nodes}
use Rattle.overlay_build.specs.GraphOf.{kept_of, link_of}
use Rattle.overlay_build.proofs.laws.graphs.ConnectedLinks.{same_maps}
use Rattle.overlay_c.specs.Records.{held_link, link_by}
use Rattle.overlay_c.specs.declared.records.LinkRecord.{LinkRecord}

-- a segment with its fill
abbrev the_filled : Pair → ℕ → Filled
the_filled pair fill = record { pair = pair; fill = fill }

-- elements of two lists have the same pairs and fills where the lists of these are the same
same_filled : {X Y : Type 0} (pair : X → Pair) (fill : X → ℕ) (p : Y → Pair) (f : Y → ℕ) (xs : List X) (ys : List Y) → map pair xs ≡ map p ys → map fill xs ≡ map f ys →
    map (λ (x : X). the_filled (pair x) (fill x)) xs ≡ map (λ (y : Y). the_filled (p y) (f y)) ys
same_filled {X = X} {Y = Y} pair fill p f xs ys paired filled_as =
    let many : length xs ≡ length ys = sym (length-map xs pair) ∙ ap length paired ∙ length-map ys p in
    same_maps (λ (x : X). the_filled (pair x) (fill x)) (λ (y : Y). the_filled (p y) (f y)) xs ys many
    (λ k d e h.
    let within : k < length xs = rw many h in
    let a : pair (get_or xs k d) ≡ p (get_or ys k e) = sym (get_or-map pair xs k d (pair d) within) ∙ ap (λ l. get_or l k (pair d)) paired ∙ get_or-map p ys k e (pair d) h in
    let b : fill (get_or xs k d) ≡ f (get_or ys k e) = sym (get_or-map fill xs k d (fill d) within) ∙ ap (λ l. get_or l k (fill d)) filled_as ∙ get_or-map f ys k e (fill d) h in
    λ i. the_filled (a i) (b i))

filter_all : {X : Type 0} (xs : List X) → filter (λ x. true) xs ≡ xs
filter_all [] = refl
filter_all (x ∷ xs) = ap (λ l. x ∷ l) (filter_all xs)

-- records with the pairs and the fills of segments are links for all of them
pub all_kept : (rule : FillRule) (segments : List WholeSegment) (records : List LinkRecord) → map (λ r. (link_by r).pair) records ≡ pairs segments → map (λ r. r.fill) records ≡ fills_of rule segments →
    kept_of (λ z. z) (map held_link records) ≡ filter (λ f. true) (filled rule segments)
unfolding filled
all_kept rule segments records paired fills =
    map-map (λ l. without_nodes (link_of (λ z. z) l)) held_link records
    ∙ same_filled (λ r. (link_by r).pair) (λ r. r.fill) (λ (s : WholeSegment). s.pair) (fill_of rule segments) records segments paired fills
    ∙ sym (filter_all (map (λ (s : WholeSegment). the_filled s.pair (fill_of rule segments s)) segments))

-- what is in the range of an engine is in that of the widest
module _ (least greatest : ℤ) (low : least_coordinate ≤ℤ least) (high : greatest ≤ℤ greatest_coordinate) where
  wider_coordinate : (z : ℤ) → IsTrue (is_coordinate least greatest z) → IsTrue (is_coordinate least_coordinate greatest_coordinate z)
  wider_coordinate z h = grind (arith, ints)

  wider_point : (p : Point) → IsTrue (is_point_in_range least greatest p) → IsTrue (is_point_in_range least_coordinate greatest_coordinate p)
  wider_point p h =
      let parts = point_parts least greatest p h in
      point_from least_coordinate greatest_coordinate p (wider_coordinate p.x parts.0) (wider_coordinate p.y parts.1)

  wider : (s : Pair) → IsTrue (is_pair_in_range least greatest s) → IsTrue (is_pair_in_range least_coordinate greatest_coordinate s)
  wider s h =
      let parts = pair_parts least greatest s h in
      and_from (is_point_in_range least_coordinate greatest_coordinate s.a) (is_point_in_range least_coordinate greatest_coordinate s.b) (wider_point s.a parts.0) (wider_point s.b parts.1)

  pub all_wider : (list : List Pair) → IsTrue (list_all (is_pair_in_range least greatest) list) → IsTrue (list_all (is_pair_in_range least_coordinate greatest_coordinate) list)
  all_wider list all =
      list_all-from_AllPass (is_pair_in_range least_coordinate greatest_coordinate) list
      (λ k d h. wider (get_or list k d) (AllPass-from_list_all (is_pair_in_range least greatest) list all k d h))
