-- The data of a graph's links: what a test keeps of the data of all links is the data of the test's graph.
use Rattle.std.proofs.Common.{◌≡◌, ℕ, Bool, true, false, List, [], ◌∷◌, map, filter, refl, ap}
use Rattle.std.specs.List.{zip}
use Rattle.overlay_geometry.specs.Points.{Pair}
use Rattle.overlay_base.specs.Segments.{WholeSegment}
use Rattle.overlay_base.specs.EdgeData.{DataSegment, without_data}
use Rattle.overlay_sweep.specs.Sweep.{whole_of, fill_of}
use Rattle.overlay_build.specs.Graph.{Filled, Link, filled, node_number, graph_of, graph_by, data_by}
use Rattle.overlay_build.specs.Laws.{FilterGivesData}

module _ {D : Type 0} (keeps : ℕ → Bool) (a b : Pair → ℕ) (fill : WholeSegment → ℕ) where
  -- a link for each segment
  abbrev all_links : List (DataSegment D) → List Link
  all_links segments =
      map (λ (f : Filled). record { pair = f.pair; fill = f.fill; a_node = a f.pair; b_node = b f.pair })
      (filter (λ (f : Filled). true) (map (λ s. record { pair = s.pair; fill = fill s }) (without_data segments)))

  -- what the test keeps of the data, by the links beside it, and by the segments
  abbrev kept_beside : List (DataSegment D) → List D
  kept_beside segments = map (λ (e : Link × D). e.1) (filter (λ (e : Link × D). keeps e.0.fill) (zip (all_links segments) (map (λ s. s.edge_data) (filter (λ (s : DataSegment D). true) segments))))

  abbrev kept_data : List (DataSegment D) → List D
  kept_data segments = map (λ s. s.edge_data) (filter (λ s. keeps (fill (whole_of s))) segments)

  beside : (segments : List (DataSegment D)) → kept_beside segments ≡ kept_data segments
  beside [] = refl
  beside (s ∷ segments) = by (keeps (fill (whole_of s))) refl (beside segments)
    where
      by : (c : Bool) → keeps (fill (whole_of s)) ≡ c → kept_beside segments ≡ kept_data segments → kept_beside (s ∷ segments) ≡ kept_data (s ∷ segments)
      by true e ih = rw e (ap (λ l. s.edge_data ∷ l) ih)
      by false e ih = rw e ih

pub filter_gives_data : {D : Type 0} → FilterGivesData D
unfolding graph_by graph_of filled data_by
filter_gives_data keeps rule segments =
    let kept : List Pair = map (λ f. f.pair) (filter (λ (f : Filled). true) (filled rule (without_data segments))) in
    beside keeps (λ p. node_number kept p.a) (λ p. node_number kept p.b) (λ s. fill_of rule (without_data segments) s) segments
