-- Lists of segments as lists of whole segments.
use Rattle.std.proofs.Common.{◌≡◌, refl, sym, List, [], ◌∷◌}
use Rattle.std.specs.Prelude.{IsTrue}
use Rattle.std.proofs.lemmas.Bool.{and_from}
use Rattle.overlay_base.specs.Segments.{are_ordered}
use Rattle.overlay_base.specs.EdgeData.{without_data}
use Rattle.overlay_base.specs.SegmentOf.{segments_of, data_segment_of, data_segments_of}
use Rattle.overlay_base.specs.declared.segm.segment.Segment.{Segment}
use Rattle.overlay_base.proofs.laws.joins.Merges.{without_data-map}

module _ {C I D : Type 0} {m : _} {w : _} {o : _} {e : _} {p : _} where
  -- the ends of each are in order
  pub segments_ordered : (xs : List (Segment C I D m w o e p)) → IsTrue (are_ordered (segments_of xs))
  segments_ordered [] = refl
  segments_ordered (x ∷ xs) = and_from _ _ x.ordered (segments_ordered xs)

  -- with data, which is left out again
  pub segments_of-bare : (xs : List (Segment C I D m w o e p)) → segments_of xs ≡ without_data (data_segments_of xs)
  segments_of-bare xs = sym (without_data-map data_segment_of xs)
