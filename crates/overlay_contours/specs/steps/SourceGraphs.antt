-- The graph of an overlay of contours whose links name given edges.
use Rattle.std.specs.Prelude.{◌≡◌, IsTrue, List, All}
use Rattle.overlay_geometry.specs.Points.{Point}
use Rattle.overlay_base.specs.Planar.{is_arranged}
use Rattle.overlay_base.specs.Rules.{holds, keeps_fill}
use Rattle.overlay_base.specs.Segments.{WholeSegment, are_polygons}
use Rattle.overlay_base.specs.declared.overlay_core.fill_rule.FillRule.{FillRule}
use Rattle.overlay_base.specs.declared.overlay_core.overlay_rule.OverlayRule.{OverlayRule}
use Rattle.overlay_snapping.specs.SnapOf.{reach_of_snap}
use Rattle.overlay_build.specs.Graph.{graph_by}
use Rattle.overlay_build.specs.GraphOf.{link_of}
use Rattle.overlay_build.specs.OverlayGraphOf.{links_of, whole_graph}
use Rattle.overlay_build.specs.Sides.{IsBalancedOverlay}
use Rattle.overlay_build.specs.declared.build.graph.OverlayGraph.{OverlayGraph}
use Rattle.overlay_contours.specs.ContourSegments.{overlay_segments}
use Rattle.overlay_contours.specs.Sources.{LiesNearSource}
use Rattle.overlay_contours.specs.Splittings.{by_snapping, IsArrangement}
use Rattle.overlay_contours.specs.declared.sources.SourceEdge.{SourceEdge}

-- It is that of the rule over what snap rounding leaves of the edges of a subject's and a clip's contours. Each link lies
-- near the given step that its source names.
pub record IsSourceGraph {I : Type 0} {w : _} {o : _} {e : _} {p : _} (rule : OverlayRule) (fill_rule : FillRule) (subject clip : List (List Point)) (graph : OverlayGraph I SourceEdge w o e p) : Type 0 where
  pub segments : List WholeSegment
  pub arrangement : IsArrangement by_snapping (overlay_segments subject clip) segments 1 (reach_of_snap (overlay_segments subject clip))
  pub arranged : IsTrue (is_arranged (w.whole w.MIN_COORD) (w.whole w.MAX_COORD) segments)
  pub polygons : IsTrue (are_polygons segments)
  pub graph_is : whole_graph graph ≡ graph_by (keeps_fill (holds rule)) fill_rule segments
  pub sides : IsBalancedOverlay (holds rule) fill_rule segments (whole_graph graph)
  pub near : All (λ l. LiesNearSource (reach_of_snap (overlay_segments subject clip)) subject clip (link_of w.whole l).pair l.edge_data) (links_of graph)
