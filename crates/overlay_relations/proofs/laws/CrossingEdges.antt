-- Where edges of two boundaries cross, there are points of all four kinds beside them.
use Rattle.std.proofs.Common.{subst}
use Rattle.std.specs.Prelude.{List, Contains}
use Rattle.overlay_geometry.specs.Points.{Point, Pair}
use Rattle.overlay_geometry.proofs.laws.lists.Lists.{Has, Has-map}
use Rattle.overlay_geometry.proofs.laws.lists.Elements.{Has-from_Contains}
use Rattle.overlay_base.specs.Segments.{WholeSegment, pairs}
use Rattle.overlay_base.specs.declared.overlay_core.fill_rule.FillRule.{FillRule}
use Rattle.overlay_base.specs.declared.segm.shape_type.ShapeType.TheVariants.{Subject}
use Rattle.overlay_cuts.specs.Places.{IsFar}
use Rattle.overlay_contours.specs.Contours.{edges}
use Rattle.overlay_relations.specs.Boundaries.{IsBoundaryOf}
use Rattle.overlay_relations.specs.Laws.{CrossingBoundariesMeet}
use Rattle.overlay_relations.specs.Relations.{is_in}
use Rattle.overlay_relations.proofs.laws.Boundaries.{arc, around_shape}
use Rattle.overlay_relations.proofs.laws.CrossingRegions.{point_of_pairs}
use Rattle.overlay_relations.proofs.laws.SharedPoints.{edge_segment}

-- an edge of a boundary is one of its joined segments
in_arc : (fill_rule : FillRule) (contours boundary : List (List Point)) (is : IsBoundaryOf fill_rule contours boundary) (s : Pair) → Contains (edges boundary) s
    → Has (pairs (arc Subject boundary is.apart (is_in fill_rule contours) (λ p. IsFar 0 p (edges contours)) (around_shape fill_rule contours boundary is))) s
in_arc fill_rule contours boundary is s m =
    let joined = arc Subject boundary is.apart (is_in fill_rule contours) (λ p. IsFar 0 p (edges contours)) (around_shape fill_rule contours boundary is) in
    let u = edge_segment boundary is.apart is.once (is_in fill_rule contours) (λ p. IsFar 0 p (edges contours)) (around_shape fill_rule contours boundary is) s (Has-from_Contains (edges boundary) s m) in
    subst (λ (p : Pair). Has (pairs joined) p) u.2 (Has-map (λ (v : WholeSegment). v.pair) joined u.0 u.1)

pub crossing_boundaries_meet : CrossingBoundariesMeet
crossing_boundaries_meet subject_rule clip_rule subject clip first second a b h =
    point_of_pairs subject_rule clip_rule subject clip first second a b h.0 h.1 (in_arc subject_rule subject first a h.0 h.2) (in_arc clip_rule clip second b h.1 h.3) h.4
