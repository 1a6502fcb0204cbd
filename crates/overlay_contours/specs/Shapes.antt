-- Shapes: lists of simple polygons, an outer boundary and its holes.
use Rattle.std.specs.Prelude.{◌≡◌, ◌≢◌, ◌⊎◌, ◌<◌, ◌≤◌, ℕ, pos, negsuc, false, not, if◌then◌else◌, List, [], ◌∷◌, All, Contains, Some, count_by, flat_map}
use Rattle.std.specs.Ordering.{int_eq}
use Rattle.overlay_geometry.specs.Points.{Point, Pair, point_eq, point_lt}
use Rattle.overlay_base.specs.Places.{RationalPoint}
use Rattle.overlay_base.specs.Rules.{holds}
use Rattle.overlay_base.specs.Segments.{WholeSegment}
use Rattle.overlay_base.specs.declared.overlay_core.fill_rule.FillRule.{FillRule}
use Rattle.overlay_base.specs.declared.overlay_core.overlay_rule.OverlayRule.{OverlayRule}
use Rattle.overlay_sweep.specs.ChainWindings.{support, bottom}
use Rattle.overlay_build.specs.Boundary.{boundary}
use Rattle.overlay_shapes.specs.Classes.{AreLinked}
use Rattle.overlay_shapes.specs.Sectors.{leads_into_sector}
use Rattle.overlay_contours.specs.Contours.{steps, winding_number}
use Rattle.overlay_contours.specs.Polygons.{run_of, is_in_overlay, IsBeyond, IsPolygonOverlay}
use Rattle.overlay_contours.specs.Splittings.{Splitting}

-- all contours of some shapes
abbrev pub all_contours : List (List (List Point)) → List (List Point)
all_contours shapes = flat_map (λ shape. shape) shapes

-- A contour comes to no point twice.
abbrev pub IsSimple : List Point → Type 0
IsSimple contour = (p : Point) → count_by (λ q. point_eq q p) contour ≤ 1

-- how many of the shapes wind around p
unfoldable pub shapes_round : List (List (List Point)) → RationalPoint → ℕ
shapes_round shapes p = count_by (λ shape. not (int_eq (winding_number shape p) (pos 0))) shapes

-- No place lies in two shapes: each winds around p as all of them together, or not at all, and just one does, if they do.
pub record WindApart (shapes : List (List (List Point))) (p : RationalPoint) : Type 0 where
  pub each : All (λ shape. (winding_number shape p ≡ pos 0) ⊎ (winding_number shape p ≡ winding_number (all_contours shapes) p)) shapes
  pub one : shapes_round shapes p ≡ (if int_eq (winding_number (all_contours shapes) p) (pos 0) then 0 else 1)

-- Across a part of the region: a segment of its boundary that runs along the first edge has one along the second as its
-- support, just before it by angle at the same start, or else directly below its start. And between them the boundary winds.
pub record MeetAcross (segments : List WholeSegment) (e f : Pair) : Type 0 where
  pub above : WholeSegment
  pub below : WholeSegment
  pub is_there : Contains segments above
  pub on : support segments above ≡ Some below
  pub between : (bottom segments above).subj ≢ pos 0
  pub of_first : run_of above ≡ e
  pub of_second : run_of below ≡ f

-- Along one sector of the region at a point: the second edge starts where the first ends, and no segment of the boundary leads
-- into the sector on their left, counterclockwise from the second to the first.
pub record TurnsInto (segments : List WholeSegment) (e f : Pair) : Type 0 where
  pub meets : e.b ≡ f.a
  pub none_between : All (λ s. leads_into_sector e.b f.b e.a s.pair ≡ false) segments

-- One step within a region leads from an edge of contours to another one: across a part of it, or along one sector.
pub record IsStep (segments : List WholeSegment) (contours : List (List Point)) (e f : Pair) : Type 0 where
  pub is_first : Contains (steps contours) e
  pub is_second : Contains (steps contours) f
  pub leads : MeetAcross segments e f ⊎ TurnsInto segments e f

-- The first contour has the least point of all, in the order of points.
pub record IsLed (shape : List (List Point)) : Type 0 where
  pub front : List Point
  pub later : List (List Point)
  pub shape_is : shape ≡ front ∷ later
  pub least : Point
  pub on_front : Contains front least
  pub below_none : All (All (λ p. point_lt p least ≡ false)) shape

-- An outer boundary, which winds once or not at all around every place, and its holes, which wind once clockwise or not at all.
pub record IsBoundaryWithHoles (shape : List (List Point)) : Type 0 where
  pub outer : List Point
  pub holes : List (List Point)
  pub shape_is : shape ≡ outer ∷ holes
  pub counterclockwise : (p : RationalPoint) → 0 < p.bottom → (winding_number (outer ∷ []) p ≡ pos 0) ⊎ (winding_number (outer ∷ []) p ≡ pos 1)
  pub clockwise : All (λ hole. (p : RationalPoint) → 0 < p.bottom → (winding_number (hole ∷ []) p ≡ pos 0) ⊎ (winding_number (hole ∷ []) p ≡ negsuc 0)) holes

-- what an overlay returns for the contours of a subject and of a clip, in shapes
pub record IsShapeOverlay (splitting : Splitting) (rule : OverlayRule) (fill_rule : FillRule) (subject clip : List (List Point)) (shapes : List (List (List Point))) : Type 0 where
  -- All contours together are the polygon overlay.
  pub overlay : IsPolygonOverlay splitting rule fill_rule subject clip (all_contours shapes)
  -- Each of them is a simple polygon: it comes to no point twice, and no two edges share more than an end.
  pub simple : All IsSimple (all_contours shapes)
  -- No place of the plane lies in two shapes.
  pub apart : (p : RationalPoint) → 0 < p.bottom → WindApart shapes p
  -- For a rule that is false outside, each shape winds once or not at all, and around each far place one
  -- winds exactly where the rule holds.
  pub named : holds rule false false ≡ false → (p : RationalPoint) → 0 < p.bottom → All (λ shape. (winding_number shape p ≡ pos 0) ⊎ (winding_number shape p ≡ pos 1)) shapes
  pub inside : holds rule false false ≡ false → (p : RationalPoint) → 0 < p.bottom → IsBeyond overlay.halves subject clip p → shapes_round shapes p ≡ (if is_in_overlay rule fill_rule subject clip p then 1 else 0)
  -- Shapes are no larger than that: steps across parts of the region, or for a rule that holds outside of its complement, and
  -- steps along sectors of the region lead from each edge of a shape to each other one.
  pub linked : All (λ shape. (e f : Pair) → Contains (steps shape) e → Contains (steps shape) f → AreLinked (IsStep (boundary (holds rule) fill_rule overlay.arrangement) (all_contours shapes)) e f) shapes
  -- And edges between which one such step leads are in one shape.
  pub whole : (e f : Pair) → IsStep (boundary (holds rule) fill_rule overlay.arrangement) (all_contours shapes) e f → (shape : List (List Point)) × Contains shapes shape × Contains (steps shape) e × Contains (steps shape) f
  -- The first contour of each has its least point,
  pub led : All IsLed shapes
  -- and for a rule that says no of the places outside it is the outer boundary, and each other one is a hole.
  pub bounded : holds rule false false ≡ false → All IsBoundaryWithHoles shapes
