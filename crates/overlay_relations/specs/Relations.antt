-- What two shapes have in common, by the points that are on no edge of them. A shape is a list of contours under a
-- fill rule of its own.
use Rattle.std.specs.Prelude.{◌≡◌, ◌<◌, Bool, IsTrue, true, List}
use Rattle.overlay_geometry.specs.Points.{Point}
use Rattle.overlay_base.specs.Places.{RationalPoint}
use Rattle.overlay_base.specs.Rules.{holds}
use Rattle.overlay_base.specs.declared.overlay_core.fill_rule.FillRule.{FillRule}
use Rattle.overlay_base.specs.declared.overlay_core.overlay_rule.OverlayRule.{OverlayRule}
use Rattle.overlay_sweep.specs.Fill.{is_inside}
use Rattle.overlay_contours.specs.Contours.{winding_number}
use Rattle.overlay_contours.specs.Polygons.{IsBeyond}

-- whether p is inside a shape, by how often its contours wind around p
abbrev pub is_in : FillRule → List (List Point) → RationalPoint → Bool
is_in fill_rule contours p = is_inside fill_rule (winding_number contours p)

-- Some point of the plane, on no edge of either shape, is inside the subject or not, and inside the clip or not, as the two values say.
pub record HasPoint (subject_rule clip_rule : FillRule) (subject clip : List (List Point)) (in_subject in_clip : Bool) : Type 0 where
  pub point : RationalPoint
  pub some : 0 < point.bottom
  pub off_edges : IsBeyond 0 subject clip point
  pub of_subject : is_in subject_rule subject point ≡ in_subject
  pub of_clip : is_in clip_rule clip point ≡ in_clip

-- The interiors meet: some such point is inside both shapes.
abbrev pub InteriorsMeet : FillRule → FillRule → List (List Point) → List (List Point) → Type 0
InteriorsMeet subject_rule clip_rule subject clip = HasPoint subject_rule clip_rule subject clip true true

-- The subject covers the clip: each point that is on no edge of either, and inside the clip, is inside the subject.
abbrev pub Covers : FillRule → FillRule → List (List Point) → List (List Point) → Type 0
Covers subject_rule clip_rule subject clip =
    (p : RationalPoint) → 0 < p.bottom → IsBeyond 0 subject clip p → IsTrue (is_in clip_rule clip p) → IsTrue (is_in subject_rule subject p)

-- The subject is within the clip: each such point inside the subject is inside the clip.
abbrev pub IsWithin : FillRule → FillRule → List (List Point) → List (List Point) → Type 0
IsWithin subject_rule clip_rule subject clip =
    (p : RationalPoint) → 0 < p.bottom → IsBeyond 0 subject clip p → IsTrue (is_in subject_rule subject p) → IsTrue (is_in clip_rule clip p)

-- Both are the same region: each such point is inside both, or inside neither.
abbrev pub AreSameRegion : FillRule → FillRule → List (List Point) → List (List Point) → Type 0
AreSameRegion subject_rule clip_rule subject clip =
    (p : RationalPoint) → 0 < p.bottom → IsBeyond 0 subject clip p → is_in subject_rule subject p ≡ is_in clip_rule clip p

-- A rule holds at some such point.
pub record HoldsSomewhere (rule : OverlayRule) (subject_rule clip_rule : FillRule) (subject clip : List (List Point)) : Type 0 where
  pub point : RationalPoint
  pub some : 0 < point.bottom
  pub off_edges : IsBeyond 0 subject clip point
  pub here : IsTrue (holds rule (is_in subject_rule subject point) (is_in clip_rule clip point))
