-- Points that two shapes share, their boundaries included. A shape is a list of contours under a fill rule.
use Rattle.std.specs.Prelude.{◌≡◌, ◌<◌, ℕ, ◌*◌, pos, ◌-ℤ◌, ◌*ℤ◌, unsigned_abs, Bool, true, List, []}
use Rattle.overlay_geometry.specs.Points.{Point}
use Rattle.overlay_base.specs.Places.{RationalPoint}
use Rattle.overlay_base.specs.declared.overlay_core.fill_rule.FillRule.{FillRule}
use Rattle.overlay_contours.specs.Polygons.{IsBeyond}
use Rattle.overlay_relations.specs.Relations.{is_in, InteriorsMeet}

-- q is nearer to p than one n-th of a unit, in x and in y.
pub record IsCloser (n : ℕ) (p q : RationalPoint) : Type 0 where
  pub in_x : n * unsigned_abs (q.x *ℤ pos p.bottom -ℤ p.x *ℤ pos q.bottom) < p.bottom * q.bottom
  pub in_y : n * unsigned_abs (q.y *ℤ pos p.bottom -ℤ p.y *ℤ pos q.bottom) < p.bottom * q.bottom

-- Nearer to p than one n-th of a unit is a point, on no edge of the shape, that is inside the shape or not, as a value says.
pub record HasCloser (fill_rule : FillRule) (contours : List (List Point)) (inside : Bool) (p : RationalPoint) (n : ℕ) : Type 0 where
  pub point : RationalPoint
  pub some : 0 < point.bottom
  pub closer : IsCloser n p point
  pub off_edges : IsBeyond 0 contours [] point
  pub here : is_in fill_rule contours point ≡ inside

-- However near to p, there is such a point: p is inside the shape or on its boundary, or it is outside or on the boundary.
abbrev pub Borders : FillRule → List (List Point) → Bool → RationalPoint → Type 0
Borders fill_rule contours inside p = (n : ℕ) → HasCloser fill_rule contours inside p n

-- p is on the boundary of the shape: inside and outside of it are points, however near to p.
abbrev pub IsOnBoundary : FillRule → List (List Point) → RationalPoint → Type 0
IsOnBoundary fill_rule contours p = (inside : Bool) → Borders fill_rule contours inside p

-- Some point of the plane is inside both shapes or on their boundaries. Each shape has a fill rule.
pub record SharePoint (subject_rule clip_rule : FillRule) (subject clip : List (List Point)) : Type 0 where
  pub point : RationalPoint
  pub some : 0 < point.bottom
  pub of_subject : Borders subject_rule subject true point
  pub of_clip : Borders clip_rule clip true point

-- They have no such point.
abbrev pub AreDisjoint : FillRule → FillRule → List (List Point) → List (List Point) → Type 0
AreDisjoint subject_rule clip_rule subject clip = SharePoint subject_rule clip_rule subject clip → ⊥

-- They have one, but no point is inside both.
abbrev pub Touch : FillRule → FillRule → List (List Point) → List (List Point) → Type 0
Touch subject_rule clip_rule subject clip = SharePoint subject_rule clip_rule subject clip × (InteriorsMeet subject_rule clip_rule subject clip → ⊥)
