-- The first links of classes.
use Rattle.std.specs.Prelude.{◌≡◌, ℕ, ◌<◌, ℤ, IsTrue, List, length, slice_index}
use Rattle.overlay_geometry.specs.InRange.{IsPointInRange}
use Rattle.overlay_geometry.specs.Points.{is_ordered}
use Rattle.overlay_base.specs.declared.overlay_core.link.OverlayLink.{OverlayLink}
use Rattle.overlay_build.specs.GraphOf.{link_of}

-- the ends of a link are in range, and in order
pub record IsLinkInOrder {I D : Type 0} (whole : I → ℤ) (least greatest : I) (link : OverlayLink I D) : Type 0 where
  pub a_in_range : IsPointInRange whole least greatest link.a.point
  pub b_in_range : IsPointInRange whole least greatest link.b.point
  pub ordered : IsTrue (is_ordered (link_of whole link).pair)

-- at the index of each leader is a number of its class
pub record AreFronts (leaders fronts : List ℕ) : Type 0 where
  pub each : length fronts ≡ length leaders
  pub within : (i : ℕ) → i < length leaders → slice_index leaders i ≡ i → slice_index fronts i < length leaders
  pub own : (i : ℕ) → i < length leaders → slice_index leaders i ≡ i → slice_index leaders (slice_index fronts i) ≡ i
