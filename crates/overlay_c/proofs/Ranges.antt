-- Whether the points that were loaded from records are in range.
use Rattle.std.proofs.Common.{◌≡◌, sym, ap, ◌∙◌, Bool, true, IsTrue, List, map}
use Rattle.std.specs.Prelude.{ℤ}
use Rattle.std.specs.List.{list_all}
use Rattle.std.proofs.lemmas.List.Folds.{list_all-map}
use Rattle.overlay_geometry.specs.Coordinates.{is_point_in_range, least_coordinate, greatest_coordinate}
use Rattle.overlay_geometry.specs.PointOf.{point_of}
use Rattle.overlay_geometry.specs.Points.{Point}
use Rattle.overlay_geometry.specs.declared.geom.point.IntPoint.{IntPoint}
use Rattle.overlay_contours.specs.ContoursOf.{points_of}
use Rattle.overlay_c.specs.Contours.{point_by, are_in_range}
use Rattle.overlay_c.specs.declared.contours.PointRecord.{PointRecord}

abbrev is_in_range : Point → Bool
is_in_range p = is_point_in_range least_coordinate greatest_coordinate p

abbrev tests : IntPoint ℤ → Bool
tests p = is_in_range (point_of (λ z. z) p)

module _ (b : Bool) (now points : List (IntPoint ℤ)) (e : b ≡ list_all tests now) (d : now ≡ points) where
  pub tests_records : (contour : List PointRecord) → points_of (λ z. z) points ≡ map point_by contour → b ≡ are_in_range contour
  tests_records contour l = e ∙ ap (list_all tests) d ∙ sym (list_all-map is_in_range (point_of (λ z. z)) points) ∙ ap (list_all is_in_range) l

  pub tests_loaded : (other : List (IntPoint ℤ)) → other ≡ points → b ≡ true → IsTrue (list_all is_in_range (points_of (λ z. z) other))
  tests_loaded other o t = list_all-map is_in_range (point_of (λ z. z)) other ∙ ap (list_all tests) (o ∙ sym d) ∙ sym e ∙ t
