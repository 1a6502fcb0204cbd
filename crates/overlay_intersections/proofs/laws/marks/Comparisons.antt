-- Tests of points by their coordinates are those of their whole numbers.
use Rattle.std.proofs.Common.{◌≡◌, Bool, ◌&&◌, sym, ◌∙◌, ap, ap₂, Ordering, is_eq}
use Rattle.std.specs.Prelude.{ℤ}
use Rattle.std.specs.Ordering.{int_cmp, eq_by_cmp}
use Rattle.overlay_geometry.specs.Points.{point_eq}
use Rattle.overlay_geometry.specs.PointOf.{point_of}
use Rattle.overlay_geometry.proofs.laws.geometry.Points.{point_eq-parts}
use Rattle.overlay_geometry.specs.declared.geom.point.IntPoint.{IntPoint}

pub same_points : {I : Type 0} (eq : I → I → Bool) (cmp : I → I → Ordering) (whole : I → ℤ) → ((a b : I) → eq a b ≡ eq_by_cmp cmp a b) → ((a b : I) → cmp a b ≡ int_cmp (whole a) (whole b)) →
    (p q : IntPoint I) → (eq p.x q.x && eq p.y q.y) ≡ point_eq (point_of whole p) (point_of whole q)
same_points eq cmp whole e o p q =
    ap₂ (λ a b. a && b) (e p.x q.x ∙ ap is_eq (o p.x q.x)) (e p.y q.y ∙ ap is_eq (o p.y q.y))
    ∙ sym (point_eq-parts (point_of whole p) (point_of whole q))
