use Rattle.std.proofs.Common.{◌≡◌, sym, ap, subst, ◌∙◌, ◌∷◌, [], ◌++◌}
use Rattle.std.specs.Int.{int_min, int_max}
use Rattle.overlay_geometry.specs.PointOf.{point_of}
use Rattle.overlay_geometry.specs.RangeOf.{rect_of}
use Rattle.overlay_geometry.specs.Ranges.{Rect}
use Rattle.overlay_contours.specs.Boxes.{IsBoundingBox}
use Rattle.overlay_contours.proofs.laws.Boxes.{box_with, box_alone, box_widened, whole_min, whole_max}
use Rattle.overlay_contours.proofs.measure.box_with_point.Goals as goal

pub returns-in-None : goal.returns-in-None
returns-in-None g c before bounds = box_alone before (point_of g.I.OverlayInt.whole c.args.point) (rw c.in-None.is at bounds.none)

pub returns-in-Some : goal.returns-in-Some
returns-in-Some g c before bounds =
    let whole = g.I.OverlayInt.whole in
    let p = point_of whole c.args.point in
    let found = rect_of whole c.in-Some.found in
    let least = whole_min whole g.I.Ord.cmp g.met.I.OverlayInt.ordered in
    let greatest = whole_max whole g.I.Ord.cmp g.met.I.OverlayInt.ordered in
    let left : whole c.min.result ≡ int_min found.min_x p.x = ap whole c.min.ensures ∙ least c.in-Some.found.min_x c.args.point.x in
    let right : whole c.max.result ≡ int_max found.max_x p.x = ap whole c.max.ensures ∙ greatest c.in-Some.found.max_x c.args.point.x in
    let below : whole c.min-in-Some.result ≡ int_min found.min_y p.y = ap whole c.min-in-Some.ensures ∙ least c.in-Some.found.min_y c.args.point.y in
    let above : whole c.max-in-Some.result ≡ int_max found.max_y p.y = ap whole c.max-in-Some.ensures ∙ greatest c.in-Some.found.max_y c.args.point.y in
    let same : record { min_x = whole c.min.result; max_x = whole c.max.result; min_y = whole c.min-in-Some.result; max_y = whole c.max-in-Some.result } ≡ box_with found p = λ i. record { min_x = left i; max_x = right i; min_y = below i; max_y = above i } in
    subst (λ (r : Rect). IsBoundingBox (before ++ p ∷ []) r) (sym same) (box_widened before found p (rw c.in-Some.is at bounds.least))
