use Rattle.std.proofs.Common.{◌≡◌, sym, ap, subst, ◌∙◌}
use Rattle.std.specs.Int.{int_min, int_max}
use Rattle.overlay_geometry.specs.RangeOf.{rect_of}
use Rattle.overlay_geometry.specs.Ranges.{Rect}
use Rattle.overlay_relations.specs.steps.Columns.{IsBoxWithin}
use Rattle.overlay_contours.proofs.laws.Boxes.{whole_min, whole_max}
use Rattle.overlay_relations.proofs.laws.Columns.{box_around, within_first, within_second}
use Rattle.overlay_relations.proofs.boxes.bounds_with.Goals as goal

pub returns-in-Some-clause-found : goal.returns-in-Some-clause-found
returns-in-Some-clause-found g c =
    let whole = g.I.OverlayInt.whole in
    let r = rect_of whole c.in-Some.found in
    let s = rect_of whole c.args.more in
    let least = whole_min whole g.I.Ord.cmp g.met.I.OverlayInt.ordered in
    let greatest = whole_max whole g.I.Ord.cmp g.met.I.OverlayInt.ordered in
    let left : whole c.min.result ≡ int_min r.min_x s.min_x = ap whole c.min.ensures ∙ least c.in-Some.found.min_x c.args.more.min_x in
    let right : whole c.max.result ≡ int_max r.max_x s.max_x = ap whole c.max.ensures ∙ greatest c.in-Some.found.max_x c.args.more.max_x in
    let below : whole c.min-in-Some.result ≡ int_min r.min_y s.min_y = ap whole c.min-in-Some.ensures ∙ least c.in-Some.found.min_y c.args.more.min_y in
    let above : whole c.max-in-Some.result ≡ int_max r.max_y s.max_y = ap whole c.max-in-Some.ensures ∙ greatest c.in-Some.found.max_y c.args.more.max_y in
    let same : record { min_x = whole c.min.result; max_x = whole c.max.result; min_y = whole c.min-in-Some.result; max_y = whole c.max-in-Some.result } ≡ box_around r s = λ i. record { min_x = left i; max_x = right i; min_y = below i; max_y = above i } in
    rw c.in-Some.is (subst (λ (t : Rect). IsBoxWithin r t) (sym same) (within_first r s))

pub returns-in-Some-clause-more : goal.returns-in-Some-clause-more
returns-in-Some-clause-more g c =
    let whole = g.I.OverlayInt.whole in
    let r = rect_of whole c.in-Some.found in
    let s = rect_of whole c.args.more in
    let least = whole_min whole g.I.Ord.cmp g.met.I.OverlayInt.ordered in
    let greatest = whole_max whole g.I.Ord.cmp g.met.I.OverlayInt.ordered in
    let left : whole c.min.result ≡ int_min r.min_x s.min_x = ap whole c.min.ensures ∙ least c.in-Some.found.min_x c.args.more.min_x in
    let right : whole c.max.result ≡ int_max r.max_x s.max_x = ap whole c.max.ensures ∙ greatest c.in-Some.found.max_x c.args.more.max_x in
    let below : whole c.min-in-Some.result ≡ int_min r.min_y s.min_y = ap whole c.min-in-Some.ensures ∙ least c.in-Some.found.min_y c.args.more.min_y in
    let above : whole c.max-in-Some.result ≡ int_max r.max_y s.max_y = ap whole c.max-in-Some.ensures ∙ greatest c.in-Some.found.max_y c.args.more.max_y in
    let same : record { min_x = whole c.min.result; max_x = whole c.max.result; min_y = whole c.min-in-Some.result; max_y = whole c.max-in-Some.result } ≡ box_around r s = λ i. record { min_x = left i; max_x = right i; min_y = below i; max_y = above i } in
    subst (λ (t : Rect). IsBoxWithin s t) (sym same) (within_second r s)
