use Rattle.std.proofs.Common.{◌≡◌, ap, ◌∙◌, arith}
use Rattle.std.proofs.lemmas.Int.{ints, clamps}
use Rattle.std.specs.Int.{int_min, int_max}
use Rattle.overlay_split.proofs.laws.passes.WholeBounds.{whole_min, whole_max}
use Rattle.overlay_split.proofs.split.changed.widened.Goals as goal

pub returns-clause-others : goal.returns-clause-others
returns-clause-others g c = λ p h.
    let whole = g.I.OverlayInt.whole in
    let cmp = g.I.Ord.cmp in
    let rect = c.args.rect.now in
    let point = c.args.point in
    let left : whole c.min.result ≡ int_min (whole rect.min_x) (whole point.x) = ap whole c.min.ensures ∙ whole_min whole cmp g.met.I.OverlayInt.ordered rect.min_x point.x in
    let right : whole c.max.result ≡ int_max (whole rect.max_x) (whole point.x) = ap whole c.max.ensures ∙ whole_max whole cmp g.met.I.OverlayInt.ordered rect.max_x point.x in
    let low : whole c.min-2.result ≡ int_min (whole rect.min_y) (whole point.y) = ap whole c.min-2.ensures ∙ whole_min whole cmp g.met.I.OverlayInt.ordered rect.min_y point.y in
    let high : whole c.max-2.result ≡ int_max (whole rect.max_y) (whole point.y) = ap whole c.max-2.ensures ∙ whole_max whole cmp g.met.I.OverlayInt.ordered rect.max_y point.y in
    record {
      left = (let k = h.left in omega (arith, ints, clamps, left, k));
      right = (let k = h.right in omega (arith, ints, clamps, right, k));
      low = (let k = h.low in omega (arith, ints, clamps, low, k));
      high = (let k = h.high in omega (arith, ints, clamps, high, k));
    }
