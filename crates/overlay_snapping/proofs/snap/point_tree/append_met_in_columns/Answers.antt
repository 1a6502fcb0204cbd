use Rattle.std.proofs.Common.{◌≡◌, sym, subst, ◌∙◌, ℕ, ◌+◌, ◌++◌, [], ◌∷◌, arith}
use Rattle.std.specs.Prelude.{◌<ℤ◌}
use Rattle.overlay_geometry.specs.Coordinates.{is_point_in_range}
use Rattle.overlay_geometry.specs.PairOf.{pair_of}
use Rattle.overlay_geometry.specs.PointOf.{point_of}
use Rattle.overlay_snapping.specs.steps.PointTrees.{met_places_from, column_of, is_before, is_up_to, IsFirstFailing}
use Rattle.overlay_snapping.proofs.laws.point_trees.ColumnSearches.{begin, upward, behind, beyond, lt_from}
use Rattle.overlay_snapping.proofs.laws.point_trees.MetPlaces.{met_none, met_one_more, passes_at}
use Rattle.overlay_snapping.proofs.snap.point_tree.append_met_in_columns.Goals as goal

pub loop-place-init : goal.loop-place-init
loop-place-init g c =
    let whole = g.I.OverlayInt.whole in
    let s = pair_of whole c.args.segment.now in
    let found = c.args.places.now.items in (
      c.first_from-place.ensures.bound,
      begin whole c.args.shift c.args.points.now c.requires.columns s c.requires.ordered (whole c.lesser-low.result) (whole c.greater-high.result) c.lesser-low.ensures c.greater-high.ensures found found
          c.first_from-place.result c.args.segment.now.a c.first_from-place.ensures.place c.first_from-place.ensures.bound (met_none s 0 found),
    )

pub returns-then-is_left_of : goal.returns-then-is_left_of
returns-then-is_left_of g c =
    let whole = g.I.OverlayInt.whole in
    let s = pair_of whole c.args.segment.now in
    let x = c.index-points-place.result in
    let far = lt_from (column_of c.args.shift s.b.x) (column_of c.args.shift (whole x.x)) (sym c.is_left_of.ensures ∙ c.if-is_left_of.true) in
    beyond whole c.args.shift c.args.points.now c.requires.columns s c.requires.ordered (whole c.lesser-low.result) (whole c.greater-high.result) c.lesser-low.ensures c.greater-high.ensures c.args.places.now.items c.loop-place.places.items
    c.loop-place.place x c.loop-place-test.true (subst (λ z. column_of c.args.shift s.b.x <ℤ column_of c.args.shift (point_of whole z).x) c.index-points-place.is far) c.loop-place.invariant.1

pub loop-place-smaller-then-is_less : goal.loop-place-smaller-then-is_less
loop-place-smaller-then-is_less g c =
    let whole = g.I.OverlayInt.whole in
    let s = pair_of whole c.args.segment.now in
    let x = c.index-points-place.result in
    let under = lt_from (whole x.y) (whole c.lesser-low.result) (sym c.is_less.ensures ∙ c.if-is_less.true) in
    let is = c.first_from-place-then-is_less.ensures.place in
    let bound = c.first_from-place-then-is_less.ensures.bound in
    let found = upward whole c.args.shift c.args.points.now c.requires.columns s c.requires.ordered (whole c.lesser-low.result) (whole c.greater-high.result) c.lesser-low.ensures c.greater-high.ensures c.args.places.now.items c.loop-place.places.items
    c.loop-place.place c.first_from-place-then-is_less.result x c.loop-place-test.true (subst (λ z. (point_of whole z).y <ℤ whole c.lesser-low.result) c.index-points-place.is under)
    (subst (λ z. IsFirstFailing whole (is_before c.args.shift (column_of c.args.shift (point_of whole z).x) (whole c.lesser-low.result)) c.args.points.now c.first_from-place-then-is_less.result) c.index-points-place.is is) bound c.loop-place.invariant.1 in
    let more = found.0 in
    omega (arith, more, bound)

pub loop-place-preserved-then-is_less : goal.loop-place-preserved-then-is_less
loop-place-preserved-then-is_less g c =
    let whole = g.I.OverlayInt.whole in
    let s = pair_of whole c.args.segment.now in
    let x = c.index-points-place.result in
    let under = lt_from (whole x.y) (whole c.lesser-low.result) (sym c.is_less.ensures ∙ c.if-is_less.true) in
    let is = c.first_from-place-then-is_less.ensures.place in
    let bound = c.first_from-place-then-is_less.ensures.bound in
    let found = upward whole c.args.shift c.args.points.now c.requires.columns s c.requires.ordered (whole c.lesser-low.result) (whole c.greater-high.result) c.lesser-low.ensures c.greater-high.ensures c.args.places.now.items c.loop-place.places.items
    c.loop-place.place c.first_from-place-then-is_less.result x c.loop-place-test.true (subst (λ z. (point_of whole z).y <ℤ whole c.lesser-low.result) c.index-points-place.is under)
    (subst (λ z. IsFirstFailing whole (is_before c.args.shift (column_of c.args.shift (point_of whole z).x) (whole c.lesser-low.result)) c.args.points.now c.first_from-place-then-is_less.result) c.index-points-place.is is) bound c.loop-place.invariant.1 in
    (bound, found.1)

pub loop-place-smaller-then-is_less-2 : goal.loop-place-smaller-then-is_less-2
loop-place-smaller-then-is_less-2 g c =
    let whole = g.I.OverlayInt.whole in
    let s = pair_of whole c.args.segment.now in
    let x = c.index-points-place.result in
    let above = lt_from (whole c.greater-high.result) (whole x.y) (sym c.is_less-else-is_less.ensures ∙ c.if-is_less-2.true) in
    let is = c.first_behind-place.ensures.place in
    let bound = c.first_behind-place.ensures.bound in
    let found = behind whole c.args.shift c.args.points.now c.requires.columns s c.requires.ordered (whole c.lesser-low.result) (whole c.greater-high.result) c.lesser-low.ensures c.greater-high.ensures c.args.places.now.items c.loop-place.places.items
    c.loop-place.place c.first_behind-place.result x c.loop-place-test.true (subst (λ z. whole c.greater-high.result <ℤ (point_of whole z).y) c.index-points-place.is above)
    (subst (λ z. IsFirstFailing whole (is_up_to c.args.shift (column_of c.args.shift (point_of whole z).x)) c.args.points.now c.first_behind-place.result) c.index-points-place.is is) bound c.loop-place.invariant.1 in
    let more = found.0 in
    omega (arith, more, bound)

pub loop-place-preserved-then-is_less-2 : goal.loop-place-preserved-then-is_less-2
loop-place-preserved-then-is_less-2 g c =
    let whole = g.I.OverlayInt.whole in
    let s = pair_of whole c.args.segment.now in
    let x = c.index-points-place.result in
    let above = lt_from (whole c.greater-high.result) (whole x.y) (sym c.is_less-else-is_less.ensures ∙ c.if-is_less-2.true) in
    let is = c.first_behind-place.ensures.place in
    let bound = c.first_behind-place.ensures.bound in
    let found = behind whole c.args.shift c.args.points.now c.requires.columns s c.requires.ordered (whole c.lesser-low.result) (whole c.greater-high.result) c.lesser-low.ensures c.greater-high.ensures c.args.places.now.items c.loop-place.places.items
    c.loop-place.place c.first_behind-place.result x c.loop-place-test.true (subst (λ z. whole c.greater-high.result <ℤ (point_of whole z).y) c.index-points-place.is above)
    (subst (λ z. IsFirstFailing whole (is_up_to c.args.shift (column_of c.args.shift (point_of whole z).x)) c.args.points.now c.first_behind-place.result) c.index-points-place.is is) bound c.loop-place.invariant.1 in
    (bound, found.1)

pub append_if_met-requires-clause-point : goal.append_if_met-requires-clause-point
append_if_met-requires-clause-point g c =
    let whole = g.I.OverlayInt.whole in
    passes_at (is_point_in_range (whole g.I.OverlayInt.MIN_COORD) (whole g.I.OverlayInt.MAX_COORD)) (point_of whole) c.args.points.now c.loop-place.place c.index-points-place.result c.loop-place-test.true c.index-points-place.is c.requires.points

pub loop-place-preserved : goal.loop-place-preserved
loop-place-preserved g c =
    let whole = g.I.OverlayInt.whole in
    let s = pair_of whole c.args.segment.now in
    let inside = c.loop-place-test.true in
    let same : c.loop-place.place ≡ 0 + c.loop-place.place = omega arith in
    let added = subst (λ (k : ℕ). c.append_if_met.new.places.items ≡ c.loop-place.places.items ++ met_places_from k s (point_of whole c.index-points-place.result ∷ [])) same c.in_ok-append_if_met.ensures in (
      omega (arith, inside),
      met_one_more s (point_of whole) c.args.points.now 0 c.loop-place.place c.index-points-place.result c.args.places.now.items c.loop-place.places.items c.append_if_met.new.places.items
          inside c.index-points-place.is c.loop-place.invariant.1 added,
    )
