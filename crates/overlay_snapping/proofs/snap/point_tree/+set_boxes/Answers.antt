use Rattle.std.proofs.Common.{◌≡◌, sym, ap, ◌∙◌, ◌++◌, ◌∷◌, ◌/◌, map, length, arith, subst, refl}
use Rattle.std.specs.Prelude.{Some}
use Rattle.std.proofs.lemmas.List.{length-map}
use Rattle.std.specs.List.{list_all}
use Rattle.overlay_geometry.specs.PointOf.{point_of}
use Rattle.overlay_geometry.specs.RangeOf.{rect_of}
use Rattle.overlay_geometry.specs.Coordinates.{is_point_in_range}
use Rattle.overlay_snapping.specs.steps.PointTrees.{rect_with, rect_at, IsBoxOf}
use Rattle.overlay_snapping.specs.steps.BoxesOf.{rect_if_any}
use Rattle.overlay_snapping.proofs.laws.point_trees.Boxes.{no_points, IsHalved-from, AllParts-from, HoldPoints-joined}
use Rattle.overlay_snapping.proofs.laws.point_trees.JoinedBoxes.{box_round}
use Rattle.overlay_snapping.proofs.snap.point_tree.+set_boxes.Goals as goal

pub returns-in_default-clause-holds : goal.returns-in_default-clause-holds
returns-in_default-clause-holds g t c =
    let whole = g.I.OverlayInt.whole in
    let rest = c.in_default.ensures.cases in
    let back = c.split_at.ensures.back_len in
    let as_many = c.requires.one_each in
    let none : length c.args.points.now ≡ 0 = omega (arith, rest, back) in
    no_points _ _ _ _ (length-map c.args.boxes.now (rect_of whole) ∙ as_many ∙ none) (length-map c.args.points.now (point_of whole) ∙ none)

pub set_boxes-left_bounds-requires : goal.set_boxes-left_bounds-requires
set_boxes-left_bounds-requires g t c κs within =
    let whole = g.I.OverlayInt.whole in
    let test = is_point_in_range (whole g.I.OverlayInt.MIN_COORD) (whole g.I.OverlayInt.MAX_COORD) in
    let hp = IsHalved-from whole (point_of whole) (length c.args.points.now / 2) c.args.points.now c.split_at.result.0.now c.split_at.result.1.now c.in-Some.point.now c.in-Some.right.now c.split_at.ensures.front c.split_at.ensures.back c.in-Some.ensures.cases.0 (omega arith) in
    let parts = AllParts-from test (map (point_of whole) c.split_at.result.0.now) (point_of whole c.in-Some.point.now) (map (point_of whole) c.in-Some.right.now) (ap (list_all test) (sym hp.is) ∙ c.requires.in_range) in
    let less = hp.front_less in
    (omega (arith, less), (within, (parts.before, c.split_at_mut-left_boxes.ensures.front_len ∙ sym c.split_at.ensures.front_len)))

pub set_boxes-right_bounds-requires : goal.set_boxes-right_bounds-requires
set_boxes-right_bounds-requires g t c κs within =
    let whole = g.I.OverlayInt.whole in
    let test = is_point_in_range (whole g.I.OverlayInt.MIN_COORD) (whole g.I.OverlayInt.MAX_COORD) in
    let hp = IsHalved-from whole (point_of whole) (length c.args.points.now / 2) c.args.points.now c.split_at.result.0.now c.split_at.result.1.now c.in-Some.point.now c.in-Some.right.now c.split_at.ensures.front c.split_at.ensures.back c.in-Some.ensures.cases.0 (omega arith) in
    let parts = AllParts-from test (map (point_of whole) c.split_at.result.0.now) (point_of whole c.in-Some.point.now) (map (point_of whole) c.in-Some.right.now) (ap (list_all test) (sym hp.is) ∙ c.requires.in_range) in
    let less = hp.back_less in
    let as_many = c.requires.one_each in
    let long = hp.long in
    let back = c.split_at_mut-left_boxes.ensures.back_len in
    let first = c.in-Some-split_first_mut.ensures.cases.1 in
    (omega (arith, less), (within, (parts.after, omega (arith, as_many, long, back, first))))

pub returns-clause-bounds : goal.returns-clause-bounds
returns-clause-bounds g t c =
    let whole = g.I.OverlayInt.whole in
    let least = whole g.I.OverlayInt.MIN_COORD in
    let greatest = whole g.I.OverlayInt.MAX_COORD in
    let test = is_point_in_range least greatest in
    let hp = IsHalved-from whole (point_of whole) (length c.args.points.now / 2) c.args.points.now c.split_at.result.0.now c.split_at.result.1.now c.in-Some.point.now c.in-Some.right.now c.split_at.ensures.front c.split_at.ensures.back c.in-Some.ensures.cases.0 (omega arith) in
    let parts = AllParts-from test (map (point_of whole) c.split_at.result.0.now) (point_of whole c.in-Some.point.now) (map (point_of whole) c.in-Some.right.now) (ap (list_all test) (sym hp.is) ∙ c.requires.in_range) in
    let o = rect_if_any whole c.set_boxes-left_bounds.result in
    let box : rect_of whole c.joined-2.result ≡ rect_with (rect_with (rect_at (point_of whole c.in-Some.point.now)) o) (rect_if_any whole c.set_boxes-right_bounds.result) =
    c.joined-2.ensures ∙ ap (λ r. rect_with r (rect_if_any whole c.set_boxes-right_bounds.result)) (c.joined.ensures ∙ ap (λ r. rect_with r o) c.box_of.ensures) in
    let round = box_round least greatest (point_of whole c.in-Some.point.now) (map (point_of whole) c.split_at.result.0.now) (map (point_of whole) c.in-Some.right.now) o (rect_if_any whole c.set_boxes-right_bounds.result) parts.here c.set_boxes-left_bounds.ensures.bounds c.set_boxes-right_bounds.ensures.bounds in
    subst (λ ps. IsBoxOf least greatest (Some (rect_of whole c.joined-2.result)) ps) (sym hp.is) (subst (λ r. IsBoxOf least greatest (Some r) (map (point_of whole) c.split_at.result.0.now ++ point_of whole c.in-Some.point.now ∷ map (point_of whole) c.in-Some.right.now)) (sym box) round)

pub returns-clause-holds : goal.returns-clause-holds
returns-clause-holds g t c =
    let whole = g.I.OverlayInt.whole in
    let least = whole g.I.OverlayInt.MIN_COORD in
    let greatest = whole g.I.OverlayInt.MAX_COORD in
    let test = is_point_in_range least greatest in
    let hp = IsHalved-from whole (point_of whole) (length c.args.points.now / 2) c.args.points.now c.split_at.result.0.now c.split_at.result.1.now c.in-Some.point.now c.in-Some.right.now c.split_at.ensures.front c.split_at.ensures.back c.in-Some.ensures.cases.0 (omega arith) in
    let parts = AllParts-from test (map (point_of whole) c.split_at.result.0.now) (point_of whole c.in-Some.point.now) (map (point_of whole) c.in-Some.right.now) (ap (list_all test) (sym hp.is) ∙ c.requires.in_range) in
    let o = rect_if_any whole c.set_boxes-left_bounds.result in
    let box : rect_of whole c.joined-2.result ≡ rect_with (rect_with (rect_at (point_of whole c.in-Some.point.now)) o) (rect_if_any whole c.set_boxes-right_bounds.result) =
    c.joined-2.ensures ∙ ap (λ r. rect_with r (rect_if_any whole c.set_boxes-right_bounds.result)) (c.joined.ensures ∙ ap (λ r. rect_with r o) c.box_of.ensures) in
    let round = box_round least greatest (point_of whole c.in-Some.point.now) (map (point_of whole) c.split_at.result.0.now) (map (point_of whole) c.in-Some.right.now) o (rect_if_any whole c.set_boxes-right_bounds.result) parts.here c.set_boxes-left_bounds.ensures.bounds c.set_boxes-right_bounds.ensures.bounds in
    let kept = subst (λ r. IsBoxOf least greatest (Some r) (map (point_of whole) c.split_at.result.0.now ++ point_of whole c.in-Some.point.now ∷ map (point_of whole) c.in-Some.right.now)) (sym box) round in
    HoldPoints-joined whole least greatest (length c.args.points.now / 2) c.set_boxes-left_bounds.new.boxes c.set_boxes-right_bounds.new.boxes c.joined-2.result c.args.points.now c.split_at.result.0.now c.in-Some.right.now c.in-Some.point.now hp refl
    (record { left = c.set_boxes-left_bounds.ensures.holds; right = c.set_boxes-right_bounds.ensures.holds; point_in_range = parts.here; box_in_range = kept.0; in_box = kept.1 })
