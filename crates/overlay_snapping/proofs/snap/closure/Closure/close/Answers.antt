use Rattle.std.proofs.Common.{◌≡◌, ◌∙◌, inl, inr, sym, ap, map, ◌++◌}
use Rattle.std.proofs.lemmas.List.{map-append, length-map}
use Rattle.overlay_geometry.specs.PointOf.{point_of}
use Rattle.overlay_geometry.specs.Coordinates.{is_point_in_range}
use Rattle.overlay_base.specs.SegmentOf.{pairs_in}
use Rattle.overlay_snapping.specs.PointFinderOf.{points_in}
use Rattle.overlay_snapping.proofs.laws.closure.Elements.{passed_on, both_pass}
use Rattle.overlay_snapping.proofs.laws.closure.Repetitions.{sound_first, sound_same, sound_more, hot_points, fewer_left, in_either, some_element, none_element}
use Rattle.overlay_snapping.proofs.snap.closure.Closure.close.Goals as goal

pub loop-size-init : goal.loop-size-init
loop-size-init g c =
    let whole = g.I.OverlayInt.whole in
    let segments = pairs_in c.args.segments.now in
    let old = map (point_of whole) c.args.found.now.items in
    let new = map (point_of whole) c.find_passed.new.found.items in
    let same = c.in_ok-find_passed.ensures.same in
    record {
      points = passed_on (is_point_in_range (whole g.I.OverlayInt.MIN_COORD) (whole g.I.OverlayInt.MAX_COORD)) old new (λ q i. (same q).0 i) c.requires.points;
      sound = sound_same segments old new same (sound_first segments old (map (point_of whole) c.args.given.now) c.requires.input);
      hot = c.in_ok-find_passed.ensures.hot;
      passed = c.in_ok-find_passed.ensures.passed;
      recorded = c.in_ok-find_passed.ensures.recorded;
    }

pub find_passed-requires-in-loop-size-clause-points : goal.find_passed-requires-in-loop-size-clause-points
find_passed-requires-in-loop-size-clause-points g c =
    let whole = g.I.OverlayInt.whole in
    let test = is_point_in_range (whole g.I.OverlayInt.MIN_COORD) (whole g.I.OverlayInt.MAX_COORD) in
    let found = map (point_of whole) c.loop-size.found.items in
    let passed = map (point_of whole) c.loop-size.self.passed.items in
    both_pass test found passed (map (point_of whole) c.extend_from_slice.new.self.items)
    (ap (map (point_of whole)) (c.in_ok-extend_from_slice.ensures.items ∙ ap (λ l. c.loop-size.found.items ++ l) c.deref.ensures.value) ∙ map-append (point_of whole) c.loop-size.found.items c.loop-size.self.passed.items)
    c.loop-size.invariant.points (passed_on test (map (point_of whole) c.args.given.now) passed (λ q i. (c.loop-size.invariant.passed.only q i).0) c.requires.given)

pub loop-size-preserved : goal.loop-size-preserved
loop-size-preserved g c =
    let whole = g.I.OverlayInt.whole in
    let segments = pairs_in c.args.segments.now in
    let first = map (point_of whole) c.args.found.now.items in
    let given = map (point_of whole) c.args.given.now in
    let found = map (point_of whole) c.loop-size.found.items in
    let passed = map (point_of whole) c.loop-size.self.passed.items in
    let longer = map (point_of whole) c.extend_from_slice.new.self.items in
    let new = map (point_of whole) c.find_passed-in-loop-size.new.found.items in
    let same = c.in_ok-find_passed-2.ensures.same in
    let test = is_point_in_range (whole g.I.OverlayInt.MIN_COORD) (whole g.I.OverlayInt.MAX_COORD) in
    let all : longer ≡ found ++ passed =
    ap (map (point_of whole)) (c.in_ok-extend_from_slice.ensures.items ∙ ap (λ l. c.loop-size.found.items ++ l) c.deref.ensures.value) ∙ map-append (point_of whole) c.loop-size.found.items c.loop-size.self.passed.items in
    let h = c.loop-size.invariant in
    record {
      points = passed_on test longer new (λ q i. (same q).0 i) (both_pass test found passed longer all h.points (passed_on test given passed (λ q i. (h.passed.only q i).0) c.requires.given));
      sound = sound_same segments longer new same (sound_more segments first given c.requires.input found h.sound passed h.passed longer (in_either found passed longer all));
      hot = c.in_ok-find_passed-2.ensures.hot;
      passed = c.in_ok-find_passed-2.ensures.passed;
      recorded = c.in_ok-find_passed-2.ensures.recorded;
    }

pub loop-size-smaller : goal.loop-size-smaller
loop-size-smaller g c =
    let whole = g.I.OverlayInt.whole in
    let given = map (point_of whole) c.args.given.now in
    let found = map (point_of whole) c.loop-size.found.items in
    let passed = map (point_of whole) c.loop-size.self.passed.items in
    let longer = map (point_of whole) c.extend_from_slice.new.self.items in
    let new = map (point_of whole) c.find_passed-in-loop-size.new.found.items in
    let same = c.in_ok-find_passed-2.ensures.same in
    let all : longer ≡ found ++ passed =
    ap (map (point_of whole)) (c.in_ok-extend_from_slice.ensures.items ∙ ap (λ l. c.loop-size.found.items ++ l) c.deref.ensures.value) ∙ map-append (point_of whole) c.loop-size.found.items c.loop-size.self.passed.items in
    let either = in_either found passed longer all in
    let one = some_element passed c.loop-size.self.passed.len c.is_empty.result (c.loop-size.self.passed.ok.0 ∙ sym (length-map c.loop-size.self.passed.items (point_of whole))) c.is_empty.ensures c.loop-size-test.true in
    let r = c.loop-size.invariant.passed.only one.0 one.1 in
    fewer_left found new (λ q i. (same q).1 ((either q).1 (inl i))) given one.0 r.0 r.2 ((same one.0).1 ((either one.0).1 (inr one.1)))

pub returns : goal.returns
returns g c =
    let whole = g.I.OverlayInt.whole in
    let h = c.loop-size.invariant in
    let passed = map (point_of whole) c.loop-size.self.passed.items in
    record {
      hot = hot_points (pairs_in c.args.segments.now) (map (point_of whole) c.args.found.now.items) (map (point_of whole) c.args.given.now) c.requires.input (map (point_of whole) c.loop-size.found.items) h.sound passed h.passed
          (none_element passed c.loop-size.self.passed.len c.is_empty.result (c.loop-size.self.passed.ok.0 ∙ sym (length-map c.loop-size.self.passed.items (point_of whole))) c.is_empty.ensures c.loop-size-test.false) (points_in c.loop-size.hot) h.hot;
      recorded = h.recorded;
    }
