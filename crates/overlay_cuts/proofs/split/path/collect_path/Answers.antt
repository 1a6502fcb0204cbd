use Rattle.std.proofs.Common.{◌≡◌, ◌∙◌, take, drop, sym, ap, [], ◌∷◌, ◌++◌, Some}
use Rattle.std.specs.Prelude.{slice_get}
use Rattle.std.proofs.lemmas.List.{map-append}
use Rattle.overlay_geometry.specs.PointOf.{point_of}
use Rattle.overlay_cuts.specs.Path.{column_path, last_point}
use Rattle.overlay_cuts.specs.steps.PathSteps.{first_point}
use Rattle.overlay_intersections.specs.MarkOf.{points_of, mark_points_of}
use Rattle.overlay_cuts.proofs.laws.passes.Columns.{IsCollected-start, IsCollected-next, IsCollected-end, fewer, none_left}
use Rattle.overlay_cuts.proofs.split.path.collect_path.Goals as goal

pub loop-first-init : goal.loop-first-init
loop-first-init g c = rw (c.clear.ensures.items) (IsCollected-start (point_of g.I.OverlayInt.whole c.args.a) (point_of g.I.OverlayInt.whole c.args.b) (mark_points_of g.I.OverlayInt.whole c.args.marks.now))

pub loop-first-smaller : goal.loop-first-smaller
loop-first-smaller g c =
    let first : slice_get c.loop-first.rest.now 0 ≡ Some c.in-Some.first.now = sym c.in-Some.ensures.value in
    rw (c.split_at.ensures.back) (fewer (λ m. point_of g.I.OverlayInt.whole m.point) c.loop-first.rest.now c.in-Some.first.now c.column_len.result first c.column_len.ensures.block)

pub loop-first-preserved : goal.loop-first-preserved
loop-first-preserved g c =
    let whole = g.I.OverlayInt.whole in
    let a = point_of whole c.args.a in
    let b = point_of whole c.args.b in
    let n = c.column_len.result in
    let rest = c.loop-first.rest.now in
    let old = c.loop-first.path.items in
    let first : slice_get rest 0 ≡ Some c.in-Some.first.now = sym c.in-Some.ensures.value in
    let before : point_of whole c.last_or-before.result ≡ last_point a (points_of whole old) = c.last_or-before.ensures ∙ ap (λ l. last_point a (points_of whole l)) c.as_slice.ensures.value in
    let next : point_of whole c.first_or-next.result ≡ first_point (mark_points_of whole (drop n rest)) b = c.first_or-next.ensures ∙ ap (λ l. first_point (mark_points_of whole l) b) c.split_at.ensures.back in
    let front = c.split_at.ensures.front in
    let put : points_of whole c.append_column.new.path.items ≡ points_of whole old ++ column_path (last_point a (points_of whole old)) (mark_points_of whole (take n rest)) (first_point (mark_points_of whole (drop n rest)) b) =
    c.in_ok-append_column.ensures ∙ (λ i. points_of whole old ++ column_path (before i) (mark_points_of whole (front i)) (next i)) in
    rw (c.split_at.ensures.back) (IsCollected-next (λ m. point_of whole m.point) (point_of whole) a b c.args.marks.now rest old c.append_column.new.path.items c.in-Some.first.now n first c.column_len.ensures.block c.loop-first.invariant put)

pub returns : goal.returns
returns g c =
    let whole = g.I.OverlayInt.whole in
    let none : c.loop-first.rest.now ≡ [] = none_left c.loop-first.rest.now (sym c.in_default.ensures.value) in
    let items = c.in_ok-push.ensures.items in
    let done = IsCollected-end (point_of whole c.args.a) (point_of whole c.args.b) (mark_points_of whole c.args.marks.now) (points_of whole c.loop-first.path.items) (mark_points_of whole c.loop-first.rest.now) (ap (mark_points_of whole) none) c.loop-first.invariant in
    ap (points_of whole) items ∙ map-append (point_of whole) c.loop-first.path.items (c.args.b ∷ []) ∙ done
