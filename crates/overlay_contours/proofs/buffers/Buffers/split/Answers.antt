use Rattle.std.proofs.Common.{◌≡◌, subst, ◌∙◌, ℕ, List}
use Rattle.overlay_geometry.specs.Points.{Point}
use Rattle.overlay_base.specs.Segments.{WholeSegment}
use Rattle.overlay_base.specs.SegmentOf.{segments_of}
use Rattle.overlay_base.specs.declared.segm.fault.Fault.{Fault}
use Rattle.overlay_cuts.specs.Run.{Settings}
use Rattle.overlay_split.specs.SettingsOf.{settings_of, passes_of, reach_of}
use Rattle.overlay_contours.specs.ContoursOf.{contours_of}
use Rattle.overlay_contours.specs.Refusals.{IsReason}
use Rattle.overlay_contours.specs.Splittings.{by_passes, by_snapping, settings_for, IsArrangement}
use Rattle.overlay_contours.proofs.laws.Overlays.{refused_as}
use Rattle.overlay_contours.proofs.laws.Splittings.{settings_are, left_by_passes, left_by_snapping, too_large_on_way}
use Rattle.overlay_contours.proofs.buffers.Buffers.split.Goals as goal

pub returns-in_err-split_segments-in-HotPixels-clause-refused : goal.returns-in_err-split_segments-in-HotPixels-clause-refused
returns-in_err-split_segments-in-HotPixels-clause-refused g c =
    let whole = g.I.OverlayInt.whole in
    let subject : List (List Point) = contours_of whole c.args.subject.now in
    let clip : List (List Point) = contours_of whole c.args.clip.now in
    let fault : Fault = c.in_err-split_segments-in-HotPixels.field-0.0 in
    let given : List WholeSegment = segments_of c.load_sides.new.sides.items in
    rw c.in-HotPixels.is
    (refused_as c.from_residual-in_err-split_segments-in-HotPixels.result (IsReason by_snapping subject clip) fault c.from_residual-in_err-split_segments-in-HotPixels.ensures.1
    (too_large_on_way by_snapping subject clip given fault c.in_ok-load_sides.ensures.segments c.in_err-split_segments-in-HotPixels.ensures.refused))

pub returns-in_ok-split_segments-in-HotPixels-clause-arrangement : goal.returns-in_ok-split_segments-in-HotPixels-clause-arrangement
returns-in_ok-split_segments-in-HotPixels-clause-arrangement g c =
    let I = g.I.OverlayInt in
    let e = c.in_ok-split_segments-in-HotPixels.ensures in
    let given : List WholeSegment = segments_of c.load_sides.new.sides.items in
    let segments : List WholeSegment = segments_of c.split_segments.new.list.items in
    let halves : ℕ = c.reach-self.result in
    rw c.in-HotPixels.is
    (subst (λ (l : List WholeSegment). IsArrangement by_snapping l segments 1 halves) c.in_ok-load_sides.ensures.segments
    (left_by_snapping given segments halves (I.whole I.MIN_COORD) (I.whole I.MAX_COORD) e.snapped e.arranged e.balance e.near e.winding (c.reach-self.ensures ∙ e.reach)))

pub returns-in_ok-split_segments-in-Pairwise-clause-arrangement : goal.returns-in_ok-split_segments-in-Pairwise-clause-arrangement
returns-in_ok-split_segments-in-Pairwise-clause-arrangement g c =
    let I = g.I.OverlayInt in
    let e = c.in_ok-split_segments-in-Pairwise.ensures in
    let settings : Settings = settings_of I.BITS c.args.solver.now c.args.self.now.splitter in
    let given : List WholeSegment = segments_of c.load_sides.new.sides.items in
    let segments : List WholeSegment = segments_of c.split_segments-in-Pairwise.new.list.items in
    let passes : ℕ = passes_of c.split_segments-in-Pairwise.new.self in
    let halves : ℕ = reach_of c.split_segments-in-Pairwise.new.self in
    rw (c.in-Pairwise.is, c.passes-self.ensures, c.reach-self-in-Pairwise.ensures)
    (subst (λ (l : List WholeSegment). IsArrangement (by_passes (settings_for I.BITS c.args.solver.now)) l segments passes halves) c.in_ok-load_sides.ensures.segments
    (subst (λ (s : Settings). IsArrangement (by_passes s) given segments passes halves) (settings_are I.BITS c.args.solver.now c.args.self.now.splitter c.args.self.now.limit)
    (left_by_passes settings given segments passes halves _ (I.whole I.MIN_COORD) (I.whole I.MAX_COORD) e.run e.arranged e.balance e.near e.winding e.reach.0 e.reach.1 e.exact_reach)))
