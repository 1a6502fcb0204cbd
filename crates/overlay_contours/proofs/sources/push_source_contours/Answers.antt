use Rattle.std.proofs.Common.{◌≡◌, refl, sym, ap, ◌∙◌, ◌+◌, ◌++◌, length, List, append_assoc, drop}
use Rattle.std.specs.Prelude.{Some, option_map, slice_get}
use Rattle.std.proofs.lemmas.List.{append-nil}
use Rattle.std.proofs.lemmas.Option.{slice_get-map, slice_get_read}
use Rattle.overlay_geometry.specs.Points.{Point}
use Rattle.overlay_base.specs.Segments.{WholeSegment}
use Rattle.overlay_base.specs.SegmentOf.{segments_of}
use Rattle.overlay_contours.specs.Contours.{steps_of}
use Rattle.overlay_contours.specs.ContoursOf.{points_of, contours_of}
use Rattle.overlay_contours.specs.ContourSegments.{step_segments, contour_segments}
use Rattle.overlay_contours.proofs.laws.Steps.{contour_segments-next, contour_segments-past}
use Rattle.overlay_contours.proofs.sources.push_source_contours.Goals as goal

pub loop-index-preserved : goal.loop-index-preserved
loop-index-preserved g c =
    let whole = g.I.OverlayInt.whole in
    let shape_type = c.args.shape_type in
    let contours = c.args.contours.now in
    let k = c.loop-index.index in
    let item = c.index-contours-index.result in
    let rest : List WholeSegment = contour_segments shape_type (contours_of whole (drop (k + 1) contours)) in
    let before : List WholeSegment = segments_of c.loop-index.sides.items in
    let here : List WholeSegment = step_segments shape_type (steps_of (points_of whole item.items)) in
    let pushed : segments_of c.push_source_contour.new.sides.items ≡ before ++ here = c.in_ok-push_source_contour.ensures.sides ∙ ap (λ (l : _). before ++ step_segments shape_type (steps_of (points_of whole l))) c.deref.ensures.value in (
      ap (λ (l : List WholeSegment). l ++ rest) pushed ∙ append_assoc before here rest
          ∙ ap (λ (l : List WholeSegment). before ++ l) (sym (contour_segments-next shape_type (λ v. points_of whole v.items) contours k item c.loop-index-test.true c.index-contours-index.is))
          ∙ c.loop-index.invariant.0,
      λ subject clip named given.
          c.in_ok-push_source_contour.ensures.sources subject clip
          (ap (λ (l : List (List Point)). slice_get l k) named
          ∙ slice_get-map (λ v. points_of whole v.items) contours k
          ∙ ap (option_map (λ v. points_of whole v.items)) (slice_get_read contours (length contours) k item refl c.loop-index-test.true c.index-contours-index.is)
          ∙ ap (λ l. Some (points_of whole l)) (sym c.deref.ensures.value))
          (c.loop-index.invariant.1 subject clip named given),
    )

pub returns-clause-sides : goal.returns-clause-sides
returns-clause-sides g c =
    let whole = g.I.OverlayInt.whole in
    let before : List WholeSegment = segments_of c.loop-index.sides.items in
    sym (append-nil before)
    ∙ ap (λ (l : List WholeSegment). before ++ l) (sym (contour_segments-past c.args.shape_type (λ v. points_of whole v.items) c.args.contours.now c.loop-index.index c.loop-index-test.false))
    ∙ c.loop-index.invariant.0
