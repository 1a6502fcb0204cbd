-- What an overlay returns crosses itself at no point that is not whole: no two of its edges share more than an end.
use Rattle.std.proofs.Common.{sym, subst}
use Rattle.std.specs.Prelude.{IsTrue, IsFalse, List}
use Rattle.std.specs.List.{list_all}
use Rattle.std.proofs.lemmas.Bool.{false_from_ne_true}
use Rattle.overlay_geometry.specs.Meeting.{are_apart}
use Rattle.overlay_geometry.specs.Points.{Point, Pair}
use Rattle.overlay_geometry.proofs.laws.lists.Lists.{Has, list_all-at}
use Rattle.overlay_base.specs.Join.{join}
use Rattle.overlay_base.specs.Segments.{WholeSegment, pairs}
use Rattle.overlay_base.specs.declared.segm.shape_type.ShapeType.TheVariants.{Subject}
use Rattle.overlay_intersections.specs.PassMarks.{is_rounded}
use Rattle.overlay_cuts.proofs.laws.planar.ExactInputs.{In-join}
use Rattle.overlay_contours.specs.Contours.{edges}
use Rattle.overlay_contours.specs.ContourSegments.{contour_segments}
use Rattle.overlay_relations.specs.Laws.{ResultsCrossExactly}
use Rattle.overlay_relations.proofs.laws.Boundaries.{contour_pairs, subject_alone}
use Rattle.overlay_relations.proofs.laws.CrossingRegions.{crossing_of, not_in_one}

module _ (contours : List (List Point)) (apart : IsTrue (list_all (λ s. list_all (λ t. are_apart s t) (edges contours)) (edges contours))) where
  abbrev bag : List WholeSegment
  bag = contour_segments Subject contours

  edge_of : (s : Pair) → Has (pairs (join bag)) s → Has (edges contours) s
  edge_of s m = subst (λ (l : List Pair). Has l s) (contour_pairs Subject contours) (In-join bag s m)

  no_crossing : IsTrue (is_rounded (join bag)) → ⊥
  no_crossing h =
      let crossing = crossing_of (join bag) h in
      not_in_one (join bag) crossing.s crossing.t
      (list_all-at (λ t. are_apart crossing.s t) (edges contours) crossing.t
      (list_all-at (λ s. list_all (λ t. are_apart s t) (edges contours)) (edges contours) crossing.s apart (edge_of crossing.s crossing.is_first)) (edge_of crossing.t crossing.is_second))
      crossing.cross

  crosses_exactly : IsFalse (is_rounded (join bag))
  crosses_exactly = false_from_ne_true (is_rounded (join bag)) no_crossing

pub results_cross_exactly : ResultsCrossExactly
results_cross_exactly halves rule fill_rule subject clip result overlay = subst (λ (l : List WholeSegment). IsFalse (is_rounded (join l))) (sym (subject_alone result)) (crosses_exactly result overlay.apart)
