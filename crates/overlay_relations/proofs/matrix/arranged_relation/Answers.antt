use Rattle.std.proofs.Common.{◌≡◌, ap, refl, subst, ◌∙◌, ℕ, List}
use Rattle.std.specs.Prelude.{true, not, ◌==◌}
use Rattle.overlay_geometry.specs.Points.{Point}
use Rattle.overlay_base.specs.SegmentOf.{segments_of}
use Rattle.overlay_base.specs.Segments.{pairs}
use Rattle.overlay_base.specs.declared.overlay_core.fill_rule.FillRule.TheVariants.{NonZero}
use Rattle.overlay_base.specs.declared.overlay_core.overlay_rule.OverlayRule.TheVariants.{Subject, Clip, Intersect, Union, Difference, InverseDifference}
use Rattle.overlay_contours.specs.ArrangementsOf.{arrangement_of}
use Rattle.overlay_contours.specs.Beyond.{IsOverlayBeyond}
use Rattle.overlay_contours.specs.ContoursOf.{points_of, contours_of}
use Rattle.overlay_contours.specs.Splittings.{by_snapping}
use Rattle.overlay_contours.proofs.laws.Arrangements.{stays_of}
use Rattle.overlay_relations.specs.MatrixLaws.{AreRegions}
use Rattle.overlay_relations.specs.declared.matrix.Relation.{Relation}
use Rattle.overlay_relations.proofs.laws.MatrixOutcomes.{region_by, planar_pairs, some_told, matrix_told}
use Rattle.overlay_relations.proofs.matrix.arranged_relation.Goals as goal

pub returns-clause-matrix : goal.returns-clause-matrix
returns-clause-matrix g c first second is none =
    let whole = g.I.OverlayInt.whole in
    let a0 = arrangement_of c.args.arrangement.now in
    let i0 = is in
    let n0 = none in
    let a1 = arrangement_of c.contours.new.self in
    let k1 = c.in_ok-both.ensures.kept in
    let i1 = stays_of by_snapping NonZero first second a0 a1 k1 i0 in
    let n1 = k1.4 ∙ n0 in
    let a2 = arrangement_of c.contours-2.new.self in
    let k2 = c.in_ok-either.ensures.kept in
    let i2 = stays_of by_snapping NonZero first second a1 a2 k2 i1 in
    let n2 = k2.4 ∙ n1 in
    let a3 = arrangement_of c.contours-3.new.self in
    let k3 = c.in_ok-subject_alone.ensures.kept in
    let i3 = stays_of by_snapping NonZero first second a2 a3 k3 i2 in
    let n3 = k3.4 ∙ n2 in
    let a4 = arrangement_of c.contours-4.new.self in
    let k4 = c.in_ok-clip_alone.ensures.kept in
    let i4 = stays_of by_snapping NonZero first second a3 a4 k4 i3 in
    let n4 = k4.4 ∙ n3 in
    let a5 = arrangement_of c.contours-5.new.self in
    let k5 = c.in_ok-of_subject.ensures.kept in
    let i5 = stays_of by_snapping NonZero first second a4 a5 k5 i4 in
    let n5 = k5.4 ∙ n4 in
    let both : List (List Point) = contours_of whole c.in_ok-both.both.items in
    let by_both = region_by first second (segments_of a0.sides.items) a0.passes a0.reach is.arrangement Intersect both
    (subst (λ (n : ℕ). IsOverlayBeyond n Intersect NonZero first second both) n0 (c.in_ok-both.ensures.overlay by_snapping NonZero first second i0))
    (c.in_ok-both.ensures.polygons by_snapping NonZero first second i0) in
    let either : List (List Point) = contours_of whole c.in_ok-either.either.items in
    let by_either = region_by first second (segments_of a0.sides.items) a0.passes a0.reach is.arrangement Union either
    (subst (λ (n : ℕ). IsOverlayBeyond n Union NonZero first second either) n1 (c.in_ok-either.ensures.overlay by_snapping NonZero first second i1))
    (c.in_ok-either.ensures.polygons by_snapping NonZero first second i1) in
    let subject_alone : List (List Point) = contours_of whole c.in_ok-subject_alone.subject_alone.items in
    let by_subject_alone = region_by first second (segments_of a0.sides.items) a0.passes a0.reach is.arrangement Difference subject_alone
    (subst (λ (n : ℕ). IsOverlayBeyond n Difference NonZero first second subject_alone) n2 (c.in_ok-subject_alone.ensures.overlay by_snapping NonZero first second i2))
    (c.in_ok-subject_alone.ensures.polygons by_snapping NonZero first second i2) in
    let clip_alone : List (List Point) = contours_of whole c.in_ok-clip_alone.clip_alone.items in
    let by_clip_alone = region_by first second (segments_of a0.sides.items) a0.passes a0.reach is.arrangement InverseDifference clip_alone
    (subst (λ (n : ℕ). IsOverlayBeyond n InverseDifference NonZero first second clip_alone) n3 (c.in_ok-clip_alone.ensures.overlay by_snapping NonZero first second i3))
    (c.in_ok-clip_alone.ensures.polygons by_snapping NonZero first second i3) in
    let of_subject : List (List Point) = contours_of whole c.in_ok-of_subject.of_subject.items in
    let by_of_subject = region_by first second (segments_of a0.sides.items) a0.passes a0.reach is.arrangement Subject of_subject
    (subst (λ (n : ℕ). IsOverlayBeyond n Subject NonZero first second of_subject) n4 (c.in_ok-of_subject.ensures.overlay by_snapping NonZero first second i4))
    (c.in_ok-of_subject.ensures.polygons by_snapping NonZero first second i4) in
    let of_clip : List (List Point) = contours_of whole c.in_ok-of_clip.of_clip.items in
    let by_of_clip = region_by first second (segments_of a0.sides.items) a0.passes a0.reach is.arrangement Clip of_clip
    (subst (λ (n : ℕ). IsOverlayBeyond n Clip NonZero first second of_clip) n5 (c.in_ok-of_clip.ensures.overlay by_snapping NonZero first second i5))
    (c.in_ok-of_clip.ensures.polygons by_snapping NonZero first second i5) in
    let are : AreRegions first second both either subject_alone clip_alone of_subject of_clip = record {
      segments = pairs (segments_of a0.sides.items);
      planar = planar_pairs first second (segments_of a0.sides.items) a0.passes a0.reach is.arrangement;
      by_both = by_both;
      by_either = by_either;
      by_subject_alone = by_subject_alone;
      by_clip_alone = by_clip_alone;
      by_subject = by_of_subject;
      by_clip = by_of_clip;
    } in
    let relation : Relation = record {
      interior_interior = not c.is_empty.result;
      interior_boundary = c.in_ok-inside_border.inside_border;
      interior_exterior = not c.is_empty-2.result;
      boundary_interior = c.in_ok-border_inside.border_inside;
      boundary_boundary = c.in_ok-borders.borders;
      boundary_exterior = c.in_ok-border_outside.border_outside;
      exterior_interior = not c.is_empty-3.result;
      exterior_boundary = c.in_ok-outside_border.outside_border;
      exterior_exterior = true;
    } in
    let empty : c.is_empty.result ≡ _ = c.is_empty.ensures ∙ ap (λ (n : ℕ). n == 0) c.in_ok-both.both.ok.0 in
    let empty-2 : c.is_empty-2.result ≡ _ = c.is_empty-2.ensures ∙ ap (λ (n : ℕ). n == 0) c.in_ok-subject_alone.subject_alone.ok.0 in
    let empty-3 : c.is_empty-3.result ≡ _ = c.is_empty-3.ensures ∙ ap (λ (n : ℕ). n == 0) c.in_ok-clip_alone.clip_alone.ok.0 in
    matrix_told first second both either subject_alone clip_alone of_subject of_clip are relation
    (some_told (λ v. points_of whole v.items) c.in_ok-both.both.items c.is_empty.result (not c.is_empty.result) empty refl)
    (rw (c.deref.ensures.value, c.deref-2.ensures.value) at c.in_ok-inside_border.ensures.common)
    (some_told (λ v. points_of whole v.items) c.in_ok-subject_alone.subject_alone.items c.is_empty-2.result (not c.is_empty-2.result) empty-2 refl)
    (rw (c.deref-3.ensures.value, c.deref-4.ensures.value) at c.in_ok-border_inside.ensures.common)
    (rw (c.deref-5.ensures.value, c.deref-6.ensures.value) at c.in_ok-borders.ensures)
    (rw (c.deref-7.ensures.value, c.deref-8.ensures.value) at c.in_ok-border_outside.ensures.common)
    (some_told (λ v. points_of whole v.items) c.in_ok-clip_alone.clip_alone.items c.is_empty-3.result (not c.is_empty-3.result) empty-3 refl)
    (rw (c.deref-9.ensures.value, c.deref-10.ensures.value) at c.in_ok-outside_border.ensures.common)
    refl
