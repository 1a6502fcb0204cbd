-- Where every crossing is a whole point, the marks of a settling pass are the cuts.
use Rattle.std.proofs.Common.{sym, subst, IsTrue, IsFalse, List}
use Rattle.std.specs.Prelude.{slice_index_or}
use Rattle.overlay_geometry.specs.Points.{Point}
use Rattle.overlay_base.specs.Segments.{WholeSegment, pairs, are_ordered}
use Rattle.overlay_intersections.specs.MarkOf.{Mark, AreMarks}
use Rattle.overlay_intersections.specs.Marks.{settling}
use Rattle.overlay_intersections.specs.PassMarks.{is_rounded}
use Rattle.overlay_snapping.specs.Chains.{AreCutsBetween}
use Rattle.overlay_snapping.specs.CutsOf.{AreCuts}
use Rattle.overlay_snapping.proofs.laws.chains.ExactCuts.{none_decided, marks_are_cuts}
use Rattle.overlay_snapping.proofs.laws.chains.MarkLists.{pair_at}

pub exact_cuts : (segments : List WholeSegment) (marks : List Mark) → IsTrue (are_ordered segments) → IsFalse (is_rounded segments) → AreMarks settling segments marks → AreCuts segments marks
exact_cuts segments marks o h are = record {
  in_order = are.in_order;
  within = are.within;
  each = λ index d l.
      let s = (slice_index_or segments index d).pair in
      subst (λ (points : List Point). AreCutsBetween (pairs segments) s points) (sym (are.each index d l)) (marks_are_cuts segments o h s (pair_at segments index d l));
  decided = none_decided segments o h;
}
