-- An arrangement of contours that calls leave as it is, and what they report of it.
use Rattle.std.proofs.Common.{◌≡◌, sym, subst, ◌∙◌, ℕ, List}
use Rattle.std.proofs.Math.Logic.{∥∥₁_map}
use Rattle.std.specs.Prelude.{Result, IfErr}
use Rattle.std.specs.Result.{IsErrAnd}
use Rattle.overlay_geometry.specs.Points.{Point}
use Rattle.overlay_base.specs.SegmentOf.{segments_of}
use Rattle.overlay_base.specs.declared.overlay_core.fill_rule.FillRule.{FillRule}
use Rattle.overlay_base.specs.declared.segm.fault.Fault.{Fault}
use Rattle.overlay_base.specs.declared.segm.fault.Fault.TheVariants.{Memory}
use Rattle.overlay_contours.specs.Arrangements.{IsOfContours, IsOfSome, KeepsArranged}
use Rattle.overlay_contours.specs.Beyond.{AreOfSplitting}
use Rattle.overlay_contours.specs.Refusals.{IsReason}
use Rattle.overlay_contours.specs.Splittings.{Splitting}
use Rattle.overlay_contours.specs.declared.arranged.Arranged.{Arranged}
use Rattle.overlay_contours.proofs.laws.Overlays.{refused_as}

module _ (splitting : Splitting) (fill_rule : FillRule) (subject clip : List (List Point)) {I : Type 0} {w : _} {o : _} {e : _} {p : _} (before after : Arranged I w o e p) (kept : KeepsArranged before after) (is : IsOfContours splitting fill_rule subject clip before) where
  pub stays_of : IsOfContours splitting fill_rule subject clip after
  stays_of = record {
    rule = kept.0 ∙ is.rule;
    arrangement = rw (kept.1, kept.3, kept.4) is.arrangement;
    in_range = rw kept.1 is.in_range;
    fills = rw (kept.2, kept.1) is.fills;
  }

  pub split_report : AreOfSplitting splitting subject clip after.passes after.reach
  split_report = (segments_of after.sides.items, stays_of.arrangement.left)

pub stay_known : {I : Type 0} {w : _} {o : _} {e : _} {p : _} (before after : Arranged I w o e p) → KeepsArranged before after → IsOfSome before → IsOfSome after
stay_known before after kept known = ∥∥₁_map known (λ is. (is.0, is.1, is.2, is.3, stays_of is.0 is.1 is.2 is.3 before after kept is.4))

pub no_memory : {T : Type 0} (result : Result T Fault) (splitting : Splitting) (subject clip : List (List Point)) (fault : Fault) → IsErrAnd result (λ refused. refused ≡ fault) → fault ≡ Memory → IfErr result (IsReason splitting subject clip)
no_memory result splitting subject clip fault refused is = refused_as result (IsReason splitting subject clip) fault refused (subst (IsReason splitting subject clip) (sym is) tt)
