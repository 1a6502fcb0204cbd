use Rattle.std.proofs.Common.{◌∙◌, sym, ap₂, subst, rules}
use Rattle.std.specs.Prelude.{int_lt}
use Rattle.std.specs.Int.{w64}
use Rattle.std.specs.Int.RustNames.{FitsSigned}
use Rattle.std.proofs.lemmas.Int.{to_z-of_z}
use Rattle.overlay_geometry.specs.PointOf.{point_of}
use Rattle.overlay_snapping.specs.steps.Distances.{IsSmall, turned}
use Rattle.overlay_snapping.proofs.laws.cells.Inner.{small_coordinates}
use Rattle.overlay_snapping.proofs.snap.inner_box.InnerBox.of.Goals as goal

pub turned-requires-2 : goal.turned-requires-2
turned-requires-2 g c =
    let whole = g.I.OverlayInt.whole in
    let f : FitsSigned w64 c.to_wide-last.result = search rules in
    let small = small_coordinates (whole g.I.OverlayInt.MIN_COORD) (whole g.I.OverlayInt.MAX_COORD) g.met.I.OverlayInt.lowest g.met.I.OverlayInt.highest (point_of whole c.args.segment.now.b) c.requires.in_range.b_in_range in
    rw (to_z-of_z w64 c.to_wide-last.result f, c.to_wide-last.ensures) small.1

pub invariant_of-result : goal.invariant_of-result
invariant_of-result g c =
    let whole = g.I.OverlayInt.whole in
    let first = small_coordinates (whole g.I.OverlayInt.MIN_COORD) (whole g.I.OverlayInt.MAX_COORD) g.met.I.OverlayInt.lowest g.met.I.OverlayInt.highest (point_of whole c.args.segment.now.a) c.requires.in_range.a_in_range in
    let last = small_coordinates (whole g.I.OverlayInt.MIN_COORD) (whole g.I.OverlayInt.MAX_COORD) g.met.I.OverlayInt.lowest g.met.I.OverlayInt.highest (point_of whole c.args.segment.now.b) c.requires.in_range.b_in_range in
    let left : FitsSigned w64 c.to_wide.result = search rules in
    let right : FitsSigned w64 c.to_wide-2.result = search rules in
    let start : FitsSigned w64 c.turned.result = search rules in
    let end : FitsSigned w64 c.turned-2.result = search rules in
    record {
      small = (
        subst IsSmall (sym (to_z-of_z w64 c.to_wide.result left ∙ c.to_wide.ensures)) first.0,
        subst IsSmall (sym (to_z-of_z w64 c.to_wide-2.result right ∙ c.to_wide-2.ensures)) last.0,
        subst IsSmall (sym (to_z-of_z w64 c.turned.result start)) c.turned.ensures.small,
        subst IsSmall (sym (to_z-of_z w64 c.turned-2.result end)) c.turned-2.ensures.small,
      );
    }

pub returns : goal.returns
returns g c =
    let left : FitsSigned w64 c.to_wide.result = search rules in
    let right : FitsSigned w64 c.to_wide-2.result = search rules in
    let start : FitsSigned w64 c.turned.result = search rules in
    let end : FitsSigned w64 c.turned-2.result = search rules in
    let first : FitsSigned w64 c.to_wide-first.result = search rules in
    let last : FitsSigned w64 c.to_wide-last.result = search rules in
    let is_first = to_z-of_z w64 c.to_wide-first.result first ∙ c.to_wide-first.ensures in
    let is_last = to_z-of_z w64 c.to_wide-last.result last ∙ c.to_wide-last.ensures in
    let falls = ap₂ int_lt is_last is_first in
    record {
      ordered = c.requires.ordered;
      left = to_z-of_z w64 c.to_wide.result left ∙ c.to_wide.ensures;
      right = to_z-of_z w64 c.to_wide-2.result right ∙ c.to_wide-2.ensures;
      falls = falls;
      start = to_z-of_z w64 c.turned.result start ∙ c.turned.ensures.turned ∙ ap₂ turned falls is_first;
      end = to_z-of_z w64 c.turned-2.result end ∙ c.turned-2.ensures.turned ∙ ap₂ turned falls is_last;
    }
