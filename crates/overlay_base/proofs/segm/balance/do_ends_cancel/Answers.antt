use Rattle.std.proofs.Common.{rules, sym, ap, ◌∙◌, arith, refl, FitsSigned, w64, false}
use Rattle.std.proofs.lemmas.Int.{ints}
use Rattle.std.proofs.lemmas.Bool.{both_ways}
use Rattle.overlay_geometry.specs.PointOf.{point_of}
use Rattle.overlay_base.specs.EndCountOf.{end_count_of, end_counts_of}
use Rattle.overlay_base.proofs.laws.joins.Rests.{rest-more, rest-none}
use Rattle.overlay_base.proofs.laws.rays.BalanceWalks.{started, none_given, IsWalked-more, IsWalked-next, left_over, left_at_end, nothing_left}
use Rattle.overlay_base.proofs.segm.balance.do_ends_cancel.Goals as goal
use Rattle.overlay_base.proofs.segm.balance.do_ends_cancel.Goals.{then-not-is_at+else-not-are_nothing, else-not-is_at}

pub returns-in_default : goal.returns-in_default
returns-in_default g c = (λ _. none_given g.I.OverlayInt.whole c.args.ends.now c.in_default.ensures.value, λ _. refl)

pub loop-end-init : goal.loop-end-init
loop-end-init g c =
    record {
      walked = started g.I.OverlayInt.whole c.args.ends.now c.in-Some.first.now c.in-Some.ensures.value c.requires;
      subj_above = search rules;
      subj_below = search rules;
      clip_above = search rules;
      clip_below = search rules;
    }

pub loop-end-preserved : goal.loop-end-preserved
loop-end-preserved g c =
    let whole = g.I.OverlayInt.whole in
    let all = end_counts_of whole c.args.ends.now in
    let next = rest-more (λ e. end_count_of whole e) c.args.ends.now c.loop-end.end-index c.end-item.result c.loop-end-test.true c.end-item.is in
    let w = rw next at c.loop-end.invariant.walked in
    let subj_fits : FitsSigned w64 c.end-item.result.subj = search rules in
    let clip_fits : FitsSigned w64 c.end-item.result.clip = search rules in
    record {
      walked = elim c.if-not-is_at.branch [
        | then-not-is_at+else-not-are_nothing b ↦ IsWalked-next all _ _ _ _ _ _ _ _ _ _ w (b.are_nothing.ensures.0 b.if-not-are_nothing.false).0 (b.are_nothing.ensures.0 b.if-not-are_nothing.false).1 (ap (point_of whole) b.point-is) (omega (arith, ints)) (omega (arith, ints))
        | else-not-is_at b ↦ IsWalked-more all _ _ _ _ _ _ _ _ _ _ w (sym c.is_at.ensures ∙ b.if-not-is_at.false) (ap (point_of whole) b.point-is) (omega (arith, ints)) (omega (arith, ints))
      ];
      subj_above = omega (arith, ints);
      subj_below = omega (arith, ints);
      clip_above = omega (arith, ints);
      clip_below = omega (arith, ints);
    }

pub returns-then-not-are_nothing : goal.returns-then-not-are_nothing
returns-then-not-are_nothing g c =
    let whole = g.I.OverlayInt.whole in
    let next = rest-more (λ e. end_count_of whole e) c.args.ends.now c.loop-end.end-index c.end-item.result c.loop-end-test.true c.end-item.is in
    let w = rw next at c.loop-end.invariant.walked in
    (λ h. absurd (both_ways false refl h), λ none. sym c.if-not-are_nothing.true ∙ c.are_nothing.ensures.1 (left_over _ _ _ _ _ _ _ _ w (sym c.is_at.ensures ∙ c.if-not-is_at.true) none))

pub returns : goal.returns
returns g c =
    let whole = g.I.OverlayInt.whole in
    let end = rest-none (λ e. end_count_of whole e) c.args.ends.now c.loop-end.end-index c.loop-end-test.false in
    let w = rw end at c.loop-end.invariant.walked in
    (λ h. let parts = c.are_nothing-2.ensures.0 h in nothing_left _ _ _ _ w parts.0 parts.1, λ none. c.are_nothing-2.ensures.1 (left_at_end _ _ _ _ w none))
