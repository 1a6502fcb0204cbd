use Rattle.std.proofs.Common.{◌≡◌, ◌∙◌, ap, sym, subst, refl, length, arith, rules, ℕ, Vec, Global, MutBor}
use Rattle.std.proofs.lemmas.List.{length-map}
use Rattle.std.proofs.lemmas.Result.{IfOk-from_err}
use Rattle.overlay_base.specs.EdgeData.{without_data}
use Rattle.overlay_base.specs.SegmentOf.{segment_of, segments_of, data_segment_of, data_segments_of}
use Rattle.overlay_base.specs.Choices.{in_one_row}
use Rattle.overlay_sweep.specs.Costs.{IsSweepWithin}
use Rattle.overlay_sweep.specs.LiveOf.{run_asked}
use Rattle.overlay_sweep.specs.ChainWindings.{tops_leave_range}
use Rattle.overlay_build.specs.Graph.{fills_of}
use Rattle.overlay_sweep.specs.Sweep.{visits, visits_leave_range}
use Rattle.overlay_base.proofs.laws.joins.Views.{segments_of-bare}
use Rattle.overlay_build.proofs.laws.graphs.StoredFills.{visits_all_seen, handled_writes, handled_keeps, tops_of_visits, fills_of_visits}
use Rattle.overlay_sweep.proofs.laws.visits.Handling.{refused_as}
use Rattle.overlay_sweep.specs.declared.build.fill_handler.StoreFillsHandler.{StoreFillsHandler}
use Rattle.overlay_build.proofs.build.fills.find_fills.Goals as goal

pub returns-clause-fills : goal.returns-clause-fills
returns-clause-fills g c =
    let same : without_data (data_segments_of c.args.segments.now) ≡ segments_of c.args.segments.now = sym (segments_of-bare c.args.segments.now) in
    let made : c.new-handler.result.fills.now ≡ c.resize.new.self = ap (λ (b : MutBor (Vec ℕ Global)). b.now) c.new-handler.ensures in
    let as_long : length c.new-handler.result.fills.now.items ≡ length c.resize.new.self.items = ap (λ (v : Vec ℕ Global). length v.items) made in
    let resized = c.in_ok-resize.ensures.len in
    let own = c.resize.new.self.ok.0 in
    let listed : length (data_segments_of c.args.segments.now) ≡ length c.args.segments.now = length-map c.args.segments.now data_segment_of in
    let lent : c.in_ok-run_with_fill_rule.field-0.ghost_name ≡ c.new-handler.result.fills.ghost_name =
    ap (λ (b : MutBor (Vec ℕ Global)). b.ghost_name) c.in_ok-run_with_fill_rule.ensures.answer
    ∙ handled_keeps _ (λ h v. refl) _ (λ (b : MutBor (Vec ℕ Global)). b.ghost_name) (λ (h : StoreFillsHandler). h.fills.ghost_name) (λ h. refl) (λ h v. refl) (visits c.args.fill_rule (data_segments_of c.args.segments.now)) c.new-handler.result in
    let stored : c.in_ok-run_with_fill_rule.field-0.now.items ≡ fills_of c.args.fill_rule (segments_of c.args.segments.now) =
    ap (λ (b : MutBor (Vec ℕ Global)). b.now.items) c.in_ok-run_with_fill_rule.ensures.answer
    ∙ handled_writes _ (λ h v. refl) _ (λ (b : MutBor (Vec ℕ Global)). b.now.items) (λ (h : StoreFillsHandler). h.fills.now.items) (λ h. refl) (λ h v. refl) (visits c.args.fill_rule (data_segments_of c.args.segments.now)) c.new-handler.result
    ∙ fills_of_visits c.args.fill_rule (data_segments_of c.args.segments.now) c.new-handler.result.fills.now.items (omega (arith, as_long, resized, own, listed))
    ∙ ap (fills_of c.args.fill_rule) same in
    search (lent, stored, rules)

pub returns-clause-in_range : goal.returns-clause-in_range
returns-clause-in_range g c =
    let same : without_data (data_segments_of c.args.segments.now) ≡ segments_of c.args.segments.now = sym (segments_of-bare c.args.segments.now) in
    sym (ap (visits_leave_range (segments_of c.args.segments.now)) (visits_all_seen _ (λ h v. refl) (visits c.args.fill_rule (data_segments_of c.args.segments.now)) c.new-handler.result)
    ∙ ap (λ l. visits_leave_range l (visits c.args.fill_rule (data_segments_of c.args.segments.now))) (sym same)
    ∙ tops_of_visits c.args.fill_rule (data_segments_of c.args.segments.now)
    ∙ ap tops_leave_range same)
    ∙ c.in_ok-run_with_fill_rule.ensures.in_range

pub returns-in_err-run_with_fill_rule-clause-out_of_range : goal.returns-in_err-run_with_fill_rule-clause-out_of_range
returns-in_err-run_with_fill_rule-clause-out_of_range g c =
    let same : without_data (data_segments_of c.args.segments.now) ≡ segments_of c.args.segments.now = sym (segments_of-bare c.args.segments.now) in
    refused_as c.from_residual-in_err-run_with_fill_rule.result _ _ c.from_residual-in_err-run_with_fill_rule.ensures.1
    (λ fault passed h.
    sym (ap (visits_leave_range (segments_of c.args.segments.now)) (visits_all_seen _ (λ h v. refl) (visits c.args.fill_rule (data_segments_of c.args.segments.now)) c.new-handler.result)
    ∙ ap (λ l. visits_leave_range l (visits c.args.fill_rule (data_segments_of c.args.segments.now))) (sym same)
    ∙ tops_of_visits c.args.fill_rule (data_segments_of c.args.segments.now)
    ∙ ap tops_leave_range same)
    ∙ c.in_err-run_with_fill_rule.ensures.out_of_range (sym passed ∙ h))

pub returns-clause-compared : goal.returns-clause-compared
returns-clause-compared g c =
    let within : ℕ → Type 0 = λ n. IsSweepWithin (in_one_row c.args.solver.now.strategy) n (run_asked c.run_with_fill_rule.new.self) in
    subst within (sym (length-map c.args.segments.now segment_of)) c.in_ok-run_with_fill_rule.ensures.compared

pub returns-in_err-resize-clause-fills : goal.returns-in_err-resize-clause-fills
returns-in_err-resize-clause-fills g c = IfOk-from_err c.from_residual.result _ c.from_residual.ensures.0

pub returns-in_err-resize-clause-in_range : goal.returns-in_err-resize-clause-in_range
returns-in_err-resize-clause-in_range g c = IfOk-from_err c.from_residual.result _ c.from_residual.ensures.0

pub returns-in_err-resize-clause-compared : goal.returns-in_err-resize-clause-compared
returns-in_err-resize-clause-compared g c = IfOk-from_err c.from_residual.result _ c.from_residual.ensures.0

pub returns-in_err-run_with_fill_rule-clause-fills : goal.returns-in_err-run_with_fill_rule-clause-fills
returns-in_err-run_with_fill_rule-clause-fills g c = IfOk-from_err c.from_residual-in_err-run_with_fill_rule.result _ c.from_residual-in_err-run_with_fill_rule.ensures.0

pub returns-in_err-run_with_fill_rule-clause-in_range : goal.returns-in_err-run_with_fill_rule-clause-in_range
returns-in_err-run_with_fill_rule-clause-in_range g c = IfOk-from_err c.from_residual-in_err-run_with_fill_rule.result _ c.from_residual-in_err-run_with_fill_rule.ensures.0

pub returns-in_err-run_with_fill_rule-clause-compared : goal.returns-in_err-run_with_fill_rule-clause-compared
returns-in_err-run_with_fill_rule-clause-compared g c = IfOk-from_err c.from_residual-in_err-run_with_fill_rule.result _ c.from_residual-in_err-run_with_fill_rule.ensures.0

pub run_with_fill_rule-requires-clause-arranged : goal.run_with_fill_rule-requires-clause-arranged
run_with_fill_rule-requires-clause-arranged g c = c.requires.arranged

pub run_with_fill_rule-requires-clause-takes : goal.run_with_fill_rule-requires-clause-takes
run_with_fill_rule-requires-clause-takes g c = λ i l.
    let made : c.new-handler.result.fills.now ≡ c.resize.new.self = ap (λ (b : MutBor (Vec ℕ Global)). b.now) c.new-handler.ensures in
    let as_long : length c.new-handler.result.fills.now.items ≡ length c.resize.new.self.items = ap (λ (v : Vec ℕ Global). length v.items) made in
    omega (arith, l, as_long, c.in_ok-resize.ensures.len, c.resize.new.self.ok.0)
