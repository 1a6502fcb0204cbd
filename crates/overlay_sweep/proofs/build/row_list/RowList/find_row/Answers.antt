use Rattle.std.proofs.Common.{◌≡◌, sym, subst, arith, ℕ, length}
use Rattle.std.specs.Prelude.{◌+◌, ◌-◌, ◌/◌, ◌^◌, ◌<◌, ◌≤◌}
use Rattle.std.proofs.lemmas.List.{length-map}
use Rattle.overlay_sweep.specs.LiveOf.{row_sums, rows_in}
use Rattle.overlay_sweep.specs.steps.PlaceOf.{stands_before}
use Rattle.overlay_sweep.specs.steps.Rows.{IsTrimmed}
use Rattle.overlay_sweep.proofs.laws.list.Halves.{IsCounting, counting_begins, counts_one, counting_without, counting_half}
use Rattle.overlay_sweep.proofs.laws.list.Rows.{finding_begins, finding_up, finding_down, finding_without, found_above}
use Rattle.overlay_sweep.proofs.build.row_list.RowList.find_row.Goals as goal

pub loop-low-init : goal.loop-low-init
loop-low-init g c =
    let many = length-map c.args.self.now.rows.items (λ r. row_sums r) in
    let whole : c.len-high.result ≡ length (rows_in c.args.self.now) = omega (arith, many, c.len-high.ensures, c.args.self.now.rows.ok.0) in
    record { finding = finding_begins _ _ (rows_in c.args.self.now) _ c.requires.some whole; counting = counting_begins _ _ _ (omega (arith, whole)) c.requires.none }

pub ask_last-requires-clause-within : goal.ask_last-requires-clause-within
ask_last-requires-clause-within g c = omega (arith, c.loop-low.invariant.finding.within, c.loop-low-test.true)

pub loop-low-preserved-in-None : goal.loop-low-preserved-in-None
loop-low-preserved-in-None g c =
    let s = c.loop-low.invariant in
    let old = rows_in c.args.self.now in
    let low = c.loop-low.low in
    let high = c.loop-low.high in
    let middle : ℕ = low + (high - low) / 2 in
    let over : low ≤ middle = omega arith in
    let under : middle < high = omega (arith, c.loop-low-test.true) in
    let short : length old < 2 ^ 64 = omega (arith, length-map c.args.self.now.rows.items (λ r. row_sums r), c.args.self.now.rows.ok.0, c.args.self.now.rows.small) in
    record {
      finding = finding_without _ _ old (rows_in c.loop-low.self) _ low high middle s.finding over under c.in-None.ensures.dropped;
      counting = subst (λ n. IsCounting (length old) (high - 1 - low) n) (sym c.in-None.ensures.none_asked) (counting_without _ _ _ s.counting _ (omega arith));
    }

pub loop-low-preserved-in-Some-true : goal.loop-low-preserved-in-Some-true
loop-low-preserved-in-Some-true g c =
    let s = c.loop-low.invariant in
    let old = rows_in c.args.self.now in
    let low = c.loop-low.low in
    let high = c.loop-low.high in
    let middle : ℕ = low + (high - low) / 2 in
    let over : low ≤ middle = omega arith in
    let under : middle < high = omega (arith, c.loop-low-test.true) in
    let short : length old < 2 ^ 64 = omega (arith, length-map c.args.self.now.rows.items (λ r. row_sums r), c.args.self.now.rows.ok.0, c.args.self.now.rows.small) in
    let trimmed = subst (λ b. IsTrimmed (g.I.OverlayInt.whole c.args.x) (λ s. stands_before g.I.OverlayInt.whole c.args.place.now s.pair) b middle (rows_in c.loop-low.self) (rows_in c.ask_last.new.self)) c.in-Some-true.field-0-test c.in-Some-true.ensures.trimmed in
    record {
      finding = finding_up _ _ old (rows_in c.loop-low.self) _ low high middle s.finding over under trimmed;
      counting = counting_half _ _ _ s.counting (omega (arith, c.loop-low-test.true)) _ (counts_one _ _ _ s.counting short _ c.in-Some-true.ensures.asked) _ (omega (arith, c.loop-low-test.true));
    }

pub loop-low-preserved : goal.loop-low-preserved
loop-low-preserved g c =
    let s = c.loop-low.invariant in
    let old = rows_in c.args.self.now in
    let low = c.loop-low.low in
    let high = c.loop-low.high in
    let middle : ℕ = low + (high - low) / 2 in
    let over : low ≤ middle = omega arith in
    let under : middle < high = omega (arith, c.loop-low-test.true) in
    let short : length old < 2 ^ 64 = omega (arith, length-map c.args.self.now.rows.items (λ r. row_sums r), c.args.self.now.rows.ok.0, c.args.self.now.rows.small) in
    let trimmed = subst (λ b. IsTrimmed (g.I.OverlayInt.whole c.args.x) (λ s. stands_before g.I.OverlayInt.whole c.args.place.now s.pair) b middle (rows_in c.loop-low.self) (rows_in c.ask_last.new.self)) c.in-Some-false.field-0-test c.in-Some-false.ensures.trimmed in
    record {
      finding = finding_down _ _ old (rows_in c.loop-low.self) _ low high middle s.finding over under trimmed;
      counting = counting_half _ _ _ s.counting (omega (arith, c.loop-low-test.true)) _ (counts_one _ _ _ s.counting short _ c.in-Some-false.ensures.asked) _ (omega (arith, c.loop-low-test.true));
    }

pub returns-clause-keeps : goal.returns-clause-keeps
returns-clause-keeps g c = c.loop-low.invariant.finding.keeps

pub returns-clause-some : goal.returns-clause-some
returns-clause-some g c = c.loop-low.invariant.finding.some

pub returns-clause-within : goal.returns-clause-within
returns-clause-within g c = omega (arith, c.loop-low.invariant.finding.order, c.loop-low.invariant.finding.within)

pub returns-clause-below : goal.returns-clause-below
returns-clause-below g c = c.loop-low.invariant.finding.below

pub returns-clause-above : goal.returns-clause-above
returns-clause-above g c = found_above _ _ _ _ _ _ c.loop-low.invariant.finding (omega (arith, c.loop-low-test.false))

pub returns-clause-paid : goal.returns-clause-paid
returns-clause-paid g c = c.loop-low.invariant.finding.paid

pub returns-clause-few : goal.returns-clause-few
returns-clause-few g c = c.loop-low.invariant.counting.few
