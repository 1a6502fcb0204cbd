use Rattle.std.proofs.Common.{◌∙◌, sym, subst}
use Rattle.std.specs.Prelude.{All, ◌≤ℤ◌}
use Rattle.std.proofs.lemmas.List.{take_all}
use Rattle.overlay_geometry.proofs.laws.integers.Tests.{le_itself, le_weak, lt-tested, lt-tested_false}
use Rattle.overlay_sweep.specs.EntryOf.{entry_of, entries_of}
use Rattle.overlay_upstream.proofs.laws.list.ListAnswers.{least_more}
use Rattle.overlay_upstream.proofs.build.scan_list.ScanList.first_end.Goals as goal
use Rattle.overlay_upstream.proofs.build.scan_list.ScanList.first_end.Goals.{then-not-lasts_past, else-not-lasts_past}

pub loop-entry-preserved : goal.loop-entry-preserved
loop-entry-preserved g c =
    let more = least_more entry_of c.deref-entry-items.result.now c.loop-entry.entry-index c.entry-item.result c.loop-entry-test.true c.entry-item.is (g.I.OverlayInt.whole c.loop-entry.first) in
    elim c.if-not-lasts_past.branch [
      | then-not-lasts_past w ↦ rw w.first-is (more _ c.loop-entry.invariant (lt-tested_false _ _ (sym c.lasts_past.ensures ∙ w.if-not-lasts_past.true)) (le_itself _))
      | else-not-lasts_past w ↦ rw w.first-is (more _ c.loop-entry.invariant (le_itself _) (le_weak _ _ (lt-tested _ _ (sym c.lasts_past.ensures ∙ w.if-not-lasts_past.false))))
    ]

pub returns : goal.returns
returns g c =
    let all = take_all c.loop-entry.entry-index c.deref-entry-items.result.now c.loop-entry-test.false in
    subst (λ l. All (λ s. g.I.OverlayInt.whole c.loop-entry.first ≤ℤ s.pair.b.x) (entries_of l)) (all ∙ c.deref-entry-items.ensures.value) c.loop-entry.invariant
