use Rattle.std.proofs.Common.{arith}
use Rattle.std.specs.Prelude.{◌+◌, ◌≤◌}
use Rattle.overlay_sweep.proofs.laws.visits.LookCosts.{search_pays}
use Rattle.overlay_sweep.proofs.laws.list.Cursors.{few_most}
use Rattle.overlay_sweep.proofs.build.scan_row.ScanRow.settle.Goals as goal

pub returns-clause-most : goal.returns-clause-most
returns-clause-most g c = λ d h.
    let few = few_most c.search-position.new.compared _ _ c.args.asked d c.search-position.ensures.few c.requires.room c.requires.one h in
    let adds : c.saturating_add-self.result ≤ c.search-position.new.compared + c.args.asked = omega (arith, c.saturating_add-self.ensures) in
    search_pays _ _ _ d (omega (arith, few, adds)) c.search-position.ensures.fewer
