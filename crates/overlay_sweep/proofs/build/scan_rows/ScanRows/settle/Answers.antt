use Rattle.std.proofs.Common.{arith}
use Rattle.std.proofs.lemmas.Result.{IfOk-from_err}
use Rattle.overlay_sweep.proofs.laws.list.Rows.{one_search}
use Rattle.overlay_sweep.proofs.build.scan_rows.ScanRows.settle.Goals as goal

pub returns-then-fits_cursor-clause-position : goal.returns-then-fits_cursor-clause-position
returns-then-fits_cursor-clause-position g c = c.fits_cursor.ensures.position (g.I.OverlayInt.whole c.args.x) c.if-fits_cursor.true c.requires.time c.requires.start c.requires.wide c.requires.free

pub returns-then-fits_cursor-clause-few : goal.returns-then-fits_cursor-clause-few
returns-then-fits_cursor-clause-few g c = λ d high. let one = one_search _ d high in omega (arith, one, c.fits_cursor.ensures.one)

pub returns-then-asked-eq0-clause-position : goal.returns-then-asked-eq0-clause-position
returns-then-asked-eq0-clause-position g c = c.search-spot.ensures.position

pub returns-clause-position : goal.returns-clause-position
returns-clause-position g c = c.in_ok-spot.ensures.position

pub returns-clause-few : goal.returns-clause-few
returns-clause-few g c = λ d high. let pays = c.in_ok-spot.ensures.few d high in omega (arith, pays, c.fits_cursor.ensures.one, c.saturating_add-self.ensures)

pub returns-then-asked-eq0-clause-keeps : goal.returns-then-asked-eq0-clause-keeps
returns-then-asked-eq0-clause-keeps g c = c.search-spot.ensures.keeps

pub returns-then-asked-eq0-clause-index : goal.returns-then-asked-eq0-clause-index
returns-then-asked-eq0-clause-index g c = c.search-spot.ensures.index

pub returns-in_err-spot-clause-keeps : goal.returns-in_err-spot-clause-keeps
returns-in_err-spot-clause-keeps g c = IfOk-from_err c.from_residual.result _ c.from_residual.ensures.0

pub returns-in_err-spot-clause-some : goal.returns-in_err-spot-clause-some
returns-in_err-spot-clause-some g c = IfOk-from_err c.from_residual.result _ c.from_residual.ensures.0

pub returns-in_err-spot-clause-index : goal.returns-in_err-spot-clause-index
returns-in_err-spot-clause-index g c = IfOk-from_err c.from_residual.result _ c.from_residual.ensures.0

pub returns-in_err-spot-clause-position : goal.returns-in_err-spot-clause-position
returns-in_err-spot-clause-position g c = IfOk-from_err c.from_residual.result _ c.from_residual.ensures.0

pub returns-in_err-spot-clause-cursor : goal.returns-in_err-spot-clause-cursor
returns-in_err-spot-clause-cursor g c = IfOk-from_err c.from_residual.result _ c.from_residual.ensures.0

pub returns-in_err-spot-clause-few : goal.returns-in_err-spot-clause-few
returns-in_err-spot-clause-few g c = IfOk-from_err c.from_residual.result _ c.from_residual.ensures.0

pub returns-clause-keeps : goal.returns-clause-keeps
returns-clause-keeps g c = c.in_ok-spot.ensures.keeps

pub returns-clause-some : goal.returns-clause-some
returns-clause-some g c = c.in_ok-spot.ensures.some

pub returns-clause-index : goal.returns-clause-index
returns-clause-index g c = c.in_ok-spot.ensures.index

pub returns-then-asked-eq0-clause-cursor : goal.returns-then-asked-eq0-clause-cursor
returns-then-asked-eq0-clause-cursor g c = λ h. absurd (grind (arith, h))

pub returns-clause-cursor : goal.returns-clause-cursor
returns-clause-cursor g c = λ h. absurd (grind (arith, h))
