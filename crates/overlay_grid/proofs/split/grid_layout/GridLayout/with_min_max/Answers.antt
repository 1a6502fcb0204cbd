use Rattle.std.proofs.Common.{to_z-of_z, refl}
use Rattle.overlay_grid.proofs.laws.grid.GridSizes.{spread_fits, from_wide_spread}
use Rattle.overlay_grid.proofs.split.grid_layout.GridLayout.with_min_max.Goals as goal

pub invariant_of-result-clause-order : goal.invariant_of-result-clause-order
invariant_of-result-clause-order g c =
    let f = spread_fits (g.I.OverlayInt.whole g.I.OverlayInt.MIN_COORD) (g.I.OverlayInt.whole g.I.OverlayInt.MAX_COORD) (g.I.OverlayInt.whole c.args.min_x) (g.I.OverlayInt.whole c.args.max_x) g.met.I.OverlayInt.lowest g.met.I.OverlayInt.highest c.requires.from c.requires.to in
    let a_fits = f.a_fits in
    let b_fits = f.b_fits in
    let fits = f.fits in
    let wide = simp to_z-of_z at (rw (c.to_wide.ensures, c.to_wide-2.ensures) at c.if-spread-lt4.false) in
    (from_wide_spread (g.I.OverlayInt.whole c.args.min_x) (g.I.OverlayInt.whole c.args.max_x) wide).0

pub invariant_of-result-clause-fits : goal.invariant_of-result-clause-fits
invariant_of-result-clause-fits g c =
    let f = spread_fits (g.I.OverlayInt.whole g.I.OverlayInt.MIN_COORD) (g.I.OverlayInt.whole g.I.OverlayInt.MAX_COORD) (g.I.OverlayInt.whole c.args.min_x) (g.I.OverlayInt.whole c.args.max_x) g.met.I.OverlayInt.lowest g.met.I.OverlayInt.highest c.requires.from c.requires.to in
    let a_fits = f.a_fits in
    let b_fits = f.b_fits in
    let fits = f.fits in
    simp to_z-of_z at (rw (c.to_wide.ensures, c.to_wide-2.ensures) at c.column_power-power.ensures.fits)

pub returns-clause-layout : goal.returns-clause-layout
returns-clause-layout g c =
    let f = spread_fits (g.I.OverlayInt.whole g.I.OverlayInt.MIN_COORD) (g.I.OverlayInt.whole g.I.OverlayInt.MAX_COORD) (g.I.OverlayInt.whole c.args.min_x) (g.I.OverlayInt.whole c.args.max_x) g.met.I.OverlayInt.lowest g.met.I.OverlayInt.highest c.requires.from c.requires.to in
    let a_fits = f.a_fits in
    let b_fits = f.b_fits in
    let fits = f.fits in
    let wide = simp to_z-of_z at (rw (c.to_wide.ensures, c.to_wide-2.ensures) at c.if-spread-lt4.false) in
    record { left = refl; right = refl; wide = (from_wide_spread (g.I.OverlayInt.whole c.args.min_x) (g.I.OverlayInt.whole c.args.max_x) wide).1; power = simp to_z-of_z at (rw (c.to_wide.ensures, c.to_wide-2.ensures) at c.column_power-power.ensures.power) }
