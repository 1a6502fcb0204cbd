use Rattle.std.proofs.Common.{to_z-of_z}
use Rattle.overlay_grid.specs.FragmentOf.{layout_of}
use Rattle.overlay_grid.proofs.laws.grid.GridSizes.{laid_out, offset_fits, power_fits, cast_fits}
use Rattle.overlay_grid.proofs.split.grid_layout.GridLayout.index.Goals as goal
use Rattle.overlay_geometry.proofs.laws.geometry.Polynomials.{difference-nonneg}

pub overflow_cast-offset : goal.overflow_cast-offset
overflow_cast-offset g c =
    let l = c.args.self.now in
    let o = laid_out (g.I.OverlayInt.whole g.I.OverlayInt.MIN_COORD) (g.I.OverlayInt.whole g.I.OverlayInt.MAX_COORD) (layout_of l) g.met.I.OverlayInt.lowest g.met.I.OverlayInt.highest l.from l.to l.order l.fits in
    let f = offset_fits _ _ (layout_of l) (g.I.OverlayInt.whole c.args.x) o c.requires.from c.requires.to in
    let x_fits = f.x_fits in
    let from_fits = f.from_fits in
    let fits = f.fits in
    rw (c.to_wide.ensures, c.to_wide-2.ensures) (simp to_z-of_z (cast_fits _ (difference-nonneg _ _ c.requires.from) f.bound))

pub overflow_shr-result : goal.overflow_shr-result
overflow_shr-result g c =
    let l = c.args.self.now in
    power_fits _ _ (layout_of l) (laid_out (g.I.OverlayInt.whole g.I.OverlayInt.MIN_COORD) (g.I.OverlayInt.whole g.I.OverlayInt.MAX_COORD) (layout_of l) g.met.I.OverlayInt.lowest g.met.I.OverlayInt.highest l.from l.to l.order l.fits)

pub returns : goal.returns
returns g c =
    let l = c.args.self.now in
    let o = laid_out (g.I.OverlayInt.whole g.I.OverlayInt.MIN_COORD) (g.I.OverlayInt.whole g.I.OverlayInt.MAX_COORD) (layout_of l) g.met.I.OverlayInt.lowest g.met.I.OverlayInt.highest l.from l.to l.order l.fits in
    let f = offset_fits _ _ (layout_of l) (g.I.OverlayInt.whole c.args.x) o c.requires.from c.requires.to in
    let x_fits = f.x_fits in
    let from_fits = f.from_fits in
    let fits = f.fits in
    rw (c.to_wide.ensures, c.to_wide-2.ensures) (simp to_z-of_z)
