use Rattle.std.proofs.Common.{to_z-of_z, ◌∙◌}
use Rattle.overlay_grid.specs.FragmentOf.{layout_of}
use Rattle.overlay_grid.proofs.laws.grid.GridSizes.{laid_out, border_fits, power_fits, mod_small, to_z_of_pos}
use Rattle.overlay_grid.proofs.split.grid_layout.GridLayout.pos.Goals as goal

pub overflow_shl-offset : goal.overflow_shl-offset
overflow_shl-offset g c =
    let l = c.args.self.now in
    power_fits _ _ (layout_of l) (laid_out (g.I.OverlayInt.whole g.I.OverlayInt.MIN_COORD) (g.I.OverlayInt.whole g.I.OverlayInt.MAX_COORD) (layout_of l) g.met.I.OverlayInt.lowest g.met.I.OverlayInt.highest l.from l.to l.order l.fits)

pub overflow_cast-offset-2 : goal.overflow_cast-offset-2
overflow_cast-offset-2 g c =
    let l = c.args.self.now in
    let o = laid_out (g.I.OverlayInt.whole g.I.OverlayInt.MIN_COORD) (g.I.OverlayInt.whole g.I.OverlayInt.MAX_COORD) (layout_of l) g.met.I.OverlayInt.lowest g.met.I.OverlayInt.highest l.from l.to l.order l.fits in
    let f = border_fits _ _ (layout_of l) c.args.index o c.requires in
    rw (mod_small _ f.small) f.signed

pub overflow_add-to_wide : goal.overflow_add-to_wide
overflow_add-to_wide g c =
    let l = c.args.self.now in
    let o = laid_out (g.I.OverlayInt.whole g.I.OverlayInt.MIN_COORD) (g.I.OverlayInt.whole g.I.OverlayInt.MAX_COORD) (layout_of l) g.met.I.OverlayInt.lowest g.met.I.OverlayInt.highest l.from l.to l.order l.fits in
    let f = border_fits _ _ (layout_of l) c.args.index o c.requires in
    let from_fits = f.from_fits in
    rw (mod_small _ f.small, c.to_wide.ensures, to_z_of_pos _ f.small) (simp to_z-of_z f.fits)

pub from_wide-requires : goal.from_wide-requires
from_wide-requires g c =
    let l = c.args.self.now in
    let o = laid_out (g.I.OverlayInt.whole g.I.OverlayInt.MIN_COORD) (g.I.OverlayInt.whole g.I.OverlayInt.MAX_COORD) (layout_of l) g.met.I.OverlayInt.lowest g.met.I.OverlayInt.highest l.from l.to l.order l.fits in
    let f = border_fits _ _ (layout_of l) c.args.index o c.requires in
    let from_fits = f.from_fits in
    let fits = f.fits in
    rw (mod_small _ f.small, c.to_wide.ensures, to_z_of_pos _ f.small) (simp to_z-of_z f.in_range)

pub returns : goal.returns
returns g c =
    let l = c.args.self.now in
    let o = laid_out (g.I.OverlayInt.whole g.I.OverlayInt.MIN_COORD) (g.I.OverlayInt.whole g.I.OverlayInt.MAX_COORD) (layout_of l) g.met.I.OverlayInt.lowest g.met.I.OverlayInt.highest l.from l.to l.order l.fits in
    let f = border_fits _ _ (layout_of l) c.args.index o c.requires in
    let from_fits = f.from_fits in
    let fits = f.fits in
    let sum = rw (mod_small _ f.small, c.to_wide.ensures, to_z_of_pos _ f.small) at c.from_wide.ensures in
    let whole = simp to_z-of_z at sum in
    whole ∙ f.value
