use Rattle.std.proofs.Common.{to_z-of_z, ◌∙◌, subst, sym, FitsSigned, w64}
use Rattle.std.specs.Prelude.{ℤ, pos, ◌-ℤ◌, ◌+ℤ◌}
use Rattle.overlay_geometry.specs.PairOf.{pair_of}
use Rattle.overlay_geometry.proofs.laws.geometry.Coordinates.{point_parts, coordinate_fits}
use Rattle.overlay_grid.proofs.laws.grid.GridSizes.{to_z_of_pos}
use Rattle.overlay_grid.proofs.laws.grid.GridRises.{moved_fits, moved_down, moved_up, less_from, not_less_from}
use Rattle.overlay_grid.proofs.split.rise.moved.Goals as goal

pub from_wide-requires : goal.from_wide-requires
from_wide-requires g c =
    let low = g.I.OverlayInt.whole g.I.OverlayInt.MIN_COORD in
    let high = g.I.OverlayInt.whole g.I.OverlayInt.MAX_COORD in
    let s = pair_of g.I.OverlayInt.whole c.args.segment.now in
    let a = (point_parts low high s.a c.requires.in_range.a_in_range).1 in
    let b = (point_parts low high s.b c.requires.in_range.b_in_range).1 in
    let f = moved_fits low high s c.args.amount g.met.I.OverlayInt.lowest g.met.I.OverlayInt.highest a b c.requires.amount in
    let from_fits = f.from_fits in
    let to_fits = coordinate_fits low high s.b.y g.met.I.OverlayInt.lowest g.met.I.OverlayInt.highest b in
    let falls = less_from s.b.y s.a.y (simp to_z-of_z at (rw (c.to_wide-from.ensures, c.to_wide-to.ensures) at c.if-to-from.true)) in
    let fits : FitsSigned w64 (s.a.y -ℤ pos c.args.amount) = subst (λ (z : ℤ). FitsSigned w64 z) (sym (moved_down s c.args.amount falls)) f.fits in
    rw (c.to_wide-from.ensures, to_z_of_pos _ f.small) (simp to_z-of_z (rw (moved_down s c.args.amount falls) f.in_range))

pub returns-then-to-from : goal.returns-then-to-from
returns-then-to-from g c =
    let low = g.I.OverlayInt.whole g.I.OverlayInt.MIN_COORD in
    let high = g.I.OverlayInt.whole g.I.OverlayInt.MAX_COORD in
    let s = pair_of g.I.OverlayInt.whole c.args.segment.now in
    let a = (point_parts low high s.a c.requires.in_range.a_in_range).1 in
    let b = (point_parts low high s.b c.requires.in_range.b_in_range).1 in
    let f = moved_fits low high s c.args.amount g.met.I.OverlayInt.lowest g.met.I.OverlayInt.highest a b c.requires.amount in
    let from_fits = f.from_fits in
    let to_fits = coordinate_fits low high s.b.y g.met.I.OverlayInt.lowest g.met.I.OverlayInt.highest b in
    let falls = less_from s.b.y s.a.y (simp to_z-of_z at (rw (c.to_wide-from.ensures, c.to_wide-to.ensures) at c.if-to-from.true)) in
    let fits : FitsSigned w64 (s.a.y -ℤ pos c.args.amount) = subst (λ (z : ℤ). FitsSigned w64 z) (sym (moved_down s c.args.amount falls)) f.fits in
    let moved = simp to_z-of_z at (rw (c.to_wide-from.ensures, to_z_of_pos _ f.small) at c.from_wide.ensures) in
    moved ∙ moved_down s c.args.amount falls

pub overflow_add-from : goal.overflow_add-from
overflow_add-from g c =
    let low = g.I.OverlayInt.whole g.I.OverlayInt.MIN_COORD in
    let high = g.I.OverlayInt.whole g.I.OverlayInt.MAX_COORD in
    let s = pair_of g.I.OverlayInt.whole c.args.segment.now in
    let a = (point_parts low high s.a c.requires.in_range.a_in_range).1 in
    let b = (point_parts low high s.b c.requires.in_range.b_in_range).1 in
    let f = moved_fits low high s c.args.amount g.met.I.OverlayInt.lowest g.met.I.OverlayInt.highest a b c.requires.amount in
    let from_fits = f.from_fits in
    let to_fits = coordinate_fits low high s.b.y g.met.I.OverlayInt.lowest g.met.I.OverlayInt.highest b in
    let climbs = not_less_from s.b.y s.a.y (simp to_z-of_z at (rw (c.to_wide-from.ensures, c.to_wide-to.ensures) at c.if-to-from.false)) in
    let fits : FitsSigned w64 (s.a.y +ℤ pos c.args.amount) = subst (λ (z : ℤ). FitsSigned w64 z) (sym (moved_up s c.args.amount climbs)) f.fits in
    rw (c.to_wide-from.ensures, to_z_of_pos _ f.small) (simp to_z-of_z fits)

pub from_wide-requires-else-to-from : goal.from_wide-requires-else-to-from
from_wide-requires-else-to-from g c =
    let low = g.I.OverlayInt.whole g.I.OverlayInt.MIN_COORD in
    let high = g.I.OverlayInt.whole g.I.OverlayInt.MAX_COORD in
    let s = pair_of g.I.OverlayInt.whole c.args.segment.now in
    let a = (point_parts low high s.a c.requires.in_range.a_in_range).1 in
    let b = (point_parts low high s.b c.requires.in_range.b_in_range).1 in
    let f = moved_fits low high s c.args.amount g.met.I.OverlayInt.lowest g.met.I.OverlayInt.highest a b c.requires.amount in
    let from_fits = f.from_fits in
    let to_fits = coordinate_fits low high s.b.y g.met.I.OverlayInt.lowest g.met.I.OverlayInt.highest b in
    let climbs = not_less_from s.b.y s.a.y (simp to_z-of_z at (rw (c.to_wide-from.ensures, c.to_wide-to.ensures) at c.if-to-from.false)) in
    let fits : FitsSigned w64 (s.a.y +ℤ pos c.args.amount) = subst (λ (z : ℤ). FitsSigned w64 z) (sym (moved_up s c.args.amount climbs)) f.fits in
    rw (c.to_wide-from.ensures, to_z_of_pos _ f.small) (simp to_z-of_z (rw (moved_up s c.args.amount climbs) f.in_range))

pub returns-else-to-from : goal.returns-else-to-from
returns-else-to-from g c =
    let low = g.I.OverlayInt.whole g.I.OverlayInt.MIN_COORD in
    let high = g.I.OverlayInt.whole g.I.OverlayInt.MAX_COORD in
    let s = pair_of g.I.OverlayInt.whole c.args.segment.now in
    let a = (point_parts low high s.a c.requires.in_range.a_in_range).1 in
    let b = (point_parts low high s.b c.requires.in_range.b_in_range).1 in
    let f = moved_fits low high s c.args.amount g.met.I.OverlayInt.lowest g.met.I.OverlayInt.highest a b c.requires.amount in
    let from_fits = f.from_fits in
    let to_fits = coordinate_fits low high s.b.y g.met.I.OverlayInt.lowest g.met.I.OverlayInt.highest b in
    let climbs = not_less_from s.b.y s.a.y (simp to_z-of_z at (rw (c.to_wide-from.ensures, c.to_wide-to.ensures) at c.if-to-from.false)) in
    let fits : FitsSigned w64 (s.a.y +ℤ pos c.args.amount) = subst (λ (z : ℤ). FitsSigned w64 z) (sym (moved_up s c.args.amount climbs)) f.fits in
    let moved = simp to_z-of_z at (rw (c.to_wide-from.ensures, to_z_of_pos _ f.small) at c.from_wide-else-to-from.ensures) in
    moved ∙ moved_up s c.args.amount climbs

pub overflow_cast-amount : goal.overflow_cast-amount
overflow_cast-amount g c =
    let low = g.I.OverlayInt.whole g.I.OverlayInt.MIN_COORD in
    let high = g.I.OverlayInt.whole g.I.OverlayInt.MAX_COORD in
    let s = pair_of g.I.OverlayInt.whole c.args.segment.now in
    let a = (point_parts low high s.a c.requires.in_range.a_in_range).1 in
    let b = (point_parts low high s.b c.requires.in_range.b_in_range).1 in
    let f = moved_fits low high s c.args.amount g.met.I.OverlayInt.lowest g.met.I.OverlayInt.highest a b c.requires.amount in
    record { sfits = f.small }

pub overflow_sub-from : goal.overflow_sub-from
overflow_sub-from g c =
    let low = g.I.OverlayInt.whole g.I.OverlayInt.MIN_COORD in
    let high = g.I.OverlayInt.whole g.I.OverlayInt.MAX_COORD in
    let s = pair_of g.I.OverlayInt.whole c.args.segment.now in
    let a = (point_parts low high s.a c.requires.in_range.a_in_range).1 in
    let b = (point_parts low high s.b c.requires.in_range.b_in_range).1 in
    let f = moved_fits low high s c.args.amount g.met.I.OverlayInt.lowest g.met.I.OverlayInt.highest a b c.requires.amount in
    let from_fits = f.from_fits in
    let to_fits = coordinate_fits low high s.b.y g.met.I.OverlayInt.lowest g.met.I.OverlayInt.highest b in
    let falls = less_from s.b.y s.a.y (simp to_z-of_z at (rw (c.to_wide-from.ensures, c.to_wide-to.ensures) at c.if-to-from.true)) in
    let fits : FitsSigned w64 (s.a.y -ℤ pos c.args.amount) = subst (λ (z : ℤ). FitsSigned w64 z) (sym (moved_down s c.args.amount falls)) f.fits in
    rw (c.to_wide-from.ensures, to_z_of_pos _ f.small) (simp to_z-of_z fits)
