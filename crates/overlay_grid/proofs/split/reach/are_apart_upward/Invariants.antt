use Rattle.overlay_grid.proofs.laws.grid.ApartGroups.{AreAbove}
use Rattle.overlay_grid.proofs.split.reach.are_apart_upward.Given as goal

abbrev pub invariant-loop-place : goal.invariant-loop-place
invariant-loop-place g l = AreAbove g.I.OverlayInt.whole l.place l.group
