use Rattle.std.proofs.Common.{◌≤◌, ◌-◌, take}
use Rattle.overlay_grid.specs.FragmentOf.{fragment_of, fragments_of}
use Rattle.overlay_grid.specs.steps.FragmentFinder.{AreListed}
use Rattle.overlay_grid.proofs.split.blocks.list_meeting.Given as goal

abbrev pub invariant-loop-place : goal.invariant-loop-place
invariant-loop-place g l = record {
  few : l.count ≤ l.place - l.later;
  listed : AreListed (fragments_of g.I.OverlayInt.whole l.group) (fragment_of g.I.OverlayInt.whole l.fragment) l.later l.place (take l.count l.found);
}
