use Rattle.i_overlay.specs.SplitterOf.{rounding_in}
use Rattle.i_overlay.proofs.laws.GatheredNumbers.{looks_again}
use Rattle.i_overlay.proofs.line_numbers.LineNumbers.split_with_enough_room.Goals as goal

pub returns-then-branch-2-clause-looked : goal.returns-then-branch-2-clause-looked
returns-then-branch-2-clause-looked g c =
    let first = c.split_in_room.new.splitter in
    let set = c.split_in_room.ensures.settings in
    let same = c.in_ok-split_in_room.ensures.stays c.if-branch.false in
    looks_again (rounding_in c.args.splitter.now) (rounding_in first) set.0 c.args.solver.now c.args.splitter.now.splitter first.splitter c.split_in_room-2.new.splitter.splitter set.1 c.split_in_room.new.segments c.args.segments.now same c.in_ok-split_in_room-2.ensures.looked
