use Rattle.std.proofs.Common.{◌≡◌, ◌+◌, ◌*◌, ◌≤◌, drop, length}
use Rattle.std.specs.Str.{IsUtf8}
use Rattle.overlay_text.specs.Output.{numbers_text}
use Rattle.arrange.proofs.graph_output.write_few_numbers.Given as goal

abbrev pub invariant-loop-left : goal.invariant-loop-left
invariant-loop-left l =
    (l.left ≤ length l.numbers) × (l.begin ≤ 160) × (160 + 21 * l.left ≤ l.begin + 21 * length l.numbers)
    × (drop l.begin l.room ≡ numbers_text (drop l.left l.numbers)) × IsUtf8 (drop l.begin l.room)

abbrev pub decreases-loop-left : goal.decreases-loop-left
decreases-loop-left l = l.left
