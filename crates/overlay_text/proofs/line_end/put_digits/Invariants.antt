use Rattle.std.proofs.Common.{◌+◌, ◌≡◌, ◌≤◌, ◌++◌, length, drop}
use Rattle.std.specs.Fmt.{decimal}
use Rattle.overlay_text.proofs.line_end.put_digits.Given as goal

abbrev pub invariant-loop-left : goal.invariant-loop-left
invariant-loop-left l =
    (length (decimal l.left) ≤ l.begin) × (l.begin ≤ l.end) × (l.begin + length (decimal l.number) ≡ l.end + length (decimal l.left))
    × (decimal l.left ++ drop l.begin l.room ≡ decimal l.number ++ drop l.end l.fn.room)

abbrev pub decreases-loop-left : goal.decreases-loop-left
decreases-loop-left l = l.left
