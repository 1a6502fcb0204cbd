use Rattle.std.proofs.Common.{◌≡◌, ◌++◌, length, string_bytes}
use Rattle.overlay_text.specs.Output.{numbers_text}
use Rattle.arrange.proofs.graph_output.write_numbers.Given as goal

abbrev pub invariant-loop-rest : goal.invariant-loop-rest
invariant-loop-rest l = string_bytes l.text ++ numbers_text l.rest ≡ string_bytes l.initial.text ++ numbers_text l.numbers

abbrev pub decreases-loop-rest : goal.decreases-loop-rest
decreases-loop-rest l = length l.rest
