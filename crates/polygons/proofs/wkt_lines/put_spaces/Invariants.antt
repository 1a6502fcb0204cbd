use Rattle.std.proofs.Common.{◌≡◌, take, flat_map}
use Rattle.polygons.specs.Wkt.{spaced_byte}
use Rattle.polygons.proofs.wkt_lines.put_spaces.Given as goal

abbrev pub invariant-loop-byte : goal.invariant-loop-byte
invariant-loop-byte l = l.spaced.items ≡ flat_map spaced_byte (take l.byte-index l.line)
