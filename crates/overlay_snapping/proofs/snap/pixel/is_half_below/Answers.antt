use Rattle.std.proofs.Common.{ap, to_z-of_z}
use Rattle.std.specs.Prelude.{nat_lt, ◌*◌}
use Rattle.overlay_snapping.proofs.snap.pixel.is_half_below.Goals as goal

pub returns : goal.returns
returns c =
    let fits = c.ranges.turn in
    ap (λ n. nat_lt (2 * n) c.args.extent) (simp to_z-of_z at c.unsigned_abs.ensures.value)
