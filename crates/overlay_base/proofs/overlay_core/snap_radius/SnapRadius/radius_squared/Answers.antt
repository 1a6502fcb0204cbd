use Rattle.std.proofs.Common.{◌≡◌, ◌-◌, ◌*◌, ◌≤◌, ◌^◌, arith, ap, ◌∙◌, min}
use Rattle.std.specs.Prelude.{pos}
use Rattle.overlay_base.specs.Radius.{exponent_of, exponent_cap}
use Rattle.overlay_geometry.proofs.laws.geometry.Shifts.{shifted_one}
use Rattle.overlay_base.proofs.overlay_core.snap_radius.SnapRadius.radius_squared.Goals as goal

pub returns : goal.returns
returns g c =
    let most : g.I.OverlayInt.BITS ≤ 32 = g.met.I.OverlayInt.most_bits in
    let exponent : c.min.result ≡ min (exponent_of c.args.self.now) (exponent_cap g.I.OverlayInt.BITS) = c.min.ensures ∙ ap (λ n. min (exponent_of c.args.self.now) (2 * (n - 4))) c.BITS.ensures in
    let small : c.min.result ≤ 62 = omega arith in
    shifted_one c.min.result small ∙ ap (λ n. pos (2 ^ n)) exponent
