use Rattle.std.proofs.Common.{to_z-of_z}
use Rattle.overlay_geometry.proofs.laws.geometry.Coordinates.{product_bound, product_fits}
use Rattle.overlay_geometry.proofs.geom.vector.product.Goals as goal

pub returns-clause-value : goal.returns-clause-value
returns-clause-value c =
    let fit = product_fits c.args.a c.args.b c.requires.a c.requires.b in
    let a_fits = c.ranges.a in
    let b_fits = c.ranges.b in
    simp to_z-of_z

pub returns-clause-bound : goal.returns-clause-bound
returns-clause-bound c =
    let fit = product_fits c.args.a c.args.b c.requires.a c.requires.b in
    let a_fits = c.ranges.a in
    let b_fits = c.ranges.b in
    simp to_z-of_z (product_bound c.args.a c.args.b c.requires.a c.requires.b)
