use Rattle.std.proofs.Common.{to_z-of_z, arith}
use Rattle.std.proofs.lemmas.Int.{ints}
use Rattle.overlay_geometry.proofs.laws.geometry.Coordinates.{small_fits}
use Rattle.overlay_geometry.proofs.geom.vector.IntVector.dot_product.Goals as goal

pub returns : goal.returns
returns c =
    let ux = small_fits c.args.self.x c.args.self.x_bound in
    let uy = small_fits c.args.self.y c.args.self.y_bound in
    let vx = small_fits c.args.other.x c.args.other.x_bound in
    let vy = small_fits c.args.other.y c.args.other.y_bound in
    let first = simp to_z-of_z at c.product.ensures.value in
    let second = simp to_z-of_z at c.product-2.ensures.value in
    rw (← first, ← second) (omega (arith, ints))

pub overflow_add-result : goal.overflow_add-result
overflow_add-result c = omega (arith, ints, c.product.ensures.bound, c.product-2.ensures.bound)
