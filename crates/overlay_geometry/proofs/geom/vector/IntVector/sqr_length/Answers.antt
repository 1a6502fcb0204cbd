use Rattle.std.specs.Prelude.{ℤ, pos, ◌*ℤ◌, ◌≡◌}
use Rattle.std.proofs.Common.{to_z-of_z, negsuc, arith}
use Rattle.std.proofs.Math.IntN.{pos-*ℤ-pos, negsuc-*ℤ-negsuc}
use Rattle.std.proofs.lemmas.Int.{ints}
use Rattle.overlay_geometry.specs.Points.{squared}
use Rattle.overlay_geometry.proofs.laws.geometry.Coordinates.{small_fits}
use Rattle.overlay_geometry.proofs.geom.vector.IntVector.sqr_length.Goals as goal

square : (z : ℤ) → z *ℤ z ≡ pos (squared z)
square (pos n) = pos-*ℤ-pos n n
square (negsuc n) = negsuc-*ℤ-negsuc n n

pub returns : goal.returns
returns c =
    let ux = small_fits c.args.self.x c.args.self.x_bound in
    let uy = small_fits c.args.self.y c.args.self.y_bound in
    let first = simp to_z-of_z at c.product.ensures.value in
    let second = simp to_z-of_z at c.product-2.ensures.value in
    let in_x = square c.args.self.x in
    let in_y = square c.args.self.y in
    omega (arith, ints, first, second, in_x, in_y)

pub overflow_add-result : goal.overflow_add-result
overflow_add-result c = omega (arith, ints, c.product.ensures.bound, c.product-2.ensures.bound)
