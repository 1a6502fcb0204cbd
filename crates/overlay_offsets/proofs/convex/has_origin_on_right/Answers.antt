use Rattle.std.proofs.Common.{◌≡◌, ap, ap₂, sym, ◌∙◌, Bool, arith, to_z-of_z, FitsSigned, w64}
use Rattle.std.specs.Prelude.{ℤ, pos, ◌-ℤ◌, ◌*ℤ◌, int_lt}
use Rattle.std.proofs.lemmas.Int.{ints}
use Rattle.overlay_geometry.specs.PointOf.{point_of}
use Rattle.overlay_geometry.specs.Points.{Point, turn}
use Rattle.overlay_geometry.proofs.laws.geometry.Polynomials.{as_D, diffs, D-eq}
use Rattle.overlay_offsets.specs.Convex.{origin}
use Rattle.overlay_offsets.proofs.convex.has_origin_on_right.Goals as goal

as_difference : (a b : Point) → turn a b origin ≡ a.x *ℤ b.y -ℤ a.y *ℤ b.x
unfolding turn
as_difference a b = plain a.x a.y b.x b.y
  where
    plain : (ax ay bx by : ℤ) → (bx -ℤ ax) *ℤ (pos 0 -ℤ ay) -ℤ (by -ℤ ay) *ℤ (pos 0 -ℤ ax) ≡ ax *ℤ by -ℤ ay *ℤ bx
    plain ax ay bx by = rw (as_D ax, as_D ay, as_D bx, as_D by) (simp diffs (D-eq _ _ _ _ (omega arith)))

by_difference : (m n : ℤ) → int_lt m n ≡ int_lt (m -ℤ n) (pos 0)
by_difference m n = grind (arith, ints)

test_is : (a b : Point) (m n : ℤ) → m ≡ a.x *ℤ b.y → n ≡ a.y *ℤ b.x → int_lt m n ≡ int_lt (turn a b origin) (pos 0)
test_is a b m n e f = by_difference m n ∙ ap (λ (z : ℤ). int_lt z (pos 0)) (ap₂ ◌-ℤ◌ e f ∙ sym (as_difference a b))

pub returns : goal.returns
returns g c =
    let whole = g.I.OverlayInt.whole in
    let first_fits : FitsSigned w64 c.product.result = record { sfits = c.product.type_inv } in
    let second_fits : FitsSigned w64 c.product-2.result = record { sfits = c.product-2.type_inv } in
    simp to_z-of_z (test_is (point_of whole c.args.edge.now.a) (point_of whole c.args.edge.now.b) c.product.result c.product-2.result c.product.ensures c.product-2.ensures)
