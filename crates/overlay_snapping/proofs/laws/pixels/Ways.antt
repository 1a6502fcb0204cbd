-- The box of a pair, by the ways from its first end to the second and to a point.
use Rattle.std.proofs.Common.{◌≡◌, ap₂, arith}
use Rattle.std.specs.Prelude.{ℤ, pos, ◌-ℤ◌, Bool, ◌&&◌}
use Rattle.std.proofs.lemmas.Int.{ints}
use Rattle.overlay_geometry.specs.Points.{Point, Pair, step, is_between, is_in_box}

between_moved : (a b z : ℤ) → is_between (pos 0) (b -ℤ a) (z -ℤ a) ≡ is_between a b z
between_moved a b z = grind (arith, ints)

abbrev pub is_box_of : Point → Point → Bool
is_box_of v w = is_between (pos 0) v.x w.x && is_between (pos 0) v.y w.y

pub box_of_steps : (s : Pair) (p : Point) → is_box_of (step s.a s.b) (step s.a p) ≡ is_in_box s p
unfolding is_in_box
box_of_steps s p = ap₂ (λ u v. u && v) (between_moved s.a.x s.b.x p.x) (between_moved s.a.y s.b.y p.y)
