use Rattle.std.proofs.Common.{◌≡◌, drop}
use Rattle.overlay_shapes.specs.steps.Rays.{led_on, ray_before, rays_of}
use Rattle.overlay_shapes.proofs.sectors.lead_around.Given as goal

abbrev pub invariant-loop-ray : goal.invariant-loop-ray
invariant-loop-ray g l = led_on l.before (drop l.ray-index (rays_of l.rays)) l.next ≡ led_on (ray_before (rays_of l.rays) 0).link (rays_of l.rays) l.initial.next
