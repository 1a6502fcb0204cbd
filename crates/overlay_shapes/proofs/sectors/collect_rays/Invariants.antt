use Rattle.std.proofs.Common.{◌≡◌, map, take}
use Rattle.overlay_base.specs.Rules.{holds}
use Rattle.overlay_build.specs.GraphOf.{link_of}
use Rattle.overlay_shapes.specs.steps.Rays.{ray_at, rays_of}
use Rattle.overlay_shapes.proofs.sectors.collect_rays.Given as goal

abbrev pub invariant-loop-index : goal.invariant-loop-index
invariant-loop-index g l = rays_of l.rays.items ≡ map (ray_at (holds l.rule) (map (link_of g.I.OverlayInt.whole) l.links) l.node) (take l.index-index l.index-items)
