use Rattle.std.proofs.Common.{◌≡◌, map, take}
use Rattle.overlay_base.specs.Rules.{holds}
use Rattle.overlay_base.specs.SegmentOf.{segments_of}
use Rattle.overlay_build.proofs.laws.regions.Again.{link_in_shape}
use Rattle.overlay_build.proofs.build.boundary.directed_segments.Given as goal

abbrev pub invariant-loop-link : goal.invariant-loop-link
invariant-loop-link g l = segments_of l.segments.items ≡ map (link_in_shape l.shape_type (holds l.rule) g.I.OverlayInt.whole) (take l.link-index l.link-items)
