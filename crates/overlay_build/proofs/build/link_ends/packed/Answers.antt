use Rattle.std.proofs.Common.{refl}
use Rattle.overlay_geometry.specs.PointOf.{point_of}
use Rattle.overlay_build.proofs.laws.graphs.PackedEnds.{unpacked-of}
use Rattle.overlay_build.proofs.build.link_ends.packed.Goals as goal

pub returns : goal.returns
returns g c = unpacked-of (point_of g.I.OverlayInt.whole c.args.point) _ _ _ c.from_least.ensures.value c.from_least-2.ensures.value c.from_least-2.ensures.bound refl
