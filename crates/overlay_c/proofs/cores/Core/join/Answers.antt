use Rattle.overlay_base.specs.SegmentOf.{segment_of}
use Rattle.overlay_base.proofs.laws.joins.Rests.{is_splittable-valid}
use Rattle.overlay_c.proofs.cores.Core.join.Goals as goal

pub join_with_store-requires : goal.join_with_store-requires
join_with_store-requires g c =
    is_splittable-valid segment_of (g.I.OverlayInt.whole g.I.OverlayInt.MIN_COORD) (g.I.OverlayInt.whole g.I.OverlayInt.MAX_COORD) c.load_splittable.new.list.items c.in_ok-load_splittable.ensures.splittable
