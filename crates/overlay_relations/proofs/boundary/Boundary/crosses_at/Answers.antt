use Rattle.overlay_base.specs.SegmentOf.{segment_of, ends_of}
use Rattle.overlay_relations.proofs.laws.EdgeLists.{side_at, below_end}
use Rattle.overlay_relations.proofs.boundary.Boundary.crosses_at.Goals as goal

pub returns-then-do_cross : goal.returns-then-do_cross
returns-then-do_cross g c told =
    let one = c.index.result.now in
    let other = c.index-in-loop-other_place.result.now in
    let sides = c.args.other.now.sides.items in
    let inside = below_end c.loop-other_place.other_place _ _ c.loop-other_place-test.true c.box_end-other_place-end.ensures in (
      ends_of one,
      ends_of other,
      side_at segment_of c.args.self.now.sides.items c.args.place one c.requires.place c.index.ensures,
      side_at segment_of sides c.loop-other_place.other_place other inside c.index-in-loop-other_place.ensures,
      c.do_cross.ensures c.if-do_cross.true,
    )
