use Rattle.overlay_cuts.proofs.laws.passes.Ready.{IsPairInRange-each}
use Rattle.overlay_snapping.proofs.snap.collinear.split_collinear.Goals as goal

pub are_many_deep-requires : goal.are_many_deep-requires
are_many_deep-requires g c = IsPairInRange-each c.args.list.now g.I.OverlayInt.MIN_COORD g.I.OverlayInt.MAX_COORD c.requires
