use Rattle.overlay_geometry.specs.PointOf.{point_of}
use Rattle.overlay_snapping.proofs.laws.cuts.Searched.{found_among}
use Rattle.overlay_relations.proofs.contacts.is_among.Goals as goal

pub returns : goal.returns
returns g c =
    let at = simp g.met.I.OverlayInt.ordered at c.binary_search.ensures.position in
    found_among (point_of g.I.OverlayInt.whole) c.args.sorted.now c.args.point.now c.binary_search.result c.is_ok.result c.requires.sorted c.binary_search.ensures.bound at c.is_ok.ensures.value
