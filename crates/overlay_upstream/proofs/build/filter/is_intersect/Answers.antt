use Rattle.overlay_upstream.proofs.build.filter.is_intersect.Goals as goal

pub returns : goal.returns
returns c = c.is_included.ensures
