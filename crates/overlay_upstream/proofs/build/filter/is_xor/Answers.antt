use Rattle.overlay_upstream.proofs.build.filter.is_xor.Goals as goal

pub returns : goal.returns
returns c = c.is_included.ensures
