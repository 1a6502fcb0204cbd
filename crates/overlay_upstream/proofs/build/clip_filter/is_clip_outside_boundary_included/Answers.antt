use Rattle.overlay_upstream.proofs.build.clip_filter.is_clip_outside_boundary_included.Goals as goal

pub returns : goal.returns
returns c = c.is_included.ensures
