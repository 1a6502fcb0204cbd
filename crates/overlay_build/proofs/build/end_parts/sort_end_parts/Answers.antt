use Rattle.std.proofs.Common.{◌∙◌, length, drop}
use Rattle.std.proofs.lemmas.List.{take_at}
use Rattle.overlay_build.proofs.laws.graphs.StableEnds.{stable-ends}
use Rattle.overlay_build.proofs.build.end_parts.sort_end_parts.Goals as goal

-- the list is its slice with the parts sorted
pub returns-clause-same : goal.returns-clause-same
returns-clause-same c =
    let written = take_at c.sort_parts.new.ends (drop (length c.sort_parts.new.ends) c.args.ends.now.items) c.args.ends.now.len (c.sort_parts.auto.ends ∙ c.as_mut_slice.ensures.len) in
    rw written (stable-ends c.args.ends.now.items c.sort_parts.new.ends (rw c.as_mut_slice.ensures.value at c.sort_parts.ensures))
