use Rattle.std.proofs.Common.{◌∙◌}
use Rattle.std.proofs.lemmas.Option.{IfSome_then}
use Rattle.overlay_c.proofs.LinkData.{piece_keeps}
use Rattle.overlay_c.proofs.tags.asked_with_tag.Goals as goal

pub returns-clause-segment : goal.returns-clause-segment
returns-clause-segment g c =
    IfSome_then c.asked.result c.asked.ensures.edge_data (λ s e. e ∙ piece_keeps _ _ _ _ _)
