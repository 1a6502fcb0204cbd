use Rattle.std.proofs.Common.{◌∙◌, ap, sym, if◌then◌else◌}
use Rattle.overlay_build.specs.DirectedWalks.{turned}
use Rattle.overlay_build.specs.GraphOf.{link_of}
use Rattle.overlay_build.proofs.build.directed_walks.start_of.Goals as goal

pub returns-then-holds_of_top : goal.returns-then-holds_of_top
returns-then-holds_of_top g c =
    let link = link_of g.I.OverlayInt.whole c.args.link.now in
    ap (λ b. (if b then link else turned link).a_node) (sym c.if-holds_of_top.true ∙ c.holds_of_top.ensures)

pub returns-else-holds_of_top : goal.returns-else-holds_of_top
returns-else-holds_of_top g c =
    let link = link_of g.I.OverlayInt.whole c.args.link.now in
    ap (λ b. (if b then link else turned link).a_node) (sym c.if-holds_of_top.false ∙ c.holds_of_top.ensures)
