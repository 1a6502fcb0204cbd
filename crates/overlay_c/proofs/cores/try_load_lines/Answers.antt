use Rattle.std.proofs.Common.{sym, ap, ◌∙◌}
use Rattle.std.proofs.lemmas.Bool.{and_from}
use Rattle.overlay_base.specs.Planar.{is_splittable}
use Rattle.overlay_c.proofs.Usable.{are_lines_splittable}
use Rattle.overlay_c.proofs.cores.try_load_lines.Goals as goal

pub returns-clause-splittable : goal.returns-clause-splittable
returns-clause-splittable g c =
    ap (is_splittable (g.I.OverlayInt.whole g.I.OverlayInt.MIN_COORD) (g.I.OverlayInt.whole g.I.OverlayInt.MAX_COORD)) (c.in_ok-load.ensures.segments c.if-not-branch.false)
    ∙ are_lines_splittable _ _ c.args.given.now (sym c.in_ok-load.ensures.asks ∙ c.if-not-branch.false)

pub returns-clause-usable : goal.returns-clause-usable
returns-clause-usable g c =
    let all = sym c.in_ok-load.ensures.asks ∙ c.if-not-branch.false in
    and_from _ _ all (are_lines_splittable _ _ c.args.given.now all)
