use Rattle.std.proofs.Common.{◌∙◌, sym, ap}
use Rattle.std.specs.Prelude.{unwrap_or}
use Rattle.overlay_geometry.specs.PointOf.{point_of}
use Rattle.overlay_cuts.proofs.laws.passes.Columns.{last_point-read}
use Rattle.overlay_cuts.proofs.split.path.last_or.Goals as goal

pub returns : goal.returns
returns g c =
    ap (point_of g.I.OverlayInt.whole) (c.unwrap_or.ensures ∙ ap (λ o. unwrap_or o c.args.a) (c.copied.ensures ∙ c.last.ensures.value))
    ∙ sym (last_point-read (point_of g.I.OverlayInt.whole) c.args.a c.args.path.now)
