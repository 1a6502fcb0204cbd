use Rattle.std.proofs.Common.{◌∙◌, refl, sym}
use Rattle.overlay_c.proofs.Overlays.{same_settings, same_splitting_by, same_split, same_change}
use Rattle.overlay_c.proofs.cores.Core.split.Goals as goal

pub returns-clause-kept : goal.returns-clause-kept
returns-clause-kept g c =
    let e = c.in_ok-self.ensures in
    let es = same_settings g.I.OverlayInt.BITS _ _ _ _ _ _ c.solver-solver.ensures.start c.solver-solver.ensures.progression (sym e.settings.1) in
    let same = same_splitting_by _ _ _ _ (c.set_rounding.ensures.rounding ∙ c.rounding.ensures) es in
    let ex = c.in_ok-load_splittable.ensures.segments in
    record {
      split = same_split _ _ _ _ same _ _ _ _ ex refl e.split.split;
      change = same_change _ _ _ 0 same _ _ _ ex e.changed;
    }
