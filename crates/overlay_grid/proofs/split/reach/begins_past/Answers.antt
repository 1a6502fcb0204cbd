use Rattle.std.proofs.Common.{◌≡◌, true, false, not, refl, sym, ◌∙◌, Bool}
use Rattle.overlay_grid.specs.FragmentOf.{fragment_of, fragments_of}
use Rattle.overlay_grid.proofs.laws.grid.FoundFragments.{fragments-next}
use Rattle.overlay_grid.proofs.laws.grid.GridReach.{few_before}
use Rattle.overlay_grid.proofs.split.reach.begins_past.Goals as goal

refuted : (b : Bool) → not b ≡ true → b ≡ false
refuted true e = cc
refuted false e = refl

pub returns : goal.returns
returns g c h =
    let whole = g.I.OverlayInt.whole in
    few_before c.args.axis (whole c.args.end) (fragments_of whole c.args.group.now) c.args.index (fragment_of whole c.index-group-index.result) _ c.requires.sorted
    (fragments-next whole c.args.group.now c.args.index c.index-group-index.result c.if-index-group.false c.index-group-index.is)
    (sym c.begins_by.ensures ∙ refuted _ h)
