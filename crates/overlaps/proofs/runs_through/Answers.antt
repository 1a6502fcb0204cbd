use Rattle.std.proofs.Common.{◌∙◌, sym, ap, not, length}
use Rattle.i_overlay.specs.GraphOf.{kept_of}
use Rattle.overlaps.proofs.Empty.{none, linkless, count_links, part_is, keep_none}
use Rattle.overlaps.proofs.runs_through.Goals as goal

pub returns : goal.returns
returns g c = record {
  exact = λ balanced. ap not c.is_empty.ensures ∙ part_is _ _ _ _ (c.in_ok-kept.ensures.clip.balanced balanced).exactly _ (ap (λ ls. length ls) c.links.ensures ∙ count_links _ _);
  outside = λ balanced n.
      let whole = g.I.OverlayInt.whole in
      let empty = sym c.links.ensures ∙ none _ _ c.is_empty.ensures n in
      let clip = c.in_ok-kept.ensures.clip in
      keep_none _ _ _ _ _ _ _ (linkless _ (ap (λ ls. kept_of whole ls) empty)) (clip.balanced balanced).exactly (clip.by_given balanced);
}
