use Rattle.std.proofs.Common.{◌∙◌, sym, ap, not, length}
use Rattle.i_overlay.specs.GraphOf.{kept_of}
use Rattle.overlaps.proofs.Empty.{none, linkless, count_links, overlap_is, share_none}
use Rattle.overlaps.proofs.overlaps.Goals as goal

pub returns : goal.returns
returns g c = record {
  exact = λ balanced. ap not c.is_empty.ensures ∙ overlap_is _ _ _ (c.in_ok-graph.ensures.overlay.balanced balanced).exactly _ (ap (λ ls. length ls) c.links.ensures ∙ count_links _ _);
  apart = λ balanced n.
      let whole = g.I.OverlayInt.whole in
      let empty = sym c.links.ensures ∙ none _ _ c.is_empty.ensures n in
      share_none _ _ _ _ _ (linkless _ (ap (λ ls. kept_of whole ls) empty)) (c.in_ok-graph.ensures.region balanced);
}
