use Rattle.std.proofs.Common.{rules, ◌≡◌, ◌<◌, ◌∙◌, refl, sym, ap, ap₂, subst, IsTrue, length}
use Rattle.std.proofs.lemmas.List.{get_or_read}
use Rattle.std.proofs.lemmas.List.Elements.{All-set}
use Rattle.overlay_geometry.specs.PairOf.{pair_of}
use Rattle.overlay_geometry.proofs.laws.geometry.Points.{same_pair_by_eq}
use Rattle.overlay_base.specs.SegmentOf.{segment_of, ends_of, winding_of}
use Rattle.overlay_base.specs.Windings.{Winding, add, is_valid, is_count_in_range}
use Rattle.overlay_base.proofs.laws.joins.Early.{HasOneMore-set, HasOneMore-push, valid-add}
use Rattle.overlay_base.proofs.segm.early.keep_or_add.Goals as goal

pub returns-in-Ok-clause-valid : goal.returns-in-Ok-clause-valid
returns-in-Ok-clause-valid g c =
    let held = c.index-then-has_same_ends.result.now in
    let sum : winding_of c.with_count_and_data.result ≡ add (winding_of held) (winding_of c.args.segment) = ap g.C.WindingCount.winding c.with_count_and_data.ensures.count ∙ c.in-Ok.ensures.sum ∙ ap₂ (λ a b. add (g.C.WindingCount.winding a) (g.C.WindingCount.winding b)) c.count.ensures c.count-then-has_same_ends.ensures in
    let in_range : IsTrue (is_count_in_range (add (winding_of held) (winding_of c.args.segment))) =
    subst (λ (w : Winding). IsTrue (is_count_in_range w)) (ap₂ (λ a b. add (g.C.WindingCount.winding a) (g.C.WindingCount.winding b)) c.count.ensures c.count-then-has_same_ends.ensures) (c.in-Ok.ensures.in_range.0 refl) in
    let valid : IsTrue (is_valid (winding_of held)) = search rules in
    All-set (λ s. IsTrue (is_valid (winding_of s))) _ _ _ (subst (λ (w : Winding). IsTrue (is_valid w)) (sym sum) (valid-add (winding_of held) (winding_of c.args.segment) valid c.requires.segment in_range)) c.requires.valid

pub returns-in-Ok-clause-added : goal.returns-in-Ok-clause-added
returns-in-Ok-clause-added g c =
    let held = c.index-then-has_same_ends.result.now in
    let place = c.unwrap_or-place.result.now in
    let within : place < length c.args.kept.now.items = search rules in
    let sum : winding_of c.with_count_and_data.result ≡ add (winding_of held) (winding_of c.args.segment) = ap g.C.WindingCount.winding c.with_count_and_data.ensures.count ∙ c.in-Ok.ensures.sum ∙ ap₂ (λ a b. add (g.C.WindingCount.winding a) (g.C.WindingCount.winding b)) c.count.ensures c.count-then-has_same_ends.ensures in
    let first : ends_of c.index.result.now ≡ ends_of c.args.segment = same_pair_by_eq _ _ (sym c.has_same_ends.ensures ∙ c.if-has_same_ends.true) in
    let pair : ends_of held ≡ ends_of c.args.segment =
    ap ends_of (get_or_read c.args.kept.now.items place held within c.index-then-has_same_ends.ensures c.index.result.now ∙ sym c.index.ensures) ∙ first in
    HasOneMore-set (λ s. segment_of s) c.args.kept.now.items place held c.with_count_and_data.result (segment_of c.args.segment) within c.index-then-has_same_ends.ensures pair (ap (pair_of g.I.OverlayInt.whole) c.with_count_and_data.ensures.x_segment) sum

pub returns-clause-added : goal.returns-clause-added
returns-clause-added g c = HasOneMore-push (λ s. segment_of s) _ _ c.args.segment (search rules)
