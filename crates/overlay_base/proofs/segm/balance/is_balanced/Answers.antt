use Rattle.std.proofs.Common.{rules}
use Rattle.std.proofs.lemmas.List.Sorted.{answers_always}
use Rattle.overlay_base.specs.SegmentOf.{segments_of}
use Rattle.overlay_base.proofs.laws.rays.EndCounts.{balance_told}
use Rattle.overlay_base.proofs.segm.balance.is_balanced.Goals as goal

pub do_ends_cancel-requires : goal.do_ends_cancel-requires
do_ends_cancel-requires g c =
    rw c.deref.ensures.value (simp g.met.I.OverlayInt.ordered at (c.sort_unstable_by_key.ensures.sorted (λ e. e.point) (answers_always _ _ _ (λ f a r f' h. search rules))))

pub returns-clause-balanced : goal.returns-clause-balanced
returns-clause-balanced g c =
    let told = balance_told g.I.OverlayInt.whole c.in_ok-ends.ends.items c.sort_unstable_by_key.new.self.items (segments_of c.args.segments.now) c.in_ok-ends.ensures.ends c.sort_unstable_by_key.ensures.permutation in
    let cancel = rw c.deref.ensures.value at c.do_ends_cancel.ensures in
    (λ h. told.0 (cancel.0 h), λ balanced. cancel.1 (told.1 balanced))
