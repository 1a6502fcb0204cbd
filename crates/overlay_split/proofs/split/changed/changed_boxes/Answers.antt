use Rattle.std.proofs.Common.{rules}
use Rattle.std.proofs.lemmas.List.Sorted.{answers_always}
use Rattle.overlay_split.proofs.laws.passes.RectSweeps.{from_left, has_permuted}
use Rattle.overlay_split.proofs.split.changed.changed_boxes.Goals as goal

pub returns-clause-around : goal.returns-clause-around
returns-clause-around g c = λ on are s i some.
    let (r, j, h) = c.in_ok-boxes.ensures.around on are s i some in
    (r, has_permuted g.I.OverlayInt.whole c.in_ok-boxes.boxes.items c.sort_by_key.new.self.items r c.sort_by_key.ensures.permutation j, h)

pub returns-clause-from_left : goal.returns-clause-from_left
returns-clause-from_left g c =
    from_left g.I.OverlayInt.whole c.sort_by_key.new.self.items
    (simp g.met.I.OverlayInt.ordered at (c.in_ok-sort_by_key.ensures.sorted (λ b. b.min_x) (answers_always _ _ _ (λ f a r f' h. search rules))))
