use Rattle.std.proofs.Common.{rules}
use Rattle.std.proofs.lemmas.List.Sorted.{answers_always}
use Rattle.std.proofs.lemmas.Result.{on_ok_weaker}
use Rattle.overlay_grid.specs.declared.split.axis.Axis.TheVariants.{X, Y}
use Rattle.overlay_grid.proofs.laws.grid.GridGroups.{IsSortedAlong-from_sort}
use Rattle.overlay_grid.proofs.split.group_sort.sort_by_least.Goals as goal

pub returns-in-X-clause-sorted : goal.returns-in-X-clause-sorted
returns-in-X-clause-sorted g c =
    on_ok_weaker c.sort_by_key.result
    (λ h. rw c.in-X.is (IsSortedAlong-from_sort g.I.OverlayInt.whole X c.sort_by_key.new.self.items (simp g.met.I.OverlayInt.ordered at (h (λ f. f.rect.min_x) (answers_always _ _ _ (λ f a r f' h. search rules))))))
    c.sort_by_key.ensures.sorted

pub returns-in-Y-clause-sorted : goal.returns-in-Y-clause-sorted
returns-in-Y-clause-sorted g c =
    on_ok_weaker c.sort_by_key-in-Y.result
    (λ h. rw c.in-Y.is (IsSortedAlong-from_sort g.I.OverlayInt.whole Y c.sort_by_key-in-Y.new.self.items (simp g.met.I.OverlayInt.ordered at (h (λ f. f.rect.min_y) (answers_always _ _ _ (λ f a r f' h. search rules))))))
    c.sort_by_key-in-Y.ensures.sorted
