use Rattle.std.proofs.Common.{◌≡◌, ◌∙◌, ap, sym, inl, inr, length}
use Rattle.std.proofs.lemmas.Bool.{cases_Bool}
use Rattle.std.proofs.lemmas.Result.{on_ok_weaker}
use Rattle.overlay_base.specs.Choices.{list_splits}
use Rattle.overlay_base.specs.Segments.{pairs}
use Rattle.overlay_base.specs.SegmentOf.{segments_of}
use Rattle.overlay_grid.specs.GroupsOf.{grid_in}
use Rattle.overlay_tree.proofs.laws.tree.Sweeps.{length-pairs}
use Rattle.overlay_cuts.proofs.laws.passes.PassLooks.{ArePassLooks-listed, ArePassLooks-wide}
use Rattle.overlay_cuts.proofs.split.finder.PairFinder.find_marks.Goals as goal

pub returns-clause-looked : goal.returns-clause-looked
returns-clause-looked g c =
    let xs = c.args.segments.now in
    let strategy = c.args.self.now.solver.strategy in
    let grid = grid_in c.args.self.now.grid in
    let asked : list_splits strategy (length (pairs (segments_of xs))) ≡ c.is_list_split-is_list.result = ap (list_splits strategy) (length-pairs xs) ∙ sym c.is_list_split-is_list.ensures in
    elim (cases_Bool c.is_list_split-is_list.result) [
      | inl k ↦ on_ok_weaker c.find_as_chosen.result (ArePassLooks-listed strategy grid (pairs (segments_of xs)) c.args.self.now.looked c.find_as_chosen.new.self.looked (asked ∙ k)) (c.find_as_chosen.ensures.listed k)
      | inr k ↦ on_ok_weaker c.find_as_chosen.result (ArePassLooks-wide strategy grid (pairs (segments_of xs)) c.args.self.now.looked c.find_as_chosen.new.self.looked (asked ∙ k)) (c.find_as_chosen.ensures.wide k)
    ]
