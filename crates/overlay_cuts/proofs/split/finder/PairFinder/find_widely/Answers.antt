use Rattle.std.proofs.Common.{◌+◌, ◌≤◌, ap, sym, subst, rules}
use Rattle.std.specs.Prelude.{Option}
use Rattle.std.proofs.lemmas.Result.{on_ok_weaker}
use Rattle.overlay_base.specs.Segments.{pairs}
use Rattle.overlay_base.specs.SegmentOf.{segments_of}
use Rattle.overlay_grid.specs.Grid.{Layout, LieInside}
use Rattle.overlay_grid.specs.GroupsOf.{grid_in}
use Rattle.overlay_grid.proofs.laws.grid.GridInside.{each_lies_inside}
use Rattle.overlay_cuts.specs.PassLooks.{wide_looks}
use Rattle.overlay_cuts.proofs.split.finder.PairFinder.find_widely.Goals as goal

pub find_over_grid-requires-clause-inside : goal.find_over_grid-requires-clause-inside
find_over_grid-requires-clause-inside g c =
    each_lies_inside c.args.segments.now _ (subst (λ (o : Option Layout). LieInside o (pairs (segments_of c.args.segments.now))) (ap (λ b. grid_in b) c.in-Some.is) c.requires.inside)

pub returns-in-Some-clause-looked : goal.returns-in-Some-clause-looked
unfolding wide_looks
returns-in-Some-clause-looked g c =
    let ps = pairs (segments_of c.args.segments.now) in
    on_ok_weaker c.find_over_grid.result (λ h. subst (λ (o : Option Layout). c.find_over_grid.new.looked ≤ c.args.self.now.looked + wide_looks o ps) (sym (ap (λ b. grid_in b) c.in-Some.is)) h) c.find_over_grid.ensures.looked

pub returns-in-None-clause-looked : goal.returns-in-None-clause-looked
unfolding wide_looks
returns-in-None-clause-looked g c =
    let ps = pairs (segments_of c.args.segments.now) in
    on_ok_weaker c.find_without_grid.result (λ h. subst (λ (o : Option Layout). c.find_without_grid.new.looked ≤ c.args.self.now.looked + wide_looks o ps) (sym (ap (λ b. grid_in b) c.in-None.is)) h) c.find_without_grid.ensures.looked

pub returns-in-Some-clause-grid : goal.returns-in-Some-clause-grid
returns-in-Some-clause-grid g c = search rules
