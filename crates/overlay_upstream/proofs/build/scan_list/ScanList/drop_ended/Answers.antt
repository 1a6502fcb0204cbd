use Rattle.std.proofs.Common.{rules, ◌≡◌, arith}
use Rattle.std.proofs.lemmas.Grind.{common_steps}
use Rattle.std.proofs.lemmas.Int.{ints}
use Rattle.std.specs.Prelude.{int_lt, true}
use Rattle.overlay_geometry.proofs.laws.integers.Tests.{lt-tested}
use Rattle.overlay_sweep.specs.EntryOf.{entry_of}
use Rattle.overlay_upstream.proofs.laws.list.KeptSums.{kept_by}
use Rattle.overlay_upstream.proofs.laws.list.ListAnswers.{none_ended}
use Rattle.overlay_upstream.proofs.build.scan_list.ScanList.drop_ended.Goals as goal

pub returns-then-lt-clause-entries : goal.returns-then-lt-clause-entries
returns-then-lt-clause-entries g c =
    let before : int_lt (g.I.OverlayInt.whole c.args.x) (g.I.OverlayInt.whole c.args.self.now.least_end) ≡ true = grind (arith, ints, common_steps, g.met.I.Ord.matches_partial_cmp, g.met.I.OverlayInt.ordered) in
    none_ended entry_of (g.I.OverlayInt.whole c.args.x) (g.I.OverlayInt.whole c.args.self.now.least_end) c.args.self.now.entries.items (lt-tested _ _ before) c.requires

pub returns-clause-entries : goal.returns-clause-entries
returns-clause-entries g c = kept_by _ (λ e. int_lt (g.I.OverlayInt.whole c.args.x) (g.I.OverlayInt.whole e.segment.b.x)) _ _ _ c.retain.ensures.filtered (λ e b f r. search rules)
