use Rattle.std.proofs.Common.{inl, inr}
use Rattle.overlay_base.specs.SegmentOf.{segments_of}
use Rattle.overlay_sweep.proofs.laws.visits.Arrangements.{column_windings}
use Rattle.overlay_sweep.proofs.build.sweep.SweepRunner.run.Goals as goal
use Rattle.overlay_sweep.proofs.build.sweep.SweepRunner.run.Goals.{in-List+in_ok-answer-in-List, in-Tree+in_ok-answer-in-Tree}

pub returns-clause-windings : goal.returns-clause-windings
returns-clause-windings g c = column_windings (g.I.OverlayInt.whole g.I.OverlayInt.MIN_COORD) (g.I.OverlayInt.whole g.I.OverlayInt.MAX_COORD) (segments_of c.args.segments.now) c.requires.arranged

pub returns-in_err-answer-in-List-clause-windings : goal.returns-in_err-answer-in-List-clause-windings
returns-in_err-answer-in-List-clause-windings g c = column_windings (g.I.OverlayInt.whole g.I.OverlayInt.MIN_COORD) (g.I.OverlayInt.whole g.I.OverlayInt.MAX_COORD) (segments_of c.args.segments.now) c.requires.arranged

pub returns-in_err-answer-in-Tree-clause-windings : goal.returns-in_err-answer-in-Tree-clause-windings
returns-in_err-answer-in-Tree-clause-windings g c = column_windings (g.I.OverlayInt.whole g.I.OverlayInt.MIN_COORD) (g.I.OverlayInt.whole g.I.OverlayInt.MAX_COORD) (segments_of c.args.segments.now) c.requires.arranged

pub returns-clause-compared : goal.returns-clause-compared
returns-clause-compared g c = elim c.match-solver.branch [
  | in-List+in_ok-answer-in-List w ↦ rw (w.compared-is, w.in-List.is) w.in_ok-answer-in-List.ensures.compared
  | in-Tree+in_ok-answer-in-Tree w ↦ elim w.in-Tree.is [
    | inl tree ↦ rw (w.compared-is, tree) w.in_ok-answer-in-Tree.ensures.compared
    | inr other ↦ elim other [
      | inl frag ↦ rw (w.compared-is, frag) w.in_ok-answer-in-Tree.ensures.compared
      | inr auto ↦ rw (w.compared-is, auto) w.in_ok-answer-in-Tree.ensures.compared
    ]
  ]
]

pub returns-clause-answer : goal.returns-clause-answer
returns-clause-answer g c = elim c.match-solver.branch [
  | in-List+in_ok-answer-in-List w ↦ rw w.answer-is w.in_ok-answer-in-List.ensures.answer
  | in-Tree+in_ok-answer-in-Tree w ↦ rw w.answer-is w.in_ok-answer-in-Tree.ensures.answer
]

pub returns-clause-in_range : goal.returns-clause-in_range
returns-clause-in_range g c = elim c.match-solver.branch [
  | in-List+in_ok-answer-in-List w ↦ w.in_ok-answer-in-List.ensures.in_range
  | in-Tree+in_ok-answer-in-Tree w ↦ w.in_ok-answer-in-Tree.ensures.in_range
]

pub sweep_with_handler-requires-clause-arranged : goal.sweep_with_handler-requires-clause-arranged
sweep_with_handler-requires-clause-arranged g c = c.requires.arranged
