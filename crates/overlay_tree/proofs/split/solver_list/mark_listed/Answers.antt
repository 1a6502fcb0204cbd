use Rattle.std.proofs.Common.{◌≡◌, ◌+◌, ◌∙◌, ◌++◌, ◌||◌, refl, sym, ap, append-nil, append_assoc, take, get_or, Bool, ℕ, List, [], ◌∷◌, arith}
use Rattle.std.proofs.lemmas.Grind.{common_steps}
use Rattle.std.proofs.lemmas.List.{take_more, take_all}
use Rattle.overlay_base.specs.Segments.{pairs}
use Rattle.overlay_base.specs.SegmentOf.{segments_of}
use Rattle.overlay_intersections.specs.Marks.{cross_inexactly}
use Rattle.overlay_intersections.specs.MarkOf.{Mark, marks_of}
use Rattle.overlay_intersections.specs.MarksBetween.{marks_between}
use Rattle.overlay_intersections.specs.PlacingOf.{placing_of}
use Rattle.overlay_tree.specs.steps.ListScan.{marks_listed, crosses_listed}
use Rattle.overlay_tree.specs.steps.Swept.{pair_at}
use Rattle.overlay_tree.proofs.laws.list.Listed.{marks_listed-more, crosses_listed-more}
use Rattle.overlay_tree.proofs.split.solver_list.mark_listed.Goals as goal

pub loop-later-init : goal.loop-later-init
loop-later-init g c = record { marks = sym (append-nil _); rounded = refl }

pub loop-later-preserved : goal.loop-later-preserved
loop-later-preserved g c =
    let whole = g.I.OverlayInt.whole in
    let ps = pairs (segments_of c.args.segments.now) in
    let placing = placing_of c.args.placing in
    let i = c.args.index in
    let before = take c.loop-later.later-index c.args.met.now in
    let j = get_or c.args.met.now c.loop-later.later-index 0 in
    let next : take (c.loop-later.later-index + 1) c.args.met.now ≡ before ++ j ∷ [] = take_more c.args.met.now c.loop-later.later-index 0 c.loop-later-test.true in
    let marks : marks_listed placing ps i (take (c.loop-later.later-index + 1) c.args.met.now) ≡ marks_listed placing ps i before ++ marks_between placing i (pair_at ps i) j (pair_at ps j) =
    ap (λ (later : List ℕ). marks_listed placing ps i later) next ∙ marks_listed-more placing ps i before j in
    let crosses : crosses_listed ps i (take (c.loop-later.later-index + 1) c.args.met.now) ≡ (crosses_listed ps i before || cross_inexactly (pair_at ps i) (pair_at ps j)) =
    ap (λ (later : List ℕ). crosses_listed ps i later) next ∙ crosses_listed-more ps i before j in
    record {
      marks = c.in_ok-rounded.ensures.marks ∙ ap (λ (ms : List Mark). ms ++ marks_between placing i (pair_at ps i) j (pair_at ps j)) c.loop-later.invariant.marks
          ∙ append_assoc (marks_of whole c.args.marks.now.items) (marks_listed placing ps i before) (marks_between placing i (pair_at ps i) j (pair_at ps j)) ∙ ap (λ (ms : List Mark). marks_of whole c.args.marks.now.items ++ ms) (sym marks);
      rounded = ap (λ (b : Bool). c.loop-later.rounded || b) c.in_ok-rounded.ensures.rounded ∙ ap (λ (b : Bool). b || cross_inexactly (pair_at ps i) (pair_at ps j)) c.loop-later.invariant.rounded ∙ sym crosses;
    }

pub returns-clause-marks : goal.returns-clause-marks
returns-clause-marks g c = rw (take_all c.loop-later.later-index c.args.met.now c.loop-later-test.false) at c.loop-later.invariant.marks

pub returns-clause-rounded : goal.returns-clause-rounded
returns-clause-rounded g c = rw (take_all c.loop-later.later-index c.args.met.now c.loop-later-test.false) at c.loop-later.invariant.rounded

pub mark_two-requires-clause-first : goal.mark_two-requires-clause-first
mark_two-requires-clause-first g c = grind (arith, common_steps)

pub mark_two-requires-clause-after : goal.mark_two-requires-clause-after
mark_two-requires-clause-after g c = grind (arith, common_steps)

pub mark_two-requires-clause-within : goal.mark_two-requires-clause-within
mark_two-requires-clause-within g c = grind (arith, common_steps)

pub returns-in_err-rounded-clause-rounded : goal.returns-in_err-rounded-clause-rounded
returns-in_err-rounded-clause-rounded g c = grind (arith, common_steps)
