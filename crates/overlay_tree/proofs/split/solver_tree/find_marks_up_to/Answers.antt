use Rattle.std.proofs.Common.{◌≡◌, refl, ap, sym, subst, ◌∙◌, ◌<◌, ◌≤◌, ◌+◌, ◌-◌, length, arith, Bool, ◌||◌, List, ℕ, Option, None, Some}
use Rattle.std.specs.Prelude.{All, IfSome}
use Rattle.std.proofs.lemmas.List.Elements.{All-from_recursion}
use Rattle.overlay_base.specs.Segments.{pairs}
use Rattle.overlay_base.specs.SegmentOf.{segments_of}
use Rattle.overlay_intersections.specs.PlacingOf.{placing_of}
use Rattle.overlay_intersections.specs.MarkOf.{marks_of}
use Rattle.overlay_tree.specs.steps.NodeOf.{tree_nodes}
use Rattle.overlay_tree.specs.steps.TreeSweep.{AreFoundBefore}
use Rattle.overlay_intersections.proofs.laws.marks.FoundMarks.{or_true, or_false}
use Rattle.overlay_intersections.proofs.laws.marks.FoundEach.{some_cross_inexactly-is}
use Rattle.overlay_intersections.proofs.laws.marks.LineMarks.{AreMarks-from_elements}
use Rattle.overlay_tree.proofs.laws.tree.Sweeps.{length-pairs}
use Rattle.overlay_tree.proofs.laws.tree.SweptMarks.{IsMarked-start, IsMarked-more, all_marked, all_told}
use Rattle.overlay_tree.proofs.laws.tree.TreeFinder.{IsUnderWay-start, IsUnderWay-end}
use Rattle.overlay_tree.proofs.split.solver_tree.find_marks_up_to.Goals as goal
use Rattle.overlay_tree.proofs.split.solver_tree.find_marks_up_to.Goals.{then-branch, else-branch}

stays_within : (limit : Option ℕ) (now next more : ℕ) → IfSome limit (λ most. now ≤ most) → IfSome limit (λ most. more ≤ most - now) → next ≤ now + more → IfSome limit (λ most. next ≤ most)
stays_within None now next more h k l = tt
stays_within (Some most) now next more h k l = omega (arith, h, k, l)

pub loop-index-init : goal.loop-index-init
loop-index-init g c =
    let ps = pairs (segments_of c.args.segments.now) in
    rw (c.clear.ensures.items, c.clear-2.ensures.items) (record {
      way = IsUnderWay-start ps c.args.looked.now (omega arith);
      marked = IsMarked-start (placing_of c.args.placing) ps;
      within = c.requires.limit;
    })

pub take_in-requires-clause-way : goal.take_in-requires-clause-way
take_in-requires-clause-way g c = (c.args.looked.now, c.loop-index.invariant.way)

pub mark_with_found-requires-clause-found : goal.mark_with_found-requires-clause-found
mark_with_found-requires-clause-found g c =
    subst (λ (is : List ℕ). All (λ i. i < c.loop-index.index) is) (sym c.deref.ensures.value)
    (All-from_recursion (λ i. i < c.loop-index.index) c.take_in.new.found.items c.in_ok-until.ensures.found.earlier)

pub loop-index-preserved : goal.loop-index-preserved
loop-index-preserved g c =
    let whole = g.I.OverlayInt.whole in
    let xs = c.args.segments.now in
    let ps = pairs (segments_of xs) in
    let placing = placing_of c.args.placing in
    let j = c.loop-index.index in
    let inside : j < length ps = omega (arith, length-pairs xs, c.loop-index-test.true) in
    let found = subst (λ (is : List ℕ). AreFoundBefore ps is j) (sym c.deref.ensures.value) c.in_ok-until.ensures.found in
    let rounded : c.if-branch.rounded ≡ (c.loop-index.rounded || c.in_ok-mark_with_found.field-0) = elim c.if-branch.branch [
      | then-branch w ↦ rw (w.rounded-is, w.if-branch.true) (or_true c.loop-index.rounded)
      | else-branch w ↦ rw (w.rounded-is, w.if-branch.false) (or_false c.loop-index.rounded)
    ] in
    record {
      way = c.in_ok-until.ensures.way c.args.looked.now c.loop-index.invariant.way;
      marked = IsMarked-more placing ps (marks_of whole c.loop-index.marks.items) (marks_of whole c.mark_with_found.new.marks.items) c.loop-index.rounded c.if-branch.rounded j c.deref.result.now
          c.loop-index.invariant.marked found inside c.in_ok-mark_with_found.ensures.marks (rounded ∙ ap (λ (b : Bool). c.loop-index.rounded || b) c.in_ok-mark_with_found.ensures.rounded);
      within = stays_within c.args.limit c.loop-index.looked c.take_in.new.looked (length xs) c.loop-index.invariant.within (c.may_take.ensures.within c.if-not-may_take.false) c.in_ok-until.ensures.looked;
    }

pub returns : goal.returns
returns g c =
    let whole = g.I.OverlayInt.whole in
    let xs = c.args.segments.now in
    let ps = pairs (segments_of xs) in
    let placing = placing_of c.args.placing in
    let all : length ps ≡ c.loop-index.index = omega (arith, length-pairs xs, c.loop-index-test.false, c.loop-index.auto.index-end) in
    let looks = IsUnderWay-end ps (tree_nodes whole c.loop-index.nodes.items) c.args.looked.now c.loop-index.looked c.loop-index.index c.loop-index.until c.loop-index.invariant.way all in
    let marked = rw (sym all) at c.loop-index.invariant.marked in
    record {
      marks = AreMarks-from_elements g.I.PartialEq.eq g.I.Ord.cmp whole g.met.I.Ord.matches_eq g.met.I.OverlayInt.ordered placing (segments_of xs)
          c.loop-index.marks.items c.sort_marks.new.marks.items c.dedup.new.self.items marked.sound (all_marked placing ps (marks_of whole c.loop-index.marks.items) c.loop-index.rounded marked)
          c.in_ok-sort_marks.ensures.permutation c.in_ok-sort_marks.ensures.sorted c.dedup.ensures.filtered;
      rounded = all_told placing ps (marks_of whole c.loop-index.marks.items) c.loop-index.rounded marked ∙ some_cross_inexactly-is (segments_of xs);
      found = λ none. refl;
      looked = looks.most;
      each_looked = looks.least;
      within = c.loop-index.invariant.within;
      fault = tt;
    }
