use Rattle.std.proofs.Common.{◌≡◌, ◌∙◌, ◌++◌, ◌+◌, sym, ap, subst, arith, [], List, take, IsTrue, Ok, Err}
use Rattle.std.specs.Prelude.{All, IfErr, IsErrAnd}
use Rattle.std.specs.declared.result.Result.{Result}
use Rattle.std.proofs.lemmas.List.{length-map, take_all}
use Rattle.overlay_base.specs.SegmentOf.{winding_of, segment_of, segments_of}
use Rattle.overlay_base.specs.Windings.{is_valid}
use Rattle.overlay_base.specs.declared.segm.fault.Fault.TheVariants.{Memory}
use Rattle.overlay_base.proofs.laws.joins.Maps.{are_ordered-map}
use Rattle.overlay_base.proofs.laws.joins.Rests.{is_splittable-valid}
use Rattle.overlay_intersections.specs.MarkOf.{mark_of, marks_of, mark_points_of}
use Rattle.overlay_cuts.proofs.laws.passes.Ready.{IsPairInRange-each}
use Rattle.overlay_snapping.specs.CutsOf.{AreCutsAt}
use Rattle.overlay_snapping.specs.HotOf.{KnowsHot}
use Rattle.overlay_snapping.specs.steps.Batches.{IsCutSoFar}
use Rattle.overlay_snapping.proofs.laws.batches.Existence.{cuts_exist}
use Rattle.overlay_snapping.proofs.laws.batches.Steps.{cuts_rise, cuts_are_free, cut_further, none_leaves, only_memory, valid_joined}
use Rattle.overlay_snapping.proofs.laws.batches.Walks.{at_first, after_join, at_last}
use Rattle.overlay_snapping.proofs.laws.cuts.Added.{AreMarksFrom, marks_first, marks_own, marks_later}
use Rattle.overlay_snapping.proofs.snap.batches.joined_pieces.Goals.{then-room-len+in_ok-join_with_store, else-room-len}
use Rattle.overlay_snapping.proofs.snap.batches.joined_pieces.Goals as goal

pub loop-index-init : goal.loop-index-init
loop-index-init g c =
    let segments = segments_of c.args.segments.now.items in
    record {
      rest = marks_first segments (marks_of g.I.OverlayInt.whole c.args.marks.now) c.requires.marks;
      known = c.requires.known;
      cut = λ on named. subst (λ l. IsCutSoFar on [] (segments_of l)) (sym c.new-pieces.ensures.items) (at_first on);
      valid = rw c.new-pieces.ensures.items (λ k d lt. absurd (omega (arith, lt)));
    }

pub append_cuts-requires-clause-in_range : goal.append_cuts-requires-clause-in_range
append_cuts-requires-clause-in_range g c = rw c.deref.ensures.value (IsPairInRange-each c.args.segments.now.items g.I.OverlayInt.MIN_COORD g.I.OverlayInt.MAX_COORD c.requires.splittable)

pub append_cuts-requires-clause-own : goal.append_cuts-requires-clause-own
append_cuts-requires-clause-own g c = λ d.
    let whole = g.I.OverlayInt.whole in
    let xs = c.args.segments.now.items in
    let long = length-map xs (λ s. segment_of s) in
    let inside = c.loop-index-test.true in
    let up = c.loop-index.auto.index-end in
    rw c.deref.ensures.value
    (ap (mark_points_of whole) c.split_at.ensures.front
    ∙ marks_own (mark_of whole) (segments_of xs) c.loop-index.index c.loop-index.rest.now c.loop-index.invariant.rest c.own_len.result c.own_len.ensures.within c.own_len.ensures.own c.own_len.ensures.later d
    (omega (arith, inside, long)))

-- the cuts that were found are those of the segment
found : {X M : Type 0} (At : List X → List M → Type 0) (shown items : List X) (before after slice : List M) → shown ≡ items → before ≡ [] → slice ≡ after → (added : List M) × (after ≡ before ++ added) × At shown added → At items slice
found At shown items before after slice same none sliced h =
    subst (λ l. At items l) (sym (sliced ∙ h.1 ∙ ap (λ l. l ++ h.0) none)) (subst (λ l. At l h.0) same h.2)

pub push_cut-requires-clause-valid : goal.push_cut-requires-clause-valid
push_cut-requires-clause-valid g c =
    let xs = c.args.segments.now.items in
    let inside = c.loop-index-test.true in
    subst (λ s. IsTrue (is_valid (winding_of s))) (sym c.index.ensures) (is_splittable-valid segment_of _ _ xs c.requires.splittable c.loop-index.index c.index.result.now (omega (arith, inside)))

pub push_cut-requires-clause-rise : goal.push_cut-requires-clause-rise
push_cut-requires-clause-rise g c =
    let xs = c.args.segments.now.items in
    let inside = c.loop-index-test.true in
    let at = found (λ l k. AreCutsAt l c.loop-index.index k) c.deref.result.now xs c.clear.new.self.items c.append_cuts.new.cuts.items c.as_slice.result.now c.deref.ensures.value c.clear.ensures.items c.as_slice.ensures.value c.in_ok-append_cuts.ensures.cuts in
    cuts_rise xs c.loop-index.index c.index.result.now (omega (arith, inside)) c.index.ensures c.as_slice.result.now at

pub push_cut-requires-clause-free : goal.push_cut-requires-clause-free
push_cut-requires-clause-free g c =
    let xs = c.args.segments.now.items in
    let inside = c.loop-index-test.true in
    let at = found (λ l k. AreCutsAt l c.loop-index.index k) c.deref.result.now xs c.clear.new.self.items c.append_cuts.new.cuts.items c.as_slice.result.now c.deref.ensures.value c.clear.ensures.items c.as_slice.ensures.value c.in_ok-append_cuts.ensures.cuts in
    cuts_are_free xs c.loop-index.index c.index.result.now (omega (arith, inside)) c.index.ensures c.as_slice.result.now at

if_err : {T E : Type 0} (r : Result T E) (e : E) (P : E → Type 0) → IsErrAnd r (λ x. x ≡ e) → P e → IfErr r P
if_err (Ok x) e P is h = tt
if_err (Err x) e P is h = subst P (sym is) h

pub returns-in_err-join_with_store-clause-fault : goal.returns-in_err-join_with_store-clause-fault
returns-in_err-join_with_store-clause-fault g c =
    let xs = c.args.segments.now.items in
    let segments = segments_of xs in
    let inside = c.loop-index-test.true in
    let ordered = are_ordered-map segments c.requires.map in
    let known = c.requires.known in
    let at = found (λ l k. AreCutsAt l c.loop-index.index k) c.deref.result.now xs c.clear.new.self.items c.append_cuts.new.cuts.items c.as_slice.result.now c.deref.ensures.value c.clear.ensures.items c.as_slice.ensures.value c.in_ok-append_cuts.ensures.cuts in
    let held = segments_of c.push_cut.new.held.items in
    let further = cut_further xs c.loop-index.index c.index.result.now (omega (arith, inside)) c.index.ensures c.as_slice.result.now at ordered known.decided (segments_of c.loop-index.pieces.items) held c.in_ok-push_cut.ensures.pieces c.loop-index.invariant.cut in
    if_err c.from_residual-in_err-join_with_store.result c.in_err-join_with_store.field-0.0 (λ fault. fault ≡ Memory) c.from_residual-in_err-join_with_store.ensures.1
    (only_memory c.in_err-join_with_store.field-0.0 held c.in_err-join_with_store.ensures.refused (none_leaves segments held (c.loop-index.index + 1) (known.decided, cuts_exist segments ordered _ known) c.requires.small further))

pub loop-index-preserved : goal.loop-index-preserved
loop-index-preserved g c =
    let whole = g.I.OverlayInt.whole in
    let xs = c.args.segments.now.items in
    let segments = segments_of xs in
    let index = c.loop-index.index in
    let inside = c.loop-index-test.true in
    let ordered = are_ordered-map segments c.requires.map in
    let known = c.requires.known in
    let at = found (λ l k. AreCutsAt l index k) c.deref.result.now xs c.clear.new.self.items c.append_cuts.new.cuts.items c.as_slice.result.now c.deref.ensures.value c.clear.ensures.items c.as_slice.ensures.value c.in_ok-append_cuts.ensures.cuts in
    let held = segments_of c.push_cut.new.held.items in
    let further = cut_further xs index c.index.result.now (omega (arith, inside)) c.index.ensures c.as_slice.result.now at ordered known.decided (segments_of c.loop-index.pieces.items) held c.in_ok-push_cut.ensures.pieces c.loop-index.invariant.cut in
    let fits = none_leaves segments held (index + 1) (known.decided, cuts_exist segments ordered _ known) c.requires.small further in
    record {
      rest = subst (λ l. AreMarksFrom segments (index + 1) (marks_of whole l)) (sym c.split_at.ensures.back)
          (marks_later (mark_of whole) segments index c.loop-index.rest.now c.loop-index.invariant.rest c.own_len.result c.own_len.ensures.within c.own_len.ensures.own c.own_len.ensures.later);
      known = subst (λ l. KnowsHot (segments_of l) c.append_cuts.new.self) c.deref.ensures.value c.in_ok-append_cuts.ensures.known;
      cut = elim c.if-room-len.branch [
        | then-room-len+in_ok-join_with_store w ↦ λ on named.
            subst (λ l. IsCutSoFar on (take (index + 1) segments) l) (sym (ap (λ l. segments_of l.items) w.pieces-is ∙ w.in_ok-join_with_store.ensures.geometry)) (after_join on (take (index + 1) segments) held (further on named))
        | else-room-len w ↦ λ on named. subst (λ l. IsCutSoFar on (take (index + 1) segments) (segments_of l.items)) (sym w.pieces-is) (further on named)
      ];
      valid = elim c.if-room-len.branch [
        | then-room-len+in_ok-join_with_store w ↦
            subst (λ l. All (λ s. IsTrue (is_valid (winding_of s))) l.items) (sym w.pieces-is)
            (valid_joined c.push_cut.new.held.items w.join_with_store.new.list.items w.in_ok-join_with_store.ensures.geometry fits c.in_ok-push_cut.ensures.held)
        | else-room-len w ↦ subst (λ l. All (λ s. IsTrue (is_valid (winding_of s))) l.items) (sym w.pieces-is) c.in_ok-push_cut.ensures.held
      ];
    }

pub returns-in_err-join_with_store-2-clause-fault : goal.returns-in_err-join_with_store-2-clause-fault
returns-in_err-join_with_store-2-clause-fault g c =
    let segments = segments_of c.args.segments.now.items in
    let held = segments_of c.loop-index.pieces.items in
    let known = c.requires.known in
    if_err c.from_residual-in_err-join_with_store-2.result c.in_err-join_with_store-2.field-0.0 (λ fault. fault ≡ Memory) c.from_residual-in_err-join_with_store-2.ensures.1
    (only_memory c.in_err-join_with_store-2.field-0.0 held c.in_err-join_with_store-2.ensures.refused
    (none_leaves segments held c.loop-index.index (known.decided, cuts_exist segments (are_ordered-map segments c.requires.map) _ known) c.requires.small c.loop-index.invariant.cut))

pub returns-clause-joined : goal.returns-clause-joined
returns-clause-joined g c = λ on named.
    let xs = c.args.segments.now.items in
    let segments = segments_of xs in
    let long = length-map xs (λ s. segment_of s) in
    let past = c.loop-index-test.false in
    let all : take c.loop-index.index segments ≡ segments = take_all c.loop-index.index segments (omega (arith, long, past)) in
    c.in_ok-join_with_store-2.ensures.geometry ∙ at_last on segments (segments_of c.loop-index.pieces.items) (subst (λ l. IsCutSoFar on l (segments_of c.loop-index.pieces.items)) all (c.loop-index.invariant.cut on named))
