use Rattle.std.proofs.Common.{◌≡◌, ◌+◌, ◌∙◌, length, map, drop, refl, sym, ap, subst, arith, append-nil, List, [], ◌∷◌, ◌++◌}
use Rattle.std.proofs.lemmas.List.{map-append}
use Rattle.overlay_geometry.specs.PointOf.{point_of}
use Rattle.overlay_base.specs.HooksOf.{hooks_of}
use Rattle.overlay_base.specs.SegmentOf.{data_segment_of, data_segments_of}
use Rattle.overlay_cuts.specs.Path.{LeadsOn, last_point}
use Rattle.overlay_cuts.specs.DataPass.{data_pieces}
use Rattle.overlay_cuts.proofs.laws.passes.PieceSteps.{pieces-none, ArePushed-start, ArePushed-next, ArePushed-last, ArePushed-differ, left_at, left_none, left_some, whole_path}
use Rattle.overlay_base.specs.EdgeData.{SplitCall}
use Rattle.overlay_base.specs.EdgeData.IsMadeFrom.{no_call}
use Rattle.overlay_cuts.proofs.laws.passes.Stores.{made_with_split, made_with_piece}
use Rattle.overlay_cuts.proofs.split.piece.push_pieces.Goals as goal

pub loop-mark-init : goal.loop-mark-init
loop-mark-init g c =
    let whole = whole_path (point_of g.I.OverlayInt.whole) c.args.path.now c.in-Some.marks.now c.in-Some.b.now (point_of g.I.OverlayInt.whole c.args.from) c.in-Some.ensures.cases.0 in
    record {
      pushed = ArePushed-start _ _ _ _ _ _ _ _ (subst (LeadsOn (point_of g.I.OverlayInt.whole c.args.from)) whole.0 c.requires.leads_on);
      made = no_call;
    }

pub create_and_validate_with_data-requires-clause-ends : goal.create_and_validate_with_data-requires-clause-ends
create_and_validate_with_data-requires-clause-ends g c =
    let f = point_of g.I.OverlayInt.whole in
    ArePushed-differ _ _ _ _ _ _ _ _ _ _ c.loop-mark.invariant.pushed _ _ (left_at f c.in-Some.marks.now (f c.in-Some.b.now) c.loop-mark.mark-index c.mark-item.result c.loop-mark-test.true c.mark-item.is)

pub create_and_validate_with_data-requires-2-clause-ends : goal.create_and_validate_with_data-requires-2-clause-ends
create_and_validate_with_data-requires-2-clause-ends g c =
    let f = point_of g.I.OverlayInt.whole in
    ArePushed-differ _ _ _ _ _ _ _ _ _ _ c.loop-mark.invariant.pushed _ _ (left_none f c.in-Some.marks.now (f c.in-Some.b.now) c.loop-mark.mark-index c.loop-mark-test.false)

pub loop-mark-preserved : goal.loop-mark-preserved
loop-mark-preserved g c =
    let f = point_of g.I.OverlayInt.whole in
    let b = f c.in-Some.b.now in
    let marks = c.in-Some.marks.now in
    let i = c.loop-mark.mark-index in
    let next = left_at f marks b i c.mark-item.result c.loop-mark-test.true c.mark-item.is in
    let items = ap data_segments_of c.in_ok-push.ensures.items ∙ map-append data_segment_of c.loop-mark.list.items (c.create_and_validate_with_data.result ∷ []) in
    let hooks = hooks_of g.C.WindingCount.counted g.D.OverlayEdgeData in
    let call : SplitCall g.row.D.Denot = record { edge_data = c.loop-mark.edge_data; a = f c.loop-mark.from; p = f c.mark-item.result; b = b } in
    let split = made_with_split hooks call c.loop-mark.invariant.made c.split.new.store c.split.ensures.store in
    record {
      pushed = rw items (ArePushed-next _ _ _ _ _ _ _ _ _ _ c.loop-mark.invariant.pushed (f c.mark-item.result) (map f (drop (i + 1) marks) ++ b ∷ []) next (left_some f marks b (i + 1)) c.split.result.0 c.split.result.1 _ c.split.ensures.answer c.split.ensures.store _ _ c.create_and_validate_with_data.ensures.segment c.create_and_validate_with_data.ensures.store);
      made = made_with_piece hooks _ _ _ _ split c.create_and_validate_with_data.new.store c.create_and_validate_with_data.ensures.store;
    }

no_path : {A : Type 0} (xs : List A) → length xs ≡ 0 → xs ≡ []
no_path [] e = refl
no_path (x ∷ xs) e = absurd (omega arith)

pub returns-in_default-clause-pieces : goal.returns-in_default-clause-pieces
returns-in_default-clause-pieces g c =
    let f = point_of g.I.OverlayInt.whole in
    let hooks = hooks_of g.C.WindingCount.counted g.D.OverlayEdgeData in
    let none = no_path c.args.path.now c.in_default.ensures.cases in
    let given = data_segments_of c.args.list.now.items in
    sym (ap (λ l. given ++ (data_pieces hooks (g.C.WindingCount.winding c.args.count) (f c.args.from) (map f l) (last_point (f c.args.from) (map f l)) c.args.edge_data c.args.store.now).0) none
    ∙ ap (λ v. given ++ v.0) (pieces-none hooks (g.C.WindingCount.winding c.args.count) (last_point (f c.args.from) []) (f c.args.from) c.args.edge_data c.args.store.now) ∙ append-nil given)

pub returns-in_default-clause-store : goal.returns-in_default-clause-store
returns-in_default-clause-store g c =
    let f = point_of g.I.OverlayInt.whole in
    let hooks = hooks_of g.C.WindingCount.counted g.D.OverlayEdgeData in
    let none = no_path c.args.path.now c.in_default.ensures.cases in
    sym (ap (λ l. (data_pieces hooks (g.C.WindingCount.winding c.args.count) (f c.args.from) (map f l) (last_point (f c.args.from) (map f l)) c.args.edge_data c.args.store.now).1) none
    ∙ ap (λ v. v.1) (pieces-none hooks (g.C.WindingCount.winding c.args.count) (last_point (f c.args.from) []) (f c.args.from) c.args.edge_data c.args.store.now))

pub returns-clause-pieces : goal.returns-clause-pieces
returns-clause-pieces g c =
    let f = point_of g.I.OverlayInt.whole in
    let b = f c.in-Some.b.now in
    let hooks = hooks_of g.C.WindingCount.counted g.D.OverlayEdgeData in
    let whole = whole_path f c.args.path.now c.in-Some.marks.now c.in-Some.b.now (f c.args.from) c.in-Some.ensures.cases.0 in
    let items = ap data_segments_of c.in_ok-push-2.ensures.items ∙ map-append data_segment_of c.loop-mark.list.items (c.create_and_validate_with_data-2.result ∷ []) in
    let end = ArePushed-last _ _ _ _ _ _ _ _ _ _ c.loop-mark.invariant.pushed b (left_none f c.in-Some.marks.now b c.loop-mark.mark-index c.loop-mark-test.false) _ _ c.create_and_validate_with_data-2.ensures.segment c.create_and_validate_with_data-2.ensures.store in
    items ∙ end.0 ∙ sym (λ i. data_segments_of c.args.list.now.items ++ (data_pieces hooks (g.C.WindingCount.winding c.args.count) (f c.args.from) (whole.0 i) (whole.1 i) c.args.edge_data c.args.store.now).0)

pub returns-clause-store : goal.returns-clause-store
returns-clause-store g c =
    let f = point_of g.I.OverlayInt.whole in
    let b = f c.in-Some.b.now in
    let hooks = hooks_of g.C.WindingCount.counted g.D.OverlayEdgeData in
    let whole = whole_path f c.args.path.now c.in-Some.marks.now c.in-Some.b.now (f c.args.from) c.in-Some.ensures.cases.0 in
    let end = ArePushed-last _ _ _ _ _ _ _ _ _ _ c.loop-mark.invariant.pushed b (left_none f c.in-Some.marks.now b c.loop-mark.mark-index c.loop-mark-test.false) _ _ c.create_and_validate_with_data-2.ensures.segment c.create_and_validate_with_data-2.ensures.store in
    end.1 ∙ sym (λ i. (data_pieces hooks (g.C.WindingCount.winding c.args.count) (f c.args.from) (whole.0 i) (whole.1 i) c.args.edge_data c.args.store.now).1)

pub returns-in_default-clause-store_made : goal.returns-in_default-clause-store_made
returns-in_default-clause-store_made g c = no_call

pub returns-in_err-push-clause-store_made : goal.returns-in_err-push-clause-store_made
returns-in_err-push-clause-store_made g c =
    let f = point_of g.I.OverlayInt.whole in
    let hooks = hooks_of g.C.WindingCount.counted g.D.OverlayEdgeData in
    let call : SplitCall g.row.D.Denot = record { edge_data = c.loop-mark.edge_data; a = f c.loop-mark.from; p = f c.mark-item.result; b = f c.in-Some.b.now } in
    let split = made_with_split hooks call c.loop-mark.invariant.made c.split.new.store c.split.ensures.store in
    made_with_piece hooks _ _ _ _ split c.create_and_validate_with_data.new.store c.create_and_validate_with_data.ensures.store

pub returns-in_err-push-2-clause-store_made : goal.returns-in_err-push-2-clause-store_made
returns-in_err-push-2-clause-store_made g c =
    made_with_piece (hooks_of g.C.WindingCount.counted g.D.OverlayEdgeData) _ _ _ _ c.loop-mark.invariant.made c.create_and_validate_with_data-2.new.store c.create_and_validate_with_data-2.ensures.store

pub returns-clause-store_made : goal.returns-clause-store_made
returns-clause-store_made g c =
    made_with_piece (hooks_of g.C.WindingCount.counted g.D.OverlayEdgeData) _ _ _ _ c.loop-mark.invariant.made c.create_and_validate_with_data-2.new.store c.create_and_validate_with_data-2.ensures.store
