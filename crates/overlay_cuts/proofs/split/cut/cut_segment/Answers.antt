use Rattle.std.proofs.Common.{set, ◌≡◌, ◌<◌, ◌∙◌, sym, ap, subst, length, arith, ◌∷◌, ◌++◌, map}
use Rattle.std.specs.Prelude.{IsTrue}
use Rattle.overlay_base.specs.Windings.{is_valid}
use Rattle.overlay_geometry.specs.PointOf.{point_of}
use Rattle.overlay_base.specs.HooksOf.{hooks_of}
use Rattle.overlay_base.specs.SegmentOf.{data_segments_of, data_segment_of, ends_of, winding_of}
use Rattle.overlay_intersections.specs.MarkOf.{points_of}
use Rattle.overlay_cuts.specs.Path.{LeadsOn, last_point}
use Rattle.overlay_cuts.specs.steps.PathSteps.{IsPathOf}
use Rattle.overlay_cuts.specs.DataPass.{data_pieces}
use Rattle.overlay_cuts.specs.steps.DataCutAt.{data_cut_at}
use Rattle.std.proofs.lemmas.List.{length-map}
use Rattle.overlay_base.specs.EdgeData.{DataSegment}
use Rattle.overlay_cuts.proofs.laws.passes.PieceSteps.{pieces-step, last_point-next}
use Rattle.overlay_cuts.proofs.laws.passes.CutSteps.{data_cut_at-done, All-at_out}
use Rattle.overlay_base.specs.EdgeData.{SplitCall}
use Rattle.overlay_base.specs.EdgeData.IsMadeFrom.{no_call}
use Rattle.overlay_base.proofs.laws.joins.Stores.{made_further}
use Rattle.overlay_cuts.proofs.laws.passes.Stores.{made_with_split, made_with_piece}
use Rattle.overlay_cuts.proofs.split.cut.cut_segment.Goals as goal

pub create_and_validate_with_data-requires-clause-ends : goal.create_and_validate_with_data-requires-clause-ends
create_and_validate_with_data-requires-clause-ends g c =
    let f = point_of g.I.OverlayInt.whole in
    let path = All-at_out (λ s. IsPathOf (ends_of s) (points_of g.I.OverlayInt.whole c.args.path.now)) c.args.list.now.items c.args.index c.index.result.now c.requires.index c.index.ensures c.requires.path in
    let steps = subst (λ l. LeadsOn (ends_of c.index.result.now).a (map f l)) c.in-Some.ensures.cases.0 path.0 in
    rw (c.x_segment.ensures) steps.0

pub push_pieces-requires-clause-leads_on : goal.push_pieces-requires-clause-leads_on
push_pieces-requires-clause-leads_on g c =
    let f = point_of g.I.OverlayInt.whole in
    let path = All-at_out (λ s. IsPathOf (ends_of s) (points_of g.I.OverlayInt.whole c.args.path.now)) c.args.list.now.items c.args.index c.index.result.now c.requires.index c.index.ensures c.requires.path in
    let steps = subst (λ l. LeadsOn (ends_of c.index.result.now).a (map f l)) c.in-Some.ensures.cases.0 path.0 in
    steps.1

pub create_and_validate_with_data-requires-clause-valid : goal.create_and_validate_with_data-requires-clause-valid
create_and_validate_with_data-requires-clause-valid g c =
    let valid = All-at_out (λ s. IsTrue (is_valid (winding_of s))) c.args.list.now.items c.args.index c.index.result.now c.requires.index c.index.ensures c.requires.valid in
    λ _. rw (c.count-count.ensures) valid

pub push_pieces-requires-clause-valid : goal.push_pieces-requires-clause-valid
push_pieces-requires-clause-valid g c =
    let valid = All-at_out (λ s. IsTrue (is_valid (winding_of s))) c.args.list.now.items c.args.index c.index.result.now c.requires.index c.index.ensures c.requires.valid in
    rw (c.count-count.ensures) valid

-- the list with the first piece in its place and the later ones appended is the cut
cut_is : (g : _) (c : goal.After-push_pieces g) →
    let whole = g.I.OverlayInt.whole in
    let hooks = hooks_of g.C.WindingCount.counted g.D.OverlayEdgeData in
    let later = points_of whole c.in-Some.later.now in
    let rest = data_pieces hooks (g.C.WindingCount.winding c.count-count.result) (point_of whole c.in-Some.first.now) later (last_point (point_of whole c.in-Some.first.now) later) c.split.result.1 c.create_and_validate_with_data.new.store in
    data_cut_at hooks c.args.index (points_of whole c.args.path.now) (data_segments_of c.args.list.now.items) c.args.store.now
    ≡ (data_segments_of (set c.args.list.now.items c.args.index c.create_and_validate_with_data.result) ++ rest.0, rest.1)
cut_is g c =
    let f = point_of g.I.OverlayInt.whole in
    let hooks = hooks_of g.C.WindingCount.counted g.D.OverlayEdgeData in
    let x = c.index.result.now in
    let items = c.args.list.now.items in
    let first = f c.in-Some.first.now in
    let later = map f c.in-Some.later.now in
    let count = g.C.WindingCount.winding c.count-count.result in
    let rest = c.split.result.1 in
    let after = c.create_and_validate_with_data.new.store in
    let path : map f c.args.path.now ≡ first ∷ later = ap (map f) c.in-Some.ensures.cases.0 in
    let is_path = All-at_out (λ s. IsPathOf (ends_of s) (points_of g.I.OverlayInt.whole c.args.path.now)) items c.args.index x c.requires.index c.index.ensures c.requires.path in
    let a = f c.x_segment.result.a in
    let b = f c.x_segment.result.b in
    let some : 0 < length later = omega (arith, length-map c.in-Some.later.now f, ap length c.in-Some.ensures.cases.0, c.requires.steps) in
    let last : b ≡ last_point first later = ap (λ s. f s.b) c.x_segment.ensures ∙ sym is_path.1 ∙ ap (last_point (ends_of x).a) path ∙ last_point-next (ends_of x).a first later in
    let step = pieces-step hooks count b a first later c.edge_data.result c.args.store.now some c.split.result.0 rest c.split.new.store c.split.ensures.answer c.split.ensures.store
    (data_segment_of c.create_and_validate_with_data.result) after c.create_and_validate_with_data.ensures.segment c.create_and_validate_with_data.ensures.store in
    let read : DataSegment g.row.D.Denot = record { pair = record { a = a; b = b }; count = count; edge_data = c.edge_data.result } in
    let is : read ≡ data_segment_of x = λ i. record { pair = record { a = f (c.x_segment.ensures i).a; b = f (c.x_segment.ensures i).b }; count = g.C.WindingCount.winding (c.count-count.ensures i); edge_data = c.edge_data.ensures i } in
    let pieces = data_pieces hooks count first later (last_point first later) rest after in
    let whole : data_pieces hooks count a (map f c.args.path.now) b c.edge_data.result c.args.store.now ≡ (data_segment_of c.create_and_validate_with_data.result ∷ pieces.0, pieces.1) =
    ap (λ l. data_pieces hooks count a l b c.edge_data.result c.args.store.now) path ∙ step
    ∙ (λ i. (data_segment_of c.create_and_validate_with_data.result ∷ (data_pieces hooks count first later (last i) rest after).0, (data_pieces hooks count first later (last i) rest after).1)) in
    data_cut_at-done hooks data_segment_of items c.args.index x c.create_and_validate_with_data.result c.requires.index c.index.ensures (map f c.args.path.now) c.args.store.now pieces.0 pieces.1
    (subst (λ (s : DataSegment g.row.D.Denot). data_pieces hooks s.count s.pair.a (map f c.args.path.now) s.pair.b s.edge_data c.args.store.now ≡ (data_segment_of c.create_and_validate_with_data.result ∷ pieces.0, pieces.1)) is whole)

pub returns-clause-segments : goal.returns-clause-segments
returns-clause-segments g c = rw (cut_is g c) (c.push_pieces.ensures.pieces)

pub returns-clause-store : goal.returns-clause-store
returns-clause-store g c = rw (cut_is g c) (c.push_pieces.ensures.store)

pub returns-in_default-clause-store_made : goal.returns-in_default-clause-store_made
returns-in_default-clause-store_made g c = no_call

pub returns-clause-store_made : goal.returns-clause-store_made
returns-clause-store_made g c =
    let f = point_of g.I.OverlayInt.whole in
    let hooks = hooks_of g.C.WindingCount.counted g.D.OverlayEdgeData in
    let call : SplitCall g.row.D.Denot = record { edge_data = c.edge_data.result; a = f c.x_segment.result.a; p = f c.in-Some.first.now; b = f c.x_segment.result.b } in
    let split = made_with_split hooks call no_call c.split.new.store c.split.ensures.store in
    let first = made_with_piece hooks _ _ _ _ split c.create_and_validate_with_data.new.store c.create_and_validate_with_data.ensures.store in
    made_further hooks first c.push_pieces.ensures.store_made
