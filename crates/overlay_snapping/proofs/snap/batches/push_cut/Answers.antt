use Rattle.std.proofs.Common.{◌≡◌, ◌∙◌, ◌∷◌, ◌++◌, sym, ap, subst, IsTrue, IsFalse, Ok, Err}
use Rattle.std.specs.Prelude.{All, OnOk}
use Rattle.std.specs.declared.result.Result.{Result}
use Rattle.overlay_geometry.specs.PairOf.{pair_of}
use Rattle.overlay_geometry.specs.PointOf.{point_of}
use Rattle.overlay_geometry.specs.Points.{is_end, is_ordered}
use Rattle.overlay_base.specs.HooksOf.{hooks_of}
use Rattle.overlay_base.specs.SegmentOf.{ends_of, winding_of, segment_of, segments_of}
use Rattle.overlay_intersections.specs.MarkOf.{points_of, mark_points_of}
use Rattle.overlay_cuts.specs.Path.{LeadsOn, pieces, pieces_along}
use Rattle.overlay_snapping.proofs.laws.batches.CutPaths.{path_leads, pieces_collected, pieces_appended, valid_appended}
use Rattle.overlay_snapping.proofs.snap.batches.push_cut.Goals as goal

on_ok : {T E P Q : Type 0} (r : Result T E) → (P → Q) → OnOk r P → OnOk r Q
on_ok (Ok x) f p = f p
on_ok (Err y) f p = tt

pub push_pieces-requires-clause-leads_on : goal.push_pieces-requires-clause-leads_on
push_pieces-requires-clause-leads_on g c =
    let whole = g.I.OverlayInt.whole in
    let marks = mark_points_of whole c.args.cuts.now in
    let x = c.x_segment.result in
    let same : pair_of whole x ≡ ends_of c.args.segment.now = ap (pair_of whole) c.x_segment.ensures in
    let ordered = subst (λ p. IsTrue (is_ordered p)) (sym same) c.requires.ordered in
    let free = subst (λ p. All (λ q. IsFalse (is_end p q)) marks) (sym same) c.requires.free in
    let is = ap (points_of whole) c.as_slice.ensures.value ∙ c.in_ok-collect_path.ensures in
    subst (LeadsOn (point_of whole x.a)) (sym is) (path_leads (pair_of whole x) marks ordered c.requires.rise free).0

pub returns-clause-pieces : goal.returns-clause-pieces
returns-clause-pieces g c =
    let whole = g.I.OverlayInt.whole in
    let hooks = hooks_of g.C.WindingCount.counted g.D.OverlayEdgeData in
    let marks = mark_points_of whole c.args.cuts.now in
    let x = c.x_segment.result in
    let count = g.C.WindingCount.winding c.count.result in
    let points = points_of whole c.as_slice.result.now in
    let same : pair_of whole x ≡ ends_of c.args.segment.now = ap (pair_of whole) c.x_segment.ensures in
    let counted : count ≡ winding_of c.args.segment.now = ap (λ n. g.C.WindingCount.winding n) c.count.ensures in
    let is = ap (points_of whole) c.as_slice.ensures.value ∙ c.in_ok-collect_path.ensures in
    let ordered = subst (λ p. IsTrue (is_ordered p)) (sym same) c.requires.ordered in
    let free = subst (λ p. All (λ q. IsFalse (is_end p q)) marks) (sym same) c.requires.free in
    let along : pieces_along count (point_of whole x.a ∷ points) ≡ pieces (segment_of c.args.segment.now) marks =
    ap (λ l. pieces_along count (point_of whole x.a ∷ l)) is ∙ pieces_collected (pair_of whole x) marks ordered c.requires.rise free count
    ∙ (λ i. pieces (record { pair = same i; count = counted i }) marks) in
    on_ok c.push_pieces.result (λ h. pieces_appended hooks count _ _ points _ _ c.args.held.now.items c.push_pieces.new.list.items h ∙ ap (λ l. segments_of c.args.held.now.items ++ l) along) c.push_pieces.ensures.pieces

pub returns-clause-held : goal.returns-clause-held
returns-clause-held g c =
    let marks = mark_points_of g.I.OverlayInt.whole c.args.cuts.now in
    on_ok c.push_pieces.result (λ is. valid_appended (segment_of c.args.segment.now) marks c.args.held.now.items c.push_pieces.new.list.items c.requires.valid is c.requires.held) (returns-clause-pieces g c)
