use Rattle.std.proofs.Common.{◌≡◌, ◌<◌, ◌+◌, sym, ap, ◌∙◌, ◌++◌, ◌∷◌, [], drop, map, length, List, arith, append_assoc}
use Rattle.std.proofs.lemmas.List.{map-append}
use Rattle.overlay_geometry.specs.Points.{Pair}
use Rattle.overlay_geometry.specs.PairOf.{pair_of}
use Rattle.overlay_geometry.specs.Ranges.{WholeRange, heights}
use Rattle.overlay_geometry.specs.RangeOf.{range_of}
use Rattle.overlay_base.specs.Segments.{pairs}
use Rattle.overlay_base.specs.SegmentOf.{segments_of}
use Rattle.overlay_tree.specs.steps.Swept.{pair_at}
use Rattle.overlay_tree.proofs.laws.list.ListScans.{pair_next}
use Rattle.overlay_tree.proofs.laws.tree.Sweeps.{pair_at-is, length-pairs}
use Rattle.overlay_tree.proofs.split.solver_list.list_heights.Goals as goal

pub loop-index-preserved : goal.loop-index-preserved
loop-index-preserved g c =
    let whole = g.I.OverlayInt.whole in
    let ps = pairs (segments_of c.args.segments.now) in
    let i = c.loop-index.index in
    let count = length-pairs c.args.segments.now in
    let test : i < length c.args.segments.now = c.loop-index-test.true in
    let lt : i < length ps = omega arith in
    let pair : pair_at ps i ≡ pair_of whole c.x_segment.result = pair_at-is c.args.segments.now i c.index-segments-index.result test c.index-segments-index.is ∙ ap (pair_of whole) (sym c.x_segment.ensures) in
    let one : range_of whole c.y_range.result ≡ heights (pair_at ps i) = c.y_range.ensures ∙ ap (λ (s : Pair). heights s) (sym pair) in
    let rest = map heights (drop (i + 1) ps) in
    ap (λ xs. map (range_of whole) xs ++ rest) c.in_ok-push.ensures.items
    ∙ ap (λ (rs : List WholeRange). rs ++ rest) (map-append (range_of whole) c.loop-index.ranges.items (c.y_range.result ∷ []))
    ∙ append_assoc (map (range_of whole) c.loop-index.ranges.items) (range_of whole c.y_range.result ∷ []) rest
    ∙ ap (λ (r : WholeRange). map (range_of whole) c.loop-index.ranges.items ++ (r ∷ rest)) one
    ∙ ap (λ (ts : List Pair). map (range_of whole) c.loop-index.ranges.items ++ map heights ts) (sym (pair_next ps i lt))
    ∙ c.loop-index.invariant
