use Rattle.std.proofs.Common.{◌≡◌, ◌∙◌, ◌<◌, ◌≤◌, ◌+◌, ◌++◌, ◌∷◌, [], ℕ, List, length, take, get_or, ap, sym, subst, arith}
use Rattle.std.specs.List.{enumerate_from}
use Rattle.std.proofs.lemmas.List.{take_all, take_more, length-map, map-append, get_or-map}
use Rattle.std.proofs.lemmas.List.FromFn.{length-enumerate_from, get_or-enumerate_from}
use Rattle.overlay_base.specs.EdgeData.{DataSegment}
use Rattle.overlay_base.specs.SegmentOf.{segment_of, segments_of, data_segment_of, data_segments_of}
use Rattle.overlay_base.specs.Segments.{WholeSegment}
use Rattle.i_overlay.specs.NumberLists.{numbered, with_index}
use Rattle.i_overlay.specs.declared.number_lists.NumberList.{NumberList}
use Rattle.i_overlay.proofs.number_lists.number_lines.Goals as goal

numbered_length : (xs : List WholeSegment) → length (numbered xs) ≡ length xs
numbered_length xs = length-map (enumerate_from 0 xs) (λ e. with_index e.0 e.1) ∙ length-enumerate_from 0 xs

numbered_more : (xs : List WholeSegment) (i : ℕ) (x : WholeSegment) → i < length xs → take (i + 1) (numbered xs) ≡ take i (numbered xs) ++ with_index i (get_or xs i x) ∷ []
numbered_more xs i x h =
    let listed : i < length (enumerate_from 0 xs) = subst (λ (n : ℕ). i < n) (sym (length-enumerate_from 0 xs)) h in
    let mapped : i < length (numbered xs) = subst (λ (n : ℕ). i < n) (sym (numbered_length xs)) h in
    let here = ap (λ e. with_index e.0 e.1) (get_or-enumerate_from 0 xs i (0, x) h) in
    let at : get_or (numbered xs) i (with_index 0 x) ≡ with_index i (get_or xs i x) =
    get_or-map (λ e. with_index e.0 e.1) (enumerate_from 0 xs) i (0, x) (with_index 0 x) listed ∙ here ∙ ap (λ (k : ℕ). with_index k (get_or xs i x)) (omega arith) in
    take_more (numbered xs) i (with_index 0 x) mapped ∙ ap (λ (s : DataSegment NumberList). take i (numbered xs) ++ s ∷ []) at

pub loop-index-preserved : goal.loop-index-preserved
loop-index-preserved g c =
    let given = segments_of c.args.given.now in
    let i : ℕ = c.loop-index.index in
    let x = c.index-given-index.result in
    let at : i < length given = subst (λ (n : ℕ). i < n) (sym (length-map c.args.given.now segment_of)) c.loop-index-test.true in
    let here : segment_of x ≡ get_or given i (segment_of x) = ap segment_of c.index-given-index.is ∙ sym (get_or-map segment_of c.args.given.now i x (segment_of x) c.loop-index-test.true) in
    ap data_segments_of c.in_ok-push.ensures.items ∙ map-append data_segment_of c.loop-index.list.items (c.with_number.result ∷ [])
    ∙ ap (λ l. l ++ data_segment_of c.with_number.result ∷ []) c.loop-index.invariant
    ∙ ap (λ (s : DataSegment NumberList). take i (numbered given) ++ s ∷ []) (c.with_number.ensures ∙ ap (λ (s : WholeSegment). with_index i s) here)
    ∙ sym (numbered_more given i (segment_of x) at)

pub returns : goal.returns
returns g c =
    c.loop-index.invariant
    ∙ take_all c.loop-index.index (numbered (segments_of c.args.given.now)) (subst (λ (n : ℕ). n ≤ c.loop-index.index) (sym (numbered_length (segments_of c.args.given.now) ∙ length-map c.args.given.now segment_of)) c.loop-index-test.false)
