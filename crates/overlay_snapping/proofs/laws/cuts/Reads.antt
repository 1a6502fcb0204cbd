-- Elements of lists of code, as elements of the lists in whole numbers.
use Rattle.std.proofs.Common.{◌≡◌, sym, ap, ◌∙◌, ℕ, ◌<◌, List, Some, map, length, get_or, arith}
use Rattle.std.specs.Prelude.{slice_get}
use Rattle.std.proofs.lemmas.List.{get_or-map, length-map}
use Rattle.std.proofs.lemmas.Option.{slice_get-get_or, get_or_from_slice_get}
use Rattle.overlay_geometry.specs.Points.{Pair}
use Rattle.overlay_geometry.specs.PairOf.{pair_of}
use Rattle.overlay_geometry.specs.declared.geom.x_segment.XSegment.{XSegment}
use Rattle.overlay_base.specs.Segments.{WholeSegment}
use Rattle.overlay_base.specs.SegmentOf.{ends_of, x_segment_of, segment_of, segments_of, pairs_in}
use Rattle.overlay_base.specs.declared.segm.segment.Segment.{Segment}
use Rattle.overlay_base.proofs.laws.geometry.Apart.{pairs-map}

pub read_mapped : {X Y : Type 0} (f : X → Y) (xs : List X) (i : ℕ) (x : X) (d : Y) → i < length xs → x ≡ get_or xs i x → get_or (map f xs) i d ≡ f x
read_mapped f xs i x d h e =
    get_or-map f xs i x d h ∙ ap f (sym e)

pub segment_read : {C I D : Type 0} {m : _} {w : _} {o : _} {e : _} {p : _} (xs : List (Segment C I D m w o e p)) (i : ℕ) (s : Segment C I D m w o e p) (d : Pair) → i < length xs → s ≡ get_or xs i s →
    get_or (pairs_in xs) i d ≡ ends_of s
segment_read xs i s d h e = ap (λ l. get_or l i d) (pairs-map xs) ∙ read_mapped (λ s. ends_of s) xs i s d h e

pub pairs_long : {C I D : Type 0} {m : _} {w : _} {o : _} {e : _} {p : _} (xs : List (Segment C I D m w o e p)) → length (pairs_in xs) ≡ length xs
pairs_long xs = ap length (pairs-map xs) ∙ length-map xs (λ s. ends_of s)

pub segment_there : {C I D : Type 0} {m : _} {w : _} {o : _} {e : _} {p : _} (xs : List (Segment C I D m w o e p)) (i : ℕ) (s : Segment C I D m w o e p) (x : XSegment I) → i < length xs → s ≡ get_or xs i s →
    x ≡ x_segment_of s → slice_get (pairs_in xs) i ≡ Some (pair_of w.whole x)
segment_there {w = w} xs i s x h e f =
    let long = pairs_long xs in
    slice_get-get_or (pairs_in xs) i (pair_of w.whole x) (omega (arith, h, long)) ∙ ap (λ (t : Pair). Some t) (segment_read xs i s (pair_of w.whole x) h e ∙ ap (pair_of w.whole) (sym f))

pub segment_pair : {C I D : Type 0} {m : _} {w : _} {o : _} {e : _} {p : _} (xs : List (Segment C I D m w o e p)) (i : ℕ) (s : Segment C I D m w o e p) (x : XSegment I) → i < length xs → s ≡ get_or xs i s →
    x ≡ x_segment_of s → (d : WholeSegment) → (get_or (segments_of xs) i d).pair ≡ pair_of w.whole x
segment_pair {w = w} xs i s x h e f d =
    let long = length-map xs (λ s. segment_of s) in
    sym (get_or-map (λ (u : WholeSegment). u.pair) (segments_of xs) i d (pair_of w.whole x) (omega (arith, h, long)))
    ∙ get_or_from_slice_get (pairs_in xs) i (pair_of w.whole x) (pair_of w.whole x) (segment_there xs i s x h e f)
