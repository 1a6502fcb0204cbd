use Rattle.std.proofs.Common.{◌≡◌, ◌∙◌, refl, sym, ap, ap₂, subst, true, false, List, [], ◌∷◌, ◌++◌, map, append-nil, append_assoc, IsPermutation}
use Rattle.std.proofs.lemmas.List.{map-append}
use Rattle.std.proofs.lemmas.List.Sorted.{IsPermutation-map}
use Rattle.overlay_base.specs.Segments.{WholeSegment}
use Rattle.overlay_base.specs.SegmentOf.{segment_of, segments_of}
use Rattle.overlay_base.proofs.laws.joins.Rests.{rest-more, rest-none}
use Rattle.overlay_snapping.specs.steps.LineWalks.{End, end_of, ends_of_each}
use Rattle.overlay_snapping.proofs.snap.collinear.line_ends.Goals as goal

start : WholeSegment → End
start s = record { segment = s; starts = true }

stop : WholeSegment → End
stop s = record { segment = s; starts = false }

-- both ends of one more segment
more : {X : Type 0} (f : X → End) (xs ys zs : List X) (x y : X) (s : WholeSegment) (r r' : List WholeSegment) (all : List End) → ys ≡ xs ++ x ∷ [] → zs ≡ ys ++ y ∷ [] → f x ≡ start s → f y ≡ stop s → r ≡ s ∷ r' → map f xs ++ ends_of_each r ≡ all → map f zs ++ ends_of_each r' ≡ all
unfolding start stop
more f xs ys zs x y s r r' all e h p q next all_so_far =
    ap (λ l. map f l ++ ends_of_each r') (h ∙ ap (λ l. l ++ y ∷ []) e ∙ append_assoc xs (x ∷ []) (y ∷ []))
    ∙ ap (λ l. l ++ ends_of_each r') (map-append f xs (x ∷ y ∷ []) ∙ ap₂ (λ a b. map f xs ++ a ∷ b ∷ []) p q)
    ∙ append_assoc (map f xs) (start s ∷ stop s ∷ []) (ends_of_each r')
    ∙ ap (λ l. map f xs ++ ends_of_each l) (sym next)
    ∙ all_so_far

pub loop-segment-preserved : goal.loop-segment-preserved
unfolding start stop
loop-segment-preserved g c =
    let next = rest-more (λ s. segment_of s) c.args.list.now c.loop-segment.segment-index c.segment-item.result c.loop-segment-test.true c.segment-item.is in
    more end_of c.loop-segment.ends.items _ _ _ _ (segment_of c.segment-item.result) _ _ (ends_of_each (segments_of c.args.list.now)) c.in_ok-push.ensures.items c.in_ok-push-2.ensures.items refl refl next c.loop-segment.invariant

pub returns : goal.returns
returns g c =
    let none = rest-none (λ s. segment_of s) c.args.list.now c.loop-segment.segment-index c.loop-segment-test.false in
    let all = sym (append-nil (map end_of c.loop-segment.ends.items)) ∙ ap (λ l. map end_of c.loop-segment.ends.items ++ ends_of_each l) (sym none) ∙ c.loop-segment.invariant in
    subst (λ l. IsPermutation l (map end_of c.sort_by_key.new.self.items)) all (IsPermutation-map end_of c.loop-segment.ends.items c.sort_by_key.new.self.items c.in_ok-sort_by_key.ensures.permutation)
