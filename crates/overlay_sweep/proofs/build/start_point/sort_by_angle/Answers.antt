use Rattle.std.proofs.Common.{◌≡◌, ◌∙◌, ◌≤◌, [], ◌∷◌, List, ap, ap₂, sym, refl, arith, rules, length, get_or, Ordering}
use Rattle.std.specs.Prelude.{true, false, map}
use Rattle.std.specs.List.{swap}
use Rattle.std.specs.Ordering.{is_lt}
use Rattle.std.proofs.lemmas.List.Sorted.{answers_always}
use Rattle.overlay_geometry.specs.Below.{angle_cmp}
use Rattle.overlay_geometry.specs.Sorting.{stably_sorted, insert_before_ties}
use Rattle.overlay_base.proofs.laws.lists.StableSorts.{sorted_by-is, map-stably_sorted}
use Rattle.overlay_sweep.specs.steps.WayOf.{way_of, ways_of}
use Rattle.overlay_sweep.proofs.laws.live.StartPoints.{by_angle-ranks}
use Rattle.overlay_sweep.proofs.build.start_point.sort_by_angle.Goals as goal
use Rattle.overlay_sweep.proofs.build.start_point.sort_by_angle.Goals.{else-len-eq2-via-then-len-eq2+else-is_lt, else-len-eq2-via-else-len-eq2}

module _ {X K : Type 0} (cmp : K → K → Ordering) (f : X → K) where
  few_sorted : (items : List X) → length items ≤ 1 → map f items ≡ stably_sorted cmp (map f items)
  unfolding stably_sorted insert_before_ties
  few_sorted [] h = refl
  few_sorted (a ∷ []) h = refl
  few_sorted (a ∷ b ∷ items) h = absurd (omega (arith, h))

  two_sorted : (items : List X) (a b : X) → length items ≡ 2 → a ≡ get_or items 0 a → b ≡ get_or items 1 b → is_lt (cmp (f b) (f a)) ≡ false → map f items ≡ stably_sorted cmp (map f items)
  unfolding stably_sorted insert_before_ties
  two_sorted [] a b h e k l = absurd (omega (arith, h))
  two_sorted (u ∷ []) a b h e k l = absurd (omega (arith, h))
  two_sorted (u ∷ v ∷ []) a b h e k l =
      let over : is_lt (cmp (f v) (f u)) ≡ false = ap₂ (λ y x. is_lt (cmp (f y) (f x))) (sym k) (sym e) ∙ l in
      rw over refl
  two_sorted (u ∷ v ∷ w ∷ items) a b h e k l = absurd (omega (arith, h))

  two_swapped : (items : List X) (a b : X) → length items ≡ 2 → a ≡ get_or items 0 a → b ≡ get_or items 1 b → is_lt (cmp (f b) (f a)) ≡ true → map f (swap items 0 1) ≡ stably_sorted cmp (map f items)
  unfolding stably_sorted insert_before_ties
  two_swapped [] a b h e k l = absurd (omega (arith, h))
  two_swapped (u ∷ []) a b h e k l = absurd (omega (arith, h))
  two_swapped (u ∷ v ∷ []) a b h e k l =
      let under : is_lt (cmp (f v) (f u)) ≡ true = ap₂ (λ y x. is_lt (cmp (f y) (f x))) (sym k) (sym e) ∙ l in
      rw under refl
  two_swapped (u ∷ v ∷ w ∷ items) a b h e k l = absurd (omega (arith, h))

-- std's sort by angle is the one stable sort
pub returns-then-len-gt2 : goal.returns-then-len-gt2
returns-then-len-gt2 g c =
    ap ways_of
    (sorted_by-is (λ v w. angle_cmp (way_of v).pair (way_of w).pair) (by_angle-ranks way_of (λ v. v.ordered)) _ _
    (c.in_ok-sort_by.ensures.sorted _ (by_angle-ranks way_of (λ v. v.ordered)) (answers_always _ _ _ (λ f a r f' h. search rules)))
    (c.in_ok-sort_by.ensures.stable _ (by_angle-ranks way_of (λ v. v.ordered)) (answers_always _ _ _ (λ f a r f' h. search rules))))
    ∙ map-stably_sorted way_of (λ v w. angle_cmp v.pair w.pair) c.args.ways.now.items

pub returns-then-is_lt : goal.returns-then-is_lt
returns-then-is_lt g c =
    let items = c.args.ways.now.items in
    let two : length items ≡ 2 = omega (arith, c.if-len-eq2.true, c.len-2.ensures, c.args.ways.now.ok.0) in
    ap ways_of c.swap.ensures.items ∙ two_swapped (λ v w. angle_cmp v.pair w.pair) way_of items _ _ two c.index-then-len-eq2.ensures c.index.ensures (ap is_lt (sym c.cmp_by_angle.ensures) ∙ sym c.is_lt.ensures ∙ c.if-is_lt.true)

pub returns-else-len-eq2 : goal.returns-else-len-eq2
returns-else-len-eq2 g c =
    let items = c.args.ways.now.items in
    elim c.else-len-eq2.branch [
      | else-len-eq2-via-then-len-eq2+else-is_lt w ↦
          (let two : length items ≡ 2 = omega (arith, w.if-len-eq2.true, c.len-2.ensures, c.args.ways.now.ok.0) in
          two_sorted (λ v u. angle_cmp v.pair u.pair) way_of items _ _ two w.index-then-len-eq2.ensures w.index.ensures (ap is_lt (sym w.cmp_by_angle.ensures) ∙ sym w.is_lt.ensures ∙ w.if-is_lt.false))
      | else-len-eq2-via-else-len-eq2 w ↦ few_sorted (λ v u. angle_cmp v.pair u.pair) way_of items (omega (arith, c.if-len-gt2.false, w.if-len-eq2.false, c.len.ensures, c.len-2.ensures, c.args.ways.now.ok.0))
    ]
