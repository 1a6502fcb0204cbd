-- The segments of an arrangement are shared out, so that a segment and its support have one share, unless
-- nothing winds between them. Where both shares balance, and no segment is in both, no place is wound around by both.
use Rattle.std.proofs.Common.{◌≡◌, ap, ap₂, refl, sym, subst, ◌∙◌, arith, inl, inr, ℕ, zero, suc, ◌<◌, ◌≤◌}
use Rattle.std.specs.Prelude.{ℤ, pos, ◌+ℤ◌, ◌-ℤ◌, ◌*ℤ◌, Bool, true, false, ◌&&◌, ◌⊎◌, cond, if◌then◌else◌, List, [], ◌∷◌, map, filter, fold, length, Option, Some, None}
use Rattle.std.specs.declared.cmp.Ordering.{Ordering}
use Rattle.std.specs.List.{list_all}
use Rattle.std.specs.Option.{option_map, option_map_or, option_or}
use Rattle.std.specs.Ordering.{is_lt, ordering_then}
use Rattle.std.proofs.lemmas.Int.{ints}
use Rattle.std.proofs.lemmas.Bool.{and_from}
use Rattle.std.proofs.lemmas.Simd.{map-map}
use Rattle.overlay_geometry.specs.Points.{Point, Pair, point_eq, pair_cmp, is_ordered, turn}
use Rattle.overlay_geometry.specs.Sorting.{greatest, is_strictly_sorted}
use Rattle.overlay_geometry.specs.Meeting.{are_apart}
use Rattle.overlay_geometry.specs.Below.{height_cmp, angle_cmp}
use Rattle.overlay_geometry.proofs.laws.geometry.Polynomials.{as_D, diffs, D-eq}
use Rattle.overlay_geometry.proofs.laws.integers.Products.{times_zero}
use Rattle.overlay_geometry.proofs.laws.lists.Lists.{Has, Has-map, Has-map_out, filter-map, list_all-from_Has}
use Rattle.overlay_base.specs.Balance.{balance, IsBalanced}
use Rattle.overlay_base.specs.Places.{RationalPoint, lies_below, winding_below}
use Rattle.overlay_base.specs.Segments.{WholeSegment, pairs}
use Rattle.overlay_base.specs.Windings.{Winding, add, empty, weight}
use Rattle.overlay_sweep.specs.ChainWindings.{neighbor_at_start, directly_below, support, top, bottom}
use Rattle.overlay_sweep.specs.ColumnWindings.{side_bottom, side_top}
use Rattle.overlay_sweep.proofs.laws.columns.AlongSegments.{is_free}
use Rattle.overlay_sweep.proofs.laws.columns.BalancedSums.{flow, balance_is}
use Rattle.overlay_sweep.proofs.laws.columns.ChainSums.{by_earlier, top_is_sum}
use Rattle.overlay_sweep.proofs.laws.columns.ColumnLines.{filter_weights_are}
use Rattle.overlay_sweep.proofs.laws.columns.Members.{IsArranged}
use Rattle.overlay_sweep.proofs.laws.columns.Tops.{by_option, top_is, bottom_is, length-filter_le, length-filter_less, filter_all}
use Rattle.overlay_sweep.proofs.laws.columns.WeightSums.{when, sum_of}
use Rattle.overlay_sweep.proofs.laws.live.Sides.{sum_of-zero_in}
use Rattle.overlay_sweep.proofs.laws.live.Supports.{is_earlier, earlier-trans, earlier_itself}
use Rattle.overlay_build.proofs.laws.regions.Boundaries.{sum_of-map, when_zero}
use Rattle.overlay_build.proofs.laws.regions.PlaceColumns.{column_of}
use Rattle.overlay_build.proofs.laws.regions.Regions.{sum_below}
use Rattle.overlay_build.proofs.laws.sides.Vertices.{gain, gain_of}

-- ---- the support of a segment follows from the pairs alone

abbrev pub with_count : (WholeSegment → Winding) → WholeSegment → WholeSegment
with_count c s = record { pair = s.pair; count = c s }

module _ (c : WholeSegment → Winding) where
  module _ (cmp : Pair → Pair → Ordering) where
    abbrev better : WholeSegment → WholeSegment → WholeSegment
    better best x = if is_lt (cmp x.pair best.pair) then best else x

    either : (b : Bool) (s t : WholeSegment) → cond b (with_count c s) (with_count c t) ≡ with_count c (cond b s t)
    either true s t = refl
    either false s t = refl

    folded : (best : WholeSegment) (xs : List WholeSegment) → fold better (with_count c best) (map (with_count c) xs) ≡ with_count c (fold better best xs)
    folded best [] = refl
    folded best (x ∷ xs) = ap (λ b. fold better b (map (with_count c) xs)) (either (is_lt (cmp x.pair best.pair)) best x) ∙ folded (better best x) xs

    greatest-map : (xs : List WholeSegment) → greatest (λ t u. cmp t.pair u.pair) (map (with_count c) xs) ≡ option_map (with_count c) (greatest (λ t u. cmp t.pair u.pair) xs)
    unfolding greatest
    greatest-map [] = refl
    greatest-map (x ∷ xs) = ap (λ s. Some s) (folded x xs)

  or-map : (o q : Option WholeSegment) → option_or (option_map (with_count c) o) (option_map (with_count c) q) ≡ option_map (with_count c) (option_or o q)
  or-map None q = refl
  or-map (Some s) q = refl

  neighbor-map : (xs : List WholeSegment) (s : WholeSegment) → neighbor_at_start (map (with_count c) xs) (with_count c s) ≡ option_map (with_count c) (neighbor_at_start xs s)
  unfolding neighbor_at_start
  neighbor-map xs s =
      ap (greatest (λ t u. angle_cmp t.pair u.pair)) (filter-map (λ t. point_eq t.pair.a s.pair.a && is_lt (angle_cmp t.pair s.pair)) (with_count c) xs)
      ∙ greatest-map angle_cmp (filter (λ t. point_eq t.pair.a s.pair.a && is_lt (angle_cmp t.pair s.pair)) xs)

  directly-map : (xs : List WholeSegment) (p : Point) → directly_below (map (with_count c) xs) p ≡ option_map (with_count c) (directly_below xs p)
  unfolding directly_below
  directly-map xs p =
      ap (greatest (λ t u. ordering_then (height_cmp p.x t.pair u.pair) (angle_cmp t.pair u.pair))) (filter-map _ (with_count c) xs)
      ∙ greatest-map (λ t u. ordering_then (height_cmp p.x t u) (angle_cmp t u)) _

  pub support-map : (xs : List WholeSegment) (s : WholeSegment) → support (map (with_count c) xs) (with_count c s) ≡ option_map (with_count c) (support xs s)
  unfolding support
  support-map xs s = ap₂ option_or (neighbor-map xs s) (directly-map xs s.pair.a) ∙ or-map (neighbor_at_start xs s) (directly_below xs s.pair.a)

  pub pairs-map : (xs : List WholeSegment) → pairs (map (with_count c) xs) ≡ pairs xs
  pairs-map [] = refl
  pairs-map (x ∷ xs) = ap (λ l. x.pair ∷ l) (pairs-map xs)

  -- and so is whether they are arranged
  pub arranged-map : (xs : List WholeSegment) → IsArranged xs → IsArranged (map (with_count c) xs)
  arranged-map xs a = record {
    sorted = subst (λ l. is_strictly_sorted pair_cmp l ≡ true) (sym (pairs-map xs)) a.sorted;
    all_ordered = list_all-from_Has (λ s. is_ordered s.pair) (map (with_count c) xs) ordered;
    ordered = ordered;
    apart = apart;
    free = λ s m. list_all-from_Has (λ t. is_free s.pair t) (map (with_count c) xs) (λ t n. and_from _ _ (ordered t n) (apart s t m n));
  }
    where
      ordered : (s : WholeSegment) → Has (map (with_count c) xs) s → is_ordered s.pair ≡ true
      ordered s m = let k = Has-map_out (with_count c) xs s m in subst (λ (v : WholeSegment). is_ordered v.pair ≡ true) k.2 (a.ordered k.0 k.1)

      apart : (s t : WholeSegment) → Has (map (with_count c) xs) s → Has (map (with_count c) xs) t → are_apart s.pair t.pair ≡ true
      apart s t m n =
          let k = Has-map_out (with_count c) xs s m in
          let l = Has-map_out (with_count c) xs t n in
          subst (λ (v : WholeSegment). are_apart v.pair t.pair ≡ true) k.2 (subst (λ (v : WholeSegment). are_apart k.0.pair v.pair ≡ true) l.2 (a.apart k.0 l.0 k.1 l.1))

-- ---- products

spread : (a b c : ℤ) → a *ℤ b +ℤ a *ℤ c ≡ a *ℤ (b +ℤ c)
spread a b c = rw (as_D a, as_D b, as_D c) (simp diffs (D-eq _ _ _ _ (omega arith)))

regroup : (a b x : ℤ) → (a *ℤ x) *ℤ (b *ℤ x) ≡ (x *ℤ x) *ℤ (a *ℤ b)
regroup a b x = rw (as_D a, as_D b, as_D x) (simp diffs (D-eq _ _ _ _ (omega arith)))

no_product : (a b x : ℤ) → a *ℤ b ≡ pos 0 → (a *ℤ x) *ℤ (b *ℤ x) ≡ pos 0
no_product a b x e = regroup a b x ∙ ap (λ z. (x *ℤ x) *ℤ z) e ∙ times_zero (x *ℤ x)

same_product : (a b x : ℤ) → (x ≡ pos 0) ⊎ (b ≡ a) → a *ℤ x ≡ b *ℤ x
same_product a b x (inl e) = ap (λ z. a *ℤ z) e ∙ times_zero a ∙ sym (ap (λ z. b *ℤ z) e ∙ times_zero b)
same_product a b x (inr e) = ap (λ z. z *ℤ x) (sym e)

-- ---- chains of shares

module _ (xs : List WholeSegment) (arranged : IsArranged xs) (f g : WholeSegment → ℤ) where
  abbrev share : WholeSegment → Winding
  share s = record { subj = f s *ℤ s.count.subj; clip = g s *ℤ s.count.subj; mask = 0 }

  abbrev pub shared : List WholeSegment
  shared = map (with_count share) xs

  arranged_shared : IsArranged shared
  arranged_shared = arranged-map share xs arranged

  place : WholeSegment → ℕ
  place s = length (filter (λ u. is_earlier u.pair s.pair) xs)

  place-less : (s t : WholeSegment) → Has xs s → Has xs t → is_earlier t.pair s.pair ≡ true → place t < place s
  unfolding place
  place-less s t m n before =
      length-filter_less (λ u. is_earlier u.pair t.pair) (λ u. is_earlier u.pair s.pair) t xs
      (λ u k h. earlier-trans u.pair t.pair s.pair (arranged.ordered u k) (arranged.ordered t n) (arranged.ordered s m) h before)
      n (earlier_itself t.pair) before

  record IsShare (s : WholeSegment) (whole part : Winding) : Type 0 where
    subj : part.subj ≡ f s *ℤ whole.subj
    clip : part.clip ≡ g s *ℤ whole.subj

  module _ (alike : (s t : WholeSegment) → Has xs s → Has xs t → support xs s ≡ Some t → ((bottom xs s).subj ≡ pos 0) ⊎ ((f s ≡ f t) × (g s ≡ g t))) where
    top_from : (s : WholeSegment) → Has xs s → IsShare s (bottom xs s) (bottom shared (with_count share s)) → IsShare s (top xs s) (top shared (with_count share s))
    top_from s m b =
        let own = top_is_sum xs arranged s m in
        let part = top_is_sum shared arranged_shared (with_count share s) (Has-map (with_count share) xs s m) in
        record {
          subj = ap (λ (w : Winding). w.subj) part ∙ ap (λ z. z +ℤ f s *ℤ s.count.subj) b.subj ∙ spread (f s) (bottom xs s).subj s.count.subj ∙ ap (λ (w : Winding). f s *ℤ w.subj) (sym own);
          clip = ap (λ (w : Winding). w.clip) part ∙ ap (λ z. z +ℤ g s *ℤ s.count.subj) b.clip ∙ spread (g s) (bottom xs s).subj s.count.subj ∙ ap (λ (w : Winding). g s *ℤ w.subj) (sym own);
        }

    bottom_none : (s : WholeSegment) → support xs s ≡ None → IsShare s (bottom xs s) (bottom shared (with_count share s))
    unfolding bottom
    bottom_none s e = rw (support-map share xs s, e) (record { subj = sym (times_zero (f s)); clip = sym (times_zero (g s)) })

    bottom_at : (s t : WholeSegment) → support xs s ≡ Some t → bottom xs s ≡ top xs t
    unfolding bottom
    bottom_at s t e = rw e refl

    bottom_of : (s t : WholeSegment) → support xs s ≡ Some t → bottom shared (with_count share s) ≡ top shared (with_count share t)
    unfolding bottom
    bottom_of s t e = rw (support-map share xs s, e) refl

    bottom_some : (s t : WholeSegment) → Has xs s → Has xs t → support xs s ≡ Some t → IsShare t (top xs t) (top shared (with_count share t)) → IsShare s (bottom xs s) (bottom shared (with_count share s))
    bottom_some s t m n e h =
        let own = bottom_at s t e in
        let part = bottom_of s t e in
        let either = alike s t m n e in
        let level : ((top xs t).subj ≡ pos 0) ⊎ ((f s ≡ f t) × (g s ≡ g t)) = subst (λ (w : Winding). (w.subj ≡ pos 0) ⊎ ((f s ≡ f t) × (g s ≡ g t))) own either in
        record {
          subj = ap (λ (w : Winding). w.subj) part ∙ h.subj ∙ same_product (f t) (f s) (top xs t).subj (elim level [ inl z ↦ inl z | inr q ↦ inr q.0 ]) ∙ ap (λ (w : Winding). f s *ℤ w.subj) (sym own);
          clip = ap (λ (w : Winding). w.clip) part ∙ h.clip ∙ same_product (g t) (g s) (top xs t).subj (elim level [ inl z ↦ inl z | inr q ↦ inr q.1 ]) ∙ ap (λ (w : Winding). g s *ℤ w.subj) (sym own);
        }

    -- of every segment both sides are shared
    both_sides : (n : ℕ) (s : WholeSegment) → Has xs s → place s ≤ n → IsShare s (bottom xs s) (bottom shared (with_count share s)) × IsShare s (top xs s) (top shared (with_count share s))
    both_sides zero s m h = by_earlier xs arranged s m
        (λ e. (bottom_none s e, top_from s m (bottom_none s e)))
        (λ t e k before. absurd (let less = place-less s t m k before in omega (arith, less, h)))
    both_sides (suc n) s m h = by_earlier xs arranged s m
        (λ e. (bottom_none s e, top_from s m (bottom_none s e)))
        (λ t e k before.
        let low = both_sides n t k (let less = place-less s t m k before in omega (arith, less, h)) in
        let b = bottom_some s t m k e low.1 in
        (b, top_from s m b))

    module _ (no_both : (s : WholeSegment) → Has xs s → f s *ℤ g s ≡ pos 0) (balanced : IsBalanced shared) where
      no_side : (s : WholeSegment) (whole part : Winding) → Has xs s → IsShare s whole part → part.subj *ℤ part.clip ≡ pos 0
      no_side s whole part m h = ap₂ (λ (u v : ℤ). u *ℤ v) h.subj h.clip ∙ no_product (f s) (g s) whole.subj (no_both s m)

      no_gain : (s : WholeSegment) → Has shared s → gain_of (λ b c. b *ℤ c) shared s ≡ pos 0
      no_gain s m =
          let k = Has-map_out (with_count share) xs s m in
          let sides = both_sides (place k.0) k.0 k.1 (omega arith) in
          let n = Has-map (with_count share) xs k.0 k.1 in
          let b = no_side k.0 (bottom xs k.0) (bottom shared (with_count share k.0)) k.1 sides.0 in
          let t = no_side k.0 (top xs k.0) (top shared (with_count share k.0)) k.1 sides.1 in
          let eb = bottom_is shared arranged_shared balanced (with_count share k.0) n in
          let et = top_is shared arranged_shared balanced (with_count share k.0) n in
          let zb : (side_bottom shared (with_count share k.0)).subj *ℤ (side_bottom shared (with_count share k.0)).clip ≡ pos 0 = subst (λ (w : Winding). w.subj *ℤ w.clip ≡ pos 0) eb b in
          let zt : (side_top shared (with_count share k.0)).subj *ℤ (side_top shared (with_count share k.0)).clip ≡ pos 0 = subst (λ (w : Winding). w.subj *ℤ w.clip ≡ pos 0) et t in
          subst (λ v. gain_of (λ b c. b *ℤ c) shared v ≡ pos 0) k.2 (less_nothing _ _ zt zb)
        where
          less_nothing : (u v : ℤ) → u ≡ pos 0 → v ≡ pos 0 → u -ℤ v ≡ pos 0
          less_nothing u v e h = omega (arith, ints, e, h)

      no_place : (p : RationalPoint) → 0 < p.bottom → (winding_below shared p).subj *ℤ (winding_below shared p).clip ≡ pos 0
      no_place p some =
          let column = column_of p.x p.bottom some in
          let sum = sum_below shared arranged_shared balanced p column.0 column.1 (λ b c. b *ℤ c) in
          let none = sum_of-zero_in (λ s. when (lies_below s.pair p) (gain_of (λ b c. b *ℤ c) shared s)) shared (λ s m. ap (when (lies_below s.pair p)) (no_gain s m) ∙ when_zero (lies_below s.pair p)) in
          from_nothing _ (sym none ∙ sum)
        where
          from_nothing : (u : ℤ) → pos 0 ≡ u -ℤ (pos 0 *ℤ pos 0) → u ≡ pos 0
          from_nothing u e = omega (arith, ints, e)

-- ---- in sums

-- how often a share of segments winds around a place, and what it gains at a point
abbrev pub share_winding : List WholeSegment → (WholeSegment → ℤ) → RationalPoint → ℤ
share_winding xs f p = sum_of (λ s. when (lies_below s.pair p) (f s *ℤ s.count.subj)) xs

abbrev pub share_flow : List WholeSegment → (WholeSegment → ℤ) → Point → ℤ
share_flow xs f q = sum_of (λ s. when (point_eq s.pair.a q) (f s *ℤ s.count.subj) -ℤ when (point_eq s.pair.b q) (f s *ℤ s.count.subj)) xs

pub shares_apart : (xs : List WholeSegment) (f g : WholeSegment → ℤ) → IsArranged xs →
    ((s t : WholeSegment) → Has xs s → Has xs t → support xs s ≡ Some t → ((bottom xs s).subj ≡ pos 0) ⊎ ((f s ≡ f t) × (g s ≡ g t))) →
    ((s : WholeSegment) → Has xs s → f s *ℤ g s ≡ pos 0) → ((q : Point) → share_flow xs f q ≡ pos 0) → ((q : Point) → share_flow xs g q ≡ pos 0) →
    (p : RationalPoint) → 0 < p.bottom → share_winding xs f p *ℤ share_winding xs g p ≡ pos 0
unfolding winding_below
shares_apart xs f g arranged alike no_both level_f level_g p some =
    let balanced : IsBalanced (shared xs arranged f g) = λ q. balance_is (shared xs arranged f g) q ∙ (λ i. record {
      subj = (sum_of-map (with_count (share xs arranged f g)) (λ s. when (point_eq s.pair.a q) s.count.subj -ℤ when (point_eq s.pair.b q) s.count.subj) xs ∙ level_f q) i;
      clip = (sum_of-map (with_count (share xs arranged f g)) (λ s. when (point_eq s.pair.a q) s.count.clip -ℤ when (point_eq s.pair.b q) s.count.clip) xs ∙ level_g q) i;
      mask = 0;
    }) in
    let is = filter_weights_are (λ s. lies_below s p) (shared xs arranged f g) in
    let subj = ap (λ (w : Winding). w.subj) is ∙ sum_of-map (with_count (share xs arranged f g)) (λ s. when (lies_below s.pair p) s.count.subj) xs in
    let clip = ap (λ (w : Winding). w.clip) is ∙ sum_of-map (with_count (share xs arranged f g)) (λ s. when (lies_below s.pair p) s.count.clip) xs in
    sym (ap₂ (λ (u v : ℤ). u *ℤ v) subj clip) ∙ no_place xs arranged f g alike no_both balanced p some
