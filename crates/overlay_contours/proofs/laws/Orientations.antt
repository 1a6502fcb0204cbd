-- A share of the segments of an arrangement, as the edges of one contour are: how often it winds beside each segment of the
-- arrangement, and around every place.
use Rattle.std.proofs.Common.{◌≡◌, ap, ap₂, refl, sym, subst, ◌∙◌, arith, inl, inr, ℕ, zero, suc, ◌<◌, ◌≤◌}
use Rattle.std.specs.Prelude.{ℤ, pos, negsuc, ◌+ℤ◌, ◌-ℤ◌, ◌*ℤ◌, true, ◌⊎◌, if◌then◌else◌, List, map, filter, length, Some, None}
use Rattle.std.specs.Ordering.{int_eq}
use Rattle.std.proofs.lemmas.Int.{ints}
use Rattle.overlay_geometry.specs.Points.{Point, point_eq}
use Rattle.overlay_geometry.proofs.laws.lists.Lists.{Has, Has-map, Has-map_out}
use Rattle.overlay_base.specs.Balance.{IsBalanced}
use Rattle.overlay_base.specs.Places.{RationalPoint, lies_below, winding_below}
use Rattle.overlay_base.specs.Segments.{WholeSegment}
use Rattle.overlay_base.specs.Windings.{Winding, empty}
use Rattle.overlay_sweep.specs.ChainWindings.{support, top, bottom}
use Rattle.overlay_sweep.specs.ColumnWindings.{side_bottom, side_top}
use Rattle.overlay_sweep.proofs.laws.columns.BalancedSums.{balance_is}
use Rattle.overlay_sweep.proofs.laws.columns.ChainSums.{by_earlier, top_is_sum}
use Rattle.overlay_sweep.proofs.laws.columns.ColumnLines.{filter_weights_are}
use Rattle.overlay_sweep.proofs.laws.columns.Members.{IsArranged}
use Rattle.overlay_sweep.proofs.laws.columns.Tops.{top_is, bottom_is, length-filter_less}
use Rattle.overlay_sweep.proofs.laws.columns.WeightSums.{when, sum_of}
use Rattle.overlay_sweep.proofs.laws.live.Sides.{sum_of-zero_in}
use Rattle.overlay_sweep.proofs.laws.live.Supports.{is_earlier, earlier-trans, earlier_itself}
use Rattle.overlay_build.proofs.laws.regions.Boundaries.{sum_of-map, when_zero}
use Rattle.overlay_build.proofs.laws.regions.PlaceColumns.{column_of}
use Rattle.overlay_build.proofs.laws.regions.Regions.{sum_below}
use Rattle.overlay_build.proofs.laws.sides.Vertices.{gain_of}
use Rattle.overlay_shapes.proofs.laws.SharedRegions.{with_count, support-map, arranged-map, share_winding, share_flow}
use Rattle.overlay_contours.proofs.laws.ShapeCounts.{zero_product}

-- ---- numbers

nothing_more : (x : ℤ) → pos 0 +ℤ pos 0 *ℤ x ≡ pos 0
nothing_more x = omega (arith, ints)

none_of : (b x : ℤ) → b +ℤ pos 0 *ℤ x ≡ b
none_of b x = omega (arith, ints)

-- 0 at a number and at the one before it
abbrev at_two : ℤ → ℤ → ℤ
at_two k b = (b -ℤ k) *ℤ (b -ℤ (k -ℤ pos 1))

zero_times : (x : ℤ) → pos 0 *ℤ x ≡ pos 0
zero_times x = omega (arith, ints)

times_none : (x : ℤ) → x *ℤ pos 0 ≡ pos 0
times_none x = omega (arith, ints)

zero_at : (k b : ℤ) → (b ≡ k) ⊎ (b ≡ k -ℤ pos 1) → at_two k b ≡ pos 0
zero_at k b (inl e) = let z : b -ℤ k ≡ pos 0 = omega (arith, ints, e) in ap (λ (x : ℤ). x *ℤ (b -ℤ (k -ℤ pos 1))) z ∙ zero_times (b -ℤ (k -ℤ pos 1))
zero_at k b (inr e) = let z : b -ℤ (k -ℤ pos 1) ≡ pos 0 = omega (arith, ints, e) in ap (λ (x : ℤ). (b -ℤ k) *ℤ x) z ∙ times_none (b -ℤ k)

from_zero : (k b : ℤ) → at_two k b ≡ pos 0 → (b ≡ k) ⊎ (b ≡ k -ℤ pos 1)
from_zero k b e = elim (zero_product (b -ℤ k) (b -ℤ (k -ℤ pos 1)) e) [ inl z ↦ inl (omega (arith, ints, z)) | inr z ↦ inr (omega (arith, ints, z)) ]

up_by_one : (h b f c k : ℤ) → h ≡ b +ℤ f *ℤ c → f ≡ pos 1 → c ≡ pos 1 → h ≡ k → b ≡ k -ℤ pos 1
up_by_one h b f c k e i j l = let one : f *ℤ c ≡ pos 1 = ap₂ (λ (x y : ℤ). x *ℤ y) i j in omega (arith, ints, e, one, l)

down_by_one : (h b f c k : ℤ) → h ≡ b +ℤ f *ℤ c → f ≡ pos 1 → c ≡ negsuc 0 → b ≡ k → h ≡ k -ℤ pos 1
down_by_one h b f c k e i j l = let one : f *ℤ c ≡ negsuc 0 = ap₂ (λ (x y : ℤ). x *ℤ y) i j in omega (arith, ints, e, one, l)

from_nothing : (u v : ℤ) → pos 0 ≡ u -ℤ v → u ≡ v
from_nothing u v e = omega (arith, ints, e)

less_same : (u v : ℤ) → u ≡ v → u -ℤ v ≡ pos 0
less_same u v e = omega (arith, ints, e)

-- ---- beside each segment

module _ (xs : List WholeSegment) (arranged : IsArranged xs) (f : WholeSegment → ℤ) where
  abbrev pub part : WholeSegment → Winding
  part s = record { subj = f s *ℤ s.count.subj; clip = pos 0; mask = 0 }

  abbrev pub parted : List WholeSegment
  parted = map (with_count part) xs

  -- how often the share winds below a segment, and above it
  abbrev pub low : WholeSegment → ℤ
  low s = (bottom (map (with_count part) xs) (with_count part s)).subj

  abbrev pub high : WholeSegment → ℤ
  high s = (top (map (with_count part) xs) (with_count part s)).subj

  -- and on its left
  abbrev pub left : WholeSegment → ℤ
  left s = if int_eq s.count.subj (pos 1) then high s else low s

  pub left_up : (s : WholeSegment) → s.count.subj ≡ pos 1 → left s ≡ high s
  left_up s e = ap (λ (z : ℤ). if int_eq z (pos 1) then high s else low s) e

  pub left_down : (s : WholeSegment) → s.count.subj ≡ negsuc 0 → left s ≡ low s
  left_down s e = ap (λ (z : ℤ). if int_eq z (pos 1) then high s else low s) e

  pub arranged_parted : IsArranged parted
  arranged_parted = arranged-map part xs arranged

  pub high_is : (s : WholeSegment) → Has xs s → high s ≡ low s +ℤ f s *ℤ s.count.subj
  high_is s m = ap (λ (w : Winding). w.subj) (top_is_sum parted arranged_parted (with_count part s) (Has-map (with_count part) xs s m))

  bottom_none : (s : WholeSegment) → support xs s ≡ None → bottom parted (with_count part s) ≡ empty
  unfolding bottom
  bottom_none s e = rw (support-map part xs s, e) refl

  bottom_some : (s t : WholeSegment) → support xs s ≡ Some t → bottom parted (with_count part s) ≡ top parted (with_count part t)
  unfolding bottom
  bottom_some s t e = rw (support-map part xs s, e) refl

  low_none : (s : WholeSegment) → support xs s ≡ None → low s ≡ pos 0
  low_none s e = ap (λ (w : Winding). w.subj) (bottom_none s e)

  pub low_some : (s t : WholeSegment) → support xs s ≡ Some t → low s ≡ high t
  low_some s t e = ap (λ (w : Winding). w.subj) (bottom_some s t e)

  place : WholeSegment → ℕ
  place s = length (filter (λ u. is_earlier u.pair s.pair) xs)

  place-less : (s t : WholeSegment) → Has xs s → Has xs t → is_earlier t.pair s.pair ≡ true → place t < place s
  unfolding place
  place-less s t m n before =
      length-filter_less (λ u. is_earlier u.pair t.pair) (λ u. is_earlier u.pair s.pair) t xs
      (λ u k h. earlier-trans u.pair t.pair s.pair (arranged.ordered u k) (arranged.ordered t n) (arranged.ordered s m) h before)
      n (earlier_itself t.pair) before

  abbrev pub NoneEarlier : WholeSegment → Type 0
  NoneEarlier s = (u : WholeSegment) → Has xs u → is_earlier u.pair s.pair ≡ true → f u ≡ pos 0

  zero_below : (n : ℕ) (s : WholeSegment) → Has xs s → place s ≤ n → NoneEarlier s → low s ≡ pos 0
  zero_below zero s m h none = by_earlier xs arranged s m (λ e. low_none s e) (λ t e k before. absurd (let less = place-less s t m k before in omega (arith, less, h)))
  zero_below (suc n) s m h none = by_earlier xs arranged s m (λ e. low_none s e)
      (λ t e k before.
      let b = zero_below n t k (let less = place-less s t m k before in omega (arith, less, h)) (λ u l sooner. none u l (earlier-trans u.pair t.pair s.pair (arranged.ordered u l) (arranged.ordered t k) (arranged.ordered s m) sooner before)) in
      low_some s t e ∙ high_is t k ∙ ap₂ (λ (x y : ℤ). x +ℤ y *ℤ t.count.subj) b (none t k before) ∙ nothing_more t.count.subj)

  -- below the first segment of a share it does not wind
  pub low_first : (s : WholeSegment) → Has xs s → NoneEarlier s → low s ≡ pos 0
  low_first s m none = zero_below (place s) s m (omega arith) none

  -- a segment that is not in the share has it alike on both sides
  pub high_alike : (s : WholeSegment) → Has xs s → f s ≡ pos 0 → high s ≡ low s
  high_alike s m e = high_is s m ∙ ap (λ (z : ℤ). low s +ℤ z *ℤ s.count.subj) e ∙ none_of (low s) s.count.subj

  -- ---- around every place

  module _ (level : (q : Point) → share_flow xs f q ≡ pos 0) where
    pub balanced : IsBalanced parted
    balanced q = balance_is parted q ∙ (λ i. record {
      subj = (sum_of-map (with_count part) (λ s. when (point_eq s.pair.a q) s.count.subj -ℤ when (point_eq s.pair.b q) s.count.subj) xs ∙ level q) i;
      clip = (sum_of-map (with_count part) (λ s. when (point_eq s.pair.a q) s.count.clip -ℤ when (point_eq s.pair.b q) s.count.clip) xs ∙ no_clip q) i;
      mask = 0;
    })
      where
        no_clip : (q : Point) → sum_of (λ s. when (point_eq s.pair.a q) (pos 0) -ℤ when (point_eq s.pair.b q) (pos 0)) xs ≡ pos 0
        no_clip q = sum_of-zero_in (λ s. when (point_eq s.pair.a q) (pos 0) -ℤ when (point_eq s.pair.b q) (pos 0)) xs (λ s m. ap₂ (λ (x y : ℤ). x -ℤ y) (when_zero (point_eq s.pair.a q)) (when_zero (point_eq s.pair.b q)))

    pub high_side : (s : WholeSegment) → Has xs s → high s ≡ (side_top parted (with_count part s)).subj
    high_side s m = ap (λ (w : Winding). w.subj) (top_is parted arranged_parted balanced (with_count part s) (Has-map (with_count part) xs s m))

    pub low_side : (s : WholeSegment) → Has xs s → low s ≡ (side_bottom parted (with_count part s)).subj
    low_side s m = ap (λ (w : Winding). w.subj) (bottom_is parted arranged_parted balanced (with_count part s) (Has-map (with_count part) xs s m))

    winds : (p : RationalPoint) → (winding_below parted p).subj ≡ share_winding xs f p
    unfolding winding_below
    winds p = ap (λ (w : Winding). w.subj) (filter_weights_are (λ s. lies_below s p) parted) ∙ sum_of-map (with_count part) (λ s. when (lies_below s.pair p) s.count.subj) xs

    module _ (G : ℤ → ℤ) (same : (s : WholeSegment) → Has xs s → G (high s) ≡ G (low s)) where
      no_gain : (s : WholeSegment) → Has parted s → gain_of (λ b c. G b) parted s ≡ pos 0
      no_gain s m =
          let k = Has-map_out (with_count part) xs s m in
          subst (λ v. gain_of (λ b c. G b) parted v ≡ pos 0) k.2 (less_same _ _ (ap G (sym (high_side k.0 k.1)) ∙ same k.0 k.1 ∙ ap G (low_side k.0 k.1)))

      -- what is alike on both sides of each segment is alike everywhere
      alike_everywhere : (p : RationalPoint) → 0 < p.bottom → G (share_winding xs f p) ≡ G (pos 0)
      alike_everywhere p some =
          let column = column_of p.x p.bottom some in
          let sum = sum_below parted arranged_parted balanced p column.0 column.1 (λ b c. G b) in
          let none = sum_of-zero_in (λ s. when (lies_below s.pair p) (gain_of (λ b c. G b) parted s)) parted (λ s m. ap (when (lies_below s.pair p)) (no_gain s m) ∙ when_zero (lies_below s.pair p)) in
          ap G (sym (winds p)) ∙ from_nothing _ _ (sym none ∙ sum)

    -- Where on the left of each of its segments it winds so often, it winds so often or once less around every place.
    pub two_levels : (k : ℤ) → (k ≡ pos 0) ⊎ (k ≡ pos 1) →
        ((s : WholeSegment) → Has xs s → (s.count.subj ≡ pos 1) ⊎ (s.count.subj ≡ negsuc 0)) →
        ((s : WholeSegment) → Has xs s → (f s ≡ pos 0) ⊎ ((f s ≡ pos 1) × (left s ≡ k))) →
        (p : RationalPoint) → 0 < p.bottom → (share_winding xs f p ≡ k) ⊎ (share_winding xs f p ≡ k -ℤ pos 1)
    two_levels k some_level unit each p some =
        from_zero k (share_winding xs f p) (alike_everywhere (at_two k) same p some ∙ zero_at k (pos 0) (first_level some_level))
      where
        first_level : (k ≡ pos 0) ⊎ (k ≡ pos 1) → (pos 0 ≡ k) ⊎ (pos 0 ≡ k -ℤ pos 1)
        first_level (inl e) = inl (sym e)
        first_level (inr e) = inr (omega (arith, ints, e))

        both : (s : WholeSegment) → (high s ≡ k) ⊎ (high s ≡ k -ℤ pos 1) → (low s ≡ k) ⊎ (low s ≡ k -ℤ pos 1) → at_two k (high s) ≡ at_two k (low s)
        both s h l = zero_at k (high s) h ∙ sym (zero_at k (low s) l)

        same : (s : WholeSegment) → Has xs s → at_two k (high s) ≡ at_two k (low s)
        same s m = elim (each s m) [
          | inl z ↦ ap (at_two k) (high_alike s m z)
          | inr q ↦ elim (unit s m) [
            | inl up ↦ (let h : high s ≡ k = sym (left_up s up) ∙ q.1 in both s (inl h) (inr (up_by_one (high s) (low s) (f s) s.count.subj k (high_is s m) q.0 up h)))
            | inr down ↦ (let l : low s ≡ k = sym (left_down s down) ∙ q.1 in both s (inr (down_by_one (high s) (low s) (f s) s.count.subj k (high_is s m) q.0 down l)) (inl l))
          ]
        ]
