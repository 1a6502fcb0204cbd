-- The windings of chains without balance: the top of each segment is its own weight on top of its bottom.
use Rattle.std.proofs.Common.{◌≡◌, ap, refl, sym, arith}
use Rattle.std.specs.Prelude.{ℕ, zero, suc, ◌<◌, ◌≤◌, true, List, filter, length, Some, None}
use Rattle.std.proofs.lemmas.Bool.{and_parts, or_left, or_right}
use Rattle.overlay_base.specs.Windings.{Winding, add, weight}
use Rattle.overlay_base.specs.Segments.{WholeSegment}
use Rattle.overlay_sweep.specs.ChainWindings.{neighbor_at_start, directly_below, support, top_within, top, bottom, is_live}
use Rattle.overlay_sweep.specs.Laws.{TopsAddWeights}
use Rattle.overlay_sweep.proofs.laws.columns.ColumnLines.{is_under}
use Rattle.overlay_sweep.proofs.laws.columns.Members.{IsArranged, All-from_Has, is_arranged}
use Rattle.overlay_sweep.proofs.laws.live.Supports.{is_earlier, earlier-trans, earlier_itself, earlier_beneath}
use Rattle.overlay_sweep.proofs.laws.columns.Tops.{by_option, starts_before, lives_under, here_neighbor, neighbor_is, here_live, directly_is, length-filter_le, length-filter_less, filter_all, empty_add}
use Rattle.overlay_geometry.proofs.laws.lists.Lists.{Has, Has-filter_out}

module _ (xs : List WholeSegment) (arranged : IsArranged xs) where
  earlier_neighbor : (s t : WholeSegment) → Has xs s → neighbor_at_start xs s ≡ Some t → Has xs t × (is_earlier t.pair s.pair ≡ true)
  earlier_neighbor s t m e =
      let k = neighbor_is xs arranged s m t e in
      let here = here_neighbor xs arranged s m t k.0 in
      let before = (Has-filter_out (λ u. starts_before s u) xs t k.0).1 in
      (here.0, earlier_beneath s.pair t.pair here.1 (or_right (is_under s.pair.a t.pair) _ before))

  earlier_below : (s t : WholeSegment) → Has xs s → directly_below xs s.pair.a ≡ Some t → Has xs t × (is_earlier t.pair s.pair ≡ true)
  earlier_below s t m e =
      let k = directly_is xs arranged s m t e in
      let here = here_live xs arranged s m t k.0 in
      let lives = (Has-filter_out (λ u. lives_under s u) xs t k.0).1 in
      (here.0, earlier_beneath s.pair t.pair here.1 (or_left _ _ (and_parts (is_live s.pair.a.x t.pair) _ lives).1))

  -- the support of a segment comes earlier
  pub by_earlier : {P : Type 0} (s : WholeSegment) → Has xs s → (support xs s ≡ None → P) → ((t : WholeSegment) → support xs s ≡ Some t → Has xs t → is_earlier t.pair s.pair ≡ true → P) → P
  unfolding support
  by_earlier s m f g = by_option (neighbor_at_start xs s)
      (λ e. by_option (directly_below xs s.pair.a) (λ d. f (rw (e, d) refl)) (λ t d. let k = earlier_below s t m d in g t (rw (e, d) refl) k.0 k.1))
      (λ t e. let k = earlier_neighbor s t m e in g t (rw e refl) k.0 k.1)

  place : WholeSegment → ℕ
  place s = length (filter (λ u. is_earlier u.pair s.pair) xs)

  place-less : (s t : WholeSegment) → Has xs s → Has xs t → is_earlier t.pair s.pair ≡ true → place t < place s
  unfolding place
  place-less s t m n before =
      length-filter_less (λ u. is_earlier u.pair t.pair) (λ u. is_earlier u.pair s.pair) t xs
      (λ u k h. earlier-trans u.pair t.pair s.pair (arranged.ordered u k) (arranged.ordered t n) (arranged.ordered s m) h before)
      n (earlier_itself t.pair) before

  place-bound : (s : WholeSegment) → place s ≤ length xs
  unfolding place
  place-bound s = let h = length-filter_le (λ u. is_earlier u.pair s.pair) (λ u. true) xs (λ u m e. refl) in let k = filter_all xs in omega (arith, h, k)

  -- more steps than segments that come earlier change nothing
  top_within-more : (n : ℕ) (s : WholeSegment) → Has xs s → place s ≤ n → top_within n xs s ≡ top_within (suc n) xs s
  unfolding top_within
  top_within-more zero s m h = by_earlier s m
      (λ e. rw e (sym (empty_add s.count)))
      (λ t e n before. absurd (let less = place-less s t m n before in omega (arith, less, h)))
  top_within-more (suc n) s m h = by_earlier s m
      (λ e. rw e refl)
      (λ t e k before. rw e (ap (λ (w : Winding). add w (weight s.count)) (top_within-more n t k (let less = place-less s t m k before in omega (arith, less, h)))))

  -- the top of a segment is its weight on top of its bottom
  pub top_is_sum : (s : WholeSegment) → Has xs s → top xs s ≡ add (bottom xs s) (weight s.count)
  unfolding top bottom top_within
  top_is_sum s m = top_within-more (length xs) s m (place-bound s)

-- of every segment of an arrangement
pub tops_add_weights : TopsAddWeights
tops_add_weights xs map planar = All-from_Has (λ s. top xs s ≡ add (bottom xs s) (weight s.count)) xs (top_is_sum xs (is_arranged xs map planar))
