-- Along the segments that start at one point, in order of angle, each has the one before it as its support.
use Rattle.std.proofs.Common.{◌≡◌, ap, sym, subst, ◌∙◌, inl, inr}
use Rattle.std.specs.Prelude.{true, false, ◌⊎◌, List, [], ◌∷◌}
use Rattle.std.specs.List.{AllByRecursion}
use Rattle.std.specs.Option.{option_map_or}
use Rattle.std.specs.Ordering.{is_lt}
use Rattle.std.proofs.lemmas.Bool.{and_parts, and_from, both_ways}
use Rattle.overlay_geometry.specs.Points.{Point, point_eq, point_lt}
use Rattle.overlay_base.specs.Windings.{Winding, empty}
use Rattle.overlay_base.specs.Segments.{WholeSegment}
use Rattle.overlay_geometry.specs.Below.{angle_cmp}
use Rattle.overlay_geometry.proofs.laws.lists.Lists.{Pairwise, AllByRecursion-at, Has, Has-filter, Has-filter_out}
use Rattle.overlay_geometry.proofs.laws.geometry.Points.{same_by_eq, point_eq_same, point_lt-irreflexive}
use Rattle.overlay_sweep.specs.ChainWindings.{neighbor_at_start, directly_below, support, top, bottom}
use Rattle.overlay_sweep.proofs.laws.columns.Members.{IsArranged}
use Rattle.overlay_sweep.proofs.laws.live.Supports.{earlier-trans, earlier-cases, earlier_at_start, angle_same, angle_asymmetric}
use Rattle.overlay_sweep.proofs.laws.columns.Tops.{by_option, starts_before, neighbor_is, no_neighbor}

-- each has the one before it below, and the first one the winding w
abbrev pub IsChain : List WholeSegment → Winding → List WholeSegment → Type 0
IsChain xs w [] = Unit {0}
IsChain xs w (s ∷ ss) = (bottom xs s ≡ w) × IsChain xs (top xs s) ss

-- the segments of a list that start at p, in order of angle
pub record AreStartingAt (xs : List WholeSegment) (p : Point) (ns : List WholeSegment) : Type 0 where
  pub members : AllByRecursion (λ s. Has xs s × (s.pair.a ≡ p)) ns
  pub complete : (s : WholeSegment) → Has xs s → s.pair.a ≡ p → Has ns s
  pub rising : Pairwise (λ s t. is_lt (angle_cmp s.pair t.pair) ≡ true) ns

module _ (xs : List WholeSegment) (arranged : IsArranged xs) (p : Point) where
  starts_before_from : (s t : WholeSegment) → s.pair.a ≡ p → t.pair.a ≡ p → is_lt (angle_cmp t.pair s.pair) ≡ true → starts_before s t ≡ true
  starts_before_from s t e f h = and_from _ _ (subst (λ q. point_eq t.pair.a q ≡ true) (f ∙ sym e) (point_eq_same t.pair.a)) h

  start_of : (s t : WholeSegment) → s.pair.a ≡ p → starts_before s t ≡ true → (t.pair.a ≡ p) × (is_lt (angle_cmp t.pair s.pair) ≡ true)
  start_of s t e h = let parts = and_parts (point_eq t.pair.a s.pair.a) _ h in (same_by_eq t.pair.a s.pair.a parts.0 ∙ e, parts.1)

  pub angle_trans : (r s t : WholeSegment) → Has xs r → Has xs s → Has xs t → r.pair.a ≡ p → s.pair.a ≡ p → t.pair.a ≡ p → is_lt (angle_cmp r.pair s.pair) ≡ true → is_lt (angle_cmp s.pair t.pair) ≡ true → is_lt (angle_cmp r.pair t.pair) ≡ true
  angle_trans r s t m n k e f g h l =
      let first = earlier_at_start r.pair s.pair (e ∙ sym f) h in
      let second = earlier_at_start s.pair t.pair (f ∙ sym g) l in
      elim (earlier-cases r.pair t.pair (earlier-trans r.pair s.pair t.pair (arranged.ordered r m) (arranged.ordered s n) (arranged.ordered t k) first second)) [
        | inl before ↦ absurd (both_ways (point_lt r.pair.a t.pair.a) (subst (λ q. point_lt r.pair.a q ≡ false) (e ∙ sym g) (point_lt-irreflexive r.pair.a)) before)
        | inr same ↦ same.1
      ]

  not_before_itself : (s : WholeSegment) → is_lt (angle_cmp s.pair s.pair) ≡ true → ⊥
  not_before_itself s h = both_ways (is_lt (angle_cmp s.pair s.pair)) (angle_same s.pair) h

  -- the first one has no neighbor
  bottom_of_first : (s : WholeSegment) → Has xs s → s.pair.a ≡ p → ((t : WholeSegment) → Has xs t → t.pair.a ≡ p → is_lt (angle_cmp t.pair s.pair) ≡ true → ⊥) → bottom xs s ≡ option_map_or (λ t. top xs t) (directly_below xs p) empty
  unfolding bottom support
  bottom_of_first s m e none =
      by_option (neighbor_at_start xs s)
      (λ n. rw n (ap (λ q. option_map_or (λ t. top xs t) (directly_below xs q) empty) e))
      (λ t n. let k = Has-filter_out (λ u. starts_before s u) xs t (neighbor_is xs arranged s m t n).0 in let q = start_of s t e k.1 in absurd (none t k.0 q.0 q.1))

  -- each later one has the one before it as its support
  bottom_of_next : (s u : WholeSegment) → Has xs s → s.pair.a ≡ p → Has xs u → u.pair.a ≡ p → is_lt (angle_cmp u.pair s.pair) ≡ true →
      ((t : WholeSegment) → Has xs t → t.pair.a ≡ p → is_lt (angle_cmp t.pair s.pair) ≡ true → (t ≡ u) ⊎ (is_lt (angle_cmp t.pair u.pair) ≡ true)) → bottom xs s ≡ top xs u
  unfolding bottom support
  bottom_of_next s u m e n f h last =
      by_option (neighbor_at_start xs s)
      (λ none. absurd (no_neighbor xs arranged s m none u n (starts_before_from s u e f h)))
      (λ t found.
      let k = neighbor_is xs arranged s m t found in
      let mine = Has-filter_out (λ v. starts_before s v) xs t k.0 in
      let q = start_of s t e mine.1 in
      elim (last t mine.0 q.0 q.1) [
        | inl same ↦ rw found (ap (λ v. top xs v) same)
        | inr less ↦ absurd (both_ways (is_lt (angle_cmp t.pair u.pair)) (k.1 u (Has-filter (λ v. starts_before s v) xs u n (starts_before_from s u e f h))) less)
      ])

  chain_from : (u : WholeSegment) (ss : List WholeSegment) → Has xs u → u.pair.a ≡ p →
      AllByRecursion (λ s. Has xs s × (s.pair.a ≡ p)) ss → AllByRecursion (λ s. is_lt (angle_cmp u.pair s.pair) ≡ true) ss → Pairwise (λ s t. is_lt (angle_cmp s.pair t.pair) ≡ true) ss →
      ((t : WholeSegment) → Has xs t → t.pair.a ≡ p → Has ss t ⊎ ((t ≡ u) ⊎ (is_lt (angle_cmp t.pair u.pair) ≡ true))) → IsChain xs (top xs u) ss
  chain_from u [] m e a h r all = tt
  chain_from u (s ∷ ss) m e a h r all = (
    bottom_of_next s u a.0.0 a.0.1 m e h.0 (λ t n f l. elim (all t n f) [
      | inl (inl same) ↦ absurd (not_before_itself s (subst (λ v. is_lt (angle_cmp v.pair s.pair) ≡ true) (sym same) l))
      | inl (inr later) ↦ absurd (both_ways (is_lt (angle_cmp t.pair s.pair)) (angle_asymmetric s.pair t.pair (AllByRecursion-at (λ v. is_lt (angle_cmp s.pair v.pair) ≡ true) ss t r.0 later)) l)
      | inr earlier ↦ earlier
    ]),
    chain_from s ss a.0.0 a.0.1 a.1 r.0 r.1 (λ t n f. elim (all t n f) [
      | inl (inl same) ↦ inr (inl (sym same))
      | inl (inr later) ↦ inl later
      | inr (inl same) ↦ inr (inr (subst (λ v. is_lt (angle_cmp v.pair s.pair) ≡ true) (sym same) h.0))
      | inr (inr less) ↦ inr (inr (angle_trans t u s n m a.0.0 f e a.0.1 less h.0))
    ]),
  )

  -- the segments that start at p are a chain on what lies directly below it
  pub starting_are_chain : (ns : List WholeSegment) → AreStartingAt xs p ns → IsChain xs (option_map_or (λ t. top xs t) (directly_below xs p) empty) ns
  starting_are_chain [] starting = tt
  starting_are_chain (s ∷ ss) starting = (
    bottom_of_first s starting.members.0.0 starting.members.0.1 (λ t n f l. elim (starting.complete t n f) [
      | inl same ↦ not_before_itself s (subst (λ v. is_lt (angle_cmp v.pair s.pair) ≡ true) (sym same) l)
      | inr later ↦ both_ways (is_lt (angle_cmp t.pair s.pair)) (angle_asymmetric s.pair t.pair (AllByRecursion-at (λ v. is_lt (angle_cmp s.pair v.pair) ≡ true) ss t starting.rising.0 later)) l
    ]),
    chain_from s ss starting.members.0.0 starting.members.0.1 starting.members.1 starting.rising.0 starting.rising.1 (λ t n f. elim (starting.complete t n f) [
      | inl same ↦ inr (inl (sym same))
      | inr later ↦ inl later
    ]),
  )
