-- An even number of segments whose sides differ under a rule meets at each point of a planar, balanced arrangement.
use Rattle.std.proofs.Common.{◌≡◌, ap, refl, sym, ◌∙◌, arith, inl, inr}
use Rattle.std.specs.Prelude.{ℕ, ◌+◌, ◌%◌, ℤ, pos, ◌+ℤ◌, ◌-ℤ◌, ◌<ℤ◌, IsTrue, Bool, true, false, ◌&&◌, ◌||◌, ◌⊎◌, List, filter, length}
use Rattle.std.proofs.lemmas.Int.{ints}
use Rattle.std.proofs.lemmas.Bool.{or_cases, or_parts, both_ways, false_from_ne_true}
use Rattle.std.proofs.lemmas.Bool.Decides.{Decides-int_eq}
use Rattle.overlay_geometry.specs.Points.{Point, point_eq, is_vertical, is_strictly_inside}
use Rattle.overlay_base.specs.Windings.{Winding}
use Rattle.overlay_base.specs.Segments.{WholeSegment, is_map}
use Rattle.overlay_base.specs.Planar.{is_planar}
use Rattle.overlay_base.specs.Balance.{IsBalanced}
use Rattle.overlay_sweep.specs.ColumnWindings.{spans_column, weights_up_to, side_bottom, side_top}
use Rattle.overlay_base.specs.declared.overlay_core.fill_rule.FillRule.{FillRule}
use Rattle.overlay_sweep.specs.Fill.{flag_value, is_inside}
use Rattle.overlay_build.specs.Values.{tells_apart, value_at}
use Rattle.overlay_build.specs.Boundary.{truth}
use Rattle.overlay_build.specs.Sides.{has_sides_apart}
use Rattle.overlay_geometry.proofs.laws.geometry.Points.{same_by_eq}
use Rattle.overlay_sweep.proofs.laws.columns.WeightSums.{when, sum_of, sum_of-add, sum_of-filter}
use Rattle.overlay_sweep.proofs.laws.columns.ColumnLines.{is_under, column_weights, spans_column-true, spans_column-false_before, spans_column-false_after, point_lt-cases}
use Rattle.overlay_sweep.proofs.laws.columns.Parity.{odd_of, odd_of_is}
use Rattle.overlay_sweep.proofs.laws.columns.Members.{IsArranged, is_arranged}
use Rattle.overlay_sweep.proofs.laws.live.Sides.{sum_of-same_in, sum_of-zero_in, apart_in}
use Rattle.overlay_build.proofs.laws.sides.Vertices.{gain, gain_of, gain_right, gain_left}
use Rattle.overlay_build.proofs.laws.sides.Uprights.{when_nothing, gain_up, gain_down}
use Rattle.overlay_build.proofs.laws.sides.Parities.{tells_sides_of, HasParity, same_parity, parity_of_sum, parity_of_gain, parity_where}
use Rattle.overlay_geometry.proofs.laws.lists.Lists.{Has, by_list_any}

round_vertex : (r0 r1 l0 l1 : ℤ) → (r1 -ℤ r0) +ℤ (l1 -ℤ r1) ≡ (l1 -ℤ l0) +ℤ (l0 -ℤ r0)
round_vertex r0 r1 l0 l1 = omega (arith, ints)

even_by_flags : (m n : ℕ) (a b : Bool) → m % 2 ≡ flag_value a 1 → n % 2 ≡ flag_value b 1 → a ≡ b → (m + n) % 2 ≡ 0
even_by_flags m n true true p q e = omega arith
even_by_flags m n true false p q e = absurd (cc)
even_by_flags m n false true p q e = absurd (cc)
even_by_flags m n false false p q e = omega arith

-- a segment is upright or spans the column, one of the two
two_kinds : (sp v at : Bool) (z : ℤ) → (at ≡ true → ((sp ≡ true) × (v ≡ false)) ⊎ ((sp ≡ false) × (v ≡ true))) → when at z ≡ when (sp && at) z +ℤ when (v && at) z
two_kinds true true true z h = elim (h refl) [ inl e ↦ absurd (both_ways true e.1 refl) | inr e ↦ absurd (both_ways true e.0 refl) ]
two_kinds true false true z h = omega (arith, ints)
two_kinds false true true z h = omega (arith, ints)
two_kinds false false true z h = elim (h refl) [ inl e ↦ absurd (both_ways false refl e.0) | inr e ↦ absurd (both_ways false refl e.1) ]
two_kinds true true false z h = refl
two_kinds true false false z h = refl
two_kinds false true false z h = refl
two_kinds false false false z h = refl

module _ (xs : List WholeSegment) (arranged : IsArranged xs) (balanced : IsBalanced xs) (p : Point) where
  level : (u : WholeSegment) → u.pair.a.x ≡ u.pair.b.x → is_vertical u.pair ≡ true
  level u e = (Decides-int_eq u.pair.a.x u.pair.b.x).1 e

  slanted : (u : WholeSegment) → u.pair.a.x <ℤ u.pair.b.x → is_vertical u.pair ≡ false
  slanted u h = false_from_ne_true _ (λ e. let same = (Decides-int_eq u.pair.a.x u.pair.b.x).0 e in omega (arith, ints))

  start_kinds : (u : WholeSegment) → Has xs u → point_eq u.pair.a p ≡ true → ((spans_column p.x u.pair ≡ true) × (is_vertical u.pair ≡ false)) ⊎ ((spans_column p.x u.pair ≡ false) × (is_vertical u.pair ≡ true))
  start_kinds u m e =
      let x : u.pair.a.x ≡ p.x = ap (λ (q : Point). q.x) (same_by_eq u.pair.a p e) in
      elim (point_lt-cases u.pair.a u.pair.b (arranged.ordered u m)) [
        | inl h ↦ inl (spans_column-true p.x u.pair (omega (arith, ints)) (omega (arith, ints)), slanted u h)
        | inr h ↦ (let same = h.0 in inr (spans_column-false_after p.x u.pair (omega (arith, ints)), level u h.0))
      ]

  end_kinds : (u : WholeSegment) → Has xs u → point_eq u.pair.b p ≡ true → ((spans_column (p.x -ℤ pos 1) u.pair ≡ true) × (is_vertical u.pair ≡ false)) ⊎ ((spans_column (p.x -ℤ pos 1) u.pair ≡ false) × (is_vertical u.pair ≡ true))
  end_kinds u m e =
      let x : u.pair.b.x ≡ p.x = ap (λ (q : Point). q.x) (same_by_eq u.pair.b p e) in
      elim (point_lt-cases u.pair.a u.pair.b (arranged.ordered u m)) [
        | inl h ↦ inl (spans_column-true (p.x -ℤ pos 1) u.pair (omega (arith, ints)) (omega (arith, ints)), slanted u h)
        | inr h ↦ (let same = h.0 in inr (spans_column-false_before (p.x -ℤ pos 1) u.pair (omega (arith, ints)), level u h.0))
      ]

  module _ (G : ℤ → ℤ → ℤ) where
    -- what is gained along the segments that start at p, and along those that end there
    abbrev pub gain_out : ℤ
    gain_out = sum_of (λ u. when (point_eq u.pair.a p) (gain_of G xs u)) xs

    abbrev pub gain_in : ℤ
    gain_in = sum_of (λ u. when (point_eq u.pair.b p) (gain_of G xs u)) xs

    module _ (free_point : (u : WholeSegment) → Has xs u → is_strictly_inside u.pair p ≡ true → ⊥) where
      sum_starts : gain_out ≡ sum_of (gain_of G xs) (filter (λ s. spans_column p.x s.pair && point_eq s.pair.a p) xs) +ℤ sum_of (λ u. when (is_vertical u.pair && point_eq u.pair.a p) (gain_of G xs u)) xs
      sum_starts =
          sum_of-same_in (λ u. when (point_eq u.pair.a p) (gain_of G xs u)) (λ u. when (spans_column p.x u.pair && point_eq u.pair.a p) (gain_of G xs u) +ℤ when (is_vertical u.pair && point_eq u.pair.a p) (gain_of G xs u)) xs (λ u m. two_kinds (spans_column p.x u.pair) (is_vertical u.pair) (point_eq u.pair.a p) (gain_of G xs u) (start_kinds u m))
          ∙ sum_of-add _ (λ u. when (spans_column p.x u.pair && point_eq u.pair.a p) (gain_of G xs u)) (λ u. when (is_vertical u.pair && point_eq u.pair.a p) (gain_of G xs u)) xs (λ u. refl)
          ∙ ap (λ (z : ℤ). z +ℤ sum_of (λ u. when (is_vertical u.pair && point_eq u.pair.a p) (gain_of G xs u)) xs) (sym (sum_of-filter (λ s. spans_column p.x s.pair && point_eq s.pair.a p) (gain_of G xs) xs))

      sum_ends : gain_in ≡ sum_of (gain_of G xs) (filter (λ s. spans_column (p.x -ℤ pos 1) s.pair && point_eq s.pair.b p) xs) +ℤ sum_of (λ u. when (is_vertical u.pair && point_eq u.pair.b p) (gain_of G xs u)) xs
      sum_ends =
          sum_of-same_in (λ u. when (point_eq u.pair.b p) (gain_of G xs u)) (λ u. when (spans_column (p.x -ℤ pos 1) u.pair && point_eq u.pair.b p) (gain_of G xs u) +ℤ when (is_vertical u.pair && point_eq u.pair.b p) (gain_of G xs u)) xs (λ u m. two_kinds (spans_column (p.x -ℤ pos 1) u.pair) (is_vertical u.pair) (point_eq u.pair.b p) (gain_of G xs u) (end_kinds u m))
          ∙ sum_of-add _ (λ u. when (spans_column (p.x -ℤ pos 1) u.pair && point_eq u.pair.b p) (gain_of G xs u)) (λ u. when (is_vertical u.pair && point_eq u.pair.b p) (gain_of G xs u)) xs (λ u. refl)
          ∙ ap (λ (z : ℤ). z +ℤ sum_of (λ u. when (is_vertical u.pair && point_eq u.pair.b p) (gain_of G xs u)) xs) (sym (sum_of-filter (λ s. spans_column (p.x -ℤ pos 1) s.pair && point_eq s.pair.b p) (gain_of G xs) xs))

      round_windings : (r0 r1 l0 l1 : Winding) → gain G r0 r1 +ℤ gain G r1 l1 ≡ gain G l0 l1 +ℤ gain G r0 l0
      round_windings r0 r1 l0 l1 = round_vertex (G r0.subj r0.clip) (G r1.subj r1.clip) (G l0.subj l0.clip) (G l1.subj l1.clip)

      together : gain_out ≡ gain_in
      together = rw (sum_starts, sum_ends, gain_right xs arranged balanced p free_point G, gain_up xs arranged balanced p free_point G, gain_left xs arranged balanced p free_point G, gain_down xs arranged balanced p free_point G) (round_windings (column_weights (is_under p) xs p.x) (weights_up_to xs p.x p) (column_weights (is_under p) xs (p.x -ℤ pos 1)) (weights_up_to xs (p.x -ℤ pos 1) p))

    nowhere : ((u : WholeSegment) → Has xs u → (point_eq u.pair.a p || point_eq u.pair.b p) ≡ false) → gain_out ≡ gain_in
    nowhere none =
        sum_of-zero_in (λ u. when (point_eq u.pair.a p) (gain_of G xs u)) xs (λ u m. when_nothing _ (gain_of G xs u) (or_parts (point_eq u.pair.a p) (point_eq u.pair.b p) (none u m)).0)
        ∙ sym (sum_of-zero_in (λ u. when (point_eq u.pair.b p) (gain_of G xs u)) xs (λ u m. when_nothing _ (gain_of G xs u) (or_parts (point_eq u.pair.a p) (point_eq u.pair.b p) (none u m)).1))

  -- an end of a segment lies strictly inside no other
  ends_are_free : (s : WholeSegment) → Has xs s → (point_eq s.pair.a p || point_eq s.pair.b p) ≡ true → (u : WholeSegment) → Has xs u → is_strictly_inside u.pair p ≡ true → ⊥
  ends_are_free s m h u n inside =
      let apart = apart_in xs arranged balanced s u m n in
      elim (or_cases (point_eq s.pair.a p) (point_eq s.pair.b p) h) [
        | inl e ↦ apart.a_around (ap (is_strictly_inside u.pair) (same_by_eq s.pair.a p e) ∙ inside)
        | inr e ↦ apart.b_around (ap (is_strictly_inside u.pair) (same_by_eq s.pair.b p e) ∙ inside)
      ]

  -- around a point nothing is gained: as much along what starts there as along what ends there
  pub gain_at_point : (G : ℤ → ℤ → ℤ) → gain_out G ≡ gain_in G
  gain_at_point G = by_list_any (λ u. point_eq u.pair.a p || point_eq u.pair.b p) xs (λ s m h. together G (ends_are_free s m h)) (nowhere G)

  -- so an even number of the segments whose sides a truth function separates starts or ends there
  module _ (F : ℤ → ℤ → Bool) where
    odd_at_point : (test : WholeSegment → Bool) → HasParity (sum_of (λ u. when (test u) (gain_of (λ b c. truth (F b c)) xs u)) xs) (odd_of (λ u. tells_sides_of F xs u && test u) xs)
    odd_at_point test = parity_of_sum (λ u. when (test u) (gain_of (λ b c. truth (F b c)) xs u)) (λ u. tells_sides_of F xs u && test u) xs
        (λ u. parity_where (test u) (tells_sides_of F xs u) (gain_of (λ b c. truth (F b c)) xs u) (parity_of_gain (F (side_bottom xs u).subj (side_bottom xs u).clip) (F (side_top xs u).subj (side_top xs u).clip)))

    odd_alike : odd_of (λ u. tells_sides_of F xs u && point_eq u.pair.a p) xs ≡ odd_of (λ u. tells_sides_of F xs u && point_eq u.pair.b p) xs
    odd_alike =
        let start = odd_at_point (λ u. point_eq u.pair.a p) in
        let end = odd_at_point (λ u. point_eq u.pair.b p) in
        same_parity (gain_in (λ b c. truth (F b c))) _ _ (start.0, sym (gain_at_point (λ b c. truth (F b c))) ∙ start.1) end

    pub even_degree_at : (length (filter (λ u. tells_sides_of F xs u && point_eq u.pair.a p) xs) + length (filter (λ u. tells_sides_of F xs u && point_eq u.pair.b p) xs)) % 2 ≡ 0
    even_degree_at = even_by_flags (length (filter (λ u. tells_sides_of F xs u && point_eq u.pair.a p) xs)) (length (filter (λ u. tells_sides_of F xs u && point_eq u.pair.b p) xs)) _ _ (odd_of_is (λ u. tells_sides_of F xs u && point_eq u.pair.a p) xs) (odd_of_is (λ u. tells_sides_of F xs u && point_eq u.pair.b p) xs) odd_alike

-- how many segments whose sides a rule separates start or end at a point: an even number
pub even_sides : (fill_rule : FillRule) (rule : Bool → Bool → Bool) (segments : List WholeSegment) → IsTrue (is_map segments) → IsTrue (is_planar segments) → IsBalanced segments → (p : Point) →
    (length (filter (λ s. has_sides_apart rule fill_rule segments s && point_eq s.pair.a p) segments) + length (filter (λ s. has_sides_apart rule fill_rule segments s && point_eq s.pair.b p) segments)) % 2 ≡ 0
unfolding has_sides_apart tells_apart value_at
even_sides fill_rule rule segments map planar balanced p = even_degree_at segments (is_arranged segments map planar) balanced p (λ b c. rule (is_inside fill_rule b) (is_inside fill_rule c))
