-- A planar arrangement has fewer segments than three times its end points: each segment takes one of three slots at a point, and no two take one.
use Rattle.std.proofs.Common.{◌≡◌, ◌∙◌, refl, sym, subst, arith, ⊎_elim, inl, inr, ℕ, ◌+◌, ◌*◌, ◌<◌, IsTrue, List, [], ◌∷◌, ◌++◌, map, length, length-append}
use Rattle.std.specs.Prelude.{pos, ◌<ℤ◌, ⊤}
use Rattle.std.specs.declared.cmp.Ordering.{Ordering}
use Rattle.std.specs.declared.cmp.Ordering.TheVariants.{Less, Equal}
use Rattle.std.specs.List.{list_all}
use Rattle.std.specs.List.Sorted.{IsStrictlySortedBy}
use Rattle.std.proofs.lemmas.List.{length-map}
use Rattle.overlay_geometry.specs.Points.{Point, Pair, turn, point_cmp, pair_cmp, is_ordered}
use Rattle.overlay_geometry.specs.Meeting.{are_apart}
use Rattle.overlay_geometry.specs.Sorting.{distinct_in_order}
use Rattle.overlay_geometry.proofs.laws.geometry.Points.{Before, UpTo, UpTo-trans, UpTo-not_Before, before, point_cmp_total, point_same, pair_cmp_same}
use Rattle.overlay_geometry.proofs.laws.lists.Lists.{Has, AllByRecursion-weaker, Has-append_left, Has-append_right, Has-map, Has-map_out, Pairwise, list_all-at}
use Rattle.overlay_geometry.proofs.laws.lists.Keys.{Has-distinct_in_order}
use Rattle.overlay_base.specs.Planar.{is_planar}
use Rattle.overlay_base.specs.Segments.{WholeSegment, pairs, ends}
use Rattle.overlay_base.proofs.laws.joins.Maps.{IsSummed-from_map, are_ordered-map}
use Rattle.overlay_snapping.specs.Counts.{end_count}
use Rattle.overlay_snapping.specs.Laws.{PlanarHasFew}
use Rattle.overlay_snapping.proofs.laws.counting.Gaps.{IsGap, end_a, end_b, either_order, one_gap, is_strict, top_or_gap, one_top}
use Rattle.overlay_snapping.proofs.laws.counting.Pigeons.{first_where, fewer_pigeons}

-- ---- slots

-- What a segment may take at a point: the slot of the topmost segment that starts there, that of a point below the upper segment of a gap, or
-- that of a point above the lower one.
pub data Slot : Type 0 where
  topmost below_high above_low : Point → Slot

abbrev slots : List Point → List Slot
slots points = map (λ p. topmost p) points ++ (map (λ p. below_high p) points ++ map (λ p. above_low p) points)

abbrev IsTopmost : List Pair → Pair → Type 0
IsTopmost segments s = (f : Pair) → Has segments f → f.a ≡ s.a → pos 0 <ℤ turn s.a s.b f.b → ⊥

abbrev Takes : List Pair → Pair → Slot → Type 0
Takes segments s (topmost p) = (s.a ≡ p) × IsTopmost segments s
Takes segments s (below_high w) = (g : IsGap segments s w) × (turn g.high.a g.high.b w <ℤ pos 0)
Takes segments s (above_low w) = IsGap segments s w × (pos 0 <ℤ turn s.a s.b w)

module _ (segments : List Pair) (ordered : (s : Pair) → Has segments s → Before s.a s.b) (apart : (s t : Pair) → Has segments s → Has segments t → IsTrue (are_apart s t)) where
  points : List Point
  points = distinct_in_order point_cmp (ends segments)

  is_point : (p : Point) → Has (ends segments) p → Has points p
  unfolding points
  is_point p i = Has-distinct_in_order point_cmp_total point_same (ends segments) p i

  takes_one : (s : Pair) → Has segments s → (y : Slot) × Has (slots points) y × Takes segments s y
  takes_one s i = ⊎_elim top gap (top_or_gap segments ordered apart s)
    where
      top : IsTopmost segments s → (y : Slot) × Has (slots points) y × Takes segments s y
      top h = (topmost s.a, Has-append_left (map (λ p. topmost p) points) _ (topmost s.a) (Has-map (λ p. topmost p) points s.a (is_point s.a (end_a segments s i))), (refl, h))

      gap : (w : Point) × IsGap segments s w → (y : Slot) × Has (slots points) y × Takes segments s y
      gap (w, g) =
          ⊎_elim
          (λ h. (
            below_high w,
            Has-append_right (map (λ p. topmost p) points) _ (below_high w) (Has-append_left (map (λ p. below_high p) points) (map (λ p. above_low p) points) (below_high w) (Has-map (λ p. below_high p) points w (is_point w g.is_end))),
            (g, h),
          ))
          (λ h. (
            above_low w,
            Has-append_right (map (λ p. topmost p) points) _ (above_low w) (Has-append_right (map (λ p. below_high p) points) (map (λ p. above_low p) points) (above_low w) (Has-map (λ p. above_low p) points w (is_point w g.is_end))),
            (g, h),
          ))
          (is_strict segments ordered apart s w g)

  one_takes : (s t : Pair) (y : Slot) → Has segments s → Has segments t → Takes segments s y → Takes segments t y → s ≡ t
  one_takes s t (topmost p) i j (e, h) (f, k) = one_top segments ordered apart s t i j (e ∙ sym f) h k
  one_takes s t (below_high w) i j (g, h) (k, l) = one_gap segments ordered apart s t w i j g k (inl (h, l))
  one_takes s t (above_low w) i j (g, h) (k, l) = one_gap segments ordered apart s t w i j g k (inr (h, l))

  -- no segment begins at the last point
  last_point : (s : Pair) → Has segments s → (m : Point) × Has (ends segments) m × ((p : Point) → Has (ends segments) p → UpTo p m)
  last_point s i = first_where (λ p q. UpTo q p) (λ _. ⊤) (λ p q h k. either_order q p h k) (λ p q r _ _ _ h k. UpTo-trans r q p k h) (ends segments) s.a (end_a segments s i) (λ _ _. tt)

  pub few_segments : (s : Pair) → Has segments s → Pairwise (λ s t. (s ≡ t) → ⊥) segments → length segments < 3 * length (distinct_in_order point_cmp (ends segments))
  unfolding points
  few_segments s i differ =
      let last = last_point s i in
      let left = Has-append_left (map (λ p. topmost p) points) (map (λ p. below_high p) points ++ map (λ p. above_low p) points) (topmost last.0) (Has-map (λ p. topmost p) points last.0 (is_point last.0 last.1)) in
      let few = fewer_pigeons (Takes segments) segments (slots points) (topmost last.0) left (λ t j h. begins_later t j last.0 last.2 h.0) differ takes_one one_takes in
      counted few (length-append (map (λ p. topmost p) points) _) (length-append (map (λ p. below_high p) points) (map (λ p. above_low p) points)) (length-map points (λ p. topmost p)) (length-map points (λ p. below_high p)) (length-map points (λ p. above_low p))
    where
      begins_later : (t : Pair) → Has segments t → (m : Point) → ((p : Point) → Has (ends segments) p → UpTo p m) → t.a ≡ m → ⊥
      begins_later t j m h e = UpTo-not_Before t.b m (h t.b (end_b segments t j)) (subst (λ a. Before a t.b) e (ordered t j))

      counted : {n k a b c v m : ℕ} → n < k → k ≡ a + m → m ≡ b + c → a ≡ v → b ≡ v → c ≡ v → n < 3 * v
      counted h e f p q r = omega (arith, h, e, f, p, q, r)

-- ---- of a map

differ_in_order : (list : List Pair) → IsStrictlySortedBy pair_cmp list → Pairwise (λ s t. (s ≡ t) → ⊥) list
unfolding IsStrictlySortedBy
differ_in_order [] h = tt
differ_in_order (s ∷ list) h = (AllByRecursion-weaker (λ t. pair_cmp s t ≡ Less) (λ t. (s ≡ t) → ⊥) (λ t l e. less_is_not_equal (pair_cmp s t) l (subst (λ u. pair_cmp s u ≡ Equal) e (pair_cmp_same s))) list h.0, differ_in_order list h.1)
  where
    less_is_not_equal : (r : Ordering) → r ≡ Less → r ≡ Equal → ⊥
    less_is_not_equal r e f = cc

pub planar_has_few : PlanarHasFew
unfolding end_count is_planar
planar_has_few [] map planar some = absurd (omega (arith, some))
planar_has_few (s ∷ segments) map planar some =
    subst (λ (n : ℕ). n < 3 * length (distinct_in_order point_cmp (ends (pairs all)))) (length-map all (λ (u : WholeSegment). u.pair))
    (few_segments (pairs all) in_order are_apart_each s.pair (inl refl) (differ_in_order (pairs all) (IsSummed-from_map all map).sorted))
  where
    all : List WholeSegment
    all = s ∷ segments

    in_order : (t : Pair) → Has (pairs all) t → Before t.a t.b
    in_order t i = let r = Has-map_out (λ (u : WholeSegment). u.pair) all t i in subst (λ (p : Pair). Before p.a p.b) r.2 (before r.0.pair.a r.0.pair.b (list_all-at (λ (u : WholeSegment). is_ordered u.pair) all r.0 (are_ordered-map all map) r.1))

    are_apart_each : (t u : Pair) → Has (pairs all) t → Has (pairs all) u → IsTrue (are_apart t u)
    are_apart_each t u i j = list_all-at (λ v. are_apart t v) (pairs all) u (list_all-at (λ w. list_all (λ v. are_apart w v) (pairs all)) (pairs all) t planar i) j
