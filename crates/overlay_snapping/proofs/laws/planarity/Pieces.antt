-- Pieces of chains do not cross.
use Rattle.std.proofs.Common.{◌≡◌, ◌∙◌, refl, sym, ap, arith, ◌⊎◌, inl, inr, ℕ, zero, suc, ◌*◌, ◌<◌, ◌≤◌, true, false, IsTrue, IsFalse, List, ◌&&◌, not}
use Rattle.std.specs.Prelude.{ℤ, pos, negsuc, ◌+ℤ◌, ◌-ℤ◌, ◌*ℤ◌, ◌≤ℤ◌, Contains}
use Rattle.std.proofs.lemmas.Int.{ints}
use Rattle.std.proofs.lemmas.Bool.{cases_Bool, both_ways, and_from}
use Rattle.overlay_geometry.specs.Points.{Point, Pair, turn, is_ordered, lies_on}
use Rattle.overlay_geometry.specs.Meeting.{do_cross}
use Rattle.overlay_geometry.proofs.laws.geometry.Points.{turn_same_last, turn_same_outer}
use Rattle.overlay_geometry.proofs.laws.lists.Lists.{Has-append_right}
use Rattle.overlay_geometry.proofs.laws.lists.Elements.{Contains-from_Has, Has-from_Contains}
use Rattle.overlay_base.specs.Segments.{ends}
use Rattle.overlay_base.proofs.laws.geometry.Apart.{Opposite, do_cross_from}
use Rattle.overlay_intersections.specs.Crossing.{is_exact, settling_point}
use Rattle.overlay_intersections.specs.Marks.{cross_inexactly}
use Rattle.overlay_intersections.proofs.laws.crossings.Crossings.{do_cross-swap, IsPart, IsPart-share, share, scale}
use Rattle.overlay_intersections.proofs.laws.crossings.CrossingLaws.{target_does_not_matter}
use Rattle.overlay_intersections.proofs.laws.marks.Marks.{IsRoundedPoint, settled_on_target, settled_x, settled_y}
use Rattle.overlay_intersections.proofs.laws.crossings.Rounding.{IsRoundedUp}
use Rattle.overlay_cuts.specs.Nearness.{point_along}
use Rattle.overlay_snapping.specs.Pixels.{IsInPixel, meets_pixel}
use Rattle.overlay_snapping.specs.Chains.{rounded_crossings, whole_crossings, given_points, IsHot, rounded, Moves, passes, IsChainPoint, IsCutAt, moving, staying, comes_before, IsPiece}
use Rattle.overlay_snapping.proofs.laws.pixels.Inequality.{inequality_is_meant, leads}
use Rattle.overlay_snapping.proofs.laws.pixels.Orders.{pixels_are_met_in_order}
use Rattle.overlay_snapping.proofs.laws.chains.MarkPoints.{Has-crossings_by, exact_lies_on, inexact_from}
use Rattle.overlay_snapping.proofs.laws.chains.MarkPixels.{low_side, high_side, met}
use Rattle.overlay_snapping.proofs.laws.planarity.Steps.{Cross, AreBeyond}
use Rattle.overlay_snapping.proofs.laws.planarity.Motions.{multiple, cross_multiple, cross_is_kept}
use Rattle.overlay_snapping.proofs.laws.planarity.Directions.{IsOnLine, direction_of}
use Rattle.overlay_snapping.proofs.laws.planarity.Stops.{along_by, Stop, SomeStop, stop_of, FourStops, four_stops}
use Rattle.overlay_snapping.proofs.laws.planarity.Clearings.{fraction_of, pixel_of, later_stop, is_clear}
use Rattle.overlay_snapping.proofs.laws.planarity.Meetings.{IsParted, parted}

-- ---- stops of cuts

pub stop_at_cut : (segments : List Pair) (s : Pair) (c : Point) → IsTrue (is_ordered s) → IsCutAt segments s c → SomeStop s c
stop_at_cut segments s c o (moving m p h) = stop_of s c o (inr h)
stop_at_cut segments s c o (staying n p h) = stop_of s c o (inl h)

on_line : (m : ℕ) (t : Pair) (n : ℕ) → IsOnLine m t (along_by m t n)
on_line m t n = record { part = pos n; at_x = refl; at_y = refl }

-- ---- the cut at a crossing

-- the place along s of a point that is rounded to e
record RoundedPlace (s : Pair) (e : Point) (part : ℤ) (whole : ℕ) : Type 0 where
  place : ℕ
  is_part : pos place ≡ part
  positive : 0 < whole
  at_most : place ≤ whole
  in_pixel : IsInPixel (point_along s (record { part = place; whole = whole; positive = positive; at_most_one = at_most })) e

place_of : (s : Pair) (e : Point) (part : ℤ) (whole : ℕ) → IsPart part whole → IsRoundedUp (s.a.x *ℤ pos whole +ℤ (s.b.x -ℤ s.a.x) *ℤ part) whole e.x → IsRoundedUp (s.a.y *ℤ pos whole +ℤ (s.b.y -ℤ s.a.y) *ℤ part) whole e.y → RoundedPlace s e part whole
place_of s e (negsuc n) whole is x y = absurd (let l = is.low in omega (arith, ints, l))
place_of s e (pos n) whole is x y = record {
  place = n;
  is_part = refl;
  positive = is.some;
  at_most = let l = is.high in omega (arith, ints, l);
  in_pixel = record { from_left = low_side _ e.x whole x; to_right = high_side _ e.x whole x; from_below = low_side _ e.y whole y; to_top = high_side _ e.y whole y };
}

nat_le_of : (n k m w : ℕ) (z : ℤ) → pos k ≡ z → (pos n *ℤ pos w) ≤ℤ (z *ℤ pos m) → n * w ≤ k * m
nat_le_of n k m w z e h = let i = rw (← e) at h in omega (arith, ints, i)

nat_le_to : (n k m w : ℕ) (z : ℤ) → pos k ≡ z → (z *ℤ pos m) ≤ℤ (pos n *ℤ pos w) → k * m ≤ n * w
nat_le_to n k m w z e h = let i = rw (← e) at h in omega (arith, ints, i)

not_before_of : (m : ℕ) (s : Pair) (c e : Point) → 0 < m → IsTrue (is_ordered s) → (i : Stop m s c) (r : IsRoundedPoint s e) → (pos i.part *ℤ pos r.whole) ≤ℤ (r.part *ℤ pos m) → IsFalse (comes_before s e c)
unfolding fraction_of
not_before_of m s c e some o i r h =
    let at = place_of s e r.part r.whole r.is_part r.at_x r.at_y in
    pixels_are_met_in_order s (fraction_of m s c some i) (record { part = at.place; whole = r.whole; positive = at.positive; at_most_one = at.at_most }) c e o
    (nat_le_of i.part at.place m r.whole r.part at.is_part h) (pixel_of m s c some i) at.in_pixel

not_after_of : (m : ℕ) (s : Pair) (c e : Point) → 0 < m → IsTrue (is_ordered s) → (i : Stop m s c) (r : IsRoundedPoint s e) → (r.part *ℤ pos m) ≤ℤ (pos i.part *ℤ pos r.whole) → IsFalse (comes_before s c e)
unfolding fraction_of
not_after_of m s c e some o i r h =
    let at = place_of s e r.part r.whole r.is_part r.at_x r.at_y in
    pixels_are_met_in_order s (record { part = at.place; whole = r.whole; positive = at.positive; at_most_one = at.at_most }) (fraction_of m s c some i) e c o
    (nat_le_to i.part at.place m r.whole r.part at.is_part h) at.in_pixel (pixel_of m s c some i)

-- where two segments cross, each that is cut anywhere is cut at the point to which the crossing is rounded
cut_at_crossing : (segments : List Pair) (s t : Pair) (c : Point) → Contains segments s → Contains segments t → IsTrue (is_ordered s) → IsTrue (do_cross s t) → IsCutAt segments s c → IsCutAt segments s (settling_point s t)
cut_at_crossing segments s t c i j o k cut = by cut (cases_Bool (is_exact s t))
  where
    e : Point
    e = settling_point s t

    meets : IsTrue (meets_pixel s (settling_point s t))
    meets = let r = settled_on_target s t k in (inequality_is_meant s (settling_point s t) o).1 (met s (settling_point s t) r.part r.whole r.is_part r.at_x r.at_y)

    hot : is_exact s t ≡ false → IsHot segments (settling_point s t)
    hot n = rounded (Contains-from_Has (rounded_crossings segments) (settling_point s t) (Has-crossings_by cross_inexactly segments s t (Has-from_Contains segments s i) (Has-from_Contains segments t j) (inexact_from s t k n)))

    whole : is_exact s t ≡ true → IsChainPoint segments (settling_point s t)
    whole y =
        inr (Contains-from_Has (given_points segments) (settling_point s t) (Has-append_right (ends segments) (whole_crossings segments) (settling_point s t)
        (Has-crossings_by (λ s t. do_cross s t && is_exact s t) segments s t (Has-from_Contains segments s i) (Has-from_Contains segments t j) (and_from (do_cross s t) (is_exact s t) k y))))

    in_place : (Moves segments s → ⊥) → is_exact s t ≡ false → (lies_on s (settling_point s t) ≡ true) ⊎ (lies_on s (settling_point s t) ≡ false) → IsTrue (lies_on s (settling_point s t))
    in_place n x (inl on) = on
    in_place n x (inr off) = absurd (n (passes i (hot x) (and_from (meets_pixel s (settling_point s t)) (not (lies_on s (settling_point s t))) meets (ap not off))))

    by : IsCutAt segments s c → (is_exact s t ≡ true) ⊎ (is_exact s t ≡ false) → IsCutAt segments s (settling_point s t)
    by (moving m p h) (inl y) = moving m (whole y) meets
    by (moving m p h) (inr n) = moving m (inl (hot n)) meets
    by (staying m p h) (inl y) = staying m (whole y) (exact_lies_on s t k y)
    by (staying m p h) (inr n) = staying m (inl (hot n)) (in_place m n (cases_Bool (lies_on s (settling_point s t))))

-- an end of the piece
pub at_an_end : (segments : List Pair) (s : Pair) (c c' e : Point) → IsPiece segments s c c' → IsCutAt segments s e → IsFalse (comes_before s e c) → IsFalse (comes_before s c' e) → (e ≡ c) ⊎ (e ≡ c')
at_an_end segments s c c' e piece cut not_before not_after = by (piece.none_between e cut)
  where
    by : IsTrue (comes_before s e c) ⊎ (e ≡ c) ⊎ (e ≡ c') ⊎ IsTrue (comes_before s c' e) → (e ≡ c) ⊎ (e ≡ c')
    by (inl h) = absurd (both_ways (comes_before s e c) not_before h)
    by (inr (inl h)) = inl h
    by (inr (inr (inl h))) = inr h
    by (inr (inr (inr h))) = absurd (both_ways (comes_before s c' e) not_after h)

-- where the segments of two pieces cross within both, the point to which the crossing is rounded is an end of each
crossing_at_end : (segments : List Pair) (m : ℕ) (s t : Pair) (c c' : Point) → 0 < m → Contains segments s → Contains segments t → IsTrue (is_ordered s) → IsTrue (do_cross s t) → IsPiece segments s c c' →
    (i : Stop m s c) (j : Stop m s c') → IsParted m s t i.part j.part → (settling_point s t ≡ c) ⊎ (settling_point s t ≡ c')
crossing_at_end segments m s t c c' some in_s in_t o k piece i j parts =
    let r : IsRoundedPoint s (settling_point s t) = record { part = share s t; whole = scale s t; is_part = IsPart-share s t k; at_x = settled_x s t k; at_y = settled_y s t k } in
    at_an_end segments s c c' (settling_point s t) piece (cut_at_crossing segments s t c in_s in_t o k piece.first)
    (not_before_of m s c (settling_point s t) some o i r parts.between.past_first)
    (not_after_of m s c' (settling_point s t) some o j r parts.between.before_last)

-- ---- two pieces

no_common_end : (c c' d d' : Point) → Opposite (turn c c' d) (turn c c' d') → ((c ≡ d) → ⊥) × ((c ≡ d') → ⊥) × ((c' ≡ d) → ⊥) × ((c' ≡ d') → ⊥)
no_common_end c c' d d' h = (
  (λ e. first (turn c c' d) (turn c c' d') (rw (← e) (turn_same_outer c c')) h),
  (λ e. second (turn c c' d) (turn c c' d') (rw (← e) (turn_same_outer c c')) h),
  (λ e. first (turn c c' d) (turn c c' d') (rw (← e) (turn_same_last c c')) h),
  (λ e. second (turn c c' d) (turn c c' d') (rw (← e) (turn_same_last c c')) h),
)
  where
    first : (f g : ℤ) → f ≡ pos 0 → Opposite f g → ⊥
    first f g e (inl (k, l)) = omega (arith, ints, e, k)
    first f g e (inr (k, l)) = omega (arith, ints, e, k)

    second : (f g : ℤ) → g ≡ pos 0 → Opposite f g → ⊥
    second f g e (inl (k, l)) = omega (arith, ints, e, l)
    second f g e (inr (k, l)) = omega (arith, ints, e, l)

pub pieces_do_not_cross : (segments : List Pair) (s t : Pair) (c c' d d' : Point) → Contains segments s → Contains segments t → IsTrue (is_ordered s) → IsTrue (is_ordered t) →
    IsPiece segments s c c' → IsPiece segments t d d' → Cross c c' d d' → ⊥
pieces_do_not_cross segments s t c c' d d' in_s in_t os ot of_s of_t cross = meet
  where
    apart : ((c ≡ d) → ⊥) × ((c ≡ d') → ⊥) × ((c' ≡ d) → ⊥) × ((c' ≡ d') → ⊥)
    apart = no_common_end c c' d d' cross.of_second

    stops : FourStops s t c c' d d'
    stops = four_stops s t c c' d d' (stop_at_cut segments s c os of_s.first) (stop_at_cut segments s c' os of_s.last) (stop_at_cut segments t d ot of_t.first) (stop_at_cut segments t d' ot of_t.last)

    meet : ⊥
    meet =
        let m = stops.whole in
        let i = stops.at_c in
        let j = stops.at_c' in
        let k = stops.at_d in
        let l = stops.at_d' in
        let some = stops.some in
        let v = along_by m s i.part in
        let v' = along_by m s j.part in
        let w = along_by m t k.part in
        let w' = along_by m t l.part in
        let at_c = direction_of m t c d d' v w w' some (leads t ot) i.in_cell k.in_cell l.in_cell (on_line m t k.part) (on_line m t l.part)
        (is_clear segments m some s t in_t ot c d d' of_s.first of_t apart.0 apart.1 i k l) in
        let at_c' = direction_of m t c' d d' v' w w' some (leads t ot) j.in_cell k.in_cell l.in_cell (on_line m t k.part) (on_line m t l.part)
        (is_clear segments m some s t in_t ot c' d d' of_s.last of_t apart.2 apart.3 j k l) in
        let at_d = direction_of m s d c c' w v v' some (leads s os) k.in_cell i.in_cell j.in_cell (on_line m s i.part) (on_line m s j.part)
        (is_clear segments m some t s in_s os d c c' of_t.first of_s (λ e. apart.0 (sym e)) (λ e. apart.2 (sym e)) k i j) in
        let at_d' = direction_of m s d' c c' w' v v' some (leads s os) l.in_cell i.in_cell j.in_cell (on_line m s i.part) (on_line m s j.part)
        (is_clear segments m some t s in_s os d' c c' of_t.last of_s (λ e. apart.1 (sym e)) (λ e. apart.3 (sym e)) l i j) in
        let of_points : AreBeyond at_c.direction at_c'.direction at_d.direction at_d'.direction v v' w w' =
        record { first_a = at_c.of_points; first_b = at_c'.of_points; second_a = at_d.of_points; second_b = at_d'.of_points } in
        let of_centers : AreBeyond at_c.direction at_c'.direction at_d.direction at_d'.direction (multiple m c) (multiple m c') (multiple m d) (multiple m d') =
        record { first_a = at_c.of_centers; first_b = at_c'.of_centers; second_a = at_d.of_centers; second_b = at_d'.of_centers } in
        let crossing = cross_is_kept at_c.direction at_c'.direction at_d.direction at_d'.direction v v' w w' (multiple m c) (multiple m c') (multiple m d) (multiple m d') of_points of_centers (cross_times m c c' d d' some cross) in
        let later_s = later_stop m s c c' some os i j of_s.in_order in
        let later_t = later_stop m t d d' some ot k l of_t.in_order in
        let by_t = parted m s t i.part j.part k.part l.part later_s j.at_most later_t crossing.of_first in
        let by_s = parted m t s k.part l.part i.part j.part later_t l.at_most later_s crossing.of_second in
        let cross_st = do_cross_from s t by_s.ends by_t.ends in
        let end_s = crossing_at_end segments m s t c c' some in_s in_t os cross_st of_s i j by_t in
        let end_t = crossing_at_end segments m t s d d' some in_t in_s ot (do_cross-swap s t cross_st) of_t k l by_s in
        shared (settling_point s t) (settling_point t s) (target_does_not_matter s t cross_st).1 end_s end_t
      where
        cross_times : (m : ℕ) (c c' d d' : Point) → 0 < m → Cross c c' d d' → Cross (multiple m c) (multiple m c') (multiple m d) (multiple m d')
        cross_times zero c c' d d' some h = absurd (omega (arith, some))
        cross_times (suc n) c c' d d' some h = cross_multiple n c c' d d' h

        shared : (e f : Point) → e ≡ f → (e ≡ c) ⊎ (e ≡ c') → (f ≡ d) ⊎ (f ≡ d') → ⊥
        shared e f same (inl h) (inl k) = apart.0 (sym h ∙ same ∙ k)
        shared e f same (inl h) (inr k) = apart.1 (sym h ∙ same ∙ k)
        shared e f same (inr h) (inl k) = apart.2 (sym h ∙ same ∙ k)
        shared e f same (inr h) (inr k) = apart.3 (sym h ∙ same ∙ k)
