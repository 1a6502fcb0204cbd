-- Masks stay: a sum has the masks of its parts, so each point of a line lies near a line of the result, and such a line near a given one.
use Rattle.std.proofs.Common.{◌≡◌, ◌⊎◌, inl, inr, refl, sym, ap, subst, arith, ℕ, zero, suc, ◌<◌, List, [], ◌∷◌, Bool, true, false, not}
use Rattle.std.specs.Prelude.{IsTrue, Contains, nat_lt, ◌==◌}
use Rattle.std.specs.List.{list_all, AllByRecursion}
use Rattle.std.proofs.lemmas.Bool.{both_ways, cases_Bool, false_from_ne_true, ltb-true, eqb-true}
use Rattle.std.proofs.lemmas.Nat.{le_or_l, le_or_r, or_lt}
use Rattle.overlay_geometry.specs.Points.{Point, Pair, pair_cmp, is_ordered}
use Rattle.overlay_geometry.specs.Sorting.{distinct_in_order}
use Rattle.overlay_base.specs.Windings.{Winding, add, inverse, swap_directions, is_not_empty}
use Rattle.overlay_base.specs.Segments.{WholeSegment, pairs, are_ordered, winding_at}
use Rattle.overlay_base.specs.Join.{summed, join}
use Rattle.overlay_geometry.proofs.laws.lists.Lists.{Has, Has-map, Has-map_out, Has-filter, Has-filter_out, AllByRecursion-at, AllByRecursion-from_list_all, AllByRecursion-weaker, list_all-at}
use Rattle.overlay_geometry.proofs.laws.lists.Elements.{Contains-from_Has, Has-from_Contains}
use Rattle.overlay_geometry.proofs.laws.lists.Keys.{Has-distinct_in_order}
use Rattle.overlay_geometry.proofs.laws.geometry.Points.{pair_cmp_total, pair_same}
use Rattle.overlay_base.proofs.laws.joins.Bags.{count_at, winding_at-here, winding_at-cons}
use Rattle.overlay_base.proofs.laws.joins.Members.{counts-join}
use Rattle.overlay_base.proofs.laws.joins.Maps.{are_ordered-map}
use Rattle.overlay_intersections.specs.Marks.{Placing}
use Rattle.overlay_intersections.specs.PassMarks.{marks_on}
use Rattle.overlay_cuts.specs.Path.{pieces}
use Rattle.overlay_cuts.specs.Pass.{cut_by, pass_by, pass, cut}
use Rattle.overlay_cuts.specs.Run.{Settings, placing_of_pass, after_passes}
use Rattle.overlay_cuts.specs.Nearness.{Fraction, whole_point, point_along, IsNear, IsNearSome, reach_of_pass, reach_of_run, has_mask, with_mask}
use Rattle.overlay_split.specs.Laws.{CutKeepsLines, RunKeepsLines}
use Rattle.overlay_cuts.proofs.laws.paths.MarkedPairs.{EachMark-at}
use Rattle.overlay_cuts.proofs.laws.paths.Maps.{is_map-after_passes}
use Rattle.overlay_cuts.proofs.laws.paths.Ends.{ends_differ}
use Rattle.overlay_cuts.proofs.laws.paths.PieceCounts.{counts_of_pieces, counts-cut}
use Rattle.overlay_cuts.proofs.laws.nearness.Distances.{IsNear-from_point, LiesNear-itself}
use Rattle.overlay_cuts.proofs.laws.nearness.NearMarks.{AreNear, MarksAreNear, marks_of_pass_are_near}
use Rattle.overlay_split.proofs.laws.nearness.NearKinds.{pass_by_of_kind, run_of_kind}
use Rattle.overlay_cuts.proofs.laws.nearness.Coverings.{Has-cut, pieces_cover}
use Rattle.overlay_split.proofs.laws.nearness.LineCounts.{IsLine, IsLine-inverse, is_not_empty-mask}

-- ---- masks as a kind

no_mask : (c : Winding) → has_mask c ≡ false → c.mask ≡ 0
no_mask c h = by (c.mask == 0) refl h
  where
    by : (b : Bool) → (c.mask == 0) ≡ b → not b ≡ false → c.mask ≡ 0
    by true e h = eqb-true c.mask 0 e
    by false e h = absurd (both_ways true h refl)

some_mask : (c : Winding) → has_mask c ≡ true → 0 < c.mask
some_mask c h = by c.mask h
  where
    by : (m : ℕ) → not (m == 0) ≡ true → 0 < m
    by zero h = absurd (both_ways false refl h)
    by (suc m) h = omega arith

masked : (c : Winding) → 0 < c.mask → has_mask c ≡ true
masked c h = ap not (false_from_ne_true (c.mask == 0) (λ e. let none = eqb-true c.mask 0 e in omega (arith, none, h)))

mask-turned : (c : Winding) → has_mask (inverse c) ≡ true → has_mask c ≡ true
mask-turned c h = elim (cases_Bool (has_mask c)) [
  | inl k ↦ k
  | inr k ↦ (let none : swap_directions c.mask ≡ 0 = ap swap_directions (no_mask c k) in let some = some_mask (inverse c) h in absurd (omega (arith, none, some)))
]

mask-of_two : (c d : Winding) → has_mask (add c d) ≡ true → (has_mask c ≡ true) ⊎ (has_mask d ≡ true)
mask-of_two c d h = elim (cases_Bool (has_mask c)) [
  | inl k ↦ inl k
  | inr k ↦ elim (cases_Bool (has_mask d)) [
    | inl l ↦ inr l
    | inr l ↦ absurd (both_ways false refl (rw (no_mask c k, no_mask d l) at h))
  ]
]

-- ---- a mask in a join

mask_at : (bag : List WholeSegment) (u : WholeSegment) → Has bag u → 0 < u.count.mask → 0 < (winding_at bag u.pair).mask
mask_at [] u i h = absurd i
mask_at (s ∷ bag) u (inl e) h =
    let here = ap (λ (w : Winding). w.mask) (winding_at-here s bag) in
    let more = le_or_l s.count.mask (winding_at bag s.pair).mask in
    let some : 0 < s.count.mask = subst (λ (v : WholeSegment). 0 < v.count.mask) (sym e) h in
    let first : 0 < (winding_at (s ∷ bag) s.pair).mask = omega (arith, here, more, some) in
    subst (λ (v : WholeSegment). 0 < (winding_at (s ∷ bag) v.pair).mask) e first
mask_at (s ∷ bag) u (inr i) h =
    let here = ap (λ (w : Winding). w.mask) (winding_at-cons s bag u.pair) in
    let more = le_or_r (count_at u.pair s).mask (winding_at bag u.pair).mask in
    let later = mask_at bag u i h in
    omega (arith, here, more, later)

-- its pair is one of the join, with a mask
joined_mask : (bag : List WholeSegment) (u : WholeSegment) → Has bag u → 0 < u.count.mask → Contains (pairs (with_mask (join bag))) u.pair
unfolding join summed
joined_mask bag u i h =
    let some = mask_at bag u i h in
    let sum : WholeSegment = record { pair = u.pair; count = winding_at bag u.pair } in
    let key = Has-distinct_in_order pair_cmp_total pair_same (pairs bag) u.pair (Has-map (λ (s : WholeSegment). s.pair) bag u i) in
    let added = Has-map (λ (pair : Pair). let s : WholeSegment = record { pair = pair; count = winding_at bag pair } in s) (distinct_in_order pair_cmp (pairs bag)) u.pair key in
    let kept = Has-filter (λ s. is_not_empty s.count) (summed bag) sum added (is_not_empty-mask (winding_at bag u.pair) some) in
    Contains-from_Has (pairs (with_mask (join bag))) u.pair (Has-map (λ (s : WholeSegment). s.pair) (with_mask (join bag)) sum (Has-filter (λ s. has_mask s.count) (join bag) sum kept (masked (winding_at bag u.pair) some)))

-- ---- masks of two bits

abbrev AreSmall : List WholeSegment → Type 0
AreSmall segments = AllByRecursion (λ s. s.count.mask < 4) segments

small-inverse : (c : Winding) → c.mask < 4 → (inverse c).mask < 4
small-inverse c h = omega (arith, h)

small_after : (settings : Settings) (given : List WholeSegment) (k : ℕ) → AreSmall given → AreSmall (after_passes settings given k)
unfolding after_passes pass
small_after settings given zero h = counts-join (λ c. c.mask < 4) (omega arith) (λ c d p q. or_lt 2 c.mask d.mask p q) given h
small_after settings given (suc k) h =
    let placing = placing_of_pass settings (suc k) in
    let before = after_passes settings given k in
    counts-join (λ c. c.mask < 4) (omega arith) (λ c d p q. or_lt 2 c.mask d.mask p q) (cut placing before) (counts-cut (λ c. c.mask < 4) small-inverse (marks_on placing before) before (small_after settings given k h))

-- ---- a pass

-- where the marks on it are near, each point of a line is near a line after the pass
piece_stays : (h : ℕ) (marks : Pair → List Point) (segments : List WholeSegment) (t : WholeSegment) → AreNear h (marks t.pair) t.pair → Has segments t → IsTrue (is_ordered t.pair) → IsLine t.count → (f : Fraction) → IsNearSome h (point_along t.pair f) (pairs (with_mask (pass_by marks segments)))
piece_stays h marks segments t near i ordered line f =
    let some = pieces_cover h t (marks t.pair) (ends_differ t.pair ordered) near f in
    let own = AllByRecursion-at (λ u. IsLine u.count) (pieces t (marks t.pair)) some.0 (counts_of_pieces IsLine IsLine-inverse t (marks t.pair) line) some.1 in
    (some.0.pair, joined_mask (cut_by marks segments) some.0 (Has-cut marks segments t some.0 i some.1) own.0, some.2)

pass_by_keeps : (h : ℕ) (marks : Pair → List Point) (segments : List WholeSegment) (t : WholeSegment) → IsTrue (are_ordered segments) → MarksAreNear h marks segments → Has segments t → IsLine t.count → (f : Fraction) → IsNearSome h (point_along t.pair f) (pairs (with_mask (pass_by marks segments)))
pass_by_keeps h marks segments t ordered near i line f =
    piece_stays h marks segments t (near t.pair (Has-map (λ (u : WholeSegment). u.pair) segments t i)) i (list_all-at (λ (u : WholeSegment). is_ordered u.pair) segments t ordered i) line f

pass_keeps : (placing : Placing) (segments : List WholeSegment) (t : WholeSegment) → IsTrue (are_ordered segments) → Has segments t → IsLine t.count → (f : Fraction) → IsNearSome (reach_of_pass placing segments) (point_along t.pair f) (pairs (with_mask (pass placing segments)))
unfolding pass
pass_keeps placing segments t ordered i line f = pass_by_keeps (reach_of_pass placing segments) (marks_on placing segments) segments t ordered (marks_of_pass_are_near placing segments ordered) i line f

-- ---- lines

small_from : (segments : List WholeSegment) → IsTrue (list_all (λ s. nat_lt s.count.mask 4) segments) → AreSmall segments
small_from segments h = AllByRecursion-weaker (λ u. nat_lt u.count.mask 4 ≡ true) (λ u. u.count.mask < 4) (λ u t. ltb-true _ _ t) segments (AllByRecursion-from_list_all (λ u. nat_lt u.count.mask 4) segments h)

-- a segment with a mask of a list whose masks have two bits
line_among : (segments : List WholeSegment) (s : Pair) → AreSmall segments → Contains (pairs (with_mask segments)) s → (t : WholeSegment) × Has segments t × IsLine t.count × (t.pair ≡ s)
line_among segments s small m =
    let there = Has-map_out (λ (u : WholeSegment). u.pair) (with_mask segments) s (Has-from_Contains (pairs (with_mask segments)) s m) in
    let kept = Has-filter_out (λ u. has_mask u.count) segments there.0 there.1 in
    (there.0, kept.0, (some_mask there.0.count kept.1, AllByRecursion-at (λ u. u.count.mask < 4) segments there.0 small kept.0), there.2)

pub cut_keeps_lines : CutKeepsLines
cut_keeps_lines h marks segments ordered small lie_near =
    let near = EachMark-at (λ s m. IsNear h (whole_point m) s) marks segments lie_near in (
      pass_by_of_kind has_mask refl mask-turned mask-of_two h marks segments near,
      λ s m f.
          let t = line_among segments s (small_from segments small) m in
          subst (λ (u : Pair). IsNearSome h (point_along u f) (pairs (with_mask (pass_by marks segments)))) t.3 (pass_by_keeps h marks segments t.0 ordered near t.1 t.2 f),
    )

-- ---- a run

line_stays : (settings : Settings) (given : List WholeSegment) (k : ℕ) (s : Pair) → IsTrue (are_ordered given) → AreSmall given → Contains (pairs (with_mask given)) s → (f : Fraction) → IsNearSome (reach_of_run settings given k) (point_along s f) (pairs (with_mask (after_passes settings given k)))
unfolding after_passes reach_of_run
line_stays settings given zero s ordered small m f =
    let t = line_among given s small m in
    (s, subst (Contains (pairs (with_mask (join given)))) t.3 (joined_mask given t.0 t.1 t.2.0), LiesNear-itself s f)
line_stays settings given (suc k) s ordered small m f =
    let before = after_passes settings given k in
    let placing = placing_of_pass settings (suc k) in
    let here = reach_of_run settings given k in
    let more = reach_of_pass placing before in
    let (r, j, (g, within)) = line_stays settings given k s ordered small m f in
    let t = line_among before r (small_after settings given k small) j in
    let near = subst (λ (u : Pair). IsNearSome more (point_along u g) (pairs (with_mask (pass placing before)))) t.3 (pass_keeps placing before t.0 (are_ordered-map before (is_map-after_passes settings given k ordered)) t.1 t.2 g) in
    (near.0, near.1, IsNear-from_point here more (point_along s f) (point_along r g) near.0 g.positive within near.2)

pub run_keeps_lines : RunKeepsLines
run_keeps_lines settings given k ordered small = record {
  result_is_near = run_of_kind has_mask refl mask-turned mask-of_two settings given k ordered;
  given_is_near = λ s m f. line_stays settings given k s ordered (small_from given small) m f;
}
