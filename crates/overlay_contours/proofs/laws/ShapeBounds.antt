-- The first contour of each shape is its outer boundary, and each other one is a hole, where the places outside are not in the region.
use Rattle.std.proofs.Common.{◌≡◌, ℕ, zero, suc, ◌+◌, ◌<◌, ◌≤◌, ◌==◌, ◌⊎◌, inl, inr, Bool, true, false, if◌then◌else◌, List, [], ◌∷◌, map, length, get_or, refl, sym, ap, ap₂, subst, ◌∙◌, arith}
use Rattle.std.specs.Prelude.{ℤ, pos, negsuc, ◌+ℤ◌, ◌-ℤ◌, ◌*ℤ◌, count_by, Some, None}
use Rattle.std.specs.List.{AllByRecursion, list_all}
use Rattle.std.specs.Ordering.{int_eq}
use Rattle.std.proofs.lemmas.Bool.{both_ways}
use Rattle.std.proofs.lemmas.Int.{ints}
use Rattle.std.proofs.lemmas.List.Elements.{All-contains, All-from_recursion, recursion_from_All}
use Rattle.overlay_geometry.specs.Points.{is_ordered}
use Rattle.overlay_geometry.proofs.laws.lists.Lists.{Has, AllByRecursion-map, AllByRecursion-from_Has, AllByRecursion-at}
use Rattle.overlay_geometry.proofs.laws.lists.Elements.{Has-from_Contains, Contains-from_Has}
use Rattle.overlay_base.specs.Balance.{IsBalanced}
use Rattle.overlay_base.specs.Places.{RationalPoint}
use Rattle.overlay_base.specs.Rules.{top_value}
use Rattle.overlay_base.specs.Segments.{WholeSegment}
use Rattle.overlay_base.specs.Windings.{Winding, empty}
use Rattle.overlay_sweep.specs.ChainWindings.{support, top, bottom}
use Rattle.overlay_sweep.specs.ColumnWindings.{side_bottom, side_top}
use Rattle.overlay_sweep.proofs.laws.columns.ChainSums.{by_earlier, top_is_sum}
use Rattle.overlay_sweep.proofs.laws.columns.Members.{IsArranged}
use Rattle.overlay_sweep.proofs.laws.columns.Tops.{bottom_is}
use Rattle.overlay_sweep.proofs.laws.live.Supports.{is_earlier}
use Rattle.overlay_build.specs.Boundary.{of_subject, direction, directed_links}
use Rattle.overlay_build.specs.DirectedWalks.{arcs, no_link, contour, IsDirectedWalk}
use Rattle.overlay_build.specs.Graph.{Filled, Link, graph_of}
use Rattle.overlay_shapes.specs.Classes.{AreLinked}
use Rattle.overlay_shapes.specs.Classes.AreLinked.{here, along, back}
use Rattle.overlay_shapes.specs.Gathered.{all_walks, all_links, group_at}
use Rattle.overlay_shapes.specs.Sectors.{winding_on_left, HaveRegionOnLeft}
use Rattle.overlay_shapes.specs.ShapeWalks.{StandsOn, AreShapeWalks}
use Rattle.overlay_shapes.specs.ShapeWalks.{IsStep as LinkStep, IsLed as IsLedWalks}
use Rattle.overlay_shapes.proofs.laws.CutWalks.{count_by-both}
use Rattle.overlay_contours.specs.Contours.{winding_number}
use Rattle.overlay_contours.specs.Shapes.{IsBoundaryWithHoles}
use Rattle.overlay_contours.proofs.laws.Orientations.{low, high, left, left_up, left_down, high_is, high_alike, low_some, low_first, two_levels}
use Rattle.overlay_contours.proofs.laws.ShapeCounts.{alike_in}
use Rattle.overlay_contours.proofs.laws.ShapeLists.{walk_at, Has-counted, walk-count, group-count}
use Rattle.overlay_contours.proofs.laws.ShapeOverlays.{Has-count, slice_get-at}
use Rattle.overlay_contours.proofs.laws.ShapeParts.{slice_get-is, Has-at, Has-links}
use Rattle.overlay_contours.proofs.laws.SectorSides.{alike_along_sector}
use Rattle.overlay_contours.proofs.laws.ShapeSums.{share, share_at, winds_as_share, flows_as_share, at_is, has_run, index_of, runs_many, as_many, low_links}

-- ---- numbers

one_or_other : (z : ℤ) (c : Bool) → z ≡ (if c then pos 1 else negsuc 0) → (z ≡ pos 1) ⊎ (z ≡ negsuc 0)
one_or_other z true e = inl e
one_or_other z false e = inr e

not_one : (t b c : ℤ) → t ≡ b +ℤ c → c ≡ negsuc 0 → b ≡ pos 1 → t ≡ pos 1 → ⊥
not_one t b c e i j k = omega (arith, ints, e, i, j, k)

from_none : (h l f c : ℤ) → h ≡ l +ℤ f *ℤ c → l ≡ pos 0 → f ≡ pos 1 → c ≡ pos 1 → h ≡ pos 1
from_none h l f c e i j k = let one : f *ℤ c ≡ pos 1 = ap₂ (λ (x y : ℤ). x *ℤ y) j k in omega (arith, ints, e, i, one)

none_or_one : (n : ℕ) → n ≤ 1 → (n ≡ 0) ⊎ (n ≡ 1)
none_or_one zero h = inl refl
none_or_one (suc zero) h = inr refl
none_or_one (suc (suc n)) h = absurd (omega (arith, h))

right_not_up : (c : Bool) → (if c then pos 1 else negsuc 0) ≡ negsuc 0 → c ≡ false
right_not_up true e = absurd (cc)
right_not_up false e = refl

all_groups_at : (P : List (List ℕ) → Type 0) (groups : List (List (List ℕ))) (k : ℕ) → AllByRecursion P groups → k < length groups → P (group_at groups k)
all_groups_at P [] k a h = absurd (omega (arith, h))
all_groups_at P (g ∷ groups) zero a h = a.0
all_groups_at P (g ∷ groups) (suc k) a h = all_groups_at P groups k a.1 (omega (arith, h))

module _ (rule : Bool → Bool → Bool) (kept : List Filled) (ordered : list_all (λ f. is_ordered f.pair) kept ≡ true) (arranged : IsArranged (directed_links rule (graph_of kept)))
    (outside : rule false false ≡ false) (even : IsBalanced (directed_links rule (graph_of kept))) (region : HaveRegionOnLeft false (directed_links rule (graph_of kept)))
    (groups : List (List (List ℕ))) (are : AreShapeWalks rule (graph_of kept) (arcs rule (graph_of kept).links) groups) where
  abbrev links : List Link
  links = (graph_of kept).links

  abbrev ways : List Link
  ways = arcs rule links

  abbrev runs : List WholeSegment
  runs = directed_links rule (graph_of kept)

  abbrev none : WholeSegment
  none = record { pair = no_link.pair; count = of_subject (direction rule 0) }

  abbrev run_at : ℕ → WholeSegment
  run_at i = get_or (directed_links rule (graph_of kept)) i (record { pair = no_link.pair; count = of_subject (direction rule 0) })

  turn_is : (i : ℕ) → i < length links → (run_at i).count.subj ≡ (if top_value rule (get_or links i no_link).fill then pos 1 else negsuc 0)
  unfolding direction
  turn_is i h = ap (λ (s : WholeSegment). s.count.subj) (at_is rule kept ordered arranged i h)

  unit : (s : WholeSegment) → Has (directed_links rule (graph_of kept)) s → (s.count.subj ≡ pos 1) ⊎ (s.count.subj ≡ negsuc 0)
  unit s m =
      let i = index_of rule kept ordered arranged s m in
      one_or_other s.count.subj (top_value rule (get_or links i.0 no_link).fill) (ap (λ (t : WholeSegment). t.count.subj) (sym i.2) ∙ turn_is i.0 i.1)

  -- ---- the region is on the left

  on_left : (s : WholeSegment) → Has (directed_links rule (graph_of kept)) s → winding_on_left runs s ≡ pos 1
  on_left s m = All-contains (λ (t : WholeSegment). winding_on_left (directed_links rule (graph_of kept)) t ≡ pos 1) runs s region (Contains-from_Has runs s m)

  bottom_one : (s : WholeSegment) → Has (directed_links rule (graph_of kept)) s → s.count.subj ≡ negsuc 0 → (bottom runs s).subj ≡ pos 1
  bottom_one s m e =
      ap (λ (w : Winding). w.subj) (bottom_is runs arranged even s m)
      ∙ sym (ap (λ (z : ℤ). if int_eq z (pos 1) then (side_top runs s).subj else (side_bottom runs s).subj) e) ∙ on_left s m

  bottom_at : (s t : WholeSegment) → support runs s ≡ Some t → bottom runs s ≡ top runs t
  unfolding bottom
  bottom_at s t e = rw e refl

  bottom_none : (s : WholeSegment) → support runs s ≡ None → bottom runs s ≡ empty
  unfolding bottom
  bottom_none s e = rw e refl

  -- below a link that runs from right to left is one that runs from left to right
  below_runs : (s t : WholeSegment) → Has (directed_links rule (graph_of kept)) s → Has (directed_links rule (graph_of kept)) t → s.count.subj ≡ negsuc 0 → support runs s ≡ Some t → t.count.subj ≡ pos 1
  below_runs s t m n e on = elim (unit t n) [
    | inl up ↦ up
    | inr down ↦ absurd (not_one (top runs t).subj (bottom runs t).subj t.count.subj (ap (λ (w : Winding). w.subj) (top_is_sum runs arranged t n)) down (bottom_one t n down) (ap (λ (w : Winding). w.subj) (sym (bottom_at s t on)) ∙ bottom_one s m e))
  ]

  -- ---- along steps it winds alike on the left

  module _ (c : List ℕ) (closed : IsDirectedWalk (arcs rule (graph_of kept).links) c) where
    abbrev own : WholeSegment → ℤ
    own = share rule kept ordered arranged (all_links (c ∷ []))

    abbrev beside : ℕ → ℤ
    beside i = left runs arranged (share rule kept ordered arranged (all_links (c ∷ []))) (run_at i)

    across : (i j : ℕ) → StandsOn rule (graph_of kept) i j → beside i ≡ beside j
    across i j n =
        let a = slice_get-is runs i n.above none n.above_is in
        let b = slice_get-is runs j n.below none n.below_is in
        let m = subst (Has runs) a.1 (Has-at runs i none a.0) in
        let l = subst (Has runs) b.1 (Has-at runs j none b.0) in
        let low_i : i < length links = (let k = runs_many rule kept ordered arranged in omega (arith, a.0, k)) in
        let down : n.above.count.subj ≡ negsuc 0 = ap (λ (s : WholeSegment). s.count.subj) (sym a.1) ∙ turn_is i low_i ∙ ap (λ (t : Bool). if t then pos 1 else negsuc 0) (n.between ∙ outside) in
        let up = below_runs n.above n.below m l down n.on in
        ap (left runs arranged own) a.1 ∙ left_down runs arranged own n.above down ∙ low_some runs arranged own n.above n.below n.on ∙ sym (left_up runs arranged own n.below up) ∙ ap (left runs arranged own) (sym b.1)

    alike_linked : {i j : ℕ} → AreLinked (LinkStep rule (graph_of kept) (arcs rule (graph_of kept).links)) i j → beside i ≡ beside j
    alike_linked here = refl
    alike_linked (along r h) = elim r [ inl n ↦ across _ _ n | inr t ↦ alike_along_sector rule kept ordered arranged c closed _ _ t ] ∙ alike_linked h
    alike_linked (back r h) = sym (elim r [ inl n ↦ across _ _ n | inr t ↦ alike_along_sector rule kept ordered arranged c closed _ _ t ]) ∙ alike_linked h

    lone : AllByRecursion (IsDirectedWalk (arcs rule (graph_of kept).links)) (c ∷ [])
    lone = (closed, tt)

    own_at : (i : ℕ) → i < length links → own (run_at i) ≡ pos (count_by (λ j. j == i) (all_links (c ∷ [])))
    own_at i h = share_at rule kept ordered arranged i (all_links (c ∷ [])) h (low_links rule kept ordered arranged (c ∷ []) lone)

    alone : (i : ℕ) → count_by (λ j. j == i) (all_links (c ∷ [])) ≡ count_by (λ j. j == i) c
    alone i = let both = count_by-both (λ j. j == i) c [] in omega (arith, both)

    levels : (k : ℤ) → (k ≡ pos 0) ⊎ (k ≡ pos 1) → ((i : ℕ) → i < length links → (count_by (λ j. j == i) c ≡ 0) ⊎ ((count_by (λ j. j == i) c ≡ 1) × (beside i ≡ k))) →
        (p : RationalPoint) → 0 < p.bottom → (winding_number (contour ways c ∷ []) p ≡ k) ⊎ (winding_number (contour ways c ∷ []) p ≡ k -ℤ pos 1)
    levels k some_level each p some =
        let is = winds_as_share rule kept ordered arranged (c ∷ []) lone p in
        elim (two_levels runs arranged own (flows_as_share rule kept ordered arranged (c ∷ []) lone) k some_level unit each_run p some) [ inl e ↦ inl (sym is ∙ e) | inr e ↦ inr (sym is ∙ e) ]
      where
        each_run : (s : WholeSegment) → Has (directed_links rule (graph_of kept)) s → (own s ≡ pos 0) ⊎ ((own s ≡ pos 1) × (left runs arranged own s ≡ k))
        each_run s m =
            let i = index_of rule kept ordered arranged s m in
            subst (λ v. (own v ≡ pos 0) ⊎ ((own v ≡ pos 1) × (left runs arranged own v ≡ k))) i.2
            (elim (each i.0 i.1) [
              | inl e ↦ inl (own_at i.0 i.1 ∙ ap (λ n. pos n) (alone i.0 ∙ e))
              | inr q ↦ inr (own_at i.0 i.1 ∙ ap (λ n. pos n) (alone i.0 ∙ q.0), q.1)
            ])

  -- ---- the contours of a shape

  closed : AllByRecursion (IsDirectedWalk ways) (all_walks groups)
  closed = recursion_from_All (IsDirectedWalk ways) (all_walks groups) are.walks.closed

  once : (i : ℕ) → i < length links → count_by (λ j. j == i) (all_links (all_walks groups)) ≡ 1
  once i h = are.walks.once i (let m = as_many rule kept ordered arranged in omega (arith, h, m))

  low_link : (i : ℕ) → Has (all_links (all_walks groups)) i → i < length links
  low_link i m = AllByRecursion-at (λ j. j < length links) (all_links (all_walks groups)) i (low_links rule kept ordered arranged (all_walks groups) closed) m

  module _ (k : ℕ) (h : k < length groups) where
    abbrev group : List (List ℕ)
    group = group_at groups k

    abbrev led : IsLedWalks links group
    led = are.led k h

    few_in : (i : ℕ) → i < length links → count_by (λ j. j == i) (all_links (group_at groups k)) ≤ 1
    few_in i l = let a = once i l in let b = group-count groups k i h in omega (arith, a, b)

    walk_closed : (c : List ℕ) → Has (group_at groups k) c → IsDirectedWalk ways c
    walk_closed c m = AllByRecursion-at (IsDirectedWalk ways) (all_walks groups) c closed (walk_at groups k c h m)

    front_in : Has (group_at groups k) led.front
    front_in = subst (λ (g : List (List ℕ)). Has g led.front) (sym led.shape_is) (inl refl)

    later_in : (c : List ℕ) → Has led.later c → Has (group_at groups k) c
    later_in c m = subst (λ (g : List (List ℕ)). Has g c) (sym led.shape_is) (inr m)

    first_in : Has (all_links (group_at groups k)) led.first
    first_in = Has-links (group_at groups k) led.front led.first front_in (Has-from_Contains led.front led.first led.on_front)

    first_low : led.first < length links
    first_low = low_link led.first (Has-links (all_walks groups) led.front led.first (walk_at groups k led.front h front_in) (Has-from_Contains led.front led.first led.on_front))

    not_before : (i : ℕ) → Has (all_links (group_at groups k)) i → i < length links → is_earlier (run_at i).pair (run_at led.first).pair ≡ true → ⊥
    not_before i m l e =
        let never = AllByRecursion-at (λ i. is_earlier (get_or links i no_link).pair (get_or links led.first no_link).pair ≡ false) (all_links (group_at groups k)) i (recursion_from_All (λ i. is_earlier (get_or links i no_link).pair (get_or links led.first no_link).pair ≡ false) (all_links (group_at groups k)) led.none_before) m in
        both_ways (is_earlier (get_or links i no_link).pair (get_or links led.first no_link).pair) never
        (ap₂ (λ (s t : WholeSegment). is_earlier s.pair t.pair) (sym (at_is rule kept ordered arranged i l)) (sym (at_is rule kept ordered arranged led.first first_low)) ∙ e)

    module _ (c : List ℕ) (m : Has (group_at groups k) c) where
      in_group : (i : ℕ) → 0 < count_by (λ j. j == i) c → Has (all_links (group_at groups k)) i
      in_group i some = Has-links (group_at groups k) c i m (Has-counted c i some)

      few : (i : ℕ) → i < length links → count_by (λ j. j == i) c ≤ 1
      few i l = let a = few_in i l in let b = walk-count (group_at groups k) c i m in omega (arith, a, b)

      -- below the first link of the shape it does not wind
      first_on_none : low runs arranged (share rule kept ordered arranged (all_links (c ∷ []))) (run_at led.first) ≡ pos 0
      first_on_none = low_first runs arranged (share rule kept ordered arranged (all_links (c ∷ []))) (run_at led.first) (has_run rule kept ordered arranged led.first first_low) (λ u n e.
          let i = index_of rule kept ordered arranged u n in
          elim (none_or_one (count_by (λ j. j == i.0) c) (few i.0 i.1)) [
            | inl z ↦ ap (share rule kept ordered arranged (all_links (c ∷ []))) (sym i.2) ∙ own_at c (walk_closed c m) i.0 i.1 ∙ ap (λ n. pos n) (alone c (walk_closed c m) i.0 ∙ z)
            | inr o ↦ absurd (not_before i.0 (in_group i.0 (omega (arith, o))) i.1 (ap (λ (s : WholeSegment). is_earlier s.pair (run_at led.first).pair) i.2 ∙ e))
          ])

      of_group : (z : ℤ) → (z ≡ pos 0) ⊎ (z ≡ pos 1) → beside c (walk_closed c m) led.first ≡ z → (p : RationalPoint) → 0 < p.bottom → (winding_number (contour ways c ∷ []) p ≡ z) ⊎ (winding_number (contour ways c ∷ []) p ≡ z -ℤ pos 1)
      of_group z some_level e = levels c (walk_closed c m) z some_level (λ i l.
          elim (none_or_one (count_by (λ j. j == i) c) (few i l)) [
            | inl none ↦ inl none
            | inr one ↦ inr (one, alike_linked c (walk_closed c m) (are.linked k i led.first h (Contains-from_Has (all_links (group_at groups k)) i (in_group i (omega (arith, one)))) (Contains-from_Has (all_links (group_at groups k)) led.first first_in)) ∙ e)
          ])

    -- the first link of a shape runs from left to right
    first_turn : (run_at led.first).count.subj ≡ pos 1
    first_turn =
        let s = run_at led.first in
        let m = has_run rule kept ordered arranged led.first first_low in
        elim (unit s m) [
          | inl up ↦ up
          | inr down ↦
              let one = bottom_one s m down in
              by_earlier runs arranged s m
              (λ e. absurd (let z : (bottom runs s).subj ≡ pos 0 = ap (λ (w : Winding). w.subj) (bottom_none s e) in omega (arith, ints, z, one)))
              (λ t e n before.
              let j = index_of rule kept ordered arranged t n in
              let stands : StandsOn rule (graph_of kept) led.first j.0 = record {
                above = s;
                below = t;
                above_is = slice_get-at runs led.first none (let r = runs_many rule kept ordered arranged in let l = first_low in omega (arith, r, l));
                below_is = slice_get-at runs j.0 none (let r = runs_many rule kept ordered arranged in omega (arith, r, j.1)) ∙ ap (λ v. Some v) j.2;
                on = e;
                between = right_not_up (top_value rule (get_or links led.first no_link).fill) (sym (turn_is led.first first_low) ∙ down) ∙ sym outside;
              } in
              let r = are.whole led.first j.0 (inl stands) in
              let o = once led.first first_low in
              let q = once j.0 j.1 in
              let same = all_groups_at (λ g. count_by (λ i. i == led.first) (all_links g) ≡ count_by (λ i. i == j.0) (all_links g)) groups k (alike_in led.first j.0 groups r.0 r.1 (Has-count (all_links (group_at groups r.0)) led.first (Has-from_Contains (all_links (group_at groups r.0)) led.first r.2)) (Has-count (all_links (group_at groups r.0)) j.0 (Has-from_Contains (all_links (group_at groups r.0)) j.0 r.3)) (omega (arith, o)) (omega (arith, q))) h in
              let there = Has-count (all_links (group_at groups k)) led.first first_in in
              absurd (not_before j.0 (Has-counted (all_links (group_at groups k)) j.0 (omega (arith, same, there))) j.1 (ap (λ (v : WholeSegment). is_earlier v.pair s.pair) j.2 ∙ before)))
        ]

    front_beside : beside led.front (walk_closed led.front front_in) led.first ≡ pos 1
    front_beside =
        let c = led.front in
        let shut = walk_closed c front_in in
        let s = run_at led.first in
        let m = has_run rule kept ordered arranged led.first first_low in
        let some = Has-count c led.first (Has-from_Contains c led.first led.on_front) in
        let most = few c front_in led.first first_low in
        let one : count_by (λ j. j == led.first) c ≡ 1 = omega (arith, some, most) in
        left_up runs arranged (own c shut) s first_turn
        ∙ from_none (high runs arranged (own c shut) s) (low runs arranged (own c shut) s) (own c shut s) s.count.subj (high_is runs arranged (own c shut) s m) (first_on_none c front_in)
        (own_at c shut led.first first_low ∙ ap (λ n. pos n) (alone c shut led.first ∙ one)) first_turn

    hole_beside : (c : List ℕ) (n : Has led.later c) → beside c (walk_closed c (later_in c n)) led.first ≡ pos 0
    hole_beside c n =
        let shut = walk_closed c (later_in c n) in
        let s = run_at led.first in
        let m = has_run rule kept ordered arranged led.first first_low in
        let some = Has-count led.front led.first (Has-from_Contains led.front led.first led.on_front) in
        let most = few_in led.first first_low in
        let same : count_by (λ j. j == led.first) (all_links (group_at groups k)) ≡ count_by (λ j. j == led.first) (all_links (led.front ∷ led.later)) = ap (λ (g : List (List ℕ)). count_by (λ j. j == led.first) (all_links g)) led.shape_is in
        let both = count_by-both (λ j. j == led.first) led.front (all_links led.later) in
        let part_of = walk-count led.later c led.first n in
        let none : count_by (λ j. j == led.first) c ≡ 0 = omega (arith, some, most, same, both, part_of) in
        left_up runs arranged (own c shut) s first_turn
        ∙ high_alike runs arranged (own c shut) s m (own_at c shut led.first first_low ∙ ap (λ n. pos n) (alone c shut led.first ∙ none))
        ∙ first_on_none c (later_in c n)

    pub boundary_with_holes : IsBoundaryWithHoles (map (contour (arcs rule (graph_of kept).links)) (group_at groups k))
    boundary_with_holes = record {
      outer = contour ways led.front;
      holes = map (contour ways) led.later;
      shape_is = ap (map (contour ways)) led.shape_is;
      counterclockwise = λ p some. elim (of_group led.front front_in (pos 1) (inr refl) front_beside p some) [ inl e ↦ inr e | inr e ↦ inl e ];
      clockwise =
          All-from_recursion (λ hole. (p : RationalPoint) → 0 < p.bottom → (winding_number (hole ∷ []) p ≡ pos 0) ⊎ (winding_number (hole ∷ []) p ≡ negsuc 0)) (map (contour ways) led.later)
          (AllByRecursion-map (λ hole. (p : RationalPoint) → 0 < p.bottom → (winding_number (hole ∷ []) p ≡ pos 0) ⊎ (winding_number (hole ∷ []) p ≡ negsuc 0)) (contour ways) led.later
          (AllByRecursion-from_Has (λ w. (p : RationalPoint) → 0 < p.bottom → (winding_number (contour ways w ∷ []) p ≡ pos 0) ⊎ (winding_number (contour ways w ∷ []) p ≡ negsuc 0)) led.later (λ w n.
          of_group w (later_in w n) (pos 0) (inl refl) (hole_beside w n))));
    }
