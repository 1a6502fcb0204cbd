-- The contours of walks in shapes: no place lies in two shapes, each contour is simple, and the first one has the least point.
use Rattle.std.proofs.Common.{◌≡◌, ℕ, zero, suc, ◌+◌, ◌<◌, ◌≤◌, ◌==◌, ◌⊎◌, inl, inr, Bool, true, false, cond, if◌then◌else◌, List, [], ◌∷◌, ◌++◌, map, length, get_or, refl, sym, ap, ◌∙◌, arith}
use Rattle.std.specs.Prelude.{ℤ, pos, negsuc, ◌+ℤ◌, ◌-ℤ◌, ◌*ℤ◌, IsTrue, count_by, Some, slice_get}
use Rattle.std.specs.List.{AllByRecursion, list_all}
use Rattle.std.specs.Ordering.{int_eq}
use Rattle.std.proofs.lemmas.Bool.{eq-eqb}
use Rattle.std.proofs.lemmas.List.{map-append}
use Rattle.std.proofs.lemmas.List.Elements.{All-from_recursion, recursion_from_All}
use Rattle.std.proofs.lemmas.List.Sums.{sum_by-cons}
use Rattle.overlay_geometry.specs.Points.{Point, is_ordered}
use Rattle.overlay_geometry.proofs.laws.lists.Lists.{Has, Has-append_left, Has-append_right, AllByRecursion-map, AllByRecursion-from_Has, AllByRecursion-at, AllByRecursion-weaker, sum_by-map}
use Rattle.overlay_geometry.proofs.laws.lists.Elements.{Has-from_Contains, Has-append_out}
use Rattle.overlay_base.specs.Balance.{IsBalanced}
use Rattle.overlay_base.specs.Places.{RationalPoint, winding_below}
use Rattle.overlay_base.specs.Planar.{is_planar}
use Rattle.overlay_base.specs.Rules.{top_value}
use Rattle.overlay_base.specs.Segments.{WholeSegment, is_map}
use Rattle.overlay_sweep.specs.ChainWindings.{support, bottom}
use Rattle.overlay_sweep.proofs.laws.columns.Members.{IsArranged, is_arranged}
use Rattle.overlay_build.specs.Boundary.{of_subject, direction, directed_links, truth}
use Rattle.overlay_build.specs.DirectedWalks.{arcs, no_link, contour, IsDirectedWalk}
use Rattle.overlay_build.specs.Graph.{Filled, Link, graph_of}
use Rattle.overlay_shapes.specs.Gathered.{all_walks, all_links, group_at}
use Rattle.overlay_shapes.specs.ShapeWalks.{StandsOn, AreShapeWalks}
use Rattle.overlay_shapes.proofs.laws.BetweenSides.{between_sides}
use Rattle.overlay_contours.specs.Contours.{winding_number}
use Rattle.overlay_contours.specs.Shapes.{all_contours, shapes_round, WindApart}
use Rattle.overlay_contours.proofs.laws.ShapeCounts.{total, is_some, AreApart, one_apart, times_in, times_of, times-more, alike_in, alike_of}
use Rattle.overlay_contours.proofs.laws.ShapeLists.{all_mapped_walks}
use Rattle.overlay_contours.proofs.laws.ShapeSums.{winds_in_sums, winds-append, at_is, has_run, runs_many, as_many, walks_apart}

pub either_bool : (a b : Bool) → (a ≡ b) ⊎ (a ≡ b → ⊥)
either_bool true true = inl refl
either_bool true false = inr (λ e. absurd (cc))
either_bool false true = inr (λ e. absurd (cc))
either_bool false false = inl refl

pub slice_get-at : {X : Type 0} (xs : List X) (i : ℕ) (d : X) → i < length xs → slice_get xs i ≡ Some (get_or xs i d)
slice_get-at [] i d h = absurd (omega (arith, h))
slice_get-at (x ∷ xs) zero d h = refl
slice_get-at (x ∷ xs) (suc i) d h = slice_get-at xs i d (omega (arith, h))

abbrev flag : Bool → ℕ
flag b = cond b 1 0

abbrev hit : ℕ → ℕ → ℕ
hit x i = flag (x == i)

pub Has-count : (xs : List ℕ) (i : ℕ) → Has xs i → 0 < count_by (λ j. j == i) xs
Has-count [] i never = elim never [ ]
Has-count (x ∷ xs) i (inl e) = let m = sum_by-cons (λ j. hit j i) x xs in let z : hit x i ≡ 1 = ap flag (eq-eqb x i e) in omega (arith, m, z)
Has-count (x ∷ xs) i (inr n) = let m = sum_by-cons (λ j. hit j i) x xs in let r = Has-count xs i n in omega (arith, m, r)

module _ (rule : Bool → Bool → Bool) (kept : List Filled) (ordered : list_all (λ f. is_ordered f.pair) kept ≡ true) (mapped : IsTrue (is_map (directed_links rule (graph_of kept)))) (planar : IsTrue (is_planar (directed_links rule (graph_of kept)))) where
  arranged : IsArranged (directed_links rule (graph_of kept))
  arranged = is_arranged (directed_links rule (graph_of kept)) mapped planar

  abbrev links : List Link
  links = (graph_of kept).links

  abbrev ways : List Link
  ways = arcs rule links

  abbrev runs : List WholeSegment
  runs = directed_links rule (graph_of kept)

  abbrev run_at : ℕ → WholeSegment
  run_at i = get_or (directed_links rule (graph_of kept)) i (record { pair = no_link.pair; count = of_subject (direction rule 0) })

  run_is : (i : ℕ) → i < length links → run_at i ≡ record { pair = (get_or links i no_link).pair; count = of_subject (direction rule (get_or links i no_link).fill) }
  run_is i h = at_is rule kept ordered arranged i h

  turn_is : (i : ℕ) → i < length links → (run_at i).count.subj ≡ (if top_value rule (get_or links i no_link).fill then pos 1 else negsuc 0)
  unfolding direction
  turn_is i h = ap (λ (s : WholeSegment). s.count.subj) (run_is i h)

  low_run : (i : ℕ) → i < length links → i < length (directed_links rule (graph_of kept))
  low_run i h = let m = runs_many rule kept ordered arranged in omega (arith, h, m)

  module _ (balanced : IsBalanced (directed_links rule (graph_of kept))) (v : RationalPoint → Bool) (winds : (p : RationalPoint) → 0 < p.bottom → (winding_below (directed_links rule (graph_of kept)) p).subj ≡ truth (v p) -ℤ truth (rule false false))
      (groups : List (List (List ℕ))) (are : AreShapeWalks rule (graph_of kept) (arcs rule (graph_of kept).links) groups) where
    pub between : (i : ℕ) → i < length links → (top_value rule (get_or links i no_link).fill ≡ rule false false → (bottom runs (run_at i)).subj ≡ pos 0 → ⊥) × ((top_value rule (get_or links i no_link).fill ≡ rule false false → ⊥) → (bottom runs (run_at i)).subj ≡ pos 0)
    between i h = between_sides runs mapped planar balanced (rule false false) v winds (run_at i) (top_value rule (get_or links i no_link).fill) (has_run rule kept ordered arranged i h) (turn_is i h)

    pub closed : AllByRecursion (IsDirectedWalk ways) (all_walks groups)
    closed = recursion_from_All (IsDirectedWalk ways) (all_walks groups) are.walks.closed

    pub each_closed : AllByRecursion (AllByRecursion (IsDirectedWalk ways)) groups
    each_closed = parts groups closed
      where
        parts : (gs : List (List (List ℕ))) → AllByRecursion (IsDirectedWalk ways) (all_walks gs) → AllByRecursion (AllByRecursion (IsDirectedWalk ways)) gs
        parts [] a = tt
        parts (g ∷ gs) a = (
          AllByRecursion-from_Has (IsDirectedWalk ways) g (λ w m. AllByRecursion-at (IsDirectedWalk ways) (g ++ all_walks gs) w a (Has-append_left g (all_walks gs) w m)),
          parts gs (AllByRecursion-from_Has (IsDirectedWalk ways) (all_walks gs) (λ w m. AllByRecursion-at (IsDirectedWalk ways) (g ++ all_walks gs) w a (Has-append_right g (all_walks gs) w m))),
        )

    once : (i : ℕ) → i < length links → times_of i groups ≡ 1
    once i h = are.walks.once i (let m = as_many rule kept ordered arranged in omega (arith, h, m))

    -- a link and its support are in one shape, unless nothing winds between them
    alike : (i j : ℕ) → i < length links → j < length links → support runs (run_at i) ≡ Some (run_at j) → ((bottom runs (run_at i)).subj ≡ pos 0) ⊎ AllByRecursion (λ g. times_in i g ≡ times_in j g) groups
    alike i j h l on = elim (either_bool (top_value rule (get_or links i no_link).fill) (rule false false)) [
      | inl e ↦
          let s : StandsOn rule (graph_of kept) i j = record {
            above = run_at i;
            below = run_at j;
            above_is = slice_get-at runs i _ (low_run i h);
            below_is = slice_get-at runs j _ (low_run j l);
            on = on;
            between = e;
          } in
          let r = are.whole i j (inl s) in
          let a = once i h in
          let b = once j l in
          inr (alike_in i j groups r.0 r.1 (Has-count (all_links (group_at groups r.0)) i (Has-from_Contains (all_links (group_at groups r.0)) i r.2)) (Has-count (all_links (group_at groups r.0)) j (Has-from_Contains (all_links (group_at groups r.0)) j r.3)) (omega (arith, a)) (omega (arith, b)))
      | inr n ↦ inl ((between i h).1 n)
    ]

    -- ---- no place lies in two shapes

    module _ (p : RationalPoint) (some : 0 < p.bottom) where
      abbrev wound : List (List ℕ) → ℤ
      wound g = winding_number (map (contour ways) g) p

      total_is : (gs : List (List (List ℕ))) → total wound gs ≡ winding_number (map (contour ways) (all_walks gs)) p
      total_is [] = sym (winds_in_sums [] p)
      total_is (g ∷ gs) = ap (λ (z : ℤ). wound g +ℤ z) (total_is gs) ∙ sym (winds-append (map (contour ways) g) (map (contour ways) (all_walks gs)) p) ∙ ap (λ (l : List (List Point)). winding_number l p) (sym (map-append (contour ways) g (all_walks gs)))

      all_of : (gs : List (List (List ℕ))) → AllByRecursion (AllByRecursion (IsDirectedWalk ways)) gs → AllByRecursion (IsDirectedWalk ways) (all_walks gs)
      all_of [] a = tt
      all_of (g ∷ gs) a = AllByRecursion-from_Has (IsDirectedWalk ways) (g ++ all_walks gs) (λ w m. elim (Has-append_out g (all_walks gs) w m) [ inl n ↦ AllByRecursion-at (IsDirectedWalk ways) g w a.0 n | inr n ↦ AllByRecursion-at (IsDirectedWalk ways) (all_walks gs) w (all_of gs a.1) n ])

      apart_from : (gs : List (List (List ℕ))) → AllByRecursion (AllByRecursion (IsDirectedWalk ways)) gs → ((i : ℕ) → i < length links → times_of i gs ≤ 1) →
          ((i j : ℕ) → i < length links → j < length links → support runs (run_at i) ≡ Some (run_at j) → ((bottom runs (run_at i)).subj ≡ pos 0) ⊎ AllByRecursion (λ g. times_in i g ≡ times_in j g) gs) → AreApart wound gs
      apart_from [] a few same = tt
      apart_from (g ∷ gs) a few same = (
        ap (λ (z : ℤ). wound g *ℤ z) (total_is gs)
            ∙ walks_apart rule kept ordered arranged g (all_walks gs) a.0 (all_of gs a.1) (λ i h. let m = times-more i g gs in let f = few i h in omega (arith, m, f))
            (λ i j h l on. elim (same i j h l on) [ inl z ↦ inl z | inr q ↦ inr (q.0, alike_of i j gs q.1) ]) p some,
        apart_from gs a.1 (λ i h. let m = times-more i g gs in let f = few i h in omega (arith, m, f)) (λ i j h l on. elim (same i j h l on) [ inl z ↦ inl z | inr q ↦ inr q.1 ]),
      )

      all_are : all_contours (map (map (contour ways)) groups) ≡ map (contour ways) (all_walks groups)
      all_are = all_mapped_walks (contour ways) groups

      pub shapes_wind_apart : WindApart (map (map (contour ways)) groups) p
      unfolding shapes_round
      shapes_wind_apart =
          let apart = one_apart wound groups (apart_from groups each_closed (λ i h. let e = once i h in omega (arith, e)) alike) in
          let whole : total wound groups ≡ winding_number (all_contours (map (map (contour ways)) groups)) p = total_is groups ∙ ap (λ (l : List (List Point)). winding_number l p) (sym all_are) in
          record {
            each = All-from_recursion (λ shape. (winding_number shape p ≡ pos 0) ⊎ (winding_number shape p ≡ winding_number (all_contours (map (map (contour ways)) groups)) p)) (map (map (contour ways)) groups)
                (AllByRecursion-map (λ shape. (winding_number shape p ≡ pos 0) ⊎ (winding_number shape p ≡ winding_number (all_contours (map (map (contour ways)) groups)) p)) (map (contour ways)) groups
                (AllByRecursion-weaker (λ g. (wound g ≡ pos 0) ⊎ (wound g ≡ total wound groups)) (λ g. (wound g ≡ pos 0) ⊎ (wound g ≡ winding_number (all_contours (map (map (contour ways)) groups)) p)) (λ g h. elim h [ inl e ↦ inl e | inr e ↦ inr (e ∙ whole) ]) groups apart.0));
            one = sum_by-map (λ (shape : List (List Point)). cond (is_some (winding_number shape p)) 1 0) (map (contour ways)) groups ∙ apart.1 ∙ ap (λ (z : ℤ). if int_eq z (pos 0) then 0 else 1) whole;
          }
