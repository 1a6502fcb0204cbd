-- Areas of contours: sums over edges in any order, over the boundary of a rule in an arrangement, and so of several rules together.
use Rattle.std.proofs.Common.{◌≡◌, refl, sym, ap, ap₂, subst, ◌∙◌, ℕ, ◌<◌, ◌+◌, Bool, true, false, cond, not, ◌&&◌, ◌||◌, if◌then◌else◌, List, [], ◌∷◌, ◌++◌, map, filter, length, drop, get_or, suc, ◌≤◌, arith}
use Rattle.std.specs.Prelude.{ℤ, pos, negsuc, ◌+ℤ◌, ◌-ℤ◌, ◌*ℤ◌, count_by, All, unsigned_abs, ◌*◌}
use Rattle.std.proofs.lemmas.Int.{ints}
use Rattle.std.proofs.lemmas.List.Sums.{sum_by-cons}
use Rattle.overlay_geometry.specs.Coordinates.{is_point_in_range}
use Rattle.overlay_geometry.specs.InRange.{IsPointInRange}
use Rattle.overlay_geometry.specs.PointOf.{point_of}
use Rattle.overlay_geometry.specs.declared.geom.point.IntPoint.{IntPoint}
use Rattle.overlay_geometry.specs.Points.{Point, Pair, pair_eq, point_eq, step, cross_product}
use Rattle.overlay_geometry.proofs.laws.geometry.Points.{same_by_eq, pair_eq_same, same_pair_by_eq}
use Rattle.std.proofs.lemmas.List.Elements.{All-from_recursion}
use Rattle.std.proofs.lemmas.List.Folds.{list_all-map}
use Rattle.overlay_geometry.proofs.laws.lists.Lists.{AllByRecursion-from_list_all}
use Rattle.overlay_geometry.proofs.laws.geometry.Polynomials.{as_D, diffs, D-eq}
use Rattle.overlay_base.specs.Rules.{differ, holds}
use Rattle.overlay_base.specs.Segments.{WholeSegment}
use Rattle.overlay_base.specs.Sums.{IsCommutativeMonoid, gathered}
use Rattle.overlay_base.specs.declared.overlay_core.fill_rule.FillRule.{FillRule}
use Rattle.overlay_base.specs.declared.overlay_core.overlay_rule.OverlayRule.{OverlayRule}
use Rattle.overlay_base.specs.declared.overlay_core.overlay_rule.OverlayRule.TheVariants.{Subject, Clip, Intersect, Union, Xor}
use Rattle.overlay_base.proofs.laws.lists.Monoids.{gathered-filter, gathered-map, gathered-same, gathered-op}
use Rattle.overlay_sweep.specs.ColumnWindings.{side_bottom, side_top}
use Rattle.overlay_sweep.specs.Fill.{is_inside}
use Rattle.overlay_build.specs.Boundary.{of_subject, truth, boundary, directed_count}
use Rattle.overlay_build.specs.Values.{value_at, tells_apart}
use Rattle.overlay_contours.specs.Areas.{step_area, doubled_area, doubled_area_of_all}
use Rattle.overlay_contours.specs.Contours.{steps, steps_from, is_edge, turned, directed_edges}
use Rattle.overlay_contours.specs.ContourSegments.{overlay_segments}
use Rattle.overlay_contours.specs.ContoursIn.{LiesInRange}
use Rattle.overlay_contours.specs.Laws.{AreasAddUp, ExclusiveAreasAddUp}
use Rattle.overlay_contours.specs.Polygons.{IsPolygonOverlay, run_of, RunsAlongBoundary}
use Rattle.overlay_contours.specs.Splittings.{Splitting}
use Rattle.overlay_contours.proofs.laws.Splittings.{left_is_one}
use Rattle.overlay_contours.proofs.laws.Steps.{drop_at, drop_all}

-- ---- sums of whole numbers

pub whole_sums : IsCommutativeMonoid ◌+ℤ◌ (pos 0)
whole_sums = record { comm = λ a b. omega (arith, ints); assoc = λ a b c. omega (arith, ints); unit_left = λ a. omega (arith, ints) }

abbrev sum : {X : Type 0} → (X → ℤ) → List X → ℤ
sum f xs = gathered ◌+ℤ◌ (pos 0) f xs

-- ---- a list without the first element that equals a pair

abbrev without : Pair → List Pair → List Pair
without e [] = []
without e (x ∷ xs) = cond (pair_eq x e) xs (x ∷ without e xs)

abbrev flag : Bool → ℕ
flag b = cond b 1 0

abbrev is_there : Pair → List Pair → Type 0
is_there e xs = 0 < count_by (λ s. pair_eq s e) xs

sum_without : (f : Pair → ℤ) (e : Pair) (xs : List Pair) → is_there e xs → sum f xs ≡ f e +ℤ sum f (without e xs)
sum_without f e [] h = absurd (omega (arith, h))
sum_without f e (x ∷ xs) h = by (sum_without f e xs) (pair_eq x e) refl
  where
    by : (is_there e xs → sum f xs ≡ f e +ℤ sum f (without e xs)) → (b : Bool) → pair_eq x e ≡ b → f x +ℤ sum f xs ≡ f e +ℤ sum f (cond b xs (x ∷ without e xs))
    by ih true t = ap (λ (s : Pair). f s +ℤ sum f xs) (same_pair_by_eq x e t)
    by ih false t =
        let more = sum_by-cons (λ s. flag (pair_eq s e)) x xs in
        let none : flag (pair_eq x e) ≡ 0 = ap flag t in
        let rest = ih (omega (arith, h, more, none)) in
        omega (arith, ints, rest)

count_without : (test : Pair → Bool) (e : Pair) (xs : List Pair) → is_there e xs → count_by test xs ≡ flag (test e) + count_by test (without e xs)
count_without test e [] h = absurd (omega (arith, h))
count_without test e (x ∷ xs) h = by (count_without test e xs) (pair_eq x e) refl
  where
    by : (is_there e xs → count_by test xs ≡ flag (test e) + count_by test (without e xs)) → (b : Bool) → pair_eq x e ≡ b → count_by test (x ∷ xs) ≡ flag (test e) + count_by test (cond b xs (x ∷ without e xs))
    by ih true t = sum_by-cons (λ s. flag (test s)) x xs ∙ ap (λ (s : Pair). flag (test s) + count_by test xs) (same_pair_by_eq x e t)
    by ih false t =
        let more = sum_by-cons (λ s. flag (pair_eq s e)) x xs in
        let none : flag (pair_eq x e) ≡ 0 = ap flag t in
        let rest = ih (omega (arith, h, more, none)) in
        let here = sum_by-cons (λ s. flag (test s)) x xs in
        let there = sum_by-cons (λ s. flag (test s)) x (without e xs) in
        omega (arith, rest, here, there)

-- a list that counts nothing is empty
none_left : (ys : List Pair) → count_by (λ s. true) ys ≡ 0 → ys ≡ []
none_left [] h = refl
none_left (y ∷ ys) h = let more = sum_by-cons (λ (s : Pair). 1) y ys in absurd (omega (arith, h, more))

-- lists that have the same elements, however often, have the same sums
sum_by_counts : (f : Pair → ℤ) (xs ys : List Pair) → ((test : Pair → Bool) → count_by test xs ≡ count_by test ys) → sum f xs ≡ sum f ys
sum_by_counts f [] ys same = sym (ap (sum f) (none_left ys (sym (same (λ s. true)))))
sum_by_counts f (x ∷ xs) ys same =
    let own = sum_by-cons (λ s. flag (pair_eq s x)) x xs in
    let one : flag (pair_eq x x) ≡ 1 = ap flag (pair_eq_same x) in
    let there : is_there x ys = (let e = same (λ s. pair_eq s x) in omega (arith, own, one, e)) in
    ap (λ (z : ℤ). f x +ℤ z)
    (sum_by_counts f xs (without x ys)
    (λ test.
    let e = same test in
    let here = sum_by-cons (λ s. flag (test s)) x xs in
    let taken = count_without test x ys there in
    omega (arith, e, here, taken)))
    ∙ sym (sum_without f x ys there)

-- ---- contours

-- a step between equal points has no area
no_area : (s : Pair) → cond (is_edge s) (step_area s) (pos 0) ≡ step_area s
no_area s = by (point_eq s.a s.b) refl
  where
    by : (b : Bool) → point_eq s.a s.b ≡ b → cond (not b) (step_area s) (pos 0) ≡ step_area s
    by false t = refl
    by true t =
        let same = same_by_eq s.a s.b t in
        let back : s.a.x *ℤ s.a.y -ℤ s.a.y *ℤ s.a.x ≡ pos 0 = rw (as_D s.a.x, as_D s.a.y) (simp diffs (D-eq _ _ _ _ (omega arith))) in
        sym (subst (λ (q : Point). s.a.x *ℤ q.y -ℤ s.a.y *ℤ q.x ≡ pos 0) same back)

area_of_edges : (contours : List (List Point)) → doubled_area_of_all contours ≡ sum step_area (directed_edges contours)
unfolding doubled_area_of_all
area_of_edges contours =
    sym (gathered-filter whole_sums step_area is_edge (steps contours) ∙ gathered-same whole_sums _ step_area no_area (steps contours))

-- ---- the boundary of a rule

-- a step, run the other way, has the opposite area
area_turned : (s : Pair) → step_area (turned s) +ℤ step_area s ≡ pos 0
area_turned s = rw (as_D s.a.x, as_D s.a.y, as_D s.b.x, as_D s.b.y) (simp diffs (D-eq _ _ _ _ (omega arith)))

-- what a segment adds to the area of the boundary: its step as often as its sides differ
one_side : (bottom top : Bool) (s : Pair) → cond (differ bottom top) (step_area (run_of (record { pair = s; count = of_subject (truth top -ℤ truth bottom) }))) (pos 0) ≡ (truth top -ℤ truth bottom) *ℤ step_area s
one_side false false s = omega (arith, ints)
one_side true true s = omega (arith, ints)
one_side false true s = omega (arith, ints)
one_side true false s = let back = area_turned s in omega (arith, ints, back)

abbrev side_area : (Bool → Bool → Bool) → FillRule → List WholeSegment → WholeSegment → ℤ
side_area rule fill_rule segments s = (truth (value_at rule fill_rule (side_top segments s)) -ℤ truth (value_at rule fill_rule (side_bottom segments s))) *ℤ step_area s.pair

abbrev on_boundary : (Bool → Bool → Bool) → FillRule → List WholeSegment → WholeSegment → WholeSegment
on_boundary rule fill_rule segments s = record { pair = s.pair; count = of_subject (truth (value_at rule fill_rule (side_top segments s)) -ℤ truth (value_at rule fill_rule (side_bottom segments s))) }

abbrev is_on_boundary : (Bool → Bool → Bool) → FillRule → List WholeSegment → WholeSegment → Bool
is_on_boundary rule fill_rule segments s = differ (value_at rule fill_rule (side_bottom segments s)) (value_at rule fill_rule (side_top segments s))

area_of_boundary : (rule : Bool → Bool → Bool) (fill_rule : FillRule) (segments : List WholeSegment) → sum step_area (map run_of (boundary rule fill_rule segments)) ≡ sum (side_area rule fill_rule segments) segments
unfolding boundary directed_count tells_apart
area_of_boundary rule fill_rule segments =
    gathered-map ◌+ℤ◌ (pos 0) step_area run_of (map (on_boundary rule fill_rule segments) (filter (is_on_boundary rule fill_rule segments) segments))
    ∙ gathered-map ◌+ℤ◌ (pos 0) (λ s. step_area (run_of s)) (on_boundary rule fill_rule segments) (filter (is_on_boundary rule fill_rule segments) segments)
    ∙ gathered-filter whole_sums (λ s. step_area (run_of (on_boundary rule fill_rule segments s))) (is_on_boundary rule fill_rule segments) segments
    ∙ gathered-same whole_sums (λ s. cond (is_on_boundary rule fill_rule segments s) (step_area (run_of (on_boundary rule fill_rule segments s))) (pos 0)) (side_area rule fill_rule segments)
    (λ s. one_side (value_at rule fill_rule (side_bottom segments s)) (value_at rule fill_rule (side_top segments s)) s.pair) segments

area_of_overlay : (rule : OverlayRule) (fill_rule : FillRule) (segments : List WholeSegment) (contours : List (List Point)) → RunsAlongBoundary rule fill_rule segments contours → doubled_area_of_all contours ≡ sum (side_area (holds rule) fill_rule segments) segments
area_of_overlay rule fill_rule segments contours along =
    area_of_edges contours
    ∙ sum_by_counts step_area (directed_edges contours) (map run_of (boundary (holds rule) fill_rule segments)) along
    ∙ area_of_boundary (holds rule) fill_rule segments

-- ---- rules together

abbrev either_and_both : Bool → Bool → Type 0
either_and_both s c = truth (s || c) +ℤ truth (s && c) ≡ truth s +ℤ truth c

add_up : (s c : Bool) → either_and_both s c
add_up false false = refl
add_up false true = refl
add_up true false = refl
add_up true true = refl

one_of_both : (s c : Bool) → truth (differ s c) +ℤ truth (s && c) ≡ truth (s || c)
one_of_both false false = refl
one_of_both false true = refl
one_of_both true false = refl
one_of_both true true = refl

spread : (a b c d e f g h w : ℤ) → a +ℤ b ≡ c +ℤ d → e +ℤ f ≡ g +ℤ h → (a -ℤ e) *ℤ w +ℤ (b -ℤ f) *ℤ w ≡ (c -ℤ g) *ℤ w +ℤ (d -ℤ h) *ℤ w
spread a b c d e f g h w top bottom = taken a b e f w ∙ ap (λ (z : ℤ). z *ℤ w) (omega (arith, ints, top, bottom)) ∙ sym (taken c d g h w)
  where
    taken : (a b e f w : ℤ) → (a -ℤ e) *ℤ w +ℤ (b -ℤ f) *ℤ w ≡ ((a +ℤ b) -ℤ (e +ℤ f)) *ℤ w
    taken a b e f w = rw (as_D a, as_D b, as_D e, as_D f, as_D w) (simp diffs (D-eq _ _ _ _ (omega arith)))

spread_one : (a b c e f g w : ℤ) → a +ℤ b ≡ c → e +ℤ f ≡ g → (a -ℤ e) *ℤ w +ℤ (b -ℤ f) *ℤ w ≡ (c -ℤ g) *ℤ w
spread_one a b c e f g w top bottom = taken ∙ ap (λ (z : ℤ). z *ℤ w) (omega (arith, ints, top, bottom))
  where
    taken : (a -ℤ e) *ℤ w +ℤ (b -ℤ f) *ℤ w ≡ ((a +ℤ b) -ℤ (e +ℤ f)) *ℤ w
    taken = rw (as_D a, as_D b, as_D e, as_D f, as_D w) (simp diffs (D-eq _ _ _ _ (omega arith)))

module _ (fill_rule : FillRule) (segments : List WholeSegment) where
  abbrev area : OverlayRule → ℤ
  area rule = sum (side_area (holds rule) fill_rule segments) segments

  abbrev each : OverlayRule → WholeSegment → ℤ
  each rule s = side_area (holds rule) fill_rule segments s

  -- whether a side is in the subject and in the clip
  abbrev above : WholeSegment → Bool × Bool
  above s = (is_inside fill_rule (side_top segments s).subj, is_inside fill_rule (side_top segments s).clip)

  abbrev below : WholeSegment → Bool × Bool
  below s = (is_inside fill_rule (side_bottom segments s).subj, is_inside fill_rule (side_bottom segments s).clip)

  at_each : (s : WholeSegment) → each Union s +ℤ each Intersect s ≡ each Subject s +ℤ each Clip s
  unfolding value_at
  at_each s =
      let t = above s in
      let b = below s in
      spread (truth (t.0 || t.1)) (truth (t.0 && t.1)) (truth t.0) (truth t.1) (truth (b.0 || b.1)) (truth (b.0 && b.1)) (truth b.0) (truth b.1) (step_area s.pair) (add_up t.0 t.1) (add_up b.0 b.1)

  exclusive_at_each : (s : WholeSegment) → each Xor s +ℤ each Intersect s ≡ each Union s
  unfolding value_at
  exclusive_at_each s =
      let t = above s in
      let b = below s in
      spread_one (truth (differ t.0 t.1)) (truth (t.0 && t.1)) (truth (t.0 || t.1)) (truth (differ b.0 b.1)) (truth (b.0 && b.1)) (truth (b.0 || b.1)) (step_area s.pair) (one_of_both t.0 t.1) (one_of_both b.0 b.1)

  sums_add_up : area Union +ℤ area Intersect ≡ area Subject +ℤ area Clip
  sums_add_up =
      sym (gathered-op whole_sums (each Union) (each Intersect) segments)
      ∙ gathered-same whole_sums (λ s. each Union s +ℤ each Intersect s) (λ s. each Subject s +ℤ each Clip s) at_each segments
      ∙ gathered-op whole_sums (each Subject) (each Clip) segments

  exclusive_adds_up : area Xor +ℤ area Intersect ≡ area Union
  exclusive_adds_up =
      sym (gathered-op whole_sums (each Xor) (each Intersect) segments)
      ∙ gathered-same whole_sums (λ s. each Xor s +ℤ each Intersect s) (each Union) exclusive_at_each segments

-- the area of an overlay over the arrangement of another overlay of the same contours
area_here : (splitting : Splitting) (fill_rule : FillRule) (subject clip : List (List Point)) (segments : List WholeSegment) (rule other : OverlayRule) (contours first : List (List Point)) (a : IsPolygonOverlay splitting rule fill_rule subject clip contours)
    (b : IsPolygonOverlay splitting other fill_rule subject clip first) → b.arrangement ≡ segments → doubled_area_of_all contours ≡ sum (side_area (holds rule) fill_rule segments) segments
area_here splitting fill_rule subject clip segments rule other contours first a b same =
    let one = left_is_one splitting (overlay_segments subject clip) a.arrangement b.arrangement a.passes b.passes a.halves b.halves a.left b.left in
    area_of_overlay rule fill_rule segments contours (subst (λ (l : List WholeSegment). RunsAlongBoundary rule fill_rule l contours) (one.0 ∙ same) a.directed)

pub areas_add_up : AreasAddUp
areas_add_up splitting fill_rule subject clip united shared own other u i s c =
    let at = u.arrangement in
    ap₂ ◌+ℤ◌ (area_here splitting fill_rule subject clip at Union Union united united u u refl) (area_here splitting fill_rule subject clip at Intersect Union shared united i u refl)
    ∙ sums_add_up fill_rule at
    ∙ sym (ap₂ ◌+ℤ◌ (area_here splitting fill_rule subject clip at Subject Union own united s u refl) (area_here splitting fill_rule subject clip at Clip Union other united c u refl))

pub exclusive_areas_add_up : ExclusiveAreasAddUp
exclusive_areas_add_up splitting fill_rule subject clip united shared exclusive u i x =
    let at = u.arrangement in
    ap₂ ◌+ℤ◌ (area_here splitting fill_rule subject clip at Xor Union exclusive united x u refl) (area_here splitting fill_rule subject clip at Intersect Union shared united i u refl)
    ∙ exclusive_adds_up fill_rule at
    ∙ sym (area_here splitting fill_rule subject clip at Union Union united united u u refl)

-- ---- the sum that the code makes

-- of the steps from a point along others and back
abbrev pub area_on : Point → List Point → ℤ
area_on p points = sum step_area (steps_from p points)

-- a triangle at the first point, from one point to the next
one_triangle : (o p q : Point) → cross_product (step o p) (step o q) +ℤ step_area (record { a = o; b = q }) ≡ step_area (record { a = o; b = p }) +ℤ step_area (record { a = p; b = q })
one_triangle o p q = rw (as_D o.x, as_D o.y, as_D p.x, as_D p.y, as_D q.x, as_D q.y) (simp diffs (D-eq _ _ _ _ (omega arith)))

-- one point more: what is summed, what the triangles leave out, and what is to come stay the whole sum
pub area_step : {X : Type 0} (f : X → Point) (xs : List X) (i : ℕ) (x : X) (o p : Point) (summed more all : ℤ) → i < length xs → x ≡ get_or xs i x → more ≡ summed +ℤ cross_product (step o p) (step o (f x))
    → summed +ℤ step_area (record { a = o; b = p }) +ℤ area_on p (map f (drop i xs) ++ o ∷ []) ≡ all → more +ℤ step_area (record { a = o; b = f x }) +ℤ area_on (f x) (map f (drop (i + 1) xs) ++ o ∷ []) ≡ all
area_step f xs i x o p summed more all h is added e =
    let next : i + 1 ≡ suc i = omega arith in
    let rest = area_on (f x) (map f (drop (suc i) xs) ++ o ∷ []) in
    let turned_here = one_triangle o p (f x) in
    let unrolled : summed +ℤ step_area (record { a = o; b = p }) +ℤ (step_area (record { a = p; b = f x }) +ℤ rest) ≡ all = ap (λ (l : List _). summed +ℤ step_area (record { a = o; b = p }) +ℤ area_on p (map f l ++ o ∷ [])) (sym (drop_at xs i x h is)) ∙ e in
    ap (λ (n : ℕ). more +ℤ step_area (record { a = o; b = f x }) +ℤ area_on (f x) (map f (drop n xs) ++ o ∷ [])) next
    ∙ omega (arith, ints, added, turned_here, unrolled)

-- and the last one
pub area_end : {X : Type 0} (f : X → Point) (xs : List X) (i : ℕ) (o p : Point) (summed : ℤ) → length xs ≤ i → summed +ℤ step_area (record { a = o; b = p }) +ℤ area_on p (map f (drop i xs) ++ o ∷ []) ≡ area_on o (map f xs ++ o ∷ []) → summed ≡ doubled_area (o ∷ map f xs)
unfolding doubled_area
area_end f xs i o p summed done e =
    let back = area_turned (record { a = p; b = o }) in
    let unrolled : summed +ℤ step_area (record { a = o; b = p }) +ℤ (step_area (record { a = p; b = o }) +ℤ pos 0) ≡ area_on o (map f xs ++ o ∷ []) = ap (λ (l : List _). summed +ℤ step_area (record { a = o; b = p }) +ℤ area_on p (map f l ++ o ∷ [])) (sym (drop_all xs i done)) ∙ e in
    omega (arith, ints, back, unrolled)

-- no area from a point to itself
pub area_begin : (o : Point) (rest : ℤ) → pos 0 +ℤ step_area (record { a = o; b = o }) +ℤ rest ≡ rest
area_begin o rest =
    let none : step_area (record { a = o; b = o }) ≡ pos 0 = rw (as_D o.x, as_D o.y) (simp diffs (D-eq _ _ _ _ (omega arith))) in
    omega (arith, ints, none)

-- points of code in range, one by one
pub in_range_at : {I : Type 0} (whole : I → ℤ) (least greatest : I) (points : List (IntPoint I)) → LiesInRange whole least greatest points → All (λ p. IsPointInRange whole least greatest p) points
in_range_at whole least greatest points h =
    All-from_recursion (λ p. IsPointInRange whole least greatest p) points
    (AllByRecursion-from_list_all (λ p. is_point_in_range (whole least) (whole greatest) (point_of whole p)) points (sym (list_all-map (is_point_in_range (whole least) (whole greatest)) (point_of whole) points) ∙ h))

-- one more triangle adds at most its bound
pub area_bound : (summed triangle : ℤ) (i most : ℕ) → unsigned_abs summed ≤ i * most → unsigned_abs triangle ≤ most → unsigned_abs (summed +ℤ triangle) ≤ (i + 1) * most
area_bound summed triangle i most h k = omega (arith, ints, h, k)
