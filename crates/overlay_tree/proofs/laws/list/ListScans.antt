-- The scan of a list from one index up to another: what it finds, what need not be looked at, and how far it goes.
use Rattle.std.proofs.Common.{◌≡◌, refl, sym, ap, ap₂, subst, ◌∙◌, ℕ, ◌+◌, ◌<◌, ◌≤◌, zero, suc, arith, append_assoc, append-nil, add-one, Bool, true, false, cond, ◌||◌, IsTrue, List, [], ◌∷◌, ◌++◌, take, drop, length, get_or, map, count_by}
use Rattle.std.specs.Prelude.{ℤ, ◌≤ℤ◌, int_le, nat_lt, ◌&&◌}
use Rattle.std.specs.Int.{int_min, int_max}
use Rattle.std.specs.List.{list_any, AllByRecursion}
use Rattle.std.proofs.lemmas.Int.{ints, clamps, by_lt_z}
use Rattle.std.proofs.Math.Seq.{drop-cons}
use Rattle.std.proofs.lemmas.List.{length-map, take-map, drop-map}
use Rattle.std.proofs.lemmas.List.Sums.{sum_by-cons}
use Rattle.overlay_geometry.specs.Points.{Pair, pair_cmp, is_ordered}
use Rattle.overlay_geometry.specs.Ranges.{WholeRange, heights, is_off_range}
use Rattle.overlay_geometry.specs.RangeOf.{range_of}
use Rattle.overlay_geometry.specs.declared.geom.line_range.LineRange.{LineRange}
use Rattle.overlay_geometry.proofs.laws.integers.Tests.{lt-test, le-tested_false, nat_lt-test}
use Rattle.overlay_geometry.proofs.laws.geometry.Points.{ordered_x}
use Rattle.overlay_geometry.proofs.laws.lists.Keys.{IsInOrder}
use Rattle.overlay_geometry.proofs.laws.lists.Elements.{AllByRecursion-drop}
use Rattle.overlay_base.proofs.laws.geometry.Apart.{apart_in_x, apart_in_y}
use Rattle.overlay_intersections.specs.Looked.{ranges_meet, x_ranges_meet}
use Rattle.overlay_intersections.specs.Marks.{Placing, cross_inexactly}
use Rattle.overlay_intersections.specs.MarkOf.{Mark}
use Rattle.overlay_intersections.specs.MarksBetween.{marks_between, marks_with, marks_of_first, first_crosses_inexactly}
use Rattle.overlay_intersections.proofs.laws.marks.ApartPairs.{AreApart, AreApart-back, apart_are_exact}
use Rattle.overlay_intersections.proofs.laws.marks.FoundMarks.{between_apart, with_apart, all_exact, or_false, or_assoc}
use Rattle.overlay_tree.specs.steps.ListScan.{AreHeightsOf, do_ranges_meet, marks_left, crosses_left, IsReaching}
use Rattle.overlay_tree.specs.steps.Swept.{pair_at, nowhere}
use Rattle.overlay_tree.proofs.laws.list.ListLooks.{IsTold, IsTold-more, later_starts_right, x_ranges_meet-from}

-- ---- the pair at an index

pub pair_next : (ps : List Pair) (j : ℕ) → j < length ps → drop j ps ≡ pair_at ps j ∷ drop (j + 1) ps
pair_next ps j lt = drop-cons ps j nowhere lt ∙ ap (λ (n : ℕ). pair_at ps j ∷ drop n ps) (sym (add-one j))

pub ordered_at : (ps : List Pair) (j : ℕ) → AllByRecursion (λ u. IsTrue (is_ordered u)) ps → j < length ps → IsTrue (is_ordered (pair_at ps j))
ordered_at ps j all lt =
    let rest = subst (λ (ks : List Pair). AllByRecursion (λ u. IsTrue (is_ordered u)) ks) (pair_next ps j lt) (AllByRecursion-drop (λ u. IsTrue (is_ordered u)) j ps all) in
    rest.0

-- ---- what is found

-- where a scan from one index up to another is: what it has found and what is left make up the whole
pub record IsScanned (placing : Placing) (i : ℕ) (ps : List Pair) (old now : List Mark) (rounded : Bool) (from j : ℕ) : Type 0 where
  pub found : now ++ marks_left placing ps i j ≡ old ++ marks_left placing ps i from
  pub flag : (rounded || crosses_left ps i j) ≡ crosses_left ps i from

-- what is left from an index on is that of the pair there, and what is left from the next on
pub marks_left-next : (placing : Placing) (ps : List Pair) (i j : ℕ) → j < length ps → marks_left placing ps i j ≡ marks_between placing i (pair_at ps i) j (pair_at ps j) ++ marks_left placing ps i (j + 1)
unfolding marks_with
marks_left-next placing ps i j lt = ap (marks_with placing i (pair_at ps i) j) (pair_next ps j lt)

pub crosses_left-next : (ps : List Pair) (i j : ℕ) → j < length ps → crosses_left ps i j ≡ (cross_inexactly (pair_at ps i) (pair_at ps j) || crosses_left ps i (j + 1))
crosses_left-next ps i j lt = ap (list_any (λ u. cross_inexactly (pair_at ps i) u)) (pair_next ps j lt)

-- one more is looked at
pub IsScanned-more : (placing : Placing) (i : ℕ) (ps : List Pair) (old now next : List Mark) (rounded b : Bool) (from j : ℕ) → IsScanned placing i ps old now rounded from j → j < length ps →
    next ≡ now ++ marks_between placing i (pair_at ps i) j (pair_at ps j) → b ≡ cross_inexactly (pair_at ps i) (pair_at ps j) → IsScanned placing i ps old next (rounded || b) from (j + 1)
IsScanned-more placing i ps old now next rounded b from j w lt n r =
    let s = pair_at ps i in
    let t = pair_at ps j in
    let left = marks_left-next placing ps i j lt in
    let crosses = crosses_left-next ps i j lt in
    record {
      found = ap (λ (ms : List Mark). ms ++ marks_left placing ps i (j + 1)) n ∙ append_assoc now (marks_between placing i s j t) (marks_left placing ps i (j + 1)) ∙ ap (λ (ms : List Mark). now ++ ms) (sym left) ∙ w.found;
      flag = ap (λ (c : Bool). (rounded || c) || crosses_left ps i (j + 1)) r ∙ or_assoc rounded (cross_inexactly s t) (crosses_left ps i (j + 1)) ∙ ap (λ (c : Bool). rounded || c) (sym crosses) ∙ w.flag;
    }

-- one more need not be looked at
pub IsScanned-apart : (placing : Placing) (i : ℕ) (ps : List Pair) (old now : List Mark) (rounded : Bool) (from j : ℕ) → IsScanned placing i ps old now rounded from j → j < length ps →
    AreApart (pair_at ps i) (pair_at ps j) → IsScanned placing i ps old now rounded from (j + 1)
IsScanned-apart placing i ps old now rounded from j w lt apart =
    subst (λ (c : Bool). IsScanned placing i ps old now c from (j + 1)) (sym (or_false rounded))
    (IsScanned-more placing i ps old now now rounded false from j w lt
    (sym (append-nil now) ∙ ap (λ (ms : List Mark). now ++ ms) (sym (between_apart placing i (pair_at ps i) j (pair_at ps j) apart)))
    (sym (apart_are_exact (pair_at ps i) (pair_at ps j) apart)))

-- a block is looked at
pub IsScanned-block : (placing : Placing) (i : ℕ) (ps : List Pair) (old now next : List Mark) (rounded b : Bool) (from j k : ℕ) → IsScanned placing i ps old now rounded from j →
    next ++ marks_left placing ps i k ≡ now ++ marks_left placing ps i j → (b || crosses_left ps i k) ≡ crosses_left ps i j → IsScanned placing i ps old next (rounded || b) from k
IsScanned-block placing i ps old now next rounded b from j k w n r =
    record { found = n ∙ w.found; flag = or_assoc rounded b (crosses_left ps i k) ∙ ap (λ (c : Bool). rounded || c) r ∙ w.flag }

-- a block need not be looked at
pub IsScanned-none : (placing : Placing) (i : ℕ) (ps : List Pair) (old now : List Mark) (rounded : Bool) (from j k : ℕ) → IsScanned placing i ps old now rounded from j → j + k ≤ length ps →
    AllByRecursion (AreApart (pair_at ps i)) (take k (drop j ps)) → IsScanned placing i ps old now rounded from (j + k)
IsScanned-none placing i ps old now rounded from j zero w lt apart = let e : j ≡ j + 0 = omega arith in subst (λ (n : ℕ). IsScanned placing i ps old now rounded from n) e w
IsScanned-none placing i ps old now rounded from j (suc k) w lt apart =
    let below : j < length ps = omega arith in
    let here = subst (λ (ts : List Pair). AllByRecursion (AreApart (pair_at ps i)) (take (suc k) ts)) (pair_next ps j below) apart in
    let more = IsScanned-none placing i ps old now rounded from (j + 1) k (IsScanned-apart placing i ps old now rounded from j w below here.0) (omega arith) here.1 in
    let e : j + 1 + k ≡ j + suc k = omega arith in
    subst (λ (n : ℕ). IsScanned placing i ps old now rounded from n) e more

-- the rest is apart, so that all is found
pub IsScanned-end : (placing : Placing) (i : ℕ) (ps : List Pair) (old now : List Mark) (rounded : Bool) (j : ℕ) → i < length ps → now ++ marks_left placing ps i j ≡ old ++ marks_left placing ps i (i + 1) → (rounded || crosses_left ps i j) ≡ crosses_left ps i (i + 1) →
    AllByRecursion (AreApart (pair_at ps i)) (drop j ps) → (now ≡ old ++ marks_of_first placing i (drop i ps)) × (rounded ≡ first_crosses_inexactly (drop i ps))
unfolding marks_of_first first_crosses_inexactly
IsScanned-end placing i ps old now rounded j lt found flag apart =
    let all = rw (with_apart placing i (pair_at ps i) j (drop j ps) apart) at found in
    let any = rw (all_exact (pair_at ps i) (drop j ps) apart) at flag in
    rw (pair_next ps i lt) (sym (append-nil now) ∙ all, or_false rounded ∙ any)

-- ---- heights

off_above : (s t : Pair) → int_le (int_min s.a.y s.b.y) (int_max t.a.y t.b.y) ≡ false → is_off_range (heights s) t ≡ true
off_above s t h =
    let below = le-tested_false (int_min s.a.y s.b.y) (int_max t.a.y t.b.y) h in
    rw (lt-test t.a.y (int_min s.a.y s.b.y) (omega (arith, ints, clamps)), lt-test t.b.y (int_min s.a.y s.b.y) (omega (arith, ints, clamps))) refl

off_below : (s t : Pair) → int_le (int_min t.a.y t.b.y) (int_max s.a.y s.b.y) ≡ false → is_off_range (heights s) t ≡ true
off_below s t h =
    let above = le-tested_false (int_min t.a.y t.b.y) (int_max s.a.y s.b.y) h in
    rw (lt-test (int_max s.a.y s.b.y) t.a.y (omega (arith, ints, clamps)), lt-test (int_max s.a.y s.b.y) t.b.y (omega (arith, ints, clamps))) (or_with _)
  where
    or_with : (a : Bool) → (a || true) ≡ true
    or_with true = refl
    or_with false = refl

cases_and : {P : Type 0} (a b : Bool) → (a && b) ≡ false → (a ≡ false → P) → (b ≡ false → P) → P
cases_and true b h f g = g h
cases_and false b h f g = f refl

pub apart_heights : (s t : Pair) → do_ranges_meet (heights s) (heights t) ≡ false → AreApart s t
apart_heights s t h = cases_and _ _ h (λ e. apart_in_y s t (off_above s t e)) (λ e. apart_in_y s t (off_below s t e))

-- there are as many heights as pairs
pub heights_are_many : {I : Type 0} (whole : I → ℤ) (hs : List (LineRange I)) (ps : List Pair) → AreHeightsOf whole hs ps → length hs ≡ length ps
heights_are_many whole hs ps h = sym (length-map hs (range_of whole)) ∙ ap length h ∙ length-map ps heights

pub heights_at : {I : Type 0} (whole : I → ℤ) (hs : List (LineRange I)) (ps : List Pair) (j : ℕ) (h : LineRange I) → AreHeightsOf whole hs ps → j < length ps → h ≡ get_or hs j h → range_of whole h ≡ heights (pair_at ps j)
heights_at whole [] [] j h same lt is = absurd (omega arith)
heights_at whole [] (p ∷ ps) j h same lt is = cc
heights_at whole (r ∷ hs) [] j h same lt is = absurd (omega arith)
heights_at whole (r ∷ hs) (p ∷ ps) zero h same lt is = let e : range_of whole r ≡ heights p = cc in ap (range_of whole) is ∙ e
heights_at whole (r ∷ hs) (p ∷ ps) (suc j) h same lt is = let e : map (range_of whole) hs ≡ map heights ps = cc in heights_at whole hs ps j h e (omega arith) is

-- so the test of two heights is that of two segments
pub met_at : {I : Type 0} (whole : I → ℤ) (hs : List (LineRange I)) (ps : List Pair) (i j : ℕ) (r q : LineRange I) (met : Bool) → AreHeightsOf whole hs ps → i < length ps → j < length ps
    → r ≡ get_or hs i r → q ≡ get_or hs j q → met ≡ do_ranges_meet (range_of whole r) (range_of whole q) → met ≡ do_ranges_meet (heights (pair_at ps i)) (heights (pair_at ps j))
met_at whole hs ps i j r q met same lt_i lt_j is_i is_j e =
    e ∙ ap₂ (λ (u v : WholeRange). do_ranges_meet u v) (heights_at whole hs ps i r same lt_i is_i) (heights_at whole hs ps j q same lt_j is_j)

counted_one : (b : Bool) (n : ℕ) → cond b 1 0 + n ≡ 0 → (b ≡ false) × (n ≡ 0)
counted_one true n h = absurd (omega arith)
counted_one false n h = (refl, omega arith)

none_meet : {I : Type 0} (whole : I → ℤ) (hs : List (LineRange I)) (ps : List Pair) (s : Pair) → AreHeightsOf whole hs ps → count_by (λ r. do_ranges_meet (heights s) (range_of whole r)) hs ≡ 0 → AllByRecursion (AreApart s) ps
none_meet whole [] [] s same none = tt
none_meet whole [] (p ∷ ps) s same none = cc
none_meet whole (h ∷ hs) [] s same none = tt
none_meet whole (h ∷ hs) (p ∷ ps) s same none =
    let first : range_of whole h ≡ heights p = cc in
    let rest : map (range_of whole) hs ≡ map heights ps = cc in
    let parts = counted_one _ _ (sym (sum_by-cons (λ r. cond (do_ranges_meet (heights s) (range_of whole r)) 1 0) h hs) ∙ none) in
    (apart_heights s p (ap (do_ranges_meet (heights s)) (sym first) ∙ parts.0), none_meet whole hs ps s rest parts.1)

pub block_is_apart : {I : Type 0} (whole : I → ℤ) (hs : List (LineRange I)) (ps : List Pair) (s : Pair) (own : LineRange I) (j k : ℕ) → AreHeightsOf whole hs ps → range_of whole own ≡ heights s →
    count_by (λ r. do_ranges_meet (range_of whole own) (range_of whole r)) (take k (drop j hs)) ≡ 0 → AllByRecursion (AreApart s) (take k (drop j ps))
block_is_apart whole hs ps s own j k same own_is none =
    let block : map (range_of whole) (take k (drop j hs)) ≡ map heights (take k (drop j ps)) =
    sym (take-map (range_of whole) k (drop j hs)) ∙ ap (take k) (sym (drop-map (range_of whole) j hs) ∙ ap (drop j) same ∙ drop-map heights j ps) ∙ take-map heights k (drop j ps) in
    none_meet whole (take k (drop j hs)) (take k (drop j ps)) s block (ap (λ (r : WholeRange). count_by (λ h. do_ranges_meet r (range_of whole h)) (take k (drop j hs))) (sym own_is) ∙ none)

-- ---- how far the scan goes

-- the pair at the index is in the list
pub reaching_first : (ps : List Pair) (i j n : ℕ) → IsReaching ps i j → length ps ≡ n → i < n
reaching_first ps i j n w e = let after = w.after in let within = w.within in omega (arith, after, within)

pub starts_by : (ps : List Pair) (i e : ℕ) → IsInOrder pair_cmp ps → i ≤ e → e < length ps → (pair_at ps i).a.x ≤ℤ (pair_at ps e).a.x
starts_by ps i e order le lt = by_lt i e le (λ (k : i ≡ e). subst (λ (n : ℕ). (pair_at ps i).a.x ≤ℤ (pair_at ps n).a.x) k (omega (arith, ints)))
    (λ (k : i < e). later_starts_right ps i e (pair_at ps i) (pair_at ps e) order k (pair_next ps i (omega arith)) (pair_next ps e lt))
  where
    by_lt : {P : Type 0} (i e : ℕ) → i ≤ e → (i ≡ e → P) → (i < e → P) → P
    by_lt zero zero le f g = f refl
    by_lt zero (suc e) le f g = g (omega arith)
    by_lt (suc i) zero le f g = absurd (omega arith)
    by_lt (suc i) (suc e) le f g = by_lt i e (omega arith) (λ (k : i ≡ e). f (ap suc k)) (λ (k : i < e). g (omega arith))

pub IsTold-next : (ps : List Pair) (i j e : ℕ) → IsInOrder pair_cmp ps → AllByRecursion (λ u. IsTrue (is_ordered u)) ps → i < j → j ≤ e → e < length ps → (pair_at ps e).a.x ≤ℤ (pair_at ps i).b.x → IsTold (pair_at ps i) ps i j → IsTold (pair_at ps i) ps i (j + 1)
IsTold-next ps i j e order all after le lt reached told =
    let here : j < length ps = omega arith in
    let first : i < length ps = omega arith in
    let right = starts_by ps i j order (omega arith) here in
    let left = starts_by ps j e order le lt in
    let meets = x_ranges_meet-from (pair_at ps i) (pair_at ps j) (ordered_at ps i all first) (ordered_at ps j all here) right (omega (arith, ints)) in
    IsTold-more (pair_at ps i) (pair_at ps j) ps i j told (pair_next ps j here) meets

pub IsTold-block : (ps : List Pair) (i j k e : ℕ) → IsInOrder pair_cmp ps → AllByRecursion (λ u. IsTrue (is_ordered u)) ps → i < j → j + k ≤ e + 1 → e < length ps → (pair_at ps e).a.x ≤ℤ (pair_at ps i).b.x → IsTold (pair_at ps i) ps i j → IsTold (pair_at ps i) ps i (j + k)
IsTold-block ps i j zero e order all after le lt reached told = let same : j ≡ j + 0 = omega arith in subst (λ (n : ℕ). IsTold (pair_at ps i) ps i n) same told
IsTold-block ps i j (suc k) e order all after le lt reached told =
    let more = IsTold-block ps i (j + 1) k e order all (omega arith) (omega arith) lt reached (IsTold-next ps i j e order all after (omega arith) lt reached told) in
    let same : j + 1 + k ≡ j + suc k = omega arith in
    subst (λ (n : ℕ). IsTold (pair_at ps i) ps i n) same more

pub all_met : (i w j c : ℕ) → i + 1 + w ≡ j + c → c ≡ 0 → i + 1 + w ≡ j
all_met i w j c told none = omega arith

pub uncounted : (n : ℕ) → nat_lt 0 n ≡ false → n ≡ 0
uncounted zero h = refl
uncounted (suc n) h = let e : nat_lt 0 (suc n) ≡ true = nat_lt-test 0 (suc n) (omega arith) in cc

-- what is not counted is apart
apart_by_x : (s u : Pair) → IsTrue (is_ordered s) → IsTrue (is_ordered u) → x_ranges_meet s u ≡ false → AreApart s u
unfolding x_ranges_meet ranges_meet
apart_by_x s u hs hu h =
    let os = ordered_x s hs in
    let ou = ordered_x u hu in
    let off = le-tested_false (int_max (int_min s.a.x s.b.x) (int_min u.a.x u.b.x)) (int_min (int_max s.a.x s.b.x) (int_max u.a.x u.b.x)) h in
    by_lt_z s.b.x u.a.x (λ less. apart_in_x s u hs hu less) (λ (le : u.a.x ≤ℤ s.b.x). AreApart-back u s (apart_in_x u s hu hs (omega (arith, ints, clamps))))

uncounted_apart : (s : Pair) (us : List Pair) → IsTrue (is_ordered s) → AllByRecursion (λ u. IsTrue (is_ordered u)) us → count_by (x_ranges_meet s) us ≡ 0 → AllByRecursion (AreApart s) us
uncounted_apart s [] hs all none = tt
uncounted_apart s (u ∷ us) hs all none =
    let parts = counted_one _ _ (sym (sum_by-cons (λ v. cond (x_ranges_meet s v) 1 0) u us) ∙ none) in
    (apart_by_x s u hs all.0 parts.0, uncounted_apart s us hs all.1 parts.1)

pub rest_apart : (ps : List Pair) (i j : ℕ) → AllByRecursion (λ u. IsTrue (is_ordered u)) ps → i < length ps → count_by (x_ranges_meet (pair_at ps i)) (drop j ps) ≡ 0 → AllByRecursion (AreApart (pair_at ps i)) (drop j ps)
rest_apart ps i j all lt none = uncounted_apart (pair_at ps i) (drop j ps) (ordered_at ps i all lt) (AllByRecursion-drop (λ u. IsTrue (is_ordered u)) j ps all) none
