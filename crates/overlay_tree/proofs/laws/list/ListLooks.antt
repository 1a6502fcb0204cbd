-- How many pairs the walk over a list compares: each pair whose ranges in x meet.
use Rattle.std.proofs.Common.{◌≡◌, refl, sym, ap, ap₂, subst, ◌∙◌, ℕ, ◌+◌, ◌-◌, ◌<◌, ◌≤◌, zero, suc, arith, Bool, true, false, cond, IsTrue, List, [], ◌∷◌, drop, length, is_gt}
use Rattle.std.specs.Prelude.{◌≤ℤ◌, ◌<ℤ◌, min, ◌^◌, count_by}
use Rattle.std.specs.Int.{int_min, int_max}
use Rattle.std.specs.List.{AllByRecursion}
use Rattle.std.proofs.lemmas.Int.{ints, clamps}
use Rattle.std.proofs.lemmas.List.Sums.{sum_by-cons}
use Rattle.overlay_geometry.specs.Points.{Pair, pair_cmp, is_ordered}
use Rattle.overlay_geometry.proofs.laws.lists.Keys.{IsInOrder}
use Rattle.overlay_geometry.proofs.laws.lists.Elements.{IsInOrder-drop, AllByRecursion-drop, AllByRecursion-drop_later}
use Rattle.overlay_tree.specs.steps.Swept.{pair_at}
use Rattle.overlay_intersections.specs.Looked.{count_twos, ranges_meet, x_ranges_meet}
use Rattle.overlay_intersections.specs.Marks.{Placing}
use Rattle.overlay_intersections.specs.MarkOf.{Mark}
use Rattle.overlay_intersections.proofs.laws.marks.FoundEach.{IsWalked}
use Rattle.overlay_geometry.proofs.laws.integers.Tests.{le-test, le-test_false}
use Rattle.overlay_geometry.proofs.laws.geometry.Points.{ordered_x, starts_in_order}

-- ---- ranges of two

-- a pair that starts between the start and the end of another
pub x_ranges_meet-from : (s t : Pair) → IsTrue (is_ordered s) → IsTrue (is_ordered t) → s.a.x ≤ℤ t.a.x → t.a.x ≤ℤ s.b.x → x_ranges_meet s t ≡ true
unfolding x_ranges_meet ranges_meet
x_ranges_meet-from s t hs ht h k =
    let os = ordered_x s hs in
    let ot = ordered_x t ht in
    le-test (int_max (int_min s.a.x s.b.x) (int_min t.a.x t.b.x)) (int_min (int_max s.a.x s.b.x) (int_max t.a.x t.b.x)) (omega (arith, ints, clamps))

-- and one that starts right of it
pub x_ranges_meet-past : (s t : Pair) → IsTrue (is_ordered s) → IsTrue (is_ordered t) → s.b.x <ℤ t.a.x → x_ranges_meet s t ≡ false
unfolding x_ranges_meet ranges_meet
x_ranges_meet-past s t hs ht h =
    let os = ordered_x s hs in
    let ot = ordered_x t ht in
    le-test_false (int_max (int_min s.a.x s.b.x) (int_min t.a.x t.b.x)) (int_min (int_max s.a.x s.b.x) (int_max t.a.x t.b.x)) (omega (arith, ints, clamps))

-- a later pair does not start further left
pub later_starts_right : (ps : List Pair) (i j : ℕ) (s t : Pair) → IsInOrder pair_cmp ps → i < j → drop i ps ≡ s ∷ drop (i + 1) ps → drop j ps ≡ t ∷ drop (j + 1) ps → s.a.x ≤ℤ t.a.x
later_starts_right ps i j s t o lt d e =
    let here = subst (λ (ks : List Pair). IsInOrder pair_cmp ks) d (IsInOrder-drop pair_cmp i ps o) in
    let later = AllByRecursion-drop_later (λ u. is_gt (pair_cmp s u) ≡ false) (i + 1) j ps (omega arith) here.0 in
    let first = subst (λ (ks : List Pair). AllByRecursion (λ u. is_gt (pair_cmp s u) ≡ false) ks) e later in
    starts_in_order s t first.0

pub pair_at-first : (ps : List Pair) (j : ℕ) (s : Pair) (ss : List Pair) → drop j ps ≡ s ∷ ss → pair_at ps j ≡ s
pair_at-first [] zero s ss d = cc
pair_at-first [] (suc j) s ss d = cc
pair_at-first (p ∷ ps) zero s ss d = cc
pair_at-first (p ∷ ps) (suc j) s ss d = pair_at-first ps j s ss d

-- ---- what is left

none_counted : (s : Pair) (us : List Pair) → AllByRecursion (λ u. x_ranges_meet s u ≡ false) us → count_by (x_ranges_meet s) us ≡ 0
none_counted s [] h = refl
none_counted s (u ∷ us) h = sum_by-cons (λ v. cond (x_ranges_meet s v) 1 0) u us ∙ ap₂ (λ (b : Bool) (n : ℕ). cond b 1 0 + n) h.0 (none_counted s us h.1)

all_past : (s t : Pair) (us : List Pair) → IsTrue (is_ordered s) → s.b.x <ℤ t.a.x → AllByRecursion (λ u. is_gt (pair_cmp t u) ≡ false) us → AllByRecursion (λ u. IsTrue (is_ordered u)) us → AllByRecursion (λ u. x_ranges_meet s u ≡ false) us
all_past s t [] hs less h k = tt
all_past s t (u ∷ us) hs less h k = (let up = starts_in_order t u h.0 in x_ranges_meet-past s u hs k.0 (omega (arith, ints)), all_past s t us hs less h.1 k.1)

-- from a pair that starts right of the end of s on, none is counted
pub none_past : (ps : List Pair) (j : ℕ) (s t : Pair) → IsInOrder pair_cmp ps → AllByRecursion (λ u. IsTrue (is_ordered u)) ps → IsTrue (is_ordered s) → drop j ps ≡ t ∷ drop (j + 1) ps → s.b.x <ℤ t.a.x →
    count_by (x_ranges_meet s) (drop j ps) ≡ 0
none_past ps j s t o all hs d less =
    let here = subst (λ (ks : List Pair). IsInOrder pair_cmp ks) d (IsInOrder-drop pair_cmp j ps o) in
    let ordered = subst (λ (ks : List Pair). AllByRecursion (λ u. IsTrue (is_ordered u)) ks) d (AllByRecursion-drop (λ u. IsTrue (is_ordered u)) j ps all) in
    none_counted s (drop j ps) (subst (λ (ks : List Pair). AllByRecursion (λ u. x_ranges_meet s u ≡ false) ks) (sym d) (x_ranges_meet-past s t hs ordered.0 less, all_past s t (drop (j + 1) ps) hs less here.0 ordered.1))

-- ---- the walk over those that follow one

-- those from the next one up to j, and what is left to count from j on, make up the whole
abbrev pub IsTold : Pair → List Pair → ℕ → ℕ → Type 0
IsTold s ps i j = i + 1 + count_by (x_ranges_meet s) (drop (i + 1) ps) ≡ j + count_by (x_ranges_meet s) (drop j ps)

pub IsTold-more : (s t : Pair) (ps : List Pair) (i j : ℕ) → IsTold s ps i j → drop j ps ≡ t ∷ drop (j + 1) ps → x_ranges_meet s t ≡ true → IsTold s ps i (j + 1)
IsTold-more s t ps i j told d meets =
    let count : count_by (x_ranges_meet s) (drop j ps) ≡ 1 + count_by (x_ranges_meet s) (drop (j + 1) ps) =
    ap (count_by (x_ranges_meet s)) d ∙ sum_by-cons (λ v. cond (x_ranges_meet s v) 1 0) t (drop (j + 1) ps) ∙ ap (λ (b : Bool). cond b 1 0 + count_by (x_ranges_meet s) (drop (j + 1) ps)) meets in
    one_more _ _ _ j told count
  where
    one_more : (w c d j : ℕ) → w ≡ j + c → c ≡ 1 + d → w ≡ j + 1 + d
    one_more w c d j e h = omega arith

-- ---- the walk over all

pub record AreTold (ps : List Pair) (old now j : ℕ) : Type 0 where
  pub fits : now ≤ 2 ^ 128 - 1
  pub whole : min (now + count_twos x_ranges_meet (drop j ps)) (2 ^ 128 - 1) ≡ min (old + count_twos x_ranges_meet ps) (2 ^ 128 - 1)

pub AreTold-more : (s : Pair) (ps : List Pair) (old now next j : ℕ) → AreTold ps old now j → drop j ps ≡ s ∷ drop (j + 1) ps → next ≡ min (now + count_by (x_ranges_meet s) (drop (j + 1) ps)) (2 ^ 128 - 1) → AreTold ps old next (j + 1)
unfolding count_twos
AreTold-more s ps old now next j told d e =
    let count : count_twos x_ranges_meet (drop j ps) ≡ count_by (x_ranges_meet s) (drop (j + 1) ps) + count_twos x_ranges_meet (drop (j + 1) ps) = ap (count_twos x_ranges_meet) d in
    record { fits = below now next _ (2 ^ 128 - 1) e; whole = more now next _ _ _ (2 ^ 128 - 1) e count ∙ told.whole }
  where
    below : (m n c w : ℕ) → n ≡ min (m + c) w → n ≤ w
    below m n c w e = omega arith

    more : (m n c d f w : ℕ) → n ≡ min (m + d) w → c ≡ d + f → min (n + f) w ≡ min (m + c) w
    more m n c d f w e h = omega arith

pub AreTold-end : (ps : List Pair) (old now j : ℕ) → AreTold ps old now j → length ps ≤ j → now ≡ min (old + count_twos x_ranges_meet ps) (2 ^ 128 - 1)
unfolding count_twos
AreTold-end ps old now j told all = nothing_more now _ (2 ^ 128 - 1) told.fits (no_twos ps j all) ∙ told.whole
  where
    nothing_more : (m c w : ℕ) → m ≤ w → c ≡ 0 → m ≡ min (m + c) w
    nothing_more m c w h e = omega arith

    no_twos : (ps : List Pair) (j : ℕ) → length ps ≤ j → count_twos x_ranges_meet (drop j ps) ≡ 0
    no_twos [] zero le = refl
    no_twos [] (suc j) le = refl
    no_twos (p ∷ ps) zero le = absurd (omega arith)
    no_twos (p ∷ ps) (suc j) le = no_twos ps j (omega arith)

-- where the walk over all is
pub record AreWalking (placing : Placing) (ps : List Pair) (marks : List Mark) (rounded : Bool) (before looked j : ℕ) : Type 0 where
  pub walk : IsWalked placing ps marks rounded j
  pub told : AreTold ps before looked j
