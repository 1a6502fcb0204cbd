-- The walk over the segments that follow one in a list, and what it finds.
use Rattle.std.proofs.Common.{◌≡◌, refl, sym, ap, ap₂, subst, ◌∙◌, ℕ, ◌+◌, ◌<◌, ◌≤◌, arith, add-one, Bool, true, false, ◌||◌, List, [], ◌∷◌, ◌++◌, drop, length, get_or, Ordering, Less, Equal, Greater, is_lt, is_gt}
use Rattle.std.specs.Ordering.{ordering_reverse}
use Rattle.std.specs.List.{list_any, AllByRecursion}
use Rattle.std.proofs.lemmas.Bool.{or_from}
use Rattle.std.proofs.Math.Seq.{drop-cons}
use Rattle.std.proofs.lemmas.List.{length-map}
use Rattle.overlay_geometry.specs.Points.{Point, Pair, pair_cmp, pair_lt}
use Rattle.overlay_base.specs.Segments.{pairs}
use Rattle.overlay_base.specs.SegmentOf.{segments_of, ends_of}
use Rattle.overlay_base.specs.declared.segm.segment.Segment.{Segment}
use Rattle.overlay_geometry.proofs.laws.geometry.Points.{pair_cmp_total}
use Rattle.overlay_geometry.proofs.laws.lists.Keys.{IsInOrder}
use Rattle.overlay_geometry.proofs.laws.lists.Elements.{IsInOrder-drop, AllByRecursion-drop_later}
use Rattle.overlay_base.proofs.laws.geometry.Apart.{pairs-map}
use Rattle.overlay_intersections.specs.Marks.{Placing, cross_inexactly}
use Rattle.overlay_intersections.specs.MarkOf.{Mark}
use Rattle.overlay_intersections.specs.MarksBetween.{marks_at, marks_between, marks_with}
use Rattle.overlay_intersections.proofs.laws.marks.ApartPairs.{AreApart, AreApart-back, apart_are_exact, apart_have_no_mark}

-- ---- a list from an index on

first_of_rest : (ps : List Pair) (j : ℕ) → j < length ps → (s : Pair) × (drop j ps ≡ s ∷ drop (j + 1) ps)
first_of_rest [] j lt = absurd (omega arith)
first_of_rest (p ∷ ps) j lt = (get_or (p ∷ ps) j p, drop-cons (p ∷ ps) j p lt ∙ ap (λ (n : ℕ). get_or (p ∷ ps) j p ∷ drop n (p ∷ ps)) (sym (add-one j)))

pub pairs-some : {C I D : Type 0} {m : _} {w : _} {o : _} {e : _} {p : _} (xs : List (Segment C I D m w o e p)) (j : ℕ) → j < length xs → (s : Pair) × (drop j (pairs (segments_of xs)) ≡ s ∷ drop (j + 1) (pairs (segments_of xs)))
pairs-some xs j lt = first_of_rest (pairs (segments_of xs)) j (subst (λ (n : ℕ). j < n) (sym (ap length (pairs-map xs) ∙ length-map xs (λ s. ends_of s))) lt)

-- ---- two that are apart

pub between_apart : (placing : Placing) (i : ℕ) (s : Pair) (j : ℕ) (t : Pair) → AreApart s t → marks_between placing i s j t ≡ []
unfolding marks_between
between_apart placing i s j t apart = ap₂ (λ (ps qs : List Point). marks_at i ps ++ marks_at j qs) (apart_have_no_mark placing s t apart) (apart_have_no_mark placing t s (AreApart-back s t apart))

pub with_apart : (placing : Placing) (i : ℕ) (s : Pair) (j : ℕ) (ts : List Pair) → AllByRecursion (AreApart s) ts → marks_with placing i s j ts ≡ []
unfolding marks_with
with_apart placing i s j [] h = refl
with_apart placing i s j (t ∷ ts) h = ap₂ (λ (ms ns : List Mark). ms ++ ns) (between_apart placing i s j t h.0) (with_apart placing i s (j + 1) ts h.1)

pub all_exact : (s : Pair) (ts : List Pair) → AllByRecursion (AreApart s) ts → list_any (λ t. cross_inexactly s t) ts ≡ false
all_exact s [] h = refl
all_exact s (t ∷ ts) h = or_from _ _ (apart_are_exact s t h.0) (all_exact s ts h.1)

-- ---- the walk

pub or_true : (a : Bool) → true ≡ (a || true)
or_true true = refl
or_true false = refl

pub or_false : (a : Bool) → a ≡ (a || false)
or_false true = refl
or_false false = refl

pub or_assoc : (a b c : Bool) → ((a || b) || c) ≡ (a || (b || c))
or_assoc true b c = refl
or_assoc false b c = refl

-- ---- what the order of the list gives

-- a later pair is not less
pub later_is_not_less : (ps : List Pair) (i j : ℕ) (s t : Pair) → IsInOrder pair_cmp ps → i < j → drop i ps ≡ s ∷ drop (i + 1) ps → drop j ps ≡ t ∷ drop (j + 1) ps → pair_lt t s ≡ false
later_is_not_less ps i j s t o lt d e =
    let here = subst (λ (ks : List Pair). IsInOrder pair_cmp ks) d (IsInOrder-drop pair_cmp i ps o) in
    let later = AllByRecursion-drop_later (λ u. is_gt (pair_cmp s u) ≡ false) (i + 1) j ps (omega arith) here.0 in
    let first = subst (λ (ks : List Pair). AllByRecursion (λ u. is_gt (pair_cmp s u) ≡ false) ks) e later in
    ap is_lt (pair_cmp_total.antisymm t s) ∙ by (pair_cmp s t) first.0
  where
    by : (r : Ordering) → is_gt r ≡ false → is_lt (ordering_reverse r) ≡ false
    by Less h = refl
    by Equal h = refl
    by Greater h = cc

pub all_passed : {C I D : Type 0} {m : _} {w : _} {o : _} {e : _} {p : _} (xs : List (Segment C I D m w o e p)) (j : ℕ) → length xs ≤ j → length (pairs (segments_of xs)) ≤ j
all_passed xs j h = rw (pairs-map xs, length-map xs (λ s. ends_of s)) h
