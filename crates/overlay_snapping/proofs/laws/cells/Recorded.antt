-- Parts of a list: what a new one adds, and that the others stay.
use Rattle.std.proofs.Common.{◌≡◌, refl, sym, ap, subst, ◌∙◌, ◌⊎◌, inl, inr, ◌↔◌, ℕ, zero, suc, ◌+◌, ◌-◌, ◌<◌, ◌≤◌, IsTrue, List, [], ◌∷◌, ◌++◌, map, take, drop, length, arith}
use Rattle.std.specs.Prelude.{ℤ, Option, None, Some, Result, Ok, Err, OnOk, MatchOption, IfSome, Contains, slice_get}
use Rattle.std.proofs.lemmas.Bool.{cases_order}
use Rattle.std.proofs.lemmas.Option.{slice_get_within}
use Rattle.overlay_geometry.specs.Points.{Point, Pair}
use Rattle.overlay_intersections.specs.declared.split.line_mark.LineMark.{LineMark}
use Rattle.overlay_snapping.specs.steps.Cutting.{points_along}
use Rattle.overlay_snapping.specs.steps.Met.{is_met, AddsAllMet}
use Rattle.overlay_snapping.specs.steps.Recorded.{part_of}
use Rattle.overlay_snapping.specs.declared.snap.meetings.Part.{Part}
use Rattle.overlay_snapping.proofs.laws.closure.Elements.{no_element}

taken_before : {X : Type 0} (xs ys : List X) (n : ℕ) → n ≤ length xs → take n (xs ++ ys) ≡ take n xs
taken_before xs ys zero h = refl
taken_before [] ys (suc n) h = absurd (omega (arith, h))
taken_before (x ∷ xs) ys (suc n) h = ap (λ l. x ∷ l) (taken_before xs ys n (omega (arith, h)))

range_before : {X : Type 0} (xs ys : List X) (start n : ℕ) → start + n ≤ length xs → take n (drop start (xs ++ ys)) ≡ take n (drop start xs)
range_before xs ys zero n h = taken_before xs ys n (omega (arith, h))
range_before [] ys (suc start) n h = absurd (omega (arith, h))
range_before (x ∷ xs) ys (suc start) n h = range_before xs ys start n (omega (arith, h))

take_own : {X : Type 0} (ys : List X) (n : ℕ) → n ≡ length ys → take n ys ≡ ys
take_own [] zero e = refl
take_own [] (suc n) e = refl
take_own (y ∷ ys) zero e = absurd (omega (arith, e))
take_own (y ∷ ys) (suc n) e = ap (λ l. y ∷ l) (take_own ys n (omega (arith, e)))

behind : {X : Type 0} (xs ys : List X) → drop (length xs) (xs ++ ys) ≡ ys
behind [] ys = refl
behind (x ∷ xs) ys = behind xs ys

element_kept : (parts : List Part) (p : Part) (i : ℕ) → i < length parts → slice_get (parts ++ p ∷ []) i ≡ slice_get parts i
element_kept [] p i h = absurd (omega (arith, h))
element_kept (q ∷ parts) p zero h = refl
element_kept (q ∷ parts) p (suc i) h = element_kept parts p i (omega (arith, h))

element_last : (parts : List Part) (p : Part) → slice_get (parts ++ p ∷ []) (length parts) ≡ Some p
element_last [] p = refl
element_last (q ∷ parts) p = element_last parts p

-- the parts that were there
pub part_stays : {X : Type 0} (xs ys : List X) (o : Option Part) → ((p : Part) → o ≡ Some p → (p.start ≤ p.end) × (p.end ≤ length xs)) → part_of (xs ++ ys) o ≡ part_of xs o
part_stays xs ys None h = refl
part_stays xs ys (Some p) h = let b = h p refl in let le = b.0 in let in_all = b.1 in ap (λ l. Some l) (range_before xs ys p.start (p.end - p.start) (omega (arith, le, in_all)))

pub parts_stay : {X : Type 0} (xs ys more : List X) (parts all : List Part) (p : Part) (i : ℕ) → more ≡ xs ++ ys → all ≡ parts ++ p ∷ [] → i < length parts → ((q : Part) → slice_get parts i ≡ Some q → (q.start ≤ q.end) × (q.end ≤ length xs)) →
    part_of more (slice_get all i) ≡ part_of xs (slice_get parts i)
parts_stay xs ys more parts all p i e f within h =
    ap (λ l. part_of l (slice_get all i)) e ∙ ap (part_of (xs ++ ys)) (ap (λ l. slice_get l i) f ∙ element_kept parts p i within) ∙ part_stays xs ys (slice_get parts i) h

pub part_added : {X : Type 0} (xs ys more : List X) (parts all : List Part) (start end : ℕ) → more ≡ xs ++ ys → all ≡ parts ++ record { start = start; end = end } ∷ [] → start ≡ length xs → end ≡ length more → part_of more (slice_get all (length parts)) ≡ Some ys
part_added {X = X} xs ys more parts all start end e f s t =
    let p : Part = record { start = start; end = end } in
    let long : length more ≡ length xs + length ys = ap length e ∙ length_both xs ys in
    let width : end - start ≡ length ys = omega (arith, s, t, long) in
    ap (part_of more) (ap (λ l. slice_get l (length parts)) f ∙ element_last parts p)
    ∙ ap Some (ap (λ l. take (end - start) (drop start l)) e ∙ ap (λ n. take (end - start) (drop n (xs ++ ys))) s ∙ ap (take (end - start)) (behind xs ys) ∙ take_own ys (end - start) width)
  where
    length_both : (us vs : List X) → length (us ++ vs) ≡ length us + length vs
    length_both [] vs = omega arith
    length_both (u ∷ us) vs = ap suc (length_both us vs) ∙ omega arith

-- ---- what is recorded, segment by segment

none_some : {X : Type 0} (list : X) → None ≡ Some list → ⊥
none_some list e = absurd (cc e)

part_within : {X : Type 0} (xs : List X) (parts : List Part) (i : ℕ) (list : List X) → part_of xs (slice_get parts i) ≡ Some list → i < length parts
part_within xs parts i list e = by (slice_get parts i) refl
  where
    by : (o : Option Part) → slice_get parts i ≡ o → i < length parts
    by None f = absurd (none_some list (subst (λ (o : Option Part). part_of xs o ≡ Some list) f e))
    by (Some p) f = slice_get_within parts i p f

-- the first parts have what their segments meet, as a fact about each
abbrev pub HasMet : {X : Type 0} → (X → Point) → List Pair → List Point → List X → List Part → Type 0
HasMet {X = X} f segments points xs parts =
    (i : ℕ) (s : Pair) → slice_get segments i ≡ Some s → (list : List X) → part_of xs (slice_get parts i) ≡ Some list → (c : Point) → Contains (map f list) c ↔ (Contains points c × IsTrue (is_met s c))

pub none_recorded : {X : Type 0} (f : X → Point) (segments : List Pair) (points : List Point) (xs : List X) (parts : List Part) → length parts ≡ 0 → HasMet f segments points xs parts
none_recorded f segments points xs parts e i s at list h = let within = part_within xs parts i list h in absurd (omega (arith, e, within))

pub recorded_more : {X : Type 0} (f : X → Point) (segments : List Pair) (points : List Point) (xs more : List X) (parts all : List Part) (met : List X) (s : Pair) → HasMet f segments points xs parts →
    ((i : ℕ) → i < length parts → part_of more (slice_get all i) ≡ part_of xs (slice_get parts i)) → part_of more (slice_get all (length parts)) ≡ Some met → length all ≡ length parts + 1 → slice_get segments (length parts) ≡ Some s →
    AddsAllMet s points [] (map f met) → HasMet f segments points more all
recorded_more {X = X} f segments points xs more parts all met s before kept added long at adds i t there list e c = by (cases_order i (length parts))
  where
    own : Contains (map f met) c ↔ (Contains points c × IsTrue (is_met s c))
    own = (λ j. adds.only c (subst (λ (l : List Point). Contains l c) adds.is j), λ r. subst (λ (l : List Point). Contains l c) (sym adds.is) (adds.all c r.0 r.0 r.1))

    by : (i ≡ length parts) ⊎ ((i < length parts) ⊎ (length parts < i)) → Contains (map f list) c ↔ (Contains points c × IsTrue (is_met t c))
    by (inl same) =
        let one : part_of more (slice_get all (length parts)) ≡ Some list = subst (λ (n : ℕ). part_of more (slice_get all n) ≡ Some list) same e in
        let is : met ≡ list = cc (added, one) in
        let pair : s ≡ t = cc (at, subst (λ (n : ℕ). slice_get segments n ≡ Some t) same there) in
        subst (λ (l : List X). Contains (map f l) c ↔ (Contains points c × IsTrue (is_met t c))) is (subst (λ (u : Pair). Contains (map f met) c ↔ (Contains points c × IsTrue (is_met u c))) pair own)
    by (inr (inl less)) = before i t there list (sym (kept i less) ∙ e) c
    by (inr (inr past)) = let within = part_within more all i list e in absurd (omega (arith, within, long, past))

-- what a segment meets, from what is recorded of it
pub from_recorded : {X : Type 0} (f : X → Point) (s : Pair) (points : List Point) (list : List X) → ((c : Point) → Contains (map f list) c ↔ (Contains points c × IsTrue (is_met s c))) → (old now : List X) → now ≡ old ++ list → AddsAllMet s points (map f old) (map f now)
from_recorded {X = X} f s points list are old now pushed = record {
  added = map f list;
  is = ap (map f) pushed ∙ mapped old list;
  only = λ c j. (are c).0 j;
  all = λ c j k m. (are c).1 (j, m);
}
  where
    mapped : (us vs : List X) → map f (us ++ vs) ≡ map f us ++ map f vs
    mapped [] vs = refl
    mapped (u ∷ us) vs = ap (λ l. f u ∷ l) (mapped us vs)

-- what each case of an option gives, where there is one
pub if_some_from : {X : Type 0} (A : Type 0) {B P : X → Type 0} (r : Option X) → MatchOption r A B → ((x : X) → B x → P x) → IfSome r P
if_some_from A None m f = tt
if_some_from A (Some x) m f = f x m

-- as code records it: the index is that of the part that comes next
pub recorded_at : {X : Type 0} (f : X → Point) (segments : List Pair) (points : List Point) (xs more : List X) (parts all : List Part) (met slice : List X) → slice ≡ met → (s : Pair) (i : ℕ) → HasMet f segments points xs parts →
    ((k : ℕ) → k < length parts → part_of more (slice_get all k) ≡ part_of xs (slice_get parts k)) → part_of more (slice_get all (length parts)) ≡ Some slice → length all ≡ length parts + 1 → (n : ℕ) → n ≡ length parts → n ≡ i → slice_get segments i ≡ Some s →
    AddsAllMet s points [] (map f met) → HasMet f segments points more all
recorded_at f segments points xs more parts all met slice same s i before kept added long n own index at adds =
    recorded_more f segments points xs more parts all met s before kept (added ∙ ap (λ l. Some l) same) long (subst (λ (k : ℕ). slice_get segments k ≡ Some s) (sym index ∙ own) at) adds

pub on_both_ok : {T E P Q R : Type 0} (r : Result T E) → (P → Q → R) → OnOk r P → OnOk r Q → OnOk r R
on_both_ok (Ok x) f p q = f p q
on_both_ok (Err e) f p q = tt

-- a segment without marks whose part is there and has no points
pub nothing_recorded : {I : Type 0} (whole : I → ℤ) (s : Pair) (points : List Point) (own : List (LineMark I)) → own ≡ [] → ((c : Point) → Contains [] c ↔ (Contains points c × IsTrue (is_met s c))) → AddsAllMet s points (points_along whole s own) []
nothing_recorded {I = I} whole s points own none met =
    subst (λ (l : List (LineMark I)). AddsAllMet s points (points_along whole s l) []) (sym none) (record {
      added = [];
      is = refl;
      only = λ c i. absurd (no_element c i);
      all = λ c i j m. absurd (no_element c ((met c).1 (i, m)));
    })
