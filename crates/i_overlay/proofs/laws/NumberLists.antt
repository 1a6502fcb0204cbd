-- Lists of numbers in a table that has had room for all: each stays as others are put together behind them.
use Rattle.std.proofs.Common.{◌≡◌, ◌∙◌, ℕ, ◌+◌, ◌-◌, ◌^◌, ◌<◌, ◌≤◌, ◌==◌, List, [], ◌++◌, length, take, drop, Bool, true, false, if◌then◌else◌, refl, sym, ap, ap₂, subst, arith}
use Rattle.std.specs.Prelude.{min, Vec, Option, Some, None}
use Rattle.std.specs.Global.{Global}
use Rattle.std.specs.List.{copy_within}
use Rattle.std.specs.Vec.{with_items}
use Rattle.std.proofs.lemmas.List.{with_items_is, drop-take, take-take, take-append-le, length-take-le, length-drop, nil_from_length, drop-drop, append-nil}
use Rattle.std.proofs.Math.Seq.{paste, drop-append_seam, take-add}
use Rattle.std.proofs.lemmas.Bool.{eqb-true}
use Rattle.std.proofs.lemmas.List.Edits.{take-paste, length-paste}
use Rattle.i_overlay.specs.NumberLists.{IsWhole, numbers_in, named_in, end_of, has_room, written, appended, gathered}
use Rattle.i_overlay.specs.declared.number_lists.NumberList.{NumberList}
use Rattle.i_overlay.specs.declared.number_lists.NumberLists.{NumberLists}

-- these lines name these numbers, if it has
abbrev pub Names : NumberLists → NumberList → List ℕ → Type 0
Names s d l = IsWhole s → (d.start + d.count ≤ s.used) × (named_in (numbers_in s) d ≡ l)

-- a later table
pub record Grows (s t : NumberLists) : Type 0 where
  pub whole : IsWhole t → IsWhole s
  pub used : IsWhole t → s.used ≤ t.used
  pub kept : IsWhole t → (d : NumberList) → d.start + d.count ≤ s.used → named_in (numbers_in t) d ≡ named_in (numbers_in s) d

pub grows_same : (s : NumberLists) → Grows s s
grows_same s = record { whole = λ w. w; used = λ w. omega arith; kept = λ w d h. refl }

pub grows_on : (s t u : NumberLists) → Grows s t → Grows t u → Grows s u
grows_on s t u a b = record {
  whole = λ w. a.whole (b.whole w);
  used = λ w. (let h = a.used (b.whole w) in let k = b.used w in omega arith);
  kept = λ w d h. b.kept w d (let k = a.used (b.whole w) in omega arith) ∙ a.kept (b.whole w) d h;
}

pub names_later : (s t : NumberLists) (d : NumberList) (l : List ℕ) → Grows s t → Names s d l → Names t d l
names_later s t d l a n = λ w.
    let here = n (a.whole w) in
    ((let h = here.0 in let k = a.used w in omega arith), a.kept w d here.0 ∙ here.1)

-- ---- a list is written behind others

-- the part from an index on, by what is before its end
part_of : (xs : List ℕ) (start count : ℕ) → take count (drop start xs) ≡ drop start (take (start + count) xs)
part_of xs start count = sym (drop-take start count xs)

room_parts : (d : NumberList) (to room : ℕ) → has_room d to room ≡ true → (end_of d ≤ room) × (to ≤ room) × (d.count ≤ room - to)
room_parts d to room h = (grind arith, grind arith, grind arith)

module _ (items : List ℕ) (start n to : ℕ) (there : to + n ≤ length items) (from : n ≤ length (drop start items)) where
  pasted : List ℕ
  pasted = paste items to (drop start items) n

  head : take (to + n) pasted ≡ take to items ++ take n (drop start items)
  unfolding pasted
  head = take-paste items to (drop start items) n (omega arith) from

  to_length : length (take to items) ≡ to
  to_length = length-take-le to items (omega arith)

  new_part : take n (drop to pasted) ≡ take n (drop start items)
  new_part =
      part_of pasted to n ∙ ap (λ (l : List ℕ). drop to l) head
      ∙ subst (λ (k : ℕ). drop k (take to items ++ take n (drop start items)) ≡ take n (drop start items)) to_length (drop-append_seam (take to items) (take n (drop start items)))

  below : (m : ℕ) → m ≤ to → take m pasted ≡ take m items
  below m h =
      sym (take-take m (to + n) pasted (omega arith)) ∙ ap (λ (l : List ℕ). take m l) head
      ∙ take-append-le m (take to items) (take n (drop start items)) (subst (λ (k : ℕ). m ≤ k) (sym to_length) h) ∙ take-take m to items h

  old_part : (s c : ℕ) → s + c ≤ to → take c (drop s pasted) ≡ take c (drop s items)
  old_part s c h = part_of pasted s c ∙ ap (λ (l : List ℕ). drop s l) (below (s + c) h) ∙ sym (part_of items s c)

  pasted_length : length pasted ≡ length items
  unfolding pasted
  pasted_length = length-paste items to (drop start items) n there from

-- ---- a table after a list is copied

copied : NumberList → ℕ → List ℕ → List ℕ
copied d to items = copy_within items d.start (end_of d) to

copied_length : (d : NumberList) (to : ℕ) (items : List ℕ) → has_room d to (length items) ≡ true → length (copied d to items) ≡ length items
unfolding copied pasted
copied_length d to items h =
    let parts = room_parts d to (length items) h in
    let ends = parts.0 in let at = parts.1 in let rest = parts.2 in
    let from : end_of d - d.start ≤ length (drop d.start items) = subst (λ (k : ℕ). end_of d - d.start ≤ k) (sym (length-drop d.start items)) (omega arith) in
    pasted_length items d.start (end_of d - d.start) to (omega arith) from

copied_below : (d : NumberList) (to : ℕ) (items : List ℕ) → has_room d to (length items) ≡ true → (e : NumberList) → e.start + e.count ≤ to → named_in (copied d to items) e ≡ named_in items e
unfolding copied pasted
copied_below d to items h e k =
    let parts = room_parts d to (length items) h in
    let ends = parts.0 in let at = parts.1 in let rest = parts.2 in
    let from : end_of d - d.start ≤ length (drop d.start items) = subst (λ (k : ℕ). end_of d - d.start ≤ k) (sym (length-drop d.start items)) (omega arith) in
    old_part items d.start (end_of d - d.start) to (omega arith) from e.start e.count k

copied_new : (d : NumberList) (to : ℕ) (items : List ℕ) → d.start + d.count ≤ to → to + d.count ≤ length items → to < 2 ^ 64 - 1
    → take d.count (drop to (copied d to items)) ≡ named_in items d
unfolding copied pasted
copied_new d to items h k l =
    let ends : end_of d - d.start ≡ d.count = omega arith in
    let from : d.count ≤ length (drop d.start items) = subst (λ (k : ℕ). d.count ≤ k) (sym (length-drop d.start items)) (omega arith) in
    ap (λ (n : ℕ). take d.count (drop to (paste items to (drop d.start items) n))) ends ∙ new_part items d.start d.count to k from

room_there : (d : NumberList) (to room : ℕ) → d.start + d.count ≤ to → to + d.count ≤ room → has_room d to room ≡ true
room_there d to room h k = grind arith

written_items : (d : NumberList) (to : ℕ) (v : Vec ℕ Global) → (written d to v).items ≡ (if has_room d to (length v.items) then copied d to v.items else v.items)
unfolding copied
written_items d to v = by (has_room d to (length v.items)) refl
  where
    by : (b : Bool) → has_room d to (length v.items) ≡ b → (if b then with_items v (copied d to v.items) else v).items ≡ (if b then copied d to v.items else v.items)
    by true e = with_items_is v (copied d to v.items) (copied_length d to v.items e ∙ sym v.ok.0)
    by false e = refl

-- the numbers after a list is appended
copied_if : NumberList → ℕ → List ℕ → List ℕ
copied_if d to items = if has_room d to (length items) then copied d to items else items

empty_if : (d : NumberList) (to : ℕ) → copied_if d to [] ≡ []
unfolding copied_if
empty_if d to = by (has_room d to 0) refl
  where
    by : (b : Bool) → has_room d to 0 ≡ b → (if b then copied d to [] else []) ≡ []
    by true e = nil_from_length (copied d to []) (copied_length d to [] e)
    by false e = refl

numbers_appended : (d : NumberList) (s : NumberLists) → numbers_in (appended d s) ≡ copied_if d s.used (numbers_in s)
unfolding copied_if
numbers_appended d s = by s.numbers refl
  where
    by : (o : Option (Vec ℕ Global)) → s.numbers ≡ o → numbers_in (appended d s) ≡ copied_if d s.used (numbers_in s)
    by None e = rw e (sym (empty_if d s.used))
    by (Some v) e = rw e (written_items d s.used v)

-- ---- a list is appended, and two are put together

used_whole : (d : NumberList) (s : NumberLists) → length (copied_if d s.used (numbers_in s)) ≡ length (numbers_in s)
unfolding copied_if
used_whole d s = by (has_room d s.used (length (numbers_in s))) refl
  where
    by : (b : Bool) → has_room d s.used (length (numbers_in s)) ≡ b → length (if b then copied d s.used (numbers_in s) else numbers_in s) ≡ length (numbers_in s)
    by true e = copied_length d s.used (numbers_in s) e
    by false e = refl

same_room : (d : NumberList) (s : NumberLists) → length (numbers_in (appended d s)) ≡ length (numbers_in s)
same_room d s = ap (λ (l : List ℕ). length l) (numbers_appended d s) ∙ used_whole d s

kept_if : (d : NumberList) (s : NumberLists) (e : NumberList) → e.start + e.count ≤ s.used → named_in (copied_if d s.used (numbers_in s)) e ≡ named_in (numbers_in s) e
unfolding copied_if
kept_if d s e h = by (has_room d s.used (length (numbers_in s))) refl
  where
    by : (b : Bool) → has_room d s.used (length (numbers_in s)) ≡ b → named_in (if b then copied d s.used (numbers_in s) else numbers_in s) e ≡ named_in (numbers_in s) e
    by true k = copied_below d s.used (numbers_in s) k e h
    by false k = refl

pub appended_grows : (d : NumberList) (s : NumberLists) → Grows s (appended d s)
appended_grows d s =
    let room = same_room d s in
    record {
      whole = λ w. (let f = w.fits in let b = w.below in record { fits = omega arith; below = omega arith });
      used = λ w. (let b = w.below in omega arith);
      kept = λ w e h. ap (λ (l : List ℕ). named_in l e) (numbers_appended d s) ∙ kept_if d s e h;
    }

pub appended_names : (d : NumberList) (s : NumberLists) → IsWhole (appended d s) → d.start + d.count ≤ s.used
    → named_in (numbers_in (appended d s)) (record { start = s.used; count = d.count }) ≡ named_in (numbers_in s) d
unfolding copied_if
appended_names d s w h =
    let room = same_room d s in let f = w.fits in let b = w.below in
    let there : s.used + d.count ≤ length (numbers_in s) = omega arith in
    ap (λ (l : List ℕ). named_in l (record { start = s.used; count = d.count })) (numbers_appended d s)
    ∙ rw (room_there d s.used (length (numbers_in s)) h there) (copied_new d s.used (numbers_in s) h there (omega arith))

-- what two lists name when put together, and the table then
pub gathered_grows : (d e : NumberList) (s : NumberLists) → Grows s (gathered d e s).1
gathered_grows d e s = by (d.count == 0) (e.count == 0) refl refl
  where
    by : (a b : Bool) → (d.count == 0) ≡ a → (e.count == 0) ≡ b → Grows s (gathered d e s).1
    by true b ea eb = rw ea (grows_same s)
    by false true ea eb = rw (ea, eb) (grows_same s)
    by false false ea eb = rw (ea, eb) (grows_on s (appended d s) (appended e (appended d s)) (appended_grows d s) (appended_grows e (appended d s)))

-- the numbers of two lists that are one behind another
both : (xs : List ℕ) (start c k : ℕ) → take (c + k) (drop start xs) ≡ take c (drop start xs) ++ take k (drop (start + c) xs)
both xs start c k = take-add c k (drop start xs) ∙ ap (λ (l : List ℕ). take c (drop start xs) ++ take k l) (drop-drop c start xs)

names_none : (xs : List ℕ) (d : NumberList) (l : List ℕ) → (d.count == 0) ≡ true → named_in xs d ≡ l → l ≡ []
names_none xs d l none is = sym is ∙ ap (λ (c : ℕ). take c (drop d.start xs)) (eqb-true d.count 0 none)

pub gathered_names : (d e : NumberList) (s : NumberLists) (l m : List ℕ) → Names s d l → Names s e m → Names (gathered d e s).1 (gathered d e s).0 (l ++ m)
gathered_names d e s l m nd ne = by (d.count == 0) (e.count == 0) refl refl
  where
    by : (a b : Bool) → (d.count == 0) ≡ a → (e.count == 0) ≡ b → Names (gathered d e s).1 (gathered d e s).0 (l ++ m)
    by true b ea eb = rw ea (λ w. (let n = nd w in let k = ne w in (k.0, k.1 ∙ sym (ap (λ (x : List ℕ). x ++ m) (names_none (numbers_in s) d l ea n.1)))))
    by false true ea eb =
        rw (ea, eb) (λ w. (let n = nd w in let k = ne w in (n.0, n.1 ∙ sym (ap (λ (x : List ℕ). l ++ x) (names_none (numbers_in s) e m eb k.1) ∙ append-nil l))))
    by false false ea eb =
        rw (ea, eb)
        (λ w. (let first = appended d s in
        let second = appended e first in
        let g1 = appended_grows d s in
        let g2 = appended_grows e first in
        let w1 : IsWhole first = g2.whole w in
        let w0 = g1.whole w1 in
        let n = nd w0 in let k = ne w0 in
        let b = w.below in let b1 = w1.below in let b0 = w0.below in let n0 = n.0 in let k0 = k.0 in
        let used1 : first.used ≡ s.used + d.count = omega arith in
        let used2 : second.used ≡ s.used + d.count + e.count = omega arith in
        let count : min (d.count + e.count) (2 ^ 64 - 1) ≡ d.count + e.count = omega arith in
        let left : named_in (numbers_in second) (record { start = s.used; count = d.count }) ≡ l =
        g2.kept w (record { start = s.used; count = d.count }) (omega arith) ∙ appended_names d s w1 n0 ∙ n.1 in
        let right : take e.count (drop (s.used + d.count) (numbers_in second)) ≡ m =
        subst (λ (u : ℕ). take e.count (drop u (numbers_in second)) ≡ m) used1 (appended_names e first w (omega arith) ∙ g1.kept w1 e k0 ∙ k.1) in (
          omega arith,
          ap (λ (c : ℕ). take c (drop s.used (numbers_in second))) count ∙ both (numbers_in second) s.used d.count e.count
              ∙ ap₂ (λ (x y : List ℕ). x ++ y) left right,
        )))
