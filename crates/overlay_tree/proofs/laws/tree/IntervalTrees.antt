-- Trees of entries that expire: their parts, what a look-up and an insertion leave, and what is not taken up.
use Rattle.std.proofs.Common.{◌≡◌, refl, sym, ap, ap₂, subst, ◌∙◌, ◌⊎◌, inl, inr, ℕ, ◌+◌, ◌/◌, ◌<◌, ◌==◌, arith, Bool, true, false, not, ◌&&◌, ◌||◌, cond, List, [], ◌∷◌, ◌++◌, map, filter, length, get_or}
use Rattle.std.specs.Int.{int_max}
use Rattle.std.specs.Prelude.{IsTrue, IsFalse, ℤ, ◌≤ℤ◌, ◌<ℤ◌, int_lt, nat_lt, Option, None, Some, count_by}
use Rattle.std.specs.List.{AllByRecursion, list_any}
use Rattle.std.proofs.lemmas.Int.{ints, clamps}
use Rattle.std.proofs.lemmas.Bool.{or_cases, and_parts, not-true, not-false, both_ways, false_from_ne_true, eqb-true}
use Rattle.std.proofs.lemmas.List.{map-append}
use Rattle.std.proofs.lemmas.List.Elements.{filter-append}
use Rattle.std.proofs.lemmas.List.Sums.{sum_by-append, sum_by-cons}
use Rattle.overlay_geometry.proofs.laws.lists.Lists.{list_any-from_none, none_from_list_any, AllByRecursion-weaker, AllByRecursion-both, AllByRecursion_cross, Pairwise_left, Pairwise_right}
use Rattle.overlay_tree.specs.steps.IntervalTree.{Entry, WholeQuery, TreeNode, entries, is_at_heights, is_taken_up, is_found, is_dropped, found, left_by, inserted, StandsBefore, AreRising, live_height, greatest_height, is_reached, IsAt, IsUpTo, further, IsSummed, none, rooted}
use Rattle.std.proofs.Math.Bool.{or-true, and-false}

-- ---- the parts of a tree

same_parts : {X : Type 0} (xs ys : List X) (x y : X) (us vs : List X) → xs ++ x ∷ us ≡ ys ++ y ∷ vs → length xs ≡ length ys → (xs ≡ ys) × (x ≡ y) × (us ≡ vs)
same_parts [] [] x y us vs e l = (refl, cc, cc)
same_parts [] (z ∷ ys) x y us vs e l = absurd (omega arith)
same_parts (w ∷ xs) [] x y us vs e l = absurd (omega arith)
same_parts (w ∷ xs) (z ∷ ys) x y us vs e l =
    let first : w ≡ z = cc in
    let rest : xs ++ x ∷ us ≡ ys ++ y ∷ vs = cc in
    let r = same_parts xs ys x y us vs rest (omega arith) in
    (ap₂ (λ (a : _) (l : List _). a ∷ l) first r.0, r.1, r.2)

-- what a list that is cut at its middle says of a tree in it
pub record IsRooted (left : List TreeNode) (root : TreeNode) (right : List TreeNode) : Type 0 where
  pub left_summed : IsSummed left
  pub right_summed : IsSummed right
  pub greatest_is : root.greatest ≡ greatest_height (entries (left ++ root ∷ right))

none_is_some : {X : Type 0} (xs : List X) (x : X) (ys : List X) → [] ≡ xs ++ x ∷ ys → ⊥
none_is_some [] x ys e = cc
none_is_some (w ∷ xs) x ys e = cc

rooted_parts : (nodes left right : List TreeNode) (root : TreeNode) → IsSummed nodes → nodes ≡ left ++ root ∷ right → length left ≡ length nodes / 2 → IsRooted left root right
rooted_parts nodes left right root none e l = absurd (none_is_some left root right e)
rooted_parts nodes left right root (rooted ns l s r is mid hl hs h) e le =
    let p = same_parts l left r root s right (sym is ∙ e) (mid ∙ sym le) in
    record {
      left_summed = subst IsSummed p.0 hl;
      right_summed = subst IsSummed p.2 hs;
      greatest_is = ap (λ (t : TreeNode). t.greatest) (sym p.1) ∙ h ∙ ap (λ (ns : List TreeNode). greatest_height (entries ns)) e;
    }

pub IsRooted-from : (left right : List TreeNode) (root : TreeNode) → IsSummed (left ++ root ∷ right) → length left ≡ length (left ++ root ∷ right) / 2 → IsRooted left root right
IsRooted-from left right root h l = rooted_parts (left ++ root ∷ right) left right root h refl l

pub IsSummed-from : (left right : List TreeNode) (root : TreeNode) → length left ≡ length (left ++ root ∷ right) / 2 → IsSummed left → IsSummed right →
    root.greatest ≡ greatest_height (entries left ++ root.entry ∷ entries right) → IsSummed (left ++ root ∷ right)
IsSummed-from left right root l hl hr h =
    rooted (left ++ root ∷ right) left right root refl l hl hr
    (h ∙ ap greatest_height (sym (map-append (λ (n : TreeNode). n.entry) left (root ∷ right))))

pub entries-parts : (left right : List TreeNode) (root : TreeNode) → entries (left ++ root ∷ right) ≡ entries left ++ root.entry ∷ entries right
entries-parts left right root = map-append (λ (n : TreeNode). n.entry) left (root ∷ right)

-- the parts of rising entries
pub record AreParted (left : List Entry) (root : Entry) (right : List Entry) : Type 0 where
  pub left_rising : AreRising left
  pub right_rising : AreRising right
  pub before : AllByRecursion (λ e. StandsBefore e root) left
  pub after : AllByRecursion (StandsBefore root) right

pub AreParted-from : (left right : List Entry) (root : Entry) → AreRising (left ++ root ∷ right) → AreParted left root right
AreParted-from left right root h =
    let r = Pairwise_right StandsBefore left (root ∷ right) h in
    record {
      left_rising = Pairwise_left StandsBefore left (root ∷ right) h;
      right_rising = r.1;
      before = AllByRecursion-weaker (λ e. AllByRecursion (StandsBefore e) (root ∷ right)) (λ e. StandsBefore e root) (λ e k. k.0) left (AllByRecursion_cross StandsBefore left (root ∷ right) h);
      after = r.0;
    }

-- ---- greatest heights

int_max-assoc : (a b c : ℤ) → int_max (int_max a b) c ≡ int_max a (int_max b c)
int_max-assoc a b c = omega (arith, ints, clamps)

further-assoc : (a b c : Option ℤ) → further (further a b) c ≡ further a (further b c)
further-assoc None b c = refl
further-assoc (Some a) None c = refl
further-assoc (Some a) (Some b) None = refl
further-assoc (Some a) (Some b) (Some c) = ap Some (int_max-assoc a b c)

pub greatest_height-append : (xs ys : List Entry) → greatest_height (xs ++ ys) ≡ further (greatest_height xs) (greatest_height ys)
greatest_height-append [] ys = refl
greatest_height-append (e ∷ xs) ys = ap (further (live_height e)) (greatest_height-append xs ys) ∙ sym (further-assoc (live_height e) (greatest_height xs) (greatest_height ys))

-- none is live, or a height that a live entry does not pass
abbrev pub Reaches : Option ℤ → Entry → Type 0
Reaches None e = IsFalse e.is_live
Reaches (Some greatest) e = IsTrue e.is_live → e.high ≤ℤ greatest

reached_first : (a b : Option ℤ) (e : Entry) → Reaches a e → Reaches (further a b) e
reached_first None None e h = h
reached_first None (Some b) e h = λ l. absurd (both_ways e.is_live h l)
reached_first (Some a) None e h = h
reached_first (Some a) (Some b) e h = λ l. let k = h l in omega (arith, ints, clamps)

reached_second : (a b : Option ℤ) (e : Entry) → Reaches b e → Reaches (further a b) e
reached_second None None e h = h
reached_second None (Some b) e h = h
reached_second (Some a) None e h = λ l. absurd (both_ways e.is_live h l)
reached_second (Some a) (Some b) e h = λ l. let k = h l in omega (arith, ints, clamps)

itself_reached : (e : Entry) (live : Bool) → e.is_live ≡ live → Reaches (cond live (Some e.high) None) e
itself_reached e true h = λ l. omega (arith, ints)
itself_reached e false h = h

all_reached : (es : List Entry) → AllByRecursion (Reaches (greatest_height es)) es
all_reached [] = tt
all_reached (e ∷ es) = (
  reached_first (live_height e) (greatest_height es) e (itself_reached e e.is_live refl),
  AllByRecursion-weaker (Reaches (greatest_height es)) (Reaches (greatest_height (e ∷ es))) (λ f k. reached_second (live_height e) (greatest_height es) f k) es (all_reached es),
)

middle_of : (left right : List TreeNode) (root : TreeNode) (nodes : List TreeNode) (d : TreeNode) → nodes ≡ left ++ root ∷ right → get_or nodes (length left) d ≡ root
middle_of left right root nodes d e = ap (λ (ns : List TreeNode). get_or ns (length left) d) e ∙ at left
  where
    at : (ls : List TreeNode) → get_or (ls ++ root ∷ right) (length ls) d ≡ root
    at [] = refl
    at (x ∷ ls) = at ls

-- the root is the node in the middle
pub middle_is_greatest : (nodes : List TreeNode) (d : TreeNode) → IsSummed nodes → 0 < length nodes → (get_or nodes (length nodes / 2) d).greatest ≡ greatest_height (entries nodes)
middle_is_greatest nodes d none lt = absurd (omega arith)
middle_is_greatest nodes d (rooted ns left right root is mid hl hr h) lt =
    ap (λ (t : TreeNode). t.greatest) (ap (λ (n : ℕ). get_or nodes n d) (sym mid) ∙ middle_of left right root nodes d is) ∙ h

-- ---- entries that are not taken up

abbrev pub IsNotTaken : WholeQuery → Entry → Type 0
IsNotTaken q e = is_taken_up q e ≡ false

not_reached : (q : WholeQuery) (greatest : Option ℤ) (e : Entry) → is_reached greatest q.low ≡ false → Reaches greatest e → IsNotTaken q e
not_reached q None e n h = rw h refl
not_reached q (Some g) e n h = false_from_ne_true _ (λ t. let p = and_parts e.is_live (is_at_heights q e) t in let k = h p.0 in let m = not-true _ (and_parts (not (int_lt e.high q.low)) (not (int_lt q.high e.low)) p.1).0 in off g q.low e.high k (not-false _ n) m)
  where
    off : (g low high : ℤ) → high ≤ℤ g → int_lt g low ≡ true → int_lt high low ≡ false → ⊥
    off g low high h k l = grind (arith, ints)

pub none_reached : (q : WholeQuery) (es : List Entry) → is_reached (greatest_height es) q.low ≡ false → AllByRecursion (IsNotTaken q) es
none_reached q es n = AllByRecursion-weaker (Reaches (greatest_height es)) (IsNotTaken q) (λ e k. not_reached q (greatest_height es) e n k) es (all_reached es)

above : (q : WholeQuery) (e : Entry) → int_lt q.high e.low ≡ true → IsNotTaken q e
above q e h = by e.is_live (int_lt e.high q.low) (int_lt q.high e.low) h
  where
    by : (a b c : Bool) → c ≡ true → (a && (not b && not c)) ≡ false
    by true true c h = refl
    by true false c h = ap not h
    by false b c h = refl

later_is_above : (q : WholeQuery) (r e : Entry) → int_lt q.high r.low ≡ true → StandsBefore r e → int_lt q.high e.low ≡ true
later_is_above q r e h (inl less) = further_up q.high r.low e.low h less
  where
    further_up : (a b c : ℤ) → int_lt a b ≡ true → b <ℤ c → int_lt a c ≡ true
    further_up a b c h k = grind (arith, ints)
later_is_above q r e h (inr same) = ap (int_lt q.high) (sym same.0) ∙ h

pub none_above : (q : WholeQuery) (root : Entry) (right : List Entry) → int_lt q.high root.low ≡ true → AllByRecursion (StandsBefore root) right → AllByRecursion (IsNotTaken q) (root ∷ right)
none_above q root right h k = (above q root h, AllByRecursion-weaker (StandsBefore root) (IsNotTaken q) (λ e s. above q e (later_is_above q root e h s)) right k)

pub left_alone : (q : WholeQuery) (e : Entry) → IsNotTaken q e → left_by q e ≡ e
left_alone q e h = ap (λ (b : Bool). record e { is_live = b }) (by e.is_live (is_taken_up q e) (int_lt e.end_x q.x) h)
  where
    by : (a t c : Bool) → t ≡ false → (a && not (t && c)) ≡ a
    by true t c h = rw h refl
    by false t c h = refl

pub none_dropped : (q : WholeQuery) (es : List Entry) → AllByRecursion (IsNotTaken q) es → map (left_by q) es ≡ es
none_dropped q [] h = refl
none_dropped q (e ∷ es) h = ap₂ (λ (x : Entry) (xs : List Entry). x ∷ xs) (left_alone q e h.0) (none_dropped q es h.1)

pub none_is_dropped : (q : WholeQuery) (es : List Entry) → AllByRecursion (IsNotTaken q) es → list_any (is_dropped q) es ≡ false
none_is_dropped q es h = list_any-from_none (is_dropped q) es (AllByRecursion-weaker (IsNotTaken q) (λ e. is_dropped q e ≡ false) (λ e n. ap (λ (b : Bool). b && int_lt e.end_x q.x) n) es h)

-- where none is dropped, all stay as they are
pub kept : (q : WholeQuery) (e : Entry) → is_dropped q e ≡ false → left_by q e ≡ e
kept q e h = ap (λ (b : Bool). record e { is_live = b }) (by e.is_live (is_dropped q e) h)
  where
    by : (a d : Bool) → d ≡ false → (a && not d) ≡ a
    by true d h = ap not h
    by false d h = refl

pub all_kept : (q : WholeQuery) (es : List Entry) → list_any (is_dropped q) es ≡ false → map (left_by q) es ≡ es
all_kept q es h = each es (none_from_list_any (is_dropped q) es h)
  where
    each : (es : List Entry) → AllByRecursion (λ e. is_dropped q e ≡ false) es → map (left_by q) es ≡ es
    each [] k = refl
    each (e ∷ es) k = ap₂ (λ (x : Entry) (xs : List Entry). x ∷ xs) (kept q e k.0) (each es k.1)

none_pass : {X : Type 0} (p : X → Bool) (xs : List X) → AllByRecursion (λ x. p x ≡ false) xs → filter p xs ≡ []
none_pass p [] h = refl
none_pass p (x ∷ xs) h = ap (λ (b : Bool). cond b (x ∷ filter p xs) (filter p xs)) h.0 ∙ none_pass p xs h.1

pub none_found : (q : WholeQuery) (es : List Entry) → AllByRecursion (IsNotTaken q) es → found q es ≡ []
none_found q es h = ap (map (λ (e : Entry). e.index)) (none_pass (is_found q) es (AllByRecursion-weaker (IsNotTaken q) (λ e. is_found q e ≡ false) (λ e n. ap (λ (b : Bool). b && not (int_lt e.end_x q.x)) n) es h))

pub none_counted : (q : WholeQuery) (es : List Entry) → AllByRecursion (IsNotTaken q) es → count_by (is_taken_up q) es ≡ 0
none_counted q [] h = refl
none_counted q (e ∷ es) h = sum_by-cons (λ f. cond (is_taken_up q f) 1 0) e es ∙ ap₂ (λ (b : Bool) (n : ℕ). cond b 1 0 + n) h.0 (none_counted q es h.1)

-- ---- one entry

pub found_one : (q : WholeQuery) (e : Entry) → is_found q e ≡ true → found q (e ∷ []) ≡ e.index ∷ []
found_one q e h = ap (λ (b : Bool). map (λ (f : Entry). f.index) (cond b (e ∷ []) [])) h

-- an entry that is dropped stays as it was, but is not live
pub left_dropped : (q : WholeQuery) (e : Entry) → is_dropped q e ≡ true → record e { is_live = false } ≡ left_by q e
left_dropped q e h = ap (λ (b : Bool). record e { is_live = b }) (by e.is_live (is_dropped q e) h)
  where
    by : (a d : Bool) → d ≡ true → false ≡ (a && not d)
    by true d h = sym (ap not h)
    by false d h = refl

-- one that is taken up and does not end is not dropped
pub stays_whole : (q : WholeQuery) (e : Entry) → int_lt e.end_x q.x ≡ false → is_dropped q e ≡ false
stays_whole q e h = ap (λ (b : Bool). is_taken_up q e && b) h ∙ and-false (is_taken_up q e)

pub not_found : (q : WholeQuery) (e : Entry) → is_found q e ≡ false → found q (e ∷ []) ≡ []
not_found q e h = ap (λ (b : Bool). map (λ (f : Entry). f.index) (cond b (e ∷ []) [])) h

-- ---- lists in parts

pub found-append : (q : WholeQuery) (xs ys : List Entry) → found q (xs ++ ys) ≡ found q xs ++ found q ys
found-append q xs ys = ap (map (λ (e : Entry). e.index)) (filter-append (is_found q) xs ys) ∙ map-append (λ (e : Entry). e.index) (filter (is_found q) xs) (filter (is_found q) ys)

pub count_by-append : {X : Type 0} (p : X → Bool) (xs ys : List X) → count_by p (xs ++ ys) ≡ count_by p xs + count_by p ys
count_by-append p xs ys = sum_by-append (λ x. cond (p x) 1 0) xs ys

-- ---- an insertion

-- entries at another place have another index
pub not_here : (index : ℕ) (e : Entry) → (e.index ≡ index → ⊥) → inserted index e ≡ e
not_here index e h = ap (λ (b : Bool). record e { is_live = b }) (by e.is_live (e.index == index) (false_from_ne_true _ (λ t. h (eqb-true e.index index t))))
  where
    by : (a b : Bool) → b ≡ false → (a || b) ≡ a
    by true b h = refl
    by false b h = h

pub none_inserted : (index : ℕ) (es : List Entry) → AllByRecursion (λ e. e.index ≡ index → ⊥) es → map (inserted index) es ≡ es
none_inserted index [] h = refl
none_inserted index (e ∷ es) h = ap₂ (λ (x : Entry) (xs : List Entry). x ∷ xs) (not_here index e h.0) (none_inserted index es h.1)

-- whether an index with this low comes before an entry, as code tests it
abbrev pub is_before : ℤ → ℕ → Entry → Bool
is_before low index e = int_lt low e.low || not (int_lt e.low low) && nat_lt index e.index

off_after : (low : ℤ) (index : ℕ) (r e : Entry) → is_before low index r ≡ true → IsAt index low e → (StandsBefore r e ⊎ (r ≡ e)) → e.index ≡ index → ⊥
off_after low index r e h at (inl (inl less)) is = let l = at is in clash low r.low e.low index r.index h less l
  where
    clash : (a b c : ℤ) (i j : ℕ) → (int_lt a b || not (int_lt b a) && nat_lt i j) ≡ true → b <ℤ c → c ≡ a → ⊥
    clash a b c i j h k l = grind (arith, ints)
off_after low index r e h at (inl (inr same)) is = let l = at is in clash low r.low e.low index r.index e.index h same.0 same.1 l is
  where
    clash : (a b c : ℤ) (i j k : ℕ) → (int_lt a b || not (int_lt b a) && nat_lt i j) ≡ true → b ≡ c → j < k → c ≡ a → k ≡ i → ⊥
    clash a b c i j k h m n l o = grind (arith, ints)
off_after low index r e h at (inr same) is = let l = at is in clash low r.low e.low index r.index e.index h (ap (λ (x : Entry). x.low) same) (ap (λ (x : Entry). x.index) same) l is
  where
    clash : (a b c : ℤ) (i j k : ℕ) → (int_lt a b || not (int_lt b a) && nat_lt i j) ≡ true → b ≡ c → j ≡ k → c ≡ a → k ≡ i → ⊥
    clash a b c i j k h m n l o = grind (arith, ints)

-- from the root on, where the index comes before it
pub none_after : (low : ℤ) (index : ℕ) (root : Entry) (right : List Entry) → is_before low index root ≡ true → AllByRecursion (StandsBefore root) right → AllByRecursion (IsAt index low) (root ∷ right) →
    AllByRecursion (λ e. e.index ≡ index → ⊥) (root ∷ right)
none_after low index root right h k at = (
  off_after low index root root h at.0 (inr refl),
  AllByRecursion-weaker (λ e. StandsBefore root e × IsAt index low e) (λ e. e.index ≡ index → ⊥) (λ e b. off_after low index root e h b.1 (inl b.0)) right (AllByRecursion-both (StandsBefore root) (IsAt index low) right k at.1),
)

off_before : (low : ℤ) (index : ℕ) (r e : Entry) → is_before low index r ≡ false → IsAt index low e → StandsBefore e r → e.index ≡ index → ⊥
off_before low index r e h at (inl less) is = let l = at is in clash low r.low e.low index r.index h less l
  where
    clash : (a b c : ℤ) (i j : ℕ) → (int_lt a b || not (int_lt b a) && nat_lt i j) ≡ false → c <ℤ b → c ≡ a → ⊥
    clash a b c i j h k l = grind (arith, ints)
off_before low index r e h at (inr same) is = let l = at is in clash low r.low e.low index r.index e.index h same.0 same.1 l is
  where
    clash : (a b c : ℤ) (i j k : ℕ) → (int_lt a b || not (int_lt b a) && nat_lt i j) ≡ false → c ≡ b → k < j → c ≡ a → k ≡ i → ⊥
    clash a b c i j k h m n l o = grind (arith, ints)

-- up to the root, where the index comes after it
pub none_before : (low : ℤ) (index : ℕ) (root : Entry) (left : List Entry) → is_before low index root ≡ false → AllByRecursion (λ e. StandsBefore e root) left → AllByRecursion (IsAt index low) left →
    AllByRecursion (λ e. e.index ≡ index → ⊥) left
none_before low index root left h k at =
    AllByRecursion-weaker (λ e. StandsBefore e root × IsAt index low e) (λ e. e.index ≡ index → ⊥) (λ e b. off_before low index root e h b.1 b.0) left (AllByRecursion-both (λ e. StandsBefore e root) (IsAt index low) left k at)

-- at the root: all others have another index
others_after : (index : ℕ) (low : ℤ) (r e : Entry) → r.index ≡ index → IsAt index low r → IsAt index low e → StandsBefore r e → e.index ≡ index → ⊥
others_after index low r e i at atE (inl less) is = let l = at i in let m = atE is in omega (arith, ints)
others_after index low r e i at atE (inr same) is = let k = same.1 in omega arith

others_before : (index : ℕ) (low : ℤ) (r e : Entry) → r.index ≡ index → IsAt index low r → IsAt index low e → StandsBefore e r → e.index ≡ index → ⊥
others_before index low r e i at atE (inl less) is = let l = at i in let m = atE is in omega (arith, ints)
others_before index low r e i at atE (inr same) is = let k = same.1 in omega arith

pub none_other_after : (index : ℕ) (low : ℤ) (root : Entry) (right : List Entry) → root.index ≡ index → IsAt index low root → AllByRecursion (StandsBefore root) right → AllByRecursion (IsAt index low) right →
    AllByRecursion (λ e. e.index ≡ index → ⊥) right
none_other_after index low root right i at k all =
    AllByRecursion-weaker (λ e. StandsBefore root e × IsAt index low e) (λ e. e.index ≡ index → ⊥) (λ e b. others_after index low root e i at b.1 b.0) right (AllByRecursion-both (StandsBefore root) (IsAt index low) right k all)

pub none_other_before : (index : ℕ) (low : ℤ) (root : Entry) (left : List Entry) → root.index ≡ index → IsAt index low root → AllByRecursion (λ e. StandsBefore e root) left → AllByRecursion (IsAt index low) left →
    AllByRecursion (λ e. e.index ≡ index → ⊥) left
none_other_before index low root left i at k all =
    AllByRecursion-weaker (λ e. StandsBefore e root × IsAt index low e) (λ e. e.index ≡ index → ⊥) (λ e b. others_before index low root e i at b.1 b.0) left (AllByRecursion-both (λ e. StandsBefore e root) (IsAt index low) left k all)

-- ---- greatest heights after an insertion

abbrev pub is_of : ℕ → Entry → Bool
is_of index e = e.index == index

same_twice : (a b : ℤ) → a ≡ b → int_max a b ≡ b
same_twice a b e = omega (arith, ints, clamps)

raised : (high h : ℤ) (live here : Bool) → (here ≡ true → h ≡ high) → further (cond (live || here) (Some h) None) (Some high) ≡ further (cond live (Some h) None) (Some high)
raised high h true here e = refl
raised high h false false e = refl
raised high h false true e = ap Some (same_twice h high (e refl))

is_up_to : (index : ℕ) (high : ℤ) (e : Entry) → IsUpTo index high e → is_of index e ≡ true → e.high ≡ high
is_up_to index high e up is = up (eqb-true e.index index is)

-- beside the height of the entry that is inserted, all others stay
further_up : (index : ℕ) (high : ℤ) (es : List Entry) → AllByRecursion (IsUpTo index high) es → further (greatest_height (map (inserted index) es)) (Some high) ≡ further (greatest_height es) (Some high)
further_up index high [] h = refl
further_up index high (e ∷ es) h =
    swapped (live_height (inserted index e)) (greatest_height (map (inserted index) es)) high
    ∙ ap (λ (g : Option ℤ). further g (greatest_height (map (inserted index) es))) (raised high e.high e.is_live (is_of index e) (is_up_to index high e h.0))
    ∙ sym (swapped (live_height e) (greatest_height (map (inserted index) es)) high)
    ∙ further-assoc (live_height e) (greatest_height (map (inserted index) es)) (Some high)
    ∙ ap (further (live_height e)) (further_up index high es h.1)
    ∙ sym (further-assoc (live_height e) (greatest_height es) (Some high))
  where
    turned : (a b c : ℤ) → int_max (int_max a b) c ≡ int_max (int_max a c) b
    turned a b c = omega (arith, ints, clamps)

    turned_two : (a b : ℤ) → int_max a b ≡ int_max b a
    turned_two a b = omega (arith, ints, clamps)

    swapped : (a b : Option ℤ) (h : ℤ) → further (further a b) (Some h) ≡ further (further a (Some h)) b
    swapped None None h = refl
    swapped None (Some b) h = ap Some (turned_two b h)
    swapped (Some a) None h = refl
    swapped (Some a) (Some b) h = ap Some (turned a b h)

-- which it reaches
includes : (index : ℕ) (high : ℤ) (es : List Entry) → AllByRecursion (IsUpTo index high) es → list_any (is_of index) es ≡ true → further (greatest_height (map (inserted index) es)) (Some high) ≡ greatest_height (map (inserted index) es)
includes index high [] h k = absurd (both_ways false refl k)
includes index high (e ∷ es) h k = elim (or_cases (is_of index e) (list_any (is_of index) es) k) [
  | inl here ↦ let same = is_up_to index high e h.0 here in
      let live : live_height (inserted index e) ≡ Some high = ap₂ (λ (b : Bool) (y : ℤ). cond (e.is_live || b) (Some y) None) here same ∙ ap (λ (b : Bool). cond b (Some high) None) (or-true e.is_live) in
      ap (λ (g : Option ℤ). further (further g (greatest_height (map (inserted index) es))) (Some high)) live ∙ twice high (greatest_height (map (inserted index) es)) ∙ ap (λ (g : Option ℤ). further g (greatest_height (map (inserted index) es))) (sym live)
  | inr there ↦ further-assoc (live_height (inserted index e)) (greatest_height (map (inserted index) es)) (Some high) ∙ ap (further (live_height (inserted index e))) (includes index high es h.1 there)
]
  where
    itself : (a b : ℤ) → int_max (int_max a b) a ≡ int_max a b
    itself a b = omega (arith, ints, clamps)

    itself_alone : (a : ℤ) → int_max a a ≡ a
    itself_alone a = omega (arith, ints, clamps)

    twice : (h : ℤ) (b : Option ℤ) → further (further (Some h) b) (Some h) ≡ further (Some h) b
    twice h None = ap Some (itself_alone h)
    twice h (Some b) = ap Some (itself h b)

pub greatest_height-inserted : (index : ℕ) (high : ℤ) (es : List Entry) → AllByRecursion (IsUpTo index high) es → list_any (is_of index) es ≡ true →
    further (greatest_height es) (Some high) ≡ greatest_height (map (inserted index) es)
greatest_height-inserted index high es h k = sym (further_up index high es h) ∙ includes index high es h k

pub none_of : (index : ℕ) (es : List Entry) → AllByRecursion (λ e. e.index ≡ index → ⊥) es → list_any (is_of index) es ≡ false
none_of index es h = list_any-from_none (is_of index) es (AllByRecursion-weaker (λ e. e.index ≡ index → ⊥) (λ e. is_of index e ≡ false) (λ e k. false_from_ne_true (is_of index e) (λ t. k (eqb-true e.index index t))) es h)
