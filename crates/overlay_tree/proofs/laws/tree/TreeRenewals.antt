-- A tree of a part of all entries: those that it holds, those that have gone, and those that are to come make up all.
use Rattle.std.proofs.Common.{◌≡◌, refl, sym, ap, ap₂, subst, ◌∙◌, inl, inr, ℕ, zero, suc, ◌+◌, ◌-◌, ◌<◌, ◌≤◌, ◌==◌, arith, Bool, true, false, not, ◌&&◌, List, [], ◌∷◌, ◌++◌, map, filter, length, length-append, ◌/◌, append_assoc, append-nil, IsPermutation}
use Rattle.std.specs.Prelude.{ℤ, ◌≤ℤ◌, int_lt, count_by}
use Rattle.std.specs.List.{AllByRecursion, IsDistinct, range_with_len}
use Rattle.std.proofs.lemmas.Int.{ints}
use Rattle.std.proofs.lemmas.Bool.{not-false, not-true, cases_Bool, cases_order}
use Rattle.std.proofs.lemmas.List.{map-append}
use Rattle.std.proofs.lemmas.List.Sorted.{IsPermutation-map, IsPermutation-trans, IsPermutation-append_left, IsPermutation-append_right, IsPermutation-append_comm, IsPermutation-filter_both, sum_by-IsPermutation}
use Rattle.overlay_geometry.specs.Points.{Pair, pair_cmp}
use Rattle.overlay_geometry.proofs.laws.lists.Keys.{IsInOrder}
use Rattle.overlay_geometry.proofs.laws.lists.Lists.{AllByRecursion-append, AllByRecursion_left, AllByRecursion_right, AllByRecursion-map, AllByRecursion-filter, AllByRecursion-weaker, AllByRecursion-from_Has}
use Rattle.overlay_tree.specs.steps.IntervalTree.{Entry, IsSummed, none, WholeQuery, is_at_heights, is_taken_up, found, left_by, inserted, stays_at}
use Rattle.overlay_tree.specs.steps.Swept.{pair_at, entry_at, entries_between, unswept}
use Rattle.overlay_tree.specs.steps.NodeOf.{tree_nodes}
use Rattle.overlay_tree.specs.declared.split.interval_tree.Node.{Node}
use Rattle.overlay_tree.proofs.laws.tree.IntervalTrees.{IsNotTaken, none_dropped, none_found, none_counted, none_inserted, found-append, count_by-append}
use Rattle.overlay_tree.specs.steps.TreeSweep.{IsSwept, Gone, unlive, live_count, IsCounted, away}
use Rattle.overlay_tree.proofs.laws.tree.Sweeps.{unlive_map, later_right, permuted, range_within}
use Rattle.overlay_tree.proofs.laws.tree.LookCounts.{one_if, count_by-cons}
use Rattle.overlay_tree.proofs.laws.tree.TreeBuilds.{above, distinct_front, all_distinct}
use Rattle.overlay_geometry.proofs.laws.integers.Tests.{lt-tested}
use Rattle.std.proofs.Math.Nat.{add-zero}

-- ---- no tree

-- a list whose front half is all of it is empty
pub empty_tree : {I : Type 0} (whole : I → ℤ) (nodes l rest : List (Node I)) → nodes ≡ l ++ rest → length rest ≡ 0 → length l ≡ length nodes / 2 → IsSummed (tree_nodes whole (l ++ rest))
empty_tree whole [] l rest e f mid = subst (λ (ns : List (Node _)). IsSummed (tree_nodes whole ns)) e none
empty_tree whole (n ∷ ns) l rest e f mid = absurd (too_long (length (n ∷ ns)) (length l) (length rest) (ap length e ∙ length-append l rest) f mid (omega arith))
  where
    too_long : (a b c : ℕ) → a ≡ b + c → c ≡ 0 → b ≡ a / 2 → 0 < a → ⊥
    too_long a b c h k m p = omega arith

-- ---- the entries that are not in the tree

pub coming_asleep : (ps : List Pair) (from until : ℕ) → AllByRecursion (λ e. e.is_live ≡ false) (entries_between ps from until)
coming_asleep ps from until = AllByRecursion-map (λ e. e.is_live ≡ false) (entry_at ps) (range_with_len from (until - from)) (AllByRecursion-from_Has (λ i. false ≡ false) (range_with_len from (until - from)) (λ i h. refl))

pub away_asleep : (ps : List Pair) (gone : List Entry) (until : ℕ) → AllByRecursion (λ e. e.is_live ≡ false) gone → AllByRecursion (λ e. e.is_live ≡ false) (away ps gone until)
away_asleep ps gone until h = AllByRecursion-append (λ e. e.is_live ≡ false) gone (entries_between ps until (length ps)) h (coming_asleep ps until (length ps))

pub away_other : (ps : List Pair) (gone : List Entry) (j until : ℕ) → j < until → AllByRecursion (λ e. e.index < j) gone → AllByRecursion (λ e. e.index ≡ j → ⊥) (away ps gone until)
away_other ps gone j until lt h =
    AllByRecursion-append (λ e. e.index ≡ j → ⊥) gone (entries_between ps until (length ps))
    (AllByRecursion-weaker (λ e. e.index < j) (λ e. e.index ≡ j → ⊥) (λ e k same. omega arith) gone h)
    (AllByRecursion-map (λ e. e.index ≡ j → ⊥) (entry_at ps) (range_with_len until (length ps - until))
    (AllByRecursion-weaker (λ i. until ≤ i) (λ i. i ≡ j → ⊥) (λ i k same. omega arith) (range_with_len until (length ps - until)) (above until (length ps - until) until (omega arith))))

asleep_not_taken : (q : WholeQuery) (es : List Entry) → AllByRecursion (λ e. e.is_live ≡ false) es → AllByRecursion (IsNotTaken q) es
asleep_not_taken q es h = AllByRecursion-weaker (λ e. e.is_live ≡ false) (IsNotTaken q) (λ e n. ap (λ (b : Bool). b && is_at_heights q e) n) es h

pub left_with : (q : WholeQuery) (es others : List Entry) → AllByRecursion (λ e. e.is_live ≡ false) others → map (left_by q) (es ++ others) ≡ map (left_by q) es ++ others
left_with q es others h = map-append (left_by q) es others ∙ ap (λ (l : List Entry). map (left_by q) es ++ l) (none_dropped q others (asleep_not_taken q others h))

pub found_with : (q : WholeQuery) (es others : List Entry) → AllByRecursion (λ e. e.is_live ≡ false) others → found q (es ++ others) ≡ found q es
found_with q es others h = found-append q es others ∙ ap (λ (l : List ℕ). found q es ++ l) (none_found q others (asleep_not_taken q others h)) ∙ append-nil (found q es)

pub count_with : (q : WholeQuery) (es others : List Entry) → AllByRecursion (λ e. e.is_live ≡ false) others → count_by (is_taken_up q) (es ++ others) ≡ count_by (is_taken_up q) es
count_with q es others h = count_by-append (is_taken_up q) es others ∙ ap (λ (n : ℕ). count_by (is_taken_up q) es + n) (none_counted q others (asleep_not_taken q others h)) ∙ add-zero (count_by (is_taken_up q) es)

pub inserted_with : (j : ℕ) (es others : List Entry) → AllByRecursion (λ e. e.index ≡ j → ⊥) others → map (inserted j) (es ++ others) ≡ map (inserted j) es ++ others
inserted_with j es others h = map-append (inserted j) es others ∙ ap (λ (l : List Entry). map (inserted j) es ++ l) (none_inserted j others h)

-- ---- ranges

range_split : (a m k : ℕ) → range_with_len a (m + k) ≡ range_with_len a m ++ range_with_len (a + m) k
range_split a zero k = ap₂ (λ (i n : ℕ). range_with_len i n) (let e : a ≡ a + zero = omega arith in e) (let e : zero + k ≡ k = omega arith in e)
range_split a (suc m) k =
    ap (range_with_len a) (let e : suc m + k ≡ suc (m + k) = omega arith in e)
    ∙ ap (λ (is : List ℕ). a ∷ is) (range_split (a + 1) m k ∙ ap (λ (i : ℕ). range_with_len (a + 1) m ++ range_with_len i k) (let e : a + 1 + m ≡ a + suc m = omega arith in e))

pub between_split : (ps : List Pair) (a b c : ℕ) → a ≤ b → b ≤ c → entries_between ps a c ≡ entries_between ps a b ++ entries_between ps b c
between_split ps a b c h k =
    ap (λ (n : ℕ). map (entry_at ps) (range_with_len a n)) (let e : c - a ≡ (b - a) + (c - b) = omega arith in e)
    ∙ ap (map (entry_at ps)) (range_split a (b - a) (c - b) ∙ ap (λ (i : ℕ). range_with_len a (b - a) ++ range_with_len i (c - b)) (let e : a + (b - a) ≡ b = omega arith in e))
    ∙ map-append (entry_at ps) (range_with_len a (b - a)) (range_with_len b (c - b))

-- ---- a renewal

-- lists in an order with the tree's part first
moved : (E gone C R F G E' : List Entry) → IsPermutation E (F ++ G) → IsPermutation (F ++ C) E' → IsPermutation (E ++ (gone ++ (C ++ R))) (E' ++ ((G ++ gone) ++ R))
moved E gone C R F G E' p k =
    let T = gone ++ (C ++ R) in
    let H = G ++ gone in
    let one = IsPermutation-append_left T E (F ++ G) p in
    let first : (F ++ G) ++ T ≡ F ++ ((H ++ C) ++ R) = append_assoc F G T ∙ ap (λ (l : List Entry). F ++ l) (sym (append_assoc G gone (C ++ R)) ∙ sym (append_assoc H C R)) in
    let two = IsPermutation-append_right F ((H ++ C) ++ R) ((C ++ H) ++ R) (IsPermutation-append_left R (H ++ C) (C ++ H) (IsPermutation-append_comm H C)) in
    let second : F ++ ((C ++ H) ++ R) ≡ (F ++ C) ++ (H ++ R) = ap (λ (l : List Entry). F ++ l) (append_assoc C H R) ∙ sym (append_assoc F C (H ++ R)) in
    let three = IsPermutation-append_left (H ++ R) (F ++ C) E' k in
    IsPermutation-trans (E ++ T) (F ++ ((H ++ C) ++ R)) (E' ++ (H ++ R)) (subst (IsPermutation (E ++ T)) first one)
    (IsPermutation-trans (F ++ ((H ++ C) ++ R)) ((F ++ C) ++ (H ++ R)) (E' ++ (H ++ R)) (subst (IsPermutation (F ++ ((H ++ C) ++ R))) second two) three)

unlive_parts : (a b g c : List Entry) → map unlive (a ++ ((b ++ g) ++ c)) ≡ map unlive a ++ ((map unlive b ++ map unlive g) ++ map unlive c)
unlive_parts a b g c = map-append unlive a ((b ++ g) ++ c) ∙ ap (λ (l : List Entry). map unlive a ++ l) (map-append unlive (b ++ g) c ∙ ap (λ (l : List Entry). l ++ map unlive c) (map-append unlive b g))

live_parts : (a b g c : List Entry) → live_count (a ++ ((b ++ g) ++ c)) ≡ live_count a + ((live_count b + live_count g) + live_count c)
live_parts a b g c =
    count_by-append (λ e. e.is_live) a ((b ++ g) ++ c) ∙ ap (λ (n : ℕ). live_count a + n) (count_by-append (λ e. e.is_live) (b ++ g) c ∙ ap (λ (n : ℕ). n + live_count c) (count_by-append (λ e. e.is_live) b g))

none_live_left : (es : List Entry) → live_count (map unlive es) ≡ 0
none_live_left [] = refl
none_live_left (e ∷ es) = none_more (live_count (unlive e ∷ map unlive es)) (live_count (map unlive es)) (count_by-cons (λ f. f.is_live) (unlive e) (map unlive es)) (none_live_left es)
  where
    none_more : (m n : ℕ) → m ≡ 0 + n → n ≡ 0 → m ≡ 0
    none_more m n h k = omega arith

same_index_map : (es : List Entry) → map (λ (e : Entry). e.index) (map unlive es) ≡ map (λ (e : Entry). e.index) es
same_index_map [] = refl
same_index_map (e ∷ es) = ap (λ (l : List ℕ). e.index ∷ l) (same_index_map es)

-- what is left of the sweep's state, with the tree's entries in front
pub record IsRenewed (ps : List Pair) (next gone : List Entry) (j until old now : ℕ) : Type 0 where
  pub asleep : AllByRecursion (λ e. e.is_live ≡ false) gone
  pub behind : AllByRecursion (λ e. e.index < j) gone
  pub within : AllByRecursion (λ e. e.index < until) next
  pub swept : IsSwept ps (next ++ away ps gone until) j
  pub counted : IsCounted ps (next ++ away ps gone until) j old now
  pub distinct : IsDistinct (λ i k. i == k) (map (λ (e : Entry). e.index) next)

module _ (ps : List Pair) (E gone E' : List Entry) (j until old now : ℕ) (order : IsInOrder pair_cmp ps) (lt : j ≤ until) (le : until ≤ length ps)
    (asleep : AllByRecursion (λ e. e.is_live ≡ false) gone) (behind : AllByRecursion (λ e. e.index < j) gone) (within : AllByRecursion (λ e. e.index < j) E)
    (swept : IsSwept ps (E ++ away ps gone j) j) (counted : IsCounted ps (E ++ away ps gone j) j old now)
    (listed : IsPermutation (filter (stays_at (pair_at ps j).a.x) E ++ entries_between ps j until) E') where
  abbrev G : List Entry
  G = filter (λ e. not (stays_at (pair_at ps j).a.x e)) E

  abbrev C : List Entry
  C = entries_between ps j until

  abbrev R : List Entry
  R = entries_between ps until (length ps)

  split : E ++ away ps gone j ≡ E ++ (gone ++ (C ++ R))
  split = ap (λ (l : List Entry). E ++ (gone ++ l)) (between_split ps j until (length ps) (omega arith) le)

  all_moved : IsPermutation (E ++ away ps gone j) (E' ++ ((G ++ gone) ++ R))
  all_moved =
      subst (λ (l : List Entry). IsPermutation l (E' ++ ((G ++ gone) ++ R))) (sym split)
      (moved E gone C R (filter (stays_at (pair_at ps j).a.x) E) G E' (IsPermutation-filter_both (stays_at (pair_at ps j).a.x) (λ e. not (stays_at (pair_at ps j).a.x e)) (λ e. refl) E) listed)

  same_unlive : map unlive (E' ++ ((G ++ gone) ++ R)) ≡ map unlive (E' ++ ((map unlive G ++ gone) ++ R))
  same_unlive =
      unlive_parts E' G gone R ∙ ap (λ (l : List Entry). map unlive E' ++ ((l ++ map unlive gone) ++ map unlive R)) (sym (unlive_map unlive (λ e. refl) G)) ∙ sym (unlive_parts E' (map unlive G) gone R)

  base : IsPermutation (unswept ps) (map unlive (E' ++ ((map unlive G ++ gone) ++ R)))
  base = subst (IsPermutation (unswept ps)) same_unlive (IsPermutation-trans (unswept ps) (map unlive (E ++ away ps gone j)) (map unlive (E' ++ ((G ++ gone) ++ R))) swept.base (IsPermutation-map unlive (E ++ away ps gone j) (E' ++ ((G ++ gone) ++ R)) all_moved))

  -- what holds of all, and of those that leave the tree
  again : (P : Entry → Type 0) → AllByRecursion P (E ++ away ps gone j) → AllByRecursion P (map unlive G) → AllByRecursion P (E' ++ ((map unlive G ++ gone) ++ R))
  again P h k =
      let all = permuted P (E ++ away ps gone j) (E' ++ ((G ++ gone) ++ R)) all_moved h in
      let rest = AllByRecursion_right P E' ((G ++ gone) ++ R) all in
      AllByRecursion-append P E' ((map unlive G ++ gone) ++ R) (AllByRecursion_left P E' ((G ++ gone) ++ R) all)
      (AllByRecursion-append P (map unlive G ++ gone) R (AllByRecursion-append P (map unlive G) gone k (AllByRecursion_right P G gone (AllByRecursion_left P (G ++ gone) R rest))) (AllByRecursion_right P (G ++ gone) R rest))

  at_or_right : (k : ℕ) → j ≤ k → k < length ps → (pair_at ps j).a.x ≤ℤ (pair_at ps k).a.x
  at_or_right k h w = elim (cases_order j k) [
    | inl e ↦ subst (λ (n : ℕ). (pair_at ps j).a.x ≤ℤ (pair_at ps n).a.x) e (omega (arith, ints))
    | inr (inl less) ↦ later_right ps j k order less w
    | inr (inr more) ↦ absurd (omega arith)
  ]

  gone_now : (e : Entry) → Gone ps j e → not (stays_at (pair_at ps j).a.x e) ≡ true → Gone ps j (unlive e)
  gone_now e h t before dead k jk w = elim (cases_Bool e.is_live) [
    | inl live ↦
        let ended : not (int_lt e.end_x (pair_at ps j).a.x) ≡ false = ap (λ (b : Bool). b && not (int_lt e.end_x (pair_at ps j).a.x)) (sym live) ∙ not-true _ t in
        let left = lt-tested e.end_x (pair_at ps j).a.x (not-false _ ended) in
        let right = at_or_right k jk w in
        omega (arith, ints)
    | inr dead' ↦ h before dead' k jk w
  ]

  ended : AllByRecursion (Gone ps j) (map unlive G)
  ended = AllByRecursion-map (Gone ps j) unlive G
      (AllByRecursion-filter (λ e. not (stays_at (pair_at ps j).a.x e)) (λ e. Gone ps j (unlive e)) E
      (AllByRecursion-weaker (Gone ps j) (λ e. not (stays_at (pair_at ps j).a.x e) ≡ true → Gone ps j (unlive e)) (λ e h t. gone_now e h t) E (AllByRecursion_left (Gone ps j) E (away ps gone j) swept.gone)))

  left_asleep : AllByRecursion (λ e. e.is_live ≡ false) (map unlive G)
  left_asleep = AllByRecursion-map (λ e. e.is_live ≡ false) unlive G (AllByRecursion-from_Has (λ e. false ≡ false) G (λ e h. refl))

  left_behind : AllByRecursion (λ e. e.index < j) (map unlive G)
  left_behind = AllByRecursion-map (λ e. e.index < j) unlive G (AllByRecursion-filter (λ e. not (stays_at (pair_at ps j).a.x e)) (λ e. e.index < j) E (AllByRecursion-weaker (λ e. e.index < j) (λ e. not (stays_at (pair_at ps j).a.x e) ≡ true → e.index < j) (λ e h t. h) E within))

  fewer : live_count (E' ++ ((map unlive G ++ gone) ++ R)) ≤ live_count (E ++ away ps gone j)
  fewer =
      let a = sum_by-IsPermutation (λ (e : Entry). one_if e.is_live) (E ++ away ps gone j) (E' ++ ((G ++ gone) ++ R)) all_moved in
      let b = live_parts E' G gone R in
      let c = live_parts E' (map unlive G) gone R in
      let d = none_live_left G in
      omega arith

  all_within : AllByRecursion (λ e. e.index < until) E'
  all_within =
      permuted (λ e. e.index < until) (filter (stays_at (pair_at ps j).a.x) E ++ C) E' listed
      (AllByRecursion-append (λ e. e.index < until) (filter (stays_at (pair_at ps j).a.x) E) C
      (AllByRecursion-filter (stays_at (pair_at ps j).a.x) (λ e. e.index < until) E (AllByRecursion-weaker (λ e. e.index < j) (λ e. stays_at (pair_at ps j).a.x e ≡ true → e.index < until) (λ e h t. omega arith) E within))
      (AllByRecursion-map (λ e. e.index < until) (entry_at ps) (range_with_len j (until - j)) (range_within j (until - j) until (omega arith))))

  unlike : IsDistinct (λ i k. i == k) (map (λ (e : Entry). e.index) E')
  unlike =
      let all = E' ++ ((map unlive G ++ gone) ++ R) in
      let p = subst (IsPermutation (map (λ (e : Entry). e.index) (unswept ps))) (same_index_map all) (IsPermutation-map (λ (e : Entry). e.index) (unswept ps) (map unlive all) base) in
      distinct_front (map (λ (e : Entry). e.index) E') (map (λ (e : Entry). e.index) ((map unlive G ++ gone) ++ R))
      (subst (IsDistinct (λ i k. i == k)) (map-append (λ (e : Entry). e.index) E' ((map unlive G ++ gone) ++ R)) (all_distinct ps (map (λ (e : Entry). e.index) all) p))

  pub renewed : IsRenewed ps E' (map unlive G ++ gone) j until old now
  renewed = record {
    asleep = AllByRecursion-append (λ e. e.is_live ≡ false) (map unlive G) gone left_asleep asleep;
    behind = AllByRecursion-append (λ e. e.index < j) (map unlive G) gone left_behind behind;
    within = all_within;
    swept = record {
      base = base;
      live = again (λ e. e.is_live ≡ true → e.index < j) swept.live (AllByRecursion-weaker (λ e. e.index < j) (λ e. e.is_live ≡ true → e.index < j) (λ e h t. h) (map unlive G) left_behind);
      gone = again (Gone ps j) swept.gone ended;
    };
    counted = record { others = counted.others; most = (let o = counted.most in let f = fewer in omega arith); is = counted.is };
    distinct = unlike;
  }
