-- The finder over a tree: one segment more, in the tree or through a few entries, and what it has found at the end.
use Rattle.std.proofs.Common.{◌≡◌, refl, sym, ap, ap₂, subst, append-nil, ◌∷◌, not, ◌∙◌, ℕ, ◌+◌, ◌*◌, ◌-◌, true, ◌<◌, ◌≤◌, Bool, false, inl, inr, ◌==◌, arith, IsTrue, List, [], ◌++◌, map, filter, length, length-append, IsPermutation}
use Rattle.std.specs.Prelude.{count_by, min, ◌^◌, int_lt}
use Rattle.std.specs.List.{AllByRecursion, IsDistinct, list_any, range_with_len}
use Rattle.std.proofs.lemmas.List.Sorted.{IsPermutation-refl, length_permutation}
use Rattle.std.proofs.lemmas.Bool.{eq-eqb, both_ways, and_parts, not-true, and_right}
use Rattle.std.proofs.lemmas.List.{map-append, length-map}
use Rattle.std.proofs.lemmas.List.FromFn.{length-map-range_with_len}
use Rattle.std.proofs.lemmas.List.Sums.{count_by-le-length}
use Rattle.overlay_geometry.specs.Points.{Pair, pair_cmp, is_ordered}
use Rattle.overlay_geometry.specs.Ranges.{WholeRange, heights}
use Rattle.overlay_geometry.proofs.laws.lists.Keys.{IsInOrder}
use Rattle.overlay_geometry.proofs.laws.lists.Lists.{Has, AllByRecursion-at, AllByRecursion-map, AllByRecursion-weaker, AllByRecursion_left, AllByRecursion-filter, list_any-from_Has, list_any-from_none}
use Rattle.overlay_geometry.proofs.laws.lists.Elements.{Has-append_out}
use Rattle.overlay_tree.specs.steps.IntervalTree.{Entry, TreeNode, entries, AreRising, IsSummed, WholeQuery, HasLooked, is_taken_up, is_dropped, found, left_by, inserted, stays_at, IsAt, IsUpTo}
use Rattle.overlay_tree.proofs.laws.tree.IntervalTrees.{is_of, all_kept, none_inserted}
use Rattle.overlay_tree.specs.steps.Swept.{few, pair_at, entry_at, entries_between, unswept}
use Rattle.overlay_tree.specs.steps.TreeSweep.{unlive, query_at, IsSwept, IsCounted, away, AreUnderWay, IsUnderWay, AreFoundBefore}
use Rattle.overlay_tree.proofs.laws.tree.Sweeps.{IsSwept-start, IsSwept-more, all_earlier, found_all_near, entry_there, low_there, high_there, rising_map, unlive_map}
use Rattle.overlay_tree.proofs.laws.tree.TreeRenewals.{coming_asleep, away_asleep, away_other, left_with, found_with, count_with, inserted_with, renewed}
use Rattle.overlay_tree.proofs.laws.tree.LookCounts.{IsCounted-start, IsCounted-more, IsCounted-end, AreLooks}

-- what was looked through has as many entries as there are segments
length-swept : (ps : List Pair) (es : List Entry) (j : ℕ) → IsSwept ps es j → length es ≡ length ps
length-swept ps es j swept =
    sym (length-map es unlive) ∙ length_permutation (unswept ps) (map unlive es) swept.base ∙ length-map-range_with_len (entry_at ps) 0 (length ps)

pub AreUnderWay-start : (ps : List Pair) (old : ℕ) → old ≤ 2 ^ 128 - 1 → AreUnderWay ps [] old old 0 0
AreUnderWay-start ps old fits = record {
  gone = [];
  asleep = tt;
  behind = tt;
  within = tt;
  swept = subst (λ (n : ℕ). IsSwept ps (map (entry_at ps) (range_with_len 0 n)) 0) (let e : length ps ≡ length ps - 0 = omega arith in e) (IsSwept-start ps (unswept ps) (IsPermutation-refl (unswept ps)));
  counted = IsCounted-start ps (entries_between ps 0 (length ps)) old fits (coming_asleep ps 0 (length ps));
  reached = omega arith;
  inside = omega arith;
}

pub IsUnderWay-start : (ps : List Pair) (old : ℕ) → old ≤ 2 ^ 128 - 1 → IsUnderWay ps [] old old 0 0
IsUnderWay-start ps old fits = record { way = AreUnderWay-start ps old fits; rising = λ lt. absurd (omega arith); summed = λ lt. absurd (omega arith) }

-- ---- the entries are renewed

pub record AreRenewed (ps : List Pair) (es : List Entry) (old now j until : ℕ) : Type 0 where
  pub way : AreUnderWay ps es old now j until
  pub distinct : IsDistinct (λ i k. i == k) (map (λ (e : Entry). e.index) es)

pub AreRenewed-from : (ps : List Pair) (es next : List Entry) (old now j k until : ℕ) → AreUnderWay ps es old now j k → j ≡ k → IsInOrder pair_cmp ps → j ≤ until → until ≤ length ps →
    IsPermutation (filter (stays_at (pair_at ps j).a.x) es ++ entries_between ps j until) next → AreRenewed ps next old now j until
AreRenewed-from ps es next old now j k until start e order le fits listed =
    let way = subst (λ (n : ℕ). AreUnderWay ps es old now j n) (sym e) start in
    let r = renewed ps es way.gone next j until old now order le fits way.asleep way.behind way.within way.swept way.counted listed in
    record {
      way = record { gone = _; asleep = r.asleep; behind = r.behind; within = r.within; swept = r.swept; counted = r.counted; reached = le; inside = fits };
      distinct = r.distinct;
    }

-- the tree is renewed
pub IsUnderWay-renewed : (ps : List Pair) (nodes next : List TreeNode) (old now j k until : ℕ) → IsUnderWay ps nodes old now j k → j ≡ k →
    IsInOrder pair_cmp ps → j < until → until ≤ length ps → IsPermutation (filter (stays_at (pair_at ps j).a.x) (entries nodes) ++ entries_between ps j until) (entries next) →
    (IsDistinct (λ i l. i == l) (map (λ (e : Entry). e.index) (entries next)) → AreRising (entries next)) → IsSummed next → IsUnderWay ps next old now j until
IsUnderWay-renewed ps nodes next old now j k until start e order lt le listed rising summed =
    let r = AreRenewed-from ps (entries nodes) (entries next) old now j k until start.way e order (omega arith) le listed in
    record { way = r.way; rising = λ l. rising r.distinct; summed = λ l. summed }

-- ---- one segment

-- what the look-up leaves can take the segment
pub record IsReady (ps : List Pair) (es : List Entry) (j : ℕ) : Type 0 where
  pub low : AllByRecursion (IsAt j (query_at ps j).low) es
  pub high : AllByRecursion (IsUpTo j (query_at ps j).high) es
  pub there : list_any (is_of j) es ≡ true

pub IsReady-from : (ps : List Pair) (es : List Entry) (old now j until : ℕ) (q : WholeQuery) → AreUnderWay ps es old now j until → j < until → IsReady ps (map (left_by q) es) j
IsReady-from ps es old now j until q way lt =
    let others = away ps way.gone until in
    let all = map (left_by q) es ++ others in
    let same : map (left_by q) (es ++ others) ≡ all = left_with q es others (away_asleep ps way.gone until way.asleep) in
    let base : IsPermutation (unswept ps) (map unlive all) = subst (λ (l : List Entry). IsPermutation (unswept ps) (map unlive l)) same (subst (IsPermutation (unswept ps)) (sym (unlive_map (left_by q) (λ f. refl) (es ++ others))) way.swept.base) in
    let inside = way.inside in
    let own = entry_there ps all j base (omega arith) in
    let there : Has (map (left_by q) es) own.0 = elim (Has-append_out (map (left_by q) es) others own.0 own.1) [
      | inl here ↦ here
      | inr other ↦ absurd (AllByRecursion-at (λ f. f.index ≡ j → ⊥) others own.0 (away_other ps way.gone j until lt way.behind) other own.2)
    ] in
    record {
      low = AllByRecursion_left (IsAt j (query_at ps j).low) (map (left_by q) es) others (low_there ps all j base);
      high = AllByRecursion_left (IsUpTo j (query_at ps j).high) (map (left_by q) es) others (high_there ps all j base);
      there = list_any-from_Has (is_of j) (map (left_by q) es) own.0 there (eq-eqb own.0.index j own.2);
    }

-- what a look finds
pub AreFoundBefore-from : (ps : List Pair) (es : List Entry) (old now j until : ℕ) → AreUnderWay ps es old now j until → AllByRecursion (λ s. IsTrue (is_ordered s)) ps → j < length ps → AreFoundBefore ps (found (query_at ps j) es) j
AreFoundBefore-from ps es old now j until way ordered w =
    let others = away ps way.gone until in
    let p = query_at ps j in
    let same = found_with p es others (away_asleep ps way.gone until way.asleep) in
    subst (λ (l : List ℕ). AreFoundBefore ps l j) same (record {
      earlier = all_earlier ps (es ++ others) j p way.swept;
      near = λ i li apart.
          let here = found_all_near ps (es ++ others) i j way.swept ordered li w (λ a. both_ways _ apart a) in
          list_any-from_Has (λ k. k == i) (found p (es ++ others)) i here (eq-eqb i i refl);
    })

-- the sweep goes on
pub AreUnderWay-more : (ps : List Pair) (es : List Entry) (old m n extra j until : ℕ) → AreUnderWay ps es old m j until → IsInOrder pair_cmp ps → AllByRecursion (λ s. IsTrue (is_ordered s)) ps → j < until →
    extra ≤ 31 + 8 * count_by (is_taken_up (query_at ps j)) es → n ≡ min (m + (count_by (is_taken_up (query_at ps j)) es + extra)) (2 ^ 128 - 1) → AreUnderWay ps (map (inserted j) (map (left_by (query_at ps j)) es)) old n (j + 1) until
AreUnderWay-more ps es old m n extra j until way order ordered lt less h =
    let others = away ps way.gone until in
    let asleep = away_asleep ps way.gone until way.asleep in
    let inside = way.inside in
    let w : j < length ps = omega arith in
    let p = query_at ps j in
    let same : map (inserted j) (map (left_by p) es) ++ others ≡ map (inserted j) (map (left_by p) (es ++ others)) =
    sym (ap (map (inserted j)) (left_with p es others asleep) ∙ inserted_with j (map (left_by p) es) others (away_other ps way.gone j until lt way.behind)) in
    let taken : n ≡ min (m + (count_by (is_taken_up p) (es ++ others) + extra)) (2 ^ 128 - 1) = h ∙ ap (λ (k : ℕ). min (m + (k + extra)) (2 ^ 128 - 1)) (sym (count_with p es others asleep)) in
    record {
      gone = way.gone;
      asleep = way.asleep;
      behind = AllByRecursion-weaker (λ e. e.index < j) (λ e. e.index < j + 1) (λ e k. omega arith) way.gone way.behind;
      within = AllByRecursion-map (λ e. e.index < until) (inserted j) (map (left_by p) es) (AllByRecursion-map (λ e. e.index < until) (left_by p) es way.within);
      swept = subst (λ (xs : List Entry). IsSwept ps xs (j + 1)) (sym same) (IsSwept-more ps (es ++ others) j way.swept order w);
      counted = subst (λ (xs : List Entry). IsCounted ps xs (j + 1) old n) (sym same) (IsCounted-more ps (es ++ others) j old m n extra way.swept order ordered w way.counted (subst (λ (k : ℕ). extra ≤ 31 + 8 * k) (sym (count_with p es others asleep)) less) taken);
      reached = omega arith;
      inside = way.inside;
    }

-- in the tree
pub IsUnderWay-more : (ps : List Pair) (nodes between next : List TreeNode) (old m n j until : ℕ) (q : WholeQuery) → IsUnderWay ps nodes old m j until →
    IsInOrder pair_cmp ps → AllByRecursion (λ s. IsTrue (is_ordered s)) ps → j < until → q ≡ query_at ps j →
    entries between ≡ map (left_by q) (entries nodes) → HasLooked q (entries nodes) m n →
    entries next ≡ map (inserted j) (entries between) → IsSummed next → IsUnderWay ps next old n (j + 1) until
IsUnderWay-more ps nodes between next old m n j until q way order ordered lt is left h put summed =
    let es = entries nodes in
    let p = query_at ps j in
    let own : entries next ≡ map (inserted j) (map (left_by p) es) = put ∙ ap (map (inserted j)) (left ∙ ap (λ (p : WholeQuery). map (left_by p) es) is) in
    let looked : HasLooked p es m n = subst (λ (p : WholeQuery). HasLooked p es m n) is h in
    let more = AreUnderWay-more ps es old m n looked.others j until way.way order ordered lt (let most = looked.most in omega (arith, most)) looked.is in
    record {
      way = subst (λ (l : List Entry). AreUnderWay ps l old n (j + 1) until) (sym own) more;
      rising = λ l. subst AreRising (sym own) (rising_map (inserted j) (λ e. refl) (map (left_by p) es) (rising_map (left_by p) (λ e. refl) es (way.rising lt)));
      summed = λ l. summed;
    }

-- ---- through a few entries

-- the entry of the pair at an index, live
abbrev pub live_at : List Pair → ℕ → Entry
live_at ps j = record (entry_at ps j) { is_live = true }

not_dropped : (q : WholeQuery) (e : Entry) → stays_at q.x e ≡ true → is_dropped q e ≡ false
not_dropped q e h = and_right (is_taken_up q e) (int_lt e.end_x q.x) (not-true _ (and_parts e.is_live (not (int_lt e.end_x q.x)) h).1)

none_dropped_of : (q : WholeQuery) (es : List Entry) → list_any (is_dropped q) (filter (stays_at q.x) es) ≡ false
none_dropped_of q es = list_any-from_none (is_dropped q) (filter (stays_at q.x) es) (AllByRecursion-filter (stays_at q.x) (λ e. is_dropped q e ≡ false) es (all_of es))
  where
    all_of : (es : List Entry) → AllByRecursion (λ e. stays_at q.x e ≡ true → is_dropped q e ≡ false) es
    all_of [] = tt
    all_of (e ∷ es) = (λ h. not_dropped q e h, all_of es)

-- a segment is compared with all entries that stay, which are few, and added to them
pub IsUnderWay-through : (ps : List Pair) (nodes next : List TreeNode) (old m n j k : ℕ) → IsUnderWay ps nodes old m j k → j ≡ k → IsInOrder pair_cmp ps → AllByRecursion (λ s. IsTrue (is_ordered s)) ps → j < length ps →
    length (filter (stays_at (pair_at ps j).a.x) (entries nodes)) < few → n ≡ min (m + length (filter (stays_at (pair_at ps j).a.x) (entries nodes))) (2 ^ 128 - 1) →
    entries next ≡ filter (stays_at (pair_at ps j).a.x) (entries nodes) ++ live_at ps j ∷ [] → IsUnderWay ps next old n (j + 1) (j + 1)
IsUnderWay-through ps nodes next old m n j k start e order ordered w less h put =
    let q = query_at ps j in
    let stay = filter (stays_at (pair_at ps j).a.x) (entries nodes) in
    let own = entry_at ps j ∷ [] in
    let one : entries_between ps j (j + 1) ≡ own = ap (λ (l : ℕ). map (entry_at ps) (range_with_len j l)) (let e : (j + 1) - j ≡ 1 = omega arith in e) in
    let r = AreRenewed-from ps (entries nodes) (stay ++ own) old m j k (j + 1) start.way e order (omega arith) (omega arith) (subst (λ (l : List Entry). IsPermutation (stay ++ entries_between ps j (j + 1)) (stay ++ l)) one (IsPermutation-refl _)) in
    let asleep : AllByRecursion (λ e. e.is_live ≡ false) own = (refl, tt) in
    let taken = count_by (is_taken_up q) stay in
    let fewer = count_by-le-length (is_taken_up q) stay in
    let all : length stay ≡ count_by (is_taken_up q) (stay ++ own) + (length stay - taken) = parted (length stay) taken _ fewer (count_with q stay own asleep) in
    let more = AreUnderWay-more ps (stay ++ own) old m n (length stay - taken) j (j + 1) r.way order ordered (omega arith) (omega (arith, less)) (h ∙ ap (λ (l : ℕ). min (m + l) (2 ^ 128 - 1)) all) in
    let left : map (left_by q) (stay ++ own) ≡ stay ++ own = left_with q stay own asleep ∙ ap (λ (l : List Entry). l ++ own) (all_kept q stay (none_dropped_of q (entries nodes))) in
    let other : AllByRecursion (λ e. e.index ≡ j → ⊥) stay =
    AllByRecursion-filter (stays_at (pair_at ps j).a.x) (λ f. f.index ≡ j → ⊥) (entries nodes) (AllByRecursion-weaker (λ f. f.index < k) (λ f. stays_at (pair_at ps j).a.x f ≡ true → f.index ≡ j → ⊥) (λ f l t s. omega arith) (entries nodes) start.way.within) in
    let here : map (inserted j) (stay ++ own) ≡ stay ++ live_at ps j ∷ [] =
    map-append (inserted j) stay own ∙ ap₂ (λ (l m : List Entry). l ++ m) (none_inserted j stay other) (ap (λ (b : Bool). record (entry_at ps j) { is_live = b } ∷ []) (eq-eqb j j refl)) in
    record {
      way = subst (λ (l : List Entry). AreUnderWay ps l old n (j + 1) (j + 1)) (ap (map (inserted j)) left ∙ here ∙ sym put) more;
      rising = λ l. absurd (omega arith);
      summed = λ l. absurd (omega arith);
    }
  where
    parted : (n c d : ℕ) → c ≤ n → d ≡ c → n ≡ d + (n - c)
    parted n c d h e = omega arith

-- and what it finds
pub AreFoundBefore-through : (ps : List Pair) (nodes : List TreeNode) (old m j k : ℕ) → IsUnderWay ps nodes old m j k → j ≡ k → IsInOrder pair_cmp ps → AllByRecursion (λ s. IsTrue (is_ordered s)) ps → j < length ps →
    AreFoundBefore ps (found (query_at ps j) (filter (stays_at (pair_at ps j).a.x) (entries nodes))) j
AreFoundBefore-through ps nodes old m j k start e order ordered w =
    let stay = filter (stays_at (pair_at ps j).a.x) (entries nodes) in
    let none : entries_between ps j j ≡ [] = ap (λ (l : ℕ). map (entry_at ps) (range_with_len j l)) (let e : j - j ≡ 0 = omega arith in e) in
    let listed : IsPermutation (stay ++ entries_between ps j j) stay = subst (λ (l : List Entry). IsPermutation l stay) (sym (ap (λ (l : List Entry). stay ++ l) none ∙ append-nil stay)) (IsPermutation-refl stay) in
    let r = AreRenewed-from ps (entries nodes) stay old m j k j start.way e order (omega arith) (omega arith) listed in
    AreFoundBefore-from ps stay old m j j r.way ordered w

-- the look-up of a segment, by its heights and the x of its first end
pub query_is : (ps : List Pair) (j : ℕ) (t : Pair) (r : WholeRange) → pair_at ps j ≡ t → r ≡ heights t → (record { low = r.least; high = r.greatest; x = t.a.x }) ≡ query_at ps j
query_is ps j t r is e = ap (λ (h : WholeRange). looked_up h t) e ∙ ap (λ (s : Pair). looked_up (heights s) s) (sym is)
  where
    looked_up : WholeRange → Pair → WholeQuery
    looked_up h s = record { low = h.least; high = h.greatest; x = s.a.x }

-- ---- the end

pub IsUnderWay-end : (ps : List Pair) (nodes : List TreeNode) (old now j until : ℕ) → IsUnderWay ps nodes old now j until → length ps ≡ j → AreLooks ps old now
IsUnderWay-end ps nodes old now j until under e = let way = under.way in IsCounted-end ps (entries nodes ++ away ps way.gone until) j old now e way.counted

-- the tree has no more entries than there are segments
pub length_within : (ps : List Pair) (nodes : List TreeNode) (old now j until : ℕ) → IsUnderWay ps nodes old now j until → length (entries nodes) ≤ length ps
length_within ps nodes old now j until under =
    let way = under.way in
    let all = length-swept ps (entries nodes ++ away ps way.gone until) j way.swept in
    let sum = length-append (entries nodes) (away ps way.gone until) in
    omega arith
