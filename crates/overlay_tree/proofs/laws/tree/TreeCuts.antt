-- A tree in a list of nodes, cut at its middle; and put together again after a look-up or an insertion.
use Rattle.std.proofs.Common.{◌≡◌, refl, sym, append_assoc, append-nil, Bool, true, false, ap, ap₂, subst, ◌∙◌, ℕ, ◌+◌, ◌≤◌, ◌/◌, ◌==◌, ◌<◌, suc, arith, List, [], ◌∷◌, ◌++◌, map, length, length-append, zero, take, drop, get_or, inl, inr}
use Rattle.std.specs.Prelude.{ℤ, Option, Some, int_lt, count_by, min, ◌-◌, ◌^◌, ◌||◌, ◌⊎◌}
use Rattle.std.specs.List.{AllByRecursion, list_any}
use Rattle.std.proofs.lemmas.List.{map-append, length-map}
use Rattle.overlay_tree.specs.steps.IntervalTree.{Entry, TreeNode, entries, AreRising, further, greatest_height, IsSummed, WholeQuery, HasLooked, is_taken_up, is_dropped, left_by, found, inserted, IsAt, IsUpTo}
use Rattle.overlay_tree.specs.steps.NodeOf.{node_entry, node_of, tree_nodes, highest_of}
use Rattle.overlay_tree.specs.declared.split.interval_tree.Node.{Node}
use Rattle.overlay_intersections.proofs.laws.marks.FoundMarks.{or_false, or_assoc}
use Rattle.overlay_tree.proofs.laws.tree.IntervalTrees.{IsRooted, IsRooted-from, IsSummed-from, entries-parts, AreParted, AreParted-from, none_above, none_dropped, none_found, found-append, is_before, none_inserted, none_after, none_before, none_other_after, none_other_before, not_here, none_counted, none_is_dropped, all_kept, is_of, greatest_height-inserted, none_of}
use Rattle.std.proofs.lemmas.Bool.{or_right, eq-eqb, eqb-true, false_from_ne_true}
use Rattle.std.proofs.lemmas.List.Folds.{list_any-append}
use Rattle.overlay_geometry.proofs.laws.lists.Lists.{AllByRecursion_left, AllByRecursion_right}
use Rattle.overlay_tree.proofs.laws.tree.Looks.{looked_first, looked_both, within_reach_before}

-- sums that stop at a limit
pub none_more : (m c w : ℕ) → m ≤ w → c ≡ 0 → m ≡ min (m + c) w
none_more m c w h e = omega arith

twice : (m a b c w : ℕ) → c ≡ a + b → min (min (m + a) w + b) w ≡ min (m + c) w
twice m a b c w e = omega arith

module _ {I : Type 0} (whole : I → ℤ) where
  -- the entries of nodes
  abbrev pub entries_in : List (Node I) → List Entry
  entries_in nodes = entries (tree_nodes whole nodes)

  pub parts : (l s : List (Node I)) (r : Node I) → tree_nodes whole (l ++ r ∷ s) ≡ tree_nodes whole l ++ node_of whole r ∷ tree_nodes whole s
  parts l s r = map-append (node_of whole) l (r ∷ s)

  pub entry_parts : (l s : List (Node I)) (r : Node I) → entries_in (l ++ r ∷ s) ≡ entries_in l ++ node_entry whole r ∷ entries_in s
  entry_parts l s r = ap entries (parts l s r) ∙ entries-parts (tree_nodes whole l) (tree_nodes whole s) (node_of whole r)

  -- what a tree says of its parts
  pub record IsCut (nodes l : List (Node I)) (r : Node I) (s : List (Node I)) : Type 0 where
    pub is : nodes ≡ l ++ r ∷ s
    pub rooted : IsRooted (tree_nodes whole l) (node_of whole r) (tree_nodes whole s)
    pub parted : AreParted (entries_in l) (node_entry whole r) (entries_in s)
    pub middle : length l ≡ length (l ++ r ∷ s) / 2
    pub listed : entries_in nodes ≡ entries_in l ++ node_entry whole r ∷ entries_in s
    pub greatest_is : highest_of whole r.greatest ≡ greatest_height (entries_in nodes)
    pub left_less : length l < length nodes
    pub right_less : length s < length nodes

  pub IsCut-from : (nodes l rest : List (Node I)) (r : Node I) (s : List (Node I)) → nodes ≡ l ++ rest → rest ≡ r ∷ s → length l ≡ length nodes / 2 → AreRising (entries_in nodes) → IsSummed (tree_nodes whole nodes) → IsCut nodes l r s
  IsCut-from nodes l rest r s e f mid rising summed =
      let is : nodes ≡ l ++ r ∷ s = e ∙ ap (λ (ns : List (Node I)). l ++ ns) f in
      let cut : tree_nodes whole nodes ≡ tree_nodes whole l ++ node_of whole r ∷ tree_nodes whole s = ap (tree_nodes whole) is ∙ parts l s r in
      let listed : entries_in nodes ≡ entries_in l ++ node_entry whole r ∷ entries_in s = ap entries_in is ∙ entry_parts l s r in
      let middle : length l ≡ length (l ++ r ∷ s) / 2 = mid ∙ ap (λ (ns : List (Node I)). length ns / 2) is in
      let half : length (tree_nodes whole l) ≡ length (tree_nodes whole l ++ node_of whole r ∷ tree_nodes whole s) / 2 =
      length-map l (node_of whole) ∙ middle ∙ ap (λ (n : ℕ). n / 2) (sym (ap length (sym (parts l s r)) ∙ length-map (l ++ r ∷ s) (node_of whole))) in
      let rooted = IsRooted-from (tree_nodes whole l) (tree_nodes whole s) (node_of whole r) (subst IsSummed cut summed) half in
      let long : length nodes ≡ length l + suc (length s) = ap length is ∙ length-append l (r ∷ s) in
      record {
        is = is;
        rooted = rooted;
        parted = AreParted-from (entries_in l) (entries_in s) (node_entry whole r) (subst AreRising listed rising);
        middle = middle;
        listed = listed;
        greatest_is = rooted.greatest_is ∙ ap (λ (ns : List TreeNode). greatest_height (entries ns)) (sym cut);
        left_less = omega arith;
        right_less = omega arith;
      }

  -- what a map of the entries makes of the parts it makes of the whole
  pub mapped : (f : Entry → Entry) (nodes l s l' s' : List (Node I)) (r r' : Node I) → IsCut nodes l r s → entries_in l' ≡ map f (entries_in l) → node_entry whole r' ≡ f (node_entry whole r) → entries_in s' ≡ map f (entries_in s) →
      entries_in (l' ++ r' ∷ s') ≡ map f (entries_in nodes)
  mapped f nodes l s l' s' r r' cut e1 e2 e3 =
      entry_parts l' s' r'
      ∙ ap₂ (λ (xs ys : List Entry). xs ++ ys) e1 (ap₂ (λ (x : Entry) (xs : List Entry). x ∷ xs) e2 e3)
      ∙ sym (ap (map f) cut.listed ∙ map-append f (entries_in l) (node_entry whole r ∷ entries_in s))

  pub same_length : (f : Entry → Entry) (l l' : List (Node I)) → entries_in l' ≡ map f (entries_in l) → length l' ≡ length l
  same_length f l l' e =
      sym (length-map l' (node_of whole)) ∙ sym (length-map (tree_nodes whole l') (λ (n : TreeNode). n.entry)) ∙ ap length e ∙ length-map (entries_in l) f ∙ length-map (tree_nodes whole l) (λ (n : TreeNode). n.entry) ∙ length-map l (node_of whole)

  -- and the tree is where its parts are
  pub summed_again : (f : Entry → Entry) (nodes l s l' s' : List (Node I)) (r r' : Node I) → IsCut nodes l r s → entries_in l' ≡ map f (entries_in l) → entries_in s' ≡ map f (entries_in s) →
      IsSummed (tree_nodes whole l') → IsSummed (tree_nodes whole s') → highest_of whole r'.greatest ≡ greatest_height (entries_in l' ++ node_entry whole r' ∷ entries_in s') → IsSummed (tree_nodes whole (l' ++ r' ∷ s'))
  summed_again f nodes l s l' s' r r' cut e1 e3 hl hs h =
      let m = same_length f l l' e1 in
      let n = same_length f s s' e3 in
      let long : length (l' ++ r' ∷ s') ≡ length (l ++ r ∷ s) = length-append l' (r' ∷ s') ∙ ap₂ (λ (a b : ℕ). a + suc b) m n ∙ sym (length-append l (r ∷ s)) in
      let half : length (tree_nodes whole l') ≡ length (tree_nodes whole l' ++ node_of whole r' ∷ tree_nodes whole s') / 2 =
      length-map l' (node_of whole) ∙ m ∙ cut.middle ∙ ap (λ (k : ℕ). k / 2) (sym long ∙ sym (ap length (sym (parts l' s' r')) ∙ length-map (l' ++ r' ∷ s') (node_of whole))) in
      subst IsSummed (sym (parts l' s' r')) (IsSummed-from (tree_nodes whole l') (tree_nodes whole s') (node_of whole r') half hl hs h)

  -- subtrees that are summed, with a root that is, make a tree
  pub summed_up : (nodes l rest s l' s' : List (Node I)) (r r' : Node I) → nodes ≡ l ++ rest → rest ≡ r ∷ s → length l ≡ length nodes / 2 →
      entries_in l' ≡ entries_in l → node_entry whole r' ≡ node_entry whole r → entries_in s' ≡ entries_in s → IsSummed (tree_nodes whole l') → IsSummed (tree_nodes whole s') →
      highest_of whole r'.greatest ≡ greatest_height (entries_in l' ++ node_entry whole r ∷ entries_in s') → (entries_in (l' ++ r' ∷ s') ≡ entries_in nodes) × IsSummed (tree_nodes whole (l' ++ r' ∷ s'))
  summed_up nodes l rest s l' s' r r' e f mid e1 e2 e3 hl hs h =
      let is : nodes ≡ l ++ r ∷ s = e ∙ ap (λ (ns : List (Node I)). l ++ ns) f in
      let all = entry_parts l' s' r' ∙ ap₂ (λ (xs ys : List Entry). xs ++ ys) e1 (ap₂ (λ (x : Entry) (xs : List Entry). x ∷ xs) e2 e3) ∙ sym (ap entries_in is ∙ entry_parts l s r) in
      let m = same_count l l' e1 in
      let half : length (tree_nodes whole l') ≡ length (tree_nodes whole l' ++ node_of whole r' ∷ tree_nodes whole s') / 2 =
      length-map l' (node_of whole) ∙ m ∙ mid ∙ ap (λ (k : ℕ). k / 2) (sym (same_count nodes (l' ++ r' ∷ s') all) ∙ sym (ap length (sym (parts l' s' r')) ∙ length-map (l' ++ r' ∷ s') (node_of whole))) in
      let top = h ∙ ap (λ (x : Entry). greatest_height (entries_in l' ++ x ∷ entries_in s')) (sym e2) in
      (all, subst IsSummed (sym (parts l' s' r')) (IsSummed-from (tree_nodes whole l') (tree_nodes whole s') (node_of whole r') half hl hs top))
    where
      same_count : (xs ys : List (Node I)) → entries_in ys ≡ entries_in xs → length ys ≡ length xs
      same_count xs ys k =
          sym (length-map ys (node_of whole)) ∙ sym (length-map (tree_nodes whole ys) (λ (n : TreeNode). n.entry)) ∙ ap length k ∙ length-map (tree_nodes whole xs) (λ (n : TreeNode). n.entry) ∙ length-map xs (node_of whole)

  -- what is written back of a slice of as many
  pub written : (xs ys : List (Node I)) (n : ℕ) → n ≡ length ys → length xs ≡ length ys → take n (xs ++ drop (length xs) ys) ≡ xs
  written xs ys n e h = front xs (drop (length xs) ys) n (h ∙ sym e)
    where
      front : (xs zs : List (Node I)) (n : ℕ) → length xs ≡ n → take n (xs ++ zs) ≡ xs
      front [] zs zero k = refl
      front [] zs (suc n) k = absurd (omega arith)
      front (x ∷ xs) zs zero k = absurd (omega arith)
      front (x ∷ xs) zs (suc n) k = ap (λ (l : List (Node I)). x ∷ l) (front xs zs n (omega arith))

  -- ---- a look-up

  -- what it makes of the root and the right subtree
  pub record IsDone (q : WholeQuery) (r : Node I) (s : List (Node I)) (r' : Node I) (s' : List (Node I)) (before after : List ℕ) (m n : ℕ) (d d' : Bool) : Type 0 where
    pub root_left : node_entry whole r' ≡ left_by q (node_entry whole r)
    pub root_greatest : highest_of whole r'.greatest ≡ highest_of whole r.greatest
    pub right_left : entries_in s' ≡ map (left_by q) (entries_in s)
    pub summed : IsSummed (tree_nodes whole s')
    pub found_in : after ≡ before ++ found q (node_entry whole r ∷ entries_in s)
    pub looked_at : HasLooked q (node_entry whole r ∷ entries_in s) m n
    pub far : (int_lt q.high (whole r.low) ≡ false) ⊎ (looked_at.others ≡ 0)
    pub dropped_in : d' ≡ (d || list_any (is_dropped q) (node_entry whole r ∷ entries_in s))

  -- they begin above the look-up
  pub IsDone-above : (q : WholeQuery) (nodes l : List (Node I)) (r : Node I) (s : List (Node I)) (before : List ℕ) (m : ℕ) (d : Bool) → IsCut nodes l r s → int_lt q.high (whole r.low) ≡ true → m ≤ 2 ^ 128 - 1 →
      IsDone q r s r s before before m m d d
  IsDone-above q nodes l r s before m d cut h fits =
      let off = none_above q (node_entry whole r) (entries_in s) h cut.parted.after in
      let same = none_dropped q (node_entry whole r ∷ entries_in s) off in
      record {
        root_left = cc;
        root_greatest = refl;
        right_left = cc;
        summed = cut.rooted.right_summed;
        found_in = sym (append-nil before) ∙ ap (λ (ns : List ℕ). before ++ ns) (sym (none_found q (node_entry whole r ∷ entries_in s) off));
        looked_at = record {
          others = 0;
          is = none_more m _ (2 ^ 128 - 1) fits (ap (λ (n : ℕ). n + 0) (none_counted q (node_entry whole r ∷ entries_in s) off));
          most = omega arith;
          reached = λ within. omega arith;
          within = let none = none_counted q (node_entry whole r ∷ entries_in s) off in omega (arith, none);
        };
        far = inr refl;
        dropped_in = sym (ap (λ (b : Bool). d || b) (none_is_dropped q (node_entry whole r ∷ entries_in s) off) ∙ sym (or_false d));
      }

  -- they are looked at
  pub IsDone-both : (q : WholeQuery) (r : Node I) (s : List (Node I)) (r' : Node I) (s' : List (Node I)) (before between after : List ℕ) (m k n : ℕ) (d e : Bool) (d' : Bool) → node_entry whole r' ≡ left_by q (node_entry whole r) → r'.greatest ≡ r.greatest → entries_in s' ≡ map (left_by q) (entries_in s) →
      IsSummed (tree_nodes whole s') → between ≡ before ++ found q (node_entry whole r ∷ []) → after ≡ between ++ found q (entries_in s) →
      k ≡ min (m + count_by (is_taken_up q) (node_entry whole r ∷ [])) (2 ^ 128 - 1) → HasLooked q (entries_in s) k n → int_lt q.high (whole r.low) ≡ false →
      e ≡ is_dropped q (node_entry whole r) → d' ≡ ((d || e) || list_any (is_dropped q) (entries_in s)) →
      IsDone q r s r' s' before after m n d d'
  IsDone-both q r s r' s' before between after m k n d e d' e1 eg e2 h f1 f2 l1 l2 near d1 d2 = record {
    root_left = e1;
    root_greatest = ap (highest_of whole) eg;
    right_left = e2;
    summed = h;
    found_in =
        f2 ∙ ap (λ (ns : List ℕ). ns ++ found q (entries_in s)) f1 ∙ append_assoc before (found q (node_entry whole r ∷ [])) (found q (entries_in s))
        ∙ ap (λ (ns : List ℕ). before ++ ns) (sym (found-append q (node_entry whole r ∷ []) (entries_in s)));
    looked_at = looked_first q (node_entry whole r) (entries_in s) m k n l1 l2;
    far = inl near;
    dropped_in = d2 ∙ ap (λ (b : Bool). (d || b) || list_any (is_dropped q) (entries_in s)) d1 ∙ or_assoc d (is_dropped q (node_entry whole r)) (list_any (is_dropped q) (entries_in s));
  }

  -- the whole tree
  pub found_all : (q : WholeQuery) (nodes l : List (Node I)) (r : Node I) (s : List (Node I)) (r' : Node I) (s' : List (Node I)) (first before after : List ℕ) (m n : ℕ) (d d' : Bool) → IsCut nodes l r s → before ≡ first ++ found q (entries_in l) →
      IsDone q r s r' s' before after m n d d' → after ≡ first ++ found q (entries_in nodes)
  found_all q nodes l r s r' s' first before after m n d d' cut e done =
      done.found_in ∙ ap (λ (ns : List ℕ). ns ++ found q (node_entry whole r ∷ entries_in s)) e ∙ append_assoc first (found q (entries_in l)) (found q (node_entry whole r ∷ entries_in s))
      ∙ ap (λ (ns : List ℕ). first ++ ns) (sym (ap (found q) cut.listed ∙ found-append q (entries_in l) (node_entry whole r ∷ entries_in s)))

  pub looked_all : (q : WholeQuery) (nodes l : List (Node I)) (r : Node I) (s : List (Node I)) (r' : Node I) (s' : List (Node I)) (before after : List ℕ) (k m n : ℕ) (d d' : Bool) → IsCut nodes l r s →
      HasLooked q (entries_in l) k m → IsDone q r s r' s' before after m n d d' → HasLooked q (entries_in nodes) k n
  looked_all q nodes l r s r' s' before after k m n d d' cut h done =
      subst (λ es. HasLooked q es k n) (sym cut.listed)
      (looked_both q (entries_in l) (node_entry whole r ∷ entries_in s) k m n h done.looked_at
      (elim done.far [ inl near ↦ inl (within_reach_before q (node_entry whole r) (entries_in l) near cut.parted.before) | inr none ↦ inr none ]))

  pub dropped_all : (q : WholeQuery) (nodes l : List (Node I)) (r : Node I) (s : List (Node I)) (r' : Node I) (s' : List (Node I)) (before after : List ℕ) (m n : ℕ) (d d' : Bool) → IsCut nodes l r s →
      d ≡ list_any (is_dropped q) (entries_in l) → IsDone q r s r' s' before after m n d d' → d' ≡ list_any (is_dropped q) (entries_in nodes)
  dropped_all q nodes l r s r' s' before after m n d d' cut h done =
      done.dropped_in ∙ ap (λ (b : Bool). b || list_any (is_dropped q) (node_entry whole r ∷ entries_in s)) h
      ∙ sym (ap (list_any (is_dropped q)) cut.listed ∙ list_any-append (is_dropped q) (entries_in l) (node_entry whole r ∷ entries_in s))

  -- where nothing is dropped, the root holds the greatest height that it held
  pub still_greatest : (q : WholeQuery) (nodes l : List (Node I)) (r : Node I) (s l' : List (Node I)) (r' : Node I) (s' : List (Node I)) → IsCut nodes l r s → highest_of whole r'.greatest ≡ highest_of whole r.greatest →
      entries_in (l' ++ r' ∷ s') ≡ map (left_by q) (entries_in nodes) → list_any (is_dropped q) (entries_in nodes) ≡ false → highest_of whole r'.greatest ≡ greatest_height (entries_in l' ++ node_entry whole r' ∷ entries_in s')
  still_greatest q nodes l r s l' r' s' cut same left none =
      same ∙ cut.greatest_is ∙ ap greatest_height (sym (all_kept q (entries_in nodes) none) ∙ sym left ∙ entry_parts l' s' r')

  -- ---- an insertion

  -- what it makes of the parts
  pub record IsPut (index : ℕ) (l : List (Node I)) (r : Node I) (s : List (Node I)) (l' : List (Node I)) (r' : Node I) (s' : List (Node I)) : Type 0 where
    pub left_put : entries_in l' ≡ map (inserted index) (entries_in l)
    pub root_put : node_entry whole r' ≡ inserted index (node_entry whole r)
    pub right_put : entries_in s' ≡ map (inserted index) (entries_in s)
    pub left_summed : IsSummed (tree_nodes whole l')
    pub right_summed : IsSummed (tree_nodes whole s')

  -- the lows at which an index may be
  pub record AreAt (index : ℕ) (low : ℤ) (l : List (Node I)) (r : Node I) (s : List (Node I)) : Type 0 where
    pub left_at : AllByRecursion (IsAt index low) (entries_in l)
    pub root_at : IsAt index low (node_entry whole r)
    pub right_at : AllByRecursion (IsAt index low) (entries_in s)

  pub AreAt-from : (index : ℕ) (low : ℤ) (nodes l : List (Node I)) (r : Node I) (s : List (Node I)) → IsCut nodes l r s → AllByRecursion (IsAt index low) (entries_in nodes) → AreAt index low l r s
  AreAt-from index low nodes l r s cut h =
      let all = subst (AllByRecursion (IsAt index low)) cut.listed h in
      let rest = AllByRecursion_right (IsAt index low) (entries_in l) (node_entry whole r ∷ entries_in s) all in
      record { left_at = AllByRecursion_left (IsAt index low) (entries_in l) (node_entry whole r ∷ entries_in s) all; root_at = rest.0; right_at = rest.1 }

  -- whatever subtree it goes to, the raised root holds the greatest height
  pub greatest_put : (index : ℕ) (high : ℤ) (nodes l : List (Node I)) (r : Node I) (s l' : List (Node I)) (r' : Node I) (s' : List (Node I)) → IsCut nodes l r s → AllByRecursion (IsUpTo index high) (entries_in nodes) →
      list_any (is_of index) (entries_in nodes) ≡ true → highest_of whole r'.greatest ≡ further (highest_of whole r.greatest) (Some high) → entries_in (l' ++ r' ∷ s') ≡ map (inserted index) (entries_in nodes) →
      highest_of whole r'.greatest ≡ greatest_height (entries_in l' ++ node_entry whole r' ∷ entries_in s')
  greatest_put index high nodes l r s l' r' s' cut up there raised put =
      raised ∙ ap (λ (g : Option ℤ). further g (Some high)) cut.greatest_is ∙ greatest_height-inserted index high (entries_in nodes) up there ∙ ap greatest_height (sym put ∙ entry_parts l' s' r')

  -- where its entry is
  pub there_left : (index : ℕ) (low : ℤ) (nodes l : List (Node I)) (r : Node I) (s : List (Node I)) → IsCut nodes l r s → AllByRecursion (IsAt index low) (entries_in nodes) → is_before low index (node_entry whole r) ≡ true →
      list_any (is_of index) (entries_in nodes) ≡ true → list_any (is_of index) (entries_in l) ≡ true
  there_left index low nodes l r s cut h is there =
      let at = AreAt-from index low nodes l r s cut h in
      let off = none_of index (node_entry whole r ∷ entries_in s) (none_after low index (node_entry whole r) (entries_in s) is cut.parted.after (at.root_at, at.right_at)) in
      or_false (list_any (is_of index) (entries_in l)) ∙ ap (λ (b : Bool). list_any (is_of index) (entries_in l) || b) (sym off)
      ∙ sym (ap (list_any (is_of index)) cut.listed ∙ list_any-append (is_of index) (entries_in l) (node_entry whole r ∷ entries_in s)) ∙ there

  pub there_right : (index : ℕ) (low : ℤ) (nodes l : List (Node I)) (r : Node I) (s : List (Node I)) → IsCut nodes l r s → AllByRecursion (IsAt index low) (entries_in nodes) → (index ≡ r.index → ⊥) → is_before low index (node_entry whole r) ≡ false →
      list_any (is_of index) (entries_in nodes) ≡ true → list_any (is_of index) (entries_in s) ≡ true
  there_right index low nodes l r s cut h other is there =
      let at = AreAt-from index low nodes l r s cut h in
      let off = none_of index (entries_in l) (none_before low index (node_entry whole r) (entries_in l) is cut.parted.before at.left_at) in
      let own = false_from_ne_true (is_of index (node_entry whole r)) (λ t. other (sym (eqb-true r.index index t))) in
      sym (ap₂ (λ (a b : Bool). a || (b || list_any (is_of index) (entries_in s))) off own)
      ∙ sym (ap (list_any (is_of index)) cut.listed ∙ list_any-append (is_of index) (entries_in l) (node_entry whole r ∷ entries_in s)) ∙ there

  -- the heights up to which it may reach
  pub record AreUpTo (index : ℕ) (high : ℤ) (l s : List (Node I)) : Type 0 where
    pub left_up : AllByRecursion (IsUpTo index high) (entries_in l)
    pub right_up : AllByRecursion (IsUpTo index high) (entries_in s)

  pub AreUpTo-from : (index : ℕ) (high : ℤ) (nodes l : List (Node I)) (r : Node I) (s : List (Node I)) → IsCut nodes l r s → AllByRecursion (IsUpTo index high) (entries_in nodes) → AreUpTo index high l s
  AreUpTo-from index high nodes l r s cut h =
      let all = subst (AllByRecursion (IsUpTo index high)) cut.listed h in
      let rest = AllByRecursion_right (IsUpTo index high) (entries_in l) (node_entry whole r ∷ entries_in s) all in
      record { left_up = AllByRecursion_left (IsUpTo index high) (entries_in l) (node_entry whole r ∷ entries_in s) all; right_up = rest.1 }

  pub IsPut-root : (index : ℕ) (low : ℤ) (nodes l : List (Node I)) (r : Node I) (s : List (Node I)) (r' : Node I) → IsCut nodes l r s → AllByRecursion (IsAt index low) (entries_in nodes) → index ≡ r.index → node_entry whole r' ≡ record (node_entry whole r) { is_live = true } →
      IsPut index l r s l r' s
  IsPut-root index low nodes l r s r' cut h is e =
      let at = AreAt-from index low nodes l r s cut h in
      record {
        left_put = sym (none_inserted index (entries_in l) (none_other_before index low (node_entry whole r) (entries_in l) (sym is) at.root_at cut.parted.before at.left_at));
        root_put = e ∙ ap (λ (b : Bool). record (node_entry whole r) { is_live = b }) (sym (or_right r.is_live (r.index == index) (eq-eqb r.index index (sym is))));
        right_put = sym (none_inserted index (entries_in s) (none_other_after index low (node_entry whole r) (entries_in s) (sym is) at.root_at cut.parted.after at.right_at));
        left_summed = cut.rooted.left_summed;
        right_summed = cut.rooted.right_summed;
      }

  pub IsPut-left : (index : ℕ) (low : ℤ) (nodes l : List (Node I)) (r : Node I) (s l' : List (Node I)) (r' : Node I) → IsCut nodes l r s → AllByRecursion (IsAt index low) (entries_in nodes) → node_entry whole r' ≡ node_entry whole r →
      is_before low index (node_entry whole r) ≡ true → entries_in l' ≡ map (inserted index) (entries_in l) → IsSummed (tree_nodes whole l') → IsPut index l r s l' r' s
  IsPut-left index low nodes l r s l' r' cut h raised is e hl =
      let at = AreAt-from index low nodes l r s cut h in
      let same = none_inserted index (node_entry whole r ∷ entries_in s) (none_after low index (node_entry whole r) (entries_in s) is cut.parted.after (at.root_at, at.right_at)) in
      record { left_put = e; root_put = raised ∙ cc; right_put = cc; left_summed = hl; right_summed = cut.rooted.right_summed }

  pub IsPut-right : (index : ℕ) (low : ℤ) (nodes l : List (Node I)) (r : Node I) (s : List (Node I)) (r' : Node I) (s' : List (Node I)) → IsCut nodes l r s → AllByRecursion (IsAt index low) (entries_in nodes) → node_entry whole r' ≡ node_entry whole r →
      (index ≡ r.index → ⊥) → is_before low index (node_entry whole r) ≡ false → entries_in s' ≡ map (inserted index) (entries_in s) → IsSummed (tree_nodes whole s') → IsPut index l r s l r' s'
  IsPut-right index low nodes l r s r' s' cut h raised other is e hs =
      let at = AreAt-from index low nodes l r s cut h in
      record {
        left_put = sym (none_inserted index (entries_in l) (none_before low index (node_entry whole r) (entries_in l) is cut.parted.before at.left_at));
        root_put = raised ∙ sym (not_here index (node_entry whole r) (λ k. other (sym k)));
        right_put = e;
        left_summed = cut.rooted.left_summed;
        right_summed = hs;
      }

  -- ---- a look at one entry after another

  pub length-entries : (nodes : List (Node I)) → length (entries_in nodes) ≡ length nodes
  length-entries nodes = length-map (tree_nodes whole nodes) (λ n. n.entry) ∙ length-map nodes (node_of whole)

  pub entries-next : (nodes : List (Node I)) (j : ℕ) (n : Node I) → j < length nodes → n ≡ get_or nodes j n → drop j (entries_in nodes) ≡ node_entry whole n ∷ drop (j + 1) (entries_in nodes)
  entries-next [] j n lt e = absurd (omega arith)
  entries-next (x ∷ nodes) zero n lt e = ap (λ (u : Node I). node_entry whole u ∷ entries_in nodes) (sym e)
  entries-next (x ∷ nodes) (suc j) n lt e = entries-next nodes j n (omega arith) e ∙ ap (λ (k : ℕ). node_entry whole n ∷ drop k (entries_in (x ∷ nodes))) (let m : suc (j + 1) ≡ suc j + 1 = omega arith in m)

  pub entries-none : (nodes : List (Node I)) (j : ℕ) → length nodes ≤ j → drop j (entries_in nodes) ≡ []
  entries-none [] zero le = refl
  entries-none [] (suc j) le = refl
  entries-none (x ∷ nodes) zero le = absurd (omega arith)
  entries-none (x ∷ nodes) (suc j) le = entries-none nodes j (omega arith)

-- what is found and what is left to look at make up the whole, and so do the looks, one at each
pub record IsLookedThrough (q : WholeQuery) (es : List Entry) (first now : List ℕ) (old looked : ℕ) (left : List Entry) : Type 0 where
  pub fits : looked ≤ 2 ^ 128 - 1
  pub all : now ++ found q left ≡ first ++ found q es
  pub count : min (looked + length left) (2 ^ 128 - 1) ≡ min (old + length es) (2 ^ 128 - 1)

pub IsLookedThrough-more : (q : WholeQuery) (es : List Entry) (e : Entry) (first now next : List ℕ) (old looked after : ℕ) (left : List Entry) → IsLookedThrough q es first now old looked (e ∷ left) →
    next ≡ now ++ found q (e ∷ []) → after ≡ min (looked + 1) (2 ^ 128 - 1) → IsLookedThrough q es first next old after left
IsLookedThrough-more q es e first now next old looked after left w n h = record {
  fits = below after _ (2 ^ 128 - 1) h;
  all = ap (λ (is : List ℕ). is ++ found q left) n ∙ append_assoc now (found q (e ∷ [])) (found q left) ∙ ap (λ (is : List ℕ). now ++ is) (sym (found-append q (e ∷ []) left)) ∙ w.all;
  count = ap (λ (m : ℕ). min (m + length left) (2 ^ 128 - 1)) h ∙ twice looked 1 (length left) (length (e ∷ left)) (2 ^ 128 - 1) (one_longer (length left)) ∙ w.count;
}
  where
    below : (m n w : ℕ) → m ≡ min n w → m ≤ w
    below m n w e = omega arith

    one_longer : (n : ℕ) → suc n ≡ 1 + n
    one_longer n = omega arith

pub IsLookedThrough-end : (q : WholeQuery) (es : List Entry) (first now : List ℕ) (old looked : ℕ) (left : List Entry) → IsLookedThrough q es first now old looked left → left ≡ [] →
    (now ≡ first ++ found q es) × (looked ≡ min (old + length es) (2 ^ 128 - 1))
IsLookedThrough-end q es first now old looked left w e =
    let all = rw e at w.all in
    let count = rw e at w.count in
    (sym (append-nil now) ∙ all, none_left looked _ (2 ^ 128 - 1) w.fits count)
  where
    none_left : (m n w : ℕ) → m ≤ w → min (m + 0) w ≡ n → m ≡ n
    none_left m n w le e = omega arith
