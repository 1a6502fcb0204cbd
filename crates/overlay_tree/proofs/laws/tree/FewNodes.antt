-- A look-up that passes over nodes one by one: what it has made of the first of them.
use Rattle.std.proofs.Common.{◌≡◌, refl, sym, ap, ap₂, get_or, ◌∙◌, arith, add-one, append_assoc, append-nil}
use Rattle.std.specs.Prelude.{ℕ, zero, suc, ◌+◌, ◌<◌, ◌≤◌, ◌||◌, ℤ, Bool, false, List, [], ◌∷◌, ◌++◌, map, take, drop, length}
use Rattle.std.specs.List.{list_any}
use Rattle.std.proofs.lemmas.Bool.{or_parts}
use Rattle.std.proofs.lemmas.List.{length-append, length-map, length-take-le, map-append, take-append-drop, take_all, drop_all}
use Rattle.std.proofs.Math.Bool.{or-false}
use Rattle.std.proofs.Math.ListN.{set}
use Rattle.std.proofs.lemmas.List.Folds.{list_any-append}
use Rattle.overlay_tree.specs.steps.IntervalTree.{Entry, WholeQuery, is_dropped, left_by, found}
use Rattle.overlay_tree.specs.steps.NodeOf.{node_entry, node_of, tree_nodes, highest_of}
use Rattle.overlay_tree.specs.declared.split.interval_tree.Node.{Node}
use Rattle.overlay_tree.proofs.laws.tree.IntervalTrees.{kept, found-append}
use Rattle.overlay_tree.proofs.laws.tree.TreeCuts.{entries_in, entry_parts, length-entries}

module _ {I : Type 0} (whole : I → ℤ) where
  pub record IsPassing (q : WholeQuery) (old now : List (Node I)) (place : ℕ) (first indexes : List ℕ) (d : Bool) : Type 0 where
    pub left : entries_in whole now ≡ map (left_by q) (take place (entries_in whole old)) ++ drop place (entries_in whole old)
    pub found_in : indexes ≡ first ++ found q (take place (entries_in whole old))
    pub dropped_in : d ≡ list_any (is_dropped q) (take place (entries_in whole old))
    pub same : d ≡ false → tree_nodes whole now ≡ tree_nodes whole old

  -- ---- one node more

  -- equal lists with parts of one length before an element have equal parts
  seam : {X : Type 0} (xs ys zs ws : List X) (x y : X) → length xs ≡ length zs → xs ++ x ∷ ys ≡ zs ++ y ∷ ws → (xs ≡ zs) × (x ≡ y) × (ys ≡ ws)
  seam [] ys [] ws x y n e = (refl, cc, cc)
  seam [] ys (z ∷ zs) ws x y n e = absurd (omega (arith, n))
  seam (x' ∷ xs) ys [] ws x y n e = absurd (omega (arith, n))
  seam (x' ∷ xs) ys (z ∷ zs) ws x y n e =
      let head : x' ≡ z = cc in
      let rest : xs ++ x ∷ ys ≡ zs ++ y ∷ ws = cc in
      let s = seam xs ys zs ws x y (omega (arith, n)) rest in
      (ap₂ (λ a l. a ∷ l) head s.0, s.1, s.2)

  set_parts : {X : Type 0} (xs : List X) (i : ℕ) (x y : X) → i < length xs → x ≡ get_or xs i x → (xs ≡ take i xs ++ x ∷ drop (suc i) xs) × (set xs i y ≡ take i xs ++ y ∷ drop (suc i) xs)
  set_parts [] i x y h e = absurd (omega (arith, h))
  set_parts (z ∷ xs) zero x y h e = (cc, refl)
  set_parts (z ∷ xs) (suc i) x y h e = let s = set_parts xs i x y (omega (arith, h)) e in (ap (λ l. z ∷ l) s.0, ap (λ l. z ∷ l) s.1)

  take_one : {X : Type 0} (xs : List X) (i : ℕ) → i < length xs → (x : X) × (drop i xs ≡ x ∷ drop (suc i) xs) × (take (suc i) xs ≡ take i xs ++ x ∷ [])
  take_one [] i h = absurd (omega (arith, h))
  take_one (z ∷ xs) zero h = (z, refl, refl)
  take_one (z ∷ xs) (suc i) h = let t = take_one xs i (omega (arith, h)) in (t.0, t.1, ap (λ l. z ∷ l) t.2)

  length-passed : (q : WholeQuery) (es : List Entry) (i : ℕ) → i ≤ length es → length (map (left_by q) (take i es)) ≡ i
  length-passed q es i h = length-map (take i es) (left_by q) ∙ length-take-le i es h

  module _ (q : WholeQuery) (old now : List (Node I)) (place : ℕ) (first indexes : List ℕ) (d : Bool) (s : IsPassing q old now place first indexes d) where
    same_count : length now ≡ length old
    same_count =
        let whole_list = ap (λ l. length l) s.left in
        let parts = length-append (map (left_by q) (take place (entries_in whole old))) (drop place (entries_in whole old)) in
        let front = length-map (take place (entries_in whole old)) (left_by q) in
        let all = ap (λ l. length l) (take-append-drop place (entries_in whole old)) in
        let split = length-append (take place (entries_in whole old)) (drop place (entries_in whole old)) in
        let here = length-entries whole now in
        let there = length-entries whole old in
        omega (arith, whole_list, parts, front, all, split, here, there)

    pub passes : place < length old → (more : List ℕ) (b : Bool) (node node' : Node I) → node ≡ get_or now place node → node_entry whole node' ≡ left_by q (node_entry whole node) → node'.greatest ≡ node.greatest →
        more ≡ indexes ++ found q (node_entry whole node ∷ []) → b ≡ is_dropped q (node_entry whole node) →
        IsPassing q old (set now place node') (place + 1) first more (d || b)
    passes h more b node node' at entry greatest found_more dropped =
        let es : List Entry = entries_in whole old in
        let inside : place < length es = omega (arith, h, length-entries whole old) in
        let u = take_one es place inside in
        let next : place + 1 ≡ suc place = add-one place in
        let t : (x : Entry) × (drop place es ≡ x ∷ drop (place + 1) es) × (take (place + 1) es ≡ take place es ++ x ∷ []) = (u.0, rw next u.1, rw next u.2) in
        let parts = set_parts now place node node' (omega (arith, h, same_count)) at in
        let front : length (entries_in whole (take place now)) ≡ length (map (left_by q) (take place es)) =
        length-entries whole (take place now) ∙ length-take-le place now (omega (arith, h, same_count)) ∙ sym (length-passed q es place (omega (arith, inside))) in
        let cut : entries_in whole (take place now) ++ node_entry whole node ∷ entries_in whole (drop (suc place) now) ≡ map (left_by q) (take place es) ++ t.0 ∷ drop (place + 1) es =
        sym (ap (entries_in whole) parts.0 ∙ entry_parts whole (take place now) (drop (suc place) now) node) ∙ s.left ∙ ap (λ l. map (left_by q) (take place es) ++ l) t.1 in
        let same_parts = seam _ _ _ _ _ _ front cut in
        let one : take (place + 1) es ≡ take place es ++ node_entry whole node ∷ [] = t.2 ∙ ap (λ e. take place es ++ e ∷ []) (sym same_parts.1) in record {
          left =
              ap (entries_in whole) parts.1 ∙ entry_parts whole (take place now) (drop (suc place) now) node'
              ∙ ap₂ (λ l r. l ++ node_entry whole node' ∷ r) same_parts.0 same_parts.2
              ∙ ap (λ e. map (left_by q) (take place es) ++ e ∷ drop (place + 1) es) entry
              ∙ sym (append_assoc (map (left_by q) (take place es)) (left_by q (node_entry whole node) ∷ []) (drop (place + 1) es))
              ∙ ap (λ l. l ++ drop (place + 1) es) (sym (ap (map (left_by q)) one ∙ map-append (left_by q) (take place es) (node_entry whole node ∷ [])));
          found_in = found_more ∙ ap (λ l. l ++ found q (node_entry whole node ∷ [])) s.found_in ∙ append_assoc first (found q (take place es)) (found q (node_entry whole node ∷ [])) ∙ ap (λ l. first ++ l) (sym (ap (found q) one ∙ found-append q (take place es) (node_entry whole node ∷ [])));
          dropped_in = ap₂ (λ x y. x || y) s.dropped_in (dropped ∙ sym (or-false _)) ∙ sym (ap (list_any (is_dropped q)) one ∙ list_any-append (is_dropped q) (take place es) (node_entry whole node ∷ []));
          same = λ none.
              let both = or_parts d b none in
              let stays : node_entry whole node' ≡ node_entry whole node = entry ∙ kept q (node_entry whole node) (sym dropped ∙ both.1) in
              let node_same : node_of whole node' ≡ node_of whole node = ap₂ (λ e h. record { entry = e; greatest = highest_of whole h }) stays greatest in
              ap (tree_nodes whole) parts.1 ∙ map-append (node_of whole) (take place now) (node' ∷ drop (suc place) now)
              ∙ ap (λ x. tree_nodes whole (take place now) ++ x ∷ tree_nodes whole (drop (suc place) now)) node_same
              ∙ sym (ap (tree_nodes whole) parts.0 ∙ map-append (node_of whole) (take place now) (node ∷ drop (suc place) now)) ∙ s.same both.0;
        }

    -- past the last node
    all_taken : length old ≤ place → take place (entries_in whole old) ≡ entries_in whole old
    all_taken h = take_all place (entries_in whole old) (omega (arith, h, length-entries whole old))

    pub passed_entries : length old ≤ place → entries_in whole now ≡ map (left_by q) (entries_in whole old)
    passed_entries h =
        s.left ∙ ap₂ (λ x y. map (left_by q) x ++ y) (all_taken h) (drop_all place (entries_in whole old) (omega (arith, h, length-entries whole old))) ∙ append-nil _

    pub passed_found : length old ≤ place → indexes ≡ first ++ found q (entries_in whole old)
    passed_found h = s.found_in ∙ ap (λ l. first ++ found q l) (all_taken h)

    pub passed_dropped : length old ≤ place → d ≡ list_any (is_dropped q) (entries_in whole old)
    passed_dropped h = s.dropped_in ∙ ap (list_any (is_dropped q)) (all_taken h)
