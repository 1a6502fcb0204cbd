-- Data that means lists of numbers means, after a split, the numbers that are gathered.
use Rattle.std.proofs.Common.{◌≡◌, ◌∙◌, sym, ap, ap₂, subst, ℕ, zero, suc, Bool, true, false, List, [], ◌∷◌, ◌++◌, filter, take, drop, flat_map, refl}
use Rattle.std.specs.Prelude.{⊤}
use Rattle.std.specs.Ordering.{is_lt}
use Rattle.overlay_geometry.specs.Points.{Point, Pair, point_lt, pair_cmp, pair_eq}
use Rattle.overlay_geometry.specs.Sorting.{insert_before_ties, stably_sorted}
use Rattle.overlay_base.specs.Windings.{Winding, add, is_not_empty}
use Rattle.overlay_base.specs.EdgeData.{DataSegment, SplitCall, MergeCall, Hooks, without_data, data_piece, merged, merge_runs, merge_sorted, data_join}
use Rattle.overlay_base.specs.Segments.{WholeSegment}
use Rattle.overlay_intersections.specs.Marks.{Placing}
use Rattle.overlay_intersections.specs.PassMarks.{marks_on}
use Rattle.overlay_cuts.specs.Path.{path_from, columns_of}
use Rattle.overlay_cuts.specs.Run.{Settings, placing_of_pass}
use Rattle.overlay_cuts.specs.DataPass.{data_pieces, data_pieces_of_each, data_cut_by, data_pass_by, data_pass, data_after_passes}
use Rattle.i_overlay.specs.LineNumbers.{gathering}

-- Data means a list of numbers, given a store, and means it however the store goes on; and hooks gather what data means.
pub record HooksGather {D S : Type 0} (hooks : Hooks D S) (Means : S → D → List ℕ → Type 0) (GoesOn : S → S → Type 0) : Type 0 where
  pub same : (s : S) → GoesOn s s
  pub on : (s t u : S) → GoesOn s t → GoesOn t u → GoesOn s u
  pub later : (s t : S) (d : D) (l : List ℕ) → GoesOn s t → Means s d l → Means t d l
  pub reversed : (d : D) (s : S) (l : List ℕ) → Means s d l → GoesOn s (hooks.reversed d s).1 × Means (hooks.reversed d s).1 (hooks.reversed d s).0 l
  pub split : (call : SplitCall D) (s : S) (l : List ℕ) → Means s call.edge_data l
      → GoesOn s (hooks.split call s).1 × Means (hooks.split call s).1 (hooks.split call s).0.0 l × Means (hooks.split call s).1 (hooks.split call s).0.1 l
  pub merge : (call : MergeCall D) (s : S) (l m : List ℕ) → Means s call.lhs_data l → Means s call.rhs_data m
      → GoesOn s (hooks.merge call s).1 × Means (hooks.merge call s).1 (hooks.merge call s).0 (l ++ m)

module _ {D S : Type 0} (hooks : Hooks D S) (Means : S → D → List ℕ → Type 0) (GoesOn : S → S → Type 0) (gather : HooksGather hooks Means GoesOn) where
  -- ---- segments one by one

  -- a segment is another one but for its data, which means the other's
  pub record Same (s : S) (x : DataSegment D) (y : DataSegment (List ℕ)) : Type 0 where
    pub pair : x.pair ≡ y.pair
    pub count : x.count ≡ y.count
    pub edge_data : Means s x.edge_data y.edge_data

  unfoldable pub AreSame : S → List (DataSegment D) → List (DataSegment (List ℕ)) → Type 0
  AreSame s [] [] = ⊤
  AreSame s [] (y ∷ ys) = ⊥
  AreSame s (x ∷ xs) [] = ⊥
  AreSame s (x ∷ xs) (y ∷ ys) = Same s x y × AreSame s xs ys

  same_later : (s t : S) (x : DataSegment D) (y : DataSegment (List ℕ)) → GoesOn s t → Same s x y → Same t x y
  same_later s t x y on h = record { pair = h.pair; count = h.count; edge_data = gather.later s t x.edge_data y.edge_data on h.edge_data }

  are_later : (s t : S) (xs : List (DataSegment D)) (ys : List (DataSegment (List ℕ))) → GoesOn s t → AreSame s xs ys → AreSame t xs ys
  unfolding AreSame
  are_later s t [] [] on h = tt
  are_later s t [] (y ∷ ys) on h = h
  are_later s t (x ∷ xs) [] on h = h
  are_later s t (x ∷ xs) (y ∷ ys) on h = (same_later s t x y on h.0, are_later s t xs ys on h.1)

  -- ---- lists

  same_pairs : (s : S) (xs : List (DataSegment D)) (ys : List (DataSegment (List ℕ))) → AreSame s xs ys → without_data xs ≡ without_data ys
  unfolding AreSame
  same_pairs s [] [] h = refl
  same_pairs s [] (y ∷ ys) h = absurd h
  same_pairs s (x ∷ xs) [] h = absurd h
  same_pairs s (x ∷ xs) (y ∷ ys) h =
      let bare : ◌≡◌ {A = WholeSegment} (record { pair = x.pair; count = x.count }) (record { pair = y.pair; count = y.count }) = λ i. record { pair = h.0.pair i; count = h.0.count i } in
      ap₂ (λ (r : WholeSegment) (rs : List WholeSegment). r ∷ rs) bare (same_pairs s xs ys h.1)

  same_append : (s : S) (xs : List (DataSegment D)) (ys : List (DataSegment (List ℕ))) (xs' : List (DataSegment D)) (ys' : List (DataSegment (List ℕ))) → AreSame s xs ys → AreSame s xs' ys' → AreSame s (xs ++ xs') (ys ++ ys')
  unfolding AreSame
  same_append s [] [] xs' ys' h k = k
  same_append s [] (y ∷ ys) xs' ys' h k = absurd h
  same_append s (x ∷ xs) [] xs' ys' h k = absurd h
  same_append s (x ∷ xs) (y ∷ ys) xs' ys' h k = (h.0, same_append s xs ys xs' ys' h.1 k)

  same_kept : (s : S) (xs : List (DataSegment D)) (ys : List (DataSegment (List ℕ))) → AreSame s xs ys → AreSame s (filter (λ x. is_not_empty x.count) xs) (filter (λ y. is_not_empty y.count) ys)
  unfolding AreSame
  same_kept s [] [] h = tt
  same_kept s [] (y ∷ ys) h = absurd h
  same_kept s (x ∷ xs) [] h = absurd h
  same_kept s (x ∷ xs) (y ∷ ys) h = by (is_not_empty x.count) refl (same_kept s xs ys h.1)
    where
      by : (b : Bool) → is_not_empty x.count ≡ b → AreSame s (filter (λ x. is_not_empty x.count) xs) (filter (λ y. is_not_empty y.count) ys)
          → AreSame s (filter (λ x. is_not_empty x.count) (x ∷ xs)) (filter (λ y. is_not_empty y.count) (y ∷ ys))
      by true e k = rw (e, sym (ap (λ (c : Winding). is_not_empty c) h.0.count) ∙ e) (h.0, k)
      by false e k = rw (e, sym (ap (λ (c : Winding). is_not_empty c) h.0.count) ∙ e) k

  same_insert : (s : S) (x : DataSegment D) (y : DataSegment (List ℕ)) (xs : List (DataSegment D)) (ys : List (DataSegment (List ℕ))) → Same s x y → AreSame s xs ys
      → AreSame s (insert_before_ties (λ s t. pair_cmp s.pair t.pair) x xs) (insert_before_ties (λ s t. pair_cmp s.pair t.pair) y ys)
  unfolding AreSame insert_before_ties
  same_insert s x y [] [] h k = (h, tt)
  same_insert s x y [] (y' ∷ ys) h k = absurd k
  same_insert s x y (x' ∷ xs) [] h k = absurd k
  same_insert s x y (x' ∷ xs) (y' ∷ ys) h k = by (is_lt (pair_cmp x'.pair x.pair)) refl (same_insert s x y xs ys h k.1)
    where
      by : (b : Bool) → is_lt (pair_cmp x'.pair x.pair) ≡ b → AreSame s (insert_before_ties (λ s t. pair_cmp s.pair t.pair) x xs) (insert_before_ties (λ s t. pair_cmp s.pair t.pair) y ys)
          → AreSame s (insert_before_ties (λ s t. pair_cmp s.pair t.pair) x (x' ∷ xs)) (insert_before_ties (λ s t. pair_cmp s.pair t.pair) y (y' ∷ ys))
      by true e rest = rw (e, sym (ap₂ (λ (p q : Pair). is_lt (pair_cmp p q)) k.0.pair h.pair) ∙ e) (k.0, rest)
      by false e rest = rw (e, sym (ap₂ (λ (p q : Pair). is_lt (pair_cmp p q)) k.0.pair h.pair) ∙ e) (h, k)

  same_sorted : (s : S) (xs : List (DataSegment D)) (ys : List (DataSegment (List ℕ))) → AreSame s xs ys → AreSame s (stably_sorted (λ s t. pair_cmp s.pair t.pair) xs) (stably_sorted (λ s t. pair_cmp s.pair t.pair) ys)
  unfolding AreSame stably_sorted
  same_sorted s [] [] h = tt
  same_sorted s [] (y ∷ ys) h = absurd h
  same_sorted s (x ∷ xs) [] h = absurd h
  same_sorted s (x ∷ xs) (y ∷ ys) h = same_insert s x y (stably_sorted (λ s t. pair_cmp s.pair t.pair) xs) (stably_sorted (λ s t. pair_cmp s.pair t.pair) ys) h.0 (same_sorted s xs ys h.1)

  -- ---- joins

  same_piece : (count : Winding) (p q : Point) (d : D) (l : List ℕ) (s : S) → Means s d l
      → GoesOn s (data_piece hooks count p q d s).1 × Same (data_piece hooks count p q d s).1 (data_piece hooks count p q d s).0 (data_piece gathering count p q l tt).0
  unfolding data_piece
  same_piece count p q d l s h = by (point_lt p q) refl
    where
      by : (b : Bool) → point_lt p q ≡ b → GoesOn s (data_piece hooks count p q d s).1 × Same (data_piece hooks count p q d s).1 (data_piece hooks count p q d s).0 (data_piece gathering count p q l tt).0
      by true e = rw (e, data_piece) (gather.same s, record { pair = refl; count = refl; edge_data = h })
      by false e = let turned = gather.reversed d s l h in rw (e, data_piece) (turned.0, record { pair = refl; count = refl; edge_data = turned.1 })

  same_merged : (x x' : DataSegment D) (y y' : DataSegment (List ℕ)) (s : S) → Same s x y → Same s x' y'
      → GoesOn s (merged hooks x x' s).1 × Same (merged hooks x x' s).1 (merged hooks x x' s).0 (merged gathering y y' tt).0
  unfolding merged
  same_merged x x' y y' s h k =
      let call : MergeCall D = record { lhs_data = x.edge_data; lhs_count = x.count; rhs_data = x'.edge_data; rhs_count = x'.count; out_count = add x.count x'.count } in
      let made = gather.merge call s y.edge_data y'.edge_data h.edge_data k.edge_data in
      (made.0, record { pair = h.pair; count = ap₂ (λ (c d : Winding). add c d) h.count k.count; edge_data = made.1 })

  same_runs : (x : DataSegment D) (y : DataSegment (List ℕ)) (xs : List (DataSegment D)) (ys : List (DataSegment (List ℕ))) (s : S) → Same s x y → AreSame s xs ys
      → GoesOn s (merge_runs hooks x xs s).1 × AreSame (merge_runs hooks x xs s).1 (merge_runs hooks x xs s).0 (merge_runs gathering y ys tt).0
  unfolding merge_runs AreSame
  same_runs x y [] [] s h k = (gather.same s, (h, tt))
  same_runs x y [] (y' ∷ ys) s h k = absurd k
  same_runs x y (x' ∷ xs) [] s h k = absurd k
  same_runs x y (x' ∷ xs) (y' ∷ ys) s h k =
      let joined = same_merged x x' y y' s h k.0 in
      let s' = (merged hooks x x' s).1 in
      let more = same_runs (merged hooks x x' s).0 (merged gathering y y' tt).0 xs ys s' joined.1 (are_later s s' xs ys joined.0 k.1) in
      by (pair_eq x.pair x'.pair) refl (gather.on s s' _ joined.0 more.0, more.1) (same_runs x' y' xs ys s k.0 k.1)
    where
      by : (b : Bool) → pair_eq x.pair x'.pair ≡ b
          → GoesOn s (merge_runs hooks (merged hooks x x' s).0 xs (merged hooks x x' s).1).1 × AreSame (merge_runs hooks (merged hooks x x' s).0 xs (merged hooks x x' s).1).1 (merge_runs hooks (merged hooks x x' s).0 xs (merged hooks x x' s).1).0 (merge_runs gathering (merged gathering y y' tt).0 ys tt).0
          → GoesOn s (merge_runs hooks x' xs s).1 × AreSame (merge_runs hooks x' xs s).1 (merge_runs hooks x' xs s).0 (merge_runs gathering y' ys tt).0
          → GoesOn s (merge_runs hooks x (x' ∷ xs) s).1 × AreSame (merge_runs hooks x (x' ∷ xs) s).1 (merge_runs hooks x (x' ∷ xs) s).0 (merge_runs gathering y (y' ∷ ys) tt).0
      by true e joined rest = rw (e, sym (ap₂ (λ (p q : Pair). pair_eq p q) h.pair k.0.pair) ∙ e, merge_runs) joined
      by false e joined rest = rw (e, sym (ap₂ (λ (p q : Pair). pair_eq p q) h.pair k.0.pair) ∙ e, merge_runs) (rest.0, (same_later s _ x y rest.0 h, rest.1))

  same_merge : (xs : List (DataSegment D)) (ys : List (DataSegment (List ℕ))) (s : S) → AreSame s xs ys → GoesOn s (merge_sorted hooks xs s).1 × AreSame (merge_sorted hooks xs s).1 (merge_sorted hooks xs s).0 (merge_sorted gathering ys tt).0
  unfolding merge_sorted AreSame
  same_merge [] [] s h = (gather.same s, tt)
  same_merge [] (y ∷ ys) s h = absurd h
  same_merge (x ∷ xs) [] s h = absurd h
  same_merge (x ∷ xs) (y ∷ ys) s h = same_runs x y xs ys s h.0 h.1

  pub same_join : (xs : List (DataSegment D)) (ys : List (DataSegment (List ℕ))) (s : S) → AreSame s xs ys → GoesOn s (data_join hooks xs s).1 × AreSame (data_join hooks xs s).1 (data_join hooks xs s).0 (data_join gathering ys tt).0
  unfolding data_join
  same_join xs ys s h =
      let all = same_merge (stably_sorted (λ s t. pair_cmp s.pair t.pair) xs) (stably_sorted (λ s t. pair_cmp s.pair t.pair) ys) s (same_sorted s xs ys h) in
      (all.0, same_kept _ (merge_sorted hooks (stably_sorted (λ s t. pair_cmp s.pair t.pair) xs) s).0 (merge_sorted gathering (stably_sorted (λ s t. pair_cmp s.pair t.pair) ys) tt).0 all.1)

  -- ---- cuts

  same_pieces : (count : Winding) (p : Point) (points : List Point) (b : Point) (d : D) (l : List ℕ) (s : S) → Means s d l
      → GoesOn s (data_pieces hooks count p points b d s).1 × AreSame (data_pieces hooks count p points b d s).1 (data_pieces hooks count p points b d s).0 (data_pieces gathering count p points b l tt).0
  unfolding data_pieces AreSame
  same_pieces count p [] b d l s h = (gather.same s, tt)
  same_pieces count p (q ∷ []) b d l s h = let last = same_piece count p q d l s h in (last.0, (last.1, tt))
  same_pieces count p (q ∷ r ∷ points) b d l s h =
      let call : SplitCall D = record { edge_data = d; a = p; p = q; b = b } in
      let parts = gather.split call s l h in
      let s1 = (hooks.split call s).1 in
      let first = same_piece count p q (hooks.split call s).0.0 l s1 parts.1 in
      let s2 = (data_piece hooks count p q (hooks.split call s).0.0 s1).1 in
      let rest = same_pieces count q (r ∷ points) b (hooks.split call s).0.1 l s2 (gather.later s1 s2 (hooks.split call s).0.1 l first.0 parts.2) in
      let s3 = (data_pieces hooks count q (r ∷ points) b (hooks.split call s).0.1 s2).1 in
      (gather.on s s1 s3 parts.0 (gather.on s1 s2 s3 first.0 rest.0), (same_later s2 s3 _ _ rest.0 first.1, rest.1))

  AreAllSame : S → List (List (DataSegment D)) → List (List (DataSegment (List ℕ))) → Type 0
  AreAllSame s [] [] = ⊤
  AreAllSame s [] (ys ∷ yss) = ⊥
  AreAllSame s (xs ∷ xss) [] = ⊥
  AreAllSame s (xs ∷ xss) (ys ∷ yss) = AreSame s xs ys × AreAllSame s xss yss

  -- the pieces of a segment, and of the same with numbers
  same_here : (marks : Pair → List Point) (x : DataSegment D) (y : DataSegment (List ℕ)) (s : S) → Same s x y
      → GoesOn s (data_pieces hooks x.count x.pair.a (path_from x.pair.a (columns_of (marks x.pair)) x.pair.b) x.pair.b x.edge_data s).1
      × AreSame (data_pieces hooks x.count x.pair.a (path_from x.pair.a (columns_of (marks x.pair)) x.pair.b) x.pair.b x.edge_data s).1
      (data_pieces hooks x.count x.pair.a (path_from x.pair.a (columns_of (marks x.pair)) x.pair.b) x.pair.b x.edge_data s).0
      (data_pieces gathering y.count y.pair.a (path_from y.pair.a (columns_of (marks y.pair)) y.pair.b) y.pair.b y.edge_data tt).0
  same_here marks x y s h =
      let made = data_pieces hooks x.count x.pair.a (path_from x.pair.a (columns_of (marks x.pair)) x.pair.b) x.pair.b x.edge_data s in
      let base = same_pieces x.count x.pair.a (path_from x.pair.a (columns_of (marks x.pair)) x.pair.b) x.pair.b x.edge_data y.edge_data s h.edge_data in
      let counted = subst (λ (c : Winding). AreSame made.1 made.0 (data_pieces gathering c x.pair.a (path_from x.pair.a (columns_of (marks x.pair)) x.pair.b) x.pair.b y.edge_data tt).0) h.count base.1 in
      (base.0, subst (λ (q : Pair). AreSame made.1 made.0 (data_pieces gathering y.count q.a (path_from q.a (columns_of (marks q)) q.b) q.b y.edge_data tt).0) h.pair counted)

  same_each : (marks : Pair → List Point) (xs : List (DataSegment D)) (ys : List (DataSegment (List ℕ))) (s : S) → AreSame s xs ys
      → GoesOn s (data_pieces_of_each hooks marks xs s).1 × AreAllSame (data_pieces_of_each hooks marks xs s).1 (data_pieces_of_each hooks marks xs s).0 (data_pieces_of_each gathering marks ys tt).0
  unfolding data_pieces_of_each AreSame AreAllSame
  same_each marks [] [] s h = (gather.same s, tt)
  same_each marks [] (y ∷ ys) s h = absurd h
  same_each marks (x ∷ xs) [] s h = absurd h
  same_each marks (x ∷ xs) (y ∷ ys) s h =
      let here = same_here marks x y s h.0 in
      let s1 = (data_pieces hooks x.count x.pair.a (path_from x.pair.a (columns_of (marks x.pair)) x.pair.b) x.pair.b x.edge_data s).1 in
      let rest = same_each marks xs ys s1 (are_later s s1 xs ys here.0 h.1) in
      let s2 = (data_pieces_of_each hooks marks xs s1).1 in
      (gather.on s s1 s2 here.0 rest.0, (are_later s1 s2 _ _ rest.0 here.1, rest.1))

  same_firsts : (s : S) (xss : List (List (DataSegment D))) (yss : List (List (DataSegment (List ℕ)))) → AreAllSame s xss yss → AreSame s (flat_map (λ xs. take 1 xs) xss) (flat_map (λ ys. take 1 ys) yss)
  unfolding AreAllSame AreSame
  same_firsts s [] [] h = tt
  same_firsts s [] (ys ∷ yss) h = absurd h
  same_firsts s (xs ∷ xss) [] h = absurd h
  same_firsts s (xs ∷ xss) (ys ∷ yss) h = same_append s (take 1 xs) (take 1 ys) (flat_map (λ xs. take 1 xs) xss) (flat_map (λ ys. take 1 ys) yss) (one xs ys h.0) (same_firsts s xss yss h.1)
    where
      one : (xs : List (DataSegment D)) (ys : List (DataSegment (List ℕ))) → AreSame s xs ys → AreSame s (take 1 xs) (take 1 ys)
      one [] [] h = tt
      one [] (y ∷ ys) h = absurd h
      one (x ∷ xs) [] h = absurd h
      one (x ∷ xs) (y ∷ ys) h = (h.0, tt)

  same_others : (s : S) (xss : List (List (DataSegment D))) (yss : List (List (DataSegment (List ℕ)))) → AreAllSame s xss yss → AreSame s (flat_map (λ xs. drop 1 xs) xss) (flat_map (λ ys. drop 1 ys) yss)
  unfolding AreAllSame AreSame
  same_others s [] [] h = tt
  same_others s [] (ys ∷ yss) h = absurd h
  same_others s (xs ∷ xss) [] h = absurd h
  same_others s (xs ∷ xss) (ys ∷ yss) h = same_append s (drop 1 xs) (drop 1 ys) (flat_map (λ xs. drop 1 xs) xss) (flat_map (λ ys. drop 1 ys) yss) (rest xs ys h.0) (same_others s xss yss h.1)
    where
      rest : (xs : List (DataSegment D)) (ys : List (DataSegment (List ℕ))) → AreSame s xs ys → AreSame s (drop 1 xs) (drop 1 ys)
      rest [] [] h = tt
      rest [] (y ∷ ys) h = absurd h
      rest (x ∷ xs) [] h = absurd h
      rest (x ∷ xs) (y ∷ ys) h = h.1

  same_cut : (marks : Pair → List Point) (xs : List (DataSegment D)) (ys : List (DataSegment (List ℕ))) (s : S) → AreSame s xs ys
      → GoesOn s (data_cut_by hooks marks xs s).1 × AreSame (data_cut_by hooks marks xs s).1 (data_cut_by hooks marks xs s).0 (data_cut_by gathering marks ys tt).0
  unfolding data_cut_by
  same_cut marks xs ys s h =
      let each = same_each marks xs ys s h in
      let xss = (data_pieces_of_each hooks marks xs s).0 in
      let yss = (data_pieces_of_each gathering marks ys tt).0 in
      let left = (data_pieces_of_each hooks marks xs s).1 in
      (each.0, same_append left (flat_map (λ xs. take 1 xs) xss) (flat_map (λ ys. take 1 ys) yss) (flat_map (λ xs. drop 1 xs) xss) (flat_map (λ ys. drop 1 ys) yss) (same_firsts left xss yss each.1) (same_others left xss yss each.1))

  pub same_pass_by : (marks : Pair → List Point) (xs : List (DataSegment D)) (ys : List (DataSegment (List ℕ))) (s : S) → AreSame s xs ys
      → GoesOn s (data_pass_by hooks marks xs s).1 × AreSame (data_pass_by hooks marks xs s).1 (data_pass_by hooks marks xs s).0 (data_pass_by gathering marks ys tt).0
  same_pass_by marks xs ys s h =
      let cut = same_cut marks xs ys s h in
      let pieces = data_cut_by hooks marks xs s in
      let joined = same_join pieces.0 (data_cut_by gathering marks ys tt).0 pieces.1 cut.1 in
      (gather.on s pieces.1 (data_join hooks pieces.0 pieces.1).1 cut.0 joined.0, joined.1)

  same_pass : (placing : Placing) (xs : List (DataSegment D)) (ys : List (DataSegment (List ℕ))) (s : S) → AreSame s xs ys
      → GoesOn s (data_pass hooks placing xs s).1 × AreSame (data_pass hooks placing xs s).1 (data_pass hooks placing xs s).0 (data_pass gathering placing ys tt).0
  unfolding data_pass
  same_pass placing xs ys s h =
      let made = data_pass_by hooks (marks_on placing (without_data xs)) xs s in
      let base = same_pass_by (marks_on placing (without_data xs)) xs ys s h in
      (base.0, subst (λ (rs : List WholeSegment). AreSame made.1 made.0 (data_pass_by gathering (marks_on placing rs) ys tt).0) (same_pairs s xs ys h) base.1)

  pub same_after : (settings : Settings) (xs : List (DataSegment D)) (ys : List (DataSegment (List ℕ))) (s : S) (k : ℕ) → AreSame s xs ys
      → GoesOn s (data_after_passes hooks settings xs s k).1 × AreSame (data_after_passes hooks settings xs s k).1 (data_after_passes hooks settings xs s k).0 (data_after_passes gathering settings ys tt k).0
  unfolding data_after_passes
  same_after settings xs ys s zero h = same_join xs ys s h
  same_after settings xs ys s (suc k) h =
      let before = same_after settings xs ys s k h in
      let made = data_after_passes hooks settings xs s k in
      let more = same_pass (placing_of_pass settings (suc k)) made.0 (data_after_passes gathering settings ys tt k).0 made.1 before.1 in
      (gather.on s made.1 (data_pass hooks (placing_of_pass settings (suc k)) made.0 made.1).1 before.0 more.0, more.1)
