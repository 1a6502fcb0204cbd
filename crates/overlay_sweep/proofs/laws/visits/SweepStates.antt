-- The states of a sweep: before a start point, and at it. Each holds of the visits so far.
use Rattle.std.proofs.Common.{◌≡◌, ap, ap₂, refl, sym, subst, ◌∙◌, arith, inl, inr, get_or, append_assoc}
use Rattle.std.specs.Prelude.{ℕ, zero, suc, ◌+◌, ◌<◌, ◌≤◌, nat_lt, ℤ, pos, ◌≤ℤ◌, true, false, List, [], ◌∷◌, ◌++◌, map, length, take, drop, Option, Some, None}
use Rattle.std.specs.List.{AllByRecursion, enumerate_from}
use Rattle.std.specs.Option.{option_map_or}
use Rattle.std.proofs.lemmas.Int.{ints}
use Rattle.std.proofs.lemmas.Bool.{and_from}
use Rattle.std.proofs.lemmas.List.{take-append-drop, take_all, append-nil, length-map, get_or-map}
use Rattle.std.proofs.lemmas.List.FromFn.{length-enumerate_from}
use Rattle.overlay_geometry.specs.Points.{Point, Pair, point_lt}
use Rattle.overlay_geometry.specs.Sorting.{stably_sorted}
use Rattle.overlay_base.specs.Windings.{Winding, add, empty, weight, is_count_in_range, is_valid}
use Rattle.overlay_base.specs.Segments.{WholeSegment, pairs}
use Rattle.overlay_base.specs.EdgeData.{DataSegment, without_data}
use Rattle.overlay_base.specs.declared.overlay_core.fill_rule.FillRule.{FillRule}
use Rattle.overlay_geometry.proofs.laws.lists.Lists.{AllByRecursion-append, AllByRecursion-at, Has, Has-map, Has-map_out}
use Rattle.overlay_geometry.proofs.laws.geometry.Points.{before}
use Rattle.overlay_sweep.specs.ChainWindings.{directly_below, top, top_within, bottom, support}
use Rattle.overlay_sweep.specs.Fill.{fill_byte}
use Rattle.overlay_sweep.specs.Sweep.{Visit, whole_of, visits, handled, visited, visits_leave_range}
use Rattle.overlay_sweep.specs.Live.{sum_below}
use Rattle.overlay_sweep.specs.Live.{HoldSameFrom, AreFreeAt}
use Rattle.overlay_sweep.specs.steps.WayOf.{WholeWay, ways_between, by_angle}
use Rattle.overlay_sweep.proofs.laws.columns.Members.{IsArranged}
use Rattle.overlay_sweep.proofs.laws.columns.ChainSums.{top_is_sum}
use Rattle.overlay_sweep.proofs.laws.live.PointChains.{IsChain, starting_are_chain}
use Rattle.overlay_sweep.proofs.laws.live.DirectlyBelow.{topped, free_at, sum_below_is, directly_below_is}
use Rattle.overlay_sweep.proofs.laws.live.Boundaries.{IsBlock, IsBoundary, below_begins_before, boundary_next, block_from_point, by_drop, drop_first, Has-take}
use Rattle.overlay_sweep.proofs.laws.columns.Tops.{by_option}
use Rattle.overlay_sweep.proofs.laws.live.LiveSums.{HoldSameFrom-trans, HoldSameFrom-later, HoldSameFrom-cons, HoldSameFrom-same, HoldSameFrom-push}
use Rattle.overlay_sweep.proofs.laws.visits.Handling.{IsHandledTo, IsHandledTo-more, handled_after, handled_break, handled_end, in_range_at_break, in_range_at_end, leaves_range_at}
use Rattle.overlay_sweep.proofs.laws.visits.Visits.{visits_cut, listed, visits_before, visits_of_block, visits_after, wholes, visit_way, IsListed, is_listed, before_next, members_of_block, block_starts_at_point, listed_in_block, early_visited, known_before, ways_of_visits}
use Rattle.overlay_geometry.proofs.laws.lists.Elements.{Has-append_out}

-- ---- windings without masks

top_within_unmasked : (n : ℕ) (xs : List WholeSegment) (s : WholeSegment) → (top_within n xs s).mask ≡ 0
unfolding top_within
top_within_unmasked zero xs s = refl
top_within_unmasked (suc n) xs s = by_option (support xs s) (λ e. rw e refl) (λ t e. rw e (rw (top_within_unmasked n xs t) refl))

top_unmasked : (xs : List WholeSegment) (s : WholeSegment) → (top xs s).mask ≡ 0
unfolding top
top_unmasked xs s = top_within_unmasked (length xs) xs s

pub weight_of_unmasked : (w : Winding) → w.mask ≡ 0 → weight w ≡ w
weight_of_unmasked w e = λ i. record { subj = w.subj; clip = w.clip; mask = sym e i }

pub valid_from : (w : Winding) → is_count_in_range w ≡ true → w.mask ≡ 0 → is_valid w ≡ true
valid_from w r e = and_from (is_count_in_range w) (nat_lt w.mask 4) r (rw e refl)

-- ---- places of a list

-- where the segment at a place starts
abbrev pub start_at : List WholeSegment → ℕ → Point
start_at xs i = (get_or (pairs xs) i (record { a = record { x = pos 0; y = pos 0 }; b = record { x = pos 0; y = pos 0 } })).a

cut_at : {X P : Type 0} (k : ℕ) (xs : List X) → k < length xs → ((x : X) → drop k xs ≡ x ∷ drop (k + 1) xs → take (k + 1) xs ≡ take k xs ++ x ∷ [] → Has xs x → ((d : X) → get_or xs k d ≡ x) → P) → P
cut_at k [] h f = absurd (omega (arith, h))
cut_at zero (x ∷ xs) h f = f x refl refl (inl refl) (λ d. refl)
cut_at (suc k) (x ∷ xs) h f =
    let same : suc k + 1 ≡ suc (k + 1) = omega arith in
    cut_at k xs (omega (arith, h)) (λ y e g m a. f y (rw same e) (rw same (ap (λ l. x ∷ l) g)) (inr m) a)

module _ {D H O : Type 0} (handle : H → Visit D → H × Option O) (finalize : H → O) (rule : FillRule) (list : List (DataSegment D)) (arranged : IsArranged (without_data list)) (h0 : H) where
  -- the visits up to a place of those at one start point
  abbrev pub visits_up_to : ℕ → ℕ → ℕ → List (Visit D)
  visits_up_to i next k = visits_before rule list arranged i ++ take k (visits_of_block rule list arranged i next)

  -- the handler has gone over the visits, whose tops are in range and whose sums are live from x on
  pub record IsSwept (vs : List (Visit D)) (x : ℤ) (h : H) (live : List WholeSegment) : Type 0 where
    pub went : IsHandledTo handle finalize h0 vs h
    pub tops : AllByRecursion (λ v. is_count_in_range (top (without_data list) (whole_of v.segment)) ≡ true) vs
    pub holds : HoldSameFrom x live (map (topped (without_data list)) (wholes vs))

  -- at a start point, with the winding above its last visit
  pub record IsAtPoint (i next k : ℕ) (w : Winding) (x : ℤ) (h : H) (live : List WholeSegment) : Type 0 where
    pub chain : IsChain (without_data list) w (wholes (drop k (visits_of_block rule list arranged i next)))
    pub sum_in_range : is_count_in_range w ≡ true
    pub unmasked : w.mask ≡ 0
    pub swept : IsSwept (visits_up_to i next k) x h live

  -- a visit at a start point, at its place
  pub record IsPlace (i next k : ℕ) (p : Point) (v : Visit D) : Type 0 where
    pub here : drop k (visits_of_block rule list arranged i next) ≡ v ∷ drop (k + 1) (visits_of_block rule list arranged i next)
    pub taken : take (k + 1) (visits_of_block rule list arranged i next) ≡ take k (visits_of_block rule list arranged i next) ++ v ∷ []
    pub is : IsListed rule (without_data list) list v
    pub member : Has (without_data list) (whole_of v.segment)
    pub start : v.segment.pair.a ≡ p

  -- ---- the beginning

  pub swept_at_first : (x : ℤ) (live : List WholeSegment) → live ≡ [] → IsSwept (visits_before rule list arranged 0) x h0 live
  unfolding stably_sorted
  swept_at_first x live e = record { went = refl; tops = tt; holds = subst (λ l. HoldSameFrom x l []) (sym e) (HoldSameFrom-same x []) }

  module _ (i next : ℕ) (p : Point) (order : i < next) (block : IsBlock (without_data list) i next p) where
    known_so_far : (s : WholeSegment) → Has (wholes (visits_before rule list arranged i)) s → Has (without_data list) s
    known_so_far = known_before rule list arranged i

    -- the sum below a start point, and the chain of its segments on it
    pub enter_point : (h : H) (live left : List WholeSegment) (u : WholeSegment) → u.pair.a ≡ p → IsSwept (visits_before rule list arranged i) p.x h live → HoldSameFrom p.x left live →
        (w : Winding) → w ≡ sum_below live p empty → IsAtPoint i next 0 w p.x h left
    enter_point h live left u e swept same w sum =
        let below : w ≡ option_map_or (λ t. top (without_data list) t) (directly_below (without_data list) p) empty = sum ∙ sum_below_is (without_data list) arranged p live (wholes (visits_before rule list arranged i)) swept.holds known_so_far
        (λ s m b. early_visited rule list arranged i next p order block s m (below_begins_before p s u.pair e b)) in
        let nil : visits_up_to i next 0 ≡ visits_before rule list arranged i = append-nil (visits_before rule list arranged i) in
        by_option (directly_below (without_data list) p)
        (λ none.
        let nothing : w ≡ empty = below ∙ rw none refl in
        made nil below (subst (λ v. is_count_in_range v ≡ true) (sym nothing) refl) (ap (λ (v : Winding). v.mask) nothing))
        (λ t found.
        let something : w ≡ top (without_data list) t = below ∙ rw found refl in
        let j = directly_below_is (without_data list) p t found in
        let seen = Has-map_out (λ (v : Visit D). whole_of v.segment) (visits_before rule list arranged i) t (early_visited rule list arranged i next p order block t j.0 (below_begins_before p t u.pair e j.1)) in
        let in_range : is_count_in_range (top (without_data list) t) ≡ true = subst (λ z. is_count_in_range (top (without_data list) z) ≡ true) seen.2 (AllByRecursion-at (λ v. is_count_in_range (top (without_data list) (whole_of v.segment)) ≡ true) (visits_before rule list arranged i) seen.0 swept.tops seen.1) in
        made nil below (subst (λ v. is_count_in_range v ≡ true) (sym something) in_range) (ap (λ (v : Winding). v.mask) something ∙ top_unmasked (without_data list) t))
      where
        made : visits_up_to i next 0 ≡ visits_before rule list arranged i → w ≡ option_map_or (λ t. top (without_data list) t) (directly_below (without_data list) p) empty → is_count_in_range w ≡ true → w.mask ≡ 0 → IsAtPoint i next 0 w p.x h left
        made nil below range clean = record {
          chain = subst (λ z. IsChain (without_data list) z (wholes (visits_of_block rule list arranged i next))) (sym below) (starting_are_chain (without_data list) arranged p (wholes (visits_of_block rule list arranged i next)) (block_starts_at_point rule list arranged i next p order block));
          sum_in_range = range;
          unmasked = clean;
          swept = subst (λ vs. IsSwept vs p.x h left) (sym nil) (record { went = swept.went; tops = swept.tops; holds = HoldSameFrom-trans p.x left live (map (topped (without_data list)) (wholes (visits_before rule list arranged i))) same swept.holds });
        }

    -- the visit of a way that was collected
    pub at_place : {P : Type 0} (k : ℕ) (ways : List WholeWay) → ways ≡ by_angle (ways_between (without_data list) i next) → k < length ways → (e : WholeWay) → e ≡ get_or ways k e → ((v : Visit D) → IsPlace i next k p v → e.index ≡ v.index → P) → P
    at_place k ways same h e at f =
        let as_visits = same ∙ ways_of_visits rule list arranged i next p order block in
        let within : k < length (visits_of_block rule list arranged i next) = subst (λ n. k < n) (ap length as_visits ∙ length-map (visits_of_block rule list arranged i next) visit_way) h in
        cut_at k (visits_of_block rule list arranged i next) within (λ v here taken m found.
        let listed_here = AllByRecursion-at (λ v. Has (listed rule list arranged) v) (visits_of_block rule list arranged i next) v (listed_in_block rule list arranged i next p order block) m in
        let member = AllByRecursion-at (λ v. Has (without_data list) (whole_of v.segment) × (v.segment.pair.a ≡ p)) (visits_of_block rule list arranged i next) v (members_of_block rule list arranged i next p order block) m in
        let way_is : e ≡ visit_way v = at ∙ ap (λ l. get_or l k e) as_visits ∙ get_or-map visit_way (visits_of_block rule list arranged i next) k v e within ∙ ap visit_way (found v) in
        f v (record { here = here; taken = taken; is = is_listed rule (without_data list) list v listed_here; member = member.0; start = member.1 }) (ap (λ (z : WholeWay). z.index) way_is))

    module _ (k : ℕ) (w : Winding) (h : H) (live : List WholeSegment) (v : Visit D) (at : IsPlace i next k p v) (state : IsAtPoint i next k w p.x h live) where
      chain_here : (bottom (without_data list) (whole_of v.segment) ≡ w) × IsChain (without_data list) (top (without_data list) (whole_of v.segment)) (wholes (drop (k + 1) (visits_of_block rule list arranged i next)))
      chain_here = subst (λ l. IsChain (without_data list) w (wholes l)) at.here state.chain

      -- the winding above the visit
      pub top_here : add (weight w) (weight v.segment.count) ≡ top (without_data list) (whole_of v.segment)
      top_here = ap (λ z. add z (weight v.segment.count)) (weight_of_unmasked w state.unmasked ∙ sym chain_here.0) ∙ sym (top_is_sum (without_data list) arranged (whole_of v.segment) at.member)

      pub fill_here : fill_byte rule w (add (weight w) (weight v.segment.count)) v.segment.count.mask ≡ v.fill
      fill_here = ap₂ (λ b t. fill_byte rule b t v.segment.count.mask) (sym chain_here.0) top_here ∙ sym at.is.fill

      more_visits : visits_up_to i next (k + 1) ≡ visits_up_to i next k ++ v ∷ []
      more_visits = ap (λ l. visits_before rule list arranged i ++ l) at.taken ∙ sym (append_assoc (visits_before rule list arranged i) (take k (visits_of_block rule list arranged i next)) (v ∷ []))

      pushed : (vs : List (Visit D)) → map (topped (without_data list)) (wholes (vs ++ v ∷ [])) ≡ map (topped (without_data list)) (wholes vs) ++ topped (without_data list) (whole_of v.segment) ∷ []
      pushed [] = refl
      pushed (u ∷ us) = ap (λ l. topped (without_data list) (whole_of u.segment) ∷ l) (pushed us)

      cons_to_push : (x : ℤ) (left : List WholeSegment) (e : WholeSegment) (ys : List WholeSegment) → HoldSameFrom x left (e ∷ live) → HoldSameFrom x live ys → HoldSameFrom x left (ys ++ e ∷ [])
      cons_to_push x left e ys f g = HoldSameFrom-trans x left (e ∷ ys) (ys ++ e ∷ []) (HoldSameFrom-trans x left (e ∷ live) (e ∷ ys) f (HoldSameFrom-cons x e live ys g)) (back x e ys)
        where
          back : (x : ℤ) (e : WholeSegment) (ys : List WholeSegment) → HoldSameFrom x (e ∷ ys) (ys ++ e ∷ [])
          back x e ys s y l m = let k = HoldSameFrom-push x e ys s y l m in (k.1, k.0)

      -- the state after the visit
      pub after_visit : (next_handler : H) (left : List WholeSegment) (t : Winding) → (handle h v).1 ≡ None → next_handler ≡ (handle h v).0 → t ≡ add (weight w) (weight v.segment.count) → is_count_in_range (add (weight w) (weight v.segment.count)) ≡ true →
          HoldSameFrom p.x left (record { pair = v.segment.pair; count = add (weight w) (weight v.segment.count) } ∷ live) → IsAtPoint i next (k + 1) t p.x next_handler left
      after_visit next_handler left t goes handler sum range holds = record {
        chain = subst (λ z. IsChain (without_data list) z (wholes (drop (k + 1) (visits_of_block rule list arranged i next)))) (sym (sum ∙ top_here)) chain_here.1;
        sum_in_range = subst (λ z. is_count_in_range z ≡ true) (sym sum) range;
        unmasked = ap (λ (z : Winding). z.mask) (sum ∙ top_here) ∙ top_unmasked (without_data list) (whole_of v.segment);
        swept = subst (λ vs. IsSwept vs p.x next_handler left) (sym more_visits) (record {
          went = subst (λ z. IsHandledTo handle finalize h0 (visits_up_to i next k ++ v ∷ []) z) (sym handler) (IsHandledTo-more handle finalize h0 h (visits_up_to i next k) v state.swept.went goes);
          tops = AllByRecursion-append (λ v. is_count_in_range (top (without_data list) (whole_of v.segment)) ≡ true) (visits_up_to i next k) (v ∷ []) state.swept.tops (subst (λ z. is_count_in_range z ≡ true) top_here range, tt);
          holds = subst (λ l. HoldSameFrom p.x left l) (sym (pushed (visits_up_to i next k)))
              (cons_to_push p.x left (topped (without_data list) (whole_of v.segment)) (map (topped (without_data list)) (wholes (visits_up_to i next k)))
              (subst (λ z. HoldSameFrom p.x left (record { pair = v.segment.pair; count = z } ∷ live)) top_here holds) state.swept.holds);
        });
      }

      -- what is live, and the visit's own sum, are free of crossings
      pub free_here : AreFreeAt p.x (record { pair = v.segment.pair; count = add (weight w) (weight v.segment.count) } ∷ live)
      free_here = subst (λ z. AreFreeAt p.x (record { pair = v.segment.pair; count = z } ∷ live)) (sym top_here)
          (free_at (without_data list) arranged p.x (topped (without_data list) (whole_of v.segment) ∷ live) (whole_of v.segment ∷ wholes (visits_up_to i next k))
          (HoldSameFrom-cons p.x (topped (without_data list) (whole_of v.segment)) live (map (topped (without_data list)) (wholes (visits_up_to i next k))) state.swept.holds)
          (λ s m. elim m [ inl same ↦ subst (λ z. Has (without_data list) z) same at.member | inr n ↦ known_up_to s n ]))
        where
          known_up_to : (s : WholeSegment) → Has (wholes (visits_up_to i next k)) s → Has (without_data list) s
          known_up_to s n =
              let found = Has-map_out (λ (v : Visit D). whole_of v.segment) (visits_up_to i next k) s n in
              subst (λ z. Has (without_data list) z) found.2 (elim (Has-append_out (visits_before rule list arranged i) (take k (visits_of_block rule list arranged i next)) found.0 found.1) [
                | inl m ↦ known_before rule list arranged i (whole_of found.0.segment) (Has-map (λ v. whole_of v.segment) (visits_before rule list arranged i) found.0 m)
                | inr m ↦ (AllByRecursion-at (λ v. Has (without_data list) (whole_of v.segment) × (v.segment.pair.a ≡ p)) (visits_of_block rule list arranged i next) found.0 (members_of_block rule list arranged i next p order block) (Has-take k (visits_of_block rule list arranged i next) found.0 m)).0
              ])

      -- all visits, as those before this one, this one, and the rest
      visits_here : visits rule list ≡ visits_up_to i next k ++ v ∷ (drop (k + 1) (visits_of_block rule list arranged i next) ++ visits_after rule list arranged next)
      visits_here =
          visits_cut rule list arranged i next p order block
          ∙ ap (λ l. visits_before rule list arranged i ++ (l ++ visits_after rule list arranged next)) (sym (take-append-drop k (visits_of_block rule list arranged i next)) ∙ ap (λ l. take k (visits_of_block rule list arranged i next) ++ l) at.here)
          ∙ ap (λ l. visits_before rule list arranged i ++ l) (append_assoc (take k (visits_of_block rule list arranged i next)) (v ∷ drop (k + 1) (visits_of_block rule list arranged i next)) (visits_after rule list arranged next))
          ∙ sym (append_assoc (visits_before rule list arranged i) (take k (visits_of_block rule list arranged i next)) (v ∷ (drop (k + 1) (visits_of_block rule list arranged i next) ++ visits_after rule list arranged next)))

      -- where the handler breaks
      pub answered_here : (answer : O) → (handle h v).1 ≡ Some answer → handled handle finalize h0 (visits rule list) ≡ answer
      answered_here answer e =
          ap (handled handle finalize h0) visits_here
          ∙ handled_after handle finalize h0 h (visits_up_to i next k) (v ∷ (drop (k + 1) (visits_of_block rule list arranged i next) ++ visits_after rule list arranged next)) state.swept.went
          ∙ handled_break handle finalize h v (drop (k + 1) (visits_of_block rule list arranged i next) ++ visits_after rule list arranged next) answer e

      pub in_range_here : (answer : O) → (handle h v).1 ≡ Some answer → is_count_in_range (add (weight w) (weight v.segment.count)) ≡ true → visits_leave_range (without_data list) (visited handle h0 (visits rule list)) ≡ false
      in_range_here answer e range =
          ap (λ l. visits_leave_range (without_data list) (visited handle h0 l)) visits_here
          ∙ in_range_at_break handle finalize (without_data list) h0 h (visits_up_to i next k) (drop (k + 1) (visits_of_block rule list arranged i next) ++ visits_after rule list arranged next) v answer state.swept.went state.swept.tops (subst (λ z. is_count_in_range z ≡ true) top_here range) e

      -- where the winding above is too large
      pub refused_here : is_count_in_range (add (weight w) (weight v.segment.count)) ≡ false → visits_leave_range (without_data list) (visited handle h0 (visits rule list)) ≡ true
      refused_here large =
          ap (λ l. visits_leave_range (without_data list) (visited handle h0 l)) visits_here
          ∙ leaves_range_at handle finalize (without_data list) h0 h (visits_up_to i next k) (drop (k + 1) (visits_of_block rule list arranged i next) ++ visits_after rule list arranged next) v state.swept.went (subst (λ z. is_count_in_range z ≡ false) top_here large)

  -- ---- the states of the two loops

  pub record IsBeforePoint (index : ℕ) (h : H) (live : List WholeSegment) (may : ℤ → Type 0) : Type 0 where
    pub at_most : index ≤ length list
    pub boundary : IsBoundary (without_data list) index
    pub x : ℤ
    pub reaches : index < length list → x ≤ℤ (start_at (without_data list) index).x
    pub swept : IsSwept (visits_before rule list arranged index) x h live
    pub time : (y : ℤ) → x ≤ℤ y → may y

  pub record IsAmidPoint (i next k : ℕ) (w : Winding) (h : H) (live : List WholeSegment) (may : ℤ → Type 0) : Type 0 where
    pub order : i < next
    pub within : next ≤ length list
    pub block : IsBlock (without_data list) i next (start_at (without_data list) i)
    pub at_point : IsAtPoint i next k w (start_at (without_data list) i).x h live
    pub time : (y : ℤ) → (start_at (without_data list) i).x ≤ℤ y → may y

  pub before_first : (live : List WholeSegment) (may : ℤ → Type 0) → live ≡ [] → ((y : ℤ) → may y) → IsBeforePoint 0 h0 live may
  before_first live may e time = record {
    at_most = omega arith;
    boundary = tt;
    x = (start_at (without_data list) 0).x;
    reaches = λ h. omega (arith, ints);
    swept = swept_at_first (start_at (without_data list) 0).x live e;
    time = λ y h. time y;
  }

  length-whole : (d : List (DataSegment D)) → length (without_data d) ≡ length d
  length-whole d = length-map d (λ s. record { pair = s.pair; count = s.count })

  first_of : (i : ℕ) → i < length list → (u : WholeSegment) × (u.pair.a ≡ start_at (without_data list) i)
  first_of i h = ((get_or (without_data list) i origin), ap (λ (s : Pair). s.a) (sym (get_or-map (λ (s : WholeSegment). s.pair) (without_data list) i origin (record { a = record { x = pos 0; y = pos 0 }; b = record { x = pos 0; y = pos 0 } }) (subst (λ n. i < n) (sym (length-whole list)) h))))
    where
      origin : WholeSegment
      origin = record { pair = record { a = record { x = pos 0; y = pos 0 }; b = record { x = pos 0; y = pos 0 } }; count = empty }

  pub block_at : (ss : List WholeSegment) → without_data list ≡ ss → (i next : ℕ) → i < next → next ≤ length list → IsBoundary (without_data list) i →
      ((k : ℕ) (d : Pair) → i ≤ k → k < next → (get_or (pairs ss) k d).a ≡ (get_or (pairs ss) i d).a) → ((d : Pair) → next < length list → (get_or (pairs ss) next d).a ≡ (get_or (pairs ss) i d).a → ⊥) → IsBlock (without_data list) i next (start_at (without_data list) i)
  block_at ss e i next order within bound same other =
      let origin : Pair = record { a = record { x = pos 0; y = pos 0 }; b = record { x = pos 0; y = pos 0 } } in
      let filled : i < length (without_data list) = subst (λ n. i < n) (sym (length-whole list)) (omega (arith, order, within)) in
      let first : (d : Pair) → (get_or (pairs ss) i d).a ≡ start_at (without_data list) i = λ d. ap (λ l. (get_or (pairs l) i d).a) (sym e) ∙ ap (λ (s : Pair). s.a) (any_default (pairs (without_data list)) i d origin (subst (λ n. i < n) (sym (length-map (without_data list) (λ s. s.pair))) filled)) in
      block_from_point (without_data list) arranged i next (start_at (without_data list) i) order (subst (λ n. next ≤ n) (sym (length-whole list)) within) bound
      (λ k d h l. ap (λ m. (get_or (pairs m) k d).a) e ∙ same k d h l ∙ first d)
      (λ d h f. other d (subst (λ n. next < n) (length-whole list) h) (ap (λ m. (get_or (pairs m) next d).a) (sym e) ∙ f ∙ sym (first d)))
    where
      any_default : {X : Type 0} (ks : List X) (k : ℕ) (d f : X) → k < length ks → get_or ks k d ≡ get_or ks k f
      any_default [] k d f h = absurd (omega (arith, h))
      any_default (x ∷ ks) zero d f h = refl
      any_default (x ∷ ks) (suc k) d f h = any_default ks k d f (omega (arith, h))

  pub swept_at_start : (i : ℕ) (h : H) (live : List WholeSegment) (may : ℤ → Type 0) → i < length list → IsBeforePoint i h live may → IsSwept (visits_before rule list arranged i) (start_at (without_data list) i).x h live
  swept_at_start i h live may order state = record {
    went = state.swept.went;
    tops = state.swept.tops;
    holds = HoldSameFrom-later state.x (start_at (without_data list) i).x live (map (topped (without_data list)) (wholes (visits_before rule list arranged i))) (state.reaches order) state.swept.holds;
  }

  -- what is live at a start point is free of crossings
  pub free_at_start : (i : ℕ) (h : H) (live : List WholeSegment) (may : ℤ → Type 0) → i < length list → IsBeforePoint i h live may → AreFreeAt (start_at (without_data list) i).x live
  free_at_start i h live may order state = free_at (without_data list) arranged (start_at (without_data list) i).x live (wholes (visits_before rule list arranged i)) (swept_at_start i h live may order state).holds (known_before rule list arranged i)

  pub enter : (i next : ℕ) (h : H) (live left : List WholeSegment) (may later : ℤ → Type 0) (w : Winding) → i < next → next ≤ length list → IsBlock (without_data list) i next (start_at (without_data list) i) → IsBeforePoint i h live may →
      HoldSameFrom (start_at (without_data list) i).x left live → w ≡ sum_below live (start_at (without_data list) i) empty → ((y : ℤ) → (start_at (without_data list) i).x ≤ℤ y → later y) → IsAmidPoint i next 0 w h left later
  enter i next h live left may later w order within block state same sum time =
      let filled : i < length list = omega (arith, order, within) in
      let u = first_of i filled in
      record { order = order; within = within; block = block; time = time; at_point = enter_point i next (start_at (without_data list) i) order block h live left u.0 u.1 (swept_at_start i h live may filled state) same w sum }

  pub leave : (i next k : ℕ) (w : Winding) (h : H) (live : List WholeSegment) (may : ℤ → Type 0) → IsAmidPoint i next k w h live may → length (visits_of_block rule list arranged i next) ≤ k → IsBeforePoint next h live may
  leave i next k w h live may state past = record {
    at_most = state.within;
    boundary = boundary_next (without_data list) arranged i next (start_at (without_data list) i) state.order state.block;
    x = (start_at (without_data list) i).x;
    reaches = later_start;
    swept = subst (λ vs. IsSwept vs (start_at (without_data list) i).x h live)
        (ap (λ l. visits_before rule list arranged i ++ l) (take_all k (visits_of_block rule list arranged i next) past) ∙ sym (before_next rule list arranged i next (start_at (without_data list) i) state.order state.block))
        state.at_point.swept;
    time = state.time;
  }
    where
      before_x : (p q : Point) → point_lt p q ≡ true → p.x ≤ℤ q.x
      before_x p q l = elim (before p q l) [ inl less ↦ omega (arith, ints) | inr same ↦ (let e = same.0 in omega (arith, ints)) ]

      later_start : next < length list → (start_at (without_data list) i).x ≤ℤ (start_at (without_data list) next).x
      later_start filled =
          let origin : Pair = record { a = record { x = pos 0; y = pos 0 }; b = record { x = pos 0; y = pos 0 } } in
          by_drop next (without_data list) (subst (λ n. next < n) (sym (length-whole list)) filled) (λ q qs e.
          let late : point_lt (start_at (without_data list) i) q.pair.a ≡ true = (subst (λ l. AllByRecursion (λ s. point_lt (start_at (without_data list) i) s.pair.a ≡ true) l) e state.block.late).0 in
          let at : start_at (without_data list) next ≡ q.pair.a = ap (λ (s : Pair). s.a) (get_or-map (λ (s : WholeSegment). s.pair) (without_data list) next q origin (drop_first next (without_data list) q qs e).0 ∙ ap (λ (s : WholeSegment). s.pair) ((drop_first next (without_data list) q qs e).1 q)) in
          before_x (start_at (without_data list) i) (start_at (without_data list) next) (subst (λ z. point_lt (start_at (without_data list) i) z ≡ true) (sym at) late))

  all_at_end : (index : ℕ) → length list ≤ index → visits rule list ≡ visits_before rule list arranged index ++ []
  unfolding visits
  all_at_end index past =
      let long : length (listed rule list arranged) ≤ index = subst (λ n. n ≤ index) (sym (length-map (enumerate_from 0 list) _ ∙ length-enumerate_from 0 list)) past in
      ap (stably_sorted _) (sym (take_all index (listed rule list arranged) long)) ∙ sym (append-nil (visits_before rule list arranged index))

  -- the end: what the handler makes of it
  pub finished : (index : ℕ) (h : H) (live : List WholeSegment) (may : ℤ → Type 0) → IsBeforePoint index h live may → length list ≤ index → handled handle finalize h0 (visits rule list) ≡ finalize h
  finished index h live may state past =
      ap (handled handle finalize h0) (all_at_end index past)
      ∙ handled_after handle finalize h0 h (visits_before rule list arranged index) [] state.swept.went ∙ handled_end handle finalize h

  pub finished_in_range : (index : ℕ) (h : H) (live : List WholeSegment) (may : ℤ → Type 0) → IsBeforePoint index h live may → length list ≤ index → visits_leave_range (without_data list) (visited handle h0 (visits rule list)) ≡ false
  finished_in_range index h live may state past =
      ap (λ l. visits_leave_range (without_data list) (visited handle h0 l)) (all_at_end index past)
      ∙ in_range_at_end handle finalize (without_data list) h0 h (visits_before rule list arranged index) state.swept.went state.swept.tops

  -- the visit of one of the code's ways
  pub amid_place : {X P : Type 0} (i next k : ℕ) (w : Winding) (h : H) (live : List WholeSegment) (may : ℤ → Type 0) → IsAmidPoint i next k w h live may → (f : X → WholeWay) (items : List X) → map f items ≡ by_angle (ways_between (without_data list) i next) → k < length items → (x : X) → x ≡ get_or items k x →
      ((v : Visit D) → IsPlace i next k (start_at (without_data list) i) v → (f x).index ≡ v.index → P) → P
  amid_place i next k w h live may state f items same l x e g =
      at_place i next (start_at (without_data list) i) state.order state.block k (map f items) same (subst (λ n. k < n) (sym (length-map items f)) l) (f x) (ap f e ∙ sym (get_or-map f items k x (f x) l)) g

  -- an empty rest of the ways at a start point
  pub point_is_over : {X : Type 0} (i next k : ℕ) (w : Winding) (h : H) (live : List WholeSegment) (may : ℤ → Type 0) → IsAmidPoint i next k w h live may → (f : X → WholeWay) (items : List X) → map f items ≡ by_angle (ways_between (without_data list) i next) → length items ≤ k → length (visits_of_block rule list arranged i next) ≤ k
  point_is_over i next k w h live may state f items same l =
      let as_visits = same ∙ ways_of_visits rule list arranged i next (start_at (without_data list) i) state.order state.block in
      subst (λ n. n ≤ k) (sym (length-map items f) ∙ ap length as_visits ∙ length-map (visits_of_block rule list arranged i next) visit_way) l

  pub step : (i next k : ℕ) (w t : Winding) (h after : H) (live left : List WholeSegment) (may later : ℤ → Type 0) (v : Visit D) → IsPlace i next k (start_at (without_data list) i) v → IsAmidPoint i next k w h live may →
      (handle h v).1 ≡ None → after ≡ (handle h v).0 → t ≡ add (weight w) (weight v.segment.count) → is_count_in_range (add (weight w) (weight v.segment.count)) ≡ true →
      HoldSameFrom (start_at (without_data list) i).x left (record { pair = v.segment.pair; count = add (weight w) (weight v.segment.count) } ∷ live) → ((y : ℤ) → (start_at (without_data list) i).x ≤ℤ y → later y) → IsAmidPoint i next (k + 1) t after left later
  step i next k w t h after live left may later v at state goes handler sum range holds time = record {
    order = state.order;
    within = state.within;
    block = state.block;
    time = time;
    at_point = after_visit i next (start_at (without_data list) i) state.order state.block k w h live v at state.at_point after left t goes handler sum range holds;
  }

  -- the visit that the code makes
  pub visit_is : (i next k : ℕ) (w : Winding) (h : H) (live : List WholeSegment) (may : ℤ → Type 0) (v : Visit D) → IsPlace i next k (start_at (without_data list) i) v → IsAmidPoint i next k w h live may →
      (index : ℕ) (s : DataSegment D) → index ≡ v.index → s ≡ v.segment → record { index = index; segment = s; fill = fill_byte rule w (add (weight w) (weight s.count)) s.count.mask } ≡ v
  visit_is i next k w h live may v at state index s e f =
      let fill : fill_byte rule w (add (weight w) (weight s.count)) s.count.mask ≡ v.fill = ap (λ (u : DataSegment D). fill_byte rule w (add (weight w) (weight u.count)) u.count.mask) f ∙ fill_here i next (start_at (without_data list) i) state.order state.block k w h live v at state.at_point in
      λ j. record { index = e j; segment = f j; fill = fill j }
