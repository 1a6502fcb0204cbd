-- A handler that stores each fill at its index, over a whole sweep.
use Rattle.std.proofs.Common.{◌≡◌, refl, sym, ap, ◌∙◌, arith, ℕ, zero, suc, ◌+◌, ◌<◌, ◌==◌, Bool, true, false, not, ◌||◌, List, [], ◌∷◌, length, get_or, set, if◌then◌else◌}
use Rattle.std.specs.Prelude.{Option, None}
use Rattle.std.specs.List.{list_any, AllByRecursion}
use Rattle.std.proofs.lemmas.Bool.{eqb-true, eq-eqb, false≢true}
use Rattle.std.proofs.lemmas.List.{get_or-map, length-map, get_or-set_same, get_or-set_other, length-set, get_or_default}
use Rattle.std.proofs.lemmas.List.{same_lists}
use Rattle.std.proofs.lemmas.List.Sorted.{list_any-IsPermutation}
use Rattle.overlay_base.specs.Segments.{WholeSegment}
use Rattle.overlay_base.specs.Windings.{is_count_in_range}
use Rattle.overlay_base.specs.EdgeData.{DataSegment, without_data}
use Rattle.overlay_base.specs.declared.overlay_core.fill_rule.FillRule.{FillRule}
use Rattle.overlay_base.proofs.laws.lists.StableSorts.{stably_sorted-IsPermutation}
use Rattle.overlay_sweep.specs.ChainWindings.{top, tops_leave_range}
use Rattle.overlay_build.specs.Graph.{fills_of}
use Rattle.overlay_sweep.specs.Sweep.{Visit, whole_of, fill_of, visits, handled, visited, visits_leave_range}
use Rattle.overlay_base.proofs.laws.lists.StableSorts.{AllByRecursion-stably_sorted}
use Rattle.overlay_sweep.proofs.laws.visits.Visits.{visit_cmp, listed_from, IsListed, is_listed, wholes, wholes-listed}
use Rattle.overlay_geometry.proofs.laws.lists.Lists.{AllByRecursion-from_Has}
use Rattle.std.proofs.Math.Bool.{or-true}

module _ {D : Type 0} where
  -- the fills after some visits
  abbrev pub written : List ℕ → List (Visit D) → List ℕ
  written fills [] = fills
  written fills (v ∷ vs) = written (set fills v.index v.fill) vs

  pub length-written : (fills : List ℕ) (vs : List (Visit D)) → length (written fills vs) ≡ length fills
  length-written fills [] = refl
  length-written fills (v ∷ vs) = length-written (set fills v.index v.fill) vs ∙ length-set fills v.index v.fill

  -- where the fill of a visit is that of its index, the fill at each index that was visited is that, and others stay
  pub written_at : (f : ℕ → ℕ) (fills : List ℕ) (vs : List (Visit D)) → AllByRecursion (λ v. v.fill ≡ f v.index) vs → (k d : ℕ) → k < length fills →
      get_or (written fills vs) k d ≡ (if list_any (λ v. v.index == k) vs then f k else get_or fills k d)
  written_at f fills [] a k d l = refl
  written_at f fills (v ∷ vs) a k d l =
      written_at f (set fills v.index v.fill) vs a.1 k d (rw (length-set fills v.index v.fill) l) ∙ by (list_any (λ v. v.index == k) vs) (v.index == k) refl
    where
      by : (b c : Bool) → (v.index == k) ≡ c → (if b then f k else get_or (set fills v.index v.fill) k d) ≡ (if c || b then f k else get_or fills k d)
      by true true e = refl
      by true false e = refl
      by false true e =
          let same : v.index ≡ k = eqb-true v.index k e in
          ap (λ n. get_or (set fills v.index v.fill) n d) (sym same) ∙ get_or-set_same fills v.index v.fill d (rw same l) ∙ a.0 ∙ ap f same
      by false false e = get_or-set_other fills v.index k v.fill d (λ h. false≢true (sym e ∙ eq-eqb v.index k (sym h)))

  listed_has : (rule : FillRule) (xs : List WholeSegment) (n j k : ℕ) (list : List (DataSegment D)) → k ≡ n + j → j < length list → list_any (λ v. v.index == k) (listed_from rule xs n list) ≡ true
  listed_has rule xs n j k [] e h = absurd (omega arith)
  listed_has rule xs n zero k (s ∷ ss) e h = let here : (n == k) ≡ true = eq-eqb n k (omega arith) in rw here refl
  listed_has rule xs n (suc j) k (s ∷ ss) e h = rw (listed_has rule xs (n + 1) j k ss (omega arith) (omega arith)) (or-true (n == k))

  -- ---- the handler of a sweep

  module _ {H O : Type 0} (handle : H → Visit D → H × Option O) (goes_on : (h : H) (v : Visit D) → (handle h v).1 ≡ None) where
    -- a handler that never breaks sees all visits
    pub visits_all_seen : (vs : List (Visit D)) (h : H) → visited handle h vs ≡ vs
    unfolding visited
    visits_all_seen [] h = refl
    visits_all_seen (v ∷ vs) h = rw (goes_on h v, visited) (ap (λ l. v ∷ l) (visits_all_seen vs (handle h v).0))

    -- and one that stores fills returns all of them
    pub handled_writes : (finalize : H → O) (items : O → List ℕ) (fills : H → List ℕ) → ((h : H) → items (finalize h) ≡ fills h) → ((h : H) (v : Visit D) → fills (handle h v).0 ≡ set (fills h) v.index v.fill) →
        (vs : List (Visit D)) (h : H) → items (handled handle finalize h vs) ≡ written (fills h) vs
    unfolding handled
    handled_writes finalize items fills last step [] h = last h
    handled_writes finalize items fills last step (v ∷ vs) h = rw (goes_on h v, handled) (handled_writes finalize items fills last step vs (handle h v).0 ∙ ap (λ l. written l vs) (step h v))

    -- what no visit changes is in the result
    pub handled_keeps : {X : Type 0} (finalize : H → O) (told : O → X) (kept : H → X) → ((h : H) → told (finalize h) ≡ kept h) → ((h : H) (v : Visit D) → kept (handle h v).0 ≡ kept h) →
        (vs : List (Visit D)) (h : H) → told (handled handle finalize h vs) ≡ kept h
    unfolding handled
    handled_keeps finalize told kept last step [] h = last h
    handled_keeps finalize told kept last step (v ∷ vs) h = rw (goes_on h v, handled) (handled_keeps finalize told kept last step vs (handle h v).0 ∙ step h v)

  -- ---- all visits of a sweep

  -- one of the tops is too large where one of the visits has a top that is too large
  pub tops_of_visits : (rule : FillRule) (list : List (DataSegment D)) → visits_leave_range (without_data list) (visits rule list) ≡ tops_leave_range (without_data list)
  unfolding visits_leave_range tops_leave_range visits
  tops_of_visits rule list =
      let xs : List WholeSegment = without_data list in
      let bad : WholeSegment → Bool = λ s. not (is_count_in_range (top xs s)) in
      sym (list_any-IsPermutation (λ v. bad (whole_of v.segment)) (listed_from rule xs 0 list) _ (stably_sorted-IsPermutation visit_cmp (listed_from rule xs 0 list)))
      ∙ through bad (listed_from rule xs 0 list)
      ∙ ap (list_any bad) (wholes-listed rule xs 0 list)
    where
      through : (test : WholeSegment → Bool) (vs : List (Visit D)) → list_any (λ v. test (whole_of v.segment)) vs ≡ list_any test (wholes vs)
      through test [] = refl
      through test (v ∷ vs) = ap (λ b. test (whole_of v.segment) || b) (through test vs)

  pub fills_of_visits : (rule : FillRule) (list : List (DataSegment D)) (fills : List ℕ) → length fills ≡ length list → written fills (visits rule list) ≡ fills_of rule (without_data list)
  unfolding visits
  fills_of_visits rule list fills same =
      let xs : List WholeSegment = without_data list in
      let f : ℕ → ℕ = λ k. get_or (fills_of rule xs) k 0 in
      let told : AllByRecursion (λ v. v.fill ≡ f v.index) (visits rule list) =
      AllByRecursion-stably_sorted visit_cmp (λ v. v.fill ≡ f v.index) (listed_from rule xs 0 list)
      (AllByRecursion-from_Has (λ v. v.fill ≡ f v.index) (listed_from rule xs 0 list) (λ v m. told_at v (is_listed rule xs list v m))) in
      let n : length (fills_of rule xs) ≡ length list = length-map xs _ ∙ length-map list _ in
      let w : length (written fills (visits rule list)) ≡ length fills = length-written fills (visits rule list) in
      same_lists (written fills (visits rule list)) (fills_of rule xs) (w ∙ same ∙ sym n)
      (λ k d l.
      let inside : k < length list = omega (arith, w, same, l) in
      let there : list_any (λ v. v.index == k) (visits rule list) ≡ true = sym (list_any-IsPermutation (λ v. v.index == k) (listed_from rule xs 0 list) _ (stably_sorted-IsPermutation visit_cmp (listed_from rule xs 0 list))) ∙ listed_has rule xs 0 k k list (omega arith) inside in
      written_at f fills (visits rule list) told k d (omega (arith, w, l))
      ∙ ap (λ b. if b then f k else get_or fills k d) there
      ∙ get_or_default (fills_of rule xs) k 0 d (omega (arith, n, inside)))
    where
      told_at : (v : Visit D) → IsListed rule (without_data list) list v → v.fill ≡ get_or (fills_of rule (without_data list)) v.index 0
      told_at v i =
          let in_map : v.index < length (without_data list) = rw length-map i.within in
          i.fill ∙ sym (get_or-map (λ s. fill_of rule (without_data list) s) (without_data list) v.index (whole_of v.segment) 0 in_map
          ∙ ap (λ s. fill_of rule (without_data list) s) (get_or-map (λ (s : DataSegment D). whole_of s) list v.index v.segment (whole_of v.segment) i.within ∙ ap whole_of (i.segment v.segment)))
