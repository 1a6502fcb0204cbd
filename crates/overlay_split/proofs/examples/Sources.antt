-- Data that numbers the given segments: parts have the number of the whole, and of two that merge the left one's is kept.
use Rattle.std.specs.Prelude.{◌≡◌, refl, IsTrue, ℕ, ℤ, pos, Bool, true, false, not, ◌&&◌, ◌||◌, List, [], ◌∷◌, All, Contains, nat_eq}
use Rattle.std.proofs.Common.{◌∙◌, sym, subst}
use Rattle.std.specs.List.{list_all, list_any}
use Rattle.std.proofs.lemmas.Bool.{eq-eqb, eqb-true, and_parts, and_from, or_left}
use Rattle.std.proofs.lemmas.List.Elements.{All-from_recursion, recursion_from_All}
use Rattle.overlay_geometry.specs.Points.{Pair, pair_eq}
use Rattle.overlay_base.specs.Segments.{are_ordered}
use Rattle.overlay_base.specs.EdgeData.{DataSegment, Hooks, without_data}
use Rattle.overlay_geometry.proofs.laws.geometry.Points.{pair_eq_same, same_pair_by_eq}
use Rattle.overlay_geometry.proofs.laws.lists.Lists.{AllByRecursion-both, AllByRecursion-from_Has, AllByRecursion-from_list_all, AllByRecursion-weaker, Has-from_list_any, list_all-at, list_all-from_Has, list_any-from_Has}
use Rattle.overlay_geometry.proofs.laws.lists.Elements.{Contains-from_Has}
use Rattle.overlay_cuts.specs.DataPass.{data_after_passes}
use Rattle.overlay_cuts.specs.Laws.{HooksKeep, HooksNameNoOther, NameNear}
use Rattle.overlay_cuts.specs.Nearness.{LiesNear, reach_of_run}
use Rattle.overlay_cuts.specs.Run.{Settings, IsRun, after_passes}
use Rattle.overlay_cuts.specs.ExactInput.{is_exact_input}
use Rattle.overlay_cuts.proofs.laws.nearness.Distances.{LiesNear-itself}
use Rattle.overlay_cuts.proofs.laws.nearness.NamedData.{data_names_what_is_near}
use Rattle.overlay_split.proofs.laws.nearness.Nearness.{exact_input_reaches_nothing}
use Rattle.overlay_cuts.proofs.laws.passes.DataInvariants.{data_keeps_what_hooks_keep}
use Rattle.overlay_base.proofs.examples.Words.{neg, pair, count}
use Rattle.overlay_cuts.proofs.examples.Computing.{computing}
use Rattle.overlay_split.proofs.examples.Runs.{high}

abbrev sources : {S : Type 0} → Hooks ℕ S
sources = record {
  reversed = λ source store. (source, store);
  split = λ call store. ((call.edge_data, call.edge_data), store);
  merge = λ call store. (call.lhs_data, store);
}

-- whatever holds of numbers, these hooks keep
sources_keep : {S : Type 0} (has : ℕ → Bool) → HooksKeep (sources {S = S}) has
sources_keep has = record {
  reversed = λ d store h. h;
  split = λ call store h. (h, h);
  merge = λ call store left right. left;
}

-- so each segment after a run has the number of a given one
each_names_a_given_one : {S : Type 0} (settings : Settings) (given : List (DataSegment ℕ)) (store : S) (k : ℕ) →
    IsTrue (list_all (λ s. list_any (λ g. nat_eq g.edge_data s.edge_data) given) (data_after_passes sources settings given store k).0)
each_names_a_given_one settings given store k =
    data_keeps_what_hooks_keep sources (λ d. list_any (λ g. nat_eq g.edge_data d) given) (sources_keep (λ d. list_any (λ g. nat_eq g.edge_data d) given)) settings given store k
    (list_all-from_Has (λ s. list_any (λ g. nat_eq g.edge_data s.edge_data) given) given (λ s here. list_any-from_Has (λ g. nat_eq g.edge_data s.edge_data) given s here (eq-eqb s.edge_data s.edge_data refl)))

-- ---- where the segment of that number lies

-- nor do they name another segment than before
sources_name_no_other : {S : Type 0} (names : ℕ → Pair → Bool) → HooksNameNoOther (sources {S = S}) names
sources_name_no_other names = record {
  reversed = λ d store s h. h;
  split_first = λ call store s h. h;
  split_rest = λ call store s h. h;
  merge = λ call store s h. or_left (names call.lhs_data s) (names call.rhs_data s) h;
}

-- whether a given segment of that number lies on a pair
abbrev numbers : List (DataSegment ℕ) → ℕ → Pair → Bool
numbers given d s = list_any (λ g. nat_eq g.edge_data d && pair_eq g.pair s) given

-- whether those of one number lie on one pair
abbrev are_numbered : List (DataSegment ℕ) → Bool
are_numbered given = list_all (λ g. list_all (λ h. not (nat_eq g.edge_data h.edge_data) || pair_eq g.pair h.pair) given) given

-- r lies that near to a given segment of its number
abbrev LiesNearSource : List (DataSegment ℕ) → ℕ → DataSegment ℕ → Type 0
LiesNearSource given halves r = (g : DataSegment ℕ) × Contains given g × (g.edge_data ≡ r.edge_data) × LiesNear halves r.pair g.pair

implied : (b c : Bool) → (not b || c) ≡ true → b ≡ true → c ≡ true
implied true c h e = h
implied false c h e = absurd (cc)

-- a segment lies on each pair that its number names
abbrev LiesOnNamed : List (DataSegment ℕ) → DataSegment ℕ → Type 0
LiesOnNamed given g = (s : Pair) → IsTrue (numbers given g.edge_data s) → LiesNear 0 g.pair s

given_lie_there : (given : List (DataSegment ℕ)) → IsTrue (are_numbered given) → NameNear (numbers given) 0 given
given_lie_there given numbered =
    All-from_recursion (LiesOnNamed given) given (AllByRecursion-from_Has (LiesOnNamed given) given (λ g here s named.
    let found = Has-from_list_any (λ h. nat_eq h.edge_data g.edge_data && pair_eq h.pair s) given named in
    let parts = and_parts (nat_eq found.0.edge_data g.edge_data) (pair_eq found.0.pair s) found.2 in
    let row = list_all-at (λ h. not (nat_eq found.0.edge_data h.edge_data) || pair_eq found.0.pair h.pair) given g (list_all-at (λ f. list_all (λ h. not (nat_eq f.edge_data h.edge_data) || pair_eq f.pair h.pair) given) given found.0 numbered found.1) here in
    let same = same_pair_by_eq found.0.pair g.pair (implied _ _ row parts.0) in
    subst (λ (t : Pair). LiesNear 0 g.pair t) (sym same ∙ same_pair_by_eq found.0.pair s parts.1) (LiesNear-itself g.pair)))

-- so each lies as near to the given segment whose number it has as the passes reach
each_lies_near_its_source : {S : Type 0} (settings : Settings) (given : List (DataSegment ℕ)) (store : S) (k : ℕ) → IsTrue (are_ordered (without_data given)) → IsTrue (are_numbered given) →
    All (LiesNearSource given (reach_of_run settings (without_data given) k)) (data_after_passes sources settings given store k).0
each_lies_near_its_source settings given store k ordered numbered =
    let result = (data_after_passes sources settings given store k).0 in
    let halves = reach_of_run settings (without_data given) k in
    let named = AllByRecursion-from_list_all (λ s. list_any (λ g. nat_eq g.edge_data s.edge_data) given) result (each_names_a_given_one settings given store k) in
    let near = recursion_from_All _ result (data_names_what_is_near sources (numbers given) (sources_name_no_other (numbers given)) settings given store k ordered (given_lie_there given numbered)) in
    All-from_recursion (LiesNearSource given halves) result
    (AllByRecursion-weaker (λ r. IsTrue (list_any (λ g. nat_eq g.edge_data r.edge_data) given) × ((s : Pair) → IsTrue (numbers given r.edge_data s) → LiesNear halves r.pair s)) (LiesNearSource given halves) (λ r h.
    let found = Has-from_list_any (λ g. nat_eq g.edge_data r.edge_data) given h.0 in (
      found.0,
      Contains-from_Has given found.0 found.1,
      eqb-true _ _ found.2,
      h.1 found.0.pair (list_any-from_Has (λ g. nat_eq g.edge_data r.edge_data && pair_eq g.pair found.0.pair) given found.0 found.1 (and_from _ _ found.2 (pair_eq_same found.0.pair))),
    ))
    result (AllByRecursion-both _ _ result named near))

-- and on it, where no two given segments cross at a point that is not whole
each_lies_on_its_source : {S : Type 0} (settings : Settings) (given : List (DataSegment ℕ)) (store : S) (k : ℕ) (flag : Bool) → IsTrue (are_ordered (without_data given)) → IsTrue (are_numbered given) →
    IsTrue (is_exact_input (without_data given)) → IsRun settings (without_data given) (after_passes settings (without_data given) k) k flag → All (LiesNearSource given 0) (data_after_passes sources settings given store k).0
each_lies_on_its_source settings given store k flag ordered numbered exact run =
    subst (λ (n : ℕ). All (LiesNearSource given n) (data_after_passes sources settings given store k).0) (exact_input_reaches_nothing settings (without_data given) (after_passes settings (without_data given) k) k flag ordered exact run)
    (each_lies_near_its_source settings given store k ordered numbered)

-- The second of two segments is bent through an end of the first: both halves have its number, and lie 1 from it at that end. Passes reach 4 halves.
numbered : ℤ → ℤ → ℤ → ℤ → ℤ → ℕ → DataSegment ℕ
numbered ax ay bx by subj number = record { pair = pair ax ay bx by; count = count subj (pos 0); edge_data = number }

two_numbered : List (DataSegment ℕ)
two_numbered = numbered (pos 0) (pos 0) (pos 100) (pos 1) (pos 1) 0 ∷ numbered (pos 1) (neg 50) (pos 1) (pos 50) (pos 1) 1 ∷ []

bent_keeps_number : (data_after_passes (sources {S = ℕ}) (high 256) two_numbered 0 2).0 ≡ (numbered (pos 0) (pos 0) (pos 1) (neg 50) (neg 1) 1 ∷ numbered (pos 0) (pos 0) (pos 1) (pos 50) (pos 1) 1 ∷ numbered (pos 0) (pos 0) (pos 100) (pos 1) (pos 1) 0 ∷ [])
unfolding computing numbered two_numbered
bent_keeps_number = refl

reach_there : reach_of_run (high 256) (without_data two_numbered) 2 ≡ 4
unfolding computing numbered two_numbered
reach_there = refl

each_has_its_number : are_numbered two_numbered ≡ true
unfolding numbered two_numbered
each_has_its_number = refl
