use Rattle.std.proofs.Common.{◌≡◌, sym, ap, subst, ◌∙◌, ℕ, ◌<◌, arith, Bool, true, false, List, [], ◌∷◌, length, IsTrue}
use Rattle.std.specs.Prelude.{◌&&◌, ◌==◌, not}
use Rattle.std.proofs.lemmas.Bool.{and_from}
use Rattle.std.proofs.lemmas.Bool.Decides.{nat_tests}
use Rattle.std.proofs.lemmas.List.{length-map}
use Rattle.overlay_base.specs.Choices.{grid_splits, list_splits}
use Rattle.overlay_base.specs.Segments.{pairs}
use Rattle.overlay_base.specs.SegmentOf.{segments_of}
use Rattle.overlay_base.specs.declared.segm.segment.Segment.{Segment}
use Rattle.overlay_grid.specs.Grid.{Layout, IsLayoutOf, IsTooNarrow}
use Rattle.overlay_grid.specs.GroupsOf.{grid_of}
use Rattle.overlay_cuts.proofs.split.finder.grid_over.Goals as goal

zero_from : (n : ℕ) → true ≡ (n == 0) → n ≡ 0
zero_from n e = grind (arith, nat_tests)

positive_from : (n : ℕ) → false ≡ (n == 0) → 0 < n
positive_from n e = grind (arith, nat_tests)

none_narrow : {C I D : Type 0} {m : _} {w : _} {o : _} {e : _} {p : _} (xs : List (Segment C I D m w o e p)) → length xs ≡ 0 → IsTooNarrow (pairs (segments_of xs))
none_narrow [] e = tt
none_narrow (x ∷ xs) e = absurd (omega arith)

unless_asked : {P : Type 0} (a b : Bool) → a ≡ false → IsTrue (a && not b) → P
unless_asked true b e h = absurd (cc)
unless_asked false b e h = absurd (cc)

unless_list : {P : Type 0} (a b : Bool) → b ≡ true → IsTrue (a && not b) → P
unless_list true true e h = absurd (cc)
unless_list false true e h = absurd (cc)
unless_list a false e h = absurd (cc)

pub returns-then-is_empty-clause-grid : goal.returns-then-is_empty-clause-grid
returns-then-is_empty-clause-grid g c = λ h. none_narrow c.args.first.now (zero_from (length c.args.first.now) (sym c.if-is_empty.true ∙ c.is_empty.ensures))

pub returns-then-not-is_fragmentation_required-clause-grid : goal.returns-then-not-is_fragmentation_required-clause-grid
returns-then-not-is_fragmentation_required-clause-grid g c =
    let asked = grid_splits c.args.solver.now.strategy in
    let count : length (segments_of c.args.first.now) ≡ length c.args.first.now = length-map _ _ in
    λ h. unless_asked (asked (length (segments_of c.args.first.now))) _ (ap asked count ∙ (sym c.is_fragmentation_required.ensures ∙ c.if-not-is_fragmentation_required.true)) h

pub returns-then-is_list_split-clause-grid : goal.returns-then-is_list_split-clause-grid
returns-then-is_list_split-clause-grid g c =
    let list = list_splits c.args.solver.now.strategy in
    let count : length (segments_of c.args.first.now) ≡ length c.args.first.now = length-map _ _ in
    λ h. unless_list _ (list (length (segments_of c.args.first.now))) (ap list count ∙ (sym c.is_list_split.ensures ∙ c.if-is_list_split.true)) h

pub over_list-requires-clause-some : goal.over_list-requires-clause-some
over_list-requires-clause-some g c = positive_from (length c.args.first.now) (sym c.if-is_empty.false ∙ c.is_empty.ensures)

pub over_list-requires-clause-count : goal.over_list-requires-clause-count
over_list-requires-clause-count g c = positive_from (length c.args.first.now) (sym c.if-is_empty.false ∙ c.is_empty.ensures)

pub over_list-requires-clause-in_range : goal.over_list-requires-clause-in_range
over_list-requires-clause-in_range g c = c.requires.in_range

pub returns-in_ok-buffer-in-Some-clause-grid : goal.returns-in_ok-buffer-in-Some-clause-grid
returns-in_ok-buffer-in-Some-clause-grid g c =
    let asked = grid_splits c.args.solver.now.strategy in
    let list = list_splits c.args.solver.now.strategy in
    let ps = pairs (segments_of c.args.first.now) in
    let wanted : c.is_fragmentation_required.result ≡ true = cc in
    let unlisted : c.is_list_split.result ≡ false = cc in
    let count : length (segments_of c.args.first.now) ≡ length c.args.first.now = length-map _ _ in (
      and_from (asked (length (segments_of c.args.first.now))) (not (list (length (segments_of c.args.first.now))))
          (ap asked count ∙ (sym c.is_fragmentation_required.ensures ∙ wanted)) (ap not (ap list count ∙ (sym c.is_list_split.ensures ∙ unlisted))),
      subst (λ (n : ℕ). IsLayoutOf ps n (grid_of c.in_ok-buffer-in-Some.buffer)) (sym count) (subst (λ (l : Layout). IsLayoutOf ps (length c.args.first.now) l) (sym c.in_ok-buffer-in-Some.ensures.layout) c.in-Some.ensures.layout),
    )

pub returns-in-None-clause-grid : goal.returns-in-None-clause-grid
returns-in-None-clause-grid g c = λ h. c.in-None.ensures.none
