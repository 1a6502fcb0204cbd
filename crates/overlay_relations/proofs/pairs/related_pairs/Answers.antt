use Rattle.std.proofs.Common.{◌≡◌, ◌∙◌, ◌↔◌, ◌++◌, ◌+◌, List, sym, ap, subst, length, map, arith}
use Rattle.std.specs.Prelude.{Contains, ℕ}
use Rattle.std.proofs.lemmas.List.Sorted.{Contains-permutation, IsPermutation-sym}
use Rattle.overlay_relations.specs.steps.Columns.{members_of}
use Rattle.overlay_relations.specs.Pairs.{AreRelatedPairs, IsBoxOfSome, pair_of}
use Rattle.overlay_relations.specs.declared.columns.Column.{Column}
use Rattle.overlay_relations.specs.declared.pairs.RelatedPair.{RelatedPair}
use Rattle.overlay_relations.proofs.laws.PairLists.{next_pairs}
use Rattle.overlay_relations.proofs.pairs.related_pairs.Goals as goal

pub partners_of-requires-clause-boxes : goal.partners_of-requires-clause-boxes
partners_of-requires-clause-boxes g c b =
    let boxes = c.in_ok-boxes_of.field-0.items in
    let members = members_of c.in_ok-columns.columns.items in
    let same = c.in_ok-columns.ensures.members in
    subst (λ (l : List (Column _)). Contains (members_of l) b ↔ IsBoxOfSome (length c.args.second.now) c.args.second.now b) (sym c.deref.ensures.value) (
      λ m. (c.in_ok-boxes_of.ensures b).0 (Contains-permutation members boxes b (IsPermutation-sym boxes members same) m),
      λ h. Contains-permutation boxes members b same ((c.in_ok-boxes_of.ensures b).1 h),
    )

pub loop-number-preserved : goal.loop-number-preserved
loop-number-preserved g c =
    let n = c.loop-number.number in
    let partners = c.in_ok-partners.partners.items in
    let added = c.in_ok-add_pairs.ensures ∙ ap (λ (l : List ℕ). c.loop-number.pairs.items ++ map (pair_of n) l) c.deref-in-loop-number.ensures.value in
    subst (λ (l : List RelatedPair). AreRelatedPairs c.args.predicate (n + 1) c.args.first.now c.args.second.now l) (sym added)
    (next_pairs c.args.predicate c.args.first.now c.args.second.now n c.loop-number.pairs.items partners c.loop-number.invariant c.in_ok-partners.ensures.in_order c.in_ok-partners.ensures.numbered c.in_ok-partners.ensures.exact)

pub returns-clause-pairs : goal.returns-clause-pairs
returns-clause-pairs g c =
    let all : c.loop-number.number ≡ length c.args.first.now = omega (arith, c.loop-number-test.false, c.loop-number.auto.number-end) in
    subst (λ n. AreRelatedPairs c.args.predicate n c.args.first.now c.args.second.now c.loop-number.pairs.items) all c.loop-number.invariant
