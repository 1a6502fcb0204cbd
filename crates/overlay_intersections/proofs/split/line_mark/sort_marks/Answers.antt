use Rattle.std.proofs.Common.{◌≡◌, sym, subst, ◌++◌, ◌∙◌, ℕ, List, IsPermutation, length, take, drop}
use Rattle.std.proofs.lemmas.List.{take_at}
use Rattle.std.proofs.lemmas.List.Sorted.{IsPermutation-trans}
use Rattle.overlay_intersections.proofs.split.line_mark.sort_marks.Goals as goal

-- marks sorted by their indexes are moved in their slice, and written back
moved : {X : Type 0} (given keyed parts : List X) (n : ℕ) → length parts ≡ n → IsPermutation given keyed → IsPermutation keyed parts → IsPermutation given (take n (parts ++ drop (length parts) keyed))
moved given keyed parts n e p q = subst (λ list. IsPermutation given list) (sym (take_at parts _ n e)) (IsPermutation-trans _ _ _ p q)

pub returns-in_err-sort_each_index-clause-permutation :
    goal.returns-in_err-sort_each_index-clause-permutation
returns-in_err-sort_each_index-clause-permutation g c =
    moved _ _ c.sort_each_index.new.marks _ (c.sort_each_index.auto.marks ∙ c.as_mut_slice.ensures.len)
    c.sort_by_key.ensures.permutation (rw c.as_mut_slice.ensures.value at c.sort_each_index.ensures)

pub returns-clause-permutation : goal.returns-clause-permutation
returns-clause-permutation g c =
    IsPermutation-trans _ _ _
    (moved _ _ c.sort_each_index.new.marks _ (c.sort_each_index.auto.marks ∙ c.as_mut_slice.ensures.len)
    c.sort_by_key.ensures.permutation (rw c.as_mut_slice.ensures.value at c.sort_each_index.ensures))
    c.sort.ensures.permutation

pub returns-clause-sorted : goal.returns-clause-sorted
returns-clause-sorted g c = simp g.met.I.OverlayInt.ordered at c.sort.ensures.sorted
