use Rattle.std.proofs.Common.{rules, arith}
use Rattle.std.proofs.lemmas.List.Sorted.{IsPermutation-trans, IsPermutation-put_mid}
use Rattle.std.proofs.lemmas.Grind.{common_steps}
use Rattle.overlay_intersections.proofs.split.line_mark.sort_each_index.Goals as goal
use Rattle.overlay_intersections.proofs.split.line_mark.sort_each_index.Goals.{then-marks-place+then-place-from-gt1+in_ok-sort, then-marks-place+else-place-from-gt1, else-marks-place}

pub loop-place-preserved : goal.loop-place-preserved
loop-place-preserved g c = record {
  permutation = elim c.if-marks-place.branch [
    | then-marks-place+then-place-from-gt1+in_ok-sort w ↦ rw w.marks-is (IsPermutation-trans _ _ _ c.loop-place.invariant.permutation (IsPermutation-put_mid c.loop-place.from _ _ _ w.sort.ensures.permutation))
    | then-marks-place+else-place-from-gt1 w ↦ rw w.marks-is c.loop-place.invariant.permutation
    | else-marks-place w ↦ rw w.marks-is c.loop-place.invariant.permutation
  ];
  before = search rules;
  inside = search rules;
}

pub returns-in_ok-sort-2 : goal.returns-in_ok-sort-2
returns-in_ok-sort-2 g c =
    IsPermutation-trans _ _ _ c.loop-place.invariant.permutation (IsPermutation-put_mid c.loop-place.from _ _ _ c.sort-then-marks-from-gt1.ensures.permutation)

pub offset_bounds-marks-from : goal.offset_bounds-marks-from
offset_bounds-marks-from g c = grind (arith, common_steps)

pub offset_bounds-marks-from-then-place-from-gt1 : goal.offset_bounds-marks-from-then-place-from-gt1
offset_bounds-marks-from-then-place-from-gt1 g c = grind (arith, common_steps)

pub returns-in_err-sort : goal.returns-in_err-sort
returns-in_err-sort g c = grind (arith, common_steps)

pub offset_bounds-marks-from-then-marks-from-gt1 : goal.offset_bounds-marks-from-then-marks-from-gt1
offset_bounds-marks-from-then-marks-from-gt1 g c = grind (arith, common_steps)

pub returns-in_err-sort-2 : goal.returns-in_err-sort-2
returns-in_err-sort-2 g c = grind (arith, common_steps)
