-- The order of the given segments does not count: a join of them in another order is the same, and all that follows is made of it.
use Rattle.std.proofs.Common.{◌≡◌, IsPermutation, refl, sym, ap, ap₂, ◌∙◌, ℕ, zero, suc}
use Rattle.std.specs.Prelude.{Bool, ◌||◌, ◌&&◌, nat_le, nat_lt, List, length}
use Rattle.overlay_base.specs.Segments.{WholeSegment}
use Rattle.overlay_base.proofs.laws.joins.Maps.{join-IsPermutation}
use Rattle.overlay_base.proofs.laws.joins.Repeats.{has_equal_pairs-IsPermutation}
use Rattle.overlay_intersections.specs.PassMarks.{is_rounded, mark_count}
use Rattle.overlay_cuts.specs.Pass.{pass}
use Rattle.overlay_cuts.specs.Run.{Settings, placing_of_pass, after_passes, goes_on, has_marked, has_changed}
use Rattle.overlay_split.specs.Laws.{PassesIgnoreOrder, RunIgnoresOrder}

pub passes_ignore_order : PassesIgnoreOrder
unfolding after_passes
passes_ignore_order settings given other zero same = join-IsPermutation given other same
passes_ignore_order settings given other (suc k) same = ap (λ (segments : List WholeSegment). pass (placing_of_pass settings (suc k)) segments) (passes_ignore_order settings given other k same)

module _ (settings : Settings) (given other : List WholeSegment) (same : IsPermutation given other) where
  same_after : (k : ℕ) → after_passes settings other k ≡ after_passes settings given k
  same_after k = passes_ignore_order settings given other k same

  goes_on_alike : (k : ℕ) → goes_on settings other k ≡ goes_on settings given k
  unfolding goes_on
  goes_on_alike zero = ap (λ (segments : List WholeSegment). nat_le 2 (length segments)) (join-IsPermutation given other same)
  goes_on_alike (suc k) = ap₂ (λ (next before : List WholeSegment). nat_le 2 (length next) && is_rounded before) (same_after (suc k)) (same_after k)

  has_marked_alike : (k : ℕ) → has_marked settings other k ≡ has_marked settings given k
  unfolding has_marked
  has_marked_alike zero = refl
  has_marked_alike (suc k) = ap₂ (λ (b : Bool) (before : List WholeSegment). b || nat_lt 0 (mark_count (placing_of_pass settings (suc k)) before)) (has_marked_alike k) (same_after k)

  has_changed_alike : (k : ℕ) → has_changed settings other k ≡ has_changed settings given k
  unfolding has_changed
  has_changed_alike k = ap₂ (λ (b c : Bool). b || c) (has_equal_pairs-IsPermutation given other same) (has_marked_alike k)

pub run_ignores_order : RunIgnoresOrder
run_ignores_order settings given other result passes flag same run = record {
  count = record {
    made = λ j h. goes_on_alike settings given other same j ∙ run.count.made j h;
    no_more = goes_on_alike settings given other same passes ∙ run.count.no_more;
  };
  arrangement = run.arrangement ∙ sym (passes_ignore_order settings given other passes same);
  changed = run.changed ∙ sym (has_changed_alike settings given other same passes);
}
