-- What a scan of columns compares, along an axis.
use Rattle.std.specs.Prelude.{ℕ, int_le, Bool, List, sum_by}
use Rattle.std.specs.List.{range_with_len}
use Rattle.overlay_intersections.specs.Looked.{ranges_meet, count_twos}
use Rattle.overlay_grid.specs.FragmentOf.{KeptFragment, least_along, greatest_along}
use Rattle.overlay_grid.specs.declared.split.axis.Axis.{Axis}

-- whether the heights of two fragments meet
abbrev pub do_heights_meet : KeptFragment → KeptFragment → Bool
do_heights_meet f g = ranges_meet f.rect.min_y f.rect.max_y g.rect.min_y g.rect.max_y

-- how many pairs of a group, and of so many groups, share a height
abbrev pub twos_in_height : List KeptFragment → ℕ
twos_in_height fs = count_twos do_heights_meet fs

abbrev pub all_twos_in_height : (ℕ → List KeptFragment) → ℕ → ℕ
all_twos_in_height groups columns = sum_by (λ column. twos_in_height (groups column)) (range_with_len 0 columns)

-- whether a scan along an axis comes from one fragment to a later one: this begins up to where the first ends
abbrev pub is_reached : Axis → KeptFragment → KeptFragment → Bool
is_reached axis f g = int_le (least_along axis g) (greatest_along axis f)

-- how many comparisons a group takes, and that many groups
abbrev pub looks_of_group : Axis → List KeptFragment → ℕ
looks_of_group axis fs = count_twos (is_reached axis) fs

abbrev pub looks_of_groups : Axis → (ℕ → List KeptFragment) → ℕ → ℕ
looks_of_groups axis groups columns = sum_by (λ column. looks_of_group axis (groups column)) (range_with_len 0 columns)
