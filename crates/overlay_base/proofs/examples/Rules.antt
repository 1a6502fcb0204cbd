-- The fills that each rule keeps.
use Rattle.std.proofs.Common.{◌≡◌, refl, ℕ, List, [], ◌∷◌, filter}
use Rattle.overlay_base.specs.Rules.{holds, keeps_fill, top_value, bottom_value}
use Rattle.overlay_base.specs.declared.overlay_core.overlay_rule.OverlayRule.{OverlayRule}
use Rattle.overlay_base.specs.declared.overlay_core.overlay_rule.OverlayRule.TheVariants.{Subject, Clip, Intersect, Union, Difference, InverseDifference, Xor}

all_fills : List ℕ
all_fills = 0 ∷ 1 ∷ 2 ∷ 3 ∷ 4 ∷ 5 ∷ 6 ∷ 7 ∷ 8 ∷ 9 ∷ 10 ∷ 11 ∷ 12 ∷ 13 ∷ 14 ∷ 15 ∷ []

kept_by : OverlayRule → List ℕ
kept_by rule = filter (keeps_fill (holds rule)) all_fills

subject_fills : kept_by Subject ≡ 1 ∷ 2 ∷ 5 ∷ 6 ∷ 9 ∷ 10 ∷ 13 ∷ 14 ∷ []
unfolding kept_by all_fills keeps_fill top_value bottom_value
subject_fills = refl

clip_fills : kept_by Clip ≡ 4 ∷ 5 ∷ 6 ∷ 7 ∷ 8 ∷ 9 ∷ 10 ∷ 11 ∷ []
unfolding kept_by all_fills keeps_fill top_value bottom_value
clip_fills = refl

intersect_fills : kept_by Intersect ≡ 5 ∷ 7 ∷ 10 ∷ 11 ∷ 13 ∷ 14 ∷ []
unfolding kept_by all_fills keeps_fill top_value bottom_value
intersect_fills = refl

union_fills : kept_by Union ≡ 1 ∷ 2 ∷ 4 ∷ 5 ∷ 8 ∷ 10 ∷ []
unfolding kept_by all_fills keeps_fill top_value bottom_value
union_fills = refl

difference_fills : kept_by Difference ≡ 1 ∷ 2 ∷ 6 ∷ 7 ∷ 9 ∷ 11 ∷ []
unfolding kept_by all_fills keeps_fill top_value bottom_value
difference_fills = refl

inverse_difference_fills : kept_by InverseDifference ≡ 4 ∷ 6 ∷ 8 ∷ 9 ∷ 13 ∷ 14 ∷ []
unfolding kept_by all_fills keeps_fill top_value bottom_value
inverse_difference_fills = refl

xor_fills : kept_by Xor ≡ 1 ∷ 2 ∷ 4 ∷ 7 ∷ 8 ∷ 11 ∷ 13 ∷ 14 ∷ []
unfolding kept_by all_fills keeps_fill top_value bottom_value
xor_fills = refl
