-- Windings at places, and how far from the given segments a run changes them.
use Rattle.std.proofs.Common.{inl, inr, sym, subst, arith, ◌≡◌, refl}
use Rattle.std.specs.Prelude.{ℕ, ℤ, pos, true, false, [], ◌∷◌, List, map}
use Rattle.std.proofs.lemmas.Int.{ints}
use Rattle.overlay_geometry.specs.Points.{Pair}
use Rattle.overlay_base.specs.Segments.{WholeSegment, pairs}
use Rattle.overlay_geometry.proofs.laws.lists.Lists.{Has}
use Rattle.overlay_cuts.specs.Run.{after_passes}
use Rattle.overlay_base.specs.Places.{RationalPoint, lies_below, winding_below}
use Rattle.overlay_cuts.specs.Nearness.{IsNear, reach_of_run, with_mask, LinesStayNear}
use Rattle.overlay_cuts.specs.Places.{IsFar, that_wind}
use Rattle.overlay_split.proofs.laws.nearness.NearLines.{run_keeps_winding_near_lines}
use Rattle.overlay_split.proofs.laws.nearness.NearMasks.{run_keeps_lines}
use Rattle.overlay_split.proofs.laws.nearness.Places.{run_keeps_winding}
use Rattle.overlay_base.proofs.examples.Words.{neg, pair, seg, line, count}
use Rattle.overlay_cuts.proofs.examples.Computing.{computing}
use Rattle.overlay_split.proofs.examples.Runs.{high}
use Rattle.overlay_cuts.proofs.examples.Squares.{two_squares, twelve}
use Rattle.overlay_geometry.proofs.laws.lists.Elements.{Has-from_Contains}

abbrev place : ℤ → ℤ → ℕ → RationalPoint
place x y bottom = record { x = x; y = y; bottom = bottom }

-- in the subject, in both, in the clip, outside, and at half a unit from a corner
squares_wind : map (winding_below two_squares) (place (pos 1) (pos 1) 1 ∷ place (pos 3) (pos 3) 1 ∷ place (pos 5) (pos 5) 1 ∷ place (pos 7) (pos 1) 1 ∷ place (pos 1) (pos 9) 2 ∷ [])
    ≡ (count (pos 1) (pos 0) ∷ count (pos 1) (pos 1) ∷ count (pos 0) (pos 1) ∷ count (pos 0) (pos 0) ∷ count (pos 0) (pos 0) ∷ [])
unfolding computing
squares_wind = refl

arranged_squares_wind : map (winding_below twelve) (place (pos 1) (pos 1) 1 ∷ place (pos 3) (pos 3) 1 ∷ place (pos 5) (pos 5) 1 ∷ place (pos 7) (pos 1) 1 ∷ place (pos 1) (pos 9) 2 ∷ [])
    ≡ (count (pos 1) (pos 0) ∷ count (pos 1) (pos 1) ∷ count (pos 0) (pos 1) ∷ count (pos 0) (pos 0) ∷ count (pos 0) (pos 0) ∷ [])
unfolding computing
arranged_squares_wind = refl

-- two that cross at (3/2, 3/2), which is marked at (2, 2): the second is bent upward there
abbrev crossing : List WholeSegment
crossing = (seg (pos 0) (pos 0) (pos 5) (pos 5) (pos 1) ∷ seg (pos 0) (pos 3) (pos 5) (neg 2) (pos 1) ∷ [])

crossing_reach : reach_of_run (high 256) crossing 2 ≡ 4
unfolding computing
crossing_reach = refl

-- so at (3/2, 2) the winding changes: that place is near
near_before : winding_below crossing (place (pos 3) (pos 4) 2) ≡ count (pos 2) (pos 0)
unfolding computing
near_before = refl

near_after : winding_below (after_passes (high 256) crossing 2) (place (pos 3) (pos 4) 2) ≡ count (pos 1) (pos 0)
unfolding computing
near_after = refl

-- the place (3/2, 6) is farther than two units from both, so there it cannot
far_place : IsFar 4 (place (pos 3) (pos 12) 2) (pairs crossing)
far_place (s, i, near) = by (Has-from_Contains (pairs crossing) s i)
  where
    from_first : IsNear 4 (place (pos 3) (pos 12) 2) (pair (pos 0) (pos 0) (pos 5) (pos 5)) → ⊥
    from_first (f, near) = omega (arith, ints, f.positive, near.in_x, near.in_y)

    from_second : IsNear 4 (place (pos 3) (pos 12) 2) (pair (pos 0) (pos 3) (pos 5) (neg 2)) → ⊥
    from_second (f, near) = omega (arith, ints, f.positive, f.at_most_one, near.in_x, near.in_y)

    by : Has (pairs crossing) s → ⊥
    by (inl e) = from_first (subst (λ (t : Pair). IsNear 4 (place (pos 3) (pos 12) 2) t) (sym e) near)
    by (inr (inl e)) = from_second (subst (λ (t : Pair). IsNear 4 (place (pos 3) (pos 12) 2) t) (sym e) near)
    by (inr (inr none)) = absurd none

far_stays : winding_below (after_passes (high 256) crossing 2) (place (pos 3) (pos 12) 2) ≡ winding_below crossing (place (pos 3) (pos 12) 2)
far_stays = run_keeps_winding (high 256) crossing 2 refl (place (pos 3) (pos 12) 2) (subst (λ (h : ℕ). IsFar h (place (pos 3) (pos 12) 2) (pairs crossing)) (sym crossing_reach) far_place)

-- A wall of the subject and a line that crosses it at (3/2, 3/2), which is marked at (2, 2): the line is bent upward there.
abbrev wall_and_line : List WholeSegment
wall_and_line = (seg (neg 10) (neg 10) (pos 10) (pos 10) (pos 1) ∷ line (neg 10) (pos 13) (pos 10) (neg 7) (pos 0) 2 ∷ [])

line_is_bent : after_passes (high 256) wall_and_line 2
    ≡ (seg (neg 10) (neg 10) (pos 2) (pos 2) (pos 1) ∷ line (neg 10) (pos 13) (pos 2) (pos 2) (pos 0) 2 ∷ line (pos 2) (pos 2) (pos 10) (neg 7) (pos 0) 2 ∷ seg (pos 2) (pos 2) (pos 10) (pos 10) (pos 1) ∷ [])
unfolding computing
line_is_bent = refl

wall_and_line_reach : reach_of_run (high 256) wall_and_line 2 ≡ 4
unfolding computing
wall_and_line_reach = refl

-- So the place (-3, 13/2), which is over the line before, is under it after. The wall is more than two units away.
line_moves_past : (lies_below (pair (neg 10) (pos 13) (pos 10) (neg 7)) (place (neg 6) (pos 13) 2) ∷ lies_below (pair (neg 10) (pos 13) (pos 2) (pos 2)) (place (neg 6) (pos 13) 2) ∷ []) ≡ (true ∷ false ∷ [])
line_moves_past = refl

far_from_wall : IsFar 4 (place (neg 6) (pos 13) 2) (pairs (that_wind wall_and_line))
far_from_wall (s, i, near) = by (Has-from_Contains (pairs (that_wind wall_and_line)) s i)
  where
    from_wall : IsNear 4 (place (neg 6) (pos 13) 2) (pair (neg 10) (neg 10) (pos 10) (pos 10)) → ⊥
    from_wall (f, near) = omega (arith, ints, f.positive, near.in_x, near.in_y)

    by : Has (pairs (that_wind wall_and_line)) s → ⊥
    by (inl e) = from_wall (subst (λ (t : Pair). IsNear 4 (place (neg 6) (pos 13) 2) t) (sym e) near)
    by (inr none) = absurd none

-- The line does not wind, so the winding stays: 1, of the wall alone.
winds_past_line : winding_below (after_passes (high 256) wall_and_line 2) (place (neg 6) (pos 13) 2) ≡ winding_below wall_and_line (place (neg 6) (pos 13) 2)
winds_past_line = run_keeps_winding_near_lines (high 256) wall_and_line 2 refl (place (neg 6) (pos 13) 2) (subst (λ (h : ℕ). IsFar h (place (neg 6) (pos 13) 2) (pairs (that_wind wall_and_line))) (sym wall_and_line_reach) far_from_wall)

winds_of_wall : winding_below wall_and_line (place (neg 6) (pos 13) 2) ≡ count (pos 1) (pos 0)
unfolding computing
winds_of_wall = refl

-- The line lies after the passes near where it lay, and every point of it near where it lies then.
line_stays : LinesStayNear (high 256) wall_and_line (after_passes (high 256) wall_and_line 2) 2
line_stays = run_keeps_lines (high 256) wall_and_line 2 refl refl

bent_lines : pairs (with_mask (after_passes (high 256) wall_and_line 2)) ≡ (pair (neg 10) (pos 13) (pos 2) (pos 2) ∷ pair (pos 2) (pos 2) (pos 10) (neg 7) ∷ [])
unfolding computing
bent_lines = refl
