-- Snapped results, by hand: which points are hot, which segments move, and the pieces along their chains.
use Rattle.std.proofs.Common.{arith}
use Rattle.std.specs.Prelude.{◌≡◌, refl, pos, List, [], ◌∷◌}
use Rattle.overlay_geometry.specs.Points.{Point, Pair}
use Rattle.std.specs.List.{AllByRecursion}
use Rattle.overlay_base.specs.Segments.{WholeSegment, pairs}
use Rattle.overlay_base.proofs.examples.Words.{neg, point, pair, seg}
use Rattle.overlay_snapping.specs.Chains.{rounded_crossings, IsHot, rounded, passed, Moves, passes, IsSnapped}
use Rattle.overlay_snapping.proofs.laws.chains.Closures.{AreClosed, chain_of_mover, chain_in_place}
use Rattle.overlay_snapping.proofs.examples.Computing.{computing}

-- ---- two that cross at (3/2, 3/2), which is rounded to (2, 2). That point lies on the first, which stays in place; the second moves

abbrev pub two : List WholeSegment
two = seg (pos 0) (pos 0) (pos 5) (pos 5) (pos 1) ∷ seg (pos 0) (pos 3) (pos 5) (neg 2) (pos 2) ∷ []

abbrev pub two_hot : List Point
two_hot = point (pos 2) (pos 2) ∷ []

abbrev pub two_movers : List Pair
two_movers = pair (pos 0) (pos 3) (pos 5) (neg 2) ∷ []

pub crossing_of_two : IsHot (pairs two) (point (pos 2) (pos 2))
unfolding computing
crossing_of_two = rounded (0, omega arith, refl)

pub second_of_two : Moves (pairs two) (pair (pos 0) (pos 3) (pos 5) (neg 2))
unfolding computing
second_of_two = passes (1, omega arith, refl) crossing_of_two refl

pub two_closed : AreClosed (pairs two) two_hot two_movers
unfolding computing
two_closed = record { crossings = refl; given = refl; passing = refl }

two_snapped : IsSnapped two (
    seg (pos 0) (pos 0) (pos 2) (pos 2) (pos 1) ∷ seg (pos 0) (pos 3) (pos 2) (pos 2) (pos 2)
    ∷ seg (pos 2) (pos 2) (pos 5) (neg 2) (pos 2) ∷ seg (pos 2) (pos 2) (pos 5) (pos 5) (pos 1) ∷ [])
unfolding computing
two_snapped = (
  (point (pos 0) (pos 0) ∷ point (pos 2) (pos 2) ∷ point (pos 5) (pos 5) ∷ []) ∷ (point (pos 0) (pos 3) ∷ point (pos 2) (pos 2) ∷ point (pos 5) (neg 2) ∷ []) ∷ [],
  (
    chain_in_place (pairs two) two_hot two_movers _ _ two_closed (crossing_of_two, tt) refl (record { in_order = refl; has_all = refl; has_no_other = refl }),
    (chain_of_mover (pairs two) two_hot two_movers _ _ two_closed (crossing_of_two, tt) second_of_two (record { in_order = refl; has_all = refl; has_no_other = refl }), tt),
  ),
  refl,
)

-- ---- Three: the first and the second each cross the third. The end (2, 1) of the first becomes hot only because the third moves,
-- which passes by it; and only because of that end the second moves.

abbrev first : Pair
first = pair (pos 1) (pos 3) (pos 2) (pos 1)

abbrev second : Pair
second = pair (pos 1) (pos 1) (pos 2) (pos 0)

abbrev third : Pair
third = pair (pos 1) (pos 0) (pos 2) (pos 2)

abbrev three : List WholeSegment
three = seg (pos 1) (pos 3) (pos 2) (pos 1) (pos 1) ∷ seg (pos 1) (pos 1) (pos 2) (pos 0) (pos 2) ∷ seg (pos 1) (pos 0) (pos 2) (pos 2) (pos 4) ∷ []

three_crossings : rounded_crossings (pairs three) ≡ (point (pos 2) (pos 2) ∷ point (pos 1) (pos 1) ∷ point (pos 2) (pos 2) ∷ point (pos 1) (pos 1) ∷ [])
unfolding computing
three_crossings = refl

abbrev three_hot : List Point
three_hot = point (pos 2) (pos 2) ∷ point (pos 1) (pos 1) ∷ point (pos 2) (pos 1) ∷ []

upper_crossing : IsHot (pairs three) (point (pos 2) (pos 2))
unfolding computing
upper_crossing = rounded (0, omega arith, refl)

lower_crossing : IsHot (pairs three) (point (pos 1) (pos 1))
unfolding computing
lower_crossing = rounded (1, omega arith, refl)

first_moves : Moves (pairs three) first
unfolding computing
first_moves = passes (0, omega arith, refl) upper_crossing refl

third_moves : Moves (pairs three) third
unfolding computing
third_moves = passes (2, omega arith, refl) lower_crossing refl

end_is_hot : IsHot (pairs three) (point (pos 2) (pos 1))
unfolding computing
end_is_hot = passed (1, omega arith, refl) third_moves refl

second_moves : Moves (pairs three) second
unfolding computing
second_moves = passes (1, omega arith, refl) end_is_hot refl

abbrev three_movers : List Pair
three_movers = first ∷ second ∷ third ∷ []

three_closed : AreClosed (pairs three) three_hot three_movers
unfolding computing
three_closed = record { crossings = refl; given = refl; passing = refl }

three_are_hot : AllByRecursion (λ c. IsHot (pairs three) c) three_hot
three_are_hot = (upper_crossing, (lower_crossing, (end_is_hot, tt)))

-- The first and the second fall through a column, so pieces of theirs are turned and their counts inverted. Between (2, 1) and (2, 2) run the
-- first, turned, and the third.
three_snapped : IsSnapped three (
    seg (pos 1) (pos 0) (pos 1) (pos 1) (pos 4) ∷ seg (pos 1) (pos 1) (pos 2) (pos 1) (pos 6) ∷ seg (pos 1) (pos 3) (pos 2) (pos 2) (pos 1)
    ∷ seg (pos 2) (pos 0) (pos 2) (pos 1) (neg 2) ∷ seg (pos 2) (pos 1) (pos 2) (pos 2) (pos 3) ∷ [])
unfolding computing
three_snapped = (
  (point (pos 1) (pos 3) ∷ point (pos 2) (pos 2) ∷ point (pos 2) (pos 1) ∷ []) ∷ (point (pos 1) (pos 1) ∷ point (pos 2) (pos 1) ∷ point (pos 2) (pos 0) ∷ [])
      ∷ (point (pos 1) (pos 0) ∷ point (pos 1) (pos 1) ∷ point (pos 2) (pos 1) ∷ point (pos 2) (pos 2) ∷ []) ∷ [],
  (
    chain_of_mover (pairs three) three_hot three_movers _ _ three_closed three_are_hot first_moves (record { in_order = refl; has_all = refl; has_no_other = refl }),
    (
      chain_of_mover (pairs three) three_hot three_movers _ _ three_closed three_are_hot second_moves (record { in_order = refl; has_all = refl; has_no_other = refl }),
      (chain_of_mover (pairs three) three_hot three_movers _ _ three_closed three_are_hot third_moves (record { in_order = refl; has_all = refl; has_no_other = refl }), tt),
    ),
  ),
  refl,
)
