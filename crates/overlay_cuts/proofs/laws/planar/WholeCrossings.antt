-- Two pairs that cross at a whole point are marked there, whichever way crossings are placed: the point lies strictly inside both.
use Rattle.std.proofs.Common.{◌≡◌, true, IsTrue}
use Rattle.std.proofs.lemmas.Bool.{cond_both}
use Rattle.overlay_geometry.specs.Points.{Point, Pair, pair_lt, is_strictly_inside}
use Rattle.overlay_geometry.specs.Meeting.{do_cross}
use Rattle.overlay_base.proofs.laws.geometry.Apart.{do_cross_parts}
use Rattle.overlay_intersections.specs.Crossing.{is_exact}
use Rattle.overlay_intersections.specs.Marks.{Placing, snapping, settling, crossing_mark, ordered_mark}
use Rattle.overlay_geometry.proofs.laws.geometry.Points.{Before}
use Rattle.overlay_intersections.proofs.laws.crossings.Crossings.{do_cross-swap}
use Rattle.overlay_intersections.proofs.laws.crossings.ExactCrossings.{IsCrossingPoint, IsCrossingPoint-swap, on_both_lines, exact_snapping_point, exact_settling_point, is_exact_back}
use Rattle.overlay_cuts.proofs.laws.planar.Parts.{separated_inside}

-- p lies strictly inside both
abbrev pub IsInsideBoth : Pair → Pair → Point → Type 0
IsInsideBoth s t p = IsTrue (is_strictly_inside s p) × IsTrue (is_strictly_inside t p)

pub IsCrossingPoint-inside : (s t : Pair) (p : Point) → Before s.a s.b → Before t.a t.b → IsTrue (do_cross s t) → IsCrossingPoint s t p → IsInsideBoth s t p
IsCrossingPoint-inside s t p hs ht c h =
    let on = on_both_lines s t p c h in
    let parts = do_cross_parts s t c in
    (separated_inside s t.a t.b p hs on.0 on.1 parts.1, separated_inside t s.a s.b p ht on.1 on.0 parts.0)

exact_crossing_mark : (placing : Placing) (s t : Pair) → IsTrue (do_cross s t) → is_exact s t ≡ true → IsCrossingPoint s t (crossing_mark placing s t)
unfolding crossing_mark
exact_crossing_mark (snapping r2) s t c e = rw e (exact_snapping_point s t c e)
exact_crossing_mark settling s t c e = exact_settling_point s t c e

pub exact_ordered_mark : (placing : Placing) (s t : Pair) → IsTrue (do_cross s t) → is_exact s t ≡ true → IsCrossingPoint s t (ordered_mark placing s t)
unfolding ordered_mark
exact_ordered_mark placing s t c e =
    cond_both (pair_lt s t) (crossing_mark placing s t) (crossing_mark placing t s) (IsCrossingPoint s t)
    (λ _. exact_crossing_mark placing s t c e)
    (λ _. IsCrossingPoint-swap t s (crossing_mark placing t s) (exact_crossing_mark placing t s (do_cross-swap s t c) (is_exact_back s t c e)))
