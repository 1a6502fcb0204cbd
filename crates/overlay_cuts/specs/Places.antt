-- What it means that a place of the plane is far from a list of segments, and that a run keeps the winding there.
use Rattle.std.specs.Prelude.{◌≡◌, ℕ, pos, Bool, not, ◌&&◌, List, filter}
use Rattle.std.specs.Ordering.{int_eq}
use Rattle.overlay_geometry.specs.Points.{Pair}
use Rattle.overlay_base.specs.Windings.{Winding}
use Rattle.overlay_base.specs.Segments.{WholeSegment, pairs}
use Rattle.overlay_base.specs.Places.{RationalPoint, winding_below}
use Rattle.overlay_cuts.specs.Run.{Settings}
use Rattle.overlay_cuts.specs.Nearness.{IsNearSome, reach_of_run}

-- p is farther than that from every pair of a list
abbrev pub IsFar : ℕ → RationalPoint → List Pair → Type 0
IsFar halves p list = IsNearSome halves p list → ⊥

-- The result winds as what is given at each place that is farther from that than the passes reach.
abbrev pub KeepsWinding : Settings → List WholeSegment → List WholeSegment → ℕ → Type 0
KeepsWinding settings given result passes =
    (p : RationalPoint) → IsFar (reach_of_run settings given passes) p (pairs given) → winding_below result p ≡ winding_below given p

-- whether a count winds, whatever its mask; that of a line alone does not
abbrev pub winds : Winding → Bool
winds c = not (int_eq c.subj (pos 0) && int_eq c.clip (pos 0))

-- the segments of a list that wind
abbrev pub that_wind : List WholeSegment → List WholeSegment
that_wind segments = filter (λ s. winds s.count) segments

-- The same at each place that is farther than the passes reach from those of the given segments that wind, however near lines are to it.
abbrev pub KeepsWindingNearLines : Settings → List WholeSegment → List WholeSegment → ℕ → Type 0
KeepsWindingNearLines settings given result passes =
    (p : RationalPoint) → IsFar (reach_of_run settings given passes) p (pairs (that_wind given)) → winding_below result p ≡ winding_below given p
