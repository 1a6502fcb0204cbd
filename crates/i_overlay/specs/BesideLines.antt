-- How what is given winds beside a part of a line.
use Rattle.std.specs.Prelude.{◌≡◌, ◌==◌, ◌<◌, ℕ, not, ◌&&◌, IsTrue, List, All}
use Rattle.overlay_base.specs.Segments.{WholeSegment, pairs}
use Rattle.overlay_base.specs.Places.{RationalPoint, winding_below}
use Rattle.overlay_base.specs.declared.overlay_core.clip_rule.ClipRule.{ClipRule}
use Rattle.overlay_base.specs.declared.overlay_core.fill_rule.FillRule.{FillRule}
use Rattle.overlay_cuts.specs.Nearness.{reach_of_run}
use Rattle.overlay_cuts.specs.Places.{IsFar, that_wind}
use Rattle.overlay_cuts.specs.Run.{Settings}
use Rattle.overlay_build.specs.Beside.{is_on_top_of, is_at_bottom_of}
use Rattle.overlay_build.specs.Lines.{keeps_between, is_kept_part}

-- p is farther than that from those of the given segments that wind
abbrev pub IsBeyondPolygons : ℕ → List WholeSegment → RationalPoint → Type 0
IsBeyondPolygons halves given p = IsFar halves p (pairs (that_wind given))

-- At each such place segments wind as what is given, however near lines are to it.
abbrev pub WindsBeyondPolygons : ℕ → List WholeSegment → List WholeSegment → Type 0
WindsBeyondPolygons halves given segments = (p : RationalPoint) → IsBeyondPolygons halves given p → winding_below segments p ≡ winding_below given p

-- Take two such places directly beside a segment, one on each side. The rule keeps the segment as a part of a line by how what is given winds there.
abbrev pub KeepsBeyondPolygons : ℕ → ClipRule → FillRule → List WholeSegment → List WholeSegment → Type 0
KeepsBeyondPolygons halves rule fill_rule given segments =
    (p q : RationalPoint) → 0 < p.bottom → 0 < q.bottom → IsBeyondPolygons halves given p → IsBeyondPolygons halves given q →
    All (λ s. IsTrue (is_on_top_of segments s.pair p) → IsTrue (is_at_bottom_of segments s.pair q) →
    is_kept_part rule fill_rule segments s ≡ (not (s.count.mask == 0) && keeps_between rule fill_rule (winding_below given q) (winding_below given p))) segments

-- ---- farther than passes over pairs reach

abbrev pub IsFarFromPolygons : Settings → List WholeSegment → ℕ → RationalPoint → Type 0
IsFarFromPolygons settings given passes p = IsBeyondPolygons (reach_of_run settings given passes) given p

abbrev pub KeepsByGiven : Settings → ClipRule → FillRule → List WholeSegment → List WholeSegment → ℕ → Type 0
KeepsByGiven settings rule fill_rule given segments passes = KeepsBeyondPolygons (reach_of_run settings given passes) rule fill_rule given segments
