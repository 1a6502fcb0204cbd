-- What the plane holds where a graph has no links.
use Rattle.std.specs.Prelude.{◌≡◌, ◌==◌, ◌<◌, ◌&&◌, ℕ, Bool, not, false, IsTrue, List, All, IfOk, Result, Vec}
use Rattle.std.specs.Global.{Global}
use Rattle.std.specs.List.{list_any}
use Rattle.i_overlay.specs.Balance.{IsBalanced}
use Rattle.i_overlay.specs.BesideLines.{IsFarFromPolygons}
use Rattle.i_overlay.specs.Beside.{is_on_top_of, is_at_bottom_of}
use Rattle.i_overlay.specs.ClipRule.{ClipRule}
use Rattle.i_overlay.specs.Fault.{Fault}
use Rattle.i_overlay.specs.Fill.{is_inside}
use Rattle.i_overlay.specs.FillRule.{FillRule}
use Rattle.i_overlay.specs.FarPlaces.{IsFar}
use Rattle.i_overlay.specs.Lines.{keeps_between, is_kept_part}
use Rattle.i_overlay.specs.Nearness.{reach_of_run}
use Rattle.i_overlay.specs.Places.{RationalPoint, winding_below}
use Rattle.i_overlay.specs.Run.{Settings}
use Rattle.i_overlay.specs.Segment.{Segment}
use Rattle.i_overlay.specs.SegmentOf.{segments_of}
use Rattle.i_overlay.specs.Segments.{WholeSegment, pairs}
use Rattle.i_overlay.specs.SettingsOf.{passes_of}
use Rattle.i_overlay.specs.Sides.{has_sides_apart}
use Rattle.i_overlay.specs.Solver.{Solver}
use Rattle.i_overlay.specs.SplitOf.{settings_over}
use Rattle.i_overlay.specs.SplitSolver.{SplitSolver}

-- whether some segment of an arrangement has both shapes on exactly one of its sides
abbrev pub bounds_both : FillRule → List WholeSegment → Bool
bounds_both fill_rule segments = list_any (λ s. has_sides_apart (λ in_subject in_clip. in_subject && in_clip) fill_rule segments s) segments

-- whether some segment of an arrangement is a part of a line that the rule keeps
abbrev pub keeps_a_part : ClipRule → FillRule → List WholeSegment → Bool
keeps_a_part rule fill_rule segments = list_any (λ s. is_kept_part rule fill_rule segments s) segments

-- The subject and the clip share no place that is farther from the given segments than the passes move things.
abbrev pub ShareNoFarPlace : Settings → FillRule → List WholeSegment → ℕ → Type 0
ShareNoFarPlace settings fill_rule given passes =
    (p : RationalPoint) → 0 < p.bottom → IsFar (reach_of_run settings given passes) p (pairs given) →
    (is_inside fill_rule (winding_below given p).subj && is_inside fill_rule (winding_below given p).clip) ≡ false

-- The rule keeps no part of a line by how the given segments wind at two places beside it, one on each side, that are so far
-- from the polygons.
abbrev pub KeepsNoFarPart : Settings → ClipRule → FillRule → List WholeSegment → List WholeSegment → ℕ → Type 0
KeepsNoFarPart settings rule fill_rule given segments passes =
    (p q : RationalPoint) → 0 < p.bottom → 0 < q.bottom → IsFarFromPolygons settings given passes p → IsFarFromPolygons settings given passes q →
    All (λ s. IsTrue (is_on_top_of segments s.pair p) → IsTrue (is_at_bottom_of segments s.pair q) →
    (not (s.count.mask == 0) && keeps_between rule fill_rule (winding_below given q) (winding_below given p)) ≡ false) segments

-- Where the given counts balance: a call says whether some segment of the list bounds both shapes.
abbrev pub SaysWhetherBoth : {C I D : Type 0} {m : _} {w : _} {o : _} {e : _} {p : _} → Vec (Segment C I D m w o e p) Global → Vec (Segment C I D m w o e p) Global → FillRule → Result Bool Fault → Type 0
SaysWhetherBoth given list fill_rule result = IsBalanced (segments_of given.items) → IfOk result (λ overlap. overlap ≡ bounds_both fill_rule (segments_of list.items))

-- Then, if it says no, the two share no far place.
abbrev pub ShareNoPlaceIfNot : {C I D : Type 0} {m : _} {w : _} {o : _} {e : _} {p : _} → Solver → SplitSolver I → SplitSolver I → Vec (Segment C I D m w o e p) Global → FillRule → Result Bool Fault → Type 0
ShareNoPlaceIfNot solver before after given fill_rule result =
    IsBalanced (segments_of given.items) → IfOk result (λ overlap. overlap ≡ false → ShareNoFarPlace (settings_over solver before given) fill_rule (segments_of given.items) (passes_of after))

-- Where the given counts balance: a call says whether some segment of the list is a part of a line that the rule keeps.
abbrev pub SaysWhetherKept : {C I D : Type 0} {m : _} {w : _} {o : _} {e : _} {p : _} → Vec (Segment C I D m w o e p) Global → Vec (Segment C I D m w o e p) Global → ClipRule → FillRule → Result Bool Fault → Type 0
SaysWhetherKept given list rule fill_rule result = IsBalanced (segments_of given.items) → IfOk result (λ runs. runs ≡ keeps_a_part rule fill_rule (segments_of list.items))

-- Then, if it says no, the rule keeps no far part.
abbrev pub KeepsNoPartIfNot : {C I D : Type 0} {m : _} {w : _} {o : _} {e : _} {p : _} → Solver → SplitSolver I → SplitSolver I → Vec (Segment C I D m w o e p) Global → Vec (Segment C I D m w o e p) Global → ClipRule → FillRule → Result Bool Fault → Type 0
KeepsNoPartIfNot solver before after given list rule fill_rule result =
    IsBalanced (segments_of given.items) →
    IfOk result (λ runs. runs ≡ false → KeepsNoFarPart (settings_over solver before given) rule fill_rule (segments_of given.items) (segments_of list.items) (passes_of after))
