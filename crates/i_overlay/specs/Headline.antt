-- What a split and a build return together, by either rounding, whichever strategy finds the pairs that meet.
use Rattle.std.specs.Prelude.{◌≡◌, ◌⊎◌, ◌≤◌, ◌*◌, ℕ, ℤ, Bool, IsTrue, List, [], All, Contains, length}
use Rattle.overlay_geometry.specs.Points.{Pair}
use Rattle.overlay_base.specs.Segments.{WholeSegment, pairs}
use Rattle.overlay_base.specs.Balance.{IsBalanced}
use Rattle.overlay_base.specs.Join.{join}
use Rattle.overlay_base.specs.Places.{RationalPoint}
use Rattle.overlay_base.specs.Rules.{keeps_fill}
use Rattle.overlay_base.specs.ClipRules.{keeps_clip}
use Rattle.overlay_base.specs.declared.overlay_core.clip_rule.ClipRule.{ClipRule}
use Rattle.overlay_base.specs.declared.overlay_core.fill_rule.FillRule.{FillRule}
use Rattle.overlay_base.specs.declared.overlay_core.link.OverlayLink.{OverlayLink}
use Rattle.overlay_base.specs.declared.segm.fault.Fault.{Fault}
use Rattle.overlay_base.specs.declared.segm.fault.Fault.TheVariants.{CountOutOfRange}
use Rattle.overlay_cuts.specs.Run.{Settings}
use Rattle.overlay_cuts.specs.ExactInput.{is_exact_input, KeepsCounts}
use Rattle.overlay_cuts.specs.Nearness.{Fraction, point_along, LiesNear, LieNear, IsNearSome, IsNearCancelled, LieInGivenBox, with_mask}
use Rattle.overlay_cuts.specs.Potential.{IsPassBound}
use Rattle.overlay_snapping.specs.Counts.{chain_points}
use Rattle.overlay_snapping.specs.SnapOf.{IsNearCancelledInSnap}
use Rattle.overlay_sweep.specs.ChainWindings.{tops_leave_range}
use Rattle.overlay_build.specs.Graph.{Graph, graph_by}
use Rattle.overlay_build.specs.GraphOf.{link_of}
use Rattle.overlay_build.specs.Sides.{IsBalancedOverlay}
use Rattle.overlay_build.specs.Lines.{IsBalancedClip}
use Rattle.overlay_contours.specs.Splittings.{Splitting, by_passes, by_snapping, IsArrangement, SumsLeaveRange}
use Rattle.i_overlay.specs.Courses.{Course, course_of_passes}
use Rattle.i_overlay.specs.FarRegions.{EnclosesBeyond, WindsRoundBeyond}
use Rattle.i_overlay.specs.BesideLines.{WindsBeyondPolygons, KeepsBeyondPolygons}
use Rattle.i_overlay.specs.LinesAlong.{KeepsLines}

-- ---- a split

-- p is near a pair whose counts cancelled on the way
abbrev pub IsNearCancelledBy : Splitting → List WholeSegment → ℕ → RationalPoint → Type 0
IsNearCancelledBy (by_passes settings) given passes p = IsNearCancelled settings given passes p
IsNearCancelledBy by_snapping given passes p = IsNearCancelledInSnap given p

-- Passes over pairs are no more than the snap limit, the potential of the arrangement reached there, and one. Snap rounding
-- leaves at most three segments for each end of the joined list and each point to which crossings are rounded.
abbrev pub IsBoundedBy : Splitting → List WholeSegment → List WholeSegment → ℕ → Type 0
IsBoundedBy (by_passes settings) given segments passes = IsPassBound settings given passes
IsBoundedBy by_snapping given segments passes = length segments ≤ 3 * length (chain_points (pairs (join given)))

-- What a split leaves of what it is given.
pub record IsSplitBy (course : Course) (given segments : List WholeSegment) : Type 0 where
  -- The segments are the one planar arrangement that the splitting leaves, near what was given, with its balance and, farther
  -- away than things move, its winding.
  pub arrangement : IsArrangement course.splitting given segments course.passes course.halves
  -- What was given is near them, or near where counts cancelled; they lie in its box. Input whose crossings have whole coordinates
  -- keeps its counts.
  pub given_near : (s : Pair) → Contains (pairs given) s → (f : Fraction) →
      IsNearSome course.halves (point_along s f) (pairs segments) ⊎ IsNearCancelledBy course.splitting given course.passes (point_along s f)
  pub in_box : LieInGivenBox given segments
  pub exact_input : IsTrue (is_exact_input given) → KeepsCounts given segments
  pub bound : IsBoundedBy course.splitting given segments course.passes

-- What a split and a build make of what they are given, for any rule.
pub record IsOverlayBy (course : Course) (fill_rule : FillRule) (rule : Bool → Bool → Bool) (given segments : List WholeSegment) (graph : Graph) : Type 0 where
  -- The segments are what the split leaves.
  pub split : IsSplitBy course given segments
  -- The graph is that of the segments whose fill the rule keeps.
  pub links : graph ≡ graph_by (keeps_fill rule) fill_rule segments
  -- Where the given counts balance, it holds exactly the segments whose sides differ under the rule, with the fills of
  -- these sides, an even number of links at every node, it encloses the region of the rule in the arrangement, and its links are
  -- the directed boundary of that region.
  pub balanced : IsBalanced given → IsBalancedOverlay rule fill_rule segments graph
  -- Then, at each place that is farther from what was given than things move, it encloses the region of the rule as the
  -- given segments wind.
  pub far_region : IsBalanced given → EnclosesBeyond course.halves rule fill_rule given graph
  -- And there its links, each in the direction that has the region on its left, wind once around that region.
  pub far_boundary : IsBalanced given → WindsRoundBeyond course.halves rule fill_rule given graph

-- Lines stay: every segment of the list with a mask lies that near to a given one with a mask, and every point of such a given
-- one to such a one of the list.
pub record LinesStayWithin (halves : ℕ) (given segments : List WholeSegment) : Type 0 where
  pub result_is_near : LieNear halves (pairs (with_mask given)) (pairs (with_mask segments))
  pub given_is_near : (s : Pair) → Contains (pairs (with_mask given)) s → (f : Fraction) → IsNearSome halves (point_along s f) (pairs (with_mask segments))

-- What a split and a build make of polygons and lines, for a clip rule.
pub record IsClipBy (course : Course) (fill_rule : FillRule) (rule : ClipRule) (given segments : List WholeSegment) (graph : Graph) : Type 0 where
  -- The segments are what the split leaves.
  pub split : IsSplitBy course given segments
  -- The graph is that of the segments whose fill the rule keeps.
  pub links : graph ≡ graph_by (keeps_clip rule) fill_rule segments
  -- Where the given counts balance, it holds exactly the parts of lines that the rule keeps by how the polygons wind on their
  -- two sides, with the fills of these sides.
  pub balanced : IsBalanced given → IsBalancedClip rule fill_rule segments graph
  -- At each place that is farther than things move from those of the given segments that wind, the polygons, the
  -- segments wind as these do, however near lines are to it.
  pub near_lines : WindsBeyondPolygons course.halves given segments
  -- Every segment with a mask, as every kept part, lies near a given line, and every point of a given line lies near one.
  pub lines_near : LinesStayWithin course.halves given segments
  -- Where the given counts balance, so the rule keeps a part of a line by how these wind at two such places directly beside
  -- it, one on each side.
  pub by_given : IsBalanced given → KeepsBeyondPolygons course.halves rule fill_rule given segments
  -- Where all crossings have whole coordinates, a line runs along a part of the given segments after the split exactly where
  -- a given line does.
  pub lines : IsTrue (is_exact_input given) → KeepsLines given segments

-- ---- refusals

-- The split was refused: nothing is left, and where a count was, a sum on the way is too large.
pub record IsSplitRefusedBy (splitting : Splitting) (given segments : List WholeSegment) (fault : Fault) : Type 0 where
  pub emptied : segments ≡ []
  pub too_large : fault ≡ CountOutOfRange → SumsLeaveRange splitting given

-- The build was refused: the segments are split, with no sum that is too large, and where a count was, some top is.
pub record IsBuildRefusedBy (course : Course) (given segments : List WholeSegment) (fault : Fault) : Type 0 where
  pub split : IsSplitBy course given segments
  pub fits : SumsLeaveRange course.splitting given → ⊥
  pub too_large : fault ≡ CountOutOfRange → IsTrue (tops_leave_range segments)

-- A call was refused: in the split, and the number of passes is as it was; or in the build.
abbrev pub IsRefusedBy : Course → ℕ → List WholeSegment → List WholeSegment → Fault → Type 0
IsRefusedBy course passes_before given segments fault =
    (IsSplitRefusedBy course.splitting given segments fault × (course.passes ≡ passes_before)) ⊎ IsBuildRefusedBy course given segments fault

-- ---- the same of passes over pairs, as they are set

abbrev pub IsSplit : Settings → List WholeSegment → List WholeSegment → ℕ → Type 0
IsSplit settings given segments passes = IsSplitBy (course_of_passes settings given passes) given segments

abbrev pub IsOverlay : Settings → FillRule → (Bool → Bool → Bool) → List WholeSegment → List WholeSegment → ℕ → Graph → Type 0
IsOverlay settings fill_rule rule given segments passes graph = IsOverlayBy (course_of_passes settings given passes) fill_rule rule given segments graph

abbrev pub IsClip : Settings → FillRule → ClipRule → List WholeSegment → List WholeSegment → ℕ → Graph → Type 0
IsClip settings fill_rule rule given segments passes graph = IsClipBy (course_of_passes settings given passes) fill_rule rule given segments graph

abbrev pub IsSplitRefused : Settings → List WholeSegment → List WholeSegment → Fault → Type 0
IsSplitRefused settings given segments fault = IsSplitRefusedBy (by_passes settings) given segments fault

abbrev pub IsBuildRefused : Settings → List WholeSegment → List WholeSegment → ℕ → Fault → Type 0
IsBuildRefused settings given segments passes fault = IsBuildRefusedBy (course_of_passes settings given passes) given segments fault

abbrev pub IsRefused : Settings → List WholeSegment → List WholeSegment → ℕ → ℕ → Fault → Type 0
IsRefused settings given segments passes_before passes fault = IsRefusedBy (course_of_passes settings given passes) passes_before given segments fault

-- ---- data

-- each link lies that near to every pair that its data names
abbrev pub LinksNameNear : {I D : Type 0} → (I → ℤ) → (D → Pair → Bool) → ℕ → List (OverlayLink I D) → Type 0
LinksNameNear whole names halves links = All (λ l. (s : Pair) → IsTrue (names l.edge_data s) → LiesNear halves (link_of whole l).pair s) links
