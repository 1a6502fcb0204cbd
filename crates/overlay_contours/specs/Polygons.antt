-- The overlay of polygons: contours in, contours out.
use Rattle.std.specs.Prelude.{◌≡◌, ◌≤◌, ◌<◌, ◌-ℤ◌, ℕ, pos, int_lt, Bool, false, IsTrue, if◌then◌else◌, List, [], ◌∷◌, ⊤, ◌++◌, All, Contains, map, count_by}
use Rattle.std.specs.List.{list_all}
use Rattle.overlay_geometry.specs.Points.{Point, Pair, pair_eq}
use Rattle.overlay_base.specs.Places.{RationalPoint}
use Rattle.overlay_base.specs.Segments.{WholeSegment, pairs}
use Rattle.overlay_geometry.specs.Meeting.{are_apart}
use Rattle.overlay_base.specs.Rules.{differ, holds}
use Rattle.overlay_base.specs.declared.overlay_core.fill_rule.FillRule.{FillRule}
use Rattle.overlay_base.specs.declared.overlay_core.overlay_rule.OverlayRule.{OverlayRule}
use Rattle.overlay_cuts.specs.ExactInput.{is_exact_input}
use Rattle.overlay_cuts.specs.Nearness.{LieNear}
use Rattle.overlay_cuts.specs.Places.{IsFar}
use Rattle.overlay_sweep.specs.Fill.{is_inside}
use Rattle.overlay_build.specs.Boundary.{truth, boundary}
use Rattle.overlay_contours.specs.Contours.{turned, directed_edges, edges, AreProper, winding_number, is_painted}
use Rattle.overlay_contours.specs.ContourSegments.{overlay_segments}
use Rattle.overlay_contours.specs.Splittings.{Splitting, IsLeftBy, most_halves}

-- what the rule says of p, by whether p is inside the subject and inside the clip under the fill rule
abbrev pub is_in_overlay : OverlayRule → FillRule → List (List Point) → List (List Point) → RationalPoint → Bool
is_in_overlay rule fill_rule subject clip p = holds rule (is_inside fill_rule (winding_number subject p)) (is_inside fill_rule (winding_number clip p))

-- p is farther than that many halves from every edge of the given contours
abbrev pub IsBeyond : ℕ → List (List Point) → List (List Point) → RationalPoint → Type 0
IsBeyond halves subject clip p = IsFar halves p (edges subject ++ edges clip)

-- a segment in the direction of its count: from a to b where that is above 0, and else back
abbrev pub run_of : WholeSegment → Pair
run_of s = if int_lt (pos 0) s.count.subj then s.pair else turned s.pair

-- The edges of the contours, as they run, are the boundary of the rule's region in an arrangement: the segments whose
-- sides differ under the rule, each once, in the direction that has the side where it holds on its left.
abbrev pub RunsAlongBoundary : OverlayRule → FillRule → List WholeSegment → List (List Point) → Type 0
RunsAlongBoundary rule fill_rule arrangement contours = (test : Pair → Bool) → count_by test (directed_edges contours) ≡ count_by test (map run_of (boundary (holds rule) fill_rule arrangement))

-- what an overlay returns for the contours of a subject and of a clip
pub record IsPolygonOverlay (splitting : Splitting) (rule : OverlayRule) (fill_rule : FillRule) (subject clip answer : List (List Point)) : Type 0 where
  -- what the splitting leaves of the given edges, in how many passes, and how many halves these move things at most
  pub arrangement : List WholeSegment
  pub passes : ℕ
  pub halves : ℕ
  pub left : IsLeftBy splitting (overlay_segments subject clip) arrangement passes halves
  -- The result encloses exactly the far places at which the rule's value differs from that outside.
  pub region : (p : RationalPoint) → 0 < p.bottom → IsBeyond halves subject clip p → is_painted answer p ≡ differ (holds rule false false) (is_in_overlay rule fill_rule subject clip p)
  -- A rule that says no of those outside, as each with a name does: exactly the far places where it holds.
  pub named : holds rule false false ≡ false → (p : RationalPoint) → 0 < p.bottom → IsBeyond halves subject clip p → is_painted answer p ≡ is_in_overlay rule fill_rule subject clip p
  -- It is directed so that the region lies on its left. So it winds around each far place once, counterclockwise, where
  -- the rule holds, and not at all elsewhere; for a rule that holds of those outside once less.
  pub winds : (p : RationalPoint) → 0 < p.bottom → IsBeyond halves subject clip p → winding_number answer p ≡ truth (is_in_overlay rule fill_rule subject clip p) -ℤ truth (holds rule false false)
  -- For a rule that says no of those outside: 1 where it holds, and 0 elsewhere.
  pub named_winds : holds rule false false ≡ false → (p : RationalPoint) → 0 < p.bottom → IsBeyond halves subject clip p → winding_number answer p ≡ truth (is_in_overlay rule fill_rule subject clip p)
  -- Its edges, as they run, are the boundary of the region in the arrangement.
  pub directed : RunsAlongBoundary rule fill_rule arrangement answer
  -- Each contour has points, and in none a point is next to itself.
  pub proper : AreProper answer
  -- How far things move at most, by the splitting and the number of passes alone; nothing where no two of the given edges
  -- cross at a point that is not whole, so that then each place on no given edge is a far one.
  pub reach : halves ≤ most_halves splitting passes
  pub exact : IsTrue (is_exact_input (overlay_segments subject clip)) → halves ≡ 0
  -- Its edges are segments of the arrangement.
  pub arranged : All (Contains (pairs arrangement)) (edges answer)
  -- Each of its edges lies near a given one.
  pub near : LieNear halves (edges subject ++ edges clip) (edges answer)
  -- No two of its edges share more than an end, and none is there twice.
  pub apart : IsTrue (list_all (λ s. list_all (λ t. are_apart s t) (edges answer)) (edges answer))
  pub once : (e : Pair) → count_by (λ s. pair_eq s e) (edges answer) ≤ 1

-- what overlays of the same contours return, one for each rule, in order
abbrev pub ArePolygonOverlays : Splitting → FillRule → List (List Point) → List (List Point) → List OverlayRule → List (List (List Point)) → Type 0
ArePolygonOverlays splitting fill_rule subject clip [] [] = ⊤
ArePolygonOverlays splitting fill_rule subject clip [] (answer ∷ answers) = ⊥
ArePolygonOverlays splitting fill_rule subject clip (rule ∷ rules) [] = ⊥
ArePolygonOverlays splitting fill_rule subject clip (rule ∷ rules) (answer ∷ answers) =
    IsPolygonOverlay splitting rule fill_rule subject clip answer × ArePolygonOverlays splitting fill_rule subject clip rules answers
