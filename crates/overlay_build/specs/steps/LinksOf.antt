-- What the steps of a build make of links of code.
use Rattle.std.specs.Prelude.{◌≡◌, ◌≢◌, ◌⊎◌, ℕ, ◌-◌, ◌<◌, ◌≤◌, ℤ, false, IsTrue, if◌then◌else◌, Option, List, map, filter, take, drop, length, slice_index_or}
use Rattle.std.specs.List.{list_all}
use Rattle.std.specs.Option.{ForSome, ForNone}
use Rattle.overlay_geometry.specs.Coordinates.{is_pair_in_range}
use Rattle.overlay_geometry.specs.Points.{Point, point_cmp, point_lt}
use Rattle.overlay_geometry.specs.Sorting.{stably_sorted}
use Rattle.overlay_base.specs.SegmentOf.{segments_of, data_segments_of}
use Rattle.overlay_base.specs.declared.overlay_core.fill_rule.FillRule.{FillRule}
use Rattle.overlay_base.specs.declared.overlay_core.link.OverlayLink.{OverlayLink}
use Rattle.overlay_base.specs.declared.segm.segment.Segment.{Segment}
use Rattle.overlay_build.specs.Graph.{filled, fills_of, data_by}
use Rattle.overlay_build.specs.GraphOf.{kept_of, pairs_of_links, names_node}
use Rattle.overlay_build.specs.declared.build.kept_links.LinkRule.{LinkRule}
use Rattle.overlay_build.specs.steps.EndOf.{WholeEnd, unpacked}
use Rattle.overlay_build.specs.steps.LinkEnds.{numbered_starts}
use Rattle.overlay_build.specs.steps.LinkRules.{keeps_by}

-- ---- kept links

-- Where the fills are those of the segments under some fill rule, the links are the segments that a rule keeps.
abbrev pub AreKept : {C I D : Type 0} {m : _} {w : _} {o : _} {e : _} {p : _} → LinkRule → List (Segment C I D m w o e p) → List ℕ → List (OverlayLink I D) → Type 0
AreKept {w = w} rule list fills links =
    (fill_rule : FillRule) → fills ≡ fills_of fill_rule (segments_of list) → kept_of w.whole links ≡ filter (λ f. keeps_by rule f.fill) (filled fill_rule (segments_of list))

-- So the links have the data of these segments.
abbrev pub HaveKeptData : {C I D : Type 0} {m : _} {w : _} {o : _} {e : _} {p : _} → LinkRule → List (Segment C I D m w o e p) → List ℕ → List (OverlayLink I D) → Type 0
HaveKeptData rule list fills links =
    (fill_rule : FillRule) → fills ≡ fills_of fill_rule (segments_of list) → map (λ l. l.edge_data) links ≡ data_by (keeps_by rule) fill_rule (data_segments_of list)

-- ---- nodes

-- the ends of links are in range
abbrev pub AreEndsInRange : {I D : Type 0} → (I → ℤ) → I → I → List (OverlayLink I D) → Type 0
AreEndsInRange whole least greatest links = IsTrue (list_all (is_pair_in_range (whole least) (whole greatest)) (pairs_of_links whole links))

-- the first ends of links, with the indexes of the links
abbrev pub starts_of : {I D : Type 0} → (I → ℤ) → List (OverlayLink I D) → List WholeEnd
starts_of whole links = numbered_starts (pairs_of_links whole links)

-- ends in order of their points
abbrev pub by_point : List WholeEnd → List WholeEnd
by_point ends = stably_sorted (λ e f. point_cmp e.point f.point) ends

-- the point of the end at a place
abbrev pub point_at : List WholeEnd → ℕ → WholeEnd → Point
point_at ends k d = (slice_index_or ends k d).point

-- A number stands for the point of the end at a place, and there is none where no end is there.
pub record IsKeyAt (ends : List WholeEnd) (place : ℕ) (key : Option ℕ) : Type 0 where
  pub found : ForSome key (λ k. (place < length ends) × ((d : WholeEnd) → point_at ends place d ≡ unpacked k))
  pub over : ForNone key (length ends ≤ place)

-- Of two lists of ends, each from a place on, this is the least point at their fronts.
pub record IsNextPoint (firsts seconds : List WholeEnd) (start end : ℕ) (p : Point) : Type 0 where
  pub first : (d : WholeEnd) → start < length firsts → point_lt (point_at firsts start d) p ≡ false
  pub second : (d : WholeEnd) → end < length seconds → point_lt (point_at seconds end d) p ≡ false
  pub own : ((start < length firsts) × ((d : WholeEnd) → point_at firsts start d ≡ p)) ⊎ ((end < length seconds) × ((d : WholeEnd) → point_at seconds end d ≡ p))

-- The ends from a place up to another lie at a point, and the one after them, if there is one, does not.
pub record IsRunAt (ends : List WholeEnd) (p : Point) (from next : ℕ) : Type 0 where
  pub order : from ≤ next
  pub within : next ≤ length ends
  pub same : (k : ℕ) (d : WholeEnd) → from ≤ k → k < next → point_at ends k d ≡ p
  pub other : (d : WholeEnd) → next < length ends → point_at ends next d ≢ p

-- the indexes of the links of those ends
abbrev pub indexes_between : List WholeEnd → ℕ → ℕ → List ℕ
indexes_between ends from next = map (λ e. e.index) (take (next - from) (drop from ends))

-- The links at some indexes are numbered by a function, and the others are as they were.
abbrev pub AreNumberedAt : {I D : Type 0} → (OverlayLink I D → OverlayLink I D) → List ℕ → List (OverlayLink I D) → List (OverlayLink I D) → Type 0
AreNumberedAt {I = I} {D = D} numbered indexes old new =
    (k : ℕ) (d : OverlayLink I D) → k < length old →
    slice_index_or new k d ≡ (if names_node k indexes then numbered (slice_index_or old k d) else slice_index_or old k d)
