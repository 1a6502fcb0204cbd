-- A pass over the counts of polygons makes counts of polygons: no mask appears.
use Rattle.std.proofs.Common.{◌≡◌, sym, subst, ap, ℕ, zero, suc, List}
use Rattle.std.specs.Prelude.{IsTrue, ◌==◌}
use Rattle.std.proofs.lemmas.Bool.{eqb-true, eq-eqb}
use Rattle.std.specs.List.{AllByRecursion}
use Rattle.overlay_base.specs.Windings.{swap_directions}
use Rattle.overlay_base.specs.Segments.{WholeSegment, are_polygons}
use Rattle.overlay_split.specs.Laws.{CutKeepsPolygons, RunKeepsPolygons}
use Rattle.overlay_intersections.specs.Marks.{Placing}
use Rattle.overlay_intersections.specs.PassMarks.{marks_on}
use Rattle.overlay_cuts.specs.Pass.{cut_by, pass}
use Rattle.overlay_cuts.specs.Run.{Settings, placing_of_pass, after_passes}
use Rattle.overlay_geometry.proofs.laws.lists.Lists.{AllByRecursion-weaker, AllByRecursion-from_list_all, list_all-from_AllByRecursion}
use Rattle.overlay_base.proofs.laws.joins.Members.{are_polygons-join}
use Rattle.overlay_cuts.proofs.laws.paths.PieceCounts.{counts-cut}

abbrev pub HasNoMask : WholeSegment → Type 0
HasNoMask s = s.count.mask ≡ 0

unmasked : (segments : List WholeSegment) → IsTrue (are_polygons segments) → AllByRecursion HasNoMask segments
unmasked segments h = AllByRecursion-weaker (λ s. IsTrue (s.count.mask == 0)) HasNoMask (λ s e. eqb-true s.count.mask 0 e) segments (AllByRecursion-from_list_all (λ s. s.count.mask == 0) segments h)

from_unmasked : (segments : List WholeSegment) → AllByRecursion HasNoMask segments → IsTrue (are_polygons segments)
from_unmasked segments h = list_all-from_AllByRecursion (λ s. s.count.mask == 0) segments (AllByRecursion-weaker HasNoMask (λ s. IsTrue (s.count.mask == 0)) (λ s e. eq-eqb s.count.mask 0 e) segments h)

pub cut_keeps_polygons : CutKeepsPolygons
cut_keeps_polygons marks segments h = are_polygons-join (cut_by marks segments) (from_unmasked (cut_by marks segments) (counts-cut (λ c. c.mask ≡ 0) (λ c k. ap swap_directions k) marks segments (unmasked segments h)))

are_polygons-pass : (placing : Placing) (segments : List WholeSegment) → IsTrue (are_polygons segments) → IsTrue (are_polygons (pass placing segments))
unfolding pass
are_polygons-pass placing segments h = cut_keeps_polygons (marks_on placing segments) segments h

pub are_polygons-after_passes : (settings : Settings) (given : List WholeSegment) (k : ℕ) → IsTrue (are_polygons given) → IsTrue (are_polygons (after_passes settings given k))
unfolding after_passes
are_polygons-after_passes settings given zero h = are_polygons-join given h
are_polygons-after_passes settings given (suc k) h = are_polygons-pass (placing_of_pass settings (suc k)) (after_passes settings given k) (are_polygons-after_passes settings given k h)

pub run_keeps_polygons : RunKeepsPolygons
run_keeps_polygons settings given result passes flag h run = subst (λ (segments : List WholeSegment). IsTrue (are_polygons segments)) (sym run.arrangement) (are_polygons-after_passes settings given passes h)
