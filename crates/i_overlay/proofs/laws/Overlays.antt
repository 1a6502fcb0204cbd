-- A split and a build, joined to an overlay.
use Rattle.std.proofs.Common.{◌≡◌, refl, sym, ap, ◌∙◌, subst, inr, ℕ, Bool, true, IsTrue, List, [], map, filter}
use Rattle.std.specs.Prelude.{ℤ, nat_lt, Result, IfErr}
use Rattle.std.specs.List.{list_all}
use Rattle.std.proofs.lemmas.List.Folds.{list_all-map}
use Rattle.std.proofs.lemmas.Result.{IfErr-weaker}
use Rattle.overlay_geometry.specs.Sorting.{is_strictly_sorted}
use Rattle.overlay_base.specs.Windings.{Winding, empty}
use Rattle.overlay_base.specs.Segments.{WholeSegment, is_map, are_ordered}
use Rattle.overlay_base.specs.Planar.{is_arranged, is_splittable, is_planar}
use Rattle.overlay_base.specs.Balance.{IsBalanced}
use Rattle.overlay_base.specs.Rules.{keeps_fill}
use Rattle.overlay_base.specs.ClipRules.{keeps_clip}
use Rattle.overlay_base.specs.declared.overlay_core.clip_rule.ClipRule.{ClipRule}
use Rattle.overlay_base.specs.declared.overlay_core.fill_rule.FillRule.{FillRule}
use Rattle.overlay_base.specs.declared.segm.fault.Fault.{Fault}
use Rattle.overlay_base.specs.declared.segm.fault.Fault.TheVariants.{CountOutOfRange}
use Rattle.overlay_sweep.specs.ChainWindings.{tops_leave_range}
use Rattle.overlay_sweep.specs.Sweep.{fill_of, whole_of}
use Rattle.overlay_build.specs.Graph.{Graph, graph_by, data_by}
use Rattle.overlay_base.specs.EdgeData.{DataSegment, without_data}
use Rattle.overlay_geometry.proofs.laws.lists.Lists.{list_all-filter}
use Rattle.overlay_build.specs.Values.{tells_apart}
use Rattle.overlay_build.specs.Boundary.{of_subject, times_round}
use Rattle.overlay_build.specs.Sides.{IsBalancedOverlay}
use Rattle.overlay_build.specs.Lines.{IsBalancedClip}
use Rattle.overlay_contours.specs.Splittings.{SumsLeaveRange}
use Rattle.i_overlay.proofs.laws.BesideLines.{keeps_beyond_polygons}
use Rattle.i_overlay.proofs.laws.LinesAlong.{lines_kept}
use Rattle.i_overlay.proofs.laws.Splits.{winds_beyond_polygons, keeps_lines_within}
use Rattle.i_overlay.specs.Courses.{Course}
use Rattle.i_overlay.specs.Headline.{IsSplitBy, IsOverlayBy, IsClipBy, IsRefusedBy}

-- the empty list is an arrangement
pub none_arranged : (least greatest : ℤ) → IsTrue (is_arranged least greatest [])
unfolding is_arranged is_map is_splittable is_planar is_strictly_sorted
none_arranged least greatest = refl

-- A split and the graph of what it leaves are an overlay: a balanced list is balanced after the split.
pub overlay_from : (course : Course) (fill_rule : FillRule) (rule : Bool → Bool → Bool) (given segments : List WholeSegment) (graph : Graph) → IsSplitBy course given segments → graph ≡ graph_by (keeps_fill rule) fill_rule segments
    → (IsBalanced segments → IsBalancedOverlay rule fill_rule segments (graph_by (keeps_fill rule) fill_rule segments)) → IsOverlayBy course fill_rule rule given segments graph
overlay_from course fill_rule rule given segments graph split links balanced =
    let sides = λ (balance : IsBalanced given). subst (IsBalancedOverlay rule fill_rule segments) (sym links) (balanced (λ p. split.arrangement.kept p ∙ balance p)) in
    record {
      split = split;
      links = links;
      balanced = sides;
      far_region = λ balance p some far. (sides balance).region p some ∙ ap (λ (w : Winding). tells_apart rule fill_rule empty w) (split.arrangement.winding p far);
      far_boundary = λ balance p some far. (sides balance).boundary.winds p some ∙ ap (λ (w : Winding). of_subject (times_round rule fill_rule w)) (split.arrangement.winding p far);
    }

-- the same of lines
pub clip_from : (course : Course) (fill_rule : FillRule) (rule : ClipRule) (given segments : List WholeSegment) (graph : Graph) → IsTrue (are_ordered given) → IsTrue (list_all (λ s. nat_lt s.count.mask 4) given) → IsSplitBy course given segments → graph ≡ graph_by (keeps_clip rule) fill_rule segments
    → (IsBalanced segments → IsBalancedClip rule fill_rule segments (graph_by (keeps_clip rule) fill_rule segments)) → IsClipBy course fill_rule rule given segments graph
clip_from course fill_rule rule given segments graph ordered small split links balanced =
    let near = winds_beyond_polygons course.splitting given segments course.passes course.halves ordered split.arrangement.left in
    record {
      split = split;
      links = links;
      balanced = λ balance. subst (IsBalancedClip rule fill_rule segments) (sym links) (balanced (λ p. split.arrangement.kept p ∙ balance p));
      near_lines = near;
      lines_near = keeps_lines_within course.splitting given segments course.passes course.halves ordered small split.arrangement.left;
      by_given = λ balance. keeps_beyond_polygons course.halves rule fill_rule given segments split.arrangement.planar (λ p. split.arrangement.kept p ∙ balance p) near;
      lines = λ exact. lines_kept given segments (split.exact_input exact);
    }

-- a build that is refused after a split
pub refused_build : {T : Type 0} (course : Course) (before : ℕ) (given segments : List WholeSegment) (built : Result T Fault) → IsSplitBy course given segments → (SumsLeaveRange course.splitting given → ⊥) → IfErr built (λ fault. fault ≡ CountOutOfRange → IsTrue (tops_leave_range segments))
    → IfErr built (IsRefusedBy course before given segments)
refused_build course before given segments built split fits tops =
    IfErr-weaker built (λ fault. fault ≡ CountOutOfRange → IsTrue (tops_leave_range segments)) _ (λ fault too_large. inr (record { split = split; fits = fits; too_large = too_large })) tops

-- what holds of all data of a list holds of the data of the links that a test keeps
pub data_of_links : {D L : Type 0} (has : D → Bool) (keeps : ℕ → Bool) (fill_rule : FillRule) (segments : List (DataSegment D)) (datum : L → D) (links : List L)
    → map datum links ≡ data_by keeps fill_rule segments → list_all (λ s. has s.edge_data) segments ≡ true → list_all (λ l. has (datum l)) links ≡ true
unfolding data_by
data_of_links {D = D} has keeps fill_rule segments datum links e h =
    let kept : DataSegment D → Bool = λ s. keeps (fill_of fill_rule (without_data segments) (whole_of s)) in
    sym (list_all-map has datum links) ∙ ap (list_all has) e ∙ list_all-map has (λ s. s.edge_data) (filter kept segments) ∙ list_all-filter (λ s. has s.edge_data) kept segments h
