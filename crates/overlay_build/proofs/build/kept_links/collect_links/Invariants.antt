use Rattle.std.proofs.Common.{◌≡◌, map, filter, drop, ◌++◌, refl}
use Rattle.overlay_base.specs.SegmentOf.{segment_of, data_segment_of, segments_of, edge_data_of}
use Rattle.overlay_base.specs.declared.overlay_core.fill_rule.FillRule.{FillRule}
use Rattle.overlay_build.specs.Graph.{fills_of}
use Rattle.overlay_build.specs.GraphOf.{kept_of}
use Rattle.overlay_build.specs.steps.LinkRules.{keeps_by}
use Rattle.overlay_build.proofs.laws.graphs.KeptLinks.{fill_in, filled_in}
use Rattle.overlay_build.proofs.build.kept_links.collect_links.Given as goal

abbrev pub invariant-loop-index : goal.invariant-loop-index
invariant-loop-index g l =
    (fill_rule : FillRule) → l.fills ≡ fills_of fill_rule (segments_of l.segments) →
    (kept_of g.I.OverlayInt.whole l.links.items ++ map (filled_in segment_of data_segment_of (λ x. refl) (keeps_by l.rule) fill_rule l.segments) (filter (λ s. keeps_by l.rule (fill_in segment_of data_segment_of (λ x. refl) (keeps_by l.rule) fill_rule l.segments s)) (drop l.index l.segments))
    ≡ map (filled_in segment_of data_segment_of (λ x. refl) (keeps_by l.rule) fill_rule l.segments) (filter (λ s. keeps_by l.rule (fill_in segment_of data_segment_of (λ x. refl) (keeps_by l.rule) fill_rule l.segments s)) l.segments))
    × (map (λ k. k.edge_data) l.links.items ++ map edge_data_of (filter (λ s. keeps_by l.rule (fill_in segment_of data_segment_of (λ x. refl) (keeps_by l.rule) fill_rule l.segments s)) (drop l.index l.segments))
    ≡ map edge_data_of (filter (λ s. keeps_by l.rule (fill_in segment_of data_segment_of (λ x. refl) (keeps_by l.rule) fill_rule l.segments s)) l.segments))
