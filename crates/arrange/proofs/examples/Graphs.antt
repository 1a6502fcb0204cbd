-- The texts of graphs: two squares that overlap, a lone line, nothing.
use Rattle.std.proofs.Common.{◌≡◌, refl, List, [], ◌∷◌, ◌++◌}
use Rattle.std.specs.Prelude.{pos, codes, None, Some}
use Rattle.std.specs.Fmt.{digits}
use Rattle.overlay_base.specs.Segments.{WholeSegment}
use Rattle.overlay_base.specs.declared.overlay_core.fill_rule.FillRule.TheVariants.{EvenOdd, NonZero}
use Rattle.overlay_base.specs.declared.overlay_core.overlay_rule.OverlayRule.TheVariants.{Intersect}
use Rattle.overlay_build.specs.Graph.{graph_by}
use Rattle.arrange.specs.RuleOf.{keeps_by_optional_rule}
use Rattle.overlay_sweep.proofs.examples.Sweeps.{seg, twelve}
use Rattle.overlay_build.proofs.examples.Computing.{computing}
use Rattle.arrange.specs.GraphText.{link_line, node_line, graph_text}

abbrev lone : List WholeSegment
lone = seg (pos 0) (pos 0) (pos 4) (pos 0) (pos 1) (pos 0) ∷ []

-- a square of the subject and one of the clip: what both cover
common_part : graph_text (graph_by (keeps_by_optional_rule (Some Intersect)) NonZero twelve) ≡
    codes "link 2 2 2 4 11 0 1\n" ++ codes "link 2 2 4 2 7 0 2\n" ++ codes "link 2 4 4 4 14 1 3\n" ++ codes "link 4 2 4 4 13 2 3\n"
    ++ codes "node 2 2 bridge 0 1\n" ++ codes "node 2 4 bridge 2 0\n" ++ codes "node 4 2 bridge 3 1\n" ++ codes "node 4 4 bridge 2 3\n"
    ++ codes "valid true\n"
unfolding computing digits link_line node_line graph_text
common_part = refl

two_loose_ends : graph_text (graph_by (keeps_by_optional_rule None) EvenOdd lone) ≡
    codes "link 0 0 4 0 1 0 1\n" ++ codes "node 0 0 cross 0\n" ++ codes "node 4 0 cross 0\n" ++ codes "valid false\n"
unfolding computing digits link_line node_line graph_text
two_loose_ends = refl

no_graph : graph_text (graph_by (keeps_by_optional_rule None) NonZero []) ≡ codes "valid true\n"
unfolding computing digits link_line node_line graph_text
no_graph = refl
