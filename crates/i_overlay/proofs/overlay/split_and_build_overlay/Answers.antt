use Rattle.std.proofs.Common.{◌≡◌, ℕ, Bool, true, List, map, ap, ◌∙◌, rules}
use Rattle.std.specs.List.{list_all}
use Rattle.std.proofs.lemmas.Result.{IfOk-weaker, on_ok_weaker}
use Rattle.overlay_base.specs.Rules.{holds, keeps_fill}
use Rattle.overlay_base.specs.Segments.{WholeSegment}
use Rattle.overlay_base.specs.SegmentOf.{segments_of, data_segments_of}
use Rattle.overlay_cuts.specs.Run.{Settings}
use Rattle.overlay_split.specs.SettingsOf.{passes_of, settings_of}
use Rattle.overlay_build.specs.Graph.{graph_by, data_by}
use Rattle.overlay_build.specs.GraphOf.{HoldGraph, graph_with}
use Rattle.overlay_build.specs.NodeIndexes.{indexes_of, is_canonical_node}
use Rattle.i_overlay.specs.Courses.{course_of_passes}
use Rattle.i_overlay.specs.FarRegions.{EnclosesOverlay}
use Rattle.i_overlay.specs.Headline.{IsSplit, IsOverlay, LinksNameNear}
use Rattle.overlay_cuts.proofs.laws.passes.DataInvariants.{data_keeps_what_hooks_keep}
use Rattle.overlay_base.specs.EdgeData.{without_data}
use Rattle.overlay_base.proofs.laws.joins.Views.{segments_of-bare}
use Rattle.overlay_cuts.specs.Nearness.{reach_of_run}
use Rattle.overlay_build.proofs.laws.graphs.BuiltGraphs.{graph_with_kept}
use Rattle.overlay_contours.proofs.laws.NamedLinks.{IfOk-both}
use Rattle.i_overlay.proofs.laws.NamedLinks.{links_name_near}
use Rattle.i_overlay.proofs.laws.FarRegions.{overlay_region}
use Rattle.i_overlay.proofs.laws.Splits.{split_from}
use Rattle.i_overlay.proofs.laws.Overlays.{data_of_links, none_arranged, overlay_from, refused_build}
use Rattle.i_overlay.proofs.overlay.split_and_build_overlay.Goals as goal

pub returns-in_err-split_segments-clause-arranged : goal.returns-in_err-split_segments-clause-arranged
returns-in_err-split_segments-clause-arranged g c = rw c.in_err-split_segments.ensures.emptied (none_arranged _ _)

pub returns-clause-overlay : goal.returns-clause-overlay
returns-clause-overlay g c =
    let e = c.in_ok-split_segments.ensures in
    let whole = g.I.OverlayInt.whole in
    let keeps : ℕ → Bool = keeps_fill (holds c.args.overlay_rule) in
    let settings : Settings = settings_of g.I.OverlayInt.BITS c.args.solver.now c.args.splitter.now in
    let given : List WholeSegment = segments_of c.args.segments.now.items in
    let segments : List WholeSegment = segments_of c.split_segments.new.list.items in
    let passes : ℕ = passes_of c.split_segments.new.self in
    let split : IsSplit settings given segments passes = split_from _ _ _ _ _ _ _ _ e.run e.arranged e.balance e.in_box e.near e.winding e.exact_input e.bound e.reach e.exact_reach in
    let balanced = rw c.deref.ensures.value at c.build_boolean_overlay.ensures.balanced in
    IfOk-weaker c.build_boolean_overlay.result
    (λ built. HoldGraph indexes_of is_canonical_node whole built.nodes.now built.links.now (graph_by keeps c.args.fill_rule segments))
    (λ built. IsOverlay settings c.args.fill_rule (holds c.args.overlay_rule) given segments passes (graph_with whole built.links.now))
    (λ built h. overlay_from (course_of_passes settings given passes) c.args.fill_rule (holds c.args.overlay_rule) given segments _ split (graph_with_kept indexes_of is_canonical_node whole built.nodes.now built.links.now keeps c.args.fill_rule segments h) balanced)
    (rw c.deref.ensures.value at c.build_boolean_overlay.ensures.graph)

pub returns-clause-region : goal.returns-clause-region
returns-clause-region g c = λ balance.
    let whole = g.I.OverlayInt.whole in
    let settings : Settings = settings_of g.I.OverlayInt.BITS c.args.solver.now c.args.splitter.now in
    let given : List WholeSegment = segments_of c.args.segments.now.items in
    let segments : List WholeSegment = segments_of c.split_segments.new.list.items in
    let passes : ℕ = passes_of c.split_segments.new.self in
    IfOk-weaker c.build_boolean_overlay.result
    (λ built. IsOverlay settings c.args.fill_rule (holds c.args.overlay_rule) given segments passes (graph_with whole built.links.now))
    (λ built. EnclosesOverlay settings c.args.overlay_rule c.args.fill_rule given passes (graph_with whole built.links.now))
    (λ built overlay. overlay_region (reach_of_run settings given passes) c.args.overlay_rule c.args.fill_rule given (graph_with whole built.links.now) (overlay.far_region balance))
    (returns-clause-overlay g c)

pub returns-clause-graph : goal.returns-clause-graph
returns-clause-graph g c =
    let whole = g.I.OverlayInt.whole in
    IfOk-weaker c.build_boolean_overlay.result
    (λ built. HoldGraph indexes_of is_canonical_node whole built.nodes.now built.links.now (graph_by (keeps_fill (holds c.args.overlay_rule)) c.args.fill_rule (segments_of c.deref.result.now)))
    (λ built. HoldGraph indexes_of is_canonical_node whole built.nodes.now built.links.now (graph_with whole built.links.now))
    (λ built h. built.holds)
    c.build_boolean_overlay.ensures.graph

pub returns-clause-edge_data : goal.returns-clause-edge_data
returns-clause-edge_data g c = rw (← c.deref.ensures.value) c.build_boolean_overlay.ensures.edge_data

pub returns-clause-named_data : goal.returns-clause-named_data
returns-clause-named_data g c = λ names keeps given.
    let whole = g.I.OverlayInt.whole in
    let settings : Settings = settings_of g.I.OverlayInt.BITS c.args.solver.now c.args.splitter.now in
    let halves : ℕ = reach_of_run settings (segments_of c.args.segments.now.items) (passes_of c.split_segments.new.self) in
    let items = c.split_segments.new.list.items in
    let rule : ℕ → Bool = keeps_fill (holds c.args.overlay_rule) in
    IfOk-both {P = λ built. HoldGraph indexes_of is_canonical_node whole built.nodes.now built.links.now (graph_by rule c.args.fill_rule (without_data (data_segments_of items)))}
    {Q = λ built. map (λ l. l.edge_data) built.links.now ≡ data_by rule c.args.fill_rule (data_segments_of items)}
    {R = λ built. LinksNameNear whole names halves built.links.now}
    c.build_boolean_overlay.result
    (λ built held same. links_name_near indexes_of is_canonical_node whole built.nodes.now built.links.now rule c.args.fill_rule names halves (data_segments_of items) (c.in_ok-split_segments.ensures.named_data names keeps given) held same)
    (rw (← segments_of-bare items) (rw c.deref.ensures.value at c.build_boolean_overlay.ensures.graph))
    (rw c.deref.ensures.value at c.build_boolean_overlay.ensures.edge_data)

pub returns-clause-kept_data : goal.returns-clause-kept_data
returns-clause-kept_data g c = λ has keeps given.
    let e = c.in_ok-split_segments.ensures in
    let settings : Settings = settings_of g.I.OverlayInt.BITS c.args.solver.now c.args.splitter.now in
    let passes : ℕ = passes_of c.split_segments.new.self in
    let segments = data_segments_of c.split_segments.new.list.items in
    let rule : ℕ → Bool = keeps_fill (holds c.args.overlay_rule) in
    let all : list_all (λ s. has s.edge_data) segments ≡ true = ap (list_all (λ s. has s.edge_data)) e.edge_data.2 ∙ data_keeps_what_hooks_keep _ has keeps settings (data_segments_of c.args.segments.now.items) e.edge_data.0 passes given in
    IfOk-weaker c.build_boolean_overlay.result
    (λ built. map (λ l. l.edge_data) built.links.now ≡ data_by rule c.args.fill_rule segments)
    (λ built. list_all (λ l. has l.edge_data) built.links.now ≡ true)
    (λ built same. data_of_links has rule c.args.fill_rule segments (λ l. l.edge_data) built.links.now same all)
    (rw c.deref.ensures.value at c.build_boolean_overlay.ensures.edge_data)

pub returns-clause-unchanged : goal.returns-clause-unchanged
returns-clause-unchanged g c = λ arranged. on_ok_weaker _ (λ _. (c.in_ok-split_segments.ensures.unchanged arranged).1) c.build_boolean_overlay.ensures.in_range

pub returns-clause-fits : goal.returns-clause-fits
returns-clause-fits g c = on_ok_weaker _ (λ _. c.in_ok-split_segments.ensures.fits) c.build_boolean_overlay.ensures.in_range

pub returns-clause-refused : goal.returns-clause-refused
returns-clause-refused g c =
    let e = c.in_ok-split_segments.ensures in
    let settings : Settings = settings_of g.I.OverlayInt.BITS c.args.solver.now c.args.splitter.now in
    let given : List WholeSegment = segments_of c.args.segments.now.items in
    let segments : List WholeSegment = segments_of c.split_segments.new.list.items in
    let passes : ℕ = passes_of c.split_segments.new.self in
    let split : IsSplit settings given segments passes = split_from _ _ _ _ _ _ _ _ e.run e.arranged e.balance e.in_box e.near e.winding e.exact_input e.bound e.reach e.exact_reach in
    refused_build (course_of_passes settings given passes) (passes_of c.args.splitter.now) given segments c.build_boolean_overlay.result split e.fits (rw c.deref.ensures.value at c.build_boolean_overlay.ensures.out_of_range)

pub returns-clause-reach : goal.returns-clause-reach
returns-clause-reach g c = on_ok_weaker _ (λ _. c.in_ok-split_segments.ensures.reach) c.build_boolean_overlay.ensures.in_range

pub returns-clause-looked : goal.returns-clause-looked
returns-clause-looked g c = on_ok_weaker _ (λ _. c.in_ok-split_segments.ensures.looked) c.build_boolean_overlay.ensures.in_range

pub returns-clause-asked : goal.returns-clause-asked
returns-clause-asked g c = rw c.deref.ensures.value at c.build_boolean_overlay.ensures.compared

pub build_boolean_overlay-requires : goal.build_boolean_overlay-requires
build_boolean_overlay-requires g c = search rules

pub returns-clause-arranged : goal.returns-clause-arranged
returns-clause-arranged g c = search rules

pub returns-clause-in_range : goal.returns-clause-in_range
returns-clause-in_range g c = search rules

pub returns-clause-list_data : goal.returns-clause-list_data
returns-clause-list_data g c = search rules

pub returns-in_err-split_segments-clause-refused : goal.returns-in_err-split_segments-clause-refused
returns-in_err-split_segments-clause-refused g c = search rules
