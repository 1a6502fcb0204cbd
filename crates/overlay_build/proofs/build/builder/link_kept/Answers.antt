use Rattle.std.proofs.Common.{◌≡◌, ◌∙◌, ap, sym, subst, ℕ, List, ◌++◌, drop, length, map, take}
use Rattle.std.specs.Prelude.{ℤ, Result, Ok, Err, OnOk}
use Rattle.std.proofs.lemmas.List.{length-map, map-id}
use Rattle.std.proofs.Math.Seq.{take-append_seam}
use Rattle.overlay_base.specs.SegmentOf.{segments_of}
use Rattle.overlay_base.specs.declared.overlay_core.link.OverlayLink.{OverlayLink}
use Rattle.overlay_build.specs.Graph.{Graph}
use Rattle.overlay_build.specs.GraphOf.{HoldLists, graph_with}
use Rattle.overlay_build.specs.steps.LinkRules.{keeps_by}
use Rattle.overlay_build.proofs.laws.graphs.BuiltGraphs.{held_length, kept_graph, links_are_ordered, links_are_sorted, links_are_in_range}
use Rattle.overlay_build.proofs.build.builder.link_kept.Goals as goal

on_ok : {T E P Q : Type 0} (r : Result T E) → (P → Q) → OnOk r P → OnOk r Q
on_ok (Ok x) f p = f p
on_ok (Err y) f p = tt

on_both : {T E P Q R : Type 0} (r : Result T E) → OnOk r P → OnOk r Q → (P → Q → R) → OnOk r R
on_both (Ok x) p q f = f p q
on_both (Err y) p q f = tt

-- the links of a vector, each of which is numbered in its place
all_numbered : {I D : Type 0} (whole : I → ℤ) (old now new : List (OverlayLink I D)) (n : ℕ) (degrees indexes : List ℕ) → now ≡ old → n ≡ length old → HoldLists whole (map (λ l. l) new) degrees indexes (graph_with whole (map (λ l. l) now)) →
    (take n (new ++ drop (length new) old) ≡ new) × HoldLists whole new degrees indexes (graph_with whole old)
all_numbered {I = I} {D = D} whole old now new n degrees indexes seen len held =
    let many : length new ≡ length old = sym (length-map new (λ (l : OverlayLink I D). l)) ∙ held_length whole (map (λ l. l) new) (map (λ l. l) now) degrees indexes held ∙ length-map now (λ (l : OverlayLink I D). l) ∙ ap length seen in (
      ap (λ k. take k (new ++ drop (length new) old)) (len ∙ sym many) ∙ take-append_seam new _,
      subst (λ (l : List (OverlayLink I D)). HoldLists whole l degrees indexes (graph_with whole old)) (map-id new)
          (subst (λ (l : List (OverlayLink I D)). HoldLists whole (map (λ l. l) new) degrees indexes (graph_with whole l)) (map-id now ∙ seen) held),
    )

pub connect_links-requires-clause-sorted : goal.connect_links-requires-clause-sorted
connect_links-requires-clause-sorted g c =
    rw (map-id c.deref_mut.result.now, c.deref_mut.ensures.value)
    (links_are_sorted g.I.OverlayInt.whole _ (keeps_by c.args.rule) c.requires.fills.0 _ _ (segments_of c.args.segments.now) c.requires.arranged
    (c.in_ok-collect_links.ensures.kept c.requires.fills.0 c.requires.fills.1))

pub connect_links-requires-clause-ordered : goal.connect_links-requires-clause-ordered
connect_links-requires-clause-ordered g c =
    rw (map-id c.deref_mut.result.now, c.deref_mut.ensures.value)
    (links_are_ordered g.I.OverlayInt.whole _ (keeps_by c.args.rule) c.requires.fills.0 _ _ (segments_of c.args.segments.now) c.requires.arranged
    (c.in_ok-collect_links.ensures.kept c.requires.fills.0 c.requires.fills.1))

pub connect_links-requires-clause-in_range : goal.connect_links-requires-clause-in_range
connect_links-requires-clause-in_range g c =
    rw (map-id c.deref_mut.result.now, c.deref_mut.ensures.value)
    (links_are_in_range g.I.OverlayInt.whole _ (keeps_by c.args.rule) c.requires.fills.0 _ _ (segments_of c.args.segments.now) c.requires.arranged
    (c.in_ok-collect_links.ensures.kept c.requires.fills.0 c.requires.fills.1))

pub returns-clause-graph : goal.returns-clause-graph
returns-clause-graph g c =
    let whole = g.I.OverlayInt.whole in
    let segments = segments_of c.args.segments.now in
    let old : List (OverlayLink g.row.I.Denot g.row.D.Denot) = c.collect_links.new.links.items in
    let Held : Graph → Type 0 = HoldLists whole c.connect_links.new.links c.connect_links.new.degrees.items c.connect_links.new.indexes.items in
    on_ok c.connect_links.result
    (λ held fill_rule known.
    let all = all_numbered whole old c.deref_mut.result.now c.connect_links.new.links c.collect_links.new.links.len _ _ c.deref_mut.ensures.value c.collect_links.new.links.ok.0 held in
    rw all.0 (subst Held (kept_graph whole _ (keeps_by c.args.rule) fill_rule segments (c.in_ok-collect_links.ensures.kept fill_rule known)) all.1))
    c.connect_links.ensures.graph

pub returns-clause-edge_data : goal.returns-clause-edge_data
returns-clause-edge_data g c =
    let whole = g.I.OverlayInt.whole in
    let old : List (OverlayLink g.row.I.Denot g.row.D.Denot) = c.collect_links.new.links.items in
    let edge_data_of : List (OverlayLink g.row.I.Denot g.row.D.Denot) → List g.row.D.Denot = map (λ l. l.edge_data) in
    on_both c.connect_links.result c.connect_links.ensures.graph c.connect_links.ensures.edge_data
    (λ held same fill_rule known.
    let all = all_numbered whole old c.deref_mut.result.now c.connect_links.new.links c.collect_links.new.links.len _ _ c.deref_mut.ensures.value c.collect_links.new.links.ok.0 held in
    rw all.0 (ap edge_data_of (sym (map-id c.connect_links.new.links)) ∙ same ∙ ap edge_data_of (map-id c.deref_mut.result.now ∙ c.deref_mut.ensures.value) ∙ c.in_ok-collect_links.ensures.data fill_rule known))
