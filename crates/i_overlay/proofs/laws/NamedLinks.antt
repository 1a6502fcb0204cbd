-- The links of a graph lie near what their data names, where the segments do.
use Rattle.std.proofs.Common.{◌≡◌, ℕ, Bool, IsTrue, List, map}
use Rattle.std.specs.Prelude.{ℤ}
use Rattle.std.proofs.lemmas.List.Elements.{All-from_recursion, recursion_from_All}
use Rattle.overlay_geometry.specs.Points.{Pair}
use Rattle.overlay_base.specs.EdgeData.{DataSegment, without_data}
use Rattle.overlay_base.specs.declared.overlay_core.fill_rule.FillRule.{FillRule}
use Rattle.overlay_base.specs.declared.overlay_core.link.OverlayLink.{OverlayLink}
use Rattle.overlay_cuts.specs.Laws.{NameNear}
use Rattle.overlay_cuts.specs.Nearness.{LiesNear}
use Rattle.overlay_build.specs.Graph.{graph_by, data_by}
use Rattle.overlay_build.specs.GraphOf.{link_of, HoldGraph}
use Rattle.overlay_contours.proofs.laws.NamedLinks.{held_of_links}
use Rattle.i_overlay.specs.Headline.{LinksNameNear}

pub links_name_near : {N I D : Type 0} (indexes : N → List ℕ) (is_canonical : N → Bool) (whole : I → ℤ) (nodes : List N) (links : List (OverlayLink I D)) (keeps : ℕ → Bool) (rule : FillRule) (names : D → Pair → Bool) (h : ℕ) (segments : List (DataSegment D)) →
    NameNear names h segments → HoldGraph indexes is_canonical whole nodes links (graph_by keeps rule (without_data segments)) → map (λ l. l.edge_data) links ≡ data_by keeps rule segments → LinksNameNear whole names h links
links_name_near {D = D} indexes is_canonical whole nodes links keeps rule names h segments near held same =
    let Named : Pair → D → Type 0 = λ p d. (s : Pair) → IsTrue (names d s) → LiesNear h p s in
    All-from_recursion (λ l. Named (link_of whole l).pair l.edge_data) links
    (held_of_links indexes is_canonical whole nodes links keeps rule Named segments (recursion_from_All (λ r. Named r.pair r.edge_data) segments near) held same)
