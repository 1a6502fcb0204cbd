-- What holds of the ends of each segment with its data holds of those of each link: both lists come from the same kept segments.
use Rattle.std.proofs.Common.{◌≡◌, ◌∙◌, sym, subst, ℕ, Bool, List, [], ◌∷◌, map, filter}
use Rattle.std.specs.Prelude.{ℤ, Result, Ok, Err, IfOk}
use Rattle.std.specs.List.{AllByRecursion}
use Rattle.std.proofs.lemmas.Simd.{map-map}
use Rattle.overlay_geometry.specs.Points.{Pair}
use Rattle.overlay_geometry.proofs.laws.lists.Lists.{AllByRecursion-filter_all, filter-map}
use Rattle.overlay_base.specs.Segments.{WholeSegment}
use Rattle.overlay_base.specs.EdgeData.{DataSegment, without_data}
use Rattle.overlay_base.specs.declared.overlay_core.fill_rule.FillRule.{FillRule}
use Rattle.overlay_base.specs.declared.overlay_core.link.OverlayLink.{OverlayLink}
use Rattle.overlay_sweep.specs.Sweep.{fill_of, whole_of}
use Rattle.overlay_build.specs.Graph.{Filled, filled, graph_by, data_by, without_nodes}
use Rattle.overlay_build.specs.GraphOf.{link_of, HoldGraph}
use Rattle.overlay_build.proofs.laws.graphs.BuiltGraphs.{same_kept}

-- what holds of both values of each member holds of those of another list that has the same values
in_step : {L X A B : Type 0} (Q : A → B → Type 0) (f : L → A) (g : L → B) (u : X → A) (v : X → B) (ls : List L) (xs : List X) → map f ls ≡ map u xs → map g ls ≡ map v xs →
    AllByRecursion (λ x. Q (u x) (v x)) xs → AllByRecursion (λ l. Q (f l) (g l)) ls
in_step Q f g u v [] xs e k a = tt
in_step Q f g u v (l ∷ ls) [] e k a = absurd (cc)
in_step Q f g u v (l ∷ ls) (x ∷ xs) e k a =
    let first : f l ≡ u x = cc in
    let second : g l ≡ v x = cc in
    let firsts : map f ls ≡ map u xs = cc in
    let seconds : map g ls ≡ map v xs = cc in
    (subst (λ z. Q z (g l)) (sym first) (subst (λ z. Q (u x) z) (sym second) a.0), in_step Q f g u v ls xs firsts seconds a.1)

module _ {D : Type 0} (keeps : ℕ → Bool) (rule : FillRule) (segments : List (DataSegment D)) where
  -- a segment with its fill
  abbrev fill_in : DataSegment D → Filled
  fill_in s = record { pair = s.pair; fill = fill_of rule (without_data segments) (whole_of s) }

  kept_are : filter (λ f. keeps f.fill) (filled rule (without_data segments)) ≡ map fill_in (filter (λ s. keeps (fill_in s).fill) segments)
  unfolding filled
  kept_are =
      subst (λ (l : List Filled). filter (λ f. keeps f.fill) l ≡ map fill_in (filter (λ s. keeps (fill_in s).fill) segments))
      (sym (map-map (λ (s : WholeSegment). record { pair = s.pair; fill = fill_of rule (without_data segments) s }) (λ (s : DataSegment D). whole_of s) segments))
      (filter-map (λ (f : Filled). keeps f.fill) fill_in segments)

pub held_of_links : {N I D : Type 0} (indexes : N → List ℕ) (is_canonical : N → Bool) (whole : I → ℤ) (nodes : List N) (links : List (OverlayLink I D)) (keeps : ℕ → Bool) (rule : FillRule) (Q : Pair → D → Type 0) (segments : List (DataSegment D)) →
    AllByRecursion (λ r. Q r.pair r.edge_data) segments → HoldGraph indexes is_canonical whole nodes links (graph_by keeps rule (without_data segments)) → map (λ l. l.edge_data) links ≡ data_by keeps rule segments → AllByRecursion (λ l. Q (link_of whole l).pair l.edge_data) links
unfolding data_by
held_of_links {D = D} indexes is_canonical whole nodes links keeps rule Q segments all held same =
    let fill = fill_in keeps rule segments in
    let kept : List (DataSegment D) = filter (λ s. keeps (fill s).fill) segments in
    in_step (λ (d : D) (f : Filled). Q f.pair d) (λ l. l.edge_data) (λ l. without_nodes (link_of whole l)) (λ s. s.edge_data) fill links kept
    same (same_kept indexes is_canonical whole nodes links keeps rule (without_data segments) held ∙ kept_are keeps rule segments)
    (AllByRecursion-filter_all (λ s. keeps (fill s).fill) (λ r. Q r.pair r.edge_data) segments all)

-- two facts on one result
pub IfOk-both : {T E : Type 0} {P Q R : T → Type 0} (r : Result T E) → ((x : T) → P x → Q x → R x) → IfOk r P → IfOk r Q → IfOk r R
IfOk-both (Ok x) f p q = f x p q
IfOk-both (Err e) f p q = tt
