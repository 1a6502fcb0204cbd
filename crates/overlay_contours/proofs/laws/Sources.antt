-- What names given steps: a segment that is the step which its data names, what is left of it, and the steps along links.
use Rattle.std.proofs.Common.{◌≡◌, refl, sym, ap, subst, ◌∙◌, ℕ, zero, suc, ◌+◌, Bool, true, false, IsTrue, List, [], ◌∷◌, map, drop, arith}
use Rattle.std.specs.Prelude.{ℤ, All, Option, Some, None, option_and_then, slice_get}
use Rattle.std.specs.List.{AllByRecursion, list_all}
use Rattle.std.proofs.lemmas.Bool.{and_parts}
use Rattle.std.proofs.lemmas.Grind.{common_steps}
use Rattle.std.proofs.lemmas.List.Elements.{All-from_recursion, recursion_from_All}
use Rattle.overlay_geometry.specs.Points.{Point, Pair, pair_eq, is_ordered}
use Rattle.overlay_geometry.proofs.laws.geometry.Points.{pair_eq_same, same_pair_by_eq}
use Rattle.overlay_geometry.proofs.laws.lists.Lists.{AllByRecursion-weaker, AllByRecursion-both, AllByRecursion-from_list_all, list_all-from_AllByRecursion}
use Rattle.overlay_base.specs.Rules.{top_value}
use Rattle.overlay_base.specs.Windings.{Winding}
use Rattle.overlay_base.specs.EdgeData.{DataSegment, Hooks, data_piece}
use Rattle.overlay_base.specs.declared.overlay_core.link.OverlayLink.{OverlayLink}
use Rattle.overlay_cuts.specs.Laws.{NameNear}
use Rattle.overlay_cuts.specs.Nearness.{LiesNear}
use Rattle.overlay_cuts.proofs.laws.nearness.Distances.{LiesNear-itself}
use Rattle.overlay_build.specs.DirectedWalks.{in_direction, arcs, IsDirectedWalk, AreDirectedWalks}
use Rattle.overlay_build.specs.GraphOf.{link_of, graph_with}
use Rattle.overlay_contours.specs.Contours.{steps_of, in_order}
use Rattle.overlay_contours.specs.Refusals.{of_shape}
use Rattle.overlay_contours.specs.DataContours.{DataStep, data_steps}
use Rattle.overlay_contours.specs.DataContoursOf.{AreStepsOfWalks}
use Rattle.overlay_contours.specs.Sources.{given_step, LiesNearSource, IsItsSource, LieNearSources}
use Rattle.overlay_contours.specs.declared.sources.SourceEdge.{SourceEdge}
use Rattle.overlay_contours.proofs.laws.DataContours.{along_contours}
use Rattle.overlay_contours.proofs.laws.Extracts.{in_order_either_way}

-- ---- the steps of a contour from one on

pub drop_next : {X : Type 0} (xs : List X) (k : ℕ) (x : X) (rest : List X) → drop k xs ≡ x ∷ rest → drop (k + 1) xs ≡ rest
drop_next xs k x rest e = let next : k + 1 ≡ suc k = omega arith in rw next (by xs k e)
  where
    by : (ys : List _) (i : ℕ) → drop i ys ≡ x ∷ rest → drop (suc i) ys ≡ rest
    by [] zero e = absurd (cc)
    by [] (suc i) e = absurd (cc)
    by (y ∷ ys) zero e = cc
    by (y ∷ ys) (suc i) e = by ys i e

pub got_first : {X : Type 0} (xs : List X) (k : ℕ) (x : X) (rest : List X) → drop k xs ≡ x ∷ rest → slice_get xs k ≡ Some x
got_first [] zero x rest e = absurd (cc)
got_first [] (suc k) x rest e = absurd (cc)
got_first (y ∷ ys) zero x rest e = let same : y ≡ x = cc in ap (λ z. Some z) same
got_first (y ∷ ys) (suc k) x rest e = got_first ys k x rest e

-- a step of a contour is the one that its source names
pub given_from : (subject clip : List (List Point)) (source : SourceEdge) (contour : List Point) (s : Pair) → slice_get (of_shape source.shape_type subject clip) source.contour ≡ Some contour → slice_get (steps_of contour) source.edge ≡ Some s →
    given_step subject clip source ≡ Some s
given_from subject clip source contour s named at = ap (option_and_then (λ c. slice_get (steps_of c) source.edge)) named ∙ at

-- ---- names

-- whether there is a step, and whether a pair is that step with its ends in order
abbrev pub is_there : Option Pair → Bool
is_there None = false
is_there (Some e) = true

abbrev pub is_it : Option Pair → Pair → Bool
is_it None s = false
is_it (Some e) s = pair_eq (in_order e) s

module _ (subject clip : List (List Point)) where
  -- whether a source names a given step, and which pair
  abbrev pub names_one : SourceEdge → Bool
  names_one d = is_there (given_step subject clip d)

  abbrev pub names : SourceEdge → Pair → Bool
  names d s = is_it (given_step subject clip d) s

  -- ---- a segment as it is given

  pub piece_is_source : {S : Type 0} (hooks : Hooks SourceEdge S) (count : Winding) (p : Pair) (d : SourceEdge) (store : S) → (hooks.reversed d store).0 ≡ d → given_step subject clip d ≡ Some p → IsItsSource subject clip (data_piece hooks count p.a p.b d store).0
  unfolding data_piece
  piece_is_source hooks count p d store kept g =
      let same_data : (data_piece hooks count p.a p.b d store).0.edge_data ≡ d = grind (arith, common_steps) in
      let same_pair : (data_piece hooks count p.a p.b d store).0.pair ≡ in_order p = grind (arith, common_steps) in
      (p, ap (given_step subject clip) same_data ∙ g, same_pair)

  names_its_own : (r : DataSegment SourceEdge) → IsItsSource subject clip r → names_one r.edge_data ≡ true
  names_its_own r i = ap is_there i.1

  lies_on_named : (r : DataSegment SourceEdge) → IsItsSource subject clip r → (s : Pair) → names r.edge_data s ≡ true → LiesNear 0 r.pair s
  lies_on_named r i s named =
      let it : in_order i.0 ≡ s = same_pair_by_eq (in_order i.0) s (sym (ap (λ (o : Option Pair). is_it o s) i.1) ∙ named) in
      subst (LiesNear 0 r.pair) (i.2 ∙ it) (LiesNear-itself r.pair)

  pub all_name_one : (list : List (DataSegment SourceEdge)) → All (IsItsSource subject clip) list → IsTrue (list_all (λ r. names_one r.edge_data) list)
  all_name_one list all =
      list_all-from_AllByRecursion (λ r. names_one r.edge_data) list
      (AllByRecursion-weaker (IsItsSource subject clip) (λ r. names_one r.edge_data ≡ true) names_its_own list (recursion_from_All (IsItsSource subject clip) list all))

  pub all_lie_on_named : (list : List (DataSegment SourceEdge)) → All (IsItsSource subject clip) list → NameNear names 0 list
  all_lie_on_named list all =
      let Named : DataSegment SourceEdge → Type 0 = λ r. (s : Pair) → IsTrue (names r.edge_data s) → LiesNear 0 r.pair s in
      All-from_recursion Named list (AllByRecursion-weaker (IsItsSource subject clip) Named lies_on_named list (recursion_from_All (IsItsSource subject clip) list all))

  -- ---- what is left of it

  module _ (h : ℕ) where
    near_its_source : (p : Pair) (d : SourceEdge) → names_one d ≡ true → ((s : Pair) → names d s ≡ true → LiesNear h p s) → LiesNearSource h subject clip p d
    near_its_source p d one near = by (given_step subject clip d) refl one near
      where
        by : (o : Option Pair) → given_step subject clip d ≡ o → is_there o ≡ true → ((s : Pair) → is_it o s ≡ true → LiesNear h p s) → LiesNearSource h subject clip p d
        by None e t n = absurd (cc)
        by (Some it) e t n = (it, e, n (in_order it) (pair_eq_same (in_order it)))

    pub near_sources : (list : List (DataSegment SourceEdge)) → IsTrue (list_all (λ r. names_one r.edge_data) list) → NameNear names h list → AllByRecursion (λ r. LiesNearSource h subject clip r.pair r.edge_data) list
    near_sources list one near =
        let One : DataSegment SourceEdge → Type 0 = λ r. names_one r.edge_data ≡ true in
        let Named : DataSegment SourceEdge → Type 0 = λ r. (s : Pair) → IsTrue (names r.edge_data s) → LiesNear h r.pair s in
        AllByRecursion-weaker (λ r. One r × Named r) (λ r. LiesNearSource h subject clip r.pair r.edge_data) (λ r k. near_its_source r.pair r.edge_data k.0 k.1) list
        (AllByRecursion-both One Named list (AllByRecursion-from_list_all (λ r. names_one r.edge_data) list one) (recursion_from_All Named list near))

    -- ---- links in their directions

    pub links_near_sources : {I : Type 0} (whole : I → ℤ) (rule : Bool → Bool → Bool) (links : List (OverlayLink I SourceEdge)) → list_all (λ l. is_ordered (link_of whole l).pair) links ≡ true → AllByRecursion (λ l. LiesNearSource h subject clip (link_of whole l).pair l.edge_data) links →
        AllByRecursion (λ l. LiesNearSource h subject clip (in_order (in_direction rule (link_of whole l)).pair) l.edge_data) links
    links_near_sources whole rule [] ordered near = tt
    links_near_sources whole rule (l ∷ links) ordered near =
        let parts = and_parts (is_ordered (link_of whole l).pair) (list_all (λ l. is_ordered (link_of whole l).pair) links) ordered in (
          subst (λ (p : Pair). LiesNearSource h subject clip p l.edge_data) (sym (in_order_either_way (top_value rule (link_of whole l).fill) (link_of whole l) parts.0)) near.0,
          links_near_sources whole rule links parts.1 near.1,
        )

    -- ---- and steps along them

    pub steps_near_sources : {I : Type 0} (whole : I → ℤ) (rule : Bool → Bool → Bool) (links : List (OverlayLink I SourceEdge)) → map (link_of whole) links ≡ (graph_with whole links).links → list_all (λ l. is_ordered (link_of whole l).pair) links ≡ true →
        All (λ l. LiesNearSource h subject clip (link_of whole l).pair l.edge_data) links → (walks : List (List ℕ)) (contours : List (List (DataStep SourceEdge))) → AreDirectedWalks (arcs rule (map (link_of whole) links)) walks → AreStepsOfWalks whole rule links walks contours →
        LieNearSources h subject clip contours
    steps_near_sources whole rule links same ordered near walks contours are steps =
        All-from_recursion (λ (s : Pair × SourceEdge). LiesNearSource h subject clip (in_order s.0) s.1) (data_steps contours)
        (along_contours whole rule links (λ p d. LiesNearSource h subject clip (in_order p) d)
        (links_near_sources whole rule links ordered (recursion_from_All (λ l. LiesNearSource h subject clip (link_of whole l).pair l.edge_data) links near)) same ordered walks contours
        (recursion_from_All (IsDirectedWalk (arcs rule (map (link_of whole) links))) walks are.closed) steps)
