-- The path of one segment through its cuts, and the pieces along it.
use Rattle.std.proofs.Common.{◌≡◌, ◌∙◌, refl, sym, ap, subst, IsTrue, IsFalse, List, [], ◌∷◌, ◌++◌}
use Rattle.std.specs.Prelude.{All}
use Rattle.std.specs.List.{AllByRecursion}
use Rattle.std.proofs.lemmas.List.{map-append}
use Rattle.std.proofs.lemmas.List.Elements.{All-from_recursion, recursion_from_All}
use Rattle.overlay_geometry.specs.Points.{Point, Pair, point_cmp, is_ordered, is_end}
use Rattle.overlay_geometry.specs.Sorting.{is_strictly_sorted}
use Rattle.overlay_geometry.proofs.laws.geometry.Points.{not_end, point_cmp_total}
use Rattle.overlay_geometry.proofs.laws.lists.Keys.{IsStrictlySortedBy-from_test}
use Rattle.overlay_geometry.proofs.laws.lists.Lists.{AllByRecursion-weaker, AllByRecursion-append}
use Rattle.overlay_base.specs.EdgeData.{Hooks, without_data}
use Rattle.overlay_base.specs.SegmentOf.{segments_of, data_segments_of, winding_of}
use Rattle.overlay_base.specs.Segments.{WholeSegment}
use Rattle.overlay_base.specs.Windings.{Winding, is_valid}
use Rattle.overlay_base.specs.declared.segm.segment.Segment.{Segment}
use Rattle.overlay_base.proofs.laws.joins.DataJoins.{bare}
use Rattle.overlay_base.proofs.laws.joins.Views.{segments_of-bare}
use Rattle.overlay_intersections.proofs.laws.marks.ApartPairs.{ends_differ}
use Rattle.overlay_intersections.proofs.laws.marks.Marks.{Differ}
use Rattle.overlay_cuts.specs.DataPass.{data_pieces}
use Rattle.overlay_cuts.specs.Path.{columns_in_order, columns_of, path_from, path, pieces, pieces_along}
use Rattle.overlay_cuts.specs.steps.PathSteps.{IsPathOf}
use Rattle.overlay_cuts.proofs.laws.passes.CutWalks.{IsPathOf-path_from, path_as_collected}
use Rattle.overlay_cuts.proofs.laws.passes.DataPasses.{bare-data_pieces}
use Rattle.overlay_cuts.proofs.laws.paths.PieceCounts.{counts_of_pieces, is_valid-inverse}
use Rattle.overlay_cuts.proofs.laws.paths.Ends.{distinct_in_order-sorted}

-- ---- the path

module _ (pair : Pair) (marks : List Point) (o : IsTrue (is_ordered pair)) (rise : IsTrue (is_strictly_sorted point_cmp marks)) (free : All (λ c. IsFalse (is_end pair c)) marks) where
  collected : path_from pair.a (columns_in_order marks) pair.b ≡ path_from pair.a (columns_of marks) pair.b
  collected = path_as_collected pair marks marks (distinct_in_order-sorted point_cmp marks (IsStrictlySortedBy-from_test point_cmp_total marks rise)) refl

  pub path_leads : IsPathOf pair (path_from pair.a (columns_in_order marks) pair.b)
  path_leads =
      subst (IsPathOf pair) (sym collected)
      (IsPathOf-path_from pair marks (ends_differ pair o) (AllByRecursion-weaker (λ c. IsFalse (is_end pair c)) (λ m. Differ m pair.a × Differ m pair.b) (not_end pair) marks (recursion_from_All (λ c. IsFalse (is_end pair c)) marks free)))

  pub pieces_collected : (count : Winding) → pieces_along count (pair.a ∷ path_from pair.a (columns_in_order marks) pair.b) ≡ pieces (record { pair = pair; count = count }) marks
  unfolding pieces path
  pieces_collected count = ap (λ l. pieces_along count (pair.a ∷ l)) collected

-- ---- lists of code

module _ {C I D : Type 0} {m : _} {w : _} {o : _} {e : _} {p : _} where
  -- pieces with data, appended to a list
  pub pieces_appended : {S : Type 0} (hooks : Hooks D S) (count : Winding) (from b : Point) (points : List Point) (edge_data : D) (store : S) (old new : List (Segment C I D m w o e p)) →
      data_segments_of new ≡ data_segments_of old ++ (data_pieces hooks count from points b edge_data store).0 → segments_of new ≡ segments_of old ++ pieces_along count (from ∷ points)
  pieces_appended hooks count from b points edge_data store old new h =
      segments_of-bare new ∙ ap (λ l. without_data l) h ∙ map-append bare (data_segments_of old) (data_pieces hooks count from points b edge_data store).0
      ∙ (λ i. sym (segments_of-bare old) i ++ bare-data_pieces hooks count points from b edge_data store i)

  abbrev Valid : Segment C I D m w o e p → Type 0
  Valid t = IsTrue (is_valid (winding_of t))

  -- the counts of a segment's pieces are valid
  pub valid_appended : (s : WholeSegment) (marks : List Point) (old new : List (Segment C I D m w o e p)) → IsTrue (is_valid s.count) → segments_of new ≡ segments_of old ++ pieces s marks →
      All (λ (t : Segment C I D m w o e p). IsTrue (is_valid (winding_of t))) old → All (λ (t : Segment C I D m w o e p). IsTrue (is_valid (winding_of t))) new
  valid_appended s marks old new v is h =
      All-from_recursion Valid new (out new (subst (AllByRecursion (λ t. IsTrue (is_valid t.count))) (sym is)
      (AllByRecursion-append (λ t. IsTrue (is_valid t.count)) (segments_of old) (pieces s marks) (each old (recursion_from_All Valid old h)) (counts_of_pieces (λ c. IsTrue (is_valid c)) is_valid-inverse s marks v))))
    where
      each : (ts : List (Segment C I D m w o e p)) → AllByRecursion Valid ts → AllByRecursion (λ t. IsTrue (is_valid t.count)) (segments_of ts)
      each [] k = tt
      each (t ∷ ts) k = (k.0, each ts k.1)

      out : (ts : List (Segment C I D m w o e p)) → AllByRecursion (λ t. IsTrue (is_valid t.count)) (segments_of ts) → AllByRecursion Valid ts
      out [] k = tt
      out (t ∷ ts) k = (k.0, out ts k.1)
