-- A pass through the points between the ends of each segment at which it is cut snaps.
use Rattle.std.proofs.Common.{◌≡◌, ◌∙◌, refl, sym, ap, ℕ, if◌then◌else◌, IsTrue, List, [], ◌∷◌, ◌++◌, map}
use Rattle.std.specs.Prelude.{flat_map}
use Rattle.std.specs.List.{AllByRecursion}
use Rattle.std.proofs.lemmas.Bool.{cond_both}
use Rattle.overlay_geometry.specs.Points.{Point, Pair}
use Rattle.overlay_geometry.proofs.laws.lists.Lists.{Has, AllByRecursion-from_Has, Has-map}
use Rattle.overlay_geometry.proofs.laws.lists.Elements.{Contains-from_Has}
use Rattle.overlay_base.specs.Segments.{WholeSegment, pairs, are_ordered}
use Rattle.overlay_base.specs.Join.{join}
use Rattle.overlay_base.proofs.laws.joins.Bags.{winding_at-gathered, windings_add, count_at}
use Rattle.overlay_base.proofs.laws.joins.Maps.{join_from_windings}
use Rattle.overlay_intersections.specs.PassMarks.{is_rounded}
use Rattle.overlay_cuts.specs.Path.{path, pieces_along, pieces}
use Rattle.overlay_cuts.specs.Pass.{cut_by}
use Rattle.overlay_cuts.specs.Nearness.{IsNear, whole_point, point_along, MarksLieNear}
use Rattle.overlay_cuts.proofs.laws.paths.Cuts.{gathered-cut, gathered-flat_map}
use Rattle.overlay_snapping.specs.Chains.{IsCutAt, AreSnapCuts, IsChain, AreChains, chain_pieces}
use Rattle.overlay_snapping.specs.Laws.{CutsSnap}
use Rattle.overlay_snapping.proofs.laws.pixels.Distances.{IsWithin-from_pixel}
use Rattle.overlay_snapping.proofs.laws.chains.ExactCuts.{exact_cut_near}
use Rattle.overlay_snapping.proofs.laws.chains.MarkLists.{each_cut}
use Rattle.overlay_snapping.proofs.laws.chains.MarkPixels.{ordered}
use Rattle.overlay_snapping.proofs.laws.chains.Paths.{path_is_chain, meets_at_cut}

-- ---- the chains

chains_of : (Pair → List Point) → List WholeSegment → List (List Point)
chains_of on segments = map (λ s. path s.pair (on s.pair)) segments

chains_are : (all : List Pair) (on : Pair → List Point) (segments : List WholeSegment) → AllByRecursion (λ s. IsChain all s.pair (path s.pair (on s.pair))) segments → AreChains all (pairs segments) (chains_of on segments)
unfolding chains_of
chains_are all on [] h = tt
chains_are all on (s ∷ segments) h = (h.0, chains_are all on segments h.1)

pieces_are : (on : Pair → List Point) (segments : List WholeSegment) → chain_pieces segments (chains_of on segments) ≡ flat_map (λ s. pieces s (on s.pair)) segments
unfolding chains_of chain_pieces pieces
pieces_are on [] = refl
pieces_are on (s ∷ segments) = ap (λ (l : List WholeSegment). pieces_along s.count (path s.pair (on s.pair)) ++ l) (pieces_are on segments)

-- the first pieces in front, or each segment's pieces together: the join is the same
same_join : (on : Pair → List Point) (segments : List WholeSegment) → join (cut_by on segments) ≡ join (flat_map (λ s. pieces s (on s.pair)) segments)
same_join on segments =
    join_from_windings (cut_by on segments) (flat_map (λ s. pieces s (on s.pair)) segments) (λ pair.
    winding_at-gathered (cut_by on segments) pair ∙ gathered-cut windings_add (count_at pair) on segments
    ∙ sym (gathered-flat_map windings_add (count_at pair) (λ s. pieces s (on s.pair)) segments) ∙ sym (winding_at-gathered (flat_map (λ s. pieces s (on s.pair)) segments) pair))

in_pairs : (segments : List WholeSegment) (s : WholeSegment) → Has segments s → Has (pairs segments) s.pair
in_pairs segments s i = Has-map (λ (u : WholeSegment). u.pair) segments s i

-- ---- the law

-- a point at which a segment is cut lies within a half of it, and on it where every crossing is a whole point
pub cut_lies_near : (segments : List WholeSegment) → IsTrue (are_ordered segments) → (s : Pair) (c : Point) → Has (pairs segments) s → IsCutAt (pairs segments) s c → IsNear (if is_rounded segments then 1 else 0) (whole_point c) s
cut_lies_near segments o s c i cut =
    let met = meets_at_cut (pairs segments) s c (ordered segments o s i) cut in
    cond_both (is_rounded segments) 1 0 (λ (n : ℕ). IsNear n (whole_point c) s)
    (λ _. (met.0, IsWithin-from_pixel (point_along s met.0) c met.1))
    (λ exact. exact_cut_near segments o exact s c i cut)

pub cuts_lie_near : (segments : List WholeSegment) (on : Pair → List Point) → IsTrue (are_ordered segments) → AreSnapCuts segments on → MarksLieNear (if is_rounded segments then 1 else 0) on segments
cuts_lie_near segments on o cuts = each_cut (λ s m. IsNear (if is_rounded segments then 1 else 0) (whole_point m) s) segments on cuts (λ s m i cut free. cut_lies_near segments o s m i cut)

pub cuts_snap : CutsSnap
cuts_snap segments on o decided cuts = (
  (
    chains_of on segments,
    chains_are (pairs segments) on segments (AllByRecursion-from_Has (λ s. IsChain (pairs segments) s.pair (path s.pair (on s.pair))) segments (λ s i. chain s i)),
    same_join on segments ∙ ap join (sym (pieces_are on segments)),
  ),
  cuts_lie_near segments on o cuts,
)
  where
    chain : (s : WholeSegment) → Has segments s → IsChain (pairs segments) s.pair (path s.pair (on s.pair))
    chain s i =
        let here = in_pairs segments s i in
        let there = Contains-from_Has (pairs segments) s.pair here in
        path_is_chain (pairs segments) s.pair (on s.pair) (ordered segments o s.pair here) there (decided s.pair there) (cuts s.pair there)
