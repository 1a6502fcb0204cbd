-- The pieces of segments that are cut along their chains: few on each pair of ends.
use Rattle.std.proofs.Common.{IsTrue, List}
use Rattle.std.specs.List.{AllByRecursion}
use Rattle.overlay_geometry.specs.Points.{Point, Pair}
use Rattle.overlay_geometry.proofs.laws.lists.Lists.{Has, AllByRecursion-from_Has, Has-map}
use Rattle.overlay_geometry.proofs.laws.lists.Elements.{Contains-from_Has}
use Rattle.overlay_base.specs.Segments.{WholeSegment, pairs, are_ordered}
use Rattle.overlay_cuts.specs.Path.{path, pieces}
use Rattle.overlay_snapping.specs.Chains.{AreSnapCuts, AreDecided}
use Rattle.overlay_snapping.proofs.laws.batches.FewPieces.{few_on_pair, sorted_are_distinct}
use Rattle.overlay_snapping.proofs.laws.batches.Walks.{AreFew}
use Rattle.overlay_snapping.proofs.laws.chains.MarkPixels.{ordered}
use Rattle.overlay_snapping.proofs.laws.chains.Paths.{path_is_chain}

module _ (segments : List WholeSegment) (on : Pair → List Point) (o : IsTrue (are_ordered segments)) (decided : AreDecided segments) (cuts : AreSnapCuts segments on) where
  pub few_of : (s : WholeSegment) → Has segments s → AreFew on s
  unfolding pieces
  few_of s i =
      let here = Has-map (λ (u : WholeSegment). u.pair) segments s i in
      let there = Contains-from_Has (pairs segments) s.pair here in
      let chain = path_is_chain (pairs segments) s.pair (on s.pair) (ordered segments o s.pair here) there (decided s.pair there) (cuts s.pair there) in
      few_on_pair s.count (path s.pair (on s.pair)) (sorted_are_distinct s.pair (path s.pair (on s.pair)) chain.in_order)

  pub cuts_are_few : AllByRecursion (AreFew on) segments
  cuts_are_few = AllByRecursion-from_Has (AreFew on) segments few_of
