-- What holds of each mark on each pair of a list.
use Rattle.std.proofs.Common.{List, All}
use Rattle.std.specs.List.{AllByRecursion}
use Rattle.std.proofs.lemmas.List.Elements.{All-contains, recursion_from_All}
use Rattle.overlay_geometry.specs.Points.{Point, Pair}
use Rattle.overlay_geometry.proofs.laws.lists.Elements.{Contains-from_Has}
use Rattle.overlay_geometry.proofs.laws.lists.Lists.{AllByRecursion-from_Has, Has, Has-map}
use Rattle.overlay_base.specs.Segments.{WholeSegment, pairs}
use Rattle.overlay_cuts.specs.Pass.{EachMark}

module _ (P : Pair → Point → Type 0) (marks : Pair → List Point) (segments : List WholeSegment) (each : EachMark P marks segments) where
  pub EachMark-at : (s : Pair) → Has (pairs segments) s → AllByRecursion (P s) (marks s)
  EachMark-at s i = recursion_from_All (P s) (marks s) (All-contains (λ t. All (P t) (marks t)) (pairs segments) s each (Contains-from_Has (pairs segments) s i))

  pub EachMark-each : AllByRecursion (λ s. AllByRecursion (P s.pair) (marks s.pair)) segments
  EachMark-each = AllByRecursion-from_Has (λ s. AllByRecursion (P s.pair) (marks s.pair)) segments (λ s i. EachMark-at s.pair (Has-map (λ (t : WholeSegment). t.pair) segments s i))
