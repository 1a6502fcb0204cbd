-- Segments of a list that lie inside a grid.
use Rattle.std.proofs.Common.{List, [], ◌∷◌}
use Rattle.std.specs.Prelude.{All}
use Rattle.std.specs.List.{AllByRecursion}
use Rattle.std.proofs.lemmas.List.Elements.{All-from_recursion}
use Rattle.overlay_base.specs.Segments.{pairs}
use Rattle.overlay_base.specs.SegmentOf.{ends_of, segments_of}
use Rattle.overlay_base.specs.declared.segm.segment.Segment.{Segment}
use Rattle.overlay_grid.specs.Grid.{Layout, IsInside}

pub each_lies_inside : {C I D : Type 0} {m : _} {w : _} {o : _} {e : _} {p : _} (xs : List (Segment C I D m w o e p)) (l : Layout) → AllByRecursion (λ s. IsInside l s) (pairs (segments_of xs)) → All (λ (x : Segment C I D m w o e p). IsInside l (ends_of x)) xs
each_lies_inside xs l h = All-from_recursion (λ (x : Segment _ _ _ _ _ _ _ _). IsInside l (ends_of x)) xs (go xs h)
  where
    go : {C I D : Type 0} {m : _} {w : _} {o : _} {e : _} {p : _} (ys : List (Segment C I D m w o e p)) → AllByRecursion (λ s. IsInside l s) (pairs (segments_of ys)) → AllByRecursion (λ (x : Segment C I D m w o e p). IsInside l (ends_of x)) ys
    go [] k = tt
    go (y ∷ ys) k = (k.0, go ys k.1)
