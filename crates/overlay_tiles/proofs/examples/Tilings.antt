-- Worked examples of tiles that are apart or meet, and of parts one after another. Each holds by computation.
use Rattle.std.proofs.Common.{◌≡◌, refl, ℕ, List, [], ◌∷◌}
use Rattle.std.specs.Prelude.{pos}
use Rattle.std.proofs.lemmas.List.Elements.{All-from_recursion}
use Rattle.overlay_geometry.specs.Points.{Point}
use Rattle.overlay_geometry.specs.Ranges.{Rect}
use Rattle.overlay_base.proofs.examples.Words.{point}
use Rattle.overlay_tiles.specs.Tiles.{AreApart}
use Rattle.overlay_tiles.specs.TiledOverlays.{AreApartInPairs, Meet, AreParts}
use Rattle.overlay_tiles.proofs.laws.Tilings.{apart_by_test, not_apart_by_test}

-- the tile between two numbers in x, from 0 to 10 in y
abbrev between : ℕ → ℕ → Rect
between from to = record { min_x = pos from; max_x = pos to; min_y = pos 0; max_y = pos 10 }

-- two tiles that share a side are apart
beside : AreApartInPairs (between 0 10 ∷ between 10 20 ∷ [])
beside = (
  All-from_recursion (AreApart (between 0 10)) (between 10 20 ∷ []) (apart_by_test (between 0 10) (between 10 20) refl, tt),
  (All-from_recursion (AreApart (between 10 20)) [] tt, tt),
)

-- the first and the third share what lies from 9 to 10
overlapping : Meet (between 0 10 ∷ between 10 20 ∷ between 9 12 ∷ []) 0 2
overlapping = record {
  earlier = [];
  tile = between 0 10;
  later = between 10 20 ∷ between 9 12 ∷ [];
  between = 1;
  tiles_are = refl;
  first_is = refl;
  second_is = refl;
  meets = record {
    earlier = between 10 20 ∷ [];
    other = between 9 12;
    later = [];
    tiles_are = refl;
    index_is = refl;
    meet = not_apart_by_test (between 0 10) (between 9 12) refl;
  };
}

-- the lower corners of tiles, each as a contour
abbrev corners : Rect → List Point
corners tile = record { x = tile.min_x; y = tile.min_y } ∷ record { x = tile.max_x; y = tile.min_y } ∷ []

in_order : AreParts (λ tile part. part ≡ corners tile ∷ []) (between 0 10 ∷ between 10 20 ∷ []) ((point (pos 0) (pos 0) ∷ point (pos 10) (pos 0) ∷ []) ∷ (point (pos 10) (pos 0) ∷ point (pos 20) (pos 0) ∷ []) ∷ [])
in_order = (corners (between 0 10) ∷ [], corners (between 10 20) ∷ [], refl, refl, (corners (between 10 20) ∷ [], [], refl, refl, refl))
