-- Tiles of the plane, and contours cut and clamped to them.
use Rattle.std.specs.Prelude.{ℤ, pos, ◌+ℤ◌, ◌-ℤ◌, ◌*ℤ◌, ◌≤ℤ◌, ◌<ℤ◌, int_lt, int_le, Bool, not, ◌&&◌, ◌||◌, if◌then◌else◌, List, [], ◌∷◌, map, filter, flat_map}
use Rattle.std.specs.List.{list_all}
use Rattle.overlay_geometry.specs.Points.{Point, Pair, is_vertical, is_horizontal}
use Rattle.overlay_geometry.specs.Ranges.{Rect}
use Rattle.overlay_base.specs.Places.{RationalPoint}
use Rattle.overlay_intersections.specs.Crossing.{quotient, nearest_upward}
use Rattle.overlay_contours.specs.Contours.{steps_of}

-- ---- tiles

-- A rectangle whose sides are longer than 0.
pub record IsTile (tile : Rect) : Type 0 where
  pub wide : tile.min_x <ℤ tile.max_x
  pub high : tile.min_y <ℤ tile.max_y

-- The point belongs to the tile: it lies inside, on the left or on the upper border. So it belongs to at most one tile of a grid.
pub record BelongsToTile (tile : Rect) (p : RationalPoint) : Type 0 where
  pub from_left : (tile.min_x *ℤ pos p.bottom) ≤ℤ p.x
  pub to_right : p.x <ℤ (tile.max_x *ℤ pos p.bottom)
  pub from_below : (tile.min_y *ℤ pos p.bottom) <ℤ p.y
  pub to_top : p.y ≤ℤ (tile.max_y *ℤ pos p.bottom)

-- The point lies in the tile, with all its borders.
pub record LiesInTile (tile : Rect) (q : Point) : Type 0 where
  pub from_left : tile.min_x ≤ℤ q.x
  pub to_right : q.x ≤ℤ tile.max_x
  pub from_below : tile.min_y ≤ℤ q.y
  pub to_top : q.y ≤ℤ tile.max_y

-- The two are apart by a line along an axis: the other lies to the left, to the right, below or above.
pub data AreApart (tile other : Rect) : Type 0 where
  on_left : other.max_x ≤ℤ tile.min_x → AreApart tile other
  on_right : tile.max_x ≤ℤ other.min_x → AreApart tile other
  under : other.max_y ≤ℤ tile.min_y → AreApart tile other
  over : tile.max_y ≤ℤ other.min_y → AreApart tile other

-- the nearest number from the least to the greatest
abbrev pub clamped : ℤ → ℤ → ℤ → ℤ
clamped least greatest z = if int_lt z least then least else (if int_lt greatest z then greatest else z)

-- the nearest point of the tile
abbrev pub clamp : Rect → Point → Point
clamp tile q = record { x = clamped tile.min_x tile.max_x q.x; y = clamped tile.min_y tile.max_y q.y }

-- whether a pair runs along no axis
abbrev pub is_slanted : Pair → Bool
is_slanted s = not (is_vertical s || is_horizontal s)

-- ---- cuts

-- a line along an axis: all points with one x, or with one y
pub data Line : Type 0 where
  upright level : ℤ → Line

-- whether z lies strictly between two numbers
abbrev pub is_amid : ℤ → ℤ → ℤ → Bool
is_amid u v z = (int_lt u z && int_lt z v) || (int_lt v z && int_lt z u)

-- whether two points lie strictly on the two sides of a line
unfoldable pub parts : Line → Point → Point → Bool
parts (upright x) u v = is_amid u.x v.x x
parts (level y) u v = is_amid u.y v.y y

-- the lines of the borders: left, right, lower and upper
abbrev pub borders : Rect → List Line
borders tile = upright tile.min_x ∷ upright tile.max_x ∷ level tile.min_y ∷ level tile.max_y ∷ []

-- z of the way from a to b, where the other coordinate goes from c to d: that coordinate, to the nearest whole number, halves upward
unfoldable pub height_at : ℤ → ℤ → ℤ → ℤ → ℤ → ℤ
height_at a b c d z = c +ℤ nearest_upward (quotient (d -ℤ c) (z -ℤ a) (b -ℤ a))

-- where the line through a pair meets a line, as a whole point of that line
unfoldable pub cut : Pair → Line → Point
cut s (upright x) = record { x = x; y = height_at s.a.x s.b.x s.a.y s.b.y x }
cut s (level y) = record { x = height_at s.a.y s.b.y s.a.x s.b.x y; y = y }

-- the points that follow u, with the cut of s between each two neighbors that a line parts
unfoldable pub refined : Pair → Line → Point → List Point → List Point
refined s line u [] = []
refined s line u (v ∷ points) = if parts line u v then cut s line ∷ v ∷ refined s line v points else v ∷ refined s line v points

-- The path of a step from its first end on, cut at the lines of the four borders. Each cut is that of the step itself, so it depends
-- on the step and the line alone.
unfoldable pub cut_path : Rect → Pair → List Point
cut_path tile s =
    refined s (level tile.max_y) s.a
    (refined s (level tile.min_y) s.a
    (refined s (upright tile.max_x) s.a
    (refined s (upright tile.min_x) s.a (s.b ∷ []))))

-- a list without its last point
unfoldable pub without_last : List Point → List Point
without_last [] = []
without_last (p ∷ []) = []
without_last (p ∷ q ∷ points) = p ∷ without_last (q ∷ points)

-- the points of a step, cut and clamped, without its last one
abbrev pub step_points : Rect → Pair → List Point
step_points tile s = map (clamp tile) (s.a ∷ without_last (cut_path tile s))

-- a contour, cut and clamped to a tile
unfoldable pub clipped : Rect → List Point → List Point
clipped tile points = flat_map (step_points tile) (steps_of points)

-- the contours of a list, cut and clamped
abbrev pub all_clipped : Rect → List (List Point) → List (List Point)
all_clipped tile contours = map (clipped tile) contours

-- ---- contours beside a tile

-- whether all points of a contour lie to the left of the tile, or all to the right, below or above, the line of that border included
unfoldable pub is_beside : Rect → List Point → Bool
is_beside tile points =
    list_all (λ q. int_le q.x tile.min_x) points || list_all (λ q. int_le tile.max_x q.x) points
    || list_all (λ q. int_le q.y tile.min_y) points || list_all (λ q. int_le tile.max_y q.y) points

-- the contours that do not lie beside the tile
abbrev pub reaching : Rect → List (List Point) → List (List Point)
reaching tile contours = filter (λ c. not (is_beside tile c)) contours

-- ---- points that count nowhere in a tile

-- the points that follow u, without those that lie beside the tile together with the last one kept before them and the next one
unfoldable pub thinned_from : Rect → Point → List Point → List Point
thinned_from tile u [] = []
thinned_from tile u (v ∷ []) = v ∷ []
thinned_from tile u (v ∷ w ∷ points) =
    if is_beside tile (u ∷ v ∷ w ∷ []) then thinned_from tile u (w ∷ points) else v ∷ thinned_from tile v (w ∷ points)

-- a contour without these: its first and its last point are kept
unfoldable pub thinned : Rect → List Point → List Point
thinned tile [] = []
thinned tile (p ∷ points) = p ∷ thinned_from tile p points

-- what a tile needs of contours: those that do not lie beside it, cut, clamped and thinned
abbrev pub in_tile : Rect → List (List Point) → List (List Point)
in_tile tile contours = map (thinned tile) (all_clipped tile (reaching tile contours))
