-- Convex polygons with the origin inside or on the boundary.
use Rattle.std.specs.Prelude.{ℕ, pos, ◌≤◌, ◌+◌, ◌++◌, ◌≡◌, int_lt, int_le, Bool, ◌&&◌, IsTrue, IsFalse, if◌then◌else◌, ℤ, List, [], ◌∷◌, length}
use Rattle.std.specs.List.{list_all}
use Rattle.overlay_geometry.specs.Points.{Point, Pair, point_eq, turn}
use Rattle.overlay_contours.specs.Contours.{steps_of}

abbrev pub origin : Point
origin = record { x = pos 0; y = pos 0 }

-- A step ends on the left of another one or on its line, and strictly on the left where it goes on from its end.
abbrev pub goes_left : Pair → Pair → Bool
goes_left r s = if point_eq s.a r.b then int_lt (pos 0) (turn r.a r.b s.b) else int_le (pos 0) (turn r.a r.b s.b)

-- No corner of k lies on the right of a step, nor does the origin, and the next step turns left.
abbrev pub is_side : List Point → Pair → Bool
is_side k r = list_all (goes_left r) (steps_of k) && int_le (pos 0) (turn r.a r.b origin)

-- A convex polygon that runs counterclockwise and has the origin inside or on its boundary.
pub record IsConvexAround (k : List Point) : Type 0 where
  pub corners : 3 ≤ length k
  pub sides : IsTrue (list_all (is_side k) (steps_of k))

-- the corners of a rectangle, counterclockwise from the lower left one
abbrev pub rectangle : ℤ → ℤ → ℤ → ℤ → List Point
rectangle west south east north =
    record { x = west; y = south } ∷ record { x = east; y = south } ∷ record { x = east; y = north } ∷ record { x = west; y = north } ∷ []

-- Of a list the element at an index fails a test, and those before it pass.
pub record IsFirstToFail {X : Type 0} (test : X → Bool) (list : List X) (index : ℕ) : Type 0 where
  pub earlier : List X
  pub element : X
  pub later : List X
  pub list_is : list ≡ earlier ++ element ∷ later
  pub place : index ≡ length earlier
  pub passed : IsTrue (list_all test earlier)
  pub failed : IsFalse (test element)
