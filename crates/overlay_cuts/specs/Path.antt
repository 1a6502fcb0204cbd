-- The path of a segment through its marks, and the pieces into which it falls.
use Rattle.std.specs.Prelude.{◌≢◌, ⊤, int_lt, if◌then◌else◌, List, [], ◌∷◌, ◌++◌, reverse}
use Rattle.std.specs.Ordering.{int_eq}
use Rattle.overlay_geometry.specs.Points.{Point, Pair, point_cmp, point_lt}
use Rattle.overlay_geometry.specs.Sorting.{distinct_in_order}
use Rattle.overlay_base.specs.Windings.{Winding, inverse}
use Rattle.overlay_base.specs.Segments.{WholeSegment}

-- p before columns of points that come after it in order
unfoldable pub onto_columns : Point → List (List Point) → List (List Point)
onto_columns p [] = (p ∷ []) ∷ []
onto_columns p ([] ∷ columns) = (p ∷ []) ∷ columns
onto_columns p ((q ∷ column) ∷ columns) = if int_eq p.x q.x then (p ∷ q ∷ column) ∷ columns else (p ∷ []) ∷ (q ∷ column) ∷ columns

-- points in order, those of each x together
unfoldable pub columns_in_order : List Point → List (List Point)
columns_in_order [] = []
columns_in_order (p ∷ points) = onto_columns p (columns_in_order points)

-- the marks by rising x, those of each x by rising y, each once
unfoldable pub columns_of : List Point → List (List Point)
columns_of marks = columns_in_order (distinct_in_order point_cmp marks)

-- the lowest mark of the next column, or b where there is none
unfoldable pub next_point : List (List Point) → Point → Point
next_point [] b = b
next_point ([] ∷ columns) b = b
next_point ((p ∷ column) ∷ columns) b = p

-- the last of the points, or p where there is none
unfoldable pub last_point : Point → List Point → Point
last_point p [] = p
last_point p (q ∷ points) = last_point q points

-- a column is run upward, unless the point before it is higher than the next one after it
unfoldable pub column_path : Point → List Point → Point → List Point
column_path before column next = if int_lt next.y before.y then reverse column else column

-- what follows on the path after a point: the columns, then b
unfoldable pub path_from : Point → List (List Point) → Point → List Point
path_from before [] b = b ∷ []
path_from before (column ∷ columns) b =
    let points = column_path before column (next_point columns b) in
    points ++ path_from (last_point before points) columns b

-- from a through the marks to b
unfoldable pub path : Pair → List Point → List Point
path pair marks = pair.a ∷ path_from pair.a (columns_of marks) pair.b

-- A step of the path is a piece with the segment's count. One that runs backwards is turned and its count inverted.
unfoldable pub piece : Winding → Point → Point → WholeSegment
piece count p q =
    if point_lt p q then record { pair = record { a = p; b = q }; count = count }
    else record { pair = record { a = q; b = p }; count = inverse count }

unfoldable pub pieces_along : Winding → List Point → List WholeSegment
pieces_along count [] = []
pieces_along count (p ∷ []) = []
pieces_along count (p ∷ q ∷ points) = piece count p q ∷ pieces_along count (q ∷ points)

unfoldable pub pieces : WholeSegment → List Point → List WholeSegment
pieces segment marks = pieces_along segment.count (path segment.pair marks)

-- each step from p along the points leads to another point
abbrev pub LeadsOn : Point → List Point → Type 0
LeadsOn p [] = ⊤
LeadsOn p (q ∷ points) = (p ≢ q) × LeadsOn q points
