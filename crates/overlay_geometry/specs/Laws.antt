-- Laws over the definitions: statements that the contracts of `geom::laws` name.
use Rattle.std.specs.Prelude.{◌≡◌, ◌↔◌, pos, ◌+ℤ◌, neg_ℤ, IsTrue, IsFalse}
use Rattle.std.specs.Cmp.{IsTotalOrder}
use Rattle.std.specs.declared.cmp.Ordering.{Ordering}
use Rattle.std.specs.declared.cmp.Ordering.TheVariants.{Equal}
use Rattle.overlay_geometry.specs.Points.{Point, Pair, point_cmp, point_lt, pair_cmp, moved, turn, is_ordered, lies_on, is_strictly_inside}

-- ---- turns

-- the turn of three points is that of the same points, begun with the second
abbrev pub TurnRotates : Type 0
TurnRotates = (p q r : Point) → turn p q r ≡ turn q r p

-- two points in each other's place: the turn changes its sign
abbrev pub TurnChangesSign : Type 0
TurnChangesSign = (p q r : Point) → (turn q p r ≡ neg_ℤ (turn p q r)) × (turn p r q ≡ neg_ℤ (turn p q r)) × (turn r q p ≡ neg_ℤ (turn p q r))

-- three points that are moved alike turn as before
abbrev pub TurnIsUnmoved : Type 0
TurnIsUnmoved = (v p q r : Point) → turn (moved v p) (moved v q) (moved v r) ≡ turn p q r

-- four points: the two ways to cut them into two turns have one sum
abbrev pub TurnSplits : Type 0
TurnSplits = (p q r s : Point) → turn p q r +ℤ turn p r s ≡ turn p q s +ℤ turn q r s

-- ---- orders

-- keys are totally ordered, and compare as equal exactly where they are equal
abbrev pub IsOrderOfEqual : {K : Type 0} → (K → K → Ordering) → Type 0
IsOrderOfEqual {K} cmp = IsTotalOrder cmp × ((j k : K) → (cmp j k ≡ Equal) ↔ (j ≡ k))

abbrev pub PointsAreOrdered : Type 0
PointsAreOrdered = IsOrderOfEqual point_cmp

abbrev pub PairsAreOrdered : Type 0
PairsAreOrdered = IsOrderOfEqual pair_cmp

-- ---- points on an ordered pair

-- a point lies on the pair exactly where it does not turn and comes neither before a nor after b
abbrev pub LiesOnByOrder : Type 0
LiesOnByOrder =
    (s : Pair) (p : Point) → IsTrue (is_ordered s) →
    (IsTrue (lies_on s p) ↔ ((turn s.a s.b p ≡ pos 0) × IsFalse (point_lt p s.a) × IsFalse (point_lt s.b p)))

-- and strictly inside exactly where it does not turn and comes after a and before b
abbrev pub LiesInsideByOrder : Type 0
LiesInsideByOrder =
    (s : Pair) (p : Point) → IsTrue (is_ordered s) →
    (IsTrue (is_strictly_inside s p) ↔ ((turn s.a s.b p ≡ pos 0) × IsTrue (point_lt s.a p) × IsTrue (point_lt p s.b)))
