-- Laws over the definitions: statements that the contracts of `segm::laws` name.
use Rattle.std.specs.Prelude.{◌≡◌, ◌↔◌, ◌<◌, ℤ, pos, ◌-ℤ◌, Bool, IsTrue, List, [], ◌++◌, filter, length, ◌≤◌, IsPermutation}
use Rattle.std.specs.List.{list_any}
use Rattle.std.specs.Cmp.{IsStrictWeakOrder}
use Rattle.std.specs.List.Sorted.{IsSorted, IsSortedByKey, IsStable, IsStableByKey}
use Rattle.std.specs.declared.cmp.Ordering.{Ordering}
use Rattle.std.specs.Ordering.{is_lt}
use Rattle.overlay_geometry.specs.Points.{Point, Pair, pair_cmp, pair_eq}
use Rattle.overlay_geometry.specs.Sorting.{stably_sorted}
use Rattle.overlay_base.specs.Windings.{Winding, add, empty, inverse, weight, is_valid, is_not_empty}
use Rattle.overlay_base.specs.Segments.{WholeSegment, pairs, is_map, are_ordered, winding_at}
use Rattle.overlay_base.specs.Sums.{IsCommutativeMonoid, IsLinear, weighed}
use Rattle.overlay_base.specs.Join.{join, has_equal_pairs, has_equal_neighbors, running_sums, join_leaves_range}
use Rattle.overlay_base.specs.Balance.{IsBalanced, KeepsBalance}
use Rattle.overlay_base.specs.Places.{RationalPoint, winding_below}
use Rattle.overlay_base.specs.Rays.{is_on_none, winding_above, winding_left, winding_right}
use Rattle.overlay_base.specs.BalanceTest.{end_counts}
use Rattle.overlay_base.specs.EdgeData.{Hooks, DataSegment, IsMadeFrom, HooksKeepStore, without_data, data_join}

-- ---- counts

-- counts, with their masks, are a commutative monoid
abbrev pub CountsAddUp : Type 0
CountsAddUp = IsCommutativeMonoid add empty

-- a count and its inverse have weight 0 together
abbrev pub InverseCancels : Type 0
InverseCancels = (c : Winding) → weight (add c (inverse c)) ≡ empty

-- counts without a mask are a group: sums and inverses have no mask, and a count and its inverse add to nothing
abbrev pub PolygonCountsAreGroup : Type 0
PolygonCountsAreGroup = (c d : Winding) → c.mask ≡ 0 → d.mask ≡ 0 → ((add c d).mask ≡ 0) × ((inverse c).mask ≡ 0) × (add c (inverse c) ≡ empty)

-- inverting a valid count twice gives it back
abbrev pub InverseTwice : Type 0
InverseTwice = (c : Winding) → IsTrue (is_valid c) → inverse (inverse c) ≡ c

-- an inverted sum is the sum of the inverted
abbrev pub InverseOfSum : Type 0
InverseOfSum = (c d : Winding) → inverse (add c d) ≡ add (inverse c) (inverse d)

-- ---- joins

-- the join is a map that gives each pair its sum
abbrev pub JoinIsMap : Type 0
JoinIsMap = (bag : List WholeSegment) → IsTrue (are_ordered bag) → IsTrue (is_map (join bag)) × ((pair : Pair) → winding_at (join bag) pair ≡ winding_at bag pair)

-- two maps with the same windings are the same list
abbrev pub MapIsItsWindings : Type 0
MapIsItsWindings = (xs ys : List WholeSegment) → IsTrue (is_map xs) → IsTrue (is_map ys) → ((pair : Pair) → winding_at xs pair ≡ winding_at ys pair) → xs ≡ ys

-- so the join is the only map with the windings of the bag
abbrev pub JoinIsOnlyMap : Type 0
JoinIsOnlyMap = (bag segments : List WholeSegment) → IsTrue (is_map segments) → ((pair : Pair) → winding_at segments pair ≡ winding_at bag pair) → segments ≡ join bag

-- bags with the same windings have one join
abbrev pub JoinDependsOnWindings : Type 0
JoinDependsOnWindings = (xs ys : List WholeSegment) → ((pair : Pair) → winding_at xs pair ≡ winding_at ys pair) → join xs ≡ join ys

-- the join of a join is that join, and the join of a map is that map
abbrev pub JoinOfJoin : Type 0
JoinOfJoin = (bag : List WholeSegment) → join (join bag) ≡ join bag

abbrev pub JoinOfMap : Type 0
JoinOfMap = (segments : List WholeSegment) → IsTrue (is_map segments) → join segments ≡ segments

-- each part of a bag may be joined beforehand
abbrev pub JoinOfParts : Type 0
JoinOfParts = (xs ys : List WholeSegment) → (join (join xs ++ ys) ≡ join (xs ++ ys)) × (join (xs ++ join ys) ≡ join (xs ++ ys))

-- the join of the segments whose pairs pass a test is that part of the join
abbrev pub JoinOfPart : Type 0
JoinOfPart = (test : Pair → Bool) (bag : List WholeSegment) → join (filter (λ s. test s.pair) bag) ≡ filter (λ s. test s.pair) (join bag)

-- the order of a bag does not count
abbrev pub JoinOfPermutation : Type 0
JoinOfPermutation = (xs ys : List WholeSegment) → IsPermutation xs ys → join ys ≡ join xs

-- the two numbers of a count are linear
abbrev pub NumbersAreLinear : Type 0
NumbersAreLinear = IsLinear (λ c. c.subj) × IsLinear (λ c. c.clip)

-- a linear sum over a bag is that over its join
abbrev pub JoinKeepsSums : Type 0
JoinKeepsSums = (g : Pair → ℤ) (part : Winding → ℤ) → IsLinear part → (bag : List WholeSegment) → weighed g part (join bag) ≡ weighed g part bag

abbrev pub JoinKeepsBalance : Type 0
JoinKeepsBalance = (bag : List WholeSegment) → KeepsBalance bag (join bag)

-- sorted by pair, neighbors show whether the bag had equal pairs
abbrev pub NeighborsTellEqualPairs : Type 0
NeighborsTellEqualPairs = (bag sorted : List WholeSegment) → IsPermutation bag sorted → IsSortedByKey (λ s. s.pair) pair_cmp sorted → has_equal_neighbors sorted ≡ has_equal_pairs bag

-- a pair is in the join exactly where its counts in the bag do not cancel
abbrev pub JoinHoldsPair : Type 0
JoinHoldsPair = (bag : List WholeSegment) (pair : Pair) → list_any (λ k. pair_eq pair k) (pairs (join bag)) ≡ is_not_empty (winding_at bag pair)

-- a join has no more segments than its bag
abbrev pub JoinIsNoLonger : Type 0
JoinIsNoLonger = (bag : List WholeSegment) → length (join bag) ≤ length bag

-- a stable sort by pair keeps the running sums at each pair, and so whether one of them is too large
abbrev pub StableSortKeepsSums : Type 0
StableSortKeepsSums =
    (bag sorted : List WholeSegment) → IsPermutation bag sorted → IsStableByKey (λ s. s.pair) pair_cmp bag sorted →
    ((pair : Pair) → running_sums sorted pair ≡ running_sums bag pair) × (join_leaves_range sorted ≡ join_leaves_range bag)

-- ---- joins with data

-- whatever the hooks do, the join with data is, without its data, the join
abbrev pub DataJoinIsBeside : (D S : Type 0) → Type 0
DataJoinIsBeside D S = (hooks : Hooks D S) (segments : List (DataSegment D)) (store : S) → without_data (data_join hooks segments store).0 ≡ join (without_data segments)

-- what holds of a store, and is kept by every hook, holds of what calls of the hooks make of it
abbrev pub StoreKeepsWhatHooksKeep : (D S : Type 0) → Type 0
StoreKeepsWhatHooksKeep D S =
    (hooks : Hooks D S) (holds : S → Bool) → HooksKeepStore hooks holds → (from left : S) → IsMadeFrom hooks from left → IsTrue (holds from) → IsTrue (holds left)

-- ---- stable sorts

-- a list in order, with ties as they were, is the list that `stably_sorted` gives
abbrev pub StableSortIsUnique : (X : Type 0) → Type 0
StableSortIsUnique X = (cmp : X → X → Ordering) → IsStrictWeakOrder (λ x y. is_lt (cmp x y)) → (xs ys : List X) → IsSorted cmp ys → IsStable cmp xs ys → ys ≡ stably_sorted cmp xs

-- and that list has the elements of the given one, in order, with ties as they were
abbrev pub StablySortedIsStable : (X : Type 0) → Type 0
StablySortedIsStable X = (cmp : X → X → Ordering) → IsStrictWeakOrder (λ x y. is_lt (cmp x y)) → (xs : List X) → IsSorted cmp (stably_sorted cmp xs) × IsStable cmp xs (stably_sorted cmp xs) × IsPermutation xs (stably_sorted cmp xs)

-- ---- rays

-- Whatever number a function gives each point: along balanced segments as much of it is lost as is gained.
abbrev pub BalancedLosesNothing : Type 0
BalancedLosesNothing =
    (f : Point → ℤ) (segments : List WholeSegment) → IsBalanced segments →
    (weighed (λ s. f s.a -ℤ f s.b) (λ c. c.subj) segments ≡ pos 0) × (weighed (λ s. f s.a -ℤ f s.b) (λ c. c.clip) segments ≡ pos 0)

-- The winding around a place is that of any of its four rays: balanced segments, none of which goes through p, wind there by what is above
-- it, to the left of it and to the right of it as by what is below it.
abbrev pub AnyRayWillDo : Type 0
AnyRayWillDo =
    (segments : List WholeSegment) (p : RationalPoint) → IsTrue (are_ordered segments) → IsBalanced segments → 0 < p.bottom → IsTrue (is_on_none segments p) →
    (winding_above segments p ≡ winding_below segments p) × (winding_left segments p ≡ winding_below segments p) × (winding_right segments p ≡ winding_below segments p)

-- A list is balanced exactly where the counts at its ends, joined, are none.
abbrev pub BalanceIsTested : Type 0
BalanceIsTested = (segments : List WholeSegment) → (join (end_counts segments) ≡ []) ↔ IsBalanced segments
