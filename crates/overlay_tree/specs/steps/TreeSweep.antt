-- Where a sweep over an interval tree is: which entries its tree has, which of them are live, and how much it has compared.
use Rattle.std.specs.Prelude.{◌≡◌, ℕ, ◌+◌, ◌-◌, ◌*◌, ◌^◌, ◌<◌, ◌≤◌, ◌<ℤ◌, ◌==◌, min, true, false, List, ◌++◌, map, length, take, count_by, IsPermutation}
use Rattle.std.specs.Int.{int_min, int_max}
use Rattle.std.specs.List.{AllByRecursion, list_any}
use Rattle.overlay_geometry.specs.Points.{Pair}
use Rattle.overlay_geometry.specs.Meeting.{are_apart}
use Rattle.overlay_intersections.specs.Looked.{boxes_meet, count_twos}
use Rattle.overlay_tree.specs.steps.IntervalTree.{Entry, TreeNode, WholeQuery, entries, AreRising, IsSummed}
use Rattle.overlay_tree.specs.steps.Swept.{pair_at, entries_between, unswept}

abbrev pub unlive : Entry → Entry
unlive e = record e { is_live = false }

-- a look-up of the pair at an index
abbrev pub query_at : List Pair → ℕ → WholeQuery
query_at ps index =
    let s = pair_at ps index in
    record { low = int_min s.a.y s.b.y; high = int_max s.a.y s.b.y; x = s.a.x }

-- where it is among the first n and not live, it ends left of all that follow these
abbrev pub Gone : List Pair → ℕ → Entry → Type 0
Gone ps n e = e.index < n → e.is_live ≡ false → (k : ℕ) → n ≤ k → k < length ps → e.end_x <ℤ (pair_at ps k).a.x

-- The entries are those of all pairs; those before the index are live, but where they end left of all that are to come.
pub record IsSwept (ps : List Pair) (es : List Entry) (j : ℕ) : Type 0 where
  pub base : IsPermutation (unswept ps) (map unlive es)
  pub live : AllByRecursion (λ e. e.is_live ≡ true → e.index < j) es
  pub gone : AllByRecursion (Gone ps j) es

abbrev pub live_count : List Entry → ℕ
live_count es = count_by (λ e. e.is_live) es

-- The comparisons so far are the pairs of the first segments whose boxes meet, and others: the entries that were dropped, each of which
-- was live once, fewer than 32 for each segment, and 8 for each entry that was found or dropped.
pub record IsCounted (ps : List Pair) (es : List Entry) (j old now : ℕ) : Type 0 where
  pub others : ℕ
  pub most : others + 9 * live_count es ≤ 40 * j + 8 * count_twos boxes_meet (take j ps)
  pub is : now ≡ min (old + (count_twos boxes_meet (take j ps) + others)) (2 ^ 128 - 1)

-- the entries that are not in the tree: those that have gone, and those that are to come
abbrev pub away : List Pair → List Entry → ℕ → List Entry
away ps gone until = gone ++ entries_between ps until (length ps)

-- The entries are those of some segments up to one that is to come; with those that are away they are all.
pub record AreUnderWay (ps : List Pair) (es : List Entry) (old now j until : ℕ) : Type 0 where
  pub gone : List Entry
  pub asleep : AllByRecursion (λ e. e.is_live ≡ false) gone
  pub behind : AllByRecursion (λ e. e.index < j) gone
  pub within : AllByRecursion (λ e. e.index < until) es
  pub swept : IsSwept ps (es ++ away ps gone until) j
  pub counted : IsCounted ps (es ++ away ps gone until) j old now
  pub reached : j ≤ until
  pub inside : until ≤ length ps

-- they are a tree as long as one of them is to come
pub record IsUnderWay (ps : List Pair) (nodes : List TreeNode) (old now j until : ℕ) : Type 0 where
  pub way : AreUnderWay ps (entries nodes) old now j until
  pub rising : j < until → AreRising (entries nodes)
  pub summed : j < until → IsSummed nodes

-- the sweep goes on where it is, whatever was compared before
abbrev pub GoesOn : List Pair → List TreeNode → List TreeNode → ℕ → ℕ → ℕ → ℕ → ℕ → Type 0
GoesOn ps nodes next now after j until until' = (old : ℕ) → IsUnderWay ps nodes old now j until → IsUnderWay ps next old after (j + 1) until'

-- those found are before the segment, and all that are not apart from it
pub record AreFoundBefore (ps : List Pair) (found : List ℕ) (j : ℕ) : Type 0 where
  pub earlier : AllByRecursion (λ i. i < j) found
  pub near : (i : ℕ) → i < j → are_apart (pair_at ps i) (pair_at ps j) ≡ false → list_any (λ k. k == i) found ≡ true
