-- A tree over the heights of entries that expire: what a look-up compares, finds and leaves.
use Rattle.std.specs.Prelude.{⊤, ◌≡◌, ℕ, ◌+◌, ◌-◌, ◌*◌, ◌^◌, ◌/◌, ◌<◌, ◌≤◌, min, count_by, ◌==◌, ℤ, ◌<ℤ◌, int_lt, Bool, false, not, ◌&&◌, ◌||◌, if◌then◌else◌, ◌⊎◌, Option, None, Some, List, [], ◌∷◌, ◌++◌, length, map, filter}
use Rattle.std.specs.Int.{int_max}
use Rattle.std.specs.List.{AllByRecursion}

-- the entry of a segment: its heights, the x of its end, its index, and whether it is live
pub record Entry : Type 0 where
  pub low : ℤ
  pub high : ℤ
  pub end_x : ℤ
  pub index : ℕ
  pub is_live : Bool

-- a look-up between two heights, where the sweep is at x
pub record WholeQuery : Type 0 where
  pub low : ℤ
  pub high : ℤ
  pub x : ℤ

-- whether the heights of an entry meet those of a look-up
abbrev pub is_at_heights : WholeQuery → Entry → Bool
is_at_heights q e = not (int_lt e.high q.low) && not (int_lt q.high e.low)

-- A look-up compares the live entries whose heights it meets. Where one ends left of the sweep it is dropped, else found.
abbrev pub is_taken_up : WholeQuery → Entry → Bool
is_taken_up q e = e.is_live && is_at_heights q e

abbrev pub is_found : WholeQuery → Entry → Bool
is_found q e = is_taken_up q e && not (int_lt e.end_x q.x)

abbrev pub is_dropped : WholeQuery → Entry → Bool
is_dropped q e = is_taken_up q e && int_lt e.end_x q.x

-- How many entries a look-up compares, added to what was counted before: those that it takes up, and others in the small
-- subtrees that it passes over node by node. The others are 8 at most, and 8 for each that it takes up; only the latter where
-- every entry begins within its reach. It compares no entry twice.
pub record HasLooked (q : WholeQuery) (es : List Entry) (old now : ℕ) : Type 0 where
  pub others : ℕ
  pub is : now ≡ min (old + (count_by (is_taken_up q) es + others)) (2 ^ 128 - 1)
  pub most : others ≤ 8 + 8 * count_by (is_taken_up q) es
  pub reached : AllByRecursion (λ e. int_lt q.high e.low ≡ false) es → others ≤ 8 * count_by (is_taken_up q) es
  pub within : count_by (is_taken_up q) es + others ≤ length es

-- the indexes of those that it finds
abbrev pub found : WholeQuery → List Entry → List ℕ
found q entries = map (λ e. e.index) (filter (is_found q) entries)

-- what it leaves of an entry
abbrev pub left_by : WholeQuery → Entry → Entry
left_by q e = record e { is_live = e.is_live && not (is_dropped q e) }

-- what the insertion of an index leaves of an entry
abbrev pub inserted : ℕ → Entry → Entry
inserted index e = record e { is_live = e.is_live || e.index == index }

-- whether an entry is live and does not end left of x
abbrev pub stays_at : ℤ → Entry → Bool
stays_at x e = e.is_live && not (int_lt e.end_x x)

-- entries are ordered by rising low, those of one low by rising index
abbrev pub StandsBefore : Entry → Entry → Type 0
StandsBefore e f = (e.low <ℤ f.low) ⊎ ((e.low ≡ f.low) × (e.index < f.index))

abbrev pub AreRising : List Entry → Type 0
AreRising [] = ⊤
AreRising (e ∷ entries) = AllByRecursion (StandsBefore e) entries × AreRising entries

-- A node: an entry, and the greatest height of the live entries of its subtree.
pub record TreeNode : Type 0 where
  pub entry : Entry
  pub greatest : Option ℤ

abbrev pub entries : List TreeNode → List Entry
entries nodes = map (λ n. n.entry) nodes

-- the greater of two heights, where there are any
abbrev pub further : Option ℤ → Option ℤ → Option ℤ
further None b = b
further (Some a) None = Some a
further (Some a) (Some b) = Some (int_max a b)

-- the greatest height of an entry, where it is live
abbrev pub live_height : Entry → Option ℤ
live_height e = if e.is_live then Some e.high else None

-- the greatest height of the live entries, where there are any
abbrev pub greatest_height : List Entry → Option ℤ
greatest_height [] = None
greatest_height (e ∷ entries) = further (live_height e) (greatest_height entries)

-- whether a greatest height reaches another
abbrev pub is_reached : Option ℤ → ℤ → Bool
is_reached None low = false
is_reached (Some greatest) low = not (int_lt greatest low)

-- where an entry has this index, these are its heights
abbrev pub IsAt : ℕ → ℤ → Entry → Type 0
IsAt index low e = e.index ≡ index → e.low ≡ low

abbrev pub IsUpTo : ℕ → ℤ → Entry → Type 0
IsUpTo index high e = e.index ≡ index → e.high ≡ high

-- The tree is a list: its root in the middle, its subtrees before and after it. Every root holds the greatest height of
-- the live entries of its subtree.
pub data IsSummed : List TreeNode → Type 0 where
  none : IsSummed []
  rooted : (nodes left right : List TreeNode) (root : TreeNode) → nodes ≡ left ++ root ∷ right →
      length left ≡ length nodes / 2 → IsSummed left → IsSummed right → root.greatest ≡ greatest_height (entries nodes) → IsSummed nodes
