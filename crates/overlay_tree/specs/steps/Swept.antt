-- The segments of a list by their indexes: their entries in a tree, and the marks of those that a look-up finds.
use Rattle.std.specs.Prelude.{ℕ, ◌-◌, pos, Bool, false, None, List, map, flat_map, length, slice_index_or}
use Rattle.std.specs.Int.{int_min, int_max}
use Rattle.std.specs.List.{range_with_len, list_any}
use Rattle.overlay_geometry.specs.Points.{Pair}
use Rattle.overlay_intersections.specs.Marks.{Placing, cross_inexactly}
use Rattle.overlay_intersections.specs.MarkOf.{Mark}
use Rattle.overlay_intersections.specs.MarksBetween.{marks_between}
use Rattle.overlay_tree.specs.steps.IntervalTree.{Entry, TreeNode}

-- the pair at an index, and past the end one that is a point
abbrev pub nowhere : Pair
nowhere = record { a = record { x = pos 0; y = pos 0 }; b = record { x = pos 0; y = pos 0 } }

abbrev pub pair_at : List Pair → ℕ → Pair
pair_at ps index = slice_index_or ps index nowhere

-- from this number on live entries are in a tree; fewer are compared one by one
abbrev pub few : ℕ
few = 32

-- the entry of a pair, before it is live, and a node without others
abbrev pub entry_of_pair : ℕ → Pair → Entry
entry_of_pair index s = record { low = int_min s.a.y s.b.y; high = int_max s.a.y s.b.y; end_x = s.b.x; index = index; is_live = false }

abbrev pub alone : Entry → TreeNode
alone e = record { entry = e; greatest = None }

abbrev pub entry_at : List Pair → ℕ → Entry
entry_at ps index = entry_of_pair index (pair_at ps index)

-- the entries of those from an index up to another, before they are live
abbrev pub entries_between : List Pair → ℕ → ℕ → List Entry
entries_between ps from until = map (entry_at ps) (range_with_len from (until - from))

-- the entries of all, before the sweep
abbrev pub unswept : List Pair → List Entry
unswept ps = map (entry_at ps) (range_with_len 0 (length ps))

-- the marks that the pair at an index and each of those found put on one another
abbrev pub marks_with_found : Placing → List Pair → ℕ → List ℕ → List Mark
marks_with_found placing ps later found = flat_map (λ i. marks_between placing i (pair_at ps i) later (pair_at ps later)) found

-- whether it crosses one of them at a point that is not exact
abbrev pub crosses_found : List Pair → ℕ → List ℕ → Bool
crosses_found ps later found = list_any (λ i. cross_inexactly (pair_at ps i) (pair_at ps later)) found
