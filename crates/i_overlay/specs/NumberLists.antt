-- What the hooks of lines do with their table of numbers.
use Rattle.std.specs.Prelude.{ℕ, ◌+◌, ◌-◌, ◌^◌, ◌<◌, ◌≤◌, ◌==◌, min, map, nat_le, Bool, ◌&&◌, if◌then◌else◌, List, [], length, take, drop, Vec, Some, None}
use Rattle.std.specs.Global.{Global}
use Rattle.std.specs.List.{copy_within, enumerate_from}
use Rattle.std.specs.Vec.{with_items}
use Rattle.overlay_base.specs.EdgeData.{DataSegment}
use Rattle.overlay_base.specs.Segments.{WholeSegment}
use Rattle.i_overlay.specs.declared.number_lists.NumberList.{NumberList}
use Rattle.i_overlay.specs.declared.number_lists.NumberLists.{NumberLists}

-- the numbers of a table
abbrev pub numbers_in : NumberLists → List ℕ
numbers_in lists = elim lists.numbers [ None ↦ [] | Some numbers ↦ numbers.items ]

-- the list that lines name in a table
abbrev pub named_in : List ℕ → NumberList → List ℕ
named_in numbers lines = take lines.count (drop lines.start numbers)

-- the table has had room for all
pub record IsWhole (lists : NumberLists) : Type 0 where
  pub fits : lists.used ≤ length (numbers_in lists)
  pub below : lists.used < 2 ^ 64 - 1

-- a segment with a list of one number, the index at which that is in the table, if a line runs along it, and else with an empty list
abbrev pub with_index : ℕ → WholeSegment → DataSegment NumberList
with_index k s = record { pair = s.pair; count = s.count; edge_data = record { start = k; count = if s.count.mask == 0 then 0 else 1 } }

-- segments, each with its index
abbrev pub numbered : List WholeSegment → List (DataSegment NumberList)
numbered segments = map (λ e. with_index e.0 e.1) (enumerate_from 0 segments)

-- the index behind a list, and whether it is in a table that has room for it at an index
abbrev pub end_of : NumberList → ℕ
end_of lines = min (lines.start + lines.count) (2 ^ 64 - 1)

abbrev pub has_room : NumberList → ℕ → ℕ → Bool
has_room lines to room = nat_le (end_of lines) room && nat_le to room && nat_le lines.count (room - to)

-- the table after a list is copied there
abbrev pub written : NumberList → ℕ → Vec ℕ Global → Vec ℕ Global
written lines to numbers = if has_room lines to (length numbers.items) then with_items numbers (copy_within numbers.items lines.start (end_of lines) to) else numbers

-- the lists after one is appended
abbrev pub appended : NumberList → NumberLists → NumberLists
appended lines lists = record lists {
  numbers = elim lists.numbers [ None ↦ None | Some numbers ↦ Some (written lines lists.used numbers) ];
  used = min (lists.used + lines.count) (2 ^ 64 - 1);
}

-- two lists as one, and the lists then: an empty one takes no room
abbrev pub gathered : NumberList → NumberList → NumberLists → NumberList × NumberLists
gathered first second lists =
    if first.count == 0 then (second, lists)
    else if second.count == 0 then (first, lists)
    else (record { start = lists.used; count = min (first.count + second.count) (2 ^ 64 - 1) }, appended second (appended first lists))
