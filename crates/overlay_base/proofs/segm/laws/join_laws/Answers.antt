use Rattle.overlay_base.proofs.laws.joins.Members.{join-filter, holds-join, length-join_le}
use Rattle.overlay_base.proofs.laws.joins.Maps.{join_is_map, map_is_its_windings, join_is_only_map, join_from_windings, join-join, join-map, join_of_parts, join-IsPermutation}
use Rattle.overlay_base.proofs.segm.laws.join_laws.Goals as goal

pub returns-clause-is_map : goal.returns-clause-is_map
returns-clause-is_map c = join_is_map

pub returns-clause-is_its_windings : goal.returns-clause-is_its_windings
returns-clause-is_its_windings c = map_is_its_windings

pub returns-clause-is_only_map : goal.returns-clause-is_only_map
returns-clause-is_only_map c = join_is_only_map

pub returns-clause-depends_on_windings : goal.returns-clause-depends_on_windings
returns-clause-depends_on_windings c = join_from_windings

pub returns-clause-of_join : goal.returns-clause-of_join
returns-clause-of_join c = join-join

pub returns-clause-of_map : goal.returns-clause-of_map
returns-clause-of_map c = join-map

pub returns-clause-of_parts : goal.returns-clause-of_parts
returns-clause-of_parts c = join_of_parts

pub returns-clause-of_permutation : goal.returns-clause-of_permutation
returns-clause-of_permutation c = join-IsPermutation

pub returns-clause-of_part : goal.returns-clause-of_part
returns-clause-of_part c = join-filter

pub returns-clause-holds_pair : goal.returns-clause-holds_pair
returns-clause-holds_pair c = holds-join

pub returns-clause-no_longer : goal.returns-clause-no_longer
returns-clause-no_longer c = length-join_le
