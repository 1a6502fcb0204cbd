use Rattle.std.proofs.Common.{◌≡◌, ◌∙◌, ℕ, ◌+◌, ◌<◌, List, [], ◌∷◌, ◌++◌, length, take, drop, get_or, sym, ap, subst, arith}
use Rattle.std.specs.Prelude.{Contains}
use Rattle.std.proofs.lemmas.List.{length-map, get_or-map, get_or_default}
use Rattle.std.proofs.lemmas.Result.{IfOk-from_err}
use Rattle.overlay_geometry.proofs.laws.lists.Elements.{Contains-from_Has}
use Rattle.overlay_build.specs.BoundaryOf.{walks_of}
use Rattle.overlay_shapes.specs.Gathered.{groups_of, group_at}
use Rattle.overlay_shapes.proofs.laws.CutWalks.{taken_more, taken_whole}
use Rattle.overlay_shapes.proofs.laws.Forests.{written_back}
use Rattle.overlay_shapes.proofs.laws.Gathering.{AreAdded, added, none_added, one_added, all_added, map_set}
use Rattle.overlay_shapes.proofs.gather.gather.Goals as goal

pub number_leaders-requires : goal.number_leaders-requires
number_leaders-requires c = record { numbers = ap length c.deref_mut.ensures.value ∙ sym c.in_ok-numbers.numbers.ok.0 ∙ c.in_ok-numbers.ensures.len }

pub loop-walk-init : goal.loop-walk-init
loop-walk-init c =
    let leaders : List ℕ = c.args.leaders.now in
    let numbers : List ℕ = c.number_leaders.new.numbers in
    let long : length numbers ≡ length c.in_ok-numbers.numbers.items = c.number_leaders.auto.numbers ∙ ap length c.deref_mut.ensures.value in
    let back = written_back c.in_ok-numbers.numbers.len numbers c.in_ok-numbers.numbers.items (c.in_ok-numbers.numbers.ok.0 ∙ sym long) in
    rw back (none_added leaders c.args.fronts.now numbers (groups_of c.in_ok-groups.groups.items) c.in_ok-groups.ensures.numbered)

pub bounds-leaders-index : goal.bounds-leaders-index
bounds-leaders-index c =
    let leaders : List ℕ = c.args.leaders.now in
    let numbers : List ℕ = c.number_leaders.new.numbers in
    let long : length numbers ≡ length c.in_ok-numbers.numbers.items = c.number_leaders.auto.numbers ∙ ap length c.deref_mut.ensures.value in
    let back = written_back c.in_ok-numbers.numbers.len numbers c.in_ok-numbers.numbers.items (c.in_ok-numbers.numbers.ok.0 ∙ sym long) in
    let walks = c.args.walks.now in
    let k : ℕ = c.loop-walk.walk-index in
    let walk : List ℕ = c.walk-item.result.items in
    let low : k < length (walks_of walks) = rw (length-map walks (λ w. w.items)) c.loop-walk-test.true in
    let there : get_or (walks_of walks) k walk ≡ walk = get_or-map (λ w. w.items) walks k c.walk-item.result walk c.loop-walk-test.true ∙ ap (λ w. w.items) (sym c.walk-item.is) in
    let among : Contains (walks_of walks) walk = (k, low, there) in
    let filled = c.requires.walks.filled walk among in
    let first : c.index.result.now ≡ get_or walk 0 0 = c.index.ensures ∙ get_or_default walk 0 c.index.result.now 0 filled in
    let within : get_or walk 0 0 < length leaders = c.requires.walks.within walk (get_or walk 0 0) among (0, filled, get_or_default walk 0 (get_or walk 0 0) 0 filled) in
    let leader : ℕ = get_or leaders c.index.result.now 0 in
    let same : leader ≡ get_or leaders (get_or walk 0 0) 0 = ap (λ i. get_or leaders i 0) first in
    let least = c.requires.leaders.least (get_or walk 0 0) within in
    let inside : leader < length leaders = omega (arith, same, least, within) in
    let own : get_or leaders leader 0 ≡ leader = ap (λ i. get_or leaders i 0) same ∙ c.requires.leaders.led (get_or walk 0 0) within ∙ sym same in
    subst (λ i. i < length leaders) (sym first) within

pub bounds-fronts-leader : goal.bounds-fronts-leader
bounds-fronts-leader c =
    let leaders : List ℕ = c.args.leaders.now in
    let walks = c.args.walks.now in
    let k : ℕ = c.loop-walk.walk-index in
    let walk : List ℕ = c.walk-item.result.items in
    let low : k < length (walks_of walks) = rw (length-map walks (λ w. w.items)) c.loop-walk-test.true in
    let there : get_or (walks_of walks) k walk ≡ walk = get_or-map (λ w. w.items) walks k c.walk-item.result walk c.loop-walk-test.true ∙ ap (λ w. w.items) (sym c.walk-item.is) in
    let among : Contains (walks_of walks) walk = (k, low, there) in
    let filled = c.requires.walks.filled walk among in
    let first : c.index.result.now ≡ get_or walk 0 0 = c.index.ensures ∙ get_or_default walk 0 c.index.result.now 0 filled in
    let within : get_or walk 0 0 < length leaders = c.requires.walks.within walk (get_or walk 0 0) among (0, filled, get_or_default walk 0 (get_or walk 0 0) 0 filled) in
    let leader : ℕ = get_or leaders c.index.result.now 0 in
    let same : leader ≡ get_or leaders (get_or walk 0 0) 0 = ap (λ i. get_or leaders i 0) first in
    let least = c.requires.leaders.least (get_or walk 0 0) within in
    let inside : leader < length leaders = omega (arith, same, least, within) in
    omega (arith, inside, c.requires.fronts.each)

pub offset_bounds-leaders-index : goal.offset_bounds-leaders-index
offset_bounds-leaders-index c =
    let leaders : List ℕ = c.args.leaders.now in
    let numbers : List ℕ = c.number_leaders.new.numbers in
    let long : length numbers ≡ length c.in_ok-numbers.numbers.items = c.number_leaders.auto.numbers ∙ ap length c.deref_mut.ensures.value in
    let back = written_back c.in_ok-numbers.numbers.len numbers c.in_ok-numbers.numbers.items (c.in_ok-numbers.numbers.ok.0 ∙ sym long) in
    let walks = c.args.walks.now in
    let k : ℕ = c.loop-walk.walk-index in
    let walk : List ℕ = c.walk-item.result.items in
    let low : k < length (walks_of walks) = rw (length-map walks (λ w. w.items)) c.loop-walk-test.true in
    let there : get_or (walks_of walks) k walk ≡ walk = get_or-map (λ w. w.items) walks k c.walk-item.result walk c.loop-walk-test.true ∙ ap (λ w. w.items) (sym c.walk-item.is) in
    let among : Contains (walks_of walks) walk = (k, low, there) in
    let filled = c.requires.walks.filled walk among in
    let first : c.index.result.now ≡ get_or walk 0 0 = c.index.ensures ∙ get_or_default walk 0 c.index.result.now 0 filled in
    let within : get_or walk 0 0 < length leaders = c.requires.walks.within walk (get_or walk 0 0) among (0, filled, get_or_default walk 0 (get_or walk 0 0) 0 filled) in
    let leader : ℕ = get_or leaders c.index.result.now 0 in
    let same : leader ≡ get_or leaders (get_or walk 0 0) 0 = ap (λ i. get_or leaders i 0) first in
    let least = c.requires.leaders.least (get_or walk 0 0) within in
    let inside : leader < length leaders = omega (arith, same, least, within) in
    let own : get_or leaders leader 0 ≡ leader = ap (λ i. get_or leaders i 0) same ∙ c.requires.leaders.led (get_or walk 0 0) within ∙ sym same in
    let bound : c.index.result.now < length c.args.leaders.now = subst (λ i. i < length leaders) (sym first) within in
    grind arith

pub index-requires-in-loop-walk : goal.index-requires-in-loop-walk
index-requires-in-loop-walk c =
    let leaders : List ℕ = c.args.leaders.now in
    let numbers : List ℕ = c.number_leaders.new.numbers in
    let long : length numbers ≡ length c.in_ok-numbers.numbers.items = c.number_leaders.auto.numbers ∙ ap length c.deref_mut.ensures.value in
    let back = written_back c.in_ok-numbers.numbers.len numbers c.in_ok-numbers.numbers.items (c.in_ok-numbers.numbers.ok.0 ∙ sym long) in
    let walks = c.args.walks.now in
    let k : ℕ = c.loop-walk.walk-index in
    let walk : List ℕ = c.walk-item.result.items in
    let low : k < length (walks_of walks) = rw (length-map walks (λ w. w.items)) c.loop-walk-test.true in
    let there : get_or (walks_of walks) k walk ≡ walk = get_or-map (λ w. w.items) walks k c.walk-item.result walk c.loop-walk-test.true ∙ ap (λ w. w.items) (sym c.walk-item.is) in
    let among : Contains (walks_of walks) walk = (k, low, there) in
    let filled = c.requires.walks.filled walk among in
    let first : c.index.result.now ≡ get_or walk 0 0 = c.index.ensures ∙ get_or_default walk 0 c.index.result.now 0 filled in
    let within : get_or walk 0 0 < length leaders = c.requires.walks.within walk (get_or walk 0 0) among (0, filled, get_or_default walk 0 (get_or walk 0 0) 0 filled) in
    let leader : ℕ = get_or leaders c.index.result.now 0 in
    let same : leader ≡ get_or leaders (get_or walk 0 0) 0 = ap (λ i. get_or leaders i 0) first in
    let least = c.requires.leaders.least (get_or walk 0 0) within in
    let inside : leader < length leaders = omega (arith, same, least, within) in
    let own : get_or leaders leader 0 ≡ leader = ap (λ i. get_or leaders i 0) same ∙ c.requires.leaders.led (get_or walk 0 0) within ∙ sym same in
    omega (arith, inside, c.in_ok-numbers.ensures.len)

pub index_mut-requires : goal.index_mut-requires
index_mut-requires c =
    let leaders : List ℕ = c.args.leaders.now in
    let numbers : List ℕ = c.number_leaders.new.numbers in
    let long : length numbers ≡ length c.in_ok-numbers.numbers.items = c.number_leaders.auto.numbers ∙ ap length c.deref_mut.ensures.value in
    let back = written_back c.in_ok-numbers.numbers.len numbers c.in_ok-numbers.numbers.items (c.in_ok-numbers.numbers.ok.0 ∙ sym long) in
    let walks = c.args.walks.now in
    let k : ℕ = c.loop-walk.walk-index in
    let walk : List ℕ = c.walk-item.result.items in
    let low : k < length (walks_of walks) = rw (length-map walks (λ w. w.items)) c.loop-walk-test.true in
    let there : get_or (walks_of walks) k walk ≡ walk = get_or-map (λ w. w.items) walks k c.walk-item.result walk c.loop-walk-test.true ∙ ap (λ w. w.items) (sym c.walk-item.is) in
    let among : Contains (walks_of walks) walk = (k, low, there) in
    let filled = c.requires.walks.filled walk among in
    let first : c.index.result.now ≡ get_or walk 0 0 = c.index.ensures ∙ get_or_default walk 0 c.index.result.now 0 filled in
    let within : get_or walk 0 0 < length leaders = c.requires.walks.within walk (get_or walk 0 0) among (0, filled, get_or_default walk 0 (get_or walk 0 0) 0 filled) in
    let leader : ℕ = get_or leaders c.index.result.now 0 in
    let same : leader ≡ get_or leaders (get_or walk 0 0) 0 = ap (λ i. get_or leaders i 0) first in
    let least = c.requires.leaders.least (get_or walk 0 0) within in
    let inside : leader < length leaders = omega (arith, same, least, within) in
    let own : get_or leaders leader 0 ≡ leader = ap (λ i. get_or leaders i 0) same ∙ c.requires.leaders.led (get_or walk 0 0) within ∙ sym same in
    let groups : List (List (List ℕ)) = groups_of c.loop-walk.groups.items in
    let state : AreAdded leaders c.args.fronts.now numbers (take k (walks_of walks)) groups = subst (λ l. AreAdded leaders c.args.fronts.now l (take k (walks_of walks)) groups) back c.loop-walk.invariant in
    let at : ℕ = c.index-in-loop-walk.result.now in
    let room : leader < length (take c.in_ok-numbers.numbers.len (numbers ++ drop (length numbers) c.in_ok-numbers.numbers.items)) = subst (λ l. leader < length l) (sym back) (omega (arith, inside, long, c.in_ok-numbers.numbers.ok.0, c.in_ok-numbers.ensures.len)) in
    let at_is : at ≡ get_or numbers leader 0 = c.index-in-loop-walk.ensures ∙ get_or_default (take c.in_ok-numbers.numbers.len (numbers ++ drop (length numbers) c.in_ok-numbers.numbers.items)) leader at 0 room ∙ ap (λ l. get_or l leader 0) back in
    let number = state.number leader inside own in
    let many : length groups ≡ length c.loop-walk.groups.items = length-map c.loop-walk.groups.items (λ g. walks_of g.items) in
    omega (arith, at_is, number.0, state.each, many, c.loop-walk.groups.ok.0)

pub loop-walk-preserved : goal.loop-walk-preserved
loop-walk-preserved c =
    let leaders : List ℕ = c.args.leaders.now in
    let numbers : List ℕ = c.number_leaders.new.numbers in
    let long : length numbers ≡ length c.in_ok-numbers.numbers.items = c.number_leaders.auto.numbers ∙ ap length c.deref_mut.ensures.value in
    let back = written_back c.in_ok-numbers.numbers.len numbers c.in_ok-numbers.numbers.items (c.in_ok-numbers.numbers.ok.0 ∙ sym long) in
    let walks = c.args.walks.now in
    let k : ℕ = c.loop-walk.walk-index in
    let walk : List ℕ = c.walk-item.result.items in
    let low : k < length (walks_of walks) = rw (length-map walks (λ w. w.items)) c.loop-walk-test.true in
    let there : get_or (walks_of walks) k walk ≡ walk = get_or-map (λ w. w.items) walks k c.walk-item.result walk c.loop-walk-test.true ∙ ap (λ w. w.items) (sym c.walk-item.is) in
    let among : Contains (walks_of walks) walk = (k, low, there) in
    let filled = c.requires.walks.filled walk among in
    let first : c.index.result.now ≡ get_or walk 0 0 = c.index.ensures ∙ get_or_default walk 0 c.index.result.now 0 filled in
    let within : get_or walk 0 0 < length leaders = c.requires.walks.within walk (get_or walk 0 0) among (0, filled, get_or_default walk 0 (get_or walk 0 0) 0 filled) in
    let leader : ℕ = get_or leaders c.index.result.now 0 in
    let same : leader ≡ get_or leaders (get_or walk 0 0) 0 = ap (λ i. get_or leaders i 0) first in
    let least = c.requires.leaders.least (get_or walk 0 0) within in
    let inside : leader < length leaders = omega (arith, same, least, within) in
    let own : get_or leaders leader 0 ≡ leader = ap (λ i. get_or leaders i 0) same ∙ c.requires.leaders.led (get_or walk 0 0) within ∙ sym same in
    let groups : List (List (List ℕ)) = groups_of c.loop-walk.groups.items in
    let state : AreAdded leaders c.args.fronts.now numbers (take k (walks_of walks)) groups = subst (λ l. AreAdded leaders c.args.fronts.now l (take k (walks_of walks)) groups) back c.loop-walk.invariant in
    let at : ℕ = c.index-in-loop-walk.result.now in
    let room : leader < length (take c.in_ok-numbers.numbers.len (numbers ++ drop (length numbers) c.in_ok-numbers.numbers.items)) = subst (λ l. leader < length l) (sym back) (omega (arith, inside, long, c.in_ok-numbers.numbers.ok.0, c.in_ok-numbers.ensures.len)) in
    let at_is : at ≡ get_or numbers leader 0 = c.index-in-loop-walk.ensures ∙ get_or_default (take c.in_ok-numbers.numbers.len (numbers ++ drop (length numbers) c.in_ok-numbers.numbers.items)) leader at 0 room ∙ ap (λ l. get_or l leader 0) back in
    let number = state.number leader inside own in
    let many : length groups ≡ length c.loop-walk.groups.items = length-map c.loop-walk.groups.items (λ g. walks_of g.items) in
    let low_at : at < length c.loop-walk.groups.items = omega (arith, at_is, number.0, state.each, many) in
    let old : walks_of c.index_mut.result.now.items ≡ group_at groups at =
    ap (λ g. walks_of g.items) c.index_mut.ensures.value ∙ sym (get_or-map (λ g. walks_of g.items) c.loop-walk.groups.items at c.index_mut.result.now [] low_at) in
    let next : walks_of c.add_walk.new.group.items ≡ added (group_at groups at) walk (get_or c.args.fronts.now leader 0) = (rw (c.deref.ensures.value, old) at c.in_ok-add_walk.ensures.added) in
    let more : take (k + 1) (walks_of walks) ≡ take k (walks_of walks) ++ walk ∷ [] = taken_more (walks_of walks) k walk low ∙ ap (λ w. take k (walks_of walks) ++ w ∷ []) there in
    rw (back, more, map_set (λ g. walks_of g.items) c.loop-walk.groups.items at c.add_walk.new.group, next)
    (one_added leaders c.args.fronts.now numbers (take k (walks_of walks)) groups walk leader at state inside own
    (λ i m. c.requires.walks.together walk i among (Contains-from_Has walk i m) ∙ sym same) at_is)

pub returns-clause-groups : goal.returns-clause-groups
returns-clause-groups c =
    let leaders : List ℕ = c.args.leaders.now in
    let numbers : List ℕ = c.number_leaders.new.numbers in
    let long : length numbers ≡ length c.in_ok-numbers.numbers.items = c.number_leaders.auto.numbers ∙ ap length c.deref_mut.ensures.value in
    let back = written_back c.in_ok-numbers.numbers.len numbers c.in_ok-numbers.numbers.items (c.in_ok-numbers.numbers.ok.0 ∙ sym long) in
    let walks = c.args.walks.now in
    let all : take c.loop-walk.walk-index (walks_of walks) ≡ walks_of walks = taken_whole (walks_of walks) c.loop-walk.walk-index (rw (length-map walks (λ w. w.items)) c.loop-walk-test.false) in
    all_added leaders c.args.fronts.now numbers (walks_of walks) (groups_of c.loop-walk.groups.items) c.requires.fronts c.requires.walks
    (subst (λ l. AreAdded leaders c.args.fronts.now numbers l (groups_of c.loop-walk.groups.items)) all (subst (λ l. AreAdded leaders c.args.fronts.now l (take c.loop-walk.walk-index (walks_of walks)) (groups_of c.loop-walk.groups.items)) back c.loop-walk.invariant))

pub returns-in_err-numbers-clause-groups : goal.returns-in_err-numbers-clause-groups
returns-in_err-numbers-clause-groups c = IfOk-from_err c.from_residual.result _ c.from_residual.ensures.0

pub returns-in_err-groups-clause-groups : goal.returns-in_err-groups-clause-groups
returns-in_err-groups-clause-groups c = IfOk-from_err c.from_residual-in_err-groups.result _ c.from_residual-in_err-groups.ensures.0

pub returns-in_err-add_walk-clause-groups : goal.returns-in_err-add_walk-clause-groups
returns-in_err-add_walk-clause-groups c = IfOk-from_err c.from_residual-in_err-add_walk.result _ c.from_residual-in_err-add_walk.ensures.0

pub bounds-walks-walk-index : goal.bounds-walks-walk-index
bounds-walks-walk-index c = c.loop-walk-test.true

pub offset_bounds-walks-walk-index : goal.offset_bounds-walks-walk-index
offset_bounds-walks-walk-index c = omega (arith, c.loop-walk-test.true)

pub offset_bounds-fronts-leader : goal.offset_bounds-fronts-leader
offset_bounds-fronts-leader c =
    let leaders : List ℕ = c.args.leaders.now in
    let walks = c.args.walks.now in
    let k : ℕ = c.loop-walk.walk-index in
    let walk : List ℕ = c.walk-item.result.items in
    let low : k < length (walks_of walks) = rw (length-map walks (λ w. w.items)) c.loop-walk-test.true in
    let there : get_or (walks_of walks) k walk ≡ walk =
    get_or-map (λ w. w.items) walks k c.walk-item.result walk c.loop-walk-test.true ∙ ap (λ w. w.items) (sym c.walk-item.is) in
    let among : Contains (walks_of walks) walk = (k, low, there) in
    let filled = c.requires.walks.filled walk among in
    let first : c.index.result.now ≡ get_or walk 0 0 = c.index.ensures ∙ get_or_default walk 0 c.index.result.now 0 filled in
    let within : get_or walk 0 0 < length leaders =
    c.requires.walks.within walk (get_or walk 0 0) among (0, filled, get_or_default walk 0 (get_or walk 0 0) 0 filled) in
    let leader : ℕ = get_or leaders c.index.result.now 0 in
    let same : leader ≡ get_or leaders (get_or walk 0 0) 0 = ap (λ i. get_or leaders i 0) first in
    let least = c.requires.leaders.least (get_or walk 0 0) within in
    let inside : leader < length leaders = omega (arith, same, least, within) in
    omega (arith, inside, c.requires.fronts.each)

pub index-requires : goal.index-requires
index-requires c =
    let leaders : List ℕ = c.args.leaders.now in
    let walks = c.args.walks.now in
    let k : ℕ = c.loop-walk.walk-index in
    let walk : List ℕ = c.walk-item.result.items in
    let low : k < length (walks_of walks) = rw (length-map walks (λ w. w.items)) c.loop-walk-test.true in
    let there : get_or (walks_of walks) k walk ≡ walk =
    get_or-map (λ w. w.items) walks k c.walk-item.result walk c.loop-walk-test.true ∙ ap (λ w. w.items) (sym c.walk-item.is) in
    let among : Contains (walks_of walks) walk = (k, low, there) in
    let filled = c.requires.walks.filled walk among in
    let long = c.walk-item.result.ok.0 in
    omega (arith, filled, long)
