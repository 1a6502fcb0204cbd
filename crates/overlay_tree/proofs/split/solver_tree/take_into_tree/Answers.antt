use Rattle.std.proofs.Common.{◌≡◌, refl, sym, ap, subst, ◌∙◌, ◌++◌, length, arith, List, ℕ}
use Rattle.std.specs.List.{AllByRecursion}
use Rattle.overlay_base.specs.Segments.{pairs}
use Rattle.overlay_geometry.specs.PairOf.{pair_of}
use Rattle.overlay_geometry.specs.RangeOf.{range_of}
use Rattle.overlay_base.specs.SegmentOf.{segments_of}
use Rattle.overlay_base.proofs.laws.geometry.Apart.{are_ordered}
use Rattle.overlay_tree.specs.steps.NodeOf.{tree_nodes}
use Rattle.overlay_tree.specs.steps.IntervalTree.{Entry, WholeQuery, AreRising, IsAt, IsUpTo, entries, found, inserted, left_by}
use Rattle.overlay_tree.specs.steps.Swept.{pair_at}
use Rattle.overlay_tree.specs.steps.TreeSweep.{IsUnderWay, AreFoundBefore, query_at}
use Rattle.overlay_tree.proofs.laws.tree.Sweeps.{pair_at-is, pairs_in_order, length-pairs, rising_map}
use Rattle.overlay_tree.proofs.laws.tree.TreeCuts.{same_length, written}
use Rattle.overlay_tree.proofs.laws.tree.TreeFinder.{IsReady, IsReady-from, AreFoundBefore-from, IsUnderWay-more, query_is, length_within}
use Rattle.overlay_tree.proofs.split.solver_tree.take_into_tree.Goals as goal

pub find_meeting-requires-clause-rising : goal.find_meeting-requires-clause-rising
find_meeting-requires-clause-rising g c =
    let whole = g.I.OverlayInt.whole in
    let xs = c.args.segments.now in
    let ps = pairs (segments_of xs) in
    let j = c.args.index in
    let under = c.requires.way.1 in
    let nodes = c.as_mut_slice-tree.result.now in
    let tree = subst (λ (ns : List _). IsUnderWay ps (tree_nodes whole ns) c.requires.way.0 c.args.looked.now j c.args.until) (sym c.as_mut_slice-tree.ensures.value) under in
    tree.rising c.requires.there

pub find_meeting-requires-clause-summed : goal.find_meeting-requires-clause-summed
find_meeting-requires-clause-summed g c =
    let whole = g.I.OverlayInt.whole in
    let xs = c.args.segments.now in
    let ps = pairs (segments_of xs) in
    let j = c.args.index in
    let under = c.requires.way.1 in
    let nodes = c.as_mut_slice-tree.result.now in
    let tree = subst (λ (ns : List _). IsUnderWay ps (tree_nodes whole ns) c.requires.way.0 c.args.looked.now j c.args.until) (sym c.as_mut_slice-tree.ensures.value) under in
    tree.summed c.requires.there

pub insert-requires-clause-rising : goal.insert-requires-clause-rising
insert-requires-clause-rising g c =
    let whole = g.I.OverlayInt.whole in
    let xs = c.args.segments.now in
    let ps = pairs (segments_of xs) in
    let j = c.args.index in
    let under = c.requires.way.1 in
    let nodes = c.as_mut_slice-tree.result.now in
    let tree = subst (λ (ns : List _). IsUnderWay ps (tree_nodes whole ns) c.requires.way.0 c.args.looked.now j c.args.until) (sym c.as_mut_slice-tree.ensures.value) under in
    let t = pair_of whole c.x_segment-later.result in
    let here : pair_at ps j ≡ t = pair_at-is xs j c.index-segments-index.result c.requires.index c.index-segments-index.is ∙ ap (pair_of whole) (sym c.x_segment-later.ensures) in
    let q : WholeQuery = record { low = whole c.y_range-heights.result.min; high = whole c.y_range-heights.result.max; x = whole c.x_segment-later.result.a.x } in
    let is : q ≡ query_at ps j = query_is ps j t (range_of whole c.y_range-heights.result) here c.y_range-heights.ensures in
    subst AreRising (sym c.in_ok-find_meeting.ensures.entries) (rising_map (left_by q) (λ e. refl) (entries (tree_nodes whole nodes)) (tree.rising c.requires.there))

pub insert-requires-clause-there : goal.insert-requires-clause-there
insert-requires-clause-there g c =
    let whole = g.I.OverlayInt.whole in
    let xs = c.args.segments.now in
    let ps = pairs (segments_of xs) in
    let j = c.args.index in
    let under = c.requires.way.1 in
    let nodes = c.as_mut_slice-tree.result.now in
    let tree = subst (λ (ns : List _). IsUnderWay ps (tree_nodes whole ns) c.requires.way.0 c.args.looked.now j c.args.until) (sym c.as_mut_slice-tree.ensures.value) under in
    let t = pair_of whole c.x_segment-later.result in
    let here : pair_at ps j ≡ t = pair_at-is xs j c.index-segments-index.result c.requires.index c.index-segments-index.is ∙ ap (pair_of whole) (sym c.x_segment-later.ensures) in
    let q : WholeQuery = record { low = whole c.y_range-heights.result.min; high = whole c.y_range-heights.result.max; x = whole c.x_segment-later.result.a.x } in
    let is : q ≡ query_at ps j = query_is ps j t (range_of whole c.y_range-heights.result) here c.y_range-heights.ensures in
    let ready = subst (λ (es : List Entry). IsReady ps es j) (sym c.in_ok-find_meeting.ensures.entries) (IsReady-from ps (entries (tree_nodes whole nodes)) c.requires.way.0 c.args.looked.now j c.args.until q tree.way c.requires.there) in
    ready.there

pub insert-requires-clause-low : goal.insert-requires-clause-low
insert-requires-clause-low g c =
    let whole = g.I.OverlayInt.whole in
    let xs = c.args.segments.now in
    let ps = pairs (segments_of xs) in
    let j = c.args.index in
    let under = c.requires.way.1 in
    let nodes = c.as_mut_slice-tree.result.now in
    let tree = subst (λ (ns : List _). IsUnderWay ps (tree_nodes whole ns) c.requires.way.0 c.args.looked.now j c.args.until) (sym c.as_mut_slice-tree.ensures.value) under in
    let t = pair_of whole c.x_segment-later.result in
    let here : pair_at ps j ≡ t = pair_at-is xs j c.index-segments-index.result c.requires.index c.index-segments-index.is ∙ ap (pair_of whole) (sym c.x_segment-later.ensures) in
    let q : WholeQuery = record { low = whole c.y_range-heights.result.min; high = whole c.y_range-heights.result.max; x = whole c.x_segment-later.result.a.x } in
    let is : q ≡ query_at ps j = query_is ps j t (range_of whole c.y_range-heights.result) here c.y_range-heights.ensures in
    let ready = subst (λ (es : List Entry). IsReady ps es j) (sym c.in_ok-find_meeting.ensures.entries) (IsReady-from ps (entries (tree_nodes whole nodes)) c.requires.way.0 c.args.looked.now j c.args.until q tree.way c.requires.there) in
    subst (λ (p : WholeQuery). AllByRecursion (IsAt j p.low) (entries (tree_nodes whole c.find_meeting.new.nodes))) (sym is) ready.low

pub insert-requires-clause-high : goal.insert-requires-clause-high
insert-requires-clause-high g c =
    let whole = g.I.OverlayInt.whole in
    let xs = c.args.segments.now in
    let ps = pairs (segments_of xs) in
    let j = c.args.index in
    let under = c.requires.way.1 in
    let nodes = c.as_mut_slice-tree.result.now in
    let tree = subst (λ (ns : List _). IsUnderWay ps (tree_nodes whole ns) c.requires.way.0 c.args.looked.now j c.args.until) (sym c.as_mut_slice-tree.ensures.value) under in
    let t = pair_of whole c.x_segment-later.result in
    let here : pair_at ps j ≡ t = pair_at-is xs j c.index-segments-index.result c.requires.index c.index-segments-index.is ∙ ap (pair_of whole) (sym c.x_segment-later.ensures) in
    let q : WholeQuery = record { low = whole c.y_range-heights.result.min; high = whole c.y_range-heights.result.max; x = whole c.x_segment-later.result.a.x } in
    let is : q ≡ query_at ps j = query_is ps j t (range_of whole c.y_range-heights.result) here c.y_range-heights.ensures in
    let ready = subst (λ (es : List Entry). IsReady ps es j) (sym c.in_ok-find_meeting.ensures.entries) (IsReady-from ps (entries (tree_nodes whole nodes)) c.requires.way.0 c.args.looked.now j c.args.until q tree.way c.requires.there) in
    subst (λ (p : WholeQuery). AllByRecursion (IsUpTo j p.high) (entries (tree_nodes whole c.find_meeting.new.nodes))) (sym is) ready.high

pub returns : goal.returns
returns g c =
    let whole = g.I.OverlayInt.whole in
    let xs = c.args.segments.now in
    let ps = pairs (segments_of xs) in
    let j = c.args.index in
    let under = c.requires.way.1 in
    let nodes = c.as_mut_slice-tree.result.now in
    let tree = subst (λ (ns : List _). IsUnderWay ps (tree_nodes whole ns) c.requires.way.0 c.args.looked.now j c.args.until) (sym c.as_mut_slice-tree.ensures.value) under in
    let t = pair_of whole c.x_segment-later.result in
    let here : pair_at ps j ≡ t = pair_at-is xs j c.index-segments-index.result c.requires.index c.index-segments-index.is ∙ ap (pair_of whole) (sym c.x_segment-later.ensures) in
    let q : WholeQuery = record { low = whole c.y_range-heights.result.min; high = whole c.y_range-heights.result.max; x = whole c.x_segment-later.result.a.x } in
    let is : q ≡ query_at ps j = query_is ps j t (range_of whole c.y_range-heights.result) here c.y_range-heights.ensures in
    let inside = under.way.inside in
    let at = c.in_ok-find_meeting.ensures.found ∙ ap (λ is. is ++ found q (entries (tree_nodes whole nodes))) c.clear.ensures.items ∙ ap (λ (p : WholeQuery). found p (entries (tree_nodes whole nodes))) is in
    let as_long = same_length whole (inserted j) c.find_meeting.new.nodes c.insert.new.nodes c.insert.ensures.entries ∙ same_length whole (left_by q) nodes c.find_meeting.new.nodes c.in_ok-find_meeting.ensures.entries ∙ ap length c.as_mut_slice-tree.ensures.value in
    let back = written whole c.insert.new.nodes c.args.nodes.now.items c.args.nodes.now.len c.args.nodes.now.ok.0 as_long in
    let all = length_within ps (tree_nodes whole nodes) c.requires.way.0 c.args.looked.now j c.args.until tree in
    record {
      way = λ old w.
          let start = subst (λ (ns : List _). IsUnderWay ps (tree_nodes whole ns) old c.args.looked.now j c.args.until) (sym c.as_mut_slice-tree.ensures.value) w in
          let more = IsUnderWay-more ps (tree_nodes whole nodes) (tree_nodes whole c.find_meeting.new.nodes) (tree_nodes whole c.insert.new.nodes) old c.args.looked.now c.find_meeting.new.looked j c.args.until q start
          (pairs_in_order xs c.requires.sorted) (are_ordered xs) c.requires.there is c.in_ok-find_meeting.ensures.entries c.in_ok-find_meeting.ensures.looked c.insert.ensures.entries c.insert.ensures.summed in
          rw back more;
      found = subst (λ (l : List ℕ). AreFoundBefore ps l j) (sym at) (AreFoundBefore-from ps (entries (tree_nodes whole nodes)) c.requires.way.0 c.args.looked.now j c.args.until tree.way (are_ordered xs) (omega (arith, length-pairs xs, c.requires.index)));
      looked = (let looks = c.in_ok-find_meeting.ensures.looked in let is = looks.is in let within = looks.within in omega (arith, is, within, all, length-pairs xs));
    }
