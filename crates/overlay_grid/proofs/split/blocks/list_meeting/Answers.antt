use Rattle.std.proofs.Common.{◌≡◌, ◌+◌, ◌<◌, ◌∙◌, sym, subst, arith, take, set, length, ℕ}
use Rattle.std.proofs.lemmas.List.{length-map}
use Rattle.overlay_grid.specs.FragmentOf.{fragment_of, fragments_of}
use Rattle.overlay_grid.specs.steps.FragmentFinder.{AreListed}
use Rattle.overlay_grid.proofs.laws.grid.FoundFragments.{fragments-next}
use Rattle.overlay_grid.proofs.laws.grid.FoundBlocks.{listed-more, at_most_one, as_number}
use Rattle.overlay_grid.proofs.split.blocks.list_meeting.Goals as goal

pub offset_bounds-group-place : goal.offset_bounds-group-place
offset_bounds-group-place g c = omega (arith, c.loop-place-test.true, c.requires.within)

pub bounds-group-place : goal.bounds-group-place
bounds-group-place g c = omega (arith, c.loop-place-test.true, c.requires.within)

pub offset_bounds-found-count : goal.offset_bounds-found-count
offset_bounds-found-count g c = omega (arith, c.loop-place-test.true, c.requires.few, c.loop-place.invariant.few)

pub bounds-found-count : goal.bounds-found-count
bounds-found-count g c = omega (arith, c.loop-place-test.true, c.loop-place.auto.place, c.requires.few, c.requires.room, c.loop-place.auto.found, c.loop-place.invariant.few)

pub is_intersect_border_include-requires : goal.is_intersect_border_include-requires
is_intersect_border_include-requires g c κs kept = kept

pub overflow_add-count : goal.overflow_add-count
overflow_add-count g c =
    let one = at_most_one c.is_intersect_border_include.result c.from-count.result (c.from-count.ensures ∙ as_number c.is_intersect_border_include.result) in
    omega (arith, one, c.loop-place-test.true, c.requires.few, c.loop-place.invariant.few)

pub loop-place-smaller : goal.loop-place-smaller
loop-place-smaller g c = omega (arith, c.loop-place-test.true)

pub loop-place-preserved : goal.loop-place-preserved
loop-place-preserved g c =
    let whole = g.I.OverlayInt.whole in
    let fs = fragments_of whole c.args.group.now in
    let f = fragment_of whole c.args.fragment.now in
    let lt : c.loop-place.place < length c.args.group.now = omega arith in
    let here = fragments-next whole c.args.group.now c.loop-place.place c.index-group-place.result lt c.index-group-place.is in
    let room : c.loop-place.count < length c.loop-place.found = omega arith in
    let counts = c.from-count.ensures ∙ as_number c.is_intersect_border_include.result in
    let one = at_most_one c.is_intersect_border_include.result c.from-count.result counts in
    record {
      few = omega arith;
      listed = subst (λ (n : ℕ). AreListed fs f c.args.later (c.loop-place.place + 1) (take (c.loop-place.count + n) (set c.loop-place.found c.loop-place.count c.loop-place.place))) (sym counts)
          (listed-more fs f (fragment_of whole c.index-group-place.result) c.args.later c.loop-place.place c.loop-place.count c.loop-place.found c.is_intersect_border_include.result c.loop-place.invariant.listed here
          (let m = length-map c.args.group.now (fragment_of whole) in omega arith) room c.is_intersect_border_include.ensures);
    }

pub returns-clause-count : goal.returns-clause-count
returns-clause-count g c = omega (arith, c.loop-place.auto.place-end c.requires.order, c.requires.few, c.loop-place.invariant.few)

pub returns-clause-listed : goal.returns-clause-listed
returns-clause-listed g c =
    let upto = c.loop-place.auto.place-end c.requires.order in
    let past = c.loop-place-test.false in
    let last : c.loop-place.place ≡ c.args.end = omega arith in
    subst (λ (n : ℕ). AreListed (fragments_of g.I.OverlayInt.whole c.args.group.now) (fragment_of g.I.OverlayInt.whole c.args.fragment.now) c.args.later n (take c.loop-place.count c.loop-place.found)) last c.loop-place.invariant.listed
