use Rattle.std.proofs.Common.{◌≡◌, ◌∙◌, sym, ap, subst, arith, ◌<◌, refl, length, get_or}
use Rattle.overlay_intersections.specs.MarkOf.{mark_of}
use Rattle.overlay_split.specs.steps.ChangedBoxes.{renamed}
use Rattle.overlay_split.proofs.laws.passes.PartMarks.{same_at, rename_next, rest_next, rename_end}
use Rattle.overlay_split.proofs.split.changed.rename_marks.Goals as goal

pub bounds-indexes-index : goal.bounds-indexes-index
bounds-indexes-index g c =
    let given = c.args.marks.now.items in
    let mark = c.index.result.now in
    let inside : c.loop-place.place < length given = (let test = c.loop-place-test.true in let len = c.len-place-end.ensures in let ok = c.args.marks.now.ok in omega (arith, test, len, ok)) in
    let here : get_or given c.loop-place.place mark ≡ mark = sym (same_at (mark_of g.I.OverlayInt.whole) (renamed c.args.indexes.now) given c.loop-place.marks.items c.loop-place.place c.loop-place.invariant.left mark) ∙ sym c.index.ensures in
    subst (λ m. m.index < length c.args.indexes.now) here (c.requires c.loop-place.place mark inside)

pub offset_bounds-indexes-index : goal.offset_bounds-indexes-index
offset_bounds-indexes-index g c =
    let given = c.args.marks.now.items in
    let mark = c.index.result.now in
    let inside : c.loop-place.place < length given = (let test = c.loop-place-test.true in let len = c.len-place-end.ensures in let ok = c.args.marks.now.ok in omega (arith, test, len, ok)) in
    let here : get_or given c.loop-place.place mark ≡ mark = sym (same_at (mark_of g.I.OverlayInt.whole) (renamed c.args.indexes.now) given c.loop-place.marks.items c.loop-place.place c.loop-place.invariant.left mark) ∙ sym c.index.ensures in
    let within : mark.index < length c.args.indexes.now = subst (λ m. m.index < length c.args.indexes.now) here (c.requires c.loop-place.place mark inside) in
    omega (arith, within)

pub loop-place-init : goal.loop-place-init
loop-place-init g c = record { done = refl; left = refl }

pub loop-place-preserved : goal.loop-place-preserved
loop-place-preserved g c =
    let whole = g.I.OverlayInt.whole in
    let given = c.args.marks.now.items in
    let indexes = c.args.indexes.now in
    let mark = c.index.result.now in
    let inside : c.loop-place.place < length given = (let test = c.loop-place-test.true in let len = c.len-place-end.ensures in let ok = c.args.marks.now.ok in omega (arith, test, len, ok)) in
    let here : get_or given c.loop-place.place mark ≡ mark = sym (same_at (mark_of whole) (renamed indexes) given c.loop-place.marks.items c.loop-place.place c.loop-place.invariant.left mark) ∙ sym c.index.ensures in
    record {
      done = rename_next (mark_of whole) (renamed indexes) given c.loop-place.marks.items c.loop-place.place c.loop-place.invariant.left _ mark c.loop-place.invariant.done inside (ap (λ m. renamed indexes (mark_of whole m)) (sym here));
      left = rest_next (mark_of whole) (renamed indexes) given c.loop-place.marks.items c.loop-place.place c.loop-place.invariant.left _;
    }

pub returns : goal.returns
returns g c =
    let test = c.loop-place-test.false in
    let len = c.len-place-end.ensures in
    let ok = c.args.marks.now.ok in
    rename_end (mark_of g.I.OverlayInt.whole) (renamed c.args.indexes.now) c.args.marks.now.items c.loop-place.marks.items c.loop-place.place c.loop-place.invariant.left c.loop-place.invariant.done (omega (arith, test, len, ok))
