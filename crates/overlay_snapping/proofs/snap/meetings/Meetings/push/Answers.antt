use Rattle.std.proofs.Common.{◌∙◌, subst, ◌≤◌, length}
use Rattle.std.proofs.lemmas.Option.{get_or_from_slice_get}
use Rattle.overlay_snapping.specs.declared.snap.meetings.Part.{Part}
use Rattle.overlay_snapping.proofs.laws.cells.Recorded.{part_added, parts_stay}
use Rattle.overlay_snapping.proofs.snap.meetings.Meetings.push.Goals as goal

pub returns-clause-added : goal.returns-clause-added
returns-clause-added g c =
    part_added c.args.self.now.points.items c.args.points.now c.append.new.list.items c.args.self.now.parts.items c.push.new.self.items c.len-start.result c.len-end.result c.in_ok-append.ensures.appended c.in_ok-push.ensures.items
    (c.len-start.ensures ∙ c.args.self.now.points.ok.0) (c.len-end.ensures ∙ c.append.new.list.ok.0)

pub returns-clause-kept : goal.returns-clause-kept
returns-clause-kept g c = λ i within.
    let xs = c.args.self.now.points.items in
    let parts = c.args.self.now.parts.items in
    parts_stay xs c.args.points.now c.append.new.list.items parts c.push.new.self.items _ i c.in_ok-append.ensures.appended c.in_ok-push.ensures.items within
    (λ q at. subst (λ (p : Part). (p.start ≤ p.end) × (p.end ≤ length xs)) (get_or_from_slice_get parts i q q at) (c.args.self.now.within i q within))
