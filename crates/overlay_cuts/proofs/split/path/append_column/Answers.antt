use Rattle.std.proofs.Common.{◌≡◌, ◌∙◌, sym, true, false}
use Rattle.std.specs.Prelude.{int_lt}
use Rattle.overlay_geometry.specs.PointOf.{point_of}
use Rattle.overlay_cuts.proofs.laws.passes.Columns.{appended_down, appended_up}
use Rattle.overlay_cuts.proofs.split.path.append_column.Goals as goal

pub returns-then-is_lower : goal.returns-then-is_lower
returns-then-is_lower g c =
    let lower : int_lt (g.I.OverlayInt.whole c.args.next.y) (g.I.OverlayInt.whole c.args.before.y) ≡ true = sym c.is_lower.ensures ∙ c.if-is_lower.true in
    appended_down (λ m. m.point) (point_of g.I.OverlayInt.whole) c.append_downward.result c.args.path.now.items c.append_downward.new.path.items c.args.column.now (point_of g.I.OverlayInt.whole c.args.before) (point_of g.I.OverlayInt.whole c.args.next) lower c.append_downward.ensures

pub returns-else-is_lower : goal.returns-else-is_lower
returns-else-is_lower g c =
    let not_lower : int_lt (g.I.OverlayInt.whole c.args.next.y) (g.I.OverlayInt.whole c.args.before.y) ≡ false = sym c.is_lower.ensures ∙ c.if-is_lower.false in
    appended_up (λ m. m.point) (point_of g.I.OverlayInt.whole) c.append_upward.result c.args.path.now.items c.append_upward.new.path.items c.args.column.now (point_of g.I.OverlayInt.whole c.args.before) (point_of g.I.OverlayInt.whole c.args.next) not_lower c.append_upward.ensures
