use Rattle.std.proofs.Common.{sym, ap, ◌∙◌, ◌++◌, ◌+◌, append_assoc, drop, List}
use Rattle.std.specs.Prelude.{map}
use Rattle.std.proofs.lemmas.Result.{on_ok_weaker}
use Rattle.overlay_geometry.specs.PairOf.{pair_of}
use Rattle.overlay_geometry.specs.PointOf.{point_of}
use Rattle.overlay_geometry.specs.Points.{Point}
use Rattle.overlay_tiles.specs.Tiles.{clamp, borders}
use Rattle.overlay_tiles.specs.TileOf.{tile_of}
use Rattle.overlay_contours.specs.ContoursOf.{points_of}
use Rattle.overlay_tiles.specs.steps.LineOf.{line_of}
use Rattle.overlay_tiles.specs.steps.Parted.{parted}
use Rattle.overlay_tiles.proofs.laws.Heights.{parts_of_box}
use Rattle.overlay_tiles.proofs.laws.Clips.{pushed_one}
use Rattle.overlay_tiles.proofs.laws.Parts.{parted_none, parted_off, parted_at}
use Rattle.overlay_tiles.proofs.clip.+push_parts.Goals as goal

pub returns-in_default : goal.returns-in_default
returns-in_default g t c =
    let whole = g.I.OverlayInt.whole in
    pushed_one (point_of whole) c.args.out.now.items c.push.new.self.items _ _ c.in_ok-push.ensures.items c.clamp.ensures
    ∙ sym (ap (λ (l : List Point). points_of whole c.args.out.now.items ++ l) (parted_none (tile_of whole c.args.tile.now) (pair_of whole c.args.step.now) _ (point_of whole c.args.u) (point_of whole c.args.v) c.in_default.ensures.none))

pub returns-then-not-parts : goal.returns-then-not-parts
returns-then-not-parts g t c =
    let whole = g.I.OverlayInt.whole in
    let off = parted_off (tile_of whole c.args.tile.now) (pair_of whole c.args.step.now) _ _ (line_of whole c.in-Some.line) (point_of whole c.args.u) (point_of whole c.args.v) c.in-Some.ensures.some.1 (sym c.parts.ensures ∙ c.if-not-parts.true) in
    on_ok_weaker c.push_parts.result (λ h. h ∙ sym (ap (λ (l : List Point). points_of whole c.args.out.now.items ++ l) off)) c.push_parts.ensures

pub cut-cut-requires-clause-crossed : goal.cut-cut-requires-clause-crossed
cut-cut-requires-clause-crossed g t c =
    let whole = g.I.OverlayInt.whole in
    parts_of_box (pair_of whole c.args.step.now) (line_of whole c.in-Some.line) (point_of whole c.args.u) (point_of whole c.args.v) c.requires.u c.requires.v (sym c.parts.ensures ∙ c.if-not-parts.false)

pub returns : goal.returns
returns g t c =
    let whole = g.I.OverlayInt.whole in
    let tile = tile_of whole c.args.tile.now in
    let s = pair_of whole c.args.step.now in
    let later = drop (c.args.index + 1) (borders tile) in
    let before : List Point = points_of whole c.args.out.now.items in
    let first : List Point = map (clamp tile) (parted s later (point_of whole c.args.u) (point_of whole c.cut-cut.result)) in
    let second : List Point = map (clamp tile) (parted s later (point_of whole c.cut-cut.result) (point_of whole c.args.v)) in
    let both = parted_at tile s _ later (line_of whole c.in-Some.line) (point_of whole c.args.u) (point_of whole c.args.v) (point_of whole c.cut-cut.result) c.in-Some.ensures.some.1 (sym c.parts.ensures ∙ c.if-not-parts.false) c.cut-cut.ensures.cut in
    on_ok_weaker c.push_parts-3.result
    (λ h. h ∙ ap (λ (l : List Point). l ++ second) c.in_ok-push_parts.ensures ∙ append_assoc before first second ∙ sym (ap (λ (l : List Point). before ++ l) both))
    c.push_parts-3.ensures
