use Rattle.std.proofs.Common.{◌∙◌, ap, sym, subst, ◌≤◌, ℕ}
use Rattle.std.specs.Prelude.{unsigned_abs, ◌-ℤ◌}
use Rattle.overlay_geometry.specs.PairOf.{pair_of}
use Rattle.overlay_grid.specs.Grid.{toward}
use Rattle.overlay_grid.proofs.laws.grid.GridBounds.{least_rise-le, greatest_rise-le}
use Rattle.overlay_grid.proofs.laws.grid.GridRises.{least_rise-is, greatest_rise-is}
use Rattle.overlay_grid.proofs.split.rise.heights_at.Goals as goal

pub moved-requires-clause-amount : goal.moved-requires-clause-amount
moved-requires-clause-amount g c =
    let s = pair_of g.I.OverlayInt.whole c.args.segment.now in
    let x = g.I.OverlayInt.whole c.args.x in
    subst (λ (n : ℕ). n ≤ unsigned_abs (s.b.y -ℤ s.a.y)) (sym (least_rise-is s x _ _ _ c.difference-height.ensures.value c.difference.ensures.value c.difference-width.ensures.value))
    (least_rise-le s x (record { forward = c.requires.forward }) c.requires.from c.requires.to)

pub moved-requires-2-clause-amount : goal.moved-requires-2-clause-amount
moved-requires-2-clause-amount g c =
    let s = pair_of g.I.OverlayInt.whole c.args.segment.now in
    let x = g.I.OverlayInt.whole c.args.x in
    subst (λ (n : ℕ). n ≤ unsigned_abs (s.b.y -ℤ s.a.y)) (sym (c.div_ceil.ensures ∙ greatest_rise-is s x _ _ _ c.difference-height.ensures.value c.difference.ensures.value c.difference-width.ensures.value))
    (greatest_rise-le s x (record { forward = c.requires.forward }) c.requires.from c.requires.to)

pub returns-clause-near : goal.returns-clause-near
returns-clause-near g c =
    let s = pair_of g.I.OverlayInt.whole c.args.segment.now in
    let x = g.I.OverlayInt.whole c.args.x in
    c.moved.ensures ∙ ap (λ (n : ℕ). toward s n) (least_rise-is s x _ _ _ c.difference-height.ensures.value c.difference.ensures.value c.difference-width.ensures.value)

pub returns-clause-far : goal.returns-clause-far
returns-clause-far g c =
    let s = pair_of g.I.OverlayInt.whole c.args.segment.now in
    let x = g.I.OverlayInt.whole c.args.x in
    c.moved-2.ensures ∙ ap (λ (n : ℕ). toward s n) (c.div_ceil.ensures ∙ greatest_rise-is s x _ _ _ c.difference-height.ensures.value c.difference.ensures.value c.difference-width.ensures.value)
