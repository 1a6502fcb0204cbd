use Rattle.std.proofs.Common.{◌≡◌, ◌+◌, ◌≤◌, length, arith, inl, []}
use Rattle.std.specs.Option.{option_map_or}
use Rattle.overlay_text.specs.Text.{lines_of}
use Rattle.overlay_text.proofs.Parts.{lines_are_few}
use Rattle.polygons.proofs.explain.explain_line.Goals as goal

pub loop-index-init : goal.loop-index-init
loop-index-init c =
    let few = lines_are_few c.args.bytes.now in
    let started : length (option_map_or (λ rest. lines_of rest.now) c.into_iter-index-iterator.result.iter.rest []) ≤ length c.args.bytes.now + 1 =
    rw (c.into_iter-index-iterator.ensures.into_iter_gives, c.enumerate-index-items.ensures.source, c.of.ensures) few in
    let counted : c.into_iter-index-iterator.result.count ≡ 0 = rw c.into_iter-index-iterator.ensures.into_iter_gives c.enumerate-index-items.ensures.count in
    ((tt, tt, inl (omega (arith, started, counted))), tt)
