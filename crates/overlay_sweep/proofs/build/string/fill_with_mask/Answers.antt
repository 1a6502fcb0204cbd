use Rattle.std.proofs.Common.{◌≡◌, ◌+◌, ◌*◌, ap, sym, rules}
use Rattle.overlay_sweep.specs.Fill.{is_inside, flag_value, fill_byte}
use Rattle.overlay_sweep.proofs.laws.visits.FillBytes.{without_clip}
use Rattle.overlay_sweep.proofs.build.string.fill_with_mask.Goals as goal

pub returns : goal.returns
unfolding fill_byte
returns c =
    let above : c.is_inside.result ≡ is_inside c.args.fill_rule c.args.top.subj = search rules in
    let below : c.is_inside-2.result ≡ is_inside c.args.fill_rule c.args.bottom.subj = search rules in
    let sides = flag_value (is_inside c.args.fill_rule c.args.top.subj) 1 + flag_value (is_inside c.args.fill_rule c.args.bottom.subj) 2 in
    rw (c.number_if.ensures, c.number_if-2.ensures) (rw (above, below) (sym (ap (λ n. n + 4 * c.args.mask) (without_clip c.args.fill_rule sides))))
