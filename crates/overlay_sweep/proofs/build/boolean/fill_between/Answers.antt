use Rattle.std.proofs.Common.{◌≡◌, sym, add-zero, rules}
use Rattle.overlay_sweep.specs.Fill.{is_inside, fill_byte}
use Rattle.overlay_sweep.proofs.build.boolean.fill_between.Goals as goal

pub returns : goal.returns
unfolding fill_byte
returns c =
    let subj_above : c.is_inside.result ≡ is_inside c.args.fill_rule c.args.top.subj = search rules in
    let subj_below : c.is_inside-2.result ≡ is_inside c.args.fill_rule c.args.bottom.subj = search rules in
    let clip_above : c.is_inside-3.result ≡ is_inside c.args.fill_rule c.args.top.clip = search rules in
    let clip_below : c.is_inside-4.result ≡ is_inside c.args.fill_rule c.args.bottom.clip = search rules in
    rw (c.number_if.ensures, c.number_if-2.ensures, c.number_if-3.ensures, c.number_if-4.ensures)
    (rw (subj_above, subj_below, clip_above, clip_below) (sym (add-zero _)))
