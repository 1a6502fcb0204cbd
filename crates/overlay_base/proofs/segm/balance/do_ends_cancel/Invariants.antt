use Rattle.std.proofs.Common.{pos, ◌+ℤ◌, ◌≤ℤ◌, ◌*◌, drop}
use Rattle.overlay_geometry.specs.PointOf.{point_of}
use Rattle.overlay_base.specs.EndCountOf.{end_counts_of}
use Rattle.overlay_base.proofs.laws.rays.BalanceWalks.{IsWalked}
use Rattle.overlay_base.proofs.segm.balance.do_ends_cancel.Given as goal

abbrev pub invariant-loop-end : goal.invariant-loop-end
invariant-loop-end g l =
    let all = end_counts_of g.I.OverlayInt.whole l.ends in
    record {
      walked : IsWalked all (point_of g.I.OverlayInt.whole l.point) l.subj l.clip (drop l.end-index all);
      subj_above : pos 0 ≤ℤ (l.subj +ℤ pos (9223372036854775808 * l.end-index));
      subj_below : l.subj ≤ℤ pos (9223372036854775808 * l.end-index);
      clip_above : pos 0 ≤ℤ (l.clip +ℤ pos (9223372036854775808 * l.end-index));
      clip_below : l.clip ≤ℤ pos (9223372036854775808 * l.end-index);
    }
