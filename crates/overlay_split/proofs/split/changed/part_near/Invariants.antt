use Rattle.std.proofs.Common.{◌≡◌, ℕ, length, ◌≤◌, ◌<◌, take, filter, slice_index_or}
use Rattle.std.specs.Prelude.{◌<ℤ◌}
use Rattle.std.specs.List.{AllWithin}
use Rattle.overlay_base.specs.SegmentOf.{ends_of, pairs_in}
use Rattle.overlay_split.specs.steps.ChangedBoxes.{is_near, near_from, rects_of}
use Rattle.overlay_split.proofs.split.changed.part_near.Given as goal

abbrev pub invariant-loop-index : goal.invariant-loop-index
invariant-loop-index g l =
    let whole = g.I.OverlayInt.whole in
    record {
      segments : l.part.segments.items ≡ filter (λ s. is_near (rects_of whole l.boxes) (ends_of s)) (take l.index l.segments);
      indexes : l.part.indexes.items ≡ near_from (rects_of whole l.boxes) 0 (pairs_in (take l.index l.segments));
      from : l.from ≤ length l.boxes;
      over : AllWithin (λ r. (k : ℕ) (d : _) → l.index ≤ k → k < length l.segments → r.max_x <ℤ (ends_of (slice_index_or l.segments k d)).a.x) (rects_of whole l.boxes) 0 l.from;
    }
