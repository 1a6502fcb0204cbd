-- An entry of a list that is read, as a segment with its sum.
use Rattle.std.proofs.Common.{◌≡◌, ap, sym, arith, get_or}
use Rattle.std.specs.Prelude.{ℕ, zero, suc, ◌<◌, List, [], ◌∷◌, map, length}
use Rattle.overlay_base.specs.Segments.{WholeSegment}
use Rattle.overlay_sweep.specs.LiveRows.{segment_at}

pub segment_read : {E : Type 0} (f : E → WholeSegment) (items : List E) (i : ℕ) (entry : E) → i < length items → entry ≡ get_or items i entry → segment_at (map f items) i ≡ f entry
segment_read f [] i entry h e = absurd (omega (arith, h))
segment_read f (x ∷ xs) zero entry h e = ap f (sym e)
segment_read f (x ∷ xs) (suc i) entry h e = segment_read f xs i entry (omega (arith, h)) e
