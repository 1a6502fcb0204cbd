-- What a segment adds at one of its ends, in whole numbers: a count on the pair with both ends at that point.
use Rattle.std.specs.Prelude.{ℤ, List, map}
use Rattle.overlay_geometry.specs.PointOf.{point_of}
use Rattle.overlay_base.specs.Segments.{WholeSegment}
use Rattle.overlay_base.specs.BalanceTest.{point_pair}
use Rattle.overlay_base.specs.declared.segm.balance.EndCount.{EndCount}

abbrev pub end_count_of : {I : Type 0} → (I → ℤ) → EndCount I → WholeSegment
end_count_of whole e = record { pair = point_pair (point_of whole e.point); count = record { subj = e.subj; clip = e.clip; mask = 0 } }

abbrev pub end_counts_of : {I : Type 0} → (I → ℤ) → List (EndCount I) → List WholeSegment
end_counts_of whole list = map (λ e. end_count_of whole e) list
