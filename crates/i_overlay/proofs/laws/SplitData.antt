-- What holds of the store with which a split begins.
use Rattle.std.proofs.Common.{◌≡◌, ℕ, sym, subst}
use Rattle.std.specs.Prelude.{Vec}
use Rattle.std.specs.Global.{Global}
use Rattle.overlay_base.specs.declared.overlay_core.edge_data.OverlayEdgeData.{Ghosts}
use Rattle.overlay_base.specs.declared.segm.segment.Segment.{Segment}
use Rattle.overlay_contours.specs.Splittings.{Splitting, by_passes, by_snapping}
use Rattle.i_overlay.specs.Courses.{Course}
use Rattle.i_overlay.specs.SplitLists.{SplitsList, HasDataOf}

has_data : {C I D S : Type 0} {m : _} {w : _} {o : _} {e : _} {p : _} (hooks : Ghosts D C S) (IsFirst : S → Type 0) (splitting : Splitting) (passes : ℕ) (given list : Vec (Segment C I D m w o e p) Global) (store : S)
    → IsFirst store → HasDataOf hooks (λ s. s ≡ store) splitting passes given list → HasDataOf hooks IsFirst splitting passes given list
has_data hooks IsFirst (by_passes settings) passes given list store first h = (h.0, subst IsFirst (sym h.1) first, h.2)
has_data hooks IsFirst by_snapping passes given list store first h = (h.0, subst IsFirst (sym h.1) first, h.2)

pub with_first_store : {C I D S : Type 0} {m : _} {w : _} {o : _} {e : _} {p : _} (hooks : Ghosts D C S) (IsFirst : S → Type 0) (course : Course) (given list : Vec (Segment C I D m w o e p) Global) (store : S)
    → IsFirst store → SplitsList hooks (λ s. s ≡ store) course given list → SplitsList hooks IsFirst course given list
with_first_store hooks IsFirst course given list store first h = record {
  split = h.split;
  arranged = h.arranged;
  edge_data = has_data hooks IsFirst course.splitting course.passes given list store first h.edge_data;
  kept_data = h.kept_data;
  named_data = h.named_data;
  line_data = h.line_data;
  fits = h.fits;
}
