-- The box of a segment without its ends, as code has it.
use Rattle.std.specs.Prelude.{◌≡◌, int_lt, IsTrue}
use Rattle.overlay_geometry.specs.Points.{Pair, is_ordered}
use Rattle.overlay_snapping.specs.steps.Distances.{turned}
use Rattle.overlay_snapping.specs.declared.snap.inner_box.InnerBox.{InnerBox}

-- the numbers of a box are those of the segment, whose ends are in order
pub record IsInnerBox (s : Pair) (box : InnerBox) : Type 0 where
  pub ordered : IsTrue (is_ordered s)
  pub left : box.left ≡ s.a.x
  pub right : box.right ≡ s.b.x
  pub falls : box.falls ≡ int_lt s.b.y s.a.y
  pub start : box.start ≡ turned (int_lt s.b.y s.a.y) s.a.y
  pub end : box.end ≡ turned (int_lt s.b.y s.a.y) s.b.y
