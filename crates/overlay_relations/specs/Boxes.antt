-- Boxes around points. Where there are no points there is no box.
use Rattle.std.specs.Prelude.{◌==◌, ℤ, int_le, Bool, ◌&&◌, false, List, length, Option, Some, None}
use Rattle.std.specs.List.{list_all}
use Rattle.overlay_geometry.specs.Points.{Point}
use Rattle.overlay_geometry.specs.RangeOf.{rect_of}
use Rattle.overlay_geometry.specs.Ranges.{Rect, do_rects_meet}
use Rattle.overlay_geometry.specs.declared.geom.rect.IntRect.{IntRect}

-- whether a point lies in a box, its border included
abbrev pub lies_in : Rect → Point → Bool
lies_in box p = int_le box.min_x p.x && int_le p.x box.max_x && int_le box.min_y p.y && int_le p.y box.max_y

-- whether all points lie in a box, or there are no points and no box
abbrev pub are_held : {I : Type 0} → (I → ℤ) → List Point → Option (IntRect I) → Bool
are_held whole points None = length points == 0
are_held whole points (Some box) = list_all (lies_in (rect_of whole box)) points

-- whether two boxes share a point, be it one of their borders
abbrev pub do_boxes_meet : {I : Type 0} → (I → ℤ) → Option (IntRect I) → Option (IntRect I) → Bool
do_boxes_meet whole None other = false
do_boxes_meet whole (Some one) None = false
do_boxes_meet whole (Some one) (Some other) = do_rects_meet (rect_of whole one) (rect_of whole other)
