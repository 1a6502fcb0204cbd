use Rattle.std.proofs.Common.{◌≡◌, ◌++◌, take, string_bytes, codes, flat_map}
use Rattle.overlay_contours.specs.ShapesOf.{shapes_of}
use Rattle.polygons.specs.Wkt.{polygon_wkt}
use Rattle.polygons.proofs.wkt_output.write_polygons.Given as goal

abbrev pub invariant-loop-shape : goal.invariant-loop-shape
invariant-loop-shape g l =
    string_bytes l.text ≡ string_bytes l.initial.text ++ flat_map (λ s. codes ", " ++ polygon_wkt s) (shapes_of g.I.OverlayInt.whole (take l.shape-index l.others))
