use Rattle.std.proofs.Common.{◌≡◌, ◌++◌, take, string_bytes, codes, flat_map}
use Rattle.overlay_contours.specs.ContoursOf.{contours_of}
use Rattle.polygons.specs.Wkt.{ring_wkt}
use Rattle.polygons.proofs.wkt_output.write_polygon.Given as goal

abbrev pub invariant-loop-contour : goal.invariant-loop-contour
invariant-loop-contour g l =
    string_bytes l.text ≡ string_bytes l.initial.text ++ flat_map (λ c. codes ", " ++ ring_wkt c) (contours_of g.I.OverlayInt.whole (take l.contour-index l.others))
