use Rattle.std.proofs.Common.{◌≡◌, ◌++◌, take, string_bytes, codes, flat_map}
use Rattle.overlay_contours.specs.ContoursOf.{points_of}
use Rattle.polygons.specs.Wkt.{point_wkt}
use Rattle.polygons.proofs.wkt_output.write_others.Given as goal

abbrev pub invariant-loop-point : goal.invariant-loop-point
invariant-loop-point g l =
    string_bytes l.text ≡ string_bytes l.initial.text ++ flat_map (λ p. codes ", " ++ point_wkt p) (points_of g.I.OverlayInt.whole (take l.point-index l.points))
