use Rattle.std.proofs.Common.{◌≡◌, ap, subst, ◌∙◌, List}
use Rattle.std.proofs.lemmas.Result.{IfOk-weaker, IfErr-weaker}
use Rattle.overlay_geometry.specs.Points.{Point}
use Rattle.overlay_contours.specs.ContoursOf.{contours_of}
use Rattle.overlay_contours.specs.Polygons.{IsPolygonOverlay}
use Rattle.overlay_contours.specs.Refusals.{IsRefusal}
use Rattle.overlay_contours.specs.Splittings.{by_snapping}
use Rattle.overlay_tiles.specs.TileOf.{tile_of}
use Rattle.overlay_tiles.specs.Tiles.{IsTile, in_tile}
use Rattle.overlay_tiles.proofs.laws.Besides.{inside_in_range}
use Rattle.overlay_tiles.proofs.laws.TileOverlays.{lie_inside, tile_part, tile_refusal}
use Rattle.overlay_tiles.proofs.overlay.overlay_tile.Goals as goal

pub returns-clause-part : goal.returns-clause-part
returns-clause-part g c =
    let whole = g.I.OverlayInt.whole in
    let given_tile = c.args.tile.now in
    let tile = tile_of whole given_tile in
    let is : IsTile tile = record { wide = given_tile.wide; high = given_tile.high } in
    let rule = c.args.overlay_rule in
    let fill_rule = c.args.fill_rule in
    let subject_is : contours_of whole c.deref.result.now ≡ in_tile tile (contours_of whole c.args.subject.now) = ap (contours_of whole) c.deref.ensures.value ∙ c.in_ok-subject_part.ensures.contours in
    let clip_is : contours_of whole c.deref-2.result.now ≡ in_tile tile (contours_of whole c.args.clip.now) = ap (contours_of whole) c.deref-2.ensures.value ∙ c.in_ok-clip_part.ensures.contours in
    IfOk-weaker c.overlay_contours.result _ _
    (λ answer h. tile_part tile is rule fill_rule (contours_of whole c.args.subject.now) (contours_of whole c.args.clip.now) (contours_of whole answer.items)
    (subst (λ (l : List (List Point)). IsPolygonOverlay by_snapping rule fill_rule (in_tile tile (contours_of whole c.args.subject.now)) l (contours_of whole answer.items)) clip_is
    (subst (λ (l : List (List Point)). IsPolygonOverlay by_snapping rule fill_rule l (contours_of whole c.deref-2.result.now) (contours_of whole answer.items)) subject_is h)))
    c.overlay_contours.ensures.polygons

pub returns-clause-refused : goal.returns-clause-refused
returns-clause-refused g c =
    let I = g.I.OverlayInt in
    let whole = I.whole in
    let least = whole I.MIN_COORD in
    let greatest = whole I.MAX_COORD in
    let given_tile = c.args.tile.now in
    let tile = tile_of whole given_tile in
    let is : IsTile tile = record { wide = given_tile.wide; high = given_tile.high } in
    let subject : List (List Point) = contours_of whole c.args.subject.now in
    let clip : List (List Point) = contours_of whole c.args.clip.now in
    let fits = λ (contours : List (List Point)). inside_in_range least greatest tile given_tile.in_range.left given_tile.in_range.right given_tile.in_range.lower given_tile.in_range.upper (in_tile tile contours) (lie_inside tile is contours) in
    let subject_is : contours_of whole c.deref.result.now ≡ in_tile tile subject = ap (contours_of whole) c.deref.ensures.value ∙ c.in_ok-subject_part.ensures.contours in
    let clip_is : contours_of whole c.deref-2.result.now ≡ in_tile tile clip = ap (contours_of whole) c.deref-2.ensures.value ∙ c.in_ok-clip_part.ensures.contours in
    IfErr-weaker c.overlay_contours.result _ _
    (λ fault h. tile_refusal least greatest tile subject clip c.in_ok-test_range.ensures.in_range c.in_ok-test_range-2.ensures.in_range (fits subject) (fits clip) fault
    (subst (λ (l : List (List Point)). IsRefusal least greatest by_snapping (in_tile tile subject) l fault) clip_is
    (subst (λ (l : List (List Point)). IsRefusal least greatest by_snapping l (contours_of whole c.deref-2.result.now) fault) subject_is h)))
    c.overlay_contours.ensures.refused
