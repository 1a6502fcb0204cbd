use Rattle.std.proofs.Common.{◌≡◌, ◌∙◌, ap, inl, inr, refl, flat_map}
use Rattle.overlay_contours.specs.ShapesOf.{shapes_of}
use Rattle.overlay_text.specs.Text.{words_of, words_of_line}
use Rattle.overlay_text.specs.declared.stop.LineFault.TheVariants.{Form, Range}
use Rattle.overlay_text.proofs.Results.{if_err}
use Rattle.polygons.specs.Wkt.{wkt_words, WritePolygonsOf, polygon_contours}
use Rattle.polygons.proofs.Adding.{both_ok, err_gives}
use Rattle.polygons.proofs.wkt_lines.add_line.Goals as goal

pub returns-in_err-shape_type-clause-faulty : goal.returns-in_err-shape_type-clause-faulty
returns-in_err-shape_type-clause-faulty g c =
    let same : words_of c.of.result.rest.now ≡ wkt_words c.args.line.now = c.of.ensures ∙ ap words_of_line (c.as_slice.ensures.value ∙ c.in_ok-put_spaces.ensures) in
    if_err _ _ _ c.from_residual-in_err-shape_type.ensures.1 (elim c.in_err-shape_type.ensures.stop [
      | inl memory ↦ inl memory
      | inr faulty ↦ inr (Form, faulty.0, inl (refl, c.requires.some, λ shape_type polygons. rw same at (faulty.1 shape_type polygons)))
    ])

pub returns-clause-added : goal.returns-clause-added
returns-clause-added g c =
    let same : words_of c.of.result.rest.now ≡ wkt_words c.args.line.now = c.of.ensures ∙ ap words_of_line (c.as_slice.ensures.value ∙ c.in_ok-put_spaces.ensures) in
    let shape_type = c.in_ok-shape_type.shape_type in
    let polygons = shapes_of (λ z. z) c.in_ok-shape_type.polygons.items in
    let written : WritePolygonsOf (wkt_words c.args.line.now) shape_type polygons = rw same at c.in_ok-shape_type.ensures.polygons in
    let in_range = rw c.as_slice-2.ensures.value at c.add_polygons.ensures.in_range in
    let added = rw c.as_slice-2.ensures.value at c.add_polygons.ensures.added in
    both_ok c.add_polygons.result (λ fits adds. (flat_map (polygon_contours shape_type) polygons, (shape_type, polygons, written, fits, refl), adds)) in_range added

pub returns-clause-faulty : goal.returns-clause-faulty
returns-clause-faulty g c =
    let same : words_of c.of.result.rest.now ≡ wkt_words c.args.line.now = c.of.ensures ∙ ap words_of_line (c.as_slice.ensures.value ∙ c.in_ok-put_spaces.ensures) in
    let shape_type = c.in_ok-shape_type.shape_type in
    let polygons = shapes_of (λ z. z) c.in_ok-shape_type.polygons.items in
    let written : WritePolygonsOf (wkt_words c.args.line.now) shape_type polygons = rw same at c.in_ok-shape_type.ensures.polygons in
    let stop = rw c.as_slice-2.ensures.value at c.add_polygons.ensures.stop in
    err_gives c.add_polygons.result (λ fault h. elim h [
      | inl memory ↦ inl memory
      | inr faulty ↦ inr (Range, faulty.0, inr (refl, (shape_type, polygons, written, faulty.1)))
    ]) stop
