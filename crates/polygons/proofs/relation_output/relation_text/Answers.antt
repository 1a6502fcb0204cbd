use Rattle.std.proofs.Common.{◌≡◌, ◌++◌, ◌∙◌, inl, ap, subst, List, Ok, string_bytes}
use Rattle.overlay_geometry.specs.Points.{Point}
use Rattle.overlay_contours.specs.Kept.{subject_of, clip_of}
use Rattle.overlay_relations.specs.Matrix.{IsMatrix}
use Rattle.overlay_relations.specs.Refusals.{IsRefusal}
use Rattle.polygons.specs.RelationText.{relation_line}
use Rattle.polygons.proofs.Relations.{relation_stop}
use Rattle.polygons.proofs.relation_output.relation_text.Goals as goal

pub returns-in_ok-write_relation-in-Ok-clause-text : goal.returns-in_ok-write_relation-in-Ok-clause-text
returns-in_ok-write_relation-in-Ok-clause-text g c =
    let subject = subject_of c.args.overlay.now in
    let clip = clip_of c.args.overlay.now in
    let fill = c.args.settings.fill_rule in
    let relation = c.in-Ok.relation in
    let is = rw (c.contours-subject.ensures.contours, c.contours-clip.ensures.contours) at c.in-Ok.ensures.matrix in
    inl (relation, is, ap Ok (c.in_ok-write_relation-in-Ok.ensures ∙ ap (λ (l : List _). l ++ relation_line relation) c.new-text.ensures.bytes))

pub returns-in-Err-clause-stop : goal.returns-in-Err-clause-stop
returns-in-Err-clause-stop g c =
    let own = g.I.OverlayInt in
    let refused = rw (c.contours-subject.ensures.contours, c.contours-clip.ensures.contours) at c.in-Err.ensures.refused in
    rw c.stop_of.ensures (relation_stop (own.whole own.MIN_COORD) (own.whole own.MAX_COORD) c.args.settings.fill_rule (subject_of c.args.overlay.now) (clip_of c.args.overlay.now) c.in-Err.fault refused)
