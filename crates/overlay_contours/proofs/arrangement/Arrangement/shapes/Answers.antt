use Rattle.std.proofs.Common.{List, rules}
use Rattle.std.specs.Prelude.{Result, Ok, Err, IfOk}
use Rattle.overlay_base.specs.SegmentOf.{segments_of}
use Rattle.overlay_contours.specs.ContoursOf.{contours_of}
use Rattle.overlay_contours.specs.ShapesOf.{shapes_of}
use Rattle.overlay_contours.proofs.laws.Arrangements.{stay_known}
use Rattle.overlay_contours.proofs.laws.Beyond.{shapes_beyond}
use Rattle.overlay_contours.proofs.arrangement.Arrangement.shapes.Goals as goal

if_ok : {T E : Type 0} {P Q : T → Type 0} (r : Result T E) → ((x : T) → P x → Q x) → IfOk r P → IfOk r Q
if_ok (Ok x) f p = f x p
if_ok (Err y) f p = tt

pub returns-clause-overlay : goal.returns-clause-overlay
returns-clause-overlay g c =
    let at = c.args.self.now.arranged in
    if_ok c.shapes.result (λ answer made splitting fill_rule subject clip is. shapes_beyond splitting subject clip at.passes at.reach (segments_of at.sides.items, is.arrangement.left) c.args.overlay_rule fill_rule (shapes_of g.I.OverlayInt.whole answer.items) (made splitting fill_rule subject clip is)) c.shapes.ensures.shapes

pub invariant_of-self : goal.invariant_of-self
invariant_of-self g c = record { known = stay_known c.args.self.now.arranged c.shapes.new.self c.shapes.ensures.kept c.args.self.now.known }

pub returns-clause-shapes : goal.returns-clause-shapes
returns-clause-shapes g c = search rules
