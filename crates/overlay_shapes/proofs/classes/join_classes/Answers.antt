use Rattle.std.proofs.Common.{◌∙◌}
use Rattle.overlay_shapes.proofs.laws.Forests.{classes_joined}
use Rattle.overlay_shapes.proofs.classes.join_classes.Goals as goal

pub returns-clause-joined : goal.returns-clause-joined
returns-clause-joined c = λ classes f.
    let first = c.leader_of-first in
    let second = c.leader_of-second in
    let mid = first.ensures.kept classes f in
    rw (c.max.ensures, c.min.ensures) (classes_joined c.args.parents.now second.new.parents classes c.args.a c.args.b first.result second.result f (second.ensures.kept classes mid) (second.auto.parents ∙ first.auto.parents) c.requires.a c.requires.b (first.ensures.leader classes f) (second.ensures.leader classes mid))
