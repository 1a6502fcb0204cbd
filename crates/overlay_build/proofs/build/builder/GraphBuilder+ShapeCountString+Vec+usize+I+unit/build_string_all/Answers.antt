use Rattle.std.proofs.Common.{refl, rules}
use Rattle.overlay_build.proofs.build.builder.GraphBuilder+ShapeCountString+Vec+usize+I+unit.build_string_all.Goals as goal

pub returns : goal.returns
returns g c =
    ((search rules, λ w. refl, tt), record { graph = rw c.new.ensures.builder c.in_ok-build.ensures.graph; same_builder = search rules; compared = rw c.new.ensures.builder c.in_ok-build.ensures.compared; in_range = search rules; out_of_range = search rules; after = search rules })
