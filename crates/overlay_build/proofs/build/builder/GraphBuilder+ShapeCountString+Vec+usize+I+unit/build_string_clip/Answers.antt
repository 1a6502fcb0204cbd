use Rattle.std.proofs.Common.{refl, rules}
use Rattle.overlay_base.specs.SegmentOf.{segment_of}
use Rattle.overlay_build.proofs.laws.sides.LineSides.{arranged_clip}
use Rattle.overlay_build.proofs.build.builder.GraphBuilder+ShapeCountString+Vec+usize+I+unit.build_string_clip.Goals as goal

pub returns : goal.returns
returns g c =
    ((search rules, λ w. refl, tt), record { graph = rw c.new.ensures.builder c.in_ok-build.ensures.graph; balanced = arranged_clip segment_of (λ s. refl) c.args.segments.now _ _ c.args.clip_rule c.args.fill_rule c.requires.arranged; same_builder = search rules; compared = rw c.new.ensures.builder c.in_ok-build.ensures.compared; in_range = search rules; out_of_range = search rules; after = search rules })

pub returns-in_err-build : goal.returns-in_err-build
returns-in_err-build g c =
    ((search rules, search rules, search rules), record { graph = search rules; balanced = arranged_clip segment_of (λ s. refl) c.args.segments.now _ _ c.args.clip_rule c.args.fill_rule c.requires.arranged; same_builder = search rules; compared = search rules; in_range = search rules; out_of_range = search rules; after = search rules })
