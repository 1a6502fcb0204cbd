use Rattle.std.proofs.Common.{◌≡◌, map, take, if◌then◌else◌}
use Rattle.overlay_base.specs.Rules.{holds, keeps_fill}
use Rattle.overlay_base.specs.declared.overlay_core.extract.VisitState.TheVariants.{Unvisited, Skipped}
use Rattle.overlay_upstream.proofs.build.link_filter.filter_by_overlay_into.Given as goal

abbrev pub invariant-loop-link : goal.invariant-loop-link
invariant-loop-link g l = l.buffer.items ≡ map (λ k. if keeps_fill (holds l.overlay_rule) k.fill then Unvisited else Skipped) (take l.link-index l.links)
