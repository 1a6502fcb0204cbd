use Rattle.std.proofs.Common.{rules}
use Rattle.std.proofs.lemmas.List.Sorted.{answers_always}
use Rattle.overlay_build.proofs.build.end_parts.sort_part.Goals as goal

-- std's sort of the part is stable
pub returns : goal.returns
returns c = c.sort_by_key.ensures.stable (λ e. e.key) (answers_always _ _ _ (λ f a r f' h. search rules))
