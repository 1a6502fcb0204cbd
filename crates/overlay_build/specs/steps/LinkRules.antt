-- Which fills become links.
use Rattle.std.specs.Prelude.{ℕ, Bool, true}
use Rattle.overlay_base.specs.Rules.{holds, keeps_fill}
use Rattle.overlay_base.specs.ClipRules.{keeps_clip}
use Rattle.overlay_build.specs.declared.build.kept_links.LinkRule.{LinkRule}
use Rattle.overlay_build.specs.declared.build.kept_links.LinkRule.TheVariants.{Every, Overlay, Clip}

abbrev pub keeps_by : LinkRule → ℕ → Bool
keeps_by Every fill = true
keeps_by (Overlay rule) fill = keeps_fill (holds rule) fill
keeps_by (Clip rule) fill = keeps_clip rule fill
