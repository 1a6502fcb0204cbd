use Rattle.std.proofs.Common.{◌≡◌, ◌++◌, flat_map, take, string_bytes}
use Rattle.overlay_build.specs.GraphOf.{link_of}
use Rattle.arrange.specs.GraphText.{link_line}
use Rattle.arrange.proofs.graph_output.write_links.Given as goal

abbrev pub invariant-loop-link : goal.invariant-loop-link
invariant-loop-link g l =
    string_bytes l.text ≡ string_bytes l.initial.text ++ flat_map (λ k. link_line (link_of g.I.OverlayInt.whole k)) (take l.link-index l.links)
