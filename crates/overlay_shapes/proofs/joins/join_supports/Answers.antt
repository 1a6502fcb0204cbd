use Rattle.std.proofs.Common.{◌≡◌, ◌∙◌, List, map, length, get_or, refl, sym, ap, arith, false}
use Rattle.std.proofs.lemmas.List.{length-map, get_or-map}
use Rattle.overlay_base.specs.Rules.{holds, top_value}
use Rattle.overlay_build.specs.DirectedWalks.{no_link}
use Rattle.overlay_build.specs.Graph.{Link}
use Rattle.overlay_build.specs.GraphOf.{link_of}
use Rattle.overlay_shapes.proofs.laws.JoinSteps.{no_supports, one_support, no_more, supports_to}
use Rattle.overlay_shapes.proofs.joins.join_supports.Goals as goal
use Rattle.overlay_shapes.proofs.joins.join_supports.Goals.{then-support-links+then-is_like_outside+in_ok-push, else-support-links, else-support-links-via-then-support-links+else-is_like_outside, else-support-links-via-else-support-links}

pub loop-index-init : goal.loop-index-init
loop-index-init g c = no_supports (holds c.args.rule) (map (link_of g.I.OverlayInt.whole) c.args.links.now) c.args.supports.now c.args.joins.now.items

pub loop-index-preserved : goal.loop-index-preserved
loop-index-preserved g c =
    let links : List Link = map (link_of g.I.OverlayInt.whole) c.args.links.now in
    let rule = holds c.args.rule in
    let before = c.loop-index in
    let many : length links ≡ length c.args.links.now = length-map c.args.links.now (link_of g.I.OverlayInt.whole) in
    elim c.if-support-links.branch [
      | then-support-links+then-is_like_outside+in_ok-push w ↦
          let fill : top_value rule (get_or links before.index no_link).fill ≡ rule false false =
          ap (λ (l : Link). top_value rule l.fill) (get_or-map (link_of g.I.OverlayInt.whole) c.args.links.now before.index w.index-links-index.result no_link c.loop-index-test.true)
          ∙ w.is_like_outside.ensures.yes w.if-is_like_outside.true in
          rw (w.joins-is, w.in_ok-push.ensures.items)
          (one_support rule links c.args.supports.now before.index (get_or c.args.supports.now before.index 0) c.args.joins.now.items before.joins.items before.invariant refl (omega (arith, many, w.if-support-links.true)) fill)
      | else-support-links w ↦
          rw w.joins-is (no_more rule links c.args.supports.now before.index c.args.joins.now.items before.joins.items before.invariant (λ stands between. elim w.else-support-links.branch [
            | else-support-links-via-then-support-links+else-is_like_outside v ↦
                let fill : (get_or links before.index no_link).fill ≡ (get_or c.args.links.now before.index v.index-links-index.result).fill =
                ap (λ (l : Link). l.fill) (get_or-map (link_of g.I.OverlayInt.whole) c.args.links.now before.index v.index-links-index.result no_link c.loop-index-test.true) in
                v.is_like_outside.ensures.no v.if-is_like_outside.false (ap (top_value rule) (sym fill) ∙ between)
            | else-support-links-via-else-support-links v ↦ absurd (omega (arith, many, stands, v.if-support-links.false))
          ]))
    ]

pub returns-clause-joins : goal.returns-clause-joins
returns-clause-joins g c =
    let done = c.loop-index-test.false in
    let low = c.loop-index.auto.index-end in
    supports_to (holds c.args.rule) (map (link_of g.I.OverlayInt.whole) c.args.links.now) c.args.supports.now c.loop-index.index (length c.args.links.now) c.args.joins.now.items c.loop-index.joins.items (omega (arith, done, low)) c.loop-index.invariant
