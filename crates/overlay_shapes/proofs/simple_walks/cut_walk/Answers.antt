use Rattle.std.proofs.Common.{◌≡◌, ◌∙◌, ℕ, ◌+◌, ◌-◌, ◌<◌, ◌≤◌, List, [], ◌∷◌, ◌++◌, map, length, get_or, set, drop, refl, sym, ap, ap₂, subst, arith}
use Rattle.std.proofs.lemmas.List.{length-map, length-drop, length-set, map-append, get_or_default}
use Rattle.std.proofs.lemmas.Result.{IfOk-from_err}
use Rattle.overlay_base.specs.Rules.{holds}
use Rattle.overlay_build.specs.BoundaryOf.{walks_of}
use Rattle.overlay_build.specs.DirectedWalks.{arcs}
use Rattle.overlay_build.specs.Graph.{Link}
use Rattle.overlay_build.specs.GraphOf.{link_of}
use Rattle.overlay_build.specs.NodeIndexes.{indexes_of, is_canonical_node}
use Rattle.overlay_build.proofs.laws.walks.DirectedSteps.{ListArcs-held, length-arcs, arc_is}
use Rattle.overlay_shapes.proofs.laws.CutWalks.{start, end, IsUnderWay, cut_at_first, pushed, went_on, came_back, all_cut, taken_whole}
use Rattle.overlay_shapes.proofs.simple_walks.cut_walk.Goals as goal
use Rattle.overlay_shapes.proofs.simple_walks.cut_walk.Goals.{then-place-len+then-start_of-node+in_ok-extend_from_slice+in_ok-push-2, else-place-len, else-place-len-via-then-place-len+else-start_of-node, else-place-len-via-else-place-len}

pub loop-step-init : goal.loop-step-init
loop-step-init g c =
    let graph = c.args.graph.now in
    let ways : List Link = arcs (holds c.args.rule) (map (link_of g.I.OverlayInt.whole) graph.links.now) in
    rw c.new-path.ensures.items (cut_at_first ways c.args.walk.now c.args.places.now (walks_of c.args.simple.now.items) c.requires.walk)

pub bounds-places-start_of : goal.bounds-places-start_of
bounds-places-start_of g c =
    let graph = c.args.graph.now in
    let whole = g.I.OverlayInt.whole in
    let rule = holds c.args.rule in
    let ways : List Link = arcs rule (map (link_of whole) graph.links.now) in
    let lists = ListArcs-held indexes_of is_canonical_node whole graph.nodes.now graph.links.now rule graph.holds in
    let many = length-arcs whole rule graph.links.now in
    let walk : List ℕ = c.args.walk.now in
    let k : ℕ = c.loop-step.step-index in
    let step : ℕ = get_or walk k 0 in
    let low : step < length ways = c.requires.walk.within k 0 c.loop-step-test.true in
    let low_link : step < length graph.links.now = subst (λ n. step < n) many low in
    let link = c.index-links-step.result in
    let is : link ≡ get_or graph.links.now step link = c.index-links-step.is ∙ ap (λ ls. get_or ls step link) c.links-links.ensures in
    let from : c.start_of.result ≡ start ways step = c.start_of.ensures ∙ sym (ap (λ (l : Link). l.a_node) (arc_is whole rule graph.links.now step link low_link is)) in
    let each : length c.loop-step.places ≡ length (map indexes_of graph.nodes.now) = c.loop-step.auto.places ∙ c.requires.places ∙ sym (length-map graph.nodes.now indexes_of) in
    let inside : start ways step < length c.loop-step.places = subst (λ n. start ways step < n) (sym each) (lists.start_in step low) in
    subst (λ n. n < length c.loop-step.places) (sym from) inside

pub offset_bounds-places-start_of : goal.offset_bounds-places-start_of
offset_bounds-places-start_of g c =
    let graph = c.args.graph.now in
    let whole = g.I.OverlayInt.whole in
    let rule = holds c.args.rule in
    let ways : List Link = arcs rule (map (link_of whole) graph.links.now) in
    let lists = ListArcs-held indexes_of is_canonical_node whole graph.nodes.now graph.links.now rule graph.holds in
    let many = length-arcs whole rule graph.links.now in
    let walk : List ℕ = c.args.walk.now in
    let k : ℕ = c.loop-step.step-index in
    let step : ℕ = get_or walk k 0 in
    let low : step < length ways = c.requires.walk.within k 0 c.loop-step-test.true in
    let low_link : step < length graph.links.now = subst (λ n. step < n) many low in
    let link = c.index-links-step.result in
    let is : link ≡ get_or graph.links.now step link = c.index-links-step.is ∙ ap (λ ls. get_or ls step link) c.links-links.ensures in
    let from : c.start_of.result ≡ start ways step = c.start_of.ensures ∙ sym (ap (λ (l : Link). l.a_node) (arc_is whole rule graph.links.now step link low_link is)) in
    let each : length c.loop-step.places ≡ length (map indexes_of graph.nodes.now) = c.loop-step.auto.places ∙ c.requires.places ∙ sym (length-map graph.nodes.now indexes_of) in
    let inside : start ways step < length c.loop-step.places = subst (λ n. start ways step < n) (sym each) (lists.start_in step low) in
    let bound : c.start_of.result < length c.loop-step.places = subst (λ n. n < length c.loop-step.places) (sym from) inside in
    grind arith

pub bounds-places-node : goal.bounds-places-node
bounds-places-node g c =
    let graph = c.args.graph.now in
    let whole = g.I.OverlayInt.whole in
    let rule = holds c.args.rule in
    let ways : List Link = arcs rule (map (link_of whole) graph.links.now) in
    let lists = ListArcs-held indexes_of is_canonical_node whole graph.nodes.now graph.links.now rule graph.holds in
    let many = length-arcs whole rule graph.links.now in
    let walk : List ℕ = c.args.walk.now in
    let k : ℕ = c.loop-step.step-index in
    let step : ℕ = get_or walk k 0 in
    let low : step < length ways = c.requires.walk.within k 0 c.loop-step-test.true in
    let low_link : step < length graph.links.now = subst (λ n. step < n) many low in
    let link = c.index-links-step.result in
    let is : link ≡ get_or graph.links.now step link = c.index-links-step.is ∙ ap (λ ls. get_or ls step link) c.links-links.ensures in
    let from : c.start_of.result ≡ start ways step = c.start_of.ensures ∙ sym (ap (λ (l : Link). l.a_node) (arc_is whole rule graph.links.now step link low_link is)) in
    let each : length c.loop-step.places ≡ length (map indexes_of graph.nodes.now) = c.loop-step.auto.places ∙ c.requires.places ∙ sym (length-map graph.nodes.now indexes_of) in
    let inside : start ways step < length c.loop-step.places = subst (λ n. start ways step < n) (sym each) (lists.start_in step low) in
    let to : c.end_of-node.result ≡ end ways step = c.end_of-node.ensures ∙ sym (ap (λ (l : Link). l.b_node) (arc_is whole rule graph.links.now step link low_link is)) in
    let comes : end ways step < length c.loop-step.places = subst (λ n. end ways step < n) (sym each) (lists.end_in step low) in
    let bound : c.end_of-node.result < length c.loop-step.places = subst (λ n. n < length c.loop-step.places) (sym to) comes in
    subst (λ n. c.end_of-node.result < n) (sym (length-set c.loop-step.places c.start_of.result c.len.result)) bound

pub offset_bounds-places-node : goal.offset_bounds-places-node
offset_bounds-places-node g c =
    let graph = c.args.graph.now in
    let whole = g.I.OverlayInt.whole in
    let rule = holds c.args.rule in
    let ways : List Link = arcs rule (map (link_of whole) graph.links.now) in
    let lists = ListArcs-held indexes_of is_canonical_node whole graph.nodes.now graph.links.now rule graph.holds in
    let many = length-arcs whole rule graph.links.now in
    let walk : List ℕ = c.args.walk.now in
    let k : ℕ = c.loop-step.step-index in
    let step : ℕ = get_or walk k 0 in
    let low : step < length ways = c.requires.walk.within k 0 c.loop-step-test.true in
    let low_link : step < length graph.links.now = subst (λ n. step < n) many low in
    let link = c.index-links-step.result in
    let is : link ≡ get_or graph.links.now step link = c.index-links-step.is ∙ ap (λ ls. get_or ls step link) c.links-links.ensures in
    let from : c.start_of.result ≡ start ways step = c.start_of.ensures ∙ sym (ap (λ (l : Link). l.a_node) (arc_is whole rule graph.links.now step link low_link is)) in
    let each : length c.loop-step.places ≡ length (map indexes_of graph.nodes.now) = c.loop-step.auto.places ∙ c.requires.places ∙ sym (length-map graph.nodes.now indexes_of) in
    let inside : start ways step < length c.loop-step.places = subst (λ n. start ways step < n) (sym each) (lists.start_in step low) in
    let to : c.end_of-node.result ≡ end ways step = c.end_of-node.ensures ∙ sym (ap (λ (l : Link). l.b_node) (arc_is whole rule graph.links.now step link low_link is)) in
    let comes : end ways step < length c.loop-step.places = subst (λ n. end ways step < n) (sym each) (lists.end_in step low) in
    let bound : c.end_of-node.result < length c.loop-step.places = subst (λ n. n < length c.loop-step.places) (sym to) comes in
    grind arith

pub bounds-links-index : goal.bounds-links-index
bounds-links-index g c =
    let graph = c.args.graph.now in
    let whole = g.I.OverlayInt.whole in
    let rule = holds c.args.rule in
    let ways : List Link = arcs rule (map (link_of whole) graph.links.now) in
    let lists = ListArcs-held indexes_of is_canonical_node whole graph.nodes.now graph.links.now rule graph.holds in
    let many = length-arcs whole rule graph.links.now in
    let walk : List ℕ = c.args.walk.now in
    let k : ℕ = c.loop-step.step-index in
    let step : ℕ = get_or walk k 0 in
    let low : step < length ways = c.requires.walk.within k 0 c.loop-step-test.true in
    let low_link : step < length graph.links.now = subst (λ n. step < n) many low in
    let link = c.index-links-step.result in
    let is : link ≡ get_or graph.links.now step link = c.index-links-step.is ∙ ap (λ ls. get_or ls step link) c.links-links.ensures in
    let from : c.start_of.result ≡ start ways step = c.start_of.ensures ∙ sym (ap (λ (l : Link). l.a_node) (arc_is whole rule graph.links.now step link low_link is)) in
    let each : length c.loop-step.places ≡ length (map indexes_of graph.nodes.now) = c.loop-step.auto.places ∙ c.requires.places ∙ sym (length-map graph.nodes.now indexes_of) in
    let inside : start ways step < length c.loop-step.places = subst (λ n. start ways step < n) (sym each) (lists.start_in step low) in
    let to : c.end_of-node.result ≡ end ways step = c.end_of-node.ensures ∙ sym (ap (λ (l : Link). l.b_node) (arc_is whole rule graph.links.now step link low_link is)) in
    let comes : end ways step < length c.loop-step.places = subst (λ n. end ways step < n) (sym each) (lists.end_in step low) in
    let pushed_path : c.push.new.self.items ≡ c.loop-step.path.items ++ step ∷ [] = c.in_ok-push.ensures.items in
    let size : c.len.result ≡ length c.loop-step.path.items = c.len.ensures ∙ c.loop-step.path.ok.0 in
    let placed : List ℕ = set c.loop-step.places c.start_of.result c.len.result in
    let same_places : set c.loop-step.places (start ways step) (length c.loop-step.path.items) ≡ placed = ap₂ (λ (u v : ℕ). set c.loop-step.places u v) (sym from) (sym size) in
    let before : List (List ℕ) = walks_of c.args.simple.now.items in
    let now : List (List ℕ) = walks_of c.loop-step.simple.items in
    let way : IsUnderWay ways walk (k + 1) c.end_of-node.result placed c.push.new.self.items before now =
    subst (λ u. IsUnderWay ways walk (k + 1) u placed c.push.new.self.items before now) (sym to)
    (subst (λ l. IsUnderWay ways walk (k + 1) (end ways step) l c.push.new.self.items before now) same_places
    (subst (λ l. IsUnderWay ways walk (k + 1) (end ways step) (set c.loop-step.places (start ways step) (length c.loop-step.path.items)) l before now) (sym pushed_path)
    (pushed ways walk k c.loop-step.places c.loop-step.path.items before now c.loop-step.invariant c.loop-step-test.true low inside))) in
    let place : ℕ = get_or placed c.end_of-node.result 0 in
    let shorter : place < length c.push.new.self.items = subst (λ n. place < n) (c.len-in-loop-step.ensures ∙ c.push.new.self.ok.0) c.if-place-len.true in
    let found : c.index.result.now ≡ get_or c.push.new.self.items place 0 = c.index.ensures ∙ get_or_default c.push.new.self.items place c.index.result.now 0 shorter in
    subst (λ n. n < length c.links-links.result.now) (sym found) (subst (λ ls. get_or c.push.new.self.items place 0 < length ls) (sym c.links-links.ensures) (subst (λ n. get_or c.push.new.self.items place 0 < n) many (way.links place shorter)))

pub offset_bounds-links-index : goal.offset_bounds-links-index
offset_bounds-links-index g c =
    let graph = c.args.graph.now in
    let whole = g.I.OverlayInt.whole in
    let rule = holds c.args.rule in
    let ways : List Link = arcs rule (map (link_of whole) graph.links.now) in
    let lists = ListArcs-held indexes_of is_canonical_node whole graph.nodes.now graph.links.now rule graph.holds in
    let many = length-arcs whole rule graph.links.now in
    let walk : List ℕ = c.args.walk.now in
    let k : ℕ = c.loop-step.step-index in
    let step : ℕ = get_or walk k 0 in
    let low : step < length ways = c.requires.walk.within k 0 c.loop-step-test.true in
    let low_link : step < length graph.links.now = subst (λ n. step < n) many low in
    let link = c.index-links-step.result in
    let is : link ≡ get_or graph.links.now step link = c.index-links-step.is ∙ ap (λ ls. get_or ls step link) c.links-links.ensures in
    let from : c.start_of.result ≡ start ways step = c.start_of.ensures ∙ sym (ap (λ (l : Link). l.a_node) (arc_is whole rule graph.links.now step link low_link is)) in
    let each : length c.loop-step.places ≡ length (map indexes_of graph.nodes.now) = c.loop-step.auto.places ∙ c.requires.places ∙ sym (length-map graph.nodes.now indexes_of) in
    let inside : start ways step < length c.loop-step.places = subst (λ n. start ways step < n) (sym each) (lists.start_in step low) in
    let to : c.end_of-node.result ≡ end ways step = c.end_of-node.ensures ∙ sym (ap (λ (l : Link). l.b_node) (arc_is whole rule graph.links.now step link low_link is)) in
    let comes : end ways step < length c.loop-step.places = subst (λ n. end ways step < n) (sym each) (lists.end_in step low) in
    let pushed_path : c.push.new.self.items ≡ c.loop-step.path.items ++ step ∷ [] = c.in_ok-push.ensures.items in
    let size : c.len.result ≡ length c.loop-step.path.items = c.len.ensures ∙ c.loop-step.path.ok.0 in
    let placed : List ℕ = set c.loop-step.places c.start_of.result c.len.result in
    let same_places : set c.loop-step.places (start ways step) (length c.loop-step.path.items) ≡ placed = ap₂ (λ (u v : ℕ). set c.loop-step.places u v) (sym from) (sym size) in
    let before : List (List ℕ) = walks_of c.args.simple.now.items in
    let now : List (List ℕ) = walks_of c.loop-step.simple.items in
    let way : IsUnderWay ways walk (k + 1) c.end_of-node.result placed c.push.new.self.items before now =
    subst (λ u. IsUnderWay ways walk (k + 1) u placed c.push.new.self.items before now) (sym to)
    (subst (λ l. IsUnderWay ways walk (k + 1) (end ways step) l c.push.new.self.items before now) same_places
    (subst (λ l. IsUnderWay ways walk (k + 1) (end ways step) (set c.loop-step.places (start ways step) (length c.loop-step.path.items)) l before now) (sym pushed_path)
    (pushed ways walk k c.loop-step.places c.loop-step.path.items before now c.loop-step.invariant c.loop-step-test.true low inside))) in
    let place : ℕ = get_or placed c.end_of-node.result 0 in
    let shorter : place < length c.push.new.self.items = subst (λ n. place < n) (c.len-in-loop-step.ensures ∙ c.push.new.self.ok.0) c.if-place-len.true in
    let found : c.index.result.now ≡ get_or c.push.new.self.items place 0 = c.index.ensures ∙ get_or_default c.push.new.self.items place c.index.result.now 0 shorter in
    let bound : c.index.result.now < length c.links-links.result.now = subst (λ n. n < length c.links-links.result.now) (sym found) (subst (λ ls. get_or c.push.new.self.items place 0 < length ls) (sym c.links-links.ensures) (subst (λ n. get_or c.push.new.self.items place 0 < n) many (way.links place shorter))) in
    omega (arith, bound)

pub loop-step-preserved : goal.loop-step-preserved
loop-step-preserved g c =
    let graph = c.args.graph.now in
    let whole = g.I.OverlayInt.whole in
    let rule = holds c.args.rule in
    let ways : List Link = arcs rule (map (link_of whole) graph.links.now) in
    let lists = ListArcs-held indexes_of is_canonical_node whole graph.nodes.now graph.links.now rule graph.holds in
    let many = length-arcs whole rule graph.links.now in
    let walk : List ℕ = c.args.walk.now in
    let k : ℕ = c.loop-step.step-index in
    let step : ℕ = get_or walk k 0 in
    let low : step < length ways = c.requires.walk.within k 0 c.loop-step-test.true in
    let low_link : step < length graph.links.now = subst (λ n. step < n) many low in
    let link = c.index-links-step.result in
    let is : link ≡ get_or graph.links.now step link = c.index-links-step.is ∙ ap (λ ls. get_or ls step link) c.links-links.ensures in
    let from : c.start_of.result ≡ start ways step = c.start_of.ensures ∙ sym (ap (λ (l : Link). l.a_node) (arc_is whole rule graph.links.now step link low_link is)) in
    let each : length c.loop-step.places ≡ length (map indexes_of graph.nodes.now) = c.loop-step.auto.places ∙ c.requires.places ∙ sym (length-map graph.nodes.now indexes_of) in
    let inside : start ways step < length c.loop-step.places = subst (λ n. start ways step < n) (sym each) (lists.start_in step low) in
    let to : c.end_of-node.result ≡ end ways step = c.end_of-node.ensures ∙ sym (ap (λ (l : Link). l.b_node) (arc_is whole rule graph.links.now step link low_link is)) in
    let comes : end ways step < length c.loop-step.places = subst (λ n. end ways step < n) (sym each) (lists.end_in step low) in
    let pushed_path : c.push.new.self.items ≡ c.loop-step.path.items ++ step ∷ [] = c.in_ok-push.ensures.items in
    let size : c.len.result ≡ length c.loop-step.path.items = c.len.ensures ∙ c.loop-step.path.ok.0 in
    let placed : List ℕ = set c.loop-step.places c.start_of.result c.len.result in
    let same_places : set c.loop-step.places (start ways step) (length c.loop-step.path.items) ≡ placed = ap₂ (λ (u v : ℕ). set c.loop-step.places u v) (sym from) (sym size) in
    let before : List (List ℕ) = walks_of c.args.simple.now.items in
    let now : List (List ℕ) = walks_of c.loop-step.simple.items in
    let way : IsUnderWay ways walk (k + 1) c.end_of-node.result placed c.push.new.self.items before now =
    subst (λ u. IsUnderWay ways walk (k + 1) u placed c.push.new.self.items before now) (sym to)
    (subst (λ l. IsUnderWay ways walk (k + 1) (end ways step) l c.push.new.self.items before now) same_places
    (subst (λ l. IsUnderWay ways walk (k + 1) (end ways step) (set c.loop-step.places (start ways step) (length c.loop-step.path.items)) l before now) (sym pushed_path)
    (pushed ways walk k c.loop-step.places c.loop-step.path.items before now c.loop-step.invariant c.loop-step-test.true low inside))) in
    let place : ℕ = get_or placed c.end_of-node.result 0 in
    elim c.if-place-len.branch [
      | then-place-len+then-start_of-node+in_ok-extend_from_slice+in_ok-push-2 w ↦
          let shorter' : place < length c.push.new.self.items = subst (λ n. place < n) (c.len-in-loop-step.ensures ∙ c.push.new.self.ok.0) w.if-place-len.true in
          let i : ℕ = get_or c.push.new.self.items place 0 in
          let found : w.index.result.now ≡ i = w.index.ensures ∙ get_or_default c.push.new.self.items place w.index.result.now 0 shorter' in
          let near = w.index-links-index.result in
          let near_is : near ≡ get_or graph.links.now i near = w.index-links-index.is ∙ ap (λ ls. get_or ls w.index.result.now near) c.links-links.ensures ∙ ap (λ n. get_or graph.links.now n near) found in
          let near_low : i < length graph.links.now = subst (λ n. i < n) many (way.links place shorter') in
          let starts : start ways i ≡ w.start_of-then-place-len.result = ap (λ (l : Link). l.a_node) (arc_is whole rule graph.links.now i near near_low near_is) ∙ sym w.start_of-then-place-len.ensures in
          let part : w.extend_from_slice.new.self.items ≡ drop place c.push.new.self.items = (rw (w.new-part.ensures.items, w.deref.ensures.value) at w.in_ok-extend_from_slice.ensures.items) ∙ taken_whole (drop place c.push.new.self.items) (length c.push.new.self.items - place) (omega (arith, length-drop place c.push.new.self.items)) in
          let parts : walks_of w.push-then-start_of-node.new.self.items ≡ now ++ drop place c.push.new.self.items ∷ [] = ap walks_of w.in_ok-push-2.ensures.items ∙ map-append (λ v. v.items) c.loop-step.simple.items (w.extend_from_slice.new.self ∷ []) ∙ ap (λ (l : List ℕ). now ++ l ∷ []) part in
          rw (w.simple-is, w.path-is, parts, w.truncate.ensures.items)
          (came_back ways walk (k + 1) placed c.push.new.self.items before now c.end_of-node.result way place refl shorter' (starts ∙ w.if-start_of-node.true))
      | else-place-len w ↦
          rw (w.simple-is, w.path-is) (went_on ways walk (k + 1) placed c.push.new.self.items before now c.end_of-node.result way (λ shorter same. elim w.else-place-len.branch [
            | else-place-len-via-then-place-len+else-start_of-node v ↦
                let shorter' : place < length c.push.new.self.items = subst (λ n. place < n) (c.len-in-loop-step.ensures ∙ c.push.new.self.ok.0) v.if-place-len.true in
                let i : ℕ = get_or c.push.new.self.items place 0 in
                let found : v.index.result.now ≡ i = v.index.ensures ∙ get_or_default c.push.new.self.items place v.index.result.now 0 shorter' in
                let near = v.index-links-index.result in
                let near_is : near ≡ get_or graph.links.now i near = v.index-links-index.is ∙ ap (λ ls. get_or ls v.index.result.now near) c.links-links.ensures ∙ ap (λ n. get_or graph.links.now n near) found in
                let near_low : i < length graph.links.now = subst (λ n. i < n) many (way.links place shorter') in
                let starts : start ways i ≡ v.start_of-then-place-len.result = ap (λ (l : Link). l.a_node) (arc_is whole rule graph.links.now i near near_low near_is) ∙ sym v.start_of-then-place-len.ensures in
                v.if-start_of-node.false (sym starts ∙ same)
            | else-place-len-via-else-place-len v ↦ absurd (let long : length c.push.new.self.items ≤ place = subst (λ n. n ≤ place) (c.len-in-loop-step.ensures ∙ c.push.new.self.ok.0) v.if-place-len.false in omega (arith, long, shorter))
          ]))
    ]

pub returns-clause-parts : goal.returns-clause-parts
returns-clause-parts g c =
    let graph = c.args.graph.now in
    let ways : List Link = arcs (holds c.args.rule) (map (link_of g.I.OverlayInt.whole) graph.links.now) in
    all_cut ways c.args.walk.now c.loop-step.step-index c.loop-step.places c.loop-step.path.items (walks_of c.args.simple.now.items) (walks_of c.loop-step.simple.items) c.loop-step.invariant c.loop-step-test.false

pub returns-in_err-push-clause-parts : goal.returns-in_err-push-clause-parts
returns-in_err-push-clause-parts g c = IfOk-from_err c.from_residual.result _ c.from_residual.ensures.0

pub returns-in_err-extend_from_slice-clause-parts : goal.returns-in_err-extend_from_slice-clause-parts
returns-in_err-extend_from_slice-clause-parts g c =
    IfOk-from_err c.from_residual-in_err-extend_from_slice.result _ c.from_residual-in_err-extend_from_slice.ensures.0

pub returns-in_err-push-2-clause-parts : goal.returns-in_err-push-2-clause-parts
returns-in_err-push-2-clause-parts g c = IfOk-from_err c.from_residual-in_err-push-2.result _ c.from_residual-in_err-push-2.ensures.0

pub bounds-walk-step-index : goal.bounds-walk-step-index
bounds-walk-step-index g c = c.loop-step-test.true

pub offset_bounds-walk-step-index : goal.offset_bounds-walk-step-index
offset_bounds-walk-step-index g c = omega (arith, c.loop-step-test.true)

pub bounds-links-step : goal.bounds-links-step
bounds-links-step g c =
    let graph = c.args.graph.now in
    let many = length-arcs g.I.OverlayInt.whole (holds c.args.rule) graph.links.now in
    let low = c.requires.walk.within c.loop-step.step-index 0 c.loop-step-test.true in
    let links = ap length c.links-links.ensures in
    omega (arith, many, low, links)

pub offset_bounds-links-step : goal.offset_bounds-links-step
offset_bounds-links-step g c =
    let bound = bounds-links-step g c in
    omega (arith, bound)
