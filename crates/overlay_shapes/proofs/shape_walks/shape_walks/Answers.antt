use Rattle.std.proofs.Common.{◌≡◌, ◌∙◌, ℕ, ◌<◌, List, false, length, slice_index, slice_index_or, sym, ap, subst}
use Rattle.std.specs.Prelude.{All}
use Rattle.std.proofs.lemmas.List.{length-map}
use Rattle.overlay_base.specs.Rules.{holds}
use Rattle.overlay_build.specs.Boundary.{directed_links}
use Rattle.overlay_build.specs.BoundaryOf.{walks_of}
use Rattle.overlay_build.specs.DirectedWalks.{arcs, no_link, AreDirectedWalks}
use Rattle.overlay_build.specs.Graph.{Graph, Link}
use Rattle.overlay_build.specs.GraphOf.{link_of, graph_with}
use Rattle.overlay_sweep.specs.Supports.{AreSupports}
use Rattle.overlay_sweep.proofs.laws.columns.Members.{IsArranged}
use Rattle.overlay_sweep.proofs.laws.visits.Arrangements.{whole_arranged}
use Rattle.overlay_shapes.specs.Classes.{AreLeaders}
use Rattle.overlay_shapes.specs.Gathered.{groups_of, AreGathered}
use Rattle.overlay_shapes.specs.ShapeWalks.{AreShapeWalks, comes_before}
use Rattle.overlay_shapes.specs.SimpleWalks.{PassesOnce}
use Rattle.overlay_shapes.specs.declared.classes.Join.{Join}
use Rattle.overlay_shapes.specs.steps.Cycles.{AreOnOneCycle}
use Rattle.overlay_shapes.specs.steps.Fronts.{IsLinkInOrder}
use Rattle.overlay_shapes.specs.steps.Joins.{AreJoinsAlong, AddsSupports}
use Rattle.overlay_shapes.specs.steps.LeadOn.{LeadOn}
use Rattle.overlay_shapes.proofs.laws.Fronts.{links_in_order}
use Rattle.overlay_shapes.proofs.laws.ShapeWalks.{links_as_subject, length-directed, own_in, joins_within, leading, may_be_gathered, are_shape_walks}
use Rattle.overlay_shapes.proofs.shape_walks.shape_walks.Goals as goal

pub join_supports-requires : goal.join_supports-requires
join_supports-requires g c =
    let whole = g.I.OverlayInt.whole in
    let rule = holds c.args.rule in
    let links = c.args.graph.now.links.now in
    let graph : Graph = graph_with whole links in
    let below : List ℕ = c.in_ok-below.below.items in
    let stand : AreSupports (directed_links rule graph) below = subst (λ l. AreSupports l below) (links_as_subject rule graph) c.in_ok-below.ensures.supports in
    ap length c.deref-3.ensures.value ∙ stand.each ∙ length-directed rule graph ∙ sym (ap length c.args.graph.now.holds.same_links) ∙ length-map links (link_of whole) ∙ sym (ap length c.links-links.ensures)

pub leaders_of-requires : goal.leaders_of-requires
leaders_of-requires g c =
    let whole = g.I.OverlayInt.whole in
    let rule = holds c.args.rule in
    let links = c.args.graph.now.links.now in
    let graph : Graph = graph_with whole links in
    let same = c.args.graph.now.holds.same_links in
    let below : List ℕ = c.in_ok-below.below.items in
    let next : List ℕ = c.in_ok-next.next.items in
    let first : List Join = c.in_ok-joins.joins.items in
    let joins : List Join = c.join_supports.new.joins.items in
    let many : length links ≡ length graph.links = sym (length-map links (link_of whole)) ∙ ap length same in
    let lead : LeadOn (arcs rule graph.links) next = subst (λ (l : List Link). LeadOn (arcs rule l) next) same c.in_ok-next.ensures.next in
    let stand : AreSupports (directed_links rule graph) below = subst (λ l. AreSupports l below) (links_as_subject rule graph) c.in_ok-below.ensures.supports in
    let along : AreJoinsAlong next first = rw c.deref-2.ensures.value at c.in_ok-joins.ensures.joins in
    let added = rw (c.links-links.ensures, c.deref-3.ensures.value) at c.in_ok-join_supports.ensures.joins in
    let adds : AddsSupports rule graph.links below (length graph.links) first joins =
    subst (λ n. AddsSupports rule graph.links below n first joins) many (subst (λ (l : List Link). AddsSupports rule l below (length links) first joins) same added) in
    rw (c.links-links.ensures, c.deref-4.ensures.value, many) (record { within = joins_within rule graph below next first joins stand lead along adds })

pub fronts_of-requires-clause-links : goal.fronts_of-requires-clause-links
fronts_of-requires-clause-links g c =
    let whole = g.I.OverlayInt.whole in
    let rule = holds c.args.rule in
    let links = c.args.graph.now.links.now in
    let graph : Graph = graph_with whole links in
    let same = c.args.graph.now.holds.same_links in
    subst (All (IsLinkInOrder whole g.I.OverlayInt.MIN_COORD g.I.OverlayInt.MAX_COORD)) (sym c.links-links.ensures) (links_in_order whole g.I.OverlayInt.MIN_COORD g.I.OverlayInt.MAX_COORD rule links graph same c.requires.arranged)

pub fronts_of-requires-clause-each : goal.fronts_of-requires-clause-each
fronts_of-requires-clause-each g c =
    ap length c.deref-5.ensures.value ∙ c.in_ok-leaders.ensures.leaders.each

pub fronts_of-requires-clause-leaders : goal.fronts_of-requires-clause-leaders
fronts_of-requires-clause-leaders g c =
    let whole = g.I.OverlayInt.whole in
    let rule = holds c.args.rule in
    let links = c.args.graph.now.links.now in
    let graph : Graph = graph_with whole links in
    let same = c.args.graph.now.holds.same_links in
    let below : List ℕ = c.in_ok-below.below.items in
    let next : List ℕ = c.in_ok-next.next.items in
    let first : List Join = c.in_ok-joins.joins.items in
    let joins : List Join = c.join_supports.new.joins.items in
    let many : length links ≡ length graph.links = sym (length-map links (link_of whole)) ∙ ap length same in
    let lead : LeadOn (arcs rule graph.links) next = subst (λ (l : List Link). LeadOn (arcs rule l) next) same c.in_ok-next.ensures.next in
    let stand : AreSupports (directed_links rule graph) below = subst (λ l. AreSupports l below) (links_as_subject rule graph) c.in_ok-below.ensures.supports in
    let along : AreJoinsAlong next first = rw c.deref-2.ensures.value at c.in_ok-joins.ensures.joins in
    let added = rw (c.links-links.ensures, c.deref-3.ensures.value) at c.in_ok-join_supports.ensures.joins in
    let adds : AddsSupports rule graph.links below (length graph.links) first joins =
    subst (λ n. AddsSupports rule graph.links below n first joins) many (subst (λ (l : List Link). AddsSupports rule l below (length links) first joins) same added) in
    let arranged : IsArranged (directed_links rule graph) = whole_arranged (whole g.I.OverlayInt.MIN_COORD) (whole g.I.OverlayInt.MAX_COORD) (directed_links rule graph) _ (sym (links_as_subject rule graph)) c.requires.arranged in
    let own = own_in (directed_links rule graph) arranged.sorted in
    let leaders : List ℕ = c.in_ok-leaders.leaders.items in
    let told = rw (c.links-links.ensures, c.deref-4.ensures.value) at c.in_ok-leaders.ensures.leaders in
    let led : AreLeaders (length graph.links) joins leaders = subst (λ n. AreLeaders n joins leaders) many told in
    rw c.deref-5.ensures.value (leading rule graph below next first joins stand lead along adds own leaders led)

pub gather-requires-clause-leaders : goal.gather-requires-clause-leaders
gather-requires-clause-leaders g c =
    let whole = g.I.OverlayInt.whole in
    let rule = holds c.args.rule in
    let links = c.args.graph.now.links.now in
    let graph : Graph = graph_with whole links in
    let same = c.args.graph.now.holds.same_links in
    let below : List ℕ = c.in_ok-below.below.items in
    let next : List ℕ = c.in_ok-next.next.items in
    let first : List Join = c.in_ok-joins.joins.items in
    let joins : List Join = c.join_supports.new.joins.items in
    let many : length links ≡ length graph.links = sym (length-map links (link_of whole)) ∙ ap length same in
    let lead : LeadOn (arcs rule graph.links) next = subst (λ (l : List Link). LeadOn (arcs rule l) next) same c.in_ok-next.ensures.next in
    let stand : AreSupports (directed_links rule graph) below = subst (λ l. AreSupports l below) (links_as_subject rule graph) c.in_ok-below.ensures.supports in
    let along : AreJoinsAlong next first = rw c.deref-2.ensures.value at c.in_ok-joins.ensures.joins in
    let added = rw (c.links-links.ensures, c.deref-3.ensures.value) at c.in_ok-join_supports.ensures.joins in
    let adds : AddsSupports rule graph.links below (length graph.links) first joins =
    subst (λ n. AddsSupports rule graph.links below n first joins) many (subst (λ (l : List Link). AddsSupports rule l below (length links) first joins) same added) in
    let arranged : IsArranged (directed_links rule graph) = whole_arranged (whole g.I.OverlayInt.MIN_COORD) (whole g.I.OverlayInt.MAX_COORD) (directed_links rule graph) _ (sym (links_as_subject rule graph)) c.requires.arranged in
    let own = own_in (directed_links rule graph) arranged.sorted in
    let leaders : List ℕ = c.in_ok-leaders.leaders.items in
    let told = rw (c.links-links.ensures, c.deref-4.ensures.value) at c.in_ok-leaders.ensures.leaders in
    let led : AreLeaders (length graph.links) joins leaders = subst (λ n. AreLeaders n joins leaders) many told in
    rw c.deref-7.ensures.value (leading rule graph below next first joins stand lead along adds own leaders led)

pub gather-requires-clause-fronts : goal.gather-requires-clause-fronts
gather-requires-clause-fronts g c =
    rw (c.deref-7.ensures.value, c.deref-8.ensures.value) (rw c.deref-5.ensures.value at c.in_ok-fronts.ensures.fronts)

pub gather-requires-clause-walks : goal.gather-requires-clause-walks
gather-requires-clause-walks g c =
    let whole = g.I.OverlayInt.whole in
    let rule = holds c.args.rule in
    let links = c.args.graph.now.links.now in
    let graph : Graph = graph_with whole links in
    let same = c.args.graph.now.holds.same_links in
    let below : List ℕ = c.in_ok-below.below.items in
    let next : List ℕ = c.in_ok-next.next.items in
    let first : List Join = c.in_ok-joins.joins.items in
    let joins : List Join = c.join_supports.new.joins.items in
    let many : length links ≡ length graph.links = sym (length-map links (link_of whole)) ∙ ap length same in
    let lead : LeadOn (arcs rule graph.links) next = subst (λ (l : List Link). LeadOn (arcs rule l) next) same c.in_ok-next.ensures.next in
    let stand : AreSupports (directed_links rule graph) below = subst (λ l. AreSupports l below) (links_as_subject rule graph) c.in_ok-below.ensures.supports in
    let along : AreJoinsAlong next first = rw c.deref-2.ensures.value at c.in_ok-joins.ensures.joins in
    let added = rw (c.links-links.ensures, c.deref-3.ensures.value) at c.in_ok-join_supports.ensures.joins in
    let adds : AddsSupports rule graph.links below (length graph.links) first joins =
    subst (λ n. AddsSupports rule graph.links below n first joins) many (subst (λ (l : List Link). AddsSupports rule l below (length links) first joins) same added) in
    let arranged : IsArranged (directed_links rule graph) = whole_arranged (whole g.I.OverlayInt.MIN_COORD) (whole g.I.OverlayInt.MAX_COORD) (directed_links rule graph) _ (sym (links_as_subject rule graph)) c.requires.arranged in
    let own = own_in (directed_links rule graph) arranged.sorted in
    let leaders : List ℕ = c.in_ok-leaders.leaders.items in
    let told = rw (c.links-links.ensures, c.deref-4.ensures.value) at c.in_ok-leaders.ensures.leaders in
    let led : AreLeaders (length graph.links) joins leaders = subst (λ n. AreLeaders n joins leaders) many told in
    let walks : List (List ℕ) = walks_of c.in_ok-walks.walks.items in
    let are : AreDirectedWalks (arcs rule graph.links) walks = subst (λ (l : List Link). AreDirectedWalks (arcs rule l) walks) same c.in_ok-walks.ensures.walks in
    let cycles : All (AreOnOneCycle next) walks = rw c.deref.ensures.value at c.in_ok-walks.ensures.along in
    rw (c.deref-6.ensures.value, c.deref-7.ensures.value) (may_be_gathered rule graph below next first joins stand lead along adds own leaders led walks are cycles)

pub returns-clause-shapes : goal.returns-clause-shapes
returns-clause-shapes g c =
    let whole = g.I.OverlayInt.whole in
    let rule = holds c.args.rule in
    let links = c.args.graph.now.links.now in
    let graph : Graph = graph_with whole links in
    let same = c.args.graph.now.holds.same_links in
    let below : List ℕ = c.in_ok-below.below.items in
    let next : List ℕ = c.in_ok-next.next.items in
    let first : List Join = c.in_ok-joins.joins.items in
    let joins : List Join = c.join_supports.new.joins.items in
    let many : length links ≡ length graph.links = sym (length-map links (link_of whole)) ∙ ap length same in
    let lead : LeadOn (arcs rule graph.links) next = subst (λ (l : List Link). LeadOn (arcs rule l) next) same c.in_ok-next.ensures.next in
    let stand : AreSupports (directed_links rule graph) below = subst (λ l. AreSupports l below) (links_as_subject rule graph) c.in_ok-below.ensures.supports in
    let along : AreJoinsAlong next first = rw c.deref-2.ensures.value at c.in_ok-joins.ensures.joins in
    let added = rw (c.links-links.ensures, c.deref-3.ensures.value) at c.in_ok-join_supports.ensures.joins in
    let adds : AddsSupports rule graph.links below (length graph.links) first joins =
    subst (λ n. AddsSupports rule graph.links below n first joins) many (subst (λ (l : List Link). AddsSupports rule l below (length links) first joins) same added) in
    let arranged : IsArranged (directed_links rule graph) = whole_arranged (whole g.I.OverlayInt.MIN_COORD) (whole g.I.OverlayInt.MAX_COORD) (directed_links rule graph) _ (sym (links_as_subject rule graph)) c.requires.arranged in
    let own = own_in (directed_links rule graph) arranged.sorted in
    let leaders : List ℕ = c.in_ok-leaders.leaders.items in
    let told = rw (c.links-links.ensures, c.deref-4.ensures.value) at c.in_ok-leaders.ensures.leaders in
    let led : AreLeaders (length graph.links) joins leaders = subst (λ n. AreLeaders n joins leaders) many told in
    let walks : List (List ℕ) = walks_of c.in_ok-walks.walks.items in
    let are : AreDirectedWalks (arcs rule graph.links) walks = subst (λ (l : List Link). AreDirectedWalks (arcs rule l) walks) same c.in_ok-walks.ensures.walks in
    let cycles : All (AreOnOneCycle next) walks = rw c.deref.ensures.value at c.in_ok-walks.ensures.along in
    let simple = subst (λ (l : List Link). All (PassesOnce (arcs rule l)) walks) same c.in_ok-walks.ensures.simple in
    let fronts : List ℕ = c.in_ok-fronts.fronts.items in
    let none = rw (c.links-links.ensures, c.deref-5.ensures.value) at c.in_ok-fronts.ensures.none_before in
    let none_before = subst (λ (l : List Link). (i : ℕ) → i < length leaders → comes_before (slice_index_or l i no_link).pair (slice_index_or l (slice_index fronts (slice_index leaders i)) no_link).pair ≡ false) same none in
    let groups : List (List (List ℕ)) = groups_of c.in_ok-shapes.shapes.items in
    let gathered : AreGathered leaders fronts walks groups = rw (c.deref-6.ensures.value, c.deref-7.ensures.value, c.deref-8.ensures.value) at c.in_ok-shapes.ensures.groups in
    subst (λ (l : List Link). AreShapeWalks rule graph (arcs rule l) groups) (sym same)
    (are_shape_walks rule graph below next first joins stand lead along adds own leaders led walks are cycles fronts none_before simple groups gathered)
