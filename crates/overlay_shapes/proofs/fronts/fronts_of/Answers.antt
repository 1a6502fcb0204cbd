use Rattle.std.proofs.Common.{◌≡◌, ◌∙◌, ℕ, ◌<◌, List, map, length, get_or, true, sym, ap, ap₂, subst, arith}
use Rattle.std.proofs.lemmas.List.{get_or-map, get_or_default}
use Rattle.std.proofs.lemmas.Result.{IfOk-from_err}
use Rattle.overlay_geometry.specs.Points.{is_ordered}
use Rattle.overlay_build.specs.DirectedWalks.{no_link}
use Rattle.overlay_build.specs.Graph.{Link}
use Rattle.overlay_build.specs.GraphOf.{link_of}
use Rattle.overlay_shapes.specs.ShapeWalks.{comes_before}
use Rattle.overlay_shapes.specs.steps.Fronts.{IsLinkInOrder}
use Rattle.overlay_shapes.proofs.laws.Fronts.{pair_at, own_fronts, all_fronts, front_stays, front_moves, leader_low, front_low}
use Rattle.overlay_shapes.proofs.fronts.fronts_of.Goals as goal
use Rattle.overlay_shapes.proofs.fronts.fronts_of.Goals.{then-is_before, else-is_before}

pub loop-index-init : goal.loop-index-init
loop-index-init g c = own_fronts (map (link_of g.I.OverlayInt.whole) c.args.links.now) c.args.leaders.now c.in_ok-fronts.fronts.items c.in_ok-fronts.ensures.each c.in_ok-fronts.ensures.own

pub bounds-links-front : goal.bounds-links-front
bounds-links-front g c =
    let links : List Link = map (link_of g.I.OverlayInt.whole) c.args.links.now in
    let before = c.loop-index in
    let leader : ℕ = get_or c.args.leaders.now before.index 0 in
    let low = leader_low links c.args.leaders.now c.requires.leaders before.index before.fronts.items before.invariant c.loop-index-test.true in
    let front : c.index-front.result.now ≡ get_or before.fronts.items leader 0 = c.index-front.ensures ∙ get_or_default before.fronts.items leader c.index-front.result.now 0 (omega (arith, low, before.invariant.fronts_are.each)) in
    let inside = front_low links c.args.leaders.now c.requires.leaders before.index before.fronts.items before.invariant c.loop-index-test.true in
    omega (arith, front, inside, c.requires.each)

pub offset_bounds-links-front : goal.offset_bounds-links-front
offset_bounds-links-front g c =
    let links : List Link = map (link_of g.I.OverlayInt.whole) c.args.links.now in
    let before = c.loop-index in
    let leader : ℕ = get_or c.args.leaders.now before.index 0 in
    let low = leader_low links c.args.leaders.now c.requires.leaders before.index before.fronts.items before.invariant c.loop-index-test.true in
    let front : c.index-front.result.now ≡ get_or before.fronts.items leader 0 = c.index-front.ensures ∙ get_or_default before.fronts.items leader c.index-front.result.now 0 (omega (arith, low, before.invariant.fronts_are.each)) in
    let inside = front_low links c.args.leaders.now c.requires.leaders before.index before.fronts.items before.invariant c.loop-index-test.true in
    let bound : c.index-front.result.now < length c.args.links.now = omega (arith, front, inside, c.requires.each) in
    grind arith

pub is_before-requires-clause-own : goal.is_before-requires-clause-own
is_before-requires-clause-own g c =
    let link = c.index-links-index.result in
    subst (IsLinkInOrder g.I.OverlayInt.whole g.I.OverlayInt.MIN_COORD g.I.OverlayInt.MAX_COORD) (sym c.index-links-index.is) (c.requires.links c.loop-index.index link (let h = c.loop-index-test.true in omega (arith, h, c.requires.each)))

pub is_before-requires-clause-other : goal.is_before-requires-clause-other
is_before-requires-clause-other g c =
    let links : List Link = map (link_of g.I.OverlayInt.whole) c.args.links.now in
    let before = c.loop-index in
    let leader : ℕ = get_or c.args.leaders.now before.index 0 in
    let low = leader_low links c.args.leaders.now c.requires.leaders before.index before.fronts.items before.invariant c.loop-index-test.true in
    let front : c.index-front.result.now ≡ get_or before.fronts.items leader 0 = c.index-front.ensures ∙ get_or_default before.fronts.items leader c.index-front.result.now 0 (omega (arith, low, before.invariant.fronts_are.each)) in
    let inside = front_low links c.args.leaders.now c.requires.leaders before.index before.fronts.items before.invariant c.loop-index-test.true in
    let link = c.index-links-front.result in
    subst (IsLinkInOrder g.I.OverlayInt.whole g.I.OverlayInt.MIN_COORD g.I.OverlayInt.MAX_COORD) (sym c.index-links-front.is) (c.requires.links c.index-front.result.now link (omega (arith, front, inside, c.requires.each)))

pub loop-index-preserved : goal.loop-index-preserved
loop-index-preserved g c =
    let whole = g.I.OverlayInt.whole in
    let links : List Link = map (link_of whole) c.args.links.now in
    let leaders : List ℕ = c.args.leaders.now in
    let before = c.loop-index in
    let leader : ℕ = get_or leaders before.index 0 in
    let inside : before.index < length leaders = c.loop-index-test.true in
    let low = leader_low links leaders c.requires.leaders before.index before.fronts.items before.invariant inside in
    let front : c.index-front.result.now ≡ get_or before.fronts.items leader 0 = c.index-front.ensures ∙ get_or_default before.fronts.items leader c.index-front.result.now 0 (omega (arith, low, before.invariant.fronts_are.each)) in
    let front_in = front_low links leaders c.requires.leaders before.index before.fronts.items before.invariant inside in
    let own : pair_at links leaders before.index ≡ (link_of whole c.index-links-index.result).pair =
    ap (λ (l : Link). l.pair) (get_or-map (link_of whole) c.args.links.now before.index c.index-links-index.result no_link (omega (arith, inside, c.requires.each)) ∙ ap (link_of whole) (sym c.index-links-index.is)) in
    let other : pair_at links leaders (get_or before.fronts.items leader 0) ≡ (link_of whole c.index-links-front.result).pair =
    ap (pair_at links leaders) (sym front) ∙ ap (λ (l : Link). l.pair) (get_or-map (link_of whole) c.args.links.now c.index-front.result.now c.index-links-front.result no_link (omega (arith, front, front_in, c.requires.each)) ∙ ap (link_of whole) (sym c.index-links-front.is)) in
    let test : comes_before (pair_at links leaders before.index) (pair_at links leaders (get_or before.fronts.items leader 0)) ≡ c.is_before.result = ap₂ comes_before own other ∙ sym c.is_before.ensures in
    elim c.if-is_before.branch [
      | then-is_before w ↦
          let link = c.index-links-index.result in
          let ordered : (i : ℕ) → i < length leaders → is_ordered (pair_at links leaders i) ≡ true =
          (λ i h.
          let low_link : i < length c.args.links.now = omega (arith, h, c.requires.each) in
          ap (λ (l : Link). is_ordered l.pair) (get_or-map (link_of whole) c.args.links.now i link no_link low_link) ∙ (c.requires.links i link low_link).ordered) in
          rw w.fronts-is (front_moves links leaders c.requires.leaders before.index before.fronts.items before.invariant inside ordered (test ∙ w.if-is_before.true))
      | else-is_before w ↦
          rw w.fronts-is (front_stays links leaders c.requires.leaders before.index before.fronts.items before.invariant inside (test ∙ w.if-is_before.false))
    ]

pub returns-clause-fronts : goal.returns-clause-fronts
returns-clause-fronts g c = c.loop-index.invariant.fronts_are

pub returns-clause-none_before : goal.returns-clause-none_before
returns-clause-none_before g c = all_fronts (map (link_of g.I.OverlayInt.whole) c.args.links.now) c.args.leaders.now c.loop-index.index c.loop-index.fronts.items c.loop-index.invariant c.loop-index-test.false

pub returns-in_err-fronts-clause-fronts : goal.returns-in_err-fronts-clause-fronts
returns-in_err-fronts-clause-fronts g c = IfOk-from_err c.from_residual.result _ c.from_residual.ensures.0

pub returns-in_err-fronts-clause-none_before : goal.returns-in_err-fronts-clause-none_before
returns-in_err-fronts-clause-none_before g c = IfOk-from_err c.from_residual.result _ c.from_residual.ensures.0

pub bounds-leaders-index : goal.bounds-leaders-index
bounds-leaders-index g c = c.loop-index-test.true

pub bounds-links-index : goal.bounds-links-index
bounds-links-index g c = let inside = c.loop-index-test.true in let each = c.requires.each in omega (arith, inside, each)

pub offset_bounds-leaders-index : goal.offset_bounds-leaders-index
offset_bounds-leaders-index g c = omega (arith, c.loop-index-test.true)

pub offset_bounds-links-index : goal.offset_bounds-links-index
offset_bounds-links-index g c = let inside = c.loop-index-test.true in let each = c.requires.each in omega (arith, inside, each)

pub index-front-requires : goal.index-front-requires
index-front-requires g c =
    let links : List Link = map (link_of g.I.OverlayInt.whole) c.args.links.now in
    let before = c.loop-index in
    let low =
    leader_low links c.args.leaders.now c.requires.leaders before.index before.fronts.items before.invariant c.loop-index-test.true in
    omega (arith, low, before.invariant.fronts_are.each)

pub index_mut-requires : goal.index_mut-requires
index_mut-requires g c =
    let links : List Link = map (link_of g.I.OverlayInt.whole) c.args.links.now in
    let before = c.loop-index in
    let low =
    leader_low links c.args.leaders.now c.requires.leaders before.index before.fronts.items before.invariant c.loop-index-test.true in
    omega (arith, low, before.invariant.fronts_are.each)
