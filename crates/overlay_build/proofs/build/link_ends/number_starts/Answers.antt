use Rattle.std.proofs.Common.{◌≡◌, ◌+◌, ◌<◌, ◌==◌, ◌∙◌, ap, sym, subst, refl, rules, true, ℕ, length, map, get_or, set, List, [], ◌∷◌, ◌++◌, Option, Some}
use Rattle.std.specs.Prelude.{ℤ}
use Rattle.std.specs.Option.{option_eq}
use Rattle.std.proofs.lemmas.List.{get_or_default, map-set}
use Rattle.overlay_geometry.specs.PointOf.{point_of}
use Rattle.overlay_base.specs.declared.overlay_core.link.OverlayLink.{OverlayLink}
use Rattle.overlay_build.specs.GraphOf.{with_start, pairs_of_links}
use Rattle.overlay_build.specs.steps.EndOf.{WholeEnd, unpacked}
use Rattle.overlay_build.specs.steps.LinkEnds.{numbered_starts}
use Rattle.overlay_build.specs.steps.LinksOf.{IsKeyAt, starts_of}
use Rattle.overlay_build.proofs.laws.graphs.NodeLists.{run-ends, start_at}
use Rattle.overlay_build.proofs.laws.graphs.LinkViews.{length-viewed_starts, viewed_at, viewed_within}
use Rattle.overlay_build.proofs.laws.graphs.NumberedRuns.{IsRunNumbered, numbered_none, numbered_more, numbered_pairs, numbered_in_range}
use Rattle.overlay_build.proofs.laws.graphs.StartKeys.{key-same, key-other}
use Rattle.overlay_build.proofs.build.link_ends.number_starts.Goals as goal

module _ {L I D : Type 0} (view : L → OverlayLink I D) (whole : I → ℤ) (given links : List L) (from key : ℕ) (found : Option ℕ) (kept : length links ≡ length given)
    (is : IsKeyAt (starts_of whole (map view given)) from found) (same : option_eq (λ i j. i == j) found (Some key) ≡ true) where
  -- a link is there
  inside : from < length links
  inside = rw (kept ∙ sym (length-viewed_starts view whole given)) (key-same _ from key found is same).0

  -- and its first end gets the number
  one_more : (id start : ℕ) (old indexes : List ℕ) (x l : L) → IsRunNumbered (with_start id) (starts_of whole (map view given)) (unpacked key) start from old indexes (map view given) (map view links) →
      x ≡ get_or links from x → view l ≡ with_start id (view x) →
      IsRunNumbered (with_start id) (starts_of whole (map view given)) (unpacked key) start (from + 1) old (indexes ++ from ∷ []) (map view given) (map view (set links from l))
  one_more id start old indexes x l so_far at made =
      let before : List (OverlayLink I D) = map view given in
      let seen : List (OverlayLink I D) = map view links in
      let unchanged : pairs_of_links whole seen ≡ pairs_of_links whole before = numbered_pairs whole (with_start id) (λ l. refl) _ before seen so_far.as_many so_far.numbers in
      let e : WholeEnd = record { index = from; point = point_of whole (view x).a.point } in
      let there = viewed_within view links from inside in
      let its = viewed_at view links from x inside at in
      let here : get_or (starts_of whole before) from e ≡ e = ap (λ (l : List WholeEnd). get_or l from e) (sym (ap numbered_starts unchanged)) ∙ start_at whole seen from (view x) e there its in
      let key_is = key-same (starts_of whole before) from key found is same in
      rw (map-set view links from l)
      (numbered_more (with_start id) (starts_of whole before) (unpacked key) start old before (λ l. refl) from indexes seen e (view l) so_far key_is.0 here
      (sym (ap (λ (e : WholeEnd). e.point) here) ∙ key_is.1 e) there
      (λ d. made ∙ ap (with_start id) (its ∙ get_or_default seen from (view x) d there)))

pub loop-links-init : goal.loop-links-init
loop-links-init g c =
    let whole = g.L.Coordinate.OverlayInt.whole in
    let given : List (OverlayLink g.row.L-Coordinate.Denot g.row.L-Data.Denot) = map g.L.NumberedLink.link c.args.links.now in
    record {
      numbered = numbered_none (with_start c.args.id) (starts_of whole given) (unpacked c.args.key) c.args.left.from c.args.indexes.now.items given (rw (length-viewed_starts g.L.NumberedLink.link whole c.args.links.now) c.requires.start);
      key = c.requires.left;
    }

pub bounds-links-next : goal.bounds-links-next
bounds-links-next g c = inside g.L.NumberedLink.link g.L.Coordinate.OverlayInt.whole c.args.links.now c.loop-links.links c.loop-links.next.from c.args.key c.loop-links.next.key c.loop-links.auto.links c.loop-links.invariant.key (sym c.eq.ensures ∙ c.loop-links-test.true)

pub offset_bounds-links-next : goal.offset_bounds-links-next
offset_bounds-links-next g c =
    let within = inside g.L.NumberedLink.link g.L.Coordinate.OverlayInt.whole c.args.links.now c.loop-links.links c.loop-links.next.from c.args.key c.loop-links.next.key c.loop-links.auto.links c.loop-links.invariant.key (sym c.eq.ensures ∙ c.loop-links-test.true) in
    search (rules, within)

pub overflow_add-next : goal.overflow_add-next
overflow_add-next g c =
    let within = inside g.L.NumberedLink.link g.L.Coordinate.OverlayInt.whole c.args.links.now c.loop-links.links c.loop-links.next.from c.args.key c.loop-links.next.key c.loop-links.auto.links c.loop-links.invariant.key (sym c.eq.ensures ∙ c.loop-links-test.true) in
    search (rules, within)

pub links_left-next-requires : goal.links_left-next-requires
links_left-next-requires g c =
    let whole = g.L.Coordinate.OverlayInt.whole in
    let view = g.L.NumberedLink.link in
    let y : g.row.L.Denot = get_or c.loop-links.links c.loop-links.next.from c.index-links-next.result in
    let same = sym c.eq.ensures ∙ c.loop-links-test.true in
    let within = inside view whole c.args.links.now c.loop-links.links c.loop-links.next.from c.args.key c.loop-links.next.key c.loop-links.auto.links c.loop-links.invariant.key same in
    let more = one_more view whole c.args.links.now c.loop-links.links c.loop-links.next.from c.args.key c.loop-links.next.key c.loop-links.auto.links c.loop-links.invariant.key same
    c.args.id c.args.left.from c.args.indexes.now.items c.loop-links.indexes.items y c.number_start.new.self c.loop-links.invariant.numbered
    (get_or_default c.loop-links.links c.loop-links.next.from c.index-links-next.result y within) c.number_start.ensures in
    numbered_in_range whole _ _ (map view c.args.links.now) _ (numbered_pairs whole (with_start c.args.id) (λ l. refl) _ (map view c.args.links.now) _ more.as_many more.numbers) c.requires.in_range

pub loop-links-smaller : goal.loop-links-smaller
loop-links-smaller g c =
    let within = inside g.L.NumberedLink.link g.L.Coordinate.OverlayInt.whole c.args.links.now c.loop-links.links c.loop-links.next.from c.args.key c.loop-links.next.key c.loop-links.auto.links c.loop-links.invariant.key (sym c.eq.ensures ∙ c.loop-links-test.true) in
    let on = c.links_left-next.ensures.from in
    search (rules, within, on)

pub loop-links-preserved : goal.loop-links-preserved
loop-links-preserved g c =
    let whole = g.L.Coordinate.OverlayInt.whole in
    let view = g.L.NumberedLink.link in
    let y : g.row.L.Denot = get_or c.loop-links.links c.loop-links.next.from c.index-links-next.result in
    let same = sym c.eq.ensures ∙ c.loop-links-test.true in
    let within = inside view whole c.args.links.now c.loop-links.links c.loop-links.next.from c.args.key c.loop-links.next.key c.loop-links.auto.links c.loop-links.invariant.key same in
    let more = one_more view whole c.args.links.now c.loop-links.links c.loop-links.next.from c.args.key c.loop-links.next.key c.loop-links.auto.links c.loop-links.invariant.key same
    c.args.id c.args.left.from c.args.indexes.now.items c.loop-links.indexes.items y c.number_start.new.self c.loop-links.invariant.numbered
    (get_or_default c.loop-links.links c.loop-links.next.from c.index-links-next.result y within) c.number_start.ensures in
    let unchanged = numbered_pairs whole (with_start c.args.id) (λ l. refl) _ (map view c.args.links.now) _ more.as_many more.numbers in
    rw (c.links_left-next.ensures.from, c.in_ok-push.ensures.items) (record {
      numbered = more;
      key = subst (λ (s : List WholeEnd). IsKeyAt s (c.loop-links.next.from + 1) c.links_left-next.result.key) (ap numbered_starts unchanged) c.links_left-next.ensures.key;
    })

pub returns-clause-run : goal.returns-clause-run
returns-clause-run g c =
    let starts = starts_of g.L.Coordinate.OverlayInt.whole (map g.L.NumberedLink.link c.args.links.now) in
    run-ends starts (unpacked c.args.key) c.args.left.from c.loop-links.next.from _ _ c.loop-links.invariant.numbered.run
    (λ d h at. key-other starts c.loop-links.next.from c.args.key c.loop-links.next.key c.loop-links.invariant.key (sym c.eq.ensures ∙ c.loop-links-test.false) d h at)
