-- Walks in groups by the classes of their links are in shapes.
use Rattle.std.proofs.Common.{◌≡◌, ℕ, zero, suc, ◌<◌, ◌⊎◌, inl, inr, Bool, true, false, List, [], ◌∷◌, length, get_or, refl, sym, ap, subst, ◌∙◌, arith}
use Rattle.std.specs.Prelude.{Contains, All, Some, slice_get}
use Rattle.std.specs.List.{list_all}
use Rattle.std.proofs.lemmas.Bool.{and_parts, cases_lt}
use Rattle.std.proofs.lemmas.List.{length-map, get_or_default}
use Rattle.std.proofs.lemmas.List.Elements.{All-from_recursion, recursion_from_All}
use Rattle.std.proofs.lemmas.Simd.{map-map}
use Rattle.overlay_geometry.proofs.laws.lists.Elements.{Contains-from_Has, Has-from_Contains}
use Rattle.overlay_geometry.proofs.laws.lists.Lists.{Has, AllByRecursion-from_Has, AllByRecursion-at}
use Rattle.overlay_base.specs.Segments.{WholeSegment, pairs}
use Rattle.overlay_geometry.specs.Points.{pair_lt, pair_cmp}
use Rattle.overlay_geometry.specs.Sorting.{is_strictly_sorted}
use Rattle.overlay_sweep.proofs.laws.columns.Members.{sorted_all, sorted_tail, differ_when_less}
use Rattle.overlay_base.specs.declared.segm.shape_type.ShapeType.TheVariants.{Subject}
use Rattle.overlay_build.specs.Boundary.{of_subject, directed_links}
use Rattle.overlay_build.specs.ShapedBoundary.{in_shape}
use Rattle.overlay_build.specs.DirectedWalks.{no_link, arcs, IsDirectedWalk, AreDirectedWalks}
use Rattle.overlay_build.specs.Graph.{Graph, Link}
use Rattle.overlay_shapes.specs.Classes.{AreLinked, IsJoin, AreLeaders}
use Rattle.overlay_shapes.specs.declared.classes.Join.{Join}
use Rattle.overlay_shapes.specs.Gathered.{all_walks, all_links, group_at, AreGathered}
use Rattle.overlay_shapes.specs.Sectors.{TurnsInto}
use Rattle.overlay_shapes.specs.ShapeWalks.{StandsOn, IsStep, InOneShape, IsLed, AreShapeWalks, comes_before}
use Rattle.overlay_shapes.specs.SimpleWalks.{PassesOnce}
use Rattle.overlay_shapes.specs.steps.Cycles.{LeadsTo, AreOnOneCycle}
use Rattle.overlay_shapes.specs.steps.Gathering.{AreLeading, MayBeGathered}
use Rattle.overlay_shapes.specs.steps.Joins.{AreJoinsAlong, IsToBeJoined, AddsSupports}
use Rattle.overlay_shapes.specs.steps.LeadOn.{LeadOn}
use Rattle.overlay_shapes.proofs.laws.Gathering.{link_in, link_of_walk, walk_in, Has-counted}
use Rattle.overlay_shapes.proofs.laws.Linked.{AreLinked-trans, AreLinked-sym, AreLinked-step, AreLinked-map, AreLinked-same}
use Rattle.overlay_sweep.specs.Supports.{AreSupports}

-- ---- a list at an index

slice_get-in : {X : Type 0} (xs : List X) (i : ℕ) → i < length xs → (x : X) × (slice_get xs i ≡ Some x)
slice_get-in [] i h = absurd (omega (arith, h))
slice_get-in (x ∷ xs) zero h = (x, refl)
slice_get-in (x ∷ xs) (suc i) h = slice_get-in xs i (omega (arith, h))

slice_get-low : {X : Type 0} (xs : List X) (i : ℕ) (x : X) → slice_get xs i ≡ Some x → i < length xs
slice_get-low [] i x e = absurd (cc)
slice_get-low (y ∷ xs) zero x e = omega arith
slice_get-low (y ∷ xs) (suc i) x e = let r = slice_get-low xs i x e in omega (arith, r)

some_same : {X : Type 0} (x y : X) → Some x ≡ Some y → x ≡ y
some_same x y e = cc

-- in a list without repeats an index is known by what is there
abbrev pub IsOwn : List WholeSegment → Type 0
IsOwn xs = (i j : ℕ) (x : WholeSegment) → slice_get xs i ≡ Some x → slice_get xs j ≡ Some x → i ≡ j

less_at : (x : WholeSegment) (ys : List WholeSegment) (n : ℕ) (y : WholeSegment) → list_all (λ y. pair_lt x.pair y.pair) ys ≡ true → slice_get ys n ≡ Some y → pair_lt x.pair y.pair ≡ true
less_at x [] n y a e = absurd (cc)
less_at x (z ∷ ys) zero y a e = subst (λ (v : WholeSegment). pair_lt x.pair v.pair ≡ true) (some_same z y e) (and_parts (pair_lt x.pair z.pair) _ a).0
less_at x (z ∷ ys) (suc n) y a e = less_at x ys n y (and_parts (pair_lt x.pair z.pair) _ a).1 e

-- so is it in an arrangement
pub own_in : (xs : List WholeSegment) → is_strictly_sorted pair_cmp (pairs xs) ≡ true → IsOwn xs
own_in [] o i j x e f = absurd (cc)
own_in (y ∷ xs) o zero zero x e f = refl
own_in (y ∷ xs) o zero (suc j) x e f = absurd (differ_when_less y.pair x.pair (less_at y xs j x (sorted_all y xs o) f) (ap (λ (v : WholeSegment). v.pair) (some_same y x e)))
own_in (y ∷ xs) o (suc i) zero x e f = absurd (differ_when_less y.pair x.pair (less_at y xs i x (sorted_all y xs o) e) (ap (λ (v : WholeSegment). v.pair) (some_same y x f)))
own_in (y ∷ xs) o (suc i) (suc j) x e f = let r = own_in xs (sorted_tail y xs o) i j x e f in omega (arith, r)

-- as segments of a subject links in their directions are what they are
pub links_as_subject : (rule : Bool → Bool → Bool) (graph : Graph) → in_shape Subject (directed_links rule graph) ≡ directed_links rule graph
unfolding in_shape directed_links
links_as_subject rule graph = map-map (λ (s : WholeSegment). record { pair = s.pair; count = of_subject s.count.subj }) _ graph.links

pub length-directed : (rule : Bool → Bool → Bool) (graph : Graph) → length (directed_links rule graph) ≡ length graph.links
unfolding directed_links
length-directed rule graph = length-map graph.links _

module _ (rule : Bool → Bool → Bool) (graph : Graph) (supports next : List ℕ) (first joins : List Join)
    (below : AreSupports (directed_links rule graph) supports) (lead : LeadOn (arcs rule graph.links) next)
    (along : AreJoinsAlong next first) (adds : AddsSupports rule graph.links supports (length graph.links) first joins) where
  abbrev ways : List Link
  ways = arcs rule graph.links

  as_many : length ways ≡ length graph.links
  as_many = length-map graph.links _

  -- ---- what is joined

  joined_only : (a b : ℕ) → IsJoin joins a b → ((a < length next) × (get_or next a 0 ≡ b)) ⊎ IsToBeJoined rule graph.links supports (length graph.links) a b
  joined_only a b j = elim (adds.only a b j) [ inl k ↦ inl (along.only a b k) | inr s ↦ inr s ]

  low_next : (a : ℕ) → a < length next → (a < length graph.links) × (get_or next a 0 < length graph.links)
  low_next a h = let l = lead.within a 0 h in (omega (arith, h, lead.each, as_many), omega (arith, l, as_many))

  pub joins_within : All (λ (j : Join). (j.a < length graph.links) × (j.b < length graph.links)) joins
  joins_within k d h = elim (joined_only (get_or joins k d).a (get_or joins k d).b (k, h, get_or_default joins k (record { a = (get_or joins k d).a; b = (get_or joins k d).b }) d h)) [
    | inl s ↦ (let r = low_next (get_or joins k d).a s.0 in (r.0, subst (λ i. i < length graph.links) s.1 r.1))
    | inr s ↦ (s.before, s.stands)
  ]

  -- what is to be joined has the other as its support, and conversely
  stands_on : (a b : ℕ) → IsToBeJoined rule graph.links supports (length graph.links) a b → StandsOn rule graph a b
  stands_on a b s =
      let many = length-directed rule graph in
      let up = slice_get-in (directed_links rule graph) a (omega (arith, many, s.before)) in
      let down = slice_get-in (directed_links rule graph) b (omega (arith, many, s.stands)) in
      record {
        above = up.0;
        below = down.0;
        above_is = up.1;
        below_is = down.1;
        on = below.told a up.0 up.1 ∙ ap (slice_get (directed_links rule graph)) s.on ∙ down.1;
        between = s.between;
      }

  -- a join is a step
  step_of : (a b : ℕ) → IsJoin joins a b → IsStep rule graph ways a b
  step_of a b j = elim (joined_only a b j) [
    | inl s ↦ inr (subst (TurnsInto ways a) s.1 (lead.turns a (let h = s.0 in omega (arith, h, lead.each))))
    | inr s ↦ inl (stands_on a b s)
  ]

  module _ (own : IsOwn (directed_links rule graph)) where
    to_be_joined : (a b : ℕ) → StandsOn rule graph a b → IsToBeJoined rule graph.links supports (length graph.links) a b
    to_be_joined a b s =
        let many = length-directed rule graph in
        let la = slice_get-low (directed_links rule graph) a s.above s.above_is in
        let lb = slice_get-low (directed_links rule graph) b s.below s.below_is in
        record {
          before = omega (arith, many, la);
          on = own (get_or supports a 0) b s.below (sym (below.told a s.above s.above_is) ∙ s.on) s.below_is;
          stands = omega (arith, many, lb);
          between = s.between;
        }

    -- and a step is a join
    join_of : (a b : ℕ) → IsStep rule graph ways a b → IsJoin joins a b
    join_of a b (inl s) = adds.more a b (to_be_joined a b s)
    join_of a b (inr t) =
        let la = slice_get-low ways a t.first t.first_is in
        adds.kept a b (subst (IsJoin first a) (lead.only a b t) (along.more a (omega (arith, la, lead.each))))

    -- ---- leaders

    module _ (leaders : List ℕ) (led : AreLeaders (length graph.links) joins leaders) where
      pub leading : AreLeading leaders
      leading = record { least = λ i h. led.least i (omega (arith, h, led.each)); led = λ i h. led.led i (omega (arith, h, led.each)) }

      same_leader : (a b : ℕ) → IsJoin joins a b → get_or leaders a 0 ≡ get_or leaders b 0
      same_leader a b j =
          let d : Join = record { a = a; b = b } in
          let e = led.joined j.0 d j.1 in
          ap (λ (x : Join). get_or leaders x.a 0) (sym (get_or_default joins j.0 d d j.1 ∙ j.2)) ∙ e ∙ ap (λ (x : Join). get_or leaders x.b 0) (get_or_default joins j.0 d d j.1 ∙ j.2)

      same_along : (i j : ℕ) → AreLinked (LeadsTo next) i j → get_or leaders i 0 ≡ get_or leaders j 0
      same_along i j l = AreLinked-same (LeadsTo next) (λ k. get_or leaders k 0) (λ a b s. same_leader a b (subst (IsJoin joins a) s.1 (adds.kept a (get_or next a 0) (along.more a s.0)))) l

      module _ (walks : List (List ℕ)) (are : AreDirectedWalks ways walks) (cycles : All (AreOnOneCycle next) walks) where
        filled : (w : List ℕ) → Has walks w → IsDirectedWalk ways w
        filled w m = AllByRecursion-at (IsDirectedWalk ways) walks w (recursion_from_All (IsDirectedWalk ways) walks are.closed) m

        low_in : (w : List ℕ) (i : ℕ) → Has walks w → Has w i → i < length graph.links
        low_in w i m n =
            let d = filled w m in
            subst (λ k. i < k) as_many (AllByRecursion-at (λ j. j < length ways) w i (recursion_from_All (λ j. j < length ways) w d.1.1.within) n)

        not_empty : (w : List ℕ) → IsDirectedWalk ways w → 0 < length w
        not_empty [] d = absurd (let e = d.1.1.starts in cc)
        not_empty (i ∷ w) d = omega arith

        first_has : (w : List ℕ) → 0 < length w → Has w (get_or w 0 0)
        first_has [] h = absurd (omega (arith, h))
        first_has (i ∷ w) h = inl refl

        pub may_be_gathered : MayBeGathered leaders walks
        may_be_gathered = record {
          filled = λ w c. not_empty w (filled w (Has-from_Contains walks w c));
          within = λ w i c d. let l = low_in w i (Has-from_Contains walks w c) (Has-from_Contains w i d) in omega (arith, l, led.each);
          together = λ w i c d.
              let m = Has-from_Contains walks w c in
              let f = Contains-from_Has w (get_or w 0 0) (first_has w (not_empty w (filled w m))) in
              same_along i (get_or w 0 0) (AllByRecursion-at (AreOnOneCycle next) walks w (recursion_from_All (AreOnOneCycle next) walks cycles) m i (get_or w 0 0) d f);
          once = λ i h. are.once i (omega (arith, h, led.each, as_many));
        }

        module _ (fronts : List ℕ) (none_before : (i : ℕ) → i < length leaders → comes_before (get_or graph.links i no_link).pair (get_or graph.links (get_or fronts (get_or leaders i 0) 0) no_link).pair ≡ false)
            (simple : All (PassesOnce ways) walks) (groups : List (List (List ℕ))) (gathered : AreGathered leaders fronts walks groups) where
          in_walks : (k : ℕ) (w : List ℕ) → k < length groups → Has (group_at groups k) w → Has walks w
          in_walks k w h m = Has-from_Contains walks w (gathered.taken k w h (Contains-from_Has (group_at groups k) w m))

          all_in : (w : List ℕ) → Has (all_walks groups) w → Has walks w
          all_in w m = let r = walk_in groups w m in in_walks r.0 w r.1 r.2

          All-groups : (P : List ℕ → Type 0) → All P walks → All P (all_walks groups)
          All-groups P a = All-from_recursion P (all_walks groups) (AllByRecursion-from_Has P (all_walks groups) (λ w m. AllByRecursion-at P walks w (recursion_from_All P walks a) (all_in w m)))

          group_of : (i : ℕ) → i < length graph.links → (k : ℕ) × (k < length groups) × Has (all_links (group_at groups k)) i
          group_of i h =
              let once = are.once i (omega (arith, h, as_many)) in
              let there = Has-counted (all_links (all_walks groups)) i (let c = gathered.counted i in omega (arith, c, once)) in
              let w = link_in (all_walks groups) i there in
              let g = walk_in groups w.0 w.1 in
              (g.0, g.1, link_of_walk (group_at groups g.0) w.0 i g.2 w.2)

          led_in : (k i : ℕ) → k < length groups → Has (all_links (group_at groups k)) i → get_or leaders i 0 ≡ get_or gathered.heads k 0
          led_in k i h m = gathered.led k i h (Contains-from_Has (all_links (group_at groups k)) i m)

          low_in_group : (k i : ℕ) → k < length groups → Has (all_links (group_at groups k)) i → i < length graph.links
          low_in_group k i h m = let w = link_in (group_at groups k) i m in low_in w.0 i (in_walks k w.0 h w.1) w.2

          one_group : (j k : ℕ) → j < length groups → k < length groups → get_or gathered.heads j 0 ≡ get_or gathered.heads k 0 → j ≡ k
          one_group j k h l e = elim (cases_lt j k) [
            | inl m ↦ (let r = gathered.rising j k m (omega (arith, l, gathered.each)) in absurd (omega (arith, r, e)))
            | inr m ↦ elim (cases_lt k j) [
              | inl n ↦ (let r = gathered.rising k j n (omega (arith, h, gathered.each)) in absurd (omega (arith, r, e)))
              | inr n ↦ omega (arith, m, n)
            ]
          ]

          joined_within : (a b : ℕ) → IsJoin joins a b → (a < length graph.links) × (b < length graph.links)
          joined_within a b j = elim (joined_only a b j) [
            | inl s ↦ (let r = low_next a s.0 in (r.0, subst (λ i. i < length graph.links) s.1 r.1))
            | inr s ↦ (s.before, s.stands)
          ]

          in_one : (i j : ℕ) → IsStep rule graph ways i j → InOneShape groups i j
          in_one i j s =
              let t = join_of i j s in
              let low = joined_within i j t in
              let a = group_of i low.0 in
              let b = group_of j low.1 in
              let e = same_leader i j t in
              let same = one_group b.0 a.0 b.1 a.1 (sym (led_in b.0 j b.1 b.2) ∙ sym e ∙ led_in a.0 i a.1 a.2) in
              (a.0, a.1, Contains-from_Has (all_links (group_at groups a.0)) i a.2, Contains-from_Has (all_links (group_at groups a.0)) j (subst (λ k. Has (all_links (group_at groups k)) j) same b.2))

          are_linked : (k i j : ℕ) → k < length groups → Contains (all_links (group_at groups k)) i → Contains (all_links (group_at groups k)) j → AreLinked (IsStep rule graph ways) i j
          are_linked k i j h ci cj =
              let mi = Has-from_Contains (all_links (group_at groups k)) i ci in
              let mj = Has-from_Contains (all_links (group_at groups k)) j cj in
              let e : get_or leaders i 0 ≡ get_or leaders j 0 = led_in k i h mi ∙ sym (led_in k j h mj) in
              let links : AreLinked (IsJoin joins) i j = AreLinked-trans (IsJoin joins) (subst (AreLinked (IsJoin joins) i) e (led.linked i (low_in_group k i h mi))) (AreLinked-sym (IsJoin joins) (led.linked j (low_in_group k j h mj))) in
              AreLinked-map (IsJoin joins) (IsStep rule graph ways) (λ x. x) (λ a b s. AreLinked-step (IsStep rule graph ways) (step_of a b s)) links

          is_led : (k : ℕ) → k < length groups → IsLed graph.links (group_at groups k)
          is_led k h =
              let f = gathered.first k h in
              let link : ℕ = get_or fronts (get_or gathered.heads k 0) 0 in
              record {
                front = f.0;
                later = f.1;
                shape_is = f.2;
                first = link;
                on_front = f.3;
                none_before = All-from_recursion (λ i. comes_before (get_or graph.links i no_link).pair (get_or graph.links link no_link).pair ≡ false) (all_links (group_at groups k))
                    (AllByRecursion-from_Has (λ i. comes_before (get_or graph.links i no_link).pair (get_or graph.links link no_link).pair ≡ false) (all_links (group_at groups k)) (λ i m.
                    subst (λ l. comes_before (get_or graph.links i no_link).pair (get_or graph.links (get_or fronts l 0) no_link).pair ≡ false) (led_in k i h m)
                    (none_before i (let low = low_in_group k i h m in omega (arith, low, led.each)))));
              }

          pub are_shape_walks : AreShapeWalks rule graph ways groups
          are_shape_walks = record {
            walks = record { closed = All-groups (IsDirectedWalk ways) are.closed; once = λ i h. gathered.counted i ∙ are.once i h };
            simple = All-groups (PassesOnce ways) simple;
            whole = in_one;
            linked = are_linked;
            led = is_led;
          }
