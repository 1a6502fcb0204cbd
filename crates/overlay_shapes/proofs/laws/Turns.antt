-- Which link leads on from another along a sector of the region at their node: one, and on from no other.
use Rattle.std.proofs.Common.{◌≡◌, ◌≢◌, ℕ, ◌<◌, ◌==◌, ◌⊎◌, ◌&&◌, inl, inr, zero, suc, Bool, true, false, not, ◌||◌, List, [], ◌∷◌, map, length, get_or, refl, sym, ap, subst, ◌∙◌, arith, if◌then◌else◌}
use Rattle.std.specs.Prelude.{All, Some, slice_get}
use Rattle.std.proofs.lemmas.Bool.{or_parts, both_ways, cases_Bool, false≢true, eqb-true, eq-eqb}
use Rattle.std.proofs.lemmas.List.{length-map, get_or-map}
use Rattle.std.proofs.lemmas.List.Elements.{All-get_or, All-from_get_or}
use Rattle.overlay_geometry.specs.Points.{Point, point_eq, pair_cmp, pair_lt, is_ordered}
use Rattle.overlay_geometry.specs.Sorting.{is_strictly_sorted}
use Rattle.overlay_geometry.proofs.laws.geometry.Points.{Before, Before-irreflexive, from_not_same, point_eq_same}
use Rattle.overlay_geometry.proofs.laws.lists.Lists.{Has, Has-map, list_all-at}
use Rattle.overlay_base.specs.Rules.{top_value}
use Rattle.overlay_base.specs.Segments.{WholeSegment, pairs}
use Rattle.overlay_sweep.proofs.laws.columns.ColumnLines.{point_lt-cases}
use Rattle.overlay_sweep.proofs.laws.columns.Members.{IsArranged, sorted_all, sorted_tail, differ_when_less}
use Rattle.overlay_build.specs.Boundary.{of_subject, direction}
use Rattle.overlay_build.specs.DirectedWalks.{turned, in_direction, arcs, no_link}
use Rattle.overlay_build.specs.Graph.{Link}
use Rattle.overlay_shapes.specs.Sectors.{lies_in_sector, leads_into_sector, TurnsInto}
use Rattle.overlay_shapes.specs.steps.LeadOn.{LeadOn}
use Rattle.overlay_shapes.proofs.laws.Rays.{runs_along, sector_from_other, sector_to_other}
use Rattle.overlay_shapes.proofs.laws.Sectors.{other_end, leads_away, ways_differ}

-- ---- lists

pub Has_at : {X : Type 0} (xs : List X) (i : ℕ) (d : X) → i < length xs → Has xs (get_or xs i d)
Has_at [] i d h = absurd (omega (arith, h))
Has_at (x ∷ xs) zero d h = inl refl
Has_at (x ∷ xs) (suc i) d h = inr (Has_at xs i d (omega (arith, h)))

pub get_at : {X : Type 0} (xs : List X) (i : ℕ) (d : X) → i < length xs → slice_get xs i ≡ Some (get_or xs i d)
get_at [] i d h = absurd (omega (arith, h))
get_at (x ∷ xs) zero d h = refl
get_at (x ∷ xs) (suc i) d h = get_at xs i d (omega (arith, h))

pub got_at : {X : Type 0} (xs : List X) (i : ℕ) (x d : X) → slice_get xs i ≡ Some x → (i < length xs) × (get_or xs i d ≡ x)
got_at [] i x d e = absurd (cc)
got_at (y ∷ xs) zero x d e = (omega arith, cc)
got_at (y ∷ xs) (suc i) x d e = let r = got_at xs i x d e in (omega (arith, r.0), r.1)

-- in strict order of the pairs none occurs twice
pub own_pair : (xs : List WholeSegment) → is_strictly_sorted pair_cmp (pairs xs) ≡ true → (i j : ℕ) (d : WholeSegment) → i < length xs → j < length xs → (get_or xs i d).pair ≡ (get_or xs j d).pair → i ≡ j
own_pair [] o i j d h k e = absurd (omega (arith, h))
own_pair (x ∷ xs) o zero zero d h k e = refl
own_pair (x ∷ xs) o zero (suc j) d h k e = absurd (differ_when_less x.pair (get_or xs j d).pair (list_all-at (λ y. pair_lt x.pair y.pair) xs (get_or xs j d) (sorted_all x xs o) (Has_at xs j d (omega (arith, k)))) e)
own_pair (x ∷ xs) o (suc i) zero d h k e = absurd (differ_when_less x.pair (get_or xs i d).pair (list_all-at (λ y. pair_lt x.pair y.pair) xs (get_or xs i d) (sorted_all x xs o) (Has_at xs i d (omega (arith, h)))) (sym e))
own_pair (x ∷ xs) o (suc i) (suc j) d h k e = ap suc (own_pair xs (sorted_tail x xs o) i j d (omega (arith, h)) (omega (arith, k)) e)

-- ---- links in their directions

or_turned : (a b : Bool) → (a || b) ≡ (b || a)
or_turned true true = refl
or_turned true false = refl
or_turned false true = refl
or_turned false false = refl

module _ (rule : Bool → Bool → Bool) (ls : List Link) where
  -- a link as a segment in its direction
  abbrev pub run : Link → WholeSegment
  run l = record { pair = l.pair; count = of_subject (direction rule l.fill) }

  abbrev pub runs : List WholeSegment
  runs = map run ls

  abbrev pub link : ℕ → Link
  link i = get_or ls i no_link

  abbrev pub arc : ℕ → Link
  arc i = in_direction rule (link i)

  pub arc_at : (i : ℕ) → i < length ls → get_or (arcs rule ls) i no_link ≡ arc i
  arc_at i h = get_or-map (in_direction rule) ls i no_link no_link h

  pub arcs_many : length (arcs rule ls) ≡ length ls
  arcs_many = length-map ls (in_direction rule)

  -- turned around a link leads into the same sectors
  pub leads_alike : (p q s : Point) (l : Link) → leads_into_sector p q s (in_direction rule l).pair ≡ leads_into_sector p q s l.pair
  leads_alike p q s l = by (top_value rule l.fill)
    where
      by : (t : Bool) → leads_into_sector p q s (if t then l else turned l).pair ≡ leads_into_sector p q s l.pair
      by true = refl
      by false = or_turned (point_eq l.pair.b p && lies_in_sector p q s l.pair.a) (point_eq l.pair.a p && lies_in_sector p q s l.pair.b)

  -- of a link with an end at v the other one
  pub record Meets (l : Link) (v far : Point) : Type 0 where
    pub at : (l.pair.a ≡ v) ⊎ (l.pair.b ≡ v)
    pub far_is : other_end l.pair v ≡ far

  meets_start : (l : Link) (v : Point) → l.pair.a ≡ v → Meets l v l.pair.b
  meets_start l v e = record { at = inl e; far_is = rw (ap (λ (z : Point). point_eq z v) e ∙ point_eq_same v) refl }

  meets_end : (l : Link) (v : Point) → Before l.pair.a l.pair.b → l.pair.b ≡ v → Meets l v l.pair.a
  meets_end l v o e = record { at = inr e; far_is = rw (from_not_same l.pair.a v (λ k. Before-irreflexive v (subst (λ (z : Point). Before v z) e (subst (λ (z : Point). Before z l.pair.b) k o)))) refl }

  pub comes_to : (l : Link) (v : Point) → is_ordered l.pair ≡ true → (in_direction rule l).pair.b ≡ v → Meets l v (in_direction rule l).pair.a
  comes_to l v o e = by (top_value rule l.fill) e
    where
      by : (t : Bool) → (if t then l else turned l).pair.b ≡ v → Meets l v (if t then l else turned l).pair.a
      by true e = meets_end l v (point_lt-cases l.pair.a l.pair.b o) e
      by false e = meets_start l v e

  pub goes_from : (l : Link) (v : Point) → is_ordered l.pair ≡ true → (in_direction rule l).pair.a ≡ v → Meets l v (in_direction rule l).pair.b
  goes_from l v o e = by (top_value rule l.fill) e
    where
      by : (t : Bool) → (if t then l else turned l).pair.a ≡ v → Meets l v (if t then l else turned l).pair.b
      by true e = meets_start l v e
      by false e = meets_end l v (point_lt-cases l.pair.a l.pair.b o) e

  pub not_both_ends : (l : Link) (v : Point) → is_ordered l.pair ≡ true → (in_direction rule l).pair.a ≡ v → (in_direction rule l).pair.b ≡ v → ⊥
  not_both_ends l v o = by (top_value rule l.fill)
    where
      by : (t : Bool) → (if t then l else turned l).pair.a ≡ v → (if t then l else turned l).pair.b ≡ v → ⊥
      by true e k = Before-irreflexive v (subst (λ (z : Point). Before v z) k (subst (λ (z : Point). Before z l.pair.b) e (point_lt-cases l.pair.a l.pair.b o)))
      by false e k = Before-irreflexive v (subst (λ (z : Point). Before v z) e (subst (λ (z : Point). Before z l.pair.b) k (point_lt-cases l.pair.a l.pair.b o)))

  -- a link that meets v and does not lead into a sector there
  pub lies_outside : (p q s far : Point) (l : Link) → Meets l p far → leads_into_sector p q s l.pair ≡ false → lies_in_sector p q s far ≡ false
  lies_outside p q s far l m h = ap (lies_in_sector p q s) (sym m.far_is) ∙ by (point_eq l.pair.a p) refl m.at
    where
      second : (l.pair.a ≡ p) ⊎ (l.pair.b ≡ p) → point_eq l.pair.a p ≡ false → point_eq l.pair.b p ≡ true
      second (inl e) n = absurd (both_ways _ n (ap (λ (z : Point). point_eq z p) e ∙ point_eq_same p))
      second (inr e) n = ap (λ (z : Point). point_eq z p) e ∙ point_eq_same p

      parts : ((point_eq l.pair.a p && lies_in_sector p q s l.pair.b) ≡ false) × ((point_eq l.pair.b p && lies_in_sector p q s l.pair.a) ≡ false)
      parts = or_parts (point_eq l.pair.a p && lies_in_sector p q s l.pair.b) (point_eq l.pair.b p && lies_in_sector p q s l.pair.a) h

      by : (t : Bool) → point_eq l.pair.a p ≡ t → (l.pair.a ≡ p) ⊎ (l.pair.b ≡ p) → lies_in_sector p q s (if t then l.pair.b else l.pair.a) ≡ false
      by true e at = rw e at parts.0
      by false e at = rw (second at e) at parts.1

  -- ---- turns by index

  pub record Turns (i j : ℕ) : Type 0 where
    pub i_in : i < length ls
    pub j_in : j < length ls
    pub meets : (arc i).pair.b ≡ (arc j).pair.a
    pub none : (k : ℕ) → k < length ls → leads_into_sector (arc i).pair.b (arc j).pair.b (arc i).pair.a (link k).pair ≡ false

  abbrev OutOfSector : ℕ → ℕ → Link → Type 0
  OutOfSector i j l = leads_into_sector (arc i).pair.b (arc j).pair.b (arc i).pair.a l.pair ≡ false

  pub to_turns : (i j : ℕ) → TurnsInto (arcs rule ls) i j → Turns i j
  to_turns i j t =
      let first = got_at (arcs rule ls) i t.first no_link t.first_is in
      let second = got_at (arcs rule ls) j t.second no_link t.second_is in
      let i_in : i < length ls = subst (λ (n : ℕ). i < n) arcs_many first.0 in
      let j_in : j < length ls = subst (λ (n : ℕ). j < n) arcs_many second.0 in
      let a : t.first ≡ arc i = sym first.1 ∙ arc_at i i_in in
      let b : t.second ≡ arc j = sym second.1 ∙ arc_at j j_in in
      let none : All (λ l. leads_into_sector (arc i).pair.b (arc j).pair.b (arc i).pair.a l.pair ≡ false) (arcs rule ls) =
      subst (λ (u : Link). All (λ l. leads_into_sector u.pair.b (arc j).pair.b u.pair.a l.pair ≡ false) (arcs rule ls)) a
      (subst (λ (u : Link). All (λ l. leads_into_sector t.first.pair.b u.pair.b t.first.pair.a l.pair ≡ false) (arcs rule ls)) b t.none_between) in
      record {
        i_in = i_in;
        j_in = j_in;
        meets = ap (λ (u : Link). u.pair.b) (sym a) ∙ t.meets ∙ ap (λ (u : Link). u.pair.a) b;
        none = λ k h. sym (leads_alike (arc i).pair.b (arc j).pair.b (arc i).pair.a (link k)) ∙ ap (λ (u : Link). leads_into_sector (arc i).pair.b (arc j).pair.b (arc i).pair.a u.pair) (sym (arc_at k h)) ∙ All-get_or (OutOfSector i j) (arcs rule ls) k no_link (subst (λ (n : ℕ). k < n) (sym arcs_many) h) none;
      }

  pub from_turns : (i j : ℕ) → Turns i j → TurnsInto (arcs rule ls) i j
  from_turns i j t = record {
    first = arc i;
    second = arc j;
    first_is = get_at (arcs rule ls) i no_link (subst (λ (n : ℕ). i < n) (sym arcs_many) t.i_in) ∙ ap (λ (u : Link). Some u) (arc_at i t.i_in);
    second_is = get_at (arcs rule ls) j no_link (subst (λ (n : ℕ). j < n) (sym arcs_many) t.j_in) ∙ ap (λ (u : Link). Some u) (arc_at j t.j_in);
    meets = t.meets;
    none_between = All-from_get_or (OutOfSector i j) (arcs rule ls) no_link (λ k h. let low : k < length ls = subst (λ (n : ℕ). k < n) arcs_many h in ap (λ (u : Link). leads_into_sector (arc i).pair.b (arc j).pair.b (arc i).pair.a u.pair) (arc_at k low) ∙ leads_alike (arc i).pair.b (arc j).pair.b (arc i).pair.a (link k) ∙ t.none k low);
  }

  -- ---- in an arrangement

  module _ (arranged : IsArranged runs) where
    pub run_in : (i : ℕ) → i < length ls → Has runs (run (link i))
    run_in i h = Has-map run ls (link i) (Has_at ls i no_link h)

    pub ordered_at : (i : ℕ) → i < length ls → is_ordered (link i).pair ≡ true
    ordered_at i h = arranged.ordered (run (link i)) (run_in i h)

    pub own_link : (i j : ℕ) → i < length ls → j < length ls → (link i).pair ≡ (link j).pair → i ≡ j
    own_link i j h k e =
        let at = λ (n : ℕ) (m : n < length ls). get_or-map run ls n no_link (run no_link) m in
        own_pair runs arranged.sorted i j (run no_link) (subst (λ (n : ℕ). i < n) (sym (length-map ls run)) h) (subst (λ (n : ℕ). j < n) (sym (length-map ls run)) k)
        (ap (λ (s : WholeSegment). s.pair) (at i h) ∙ e ∙ ap (λ (s : WholeSegment). s.pair) (sym (at j k)))

    pub apart_at : (i j : ℕ) → i < length ls → j < length ls → (i ≡ j → ⊥) → (v q s : Point) → Meets (link i) v q → Meets (link j) v s → runs_along v q s ≡ false
    apart_at i j h k other v q s mi mj =
        ap (λ (z : Point). runs_along v z s) (sym mi.far_is) ∙ ap (runs_along v (other_end (link i).pair v)) (sym mj.far_is)
        ∙ ways_differ runs arranged v (run (link i)) (run_in i h) mi.at (run (link j)) (run_in j k) mj.at (λ e. other (own_link i j h k e))

    pub away_at : (i : ℕ) → i < length ls → (v q : Point) → Meets (link i) v q → v ≡ q → ⊥
    away_at i h v q m e = leads_away runs arranged v (run (link i)) (run_in i h) m.at (e ∙ sym m.far_is)

    by_equal : {P : Type 0} (i j : ℕ) → (i ≡ j → P) → ((i ≡ j → ⊥) → P) → P
    by_equal i j f g = elim (cases_Bool (i == j)) [
      | inl e ↦ f (eqb-true i j e)
      | inr e ↦ g (λ k. both_ways _ e (eq-eqb i j k))
    ]

    -- ---- one leads on, and on from one

    module _ (i j k : ℕ) (v : Point) (ti : Turns i j) (to : (arc i).pair.b ≡ v) where
      comes : Meets (link i) v (arc i).pair.a
      comes = comes_to (link i) v (ordered_at i ti.i_in) to

      goes : Meets (link j) v (arc j).pair.b
      goes = goes_from (link j) v (ordered_at j ti.j_in) (sym ti.meets ∙ to)

      -- no link at the node leads into the sector between them
      outside : (far : Point) → k < length ls → Meets (link k) v far → lies_in_sector v (arc j).pair.b (arc i).pair.a far ≡ false
      outside far h m = lies_outside v (arc j).pair.b (arc i).pair.a far (link k) m (ap (λ (z : Point). leads_into_sector z (arc j).pair.b (arc i).pair.a (link k).pair) (sym to) ∙ ti.none k h)

      other_ways : i ≡ j → ⊥
      other_ways e = not_both_ends (link j) v (ordered_at j ti.j_in) (sym ti.meets ∙ to) (ap (λ (n : ℕ). (arc n).pair.b) (sym e) ∙ to)

    no_two : (a b : Bool) → a ≡ false → b ≡ false → a ≡ not b → ⊥
    no_two a b ea eb e = false≢true (sym ea ∙ e ∙ ap not eb)

    pub turns_only : (i j k : ℕ) → Turns i j → Turns i k → j ≡ k
    turns_only i j k tj tk = by_equal j k (λ e. e) (λ other. absurd (
        let v = (arc i).pair.b in
        let a = comes i j k v tj refl in
        let b = goes i j k v tj refl in
        let c = goes i k j v tk refl in
        no_two _ _ (outside i j k v tj refl (arc k).pair.b tk.j_in c) (outside i k j v tk refl (arc j).pair.b tj.j_in b)
        (sector_from_other v (arc j).pair.b (arc i).pair.a (arc k).pair.b (away_at j tj.j_in v _ b) (away_at i tj.i_in v _ a) (away_at k tk.j_in v _ c)
        (apart_at j i tj.j_in tj.i_in (λ e. other_ways i j k v tj refl (sym e)) v _ _ b a)
        (apart_at j k tj.j_in tk.j_in other v _ _ b c)
        (apart_at k i tk.j_in tk.i_in (λ e. other_ways i k j v tk refl (sym e)) v _ _ c a))))

    pub turns_apart : (i j k : ℕ) → Turns i k → Turns j k → i ≡ j
    turns_apart i j k ti tj = by_equal i j (λ e. e) (λ other. absurd (
        let v = (arc i).pair.b in
        let at : (arc j).pair.b ≡ v = tj.meets ∙ sym ti.meets in
        let a = comes i k j v ti refl in
        let b = comes j k i v tj at in
        let c = goes i k j v ti refl in
        no_two _ _ (outside i k j v ti refl (arc j).pair.a tj.i_in b) (outside j k i v tj at (arc i).pair.a ti.i_in a)
        (sector_to_other v (arc k).pair.b (arc i).pair.a (arc j).pair.a (away_at k ti.j_in v _ c) (away_at i ti.i_in v _ a) (away_at j tj.i_in v _ b)
        (apart_at k i ti.j_in ti.i_in (λ e. other_ways i k j v ti refl (sym e)) v _ _ c a)
        (apart_at k j ti.j_in tj.i_in (λ e. other_ways j k i v tj at (sym e)) v _ _ c b)
        (apart_at j i tj.i_in ti.i_in (λ e. other (sym e)) v _ _ b a))))

    -- ---- all together

    -- where the number of a node is known by its point
    module _ (number : Point → ℕ) (numbered : (i : ℕ) → i < length ls → ((arc i).a_node ≡ number (arc i).pair.a) × ((arc i).b_node ≡ number (arc i).pair.b))
        (next : List ℕ) (each : length next ≡ length ls) (turns : (i : ℕ) → i < length ls → TurnsInto (arcs rule ls) i (get_or next i 0)) where
      turns_at : (i : ℕ) → i < length ls → Turns i (get_or next i 0)
      turns_at i h = to_turns i (get_or next i 0) (turns i h)

      within : (i : ℕ) → i < length (arcs rule ls) → i < length ls
      within i h = subst (λ (n : ℕ). i < n) arcs_many h

      meet : (i : ℕ) → i < length (arcs rule ls) → (get_or (arcs rule ls) i no_link).b_node ≡ (get_or (arcs rule ls) (get_or next i 0) no_link).a_node
      meet i h =
          let t = turns_at i (within i h) in
          ap (λ (u : Link). u.b_node) (arc_at i t.i_in) ∙ (numbered i t.i_in).1 ∙ ap number t.meets ∙ sym (numbered (get_or next i 0) t.j_in).0 ∙ ap (λ (u : Link). u.a_node) (sym (arc_at (get_or next i 0) t.j_in))

      pub lead_on : LeadOn (arcs rule ls) next
      lead_on = record {
        each = each ∙ sym arcs_many;
        within = All-from_get_or (λ (n : ℕ). n < length (arcs rule ls)) next 0 (λ i h. let t = turns_at i (subst (λ (n : ℕ). i < n) each h) in subst (λ (n : ℕ). get_or next i 0 < n) (sym arcs_many) t.j_in);
        meets = meet;
        turns = λ i h. turns i (within i h);
        only = λ i j t. let s = to_turns i j t in turns_only i (get_or next i 0) j (turns_at i s.i_in) s;
        apart = λ i j h k e. turns_apart i j (get_or next j 0) (subst (λ (n : ℕ). Turns i n) e (turns_at i (within i h))) (turns_at j (within j k));
      }
