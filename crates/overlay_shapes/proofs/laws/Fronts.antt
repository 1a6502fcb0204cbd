-- The first links of classes, link by link.
use Rattle.std.proofs.Common.{◌≡◌, ℕ, zero, suc, ◌+◌, ◌<◌, ◌≤◌, inl, inr, Bool, true, false, List, [], ◌∷◌, map, length, get_or, set, refl, sym, ap, subst, ◌∙◌, arith, get_or-set_same, get_or-set_other}
use Rattle.std.specs.Prelude.{ℤ, All}
use Rattle.std.proofs.lemmas.Bool.{cases_Bool, cases_lt, both_ways}
use Rattle.std.proofs.lemmas.List.{length-set}
use Rattle.std.proofs.lemmas.Simd.{map-map}
use Rattle.overlay_geometry.specs.Points.{Pair, is_ordered}
use Rattle.overlay_geometry.proofs.laws.lists.Lists.{Has, Has-map}
use Rattle.overlay_base.specs.Planar.{is_arranged}
use Rattle.overlay_base.specs.Segments.{WholeSegment}
use Rattle.overlay_base.specs.declared.overlay_core.link.OverlayLink.{OverlayLink}
use Rattle.overlay_base.specs.declared.segm.shape_type.ShapeType.TheVariants.{Subject}
use Rattle.overlay_build.specs.Boundary.{of_subject, direction, directed_links}
use Rattle.overlay_build.specs.DirectedWalks.{no_link}
use Rattle.overlay_build.specs.Graph.{Graph, Link}
use Rattle.overlay_build.specs.GraphOf.{link_of}
use Rattle.overlay_build.specs.ShapedBoundary.{in_shape}
use Rattle.overlay_sweep.proofs.laws.live.Supports.{earlier-trans, earlier_itself}
use Rattle.overlay_sweep.proofs.laws.visits.Arrangements.{usable_at, whole_arranged}
use Rattle.overlay_shapes.specs.ShapeWalks.{comes_before}
use Rattle.overlay_shapes.specs.steps.Fronts.{AreFronts, IsLinkInOrder}
use Rattle.overlay_shapes.specs.steps.Gathering.{AreLeading}
use Rattle.overlay_shapes.proofs.laws.Forests.{by_eq}
use Rattle.overlay_shapes.proofs.laws.ShapeWalks.{links_as_subject}

-- ---- links of an arrangement

abbrev segment_of : (Bool → Bool → Bool) → Link → WholeSegment
segment_of rule l = record { pair = l.pair; count = of_subject (direction rule l.fill) }

directed_are : (rule : Bool → Bool → Bool) (graph : Graph) → directed_links rule graph ≡ map (segment_of rule) graph.links
unfolding directed_links
directed_are rule graph = refl

Has_at : {X : Type 0} (xs : List X) (k : ℕ) (d : X) → k < length xs → Has xs (get_or xs k d)
Has_at [] k d h = absurd (omega (arith, h))
Has_at (x ∷ xs) zero d h = inl refl
Has_at (x ∷ xs) (suc k) d h = inr (Has_at xs k d (omega (arith, h)))

-- the links of an arrangement are in range and in order
pub links_in_order : {I D : Type 0} (whole : I → ℤ) (least greatest : I) (rule : Bool → Bool → Bool) (links : List (OverlayLink I D)) (graph : Graph) → map (link_of whole) links ≡ graph.links →
    is_arranged (whole least) (whole greatest) (in_shape Subject (directed_links rule graph)) ≡ true → All (IsLinkInOrder whole least greatest) links
links_in_order {I} {D} whole least greatest rule links graph same h k d low =
    let f : OverlayLink I D → WholeSegment = (λ l. segment_of rule (link_of whole l)) in
    let are : in_shape Subject (directed_links rule graph) ≡ map f links = links_as_subject rule graph ∙ directed_are rule graph ∙ sym (ap (map (segment_of rule)) same) ∙ map-map (segment_of rule) (link_of whole) links in
    let arranged : is_arranged (whole least) (whole greatest) (map f links) ≡ true = subst (λ ss. is_arranged (whole least) (whole greatest) ss ≡ true) are h in
    let usable = usable_at f links (whole least) (whole greatest) arranged k d low in
    let all = whole_arranged (whole least) (whole greatest) (map f links) (map f links) refl arranged in
    record {
      a_in_range = usable.a;
      b_in_range = usable.b;
      ordered = all.ordered (f (get_or links k d)) (Has-map f links (get_or links k d) (Has_at links k d low));
    }

-- ---- link by link

module _ (links : List Link) (leaders : List ℕ) where
  abbrev pub pair_at : ℕ → Pair
  pair_at i = (get_or links i no_link).pair

  -- of the links below an index none comes before the front of its class
  pub record HaveFronts (n : ℕ) (fronts : List ℕ) : Type 0 where
    pub fronts_are : AreFronts leaders fronts
    pub none_before : (i : ℕ) → i < n → comes_before (pair_at i) (pair_at (get_or fronts (get_or leaders i 0) 0)) ≡ false

  pub own_fronts : (fronts : List ℕ) → length fronts ≡ length leaders → ((i : ℕ) → i < length leaders → get_or fronts i 0 ≡ i) → HaveFronts 0 fronts
  own_fronts fronts many own = record {
    fronts_are = record {
      each = many;
      within = λ i h e. subst (λ j. j < length leaders) (sym (own i h)) h;
      own = λ i h e. ap (λ j. get_or leaders j 0) (own i h) ∙ e;
    };
    none_before = λ i h. absurd (omega (arith, h));
  }

  pub all_fronts : (n : ℕ) (fronts : List ℕ) → HaveFronts n fronts → length leaders ≤ n → (i : ℕ) → i < length leaders → comes_before (pair_at i) (pair_at (get_or fronts (get_or leaders i 0) 0)) ≡ false
  all_fronts n fronts s done i h = s.none_before i (omega (arith, h, done))

  module _ (lead : AreLeading leaders) (n : ℕ) (fronts : List ℕ) (s : HaveFronts n fronts) (inside : n < length leaders) where
    abbrev leader : ℕ
    leader = get_or leaders n 0

    pub front_stays : comes_before (pair_at n) (pair_at (get_or fronts (get_or leaders n 0) 0)) ≡ false → HaveFronts (n + 1) fronts
    front_stays none = record {
      fronts_are = s.fronts_are;
      none_before = λ i h. elim (cases_lt i n) [
        | inl l ↦ s.none_before i l
        | inr l ↦ (let e : i ≡ n = omega (arith, h, l) in subst (λ j. comes_before (pair_at j) (pair_at (get_or fronts (get_or leaders j 0) 0)) ≡ false) (sym e) none)
      ];
    }

    pub leader_low : get_or leaders n 0 < length leaders
    leader_low = let l = lead.least n inside in omega (arith, l, inside)

    pub front_low : get_or fronts (get_or leaders n 0) 0 < length leaders
    front_low = s.fronts_are.within leader leader_low (lead.led n inside)

    module _ (ordered : (i : ℕ) → i < length leaders → is_ordered (pair_at i) ≡ true) where
      pub front_moves : comes_before (pair_at n) (pair_at (get_or fronts (get_or leaders n 0) 0)) ≡ true → HaveFronts (n + 1) (set fronts (get_or leaders n 0) n)
      front_moves first = record {
        fronts_are = record {
          each = length-set fronts leader n ∙ s.fronts_are.each;
          within = λ i h e. by_eq i leader
              (λ f. subst (λ j. j < length leaders) (sym (moved i f)) inside)
              (λ f. subst (λ j. j < length leaders) (sym (kept i f)) (s.fronts_are.within i h e));
          own = λ i h e. by_eq i leader
              (λ f. ap (λ j. get_or leaders j 0) (moved i f) ∙ sym f)
              (λ f. ap (λ j. get_or leaders j 0) (kept i f) ∙ s.fronts_are.own i h e);
        };
        none_before = λ i h. by_eq (get_or leaders i 0) leader
            (λ f. subst (λ j. comes_before (pair_at i) (pair_at j) ≡ false) (sym (moved (get_or leaders i 0) f)) (elim (cases_lt i n) [
              | inl l ↦ elim (cases_Bool (comes_before (pair_at i) (pair_at n))) [
                | inr e ↦ e
                | inl e ↦ absurd (both_ways _ (subst (λ j. comes_before (pair_at i) (pair_at (get_or fronts j 0)) ≡ false) f (s.none_before i l))
                    (earlier-trans (pair_at i) (pair_at n) (pair_at (get_or fronts leader 0)) (ordered i (omega (arith, l, inside))) (ordered n inside) (ordered (get_or fronts leader 0) front_low) e first))
              ]
              | inr l ↦ (let e : i ≡ n = omega (arith, h, l) in ap (λ j. comes_before (pair_at j) (pair_at n)) e ∙ earlier_itself (pair_at n))
            ]))
            (λ f. subst (λ j. comes_before (pair_at i) (pair_at j) ≡ false) (sym (kept (get_or leaders i 0) f)) (elim (cases_lt i n) [
              | inl l ↦ s.none_before i l
              | inr l ↦ absurd (f (let e : i ≡ n = omega (arith, h, l) in ap (λ j. get_or leaders j 0) e))
            ]));
      }
        where
          moved : (i : ℕ) → i ≡ leader → get_or (set fronts leader n) i 0 ≡ n
          moved i f = ap (λ j. get_or (set fronts leader n) j 0) f ∙ get_or-set_same fronts leader n 0 (let l = leader_low in omega (arith, l, s.fronts_are.each))

          kept : (i : ℕ) → (i ≡ leader → ⊥) → get_or (set fronts leader n) i 0 ≡ get_or fronts i 0
          kept i f = get_or-set_other fronts leader i n 0 f
