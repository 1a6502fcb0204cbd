-- The links of a rule's graph, each with the region on its left, bound the region: they are balanced, and wind once around it.
use Rattle.std.proofs.Common.{◌≡◌, refl, sym, ap, ap₂, subst, ◌∙◌, arith}
use Rattle.std.specs.Prelude.{ℕ, ◌<◌, ◌==◌, ℤ, pos, negsuc, ◌+ℤ◌, ◌-ℤ◌, IsTrue, Bool, true, false, if◌then◌else◌, List, [], ◌∷◌, filter, map}
use Rattle.std.specs.List.{list_all}
use Rattle.std.proofs.lemmas.Int.{ints}
use Rattle.std.proofs.lemmas.Bool.{and_parts, eqb-true}
use Rattle.std.proofs.lemmas.List.Elements.{All-weaker}
use Rattle.std.proofs.lemmas.Simd.{map-map}
use Rattle.overlay_geometry.specs.Points.{Point, point_eq}
use Rattle.overlay_base.specs.Windings.{Winding, empty}
use Rattle.overlay_base.specs.Segments.{WholeSegment, is_map, are_polygons}
use Rattle.overlay_base.specs.Places.{RationalPoint, lies_below, winding_below}
use Rattle.overlay_base.specs.Planar.{is_planar}
use Rattle.overlay_base.specs.Balance.{balance, IsBalanced}
use Rattle.overlay_base.specs.Rules.{differ, top_value, keeps_fill}
use Rattle.overlay_base.specs.declared.overlay_core.fill_rule.FillRule.{FillRule}
use Rattle.overlay_sweep.specs.Fill.{is_inside, fill_byte}
use Rattle.overlay_sweep.specs.ColumnWindings.{IsSameAlong, side_bottom, side_top}
use Rattle.overlay_sweep.proofs.laws.columns.WeightSums.{when, sum_of, sum_of-filter, sum_of-same, sum_of-sub}
use Rattle.overlay_sweep.proofs.laws.columns.BalancedSums.{flow, balance_is}
use Rattle.overlay_sweep.proofs.laws.columns.ColumnLines.{filter_weights_are}
use Rattle.overlay_sweep.proofs.laws.columns.Members.{is_arranged}
use Rattle.overlay_sweep.proofs.laws.live.Sides.{sum_of-zero_in}
use Rattle.overlay_sweep.proofs.laws.columns.Tops.{chains_are_columns}
use Rattle.overlay_sweep.proofs.laws.visits.FillBytes.{inside_none}
use Rattle.overlay_build.specs.Graph.{Filled, Link, graph_of, graph_by}
use Rattle.overlay_build.specs.Values.{value_at, tells_apart}
use Rattle.overlay_build.specs.Sides.{has_sides_apart, with_sides, overlay_graph, IsBalancedOverlay}
use Rattle.overlay_build.specs.Boundary.{of_subject, direction, directed_links, truth, directed_count, boundary, times_round, BoundsRegion}
use Rattle.overlay_build.specs.Laws.{GraphsBoundRegions}
use Rattle.overlay_build.proofs.laws.graphs.GraphExact.{HasColumns, graphs_are_exact, nodes_are_even}
use Rattle.overlay_build.proofs.laws.sides.Vertices.{gain, gain_of}
use Rattle.overlay_build.proofs.laws.sides.EvenNodes.{gain_at_point}
use Rattle.overlay_build.proofs.laws.sides.FillSides.{bit_of_sides-0, bit_of_sides-2}
use Rattle.overlay_build.proofs.laws.regions.PlaceColumns.{column_of}
use Rattle.overlay_build.proofs.laws.regions.Regions.{sum_below, graphs_enclose_regions}

-- ---- sums over the boundary

pub sum_of-map : {X Y : Type 0} (f : X → Y) (g : Y → ℤ) (xs : List X) → sum_of g (map f xs) ≡ sum_of (λ x. g (f x)) xs
sum_of-map f g [] = refl
sum_of-map f g (x ∷ xs) = ap (λ (z : ℤ). g (f x) +ℤ z) (sum_of-map f g xs)

pub when_zero : (b : Bool) → when b (pos 0) ≡ pos 0
when_zero true = refl
when_zero false = refl

-- a number that is 0 where a test fails is the same where the test comes first
asked_first : (t b : Bool) (z : ℤ) → (t ≡ false → z ≡ pos 0) → when t (when b z) ≡ when b z
asked_first true b z h = refl
asked_first false true z h = sym (h refl)
asked_first false false z h = refl

asked_of_both : (t a b : Bool) (z : ℤ) → (t ≡ false → z ≡ pos 0) → when t (when a z -ℤ when b z) ≡ when a z -ℤ when b z
asked_of_both true a b z h = refl
asked_of_both false a b z h = sym (rw (h refl) (ap₂ (λ (x y : ℤ). x -ℤ y) (when_zero a) (when_zero b)))

module _ (rule : Bool → Bool → Bool) (fill_rule : FillRule) (segments : List WholeSegment) where
  -- what the rule says of two windings
  abbrev says : ℤ → ℤ → ℤ
  says b c = truth (rule (is_inside fill_rule b) (is_inside fill_rule c))

  abbrev apart : WholeSegment → Bool
  apart s = tells_apart rule fill_rule (side_bottom segments s) (side_top segments s)

  abbrev directed : WholeSegment → WholeSegment
  directed s = record { pair = s.pair; count = of_subject (gain_of says segments s) }

  -- from nothing to a place it gains what the boundary has to wind around it
  says_of : (w : Winding) → gain says empty w ≡ times_round rule fill_rule w
  unfolding times_round value_at
  says_of w = ap (λ (b : Bool). truth (rule (is_inside fill_rule w.subj) (is_inside fill_rule w.clip)) -ℤ truth (rule b b)) (inside_none fill_rule)

  boundary_is : boundary rule fill_rule segments ≡ map directed (filter apart segments)
  unfolding boundary directed_count value_at
  boundary_is = refl

  no_gain : (s : WholeSegment) → apart s ≡ false → gain_of says segments s ≡ pos 0
  unfolding tells_apart value_at
  no_gain s e = by (rule (is_inside fill_rule (side_bottom segments s).subj) (is_inside fill_rule (side_bottom segments s).clip)) (rule (is_inside fill_rule (side_top segments s).subj) (is_inside fill_rule (side_top segments s).clip)) e
    where
      by : (b t : Bool) → differ b t ≡ false → truth t -ℤ truth b ≡ pos 0
      by true true e = refl
      by true false e = absurd (cc)
      by false true e = absurd (cc)
      by false false e = refl

  flow_of_boundary : (p : Point) → flow (λ s. s.count.subj) (λ q. point_eq q p) (map directed (filter apart segments)) ≡ sum_of (λ s. when (point_eq s.pair.a p) (gain_of says segments s)) segments -ℤ sum_of (λ s. when (point_eq s.pair.b p) (gain_of says segments s)) segments
  flow_of_boundary p =
      sum_of-map directed (λ s. when (point_eq s.pair.a p) s.count.subj -ℤ when (point_eq s.pair.b p) s.count.subj) (filter apart segments)
      ∙ sum_of-filter apart (λ s. when (point_eq s.pair.a p) (gain_of says segments s) -ℤ when (point_eq s.pair.b p) (gain_of says segments s)) segments
      ∙ sum_of-same (λ s. when (apart s) (when (point_eq s.pair.a p) (gain_of says segments s) -ℤ when (point_eq s.pair.b p) (gain_of says segments s))) (λ s. when (point_eq s.pair.a p) (gain_of says segments s) -ℤ when (point_eq s.pair.b p) (gain_of says segments s)) segments (λ s. asked_of_both (apart s) (point_eq s.pair.a p) (point_eq s.pair.b p) (gain_of says segments s) (no_gain s))
      ∙ sum_of-sub _ (λ s. when (point_eq s.pair.a p) (gain_of says segments s)) (λ s. when (point_eq s.pair.b p) (gain_of says segments s)) segments (λ s. refl)

  no_clip_flows : (p : Point) → flow (λ s. s.count.clip) (λ q. point_eq q p) (map directed (filter apart segments)) ≡ pos 0
  no_clip_flows p =
      sum_of-map directed (λ s. when (point_eq s.pair.a p) s.count.clip -ℤ when (point_eq s.pair.b p) s.count.clip) (filter apart segments)
      ∙ sum_of-zero_in (λ s. when (point_eq s.pair.a p) (pos 0) -ℤ when (point_eq s.pair.b p) (pos 0)) (filter apart segments) (λ s m. ap₂ (λ (x y : ℤ). x -ℤ y) (when_zero (point_eq s.pair.a p)) (when_zero (point_eq s.pair.b p)))

  no_clip_below : (p : RationalPoint) → sum_of (λ s. when (lies_below s.pair p) s.count.clip) (map directed (filter apart segments)) ≡ pos 0
  no_clip_below p =
      sum_of-map directed (λ s. when (lies_below s.pair p) s.count.clip) (filter apart segments)
      ∙ sum_of-zero_in (λ s. when (lies_below s.pair p) (pos 0)) (filter apart segments) (λ s m. when_zero (lies_below s.pair p))

  sum_of_boundary : (p : RationalPoint) → sum_of (λ s. when (lies_below s.pair p) s.count.subj) (map directed (filter apart segments)) ≡ sum_of (λ s. when (lies_below s.pair p) (gain_of says segments s)) segments
  sum_of_boundary p =
      sum_of-map directed (λ s. when (lies_below s.pair p) s.count.subj) (filter apart segments)
      ∙ sum_of-filter apart (λ s. when (lies_below s.pair p) (gain_of says segments s)) segments
      ∙ sum_of-same (λ s. when (apart s) (when (lies_below s.pair p) (gain_of says segments s))) (λ s. when (lies_below s.pair p) (gain_of says segments s)) segments (λ s. asked_first (apart s) (lies_below s.pair p) (gain_of says segments s) (no_gain s))

  -- ---- the boundary is balanced, and winds around the region

  module _ (mapped : IsTrue (is_map segments)) (planar : IsTrue (is_planar segments)) (balanced : IsBalanced segments) where
    pub boundary_is_balanced : IsBalanced (boundary rule fill_rule segments)
    boundary_is_balanced p =
        ap (λ (xs : List WholeSegment). balance xs p) boundary_is
        ∙ balance_is (map directed (filter apart segments)) p
        ∙ (λ i. record { subj = level i; clip = no_clip_flows p i; mask = 0 })
      where
        level : flow (λ s. s.count.subj) (λ q. point_eq q p) (map directed (filter apart segments)) ≡ pos 0
        level = flow_of_boundary p ∙ apart_by _ _ (gain_at_point segments (is_arranged segments mapped planar) balanced p says)
          where
            apart_by : (x y : ℤ) → x ≡ y → x -ℤ y ≡ pos 0
            apart_by x y e = omega (arith, ints, e)

    pub boundary_winds : (p : RationalPoint) → 0 < p.bottom → winding_below (boundary rule fill_rule segments) p ≡ of_subject (times_round rule fill_rule (winding_below segments p))
    unfolding winding_below
    boundary_winds p some =
        ap (λ (xs : List WholeSegment). winding_below xs p) boundary_is
        ∙ filter_weights_are (λ s. lies_below s p) (map directed (filter apart segments))
        ∙ (λ i. record { subj = turns i; clip = no_clip_below p i; mask = 0 })
      where
        turns : sum_of (λ s. when (lies_below s.pair p) s.count.subj) (map directed (filter apart segments)) ≡ times_round rule fill_rule (winding_below segments p)
        turns =
            let column = column_of p.x p.bottom some in
            sum_of_boundary p
            ∙ sum_below segments (is_arranged segments mapped planar) balanced p column.0 column.1 says
            ∙ says_of (winding_below segments p)

-- ---- the links of the graph, with their directions

pub links_directed : (rule : Bool → Bool → Bool) (kept : List Filled) → directed_links rule (graph_of kept) ≡ map (λ f. record { pair = f.pair; count = of_subject (direction rule f.fill) }) kept
unfolding directed_links graph_of
links_directed rule kept = map-map (λ (l : Link). record { pair = l.pair; count = of_subject (direction rule l.fill) }) _ kept

-- a fill without a mask says of the top what the windings there say
top_of_sides : (rule : Bool → Bool → Bool) (fill_rule : FillRule) (b t : Winding) → top_value rule (fill_byte fill_rule b t 0) ≡ value_at rule fill_rule t
unfolding top_value value_at fill_byte
top_of_sides rule fill_rule b t =
    let st : Bool = is_inside fill_rule t.subj in
    let sb : Bool = is_inside fill_rule b.subj in
    let ct : Bool = is_inside fill_rule t.clip in
    let cb : Bool = is_inside fill_rule b.clip in
    ap₂ rule (bit_of_sides-0 st sb ct cb) (bit_of_sides-2 st sb ct cb)

direction_of_sides : (rule : Bool → Bool → Bool) (fill_rule : FillRule) (b t : Winding) (mask : ℕ) → mask ≡ 0 → tells_apart rule fill_rule b t ≡ true → direction rule (fill_byte fill_rule b t mask) ≡ truth (value_at rule fill_rule t) -ℤ truth (value_at rule fill_rule b)
unfolding direction tells_apart
direction_of_sides rule fill_rule b t mask m e =
    ap (λ (n : ℕ). if top_value rule (fill_byte fill_rule b t n) then pos 1 else negsuc 0) m
    ∙ ap (λ (v : Bool). if v then pos 1 else negsuc 0) (top_of_sides rule fill_rule b t)
    ∙ by (value_at rule fill_rule b) (value_at rule fill_rule t) e
  where
    by : (b t : Bool) → differ b t ≡ true → (if t then pos 1 else negsuc 0) ≡ truth t -ℤ truth b
    by true true e = absurd (cc)
    by true false e = refl
    by false true e = refl
    by false false e = absurd (cc)

module _ (rule : Bool → Bool → Bool) (fill_rule : FillRule) (segments : List WholeSegment) where
  abbrev link_run : Filled → WholeSegment
  link_run f = record { pair = f.pair; count = of_subject (direction rule f.fill) }

  abbrev side_run : WholeSegment → WholeSegment
  side_run s = record { pair = s.pair; count = of_subject (directed_count rule fill_rule segments s) }

  same_run : (s : WholeSegment) → s.count.mask ≡ 0 → apart rule fill_rule segments s ≡ true → link_run (with_sides fill_rule segments s) ≡ side_run s
  unfolding with_sides directed_count
  same_run s m e = ap (λ (n : ℤ). record { pair = s.pair; count = of_subject n }) (direction_of_sides rule fill_rule (side_bottom segments s) (side_top segments s) s.count.mask m e)

  runs_alike : (xs : List WholeSegment) → list_all (λ s. s.count.mask == 0) xs ≡ true → map link_run (map (λ s. with_sides fill_rule segments s) (filter (apart rule fill_rule segments) xs)) ≡ map side_run (filter (apart rule fill_rule segments) xs)
  runs_alike [] m = refl
  runs_alike (s ∷ xs) m =
      let parts = and_parts (s.count.mask == 0) (list_all (λ s. s.count.mask == 0) xs) m in
      by (apart rule fill_rule segments s) refl (runs_alike xs parts.1)
    where
      by : (b : Bool) → apart rule fill_rule segments s ≡ b → map link_run (map (λ s. with_sides fill_rule segments s) (filter (apart rule fill_rule segments) xs)) ≡ map side_run (filter (apart rule fill_rule segments) xs)
          → map link_run (map (λ s. with_sides fill_rule segments s) (filter (apart rule fill_rule segments) (s ∷ xs))) ≡ map side_run (filter (apart rule fill_rule segments) (s ∷ xs))
      by true e ih = rw e (λ i. same_run s (eqb-true s.count.mask 0 (and_parts (s.count.mask == 0) (list_all (λ s. s.count.mask == 0) xs) m).0) e i ∷ ih i)
      by false e ih = rw e ih

  links_are_boundary : IsTrue (are_polygons segments) → directed_links rule (overlay_graph rule fill_rule segments) ≡ boundary rule fill_rule segments
  unfolding overlay_graph has_sides_apart boundary
  links_are_boundary polygons = links_directed rule (map (λ s. with_sides fill_rule segments s) (filter (apart rule fill_rule segments) segments)) ∙ runs_alike segments polygons

-- the graph of the segments whose sides a rule separates
pub overlay_bounds : (rule : Bool → Bool → Bool) (fill_rule : FillRule) (segments : List WholeSegment) → IsTrue (is_map segments) → IsTrue (are_polygons segments) → IsTrue (is_planar segments) → IsBalanced segments → BoundsRegion rule fill_rule segments (overlay_graph rule fill_rule segments)
overlay_bounds rule fill_rule segments mapped polygons planar balanced =
    let same = links_are_boundary rule fill_rule segments polygons in
    record {
      sides = same;
      closed = subst IsBalanced (sym same) (boundary_is_balanced rule fill_rule segments mapped planar balanced);
      winds = λ p some. ap (λ (xs : List WholeSegment). winding_below xs p) same ∙ boundary_winds rule fill_rule segments mapped planar balanced p some;
    }

-- a rule's graph
pub graphs_bound_regions : GraphsBoundRegions
graphs_bound_regions fill_rule rule segments mapped polygons planar balanced =
    subst (BoundsRegion rule fill_rule segments) (sym (graphs_are_exact fill_rule rule segments mapped polygons planar balanced))
    (overlay_bounds rule fill_rule segments mapped polygons planar balanced)

-- with it a rule's graph is a balanced overlay
pub is_balanced_overlay : (rule : Bool → Bool → Bool) (fill_rule : FillRule) (segments : List WholeSegment)
    → IsTrue (is_map segments) → IsTrue (are_polygons segments) → IsTrue (is_planar segments) → IsBalanced segments → IsBalancedOverlay rule fill_rule segments (graph_by (keeps_fill rule) fill_rule segments)
is_balanced_overlay rule fill_rule segments mapped polygons planar balanced = record {
  windings = All-weaker (HasColumns segments) (IsSameAlong segments) (λ s h. h.0) segments (chains_are_columns segments mapped planar balanced);
  exactly = graphs_are_exact fill_rule rule segments mapped polygons planar balanced;
  even = nodes_are_even fill_rule rule segments mapped polygons planar balanced;
  region = graphs_enclose_regions fill_rule rule segments mapped polygons planar balanced;
  boundary = graphs_bound_regions fill_rule rule segments mapped polygons planar balanced;
}
