-- The boundary of a rule's region as segments of one shape: a planar arrangement in range, balanced, that winds around the region.
use Rattle.std.proofs.Common.{◌≡◌, refl, sym, ap, ap₂, subst, ◌∙◌}
use Rattle.std.specs.Prelude.{ℕ, ℤ, pos, negsuc, ◌-ℤ◌, IsTrue, Bool, true, false, ◌&&◌, if◌then◌else◌, List, [], ◌∷◌, filter, map}
use Rattle.std.specs.List.{list_all}
use Rattle.std.specs.List.Sorted.{IsStrictlySortedBy}
use Rattle.std.proofs.lemmas.Bool.{and_parts, and_from}
use Rattle.std.proofs.lemmas.List.Folds.{list_all-map}
use Rattle.std.proofs.lemmas.Simd.{map-map}
use Rattle.overlay_geometry.specs.Points.{Point, Pair, point_eq, point_lt, pair_cmp, is_ordered}
use Rattle.overlay_geometry.specs.Coordinates.{is_pair_in_range}
use Rattle.overlay_geometry.specs.Meeting.{are_apart}
use Rattle.overlay_geometry.proofs.laws.geometry.Points.{pair_cmp_total}
use Rattle.overlay_geometry.proofs.laws.lists.Lists.{filter-map, list_all-and, list_all-and_parts, list_all-filter, list_all-implied}
use Rattle.overlay_geometry.proofs.laws.lists.Keys.{IsStrictlySortedBy-map_filter, is_strictly_sorted-from, IsStrictlySortedBy-from_test}
use Rattle.overlay_base.specs.Windings.{Winding, empty, is_valid, is_not_empty}
use Rattle.overlay_base.specs.Segments.{WholeSegment, pairs, is_map}
use Rattle.overlay_base.specs.EdgeData.{Hooks, DataSegment, data_piece}
use Rattle.overlay_base.specs.BooleanWinding.{boolean_made}
use Rattle.overlay_base.specs.ShapeWindings.{direct_winding, inverted_winding}
use Rattle.overlay_base.specs.Places.{lies_below, winding_below}
use Rattle.overlay_base.specs.Planar.{is_planar, is_splittable, is_arranged}
use Rattle.overlay_base.specs.Balance.{balance, IsBalanced}
use Rattle.overlay_base.specs.Rules.{top_value, keeps_fill}
use Rattle.overlay_base.specs.declared.overlay_core.fill_rule.FillRule.{FillRule}
use Rattle.overlay_base.specs.declared.overlay_core.fill_rule.FillRule.TheVariants.{EvenOdd, NonZero, Positive, Negative}
use Rattle.overlay_base.specs.declared.segm.shape_type.ShapeType.{ShapeType}
use Rattle.overlay_base.specs.declared.segm.shape_type.ShapeType.TheVariants.{Subject, Clip}
use Rattle.overlay_sweep.proofs.laws.columns.WeightSums.{when, sum_of}
use Rattle.overlay_sweep.proofs.laws.columns.BalancedSums.{balance_is}
use Rattle.overlay_sweep.proofs.laws.columns.ColumnLines.{filter_weights_are}
use Rattle.overlay_sweep.proofs.laws.live.Sides.{sum_of-zero_in}
use Rattle.overlay_sweep.specs.Fill.{is_inside}
use Rattle.overlay_sweep.specs.Sweep.{fill_of}
use Rattle.overlay_build.specs.Values.{value_at}
use Rattle.overlay_base.specs.declared.overlay_core.link.OverlayLink.{OverlayLink}
use Rattle.overlay_build.specs.Graph.{Filled, Graph, filled, graph_of, graph_by, without_nodes}
use Rattle.overlay_build.specs.GraphOf.{link_of, kept_of, graph_with}
use Rattle.overlay_build.specs.Boundary.{of_subject, direction, directed_links, truth, times_round}
use Rattle.overlay_build.specs.ShapedBoundary.{of_shape, in_shape}
use Rattle.overlay_build.specs.Laws.{BoundariesAreShapes, ShapesWindAlike, RegionsAreSeenAgain}
use Rattle.overlay_build.proofs.laws.graphs.GraphLaws.{graph_by-is}
use Rattle.overlay_build.proofs.laws.regions.Boundaries.{sum_of-map, when_zero, links_directed, graphs_bound_regions}

-- what an arrangement is
mapped : (least greatest : ℤ) (segments : List WholeSegment) → IsTrue (is_arranged least greatest segments) → IsTrue (is_map segments)
unfolding is_arranged
mapped least greatest segments h = (and_parts _ _ (and_parts _ _ h).0).0

splittable : (least greatest : ℤ) (segments : List WholeSegment) → IsTrue (is_arranged least greatest segments) → IsTrue (is_splittable least greatest segments)
unfolding is_arranged
splittable least greatest segments h = (and_parts _ _ (and_parts _ _ h).0).1

planar : (least greatest : ℤ) (segments : List WholeSegment) → IsTrue (is_arranged least greatest segments) → IsTrue (is_planar segments)
unfolding is_arranged
planar least greatest segments h = (and_parts _ _ h).1

-- ---- a part of an arrangement with other counts

module _ (least greatest : ℤ) (f : WholeSegment → Winding) (valid : (s : WholeSegment) → is_valid (f s) ≡ true) (some : (s : WholeSegment) → is_not_empty (f s) ≡ true) (test : WholeSegment → Bool) (segments : List WholeSegment) (arranged : IsTrue (is_arranged least greatest segments)) where
  abbrev recounted : WholeSegment → WholeSegment
  recounted s = record { pair = s.pair; count = f s }

  abbrev part : List WholeSegment
  part = map recounted (filter test segments)

  -- what holds of each pair of the arrangement holds of each of the part
  of_pairs : (p : Pair → Bool) → list_all p (pairs segments) ≡ true → list_all p (pairs part) ≡ true
  of_pairs p h =
      list_all-map p (λ s. s.pair) part ∙ list_all-map (λ s. p s.pair) recounted (filter test segments)
      ∙ list_all-filter (λ s. p s.pair) test segments (sym (list_all-map p (λ s. s.pair) segments) ∙ h)

  of_each : (p : WholeSegment → Bool) → ((s : WholeSegment) → p s ≡ true) → (xs : List WholeSegment) → list_all p xs ≡ true
  of_each p h [] = refl
  of_each p h (s ∷ xs) = and_from (p s) (list_all p xs) (h s) (of_each p h xs)

  of_counts : (p : Winding → Bool) → ((s : WholeSegment) → p (f s) ≡ true) → list_all (λ s. p s.count) part ≡ true
  of_counts p h = list_all-map (λ s. p s.count) recounted (filter test segments) ∙ of_each (λ s. p (f s)) h (filter test segments)

  same_pairs : pairs part ≡ pairs (filter test segments)
  same_pairs = map-map (λ s. s.pair) recounted (filter test segments)

  part_is_map : is_map part ≡ true
  unfolding is_map
  part_is_map =
      let halves = and_parts _ _ (mapped least greatest segments arranged) in
      let ordered = list_all-and_parts (λ (s : WholeSegment). is_ordered s.pair) (λ (s : WholeSegment). is_not_empty s.count) segments halves.1 in
      let kept = of_pairs is_ordered (list_all-map is_ordered (λ (s : WholeSegment). s.pair) segments ∙ ordered.0) in
      and_from _ _
      (is_strictly_sorted-from pair_cmp_total (pairs part) (subst (IsStrictlySortedBy pair_cmp) (sym same_pairs) (IsStrictlySortedBy-map_filter (λ (s : WholeSegment). s.pair) pair_cmp test segments (IsStrictlySortedBy-from_test pair_cmp_total (pairs segments) halves.0))))
      (list_all-and (λ (s : WholeSegment). is_ordered s.pair) (λ (s : WholeSegment). is_not_empty s.count) part (sym (list_all-map is_ordered (λ (s : WholeSegment). s.pair) part) ∙ kept) (of_counts is_not_empty some))

  part_is_splittable : is_splittable least greatest part ≡ true
  unfolding is_splittable
  part_is_splittable =
      let outer = list_all-and_parts (λ (s : WholeSegment). is_pair_in_range least greatest s.pair && is_valid s.count) (λ (s : WholeSegment). is_not_empty s.count) segments (splittable least greatest segments arranged) in
      let inner = list_all-and_parts (λ (s : WholeSegment). is_pair_in_range least greatest s.pair) (λ (s : WholeSegment). is_valid s.count) segments outer.0 in
      let kept = of_pairs (is_pair_in_range least greatest) (list_all-map (is_pair_in_range least greatest) (λ (s : WholeSegment). s.pair) segments ∙ inner.0) in
      let in_range = sym (list_all-map (is_pair_in_range least greatest) (λ (s : WholeSegment). s.pair) part) ∙ kept in
      list_all-and (λ (s : WholeSegment). is_pair_in_range least greatest s.pair && is_valid s.count) (λ (s : WholeSegment). is_not_empty s.count) part
      (list_all-and (λ (s : WholeSegment). is_pair_in_range least greatest s.pair) (λ (s : WholeSegment). is_valid s.count) part in_range (of_counts is_valid valid))
      (of_counts is_not_empty some)

  part_is_planar : is_planar part ≡ true
  unfolding is_planar
  part_is_planar =
      let h : list_all (λ s. list_all (λ t. are_apart s t) (pairs segments)) (pairs segments) ≡ true = planar least greatest segments arranged in
      let kept = of_pairs (λ s. list_all (λ t. are_apart s t) (pairs segments)) h in
      list_all-implied (λ s. list_all (λ t. are_apart s t) (pairs segments)) (λ s. list_all (λ t. are_apart s t) (pairs part)) (λ s. list_all (λ t. are_apart s t) (pairs segments)) (pairs part) kept kept (λ s _ k. of_pairs (λ t. are_apart s t) k)

  part_is_arranged : IsTrue (is_arranged least greatest part)
  unfolding is_arranged
  part_is_arranged = and_from _ _ (and_from _ _ part_is_map part_is_splittable) part_is_planar

-- ---- segments of a subject as those of a shape

sum_of-in_shape : (shape : ShapeType) (g : Pair → ℤ → ℤ) (segments : List WholeSegment) → ((q : Pair) → g q (pos 0) ≡ pos 0) → record { subj = sum_of (λ s. g s.pair s.count.subj) (in_shape shape segments); clip = sum_of (λ s. g s.pair s.count.clip) (in_shape shape segments); mask = 0 } ≡ of_shape shape (sum_of (λ s. g s.pair s.count.subj) segments)
unfolding in_shape
sum_of-in_shape Subject g segments none = λ i. record {
  subj = sum_of-map {Y = WholeSegment} (λ (s : WholeSegment). record { pair = s.pair; count = of_subject s.count.subj }) (λ s. g s.pair s.count.subj) segments i;
  clip = (sum_of-map {Y = WholeSegment} (λ (s : WholeSegment). record { pair = s.pair; count = of_subject s.count.subj }) (λ s. g s.pair s.count.clip) segments ∙ sum_of-zero_in (λ s. g s.pair (pos 0)) segments (λ s m. none s.pair)) i;
  mask = 0;
}
sum_of-in_shape Clip g segments none = λ i. record {
  subj = (sum_of-map {Y = WholeSegment} (λ (s : WholeSegment). record { pair = s.pair; count = of_shape Clip s.count.subj }) (λ s. g s.pair s.count.subj) segments ∙ sum_of-zero_in (λ s. g s.pair (pos 0)) segments (λ s m. none s.pair)) i;
  clip = sum_of-map {Y = WholeSegment} (λ (s : WholeSegment). record { pair = s.pair; count = of_shape Clip s.count.subj }) (λ s. g s.pair s.count.clip) segments i;
  mask = 0;
}

pub shapes_wind_alike : ShapesWindAlike
unfolding winding_below
shapes_wind_alike shape segments p =
    filter_weights_are (λ s. lies_below s p) (in_shape shape segments)
    ∙ sum_of-in_shape shape (λ q n. when (lies_below q p) n) segments (λ q. when_zero (lies_below q p))
    ∙ ap (λ (w : Winding). of_shape shape w.subj) (sym (filter_weights_are (λ s. lies_below s p) segments))

balance_in_shape : (shape : ShapeType) (segments : List WholeSegment) (p : Point) → balance (in_shape shape segments) p ≡ of_shape shape (balance segments p).subj
balance_in_shape shape segments p =
    balance_is (in_shape shape segments) p
    ∙ sum_of-in_shape shape (λ q n. when (point_eq q.a p) n -ℤ when (point_eq q.b p) n) segments (λ q. ap₂ (λ (x y : ℤ). x -ℤ y) (when_zero (point_eq q.a p)) (when_zero (point_eq q.b p)))
    ∙ ap (λ (w : Winding). of_shape shape w.subj) (sym (balance_is segments p))

is_balanced-in_shape : (shape : ShapeType) (segments : List WholeSegment) → IsBalanced segments → IsBalanced (in_shape shape segments)
is_balanced-in_shape shape segments balanced p = balance_in_shape shape segments p ∙ ap (λ (w : Winding). of_shape shape w.subj) (balanced p) ∙ none shape
  where
    none : (shape : ShapeType) → of_shape shape (pos 0) ≡ empty
    none Subject = refl
    none Clip = refl

-- ---- the boundary of a rule's region

-- once or back is a valid count that is not empty
valid_once : (shape : ShapeType) (rule : Bool → Bool → Bool) (fill : ℕ) → is_valid (of_shape shape (direction rule fill)) ≡ true
unfolding direction
valid_once shape rule fill = by shape (top_value rule fill)
  where
    by : (shape : ShapeType) (b : Bool) → is_valid (of_shape shape (if b then pos 1 else negsuc 0)) ≡ true
    by Subject true = refl
    by Subject false = refl
    by Clip true = refl
    by Clip false = refl

some_once : (shape : ShapeType) (rule : Bool → Bool → Bool) (fill : ℕ) → is_not_empty (of_shape shape (direction rule fill)) ≡ true
unfolding direction
some_once shape rule fill = by shape (top_value rule fill)
  where
    by : (shape : ShapeType) (b : Bool) → is_not_empty (of_shape shape (if b then pos 1 else negsuc 0)) ≡ true
    by Subject true = refl
    by Subject false = refl
    by Clip true = refl
    by Clip false = refl

-- the links of a graph of kept segments as segments of the shape
kept_in_shape : (shape : ShapeType) (rule : Bool → Bool → Bool) (kept : List Filled) → in_shape shape (directed_links rule (graph_of kept)) ≡ map (λ f. record { pair = f.pair; count = of_shape shape (direction rule f.fill) }) kept
unfolding in_shape
kept_in_shape shape rule kept =
    ap (map (λ (s : WholeSegment). record { pair = s.pair; count = of_shape shape s.count.subj })) (links_directed rule kept)
    ∙ map-map (λ (s : WholeSegment). record { pair = s.pair; count = of_shape shape s.count.subj }) (λ (f : Filled). record { pair = f.pair; count = of_subject (direction rule f.fill) }) kept

-- a link as it is kept, as a segment of the shape
abbrev pub link_in_shape : {I D : Type 0} → ShapeType → (Bool → Bool → Bool) → (I → ℤ) → OverlayLink I D → WholeSegment
link_in_shape shape rule whole l = record { pair = (link_of whole l).pair; count = of_shape shape (direction rule l.fill) }

pub links_in_shape : {I D : Type 0} (shape : ShapeType) (rule : Bool → Bool → Bool) (whole : I → ℤ) (links : List (OverlayLink I D)) → in_shape shape (directed_links rule (graph_with whole links)) ≡ map (link_in_shape shape rule whole) links
links_in_shape shape rule whole links =
    kept_in_shape shape rule (kept_of whole links)
    ∙ map-map (λ (f : Filled). record { pair = f.pair; count = of_shape shape (direction rule f.fill) }) (λ l. without_nodes (link_of whole l)) links

-- a link from its lesser end to its greater one is a step of the shape, forward where the function holds of its top
pub step_pair : {D S : Type 0} (hooks : Hooks D S) (s : DataSegment D) (count : Winding) (p q : Point) (edge_data : D) (store : S) → s ≡ (data_piece hooks count p q edge_data store).0 → point_lt p q ≡ true → s.pair ≡ record { a = p; b = q }
unfolding data_piece
step_pair {D} hooks s count p q edge_data store is e = ap (λ (t : DataSegment D). t.pair) is ∙ rw (data_piece, e) refl

pub step_count : {D S : Type 0} (hooks : Hooks D S) (s : DataSegment D) (count : Winding) (p q : Point) (edge_data : D) (store : S) → s ≡ (data_piece hooks count p q edge_data store).0 → point_lt p q ≡ true → s.count ≡ count
unfolding data_piece
step_count {D} hooks s count p q edge_data store is e = ap (λ (t : DataSegment D). t.count) is ∙ rw (data_piece, e) refl

pub once_forward : (shape : ShapeType) (rule : Bool → Bool → Bool) (fill : ℕ) → top_value rule fill ≡ true → direct_winding boolean_made shape ≡ of_shape shape (direction rule fill)
unfolding direction
once_forward Subject rule fill e = rw e refl
once_forward Clip rule fill e = rw e refl

pub once_back : (shape : ShapeType) (rule : Bool → Bool → Bool) (fill : ℕ) → top_value rule fill ≡ false → inverted_winding boolean_made shape ≡ of_shape shape (direction rule fill)
unfolding direction
once_back Subject rule fill e = rw e refl
once_back Clip rule fill e = rw e refl

boundary_is_part : (shape : ShapeType) (rule : Bool → Bool → Bool) (keeps : ℕ → Bool) (fill_rule : FillRule) (segments : List WholeSegment) →
    in_shape shape (directed_links rule (graph_by keeps fill_rule segments)) ≡ map (λ s. record { pair = s.pair; count = of_shape shape (direction rule (fill_of fill_rule segments s)) }) (filter (λ s. keeps (fill_of fill_rule segments s)) segments)
unfolding filled
boundary_is_part shape rule keeps fill_rule segments =
    let with_fill : WholeSegment → Filled = λ s. record { pair = s.pair; fill = fill_of fill_rule segments s } in
    ap (λ (g : Graph). in_shape shape (directed_links rule g)) (graph_by-is keeps fill_rule segments)
    ∙ kept_in_shape shape rule (filter (λ f. keeps f.fill) (filled fill_rule segments))
    ∙ ap (map (λ (f : Filled). record { pair = f.pair; count = of_shape shape (direction rule f.fill) })) (filter-map (λ (f : Filled). keeps f.fill) with_fill segments)
    ∙ map-map (λ (f : Filled). record { pair = f.pair; count = of_shape shape (direction rule f.fill) }) with_fill (filter (λ s. keeps (fill_of fill_rule segments s)) segments)

pub boundaries_are_shapes : BoundariesAreShapes
boundaries_are_shapes least greatest shape fill_rule rule segments arranged polygons balanced =
    let graph : Graph = graph_by (keeps_fill rule) fill_rule segments in
    let list : List WholeSegment = in_shape shape (directed_links rule graph) in
    let part = part_is_arranged least greatest (λ s. of_shape shape (direction rule (fill_of fill_rule segments s))) (λ s. valid_once shape rule (fill_of fill_rule segments s)) (λ s. some_once shape rule (fill_of fill_rule segments s)) (λ s. keeps_fill rule (fill_of fill_rule segments s)) segments arranged in
    let here : IsTrue (is_arranged least greatest list) = subst (λ xs. IsTrue (is_arranged least greatest xs)) (sym (boundary_is_part shape rule (keeps_fill rule) fill_rule segments)) part in
    let bounds = graphs_bound_regions fill_rule rule segments (mapped least greatest segments arranged) polygons (planar least greatest segments arranged) balanced in
    record {
      arranged = here;
      splittable = splittable least greatest list here;
      balanced = is_balanced-in_shape shape (directed_links rule graph) bounds.closed;
      winds = λ p some. shapes_wind_alike shape (directed_links rule graph) p ∙ ap (λ (w : Winding). of_shape shape w.subj) (bounds.winds p some);
    }

-- ---- what a further overlay sees

seen : (again : FillRule) (b outside : Bool) → outside ≡ false → (again ≡ Negative → ⊥) → is_inside again (truth b -ℤ truth outside) ≡ b
seen again b true e h = absurd (cc)
seen EvenOdd true false e h = refl
seen EvenOdd false false e h = refl
seen NonZero true false e h = refl
seen NonZero false false e h = refl
seen Positive true false e h = refl
seen Positive false false e h = refl
seen Negative b false e h = absurd (h refl)

pub regions_are_seen_again : RegionsAreSeenAgain
unfolding times_round
regions_are_seen_again rule fill_rule again w none some = seen again (value_at rule fill_rule w) (rule false false) none some
