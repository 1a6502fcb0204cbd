-- Contours, their segments, the overlay of these and its contours, joined.
use Rattle.std.proofs.Common.{◌≡◌, refl, sym, ap, ap₂, subst, ◌∙◌, ℕ, ◌<◌, ◌≤◌, Bool, true, false, not, cond, if◌then◌else◌, IsTrue, List, [], ◌∷◌, ◌++◌, map, filter, arith, inl, inr, Less}
use Rattle.std.specs.Prelude.{ℤ, pos, negsuc, ◌-ℤ◌, count_by, Contains, Result, Ok, Err, IfErr}
use Rattle.std.specs.Result.{IsErrAnd}
use Rattle.std.specs.List.{AllByRecursion, list_all}
use Rattle.std.specs.List.Sorted.{IsStrictlySortedBy}
use Rattle.std.proofs.lemmas.Bool.{and_parts, and_from}
use Rattle.std.proofs.lemmas.Int.{ints}
use Rattle.std.proofs.lemmas.List.{map-append}
use Rattle.std.proofs.lemmas.List.Elements.{All-from_recursion, recursion_from_All}
use Rattle.std.proofs.lemmas.List.Folds.{list_all-map, list_all-append}
use Rattle.std.proofs.lemmas.List.Sums.{sum_by-cons}
use Rattle.std.proofs.lemmas.Simd.{map-map}
use Rattle.overlay_geometry.specs.Points.{Point, Pair, pair_eq, pair_cmp, is_ordered, point_lt, point_eq}
use Rattle.overlay_geometry.specs.Sorting.{is_strictly_sorted}
use Rattle.overlay_base.specs.Places.{RationalPoint, winding_below}
use Rattle.overlay_base.specs.Segments.{WholeSegment, pairs, is_map, are_ordered}
use Rattle.overlay_base.specs.Planar.{is_planar, is_arranged}
use Rattle.overlay_geometry.specs.Meeting.{are_apart}
use Rattle.overlay_base.specs.Balance.{IsBalanced}
use Rattle.overlay_base.specs.Rules.{holds, differ, keeps_fill, top_value}
use Rattle.overlay_base.specs.Windings.{is_not_empty, Winding, empty}
use Rattle.overlay_base.specs.ShapeWindings.{direct_winding, inverted_winding}
use Rattle.overlay_base.specs.BooleanWinding.{boolean_made}
use Rattle.overlay_base.specs.declared.segm.shape_type.ShapeType.{ShapeType}
use Rattle.overlay_base.specs.declared.segm.shape_type.ShapeType.TheVariants.{Subject, Clip}
use Rattle.overlay_base.specs.declared.overlay_core.fill_rule.FillRule.{FillRule}
use Rattle.overlay_base.specs.declared.overlay_core.overlay_rule.OverlayRule.{OverlayRule}
use Rattle.overlay_geometry.proofs.laws.geometry.Points.{pair_cmp_total, pair_eq_same, same_pair_by_eq}
use Rattle.overlay_base.proofs.laws.geometry.Pairs.{pair_eq-less, pair_eq-comm}
use Rattle.overlay_geometry.proofs.laws.lists.Keys.{IsStrictlySortedBy-from_test}
use Rattle.overlay_geometry.proofs.laws.lists.Lists.{Has, Has-map, Has-map_out, Has-filter_out, AllByRecursion-from_Has, AllByRecursion-at, list_all-from_Has, list_all-at, list_all-and_parts, sum_by-map, sum_by-filter_le}
use Rattle.overlay_base.specs.declared.overlay_core.link.OverlayLink.{OverlayLink}
use Rattle.overlay_build.specs.Boundary.{of_subject, direction, directed_links, truth, boundary, times_round}
use Rattle.overlay_build.specs.DirectedWalks.{arcs, IsFlow}
use Rattle.overlay_build.specs.DirectedWalks.{turned as turned_link}
use Rattle.overlay_build.specs.GraphOf.{link_of, kept_of, graph_with}
use Rattle.overlay_build.proofs.laws.walks.Flows.{flow_from_balance}
use Rattle.overlay_cuts.specs.Nearness.{LieNear, LiesNear}
use Rattle.overlay_cuts.specs.Places.{IsFar}
use Rattle.overlay_sweep.proofs.laws.visits.FillBytes.{inside_none}
use Rattle.overlay_build.specs.Graph.{Graph, Link, Filled, graph_of, graph_by, filled}
use Rattle.overlay_build.specs.Regions.{encloses}
use Rattle.overlay_build.specs.Sides.{IsBalancedOverlay}
use Rattle.overlay_build.specs.Values.{value_at, tells_apart}
use Rattle.overlay_contours.specs.Contours.{steps, is_edge, in_order, turned, directed_edges, edges, AreProper, winding_number, is_painted}
use Rattle.overlay_contours.specs.ContourSegments.{step_segment, contour_segments, overlay_segments, overlay_winding, are_in_range}
use Rattle.overlay_contours.specs.Polygons.{IsPolygonOverlay, IsBeyond, is_in_overlay, run_of, RunsAlongBoundary}
use Rattle.overlay_contours.specs.Splittings.{Splitting, IsArrangement}
use Rattle.overlay_contours.proofs.laws.Windings.{overlay_winds}
use Rattle.overlay_contours.proofs.laws.Extracts.{ways_of}
use Rattle.overlay_contours.proofs.laws.Ranges.{edges_in_range}
use Rattle.overlay_geometry.proofs.laws.lists.Elements.{Contains-from_Has}

-- ---- the pairs of the segments are the edges

pair_of_step : (shape_type : ShapeType) (s : Pair) → (step_segment shape_type s).pair ≡ in_order s
pair_of_step shape_type s = by (point_lt s.a s.b)
  where
    by : (b : Bool) → (let w : WholeSegment = cond b (record { pair = s; count = direct_winding boolean_made shape_type }) (record { pair = turned s; count = inverted_winding boolean_made shape_type }) in w.pair) ≡ cond b s (turned s)
    by true = refl
    by false = refl

contour_pairs : (shape_type : ShapeType) (contours : List (List Point)) → pairs (contour_segments shape_type contours) ≡ edges contours
unfolding contour_segments
contour_pairs shape_type contours = map-map (λ (s : WholeSegment). s.pair) (step_segment shape_type) (filter is_edge (steps contours)) ∙ (λ i. map (λ s. pair_of_step shape_type s i) (filter is_edge (steps contours)))

overlay_pairs : (subject clip : List (List Point)) → pairs (overlay_segments subject clip) ≡ edges subject ++ edges clip
unfolding overlay_segments
overlay_pairs subject clip = map-append (λ (s : WholeSegment). s.pair) (contour_segments Subject subject) (contour_segments Clip clip) ∙ ap₂ (λ (u v : List Pair). u ++ v) (contour_pairs Subject subject) (contour_pairs Clip clip)

-- ---- the links of a rule are segments of the arrangement

abbrev link_pairs : Graph → List Pair
link_pairs graph = ways_of graph.links

kept_pairs : (keeps : ℕ → Bool) (rule : FillRule) (segments : List WholeSegment) → link_pairs (graph_by keeps rule segments) ≡ map (λ f. f.pair) (filter (λ f. keeps f.fill) (filled rule segments))
unfolding graph_by graph_of
kept_pairs keeps rule segments = map-map (λ (l : Link). l.pair) _ (filter (λ f. keeps f.fill) (filled rule segments))

filled_pairs : (rule : FillRule) (segments : List WholeSegment) → map (λ f. f.pair) (filled rule segments) ≡ pairs segments
unfolding filled
filled_pairs rule segments = map-map (λ (f : Filled). f.pair) _ segments

links_stand : (keeps : ℕ → Bool) (rule : FillRule) (segments : List WholeSegment) (e : Pair) → Has (link_pairs (graph_by keeps rule segments)) e → Has (pairs segments) e
links_stand keeps rule segments e i =
    let there = Has-map_out (λ (f : Filled). f.pair) (filter (λ f. keeps f.fill) (filled rule segments)) e (subst (λ (l : List Pair). Has l e) (kept_pairs keeps rule segments) i) in
    let kept = Has-filter_out (λ (f : Filled). keeps f.fill) (filled rule segments) there.0 there.1 in
    subst (λ (l : List Pair). Has l e) (filled_pairs rule segments) (subst (Has (map (λ (f : Filled). f.pair) (filled rule segments))) there.2 (Has-map (λ (f : Filled). f.pair) (filled rule segments) there.0 kept.0))

links_are_few : (keeps : ℕ → Bool) (rule : FillRule) (segments : List WholeSegment) (test : Pair → Bool) → count_by test (link_pairs (graph_by keeps rule segments)) ≤ count_by test (pairs segments)
links_are_few keeps rule segments test =
    let all : count_by test (pairs segments) ≡ count_by (λ (f : Filled). test f.pair) (filled rule segments) = sym (ap (count_by test) (filled_pairs rule segments)) ∙ sum_by-map (λ (e : Pair). cond (test e) 1 0) (λ (f : Filled). f.pair) (filled rule segments) in
    let some : count_by test (link_pairs (graph_by keeps rule segments)) ≡ count_by (λ (f : Filled). test f.pair) (filter (λ f. keeps f.fill) (filled rule segments)) = ap (count_by test) (kept_pairs keeps rule segments) ∙ sum_by-map (λ (e : Pair). cond (test e) 1 0) (λ (f : Filled). f.pair) (filter (λ f. keeps f.fill) (filled rule segments)) in
    let fewer : count_by (λ (f : Filled). test f.pair) (filter (λ f. keeps f.fill) (filled rule segments)) ≤ count_by (λ (f : Filled). test f.pair) (filled rule segments) = sum_by-filter_le (λ f. cond (test f.pair) 1 0) (λ f. keeps f.fill) (filled rule segments) in
    omega (arith, all, some, fewer)

-- ---- what is in a list, by counts

abbrev flag : Bool → ℕ
flag b = cond b 1 0

counted_from_Has : (xs : List Pair) (e : Pair) → Has xs e → 0 < count_by (λ s. pair_eq s e) xs
counted_from_Has [] e i = absurd i
counted_from_Has (x ∷ xs) e (inl same) =
    let more = sum_by-cons (λ s. flag (pair_eq s e)) x xs in
    let here : flag (pair_eq x e) ≡ 1 = ap flag (ap (λ (s : Pair). pair_eq s e) same ∙ pair_eq_same e) in
    omega (arith, more, here)
counted_from_Has (x ∷ xs) e (inr i) =
    let more = sum_by-cons (λ s. flag (pair_eq s e)) x xs in
    let rest = counted_from_Has xs e i in
    omega (arith, more, rest)

Has-from_count : (xs : List Pair) (e : Pair) → 0 < count_by (λ s. pair_eq s e) xs → Has xs e
Has-from_count [] e h = absurd (omega (arith, h))
Has-from_count (x ∷ xs) e h = by (Has-from_count xs e) (pair_eq x e) refl
  where
    by : (0 < count_by (λ s. pair_eq s e) xs → Has xs e) → (b : Bool) → pair_eq x e ≡ b → Has (x ∷ xs) e
    by ih true t = inl (same_pair_by_eq x e t)
    by ih false t =
        let more = sum_by-cons (λ s. flag (pair_eq s e)) x xs in
        let here : flag (pair_eq x e) ≡ 0 = ap flag t in
        inr (ih (omega (arith, h, more, here)))

none_counted : (xs : List Pair) (e : Pair) → AllByRecursion (λ s. pair_eq s e ≡ false) xs → count_by (λ s. pair_eq s e) xs ≡ 0
none_counted [] e h = refl
none_counted (x ∷ xs) e h =
    let more = sum_by-cons (λ s. flag (pair_eq s e)) x xs in
    let here : flag (pair_eq x e) ≡ 0 = ap flag h.0 in
    let rest = none_counted xs e h.1 in
    omega (arith, more, here, rest)

later_differ : (x e : Pair) (xs : List Pair) → pair_eq x e ≡ true → AllByRecursion (λ y. pair_cmp x y ≡ Less) xs → AllByRecursion (λ s. pair_eq s e ≡ false) xs
later_differ x e [] t h = tt
later_differ x e (y ∷ xs) t h =
    let apart : pair_eq y e ≡ false = pair_eq-comm y e ∙ ap (λ (s : Pair). pair_eq s y) (sym (same_pair_by_eq x e t)) ∙ pair_eq-less x y h.0 in
    (apart, later_differ x e xs t h.1)

-- in strict order a pair is there at most once
once_in_order : (xs : List Pair) (e : Pair) → IsStrictlySortedBy pair_cmp xs → count_by (λ s. pair_eq s e) xs ≤ 1
unfolding IsStrictlySortedBy
once_in_order [] e s = omega arith
once_in_order (x ∷ xs) e s = by (once_in_order xs e s.1) (pair_eq x e) refl
  where
    by : count_by (λ t. pair_eq t e) xs ≤ 1 → (b : Bool) → pair_eq x e ≡ b → count_by (λ t. pair_eq t e) (x ∷ xs) ≤ 1
    by ih true t =
        let more = sum_by-cons (λ s. flag (pair_eq s e)) x xs in
        let here : flag (pair_eq x e) ≡ 1 = ap flag t in
        let rest = none_counted xs e (later_differ x e xs t s.0) in
        omega (arith, more, here, rest)
    by ih false t =
        let more = sum_by-cons (λ s. flag (pair_eq s e)) x xs in
        let here : flag (pair_eq x e) ≡ 0 = ap flag t in
        omega (arith, more, here, ih)

-- ---- an arrangement

map_parts : (segments : List WholeSegment) → is_map segments ≡ true → IsStrictlySortedBy pair_cmp (pairs segments) × (list_all is_ordered (pairs segments) ≡ true)
unfolding is_map
map_parts segments h =
    let parts = and_parts (is_strictly_sorted pair_cmp (pairs segments)) _ h in
    let ordered = list_all-and_parts (λ (s : WholeSegment). is_ordered s.pair) (λ s. is_not_empty s.count) segments parts.1 in
    (IsStrictlySortedBy-from_test pair_cmp_total (pairs segments) parts.0, list_all-map is_ordered (λ (s : WholeSegment). s.pair) segments ∙ ordered.0)

planar_pairs : (segments : List WholeSegment) → is_planar segments ≡ true → list_all (λ s. list_all (λ t. are_apart s t) (pairs segments)) (pairs segments) ≡ true
unfolding is_planar
planar_pairs segments h = h

-- what holds of a refusal holds of the result that `?` makes of it
pub refused_as : {T F : Type 0} (result : Result T F) (P : F → Type 0) (fault : F) → IsErrAnd result (λ refused. refused ≡ fault) → P fault → IfErr result P
refused_as (Ok x) P fault h k = tt
refused_as (Err e) P fault h k = subst P (sym h) k

-- ---- directions

pub run_of_link : (t : Bool) (l : Link) → run_of (record { pair = l.pair; count = of_subject (if t then pos 1 else negsuc 0) }) ≡ (if t then l else turned_link l).pair
run_of_link true l = refl
run_of_link false l = refl

pub runs_of_links : (rule : Bool → Bool → Bool) (graph : Graph) → map run_of (directed_links rule graph) ≡ ways_of (arcs rule graph.links)
unfolding directed_links direction
runs_of_links rule graph = each graph.links
  where
    each : (links : List Link) → map run_of (map (λ l. record { pair = l.pair; count = of_subject (if top_value rule l.fill then pos 1 else negsuc 0) }) links) ≡ ways_of (arcs rule links)
    each [] = refl
    each (l ∷ links) = ap₂ (λ (e : Pair) (es : List Pair). e ∷ es) (run_of_link (top_value rule l.fill) l) (each links)

pub less_nothing : (b : Bool) → truth b -ℤ truth false ≡ truth b
less_nothing true = refl
less_nothing false = refl

-- what a rule says where nothing winds
value_outside : (rule : OverlayRule) (fill_rule : FillRule) → value_at (holds rule) fill_rule empty ≡ holds rule false false
unfolding value_at
value_outside rule fill_rule = ap (λ (b : Bool). holds rule b b) (inside_none fill_rule)

-- The graph of what is left of balanced segments is a balanced overlay.
pub sides_of : {I D : Type 0} (whole : I → ℤ) (splitting : Splitting) (fill_rule : FillRule) (rule : Bool → Bool → Bool) (given segments : List WholeSegment) (passes halves : ℕ) (links : List (OverlayLink I D)) → IsArrangement splitting given segments passes halves → IsBalanced given
    → graph_with whole links ≡ graph_by (keeps_fill rule) fill_rule segments → (IsBalanced segments → IsBalancedOverlay rule fill_rule segments (graph_by (keeps_fill rule) fill_rule segments)) → IsBalancedOverlay rule fill_rule segments (graph_with whole links)
sides_of whole splitting fill_rule rule given segments passes halves links a balanced same makes =
    subst (IsBalancedOverlay rule fill_rule segments) (sym same) (makes (λ p. a.kept p ∙ balanced p))

-- in their directions as many of its links start as end at each node
pub links_flow : {I D : Type 0} (whole : I → ℤ) (links : List (OverlayLink I D)) (fill_rule : FillRule) (rule : Bool → Bool → Bool) (segments : List WholeSegment)
    → IsBalancedOverlay rule fill_rule segments (graph_with whole links) → map (link_of whole) links ≡ (graph_with whole links).links → IsFlow (arcs rule (map (link_of whole) links))
links_flow whole links fill_rule rule segments sides same =
    subst (λ (ls : List Link). IsFlow (arcs rule ls)) (sym same) (flow_from_balance rule (kept_of whole links) sides.boundary.closed)

-- ---- the polygon theorem

module _ (splitting : Splitting) (rule : OverlayRule) (fill_rule : FillRule) (subject clip answer : List (List Point)) (segments : List WholeSegment) (passes halves : ℕ) (graph : Graph)
    (a : IsArrangement splitting (overlay_segments subject clip) segments passes halves) (links : graph ≡ graph_by (keeps_fill (holds rule)) fill_rule segments) (sides : IsBalancedOverlay (holds rule) fill_rule segments graph)
    (count : (test : Pair → Bool) → count_by test (edges answer) ≡ count_by test (link_pairs graph)) (paints : (p : RationalPoint) → is_painted answer p ≡ encloses graph p)
    (runs : (test : Pair → Bool) → count_by test (directed_edges answer) ≡ count_by test (ways_of (arcs (holds rule) graph.links))) (winds : (p : RationalPoint) → overlay_winding answer [] p ≡ winding_below (directed_links (holds rule) graph) p) (proper : AreProper answer) where
  planar : (is_map segments ≡ true) × (is_planar segments ≡ true)
  planar = and_parts (is_map segments) (is_planar segments) a.planar

  edge_stands : (e : Pair) → Has (edges answer) e → Has (pairs segments) e
  edge_stands e i =
      let some : 0 < count_by (λ s. pair_eq s e) (link_pairs graph) = subst (λ (n : ℕ). 0 < n) (count (λ s. pair_eq s e)) (counted_from_Has (edges answer) e i) in
      links_stand (keeps_fill (holds rule)) fill_rule segments e (subst (λ (g : Graph). Has (link_pairs g) e) links (Has-from_count (link_pairs graph) e some))

  winds_there : (p : RationalPoint) → IsBeyond halves subject clip p → winding_below segments p ≡ overlay_winding subject clip p
  winds_there p far = a.winding p (subst (λ (l : List Pair). IsFar halves p l) (sym (overlay_pairs subject clip)) far) ∙ overlay_winds subject clip p

  region_here : (p : RationalPoint) → 0 < p.bottom → IsBeyond halves subject clip p → is_painted answer p ≡ differ (holds rule false false) (is_in_overlay rule fill_rule subject clip p)
  unfolding value_at tells_apart
  region_here p some far =
      paints p
      ∙ sides.region p some
      ∙ ap (λ (b : Bool). differ b (value_at (holds rule) fill_rule (winding_below segments p))) (value_outside rule fill_rule)
      ∙ ap (λ (w : Winding). differ (holds rule false false) (value_at (holds rule) fill_rule w)) (winds_there p far)

  winds_here : (p : RationalPoint) → 0 < p.bottom → IsBeyond halves subject clip p → winding_number answer p ≡ truth (is_in_overlay rule fill_rule subject clip p) -ℤ truth (holds rule false false)
  unfolding times_round value_at
  winds_here p some far =
      ap (λ (w : Winding). w.subj) (winds p ∙ sides.boundary.winds p some)
      ∙ ap (λ (w : Winding). times_round (holds rule) fill_rule w) (winds_there p far)

  runs_here : RunsAlongBoundary rule fill_rule segments answer
  runs_here test = runs test ∙ ap (count_by test) (sym (runs_of_links (holds rule) graph) ∙ ap (map run_of) sides.boundary.sides)

  near_edges : LieNear halves (edges subject ++ edges clip) (pairs segments)
  near_edges = subst (λ (l : List Pair). LieNear halves l (pairs segments)) (overlay_pairs subject clip) a.near

  abbrev LiesNearSome : Pair → Type 0
  LiesNearSome r = (s : Pair) × Contains (edges subject ++ edges clip) s × LiesNear halves r s

  -- its points are in range where the arrangement is
  pub answer_in_range : (least greatest : ℤ) → is_arranged least greatest segments ≡ true → are_in_range least greatest answer ≡ true
  answer_in_range least greatest h = edges_in_range least greatest segments answer h edge_stands proper

  pub polygon_overlay : IsPolygonOverlay splitting rule fill_rule subject clip answer
  polygon_overlay = record {
    arrangement = segments;
    passes = passes;
    halves = halves;
    left = a.left;
    region = region_here;
    named = λ outside p some far. region_here p some far ∙ ap (λ (b : Bool). differ b (is_in_overlay rule fill_rule subject clip p)) outside;
    winds = winds_here;
    named_winds = λ outside p some far. winds_here p some far ∙ ap (λ (b : Bool). truth (is_in_overlay rule fill_rule subject clip p) -ℤ truth b) outside ∙ less_nothing (is_in_overlay rule fill_rule subject clip p);
    directed = runs_here;
    proper = proper;
    reach = a.reach;
    exact = a.exact;
    arranged =
        All-from_recursion (Contains (pairs segments)) (edges answer)
        (AllByRecursion-from_Has (Contains (pairs segments)) (edges answer) (λ e i. Contains-from_Has _ e (edge_stands e i)));
    near =
        All-from_recursion LiesNearSome (edges answer)
        (AllByRecursion-from_Has LiesNearSome (edges answer) (λ e i. AllByRecursion-at LiesNearSome (pairs segments) e (recursion_from_All LiesNearSome (pairs segments) near_edges) (edge_stands e i)));
    apart =
        list_all-from_Has (λ s. list_all (λ t. are_apart s t) (edges answer)) (edges answer)
        (λ s i. list_all-from_Has (λ t. are_apart s t) (edges answer)
        (λ t j. list_all-at (λ t. are_apart s t) (pairs segments) t (list_all-at (λ s. list_all (λ t. are_apart s t) (pairs segments)) (pairs segments) s (planar_pairs segments planar.1) (edge_stands s i)) (edge_stands t j)));
    once = λ e.
        let as_links = count (λ s. pair_eq s e) in
        let few = links_are_few (keeps_fill (holds rule)) fill_rule segments (λ s. pair_eq s e) in
        let one = once_in_order (pairs segments) e (map_parts segments planar.0).0 in
        let same : count_by (λ s. pair_eq s e) (link_pairs graph) ≡ count_by (λ s. pair_eq s e) (link_pairs (graph_by (keeps_fill (holds rule)) fill_rule segments)) = ap (λ (g : Graph). count_by (λ s. pair_eq s e) (link_pairs g)) links in
        omega (arith, as_links, few, one, same);
  }

  -- its arrangement is that
  pub polygon_arrangement : polygon_overlay.arrangement ≡ segments
  unfolding polygon_overlay
  polygon_arrangement = refl
