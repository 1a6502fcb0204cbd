-- Where the windings by chains are those of the columns, a rule's graph is that of the segments whose sides differ under the rule.
use Rattle.std.proofs.Common.{◌≡◌, ℕ, ◌+◌, ◌%◌, ◌==◌, suc, Bool, true, false, ◌&&◌, IsTrue, List, [], ◌∷◌, map, filter, length, All, refl, sym, ap, ap₂, ◌∙◌}
use Rattle.std.specs.List.{list_all}
use Rattle.std.proofs.lemmas.Bool.{and_parts, eqb-true}
use Rattle.std.proofs.lemmas.List.Sums.{AllPass-from_list_all}
use Rattle.std.proofs.lemmas.List.Elements.{All-head, All-tail, All-weaker}
use Rattle.overlay_geometry.specs.Points.{Point, point_eq}
use Rattle.overlay_base.specs.Segments.{WholeSegment, is_map, are_polygons}
use Rattle.overlay_base.specs.Planar.{is_planar}
use Rattle.overlay_base.specs.Balance.{IsBalanced}
use Rattle.overlay_sweep.specs.ColumnWindings.{IsSameAlong, side_bottom, side_top}
use Rattle.overlay_sweep.specs.ChainWindings.{bottom, top}
use Rattle.overlay_base.specs.declared.overlay_core.fill_rule.FillRule.{FillRule}
use Rattle.overlay_sweep.specs.Fill.{fill_byte}
use Rattle.overlay_base.specs.Rules.{keeps_fill}
use Rattle.overlay_sweep.specs.Sweep.{fill_of}
use Rattle.overlay_build.specs.Graph.{filled, graph_of, graph_by, has_even_nodes, is_valid_graph}
use Rattle.overlay_build.specs.Sides.{has_sides_apart, with_sides, overlay_graph}
use Rattle.overlay_sweep.specs.Laws.{ChainsAreColumns}
use Rattle.overlay_build.specs.Laws.{NodesAreEven, GraphsAreValid, GraphsAreExact}
use Rattle.overlay_sweep.proofs.laws.columns.Tops.{chains_are_columns}
use Rattle.overlay_build.proofs.laws.sides.EvenNodes.{even_sides}
use Rattle.overlay_build.proofs.laws.sides.FillSides.{fills_tell_sides}
use Rattle.overlay_build.proofs.laws.graphs.GraphLaws.{kept_degree, has_even_nodes-kept, graph_by-is}
use Rattle.overlay_build.proofs.laws.graphs.GraphValid.{valid_by_even_nodes}

-- a segment whose windings by the chain are those of its sides
abbrev pub HasSides : List WholeSegment → WholeSegment → Type 0
HasSides segments s = (bottom segments s ≡ side_bottom segments s) × (top segments s ≡ side_top segments s)

-- its fill is that of its sides
pub fill_of-sides : (fill_rule : FillRule) (segments : List WholeSegment) (s : WholeSegment) → HasSides segments s → fill_of fill_rule segments s ≡ fill_byte fill_rule (side_bottom segments s) (side_top segments s) s.count.mask
fill_of-sides fill_rule segments s h = ap₂ (λ b t. fill_byte fill_rule b t s.count.mask) h.0 h.1

-- and without a mask it is kept where the rule separates the sides
pub keeps_fill-sides : (rule : Bool → Bool → Bool) (fill_rule : FillRule) (segments : List WholeSegment) (s : WholeSegment) → HasSides segments s → s.count.mask ≡ 0 → keeps_fill rule (fill_of fill_rule segments s) ≡ has_sides_apart rule fill_rule segments s
unfolding has_sides_apart
keeps_fill-sides rule fill_rule segments s h m =
    ap (keeps_fill rule) (fill_of-sides fill_rule segments s h)
    ∙ ap (λ n. keeps_fill rule (fill_byte fill_rule (side_bottom segments s) (side_top segments s) n)) m
    ∙ fills_tell_sides rule fill_rule (side_bottom segments s) (side_top segments s)

-- the segments whose fills are kept, where a test of their sides says the same
pub kept_on : (keeps : ℕ → Bool) (test : WholeSegment → Bool) (fill_rule : FillRule) (segments xs : List WholeSegment) → All (λ s. HasSides segments s × (keeps (fill_of fill_rule segments s) ≡ test s)) xs
    → filter (λ f. keeps f.fill) (map (λ s. record { pair = s.pair; fill = fill_of fill_rule segments s }) xs) ≡ map (λ s. with_sides fill_rule segments s) (filter test xs)
unfolding with_sides
kept_on keeps test fill_rule segments [] a = refl
kept_on keeps test fill_rule segments (s ∷ xs) a =
    let here = All-head (λ s. HasSides segments s × (keeps (fill_of fill_rule segments s) ≡ test s)) s xs a in
    by (test s) refl here.0 here.1 (kept_on keeps test fill_rule segments xs (All-tail (λ s. HasSides segments s × (keeps (fill_of fill_rule segments s) ≡ test s)) s xs a))
  where
    by : (b : Bool) → test s ≡ b → HasSides segments s → keeps (fill_of fill_rule segments s) ≡ test s
        → filter (λ f. keeps f.fill) (map (λ s. record { pair = s.pair; fill = fill_of fill_rule segments s }) xs) ≡ map (λ s. with_sides fill_rule segments s) (filter test xs)
        → filter (λ f. keeps f.fill) (map (λ s. record { pair = s.pair; fill = fill_of fill_rule segments s }) (s ∷ xs)) ≡ map (λ s. with_sides fill_rule segments s) (filter test (s ∷ xs))
    by true e sides k ih =
        let u : keeps (fill_of fill_rule segments s) ≡ true = k ∙ e in
        rw (u, e) (λ i. record { pair = s.pair; fill = fill_of-sides fill_rule segments s sides i } ∷ ih i)
    by false e sides k ih =
        let u : keeps (fill_of fill_rule segments s) ≡ false = k ∙ e in
        rw (u, e) ih

exact_on : (rule : Bool → Bool → Bool) (fill_rule : FillRule) (segments xs : List WholeSegment) → list_all (λ s. s.count.mask == 0) xs ≡ true → All (HasSides segments) xs
    → filter (λ f. keeps_fill rule f.fill) (map (λ s. record { pair = s.pair; fill = fill_of fill_rule segments s }) xs) ≡ map (λ s. with_sides fill_rule segments s) (filter (λ s. has_sides_apart rule fill_rule segments s) xs)
exact_on rule fill_rule segments xs m a =
    kept_on (keeps_fill rule) (λ s. has_sides_apart rule fill_rule segments s) fill_rule segments xs
    (λ k d l. (a k d l, keeps_fill-sides rule fill_rule segments _ (a k d l) (eqb-true _ 0 (AllPass-from_list_all (λ (s : WholeSegment). s.count.mask == 0) xs m k d l))))

-- the graph of the kept fills is that of the segments whose sides the rule separates
pub graph_by-sides : (rule : Bool → Bool → Bool) (fill_rule : FillRule) (segments : List WholeSegment) → IsTrue (are_polygons segments) → All (HasSides segments) segments → graph_by (keeps_fill rule) fill_rule segments ≡ overlay_graph rule fill_rule segments
unfolding graph_by filled overlay_graph
graph_by-sides rule fill_rule segments m a = ap graph_of (exact_on rule fill_rule segments segments m a)

-- what chains being columns says of a segment
abbrev pub HasColumns : List WholeSegment → WholeSegment → Type 0
HasColumns segments s = IsSameAlong segments s × (bottom segments s ≡ side_bottom segments s) × (top segments s ≡ side_top segments s)

pub All-sides : (segments : List WholeSegment) → All (HasColumns segments) segments → All (HasSides segments) segments
All-sides segments a = All-weaker (HasColumns segments) (HasSides segments) (λ s h. (h.1, h.2)) segments a

-- so graphs are exact where chains are columns
pub graphs_are_exact-from_columns : ChainsAreColumns → GraphsAreExact
graphs_are_exact-from_columns columns fill_rule rule segments mapped polygons planar balanced =
    graph_by-sides rule fill_rule segments polygons (All-sides segments (columns segments mapped planar balanced))

-- and with even nodes the graph is that of a balanced overlay
-- ---- even nodes, counted by sides

kept_alike : (rule : Bool → Bool → Bool) (fill_rule : FillRule) (segments xs : List WholeSegment) (test : WholeSegment → Bool) → list_all (λ s. s.count.mask == 0) xs ≡ true → All (HasSides segments) xs
    → length (filter (λ s. keeps_fill rule (fill_of fill_rule segments s) && test s) xs) ≡ length (filter (λ s. has_sides_apart rule fill_rule segments s && test s) xs)
kept_alike rule fill_rule segments [] test m a = refl
kept_alike rule fill_rule segments (s ∷ xs) test m a =
    let parts = and_parts (s.count.mask == 0) (list_all (λ s. s.count.mask == 0) xs) m in
    let sides : HasSides segments s = All-head (HasSides segments) s xs a in
    by (has_sides_apart rule fill_rule segments s && test s) refl (ap (λ b. b && test s) (keeps_fill-sides rule fill_rule segments s sides (eqb-true s.count.mask 0 parts.0)))
    (kept_alike rule fill_rule segments xs test parts.1 (All-tail (HasSides segments) s xs a))
  where
    by : (b : Bool) → (has_sides_apart rule fill_rule segments s && test s) ≡ b → (keeps_fill rule (fill_of fill_rule segments s) && test s) ≡ (has_sides_apart rule fill_rule segments s && test s)
        → length (filter (λ s. keeps_fill rule (fill_of fill_rule segments s) && test s) xs) ≡ length (filter (λ s. has_sides_apart rule fill_rule segments s && test s) xs)
        → length (filter (λ s. keeps_fill rule (fill_of fill_rule segments s) && test s) (s ∷ xs)) ≡ length (filter (λ s. has_sides_apart rule fill_rule segments s && test s) (s ∷ xs))
    by true e k ih = let u : (keeps_fill rule (fill_of fill_rule segments s) && test s) ≡ true = k ∙ e in rw (u, e) (ap suc ih)
    by false e k ih = let u : (keeps_fill rule (fill_of fill_rule segments s) && test s) ≡ false = k ∙ e in rw (u, e) ih

-- how many segments whose sides a rule separates start or end at a point
abbrev pub sides_degree : (Bool → Bool → Bool) → FillRule → List WholeSegment → Point → ℕ
sides_degree rule fill_rule segments p =
    length (filter (λ s. has_sides_apart rule fill_rule segments s && point_eq s.pair.a p) segments)
    + length (filter (λ s. has_sides_apart rule fill_rule segments s && point_eq s.pair.b p) segments)

pub kept_degree-sides : (rule : Bool → Bool → Bool) (fill_rule : FillRule) (segments : List WholeSegment) (p : Point) → IsTrue (are_polygons segments) → All (HasSides segments) segments
    → kept_degree (keeps_fill rule) fill_rule segments p ≡ sides_degree rule fill_rule segments p
kept_degree-sides rule fill_rule segments p m a =
    ap₂ (λ j k. j + k) (kept_alike rule fill_rule segments segments (λ s. point_eq s.pair.a p) m a) (kept_alike rule fill_rule segments segments (λ s. point_eq s.pair.b p) m a)

-- an even number of links meets at each node where an even number of segments whose sides the rule separates meets at each point
pub nodes_are_even-from_vertices : ChainsAreColumns
    → ((fill_rule : FillRule) (rule : Bool → Bool → Bool) (segments : List WholeSegment) → IsTrue (is_map segments) → IsTrue (is_planar segments) → IsBalanced segments → (p : Point) → sides_degree rule fill_rule segments p % 2 ≡ 0)
    → NodesAreEven
nodes_are_even-from_vertices columns vertices fill_rule rule segments mapped polygons planar balanced =
    has_even_nodes-kept (keeps_fill rule) fill_rule segments
    (λ p. ap (λ n. n % 2) (kept_degree-sides rule fill_rule segments p polygons (All-sides segments (columns segments mapped planar balanced))) ∙ vertices fill_rule rule segments mapped planar balanced p)

pub graphs_are_exact : GraphsAreExact
graphs_are_exact = graphs_are_exact-from_columns chains_are_columns

pub nodes_are_even : NodesAreEven
nodes_are_even = nodes_are_even-from_vertices chains_are_columns even_sides

pub graphs_are_valid : GraphsAreValid
graphs_are_valid fill_rule rule segments mapped polygons planar balanced =
    let is = graph_by-is (keeps_fill rule) fill_rule segments in
    let even : IsTrue (has_even_nodes (graph_of (filter (λ f. keeps_fill rule f.fill) (filled fill_rule segments)))) = ap has_even_nodes (sym is) ∙ nodes_are_even fill_rule rule segments mapped polygons planar balanced in
    ap is_valid_graph is ∙ valid_by_even_nodes (filter (λ f. keeps_fill rule f.fill) (filled fill_rule segments)) even
