-- A graph without links encloses no place, and keeps no part of a line.
use Rattle.std.proofs.Common.{◌≡◌, ◌∙◌, ℕ, ◌<◌, ◌==◌, ◌%◌, arith, zero, suc, Bool, true, false, cond, not, ◌&&◌, List, [], ◌∷◌, ◌||◌, map, filter, length, slice_index_or, refl, sym, ap}
use Rattle.std.proofs.lemmas.Bool.{eqb-true, ne_eqb, not-false}
use Rattle.std.proofs.lemmas.List.{nil_from_length, length-map}
use Rattle.std.specs.List.{list_any}
use Rattle.i_overlay.specs.BesideLines.{KeepsByGiven}
use Rattle.i_overlay.specs.ClipRule.{ClipRule}
use Rattle.i_overlay.specs.FarRegions.{EnclosesOverlay}
use Rattle.i_overlay.specs.FillRule.{FillRule}
use Rattle.i_overlay.specs.Graph.{Graph, Filled, graph_of}
use Rattle.i_overlay.specs.Lines.{is_kept_part, clip_graph}
use Rattle.i_overlay.specs.OverlayRules.{Intersect}
use Rattle.i_overlay.specs.Places.{RationalPoint, lies_below}
use Rattle.i_overlay.specs.Regions.{encloses}
use Rattle.i_overlay.specs.Run.{Settings}
use Rattle.i_overlay.specs.Segments.{WholeSegment}
use Rattle.i_overlay.specs.Sides.{overlay_graph}
use Rattle.i_overlay.specs.Values.{value_at}
use Rattle.overlaps.specs.Apart.{bounds_both, keeps_a_part, ShareNoFarPlace, KeepsNoFarPart}

-- a list for which the negated test for emptiness fails
pub none : {X : Type 0} (xs : List X) (r : Bool) → r ≡ (length xs == 0) → not r ≡ false → xs ≡ []
none xs r e n = nil_from_length xs (eqb-true (length xs) 0 (sym e ∙ not-false r n))

pub linkless : (kept : List Filled) → kept ≡ [] → (graph_of kept).links ≡ []
unfolding graph_of
linkless kept e = ap (λ ks. (graph_of ks).links) e

encloses_none : (graph : Graph) (p : RationalPoint) → graph.links ≡ [] → encloses graph p ≡ false
unfolding encloses
encloses_none graph p e = ap (λ ls. (length (filter (λ l. lies_below l.pair p) ls) % 2) == 1) e

pub share_none : (settings : Settings) (fill_rule : FillRule) (given : List WholeSegment) (passes : ℕ) (graph : Graph) → graph.links ≡ []
    → EnclosesOverlay settings Intersect fill_rule given passes graph → ShareNoFarPlace settings fill_rule given passes
unfolding value_at
share_none settings fill_rule given passes graph e region p some far = sym (region p some far) ∙ encloses_none graph p e

full : {X : Type 0} (x : X) (xs : List X) → x ∷ xs ≡ [] → ⊥
full x xs e = let l = ap length e in omega arith

-- an element of a list that a test keeps nothing of does not pass it
fails : {X : Type 0} (test : X → Bool) (xs : List X) → filter test xs ≡ [] → (k : ℕ) (d : X) → k < length xs → test (slice_index_or xs k d) ≡ false
fails test [] e k d i = absurd (omega arith)
fails test (x ∷ xs) e k d i = by (test x) refl e k i (λ f m j. fails test xs f m d j)
  where
    by : (b : Bool) → test x ≡ b → cond b (x ∷ filter test xs) (filter test xs) ≡ [] → (k : ℕ) → k < length (x ∷ xs)
        → (filter test xs ≡ [] → (m : ℕ) → m < length xs → test (slice_index_or xs m d) ≡ false) → test (slice_index_or (x ∷ xs) k d) ≡ false
    by true t f k i rest = absurd (full x (filter test xs) f)
    by false t f zero i rest = t
    by false t f (suc k) i rest = rest f k (omega arith)

mapped_none : {X Y : Type 0} (f : X → Y) (xs : List X) → map f xs ≡ [] → xs ≡ []
mapped_none f [] e = refl
mapped_none f (x ∷ xs) e = absurd (full (f x) (map f xs) e)

pub keep_none : (settings : Settings) (rule : ClipRule) (fill_rule : FillRule) (given segments : List WholeSegment) (passes : ℕ) (graph : Graph) → graph.links ≡ []
    → graph ≡ clip_graph rule fill_rule segments → KeepsByGiven settings rule fill_rule given segments passes → KeepsNoFarPart settings rule fill_rule given segments passes
unfolding clip_graph graph_of
keep_none settings rule fill_rule given segments passes graph e exactly by_given p q ps qs pf qf k d i top bottom =
    let kept : filter (λ s. is_kept_part rule fill_rule segments s) segments ≡ [] = mapped_none _ _ (mapped_none _ _ (sym (ap (λ g. g.links) exactly) ∙ e)) in
    sym (by_given p q ps qs pf qf k d i top bottom) ∙ fails _ segments kept k d i

-- a filter is not empty exactly where some element passes
any_kept : {X : Type 0} (test : X → Bool) (xs : List X) → not (length (filter test xs) == 0) ≡ list_any test xs
any_kept test [] = refl
any_kept test (x ∷ xs) = by (test x) (any_kept test xs)
  where
    by : (b : Bool) → not (length (filter test xs) == 0) ≡ list_any test xs → not (length (cond b (x ∷ filter test xs) (filter test xs)) == 0) ≡ (b || list_any test xs)
    by true rest = ap not (ne_eqb _ 0 (λ e. full x (filter test xs) (nil_from_length (x ∷ filter test xs) e)))
    by false rest = rest

-- a graph has a link for each segment that it is made of
pub count_links : {L : Type 0} (filled : L → Filled) (xs : List L) → length xs ≡ length (graph_of (map filled xs)).links
unfolding graph_of
count_links filled xs = sym (length-map (map filled xs) _ ∙ length-map xs filled)

-- so a graph of what a filter keeps has a link exactly where something passes
links_kept : {X : Type 0} (test : X → Bool) (filled : X → Filled) (xs : List X) (graph : Graph) → graph ≡ graph_of (map filled (filter test xs)) → (count : ℕ) → count ≡ length graph.links → not (count == 0) ≡ list_any test xs
links_kept test filled xs graph e count c = ap (λ n. not (n == 0)) (c ∙ ap (λ g. length g.links) e ∙ sym (count_links filled (filter test xs))) ∙ any_kept test xs

pub overlap_is : (fill_rule : FillRule) (segments : List WholeSegment) (graph : Graph) → graph ≡ overlay_graph (λ s c. s && c) fill_rule segments → (count : ℕ) → count ≡ length graph.links → not (count == 0) ≡ bounds_both fill_rule segments
unfolding overlay_graph
overlap_is fill_rule segments graph e count c = links_kept _ _ segments graph e count c

pub part_is : (rule : ClipRule) (fill_rule : FillRule) (segments : List WholeSegment) (graph : Graph) → graph ≡ clip_graph rule fill_rule segments → (count : ℕ) → count ≡ length graph.links → not (count == 0) ≡ keeps_a_part rule fill_rule segments
unfolding clip_graph
part_is rule fill_rule segments graph e count c = links_kept _ _ segments graph e count c
