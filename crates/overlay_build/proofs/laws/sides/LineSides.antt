-- What fills say of lines, and the graphs of the parts of lines that a clip rule keeps.
use Rattle.std.proofs.Common.{◌≡◌, refl, ltb-true, ap, ap₂, ◌∙◌, ℕ, ◌+◌, ◌*◌, ◌<◌, ◌==◌, zero, suc, Bool, true, false, not, ◌&&◌, ◌||◌, IsTrue, List, [], ◌∷◌, map, filter, All, arith}
use Rattle.std.specs.Prelude.{ℤ, pos, ◌+ℤ◌, if◌then◌else◌}
use Rattle.std.proofs.lemmas.Bool.{and_parts}
use Rattle.std.proofs.lemmas.List.Sums.{AllPass-from_list_all}
use Rattle.std.proofs.lemmas.List.Elements.{All-head, All-tail, All-filter, All-map, All-weaker}
use Rattle.overlay_geometry.specs.Points.{is_vertical}
use Rattle.overlay_base.specs.Windings.{total, is_not_empty, is_valid}
use Rattle.overlay_base.specs.Segments.{WholeSegment, total_weight}
use Rattle.overlay_base.specs.Planar.{is_splittable, is_arranged}
use Rattle.overlay_geometry.specs.Coordinates.{is_pair_in_range}
use Rattle.overlay_base.specs.Balance.{IsBalanced}
use Rattle.overlay_base.specs.Rules.{differ}
use Rattle.overlay_base.specs.ClipRules.{has_line, is_in_polygon, keeps_clip}
use Rattle.overlay_base.specs.declared.overlay_core.clip_rule.ClipRule.{ClipRule}
use Rattle.overlay_base.specs.declared.overlay_core.fill_rule.FillRule.{FillRule}
use Rattle.overlay_sweep.specs.Fill.{is_inside, flag_value, fill_byte}
use Rattle.overlay_sweep.specs.Sweep.{fill_of}
use Rattle.overlay_sweep.specs.ColumnWindings.{IsSameAlong, side_bottom, side_top, right_winding, left_winding, weights_up_to, column_bottom, column_top}
use Rattle.overlay_sweep.proofs.laws.visits.FillBytes.{without_clip}
use Rattle.overlay_sweep.proofs.laws.columns.Tops.{chains_are_columns}
use Rattle.overlay_build.specs.Graph.{filled, graph_of, graph_by}
use Rattle.overlay_build.specs.Lines.{CountsLines, keeps_between, is_kept_part, clip_graph, IsBalancedClip}
use Rattle.overlay_build.specs.Laws.{FillsTellLines, ClipGraphsAreExact}
use Rattle.overlay_build.proofs.laws.graphs.GraphExact.{HasColumns, HasSides, fill_of-sides, All-sides, kept_on}

-- ---- the four bits of a fill of lines

abbrev fill_of_line : Bool → Bool → ℕ → ℕ
fill_of_line above below mask = flag_value above 1 + flag_value below 2 + 4 * mask

bits_tell : (invert boundary above below : Bool) (mask : ℕ) → mask < 4 →
    (has_line (fill_of_line above below mask) && differ invert (is_in_polygon boundary (fill_of_line above below mask)))
    ≡ (not (mask == 0) && differ invert (if boundary then above || below else above && below))
bits_tell invert boundary true true zero h = refl
bits_tell invert boundary true false zero h = refl
bits_tell invert boundary false true zero h = refl
bits_tell invert boundary false false zero h = refl
bits_tell invert boundary true true (suc zero) h = refl
bits_tell invert boundary true false (suc zero) h = refl
bits_tell invert boundary false true (suc zero) h = refl
bits_tell invert boundary false false (suc zero) h = refl
bits_tell invert boundary true true (suc (suc zero)) h = refl
bits_tell invert boundary true false (suc (suc zero)) h = refl
bits_tell invert boundary false true (suc (suc zero)) h = refl
bits_tell invert boundary false false (suc (suc zero)) h = refl
bits_tell invert boundary true true (suc (suc (suc zero))) h = refl
bits_tell invert boundary true false (suc (suc (suc zero))) h = refl
bits_tell invert boundary false true (suc (suc (suc zero))) h = refl
bits_tell invert boundary false false (suc (suc (suc zero))) h = refl
bits_tell invert boundary above below (suc (suc (suc (suc mask)))) h = absurd (omega (arith, h))

-- a part of a line is kept by what the rule says of the windings on its two sides
pub fills_tell_lines : FillsTellLines
unfolding keeps_clip keeps_between fill_byte
fills_tell_lines rule fill_rule b t mask bottom top h =
    let above : Bool = is_inside fill_rule t.subj in
    let below : Bool = is_inside fill_rule b.subj in
    let sides : ℕ = flag_value above 1 + flag_value below 2 in
    ap (keeps_clip rule) (ap₂ (λ (m n : ℤ). sides + flag_value (is_inside fill_rule m) 4 + flag_value (is_inside fill_rule n) 8 + 4 * mask) top bottom ∙ ap (λ n. n + 4 * mask) (without_clip fill_rule sides))
    ∙ bits_tell rule.invert rule.boundary_included above below mask h

-- ---- nothing winds for the clip

total-no_clip : (xs : List WholeSegment) → All CountsLines xs → (total_weight xs).clip ≡ pos 0
unfolding total_weight total
total-no_clip [] a = refl
total-no_clip (s ∷ xs) a = ap₂ (λ (m n : ℤ). m +ℤ n) (All-head CountsLines s xs a).0 (total-no_clip xs (All-tail CountsLines s xs a))

part-no_clip : (test inner : WholeSegment → Bool) (segments : List WholeSegment) → All CountsLines segments → (total_weight (filter test (filter inner segments))).clip ≡ pos 0
part-no_clip test inner segments a = total-no_clip _ (All-filter test CountsLines (filter inner segments) (All-filter inner CountsLines segments a))

bottom-no_clip : (segments : List WholeSegment) (s : WholeSegment) → All CountsLines segments → (side_bottom segments s).clip ≡ pos 0
unfolding side_bottom right_winding weights_up_to column_bottom
bottom-no_clip segments s a =
    elim (is_vertical s.pair) as (λ v. (if v then right_winding segments s else column_bottom segments s.pair.a.x s).clip ≡ pos 0) [
      | true ↦ part-no_clip _ _ segments a
      | false ↦ part-no_clip _ _ segments a
    ]

top-no_clip : (segments : List WholeSegment) (s : WholeSegment) → All CountsLines segments → CountsLines s → (side_top segments s).clip ≡ pos 0
unfolding side_top left_winding weights_up_to column_top column_bottom
top-no_clip segments s a own =
    elim (is_vertical s.pair) as (λ v. (if v then left_winding segments s else column_top segments s.pair.a.x s).clip ≡ pos 0) [
      | true ↦ part-no_clip _ _ segments a
      | false ↦ ap₂ (λ (m n : ℤ). m +ℤ n) (part-no_clip _ _ segments a) own.0
    ]

-- ---- the graph of the kept parts

kept_part : (rule : ClipRule) (fill_rule : FillRule) (segments : List WholeSegment) (s : WholeSegment) → All CountsLines segments → HasSides segments s → CountsLines s → keeps_clip rule (fill_of fill_rule segments s) ≡ is_kept_part rule fill_rule segments s
unfolding is_kept_part
kept_part rule fill_rule segments s a sides own =
    ap (keeps_clip rule) (fill_of-sides fill_rule segments s sides)
    ∙ fills_tell_lines rule fill_rule (side_bottom segments s) (side_top segments s) s.count.mask (bottom-no_clip segments s a) (top-no_clip segments s a own) own.1

each_part : (rule : ClipRule) (fill_rule : FillRule) (segments xs : List WholeSegment) → All CountsLines segments → All (HasSides segments) xs → All CountsLines xs
    → All (λ s. HasSides segments s × (keeps_clip rule (fill_of fill_rule segments s) ≡ is_kept_part rule fill_rule segments s)) xs
each_part rule fill_rule segments xs a sides own = λ k d l. (sides k d l, kept_part rule fill_rule segments _ a (sides k d l) (own k d l))

pub clip_graphs_are_exact : ClipGraphsAreExact
unfolding graph_by filled clip_graph
clip_graphs_are_exact fill_rule rule segments mapped lines planar balanced =
    ap graph_of (kept_on (keeps_clip rule) (λ s. is_kept_part rule fill_rule segments s) fill_rule segments segments (each_part rule fill_rule segments segments lines (All-sides segments (chains_are_columns segments mapped planar balanced)) lines))

-- ---- arrangements of code's counts of lines

lines_of : {X : Type 0} (whole : X → WholeSegment) → ((x : X) → (whole x).count.clip ≡ pos 0) → (xs : List X) (least greatest : ℤ) → IsTrue (is_splittable least greatest (map whole xs)) → All CountsLines (map whole xs)
unfolding is_splittable
lines_of whole none xs least greatest valid = λ k d l.
    let usable = AllPass-from_list_all (λ (s : WholeSegment). is_pair_in_range least greatest s.pair && is_valid s.count && is_not_empty s.count) (map whole xs) valid k d l in
    let count = (and_parts _ _ (and_parts _ _ usable).0).1 in
    (All-map (λ (s : WholeSegment). s.count.clip ≡ pos 0) whole xs (λ k d l. none _) k d l, ltb-true _ _ (and_parts _ _ count).1)

-- with balanced counts the graph of a clip rule is that of the parts that it keeps by their sides
pub arranged_clip : {X : Type 0} (whole : X → WholeSegment) → ((x : X) → (whole x).count.clip ≡ pos 0) → (xs : List X) (least greatest : ℤ) (rule : ClipRule) (fill_rule : FillRule) → IsTrue (is_arranged least greatest (map whole xs)) → IsBalanced (map whole xs)
    → IsBalancedClip rule fill_rule (map whole xs) (graph_by (keeps_clip rule) fill_rule (map whole xs))
unfolding is_arranged
arranged_clip whole none xs least greatest rule fill_rule arranged balanced =
    let outer = and_parts _ _ arranged in
    let inner = and_parts _ _ outer.0 in
    let columns = chains_are_columns (map whole xs) inner.0 outer.1 balanced in
    record {
      windings = All-weaker (HasColumns (map whole xs)) (IsSameAlong (map whole xs)) (λ s h. h.0) (map whole xs) columns;
      exactly = clip_graphs_are_exact fill_rule rule (map whole xs) inner.0 (lines_of whole none xs least greatest inner.1) outer.1 balanced;
    }
