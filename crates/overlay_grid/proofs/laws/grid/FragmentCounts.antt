-- How many fragments segments have, as code counts them.
use Rattle.std.proofs.Common.{◌≡◌, refl, sym, ap, subst, ◌∙◌, ℕ, ◌+◌, ◌-◌, ◌^◌, ◌≤◌, arith, min, Bool, true, false, not, if◌then◌else◌, IsTrue, List, [], ◌∷◌, map, drop, length, length-append}
use Rattle.std.specs.Prelude.{pos, ◌-ℤ◌}
use Rattle.std.specs.List.{range_with_len}
use Rattle.std.proofs.lemmas.List.FromFn.{length-map-range_with_len}
use Rattle.overlay_geometry.specs.Points.{Pair, is_vertical}
use Rattle.overlay_grid.specs.Grid.{Layout, Fragment, column_index, fragment_in, rect_between, fragments}
use Rattle.overlay_grid.specs.GridLooks.{all_fragments, fragment_looks, grid_looks}
use Rattle.overlay_grid.proofs.laws.grid.GridAdding.{fragments_of_vertical}
use Rattle.std.proofs.Math.Nat.{zero-add}

-- one where the segment is vertical
pub length-vertical : (l : Layout) (s : Pair) → IsTrue (is_vertical s) → 1 ≡ length (fragments l s)
length-vertical l s v = ap length (sym (fragments_of_vertical l s v))

spanned : (first last : ℕ) → first ≤ last → last + 1 - first ≡ last - first + 1
spanned first last h = omega arith

-- else one in each column from that of its start to that of its last step
pub length-forward : (l : Layout) (s : Pair) → not (is_vertical s) ≡ true → column_index l s.a.x ≤ column_index l (s.b.x -ℤ pos 1) → column_index l (s.b.x -ℤ pos 1) - column_index l s.a.x + 1 ≡ length (fragments l s)
unfolding fragments
length-forward l s n h =
    let first = column_index l s.a.x in
    let last = column_index l (s.b.x -ℤ pos 1) in
    sym (by (is_vertical s) n ∙ length-map-range_with_len (λ i. fragment_in l s i) first (last + 1 - first) ∙ spanned first last h)
  where
    by : (b : Bool) → not b ≡ true → length (if b then (let part : Fragment = record { column = column_index l s.a.x; rect = rect_between s.a.x s.a.y s.b.x s.b.y } in part) ∷ [] else map (λ i. fragment_in l s i) (range_with_len (column_index l s.a.x) (column_index l (s.b.x -ℤ pos 1) + 1 - column_index l s.a.x)))
        ≡ length (map (λ i. fragment_in l s i) (range_with_len (column_index l s.a.x) (column_index l (s.b.x -ℤ pos 1) + 1 - column_index l s.a.x)))
    by true e = cc
    by false e = refl

-- ---- of all segments

-- where the count is
pub record IsCounting (l : Layout) (ps : List Pair) (count index : ℕ) : Type 0 where
  pub total : min (count + length (all_fragments l (drop index ps))) (2 ^ 128 - 1) ≡ min (length (all_fragments l ps)) (2 ^ 128 - 1)
  pub fits : count ≤ 2 ^ 128 - 1

pub IsCounting-start : (l : Layout) (ps : List Pair) → IsCounting l ps 0 0
IsCounting-start l ps = record { total = ap (λ (n : ℕ). min n (2 ^ 128 - 1)) (zero-add (length (all_fragments l ps))); fits = omega arith }

all_first : (l : Layout) (s : Pair) (ps : List Pair) → length (all_fragments l (s ∷ ps)) ≡ length (fragments l s) + length (all_fragments l ps)
unfolding all_fragments
all_first l s ps = length-append (fragments l s) (all_fragments l ps)

step : (count next one rest total most : ℕ) → min (count + (one + rest)) most ≡ total → next ≡ min (count + one) most → min (next + rest) most ≡ total
step count next one rest total most h n = omega arith

pub IsCounting-more : (l : Layout) (s : Pair) (ps : List Pair) (count next one index : ℕ) → IsCounting l ps count index → drop index ps ≡ s ∷ drop (index + 1) ps → one ≡ length (fragments l s) → next ≡ min (count + one) (2 ^ 128 - 1) →
    IsCounting l ps next (index + 1)
IsCounting-more l s ps count next one index w here is n =
    let total = rw here at w.total in
    let split = subst (λ (k : ℕ). min (count + k) (2 ^ 128 - 1) ≡ min (length (all_fragments l ps)) (2 ^ 128 - 1)) (all_first l s (drop (index + 1) ps)) total in
    record {
      total = step count next (length (fragments l s)) (length (all_fragments l (drop (index + 1) ps))) _ (2 ^ 128 - 1) split (n ∙ ap (λ (k : ℕ). min (count + k) (2 ^ 128 - 1)) is);
      fits = omega (arith, n);
    }

-- at the end no more than there are
pub IsCounting-end : (l : Layout) (ps : List Pair) (count index : ℕ) → IsCounting l ps count index → drop index ps ≡ [] → count ≡ min (length (all_fragments l ps)) (2 ^ 128 - 1)
unfolding all_fragments
IsCounting-end l ps count index w none =
    let total = rw none at w.total in
    last count (min (length (all_fragments l ps)) (2 ^ 128 - 1)) (2 ^ 128 - 1) w.fits total
  where
    last : (count total most : ℕ) → count ≤ most → min (count + 0) most ≡ total → count ≡ total
    last count total most le e = omega arith

-- ---- a tree first, and then the grid

pub tree_within : (l : Layout) (ps : List Pair) (fragments old new : ℕ) → fragments ≡ min (length (all_fragments l ps)) (2 ^ 128 - 1) → new ≤ old + fragments → new ≤ old + grid_looks l ps
unfolding grid_looks
tree_within l ps fragments old new n h = omega (arith, n)

pub columns_within : (l : Layout) (ps : List Pair) (old new : ℕ) → new ≤ old + fragment_looks l ps → new ≤ old + grid_looks l ps
unfolding grid_looks
columns_within l ps old new h = omega (arith, h)

pub both_within : (l : Layout) (ps : List Pair) (fragments old middle last : ℕ) → fragments ≡ min (length (all_fragments l ps)) (2 ^ 128 - 1) → middle ≤ old + fragments → last ≤ middle + fragment_looks l ps → last ≤ old + grid_looks l ps
unfolding grid_looks
both_within l ps fragments old middle last n h k = omega (arith, n)
