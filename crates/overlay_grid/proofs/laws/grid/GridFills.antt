-- The fragments of all segments, column by column.
use Rattle.std.proofs.Common.{◌≡◌, refl, sym, ap, ap₂, subst, ◌∙◌, ℕ, ◌+◌, ◌≤◌, arith, append_assoc, append-nil, Bool, true, false, ◌||◌, List, [], ◌∷◌, ◌++◌, drop}
use Rattle.std.specs.Prelude.{flat_map, sum_by}
use Rattle.std.specs.List.{list_any, range_with_len}
use Rattle.std.proofs.lemmas.List.Sums.{sum_by-cons, sum_by-append}
use Rattle.std.proofs.lemmas.List.Folds.{list_any-append}
use Rattle.overlay_geometry.specs.Points.{Pair}
use Rattle.overlay_intersections.specs.MarkOf.{Mark}
use Rattle.overlay_grid.specs.Grid.{Layout}
use Rattle.overlay_grid.specs.FragmentOf.{KeptFragment, kept_in}
use Rattle.overlay_grid.specs.steps.FragmentFinder.{kept_group}
use Rattle.std.proofs.Math.Nat.{add-zero}
use Rattle.overlay_grid.proofs.laws.grid.GridAdding.{range-more}

pub fill_more : (l l' : Layout) (index : ℕ) (s s' : Pair) (ps : List Pair) (old next total : List KeptFragment) (column : ℕ) → l' ≡ l → s' ≡ s → drop index ps ≡ s ∷ drop (index + 1) ps → next ≡ old ++ kept_in l' index s' column →
    old ++ kept_group l index (drop index ps) column ≡ total → next ++ kept_group l (index + 1) (drop (index + 1) ps) column ≡ total
unfolding kept_group
fill_more l l' index s s' ps old next total column e f d n h =
    let start = rw d at h in
    ap (λ (list : List KeptFragment). list ++ kept_group l (index + 1) (drop (index + 1) ps) column) (n ∙ ap₂ (λ (m : Layout) (t : Pair). old ++ kept_in m index t column) e f)
    ∙ append_assoc old (kept_in l index s column) (kept_group l (index + 1) (drop (index + 1) ps) column) ∙ start

pub fill_end : (l : Layout) (index : ℕ) (ps : List Pair) (old total : List KeptFragment) (column : ℕ) → drop index ps ≡ [] → old ++ kept_group l index (drop index ps) column ≡ total → old ≡ total
unfolding kept_group
fill_end l index ps old total column d h = let end = rw d at h in sym (append-nil old) ∙ end

-- ---- a walk over columns

pub range-next : (n : ℕ) → range_with_len 0 (n + 1) ≡ range_with_len 0 n ++ n ∷ []
range-next n = range-more 0 n ∙ ap (λ (k : ℕ). range_with_len 0 n ++ k ∷ []) (omega arith)

flat_map-append : {X Y : Type 0} (f : X → List Y) (xs ys : List X) → flat_map f (xs ++ ys) ≡ flat_map f xs ++ flat_map f ys
flat_map-append f [] ys = refl
flat_map-append f (x ∷ xs) ys = ap (λ (zs : List _). f x ++ zs) (flat_map-append f xs ys) ∙ sym (append_assoc (f x) (flat_map f xs) (flat_map f ys))

-- where it is: what the columns before one have given
pub record IsOver (marks : ℕ → List Mark) (rounds : ℕ → Bool) (looks : ℕ → ℕ) (old now : List Mark) (rounded : Bool) (first count : ℕ) (n : ℕ) : Type 0 where
  pub found : now ≡ old ++ flat_map marks (range_with_len 0 n)
  pub flag : rounded ≡ list_any rounds (range_with_len 0 n)
  pub counted : count ≤ first + sum_by looks (range_with_len 0 n)

one_list : {X Y : Type 0} (f : X → List Y) (x : X) → flat_map f (x ∷ []) ≡ f x
one_list f x = append-nil (f x)

or_nothing : (b : Bool) → (b || false) ≡ b
or_nothing true = refl
or_nothing false = refl

pub sum-next : (f : ℕ → ℕ) (n : ℕ) → sum_by f (range_with_len 0 (n + 1)) ≡ sum_by f (range_with_len 0 n) + f n
sum-next f n = ap (sum_by f) (range-next n) ∙ sum_by-append f (range_with_len 0 n) (n ∷ []) ∙ ap (λ (k : ℕ). sum_by f (range_with_len 0 n) + k) (sum_by-cons f n [] ∙ add-zero (f n))

pub over-more : (marks : ℕ → List Mark) (rounds : ℕ → Bool) (looks : ℕ → ℕ) (old now next : List Mark) (rounded b : Bool) (first count count' : ℕ) (n : ℕ) → IsOver marks rounds looks old now rounded first count n →
    next ≡ now ++ marks n → b ≡ (rounded || rounds n) → count' ≤ count + looks n → IsOver marks rounds looks old next b first count' (n + 1)
over-more marks rounds looks old now next rounded b first count count' n w m r c =
    let sums = sum-next looks n in
    record {
      found = m ∙ ap (λ (list : List Mark). list ++ marks n) w.found ∙ append_assoc old (flat_map marks (range_with_len 0 n)) (marks n)
          ∙ ap (λ (list : List Mark). old ++ list) (sym (ap (flat_map marks) (range-next n) ∙ flat_map-append marks (range_with_len 0 n) (n ∷ []) ∙ ap (λ (list : List Mark). flat_map marks (range_with_len 0 n) ++ list) (one_list marks n)));
      flag = r ∙ ap (λ (d : Bool). d || rounds n) w.flag ∙ sym (ap (list_any rounds) (range-next n) ∙ list_any-append rounds (range_with_len 0 n) (n ∷ []) ∙ ap (λ (d : Bool). list_any rounds (range_with_len 0 n) || d) (or_nothing (rounds n)));
      counted = (let k = w.counted in omega arith);
    }

pub over-end : (marks : ℕ → List Mark) (rounds : ℕ → Bool) (looks : ℕ → ℕ) (old now : List Mark) (rounded : Bool) (first count : ℕ) (n m : ℕ) → IsOver marks rounds looks old now rounded first count n → n ≡ m → IsOver marks rounds looks old now rounded first count m
over-end marks rounds looks old now rounded first count n m w e = subst (λ (k : ℕ). IsOver marks rounds looks old now rounded first count k) e w
