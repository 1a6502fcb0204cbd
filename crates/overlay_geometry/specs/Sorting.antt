-- Lists in the order of a comparison: sorted, each key once, repeats, the greatest.
use Rattle.std.specs.Prelude.{Bool, true, false, if◌then◌else◌, ◌&&◌, ◌||◌, List, [], ◌∷◌, Option}
use Rattle.std.specs.List.{reduce, list_any}
use Rattle.std.specs.BTreeSet.{insert_key}
use Rattle.std.specs.declared.cmp.Ordering.{Ordering}
use Rattle.std.specs.Ordering.{is_lt}

-- the keys of a list in order, each once
unfoldable pub distinct_in_order : {K : Type 0} → (K → K → Ordering) → List K → List K
distinct_in_order cmp [] = []
distinct_in_order cmp (x ∷ xs) = insert_key cmp (distinct_in_order cmp xs) x

-- whether each key comes before the next
unfoldable pub is_strictly_sorted : {K : Type 0} → (K → K → Ordering) → List K → Bool
is_strictly_sorted cmp [] = true
is_strictly_sorted cmp (x ∷ []) = true
is_strictly_sorted cmp (x ∷ y ∷ ys) = is_lt (cmp x y) && is_strictly_sorted cmp (y ∷ ys)

-- whether two places hold equal keys
unfoldable pub has_repeat : {K : Type 0} → (K → K → Bool) → List K → Bool
has_repeat eq [] = false
has_repeat eq (x ∷ xs) = list_any (λ y. eq x y) xs || has_repeat eq xs

-- x before the first key that is not less
unfoldable pub insert_before_ties : {K : Type 0} → (K → K → Ordering) → K → List K → List K
insert_before_ties cmp x [] = x ∷ []
insert_before_ties cmp x (y ∷ ys) = if is_lt (cmp y x) then y ∷ insert_before_ties cmp x ys else x ∷ y ∷ ys

-- the keys of a list in order; keys that tie stay as they are
unfoldable pub stably_sorted : {K : Type 0} → (K → K → Ordering) → List K → List K
stably_sorted cmp [] = []
stably_sorted cmp (x ∷ xs) = insert_before_ties cmp x (stably_sorted cmp xs)

-- the greatest key, of several the last
unfoldable pub greatest : {K : Type 0} → (K → K → Ordering) → List K → Option K
greatest cmp keys = reduce (λ best x. if is_lt (cmp x best) then best else x) keys
