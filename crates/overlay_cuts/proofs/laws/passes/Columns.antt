-- The columns of points, cut off one by one from the front, and the path through them.
use Rattle.std.proofs.Common.{◌≡◌, ℕ, suc, ◌+◌, ◌-◌, ◌<◌, Bool, true, false, cond, List, [], ◌∷◌, ◌++◌, map, length, take, drop, reverse, Result, Ok, Err, OnOk, Some, None, refl, sym, ap, ap₂, subst, ◌∙◌, arith, append_assoc}
use Rattle.std.specs.Prelude.{ℤ, int_lt, if◌then◌else◌, unwrap_or, slice_get}
use Rattle.std.proofs.lemmas.List.{map-append, reverse-append, take-map, drop-map, length-drop}
use Rattle.std.specs.List.{prefix_len}
use Rattle.std.specs.Ordering.{int_eq}
use Rattle.std.proofs.lemmas.Int.{ints}
use Rattle.std.proofs.lemmas.Cmp.{int_eq_equiv}
use Rattle.std.proofs.lemmas.Bool.Decides.{Decides-int_eq}
use Rattle.overlay_geometry.specs.Points.{Point}
use Rattle.overlay_cuts.specs.Path.{onto_columns, columns_in_order, next_point, last_point, column_path, path_from}
use Rattle.overlay_cuts.specs.steps.PathSteps.{first_point}
use Rattle.overlay_cuts.proofs.laws.paths.Pieces.{last_point-append}

-- ---- how long the first column is

-- how many points in front have this x
abbrev block_len : ℤ → List Point → ℕ
block_len x points = prefix_len (λ p. int_eq p.x x) points

block_len-same : (x : ℤ) (p : Point) (points : List Point) → int_eq p.x x ≡ true → block_len x (p ∷ points) ≡ suc (block_len x points)
block_len-same x p points e = ap (λ b. cond b (1 + block_len x points) 0) e ∙ omega arith

block_len-other : (x : ℤ) (p : Point) (points : List Point) → int_eq p.x x ≡ false → block_len x (p ∷ points) ≡ 0
block_len-other x p points e = ap (λ b. cond b (1 + block_len x points) 0) e

prefix_len-map : {X Y : Type 0} (q : Y → Bool) (f : X → Y) (xs : List X) → prefix_len q (map f xs) ≡ prefix_len (λ x. q (f x)) xs
prefix_len-map q f [] = refl
prefix_len-map q f (x ∷ xs) = ap (λ (n : ℕ). cond (q (f x)) (1 + n) 0) (prefix_len-map q f xs)

-- ---- the first column

abbrev column_of : List Point → ℤ → List Point
column_of points x = take (block_len x points) points

abbrev past_column : List Point → ℤ → List Point
past_column points x = drop (block_len x points) points

onto_columns-same : (p q : Point) (column : List Point) (columns : List (List Point)) → int_eq p.x q.x ≡ true → onto_columns p ((q ∷ column) ∷ columns) ≡ (p ∷ q ∷ column) ∷ columns
unfolding onto_columns
onto_columns-same p q column columns e = ap (λ b. if b then (p ∷ q ∷ column) ∷ columns else (p ∷ []) ∷ (q ∷ column) ∷ columns) e

onto_columns-other : (p q : Point) (column : List Point) (columns : List (List Point)) → int_eq p.x q.x ≡ false → onto_columns p ((q ∷ column) ∷ columns) ≡ (p ∷ []) ∷ (q ∷ column) ∷ columns
unfolding onto_columns
onto_columns-other p q column columns e = ap (λ b. if b then (p ∷ q ∷ column) ∷ columns else (p ∷ []) ∷ (q ∷ column) ∷ columns) e

columns-cons : (p : Point) (points : List Point) → columns_in_order (p ∷ points) ≡ onto_columns p (columns_in_order points)
unfolding columns_in_order
columns-cons p points = refl

columns-nil : columns_in_order [] ≡ []
unfolding columns_in_order
columns-nil = refl

one_column : (p : Point) → onto_columns p [] ≡ (p ∷ []) ∷ []
unfolding onto_columns
one_column p = refl

-- of some points, the column of the first is its block
pub columns-first : (p : Point) (points : List Point) → columns_in_order (p ∷ points) ≡ (p ∷ column_of points p.x) ∷ columns_in_order (past_column points p.x)
columns-first p [] = columns-cons p [] ∙ ap (onto_columns p) columns-nil ∙ one_column p ∙ rw columns-nil refl
columns-first p (q ∷ points) = by (int_eq q.x p.x) refl (columns-first q points)
  where
    by : (b : Bool) → int_eq q.x p.x ≡ b → columns_in_order (q ∷ points) ≡ (q ∷ column_of points q.x) ∷ columns_in_order (past_column points q.x)
        → columns_in_order (p ∷ q ∷ points) ≡ (p ∷ column_of (q ∷ points) p.x) ∷ columns_in_order (past_column (q ∷ points) p.x)
    by true e ih =
        let x : q.x ≡ p.x = (Decides-int_eq q.x p.x).0 e in
        let back : int_eq p.x q.x ≡ true = ap (λ z. int_eq p.x z) x ∙ int_eq_equiv.refl p.x in
        let block : block_len p.x (q ∷ points) ≡ suc (block_len q.x points) = block_len-same p.x q points e ∙ ap (λ z. suc (block_len z points)) (sym x) in
        columns-cons p (q ∷ points) ∙ ap (onto_columns p) ih ∙ onto_columns-same p q _ _ back ∙ sym (ap (λ n. (p ∷ take n (q ∷ points)) ∷ columns_in_order (drop n (q ∷ points))) block)
    by false e ih =
        let back : int_eq p.x q.x ≡ false = sym (turned q.x p.x) ∙ e in
        let block : block_len p.x (q ∷ points) ≡ 0 = block_len-other p.x q points e in
        columns-cons p (q ∷ points) ∙ ap (onto_columns p) ih ∙ onto_columns-other p q _ _ back ∙ ap (λ l. (p ∷ []) ∷ l) (sym ih)
        ∙ sym (ap (λ n. (p ∷ take n (q ∷ points)) ∷ columns_in_order (drop n (q ∷ points))) block)
      where
        turned : (a b : ℤ) → int_eq a b ≡ int_eq b a
        turned a b = grind (arith, ints)

-- ---- a column, run through

map-reverse : {X Y : Type 0} (f : X → Y) (xs : List X) → map f (reverse xs) ≡ reverse (map f xs)
map-reverse f [] = refl
map-reverse f (x ∷ xs) = ap (map f) (reverse-append (x ∷ []) xs) ∙ map-append f (reverse xs) (x ∷ []) ∙ ap (λ l. l ++ f x ∷ []) (map-reverse f xs) ∙ sym (reverse-append (f x ∷ []) (map f xs))

OnOk-weaker : {T E P Q : Type 0} (r : Result T E) → (P → Q) → OnOk r P → OnOk r Q
OnOk-weaker (Ok x) f h = f h
OnOk-weaker (Err e) f h = h

module _ {X Y : Type 0} (g : X → Y) (h : Y → Point) where
  map-both : (xs : List X) → map h (map g xs) ≡ map (λ x. h (g x)) xs
  map-both [] = refl
  map-both (x ∷ xs) = ap (λ l. h (g x) ∷ l) (map-both xs)

  map-reversed : (xs : List X) → map h (map g (reverse xs)) ≡ reverse (map (λ x. h (g x)) xs)
  map-reversed xs = map-both (reverse xs) ∙ map-reverse (λ x. h (g x)) xs

  column_path-downward : (before next : Point) (column : List X) → int_lt next.y before.y ≡ true → column_path before (map (λ x. h (g x)) column) next ≡ reverse (map (λ x. h (g x)) column)
  unfolding column_path
  column_path-downward before next column e = ap (λ b. if b then reverse (map (λ x. h (g x)) column) else map (λ x. h (g x)) column) e

  column_path-upward : (before next : Point) (column : List X) → int_lt next.y before.y ≡ false → column_path before (map (λ x. h (g x)) column) next ≡ map (λ x. h (g x)) column
  unfolding column_path
  column_path-upward before next column e = ap (λ b. if b then reverse (map (λ x. h (g x)) column) else map (λ x. h (g x)) column) e

  pub appended_down : {T E : Type 0} (r : Result T E) (old new : List Y) (column : List X) (before next : Point) → int_lt next.y before.y ≡ true → OnOk r (new ≡ old ++ map g (reverse column))
      → OnOk r (map h new ≡ map h old ++ column_path before (map (λ x. h (g x)) column) next)
  appended_down r old new column before next e = OnOk-weaker r (λ k. ap (map h) k ∙ map-append h old (map g (reverse column)) ∙ ap (λ l. map h old ++ l) (map-reversed column ∙ sym (column_path-downward before next column e)))

  pub appended_up : {T E : Type 0} (r : Result T E) (old new : List Y) (column : List X) (before next : Point) → int_lt next.y before.y ≡ false → OnOk r (new ≡ old ++ map g column)
      → OnOk r (map h new ≡ map h old ++ column_path before (map (λ x. h (g x)) column) next)
  appended_up r old new column before next e = OnOk-weaker r (λ k. ap (map h) k ∙ map-append h old (map g column) ∙ ap (λ l. map h old ++ l) (map-both column ∙ sym (column_path-upward before next column e)))

-- ---- the path, column by column

path-cons : (before : Point) (column : List Point) (columns : List (List Point)) (b : Point) → path_from before (column ∷ columns) b
    ≡ column_path before column (next_point columns b) ++ path_from (last_point before (column_path before column (next_point columns b))) columns b
unfolding path_from
path-cons before column columns b = refl

path-nil : (before b : Point) → path_from before [] b ≡ b ∷ []
unfolding path_from
path-nil before b = refl

next_point-columns : (points : List Point) (b : Point) → next_point (columns_in_order points) b ≡ first_point points b
unfolding next_point
next_point-columns [] b = ap (λ c. next_point c b) columns-nil
next_point-columns (p ∷ points) b = ap (λ c. next_point c b) (columns-first p points)

-- how far a path is collected: done is what is there, rest the marks that are left
unfoldable pub IsCollected : (a b : Point) (all done rest : List Point) → Type 0
IsCollected a b all done rest = path_from a (columns_in_order all) b ≡ done ++ path_from (last_point a done) (columns_in_order rest) b

pub IsCollected-start : (a b : Point) (all : List Point) → IsCollected a b all [] all
unfolding IsCollected last_point
IsCollected-start a b all = refl

pub IsCollected-column : (a b : Point) (all done rest : List Point) (p : Point) (points : List Point) (n : ℕ) → rest ≡ p ∷ points → n ≡ block_len p.x rest → IsCollected a b all done rest
    → IsCollected a b all (done ++ column_path (last_point a done) (take n rest) (first_point (drop n rest) b)) (drop n rest)
unfolding IsCollected
IsCollected-column a b all done rest p points n e block c =
    let same : block_len p.x (p ∷ points) ≡ suc (block_len p.x points) = block_len-same p.x p points (int_eq_equiv.refl p.x) in
    let at : columns_in_order rest ≡ take n rest ∷ columns_in_order (drop n rest) =
    ap columns_in_order e ∙ columns-first p points
    ∙ sym (ap (λ k. take k (p ∷ points) ∷ columns_in_order (drop k (p ∷ points))) same)
    ∙ sym (ap₂ (λ k l. take k l ∷ columns_in_order (drop k l)) (block ∙ ap (block_len p.x) e) e) in
    let here = column_path (last_point a done) (take n rest) (first_point (drop n rest) b) in
    let next = next_point-columns (drop n rest) b in
    c ∙ ap (λ columns. done ++ path_from (last_point a done) columns b) at
    ∙ ap (λ l. done ++ l) (path-cons (last_point a done) (take n rest) (columns_in_order (drop n rest)) b
    ∙ ap (λ q. column_path (last_point a done) (take n rest) q ++ path_from (last_point (last_point a done) (column_path (last_point a done) (take n rest) q)) (columns_in_order (drop n rest)) b) next)
    ∙ sym (append_assoc done here (path_from (last_point (last_point a done) here) (columns_in_order (drop n rest)) b))
    ∙ ap (λ q. (done ++ here) ++ path_from q (columns_in_order (drop n rest)) b) (sym (last_point-append a done here))

pub IsCollected-end : (a b : Point) (all done rest : List Point) → rest ≡ [] → IsCollected a b all done rest → done ++ b ∷ [] ≡ path_from a (columns_in_order all) b
unfolding IsCollected
IsCollected-end a b all done rest e c =
    sym (c ∙ ap (λ l. done ++ path_from (last_point a done) (columns_in_order l) b) e ∙ ap (λ columns. done ++ path_from (last_point a done) columns b) columns-nil ∙ ap (λ l. done ++ l) (path-nil (last_point a done) b))

-- the last point of a path, read from the end
pub last_point-read : {X : Type 0} (f : X → Point) (a : X) (xs : List X) → last_point (f a) (map f xs) ≡ f (unwrap_or (slice_get xs (length xs - 1)) a)
unfolding last_point
last_point-read f a [] = refl
last_point-read f a (x ∷ []) = refl
last_point-read f a (x ∷ y ∷ xs) =
    let next : length (x ∷ y ∷ xs) - 1 ≡ suc (length (y ∷ xs) - 1) = omega arith in
    last_point-read f a (y ∷ xs) ∙ sym (ap (λ n. f (unwrap_or (slice_get (x ∷ y ∷ xs) n) a)) next)

-- ---- one turn of a loop that collects a path: g is the point of a mark, h that of a path's point

module _ {X Y : Type 0} (g : X → Point) (h : Y → Point) where
  pub IsCollected-next : (a b : Point) (all rest : List X) (old new : List Y) (first : X) (n : ℕ) → slice_get rest 0 ≡ Some first → n ≡ prefix_len (λ m. int_eq (g m).x (g first).x) rest
      → IsCollected a b (map g all) (map h old) (map g rest)
      → map h new ≡ map h old ++ column_path (last_point a (map h old)) (map g (take n rest)) (first_point (map g (drop n rest)) b)
      → IsCollected a b (map g all) (map h new) (map g (drop n rest))
  IsCollected-next a b all [] old new first n f block c put = cc
  IsCollected-next a b all (x ∷ xs) old new first n f block c put =
      let same : x ≡ first = cc in
      let block' : n ≡ block_len (g x).x (map g (x ∷ xs)) = block ∙ ap (λ y. prefix_len (λ m. int_eq (g m).x (g y).x) (x ∷ xs)) (sym same) ∙ sym (prefix_len-map (λ p. int_eq p.x (g x).x) g (x ∷ xs)) in
      let step = IsCollected-column a b (map g all) (map h old) (map g (x ∷ xs)) (g x) (map g xs) n refl block' c in
      let front : take n (map g (x ∷ xs)) ≡ map g (take n (x ∷ xs)) = take-map g n (x ∷ xs) in
      let back : drop n (map g (x ∷ xs)) ≡ map g (drop n (x ∷ xs)) = drop-map g n (x ∷ xs) in
      let written : map h old ++ column_path (last_point a (map h old)) (take n (map g (x ∷ xs))) (first_point (drop n (map g (x ∷ xs))) b) ≡ map h new =
      ap₂ (λ t d. map h old ++ column_path (last_point a (map h old)) t (first_point d b)) front back ∙ sym put in
      let moved : IsCollected a b (map g all) (map h new) (drop n (map g (x ∷ xs))) = subst (λ l. IsCollected a b (map g all) l (drop n (map g (x ∷ xs)))) written step in
      subst (λ l. IsCollected a b (map g all) (map h new) l) back moved

pub fewer : {X : Type 0} (g : X → Point) (rest : List X) (first : X) (n : ℕ) → slice_get rest 0 ≡ Some first → n ≡ prefix_len (λ m. int_eq (g m).x (g first).x) rest → length (drop n rest) < length rest
fewer g [] first n f block = cc
fewer g (x ∷ xs) first n f block =
    let same : x ≡ first = cc in
    let some : n ≡ suc (block_len (g x).x (map g xs)) = block ∙ ap (λ y. prefix_len (λ m. int_eq (g m).x (g y).x) (x ∷ xs)) (sym same) ∙ sym (prefix_len-map (λ p. int_eq p.x (g x).x) g (x ∷ xs)) ∙ block_len-same (g x).x (g x) (map g xs) (int_eq_equiv.refl (g x).x) in
    omega (arith, length-drop n (x ∷ xs))

pub none_left : {X : Type 0} (xs : List X) → slice_get xs 0 ≡ None → xs ≡ []
none_left [] h = refl
none_left (x ∷ xs) h = cc
