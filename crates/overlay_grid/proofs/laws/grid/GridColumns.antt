-- Columns of the grid: the column of an x, and the borders of a column.
use Rattle.std.proofs.Common.{◌≡◌, ap, subst, ℕ, zero, suc, ◌+◌, ◌-◌, ◌^◌, ◌<◌, ◌≤◌, ◌∙◌, arith}
use Rattle.std.specs.Prelude.{ℤ, pos, ◌-ℤ◌, ◌≤ℤ◌, ◌<ℤ◌, unsigned_abs}
use Rattle.std.proofs.lemmas.Int.{ints}
use Rattle.std.proofs.lemmas.Nat.{div_below, le-div, mul-le, pow_pos}
use Rattle.std.proofs.Math.Nat.{lt-div-mul-add, div-mul-le_self}
use Rattle.overlay_grid.specs.Grid.{Layout, column_index, pos_of}
use Rattle.overlay_geometry.proofs.laws.integers.Tests.{lt_before}
use Rattle.overlay_geometry.proofs.laws.integers.Products.{abs_nonneg}

-- ---- orders of whole numbers

pub then_less : (u v w : ℤ) → u ≤ℤ v → v <ℤ w → u <ℤ w
then_less u v w h k = omega (arith, ints)

pub less_to : (m u v : ℤ) → m ≤ℤ u → u <ℤ v → m ≤ℤ (v -ℤ pos 1)
less_to m u v h k = omega (arith, ints)

-- ---- columns

-- how far x lies to the right of the grid's left end
pub offset : (l : Layout) (x : ℤ) → l.min_x ≤ℤ x → pos (unsigned_abs (x -ℤ l.min_x)) ≡ x -ℤ l.min_x
offset l x h = abs_nonneg (x -ℤ l.min_x) (omega (arith, ints))

-- the column of x begins at or left of x, and the next one right of it
pub pos_of-column_index : (l : Layout) (x : ℤ) → l.min_x ≤ℤ x → pos_of l (column_index l x) ≤ℤ x
pos_of-column_index l x h =
    let e = offset l x h in
    let d = div-mul-le_self (unsigned_abs (x -ℤ l.min_x)) (2 ^ l.power) in
    omega (arith, ints)

pub pos_of-column_index_next : (l : Layout) (x : ℤ) → l.min_x ≤ℤ x → x <ℤ pos_of l (column_index l x + 1)
pos_of-column_index_next l x h =
    let e = offset l x h in
    let d = lt-div-mul-add {a = unsigned_abs (x -ℤ l.min_x)} (pow_pos l.power) in
    omega (arith, ints)

-- the column of an x right of a border, and of one left of it
pub column_index-from : (l : Layout) (i : ℕ) (x : ℤ) → pos_of l i ≤ℤ x → i ≤ column_index l x
column_index-from l i x h =
    let e = offset l x (omega (arith, ints)) in
    le-div i (unsigned_abs (x -ℤ l.min_x)) (2 ^ l.power) (pow_pos l.power) (omega (arith, ints))

pub column_index-before : (l : Layout) (i : ℕ) (x : ℤ) → l.min_x ≤ℤ x → x <ℤ pos_of l i → column_index l x < i
column_index-before l i x k h =
    let e = offset l x k in
    div_below (unsigned_abs (x -ℤ l.min_x)) (2 ^ l.power) i (pow_pos l.power) (omega (arith, ints))

pub column_index-monotone : (l : Layout) (x y : ℤ) → l.min_x ≤ℤ x → x ≤ℤ y → column_index l x ≤ column_index l y
column_index-monotone l x y h k = column_index-from l (column_index l x) y (let b = pos_of-column_index l x h in omega (arith, ints))

pub pos_of-monotone : (l : Layout) (i j : ℕ) → i ≤ j → pos_of l i ≤ℤ pos_of l j
pos_of-monotone l i j h = let m = mul-le i (2 ^ l.power) j (2 ^ l.power) h (omega arith) in omega (arith, ints)

pub pos_of-next : (l : Layout) (i : ℕ) → pos_of l i <ℤ pos_of l (i + 1)
pos_of-next l i = let m = pow_pos l.power in omega (arith, ints)

less_by_one : (v x : ℤ) → v ≡ x → (x -ℤ pos 1) <ℤ v
less_by_one v x e = omega (arith, ints)

nat_between : (n i : ℕ) → i - 1 ≤ n → n < i → 0 < i → n + 1 ≡ i
nat_between n i h k p = omega arith

-- a border right of the grid's left end is not the first one
first_border : (l : Layout) (i : ℕ) (x : ℤ) → l.min_x <ℤ x → pos_of l i ≡ x → 0 < i
first_border l zero x h e = absurd (omega (arith, ints))
first_border l (suc i) x h e = omega arith

pub column_index-positive : (l : Layout) (x : ℤ) → l.min_x <ℤ x → pos_of l (column_index l x) ≡ x → 0 < column_index l x
column_index-positive l x h e = first_border l (column_index l x) x h e

-- on a border one step to the left leads into the column to the left
pub column_index-left_of_border : (l : Layout) (x : ℤ) → l.min_x <ℤ x → pos_of l (column_index l x) ≡ x → column_index l (x -ℤ pos 1) + 1 ≡ column_index l x
column_index-left_of_border l x h e =
    let i : ℕ = column_index l x in
    let some : 0 < i = column_index-positive l x h e in
    let back : i - 1 + 1 ≡ i = omega arith in
    let border : pos_of l (i - 1 + 1) ≡ x = ap (pos_of l) back ∙ e in
    let step = pos_of-next l (i - 1) in
    let low : i - 1 ≤ column_index l (x -ℤ pos 1) = column_index-from l (i - 1) (x -ℤ pos 1) (lt_before _ _ (subst (λ (z : ℤ). pos_of l (i - 1) <ℤ z) border step)) in
    let high : column_index l (x -ℤ pos 1) < i = column_index-before l i (x -ℤ pos 1) (omega (arith, ints)) (less_by_one _ _ e) in
    nat_between (column_index l (x -ℤ pos 1)) i low high some
