-- How many comparisons borders take at most, as code counts them.
use Rattle.std.proofs.Common.{◌≡◌, refl, ap, ◌∙◌, ℕ, suc, ◌+◌, ◌*◌, ◌≤◌, arith, Bool, true, false, if◌then◌else◌, List, [], ◌∷◌, length}
use Rattle.std.specs.Prelude.{ℤ, count_by}
use Rattle.std.proofs.lemmas.List.{length-append}
use Rattle.std.proofs.Math.Nat.{mul-suc}
use Rattle.overlay_intersections.specs.MarkOf.{Mark}
use Rattle.overlay_grid.specs.FragmentOf.{KeptFragment}
use Rattle.overlay_grid.specs.steps.FragmentFinder.{looks_of_border, marks_at_heights, marks_of_heights, stands_at}
use Rattle.overlay_grid.proofs.laws.grid.BorderMarks.{few_at_heights, few_of, looks_first, marks_first}
use Rattle.overlay_grid.proofs.laws.grid.GridCounts.{count_by-cons}

-- so many for each vertical segment, and one more of these or not
one_more : (b : Bool) (each n all rest : ℕ) → n ≡ (if b then 1 else 0) + rest → each * rest ≡ all → each * n ≡ (if b then each else 0) + all
one_more true each n all rest e h = let more = ap (λ (k : ℕ). each * k) (let next : n ≡ suc rest = omega (arith, e) in next) ∙ mul-suc each rest in omega (arith, more, h)
one_more false each n all rest e h = let same = ap (λ (k : ℕ). each * k) (let next : n ≡ rest = omega (arith, e) in next) in omega (arith, same, h)

none_looked : (x : ℤ) (left : List KeptFragment) → looks_of_border x left [] ≡ 0
unfolding looks_of_border
none_looked x left = refl

pub looks_counted : (x : ℤ) (left group : List KeptFragment) → length left * count_by (stands_at x) group ≡ looks_of_border x left group
looks_counted x left [] = let none = none_looked x left in omega arith
looks_counted x left (f ∷ group) =
    let looks = looks_first x left f group (stands_at x f) refl in
    let more = one_more (stands_at x f) (length left) (count_by (stands_at x) (f ∷ group)) (looks_of_border x left group) (count_by (stands_at x) group) (count_by-cons (stands_at x) f group) (looks_counted x left group) in
    omega (arith, looks, more)

none_marked : (x : ℤ) (ys : List ℤ) → length (marks_of_heights x ys []) ≡ 0
unfolding marks_of_heights
none_marked x ys = refl

-- so many right ends make no more marks on the vertical segments of a border
pub few_counted : (x : ℤ) (ys : List ℤ) (group : List KeptFragment) → length (marks_of_heights x ys group) ≤ length ys * count_by (stands_at x) group
few_counted x ys [] = let none = none_marked x ys in omega arith
few_counted x ys (f ∷ group) =
    let marks = ap (λ (ms : List Mark). length ms) (marks_first x ys f group (stands_at x f) refl) ∙ length-append (if stands_at x f then marks_at_heights f ys else []) (marks_of_heights x ys group) in
    let here = few_of (stands_at x f) 0 (length ys) (marks_at_heights f ys) (few_at_heights f ys) in
    let more = one_more (stands_at x f) (length ys) (count_by (stands_at x) (f ∷ group)) (length ys * count_by (stands_at x) group) (count_by (stands_at x) group) (count_by-cons (stands_at x) f group) refl in
    let rest = few_counted x ys group in
    omega (arith, marks, here, more, rest)
