-- Groups of walks, and their walks and links.
use Rattle.std.proofs.Common.{◌≡◌, ℕ, zero, suc, ◌<◌, ◌≤◌, ◌==◌, inl, inr, Bool, cond, List, [], ◌∷◌, ◌++◌, map, length, get_or, refl, sym, ap, subst, ◌∙◌, arith}
use Rattle.std.specs.Prelude.{count_by, flat_map}
use Rattle.std.proofs.lemmas.Bool.{cases_Bool, eqb-true}
use Rattle.std.proofs.lemmas.List.{map-append}
use Rattle.std.proofs.lemmas.List.Sums.{sum_by-cons}
use Rattle.overlay_geometry.proofs.laws.lists.Lists.{Has, Has-append_left, Has-append_right}
use Rattle.overlay_shapes.specs.Gathered.{all_walks, all_links, group_at}
use Rattle.overlay_shapes.proofs.laws.CutWalks.{count_by-both}
use Rattle.overlay_contours.proofs.laws.ShapeCounts.{times-more}

pub walk_of_group : (groups : List (List (List ℕ))) (k : ℕ) (g : List (List ℕ)) (w : List ℕ) → k < length groups → get_or groups k g ≡ g → Has g w → Has (all_walks groups) w
walk_of_group [] k g w h e m = absurd (omega (arith, h))
walk_of_group (y ∷ groups) zero g w h e m = Has-append_left y (all_walks groups) w (subst (λ v. Has v w) (sym e) m)
walk_of_group (y ∷ groups) (suc k) g w h e m = Has-append_right y (all_walks groups) w (walk_of_group groups k g w (omega (arith, h)) e m)

-- what is made of each walk is made of all
pub all_mapped_walks : {X : Type 0} (f : List ℕ → X) (groups : List (List (List ℕ))) → flat_map (λ s. s) (map (map f) groups) ≡ map f (all_walks groups)
all_mapped_walks f [] = refl
all_mapped_walks f (g ∷ groups) = ap (λ l. map f g ++ l) (all_mapped_walks f groups) ∙ sym (map-append f g (all_walks groups))

pub walk_at : (groups : List (List (List ℕ))) (k : ℕ) (w : List ℕ) → k < length groups → Has (group_at groups k) w → Has (all_walks groups) w
walk_at [] k w h m = absurd (omega (arith, h))
walk_at (y ∷ groups) zero w h m = Has-append_left y (all_walks groups) w m
walk_at (y ∷ groups) (suc k) w h m = Has-append_right y (all_walks groups) w (walk_at groups k w (omega (arith, h)) m)

-- ---- links of walks, by how often they are there

abbrev flag : Bool → ℕ
flag b = cond b 1 0

pub Has-counted : (xs : List ℕ) (i : ℕ) → 0 < count_by (λ j. j == i) xs → Has xs i
Has-counted [] i h = absurd (omega (arith, h))
Has-counted (x ∷ xs) i h = elim (cases_Bool (x == i)) [
  | inl e ↦ inl (eqb-true x i e)
  | inr e ↦ (let m = sum_by-cons (λ j. flag (j == i)) x xs in let z = ap flag e in inr (Has-counted xs i (omega (arith, h, m, z))))
]

pub walk-count : (walks : List (List ℕ)) (c : List ℕ) (i : ℕ) → Has walks c → count_by (λ j. j == i) c ≤ count_by (λ j. j == i) (all_links walks)
walk-count [] c i m = absurd m
walk-count (y ∷ walks) c i (inl e) = let both = count_by-both (λ j. j == i) y (all_links walks) in let same = ap (count_by (λ j. j == i)) e in omega (arith, both, same)
walk-count (y ∷ walks) c i (inr m) = let both = count_by-both (λ j. j == i) y (all_links walks) in let r = walk-count walks c i m in omega (arith, both, r)

pub group-count : (groups : List (List (List ℕ))) (k i : ℕ) → k < length groups → count_by (λ j. j == i) (all_links (group_at groups k)) ≤ count_by (λ j. j == i) (all_links (all_walks groups))
group-count [] k i h = absurd (omega (arith, h))
group-count (y ∷ groups) zero i h = let e = times-more i y groups in omega (arith, e)
group-count (y ∷ groups) (suc k) i h = let e = times-more i y groups in let r = group-count groups k i (omega (arith, h)) in omega (arith, e, r)
