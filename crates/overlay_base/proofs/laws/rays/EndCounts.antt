-- The code's counts at the ends of segments: two more for each segment, and what their sums show.
use Rattle.std.proofs.Common.{◌≡◌, ℤ, neg_ℤ, List, [], ◌∷◌, ◌++◌, append_assoc, append-nil, IsPermutation, refl, sym, ap, ap₂, ◌∙◌}
use Rattle.std.specs.Prelude.{◌↔◌}
use Rattle.std.proofs.lemmas.List.{map-append}
use Rattle.std.proofs.lemmas.List.Sorted.{IsPermutation-map}
use Rattle.overlay_geometry.specs.Points.{Point}
use Rattle.overlay_geometry.specs.PointOf.{point_of}
use Rattle.overlay_base.specs.Windings.{Winding, weight, inverse}
use Rattle.overlay_base.specs.Segments.{WholeSegment, winding_at}
use Rattle.overlay_base.specs.Balance.{IsBalanced}
use Rattle.overlay_base.specs.BalanceTest.{point_pair, end_counts}
use Rattle.overlay_base.specs.EndCountOf.{end_count_of, end_counts_of}
use Rattle.overlay_base.specs.declared.segm.balance.EndCount.{EndCount}
use Rattle.overlay_base.proofs.laws.joins.Bags.{winding_at-IsPermutation}
use Rattle.overlay_base.proofs.laws.rays.BalanceTests.{balance_at}
use Rattle.overlay_base.proofs.laws.rays.BalanceWalks.{Cancels}

pub inverse_at : {I : Type 0} (whole : I → ℤ) (e : EndCount I) (p : Point) (c : Winding) → point_of whole e.point ≡ p → e.subj ≡ neg_ℤ c.subj → e.clip ≡ neg_ℤ c.clip
    → end_count_of whole e ≡ record { pair = point_pair p; count = inverse (weight c) }
inverse_at whole e p c h k l = rw (h, k, l) refl

-- one more segment: its count at its first end, and the inverse at its second
pub end_counts-more : {I : Type 0} (whole : I → ℤ) (before after : List (EndCount I)) (a b : EndCount I) (s : WholeSegment) (all rest later : List WholeSegment)
    → end_counts_of whole before ++ end_counts rest ≡ end_counts all → rest ≡ s ∷ later → after ≡ (before ++ a ∷ []) ++ b ∷ []
    → end_count_of whole a ≡ record { pair = point_pair s.pair.a; count = weight s.count } → end_count_of whole b ≡ record { pair = point_pair s.pair.b; count = inverse (weight s.count) }
    → end_counts_of whole after ++ end_counts later ≡ end_counts all
unfolding end_counts
end_counts-more whole before after a b s all rest later is next pushed first second =
    let mapped : end_counts_of whole after ≡ (end_counts_of whole before ++ end_count_of whole a ∷ []) ++ end_count_of whole b ∷ [] =
    ap (end_counts_of whole) pushed ∙ map-append (end_count_of whole) (before ++ a ∷ []) (b ∷ []) ∙ ap (λ xs. xs ++ end_count_of whole b ∷ []) (map-append (end_count_of whole) before (a ∷ [])) in
    ap (λ xs. xs ++ end_counts later) mapped
    ∙ append_assoc (end_counts_of whole before ++ end_count_of whole a ∷ []) (end_count_of whole b ∷ []) (end_counts later)
    ∙ append_assoc (end_counts_of whole before) (end_count_of whole a ∷ []) (end_count_of whole b ∷ end_counts later)
    ∙ ap₂ (λ (x y : WholeSegment). end_counts_of whole before ++ x ∷ y ∷ end_counts later) first second
    ∙ ap (λ xs. end_counts_of whole before ++ end_counts xs) (sym next) ∙ is

pub end_counts-nil : (bag : List WholeSegment) → bag ++ end_counts [] ≡ bag
unfolding end_counts
end_counts-nil bag = append-nil bag

-- their sums at the points are the balances, whatever the order
pub balance_told : {I : Type 0} (whole : I → ℤ) (given sorted : List (EndCount I)) (segments : List WholeSegment) → end_counts_of whole given ≡ end_counts segments → IsPermutation given sorted
    → Cancels (end_counts_of whole sorted) ↔ IsBalanced segments
balance_told whole given sorted segments is moved =
    let told = λ (p : Point).
    sym (balance_at segments p) ∙ ap (λ bag. winding_at bag (point_pair p)) (sym is) ∙ sym (winding_at-IsPermutation (end_counts_of whole given) (end_counts_of whole sorted) (IsPermutation-map (end_count_of whole) given sorted moved) (point_pair p)) in
    (λ none p. told p ∙ none p, λ balanced p. sym (told p) ∙ balanced p)
