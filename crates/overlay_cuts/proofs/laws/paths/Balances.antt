-- A cut changes no balance.
use Rattle.std.proofs.Common.{◌≡◌, refl, sym, ap, ap₂, ◌∙◌, List}
use Rattle.std.specs.Prelude.{ℕ, zero, suc, ℤ, pos, ◌*ℤ◌, cond, bit_or}
use Rattle.overlay_geometry.specs.Points.{Point, Pair, point_eq}
use Rattle.overlay_base.specs.Windings.{Winding, swap_directions}
use Rattle.overlay_base.specs.Segments.{WholeSegment, total_weight}
use Rattle.overlay_base.specs.Balance.{balance, starting_at, ending_at}
use Rattle.overlay_base.specs.Sums.{weighed}
use Rattle.overlay_cuts.specs.Path.{pieces}
use Rattle.overlay_cuts.specs.Pass.{cut_by}
use Rattle.overlay_cuts.specs.Laws.{IsOdd, loss, CutKeepsBalance}
use Rattle.overlay_base.proofs.laws.lists.Monoids.{gathered-same}
use Rattle.overlay_base.proofs.laws.joins.Bags.{total_weight-total}
use Rattle.overlay_base.proofs.laws.joins.Functionals.{whole_numbers_add, balance-join, balance-subj, balance-clip}
use Rattle.overlay_base.proofs.laws.counts.Windings.{same_windings}
use Rattle.overlay_cuts.proofs.laws.paths.Cuts.{gathered-cut}
use Rattle.overlay_cuts.proofs.laws.paths.Pieces.{weighed-pieces}

-- what is lost from start to end is the same after a cut
pub weighed-cut : (part : Winding → ℤ) → IsOdd part → (f : Point → ℤ) (marks : Pair → List Point) (segments : List WholeSegment) → weighed (loss f) part (cut_by marks segments) ≡ weighed (loss f) part segments
weighed-cut part odd f marks segments =
    gathered-cut whole_numbers_add (λ s. loss f s.pair *ℤ part s.count) marks segments
    ∙ gathered-same whole_numbers_add (λ (s : WholeSegment). weighed (loss f) part (pieces s (marks s.pair))) (λ s. loss f s.pair *ℤ part s.count)
    (λ s. weighed-pieces part odd f s (marks s.pair)) segments

-- ---- balance

total_weight-mask : (segments : List WholeSegment) → (total_weight segments).mask ≡ 0
total_weight-mask segments = ap (λ (c : Winding). c.mask) (total_weight-total segments)

balance-mask : (segments : List WholeSegment) (p : Point) → (balance segments p).mask ≡ 0
unfolding balance
balance-mask segments p = ap₂ (λ (m n : ℕ). bit_or m (swap_directions n)) (total_weight-mask (starting_at segments p)) (total_weight-mask (ending_at segments p))

balance-cut : (marks : Pair → List Point) (segments : List WholeSegment) (p : Point) → balance (cut_by marks segments) p ≡ balance segments p
balance-cut marks segments p =
    let at_p = λ (q : Point). cond (point_eq q p) (pos 1) (pos 0) in
    same_windings _ _
    (balance-subj (cut_by marks segments) p ∙ weighed-cut (λ c. c.subj) (λ c. refl) at_p marks segments ∙ sym (balance-subj segments p))
    (balance-clip (cut_by marks segments) p ∙ weighed-cut (λ c. c.clip) (λ c. refl) at_p marks segments ∙ sym (balance-clip segments p))
    (balance-mask (cut_by marks segments) p ∙ sym (balance-mask segments p))

-- at whatever marks
pub cut_keeps_balance : CutKeepsBalance
cut_keeps_balance marks segments p = balance-join (cut_by marks segments) p ∙ balance-cut marks segments p
