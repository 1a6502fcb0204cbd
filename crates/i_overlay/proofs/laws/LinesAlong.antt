-- Lines along the parts of what is given: where counts are kept, so are lines.
use Rattle.std.proofs.Common.{◌≡◌, refl, sym, ap, ◌∙◌, ℕ, zero, suc, ◌≤◌, ◌==◌, true, false, not, ◌&&◌, ◌||◌, cond, List, [], ◌∷◌, filter, arith}
use Rattle.std.specs.Prelude.{bit_or}
use Rattle.std.specs.List.{list_any}
use Rattle.std.specs.Int.Bits.{or_zero_l}
use Rattle.std.proofs.lemmas.Bool.{ne_eqb, or_left}
use Rattle.std.proofs.lemmas.Nat.{le_or_l}
use Rattle.overlay_geometry.specs.Points.{Pair}
use Rattle.overlay_base.specs.Windings.{Winding, total}
use Rattle.overlay_base.specs.Segments.{WholeSegment, counts}
use Rattle.overlay_cuts.specs.ExactInput.{contains_pair, count_along, KeepsCounts}
use Rattle.i_overlay.specs.LinesAlong.{has_line_along, KeepsLines}

-- masks that are joined are there where one of them is
or_some : (m n : ℕ) → not (bit_or m n == 0) ≡ (not (m == 0) || not (n == 0))
or_some zero n = ap (λ k. not (k == 0)) (or_zero_l n)
or_some (suc m) n =
    let more : suc m ≤ bit_or (suc m) n = le_or_l (suc m) n in
    ap not (ne_eqb (bit_or (suc m) n) 0 (λ z. omega (arith, z, more))) ∙ sym (or_left (not (suc m == 0)) (not (n == 0)) (ap not (ne_eqb (suc m) 0 (λ z. omega (arith, z)))))

-- the counts along a pair have a mask where a line runs along it
line_by_count : (segments : List WholeSegment) (e : Pair) → not ((count_along segments e).mask == 0) ≡ has_line_along segments e
unfolding count_along total has_line_along
line_by_count [] e = refl
line_by_count (s ∷ segments) e =
    elim (contains_pair s.pair e) as (λ b. not ((total (counts (cond b (s ∷ filter (λ u. contains_pair u.pair e) segments) (filter (λ u. contains_pair u.pair e) segments)))).mask == 0) ≡ ((b && not (s.count.mask == 0)) || list_any (λ u. contains_pair u.pair e && not (u.count.mask == 0)) segments)) [
      | true ↦ or_some s.count.mask (count_along segments e).mask ∙ ap (λ b. not (s.count.mask == 0) || b) (line_by_count segments e)
      | false ↦ line_by_count segments e
    ]

pub lines_kept : (given segments : List WholeSegment) → KeepsCounts given segments → KeepsLines given segments
lines_kept given segments kept e elementary =
    sym (line_by_count segments e) ∙ ap (λ (w : Winding). not (w.mask == 0)) (kept.0 e elementary) ∙ line_by_count given e
