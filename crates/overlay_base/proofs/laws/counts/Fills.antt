-- What rules say of the bits of fills and tables, as code reads bits.
use Rattle.std.proofs.Common.{◌≡◌, refl, ap, ap₂, ◌∙◌, ℕ, ◌*◌, ◌^◌, ◌-◌, zero, suc, ◌<◌, nat_eq, arith, Bool, true, false, not, ◌&&◌}
use Rattle.std.specs.Prelude.{bit_and}
use Rattle.std.specs.Int.{bit_at}
use Rattle.std.proofs.lemmas.Bool.{eq-eqb, ne_eqb}
use Rattle.std.proofs.lemmas.Nat.Bits.{and_pow, bit_at-lt}
use Rattle.std.proofs.lemmas.Bool.{and_parts}
use Rattle.std.proofs.Math.Bool.{beq}
use Rattle.overlay_base.specs.Rules.{differ, bit, holds, table_holds, top_value, bottom_value, keeps_fill}
use Rattle.overlay_base.specs.RuleLaws.{SameKeepTheSame, OppositesKeepTheSame, RulesAreTheirTables, ComplementsAreOpposite}
use Rattle.overlay_base.specs.declared.overlay_core.overlay_rule.OverlayRule.TheVariants.{Subject, Clip, Intersect, Union, Difference, InverseDifference, Xor, Table}

-- what holds of each of the sixteen
pub below_sixteen : (P : ℕ → Type 0) → P 0 → P 1 → P 2 → P 3 → P 4 → P 5 → P 6 → P 7 → P 8 → P 9 → P 10 → P 11 → P 12 → P 13 → P 14 → P 15 → (n : ℕ) → n < 16 → P n
below_sixteen P h0 h1 h2 h3 h4 h5 h6 h7 h8 h9 h10 h11 h12 h13 h14 h15 zero l = h0
below_sixteen P h0 h1 h2 h3 h4 h5 h6 h7 h8 h9 h10 h11 h12 h13 h14 h15 (suc zero) l = h1
below_sixteen P h0 h1 h2 h3 h4 h5 h6 h7 h8 h9 h10 h11 h12 h13 h14 h15 (suc (suc zero)) l = h2
below_sixteen P h0 h1 h2 h3 h4 h5 h6 h7 h8 h9 h10 h11 h12 h13 h14 h15 (suc (suc (suc zero))) l = h3
below_sixteen P h0 h1 h2 h3 h4 h5 h6 h7 h8 h9 h10 h11 h12 h13 h14 h15 (suc (suc (suc (suc zero)))) l = h4
below_sixteen P h0 h1 h2 h3 h4 h5 h6 h7 h8 h9 h10 h11 h12 h13 h14 h15 (suc (suc (suc (suc (suc zero))))) l = h5
below_sixteen P h0 h1 h2 h3 h4 h5 h6 h7 h8 h9 h10 h11 h12 h13 h14 h15 (suc (suc (suc (suc (suc (suc zero)))))) l = h6
below_sixteen P h0 h1 h2 h3 h4 h5 h6 h7 h8 h9 h10 h11 h12 h13 h14 h15 (suc (suc (suc (suc (suc (suc (suc zero))))))) l = h7
below_sixteen P h0 h1 h2 h3 h4 h5 h6 h7 h8 h9 h10 h11 h12 h13 h14 h15 (suc (suc (suc (suc (suc (suc (suc (suc zero)))))))) l = h8
below_sixteen P h0 h1 h2 h3 h4 h5 h6 h7 h8 h9 h10 h11 h12 h13 h14 h15 (suc (suc (suc (suc (suc (suc (suc (suc (suc zero))))))))) l = h9
below_sixteen P h0 h1 h2 h3 h4 h5 h6 h7 h8 h9 h10 h11 h12 h13 h14 h15 (suc (suc (suc (suc (suc (suc (suc (suc (suc (suc zero)))))))))) l = h10
below_sixteen P h0 h1 h2 h3 h4 h5 h6 h7 h8 h9 h10 h11 h12 h13 h14 h15 (suc (suc (suc (suc (suc (suc (suc (suc (suc (suc (suc zero))))))))))) l = h11
below_sixteen P h0 h1 h2 h3 h4 h5 h6 h7 h8 h9 h10 h11 h12 h13 h14 h15 (suc (suc (suc (suc (suc (suc (suc (suc (suc (suc (suc (suc zero)))))))))))) l = h12
below_sixteen P h0 h1 h2 h3 h4 h5 h6 h7 h8 h9 h10 h11 h12 h13 h14 h15 (suc (suc (suc (suc (suc (suc (suc (suc (suc (suc (suc (suc (suc zero))))))))))))) l = h13
below_sixteen P h0 h1 h2 h3 h4 h5 h6 h7 h8 h9 h10 h11 h12 h13 h14 h15 (suc (suc (suc (suc (suc (suc (suc (suc (suc (suc (suc (suc (suc (suc zero)))))))))))))) l = h14
below_sixteen P h0 h1 h2 h3 h4 h5 h6 h7 h8 h9 h10 h11 h12 h13 h14 h15 (suc (suc (suc (suc (suc (suc (suc (suc (suc (suc (suc (suc (suc (suc (suc zero))))))))))))))) l = h15
below_sixteen P h0 h1 h2 h3 h4 h5 h6 h7 h8 h9 h10 h11 h12 h13 h14 h15 (suc (suc (suc (suc (suc (suc (suc (suc (suc (suc (suc (suc (suc (suc (suc (suc n)))))))))))))))) l = absurd (omega arith)

-- ---- bits, as masks of one bit read them

by_bit : (b m : ℕ) → b < 2 → 0 < m → not (nat_eq (b * m) 0) ≡ nat_eq b 1
by_bit zero m l some = ap not (eq-eqb (0 * m) 0 (omega arith))
by_bit (suc zero) m l some = ap not (ne_eqb (1 * m) 0 (λ e. omega (arith, e, some)))
by_bit (suc (suc b)) m l some = absurd (omega (arith, l))

pub flag_tells : (f k : ℕ) → 0 < 2 ^ k → not (nat_eq (bit_and f (2 ^ k)) 0) ≡ bit f k
flag_tells f k some = ap (λ n. not (nat_eq n 0)) (and_pow f k) ∙ by_bit (bit_at f k) (2 ^ k) (bit_at-lt f k) some

-- ---- tables

pub same_keep_the_same : SameKeepTheSame
unfolding keeps_fill top_value bottom_value
same_keep_the_same rule other same fill = ap₂ differ (same (bit fill 0) (bit fill 2)) (same (bit fill 1) (bit fill 3))

both_opposite : (a b : Bool) → differ (not a) (not b) ≡ differ a b
both_opposite true true = refl
both_opposite true false = refl
both_opposite false true = refl
both_opposite false false = refl

pub opposites_keep_the_same : OppositesKeepTheSame
unfolding keeps_fill top_value bottom_value
opposites_keep_the_same rule other opposite fill =
    ap₂ differ (opposite (bit fill 0) (bit fill 2)) (opposite (bit fill 1) (bit fill 3)) ∙ both_opposite (rule (bit fill 0) (bit fill 2)) (rule (bit fill 1) (bit fill 3))

by_places : (f g : Bool → Bool → Bool) → f true true ≡ g true true → f true false ≡ g true false → f false true ≡ g false true → f false false ≡ g false false → (s c : Bool) → f s c ≡ g s c
by_places f g h k l m true true = h
by_places f g h k l m true false = k
by_places f g h k l m false true = l
by_places f g h k l m false false = m

pub rules_are_their_tables : RulesAreTheirTables
rules_are_their_tables Subject = by_places (table_holds 10) (holds Subject) refl refl refl refl
rules_are_their_tables Clip = by_places (table_holds 12) (holds Clip) refl refl refl refl
rules_are_their_tables Intersect = by_places (table_holds 8) (holds Intersect) refl refl refl refl
rules_are_their_tables Union = by_places (table_holds 14) (holds Union) refl refl refl refl
rules_are_their_tables Difference = by_places (table_holds 2) (holds Difference) refl refl refl refl
rules_are_their_tables InverseDifference = by_places (table_holds 4) (holds InverseDifference) refl refl refl refl
rules_are_their_tables Xor = by_places (table_holds 6) (holds Xor) refl refl refl refl
rules_are_their_tables (Table table) = λ s c. refl

-- whether the bits below 4 are those of the other number, exchanged
abbrev are_exchanged : ℕ → ℕ → Bool
are_exchanged n m = beq (bit n 0) (not (bit m 0)) && (beq (bit n 1) (not (bit m 1)) && (beq (bit n 2) (not (bit m 2)) && beq (bit n 3) (not (bit m 3))))

exchanged : (bits : ℕ) → bits < 16 → are_exchanged (15 - bits) bits ≡ true
exchanged bits h = below_sixteen (λ n. are_exchanged (15 - n) n ≡ true) refl refl refl refl refl refl refl refl refl refl refl refl refl refl refl refl bits h

alike : (a b : Bool) → beq a b ≡ true → a ≡ b
alike true true e = refl
alike false false e = refl
alike true false e = cc
alike false true e = cc

pub complements_are_opposite : ComplementsAreOpposite
complements_are_opposite bits h =
    let all = exchanged bits h in
    let first = and_parts (beq (bit (15 - bits) 0) (not (bit bits 0))) _ all in
    let second = and_parts (beq (bit (15 - bits) 1) (not (bit bits 1))) _ first.1 in
    let third = and_parts (beq (bit (15 - bits) 2) (not (bit bits 2))) _ second.1 in
    by_places (table_holds (15 - bits)) (λ s c. not (table_holds bits s c)) (alike _ _ third.1) (alike _ _ second.0) (alike _ _ third.0) (alike _ _ first.0)

-- ---- the side where a rule holds

-- where a rule separates the sides it holds of the one exactly where it does not hold of the other
pub other_side : (a b : Bool) → differ a b ≡ true → not b ≡ a
other_side true false e = refl
other_side false true e = refl
other_side true true e = cc
other_side false false e = cc
