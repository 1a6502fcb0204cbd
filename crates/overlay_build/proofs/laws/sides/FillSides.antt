-- What the sixteen fills say: a fill without a mask is kept where the windings' values differ.
use Rattle.std.proofs.Common.{◌≡◌, refl, ap₂, ◌∙◌, ℕ, ◌+◌, ◌*◌, Bool, true, false}
use Rattle.overlay_base.specs.Rules.{differ, bit, top_value, bottom_value, keeps_fill}
use Rattle.overlay_sweep.specs.Fill.{is_inside, flag_value, fill_byte}
use Rattle.overlay_build.specs.Values.{value_at, tells_apart}
use Rattle.overlay_build.specs.Laws.{FillsTellSides}

-- ---- the four bits of a fill without a mask

abbrev pub fill_of_sides : Bool → Bool → Bool → Bool → ℕ
fill_of_sides st sb ct cb = flag_value st 1 + flag_value sb 2 + flag_value ct 4 + flag_value cb 8 + 4 * 0

-- what holds of the sixteen choices of four values holds of every four
pub by_four : (P : Bool → Bool → Bool → Bool → Type 0)
    → P true true true true → P true true true false → P true true false true → P true true false false
    → P true false true true → P true false true false → P true false false true → P true false false false
    → P false true true true → P false true true false → P false true false true → P false true false false
    → P false false true true → P false false true false → P false false false true → P false false false false
    → (p q r s : Bool) → P p q r s
by_four P a b c d e f g h i j k l m n o z true true true true = a
by_four P a b c d e f g h i j k l m n o z true true true false = b
by_four P a b c d e f g h i j k l m n o z true true false true = c
by_four P a b c d e f g h i j k l m n o z true true false false = d
by_four P a b c d e f g h i j k l m n o z true false true true = e
by_four P a b c d e f g h i j k l m n o z true false true false = f
by_four P a b c d e f g h i j k l m n o z true false false true = g
by_four P a b c d e f g h i j k l m n o z true false false false = h
by_four P a b c d e f g h i j k l m n o z false true true true = i
by_four P a b c d e f g h i j k l m n o z false true true false = j
by_four P a b c d e f g h i j k l m n o z false true false true = k
by_four P a b c d e f g h i j k l m n o z false true false false = l
by_four P a b c d e f g h i j k l m n o z false false true true = m
by_four P a b c d e f g h i j k l m n o z false false true false = n
by_four P a b c d e f g h i j k l m n o z false false false true = o
by_four P a b c d e f g h i j k l m n o z false false false false = z

pub bit_of_sides-0 : (st sb ct cb : Bool) → bit (fill_of_sides st sb ct cb) 0 ≡ st
bit_of_sides-0 st sb ct cb = by_four (λ p q r s. bit (fill_of_sides p q r s) 0 ≡ p) refl refl refl refl refl refl refl refl refl refl refl refl refl refl refl refl st sb ct cb

pub bit_of_sides-1 : (st sb ct cb : Bool) → bit (fill_of_sides st sb ct cb) 1 ≡ sb
bit_of_sides-1 st sb ct cb = by_four (λ p q r s. bit (fill_of_sides p q r s) 1 ≡ q) refl refl refl refl refl refl refl refl refl refl refl refl refl refl refl refl st sb ct cb

pub bit_of_sides-2 : (st sb ct cb : Bool) → bit (fill_of_sides st sb ct cb) 2 ≡ ct
bit_of_sides-2 st sb ct cb = by_four (λ p q r s. bit (fill_of_sides p q r s) 2 ≡ r) refl refl refl refl refl refl refl refl refl refl refl refl refl refl refl refl st sb ct cb

pub bit_of_sides-3 : (st sb ct cb : Bool) → bit (fill_of_sides st sb ct cb) 3 ≡ cb
bit_of_sides-3 st sb ct cb = by_four (λ p q r s. bit (fill_of_sides p q r s) 3 ≡ s) refl refl refl refl refl refl refl refl refl refl refl refl refl refl refl refl st sb ct cb

differ_comm : (a b : Bool) → differ a b ≡ differ b a
differ_comm true true = refl
differ_comm true false = refl
differ_comm false true = refl
differ_comm false false = refl

-- a fill without a mask is kept where the windings' values differ
pub fills_tell_sides : FillsTellSides
unfolding keeps_fill top_value bottom_value tells_apart value_at fill_byte
fills_tell_sides rule fill_rule b t =
    let st : Bool = is_inside fill_rule t.subj in
    let sb : Bool = is_inside fill_rule b.subj in
    let ct : Bool = is_inside fill_rule t.clip in
    let cb : Bool = is_inside fill_rule b.clip in
    ap₂ differ (ap₂ rule (bit_of_sides-0 st sb ct cb) (bit_of_sides-2 st sb ct cb)) (ap₂ rule (bit_of_sides-1 st sb ct cb) (bit_of_sides-3 st sb ct cb))
    ∙ differ_comm (rule st ct) (rule sb cb)
