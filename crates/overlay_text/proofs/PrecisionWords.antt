-- A precision as two numbers: the first comma is between them, and no name has one.
use Rattle.std.proofs.Common.{◌≡◌, ◌∙◌, inl, inr, ℕ, List, ◌++◌, length, eqb, Option, Some, None, refl, sym, subst, arith, append_assoc}
use Rattle.std.proofs.lemmas.Bool.{false≢true}
use Rattle.std.proofs.lemmas.Str.Parse.{not_in_digits, numerals_by_value, tells_digits}
use Rattle.std.proofs.lemmas.Str.Pattern.{IsSplitOnceResult, split_after, split_once_first}
use Rattle.std.specs.Borrow.{Bor}
use Rattle.std.specs.List.{position_or_len}
use Rattle.std.specs.Prelude.{codes, IsNone, MatchOption}
use Rattle.std.specs.Str.Parse.{AllDigits}
use Rattle.overlay_base.specs.declared.overlay_core.solver.Precision.{Precision}
use Rattle.overlay_text.specs.Words.{NamesPrecision, IsPrecisionName, IsShortNumeral}

abbrev HasNoComma : List ℕ → Type 0
HasNoComma value = position_or_len (λ b. eqb b 44) value ≡ length value

name_has_none : (value : List ℕ) (precision : Precision) → IsPrecisionName value precision → HasNoComma value
name_has_none value precision (inl absolute) = subst HasNoComma (sym absolute.0) refl
name_has_none value precision (inr (inl high)) = subst HasNoComma (sym high.0) refl
name_has_none value precision (inr (inr (inl medium_high))) = subst HasNoComma (sym medium_high.0) refl
name_has_none value precision (inr (inr (inr (inl medium)))) = subst HasNoComma (sym medium.0) refl
name_has_none value precision (inr (inr (inr (inr (inl medium_low))))) = subst HasNoComma (sym medium_low.0) refl
name_has_none value precision (inr (inr (inr (inr (inr low))))) = subst HasNoComma (sym low.0) refl

-- two numbers are the parts before and behind the first comma
are_parts : (value start step : List ℕ) (r : Option (Bor (List ℕ) × Bor (List ℕ))) → IsSplitOnceResult 44 value r → value ≡ start ++ codes "," ++ step → IsShortNumeral start → MatchOption r ⊥ (λ parts. (parts.0.now ≡ start) × (parts.1.now ≡ step))
are_parts value start step r cut is numeral =
    split_after 44 value start step r cut (omega arith) (is ∙ append_assoc start (codes ",") step) (not_in_digits (numerals_by_value (AllDigits 10) tells_digits) start 44 numeral.0.1 (λ within. omega (arith, within)))

pub without_comma : (value : List ℕ) (precision : Precision) → IsSplitOnceResult 44 value None → ¬ (IsPrecisionName value precision) → ¬ (NamesPrecision value precision)
without_comma value precision cut unnamed (inl named) = unnamed named
without_comma value precision cut unnamed (inr numbers) = are_parts value numbers.0 numbers.1 None cut numbers.2 numbers.3

pub with_comma : (value : List ℕ) (start step : Bor (List ℕ)) (precision : Precision) → IsSplitOnceResult 44 value (Some (start, step)) → ¬ (IsShortNumeral start.now × IsShortNumeral step.now) → ¬ (NamesPrecision value precision)
with_comma value start step precision cut other (inl named) =
    omega (arith, (split_once_first 44 value (Some (start, step)) cut (omega arith)).0, name_has_none value precision named)
with_comma value start step precision cut other (inr numbers) =
    let parts = are_parts value numbers.0 numbers.1 (Some (start, step)) cut numbers.2 numbers.3 in
    other (rw parts.0 numbers.3, rw parts.1 numbers.4)

pub none_named : (value : List ℕ) (r : Option Precision) → IsNone r → ((precision : Precision) → ¬ (NamesPrecision value precision)) → MatchOption r ((precision : Precision) → ¬ (NamesPrecision value precision)) (NamesPrecision value)
none_named value None none h = h
none_named value (Some precision) none h = absurd (false≢true (sym none))

pub by_name : (value : List ℕ) (r : Option Precision) → IsSplitOnceResult 44 value None → MatchOption r ((precision : Precision) → ¬ (IsPrecisionName value precision)) (IsPrecisionName value)
    → MatchOption r ((precision : Precision) → ¬ (NamesPrecision value precision)) (NamesPrecision value)
by_name value None cut h = λ precision. without_comma value precision cut (h precision)
by_name value (Some precision) cut h = inl h
