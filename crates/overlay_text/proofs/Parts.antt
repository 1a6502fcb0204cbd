-- Where the lines and the words of a text begin and end.
use Rattle.std.proofs.Common.{◌≡◌, ◌≢◌, ℕ, suc, ◌+◌, ◌<◌, ◌≤◌, Bool, true, false, not, List, [], ◌∷◌, length, take, drop, get_or, filter, Option, Some, None, refl, ap, ◌∙◌, arith}
use Rattle.std.proofs.lemmas.Grind.{common_steps}
use Rattle.std.proofs.lemmas.Bool.{both_ways}
use Rattle.std.proofs.lemmas.List.Splits.{slice_split_first, slice_split_none, length-slice_split}
use Rattle.std.proofs.lemmas.List.Sums.{fails_before_first, passes_at_first, count_by-le-length}
use Rattle.std.specs.Prelude.{◌==◌, position}
use Rattle.std.specs.List.{slice_split, position_or_len}
use Rattle.std.specs.Option.{unwrap_or}
use Rattle.std.proofs.Math.ListN.{drop_of_length-le}
use Rattle.std.proofs.Math.Seq.{take-length, drop-length}
use Rattle.std.proofs.lemmas.List.{drop_more, length-drop, length-take-le}
use Rattle.overlay_text.specs.Text.{lines_of, words_of}

module _ {X : Type 0} (p : X → Bool) where
  pub at_position : (xs : List X) (n : ℕ) → position p xs ≡ Some n → (n ≡ position_or_len p xs) × (n < length xs)
  at_position xs n e = grind (arith, common_steps, e)

  pub past_all : (xs : List X) → position p xs ≡ None → length xs ≤ position_or_len p xs
  past_all xs e = grind (arith, common_steps, e)

  pub slice_split-some : (xs : List X) (n : ℕ) (d : X) → position p xs ≡ Some n → slice_split p xs ≡ take n xs ∷ slice_split p (drop (n + 1) xs)
  slice_split-some xs n d e =
      let at = at_position xs n e in
      rw at.0 (slice_split_first p xs d (omega (arith, at.0, at.1)))

  pub slice_split-none : (xs : List X) → position p xs ≡ None → slice_split p xs ≡ xs ∷ []
  slice_split-none xs e = slice_split_none p xs (λ k d below. fails_before_first p xs k d (omega (arith, past_all xs e, below)))

pub lines_of-cut : (bytes : List ℕ) (n : ℕ) → position (λ b. b == 10) bytes ≡ Some n → lines_of bytes ≡ take n bytes ∷ lines_of (drop (n + 1) bytes)
unfolding lines_of
lines_of-cut bytes n e = slice_split-some (λ b. b == 10) bytes n 0 e

pub lines_of-last : (bytes : List ℕ) → position (λ b. b == 10) bytes ≡ None → lines_of bytes ≡ bytes ∷ []
unfolding lines_of
lines_of-last bytes e = slice_split-none (λ b. b == 10) bytes e

pub lines_are_few : (bytes : List ℕ) → length (lines_of bytes) ≤ length bytes + 1
unfolding lines_of
lines_are_few bytes = omega (arith, length-slice_split (λ b. b == 10) bytes, count_by-le-length (λ b. b == 10) bytes)

abbrev is_space : ℕ → Bool
is_space b = b == 32

abbrev is_no_space : ℕ → Bool
is_no_space b = not (b == 32)

pub words_of-space : (x : ℕ) (xs : List ℕ) → is_space x ≡ true → words_of (x ∷ xs) ≡ words_of xs
unfolding words_of
words_of-space x xs e = rw e refl

-- spaces in front are in no word
pub words_of-from : (text : List ℕ) → words_of text ≡ words_of (drop (position_or_len is_no_space text) text)
words_of-from [] = refl
words_of-from (x ∷ xs) = by (is_space x) refl (words_of-from xs)
  where
    by : (b : Bool) → is_space x ≡ b → words_of xs ≡ words_of (drop (position_or_len is_no_space xs) xs) → words_of (x ∷ xs) ≡ words_of (drop (position_or_len is_no_space (x ∷ xs)) (x ∷ xs))
    by true e ih =
        let next : position_or_len is_no_space (x ∷ xs) ≡ suc (position_or_len is_no_space xs) = grind (arith, common_steps, e) in
        rw next (words_of-space x xs e ∙ ih)
    by false e ih =
        let here : position_or_len is_no_space (x ∷ xs) ≡ 0 = grind (arith, common_steps, e) in
        rw here refl

pub words_of-none : (text : List ℕ) → position is_no_space text ≡ None → words_of text ≡ []
unfolding words_of
words_of-none text e = words_of-from text ∙ ap words_of (drop_of_length-le text (past_all is_no_space text e))

abbrev is_some_word : List ℕ → Bool
is_some_word word = not (length word == 0)

first_part : (text word : List ℕ) (parts : List (List ℕ)) → slice_split is_space text ≡ word ∷ parts → 0 < length word → words_of text ≡ word ∷ filter is_some_word parts
unfolding words_of
first_part text word parts e some =
    let kept : is_some_word word ≡ true = grind (arith, common_steps, some) in
    rw (e, kept) refl

-- the first word ends at the first space behind it, or with the text
pub words_of-word : (text : List ℕ) (n : ℕ) → 0 < length text → is_space (get_or text 0 0) ≡ false → n ≡ unwrap_or (position is_space text) (length text) → words_of text ≡ take n text ∷ words_of (drop n text)
unfolding words_of
words_of-word text n some starts e = by (position is_space text) refl
  where
    by : (o : Option ℕ) → position is_space text ≡ o → words_of text ≡ take n text ∷ words_of (drop n text)
    by None at =
        let whole : n ≡ length text = e ∙ ap (λ o. unwrap_or o (length text)) at in
        let parts = first_part text text [] (slice_split-none is_space text at) some in
        rw (whole, take-length, drop-length) parts
    by (Some m) at =
        let here : n ≡ m = e ∙ ap (λ o. unwrap_or o (length text)) at in
        let place = at_position is_space text m at in
        let found = passes_at_first is_space text 0 (omega (arith, place.0, place.1)) in
        let space : is_space (get_or text m 0) ≡ true = rw place.0 found in
        let front : m ≢ 0 = λ z. both_ways _ (ap (λ k. is_space (get_or text k 0)) z ∙ starts) space in
        let parts = first_part text (take m text) (slice_split is_space (drop (m + 1) text)) (slice_split-some is_space text m 0 at) (omega (arith, length-take-le m text (omega (arith, place.1)), front)) in
        rw (here, drop_more text m 0 place.1, words_of-space (get_or text m 0) (drop (m + 1) text) space) parts

pub words_of-cut : (text : List ℕ) (start end : ℕ) → position is_no_space text ≡ Some start → end ≡ unwrap_or (position is_space (drop start text)) (length (drop start text)) → words_of text ≡ take end (drop start text) ∷ words_of (drop end (drop start text))
words_of-cut text start end at ended =
    let place = at_position is_no_space text start at in
    let found = passes_at_first is_no_space text 0 (omega (arith, place.0, place.1)) in
    let starts : is_space (get_or (drop start text) 0 0) ≡ false = rw (drop_more text start 0 place.1, place.0) (grind (arith, common_steps, found)) in
    let begun : words_of text ≡ words_of (drop start text) = rw place.0 (words_of-from text) in
    begun ∙ words_of-word (drop start text) end (omega (arith, length-drop start text, place.1)) starts ended
