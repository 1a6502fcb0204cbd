-- Lines, words, and what lines describe.
use Rattle.std.proofs.Common.{◌≡◌, refl, List, [], ◌∷◌, ◌++◌, ℕ, arith, inl, inr}
use Rattle.std.specs.Prelude.{pos, negsuc, codes}
use Rattle.overlay_geometry.specs.Points.{Point}
use Rattle.overlay_base.specs.declared.segm.shape_type.ShapeType.TheVariants.{Subject, Clip}
use Rattle.overlay_text.specs.declared.stop.LineFault.TheVariants.{Range, EqualEnds}
use Rattle.overlay_text.specs.declared.stop.Stop.TheVariants.{Line}
use Rattle.overlay_text.specs.Numbers.{signed_value}
use Rattle.overlay_text.specs.Text.{lines_of, words_of, words_of_line, AsksFor, IsFaulty, IsFirstFault}

abbrev feed : List ℕ
feed = 10 ∷ []

abbrev carriage_return : List ℕ
carriage_return = 13 ∷ []

-- one more line than line feeds
lines_between_feeds : lines_of (codes "S 1" ++ feed ++ feed ++ codes "C") ≡ codes "S 1" ∷ [] ∷ codes "C" ∷ []
unfolding lines_of
lines_between_feeds = refl

no_text_is_one_line : lines_of [] ≡ [] ∷ []
unfolding lines_of
no_text_is_one_line = refl

words_between_spaces : words_of_line (codes "  S 1  -20 ") ≡ codes "S" ∷ codes "1" ∷ codes "-20" ∷ []
unfolding words_of
words_between_spaces = refl

spaces_are_no_words : words_of_line (codes "   " ++ carriage_return) ≡ []
unfolding words_of
spaces_are_no_words = refl

last_carriage_return : words_of_line (codes "S 1 " ++ carriage_return) ≡ codes "S" ∷ codes "1" ∷ []
unfolding words_of
last_carriage_return = refl

only_one_carriage_return : words_of_line (codes "S 1" ++ carriage_return ++ carriage_return) ≡ codes "S" ∷ (codes "1" ++ carriage_return) ∷ []
unfolding words_of
only_one_carriage_return = refl

tab_is_no_space : words_of_line (codes "S" ++ 9 ∷ codes "1") ≡ (codes "S" ++ 9 ∷ codes "1") ∷ []
unfolding words_of
tab_is_no_space = refl

digits_behind_minus : signed_value (codes "-012") ≡ negsuc 11
digits_behind_minus = refl

ten_digits_behind_minus : signed_value (codes "-1073741824") ≡ negsuc 1073741823
ten_digits_behind_minus = refl

-- a step of a clip's contour that runs back
clip_backward : AsksFor (negsuc 16383) (pos 16383) (codes "C 5 6 1 -2")
    (record { pair = record { a = record { x = pos 1; y = negsuc 1 }; b = record { x = pos 5; y = pos 6 } }; count = record { subj = pos 0; clip = negsuc 0; mask = 0 } })
unfolding words_of
clip_backward = (
  Clip,
  record { x = pos 5; y = pos 6 },
  record { x = pos 1; y = negsuc 1 },
  (
    codes "C",
    codes "5",
    codes "6",
    codes "1",
    codes "-2",
    refl,
    refl,
    (((omega arith, (omega arith, tt)), omega arith), refl),
    (((omega arith, (omega arith, tt)), omega arith), refl),
    (((omega arith, (omega arith, tt)), omega arith), refl),
    (((omega arith, (omega arith, tt)), omega arith), refl),
  ),
  refl,
  refl,
)

-- out of range comes before equal ends
range_before_ends : IsFaulty (negsuc 16383) (pos 16383) (codes "S 16384 0 16384 0") Range
unfolding words_of
range_before_ends =
    let end : Point = record { x = pos 16384; y = pos 0 } in
    inr (
      Subject,
      end,
      end,
      (
        codes "S",
        codes "16384",
        codes "0",
        codes "16384",
        codes "0",
        refl,
        refl,
        (((omega arith, (omega arith, (omega arith, (omega arith, (omega arith, (omega arith, tt)))))), omega arith), refl),
        (((omega arith, (omega arith, tt)), omega arith), refl),
        (((omega arith, (omega arith, (omega arith, (omega arith, (omega arith, (omega arith, tt)))))), omega arith), refl),
        (((omega arith, (omega arith, tt)), omega arith), refl),
      ),
      refl,
    )

-- the first of two faulty lines is named
second_line_is_faulty : IsFirstFault (negsuc 16383) (pos 16383) (lines_of (feed ++ codes "S 1 1 1 1" ++ feed ++ codes "x")) (Line 2 EqualEnds)
unfolding lines_of words_of
second_line_is_faulty =
    let end : Point = record { x = pos 1; y = pos 1 } in (
      [] ∷ [],
      codes "S 1 1 1 1",
      codes "x" ∷ [],
      refl,
      ([], inl (refl, refl)),
      (
        EqualEnds,
        inr (
          Subject,
          end,
          end,
          (
            codes "S",
            codes "1",
            codes "1",
            codes "1",
            codes "1",
            refl,
            refl,
            (((omega arith, (omega arith, tt)), omega arith), refl),
            (((omega arith, (omega arith, tt)), omega arith), refl),
            (((omega arith, (omega arith, tt)), omega arith), refl),
            (((omega arith, (omega arith, tt)), omega arith), refl),
          ),
          refl,
        ),
        refl,
      ),
    )
