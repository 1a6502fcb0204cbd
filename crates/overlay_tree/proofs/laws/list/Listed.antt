-- The indexes that a scan of a list lists: what they mark, and that those left out mark nothing.
use Rattle.std.proofs.Common.{◌≡◌, sym, ap, subst, ◌∙◌, ℕ, ◌+◌, ◌<◌, append_assoc, append-nil, Bool, true, false, cond, ◌||◌, List, [], ◌∷◌, ◌++◌, length}
use Rattle.std.specs.Prelude.{All}
use Rattle.std.proofs.lemmas.List.Elements.{All-append, All-from_recursion}
use Rattle.std.proofs.lemmas.List.Folds.{list_any-append}
use Rattle.std.proofs.lemmas.Grind.{flat_map-append}
use Rattle.overlay_geometry.specs.Points.{Pair}
use Rattle.overlay_geometry.specs.Ranges.{heights}
use Rattle.overlay_intersections.specs.Marks.{Placing, cross_inexactly}
use Rattle.overlay_intersections.specs.MarkOf.{Mark}
use Rattle.overlay_intersections.specs.MarksBetween.{marks_between}
use Rattle.overlay_intersections.proofs.laws.marks.ApartPairs.{AreApart, apart_are_exact}
use Rattle.overlay_intersections.proofs.laws.marks.FoundMarks.{between_apart, or_false, or_assoc}
use Rattle.overlay_tree.specs.steps.ListScan.{do_ranges_meet, marks_left, crosses_left, marks_listed, crosses_listed, AreListed}
use Rattle.overlay_tree.specs.steps.Swept.{pair_at}
use Rattle.overlay_tree.proofs.laws.list.ListScans.{marks_left-next, crosses_left-next, apart_heights}

-- ---- one more in the list

pub marks_listed-more : (placing : Placing) (ps : List Pair) (i : ℕ) (later : List ℕ) (j : ℕ) → marks_listed placing ps i (later ++ j ∷ []) ≡ marks_listed placing ps i later ++ marks_between placing i (pair_at ps i) j (pair_at ps j)
marks_listed-more placing ps i later j =
    flat_map-append (λ (k : ℕ). marks_between placing i (pair_at ps i) k (pair_at ps k)) later (j ∷ []) ∙ ap (λ (ms : List Mark). marks_listed placing ps i later ++ ms) (append-nil (marks_between placing i (pair_at ps i) j (pair_at ps j)))

pub crosses_listed-more : (ps : List Pair) (i : ℕ) (later : List ℕ) (j : ℕ) → crosses_listed ps i (later ++ j ∷ []) ≡ (crosses_listed ps i later || cross_inexactly (pair_at ps i) (pair_at ps j))
crosses_listed-more ps i later j =
    list_any-append (λ (k : ℕ). cross_inexactly (pair_at ps i) (pair_at ps k)) later (j ∷ []) ∙ ap (λ (b : Bool). crosses_listed ps i later || b) (sym (or_false (cross_inexactly (pair_at ps i) (pair_at ps j))))

-- ---- one more is tested

AreListed-met : (ps : List Pair) (i from j : ℕ) (later : List ℕ) → AreListed ps i from j later → i < j → j < length ps → AreListed ps i from (j + 1) (later ++ j ∷ [])
AreListed-met ps i from j later w after lt = record {
  within = All-append (λ k. (i < k) × (k < length ps)) later (j ∷ []) w.within (All-from_recursion (λ k. (i < k) × (k < length ps)) (j ∷ []) ((after, lt), tt));
  marks = λ placing. ap (λ (ms : List Mark). ms ++ marks_left placing ps i (j + 1)) (marks_listed-more placing ps i later j)
      ∙ append_assoc (marks_listed placing ps i later) (marks_between placing i (pair_at ps i) j (pair_at ps j)) (marks_left placing ps i (j + 1))
      ∙ ap (λ (ms : List Mark). marks_listed placing ps i later ++ ms) (sym (marks_left-next placing ps i j lt)) ∙ w.marks placing;
  flag = ap (λ (b : Bool). b || crosses_left ps i (j + 1)) (crosses_listed-more ps i later j)
      ∙ or_assoc (crosses_listed ps i later) (cross_inexactly (pair_at ps i) (pair_at ps j)) (crosses_left ps i (j + 1))
      ∙ ap (λ (b : Bool). crosses_listed ps i later || b) (sym (crosses_left-next ps i j lt)) ∙ w.flag;
}

AreListed-apart : (ps : List Pair) (i from j : ℕ) (later : List ℕ) → AreListed ps i from j later → j < length ps → AreApart (pair_at ps i) (pair_at ps j) → AreListed ps i from (j + 1) later
AreListed-apart ps i from j later w lt apart = record {
  within = w.within;
  marks = λ placing. ap (λ (ms : List Mark). marks_listed placing ps i later ++ ms)
      (sym (marks_left-next placing ps i j lt ∙ ap (λ (ms : List Mark). ms ++ marks_left placing ps i (j + 1)) (between_apart placing i (pair_at ps i) j (pair_at ps j) apart))) ∙ w.marks placing;
  flag = ap (λ (b : Bool). crosses_listed ps i later || b)
      (sym (crosses_left-next ps i j lt ∙ ap (λ (b : Bool). b || crosses_left ps i (j + 1)) (apart_are_exact (pair_at ps i) (pair_at ps j) apart))) ∙ w.flag;
}

-- one is kept if its heights meet those of the first
pub AreListed-more : (ps : List Pair) (i from j : ℕ) (later : List ℕ) (b : Bool) → AreListed ps i from j later → i < j → j < length ps → b ≡ do_ranges_meet (heights (pair_at ps i)) (heights (pair_at ps j)) → AreListed ps i from (j + 1) (later ++ cond b (j ∷ []) [])
AreListed-more ps i from j later true w after lt e = AreListed-met ps i from j later w after lt
AreListed-more ps i from j later false w after lt e =
    subst (AreListed ps i from (j + 1)) (sym (append-nil later)) (AreListed-apart ps i from j later w lt (apart_heights (pair_at ps i) (pair_at ps j) (sym e)))

-- ---- all are marked

-- those listed are later ones of the list
pub listed_within : (ps : List Pair) (i from j n : ℕ) (later : List ℕ) → AreListed ps i from j later → length ps ≡ n → All (λ k. (i < k) × (k < n)) later
listed_within ps i from j n later w e = subst (λ (m : ℕ). All (λ k. (i < k) × (k < m)) later) e w.within

pub listed_marks : (placing : Placing) (i : ℕ) (ps : List Pair) (old now : List Mark) (from j : ℕ) (later : List ℕ) → AreListed ps i from j later → now ≡ old ++ marks_listed placing ps i later → now ++ marks_left placing ps i j ≡ old ++ marks_left placing ps i from
listed_marks placing i ps old now from j later w n =
    ap (λ (ms : List Mark). ms ++ marks_left placing ps i j) n ∙ append_assoc old (marks_listed placing ps i later) (marks_left placing ps i j) ∙ ap (λ (ms : List Mark). old ++ ms) (w.marks placing)

pub listed_crosses : (i : ℕ) (ps : List Pair) (rounded : Bool) (from j : ℕ) (later : List ℕ) → AreListed ps i from j later → rounded ≡ crosses_listed ps i later → (rounded || crosses_left ps i j) ≡ crosses_left ps i from
listed_crosses i ps rounded from j later w r = ap (λ (b : Bool). b || crosses_left ps i j) r ∙ w.flag
