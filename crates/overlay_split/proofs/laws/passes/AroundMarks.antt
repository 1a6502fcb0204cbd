-- Rectangles around segments with their marks, found from one segment with marks to the next.
use Rattle.std.proofs.Common.{◌≡◌, ◌≢◌, refl, sym, ap, subst, ◌∙◌, ◌⊎◌, inl, inr, arith, ℕ, zero, suc, ◌<◌, ◌≤◌, List, [], ◌∷◌, ◌++◌, map, take, drop, length, get_or, Some}
use Rattle.std.specs.Prelude.{Contains}
use Rattle.std.specs.List.{AllByRecursion, AllWithin, HoldsAt, slice_get}
use Rattle.std.proofs.lemmas.Bool.{cases_lt}
use Rattle.std.proofs.lemmas.List.{get_or-map, length-map, length-drop, drop-map}
use Rattle.std.proofs.lemmas.Option.{slice_get_within, get_or_from_slice_get}
use Rattle.overlay_geometry.specs.Points.{Point, Pair}
use Rattle.overlay_geometry.specs.Ranges.{Rect}
use Rattle.overlay_geometry.proofs.laws.lists.Lists.{AllByRecursion-weaker, Has-append_left, Has-append_right}
use Rattle.overlay_geometry.proofs.laws.lists.Elements.{Contains-from_Has, Has-from_Contains, AllByRecursion-drop}
use Rattle.overlay_base.specs.Windings.{empty}
use Rattle.overlay_base.specs.Segments.{WholeSegment, pairs}
use Rattle.overlay_base.specs.SegmentOf.{ends_of, segment_of, segments_of, pairs_in}
use Rattle.overlay_base.specs.declared.segm.segment.Segment.{Segment}
use Rattle.overlay_intersections.specs.MarkOf.{Mark, points_at}
use Rattle.overlay_cuts.specs.CutOf.{AreMarksBy}
use Rattle.overlay_split.specs.steps.ChangedBoxes.{LiesInWith, AreAround}
use Rattle.overlay_cuts.proofs.laws.passes.MarkBlocks.{AreRising, IsFront, IsFront-from, points_at-below}

-- a pair lies in one of the rectangles, with its marks
abbrev pub IsAround : (Pair → List Point) → List Rect → Pair → Type 0
IsAround on rects s = (r : Rect) × Contains rects r × LiesInWith r s (on s)

-- each pair does, or its marks are left
abbrev pub AreAroundBut : (Pair → List Point) → List Pair → List Rect → List Mark → Type 0
AreAroundBut on ps rects rest = (k : ℕ) (s : Pair) → k < length ps → get_or ps k s ≡ s → (points_at k rest ≡ on s) ⊎ IsAround on rects s

pub none_yet : (on : Pair → List Point) (segments : List WholeSegment) (rects : List Rect) (all : List Mark) → AreMarksBy on segments all → AreAroundBut on (pairs segments) rects all
none_yet on segments rects all are k s lt is =
    let size = length-map segments (λ (u : WholeSegment). u.pair) in
    let d : WholeSegment = record { pair = s; count = empty } in
    inl (are.each k d (omega (arith, lt, size)) ∙ ap on (sym (get_or-map (λ (u : WholeSegment). u.pair) segments k d s (omega (arith, lt, size))) ∙ is))

none_below : (k index : ℕ) (ms : List Mark) → k < index → AllByRecursion (λ m. index ≤ m.index) ms → points_at k ms ≡ []
none_below k index ms lt h = points_at-below k ms (AllByRecursion-weaker (λ m. index ≤ m.index) (λ m. k < m.index) (λ m le. omega (arith, lt, le)) ms h)

none_past : (k index : ℕ) (ms : List Mark) → k < index → AllByRecursion (λ m. index < m.index) ms → points_at k ms ≡ []
none_past k index ms lt h = points_at-below k ms (AllByRecursion-weaker (λ m. index < m.index) (λ m. k < m.index) (λ m le. omega (arith, lt, le)) ms h)

-- the marks of one more segment are left behind
pub around_next : {X : Type 0} (f : X → Mark) (on : Pair → List Point) (ps : List Pair) (rects : List Rect) (xs : List X) (index n : ℕ) (r : Rect) → AreAroundBut on ps rects (map f xs) → IsFront f xs index n → AllByRecursion (λ m. index ≤ m.index) (map f xs) →
    ((s : Pair) → get_or ps index s ≡ s → LiesInWith r s (map (λ x. (f x).point) (take n xs))) → AreAroundBut on ps (rects ++ r ∷ []) (map f (drop n xs))
around_next f on ps rects xs index n r before front least here k s lt is = by_case (before k s lt is)
  where
    by_index : points_at k (map f xs) ≡ on s → (points_at k (map f (drop n xs)) ≡ on s) ⊎ IsAround on (rects ++ r ∷ []) s
    by_index e = elim (cases_lt k index) [
      | inl less ↦ inl (none_past k index (map f (drop n xs)) less front.past ∙ sym (none_below k index (map f xs) less least) ∙ e)
      | inr up ↦ elim (cases_lt index k) [
        | inl more ↦ inl (front.others k more ∙ e)
        | inr down ↦
            (let same : k ≡ index = omega (arith, up, down) in
            let own : map (λ x. (f x).point) (take n xs) ≡ on s = sym front.own ∙ subst (λ i. points_at i (map f xs) ≡ on s) same e in
            inr (r, Contains-from_Has (rects ++ r ∷ []) r (Has-append_right rects (r ∷ []) r (inl refl)), subst (LiesInWith r s) own (here s (subst (λ i. get_or ps i s ≡ s) same is))))
      ]
    ]

    by_case : (points_at k (map f xs) ≡ on s) ⊎ IsAround on rects s → (points_at k (map f (drop n xs)) ≡ on s) ⊎ IsAround on (rects ++ r ∷ []) s
    by_case (inl e) = by_index e
    by_case (inr (q, i, h)) = inr (q, Contains-from_Has (rects ++ r ∷ []) q (Has-append_left rects (r ∷ []) q (Has-from_Contains rects q i)), h)

-- where no mark is left, they are around each
pub around_all : (on : Pair → List Point) (ps : List Pair) (rects : List Rect) (rest : List Mark) → rest ≡ [] → AreAroundBut on ps rects rest → AreAround on ps rects
around_all on ps rects rest none h s (k, lt, is) some = elim (h k s lt is) [
  | inl e ↦ absurd (some (sym e ∙ ap (points_at k) none))
  | inr a ↦ a
]

-- ---- the marks in front

-- those of the index of the first mark
pub record AreFirst {X : Type 0} (f : X → Mark) (xs : List X) (size index n : ℕ) : Type 0 where
  pub front : IsFront f xs index n
  pub least : AllByRecursion (λ m. index ≤ m.index) (map f xs)
  pub inside : index < size
  pub within : AllByRecursion (λ m. m.index < size) (map f (drop n xs))
  pub fewer : length (drop n xs) < length xs

pub AreFirst-from : {X : Type 0} (f : X → Mark) (size : ℕ) (xs : List X) (y : X) → AreRising (map f xs) → AllByRecursion (λ m. m.index < size) (map f xs) → slice_get xs 0 ≡ Some y →
    (n : ℕ) → n ≤ length xs → AllWithin (λ z. (f z).index ≡ (f y).index) xs 0 n → (n < length xs → HoldsAt (λ z. (f z).index ≢ (f y).index) xs n) → AreFirst f xs size (f y).index n
AreFirst-from f size [] y rising within e n le own stop = let l = slice_get_within [] 0 y e in absurd (omega (arith, l))
AreFirst-from f size (z ∷ zs) y rising within e n le own stop = record {
  front = IsFront-from f (z ∷ zs) index n rising least le own (λ d lt. stop lt d);
  least = least;
  inside = subst (λ t. (f t).index < size) is within.0;
  within = subst (AllByRecursion (λ m. m.index < size)) (drop-map f n (z ∷ zs)) (AllByRecursion-drop (λ m. m.index < size) n (map f (z ∷ zs)) within);
  fewer = by_count n stop;
}
  where
    index : ℕ
    index = (f y).index

    is : z ≡ y
    is = get_or_from_slice_get (z ∷ zs) 0 y z e

    least : AllByRecursion (λ m. index ≤ m.index) (map f (z ∷ zs))
    least = subst (λ t. AllByRecursion (λ m. (f t).index ≤ m.index) (map f (z ∷ zs))) is (omega arith, rising.0)

    by_count : (k : ℕ) → (k < length (z ∷ zs) → HoldsAt (λ t. (f t).index ≢ (f y).index) (z ∷ zs) k) → length (drop k (z ∷ zs)) < length (z ∷ zs)
    by_count zero differs = absurd (differs (omega arith) z (ap (λ t. (f t).index) is))
    by_count (suc k) differs = let size = length-drop k zs in omega (arith, size)

-- the pair at a place of a list of code
pub pair_at : {C I D : Type 0} {m : _} {w : _} {o : _} {e : _} {p : _} (xs : List (Segment C I D m w o e p)) (k : ℕ) (x : Segment C I D m w o e p) (s : Pair) → k < length xs → get_or (pairs_in xs) k s ≡ ends_of (get_or xs k x)
pair_at xs k x s lt =
    let size = length-map xs segment_of in
    get_or-map (λ (u : WholeSegment). u.pair) (segments_of xs) k (segment_of x) s (omega (arith, lt, size)) ∙ ap (λ u. u.pair) (get_or-map segment_of xs k x (segment_of x) lt)
