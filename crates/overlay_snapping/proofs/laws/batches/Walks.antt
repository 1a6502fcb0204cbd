-- The walk that cuts one segment after another at its points, and joins the pieces of some before those of others are made.
use Rattle.std.proofs.Common.{◌≡◌, ℕ, ◌+◌, ◌^◌, ◌≤◌, ◌<◌, Bool, true, false, cond, List, [], ◌∷◌, ◌++◌, append-nil, refl, sym, ap, ◌∙◌, arith, IsFalse}
use Rattle.std.specs.Prelude.{flat_map}
use Rattle.std.specs.List.{AllByRecursion}
use Rattle.std.proofs.lemmas.Grind.{flat_map-append}
use Rattle.std.proofs.lemmas.List.Sums.{sum_by_push}
use Rattle.overlay_geometry.specs.Points.{Point, Pair, pair_eq}
use Rattle.overlay_base.specs.Sums.{IsCommutativeMonoid, gathered}
use Rattle.overlay_base.specs.Windings.{add}
use Rattle.overlay_base.specs.Segments.{WholeSegment, winding_at}
use Rattle.overlay_base.specs.Join.{join, join_leaves_range}
use Rattle.overlay_base.specs.steps.Early.{magnitude, magnitudes}
use Rattle.overlay_base.proofs.laws.joins.Bags.{count_at, windings_add, winding_at-gathered, winding_at-append, winding_at-join}
use Rattle.overlay_base.proofs.laws.joins.Early.{magnitudes-cons}
use Rattle.overlay_base.proofs.laws.joins.Maps.{join_from_windings}
use Rattle.overlay_cuts.specs.Path.{pieces}
use Rattle.overlay_cuts.specs.Pass.{cut_by, pass_by}
use Rattle.overlay_cuts.proofs.laws.paths.Cuts.{gathered-cut, gathered-flat_map}
use Rattle.overlay_snapping.specs.steps.Batches.{magnitudes_at, IsCutSoFar}
use Rattle.overlay_snapping.proofs.laws.batches.Bounds.{magnitudes_at-nil, magnitudes_at-same, magnitudes_at-other, magnitudes_at-append, magnitudes_at-join, bounded_sums_stay}

naturals_add : IsCommutativeMonoid ◌+◌ 0
naturals_add = record { comm = λ a b. omega arith; assoc = λ a b c. omega arith; unit_left = λ a. omega arith }

-- what a segment counts on a pair
abbrev size_at : Pair → WholeSegment → ℕ
size_at pair s = cond (pair_eq s.pair pair) (magnitude s.count) 0

magnitudes_at-gathered : (bag : List WholeSegment) (pair : Pair) → magnitudes_at bag pair ≡ gathered ◌+◌ 0 (size_at pair) bag
magnitudes_at-gathered [] pair = magnitudes_at-nil pair
magnitudes_at-gathered (s ∷ ss) pair = by (pair_eq s.pair pair) refl (magnitudes_at-gathered ss pair)
  where
    by : (b : Bool) → pair_eq s.pair pair ≡ b → magnitudes_at ss pair ≡ gathered ◌+◌ 0 (size_at pair) ss → magnitudes_at (s ∷ ss) pair ≡ size_at pair s + gathered ◌+◌ 0 (size_at pair) ss
    by true e ih = let m = magnitudes_at-same s ss pair e in let z : size_at pair s ≡ magnitude s.count = ap (λ b. cond b (magnitude s.count) 0) e in omega arith
    by false e ih = let m = magnitudes_at-other s ss pair e in let z : size_at pair s ≡ 0 = ap (λ b. cond b (magnitude s.count) 0) e in omega arith

module _ (on : Pair → List Point) where
  abbrev pub each : WholeSegment → List WholeSegment
  each s = pieces s (on s.pair)

  -- first pieces in front, or each segment's pieces together: windings and counts are the same
  winding_at-cut : (segments : List WholeSegment) (pair : Pair) → winding_at (cut_by on segments) pair ≡ winding_at (flat_map each segments) pair
  winding_at-cut segments pair =
      winding_at-gathered (cut_by on segments) pair ∙ gathered-cut windings_add (count_at pair) on segments
      ∙ sym (gathered-flat_map windings_add (count_at pair) each segments) ∙ sym (winding_at-gathered (flat_map each segments) pair)

  magnitudes_at-cut : (segments : List WholeSegment) (pair : Pair) → magnitudes_at (cut_by on segments) pair ≡ magnitudes_at (flat_map each segments) pair
  magnitudes_at-cut segments pair =
      magnitudes_at-gathered (cut_by on segments) pair ∙ gathered-cut naturals_add (size_at pair) on segments
      ∙ sym (gathered-flat_map naturals_add (size_at pair) each segments) ∙ sym (magnitudes_at-gathered (flat_map each segments) pair)

  -- the pieces of a segment count no more than it does on each pair
  abbrev pub AreFew : WholeSegment → Type 0
  AreFew s = (pair : Pair) → magnitudes_at (each s) pair ≤ magnitude s.count

  all_are_few : (segments : List WholeSegment) → AllByRecursion AreFew segments → (pair : Pair) → magnitudes_at (flat_map each segments) pair ≤ magnitudes segments
  all_are_few [] h pair = let n = magnitudes_at-nil pair in omega arith
  all_are_few (s ∷ ss) h pair =
      let a = magnitudes_at-append (each s) (flat_map each ss) pair in
      let here = h.0 pair in
      let rest = all_are_few ss h.1 pair in
      let m = magnitudes-cons s ss in
      omega arith

  pub cut_fits : (segments : List WholeSegment) → AllByRecursion AreFew segments → magnitudes segments < 2 ^ 31 → IsFalse (join_leaves_range (cut_by on segments))
  cut_fits segments h small = bounded_sums_stay (cut_by on segments) (λ pair. let e = magnitudes_at-cut segments pair in let f = all_are_few segments h pair in omega arith)

  -- ---- the walk

  pub at_first : IsCutSoFar on [] []
  at_first = record { windings = λ pair. refl; bound = λ pair. let n = magnitudes_at-nil pair in omega arith }

  pub one_more : (done held after : List WholeSegment) (s : WholeSegment) → IsCutSoFar on done held → AreFew s → after ≡ held ++ each s → IsCutSoFar on (done ++ s ∷ []) after
  one_more done held after s h few is = record {
    windings = λ pair.
        ap (λ l. winding_at l pair) is ∙ winding_at-append held (each s) pair ∙ ap (λ c. add c (winding_at (each s) pair)) (h.windings pair)
        ∙ sym (winding_at-append (flat_map each done) (each s) pair)
        ∙ ap (λ l. winding_at l pair) (sym (flat_map-append each done (s ∷ []) ∙ ap (λ l. flat_map each done ++ l) (append-nil (each s))));
    bound = λ pair.
        let e : magnitudes_at after pair ≡ magnitudes_at held pair + magnitudes_at (each s) pair = ap (λ l. magnitudes_at l pair) is ∙ magnitudes_at-append held (each s) pair in
        let m : magnitudes (done ++ s ∷ []) ≡ magnitudes done + magnitude s.count = sum_by_push (λ s. magnitude s.count) done s in
        let b = h.bound pair in
        let f = few pair in
        omega arith;
  }

  pub after_join : (done held : List WholeSegment) → IsCutSoFar on done held → IsCutSoFar on done (join held)
  after_join done held h = record {
    windings = λ pair. winding_at-join held pair ∙ h.windings pair;
    bound = λ pair. let a = magnitudes_at-join held pair in let b = h.bound pair in omega arith;
  }

  pub held_fits : (done held : List WholeSegment) → IsCutSoFar on done held → magnitudes done < 2 ^ 31 → IsFalse (join_leaves_range held)
  held_fits done held h small = bounded_sums_stay held (λ pair. let b = h.bound pair in omega arith)

  pub at_last : (all held : List WholeSegment) → IsCutSoFar on all held → join held ≡ pass_by on all
  at_last all held h = join_from_windings held (cut_by on all) (λ pair. h.windings pair ∙ sym (winding_at-cut all pair))
