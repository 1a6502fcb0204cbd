-- What holds of pieces and sums over a cut, in which first pieces and later ones are apart, and over a join.
use Rattle.std.proofs.Common.{◌≡◌, refl, sym, ap, ap₂, subst, ◌∙◌, List, [], ◌∷◌, ◌++◌, take, drop}
use Rattle.std.specs.Prelude.{flat_map}
use Rattle.std.specs.List.{AllByRecursion}
use Rattle.std.proofs.lemmas.List.{take-append-drop}
use Rattle.overlay_geometry.specs.Points.{Point, Pair, pair_cmp}
use Rattle.overlay_geometry.specs.Sorting.{distinct_in_order}
use Rattle.overlay_base.specs.Windings.{is_not_empty}
use Rattle.overlay_base.specs.Segments.{WholeSegment, pairs, winding_at}
use Rattle.overlay_base.specs.Sums.{IsCommutativeMonoid, gathered}
use Rattle.overlay_base.specs.Join.{summed, join}
use Rattle.overlay_cuts.specs.Path.{pieces}
use Rattle.overlay_cuts.specs.Pass.{cut_by}
use Rattle.overlay_geometry.proofs.laws.lists.Lists.{AllByRecursion-append, AllByRecursion-weaker, AllByRecursion_left, AllByRecursion_right, AllByRecursion-flat_map, AllByRecursion-filter_all, AllByRecursion-map}
use Rattle.overlay_geometry.proofs.laws.lists.Keys.{AllByRecursion-distinct_in_order}
use Rattle.overlay_base.proofs.laws.lists.Monoids.{gathered-append, gathered-op, gathered-same}

-- ---- sums

module _ {M : Type 0} {op : M → M → M} {unit : M} (laws : IsCommutativeMonoid op unit) where
  pub gathered-flat_map : {X Y : Type 0} (f : Y → M) (parts : X → List Y) (xs : List X) → gathered op unit f (flat_map parts xs) ≡ gathered op unit (λ x. gathered op unit f (parts x)) xs
  gathered-flat_map f parts [] = refl
  gathered-flat_map f parts (x ∷ xs) = gathered-append laws f (parts x) (flat_map parts xs) ∙ ap (op (gathered op unit f (parts x))) (gathered-flat_map f parts xs)

  -- first pieces and others, apart, sum as all pieces together
  gathered-first_and_others : {X Y : Type 0} (f : Y → M) (parts : X → List Y) (xs : List X) → gathered op unit f (flat_map (λ x. take 1 (parts x)) xs ++ flat_map (λ x. drop 1 (parts x)) xs) ≡ gathered op unit (λ x. gathered op unit f (parts x)) xs
  gathered-first_and_others {X} {Y} f parts xs =
      gathered-append laws f (flat_map (λ x. take 1 (parts x)) xs) (flat_map (λ x. drop 1 (parts x)) xs)
      ∙ ap₂ op (gathered-flat_map f (λ x. take 1 (parts x)) xs) (gathered-flat_map f (λ x. drop 1 (parts x)) xs)
      ∙ sym (gathered-op laws (λ x. gathered op unit f (take 1 (parts x))) (λ x. gathered op unit f (drop 1 (parts x))) xs)
      ∙ gathered-same laws (λ x. op (gathered op unit f (take 1 (parts x))) (gathered op unit f (drop 1 (parts x)))) (λ x. gathered op unit f (parts x))
      (λ x. sym (gathered-append laws f (take 1 (parts x)) (drop 1 (parts x))) ∙ ap (gathered op unit f) (take-append-drop 1 (parts x))) xs

  pub gathered-cut : (f : WholeSegment → M) (marks : Pair → List Point) (segments : List WholeSegment) → gathered op unit f (cut_by marks segments) ≡ gathered op unit (λ s. gathered op unit f (pieces s (marks s.pair))) segments
  unfolding cut_by
  gathered-cut f marks segments = gathered-first_and_others f (λ s. pieces s (marks s.pair)) segments

-- ---- each piece

-- what holds of the pieces of each segment holds of a cut
pub AllByRecursion-cut : (P : WholeSegment → Type 0) (marks : Pair → List Point) (segments : List WholeSegment) → AllByRecursion (λ s. AllByRecursion P (pieces s (marks s.pair))) segments → AllByRecursion P (cut_by marks segments)
unfolding cut_by
AllByRecursion-cut P marks segments h =
    let whole = λ (s : WholeSegment). pieces s (marks s.pair) in
    let both = λ (s : WholeSegment) (each : AllByRecursion P (whole s)). subst (AllByRecursion P) (sym (take-append-drop 1 (whole s))) each in
    AllByRecursion-append P (flat_map (λ s. take 1 (whole s)) segments) (flat_map (λ s. drop 1 (whole s)) segments)
    (AllByRecursion-flat_map (λ s. take 1 (whole s)) P segments (AllByRecursion-weaker (λ s. AllByRecursion P (whole s)) (λ s. AllByRecursion P (take 1 (whole s))) (λ s each. AllByRecursion_left P (take 1 (whole s)) (drop 1 (whole s)) (both s each)) segments h))
    (AllByRecursion-flat_map (λ s. drop 1 (whole s)) P segments (AllByRecursion-weaker (λ s. AllByRecursion P (whole s)) (λ s. AllByRecursion P (drop 1 (whole s))) (λ s each. AllByRecursion_right P (take 1 (whole s)) (drop 1 (whole s)) (both s each)) segments h))

-- what holds of each pair of a bag holds of each pair of its join
pub AllByRecursion-join : (P : Pair → Type 0) (bag : List WholeSegment) → AllByRecursion (λ s. P s.pair) bag → AllByRecursion (λ s. P s.pair) (join bag)
unfolding join summed
AllByRecursion-join P bag h =
    let keys = distinct_in_order pair_cmp (pairs bag) in
    let each = AllByRecursion-distinct_in_order pair_cmp P (pairs bag) (AllByRecursion-map P (λ (s : WholeSegment). s.pair) bag h) in
    let made = AllByRecursion-map (λ (s : WholeSegment). P s.pair) (λ (pair : Pair). let s : WholeSegment = record { pair = pair; count = winding_at bag pair } in s) keys each in
    AllByRecursion-filter_all (λ s. is_not_empty s.count) (λ (s : WholeSegment). P s.pair) (summed bag) made
