-- A list in which nothing is marked, or nothing passes through a pair.
use Rattle.std.proofs.Common.{◌≡◌, refl, ap, ap₂, ◌∙◌, inl, inr, false, Bool, IsTrue, List, [], ◌∷◌, ◌++◌, take, drop, ℕ, zero, suc, ◌-◌, length, append-nil, sum_by, ◌==◌}
use Rattle.std.specs.Prelude.{flat_map}
use Rattle.std.specs.List.{list_any}
use Rattle.std.proofs.lemmas.Bool.{cond-true, eq-eqb, eqb-true}
use Rattle.std.proofs.lemmas.List.Folds.{sum_by-zero}
use Rattle.overlay_geometry.specs.Points.{Point, Pair, point_cmp, point_lt}
use Rattle.overlay_geometry.specs.Sorting.{distinct_in_order}
use Rattle.overlay_base.specs.Windings.{Winding, inverse}
use Rattle.overlay_base.specs.Segments.{WholeSegment, pairs, is_map, are_ordered}
use Rattle.overlay_base.specs.Join.{join}
use Rattle.overlay_base.specs.Planar.{is_planar}
use Rattle.overlay_intersections.specs.Marks.{Placing, marks_by}
use Rattle.overlay_cuts.specs.Path.{path, piece, pieces_along, pieces}
use Rattle.overlay_cuts.specs.Pass.{cut_by, pass_by}
use Rattle.overlay_intersections.specs.PassMarks.{marks_on, mark_count}
use Rattle.overlay_geometry.proofs.laws.geometry.Points.{Before, from_before}
use Rattle.overlay_base.proofs.laws.joins.Maps.{are_ordered-map, join-map}
use Rattle.overlay_geometry.proofs.laws.lists.Lists.{Has, Has-map, list_any-from_none, AllByRecursion-from_Has, list_all-from_Has}
use Rattle.overlay_intersections.proofs.laws.marks.ApartPairs.{apart_have_no_mark}
use Rattle.overlay_cuts.proofs.laws.planar.ExactMarks.{In, In-ordered}
use Rattle.overlay_cuts.proofs.laws.planar.OrderedPaths.{path_in_order}
use Rattle.overlay_cuts.proofs.laws.planar.PlanarPasses.{is_planar-each}

-- ---- lists

pub flat_map-same : {X Y : Type 0} (f g : X → List Y) (xs : List X) → ((x : X) → Has xs x → f x ≡ g x) → flat_map f xs ≡ flat_map g xs
flat_map-same f g [] h = refl
flat_map-same f g (x ∷ xs) h = ap₂ (λ (l : List _) (r : List _). l ++ r) (h x (inl refl)) (flat_map-same f g xs (λ z i. h z (inr i)))

flat_map-none : {X Y : Type 0} (f : X → List Y) (xs : List X) → ((x : X) → Has xs x → f x ≡ []) → flat_map f xs ≡ []
flat_map-none f [] h = refl
flat_map-none f (x ∷ xs) h = ap₂ (λ (l : List _) (r : List _). l ++ r) (h x (inl refl)) (flat_map-none f xs (λ z i. h z (inr i)))

flat_map-each : {X : Type 0} (f : X → List X) (xs : List X) → ((x : X) → Has xs x → f x ≡ x ∷ []) → flat_map f xs ≡ xs
flat_map-each f [] h = refl
flat_map-each f (x ∷ xs) h = ap₂ (λ (l : List _) (r : List _). l ++ r) (h x (inl refl)) (flat_map-each f xs (λ z i. h z (inr i)))

-- no element passes the test
pub none_passes : {X : Type 0} (p : X → Bool) (xs : List X) → ((x : X) → Has xs x → p x ≡ false) → list_any p xs ≡ false
none_passes p xs h = list_any-from_none p xs (AllByRecursion-from_Has (λ x. p x ≡ false) xs h)

-- ---- no marks

-- no pair of a planar list is marked
pub planar_unmarked : (placing : Placing) (segments : List WholeSegment) → IsTrue (is_planar segments) → (s : Pair) → In segments s → marks_on placing segments s ≡ []
unfolding marks_on distinct_in_order
planar_unmarked placing segments h s i =
    ap (λ (l : List Point). distinct_in_order point_cmp l) (flat_map-none (λ t. marks_by placing s t) (pairs segments) (λ t j. apart_have_no_mark placing s t (is_planar-each segments h s t i j)))

pub planar_mark_count : (placing : Placing) (segments : List WholeSegment) → IsTrue (is_planar segments) → mark_count placing segments ≡ 0
unfolding mark_count
planar_mark_count placing segments h =
    let each = list_all-from_Has (λ s. length (marks_on placing segments s) == 0) (pairs segments) (λ s i. eq-eqb (length (marks_on placing segments s)) 0 (ap (λ (l : List Point). length l) (planar_unmarked placing segments h s i))) in
    eqb-true (sum_by (λ s. length (marks_on placing segments s)) (pairs segments)) 0 (sum_by-zero (λ s. length (marks_on placing segments s)) (pairs segments) ∙ each)

-- ---- a pass changes nothing

whole_piece : (s : WholeSegment) → Before s.pair.a s.pair.b → piece s.count s.pair.a s.pair.b ≡ s
unfolding piece
whole_piece s o = cond-true (point_lt s.pair.a s.pair.b) s (record { pair = record { a = s.pair.b; b = s.pair.a }; count = inverse s.count }) (from_before s.pair.a s.pair.b o)

path_unmarked : (s : Pair) → Before s.a s.b → path s [] ≡ s.a ∷ s.b ∷ []
unfolding distinct_in_order
path_unmarked s o = path_in_order s [] o tt

pieces_along_two : (count : Winding) (p q : Point) → pieces_along count (p ∷ q ∷ []) ≡ piece count p q ∷ []
unfolding pieces_along
pieces_along_two count p q = refl

pub pieces_unmarked : (s : WholeSegment) → Before s.pair.a s.pair.b → pieces s [] ≡ s ∷ []
unfolding pieces
pieces_unmarked s o = ap (λ (l : List Point). pieces_along s.count l) (path_unmarked s.pair o) ∙ pieces_along_two s.count s.pair.a s.pair.b ∙ ap (λ (u : WholeSegment). u ∷ []) (whole_piece s o)

-- where no pair of the list is marked
module _ (marks : Pair → List Point) (segments : List WholeSegment) (none : (s : Pair) → In segments s → marks s ≡ []) where
  piece_alone : IsTrue (are_ordered segments) → (s : WholeSegment) → Has segments s → pieces s (marks s.pair) ≡ s ∷ []
  piece_alone o s i =
      let j : In segments s.pair = Has-map (λ (u : WholeSegment). u.pair) segments s i in
      ap (λ (l : List Point). pieces s l) (none s.pair j) ∙ pieces_unmarked s (In-ordered segments o s.pair j)

  unmarked_cut : IsTrue (are_ordered segments) → cut_by marks segments ≡ segments
  unfolding cut_by
  unmarked_cut o =
      ap₂ (λ (l : List WholeSegment) (r : List WholeSegment). l ++ r)
      (flat_map-each (λ s. take 1 (pieces s (marks s.pair))) segments (λ s i. ap (λ (l : List WholeSegment). take 1 l) (piece_alone o s i)))
      (flat_map-none (λ s. drop 1 (pieces s (marks s.pair))) segments (λ s i. ap (λ (l : List WholeSegment). drop 1 l) (piece_alone o s i)))
      ∙ append-nil segments

  pub unmarked_pass : IsTrue (is_map segments) → pass_by marks segments ≡ segments
  unmarked_pass m = ap (λ (l : List WholeSegment). join l) (unmarked_cut (are_ordered-map segments m)) ∙ join-map segments m
