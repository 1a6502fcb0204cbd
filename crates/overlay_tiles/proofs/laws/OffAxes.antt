-- Segments that run along an axis and are cut on their own line wind as before at every point, so snap rounding keeps the winding at a point
-- that is farther than it reaches from all others. Most of this file is `nearness/Places` of `overlay_split`, to which its third case belongs.
use Rattle.std.proofs.Common.{◌≡◌, ◌⊎◌, inl, inr, refl, sym, ap, ap₂, ◌∙◌, arith, ℕ, Bool, true, false, List, [], ◌∷◌}
use Rattle.std.specs.Prelude.{Contains, ℤ, pos, ◌+ℤ◌, ◌-ℤ◌, ◌*ℤ◌, neg_ℤ, ◌≤ℤ◌, ◌<ℤ◌, int_le, int_lt, cond, ◌&&◌, IsTrue, filter}
use Rattle.std.specs.List.{AllByRecursion}
use Rattle.std.proofs.lemmas.Int.{ints, by_lt_z, clamps}
use Rattle.std.proofs.lemmas.Bool.{cond_both, and_parts, or_from, not_from_false, cases_Bool}
use Rattle.overlay_geometry.specs.Points.{Point, Pair, point_lt, is_ordered, is_vertical, is_horizontal, is_between, is_in_box}
use Rattle.overlay_base.specs.Windings.{Winding, empty, add, inverse, weight}
use Rattle.overlay_base.specs.Segments.{WholeSegment, pairs, are_ordered}
use Rattle.overlay_base.specs.Sums.{gathered, weighed}
use Rattle.overlay_geometry.proofs.laws.geometry.Points.{before, not_before, Before-x, UpTo-x}
use Rattle.overlay_geometry.proofs.laws.lists.Lists.{AllByRecursion-weaker, AllByRecursion-both, AllByRecursion-at, AllByRecursion-from_Has, Has, Has-map, by_list_any, list_all-at, Has-filter}
use Rattle.overlay_base.proofs.laws.lists.Monoids.{gathered-same, gathered-through}
use Rattle.overlay_base.proofs.laws.joins.Bags.{total_weight-total}
use Rattle.overlay_base.proofs.laws.joins.Functionals.{whole_numbers_add, total_weight-filter, at_subj, at_clip}
use Rattle.overlay_base.proofs.laws.counts.Windings.{same_windings}
use Rattle.overlay_cuts.specs.Path.{path, piece, pieces_along, pieces}
use Rattle.overlay_cuts.specs.Pass.{cut_by, pass_by, EachMark}
use Rattle.overlay_base.specs.Places.{RationalPoint, spans, runs_below, lies_below, winding_below}
use Rattle.overlay_cuts.specs.Nearness.{whole_point, IsNear, LiesNear}
use Rattle.overlay_cuts.specs.Places.{IsFar}
use Rattle.overlay_cuts.specs.Laws.{IsOdd, loss}
use Rattle.overlay_cuts.proofs.laws.nearness.Places.{join_keeps_winding, IsFlat}
use Rattle.overlay_cuts.proofs.laws.paths.Boxes.{AtEnds, pieces_have}
use Rattle.overlay_cuts.proofs.laws.paths.Cuts.{gathered-cut}
use Rattle.overlay_cuts.proofs.laws.paths.MarkedPairs.{EachMark-at}
use Rattle.overlay_cuts.proofs.laws.paths.PieceCounts.{counts_of_pieces}
use Rattle.overlay_cuts.proofs.laws.paths.Pieces.{weighed-pieces}
use Rattle.overlay_cuts.proofs.laws.nearness.Distances.{LiesNear-from_ends, IsNear-start, IsNear-end}
use Rattle.overlay_cuts.proofs.laws.nearness.NearMarks.{AreNear, MarksAreNear}
use Rattle.overlay_cuts.proofs.laws.nearness.Nearness.{pieces_lie_near}
use Rattle.overlay_cuts.proofs.laws.nearness.OneSide.{one_side}
use Rattle.overlay_geometry.proofs.laws.integers.Tests.{le_equal, le-test, le-test_false, lt-test, lt-test_false, eq-tested}
use Rattle.overlay_geometry.proofs.laws.integers.Products.{zero_times, times_nothing, scaled_le}
use Rattle.overlay_geometry.proofs.laws.lists.Elements.{Contains-from_Has}
use Rattle.overlay_base.specs.Join.{join}
use Rattle.overlay_base.proofs.laws.joins.Maps.{are_ordered-join}
use Rattle.overlay_cuts.proofs.laws.planar.ExactInputs.{In-join}
use Rattle.overlay_snapping.specs.Chains.{AreSnapCuts, AreDecided}
use Rattle.overlay_snapping.specs.SnapOf.{reach_of_snap}
use Rattle.overlay_snapping.proofs.laws.chains.MarkLists.{each_cut}
use Rattle.overlay_snapping.proofs.laws.chains.Paths.{cut_in_box}
use Rattle.overlay_snapping.proofs.laws.chains.SnapRuns.{near_cuts}
use Rattle.overlay_contours.proofs.laws.Windings.{not_below}
use Rattle.overlay_tiles.specs.Tiles.{is_slanted}
use Rattle.overlay_tiles.specs.Laws.{SnapKeepsWindingOffAxes}
use Rattle.overlay_tiles.proofs.laws.Bends.{left_of}
use Rattle.overlay_tiles.proofs.laws.Clamps.{and_false, both_met, below_level, above_level}

-- ---- the winding as sums of numbers

-- 1 for a pair that lies below p
abbrev below_sign : RationalPoint → Pair → ℤ
below_sign p s = cond (lies_below s p) (pos 1) (pos 0)

winding_below-subj : (bag : List WholeSegment) (p : RationalPoint) → (winding_below bag p).subj ≡ weighed (below_sign p) (λ c. c.subj) bag
unfolding winding_below
winding_below-subj bag p =
    ap (λ (c : Winding). c.subj) (total_weight-filter (λ s. lies_below s p) bag)
    ∙ gathered-through add empty ◌+ℤ◌ (pos 0) (λ c. c.subj) refl (λ c d. refl) (λ (s : WholeSegment). cond (lies_below s.pair p) (weight s.count) empty) bag
    ∙ gathered-same whole_numbers_add _ _ (λ s. at_subj (lies_below s.pair p) s.count) bag

winding_below-clip : (bag : List WholeSegment) (p : RationalPoint) → (winding_below bag p).clip ≡ weighed (below_sign p) (λ c. c.clip) bag
unfolding winding_below
winding_below-clip bag p =
    ap (λ (c : Winding). c.clip) (total_weight-filter (λ s. lies_below s p) bag)
    ∙ gathered-through add empty ◌+ℤ◌ (pos 0) (λ c. c.clip) refl (λ c d. refl) (λ (s : WholeSegment). cond (lies_below s.pair p) (weight s.count) empty) bag
    ∙ gathered-same whole_numbers_add _ _ (λ s. at_clip (lies_below s.pair p) s.count) bag

winding_below-mask : (bag : List WholeSegment) (p : RationalPoint) → (winding_below bag p).mask ≡ 0
unfolding winding_below
winding_below-mask bag p = ap (λ (c : Winding). c.mask) (total_weight-total _)

-- ---- sums with each term known

gathered-each : {X M : Type 0} (op : M → M → M) (unit : M) (f g : X → M) (xs : List X) → AllByRecursion (λ x. f x ≡ g x) xs → gathered op unit f xs ≡ gathered op unit g xs
gathered-each op unit f g [] h = refl
gathered-each op unit f g (x ∷ xs) h = ap₂ op h.0 (gathered-each op unit f g xs h.1)

weighed-each : (f g : Pair → ℤ) (part : Winding → ℤ) (segments : List WholeSegment) → AllByRecursion (λ s. f s.pair ≡ g s.pair) segments → weighed f part segments ≡ weighed g part segments
weighed-each f g part segments h =
    gathered-each ◌+ℤ◌ (pos 0) (λ s. f s.pair *ℤ part s.count) (λ s. g s.pair *ℤ part s.count) segments
    (AllByRecursion-weaker (λ s. f s.pair ≡ g s.pair) (λ s. f s.pair *ℤ part s.count ≡ g s.pair *ℤ part s.count) (λ s e. ap (λ (z : ℤ). z *ℤ part s.count) e) segments h)

weighed-none : (part : Winding → ℤ) (segments : List WholeSegment) → weighed (λ _. pos 0) part segments ≡ pos 0
weighed-none part [] = refl
weighed-none part (s ∷ segments) = ap₂ ◌+ℤ◌ (zero_times (part s.count)) (weighed-none part segments)

-- ---- pairs from left to right

abbrev GoesRight : Pair → Type 0
GoesRight s = s.a.x ≤ℤ s.b.x

piece_goes_right : (count : Winding) (p q : Point) → GoesRight (piece count p q).pair
unfolding piece
piece_goes_right count p q =
    cond_both (point_lt p q) (record { pair = record { a = p; b = q }; count = count }) (record { pair = record { a = q; b = p }; count = inverse count }) (λ (r : WholeSegment). GoesRight r.pair)
    (λ e. Before-x p q (before p q e))
    (λ e. UpTo-x q p (not_before p q e))

pieces_along_go_right : (count : Winding) (points : List Point) → AllByRecursion (λ r. GoesRight r.pair) (pieces_along count points)
unfolding pieces_along
pieces_along_go_right count [] = tt
pieces_along_go_right count (p ∷ []) = tt
pieces_along_go_right count (p ∷ q ∷ points) = (piece_goes_right count p q, pieces_along_go_right count (q ∷ points))

-- a pair from left to right meets the line where it leads from one side to the other
span_is_loss : (p : RationalPoint) (s : Pair) → GoesRight s → cond (spans s p) (pos 1) (pos 0) ≡ loss (left_of p) s
span_is_loss p s right = plain (s.a.x *ℤ pos p.bottom) (s.b.x *ℤ pos p.bottom) p.x (scaled_le s.a.x s.b.x p.bottom right)
  where
    up_to : (b : Bool) → cond (b && true) (pos 1) (pos 0) ≡ cond b (pos 1) (pos 0) -ℤ pos 0
    up_to true = refl
    up_to false = refl

    plain : (u v x : ℤ) → u ≤ℤ v → cond (int_le u x && int_lt x v) (pos 1) (pos 0) ≡ cond (int_le u x) (pos 1) (pos 0) -ℤ cond (int_le v x) (pos 1) (pos 0)
    plain u v x l =
        by_lt_z x v
        (λ (less : x <ℤ v). rw (lt-test x v less, le-test_false v x less) (up_to (int_le u x)))
        (λ (more : v ≤ℤ x). let k : u ≤ℤ x = omega (arith, ints, l, more) in rw (lt-test_false x v more, le-test v x more, le-test u x k) refl)

-- ---- the pieces of a segment

-- where all that meet the line run below p
below_is_span : (p : RationalPoint) (s : Pair) → (IsTrue (spans s p) → IsTrue (runs_below s p)) → below_sign p s ≡ cond (spans s p) (pos 1) (pos 0)
below_is_span p s h = plain (spans s p) (runs_below s p) h
  where
    plain : (a b : Bool) → (a ≡ true → b ≡ true) → cond (a && b) (pos 1) (pos 0) ≡ cond a (pos 1) (pos 0)
    plain true b h = rw (h refl) refl
    plain false b h = refl

module _ (h : ℕ) (p : RationalPoint) (s : WholeSegment) (marks : List Point) (right : GoesRight s.pair) (near : AreNear h marks s.pair) (far : IsNear h p s.pair → ⊥) where
  all_near : AllByRecursion (λ r. LiesNear h r.pair s.pair) (s ∷ pieces s marks)
  all_near = (LiesNear-from_ends h s.pair s.pair (IsNear-start h s.pair) (IsNear-end h s.pair), pieces_lie_near h s marks near)

  all_go_right : AllByRecursion (λ r. GoesRight r.pair) (s ∷ pieces s marks)
  unfolding pieces
  all_go_right = (right, pieces_along_go_right s.count (path s.pair marks))

  -- where one of them lies below p, all that meet the line do
  all_below : (r : WholeSegment) → Has (s ∷ pieces s marks) r → IsTrue (lies_below r.pair p) → AllByRecursion (λ t. below_sign p t.pair ≡ loss (left_of p) t.pair) (s ∷ pieces s marks)
  all_below r i below =
      let here = AllByRecursion-at (λ t. LiesNear h t.pair s.pair) (s ∷ pieces s marks) r all_near i in
      AllByRecursion-weaker (λ t. LiesNear h t.pair s.pair × GoesRight t.pair) (λ t. below_sign p t.pair ≡ loss (left_of p) t.pair)
      (λ t k. below_is_span p t.pair (λ met. one_side h p s.pair r.pair t.pair far here k.0 below met) ∙ span_is_loss p t.pair k.1) (s ∷ pieces s marks)
      (AllByRecursion-both (λ t. LiesNear h t.pair s.pair) (λ t. GoesRight t.pair) (s ∷ pieces s marks) all_near all_go_right)

  none_below : ((r : WholeSegment) → Has (s ∷ pieces s marks) r → lies_below r.pair p ≡ false) → AllByRecursion (λ t. below_sign p t.pair ≡ pos 0) (s ∷ pieces s marks)
  none_below none = AllByRecursion-from_Has (λ t. below_sign p t.pair ≡ pos 0) (s ∷ pieces s marks) (λ t i. ap (λ (b : Bool). cond b (pos 1) (pos 0)) (none t i))

  -- the pieces below p weigh what the segment does there
  pieces_weigh : (part : Winding → ℤ) → IsOdd part → weighed (below_sign p) part (pieces s marks) ≡ below_sign p s.pair *ℤ part s.count
  pieces_weigh part odd =
      by_list_any (λ r. lies_below r.pair p) (s ∷ pieces s marks)
      (λ r i below.
      let each = all_below r i below in
      weighed-each (below_sign p) (loss (left_of p)) part (pieces s marks) each.1
      ∙ weighed-pieces part odd (left_of p) s marks
      ∙ ap (λ (z : ℤ). z *ℤ part s.count) (sym each.0))
      (λ none.
      let each = none_below none in
      weighed-each (below_sign p) (λ _. pos 0) part (pieces s marks) each.1
      ∙ weighed-none part (pieces s marks)
      ∙ sym (ap (λ (z : ℤ). z *ℤ part s.count) each.0 ∙ zero_times (part s.count)))

-- ---- counts that do not wind

IsFlat-inverse : (c : Winding) → IsFlat c → IsFlat (inverse c)
IsFlat-inverse c h = (ap neg_ℤ h.0, ap neg_ℤ h.1)

weighed-flat : (f : Pair → ℤ) (part : Winding → ℤ) (segments : List WholeSegment) → AllByRecursion (λ s. part s.count ≡ pos 0) segments → weighed f part segments ≡ pos 0
weighed-flat f part [] h = refl
weighed-flat f part (s ∷ segments) h = ap₂ ◌+ℤ◌ (times_nothing (f s.pair) (part s.count) h.0) (weighed-flat f part segments h.1)

-- the pieces of a segment that does not wind do not either
pieces_of_flat : (p : RationalPoint) (s : WholeSegment) (marks : List Point) (part : Winding → ℤ) → ((c : Winding) → IsFlat c → part c ≡ pos 0) → IsFlat s.count →
    weighed (below_sign p) part (pieces s marks) ≡ below_sign p s.pair *ℤ part s.count
pieces_of_flat p s marks part none flat =
    weighed-flat (below_sign p) part (pieces s marks)
    (AllByRecursion-weaker (λ r. IsFlat r.count) (λ r. part r.count ≡ pos 0) (λ r h. none r.count h) (pieces s marks) (counts_of_pieces IsFlat IsFlat-inverse s marks flat))
    ∙ sym (times_nothing (below_sign p s.pair) (part s.count) (none s.count flat))

-- ---- segments along an axis

-- the pair runs along an axis, and all marks lie on its line
abbrev pub IsOnAxis : Pair → List Point → Type 0
IsOnAxis s marks = ((s.a.x ≡ s.b.x) × AllByRecursion (λ m. m.x ≡ s.a.x) marks) ⊎ ((s.a.y ≡ s.b.y) × AllByRecursion (λ m. m.y ≡ s.a.y) marks)

-- a vertical pair counts nothing, nor does a horizontal one up to which p lies
upright_counts_nothing : (p : RationalPoint) (r : Pair) → r.b.x ≤ℤ r.a.x → below_sign p r ≡ pos 0
upright_counts_nothing p r l = ap (λ (b : Bool). cond b (pos 1) (pos 0)) (not_below r p l)

level_counts_nothing : (y : ℤ) (r : Pair) (p : RationalPoint) → r.a.y ≡ y → r.b.y ≡ y → p.y ≤ℤ (y *ℤ pos p.bottom) → below_sign p r ≡ pos 0
level_counts_nothing y r p e f over =
    ap (λ (b : Bool). cond b (pos 1) (pos 0)) (both_met r p false (above_level y r p (le_equal _ _ (sym e)) (le_equal _ _ (sym f)) over) ∙ and_false (spans r p))

-- one that lies below p does where the line meets it
level_runs_below : (y : ℤ) (r : Pair) (p : RationalPoint) → r.a.y ≡ y → r.b.y ≡ y → (y *ℤ pos p.bottom) <ℤ p.y → IsTrue (spans r p) → IsTrue (runs_below r p)
level_runs_below y r p e f under = below_level y r p (le_equal _ _ e) (le_equal _ _ f) under

-- so its pieces weigh what it does, at every point
pieces_of_axis : (p : RationalPoint) (s : WholeSegment) (marks : List Point) → GoesRight s.pair → IsOnAxis s.pair marks → (part : Winding → ℤ) → IsOdd part → weighed (below_sign p) part (pieces s marks) ≡ below_sign p s.pair *ℤ part s.count
unfolding pieces
pieces_of_axis p s marks right (inl h) part odd =
    weighed-each (below_sign p) (λ _. pos 0) part (pieces s marks)
    (AllByRecursion-weaker (λ r. AtEnds (λ q. q.x ≡ s.pair.a.x) r.pair) (λ r. below_sign p r.pair ≡ pos 0) (λ r k. upright_counts_nothing p r.pair (both r.pair.a.x r.pair.b.x s.pair.a.x k.0 k.1)) (pieces s marks)
    (pieces_have (λ q. q.x ≡ s.pair.a.x) s marks (refl, sym h.0) h.1))
    ∙ weighed-none part (pieces s marks)
    ∙ sym (ap (λ (z : ℤ). z *ℤ part s.count) (upright_counts_nothing p s.pair (both s.pair.a.x s.pair.b.x s.pair.a.x refl (sym h.0))) ∙ zero_times (part s.count))
  where
    both : (u v z : ℤ) → u ≡ z → v ≡ z → v ≤ℤ u
    both u v z e f = omega (arith, ints, e, f)
pieces_of_axis p s marks right (inr h) part odd =
    by_lt_z (s.pair.a.y *ℤ pos p.bottom) p.y
    (λ (under : (s.pair.a.y *ℤ pos p.bottom) <ℤ p.y).
    weighed-each (below_sign p) (loss (left_of p)) part (pieces s marks)
    (AllByRecursion-weaker (λ r. AtEnds (λ q. q.y ≡ s.pair.a.y) r.pair × GoesRight r.pair) (λ r. below_sign p r.pair ≡ loss (left_of p) r.pair)
    (λ r k. below_is_span p r.pair (level_runs_below s.pair.a.y r.pair p k.0.0 k.0.1 under) ∙ span_is_loss p r.pair k.1) (pieces s marks) all)
    ∙ weighed-pieces part odd (left_of p) s marks
    ∙ ap (λ (z : ℤ). z *ℤ part s.count) (sym (below_is_span p s.pair (level_runs_below s.pair.a.y s.pair p refl (sym h.0) under) ∙ span_is_loss p s.pair right)))
    (λ (over : p.y ≤ℤ (s.pair.a.y *ℤ pos p.bottom)).
    weighed-each (below_sign p) (λ _. pos 0) part (pieces s marks)
    (AllByRecursion-weaker (λ r. AtEnds (λ q. q.y ≡ s.pair.a.y) r.pair × GoesRight r.pair) (λ r. below_sign p r.pair ≡ pos 0) (λ r k. level_counts_nothing s.pair.a.y r.pair p k.0.0 k.0.1 over) (pieces s marks) all)
    ∙ weighed-none part (pieces s marks)
    ∙ sym (ap (λ (z : ℤ). z *ℤ part s.count) (level_counts_nothing s.pair.a.y s.pair p refl (sym h.0) over) ∙ zero_times (part s.count)))
  where
    all : AllByRecursion (λ r. AtEnds (λ q. q.y ≡ s.pair.a.y) r.pair × GoesRight r.pair) (pieces s marks)
    all = AllByRecursion-both (λ r. AtEnds (λ q. q.y ≡ s.pair.a.y) r.pair) (λ r. GoesRight r.pair) (pieces s marks)
        (pieces_have (λ q. q.y ≡ s.pair.a.y) s marks (refl, sym h.0) h.1) (pieces_along_go_right s.count (path s.pair marks))

-- each segment is farther than that from p, does not wind, or is cut on its own line along an axis
abbrev pub IsApartByMarks : ℕ → (Pair → List Point) → RationalPoint → List WholeSegment → Type 0
IsApartByMarks h marks p segments = (s : WholeSegment) → Has segments s → ((IsNear h p s.pair → ⊥) ⊎ IsFlat s.count) ⊎ IsOnAxis s.pair (marks s.pair)

cut_weighs : (h : ℕ) (marks : Pair → List Point) (segments : List WholeSegment) (p : RationalPoint) → IsTrue (are_ordered segments) → MarksAreNear h marks segments → IsApartByMarks h marks p segments → (part : Winding → ℤ) → IsOdd part →
    ((c : Winding) → IsFlat c → part c ≡ pos 0) → weighed (below_sign p) part (cut_by marks segments) ≡ weighed (below_sign p) part segments
cut_weighs h marks segments p ordered near apart part odd none =
    gathered-cut whole_numbers_add (λ s. below_sign p s.pair *ℤ part s.count) marks segments
    ∙ gathered-each ◌+ℤ◌ (pos 0) (λ (s : WholeSegment). weighed (below_sign p) part (pieces s (marks s.pair))) (λ s. below_sign p s.pair *ℤ part s.count) segments
    (AllByRecursion-from_Has (λ s. weighed (below_sign p) part (pieces s (marks s.pair)) ≡ below_sign p s.pair *ℤ part s.count) segments
    (λ s i.
    let order = list_all-at (λ (t : WholeSegment). is_ordered t.pair) segments s ordered i in
    let right = Before-x s.pair.a s.pair.b (before s.pair.a s.pair.b order) in
    elim (apart s i) [
      | inl (inl far) ↦ pieces_weigh h p s (marks s.pair) right (near s.pair (Has-map (λ (t : WholeSegment). t.pair) segments s i)) far part odd
      | inl (inr flat) ↦ pieces_of_flat p s (marks s.pair) part none flat
      | inr axis ↦ pieces_of_axis p s (marks s.pair) right axis part odd
    ]))

cut_winds : (h : ℕ) (marks : Pair → List Point) (segments : List WholeSegment) (p : RationalPoint) → IsTrue (are_ordered segments) → MarksAreNear h marks segments → IsApartByMarks h marks p segments →
    winding_below (cut_by marks segments) p ≡ winding_below segments p
cut_winds h marks segments p ordered near apart =
    same_windings _ _
    (winding_below-subj (cut_by marks segments) p ∙ cut_weighs h marks segments p ordered near apart (λ c. c.subj) (λ c. refl) (λ c flat. flat.0) ∙ sym (winding_below-subj segments p))
    (winding_below-clip (cut_by marks segments) p ∙ cut_weighs h marks segments p ordered near apart (λ c. c.clip) (λ c. refl) (λ c flat. flat.1) ∙ sym (winding_below-clip segments p))
    (winding_below-mask (cut_by marks segments) p ∙ sym (winding_below-mask segments p))

-- a cut, joined, changes the winding at no point from which each segment is far that winds and is not cut on its own line along an axis
pub pass_by_marks_winds : (h : ℕ) (marks : Pair → List Point) (segments : List WholeSegment) (p : RationalPoint) → IsTrue (are_ordered segments) → MarksAreNear h marks segments → IsApartByMarks h marks p segments → winding_below (pass_by marks segments) p ≡ winding_below segments p
pass_by_marks_winds h marks segments p ordered near apart = join_keeps_winding (cut_by marks segments) p ∙ cut_winds h marks segments p ordered near apart

-- ---- snap rounding

module _ (given : List WholeSegment) (o : IsTrue (are_ordered given)) (on : Pair → List Point) (decided : AreDecided (join given)) (cuts : AreSnapCuts (join given) on) where
  joined_is_ordered : IsTrue (are_ordered (join given))
  joined_is_ordered = are_ordered-join given o

  -- and at one that is farther from each of them that does not run along an axis, however near it is to those that do
  pub keeps_winding_off_axes : (p : RationalPoint) → IsFar (reach_of_snap given) p (filter is_slanted (pairs given)) → winding_below (pass_by on (join given)) p ≡ winding_below given p
  unfolding is_in_box
  keeps_winding_off_axes p far =
      pass_by_marks_winds (reach_of_snap given) on (join given) p joined_is_ordered (EachMark-at (λ s m. IsNear (reach_of_snap given) (whole_point m) s) on (join given) (near_cuts given o on decided cuts))
      (λ s i. by s i (cases_Bool (is_vertical s.pair)) (cases_Bool (is_horizontal s.pair)))
      ∙ join_keeps_winding given p
    where
      in_boxes : EachMark (λ s m. IsTrue (is_in_box s m)) on (join given)
      in_boxes = each_cut (λ s m. IsTrue (is_in_box s m)) (join given) on cuts (λ s m i cut free. cut_in_box (pairs (join given)) s m cut)

      marks_in_box : (s : WholeSegment) → Has (join given) s → AllByRecursion (λ m. IsTrue (is_in_box s.pair m)) (on s.pair)
      marks_in_box s i = EachMark-at (λ s m. IsTrue (is_in_box s m)) on (join given) in_boxes s.pair (Has-map (λ (t : WholeSegment). t.pair) (join given) s i)

      same_between : (a b z : ℤ) → a ≡ b → is_between a b z ≡ true → z ≡ a
      same_between a b z e h = grind (arith, ints, clamps)

      by : (s : WholeSegment) → Has (join given) s → (is_vertical s.pair ≡ true) ⊎ (is_vertical s.pair ≡ false) → (is_horizontal s.pair ≡ true) ⊎ (is_horizontal s.pair ≡ false) →
          ((IsNear (reach_of_snap given) p s.pair → ⊥) ⊎ IsFlat s.count) ⊎ IsOnAxis s.pair (on s.pair)
      by s i (inl v) h =
          let e = eq-tested s.pair.a.x s.pair.b.x v in
          inr (inl (e, AllByRecursion-weaker (λ m. IsTrue (is_in_box s.pair m)) (λ m. m.x ≡ s.pair.a.x) (λ m b. same_between s.pair.a.x s.pair.b.x m.x e (and_parts (is_between s.pair.a.x s.pair.b.x m.x) (is_between s.pair.a.y s.pair.b.y m.y) b).0) (on s.pair) (marks_in_box s i)))
      by s i (inr v) (inl h) =
          let e = eq-tested s.pair.a.y s.pair.b.y h in
          inr (inr (e, AllByRecursion-weaker (λ m. IsTrue (is_in_box s.pair m)) (λ m. m.y ≡ s.pair.a.y) (λ m b. same_between s.pair.a.y s.pair.b.y m.y e (and_parts (is_between s.pair.a.x s.pair.b.x m.x) (is_between s.pair.a.y s.pair.b.y m.y) b).1) (on s.pair) (marks_in_box s i)))
      by s i (inr v) (inr h) = inl (inl (λ near. far (s.pair, slanted_given, near)))
        where
          slanted_given : Contains (filter is_slanted (pairs given)) s.pair
          slanted_given =
              Contains-from_Has (filter is_slanted (pairs given)) s.pair
              (Has-filter is_slanted (pairs given) s.pair (In-join given s.pair (Has-map (λ (t : WholeSegment). t.pair) (join given) s i)) (not_from_false _ (or_from _ _ v h)))

pub snap_keeps_winding_off_axes : SnapKeepsWindingOffAxes
snap_keeps_winding_off_axes given on p o decided cuts far = keeps_winding_off_axes given o on decided cuts p far
