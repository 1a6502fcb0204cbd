-- A cut changes no winding at a place that is farther from the segments than its marks lie from them.
use Rattle.std.proofs.Common.{◌≡◌, ◌⊎◌, inl, inr, refl, sym, ap, ap₂, ◌∙◌, arith, ℕ, zero, suc, ◌+◌, Bool, true, false, List, [], ◌∷◌}
use Rattle.std.specs.Prelude.{◌≤◌, ℤ, pos, ◌+ℤ◌, ◌-ℤ◌, ◌*ℤ◌, neg_ℤ, ◌≤ℤ◌, ◌<ℤ◌, int_le, int_lt, cond, ◌&&◌, IsTrue}
use Rattle.std.specs.List.{AllByRecursion}
use Rattle.std.proofs.lemmas.Int.{ints, by_lt_z}
use Rattle.std.proofs.lemmas.Bool.{cond_both}
use Rattle.overlay_geometry.specs.Points.{Point, Pair, point_lt, is_ordered}
use Rattle.overlay_base.specs.Windings.{Winding, empty, add, inverse, weight}
use Rattle.overlay_base.specs.Segments.{WholeSegment, pairs, are_ordered}
use Rattle.overlay_base.specs.Sums.{gathered, weighed}
use Rattle.overlay_geometry.proofs.laws.geometry.Points.{before, not_before, Before-x, UpTo-x}
use Rattle.overlay_geometry.proofs.laws.lists.Lists.{AllByRecursion-weaker, AllByRecursion-both, AllByRecursion-at, AllByRecursion-from_Has, Has, Has-map, by_list_any, list_all-at}
use Rattle.overlay_base.proofs.laws.lists.Monoids.{gathered-same, gathered-through}
use Rattle.overlay_base.proofs.laws.joins.Bags.{total_weight-total}
use Rattle.overlay_base.proofs.laws.joins.Functionals.{whole_numbers_add, total_weight-filter, total_weight-filter_join, at_subj, at_clip}
use Rattle.overlay_base.proofs.laws.counts.Windings.{same_windings}
use Rattle.overlay_cuts.specs.Path.{path, piece, pieces_along, pieces}
use Rattle.overlay_cuts.specs.Pass.{cut_by, pass_by}
use Rattle.overlay_base.specs.Places.{RationalPoint, spans, runs_below, lies_below, winding_below}
use Rattle.overlay_cuts.specs.Nearness.{whole_point, IsNear, LiesNear}
use Rattle.overlay_cuts.specs.Places.{IsFar}
use Rattle.overlay_cuts.specs.Laws.{IsOdd, loss, JoinKeepsWinding, CutKeepsWinding}
use Rattle.overlay_cuts.proofs.laws.paths.Cuts.{gathered-cut}
use Rattle.overlay_cuts.proofs.laws.paths.MarkedPairs.{EachMark-at}
use Rattle.overlay_cuts.proofs.laws.paths.PieceCounts.{counts_of_pieces}
use Rattle.overlay_cuts.proofs.laws.paths.Pieces.{weighed-pieces}
use Rattle.overlay_cuts.proofs.laws.nearness.Distances.{LiesNear-from_ends, IsNear-start, IsNear-end}
use Rattle.overlay_cuts.proofs.laws.nearness.NearMarks.{AreNear, MarksAreNear}
use Rattle.overlay_cuts.proofs.laws.nearness.Nearness.{pieces_lie_near}
use Rattle.overlay_cuts.proofs.laws.nearness.OneSide.{one_side}
use Rattle.overlay_geometry.proofs.laws.integers.Tests.{le-test, le-test_false, lt-test, lt-test_false}
use Rattle.overlay_geometry.proofs.laws.integers.Products.{zero_times, times_nothing, scaled_le}
use Rattle.overlay_geometry.proofs.laws.lists.Elements.{Contains-from_Has}

-- ---- the winding as sums of numbers

-- 1 for a pair that lies below p
abbrev below_sign : RationalPoint → Pair → ℤ
below_sign p s = cond (lies_below s p) (pos 1) (pos 0)

winding_below-subj : (bag : List WholeSegment) (p : RationalPoint) → (winding_below bag p).subj ≡ weighed (below_sign p) (λ c. c.subj) bag
unfolding winding_below
winding_below-subj bag p =
    ap (λ (c : Winding). c.subj) (total_weight-filter (λ s. lies_below s p) bag)
    ∙ gathered-through add empty ◌+ℤ◌ (pos 0) (λ c. c.subj) refl (λ c d. refl) (λ (s : WholeSegment). cond (lies_below s.pair p) (weight s.count) empty) bag
    ∙ gathered-same whole_numbers_add _ _ (λ s. at_subj (lies_below s.pair p) s.count) bag

winding_below-clip : (bag : List WholeSegment) (p : RationalPoint) → (winding_below bag p).clip ≡ weighed (below_sign p) (λ c. c.clip) bag
unfolding winding_below
winding_below-clip bag p =
    ap (λ (c : Winding). c.clip) (total_weight-filter (λ s. lies_below s p) bag)
    ∙ gathered-through add empty ◌+ℤ◌ (pos 0) (λ c. c.clip) refl (λ c d. refl) (λ (s : WholeSegment). cond (lies_below s.pair p) (weight s.count) empty) bag
    ∙ gathered-same whole_numbers_add _ _ (λ s. at_clip (lies_below s.pair p) s.count) bag

winding_below-mask : (bag : List WholeSegment) (p : RationalPoint) → (winding_below bag p).mask ≡ 0
unfolding winding_below
winding_below-mask bag p = ap (λ (c : Winding). c.mask) (total_weight-total _)

pub join_keeps_winding : JoinKeepsWinding
unfolding winding_below
join_keeps_winding bag p = total_weight-filter_join (λ s. lies_below s p) bag

-- ---- sums with each term known

gathered-each : {X M : Type 0} (op : M → M → M) (unit : M) (f g : X → M) (xs : List X) → AllByRecursion (λ x. f x ≡ g x) xs → gathered op unit f xs ≡ gathered op unit g xs
gathered-each op unit f g [] h = refl
gathered-each op unit f g (x ∷ xs) h = ap₂ op h.0 (gathered-each op unit f g xs h.1)

weighed-each : (f g : Pair → ℤ) (part : Winding → ℤ) (segments : List WholeSegment) → AllByRecursion (λ s. f s.pair ≡ g s.pair) segments → weighed f part segments ≡ weighed g part segments
weighed-each f g part segments h =
    gathered-each ◌+ℤ◌ (pos 0) (λ s. f s.pair *ℤ part s.count) (λ s. g s.pair *ℤ part s.count) segments
    (AllByRecursion-weaker (λ s. f s.pair ≡ g s.pair) (λ s. f s.pair *ℤ part s.count ≡ g s.pair *ℤ part s.count) (λ s e. ap (λ (z : ℤ). z *ℤ part s.count) e) segments h)

weighed-none : (part : Winding → ℤ) (segments : List WholeSegment) → weighed (λ _. pos 0) part segments ≡ pos 0
weighed-none part [] = refl
weighed-none part (s ∷ segments) = ap₂ ◌+ℤ◌ (zero_times (part s.count)) (weighed-none part segments)

-- ---- pairs from left to right

abbrev GoesRight : Pair → Type 0
GoesRight s = s.a.x ≤ℤ s.b.x

piece_goes_right : (count : Winding) (p q : Point) → GoesRight (piece count p q).pair
unfolding piece
piece_goes_right count p q =
    cond_both (point_lt p q) (record { pair = record { a = p; b = q }; count = count }) (record { pair = record { a = q; b = p }; count = inverse count }) (λ (r : WholeSegment). GoesRight r.pair)
    (λ e. Before-x p q (before p q e))
    (λ e. UpTo-x q p (not_before p q e))

pieces_along_go_right : (count : Winding) (points : List Point) → AllByRecursion (λ r. GoesRight r.pair) (pieces_along count points)
unfolding pieces_along
pieces_along_go_right count [] = tt
pieces_along_go_right count (p ∷ []) = tt
pieces_along_go_right count (p ∷ q ∷ points) = (piece_goes_right count p q, pieces_along_go_right count (q ∷ points))

-- 1 for a point up to the line through p
abbrev left_of : RationalPoint → Point → ℤ
left_of p q = cond (int_le (q.x *ℤ pos p.bottom) p.x) (pos 1) (pos 0)

-- a pair from left to right meets the line where it leads from one side to the other
span_is_loss : (p : RationalPoint) (s : Pair) → GoesRight s → cond (spans s p) (pos 1) (pos 0) ≡ loss (left_of p) s
span_is_loss p s right = plain (s.a.x *ℤ pos p.bottom) (s.b.x *ℤ pos p.bottom) p.x (scaled_le s.a.x s.b.x p.bottom right)
  where
    up_to : (b : Bool) → cond (b && true) (pos 1) (pos 0) ≡ cond b (pos 1) (pos 0) -ℤ pos 0
    up_to true = refl
    up_to false = refl

    plain : (u v x : ℤ) → u ≤ℤ v → cond (int_le u x && int_lt x v) (pos 1) (pos 0) ≡ cond (int_le u x) (pos 1) (pos 0) -ℤ cond (int_le v x) (pos 1) (pos 0)
    plain u v x l =
        by_lt_z x v
        (λ (less : x <ℤ v). rw (lt-test x v less, le-test_false v x less) (up_to (int_le u x)))
        (λ (more : v ≤ℤ x). let k : u ≤ℤ x = omega (arith, ints, l, more) in rw (lt-test_false x v more, le-test v x more, le-test u x k) refl)

-- ---- the pieces of a segment

-- where all that meet the line run below p
below_is_span : (p : RationalPoint) (s : Pair) → (IsTrue (spans s p) → IsTrue (runs_below s p)) → below_sign p s ≡ cond (spans s p) (pos 1) (pos 0)
below_is_span p s h = plain (spans s p) (runs_below s p) h
  where
    plain : (a b : Bool) → (a ≡ true → b ≡ true) → cond (a && b) (pos 1) (pos 0) ≡ cond a (pos 1) (pos 0)
    plain true b h = rw (h refl) refl
    plain false b h = refl

module _ (h : ℕ) (p : RationalPoint) (s : WholeSegment) (marks : List Point) (right : GoesRight s.pair) (near : AreNear h marks s.pair) (far : IsNear h p s.pair → ⊥) where
  all_near : AllByRecursion (λ r. LiesNear h r.pair s.pair) (s ∷ pieces s marks)
  all_near = (LiesNear-from_ends h s.pair s.pair (IsNear-start h s.pair) (IsNear-end h s.pair), pieces_lie_near h s marks near)

  all_go_right : AllByRecursion (λ r. GoesRight r.pair) (s ∷ pieces s marks)
  unfolding pieces
  all_go_right = (right, pieces_along_go_right s.count (path s.pair marks))

  -- where one of them lies below p, all that meet the line do
  all_below : (r : WholeSegment) → Has (s ∷ pieces s marks) r → IsTrue (lies_below r.pair p) → AllByRecursion (λ t. below_sign p t.pair ≡ loss (left_of p) t.pair) (s ∷ pieces s marks)
  all_below r i below =
      let here = AllByRecursion-at (λ t. LiesNear h t.pair s.pair) (s ∷ pieces s marks) r all_near i in
      AllByRecursion-weaker (λ t. LiesNear h t.pair s.pair × GoesRight t.pair) (λ t. below_sign p t.pair ≡ loss (left_of p) t.pair)
      (λ t k. below_is_span p t.pair (λ met. one_side h p s.pair r.pair t.pair far here k.0 below met) ∙ span_is_loss p t.pair k.1) (s ∷ pieces s marks)
      (AllByRecursion-both (λ t. LiesNear h t.pair s.pair) (λ t. GoesRight t.pair) (s ∷ pieces s marks) all_near all_go_right)

  none_below : ((r : WholeSegment) → Has (s ∷ pieces s marks) r → lies_below r.pair p ≡ false) → AllByRecursion (λ t. below_sign p t.pair ≡ pos 0) (s ∷ pieces s marks)
  none_below none = AllByRecursion-from_Has (λ t. below_sign p t.pair ≡ pos 0) (s ∷ pieces s marks) (λ t i. ap (λ (b : Bool). cond b (pos 1) (pos 0)) (none t i))

  -- the pieces below p weigh what the segment does there
  pieces_weigh : (part : Winding → ℤ) → IsOdd part → weighed (below_sign p) part (pieces s marks) ≡ below_sign p s.pair *ℤ part s.count
  pieces_weigh part odd =
      by_list_any (λ r. lies_below r.pair p) (s ∷ pieces s marks)
      (λ r i below.
      let each = all_below r i below in
      weighed-each (below_sign p) (loss (left_of p)) part (pieces s marks) each.1
      ∙ weighed-pieces part odd (left_of p) s marks
      ∙ ap (λ (z : ℤ). z *ℤ part s.count) (sym each.0))
      (λ none.
      let each = none_below none in
      weighed-each (below_sign p) (λ _. pos 0) part (pieces s marks) each.1
      ∙ weighed-none part (pieces s marks)
      ∙ sym (ap (λ (z : ℤ). z *ℤ part s.count) each.0 ∙ zero_times (part s.count)))

-- ---- a pass

-- a segment of a list from which p is far
pub far_from : (h : ℕ) (p : RationalPoint) (segments : List WholeSegment) → IsFar h p (pairs segments) → (s : WholeSegment) → Has segments s → IsNear h p s.pair → ⊥
far_from h p segments far s i near = far (s.pair, Contains-from_Has (pairs segments) s.pair (Has-map (λ (t : WholeSegment). t.pair) segments s i), near)

-- ---- counts that do not wind

abbrev pub IsFlat : Winding → Type 0
IsFlat c = (c.subj ≡ pos 0) × (c.clip ≡ pos 0)

IsFlat-inverse : (c : Winding) → IsFlat c → IsFlat (inverse c)
IsFlat-inverse c h = (ap neg_ℤ h.0, ap neg_ℤ h.1)

weighed-flat : (f : Pair → ℤ) (part : Winding → ℤ) (segments : List WholeSegment) → AllByRecursion (λ s. part s.count ≡ pos 0) segments → weighed f part segments ≡ pos 0
weighed-flat f part [] h = refl
weighed-flat f part (s ∷ segments) h = ap₂ ◌+ℤ◌ (times_nothing (f s.pair) (part s.count) h.0) (weighed-flat f part segments h.1)

-- the pieces of a segment that does not wind do not either
pieces_of_flat : (p : RationalPoint) (s : WholeSegment) (marks : List Point) (part : Winding → ℤ) → ((c : Winding) → IsFlat c → part c ≡ pos 0) → IsFlat s.count →
    weighed (below_sign p) part (pieces s marks) ≡ below_sign p s.pair *ℤ part s.count
pieces_of_flat p s marks part none flat =
    weighed-flat (below_sign p) part (pieces s marks)
    (AllByRecursion-weaker (λ r. IsFlat r.count) (λ r. part r.count ≡ pos 0) (λ r h. none r.count h) (pieces s marks) (counts_of_pieces IsFlat IsFlat-inverse s marks flat))
    ∙ sym (times_nothing (below_sign p s.pair) (part s.count) (none s.count flat))

-- each segment is farther than that from p, or does not wind
abbrev pub IsApartFrom : ℕ → RationalPoint → List WholeSegment → Type 0
IsApartFrom h p segments = (s : WholeSegment) → Has segments s → (IsNear h p s.pair → ⊥) ⊎ IsFlat s.count

cut_weighs : (h : ℕ) (marks : Pair → List Point) (segments : List WholeSegment) (p : RationalPoint) → IsTrue (are_ordered segments) → MarksAreNear h marks segments → IsApartFrom h p segments → (part : Winding → ℤ) → IsOdd part →
    ((c : Winding) → IsFlat c → part c ≡ pos 0) → weighed (below_sign p) part (cut_by marks segments) ≡ weighed (below_sign p) part segments
cut_weighs h marks segments p ordered near apart part odd none =
    gathered-cut whole_numbers_add (λ s. below_sign p s.pair *ℤ part s.count) marks segments
    ∙ gathered-each ◌+ℤ◌ (pos 0) (λ (s : WholeSegment). weighed (below_sign p) part (pieces s (marks s.pair))) (λ s. below_sign p s.pair *ℤ part s.count) segments
    (AllByRecursion-from_Has (λ s. weighed (below_sign p) part (pieces s (marks s.pair)) ≡ below_sign p s.pair *ℤ part s.count) segments
    (λ s i.
    let order = list_all-at (λ (t : WholeSegment). is_ordered t.pair) segments s ordered i in
    elim (apart s i) [
      | inl far ↦ pieces_weigh h p s (marks s.pair) (Before-x s.pair.a s.pair.b (before s.pair.a s.pair.b order))
          (near s.pair (Has-map (λ (t : WholeSegment). t.pair) segments s i)) far part odd
      | inr flat ↦ pieces_of_flat p s (marks s.pair) part none flat
    ]))

cut_winds : (h : ℕ) (marks : Pair → List Point) (segments : List WholeSegment) (p : RationalPoint) → IsTrue (are_ordered segments) → MarksAreNear h marks segments → IsApartFrom h p segments →
    winding_below (cut_by marks segments) p ≡ winding_below segments p
cut_winds h marks segments p ordered near apart =
    same_windings _ _
    (winding_below-subj (cut_by marks segments) p ∙ cut_weighs h marks segments p ordered near apart (λ c. c.subj) (λ c. refl) (λ c flat. flat.0) ∙ sym (winding_below-subj segments p))
    (winding_below-clip (cut_by marks segments) p ∙ cut_weighs h marks segments p ordered near apart (λ c. c.clip) (λ c. refl) (λ c flat. flat.1) ∙ sym (winding_below-clip segments p))
    (winding_below-mask (cut_by marks segments) p ∙ sym (winding_below-mask segments p))

-- a cut, joined, changes the winding at no place from which each segment that winds is far
pub pass_by_winds : (h : ℕ) (marks : Pair → List Point) (segments : List WholeSegment) (p : RationalPoint) → IsTrue (are_ordered segments) → MarksAreNear h marks segments → IsApartFrom h p segments → winding_below (pass_by marks segments) p ≡ winding_below segments p
pass_by_winds h marks segments p ordered near apart = join_keeps_winding (cut_by marks segments) p ∙ cut_winds h marks segments p ordered near apart

pub cut_keeps_winding : CutKeepsWinding
cut_keeps_winding h marks segments p ordered near far =
    pass_by_winds h marks segments p ordered (EachMark-at (λ s m. IsNear h (whole_point m) s) marks segments near) (λ s i. inl (far_from h p segments far s i))
