-- The counts of contours balance: what comes in at a point by one step goes out by the next.
use Rattle.std.proofs.Common.{◌≡◌, refl, sym, ap, ap₂, ◌∙◌, Bool, true, false, not, cond, List, [], ◌∷◌, ◌++◌, filter}
use Rattle.std.specs.Prelude.{pos, negsuc}
use Rattle.overlay_geometry.specs.Points.{Point, Pair, point_lt, point_eq}
use Rattle.overlay_base.specs.Windings.{Winding, add, inverse, empty}
use Rattle.overlay_base.specs.Segments.{WholeSegment}
use Rattle.overlay_base.specs.Sums.{gathered}
use Rattle.overlay_base.specs.Balance.{IsBalanced}
use Rattle.overlay_base.specs.BooleanWinding.{boolean_made}
use Rattle.overlay_base.specs.ShapeWindings.{direct_winding}
use Rattle.overlay_base.specs.declared.segm.shape_type.ShapeType.{ShapeType}
use Rattle.overlay_base.specs.declared.segm.shape_type.ShapeType.TheVariants.{Subject, Clip}
use Rattle.overlay_geometry.proofs.laws.geometry.Points.{same_by_eq}
use Rattle.overlay_base.proofs.laws.lists.Monoids.{gathered-append, gathered-filter, gathered-map, gathered-same}
use Rattle.overlay_base.proofs.laws.joins.Bags.{windings_add}
use Rattle.overlay_base.proofs.laws.joins.Functionals.{flow, balance-gathered}
use Rattle.overlay_contours.specs.Contours.{steps_from, steps_of, steps, is_edge}
use Rattle.overlay_contours.specs.ContourSegments.{step_segment, contour_segments, overlay_segments}

module _ (p : Point) where
  -- what leaves p where a step begins at q
  abbrev leaves : ShapeType → Point → Winding
  leaves shape_type q = cond (point_eq q p) (direct_winding boolean_made shape_type) empty

  abbrev step_flow : ShapeType → Pair → Winding
  step_flow shape_type s = add (leaves shape_type s.a) (inverse (leaves shape_type s.b))

  -- of a sum that begins and ends alike nothing is left
  there_and_back : (shape_type : ShapeType) (b : Bool) → add (cond b (direct_winding boolean_made shape_type) empty) (inverse (cond b (direct_winding boolean_made shape_type) empty)) ≡ empty
  there_and_back Subject true = refl
  there_and_back Subject false = refl
  there_and_back Clip true = refl
  there_and_back Clip false = refl

  -- a segment brings what its step does
  turned_flow : (shape_type : ShapeType) (s : Pair) (lt : Bool) → point_lt s.a s.b ≡ lt → flow p (step_segment shape_type s).pair (step_segment shape_type s).count ≡ step_flow shape_type s
  turned_flow Subject s true e = rw e (both (point_eq s.a p) (point_eq s.b p))
    where
      both : (x y : Bool) → add (cond x (record { subj = pos 1; clip = pos 0; mask = 0 }) empty) (inverse (cond y (record { subj = pos 1; clip = pos 0; mask = 0 }) empty)) ≡ add (cond x (record { subj = pos 1; clip = pos 0; mask = 0 }) empty) (inverse (cond y (record { subj = pos 1; clip = pos 0; mask = 0 }) empty))
      both x y = refl
  turned_flow Subject s false e = rw e (both (point_eq s.a p) (point_eq s.b p))
    where
      both : (x y : Bool) → add (cond y (record { subj = negsuc 0; clip = pos 0; mask = 0 }) empty) (inverse (cond x (record { subj = negsuc 0; clip = pos 0; mask = 0 }) empty)) ≡ add (cond x (record { subj = pos 1; clip = pos 0; mask = 0 }) empty) (inverse (cond y (record { subj = pos 1; clip = pos 0; mask = 0 }) empty))
      both true true = refl
      both true false = refl
      both false true = refl
      both false false = refl
  turned_flow Clip s true e = rw e (both (point_eq s.a p) (point_eq s.b p))
    where
      both : (x y : Bool) → add (cond x (record { subj = pos 0; clip = pos 1; mask = 0 }) empty) (inverse (cond y (record { subj = pos 0; clip = pos 1; mask = 0 }) empty)) ≡ add (cond x (record { subj = pos 0; clip = pos 1; mask = 0 }) empty) (inverse (cond y (record { subj = pos 0; clip = pos 1; mask = 0 }) empty))
      both x y = refl
  turned_flow Clip s false e = rw e (both (point_eq s.a p) (point_eq s.b p))
    where
      both : (x y : Bool) → add (cond y (record { subj = pos 0; clip = negsuc 0; mask = 0 }) empty) (inverse (cond x (record { subj = pos 0; clip = negsuc 0; mask = 0 }) empty)) ≡ add (cond x (record { subj = pos 0; clip = pos 1; mask = 0 }) empty) (inverse (cond y (record { subj = pos 0; clip = pos 1; mask = 0 }) empty))
      both true true = refl
      both true false = refl
      both false true = refl
      both false false = refl

  -- and a step between equal points brings nothing
  kept_flow : (shape_type : ShapeType) (s : Pair) → cond (is_edge s) (flow p (step_segment shape_type s).pair (step_segment shape_type s).count) empty ≡ step_flow shape_type s
  kept_flow shape_type s = by (point_eq s.a s.b) refl
    where
      by : (b : Bool) → point_eq s.a s.b ≡ b → cond (not b) (flow p (step_segment shape_type s).pair (step_segment shape_type s).count) empty ≡ step_flow shape_type s
      by true e = sym (ap (λ (q : Point). add (leaves shape_type s.a) (inverse (leaves shape_type q))) (sym (same_by_eq s.a s.b e)) ∙ there_and_back shape_type (point_eq s.a p))
      by false e = turned_flow shape_type s (point_lt s.a s.b) refl

  -- steps that follow one another bring what the first leaves less what the last brings in
  one_after_another : (shape_type : ShapeType) (x y z : Bool) →
      add (add (cond x (direct_winding boolean_made shape_type) empty) (inverse (cond y (direct_winding boolean_made shape_type) empty))) (add (cond y (direct_winding boolean_made shape_type) empty) (inverse (cond z (direct_winding boolean_made shape_type) empty)))
      ≡ add (cond x (direct_winding boolean_made shape_type) empty) (inverse (cond z (direct_winding boolean_made shape_type) empty))
  one_after_another Subject true true true = refl
  one_after_another Subject true true false = refl
  one_after_another Subject true false true = refl
  one_after_another Subject true false false = refl
  one_after_another Subject false true true = refl
  one_after_another Subject false true false = refl
  one_after_another Subject false false true = refl
  one_after_another Subject false false false = refl
  one_after_another Clip true true true = refl
  one_after_another Clip true true false = refl
  one_after_another Clip true false true = refl
  one_after_another Clip true false false = refl
  one_after_another Clip false true true = refl
  one_after_another Clip false true false = refl
  one_after_another Clip false false true = refl
  one_after_another Clip false false false = refl

  along : (shape_type : ShapeType) (q r : Point) (points : List Point) → gathered add empty (step_flow shape_type) (steps_from q (points ++ r ∷ [])) ≡ add (leaves shape_type q) (inverse (leaves shape_type r))
  along Subject q r [] = alone (point_eq q p) (point_eq r p)
    where
      alone : (x y : Bool) → add (add (cond x (record { subj = pos 1; clip = pos 0; mask = 0 }) empty) (inverse (cond y (record { subj = pos 1; clip = pos 0; mask = 0 }) empty))) empty ≡ add (cond x (record { subj = pos 1; clip = pos 0; mask = 0 }) empty) (inverse (cond y (record { subj = pos 1; clip = pos 0; mask = 0 }) empty))
      alone true true = refl
      alone true false = refl
      alone false true = refl
      alone false false = refl
  along Clip q r [] = alone (point_eq q p) (point_eq r p)
    where
      alone : (x y : Bool) → add (add (cond x (record { subj = pos 0; clip = pos 1; mask = 0 }) empty) (inverse (cond y (record { subj = pos 0; clip = pos 1; mask = 0 }) empty))) empty ≡ add (cond x (record { subj = pos 0; clip = pos 1; mask = 0 }) empty) (inverse (cond y (record { subj = pos 0; clip = pos 1; mask = 0 }) empty))
      alone true true = refl
      alone true false = refl
      alone false true = refl
      alone false false = refl
  along shape_type q r (t ∷ points) = ap (add (step_flow shape_type (record { a = q; b = t }))) (along shape_type t r points) ∙ one_after_another shape_type (point_eq q p) (point_eq t p) (point_eq r p)

  -- a contour ends where it began
  round : (shape_type : ShapeType) (contour : List Point) → gathered add empty (step_flow shape_type) (steps_of contour) ≡ empty
  round shape_type [] = refl
  round shape_type (q ∷ points) = along shape_type q q points ∙ there_and_back shape_type (point_eq q p)

  all_round : (shape_type : ShapeType) (contours : List (List Point)) → gathered add empty (step_flow shape_type) (steps contours) ≡ empty
  all_round shape_type [] = refl
  all_round shape_type (contour ∷ contours) = gathered-append windings_add (step_flow shape_type) (steps_of contour) (steps contours) ∙ ap₂ add (round shape_type contour) (all_round shape_type contours)

  contours_balance : (shape_type : ShapeType) (contours : List (List Point)) → gathered add empty (λ s. flow p s.pair s.count) (contour_segments shape_type contours) ≡ empty
  unfolding contour_segments
  contours_balance shape_type contours =
      gathered-map add empty (λ (s : WholeSegment). flow p s.pair s.count) (step_segment shape_type) (filter is_edge (steps contours))
      ∙ gathered-filter windings_add (λ s. flow p (step_segment shape_type s).pair (step_segment shape_type s).count) is_edge (steps contours)
      ∙ gathered-same windings_add _ (step_flow shape_type) (λ s. kept_flow shape_type s) (steps contours)
      ∙ all_round shape_type contours

pub overlay_balances : (subject clip : List (List Point)) → IsBalanced (overlay_segments subject clip)
unfolding overlay_segments
overlay_balances subject clip p =
    balance-gathered (contour_segments Subject subject ++ contour_segments Clip clip) p
    ∙ gathered-append windings_add (λ (s : WholeSegment). flow p s.pair s.count) (contour_segments Subject subject) (contour_segments Clip clip)
    ∙ ap₂ add (contours_balance p Subject subject) (contours_balance p Clip clip)
