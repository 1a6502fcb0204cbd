-- The segments of contours wind around a place as often as the contours run around it.
use Rattle.std.proofs.Common.{◌≡◌, refl, sym, ap, ap₂, ◌∙◌, Bool, true, false, not, cond, ◌&&◌, List, ◌++◌, filter, inl, inr, arith}
use Rattle.std.specs.Prelude.{ℤ, pos, negsuc, ◌+ℤ◌, ◌*ℤ◌, ◌≤ℤ◌, int_le, int_lt}
use Rattle.std.proofs.lemmas.Int.{ints}
use Rattle.overlay_geometry.specs.Points.{Point, Pair, point_lt, point_eq}
use Rattle.overlay_base.specs.Places.{RationalPoint, lies_below, runs_below, winding_below}
use Rattle.overlay_base.specs.Windings.{Winding, add, weight, empty}
use Rattle.overlay_base.specs.Segments.{WholeSegment}
use Rattle.overlay_base.specs.Sums.{gathered}
use Rattle.overlay_base.specs.BooleanWinding.{boolean_made}
use Rattle.overlay_base.specs.ShapeWindings.{direct_winding}
use Rattle.overlay_base.specs.declared.segm.shape_type.ShapeType.{ShapeType}
use Rattle.overlay_base.specs.declared.segm.shape_type.ShapeType.TheVariants.{Subject, Clip}
use Rattle.overlay_geometry.proofs.laws.geometry.Points.{Before, UpTo, before, not_before, same_by_eq}
use Rattle.overlay_base.proofs.laws.lists.Monoids.{gathered-append, gathered-filter, gathered-map, gathered-same, gathered-through}
use Rattle.overlay_base.proofs.laws.joins.Bags.{windings_add}
use Rattle.overlay_base.proofs.laws.joins.Functionals.{total_weight-filter}
use Rattle.overlay_contours.specs.Contours.{steps, is_edge, turned, step_winding, winding_number}
use Rattle.overlay_contours.specs.ContourSegments.{step_segment, contour_segments, overlay_segments, overlay_winding}
use Rattle.overlay_geometry.proofs.laws.integers.Products.{scaled_le}

-- ---- a step that does not lead to the right has nothing below it, but its reverse

no_span : (u v x : ℤ) → v ≤ℤ u → (int_le u x && int_lt x v) ≡ false
no_span u v x l = grind (arith, ints)

pub not_below : (s : Pair) (p : RationalPoint) → s.b.x ≤ℤ s.a.x → lies_below s p ≡ false
not_below s p l = ap (λ (b : Bool). b && runs_below s p) (no_span (s.a.x *ℤ pos p.bottom) (s.b.x *ℤ pos p.bottom) p.x (scaled_le s.b.x s.a.x p.bottom l))

pub right : (s : Pair) → point_lt s.a s.b ≡ true → s.a.x ≤ℤ s.b.x
right s h = by (before s.a s.b h)
  where
    by : Before s.a s.b → s.a.x ≤ℤ s.b.x
    by (inl l) = omega (arith, ints, l)
    by (inr e) = omega (arith, ints, e.0)

pub left : (s : Pair) → point_lt s.a s.b ≡ false → s.b.x ≤ℤ s.a.x
left s h = by (not_before s.a s.b h)
  where
    by : UpTo s.b s.a → s.b.x ≤ℤ s.a.x
    by (inl l) = omega (arith, ints, l)
    by (inr e) = omega (arith, ints, e.0)

pub upright : (s : Pair) → s.a ≡ s.b → (s.b.x ≤ℤ s.a.x) × (s.a.x ≤ℤ s.b.x)
upright s e = let x : s.a.x ≡ s.b.x = ap (λ (q : Point). q.x) e in (omega (arith, ints, x), omega (arith, ints, x))

-- ---- a segment counts as its step

-- what a shape makes of a number
abbrev made : ShapeType → ℤ → Winding
made Subject z = boolean_made z (pos 0)
made Clip z = boolean_made (pos 0) z

made-add : (shape_type : ShapeType) (a b : ℤ) → made shape_type (a +ℤ b) ≡ add (made shape_type a) (made shape_type b)
made-add Subject a b = refl
made-add Clip a b = refl

made-zero : (shape_type : ShapeType) → made shape_type (pos 0) ≡ empty
made-zero Subject = refl
made-zero Clip = refl

counts_forward : (shape_type : ShapeType) (b : Bool) → cond b (weight (direct_winding boolean_made shape_type)) empty ≡ made shape_type (cond b (pos 1) (pos 0))
counts_forward Subject true = refl
counts_forward Subject false = refl
counts_forward Clip true = refl
counts_forward Clip false = refl

abbrev backward : ShapeType → Winding
backward Subject = record { subj = negsuc 0; clip = pos 0; mask = 0 }
backward Clip = record { subj = pos 0; clip = negsuc 0; mask = 0 }

counts_backward : (shape_type : ShapeType) (b : Bool) → cond b (weight (backward shape_type)) empty ≡ made shape_type (cond b (negsuc 0) (pos 0))
counts_backward Subject true = refl
counts_backward Subject false = refl
counts_backward Clip true = refl
counts_backward Clip false = refl

module _ (p : RationalPoint) (shape_type : ShapeType) where
  abbrev counted : Pair → Winding
  counted s = cond (lies_below (step_segment shape_type s).pair p) (weight (step_segment shape_type s).count) empty

  counts : (s : Pair) → counted s ≡ made shape_type (step_winding p s)
  counts s = by (point_lt s.a s.b) refl shape_type
    where
      by : (b : Bool) → point_lt s.a s.b ≡ b → (t : ShapeType) → cond (lies_below (step_segment t s).pair p) (weight (step_segment t s).count) empty ≡ made t (step_winding p s)
      by true e Subject = rw (e, not_below (turned s) p (right s e)) (counts_forward Subject (lies_below s p))
      by true e Clip = rw (e, not_below (turned s) p (right s e)) (counts_forward Clip (lies_below s p))
      by false e Subject = rw (e, not_below s p (left s e)) (counts_backward Subject (lies_below (turned s) p))
      by false e Clip = rw (e, not_below s p (left s e)) (counts_backward Clip (lies_below (turned s) p))

  kept_counts : (s : Pair) → cond (is_edge s) (counted s) empty ≡ made shape_type (step_winding p s)
  kept_counts s = by (point_eq s.a s.b) refl
    where
      by : (b : Bool) → point_eq s.a s.b ≡ b → cond (not b) (counted s) empty ≡ made shape_type (step_winding p s)
      by true e =
          let same = upright s (same_by_eq s.a s.b e) in
          sym (ap₂ (λ (u v : Bool). made shape_type (cond u (pos 1) (cond v (negsuc 0) (pos 0)))) (not_below s p same.0) (not_below (turned s) p same.1) ∙ made-zero shape_type)
      by false e = counts s

  pub contours_wind : (contours : List (List Point)) → gathered add empty (λ s. cond (lies_below s.pair p) (weight s.count) empty) (contour_segments shape_type contours) ≡ made shape_type (winding_number contours p)
  unfolding contour_segments winding_number
  contours_wind contours =
      gathered-map add empty (λ (s : WholeSegment). cond (lies_below s.pair p) (weight s.count) empty) (step_segment shape_type) (filter is_edge (steps contours))
      ∙ gathered-filter windings_add counted is_edge (steps contours)
      ∙ gathered-same windings_add _ (λ s. made shape_type (step_winding p s)) kept_counts (steps contours)
      ∙ sym (gathered-through ◌+ℤ◌ (pos 0) add empty (made shape_type) (made-zero shape_type) (made-add shape_type) (step_winding p) (steps contours))

both_numbers : (a b : ℤ) → add (boolean_made a (pos 0)) (boolean_made (pos 0) b) ≡ boolean_made a b
both_numbers a b = let x : a +ℤ pos 0 ≡ a = omega (arith, ints) in let y : pos 0 +ℤ b ≡ b = omega (arith, ints) in λ i. record { subj = x i; clip = y i; mask = 0 }

pub overlay_winds : (subject clip : List (List Point)) (p : RationalPoint) → winding_below (overlay_segments subject clip) p ≡ overlay_winding subject clip p
unfolding overlay_segments winding_below
overlay_winds subject clip p =
    total_weight-filter (λ s. lies_below s p) (contour_segments Subject subject ++ contour_segments Clip clip)
    ∙ gathered-append windings_add (λ (s : WholeSegment). cond (lies_below s.pair p) (weight s.count) empty) (contour_segments Subject subject) (contour_segments Clip clip)
    ∙ ap₂ add (contours_wind p Subject subject) (contours_wind p Clip clip)
    ∙ both_numbers (winding_number subject p) (winding_number clip p)
