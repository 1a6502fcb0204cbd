-- Steps of contours and their segments, one after another; that they may be split.
use Rattle.std.proofs.Common.{◌≡◌, refl, sym, ap, ◌∙◌, ℕ, zero, suc, ◌+◌, ◌<◌, ◌≤◌, get_or, take, drop, length, ℤ, Bool, true, false, not, cond, IsTrue, List, [], ◌∷◌, ◌++◌, map, filter, arith}
use Rattle.std.specs.List.{list_all}
use Rattle.std.specs.Prelude.{pos, negsuc}
use Rattle.std.proofs.lemmas.Grind.{common_steps}
use Rattle.std.proofs.lemmas.Bool.{and_parts, and_from}
use Rattle.std.proofs.lemmas.List.{map-append}
use Rattle.std.proofs.lemmas.List.Elements.{filter-append}
use Rattle.std.proofs.lemmas.List.Folds.{list_all-append}
use Rattle.overlay_geometry.specs.Points.{Point, Pair, point_lt, point_eq}
use Rattle.overlay_base.specs.Segments.{WholeSegment}
use Rattle.overlay_base.specs.EdgeData.{Hooks, data_piece}
use Rattle.overlay_base.specs.Planar.{is_splittable}
use Rattle.overlay_geometry.specs.Coordinates.{is_point_in_range, is_pair_in_range}
use Rattle.overlay_base.specs.BooleanWinding.{boolean_made}
use Rattle.overlay_base.specs.ShapeWindings.{direct_winding}
use Rattle.overlay_base.specs.declared.segm.shape_type.ShapeType.{ShapeType}
use Rattle.overlay_base.specs.declared.segm.shape_type.ShapeType.TheVariants.{Subject, Clip}
use Rattle.overlay_geometry.proofs.laws.geometry.Points.{same_by_eq}
use Rattle.overlay_base.proofs.laws.joins.DataJoins.{bare}
use Rattle.overlay_geometry.proofs.laws.lists.Lists.{list_all-filter}
use Rattle.overlay_contours.specs.Contours.{steps_from, steps_of, steps, is_edge, turned}
use Rattle.overlay_contours.specs.ContourSegments.{step_segment, step_segments, contour_segments, overlay_segments, are_in_range}

-- ---- one segment after another

pub data_piece-step : {D S : Type 0} (hooks : Hooks D S) (shape_type : ShapeType) (s : Pair) (edge_data : D) (store : S) → bare (data_piece hooks (direct_winding boolean_made shape_type) s.a s.b edge_data store).0 ≡ step_segment shape_type s
unfolding data_piece
data_piece-step hooks Subject s edge_data store = grind (arith, common_steps)
data_piece-step hooks Clip s edge_data store = grind (arith, common_steps)

-- the one segment of a step between different points
pub one_step : (shape_type : ShapeType) (s : Pair) (w : WholeSegment) → (s.a ≡ s.b → ⊥) → w ≡ step_segment shape_type s → w ∷ [] ≡ step_segments shape_type (s ∷ [])
one_step shape_type s w apart e = by (point_eq s.a s.b) refl
  where
    by : (b : Bool) → point_eq s.a s.b ≡ b → w ∷ [] ≡ map (step_segment shape_type) (cond (not b) (s ∷ []) [])
    by true t = absurd (apart (same_by_eq s.a s.b t))
    by false t = ap (λ (v : WholeSegment). v ∷ []) e

pub step_segments-append : (shape_type : ShapeType) (xs ys : List Pair) → step_segments shape_type (xs ++ ys) ≡ step_segments shape_type xs ++ step_segments shape_type ys
step_segments-append shape_type xs ys = ap (map (step_segment shape_type)) (filter-append is_edge xs ys) ∙ map-append (step_segment shape_type) (filter is_edge xs) (filter is_edge ys)

pub contour_segments-cons : (shape_type : ShapeType) (contour : List Point) (contours : List (List Point)) → contour_segments shape_type (contour ∷ contours) ≡ step_segments shape_type (steps_of contour) ++ contour_segments shape_type contours
unfolding contour_segments
contour_segments-cons shape_type contour contours = step_segments-append shape_type (steps_of contour) (steps contours)

pub contour_segments-none : (shape_type : ShapeType) → contour_segments shape_type [] ≡ []
unfolding contour_segments
contour_segments-none shape_type = refl

-- ---- in range

module _ (least greatest : ℤ) where
  abbrev in_range : Pair → Bool
  in_range s = is_pair_in_range least greatest s

  abbrev inside : Point → Bool
  inside p = is_point_in_range least greatest p

  steps_from-in_range : (p q : Point) (points : List Point) → inside p ≡ true → inside q ≡ true → list_all inside points ≡ true → list_all in_range (steps_from p (points ++ q ∷ [])) ≡ true
  steps_from-in_range p q [] h k l = and_from _ _ (and_from _ _ h k) refl
  steps_from-in_range p q (r ∷ points) h k l =
      let parts = and_parts (inside r) (list_all inside points) l in
      and_from _ _ (and_from _ _ h parts.0) (steps_from-in_range r q points parts.0 k parts.1)

  steps_of-in_range : (points : List Point) → list_all inside points ≡ true → list_all in_range (steps_of points) ≡ true
  steps_of-in_range [] l = refl
  steps_of-in_range (p ∷ points) l =
      let parts = and_parts (inside p) (list_all inside points) l in
      steps_from-in_range p p points parts.0 parts.0 parts.1

  pub steps-in_range : (contours : List (List Point)) → are_in_range least greatest contours ≡ true → list_all in_range (steps contours) ≡ true
  steps-in_range [] l = refl
  steps-in_range (contour ∷ contours) l =
      let parts = and_parts (list_all inside contour) (are_in_range least greatest contours) l in
      list_all-append in_range (steps_of contour) (steps contours) ∙ and_from _ _ (steps_of-in_range contour parts.0) (steps-in_range contours parts.1)

  step_is_splittable : (shape_type : ShapeType) (s : Pair) → in_range s ≡ true → is_splittable least greatest (step_segment shape_type s ∷ []) ≡ true
  unfolding is_splittable
  step_is_splittable Subject s h = let parts = and_parts (inside s.a) (inside s.b) h in
      elim (point_lt s.a s.b) as (λ v. is_splittable least greatest (cond v (record { pair = s; count = record { subj = pos 1; clip = pos 0; mask = 0 } }) (record { pair = turned s; count = record { subj = negsuc 0; clip = pos 0; mask = 0 } }) ∷ []) ≡ true)
      [ true ↦ rw (parts.0, parts.1) refl | false ↦ rw (parts.0, parts.1) refl ]
  step_is_splittable Clip s h = let parts = and_parts (inside s.a) (inside s.b) h in
      elim (point_lt s.a s.b) as (λ v. is_splittable least greatest (cond v (record { pair = s; count = record { subj = pos 0; clip = pos 1; mask = 0 } }) (record { pair = turned s; count = record { subj = pos 0; clip = negsuc 0; mask = 0 } }) ∷ []) ≡ true)
      [ true ↦ rw (parts.0, parts.1) refl | false ↦ rw (parts.0, parts.1) refl ]

  is_splittable-cons : (s : WholeSegment) (list : List WholeSegment) → is_splittable least greatest (s ∷ []) ≡ true → is_splittable least greatest list ≡ true → is_splittable least greatest (s ∷ list) ≡ true
  unfolding is_splittable
  is_splittable-cons s list h k = let parts = and_parts _ true h in and_from _ _ parts.0 k

  are_splittable : (shape_type : ShapeType) (list : List Pair) → list_all in_range list ≡ true → is_splittable least greatest (map (step_segment shape_type) list) ≡ true
  unfolding is_splittable
  are_splittable shape_type [] h = refl
  are_splittable shape_type (s ∷ list) h =
      let parts = and_parts (in_range s) (list_all in_range list) h in
      is_splittable-cons (step_segment shape_type s) (map (step_segment shape_type) list) (step_is_splittable shape_type s parts.0) (are_splittable shape_type list parts.1)

  contours_are_splittable : (shape_type : ShapeType) (contours : List (List Point)) → are_in_range least greatest contours ≡ true → is_splittable least greatest (contour_segments shape_type contours) ≡ true
  unfolding contour_segments
  contours_are_splittable shape_type contours h = are_splittable shape_type (filter is_edge (steps contours)) (list_all-filter in_range is_edge (steps contours) (steps-in_range contours h))

  is_splittable-append : (xs ys : List WholeSegment) → is_splittable least greatest xs ≡ true → is_splittable least greatest ys ≡ true → is_splittable least greatest (xs ++ ys) ≡ true
  unfolding is_splittable
  is_splittable-append xs ys h k = list_all-append _ xs ys ∙ and_from _ _ h k

  pub overlay_is_splittable : (subject clip : List (List Point)) → are_in_range least greatest subject ≡ true → are_in_range least greatest clip ≡ true → IsTrue (is_splittable least greatest (overlay_segments subject clip))
  unfolding overlay_segments
  overlay_is_splittable subject clip h k = is_splittable-append (contour_segments Subject subject) (contour_segments Clip clip) (contours_are_splittable Subject subject h) (contours_are_splittable Clip clip k)

-- ---- lists, taken apart at an index

pub drop_at : {X : Type 0} (xs : List X) (i : ℕ) (x : X) → i < length xs → x ≡ get_or xs i x → drop i xs ≡ x ∷ drop (suc i) xs
drop_at [] i x h e = absurd (omega arith)
drop_at (y ∷ ys) zero x h e = ap (λ (z : _). z ∷ ys) (sym e)
drop_at (y ∷ ys) (suc i) x h e = drop_at ys i x (omega arith) e

pub parts_at : {X : Type 0} (xs : List X) (i : ℕ) (x : X) → i < length xs → x ≡ get_or xs i x → xs ≡ take i xs ++ x ∷ drop (suc i) xs
parts_at [] i x h e = absurd (omega arith)
parts_at (y ∷ ys) zero x h e = ap (λ (z : _). z ∷ ys) (sym e)
parts_at (y ∷ ys) (suc i) x h e = ap (λ (l : List _). y ∷ l) (parts_at ys i x (omega arith) e)

pub drop_all : {X : Type 0} (xs : List X) (i : ℕ) → length xs ≤ i → drop i xs ≡ []
drop_all [] zero h = refl
drop_all [] (suc i) h = refl
drop_all (x ∷ xs) zero h = absurd (omega arith)
drop_all (x ∷ xs) (suc i) h = drop_all xs i (omega arith)

pub mapped_parts : {X Y : Type 0} (f : X → Y) (xs : List X) (i : ℕ) (x : X) → i < length xs → x ≡ get_or xs i x → map f xs ≡ map f (take i xs) ++ f x ∷ map f (drop (suc i) xs)
mapped_parts f xs i x h e = ap (map f) (parts_at xs i x h e) ∙ map-append f (take i xs) (x ∷ drop (suc i) xs)

pub taken : {X Y : Type 0} (f : X → Y) (xs : List X) (i : ℕ) → i < length xs → i ≡ length (map f (take i xs))
taken f [] i h = absurd (omega arith)
taken f (x ∷ xs) zero h = refl
taken f (x ∷ xs) (suc i) h = let r = taken f xs i (omega arith) in omega (arith, r)

-- the segments of the contours from an index on: those of the one there, and of those from the next on
pub contour_segments-next : {X : Type 0} (shape_type : ShapeType) (f : X → List Point) (xs : List X) (i : ℕ) (x : X) → i < length xs → x ≡ get_or xs i x
    → contour_segments shape_type (map f (drop i xs)) ≡ step_segments shape_type (steps_of (f x)) ++ contour_segments shape_type (map f (drop (i + 1) xs))
contour_segments-next shape_type f xs i x h e =
    let next : i + 1 ≡ suc i = omega arith in
    ap (λ (l : List _). contour_segments shape_type (map f l)) (drop_at xs i x h e)
    ∙ contour_segments-cons shape_type (f x) (map f (drop (suc i) xs))
    ∙ ap (λ (n : ℕ). step_segments shape_type (steps_of (f x)) ++ contour_segments shape_type (map f (drop n xs))) (sym next)

pub contour_segments-past : {X : Type 0} (shape_type : ShapeType) (f : X → List Point) (xs : List X) (i : ℕ) → length xs ≤ i → contour_segments shape_type (map f (drop i xs)) ≡ []
contour_segments-past shape_type f xs i h = ap (λ (l : List _). contour_segments shape_type (map f l)) (drop_all xs i h) ∙ contour_segments-none shape_type
