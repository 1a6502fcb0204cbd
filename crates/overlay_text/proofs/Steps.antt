-- A line's step as the segment constructors make it, and what a split requires of it.
use Rattle.std.proofs.Common.{◌≡◌, ℤ, Bool, true, false, not, if◌then◌else◌, List, [], ◌∷◌, ◌++◌, Some, None, refl, arith}
use Rattle.std.proofs.lemmas.Grind.{common_steps}
use Rattle.std.proofs.lemmas.Bool.{and_parts}
use Rattle.std.proofs.lemmas.List.Folds.{list_all-append}
use Rattle.std.specs.Prelude.{IsTrue}
use Rattle.overlay_geometry.specs.Points.{Point, point_lt, point_eq}
use Rattle.overlay_base.specs.Segments.{WholeSegment}
use Rattle.overlay_base.specs.EdgeData.{Hooks, data_piece}
use Rattle.overlay_base.specs.Planar.{is_splittable}
use Rattle.overlay_geometry.specs.Coordinates.{is_point_in_range}
use Rattle.overlay_base.specs.BooleanWinding.{boolean_made}
use Rattle.overlay_base.specs.ShapeWindings.{direct_winding, inverted_winding}
use Rattle.overlay_base.specs.declared.segm.shape_type.ShapeType.{ShapeType}
use Rattle.overlay_base.specs.declared.segm.shape_type.ShapeType.TheVariants.{Subject, Clip}
use Rattle.overlay_base.proofs.laws.joins.DataJoins.{bare}
use Rattle.overlay_text.specs.declared.stop.LineFault.TheVariants.{Range, EqualEnds}
use Rattle.overlay_text.specs.Lines.{step_fault, step_segment}

pub data_piece-step : {D S : Type 0} (hooks : Hooks D S) (shape_type : ShapeType) (a b : Point) (edge_data : D) (store : S) → bare (data_piece hooks (direct_winding boolean_made shape_type) a b edge_data store).0 ≡ step_segment shape_type a b
unfolding data_piece
data_piece-step hooks Subject a b edge_data store = grind (arith, common_steps)
data_piece-step hooks Clip a b edge_data store = grind (arith, common_steps)

sound_in_range : (in_range equal : Bool) → (if not in_range then Some Range else (if equal then Some EqualEnds else None)) ≡ None → in_range ≡ true
sound_in_range true equal sound = refl
sound_in_range false equal sound = Prim.cc

pub is_splittable-step : (least greatest : ℤ) (shape_type : ShapeType) (a b : Point) → step_fault least greatest a b ≡ None → IsTrue (is_splittable least greatest (step_segment shape_type a b ∷ []))
unfolding is_splittable
is_splittable-step least greatest Subject a b sound =
    let ends = and_parts (is_point_in_range least greatest a) (is_point_in_range least greatest b) (sound_in_range _ (point_eq a b) sound) in
    elim (point_lt a b) as (λ v. IsTrue (is_splittable least greatest ((if v then record { pair = record { a = a; b = b }; count = direct_winding boolean_made Subject } else record { pair = record { a = b; b = a }; count = inverted_winding boolean_made Subject }) ∷ [])))
    [ true ↦ rw (ends.0, ends.1) | false ↦ rw (ends.1, ends.0) ]
is_splittable-step least greatest Clip a b sound =
    let ends = and_parts (is_point_in_range least greatest a) (is_point_in_range least greatest b) (sound_in_range _ (point_eq a b) sound) in
    elim (point_lt a b) as (λ v. IsTrue (is_splittable least greatest ((if v then record { pair = record { a = a; b = b }; count = direct_winding boolean_made Clip } else record { pair = record { a = b; b = a }; count = inverted_winding boolean_made Clip }) ∷ [])))
    [ true ↦ rw (ends.0, ends.1) | false ↦ rw (ends.1, ends.0) ]

pub is_splittable-append : (least greatest : ℤ) (xs ys : List WholeSegment) → IsTrue (is_splittable least greatest xs) → IsTrue (is_splittable least greatest ys) → IsTrue (is_splittable least greatest (xs ++ ys))
unfolding is_splittable
is_splittable-append least greatest xs ys first second = rw list_all-append (grind (arith, common_steps))
