-- On which sides of one another the ends of two segments lie, and what this decides.
use Rattle.std.specs.Prelude.{◌≡◌, ℕ, nat_lt, ℤ, pos, Bool, not, ◌&&◌, ◌||◌, IsTrue, None, Some}
use Rattle.std.specs.Ordering.{int_eq}
use Rattle.overlay_geometry.specs.Points.{Pair}
use Rattle.overlay_geometry.specs.Turns.{clock_direction}
use Rattle.overlay_geometry.specs.Meeting.{do_cross}
use Rattle.overlay_intersections.specs.Marks.{Placing}
use Rattle.overlay_intersections.specs.CrossAnswer.{cross_answer}
use Rattle.overlay_intersections.specs.Counts.{count_true}
use Rattle.overlay_intersections.specs.AnswerOf.{result_of}
use Rattle.overlay_intersections.specs.declared.split.cross.contact.EndSides.{EndSides}
use Rattle.overlay_intersections.specs.declared.split.cross.contact.Contact.{Contact}
use Rattle.overlay_intersections.specs.declared.split.cross.contact.Contact.TheVariants.{Apart, At, Crossing}

-- the directions of the other's ends from the target, and of the target's ends from the other
pub record AreEndSides (target other : Pair) (sides : EndSides) : Type 0 where
  pub other_a_is : sides.other_a ≡ clock_direction target.a target.b other.a
  pub other_b_is : sides.other_b ≡ clock_direction target.a target.b other.b
  pub target_a_is : sides.target_a ≡ clock_direction other.a other.b target.a
  pub target_b_is : sides.target_b ≡ clock_direction other.a other.b target.b

-- how many ends lie on the line of the other segment
abbrev pub zeros_of : EndSides → ℕ
zeros_of sides = count_true (int_eq sides.other_a (pos 0)) (int_eq sides.other_b (pos 0)) (int_eq sides.target_a (pos 0)) (int_eq sides.target_b (pos 0))

-- whether an end is shared, or both ends of one lie on the same side of the other
abbrev pub leave_no_contact : EndSides → Bool
leave_no_contact sides = nat_lt 1 (zeros_of sides) || (int_eq sides.other_a sides.other_b || int_eq sides.target_a sides.target_b)

-- whether both ends of the other lie strictly on one side of the target's line
abbrev pub are_beside : Pair → Pair → Bool
are_beside target other =
    not (int_eq (clock_direction target.a target.b other.a) (pos 0))
    && int_eq (clock_direction target.a target.b other.a) (clock_direction target.a target.b other.b)

-- what the sides decide: the result, but for a crossing strictly inside both, which is to be placed
abbrev pub IsContact : {I : Type 0} → (I → ℤ) → Pair → Pair → Contact I → Type 0
IsContact whole target other Apart = (placing : Placing) → cross_answer placing target other ≡ None
IsContact whole target other (At result) = (placing : Placing) → cross_answer placing target other ≡ Some (result_of whole result)
IsContact whole target other Crossing = IsTrue (do_cross target other)
