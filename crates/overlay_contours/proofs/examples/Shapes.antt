-- Worked examples of shapes: a ring, an island in its hole, and a hole that touches the outer boundary in a point.
use Rattle.std.proofs.Common.{◌≡◌, refl, sym, ap, subst, ◌∙◌, ◌⊎◌, inl, inr, get_or, drop, arith}
use Rattle.std.specs.Prelude.{ℕ, ◌<◌, ◌≤◌, ℤ, pos, negsuc, true, false, List, [], ◌∷◌, All, Some}
use Rattle.std.proofs.lemmas.Bool.{both_ways}
use Rattle.std.proofs.lemmas.List.Elements.{All-contains, All-from_recursion}
use Rattle.overlay_geometry.specs.Points.{Point, Pair, point_lt, turn}
use Rattle.overlay_geometry.proofs.laws.lists.Elements.{Contains-from_Has}
use Rattle.overlay_base.specs.Places.{RationalPoint}
use Rattle.overlay_base.specs.Segments.{WholeSegment}
use Rattle.overlay_sweep.specs.ChainWindings.{support, bottom}
use Rattle.overlay_build.specs.Boundary.{of_subject}
use Rattle.overlay_build.proofs.examples.Computing.{computing}
use Rattle.overlay_shapes.specs.Sectors.{leads_into_sector}
use Rattle.overlay_contours.specs.Contours.{steps, winding_number}
use Rattle.overlay_contours.specs.Shapes.{all_contours, IsSimple, shapes_round, WindApart, MeetAcross, TurnsInto, IsStep, IsLed, IsBoundaryWithHoles}
use Rattle.overlay_contours.proofs.examples.Polygons.{point, at_point, square}

abbrev outer : List Point
outer = square 0 8

-- a hole runs clockwise
abbrev hole : List Point
hole = point 2 2 ∷ point 2 6 ∷ point 6 6 ∷ point 6 2 ∷ []

abbrev island : List Point
island = square 3 5

abbrev ring : List (List Point)
ring = outer ∷ hole ∷ []

abbrev shapes : List (List (List Point))
shapes = ring ∷ (island ∷ []) ∷ []

-- the middle of a unit of length
abbrev half : ℕ → ℕ → RationalPoint
half x y = record { x = pos x; y = pos y; bottom = 2 }

-- ---- which of the shapes winds around a place

around_in_ring : shapes_round shapes (at_point 1 4) ≡ 1
unfolding shapes_round winding_number
around_in_ring = refl

around_in_hole : shapes_round shapes (half 5 8) ≡ 0
unfolding shapes_round winding_number
around_in_hole = refl

around_on_island : shapes_round shapes (at_point 4 4) ≡ 1
unfolding shapes_round winding_number
around_on_island = refl

around_outside : shapes_round shapes (at_point 9 4) ≡ 0
unfolding shapes_round winding_number
around_outside = refl

-- a hole without its boundary winds around what is in it, and with another shape's both do
hole_alone : winding_number (hole ∷ []) (at_point 4 4) ≡ negsuc 0
unfolding winding_number
hole_alone = refl

hole_of_another_shape : shapes_round ((outer ∷ []) ∷ (hole ∷ island ∷ []) ∷ []) (half 5 8) ≡ 2
unfolding shapes_round winding_number
hole_of_another_shape = refl

apart_on_island : WindApart shapes (at_point 4 4)
unfolding shapes_round winding_number
apart_on_island = record { each = All-from_recursion (λ shape. (winding_number shape (at_point 4 4) ≡ pos 0) ⊎ (winding_number shape (at_point 4 4) ≡ winding_number (all_contours shapes) (at_point 4 4))) shapes (inl refl, (inr refl, tt)); one = refl }

-- ---- a contour that comes to a point twice is not simple

eight : List Point
eight = point 0 0 ∷ point 2 2 ∷ point 4 0 ∷ point 4 4 ∷ point 2 2 ∷ point 0 4 ∷ []

not_simple : IsSimple eight → ⊥
unfolding eight
not_simple simple = let twice : 2 ≤ 1 = simple (point 2 2) in absurd (omega (arith, twice))

-- ---- the first contour has the least point

ring_is_led : IsLed ring
ring_is_led = record {
  front = outer;
  later = hole ∷ [];
  shape_is = refl;
  least = point 0 0;
  on_front = Contains-from_Has outer (point 0 0) (inl refl);
  below_none = All-from_recursion (All (λ p. point_lt p (point 0 0) ≡ false)) ring
      (All-from_recursion (λ p. point_lt p (point 0 0) ≡ false) outer (refl, (refl, (refl, (refl, tt)))), (All-from_recursion (λ p. point_lt p (point 0 0) ≡ false) hole (refl, (refl, (refl, (refl, tt)))), tt));
}

-- ---- what meets across the ring, and what does not

abbrev side : ℕ → ℕ → ℕ → ℕ → ℤ → WholeSegment
side x y u v n = record { pair = record { a = point x y; b = point u v }; count = of_subject n }

-- the boundary of ring and island: 1 for a side that runs from left to right, or up
abbrev sides : List WholeSegment
sides =
    side 0 0 0 8 (negsuc 0) ∷ side 0 0 8 0 (pos 1) ∷ side 0 8 8 8 (negsuc 0)
    ∷ side 2 2 2 6 (pos 1) ∷ side 2 2 6 2 (negsuc 0) ∷ side 2 6 6 6 (pos 1)
    ∷ side 3 3 3 5 (negsuc 0) ∷ side 3 3 5 3 (pos 1) ∷ side 3 5 5 5 (negsuc 0) ∷ side 5 3 5 5 (pos 1)
    ∷ side 6 2 6 6 (negsuc 0) ∷ side 8 0 8 8 (pos 1) ∷ []

-- the lower side of the hole has that of the outer boundary as its support, and the ring is between
hole_stands : support sides (side 2 2 6 2 (negsuc 0)) ≡ Some (side 0 0 8 0 (pos 1))
unfolding computing
hole_stands = refl

ring_between : (bottom sides (side 2 2 6 2 (negsuc 0))).subj ≡ pos 1
unfolding computing
ring_between = refl

abbrev edge : ℕ → ℕ → ℕ → ℕ → Pair
edge x y u v = record { a = point x y; b = point u v }

meet_across_ring : MeetAcross sides (edge 6 2 2 2) (edge 0 0 8 0)
meet_across_ring = record {
  above = side 2 2 6 2 (negsuc 0);
  below = side 0 0 8 0 (pos 1);
  is_there = Contains-from_Has sides (side 2 2 6 2 (negsuc 0)) (inr (inr (inr (inr (inl refl)))));
  on = hole_stands;
  between = λ none. let one = ring_between in absurd (cc);
  of_first = refl;
  of_second = refl;
}

-- so one step leads from the hole to the outer boundary
step_across_ring : IsStep sides (all_contours shapes) (edge 6 2 2 2) (edge 0 0 8 0)
step_across_ring = record {
  is_first = Contains-from_Has (steps (all_contours shapes)) (edge 6 2 2 2) (inr (inr (inr (inr (inr (inr (inr (inl refl))))))));
  is_second = Contains-from_Has (steps (all_contours shapes)) (edge 0 0 8 0) (inl refl);
  leads = inl meet_across_ring;
}

-- that of the island has that of the hole as its support, and nothing is between
island_stands : support sides (side 3 3 5 3 (pos 1)) ≡ Some (side 2 2 6 2 (negsuc 0))
unfolding computing
island_stands = refl

none_between : (bottom sides (side 3 3 5 3 (pos 1))).subj ≡ pos 0
unfolding computing
none_between = refl

-- ---- a hole that touches the outer boundary in a point

-- a hole with its first point in common with the outer boundary
abbrev touching_hole : List Point
touching_hole = point 0 0 ∷ point 2 4 ∷ point 4 2 ∷ []

abbrev touching : List (List Point)
touching = outer ∷ touching_hole ∷ []

abbrev touching_sides : List WholeSegment
touching_sides =
    side 0 0 0 8 (negsuc 0) ∷ side 0 0 2 4 (pos 1) ∷ side 0 0 4 2 (negsuc 0) ∷ side 0 0 8 0 (pos 1)
    ∷ side 0 8 8 8 (negsuc 0) ∷ side 2 4 4 2 (pos 1) ∷ side 8 0 8 8 (pos 1) ∷ []

-- along the sector between the lower edges, that of the outer boundary follows the one of the hole
turns_at_point : TurnsInto touching_sides (edge 4 2 0 0) (edge 0 0 8 0)
unfolding turn
turns_at_point = record {
  meets = refl;
  none_between = All-from_recursion (λ s. leads_into_sector (point 0 0) (point 8 0) (point 4 2) s.pair ≡ false) touching_sides (refl, (refl, (refl, (refl, (refl, (refl, (refl, tt)))))));
}

-- so there too one step leads from the hole to the outer boundary
step_at_point : IsStep touching_sides touching (edge 4 2 0 0) (edge 0 0 8 0)
step_at_point = record {
  is_first = Contains-from_Has (steps touching) (edge 4 2 0 0) (inr (inr (inr (inr (inr (inr (inl refl)))))));
  is_second = Contains-from_Has (steps touching) (edge 0 0 8 0) (inl refl);
  leads = inr turns_at_point;
}

-- along the sector between the other edges, that of the hole follows the one of the outer boundary
turns_back : TurnsInto touching_sides (edge 0 8 0 0) (edge 0 0 2 4)
unfolding turn
turns_back = record {
  meets = refl;
  none_between = All-from_recursion (λ s. leads_into_sector (point 0 0) (point 2 4) (point 0 8) s.pair ≡ false) touching_sides (refl, (refl, (refl, (refl, (refl, (refl, (refl, tt)))))));
}

-- the outer boundary does not turn into itself there, since the edges of the hole lead into the sector between its two edges
hole_in_sector : leads_into_sector (point 0 0) (point 8 0) (point 0 8) (edge 0 0 4 2) ≡ true
unfolding turn
hole_in_sector = refl

not_past_hole : TurnsInto touching_sides (edge 0 8 0 0) (edge 0 0 8 0) → ⊥
not_past_hole turns =
    let none : leads_into_sector (point 0 0) (point 8 0) (point 0 8) (edge 0 0 4 2) ≡ false = All-contains (λ s. leads_into_sector (point 0 0) (point 8 0) (point 0 8) s.pair ≡ false) touching_sides (side 0 0 4 2 (negsuc 0)) turns.none_between (Contains-from_Has touching_sides (side 0 0 4 2 (negsuc 0)) (inr (inr (inl refl)))) in
    both_ways (leads_into_sector (point 0 0) (point 8 0) (point 0 8) (edge 0 0 4 2)) none hole_in_sector

-- ---- an outer boundary and its holes

outer_around : winding_number (outer ∷ []) (at_point 4 4) ≡ pos 1
unfolding winding_number
outer_around = refl

outer_elsewhere : winding_number (outer ∷ []) (at_point 9 4) ≡ pos 0
unfolding winding_number
outer_elsewhere = refl

hole_elsewhere : winding_number (hole ∷ []) (at_point 1 4) ≡ pos 0
unfolding winding_number
hole_elsewhere = refl

-- a hole is no outer boundary
hole_is_not_outer : IsBoundaryWithHoles (hole ∷ outer ∷ []) → ⊥
hole_is_not_outer bounds =
    let first : bounds.outer ≡ hole = ap (λ (shape : List (List Point)). get_or shape 0 []) (sym bounds.shape_is) in
    let around : winding_number (bounds.outer ∷ []) (at_point 4 4) ≡ negsuc 0 = ap (λ (c : List Point). winding_number (c ∷ []) (at_point 4 4)) first ∙ hole_alone in
    elim (bounds.counterclockwise (at_point 4 4) (omega arith)) [ inl e ↦ (let z : negsuc 0 ≡ pos 0 = sym around ∙ e in absurd (cc)) | inr e ↦ (let z : negsuc 0 ≡ pos 1 = sym around ∙ e in absurd (cc)) ]

-- a contour that runs counterclockwise is no hole
square_around : winding_number (square 2 6 ∷ []) (at_point 4 4) ≡ pos 1
unfolding winding_number
square_around = refl

square_is_no_hole : IsBoundaryWithHoles (outer ∷ square 2 6 ∷ []) → ⊥
square_is_no_hole bounds =
    let later : bounds.holes ≡ square 2 6 ∷ [] = ap (λ (shape : List (List Point)). drop 1 shape) (sym bounds.shape_is) in
    let each : All (λ hole. (p : RationalPoint) → 0 < p.bottom → (winding_number (hole ∷ []) p ≡ pos 0) ⊎ (winding_number (hole ∷ []) p ≡ negsuc 0)) (square 2 6 ∷ []) = subst (λ (holes : List (List Point)). All (λ hole. (p : RationalPoint) → 0 < p.bottom → (winding_number (hole ∷ []) p ≡ pos 0) ⊎ (winding_number (hole ∷ []) p ≡ negsuc 0)) holes) later bounds.clockwise in
    elim (each 0 [] (omega arith) (at_point 4 4) (omega arith)) [ inl e ↦ (let z : pos 1 ≡ pos 0 = sym square_around ∙ e in absurd (cc)) | inr e ↦ (let z : pos 1 ≡ negsuc 0 = sym square_around ∙ e in absurd (cc)) ]
