-- Of the boundary of a region: on the left of each link it winds once, or not at all where the places outside are in the region.
use Rattle.std.proofs.Common.{◌≡◌, ◌<◌, Bool, true, false, not, if◌then◌else◌, List, refl, sym, ap, ◌∙◌, arith}
use Rattle.std.specs.Prelude.{ℤ, pos, negsuc, ◌+ℤ◌, ◌-ℤ◌, IsTrue}
use Rattle.std.specs.Ordering.{int_eq}
use Rattle.std.proofs.lemmas.Int.{ints}
use Rattle.std.proofs.lemmas.List.Elements.{All-contains}
use Rattle.overlay_geometry.proofs.laws.lists.Elements.{Contains-from_Has}
use Rattle.overlay_geometry.proofs.laws.lists.Lists.{Has, Has-map_out}
use Rattle.overlay_base.specs.Balance.{IsBalanced}
use Rattle.overlay_base.specs.Places.{RationalPoint, winding_below}
use Rattle.overlay_base.specs.Planar.{is_planar}
use Rattle.overlay_base.specs.Rules.{top_value}
use Rattle.overlay_base.specs.Segments.{WholeSegment, is_map}
use Rattle.overlay_base.specs.Windings.{Winding}
use Rattle.overlay_sweep.specs.ColumnWindings.{side_bottom, side_top}
use Rattle.overlay_sweep.proofs.laws.columns.Members.{All-from_Has, is_arranged}
use Rattle.overlay_sweep.proofs.laws.live.Sides.{side_top_is}
use Rattle.overlay_build.specs.Beside.{HasPlacesBeside, TellsPlaces}
use Rattle.overlay_build.specs.Boundary.{of_subject, direction, directed_links, truth}
use Rattle.overlay_build.specs.Graph.{Graph, Link}
use Rattle.overlay_build.proofs.laws.regions.BesidePlaces.{sides_have_places}
use Rattle.overlay_build.proofs.laws.regions.BesideUprights.{sides_tell_places}
use Rattle.overlay_shapes.specs.Sectors.{winding_on_left, HaveRegionOnLeft}

abbrev turn_of : Bool → ℤ
turn_of c = if c then pos 1 else negsuc 0

left_by : (vb vt o c : Bool) (b t : ℤ) → b ≡ truth vb -ℤ truth o → t ≡ truth vt -ℤ truth o → t ≡ b +ℤ turn_of c → (if c then t else b) ≡ truth (not o)
left_by true true true true b t eb et e = absurd (omega (arith, ints, eb, et, e))
left_by true true true false b t eb et e = absurd (omega (arith, ints, eb, et, e))
left_by true true false true b t eb et e = absurd (omega (arith, ints, eb, et, e))
left_by true true false false b t eb et e = absurd (omega (arith, ints, eb, et, e))
left_by true false true true b t eb et e = absurd (omega (arith, ints, eb, et, e))
left_by true false true false b t eb et e = omega (arith, ints, eb)
left_by true false false true b t eb et e = absurd (omega (arith, ints, eb, et, e))
left_by true false false false b t eb et e = omega (arith, ints, eb)
left_by false true true true b t eb et e = omega (arith, ints, et)
left_by false true true false b t eb et e = absurd (omega (arith, ints, eb, et, e))
left_by false true false true b t eb et e = omega (arith, ints, et)
left_by false true false false b t eb et e = absurd (omega (arith, ints, eb, et, e))
left_by false false true true b t eb et e = absurd (omega (arith, ints, eb, et, e))
left_by false false true false b t eb et e = absurd (omega (arith, ints, eb, et, e))
left_by false false false true b t eb et e = absurd (omega (arith, ints, eb, et, e))
left_by false false false false b t eb et e = absurd (omega (arith, ints, eb, et, e))

picked : (c : Bool) (t b : ℤ) → (if int_eq (turn_of c) (pos 1) then t else b) ≡ (if c then t else b)
picked true t b = refl
picked false t b = refl

module _ (xs : List WholeSegment) (mapped : IsTrue (is_map xs)) (planar : IsTrue (is_planar xs)) (balanced : IsBalanced xs) (o : Bool) (v : RationalPoint → Bool)
    (winds : (p : RationalPoint) → 0 < p.bottom → (winding_below xs p).subj ≡ truth (v p) -ℤ truth o) where
  left_of : (s : WholeSegment) (c : Bool) → Has xs s → s.count.subj ≡ turn_of c → winding_on_left xs s ≡ truth (not o)
  left_of s c m e =
      let places = All-contains (λ (s : WholeSegment). HasPlacesBeside xs s.pair) xs s (sides_have_places xs mapped planar) (Contains-from_Has xs s m) in
      let tells = All-contains (TellsPlaces xs) xs s (sides_tell_places xs mapped planar balanced) (Contains-from_Has xs s m) in
      let up = places.top in
      let down = places.bottom in
      let b = ap (λ (w : Winding). w.subj) (sym (tells.bottom down.0 down.1 down.2)) ∙ winds down.0 down.1 in
      let t = ap (λ (w : Winding). w.subj) (sym (tells.top up.0 up.1 up.2)) ∙ winds up.0 up.1 in
      let sum = ap (λ (w : Winding). w.subj) (side_top_is xs (is_arranged xs mapped planar) balanced s m) ∙ ap (λ z. (side_bottom xs s).subj +ℤ z) e in
      ap (λ (z : ℤ). if int_eq z (pos 1) then (side_top xs s).subj else (side_bottom xs s).subj) e ∙ picked c (side_top xs s).subj (side_bottom xs s).subj
      ∙ left_by (v down.0) (v up.0) o c (side_bottom xs s).subj (side_top xs s).subj b t sum

  pub left_of_each : ((s : WholeSegment) → Has xs s → (c : Bool) × (s.count.subj ≡ turn_of c)) → HaveRegionOnLeft o xs
  left_of_each turns = All-from_Has (λ s. winding_on_left xs s ≡ truth (not o)) xs (λ s m. let k = turns s m in left_of s k.0 m k.1)

-- links have directions
turns_of : (rule : Bool → Bool → Bool) (graph : Graph) (s : WholeSegment) → Has (directed_links rule graph) s → (c : Bool) × (s.count.subj ≡ turn_of c)
unfolding directed_links direction
turns_of rule graph s m =
    let k = Has-map_out (λ (l : Link). record { pair = l.pair; count = of_subject (if top_value rule l.fill then pos 1 else negsuc 0) }) graph.links s m in
    (top_value rule k.0.fill, ap (λ (w : WholeSegment). w.count.subj) (sym k.2))

-- So the boundary of a region has it on the left of each link.
pub region_on_left : (rule : Bool → Bool → Bool) (graph : Graph) → IsTrue (is_map (directed_links rule graph)) → IsTrue (is_planar (directed_links rule graph)) → IsBalanced (directed_links rule graph) → (v : RationalPoint → Bool) →
    ((p : RationalPoint) → 0 < p.bottom → (winding_below (directed_links rule graph) p).subj ≡ truth (v p) -ℤ truth (rule false false)) → HaveRegionOnLeft (rule false false) (directed_links rule graph)
region_on_left rule graph mapped planar balanced v winds = left_of_each (directed_links rule graph) mapped planar balanced (rule false false) v winds (turns_of rule graph)
