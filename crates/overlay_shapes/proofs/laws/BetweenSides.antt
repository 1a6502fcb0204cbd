-- Of the boundary of a region: on which links nothing winds between a link and its support.
use Rattle.std.proofs.Common.{◌≡◌, ℕ, ◌<◌, Bool, true, false, if◌then◌else◌, List, refl, sym, ap, subst, ◌∙◌, arith}
use Rattle.std.specs.Prelude.{ℤ, pos, negsuc, ◌+ℤ◌, ◌-ℤ◌, IsTrue}
use Rattle.std.proofs.lemmas.Int.{ints}
use Rattle.std.proofs.lemmas.List.Elements.{All-contains}
use Rattle.overlay_base.specs.Balance.{IsBalanced}
use Rattle.overlay_base.specs.Places.{RationalPoint, winding_below}
use Rattle.overlay_base.specs.Planar.{is_planar}
use Rattle.overlay_base.specs.Segments.{WholeSegment, is_map}
use Rattle.overlay_base.specs.Windings.{Winding}
use Rattle.overlay_geometry.proofs.laws.lists.Elements.{Contains-from_Has}
use Rattle.overlay_geometry.proofs.laws.lists.Lists.{Has}
use Rattle.overlay_sweep.specs.ChainWindings.{top, bottom}
use Rattle.overlay_sweep.proofs.laws.columns.ChainSums.{top_is_sum}
use Rattle.overlay_sweep.proofs.laws.columns.Members.{is_arranged}
use Rattle.overlay_sweep.proofs.laws.columns.Tops.{top_is, bottom_is}
use Rattle.overlay_build.specs.Beside.{HasPlacesBeside, TellsPlaces}
use Rattle.overlay_build.specs.Boundary.{truth}
use Rattle.overlay_build.proofs.laws.regions.BesidePlaces.{sides_have_places}
use Rattle.overlay_build.proofs.laws.regions.BesideUprights.{sides_tell_places}

abbrev turn_of : Bool → ℤ
turn_of c = if c then pos 1 else negsuc 0

between_by : (vb vt o c : Bool) (b t : ℤ) → b ≡ truth vb -ℤ truth o → t ≡ truth vt -ℤ truth o → t ≡ b +ℤ turn_of c → (c ≡ o → b ≡ pos 0 → ⊥) × ((c ≡ o → ⊥) → b ≡ pos 0)
between_by true true true true b t eb et e = absurd (omega (arith, ints, eb, et, e))
between_by true true true false b t eb et e = absurd (omega (arith, ints, eb, et, e))
between_by true true false true b t eb et e = absurd (omega (arith, ints, eb, et, e))
between_by true true false false b t eb et e = absurd (omega (arith, ints, eb, et, e))
between_by true false true true b t eb et e = absurd (omega (arith, ints, eb, et, e))
between_by true false true false b t eb et e = (λ s. absurd (cc), λ n. omega (arith, ints, eb))
between_by true false false true b t eb et e = absurd (omega (arith, ints, eb, et, e))
between_by true false false false b t eb et e = (λ s z. absurd (omega (arith, ints, eb, z)), λ n. absurd (n refl))
between_by false true true true b t eb et e = (λ s z. absurd (omega (arith, ints, eb, z)), λ n. absurd (n refl))
between_by false true true false b t eb et e = absurd (omega (arith, ints, eb, et, e))
between_by false true false true b t eb et e = (λ s. absurd (cc), λ n. omega (arith, ints, eb))
between_by false true false false b t eb et e = absurd (omega (arith, ints, eb, et, e))
between_by false false true true b t eb et e = absurd (omega (arith, ints, eb, et, e))
between_by false false true false b t eb et e = absurd (omega (arith, ints, eb, et, e))
between_by false false false true b t eb et e = absurd (omega (arith, ints, eb, et, e))
between_by false false false false b t eb et e = absurd (omega (arith, ints, eb, et, e))

module _ (xs : List WholeSegment) (mapped : IsTrue (is_map xs)) (planar : IsTrue (is_planar xs)) (balanced : IsBalanced xs) (o : Bool) (v : RationalPoint → Bool)
    (winds : (p : RationalPoint) → 0 < p.bottom → (winding_below xs p).subj ≡ truth (v p) -ℤ truth o) where
  -- Below a link nothing winds exactly where its top is not like the places outside.
  pub between_sides : (s : WholeSegment) (c : Bool) → Has xs s → s.count.subj ≡ (if c then pos 1 else negsuc 0) → (c ≡ o → (bottom xs s).subj ≡ pos 0 → ⊥) × ((c ≡ o → ⊥) → (bottom xs s).subj ≡ pos 0)
  between_sides s c m e =
      let arranged = is_arranged xs mapped planar in
      let places = All-contains (λ (s : WholeSegment). HasPlacesBeside xs s.pair) xs s (sides_have_places xs mapped planar) (Contains-from_Has xs s m) in
      let tells = All-contains (TellsPlaces xs) xs s (sides_tell_places xs mapped planar balanced) (Contains-from_Has xs s m) in
      let up = places.top in
      let down = places.bottom in
      let b = ap (λ (w : Winding). w.subj) (bottom_is xs arranged balanced s m ∙ sym (tells.bottom down.0 down.1 down.2)) ∙ winds down.0 down.1 in
      let t = ap (λ (w : Winding). w.subj) (top_is xs arranged balanced s m ∙ sym (tells.top up.0 up.1 up.2)) ∙ winds up.0 up.1 in
      let sum = ap (λ (w : Winding). w.subj) (top_is_sum xs arranged s m) ∙ ap (λ z. (bottom xs s).subj +ℤ z) e in
      between_by (v down.0) (v up.0) o c (bottom xs s).subj (top xs s).subj b t sum
