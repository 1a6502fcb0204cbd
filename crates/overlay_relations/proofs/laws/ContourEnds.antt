-- The points of contours are the ends of their edges; and two edges that share a point share an end, where they share no more than an end.
use Rattle.std.proofs.Common.{◌≡◌, ap, refl, sym, subst, ◌∙◌, arith, ◌<◌, inl, inr, [], ◌∷◌, ◌++◌}
use Rattle.std.specs.Prelude.{ℤ, pos, ◌-ℤ◌, ◌*ℤ◌, ◌<ℤ◌, IsTrue, Bool, true, false, if◌then◌else◌, ◌⊎◌, List}
use Rattle.std.proofs.lemmas.Int.{ints}
use Rattle.std.proofs.lemmas.Bool.{cases_Bool}
use Rattle.overlay_geometry.specs.Meeting.{are_apart}
use Rattle.overlay_geometry.specs.Points.{Point, Pair, pair_eq, point_lt}
use Rattle.overlay_geometry.proofs.laws.geometry.Polynomials.{as_D, diffs, D-eq}
use Rattle.overlay_geometry.proofs.laws.geometry.Points.{Before, UpTo, UpTo-same, UpTo-Before, UpTo-not_Before, by_UpTo, same_point, same_pair_by_eq, not_same_pair}
use Rattle.overlay_geometry.proofs.laws.lists.Elements.{Has-flat_map_out}
use Rattle.overlay_geometry.proofs.laws.lists.Lists.{Has, Has-map, Has-map_out, Has-filter, Has-filter_out, Has-flat_map, list_all-at}
use Rattle.overlay_base.specs.Places.{RationalPoint}
use Rattle.overlay_base.specs.Rays.{place_turn, goes_through}
use Rattle.overlay_sweep.proofs.laws.columns.ColumnOrder.{is_apart, apart_back, IsApart}
use Rattle.overlay_cuts.specs.Nearness.{whole_point}
use Rattle.overlay_contours.specs.Boxes.{all_points}
use Rattle.overlay_contours.specs.Contours.{steps_from, steps_of, steps, is_edge, in_order, turned, directed_edges, edges, AreProper}
use Rattle.overlay_relations.proofs.laws.InsidePlaces.{enlarged, tops, same_of_times, Before-enlarged, IsInside, IsOff, off_others}
use Rattle.overlay_relations.proofs.laws.SteadyWindings.{through_from_order, through_order}

-- ---- two edges with a point in common

-- a whole point is an end of a pair
abbrev pub IsEnd : Pair → Point → Type 0
IsEnd g e = (e ≡ g.a) ⊎ (e ≡ g.b)

pub not_off : (g : Pair) (p : RationalPoint) → 0 < p.bottom → Before g.a g.b → goes_through g p ≡ true → IsOff g p → ⊥
not_off g p some o on off =
    let order = through_order g p some o on in
    elim off [
      | inl l ↦ below _ order.0 l
      | inr (inl l) ↦ above _ order.0 l
      | inr (inr b) ↦ elim b.1 [
        | inl l ↦ UpTo-not_Before _ _ order.1 l
        | inr l ↦ UpTo-not_Before _ _ order.2 l
      ]
    ]
  where
    below : (z : ℤ) → z ≡ pos 0 → z <ℤ pos 0 → ⊥
    below z e l = omega (arith, ints, e, l)

    above : (z : ℤ) → z ≡ pos 0 → pos 0 <ℤ z → ⊥
    above z e l = omega (arith, ints, e, l)

-- the place is an end of the pair
abbrev IsAtEnd : Pair → RationalPoint → Type 0
IsAtEnd g p = (e : Point) × IsEnd g e × (tops p ≡ enlarged p.bottom e)

inside_or_end : (g : Pair) (p : RationalPoint) → 0 < p.bottom → Before g.a g.b → goes_through g p ≡ true → IsInside g p ⊎ IsAtEnd g p
inside_or_end g p some o on =
    let order = through_order g p some o on in
    by_UpTo (enlarged p.bottom g.a) (tops p) order.1
    (λ after. by_UpTo (tops p) (enlarged p.bottom g.b) order.2
    (λ ahead. inl (record { on_line = order.0; after_a = after; before_b = ahead }))
    (λ e. inr (g.b, inr refl, e)))
    (λ e. inr (g.a, inl refl, sym e))

one_end : (p : RationalPoint) (d e : Point) → 0 < p.bottom → tops p ≡ enlarged p.bottom d → tops p ≡ enlarged p.bottom e → d ≡ e
one_end p d e some h k =
    same_point d e
    (same_of_times d.x e.x p.bottom some (ap (λ (q : Point). q.x) (sym h ∙ k)))
    (same_of_times d.y e.y p.bottom some (ap (λ (q : Point). q.y) (sym h ∙ k)))

-- an end of both
abbrev pub HasSharedEnd : Pair → Pair → Type 0
HasSharedEnd g h = (e : Point) × IsEnd g e × IsEnd h e

end_of_others : (g h : Pair) (p : RationalPoint) → 0 < p.bottom → Before g.a g.b → Before h.a h.b → goes_through g p ≡ true → goes_through h p ≡ true → IsApart g h → (g ≡ h → ⊥) → IsAtEnd g p
end_of_others g h p some og oh on_g on_h apart other = elim (inside_or_end g p some og on_g) [
  | inl i ↦ absurd (not_off h p some oh on_h (off_others g h p some og oh i apart other))
  | inr e ↦ e
]

pub shared_end : (g h : Pair) (p : RationalPoint) → 0 < p.bottom → Before g.a g.b → Before h.a h.b → goes_through g p ≡ true → goes_through h p ≡ true → IsTrue (are_apart g h) → HasSharedEnd g h
shared_end g h p some og oh on_g on_h apart = elim (cases_Bool (pair_eq g h)) [
  | inl same ↦ (g.a, inl refl, inl (ap (λ (s : Pair). s.a) (same_pair_by_eq g h same)))
  | inr other ↦
      let parts = is_apart g h apart in
      let d = end_of_others g h p some og oh on_g on_h parts (not_same_pair g h other) in
      let e = end_of_others h g p some oh og on_h on_g (apart_back g h parts) (λ s. not_same_pair g h other (sym s)) in
      (d.0, d.1, subst (IsEnd h) (one_end p e.0 d.0 some e.2 d.2) e.1)
]

-- ---- an end is a point of the pair

whole_tops : (e : Point) → tops (whole_point e) ≡ enlarged 1 e
whole_tops e = same_point (tops (whole_point e)) (enlarged 1 e) (once e.x) (once e.y)
  where
    once : (z : ℤ) → z ≡ z *ℤ pos 1
    once z = omega (arith, ints)

pub through_end : (g : Pair) (e : Point) → Before g.a g.b → IsEnd g e → goes_through g (whole_point e) ≡ true
through_end g e o is =
    through_from_order g (whole_point e) (omega arith) o (line e is) (from e is) (to e is)
  where
    at_a : (ax ay bx by : ℤ) → (bx -ℤ ax) *ℤ (ay -ℤ ay *ℤ pos 1) -ℤ (by -ℤ ay) *ℤ (ax -ℤ ax *ℤ pos 1) ≡ pos 0
    at_a ax ay bx by = rw (as_D ax, as_D ay, as_D bx, as_D by) (simp diffs (D-eq _ _ _ _ (omega arith)))

    at_b : (ax ay bx by : ℤ) → (bx -ℤ ax) *ℤ (by -ℤ ay *ℤ pos 1) -ℤ (by -ℤ ay) *ℤ (bx -ℤ ax *ℤ pos 1) ≡ pos 0
    at_b ax ay bx by = rw (as_D ax, as_D ay, as_D bx, as_D by) (simp diffs (D-eq _ _ _ _ (omega arith)))

    line : (e : Point) → IsEnd g e → place_turn g (whole_point e) ≡ pos 0
    line e (inl same) = subst (λ (q : Point). place_turn g (whole_point q) ≡ pos 0) (sym same) (at_a g.a.x g.a.y g.b.x g.b.y)
    line e (inr same) = subst (λ (q : Point). place_turn g (whole_point q) ≡ pos 0) (sym same) (at_b g.a.x g.a.y g.b.x g.b.y)

    between : UpTo (enlarged 1 g.a) (enlarged 1 g.b)
    between = UpTo-Before _ _ (Before-enlarged 1 g.a g.b (omega arith) o)

    from : (e : Point) → IsEnd g e → UpTo (enlarged 1 g.a) (tops (whole_point e))
    from e (inl same) = subst (λ (q : Point). UpTo (enlarged 1 g.a) q) (ap (enlarged 1) (sym same) ∙ sym (whole_tops e)) (UpTo-same (enlarged 1 g.a))
    from e (inr same) = subst (λ (q : Point). UpTo (enlarged 1 g.a) q) (ap (enlarged 1) (sym same) ∙ sym (whole_tops e)) between

    to : (e : Point) → IsEnd g e → UpTo (tops (whole_point e)) (enlarged 1 g.b)
    to e (inl same) = subst (λ (q : Point). UpTo q (enlarged 1 g.b)) (ap (enlarged 1) (sym same) ∙ sym (whole_tops e)) between
    to e (inr same) = subst (λ (q : Point). UpTo q (enlarged 1 g.b)) (ap (enlarged 1) (sym same) ∙ sym (whole_tops e)) (UpTo-same (enlarged 1 g.b))

-- ---- the points of contours, and the ends of their edges

in_order_end : (s : Pair) (e : Point) → IsEnd (in_order s) e → IsEnd s e
in_order_end s e is = by (point_lt s.a s.b) is
  where
    by : (b : Bool) → IsEnd (if b then s else turned s) e → IsEnd s e
    by true h = h
    by false (inl h) = inr h
    by false (inr h) = inl h

end_in_order : (s : Pair) (e : Point) → IsEnd s e → IsEnd (in_order s) e
end_in_order s e is = by (point_lt s.a s.b) is
  where
    by : (b : Bool) → IsEnd s e → IsEnd (if b then s else turned s) e
    by true h = h
    by false (inl h) = inr h
    by false (inr h) = inl h

ends_along : (p : Point) (points : List Point) (s : Pair) → Has (steps_from p points) s → ((s.a ≡ p) ⊎ Has points s.a) × Has points s.b
ends_along p [] s m = absurd m
ends_along p (q ∷ points) s (inl e) = (inl (ap (λ (t : Pair). t.a) (sym e)), inl (ap (λ (t : Pair). t.b) e))
ends_along p (q ∷ points) s (inr m) =
    let rest = ends_along q points s m in
    (inr (elim rest.0 [ inl e ↦ inl (sym e) | inr k ↦ inr k ]), inr rest.1)

behind : (p x : Point) (points : List Point) → Has (points ++ p ∷ []) x → Has (p ∷ points) x
behind p x [] (inl e) = inl e
behind p x [] (inr m) = absurd m
behind p x (q ∷ points) (inl e) = inr (inl e)
behind p x (q ∷ points) (inr m) = elim (behind p x points m) [ inl e ↦ inl e | inr k ↦ inr (inr k) ]

ends_of_contour : (c : List Point) (s : Pair) (e : Point) → Has (steps_of c) s → IsEnd s e → Has c e
ends_of_contour [] s e m is = absurd m
ends_of_contour (p ∷ points) s e m (inl is) = subst (Has (p ∷ points)) (sym is) (elim (ends_along p (points ++ p ∷ []) s m).0 [ inl h ↦ inl (sym h) | inr k ↦ behind p s.a points k ])
ends_of_contour (p ∷ points) s e m (inr is) = subst (Has (p ∷ points)) (sym is) (behind p s.b points (ends_along p (points ++ p ∷ []) s m).1)

-- an end of an edge is a point of the contours
pub end_is_point : (contours : List (List Point)) (g : Pair) (e : Point) → Has (edges contours) g → IsEnd g e → Has (all_points contours) e
end_is_point contours g e m is =
    let out = Has-map_out in_order (directed_edges contours) g m in
    let kept = Has-filter_out is_edge (steps contours) out.0 out.1 in
    let found = Has-flat_map_out steps_of contours out.0 kept.0 in
    Has-flat_map (λ c. c) contours found.0 e found.1 (ends_of_contour found.0 out.0 e found.2 (in_order_end out.0 e (subst (λ (s : Pair). IsEnd s e) (sym out.2) is)))

start_along : (p z x : Point) (points : List Point) → Has (p ∷ points) x → (s : Pair) × Has (steps_from p (points ++ z ∷ [])) s × (x ≡ s.a)
start_along p z x [] (inl e) = (record { a = p; b = z }, inl refl, sym e)
start_along p z x [] (inr m) = absurd m
start_along p z x (q ∷ points) (inl e) = (record { a = p; b = q }, inl refl, sym e)
start_along p z x (q ∷ points) (inr m) = let rest = start_along q z x points m in (rest.0, inr rest.1, rest.2)

start_of : (c : List Point) (x : Point) → Has c x → (s : Pair) × Has (steps_of c) s × (x ≡ s.a)
start_of [] x m = absurd m
start_of (p ∷ points) x m = start_along p p x points m

-- and each point of proper contours is one
pub point_is_end : (contours : List (List Point)) → AreProper contours → (e : Point) → Has (all_points contours) e → (g : Pair) × Has (edges contours) g × IsEnd g e
point_is_end contours proper e m =
    let found = Has-flat_map_out (λ c. c) contours e m in
    let step = start_of found.0 e found.2 in
    let there = Has-flat_map steps_of contours found.0 step.0 found.1 step.1 in
    (in_order step.0, Has-map in_order (directed_edges contours) step.0 (Has-filter is_edge (steps contours) step.0 there (list_all-at is_edge (steps contours) step.0 proper.apart there)), end_in_order step.0 e (inl step.2))
