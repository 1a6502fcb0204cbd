-- The boxes of regions by their numbers, and the partners of a region: those whose boxes share no point with its box are none.
use Rattle.std.proofs.Common.{◌≡◌, refl, sym, ap, subst, ◌∙◌, ℕ, ◌+◌, ◌<◌, inl, inr, List, [], ◌∷◌, ◌++◌, length, get_or, filter, arith}
use Rattle.std.specs.Prelude.{int_le, ◌&&◌, Bool, true, false, Contains, ◌↔◌, Option, Some, None}
use Rattle.std.proofs.lemmas.Bool.{both_ways, cases_Bool}
use Rattle.std.proofs.lemmas.List.Elements.{All-contains, Contains-push, Contains-push_cases, Contains-append_left}
use Rattle.overlay_geometry.specs.RangeOf.{rect_of}
use Rattle.overlay_geometry.specs.Ranges.{Rect, do_rects_meet}
use Rattle.overlay_geometry.specs.declared.geom.rect.IntRect.{IntRect}
use Rattle.overlay_geometry.proofs.laws.lists.Elements.{Contains-from_Has, Has-from_Contains}
use Rattle.overlay_geometry.proofs.laws.lists.Lists.{Has-map, Has-map_out, Has-filter, Has-filter_out}
use Rattle.overlay_relations.specs.Boxes.{do_boxes_meet}
use Rattle.overlay_relations.specs.steps.Columns.{numbers_meeting}
use Rattle.overlay_relations.specs.Pairs.{Says, IsBoxOfSome}
use Rattle.overlay_relations.specs.declared.columns.NumberedBox.{NumberedBox}
use Rattle.overlay_relations.specs.declared.predicate.Predicate.{Predicate}
use Rattle.overlay_relations.specs.declared.region.Region.{Region}
use Rattle.overlay_relations.proofs.laws.ApartRegions.{apart_says}
use Rattle.overlay_relations.proofs.laws.PairLists.{AreChosen, less_or_same, says_same}

none_is_some : {X : Type 0} (x : X) (found : Option X) → found ≡ None → found ≡ Some x → ⊥
none_is_some x None e f = absurd (cc)
none_is_some x (Some y) e f = absurd (cc)

abbrev value_or : {X : Type 0} → X → Option X → X
value_or x None = x
value_or x (Some y) = y

same_value : {X : Type 0} (x y : X) → Some x ≡ Some y → x ≡ y
same_value x y e = ap (value_or x) e

-- ---- the boxes of the first regions of a list

module _ {I : Type 0} {w : _} {o : _} {e : _} {p : _} (regions : List (Region I w o e p)) (n : ℕ) (boxes : List (NumberedBox I)) (of_boxes : (b : NumberedBox I) → Contains boxes b ↔ IsBoxOfSome n regions b) where
  wider : (b : NumberedBox I) → IsBoxOfSome n regions b → IsBoxOfSome (n + 1) regions b
  wider b h = record { below = plain b.number n h.below; is = h.is }
    where
      plain : (i n : ℕ) → i < n → i < n + 1
      plain i n l = omega (arith, l)

  module _ (bounds : IntRect I) (is : (x : Region I w o e p) → (get_or regions n x).bounds ≡ Some bounds) where
    abbrev last : NumberedBox I
    last = record { number = n; bounds = bounds }

    is_last : (b : NumberedBox I) → b.number ≡ n → ((x : Region I w o e p) → (get_or regions b.number x).bounds ≡ Some b.bounds) → (x : Region I w o e p) → last ≡ b
    is_last b e of x =
        let same : bounds ≡ b.bounds = same_value bounds b.bounds (sym (is x) ∙ ap (λ i. (get_or regions i x).bounds) (sym e) ∙ of x) in
        λ i. record { number = (sym e) i; bounds = same i }

    pub with_box : Region I w o e p → (b : NumberedBox I) → Contains (boxes ++ last ∷ []) b ↔ IsBoxOfSome (n + 1) regions b
    with_box x b = (
      λ m. elim (Contains-push_cases boxes last b m) [
        | inl i ↦ wider b ((of_boxes b).0 i)
        | inr e ↦ subst (λ (c : NumberedBox I). IsBoxOfSome (n + 1) regions c) e (record { below = omega arith; is = is })
      ],
      λ h. elim (less_or_same b.number n h.below) [
        | inl l ↦ Contains-append_left boxes (last ∷ []) b ((of_boxes b).1 (record { below = l; is = h.is }))
        | inr e ↦ subst (λ (c : NumberedBox I). Contains (boxes ++ last ∷ []) c) (is_last b e h.is x) (Contains-push boxes last)
      ],
    )

  pub without_box : (x : Region I w o e p) → (get_or regions n x).bounds ≡ None → (b : NumberedBox I) → Contains boxes b ↔ IsBoxOfSome (n + 1) regions b
  without_box x none b = (
    λ m. wider b ((of_boxes b).0 m),
    λ h. elim (less_or_same b.number n h.below) [
      | inl l ↦ (of_boxes b).1 (record { below = l; is = h.is })
      | inr e ↦ absurd (none_is_some b.bounds (get_or regions n x).bounds none (ap (λ i. (get_or regions i x).bounds) (sym e) ∙ h.is x))
    ],
  )

-- ---- partners

turned : (r s : Rect) → do_rects_meet r s ≡ do_rects_meet s r
turned r s = four (int_le r.min_x s.max_x) (int_le s.min_x r.max_x) (int_le r.min_y s.max_y) (int_le s.min_y r.max_y)
  where
    four : (a b c d : Bool) → (a && b && c && d) ≡ (b && a && d && c)
    four true true true true = refl
    four true true true false = refl
    four true true false true = refl
    four true true false false = refl
    four true false c d = refl
    four false true c d = refl
    four false false c d = refl

module _ {I : Type 0} {w : _} {o : _} {e : _} {p : _} (second : List (Region I w o e p)) (boxes : List (NumberedBox I)) (of_boxes : (b : NumberedBox I) → Contains boxes b ↔ IsBoxOfSome (length second) second b) where
  pub record IsBoxNear (r : Rect) (j : ℕ) : Type 0 where
    pub box : NumberedBox I
    pub there : Contains boxes box
    pub numbered : box.number ≡ j
    pub meets : do_rects_meet (rect_of w.whole box.bounds) r ≡ true

  box_near : (r : Rect) (j : ℕ) → Contains (numbers_meeting w.whole r boxes) j → IsBoxNear r j
  box_near r j m =
      let out = Has-map_out (λ (b : NumberedBox I). b.number) (filter (λ (b : NumberedBox I). do_rects_meet (rect_of w.whole b.bounds) r) boxes) j (Has-from_Contains (numbers_meeting w.whole r boxes) j m) in
      let kept = Has-filter_out (λ (b : NumberedBox I). do_rects_meet (rect_of w.whole b.bounds) r) boxes out.0 out.1 in
      record { box = out.0; there = Contains-from_Has boxes out.0 kept.0; numbered = out.2; meets = kept.1 }

  pub number_below : (r : Rect) (j : ℕ) → Contains (numbers_meeting w.whole r boxes) j → j < length second
  number_below r j m = let near = box_near r j m in subst (λ i. i < length second) near.numbered ((of_boxes near.box).0 near.there).below

  near_bounds : (r : Rect) (j : ℕ) (y : Region I w o e p) (near : IsBoxNear r j) → (get_or second j y).bounds ≡ Some near.box.bounds
  near_bounds r j y near = ap (λ i. (get_or second i y).bounds) (sym near.numbered) ∙ ((of_boxes near.box).0 near.there).is y

  number_of : (r : Rect) (j : ℕ) (bounds : IntRect I) → j < length second → ((y : Region I w o e p) → (get_or second j y).bounds ≡ Some bounds) → do_rects_meet (rect_of w.whole bounds) r ≡ true → Contains (numbers_meeting w.whole r boxes) j
  number_of r j bounds l is meets =
      let box : NumberedBox I = record { number = j; bounds = bounds } in
      let there = (of_boxes box).1 (record { below = l; is = is }) in
      Contains-from_Has (numbers_meeting w.whole r boxes) j
      (Has-map (λ (b : NumberedBox I). b.number) (filter (λ (b : NumberedBox I). do_rects_meet (rect_of w.whole b.bounds) r) boxes) box
      (Has-filter (λ (b : NumberedBox I). do_rects_meet (rect_of w.whole b.bounds) r) boxes box (Has-from_Contains boxes box there) meets))

  module _ (predicate : Predicate) (first : Region I w o e p) where
    -- a region without a box has no partner
    pub no_partner : first.bounds ≡ None → (y : Region I w o e p) (j : ℕ) → Says predicate first (get_or second j y) ⊥
    no_partner none y j = apart_says first (get_or second j y) (ap (λ (b : Option (IntRect I)). do_boxes_meet w.whole b (get_or second j y).bounds) none) predicate

    module _ (Q : ℕ → Type 0 → Type 0) (bounds : IntRect I) (is : first.bounds ≡ Some bounds) (near partners : List ℕ) (are : AreChosen Q near partners)
        (meeting : (j : ℕ) → Contains near j ↔ Contains (numbers_meeting w.whole (rect_of w.whole bounds) boxes) j) (j : ℕ) (y : Region I w o e p) (l : j < length second)
        (same : (z : Region I w o e p) → get_or second j z ≡ get_or second j y) (says : Q j (Contains partners j) → Says predicate first (get_or second j y) (Contains partners j)) where
      is_near : Contains partners j → IsBoxNear (rect_of w.whole bounds) j
      is_near c = box_near (rect_of w.whole bounds) j ((meeting j).0 (All-contains (λ k. Contains near k) partners j are.among c))

      far : (other : Option (IntRect I)) → (get_or second j y).bounds ≡ other → do_boxes_meet w.whole (Some bounds) other ≡ false → (Contains partners j → ⊥) → Says predicate first (get_or second j y) (Contains partners j)
      far other found apart none =
          says_same predicate second second first (get_or second j y) ⊥ (Contains partners j) (λ f. absurd f, none)
          (apart_says first (get_or second j y) (ap (λ (b : Option (IntRect I)). do_boxes_meet w.whole b (get_or second j y).bounds) is ∙ ap (do_boxes_meet w.whole (Some bounds)) found ∙ apart) predicate)

      by : (other : Option (IntRect I)) → (get_or second j y).bounds ≡ other → Says predicate first (get_or second j y) (Contains partners j)
      by None found = far None found refl (λ c. let near = is_near c in none_is_some near.box.bounds (get_or second j y).bounds found (near_bounds (rect_of w.whole bounds) j y near))
      by (Some other) found = elim (cases_Bool (do_rects_meet (rect_of w.whole other) (rect_of w.whole bounds))) [
        | inl h ↦ says (are.exact j ((meeting j).1 (number_of (rect_of w.whole bounds) j other l (λ z. ap (λ (r : Region I w o e p). r.bounds) (same z) ∙ found) h)))
        | inr h ↦ far (Some other) found (turned (rect_of w.whole bounds) (rect_of w.whole other) ∙ h) (λ c.
            let near = is_near c in
            let box_is : other ≡ near.box.bounds = same_value other near.box.bounds (sym found ∙ near_bounds (rect_of w.whole bounds) j y near) in
            both_ways (do_rects_meet (rect_of w.whole other) (rect_of w.whole bounds)) h (ap (λ (b : IntRect I). do_rects_meet (rect_of w.whole b) (rect_of w.whole bounds)) box_is ∙ near.meets))
      ]

      pub partner_says : Says predicate first (get_or second j y) (Contains partners j)
      partner_says = by (get_or second j y).bounds refl
