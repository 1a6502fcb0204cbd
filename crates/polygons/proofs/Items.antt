-- Items with commas between them, one more at a time, and that words begin with one list of them at most.
use Rattle.std.proofs.Common.{◌≡◌, inl, inr, ℕ, List, [], ◌∷◌, ◌++◌, refl, sym, ap, ◌∙◌, subst, append_assoc, arith}
use Rattle.std.specs.Prelude.{◌≢◌, ◌⊎◌, ◌≤◌, length, codes, Bool, true, false}
use Rattle.overlay_geometry.specs.Points.{Point}
use Rattle.overlay_geometry.proofs.laws.geometry.Points.{same_point}
use Rattle.overlay_text.specs.Numbers.{signed_value}
use Rattle.polygons.specs.Wkt.{opening, closing, comma, WriteItems, WriteGroup, EmptyOr, WritePoint, WriteRing, WritePolygon, geometry_name, WriteBody, WriteGeometry}

abbrev pub head_or : List ℕ → List (List ℕ) → List ℕ
head_or d [] = d
head_or d (w ∷ ws) = w

abbrev pub tail_or : List (List ℕ) → List (List ℕ)
tail_or [] = []
tail_or (w ∷ ws) = ws

abbrev code_of : List ℕ → ℕ
code_of [] = 0
code_of (c ∷ cs) = c

-- no words begin with two items
abbrev pub IsOne : {A : Type 0} → (List (List ℕ) → A → List (List ℕ) → Type 0) → Type 0
IsOne {A = A} WriteItem = (words : List (List ℕ)) (a b : A) (r s : List (List ℕ)) → WriteItem words a r → WriteItem words b s → (a ≡ b) × (r ≡ s)

-- nor with two lists of them
module _ {A : Type 0} (WriteItem : List (List ℕ) → A → List (List ℕ) → Type 0) (one : IsOne WriteItem) where
  closing_is_not_comma : closing ≡ comma → ⊥
  closing_is_not_comma same = let e = ap code_of same in omega (arith, e)

  pub items_are_one : IsOne (WriteItems WriteItem)
  items_are_one words [] b r s h k = absurd h
  items_are_one words (i ∷ is) [] r s h k = absurd k
  items_are_one words (i ∷ is) (j ∷ js) r s h k =
      let same = one words i j (h.0 ∷ h.1) (k.0 ∷ k.1) h.2 k.2 in
      both (λ y p q. items_are_one y is js r s p q) h.0 k.0 h.1 k.1 same.0 (ap (head_or []) same.1) (ap tail_or same.1) h.3 k.3
    where
      both : ((y : List (List ℕ)) → WriteItems WriteItem y is r → WriteItems WriteItem y js s → (is ≡ js) × (r ≡ s)) → (m n : List ℕ) (x y : List (List ℕ)) → i ≡ j → m ≡ n → x ≡ y
          → ((m ≡ closing) × (is ≡ []) × (x ≡ r)) ⊎ ((m ≡ comma) × WriteItems WriteItem x is r)
          → ((n ≡ closing) × (js ≡ []) × (y ≡ s)) ⊎ ((n ≡ comma) × WriteItems WriteItem y js s) → ((i ∷ is) ≡ (j ∷ js)) × (r ≡ s)
      both again m n x y e f g (inl p) (inl q) = (ap (λ a. a ∷ is) e ∙ ap (λ l. j ∷ l) (p.1 ∙ sym q.1), sym p.2 ∙ g ∙ q.2)
      both again m n x y e f g (inl p) (inr q) = absurd (closing_is_not_comma (sym p.0 ∙ f ∙ q.0))
      both again m n x y e f g (inr p) (inl q) = absurd (closing_is_not_comma (sym q.0 ∙ sym f ∙ p.0))
      both again m n x y e f g (inr p) (inr q) =
          let rest = again y (subst (λ w. WriteItems WriteItem w is r) g p.1) q.1 in
          (ap (λ a. a ∷ is) e ∙ ap (λ l. j ∷ l) rest.0, rest.1)

  pub groups_are_one : IsOne (WriteGroup WriteItem)
  groups_are_one words a b r s h k =
      let inner : h.0 ≡ k.0 = ap tail_or (sym h.1 ∙ k.1) in
      items_are_one k.0 a b r s (subst (λ w. WriteItems WriteItem w a r) inner h.2) k.2

  -- behind an item and a comma there are the others
  pub behind_comma : (left next : List (List ℕ)) (item : A) → WriteItem left item (comma ∷ next) → (others : List A) (rest : List (List ℕ)) → WriteItems WriteItem left others rest
      → (more : List A) × (others ≡ item ∷ more) × WriteItems WriteItem next more rest
  behind_comma left next item w [] rest h = absurd h
  behind_comma left next item w (o ∷ os) rest h =
      let same = one left item o (comma ∷ next) (h.0 ∷ h.1) w h.2 in
      by h.0 h.1 same.0 (ap (head_or []) same.1) (ap tail_or same.1) h.3
    where
      by : (mark : List ℕ) (behind : List (List ℕ)) → item ≡ o → comma ≡ mark → next ≡ behind → ((mark ≡ closing) × (os ≡ []) × (behind ≡ rest)) ⊎ ((mark ≡ comma) × WriteItems WriteItem behind os rest)
          → (more : List A) × ((o ∷ os) ≡ item ∷ more) × WriteItems WriteItem next more rest
      by mark behind first e later (inl p) = absurd (closing_is_not_comma (sym p.0 ∙ sym e))
      by mark behind first e later (inr p) = (os, ap (λ a. a ∷ os) (sym first), subst (λ w. WriteItems WriteItem w os rest) (sym later) p.1)

-- All the words begin with these items, commas, and what the words that are left begin with.
pub record IsBehind {A : Type 0} (WriteItem : List (List ℕ) → A → List (List ℕ) → Type 0) (all : List (List ℕ)) (done : List A) (left : List (List ℕ)) : Type 0 where
  pub writes : (items : List A) (rest : List (List ℕ)) → WriteItems WriteItem left items rest → WriteItems WriteItem all (done ++ items) rest
  pub reads : (items : List A) (rest : List (List ℕ)) → WriteItems WriteItem all items rest → (others : List A) × (items ≡ done ++ others) × WriteItems WriteItem left others rest

module _ {A : Type 0} (WriteItem : List (List ℕ) → A → List (List ℕ) → Type 0) where
  module _ (all left : List (List ℕ)) (done : List A) (b : IsBehind WriteItem all done left) where
    pub behind_more : IsOne WriteItem → (item : A) (next : List (List ℕ)) → WriteItem left item (comma ∷ next) → IsBehind WriteItem all (done ++ item ∷ []) next
    behind_more one item next w = record {
      writes = λ items rest h. subst (λ l. WriteItems WriteItem all l rest) (sym (append_assoc done (item ∷ []) items)) (b.writes (item ∷ items) rest (comma, next, w, inr (refl, h)));
      reads = λ items rest h.
          let r = b.reads items rest h in
          let c = behind_comma WriteItem one left next item w r.0 rest r.2 in
          (c.0, r.1 ∙ ap (λ l. done ++ l) c.1 ∙ sym (append_assoc done (item ∷ []) c.0), c.2);
    }

    -- no items, where no item comes next
    pub no_item : ((item : A) (rest : List (List ℕ)) → ¬ (WriteItem left item rest)) → (items : List A) (rest : List (List ℕ)) → ¬ (WriteItems WriteItem all items rest)
    no_item none items rest h = let r = b.reads items rest h in by r.0 r.2
      where
        by : (others : List A) → WriteItems WriteItem left others rest → ⊥
        by [] k = k
        by (o ∷ os) k = none o (k.0 ∷ k.1) k.2

    -- nor where no mark is behind the next
    pub no_mark : IsOne WriteItem → (item : A) (next : List (List ℕ)) → WriteItem left item next → ((mark : List ℕ) (behind : List (List ℕ)) → next ≡ mark ∷ behind → (mark ≢ closing) × (mark ≢ comma)) → (items : List A) (rest : List (List ℕ)) → ¬ (WriteItems WriteItem all items rest)
    no_mark one item next w none items rest h = let r = b.reads items rest h in by r.0 r.2
      where
        by : (others : List A) → WriteItems WriteItem left others rest → ⊥
        by [] k = k
        by (o ∷ os) k =
            let differ = none k.0 k.1 (one left item o next (k.0 ∷ k.1) w k.2).1 in
            elim k.3 [
              | inl p ↦ differ.0 p.0
              | inr p ↦ differ.1 p.0
            ]

-- ---- points, rings and polygons

pub point_is_one : IsOne WritePoint
point_is_one words a b r s h k =
    let same : (h.0 ∷ h.1 ∷ r) ≡ (k.0 ∷ k.1 ∷ s) = sym h.2 ∙ k.2 in
    let x : h.0 ≡ k.0 = ap (head_or []) same in
    let y : h.1 ≡ k.1 = ap (λ ws. head_or [] (tail_or ws)) same in
    (same_point a b (h.3.1 ∙ ap signed_value x ∙ sym k.3.1) (h.4.1 ∙ ap signed_value y ∙ sym k.4.1), ap (λ ws. tail_or (tail_or ws)) same)

empty_is_no_opening : codes "EMPTY" ≡ opening → ⊥
empty_is_no_opening same = let e = ap code_of same in omega (arith, e)

-- `EMPTY` or a group is one
module _ {A : Type 0} (WriteItem : List (List ℕ) → A → List (List ℕ) → Type 0) (one : IsOne WriteItem) where
  pub empty_or_is_one : IsOne (EmptyOr WriteItem)
  empty_or_is_one words a b r s (inl h) (inl k) = (h.1 ∙ sym k.1, ap tail_or (sym h.0 ∙ k.0))
  empty_or_is_one words a b r s (inl h) (inr k) = absurd (empty_is_no_opening (ap (head_or []) (sym h.0 ∙ k.1)))
  empty_or_is_one words a b r s (inr h) (inl k) = absurd (empty_is_no_opening (ap (head_or []) (sym k.0 ∙ h.1)))
  empty_or_is_one words a b r s (inr h) (inr k) = groups_are_one WriteItem one words a b r s h k

pub ring_is_one : IsOne WriteRing
ring_is_one = empty_or_is_one WritePoint point_is_one

pub polygon_is_one : IsOne WritePolygon
polygon_is_one = empty_or_is_one WriteRing ring_is_one

-- ---- what is left is shorter

abbrev pub IsShorter : {A : Type 0} → (List (List ℕ) → A → List (List ℕ) → Type 0) → Type 0
IsShorter {A = A} WriteItem = (words : List (List ℕ)) (a : A) (rest : List (List ℕ)) → WriteItem words a rest → length rest ≤ length words

module _ {A : Type 0} (WriteItem : List (List ℕ) → A → List (List ℕ) → Type 0) (shorter : IsShorter WriteItem) where
  pub items_are_shorter : IsShorter (WriteItems WriteItem)
  items_are_shorter words [] rest h = absurd h
  items_are_shorter words (i ∷ is) rest h =
      let first : length (h.0 ∷ h.1) ≤ length words = shorter words i (h.0 ∷ h.1) h.2 in
      by (λ k. items_are_shorter h.1 is rest k) first h.3
    where
      by : (WriteItems WriteItem h.1 is rest → length rest ≤ length h.1) → length (h.0 ∷ h.1) ≤ length words → ((h.0 ≡ closing) × (is ≡ []) × (h.1 ≡ rest)) ⊎ ((h.0 ≡ comma) × WriteItems WriteItem h.1 is rest) → length rest ≤ length words
      by again first (inl p) = let e = ap (λ l. length l) p.2 in omega (arith, e, first)
      by again first (inr p) = let e = again p.1 in omega (arith, e, first)

  pub groups_are_shorter : IsShorter (WriteGroup WriteItem)
  groups_are_shorter words items rest h =
      let inner = items_are_shorter h.0 items rest h.2 in
      let e = ap (λ l. length l) h.1 in
      omega (arith, inner, e)

pub point_is_shorter : IsShorter WritePoint
point_is_shorter words p rest h = let e = ap (λ l. length l) h.2 in omega (arith, e)

empty_or_is_shorter : {A : Type 0} (WriteItem : List (List ℕ) → A → List (List ℕ) → Type 0) → IsShorter WriteItem → IsShorter (EmptyOr WriteItem)
empty_or_is_shorter WriteItem shorter words items rest (inl h) = let e = ap (λ l. length l) h.0 in omega (arith, e)
empty_or_is_shorter WriteItem shorter words items rest (inr h) = groups_are_shorter WriteItem shorter words items rest h

pub ring_is_shorter : IsShorter WriteRing
ring_is_shorter = empty_or_is_shorter WritePoint point_is_shorter

pub polygon_is_shorter : IsShorter WritePolygon
polygon_is_shorter = empty_or_is_shorter WriteRing ring_is_shorter

-- ---- geometries

names_differ : codes "MULTIPOLYGON" ≡ codes "POLYGON" → ⊥
names_differ same = let e = ap code_of same in omega (arith, e)

same_name : (several other : Bool) → geometry_name several ≡ geometry_name other → several ≡ other
same_name true true e = refl
same_name true false e = absurd (names_differ e)
same_name false true e = absurd (names_differ (sym e))
same_name false false e = refl

pub body_is_one : (several : Bool) → IsOne (WriteBody several)
body_is_one true words a b r s h k = empty_or_is_one WritePolygon polygon_is_one words a b r s h k
body_is_one false words a b r s h k =
    let same = polygon_is_one words h.0 k.0 r s h.2 k.2 in
    (h.1 ∙ ap (λ rings. rings ∷ []) same.0 ∙ sym k.1, same.1)

module _ (words behind : List (List ℕ)) (several : Bool) (named : words ≡ geometry_name several ∷ behind) where
  body_of : (polygons : List (List (List Point))) → WriteGeometry words polygons → WriteBody several behind polygons []
  body_of polygons h =
      let same : geometry_name h.0 ∷ h.1 ≡ geometry_name several ∷ behind = sym h.2 ∙ named in
      let is : h.0 ≡ several = same_name h.0 several (ap (head_or []) same) in
      subst (λ v. WriteBody v behind polygons []) is (subst (λ w. WriteBody h.0 w polygons []) (ap tail_or same) h.3)

  pub no_body : ((polygons : List (List (List Point))) (rest : List (List ℕ)) → ¬ (WriteBody several behind polygons rest)) → (polygons : List (List (List Point))) → ¬ (WriteGeometry words polygons)
  no_body none polygons h = none polygons [] (body_of polygons h)

  -- nor where words are left
  pub some_left : (found : List (List (List Point))) (rest others : List (List ℕ)) (word : List ℕ) → WriteBody several behind found rest → rest ≡ word ∷ others → (polygons : List (List (List Point))) → ¬ (WriteGeometry words polygons)
  some_left found rest others word body left polygons h =
      let same = body_is_one several behind found polygons rest [] body (body_of polygons h) in
      let e = ap (λ l. length l) (sym left ∙ same.1) in
      omega (arith, e)
