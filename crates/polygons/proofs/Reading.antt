-- Words that write points, one word more at a time, and words that write no contour.
use Rattle.std.proofs.Common.{◌≡◌, ℕ, ℤ, List, [], ◌∷◌, ◌++◌, Option, Some, None, refl, sym, ap, ◌∙◌, subst, append_assoc}
use Rattle.overlay_geometry.specs.Points.{Point}
use Rattle.overlay_text.specs.Numbers.{WritesNumber}
use Rattle.overlay_base.specs.declared.segm.shape_type.ShapeType.{ShapeType}
use Rattle.polygons.specs.ContourText.{NamesContour, WritePoints, WriteContour}
use Rattle.polygons.proofs.Items.{head_or}

write-more : (words : List (List ℕ)) (points : List Point) (x y : List ℕ) (p : Point) → WritePoints words points → WritesNumber x p.x → WritesNumber y p.y → WritePoints (words ++ x ∷ y ∷ []) (points ++ p ∷ [])
write-more [] points x y p writes at_x at_y = (p, [], ap (λ ps. ps ++ p ∷ []) writes, at_x, at_y, refl)
write-more (a ∷ []) points x y p writes at_x at_y = absurd writes
write-more (a ∷ b ∷ words) points x y p writes at_x at_y = (writes.0, writes.1 ++ p ∷ [], ap (λ ps. ps ++ p ∷ []) writes.2, writes.3, writes.4, write-more words writes.1 x y p writes.5 at_x at_y)

-- what comes behind words that write points writes points too, where all together do
rest-writes : (words rest : List (List ℕ)) (points all : List Point) → WritePoints words points → WritePoints (words ++ rest) all → (others : List Point) × WritePoints rest others
rest-writes [] rest points all writes whole = (all, whole)
rest-writes (a ∷ []) rest points all writes whole = absurd writes
rest-writes (a ∷ b ∷ words) rest points all writes whole = rest-writes words rest writes.1 whole.1 writes.5 whole.5

none-from : (x : List ℕ) (rest : List (List ℕ)) (points : List Point) → ((z : ℤ) → ¬ (WritesNumber x z)) → WritePoints (x ∷ rest) points → ⊥
none-from x [] points other writes = writes
none-from x (y ∷ rest) points other writes = other writes.0.x writes.3

-- of all words these are left, and those before them write these points and, where there is one, the first coordinate of the next
abbrev pub AreRead : List (List ℕ) → List (List ℕ) → Option ℤ → List Point → Type 0
AreRead all left None points = (done : List (List ℕ)) × WritePoints done points × (all ≡ done ++ left)
AreRead all left (Some x) points = (done : List (List ℕ)) × (word : List ℕ) × WritePoints done points × WritesNumber word x × (all ≡ done ++ word ∷ left)

module _ (all left others : List (List ℕ)) (word : List ℕ) (points : List Point) (first : left ≡ word ∷ others) where
  pub two_read : (x y : ℤ) → AreRead all left (Some x) points → WritesNumber word y → AreRead all others None (points ++ record { x = x; y = y } ∷ [])
  two_read x y read writes = (
    read.0 ++ read.1 ∷ word ∷ [],
    write-more read.0 points read.1 word (record { x = x; y = y }) read.2 read.3 writes,
    read.4 ∙ (ap (λ ws. read.0 ++ read.1 ∷ ws) first ∙ sym (append_assoc read.0 (read.1 ∷ word ∷ []) others)),
  )

  pub no_number : (before : Option ℤ) (wanted : List Point) → AreRead all left before points → ((z : ℤ) → ¬ (WritesNumber word z)) → WritePoints all wanted → ⊥
  no_number None wanted read other whole =
      let rest = rest-writes read.0 left points wanted read.1 (subst (λ ws. WritePoints ws wanted) read.2 whole) in
      none-from word others rest.0 other (subst (λ ws. WritePoints ws rest.0) first rest.1)
  no_number (Some x) wanted read other whole =
      let rest = rest-writes read.0 (read.1 ∷ left) points wanted read.2 (subst (λ ws. WritePoints ws wanted) read.4 whole) in
      let pair = subst (λ ws. WritePoints (read.1 ∷ ws) rest.0) first rest.1 in
      other pair.0.y pair.4

-- words with one left over write no points
pub one_left_over : (all left : List (List ℕ)) (x : ℤ) (points wanted : List Point) → AreRead all left (Some x) points → left ≡ [] → WritePoints all wanted → ⊥
one_left_over all left x points wanted read none whole =
    let rest = rest-writes read.0 (read.1 ∷ left) points wanted read.2 (subst (λ ws. WritePoints ws wanted) read.4 whole) in
    subst (λ ws. WritePoints (read.1 ∷ ws) rest.0) none rest.1

-- words behind one that names no shape write no contour
pub no_contour : (chosen : ShapeType) (words others : List (List ℕ)) (name : List ℕ) → words ≡ name ∷ others → ((shape_type : ShapeType) → ¬ (NamesContour chosen name shape_type)) → (shape_type : ShapeType) (points : List Point) → ¬ (WriteContour chosen words shape_type points)
no_contour chosen words others name first none shape_type points writes =
    let same : writes.0 ≡ name = ap (head_or []) (sym writes.2 ∙ first) in
    none shape_type (subst (λ w. NamesContour chosen w shape_type) same writes.3)
