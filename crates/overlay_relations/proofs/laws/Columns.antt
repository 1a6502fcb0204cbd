-- Boxes around boxes, and the numbers of those that share a point with a box.
use Rattle.std.proofs.Common.{◌≡◌, ap, sym, subst, refl, ◌∙◌, ℕ, ◌+◌, ◌<◌, inl, inr, cond, List, [], ◌∷◌, ◌++◌, length, get_or, map, filter, take, arith}
use Rattle.std.specs.Prelude.{ℤ, ◌≤ℤ◌, ◌&&◌, Bool, true, false, int_le, All, Option, Some, None, IfSome}
use Rattle.std.specs.Int.{int_min, int_max}
use Rattle.std.proofs.lemmas.Bool.{and_parts, both_ways, false_from_ne_true}
use Rattle.std.proofs.lemmas.Int.{ints}
use Rattle.std.proofs.lemmas.List.{append-nil, map-append, take_more}
use Rattle.std.proofs.lemmas.List.Concat.{flat_map-append}
use Rattle.std.proofs.lemmas.List.Elements.{All-push, filter-append, All-nil, All-contains}
use Rattle.overlay_geometry.specs.RangeOf.{rect_of}
use Rattle.overlay_geometry.specs.Ranges.{Rect, do_rects_meet}
use Rattle.overlay_geometry.specs.declared.geom.rect.IntRect.{IntRect}
use Rattle.overlay_geometry.proofs.laws.integers.Tests.{le-tested, le-test}
use Rattle.overlay_geometry.proofs.laws.lists.Elements.{Contains-from_Has}
use Rattle.overlay_geometry.proofs.laws.lists.Lists.{Has}
use Rattle.overlay_relations.specs.steps.Columns.{IsBoxWithin, HoldsBoxes, AreAround, members_of, numbers_meeting}
use Rattle.overlay_relations.specs.declared.columns.Column.{Column}
use Rattle.overlay_relations.specs.declared.columns.NumberedBox.{NumberedBox}

-- ---- boxes around boxes

-- the least box around two
abbrev pub box_around : Rect → Rect → Rect
box_around r s = record { min_x = int_min r.min_x s.min_x; max_x = int_max r.max_x s.max_x; min_y = int_min r.min_y s.min_y; max_y = int_max r.max_y s.max_y }

least_left : (u v : ℤ) → int_min u v ≤ℤ u
least_left u v = grind (arith, ints)

least_right : (u v : ℤ) → int_min u v ≤ℤ v
least_right u v = grind (arith, ints)

greatest_left : (u v : ℤ) → u ≤ℤ int_max u v
greatest_left u v = grind (arith, ints)

greatest_right : (u v : ℤ) → v ≤ℤ int_max u v
greatest_right u v = grind (arith, ints)

trans : (u v w : ℤ) → u ≤ℤ v → v ≤ℤ w → u ≤ℤ w
trans u v w h k = omega (arith, ints, h, k)

pub within_first : (r s : Rect) → IsBoxWithin r (box_around r s)
within_first r s = record { left = least_left r.min_x s.min_x; right = greatest_left r.max_x s.max_x; below = least_left r.min_y s.min_y; above = greatest_left r.max_y s.max_y }

pub within_second : (r s : Rect) → IsBoxWithin s (box_around r s)
within_second r s = record { left = least_right r.min_x s.min_x; right = greatest_right r.max_x s.max_x; below = least_right r.min_y s.min_y; above = greatest_right r.max_y s.max_y }

within_through : (r s t : Rect) → IsBoxWithin r s → IsBoxWithin s t → IsBoxWithin r t
within_through r s t h k = record {
  left = trans t.min_x s.min_x r.min_x k.left h.left;
  right = trans r.max_x s.max_x t.max_x h.right k.right;
  below = trans t.min_y s.min_y r.min_y k.below h.below;
  above = trans r.max_y s.max_y t.max_y h.above k.above;
}

-- what shares a point with a box shares one with each box around that
wider_meets : (r s t : Rect) → IsBoxWithin r s → do_rects_meet r t ≡ true → do_rects_meet s t ≡ true
wider_meets r s t h k =
    let outer = and_parts (int_le r.min_x t.max_x && int_le t.min_x r.max_x && int_le r.min_y t.max_y) (int_le t.min_y r.max_y) k in
    let middle = and_parts (int_le r.min_x t.max_x && int_le t.min_x r.max_x) (int_le r.min_y t.max_y) outer.0 in
    let inner = and_parts (int_le r.min_x t.max_x) (int_le t.min_x r.max_x) middle.0 in
    all _ _ _ _
    (le-test _ _ (trans _ _ _ h.left (le-tested _ _ inner.0)))
    (le-test _ _ (trans _ _ _ (le-tested _ _ inner.1) h.right))
    (le-test _ _ (trans _ _ _ h.below (le-tested _ _ middle.1)))
    (le-test _ _ (trans _ _ _ (le-tested _ _ outer.1) h.above))
  where
    all : (a b c d : Bool) → a ≡ true → b ≡ true → c ≡ true → d ≡ true → (a && b && c && d) ≡ true
    all a b c d e f g h = rw (e, f, g, h) refl

-- ---- boxes so far

module _ {I : Type 0} (whole : I → ℤ) where
  abbrev In : IntRect I → NumberedBox I → Type 0
  In bounds numbered = IsBoxWithin (rect_of whole numbered.bounds) (rect_of whole bounds)

  pub next_held : (xs : List (NumberedBox I)) (i : ℕ) (x : NumberedBox I) (old : Option (IntRect I)) (new : IntRect I) → i < length xs → x ≡ get_or xs i x → HoldsBoxes whole (take i xs) old
      → IfSome old (λ found. IsBoxWithin (rect_of whole found) (rect_of whole new)) → IsBoxWithin (rect_of whole x.bounds) (rect_of whole new) → HoldsBoxes whole (take (i + 1) xs) (Some new)
  next_held xs i x None new h is e wider last =
      subst (λ (l : List (NumberedBox I)). All (In new) l) (sym (take_more xs i x h ∙ ap (λ z. take i xs ++ z ∷ []) (sym is)))
      (All-push (In new) (take i xs) x (subst (λ (l : List (NumberedBox I)). All (In new) l) (sym e) (All-nil (In new))) last)
  next_held xs i x (Some old) new h is held wider last =
      subst (λ (l : List (NumberedBox I)). All (In new) l) (sym (take_more xs i x h ∙ ap (λ z. take i xs ++ z ∷ []) (sym is)))
      (All-push (In new) (take i xs) x (λ k d l. within_through _ _ _ (held k d l) wider) last)

  -- ---- numbers

  pub numbers-append : (r : Rect) (xs ys : List (NumberedBox I)) → numbers_meeting whole r (xs ++ ys) ≡ numbers_meeting whole r xs ++ numbers_meeting whole r ys
  numbers-append r xs ys =
      ap (map (λ (b : NumberedBox I). b.number)) (filter-append (λ (b : NumberedBox I). do_rects_meet (rect_of whole b.bounds) r) xs ys)
      ∙ map-append (λ (b : NumberedBox I). b.number) (filter (λ (b : NumberedBox I). do_rects_meet (rect_of whole b.bounds) r) xs) (filter (λ (b : NumberedBox I). do_rects_meet (rect_of whole b.bounds) r) ys)

  none_kept : (test : NumberedBox I → Bool) (xs : List (NumberedBox I)) → ((b : NumberedBox I) → Has xs b → test b ≡ false) → filter test xs ≡ []
  none_kept test [] none = refl
  none_kept test (x ∷ xs) none = ap (λ (b : Bool). cond b (x ∷ filter test xs) (filter test xs)) (none x (inl refl)) ∙ none_kept test xs (λ s m. none s (inr m))

  -- none of a column whose box shares no point with it
  pub numbers-none : (r : Rect) (column : Column I) → AreAround whole column → do_rects_meet (rect_of whole column.bounds) r ≡ false → numbers_meeting whole r column.members.items ≡ []
  numbers-none r column around e =
      ap (map (λ (b : NumberedBox I). b.number))
      (none_kept (λ (b : NumberedBox I). do_rects_meet (rect_of whole b.bounds) r) column.members.items
      (λ b m. false_from_ne_true _ (λ t. both_ways (do_rects_meet (rect_of whole column.bounds) r) e (wider_meets (rect_of whole b.bounds) (rect_of whole column.bounds) r (All-contains (In column.bounds) column.members.items b around (Contains-from_Has column.members.items b m)) t))))

  pub next_members : (columns : List (Column I)) (i : ℕ) (x : Column I) → i < length columns → x ≡ get_or columns i x → members_of (take (i + 1) columns) ≡ members_of (take i columns) ++ x.members.items
  next_members columns i x h is =
      ap members_of (take_more columns i x h ∙ ap (λ z. take i columns ++ z ∷ []) (sym is)) ∙ flat_map-append (λ (c : Column I). c.members.items) (take i columns) (x ∷ [])
      ∙ ap (λ (l : List (NumberedBox I)). members_of (take i columns) ++ l) (append-nil x.members.items)
