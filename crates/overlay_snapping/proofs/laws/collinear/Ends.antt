-- The ends of a list of segments: each is one of a segment that is given, in range and with a count that is valid.
use Rattle.std.proofs.Common.{◌≡◌, ◌∙◌, refl, sym, ap, subst, arith, cond, ◌==◌, ◌<◌, ℕ, zero, suc, Bool, true, false, ◌&&◌, IsTrue, List, [], ◌∷◌, map, length, get_or, IsPermutation, inl, inr}
use Rattle.std.specs.Prelude.{ℤ, pos, neg_ℤ, ◌+ℤ◌, bit_or}
use Rattle.std.specs.List.{list_all}
use Rattle.std.proofs.lemmas.Int.{ints}
use Rattle.std.proofs.lemmas.Bool.{and_parts}
use Rattle.std.proofs.lemmas.List.Sorted.{IsPermutation-sym}
use Rattle.overlay_geometry.specs.Coordinates.{is_point_in_range, is_pair_in_range}
use Rattle.overlay_geometry.proofs.laws.lists.Lists.{Has, Has-map, Has-map_out, list_all-at}
use Rattle.overlay_geometry.proofs.laws.lists.Elements.{Has-flat_map_out, Has-permutation}
use Rattle.overlay_base.specs.Planar.{is_splittable}
use Rattle.overlay_base.specs.Segments.{WholeSegment}
use Rattle.overlay_base.specs.Windings.{Winding, add, inverse, swap_directions, empty, is_valid, is_not_empty}
use Rattle.std.specs.Prelude.{Some, slice_get}
use Rattle.std.proofs.lemmas.Option.{get_or_from_slice_get}
use Rattle.overlay_snapping.specs.steps.LineWalks.{End, place, ends_of_each}

pub segment_given : (given : List WholeSegment) (rest : List End) → IsPermutation (ends_of_each given) rest → (r : End) → Has rest r → Has given r.segment
segment_given given rest perm r i =
    let back = Has-permutation (λ (e : End). e.segment) rest (ends_of_each given) (IsPermutation-sym (ends_of_each given) rest perm) r.segment (Has-map (λ (e : End). e.segment) rest r i) in
    let e = Has-map_out (λ (e : End). e.segment) (ends_of_each given) r.segment back in
    let s = Has-flat_map_out both given e.0 e.1 in
    subst (Has given) (of_both s.0 e.0 s.2 ∙ e.2) s.1
  where
    both : WholeSegment → List End
    both s = record { segment = s; starts = true } ∷ record { segment = s; starts = false } ∷ []

    of_both : (s : WholeSegment) (e : End) → Has (both s) e → s ≡ e.segment
    of_both s e (inl same) = ap (λ (x : End). x.segment) same
    of_both s e (inr (inl same)) = ap (λ (x : End). x.segment) same
    of_both s e (inr (inr none)) = absurd none

pub Has-at : {X Y : Type 0} (f : X → Y) (xs : List X) (j : ℕ) (x : X) → j < length xs → x ≡ get_or xs j x → Has (map f xs) (f x)
Has-at f [] j x lt is = absurd (omega arith)
Has-at f (y ∷ xs) zero x lt is = inl (ap f (sym is))
Has-at f (y ∷ xs) (suc j) x lt is = inr (Has-at f xs j x (omega arith) is)

-- what may be split of a segment
pub record IsUsable (least greatest : ℤ) (s : WholeSegment) : Type 0 where
  pub a_in_range : IsTrue (is_point_in_range least greatest s.pair.a)
  pub b_in_range : IsTrue (is_point_in_range least greatest s.pair.b)
  pub valid : IsTrue (is_valid s.count)
  pub filled : IsTrue (is_not_empty s.count)

pub usable : (least greatest : ℤ) (segments : List WholeSegment) (s : WholeSegment) → IsTrue (is_splittable least greatest segments) → Has segments s → IsUsable least greatest s
unfolding is_splittable
usable least greatest segments s h i =
    let each = list_all-at (λ u. is_pair_in_range least greatest u.pair && is_valid u.count && is_not_empty u.count) segments s h i in
    let first = and_parts _ _ each in
    let second = and_parts _ _ first.0 in
    let range = and_parts _ _ second.0 in
    record { a_in_range = range.0; b_in_range = range.1; valid = second.1; filled = first.1 }

-- a count without a mask and its inverse add up to nothing
pub cancels : (c : Winding) → c.mask ≡ 0 → add c (inverse c) ≡ empty
cancels c none = λ i. record { subj = numbers c.subj i; clip = numbers c.clip i; mask = masks i }
  where
    numbers : (z : ℤ) → z +ℤ neg_ℤ z ≡ pos 0
    numbers z = omega (arith, ints)

    masks : bit_or c.mask (swap_directions c.mask) ≡ 0
    masks = ap (λ m. bit_or m (swap_directions m)) none

pub no_mask : (segments : List WholeSegment) → IsTrue (list_all (λ s. s.count.mask == 0) segments) → (s : WholeSegment) → Has segments s → s.count.mask ≡ 0
no_mask segments h s i = let each = list_all-at (λ (u : WholeSegment). u.count.mask == 0) segments s h i in grind (arith, each)

pub Has-first : {X Y : Type 0} (f : X → Y) (xs : List X) (x : X) → slice_get xs 0 ≡ Some x → Has (map f xs) (f x)
Has-first f [] x e = grind (arith, e)
Has-first f (y ∷ ys) x e = inl (ap f (get_or_from_slice_get (y ∷ ys) 0 x x e))

pub place_in_range : (least greatest : ℤ) (r : End) → IsUsable least greatest r.segment → IsTrue (is_point_in_range least greatest (place r))
place_in_range least greatest r u = by r.starts
  where
    by : (b : Bool) → IsTrue (is_point_in_range least greatest (cond b r.segment.pair.a r.segment.pair.b))
    by true = u.a_in_range
    by false = u.b_in_range

pub none_splittable : (least greatest : ℤ) → IsTrue (is_splittable least greatest [])
unfolding is_splittable
none_splittable least greatest = refl
