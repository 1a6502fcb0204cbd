-- Joins and cuts keep what may be split: the ends stay in range, and the counts valid where no sum leaves the range.
use Rattle.std.proofs.Common.{◌≡◌, arith, ℕ, List, true, ◌&&◌, IsTrue, IsFalse}
use Rattle.std.specs.Prelude.{ℤ, nat_lt}
use Rattle.std.specs.List.{AllByRecursion}
use Rattle.std.proofs.lemmas.Bool.{and_parts, and_from, lt-ltb}
use Rattle.overlay_geometry.specs.Points.{Point, Pair, is_ordered}
use Rattle.overlay_base.specs.Windings.{swap_directions, is_valid, is_not_empty, is_count_in_range}
use Rattle.overlay_base.specs.Segments.{WholeSegment, is_map}
use Rattle.overlay_base.specs.Join.{join, join_leaves_range}
use Rattle.overlay_base.specs.Planar.{is_splittable}
use Rattle.overlay_geometry.specs.Coordinates.{is_point_in_range, is_pair_in_range}
use Rattle.overlay_cuts.specs.Pass.{cut_by, pass_by}
use Rattle.overlay_cuts.specs.Laws.{CutIsSplittable}
use Rattle.overlay_geometry.proofs.laws.geometry.Coordinates.{pair_parts}
use Rattle.overlay_geometry.proofs.laws.lists.Lists.{AllByRecursion-weaker, AllByRecursion-both, AllByRecursion-from_list_all, list_all-from_AllByRecursion}
use Rattle.overlay_base.proofs.laws.joins.Members.{masks-join, counts_in_range-join}
use Rattle.overlay_cuts.proofs.laws.paths.Cuts.{AllByRecursion-join}
use Rattle.overlay_cuts.proofs.laws.paths.MarkedPairs.{EachMark-each}
use Rattle.overlay_cuts.proofs.laws.paths.Maps.{cut_is_map}
use Rattle.overlay_cuts.proofs.laws.paths.PieceCounts.{counts-cut}
use Rattle.overlay_cuts.proofs.laws.paths.Boxes.{AtEnds, pass_by_has}

-- ---- the parts of the test

abbrev pub HasMask : WholeSegment → Type 0
HasMask s = nat_lt s.count.mask 4 ≡ true

abbrev pub IsInRange : ℤ → ℤ → Point → Type 0
IsInRange least greatest p = IsTrue (is_point_in_range least greatest p)

-- ends in range, counts in range, masks of two bits, no empty count
pub record AreUsable (least greatest : ℤ) (segments : List WholeSegment) : Type 0 where
  pub ends : AllByRecursion (λ s. AtEnds (IsInRange least greatest) s.pair) segments
  pub numbers : AllByRecursion (λ s. is_count_in_range s.count ≡ true) segments
  pub masks : AllByRecursion HasMask segments
  pub filled : AllByRecursion (λ s. is_not_empty s.count ≡ true) segments

pub usable_parts : (least greatest : ℤ) (segments : List WholeSegment) → IsTrue (is_splittable least greatest segments) → AreUsable least greatest segments
unfolding is_splittable
usable_parts least greatest segments h =
    let each = AllByRecursion-from_list_all (λ s. is_pair_in_range least greatest s.pair && is_valid s.count && is_not_empty s.count) segments h in
    let part = λ (P : WholeSegment → Type 0) (f : (s : WholeSegment) → (is_pair_in_range least greatest s.pair && is_valid s.count && is_not_empty s.count) ≡ true → P s). AllByRecursion-weaker (λ s. (is_pair_in_range least greatest s.pair && is_valid s.count && is_not_empty s.count) ≡ true) P f segments each in
    record {
      ends = part (λ s. AtEnds (IsInRange least greatest) s.pair) (λ s k. pair_parts least greatest s.pair (and_parts _ _ (and_parts _ _ k).0).0);
      numbers = part (λ s. is_count_in_range s.count ≡ true) (λ s k. (and_parts _ _ (and_parts _ _ (and_parts _ _ k).0).1).0);
      masks = part HasMask (λ s k. (and_parts _ _ (and_parts _ _ (and_parts _ _ k).0).1).1);
      filled = part (λ s. is_not_empty s.count ≡ true) (λ s k. (and_parts _ _ k).1);
    }

pub from_usable : (least greatest : ℤ) (segments : List WholeSegment) → AreUsable least greatest segments → IsTrue (is_splittable least greatest segments)
unfolding is_splittable
from_usable least greatest segments u =
    list_all-from_AllByRecursion (λ s. is_pair_in_range least greatest s.pair && is_valid s.count && is_not_empty s.count) segments
    (AllByRecursion-weaker (λ s. (AtEnds (IsInRange least greatest) s.pair × (is_count_in_range s.count ≡ true)) × (HasMask s × (is_not_empty s.count ≡ true))) _
    (λ s k. and_from _ _ (and_from _ _ (and_from _ _ k.0.0.0 k.0.0.1) (and_from _ _ k.0.1 k.1.0)) k.1.1) segments
    (AllByRecursion-both _ _ segments (AllByRecursion-both _ _ segments u.ends u.numbers) (AllByRecursion-both _ _ segments u.masks u.filled)))

-- ---- masks

mask_back : (n : ℕ) → nat_lt (swap_directions n) 4 ≡ true
mask_back n = lt-ltb (swap_directions n) 4 (omega arith)

cut_masks : (marks : Pair → List Point) (segments : List WholeSegment) → AllByRecursion HasMask segments → AllByRecursion HasMask (cut_by marks segments)
cut_masks marks segments h = counts-cut (λ c. nat_lt c.mask 4 ≡ true) (λ c _. mask_back c.mask) marks segments h

-- ---- joins

kept_in_join : (least greatest : ℤ) (bag : List WholeSegment) → AllByRecursion (λ s. AtEnds (IsInRange least greatest) s.pair) (join bag) → AllByRecursion HasMask bag → IsFalse (join_leaves_range bag) → IsTrue (is_map (join bag)) → IsTrue (is_splittable least greatest (join bag))
unfolding is_map
kept_in_join least greatest bag ends masks fits map =
    from_usable least greatest (join bag) (record {
      ends = ends;
      numbers = AllByRecursion-from_list_all (λ s. is_count_in_range s.count) (join bag) (counts_in_range-join bag fits);
      masks = AllByRecursion-from_list_all (λ s. nat_lt s.count.mask 4) (join bag) (masks-join bag (list_all-from_AllByRecursion (λ s. nat_lt s.count.mask 4) bag masks));
      filled = AllByRecursion-weaker (λ s. (is_ordered s.pair && is_not_empty s.count) ≡ true) (λ s. is_not_empty s.count ≡ true) (λ s k. (and_parts _ _ k).1) (join bag)
          (AllByRecursion-from_list_all (λ s. is_ordered s.pair && is_not_empty s.count) (join bag) (and_parts _ _ map).1);
    })

-- a list that may be split is joined to one that may be split
pub is_splittable-join : (least greatest : ℤ) (bag : List WholeSegment) → IsTrue (is_splittable least greatest bag) → IsFalse (join_leaves_range bag) → IsTrue (is_map (join bag)) → IsTrue (is_splittable least greatest (join bag))
is_splittable-join least greatest bag h fits map =
    let parts = usable_parts least greatest bag h in
    kept_in_join least greatest bag (AllByRecursion-join (AtEnds (IsInRange least greatest)) bag parts.ends) parts.masks fits map

-- so is its cut at marks in range
pub is_splittable-pass_by : (least greatest : ℤ) (marks : Pair → List Point) (segments : List WholeSegment) → IsTrue (is_splittable least greatest segments) → AllByRecursion (λ s. AllByRecursion (IsInRange least greatest) (marks s.pair)) segments →
    IsFalse (join_leaves_range (cut_by marks segments)) → IsTrue (is_map (pass_by marks segments)) → IsTrue (is_splittable least greatest (pass_by marks segments))
is_splittable-pass_by least greatest marks segments h at_marks fits map =
    let parts = usable_parts least greatest segments h in
    kept_in_join least greatest (cut_by marks segments) (pass_by_has (IsInRange least greatest) marks segments parts.ends at_marks) (cut_masks marks segments parts.masks) fits map

pub cut_is_splittable : CutIsSplittable
cut_is_splittable least greatest marks segments ordered h free within fits =
    is_splittable-pass_by least greatest marks segments h (EachMark-each (λ s m. IsInRange least greatest m) marks segments within) fits (cut_is_map marks segments ordered free)
