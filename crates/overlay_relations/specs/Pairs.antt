-- Pairs of related regions, by their numbers in two lists.
use Rattle.std.specs.Prelude.{⊤, ◌≡◌, ◌↔◌, ◌<◌, ◌⊎◌, ℕ, List, length, All, Contains, Some}
use Rattle.std.specs.List.{AllPairs, slice_index_or}
use Rattle.overlay_geometry.specs.Points.{Point}
use Rattle.overlay_base.specs.declared.overlay_core.fill_rule.FillRule.{FillRule}
use Rattle.overlay_relations.specs.Contacts.{SharePoint, Touch}
use Rattle.overlay_relations.specs.Refusals.{IsOverlayRefusal}
use Rattle.overlay_relations.specs.Regions.{boundary_of, IsRegionOf, Relation}
use Rattle.overlay_relations.specs.Relations.{InteriorsMeet, Covers, IsWithin, AreSameRegion}
use Rattle.overlay_relations.specs.declared.columns.NumberedBox.{NumberedBox}
use Rattle.overlay_relations.specs.declared.pairs.PairFault.{PairFault}
use Rattle.overlay_relations.specs.declared.pairs.PairFault.TheVariants.{Relation as RelationRefused, Memory}
use Rattle.overlay_relations.specs.declared.pairs.RelatedPair.{RelatedPair}
use Rattle.overlay_relations.specs.declared.predicate.Predicate.{Predicate}
use Rattle.overlay_relations.specs.declared.predicate.Predicate.TheVariants.{SharePoint as BySharing, InteriorsMeet as ByMeeting, Touch as ByTouching, Covers as ByCovering, IsWithin as ByLyingWithin, SameRegion as BySameness}
use Rattle.overlay_relations.specs.declared.region.Region.{Region}

-- The relation by which pairs are chosen. The last three hold of shapes whose interiors meet alone, since every shape covers an empty one.
abbrev pub IsRelated : Predicate → Relation
IsRelated BySharing subject_rule clip_rule subject clip = SharePoint subject_rule clip_rule subject clip
IsRelated ByMeeting subject_rule clip_rule subject clip = InteriorsMeet subject_rule clip_rule subject clip
IsRelated ByTouching subject_rule clip_rule subject clip = Touch subject_rule clip_rule subject clip
IsRelated ByCovering subject_rule clip_rule subject clip = Covers subject_rule clip_rule subject clip × InteriorsMeet subject_rule clip_rule subject clip
IsRelated ByLyingWithin subject_rule clip_rule subject clip = IsWithin subject_rule clip_rule subject clip × InteriorsMeet subject_rule clip_rule subject clip
IsRelated BySameness subject_rule clip_rule subject clip = AreSameRegion subject_rule clip_rule subject clip × InteriorsMeet subject_rule clip_rule subject clip

-- A statement holds exactly if a relation does between any two shapes that have these regions, under a fill rule each.
abbrev pub Says : {I : Type 0} {w : _} {o : _} {e : _} {p : _} → Predicate → Region I w o e p → Region I w o e p → Type 0 → Type 0
Says predicate first second statement =
    (subject_rule clip_rule : FillRule) (subject clip : List (List Point)) → IsRegionOf subject_rule subject first → IsRegionOf clip_rule clip second →
    statement ↔ IsRelated predicate subject_rule clip_rule subject clip

-- the pair of two numbers
abbrev pub pair_of : ℕ → ℕ → RelatedPair
pair_of i j = record { first = i; second = j }

-- The one pair comes before the other: by the first number, then by the second.
abbrev pub Precedes : RelatedPair → RelatedPair → Type 0
Precedes p q = (p.first < q.first) ⊎ ((p.first ≡ q.first) × (p.second < q.second))

-- The pairs of some first regions, so many as a count says, and of second ones: in order, each once, and exactly those that are related.
pub record AreRelatedPairs {I : Type 0} {w : _} {o : _} {e : _} {p : _} (predicate : Predicate) (count : ℕ) (first second : List (Region I w o e p)) (pairs : List RelatedPair) : Type 0 where
  pub in_order : AllPairs Precedes pairs
  pub numbered : All (λ pair. (pair.first < count) × (pair.second < length second)) pairs
  pub exact : (i j : ℕ) (x y : Region I w o e p) → i < count → j < length second →
      Says predicate (slice_index_or first i x) (slice_index_or second j y) (Contains pairs (pair_of i j))

-- The fault names two regions whose relation was refused, or memory was.
abbrev pub IsPairRefusal : {I : Type 0} {w : _} {o : _} {e : _} {p : _} → List (Region I w o e p) → List (Region I w o e p) → PairFault → Type 0
IsPairRefusal {I} {w} {o} {e} {p} first second (RelationRefused i j cause) =
    (i < length first) × (j < length second)
    × ((x y : Region I w o e p) → IsOverlayRefusal (boundary_of (slice_index_or first i x)) (boundary_of (slice_index_or second j y)) cause)
IsPairRefusal first second Memory = ⊤

-- The box is that of one of the first regions of a list, so many as a count says, with its number.
pub record IsBoxOfSome {I : Type 0} {w : _} {o : _} {e : _} {p : _} (count : ℕ) (regions : List (Region I w o e p)) (numbered : NumberedBox I) : Type 0 where
  pub below : numbered.number < count
  pub is : (x : Region I w o e p) → (slice_index_or regions numbered.number x).bounds ≡ Some numbered.bounds
