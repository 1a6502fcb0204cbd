-- Whether two pairs are equal, whether a pair or a point is in a list, and neighbors in order of the pairs.
use Rattle.std.proofs.Common.{◌≡◌, Bool, false, List, ◌∷◌, Less, is_eq, ap, ◌∙◌}
use Rattle.std.specs.Ordering.{ordering_reverse}
use Rattle.std.specs.List.{AllByRecursion, list_any}
use Rattle.overlay_geometry.specs.Points.{Point, Pair, point_cmp, point_eq, pair_cmp, pair_eq}
use Rattle.overlay_geometry.specs.Sorting.{distinct_in_order}
use Rattle.overlay_base.specs.Windings.{add}
use Rattle.overlay_base.specs.Segments.{WholeSegment, pairs}
use Rattle.overlay_geometry.proofs.laws.geometry.Points.{point_cmp_total, pair_cmp_total}
use Rattle.overlay_geometry.proofs.laws.lists.Keys.{has_key-distinct, Less-from_tests, IsInOrder, AllByRecursion-less_in_order, is_eq-reverse}

-- ---- equal pairs

-- a pair that is below another is not equal to it, nor it to that pair
pub pair_eq-less : (s t : Pair) → pair_cmp s t ≡ Less → pair_eq s t ≡ false
pair_eq-less s t h = ap is_eq h

pub pair_eq-greater : (s t : Pair) → pair_cmp t s ≡ Less → pair_eq s t ≡ false
pair_eq-greater s t h = ap is_eq (pair_cmp_total.antisymm s t ∙ ap ordering_reverse h)

pub pair_eq-comm : (s t : Pair) → pair_eq s t ≡ pair_eq t s
pair_eq-comm s t = ap is_eq (pair_cmp_total.antisymm s t) ∙ is_eq-reverse (pair_cmp t s)

-- ---- pairs and points in a list

-- whether q is in a list of pairs
abbrev pub holds : List Pair → Pair → Bool
holds ks q = list_any (λ k. pair_eq q k) ks

-- the distinct pairs are the pairs of the list
pub holds-distinct : (ks : List Pair) (q : Pair) → holds (distinct_in_order pair_cmp ks) q ≡ holds ks q
holds-distinct = has_key-distinct pair_cmp_total

-- whether q is in a list of points
abbrev pub has_point : List Point → Point → Bool
has_point ks q = list_any (λ k. point_eq q k) ks

-- the distinct points are the points of the list
pub has_point-distinct : (ks : List Point) (q : Point) → has_point (distinct_in_order point_cmp ks) q ≡ has_point ks q
has_point-distinct = has_key-distinct point_cmp_total

-- ---- neighbors of a list in order of the pairs

-- two segments on the pair of the first
abbrev pub plus : WholeSegment → WholeSegment → WholeSegment
plus s t = record { pair = s.pair; count = add s.count t.count }

-- a segment whose neighbor has another pair has a pair below all later ones
pub below_rest : (s t : WholeSegment) (ts : List WholeSegment) → IsInOrder pair_cmp (pairs (s ∷ t ∷ ts)) → pair_eq s.pair t.pair ≡ false → AllByRecursion (λ k. pair_cmp s.pair k ≡ Less) (pairs (t ∷ ts))
below_rest s t ts o e =
    let less = Less-from_tests (pair_cmp s.pair t.pair) o.0.0 e in
    (less, AllByRecursion-less_in_order pair_cmp_total s.pair t.pair (pairs ts) less o.1.0)
