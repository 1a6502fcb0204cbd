-- Contours that lie in one tile wind around no point of another tile, if the two are apart by a line along an axis.
use Rattle.std.proofs.Common.{◌≡◌, refl, ap, ap₂, ◌∙◌, Bool, false, ◌&&◌, arith, List, [], ◌∷◌, ◌++◌}
use Rattle.std.specs.Prelude.{ℤ, pos, ◌+ℤ◌, ◌-ℤ◌, ◌*ℤ◌, ◌≤ℤ◌, ◌<ℤ◌, int_le, int_lt, All}
use Rattle.std.specs.List.{AllByRecursion}
use Rattle.std.proofs.lemmas.Int.{ints}
use Rattle.std.proofs.lemmas.List.Elements.{recursion_from_All}
use Rattle.overlay_geometry.specs.Points.{Point, Pair}
use Rattle.overlay_geometry.proofs.laws.integers.Tests.{le-test_false, lt-test_false, le_through, lt_through}
use Rattle.overlay_geometry.proofs.laws.integers.Products.{scaled_le}
use Rattle.overlay_geometry.proofs.laws.lists.Lists.{Steps, AllByRecursion-append, AllByRecursion-weaker}
use Rattle.overlay_base.specs.Places.{RationalPoint, spans, runs_below, lies_below}
use Rattle.overlay_base.specs.Sums.{gathered}
use Rattle.overlay_base.proofs.laws.lists.Monoids.{gathered-append}
use Rattle.overlay_base.proofs.laws.joins.Functionals.{whole_numbers_add}
use Rattle.overlay_geometry.specs.Ranges.{Rect}
use Rattle.overlay_contours.specs.Contours.{steps_of, steps, step_winding, winding_number}
use Rattle.overlay_tiles.specs.Tiles.{LiesInTile, on_left, on_right, under, over}
use Rattle.overlay_tiles.specs.Laws.{OthersCountNothing}
use Rattle.overlay_tiles.proofs.laws.Clamps.{and_false, both_met, below_level, above_level}
use Rattle.overlay_tiles.proofs.laws.Bends.{Changes, CountsNothing, changes_add, nothing_adds, counts_change, left_of, last_of_append}
use Rattle.overlay_tiles.proofs.laws.Axes.{counts_nothing}

-- ---- a contour all of whose steps count nothing, or what they change

along_of : (R : Point → Point → Type 0) (P : Point → Type 0) → ((u v : Point) → P u → P v → R u v) → (u : Point) (points : List Point) → P u → AllByRecursion P points → Steps R u points
along_of R P f u [] h k = tt
along_of R P f u (v ∷ points) h k = (f u v h k.0, along_of R P f v points k.0 k.1)

-- a contour winds around p no times
abbrev pub Nothing : RationalPoint → List Point → Type 0
Nothing p c = gathered ◌+ℤ◌ (pos 0) (step_winding p) (steps_of c) ≡ pos 0

contour_none : (p : RationalPoint) (P : Point → Type 0) → ((u v : Point) → P u → P v → CountsNothing p u v) → (c : List Point) → AllByRecursion P c → Nothing p c
contour_none p P f [] h = refl
contour_none p P f (q ∷ points) h = nothing_adds p q (points ++ q ∷ []) (along_of (CountsNothing p) P f q (points ++ q ∷ []) h.0 (AllByRecursion-append P points (q ∷ []) h.1 (h.0, tt)))

contour_round : (p : RationalPoint) (P : Point → Type 0) → ((u v : Point) → P u → P v → Changes p u v) → (c : List Point) → AllByRecursion P c → Nothing p c
contour_round p P f [] h = refl
contour_round p P f (q ∷ points) h =
    changes_add p q (points ++ q ∷ []) (along_of (Changes p) P f q (points ++ q ∷ []) h.0 (AllByRecursion-append P points (q ∷ []) h.1 (h.0, tt)))
    ∙ ap (λ (z : Point). left_of p q -ℤ left_of p z) (last_of_append q q points)
    ∙ nothing (left_of p q)
  where
    nothing : (z : ℤ) → z -ℤ z ≡ pos 0
    nothing z = omega (arith, ints)

pub all_none : (p : RationalPoint) (Q : List Point → Type 0) → ((c : List Point) → Q c → Nothing p c) → (contours : List (List Point)) → AllByRecursion Q contours → gathered ◌+ℤ◌ (pos 0) (step_winding p) (steps contours) ≡ pos 0
all_none p Q f [] h = refl
all_none p Q f (c ∷ contours) h = gathered-append whole_numbers_add (step_winding p) (steps_of c) (steps contours) ∙ ap₂ ◌+ℤ◌ (f c h.0) (all_none p Q f contours h.1)

-- ---- on the four sides

up_to_left : (m : ℤ) (s : Pair) (p : RationalPoint) → (m *ℤ pos p.bottom) ≤ℤ p.x → s.b.x ≤ℤ m → lies_below s p ≡ false
up_to_left m s p at h =
    ap (λ (b : Bool). b && runs_below s p)
    (ap (λ (b : Bool). int_le (s.a.x *ℤ pos p.bottom) p.x && b) (lt-test_false p.x (s.b.x *ℤ pos p.bottom) (le_through _ _ _ (scaled_le s.b.x m p.bottom h) at)) ∙ and_false _)

from_right : (m : ℤ) (s : Pair) (p : RationalPoint) → p.x <ℤ (m *ℤ pos p.bottom) → m ≤ℤ s.a.x → lies_below s p ≡ false
from_right m s p at h =
    ap (λ (b : Bool). b && runs_below s p) (ap (λ (b : Bool). b && int_lt p.x (s.b.x *ℤ pos p.bottom)) (le-test_false (s.a.x *ℤ pos p.bottom) p.x (lt_through _ _ _ at (scaled_le m s.a.x p.bottom h))))

from_above : (m : ℤ) (s : Pair) (p : RationalPoint) → p.y ≤ℤ (m *ℤ pos p.bottom) → m ≤ℤ s.a.y → m ≤ℤ s.b.y → lies_below s p ≡ false
from_above m s p at h k = both_met s p false (above_level m s p h k at) ∙ and_false (spans s p)

module _ (m : ℤ) (p : RationalPoint) (c : List Point) where
  pub left_of_all : (m *ℤ pos p.bottom) ≤ℤ p.x → AllByRecursion (λ q. q.x ≤ℤ m) c → Nothing p c
  left_of_all at all =
      contour_none p (λ q. q.x ≤ℤ m)
      (λ u v h k. counts_nothing p (record { a = u; b = v }) (up_to_left m (record { a = u; b = v }) p at k) (up_to_left m (record { a = v; b = u }) p at h)) c all

  pub right_of_all : p.x <ℤ (m *ℤ pos p.bottom) → AllByRecursion (λ q. m ≤ℤ q.x) c → Nothing p c
  right_of_all at all =
      contour_none p (λ q. m ≤ℤ q.x)
      (λ u v h k. counts_nothing p (record { a = u; b = v }) (from_right m (record { a = u; b = v }) p at h) (from_right m (record { a = v; b = u }) p at k)) c all

  pub above_all : p.y ≤ℤ (m *ℤ pos p.bottom) → AllByRecursion (λ q. m ≤ℤ q.y) c → Nothing p c
  above_all at all =
      contour_none p (λ q. m ≤ℤ q.y)
      (λ u v h k. counts_nothing p (record { a = u; b = v }) (from_above m (record { a = u; b = v }) p at h k) (from_above m (record { a = v; b = u }) p at k h)) c all

  pub below_all : (m *ℤ pos p.bottom) <ℤ p.y → AllByRecursion (λ q. q.y ≤ℤ m) c → Nothing p c
  below_all at all =
      contour_round p (λ q. q.y ≤ℤ m)
      (λ u v h k. counts_change (record { a = u; b = v }) p (below_level m (record { a = u; b = v }) p h k at) (below_level m (record { a = v; b = u }) p k h at)) c all

-- what holds of all points of contours in a tile
pub of_all : (other : Rect) (P : Point → Type 0) → ((q : Point) → LiesInTile other q → P q) → (c : List Point) → All (LiesInTile other) c → AllByRecursion P c
of_all other P f c l = AllByRecursion-weaker (LiesInTile other) P f c (recursion_from_All (LiesInTile other) c l)

pub others_count_nothing : OthersCountNothing
unfolding winding_number
others_count_nothing tile other contours p (on_left h) at all =
    all_none p (All (LiesInTile other))
    (λ c l. left_of_all tile.min_x p c at.from_left (of_all other (λ q. q.x ≤ℤ tile.min_x) (λ q k. le_through _ _ _ k.to_right h) c l))
    contours (recursion_from_All (All (LiesInTile other)) contours all)
others_count_nothing tile other contours p (on_right h) at all =
    all_none p (All (LiesInTile other))
    (λ c l. right_of_all tile.max_x p c at.to_right (of_all other (λ q. tile.max_x ≤ℤ q.x) (λ q k. le_through _ _ _ h k.from_left) c l))
    contours (recursion_from_All (All (LiesInTile other)) contours all)
others_count_nothing tile other contours p (over h) at all =
    all_none p (All (LiesInTile other))
    (λ c l. above_all tile.max_y p c at.to_top (of_all other (λ q. tile.max_y ≤ℤ q.y) (λ q k. le_through _ _ _ h k.from_below) c l))
    contours (recursion_from_All (All (LiesInTile other)) contours all)
others_count_nothing tile other contours p (under h) at all =
    all_none p (All (LiesInTile other))
    (λ c l. below_all tile.min_y p c at.from_below (of_all other (λ q. q.y ≤ℤ tile.min_y) (λ q k. le_through _ _ _ k.to_top h) c l))
    contours (recursion_from_All (All (LiesInTile other)) contours all)
