-- What callers of a finder need of the points that are added to none: which these are, and that they are in range.
use Rattle.std.proofs.Common.{◌≡◌, sym, ap, subst, ◌∙◌, ℕ, ◌<◌, Bool, true, false, IsTrue, List, [], ◌++◌, map, length, get_or}
use Rattle.std.specs.Prelude.{ℤ, Contains}
use Rattle.std.specs.List.{list_all}
use Rattle.std.proofs.lemmas.Bool.{both_ways}
use Rattle.std.proofs.lemmas.List.Elements.{Contains-get_or}
use Rattle.overlay_geometry.specs.Points.{Point, Pair, is_ordered, lies_on}
use Rattle.overlay_geometry.specs.PointOf.{point_of}
use Rattle.overlay_geometry.specs.Coordinates.{is_point_in_range}
use Rattle.overlay_geometry.specs.declared.geom.point.IntPoint.{IntPoint}
use Rattle.overlay_geometry.proofs.laws.lists.Lists.{Has-map, list_all-at}
use Rattle.overlay_geometry.proofs.laws.lists.Elements.{Contains-from_Has, Has-from_Contains}
use Rattle.overlay_snapping.specs.steps.Closing.{PassesSome}
use Rattle.overlay_snapping.specs.steps.Met.{is_met, AddsAllMet}
use Rattle.overlay_snapping.proofs.laws.closure.Movers.{off_line, passed_is_met, met_is_passed}

-- an item of a list of code
pub item_in : {I : Type 0} (whole : I → ℤ) (xs : List (IntPoint I)) (i : ℕ) (x : IntPoint I) → i < length xs → x ≡ get_or xs i x → Contains (map (point_of whole) xs) (point_of whole x)
item_in whole xs i x within at =
    Contains-from_Has (map (point_of whole) xs) (point_of whole x)
    (Has-map (point_of whole) xs x (Has-from_Contains xs x (subst (λ y. Contains xs y) (sym at) (Contains-get_or xs i x within))))

module _ {I : Type 0} (whole : I → ℤ) (s : Pair) (points : List (IntPoint I)) (none now met : List (IntPoint I)) (empty : none ≡ []) (same : met ≡ now) (adds : AddsAllMet s (map (point_of whole) points) (map (point_of whole) none) (map (point_of whole) now)) where
  listed : map (point_of whole) met ≡ adds.added
  listed = ap (map (point_of whole)) same ∙ adds.is ∙ ap (λ (l : List (IntPoint I)). map (point_of whole) l ++ adds.added) empty

  pub met_only : (c : Point) → Contains (map (point_of whole) met) c → Contains (map (point_of whole) points) c × (is_met s c ≡ true)
  met_only c i = adds.only c (subst (λ (l : List Point). Contains l c) listed i)

  pub met_all : (c : Point) → Contains (map (point_of whole) points) c → IsTrue (is_met s c) → Contains (map (point_of whole) met) c
  met_all c i m = subst (λ (l : List Point). Contains l c) (sym listed) (adds.all c i i m)

pub met_in_range : {I : Type 0} (whole : I → ℤ) (least greatest : ℤ) (s : Pair) (points : List (IntPoint I)) → list_all (is_point_in_range least greatest) (map (point_of whole) points) ≡ true → (none now met : List (IntPoint I)) → none ≡ [] → met ≡ now →
    AddsAllMet s (map (point_of whole) points) (map (point_of whole) none) (map (point_of whole) now) → (i : ℕ) (x : IntPoint I) → i < length met → x ≡ get_or met i x → is_point_in_range least greatest (point_of whole x) ≡ true
met_in_range whole least greatest s points all none now met empty same adds i x within at =
    let r = met_only whole s points none now met empty same adds (point_of whole x) (item_in whole met i x within at) in
    list_all-at (is_point_in_range least greatest) (map (point_of whole) points) (point_of whole x) all (Has-from_Contains (map (point_of whole) points) (point_of whole x) r.0)

pub passes_off : (s : Pair) (points : List Point) (c : Point) → Contains points c → is_met s c ≡ true → lies_on s c ≡ false → PassesSome points s
passes_off s points c i m off = (c, i, met_is_passed s c m off)

pub passes_none : (s : Pair) (points met : List Point) → IsTrue (is_ordered s) → ((c : Point) → Contains points c → IsTrue (is_met s c) → Contains met c) → ((c : Point) → Contains met c → lies_on s c ≡ true) → PassesSome points s → ⊥
passes_none s points met o all on (c, i, p) = both_ways (lies_on s c) (off_line s c p) (on c (all c i (passed_is_met s c o p)))

-- a test that all points of a list pass, at one of them
pub in_range_at : {I : Type 0} (whole : I → ℤ) (test : Point → Bool) (points items : List (IntPoint I)) → items ≡ points → list_all test (map (point_of whole) points) ≡ true → (i : ℕ) (x : IntPoint I) → i < length items → x ≡ get_or items i x → test (point_of whole x) ≡ true
in_range_at whole test points items same all i x within at =
    list_all-at test (map (point_of whole) points) (point_of whole x) all (Has-from_Contains (map (point_of whole) points) (point_of whole x) (subst (λ (l : List (IntPoint _)). Contains (map (point_of whole) l) (point_of whole x)) same (item_in whole items i x within at)))
