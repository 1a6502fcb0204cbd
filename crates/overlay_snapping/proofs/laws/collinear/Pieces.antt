-- A piece that a walk makes, and a list that can be split with one piece more.
use Rattle.std.proofs.Common.{◌≡◌, refl, IsTrue, true, ◌&&◌, List, [], ◌∷◌, ◌++◌}
use Rattle.std.specs.Prelude.{ℤ}
use Rattle.std.specs.List.{list_all}
use Rattle.std.proofs.lemmas.Bool.{and_parts, and_from}
use Rattle.overlay_geometry.specs.Points.{Point, point_lt}
use Rattle.overlay_geometry.specs.Coordinates.{is_point_in_range, is_pair_in_range}
use Rattle.overlay_base.specs.EdgeData.{Hooks, data_piece}
use Rattle.overlay_base.specs.Windings.{Winding, is_valid, is_not_empty}
use Rattle.overlay_base.specs.Segments.{WholeSegment}
use Rattle.overlay_base.specs.Planar.{is_splittable}

pub forward_piece : {D S : Type 0} (hooks : Hooks D S) (count : Winding) (p q : Point) (edge_data : D) (store : S) → IsTrue (point_lt p q) →
    (data_piece hooks count p q edge_data store).0 ≡ record { pair = record { a = p; b = q }; count = count; edge_data = edge_data }
unfolding data_piece
forward_piece hooks count p q edge_data store h = rw (h, data_piece) refl

pub one_more : (least greatest : ℤ) (segments : List WholeSegment) (s : WholeSegment) → IsTrue (is_splittable least greatest segments) →
    IsTrue (is_point_in_range least greatest s.pair.a) → IsTrue (is_point_in_range least greatest s.pair.b) → IsTrue (is_valid s.count) → IsTrue (is_not_empty s.count) →
    IsTrue (is_splittable least greatest (segments ++ s ∷ []))
unfolding is_splittable
one_more least greatest segments s h a b valid filled = all segments h
  where
    usable : IsTrue (is_pair_in_range least greatest s.pair && is_valid s.count && is_not_empty s.count)
    usable = and_from _ _ (and_from _ _ (and_from _ _ a b) valid) filled

    all : (us : List WholeSegment) → list_all (λ s. is_pair_in_range least greatest s.pair && is_valid s.count && is_not_empty s.count) us ≡ true → list_all (λ s. is_pair_in_range least greatest s.pair && is_valid s.count && is_not_empty s.count) (us ++ s ∷ []) ≡ true
    all [] k = and_from _ _ usable refl
    all (u ∷ us) k = let parts = and_parts (is_pair_in_range least greatest u.pair && is_valid u.count && is_not_empty u.count) _ k in and_from _ _ parts.0 (all us parts.1)
