-- What an arrangement of code's segments says of each of them.
use Rattle.std.proofs.Common.{◌≡◌, ap, sym, subst, ◌∙◌, arith, get_or}
use Rattle.std.specs.Prelude.{ℕ, zero, suc, ◌<◌, ℤ, pos, Bool, true, ◌&&◌, List, [], ◌∷◌, map, length}
use Rattle.std.specs.List.{list_all}
use Rattle.std.proofs.lemmas.Bool.{and_parts}
use Rattle.std.proofs.lemmas.List.{length-map, get_or-map}
use Rattle.overlay_geometry.specs.Points.{Pair}
use Rattle.overlay_base.specs.Windings.{is_valid, is_not_empty}
use Rattle.overlay_base.specs.Segments.{WholeSegment}
use Rattle.overlay_base.specs.EdgeData.{DataSegment}
use Rattle.overlay_base.specs.Planar.{is_splittable, is_arranged}
use Rattle.overlay_geometry.specs.Coordinates.{is_point_in_range, is_pair_in_range}
use Rattle.overlay_base.specs.declared.overlay_core.fill_rule.FillRule.{FillRule}
use Rattle.overlay_sweep.specs.Sweep.{Visit}
use Rattle.overlay_sweep.specs.ChainWindings.{HaveColumnWindings}
use Rattle.overlay_base.specs.Balance.{IsBalanced}
use Rattle.overlay_sweep.proofs.laws.columns.Members.{IsArranged, is_arranged as arranged_from}
use Rattle.overlay_sweep.proofs.laws.live.StartPoints.{pair_at}
use Rattle.overlay_sweep.proofs.laws.visits.SweepStates.{start_at}
use Rattle.overlay_sweep.proofs.laws.columns.Tops.{chains_are_columns}
use Rattle.overlay_sweep.proofs.laws.visits.Visits.{IsListed}

pub whole_arranged : (least greatest : ℤ) (xs ss : List WholeSegment) → xs ≡ ss → is_arranged least greatest ss ≡ true → IsArranged xs
unfolding is_arranged
whole_arranged least greatest xs ss e h =
    let outer = and_parts _ _ h in
    let inner = and_parts _ _ outer.0 in
    subst (λ l. IsArranged l) (sym e) (arranged_from ss inner.0 outer.1)

-- with balance the windings are those of the columns
pub column_windings : (least greatest : ℤ) (ss : List WholeSegment) → is_arranged least greatest ss ≡ true → IsBalanced ss → HaveColumnWindings ss
unfolding is_arranged
column_windings least greatest ss h balanced =
    let outer = and_parts _ _ h in
    let inner = and_parts _ _ outer.0 in
    chains_are_columns ss inner.0 outer.1 balanced

all_at : {X : Type 0} (test : X → Bool) (xs : List X) (k : ℕ) (d : X) → list_all test xs ≡ true → k < length xs → test (get_or xs k d) ≡ true
all_at test [] k d h l = absurd (omega (arith, l))
all_at test (x ∷ xs) zero d h l = (and_parts (test x) (list_all test xs) h).0
all_at test (x ∷ xs) (suc k) d h l = all_at test xs k d (and_parts (test x) (list_all test xs) h).1 (omega (arith, l))

-- its ends are in range, its count is valid
pub record IsUsable (least greatest : ℤ) (s : WholeSegment) : Type 0 where
  pub a : is_point_in_range least greatest s.pair.a ≡ true
  pub b : is_point_in_range least greatest s.pair.b ≡ true
  pub count : is_valid s.count ≡ true

pub usable_at : {X : Type 0} (f : X → WholeSegment) (xs : List X) (least greatest : ℤ) → is_arranged least greatest (map f xs) ≡ true → (k : ℕ) (d : X) → k < length xs → IsUsable least greatest (f (get_or xs k d))
unfolding is_arranged is_splittable
usable_at f xs least greatest h k d l =
    let outer = and_parts _ _ h in
    let inner = and_parts _ _ outer.0 in
    let within : k < length (map f xs) = subst (λ n. k < n) (sym (length-map xs f)) l in
    let here = subst (λ s. (is_pair_in_range least greatest s.pair && is_valid s.count && is_not_empty s.count) ≡ true) (get_or-map f xs k d (f d) l) (all_at (λ s. is_pair_in_range least greatest s.pair && is_valid s.count && is_not_empty s.count) (map f xs) k (f d) inner.1 within) in
    let parts = and_parts _ _ here in
    let more = and_parts _ _ parts.0 in
    record { a = (and_parts _ _ more.0).0; b = (and_parts _ _ more.0).1; count = more.1 }

pub usable_item : {X : Type 0} (f : X → WholeSegment) (xs : List X) (least greatest : ℤ) → is_arranged least greatest (map f xs) ≡ true → (k : ℕ) (x : X) → k < length xs → x ≡ get_or xs k x → IsUsable least greatest (f x)
usable_item f xs least greatest h k x l e = subst (λ y. IsUsable least greatest (f y)) (sym e) (usable_at f xs least greatest h k x l)

-- where the segment at a place starts
pub start_is : {X : Type 0} (f : X → WholeSegment) (xs : List X) (whole : List WholeSegment) → whole ≡ map f xs → (k : ℕ) (x : X) → k < length xs → x ≡ get_or xs k x → start_at whole k ≡ (f x).pair.a
start_is f xs whole e k x l same = ap (λ m. start_at m k) e ∙ ap (λ (s : Pair). s.a) (pair_at f xs k x (record { a = record { x = pos 0; y = pos 0 }; b = record { x = pos 0; y = pos 0 } }) l same)

-- the segment of a visit
pub segment_is : {X D : Type 0} (f : X → DataSegment D) (xs : List X) (rule : FillRule) (whole : List WholeSegment) (index : ℕ) (x : X) (v : Visit D) → x ≡ get_or xs index x → index ≡ v.index → IsListed rule whole (map f xs) v → f x ≡ v.segment
segment_is f xs rule whole index x v e same is =
    let within : index < length xs = subst (λ n. index < n) (length-map xs f) (subst (λ n. n < length (map f xs)) (sym same) is.within) in
    ap f e ∙ sym (get_or-map f xs index x (f x) within) ∙ ap (λ n. get_or (map f xs) n (f x)) same ∙ is.segment (f x)

pub index_within : {X D : Type 0} (f : X → DataSegment D) (xs : List X) (rule : FillRule) (whole : List WholeSegment) (index : ℕ) (v : Visit D) → index ≡ v.index → IsListed rule whole (map f xs) v → index < length xs
index_within f xs rule whole index v same is = subst (λ n. index < n) (length-map xs f) (subst (λ n. n < length (map f xs)) (sym same) is.within)
