-- A pass that is not rounded leaves a planar arrangement: its pieces are parts that no mark divides.
use Rattle.std.proofs.Common.{IsTrue, IsFalse, List}
use Rattle.std.specs.List.{list_all, AllByRecursion}
use Rattle.overlay_geometry.specs.Points.{Pair}
use Rattle.overlay_base.specs.Segments.{WholeSegment, pairs, are_ordered}
use Rattle.overlay_geometry.specs.Meeting.{are_apart}
use Rattle.overlay_base.specs.Planar.{is_planar}
use Rattle.overlay_intersections.specs.Marks.{Placing}
use Rattle.overlay_cuts.specs.Pass.{pieces_of, cut, pass}
use Rattle.overlay_intersections.specs.PassMarks.{marks_on, is_rounded}
use Rattle.overlay_cuts.specs.Laws.{ExactPassIsPlanar}
use Rattle.overlay_geometry.proofs.laws.lists.Lists.{AllByRecursion-from_Has, AllByRecursion-weaker, Has, AllByRecursion-at, Has-map, list_all-from_Has, list_all-at, AllByRecursion-map}
use Rattle.overlay_base.proofs.laws.joins.Maps.{are_ordered-map}
use Rattle.overlay_cuts.proofs.laws.planar.Parts.{IsUndivided, undivided_apart}
use Rattle.overlay_cuts.proofs.laws.planar.ExactMarks.{In, In-ordered, has_whole_crossings, marks_on-IsMarked, IsMarked-marks_on}
use Rattle.overlay_cuts.proofs.laws.paths.Cuts.{AllByRecursion-cut, AllByRecursion-join}
use Rattle.overlay_cuts.proofs.laws.planar.OrderedPaths.{pieces_undivided}

-- the pair is a part of one of the pairs, which no mark divides
abbrev pub IsPieceOf : List WholeSegment → Pair → Type 0
IsPieceOf segments p = (s : Pair) × In segments s × IsUndivided (In segments) s p

pub pieces_of_parts : (placing : Placing) (segments : List WholeSegment) → IsTrue (are_ordered segments) → IsFalse (is_rounded segments) → (s : WholeSegment) → Has segments s → AllByRecursion (λ piece. IsUndivided (In segments) s.pair piece.pair) (pieces_of placing segments s)
pieces_of_parts placing segments o h s i =
    let j : In segments s.pair = Has-map (λ (u : WholeSegment). u.pair) segments s i in
    pieces_undivided (In segments) s (marks_on placing segments s.pair) (In-ordered segments o s.pair j) (marks_on-IsMarked placing segments o h s.pair j) (IsMarked-marks_on placing segments o h s.pair j)

pub pieces_of_undivided : (placing : Placing) (segments : List WholeSegment) → IsTrue (are_ordered segments) → IsFalse (is_rounded segments) → (s : WholeSegment) → Has segments s → AllByRecursion (λ piece. IsPieceOf segments piece.pair) (pieces_of placing segments s)
pieces_of_undivided placing segments o h s i =
    let j : In segments s.pair = Has-map (λ (u : WholeSegment). u.pair) segments s i in
    AllByRecursion-weaker (λ piece. IsUndivided (In segments) s.pair piece.pair) (λ piece. IsPieceOf segments piece.pair) (λ piece u. (s.pair, j, u)) (pieces_of placing segments s) (pieces_of_parts placing segments o h s i)

pub pass_undivided : (placing : Placing) (segments : List WholeSegment) → IsTrue (are_ordered segments) → IsFalse (is_rounded segments) → AllByRecursion (λ s. IsPieceOf segments s.pair) (pass placing segments)
unfolding pass
pass_undivided placing segments o h = AllByRecursion-join (IsPieceOf segments) (cut placing segments) (AllByRecursion-cut (λ s. IsPieceOf segments s.pair) (marks_on placing segments) segments (AllByRecursion-from_Has (λ s. AllByRecursion (λ piece. IsPieceOf segments piece.pair) (pieces_of placing segments s)) segments (pieces_of_undivided placing segments o h)))

pub is_planar-from : (segments : List WholeSegment) → ((s t : Pair) → In segments s → In segments t → IsTrue (are_apart s t)) → IsTrue (is_planar segments)
unfolding is_planar
is_planar-from segments h = list_all-from_Has (λ s. list_all (λ t. are_apart s t) (pairs segments)) (pairs segments) (λ s i. list_all-from_Has (λ t. are_apart s t) (pairs segments) (λ t j. h s t i j))

pub is_planar-each : (segments : List WholeSegment) → IsTrue (is_planar segments) → (s t : Pair) → In segments s → In segments t → IsTrue (are_apart s t)
unfolding is_planar
is_planar-each segments h s t i j = list_all-at (λ u. are_apart s u) (pairs segments) t (list_all-at (λ v. list_all (λ u. are_apart v u) (pairs segments)) (pairs segments) s h i) j

-- for any list of ordered pairs
pub pass_is_planar : (placing : Placing) (segments : List WholeSegment) → IsTrue (are_ordered segments) → IsFalse (is_rounded segments) → IsTrue (is_planar (pass placing segments))
pass_is_planar placing segments o h =
    let each = AllByRecursion-map (IsPieceOf segments) (λ (s : WholeSegment). s.pair) (pass placing segments) (pass_undivided placing segments o h) in
    is_planar-from (pass placing segments) (λ p q i j.
    let a = AllByRecursion-at (IsPieceOf segments) (pairs (pass placing segments)) p each i in
    let b = AllByRecursion-at (IsPieceOf segments) (pairs (pass placing segments)) q each j in
    undivided_apart (In segments) a.0 b.0 p q (has_whole_crossings segments o h) a.1 b.1 a.2 b.2)

pub exact_pass_is_planar : ExactPassIsPlanar
exact_pass_is_planar placing segments m h = pass_is_planar placing segments (are_ordered-map segments m) h
