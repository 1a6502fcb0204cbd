-- The result of a run is a planar arrangement, and a run has one number of passes. To split a result again changes nothing, and on exact input the settings do not matter.
use Rattle.std.proofs.Common.{◌≡◌, sym, ap, ap₂, ◌∙◌, ⊎_elim, subst, not, IsTrue, IsFalse, List, [], ◌∷◌, ◌++◌, filter, take, drop, ℕ, zero, suc, length, nat_le}
use Rattle.std.proofs.lemmas.Bool.{and_cases, both_ways, cases_order, cases_Bool}
use Rattle.overlay_geometry.specs.Points.{Point, Pair, point_cmp, is_end}
use Rattle.overlay_geometry.specs.Sorting.{distinct_in_order}
use Rattle.overlay_base.specs.Segments.{WholeSegment, pairs, is_map, are_ordered}
use Rattle.overlay_base.specs.Join.{join}
use Rattle.overlay_geometry.specs.Meeting.{do_cross}
use Rattle.overlay_base.specs.Planar.{is_planar}
use Rattle.overlay_intersections.specs.Marks.{Placing, ordered_mark, marks_by}
use Rattle.overlay_cuts.specs.Path.{pieces}
use Rattle.overlay_cuts.specs.Pass.{pieces_of, cut_by, pass}
use Rattle.overlay_intersections.specs.PassMarks.{marks_on, is_rounded}
use Rattle.overlay_cuts.specs.Run.{Settings, placing_of_pass, after_passes, goes_on, has_changed, IsPassCount}
use Rattle.overlay_split.specs.Laws.{RunIsOne, RunIsPlanar, ResultIsUnchanged, ExactRunsAgree}
use Rattle.overlay_geometry.proofs.laws.lists.Lists.{Has, Has-map}
use Rattle.overlay_cuts.proofs.laws.paths.Maps.{is_map-after_passes}
use Rattle.overlay_intersections.proofs.laws.crossings.ExactCrossings.{IsCrossingPoint, IsCrossingPoint-unique}
use Rattle.overlay_intersections.proofs.laws.marks.Marks.{marks_at_crossing, marks_at_ends}
use Rattle.overlay_cuts.proofs.laws.planar.ExactMarks.{In, In-mark}
use Rattle.overlay_cuts.proofs.laws.planar.PlanarPasses.{exact_pass_is_planar}
use Rattle.overlay_cuts.proofs.laws.planar.Unmarked.{flat_map-same}
use Rattle.overlay_split.proofs.laws.planar.Arranged.{arranged_is_unchanged}
use Rattle.overlay_split.proofs.laws.planar.ExactInputs.{few_are_planar, one_pass}
use Rattle.overlay_cuts.proofs.laws.planar.ExactInputs.{join_not_rounded, exact_means}

-- where no further pass is made the arrangement is planar
pub stopped_is_planar : (settings : Settings) (given : List WholeSegment) → IsTrue (are_ordered given) → (k : ℕ) → IsFalse (goes_on settings given k) → IsTrue (is_planar (after_passes settings given k))
unfolding goes_on after_passes
stopped_is_planar settings given o zero h = few_are_planar (after_passes settings given zero) h
stopped_is_planar settings given o (suc k) h =
    ⊎_elim (λ few. few_are_planar (after_passes settings given (suc k)) few)
    (λ exact. exact_pass_is_planar (placing_of_pass settings (suc k)) (after_passes settings given k) (is_map-after_passes settings given k o) exact)
    (and_cases (nat_le 2 (length (after_passes settings given (suc k)))) (is_rounded (after_passes settings given k)) h)

pub run_is_planar : RunIsPlanar
run_is_planar settings given result passes flag o run = (
  subst (λ (l : List WholeSegment). IsTrue (is_map l)) (sym run.arrangement) (is_map-after_passes settings given passes o),
  subst (λ (l : List WholeSegment). IsTrue (is_planar l)) (sym run.arrangement) (stopped_is_planar settings given o passes run.count.no_more),
)

pub pass_count_once : (settings : Settings) (given : List WholeSegment) (j k : ℕ) → IsPassCount settings given j → IsPassCount settings given k → j ≡ k
pass_count_once settings given j k m n =
    ⊎_elim (λ same. same)
    (λ apart. absurd (⊎_elim (λ less. both_ways (goes_on settings given j) m.no_more (n.made j less)) (λ more. both_ways (goes_on settings given k) n.no_more (m.made k more)) apart))
    (cases_order j k)

-- so the result and the flag are determined by what is given
pub run_is_one : RunIsOne
run_is_one settings given first second j k b c m n =
    let same = pass_count_once settings given j k m.count n.count in
    (m.arrangement ∙ ap (λ (i : ℕ). after_passes settings given i) same ∙ sym n.arrangement, same, m.changed ∙ ap (λ (i : ℕ). has_changed settings given i) same ∙ sym n.changed)

-- to split a result again, with whatever settings, changes nothing
pub result_is_unchanged : ResultIsUnchanged
result_is_unchanged settings again given result passes flag o run =
    let r = run_is_planar settings given result passes flag o run in
    arranged_is_unchanged again result r.0 r.1

-- ---- on exact input the settings do not matter

marks_alike : (p q : Placing) (s t : Pair) → (IsTrue (do_cross s t) → IsCrossingPoint s t (ordered_mark p s t)) → (IsTrue (do_cross s t) → IsCrossingPoint s t (ordered_mark q s t)) → marks_by p s t ≡ marks_by q s t
marks_alike p q s t first second =
    ⊎_elim
    (λ c.
    let same = IsCrossingPoint-unique s t (ordered_mark p s t) (ordered_mark q s t) c (first c) (second c) in
    marks_at_crossing p s t c ∙ ap (λ (e : Point). filter (λ v. not (is_end s v)) (e ∷ [])) same ∙ sym (marks_at_crossing q s t c))
    (λ c. marks_at_ends p s t c ∙ sym (marks_at_ends q s t c))
    (cases_Bool (do_cross s t))

marks_on_alike : (p q : Placing) (segments : List WholeSegment) → IsFalse (is_rounded segments) → (s : Pair) → In segments s → marks_on p segments s ≡ marks_on q segments s
unfolding marks_on
marks_on_alike p q segments h s i =
    ap (λ (l : List Point). distinct_in_order point_cmp l) (flat_map-same (λ t. marks_by p s t) (λ t. marks_by q s t) (pairs segments) (λ t j.
    marks_alike p q s t (In-mark p segments h s t i j) (In-mark q segments h s t i j)))

pieces_of_alike : (p q : Placing) (segments : List WholeSegment) → IsFalse (is_rounded segments) → (s : WholeSegment) → Has segments s → pieces_of p segments s ≡ pieces_of q segments s
pieces_of_alike p q segments h s i = ap (λ (l : List Point). pieces s l) (marks_on_alike p q segments h s.pair (Has-map (λ (u : WholeSegment). u.pair) segments s i))

pub exact_pass_alike : (p q : Placing) (segments : List WholeSegment) → IsFalse (is_rounded segments) → pass p segments ≡ pass q segments
unfolding pass cut_by
exact_pass_alike p q segments h =
    ap₂ (λ (l : List WholeSegment) (r : List WholeSegment). join (l ++ r))
    (flat_map-same (λ s. take 1 (pieces_of p segments s)) (λ s. take 1 (pieces_of q segments s)) segments (λ s i. ap (λ (l : List WholeSegment). take 1 l) (pieces_of_alike p q segments h s i)))
    (flat_map-same (λ s. drop 1 (pieces_of p segments s)) (λ s. drop 1 (pieces_of q segments s)) segments (λ s i. ap (λ (l : List WholeSegment). drop 1 l) (pieces_of_alike p q segments h s i)))

pub exact_runs_agree : ExactRunsAgree
exact_runs_agree settings other given first second j k b c o x m n =
    let h = exact_means given x in
    let one = one_pass settings given first j o h m.count m.arrangement in
    let two = one_pass other given second k o h n.count n.arrangement in
    one.1 ∙ exact_pass_alike one.0 two.0 (join given) (join_not_rounded given h) ∙ sym two.1
