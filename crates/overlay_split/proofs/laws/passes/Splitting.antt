-- Where a run is after so many passes, from one pass to the next, and what holds where it ends or is refused.
use Rattle.std.proofs.Common.{◌≡◌, refl, sym, ap, ap₂, subst, ◌∙◌, ⊎_elim, arith, ℕ, zero, suc, ◌+◌, ◌*◌, ◌-◌, ◌^◌, ◌<◌, ◌≤◌, min, List, [], ◌∷◌, length, Bool, true, false, ◌&&◌, ◌||◌, IsTrue, IsFalse}
use Rattle.std.specs.Prelude.{ℤ, ◌≤ℤ◌, ◌-ℤ◌, unsigned_abs, nat_le, nat_lt}
use Rattle.std.specs.Int.{from_bool}
use Rattle.std.specs.List.{list_all}
use Rattle.std.proofs.lemmas.Bool.{and_parts, and_from, or_from, both_ways, false_from_ne_true, cases_lt, lt-leb, le-leb, cond-true, cond-false, or_left}
use Rattle.std.proofs.lemmas.List.{length-map}
use Rattle.std.proofs.lemmas.List.Sums.{sum_by-cons}
use Rattle.overlay_geometry.specs.Points.{Pair, is_within_box_of}
use Rattle.overlay_geometry.specs.Sorting.{distinct_in_order, stably_sorted, has_repeat}
use Rattle.overlay_geometry.specs.Coordinates.{least_coordinate, greatest_coordinate, greatest_difference}
use Rattle.overlay_base.specs.Segments.{WholeSegment, pairs, ends, is_map, are_ordered}
use Rattle.overlay_base.specs.Join.{summed, join, join_leaves_range, has_equal_pairs}
use Rattle.overlay_base.specs.Planar.{is_planar, is_splittable, is_arranged}
use Rattle.overlay_base.specs.Balance.{KeepsBalance}
use Rattle.overlay_base.specs.EdgeData.{DataSegment, Hooks, without_data, merge_sorted, data_join, IsRefusedJoin}
use Rattle.overlay_base.specs.SegmentOf.{segment_of, segments_of, data_segments_of}
use Rattle.overlay_base.specs.declared.segm.segment.Segment.{Segment}
use Rattle.overlay_intersections.specs.Marks.{Placing, snapping, settling}
use Rattle.overlay_cuts.specs.Pass.{cut, pass}
use Rattle.overlay_intersections.specs.PassMarks.{is_rounded, mark_count}
use Rattle.overlay_cuts.specs.DataPass.{data_cut, data_pass, data_after_passes, data_joined_in, IsStoppedRun}
use Rattle.overlay_cuts.specs.Run.{Settings, placing_of_pass, radius_of_pass, after_passes, goes_on, has_marked, has_changed, IsPassCount, IsRun, leaves_range_within, LeavesRange}
use Rattle.overlay_split.specs.steps.IsAt.{IsAt}
use Rattle.overlay_cuts.specs.ExactInput.{is_exact_input, KeepsCounts}
use Rattle.overlay_cuts.specs.Nearness.{StaysNear, reach_of_pass}
use Rattle.overlay_cuts.specs.Places.{KeepsWinding}
use Rattle.overlay_cuts.specs.Potential.{spread, potential}
use Rattle.overlay_geometry.proofs.laws.geometry.Coordinates.{difference_bound, pair_parts, point_parts}
use Rattle.overlay_base.proofs.laws.joins.Maps.{is_map-join}
use Rattle.overlay_base.proofs.laws.joins.Rests.{is_splittable-parts}
use Rattle.overlay_intersections.proofs.laws.marks.FoundMarks.{or_assoc, or_false}
use Rattle.overlay_cuts.proofs.laws.paths.Maps.{is_map-after_passes}
use Rattle.overlay_split.proofs.laws.paths.Runs.{run_ends}
use Rattle.overlay_split.proofs.laws.paths.Balances.{run_keeps_balance}
use Rattle.overlay_split.proofs.laws.planar.ExactInputs.{exact_input_keeps_counts}
use Rattle.overlay_cuts.proofs.laws.paths.Boxes.{stays_in_box}
use Rattle.overlay_split.proofs.laws.nearness.Coverings.{run_stays_near}
use Rattle.overlay_split.proofs.laws.nearness.Nearness.{reach_of_pass-bounded}
use Rattle.overlay_split.proofs.laws.nearness.Places.{run_keeps_winding}
use Rattle.overlay_split.proofs.laws.paths.Potentials.{settling_lowers}
use Rattle.overlay_split.proofs.laws.planar.PlanarRuns.{run_is_planar, run_is_one}
use Rattle.overlay_split.proofs.laws.planar.Arranged.{arranged_is_unchanged}
use Rattle.overlay_cuts.proofs.laws.passes.DataPasses.{data_after_passes-arranged}
use Rattle.overlay_cuts.proofs.laws.passes.Splittable.{is_splittable-join}
use Rattle.overlay_split.proofs.laws.passes.Splittable.{is_splittable-pass, settling_never_raises}

-- ---- where a run is

module _ (settings : Settings) (given : List WholeSegment) where
  -- the passes so far, and the next one
  pub made_next : (k : ℕ) → ((j : ℕ) → j < k → IsTrue (goes_on settings given j)) → IsTrue (goes_on settings given k) → (j : ℕ) → j < suc k → IsTrue (goes_on settings given j)
  made_next k made goes j h = ⊎_elim (λ (l : j < k). made j l) (λ (l : k ≤ j). let i : k ≡ j = omega arith in subst (λ (i : ℕ). IsTrue (goes_on settings given i)) i goes) (cases_lt j k)

  leaves_later : (k n : ℕ) → IsTrue (leaves_range_within settings given k) → IsTrue (leaves_range_within settings given (k + n))
  unfolding leaves_range_within
  leaves_later k zero h = let e : k + 0 ≡ k = omega arith in rw e h
  leaves_later k (suc n) h = let e : k + suc n ≡ suc (k + n) = omega arith in rw e (or_left (leaves_range_within settings given (k + n)) _ (leaves_later k n h))

  -- sums that are in range so far were in range before
  pub fits_before : (k : ℕ) → IsFalse (leaves_range_within settings given k) → (j : ℕ) → j < suc k → IsFalse (leaves_range_within settings given j)
  fits_before k fits j h = false_from_ne_true _ (λ leaves.
      let e : j + (k - j) ≡ k = omega (arith, h) in
      both_ways (leaves_range_within settings given k) fits (subst (λ (i : ℕ). IsTrue (leaves_range_within settings given i)) e (leaves_later j (k - j) leaves)))

-- a run whose join of the given segments is refused
pub stopped_at_start : {D S : Type 0} (hooks : Hooks D S) (settings : Settings) (data_given : List (DataSegment D)) (from left : S) → IsRefusedJoin hooks data_given from left → IsStoppedRun hooks settings data_given from left
unfolding data_joined_in
stopped_at_start hooks settings data_given from left stopped = record { in_pass = 0; made = λ j h. absurd (omega arith); fits = λ j h. absurd (omega arith); stopped = stopped }

module _ {D S : Type 0} (hooks : Hooks D S) (settings : Settings) (least greatest : ℤ) (given : List WholeSegment) (data_given : List (DataSegment D)) (from : S) where
  -- before the first pass
  pub at_start : (now : List WholeSegment) (data_now : List (DataSegment D)) (store : S) (changed goes : Bool) → IsTrue (are_ordered given) → IsTrue (is_splittable least greatest given) → now ≡ join given →
      data_now ≡ (data_join hooks data_given from).0 → store ≡ (data_join hooks data_given from).1 → changed ≡ has_equal_pairs given → goes ≡ nat_le 2 (length now) → IsFalse (join_leaves_range given) →
      IsAt hooks settings least greatest given now data_given data_now from store 0 changed goes
  unfolding after_passes data_after_passes goes_on has_changed has_marked leaves_range_within
  at_start now data_now store changed goes o s e d r c g f =
      let map = is_map-join given o in
      record {
        made = λ j h. absurd (omega arith);
        arrangement_is = e;
        edge_data_is = d;
        store_is = r;
        changed_is = c ∙ or_false (has_equal_pairs given);
        goes_is = g ∙ ap (λ (l : List WholeSegment). nat_le 2 (length l)) e;
        fits = f;
        map = subst (λ (l : List WholeSegment). IsTrue (is_map l)) (sym e) map;
        splittable = subst (λ (l : List WholeSegment). IsTrue (is_splittable least greatest l)) (sym e) (is_splittable-join least greatest given s f map);
      }

  -- one more pass
  pub at_next : (now next : List WholeSegment) (data_now data_next : List (DataSegment D)) (store left : S) (k n : ℕ) (changed goes changed' goes' : Bool) (placing : Placing) → IsTrue (are_ordered given) →
      IsAt hooks settings least greatest given now data_given data_now from store k changed goes → goes ≡ true → n ≡ k + 1 → placing ≡ placing_of_pass settings (suc k) →
      next ≡ pass placing now → data_next ≡ (data_pass hooks placing data_now store).0 → left ≡ (data_pass hooks placing data_now store).1 →
      changed' ≡ (changed || nat_lt 0 (mark_count placing now)) → goes' ≡ (nat_le 2 (length next) && is_rounded now) → IsFalse (join_leaves_range (cut placing now)) →
      IsAt hooks settings least greatest given next data_given data_next from left n changed' goes'
  unfolding after_passes data_after_passes goes_on has_changed has_marked leaves_range_within
  at_next now next data_now data_next store left k n changed goes changed' goes' placing o at g m p e d r c t f =
      subst (λ (i : ℕ). IsAt hooks settings least greatest given next data_given data_next from left i changed' goes') (sym (m ∙ omega arith)) here
    where
      arrived : next ≡ after_passes settings given (suc k)
      arrived = e ∙ ap₂ (λ (q : Placing) (l : List WholeSegment). pass q l) p at.arrangement_is

      with_data : data_pass hooks placing data_now store ≡ data_after_passes hooks settings data_given from (suc k)
      with_data = ap (λ (q : Placing). data_pass hooks q data_now store) p ∙ ap₂ (λ (l : List (DataSegment D)) (s : S). data_pass hooks (placing_of_pass settings (suc k)) l s) at.edge_data_is at.store_is

      marks : nat_lt 0 (mark_count placing now) ≡ nat_lt 0 (mark_count (placing_of_pass settings (suc k)) (after_passes settings given k))
      marks = ap₂ (λ (q : Placing) (l : List WholeSegment). nat_lt 0 (mark_count q l)) p at.arrangement_is

      has_changed_next : changed' ≡ has_changed settings given (suc k)
      has_changed_next = c ∙ ap₂ (λ (a b : Bool). a || b) at.changed_is marks ∙ or_assoc (has_equal_pairs given) (has_marked settings given k) _

      goes_next : goes' ≡ goes_on settings given (suc k)
      goes_next = t ∙ ap₂ (λ (l a : List WholeSegment). nat_le 2 (length l) && is_rounded a) arrived at.arrangement_is

      sums : IsFalse (join_leaves_range (cut (placing_of_pass settings (suc k)) (after_passes settings given k)))
      sums = sym (ap₂ (λ (q : Placing) (l : List WholeSegment). join_leaves_range (cut q l)) p at.arrangement_is) ∙ f

      fits_next : IsFalse (leaves_range_within settings given (suc k))
      fits_next = or_from (leaves_range_within settings given k) _ at.fits sums

      map_next : IsTrue (is_map next)
      map_next = subst (λ (l : List WholeSegment). IsTrue (is_map l)) (sym arrived) (is_map-after_passes settings given (suc k) o)

      here : IsAt hooks settings least greatest given next data_given data_next from left (suc k) changed' goes'
      here = record {
        made = made_next settings given k at.made (sym at.goes_is ∙ g);
        arrangement_is = arrived;
        edge_data_is = d ∙ ap (λ r. r.0) with_data;
        store_is = r ∙ ap (λ r. r.1) with_data;
        changed_is = has_changed_next;
        goes_is = goes_next;
        fits = fits_next;
        map = map_next;
        splittable = subst (λ (l : List WholeSegment). IsTrue (is_splittable least greatest l)) (sym e) (is_splittable-pass least greatest placing now at.splittable f (subst (λ (l : List WholeSegment). IsTrue (is_map l)) e map_next));
      }

  -- a pass that is refused
  pub stopped_at : (now : List WholeSegment) (data_now : List (DataSegment D)) (store : S) (k : ℕ) (changed goes : Bool) (placing : Placing) (left : S) → given ≡ without_data data_given →
      IsAt hooks settings least greatest given now data_given data_now from store k changed goes → goes ≡ true → placing ≡ placing_of_pass settings (suc k) →
      (let pieces : List (DataSegment D) × S = data_cut hooks placing data_now store in IsRefusedJoin hooks pieces.0 pieces.1 left) → IsStoppedRun hooks settings data_given from left
  unfolding data_joined_in
  stopped_at now data_now store k changed goes placing left bare at g p stopped = record {
    in_pass = suc k;
    made = subst (λ (l : List WholeSegment). (j : ℕ) → j < suc k → IsTrue (goes_on settings l j)) bare (made_next settings given k at.made (sym at.goes_is ∙ g));
    fits = subst (λ (l : List WholeSegment). (j : ℕ) → j < suc k → IsFalse (leaves_range_within settings l j)) bare (fits_before settings given k at.fits);
    stopped = subst (λ (r : List (DataSegment D) × S). IsRefusedJoin hooks r.0 r.1 left) pieces stopped;
  }
    where
      pieces : data_cut hooks placing data_now store ≡ data_joined_in hooks settings data_given from (suc k)
      pieces = ap (λ (q : Placing). data_cut hooks q data_now store) p ∙ ap₂ (λ (l : List (DataSegment D)) (s : S). data_cut hooks (placing_of_pass settings (suc k)) l s) at.edge_data_is at.store_is

  -- ---- where it ends

  pub at_end : (now : List WholeSegment) (data_now : List (DataSegment D)) (store : S) (k : ℕ) (changed goes : Bool) →
      IsAt hooks settings least greatest given now data_given data_now from store k changed goes → goes ≡ false → IsAt hooks settings least greatest given now data_given data_now from store k changed false
  at_end now data_now store k changed goes at g = subst (λ (b : Bool). IsAt hooks settings least greatest given now data_given data_now from store k changed b) g at

  pub record HasEnded (now : List WholeSegment) (k : ℕ) (changed : Bool) : Type 0 where
    pub run : IsRun settings given now k changed
    pub arranged : IsTrue (is_arranged least greatest now)
    pub balance : KeepsBalance given now
    pub in_box : IsTrue (list_all (λ p. is_within_box_of (ends (pairs (join given))) p) (ends (pairs now)))
    pub exact_input : IsTrue (is_exact_input given) → KeepsCounts given now
    pub near : StaysNear settings given now k
    pub winding : KeepsWinding settings given now k
    pub bound : k ≤ settings.limit + potential (after_passes settings given settings.limit) + 1
    pub fits : LeavesRange settings given → ⊥

  pub has_ended : (now : List WholeSegment) (data_now : List (DataSegment D)) (store : S) (k : ℕ) (changed goes : Bool) → IsTrue (are_ordered given) →
      IsAt hooks settings least greatest given now data_given data_now from store k changed goes → goes ≡ false → HasEnded now k changed
  unfolding is_arranged
  has_ended now data_now store k changed goes o at g =
      let stops : IsFalse (goes_on settings given k) = sym at.goes_is ∙ g in
      let count : IsPassCount settings given k = record { made = at.made; no_more = stops } in
      let run : IsRun settings given now k changed = record { count = count; arrangement = at.arrangement_is; changed = at.changed_is } in
      let planar = run_is_planar settings given now k changed o run in
      let end = run_ends settings given o in
      record {
        run = run;
        arranged = and_from _ _ (and_from _ _ at.map at.splittable) planar.1;
        balance = run_keeps_balance settings given now k changed run;
        in_box = subst (λ (l : List WholeSegment). IsTrue (list_all (λ p. is_within_box_of (ends (pairs (join given))) p) (ends (pairs l)))) (sym at.arrangement_is) (stays_in_box settings given k);
        exact_input = λ exact. exact_input_keeps_counts settings given now k changed o exact run;
        near = subst (λ (l : List WholeSegment). StaysNear settings given l k) (sym at.arrangement_is) (run_stays_near settings given k o);
        winding = subst (λ (l : List WholeSegment). KeepsWinding settings given l k) (sym at.arrangement_is) (run_keeps_winding settings given k o);
        bound = ⊎_elim (λ (l : end.0 < k). absurd (both_ways (goes_on settings given end.0) end.1.no_more (at.made end.0 l))) (λ (l : k ≤ end.0). let b = end.2 in omega (arith, b, l)) (cases_lt end.0 k);
        fits = λ leaves. ⊎_elim (λ (l : k < leaves.0). both_ways (goes_on settings given k) stops (leaves.1 k l))
            (λ (l : leaves.0 ≤ k). both_ways (leaves_range_within settings given leaves.0) (fits_before settings given k at.fits leaves.0 (omega (arith, l))) leaves.2)
            (cases_lt k leaves.0);
      }

  -- an arranged list stays as it is
  pub stays_arranged : (now : List WholeSegment) (data_now : List (DataSegment D)) (store : S) (k : ℕ) (changed goes : Bool) → given ≡ without_data data_given → IsTrue (is_arranged least greatest given) → IsTrue (are_ordered given) →
      IsAt hooks settings least greatest given now data_given data_now from store k changed goes → goes ≡ false → (changed ≡ false) × (data_now ≡ data_given) × (store ≡ from)
  unfolding is_arranged
  stays_arranged now data_now store k changed goes bare a o at g =
      let parts = and_parts _ _ a in
      let map = (and_parts _ _ parts.0).0 in
      let one = run_is_one settings given now given k _ changed false (has_ended now data_now store k changed goes o at g).run (arranged_is_unchanged settings given map parts.1) in
      let same = data_after_passes-arranged hooks settings data_given from k (subst (λ (l : List WholeSegment). IsTrue (is_map l)) bare map) (subst (λ (l : List WholeSegment). IsTrue (is_planar l)) bare parts.1) in
      (one.2, at.edge_data_is ∙ ap (λ r. r.0) same, at.store_is ∙ ap (λ r. r.1) same)

-- an empty list stays as it is
pub at_rest : {D S : Type 0} (hooks : Hooks D S) (settings : Settings) (least greatest : ℤ) (given : List WholeSegment) (data_given : List (DataSegment D)) (from : S) → length given ≡ 0 → length data_given ≡ 0 →
    IsAt hooks settings least greatest given given data_given data_given from from 0 false false
unfolding join summed distinct_in_order data_join stably_sorted merge_sorted join_leaves_range is_splittable has_repeat
at_rest hooks settings least greatest [] [] from h k = at_start hooks settings least greatest [] [] from [] [] from false false refl refl refl refl refl refl refl refl
at_rest hooks settings least greatest (s ∷ given) data_given from h k = absurd (omega (arith, h))
at_rest hooks settings least greatest [] (s ∷ data_given) from h k = absurd (omega (arith, k))

-- ---- the radius, and the kind of a pass

-- an exponent that stops at a greatest number, which is beyond the cap
capped : (n most current cap : ℕ) → current ≡ min n most → cap ≤ most → min current cap ≡ min n cap
capped n most current cap e h = omega (arith, e, h)

snaps : (settings : Settings) (k current : ℕ) → k < settings.limit → min current settings.cap ≡ min (settings.start + k * settings.progression) settings.cap → snapping (2 ^ min current settings.cap) ≡ placing_of_pass settings (suc k)
unfolding placing_of_pass
snaps settings k current h e =
    let one : suc k - 1 ≡ k = omega arith in
    sym (cond-true (nat_le (suc k) settings.limit) (snapping (radius_of_pass settings (suc k))) settling (le-leb (suc k) settings.limit (omega (arith, h)))
    ∙ ap (λ (i : ℕ). snapping (2 ^ min (settings.start + i * settings.progression) settings.cap)) one
    ∙ ap (λ (i : ℕ). snapping (2 ^ i)) (sym e))

settles : (settings : Settings) (k : ℕ) → settings.limit ≤ k → settling ≡ placing_of_pass settings (suc k)
unfolding placing_of_pass
settles settings k h = sym (cond-false (nat_le (suc k) settings.limit) (snapping (radius_of_pass settings (suc k))) settling (lt-leb (suc k) settings.limit (omega (arith, h))))

-- a pass that snaps within a radius that has grown with the passes, up to the limit, and settles after it, is placed as that of the run
pub placed_as : (settings : Settings) (placing : Placing) (limit k current most : ℕ) → limit ≡ settings.limit → settings.cap ≤ most → current ≡ min (settings.start + k * settings.progression) most →
    (k < limit → placing ≡ snapping (2 ^ min current settings.cap)) → (limit ≤ k → placing ≡ settling) → placing ≡ placing_of_pass settings (suc k)
placed_as settings placing limit k current most same l e early late =
    ⊎_elim (λ (h : k < limit). early h ∙ snaps settings k current (omega (arith, h, same)) (capped (settings.start + k * settings.progression) most current settings.cap e l))
    (λ (h : limit ≤ k). late h ∙ settles settings k (omega (arith, h, same)))
    (cases_lt k limit)

pub exponent_grows : (a i n p most e next step : ℕ) → n ≡ i + 1 → e ≡ min (a + i * p) most → step ≡ p → next ≡ min (e + step) most → next ≡ min (a + n * p) most
exponent_grows a i n p most e next step one h k l = let m : n * p ≡ i * p + p = ap (λ (j : ℕ). j * p) one ∙ omega arith in omega (arith, h, k, l, m)

-- ---- segments of a list

-- the test of two segments, on a list and on its whole segments
pub goes_on-is : {C I D : Type 0} {m : _} {w : _} {o : _} {e : _} {p : _} (xs : List (Segment C I D m w o e p)) (goes rounded : Bool) → goes ≡ (nat_le 2 (length xs) && rounded) → goes ≡ (nat_le 2 (length (segments_of xs)) && rounded)
goes_on-is xs goes rounded h = h ∙ ap (λ (n : ℕ). nat_le 2 n && rounded) (sym (length-map xs (λ s. segment_of s)))

pub starts-is : {C I D : Type 0} {m : _} {w : _} {o : _} {e : _} {p : _} (xs : List (Segment C I D m w o e p)) (goes : Bool) → goes ≡ nat_le 2 (length xs) → goes ≡ nat_le 2 (length (segments_of xs))
starts-is xs goes h = h ∙ ap (λ (n : ℕ). nat_le 2 n) (sym (length-map xs (λ s. segment_of s)))

pub segments_none : {C I D : Type 0} {m : _} {w : _} {o : _} {e : _} {p : _} (xs : List (Segment C I D m w o e p)) → length xs ≡ 0 → (length (segments_of xs) ≡ 0) × (length (data_segments_of xs) ≡ 0)
segments_none [] h = (refl, refl)
segments_none (x ∷ xs) h = absurd (omega (arith, h))

-- ---- the potential as a measure

pub falls : (now next : List WholeSegment) (goes : Bool) → IsTrue (is_map now) → next ≡ pass settling now → goes ≡ (nat_le 2 (length next) && is_rounded now) → potential next + from_bool goes < potential now + 1
falls now next true map e g =
    let rounded : IsTrue (is_rounded now) = (and_parts (nat_le 2 (length next)) (is_rounded now) (sym g)).1 in
    let l = settling_lowers now map rounded in
    let p = ap (λ (s : List WholeSegment). potential s) e in
    omega (arith, l.0, l.1, p)
falls now next false map e g =
    let l = settling_never_raises now map in
    let p = ap (λ (s : List WholeSegment). potential s) e in
    omega (arith, l, p)

potential-more : (s : WholeSegment) (segments : List WholeSegment) → potential (s ∷ segments) ≡ spread s.pair + potential segments
unfolding potential
potential-more s segments = sum_by-cons (λ p. spread p.pair) s segments

spread_bound : (s : Pair) (n : ℕ) → unsigned_abs (s.b.x -ℤ s.a.x) ≤ n → unsigned_abs (s.b.y -ℤ s.a.y) ≤ n → spread s ≤ 2 * n
unfolding spread
spread_bound s n h k = omega (arith, h, k)

pub falls_from : (now next : List WholeSegment) (was goes : Bool) → was ≡ true → IsTrue (is_map now) → next ≡ pass settling now → goes ≡ (nat_le 2 (length next) && is_rounded now) → potential next + from_bool goes < potential now + from_bool was
falls_from now next true goes t map e g = falls now next goes map e g
falls_from now next false goes t map e g = absurd (both_ways false refl t)

at_most_one : (b : Bool) → from_bool b ≤ 1
at_most_one true = omega arith
at_most_one false = omega arith

-- each pass brings the end nearer: up to the limit by their number, and after it by the potential
pub nears_end : (limit k n : ℕ) (now next : List WholeSegment) (was goes : Bool) (placing : Placing) → was ≡ true → IsTrue (is_map now) → next ≡ pass placing now → goes ≡ (nat_le 2 (length next) && is_rounded now) →
    n ≡ k + 1 → (limit ≤ k → placing ≡ settling) → potential next < 2 ^ 100 → (limit - n) * 2 ^ 127 + potential next + from_bool goes < (limit - k) * 2 ^ 127 + potential now + from_bool was
nears_end limit k n now next was goes placing w map e g one late few =
    let more = at_most_one goes in
    ⊎_elim (λ (h : k < limit). omega (arith, h, one, few, more))
    (λ (h : limit ≤ k). let f = falls_from now next was goes w map (e ∙ ap (λ (q : Placing). pass q now) (late h)) g in omega (arith, h, one, f))
    (cases_lt k limit)

-- up to the limit passes reach at most so far
pub reaches_early : (limit k n before after : ℕ) → n ≡ k + 1 → (k ≤ limit → before ≤ k * 2 ^ 34) → after ≤ before + 2 ^ 34 → n ≤ limit → after ≤ n * 2 ^ 34
reaches_early limit k n before after one early more h = let b = early (omega (arith, one, h)) in omega (arith, one, b, more)

-- so there is room for the number of passes and for how far they reach: after the limit each raises both by at most one
pub keeps_room : (limit k n before after : ℕ) (now next : List WholeSegment) (goes : Bool) (placing : Placing) → IsTrue (is_map now) → next ≡ pass placing now → goes ≡ (nat_le 2 (length next) && is_rounded now) → goes ≡ true →
    n ≡ k + 1 → (limit ≤ k → placing ≡ settling) → limit < 2 ^ 32 → (n ≤ limit → after ≤ n * 2 ^ 34) → after ≡ before + reach_of_pass placing now → potential next < 2 ^ 100 →
    k + before + 2 * potential now < 2 ^ 127 → n + after + 2 * potential next < 2 ^ 127
keeps_room limit k n before after now next goes placing map e g t one late small early far few room =
    ⊎_elim (λ (h : k < limit). let a = early (omega (arith, h, one)) in omega (arith, h, one, small, a, few))
    (λ (h : limit ≤ k).
    let f = falls now next goes map (e ∙ ap (λ (q : Placing). pass q now) (late h)) g in
    let goes_one = ap (λ (b : Bool). from_bool b) t in
    let there : after ≡ before + reach_of_pass settling now = far ∙ ap (λ (q : Placing). before + reach_of_pass q now) (late h) in
    let most = reach_of_pass-bounded settling now in
    omega (arith, f, goes_one, one, there, most, room))
    (cases_lt k limit)

-- a spread is at most two differences of coordinates
potential_bound : (least greatest : ℤ) (segments : List WholeSegment) → least_coordinate ≤ℤ least → greatest ≤ℤ greatest_coordinate → IsTrue (is_splittable least greatest segments) → potential segments ≤ length segments * (2 * greatest_difference)
unfolding potential
potential_bound least greatest [] lo hi h = omega arith
potential_bound least greatest (s ∷ segments) lo hi h =
    let parts = is_splittable-parts least greatest s segments h in
    let pair = pair_parts least greatest s.pair (and_parts _ _ (and_parts _ _ parts.0).0).0 in
    let a = point_parts least greatest s.pair.a pair.0 in
    let b = point_parts least greatest s.pair.b pair.1 in
    let x = difference_bound least greatest s.pair.a.x s.pair.b.x lo hi a.0 b.0 in
    let y = difference_bound least greatest s.pair.a.y s.pair.b.y lo hi a.1 b.1 in
    sums _ _ _ _ (potential-more s segments) (spread_bound s.pair greatest_difference x y) (potential_bound least greatest segments lo hi parts.1)
  where
    sums : (p q r n : ℕ) → p ≡ q + r → q ≤ 2 * greatest_difference → r ≤ n * (2 * greatest_difference) → p ≤ suc n * (2 * greatest_difference)
    sums p q r n e h k = omega (arith, e, h, k)

-- so that of a list, which is in range, is small
pub potential_small : {C I D : Type 0} {m : _} {w : _} {o : _} {e : _} {p : _} (least greatest : ℤ) (xs : List (Segment C I D m w o e p)) → least_coordinate ≤ℤ least → greatest ≤ℤ greatest_coordinate → IsTrue (is_splittable least greatest (segments_of xs)) →
    length xs < 2 ^ 64 → potential (segments_of xs) < 2 ^ 100
potential_small least greatest xs lo hi h l =
    let same = length-map xs (λ s. segment_of s) in
    let few = potential_bound least greatest (segments_of xs) lo hi h in
    omega (arith, few, l, same)
