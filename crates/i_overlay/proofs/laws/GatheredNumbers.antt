-- The numbers in the table of a split are those that it gathers of the given lines.
use Rattle.std.proofs.Common.{◌≡◌, ◌∙◌, ◌==◌, ℕ, ◌+◌, ◌<◌, ◌≤◌, sym, ap, ap₂, subst, refl, arith, Bool, true, false, if◌then◌else◌, List, [], ◌∷◌, map, length, take, drop, get_or}
use Rattle.std.specs.Prelude.{Option, Vec}
use Rattle.std.specs.Global.{Global}
use Rattle.std.specs.List.{enumerate_from, range_with_len}
use Rattle.std.proofs.lemmas.List.FromFn.{length-range_with_len, get_or-range_with_len}
use Rattle.std.proofs.Common.{drop-cons}
use Rattle.overlay_geometry.specs.Points.{Point, Pair}
use Rattle.overlay_base.specs.EdgeData.{DataSegment, Hooks, without_data, data_join}
use Rattle.overlay_base.specs.Join.{join}
use Rattle.overlay_base.specs.Radius.{exponent_cap}
use Rattle.overlay_base.specs.SegmentOf.{segments_of, data_segments_of}
use Rattle.overlay_base.specs.Segments.{WholeSegment}
use Rattle.overlay_base.specs.declared.segm.segment.Segment.{Segment}
use Rattle.overlay_base.specs.declared.segm.string.ShapeCountString.{ShapeCountString}
use Rattle.overlay_base.proofs.laws.joins.Views.{segments_of-bare}
use Rattle.overlay_base.specs.declared.overlay_core.solver.Solver.{Solver}
use Rattle.overlay_grid.specs.Grid.{Layout}
use Rattle.overlay_cuts.specs.DataPass.{data_after_passes}
use Rattle.overlay_split.specs.RunLooks.{AreRunLooks}
use Rattle.overlay_split.specs.SettingsOf.{settings_of, snap_limit_of, passes_of, looked_of}
use Rattle.overlay_split.specs.declared.split.solver.SplitSolver.{SplitSolver}
use Rattle.overlay_snapping.specs.Chains.{AreSnapCuts}
use Rattle.overlay_snapping.specs.SnapOf.{data_snap}
use Rattle.overlay_contours.specs.Splittings.{Splitting, by_passes, by_snapping}
use Rattle.overlay_contours.specs.declared.rounding.Rounding.{Rounding}
use Rattle.overlay_contours.specs.declared.rounding.Rounding.TheVariants.{HotPixels, Pairwise}
use Rattle.i_overlay.specs.LineNumbers.{gathering, with_number, with_numbers, HaveNumbers}
use Rattle.i_overlay.specs.NumberLists.{IsWhole, numbers_in, named_in, with_index, numbered, gathered}
use Rattle.i_overlay.specs.SplitLists.{HasDataOf, LeavesStoreBy}
use Rattle.i_overlay.specs.SplitterOf.{BoundsLooks}
use Rattle.i_overlay.specs.declared.number_lists.NumberList.{NumberList}
use Rattle.i_overlay.specs.declared.number_lists.NumberLists.{NumberLists}
use Rattle.i_overlay.specs.contracts.number_lists.NumberListOverlayEdgeDataShapeCountString.TheImpl.{ghosts}
use Rattle.i_overlay.proofs.laws.NumberLists.{Names, Grows, grows_same, grows_on, names_later, gathered_grows, gathered_names}
use Rattle.i_overlay.proofs.laws.NumberedPieces.{HooksGather, AreSame, same_join, same_pass_by, same_after}

-- ---- the hooks

listing : Hooks NumberList NumberLists
listing = record {
  reversed = λ lines store. (lines, store);
  split = λ call store. ((call.edge_data, call.edge_data), store);
  merge = λ call store. gathered call.lhs_data call.rhs_data store;
}

gathers : HooksGather listing Names Grows
unfolding listing
gathers = record {
  same = grows_same;
  on = grows_on;
  later = names_later;
  reversed = λ d s l h. (grows_same s, h);
  split = λ call s l h. (grows_same s, h, h);
  merge = λ call s l m h k. (gathered_grows call.lhs_data call.rhs_data s, gathered_names call.lhs_data call.rhs_data s l m h k);
}

AreAlike : NumberLists → List (DataSegment NumberList) → List (DataSegment (List ℕ)) → Type 0
AreAlike s xs ys = AreSame listing Names Grows gathers s xs ys

-- ---- what is given

one_number : (k room : ℕ) → k < room → take 1 (drop k (range_with_len 0 room)) ≡ k ∷ []
one_number k room h =
    let inside : k < length (range_with_len 0 room) = subst (λ (n : ℕ). k < n) (sym (length-range_with_len 0 room)) h in
    let here : get_or (range_with_len 0 room) k 0 ≡ k = get_or-range_with_len 0 room k 0 h ∙ omega arith in
    ap (λ (l : List ℕ). take 1 l) (drop-cons (range_with_len 0 room) k 0 inside) ∙ ap (λ (n : ℕ). n ∷ []) here

names_start : (s : NumberLists) (room k : ℕ) (none : Bool) → numbers_in s ≡ range_with_len 0 room → k < s.used
    → Names s (record { start = k; count = if none then 0 else 1 }) (if none then [] else k ∷ [])
names_start s room k true is below = λ w. (omega arith, refl)
names_start s room k false is below = λ w.
    let fits : s.used ≤ room = subst (λ (n : ℕ). s.used ≤ n) (ap (λ (l : List ℕ). length l) is ∙ length-range_with_len 0 room) w.fits in
    (omega arith, ap (λ (l : List ℕ). take 1 (drop k l)) is ∙ one_number k room (omega arith))

alike_from : (s : NumberLists) (room k : ℕ) (xs : List WholeSegment) → numbers_in s ≡ range_with_len 0 room → k + length xs ≤ s.used
    → AreAlike s (map (λ e. with_index e.0 e.1) (enumerate_from k xs)) (map (λ e. with_number e.0 e.1) (enumerate_from k xs))
unfolding AreAlike AreSame
alike_from s room k [] is fits = tt
alike_from s room k (x ∷ xs) is fits =
    (record { pair = refl; count = refl; edge_data = names_start s room k (x.count.mask == 0) is (omega arith) }, alike_from s room (k + 1) xs is (omega arith))

-- without numbers it is what is given
bare_from : (k : ℕ) (xs : List WholeSegment) → without_data (map (λ e. with_index e.0 e.1) (enumerate_from k xs)) ≡ xs
bare_from k [] = refl
bare_from k (x ∷ xs) = ap (λ (l : List WholeSegment). x ∷ l) (bare_from (k + 1) xs)

pub bare_numbered : (xs : List WholeSegment) → without_data (numbered xs) ≡ xs
bare_numbered xs = bare_from 0 xs

pub bare_by : {C I : Type 0} {m : _} {w : _} {o : _} {e : _} {p : _} (list : Vec (Segment C I NumberList m w o e p) Global) (given : List WholeSegment) → data_segments_of list.items ≡ numbered given → segments_of list.items ≡ given
bare_by list given is = segments_of-bare list.items ∙ ap (λ xs. without_data xs) is ∙ bare_numbered given

-- ---- what is left

-- a segment with the numbers that its list names
abbrev pub told_by : NumberLists → DataSegment NumberList → DataSegment (List ℕ)
told_by s x = record { pair = x.pair; count = x.count; edge_data = named_in (numbers_in s) x.edge_data }

told_all : (s : NumberLists) → IsWhole s → (xs : List (DataSegment NumberList)) (ys : List (DataSegment (List ℕ))) → AreAlike s xs ys → map (told_by s) xs ≡ ys
unfolding AreAlike AreSame
told_all s w [] [] h = refl
told_all s w [] (y ∷ ys) h = absurd h
told_all s w (x ∷ xs) [] h = absurd h
told_all s w (x ∷ xs) (y ∷ ys) h =
    let one : ◌≡◌ {A = DataSegment (List ℕ)} (told_by s x) y = λ i. record { pair = h.0.pair i; count = h.0.count i; edge_data = (h.0.edge_data w).1 i } in
    ap₂ (λ (r : DataSegment (List ℕ)) (rs : List (DataSegment (List ℕ))). r ∷ rs) one (told_all s w xs ys h.1)

pub bare_told : (s : NumberLists) (xs : List (DataSegment NumberList)) → without_data (map (told_by s) xs) ≡ without_data xs
bare_told s [] = refl
bare_told s (x ∷ xs) = ap (λ (l : List WholeSegment). record { pair = x.pair; count = x.count } ∷ l) (bare_told s xs)

pub told_numbers : (s : NumberLists) (xs : List (DataSegment NumberList)) → map (λ y. y.edge_data) (map (told_by s) xs) ≡ map (λ x. named_in (numbers_in s) x.edge_data) xs
told_numbers s [] = refl
told_numbers s (x ∷ xs) = ap (λ (l : List (List ℕ)). named_in (numbers_in s) x.edge_data ∷ l) (told_numbers s xs)

-- ---- a split

module _ (given : List WholeSegment) (s : NumberLists) (room : ℕ) (is : numbers_in s ≡ range_with_len 0 room) (used : s.used ≡ length given) where
  start : AreAlike s (numbered given) (with_numbers given)
  start = alike_from s room 0 given is (omega arith)

  by_snap : (on : Pair → List Point) → IsWhole (data_snap listing on (numbered given) s).1
      → map (told_by (data_snap listing on (numbered given) s).1) (data_snap listing on (numbered given) s).0 ≡ (data_snap gathering on (with_numbers given) tt).0
  unfolding AreAlike
  by_snap on w =
      let joined = same_join listing Names Grows gathers (numbered given) (with_numbers given) s start in
      let first = data_join listing (numbered given) s in
      let passed = same_pass_by listing Names Grows gathers on first.0 (data_join gathering (with_numbers given) tt).0 first.1 joined.1 in
      told_all (data_snap listing on (numbered given) s).1 w (data_snap listing on (numbered given) s).0 (data_snap gathering on (with_numbers given) tt).0 passed.1

  by_run : (settings : _) (passes : ℕ) → IsWhole (data_after_passes listing settings (numbered given) s passes).1
      → map (told_by (data_after_passes listing settings (numbered given) s passes).1) (data_after_passes listing settings (numbered given) s passes).0 ≡ (data_after_passes gathering settings (with_numbers given) tt passes).0
  unfolding AreAlike
  by_run settings passes w =
      told_all (data_after_passes listing settings (numbered given) s passes).1 w (data_after_passes listing settings (numbered given) s passes).0 (data_after_passes gathering settings (with_numbers given) tt passes).0
      (same_after listing Names Grows gathers settings (numbered given) (with_numbers given) s passes start).1

  -- so the list of code has the numbers that are gathered
  pub has_numbers : {I : Type 0} {m : _} {w : _} {o : _} {e : _} {p : _} (splitting : Splitting) (passes : ℕ) (before after : Vec (Segment ShapeCountString I NumberList m w o e p) Global) (left : NumberLists)
      → data_segments_of before.items ≡ numbered given → segments_of before.items ≡ given → HasDataOf ghosts (λ t. t ≡ s) splitting passes before after → LeavesStoreBy ghosts splitting passes before s left → IsWhole left
      → HaveNumbers splitting passes given (map (told_by left) (data_segments_of after.items))
  unfolding listing
  has_numbers (by_passes settings) passes before after left same bare (store, first, made) leaves whole =
      let made' = made ∙ ap₂ (λ xs t. (data_after_passes listing settings xs t passes).0) same first in
      let left' = leaves ∙ ap (λ xs. (data_after_passes listing settings xs s passes).1) same in
      ap₂ (λ t xs. map (told_by t) xs) left' made' ∙ by_run settings passes (subst IsWhole left' whole)
  has_numbers by_snapping passes before after left same bare (store, first, made) leaves whole = λ on cuts.
      let cuts' = subst (λ (g : List WholeSegment). AreSnapCuts (join g) on) (sym bare) cuts in
      let made' = made on cuts' ∙ ap₂ (λ xs t. (data_snap listing on xs t).0) same first in
      let left' = leaves on cuts' ∙ ap (λ xs. (data_snap listing on xs s).1) same in
      ap₂ (λ t xs. map (told_by t) xs) left' made' ∙ by_snap on (subst IsWhole left' whole)

-- ---- the looks

-- What bounds the looks of passes speaks of the segments alone, whatever their data is.
pub looks_alike : {C I D E : Type 0} {m : _} {w : _} {o : _} {e : _} {p : _} (r : Rounding) (solver : Solver) (before after : SplitSolver I) (xs : Vec (Segment C I D m w o e p) Global) (ys : Vec (Segment C I E m w o e p) Global) →
    segments_of xs.items ≡ segments_of ys.items → BoundsLooks r solver before after xs → BoundsLooks r solver before after ys
looks_alike HotPixels solver before after xs ys same h = h
looks_alike {w = w} Pairwise solver before after xs ys same h =
    subst (λ (l : List WholeSegment). (grid : Option Layout) × AreRunLooks solver.strategy (settings_of w.BITS solver before) l grid (passes_of after) (looked_of after)) same h

-- nor does it depend on more of the splitter before than how it rounds and how many passes may snap
looks_set : {C I D : Type 0} {m : _} {w : _} {o : _} {e : _} {p : _} (r : Rounding) (solver : Solver) (before mid after : SplitSolver I) → snap_limit_of mid ≡ snap_limit_of before → (xs : Vec (Segment C I D m w o e p) Global) →
    BoundsLooks r solver mid after xs → BoundsLooks r solver before after xs
looks_set HotPixels solver before mid after same xs h = h
looks_set {w = w} Pairwise solver before mid after same xs h =
    subst (λ (n : ℕ). (grid : Option Layout) × AreRunLooks solver.strategy (record { start = solver.precision.start; progression = solver.precision.progression; cap = exponent_cap w.BITS; limit = n }) (segments_of xs.items) grid (passes_of after) (looked_of after)) same h

pub looks_again : {C I D : Type 0} {m : _} {w : _} {o : _} {e : _} {p : _} (r other : Rounding) → other ≡ r → (solver : Solver) (before mid after : SplitSolver I) → snap_limit_of mid ≡ snap_limit_of before →
    (xs ys : Vec (Segment C I D m w o e p) Global) → xs ≡ ys → BoundsLooks other solver mid after xs → BoundsLooks r solver before after ys
looks_again r other e solver before mid after same xs ys is h =
    looks_set r solver before mid after same ys (subst (λ (v : Vec _ Global). BoundsLooks r solver mid after v) is (subst (λ (q : Rounding). BoundsLooks q solver mid after xs) e h))
