-- What an engine keeps of an overlay, from what the calls below it return.
use Rattle.std.proofs.Common.{◌≡◌, ◌⊎◌, inl, inr, refl, ◌∙◌, ◌≤◌, ◌==◌, ℕ, Bool, true, false, if◌then◌else◌, IsTrue, ap, subst, List, [], map, flat_map, length, Result, Ok, Err}
use Rattle.std.specs.Prelude.{OnErr, IfErr}
use Rattle.std.specs.Result.{IsErrAnd}
use Rattle.overlay_base.specs.Radius.{exponent_cap}
use Rattle.overlay_base.specs.Segments.{WholeSegment}
use Rattle.overlay_base.specs.declared.overlay_core.fill_rule.FillRule.{FillRule}
use Rattle.overlay_base.specs.declared.overlay_core.overlay_rule.OverlayRule.{OverlayRule}
use Rattle.overlay_base.specs.declared.overlay_core.solver.Solver.{Solver}
use Rattle.overlay_cuts.specs.ExactInput.{is_exact_input}
use Rattle.overlay_cuts.specs.Run.{Settings}
use Rattle.overlay_build.specs.Graph.{Graph}
use Rattle.overlay_base.specs.Balance.{IsBalanced}
use Rattle.overlay_base.specs.declared.segm.fault.Fault.{Fault}
use Rattle.overlay_base.specs.declared.segm.fault.Fault.TheVariants.{CountOutOfRange}
use Rattle.i_overlay.specs.Courses.{Course}
use Rattle.i_overlay.specs.FarRegions.{EnclosesOverlayBeyond}
use Rattle.i_overlay.specs.Headline.{IsSplitBy, IsOverlayBy, IsRefusedBy}
use Rattle.i_overlay.specs.SplitLists.{TellsChangeBy}
use Rattle.i_overlay.specs.SplitterOf.{splitting_by}
use Rattle.overlay_c.specs.declared.refusal.Refusal.{Refusal}
use Rattle.overlay_c.specs.declared.refusal.Refusal.TheVariants.{Refused}
use Rattle.overlay_geometry.specs.Points.{Point}
use Rattle.overlay_contours.specs.ArrangementsOf.{IsArrangementOf}
use Rattle.overlay_contours.specs.declared.arrangement.Arrangement.{Arrangement}
use Rattle.overlay_contours.specs.Beyond.{IsOverlayBeyond, IsShapeOverlayBeyond, AreOfSplitting}
use Rattle.overlay_contours.specs.Polygons.{IsPolygonOverlay, ArePolygonOverlays}
use Rattle.overlay_contours.specs.ContourSegments.{overlay_segments}
use Rattle.overlay_contours.specs.Shapes.{IsShapeOverlay}
use Rattle.overlay_contours.specs.Splittings.{Splitting, by_passes, by_snapping, splitting_for, most_halves}
use Rattle.overlay_contours.specs.declared.rounding.Rounding.{Rounding}
use Rattle.overlay_contours.specs.declared.rounding.Rounding.TheVariants.{HotPixels, Pairwise}
use Rattle.overlay_c.specs.Contours.{polygon_splitting}
use Rattle.overlay_c.specs.Records.{settings_by, rounding_of}
use Rattle.overlay_c.specs.declared.records.SettingsRecord.{SettingsRecord}
use Rattle.overlay_build.specs.Laid.{AreLaid}

-- settings of an engine of so many bits, by their parts
abbrev set_to : ℕ → ℕ → ℕ → ℕ → Settings
set_to bits start progression limit = record { start = start; progression = progression; cap = exponent_cap bits; limit = limit }

pub same_settings : (bits s t p q l m : ℕ) → s ≡ t → p ≡ q → l ≡ m → set_to bits s p l ≡ set_to bits t q m
same_settings bits s t p q l m es ep el = λ i. set_to bits (es i) (ep i) (el i)

-- a course by a splitting, and what it reports
abbrev pub course_with : Splitting → ℕ → ℕ → Course
course_with splitting passes halves = record { splitting = splitting; passes = passes; halves = halves }

pub same_splitting_by : (r q : Rounding) (s t : Settings) → r ≡ q → s ≡ t → splitting_by r s ≡ splitting_by q t
same_splitting_by r q s t er es = λ i. splitting_by (er i) (es i)

-- What holds of an overlay, a split or a refusal holds of it by all that is the same.
module _ (s t : Splitting) (passes halves : ℕ) (es : s ≡ t) where
  pub same_overlay : (f g : FillRule) (r : Bool → Bool → Bool) (xs ys segments now : List WholeSegment) (graph : Graph) → f ≡ g → xs ≡ ys → segments ≡ now
      → IsOverlayBy (course_with s passes halves) f r xs segments graph → IsOverlayBy (course_with t passes halves) g r ys now graph
  same_overlay f g r xs ys segments now graph ef ex en o =
      subst (λ u. IsOverlayBy (course_with u passes halves) g r ys now graph) es (subst (λ u. IsOverlayBy (course_with s passes halves) u r ys now graph) ef
      (subst (λ u. IsOverlayBy (course_with s passes halves) f r u now graph) ex (subst (λ u. IsOverlayBy (course_with s passes halves) f r xs u graph) en o)))

  pub same_split : (xs ys segments now : List WholeSegment) → xs ≡ ys → segments ≡ now → IsSplitBy (course_with s passes halves) xs segments → IsSplitBy (course_with t passes halves) ys now
  same_split xs ys segments now ex en o =
      subst (λ u. IsSplitBy (course_with u passes halves) ys now) es (subst (λ u. IsSplitBy (course_with s passes halves) u now) ex
      (subst (λ u. IsSplitBy (course_with s passes halves) xs u) en o))

  pub same_change : (xs ys : List WholeSegment) (flag : Bool) → xs ≡ ys → TellsChangeBy s xs passes flag → TellsChangeBy t ys passes flag
  same_change xs ys flag ex o = subst (λ u. TellsChangeBy u ys passes flag) es (subst (λ u. TellsChangeBy s u passes flag) ex o)

  pub same_refusal : (before earlier : ℕ) (xs ys segments now : List WholeSegment) (fault : Fault) → before ≡ earlier → xs ≡ ys → segments ≡ now
      → IsRefusedBy (course_with s passes halves) before xs segments fault → IsRefusedBy (course_with t passes halves) earlier ys now fault
  same_refusal before earlier xs ys segments now fault eb ex en o =
      subst (λ u. IsRefusedBy (course_with u passes halves) earlier ys now fault) es (subst (λ u. IsRefusedBy (course_with s passes halves) u ys now fault) eb
      (subst (λ u. IsRefusedBy (course_with s passes halves) before u now fault) ex (subst (λ u. IsRefusedBy (course_with s passes halves) before xs u fault) en o)))

pub same_region : (halves : ℕ) (r : OverlayRule) (f g : FillRule) (xs ys : List WholeSegment) (graph : Graph) → f ≡ g → xs ≡ ys
    → (IsBalanced xs → EnclosesOverlayBeyond halves r f xs graph) → IsBalanced ys → EnclosesOverlayBeyond halves r g ys graph
same_region halves r f g xs ys graph ef ex o =
    subst (λ u. IsBalanced ys → EnclosesOverlayBeyond halves r u ys graph) ef (subst (λ u. IsBalanced u → EnclosesOverlayBeyond halves r f u graph) ex o)

-- a refusal of the call below is passed on
pub told_refusal : {A : Type 0} (r : Result A Refusal) (fault : Fault) (course : Course) (before : ℕ) (xs segments : List WholeSegment) → IsErrAnd r (λ e. e ≡ Refused fault) → IsRefusedBy course before xs segments fault
    → IfErr r (λ e. e ≡ Refused CountOutOfRange → IsRefusedBy course before xs segments CountOutOfRange)
told_refusal (Ok x) fault course before xs segments h o = tt
told_refusal (Err e) fault course before xs segments h o =
    λ count. let same : fault ≡ CountOutOfRange = cc in subst (λ (f : Fault). IsRefusedBy course before xs segments f) same o

-- where it was refused, nothing is left, or what the split leaves
pub left_by_refusal : (course : Course) (before : ℕ) (xs segments : List WholeSegment) (fault : Fault) → IsRefusedBy course before xs segments fault → (segments ≡ []) ⊎ IsSplitBy course xs segments
left_by_refusal course before xs segments fault (inl refused) = inl refused.0.emptied
left_by_refusal course before xs segments fault (inr refused) = inr refused.split

pub on_err : {A E : Type 0} {P : Type 0} (r : Result A E) → P → OnErr r P
on_err (Ok x) h = tt
on_err (Err e) h = h

-- lists that are laid, by a list that is the same
pub same_laid : {A : Type 0} (xs ys : List (List A)) (lengths : List ℕ) (all : List A) → xs ≡ ys → lengths ≡ map length xs → all ≡ flat_map (λ list. list) xs → AreLaid ys lengths all
same_laid xs ys lengths all e el ea = (el ∙ ap (λ ls. map length ls) e, ea ∙ ap (λ ls. flat_map (λ list. list) ls) e)

-- the splitting of the rounding of a code
pub same_splitting : (settings : SettingsRecord) (solver : Solver) (rounding : Rounding) → rounding ≡ rounding_of settings.rounding → solver.precision.start ≡ settings.start → solver.precision.progression ≡ settings.progression → splitting_for rounding 32 solver ≡ polygon_splitting settings
same_splitting settings solver rounding is start progression = ap (λ (r : Rounding). splitting_for r 32 solver) is ∙ by (settings.rounding == 0)
  where
    by : (b : Bool) → splitting_for (if b then HotPixels else Pairwise) 32 solver ≡ (if b then by_snapping else by_passes (settings_by 32 settings 256))
    by true = refl
    by false = ap by_passes (same_settings 32 _ _ _ _ 256 256 start progression refl)

-- What holds of an overlay holds of it by all that is the same.
module _ (s t : Splitting) (f g : FillRule) (a b c d : List (List Point)) (es : s ≡ t) (ef : f ≡ g) (ea : a ≡ b) (ec : c ≡ d) where
  pub same_polygons : (r : OverlayRule) (answer : List (List Point)) → IsPolygonOverlay s r f a c answer → IsPolygonOverlay t r g b d answer
  same_polygons r answer o =
      subst (λ u. IsPolygonOverlay u r g b d answer) es (subst (λ u. IsPolygonOverlay s r u b d answer) ef (subst (λ u. IsPolygonOverlay s r f u d answer) ea (subst (λ u. IsPolygonOverlay s r f a u answer) ec o)))

  pub same_rules : (rules : List OverlayRule) (answers : List (List (List Point))) → ArePolygonOverlays s f a c rules answers → ArePolygonOverlays t g b d rules answers
  same_rules rules answers o =
      subst (λ u. ArePolygonOverlays u g b d rules answers) es
      (subst (λ u. ArePolygonOverlays s u b d rules answers) ef (subst (λ u. ArePolygonOverlays s f u d rules answers) ea (subst (λ u. ArePolygonOverlays s f a u rules answers) ec o)))

  pub same_beyond : (halves : ℕ) (r : OverlayRule) (answer : List (List Point)) → IsOverlayBeyond halves r f a c answer → IsOverlayBeyond halves r g b d answer
  same_beyond halves r answer o =
      subst (λ u. IsOverlayBeyond halves r u b d answer) ef (subst (λ u. IsOverlayBeyond halves r f u d answer) ea (subst (λ u. IsOverlayBeyond halves r f a u answer) ec o))

  pub same_shapes : (r : OverlayRule) (shapes : List (List (List Point))) → IsShapeOverlay s r f a c shapes → IsShapeOverlay t r g b d shapes
  same_shapes r shapes o =
      subst (λ u. IsShapeOverlay u r g b d shapes) es (subst (λ u. IsShapeOverlay s r u b d shapes) ef (subst (λ u. IsShapeOverlay s r f u d shapes) ea (subst (λ u. IsShapeOverlay s r f a u shapes) ec o)))

  pub same_shapes_beyond : (halves : ℕ) (r : OverlayRule) (shapes : List (List (List Point))) → IsShapeOverlayBeyond halves r f a c shapes → IsShapeOverlayBeyond halves r g b d shapes
  same_shapes_beyond halves r shapes o =
      subst (λ u. IsShapeOverlayBeyond halves r u b d shapes) ef (subst (λ u. IsShapeOverlayBeyond halves r f u d shapes) ea (subst (λ u. IsShapeOverlayBeyond halves r f a u shapes) ec o))

  pub same_report : (passes halves : ℕ) → AreOfSplitting s a c passes halves → AreOfSplitting t b d passes halves
  same_report passes halves o =
      subst (λ u. AreOfSplitting u b d passes halves) es (subst (λ u. AreOfSplitting s u d passes halves) ea (subst (λ u. AreOfSplitting s a u passes halves) ec o))

  pub same_arrangement : {I : Type 0} {w : _} {o : _} {e : _} {p : _} (arrangement : Arrangement I w o e p) → IsArrangementOf s f a c arrangement → IsArrangementOf t g b d arrangement
  same_arrangement arrangement o =
      subst (λ u. IsArrangementOf u g b d arrangement) es
      (subst (λ u. IsArrangementOf s u b d arrangement) ef (subst (λ u. IsArrangementOf s f u d arrangement) ea (subst (λ u. IsArrangementOf s f a u arrangement) ec o)))

  pub same_bound : (passes halves : ℕ) → halves ≤ most_halves s passes → halves ≤ most_halves t passes
  same_bound passes halves le = subst (λ u. halves ≤ most_halves u passes) es le

  pub same_exact : (halves : ℕ) → (IsTrue (is_exact_input (overlay_segments a c)) → halves ≡ 0) → IsTrue (is_exact_input (overlay_segments b d)) → halves ≡ 0
  same_exact halves known =
      subst (λ u. IsTrue (is_exact_input (overlay_segments u d)) → halves ≡ 0) ea (subst (λ u. IsTrue (is_exact_input (overlay_segments a u)) → halves ≡ 0) ec known)
