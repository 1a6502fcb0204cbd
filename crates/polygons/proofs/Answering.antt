-- What the program returns, from what its calls do.
use Rattle.std.proofs.Common.{◌≡◌, ◌⊎◌, inl, inr, ℕ, ◌+◌, ℤ, Bool, true, false, not, ◌||◌, if◌then◌else◌, ap, List, [], ◌∷◌, ◌++◌, Ok, Err, refl, sym, ◌∙◌, subst, arith, append-nil}
use Rattle.std.proofs.lemmas.Grind.{common_steps, flat_map-append}
use Rattle.std.proofs.lemmas.List.Elements.{All-contains, Contains-append_right}
use Rattle.std.proofs.lemmas.List.Folds.{list_all-append}
use Rattle.std.proofs.lemmas.List.Elements.{filter-append}
use Rattle.std.specs.Prelude.{IfOk, IfErr, IsFalse, Contains, codes, bytes_eq, flat_map}
use Rattle.std.specs.List.{list_any}
use Rattle.std.specs.declared.result.Result.{Result}
use Rattle.overlay_geometry.specs.Points.{Point}
use Rattle.overlay_geometry.specs.Coordinates.{is_point_in_range}
use Rattle.overlay_base.specs.declared.overlay_core.fill_rule.FillRule.{FillRule}
use Rattle.overlay_base.specs.declared.overlay_core.overlay_rule.OverlayRule.{OverlayRule}
use Rattle.overlay_base.specs.declared.overlay_core.solver.Solver.{Solver}
use Rattle.overlay_base.specs.declared.segm.fault.Fault.{Fault}
use Rattle.overlay_base.specs.declared.segm.fault.Fault.TheVariants.{Memory, CountOutOfRange}
use Rattle.overlay_base.specs.declared.segm.shape_type.ShapeType.{ShapeType}
use Rattle.overlay_base.specs.declared.segm.shape_type.ShapeType.TheVariants.{Subject, Clip}
use Rattle.overlay_contours.specs.Beyond.{IsOverlayBeyond, IsShapeOverlayBeyond, AreOfSplitting}
use Rattle.overlay_contours.specs.Polygons.{IsPolygonOverlay}
use Rattle.overlay_contours.specs.Shapes.{IsShapeOverlay}
use Rattle.overlay_contours.specs.Splittings.{Splitting, by_passes, by_snapping, splitting_for}
use Rattle.overlay_contours.specs.declared.rounding.Rounding.{Rounding}
use Rattle.overlay_contours.specs.declared.rounding.Rounding.TheVariants.{HotPixels, Pairwise}
use Rattle.overlay_contours.specs.Refusals.{of_shape, other_shape, IsReason, CountsLeaveRange}
use Rattle.overlay_text.specs.declared.settings.Engine.{Engine}
use Rattle.overlay_text.specs.declared.settings.Settings.{Settings}
use Rattle.overlay_text.specs.declared.stop.Stop.{Stop}
use Rattle.overlay_text.specs.declared.stop.LineFault.{LineFault}
use Rattle.overlay_text.specs.declared.stop.Stop.TheVariants.{Line, Refused}
use Rattle.overlay_text.specs.Engines.{least_of, greatest_of, engine_bits}
use Rattle.overlay_text.specs.Text.{lines_of, AskInTurn, IsFirstFaultOf}
use Rattle.overlay_text.proofs.TextSteps.{Taken, first_fault}
use Rattle.overlay_text.specs.Words.{setting}
use Rattle.polygons.specs.ContourText.{GivenContour, are_in_range, subject_of, clip_of}
use Rattle.polygons.specs.Run.{IsNotForArrange, Set, is_among, is_flag, without_flags, IsReportedOverlay, AreReportedShapes, IsReadAnswer, IsPolygonsAnswer, overlay_settings, rounding_by, splitting_by, polygons_behavior}
use Rattle.polygons.specs.declared.run.Choices.{Choices}

-- words with one that sets the limit, the radius or the rounding set no settings
pub refuses : (words before : List (List ℕ)) (word : List ℕ) (after : List (List ℕ)) → words ≡ before ++ word ∷ after → (value : List ℕ) × ((word ≡ setting (codes "limit") value) ⊎ (word ≡ setting (codes "radius") value) ⊎ (word ≡ setting (codes "rounding") value)) → (settings : Settings) → ¬ (Set words settings)
refuses words before word after cut sets settings asked =
    let none = All-contains IsNotForArrange words word asked.1 (subst (λ ws. Contains ws word) (sym cut) (Contains-append_right before (word ∷ after) word (0, omega arith, refl))) in
    by_name sets none
  where
    by_name : (value : List ℕ) × ((word ≡ setting (codes "limit") value) ⊎ (word ≡ setting (codes "radius") value) ⊎ (word ≡ setting (codes "rounding") value)) → IsNotForArrange word → ⊥
    by_name (value, inl is) none = none.0 value is
    by_name (value, inr (inl is)) none = none.1 value is
    by_name (value, inr (inr is)) none = none.2 value is

-- ---- flags

pub other_kept : (words : List (List ℕ)) (word : List ℕ) → is_flag word ≡ false → without_flags (words ++ word ∷ []) ≡ without_flags words ++ word ∷ []
other_kept words word plain = filter-append (λ w. not (is_flag w)) words (word ∷ []) ∙ ap (λ l. without_flags words ++ l) (let one : without_flags (word ∷ []) ≡ word ∷ [] = rw plain refl in one)

pub flag_left_out : (words : List (List ℕ)) (word : List ℕ) → is_flag word ≡ true → without_flags (words ++ word ∷ []) ≡ without_flags words
flag_left_out words word chosen = filter-append (λ w. not (is_flag w)) words (word ∷ []) ∙ ap (λ l. without_flags words ++ l) (let none : without_flags (word ∷ []) ≡ [] = rw chosen refl in none) ∙ append-nil (without_flags words)

pub cut_without_flags : (before after : List (List ℕ)) (word : List ℕ) → is_flag word ≡ false → without_flags (before ++ word ∷ after) ≡ without_flags before ++ word ∷ without_flags after
cut_without_flags before after word plain = filter-append (λ w. not (is_flag w)) before (word ∷ after) ∙ ap (λ l. without_flags before ++ l) (let one : without_flags (word ∷ after) ≡ word ∷ without_flags after = rw plain refl in one)

or_true : (b : Bool) → (b || true) ≡ true
or_true true = refl
or_true false = refl

-- a word among others
pub any-here : (is : List ℕ → Bool) (word : List ℕ) (before after : List (List ℕ)) → is word ≡ true → list_any is (before ++ word ∷ after) ≡ true
any-here is word [] after same = rw same refl
any-here is word (b ∷ before) after same = ap (λ e. is b || e) (any-here is word before after same) ∙ or_true (is b)

pub is_among-here : (name word : List ℕ) (before after : List (List ℕ)) → bytes_eq word name ≡ true → is_among (before ++ word ∷ after) name ≡ true
is_among-here name word before after same = any-here (λ w. bytes_eq w name) word before after same

-- the splitting of the rounding that the choices name
pub splitting_is : (bits : ℕ) (choices : Choices) (solver : Solver) (rounding : Rounding) → rounding ≡ rounding_by choices → solver.precision ≡ choices.settings.precision → splitting_for rounding bits solver ≡ splitting_by bits choices
splitting_is bits choices solver rounding is precision = ap (λ (r : Rounding). splitting_for r bits solver) is ∙ by choices.is_pairwise
  where
    by : (b : Bool) → splitting_for (if b then Pairwise else HotPixels) bits solver ≡ (if b then by_passes (overlay_settings bits choices.settings) else by_snapping)
    by true = rw precision refl
    by false = refl

module _ {T : Type 0} (choices : Choices) (engine : Engine) (bytes : List ℕ) (r : Result T Stop) (is : choices.settings.engine ≡ engine) where
  pub text_by_engine : (bytes_of : T → List ℕ) → IfOk r (λ text. IsPolygonsAnswer (least_of engine) (greatest_of engine) (engine_bits engine) choices bytes (Ok (bytes_of text))) → IfOk r (λ text. polygons_behavior.Answers choices bytes (Ok (bytes_of text)))
  text_by_engine bytes_of known = subst (λ e. IfOk r (λ text. IsPolygonsAnswer (least_of e) (greatest_of e) (engine_bits e) choices bytes (Ok (bytes_of text)))) (sym is) known

  pub stop_by_engine : IfErr r (λ stop. (stop ≡ Refused Memory) ⊎ IsPolygonsAnswer (least_of engine) (greatest_of engine) (engine_bits engine) choices bytes (Err stop)) → IfErr r (λ stop. (stop ≡ Refused Memory) ⊎ polygons_behavior.Answers choices bytes (Err stop))
  stop_by_engine known = subst (λ e. IfErr r (λ stop. (stop ≡ Refused Memory) ⊎ IsPolygonsAnswer (least_of e) (greatest_of e) (engine_bits e) choices bytes (Err stop))) (sym is) known

module _ (given : List GivenContour) (points : List Point) where
  pub subject_of-subject : subject_of (given ++ record { shape_type = Subject; points = points } ∷ []) ≡ subject_of given ++ points ∷ []
  subject_of-subject = grind (arith, common_steps, flat_map-append)

  pub subject_of-clip : subject_of (given ++ record { shape_type = Clip; points = points } ∷ []) ≡ subject_of given
  subject_of-clip = grind (arith, common_steps, flat_map-append)

  pub clip_of-subject : clip_of (given ++ record { shape_type = Subject; points = points } ∷ []) ≡ clip_of given
  clip_of-subject = grind (arith, common_steps, flat_map-append)

  pub clip_of-clip : clip_of (given ++ record { shape_type = Clip; points = points } ∷ []) ≡ clip_of given ++ points ∷ []
  clip_of-clip = grind (arith, common_steps, flat_map-append)

-- a point out of range among others
pub one_outside : (least greatest : ℤ) (points before after : List Point) (p : Point) → points ≡ before ++ p ∷ after → IsFalse (is_point_in_range least greatest p) → IsFalse (are_in_range least greatest points)
one_outside least greatest points before after p cut outside = rw (cut, list_all-append) (grind (arith, common_steps, outside))

-- a contour behind those that are kept
pub keeps_more : (shape_type : ShapeType) (points : List Point) (given : List GivenContour) (subject clip subject_then clip_then : List (List Point))
    → of_shape shape_type subject_then clip_then ≡ of_shape shape_type subject clip ++ points ∷ []
    → of_shape (other_shape shape_type) subject_then clip_then ≡ of_shape (other_shape shape_type) subject clip
    → (subject ≡ subject_of given) × (clip ≡ clip_of given)
    → (subject_then ≡ subject_of (given ++ record { shape_type = shape_type; points = points } ∷ [])) × (clip_then ≡ clip_of (given ++ record { shape_type = shape_type; points = points } ∷ []))
keeps_more Subject points given subject clip subject_then clip_then added same kept = (
  added ∙ (ap (λ l. l ++ points ∷ []) kept.0 ∙ sym (subject_of-subject given points)),
  same ∙ (kept.1 ∙ sym (clip_of-subject given points)),
)
keeps_more Clip points given subject clip subject_then clip_then added same kept = (
  same ∙ (kept.0 ∙ sym (subject_of-clip given points)),
  added ∙ (ap (λ l. l ++ points ∷ []) kept.1 ∙ sym (clip_of-clip given points)),
)

module _ (Asks : List ℕ → List GivenContour → Type 0) (HasFault : List ℕ → LineFault → Type 0) (bytes : List ℕ) (Makes : List GivenContour → Result (List ℕ) Stop → Type 0) where
  -- a run that stops where a line is faulty, or where memory is refused
  pub read_stop : (stop : Stop) → (stop ≡ Refused Memory) ⊎ IsFirstFaultOf Asks HasFault (lines_of bytes) stop → (stop ≡ Refused Memory) ⊎ IsReadAnswer Asks HasFault Makes bytes (Err stop)
  read_stop stop (inl memory) = inl memory
  read_stop stop (inr faulty) = inr (inr (stop, faulty, refl))

  module _ (splitting_then run : Splitting) (given : List (List GivenContour)) (subject clip : List (List Point)) (asked : AskInTurn Asks (lines_of bytes) given)
      (is_run : run ≡ splitting_then) (is_subject : subject ≡ subject_of (flat_map (λ cs. cs) given)) (is_clip : clip ≡ clip_of (flat_map (λ cs. cs) given)) where
    -- a refused overlay of the contours that were read
    pub refused : ((answer : Result (List ℕ) Stop) → CountsLeaveRange splitting_then (subject_of (flat_map (λ cs. cs) given)) (clip_of (flat_map (λ cs. cs) given)) × (answer ≡ Err (Refused CountOutOfRange)) → Makes (flat_map (λ cs. cs) given) answer)
        → (fault : Fault) → IsReason run subject clip fault → (Refused fault ≡ Refused Memory) ⊎ IsReadAnswer Asks HasFault Makes bytes (Err (Refused fault))
    refused makes Memory reason = inl refl
    refused makes CountOutOfRange reason = inr (inl (given, asked, makes _ (rw (← is_run, ← is_subject, ← is_clip) reason, refl)))

-- what an overlay reports, of the contours that were read
module _ (run splitting_then : Splitting) (rule : OverlayRule) (fill_rule : FillRule) (given : List GivenContour) (subject clip : List (List Point)) (passes halves : ℕ)
    (is_run : run ≡ splitting_then) (is_subject : subject ≡ subject_of given) (is_clip : clip ≡ clip_of given) (report : AreOfSplitting run subject clip passes halves) where
  pub reported : (contours : List (List Point)) → IsPolygonOverlay run rule fill_rule subject clip contours → IsOverlayBeyond halves rule fill_rule subject clip contours → IsReportedOverlay splitting_then rule fill_rule given contours passes halves
  reported contours overlay beyond = record {
    overlay = rw (← is_run, ← is_subject, ← is_clip) overlay;
    beyond = rw (← is_subject, ← is_clip) beyond;
    report = rw (← is_run, ← is_subject, ← is_clip) report;
  }

  pub reported_shapes : (shapes : List (List (List Point))) → IsShapeOverlay run rule fill_rule subject clip shapes → IsShapeOverlayBeyond halves rule fill_rule subject clip shapes → AreReportedShapes splitting_then rule fill_rule given shapes passes halves
  reported_shapes shapes overlay beyond = record {
    overlay = rw (← is_run, ← is_subject, ← is_clip) overlay;
    beyond = rw (← is_subject, ← is_clip) beyond;
    report = rw (← is_run, ← is_subject, ← is_clip) report;
  }

-- the fault of a line is the first where the lines before it have none
module _ {X : Type 0} (Asks : List ℕ → X → Type 0) (HasFault : List ℕ → LineFault → Type 0) (lines left others : List (List ℕ)) (count number next : ℕ) (asked : List X) (line : List ℕ) where
  pub first_of_lines : Taken Asks lines left count asked → left ≡ line ∷ others → number ≡ next → next ≡ count + 1 → (stop : Stop)
      → (stop ≡ Refused Memory) ⊎ ((fault : LineFault) × (stop ≡ Line number fault) × HasFault line fault) → (stop ≡ Refused Memory) ⊎ IsFirstFaultOf Asks HasFault lines stop
  first_of_lines taken first is_next one_more stop (inl memory) = inl memory
  first_of_lines taken first is_next one_more stop (inr faulty) =
      let told : stop ≡ Line next faulty.0 = faulty.1 ∙ ap (λ n. Line n faulty.0) is_next in
      inr (rw told (first_fault Asks lines left others count next asked line taken first one_more HasFault faulty.0 faulty.2))
