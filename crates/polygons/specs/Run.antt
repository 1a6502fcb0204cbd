-- What the program makes of the text of its input.
use Rattle.std.specs.Prelude.{◌≡◌, ◌≢◌, ◌⊎◌, ◌||◌, ◌&&◌, ℕ, ℤ, Bool, true, false, not, MatchBool, if◌then◌else◌, List, [], ◌∷◌, ⊤, ◌++◌, All, filter, flat_map, None, Some, Ok, Err, codes, bytes_eq, eqb}
use Rattle.std.specs.List.{list_any, starts_with}
use Rattle.std.specs.declared.result.Result.{Result}
use Rattle.overlay_geometry.specs.Points.{Point}
use Rattle.overlay_base.specs.Radius.{exponent_cap}
use Rattle.overlay_base.specs.declared.overlay_core.fill_rule.FillRule.{FillRule}
use Rattle.overlay_base.specs.declared.overlay_core.overlay_rule.OverlayRule.{OverlayRule}
use Rattle.overlay_base.specs.declared.overlay_core.overlay_rule.OverlayRule.TheVariants.{Intersect, Union, Difference, InverseDifference, Xor}
use Rattle.overlay_base.specs.declared.overlay_core.overlay_rule.OverlayRule.TheVariants.{Subject as SubjectRule, Clip as ClipRule}
use Rattle.overlay_base.specs.declared.segm.fault.Fault.TheVariants.{CountOutOfRange}
use Rattle.overlay_base.specs.declared.segm.shape_type.ShapeType.{ShapeType}
use Rattle.overlay_base.specs.declared.segm.shape_type.ShapeType.TheVariants.{Subject, Clip}
use Rattle.overlay_contours.specs.Beyond.{IsOverlayBeyond, IsShapeOverlayBeyond, AreOfSplitting}
use Rattle.overlay_contours.specs.Polygons.{IsPolygonOverlay}
use Rattle.overlay_contours.specs.Refusals.{CountsLeaveRange}
use Rattle.overlay_contours.specs.Shapes.{IsShapeOverlay}
use Rattle.overlay_contours.specs.Splittings.{Splitting, by_passes, by_snapping}
use Rattle.overlay_contours.specs.declared.rounding.Rounding.{Rounding}
use Rattle.overlay_contours.specs.declared.rounding.Rounding.TheVariants.{HotPixels, Pairwise}
use Rattle.overlay_cuts.specs.Run.{Settings as RunSettings}
use Rattle.overlay_text.specs.declared.settings.Settings.{Settings}
use Rattle.overlay_text.specs.declared.stop.LineFault.{LineFault}
use Rattle.overlay_text.specs.declared.stop.Stop.{Stop}
use Rattle.overlay_text.specs.declared.stop.Stop.TheVariants.{Refused, NoRule}
use Rattle.overlay_text.specs.Engines.{least_of, greatest_of, engine_bits}
use Rattle.overlay_text.specs.Runs.{Behavior}
use Rattle.overlay_text.specs.Text.{lines_of, AskInTurn, IsFirstFaultOf}
use Rattle.overlay_text.specs.Words.{setting, WordsSet}
use Rattle.polygons.specs.ContourText.{GivenContour, AsksForContours, IsFaultyContour, subject_of, clip_of, contour_lines, overlays_text, shape_lines, report_text}
use Rattle.polygons.specs.RelationText.{IsGivenRelation}
use Rattle.polygons.specs.Wkt.{AsksForPolygons, AreFaultyPolygons, multipolygon_line}
use Rattle.polygons.specs.declared.run.Choices.{Choices}

-- the word sets none of the three names that only `arrange` reads
abbrev pub IsNotForArrange : List ℕ → Type 0
IsNotForArrange word =
    ((value : List ℕ) → word ≢ setting (codes "limit") value) × ((value : List ℕ) → word ≢ setting (codes "radius") value)
    × ((value : List ℕ) → word ≢ setting (codes "rounding") value)

-- the words set the settings, and none of them sets such a name
abbrev pub Set : List (List ℕ) → Settings → Type 0
Set words settings = WordsSet words settings × All IsNotForArrange words

-- one of the words is this one
abbrev pub is_among : List (List ℕ) → List ℕ → Bool
is_among words name = list_any (λ word. bytes_eq word name) words

-- a word that adds a rule
abbrev pub adds_rule : List ℕ → Bool
adds_rule word =
    bytes_eq word (codes "also=subject") || (bytes_eq word (codes "also=clip") || (bytes_eq word (codes "also=intersect")
    || (bytes_eq word (codes "also=union") || (bytes_eq word (codes "also=difference") || (bytes_eq word (codes "also=inverse-difference")
    || bytes_eq word (codes "also=xor"))))))

-- a word that chooses something by itself
abbrev pub is_flag : List ℕ → Bool
is_flag word =
    bytes_eq word (codes "shapes") || (bytes_eq word (codes "report") || (bytes_eq word (codes "pairwise")
    || (bytes_eq word (codes "format=wkt") || (bytes_eq word (codes "contours=clip") || (bytes_eq word (codes "relate") || adds_rule word)))))

-- a word that sets the rule
abbrev pub sets_rule : List ℕ → Bool
sets_rule word = starts_with eqb word (codes "rule=")

-- a word that chooses something of an overlay: what its output is, how crossings are rounded, or a rule
abbrev pub is_of_overlay : List ℕ → Bool
is_of_overlay word =
    bytes_eq word (codes "shapes") || (bytes_eq word (codes "report") || (bytes_eq word (codes "pairwise")
    || (adds_rule word || sets_rule word)))

-- one of the words does so
abbrev pub have_overlay_word : List (List ℕ) → Bool
have_overlay_word words = list_any is_of_overlay words

-- the shape of the contours on lines of an output
abbrev pub contour_shape_among : List (List ℕ) → ShapeType
contour_shape_among words = if is_among words (codes "contours=clip") then Clip else Subject

-- of each rule with a name, whether the words add it
abbrev pub others_among : List (List ℕ) → List Bool
others_among words =
    is_among words (codes "also=subject") ∷ is_among words (codes "also=clip") ∷ is_among words (codes "also=intersect")
    ∷ is_among words (codes "also=union") ∷ is_among words (codes "also=difference") ∷ is_among words (codes "also=inverse-difference")
    ∷ is_among words (codes "also=xor") ∷ []

-- whether a rule is added
abbrev pub has_others : Choices → Bool
has_others choices = list_any (λ is_chosen. is_chosen) choices.others

-- whether a rule is added where the output is not of contours as lines alone
abbrev pub is_mixed : Choices → Bool
is_mixed choices = has_others choices && (choices.in_shapes || choices.is_wkt)

-- of these rules those that are added
abbrev pub chosen_of : List OverlayRule → List Bool → List OverlayRule
chosen_of [] flags = []
chosen_of (rule ∷ rules) [] = []
chosen_of (rule ∷ rules) (false ∷ flags) = chosen_of rules flags
chosen_of (rule ∷ rules) (true ∷ flags) = rule ∷ chosen_of rules flags

-- the rules that have names, in the order in which their overlays are written
abbrev pub named_rules : List OverlayRule
named_rules = SubjectRule ∷ ClipRule ∷ Intersect ∷ Union ∷ Difference ∷ InverseDifference ∷ Xor ∷ []

-- the rule that is chosen, and behind it those that are added, in one order whatever the order of the words
abbrev pub rules_by : Choices → OverlayRule → List OverlayRule
rules_by choices rule = rule ∷ chosen_of named_rules choices.others

-- the words but for those that choose something by themselves
abbrev pub without_flags : List (List ℕ) → List (List ℕ)
without_flags words = filter (λ word. not (is_flag word)) words

-- The words make these choices: each of `shapes`, `report`, `pairwise`, `format=wkt`, `relate` and the words that add rules is among them
-- where it is chosen, and the others set the settings. Lines of an output are contours of the subject, and after `contours=clip` of the clip.
-- Rules are added to contours as lines alone. No word of an overlay goes with a relation.
pub record AskFor (words : List (List ℕ)) (choices : Choices) : Type 0 where
  pub in_shapes : choices.in_shapes ≡ is_among words (codes "shapes")
  pub has_report : choices.has_report ≡ is_among words (codes "report")
  pub is_pairwise : choices.is_pairwise ≡ is_among words (codes "pairwise")
  pub is_wkt : choices.is_wkt ≡ is_among words (codes "format=wkt")
  pub contour_shape : choices.contour_shape ≡ contour_shape_among words
  pub others : choices.others ≡ others_among words
  pub is_relation : choices.is_relation ≡ is_among words (codes "relate")
  pub of_lines : is_mixed choices ≡ false
  pub alone : choices.is_relation && have_overlay_word words ≡ false
  pub settings : Set (without_flags words) choices.settings

-- what passes over pairs are set to, in coordinates of that many bits
abbrev pub overlay_settings : ℕ → Settings → RunSettings
overlay_settings bits settings = record {
  start = settings.precision.start;
  progression = settings.precision.progression;
  cap = exponent_cap bits;
  limit = 256;
}

-- how the choices have crossings rounded
abbrev pub rounding_by : Choices → Rounding
rounding_by choices = if choices.is_pairwise then Pairwise else HotPixels

-- how an overlay splits: by snap rounding, or by such passes
abbrev pub splitting_by : ℕ → Choices → Splitting
splitting_by bits choices = if choices.is_pairwise then by_passes (overlay_settings bits choices.settings) else by_snapping

-- The contours are what an overlay of the given ones returns under a rule, after that many passes. Those move things
-- by at most that many halves, and what is said of places holds beyond that distance from the given edges.
pub record IsReportedOverlay (splitting : Splitting) (rule : OverlayRule) (fill_rule : FillRule) (given : List GivenContour) (contours : List (List Point)) (passes halves : ℕ) : Type 0 where
  pub overlay : IsPolygonOverlay splitting rule fill_rule (subject_of given) (clip_of given) contours
  pub beyond : IsOverlayBeyond halves rule fill_rule (subject_of given) (clip_of given) contours
  pub report : AreOfSplitting splitting (subject_of given) (clip_of given) passes halves

-- the same in shapes
pub record AreReportedShapes (splitting : Splitting) (rule : OverlayRule) (fill_rule : FillRule) (given : List GivenContour) (shapes : List (List (List Point))) (passes halves : ℕ) : Type 0 where
  pub overlay : IsShapeOverlay splitting rule fill_rule (subject_of given) (clip_of given) shapes
  pub beyond : IsShapeOverlayBeyond halves rule fill_rule (subject_of given) (clip_of given) shapes
  pub report : AreOfSplitting splitting (subject_of given) (clip_of given) passes halves

-- each of several overlays is so by its rule, and all are after the same passes
abbrev pub AreReportedOverlays : Splitting → FillRule → List GivenContour → ℕ → ℕ → List OverlayRule → List (List (List Point)) → Type 0
AreReportedOverlays splitting fill_rule given passes halves [] [] = ⊤
AreReportedOverlays splitting fill_rule given passes halves [] (contours ∷ overlays) = ⊥
AreReportedOverlays splitting fill_rule given passes halves (rule ∷ rules) [] = ⊥
AreReportedOverlays splitting fill_rule given passes halves (rule ∷ rules) (contours ∷ overlays) =
    IsReportedOverlay splitting rule fill_rule given contours passes halves × AreReportedOverlays splitting fill_rule given passes halves rules overlays

-- what an overlay of the given contours returns under a rule, in coordinates of that many bits
abbrev pub IsOverlayText : ℕ → Choices → OverlayRule → List GivenContour → Result (List ℕ) Stop → Type 0
IsOverlayText bits choices rule given answer =
    ((contours : List (List Point)) × (passes : ℕ) × (halves : ℕ)
    × IsReportedOverlay (splitting_by bits choices) rule choices.settings.fill_rule given contours passes halves
    × (answer ≡ Ok (contour_lines contours ++ report_text choices.has_report passes halves)))
    ⊎ (CountsLeaveRange (splitting_by bits choices) (subject_of given) (clip_of given) × (answer ≡ Err (Refused CountOutOfRange)))

-- the same by several rules, of one split
abbrev pub IsRulesText : ℕ → Choices → List OverlayRule → List GivenContour → Result (List ℕ) Stop → Type 0
IsRulesText bits choices rules given answer =
    ((overlays : List (List (List Point))) × (passes : ℕ) × (halves : ℕ)
    × AreReportedOverlays (splitting_by bits choices) choices.settings.fill_rule given passes halves rules overlays
    × (answer ≡ Ok (overlays_text rules overlays ++ report_text choices.has_report passes halves)))
    ⊎ (CountsLeaveRange (splitting_by bits choices) (subject_of given) (clip_of given) × (answer ≡ Err (Refused CountOutOfRange)))

-- the same in shapes
abbrev pub IsShapesText : ℕ → Choices → OverlayRule → List GivenContour → Result (List ℕ) Stop → Type 0
IsShapesText bits choices rule given answer =
    ((shapes : List (List (List Point))) × (passes : ℕ) × (halves : ℕ)
    × AreReportedShapes (splitting_by bits choices) rule choices.settings.fill_rule given shapes passes halves
    × (answer ≡ Ok (shape_lines shapes ++ report_text choices.has_report passes halves)))
    ⊎ (CountsLeaveRange (splitting_by bits choices) (subject_of given) (clip_of given) × (answer ≡ Err (Refused CountOutOfRange)))

-- the one or the other
abbrev pub IsText : Bool → ℕ → Choices → OverlayRule → List GivenContour → Result (List ℕ) Stop → Type 0
IsText false = IsOverlayText
IsText true = IsShapesText

-- what is made of the contours that the lines of a text describe, or the first fault of its lines
abbrev pub IsReadAnswer : (List ℕ → List GivenContour → Type 0) → (List ℕ → LineFault → Type 0) → (List GivenContour → Result (List ℕ) Stop → Type 0) → List ℕ → Result (List ℕ) Stop → Type 0
IsReadAnswer Asks HasFault Makes bytes answer =
    ((given : List (List GivenContour)) × AskInTurn Asks (lines_of bytes) given × Makes (flat_map (λ contours. contours) given) answer)
    ⊎ ((stop : Stop) × IsFirstFaultOf Asks HasFault (lines_of bytes) stop × (answer ≡ Err stop))

-- what is made of the contours that the lines of a text write, where lines of an output are of that shape, or the first fault of its lines
abbrev pub IsContourAnswer : ShapeType → ℤ → ℤ → (List GivenContour → Result (List ℕ) Stop → Type 0) → List ℕ → Result (List ℕ) Stop → Type 0
IsContourAnswer chosen least greatest Makes bytes answer = IsReadAnswer (AsksForContours chosen least greatest) (IsFaultyContour chosen least greatest) Makes bytes answer

-- what an overlay of the given contours returns under a rule, as a line of WKT
abbrev pub IsWktText : ℕ → Choices → OverlayRule → List GivenContour → Result (List ℕ) Stop → Type 0
IsWktText bits choices rule given answer =
    ((shapes : List (List (List Point))) × (passes : ℕ) × (halves : ℕ)
    × AreReportedShapes (splitting_by bits choices) rule choices.settings.fill_rule given shapes passes halves
    × (answer ≡ Ok (multipolygon_line shapes ++ report_text choices.has_report passes halves)))
    ⊎ (CountsLeaveRange (splitting_by bits choices) (subject_of given) (clip_of given) × (answer ≡ Err (Refused CountOutOfRange)))

-- what is made of the polygons that the lines of a text write as WKT, or the first fault of its lines
abbrev pub IsWktAnswer : ℤ → ℤ → (List GivenContour → Result (List ℕ) Stop → Type 0) → List ℕ → Result (List ℕ) Stop → Type 0
IsWktAnswer least greatest Makes bytes answer = IsReadAnswer (AsksForPolygons least greatest) (AreFaultyPolygons least greatest) Makes bytes answer

-- the overlay of the contours that the lines of a text write: by several rules, as WKT, in shapes or not, or the first fault of its lines
abbrev pub IsRuleAnswer : ℤ → ℤ → ℕ → Choices → OverlayRule → List ℕ → Result (List ℕ) Stop → Type 0
IsRuleAnswer least greatest bits choices rule bytes answer =
    MatchBool (has_others choices) (IsContourAnswer choices.contour_shape least greatest (IsRulesText bits choices (rules_by choices rule)) bytes answer)
    (MatchBool choices.is_wkt (IsWktAnswer least greatest (IsWktText bits choices rule) bytes answer) (IsContourAnswer choices.contour_shape least greatest (IsText choices.in_shapes bits choices rule) bytes answer))

-- the same by the rule that the settings choose, and the stop where they choose none
abbrev pub IsOverlayAnswer : ℤ → ℤ → ℕ → Choices → List ℕ → Result (List ℕ) Stop → Type 0
IsOverlayAnswer least greatest bits choices bytes answer =
    ((rule : OverlayRule) × (choices.settings.rule ≡ Some rule) × IsRuleAnswer least greatest bits choices rule bytes answer)
    ⊎ ((choices.settings.rule ≡ None) × (answer ≡ Err NoRule))

-- the relation of the contours that the lines of a text write, as WKT or not, or the first fault of its lines
abbrev pub IsRelationAnswer : ℤ → ℤ → Choices → List ℕ → Result (List ℕ) Stop → Type 0
IsRelationAnswer least greatest choices bytes answer =
    MatchBool choices.is_wkt (IsWktAnswer least greatest (IsGivenRelation choices.settings.fill_rule) bytes answer)
    (IsContourAnswer choices.contour_shape least greatest (IsGivenRelation choices.settings.fill_rule) bytes answer)

-- that relation, if it is wanted, and else the overlay
abbrev pub IsPolygonsAnswer : ℤ → ℤ → ℕ → Choices → List ℕ → Result (List ℕ) Stop → Type 0
IsPolygonsAnswer least greatest bits choices bytes answer =
    MatchBool choices.is_relation (IsRelationAnswer least greatest choices bytes answer) (IsOverlayAnswer least greatest bits choices bytes answer)

-- which choices words make, and what the result is, in the coordinates of the engine that they choose
abbrev pub polygons_behavior : Behavior Choices
polygons_behavior = record {
  AskFor = AskFor;
  Answers = λ choices bytes answer.
      IsPolygonsAnswer (least_of choices.settings.engine) (greatest_of choices.settings.engine) (engine_bits choices.settings.engine) choices bytes answer;
}
