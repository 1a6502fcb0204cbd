-- The text of contours: what a line of the input writes, what is wrong with one, and the lines of the output, which are input too.
use Rattle.std.specs.Prelude.{◌≡◌, ◌≢◌, ◌⊎◌, ℕ, ℤ, IsTrue, IsFalse, Bool, true, false, List, [], ◌∷◌, ◌++◌, codes, decimal, flat_map, length, Vec}
use Rattle.std.specs.List.{list_all}
use Rattle.overlay_geometry.specs.Points.{Point}
use Rattle.overlay_geometry.specs.Coordinates.{is_point_in_range}
use Rattle.overlay_base.specs.Rules.{bits_of}
use Rattle.overlay_base.specs.declared.overlay_core.overlay_rule.OverlayRule.{OverlayRule}
use Rattle.overlay_base.specs.declared.overlay_core.overlay_rule.OverlayRule.TheVariants.{Intersect, Union, Difference, InverseDifference, Xor, Table}
use Rattle.overlay_base.specs.declared.overlay_core.overlay_rule.OverlayRule.TheVariants.{Subject as SubjectRule, Clip as ClipRule}
use Rattle.overlay_base.specs.declared.segm.shape_type.ShapeType.{ShapeType}
use Rattle.overlay_base.specs.declared.segm.shape_type.ShapeType.TheVariants.{Subject, Clip}
use Rattle.overlay_text.specs.declared.stop.LineFault.{LineFault}
use Rattle.overlay_text.specs.declared.stop.LineFault.TheVariants.{Form, Range}
use Rattle.overlay_text.specs.Numbers.{WritesNumber}
use Rattle.overlay_text.specs.Output.{pair_text, passes_line}
use Rattle.overlay_text.specs.Text.{words_of_line, NamesShape, lines_of, AskInTurn, IsFirstFaultOf}
use Rattle.std.specs.Global.{Global}
use Rattle.overlay_geometry.specs.declared.geom.point.IntPoint.{IntPoint}
use Rattle.overlay_contours.specs.ShapesOf.{shapes_of}
use Rattle.overlay_contours.specs.ContoursOf.{contours_of}
use Rattle.overlay_contours.specs.Kept.{subject_of as kept_subject, clip_of as kept_clip}
use Rattle.overlay_contours.specs.declared.overlay.Overlay.{Overlay}
use Rattle.overlay_text.specs.declared.stop.Stop.{Stop}

-- a contour of a shape
pub record GivenContour : Type 0 where
  pub shape_type : ShapeType
  pub points : List Point

-- the words are the coordinates of these points, x before y
abbrev pub WritePoints : List (List ℕ) → List Point → Type 0
WritePoints [] points = points ≡ []
WritePoints (x ∷ []) points = ⊥
WritePoints (x ∷ y ∷ words) points =
    (first : Point) × (others : List Point) × (points ≡ first ∷ others) × WritesNumber x first.x × WritesNumber y first.y × WritePoints words others

-- the word names the shape of a contour: `S`, `C`, or `contour`, as lines of the output begin, for the shape that is chosen
abbrev pub NamesContour : ShapeType → List ℕ → ShapeType → Type 0
NamesContour chosen word shape_type = NamesShape word shape_type ⊎ ((word ≡ codes "contour") × (shape_type ≡ chosen))

-- the words are such a word and the coordinates of points, and these are the shape and the points that they write
abbrev pub WriteContour : ShapeType → List (List ℕ) → ShapeType → List Point → Type 0
WriteContour chosen words shape_type points =
    (name : List ℕ) × (numbers : List (List ℕ)) × (words ≡ name ∷ numbers) × NamesContour chosen name shape_type × WritePoints numbers points

abbrev pub are_in_range : ℤ → ℤ → List Point → Bool
are_in_range least greatest points = list_all (is_point_in_range least greatest) points

-- the line is `shape`, as one of the output before the contours of a shape
abbrev pub IsShapeLine : List ℕ → Type 0
IsShapeLine line = words_of_line line ≡ codes "shape" ∷ []

-- the line writes this contour, which has not two points, and its points are in range
abbrev pub AsksForContour : ShapeType → ℤ → ℤ → List ℕ → GivenContour → Type 0
AsksForContour chosen least greatest line contour =
    WriteContour chosen (words_of_line line) contour.shape_type contour.points × (length contour.points ≢ 2) × IsTrue (are_in_range least greatest contour.points)

-- the line writes one contour, or none where it is `shape`
abbrev pub AsksForContours : ShapeType → ℤ → ℤ → List ℕ → List GivenContour → Type 0
AsksForContours chosen least greatest line contours =
    (IsShapeLine line × (contours ≡ []))
    ⊎ ((contour : GivenContour) × AsksForContour chosen least greatest line contour × (contours ≡ contour ∷ []))

-- what is wrong with a line: it has words, not `shape` alone, that write no contour, or a contour of two points, or a point of the contour
-- that it writes is out of range
abbrev pub IsFaultyContour : ShapeType → ℤ → ℤ → List ℕ → LineFault → Type 0
IsFaultyContour chosen least greatest line fault =
    ((fault ≡ Form) × (words_of_line line ≢ []) × (¬ (IsShapeLine line))
    × ((shape_type : ShapeType) (points : List Point) → ¬ (WriteContour chosen (words_of_line line) shape_type points)))
    ⊎ ((fault ≡ Form) × ((shape_type : ShapeType) × (points : List Point) × WriteContour chosen (words_of_line line) shape_type points × (length points ≡ 2)))
    ⊎ ((fault ≡ Range) × ((shape_type : ShapeType) × (points : List Point) × WriteContour chosen (words_of_line line) shape_type points
    × IsFalse (are_in_range least greatest points)))

-- of the contours that are given those of the subject, and those of the clip
abbrev pub subject_of : List GivenContour → List (List Point)
subject_of given = flat_map (λ c. elim c.shape_type [ Subject ↦ c.points ∷ [] | Clip ↦ [] ]) given

abbrev pub clip_of : List GivenContour → List (List Point)
clip_of given = flat_map (λ c. elim c.shape_type [ Subject ↦ [] | Clip ↦ c.points ∷ [] ]) given

-- the points of a contour, each after a space
abbrev pub points_text : List Point → List ℕ
points_text points = flat_map (λ p. pair_text p.x p.y) points

-- `contour X Y X Y ..`
unfoldable pub contour_line : List Point → List ℕ
contour_line points = codes "contour" ++ points_text points ++ codes "\n"

abbrev pub contour_lines : List (List Point) → List ℕ
contour_lines contours = flat_map contour_line contours

-- `rule NAME`
abbrev pub rule_line : OverlayRule → List ℕ
rule_line SubjectRule = codes "rule subject\n"
rule_line ClipRule = codes "rule clip\n"
rule_line Intersect = codes "rule intersect\n"
rule_line Union = codes "rule union\n"
rule_line Difference = codes "rule difference\n"
rule_line InverseDifference = codes "rule inverse-difference\n"
rule_line Xor = codes "rule xor\n"
rule_line (Table table) = codes "rule table:" ++ decimal (bits_of table) ++ codes "\n"

-- for each rule its name, and then the contours of its overlay
abbrev pub overlays_text : List OverlayRule → List (List (List Point)) → List ℕ
overlays_text [] overlays = []
overlays_text (rule ∷ rules) [] = []
overlays_text (rule ∷ rules) (contours ∷ overlays) = rule_line rule ++ contour_lines contours ++ overlays_text rules overlays

-- `shape`, and then its contours
unfoldable pub shape_text : List (List Point) → List ℕ
shape_text contours = codes "shape\n" ++ contour_lines contours

abbrev pub shape_lines : List (List (List Point)) → List ℕ
shape_lines shapes = flat_map shape_text shapes

-- `reach N`
abbrev pub reach_line : ℕ → List ℕ
reach_line halves = codes "reach " ++ decimal halves ++ codes "\n"

-- the lines that report a run, where it has a report: how many passes it made, and how far these reach, in halves
abbrev pub report_text : Bool → ℕ → ℕ → List ℕ
report_text false passes halves = []
report_text true passes halves = passes_line passes ++ reach_line halves

-- ---- for contours of code

-- An overlay keeps these contours.
abbrev pub Keeps : {I : Type 0} {w : _} {o : _} {e : _} {p : _} → Overlay I w o e p → List GivenContour → Type 0
Keeps overlay given = (kept_subject overlay ≡ subject_of given) × (kept_clip overlay ≡ clip_of given)

-- It keeps the contours that the lines of a text describe, in order.
abbrev pub KeepsDescribed : {I : Type 0} {w : _} {o : _} {e : _} {p : _} → (List ℕ → List GivenContour → Type 0) → List ℕ → Overlay I w o e p → Type 0
KeepsDescribed Asks bytes overlay =
    (given : List (List GivenContour)) × AskInTurn Asks (lines_of bytes) given × Keeps overlay (flat_map (λ contours. contours) given)

-- It keeps those that they write, in the range of its engine.
abbrev pub KeepsWritten : {I : Type 0} {w : _} {o : _} {e : _} {p : _} → ShapeType → List ℕ → Overlay I w o e p → Type 0
KeepsWritten {w = w} chosen bytes overlay = KeepsDescribed (AsksForContours chosen (w.whole w.MIN_COORD) (w.whole w.MAX_COORD)) bytes overlay

-- The stop names the first faulty line of a text.
abbrev pub NamesFirstFaulty : {I : Type 0} → (I → ℤ) → I → I → ShapeType → List ℕ → Stop → Type 0
NamesFirstFaulty whole least greatest chosen bytes stop =
    IsFirstFaultOf (AsksForContours chosen (whole least) (whole greatest)) (IsFaultyContour chosen (whole least) (whole greatest)) (lines_of bytes) stop

-- the lines of contours
abbrev pub contours_text : {I : Type 0} → (I → ℤ) → List (Vec (IntPoint I) Global) → List ℕ
contours_text whole contours = contour_lines (contours_of whole contours)

-- those of shapes
abbrev pub shapes_text : {I : Type 0} → (I → ℤ) → List (Vec (Vec (IntPoint I) Global) Global) → List ℕ
shapes_text whole shapes = shape_lines (shapes_of whole shapes)
