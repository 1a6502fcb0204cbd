-- What the text of the input describes, line by line.
use Rattle.std.specs.Prelude.{◌≡◌, ◌≢◌, ◌⊎◌, ℕ, ◌+◌, ℤ, not, ◌==◌, List, [], ◌∷◌, ◌++◌, length, filter, codes, Some, None, IsTrue}
use Rattle.std.specs.List.{slice_split}
use Rattle.std.specs.Str.Lines.{strip_carriage_return}
use Rattle.overlay_geometry.specs.Points.{Point}
use Rattle.overlay_base.specs.Segments.{WholeSegment}
use Rattle.overlay_base.specs.declared.segm.shape_type.ShapeType.{ShapeType}
use Rattle.overlay_base.specs.declared.segm.shape_type.ShapeType.TheVariants.{Subject, Clip}
use Rattle.overlay_text.specs.declared.stop.LineFault.{LineFault}
use Rattle.overlay_text.specs.declared.stop.LineFault.TheVariants.{Form}
use Rattle.overlay_text.specs.declared.stop.Stop.{Stop}
use Rattle.overlay_text.specs.declared.stop.Stop.TheVariants.{Line}
use Rattle.overlay_text.specs.Lines.{step_fault, step_segment}
use Rattle.overlay_text.specs.Numbers.{WritesNumber}
use Rattle.overlay_geometry.specs.Coordinates.{is_point_in_range}
use Rattle.overlay_geometry.specs.PointOf.{point_of}
use Rattle.overlay_geometry.specs.declared.geom.point.IntPoint.{IntPoint}
use Rattle.overlay_base.specs.SegmentOf.{segments_of}
use Rattle.overlay_base.specs.declared.segm.segment.Segment.{Segment}

-- the lines of a text: the parts between its line feeds
unfoldable pub lines_of : List ℕ → List (List ℕ)
lines_of bytes = slice_split (λ b. b == 10) bytes

-- the words of a text: the parts between its spaces, but for the empty ones
unfoldable pub words_of : List ℕ → List (List ℕ)
words_of text = filter (λ word. not (length word == 0)) (slice_split (λ b. b == 32) text)

-- the words of a line: a carriage return at its very end is none of them
abbrev pub words_of_line : List ℕ → List (List ℕ)
words_of_line line = words_of (strip_carriage_return line)

abbrev pub NamesShape : List ℕ → ShapeType → Type 0
NamesShape letter Subject = letter ≡ codes "S"
NamesShape letter Clip = letter ≡ codes "C"

-- the words are a letter and four numbers, and these are the shape and the points that they write
abbrev pub WritesStep : List (List ℕ) → ShapeType → Point → Point → Type 0
WritesStep words shape_type a b =
    (letter ax ay bx by : List ℕ) × (words ≡ letter ∷ ax ∷ ay ∷ bx ∷ by ∷ [])
    × NamesShape letter shape_type × WritesNumber ax a.x × WritesNumber ay a.y × WritesNumber bx b.x × WritesNumber by b.y

-- the line writes a step in range whose ends differ, and this is its segment
abbrev pub AsksFor : ℤ → ℤ → List ℕ → WholeSegment → Type 0
AsksFor least greatest line segment =
    (shape_type : ShapeType) × (a : Point) × (b : Point) × WritesStep (words_of_line line) shape_type a b
    × (step_fault least greatest a b ≡ None) × (segment ≡ step_segment shape_type a b)

-- what is wrong with a line: it has words that write no step, or the step that it writes is faulty
abbrev pub IsFaulty : ℤ → ℤ → List ℕ → LineFault → Type 0
IsFaulty least greatest line fault =
    ((fault ≡ Form) × (words_of_line line ≢ []) × ((shape_type : ShapeType) (a b : Point) → ¬ (WritesStep (words_of_line line) shape_type a b)))
    ⊎ ((shape_type : ShapeType) × (a : Point) × (b : Point) × WritesStep (words_of_line line) shape_type a b
    × (step_fault least greatest a b ≡ Some fault))

-- each of the lines has no words or describes something, and this is what they describe, in order
abbrev pub AskInTurn : {X : Type 0} → (List ℕ → X → Type 0) → List (List ℕ) → List X → Type 0
AskInTurn Asks [] asked = asked ≡ []
AskInTurn {X = X} Asks (line ∷ lines) asked =
    ((words_of_line line ≡ []) × AskInTurn Asks lines asked)
    ⊎ ((first : X) × (others : List X) × (asked ≡ first ∷ others) × Asks line first × AskInTurn Asks lines others)

-- the stop names the first faulty line by its number, from 1, and what is wrong with it
abbrev pub IsFirstFaultOf : {X : Type 0} → (List ℕ → X → Type 0) → (List ℕ → LineFault → Type 0) → List (List ℕ) → Stop → Type 0
IsFirstFaultOf {X = X} Asks HasFault lines stop =
    (before : List (List ℕ)) × (line : List ℕ) × (after : List (List ℕ)) × (lines ≡ before ++ line ∷ after)
    × ((asked : List X) × AskInTurn Asks before asked)
    × ((fault : LineFault) × HasFault line fault × (stop ≡ Line (length before + 1) fault))

-- each of the lines has no words or describes a segment, and these are the segments, in order
abbrev pub AskInTurnFor : ℤ → ℤ → List (List ℕ) → List WholeSegment → Type 0
AskInTurnFor least greatest lines segments = AskInTurn (AsksFor least greatest) lines segments

abbrev pub IsFirstFault : ℤ → ℤ → List (List ℕ) → Stop → Type 0
IsFirstFault least greatest lines stop = IsFirstFaultOf (AsksFor least greatest) (IsFaulty least greatest) lines stop

-- The lines of a text describe these segments of code, in order.
abbrev pub AsksForSegments : {C I D : Type 0} {m : _} {w : _} {o : _} {e : _} {p : _} → List ℕ → List (Segment C I D m w o e p) → Type 0
AsksForSegments {w = w} bytes list = AskInTurnFor (w.whole w.MIN_COORD) (w.whole w.MAX_COORD) (lines_of bytes) (segments_of list)

-- The stop names the first faulty line of a text, in the range of an engine.
abbrev pub NamesFirstFault : {I : Type 0} → (I → ℤ) → I → I → List ℕ → Stop → Type 0
NamesFirstFault whole least greatest bytes stop = IsFirstFault (whole least) (whole greatest) (lines_of bytes) stop

-- the coordinates of a point are in the range of an engine
abbrev pub FitsEngine : {I : Type 0} → (I → ℤ) → I → I → IntPoint ℤ → Type 0
FitsEngine whole least greatest wide = IsTrue (is_point_in_range (whole least) (whole greatest) (point_of (λ z. z) wide))
