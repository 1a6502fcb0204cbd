-- Polygons as WKT writes them: what a line of the input writes, what is wrong with one, and the line of the output.
use Rattle.std.specs.Prelude.{◌≡◌, ◌≢◌, ◌⊎◌, ◌==◌, ◌||◌, ℕ, ℤ, pos, int_lt, if◌then◌else◌, Bool, true, false, IsTrue, IsFalse, List, [], ◌∷◌, ◌++◌, codes, flat_map, map, reverse}
use Rattle.std.specs.List.{list_all}
use Rattle.std.specs.Char.{to_ascii_uppercase}
use Rattle.std.specs.Fmt.{signed_decimal}
use Rattle.overlay_geometry.specs.Points.{Point}
use Rattle.overlay_base.specs.declared.segm.shape_type.ShapeType.{ShapeType}
use Rattle.overlay_contours.specs.Areas.{doubled_area}
use Rattle.overlay_text.specs.declared.stop.LineFault.{LineFault}
use Rattle.overlay_text.specs.declared.stop.LineFault.TheVariants.{Form, Range}
use Rattle.overlay_contours.specs.declared.overlay.Overlay.{Overlay}
use Rattle.overlay_text.specs.declared.stop.Stop.{Stop}
use Rattle.overlay_text.specs.Numbers.{WritesNumber}
use Rattle.overlay_text.specs.Text.{words_of_line, NamesShape, lines_of, IsFirstFaultOf}
use Rattle.polygons.specs.ContourText.{GivenContour, are_in_range, KeepsDescribed}

-- ---- the input

abbrev pub opening : List ℕ
opening = codes "("

abbrev pub closing : List ℕ
closing = codes ")"

abbrev pub comma : List ℕ
comma = codes ","

-- a byte, a letter as a capital, and between spaces where it is `(`, `)` or `,`
unfoldable pub spaced_byte : ℕ → List ℕ
spaced_byte b = if (b == 40) || ((b == 41) || (b == 44)) then 32 ∷ b ∷ 32 ∷ [] else to_ascii_uppercase b ∷ []

-- the words of a line, in capitals; each `(`, `)` and `,` is one
abbrev pub wkt_words : List ℕ → List (List ℕ)
wkt_words line = words_of_line (flat_map spaced_byte line)

-- The words begin with items, between which are commas, and with a `)` behind them; these are the words behind that.
abbrev pub WriteItems : {A : Type 0} → (List (List ℕ) → A → List (List ℕ) → Type 0) → List (List ℕ) → List A → List (List ℕ) → Type 0
WriteItems WriteItem words [] rest = ⊥
WriteItems WriteItem words (item ∷ items) rest =
    (mark : List ℕ) × (behind : List (List ℕ)) × WriteItem words item (mark ∷ behind)
    × (((mark ≡ closing) × (items ≡ []) × (behind ≡ rest)) ⊎ ((mark ≡ comma) × WriteItems WriteItem behind items rest))

-- the same with a `(` before them
abbrev pub WriteGroup : {A : Type 0} → (List (List ℕ) → A → List (List ℕ) → Type 0) → List (List ℕ) → List A → List (List ℕ) → Type 0
WriteGroup WriteItem words items rest = (inner : List (List ℕ)) × (words ≡ opening ∷ inner) × WriteItems WriteItem inner items rest

-- the same, or `EMPTY` in place of no items
abbrev pub EmptyOr : {A : Type 0} → (List (List ℕ) → A → List (List ℕ) → Type 0) → List (List ℕ) → List A → List (List ℕ) → Type 0
EmptyOr WriteItem words items rest = ((words ≡ codes "EMPTY" ∷ rest) × (items ≡ [])) ⊎ WriteGroup WriteItem words items rest

-- The words begin with the coordinates of a point.
abbrev pub WritePoint : List (List ℕ) → Point → List (List ℕ) → Type 0
WritePoint words point rest = (x : List ℕ) × (y : List ℕ) × (words ≡ x ∷ y ∷ rest) × WritesNumber x point.x × WritesNumber y point.y

-- points between parentheses, and such rings
abbrev pub WriteRing : List (List ℕ) → List Point → List (List ℕ) → Type 0
WriteRing = EmptyOr WritePoint

abbrev pub WritePolygon : List (List ℕ) → List (List Point) → List (List ℕ) → Type 0
WritePolygon = EmptyOr WriteRing

-- `MULTIPOLYGON` or `POLYGON`
abbrev pub geometry_name : Bool → List ℕ
geometry_name true = codes "MULTIPOLYGON"
geometry_name false = codes "POLYGON"

-- The words begin with several polygons, or with one.
abbrev pub WriteBody : Bool → List (List ℕ) → List (List (List Point)) → List (List ℕ) → Type 0
WriteBody true words polygons rest = EmptyOr WritePolygon words polygons rest
WriteBody false words polygons rest = (rings : List (List Point)) × (polygons ≡ rings ∷ []) × WritePolygon words rings rest

-- The words are a name and what belongs to it.
abbrev pub WriteGeometry : List (List ℕ) → List (List (List Point)) → Type 0
WriteGeometry words polygons = (several : Bool) × (behind : List (List ℕ)) × (words ≡ geometry_name several ∷ behind) × WriteBody several behind polygons []

-- the words are a letter and a geometry, and these are the shape and the polygons that they write
abbrev pub WritePolygonsOf : List (List ℕ) → ShapeType → List (List (List Point)) → Type 0
WritePolygonsOf words shape_type polygons =
    (letter : List ℕ) × (others : List (List ℕ)) × (words ≡ letter ∷ others) × NamesShape letter shape_type × WriteGeometry others polygons

-- a ring with that doubled area does not run as an outer boundary does, which is counterclockwise, or as a hole does
abbrev pub runs_wrong : Bool → ℤ → Bool
runs_wrong true area = int_lt area (pos 0)
runs_wrong false area = int_lt (pos 0) area

-- a ring as an outer boundary or as a hole
abbrev pub turned : Bool → List Point → List Point
turned is_outer ring = if runs_wrong is_outer (doubled_area ring) then reverse ring else ring

abbrev pub contour_of_shape : ShapeType → List Point → GivenContour
contour_of_shape shape_type points = record { shape_type = shape_type; points = points }

-- The contours of a polygon: the first ring counterclockwise, and the others, which are its holes, clockwise.
abbrev pub polygon_contours : ShapeType → List (List Point) → List GivenContour
polygon_contours shape_type [] = []
polygon_contours shape_type (outer ∷ holes) =
    contour_of_shape shape_type (turned true outer) ∷ map (λ hole. contour_of_shape shape_type (turned false hole)) holes

abbrev pub are_polygons_in_range : ℤ → ℤ → List (List (List Point)) → Bool
are_polygons_in_range least greatest polygons = list_all (λ rings. list_all (are_in_range least greatest) rings) polygons

-- the line writes polygons in range, and these are their contours
abbrev pub AsksForPolygons : ℤ → ℤ → List ℕ → List GivenContour → Type 0
AsksForPolygons least greatest line contours =
    (shape_type : ShapeType) × (polygons : List (List (List Point))) × WritePolygonsOf (wkt_words line) shape_type polygons
    × IsTrue (are_polygons_in_range least greatest polygons) × (contours ≡ flat_map (polygon_contours shape_type) polygons)

-- what is wrong with a line: it has words that write no polygons, or a point of those that it writes is out of range
abbrev pub AreFaultyPolygons : ℤ → ℤ → List ℕ → LineFault → Type 0
AreFaultyPolygons least greatest line fault =
    ((fault ≡ Form) × (words_of_line line ≢ []) × ((shape_type : ShapeType) (polygons : List (List (List Point))) → ¬ (WritePolygonsOf (wkt_words line) shape_type polygons)))
    ⊎ ((fault ≡ Range) × ((shape_type : ShapeType) × (polygons : List (List (List Point))) × WritePolygonsOf (wkt_words line) shape_type polygons
    × IsFalse (are_polygons_in_range least greatest polygons)))

-- ---- for contours of code

-- An overlay keeps the contours of the polygons that the lines of a text write, in the range of its engine.
abbrev pub KeepsPolygons : {I : Type 0} {w : _} {o : _} {e : _} {p : _} → List ℕ → Overlay I w o e p → Type 0
KeepsPolygons {w = w} bytes overlay = KeepsDescribed (AsksForPolygons (w.whole w.MIN_COORD) (w.whole w.MAX_COORD)) bytes overlay

-- The stop names the first faulty line of a text.
abbrev pub NamesFirstFaultyPolygons : {I : Type 0} → (I → ℤ) → I → I → List ℕ → Stop → Type 0
NamesFirstFaultyPolygons whole least greatest bytes stop =
    IsFirstFaultOf (AsksForPolygons (whole least) (whole greatest)) (AreFaultyPolygons (whole least) (whole greatest)) (lines_of bytes) stop

-- ---- the output

-- texts between parentheses, with `, ` between them
abbrev pub group_text : {A : Type 0} → (A → List ℕ) → List A → List ℕ
group_text text [] = codes "()"
group_text text (first ∷ others) = codes "(" ++ (text first ++ (flat_map (λ item. codes ", " ++ text item) others ++ codes ")"))

abbrev pub point_wkt : Point → List ℕ
point_wkt p = signed_decimal p.x ++ (codes " " ++ signed_decimal p.y)

-- points with the first of them behind the last again
abbrev pub closed : List Point → List Point
closed [] = []
closed (first ∷ others) = first ∷ others ++ first ∷ []

abbrev pub ring_wkt : List Point → List ℕ
ring_wkt points = group_text point_wkt (closed points)

abbrev pub polygon_wkt : List (List Point) → List ℕ
polygon_wkt contours = group_text ring_wkt contours

-- `MULTIPOLYGON` and the shapes, or `MULTIPOLYGON EMPTY`
abbrev pub multipolygon_line : List (List (List Point)) → List ℕ
multipolygon_line [] = codes "MULTIPOLYGON EMPTY\n"
multipolygon_line (first ∷ others) = codes "MULTIPOLYGON " ++ (group_text polygon_wkt (first ∷ others) ++ codes "\n")
