-- A step that is cut at one border after another, as code cuts it, is the path that is refined by one border after another.
use Rattle.std.proofs.Common.{◌≡◌, refl, sym, ap, ◌∙◌, append_assoc, Bool, true, false, if◌then◌else◌, List, [], ◌∷◌, ◌++◌}
use Rattle.std.specs.Prelude.{map}
use Rattle.std.proofs.lemmas.List.{append-nil, map-append}
use Rattle.overlay_geometry.specs.Points.{Point, Pair}
use Rattle.overlay_geometry.specs.Ranges.{Rect}
use Rattle.overlay_tiles.specs.Tiles.{Line, upright, level, borders, clamp, parts, cut, refined, cut_path, without_last, step_points}
use Rattle.overlay_tiles.specs.steps.Parted.{parted}
use Rattle.overlay_tiles.proofs.laws.Contours.{IsSome, path_some}

-- the parts between each two neighbors of a path
parted_path : Pair → List Line → Point → List Point → List Point
parted_path s lines u [] = []
parted_path s lines u (v ∷ points) = parted s lines u v ++ parted_path s lines v points

uncut : (s : Pair) (u v : Point) (points : List Point) → parted_path s [] u (v ∷ points) ≡ u ∷ without_last (v ∷ points)
unfolding parted_path parted without_last
uncut s u v [] = refl
uncut s u v (w ∷ points) = ap (λ (l : List Point). u ∷ l) (uncut s v w points)

uncut_some : (s : Pair) (u : Point) (points : List Point) → IsSome points → parted_path s [] u points ≡ u ∷ without_last points
uncut_some s u [] h = absurd h
uncut_some s u (v ∷ points) h = uncut s u v points

one_line : (s : Pair) (line : Line) (lines : List Line) (u : Point) (points : List Point) → parted_path s (line ∷ lines) u points ≡ parted_path s lines u (refined s line u points)
unfolding parted_path parted refined
one_line s line lines u [] = refl
one_line s line lines u (v ∷ points) = by (parts line u v) (parted_path s (line ∷ lines) v points) (refined s line v points) (one_line s line lines v points)
  where
    by : (b : Bool) (others : List Point) (rest : List Point) → others ≡ parted_path s lines v rest →
        (if b then parted s lines u (cut s line) ++ parted s lines (cut s line) v else parted s lines u v) ++ others
        ≡ parted_path s lines u (if b then cut s line ∷ v ∷ rest else v ∷ rest)
    by true others rest e = append_assoc (parted s lines u (cut s line)) (parted s lines (cut s line) v) others ∙ ap (λ (l : List Point). parted s lines u (cut s line) ++ (parted s lines (cut s line) v ++ l)) e
    by false others rest e = ap (λ (l : List Point). parted s lines u v ++ l) e

parted_is : (tile : Rect) (s : Pair) → parted s (borders tile) s.a s.b ≡ s.a ∷ without_last (cut_path tile s)
unfolding parted_path cut_path
parted_is tile s =
    sym (append-nil (parted s (borders tile) s.a s.b))
    ∙ one_line s (upright tile.min_x) (upright tile.max_x ∷ level tile.min_y ∷ level tile.max_y ∷ []) s.a (s.b ∷ [])
    ∙ one_line s (upright tile.max_x) (level tile.min_y ∷ level tile.max_y ∷ []) s.a _
    ∙ one_line s (level tile.min_y) (level tile.max_y ∷ []) s.a _
    ∙ one_line s (level tile.max_y) [] s.a _
    ∙ uncut_some s s.a (cut_path tile s) (path_some tile s)

pub parted_step : (tile : Rect) (s : Pair) → map (clamp tile) (parted s (borders tile) s.a s.b) ≡ step_points tile s
parted_step tile s = ap (map (clamp tile)) (parted_is tile s)

-- ---- one cut more

pub parted_none : (tile : Rect) (s : Pair) (lines : List Line) (u v : Point) → lines ≡ [] → map (clamp tile) (parted s lines u v) ≡ clamp tile u ∷ []
unfolding parted
parted_none tile s lines u v e = rw e refl

pub parted_off : (tile : Rect) (s : Pair) (lines later : List Line) (line : Line) (u v : Point) → lines ≡ line ∷ later → parts line u v ≡ false →
    map (clamp tile) (parted s lines u v) ≡ map (clamp tile) (parted s later u v)
unfolding parted
parted_off tile s lines later line u v e off = rw (e, off) refl

pub parted_at : (tile : Rect) (s : Pair) (lines later : List Line) (line : Line) (u v c : Point) → lines ≡ line ∷ later → parts line u v ≡ true → c ≡ cut s line →
    map (clamp tile) (parted s lines u v) ≡ map (clamp tile) (parted s later u c) ++ map (clamp tile) (parted s later c v)
unfolding parted
parted_at tile s lines later line u v c e on is = rw (e, on, is) (map-append (clamp tile) (parted s later u (cut s line)) (parted s later (cut s line) v))
