-- Clipped contours, one step and one contour after another, and what holds of each element of a list.
use Rattle.std.proofs.Common.{◌≡◌, refl, sym, ap, ◌∙◌, append_assoc, ℕ, zero, suc, ◌+◌, ◌<◌, ◌≤◌, length, get_or, drop, arith, Bool, true, false, if◌then◌else◌, List, [], ◌∷◌, ◌++◌}
use Rattle.std.specs.Prelude.{map, flat_map}
use Rattle.std.specs.List.{list_all}
use Rattle.std.proofs.lemmas.Bool.{and_parts}
use Rattle.std.proofs.lemmas.List.{append-nil, map-append}
use Rattle.overlay_geometry.specs.Points.{Point}
use Rattle.overlay_geometry.specs.Ranges.{Rect}
use Rattle.overlay_contours.specs.Contours.{steps_from}
use Rattle.overlay_contours.proofs.laws.Steps.{drop_at, drop_all}
use Rattle.overlay_tiles.specs.Tiles.{step_points, clipped, is_beside, thinned_from, thinned, in_tile}

-- ---- one step more of a contour, and one contour more

pub one_step : {X : Type 0} (tile : Rect) (f : X → Point) (xs : List X) (i : ℕ) (x : X) (from : Point) (found more end all : List Point) → i < length xs → x ≡ get_or xs i x → more ≡ found ++ step_points tile (record { a = from; b = f x }) →
    found ++ flat_map (step_points tile) (steps_from from (map f (drop i xs) ++ end)) ≡ all → more ++ flat_map (step_points tile) (steps_from (f x) (map f (drop (i + 1) xs) ++ end)) ≡ all
one_step tile f xs i x from found more end all h is pushed e =
    let next : i + 1 ≡ suc i = omega arith in
    rw next (ap (λ (l : List Point). l ++ flat_map (step_points tile) (steps_from (f x) (map f (drop (suc i) xs) ++ end))) pushed
    ∙ append_assoc found (step_points tile (record { a = from; b = f x })) _
    ∙ sym (ap (λ (l : List _). found ++ flat_map (step_points tile) (steps_from from (map f l ++ end))) (drop_at xs i x h is))
    ∙ e)

pub last_step : {X : Type 0} (tile : Rect) (f : X → Point) (xs : List X) (i : ℕ) (from first : Point) (found more all : List Point) → length xs ≤ i → more ≡ found ++ step_points tile (record { a = from; b = first }) →
    found ++ flat_map (step_points tile) (steps_from from (map f (drop i xs) ++ first ∷ [])) ≡ all → more ≡ all
last_step tile f xs i from first found more all h pushed e =
    pushed
    ∙ sym (ap (λ (l : List Point). found ++ l) (append-nil (step_points tile (record { a = from; b = first }))))
    ∙ sym (ap (λ (l : List _). found ++ flat_map (step_points tile) (steps_from from (map f l ++ first ∷ []))) (drop_all xs i h))
    ∙ e

pub no_contour : (tile : Rect) → clipped tile [] ≡ []
unfolding clipped
no_contour tile = refl

pub contour_is : (tile : Rect) (first : Point) (later : List Point) → flat_map (step_points tile) (steps_from first (later ++ first ∷ [])) ≡ clipped tile (first ∷ later)
unfolding clipped
contour_is tile first later = refl

at_contour : (tile : Rect) (c : List Point) (contours : List (List Point)) (b : Bool) → is_beside tile c ≡ b → in_tile tile (c ∷ contours) ≡ (if b then in_tile tile contours else thinned tile (clipped tile c) ∷ in_tile tile contours)
at_contour tile c contours true e = rw e refl
at_contour tile c contours false e = rw e refl

in_two : (tile : Rect) (c : List Point) (contours : List (List Point)) → in_tile tile (c ∷ contours) ≡ in_tile tile (c ∷ []) ++ in_tile tile contours
in_two tile c contours = by (is_beside tile c) refl
  where
    by : (b : Bool) → is_beside tile c ≡ b → in_tile tile (c ∷ contours) ≡ in_tile tile (c ∷ []) ++ in_tile tile contours
    by true e = at_contour tile c contours true e ∙ sym (ap (λ (k : List (List Point)). k ++ in_tile tile contours) (at_contour tile c [] true e))
    by false e = at_contour tile c contours false e ∙ sym (ap (λ (k : List (List Point)). k ++ in_tile tile contours) (at_contour tile c [] false e))

pub one_contour : {X : Type 0} (tile : Rect) (h : X → List Point) (xs : List X) (i : ℕ) (x : X) (found part more all : List (List Point)) → i < length xs → x ≡ get_or xs i x → part ≡ in_tile tile (h x ∷ []) → more ≡ found ++ part →
    found ++ in_tile tile (map h (drop i xs)) ≡ all → more ++ in_tile tile (map h (drop (i + 1) xs)) ≡ all
one_contour tile h xs i x found part more all l is of pushed e =
    let next : i + 1 ≡ suc i = omega arith in
    rw next (ap (λ (k : List (List Point)). k ++ in_tile tile (map h (drop (suc i) xs))) (pushed ∙ ap (λ (k : List (List Point)). found ++ k) of)
    ∙ append_assoc found (in_tile tile (h x ∷ [])) _
    ∙ sym (ap (λ (k : List (List Point)). found ++ k) (in_two tile (h x) (map h (drop (suc i) xs))))
    ∙ sym (ap (λ (k : List _). found ++ in_tile tile (map h k)) (drop_at xs i x l is))
    ∙ e)

pub all_contours : {X : Type 0} (tile : Rect) (h : X → List Point) (xs : List X) (i : ℕ) (found all : List (List Point)) → length xs ≤ i → found ++ in_tile tile (map h (drop i xs)) ≡ all → found ≡ all
all_contours tile h xs i found all l e =
    sym (append-nil found)
    ∙ sym (ap (λ (k : List _). found ++ in_tile tile (map h k)) (drop_all xs i l))
    ∙ e

-- ---- one point more of a contour that is thinned

at_point : (tile : Rect) (u v w : Point) (points : List Point) (b : Bool) → is_beside tile (u ∷ v ∷ w ∷ []) ≡ b → thinned_from tile u (v ∷ w ∷ points) ≡ (if b then thinned_from tile u (w ∷ points) else v ∷ thinned_from tile v (w ∷ points))
unfolding thinned_from
at_point tile u v w points true e = rw e refl
at_point tile u v w points false e = rw e refl

pub point_kept : {X : Type 0} (tile : Rect) (f : X → Point) (xs : List X) (i : ℕ) (x : X) (u v : Point) (found more all : List Point) → i < length xs → x ≡ get_or xs i x → is_beside tile (u ∷ v ∷ f x ∷ []) ≡ false → more ≡ found ++ v ∷ [] →
    found ++ thinned_from tile u (v ∷ map f (drop i xs)) ≡ all → more ++ thinned_from tile v (f x ∷ map f (drop (i + 1) xs)) ≡ all
point_kept tile f xs i x u v found more all l is off pushed e =
    let next : i + 1 ≡ suc i = omega arith in
    rw next (ap (λ (k : List Point). k ++ thinned_from tile v (f x ∷ map f (drop (suc i) xs))) pushed
    ∙ append_assoc found (v ∷ []) _
    ∙ sym (ap (λ (k : List Point). found ++ k) (at_point tile u v (f x) (map f (drop (suc i) xs)) false off))
    ∙ sym (ap (λ (k : List _). found ++ thinned_from tile u (v ∷ map f k)) (drop_at xs i x l is))
    ∙ e)

pub point_left_out : {X : Type 0} (tile : Rect) (f : X → Point) (xs : List X) (i : ℕ) (x : X) (u v : Point) (found all : List Point) → i < length xs → x ≡ get_or xs i x → is_beside tile (u ∷ v ∷ f x ∷ []) ≡ true →
    found ++ thinned_from tile u (v ∷ map f (drop i xs)) ≡ all → found ++ thinned_from tile u (f x ∷ map f (drop (i + 1) xs)) ≡ all
point_left_out tile f xs i x u v found all l is on e =
    let next : i + 1 ≡ suc i = omega arith in
    rw next (sym (ap (λ (k : List Point). found ++ k) (at_point tile u v (f x) (map f (drop (suc i) xs)) true on))
    ∙ sym (ap (λ (k : List _). found ++ thinned_from tile u (v ∷ map f k)) (drop_at xs i x l is))
    ∙ e)

pub last_kept : {X : Type 0} (tile : Rect) (f : X → Point) (xs : List X) (i : ℕ) (u v : Point) (found more all : List Point) → length xs ≤ i → more ≡ found ++ v ∷ [] → found ++ thinned_from tile u (v ∷ map f (drop i xs)) ≡ all → more ≡ all
unfolding thinned_from
last_kept tile f xs i u v found more all l pushed e =
    pushed
    ∙ sym (ap (λ (k : List _). found ++ thinned_from tile u (v ∷ map f k)) (drop_all xs i l))
    ∙ e

pub thinned_is : (tile : Rect) (p : Point) (points : List Point) → p ∷ thinned_from tile p points ≡ thinned tile (p ∷ points)
unfolding thinned
thinned_is tile p points = refl

pub thinned_none : (tile : Rect) → thinned tile [] ≡ []
unfolding thinned
thinned_none tile = refl

pub thinned_one : (tile : Rect) (p : Point) → thinned tile (p ∷ []) ≡ p ∷ []
unfolding thinned thinned_from
thinned_one tile p = refl

-- ---- what all elements pass

pub passes_at : {X Y : Type 0} (f : X → Y) (test : Y → Bool) (xs : List X) (i : ℕ) (x : X) → i < length xs → x ≡ get_or xs i x → list_all test (map f xs) ≡ true → test (f x) ≡ true
passes_at f test [] i x h e p = absurd (omega arith)
passes_at f test (y ∷ ys) zero x h e p = ap (λ z. test (f z)) e ∙ (and_parts _ _ p).0
passes_at f test (y ∷ ys) (suc i) x h e p = passes_at f test ys i x (omega arith) e (and_parts _ _ p).1

pub first_passes : {X Y : Type 0} (f : X → Y) (test : Y → Bool) (xs : List X) (x : X) (later : List X) → xs ≡ x ∷ later → list_all test (map f xs) ≡ true → (test (f x) ≡ true) × (list_all test (map f later) ≡ true)
first_passes f test xs x later e p = and_parts _ _ (sym (ap (λ l. list_all test (map f l)) e) ∙ p)

pub pushed_one : {X Y : Type 0} (f : X → Y) (old new : List X) (x : X) (y : Y) → new ≡ old ++ x ∷ [] → f x ≡ y → map f new ≡ map f old ++ y ∷ []
pushed_one f old new x y e h = ap (map f) e ∙ map-append f old (x ∷ []) ∙ ap (λ z. map f old ++ z ∷ []) h
