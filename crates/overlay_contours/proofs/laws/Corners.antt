-- The corners of contours: they wind as the contours do, and at none of them do they go straight on.
use Rattle.std.proofs.Common.{◌≡◌, refl, sym, ap, ap₂, subst, ◌∙◌, append_assoc, ℕ, zero, suc, ◌+◌, ◌<◌, ◌≤◌, take, drop, get_or, length, Bool, true, false, not, cond, List, [], ◌∷◌, ◌++◌, map, filter, arith}
use Rattle.std.specs.Prelude.{◌≢◌, ⊤, ℤ, pos, ◌+ℤ◌, All}
use Rattle.std.specs.List.{AllByRecursion, list_all, zip}
use Rattle.std.proofs.lemmas.Int.{ints}
use Rattle.std.proofs.lemmas.Bool.{and_parts, and_from}
use Rattle.std.proofs.lemmas.List.Elements.{All-from_recursion, recursion_from_All, All-tail}
use Rattle.std.proofs.lemmas.List.{append-nil}
use Rattle.std.proofs.lemmas.List.Folds.{list_all-append, list_all-map}
use Rattle.overlay_geometry.proofs.laws.lists.Lists.{AllByRecursion-from_list_all}
use Rattle.overlay_geometry.specs.Points.{Point, Pair}
use Rattle.overlay_geometry.proofs.laws.geometry.Points.{Before, Before-trans, Before-irreflexive}
use Rattle.overlay_base.specs.Places.{RationalPoint}
use Rattle.overlay_base.specs.Sums.{gathered}
use Rattle.overlay_contours.specs.Contours.{steps_from, steps_of, steps, is_edge, AreProper, step_winding, winding_number, is_painted}
use Rattle.overlay_contours.specs.Corners.{is_straight, last_of, is_corner, corners}
use Rattle.overlay_base.specs.declared.overlay_core.fill_rule.FillRule.TheVariants.{EvenOdd}
use Rattle.overlay_sweep.specs.Fill.{is_inside}
use Rattle.overlay_contours.proofs.laws.Extracts.{all_mapped}
use Rattle.overlay_contours.proofs.laws.Parities.{paints_by_even_odd}
use Rattle.overlay_contours.proofs.laws.Steps.{drop_at, drop_all}
use Rattle.overlay_contours.proofs.laws.Straight.{pair_of_points, straight_is_edge, arrives_alike, departs_alike, goes_up, goes_down, goes_either, joined}

-- ---- the corners, one after another

-- of a way from p over q along a list: the points from q on at which it does not go straight on, without the last one
abbrev pub corners_on : Point → Point → List Point → List Point
corners_on p q [] = []
corners_on p q (x ∷ xs) = cond (is_straight p q x) (corners_on q x xs) (q ∷ corners_on q x xs)

-- the point before the last one, of p, q and a list
abbrev before_last : Point → Point → List Point → Point
before_last p q [] = p
before_last p q (x ∷ xs) = before_last q x xs

abbrev first_of : Point → List Point → Point
first_of z [] = z
first_of z (x ∷ xs) = x

corners_zipped : (p q z : Point) (xs : List Point) → map (λ (e : Pair × Pair). e.1.a) (filter is_corner (zip (steps_from p (q ∷ xs)) (steps_from q (xs ++ z ∷ [])))) ≡ corners_on p q (xs ++ z ∷ [])
corners_zipped p q z [] = by (is_straight p q z)
  where
    by : (b : Bool) → map (λ (e : Pair × Pair). e.1.a) (cond (not b) ((pair_of_points p q, pair_of_points q z) ∷ []) []) ≡ cond b [] (q ∷ [])
    by true = refl
    by false = refl
corners_zipped p q z (x ∷ xs) = by (is_straight p q x) _ _ (corners_zipped q x z xs)
  where
    by : (b : Bool) (es : List (Pair × Pair)) (ps : List Point) → map (λ (e : Pair × Pair). e.1.a) es ≡ ps → map (λ (e : Pair × Pair). e.1.a) (cond (not b) ((pair_of_points p q, pair_of_points q x) ∷ es) es) ≡ cond b ps (q ∷ ps)
    by true es ps h = h
    by false es ps h = ap (λ (l : List Point). q ∷ l) h

pub corners_are : (p : Point) (points : List Point) → corners (p ∷ points) ≡ corners_on (last_of p points) p (points ++ p ∷ [])
unfolding corners
corners_are p points = corners_zipped (last_of p points) p p points

pub no_corners : corners [] ≡ []
unfolding corners
no_corners = refl

last_of-append : (p z : Point) (xs : List Point) → last_of p (xs ++ z ∷ []) ≡ z
last_of-append p z [] = refl
last_of-append p z (x ∷ xs) = last_of-append x z xs

before_last-append : (p q z : Point) (xs : List Point) → before_last p q (xs ++ z ∷ []) ≡ last_of q xs
before_last-append p q z [] = refl
before_last-append p q z (x ∷ xs) = before_last-append q x z xs

-- what holds where it goes straight on at q, and where it does not
pub at_point : (P : List Point → Type 0) (p q x : Point) (cs : List Point) → (is_straight p q x ≡ true → P cs) → (is_straight p q x ≡ false → P (q ∷ cs)) → P (cond (is_straight p q x) cs (q ∷ cs))
at_point P p q x cs f g = by (is_straight p q x) f g
  where
    by : (b : Bool) → (b ≡ true → P cs) → (b ≡ false → P (q ∷ cs)) → P (cond b cs (q ∷ cs))
    by true f g = f refl
    by false f g = g refl

-- ---- a way that has come from c to q, straight on since c: it goes on from q as from the point p before

-- from both it goes straight on at q to the same points
abbrev Arrives : Point → Point → Point → Type 0
Arrives c p q = (y : Point) → is_straight c q y ≡ is_straight p q y

-- from the same points it goes straight on at q, to x and to y
abbrev Departs : Point → Point → Point → Type 0
Departs q x y = (p : Point) → is_straight p q x ≡ is_straight p q y

-- at the end it arrives from the last corner as from the point before the last
last_arrives : (c p q : Point) (xs : List Point) → Arrives c p q → Arrives (last_of c (corners_on p q xs)) (before_last p q xs) (last_of q xs)
last_arrives c p q [] h = h
last_arrives c p q (x ∷ xs) h =
    at_point (λ cs. Arrives (last_of c cs) (before_last q x xs) (last_of x xs)) p q x (corners_on q x xs)
    (λ e. last_arrives c q x xs (arrives_alike c q x (h x ∙ e)))
    (λ e. last_arrives q q x xs (λ y. refl))

-- it leaves c to the first corner, or else to the end, as to the first point after c
first_departs : (c p q y : Point) (xs : List Point) → Arrives c p q → Departs c q y → Departs c (first_of (last_of q xs) (corners_on p q xs)) y
first_departs c p q y [] h k = k
first_departs c p q y (x ∷ xs) h k =
    at_point (λ cs. Departs c (first_of (last_of x xs) cs) y) p q x (corners_on q x xs)
    (λ e. first_departs c q x y xs (arrives_alike c q x (h x ∙ e)) (λ o. sym (departs_alike c q x (h x ∙ e) o) ∙ k o))
    (λ e. k)

-- at none of some points, on the way from c along them to z, does it go straight on
abbrev Turns : Point → List Point → Point → Type 0
Turns c [] z = ⊤
Turns c (d ∷ ds) z = (is_straight c d (first_of z ds) ≡ false) × Turns d ds z

corners_turn : (c p q : Point) (xs : List Point) → Arrives c p q → Turns c (corners_on p q xs) (last_of q xs)
corners_turn c p q [] h = tt
corners_turn c p q (x ∷ xs) h =
    at_point (λ cs. Turns c cs (last_of x xs)) p q x (corners_on q x xs)
    (λ e. corners_turn c q x xs (arrives_alike c q x (h x ∙ e)))
    (λ e. (h _ ∙ first_departs q q x x xs (λ y. refl) (λ o. refl) p ∙ e, corners_turn q q x xs (λ y. refl)))

turns_to : (c z y : Point) (ds : List Point) → Departs (last_of c ds) y z → Turns c ds z → Turns c ds y
turns_to c z y [] h t = tt
turns_to c z y (d ∷ []) h t = (h c ∙ t.0, tt)
turns_to c z y (d ∷ e ∷ ds) h t = (t.0, turns_to d z y (e ∷ ds) h t.1)

-- where it turns at each point, each is a corner
turns_are_corners : (c d z : Point) (ds : List Point) → Turns c (d ∷ ds) z → corners_on c d (ds ++ z ∷ []) ≡ d ∷ ds
turns_are_corners c d z [] t = ap (λ (b : Bool). cond b [] (d ∷ [])) t.0
turns_are_corners c d z (e ∷ ds) t = ap (λ (b : Bool). cond b (corners_on d e (ds ++ z ∷ [])) (d ∷ corners_on d e (ds ++ z ∷ []))) t.0 ∙ ap (λ (l : List Point). d ∷ l) (turns_are_corners d e z ds t.1)

-- steps between different points leave such steps
keeps_edges : (c p q : Point) (xs : List Point) → Arrives c p q → is_edge (pair_of_points c q) ≡ true → list_all is_edge (steps_from q xs) ≡ true → list_all is_edge (steps_from c (corners_on p q xs)) ≡ true
keeps_edges c p q [] h o k = refl
keeps_edges c p q (x ∷ xs) h o k =
    let both = and_parts (is_edge (pair_of_points q x)) (list_all is_edge (steps_from x xs)) k in
    at_point (λ cs. list_all is_edge (steps_from c cs) ≡ true) p q x (corners_on q x xs)
    (λ e. keeps_edges c q x xs (arrives_alike c q x (h x ∙ e)) (straight_is_edge c q x (h x ∙ e)) both.1)
    (λ e. and_from _ _ o (keeps_edges q q x xs (λ y. refl) both.0 both.1))

last_edge : (c p q : Point) (xs : List Point) → Arrives c p q → is_edge (pair_of_points c q) ≡ true → list_all is_edge (steps_from q xs) ≡ true → is_edge (pair_of_points (last_of c (corners_on p q xs)) (last_of q xs)) ≡ true
last_edge c p q [] h o k = o
last_edge c p q (x ∷ xs) h o k =
    let both = and_parts (is_edge (pair_of_points q x)) (list_all is_edge (steps_from x xs)) k in
    at_point (λ cs. is_edge (pair_of_points (last_of c cs) (last_of x xs)) ≡ true) p q x (corners_on q x xs)
    (λ e. last_edge c q x xs (arrives_alike c q x (h x ∙ e)) (straight_is_edge c q x (h x ∙ e)) both.1)
    (λ e. last_edge q q x xs (λ y. refl) both.0 both.1)

-- ---- a way that turns nowhere does not come back

goes_on_up : (p q : Point) (xs : List Point) → corners_on p q xs ≡ [] → Before p q → Before p (last_of q xs)
goes_on_up p q [] h o = o
goes_on_up p q (x ∷ xs) h o =
    at_point (λ cs. cs ≡ [] → Before p (last_of x xs)) p q x (corners_on q x xs)
    (λ e k. Before-trans p q (last_of x xs) o (goes_on_up q x xs k (goes_up p q x e o)))
    (λ e k. absurd (cc)) h

goes_on_down : (p q : Point) (xs : List Point) → corners_on p q xs ≡ [] → Before q p → Before (last_of q xs) p
goes_on_down p q [] h o = o
goes_on_down p q (x ∷ xs) h o =
    at_point (λ cs. cs ≡ [] → Before (last_of x xs) p) p q x (corners_on q x xs)
    (λ e k. Before-trans (last_of x xs) q p (goes_on_down q x xs k (goes_down p q x e o)) o)
    (λ e k. absurd (cc)) h

comes_back : (p q x : Point) (xs : List Point) → last_of x xs ≡ q → corners_on p q (x ∷ xs) ≡ [] → ⊥
comes_back p q x xs back h =
    at_point (λ cs. cs ≡ [] → ⊥) p q x (corners_on q x xs)
    (λ e k. goes_either ⊥ p q x e
    (λ o. Before-irreflexive q (subst (λ (r : Point). Before q r) back (goes_on_up q x xs k (goes_up p q x e o))))
    (λ o. Before-irreflexive q (subst (λ (r : Point). Before r q) back (goes_on_down q x xs k (goes_down p q x e o)))))
    (λ e k. cc) h

some_corner : (l p : Point) (points : List Point) → corners_on l p (points ++ p ∷ []) ≡ [] → ⊥
some_corner l p [] h = comes_back l p p [] refl h
some_corner l p (x ∷ points) h = comes_back l p x (points ++ p ∷ []) (last_of-append x p points) h

-- ---- windings

module _ (w : RationalPoint) where
  abbrev wound : List Pair → ℤ
  wound list = gathered ◌+ℤ◌ (pos 0) (step_winding w) list

  abbrev once : Point → Point → ℤ
  once p q = step_winding w (pair_of_points p q)

  -- the steps to q along the list wind as those over the corners
  corners_wind : (c p q : Point) (xs : List Point) → Arrives c p q → once c q +ℤ wound (steps_from q xs) ≡ wound (steps_from c (corners_on p q xs)) +ℤ once (last_of c (corners_on p q xs)) (last_of q xs)
  corners_wind c p q [] h = plain (once c q)
    where
      plain : (u : ℤ) → u +ℤ pos 0 ≡ pos 0 +ℤ u
      plain u = omega (arith, ints)
  corners_wind c p q (x ∷ xs) h =
      at_point (λ cs. once c q +ℤ (once q x +ℤ wound (steps_from x xs)) ≡ wound (steps_from c cs) +ℤ once (last_of c cs) (last_of x xs)) p q x (corners_on q x xs)
      (λ e. over (once c q) (once q x) (once c x) (wound (steps_from x xs)) (joined w c q x (h x ∙ e)) ∙ corners_wind c q x xs (arrives_alike c q x (h x ∙ e)))
      (λ e. turned_at (once c q) (once q x) (wound (steps_from x xs)) (wound (steps_from q (corners_on q x xs))) _ (corners_wind q q x xs (λ y. refl)))
    where
      over : (u v m z : ℤ) → u +ℤ v ≡ m → u +ℤ (v +ℤ z) ≡ m +ℤ z
      over u v m z e = omega (arith, ints, e)

      turned_at : (u v z m n : ℤ) → v +ℤ z ≡ m +ℤ n → u +ℤ (v +ℤ z) ≡ (u +ℤ m) +ℤ n
      turned_at u v z m n e = omega (arith, ints, e)

  last_step : (p z : Point) (xs : List Point) → wound (steps_from p (xs ++ z ∷ [])) ≡ wound (steps_from p xs) +ℤ once (last_of p xs) z
  last_step p z [] = plain (once p z)
    where
      plain : (u : ℤ) → u +ℤ pos 0 ≡ pos 0 +ℤ u
      plain u = omega (arith, ints)
  last_step p z (x ∷ xs) = ap (λ (n : ℤ). once p x +ℤ n) (last_step x z xs) ∙ plain (once p x) (wound (steps_from x xs)) (once (last_of x xs) z)
    where
      plain : (u v n : ℤ) → u +ℤ (v +ℤ n) ≡ (u +ℤ v) +ℤ n
      plain u v n = omega (arith, ints)

-- ---- a contour

module _ (p : Point) (points : List Point) where
  abbrev rest : List Point
  rest = points ++ p ∷ []

  abbrev back : Point
  back = last_of p points

  abbrev ends : List Point
  ends = corners_on back p rest

  -- from the last corner it comes to p as from the last point
  from_corner : Arrives (last_of back ends) back p
  from_corner =
      subst (λ (b : Point). Arrives (last_of back ends) b p) (before_last-append back p p points)
      (subst (λ (z : Point). Arrives (last_of back ends) (before_last back p rest) z) (last_of-append p p points) (last_arrives back back p rest (λ y. refl)))

  -- from one corner on it winds, turns and has edges as it does from p on
  module _ (d : Point) (ds : List Point) (are : ends ≡ d ∷ ds) where
    abbrev last : Point
    last = last_of d ds

    arrives : Arrives last back p
    arrives = subst (λ (l : List Point). Arrives (last_of back l) back p) are from_corner

    wind_alike : (w : RationalPoint) → wound w (steps_of (p ∷ points)) ≡ wound w (steps_of (d ∷ ds))
    wind_alike w =
        cancel _ _ (once w last p)
        (subst (λ (l : List Point). once w last p +ℤ wound w (steps_from p rest) ≡ wound w (steps_from last l) +ℤ once w (last_of last l) p) are
        (subst (λ (z : Point). once w last p +ℤ wound w (steps_from p rest) ≡ wound w (steps_from last ends) +ℤ once w (last_of last ends) z) (last_of-append p p points) (corners_wind w last back p rest arrives)))
        ∙ exchange (once w last d) (wound w (steps_from d ds))
        ∙ sym (last_step w d d ds)
      where
        cancel : (u v n : ℤ) → n +ℤ u ≡ v +ℤ n → u ≡ v
        cancel u v n e = omega (arith, ints, e)

        exchange : (u v : ℤ) → u +ℤ v ≡ v +ℤ u
        exchange u v = omega (arith, ints)

    turn_everywhere : Turns last (d ∷ ds) d
    turn_everywhere =
        turns_to last p d (d ∷ ds)
        (subst (λ (l : List Point). Departs last (first_of p l) p) are (subst (λ (z : Point). Departs last (first_of z ends) p) (last_of-append p p points) (first_departs last back p p rest arrives (λ o. refl))))
        (subst (λ (l : List Point). Turns last l p) are (subst (λ (z : Point). Turns last ends z) (last_of-append p p points) (corners_turn last back p rest arrives)))

    stay_corners : corners (d ∷ ds) ≡ d ∷ ds
    stay_corners = corners_are d ds ∙ turns_are_corners last d d ds turn_everywhere

    stay_edges : list_all is_edge (steps_of (p ∷ points)) ≡ true → list_all is_edge (steps_of (d ∷ ds)) ≡ true
    stay_edges h =
        let there : is_edge (pair_of_points back p) ≡ true = last_of_all p p points h in
        let comes : is_edge (pair_of_points last p) ≡ true =
        subst (λ (l : List Point). is_edge (pair_of_points (last_of back l) p) ≡ true) are (subst (λ (z : Point). is_edge (pair_of_points (last_of back ends) z) ≡ true) (last_of-append p p points) (last_edge back back p rest (λ y. refl) there h)) in
        let all : list_all is_edge (steps_from last (d ∷ ds)) ≡ true = subst (λ (l : List Point). list_all is_edge (steps_from last l) ≡ true) are (keeps_edges last back p rest arrives comes h) in
        let both = and_parts _ _ all in
        closed d d ds both.1 both.0
      where
        last_of_all : (q z : Point) (xs : List Point) → list_all is_edge (steps_from q (xs ++ z ∷ [])) ≡ true → is_edge (pair_of_points (last_of q xs) z) ≡ true
        last_of_all q z [] h = (and_parts _ true h).0
        last_of_all q z (x ∷ xs) h = last_of_all x z xs (and_parts _ _ h).1

        closed : (q z : Point) (xs : List Point) → list_all is_edge (steps_from q xs) ≡ true → is_edge (pair_of_points (last_of q xs) z) ≡ true → list_all is_edge (steps_from q (xs ++ z ∷ [])) ≡ true
        closed q z [] h k = and_from _ _ k refl
        closed q z (x ∷ xs) h k = let both = and_parts _ _ h in and_from _ _ both.0 (closed x z xs both.1 k)

-- what holds of the corners of a contour
record HasCorners (points : List Point) (ends : List Point) : Type 0 where
  pub winds : (w : RationalPoint) → wound w (steps_of points) ≡ wound w (steps_of ends)
  pub stays : corners ends ≡ ends
  pub edges : list_all is_edge (steps_of points) ≡ true → list_all is_edge (steps_of ends) ≡ true
  pub some : points ≢ [] → ends ≢ []

has_corners : (points : List Point) → HasCorners points (corners points)
has_corners [] = subst (HasCorners []) (sym no_corners) (record { winds = λ w. refl; stays = no_corners; edges = λ h. refl; some = λ n. n })
has_corners (p ∷ points) = subst (HasCorners (p ∷ points)) (sym (corners_are p points)) (by (ends p points) refl)
  where
    by : (cs : List Point) → ends p points ≡ cs → HasCorners (p ∷ points) cs
    by [] e = absurd (some_corner (last_of p points) p points e)
    by (d ∷ ds) e = record { winds = wind_alike p points d ds e; stays = stay_corners p points d ds e; edges = stay_edges p points d ds e; some = λ n k. (cc) }

-- ---- contours

gathered-parts : (w : RationalPoint) (xs ys : List Pair) → wound w (xs ++ ys) ≡ wound w xs +ℤ wound w ys
gathered-parts w [] ys = plain (wound w ys)
  where
    plain : (u : ℤ) → u ≡ pos 0 +ℤ u
    plain u = omega (arith, ints)
gathered-parts w (x ∷ xs) ys = ap (λ (n : ℤ). step_winding w x +ℤ n) (gathered-parts w xs ys) ∙ plain (step_winding w x) (wound w xs) (wound w ys)
  where
    plain : (u v n : ℤ) → u +ℤ (v +ℤ n) ≡ (u +ℤ v) +ℤ n
    plain u v n = omega (arith, ints)

all_wound : (w : RationalPoint) (contours : List (List Point)) → wound w (steps (map corners contours)) ≡ wound w (steps contours)
all_wound w [] = refl
all_wound w (c ∷ contours) =
    gathered-parts w (steps_of (corners c)) (steps (map corners contours))
    ∙ ap₂ ◌+ℤ◌ (sym ((has_corners c).winds w)) (all_wound w contours)
    ∙ sym (gathered-parts w (steps_of c) (steps contours))

-- the corners of contours wind as these do
pub corners_wind_alike : (contours : List (List Point)) (w : RationalPoint) → winding_number (map corners contours) w ≡ winding_number contours w
unfolding winding_number
corners_wind_alike contours w = all_wound w contours

-- so they paint the same
pub corners_paint_alike : (contours : List (List Point)) (w : RationalPoint) → is_painted (map corners contours) w ≡ is_painted contours w
corners_paint_alike contours w = paints_by_even_odd (map corners contours) w ∙ ap (is_inside EvenOdd) (corners_wind_alike contours w) ∙ sym (paints_by_even_odd contours w)

-- and they are all corners
pub corners_stay : (contours : List (List Point)) → map corners (map corners contours) ≡ map corners contours
corners_stay [] = refl
corners_stay (c ∷ contours) = ap₂ (λ (p : List Point) (l : List (List Point)). p ∷ l) (has_corners c).stays (corners_stay contours)

all_edges : (contours : List (List Point)) → list_all is_edge (steps contours) ≡ true → list_all is_edge (steps (map corners contours)) ≡ true
all_edges [] h = refl
all_edges (c ∷ contours) h =
    let both = and_parts _ _ (sym (list_all-append is_edge (steps_of c) (steps contours)) ∙ h) in
    list_all-append is_edge (steps_of (corners c)) (steps (map corners contours)) ∙ and_from _ _ ((has_corners c).edges both.0) (all_edges contours both.1)

all_points : (contours : List (List Point)) → AllByRecursion (λ c. c ≢ []) contours → AllByRecursion (λ c. c ≢ []) (map corners contours)
all_points [] h = tt
all_points (c ∷ contours) h = ((has_corners c).some h.0, all_points contours h.1)

pub corners_are_proper : (contours : List (List Point)) → AreProper contours → AreProper (map corners contours)
corners_are_proper contours are = record {
  points = All-from_recursion (λ c. c ≢ []) (map corners contours) (all_points contours (recursion_from_All (λ c. c ≢ []) contours are.points));
  apart = all_edges contours are.apart;
}

-- ---- as code makes them

-- after the last contour
pub all_corners : {X : Type 0} (f : X → List Point) (given : List X) (n : ℕ) (answer : List (List Point)) → answer ≡ map (λ x. corners (f x)) (take n given) → length given ≤ n → answer ≡ map corners (map f given)
all_corners f given n answer e done = all_mapped corners f given given n answer e done refl

pub first_and_rest : {X : Type 0} (P : X → Type 0) (xs : List X) (x : X) (later : List X) → xs ≡ x ∷ later → All P xs → P x × All P later
first_and_rest P xs x later e h =
    let there : All P (x ∷ later) = subst (All P) e h in
    (there 0 x (omega arith), All-tail P x later there)

-- one point more: those that were found, this one if it is a corner, and those that are still to be found
pub one_point : {X : Type 0} (f : X → Point) (xs : List X) (i : ℕ) (x : X) (before at : Point) (end found more all : List Point) → i < length xs → x ≡ get_or xs i x → more ≡ found ++ cond (is_straight before at (f x)) [] (at ∷ []) →
    found ++ corners_on before at (map f (drop i xs) ++ end) ≡ all → more ++ corners_on at (f x) (map f (drop (i + 1) xs) ++ end) ≡ all
one_point f xs i x before at end found more all h is pushed e =
    let next : i + 1 ≡ suc i = omega arith in
    ap₂ (λ (l : List Point) (n : ℕ). l ++ corners_on at (f x) (map f (drop n xs) ++ end)) pushed next
    ∙ by (is_straight before at (f x)) (corners_on at (f x) (map f (drop (suc i) xs) ++ end))
    ∙ ap (λ (l : List _). found ++ corners_on before at (map f l ++ end)) (sym (drop_at xs i x h is))
    ∙ e
  where
    by : (b : Bool) (rest : List Point) → (found ++ cond b [] (at ∷ [])) ++ rest ≡ found ++ cond b rest (at ∷ rest)
    by true rest = ap (λ (l : List Point). l ++ rest) (append-nil found)
    by false rest = append_assoc found (at ∷ []) rest

-- and the last one
pub last_point : {X : Type 0} (f : X → Point) (xs : List X) (i : ℕ) (before at first : Point) (found more : List Point) → length xs ≤ i → more ≡ found ++ cond (is_straight before at first) [] (at ∷ []) →
    found ++ corners_on before at (map f (drop i xs) ++ first ∷ []) ≡ corners_on (last_of first (map f xs)) first (map f xs ++ first ∷ []) → more ≡ corners (first ∷ map f xs)
last_point f xs i before at first found more done pushed e =
    pushed ∙ ap (λ (l : List _). found ++ corners_on before at (map f l ++ first ∷ [])) (sym (drop_all xs i done)) ∙ e ∙ sym (corners_are first (map f xs))

-- of lists whose points all pass a test, the one at an index
pub list_passes_at : {X : Type 0} (f : X → List Point) (test : Point → Bool) (xs : List X) (i : ℕ) (x : X) → i < length xs → x ≡ get_or xs i x → list_all (λ c. list_all test c) (map f xs) ≡ true → list_all test (f x) ≡ true
list_passes_at f test [] i x h is all = absurd (omega arith)
list_passes_at f test (y ∷ ys) zero x h is all = ap (λ (z : _). list_all test (f z)) is ∙ (and_parts (list_all test (f y)) (list_all (λ c. list_all test c) (map f ys)) all).0
list_passes_at f test (y ∷ ys) (suc i) x h is all = list_passes_at f test ys i x (omega arith) is (and_parts (list_all test (f y)) (list_all (λ c. list_all test c) (map f ys)) all).1

-- of lists whose points all pass a test, those of the list at an index
pub all_pass_at : {X Y : Type 0} (f : X → List Y) (g : Y → Point) (test : Point → Bool) (xs : List X) (i : ℕ) (x : X) → i < length xs → x ≡ get_or xs i x → list_all (λ c. list_all test c) (map (λ z. map g (f z)) xs) ≡ true → All (λ y. test (g y) ≡ true) (f x)
all_pass_at f g test xs i x h is all =
    All-from_recursion (λ y. test (g y) ≡ true) (f x)
    (AllByRecursion-from_list_all (λ y. test (g y)) (f x) (sym (list_all-map test g (f x)) ∙ list_passes_at (λ z. map g (f z)) test xs i x h is all))
