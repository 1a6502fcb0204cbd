-- The walk over the fragments that follow one in a group, and what it finds.
use Rattle.std.proofs.Common.{◌≡◌, refl, sym, ap, ap₂, subst, ◌∙◌, ℕ, ◌+◌, ◌<◌, ◌≤◌, zero, suc, arith, append_assoc, append-nil, Bool, true, false, ◌&&◌, ◌||◌, if◌then◌else◌, IsTrue, List, [], ◌∷◌, ◌++◌, drop, length, get_or, min, ◌≢◌}
use Rattle.std.specs.Prelude.{ℤ, flat_map, count_by, ◌≤ℤ◌, ◌<ℤ◌, int_le, int_lt}
use Rattle.std.specs.List.{list_any, AllByRecursion}
use Rattle.std.proofs.lemmas.Int.{ints}
use Rattle.overlay_geometry.specs.Points.{Pair, pair_lt}
use Rattle.std.proofs.lemmas.List.Sums.{sum_by-cons}
use Rattle.std.proofs.lemmas.Bool.{and_parts}
use Rattle.overlay_geometry.proofs.laws.lists.Elements.{AllByRecursion-drop}
use Rattle.overlay_geometry.proofs.laws.geometry.Coordinates.{ends_in_range}
use Rattle.overlay_geometry.specs.InRange.{IsPairInRange}
use Rattle.overlay_intersections.proofs.laws.marks.ApartPairs.{ends_differ}
use Rattle.overlay_geometry.specs.Ranges.{do_rects_meet}
use Rattle.overlay_intersections.specs.Marks.{Placing, cross_inexactly}
use Rattle.overlay_intersections.specs.MarkOf.{Mark}
use Rattle.overlay_intersections.specs.MarksBetween.{marks_between}
use Rattle.overlay_intersections.specs.Looked.{count_twos}
use Rattle.overlay_grid.specs.FragmentOf.{KeptFragment, fragment_of, fragments_of, least_along, greatest_along, IsSortedAlong}
use Rattle.overlay_grid.specs.declared.split.axis.Axis.{Axis}
use Rattle.overlay_grid.specs.declared.split.axis.Axis.TheVariants.{X, Y}
use Rattle.overlay_grid.specs.declared.split.fragment.Fragment.{Fragment as CodeFragment}
use Rattle.overlay_grid.specs.ColumnLooks.{is_reached}
use Rattle.overlay_grid.specs.steps.FragmentFinder.{marks_of_two, marks_with_first, marks_of_group, meet_inexactly, is_first_rounded, is_group_rounded, looks_of_first, is_ready}
use Rattle.overlay_intersections.proofs.laws.marks.FoundMarks.{or_assoc, or_false}

-- ---- two fragments

pub two_apart : (placing : Placing) (f g : KeptFragment) → do_rects_meet f.rect g.rect ≡ false → marks_of_two placing f g ≡ []
unfolding marks_of_two
two_apart placing f g e = ap (λ (b : Bool). if b then (if pair_lt f.pair g.pair then marks_between placing f.index f.pair g.index g.pair else marks_between placing g.index g.pair f.index f.pair) else []) e

pub two_first : (placing : Placing) (f g : KeptFragment) → do_rects_meet f.rect g.rect ≡ true → pair_lt f.pair g.pair ≡ true → marks_of_two placing f g ≡ marks_between placing f.index f.pair g.index g.pair
unfolding marks_of_two
two_first placing f g e h = ap₂ (λ (b c : Bool). if b then (if c then marks_between placing f.index f.pair g.index g.pair else marks_between placing g.index g.pair f.index f.pair) else []) e h

pub two_second : (placing : Placing) (f g : KeptFragment) → do_rects_meet f.rect g.rect ≡ true → pair_lt f.pair g.pair ≡ false → marks_of_two placing f g ≡ marks_between placing g.index g.pair f.index f.pair
unfolding marks_of_two
two_second placing f g e h = ap₂ (λ (b c : Bool). if b then (if c then marks_between placing f.index f.pair g.index g.pair else marks_between placing g.index g.pair f.index f.pair) else []) e h

pub two_exact : (f g : KeptFragment) → do_rects_meet f.rect g.rect ≡ false → meet_inexactly f g ≡ false
two_exact f g e = ap (λ (b : Bool). b && cross_inexactly f.pair g.pair) e

pub two_rounded : (f g : KeptFragment) → do_rects_meet f.rect g.rect ≡ true → meet_inexactly f g ≡ cross_inexactly f.pair g.pair
two_rounded f g e = ap (λ (b : Bool). b && cross_inexactly f.pair g.pair) e

-- one that begins past the other's end along an axis does not meet it
pub apart_past : (axis : Axis) (f g : KeptFragment) → greatest_along axis f <ℤ least_along axis g → do_rects_meet f.rect g.rect ≡ false
apart_past X f g h = grind (arith, ints)
apart_past Y f g h = grind (arith, ints)

-- one that does not begin past the other's end is reached from it
pub reached_from : (axis : Axis) (f g : KeptFragment) → int_lt (greatest_along axis f) (least_along axis g) ≡ false → is_reached axis f g ≡ true
reached_from axis f g h = not_past (greatest_along axis f) (least_along axis g) h
  where
    not_past : (a b : ℤ) → int_lt a b ≡ false → int_le b a ≡ true
    not_past a b k = grind (arith, ints)

-- ---- the walk

-- where the walk over those that follow one is: what it has found and what is left make up the whole, and so do its looks
pub record IsScanned (placing : Placing) (axis : Axis) (f : KeptFragment) (rest : List KeptFragment) (old now : List Mark) (rounded : Bool) (first looks : ℕ) (left : List KeptFragment) : Type 0 where
  pub found : now ++ flat_map (λ g. marks_of_two placing f g) left ≡ old ++ flat_map (λ g. marks_of_two placing f g) rest
  pub flag : (rounded || list_any (λ g. meet_inexactly f g) left) ≡ list_any (λ g. meet_inexactly f g) rest
  pub count : looks + count_by (λ g. is_reached axis f g) left ≤ first + count_by (λ g. is_reached axis f g) rest

one_more : (b : Bool) (n : ℕ) → b ≡ true → (if b then 1 else 0) + n ≡ 1 + n
one_more b n e = ap (λ (c : Bool). (if c then 1 else 0) + n) e

pub count_by-first : {X : Type 0} (p : X → Bool) (x : X) (xs : List X) → p x ≡ true → count_by p (x ∷ xs) ≡ 1 + count_by p xs
count_by-first p x xs e = sum_by-cons (λ y. if p y then 1 else 0) x xs ∙ one_more (p x) (count_by p xs) e

-- none of what is left meets f
pub none_meet : (placing : Placing) (axis : Axis) (f : KeptFragment) (left : List KeptFragment) → AllByRecursion (λ g. greatest_along axis f <ℤ least_along axis g) left → (flat_map (λ g. marks_of_two placing f g) left ≡ []) × (list_any (λ g. meet_inexactly f g) left ≡ false)
none_meet placing axis f [] h = (refl, refl)
none_meet placing axis f (g ∷ left) h =
    let e = apart_past axis f g h.0 in
    let rest = none_meet placing axis f left h.1 in
    (ap₂ (λ (ms ns : List Mark). ms ++ ns) (two_apart placing f g e) rest.0, ap₂ (λ (b c : Bool). b || c) (two_exact f g e) rest.1)

-- what the walk has found at its end
pub record IsScannedAll (placing : Placing) (axis : Axis) (f : KeptFragment) (rest : List KeptFragment) (old now : List Mark) (rounded : Bool) (first looks : ℕ) : Type 0 where
  pub found : now ≡ old ++ flat_map (λ g. marks_of_two placing f g) rest
  pub flag : rounded ≡ list_any (λ g. meet_inexactly f g) rest
  pub count : looks ≤ first + count_by (λ g. is_reached axis f g) rest

pub IsScanned-end : (placing : Placing) (axis : Axis) (f : KeptFragment) (rest : List KeptFragment) (old now : List Mark) (rounded : Bool) (first looks : ℕ) (left : List KeptFragment) →
    IsScanned placing axis f rest old now rounded first looks left → AllByRecursion (λ g. greatest_along axis f <ℤ least_along axis g) left → IsScannedAll placing axis f rest old now rounded first looks
IsScanned-end placing axis f rest old now rounded first looks left w h =
    let none = none_meet placing axis f left h in
    record {
      found = sym (append-nil now) ∙ ap (λ (ms : List Mark). now ++ ms) (sym none.0) ∙ w.found;
      flag = or_false rounded ∙ ap (λ (b : Bool). rounded || b) (sym none.1) ∙ w.flag;
      count = (let c = w.count in omega arith);
    }

-- ---- the order of a group

-- from one that begins past an end on, all do
pub past_from : (axis : Axis) (end : ℤ) (g : KeptFragment) (left : List KeptFragment) → IsSortedAlong axis (g ∷ left) → end <ℤ least_along axis g → AllByRecursion (λ u. end <ℤ least_along axis u) (g ∷ left)
past_from axis end g left s h = (h, later left s.0)
  where
    later : (us : List KeptFragment) → AllByRecursion (λ u. least_along axis g ≤ℤ least_along axis u) us → AllByRecursion (λ u. end <ℤ least_along axis u) us
    later [] k = tt
    later (u ∷ us) k = (omega (arith, ints), later us k.1)

pub IsSortedAlong-drop : (axis : Axis) (i : ℕ) (fs : List KeptFragment) → IsSortedAlong axis fs → IsSortedAlong axis (drop i fs)
IsSortedAlong-drop axis zero fs r = r
IsSortedAlong-drop axis (suc i) [] r = r
IsSortedAlong-drop axis (suc i) (f ∷ fs) r = IsSortedAlong-drop axis i fs r.1

-- ---- the walk over all

pub record IsSearched (placing : Placing) (axis : Axis) (group : List KeptFragment) (old now : List Mark) (rounded : Bool) (first looks : ℕ) (left : List KeptFragment) : Type 0 where
  pub found : now ++ marks_of_group placing left ≡ old ++ marks_of_group placing group
  pub flag : (rounded || is_group_rounded left) ≡ is_group_rounded group
  pub count : looks + count_twos (is_reached axis) left ≤ first + count_twos (is_reached axis) group

-- one more with those that follow it
pub IsSearched-more : (placing : Placing) (axis : Axis) (f : KeptFragment) (group : List KeptFragment) (old now next : List Mark) (rounded b c : Bool) (first looks looks' : ℕ) (left : List KeptFragment) →
    IsSearched placing axis group old now rounded first looks (f ∷ left) → IsScannedAll placing axis f left now next c looks looks' → b ≡ (rounded || c) → IsSearched placing axis group old next b first looks' left
unfolding marks_of_group is_group_rounded count_twos
IsSearched-more placing axis f group old now next rounded b c first looks looks' left w s r = record {
  found = ap (λ (ms : List Mark). ms ++ marks_of_group placing left) s.found ∙ append_assoc now (flat_map (λ g. marks_of_two placing f g) left) (marks_of_group placing left) ∙ w.found;
  flag = ap (λ (d : Bool). d || is_group_rounded left) (r ∙ ap (λ (d : Bool). rounded || d) s.flag) ∙ or_assoc rounded (list_any (λ g. meet_inexactly f g) left) (is_group_rounded left) ∙ w.flag;
  count = (let m = w.count in let n = s.count in omega arith);
}

pub IsSearched-end : (placing : Placing) (axis : Axis) (group : List KeptFragment) (old now : List Mark) (rounded : Bool) (first looks : ℕ) (left : List KeptFragment) → IsSearched placing axis group old now rounded first looks left → left ≡ [] →
    (now ≡ old ++ marks_of_group placing group) × (rounded ≡ is_group_rounded group) × (looks ≤ first + count_twos (is_reached axis) group)
unfolding marks_of_group is_group_rounded count_twos
IsSearched-end placing axis group old now rounded first looks left w e =
    let found = rw e at w.found in
    let flag = rw e at w.flag in
    let count = rw e at w.count in
    (sym (append-nil now) ∙ found, or_false rounded ∙ flag, omega arith)

-- ---- two fragments as code hands them on

pub as_first : (placing : Placing) (f g : KeptFragment) (i j : ℕ) (s t : Pair) → i ≡ f.index → s ≡ f.pair → j ≡ g.index → t ≡ g.pair → do_rects_meet f.rect g.rect ≡ true → pair_lt f.pair g.pair ≡ true → marks_between placing i s j t ≡ marks_of_two placing f g
as_first placing f g i j s t a b c d e h = rw (a, b, c, d) (sym (two_first placing f g e h))

pub as_second : (placing : Placing) (f g : KeptFragment) (i j : ℕ) (s t : Pair) → i ≡ f.index → s ≡ f.pair → j ≡ g.index → t ≡ g.pair → do_rects_meet f.rect g.rect ≡ true → pair_lt f.pair g.pair ≡ false → marks_between placing j t i s ≡ marks_of_two placing f g
as_second placing f g i j s t a b c d e h = rw (a, b, c, d) (sym (two_second placing f g e h))

-- ---- elements of a group, one after another

pub fragments-next : {I : Type 0} (whole : I → ℤ) (group : List (CodeFragment I)) (j : ℕ) (f : CodeFragment I) → j < length group → f ≡ get_or group j f → drop j (fragments_of whole group) ≡ fragment_of whole f ∷ drop (j + 1) (fragments_of whole group)
fragments-next whole [] j f lt e = absurd (omega arith)
fragments-next whole (x ∷ group) zero f lt e = ap (λ (u : CodeFragment _). fragment_of whole u ∷ fragments_of whole group) (sym e)
fragments-next whole (x ∷ group) (suc j) f lt e = fragments-next whole group j f (omega arith) e ∙ ap (λ (n : ℕ). fragment_of whole f ∷ drop n (fragments_of whole (x ∷ group))) (let m : suc (j + 1) ≡ suc j + 1 = omega arith in m)

pub fragments-none : {I : Type 0} (whole : I → ℤ) (group : List (CodeFragment I)) (j : ℕ) → length group ≤ j → drop j (fragments_of whole group) ≡ []
fragments-none whole [] zero h = refl
fragments-none whole [] (suc j) h = refl
fragments-none whole (x ∷ group) zero h = absurd (omega arith)
fragments-none whole (x ∷ group) (suc j) h = fragments-none whole group j (omega arith)

-- ---- what the walk over those that follow the first has found

pub scanned_found : (placing : Placing) (axis : Axis) (fs : List KeptFragment) (f : KeptFragment) (rest : List KeptFragment) (old now : List Mark) (rounded : Bool) (first looks : ℕ) → fs ≡ f ∷ rest → IsScannedAll placing axis f rest old now rounded first looks →
    (now ≡ old ++ marks_with_first placing fs) × (rounded ≡ is_first_rounded fs) × (looks ≤ first + looks_of_first axis fs)
unfolding marks_with_first is_first_rounded looks_of_first
scanned_found placing axis fs f rest old now rounded first looks e s = rw e (s.found, s.flag, (let c = s.count in omega arith))

-- the walk that has come to the end of a group, or to one that begins past the first's end
pub scanned_all : (placing : Placing) (axis : Axis) (fs : List KeptFragment) (f : KeptFragment) (rest : List KeptFragment) (old now : List Mark) (rounded : Bool) (first looks : ℕ) (left : List KeptFragment) →
    fs ≡ f ∷ rest → IsScanned placing axis f rest old now rounded first looks left → left ≡ [] → (now ≡ old ++ marks_with_first placing fs) × (rounded ≡ is_first_rounded fs) × (looks ≤ first + looks_of_first axis fs)
scanned_all placing axis fs f rest old now rounded first looks left e w none =
    scanned_found placing axis fs f rest old now rounded first looks e (IsScanned-end placing axis f rest old now rounded first looks left w (subst (AllByRecursion (λ u. greatest_along axis f <ℤ least_along axis u)) (sym none) tt))

pub found_scanned : (placing : Placing) (axis : Axis) (fs : List KeptFragment) (f : KeptFragment) (rest : List KeptFragment) (old now : List Mark) (rounded : Bool) (first looks : ℕ) → fs ≡ f ∷ rest →
    now ≡ old ++ marks_with_first placing fs → rounded ≡ is_first_rounded fs → looks ≤ first + looks_of_first axis fs → IsScannedAll placing axis f rest old now rounded first looks
unfolding marks_with_first is_first_rounded looks_of_first
found_scanned placing axis fs f rest old now rounded first looks e a b c =
    let a' = rw e at a in
    let b' = rw e at b in
    let c' = rw e at c in
    record { found = a'; flag = b'; count = omega arith }

-- ---- what the conditions on a group say of its fragments

pub ready_at : (least greatest : ℤ) (fs : List KeptFragment) (j : ℕ) (f : KeptFragment) (rest : List KeptFragment) → AllByRecursion (λ u. IsTrue (is_ready least greatest u)) fs → drop j fs ≡ f ∷ rest → IsTrue (is_ready least greatest f)
ready_at least greatest fs j f rest all e = (subst (λ (us : List KeptFragment). AllByRecursion (λ u. IsTrue (is_ready least greatest u)) us) e (AllByRecursion-drop (λ u. IsTrue (is_ready least greatest u)) j fs all)).0

pub ready_range : {I : Type 0} (whole : I → ℤ) (least greatest : I) (f : CodeFragment I) → IsTrue (is_ready (whole least) (whole greatest) (fragment_of whole f)) → IsPairInRange whole least greatest f.x_segment
ready_range whole least greatest f h = ends_in_range whole least greatest f.x_segment (and_parts _ _ h).0

pub ready_apart : (least greatest : ℤ) (f : KeptFragment) → IsTrue (is_ready least greatest f) → f.pair.a ≢ f.pair.b
ready_apart least greatest f h = ends_differ f.pair (and_parts _ _ h).1

pub at_most_one_more : (n m k : ℕ) → m ≡ min (n + 1) k → m ≤ n + 1
at_most_one_more n m k e = omega arith

pub fragments-some : {I : Type 0} (whole : I → ℤ) (group : List (CodeFragment I)) (j : ℕ) → j < length group → (f : KeptFragment) × (drop j (fragments_of whole group) ≡ f ∷ drop (j + 1) (fragments_of whole group))
fragments-some whole [] j lt = absurd (omega arith)
fragments-some whole (x ∷ group) zero lt = (fragment_of whole x, refl)
fragments-some whole (x ∷ group) (suc j) lt = let r = fragments-some whole group j (omega arith) in (r.0, r.1 ∙ ap (λ (n : ℕ). r.0 ∷ drop n (fragments_of whole (x ∷ group))) (let m : suc (j + 1) ≡ suc j + 1 = omega arith in m))
