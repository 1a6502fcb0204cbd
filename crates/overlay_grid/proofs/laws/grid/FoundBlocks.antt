-- The walk over the fragments that follow one in a group, block by block.
use Rattle.std.proofs.Common.{◌≡◌, refl, sym, ap, subst, ◌∙◌, ℕ, ◌+◌, ◌-◌, ◌<◌, ◌≤◌, zero, suc, arith, append_assoc, append-nil, Bool, true, false, ◌||◌, if◌then◌else◌, List, [], ◌∷◌, ◌++◌, take, drop, length, get_or, set}
use mir.Val.{bool_byte}
use Rattle.std.specs.Prelude.{ℤ, flat_map, count_by, ◌<ℤ◌, int_lt}
use Rattle.std.specs.List.{list_any, AllByRecursion}
use Rattle.std.proofs.lemmas.Grind.{flat_map-append}
use Rattle.std.proofs.lemmas.List.{take_more_set, take-set, get_or-map}
use Rattle.std.proofs.lemmas.List.Folds.{list_any-append}
use Rattle.overlay_geometry.specs.Ranges.{do_rects_meet}
use Rattle.overlay_intersections.specs.Marks.{Placing}
use Rattle.overlay_intersections.specs.MarkOf.{Mark}
use Rattle.overlay_grid.specs.FragmentOf.{KeptFragment, fragment_of, fragments_of, least_along, greatest_along, IsSortedAlong}
use Rattle.overlay_grid.specs.declared.split.axis.Axis.{Axis}
use Rattle.overlay_grid.specs.declared.split.fragment.Fragment.{Fragment as CodeFragment}
use Rattle.overlay_grid.specs.ColumnLooks.{is_reached}
use Rattle.overlay_grid.specs.steps.FragmentFinder.{marks_of_two, meet_inexactly, marks_with_places, is_rounded_at, AreListed}
use Rattle.overlay_intersections.proofs.laws.marks.FoundMarks.{or_assoc, or_true, or_false}
use Rattle.overlay_grid.proofs.laws.grid.FoundFragments.{IsScanned, IsSortedAlong-drop, past_from, two_apart, two_exact, count_by-first, reached_from}
use Rattle.overlay_geometry.proofs.laws.integers.Tests.{lt-tested}

-- ---- where a block ends

pub counted-more : (axis : Axis) (f g : KeptFragment) (fs : List KeptFragment) (later end : ℕ) → later ≤ end → count_by (λ u. is_reached axis f u) (drop later fs) ≡ end - later + count_by (λ u. is_reached axis f u) (drop end fs) → drop end fs ≡ g ∷ drop (end + 1) fs →
    int_lt (greatest_along axis f) (least_along axis g) ≡ false → count_by (λ u. is_reached axis f u) (drop later fs) ≡ end + 1 - later + count_by (λ u. is_reached axis f u) (drop (end + 1) fs)
counted-more axis f g fs later end le h here p =
    let e = ap (count_by (λ u. is_reached axis f u)) here ∙ count_by-first (λ u. is_reached axis f u) g (drop (end + 1) fs) (reached_from axis f g p) in
    omega arith

pub all_past : (axis : Axis) (f g : KeptFragment) (fs : List KeptFragment) (end : ℕ) → IsSortedAlong axis fs → drop end fs ≡ g ∷ drop (end + 1) fs → int_lt (greatest_along axis f) (least_along axis g) ≡ true → AllByRecursion (λ u. greatest_along axis f <ℤ least_along axis u) (drop end fs)
all_past axis f g fs end sorted here past =
    subst (AllByRecursion (λ u. greatest_along axis f <ℤ least_along axis u)) (sym here)
    (past_from axis (greatest_along axis f) g (drop (end + 1) fs) (subst (IsSortedAlong axis) here (IsSortedAlong-drop axis end fs sorted)) (lt-tested _ _ past))

-- ---- what is listed

from_drop : {X : Type 0} (xs : List X) (i : ℕ) (x d : X) (rest : List X) → drop i xs ≡ x ∷ rest → get_or xs i d ≡ x
from_drop [] zero x d rest e = cc
from_drop [] (suc i) x d rest e = cc
from_drop (y ∷ ys) zero x d rest e = cc
from_drop (y ∷ ys) (suc i) x d rest e = from_drop ys i x d rest e

all-append : {X : Type 0} (P : X → Type 0) (xs : List X) (x : X) → AllByRecursion P xs → P x → AllByRecursion P (xs ++ x ∷ [])
all-append P [] x h p = (p, tt)
all-append P (y ∷ ys) x h p = (h.0, all-append P ys x h.1 p)

pub with_one_more : (placing : Placing) (f : KeptFragment) (fs : List KeptFragment) (places : List ℕ) (place : ℕ) → marks_with_places placing f fs (places ++ place ∷ []) ≡ marks_with_places placing f fs places ++ marks_of_two placing f (get_or fs place f)
with_one_more placing f fs places place =
    flat_map-append (λ (j : ℕ). marks_of_two placing f (get_or fs j f)) places (place ∷ []) ∙ ap (λ (ms : List Mark). marks_with_places placing f fs places ++ ms) (append-nil (marks_of_two placing f (get_or fs place f)))

pub rounded_one_more : (f : KeptFragment) (fs : List KeptFragment) (places : List ℕ) (place : ℕ) → is_rounded_at f fs (places ++ place ∷ []) ≡ (is_rounded_at f fs places || meet_inexactly f (get_or fs place f))
rounded_one_more f fs places place =
    list_any-append (λ (j : ℕ). meet_inexactly f (get_or fs j f)) places (place ∷ []) ∙ ap (λ (b : Bool). is_rounded_at f fs places || b) (sym (or_false (meet_inexactly f (get_or fs place f))))

listed-met : (fs : List KeptFragment) (f g : KeptFragment) (from place : ℕ) (places : List ℕ) → AreListed fs f from place places → drop place fs ≡ g ∷ drop (place + 1) fs → place < length fs → AreListed fs f from (place + 1) (places ++ place ∷ [])
listed-met fs f g from place places w here lt =
    let at = from_drop fs place g f (drop (place + 1) fs) here in
    record {
      within = all-append (λ j. j < length fs) places place w.within lt;
      marks = λ placing. ap (λ (ms : List Mark). ms ++ flat_map (λ u. marks_of_two placing f u) (drop (place + 1) fs)) (with_one_more placing f fs places place ∙ ap (λ (u : KeptFragment). marks_with_places placing f fs places ++ marks_of_two placing f u) at)
          ∙ append_assoc (marks_with_places placing f fs places) (marks_of_two placing f g) (flat_map (λ u. marks_of_two placing f u) (drop (place + 1) fs))
          ∙ ap (λ (us : List KeptFragment). marks_with_places placing f fs places ++ flat_map (λ u. marks_of_two placing f u) us) (sym here) ∙ w.marks placing;
      flag = ap (λ (b : Bool). b || list_any (λ u. meet_inexactly f u) (drop (place + 1) fs)) (rounded_one_more f fs places place ∙ ap (λ (u : KeptFragment). is_rounded_at f fs places || meet_inexactly f u) at)
          ∙ or_assoc (is_rounded_at f fs places) (meet_inexactly f g) (list_any (λ u. meet_inexactly f u) (drop (place + 1) fs))
          ∙ ap (λ (us : List KeptFragment). is_rounded_at f fs places || list_any (λ u. meet_inexactly f u) us) (sym here) ∙ w.flag;
    }

listed-apart : (fs : List KeptFragment) (f g : KeptFragment) (from place : ℕ) (places : List ℕ) → AreListed fs f from place places → drop place fs ≡ g ∷ drop (place + 1) fs → do_rects_meet f.rect g.rect ≡ false → AreListed fs f from (place + 1) places
listed-apart fs f g from place places w here e = record {
  within = w.within;
  marks = λ placing. sym (ap (λ (us : List KeptFragment). marks_with_places placing f fs places ++ flat_map (λ u. marks_of_two placing f u) us) here
      ∙ ap (λ (ms : List Mark). marks_with_places placing f fs places ++ (ms ++ flat_map (λ u. marks_of_two placing f u) (drop (place + 1) fs))) (two_apart placing f g e)) ∙ w.marks placing;
  flag = sym (ap (λ (us : List KeptFragment). is_rounded_at f fs places || list_any (λ u. meet_inexactly f u) us) here
      ∙ ap (λ (b : Bool). is_rounded_at f fs places || (b || list_any (λ u. meet_inexactly f u) (drop (place + 1) fs))) (two_exact f g e)) ∙ w.flag;
}

pub listed-more : (fs : List KeptFragment) (f g : KeptFragment) (from place count : ℕ) (found : List ℕ) (b : Bool) → AreListed fs f from place (take count found) → drop place fs ≡ g ∷ drop (place + 1) fs → place < length fs → count < length found → b ≡ do_rects_meet f.rect g.rect →
    AreListed fs f from (place + 1) (take (count + (if b then 1 else 0)) (set found count place))
listed-more fs f g from place count found true w here lt room e =
    subst (AreListed fs f from (place + 1)) (sym (take_more_set found count place room)) (listed-met fs f g from place (take count found) w here lt)
listed-more fs f g from place count found false w here lt room e =
    subst (AreListed fs f from (place + 1)) (sym (ap (λ (n : ℕ). take n (set found count place)) (let z : count + 0 ≡ count = omega arith in z) ∙ take-set found count place)) (listed-apart fs f g from place (take count found) w here (sym e))

-- ---- a block of the walk

pub block-more : (placing : Placing) (axis : Axis) (fs : List KeptFragment) (f : KeptFragment) (rest : List KeptFragment) (old now next : List Mark) (rounded b : Bool) (first looks looks' later end : ℕ) (places : List ℕ) →
    IsScanned placing axis f rest old now rounded first looks (drop later fs) → AreListed fs f later end places → next ≡ now ++ marks_with_places placing f fs places → b ≡ (rounded || is_rounded_at f fs places) → looks' ≤ looks + (end - later) →
    count_by (λ u. is_reached axis f u) (drop later fs) ≡ end - later + count_by (λ u. is_reached axis f u) (drop end fs) → IsScanned placing axis f rest old next b first looks' (drop end fs)
block-more placing axis fs f rest old now next rounded b first looks looks' later end places w l n r le c = record {
  found = ap (λ (ms : List Mark). ms ++ flat_map (λ u. marks_of_two placing f u) (drop end fs)) n ∙ append_assoc now (marks_with_places placing f fs places) (flat_map (λ u. marks_of_two placing f u) (drop end fs))
      ∙ ap (λ (ms : List Mark). now ++ ms) (l.marks placing) ∙ w.found;
  flag = ap (λ (d : Bool). d || list_any (λ u. meet_inexactly f u) (drop end fs)) r ∙ or_assoc rounded (is_rounded_at f fs places) (list_any (λ u. meet_inexactly f u) (drop end fs)) ∙ ap (λ (d : Bool). rounded || d) l.flag ∙ w.flag;
  count = (let k = w.count in omega arith);
}

-- ---- a fragment at a place

pub placed : {I : Type 0} (whole : I → ℤ) (group : List (CodeFragment I)) (place : ℕ) (x : CodeFragment I) (f : KeptFragment) → place < length group → x ≡ get_or group place x → get_or (fragments_of whole group) place f ≡ fragment_of whole x
placed whole group place x f lt e = get_or-map (fragment_of whole) group place x f lt ∙ ap (fragment_of whole) (sym e)

pub as_number : (b : Bool) → bool_byte b ≡ (if b then 1 else 0)
as_number true = refl
as_number false = refl

pub at_most_one : (b : Bool) (n : ℕ) → n ≡ (if b then 1 else 0) → n ≤ 1
at_most_one true n e = omega arith
at_most_one false n e = omega arith

pub at_each : {X : Type 0} (P : X → Type 0) (xs : List X) (i : ℕ) (d : X) → i < length xs → AllByRecursion P xs → P (get_or xs i d)
at_each P [] i d lt h = absurd (omega arith)
at_each P (x ∷ xs) zero d lt h = h.0
at_each P (x ∷ xs) (suc i) d lt h = at_each P xs i d (omega arith) h.1

-- whether a flag is raised
pub raised : (before found : Bool) → found ≡ true → true ≡ (before || found)
raised before found e = or_true before ∙ ap (λ (b : Bool). before || b) (sym e)

pub not_raised : (before found : Bool) → found ≡ false → before ≡ (before || found)
not_raised before found e = or_false before ∙ ap (λ (b : Bool). before || b) (sym e)
