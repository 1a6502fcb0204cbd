-- What a walk along lines keeps from end to end, and that at its end the pieces are what the given segments are together.
use Rattle.std.proofs.Common.{◌≡◌, ◌∙◌, ◌⊎◌, ⊎_elim, inl, inr, refl, sym, ap, ap₂, subst, arith, cond, not, ℕ, ◌+◌, Bool, true, false, ◌&&◌, ◌||◌, IsTrue, IsFalse, List, [], ◌∷◌, ◌++◌, map, filter, bit_or}
use Rattle.std.specs.List.{list_any}
use Rattle.std.specs.Prelude.{ℤ, pos, ◌+ℤ◌, ◌-ℤ◌, neg_ℤ, ◌≤ℤ◌, ◌<ℤ◌, Contains, IsPermutation}
use Rattle.std.proofs.lemmas.Int.{ints}
use Rattle.std.proofs.lemmas.Bool.{and_parts, and_from, both_ways, cases_Bool, cond-true, cond-false, false_from_ne_true, or_parts}
use Rattle.std.proofs.lemmas.List.{map-append}
use Rattle.overlay_geometry.specs.Points.{Point, Pair, point_lt, is_strictly_inside}
use Rattle.overlay_geometry.specs.Meeting.{are_collinear}
use Rattle.overlay_geometry.proofs.laws.geometry.Points.{Before, UpTo, before, from_before, not_before, by_order, UpTo-Before, UpTo-same, UpTo-trans, UpTo-not_Before, Before-trans, Before-UpTo-trans, UpTo-Before-trans, lies_on_order, lies_on_from_order, inside_from_order, turn_same_outer, turn_same_last, are_collinear_turns, are_collinear_from, are_collinear_swap}
use Rattle.overlay_geometry.proofs.laws.lists.Lists.{Has, Has-append_left, Has-append_right, Has-map, Has-map_out, Has-flat_map, Has-from_list_any}
use Rattle.overlay_geometry.proofs.laws.lists.Elements.{Contains-from_Has, Has-from_Contains, Has-append_out, Has-flat_map_out, Has-permutation}
use Rattle.overlay_base.specs.Sums.{gathered}
use Rattle.overlay_base.specs.Windings.{Winding, add, swap_directions, inverse, empty, total}
use Rattle.overlay_base.specs.Segments.{WholeSegment, pairs, counts, ends, are_ordered}
use Rattle.overlay_base.proofs.laws.joins.Functionals.{whole_numbers_add}
use Rattle.overlay_base.proofs.laws.lists.Monoids.{gathered-append, gathered-IsPermutation}
use Rattle.overlay_cuts.specs.ExactInput.{contains_pair, count_along}
use Rattle.overlay_cuts.proofs.laws.planar.Meetings.{are_collinear-trans, same_tests}
use Rattle.overlay_cuts.proofs.laws.planar.ExactMarks.{In-ordered}
use Rattle.overlay_cuts.proofs.laws.planar.ExactInputs.{contains_from, contains_parts}
use Rattle.overlay_snapping.specs.steps.Resolved.{AreResolved, HasCut}
use Rattle.overlay_snapping.specs.steps.LineWalks.{End, place, gain, Walk, Jumps, Steps, Comes, stays, jumps, steps, Adds, Takes, ends_of_each}

-- ---- along an ordered pair

-- x where a pair contains e
pub along : Pair → Pair → ℤ → ℤ
along e t x = cond (contains_pair t e) x (pos 0)

-- p is not behind the start of e on the line
pub is_up_to : Pair → Pair → Point → Bool
is_up_to e line p = are_collinear line e && not (point_lt e.a p)

-- x where it is so
pub up_to : Pair → Pair → Point → ℤ → ℤ
up_to e line p x = cond (is_up_to e line p) x (pos 0)

module _ (t e : Pair) (ot : Before t.a t.b) (oe : Before e.a e.b) (free : IsFalse (is_strictly_inside e t.b)) where
  contains_there : IsTrue (contains_pair t e) → IsTrue (are_collinear t e && (not (point_lt e.a t.a) && point_lt e.a t.b))
  contains_there c =
      let on = contains_parts t e c in
      let at_a = lies_on_order t e.a ot on.0 in
      let at_b = lies_on_order t e.b ot on.1 in
      and_from _ _ (are_collinear_from t e at_a.0 at_b.0)
      (and_from _ _ (ap not (false_from_ne_true (point_lt e.a t.a) (λ less. UpTo-not_Before t.a e.a at_a.1 (before e.a t.a less))))
      (from_before e.a t.b (Before-UpTo-trans e.a e.b t.b oe at_b.2)))

  contains_back : IsTrue (are_collinear t e && (not (point_lt e.a t.a) && point_lt e.a t.b)) → IsTrue (contains_pair t e)
  contains_back h =
      let first = and_parts (are_collinear t e) _ h in
      let second = and_parts (not (point_lt e.a t.a)) (point_lt e.a t.b) first.1 in
      let turns = are_collinear_turns t e first.0 in
      let back = are_collinear_turns e t (are_collinear_swap t e ot first.0) in
      let from : UpTo t.a e.a = not_before e.a t.a (not_true_is_false (point_lt e.a t.a) second.0) in
      let past : Before e.a t.b = before e.a t.b second.1 in
      let to : UpTo e.b t.b =
      by_order e.b t.b (λ less. UpTo-Before e.b t.b less) (λ same. subst (UpTo e.b) same (UpTo-same e.b))
      (λ more. absurd (both_ways (is_strictly_inside e t.b) free (inside_from_order e t.b oe back.1 past more))) in
      contains_from t e
      (lies_on_from_order t e.a ot turns.0 from (UpTo-trans e.a e.b t.b (UpTo-Before e.a e.b oe) to))
      (lies_on_from_order t e.b ot turns.1 (UpTo-trans t.a e.a e.b from (UpTo-Before e.a e.b oe)) to)
    where
      not_true_is_false : (b : Bool) → IsTrue (not b) → IsFalse b
      not_true_is_false false n = refl
      not_true_is_false true n = sym n

  contains_test : contains_pair t e ≡ (are_collinear t e && (not (point_lt e.a t.a) && point_lt e.a t.b))
  contains_test = same_tests (contains_pair t e) _ contains_there contains_back

  later : point_lt e.a t.a ≡ true → point_lt e.a t.b ≡ true
  later less = from_before e.a t.b (Before-trans e.a t.a t.b (before e.a t.a less) ot)

  split_test : (c a b : Bool) (x : ℤ) → (a ≡ true → b ≡ true) → cond (c && (not a && b)) x (pos 0) ≡ cond (c && not a) x (pos 0) -ℤ cond (c && not b) x (pos 0)
  split_test false a b x h = refl
  split_test true true true x h = refl
  split_test true true false x h = absurd (both_ways false refl (h refl))
  split_test true false true x h = omega (arith, ints)
  split_test true false false x h = omega (arith, ints)

  -- what a pair counts along e starts to count at its start and ends to count at its end
  pub along-ends : (x : ℤ) → along e t x ≡ up_to e t t.a x -ℤ up_to e t t.b x
  unfolding along up_to is_up_to
  along-ends x = ap (λ b. cond b x (pos 0)) contains_test ∙ split_test (are_collinear t e) (point_lt e.a t.a) (point_lt e.a t.b) x later

-- on one line it is the same which pair names it
pub up_to-line : (s h e : Pair) (p : Point) (x : ℤ) → Before s.a s.b → Before h.a h.b → IsTrue (are_collinear h s) → up_to e s p x ≡ up_to e h p x
unfolding up_to is_up_to
up_to-line s h e p x os oh c =
    ap (λ b. cond (b && not (point_lt e.a p)) x (pos 0))
    (same_tests (are_collinear s e) (are_collinear h e) (λ k. are_collinear-trans h s e oh os c k) (λ k. are_collinear-trans s h e os oh (are_collinear_swap h s oh c) k))

up_to-add : (e line : Pair) (p : Point) (x y : ℤ) → up_to e line p (x +ℤ y) ≡ up_to e line p x +ℤ up_to e line p y
unfolding up_to
up_to-add e line p x y = by (is_up_to e line p)
  where
    by : (b : Bool) → cond b (x +ℤ y) (pos 0) ≡ cond b x (pos 0) +ℤ cond b y (pos 0)
    by true = refl
    by false = refl

up_to-zero : (e line : Pair) (p : Point) → up_to e line p (pos 0) ≡ pos 0
unfolding up_to
up_to-zero e line p = by (is_up_to e line p)
  where
    by : (b : Bool) → cond b (pos 0) (pos 0) ≡ pos 0
    by true = refl
    by false = refl

-- ---- the two numbers of a count

pub number : Bool → Winding → ℤ
number b c = cond b c.subj c.clip

number-add : (b : Bool) (c d : Winding) → number b (add c d) ≡ number b c +ℤ number b d
unfolding number
number-add true c d = refl
number-add false c d = refl

number-inverse : (b : Bool) (c : Winding) → number b (inverse c) ≡ neg_ℤ (number b c)
unfolding number
number-inverse true c = refl
number-inverse false c = refl

number-empty : (b : Bool) → number b empty ≡ pos 0
unfolding number
number-empty true = refl
number-empty false = refl

-- ---- sums

pub total_along : Pair → (WholeSegment → ℤ) → List WholeSegment → ℤ
total_along e f segments = gathered ◌+ℤ◌ (pos 0) (λ s. along e s.pair (f s)) segments

-- what ends add
pub sign : End → ℤ → ℤ
sign r x = cond r.starts x (neg_ℤ x)

pub rest_up_to : Pair → (WholeSegment → ℤ) → List End → ℤ
rest_up_to e f rest = gathered ◌+ℤ◌ (pos 0) (λ r. up_to e r.segment.pair (place r) (sign r (f r.segment))) rest

pub weights_along : Pair → List (Pair × ℤ) → ℤ
weights_along e weights = gathered ◌+ℤ◌ (pos 0) (λ w. along e w.0 w.1) weights

pub one : WholeSegment → ℤ
one s = pos 1

abbrev pub IsClearOf : List WholeSegment → Pair → Type 0
IsClearOf given e = (p : Point) → Has (ends (pairs given)) p → IsFalse (is_strictly_inside e p)

-- ---- what a walk keeps

pub record IsWalked (given : List WholeSegment) (rest : List End) (w : Walk) : Type 0 where
  pub counts : (b : Bool) (e : Pair) → Before e.a e.b → IsClearOf given e →
      total_along e (λ s. number b s.count) w.pieces +ℤ up_to e w.line w.point (number b w.count) +ℤ rest_up_to e (λ s. number b s.count) rest ≡ total_along e (λ s. number b s.count) given
  pub weights : List (Pair × ℤ)
  pub weighed : map (λ x. x.0) weights ≡ pairs w.pieces
  pub runs : (e : Pair) → Before e.a e.b → IsClearOf given e → weights_along e weights +ℤ up_to e w.line w.point (pos w.running) +ℤ rest_up_to e one rest ≡ total_along e one given
  pub line : Has (pairs given) w.line
  pub point : Has (ends (pairs given)) w.point
  pub ends_given : (p : Point) → Has (ends (pairs w.pieces)) p → Has (ends (pairs given)) p
  pub on_given : (t : Pair) → Has (pairs w.pieces) t → (s : Pair) × Has (pairs given) s × IsTrue (contains_pair s t)
  pub here : Has (ends (pairs w.pieces)) w.point ⊎ (w.is_pending ≡ true)
  pub reached : (p : Point) → Has (ends (pairs given)) p → Has (ends (pairs w.pieces)) p ⊎ ((p ≡ w.point) × (w.is_pending ≡ true)) ⊎ ((r : End) × Has rest r × (place r ≡ p))
  pub mask : w.count.mask ≡ 0
  pub masks : (s : WholeSegment) → Has w.pieces s → s.count.mask ≡ 0
  pub cut : w.is_cut ≡ true → HasCut given

-- ---- one more piece

ends-append : (xs ys : List Pair) → ends (xs ++ ys) ≡ ends xs ++ ends ys
ends-append [] ys = refl
ends-append (x ∷ xs) ys = ap (λ l. x.a ∷ x.b ∷ l) (ends-append xs ys)

module _ (pieces : List WholeSegment) (t : WholeSegment) where
  pairs-more : pairs (pieces ++ t ∷ []) ≡ pairs pieces ++ t.pair ∷ []
  pairs-more = map-append (λ (s : WholeSegment). s.pair) pieces (t ∷ [])

  ends-more : ends (pairs (pieces ++ t ∷ [])) ≡ ends (pairs pieces) ++ t.pair.a ∷ t.pair.b ∷ []
  ends-more = ap ends pairs-more ∙ ends-append (pairs pieces) (t.pair ∷ [])

  end_before : (p : Point) → Has (ends (pairs pieces)) p → Has (ends (pairs (pieces ++ t ∷ []))) p
  end_before p i = subst (λ l. Has l p) (sym ends-more) (Has-append_left (ends (pairs pieces)) (t.pair.a ∷ t.pair.b ∷ []) p i)

  end_new : (p : Point) → Has (t.pair.a ∷ t.pair.b ∷ []) p → Has (ends (pairs (pieces ++ t ∷ []))) p
  end_new p i = subst (λ l. Has l p) (sym ends-more) (Has-append_right (ends (pairs pieces)) (t.pair.a ∷ t.pair.b ∷ []) p i)

  end_out : (p : Point) → Has (ends (pairs (pieces ++ t ∷ []))) p → Has (ends (pairs pieces)) p ⊎ Has (t.pair.a ∷ t.pair.b ∷ []) p
  end_out p i = Has-append_out (ends (pairs pieces)) (t.pair.a ∷ t.pair.b ∷ []) p (subst (λ l. Has l p) ends-more i)

  pair_out : (q : Pair) → Has (pairs (pieces ++ t ∷ [])) q → Has (pairs pieces) q ⊎ (t.pair ≡ q)
  pair_out q i = ⊎_elim inl last (Has-append_out (pairs pieces) (t.pair ∷ []) q (subst (λ l. Has l q) pairs-more i))
    where
      last : Has (t.pair ∷ []) q → Has (pairs pieces) q ⊎ (t.pair ≡ q)
      last (inl same) = inr same
      last (inr none) = absurd none

  along-more : (e : Pair) (f : WholeSegment → ℤ) → total_along e f (pieces ++ t ∷ []) ≡ total_along e f pieces +ℤ along e t.pair (f t)
  unfolding total_along
  along-more e f = gathered-append whole_numbers_add (λ s. along e s.pair (f s)) pieces (t ∷ []) ∙ ap (λ z. gathered ◌+ℤ◌ (pos 0) (λ s. along e s.pair (f s)) pieces +ℤ z) (omega (arith, ints))

weights-more : (e : Pair) (weights : List (Pair × ℤ)) (t : Pair) (x : ℤ) → weights_along e (weights ++ (t, x) ∷ []) ≡ weights_along e weights +ℤ along e t x
unfolding weights_along
weights-more e weights t x = gathered-append whole_numbers_add (λ w. along e w.0 w.1) weights ((t, x) ∷ []) ∙ ap (λ z. gathered ◌+ℤ◌ (pos 0) (λ w. along e w.0 w.1) weights +ℤ z) (omega (arith, ints))

-- ---- steps of a walk

module _ (given : List WholeSegment) (o : IsTrue (are_ordered given)) (no_masks : (s : WholeSegment) → Has given s → s.count.mask ≡ 0) where
  -- a walk at an end
  pub record IsAt (rest : List End) (r : End) (w : Walk) : Type 0 where
    pub walked : IsWalked given rest w
    pub same_point : w.point ≡ place r
    pub same_line : IsTrue (are_collinear w.line r.segment.pair)

  ordered_of : (s : Pair) → Has (pairs given) s → Before s.a s.b
  ordered_of s i = In-ordered given o s i

  collinear_itself : (s : Pair) → IsTrue (are_collinear s s)
  collinear_itself s = are_collinear_from s s (turn_same_outer s.a s.b) (turn_same_last s.a s.b)

  pub pair_of_end : (r : End) → Has given r.segment → Has (pairs given) r.segment.pair
  pair_of_end r i = Has-map (λ (s : WholeSegment). s.pair) given r.segment i

  pub place_is_end : (r : End) → Has given r.segment → Has (ends (pairs given)) (place r)
  place_is_end r i = Has-flat_map (λ (u : Pair). u.a ∷ u.b ∷ []) (pairs given) r.segment.pair (place r) (pair_of_end r i) (by r.starts)
    where
      by : (b : Bool) → Has (r.segment.pair.a ∷ r.segment.pair.b ∷ []) (cond b r.segment.pair.a r.segment.pair.b)
      by true = inl refl
      by false = inr (inl refl)

  jump_on : (rest : List End) (r : End) (w v : Walk) → Has given r.segment → IsWalked given rest w → Jumps w r v → IsAt rest r v
  jump_on rest r w v i h j = subst (IsAt rest r) (sym j.is) (record {
    walked = record {
      counts = λ b e oe clear.
          let gone : up_to e w.line w.point (number b w.count) ≡ pos 0 = ap (λ c. up_to e w.line w.point (number b c)) j.no_count ∙ ap (up_to e w.line w.point) (number-empty b) ∙ up_to-zero e w.line w.point in
          let none : up_to e r.segment.pair (place r) (number b w.count) ≡ pos 0 = ap (λ c. up_to e r.segment.pair (place r) (number b c)) j.no_count ∙ ap (up_to e r.segment.pair (place r)) (number-empty b) ∙ up_to-zero e r.segment.pair (place r) in
          ap (λ z. total_along e (λ s. number b s.count) w.pieces +ℤ z +ℤ rest_up_to e (λ s. number b s.count) rest) (none ∙ sym gone) ∙ h.counts b e oe clear;
      weights = h.weights;
      weighed = h.weighed;
      runs = λ e oe clear.
          let gone : up_to e w.line w.point (pos w.running) ≡ pos 0 = ap (λ n. up_to e w.line w.point (pos n)) j.nothing_runs ∙ up_to-zero e w.line w.point in
          let none : up_to e r.segment.pair (place r) (pos w.running) ≡ pos 0 = ap (λ n. up_to e r.segment.pair (place r) (pos n)) j.nothing_runs ∙ up_to-zero e r.segment.pair (place r) in
          ap (λ z. weights_along e h.weights +ℤ z +ℤ rest_up_to e one rest) (none ∙ sym gone) ∙ h.runs e oe clear;
      line = pair_of_end r i;
      point = place_is_end r i;
      ends_given = h.ends_given;
      on_given = h.on_given;
      here = inr refl;
      reached = λ p k. ⊎_elim inl (⊎_elim (λ at. absurd (both_ways w.is_pending j.none_pending at.1)) (λ further. inr (inr further))) (h.reached p k);
      mask = h.mask;
      masks = h.masks;
      cut = h.cut;
    };
    same_point = refl;
    same_line = collinear_itself r.segment.pair;
  })

  module _ (rest : List End) (r : End) (w v : Walk) (has : Has given r.segment) (h : IsWalked given rest w) (c : IsTrue (are_collinear w.line r.segment.pair)) where
    -- the new piece
    module _ (j : Steps w (place r) v) where
      t : Pair
      t = record { a = w.point; b = place r }

      ordered_line : Before w.line.a w.line.b
      ordered_line = ordered_of w.line h.line

      ordered_t : Before t.a t.b
      unfolding t
      ordered_t = before w.point (place r) j.ahead

      on_line : IsTrue (are_collinear w.line t)
      unfolding t
      on_line = are_collinear_from w.line t (lies_on_order w.line w.point ordered_line j.from).0 (lies_on_order w.line (place r) ordered_line j.to).0

      -- what it counts is what runs on, up to its end
      split : (e : Pair) (x : ℤ) → Before e.a e.b → IsClearOf given e → along e t x ≡ up_to e w.line w.point x -ℤ up_to e w.line (place r) x
      unfolding t
      split e x oe clear =
          along-ends t e ordered_t oe (clear (place r) (place_is_end r has)) x
          ∙ ap₂ (λ a b. a -ℤ b) (up_to-line t w.line e w.point x ordered_t ordered_line on_line) (up_to-line t w.line e (place r) x ordered_t ordered_line on_line)

      moved : (a x u v : ℤ) (z d : ℤ) → x ≡ u -ℤ v → a +ℤ u +ℤ z ≡ d → (a +ℤ x) +ℤ v +ℤ z ≡ d
      moved a x u v z d e f = omega (arith, ints, e, f)

      piece : WholeSegment
      piece = record { pair = record { a = w.point; b = place r }; count = w.count }

      cut_on : (w.is_cut || point_lt (place r) w.line.b) ≡ true → HasCut given
      cut_on e = by w.is_cut refl
        where
          inside : point_lt (place r) w.line.b ≡ true → HasCut given
          inside less = (
            w.line,
            place r,
            Contains-from_Has (pairs given) w.line h.line,
            Contains-from_Has (ends (pairs given)) (place r) (place_is_end r has),
            inside_from_order w.line (place r) ordered_line (lies_on_order w.line (place r) ordered_line j.to).0
                (UpTo-Before-trans w.line.a w.point (place r) (lies_on_order w.line w.point ordered_line j.from).1 (before w.point (place r) j.ahead))
                (before (place r) w.line.b less),
          )

          by : (b : Bool) → w.is_cut ≡ b → HasCut given
          by true k = h.cut k
          by false k = inside (sym (ap (λ b. b || point_lt (place r) w.line.b) k) ∙ e)

      step_on : IsAt rest r v
      unfolding t piece
      step_on = subst (IsAt rest r) (sym j.is) (record {
        walked = record {
          counts = λ b e oe clear.
              ap (λ z. z +ℤ up_to e w.line (place r) (number b w.count) +ℤ rest_up_to e (λ s. number b s.count) rest) (along-more w.pieces piece e (λ s. number b s.count))
              ∙ moved (total_along e (λ s. number b s.count) w.pieces) (along e t (number b w.count)) (up_to e w.line w.point (number b w.count)) (up_to e w.line (place r) (number b w.count)) (rest_up_to e (λ s. number b s.count) rest) _
              (split e (number b w.count) oe clear) (h.counts b e oe clear);
          weights = h.weights ++ (t, pos w.running) ∷ [];
          weighed = map-append (λ (x : Pair × ℤ). x.0) h.weights ((t, pos w.running) ∷ []) ∙ ap (λ l. l ++ t ∷ []) h.weighed ∙ sym (pairs-more w.pieces piece);
          runs = λ e oe clear.
              ap (λ z. z +ℤ up_to e w.line (place r) (pos w.running) +ℤ rest_up_to e one rest) (weights-more e h.weights t (pos w.running))
              ∙ moved (weights_along e h.weights) (along e t (pos w.running)) (up_to e w.line w.point (pos w.running)) (up_to e w.line (place r) (pos w.running)) (rest_up_to e one rest) _
              (split e (pos w.running) oe clear) (h.runs e oe clear);
          line = h.line;
          point = place_is_end r has;
          ends_given = λ p i. ⊎_elim (h.ends_given p) new_end (end_out w.pieces piece p i);
          on_given = λ q i. ⊎_elim (h.on_given q) (λ same. (w.line, h.line, subst (λ z. IsTrue (contains_pair w.line z)) same (contains_from w.line t j.from j.to))) (pair_out w.pieces piece q i);
          here = inl (end_new w.pieces piece (place r) (inr (inl refl)));
          reached = λ p i.
              ⊎_elim (λ k. inl (end_before w.pieces piece p k))
              (⊎_elim (λ at. inl (end_new w.pieces piece p (inl (sym at.0)))) (λ further. inr (inr further)))
              (h.reached p i);
          mask = h.mask;
          masks = λ s i. ⊎_elim (h.masks s) last_mask (Has-append_out w.pieces (piece ∷ []) s i);
          cut = cut_on;
        };
        same_point = refl;
        same_line = c;
      })
        where
          new_end : {p : Point} → Has (w.point ∷ place r ∷ []) p → Has (ends (pairs given)) p
          new_end (inl same) = subst (Has (ends (pairs given))) same h.point
          new_end (inr (inl same)) = subst (Has (ends (pairs given))) same (place_is_end r has)
          new_end (inr (inr none)) = absurd none

          last_mask : {s : WholeSegment} → Has (piece ∷ []) s → s.count.mask ≡ 0
          last_mask (inl same) = subst (λ (z : WholeSegment). z.count.mask ≡ 0) same h.mask
          last_mask (inr none) = absurd none

  come : (rest : List End) (r : End) (w v : Walk) → Has given r.segment → IsWalked given rest w → Comes w r v → IsAt rest r v
  come rest r w v has h (stays c p is) = subst (IsAt rest r) (sym is) (record { walked = h; same_point = p; same_line = c })
  come rest r w v has h (jumps j) = jump_on rest r w v has h j
  come rest r w v has h (steps c j) = step_on rest r w v has h c j

  -- ---- what starts or ends there

  sign_number : (b : Bool) (r : End) → number b (gain r) ≡ sign r (number b r.segment.count)
  unfolding sign
  sign_number b r = by r.starts
    where
      by : (starts : Bool) → number b (cond starts r.segment.count (inverse r.segment.count)) ≡ cond starts (number b r.segment.count) (neg_ℤ (number b r.segment.count))
      by true = refl
      by false = number-inverse b r.segment.count

  sign_running : (r : End) (m n : ℕ) → (IsTrue r.starts → m ≡ n + 1) → (IsFalse r.starts → n ≡ m + 1) → pos m ≡ pos n +ℤ sign r (pos 1)
  unfolding sign
  sign_running r m n h k = by r.starts h k
    where
      by : (starts : Bool) → (IsTrue starts → m ≡ n + 1) → (IsFalse starts → n ≡ m + 1) → pos m ≡ pos n +ℤ cond starts (pos 1) (neg_ℤ (pos 1))
      by true f g = let e = f refl in omega (arith, ints, e)
      by false f g = let e = g refl in omega (arith, ints, e)

  gained : (a u u' g z d : ℤ) → u' ≡ u +ℤ g → a +ℤ u +ℤ (g +ℤ z) ≡ d → a +ℤ u' +ℤ z ≡ d
  gained a u u' g z d e f = omega (arith, ints, e, f)

  add_on : (rest : List End) (r : End) (w v : Walk) → Has given r.segment → IsAt (r ∷ rest) r w → Adds w r v → IsWalked given rest v
  unfolding rest_up_to total_along one
  add_on rest r w v has at adds = subst (IsWalked given rest) (sym adds.is) (record {
    counts = λ b e oe clear.
        gained (total_along e (λ s. number b s.count) w.pieces) (up_to e w.line w.point (number b w.count)) _ (up_to e r.segment.pair (place r) (sign r (number b r.segment.count))) (rest_up_to e (λ s. number b s.count) rest) _
        (turned e (number b (add w.count (gain r))) ∙ ap (up_to e w.line w.point) (number-add b w.count (gain r)) ∙ up_to-add e w.line w.point (number b w.count) (number b (gain r))
        ∙ ap (λ z. up_to e w.line w.point (number b w.count) +ℤ z) (ap (up_to e w.line w.point) (sign_number b r) ∙ there e (sign r (number b r.segment.count))))
        (h.counts b e oe clear);
    weights = h.weights;
    weighed = h.weighed;
    runs = λ e oe clear.
        gained (weights_along e h.weights) (up_to e w.line w.point (pos w.running)) _ (up_to e r.segment.pair (place r) (sign r (pos 1))) (rest_up_to e one rest) _
        (turned e (pos adds.running) ∙ ap (up_to e w.line w.point) (sign_running r adds.running w.running adds.started adds.ended) ∙ up_to-add e w.line w.point (pos w.running) (sign r (pos 1))
        ∙ ap (λ z. up_to e w.line w.point (pos w.running) +ℤ z) (there e (sign r (pos 1))))
        (h.runs e oe clear);
    line = line_given adds.same_line;
    point = h.point;
    ends_given = h.ends_given;
    on_given = h.on_given;
    here = h.here;
    reached = λ p i. ⊎_elim inl (⊎_elim (λ pending. inr (inl pending)) (λ further. met p further)) (h.reached p i);
    mask = ap₂ (λ a b. bit_or a b) h.mask (no_mask r.starts);
    masks = h.masks;
    cut = h.cut;
  })
    where
      h : IsWalked given (r ∷ rest) w
      h = at.walked

      os : Before r.segment.pair.a r.segment.pair.b
      os = ordered_of r.segment.pair (pair_of_end r has)

      ow : Before w.line.a w.line.b
      ow = ordered_of w.line h.line

      line_given : (adds.line ≡ w.line) ⊎ (adds.line ≡ r.segment.pair) → Has (pairs given) adds.line
      line_given (inl same) = subst (Has (pairs given)) (sym same) h.line
      line_given (inr same) = subst (Has (pairs given)) (sym same) (pair_of_end r has)

      -- on the line it is the same
      turned : (e : Pair) (x : ℤ) → up_to e adds.line w.point x ≡ up_to e w.line w.point x
      turned e x = by adds.same_line
        where
          by : (adds.line ≡ w.line) ⊎ (adds.line ≡ r.segment.pair) → up_to e adds.line w.point x ≡ up_to e w.line w.point x
          by (inl same) = ap (λ l. up_to e l w.point x) same
          by (inr same) = ap (λ l. up_to e l w.point x) same ∙ up_to-line r.segment.pair w.line e w.point x os ow at.same_line

      there : (e : Pair) (x : ℤ) → up_to e w.line w.point x ≡ up_to e r.segment.pair (place r) x
      there e x = sym (up_to-line r.segment.pair w.line e w.point x os ow at.same_line) ∙ ap (λ p. up_to e r.segment.pair p x) at.same_point

      met : (p : Point) → (q : End) × Has (r ∷ rest) q × (place q ≡ p) → Has (ends (pairs w.pieces)) p ⊎ ((p ≡ w.point) × (w.is_pending ≡ true)) ⊎ ((q : End) × Has rest q × (place q ≡ p))
      met p (q, inr i, e) = inr (inr (q, i, e))
      met p (q, inl same, e) =
          let is : w.point ≡ p = at.same_point ∙ ap place same ∙ e in
          ⊎_elim (λ k. inl (subst (Has (ends (pairs w.pieces))) is k)) (λ pending. inr (inl (sym is, pending))) h.here

      no_mask : (starts : Bool) → (cond starts r.segment.count (inverse r.segment.count)).mask ≡ 0
      no_mask true = no_masks r.segment has
      no_mask false = ap swap_directions (no_masks r.segment has)

  pub take_on : (rest : List End) (r : End) (w v : Walk) → Has given r.segment → IsWalked given (r ∷ rest) w → Takes w r v → IsWalked given rest v
  take_on rest r w v has h t = add_on rest r t.there v has (come (r ∷ rest) r w t.there has h t.comes) t.adds

  -- ---- the begin

  ends_sum : (e : Pair) (f : WholeSegment → ℤ) (segments : List WholeSegment) → ((s : WholeSegment) → Has segments s → Before s.pair.a s.pair.b × IsFalse (is_strictly_inside e s.pair.b)) → Before e.a e.b → rest_up_to e f (ends_of_each segments) ≡ total_along e f segments
  unfolding rest_up_to total_along sign up_to
  ends_sum e f [] h oe = refl
  ends_sum e f (s ∷ segments) h oe =
      let here = h s (inl refl) in
      let ih = ends_sum e f segments (λ u i. h u (inr i)) oe in
      two (up_to e s.pair s.pair.a (f s)) (up_to e s.pair s.pair.b (neg_ℤ (f s))) (up_to e s.pair s.pair.b (f s)) (along e s.pair (f s)) _ _ (up_to-neg s.pair.b) (along-ends s.pair e here.0 oe here.1 (f s)) ih
    where
      two : (a b c d x y : ℤ) → b ≡ neg_ℤ c → d ≡ a -ℤ c → x ≡ y → a +ℤ (b +ℤ x) ≡ d +ℤ y
      two a b c d x y p q r = omega (arith, ints, p, q, r)

      up_to-neg : (p : Point) → up_to e s.pair p (neg_ℤ (f s)) ≡ neg_ℤ (up_to e s.pair p (f s))
      up_to-neg p = by (is_up_to e s.pair p)
        where
          by : (b : Bool) → cond b (neg_ℤ (f s)) (pos 0) ≡ neg_ℤ (cond b (f s) (pos 0))
          by true = refl
          by false = refl

  -- where it begins
  pub record IsBegin (rest : List End) (w : Walk) : Type 0 where
    pub all : IsPermutation (ends_of_each given) rest
    pub line : Has (pairs given) w.line
    pub point : Has (ends (pairs given)) w.point
    pub count : w.count ≡ empty
    pub running : w.running ≡ 0
    pub pending : w.is_pending ≡ true
    pub uncut : w.is_cut ≡ false
    pub none : w.pieces ≡ []

  pub begin : (rest : List End) (w : Walk) → IsBegin rest w → IsWalked given rest w
  unfolding rest_up_to total_along weights_along
  begin rest w h = record {
    counts = λ b e oe clear.
        starting (ap (total_along e (λ s. number b s.count)) h.none)
        (ap (λ c. up_to e w.line w.point (number b c)) h.count ∙ ap (up_to e w.line w.point) (number-empty b) ∙ up_to-zero e w.line w.point)
        (all_ends e (λ s. number b s.count) oe clear);
    weights = [];
    weighed = sym (ap pairs h.none);
    runs = λ e oe clear. starting refl (ap (λ n. up_to e w.line w.point (pos n)) h.running ∙ up_to-zero e w.line w.point) (all_ends e one oe clear);
    line = h.line;
    point = h.point;
    ends_given = λ p i. absurd (subst (λ l. Has (ends (pairs l)) p) h.none i);
    on_given = λ t i. absurd (subst (λ l. Has (pairs l) t) h.none i);
    here = inr h.pending;
    reached = λ p i. inr (inr (later_end p i));
    mask = ap (λ c. c.mask) h.count;
    masks = λ s i. absurd (subst (λ l. Has l s) h.none i);
    cut = λ e. absurd (both_ways w.is_cut h.uncut e);
  }
    where
      starting : {a u z d : ℤ} → a ≡ pos 0 → u ≡ pos 0 → z ≡ d → a +ℤ u +ℤ z ≡ d
      starting p q r = omega (arith, ints, p, q, r)

      all_ends : (e : Pair) (f : WholeSegment → ℤ) → Before e.a e.b → IsClearOf given e → rest_up_to e f rest ≡ total_along e f given
      all_ends e f oe clear =
          gathered-IsPermutation whole_numbers_add (λ r. up_to e r.segment.pair (place r) (sign r (f r.segment))) (ends_of_each given) rest h.all
          ∙ ends_sum e f given (λ s i. (ordered_of s.pair (Has-map (λ (u : WholeSegment). u.pair) given s i), clear s.pair.b (place_is_end (record { segment = s; starts = false }) i))) oe

      later_end : (p : Point) → Has (ends (pairs given)) p → (r : End) × Has rest r × (place r ≡ p)
      later_end p i =
          let s = Has-flat_map_out (λ (u : Pair). u.a ∷ u.b ∷ []) (pairs given) p i in
          let u = Has-map_out (λ (u : WholeSegment). u.pair) given s.0 s.1 in
          let found : Has (map place (ends_of_each given)) p = among u.0 u.1 (subst (λ q. Has (q.a ∷ q.b ∷ []) p) (sym u.2) s.2) in
          let moved = Has-permutation place (ends_of_each given) rest h.all p found in
          Has-map_out place rest p moved
        where
          both : WholeSegment → List End
          both s = record { segment = s; starts = true } ∷ record { segment = s; starts = false } ∷ []

          among : (u : WholeSegment) → Has given u → Has (u.pair.a ∷ u.pair.b ∷ []) p → Has (map place (ends_of_each given)) p
          among u k (inl same) = subst (Has (map place (ends_of_each given))) same (Has-map place (ends_of_each given) (record { segment = u; starts = true }) (Has-flat_map both given u _ k (inl refl)))
          among u k (inr (inl same)) = subst (Has (map place (ends_of_each given))) same (Has-map place (ends_of_each given) (record { segment = u; starts = false }) (Has-flat_map both given u _ k (inr (inl refl))))
          among u k (inr (inr none)) = absurd none

  -- ---- the end

  no_weight : (e : Pair) (weights : List (Pair × ℤ)) → list_any (λ t. contains_pair t e) (map (λ x. x.0) weights) ≡ false → weights_along e weights ≡ pos 0
  unfolding weights_along along
  no_weight e [] h = refl
  no_weight e (x ∷ weights) h =
      let parts = or_parts (contains_pair x.0 e) _ h in
      ap₂ (λ a b. a +ℤ b) (cond-false (contains_pair x.0 e) x.1 (pos 0) parts.0) (no_weight e weights parts.1)

  no_less : (e : Pair) (segments : List WholeSegment) → pos 0 ≤ℤ total_along e one segments
  unfolding total_along along one
  no_less e [] = omega (arith, ints)
  no_less e (s ∷ segments) = by (contains_pair s.pair e) (no_less e segments)
    where
      by : (b : Bool) → pos 0 ≤ℤ total_along e one segments → pos 0 ≤ℤ (cond b (pos 1) (pos 0) +ℤ total_along e one segments)
      by true h = omega (arith, ints, h)
      by false h = omega (arith, ints, h)

  some_weight : (e : Pair) (segments : List WholeSegment) (s : Pair) → Has (pairs segments) s → IsTrue (contains_pair s e) → pos 0 <ℤ total_along e one segments
  unfolding total_along along one
  some_weight e [] s i c = absurd i
  some_weight e (x ∷ segments) s (inl same) c =
      let rest = no_less e segments in
      let first = cond-true (contains_pair x.pair e) (pos 1) (pos 0) (ap (λ p. contains_pair p e) same ∙ c) in
      omega (arith, ints, rest, first)
  some_weight e (x ∷ segments) s (inr i) c = by (contains_pair x.pair e) (some_weight e segments s i c)
    where
      by : (b : Bool) → pos 0 <ℤ total_along e one segments → pos 0 <ℤ (cond b (pos 1) (pos 0) +ℤ total_along e one segments)
      by true h = omega (arith, ints, h)
      by false h = omega (arith, ints, h)

  number_along : (b : Bool) (e : Pair) (segments : List WholeSegment) → number b (count_along segments e) ≡ total_along e (λ s. number b s.count) segments
  unfolding count_along total total_along along
  number_along b e [] = number-empty b
  number_along b e (s ∷ segments) = by (contains_pair s.pair e) (number_along b e segments)
    where
      left : List WholeSegment
      left = filter (λ u. contains_pair u.pair e) segments

      sum : ℤ
      sum = total_along e (λ s. number b s.count) segments

      by : (c : Bool) → number b (total (counts left)) ≡ sum → number b (total (counts (cond c (s ∷ left) left))) ≡ cond c (number b s.count) (pos 0) +ℤ sum
      by true ih = number-add b s.count (total (counts left)) ∙ ap (λ z. number b s.count +ℤ z) ih
      by false ih = omega (arith, ints, ih)

  mask_along : (e : Pair) (segments : List WholeSegment) → ((s : WholeSegment) → Has segments s → s.count.mask ≡ 0) → (count_along segments e).mask ≡ 0
  unfolding count_along total
  mask_along e [] h = refl
  mask_along e (s ∷ segments) h = by (contains_pair s.pair e) (mask_along e segments (λ u i. h u (inr i)))
    where
      left : List WholeSegment
      left = filter (λ u. contains_pair u.pair e) segments

      by : (c : Bool) → (total (counts left)).mask ≡ 0 → (total (counts (cond c (s ∷ left) left))).mask ≡ 0
      by true ih = ap₂ (λ a b. bit_or a b) (h s (inl refl)) ih
      by false ih = ih

  -- nothing runs on, and nothing is pending
  pub record IsOver (w : Walk) : Type 0 where
    pub running : w.running ≡ 0
    pub pending : w.is_pending ≡ false
    pub count : w.count ≡ empty

  module _ (w : Walk) (h : IsWalked given [] w) (over : IsOver w) where
    all_weighed : (e : Pair) → Before e.a e.b → IsClearOf given e → weights_along e h.weights ≡ total_along e one given
    unfolding rest_up_to
    all_weighed e oe clear =
        let none : up_to e w.line w.point (pos w.running) ≡ pos 0 = ap (λ n. up_to e w.line w.point (pos n)) over.running ∙ up_to-zero e w.line w.point in
        omega (arith, ints, none, h.runs e oe clear)

    all_counted : (b : Bool) (e : Pair) → Before e.a e.b → IsClearOf given e → total_along e (λ s. number b s.count) w.pieces ≡ total_along e (λ s. number b s.count) given
    unfolding rest_up_to
    all_counted b e oe clear =
        let none : up_to e w.line w.point (number b w.count) ≡ pos 0 = ap (λ c. up_to e w.line w.point (number b c)) over.count ∙ ap (up_to e w.line w.point) (number-empty b) ∙ up_to-zero e w.line w.point in
        omega (arith, ints, none, h.counts b e oe clear)

    covered : (s e : Pair) → Has (pairs given) s → Before e.a e.b → IsClearOf given e → IsTrue (contains_pair s e) → (t : Pair) × Has (pairs w.pieces) t × IsTrue (contains_pair t e)
    covered s e i oe clear c = ⊎_elim (λ some. Has-from_list_any (λ t. contains_pair t e) (pairs w.pieces) some) (λ none. absurd (impossible none)) (cases_Bool (list_any (λ t. contains_pair t e) (pairs w.pieces)))
      where
        impossible : list_any (λ t. contains_pair t e) (pairs w.pieces) ≡ false → ⊥
        impossible none =
            let zero_weight = no_weight e h.weights (ap (list_any (λ t. contains_pair t e)) h.weighed ∙ none) in
            let some = some_weight e given s i c in
            let same = all_weighed e oe clear in
            omega (arith, ints, zero_weight, some, same)

    pub resolved : AreResolved given w.pieces
    unfolding number
    resolved = record {
      same_ends = λ p. (
        λ i. Contains-from_Has (ends (pairs given)) p (h.ends_given p (Has-from_Contains (ends (pairs w.pieces)) p i)),
        λ i. Contains-from_Has (ends (pairs w.pieces)) p (ended p (h.reached p (Has-from_Contains (ends (pairs given)) p i))),
      );
      on_given = λ t i. let s = h.on_given t (Has-from_Contains (pairs w.pieces) t i) in (s.0, Contains-from_Has (pairs given) s.0 s.1, s.2);
      covering = λ s e i oe clear c.
          let t = covered s e (Has-from_Contains (pairs given) s i) (before e.a e.b oe) (is_clear e clear) c in
          (t.0, Contains-from_Has (pairs w.pieces) t.0 t.1, t.2);
      counting = λ e oe clear. same_winding (count_along w.pieces e) (count_along given e)
          (λ b. number_along b e w.pieces ∙ all_counted b e (before e.a e.b oe) (is_clear e clear) ∙ sym (number_along b e given))
          (mask_along e w.pieces h.masks ∙ sym (mask_along e given no_masks));
    }
      where
        ended : (p : Point) → Has (ends (pairs w.pieces)) p ⊎ ((p ≡ w.point) × (w.is_pending ≡ true)) ⊎ ((r : End) × Has [] r × (place r ≡ p)) → Has (ends (pairs w.pieces)) p
        ended p (inl i) = i
        ended p (inr (inl pending)) = absurd (both_ways w.is_pending over.pending pending.1)
        ended p (inr (inr further)) = absurd further.1

        is_clear : (e : Pair) → ((p : Point) → Contains (ends (pairs given)) p → IsFalse (is_strictly_inside e p)) → IsClearOf given e
        is_clear e clear p i = clear p (Contains-from_Has (ends (pairs given)) p i)

        same_winding : (c d : Winding) → ((b : Bool) → number b c ≡ number b d) → c.mask ≡ d.mask → c ≡ d
        same_winding c d numbers mask = λ i. record { subj = numbers true i; clip = numbers false i; mask = mask i }
