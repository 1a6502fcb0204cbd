-- The walk over the marks of a pass, which cuts one segment after another.
use Rattle.std.proofs.Common.{◌≡◌, refl, sym, ap, subst, ◌∙◌, ℕ, zero, suc, ◌+◌, ◌-◌, ◌<◌, ◌≤◌, arith, List, [], ◌∷◌, ◌++◌, map, flat_map, take, drop, length, get_or, append-nil, length-append, Some}
use Rattle.std.specs.Prelude.{IsTrue, ◌≢◌, slice_index_or}
use Rattle.std.specs.List.{AllByRecursion, AllWithin, HoldsAt, slice_get}
use Rattle.std.proofs.lemmas.List.{take_all, drop_all, get_or-map, length-map, length-reverse, length-drop, drop-map}
use Rattle.std.proofs.lemmas.List.Elements.{recursion_from_All}
use Rattle.std.proofs.lemmas.Bool.{cond_both}
use Rattle.std.proofs.lemmas.Option.{slice_get_within, get_or_from_slice_get}
use Rattle.overlay_base.specs.Windings.{is_valid}
use Rattle.overlay_geometry.specs.Points.{Point, Pair, point_cmp, is_ordered}
use Rattle.overlay_geometry.specs.Sorting.{distinct_in_order}
use Rattle.overlay_base.specs.Segments.{WholeSegment}
use Rattle.overlay_base.specs.EdgeData.{DataSegment, Hooks, without_data}
use Rattle.overlay_geometry.proofs.laws.lists.Elements.{AllByRecursion-drop}
use Rattle.overlay_geometry.proofs.laws.lists.Lists.{Steps}
use Rattle.overlay_intersections.specs.MarkOf.{Mark, points_at}
use Rattle.overlay_cuts.specs.CutOf.{AreMarksBy}
use Rattle.overlay_cuts.specs.Path.{path_from, columns_in_order, columns_of, column_path, next_point, last_point, LeadsOn}
use Rattle.overlay_cuts.specs.steps.PathSteps.{IsPathOf}
use Rattle.overlay_cuts.specs.DataPass.{data_pieces_of_each, data_cut_by}
use Rattle.overlay_cuts.specs.steps.DataCutAt.{data_cut_at}
use Rattle.overlay_cuts.proofs.laws.paths.Paths.{all_of, all_of-columns_of, steps_of_path}
use Rattle.overlay_intersections.proofs.laws.marks.Marks.{Differ, IsFree}
use Rattle.overlay_cuts.proofs.laws.paths.Pieces.{last_point-path_from}
use Rattle.overlay_intersections.proofs.laws.marks.ApartPairs.{ends_differ}
use Rattle.overlay_cuts.proofs.laws.passes.MarkBlocks.{AreRising, AreRising-from, IsFront, IsFront-from, points_at-own, points_at-below}
use Rattle.overlay_cuts.proofs.laws.passes.CutLists.{IsCutTo, IsCutTo-start, IsCutTo-cut, IsCutTo-whole, path_at, at_place, segment_at}

-- ---- paths

LeadsOn-from_Steps : (p : Point) (points : List Point) → Steps Differ p points → LeadsOn p points
LeadsOn-from_Steps p [] h = tt
LeadsOn-from_Steps p (q ∷ points) h = (h.0, LeadsOn-from_Steps q points h.1)

column_path_length : (p : Point) (column : List Point) (next : Point) → length (column_path p column next) ≡ length column
unfolding column_path
column_path_length p column next = cond_both _ _ _ (λ (l : List Point). length l ≡ length column) (λ _. length-reverse column) (λ _. refl)

path_length : (p : Point) (columns : List (List Point)) (b : Point) → length (path_from p columns b) ≡ length (all_of columns) + 1
unfolding path_from
path_length p [] b = refl
path_length p (column ∷ columns) b =
    let points = column_path p column (next_point columns b) in
    omega (arith, length-append points (path_from (last_point p points) columns b), column_path_length p column (next_point columns b), path_length (last_point p points) columns b, length-append column (all_of columns))

-- a path through marks that are in order and are no ends
pub IsPathOf-path_from : (pair : Pair) (marks : List Point) → Differ pair.a pair.b → AllByRecursion (λ m. Differ m pair.a × Differ m pair.b) marks → IsPathOf pair (path_from pair.a (columns_of marks) pair.b)
IsPathOf-path_from pair marks ends free = (LeadsOn-from_Steps pair.a _ (steps_of_path pair marks ends free), last_point-path_from (columns_of marks) pair.a pair.a pair.b)

-- marks that are in order, each once
module _ (pair : Pair) (marks points : List Point) (sorted : distinct_in_order point_cmp marks ≡ marks) (is : marks ≡ points) where
  pub path_as_collected : path_from pair.a (columns_in_order points) pair.b ≡ path_from pair.a (columns_of marks) pair.b
  unfolding columns_of
  path_as_collected = ap (λ l. path_from pair.a (columns_in_order l) pair.b) (sym is ∙ sym sorted)

  pub two_steps : 0 < length points → 1 < length (path_from pair.a (columns_of marks) pair.b)
  two_steps some = omega (arith, some, ap length is, path_length pair.a (columns_of marks) pair.b, ap length (all_of-columns_of marks), ap length sorted)

-- ---- lists

pub read_place : {X : Type 0} (xs : List X) (k : ℕ) (x : X) (rest : List X) → drop k xs ≡ x ∷ rest → (k < length xs) × ((d : X) → get_or xs k d ≡ x)
read_place [] zero x rest e = let n : 0 ≡ suc (length rest) = ap length e in absurd (omega (arith, n))
read_place [] (suc k) x rest e = let n : 0 ≡ suc (length rest) = ap length e in absurd (omega (arith, n))
read_place (y ∷ xs) zero x rest e = (omega arith, λ d. ap (λ l. get_or l 0 d) e)
read_place (y ∷ xs) (suc k) x rest e = let r = read_place xs k x rest e in (omega (arith, r.0), r.1)

-- ---- the walk

module _ {D S : Type 0} (hooks : Hooks D S) (marks : Pair → List Point) (given : List (DataSegment D)) (from : S) where
  -- where the walk is: so many segments are cut, and the marks that are left are those of the others
  pub record IsCutSoFar (rest : List Mark) (now : List (DataSegment D)) (left : S) : Type 0 where
    pub done : ℕ
    pub cut : IsCutTo hooks marks given from now left done
    pub rising : AreRising rest
    pub past : AllByRecursion (λ m. done ≤ m.index) rest
    pub within : AllByRecursion (λ m. m.index < length given) rest
    pub points : (j : ℕ) (s : DataSegment D) (tail : List (DataSegment D)) → done ≤ j → drop j given ≡ s ∷ tail → points_at j rest ≡ marks s.pair

  abbrev pub AreOrdered : Type 0
  AreOrdered = (j : ℕ) (s : DataSegment D) (tail : List (DataSegment D)) → drop j given ≡ s ∷ tail → IsTrue (is_ordered s.pair)

  -- segments without marks are passed over
  pass_over : AreOrdered → (now : List (DataSegment D)) (left : S) (k n : ℕ) → IsCutTo hooks marks given from now left k → k + n ≤ length given
      → ((j : ℕ) (s : DataSegment D) (tail : List (DataSegment D)) → k ≤ j → j < k + n → drop j given ≡ s ∷ tail → marks s.pair ≡ []) → IsCutTo hooks marks given from now left (k + n)
  pass_over o now left k zero cut le none = subst (IsCutTo hooks marks given from now left) (omega arith) cut
  pass_over o now left k (suc n) cut le none =
      let at = at_place given k (omega (arith, le)) in
      let step = IsCutTo-whole hooks marks given from now left k at.0 at.1 cut (none k at.0 (drop (suc k) given) (omega arith) (omega arith) at.1) (o k at.0 (drop (suc k) given) at.1) in
      let rest = pass_over o now left (suc k) n step (omega (arith, le)) (λ j s tail p q e. none j s tail (omega (arith, p)) (omega (arith, q)) e) in
      subst (IsCutTo hooks marks given from now left) (omega arith) rest

  module _ (ordered : AreOrdered) (now : List (DataSegment D)) (left : S) where
    -- all segments before the one of the next mark are cut
    pub IsCutSoFar-at : (m : Mark) (ms : List Mark) → IsCutSoFar (m ∷ ms) now left → IsCutTo hooks marks given from now left m.index
    IsCutSoFar-at m ms w =
        let n = m.index - w.done in
        let e : w.done + n ≡ m.index = omega (arith, w.past.0) in
        subst (IsCutTo hooks marks given from now left) e
        (pass_over ordered now left w.done n w.cut (omega (arith, e, w.within.0))
        (λ j s tail p q h. sym (w.points j s tail p h) ∙ points_at-below j (m ∷ ms) (omega (arith, e, q), above j m.index ms (omega (arith, e, q)) w.rising.0)))
      where
        above : (j i : ℕ) (ns : List Mark) → j < i → AllByRecursion (λ n. i ≤ n.index) ns → AllByRecursion (λ n. j < n.index) ns
        above j i [] lt h = tt
        above j i (n ∷ ns) lt h = (omega (arith, lt, h.0), above j i ns lt h.1)

    -- where no mark is left, all are cut
    pub IsCutSoFar-all : IsCutSoFar [] now left → IsCutTo hooks marks given from now left (length given)
    IsCutSoFar-all w =
        let n = length given - w.done in
        let e : w.done + n ≡ length given = omega (arith, w.cut.within) in
        subst (IsCutTo hooks marks given from now left) e
        (pass_over ordered now left w.done n w.cut (omega (arith, e)) (λ j s tail p q h. sym (w.points j s tail p h)))

  -- the segment of the next mark is cut
  pub IsCutSoFar-next : {X : Type 0} (f : X → Mark) (xs : List X) (index n : ℕ) (now : List (DataSegment D)) (left : S) → (w : IsCutSoFar (map f xs) now left) → w.done ≤ index → IsFront f xs index n
      → (now' : List (DataSegment D)) (left' : S) → IsCutTo hooks marks given from now' left' (suc index) → IsCutSoFar (map f (drop n xs)) now' left'
  IsCutSoFar-next f xs index n now left w le front now' left' cut = record {
    done = suc index;
    cut = cut;
    rising = front.rising;
    past = front.past;
    within = subst (AllByRecursion (λ m. m.index < length given)) (drop-map f n xs) (AllByRecursion-drop (λ m. m.index < length given) n (map f xs) w.within);
    points = λ j s tail p e. front.others j (omega (arith, p)) ∙ w.points j s tail (omega (arith, p, le)) e;
  }

-- ---- one step of the walk, where the list and the marks are of any kind

-- what a pass requires of a segment that it cuts
abbrev pub IsUsable : {D : Type 0} → DataSegment D → Type 0
IsUsable s = IsTrue (is_ordered s.pair) × IsTrue (is_valid s.count)

-- and of the marks on it
pub record IsReady {D : Type 0} (marks : Pair → List Point) (s : DataSegment D) : Type 0 where
  pub usable : IsUsable s
  pub sorted : distinct_in_order point_cmp (marks s.pair) ≡ marks s.pair
  pub free : AllByRecursion (IsFree s.pair) (marks s.pair)

module _ {D S X Y : Type 0} (hooks : Hooks D S) (marks : Pair → List Point) (given : List (DataSegment D)) (from : S) (f : X → DataSegment D) (g : Y → Mark) where
  -- the segment of the next mark, before it is cut
  pub record IsAtMark (xs : List X) (ys : List Y) (left : S) (index n : ℕ) : Type 0 where
    pub segment : DataSegment D
    pub ready : IsReady marks segment
    pub inside : index < length xs
    pub here : (x : X) → x ≡ get_or xs index x → f x ≡ segment
    pub own : marks segment.pair ≡ map (λ y. (g y).point) (take n ys)
    pub some : 0 < length (map (λ y. (g y).point) (take n ys))
    pub next : (xs' : List X) (left' : S) → (map f xs', left') ≡ data_cut_at hooks index (path_at hooks marks segment) (map f xs) left → IsCutSoFar hooks marks given from (map g (drop n ys)) (map f xs') left'

  pub IsAtMark-from : AllByRecursion (IsReady marks) given → (xs : List X) (ys : List Y) (left : S) → IsCutSoFar hooks marks given from (map g ys) (map f xs) left → (y : Y) → slice_get ys 0 ≡ Some y
      → (n : ℕ) → n ≤ length ys → AllWithin (λ z. (g z).index ≡ (g y).index) ys 0 n → (n < length ys → HoldsAt (λ z. (g z).index ≢ (g y).index) ys n) → IsAtMark xs ys left (g y).index n
  IsAtMark-from each xs [] left w y e n le own stop = let l = slice_get_within [] 0 y e in absurd (omega (arith, l))
  IsAtMark-from each xs (z ∷ zs) left w y e n le own stop = record {
    segment = at.0;
    ready = its.0;
    inside = subst (λ (k : ℕ). index < k) (length-map xs f) there.0;
    here = λ x is. sym (get_or-map f xs index x (f x) (subst (λ (k : ℕ). index < k) (length-map xs f) there.0) ∙ ap f (sym is)) ∙ there.1 (f x);
    own = sym mine ∙ front.own;
    some = omega (arith, ap length (sym front.own), ap length (points_at-own index (g z) (map g zs) (ap (λ t. (g t).index) is)));
    next = λ xs' left' cut. IsCutSoFar-next hooks marks given from g (z ∷ zs) index n (map f xs) left w (omega (arith, w.past.0, ap (λ t. (g t).index) is)) front (map f xs') left' (IsCutTo-cut hooks marks given from (map f xs) left index at.0 at.1 to (map f xs') left' cut);
  }
    where
      index : ℕ
      index = (g y).index

      is : z ≡ y
      is = get_or_from_slice_get (z ∷ zs) 0 y z e

      ordered : AreOrdered hooks marks given from
      ordered j s tail h = (subst (AllByRecursion (IsReady marks)) h (AllByRecursion-drop (IsReady marks) j given each)).0.usable.0

      to : IsCutTo hooks marks given from (map f xs) left index
      to = subst (IsCutTo hooks marks given from (map f xs) left) (ap (λ t. (g t).index) is) (IsCutSoFar-at hooks marks given from ordered (map f xs) left (g z) (map g zs) w)

      at : (s : DataSegment D) × (drop index given ≡ s ∷ drop (suc index) given)
      at = at_place given index (omega (arith, w.within.0, ap (λ t. (g t).index) is))

      its : AllByRecursion (IsReady marks) (at.0 ∷ drop (suc index) given)
      its = subst (AllByRecursion (IsReady marks)) at.1 (AllByRecursion-drop (IsReady marks) index given each)

      there : (index < length (map f xs)) × ((d : DataSegment D) → get_or (map f xs) index d ≡ at.0)
      there = read_place (map f xs) index at.0 _ (segment_at hooks marks given from (map f xs) left index at.0 at.1 to)

      mine : points_at index (map g (z ∷ zs)) ≡ marks at.0.pair
      mine = w.points index at.0 (drop (suc index) given) (omega (arith, w.past.0, ap (λ t. (g t).index) is)) at.1

      least : AllByRecursion (λ m. index ≤ m.index) (map g (z ∷ zs))
      least = subst (λ (t : Y). AllByRecursion (λ m. (g t).index ≤ m.index) (map g (z ∷ zs))) is (omega arith, w.rising.0)

      front : IsFront g (z ∷ zs) index n
      front = IsFront-from g (z ∷ zs) index n w.rising least le own (λ d lt. stop lt d)

-- ---- the whole walk

-- the path that is collected from the marks on a segment is the one that it is cut along
module _ {D S : Type 0} (hooks : Hooks D S) (marks : Pair → List Point) (s : DataSegment D) (ready : IsReady marks s) (own : List Point) (is : marks s.pair ≡ own) where
  pub path_collected : (a b : Point) (points : List Point) → a ≡ s.pair.a → b ≡ s.pair.b → points ≡ path_from a (columns_in_order own) b → points ≡ path_at hooks marks s
  path_collected a b points start end e = e ∙ (λ i. path_from (start i) (columns_in_order own) (end i)) ∙ path_as_collected s.pair (marks s.pair) own ready.sorted is

  pub path_steps : 0 < length own → 1 < length (path_at hooks marks s)
  path_steps some = two_steps s.pair (marks s.pair) own ready.sorted is some

  pub path_is : IsPathOf s.pair (path_at hooks marks s)
  path_is = IsPathOf-path_from s.pair (marks s.pair) (ends_differ s.pair ready.usable.0) ready.free

module _ {D : Type 0} (marks : Pair → List Point) (segments : List WholeSegment) (given : List (DataSegment D)) (same : segments ≡ without_data given) (all : List Mark) (are : AreMarksBy marks segments all) where
  lengths : length segments ≡ length given
  lengths = ap length same ∙ length-map given (λ s. record { pair = s.pair; count = s.count })

  -- the marks of an index are those on the pair that is there
  pub marks_at_place : (j : ℕ) (s : DataSegment D) (tail : List (DataSegment D)) → drop j given ≡ s ∷ tail → points_at j all ≡ marks s.pair
  marks_at_place j s tail e =
      let r = read_place given j s tail e in
      let bare : WholeSegment = record { pair = s.pair; count = s.count } in
      let read : slice_index_or segments j bare ≡ bare = ap (λ l. slice_index_or l j bare) same ∙ get_or-map (λ (t : DataSegment D). record { pair = t.pair; count = t.count }) given j s bare r.0 ∙ ap (λ (t : DataSegment D). record { pair = t.pair; count = t.count }) (r.1 s) in
      are.each j bare (omega (arith, r.0, lengths)) ∙ ap (λ (t : WholeSegment). marks t.pair) read

  pub IsCutSoFar-start : {S : Type 0} (hooks : Hooks D S) (from : S) → IsCutSoFar hooks marks given from all given from
  IsCutSoFar-start hooks from = record {
    done = 0;
    cut = IsCutTo-start hooks marks given from;
    rising = AreRising-from all are.in_order;
    past = least all;
    within = subst (λ (n : ℕ). AllByRecursion (λ m. m.index < n) all) lengths (recursion_from_All (λ m. m.index < length segments) all are.within);
    points = λ j s tail le e. marks_at_place j s tail e;
  }
    where
      least : (ms : List Mark) → AllByRecursion (λ m. 0 ≤ m.index) ms
      least [] = tt
      least (m ∷ ms) = (omega arith, least ms)

module _ {D S : Type 0} (hooks : Hooks D S) (marks : Pair → List Point) (given : List (DataSegment D)) (from : S) where
  IsCutTo-end : (now : List (DataSegment D)) (left : S) → IsCutTo hooks marks given from now left (length given) → (now, left) ≡ data_cut_by hooks marks given from
  unfolding data_cut_by
  IsCutTo-end now left cut =
      let whole : take (length given) given ≡ given = take_all (length given) given (omega arith) in
      let none : drop (length given) given ≡ [] = drop_all (length given) given (omega arith) in
      let each : data_pieces_of_each hooks marks (take (length given) given) from ≡ data_pieces_of_each hooks marks given from = ap (λ l. data_pieces_of_each hooks marks l from) whole in
      let firsts : now ≡ flat_map (λ ps. take 1 ps) (data_pieces_of_each hooks marks (take (length given) given) from).0 ++ flat_map (λ ps. drop 1 ps) (data_pieces_of_each hooks marks (take (length given) given) from).0 =
      cut.items ∙ (λ i. flat_map (λ ps. take 1 ps) (data_pieces_of_each hooks marks (take (length given) given) from).0 ++ none i ++ flat_map (λ ps. drop 1 ps) (data_pieces_of_each hooks marks (take (length given) given) from).0)
      ∙ ap (λ l. l ++ flat_map (λ ps. drop 1 ps) (data_pieces_of_each hooks marks (take (length given) given) from).0) (append-nil _) in
      (λ i. (firsts i, cut.store i)) ∙ ap (λ (v : List (List (DataSegment D)) × S). let cut : List (DataSegment D) × S = (flat_map (λ ps. take 1 ps) v.0 ++ flat_map (λ ps. drop 1 ps) v.0, v.1) in cut) each

  -- where no mark is left the list is cut
  pub IsCutSoFar-end : AllByRecursion (IsReady marks) given → (rest : List Mark) → rest ≡ [] → (now : List (DataSegment D)) (left : S) → IsCutSoFar hooks marks given from rest now left → (now, left) ≡ data_cut_by hooks marks given from
  IsCutSoFar-end each rest none now left w =
      IsCutTo-end now left (IsCutSoFar-all hooks marks given from ordered now left (subst (λ (ms : List Mark). IsCutSoFar hooks marks given from ms now left) none w))
    where
      ordered : AreOrdered hooks marks given from
      ordered j s tail h = (subst (AllByRecursion (IsReady marks)) h (AllByRecursion-drop (IsReady marks) j given each)).0.usable.0

-- fewer are left behind some in front
pub fewer_left : {X Y : Type 0} (f : X → Y) (n : ℕ) (xs : List X) → 0 < length (map f (take n xs)) → length (drop n xs) < length xs
fewer_left f zero xs some = absurd (omega (arith, some))
fewer_left f (suc n) [] some = absurd (omega (arith, some))
fewer_left f (suc n) (x ∷ xs) some = omega (arith, length-drop n xs)
