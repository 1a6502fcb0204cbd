-- How far the segments of a list are cut at their marks.
use Rattle.std.proofs.Common.{◌≡◌, refl, sym, ap, ◌∙◌, ℕ, zero, suc, ◌<◌, ◌≤◌, arith, List, [], ◌∷◌, ◌++◌, flat_map, take, drop, length, append_assoc, append-nil, length-append}
use Rattle.std.specs.Prelude.{IsTrue}
use Rattle.std.proofs.lemmas.List.{take_at, drop_at, length-drop}
use Rattle.std.proofs.lemmas.Grind.{flat_map-append}
use Rattle.overlay_geometry.specs.Points.{Point, Pair, is_ordered}
use Rattle.overlay_base.specs.Windings.{Winding}
use Rattle.overlay_base.specs.EdgeData.{DataSegment, Hooks}
use Rattle.overlay_cuts.specs.Path.{path_from, columns_of, column_path, next_point, last_point}
use Rattle.overlay_cuts.specs.DataPass.{data_pieces, data_pieces_of_each}
use Rattle.overlay_cuts.specs.steps.DataCutAt.{data_cut_at}
use Rattle.overlay_cuts.proofs.laws.passes.DataPasses.{whole}
use Rattle.overlay_cuts.proofs.laws.passes.CutSteps.{data_cut_at-is}

-- ---- lists from a place on

take_next : {X : Type 0} (xs : List X) (k : ℕ) (x : X) (rest : List X) → drop k xs ≡ x ∷ rest → take (suc k) xs ≡ take k xs ++ x ∷ []
take_next [] zero x rest e = let n : 0 ≡ suc (length rest) = ap length e in absurd (omega (arith, n))
take_next [] (suc k) x rest e = let n : 0 ≡ suc (length rest) = ap length e in absurd (omega (arith, n))
take_next (y ∷ xs) zero x rest e = ap (λ l. take 1 l) e
take_next (y ∷ xs) (suc k) x rest e = ap (λ l. y ∷ l) (take_next xs k x rest e)

pub at_place : {X : Type 0} (xs : List X) (k : ℕ) → k < length xs → (x : X) × (drop k xs ≡ x ∷ drop (suc k) xs)
at_place [] k lt = absurd (omega arith)
at_place (x ∷ xs) zero lt = (x, refl)
at_place (x ∷ xs) (suc k) lt = at_place xs k (omega (arith, lt))

length_take : {X : Type 0} (xs : List X) (k : ℕ) → k ≤ length xs → length (take k xs) ≡ k
length_take xs zero le = refl
length_take [] (suc k) le = absurd (omega (arith, le))
length_take (x ∷ xs) (suc k) le = ap suc (length_take xs k (omega (arith, le)))

-- ---- the pieces of each segment

path_from_some : (p : Point) (columns : List (List Point)) (b : Point) → 0 < length (path_from p columns b)
unfolding path_from
path_from_some p [] b = omega arith
path_from_some p (column ∷ columns) b =
    let points = column_path p column (next_point columns b) in
    let rest = path_from_some (last_point p points) columns b in
    omega (arith, rest, length-append points (path_from (last_point p points) columns b))

-- what follows two parts, and the second
regroup : {X : Type 0} (ws bs cs ds : List X) → ws ++ (bs ++ cs) ++ ds ≡ ws ++ bs ++ (cs ++ ds)
regroup ws bs cs ds = ap (λ l. l ++ ds) (sym (append_assoc ws bs cs)) ∙ append_assoc (ws ++ bs) cs ds

-- an element in its place, as the first and only piece of itself
put_alone : {X S : Type 0} (f r o : List X) (x : X) (now : List X) (store : S) (cut : List X × S) → cut ≡ (x ∷ [], store) → now ≡ f ++ (x ∷ r) ++ o → now ≡ f ++ take 1 cut.0 ++ (r ++ o) ++ drop 1 cut.0
put_alone f r o x now store cut alone is =
    is ∙ ap (λ l. l ++ o) (sym (append_assoc f (x ∷ []) r)) ∙ append_assoc (f ++ x ∷ []) r o ∙ sym (append-nil (f ++ x ∷ [] ++ (r ++ o))) ∙ ap (λ v. f ++ take 1 v.0 ++ (r ++ o) ++ drop 1 v.0) (sym alone)

module _ {D S : Type 0} (hooks : Hooks D S) (marks : Pair → List Point) where
  abbrev each_of : List (DataSegment D) → S → List (List (DataSegment D)) × S
  each_of = data_pieces_of_each hooks marks

  abbrev pub path_at : DataSegment D → List Point
  path_at s = path_from s.pair.a (columns_of (marks s.pair)) s.pair.b

  abbrev pieces_at : DataSegment D → S → List (DataSegment D) × S
  pieces_at s store = data_pieces hooks s.count s.pair.a (path_at s) s.pair.b s.edge_data store

  abbrev firsts : List (List (DataSegment D)) → List (DataSegment D)
  firsts each = flat_map (λ ps. take 1 ps) each

  abbrev others : List (List (DataSegment D)) → List (DataSegment D)
  others each = flat_map (λ ps. drop 1 ps) each

  each-append : (xs : List (DataSegment D)) (s : DataSegment D) (store : S) → each_of (xs ++ s ∷ []) store ≡ ((each_of xs store).0 ++ (pieces_at s (each_of xs store).1).0 ∷ [], (pieces_at s (each_of xs store).1).1)
  unfolding data_pieces_of_each
  each-append [] s store = refl
  each-append (x ∷ xs) s store =
      let here : List (DataSegment D) × S = pieces_at x store in
      ap (λ (v : List (List (DataSegment D)) × S). let all : List (List (DataSegment D)) × S = (here.0 ∷ v.0, v.1) in all) (each-append xs s here.1)

  first_piece : (count : Winding) (p : Point) (points : List Point) (b : Point) (edge_data : D) (store : S) → 0 < length points → length (take 1 (data_pieces hooks count p points b edge_data store).0) ≡ 1
  unfolding data_pieces
  first_piece count p [] b edge_data store lt = absurd (omega (arith, lt))
  first_piece count p (q ∷ []) b edge_data store lt = refl
  first_piece count p (q ∷ r ∷ points) b edge_data store lt = refl

  one_first : (s : DataSegment D) (store : S) → length (take 1 (pieces_at s store).0) ≡ 1
  one_first s store = first_piece s.count s.pair.a (path_at s) s.pair.b s.edge_data store (path_from_some s.pair.a (columns_of (marks s.pair)) s.pair.b)

  firsts-length : (xs : List (DataSegment D)) (store : S) → length (firsts (each_of xs store).0) ≡ length xs
  unfolding data_pieces_of_each
  firsts-length [] store = refl
  firsts-length (x ∷ xs) store =
      let here : List (DataSegment D) × S = pieces_at x store in
      omega (arith, length-append (take 1 here.0) (firsts (each_of xs here.1).0), one_first x store, firsts-length xs here.1)

  firsts-append : (each : List (List (DataSegment D))) (ps : List (DataSegment D)) → firsts (each ++ ps ∷ []) ≡ firsts each ++ take 1 ps
  firsts-append each ps = flat_map-append (λ qs. take 1 qs) each (ps ∷ []) ∙ ap (λ l. firsts each ++ l) (append-nil (take 1 ps))

  others-append : (each : List (List (DataSegment D))) (ps : List (DataSegment D)) → others (each ++ ps ∷ []) ≡ others each ++ drop 1 ps
  others-append each ps = flat_map-append (λ qs. drop 1 qs) each (ps ∷ []) ∙ ap (λ l. others each ++ l) (append-nil (drop 1 ps))

  module _ (given : List (DataSegment D)) (from : S) where
    abbrev done : ℕ → List (List (DataSegment D)) × S
    done k = each_of (take k given) from

    -- the first k segments are cut
    pub record IsCutTo (now : List (DataSegment D)) (left : S) (k : ℕ) : Type 0 where
      pub within : k ≤ length given
      pub items : now ≡ firsts (done k).0 ++ drop k given ++ others (done k).0
      pub store : left ≡ (done k).1

    pub IsCutTo-start : IsCutTo given from 0
    unfolding data_pieces_of_each
    IsCutTo-start = record { within = omega arith; items = sym (append-nil given); store = refl }

    module _ (now : List (DataSegment D)) (left : S) (k : ℕ) (s : DataSegment D) (is : drop k given ≡ s ∷ drop (suc k) given) (cut : IsCutTo now left k) where
      inside : k < length given
      inside = omega (arith, ap length is, length-drop k given)

      one_more : done (suc k) ≡ ((done k).0 ++ (pieces_at s left).0 ∷ [], (pieces_at s left).1)
      one_more =
          ap (λ l. each_of l from) (take_next given k s (drop (suc k) given) is) ∙ each-append (take k given) s from
          ∙ (λ i. ((done k).0 ++ (pieces_at s (sym cut.store i)).0 ∷ [], (pieces_at s (sym cut.store i)).1))

      front : length (firsts (done k).0) ≡ k
      front = firsts-length (take k given) from ∙ length_take given k cut.within

      pub segment_at : drop k now ≡ s ∷ (drop (suc k) given ++ others (done k).0)
      segment_at = ap (drop k) (cut.items ∙ append_assoc (firsts (done k).0) (drop k given) (others (done k).0)) ∙ drop_at (firsts (done k).0) (drop k given ++ others (done k).0) k front ∙ ap (λ l. l ++ others (done k).0) is

      before : take k now ≡ firsts (done k).0
      before = ap (take k) (cut.items ∙ append_assoc (firsts (done k).0) (drop k given) (others (done k).0)) ∙ take_at (firsts (done k).0) (drop k given ++ others (done k).0) k front

      next : (now' : List (DataSegment D)) (left' : S) → now' ≡ firsts (done k).0 ++ take 1 (pieces_at s left).0 ++ (drop (suc k) given ++ others (done k).0) ++ drop 1 (pieces_at s left).0 → left' ≡ (pieces_at s left).1 → IsCutTo now' left' (suc k)
      next now' left' e st = record {
        within = inside;
        items = e ∙ regroup (firsts (done k).0 ++ take 1 (pieces_at s left).0) (drop (suc k) given) (others (done k).0) (drop 1 (pieces_at s left).0)
            ∙ (λ i. sym (firsts-append (done k).0 (pieces_at s left).0) i ++ drop (suc k) given ++ sym (others-append (done k).0 (pieces_at s left).0) i)
            ∙ ap (λ v. firsts v.0 ++ drop (suc k) given ++ others v.0) (sym one_more);
        store = st ∙ ap (λ v. v.1) (sym one_more);
      }

      -- a segment is cut
      pub IsCutTo-cut : (now' : List (DataSegment D)) (left' : S) → (now', left') ≡ data_cut_at hooks k (path_at s) now left → IsCutTo now' left' (suc k)
      IsCutTo-cut now' left' e =
          let is_cut = e ∙ data_cut_at-is hooks k (path_at s) now left s (drop (suc k) given ++ others (done k).0) segment_at (pieces_at s left) refl in
          next now' left' (ap (λ v. v.0) is_cut ∙ ap (λ l. l ++ take 1 (pieces_at s left).0 ++ (drop (suc k) given ++ others (done k).0) ++ drop 1 (pieces_at s left).0) before) (ap (λ v. v.1) is_cut)

      -- a segment without marks is its own only piece
      pub IsCutTo-whole : marks s.pair ≡ [] → IsTrue (is_ordered s.pair) → IsCutTo now left (suc k)
      IsCutTo-whole none ordered =
          let alone : pieces_at s left ≡ (s ∷ [], left) = ap (λ (l : List Point). data_pieces hooks s.count s.pair.a (path_from s.pair.a (columns_of l) s.pair.b) s.pair.b s.edge_data left) none ∙ whole hooks s left ordered in
          next now left (put_alone (firsts (done k).0) (drop (suc k) given) (others (done k).0) s now left (pieces_at s left) alone (cut.items ∙ ap (λ l. firsts (done k).0 ++ l ++ others (done k).0) is)) (sym (ap (λ v. v.1) alone))
