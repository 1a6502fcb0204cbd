-- One segment of a list, cut along a path, and how far all segments of a list are cut.
use Rattle.std.proofs.Common.{◌≡◌, sym, ap, ap₂, subst, ◌∙◌, ℕ, zero, suc, ◌+◌, ◌<◌, arith, List, [], ◌∷◌, ◌++◌, map, take, drop, length, set, get_or, append_assoc, All}
use Rattle.std.proofs.lemmas.List.{map-set, take-append-drop, take-set, drop-set, length-map}
use Rattle.std.proofs.Math.Seq.{drop-cons}
use Rattle.overlay_geometry.specs.Points.{Point}
use Rattle.overlay_base.specs.EdgeData.{DataSegment, Hooks}
use Rattle.overlay_cuts.specs.DataPass.{data_pieces}
use Rattle.overlay_cuts.specs.steps.DataCutAt.{data_cut_at}
use Rattle.overlay_base.proofs.laws.joins.Rests.{rest-more}

-- ---- an element of a list, in its place

module _ {X : Type 0} (P : X → Type 0) (xs : List X) (i : ℕ) (x : X) (lt : i < length xs) (is : x ≡ get_or xs i x) where
  alone_at : take 1 (drop i xs) ≡ x ∷ []
  alone_at = ap (take 1) (drop-cons xs i x lt) ∙ ap (λ z. z ∷ []) (sym is)

  pub All-at : P x → All P (take 1 (drop i xs))
  All-at h = subst (All P) (sym alone_at) one
    where
      one : All P (x ∷ [])
      one zero d k = h
      one (suc n) d k = absurd (omega arith)

  pub All-at_out : All P (take 1 (drop i xs)) → P x
  All-at_out h = subst (All P) alone_at h 0 x (omega arith)

pub replaced : {X : Type 0} (xs : List X) (i : ℕ) (y : X) → i < length xs → set xs i y ≡ take i xs ++ y ∷ drop (i + 1) xs
replaced xs i y lt = sym (take-append-drop i (set xs i y)) ∙ ap₂ (λ ys zs. ys ++ zs) (take-set xs i y) (drop-set xs i y lt)

-- a first piece in its place, the later ones after all
put_around : {Y : Type 0} (front rest later : List Y) (y : Y) → (front ++ y ∷ rest) ++ later ≡ front ++ take 1 (y ∷ later) ++ rest ++ drop 1 (y ∷ later)
put_around front rest later y = ap (λ l. l ++ later) (sym (append_assoc front (y ∷ []) rest))

-- ---- one segment

module _ {D S : Type 0} (hooks : Hooks D S) where
  pub data_cut_at-is : (index : ℕ) (points : List Point) (segments : List (DataSegment D)) (store : S) (s : DataSegment D) (rest : List (DataSegment D)) → drop index segments ≡ s ∷ rest
      → (cut : List (DataSegment D) × S) → data_pieces hooks s.count s.pair.a points s.pair.b s.edge_data store ≡ cut
      → data_cut_at hooks index points segments store ≡ (take index segments ++ take 1 cut.0 ++ rest ++ drop 1 cut.0, cut.1)
  unfolding data_cut_at
  data_cut_at-is index points segments store s rest e cut c = rw (e, data_cut_at) (ap (λ (v : List (DataSegment D) × S). let all : List (DataSegment D) × S = (take index segments ++ take 1 v.0 ++ rest ++ drop 1 v.0, v.1) in all) c)

  -- a segment is replaced by its first piece, and the later ones are appended
  pub data_cut_at-done : {X : Type 0} (f : X → DataSegment D) (xs : List X) (i : ℕ) (x y : X) → i < length xs → x ≡ get_or xs i x → (points : List Point) (store : S)
      → (later : List (DataSegment D)) (left : S) → data_pieces hooks (f x).count (f x).pair.a points (f x).pair.b (f x).edge_data store ≡ (f y ∷ later, left)
      → data_cut_at hooks i points (map f xs) store ≡ (map f (set xs i y) ++ later, left)
  data_cut_at-done f xs i x y lt is points store later left c =
      let there = rest-more f xs i x lt is in
      let inside : i < length (map f xs) = subst (λ (n : ℕ). i < n) (sym (length-map xs f)) lt in
      let put : map f (set xs i y) ≡ take i (map f xs) ++ f y ∷ drop (i + 1) (map f xs) = map-set f xs i y ∙ replaced (map f xs) i (f y) inside in
      let all : map f (set xs i y) ++ later ≡ take i (map f xs) ++ take 1 (f y ∷ later) ++ drop (i + 1) (map f xs) ++ drop 1 (f y ∷ later) =
      ap (λ l. l ++ later) put ∙ put_around (take i (map f xs)) (drop (i + 1) (map f xs)) later (f y) in
      data_cut_at-is i points (map f xs) store (f x) (drop (i + 1) (map f xs)) there (f y ∷ later, left) c
      ∙ (λ j. (sym all j, left))
