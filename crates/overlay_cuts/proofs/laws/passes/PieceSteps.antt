-- The pieces along a path, one by one.
use Rattle.std.proofs.Common.{◌≡◌, ℕ, ◌+◌, ◌<◌, ◌≤◌, length-append, List, [], ◌∷◌, ◌++◌, map, length, drop, get_or, refl, sym, ap, subst, ◌∙◌, arith, append_assoc, add-one}
use Rattle.std.specs.Prelude.{◌≢◌}
use Rattle.std.proofs.Math.Seq.{drop-cons}
use Rattle.std.proofs.Math.ListN.{drop_of_length-le}
use Rattle.std.proofs.lemmas.List.{map-append}
use Rattle.overlay_geometry.specs.Points.{Point}
use Rattle.overlay_base.specs.Windings.{Winding}
use Rattle.overlay_base.specs.EdgeData.{DataSegment, Hooks, data_piece}
use Rattle.overlay_cuts.specs.Path.{LeadsOn, last_point}
use Rattle.overlay_cuts.specs.DataPass.{data_pieces}

module _ {D S : Type 0} (hooks : Hooks D S) (count : Winding) (b : Point) where
  pub pieces-last : (p q : Point) (edge_data : D) (store : S) → data_pieces hooks count p (q ∷ []) b edge_data store ≡ ((data_piece hooks count p q edge_data store).0 ∷ [], (data_piece hooks count p q edge_data store).1)
  unfolding data_pieces
  pieces-last p q edge_data store = refl

  -- what is left after one more piece
  abbrev pub part_of : Point → Point → D → S → (D × D) × S
  part_of p q edge_data store = hooks.split (record { edge_data = edge_data; a = p; p = q; b = b }) store

  abbrev pub first_of : Point → Point → D → S → DataSegment D × S
  first_of p q edge_data store = let parts : (D × D) × S = part_of p q edge_data store in data_piece hooks count p q parts.0.0 parts.1

  abbrev pub later_of : Point → Point → List Point → D → S → List (DataSegment D) × S
  later_of p q points edge_data store =
      let parts : (D × D) × S = part_of p q edge_data store in
      data_pieces hooks count q points b parts.0.1 (first_of p q edge_data store).1

  pub pieces-next : (p q : Point) (points : List Point) (edge_data : D) (store : S) → 0 < length points
      → data_pieces hooks count p (q ∷ points) b edge_data store ≡ ((first_of p q edge_data store).0 ∷ (later_of p q points edge_data store).0, (later_of p q points edge_data store).1)
  unfolding data_pieces
  pieces-next p q [] edge_data store lt = absurd (omega arith)
  pieces-next p q (r ∷ points) edge_data store lt = refl

  pub pieces-none : (p : Point) (edge_data : D) (store : S) → data_pieces hooks count p [] b edge_data store ≡ ([], store)
  unfolding data_pieces
  pieces-none p edge_data store = refl

module _ {D S : Type 0} (hooks : Hooks D S) (count : Winding) (b : Point) where
  after_piece : Point → List Point → D → DataSegment D × S → List (DataSegment D) × S
  after_piece q rest later made = (made.0 ∷ (data_pieces hooks count q rest b later made.1).0, (data_pieces hooks count q rest b later made.1).1)

  after_split : Point → Point → List Point → (D × D) × S → List (DataSegment D) × S
  after_split p q rest parts = after_piece q rest parts.0.1 (data_piece hooks count p q parts.0.0 parts.1)

  -- one more piece, up to q, before the rest of the path
  pub pieces-step : (p q : Point) (rest : List Point) (edge_data : D) (store : S) → 0 < length rest → (part later : D) (middle : S)
      → (part, later) ≡ (part_of hooks count b p q edge_data store).0 → middle ≡ (part_of hooks count b p q edge_data store).1
      → (piece : DataSegment D) (after : S) → piece ≡ (data_piece hooks count p q part middle).0 → after ≡ (data_piece hooks count p q part middle).1
      → data_pieces hooks count p (q ∷ rest) b edge_data store ≡ (piece ∷ (data_pieces hooks count q rest b later after).0, (data_pieces hooks count q rest b later after).1)
  unfolding after_split after_piece
  pieces-step p q rest edge_data store lt part later middle parts mid piece after is left =
      let split : hooks.split (record { edge_data = edge_data; a = p; p = q; b = b }) store ≡ ((part, later), middle) = λ i. (sym parts i, sym mid i) in
      let made : data_piece hooks count p q part middle ≡ (piece, after) = λ i. (sym is i, sym left i) in
      pieces-next hooks count b p q rest edge_data store lt ∙ ap (after_split p q rest) split ∙ ap (after_piece q rest later) made

-- how far pieces are appended: given is the list before, now the list so far, and the rest of the path follows on p
pub record ArePushed {D S : Type 0} (hooks : Hooks D S) (count : Winding) (b : Point) (given now : List (DataSegment D)) (all : List (DataSegment D) × S) (p : Point) (points : List Point) (edge_data : D) (store : S) : Type 0 where
  pub items : given ++ all.0 ≡ now ++ (data_pieces hooks count p points b edge_data store).0
  pub store_is : all.1 ≡ (data_pieces hooks count p points b edge_data store).1
  pub leads_on : LeadsOn p points

module _ {D S : Type 0} (hooks : Hooks D S) (count : Winding) (b : Point) (given : List (DataSegment D)) where
  pub ArePushed-start : (p : Point) (points : List Point) (edge_data : D) (store : S) → LeadsOn p points → ArePushed hooks count b given given (data_pieces hooks count p points b edge_data store) p points edge_data store
  ArePushed-start p points edge_data store leads = record { items = refl; store_is = refl; leads_on = leads }

  module _ (now : List (DataSegment D)) (all : List (DataSegment D) × S) (p : Point) (points : List Point) (edge_data : D) (store : S) (pushed : ArePushed hooks count b given now all p points edge_data store) where
    -- one more piece, up to q, before the rest of the path
    pub ArePushed-next : (q : Point) (rest : List Point) → points ≡ q ∷ rest → 0 < length rest → (part : D) (later : D) (middle : S)
        → (part, later) ≡ (part_of hooks count b p q edge_data store).0 → middle ≡ (part_of hooks count b p q edge_data store).1
        → (piece : DataSegment D) (after : S) → piece ≡ (data_piece hooks count p q part middle).0 → after ≡ (data_piece hooks count p q part middle).1
        → ArePushed hooks count b given (now ++ piece ∷ []) all q rest later after
    ArePushed-next q rest e lt part later middle parts mid piece after is left =
        let step = ap (λ l. data_pieces hooks count p l b edge_data store) e ∙ pieces-step hooks count b p q rest edge_data store lt part later middle parts mid piece after is left in
        record {
          items = pushed.items ∙ ap (λ v. now ++ v.0) step ∙ sym (append_assoc now (piece ∷ []) (data_pieces hooks count q rest b later after).0);
          store_is = pushed.store_is ∙ ap (λ v. v.1) step;
          leads_on = (subst (LeadsOn p) e pushed.leads_on).1;
        }

    -- the last piece
    pub ArePushed-last : (q : Point) → points ≡ q ∷ [] → (piece : DataSegment D) (after : S) → piece ≡ (data_piece hooks count p q edge_data store).0 → after ≡ (data_piece hooks count p q edge_data store).1
        → (now ++ piece ∷ [] ≡ given ++ all.0) × (after ≡ all.1)
    ArePushed-last q e piece after is left =
        let step : data_pieces hooks count p points b edge_data store ≡ ((data_piece hooks count p q edge_data store).0 ∷ [], (data_piece hooks count p q edge_data store).1) =
        ap (λ l. data_pieces hooks count p l b edge_data store) e ∙ pieces-last hooks count b p q edge_data store in
        (ap (λ s. now ++ s ∷ []) is ∙ sym (pushed.items ∙ ap (λ v. now ++ v.0) step), left ∙ sym (pushed.store_is ∙ ap (λ v. v.1) step))

    pub ArePushed-differ : (q : Point) (rest : List Point) → points ≡ q ∷ rest → p ≢ q
    ArePushed-differ q rest e = (subst (LeadsOn p) e pushed.leads_on).0

-- ---- the rest of a path, which ends in b

module _ {X : Type 0} (f : X → Point) (marks : List X) (b : Point) (index : ℕ) where
  pub left_at : (m : X) → index < length marks → m ≡ get_or marks index m → map f (drop index marks) ++ b ∷ [] ≡ f m ∷ (map f (drop (index + 1) marks) ++ b ∷ [])
  left_at m lt is = rw (drop-cons marks index m lt, ← is, add-one) refl

  pub left_none : length marks ≤ index → map f (drop index marks) ++ b ∷ [] ≡ b ∷ []
  left_none le = ap (λ l. map f l ++ b ∷ []) (drop_of_length-le marks le)

  pub left_some : 0 < length (map f (drop index marks) ++ b ∷ [])
  left_some = omega (arith, length-append (map f (drop index marks)) (b ∷ []))

pub last_point-next : (p q : Point) (points : List Point) → last_point p (q ∷ points) ≡ last_point q points
unfolding last_point
last_point-next p q points = refl

last_point-end : (p : Point) (points : List Point) (b : Point) → last_point p (points ++ b ∷ []) ≡ b
unfolding last_point
last_point-end p [] b = refl
last_point-end p (q ∷ points) b = last_point-end q points b

-- a path given whole, and cut before its last point
pub whole_path : {X : Type 0} (f : X → Point) (path marks : List X) (b : X) (p : Point) → path ≡ marks ++ b ∷ [] → (map f path ≡ map f marks ++ f b ∷ []) × (last_point p (map f path) ≡ f b)
whole_path f path marks b p e =
    let cut : map f path ≡ map f marks ++ f b ∷ [] = ap (map f) e ∙ map-append f marks (b ∷ []) in
    (cut, ap (last_point p) cut ∙ last_point-end p (map f marks) (f b))
