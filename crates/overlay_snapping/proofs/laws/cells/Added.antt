-- Points that a segment meets, added some after others.
use Rattle.std.proofs.Common.{◌≡◌, sym, ap, subst, ◌∙◌, ◌⊎◌, inl, inr, ⊎_elim, ◌↔◌, ℕ, ◌+◌, ◌<◌, ◌≤◌, true, false, IsTrue, List, [], ◌∷◌, ◌++◌, map, take, take_all, get_or, length, append-nil, append_assoc}
use Rattle.std.specs.Prelude.{Contains}
use Rattle.std.proofs.lemmas.Bool.{both_ways}
use Rattle.std.proofs.lemmas.List.{map-append, take_more}
use Rattle.std.proofs.lemmas.List.Elements.{Contains-append_left, Contains-append_right, Contains-append_cases, Contains-push, Contains-push_cases}
use Rattle.overlay_geometry.specs.Points.{Point, Pair}
use Rattle.overlay_snapping.specs.steps.Met.{is_met, AddsMet, AddsAllMet}
use Rattle.overlay_snapping.proofs.laws.closure.Elements.{no_element}

module _ (s : Pair) (points : List Point) where
  pub adds_nothing : (P : Point → Type 0) (old : List Point) → ((c : Point) → P c → ⊥) → AddsMet s points P old old
  adds_nothing P old none = record { added = []; is = sym (append-nil old); only = λ c i. absurd (no_element c i); all = λ c i p m. absurd (none c p) }

  -- what is sought less often
  pub adds_fewer : (P Q : Point → Type 0) (old new : List Point) → ((c : Point) → Contains points c → IsTrue (is_met s c) → Q c → P c) → AddsMet s points P old new → AddsMet s points Q old new
  adds_fewer P Q old new h a = record { added = a.added; is = a.is; only = a.only; all = λ c i q m. a.all c i (h c i m q) m }

  pub adds_then : (P Q R : Point → Type 0) (old mid new : List Point) → ((c : Point) → R c → P c ⊎ Q c) → AddsMet s points P old mid → AddsMet s points Q mid new → AddsMet s points R old new
  adds_then P Q R old mid new split a b = record {
    added = a.added ++ b.added;
    is = b.is ∙ ap (λ l. l ++ b.added) a.is ∙ append_assoc old a.added b.added;
    only = λ c i. ⊎_elim (λ j. a.only c j) (λ j. b.only c j) (Contains-append_cases a.added b.added c i);
    all = λ c i r m. ⊎_elim (λ p. Contains-append_left a.added b.added c (a.all c i p m)) (λ q. Contains-append_right a.added b.added c (b.all c i q m)) (split c r);
  }

  -- one point more is looked at: it is met and pushed, or is not met
  pub adds_point : (P R : Point → Type 0) (old now new : List Point) (p : Point) → AddsMet s points P old now → Contains points p → is_met s p ≡ true → new ≡ now ++ p ∷ [] → ((c : Point) → Contains points c → R c → P c ⊎ (p ≡ c)) → AddsMet s points R old new
  adds_point P R old now new p a there met pushed split = record {
    added = a.added ++ p ∷ [];
    is = pushed ∙ ap (λ l. l ++ p ∷ []) a.is ∙ append_assoc old a.added (p ∷ []);
    only = λ c i. ⊎_elim (λ j. a.only c j) (λ e. subst (λ (q : Point). Contains points q × IsTrue (is_met s q)) e (there, met)) (Contains-push_cases a.added p c i);
    all = λ c i r m. ⊎_elim (λ q. Contains-append_left a.added (p ∷ []) c (a.all c i q m)) (λ e. subst (λ (q : Point). Contains (a.added ++ p ∷ []) q) e (Contains-push a.added p)) (split c i r);
  }

  pub adds_no_point : (P R : Point → Type 0) (old now : List Point) (p : Point) → AddsMet s points P old now → is_met s p ≡ false → ((c : Point) → Contains points c → R c → P c ⊎ (p ≡ c)) → AddsMet s points R old now
  adds_no_point P R old now p a off split = record {
    added = a.added;
    is = a.is;
    only = a.only;
    all = λ c i r m. ⊎_elim (λ q. a.all c i q m) (λ e. absurd (both_ways (is_met s p) off (subst (λ (q : Point). is_met s q ≡ true) (sym e) m))) (split c i r);
  }

-- all that is met of the same points in another list
pub adds_alike : (s : Pair) (xs ys old new : List Point) → ((c : Point) → Contains xs c ↔ Contains ys c) → AddsAllMet s xs old new → AddsAllMet s ys old new
adds_alike s xs ys old new same a = record {
  added = a.added;
  is = a.is;
  only = λ c i. let r = a.only c i in ((same c).0 r.0, r.1);
  all = λ c i j m. let k = (same c).1 i in a.all c k k m;
}

-- as code pushes it
pub pushed_point : {X : Type 0} (f : X → Point) (now : List X) (more : List X) (x : X) → more ≡ now ++ x ∷ [] → map f more ≡ map f now ++ f x ∷ []
pushed_point f now more x e = ap (map f) e ∙ map-append f now (x ∷ [])

-- ---- points of code, one after another

pub taken_or_next : {X Y : Type 0} (f : X → Y) (xs : List X) (i : ℕ) (x : X) → i < length xs → x ≡ get_or xs i x → (y : Y) → Contains (map f (take (i + 1) xs)) y → Contains (map f (take i xs)) y ⊎ (f x ≡ y)
taken_or_next f xs i x within at_x y h =
    let is : map f (take (i + 1) xs) ≡ map f (take i xs) ++ f x ∷ [] = ap (map f) (take_more xs i x within ∙ ap (λ z. take i xs ++ z ∷ []) (sym at_x)) ∙ map-append f (take i xs) (x ∷ []) in
    Contains-push_cases (map f (take i xs)) (f x) y (subst (λ l. Contains l y) is h)

pub taken_more : {X Y : Type 0} (f : X → Y) (P : Y → Type 0) (xs : List X) (i : ℕ) (x : X) → i < length xs → x ≡ get_or xs i x → ((y : Y) → Contains (map f (take i xs)) y → P y) → P (f x) →
    (y : Y) → Contains (map f (take (i + 1) xs)) y → P y
taken_more f P xs i x within at_x before here y h = ⊎_elim (λ c. before y c) (λ e. subst P e here) (taken_or_next f xs i x within at_x y h)

pub taken_all : {X Y : Type 0} (f : X → Y) (P : Y → Type 0) (xs : List X) (i : ℕ) → length xs ≤ i → ((y : Y) → Contains (map f (take i xs)) y → P y) → (y : Y) → Contains (map f xs) y → P y
taken_all f P xs i end before y h = before y (subst (λ l. Contains (map f l) y) (sym (take_all i xs end)) h)

-- one element more is taken, and one point more is there
pub taken_grown : {X : Type 0} (f : X → Point) (xs : List X) (i : ℕ) (x : X) → i < length xs → x ≡ get_or xs i x → (old new : List Point) → ((c : Point) → Contains old c ↔ Contains (map f (take i xs)) c) → ((c : Point) → Contains new c ↔ (Contains old c ⊎ (f x ≡ c))) →
    (c : Point) → Contains new c ↔ Contains (map f (take (i + 1) xs)) c
taken_grown f xs i x within at_x old new before grown c =
    let is : map f (take (i + 1) xs) ≡ map f (take i xs) ++ f x ∷ [] = ap (map f) (take_more xs i x within ∙ ap (λ z. take i xs ++ z ∷ []) (sym at_x)) ∙ map-append f (take i xs) (x ∷ []) in (
      λ j. subst (λ l. Contains l c) (sym is) (⊎_elim (λ k. Contains-append_left (map f (take i xs)) (f x ∷ []) c ((before c).0 k)) (λ e. subst (λ (q : Point). Contains (map f (take i xs) ++ f x ∷ []) q) e (Contains-push (map f (take i xs)) (f x))) ((grown c).0 j)),
      λ j. (grown c).1 (⊎_elim (λ k. inl ((before c).1 k)) (λ e. inr e) (taken_or_next f xs i x within at_x c j)),
    )
