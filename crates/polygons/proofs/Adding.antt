-- Contours that are added one behind another.
use Rattle.std.proofs.Common.{◌≡◌, ap, sym, subst, ◌∙◌, arith, List, [], ◌∷◌, ◌++◌, map, flat_map, append_assoc, append-nil, Bool, ℕ, Ok, Err}
use Rattle.std.proofs.lemmas.Grind.{common_steps, flat_map-append}
use Rattle.std.proofs.lemmas.List.{map-append}
use Rattle.std.proofs.lemmas.List.Folds.{list_all-append}
use Rattle.std.specs.Prelude.{IsTrue, IsFalse, OnOk, IfErr}
use Rattle.std.specs.List.{list_all}
use Rattle.std.specs.declared.result.Result.{Result}
use Rattle.overlay_base.specs.declared.segm.shape_type.ShapeType.{ShapeType}
use Rattle.overlay_geometry.specs.Points.{Point}
use Rattle.polygons.specs.ContourText.{GivenContour}
use Rattle.polygons.specs.Wkt.{WriteGeometry, WritePolygonsOf}
use Rattle.polygons.proofs.Items.{tail_or}

-- one of a list fails a test
pub one_fails : {X : Type 0} (p : X → Bool) (xs before after : List X) (x : X) → xs ≡ before ++ x ∷ after → IsFalse (p x) → IsFalse (list_all p xs)
one_fails p xs before after x cut fails = rw (cut, list_all-append) (grind (arith, common_steps, fails))

-- all of a list and one more pass it
pub one_more_passes : {X : Type 0} (p : X → Bool) (xs : List X) (x : X) → IsTrue (list_all p xs) → IsTrue (p x) → IsTrue (list_all p (xs ++ x ∷ []))
one_more_passes p xs x all one = rw list_all-append (grind (arith, common_steps, all, one))

module _ {O X : Type 0} (Keeps : O → List GivenContour → Type 0) (before between after : O) (xs : List X) (x : X) where
  pub more_kept : (f : X → List GivenContour) → ((given : List GivenContour) → Keeps before given → Keeps between (given ++ flat_map f xs)) → ((given : List GivenContour) → Keeps between given → Keeps after (given ++ f x))
      → (given : List GivenContour) → Keeps before given → Keeps after (given ++ flat_map f (xs ++ x ∷ []))
  more_kept f first then given kept =
      subst (Keeps after) (append_assoc given (flat_map f xs) (f x) ∙ ap (λ l. given ++ l) (sym (flat_map-append f xs (x ∷ []) ∙ ap (λ l. flat_map f xs ++ l) (append-nil (f x)))))
      (then (given ++ flat_map f xs) (first given kept))

  pub one_more_kept : (f : X → GivenContour) → ((given : List GivenContour) → Keeps before given → Keeps between (given ++ map f xs)) → ((given : List GivenContour) → Keeps between given → Keeps after (given ++ f x ∷ []))
      → (given : List GivenContour) → Keeps before given → Keeps after (given ++ map f (xs ++ x ∷ []))
  one_more_kept f first then given kept =
      subst (Keeps after) (append_assoc given (map f xs) (f x ∷ []) ∙ ap (λ l. given ++ l) (sym (map-append f xs (x ∷ []))))
      (then (given ++ map f xs) (first given kept))

-- the contours of lines, and those of one more
pub flat_more : (lines : List (List GivenContour)) (contours : List GivenContour) → flat_map (λ cs. cs) (lines ++ contours ∷ []) ≡ flat_map (λ cs. cs) lines ++ contours
flat_more lines contours = flat_map-append (λ cs. cs) lines (contours ∷ []) ∙ ap (λ l. flat_map (λ cs. cs) lines ++ l) (append-nil contours)

-- what two facts of a result that is `Ok` give, and what a fact of its error gives
pub both_ok : {T E : Type 0} {P Q R : Type 0} (r : Result T E) → (P → Q → R) → OnOk r P → OnOk r Q → OnOk r R
both_ok (Ok v) f p q = f p q
both_ok (Err e) f p q = tt

pub err_gives : {T E : Type 0} {P Q : E → Type 0} (r : Result T E) → ((e : E) → P e → Q e) → IfErr r P → IfErr r Q
err_gives (Ok v) f h = tt
err_gives (Err e) f h = f e h

-- words behind a letter that write no geometry
pub no_polygons_of : (words others : List (List ℕ)) (letter : List ℕ) → words ≡ letter ∷ others → ((polygons : List (List (List Point))) → ¬ (WriteGeometry others polygons)) → (shape_type : ShapeType) (polygons : List (List (List Point))) → ¬ (WritePolygonsOf words shape_type polygons)
no_polygons_of words others letter first none shape_type polygons h =
    let same : h.1 ≡ others = ap tail_or (sym h.2 ∙ first) in
    none polygons (subst (λ w. WriteGeometry w polygons) same h.4)
