-- Points in the other order.
use Rattle.std.proofs.Common.{◌≡◌, ap, ◌∙◌, refl, List, [], ◌∷◌, ◌++◌, map, Bool, reverse, sym, subst}
use Rattle.std.specs.Prelude.{IsTrue, ◌&&◌}
use Rattle.std.specs.List.{list_all}
use Rattle.std.proofs.lemmas.List.{map-append, reverse-append}
use Rattle.std.proofs.lemmas.List.Folds.{list_all-append}
use Rattle.std.proofs.Math.Bool.{and_comm}

pub map-turned : {X Y : Type 0} (f : X → Y) (xs : List X) → map f (reverse xs) ≡ reverse (map f xs)
map-turned f [] = refl
map-turned f (x ∷ xs) =
    ap (map f) (reverse-append (x ∷ []) xs) ∙ map-append f (reverse xs) (x ∷ [])
    ∙ ap (λ l. l ++ f x ∷ []) (map-turned f xs) ∙ sym (reverse-append (f x ∷ []) (map f xs))

list_all-reverse : {X : Type 0} (p : X → Bool) (xs : List X) → list_all p (reverse xs) ≡ list_all p xs
list_all-reverse p [] = refl
list_all-reverse p (x ∷ xs) =
    ap (list_all p) (reverse-append (x ∷ []) xs) ∙ list_all-append p (reverse xs) (x ∷ []) ∙ ap (λ b. b && list_all p (x ∷ [])) (list_all-reverse p xs)
    ∙ and_comm (list_all p xs) (list_all p (x ∷ [])) ∙ sym (list_all-append p (x ∷ []) xs)

pub all_turned : {X : Type 0} (p : X → Bool) (xs : List X) → IsTrue (list_all p xs) → IsTrue (list_all p (reverse xs))
all_turned p xs = subst IsTrue (sym (list_all-reverse p xs))
