-- Lists: what holds of each element, of each two and of each step; membership; tests of all and of some; sums.
-- std says `All` and `Contains` by index, which code meets; proofs by recursion on a list take `AllByRecursion` and `Has`.
-- `All-from_recursion` and `recursion_from_All` of std's `List.Elements` go between the two forms.
use Rattle.std.proofs.Common.{◌≡◌, ℕ, zero, suc, ◌+◌, ◌-◌, ◌≤◌, Bool, true, false, cond, not, ◌&&◌, ◌||◌, ◌⊎◌, inl, inr, List, [], ◌∷◌, ◌++◌, map, filter, length, take, drop, sum_by, flat_map, refl, sym, ap, subst, ◌∙◌, arith}
use Rattle.std.specs.Prelude.{⊤, reverse}
use Rattle.std.specs.List.{AllByRecursion, list_any, list_all}
use Rattle.std.proofs.lemmas.Bool.{and_parts, and_from, or_parts, or_from, or_left, or_right, or_cases, cond_both, both_ways, cases_Bool}
use Rattle.std.proofs.lemmas.List.{reverse-append, drop-drop}
use Rattle.std.proofs.lemmas.List.Concat.{flat_map-cons}
use Rattle.std.proofs.lemmas.List.Sums.{sum_by-cons}
use Rattle.std.proofs.lemmas.List.Filters.{sum_by-filter_both}

-- ---- tests

-- two tests, each false where the other is, are equal
pub same_from_false : (a b : Bool) → (a ≡ false → b ≡ false) → (b ≡ false → a ≡ false) → a ≡ b
same_from_false true true f g = refl
same_from_false true false f g = g refl
same_from_false false true f g = sym (f refl)
same_from_false false false f g = refl

pub or_itself : (a : Bool) → (a || a) ≡ (a || false)
or_itself true = refl
or_itself false = refl

-- ---- each element

-- what holds of each element, weakened
pub AllByRecursion-weaker : {X : Type 0} (P Q : X → Type 0) → ((x : X) → P x → Q x) → (xs : List X) → AllByRecursion P xs → AllByRecursion Q xs
AllByRecursion-weaker P Q f [] h = tt
AllByRecursion-weaker P Q f (x ∷ xs) h = (f x h.0, AllByRecursion-weaker P Q f xs h.1)

pub AllByRecursion-both : {X : Type 0} (P Q : X → Type 0) → (xs : List X) → AllByRecursion P xs → AllByRecursion Q xs → AllByRecursion (λ x. P x × Q x) xs
AllByRecursion-both P Q [] h k = tt
AllByRecursion-both P Q (x ∷ xs) h k = ((h.0, k.0), AllByRecursion-both P Q xs h.1 k.1)

pub AllByRecursion-append : {X : Type 0} (P : X → Type 0) (xs ys : List X) → AllByRecursion P xs → AllByRecursion P ys → AllByRecursion P (xs ++ ys)
AllByRecursion-append P [] ys h k = k
AllByRecursion-append P (x ∷ xs) ys h k = (h.0, AllByRecursion-append P xs ys h.1 k)

-- of the two parts of an append
pub AllByRecursion_left : {X : Type 0} (P : X → Type 0) (xs ys : List X) → AllByRecursion P (xs ++ ys) → AllByRecursion P xs
AllByRecursion_left P [] ys h = tt
AllByRecursion_left P (x ∷ xs) ys h = (h.0, AllByRecursion_left P xs ys h.1)

pub AllByRecursion_right : {X : Type 0} (P : X → Type 0) (xs ys : List X) → AllByRecursion P (xs ++ ys) → AllByRecursion P ys
AllByRecursion_right P [] ys h = h
AllByRecursion_right P (x ∷ xs) ys h = AllByRecursion_right P xs ys h.1

reverse-cons : {X : Type 0} (x : X) (xs : List X) → reverse (x ∷ xs) ≡ reverse xs ++ x ∷ []
reverse-cons x xs = reverse-append (x ∷ []) xs

pub AllByRecursion-reverse : {X : Type 0} (P : X → Type 0) (xs : List X) → AllByRecursion P xs → AllByRecursion P (reverse xs)
AllByRecursion-reverse P [] h = tt
AllByRecursion-reverse P (x ∷ xs) h = subst (λ (ys : List _). AllByRecursion P ys) (sym (reverse-cons x xs)) (AllByRecursion-append P (reverse xs) (x ∷ []) (AllByRecursion-reverse P xs h.1) (h.0, tt))

pub AllByRecursion-map : {X Y : Type 0} (P : Y → Type 0) (f : X → Y) (xs : List X) → AllByRecursion (λ x. P (f x)) xs → AllByRecursion P (map f xs)
AllByRecursion-map P f [] h = tt
AllByRecursion-map P f (x ∷ xs) h = (h.0, AllByRecursion-map P f xs h.1)

pub AllByRecursion-map_out : {X Y : Type 0} (P : Y → Type 0) (f : X → Y) (xs : List X) → AllByRecursion P (map f xs) → AllByRecursion (λ x. P (f x)) xs
AllByRecursion-map_out P f [] h = tt
AllByRecursion-map_out P f (x ∷ xs) h = (h.0, AllByRecursion-map_out P f xs h.1)

-- of those that pass a test: what holds of each that passes
pub AllByRecursion-filter : {X : Type 0} (p : X → Bool) (P : X → Type 0) (xs : List X) → AllByRecursion (λ x. p x ≡ true → P x) xs → AllByRecursion P (filter p xs)
AllByRecursion-filter p P [] h = tt
AllByRecursion-filter p P (x ∷ xs) h = cond_both (p x) (x ∷ filter p xs) (filter p xs) (AllByRecursion P) (λ e. (h.0 e, AllByRecursion-filter p P xs h.1)) (λ e. AllByRecursion-filter p P xs h.1)

-- and what holds of all holds of each that passes
pub AllByRecursion-filter_all : {X : Type 0} (p : X → Bool) (P : X → Type 0) (xs : List X) → AllByRecursion P xs → AllByRecursion P (filter p xs)
AllByRecursion-filter_all p P xs h = AllByRecursion-filter p P xs (AllByRecursion-weaker P (λ x. p x ≡ true → P x) (λ x k _. k) xs h)

pub AllByRecursion-flat_map : {X Y : Type 0} (f : X → List Y) (P : Y → Type 0) (xs : List X) → AllByRecursion (λ x. AllByRecursion P (f x)) xs → AllByRecursion P (flat_map f xs)
AllByRecursion-flat_map f P [] h = tt
AllByRecursion-flat_map f P (x ∷ xs) h = subst (λ (ys : List _). AllByRecursion P ys) (sym (flat_map-cons f x xs)) (AllByRecursion-append P (f x) (flat_map f xs) h.0 (AllByRecursion-flat_map f P xs h.1))

-- of a list's first elements
pub AllByRecursion-take : {X : Type 0} (P : X → Type 0) (n : ℕ) (xs : List X) → AllByRecursion P xs → AllByRecursion P (take n xs)
AllByRecursion-take P zero xs h = tt
AllByRecursion-take P (suc n) [] h = tt
AllByRecursion-take P (suc n) (x ∷ xs) h = (h.0, AllByRecursion-take P n xs h.1)

-- ---- each two elements, in their order, and each step

abbrev pub Pairwise : {X : Type 0} → (X → X → Type 0) → List X → Type 0
Pairwise R [] = ⊤
Pairwise R (x ∷ xs) = AllByRecursion (R x) xs × Pairwise R xs

-- each step from p on
abbrev pub Steps : {X : Type 0} → (X → X → Type 0) → X → List X → Type 0
Steps R p [] = ⊤
Steps R p (q ∷ xs) = R p q × Steps R q xs

-- each of the first part with each of the second
pub AllByRecursion_cross : {X : Type 0} (R : X → X → Type 0) (xs ys : List X) → Pairwise R (xs ++ ys) → AllByRecursion (λ x. AllByRecursion (R x) ys) xs
AllByRecursion_cross R [] ys h = tt
AllByRecursion_cross R (x ∷ xs) ys h = (AllByRecursion_right (R x) xs ys h.0, AllByRecursion_cross R xs ys h.1)

pub Pairwise_left : {X : Type 0} (R : X → X → Type 0) (xs ys : List X) → Pairwise R (xs ++ ys) → Pairwise R xs
Pairwise_left R [] ys h = tt
Pairwise_left R (x ∷ xs) ys h = (AllByRecursion_left (R x) xs ys h.0, Pairwise_left R xs ys h.1)

pub Pairwise_right : {X : Type 0} (R : X → X → Type 0) (xs ys : List X) → Pairwise R (xs ++ ys) → Pairwise R ys
Pairwise_right R [] ys h = h
Pairwise_right R (x ∷ xs) ys h = Pairwise_right R xs ys h.1

pub Pairwise-append : {X : Type 0} (R : X → X → Type 0) (xs ys : List X) → Pairwise R xs → Pairwise R ys → AllByRecursion (λ x. AllByRecursion (R x) ys) xs → Pairwise R (xs ++ ys)
Pairwise-append R [] ys h k l = k
Pairwise-append R (x ∷ xs) ys h k l = (AllByRecursion-append (R x) xs ys h.0 l.0, Pairwise-append R xs ys h.1 k l.1)

pub Pairwise-weaker : {X : Type 0} (R S : X → X → Type 0) → ((x y : X) → R x y → S x y) → (xs : List X) → Pairwise R xs → Pairwise S xs
Pairwise-weaker R S f [] h = tt
Pairwise-weaker R S f (x ∷ xs) h = (AllByRecursion-weaker (R x) (S x) (f x) xs h.0, Pairwise-weaker R S f xs h.1)

pub Pairwise-both : {X : Type 0} (R S : X → X → Type 0) → (xs : List X) → Pairwise R xs → Pairwise S xs → Pairwise (λ x y. R x y × S x y) xs
Pairwise-both R S [] h k = tt
Pairwise-both R S (x ∷ xs) h k = (AllByRecursion-both (R x) (S x) xs h.0 k.0, Pairwise-both R S xs h.1 k.1)

-- what holds of each holds of each two
pub Pairwise-from_AllByRecursion : {X : Type 0} (P : X → Type 0) (R : X → X → Type 0) → ((x y : X) → P x → P y → R x y) → (xs : List X) → AllByRecursion P xs → Pairwise R xs
Pairwise-from_AllByRecursion P R f [] h = tt
Pairwise-from_AllByRecursion P R f (x ∷ xs) h = (AllByRecursion-weaker P (R x) (λ y k. f x y h.0 k) xs h.1, Pairwise-from_AllByRecursion P R f xs h.1)

pub Pairwise-reverse : {X : Type 0} (R S : X → X → Type 0) → ((x y : X) → R x y → S y x) → (xs : List X) → Pairwise R xs → Pairwise S (reverse xs)
Pairwise-reverse R S f [] h = tt
Pairwise-reverse R S f (x ∷ xs) h =
    subst (λ (ys : List _). Pairwise S ys) (sym (reverse-cons x xs))
    (Pairwise-append S (reverse xs) (x ∷ []) (Pairwise-reverse R S f xs h.1) (tt, tt) (AllByRecursion-reverse _ xs (AllByRecursion-weaker (R x) (λ y. S y x × ⊤) (λ y k. (f x y k, tt)) xs h.0)))

pub Steps-from_Pairwise : {X : Type 0} (R : X → X → Type 0) (p : X) (xs : List X) → AllByRecursion (R p) xs → Pairwise R xs → Steps R p xs
Steps-from_Pairwise R p [] h k = tt
Steps-from_Pairwise R p (x ∷ xs) h k = (h.0, Steps-from_Pairwise R x xs k.0 k.1)

-- ---- membership

-- x is an element
abbrev pub Has : {X : Type 0} → List X → X → Type 0
Has [] x = ⊥
Has (y ∷ ys) x = (y ≡ x) ⊎ Has ys x

-- what holds of each holds of an element, and what holds of every element holds of each
pub AllByRecursion-at : {X : Type 0} (P : X → Type 0) (xs : List X) (x : X) → AllByRecursion P xs → Has xs x → P x
AllByRecursion-at P [] x h i = absurd i
AllByRecursion-at P (y ∷ ys) x h (inl e) = subst P e h.0
AllByRecursion-at P (y ∷ ys) x h (inr i) = AllByRecursion-at P ys x h.1 i

pub AllByRecursion-from_Has : {X : Type 0} (P : X → Type 0) (xs : List X) → ((x : X) → Has xs x → P x) → AllByRecursion P xs
AllByRecursion-from_Has P [] f = tt
AllByRecursion-from_Has P (y ∷ ys) f = (f y (inl refl), AllByRecursion-from_Has P ys (λ x i. f x (inr i)))

pub Has-append_left : {X : Type 0} (xs ys : List X) (x : X) → Has xs x → Has (xs ++ ys) x
Has-append_left [] ys x i = absurd i
Has-append_left (y ∷ xs) ys x (inl e) = inl e
Has-append_left (y ∷ xs) ys x (inr i) = inr (Has-append_left xs ys x i)

pub Has-append_right : {X : Type 0} (xs ys : List X) (x : X) → Has ys x → Has (xs ++ ys) x
Has-append_right [] ys x i = i
Has-append_right (y ∷ xs) ys x i = inr (Has-append_right xs ys x i)

-- of a map: it has what f makes of an element, and nothing else
pub Has-map : {X Y : Type 0} (f : X → Y) (xs : List X) (x : X) → Has xs x → Has (map f xs) (f x)
Has-map f [] x i = absurd i
Has-map f (z ∷ xs) x (inl e) = inl (ap f e)
Has-map f (z ∷ xs) x (inr i) = inr (Has-map f xs x i)

pub Has-map_out : {X Y : Type 0} (f : X → Y) (xs : List X) (y : Y) → Has (map f xs) y → (x : X) × Has xs x × (f x ≡ y)
Has-map_out f [] y i = absurd i
Has-map_out f (x ∷ xs) y (inl e) = (x, inl refl, e)
Has-map_out f (x ∷ xs) y (inr i) = let r = Has-map_out f xs y i in (r.0, inr r.1, r.2)

-- of a filter: it has the elements that pass, and nothing else
pub Has-filter : {X : Type 0} (p : X → Bool) (xs : List X) (x : X) → Has xs x → p x ≡ true → Has (filter p xs) x
Has-filter p [] x i e = absurd i
Has-filter p (y ∷ ys) x (inl f) e = cond_both (p y) (y ∷ filter p ys) (filter p ys) (λ l. Has l x) (λ _. inl f) (λ n. absurd (both_ways (p y) n (ap p f ∙ e)))
Has-filter p (y ∷ ys) x (inr i) e =
    let rest = Has-filter p ys x i e in
    cond_both (p y) (y ∷ filter p ys) (filter p ys) (λ l. Has l x) (λ _. inr rest) (λ n. rest)

pub Has-filter_out : {X : Type 0} (p : X → Bool) (xs : List X) (x : X) → Has (filter p xs) x → Has xs x × (p x ≡ true)
Has-filter_out p [] x i = absurd i
Has-filter_out p (y ∷ ys) x i = by (p y) refl i (Has-filter_out p ys x)
  where
    by : (b : Bool) → p y ≡ b → Has (cond b (y ∷ filter p ys) (filter p ys)) x → (Has (filter p ys) x → Has ys x × (p x ≡ true)) → Has (y ∷ ys) x × (p x ≡ true)
    by true e (inl f) ih = (inl f, ap p (sym f) ∙ e)
    by true e (inr i) ih = (inr (ih i).0, (ih i).1)
    by false e i ih = (inr (ih i).0, (ih i).1)

pub Has-flat_map : {X Y : Type 0} (f : X → List Y) (xs : List X) (x : X) (y : Y) → Has xs x → Has (f x) y → Has (flat_map f xs) y
Has-flat_map f [] x y i j = absurd i
Has-flat_map f (z ∷ xs) x y (inl e) j = subst (λ (ys : List _). Has ys y) (sym (flat_map-cons f z xs)) (Has-append_left (f z) (flat_map f xs) y (subst (λ (w : _). Has (f w) y) (sym e) j))
Has-flat_map f (z ∷ xs) x y (inr i) j = subst (λ (ys : List _). Has ys y) (sym (flat_map-cons f z xs)) (Has-append_right (f z) (flat_map f xs) y (Has-flat_map f xs x y i j))

-- ---- a test of all

-- the test and what it says of each
pub AllByRecursion-from_list_all : {X : Type 0} (p : X → Bool) (xs : List X) → list_all p xs ≡ true → AllByRecursion (λ x. p x ≡ true) xs
AllByRecursion-from_list_all p [] h = tt
AllByRecursion-from_list_all p (x ∷ xs) h = let parts = and_parts _ _ h in (parts.0, AllByRecursion-from_list_all p xs parts.1)

pub list_all-from_AllByRecursion : {X : Type 0} (p : X → Bool) (xs : List X) → AllByRecursion (λ x. p x ≡ true) xs → list_all p xs ≡ true
list_all-from_AllByRecursion p [] h = refl
list_all-from_AllByRecursion p (x ∷ xs) h = and_from _ _ h.0 (list_all-from_AllByRecursion p xs h.1)

-- an element of a list where all pass passes, and all pass where each element does
pub list_all-at : {X : Type 0} (p : X → Bool) (xs : List X) (x : X) → list_all p xs ≡ true → Has xs x → p x ≡ true
list_all-at p xs x h = AllByRecursion-at (λ x. p x ≡ true) xs x (AllByRecursion-from_list_all p xs h)

pub list_all-from_Has : {X : Type 0} (p : X → Bool) (xs : List X) → ((x : X) → Has xs x → p x ≡ true) → list_all p xs ≡ true
list_all-from_Has p xs f = list_all-from_AllByRecursion p xs (AllByRecursion-from_Has (λ x. p x ≡ true) xs f)

-- two tests of each
pub list_all-and : {X : Type 0} (p q : X → Bool) (xs : List X) → list_all p xs ≡ true → list_all q xs ≡ true → list_all (λ x. p x && q x) xs ≡ true
list_all-and p q [] h k = refl
list_all-and p q (x ∷ xs) h k =
    let a = and_parts _ _ h in
    let b = and_parts _ _ k in
    and_from _ _ (and_from _ _ a.0 b.0) (list_all-and p q xs a.1 b.1)

pub list_all-and_parts : {X : Type 0} (p q : X → Bool) (xs : List X) → list_all (λ x. p x && q x) xs ≡ true → (list_all p xs ≡ true) × (list_all q xs ≡ true)
list_all-and_parts p q [] h = (refl, refl)
list_all-and_parts p q (x ∷ xs) h =
    let a = and_parts _ _ h in
    let b = and_parts _ _ a.0 in
    let c = list_all-and_parts p q xs a.1 in
    (and_from _ _ b.0 c.0, and_from _ _ b.1 c.1)

-- a test that follows from another, of each that passes a third
pub list_all-implied : {X : Type 0} (p q member : X → Bool) (xs : List X) → list_all member xs ≡ true → list_all p xs ≡ true → ((x : X) → member x ≡ true → p x ≡ true → q x ≡ true) → list_all q xs ≡ true
list_all-implied p q member [] m a h = refl
list_all-implied p q member (x ∷ xs) m a h =
    let ms = and_parts (member x) (list_all member xs) m in
    let ps = and_parts (p x) (list_all p xs) a in
    and_from _ _ (h x ms.0 ps.0) (list_all-implied p q member xs ms.1 ps.1 h)

-- those that pass pass, and what all pass each part passes
pub list_all-filter_itself : {X : Type 0} (p : X → Bool) (xs : List X) → list_all p (filter p xs) ≡ true
list_all-filter_itself p xs = list_all-from_Has p (filter p xs) (λ x i. (Has-filter_out p xs x i).1)

pub list_all-filter : {X : Type 0} (p q : X → Bool) (xs : List X) → list_all p xs ≡ true → list_all p (filter q xs) ≡ true
list_all-filter p q xs h = list_all-from_AllByRecursion p (filter q xs) (AllByRecursion-filter_all q (λ x. p x ≡ true) xs (AllByRecursion-from_list_all p xs h))

-- ---- a test of some

-- none passes where each fails
pub list_any-from_none : {X : Type 0} (p : X → Bool) (xs : List X) → AllByRecursion (λ x. p x ≡ false) xs → list_any p xs ≡ false
list_any-from_none p [] h = refl
list_any-from_none p (x ∷ xs) h = or_from _ _ h.0 (list_any-from_none p xs h.1)

pub none_from_list_any : {X : Type 0} (p : X → Bool) (xs : List X) → list_any p xs ≡ false → AllByRecursion (λ x. p x ≡ false) xs
none_from_list_any p [] h = tt
none_from_list_any p (x ∷ xs) h = let parts = or_parts _ _ h in (parts.0, none_from_list_any p xs parts.1)

-- an element fails where none passes
pub list_any-at : {X : Type 0} (p : X → Bool) (xs : List X) (x : X) → list_any p xs ≡ false → Has xs x → p x ≡ false
list_any-at p xs x h = AllByRecursion-at (λ x. p x ≡ false) xs x (none_from_list_any p xs h)

-- an element that passes, and one that is there where some passes
pub list_any-from_Has : {X : Type 0} (p : X → Bool) (xs : List X) (x : X) → Has xs x → p x ≡ true → list_any p xs ≡ true
list_any-from_Has p [] x i h = absurd i
list_any-from_Has p (y ∷ ys) x (inl e) h = or_left (p y) (list_any p ys) (ap p e ∙ h)
list_any-from_Has p (y ∷ ys) x (inr i) h = or_right (p y) (list_any p ys) (list_any-from_Has p ys x i h)

pub Has-from_list_any : {X : Type 0} (p : X → Bool) (xs : List X) → list_any p xs ≡ true → (x : X) × Has xs x × (p x ≡ true)
Has-from_list_any p [] h = absurd (both_ways false refl h)
Has-from_list_any p (x ∷ xs) h = by (or_cases (p x) (list_any p xs) h) (Has-from_list_any p xs)
  where
    by : (p x ≡ true) ⊎ (list_any p xs ≡ true) → (list_any p xs ≡ true → (y : _) × Has xs y × (p y ≡ true)) → (y : _) × Has (x ∷ xs) y × (p y ≡ true)
    by (inl e) ih = (x, inl refl, e)
    by (inr e) ih = let r = ih e in (r.0, inr r.1, r.2)

-- either an element passes, or none does
pub by_list_any : {X P : Type 0} (p : X → Bool) (xs : List X) → ((x : X) → Has xs x → p x ≡ true → P) → (((x : X) → Has xs x → p x ≡ false) → P) → P
by_list_any {P = P} p xs f g = by (cases_Bool (list_any p xs))
  where
    by : (list_any p xs ≡ true) ⊎ (list_any p xs ≡ false) → P
    by (inl e) = let r = Has-from_list_any p xs e in f r.0 r.1 r.2
    by (inr e) = g (λ x i. list_any-at p xs x e i)

-- a test that follows from another
pub list_any-implied : {X : Type 0} (p q : X → Bool) → ((x : X) → p x ≡ true → q x ≡ true) → (xs : List X) → list_any p xs ≡ true → list_any q xs ≡ true
list_any-implied p q f xs h = let r = Has-from_list_any p xs h in list_any-from_Has q xs r.0 r.1 (f r.0 r.2)

-- beside a test a, two tests of some agree where they agree beside a at each element
pub or-list_any : {X : Type 0} (a : Bool) (f g : X → Bool) → ((x : X) → (a || f x) ≡ (a || g x)) → (xs : List X) → (a || list_any f xs) ≡ (a || list_any g xs)
or-list_any true f g h xs = refl
or-list_any false f g h xs = λ i. list_any (λ x. h x i) xs

-- ---- lists made from lists

pub filter-map : {X Y : Type 0} (test : Y → Bool) (f : X → Y) (xs : List X) → filter test (map f xs) ≡ map f (filter (λ x. test (f x)) xs)
filter-map test f [] = refl
filter-map test f (x ∷ xs) = by (test (f x)) (filter-map test f xs)
  where
    by : (b : Bool) → filter test (map f xs) ≡ map f (filter (λ x. test (f x)) xs) → cond b (f x ∷ filter test (map f xs)) (filter test (map f xs)) ≡ map f (cond b (x ∷ filter (λ x. test (f x)) xs) (filter (λ x. test (f x)) xs))
    by true ih = ap (λ l. f x ∷ l) ih
    by false ih = ih

-- lists that agree from one place on agree from each later place on
pub drop-later : {X : Type 0} (xs ys : List X) (i j : ℕ) → i ≤ j → drop i xs ≡ drop i ys → drop j xs ≡ drop j ys
drop-later {X} xs ys i j le e =
    let q : i + (j - i) ≡ j = omega arith in
    let cut : (zs : List X) → drop j zs ≡ drop (j - i) (drop i zs) = λ zs. ap (λ (n : ℕ). drop n zs) (sym q) ∙ sym (drop-drop (j - i) i zs) in
    cut xs ∙ ap (drop (j - i)) e ∙ sym (cut ys)

-- ---- sums

pub sum_by-map : {X Y : Type 0} (f : Y → ℕ) (g : X → Y) (xs : List X) → sum_by f (map g xs) ≡ sum_by (λ x. f (g x)) xs
sum_by-map f g [] = refl
sum_by-map f g (x ∷ xs) = sum_by-cons f (g x) (map g xs) ∙ ap (λ n. f (g x) + n) (sum_by-map f g xs) ∙ sym (sum_by-cons (λ x. f (g x)) x xs)

-- a part of a list has no larger sum
pub sum_by-filter_le : {X : Type 0} (f : X → ℕ) (test : X → Bool) (xs : List X) → sum_by f (filter test xs) ≤ sum_by f xs
sum_by-filter_le f test xs = let e = sum_by-filter_both test (λ x. not (test x)) (λ x. refl) f xs in omega arith

pub sum_by-ones : {X : Type 0} (xs : List X) → sum_by (λ (x : X). 1) xs ≡ length xs
sum_by-ones [] = refl
sum_by-ones {X = X} (x ∷ xs) = let e = sum_by-cons (λ (x : X). 1) x xs in let ih = sum_by-ones xs in omega arith
