-- Lists that a loop collects from those elements of another that pass a test.
use Rattle.std.proofs.Common.{◌≡◌, sym, ap, ◌∙◌, ℕ, ◌+◌, ◌<◌, ◌≤◌, Bool, true, false, cond, List, [], ◌∷◌, ◌++◌, map, filter, length, take, take_all, get_or, append_assoc, append-nil}
use Rattle.std.specs.Prelude.{Contains}
use Rattle.std.proofs.lemmas.List.{map-append}
use Rattle.std.proofs.lemmas.List.Elements.{filter_more}
use Rattle.overlay_geometry.proofs.laws.lists.Lists.{Has-map, Has-map_out, Has-filter, Has-filter_out}
use Rattle.overlay_geometry.proofs.laws.lists.Elements.{Contains-from_Has, Has-from_Contains}

module _ {X Y : Type 0} (test : X → Bool) (f : X → Y) where
  abbrev pub collected : List X → List Y
  collected xs = map f (filter test xs)

  module _ (xs : List X) (i : ℕ) (x : X) (within : i < length xs) (at : x ≡ get_or xs i x) where
    next : (b : Bool) → test x ≡ b → collected (take (i + 1) xs) ≡ collected (take i xs) ++ map f (cond b (x ∷ []) [])
    next b e =
        ap (map f) (filter_more test xs i x within ∙ ap (λ y. filter test (take i xs) ++ cond (test y) (y ∷ []) []) (sym at) ∙ ap (λ t. filter test (take i xs) ++ cond t (x ∷ []) []) e)
        ∙ map-append f (filter test (take i xs)) (cond b (x ∷ []) [])

    -- one more element, which passes
    pub collected_more : {Z : Type 0} (g : Z → Y) (before : List Y) (z : Z) (now more : List Z) → test x ≡ true → g z ≡ f x → more ≡ now ++ z ∷ [] → map g now ≡ before ++ collected (take i xs) →
        map g more ≡ before ++ collected (take (i + 1) xs)
    collected_more g before z now more e same pushed h =
        ap (map g) pushed ∙ map-append g now (z ∷ []) ∙ ap (λ l. l ++ g z ∷ []) h ∙ append_assoc before (collected (take i xs)) (g z ∷ [])
        ∙ ap (λ l. before ++ l) (ap (λ y. collected (take i xs) ++ y ∷ []) same ∙ sym (next true e))

    -- one that does not
    pub passed_over : (before now : List Y) → test x ≡ false → now ≡ before ++ collected (take i xs) → now ≡ before ++ collected (take (i + 1) xs)
    passed_over before now e h = h ∙ ap (λ l. before ++ l) (sym (append-nil (collected (take i xs))) ∙ sym (next false e))

  pub collected_all : (xs : List X) (i : ℕ) (before now : List Y) → length xs ≤ i → now ≡ before ++ collected (take i xs) → now ≡ before ++ collected xs
  collected_all xs i before now end h = h ∙ ap (λ l. before ++ collected l) (take_all i xs end)

  -- what is collected
  pub Contains-collected : (xs : List X) (y : Y) → Contains (collected xs) y → (x : X) × Contains xs x × (test x ≡ true) × (f x ≡ y)
  Contains-collected xs y h =
      let of_map = Has-map_out f (filter test xs) y (Has-from_Contains (collected xs) y h) in
      let passed = Has-filter_out test xs of_map.0 of_map.1 in
      (of_map.0, Contains-from_Has xs of_map.0 passed.0, passed.1, of_map.2)

  pub collected-Contains : (xs : List X) (x : X) → Contains xs x → test x ≡ true → Contains (collected xs) (f x)
  collected-Contains xs x h e = Contains-from_Has (collected xs) (f x) (Has-map f (filter test xs) x (Has-filter test xs x (Has-from_Contains xs x h) e))
