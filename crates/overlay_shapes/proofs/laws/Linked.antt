-- Links by steps: they join on, and may be gone back.
use Rattle.std.proofs.Common.{◌≡◌, refl, sym, ◌∙◌}
use Rattle.overlay_shapes.specs.Classes.{AreLinked}
use Rattle.overlay_shapes.specs.Classes.AreLinked.{here, along, back}

module _ {X : Type 0} (R : X → X → Type 0) where
  pub AreLinked-trans : {x y z : X} → AreLinked R x y → AreLinked R y z → AreLinked R x z
  AreLinked-trans here k = k
  AreLinked-trans (along r h) k = along r (AreLinked-trans h k)
  AreLinked-trans (back r h) k = back r (AreLinked-trans h k)

  pub AreLinked-step : {x y : X} → R x y → AreLinked R x y
  AreLinked-step r = along r here

  pub AreLinked-back : {x y : X} → R y x → AreLinked R x y
  AreLinked-back r = back r here

  pub AreLinked-sym : {x y : X} → AreLinked R x y → AreLinked R y x
  AreLinked-sym here = here
  AreLinked-sym (along r h) = AreLinked-trans (AreLinked-sym h) (AreLinked-back r)
  AreLinked-sym (back r h) = AreLinked-trans (AreLinked-sym h) (AreLinked-step r)

-- where each step is followed by steps of another relation, so are all
pub AreLinked-map : {X Y : Type 0} (R : X → X → Type 0) (S : Y → Y → Type 0) (f : X → Y) → ((x y : X) → R x y → AreLinked S (f x) (f y)) → {x y : X} → AreLinked R x y → AreLinked S (f x) (f y)
AreLinked-map R S f g here = here
AreLinked-map R S f g (along r h) = AreLinked-trans S (g _ _ r) (AreLinked-map R S f g h)
AreLinked-map R S f g (back r h) = AreLinked-trans S (AreLinked-sym S (g _ _ r)) (AreLinked-map R S f g h)

-- what each step keeps is the same at both ends
pub AreLinked-same : {X Y : Type 0} (R : X → X → Type 0) (f : X → Y) → ((x y : X) → R x y → f x ≡ f y) → {x y : X} → AreLinked R x y → f x ≡ f y
AreLinked-same R f g here = refl
AreLinked-same R f g (along r h) = g _ _ r ∙ AreLinked-same R f g h
AreLinked-same R f g (back r h) = sym (g _ _ r) ∙ AreLinked-same R f g h
