-- What is stored along the rays around a node.
use Rattle.std.proofs.Common.{◌≡◌, ℕ, ◌+◌, ◌<◌, zero, suc, Bool, true, false, List, [], ◌∷◌, map, drop, length, get_or, set, refl, sym, ap, subst, ◌∙◌, arith, get_or-set_same, get_or-set_other, if◌then◌else◌}
use Rattle.std.proofs.lemmas.List.{length-set, get_or-map}
use Rattle.overlay_build.proofs.laws.graphs.NodeLists.{rest-next}
use Rattle.overlay_shapes.specs.steps.Rays.{WholeRay, no_ray, led_on}

stored : WholeRay → ℕ → List ℕ → List ℕ
stored r before next = if r.comes_in then set next r.link before else next

length-stored : (r : WholeRay) (before : ℕ) (next : List ℕ) → length (stored r before next) ≡ length next
unfolding stored
length-stored r before next = by r.comes_in
  where
    by : (b : Bool) → length (if b then set next r.link before else next) ≡ length next
    by true = length-set next r.link before
    by false = refl

stored_other : (r : WholeRay) (before i : ℕ) (next : List ℕ) → (r.comes_in ≡ true → r.link ≡ i → ⊥) → get_or (stored r before next) i 0 ≡ get_or next i 0
unfolding stored
stored_other r before i next other = by r.comes_in refl
  where
    by : (b : Bool) → r.comes_in ≡ b → get_or (if b then set next r.link before else next) i 0 ≡ get_or next i 0
    by true e = get_or-set_other next r.link i before 0 (λ k. other e (sym k))
    by false e = refl

stored_same : (r : WholeRay) (before : ℕ) (next : List ℕ) → r.link < length next → r.comes_in ≡ true → get_or (stored r before next) r.link 0 ≡ before
unfolding stored
stored_same r before next h e = rw e (get_or-set_same next r.link before 0 h)

-- what is no index of a link that comes in keeps its own
pub led_on_other : (before : ℕ) (rays : List WholeRay) (next : List ℕ) (i : ℕ) → ((k : ℕ) → k < length rays → (get_or rays k no_ray).comes_in ≡ true → (get_or rays k no_ray).link ≡ i → ⊥) → get_or (led_on before rays next) i 0 ≡ get_or next i 0
unfolding stored
led_on_other before [] next i none = refl
led_on_other before (r ∷ rs) next i none = led_on_other r.link rs (stored r before next) i (λ k h. none (suc k) (omega (arith, h))) ∙ stored_other r before i next (none 0 (omega arith))

-- the link of the ray before
abbrev pub link_before : ℕ → List WholeRay → ℕ → ℕ
link_before before rays zero = before
link_before before rays (suc k) = (get_or rays k no_ray).link

link_before_next : (before : ℕ) (r : WholeRay) (rs : List WholeRay) (k : ℕ) → link_before r.link rs k ≡ link_before before (r ∷ rs) (suc k)
link_before_next before r rs zero = refl
link_before_next before r rs (suc k) = refl

-- at the index of a link that comes in is the one before it
pub led_on_at : (before : ℕ) (rays : List WholeRay) (next : List ℕ) → ((j k : ℕ) → j < length rays → k < length rays → (get_or rays j no_ray).link ≡ (get_or rays k no_ray).link → j ≡ k) →
    (k : ℕ) → k < length rays → (get_or rays k no_ray).link < length next → (get_or rays k no_ray).comes_in ≡ true → get_or (led_on before rays next) (get_or rays k no_ray).link 0 ≡ link_before before rays k
unfolding stored
led_on_at before [] next once k h inside comes = absurd (omega (arith, h))
led_on_at before (r ∷ rs) next once zero h inside comes =
    led_on_other r.link rs (stored r before next) r.link (λ k l c e. let z = once (suc k) 0 (omega (arith, l)) (omega arith) e in omega (arith, z)) ∙ stored_same r before next inside comes
led_on_at before (r ∷ rs) next once (suc k) h inside comes =
    led_on_at r.link rs (stored r before next) (λ i j l m e. let z = once (suc i) (suc j) (omega (arith, l)) (omega (arith, m)) e in omega (arith, z)) k (omega (arith, h))
    (subst (λ (n : ℕ). (get_or rs k no_ray).link < n) (sym (length-stored r before next)) inside) comes
    ∙ link_before_next before r rs k

-- one ray more
pub led_on_step : (before : ℕ) (rays : List WholeRay) (k : ℕ) (r : WholeRay) (next after : List ℕ) → k < length rays → r ≡ get_or rays k r → after ≡ (if r.comes_in then set next r.link before else next) → led_on r.link (drop (k + 1) rays) after ≡ led_on before (drop k rays) next
led_on_step before rays k r next after h is e = ap (led_on r.link (drop (k + 1) rays)) e ∙ sym (ap (λ (l : List WholeRay). led_on before l next) (rest-next rays k r h is))

-- the ray of an element of code
pub ray_item : {X : Type 0} (f : X → WholeRay) (xs : List X) (k : ℕ) (x : X) → k < length xs → x ≡ get_or xs k x → f x ≡ get_or (map f xs) k (f x)
ray_item f xs k x h is = ap f is ∙ sym (get_or-map f xs k x (f x) h)
