-- What words of the form `name=value` leave in a slot, one word more at a time.
use Rattle.std.proofs.Common.{rules, ◌≡◌, ◌≢◌, inl, inr, ℕ, ◌<◌, ◌==◌, true, false, not, sum, List, [], ◌∷◌, ◌++◌, length, get_or, drop, is_some, unwrap_or, Ok, Err, Option, Some, None, refl, sym, ap, ◌∙◌, subst, arith, append_assoc, length-append}
use Rattle.std.proofs.Math.Seq.{get_or-append_seam, drop-append_seam}
use Rattle.std.proofs.lemmas.Grind.{common_steps}
use Rattle.std.proofs.lemmas.Bool.Decides.{nat_tests}
use Rattle.std.proofs.lemmas.List.Elements.{All-from_get_or, Contains-append_right, Contains-push_cases}
use Rattle.std.proofs.lemmas.List.Sums.{list_all-from_AllPass}
use Rattle.std.specs.Prelude.{ℤ, Contains, codes, IsOk, IsSome, IsNone, OnOk, ◌↔◌, MatchOption, IsErr}
use Rattle.std.specs.declared.result.Result.{Result}
use Rattle.std.proofs.lemmas.Bool.{false≢true, eq-eqb}
use Rattle.std.specs.Borrow.{Bor}
use Rattle.overlay_text.specs.declared.settings.SquaredRadius.{SquaredRadius}
use Rattle.overlay_text.specs.Words.{setting, IsName, IsSetting, setting_names, WritesSquare, WritesRadius, SetsTo, NoneSets, IsChosen, TakesWord, CanTake, ReadsWord}

is_other : (code : ℕ) → code ≢ 61 → not (code == 61) ≡ true
is_other code differs = grind (arith, nat_tests)

is_name : (name : List ℕ) → ((i : ℕ) → i < length name → get_or name i 0 ≢ 61) → IsName name
is_name name lacks = list_all-from_AllPass (λ code. not (code == 61)) name (All-from_get_or (λ code. not (code == 61) ≡ true) name 0 (λ i below. is_other (get_or name i 0) (lacks i below)))

as_cut : (name value : List ℕ) → setting name value ≡ name ++ 61 ∷ value
as_cut name value = append_assoc name (61 ∷ []) value

-- the first `=` of a word ends its name
pub first_cut : (word : List ℕ) (r : Option (Bor (List ℕ) × Bor (List ℕ)))
    → MatchOption r ((i : ℕ) → i < length word → get_or word i 0 ≢ 61) (λ parts. (word ≡ parts.0.now ++ 61 ∷ parts.1.now) × ((i : ℕ) → i < length parts.0.now → get_or parts.0.now i 0 ≢ 61))
    → MatchOption r ((name value : List ℕ) → word ≢ setting name value) (λ parts. (word ≡ setting parts.0.now parts.1.now) × IsName parts.0.now)
first_cut word None lacks = λ name value e.
    let cut : word ≡ name ++ 61 ∷ value = e ∙ as_cut name value in
    lacks (length name) (omega (arith, ap length cut, length-append name (61 ∷ value))) (ap (λ w. get_or w (length name) 0) cut ∙ get_or-append_seam name 61 value 0)
first_cut word (Some parts) cut = (cut.0 ∙ sym (as_cut parts.0.now parts.1.now), is_name parts.0.now cut.1)

same_name-cut : (name other value given : List ℕ) → IsName name → IsName other → name ++ 61 ∷ value ≡ other ++ 61 ∷ given → name ≡ other
same_name-cut [] [] value given n o e = refl
same_name-cut [] (d ∷ other) value given n o e = absurd (grind (arith, common_steps))
same_name-cut (c ∷ name) [] value given n o e = absurd (grind (arith, common_steps))
same_name-cut (c ∷ name) (d ∷ other) value given n o e =
    let n' : IsName name = grind (arith, common_steps, n) in
    let o' : IsName other = grind (arith, common_steps, o) in
    let tail : name ++ 61 ∷ value ≡ other ++ 61 ∷ given = cc in
    let same = same_name-cut name other value given n' o' tail in
    cc

-- a word sets one name
pub same_name : (name other value given : List ℕ) → IsName name → IsName other → setting name value ≡ setting other given → name ≡ other
same_name name other value given n o e = same_name-cut name other value given n o (sym (as_cut name value) ∙ e ∙ as_cut other given)

same_value : (name value other : List ℕ) → setting name value ≡ setting name other → value ≡ other
same_value name value other e =
    sym (drop-append_seam (name ++ codes "=") value) ∙ (ap (drop (length (name ++ codes "="))) e ∙ drop-append_seam (name ++ codes "=") other)

pub is_known : {T E : Type 0} (r : Result T E) (name value word : List ℕ) → Contains setting_names name → word ≡ setting name value → OnOk r (IsSetting word)
is_known (Err e) name value word known sets = tt
is_known (Ok t) name value word known sets = (name, value, known, sets)

pub squares : (value : List ℕ) (found : Option SquaredRadius) → MatchOption found ((squared : ℤ) → ¬ (WritesSquare value squared)) (WritesRadius value) → MatchOption found ((radius : SquaredRadius) → ¬ (WritesRadius value radius)) (WritesRadius value)
squares value None none = λ radius. none radius.squared
squares value (Some radius) means = means

module _ {V : Type 0} (name : List ℕ) (Means : List ℕ → V → Type 0) where
  -- a word that sets the name is taken where the slot is empty and its value means something, and refused else
  pub takes_word : {T E : Type 0} (word value : List ℕ) (old new found : Option V) (r : Result T E) → word ≡ setting name value → (IsOk r ↔ (IsNone old × IsSome found)) → OnOk r (new ≡ found)
      → MatchOption found ((chosen : V) → ¬ (Means value chosen)) (Means value) → ReadsWord r name Means word old new
  takes_word word value (Some x) new found (Ok t) sets once is means = absurd (false≢true (sym (once.0 refl).0))
  takes_word word value None new None (Ok t) sets once is means = absurd (false≢true (once.0 refl).1)
  takes_word word value None new (Some chosen) (Ok t) sets once is means = inl (chosen, refl, is, (value, sets, means))
  takes_word word value old new None (Err e) sets once is means = λ can. means can.1.0 (subst (λ v. Means v can.1.0) (same_value name can.1.1.0 value (sym can.1.1.1 ∙ sets)) can.1.1.2)
  takes_word word value old new (Some chosen) (Err e) sets once is means = λ can. false≢true (once.1 (ap is_some can.0, refl))

  -- a word that is no setting at all is refused
  pub no_setting : {T E : Type 0} (word : List ℕ) (old new : Option V) (r : Result T E) → IsErr r → ((other value : List ℕ) → word ≢ setting other value) → ReadsWord r name Means word old new
  no_setting word old new (Ok t) refused none = absurd (false≢true refused)
  no_setting word old new (Err e) refused none = λ can. none name can.1.1.0 can.1.1.1

  -- so is one that sets another name
  pub other_name : (word other value : List ℕ) (slot : Option V) → word ≡ setting other value → IsName other → IsName name → other ≢ name → ¬ (CanTake name Means word slot)
  other_name word other value slot sets is_other is differs can = differs (same_name other name value can.1.1.0 is_other is (sym sets ∙ can.1.1.1))

-- names whose codes have different sums are different
differ : (name other : List ℕ) → (sum name == sum other) ≡ false → name ≢ other
differ name other apart same = false≢true (sym apart ∙ eq-eqb (sum name) (sum other) (ap (λ l. sum l) same))

module _ {V T E : Type 0} (word name value : List ℕ) (r : Result T E) (sets : word ≡ setting name value) (is : IsName name) where
  -- a word that sets one name leaves the slot of another as it was, or is refused
  pub passes_by : (other : List ℕ) (Means : List ℕ → V → Type 0) (slot : Option V) → IsName other → (sum name == sum other) ≡ false → ReadsWord r other Means word slot slot
  passes_by other Means slot is_other apart = by r
    where
      by : (r : Result T E) → ReadsWord r other Means word slot slot
      by (Ok t) = inr (λ v e. differ name other apart (same_name name other value v is is_other (sym sets ∙ e)), refl)
      by (Err e) = other_name other Means word name value slot sets is is_other (differ name other apart)

some_is_not_none : {V : Type 0} (x : V) → Some x ≡ None → ⊥
some_is_not_none x e = search (rules, e)

Contains-nil : {X : Type 0} {x : X} → Contains [] x → ⊥
Contains-nil h = omega (arith, h.1)

none_sets : (name : List ℕ) → NoneSets name []
none_sets name value h = Contains-nil h

NoneSets-push : (name : List ℕ) (words : List (List ℕ)) (word : List ℕ) → NoneSets name words → ((value : List ℕ) → word ≢ setting name value) → NoneSets name (words ++ word ∷ [])
NoneSets-push name words word none other value h = elim (Contains-push_cases words word (setting name value) h) [ inl early ↦ none value early | inr last ↦ other value last ]

Contains-between : {X : Type 0} (before after : List X) (x y : X) → x ≡ y → Contains (before ++ x ∷ after) y
Contains-between before after x y e = Contains-append_right before (x ∷ after) y (0, omega arith, e)

-- the one word that sets the name is at one place
only_one : (name value : List ℕ) (before front : List (List ℕ)) (word one : List ℕ) (after back : List (List ℕ)) → word ≡ setting name value → NoneSets name front → NoneSets name back → before ++ word ∷ after ≡ front ++ one ∷ back → (before ≡ front) × (word ≡ one)
only_one name value [] [] word one after back sets none_front none_back e = (refl, cc)
only_one name value [] (w ∷ front) word one after back sets none_front none_back e =
    let first : w ≡ setting name value = cc in
    absurd (none_front value (0, omega arith, first))
only_one name value (w ∷ before) [] word one after back sets none_front none_back e =
    let rest : before ++ word ∷ after ≡ back = cc in
    absurd (none_back value (subst (λ ws. Contains ws (setting name value)) rest (Contains-between before after word (setting name value) sets)))
only_one name value (w ∷ before) (u ∷ front) word one after back sets none_front none_back e =
    let rest : before ++ word ∷ after ≡ front ++ one ∷ back = cc in
    let none_later : NoneSets name front = λ other h. none_front other (Contains-append_right (u ∷ []) front (setting name other) h) in
    let same = only_one name value before front word one after back sets none_later none_back rest in
    (cc, same.1)

module _ {V : Type 0} (name : List ℕ) (Means : List ℕ → V → Type 0) where
  -- what is in the slot when these words are read
  abbrev pub Slot : List (List ℕ) → Option V → Type 0
  Slot words slot = IsChosen name (λ value found. (chosen : V) × (found ≡ Some chosen) × Means value chosen) None words slot

  pub empty_slot : (slot : Option V) → slot ≡ None → Slot [] slot
  empty_slot slot is = inr (none_sets name, is)

  pub slot-more : (words : List (List ℕ)) (word : List ℕ) (old new : Option V) → Slot words old → TakesWord name Means word old new → Slot (words ++ word ∷ []) new
  slot-more words word old new (inl set) (inl takes) = absurd (some_is_not_none set.4.2.0 (sym set.4.2.1 ∙ takes.1))
  slot-more words word old new (inl set) (inr left) =
      inl (set.0, set.1, set.2 ++ word ∷ [], ap (λ ws. ws ++ word ∷ []) set.3 ∙ append_assoc set.0 (set.1 ∷ set.2) (word ∷ []), (set.4.0, set.4.1, (set.4.2.0, left.1 ∙ set.4.2.1, set.4.2.2)), set.5, NoneSets-push name set.2 word set.6 left.0)
  slot-more words word old new (inr none) (inl takes) = inl (words, word, [], refl, (takes.3.0, takes.3.1, (takes.0, takes.2, takes.3.2)), none.0, none_sets name)
  slot-more words word old new (inr none) (inr left) = inr (NoneSets-push name words word none.0 left.0, left.1 ∙ none.1)

  -- what is in the slot at the end is chosen
  pub chosen-from_slot : {W : Type 0} (NamesView : List ℕ → W → Type 0) (words : List (List ℕ)) (slot : Option V) (otherwise chosen : W) → Slot words slot
      → ((value : List ℕ) (x : V) → slot ≡ Some x → Means value x → NamesView value chosen) → (slot ≡ None → chosen ≡ otherwise) → IsChosen name NamesView otherwise words chosen
  chosen-from_slot NamesView words slot otherwise chosen (inl set) means none =
      inl (set.0, set.1, set.2, set.3, (set.4.0, set.4.1, means set.4.0 set.4.2.0 set.4.2.1 set.4.2.2), set.5, set.6)
  chosen-from_slot NamesView words slot otherwise chosen (inr unset) means none = inr (unset.0, none unset.1)

  pub unwrapped : (words : List (List ℕ)) (slot : Option V) (otherwise chosen : V) → Slot words slot → chosen ≡ unwrap_or slot otherwise → IsChosen name Means otherwise words chosen
  unwrapped words slot otherwise chosen held is =
      chosen-from_slot Means words slot otherwise chosen held (λ value x e means. subst (Means value) (sym (is ∙ ap (λ s. unwrap_or s otherwise) e)) means) (λ e. is ∙ ap (λ s. unwrap_or s otherwise) e)

  empty_before : (words : List (List ℕ)) (slot : Option V) → Slot words slot → NoneSets name words → slot ≡ None
  empty_before words slot (inl set) none = absurd (none set.4.0 (subst (λ ws. Contains ws (setting name set.4.0)) (sym set.3) (Contains-between set.0 set.2 set.1 (setting name set.4.0) set.4.1)))
  empty_before words slot (inr unset) none = unset.1

  -- where something is chosen for the name, the slot can take the word that sets it
  pub takes_chosen : {W : Type 0} (NamesView : List ℕ → W → Type 0) (words before after : List (List ℕ)) (word value : List ℕ) (slot : Option V) (otherwise chosen : W) → Slot before slot → IsChosen name NamesView otherwise words chosen
      → words ≡ before ++ word ∷ after → word ≡ setting name value → (slot ≡ None) × SetsTo name NamesView word chosen
  takes_chosen NamesView words before after word value slot otherwise chosen held (inl set) cut sets =
      let one = only_one name value before set.0 word set.1 after set.2 sets set.5 set.6 (sym cut ∙ set.3) in
      (empty_before before slot held (rw one.0 set.5), (set.4.0, one.1 ∙ set.4.1, set.4.2))
  takes_chosen NamesView words before after word value slot otherwise chosen held (inr unset) cut sets =
      absurd (unset.0 value (subst (λ ws. Contains ws (setting name value)) (sym cut) (Contains-between before after word (setting name value) sets)))
