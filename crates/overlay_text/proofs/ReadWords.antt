-- What the words of a call leave in the slots for their settings, and which word is refused.
use Rattle.std.proofs.Common.{◌≡◌, ℕ, zero, suc, pos, ℤ, List, [], ◌∷◌, ◌++◌, Option, None, refl, sym, ap, ◌∙◌, subst, arith, ◌+◌, ◌<◌, length, get_or, take, drop, map, All, unwrap_or}
use Rattle.std.proofs.Math.Numerals.{add-one}
use Rattle.std.proofs.Math.Seq.{split_at}
use Rattle.std.proofs.lemmas.List.{map-append}
use Rattle.std.proofs.lemmas.List.Elements.{All-nil, All-push, All-contains, Contains-append_right}
use Rattle.std.specs.Option.{option_map_or}
use Rattle.std.specs.Prelude.{codes, Contains}
use Rattle.overlay_base.specs.declared.overlay_core.fill_rule.FillRule.TheVariants.{NonZero}
use Rattle.overlay_base.specs.declared.overlay_core.solver.Strategy.TheVariants.{Auto}
use Rattle.overlay_text.specs.declared.settings.Engine.TheVariants.{I32}
use Rattle.overlay_text.specs.declared.settings.Rounding.TheVariants.{Pairwise}
use Rattle.overlay_text.specs.declared.settings.Settings.{Settings}
use Rattle.overlay_text.specs.declared.settings.SquaredRadius.{SquaredRadius}
use Rattle.overlay_text.specs.declared.words.Choices.{Choices}
use Rattle.overlay_text.specs.Words.{NamesEngine, NamesStrategy, precision_of, NamesPrecision, NamesFillRule, NamesRule, WritesLimit, WritesSquare, WritesRadius, NamesRounding, setting, IsSetting, WordsSet, SetNothing, AskNothing, TakesWord, CanTake}
use Rattle.overlay_text.proofs.Slots.{Slot, empty_slot, slot-more, chosen-from_slot, unwrapped, takes_chosen}

-- what is in the slots when these words are read
pub record AreRead (words : List (List ℕ)) (choices : Choices) : Type 0 where
  pub known : All IsSetting words
  pub engine : Slot (codes "engine") NamesEngine words choices.engine
  pub strategy : Slot (codes "strategy") NamesStrategy words choices.strategy
  pub precision : Slot (codes "precision") NamesPrecision words choices.precision
  pub fill : Slot (codes "fill") NamesFillRule words choices.fill_rule
  pub rule : Slot (codes "rule") NamesRule words choices.rule
  pub limit : Slot (codes "limit") WritesLimit words choices.snap_limit
  pub radius : Slot (codes "radius") WritesRadius words choices.radius
  pub rounding : Slot (codes "rounding") NamesRounding words choices.rounding

-- how a word that is taken changes them
pub record TakesWords (word : List ℕ) (old new : Choices) : Type 0 where
  pub known : IsSetting word
  pub engine : TakesWord (codes "engine") NamesEngine word old.engine new.engine
  pub strategy : TakesWord (codes "strategy") NamesStrategy word old.strategy new.strategy
  pub precision : TakesWord (codes "precision") NamesPrecision word old.precision new.precision
  pub fill : TakesWord (codes "fill") NamesFillRule word old.fill_rule new.fill_rule
  pub rule : TakesWord (codes "rule") NamesRule word old.rule new.rule
  pub limit : TakesWord (codes "limit") WritesLimit word old.snap_limit new.snap_limit
  pub radius : TakesWord (codes "radius") WritesRadius word old.radius new.radius
  pub rounding : TakesWord (codes "rounding") NamesRounding word old.rounding new.rounding

-- no slot can take the word
pub record NoneTakes (word : List ℕ) (choices : Choices) : Type 0 where
  pub engine : ¬ (CanTake (codes "engine") NamesEngine word choices.engine)
  pub strategy : ¬ (CanTake (codes "strategy") NamesStrategy word choices.strategy)
  pub precision : ¬ (CanTake (codes "precision") NamesPrecision word choices.precision)
  pub fill : ¬ (CanTake (codes "fill") NamesFillRule word choices.fill_rule)
  pub rule : ¬ (CanTake (codes "rule") NamesRule word choices.rule)
  pub limit : ¬ (CanTake (codes "limit") WritesLimit word choices.snap_limit)
  pub radius : ¬ (CanTake (codes "radius") WritesRadius word choices.radius)
  pub rounding : ¬ (CanTake (codes "rounding") NamesRounding word choices.rounding)

abbrev pub squared_or_one : Option SquaredRadius → ℤ
squared_or_one slot = option_map_or (λ radius. radius.squared) slot (pos 1)

-- the settings are what is in the slots, and else what holds otherwise
pub record AreChosen (choices : Choices) (settings : Settings) : Type 0 where
  pub engine : settings.engine ≡ unwrap_or choices.engine I32
  pub strategy : settings.strategy ≡ unwrap_or choices.strategy Auto
  pub precision : settings.precision ≡ unwrap_or choices.precision (precision_of 0 1)
  pub fill : settings.fill_rule ≡ unwrap_or choices.fill_rule NonZero
  pub rule : settings.rule ≡ unwrap_or choices.rule None
  pub limit : settings.snap_limit ≡ unwrap_or choices.snap_limit 256
  pub radius : settings.radius.squared ≡ squared_or_one choices.radius
  pub rounding : settings.rounding ≡ unwrap_or choices.rounding Pairwise

pub nothing_read : (choices : Choices) → choices.engine ≡ None → choices.strategy ≡ None → choices.precision ≡ None → choices.fill_rule ≡ None → choices.rule ≡ None → choices.snap_limit ≡ None → choices.radius ≡ None → choices.rounding ≡ None → AreRead [] choices
nothing_read choices engine strategy precision fill rule limit radius rounding = record {
  known = All-nil IsSetting;
  engine = empty_slot (codes "engine") NamesEngine choices.engine engine;
  strategy = empty_slot (codes "strategy") NamesStrategy choices.strategy strategy;
  precision = empty_slot (codes "precision") NamesPrecision choices.precision precision;
  fill = empty_slot (codes "fill") NamesFillRule choices.fill_rule fill;
  rule = empty_slot (codes "rule") NamesRule choices.rule rule;
  limit = empty_slot (codes "limit") WritesLimit choices.snap_limit limit;
  radius = empty_slot (codes "radius") WritesRadius choices.radius radius;
  rounding = empty_slot (codes "rounding") NamesRounding choices.rounding rounding;
}

pub one_more : (words : List (List ℕ)) (word : List ℕ) (old new : Choices) → AreRead words old → TakesWords word old new → AreRead (words ++ word ∷ []) new
one_more words word old new held takes = record {
  known = All-push IsSetting words word held.known takes.known;
  engine = slot-more (codes "engine") NamesEngine words word old.engine new.engine held.engine takes.engine;
  strategy = slot-more (codes "strategy") NamesStrategy words word old.strategy new.strategy held.strategy takes.strategy;
  precision = slot-more (codes "precision") NamesPrecision words word old.precision new.precision held.precision takes.precision;
  fill = slot-more (codes "fill") NamesFillRule words word old.fill_rule new.fill_rule held.fill takes.fill;
  rule = slot-more (codes "rule") NamesRule words word old.rule new.rule held.rule takes.rule;
  limit = slot-more (codes "limit") WritesLimit words word old.snap_limit new.snap_limit held.limit takes.limit;
  radius = slot-more (codes "radius") WritesRadius words word old.radius new.radius held.radius takes.radius;
  rounding = slot-more (codes "rounding") NamesRounding words word old.rounding new.rounding held.rounding takes.rounding;
}

abbrev WhereSet : List ℕ → Type 0 → List ℕ → Type 0
WhereSet word Z name = (value : List ℕ) → word ≡ setting name value → Z

-- a word that sets one of the eight names
each_name : {Z : Type 0} (word : List ℕ) → IsSetting word → WhereSet word Z (codes "engine") → WhereSet word Z (codes "strategy") → WhereSet word Z (codes "precision") → WhereSet word Z (codes "fill") → WhereSet word Z (codes "rule") → WhereSet word Z (codes "limit") → WhereSet word Z (codes "radius") → WhereSet word Z (codes "rounding") → Z
each_name word (name, value, (zero, below, is), sets) f _ _ _ _ _ _ _ = f value (sets ∙ ap (λ n. setting n value) (sym is))
each_name word (name, value, (suc zero, below, is), sets) _ f _ _ _ _ _ _ = f value (sets ∙ ap (λ n. setting n value) (sym is))
each_name word (name, value, (suc (suc zero), below, is), sets) _ _ f _ _ _ _ _ = f value (sets ∙ ap (λ n. setting n value) (sym is))
each_name word (name, value, (suc (suc (suc zero)), below, is), sets) _ _ _ f _ _ _ _ = f value (sets ∙ ap (λ n. setting n value) (sym is))
each_name word (name, value, (suc (suc (suc (suc zero))), below, is), sets) _ _ _ _ f _ _ _ = f value (sets ∙ ap (λ n. setting n value) (sym is))
each_name word (name, value, (suc (suc (suc (suc (suc zero)))), below, is), sets) _ _ _ _ _ f _ _ = f value (sets ∙ ap (λ n. setting n value) (sym is))
each_name word (name, value, (suc (suc (suc (suc (suc (suc zero))))), below, is), sets) _ _ _ _ _ _ f _ = f value (sets ∙ ap (λ n. setting n value) (sym is))
each_name word (name, value, (suc (suc (suc (suc (suc (suc (suc zero)))))), below, is), sets) _ _ _ _ _ _ _ f = f value (sets ∙ ap (λ n. setting n value) (sym is))
each_name word (name, value, (suc (suc (suc (suc (suc (suc (suc (suc k))))))), below, is), sets) _ _ _ _ _ _ _ _ = absurd (omega (arith, below))

pub cut_mapped : {X Y : Type 0} (f : X → Y) (xs : List X) (i : ℕ) (x : X) → i < length xs → x ≡ get_or xs i x → map f xs ≡ map f (take i xs) ++ f x ∷ map f (drop (i + 1) xs)
cut_mapped f xs i x below is =
    let split : xs ≡ take i xs ++ x ∷ drop (i + 1) xs = rw add-one (split_at xs i x below ∙ ap (λ y. take i xs ++ y ∷ drop (suc i) xs) (sym is)) in
    ap (map f) split ∙ map-append f (take i xs) (x ∷ drop (i + 1) xs)

-- words with one that no slot can take set nothing
pub refuses : (words before after : List (List ℕ)) (word : List ℕ) (choices : Choices) → AreRead before choices → NoneTakes word choices → words ≡ before ++ word ∷ after → SetNothing words
refuses words before after word choices held none at settings set =
    let is_setting : IsSetting word = All-contains IsSetting words word set.known (subst (λ ws. Contains ws word) (sym at) (Contains-append_right before (word ∷ after) word (0, omega arith, refl))) in
    each_name word is_setting
    (λ value sets. let takes = takes_chosen (codes "engine") NamesEngine NamesEngine words before after word value choices.engine I32 settings.engine held.engine set.engine at sets in none.engine (takes.0, (settings.engine, takes.1)))
    (λ value sets. let takes = takes_chosen (codes "strategy") NamesStrategy NamesStrategy words before after word value choices.strategy Auto settings.strategy held.strategy set.strategy at sets in none.strategy (takes.0, (settings.strategy, takes.1)))
    (λ value sets. let takes = takes_chosen (codes "precision") NamesPrecision NamesPrecision words before after word value choices.precision (precision_of 0 1) settings.precision held.precision set.precision at sets in none.precision (takes.0, (settings.precision, takes.1)))
    (λ value sets. let takes = takes_chosen (codes "fill") NamesFillRule NamesFillRule words before after word value choices.fill_rule NonZero settings.fill_rule held.fill set.fill at sets in none.fill (takes.0, (settings.fill_rule, takes.1)))
    (λ value sets. let takes = takes_chosen (codes "rule") NamesRule NamesRule words before after word value choices.rule None settings.rule held.rule set.rule at sets in none.rule (takes.0, (settings.rule, takes.1)))
    (λ value sets. let takes = takes_chosen (codes "limit") WritesLimit WritesLimit words before after word value choices.snap_limit 256 settings.snap_limit held.limit set.limit at sets in none.limit (takes.0, (settings.snap_limit, takes.1)))
    (λ value sets. let takes = takes_chosen (codes "radius") WritesRadius WritesSquare words before after word value choices.radius (pos 1) settings.radius.squared held.radius set.radius at sets in none.radius (takes.0, (settings.radius, takes.1)))
    (λ value sets. let takes = takes_chosen (codes "rounding") NamesRounding NamesRounding words before after word value choices.rounding Pairwise settings.rounding held.rounding set.rounding at sets in none.rounding (takes.0, (settings.rounding, takes.1)))

-- words after the first that set nothing choose nothing
pub ask_nothing : (words others : List (List ℕ)) (first : List ℕ) → words ≡ first ∷ others → SetNothing others → AskNothing words
ask_nothing words others first split nothing command settings asked = nothing settings (subst (λ ws. WordsSet ws settings) (cc (asked.split, split)) asked.set)

-- what is in the slots at the end is what the words set
pub sets : (words : List (List ℕ)) (choices : Choices) (settings : Settings) → AreRead words choices → AreChosen choices settings → WordsSet words settings
sets words choices settings held chosen = record {
  known = held.known;
  engine = unwrapped (codes "engine") NamesEngine words choices.engine I32 settings.engine held.engine chosen.engine;
  strategy = unwrapped (codes "strategy") NamesStrategy words choices.strategy Auto settings.strategy held.strategy chosen.strategy;
  precision = unwrapped (codes "precision") NamesPrecision words choices.precision (precision_of 0 1) settings.precision held.precision chosen.precision;
  fill = unwrapped (codes "fill") NamesFillRule words choices.fill_rule NonZero settings.fill_rule held.fill chosen.fill;
  rule = unwrapped (codes "rule") NamesRule words choices.rule None settings.rule held.rule chosen.rule;
  limit = unwrapped (codes "limit") WritesLimit words choices.snap_limit 256 settings.snap_limit held.limit chosen.limit;
  radius = chosen-from_slot (codes "radius") WritesRadius WritesSquare words choices.radius (pos 1) settings.radius.squared held.radius (λ value x e means. subst (WritesSquare value) (sym (chosen.radius ∙ ap squared_or_one e)) means) (λ e. chosen.radius ∙ ap squared_or_one e);
  rounding = unwrapped (codes "rounding") NamesRounding words choices.rounding Pairwise settings.rounding held.rounding chosen.rounding;
}
