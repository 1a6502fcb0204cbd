-- What the words of a call choose.
use Rattle.std.specs.Prelude.{◌≡◌, ◌≢◌, ◌⊎◌, ◌≤◌, ◌<◌, ◌^◌, ℕ, ℤ, pos, not, nat_lt, if◌then◌else◌, ◌==◌, IsTrue, MatchResult, List, [], length, ◌∷◌, ◌++◌, All, Contains, Option, Some, None, codes}
use Rattle.std.specs.List.{list_all}
use Rattle.std.specs.declared.result.Result.{Result}
use Rattle.std.specs.Str.Parse.{IsNumeral, digits_value}
use Rattle.overlay_text.specs.declared.settings.Command.{Command}
use Rattle.overlay_text.specs.declared.settings.Command.TheVariants.{Join, Cross, Split, Graph, Walks}
use Rattle.overlay_text.specs.declared.settings.Engine.{Engine}
use Rattle.overlay_text.specs.declared.settings.Engine.TheVariants.{I16, I32}
use Rattle.overlay_text.specs.declared.settings.Rounding.{Rounding}
use Rattle.overlay_text.specs.declared.settings.Rounding.TheVariants.{Pairwise, HotPixels}
use Rattle.overlay_text.specs.declared.settings.Settings.{Settings}
use Rattle.overlay_text.specs.declared.settings.SquaredRadius.{SquaredRadius}
use Rattle.overlay_base.specs.declared.overlay_core.solver.Precision.{Precision}
use Rattle.overlay_base.specs.declared.overlay_core.solver.Strategy.{Strategy}
use Rattle.overlay_base.specs.declared.overlay_core.solver.Strategy.TheVariants.{List as ByList, Tree, Frag, Auto}
use Rattle.overlay_base.specs.declared.overlay_core.fill_rule.FillRule.{FillRule}
use Rattle.overlay_base.specs.declared.overlay_core.fill_rule.FillRule.TheVariants.{EvenOdd, NonZero, Positive, Negative}
use Rattle.overlay_base.specs.declared.overlay_core.overlay_rule.OverlayRule.{OverlayRule}
use Rattle.overlay_base.specs.declared.overlay_core.overlay_rule.OverlayRule.TheVariants.{Subject, Clip, Intersect, Union, Difference, InverseDifference, Xor, Table}
use Rattle.overlay_base.specs.declared.overlay_core.rule_table.RuleTable.{RuleTable}
use Rattle.overlay_base.specs.Rules.{bits_of}

abbrev pub NamesCommand : List ℕ → Command → Type 0
NamesCommand word Join = word ≡ codes "join"
NamesCommand word Cross = word ≡ codes "cross"
NamesCommand word Split = word ≡ codes "split"
NamesCommand word Graph = word ≡ codes "graph"
NamesCommand word Walks = word ≡ codes "walks"

abbrev pub NamesEngine : List ℕ → Engine → Type 0
NamesEngine value I16 = value ≡ codes "i16"
NamesEngine value I32 = value ≡ codes "i32"

abbrev pub NamesStrategy : List ℕ → Strategy → Type 0
NamesStrategy value ByList = value ≡ codes "list"
NamesStrategy value Tree = value ≡ codes "tree"
NamesStrategy value Frag = value ≡ codes "frag"
NamesStrategy value Auto = value ≡ codes "auto"

abbrev pub NamesRounding : List ℕ → Rounding → Type 0
NamesRounding value Pairwise = value ≡ codes "pairwise"
NamesRounding value HotPixels = value ≡ codes "hot_pixels"

abbrev pub NamesFillRule : List ℕ → FillRule → Type 0
NamesFillRule value EvenOdd = value ≡ codes "evenodd"
NamesFillRule value NonZero = value ≡ codes "nonzero"
NamesFillRule value Positive = value ≡ codes "positive"
NamesFillRule value Negative = value ≡ codes "negative"

-- a rule by its name, or none, which keeps all links
abbrev pub IsRuleName : List ℕ → Option OverlayRule → Type 0
IsRuleName value None = value ≡ codes "all"
IsRuleName value (Some Subject) = value ≡ codes "subject"
IsRuleName value (Some Clip) = value ≡ codes "clip"
IsRuleName value (Some Intersect) = value ≡ codes "intersect"
IsRuleName value (Some Union) = value ≡ codes "union"
IsRuleName value (Some Difference) = value ≡ codes "difference"
IsRuleName value (Some InverseDifference) = value ≡ codes "inverse-difference"
IsRuleName value (Some Xor) = value ≡ codes "xor"
IsRuleName value (Some (Table table)) = ⊥

-- the number of a table, in no more digits than it needs
abbrev pub WritesTable : List ℕ → RuleTable → Type 0
WritesTable digits table =
    IsNumeral 10 digits × (digits_value 10 digits ≡ bits_of table) × (length digits ≡ (if nat_lt (bits_of table) 10 then 1 else 2))

-- a rule by its name, or as `table:N`
abbrev pub NamesRule : List ℕ → Option OverlayRule → Type 0
NamesRule value (Some (Table table)) = (digits : List ℕ) × (value ≡ codes "table:" ++ digits) × WritesTable digits table
NamesRule value rule = IsRuleName value rule

-- 1 to 2^56
abbrev pub WritesSquare : List ℕ → ℤ → Type 0
WritesSquare value squared =
    IsNumeral 10 value × (1 ≤ digits_value 10 value) × (digits_value 10 value ≤ 2 ^ 56) × (squared ≡ pos (digits_value 10 value))

abbrev pub WritesRadius : List ℕ → SquaredRadius → Type 0
WritesRadius value radius = WritesSquare value radius.squared

-- the exponent of the first radius, and what each pass adds to it
abbrev pub precision_of : ℕ → ℕ → Precision
precision_of start progression = record { start = start; progression = progression }

abbrev pub IsPrecisionName : List ℕ → Precision → Type 0
IsPrecisionName value precision =
    ((value ≡ codes "absolute") × (precision ≡ precision_of 0 0)) ⊎ ((value ≡ codes "high") × (precision ≡ precision_of 0 1))
    ⊎ ((value ≡ codes "medium-high") × (precision ≡ precision_of 1 1)) ⊎ ((value ≡ codes "medium") × (precision ≡ precision_of 0 2))
    ⊎ ((value ≡ codes "medium-low") × (precision ≡ precision_of 2 2)) ⊎ ((value ≡ codes "low") × (precision ≡ precision_of 2 3))

-- 1 to 9 digits
abbrev pub IsShortNumeral : List ℕ → Type 0
IsShortNumeral text = IsNumeral 10 text × (length text ≤ 9)

-- a precision by its name, or as two numbers with a comma between them
abbrev pub NamesPrecision : List ℕ → Precision → Type 0
NamesPrecision value precision =
    IsPrecisionName value precision
    ⊎ ((start step : List ℕ) × (value ≡ start ++ codes "," ++ step) × IsShortNumeral start × IsShortNumeral step
    × (precision ≡ precision_of (digits_value 10 start) (digits_value 10 step)))

-- 0 to 4294967295
abbrev pub WritesLimit : List ℕ → ℕ → Type 0
WritesLimit value limit = IsNumeral 10 value × (limit < 2 ^ 32) × (limit ≡ digits_value 10 value)

-- `name=value`
abbrev pub setting : List ℕ → List ℕ → List ℕ
setting name value = name ++ codes "=" ++ value

-- there is no `=`, of code 61, in it
abbrev pub IsName : List ℕ → Type 0
IsName name = IsTrue (list_all (λ code. not (code == 61)) name)

-- the names of the settings
abbrev pub setting_names : List (List ℕ)
setting_names = codes "engine" ∷ codes "strategy" ∷ codes "precision" ∷ codes "fill" ∷ codes "rule" ∷ codes "limit" ∷ codes "radius" ∷ codes "rounding" ∷ []

-- the word sets one of these names
abbrev pub IsSetting : List ℕ → Type 0
IsSetting word = (name value : List ℕ) × Contains setting_names name × (word ≡ setting name value)

-- the word sets the name, to a value that means this
abbrev pub SetsTo : {V : Type 0} → List ℕ → (List ℕ → V → Type 0) → List ℕ → V → Type 0
SetsTo name Means word chosen = (value : List ℕ) × (word ≡ setting name value) × Means value chosen

-- none of the words sets the name
abbrev pub NoneSets : List ℕ → List (List ℕ) → Type 0
NoneSets name words = (value : List ℕ) → ¬ (Contains words (setting name value))

-- what is chosen for a name: what the one word that sets it sets it to, and where none does, what holds otherwise
abbrev pub IsChosen : {V : Type 0} → List ℕ → (List ℕ → V → Type 0) → V → List (List ℕ) → V → Type 0
IsChosen name Means otherwise words chosen =
    ((before : List (List ℕ)) × (word : List ℕ) × (after : List (List ℕ)) × (words ≡ before ++ word ∷ after)
    × SetsTo name Means word chosen × NoneSets name before × NoneSets name after)
    ⊎ (NoneSets name words × (chosen ≡ otherwise))

-- each word sets one of the names, and the settings are what is chosen for each
pub record WordsSet (words : List (List ℕ)) (settings : Settings) : Type 0 where
  pub known : All IsSetting words
  pub engine : IsChosen (codes "engine") NamesEngine I32 words settings.engine
  pub strategy : IsChosen (codes "strategy") NamesStrategy Auto words settings.strategy
  pub precision : IsChosen (codes "precision") NamesPrecision (precision_of 0 1) words settings.precision
  pub fill : IsChosen (codes "fill") NamesFillRule NonZero words settings.fill_rule
  pub rule : IsChosen (codes "rule") NamesRule None words settings.rule
  pub limit : IsChosen (codes "limit") WritesLimit 256 words settings.snap_limit
  pub radius : IsChosen (codes "radius") WritesSquare (pos 1) words settings.radius.squared
  pub rounding : IsChosen (codes "rounding") NamesRounding Pairwise words settings.rounding

-- no settings are what the words set
abbrev pub SetNothing : List (List ℕ) → Type 0
SetNothing words = (settings : Settings) → ¬ (WordsSet words settings)

-- the first word names the command, and the others set the settings
pub record WordsAsk (words : List (List ℕ)) (command : Command) (settings : Settings) : Type 0 where
  pub first : List ℕ
  pub others : List (List ℕ)
  pub split : words ≡ first ∷ others
  pub named : NamesCommand first command
  pub set : WordsSet others settings

-- no command and no settings are chosen
abbrev pub AskNothing : List (List ℕ) → Type 0
AskNothing words = (command : Command) (settings : Settings) → ¬ (WordsAsk words command settings)

-- what a word leaves in a slot: an empty slot takes what the word sets the name to, and a word that does not set it leaves the slot as it was
abbrev pub TakesWord : {V : Type 0} → List ℕ → (List ℕ → V → Type 0) → List ℕ → Option V → Option V → Type 0
TakesWord {V = V} name Means word old new =
    ((chosen : V) × (old ≡ None) × (new ≡ Some chosen) × SetsTo name Means word chosen)
    ⊎ (((value : List ℕ) → word ≢ setting name value) × (new ≡ old))

-- the slot is empty, and the word sets the name to something
abbrev pub CanTake : {V : Type 0} → List ℕ → (List ℕ → V → Type 0) → List ℕ → Option V → Type 0
CanTake {V = V} name Means word slot = (slot ≡ None) × ((chosen : V) × SetsTo name Means word chosen)

-- how a word is read into a slot: it is taken, or it is refused and the slot cannot take it
abbrev pub ReadsWord : {T E V : Type 0} → Result T E → List ℕ → (List ℕ → V → Type 0) → List ℕ → Option V → Option V → Type 0
ReadsWord result name Means word old new = MatchResult result (λ _. TakesWord name Means word old new) (λ _. ¬ (CanTake name Means word old))
