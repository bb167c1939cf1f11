-- The words of a call: which of them are a command.
use Rattle.std.specs.Prelude.{◌≡◌, ℕ, ◌<◌, ◌≤◌, Bool, false, List, [], ◌∷◌, length, Option, Some, None, codes, ◌==◌}
use Rattle.std.specs.Fmt.{decimal}
use Rattle.filc_top.specs.declared.command.Command.{Command}
use Rattle.filc_top.specs.declared.command.Command.TheVariants.{Run, Check, Code}

-- whether a dash begins the word
abbrev pub begins_with_dash : List ℕ → Bool
begins_with_dash [] = false
begins_with_dash (byte ∷ bytes) = byte == 45

-- the name of a file: not empty, and with no dash in front
pub record IsFileName (name : List ℕ) : Type 0 where
  pub some : 0 < length name
  pub no_dash : begins_with_dash name ≡ false

-- a number of turns
pub record IsTurns (turns : ℕ) : Type 0 where
  pub least : 1 ≤ turns
  pub most : turns ≤ 1000000000

-- `run FILE`, where `--turns N` may stand before or after the name: these words run this file, for so many turns
pub data IsRun (words : List (List ℕ)) (name : List ℕ) (turns : ℕ) : Type 0 where
  alone : words ≡ codes "run" ∷ name ∷ [] → IsFileName name → turns ≡ 100000000 → IsRun words name turns
  before : words ≡ codes "run" ∷ codes "--turns" ∷ decimal turns ∷ name ∷ [] → IsFileName name → IsTurns turns → IsRun words name turns
  after : words ≡ codes "run" ∷ name ∷ codes "--turns" ∷ decimal turns ∷ [] → IsFileName name → IsTurns turns → IsRun words name turns

-- `check FILE`: these words check this file
pub record IsCheck (words : List (List ℕ)) (name : List ℕ) : Type 0 where
  pub words_are : words ≡ codes "check" ∷ name ∷ []
  pub name_is : IsFileName name

-- `code FILE`: these words list the code of this file
pub record IsCode (words : List (List ℕ)) (name : List ℕ) : Type 0 where
  pub words_are : words ≡ codes "code" ∷ name ∷ []
  pub name_is : IsFileName name

-- the words look at this file, and run nothing
pub data LooksAt (words : List (List ℕ)) (name : List ℕ) : Type 0 where
  to_check : IsCheck words name → LooksAt words name
  to_code : IsCode words name → LooksAt words name

-- the words are no command
pub record IsNoCommand (words : List (List ℕ)) : Type 0 where
  pub runs_none : (name : List ℕ) (turns : ℕ) → IsRun words name turns → ⊥
  pub checks_none : (name : List ℕ) → IsCheck words name → ⊥
  pub lists_none : (name : List ℕ) → IsCode words name → ⊥

-- the command that the words are, where they are one
abbrev pub IsCommandOf : List (List ℕ) → Option Command → Type 0
IsCommandOf words (Some (Run name turns)) = IsRun words name.now turns
IsCommandOf words (Some (Check name)) = IsCheck words name.now
IsCommandOf words (Some (Code name)) = IsCode words name.now
IsCommandOf words None = IsNoCommand words

-- the number of turns that the word spells, where it spells one
abbrev pub IsTurnsOf : List ℕ → Option ℕ → Type 0
IsTurnsOf word (Some turns) = IsTurns turns × (word ≡ decimal turns)
IsTurnsOf word None = (turns : ℕ) → IsTurns turns → word ≡ decimal turns → ⊥

-- the file of this name for so many turns as the word spells, where the one is a name and the other spells turns
abbrev pub IsFileFor : List ℕ → List ℕ → Option Command → Type 0
IsFileFor name word (Some (Run file turns)) = (file.now ≡ name) × IsFileName name × IsTurns turns × (word ≡ decimal turns)
IsFileFor name word (Some (Check file)) = ⊥
IsFileFor name word (Some (Code file)) = ⊥
IsFileFor name word None = IsFileName name → (turns : ℕ) → IsTurns turns → word ≡ decimal turns → ⊥
