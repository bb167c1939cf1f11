-- What a part of the reader promises: it reads just what a production spells.
use Rattle.std.specs.Prelude.{◌≡◌, ℕ, zero, suc, List, ◌∷◌, ◌++◌, None, Result, Ok, Err, IfOk, codes}
use Rattle.form_reader.specs.declared.form.ReadFault.{ReadFault}
use Rattle.form_reader.specs.declared.form.ReadFault.TheVariants.{NotForm, NoMemory}
use Rattle.form_reader.specs.Lexemes.{Lexeme, Run, Mark}
use Rattle.form_reader.specs.Grammar.{operator_of}

-- a tree that is known to stand there was read, and what follows it is left; only memory may have run out
abbrev pub IsReadAs : {T L : Type 0} → Result T ReadFault → List L → T → List L → Type 0
IsReadAs (Ok found) new tree rest = (found ≡ tree) × (new ≡ rest)
IsReadAs (Err NoMemory) new tree rest = Unit {0}
IsReadAs (Err NotForm) new tree rest = ⊥

-- From the lexemes old to the lexemes new a tree was read that the production spells. Where it spells a
-- tree at the front, and what follows can't belong to it, it is that tree.
pub record Reads {T : Type 0} (Spelling : T → List Lexeme → Type 0) (Ends : List Lexeme → Type 0) (result : Result T ReadFault) (old new : List Lexeme) : Type 0 where
  pub found : IfOk result (λ tree. (here : List Lexeme) × Spelling tree here × (old ≡ here ++ new))
  pub only : (tree : T) (here rest : List Lexeme) → Spelling tree here → Ends rest → old ≡ here ++ rest → IsReadAs result new tree rest

-- no operator of these ranks stands at the front
abbrev pub HasNoOperator : ℕ → List Lexeme → Type 0
HasNoOperator rank (Mark byte line ∷ rest) = operator_of rank byte ≡ None
HasNoOperator rank lexemes = Unit {0}

abbrev pub EndsRank : ℕ → List Lexeme → Type 0
EndsRank zero lexemes = Unit {0}
EndsRank (suc rank) lexemes = HasNoOperator (suc rank) lexemes × EndsRank rank lexemes

-- what follows matters to no statement
abbrev pub EndsAnywhere : List Lexeme → Type 0
EndsAnywhere lexemes = Unit {0}

-- a list of statements ends before a brace
abbrev pub EndsBlock : List Lexeme → Type 0
EndsBlock lexemes = (line : ℕ) × (rest : List Lexeme) × (lexemes ≡ Mark 125 line ∷ rest)

-- a list of declarations ends where no `int` stands
abbrev pub EndsDeclarations : List Lexeme → Type 0
EndsDeclarations lexemes = (line : ℕ) (rest : List Lexeme) → lexemes ≡ Run (codes "int") line ∷ rest → ⊥

-- what is known to have been there was read; only memory may have run out
abbrev pub IsJust : {T : Type 0} → Result T ReadFault → T → Type 0
IsJust (Ok found) known = found ≡ known
IsJust (Err NoMemory) known = Unit {0}
IsJust (Err NotForm) known = ⊥
