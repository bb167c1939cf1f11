-- Code and sizes over the lists that Rust sees of a statement.
use Rattle.std.specs.Prelude.{ℕ, ◌+◌, List, [], ◌∷◌, ◌++◌, Bool}
use Rattle.c_tree.specs.declared.stmt.Stmt.{Stmt}
use Rattle.whole_code.specs.declared.op.Instruction.{Instruction}
use Rattle.stmt_gen.specs.Code.{Exits, stmt_size, stmt_code}
use Rattle.expr_emit.specs.Place.{place_at}
use Rattle.stmt_emit.specs.declared.statement.Exits.{Exits as PutExits}
use Rattle.stmt_emit.specs.declared.statement.Inside.{Inside}

-- exits, as the code's definition has them
abbrev pub exits_of : PutExits → Exits
exits_of exits = record { broke = exits.broke; continued = exits.continued }

-- what a statement of this line stands in
abbrev pub inside_at : Inside → (line : ℕ) → Inside
inside_at inside line = record inside { place = place_at inside.place.library line inside.place.t }

abbrev pub statements_size : List Stmt → ℕ
statements_size [] = 0
statements_size (s ∷ rest) = stmt_size s + statements_size rest

abbrev pub statements_code : Bool → List Stmt → (t at : ℕ) → Exits → List Instruction
statements_code library [] t at exits = []
statements_code library (s ∷ rest) t at exits = stmt_code library s t at exits ++ statements_code library rest t (at + stmt_size s) exits

-- the index where each statement begins, and the index behind the last
abbrev pub starts_of : List Stmt → (at : ℕ) → List ℕ
starts_of [] at = at ∷ []
starts_of (s ∷ rest) at = at ∷ starts_of rest (at + stmt_size s)
