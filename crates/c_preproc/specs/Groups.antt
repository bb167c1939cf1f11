-- Conditional groups, by nesting alone.
use Rattle.std.specs.Prelude.{ℕ, min, false, true, if◌then◌else◌, List, [], ◌∷◌, drop, Option, Some, None}
use Rattle.c_preproc.specs.declared.directives.DirectiveWord.{DirectiveWord}
use Rattle.c_preproc.specs.declared.directives.DirectiveWord.TheVariants.{If, IfDefined, IfUndefined, ElseIf, Else, EndIf}
use Rattle.c_preproc.specs.declared.groups.Open.{Open}
use Rattle.c_preproc.specs.declared.groups.Step.{Step}
use Rattle.c_preproc.specs.declared.groups.Step.TheVariants.{Balanced, Misplaced, Alone}
use Rattle.c_preproc.specs.Directives.{Block, Directive, Plain, directive_word}

-- the earlier of two lines
abbrev pub earlier : Option ℕ → Option ℕ → Option ℕ
earlier None b = b
earlier (Some a) None = Some a
earlier (Some a) (Some b) = Some (min a b)

-- the line of the outermost `if` that has no end; the innermost is the first
abbrev pub outermost : List Open → Option ℕ
outermost [] = None
outermost (o ∷ []) = Some o.line
outermost (o ∷ p ∷ rest) = outermost (p ∷ rest)

-- a part of the innermost `if`: misplaced behind its `else`
abbrev pub step_of_part : List Open → Step
step_of_part [] = Alone
step_of_part (o ∷ opens) = if o.has_else then Misplaced else Balanced

-- what a directive means for the open `if`s
abbrev pub step_of : DirectiveWord → List Open → Step
step_of ElseIf opens = step_of_part opens
step_of Else opens = step_of_part opens
step_of EndIf [] = Alone
step_of _ opens = Balanced

abbrev pub with_if : ℕ → List Open → List Open
with_if line opens = record { line = line; has_else = false } ∷ opens

abbrev pub with_else : List Open → List Open
with_else [] = []
with_else (o ∷ opens) = record { line = o.line; has_else = true } ∷ opens

-- the `if`s that are open behind a directive
abbrev pub opens_after : ℕ → DirectiveWord → List Open → List Open
opens_after line If opens = with_if line opens
opens_after line IfDefined opens = with_if line opens
opens_after line IfUndefined opens = with_if line opens
opens_after line Else opens = with_else opens
opens_after line EndIf opens = drop 1 opens
opens_after line _ opens = opens

-- the line of a directive that is out of place
abbrev pub fault_line : Step → ℕ → Option ℕ
fault_line Balanced line = None
fault_line _ line = Some line

-- the first line that is out of balance, from what is found behind the directive of this line
abbrev pub after_step : Step → ℕ → Option ℕ → Option ℕ
after_step Alone line behind = Some line
after_step step line behind = earlier (fault_line step line) behind

-- the first line that is out of balance: of a part or an end without its `if`, of a part behind an
-- `else`, or of an `if` without its end
unfoldable pub unbalanced_line : List ℕ → List Open → List Block → Option ℕ
unbalanced_line bytes opens [] = outermost opens
unbalanced_line bytes opens (Plain token ∷ blocks) = unbalanced_line bytes opens blocks
unbalanced_line bytes opens (Directive hash tokens ∷ blocks) =
    let word = directive_word bytes tokens in
    after_step (step_of word opens) hash.line (unbalanced_line bytes (opens_after hash.line word opens) blocks)
