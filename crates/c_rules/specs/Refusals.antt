-- The texts of the reasons why a file is refused: the one table, by which each fault is printed.
use Rattle.std.specs.Prelude.{ℕ, List, ◌++◌, codes}
use Rattle.std.specs.Fmt.{decimal}
use Rattle.c_rules.specs.declared.refusal.Refusal.{Refusal}
use Rattle.c_rules.specs.declared.refusal.RefusalKind.{RefusalKind}
use Rattle.c_rules.specs.declared.refusal.RefusalKind.TheVariants.{Bad, Unclosed, Literal, TooLong, Directive, Header, Unbalanced, Expanded, Syntax, Deep, Rule, Unfit, NotBuilt}
use Rattle.c_rules.specs.Rules.{text_of}

-- the text of a refusal
abbrev pub refusal_text : RefusalKind → List ℕ
refusal_text Bad = codes "bad character"
refusal_text Unclosed = codes "unclosed"
refusal_text Literal = codes "bad literal"
refusal_text TooLong = codes "file too long"
refusal_text Directive = codes "bad directive"
refusal_text Header = codes "unknown header"
refusal_text Unbalanced = codes "unbalanced conditional"
refusal_text Expanded = codes "too many tokens"
refusal_text Syntax = codes "syntax"
refusal_text Deep = codes "too deep"
refusal_text (Rule rule) = text_of rule
refusal_text Unfit = codes "unfit program"
refusal_text NotBuilt = codes "not built"

-- the text with its line
abbrev pub refusal_at_line : Refusal → List ℕ
refusal_at_line refusal = refusal_text refusal.kind ++ (codes " at line " ++ decimal refusal.line)
