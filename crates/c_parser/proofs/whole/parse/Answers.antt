-- The refused token is one of the tokens as the grammar sees them, and its line is found by its number.
use Rattle.std.proofs.Common.{◌∙◌, List, subst}
use Rattle.c_parts.specs.Reading.{Syntax, Deep}
use Rattle.c_parts.specs.declared.lexeme.Lexeme.{Lexeme}
use Rattle.c_cursor.specs.Input.{start_of}
use Rattle.c_syntax.specs.Spelling.{IsRightlyRefused, files}
use Rattle.c_expr_parser.specs.declared.refusal.Refusal.{Refusal}
use Rattle.c_expr_parser.specs.Refusals.{IsRight}
use Rattle.c_parser.proofs.whole.parse.Goals as goal

pub returns-in-Err-Syntax-clause-fault : goal.returns-in-Err-Syntax-clause-fault
returns-in-Err-Syntax-clause-fault c = record {
  place = c.in-Err-Syntax.place;
  rightly =
      subst (λ (tokens : List Lexeme). IsRightlyRefused files Syntax (start_of tokens) tokens c.in-Err-Syntax.place) (c.deref.ensures.value ∙ c.in_ok-seen.ensures.list)
      (subst (λ (refusal : Refusal). IsRight files (start_of c.deref.result.now) c.deref.result.now refusal) c.in-Err-Syntax.field-0-is c.in-Err-Syntax.ensures.refused);
  line_is = c.line_at.ensures;
}

pub returns-in-Err-Deep-clause-fault : goal.returns-in-Err-Deep-clause-fault
returns-in-Err-Deep-clause-fault c = record {
  place = c.in-Err-Deep.place;
  rightly =
      subst (λ (tokens : List Lexeme). IsRightlyRefused files Deep (start_of tokens) tokens c.in-Err-Deep.place) (c.deref.ensures.value ∙ c.in_ok-seen.ensures.list)
      (subst (λ (refusal : Refusal). IsRight files (start_of c.deref.result.now) c.deref.result.now refusal) c.in-Err-Deep.field-0-is c.in-Err-Deep.ensures.refused);
  line_is = c.line_at-in-Err-Deep.ensures;
}
