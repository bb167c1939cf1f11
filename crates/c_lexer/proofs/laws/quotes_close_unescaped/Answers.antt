use Rattle.c_lexer.proofs.LawProofs.{quotes_close_unescaped}
use Rattle.c_lexer.proofs.laws.quotes_close_unescaped.Goals as goal

pub returns : goal.returns
returns c = quotes_close_unescaped
