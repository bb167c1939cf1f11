-- A file has one answer.
use Rattle.std.proofs.Common.{◌≡◌, sym, subst, ◌∙◌}
use Rattle.c_syntax.specs.declared.file.File.{File}
use Rattle.c_expr_rules.specs.Outcomes.{Broken, Checked, Fine, Breaks, Broke}
use Rattle.c_file_rules.specs.Files.{Tokens, Whole, Stops, file_answer}
use Rattle.c_file_rules.specs.Laws.{HasOneAnswer}

stops_once : {A : Type 0} (c : Checked A) (a b : Broken) → Stops c a → Stops c b → a ≡ b
stops_once (Fine s x) a b p q = absurd p
stops_once (Breaks broken s known) a b p q = sym p ∙ q
stops_once (Broke broken) a b p q = sym p ∙ q

pub one_answer : (t : Tokens) (file : File) → HasOneAnswer t file
one_answer t file =
    record {
      one = λ program broken p r. subst (λ (c : Checked Whole). Stops c broken) p.accepted r;
      same = λ a b p q. stops_once (file_answer t file) a b p q;
    }
