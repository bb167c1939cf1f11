-- A file is read twice.
use Rattle.std.proofs.Common.{refl, ap, ◌∙◌}
use Rattle.c_rules.specs.declared.fault.CheckFault.TheVariants as fault
use Rattle.c_tree.specs.Plain.{plain_program}
use Rattle.c_expr_rules.specs.Views.{seen_state}
use Rattle.c_file_rules.specs.Files.{functions_in}
use Rattle.c_file_rules.specs.Kinds.{types_of_functions}
use Rattle.c_file_rules.specs.Operations.{thread_type}
use Rattle.c_check.specs.Answers.{IsRefusal}
use Rattle.c_check.specs.Known.{taken_lists}
use Rattle.c_check.specs.Rounds.{tokens_of}
use Rattle.c_check.specs.Tokens.{plain_tokens}
use Rattle.c_check.proofs.Handing.{hands_on}
use Rattle.c_check.proofs.Readings.{IsKnown, both_accept, first_refuses, last_refuses}
use Rattle.c_check.proofs.whole.check.Goals as goal

pub returns-in_err-first-clause-refused : goal.returns-in_err-first-clause-refused
returns-in_err-first-clause-refused c =
    let t = plain_tokens c.args.tokens.now in
    let f = c.in_err-first.field-0.0 in
    hands_on (IsRefusal (tokens_of t) c.args.file.now) c.from_residual-in_err-first.result f c.from_residual-in_err-first.ensures.1
    (first_refuses t c.args.file.now c.in_ok-facts.facts.kinds f c.in_ok-facts.ensures.kinds c.in_err-first.ensures.refused)

pub returns-in_err-last-clause-refused : goal.returns-in_err-last-clause-refused
returns-in_err-last-clause-refused c =
    let t = plain_tokens c.args.tokens.now in
    let first = c.in_ok-first.first in
    let f = c.in_err-last.field-0.0 in
    let known : IsKnown t c.args.file.now first c.in_ok-facts.facts.kinds c.in_ok-known.known.kinds c.as_slice-homes.result.now =
    record {
      own = c.in_ok-facts.ensures.kinds;
      found = c.in_ok-first.ensures.reading;
      homes_are = c.as_slice-homes.ensures.value ∙ c.in_ok-known.ensures.homes ∙ ap taken_lists c.as_slice.ensures.value;
      kinds_are =
          c.in_ok-known.ensures.kinds
          ∙ ap (λ list. types_of_functions (thread_type (seen_state first.state).table) (functions_in list)) c.as_slice.ensures.value;
    } in
    hands_on (IsRefusal (tokens_of t) c.args.file.now) c.from_residual-in_err-last.result f c.from_residual-in_err-last.ensures.1
    (last_refuses t c.args.file.now first c.in_ok-facts.facts.kinds c.in_ok-known.known.kinds c.as_slice-homes.result.now f known
    c.in_err-last.ensures.refused)

pub returns-clause-checked : goal.returns-clause-checked
returns-clause-checked c =
    let t = plain_tokens c.args.tokens.now in
    let first = c.in_ok-first.first in
    let last = c.in_ok-last.last in
    let known : IsKnown t c.args.file.now first c.in_ok-facts.facts.kinds c.in_ok-known.known.kinds c.as_slice-homes.result.now =
    record {
      own = c.in_ok-facts.ensures.kinds;
      found = c.in_ok-first.ensures.reading;
      homes_are = c.as_slice-homes.ensures.value ∙ c.in_ok-known.ensures.homes ∙ ap taken_lists c.as_slice.ensures.value;
      kinds_are =
          c.in_ok-known.ensures.kinds
          ∙ ap (λ list. types_of_functions (thread_type (seen_state first.state).table) (functions_in list)) c.as_slice.ensures.value;
    } in
    both_accept t c.args.file.now first last c.in_ok-facts.facts.kinds c.in_ok-known.known.kinds c.as_slice-homes.result.now
    (plain_program c.in_ok-functions.functions.items c.in_ok-statics.statics.items last.main) known c.in_ok-last.ensures.reading
    c.in_ok-functions.ensures c.in_ok-statics.ensures refl

pub returns-in_err-statics-clause-refused : goal.returns-in_err-statics-clause-refused
returns-in_err-statics-clause-refused c =
    hands_on (IsRefusal (tokens_of (plain_tokens c.args.tokens.now)) c.args.file.now) c.from_residual-in_err-statics.result fault.NoMemory
    c.from_residual-in_err-statics.ensures.1 tt

pub returns-in_err-functions-clause-refused : goal.returns-in_err-functions-clause-refused
returns-in_err-functions-clause-refused c =
    hands_on (IsRefusal (tokens_of (plain_tokens c.args.tokens.now)) c.args.file.now) c.from_residual-in_err-functions.result fault.NoMemory
    c.from_residual-in_err-functions.ensures.1 tt
