use Rattle.std.proofs.Common.{◌≡◌, ◌≤◌, ◌-◌, ℕ, List, [], ◌∷◌, ◌++◌, length, sym, subst, ◌∙◌}
use Rattle.std.specs.Prelude.{Ok, Err}
use Rattle.std.proofs.lemmas.Result.{err_from_is_err_and}
use Rattle.form_tree.specs.Plain.{plain_program}
use Rattle.form_tree.specs.Temps.{values_of}
use Rattle.form_reader.specs.declared.form.TheConstants.{MOST_NESTING, MOST_VALUES}
use Rattle.form_reader.specs.Lexemes.{Mark}
use Rattle.form_reader.specs.Grammar.{AreStmts, IsStmt}
use Rattle.form_reader.specs.Form.{IsMain, main_of}
use Rattle.form_reader.specs.Reading.{Reads, EndsBlock}
use Rattle.form_reader.proofs.Mains.{main_fits, declarations_fail, statements_fail, not_ended, the_main, too_many, is_main, ok_both, ok_map, just_known}
use Rattle.form_reader.proofs.program.main_function.Goals as goal

pub returns-then-not-takes_all-clause-only : goal.returns-then-not-takes_all-clause-only
returns-then-not-takes_all-clause-only c program m =
    c.takes_all.ensures.no c.if-not-takes_all.true m.head (m.declared ++ (m.statements ++ (Mark 125 m.end ∷ []))) m.spelled m.head_is

pub returns-in_err-declared-clause-only : goal.returns-in_err-declared-clause-only
returns-in_err-declared-clause-only c =
    let head = c.takes_all.ensures.yes c.if-not-takes_all.false in
    let p = err_from_is_err_and c.from_residual.result c.from_residual.ensures.1 in
    rw (p.1, p.2) (declarations_fail c.args.putchar c.args.tokens.now head.0 c.takes_all.new.tokens head.1 head.2 c.in_err-declared.field-0.0 c.declarations.new.tokens c.in_err-declared.ensures.only)

pub returns-in_err-body-clause-only : goal.returns-in_err-body-clause-only
returns-in_err-body-clause-only c =
    let head = c.takes_all.ensures.yes c.if-not-takes_all.false in
    let p = err_from_is_err_and c.from_residual-in_err-body.result c.from_residual-in_err-body.ensures.1 in
    let r = subst (λ (names : List (List ℕ)). Reads (AreStmts (IsStmt names c.args.putchar (MOST_NESTING - 1))) EndsBlock (Err c.in_err-body.field-0.0) c.declarations.new.tokens c.statements.new.tokens) c.names.ensures c.in_err-body.ensures in
    rw (p.1, p.2) (statements_fail c.args.putchar c.args.tokens.now head.0 c.takes_all.new.tokens head.1 head.2 c.in_ok-declared.declared c.declarations.new.tokens c.in_ok-declared.ensures.only c.in_err-body.field-0.0 c.statements.new.tokens r)

pub returns-then-not-ends-clause-only : goal.returns-then-not-ends-clause-only
returns-then-not-ends-clause-only c =
    let head = c.takes_all.ensures.yes c.if-not-takes_all.false in
    let r = subst (λ (names : List (List ℕ)). Reads (AreStmts (IsStmt names c.args.putchar (MOST_NESTING - 1))) EndsBlock (Ok c.in_ok-body.body) c.declarations.new.tokens c.statements.new.tokens) c.names.ensures c.in_ok-body.ensures in
    not_ended c.args.putchar c.args.tokens.now head.0 c.takes_all.new.tokens head.1 head.2 c.in_ok-declared.declared c.declarations.new.tokens c.in_ok-declared.ensures.only c.in_ok-body.body c.statements.new.tokens r (c.ends.ensures.no c.if-not-ends.true)

pub returns-clause-found : goal.returns-clause-found
returns-clause-found c =
    let head = c.takes_all.ensures.yes c.if-not-takes_all.false in
    let r = subst (λ (names : List (List ℕ)). Reads (AreStmts (IsStmt names c.args.putchar (MOST_NESTING - 1))) EndsBlock (Ok c.in_ok-body.body) c.declarations.new.tokens c.statements.new.tokens) c.names.ensures c.in_ok-body.ensures in
    let found = c.in_ok-declared.ensures.found in
    let end = c.ends.ensures.yes c.if-not-ends.false in
    ok_both c.program_of.result (λ p. p ≡ plain_program (main_of c.line-line.result (length c.in_ok-declared.declared.names) c.in_ok-declared.declared.locals c.in_ok-body.body ∷ []) 0) (λ p. values_of (main_of c.line-line.result (length c.in_ok-declared.declared.names) c.in_ok-declared.declared.locals c.in_ok-body.body) ≤ MOST_VALUES) (λ p. IsMain c.args.putchar p c.args.tokens.now) c.program_of.ensures.made c.program_of.ensures.values
    (λ p made within. is_main c.args.putchar c.args.tokens.now head.0 c.takes_all.new.tokens head.1 head.2 c.in_ok-declared.declared c.declarations.new.tokens c.in_ok-declared.ensures.only c.in_ok-body.body c.statements.new.tokens r c.line-line.result end.0 found.0 p c.line-line.ensures found.1 found.2 end.1 made within)

pub returns-clause-only : goal.returns-clause-only
returns-clause-only c =
    let head = c.takes_all.ensures.yes c.if-not-takes_all.false in
    let r = subst (λ (names : List (List ℕ)). Reads (AreStmts (IsStmt names c.args.putchar (MOST_NESTING - 1))) EndsBlock (Ok c.in_ok-body.body) c.declarations.new.tokens c.statements.new.tokens) c.names.ensures c.in_ok-body.ensures in
    λ program m.
    let k = the_main c.args.putchar c.args.tokens.now head.0 c.takes_all.new.tokens head.1 head.2 c.in_ok-declared.declared c.declarations.new.tokens c.in_ok-declared.ensures.only c.in_ok-body.body c.statements.new.tokens r c.line-line.result c.line-line.ensures program m in
    just_known c.program_of.result program (ok_map c.program_of.result (λ p. p ≡ plain_program (main_of c.line-line.result (length c.in_ok-declared.declared.names) c.in_ok-declared.declared.locals c.in_ok-body.body ∷ []) 0) (λ p. p ≡ program) c.program_of.ensures.made (λ p made. made ∙ sym k.1))
    (λ no. too_many c.args.putchar c.args.tokens.now head.0 c.takes_all.new.tokens head.1 head.2 c.in_ok-declared.declared c.declarations.new.tokens c.in_ok-declared.ensures.only c.in_ok-body.body c.statements.new.tokens r c.line-line.result c.line-line.ensures (c.program_of.ensures.refused no) program m)

pub program_of-requires-clause-fits : goal.program_of-requires-clause-fits
program_of-requires-clause-fits c =
    let found = c.in_ok-declared.ensures.found in
    let r = subst (λ (names : List (List ℕ)). Reads (AreStmts (IsStmt names c.args.putchar (MOST_NESTING - 1))) EndsBlock (Ok c.in_ok-body.body) c.declarations.new.tokens c.statements.new.tokens) c.names.ensures c.in_ok-body.ensures in
    main_fits c.in_ok-declared.declared found.0 c.in_ok-body.body r.found.0 c.args.putchar (MOST_NESTING - 1) found.1 r.found.1
