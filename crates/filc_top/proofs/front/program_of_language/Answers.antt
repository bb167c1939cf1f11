-- A fault of the parser or of the checker is a refusal of the file, and what the four phases give is its program.
use Rattle.std.proofs.Common.{subst, sym}
use Rattle.c_tree.specs.Fits.{IsProgram}
use Rattle.c_check.specs.Answers.{IsRefusal}
use Rattle.c_file_rules.specs.Files.{IsProgramOf}
use Rattle.checked_program.specs.Parts.{program_in}
use Rattle.filc_top.proofs.Causes.{parser_ended, checker_ended, unfit_ended, tree_spelled, of_meaning}
use Rattle.filc_top.specs.Checking.{meaning}
use Rattle.filc_top.proofs.front.program_of_language.Goals as goal

pub returns-in_err-tree-clause-ended : goal.returns-in_err-tree-clause-ended
returns-in_err-tree-clause-ended c =
    let read = c.in_ok-tokens in
    parser_ended c.args.file.now read.tokens.bytes.items read.tokens.list.items c.in_err-tree.field-0.0 c.from_residual-in_err-tree.result
    read.ensures.bytes read.ensures.list c.in_err-tree.ensures.fault c.from_residual-in_err-tree.ensures.1

pub returns-in_err-checked-clause-ended : goal.returns-in_err-checked-clause-ended
returns-in_err-checked-clause-ended c =
    let read = c.in_ok-tokens in
    let has = tree_spelled c.args.file.now read.tokens.bytes.items read.tokens.list.items c.in_ok-tree.tree read.ensures.bytes read.ensures.list c.in_ok-tree.ensures.tree in
    let is = of_meaning c.args.file.now read.tokens.bytes.items read.tokens.list.items (λ t. IsRefusal t c.in_ok-tree.tree c.in_err-checked.field-0.0) read.ensures.bytes c.in_err-checked.ensures.refused in
    checker_ended c.args.file.now read.tokens.list.items c.in_ok-tree.tree c.in_err-checked.field-0.0 c.from_residual-in_err-checked.result has is
    c.from_residual-in_err-checked.ensures.1

pub returns-in_err-program-clause-ended : goal.returns-in_err-program-clause-ended
returns-in_err-program-clause-ended c =
    let read = c.in_ok-tokens in
    let made = program_in c.in_ok-checked.checked in
    let has = tree_spelled c.args.file.now read.tokens.bytes.items read.tokens.list.items c.in_ok-tree.tree read.ensures.bytes read.ensures.list c.in_ok-tree.ensures.tree in
    let is = of_meaning c.args.file.now read.tokens.bytes.items read.tokens.list.items (λ t. IsProgramOf t c.in_ok-tree.tree made) read.ensures.bytes c.in_ok-checked.ensures.checked in
    unfit_ended c.args.file.now read.tokens.list.items c.in_ok-tree.tree made c.in_err-program.field-0.0 c.from_residual-in_err-program.result has is
    c.in_err-program.ensures.unfit c.from_residual-in_err-program.ensures.1

pub returns-clause-program : goal.returns-clause-program
returns-clause-program c =
    let read = c.in_ok-tokens in
    let is = of_meaning c.args.file.now read.tokens.bytes.items read.tokens.list.items (λ t. IsProgramOf t c.in_ok-tree.tree (program_in c.in_ok-checked.checked)) read.ensures.bytes c.in_ok-checked.ensures.checked in
    record {
      tokens = read.tokens.list.items;
      tree = c.in_ok-tree.tree;
      has_tree = tree_spelled c.args.file.now read.tokens.bytes.items read.tokens.list.items c.in_ok-tree.tree read.ensures.bytes read.ensures.list c.in_ok-tree.ensures.tree;
      is_program = subst (λ p. IsProgramOf (meaning c.args.file.now read.tokens.list.items) c.in_ok-tree.tree p) (sym c.in_ok-program.ensures.program) is;
      fits = subst IsProgram (sym c.in_ok-program.ensures.program) c.in_ok-program.ensures.fits;
    }
