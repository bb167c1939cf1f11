-- How each step ends the call is a cause of it.
use Rattle.std.proofs.Common.{List, ℕ, map, sym, subst}
use Rattle.filc_top.specs.declared.command.Command.{Command}
use Rattle.filc_top.specs.Steps.{EndsFrontEnd, EndsCheck, EndsCode, RunsForm}
use Rattle.filc_top.proofs.Causes.{names_file, is_command, RunsFor, run_named, Checks, check_named, Lists, code_named, cause_of_reading, cause_of_front_end, cause_of_run, cause_of_check, cause_of_code}
use Rattle.filc_top.proofs.call.cause_of.Goals as goal

pub returns-in-Err-clause-caused : goal.returns-in-Err-clause-caused
returns-in-Err-clause-caused g c =
    let words = map (λ word. word.now) c.args.words.now in
    let named = c.name_of.result.now in
    cause_of_reading words (g.F.Files.state c.args.files.now) (g.F.Files.state c.front_of_file.new.files) named
    (names_file words c.in-Some.command named c.in-Some.ensures c.name_of.ensures) c.in-Err.cause c.args.output.now.items c.in-Err.ensures.ended c.requires

pub returns-in-Err-clause-no_file : goal.returns-in-Err-clause-no_file
returns-in-Err-clause-no_file g c none = absurd (is_command (map (λ word. word.now) c.args.words.now) c.in-Some.command c.in-Some.ensures none)

pub returns-in-Ok-run_of_file-clause-caused : goal.returns-in-Ok-run_of_file-clause-caused
returns-in-Ok-run_of_file-clause-caused g c =
    let words = map (λ word. word.now) c.args.words.now in
    let named = c.name_of.result.now in
    let turns_are = c.in-Run.turns-is in
    let runs = subst (λ (x : Command). RunsFor x c.in-Run.turns) (sym c.in-Run.is) cc in
    cause_of_run words (g.F.Files.state c.args.files.now) (g.F.Files.state c.front_of_file.new.files) named c.in-Ok.file.items c.in-Ok.ensures.read c.in-Run.turns
    (run_named words c.in-Some.command named c.in-Run.turns c.in-Some.ensures c.name_of.ensures runs) c.in-Ok-run_of_file.ending c.run_of_file.new.output.items
    (subst (λ (file : List ℕ). RunsForm file c.in-Run.turns c.in-Ok-run_of_file.ending c.run_of_file.new.output.items) c.deref.ensures.value c.in-Ok-run_of_file.ensures.ran)

pub returns-in-Ok-run_of_file-clause-no_file : goal.returns-in-Ok-run_of_file-clause-no_file
returns-in-Ok-run_of_file-clause-no_file g c none = absurd (is_command (map (λ word. word.now) c.args.words.now) c.in-Some.command c.in-Some.ensures none)

pub returns-in-Run-clause-caused : goal.returns-in-Run-clause-caused
returns-in-Run-clause-caused g c =
    let words = map (λ word. word.now) c.args.words.now in
    let named = c.name_of.result.now in
    let turns_are = c.in-Run.turns-is in
    let runs = subst (λ (x : Command). RunsFor x c.in-Run.turns) (sym c.in-Run.is) cc in
    cause_of_front_end words (g.F.Files.state c.args.files.now) (g.F.Files.state c.front_of_file.new.files) named c.in-Ok.file.items c.in-Ok.ensures.read c.in-Run.turns
    (run_named words c.in-Some.command named c.in-Run.turns c.in-Some.ensures c.name_of.ensures runs) c.in-Err-run_of_file.cause c.run_of_file.new.output.items
    (subst (λ (file : List ℕ). EndsFrontEnd file c.in-Err-run_of_file.cause) c.deref.ensures.value c.in-Err-run_of_file.ensures.ended) c.in-Err-run_of_file.ensures.silent

pub returns-in-Run-clause-no_file : goal.returns-in-Run-clause-no_file
returns-in-Run-clause-no_file g c none = absurd (is_command (map (λ word. word.now) c.args.words.now) c.in-Some.command c.in-Some.ensures none)

pub returns-in-Check-clause-caused : goal.returns-in-Check-clause-caused
returns-in-Check-clause-caused g c =
    let words = map (λ word. word.now) c.args.words.now in
    let named = c.name_of.result.now in
    let checks = subst (λ (x : Command). Checks x) (sym c.in-Check.is) tt in
    cause_of_check words (g.F.Files.state c.args.files.now) (g.F.Files.state c.front_of_file.new.files) named c.in-Ok.file.items c.in-Ok.ensures.read
    (check_named words c.in-Some.command named c.in-Some.ensures c.name_of.ensures checks) c.check_of_file.result c.check_of_file.new.output.items
    (subst (λ (file : List ℕ). EndsCheck file c.check_of_file.result c.check_of_file.new.output.items) c.deref-in-Check.ensures.value c.check_of_file.ensures)

pub returns-clause-caused : goal.returns-clause-caused
returns-clause-caused g c =
    let words = map (λ word. word.now) c.args.words.now in
    let named = c.name_of.result.now in
    let lists = subst (λ (x : Command). Lists x) (sym c.in-Code.is) tt in
    cause_of_code words (g.F.Files.state c.args.files.now) (g.F.Files.state c.front_of_file.new.files) named c.in-Ok.file.items c.in-Ok.ensures.read
    (code_named words c.in-Some.command named c.in-Some.ensures c.name_of.ensures lists) c.code_of_file.result c.code_of_file.new.output.items
    (subst (λ (file : List ℕ). EndsCode file c.code_of_file.result c.code_of_file.new.output.items) c.deref-in-Code.ensures.value c.code_of_file.ensures)

pub returns-in-Check-clause-no_file : goal.returns-in-Check-clause-no_file
returns-in-Check-clause-no_file g c none = absurd (is_command (map (λ word. word.now) c.args.words.now) c.in-Some.command c.in-Some.ensures none)
