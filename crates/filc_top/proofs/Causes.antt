-- Each step's ending is a cause, and what was read of a file tells what the whole file is.
use Rattle.std.proofs.Common.{◌≡◌, ℕ, ◌≤◌, ◌<◌, Bool, true, false, List, [], length, take, refl, sym, ap, subst, ◌∙◌, arith, rules}
use Rattle.std.specs.Prelude.{Option, Some, None, Result, Ok, Err, IfSome, IsSomeAnd, IfErr, IsErrAnd, nat_lt, cond}
use Rattle.std.proofs.lemmas.List.{take_all, length-take}
use Rattle.filc_io.specs.Outside.{FilesState, file_named}
use Rattle.filc_io.specs.declared.outside.TheConstants.{MOST_READ}
use Rattle.form_tree.specs.Plain.{PlainProgram}
use Rattle.form_reader.specs.Form.{HasForm}
use Rattle.c_rules.specs.declared.refusal.Refusal.{Refusal}
use Rattle.c_rules.specs.declared.refusal.RefusalKind.TheVariants as kind
use Rattle.c_lexer.specs.Source.{without_splices, last_line_of, lines_of}
use Rattle.c_lexer.specs.Tokens.{file_limit, tokens_from, user}
use Rattle.c_lexer.specs.declared.fault.LexFault.TheVariants as lexer
use Rattle.c_front.specs.Phases.{refusal, behind_lexer, expanded_tokens_of}
use Rattle.c_lexer.specs.declared.token.Token.{Token}
use Rattle.c_syntax.specs.declared.file.File.{File}
use Rattle.c_parser.specs.Parse.{IsFault, IsTree}
use Rattle.c_parser.specs.declared.fault.ParseFault.{ParseFault}
use Rattle.c_parser.specs.declared.fault.ParseFault.TheVariants as parser
use Rattle.c_rules.specs.declared.fault.CheckFault.{CheckFault}
use Rattle.c_rules.specs.declared.fault.CheckFault.TheVariants as check
use Rattle.c_check.specs.Answers.{IsRefusal}
use Rattle.c_check.specs.Rounds.{tokens_of}
use Rattle.c_file_rules.specs.Files.{Tokens, IsProgramOf}
use Rattle.c_tree.specs.Plain.{PlainProgram as PlainProgramOfFile}
use Rattle.checked_program.specs.Parts.{IsUnfit as IsUnfitProgram}
use Rattle.checked_program.specs.declared.Unfit.{Unfit}
use Rattle.checked_program.specs.declared.Unfit.TheVariants as parts
use Rattle.filc_top.specs.Checking.{token_bytes, meaning, HasTree, HasProgram, IsTextOfCheck, IsRefusedFile, before_parser, by_parser, by_rule, unfit}
use Rattle.filc_top.specs.Coding.{HasListing}
use Rattle.filc_top.specs.Commands.{IsRun, IsCheck, IsCode, LooksAt, to_check, to_code, IsNoCommand, IsCommandOf}
use Rattle.filc_top.specs.Endings.{not_built, of_parser, of_checker, of_unfit}
use Rattle.filc_top.specs.declared.command.Command.{Command}
use Rattle.filc_top.specs.declared.command.Command.TheVariants.{Run, Check, Code}
use Rattle.filc_top.specs.Headline.{IsFile, NamesFile, to_run, to_look, IsCause, unread, refused, looked_at, accepted, listed, ran, no_memory}
use Rattle.filc_top.specs.Steps.{name_in, HasRead, EndsReading, EndsFrontEnd, EndsLooking, EndsCheck, EndsCode, RunsForm}
use Rattle.filc_top.specs.declared.ending.Ending.{Ending}
use Rattle.filc_top.specs.declared.ending.Ending.TheVariants as ending

-- as far as the files are told, what was read is the front of the file
pub told_file :
    (files : FilesState) (name read : List ℕ) → length read ≤ MOST_READ →
    IfSome files.contents (λ all. IsSomeAnd (file_named name all) (λ bytes. read ≡ take MOST_READ bytes)) →
    HasRead files name read
told_file files name read short told = of files.contents refl told
  where
    named :
        (all : List (List ℕ × List ℕ)) → files.contents ≡ Some all → (found : Option (List ℕ)) →
        file_named name all ≡ found → IsSomeAnd found (λ bytes. read ≡ take MOST_READ bytes) →
        HasRead files name read
    named all are None is told = absurd told
    named all are (Some bytes) is told = record { file = bytes; file_is = subst (λ contents. IsFile contents name bytes) (sym are) is; front = told }

    of :
        (contents : Option (List (List ℕ × List ℕ))) → files.contents ≡ contents →
        IfSome contents (λ all. IsSomeAnd (file_named name all) (λ bytes. read ≡ take MOST_READ bytes)) →
        HasRead files name read
    of None are told = record { file = read; file_is = subst (λ contents. IsFile contents name read) (sym are) tt; front = sym (take_all MOST_READ read short) }
    of (Some all) are told = named all are (file_named name all) refl told

-- a file of the form is read whole
read_whole : (file read : List ℕ) (program : PlainProgram) → read ≡ take MOST_READ file → HasForm file program → HasForm read program
read_whole file read program is form =
    subst (λ (bytes : List ℕ). HasForm bytes program) (sym (is ∙ take_all MOST_READ file (omega (arith, form.size)))) form

whole_read : (file read : List ℕ) (program : PlainProgram) → read ≡ take MOST_READ file → HasForm read program → HasForm file program
whole_read file read program is form =
    let short : length file ≤ MOST_READ = omega (arith, form.size, ap length is, length-take MOST_READ file) in
    subst (λ (bytes : List ℕ). HasForm bytes program) (is ∙ take_all MOST_READ file short) form

lt_holds : (a b : ℕ) → nat_lt a b ≡ true → a < b
lt_holds a b e = search rules

lt_fails : (a b : ℕ) → nat_lt a b ≡ false → b ≤ a
lt_fails a b e = search rules

err_is_no_ok : {A B : Type 0} (a : A) (b : B) → Err b ≡ Ok a → ⊥
err_is_no_ok a b e = cc

-- a file that is too long is refused by its length alone
too_long : (file : List ℕ) → file_limit < length file → expanded_tokens_of file ≡ Err (refusal kind.TooLong 1)
too_long file long =
    let is : nat_lt file_limit (length file) ≡ true = search rules in
    ap (λ (b : Bool). behind_lexer (without_splices file)
    (cond b (Err lexer.TooLong) (tokens_from user.library (last_line_of user.library user.line file) (lines_of user.library user.line file) 0 true 0 (without_splices file)))) is

-- what is read of a file is refused as the file is
module _ (file read : List ℕ) (refused_for : Refusal) (is : read ≡ take MOST_READ file) where
  long_refusal : file_limit < length file → IsRefusedFile read refused_for → IsRefusedFile file refused_for
  long_refusal long why = by why
    where
      read_long : file_limit < length read
      read_long = omega (arith, long, ap length is, length-take MOST_READ file)

      by : IsRefusedFile read refused_for → IsRefusedFile file refused_for
      by (before_parser e) = before_parser (too_long file long ∙ sym (too_long read read_long) ∙ e)
      by (by_parser tokens fault e is_fault same) = let no = too_long read read_long in absurd (err_is_no_ok _ _ (sym no ∙ e))
      by (by_rule tokens tree rule line has_tree is_refused same) =
          let no = too_long read read_long in
          absurd (err_is_no_ok _ _ (sym no ∙ has_tree.expanded))
      by (unfit tokens tree has_tree is_unfit same) =
          let no = too_long read read_long in
          absurd (err_is_no_ok _ _ (sym no ∙ has_tree.expanded))

  pub whole_refusal : IsRefusedFile read refused_for → IsRefusedFile file refused_for
  whole_refusal why = by (nat_lt file_limit (length file)) refl
    where
      by : (b : Bool) → nat_lt file_limit (length file) ≡ b → IsRefusedFile file refused_for
      by true long = long_refusal (lt_holds file_limit (length file) long) why
      by false short =
          let few : length file ≤ file_limit = lt_fails file_limit (length file) short in
          subst (λ (bytes : List ℕ). IsRefusedFile bytes refused_for) (is ∙ take_all MOST_READ file (omega (arith, few))) why

-- what is read of a file is tokens only where that is the whole file
module _ (file read : List ℕ) (tokens : List Token) (is : read ≡ take MOST_READ file) (expanded : expanded_tokens_of read ≡ Ok tokens) where
  pub read_is_file : read ≡ file
  read_is_file = by (nat_lt file_limit (length file)) refl
    where
      by : (b : Bool) → nat_lt file_limit (length file) ≡ b → read ≡ file
      by true long =
          let past : file_limit < length file = lt_holds file_limit (length file) long in
          let no = too_long read (omega (arith, past, ap length is, length-take MOST_READ file)) in
          absurd (err_is_no_ok _ _ (sym no ∙ expanded))
      by false short =
          let few : length file ≤ file_limit = lt_fails file_limit (length file) short in
          is ∙ take_all MOST_READ file (omega (arith, few))

-- so what is read is the text of a check, or has a listing, only where the file has it
pub whole_text : (file read text : List ℕ) → read ≡ take MOST_READ file → IsTextOfCheck read text → IsTextOfCheck file text
whole_text file read text is said =
    let has = said.is_program in
    subst (λ (bytes : List ℕ). IsTextOfCheck bytes text) (read_is_file file read has.tokens is has.has_tree.expanded) said

pub whole_listing : (file read text : List ℕ) → read ≡ take MOST_READ file → HasListing read text → HasListing file text
whole_listing file read text is said =
    let has = said.is_program in
    subst (λ (bytes : List ℕ). HasListing bytes text) (read_is_file file read has.tokens is has.has_tree.expanded) said

-- the bytes of the tokens are those of the file's tokens, so what was said of the tokens is said of the file
pub tree_spelled :
    (file bytes : List ℕ) (tokens : List Token) (tree : File) → bytes ≡ token_bytes file → expanded_tokens_of file ≡ Ok tokens →
    IsTree bytes tokens tree → HasTree file tokens tree
tree_spelled file bytes tokens tree same expanded is =
    record { expanded = expanded; spelled = subst (λ (b : List ℕ). IsTree b tokens tree) same is }

pub of_meaning :
    (file bytes : List ℕ) (tokens : List Token) (P : Tokens → Type 0) → bytes ≡ token_bytes file →
    P (tokens_of (record { bytes = bytes; list = tokens })) → P (meaning file tokens)
of_meaning file bytes tokens P same is =
    subst (λ (b : List ℕ). P (tokens_of (record { bytes = b; list = tokens }))) same is

-- a fault of the parser refuses the file, or is want of memory
pub parser_ends :
    (file bytes : List ℕ) (tokens : List Token) (fault : ParseFault) → bytes ≡ token_bytes file →
    expanded_tokens_of file ≡ Ok tokens → IsFault bytes tokens fault → EndsLooking file (of_parser fault)
parser_ends file bytes tokens fault same e is = by fault (subst (λ (b : List ℕ). IsFault b tokens fault) same is)
  where
    by : (fault : ParseFault) → IsFault (token_bytes file) tokens fault → EndsLooking file (of_parser fault)
    by (parser.Syntax line) is = by_parser tokens (parser.Syntax line) e is refl
    by (parser.Deep line) is = by_parser tokens (parser.Deep line) e is refl
    by parser.NoMemory is = tt

-- and so does one of the checker
pub checker_ends :
    (file : List ℕ) (tokens : List Token) (tree : File) (fault : CheckFault) → HasTree file tokens tree →
    IsRefusal (meaning file tokens) tree fault → EndsLooking file (of_checker fault)
checker_ends file tokens tree (check.Rule line rule) has is = by_rule tokens tree rule line has is refl
checker_ends file tokens tree check.NoMemory has is = tt

-- and so does a program that isn't one
pub unfit_ends :
    (file : List ℕ) (tokens : List Token) (tree : File) (program : PlainProgramOfFile) (fault : Unfit) → HasTree file tokens tree →
    IsProgramOf (meaning file tokens) tree program → IsUnfitProgram program fault → EndsLooking file (of_unfit fault)
unfit_ends file tokens tree program parts.Parts has is why =
    unfit tokens tree has (record { program = program; is_program = is; unfit = why }) refl
unfit_ends file tokens tree program parts.NoMemory has is why = tt

if_err_and : {T E : Type 0} (r : Result T E) (P Q : E → Type 0) → IsErrAnd r P → ((e : E) → P e → Q e) → IfErr r Q
if_err_and (Ok x) P Q h f = tt
if_err_and (Err e) P Q h f = f e h

-- the same of results whose faults are made from theirs
pub parser_ended :
    {T : Type 0} (file bytes : List ℕ) (tokens : List Token) (fault : ParseFault) (r : Result T Ending) → bytes ≡ token_bytes file →
    expanded_tokens_of file ≡ Ok tokens → IsFault bytes tokens fault → IsErrAnd r (λ ending. ending ≡ of_parser fault) → IfErr r (EndsLooking file)
parser_ended file bytes tokens fault r same e is gives =
    if_err_and r _ (EndsLooking file) gives (λ ending h. subst (EndsLooking file) (sym h) (parser_ends file bytes tokens fault same e is))

pub checker_ended :
    {T : Type 0} (file : List ℕ) (tokens : List Token) (tree : File) (fault : CheckFault) (r : Result T Ending) → HasTree file tokens tree →
    IsRefusal (meaning file tokens) tree fault → IsErrAnd r (λ ending. ending ≡ of_checker fault) → IfErr r (EndsLooking file)
checker_ended file tokens tree fault r has is gives =
    if_err_and r _ (EndsLooking file) gives (λ ending h. subst (EndsLooking file) (sym h) (checker_ends file tokens tree fault has is))

pub unfit_ended :
    {T : Type 0} (file : List ℕ) (tokens : List Token) (tree : File) (program : PlainProgramOfFile) (fault : Unfit) (r : Result T Ending) →
    HasTree file tokens tree → IsProgramOf (meaning file tokens) tree program → IsUnfitProgram program fault →
    IsErrAnd r (λ ending. ending ≡ of_unfit fault) → IfErr r (EndsLooking file)
unfit_ended file tokens tree program fault r has is why gives =
    if_err_and r _ (EndsLooking file) gives
    (λ ending h. subst (EndsLooking file) (sym h) (unfit_ends file tokens tree program fault has is why))

-- where nothing is put out, looking at a file ends its check and its listing
pub check_ends : (file : List ℕ) (cause : Ending) (output : List ℕ) → EndsLooking file cause → output ≡ [] → EndsCheck file cause output
check_ends file (ending.Refused refusal) output why none = (why, none)
check_ends file ending.NoMemory output why none = (why, none)
check_ends file other output why none = absurd why

pub code_ends : (file : List ℕ) (cause : Ending) (output : List ℕ) → EndsLooking file cause → output ≡ [] → EndsCode file cause output
code_ends file (ending.Refused refusal) output why none = (why, none)
code_ends file ending.NoMemory output why none = (why, none)
code_ends file other output why none = absurd why

-- ---- the command

pub names_file : (words : List (List ℕ)) (command : Command) (named : List ℕ) → IsCommandOf words (Some command) → named ≡ name_in command → NamesFile words named
names_file words (Run name turns) named is same = subst (NamesFile words) (sym same) (to_run turns is)
names_file words (Check name) named is same = subst (NamesFile words) (sym same) (to_look (to_check is))
names_file words (Code name) named is same = subst (NamesFile words) (sym same) (to_look (to_code is))

pub is_command : (words : List (List ℕ)) (command : Command) → IsCommandOf words (Some command) → IsNoCommand words → ⊥
is_command words (Run name turns) is none = none.runs_none name.now turns is
is_command words (Check name) is none = none.checks_none name.now is
is_command words (Code name) is none = none.lists_none name.now is

-- the command runs a file for so many turns
abbrev pub RunsFor : Command → ℕ → Type 0
RunsFor (Run name n) turns = turns ≡ n
RunsFor (Check name) turns = ⊥
RunsFor (Code name) turns = ⊥

pub run_named : (words : List (List ℕ)) (command : Command) (named : List ℕ) (turns : ℕ) → IsCommandOf words (Some command) → named ≡ name_in command → RunsFor command turns → IsRun words named turns
run_named words (Run name n) named turns is same so_many =
    subst (λ (x : List ℕ). IsRun words x turns) (sym same) (subst (IsRun words name.now) (sym so_many) is)
run_named words (Check name) named turns is same so_many = absurd so_many
run_named words (Code name) named turns is same so_many = absurd so_many

abbrev pub Checks : Command → Type 0
Checks (Run name n) = ⊥
Checks (Check name) = Unit {0}
Checks (Code name) = ⊥

pub check_named : (words : List (List ℕ)) (command : Command) (named : List ℕ) → IsCommandOf words (Some command) → named ≡ name_in command → Checks command → IsCheck words named
check_named words (Run name n) named is same checks = absurd checks
check_named words (Check name) named is same checks = subst (IsCheck words) (sym same) is
check_named words (Code name) named is same checks = absurd checks

abbrev pub Lists : Command → Type 0
Lists (Run name n) = ⊥
Lists (Check name) = ⊥
Lists (Code name) = Unit {0}

pub code_named : (words : List (List ℕ)) (command : Command) (named : List ℕ) → IsCommandOf words (Some command) → named ≡ name_in command → Lists command → IsCode words named
code_named words (Run name n) named is same lists = absurd lists
code_named words (Check name) named is same lists = absurd lists
code_named words (Code name) named is same lists = subst (IsCode words) (sym same) is

-- ---- the causes

module _ (words : List (List ℕ)) (old new : FilesState) (name : List ℕ) where
  pub cause_of_reading : NamesFile words name → (cause : Ending) (output : List ℕ) → EndsReading old new name cause → output ≡ [] → IsCause words old new cause output
  cause_of_reading names ending.ReadFault output why none =
      unread (record { name = name; words_are = names; why = why }) (record { cause_is = refl; output_is = none })
  cause_of_reading names ending.NoMemory output why none =
      no_memory (record { name = name; words_are = names }) (record { cause_is = refl; output_is = none })
  cause_of_reading names other output why none = absurd why

  module _ (read : List ℕ) (has_read : HasRead old name read) where
    module _ (turns : ℕ) (is_run : IsRun words name turns) where
      pub cause_of_front_end : (cause : Ending) (output : List ℕ) → EndsFrontEnd read cause → output ≡ [] → IsCause words old new cause output
      cause_of_front_end (ending.Refused refusal) output why none =
          refused
          (record {
            file = has_read.file;
            turns = turns;
            file_is = record { name = name; words_are = is_run; file_is = has_read.file_is };
            no_form = λ program form. why.1 program (read_whole has_read.file read program has_read.front form);
          })
          (record { cause_is = ap (λ r. ending.Refused r) why.0; output_is = none })
      cause_of_front_end ending.NoMemory output why none =
          no_memory (record { name = name; words_are = to_run turns is_run }) (record { cause_is = refl; output_is = none })
      cause_of_front_end other output why none = absurd why

      pub cause_of_run : (cause : Ending) (output : List ℕ) → RunsForm read turns cause output → IsCause words old new cause output
      cause_of_run cause output runs =
          ran
          (record {
            file = has_read.file;
            turns = turns;
            program = runs.program;
            file_is = record { name = name; words_are = is_run; file_is = has_read.file_is };
            form = whole_read has_read.file read runs.program has_read.front runs.form;
            run = runs.run;
          })

    -- what looks at the file and puts nothing out
    cause_of_looking : LooksAt words name → (cause : Ending) (output : List ℕ) → EndsLooking read cause → output ≡ [] → IsCause words old new cause output
    cause_of_looking looks (ending.Refused refusal) output why none =
        looked_at refusal
        (record {
          name = name;
          file = has_read.file;
          words_are = looks;
          file_is = has_read.file_is;
          why = whole_refusal has_read.file read refusal has_read.front why;
        })
        (record { cause_is = refl; output_is = none })
    cause_of_looking looks ending.NoMemory output why none =
        no_memory (record { name = name; words_are = to_look looks }) (record { cause_is = refl; output_is = none })
    cause_of_looking looks other output why none = absurd why

    pub cause_of_check : IsCheck words name → (cause : Ending) (output : List ℕ) → EndsCheck read cause output → IsCause words old new cause output
    cause_of_check is_check ending.Listed output said =
        accepted
        (record {
          name = name;
          file = has_read.file;
          words_are = is_check;
          file_is = has_read.file_is;
          text = whole_text has_read.file read output has_read.front said;
        })
        refl
    cause_of_check is_check (ending.Refused refusal) output (why, none) = cause_of_looking (to_check is_check) (ending.Refused refusal) output why none
    cause_of_check is_check ending.NoMemory output (why, none) = cause_of_looking (to_check is_check) ending.NoMemory output why none
    cause_of_check is_check other output said = absurd said.0

    pub cause_of_code : IsCode words name → (cause : Ending) (output : List ℕ) → EndsCode read cause output → IsCause words old new cause output
    cause_of_code is_code ending.Listed output said =
        listed
        (record {
          name = name;
          file = has_read.file;
          words_are = is_code;
          file_is = has_read.file_is;
          text = whole_listing has_read.file read output has_read.front said;
        })
        refl
    cause_of_code is_code (ending.Refused refusal) output (why, none) = cause_of_looking (to_code is_code) (ending.Refused refusal) output why none
    cause_of_code is_code ending.NoMemory output (why, none) = cause_of_looking (to_code is_code) ending.NoMemory output why none
    cause_of_code is_code other output said = absurd said.0
