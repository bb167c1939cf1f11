-- What is known ahead, and the two readings of a file.
use Rattle.std.proofs.Common.{◌≡◌, ℕ, List, [], refl, sym, ap, subst, ◌∙◌}
use Rattle.std.proofs.Math.Path.{fun_ext}
use Rattle.c_rules.specs.declared.fault.CheckFault.{CheckFault}
use Rattle.c_rules.specs.declared.fault.CheckFault.TheVariants as check
use Rattle.c_rules.specs.Rules.{number_of}
use Rattle.c_syntax.specs.declared.file.File.{File}
use Rattle.c_expr_rules.specs.declared.found.Fault.{Fault}
use Rattle.c_expr_rules.specs.declared.found.Fault.TheVariants as fault
use Rattle.c_expr_rules.specs.Outcomes.{State, Checked, Fine, Breaks, Broke, Broken, next}
use Rattle.c_expr_rules.specs.Views.{seen_broken, seen_state}
use Rattle.c_names.specs.declared.facts.Kinds.TheVariants as kinds
use Rattle.c_file_rules.specs.declared.made.Made.{Made}
use Rattle.c_file_rules.specs.Files.{Tokens, Ahead, Whole, Stops, bodies_of, closed, file_answer, file_checked, functions_in, kind_number, known_at, nothing_known, taken_in}
use Rattle.c_file_rules.specs.Kinds.{types_of_functions}
use Rattle.c_file_rules.specs.Operations.{thread_type}
use Rattle.c_check.specs.Answers.{IsClosed, IsEnding, IsReading, IsRefusal, IsRefusedBy, answer_of, whole_at}
use Rattle.c_check.specs.declared.reading.Reading.{Reading}
use Rattle.c_check.specs.Going.{HasGone, HasStopped, ahead_of}
use Rattle.c_check.specs.Known.{taken_lists}
use Rattle.c_check.specs.Rounds.{tokens_of}
use Rattle.c_check.specs.Tokens.{PlainTokens}
use Rattle.c_check.proofs.Closing.{closed_broke}
use Rattle.c_check.proofs.KnownLists.{taken_by}

pub nothing_ahead : ahead_of kinds.Own [] ≡ nothing_known
nothing_ahead = refl

abbrev numbered : List ℕ → (ℕ → List ℕ) → Ahead
numbered list taken = record { taken = taken; kind_of = kind_number list }

-- the lists of the first reading say what it tells
pub known_ahead : (s : State) (functions : List Made) (list : List ℕ) (homes : List (List ℕ)) → homes ≡ taken_lists functions
    → list ≡ types_of_functions (thread_type s.table) (functions_in functions)
    → ahead_of (kinds.Listed list) homes ≡ known_at s functions
known_ahead s functions list homes h k =
    ap (λ l. ahead_of (kinds.Listed list) l) h
    ∙ ap (numbered list) (fun_ext (taken_by functions))
    ∙ ap (λ l. numbered l (taken_in functions)) k

-- ---- one reading

broke_stops : {A : Type 0} (c : Checked A) (b : Broken) → c ≡ Broke b → Stops c b
broke_stops (Fine s x) b e = cc
broke_stops (Breaks broken s known) b e = cc
broke_stops (Broke broken) b e = cc

-- a rule that a construct breaks is that of its file
pub stopped_refused : (t : PlainTokens) (ahead : Ahead) (file : File) (f : Fault) → HasStopped t ahead file f
    → IsRefusedBy (file_checked (tokens_of t) ahead file) (answer_of f)
stopped_refused t ahead file (fault.Broke b) e =
    broke_stops (file_checked (tokens_of t) ahead file) (seen_broken b)
    (ap (λ c. next c (λ s functions. closed s (whole_at t (bodies_of file) s functions))) e)
stopped_refused t ahead file fault.NoMemory e = tt

at_end : (t : PlainTokens) (ahead : Ahead) (file : File) (s : State) (functions : List Made) → HasGone t ahead file s functions
    → file_checked (tokens_of t) ahead file ≡ closed s (whole_at t (bodies_of file) s functions)
at_end t ahead file s functions e =
    ap (λ c. next c (λ s functions. closed s (whole_at t (bodies_of file) s functions))) e

pub ending_refused : (t : PlainTokens) (ahead : Ahead) (file : File) (s : State) (functions : List Made) (f : CheckFault)
    → HasGone t ahead file s functions → IsEnding t (bodies_of file) s functions f
    → IsRefusedBy (file_checked (tokens_of t) ahead file) f
ending_refused t ahead file s functions (check.Rule line rule) gone e =
    broke_stops (file_checked (tokens_of t) ahead file) (record { rule = number_of rule; line = line })
    (at_end t ahead file s functions gone ∙ closed_broke s (whole_at t (bodies_of file) s functions) _ e)
ending_refused t ahead file s functions check.NoMemory gone e = tt

pub closed_accepted : (t : PlainTokens) (ahead : Ahead) (file : File) (s : State) (functions : List Made) → HasGone t ahead file s functions
    → closed s (whole_at t (bodies_of file) s functions) ≡ Fine s (whole_at t (bodies_of file) s functions)
    → file_checked (tokens_of t) ahead file ≡ Fine s (whole_at t (bodies_of file) s functions)
closed_accepted t ahead file s functions gone e = at_end t ahead file s functions gone ∙ e

pub reading_of : (t : PlainTokens) (ahead : Ahead) (file : File) (r : Reading) (bodies : List ℕ) → bodies ≡ bodies_of file
    → HasGone t ahead file (seen_state r.state) r.functions.items → IsClosed t bodies (seen_state r.state) r.functions.items r.main
    → IsReading t ahead file r
reading_of t ahead file r bodies same gone c =
    let d = subst (λ b. IsClosed t b (seen_state r.state) r.functions.items r.main) same c in
    record {
      accepted = closed_accepted t ahead file (seen_state r.state) r.functions.items gone d.accepted;
      main_is = d.main_is;
    }

pub not_closed : (t : PlainTokens) (ahead : Ahead) (file : File) (s : State) (functions : List Made) (bodies : List ℕ) (f : CheckFault)
    → bodies ≡ bodies_of file → HasGone t ahead file s functions → IsEnding t bodies s functions f
    → IsRefusedBy (file_checked (tokens_of t) ahead file) f
not_closed t ahead file s functions bodies f same gone e =
    ending_refused t ahead file s functions f gone (subst (λ b. IsEnding t b s functions f) same e)

-- ---- two readings

abbrev then : (t : Tokens) (file : File) → Checked Whole → Checked Whole
then t file c = next c (λ s whole. file_checked t (known_at s whole.functions) file)

pub two_readings : (t : Tokens) (file : File) (s r : State) (v w : Whole) → file_checked t nothing_known file ≡ Fine s v
    → file_checked t (known_at s v.functions) file ≡ Fine r w → file_answer t file ≡ Fine r w
two_readings t file s r v w e f = ap (then t file) e ∙ f

stops_next : {A B : Type 0} (c : Checked A) (go : State → A → Checked B) (b : Broken) → Stops c b → Stops (next c go) b
stops_next (Fine s x) go b e = absurd e
stops_next (Breaks broken s known) go b e = e
stops_next (Broke broken) go b e = e

pub refused_first : (t : Tokens) (file : File) (f : CheckFault) → IsRefusedBy (file_checked t nothing_known file) f → IsRefusal t file f
refused_first t file (check.Rule line rule) e = stops_next (file_checked t nothing_known file) _ _ e
refused_first t file check.NoMemory e = tt

pub refused_then : (t : Tokens) (file : File) (s : State) (v : Whole) (f : CheckFault) → file_checked t nothing_known file ≡ Fine s v
    → IsRefusedBy (file_checked t (known_at s v.functions) file) f → IsRefusal t file f
refused_then t file s v f e r = subst (λ c. IsRefusedBy (then t file c) f) (sym e) r
