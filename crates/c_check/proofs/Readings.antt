-- The answer for a file, from its two readings.
use Rattle.std.proofs.Common.{◌≡◌, ℕ, List, [], sym, ap, subst, ◌∙◌, Some}
use Rattle.c_rules.specs.declared.fault.CheckFault.{CheckFault}
use Rattle.c_syntax.specs.declared.file.File.{File}
use Rattle.c_tree.specs.Plain.{PlainProgram}
use Rattle.c_expr_rules.specs.Views.{seen_state}
use Rattle.c_names.specs.declared.facts.Kinds.{Kinds}
use Rattle.c_names.specs.declared.facts.Kinds.TheVariants as numbering
use Rattle.c_file_rules.specs.Files.{AreStatics, IsProgramOf, bodies_of, file_checked, functions_in, known_at, nothing_known}
use Rattle.c_file_rules.specs.Kinds.{types_of_functions}
use Rattle.c_file_rules.specs.Operations.{thread_type}
use Rattle.c_file_rules.specs.Statics.{statics_below}
use Rattle.c_check.specs.Answers.{IsReading, IsRefusal, IsRefusedBy, whole_at}
use Rattle.c_check.specs.declared.reading.Reading.{Reading}
use Rattle.c_check.specs.Going.{ahead_of}
use Rattle.c_check.specs.Known.{taken_lists}
use Rattle.c_check.specs.Rounds.{tokens_of}
use Rattle.c_check.specs.Tokens.{PlainTokens}
use Rattle.c_check.proofs.Ahead.{known_ahead, refused_first, refused_then, two_readings}

-- what the first reading found, and what is known by it
pub record IsKnown (t : PlainTokens) (file : File) (first : Reading) (kinds : Kinds) (list : List ℕ) (homes : List (List ℕ)) : Type 0 where
  pub own : kinds ≡ numbering.Own
  pub found : IsReading t (ahead_of kinds []) file first
  pub homes_are : homes ≡ taken_lists first.functions.items
  pub kinds_are : list ≡ types_of_functions (thread_type (seen_state first.state).table) (functions_in first.functions.items)

reading_first : (t : PlainTokens) (file : File) (first : Reading) (kinds : Kinds) (list : List ℕ) (homes : List (List ℕ))
    → IsKnown t file first kinds list homes → IsReading t nothing_known file first
reading_first t file first kinds list homes k = subst (λ k. IsReading t (ahead_of k []) file first) k.own k.found

known_then : (t : PlainTokens) (file : File) (first : Reading) (kinds : Kinds) (list : List ℕ) (homes : List (List ℕ))
    → IsKnown t file first kinds list homes → ahead_of (numbering.Listed list) homes ≡ known_at (seen_state first.state) first.functions.items
known_then t file first kinds list homes k =
    known_ahead (seen_state first.state) first.functions.items list homes k.homes_are k.kinds_are

pub first_refuses : (t : PlainTokens) (file : File) (kinds : Kinds) (f : CheckFault) → kinds ≡ numbering.Own
    → IsRefusedBy (file_checked (tokens_of t) (ahead_of kinds []) file) f → IsRefusal (tokens_of t) file f
first_refuses t file kinds f own r =
    refused_first (tokens_of t) file f (subst (λ k. IsRefusedBy (file_checked (tokens_of t) (ahead_of k []) file) f) own r)

pub last_refuses : (t : PlainTokens) (file : File) (first : Reading) (kinds : Kinds) (list : List ℕ) (homes : List (List ℕ)) (f : CheckFault)
    → IsKnown t file first kinds list homes
    → IsRefusedBy (file_checked (tokens_of t) (ahead_of (numbering.Listed list) homes) file) f → IsRefusal (tokens_of t) file f
last_refuses t file first kinds list homes f k r =
    refused_then (tokens_of t) file (seen_state first.state)
    (whole_at t (bodies_of file) (seen_state first.state) first.functions.items) f
    (reading_first t file first kinds list homes k).accepted
    (subst (λ a. IsRefusedBy (file_checked (tokens_of t) a file) f) (known_then t file first kinds list homes k) r)

pub both_accept : (t : PlainTokens) (file : File) (first last : Reading) (kinds : Kinds) (list : List ℕ) (homes : List (List ℕ)) (program : PlainProgram)
    → IsKnown t file first kinds list homes → IsReading t (ahead_of (numbering.Listed list) homes) file last
    → program.functions ≡ functions_in last.functions.items
    → AreStatics (statics_below (seen_state last.state) (seen_state last.state).next_static) program.statics
    → program.main ≡ last.main → IsProgramOf (tokens_of t) file program
both_accept t file first last kinds list homes program k r functions statics main =
    let s = seen_state last.state in
    let whole = whole_at t (bodies_of file) s last.functions.items in
    let then = subst (λ a. IsReading t a file last) (known_then t file first kinds list homes k) r in
    record {
      end = s;
      whole = whole;
      accepted =
          two_readings (tokens_of t) file (seen_state first.state) s
          (whole_at t (bodies_of file) (seen_state first.state) first.functions.items) whole
          (reading_first t file first kinds list homes k).accepted then.accepted;
      functions = functions;
      statics = statics;
      main = then.main_is ∙ ap Some (sym main);
    }
