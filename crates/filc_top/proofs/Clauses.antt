-- Each ending's own clause follows from the outcome.
use Rattle.std.proofs.Common.{◌≡◌, ◌⊎◌, inl, inr, ℕ, List, [], refl, sym, ap, subst, ◌∙◌, arith, ◌≤◌}
use Rattle.std.specs.Prelude.{Option, Some, None}
use Rattle.c_rules.specs.declared.refusal.Refusal.{Refusal}
use Rattle.filc_io.specs.Outside.{FilesState, Takes, append}
use Rattle.ideal_machine.specs.declared.finish.Finish.{Finish}
use Rattle.ideal_machine.specs.declared.finish.Finish.TheVariants.{Exited, Trapped}
use Rattle.form_play.specs.Observable.{finish_of}
use Rattle.single_thread.specs.Alone.{run_world, history_of_run}
use Rattle.filc_top.specs.Commands.{IsCheck, IsCode, LooksAt, to_check, to_code, IsNoCommand}
use Rattle.filc_top.proofs.Words.{check_is_no_run, code_is_no_run, code_is_no_check}
use Rattle.filc_top.specs.Endings.{line_of, not_built}
use Rattle.filc_top.specs.Headline.{Streams, Devices, ending_of, HasRun, HasNoForm, HasRefusal, HasAcceptance, HasCode, HasNotRead, NamesFile, to_run, to_look, IsCause, usage, unread, refused, looked_at, accepted, listed, ran, no_memory, IsWritten, whole, out_failed, err_failed, IsOutcome}
use Rattle.filc_top.specs.Clauses.{IsOfRun, IsAnswer, IsPutOut, HasRunWhole, HasTextWhole, HasWriteFault, EndsLookingAt, SaysEnding}
use Rattle.filc_top.specs.declared.ending.Ending.{Ending}
use Rattle.filc_top.specs.declared.ending.Ending.TheVariants as ending

-- a number for each kind of ending, by which two kinds are told apart
abbrev kind : Ending → ℕ
kind ending.Usage = 0
kind ending.ReadFault = 1
kind (ending.Refused refusal) = 2
kind ending.NoMemory = 3
kind (ending.Exited status) = 4
kind (ending.Trapped reason line) = 4
kind ending.Spent = 4
kind ending.WriteFault = 5
kind ending.Listed = 6
kind ending.Deadlock = 7
kind ending.InputLimit = 7

run_kind : (finish : Option Finish) → kind (ending_of finish) ≡ 4
run_kind (Some (Exited status)) = refl
run_kind (Some (Trapped reason line)) = refl
run_kind None = refl

kind_of_run : (e : Ending) → kind e ≡ 4 → IsOfRun e
kind_of_run (ending.Exited status) is = tt
kind_of_run (ending.Trapped reason line) is = tt
kind_of_run ending.Spent is = tt
kind_of_run other is = absurd (omega (arith, is))

of_run_kind : (e : Ending) → IsOfRun e → kind e ≡ 4
of_run_kind (ending.Exited status) is = refl
of_run_kind (ending.Trapped reason line) is = refl
of_run_kind ending.Spent is = refl
of_run_kind other is = absurd is

answer_kind : (e : Ending) → kind e ≤ 6 → IsAnswer e
answer_kind ending.Deadlock small = absurd (omega (arith, small))
answer_kind ending.InputLimit small = absurd (omega (arith, small))
answer_kind other small = tt

ran_kind : (words : List (List ℕ)) (files : FilesState) (cause : Ending) (output : List ℕ) → HasRun words files cause output → kind cause ≡ 4
ran_kind words files cause output why = ap kind why.run.cause_is ∙ run_kind (finish_of (history_of_run run_world why.turns why.run.code))

-- to take nothing changes nothing
takes_nothing : (output : List ℕ) (old new : Streams) → output ≡ [] → Takes old.out new.out output → Takes old.out new.out []
takes_nothing output old new none is = is ∙ ap (λ (text : List ℕ). append old.out.taken text) none

module _ (words : List (List ℕ)) (old new : Devices) (result : Ending) (o : IsOutcome words old new result) where
  abbrev Cause : Type 0
  Cause = IsCause words old.files new.files o.cause o.output

  -- no cause is a write fault, or an ending that no call answers
  abbrev IsCauseKind : ℕ → Type 0
  IsCauseKind n = (n ≤ 6) × (n ≡ 5 → ⊥)

  of_few : (n : ℕ) → n ≤ 4 → IsCauseKind n
  of_few n few = (omega (arith, few), λ five. omega (arith, few, five))

  cause_kind : Cause → IsCauseKind (kind o.cause)
  cause_kind (usage none stay silent) = of_few (kind o.cause) (omega (arith, ap kind silent.cause_is))
  cause_kind (unread why silent) = of_few (kind o.cause) (omega (arith, ap kind silent.cause_is))
  cause_kind (refused why silent) = of_few (kind o.cause) (omega (arith, ap kind silent.cause_is))
  cause_kind (looked_at refusal why silent) = of_few (kind o.cause) (omega (arith, ap kind silent.cause_is))
  cause_kind (accepted why is) = (omega (arith, ap kind is), λ five. omega (arith, five, ap kind is))
  cause_kind (listed why is) = (omega (arith, ap kind is), λ five. omega (arith, five, ap kind is))
  cause_kind (ran why) = of_few (kind o.cause) (omega (arith, ran_kind words old.files o.cause o.output why))
  cause_kind (no_memory why silent) = of_few (kind o.cause) (omega (arith, ap kind silent.cause_is))

  -- all was written, and the result is the cause
  abbrev AllWritten : Type 0
  AllWritten = (result ≡ o.cause) × Takes old.streams.out new.streams.out o.output × Takes old.streams.err new.streams.err (line_of o.cause)

  -- or a sink failed
  abbrev Faulted : Type 0
  Faulted = (result ≡ ending.WriteFault) × HasWriteFault old.streams new.streams

  written_or_faulted : IsWritten o.cause o.output old.streams new.streams result → AllWritten ⊎ Faulted
  written_or_faulted (whole out err is) = inl (is, out, err)
  written_or_faulted (out_failed out err is) = inr (is, inl out.failed)
  written_or_faulted (err_failed out err is) = inr (is, inr err.failed)

  all_written : (result ≡ ending.WriteFault → ⊥) → AllWritten
  all_written no_fault = by (written_or_faulted o.written)
    where
      by : AllWritten ⊎ Faulted → AllWritten
      by (inl all) = all
      by (inr fault) = absurd (no_fault fault.0)

  -- an answer of another kind is the cause
  is_cause : (e : Ending) → result ≡ e → (kind e ≡ 5 → ⊥) → o.cause ≡ e
  is_cause e is other = sym (all_written (λ fault. other (ap kind (sym is ∙ fault)))).0 ∙ is

  usage_is : result ≡ ending.Usage → IsNoCommand words
  usage_is is = by o.caused
    where
      zero_kind : kind o.cause ≡ 0
      zero_kind = ap kind (is_cause ending.Usage is (λ h. omega (arith, h)))

      by : Cause → IsNoCommand words
      by (usage none stay silent) = none
      by (unread why silent) = absurd (omega (arith, zero_kind, ap kind silent.cause_is))
      by (refused why silent) = absurd (omega (arith, zero_kind, ap kind silent.cause_is))
      by (looked_at refusal why silent) = absurd (omega (arith, zero_kind, ap kind silent.cause_is))
      by (accepted why is1) = absurd (omega (arith, zero_kind, ap kind is1))
      by (listed why is1) = absurd (omega (arith, zero_kind, ap kind is1))
      by (ran why) = absurd (omega (arith, zero_kind, ran_kind words old.files o.cause o.output why))
      by (no_memory why silent) = absurd (omega (arith, zero_kind, ap kind silent.cause_is))

  names_none : IsNoCommand words → (name : List ℕ) → NamesFile words name → ⊥
  names_none none name (to_run turns is) = none.runs_none name turns is
  names_none none name (to_look (to_check is)) = none.checks_none name is
  names_none none name (to_look (to_code is)) = none.lists_none name is

  -- words that are no command have one cause
  of_no_command : IsNoCommand words → (o.cause ≡ ending.Usage) × (new.files ≡ old.files)
  of_no_command none = by o.caused
    where
      by : Cause → (o.cause ≡ ending.Usage) × (new.files ≡ old.files)
      by (usage never stay silent) = (silent.cause_is, stay)
      by (unread why silent) = absurd (names_none none why.name why.words_are)
      by (refused why silent) = absurd (none.runs_none why.file_is.name why.turns why.file_is.words_are)
      by (looked_at refusal why silent) = absurd (names_none none why.name (to_look why.words_are))
      by (accepted why is) = absurd (none.checks_none why.name why.words_are)
      by (listed why is) = absurd (none.lists_none why.name why.words_are)
      by (ran why) = absurd (none.runs_none why.file_is.name why.turns why.file_is.words_are)
      by (no_memory why silent) = absurd (names_none none why.name why.words_are)

  no_command_is : IsNoCommand words → (result ≡ ending.Usage) ⊎ (result ≡ ending.WriteFault)
  no_command_is none = by (written_or_faulted o.written)
    where
      by : AllWritten ⊎ Faulted → (result ≡ ending.Usage) ⊎ (result ≡ ending.WriteFault)
      by (inl all) = inl (all.0 ∙ (of_no_command none).0)
      by (inr fault) = inr fault.0

  -- why a file is refused: it should run and has not the form, or it is looked at
  abbrev RefusedFor : Refusal → Type 0
  RefusedFor refusal = ((refusal ≡ not_built) × HasNoForm words old.files) ⊎ HasRefusal words old.files refusal

  refused_is : (refusal : Refusal) → result ≡ ending.Refused refusal → RefusedFor refusal
  refused_is refusal is = by o.caused
    where
      cause_is : o.cause ≡ ending.Refused refusal
      cause_is = is_cause (ending.Refused refusal) is (λ h. omega (arith, h))

      by : Cause → RefusedFor refusal
      by (usage none stay silent) = absurd (omega (arith, ap kind cause_is, ap kind silent.cause_is))
      by (unread why silent) = absurd (omega (arith, ap kind cause_is, ap kind silent.cause_is))
      by (refused why silent) =
          let both : ending.Refused refusal ≡ ending.Refused not_built = sym cause_is ∙ silent.cause_is in
          inl (cc, why)
      by (accepted why is1) = absurd (omega (arith, ap kind cause_is, ap kind is1))
      by (listed why is1) = absurd (omega (arith, ap kind cause_is, ap kind is1))
      by (looked_at other why silent) =
          let both : ending.Refused other ≡ ending.Refused refusal = sym silent.cause_is ∙ cause_is in
          let same : other ≡ refusal = cc in
          inr (subst (λ (r : Refusal). HasRefusal words old.files r) same why)
      by (ran why) = absurd (omega (arith, ap kind cause_is, ran_kind words old.files o.cause o.output why))
      by (no_memory why silent) = absurd (omega (arith, ap kind cause_is, ap kind silent.cause_is))

  -- what a file is was written
  listed_is : result ≡ ending.Listed → HasTextWhole words old new result
  listed_is is = by o.caused
    where
      written : AllWritten
      written = all_written (λ fault. omega (arith, ap kind (sym is ∙ fault)))

      six_kind : kind o.cause ≡ 6
      six_kind = ap kind (sym written.0 ∙ is)

      put_out : IsPutOut o.output old.streams new.streams result
      put_out = record {
        out = written.1;
        err = written.2 ∙ ap (λ (e : Ending). append old.streams.err.taken (line_of e)) (sym written.0);
      }

      by : Cause → HasTextWhole words old new result
      by (usage none stay silent) = absurd (omega (arith, six_kind, ap kind silent.cause_is))
      by (unread why silent) = absurd (omega (arith, six_kind, ap kind silent.cause_is))
      by (refused why silent) = absurd (omega (arith, six_kind, ap kind silent.cause_is))
      by (looked_at refusal why silent) = absurd (omega (arith, six_kind, ap kind silent.cause_is))
      by (accepted why is1) = record { text = o.output; is_text = inl why; written = put_out }
      by (listed why is1) = record { text = o.output; is_text = inr why; written = put_out }
      by (ran why) = absurd (omega (arith, six_kind, ran_kind words old.files o.cause o.output why))
      by (no_memory why silent) = absurd (omega (arith, six_kind, ap kind silent.cause_is))

  -- words that look at a file end by what it is, or for want of something
  checked_is : (name : List ℕ) → IsCheck words name → EndsLookingAt HasAcceptance words old.files result
  checked_is name is = by (written_or_faulted o.written)
    where
      of_cause : Cause → EndsLookingAt HasAcceptance words old.files o.cause
      of_cause (usage none stay silent) = absurd (none.checks_none name is)
      of_cause (unread why silent) = subst (EndsLookingAt HasAcceptance words old.files) (sym silent.cause_is) tt
      of_cause (refused why silent) = absurd (check_is_no_run words name why.file_is.name why.turns is why.file_is.words_are)
      of_cause (looked_at refusal why silent) = subst (EndsLookingAt HasAcceptance words old.files) (sym silent.cause_is) why
      of_cause (accepted why is1) = subst (EndsLookingAt HasAcceptance words old.files) (sym is1) (o.output, why)
      of_cause (listed why is1) = absurd (code_is_no_check words why.name name why.words_are is)
      of_cause (ran why) = absurd (check_is_no_run words name why.file_is.name why.turns is why.file_is.words_are)
      of_cause (no_memory why silent) = subst (EndsLookingAt HasAcceptance words old.files) (sym silent.cause_is) tt

      by : AllWritten ⊎ Faulted → EndsLookingAt HasAcceptance words old.files result
      by (inl all) = subst (EndsLookingAt HasAcceptance words old.files) (sym all.0) (of_cause o.caused)
      by (inr fault) = subst (EndsLookingAt HasAcceptance words old.files) (sym fault.0) tt

  coded_is : (name : List ℕ) → IsCode words name → EndsLookingAt HasCode words old.files result
  coded_is name is = by (written_or_faulted o.written)
    where
      of_cause : Cause → EndsLookingAt HasCode words old.files o.cause
      of_cause (usage none stay silent) = absurd (none.lists_none name is)
      of_cause (unread why silent) = subst (EndsLookingAt HasCode words old.files) (sym silent.cause_is) tt
      of_cause (refused why silent) = absurd (code_is_no_run words name why.file_is.name why.turns is why.file_is.words_are)
      of_cause (looked_at refusal why silent) = subst (EndsLookingAt HasCode words old.files) (sym silent.cause_is) why
      of_cause (accepted why is1) = absurd (code_is_no_check words name why.name is why.words_are)
      of_cause (listed why is1) = subst (EndsLookingAt HasCode words old.files) (sym is1) (o.output, why)
      of_cause (ran why) = absurd (code_is_no_run words name why.file_is.name why.turns is why.file_is.words_are)
      of_cause (no_memory why silent) = subst (EndsLookingAt HasCode words old.files) (sym silent.cause_is) tt

      by : AllWritten ⊎ Faulted → EndsLookingAt HasCode words old.files result
      by (inl all) = subst (EndsLookingAt HasCode words old.files) (sym all.0) (of_cause o.caused)
      by (inr fault) = subst (EndsLookingAt HasCode words old.files) (sym fault.0) tt

  read_fault_is : result ≡ ending.ReadFault → HasNotRead words old.files new.files
  read_fault_is is = by o.caused
    where
      one_kind : kind o.cause ≡ 1
      one_kind = ap kind (is_cause ending.ReadFault is (λ h. omega (arith, h)))

      by : Cause → HasNotRead words old.files new.files
      by (usage none stay silent) = absurd (omega (arith, one_kind, ap kind silent.cause_is))
      by (unread why silent) = why
      by (refused why silent) = absurd (omega (arith, one_kind, ap kind silent.cause_is))
      by (looked_at refusal why silent) = absurd (omega (arith, one_kind, ap kind silent.cause_is))
      by (accepted why is1) = absurd (omega (arith, one_kind, ap kind is1))
      by (listed why is1) = absurd (omega (arith, one_kind, ap kind is1))
      by (ran why) = absurd (omega (arith, one_kind, ran_kind words old.files o.cause o.output why))
      by (no_memory why silent) = absurd (omega (arith, one_kind, ap kind silent.cause_is))

  write_fault_is : result ≡ ending.WriteFault → HasWriteFault old.streams new.streams
  write_fault_is is = by (written_or_faulted o.written)
    where
      by : AllWritten ⊎ Faulted → HasWriteFault old.streams new.streams
      by (inl all) = absurd ((cause_kind o.caused).1 (ap kind (sym all.0 ∙ is)))
      by (inr fault) = fault.1

  ran_is : IsOfRun result → HasRunWhole words old new result
  ran_is of_run = by o.caused
    where
      written : AllWritten
      written = all_written (λ fault. omega (arith, ap kind fault, of_run_kind result of_run))

      four_kind : kind o.cause ≡ 4
      four_kind = ap kind (sym written.0) ∙ of_run_kind result of_run

      line : Takes old.streams.err new.streams.err (line_of result)
      line = written.2 ∙ ap (λ (e : Ending). append old.streams.err.taken (line_of e)) (sym written.0)

      by : Cause → HasRunWhole words old new result
      by (usage none stay silent) = absurd (omega (arith, four_kind, ap kind silent.cause_is))
      by (unread why silent) = absurd (omega (arith, four_kind, ap kind silent.cause_is))
      by (refused why silent) = absurd (omega (arith, four_kind, ap kind silent.cause_is))
      by (looked_at refusal why silent) = absurd (omega (arith, four_kind, ap kind silent.cause_is))
      by (accepted why is) = absurd (omega (arith, four_kind, ap kind is))
      by (listed why is) = absurd (omega (arith, four_kind, ap kind is))
      by (ran why) =
          record {
            output = o.output;
            ran = subst (λ (e : Ending). HasRun words old.files e o.output) (sym written.0) why;
            written = record { out = written.1; err = line };
          }
      by (no_memory why silent) = absurd (omega (arith, four_kind, ap kind silent.cause_is))

  -- where nothing was run or listed, nothing is put out
  line_alone_is : (IsOfRun result → ⊥) → (result ≡ ending.Listed → ⊥) → (result ≡ ending.WriteFault → ⊥) → IsPutOut [] old.streams new.streams result
  line_alone_is not_run not_listed no_fault = record {
    out = takes_nothing o.output old.streams new.streams (nothing o.caused) written.1;
    err = written.2 ∙ ap (λ (e : Ending). append old.streams.err.taken (line_of e)) (sym written.0);
  }
    where
      written : AllWritten
      written = all_written no_fault

      nothing : Cause → o.output ≡ []
      nothing (usage none stay silent) = silent.output_is
      nothing (unread why silent) = silent.output_is
      nothing (refused why silent) = silent.output_is
      nothing (looked_at refusal why silent) = silent.output_is
      nothing (accepted why is) = absurd (not_listed (written.0 ∙ is))
      nothing (listed why is) = absurd (not_listed (written.0 ∙ is))
      nothing (ran why) = absurd (not_run (kind_of_run result (ap kind written.0 ∙ ran_kind words old.files o.cause o.output why)))
      nothing (no_memory why silent) = silent.output_is

  answer_is : IsAnswer result
  answer_is = answer_kind result (by (written_or_faulted o.written))
    where
      by : AllWritten ⊎ Faulted → kind result ≤ 6
      by (inl all) = omega (arith, ap kind all.0, (cause_kind o.caused).0)
      by (inr fault) = omega (arith, ap kind fault.0)

  pub says_ending : SaysEnding words old new result
  says_ending = record {
    ran = ran_is;
    refused = refused_is;
    listed = listed_is;
    checked = checked_is;
    coded = coded_is;
    usage = usage_is;
    no_command = no_command_is;
    files_stay = λ none. (of_no_command none).1;
    read_fault = read_fault_is;
    write_fault = write_fault_is;
    line_alone = line_alone_is;
    answer = answer_is;
  }
