-- Worked histories of whole programs: each entry of a legal one is allowed, and each thread plays its text; where one isn't
-- legal, a thread asks for something else.
use Rattle.std.proofs.Common.{◌≡◌, rules, arith, inl, inr, ⊎_elim, ℕ, zero, suc, List, [], ◌∷◌, refl, ◌∙◌, ap, subst, false}
use Rattle.std.specs.Prelude.{take, drop}
use Rattle.filc_num.specs.Integers.{convert_of}
use Rattle.c_tree.specs.declared.program.FunctionDef.{FunctionDef}
use Rattle.ideal_machine.specs.declared.value.Half.{Half}
use Rattle.ideal_machine.specs.declared.value.Half.TheVariants.{Nothing, Freed, Object as ObjectHalf, Function}
use Rattle.ideal_machine.specs.declared.event.Event.{Event}
use Rattle.ideal_machine.specs.declared.event.Event.TheVariants.{Check, GetInt, New, Void, Out, Exit, Trap}
use Rattle.filc_num.specs.declared.reason.Reason.TheVariants.{Freed as FreedReason}
use Rattle.ideal_machine.specs.declared.event.Answer.TheVariants.{Done}
use Rattle.ideal_machine.specs.Memory.{Memory, World, address_in, default_world}
use Rattle.ideal_machine.specs.Names.{IsShown}
use Rattle.ideal_machine.proofs.Names.{shown_self}
use Rattle.tree_play.specs.Legal.{History, Moment, moments, thread_moments, AreAllowed, AreShown, ThreadsPlay, IsLegalHistory, last_memory, memory_before}
use Rattle.tree_play.specs.Worked.Programs.{program_of}
use Rattle.tree_play.specs.Worked.Histories.{entry}
use Rattle.tree_play.specs.Worked.Legality.{MayBe, main_begins, gives_42, ExitIsTheReturn, takes_in, two_bytes, RoundsAreBounded, leaves_one, goes_on, OthersGoOn, hands_on, reads_at, OthersReadAnObject, starts_two, two_threads, SlotsAreUsedAgain, reads_freed, freed_and_read, freed_twice, FreedMayBeShown}
use Rattle.tree_play.proofs.Torn.{lies_at_its_address, as_made}

-- ---- what serves each history

abbrev before : World → List FunctionDef → Memory
before world functions = memory_before world (program_of functions)

-- where each object lies after a history
abbrev base_after : World → List FunctionDef → History → ℕ → ℕ
base_after world functions history = address_in (last_memory (before world functions) history)

-- the moments of an actor behind the first so many entries
abbrev made_from : World → List FunctionDef → History → (actor skipped : ℕ) → List Moment
made_from world functions history actor skipped =
    thread_moments actor (moments (last_memory (before world functions) (take skipped history)) (drop skipped history))

is_legal :
    (world : World) (functions : List FunctionDef) (history : History) (n : ℕ) → AreAllowed world (before world functions) history →
    ThreadsPlay n (program_of functions) (base_after world functions history) (before world functions) history →
    IsLegalHistory history (program_of functions) world n
is_legal world functions history n may_be is_played = record {
  allowed = may_be;
  base = base_after world functions history;
  addresses = lies_at_its_address (last_memory (before world functions) history);
  played = is_played;
}

-- ---- one thread

abbrev status_of : Event → ℕ
status_of (Exit status) = status
status_of event = 0

another_status : Exit 41 ≡ Exit 42 → ⊥
another_status e = absurd (omega (arith, ap status_of e))

abbrev exit_42 : History
exit_42 = main_begins ∷ entry 0 (Exit 42) Done ∷ []

exit_allowed : AreAllowed (default_world []) (before (default_world []) gives_42) exit_42
exit_allowed = (
  record { may_make = (Nothing, refl, inl refl); objects = search rules; answers = refl },
  search rules,
  (search rules, search rules, tt),
)

exit_played : (n : ℕ) → ThreadsPlay n (program_of gives_42) (base_after (default_world []) gives_42 exit_42) (before (default_world []) gives_42) exit_42
exit_played n =
    (as_made (made_from (default_world []) gives_42 exit_42 0 1), (tt, tt))

pub exit_is_the_return : ExitIsTheReturn
exit_is_the_return n = (
  is_legal (default_world []) gives_42 exit_42 n exit_allowed (exit_played n),
  λ h. another_status h.played.0.0.2,
  λ h. h.played.0.1,
  λ h. h.played.0.1,
)

bytes_allowed : AreAllowed (default_world (1 ∷ 0 ∷ [])) (before (default_world (1 ∷ 0 ∷ [])) takes_in) two_bytes
bytes_allowed = (
  record { may_make = (Nothing, refl, inl refl); objects = search rules; answers = refl },
  search rules,
  (
    search rules,
    search rules,
    (
      search rules,
      search rules,
      (search rules, search rules, tt),
    ),
  ),
)

bytes_played : ThreadsPlay 2 (program_of takes_in) (base_after (default_world (1 ∷ 0 ∷ [])) takes_in two_bytes) (before (default_world (1 ∷ 0 ∷ [])) takes_in) two_bytes
bytes_played =
    (as_made (made_from (default_world (1 ∷ 0 ∷ [])) takes_in two_bytes 0 1), (tt, (tt, (tt, tt))))

pub rounds_are_bounded : RoundsAreBounded
rounds_are_bounded = (is_legal (default_world (1 ∷ 0 ∷ [])) takes_in two_bytes 2 bytes_allowed bytes_played, λ h. h.played.0.1)

-- ---- several threads

goes_on_allowed : AreAllowed (default_world []) (before (default_world []) leaves_one) goes_on
goes_on_allowed = (
  record { may_make = (Nothing, refl, inl refl); objects = search rules; answers = refl },
  search rules,
  (
    search rules,
    search rules,
    (
      search rules,
      search rules,
      (
        record { may_make = (Nothing, refl, inl refl); objects = search rules; answers = refl },
        search rules,
        (
          search rules,
          search rules,
          (search rules, search rules, tt),
        ),
      ),
    ),
  ),
)

goes_on_played : (n : ℕ) → ThreadsPlay n (program_of leaves_one) (base_after (default_world []) leaves_one goes_on) (before (default_world []) leaves_one) goes_on
goes_on_played n =
    (as_made (made_from (default_world []) leaves_one goes_on 0 1), (tt, (tt, (as_made (made_from (default_world []) leaves_one goes_on 1 4), (tt, (tt, tt))))))

pub others_go_on : OthersGoOn
others_go_on n = is_legal (default_world []) leaves_one goes_on n goes_on_allowed (goes_on_played n)

reads_allowed : AreAllowed (default_world []) (before (default_world []) hands_on) (reads_at 4)
reads_allowed = (
  record { may_make = (Nothing, refl, inl refl); objects = search rules; answers = refl },
  search rules,
  (
    search rules,
    search rules,
    (
      search rules,
      search rules,
      (
        record { may_make = (ObjectHalf 0, refl, inl refl); objects = search rules; answers = refl },
        search rules,
        (
          search rules,
          search rules,
          (
            search rules,
            search rules,
            (
              search rules,
              search rules,
              (search rules, search rules, tt),
            ),
          ),
        ),
      ),
    ),
  ),
)

reads_played : (n : ℕ) → ThreadsPlay n (program_of hands_on) (base_after (default_world []) hands_on (reads_at 4)) (before (default_world []) hands_on) (reads_at 4)
unfolding convert_of
reads_played n =
    (as_made (made_from (default_world []) hands_on (reads_at 4) 0 1), (tt, (tt, (as_made (made_from (default_world []) hands_on (reads_at 4) 1 4), (tt, (tt, (tt, (tt, tt))))))))

abbrev offset_of : Event → ℕ
offset_of (GetInt access) = access.offset
offset_of event = 0

another_offset : (n : ℕ) → ¬ MayBe hands_on n (reads_at 5)
another_offset n h = absurd (omega (arith, ap offset_of h.played.1.1.1.0.1.0.2, h.addresses 0 _ refl))

pub others_read_an_object : OthersReadAnObject
others_read_an_object n = (is_legal (default_world []) hands_on (reads_at 4) n reads_allowed (reads_played n), another_offset n)

abbrev byte_of : Event → ℕ
byte_of (Out byte) = byte
byte_of event = 0

another_byte : Out 1 ≡ Out 65 → ⊥
another_byte e = absurd (omega (arith, ap byte_of e))

two_threads_allowed : AreAllowed (default_world []) (before (default_world []) starts_two) (two_threads 65)
two_threads_allowed = (
  record { may_make = (Nothing, refl, inl refl); objects = search rules; answers = refl },
  search rules,
  (
    search rules,
    search rules,
    (
      record { may_make = (Nothing, refl, inl refl); objects = search rules; answers = refl },
      search rules,
      (
        search rules,
        search rules,
        (
          search rules,
          search rules,
          (
            search rules,
            search rules,
            (
              search rules,
              search rules,
              (
                record { may_make = (Nothing, refl, inl refl); objects = search rules; answers = refl },
                search rules,
                (
                  search rules,
                  search rules,
                  (
                    search rules,
                    search rules,
                    (
                      search rules,
                      search rules,
                      (search rules, search rules, tt),
                    ),
                  ),
                ),
              ),
            ),
          ),
        ),
      ),
    ),
  ),
)

two_threads_played : (n : ℕ) → ThreadsPlay n (program_of starts_two) (base_after (default_world []) starts_two (two_threads 65)) (before (default_world []) starts_two) (two_threads 65)
two_threads_played n =
    (as_made (made_from (default_world []) starts_two (two_threads 65) 0 1), (tt, (as_made (made_from (default_world []) starts_two (two_threads 65) 1 3), (tt, (tt, (tt, (tt, (as_made (made_from (default_world []) starts_two (two_threads 65) 1 8), (tt, (tt, (tt, (tt, tt))))))))))))

pub slots_are_used_again : SlotsAreUsedAgain
slots_are_used_again n = (
  is_legal (default_world []) starts_two (two_threads 65) n two_threads_allowed (two_threads_played n),
  λ h. another_byte h.played.1.1.1.1.1.1.1.0.0.2,
)

-- ---- freed objects

abbrev shown : Half → Half
shown (ObjectHalf zero) = Freed
shown half = half

-- the memory behind the first so many entries
abbrev memory_behind : ℕ → Memory
memory_behind entries = last_memory (before (default_world []) reads_freed) (take entries (freed_and_read Freed))

is_shown : (half : Half) → IsShown (memory_behind 3) half (shown half)
is_shown (ObjectHalf zero) = inr (refl, refl)
is_shown (ObjectHalf (suc n)) = inl refl
is_shown Nothing = inl refl
is_shown Freed = inl refl
is_shown (Function f) = inl refl

named_allowed : AreAllowed (default_world []) (before (default_world []) reads_freed) (freed_and_read (ObjectHalf 0))
named_allowed = (
  record { may_make = (Nothing, refl, inl refl); objects = search rules; answers = refl },
  search rules,
  (
    search rules,
    search rules,
    (
      search rules,
      search rules,
      (
        search rules,
        search rules,
        (search rules, search rules, tt),
      ),
    ),
  ),
)

named_played : (n : ℕ) → ThreadsPlay n (program_of reads_freed) (base_after (default_world []) reads_freed (freed_and_read (ObjectHalf 0))) (before (default_world []) reads_freed) (freed_and_read (ObjectHalf 0))
named_played n =
    (as_made (made_from (default_world []) reads_freed (freed_and_read (ObjectHalf 0)) 0 1), (tt, (tt, (tt, (tt, tt)))))

shown_allowed : AreAllowed (default_world []) (before (default_world []) reads_freed) (freed_and_read Freed)
shown_allowed = (
  record { may_make = (Nothing, refl, inl refl); objects = search rules; answers = refl },
  search rules,
  (
    search rules,
    search rules,
    (
      search rules,
      search rules,
      (
        search rules,
        search rules,
        (search rules, search rules, tt),
      ),
    ),
  ),
)

as_shown : AreShown (New 8 0 ∷ Void (ObjectHalf 0) 65536 ∷ Check (ObjectHalf 0) 65536 1 false ∷ Trap FreedReason 1 ∷ []) (made_from (default_world []) reads_freed (freed_and_read Freed) 0 1)
as_shown = (
  shown_self (memory_behind 1) (New 8 0),
  (
    shown_self (memory_behind 2) (Void (ObjectHalf 0) 65536),
    ((shown, is_shown, refl), (shown_self (memory_behind 4) (Trap FreedReason 1), tt)),
  ),
)

shown_played : (n : ℕ) → ThreadsPlay n (program_of reads_freed) (base_after (default_world []) reads_freed (freed_and_read Freed)) (before (default_world []) reads_freed) (freed_and_read Freed)
shown_played n =
    (as_shown, (tt, (tt, (tt, (tt, tt)))))

abbrev IsFreedVoid : Event → Type 0
IsFreedVoid (Void Freed address) = Unit {0}
IsFreedVoid event = ⊥

free_names_it : (n : ℕ) → ¬ MayBe reads_freed n freed_twice
free_names_it n h =
    ⊎_elim (λ same. absurd (subst IsFreedVoid (h.played.0.1.0.2 ∙ ap (λ half. Void half 65536) same) tt)) (λ freed. absurd (cc))
    (h.played.0.1.0.1 (ObjectHalf 0))

pub freed_may_be_shown : FreedMayBeShown
freed_may_be_shown n = (
  is_legal (default_world []) reads_freed (freed_and_read (ObjectHalf 0)) n named_allowed (named_played n),
  is_legal (default_world []) reads_freed (freed_and_read Freed) n shown_allowed (shown_played n),
  free_names_it n,
)
