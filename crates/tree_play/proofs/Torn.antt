-- A torn pair: each entry is allowed in the memory before it, and each thread plays its text.
use Rattle.std.proofs.Common.{rules, inl, ℕ, List, [], ◌∷◌, map, refl, sym, ap, subst}
use Rattle.std.specs.Prelude.{unwrap_or, take, drop}
use Rattle.filc_num.specs.declared.statics.StaticDef.{StaticDef}
use Rattle.ideal_machine.specs.declared.value.Half.TheVariants.{Nothing, Object as ObjectHalf}
use Rattle.ideal_machine.specs.Memory.{Memory, no_object, address_in, default_world}
use Rattle.ideal_machine.specs.Beginning.{first_memory}
use Rattle.ideal_machine.proofs.Names.{shown_self}
use Rattle.c_tree.specs.Plain.{plain_program}
use Rattle.tree_play.specs.Legal.{AreAllowed, Moment, moments, thread_moments, AreShown, ThreadsPlay, last_memory, LieAt}
use Rattle.tree_play.specs.Worked.Histories.{statics, functions, torn, TornPairIsLegal}

-- each object lies where its memory has it
pub lies_at_its_address : (memory : Memory) → LieAt (address_in memory) memory
lies_at_its_address memory n object e = sym (ap (λ o. (unwrap_or o no_object).address) e)

torn_allowed : AreAllowed (default_world []) (first_memory (default_world []) statics 0) torn
torn_allowed = (
  record { may_make = (Nothing, refl, inl refl); objects = search rules; answers = refl },
  search rules,
  (
    search rules,
    search rules,
    (
      record { may_make = (ObjectHalf 1, refl, inl refl); objects = search rules; answers = refl },
      search rules,
      (
        search rules,
        search rules,
        (
          search rules,
          search rules,
          (
            search rules,
            search rules,
            (
              search rules,
              search rules,
              (
                search rules,
                search rules,
                (
                  search rules,
                  search rules,
                  (
                    search rules,
                    search rules,
                    (
                      search rules,
                      search rules,
                      (
                        search rules,
                        search rules,
                        (
                          search rules,
                          search rules,
                          (
                            search rules,
                            search rules,
                            tt,
                          ),
                        ),
                      ),
                    ),
                  ),
                ),
              ),
            ),
          ),
        ),
      ),
    ),
  ),
)

-- the memory before, and where each object lies after it
abbrev before : Memory
before = first_memory (default_world []) statics 0

abbrev base : ℕ → ℕ
base = address_in (last_memory before torn)

-- what is asked as it was made is shown
pub as_made : (made : List Moment) → AreShown (map (λ (m : Moment). m.entry.event) made) made
as_made [] = tt
as_made (m ∷ made) = (shown_self m.memory m.entry.event, as_made made)

-- the moments of an actor behind the first so many entries
abbrev made_from : (actor skipped : ℕ) → List Moment
made_from actor skipped = thread_moments actor (moments (last_memory before (take skipped torn)) (drop skipped torn))

torn_played : (n : ℕ) (kept : List StaticDef) → ThreadsPlay n (plain_program functions kept 0) base before torn
torn_played n kept = (as_made (made_from 0 1), (tt, (as_made (made_from 1 3), (tt, (tt, (tt, (tt, (tt, (tt, (tt, (tt, (tt, (tt, (tt, tt))))))))))))))

pub torn_is_legal : TornPairIsLegal
torn_is_legal n kept e = record {
  allowed = subst (λ s. AreAllowed (default_world []) (first_memory (default_world []) s 0) torn) (sym e) torn_allowed;
  base = base;
  addresses = subst (λ s. LieAt base (last_memory (first_memory (default_world []) s 0) torn)) (sym e) (lies_at_its_address (last_memory before torn));
  played = subst (λ s. ThreadsPlay n (plain_program functions kept 0) base (first_memory (default_world []) s 0) torn) (sym e) (torn_played n kept);
}
