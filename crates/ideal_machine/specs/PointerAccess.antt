-- Pointers in memory: what each access asks, in this order.
--
--     read                           Check, GetHalf, then Open where a pair was found, else GetInt
--     store                          Check, SetInt, SetHalf
--     atomic store                   Check, SetHalf of a pair
--     atomic exchange                Check, CasHalf with Any and a pair, then Open where a pair was found, else GetInt
--     atomic compare and exchange    Check; and then a round: GetHalf, then Open where a pair was found, else GetInt;
--                                    Name of the expected pointer; where the addresses are equal CasHalf; where
--                                    its answer isn't the same as what was seen, once more from GetHalf
--
-- Each writing check may want a cell, and may be refused for want of one. A plain store is two events, so another
-- thread may find one half of it; a pair is stored and found at once.
use Rattle.std.specs.Prelude.{ℕ, ◌/◌, ◌==◌, Bool, true, false, if◌then◌else◌, Option, Some, None}
use Rattle.ideal_machine.specs.declared.value.Found.{Found}
use Rattle.ideal_machine.specs.declared.value.Found.TheVariants.{Plain as FoundPlain, Pair as FoundPair}
use Rattle.ideal_machine.specs.declared.value.Kept.{Kept}
use Rattle.ideal_machine.specs.declared.value.Kept.TheVariants.{Plain as KeptPlain, Pair as KeptPair}
use Rattle.ideal_machine.specs.declared.value.Value.{Value}
use Rattle.ideal_machine.specs.declared.event.Access.{Access}
use Rattle.ideal_machine.specs.declared.event.Seen.TheVariants.{Any, Found as SeenFound}
use Rattle.ideal_machine.specs.declared.event.Event.TheVariants.{GetInt, SetInt, GetHalf, Open, SetHalf, CasHalf}
use Rattle.ideal_machine.specs.Words.{same_found}
use Rattle.ideal_machine.specs.Queries.{ChecksForCell}
use Rattle.ideal_machine.specs.Play.{Gives, Asks, bind}
use Rattle.ideal_machine.specs.Phrases.{Phrase, unless_refused}
use Rattle.ideal_machine.specs.Retries.{ask, retry}
use Rattle.ideal_machine.specs.Addresses.{look_at}
use Rattle.ideal_machine.specs.IntAccess.{access_at, check_access}

-- ---- words

-- the word of its object that an access of 8 bytes is
abbrev pub word_of : Access → ℕ
word_of access = access.offset / 8

-- a pointer as a pair that is to be stored
abbrev pub pair_of : Value → Kept
pair_of v = KeptPair v.number v.half

-- the check before a pointer is stored: there may be no cell for it
abbrev pub check_store : (base : ℕ → ℕ) → Value → (line : ℕ) → Phrase Access
check_store base p line = Asks (ChecksForCell p.half p.number) (unless_refused line (access_at base p.half p.number 8))

-- the pointer whose half was found: a pair has both parts, else the address is the word's integer
abbrev pub pointer_found : Access → Found → Phrase Value
pointer_found access (FoundPlain half) =
    bind (ask (GetInt access)) (λ _ n. Gives tt (record { number = n; half = half }))
pointer_found access (FoundPair pair) =
    bind (ask (Open pair)) (λ _ opened. Gives tt (record { number = opened.address; half = opened.half }))

-- the pointer in a word
abbrev pub read_pointer : Access → Phrase Value
read_pointer access = bind (ask (GetHalf access.object (word_of access))) (λ _ found. pointer_found access found)

-- ---- reads and stores

-- of an atomic pointer too
abbrev pub load_pointer : (base : ℕ → ℕ) → Value → (line : ℕ) → Phrase Value
load_pointer base p line = bind (check_access base p 8 false line) (λ _ access. read_pointer access)

abbrev pub store_pointer : (base : ℕ → ℕ) → Value → Value → (line : ℕ) → Phrase (Unit {0})
store_pointer base p v line =
    bind (check_store base p line) (λ _ access.
    bind (ask (SetInt access v.number)) (λ _ _. ask (SetHalf access.object (word_of access) (KeptPlain v.half))))

-- ---- atomic pointers

abbrev pub store_pair : (base : ℕ → ℕ) → Value → Value → (line : ℕ) → Phrase (Unit {0})
store_pair base p v line =
    bind (check_store base p line) (λ _ access. ask (SetHalf access.object (word_of access) (pair_of v)))

-- stores a pointer; gives the old one
abbrev pub swap_pair : (base : ℕ → ℕ) → Value → Value → (line : ℕ) → Phrase Value
swap_pair base p v line =
    bind (check_store base p line) (λ _ access.
    bind (ask (CasHalf access.object (word_of access) Any (pair_of v))) (λ _ found. pointer_found access found))

-- ---- atomic compare and exchange

-- the pointer that was found, and whether the desired one has taken its place
pub record PairExchange : Type 0 where
  pub found : Value
  pub is_made : Bool

-- the desired pointer takes the place of what was seen, unless something else is there by now
abbrev pub replace_seen : Access → (seen : Found) → (found desired : Value) → Phrase (Option PairExchange)
replace_seen access seen found desired =
    bind (ask (CasHalf access.object (word_of access) (SeenFound seen) (pair_of desired))) (λ _ there.
    Gives tt (if same_found there seen then Some (record { found = found; is_made = true }) else None))

-- one round; gives nothing where another round follows
abbrev pub exchange_round : Access → (expected desired : Value) → Phrase (Option PairExchange)
exchange_round access expected desired =
    bind (ask (GetHalf access.object (word_of access))) (λ _ seen.
    bind (pointer_found access seen) (λ _ found.
    bind (look_at expected) (λ _ _.
    if found.number == expected.number then replace_seen access seen found desired
    else Gives tt (Some (record { found = found; is_made = false })))))

-- at most so many rounds
abbrev pub exchange_pair : (base : ℕ → ℕ) → (rounds : ℕ) → (p expected desired : Value) → (line : ℕ) → Phrase PairExchange
exchange_pair base rounds p expected desired line =
    bind (check_store base p line) (λ _ access. retry rounds (exchange_round access expected desired))
