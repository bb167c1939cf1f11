-- Worked plays of an atomic compare and exchange of the pointer in object 0, with what is expected in object 1; a pointer to
-- object 2 is desired.
use Rattle.std.specs.Prelude.{List, [], ◌∷◌, ◌++◌, true, false}
use Rattle.filc_num.specs.declared.reason.Reason.TheVariants.{NoCell}
use Rattle.c_tree.specs.declared.operation.Operation.TheVariants as op
use Rattle.c_tree.specs.declared.operation.Access.TheVariants.{Box}
use Rattle.ideal_machine.specs.declared.value.Value.{Value}
use Rattle.ideal_machine.specs.declared.value.Half.TheVariants.{Nothing, Freed, Object as ObjectHalf}
use Rattle.ideal_machine.specs.declared.value.Kept.TheVariants.{Plain as KeptPlain, Pair as KeptPair}
use Rattle.ideal_machine.specs.declared.value.Found.TheVariants.{Plain as FoundPlain, Pair as FoundPair}
use Rattle.ideal_machine.specs.declared.event.Seen.TheVariants.{Found as SeenFound}
use Rattle.ideal_machine.specs.declared.event.Event.{Event}
use Rattle.ideal_machine.specs.declared.event.Event.TheVariants.{Check, GetInt, SetInt, GetHalf, Open, SetHalf, CasHalf, Name}
use Rattle.ideal_machine.specs.declared.event.Answer.{Answer}
use Rattle.ideal_machine.specs.declared.event.Answer.TheVariants.{Granted, Refused, Done, Number, Found, Opened}
use Rattle.ideal_machine.specs.Values.{State, integer}
use Rattle.tree_play.specs.Around.{TextPlay}
use Rattle.tree_play.specs.Worked.Setting.{three, local, static, bytes_at, into, Yields, YieldsWith, Traps, expr_play}

abbrev pub locals : State
locals = into 2 0 ∷ []

abbrev pub exchange : TextPlay Value
exchange = expr_play (three (op.Cas Box) (static 0) (static 1) (local 0)) locals

-- the expected pointer is read first: it is one to object 1
abbrev pub expected_answers : List Answer
expected_answers = Granted ∷ Found (FoundPlain (ObjectHalf 1)) ∷ Number 66560 ∷ []

abbrev pub expected_events : List Event
expected_events = Check (ObjectHalf 1) 66560 8 false ∷ GetHalf 1 0 ∷ GetInt (bytes_at 1 0 8) ∷ []

abbrev pub name_of_expected : Event
name_of_expected = Name (ObjectHalf 1) 66560

-- what a CasHalf puts in place of pair 4
abbrev pub replaces_pair : Event
replaces_pair = CasHalf 0 0 (SeenFound (FoundPair 4)) (KeptPair 67584 (ObjectHalf 2))

-- a pair with the expected address is found and replaced: 1
abbrev pub ExchangeIsMade : Type 0
ExchangeIsMade =
    Yields exchange (expected_answers ++ Granted ∷ Found (FoundPair 4) ∷ Opened 66560 Freed ∷ Done ∷ Found (FoundPair 4) ∷ [])
    (expected_events ++ Check (ObjectHalf 0) 65536 8 true ∷ GetHalf 0 0 ∷ Open 4 ∷ name_of_expected ∷ replaces_pair ∷ []) locals (integer 1)

-- another pair was there by then: once more from GetHalf, without a check, and the jump is counted
abbrev pub ExchangeIsTriedAgain : Type 0
ExchangeIsTriedAgain =
    YieldsWith 1 0 exchange
    (expected_answers ++ Granted ∷ Found (FoundPair 4) ∷ Opened 66560 Freed ∷ Done ∷ Found (FoundPair 5)
    ∷ Found (FoundPlain Nothing) ∷ Number 66560 ∷ Done ∷ Found (FoundPlain Nothing) ∷ [])
    (expected_events ++ Check (ObjectHalf 0) 65536 8 true ∷ GetHalf 0 0 ∷ Open 4 ∷ name_of_expected ∷ replaces_pair
    ∷ GetHalf 0 0 ∷ GetInt (bytes_at 0 0 8) ∷ name_of_expected
    ∷ CasHalf 0 0 (SeenFound (FoundPlain Nothing)) (KeptPair 67584 (ObjectHalf 2)) ∷ []) locals (integer 1)

-- a pointer to object 3 was seen, and one to object 4 or a freed one with that address was there by then: each time once
-- more
abbrev pub seen_answers : List Answer
seen_answers = Found (FoundPlain (ObjectHalf 3)) ∷ Number 66560 ∷ Done ∷ []

abbrev pub seen_events : List Event
seen_events =
    GetHalf 0 0 ∷ GetInt (bytes_at 0 0 8) ∷ name_of_expected
    ∷ CasHalf 0 0 (SeenFound (FoundPlain (ObjectHalf 3))) (KeptPair 67584 (ObjectHalf 2)) ∷ []

abbrev pub ExchangeTellsHalvesApart : Type 0
ExchangeTellsHalvesApart =
    YieldsWith 2 0 exchange
    (expected_answers ++ Granted ∷ seen_answers ++ Found (FoundPlain (ObjectHalf 4)) ∷ seen_answers ++ Found (FoundPlain Freed)
    ∷ seen_answers ++ Found (FoundPlain (ObjectHalf 3)) ∷ [])
    (expected_events ++ Check (ObjectHalf 0) 65536 8 true ∷ seen_events ++ seen_events ++ seen_events) locals (integer 1)

-- another address is found: it is stored over the expected pointer by a plain store, and the exchange gives 0
abbrev pub ExchangeFails : Type 0
ExchangeFails =
    Yields exchange (expected_answers ++ Granted ∷ Found (FoundPair 4) ∷ Opened 8 Nothing ∷ Done ∷ Granted ∷ Done ∷ Done ∷ [])
    (expected_events ++ Check (ObjectHalf 0) 65536 8 true ∷ GetHalf 0 0 ∷ Open 4 ∷ name_of_expected
    ∷ Check (ObjectHalf 1) 66560 8 true ∷ SetInt (bytes_at 1 0 8) 8 ∷ SetHalf 1 0 (KeptPlain Nothing) ∷ []) locals (integer 0)

-- there may be no cell
abbrev pub ExchangeWantsACell : Type 0
ExchangeWantsACell =
    Traps exchange (expected_answers ++ Refused NoCell ∷ []) (expected_events ++ Check (ObjectHalf 0) 65536 8 true ∷ []) NoCell
