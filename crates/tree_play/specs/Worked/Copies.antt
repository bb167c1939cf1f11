-- Worked plays of structures that are copied, from object 1 to object 0.
use Rattle.std.specs.Prelude.{ℕ, [], ◌∷◌, true, false}
use Rattle.c_tree.specs.declared.operation.Operation.TheVariants as op
use Rattle.c_tree.specs.declared.operation.Unit.TheVariants.{Byte, TwoBytes, FourBytes, Pointer}
use Rattle.ideal_machine.specs.declared.value.Half.{Half}
use Rattle.ideal_machine.specs.declared.value.Half.TheVariants.{Object as ObjectHalf}
use Rattle.ideal_machine.specs.declared.value.Kept.TheVariants.{Plain as KeptPlain}
use Rattle.ideal_machine.specs.declared.value.Found.TheVariants.{Plain as FoundPlain, Pair as FoundPair}
use Rattle.ideal_machine.specs.declared.event.Event.TheVariants.{Check, GetInt, SetInt, GetHalf, Open, SetHalf}
use Rattle.ideal_machine.specs.declared.event.Answer.TheVariants.{Granted, Done, Number, Found, Opened}
use Rattle.tree_play.specs.Worked.Setting.{two, static, bytes_at, into, YieldsWith, expr_play}

-- one of two words: a pointer read and a pointer store for each, ascending, so both halves are copied; a pair becomes two halves
abbrev pub WordsAreCopied : Type 0
WordsAreCopied =
    (half other : Half) (n m : ℕ) →
    YieldsWith 2 0 (expr_play (two (op.Copy Pointer 2) (static 0) (static 1)) [])
    (Granted ∷ Found (FoundPlain half) ∷ Number n ∷ Granted ∷ Done ∷ Done
    ∷ Granted ∷ Found (FoundPair 4) ∷ Opened m other ∷ Granted ∷ Done ∷ Done ∷ [])
    (Check (ObjectHalf 1) 66560 8 false ∷ GetHalf 1 0 ∷ GetInt (bytes_at 1 0 8)
    ∷ Check (ObjectHalf 0) 65536 8 true ∷ SetInt (bytes_at 0 0 8) n ∷ SetHalf 0 0 (KeptPlain half)
    ∷ Check (ObjectHalf 1) 66568 8 false ∷ GetHalf 1 1 ∷ Open 4
    ∷ Check (ObjectHalf 0) 65544 8 true ∷ SetInt (bytes_at 0 8 8) m ∷ SetHalf 0 1 (KeptPlain other) ∷ []) [] (into 0 0)

-- one of two bytes: as integers, and no half is read
abbrev pub BytesAreCopied : Type 0
BytesAreCopied =
    YieldsWith 2 0 (expr_play (two (op.Copy Byte 2) (static 0) (static 1)) [])
    (Granted ∷ Number 200 ∷ Granted ∷ Done ∷ Granted ∷ Number 3 ∷ Granted ∷ Done ∷ [])
    (Check (ObjectHalf 1) 66560 1 false ∷ GetInt (bytes_at 1 0 1) ∷ Check (ObjectHalf 0) 65536 1 true ∷ SetInt (bytes_at 0 0 1) 200
    ∷ Check (ObjectHalf 1) 66561 1 false ∷ GetInt (bytes_at 1 1 1) ∷ Check (ObjectHalf 0) 65537 1 true ∷ SetInt (bytes_at 0 1 1) 3 ∷ [])
    [] (into 0 0)

-- of two numbers of two bytes, and of four
abbrev pub NumbersAreCopied : Type 0
NumbersAreCopied =
    YieldsWith 2 0 (expr_play (two (op.Copy TwoBytes 2) (static 0) (static 1)) [])
    (Granted ∷ Number 65535 ∷ Granted ∷ Done ∷ Granted ∷ Number 3 ∷ Granted ∷ Done ∷ [])
    (Check (ObjectHalf 1) 66560 2 false ∷ GetInt (bytes_at 1 0 2) ∷ Check (ObjectHalf 0) 65536 2 true ∷ SetInt (bytes_at 0 0 2) 65535
    ∷ Check (ObjectHalf 1) 66562 2 false ∷ GetInt (bytes_at 1 2 2) ∷ Check (ObjectHalf 0) 65538 2 true ∷ SetInt (bytes_at 0 2 2) 3 ∷ [])
    [] (into 0 0)
    × YieldsWith 2 0 (expr_play (two (op.Copy FourBytes 2) (static 0) (static 1)) [])
    (Granted ∷ Number 4294967295 ∷ Granted ∷ Done ∷ Granted ∷ Number 3 ∷ Granted ∷ Done ∷ [])
    (Check (ObjectHalf 1) 66560 4 false ∷ GetInt (bytes_at 1 0 4) ∷ Check (ObjectHalf 0) 65536 4 true ∷ SetInt (bytes_at 0 0 4) 4294967295
    ∷ Check (ObjectHalf 1) 66564 4 false ∷ GetInt (bytes_at 1 4 4) ∷ Check (ObjectHalf 0) 65540 4 true ∷ SetInt (bytes_at 0 4 4) 3 ∷ [])
    [] (into 0 0)
