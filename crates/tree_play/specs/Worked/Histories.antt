-- Worked legal histories: what a program asks and what the machine answers, put together.
--
--     char a, b; char *p;
--     int f(void *x) { p = x; return 0; }
--     int main(void) { spawn(f, &b); p = &a; return *p; }
use Rattle.std.specs.Prelude.{◌≡◌, ℕ, List, [], ◌∷◌, map, true, false}
use Rattle.filc_num.specs.declared.integer.IntType.TheVariants.{I8}
use Rattle.filc_num.specs.declared.reason.Reason.TheVariants.{Bounds}
use Rattle.filc_num.specs.declared.statics.StaticDef.{StaticDef}
use Rattle.filc_num.specs.declared.statics.StaticHalf.TheVariants as static_half
use Rattle.filc_num.specs.StaticDefs.{PlainStatic, plain_static}
use Rattle.c_tree.specs.declared.operation.Operation.TheVariants as op
use Rattle.c_tree.specs.declared.operation.Access.TheVariants.{Integer, Pointer}
use Rattle.c_tree.specs.declared.stmt.Stmt.{Run}
use Rattle.c_tree.specs.declared.program.FunctionDef.{FunctionDef}
use Rattle.c_tree.specs.Plain.{plain_program}
use Rattle.ideal_machine.specs.declared.value.Half.TheVariants.{Nothing, Object as ObjectHalf}
use Rattle.ideal_machine.specs.declared.value.Kept.TheVariants.{Plain as KeptPlain}
use Rattle.ideal_machine.specs.declared.value.Found.TheVariants.{Plain as FoundPlain}
use Rattle.ideal_machine.specs.declared.event.Event.{Event}
use Rattle.ideal_machine.specs.declared.event.Event.TheVariants.{Check, GetInt, SetInt, GetHalf, SetHalf, Spawn, Begin, Trap}
use Rattle.ideal_machine.specs.declared.event.Answer.{Answer}
use Rattle.ideal_machine.specs.declared.event.Answer.TheVariants.{Granted, Refused, Done, Number, Found}
use Rattle.ideal_machine.specs.Memory.{default_world}
use Rattle.tree_play.specs.Legal.{Entry, History, IsLegalHistory}
use Rattle.tree_play.specs.Worked.Setting.{leaf, one, two, number, local, static, bytes_at, block_of_two, block_of_three}
use Rattle.tree_play.specs.Worked.Programs.{function_of, main_of, returns}

-- ---- the program

-- so many bytes of zeros, in one word
abbrev pub zeros : ℕ → PlainStatic
zeros bytes = record { bytes = bytes; literal = false; words = 0 ∷ []; halves = static_half.None ∷ [] }

-- a, b and p
abbrev pub statics : List PlainStatic
statics = zeros 1 ∷ zeros 1 ∷ zeros 8 ∷ []

abbrev pub functions : List FunctionDef
functions =
    main_of
    (block_of_three [] (Run (two op.Spawn (leaf (op.Function 1)) (static 1))) (Run (two (op.Store Pointer) (static 2) (static 0)))
    (returns (one (op.Load (Integer I8)) (one (op.Load Pointer) (static 2)))))
    ∷ function_of false 0 1 (block_of_two [] (Run (two (op.Store Pointer) (static 2) (local 0))) (returns (number 0))) ∷ []

-- a history that the program may have, however its static objects are kept, and whatever the bound
abbrev pub IsLegal : History → Type 0
IsLegal history =
    (n : ℕ) (kept : List StaticDef) → map plain_static kept ≡ statics →
    IsLegalHistory history (plain_program functions kept 0) (default_world []) n

-- ---- a torn pair

abbrev pub entry : (actor : ℕ) → Event → Answer → Entry
entry actor event answer = record { actor = actor; event = event; answer = answer }

-- where a, b and p lie
abbrev pub a_address : ℕ
a_address = 8454632

abbrev pub b_address : ℕ
b_address = 8454688

abbrev pub p_address : ℕ
p_address = 8454744

-- `main` stores the address of a, the other thread both halves of &b, `main` the half of a: then p has b's address with a's
-- capability, and `*p` is refused
abbrev pub torn : History
torn =
    entry 0 (Begin 0 0 Nothing) Done
    ∷ entry 0 (Spawn 1 b_address (ObjectHalf 1)) (Number 1)
    ∷ entry 1 (Begin 1 b_address (ObjectHalf 1)) Done
    ∷ entry 0 (Check (ObjectHalf 2) p_address 8 true) Granted
    ∷ entry 0 (SetInt (bytes_at 2 0 8) a_address) Done
    ∷ entry 1 (Check (ObjectHalf 2) p_address 8 true) Granted
    ∷ entry 1 (SetInt (bytes_at 2 0 8) b_address) Done
    ∷ entry 1 (SetHalf 2 0 (KeptPlain (ObjectHalf 1))) Done
    ∷ entry 0 (SetHalf 2 0 (KeptPlain (ObjectHalf 0))) Done
    ∷ entry 0 (Check (ObjectHalf 2) p_address 8 false) Granted
    ∷ entry 0 (GetHalf 2 0) (Found (FoundPlain (ObjectHalf 0)))
    ∷ entry 0 (GetInt (bytes_at 2 0 8)) (Number b_address)
    ∷ entry 0 (Check (ObjectHalf 0) b_address 1 false) (Refused Bounds)
    ∷ entry 0 (Trap Bounds 1) Done ∷ []

abbrev pub TornPairIsLegal : Type 0
TornPairIsLegal = IsLegal torn
