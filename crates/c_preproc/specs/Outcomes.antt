-- What a step gives, or its fault.
use Rattle.std.specs.Prelude.{◌≡◌, ◌≢◌, Result, Ok, Err}
use Rattle.c_preproc.specs.declared.fault.PreFault.{PreFault}
use Rattle.c_preproc.specs.declared.fault.PreFault.TheVariants.{NoMemory}

-- the next step, if there was no fault
abbrev pub and_then : {A B : Type 0} → Result A PreFault → (A → Result B PreFault) → Result B PreFault
and_then (Ok x) next = next x
and_then (Err fault) next = Err fault

-- a call gives what the definition does, seen like this, unless memory ran out
abbrev pub Gives : {A B : Type 0} → Result B PreFault → (A → B) → Result A PreFault → Type 0
Gives definition view (Ok x) = definition ≡ Ok (view x)
Gives definition view (Err fault) = fault ≢ NoMemory → definition ≡ Err fault
