-- The registers of all activations in one block: 1,024 frames of 256, the outermost first.
--
-- An activation has a frame by its depth, and of that as many registers as its function has values.
use Rattle.std.specs.Prelude.{ℕ, zero, suc, ◌*◌, List, [], ◌∷◌, take, drop, None, slice_index_or}
use Rattle.filc_num.specs.declared.registers.TheConstants.{REGISTERS}
use Rattle.ideal_machine.specs.declared.value.Value.{Value}
use Rattle.whole_thread.specs.Standing.{Caller}
use Rattle.thread_steps.specs.declared.activation.Activation.{Activation}

-- the registers of an activation with so many values at a depth
abbrev pub frame_registers : List Value → (depth values : ℕ) → List Value
frame_registers registers depth values = take values (take REGISTERS (drop (REGISTERS * depth) registers))

-- an activation at a depth that waits for one that it called
abbrev pub caller_of : List Value → (depth : ℕ) → Activation → Caller
caller_of registers depth a = record {
  frame = record {
    function = a.function;
    index = a.index;
    called_at = a.called_at;
    registers = frame_registers registers depth a.values;
  };
  result = a.result;
}

-- what stands where no activation waits
abbrev pub no_activation : Activation
no_activation = record { function = 0; index = 0; called_at = None; values = 0; result = 0 }

-- the activations below a depth, from the innermost on
abbrev pub callers_of : List Activation → List Value → (depth : ℕ) → List Caller
callers_of activations registers zero = []
callers_of activations registers (suc depth) =
    caller_of registers depth (slice_index_or activations depth no_activation) ∷ callers_of activations registers depth
