-- What an operation does with the values of its operands: a line each.
--
-- The line is that of a trap. An operation without a value of its own gives its first operand's. One on other operands
-- than it has stands in no program.
use Rattle.std.specs.Prelude.{ℕ, ◌*◌, List, [], ◌∷◌}
use Rattle.filc_num.specs.Integers.{convert_of}
use Rattle.filc_num.specs.declared.integer.BinOp.TheVariants.{Sub, Xor, Eq}
use Rattle.filc_num.specs.declared.reason.Reason.TheVariants.{Abort}
use Rattle.c_tree.specs.declared.operation.Operation.{Operation}
use Rattle.c_tree.specs.declared.operation.Operation.TheVariants as op
use Rattle.ideal_machine.specs.declared.value.Value.{Value}
use Rattle.ideal_machine.specs.declared.event.Operation.TheVariants.{Compute}
use Rattle.ideal_machine.specs.Values.{State, integer, value_at, put_at}
use Rattle.ideal_machine.specs.Play.{Gives, Stops, Call, Waits, bind}
use Rattle.ideal_machine.specs.Phrases.{arithmetic, exit, trap, put_out}
use Rattle.ideal_machine.specs.Addresses.{object_pointer, function_pointer, pointer_of_int, advance, retreat, distance, compare, int_of_pointer}
use Rattle.ideal_machine.specs.IntAccess.{update_int}
use Rattle.ideal_machine.specs.Lifetimes.{make_object, free_object, tell_size}
use Rattle.ideal_machine.specs.Threads.{minus_one, take_lock, function_named, start_thread, join_thread, take_in}
use Rattle.tree_play.specs.Around.{Around, TextPlay, in_state, then_give}
use Rattle.tree_play.specs.Memory.{load, store, swap, compare_exchange, operate, new_value, copy_units}

abbrev pub apply : Around → Operation → (line : ℕ) → List Value → State → TextPlay Value
-- constants, locals, objects and functions
apply around (op.Number n) line values state = Gives state (integer n)
apply around (op.Local local) line values state = Gives state (value_at state local)
apply around (op.Static n) line values state = Gives state (object_pointer around.base n)
apply around (op.Function f) line values state = Gives state (function_pointer f)
-- integers: `~a` is `a ^ -1`, and `!a` is `a == 0`
apply around (op.Convert ty) line (v ∷ []) state = Gives state (integer (convert_of v.number ty))
apply around (op.Binary operator ty) line (a ∷ b ∷ []) state = in_state state (arithmetic operator ty a b line)
apply around (op.Negate ty) line (a ∷ []) state = in_state state (arithmetic Sub ty (integer 0) a line)
apply around (op.Complement ty) line (a ∷ []) state = in_state state (arithmetic Xor ty a (integer minus_one) line)
apply around (op.Not ty) line (a ∷ []) state = in_state state (arithmetic Eq ty a (integer 0) line)
-- pointers that move
apply around (op.Advance bytes) line (p ∷ i ∷ []) state = Gives state (advance p (i.number * bytes))
apply around (op.Retreat bytes) line (p ∷ i ∷ []) state = Gives state (retreat p (i.number * bytes))
apply around (op.AdvanceBy bytes) line (i ∷ p ∷ []) state = Gives state (advance p (i.number * bytes))
apply around (op.Offset bytes) line (p ∷ []) state = Gives state (advance p bytes)
apply around op.ToPointer line (v ∷ []) state = Gives state (pointer_of_int v)
-- pointers that are looked at
apply around (op.Distance bytes) line (p ∷ q ∷ []) state = in_state state (distance bytes p q)
apply around (op.Compare operator) line (p ∷ q ∷ []) state = in_state state (compare operator p q line)
apply around (op.ToInteger ty) line (p ∷ []) state = in_state state (int_of_pointer ty p)
-- locals without a home: no event. The old value is read when the right operand is there
apply around (op.SetLocal local) line (v ∷ []) state = Gives (put_at state local v) v
apply around (op.UpdateLocal local change) line (v ∷ []) state =
    bind (new_value change (value_at state local) v line) (λ _ new. Gives (put_at state local new) new)
apply around (op.StepLocal local change) line (v ∷ []) state =
    bind (new_value change (value_at state local) v line) (λ _ new. Gives (put_at state local new) (value_at state local))
-- memory; a compound assignment reads and stores
apply around (op.Load access) line (p ∷ []) state = in_state state (load around.base access p line)
apply around (op.Store access) line (p ∷ v ∷ []) state = then_give state (store around.base access p v line) v
apply around (op.Update access change) line (p ∷ v ∷ []) state =
    bind (load around.base access p line) (λ _ old.
    bind (new_value change old v line) (λ _ new. then_give state (store around.base access p new line) new))
apply around (op.Step access change) line (p ∷ v ∷ []) state =
    bind (load around.base access p line) (λ _ old.
    bind (new_value change old v line) (λ _ new. then_give state (store around.base access p new line) old))
apply around (op.Copy unit n) line (p ∷ q ∷ []) state = then_give state (copy_units around.base unit n p q line) p
-- atomic operations; an operator without a result traps after its event, which has changed nothing then
apply around (op.Swap access) line (p ∷ v ∷ []) state = in_state state (swap around.base access p v line)
apply around (op.Cas access) line (p ∷ e ∷ v ∷ []) state = in_state state (compare_exchange around.base around.rounds access p e v line)
apply around (op.Fetch ty operator computed) line (p ∷ v ∷ []) state =
    in_state state (update_int around.base ty p (Compute operator ty computed) v line)
apply around (op.Combine ty operator computed) line (p ∷ v ∷ []) state =
    bind (update_int around.base ty p (Compute operator ty computed) v line) (λ _ old.
    in_state state (operate operator computed ty old v line))
-- calls
apply around (op.Call f) line values state = Call (in_state state (around.call f line values))
apply around (op.CallPointer kind) line (p ∷ values) state =
    bind (function_named around.kinds kind p line) (λ _ f. Call (in_state state (around.call f line values)))
-- intrinsics
apply around op.New line (bytes ∷ []) state = in_state state (make_object bytes)
apply around op.Free line (p ∷ []) state = then_give state (free_object p line) p
apply around op.Size line (p ∷ []) state = in_state state (tell_size p line)
apply around op.Lock line (p ∷ []) state = then_give state (take_lock around.base around.rounds p line) p
apply around op.Out line (v ∷ []) state = then_give state (put_out v line) v
apply around op.Input line [] state = in_state state take_in
apply around op.Spawn line (f ∷ v ∷ []) state = in_state state (start_thread around.kinds f v line)
apply around op.Join line (id ∷ []) state = in_state state (join_thread id)
apply around op.SelfId line [] state = Gives state (integer around.id)
apply around op.Exit line (v ∷ []) state = then_give state (exit v) v
apply around op.Abort line [] state = trap Abort line
-- the comma
apply around op.Second line (a ∷ b ∷ []) state = Gives state b
apply around operation line values state = Stops Waits
