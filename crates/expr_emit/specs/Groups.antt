-- The groups of operations, in the order of their code's definition: each group's code is put by a function of its own.
use Rattle.c_tree.specs.declared.operation.Operation.{Operation}
use Rattle.c_tree.specs.declared.operation.Operation.TheVariants as op

-- operations on integers
abbrev pub IsOnIntegers : Operation → Type 0
IsOnIntegers (op.Convert ty) = Unit {0}
IsOnIntegers (op.Binary operator ty) = Unit {0}
IsOnIntegers (op.Negate ty) = Unit {0}
IsOnIntegers (op.Complement ty) = Unit {0}
IsOnIntegers (op.Not ty) = Unit {0}
IsOnIntegers o = ⊥

-- pointers that move
abbrev pub MovesPointer : Operation → Type 0
MovesPointer (op.Advance bytes) = Unit {0}
MovesPointer (op.Retreat bytes) = Unit {0}
MovesPointer (op.AdvanceBy bytes) = Unit {0}
MovesPointer (op.Offset bytes) = Unit {0}
MovesPointer op.ToPointer = Unit {0}
MovesPointer o = ⊥

-- pointers that are looked at
abbrev pub LooksAtPointer : Operation → Type 0
LooksAtPointer (op.Distance bytes) = Unit {0}
LooksAtPointer (op.Compare operator) = Unit {0}
LooksAtPointer (op.ToInteger ty) = Unit {0}
LooksAtPointer o = ⊥

-- locals without a home
abbrev pub WritesLocal : Operation → Type 0
WritesLocal (op.SetLocal x) = Unit {0}
WritesLocal (op.UpdateLocal x how) = Unit {0}
WritesLocal (op.StepLocal x how) = Unit {0}
WritesLocal o = ⊥

-- memory
abbrev pub IsOnMemory : Operation → Type 0
IsOnMemory (op.Load lies) = Unit {0}
IsOnMemory (op.Store lies) = Unit {0}
IsOnMemory (op.Update lies how) = Unit {0}
IsOnMemory (op.Step lies how) = Unit {0}
IsOnMemory (op.Copy unit count) = Unit {0}
IsOnMemory o = ⊥

-- atomic operations
abbrev pub IsAtomic : Operation → Type 0
IsAtomic (op.Swap lies) = Unit {0}
IsAtomic (op.Cas lies) = Unit {0}
IsAtomic (op.Fetch object operator computed) = Unit {0}
IsAtomic (op.Combine object operator computed) = Unit {0}
IsAtomic o = ⊥

-- intrinsics
abbrev pub IsIntrinsic : Operation → Type 0
IsIntrinsic op.New = Unit {0}
IsIntrinsic op.Free = Unit {0}
IsIntrinsic op.Size = Unit {0}
IsIntrinsic op.Lock = Unit {0}
IsIntrinsic op.Out = Unit {0}
IsIntrinsic op.Input = Unit {0}
IsIntrinsic op.Spawn = Unit {0}
IsIntrinsic op.Join = Unit {0}
IsIntrinsic op.SelfId = Unit {0}
IsIntrinsic op.Exit = Unit {0}
IsIntrinsic op.Abort = Unit {0}
IsIntrinsic o = ⊥

-- constants, locals, objects and functions, calls, intrinsics, and the comma: each is one instruction
abbrev pub IsOfOneOp : Operation → Type 0
IsOfOneOp (op.Number v) = Unit {0}
IsOfOneOp (op.Local x) = Unit {0}
IsOfOneOp (op.Static s) = Unit {0}
IsOfOneOp (op.Function f) = Unit {0}
IsOfOneOp (op.Call f) = Unit {0}
IsOfOneOp (op.CallPointer kind) = Unit {0}
IsOfOneOp op.New = Unit {0}
IsOfOneOp op.Free = Unit {0}
IsOfOneOp op.Size = Unit {0}
IsOfOneOp op.Lock = Unit {0}
IsOfOneOp op.Out = Unit {0}
IsOfOneOp op.Input = Unit {0}
IsOfOneOp op.Spawn = Unit {0}
IsOfOneOp op.Join = Unit {0}
IsOfOneOp op.SelfId = Unit {0}
IsOfOneOp op.Exit = Unit {0}
IsOfOneOp op.Abort = Unit {0}
IsOfOneOp op.Second = Unit {0}
IsOfOneOp o = ⊥
