-- Which operands each operation has, and what it may name.
use Rattle.std.specs.Prelude.{◌≡◌, ℕ, suc, ◌<◌, ◌≤◌, Bool, true, false, List, length, slice_get, All, IsSomeAnd, IsTrue, Contains}
use Rattle.filc_num.specs.declared.integer.IntType.{IntType}
use Rattle.filc_num.specs.declared.integer.BinOp.{BinOp}
use Rattle.filc_num.specs.declared.integer.BinOp.TheVariants.{Add, Sub, And, Or, Xor, Lt, Le, Gt, Ge, Eq, Ne}
use Rattle.filc_num.specs.Integers.{is_promoted}
use Rattle.c_types.specs.declared.ctype.TheConstants.{MOST_OBJECT_BYTES}
use Rattle.c_tree.specs.declared.operation.Operation.{Operation}
use Rattle.c_tree.specs.declared.operation.Operation.TheVariants as op
use Rattle.c_tree.specs.declared.operation.Access.{Access}
use Rattle.c_tree.specs.declared.operation.Access.TheVariants as access
use Rattle.c_tree.specs.declared.operation.Change.{Change}
use Rattle.c_tree.specs.declared.operation.Change.TheVariants as change

-- what a function is to those that call it: the number of its type, and how many parameters it has
pub record Callee : Type 0 where
  pub kind : ℕ
  pub parameters : ℕ

-- what the trees of a program may name
pub record Outline : Type 0 where
  pub callees : List Callee
  pub statics : ℕ

-- where an expression or a statement stands: in a function with so many locals, of which these have a home here;
-- and whether a loop or switch is round it that `break` leaves, and a loop in which `continue` goes on
pub record Context : Type 0 where
  pub locals : ℕ
  pub homes : List ℕ
  pub may_break : Bool
  pub may_continue : Bool

abbrev pub IsLocal : Context → ℕ → Type 0
IsLocal here local = local < here.locals

-- a local that can be set: it has no home here, so what it holds is its value
abbrev pub IsValue : Context → ℕ → Type 0
IsValue here local = (local < here.locals) × (Contains here.homes local → ⊥)

abbrev pub is_comparison : BinOp → Bool
is_comparison Lt = true
is_comparison Le = true
is_comparison Gt = true
is_comparison Ge = true
is_comparison Eq = true
is_comparison Ne = true
is_comparison _ = false

-- the operators of the atomic calls
abbrev pub is_fetched : BinOp → Bool
is_fetched Add = true
is_fetched Sub = true
is_fetched And = true
is_fetched Or = true
is_fetched Xor = true
is_fetched _ = false

abbrev pub IsPromoted : IntType → Type 0
IsPromoted ty = IsTrue (is_promoted ty)

-- an element's bytes: no object has more
abbrev pub IsElementSize : ℕ → Type 0
IsElementSize bytes = bytes ≤ MOST_OBJECT_BYTES

-- a change of a local is computed in a type that promotions leave
abbrev pub ChangeFits : Change → Type 0
ChangeFits (change.Integer operator computed to) = IsPromoted computed
ChangeFits (change.Advance bytes) = IsElementSize bytes
ChangeFits (change.Retreat bytes) = IsElementSize bytes

-- a change of what lies in memory: an integer is converted back to its own type, and a pointer goes forward or back.
-- An atomic pointer isn't changed so
abbrev pub IsChangeOf : Access → Change → Type 0
IsChangeOf (access.Integer ty) (change.Integer operator computed to) = IsPromoted computed × (to ≡ ty)
IsChangeOf access.Pointer (change.Advance bytes) = IsElementSize bytes
IsChangeOf access.Pointer (change.Retreat bytes) = IsElementSize bytes
IsChangeOf lies how = ⊥

-- what an atomic exchange is of: an integer or an atomic pointer
abbrev pub IsExchanged : Access → Type 0
IsExchanged (access.Integer ty) = Unit {0}
IsExchanged access.Pointer = ⊥
IsExchanged access.Box = Unit {0}

-- an operation on so many operands
abbrev pub OpFits : Outline → Context → Operation → ℕ → Type 0
OpFits o here (op.Number value) n = n ≡ 0
OpFits o here (op.Local local) n = (n ≡ 0) × IsLocal here local
OpFits o here (op.Static number) n = (n ≡ 0) × (number < o.statics)
OpFits o here (op.Function number) n = (n ≡ 0) × (number < length o.callees)
OpFits o here (op.Convert ty) n = n ≡ 1
OpFits o here (op.Binary operator ty) n = (n ≡ 2) × IsPromoted ty
OpFits o here (op.Negate ty) n = (n ≡ 1) × IsPromoted ty
OpFits o here (op.Complement ty) n = (n ≡ 1) × IsPromoted ty
OpFits o here (op.Not ty) n = (n ≡ 1) × IsPromoted ty
OpFits o here (op.Advance bytes) n = (n ≡ 2) × IsElementSize bytes
OpFits o here (op.Retreat bytes) n = (n ≡ 2) × IsElementSize bytes
OpFits o here (op.AdvanceBy bytes) n = (n ≡ 2) × IsElementSize bytes
OpFits o here (op.Offset bytes) n = n ≡ 1
OpFits o here op.ToPointer n = n ≡ 1
OpFits o here (op.Distance bytes) n = (n ≡ 2) × (0 < bytes) × IsElementSize bytes
OpFits o here (op.Compare operator) n = (n ≡ 2) × IsTrue (is_comparison operator)
OpFits o here (op.ToInteger ty) n = n ≡ 1
OpFits o here (op.SetLocal local) n = (n ≡ 1) × IsValue here local
OpFits o here (op.UpdateLocal local how) n = (n ≡ 1) × IsValue here local × ChangeFits how
OpFits o here (op.StepLocal local how) n = (n ≡ 1) × IsValue here local × ChangeFits how
OpFits o here (op.Load lies) n = n ≡ 1
OpFits o here (op.Store lies) n = n ≡ 2
OpFits o here (op.Update lies how) n = (n ≡ 2) × IsChangeOf lies how
OpFits o here (op.Step lies how) n = (n ≡ 2) × IsChangeOf lies how
OpFits o here (op.Copy unit count) n = (n ≡ 2) × (count ≤ MOST_OBJECT_BYTES)
OpFits o here (op.Swap lies) n = (n ≡ 2) × IsExchanged lies
OpFits o here (op.Cas lies) n = (n ≡ 3) × IsExchanged lies
OpFits o here (op.Fetch object operator computed) n = (n ≡ 2) × IsTrue (is_fetched operator) × IsPromoted computed
OpFits o here (op.Combine object operator computed) n = (n ≡ 2) × IsPromoted computed
OpFits o here (op.Call number) n = IsSomeAnd (slice_get o.callees number) (λ c. n ≡ c.parameters)
OpFits o here (op.CallPointer kind) n = (0 < n) × All (λ (c : Callee). c.kind ≡ kind → n ≡ suc c.parameters) o.callees
OpFits o here op.New n = n ≡ 1
OpFits o here op.Free n = n ≡ 1
OpFits o here op.Size n = n ≡ 1
OpFits o here op.Lock n = n ≡ 1
OpFits o here op.Out n = n ≡ 1
OpFits o here op.Input n = n ≡ 0
OpFits o here op.Spawn n = n ≡ 2
OpFits o here op.Join n = n ≡ 1
OpFits o here op.SelfId n = n ≡ 0
OpFits o here op.Exit n = n ≡ 1
OpFits o here op.Abort n = n ≡ 0
OpFits o here op.Second n = n ≡ 2
