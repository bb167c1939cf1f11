-- Which word or operator a terminal is, as nodes of the tree have it. What isn't said is the last case, for terminals that
-- never stand there.
use Rattle.std.specs.Prelude.{Option, Some, None}
use Rattle.filc_num.specs.declared.integer.BinOp.{BinOp}
use Rattle.filc_num.specs.declared.integer.BinOp.TheVariants as b
use Rattle.c_parts.specs.declared.terminal.Terminal.{Terminal}
use Rattle.c_parts.specs.declared.terminal.Terminal.TheVariants as t
use Rattle.c_syntax.specs.declared.words.Storage.{Storage}
use Rattle.c_syntax.specs.declared.words.Storage.TheVariants as s
use Rattle.c_syntax.specs.declared.words.FunctionSpecifier.{FunctionSpecifier}
use Rattle.c_syntax.specs.declared.words.FunctionSpecifier.TheVariants as f
use Rattle.c_syntax.specs.declared.words.Qualifier.{Qualifier}
use Rattle.c_syntax.specs.declared.words.Qualifier.TheVariants as q
use Rattle.c_syntax.specs.declared.words.BasicType.{BasicType}
use Rattle.c_syntax.specs.declared.words.BasicType.TheVariants as y
use Rattle.c_syntax.specs.declared.words.RecordKind.{RecordKind}
use Rattle.c_syntax.specs.declared.words.RecordKind.TheVariants as r
use Rattle.c_syntax.specs.declared.words.Prefix.{Prefix}
use Rattle.c_syntax.specs.declared.words.Prefix.TheVariants as p
use Rattle.c_syntax.specs.declared.words.Operator.{Operator}
use Rattle.c_syntax.specs.declared.words.Operator.TheVariants as o

abbrev pub storage_of : Terminal → Storage
storage_of t.Extern = s.Extern
storage_of t.Static = s.Static
storage_of t.Auto = s.Auto
storage_of t.Register = s.Register
storage_of _ = s.Typedef

abbrev pub function_of : Terminal → FunctionSpecifier
function_of t.NoReturn = f.NoReturn
function_of _ = f.Inline

abbrev pub qualifier_of : Terminal → Qualifier
qualifier_of t.Volatile = q.Volatile
qualifier_of t.Restrict = q.Restrict
qualifier_of t.Atomic = q.Atomic
qualifier_of _ = q.Const

abbrev pub basic_of : Terminal → BasicType
basic_of t.Char = y.Char
basic_of t.Short = y.Short
basic_of t.Int = y.Int
basic_of t.Long = y.Long
basic_of t.Signed = y.Signed
basic_of t.Unsigned = y.Unsigned
basic_of t.Bool = y.Bool
basic_of _ = y.Void

abbrev pub record_of : Terminal → RecordKind
record_of t.Union = r.Union
record_of _ = r.Struct

abbrev pub prefix_of : Terminal → Prefix
prefix_of t.Decrement = p.Decrement
prefix_of t.Ampersand = p.AddressOf
prefix_of t.Star = p.Dereference
prefix_of t.Plus = p.Plus
prefix_of t.Minus = p.Minus
prefix_of t.Tilde = p.Complement
prefix_of t.Exclamation = p.Not
prefix_of _ = p.Increment

abbrev pub operator_of : Terminal → Operator
operator_of t.Star = o.Binary b.Mul
operator_of t.Slash = o.Binary b.Div
operator_of t.Percent = o.Binary b.Rem
operator_of t.Plus = o.Binary b.Add
operator_of t.Minus = o.Binary b.Sub
operator_of t.ShiftLeft = o.Binary b.Shl
operator_of t.ShiftRight = o.Binary b.Shr
operator_of t.Less = o.Binary b.Lt
operator_of t.LessEqual = o.Binary b.Le
operator_of t.Greater = o.Binary b.Gt
operator_of t.GreaterEqual = o.Binary b.Ge
operator_of t.EqualEqual = o.Binary b.Eq
operator_of t.NotEqual = o.Binary b.Ne
operator_of t.Ampersand = o.Binary b.And
operator_of t.Caret = o.Binary b.Xor
operator_of t.Bar = o.Binary b.Or
operator_of t.AndAnd = o.LogicalAnd
operator_of _ = o.LogicalOr

-- the operator of an assignment, None for a plain one
abbrev pub assigned_of : Terminal → Option BinOp
assigned_of t.StarEqual = Some b.Mul
assigned_of t.SlashEqual = Some b.Div
assigned_of t.PercentEqual = Some b.Rem
assigned_of t.PlusEqual = Some b.Add
assigned_of t.MinusEqual = Some b.Sub
assigned_of t.ShiftLeftEqual = Some b.Shl
assigned_of t.ShiftRightEqual = Some b.Shr
assigned_of t.AmpersandEqual = Some b.And
assigned_of t.CaretEqual = Some b.Xor
assigned_of t.BarEqual = Some b.Or
assigned_of _ = None
