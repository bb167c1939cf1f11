-- The code of a function and of a program.
--
-- The locals of a function are its first registers, and its body begins at index 0. Where control comes to the end of
-- the body, 0 is returned. Functions and static objects have the same numbers in the code as in the program.
use Rattle.std.specs.Prelude.{List, [], ◌∷◌, ◌++◌, map}
use Rattle.c_tree.specs.declared.program.FunctionDef.{FunctionDef}
use Rattle.c_tree.specs.Plain.{PlainProgram}
use Rattle.whole_code.specs.declared.op.Op.TheVariants.{Const, Return}
use Rattle.whole_code.specs.declared.op.Instruction.{Instruction}
use Rattle.whole_code.specs.Plain.{PlainFunction, PlainCode}
use Rattle.expr_gen.specs.Operations.{at_line}
use Rattle.stmt_gen.specs.Code.{Exits, stmt_size, stmt_code}

-- nothing in a body breaks out of it: its exits are its end
abbrev pub body_exits : FunctionDef → Exits
body_exits f = record { broke = stmt_size f.body; continued = stmt_size f.body }

-- a function returns 0 at the end of its body
abbrev pub end_code : FunctionDef → List Instruction
end_code f = at_line f.library f.line (Const f.locals 0) ∷ at_line f.library f.line (Return f.locals) ∷ []

-- the locals are the first registers, and the next one is where expressions have their values
abbrev pub body_code : FunctionDef → List Instruction
body_code f = stmt_code f.library f.body f.locals 0 (body_exits f) ++ end_code f

abbrev pub function_code : FunctionDef → PlainFunction
function_code f = record { values = f.values; parameters = f.parameters; kind = f.kind; instructions = body_code f }

-- functions, kinds and statics keep their numbers
abbrev pub program_code : PlainProgram → PlainCode
program_code program =
    record { functions = map function_code program.functions; statics = program.statics; main = program.main }
