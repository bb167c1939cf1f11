-- The code of every program is well formed.
use Rattle.std.proofs.Common.{◌≡◌, ℕ, suc, ◌+◌, ◌<◌, ◌≤◌, refl, ap, List, [], ◌∷◌, ◌++◌, length, map, All, sym, subst, arith, length-append}
use Rattle.std.proofs.lemmas.List.{length-map}
use Rattle.std.proofs.lemmas.List.Elements.{All-cons, All-nil, All-head, All-tail}
use Rattle.filc_num.specs.declared.statics.StaticDef.{StaticDef}
use Rattle.filc_num.specs.declared.statics.StaticHalf.{StaticHalf}
use Rattle.filc_num.specs.declared.statics.StaticHalf.TheVariants as half
use Rattle.c_tree.specs.declared.program.FunctionDef.{FunctionDef}
use Rattle.c_tree.specs.Operands.{Outline}
use Rattle.c_tree.specs.Fits.{body_context, FunctionFits, HalfFits, StaticFits, callee_of, outline_of, IsProgram}
use Rattle.c_tree.specs.Plain.{PlainProgram}
use Rattle.c_tree.specs.Temps.{needed_by, stmt_temps}
use Rattle.whole_code.specs.declared.op.Op.TheVariants.{Const, Return}
use Rattle.whole_code.specs.declared.op.Instruction.{Instruction}
use Rattle.whole_code.specs.Plain.{PlainFunction, PlainCode}
use Rattle.whole_code.specs.WellFormed.{Named, LeavesPlace, EndsInLeaving, IsFunctionWellFormed, KeepsHalf, IsStaticWellFormed, named_in, IsWellFormed}
use Rattle.expr_gen.specs.Operations.{at_line}
use Rattle.stmt_gen.specs.Code.{stmt_size, stmt_code}
use Rattle.stmt_gen.specs.Programs.{body_exits, end_code, body_code, function_code, program_code}
use Rattle.stmt_gen.proofs.Sizes.{stmt_length}
use Rattle.code_fits.specs.Formed.{named_by}
use Rattle.code_fits.proofs.Instructions.{formed}
use Rattle.code_fits.proofs.Operations.{is_there}
use Rattle.code_fits.proofs.Expressions.{and_then, one, joined}
use Rattle.code_fits.proofs.Statements.{stmt_formed}

-- control never goes past a return at the end
ends_in : (code : List Instruction) (i j : Instruction) → LeavesPlace j.op → EndsInLeaving (code ++ (i ∷ (j ∷ [])))
ends_in [] i j h = h
ends_in (a ∷ []) i j h = h
ends_in (a ∷ b ∷ code) i j h = ends_in (b ∷ code) i j h

function_formed : (outline : Outline) (f : FunctionDef) → FunctionFits outline f → IsFunctionWellFormed (named_by outline) (function_code f)
function_formed outline f fits =
    let n = named_by outline in
    let k = f.locals in
    let g = function_code f in
    let cs = stmt_code f.library f.body k 0 (body_exits f) in
    let zero_at = at_line f.library f.line (Const k 0) in
    let give = at_line f.library f.line (Return k) in
    let long : length g.instructions ≡ stmt_size f.body + 2 = omega (arith, length-append cs (zero_at ∷ (give ∷ [])), stmt_length f.library f.body k 0 (body_exits f)) in
    let room : k + stmt_temps f.body + 6 ≤ f.values = omega (arith, fits.needed) in
    let h : k < f.values = omega (arith, room) in
    let inside : stmt_size f.body < length g.instructions = omega (arith, long) in
    record {
      values = fits.values;
      parameters = omega (arith, fits.parameters, h);
      each = joined n g cs (zero_at ∷ (give ∷ []))
          (stmt_formed outline g f.library k (omega (arith, room)) (body_context f) f.body 0 (body_exits f) fits.body (omega arith) room (omega (arith, inside)) inside inside)
          (and_then n g zero_at (give ∷ []) (formed n g (Const k 0) tt (h, tt) tt tt tt) (one n g give (formed n g (Return k) (h, tt) tt tt tt tt)));
      ends = ends_in cs zero_at give tt;
    }

functions_formed :
    (outline : Outline) (fs : List FunctionDef) → All (FunctionFits outline) fs → All (IsFunctionWellFormed (named_by outline)) (map function_code fs)
functions_formed outline [] h = All-nil (IsFunctionWellFormed (named_by outline))
functions_formed outline (f ∷ fs) h =
    All-cons (IsFunctionWellFormed (named_by outline)) (function_code f) (map function_code fs) (function_formed outline f (All-head (FunctionFits outline) f fs h))
    (functions_formed outline fs (All-tail (FunctionFits outline) f fs h))

half_formed : (outline : Outline) (h : StaticHalf) → HalfFits outline h → KeepsHalf (named_by outline) h
half_formed outline half.None fit = tt
half_formed outline (half.Object s) fit = fit
half_formed outline (half.Function f) fit = fit

halves_formed : (outline : Outline) (hs : List StaticHalf) → All (HalfFits outline) hs → All (KeepsHalf (named_by outline)) hs
halves_formed outline [] fit = All-nil (KeepsHalf (named_by outline))
halves_formed outline (h ∷ hs) fit =
    All-cons (KeepsHalf (named_by outline)) h hs (half_formed outline h (All-head (HalfFits outline) h hs fit)) (halves_formed outline hs (All-tail (HalfFits outline) h hs fit))

statics_formed : (outline : Outline) (ss : List StaticDef) → All (StaticFits outline) ss → All (IsStaticWellFormed (named_by outline)) ss
statics_formed outline [] fit = All-nil (IsStaticWellFormed (named_by outline))
statics_formed outline (s ∷ ss) fit =
    let first : StaticFits outline s = All-head (StaticFits outline) s ss fit in
    All-cons (IsStaticWellFormed (named_by outline)) s ss (halves_formed outline s.halves.items first.halves)
    (statics_formed outline ss (All-tail (StaticFits outline) s ss fit))

-- what code may name is what its program has
same_named : (program : PlainProgram) → named_by (outline_of program) ≡ named_in (program_code program)
same_named program =
    let counts : length (map callee_of program.functions) ≡ length (map function_code program.functions) =
    omega (arith, length-map program.functions callee_of, length-map program.functions function_code) in
    ap (λ k. (let named : Named = record { functions = k; statics = length program.statics } in named)) counts

pub programs_are_formed : (program : PlainProgram) → IsProgram program → IsWellFormed (program_code program)
programs_are_formed program is =
    let outline = outline_of program in
    record {
      functions = subst (λ n. All (IsFunctionWellFormed n) (map function_code program.functions)) (same_named program) (functions_formed outline program.functions is.functions);
      statics = subst (λ n. All (IsStaticWellFormed n) program.statics) (same_named program) (statics_formed outline program.statics is.statics);
      main = omega (arith, is_there program.functions program.main _ is.main, length-map program.functions function_code);
    }
