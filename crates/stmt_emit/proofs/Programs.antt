-- The code of a function and of a program, whole: well formed, and it plays the program.
use Rattle.std.proofs.Common.{◌≡◌, ℕ, ◌+◌, ◌-◌, List, [], ◌∷◌, ◌++◌, length, map, All, sym, ap, ◌∙◌, subst, arith, append-nil}
use Rattle.std.proofs.lemmas.List.{length-map}
use Rattle.std.proofs.lemmas.List.Elements.{All-nil, All-cons, All-head, All-tail, All-map}
use Rattle.filc_num.specs.StaticDefs.{PlainStatic, plain_static}
use Rattle.filc_num.specs.declared.statics.StaticDef.{StaticDef}
use Rattle.c_tree.specs.declared.program.FunctionDef.{FunctionDef}
use Rattle.c_tree.specs.Plain.{PlainProgram}
use Rattle.c_tree.specs.Fits.{IsProgram}
use Rattle.whole_code.specs.declared.op.Instruction.{Instruction}
use Rattle.whole_code.specs.Plain.{PlainCode}
use Rattle.whole_code.specs.WellFormed.{Named, IsFunctionWellFormed, KeepsHalf, IsStaticWellFormed, named_in, IsWellFormed}
use Rattle.stmt_gen.specs.Code.{Exits, stmt_size, stmt_code}
use Rattle.stmt_gen.specs.Programs.{body_exits, end_code, body_code, program_code}
use Rattle.stmt_gen.specs.Correct.{PlaysOn}
use Rattle.stmt_gen.proofs.Programs.{programs_play}
use Rattle.code_fits.proofs.Programs.{programs_are_formed}
use Rattle.expr_emit.specs.Tail.{PlainTail, plain_tail, before, PutsBefore}
use Rattle.stmt_emit.specs.Compiled.{IsCodeOf, Plays}
use Rattle.stmt_emit.proofs.Statics.{other, other_plays}

-- ---- functions

pub function_built :
    (f : FunctionDef) (size total : ℕ) (x : Exits) (s0 s1 s2 : PlainTail) (code : List Instruction) → size ≡ stmt_size f.body → total ≡ size + 2 →
    x.broke ≡ size → x.continued ≡ size → s0 ≡ plain_tail total [] → s1 ≡ before (end_code f) s0 →
    PutsBefore (stmt_size f.body) (λ at. stmt_code f.library f.body f.locals at x) s1 s2 → code ≡ s2.instructions → code ≡ body_code f
function_built f size total x s0 s1 s2 code is whole bb cc' e0 e1 e2 e3 =
    let n = stmt_size f.body in
    let begin : s0.start ≡ n + 2 = ap (λ (s : PlainTail). s.start) e0 ∙ whole ∙ ap (λ k. k + 2) is in
    let start : s1.start ≡ n = omega (arith, ap (λ (s : PlainTail). s.start) e1, begin) in
    let held : s1.instructions ≡ end_code f ++ [] = ap (λ (s : PlainTail). s.instructions) e1 ∙ ap (λ (s : PlainTail). end_code f ++ s.instructions) e0 in
    let zero_at : s1.start - n ≡ 0 = omega (arith, start) in
    let exits = λ (b c : ℕ). (let y : Exits = record { broke = b; continued = c } in y) in
    let same : x ≡ body_exits f = ap (λ b. exits b x.continued) (bb ∙ is) ∙ ap (λ c. exits n c) (cc' ∙ is) in
    let made : s2.instructions ≡ stmt_code f.library f.body f.locals (s1.start - n) x ++ s1.instructions = ap (λ (s : PlainTail). s.instructions) (e2 (omega (arith, start))) in
    e3 ∙ made ∙ ap (λ i. stmt_code f.library f.body f.locals i x ++ s1.instructions) zero_at
    ∙ ap (λ y. stmt_code f.library f.body f.locals 0 y ++ s1.instructions) same
    ∙ ap (λ c. stmt_code f.library f.body f.locals 0 (body_exits f) ++ c) (held ∙ append-nil (end_code f))

-- ---- programs

module _ (P : PlainStatic → Type 0) where
  of_map : (l : List StaticDef) → All P (map plain_static l) → All (λ s. P (plain_static s)) l
  of_map [] h = All-nil (λ s. P (plain_static s))
  of_map (s ∷ l) h =
      All-cons (λ s. P (plain_static s)) s l (All-head P (plain_static s) (map plain_static l) h) (of_map l (All-tail P (plain_static s) (map plain_static l) h))

  of_copies : (l copies : List StaticDef) → map plain_static copies ≡ map plain_static l → All (λ s. P (plain_static s)) l → All (λ s. P (plain_static s)) copies
  of_copies l copies e h = of_map copies (subst (All P) (sym e) (All-map P plain_static l h))

abbrev halves_kept : Named → PlainStatic → Type 0
halves_kept named s = All (KeepsHalf named) s.halves

-- code with other copies of its static objects names as much
same_named : (code : PlainCode) (program : PlainProgram) → IsCodeOf code program → named_in (program_code program) ≡ named_in code
same_named code program is =
    let made = λ (f s : ℕ). (let named : Named = record { functions = f; statics = s } in named) in
    let counts : length program.statics ≡ length code.statics =
    omega (arith, length-map program.statics plain_static, length-map code.statics plain_static, ap length is.statics) in
    ap (λ l. made (length l) (length program.statics)) (sym is.functions) ∙ ap (λ s. made (length code.functions) s) counts

pub code_is_formed : (code : PlainCode) (program : PlainProgram) → IsCodeOf code program → IsProgram program → IsWellFormed code
code_is_formed code program is fits =
    let formed : IsWellFormed (program_code program) = programs_are_formed program fits in
    let same = same_named code program is in
    record {
      functions = subst (λ n. All (IsFunctionWellFormed n) code.functions) same
          (subst (λ l. All (IsFunctionWellFormed (named_in (program_code program))) l) (sym is.functions) formed.functions);
      statics = subst (λ n. All (IsStaticWellFormed n) code.statics) same
          (of_copies (halves_kept (named_in (program_code program))) program.statics code.statics is.statics formed.statics);
      main = omega (arith, formed.main, is.main, ap length is.functions);
    }

-- it is the program's code with other static objects
same_code : (code : PlainCode) (program : PlainProgram) → IsCodeOf code program → other (program_code program) code.statics ≡ code
same_code code program is =
    let functions = is.functions in
    let main = is.main in
    λ i. record { functions = sym functions i; statics = code.statics; main = sym main i }

pub code_plays : (code : PlainCode) (program : PlainProgram) → IsCodeOf code program → IsProgram program → Plays code program
code_plays code program is fits switches start answers words =
    subst (λ c. PlaysOn c program start answers) (same_code code program is)
    (other_plays (program_code program) code.statics program start answers (programs_play program fits switches start answers words))
