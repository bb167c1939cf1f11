-- Where a function's code stands: from its index 0 on, with the arguments in its first registers.
use Rattle.std.proofs.Common.{◌≡◌, ℕ, zero, suc, ◌+◌, ◌<◌, ◌≤◌, List, [], ◌∷◌, ◌++◌, length, map, take, Some, refl, sym, ap, ◌∙◌, subst, arith, append_assoc, length-append}
use Rattle.std.specs.Prelude.{slice_get, option_and_then, option_map, replicate}
use Rattle.std.proofs.Math.Seq.{get_or-append_seam}
use Rattle.std.proofs.lemmas.Option.{slice_get-get_or, slice_get-map}
use Rattle.c_tree.specs.declared.program.FunctionDef.{FunctionDef}
use Rattle.c_tree.specs.Plain.{PlainProgram}
use Rattle.whole_code.specs.declared.op.Instruction.{Instruction}
use Rattle.whole_code.specs.Plain.{PlainFunction, instruction_at}
use Rattle.ideal_machine.specs.declared.value.Value.{Value}
use Rattle.ideal_machine.specs.Values.{zero_value, value_at}
use Rattle.tree_play.specs.TreePlay.{first_state}
use Rattle.whole_thread.specs.Standing.{first_registers}
use Rattle.whole_thread.specs.Act.{kinds_of}
use Rattle.expr_gen.specs.Stretch.{Site, Between, Agree}
use Rattle.stmt_gen.specs.Programs.{body_code, function_code, program_code}

-- ---- instructions

-- a list that is the function's from an index on
stands_on :
    (site : Site) (is pre : List Instruction) → ((i : ℕ) → instruction_at site.code site.function i ≡ slice_get (pre ++ is) i) →
    Between site (length pre) is (length pre + length is)
stands_on site [] pre h = omega arith
stands_on site (i ∷ is) pre h =
    let within : length pre < length (pre ++ i ∷ is) = omega (arith, length-append pre (i ∷ is)) in
    let here = h (length pre) ∙ slice_get-get_or (pre ++ i ∷ is) (length pre) i within ∙ ap Some (get_or-append_seam pre i is i) in
    let n : length (pre ++ i ∷ []) ≡ length pre + 1 = omega (arith, length-append pre (i ∷ [])) in
    let m : length (pre ++ i ∷ []) + length is ≡ length pre + length (i ∷ is) = omega (arith, n) in
    let rest = stands_on site is (pre ++ i ∷ []) (λ j. h j ∙ ap (λ l. slice_get l j) (sym (append_assoc pre (i ∷ []) is))) in
    let rest2 = subst (λ x. Between site (length (pre ++ i ∷ [])) is x) m rest in
    (here, subst (λ x. Between site x is (length pre + length (i ∷ is))) n rest2)

pub function_there : (program : PlainProgram) (n : ℕ) (f : FunctionDef) → slice_get program.functions n ≡ Some f → slice_get (program_code program).functions n ≡ Some (function_code f)
function_there program n f e = slice_get-map function_code program.functions n ∙ ap (option_map function_code) e

pub body_stands :
    (site : Site) (f : FunctionDef) → slice_get site.code.functions site.function ≡ Some (function_code f) → Between site 0 (body_code f) (0 + length (body_code f))
body_stands site f e = stands_on site (body_code f) [] (λ i. ap (option_and_then (λ (g : PlainFunction). slice_get g.instructions i)) e)

-- ---- kinds

kinds_kept : (fs : List FunctionDef) → map (λ (f : PlainFunction). f.kind) (map function_code fs) ≡ map (λ (f : FunctionDef). f.kind) fs
kinds_kept [] = refl
kinds_kept (f ∷ fs) = ap (λ l. f.kind ∷ l) (kinds_kept fs)

pub kinds_same : (program : PlainProgram) → kinds_of (program_code program) ≡ map (λ (f : FunctionDef). f.kind) program.functions
kinds_same program = kinds_kept program.functions

-- ---- registers

value_at-zeros : (n x : ℕ) → value_at (replicate n zero_value) x ≡ zero_value
value_at-zeros zero x = refl
value_at-zeros (suc n) zero = refl
value_at-zeros (suc n) (suc x) = value_at-zeros n x

value_at-filled : (l : List Value) (n x : ℕ) → value_at (l ++ replicate n zero_value) x ≡ value_at l x
value_at-filled [] n x = value_at-zeros n x
value_at-filled (v ∷ l) n zero = refl
value_at-filled (v ∷ l) n (suc x) = value_at-filled l n x

value_at-take : (n : ℕ) (l : List Value) (x : ℕ) → x < n → value_at (take n l) x ≡ value_at l x
value_at-take zero l x lt = absurd (omega (arith, lt))
value_at-take (suc n) [] x lt = refl
value_at-take (suc n) (v ∷ l) zero lt = refl
value_at-take (suc n) (v ∷ l) (suc x) lt = value_at-take n l x (omega (arith, lt))

-- the first registers have the locals' values
pub first_agree : (f : FunctionDef) (arguments : List Value) → f.locals ≤ f.values → Agree f.locals (first_registers (function_code f) arguments) (first_state f arguments)
first_agree f arguments le = record {
  same = λ x a.
      let lt : x < f.values = omega (arith, a, le) in
      value_at-take f.values (take f.parameters arguments ++ replicate f.values zero_value) x lt ∙ value_at-filled (take f.parameters arguments) f.values x;
}
