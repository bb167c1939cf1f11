-- The code of a loop and of a block, put together from what was emitted.
use Rattle.std.proofs.Common.{◌≡◌, ℕ, ◌+◌, List, [], ◌∷◌, ◌++◌, length, sym, ap, ◌∙◌, arith, append_assoc, length-append}
use Rattle.std.specs.Prelude.{slice_set}
use Rattle.std.proofs.Math.Seq.{set-append_seam}
use Rattle.filc_code.specs.declared.op.Instruction.{Instruction}
use Rattle.filc_code.specs.declared.op.Op.TheVariants.{Jump, JumpZero}
use Rattle.form_tree.specs.declared.stmt.LocalDef.{LocalDef}
use Rattle.form_tree.specs.declared.stmt.Stmt.{Stmt, Block}
use Rattle.code_gen.specs.Code.{at_line, while_code, zeros_code, stmt_code}
use Rattle.code_gen.specs.Lists.{stmt_list_code}
use Rattle.code_gen.proofs.Views.{block_code}

-- a loop: c1 is what was there before with the test, c2 that with a jump x, c3 that with the body, c4 that with the jump back
module _ (line t at : ℕ) (base test body c1 c2 c3 c4 : List Instruction) (x : Instruction) where
  -- the jump over the body gets its target last
  pub patch_while :
      (n1 n2 : ℕ) → at ≡ length base → c1 ≡ base ++ test → n1 ≡ length c1 → c2 ≡ c1 ++ x ∷ [] → c3 ≡ c2 ++ body →
      c4 ≡ c3 ++ at_line line (Jump at) ∷ [] → n2 ≡ length c4 →
      slice_set c4 n1 (at_line line (JumpZero t n2)) ≡ base ++ while_code line t at test body
  patch_while n1 n2 ea e1 m1 e2 e3 e4 m2 =
      let l1 = ap length e1 ∙ length-append base test in
      let l2 = ap length e2 ∙ length-append c1 (x ∷ []) in
      let l3 = ap length e3 ∙ length-append c2 body in
      let l4 = ap length e4 ∙ length-append c3 (at_line line (Jump at) ∷ []) in
      let i = at_line line (JumpZero t n2) in
      let back = at_line line (Jump at) in
      let d : n2 ≡ at + length test + 1 + length body + 1 = omega arith in
      let all : c4 ≡ ((c1 ++ x ∷ []) ++ body) ++ back ∷ [] = cc in
      let flat : ((c1 ++ x ∷ []) ++ body) ++ back ∷ [] ≡ c1 ++ x ∷ (body ++ back ∷ []) = simp append_assoc in
      ap (λ l. slice_set l n1 i) (all ∙ flat)
      ∙ ap (λ n. slice_set (c1 ++ x ∷ (body ++ back ∷ [])) n i) m1
      ∙ set-append_seam c1 x (body ++ back ∷ []) i
      ∙ ap (λ l. l ++ i ∷ (body ++ back ∷ [])) e1
      ∙ append_assoc base test (i ∷ (body ++ back ∷ []))
      ∙ ap (λ n. base ++ (test ++ at_line line (JumpZero t n) ∷ (body ++ back ∷ []))) d

-- before the first statement of a block, whose locals are zero by then
pub block_starts :
    (locals : List LocalDef) (body : List Stmt) (t : ℕ) (base code : List Instruction) (items : List Stmt) → code ≡ base ++ zeros_code locals → items ≡ body →
    code ++ stmt_list_code items t (length code) ≡ base ++ stmt_code (Block locals body) t (length base)
block_starts locals body t base code items e same =
    let cz = zeros_code locals in
    let long : length (base ++ cz) ≡ length base + length cz = length-append base cz in
    ap (λ l. code ++ stmt_list_code l t (length code)) same
    ∙ ap (λ c. c ++ stmt_list_code body t (length c)) e
    ∙ ap (λ n. (base ++ cz) ++ stmt_list_code body t n) long
    ∙ append_assoc base cz (stmt_list_code body t (length base + length cz))
    ∙ ap (λ c. base ++ c) (sym (block_code locals body t (length base)))

-- an operand, and two instructions
pub two_more :
    (base part code1 code2 code3 : List Instruction) (i j : Instruction) → code1 ≡ base ++ part → code2 ≡ code1 ++ i ∷ [] → code3 ≡ code2 ++ j ∷ [] →
    code3 ≡ base ++ (part ++ (i ∷ (j ∷ [])))
two_more base part code1 code2 code3 i j e1 e2 e3 =
    let all : code3 ≡ ((base ++ part) ++ i ∷ []) ++ j ∷ [] = cc in
    let flat : ((base ++ part) ++ i ∷ []) ++ j ∷ [] ≡ base ++ (part ++ (i ∷ (j ∷ []))) = simp append_assoc in
    all ∙ flat
