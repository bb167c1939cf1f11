-- An instruction that has so many behind it is the one of that index from the end.
use Rattle.std.proofs.Common.{◌≡◌, ℕ, List, [], ◌∷◌, ◌++◌, length, reverse, set, sym, ap, ◌∙◌, append_assoc}
use Rattle.std.proofs.Math.Seq.{set-append_seam}
use Rattle.std.proofs.lemmas.List.{reverse-append, reverse-reverse, length-reverse}
use Rattle.whole_code.specs.declared.op.Instruction.{Instruction}
use Rattle.expr_emit.specs.Tail.{PlainTail}
use Rattle.expr_emit.proofs.tail.Tail.replace.Goals as goal

turned : (front back : List Instruction) (i : Instruction) → reverse (front ++ i ∷ back) ≡ reverse back ++ i ∷ reverse front
turned front back i =
    reverse-append front (i ∷ back) ∙ ap (λ l. l ++ reverse front) (reverse-append (i ∷ []) back)
    ∙ append_assoc (reverse back) (i ∷ []) (reverse front)

replaced :
    (r front back : List Instruction) (was i : Instruction) (k : ℕ) → reverse r ≡ front ++ was ∷ back → length back ≡ k → reverse (set r k i) ≡ front ++ i ∷ back
replaced r front back was i k e n =
    let held : r ≡ reverse back ++ was ∷ reverse front = sym (reverse-reverse r) ∙ ap reverse e ∙ turned front back was in
    let place : k ≡ length (reverse back) = sym n ∙ sym (length-reverse back) in
    let done : set r k i ≡ reverse back ++ i ∷ reverse front =
    ap (λ l. set l k i) held ∙ ap (λ k. set (reverse back ++ was ∷ reverse front) k i) place ∙ set-append_seam (reverse back) was (reverse front) i in
    ap reverse (done ∙ sym (turned front back i)) ∙ reverse-reverse (front ++ i ∷ back)

pub returns-then-behind-len-clause-instructions : goal.returns-then-behind-len-clause-instructions
returns-then-behind-len-clause-instructions c =
    λ front back was e n. replaced c.self.inside.reversed.items front back was c.args.instruction c.args.behind
    (ap (λ (t : PlainTail). t.instructions) c.self.view_is ∙ e) n
