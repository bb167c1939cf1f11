-- The balance of groups: the open `if`s as the code has them, innermost last.
use Rattle.std.proofs.Common.{◌≡◌, ℕ, ◌<◌, List, [], ◌∷◌, ◌++◌, refl, ap, sym, ◌∙◌, arith, length, get_or, take, drop, Option, Some, None}
use Rattle.std.specs.Prelude.{reverse}
use Rattle.std.proofs.lemmas.List.{reverse-append}
use Rattle.c_lexer.specs.declared.token.Token.{Token}
use Rattle.c_preproc.specs.declared.directives.DirectiveWord.{DirectiveWord}
use Rattle.c_preproc.specs.declared.groups.Open.{Open}
use Rattle.c_preproc.specs.declared.groups.Step.{Step}
use Rattle.c_preproc.specs.declared.groups.Step.TheVariants.{Balanced, Misplaced, Alone}
use Rattle.c_preproc.specs.Directives.{Plain, Directive, blocks_of, directive_word}
use Rattle.c_preproc.specs.Groups.{after_step, earlier, fault_line, opens_after, outermost, step_of, unbalanced_line}

-- the outermost
outermost-last : (opens : List Open) (o : Open) → outermost (opens ++ o ∷ []) ≡ Some o.line
outermost-last [] o = refl
outermost-last (p ∷ []) o = refl
outermost-last (p ∷ q ∷ opens) o = outermost-last (q ∷ opens) o

pub outermost-first : (opens : List Open) (o : Open) → 0 < length opens → o ≡ get_or opens 0 o → Some o.line ≡ outermost (reverse opens)
outermost-first [] o h is = absurd (omega arith)
outermost-first (p ∷ opens) o h is =
    ap (λ q. Some q.line) is ∙ sym (ap outermost (reverse-append (p ∷ []) opens) ∙ outermost-last (reverse opens) p)

-- ---- the earliest of lines

pub earlier_none : (a : Option ℕ) → earlier a None ≡ a
earlier_none None = refl
earlier_none (Some a) = refl

pub earlier_assoc : (a b c : Option ℕ) → earlier (earlier a b) c ≡ earlier a (earlier b c)
earlier_assoc None b c = refl
earlier_assoc (Some a) None c = refl
earlier_assoc (Some a) (Some b) None = refl
earlier_assoc (Some a) (Some b) (Some c) = ap Some (omega arith)

-- ---- one block of the list

-- a token that begins no directive is passed over
pub on_plain : (bytes : List ℕ) (least whole : Option ℕ) (opens : List Open) (rest behind : List Token) (token : Token) → rest ≡ token ∷ behind → blocks_of bytes 0 (token ∷ behind) ≡ Plain token ∷ blocks_of bytes 0 behind → earlier least (unbalanced_line bytes opens (blocks_of bytes 0 rest)) ≡ whole → earlier least (unbalanced_line bytes opens (blocks_of bytes 0 behind)) ≡ whole
unfolding unbalanced_line
on_plain bytes least whole opens rest behind token is block told =
    ap (λ blocks. earlier least (unbalanced_line bytes opens blocks)) (sym block)
    ∙ ap (λ ts. earlier least (unbalanced_line bytes opens (blocks_of bytes 0 ts))) (sym is) ∙ told

-- a directive
pub on_directive : (bytes : List ℕ) (least whole : Option ℕ) (opens after : List Open) (rest behind line left : List Token) (hash : Token) (count : ℕ) (word : DirectiveWord) (step : Step) → rest ≡ hash ∷ behind → blocks_of bytes 0 (hash ∷ behind) ≡ Directive hash (take count behind) ∷ blocks_of bytes 0 (drop count behind) → line ≡ take count behind → left ≡ drop count behind → word ≡ directive_word bytes line → step ≡ step_of word opens → after ≡ opens_after hash.line word opens → earlier least (unbalanced_line bytes opens (blocks_of bytes 0 rest)) ≡ whole → earlier least (after_step step hash.line (unbalanced_line bytes after (blocks_of bytes 0 left))) ≡ whole
unfolding unbalanced_line
on_directive bytes least whole opens after rest behind line left hash count word step is block lines lefts words steps afters told =
    let ahead = blocks_of bytes 0 (drop count behind) in
    let word_is : word ≡ directive_word bytes (take count behind) = words ∙ ap (directive_word bytes) lines in
    ap (λ ts. earlier least (after_step step hash.line (unbalanced_line bytes after (blocks_of bytes 0 ts)))) lefts
    ∙ ap (λ os. earlier least (after_step step hash.line (unbalanced_line bytes os ahead))) afters
    ∙ ap (λ s. earlier least (after_step s hash.line (unbalanced_line bytes (opens_after hash.line word opens) ahead))) steps
    ∙ ap (λ w. earlier least (after_step (step_of w opens) hash.line (unbalanced_line bytes (opens_after hash.line w opens) ahead))) word_is
    ∙ ap (λ blocks. earlier least (unbalanced_line bytes opens blocks)) (sym block)
    ∙ ap (λ ts. earlier least (unbalanced_line bytes opens (blocks_of bytes 0 ts))) (sym is) ∙ told

-- a directive behind which others count
pub on_step : (step : Step) (least found behind whole : Option ℕ) (line : ℕ) → (step ≡ Alone → ⊥) → found ≡ earlier least (fault_line step line) → earlier least (after_step step line behind) ≡ whole → earlier found behind ≡ whole
on_step Balanced least found behind whole line counts is told = ap (λ a. earlier a behind) (is ∙ earlier_none least) ∙ told
on_step Misplaced least found behind whole line counts is told =
    ap (λ a. earlier a behind) is ∙ earlier_assoc least (Some line) behind ∙ told
on_step Alone least found behind whole line counts is told = absurd (counts refl)

-- and one behind which nothing counts
pub on_alone : (step : Step) (least found behind whole : Option ℕ) (line : ℕ) → step ≡ Alone → found ≡ earlier least (fault_line step line) → earlier least (after_step step line behind) ≡ whole → found ≡ whole
on_alone step least found behind whole line alone is told =
    is ∙ ap (λ s. earlier least (fault_line s line)) alone ∙ sym (ap (λ s. earlier least (after_step s line behind)) alone) ∙ told

-- the end
pub on_end : (bytes : List ℕ) (least whole found last : Option ℕ) (opens : List Open) (rest : List Token) → rest ≡ [] → last ≡ outermost opens → found ≡ earlier least last → earlier least (unbalanced_line bytes opens (blocks_of bytes 0 rest)) ≡ whole → found ≡ whole
unfolding unbalanced_line blocks_of
on_end bytes least whole found last opens rest is lasts finds told =
    finds ∙ ap (earlier least) lasts ∙ ap (λ ts. earlier least (unbalanced_line bytes opens (blocks_of bytes 0 ts))) (sym is) ∙ told
