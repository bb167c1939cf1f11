-- A function and a program, by the parts in which they are gone through.
use Rattle.std.proofs.Common.{◌≡◌, ℕ, ◌+◌, ◌<◌, ◌≤◌, ◌↔◌, IsTrue, true, List, length, get_or, drop, sum_by, map, All, sym, subst, refl, arith}
use Rattle.std.proofs.lemmas.List.{drop_all}
use Rattle.std.proofs.lemmas.List.Sums.{sum_by-drop_more}
use Rattle.filc_num.specs.declared.statics.StaticDef.{StaticDef}
use Rattle.filc_num.specs.declared.statics.StaticHalf.{StaticHalf}
use Rattle.c_types.specs.declared.ctype.TheConstants.{MOST_OBJECT_BYTES}
use Rattle.c_tree.specs.declared.program.FunctionDef.{FunctionDef}
use Rattle.c_tree.specs.Operands.{Outline, Context}
use Rattle.c_tree.specs.Plain.{plain_program}
use Rattle.c_tree.specs.Fits.{StmtFits, FunctionFits, HalfFits, StaticFits, body_context, callee_of, outline_of, IsProgram}
use Rattle.program_fits.specs.Parts.{RegistersFit, FrameFits}

function_parts : (o : Outline) (f : FunctionDef) → FunctionFits o f ↔ (RegistersFit f × StmtFits o (body_context f) f.body)
function_parts o f = (
  λ h. ((h.parameters, (h.needed, h.values)), h.body),
  λ h. record { parameters = h.0.0; body = h.1; needed = h.0.1.0; values = h.0.1.1 },
)

pub function_view : (o : Outline) (f : FunctionDef) (place : Context) → place ≡ body_context f → FunctionFits o f ↔ (RegistersFit f × StmtFits o place f.body)
function_view o f place same =
    subst (λ (c : Context). FunctionFits o f ↔ (RegistersFit f × StmtFits o c f.body)) (sym same) (function_parts o f)

program_parts :
    (functions : List FunctionDef) (statics : List StaticDef) (main : ℕ) →
    IsProgram (plain_program functions statics main)
    ↔ (FrameFits (outline_of (plain_program functions statics main)) functions statics main
    × All (FunctionFits (outline_of (plain_program functions statics main))) functions)
program_parts functions statics main = (
  λ p. ((p.function_count, (p.main, (p.static_words, (p.threads, p.statics)))), p.functions),
  λ h. record {
    functions = h.1;
    statics = h.0.1.1.1.1;
    threads = h.0.1.1.1.0;
    main = h.0.1.0;
    function_count = h.0.0;
    static_words = h.0.1.1.0;
  },
)

pub program_view :
    (functions : List FunctionDef) (statics : List StaticDef) (main n : ℕ) (o : Outline) → o ≡ record { callees = map callee_of functions; statics = n } →
    n ≡ length statics → IsProgram (plain_program functions statics main) ↔ (FrameFits o functions statics main × All (FunctionFits o) functions)
program_view functions statics main n o is many =
    subst (λ (x : Outline). IsProgram (plain_program functions statics main) ↔ (FrameFits x functions statics main × All (FunctionFits x) functions)) (sym is)
    (subst
    (λ (k : ℕ).
    let x : Outline = record { callees = map callee_of functions; statics = k } in
    IsProgram (plain_program functions statics main) ↔ (FrameFits x functions statics main × All (FunctionFits x) functions))
    (sym many) (program_parts functions statics main))

pub same_program :
    (fs gs : List FunctionDef) (ss ts : List StaticDef) (main : ℕ) → fs ≡ gs → ss ≡ ts → IsProgram (plain_program fs ss main) →
    IsProgram (plain_program gs ts main)
same_program fs gs ss ts main same alike p =
    subst (λ (x : List FunctionDef). IsProgram (plain_program x ts main)) same (subst (λ (x : List StaticDef). IsProgram (plain_program fs x main)) alike p)

-- ---- static objects

pub static_view :
    (o : Outline) (s : StaticDef) (items : List StaticHalf) → items ≡ s.halves.items →
    StaticFits o s ↔ ((s.bytes ≤ MOST_OBJECT_BYTES) × All (HalfFits o) items)
static_view o s items same = (
  λ h. (h.size, subst (λ (x : List StaticHalf). All (HalfFits o) x) (sym same) h.halves),
  λ h. record { size = h.0; halves = subst (λ (x : List StaticHalf). All (HalfFits o) x) same h.1 },
)

-- ---- the words of static objects

abbrev pub words_in : List StaticDef → ℕ
words_in statics = sum_by (λ (s : StaticDef). length s.words.items) statics

pub words_more :
    (statics : List StaticDef) (room next n i : ℕ) (s : StaticDef) → i < length statics → s ≡ get_or statics i s → n ≡ length s.words.items → n ≤ room →
    next + n ≡ room → words_in statics + room ≡ 262144 + words_in (drop i statics) → words_in statics + next ≡ 262144 + words_in (drop (i + 1) statics)
words_more statics room next n i s within is many less rest left =
    let f = λ (s : StaticDef). length s.words.items in
    let more : words_in (drop i statics) ≡ f (get_or statics i s) + words_in (drop (i + 1) statics) = sum_by-drop_more f statics i s within in
    let here : n ≡ f (get_or statics i s) = subst (λ (x : StaticDef). n ≡ f x) is many in
    omega (arith, more, here, less, rest, left)

pub words_none :
    (statics : List StaticDef) (room n i : ℕ) (s : StaticDef) → i < length statics → s ≡ get_or statics i s → n ≡ length s.words.items → room < n →
    words_in statics + room ≡ 262144 + words_in (drop i statics) → words_in statics ≤ 262144 → ⊥
words_none statics room n i s within is many past left few =
    let f = λ (s : StaticDef). length s.words.items in
    let more : words_in (drop i statics) ≡ f (get_or statics i s) + words_in (drop (i + 1) statics) = sum_by-drop_more f statics i s within in
    let here : n ≡ f (get_or statics i s) = subst (λ (x : StaticDef). n ≡ f x) is many in
    omega (arith, more, here, past, left, few)

pub words_end :
    (statics : List StaticDef) (room i : ℕ) → length statics ≤ i → words_in statics + room ≡ 262144 + words_in (drop i statics) →
    IsTrue true ↔ (words_in statics ≤ 262144)
words_end statics room i past left =
    let none : words_in (drop i statics) ≡ 0 = subst (λ (l : List StaticDef). words_in l ≡ 0) (sym (drop_all i statics past)) refl in
    (λ _. omega (arith, none, left), λ _. refl)
