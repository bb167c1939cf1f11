-- A file has one answer: each phase refuses only what the one before gave, and for one reason, and what it gives is one.
use Rattle.std.proofs.Common.{◌≡◌, ℕ, ◌<◌, ◌≤◌, ◌+◌, zero, suc, List, [], ◌∷◌, ◌++◌, length, map, codes, refl, sym, ap, subst, ◌∙◌, arith}
use Rattle.std.specs.Prelude.{Ok, Err, Some, All, IsSomeAnd, slice_get, slice_index_or, fold, sum_by}
use Rattle.c_rules.specs.declared.refusal.Refusal.{Refusal}
use Rattle.c_rules.specs.declared.refusal.RefusalKind.{RefusalKind}
use Rattle.c_rules.specs.declared.refusal.RefusalKind.TheVariants as kind
use Rattle.c_lexer.specs.declared.token.Token.{Token}
use Rattle.c_parts.specs.Reading.{Why, Syntax, Deep}
use Rattle.c_cursor.specs.Input.{start_of}
use Rattle.c_terminals.specs.Lexemes.{lexemes_of, line_of}
use Rattle.c_front.specs.Phases.{expanded_tokens_of}
use Rattle.c_parser.specs.Parse.{IsFault, IsTree, IsRefusedOn, RefusalsAreOne}
use Rattle.c_parser.specs.declared.fault.ParseFault.{ParseFault}
use Rattle.c_parser.specs.declared.fault.ParseFault.TheVariants as parser
use Rattle.c_front.specs.declared.fault.FrontFault.TheVariants as front
use Rattle.filc_num.specs.declared.statics.StaticDef.{StaticDef}
use Rattle.filc_num.specs.declared.statics.StaticHalf.{StaticHalf}
use Rattle.c_syntax.specs.declared.file.File.{File}
use Rattle.c_syntax.specs.Spelling.{HaveOneTree, files, most_nesting}
use Rattle.c_tree.specs.Fits.{IsProgram, StaticFits, HalfFits, TakesItsArgument, FunctionFits, callee_of, outline_of}
use Rattle.c_tree.specs.Operands.{Outline}
use Rattle.c_tree.specs.Plain.{PlainProgram}
use Rattle.c_tree.specs.declared.program.FunctionDef.{FunctionDef}
use Rattle.c_expr_rules.specs.Outcomes.{Broken, Fine}
use Rattle.c_file_rules.specs.Files.{Tokens, Whole, AreStatics, IsProgramOf, functions_in}
use Rattle.c_file_rules.specs.Laws.{FilesHaveOneAnswer}
use Rattle.c_file_rules.specs.Statics.{PlainStatic}
use Rattle.stmt_gen.specs.Programs.{function_code}
use Rattle.whole_code.specs.Listing.{functions_lines}
use Rattle.c_rules.specs.Rules.{number_of}
use Rattle.c_rules.specs.declared.rule.Rule.{Rule}
use Rattle.filc_top.proofs.RuleNumbers.{same_rule}
use Rattle.filc_top.specs.Checking.{token_bytes, meaning, HasTree, HasProgram, BreaksFirst, IsUnfit, IsRefusedFile, before_parser, by_parser, by_rule, unfit, refusal_of_rule, FilesHaveOneRefusal, ProgramsAreNotRefused}
use Rattle.filc_top.specs.Coding.{HasListing, FilesHaveOneListing}
use Rattle.filc_top.specs.Endings.{of_parser}
use Rattle.filc_top.specs.declared.ending.Ending.TheVariants as ending

abbrev broken_at : Rule → ℕ → Broken
broken_at rule line = record { rule = number_of rule; line = line }

abbrev kind_for : Why → RefusalKind
kind_for Syntax = kind.Syntax
kind_for Deep = kind.Deep

abbrev refusal_for : Why → ℕ → Refusal
refusal_for why line = record { kind = kind_for why; line = line }

-- the parser's refusal, by its reason and its line
record ByReason (bytes : List ℕ) (tokens : List Token) (r : Refusal) : Type 0 where
  why : Why
  line : ℕ
  on : IsRefusedOn why bytes tokens line
  is : r ≡ refusal_for why line

by_reason : (bytes : List ℕ) (tokens : List Token) (r : Refusal) (fault : ParseFault) → IsFault bytes tokens fault → of_parser fault ≡ ending.Refused r → ByReason bytes tokens r
by_reason bytes tokens r (parser.Syntax line) on same = record { why = Syntax; line = line; on = on; is = cc }
by_reason bytes tokens r (parser.Deep line) on same = record { why = Deep; line = line; on = on; is = cc }
by_reason bytes tokens r parser.NoMemory on same = cc

-- ---- one list of tokens, and one tree

module _ (file : List ℕ) where
  one_list : (a b : List Token) → expanded_tokens_of file ≡ Ok a → expanded_tokens_of file ≡ Ok b → a ≡ b
  one_list a b first second = cc

  -- each tree of the file's is that of another list of its tokens
  one_tree : HaveOneTree files → (a b : List Token) (x y : File) → HasTree file a x → HasTree file b y → x ≡ y
  one_tree one a b x y first second =
      let there = subst (λ tokens. IsTree (token_bytes file) tokens y) (sym (one_list a b first.expanded second.expanded)) second.spelled in
      one most_nesting most_nesting _ _ _ _ x y first.spelled.spells there.spells

  -- the answer for the one is that for the other
  same_answer :
      (a b : List Token) (x y : File) (P : Tokens → File → Type 0) → a ≡ b → x ≡ y → P (meaning file b) y → P (meaning file a) x
  same_answer a b x y P tokens tree h =
      subst (λ t. P (meaning file t) x) (sym tokens) (subst (P (meaning file b)) (sym tree) h)

-- ---- programs of one file keep the same

-- these objects are as large, and name the same
record IsAlike (d e : StaticDef) : Type 0 where
  bytes : d.bytes ≡ e.bytes
  words : d.words.items ≡ e.words.items
  halves : d.halves.items ≡ e.halves.items

are_as_many : (ps : List PlainStatic) (ds es : List StaticDef) → AreStatics ps ds → AreStatics ps es → length ds ≡ length es
are_as_many [] [] [] first second = refl
are_as_many [] [] (e ∷ es) first second = absurd second
are_as_many [] (d ∷ ds) es first second = absurd first
are_as_many (p ∷ ps) [] es first second = absurd first
are_as_many (p ∷ ps) (d ∷ ds) [] first second = absurd second
are_as_many (p ∷ ps) (d ∷ ds) (e ∷ es) first second = ap suc (are_as_many ps ds es first.1 second.1)

are_alike :
    (ps : List PlainStatic) (ds es : List StaticDef) → AreStatics ps ds → AreStatics ps es → (k : ℕ) (x : StaticDef) →
    k < length es → IsAlike (slice_index_or ds k x) (slice_index_or es k x)
are_alike [] [] [] first second k x within = absurd (omega (arith, within))
are_alike [] [] (e ∷ es) first second k x within = absurd second
are_alike [] (d ∷ ds) es first second k x within = absurd first
are_alike (p ∷ ps) [] es first second k x within = absurd first
are_alike (p ∷ ps) (d ∷ ds) [] first second k x within = absurd second
are_alike (p ∷ ps) (d ∷ ds) (e ∷ es) first second zero x within =
    record {
      bytes = first.0.0 ∙ sym second.0.0;
      words = first.0.1.1.0 ∙ sym second.0.1.1.0;
      halves = first.0.1.1.1 ∙ sym second.0.1.1.1;
    }
are_alike (p ∷ ps) (d ∷ ds) (e ∷ es) first second (suc k) x within =
    are_alike ps ds es first.1 second.1 k x (omega (arith, within))

alike_fits : (o : Outline) (d e : StaticDef) → IsAlike d e → StaticFits o d → StaticFits o e
alike_fits o d e alike fits =
    record {
      size = omega (arith, fits.size, alike.bytes);
      halves = subst (λ (halves : List StaticHalf). All (HalfFits o) halves) alike.halves fits.halves;
    }

abbrev words_of : StaticDef → ℕ
words_of d = length d.words.items

sums_alike :
    (ps : List PlainStatic) (ds es : List StaticDef) → AreStatics ps ds → AreStatics ps es → (a b : ℕ) → a ≡ b →
    fold (λ n (d : StaticDef). n + words_of d) a ds ≡ fold (λ n (d : StaticDef). n + words_of d) b es
sums_alike [] [] [] first second a b same = same
sums_alike [] [] (e ∷ es) first second a b same = absurd second
sums_alike [] (d ∷ ds) es first second a b same = absurd first
sums_alike (p ∷ ps) [] es first second a b same = absurd first
sums_alike (p ∷ ps) (d ∷ ds) [] first second a b same = absurd second
sums_alike (p ∷ ps) (d ∷ ds) (e ∷ es) first second a b same =
    let words = ap length (first.0.1.1.0 ∙ sym second.0.1.1.0) in
    sums_alike ps ds es first.1 second.1 (a + words_of d) (b + words_of e) (omega (arith, same, words))

-- two programs of one file
module _ (t : Tokens) (file : File) (p q : PlainProgram) (is_p : IsProgramOf t file p) (is_q : IsProgramOf t file q) where
  same_whole : is_p.whole ≡ is_q.whole
  same_whole =
      let both : Fine is_p.end is_p.whole ≡ Fine is_q.end is_q.whole = sym is_p.accepted ∙ is_q.accepted in
      cc

  pub same_functions : p.functions ≡ q.functions
  same_functions = is_p.functions ∙ ap (λ (w : Whole). functions_in w.functions) same_whole ∙ sym is_q.functions

  same_main : p.main ≡ q.main
  same_main =
      let both : Some p.main ≡ Some q.main = sym is_p.main ∙ ap (λ (w : Whole). w.main) same_whole ∙ is_q.main in
      cc

  statics_of_p : AreStatics is_q.whole.statics p.statics
  statics_of_p = subst (λ (w : Whole). AreStatics w.statics p.statics) same_whole is_p.statics

  same_outline : outline_of p ≡ outline_of q
  same_outline = λ i. record {
    callees = map callee_of (same_functions i);
    statics = are_as_many is_q.whole.statics p.statics q.statics statics_of_p is_q.statics i;
  }

  statics_fit : All (StaticFits (outline_of q)) p.statics → All (StaticFits (outline_of q)) q.statics
  statics_fit fit = λ k x within.
      let many = are_as_many is_q.whole.statics p.statics q.statics statics_of_p is_q.statics in
      alike_fits (outline_of q) _ _ (are_alike is_q.whole.statics p.statics q.statics statics_of_p is_q.statics k x within)
      (fit k x (omega (arith, within, many)))

  same_words : sum_by words_of p.statics ≡ sum_by words_of q.statics
  same_words = sums_alike is_q.whole.statics p.statics q.statics statics_of_p is_q.statics 0 0 refl

  pub other_fits : IsProgram p → IsProgram q
  other_fits fits =
      record {
        functions = subst (λ fs. All (FunctionFits (outline_of q)) fs) same_functions (subst (λ o. All (FunctionFits o) p.functions) same_outline fits.functions);
        statics = statics_fit (subst (λ o. All (StaticFits o) p.statics) same_outline fits.statics);
        threads = subst (λ (o : Outline). All TakesItsArgument o.callees) same_outline fits.threads;
        main = subst (λ n. IsSomeAnd (slice_get q.functions n) (λ (f : FunctionDef). f.parameters ≡ 0)) same_main (subst (λ fs. IsSomeAnd (slice_get fs p.main) (λ (f : FunctionDef). f.parameters ≡ 0)) same_functions fits.main);
        function_count = omega (arith, fits.function_count, ap length same_functions);
        static_words = omega (arith, fits.static_words, same_words);
      }

-- ---- one refusal

module _ (one : RefusalsAreOne) (trees : HaveOneTree files) (answers : FilesHaveOneAnswer) (file : List ℕ) where
  one_reason : (tokens : List Token) (r s : Refusal) → ByReason (token_bytes file) tokens r → ByReason (token_bytes file) tokens s → r ≡ s
  one_reason tokens r s first second =
      let ts = lexemes_of (token_bytes file) tokens in
      let same = one (start_of ts) ts first.why second.why first.on.place second.on.place first.on.rightly.0 second.on.rightly.0 in
      let line : first.line ≡ second.line = first.on.line_is ∙ ap (line_of tokens) same.1 ∙ sym second.on.line_is in
      first.is ∙ ap (λ why. refusal_for why first.line) same.0 ∙ ap (refusal_for second.why) line ∙ sym second.is

  by_both : (a b : List Token) (r s : Refusal) → expanded_tokens_of file ≡ Ok a → expanded_tokens_of file ≡ Ok b → ByReason (token_bytes file) a r → ByReason (token_bytes file) b s → r ≡ s
  by_both a b r s first second left right =
      one_reason a r s left (subst (λ tokens. ByReason (token_bytes file) tokens s) (sym (one_list file a b first second)) right)

  -- what has a tree is refused by no parser
  not_by_parser :
      (a b : List Token) (x : File) (r : Refusal) (fault : ParseFault) → HasTree file a x → expanded_tokens_of file ≡ Ok b →
      IsFault (token_bytes file) b fault → of_parser fault ≡ ending.Refused r → ⊥
  not_by_parser a b x r fault has expanded is gives =
      (by_reason (token_bytes file) b r fault is gives).on.rightly.1 x
      (subst (λ tokens. IsTree (token_bytes file) tokens x) (one_list file a b has.expanded expanded) has.spelled)

  -- nor before it
  not_before : (a : List Token) (x : File) (r : Refusal) → HasTree file a x → expanded_tokens_of file ≡ Err (front.Refused r) → ⊥
  not_before a x r has refused = let expanded = has.expanded in cc

  -- what breaks a rule isn't the program that doesn't fit
  not_unfit :
      (a b : List Token) (x y : File) (rule : Rule) (line : ℕ) → HasTree file a x → HasTree file b y →
      BreaksFirst (meaning file a) x rule line → IsUnfit (meaning file b) y → ⊥
  not_unfit a b x y rule line first second is_refused is_unfit =
      let tokens = one_list file a b first.expanded second.expanded in
      let tree = one_tree file trees a b x y first second in
      let there = same_answer file a b x y (λ t f. IsUnfit t f) tokens tree is_unfit in
      (answers (meaning file a) x).one there.program (broken_at rule line) there.is_program is_refused

  by_two_rules :
      (a b : List Token) (x y : File) (left right : Rule) (m n : ℕ) → HasTree file a x → HasTree file b y →
      BreaksFirst (meaning file a) x left m → BreaksFirst (meaning file b) y right n →
      refusal_of_rule left m ≡ refusal_of_rule right n
  by_two_rules a b x y left right m n first second is other =
      let tokens = one_list file a b first.expanded second.expanded in
      let tree = one_tree file trees a b x y first second in
      let there = same_answer file a b x y (λ t f. BreaksFirst t f right n) tokens tree other in
      let same = (answers (meaning file a) x).same (broken_at left m) (broken_at right n) is there in
      let rule : left ≡ right = same_rule left right (ap (λ (b : Broken). b.rule) same) in
      let line : m ≡ n = ap (λ (b : Broken). b.line) same in
      ap (λ r. refusal_of_rule r m) rule ∙ ap (refusal_of_rule right) line

  one_refusal : (r s : Refusal) → IsRefusedFile file r → IsRefusedFile file s → r ≡ s
  one_refusal r s (before_parser a) (before_parser b) = cc
  one_refusal r s (before_parser a) (by_parser tokens fault b on is) = cc
  one_refusal r s (before_parser a) (by_rule tokens tree rule line has refused is) = absurd (not_before tokens tree r has a)
  one_refusal r s (before_parser a) (unfit tokens tree has refused is) = absurd (not_before tokens tree r has a)
  one_refusal r s (by_parser tokens fault a on is) (before_parser b) = cc
  one_refusal r s (by_parser tokens fault a on is) (by_parser others other b on1 is1) =
      by_both tokens others r s a b (by_reason (token_bytes file) tokens r fault on is) (by_reason (token_bytes file) others s other on1 is1)
  one_refusal r s (by_parser tokens fault a on is) (by_rule others tree rule line has refused is1) =
      absurd (not_by_parser others tokens tree r fault has a on is)
  one_refusal r s (by_parser tokens fault a on is) (unfit others tree has refused is1) =
      absurd (not_by_parser others tokens tree r fault has a on is)
  one_refusal r s (by_rule tokens tree rule line has refused is) (before_parser b) = absurd (not_before tokens tree s has b)
  one_refusal r s (by_rule tokens tree rule line has refused is) (by_parser others fault b on is1) =
      absurd (not_by_parser tokens others tree s fault has b on is1)
  one_refusal r s (by_rule tokens tree rule line has refused is) (by_rule others other rule1 line1 has1 refused1 is1) =
      is ∙ by_two_rules tokens others tree other rule rule1 line line1 has has1 refused refused1 ∙ sym is1
  one_refusal r s (by_rule tokens tree rule line has refused is) (unfit others other has1 unfit1 is1) =
      absurd (not_unfit tokens others tree other rule line has has1 refused unfit1)
  one_refusal r s (unfit tokens tree has unfit1 is) (before_parser b) = absurd (not_before tokens tree s has b)
  one_refusal r s (unfit tokens tree has unfit1 is) (by_parser others fault b on is1) =
      absurd (not_by_parser tokens others tree s fault has b on is1)
  one_refusal r s (unfit tokens tree has unfit1 is) (by_rule others other rule line has1 refused is1) =
      absurd (not_unfit others tokens other tree rule line has1 has refused unfit1)
  one_refusal r s (unfit tokens tree has unfit1 is) (unfit others other has1 unfit2 is1) = is ∙ sym is1

  -- ---- a program has none

  no_refusal : (program : PlainProgram) (r : Refusal) → HasProgram file program → IsRefusedFile file r → ⊥
  no_refusal program r has (before_parser a) = not_before has.tokens has.tree r has.has_tree a
  no_refusal program r has (by_parser tokens fault a on is) = not_by_parser has.tokens tokens has.tree r fault has.has_tree a on is
  no_refusal program r has (by_rule tokens tree rule line has_tree refused is) =
      let same = one_list file has.tokens tokens has.has_tree.expanded has_tree.expanded in
      let trees_are = one_tree file trees has.tokens tokens has.tree tree has.has_tree has_tree in
      (answers (meaning file has.tokens) has.tree).one program (broken_at rule line) has.is_program
      (same_answer file has.tokens tokens has.tree tree (λ t f. BreaksFirst t f rule line) same trees_are refused)
  no_refusal program r has (unfit tokens tree has_tree is_unfit is) =
      let same = one_list file has.tokens tokens has.has_tree.expanded has_tree.expanded in
      let trees_are = one_tree file trees has.tokens tokens has.tree tree has.has_tree has_tree in
      let there = same_answer file has.tokens tokens has.tree tree (λ t f. IsUnfit t f) same trees_are is_unfit in
      there.unfit (other_fits (meaning file has.tokens) has.tree program there.program has.is_program there.is_program has.fits)

pub one_of_each : RefusalsAreOne → HaveOneTree files → FilesHaveOneAnswer → FilesHaveOneRefusal
one_of_each one trees answers file r s first second = one_refusal one trees answers file r s first second

pub none_of_programs : RefusalsAreOne → HaveOneTree files → FilesHaveOneAnswer → ProgramsAreNotRefused
none_of_programs one trees answers file program r has refused = no_refusal one trees answers file program r has refused

-- ---- one listing: it is that of the functions' code, and the functions are the file's

pub one_listing : HaveOneTree files → FilesHaveOneListing
one_listing trees file a b first second =
    let left = first.is_program in
    let right = second.is_program in
    let tokens = one_list file left.tokens right.tokens left.has_tree.expanded right.has_tree.expanded in
    let tree = one_tree file trees left.tokens right.tokens left.tree right.tree left.has_tree right.has_tree in
    let there = same_answer file left.tokens right.tokens left.tree right.tree (λ t f. IsProgramOf t f second.program) tokens tree right.is_program in
    let functions = same_functions (meaning file left.tokens) left.tree first.program second.program left.is_program there in
    let code : first.code.functions ≡ second.code.functions = first.is_code.functions ∙ ap (map function_code) functions ∙ sym second.is_code.functions in
    first.text_is ∙ ap (λ fs. codes "filc code 1\n" ++ functions_lines 0 fs) code ∙ sym second.text_is
