-- Each production from initialisers to files is read by its reader, at each two levels of nesting.
use Rattle.std.proofs.Common.{◌≡◌, Bool, List, [], ◌∷◌, refl}
use Rattle.std.specs.Prelude.{Option}
use Rattle.c_parts.specs.declared.terminal.Terminal.TheVariants as t
use Rattle.c_parts.specs.Scopes.{Scope}
use Rattle.c_parts.specs.Production.{Production, sign, mark, ◌&◌, ◌or◌, made, spanned, many, optional, scoped, opened}
use Rattle.c_parts.specs.Following.{◌>&◌}
use Rattle.c_parts.proofs.Whole.{Whole, token-whole, and-whole, made-whole, optional-whole}
use Rattle.c_parts.proofs.Good.{Good, token-good, and-good, or-good, made-good, spanned-good, declares-good, scoped-good, specified-good, many-good, optional-good}
use Rattle.c_parts.proofs.Fields.{begins-and, begins-shaped, begins-token}
use Rattle.c_parts.proofs.Following.{followed-good, far-good, far-whole, HangsBy, calm-hangs, and-hangs, made-hangs, spanned-hangs, scoped-hangs, or-hangs-by, optional-hangs, far-hangs-by}
use Rattle.c_syntax.specs.declared.file.Initialiser.{Initialiser}
use Rattle.c_syntax.specs.declared.file.Initialiser.TheVariants as initialiser
use Rattle.c_syntax.specs.declared.file.InitDeclarator.{InitDeclarator}
use Rattle.c_syntax.specs.declared.file.Declaration.{Declaration}
use Rattle.c_syntax.specs.declared.file.Block.{Block}
use Rattle.c_syntax.specs.declared.file.BlockItem.{BlockItem}
use Rattle.c_syntax.specs.declared.file.BlockItem.TheVariants as item
use Rattle.c_syntax.specs.declared.file.Statement.{Statement}
use Rattle.c_syntax.specs.declared.file.StatementKind.{StatementKind}
use Rattle.c_syntax.specs.declared.file.StatementKind.TheVariants as s
use Rattle.c_syntax.specs.declared.file.SwitchItem.{SwitchItem}
use Rattle.c_syntax.specs.declared.file.SwitchItem.TheVariants as switch
use Rattle.c_syntax.specs.declared.file.ForStart.{ForStart}
use Rattle.c_syntax.specs.declared.file.ForStart.TheVariants as for
use Rattle.c_syntax.specs.declared.file.Tail.{Tail}
use Rattle.c_syntax.specs.declared.file.Tail.TheVariants as tail
use Rattle.c_syntax.specs.declared.file.External.{External}
use Rattle.c_syntax.specs.declared.file.External.TheVariants as e
use Rattle.c_syntax.specs.declared.file.File.{File}
use Rattle.c_syntax.specs.declared.expr.Declarator.{Declarator}
use Rattle.c_syntax.specs.Values.{after, listed, all_listed, declarator_scope}
use Rattle.c_syntax.specs.Bodies.{body_scope}
use Rattle.c_syntax.specs.Grammar.{Inner, paren, expression, conditional, declarator}
use Rattle.c_syntax.specs.Files.{brace, statement_starts, Bodies, braced_of, initialiser_part, init_of, declared, optional_initialiser, init, optional_inits, declaration_of, declaration, statement_of, block_of, block_with, block, under, if_of, if_statement, while_of, while_statement, do_of, do_statement, for_of, for_statement, switch_of, switch_statement, return_of, statement_kind, statement, block_item, case_of, default_of, switch_item, first_of, for_start, inits_of, behind_declarator, behind_shape, second_of, tail_part, external_of, external, file_of, file}
use Rattle.c_syntax.proofs.Expressions.{InnerGood, conditional-good, assignment-good, expression-good}
use Rattle.c_syntax.proofs.Declarators.{assertion-good, specifiers-good, declarator-good}

-- What is known of what stands inside, at two levels. An `else` belongs to the statement that it can go on with.
pub record BodiesGood (strict : Bool) (b b' : Bodies) : Type 0 where
  pub initialisers : Good strict (opened brace [] b.initialisers) (opened brace [] b'.initialisers)
  pub body : (scope : Scope) → Good strict (opened brace [] (b.body scope)) (opened brace [] (b'.body scope))
  pub switch_body : Good strict (opened brace [] b.switch_body) (opened brace [] b'.switch_body)
  pub header : Good strict (opened paren [] b.header) (opened paren [] b'.header)
  pub branch : Good strict (under b) (under b')
  pub branch_low : HangsBy (under b)
  pub branch_high : HangsBy (under b')

-- [ "else" statement ]
abbrev optional_else : Bodies → Production (Option Statement)
optional_else b = optional (made after (sign t.Else & under b))

-- at one level, what an `else` has to do with statements that end in one
module _ (i : Inner) (b : Bodies) (paren-whole : Whole (opened paren [] i.parens)) (under-whole : Whole (under b)) (header-whole : Whole (opened paren [] b.header)) (hangs : HangsBy (under b)) where
  else-whole : Whole (made after (sign t.Else & under b))
  else-whole = made-whole after (and-whole (token-whole (t.Else ∷ []) mark) under-whole refl)

  optional-else-hangs : HangsBy (optional_else b)
  optional-else-hangs = optional-hangs else-whole (made-hangs after (and-hangs (token-whole (t.Else ∷ []) mark) under-whole (calm-hangs (token-whole (t.Else ∷ []) mark) refl) hangs refl)) refl
      (begins-shaped (begins-and (under b).part (begins-token (t.Else ∷ []) mark)))

  if-tail-hangs : HangsBy (under b >& optional_else b)
  if-tail-hangs = far-hangs-by under-whole (optional-whole else-whole refl) hangs refl refl optional-else-hangs

  if-tail-whole : Whole (under b >& optional_else b)
  if-tail-whole = far-whole under-whole (optional-whole else-whole refl) hangs refl refl

  pub if-hangs : HangsBy (if_statement i b)
  if-hangs = scoped-hangs (made-hangs if_of (and-hangs (token-whole (t.If ∷ []) mark) (and-whole paren-whole if-tail-whole refl) (calm-hangs (token-whole (t.If ∷ []) mark) refl)
      (and-hangs paren-whole if-tail-whole (calm-hangs paren-whole refl) if-tail-hangs refl) refl))

  pub while-hangs : HangsBy (while_statement i b)
  while-hangs = scoped-hangs (made-hangs while_of (and-hangs (token-whole (t.While ∷ []) mark) (and-whole paren-whole under-whole refl) (calm-hangs (token-whole (t.While ∷ []) mark) refl)
      (and-hangs paren-whole under-whole (calm-hangs paren-whole refl) hangs refl) refl))

  pub for-hangs : HangsBy (for_statement i b)
  for-hangs = scoped-hangs (made-hangs for_of (and-hangs (token-whole (t.For ∷ []) mark) (and-whole header-whole under-whole refl) (calm-hangs (token-whole (t.For ∷ []) mark) refl)
      (and-hangs header-whole under-whole (calm-hangs header-whole refl) hangs refl) refl))

module _ {strict alive alive' : Bool} (i i' : Inner) (g : InnerGood strict alive alive' i i') (b b' : Bodies) (h : BodiesGood strict b b') where
  pub semicolon : Good strict (sign t.Semicolon) (sign t.Semicolon)
  semicolon = token-good (t.Semicolon ∷ []) mark

  pub initialiser-good : Good strict (initialiser_part i b) (initialiser_part i' b')
  initialiser-good = or-good (made-good initialiser.Expression (assignment-good i i' g)) (made-good braced_of (spanned-good h.initialisers)) refl refl

  declared-good : Good strict (declared i) (declared i')
  declared-good = declares-good declarator_scope (declarator-good i i' g) refl

  optional-initialiser-good : Good strict (optional_initialiser i b) (optional_initialiser i' b')
  optional-initialiser-good = optional-good (made-good after (and-good (token-good (t.Equal ∷ []) mark) initialiser-good refl)) refl

  pub init-good : Good strict (init i b) (init i' b')
  init-good = made-good init_of (spanned-good (and-good declared-good optional-initialiser-good refl))

  more-inits-good : Good strict (many (made after (sign t.Comma & init i b))) (many (made after (sign t.Comma & init i' b')))
  more-inits-good = many-good (made-good after (and-good (token-good (t.Comma ∷ []) mark) init-good refl)) refl refl

  optional-inits-good : Good strict (optional_inits i b) (optional_inits i' b')
  optional-inits-good = made-good all_listed (optional-good (made-good listed (and-good init-good more-inits-good refl)) refl)

  pub declaration-good : Good strict (declaration i b) (declaration i' b')
  declaration-good = made-good declaration_of (spanned-good (specified-good (and-good (specifiers-good i i' g) (and-good optional-inits-good semicolon refl) refl)))

  pub block-with-good : (scope : Scope) → Good strict (block_with b scope) (block_with b' scope)
  block-with-good scope = made-good block_of (spanned-good (h.body scope))

  optional-expression-good : Good strict (optional (expression i)) (optional (expression i'))
  optional-expression-good = optional-good (expression-good i i' g) refl

  optional-else-good : Good strict (optional_else b) (optional_else b')
  optional-else-good = optional-good (made-good after (and-good (token-good (t.Else ∷ []) mark) h.branch refl)) refl

  pub if-good : Good strict (if_statement i b) (if_statement i' b')
  if-good = scoped-good (made-good if_of (and-good (token-good (t.If ∷ []) mark) (and-good g.parens (far-good h.branch optional-else-good h.branch_low h.branch_high refl refl) refl) refl))

  pub while-good : Good strict (while_statement i b) (while_statement i' b')
  while-good = scoped-good (made-good while_of (and-good (token-good (t.While ∷ []) mark) (and-good g.parens h.branch refl) refl))

  pub do-good : Good strict (do_statement i b) (do_statement i' b')
  do-good = scoped-good (made-good do_of (and-good (token-good (t.Do ∷ []) mark) (and-good h.branch (and-good (token-good (t.While ∷ []) mark) (and-good g.parens semicolon refl) refl) refl) refl))

  pub for-good : Good strict (for_statement i b) (for_statement i' b')
  for-good = scoped-good (made-good for_of (and-good (token-good (t.For ∷ []) mark) (and-good h.header h.branch refl) refl))

  pub switch-good : Good strict (switch_statement i b) (switch_statement i' b')
  switch-good = scoped-good (made-good switch_of (and-good (token-good (t.Switch ∷ []) mark) (and-good g.parens h.switch_body refl) refl))

  pub break-good : Good strict (made (λ x. s.Break) (sign t.Break & sign t.Semicolon)) (made (λ x. s.Break) (sign t.Break & sign t.Semicolon))
  break-good = made-good (λ x. s.Break) (and-good (token-good (t.Break ∷ []) mark) semicolon refl)

  pub continue-good : Good strict (made (λ x. s.Continue) (sign t.Continue & sign t.Semicolon)) (made (λ x. s.Continue) (sign t.Continue & sign t.Semicolon))
  continue-good = made-good (λ x. s.Continue) (and-good (token-good (t.Continue ∷ []) mark) semicolon refl)

  return-good : Good strict (made return_of (sign t.Return & (optional (expression i) & sign t.Semicolon))) (made return_of (sign t.Return & (optional (expression i') & sign t.Semicolon)))
  return-good = made-good return_of (and-good (token-good (t.Return ∷ []) mark) (and-good optional-expression-good semicolon refl) refl)

  expression-statement-good : Good strict (made (λ x. s.Expression x.0) (expression i & sign t.Semicolon)) (made (λ x. s.Expression x.0) (expression i' & sign t.Semicolon))
  expression-statement-good = made-good (λ x. s.Expression x.0) (and-good (expression-good i i' g) semicolon refl)

  -- the statements behind each "or", the last ones first
  pub return-or-good : Good strict (made return_of (sign t.Return & (optional (expression i) & sign t.Semicolon)) or made (λ x. s.Expression x.0) (expression i & sign t.Semicolon))
      (made return_of (sign t.Return & (optional (expression i') & sign t.Semicolon)) or made (λ x. s.Expression x.0) (expression i' & sign t.Semicolon))
  return-or-good = or-good return-good expression-statement-good refl refl

  pub statement-kind-good : Good strict (statement_kind i b) (statement_kind i' b')
  statement-kind-good =
      or-good (made-good s.Block (block-with-good []))
      (or-good (made-good (λ x. s.Empty) semicolon)
      (or-good if-good
      (or-good while-good
      (or-good do-good
      (or-good for-good
      (or-good switch-good
      (or-good break-good
      (or-good continue-good
      return-or-good
      refl refl)
      refl refl)
      refl refl)
      refl refl)
      refl refl)
      refl refl)
      refl refl)
      refl refl)
      refl refl

  pub statement-good : Good strict (statement i b) (statement i' b')
  statement-good = made-good statement_of (spanned-good statement-kind-good)

  pub block-item-good : Good strict (block_item i b) (block_item i' b')
  block-item-good =
      or-good (made-good item.Declaration declaration-good)
      (or-good (made-good item.Assertion (assertion-good i i' g)) (made-good item.Statement statement-good) refl refl) refl refl

  pub switch-item-good : Good strict (switch_item i b) (switch_item i' b')
  switch-item-good =
      or-good (made-good case_of (spanned-good (and-good (token-good (t.Case ∷ []) mark) (and-good (conditional-good i i' g) (token-good (t.Colon ∷ []) mark) refl) refl)))
      (or-good (made-good default_of (spanned-good (and-good (token-good (t.Default ∷ []) mark) (token-good (t.Colon ∷ []) mark) refl)))
      (or-good (made-good switch.Declaration declaration-good)
      (or-good (made-good switch.Assertion (assertion-good i i' g)) (made-good switch.Statement statement-good) refl refl)
      refl refl)
      refl refl)
      refl refl

  pub for-start-good : Good strict (for_start i b) (for_start i' b')
  for-start-good = or-good (made-good for.Declaration declaration-good) (made-good for.Expression (made-good first_of (and-good optional-expression-good semicolon refl))) refl refl

  pub header-good : Good strict (for_start i b & (made first_of (optional (expression i) & sign t.Semicolon) & optional (expression i)))
      (for_start i' b' & (made first_of (optional (expression i') & sign t.Semicolon) & optional (expression i')))
  header-good = and-good for-start-good (and-good (made-good first_of (and-good optional-expression-good semicolon refl)) optional-expression-good refl) refl

  -- ---- files

  behind-good : (d : Declarator) → Good strict (behind_declarator i b d) (behind_declarator i' b' d)
  behind-good d = or-good (made-good (tail.Function d) (block-with-good (body_scope d))) (made-good (inits_of d) (and-good optional-initialiser-good (and-good more-inits-good semicolon refl) refl)) refl refl

  tail-good : Good strict (tail_part i b) (tail_part i' b')
  tail-good = or-good (made-good (λ x. tail.Declaration []) semicolon) (made-good second_of (followed-good behind_shape declared-good behind-good (λ d. refl) refl)) refl refl

  pub external-good : Good strict (external i b) (external i' b')
  external-good = or-good (made-good external_of (spanned-good (specified-good (and-good (specifiers-good i i' g) tail-good refl)))) (made-good e.Assertion (assertion-good i i' g)) refl refl

  pub file-good : Good strict (file i b) (file i' b')
  file-good = made-good file_of (and-good (many-good external-good refl refl) (token-good (t.End ∷ []) mark) refl)
