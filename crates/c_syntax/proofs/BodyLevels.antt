-- Initialisers, blocks and statements at each level of nesting, and what two levels have to do with each other.
use Rattle.std.proofs.Common.{◌≡◌, ℕ, zero, suc, Bool, true, false, List, [], ◌∷◌, refl}
use Rattle.c_parts.specs.declared.terminal.Terminal.TheVariants as t
use Rattle.c_parts.specs.Scopes.{Scope}
use Rattle.c_parts.specs.Production.{Production, sign, mark, ◌&◌, made, many, optional, scoped, scoped_with, nested, opened, outside}
use Rattle.c_parts.specs.Following.{◌>&◌}
use Rattle.c_parts.proofs.Good.{Good, token-good, and-good, or-good, made-good, scoped-good, scoped-with-good, many-good, optional-good}
use Rattle.c_parts.proofs.Fields.{field-good, outside-good, room-good, Begins, begins-or, begins-shaped, begins-and, begins-token}
use Rattle.c_parts.proofs.Far.{Hangs}
use Rattle.c_parts.proofs.Following.{HangsBy, calm-hangs, or-hangs-by, made-hangs, spanned-hangs, scoped-hangs, begins-scoped, begins-entered}
use Rattle.c_parts.proofs.Unbounded.{above}
use Rattle.c_syntax.specs.declared.file.StatementKind.{StatementKind}
use Rattle.c_syntax.specs.declared.file.StatementKind.TheVariants as s
use Rattle.c_syntax.specs.declared.file.SwitchItem.{SwitchItem}
use Rattle.c_syntax.specs.declared.file.BlockItem.{BlockItem}
use Rattle.c_syntax.specs.Values.{after, middle, listed, present}
use Rattle.c_syntax.specs.Grammar.{Inner, inner, paren, assignment, expression, commas, expression_starts}
use Rattle.c_syntax.specs.Files.{brace, statement_starts, Bodies, bodies, no_bodies, deeper_bodies, initialiser_part, block, condition, under, if_of, while_of, do_of, for_of, switch_of, statement, block_item, switch_item, first_of, for_start}
use Rattle.c_syntax.proofs.Expressions.{InnerGood}
use Rattle.c_syntax.proofs.Statements.{BodiesGood, if-hangs, while-hangs, for-hangs, initialiser-good, statement-kind-good, statement-good, block-item-good, switch-item-good, header-good, if-good, while-good, do-good, for-good, switch-good, break-good, continue-good, return-or-good, block-with-good, semicolon}
use Rattle.c_syntax.proofs.Levels.{between-good, begins-sign, Opens, deeper-opens, is_alive, same-level, two-levels, assignment-begins}

-- ---- what an `else` has to do with a statement

module _ {alive : Bool} (i : Inner) (g : InnerGood false alive alive i i) (b : Bodies) (h : BodiesGood false b b) where
  statement-hangs : HangsBy (statement i b)
  statement-hangs =
      let parens = g.parens.low in
      let under = h.branch.low in
      let last = return-or-good i i g b b h in
      let nine = or-good (continue-good i i g b b h) last refl refl in
      let eight = or-good (break-good i i g b b h) nine refl refl in
      let seven = or-good (switch-good i i g b b h) eight refl refl in
      let six = or-good (for-good i i g b b h) seven refl refl in
      let five = or-good (do-good i i g b b h) six refl refl in
      let four = or-good (while-good i i g b b h) five refl refl in
      let three = or-good (if-good i i g b b h) four refl refl in
      let two = or-good (made-good (λ x. s.Empty) (semicolon i i g b b h)) three refl refl in
      let one = made-good s.Block (block-with-good i i g b b h []) in
      made-hangs _ (spanned-hangs (
      or-hangs-by one.low two.low (calm-hangs one.low refl)
      (or-hangs-by (made-good (λ x. s.Empty) (semicolon i i g b b h)).low three.low (calm-hangs (made-good (λ x. s.Empty) (semicolon i i g b b h)).low refl)
      (or-hangs-by (if-good i i g b b h).low four.low (if-hangs i b parens under h.header.low h.branch_low)
      (or-hangs-by (while-good i i g b b h).low five.low (while-hangs i b parens under h.header.low h.branch_low)
      (or-hangs-by (do-good i i g b b h).low six.low (calm-hangs (do-good i i g b b h).low refl)
      (or-hangs-by (for-good i i g b b h).low seven.low (for-hangs i b parens under h.header.low h.branch_low)
      (or-hangs-by (switch-good i i g b b h).low eight.low (calm-hangs (switch-good i i g b b h).low refl)
      (calm-hangs eight.low refl)
      refl refl refl)
      refl refl refl)
      refl refl refl)
      refl refl refl)
      refl refl refl)
      refl refl refl)
      refl refl refl))

-- ---- one level deeper

abbrev body_at : Scope → Inner → Bodies → Production (List BlockItem)
body_at scope i b = scoped_with scope (made middle (sign t.LeftBrace & (many (block_item i b) & sign t.RightBrace)))

abbrev switch_body_at : Inner → Bodies → Production (List SwitchItem)
switch_body_at i b = scoped (made middle (sign t.LeftBrace & (many (switch_item i b) & sign t.RightBrace)))

module _ {strict alive alive' : Bool} (i i' : Inner) (g : InnerGood strict alive alive' i i') (b b' : Bodies) (h : BodiesGood strict b b')
    (hangs : HangsBy (statement i b)) (hangs' : HangsBy (statement i' b')) where
  list-good : Good strict (made listed (initialiser_part i b & made present (commas (optional (initialiser_part i b)))))
      (made listed (initialiser_part i' b' & made present (commas (optional (initialiser_part i' b')))))
  list-good =
      let one = initialiser-good i i' g b b' h in
      made-good listed (and-good one (made-good present (many-good (made-good after (and-good (token-good (t.Comma ∷ []) mark) (optional-good one refl) refl)) refl refl)) refl)

  body-good : (scope : Scope) → Good strict (body_at scope i b) (body_at scope i' b')
  body-good scope = scoped-with-good scope (made-good middle (and-good (token-good (t.LeftBrace ∷ []) mark)
      (and-good (many-good (block-item-good i i' g b b' h) refl refl) (token-good (t.RightBrace ∷ []) mark) refl) refl))

  switch-body-good : Good strict (switch_body_at i b) (switch_body_at i' b')
  switch-body-good = scoped-good (made-good middle (and-good (token-good (t.LeftBrace ∷ []) mark)
      (and-good (many-good (switch-item-good i i' g b b' h) refl refl) (token-good (t.RightBrace ∷ []) mark) refl) refl))

  pub deeper-bodies-good : BodiesGood strict (deeper_bodies i b) (deeper_bodies i' b')
  deeper-bodies-good = record {
    initialisers = between-good t.LeftBrace t.RightBrace list-good refl refl refl refl;
    body = λ scope. field-good brace [] (body-good scope) refl refl refl;
    switch_body = field-good brace [] switch-body-good refl refl refl;
    header = between-good t.LeftParen t.RightParen (header-good i i' g b b' h) refl refl refl refl;
    branch = field-good statement_starts (t.Else ∷ []) (scoped-good (statement-good i i' g b b' h)) refl refl refl;
    branch_low = record { hangs = (scoped-hangs hangs).hangs };
    branch_high = record { hangs = (scoped-hangs hangs').hangs };
  }

-- ---- no room at all

never-hangs : HangsBy (under no_bodies)
never-hangs = record { hangs = record { maximal = λ n us x m u rest h e st. absurd h } }

pub no-bodies-good : BodiesGood false no_bodies no_bodies
no-bodies-good = record {
  initialisers = outside-good brace [];
  body = λ scope. outside-good brace [];
  switch_body = outside-good brace [];
  header = outside-good paren [];
  branch = outside-good statement_starts (t.Else ∷ []);
  branch_low = never-hangs;
  branch_high = never-hangs;
}

pub same-bodies : (d : ℕ) → BodiesGood false (bodies d) (bodies d)
unfolding bodies
same-bodies zero = no-bodies-good
same-bodies (suc d) =
    let g = same-level d in
    let h = same-bodies d in
    let hangs = statement-hangs (inner d) g (bodies d) h in
    deeper-bodies-good (inner d) (inner d) g (bodies d) (bodies d) h hangs hangs

-- ---- none against two more

-- blocks are open from their brace on
record OpensBodies (b : Bodies) : Type 0 where
  body : Begins (b.body []).part brace

deeper-opens-bodies : (i : Inner) (b : Bodies) → OpensBodies (deeper_bodies i b)
deeper-opens-bodies i b = record {
  body = begins-scoped (made middle (sign t.LeftBrace & (many (block_item i b) & sign t.RightBrace))) [] brace (begins-shaped (begins-sign t.LeftBrace (many (block_item i b) & sign t.RightBrace))) refl;
}

module _ (i : Inner) (o : Opens i) (b : Bodies) (p : OpensBodies b) where
  expression-begins : Begins (expression i).part expression_starts
  expression-begins = begins-shaped (begins-shaped (begins-and (commas (assignment i)).part (assignment-begins i o)))

  statement-begins : Begins (statement i b).part statement_starts
  statement-begins = begins-shaped (begins-shaped (
      begins-or (begins-shaped (begins-shaped (begins-shaped p.body)))
      (begins-or (begins-shaped (begins-token (t.Semicolon ∷ []) mark))
      (begins-or (begins-entered (made if_of (sign t.If & (condition i & (under b >& optional (made after (sign t.Else & under b)))))) (t.If ∷ []) (begins-shaped (begins-sign t.If (condition i & (under b >& optional (made after (sign t.Else & under b)))))))
      (begins-or (begins-entered (made while_of (sign t.While & (condition i & under b))) (t.While ∷ []) (begins-shaped (begins-sign t.While (condition i & under b))))
      (begins-or (begins-entered (made do_of (sign t.Do & (under b & (sign t.While & (condition i & sign t.Semicolon))))) (t.Do ∷ []) (begins-shaped (begins-sign t.Do (under b & (sign t.While & (condition i & sign t.Semicolon))))))
      (begins-or (begins-entered (made for_of (sign t.For & (opened paren [] b.header & under b))) (t.For ∷ []) (begins-shaped (begins-sign t.For (opened paren [] b.header & under b))))
      (begins-or (begins-entered (made switch_of (sign t.Switch & (condition i & opened brace [] b.switch_body))) (t.Switch ∷ []) (begins-shaped (begins-sign t.Switch (condition i & opened brace [] b.switch_body))))
      (begins-or (begins-shaped (begins-sign t.Break (sign t.Semicolon)))
      (begins-or (begins-shaped (begins-sign t.Continue (sign t.Semicolon)))
      (begins-or (begins-shaped (begins-sign t.Return (optional (expression i) & sign t.Semicolon)))
      (begins-shaped (begins-and (sign t.Semicolon).part expression-begins)))))))))))))

-- no room, against a level whose first tokens are all fronts
none-bodies-good : (alive : Bool) (i : Inner) → InnerGood false alive alive i i → Opens i → (b : Bodies) → BodiesGood false b b → OpensBodies b → BodiesGood true no_bodies (deeper_bodies i b)
none-bodies-good alive i g o b h p =
    let hangs = statement-hangs i g b h in
    let d = deeper-bodies-good i i g b b h hangs hangs in
    record {
      initialisers = room-good d.initialisers (begins-shaped (begins-sign t.LeftBrace (made listed (initialiser_part i b & made present (commas (optional (initialiser_part i b)))) & sign t.RightBrace)));
      body = λ scope. room-good (d.body scope)
          (begins-scoped (made middle (sign t.LeftBrace & (many (block_item i b) & sign t.RightBrace))) scope brace (begins-shaped (begins-sign t.LeftBrace (many (block_item i b) & sign t.RightBrace))) refl);
      switch_body = room-good d.switch_body
          (begins-entered (made middle (sign t.LeftBrace & (many (switch_item i b) & sign t.RightBrace))) brace (begins-shaped (begins-sign t.LeftBrace (many (switch_item i b) & sign t.RightBrace))));
      header = room-good d.header (begins-shaped (begins-sign t.LeftParen ((for_start i b & (made first_of (optional (expression i) & sign t.Semicolon) & optional (expression i))) & sign t.RightParen)));
      branch = room-good d.branch (begins-entered (statement i b) statement_starts (statement-begins i o b p));
      branch_low = never-hangs;
      branch_high = d.branch_high;
    }

pub two-bodies : (d k : ℕ) → BodiesGood true (bodies d) (bodies (above d k))
unfolding inner bodies
two-bodies zero k =
    none-bodies-good true (inner (suc k)) (same-level (suc k)) (deeper-opens (inner k)) (bodies (suc k)) (same-bodies (suc k)) (deeper-opens-bodies (inner k) (bodies k))
two-bodies (suc d) k =
    deeper-bodies-good (inner d) (inner (above d k)) (two-levels d k) (bodies d) (bodies (above d k)) (two-bodies d k)
    (statement-hangs (inner d) (same-level d) (bodies d) (same-bodies d)) (statement-hangs (inner (above d k)) (same-level (above d k)) (bodies (above d k)) (same-bodies (above d k)))
