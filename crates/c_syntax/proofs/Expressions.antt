-- Each production of expressions and declarators is read by its reader, at each two levels of nesting.
use Rattle.std.proofs.Common.{◌≡◌, Bool, true, false, List, [], ◌∷◌, ◌++◌, inl, inr, refl, sym, ap, ◌∙◌, subst, append-nil}
use Rattle.std.specs.Prelude.{Option, Some, None}
use Rattle.filc_num.specs.declared.integer.BinOp.{BinOp}
use Rattle.c_parts.specs.declared.terminal.Terminal.TheVariants as t
use Rattle.c_parts.specs.declared.lexeme.Lexeme.{Lexeme}
use Rattle.c_parts.specs.declared.span.Span.{Span}
use Rattle.c_parts.specs.Scopes.{State}
use Rattle.c_parts.specs.Terminals.{code}
use Rattle.c_parts.specs.Kinds.{kind, Kinds, disjoint, subset}
use Rattle.c_parts.specs.Production.{Production, token, sign, mark, ◌&◌, made, spanned, span_of, many, optional, opened, said}
use Rattle.c_parts.proofs.Sets.{disjoint-out, out-left, out-right}
use Rattle.c_parts.proofs.Whole.{Whole, token-whole}
use Rattle.c_parts.proofs.Openings.{Opening, Declines, Shares, opening-shaped, opening-and, declines-apart, declines-opening, declines-or, declines-shaped, declines-and, shares-opening, shares-left, shares-right, shares-shaped, shares-and}
use Rattle.c_parts.proofs.Good.{Good, token-good, and-good, or-good, made-good, spanned-good, many-good, optional-good, carries-good, CarriesBy, told-apart-good}
use Rattle.c_parts.proofs.Fields.{said-good}
use Rattle.c_syntax.specs.declared.expr.Expr.{Expr}
use Rattle.c_syntax.specs.declared.expr.ExprKind.{ExprKind}
use Rattle.c_syntax.specs.declared.expr.ExprKind.TheVariants as e
use Rattle.c_syntax.specs.declared.expr.Link.{Link}
use Rattle.c_syntax.specs.declared.expr.Postfix.{Postfix}
use Rattle.c_syntax.specs.declared.expr.PostfixKind.TheVariants as postfix
use Rattle.c_syntax.specs.Words.{prefix_of, operator_of, assigned_of}
use Rattle.c_syntax.specs.Values.{after, middle, listed, all_listed, present, name_of, expr_of, chain, chain_of, link_of, postfix_of, postfix_operator_of, prefix_expr_of, cast_of, conditional_of, choice_of, assign_of, comma_of, specifier_of, specifiers_of, is_type, is_typedef_specifier, atomic_of, record_of_parts, enum_of_parts, tagged, untagged, member_of, asserted_of, assertion_of, constant_of, constant_scope, pointer_of, name_core, declarator_of, nothing_core, no_pointers, with_pointers, suffix_of, parameter_of, type_name_of, parameter_scope}
use Rattle.c_syntax.specs.Values as value
use Rattle.c_syntax.specs.Grammar.{any_name, steps, unary_operators, prefixes, expression_starts, specifier_starts, postfix_more, multiplying, adding, shifting, relating, equating, conditional_more, assigning, assignment_more, abstract_inside, parameter_inside, paren, Inner, level_shape, link, texts, primary, postfix_operator, postfix_expression, unary, cast, prefixed, level, binary, logical_or, conditional, is_unary_kind, is_unary, assignment, expression, arguments}

-- What is known of what stands inside, at two levels. Where nothing may be open it isn't alive.
pub record InnerGood (strict : Bool) (alive alive' : Bool) (i i' : Inner) : Type 0 where
  pub parens : Good strict (opened paren [] i.parens) (opened paren [] i'.parens)
  pub type_parens : Good strict (opened paren [] i.type_parens) (opened paren [] i'.type_parens)
  pub atomic_parens : Good strict (opened (t.AtomicParen ∷ []) [] i.atomic_parens) (opened (t.AtomicParen ∷ []) [] i'.atomic_parens)
  pub index : Good strict (opened (t.LeftBracket ∷ []) [] i.index) (opened (t.LeftBracket ∷ []) [] i'.index)
  pub call : Good strict (opened paren [] i.call) (opened paren [] i'.call)
  pub prefixed : Good strict (opened prefixes postfix_more i.prefixed) (opened prefixes postfix_more i'.prefixed)
  pub converted : Good strict (opened expression_starts postfix_more i.converted) (opened expression_starts postfix_more i'.converted)
  pub right : Good strict (opened expression_starts assignment_more i.right) (opened expression_starts assignment_more i'.right)
  pub choice : Good strict (opened (t.Question ∷ []) conditional_more i.choice) (opened (t.Question ∷ []) conditional_more i'.choice)
  pub members : Good strict (opened (t.LeftBrace ∷ []) [] i.members) (opened (t.LeftBrace ∷ []) [] i'.members)
  pub constants : Good strict (opened (t.LeftBrace ∷ []) [] i.constants) (opened (t.LeftBrace ∷ []) [] i'.constants)
  pub declarator : Good strict (opened paren [] i.declarator) (opened paren [] i'.declarator)
  pub abstract : Good strict (opened paren [] i.abstract) (opened paren [] i'.abstract)
  pub parameter : Good strict (opened paren [] i.parameter) (opened paren [] i'.parameter)
  pub array : Good strict (opened (t.LeftBracket ∷ []) [] i.array) (opened (t.LeftBracket ∷ []) [] i'.array)
  pub function : Good strict (opened paren [] i.function) (opened paren [] i'.function)
  pub asserted : Good strict (opened paren [] i.asserted) (opened paren [] i'.asserted)
  -- what is told apart by the token behind the parenthesis
  pub parens_low : Opening alive i.parens.part expression_starts
  pub parens_high : Opening alive' i'.parens.part expression_starts
  pub type_low : Opening alive i.type_parens.part specifier_starts
  pub type_high : Opening alive' i'.type_parens.part specifier_starts
  pub abstract_low : Opening alive i.abstract.part abstract_inside
  pub abstract_high : Opening alive' i'.abstract.part abstract_inside
  pub parameter_low : Opening alive i.parameter.part parameter_inside
  pub parameter_high : Opening alive' i'.parameter.part parameter_inside
  pub function_low : Opening alive i.function.part (t.RightParen ∷ specifier_starts)
  pub function_high : Opening alive' i'.function.part (t.RightParen ∷ specifier_starts)
  -- a prefix operator makes a unary
  pub unary_low : (n : State) (us : List Lexeme) (x : ExprKind) (m : State) → i.prefixed.part.Spells n us x m → is_unary_kind x ≡ true
  pub unary_high : (n : State) (us : List Lexeme) (x : ExprKind) (m : State) → i'.prefixed.part.Spells n us x m → is_unary_kind x ≡ true

-- ---- the levels by their names

abbrev multiplicative : Inner → Production Expr
multiplicative i = binary 1 i

abbrev additive : Inner → Production Expr
additive i = binary 2 i

abbrev shift : Inner → Production Expr
shift i = binary 3 i

abbrev relational : Inner → Production Expr
relational i = binary 4 i

abbrev equality : Inner → Production Expr
equality i = binary 5 i

abbrev bit_and : Inner → Production Expr
bit_and i = binary 6 i

abbrev bit_xor : Inner → Production Expr
bit_xor i = binary 7 i

abbrev bit_or : Inner → Production Expr
bit_or i = binary 8 i

abbrev logical_and : Inner → Production Expr
logical_and i = binary 9 i

-- ---- levels of operators

-- what has to hold of a level's operand computes
pub level-good : {strict : Bool} {a b : Production Expr} (operators : Kinds) → Good strict a b → a.shape.solid ≡ true
    → disjoint a.shape.starts [] ≡ true → disjoint operators (link operators a).shape.goes_on ≡ true → disjoint operators a.shape.goes_on ≡ true
    → (a & many (link operators a)).shape.solid ≡ true → subset (a & many (link operators a)).shape.starts a.shape.starts ≡ true
    → subset (a & many (link operators a)).shape.goes_on (operators ++ a.shape.goes_on) ≡ true
    → Good strict (level operators a) (level operators b)
level-good {strict} {a} {b} operators g solid none apart behind whole within more =
    let one : Good strict (link operators a) (link operators b) = made-good link_of (spanned-good (and-good (token-good operators (λ x. operator_of x.terminal)) g none)) in
    let all : Good strict (made chain_of (spanned (a & many (link operators a)))) (made chain_of (spanned (b & many (link operators b)))) =
    made-good chain_of (spanned-good (and-good g (many-good one refl apart) behind)) in
    subst (λ s. Good strict (level operators a) (said (level_shape operators s) (made chain_of (spanned (b & many (link operators b)))))) g.same
    (said-good (level_shape operators a.shape) all whole within more)

pub texts-good : {strict : Bool} → Good strict texts texts
texts-good = made-good (λ x. tt) (and-good (token-good (t.Text ∷ []) mark) (many-good (token-good (t.Text ∷ []) mark) refl refl) refl)

texts-whole : Whole texts
texts-whole = (texts-good {strict = false}).low

module _ {strict alive alive' : Bool} (i i' : Inner) (g : InnerGood strict alive alive' i i') where
  pub primary-good : Good strict (primary i) (primary i')
  primary-good = made-good expr_of (spanned-good (
      or-good (token-good (t.Name ∷ []) (λ x. e.Name x.name))
      (or-good (token-good (t.Number ∷ []) (λ x. e.Number))
      (or-good (token-good (t.Character ∷ []) (λ x. e.Character))
      (or-good (made-good (λ x. e.Text) texts-good) (made-good e.Parens g.parens) refl refl)
      refl refl)
      refl refl)
      refl refl))

  pub postfix-operator-good : Good strict (postfix_operator i) (postfix_operator i')
  postfix-operator-good = made-good postfix_operator_of (spanned-good (
      or-good (made-good postfix.Index g.index)
      (or-good (made-good postfix.Call g.call)
      (or-good (made-good (λ x. postfix.Member (after x)) (and-good (token-good (t.Dot ∷ []) mark) (token-good any_name name_of) refl))
      (or-good (made-good (λ x. postfix.Arrow (after x)) (and-good (token-good (t.Arrow ∷ []) mark) (token-good any_name name_of) refl))
      (or-good (token-good (t.Increment ∷ []) (λ x. postfix.Increment)) (token-good (t.Decrement ∷ []) (λ x. postfix.Decrement)) refl refl)
      refl refl)
      refl refl)
      refl refl)
      refl refl))

  pub postfix-expression-good : Good strict (postfix_expression i) (postfix_expression i')
  postfix-expression-good = made-good postfix_of (spanned-good (and-good primary-good (many-good postfix-operator-good refl refl) refl))

  pub unary-good : Good strict (unary i) (unary i')
  unary-good = or-good postfix-expression-good (made-good expr_of (spanned-good g.prefixed)) refl refl

-- ---- a parenthesis that begins a unary isn't one before a type

primary-declines : {alive : Bool} (j : Inner) → Opening alive j.parens.part expression_starts → Declines alive (primary j).part specifier_starts
primary-declines {alive} j o = declines-shaped (declines-shaped (
    declines-or (declines-apart alive specifier_starts (token-whole (t.Name ∷ []) (λ x. e.Name x.name)) refl)
    (declines-or (declines-apart alive specifier_starts (token-whole (t.Number ∷ []) (λ x. e.Number)) refl)
    (declines-or (declines-apart alive specifier_starts (token-whole (t.Character ∷ []) (λ x. e.Character)) refl)
    (declines-or (declines-shaped (declines-apart alive specifier_starts texts-whole refl))
    (declines-shaped (declines-opening specifier_starts o refl)))))))

unary-declines : {alive : Bool} (j : Inner) → Whole (primary j) → Whole (opened prefixes postfix_more j.prefixed) → Opening alive j.parens.part expression_starts → Declines alive (unary j).part specifier_starts
unary-declines {alive} j wp wx o = declines-or
    (declines-shaped (declines-shaped (declines-and (many (postfix_operator j)).part wp refl (primary-declines j o))))
    (declines-shaped (declines-shaped (declines-apart alive specifier_starts wx refl)))

primary-shares : {alive : Bool} (j : Inner) → Opening alive j.parens.part expression_starts → Shares alive (primary j).part
primary-shares j o = shares-shaped (shares-shaped (
    shares-right (token (t.Name ∷ []) (λ x. e.Name x.name)).part
    (shares-right (token (t.Number ∷ []) (λ x. e.Number)).part
    (shares-right (token (t.Character ∷ []) (λ x. e.Character)).part
    (shares-right (made (λ x. e.Text) texts).part (shares-shaped (shares-opening o)))))))

unary-shares : {alive : Bool} (j : Inner) → Opening alive j.parens.part expression_starts → Shares alive (unary j).part
unary-shares j o = shares-left (made expr_of (spanned (opened prefixes postfix_more j.prefixed))).part
    (shares-shaped (shares-shaped (shares-and (many (postfix_operator j)).part (primary-shares j o))))

abbrev casting : Inner → Production Expr
casting j = made cast_of (spanned (opened paren [] j.type_parens & opened expression_starts postfix_more j.converted))

casting-opening : {alive : Bool} (j : Inner) → Whole (opened paren [] j.type_parens) → Opening alive j.type_parens.part specifier_starts → Opening alive (casting j).part specifier_starts
casting-opening j w o = opening-shaped (opening-shaped (opening-and j.converted.part w refl o))

module _ {strict alive alive' : Bool} (i i' : Inner) (g : InnerGood strict alive alive' i i') where
  pub cast-good : Good strict (cast i) (cast i')
  cast-good =
      let p = primary-good i i' g in
      told-apart-good alive alive' specifier_starts
      (made-good cast_of (spanned-good (and-good g.type_parens g.converted refl))) (unary-good i i' g) refl refl
      (casting-opening i g.type_parens.low g.type_low) (unary-declines i p.low g.prefixed.low g.parens_low) (unary-shares i g.parens_low)
      (casting-opening i' g.type_parens.high g.type_high) (unary-declines i' p.high g.prefixed.high g.parens_high) (unary-shares i' g.parens_high)
      refl

  pub prefixed-good : Good strict (prefixed i) (prefixed i')
  prefixed-good =
      let p = primary-good i i' g in
      or-good (made-good prefix_expr_of (and-good (token-good steps (λ x. prefix_of x.terminal)) (unary-good i i' g) refl))
      (or-good (made-good prefix_expr_of (and-good (token-good unary_operators (λ x. prefix_of x.terminal)) cast-good refl))
      (or-good (made-good after (and-good (token-good (t.Sizeof ∷ []) mark)
      (told-apart-good alive alive' specifier_starts (made-good e.SizeofType g.type_parens) (made-good e.SizeofExpr (unary-good i i' g)) refl refl
      (opening-shaped g.type_low) (declines-shaped (unary-declines i p.low g.prefixed.low g.parens_low)) (shares-shaped (unary-shares i g.parens_low))
      (opening-shaped g.type_high) (declines-shaped (unary-declines i' p.high g.prefixed.high g.parens_high)) (shares-shaped (unary-shares i' g.parens_high))
      refl) refl))
      (made-good (λ x. e.AlignofType (after x)) (and-good (token-good (t.Alignof ∷ []) mark) g.type_parens refl))
      refl refl)
      refl refl)
      refl refl

  pub multiplicative-good : Good strict (multiplicative i) (multiplicative i')
  multiplicative-good = level-good multiplying cast-good refl refl refl refl refl refl refl

  pub additive-good : Good strict (additive i) (additive i')
  additive-good = level-good adding multiplicative-good refl refl refl refl refl refl refl

  pub shift-good : Good strict (shift i) (shift i')
  shift-good = level-good shifting additive-good refl refl refl refl refl refl refl

  pub relational-good : Good strict (relational i) (relational i')
  relational-good = level-good relating shift-good refl refl refl refl refl refl refl

  pub equality-good : Good strict (equality i) (equality i')
  equality-good = level-good equating relational-good refl refl refl refl refl refl refl

  pub bit-and-good : Good strict (bit_and i) (bit_and i')
  bit-and-good = level-good (t.Ampersand ∷ []) equality-good refl refl refl refl refl refl refl

  pub bit-xor-good : Good strict (bit_xor i) (bit_xor i')
  bit-xor-good = level-good (t.Caret ∷ []) bit-and-good refl refl refl refl refl refl refl

  pub bit-or-good : Good strict (bit_or i) (bit_or i')
  bit-or-good = level-good (t.Bar ∷ []) bit-xor-good refl refl refl refl refl refl refl

  pub logical-and-good : Good strict (logical_and i) (logical_and i')
  logical-and-good = level-good (t.AndAnd ∷ []) bit-or-good refl refl refl refl refl refl refl

  pub logical-or-good : Good strict (logical_or i) (logical_or i')
  logical-or-good = level-good (t.BarBar ∷ []) logical-and-good refl refl refl refl refl refl refl

  pub conditional-good : Good strict (conditional i) (conditional i')
  conditional-good = made-good conditional_of (spanned-good (and-good logical-or-good (optional-good g.choice refl) refl))

-- ---- what is a unary alone, among the larger expressions

up-level : (operators : Kinds) (p : Production Expr) (n : State) (us : List Lexeme) (x : Expr) (m : State) → p.part.Spells n us x m → (level operators p).part.Spells n us x m
up-level operators p n us x m h = record {
  value = (span_of n m, (x, []));
  after = m;
  made = refl;
  moved = refl;
  of = record {
    value = (x, []);
    after = m;
    made = refl;
    moved = refl;
    of = record { first = us; second = []; between = m; whole = sym (append-nil us); left = h; right = (refl, refl) };
  };
}

up-conditional : (i : Inner) (n : State) (us : List Lexeme) (x : Expr) (m : State) → (logical_or i).part.Spells n us x m → (conditional i).part.Spells n us x m
up-conditional i n us x m h = record {
  value = (span_of n m, (x, None));
  after = m;
  made = refl;
  moved = refl;
  of = record {
    value = (x, None);
    after = m;
    made = refl;
    moved = refl;
    of = record { first = us; second = []; between = m; whole = sym (append-nil us); left = h; right = inr (refl, refl, refl) };
  };
}

no-unary : (x y : Expr) → x ≡ y → is_unary y ≡ false → is_unary x ≡ true → ⊥
no-unary x y e f h = let g : false ≡ true = sym f ∙ ap is_unary (sym e) ∙ h in cc

down-level-at : (operators : Kinds) (p : Production Expr) (n : State) (us : List Lexeme) (x : Expr) (m : State) (span : Span) (y : Expr) (links : List Link) (k : State)
    → x ≡ chain span y links → m ≡ k → (p & many (link operators p)).part.Spells n us (y, links) k → is_unary x ≡ true → p.part.Spells n us x m
down-level-at operators p n us x m span y [] k made moved h l =
    subst (λ z. p.part.Spells n us z m) (sym made) (subst (λ z. p.part.Spells n us y z) (sym (moved ∙ h.right.1))
    (subst (λ v. p.part.Spells n v y h.between) (sym (h.whole ∙ ap (λ v. h.first ++ v) h.right.0 ∙ append-nil h.first)) h.left))
down-level-at operators p n us x m span y (link ∷ links) k made moved h l = absurd (no-unary x (expr_of (span, e.Chain y (link ∷ links))) made refl l)

down-level : (operators : Kinds) (p : Production Expr) (n : State) (us : List Lexeme) (x : Expr) (m : State) → (level operators p).part.Spells n us x m → is_unary x ≡ true → p.part.Spells n us x m
down-level operators p n us x m h l =
    down-level-at operators p n us x m h.value.0 h.of.value.0 h.of.value.1 h.of.after
    (h.made ∙ ap (λ v. chain h.value.0 v.0 v.1) (ap (λ v. v.1) h.of.made)) (h.moved ∙ h.of.moved) h.of.of l

down-conditional-at : (i : Inner) (n : State) (us : List Lexeme) (x : Expr) (m : State) (span : Span) (y : Expr) (choice : Option (Expr × Expr)) (k : State)
    → x ≡ value.conditional span y choice → m ≡ k → (logical_or i & optional (opened (t.Question ∷ []) conditional_more i.choice)).part.Spells n us (y, choice) k → is_unary x ≡ true
    → (logical_or i).part.Spells n us x m
down-conditional-at i n us x m span y None k made moved h l = elim h.right [
  | inl w ↦ absurd (let f : None ≡ Some w.value = w.made in cc)
  | inr w ↦ subst (λ z. (logical_or i).part.Spells n us z m) (sym made) (subst (λ z. (logical_or i).part.Spells n us y z) (sym (moved ∙ w.2))
      (subst (λ v. (logical_or i).part.Spells n v y h.between) (sym (h.whole ∙ ap (λ v. h.first ++ v) w.0 ∙ append-nil h.first)) h.left))
]
down-conditional-at i n us x m span y (Some both) k made moved h l = absurd (no-unary x (expr_of (span, e.Conditional y both.0 both.1)) made refl l)

down-conditional : (i : Inner) (n : State) (us : List Lexeme) (x : Expr) (m : State) → (conditional i).part.Spells n us x m → is_unary x ≡ true → (logical_or i).part.Spells n us x m
down-conditional i n us x m h l =
    down-conditional-at i n us x m h.value.0 h.of.value.0 h.of.value.1 h.of.after
    (h.made ∙ ap (λ v. value.conditional h.value.0 v.0 v.1) (ap (λ v. v.1) h.of.made)) (h.moved ∙ h.of.moved) h.of.of l

down-cast : (i : Inner) (n : State) (us : List Lexeme) (x : Expr) (m : State) → (cast i).part.Spells n us x m → is_unary x ≡ true → (unary i).part.Spells n us x m
down-cast i n us x m h l = elim h [
  | inl w ↦ absurd (no-unary x (cast_of w.value) w.made refl l)
  | inr w ↦ w
]

down-logical : (i : Inner) (n : State) (us : List Lexeme) (x : Expr) (m : State) → (logical_or i).part.Spells n us x m → is_unary x ≡ true → (unary i).part.Spells n us x m
down-logical i n us x m h l =
    down-cast i n us x m (down-level multiplying (cast i) n us x m (down-level adding (multiplicative i) n us x m (down-level shifting (additive i) n us x m
    (down-level relating (shift i) n us x m (down-level equating (relational i) n us x m (down-level (t.Ampersand ∷ []) (equality i) n us x m
    (down-level (t.Caret ∷ []) (bit_and i) n us x m (down-level (t.Bar ∷ []) (bit_xor i) n us x m (down-level (t.AndAnd ∷ []) (bit_or i) n us x m
    (down-level (t.BarBar ∷ []) (logical_and i) n us x m h l) l) l) l) l) l) l) l) l) l) l

up-logical : (i : Inner) (n : State) (us : List Lexeme) (x : Expr) (m : State) → (unary i).part.Spells n us x m → (logical_or i).part.Spells n us x m
up-logical i n us x m h =
    up-level (t.BarBar ∷ []) (logical_and i) n us x m (up-level (t.AndAnd ∷ []) (bit_or i) n us x m (up-level (t.Bar ∷ []) (bit_xor i) n us x m
    (up-level (t.Caret ∷ []) (bit_and i) n us x m (up-level (t.Ampersand ∷ []) (equality i) n us x m (up-level equating (relational i) n us x m
    (up-level relating (shift i) n us x m (up-level shifting (additive i) n us x m (up-level adding (multiplicative i) n us x m
    (up-level multiplying (cast i) n us x m (inr h))))))))))

primary-kind : (i : Inner) (n : State) (us : List Lexeme) (x : Expr) (m : State) → (primary i).part.Spells n us x m → is_unary x ≡ true
primary-kind i n us x m h = ap is_unary (h.made ∙ ap expr_of h.of.made) ∙ elim h.of.of [
  | inl w ↦ ap is_unary_kind w.made
  | inr w ↦ elim w [
    | inl a ↦ ap is_unary_kind a.made
    | inr a ↦ elim a [
      | inl b ↦ ap is_unary_kind b.made
      | inr b ↦ elim b [ inl c ↦ ap is_unary_kind c.made | inr c ↦ ap is_unary_kind c.made ]
    ]
  ]
]

postfix-kind-at : (span : Span) (x y : Expr) (ops : List Postfix) → x ≡ value.postfix span y ops → is_unary y ≡ true → is_unary x ≡ true
postfix-kind-at span x y [] e h = ap is_unary e ∙ h
postfix-kind-at span x y (op ∷ ops) e h = ap is_unary e

unary-kind : (i : Inner) → ((n : State) (us : List Lexeme) (x : ExprKind) (m : State) → i.prefixed.part.Spells n us x m → is_unary_kind x ≡ true)
    → (n : State) (us : List Lexeme) (x : Expr) (m : State) → (unary i).part.Spells n us x m → is_unary x ≡ true
unary-kind i pre n us x m h = elim h [
  | inl w ↦ postfix-kind-at w.value.0 x w.of.value.0 w.of.value.1 (w.made ∙ ap (λ v. value.postfix w.value.0 v.0 v.1) (ap (λ v. v.1) w.of.made))
      (primary-kind i n w.of.of.first w.of.value.0 w.of.of.between w.of.of.left)
  | inr w ↦ ap is_unary (w.made ∙ ap expr_of w.of.made) ∙ pre n us w.of.value w.of.after w.of.of
]

abbrev more_assigned : Inner → Production (Option BinOp × Expr)
more_assigned i = token assigning (λ x. assigned_of x.terminal) & opened expression_starts assignment_more i.right

assignment-carries : (i : Inner) → ((n : State) (us : List Lexeme) (x : ExprKind) (m : State) → i.prefixed.part.Spells n us x m → is_unary_kind x ≡ true) → Whole (conditional i) → Whole (more_assigned i)
    → CarriesBy is_unary assign_of (conditional i) (unary i) (more_assigned i)
assignment-carries i pre wc wm = record {
  up = λ n us x m h. up-conditional i n us x m (up-logical i n us x m h);
  lone_up = unary-kind i pre;
  down = λ n us x m h l. down-logical i n us x m (down-conditional i n us x m h l) l;
  front_up = λ n us h. inl (inl (inl (inl (inl (inl (inl (inl (inl (inl (inl (inr h)))))))))));
  apart = λ k t h. disjoint-out (code (kind k t)) assigning (conditional i).shape.goes_on refl h;
  solid = wc.full refl;
  solid_more = wm.full refl;
  ends = λ m t h. out-left (code (kind m t)) (conditional i).shape.goes_on (assigning ++ assignment_more) h;
  ends_ops = λ m t h. out-left (code (kind m t)) assigning assignment_more (out-right (code (kind m t)) (conditional i).shape.goes_on (assigning ++ assignment_more) h);
  ends_more = λ m t h. out-right (code (kind m t)) assigning assignment_more (out-right (code (kind m t)) (conditional i).shape.goes_on (assigning ++ assignment_more) h);
}

module _ {strict alive alive' : Bool} (i i' : Inner) (g : InnerGood strict alive alive' i i') where
  assigned-good : Good strict (more_assigned i) (more_assigned i')
  assigned-good = and-good (token-good assigning (λ x. assigned_of x.terminal)) g.right refl

  pub assignment-good : Good strict (assignment i) (assignment i')
  assignment-good =
      let c = conditional-good i i' g in
      carries-good (unary i) (unary i') is_unary assign_of c assigned-good refl refl
      (assignment-carries i g.unary_low c.low assigned-good.low) (assignment-carries i' g.unary_high c.high assigned-good.high)

  comma-good : Good strict (many (made after (sign t.Comma & assignment i))) (many (made after (sign t.Comma & assignment i')))
  comma-good = many-good (made-good after (and-good (token-good (t.Comma ∷ []) mark) assignment-good refl)) refl refl

  pub expression-good : Good strict (expression i) (expression i')
  expression-good = made-good comma_of (spanned-good (and-good assignment-good comma-good refl))

  pub arguments-good : Good strict (arguments i) (arguments i')
  arguments-good = made-good listed (and-good assignment-good comma-good refl)
