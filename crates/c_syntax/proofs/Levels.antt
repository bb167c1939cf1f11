-- The grammar at each level of nesting, and what two levels have to do with each other.
use Rattle.std.proofs.Common.{◌≡◌, ℕ, zero, suc, Bool, true, false, List, [], ◌∷◌, inl, inr, refl, ap, ◌∙◌}
use Rattle.c_parts.specs.declared.terminal.Terminal.{Terminal}
use Rattle.c_parts.specs.declared.terminal.Terminal.TheVariants as t
use Rattle.c_parts.specs.declared.lexeme.Lexeme.{Lexeme}
use Rattle.c_parts.specs.Scopes.{State}
use Rattle.c_parts.specs.Kinds.{Kinds, subset, disjoint}
use Rattle.c_parts.specs.Production.{Production, sign, mark, ◌&◌, told_apart, made, spanned, many, optional, collected, nested, opened}
use Rattle.c_parts.proofs.Whole.{Whole}
use Rattle.c_parts.proofs.Openings.{Opening, opening-sign, opening-shaped, opening-never}
use Rattle.c_parts.proofs.Good.{Good, token-good, and-good, made-good, spanned-good, collected-good, many-good, optional-good}
use Rattle.c_parts.proofs.Fields.{field-good, outside-good, Begins, room-good, begins-or, begins-shaped, begins-and, begins-token}
use Rattle.c_parts.proofs.Unbounded.{above}
use Rattle.c_syntax.specs.declared.expr.ExprKind.{ExprKind}
use Rattle.c_syntax.specs.declared.expr.ExprKind.TheVariants as e
use Rattle.c_syntax.specs.Words.{prefix_of}
use Rattle.c_syntax.specs.Values.{after, middle, listed, all_listed, present, choice_of, asserted_of}
use Rattle.c_syntax.specs.Grammar.{prefixes, expression_starts, specifier_starts, steps, unary_operators, postfix_more, conditional_more, assignment_more, abstract_inside, parameter_inside, paren, Inner, texts, postfix_operator, unary, cast, prefixed, conditional, is_unary_kind, assignment, expression, arguments, declarator, some_abstract, inner_parameter, parameters, typename, member, some_constants, in_parens, deeper, nowhere, inner}
use Rattle.c_syntax.proofs.Expressions.{InnerGood, texts-good, prefixed-good, cast-good, conditional-good, assignment-good, expression-good, arguments-good}
use Rattle.c_syntax.proofs.Declarators.{constant-good, declarator-good, some-abstract-good, inner-parameter-good, parameters-good, typename-good, member-good}

-- ---- one level deeper

abbrev pub between : {A : Type 0} → Terminal → Terminal → Production A → Production A
between first last a = made middle (sign first & (a & sign last))

-- between two signs: what has to hold of them computes
pub between-good : {strict : Bool} {A : Type 0} {a b : Production A} (first last : Terminal) → Good strict a b → disjoint (last ∷ []) a.shape.goes_on ≡ true → disjoint (a & sign last).shape.starts [] ≡ true
    → subset (first ∷ []) (first ∷ []) ≡ true → subset (between first last a).shape.goes_on [] ≡ true
    → Good strict (opened (first ∷ []) [] (nested (between first last a))) (opened (first ∷ []) [] (nested (between first last b)))
between-good {strict} {A} {a} {b} first last g apart begins same more =
    field-good (first ∷ []) [] (made-good middle (and-good (token-good (first ∷ []) mark) (and-good g (token-good (last ∷ []) mark) apart) begins)) refl same more

prefixed-unary : (i : Inner) (n : State) (us : List Lexeme) (x : ExprKind) (m : State) → (prefixed i).part.Spells n us x m → is_unary_kind x ≡ true
prefixed-unary i n us x m h = elim h [
  | inl w ↦ ap is_unary_kind w.made
  | inr w ↦ elim w [
    | inl a ↦ ap is_unary_kind a.made
    | inr a ↦ elim a [
      | inl b ↦ ap is_unary_kind b.made ∙ elim b.of.right [ inl c ↦ ap is_unary_kind c.made | inr c ↦ ap is_unary_kind c.made ]
      | inr b ↦ ap is_unary_kind b.made
    ]
  ]
]

-- in parentheses, told by what it begins with
parens-opening : {A : Type 0} (a : Production A) (second : Kinds) → Whole (a & sign t.RightParen) → (a & sign t.RightParen).shape.solid ≡ true → subset (a & sign t.RightParen).shape.starts second ≡ true
    → Opening true (in_parens a).part second
parens-opening a second w solid within = opening-shaped (opening-sign second w solid within)

module _ {strict alive alive' : Bool} (i i' : Inner) (g : InnerGood strict alive alive' i i') where
  closed-good : {A : Type 0} {a b : Production A} → Good strict a b → disjoint (t.RightParen ∷ []) a.shape.goes_on ≡ true → Good strict (a & sign t.RightParen) (b & sign t.RightParen)
  closed-good h apart = and-good h (token-good (t.RightParen ∷ []) mark) apart

  expression-closed : Good strict (expression i & sign t.RightParen) (expression i' & sign t.RightParen)
  expression-closed = closed-good (expression-good i i' g) refl

  typename-closed : Good strict (typename i & sign t.RightParen) (typename i' & sign t.RightParen)
  typename-closed = closed-good (typename-good i i' g) refl

  abstract-closed : Good strict (some_abstract i & sign t.RightParen) (some_abstract i' & sign t.RightParen)
  abstract-closed = closed-good (some-abstract-good i i' g) refl

  parameter-closed : Good strict (inner_parameter i & sign t.RightParen) (inner_parameter i' & sign t.RightParen)
  parameter-closed = closed-good (inner-parameter-good i i' g) refl

  listed-parameters-good : Good strict (collected (made all_listed (optional (parameters i)))) (collected (made all_listed (optional (parameters i'))))
  listed-parameters-good = collected-good (made-good all_listed (optional-good (parameters-good i i' g) refl))

  parameters-closed : Good strict (collected (made all_listed (optional (parameters i))) & sign t.RightParen) (collected (made all_listed (optional (parameters i'))) & sign t.RightParen)
  parameters-closed = closed-good listed-parameters-good refl

  pub deeper-good : InnerGood strict true true (deeper i) (deeper i')
  deeper-good = record {
    parens = between-good t.LeftParen t.RightParen (expression-good i i' g) refl refl refl refl;
    type_parens = between-good t.LeftParen t.RightParen (typename-good i i' g) refl refl refl refl;
    atomic_parens = between-good t.AtomicParen t.RightParen (typename-good i i' g) refl refl refl refl;
    index = between-good t.LeftBracket t.RightBracket (expression-good i i' g) refl refl refl refl;
    call = between-good t.LeftParen t.RightParen (made-good all_listed (optional-good (arguments-good i i' g) refl)) refl refl refl refl;
    prefixed = field-good prefixes postfix_more (prefixed-good i i' g) refl refl refl;
    converted = field-good expression_starts postfix_more (cast-good i i' g) refl refl refl;
    right = field-good expression_starts assignment_more (assignment-good i i' g) refl refl refl;
    choice = field-good (t.Question ∷ []) conditional_more
        (made-good choice_of (and-good (token-good (t.Question ∷ []) mark) (and-good (expression-good i i' g) (and-good (token-good (t.Colon ∷ []) mark) (conditional-good i i' g) refl) refl) refl)) refl refl refl;
    members = between-good t.LeftBrace t.RightBrace (made-good listed (and-good (member-good i i' g) (many-good (member-good i i' g) refl refl) refl)) refl refl refl refl;
    constants = between-good t.LeftBrace t.RightBrace
        (made-good listed (and-good (constant-good i i' g) (made-good present (many-good (made-good after (and-good (token-good (t.Comma ∷ []) mark) (optional-good (constant-good i i' g) refl) refl)) refl refl)) refl)) refl refl refl refl;
    declarator = between-good t.LeftParen t.RightParen (declarator-good i i' g) refl refl refl refl;
    abstract = between-good t.LeftParen t.RightParen (some-abstract-good i i' g) refl refl refl refl;
    parameter = between-good t.LeftParen t.RightParen (inner-parameter-good i i' g) refl refl refl refl;
    array = between-good t.LeftBracket t.RightBracket (optional-good (conditional-good i i' g) refl) refl refl refl refl;
    function = between-good t.LeftParen t.RightParen listed-parameters-good refl refl refl refl;
    asserted = field-good paren []
        (made-good asserted_of (and-good (token-good (t.LeftParen ∷ []) mark) (and-good (conditional-good i i' g) (and-good (token-good (t.Comma ∷ []) mark)
        (and-good (made-good (λ x. x.0) (spanned-good texts-good)) (token-good (t.RightParen ∷ []) mark) refl) refl) refl) refl)) refl refl refl;
    parens_low = parens-opening (expression i) expression_starts expression-closed.low refl refl;
    parens_high = parens-opening (expression i') expression_starts expression-closed.high refl refl;
    type_low = parens-opening (typename i) specifier_starts typename-closed.low refl refl;
    type_high = parens-opening (typename i') specifier_starts typename-closed.high refl refl;
    abstract_low = parens-opening (some_abstract i) abstract_inside abstract-closed.low refl refl;
    abstract_high = parens-opening (some_abstract i') abstract_inside abstract-closed.high refl refl;
    parameter_low = parens-opening (inner_parameter i) parameter_inside parameter-closed.low refl refl;
    parameter_high = parens-opening (inner_parameter i') parameter_inside parameter-closed.high refl refl;
    function_low = parens-opening (collected (made all_listed (optional (parameters i)))) (t.RightParen ∷ specifier_starts) parameters-closed.low refl refl;
    function_high = parens-opening (collected (made all_listed (optional (parameters i')))) (t.RightParen ∷ specifier_starts) parameters-closed.high refl refl;
    unary_low = prefixed-unary i;
    unary_high = prefixed-unary i';
  }

-- ---- no room at all

pub nowhere-good : InnerGood false false false nowhere nowhere
nowhere-good = record {
  parens = outside-good paren [];
  type_parens = outside-good paren [];
  atomic_parens = outside-good (t.AtomicParen ∷ []) [];
  index = outside-good (t.LeftBracket ∷ []) [];
  call = outside-good paren [];
  prefixed = outside-good prefixes postfix_more;
  converted = outside-good expression_starts postfix_more;
  right = outside-good expression_starts assignment_more;
  choice = outside-good (t.Question ∷ []) conditional_more;
  members = outside-good (t.LeftBrace ∷ []) [];
  constants = outside-good (t.LeftBrace ∷ []) [];
  declarator = outside-good paren [];
  abstract = outside-good paren [];
  parameter = outside-good paren [];
  array = outside-good (t.LeftBracket ∷ []) [];
  function = outside-good paren [];
  asserted = outside-good paren [];
  parens_low = opening-never expression_starts;
  parens_high = opening-never expression_starts;
  type_low = opening-never specifier_starts;
  type_high = opening-never specifier_starts;
  abstract_low = opening-never abstract_inside;
  abstract_high = opening-never abstract_inside;
  parameter_low = opening-never parameter_inside;
  parameter_high = opening-never parameter_inside;
  function_low = opening-never (t.RightParen ∷ specifier_starts);
  function_high = opening-never (t.RightParen ∷ specifier_starts);
  unary_low = λ n us x m h. absurd h;
  unary_high = λ n us x m h. absurd h;
}

-- whether anything may be open at a level
abbrev pub is_alive : ℕ → Bool
is_alive zero = false
is_alive (suc d) = true

pub same-level : (d : ℕ) → InnerGood false (is_alive d) (is_alive d) (inner d) (inner d)
unfolding inner
same-level zero = nowhere-good
same-level (suc d) = deeper-good (inner d) (inner d) (same-level d)

-- ---- none against two more

pub begins-sign : {A : Type 0} (first : Terminal) (q : Production A) → Begins (sign first & q).part (first ∷ [])
begins-sign first q = begins-and q.part (begins-token (first ∷ []) mark)

-- those that are open from their first token on
pub record Opens (i : Inner) : Type 0 where
  pub parens : Begins i.parens.part paren
  pub prefixed : Begins i.prefixed.part prefixes

prefixed-begins : (i : Inner) → Begins (prefixed i).part prefixes
prefixed-begins i =
    begins-or (begins-shaped (begins-and (unary i).part (begins-token steps (λ x. prefix_of x.terminal))))
    (begins-or (begins-shaped (begins-and (cast i).part (begins-token unary_operators (λ x. prefix_of x.terminal))))
    (begins-or (begins-shaped (begins-sign t.Sizeof (told_apart paren specifier_starts (made e.SizeofType (opened paren [] i.type_parens)) (made e.SizeofExpr (unary i)))))
    (begins-shaped (begins-sign t.Alignof (opened paren [] i.type_parens)))))

pub deeper-opens : (i : Inner) → Opens (deeper i)
deeper-opens i = record { parens = begins-shaped (begins-sign t.LeftParen (expression i & sign t.RightParen)); prefixed = prefixed-begins i }

module _ (i : Inner) (o : Opens i) where
  unary-begins : Begins (unary i).part expression_starts
  unary-begins =
      begins-or (begins-shaped (begins-shaped (begins-and (many (postfix_operator i)).part (begins-shaped (begins-shaped (
      begins-or (begins-token (t.Name ∷ []) (λ x. e.Name x.name))
      (begins-or (begins-token (t.Number ∷ []) (λ x. e.Number))
      (begins-or (begins-token (t.Character ∷ []) (λ x. e.Character))
      (begins-or (begins-shaped (begins-shaped (begins-sign t.Text (many (sign t.Text))))) (begins-shaped o.parens))))))))))
      (begins-shaped (begins-shaped o.prefixed))

  cast-begins : Begins (cast i).part expression_starts
  cast-begins = record { alone = λ n t h. inr (unary-begins.alone n t h) }

  pub assignment-begins : Begins (assignment i).part expression_starts
  assignment-begins = record { alone = λ n t h. inl (inl (inl (inl (inl (inl (inl (inl (inl (inl (inl (inl (cast-begins.alone n t h)))))))))))) }

-- no room, against a level whose first tokens are all fronts
none-good : (alive : Bool) (i : Inner) → InnerGood false alive alive i i → Opens i → InnerGood true false true nowhere (deeper i)
none-good alive i g o =
    let d = deeper-good i i g in
    record {
      parens = room-good d.parens (begins-shaped (begins-sign t.LeftParen (expression i & sign t.RightParen)));
      type_parens = room-good d.type_parens (begins-shaped (begins-sign t.LeftParen (typename i & sign t.RightParen)));
      atomic_parens = room-good d.atomic_parens (begins-shaped (begins-sign t.AtomicParen (typename i & sign t.RightParen)));
      index = room-good d.index (begins-shaped (begins-sign t.LeftBracket (expression i & sign t.RightBracket)));
      call = room-good d.call (begins-shaped (begins-sign t.LeftParen (made all_listed (optional (arguments i)) & sign t.RightParen)));
      prefixed = room-good d.prefixed (prefixed-begins i);
      converted = room-good d.converted (cast-begins i o);
      right = room-good d.right (assignment-begins i o);
      choice = room-good d.choice (begins-shaped (begins-sign t.Question (expression i & (sign t.Colon & conditional i))));
      members = room-good d.members (begins-shaped (begins-sign t.LeftBrace (made listed (member i & many (member i)) & sign t.RightBrace)));
      constants = room-good d.constants (begins-shaped (begins-sign t.LeftBrace (some_constants i & sign t.RightBrace)));
      declarator = room-good d.declarator (begins-shaped (begins-sign t.LeftParen (declarator i & sign t.RightParen)));
      abstract = room-good d.abstract (begins-shaped (begins-sign t.LeftParen (some_abstract i & sign t.RightParen)));
      parameter = room-good d.parameter (begins-shaped (begins-sign t.LeftParen (inner_parameter i & sign t.RightParen)));
      array = room-good d.array (begins-shaped (begins-sign t.LeftBracket (optional (conditional i) & sign t.RightBracket)));
      function = room-good d.function (begins-shaped (begins-sign t.LeftParen (collected (made all_listed (optional (parameters i))) & sign t.RightParen)));
      asserted = room-good d.asserted (begins-shaped (begins-sign t.LeftParen (conditional i & (sign t.Comma & (made (λ x. x.0) (spanned texts) & sign t.RightParen)))));
      parens_low = opening-never expression_starts;
      parens_high = d.parens_high;
      type_low = opening-never specifier_starts;
      type_high = d.type_high;
      abstract_low = opening-never abstract_inside;
      abstract_high = d.abstract_high;
      parameter_low = opening-never parameter_inside;
      parameter_high = d.parameter_high;
      function_low = opening-never (t.RightParen ∷ specifier_starts);
      function_high = d.function_high;
      unary_low = λ n us x m h. absurd h;
      unary_high = d.unary_high;
    }

pub two-levels : (d k : ℕ) → InnerGood true (is_alive d) (is_alive (above d k)) (inner d) (inner (above d k))
unfolding inner
two-levels zero k = none-good true (inner (suc k)) (same-level (suc k)) (deeper-opens (inner k))
two-levels (suc d) k = deeper-good (inner d) (inner (above d k)) (two-levels d k)
