-- Each production of specifiers and declarators is read by its reader, at each two levels of nesting.
use Rattle.std.proofs.Common.{◌≡◌, Bool, true, List, [], ◌∷◌, refl}
use Rattle.c_parts.specs.declared.terminal.Terminal.TheVariants as t
use Rattle.c_parts.specs.Kinds.{Kinds, disjoint}
use Rattle.c_parts.specs.Production.{Production, mark, ◌&◌, made, many, Nested, opened}
use Rattle.c_parts.proofs.Whole.{Whole, token-whole}
use Rattle.c_parts.proofs.Openings.{Opening, Declines, Shares, opening-shaped, opening-and, declines-apart, declines-opening, declines-or, declines-shaped, declines-and, shares-opening, shares-right, shares-shaped, shares-and}
use Rattle.c_parts.proofs.Good.{Good, token-good, and-good, or-good, made-good, spanned-good, declares-good, specifies-good, specified-good, many-good, nothing-good, optional-good, told-apart-good}
use Rattle.c_syntax.specs.declared.expr.SpecifierKind.TheVariants as k
use Rattle.c_syntax.specs.declared.expr.Member.TheVariants as m
use Rattle.c_syntax.specs.declared.expr.Core.TheVariants as core
use Rattle.c_syntax.specs.declared.expr.Core.{Core}
use Rattle.c_syntax.specs.declared.expr.Suffix.{Suffix}
use Rattle.c_syntax.specs.declared.expr.Declarator.{Declarator}
use Rattle.c_syntax.specs.declared.expr.SuffixKind.TheVariants as suffix
use Rattle.c_syntax.specs.Words.{storage_of, function_of, qualifier_of, basic_of, record_of}
use Rattle.c_syntax.specs.Values.{after, listed, name_of, specifier_of, specifiers_of, is_type, is_typedef_specifier, atomic_of, record_of_parts, enum_of_parts, tagged, untagged, member_of, assertion_of, constant_of, constant_scope, pointer_of, name_core, declarator_of, nothing_core, no_pointers, with_pointers, suffix_of, parameter_of, type_name_of, parameter_scope}
use Rattle.c_syntax.specs.Grammar.{any_name, declared_name, storage_words, function_words, qualifier_words, basic_words, record_words, specifier_starts, abstract_inside, parameter_inside, paren, Inner, assertion, record_type, enum_type, specifier_kind, specifier, specifiers, constant, qualifier, pointer, suffix_part, declarator, abstract_core, abstract, some_abstract, parameter_core, named_core, parameter_declarator, inner_parameter, parameter, parameters, typename, member}
use Rattle.c_syntax.proofs.Expressions.{InnerGood, conditional-good}

pub qualifier-good : {strict : Bool} → Good strict qualifier qualifier
qualifier-good = token-good (t.Atomic ∷ qualifier_words) (λ x. qualifier_of x.terminal)

pub pointer-good : {strict : Bool} → Good strict pointer pointer
pointer-good = made-good pointer_of (spanned-good (and-good (token-good (t.Star ∷ []) mark) (many-good qualifier-good refl refl) refl))

pointers-good : {strict : Bool} → Good strict (many pointer) (many pointer)
pointers-good = many-good pointer-good refl refl

-- ---- a parenthesis that begins a suffix isn't one before an inner declarator

suffix-declines : {alive : Bool} (second : Kinds) (j : Inner) → Whole (opened (t.LeftBracket ∷ []) [] j.array) → Opening alive j.function.part (t.RightParen ∷ specifier_starts)
    → disjoint (t.RightParen ∷ specifier_starts) second ≡ true → Declines alive (suffix_part j).part second
suffix-declines {alive} second j wa o apart = declines-shaped (declines-shaped (
    declines-or (declines-shaped (declines-apart alive second wa refl)) (declines-shaped (declines-opening second o apart))))

suffix-shares : {alive : Bool} (j : Inner) → Opening alive j.function.part (t.RightParen ∷ specifier_starts) → Shares alive (suffix_part j).part
suffix-shares j o = shares-shaped (shares-shaped (shares-right (made suffix.Array (opened (t.LeftBracket ∷ []) [] j.array)).part (shares-shaped (shares-opening o))))

abbrev suffixes : Inner → Production (Core × List Suffix)
suffixes j = made nothing_core (made listed (suffix_part j & many (suffix_part j)))

suffixes-declines : {alive : Bool} (second : Kinds) (j : Inner) → Whole (suffix_part j) → Declines alive (suffix_part j).part second → Declines alive (suffixes j).part second
suffixes-declines second j ws d = declines-shaped (declines-shaped (declines-and (many (suffix_part j)).part ws refl d))

suffixes-shares : {alive : Bool} (j : Inner) → Shares alive (suffix_part j).part → Shares alive (suffixes j).part
suffixes-shares j s = shares-shaped (shares-shaped (shares-and (many (suffix_part j)).part s))

inner-opening : {alive : Bool} (second : Kinds) (f : Nested Declarator) (j : Inner) → Whole (opened paren [] f) → Opening alive f.part second
    → Opening alive (made core.Parens (opened paren [] f) & many (suffix_part j)).part second
inner-opening second f j w o = opening-and-made w o
  where
    opening-and-made : {alive : Bool} → Whole (opened paren [] f) → Opening alive f.part second → Opening alive (made core.Parens (opened paren [] f) & many (suffix_part j)).part second
    opening-and-made w o = opening-and {a = made core.Parens (opened paren [] f)} (many (suffix_part j)).part (Rattle.c_parts.proofs.Whole.made-whole core.Parens w) refl (opening-shaped o)

module _ {strict alive alive' : Bool} (i i' : Inner) (g : InnerGood strict alive alive' i i') where
  pub assertion-good : Good strict (assertion i) (assertion i')
  assertion-good = made-good assertion_of (spanned-good (and-good (token-good (t.StaticAssert ∷ []) mark) (and-good g.asserted (token-good (t.Semicolon ∷ []) mark) refl) refl))

  pub record-type-good : Good strict (record_type i) (record_type i')
  record-type-good = made-good record_of_parts (and-good (token-good record_words (λ x. record_of x.terminal))
      (or-good (made-good tagged (and-good (token-good any_name name_of) (optional-good g.members refl) refl)) (made-good untagged g.members) refl refl) refl)

  pub enum-type-good : Good strict (enum_type i) (enum_type i')
  enum-type-good = made-good enum_of_parts (and-good (token-good (t.Enum ∷ []) mark)
      (or-good (made-good tagged (and-good (token-good any_name name_of) (optional-good g.constants refl) refl)) (made-good untagged g.constants) refl refl) refl)

  pub specifier-kind-good : Good strict (specifier_kind i) (specifier_kind i')
  specifier-kind-good =
      or-good (token-good storage_words (λ x. k.Storage (storage_of x.terminal)))
      (or-good (token-good function_words (λ x. k.Function (function_of x.terminal)))
      (or-good (token-good qualifier_words (λ x. k.Qualifier (qualifier_of x.terminal)))
      (or-good (token-good basic_words (λ x. k.Basic (basic_of x.terminal)))
      (or-good (token-good (t.TypedefName ∷ []) (λ x. k.TypedefName x.name))
      (or-good (made-good atomic_of (and-good (token-good (t.Atomic ∷ []) mark) (optional-good g.atomic_parens refl) refl))
      (or-good record-type-good enum-type-good refl refl)
      refl refl)
      refl refl)
      refl refl)
      refl refl)
      refl refl)
      refl refl

  pub specifier-good : Good strict (specifier i) (specifier i')
  specifier-good = specifies-good is_type is_typedef_specifier (made-good specifier_of (spanned-good specifier-kind-good)) refl

  pub specifiers-good : Good strict (specifiers i) (specifiers i')
  specifiers-good = made-good specifiers_of (spanned-good (and-good specifier-good (many-good specifier-good refl refl) refl))

  pub constant-good : Good strict (constant i) (constant i')
  constant-good = declares-good constant_scope
      (made-good constant_of (spanned-good (and-good (token-good any_name name_of) (optional-good (made-good after (and-good (token-good (t.Equal ∷ []) mark) (conditional-good i i' g) refl)) refl) refl))) refl

  pub suffix-good : Good strict (suffix_part i) (suffix_part i')
  suffix-good = made-good suffix_of (spanned-good (or-good (made-good suffix.Array g.array) (made-good (λ x. suffix.Function x.0 x.1) g.function) refl refl))

  suffixes-good : Good strict (many (suffix_part i)) (many (suffix_part i'))
  suffixes-good = many-good suffix-good refl refl

  pub declarator-good : Good strict (declarator i) (declarator i')
  declarator-good = made-good declarator_of (spanned-good (and-good pointers-good
      (and-good (or-good (made-good name_core (spanned-good (token-good declared_name name_of))) (made-good core.Parens g.declarator) refl refl) suffixes-good refl) refl))

  pub abstract-core-good : Good strict (abstract_core i) (abstract_core i')
  abstract-core-good =
      told-apart-good alive alive' abstract_inside
      (and-good (made-good core.Parens g.abstract) suffixes-good refl) (made-good nothing_core (made-good listed (and-good suffix-good suffixes-good refl))) refl refl
      (inner-opening abstract_inside i.abstract i g.abstract.low g.abstract_low)
      (suffixes-declines abstract_inside i suffix-good.low (suffix-declines abstract_inside i g.array.low g.function_low refl)) (suffixes-shares i (suffix-shares i g.function_low))
      (inner-opening abstract_inside i'.abstract i' g.abstract.high g.abstract_high)
      (suffixes-declines abstract_inside i' suffix-good.high (suffix-declines abstract_inside i' g.array.high g.function_high refl)) (suffixes-shares i' (suffix-shares i' g.function_high))
      refl

  pub abstract-good : Good strict (abstract i) (abstract i')
  abstract-good = made-good declarator_of (spanned-good (and-good pointers-good (or-good abstract-core-good (nothing-good (core.Nothing, [])) refl refl) refl))

  pub some-abstract-good : Good strict (some_abstract i) (some_abstract i')
  some-abstract-good = made-good declarator_of (spanned-good (
      or-good (made-good with_pointers (and-good pointer-good (and-good pointers-good (or-good abstract-core-good (nothing-good (core.Nothing, [])) refl refl) refl) refl))
      (made-good no_pointers abstract-core-good) refl refl))

  pub parameter-core-good : Good strict (parameter_core i) (parameter_core i')
  parameter-core-good =
      told-apart-good alive alive' parameter_inside
      (and-good (made-good core.Parens g.parameter) suffixes-good refl) (made-good nothing_core (made-good listed (and-good suffix-good suffixes-good refl))) refl refl
      (inner-opening parameter_inside i.parameter i g.parameter.low g.parameter_low)
      (suffixes-declines parameter_inside i suffix-good.low (suffix-declines parameter_inside i g.array.low g.function_low refl)) (suffixes-shares i (suffix-shares i g.function_low))
      (inner-opening parameter_inside i'.parameter i' g.parameter.high g.parameter_high)
      (suffixes-declines parameter_inside i' suffix-good.high (suffix-declines parameter_inside i' g.array.high g.function_high refl)) (suffixes-shares i' (suffix-shares i' g.function_high))
      refl

  named-core-good : Good strict (named_core declared_name i) (named_core declared_name i')
  named-core-good = or-good (and-good (made-good name_core (spanned-good (token-good declared_name name_of))) suffixes-good refl) parameter-core-good refl refl

  plain-core-good : Good strict (named_core (t.Name ∷ []) i) (named_core (t.Name ∷ []) i')
  plain-core-good = or-good (and-good (made-good name_core (spanned-good (token-good (t.Name ∷ []) name_of))) suffixes-good refl) parameter-core-good refl refl

  pub parameter-declarator-good : Good strict (parameter_declarator i) (parameter_declarator i')
  parameter-declarator-good = made-good declarator_of (spanned-good (and-good pointers-good (or-good named-core-good (nothing-good (core.Nothing, [])) refl refl) refl))

  pub inner-parameter-good : Good strict (inner_parameter i) (inner_parameter i')
  inner-parameter-good = made-good declarator_of (spanned-good (
      or-good (made-good with_pointers (and-good pointer-good (and-good pointers-good (or-good named-core-good (nothing-good (core.Nothing, [])) refl refl) refl) refl))
      (made-good no_pointers plain-core-good) refl refl))

  pub parameter-good : Good strict (parameter i) (parameter i')
  parameter-good = made-good parameter_of (spanned-good (specified-good (declares-good parameter_scope (and-good specifiers-good parameter-declarator-good refl) refl)))

  pub parameters-good : Good strict (parameters i) (parameters i')
  parameters-good = made-good listed (and-good parameter-good (many-good (made-good after (and-good (token-good (t.Comma ∷ []) mark) parameter-good refl)) refl refl) refl)

  pub typename-good : Good strict (typename i) (typename i')
  typename-good = made-good type_name_of (spanned-good (specified-good (and-good specifiers-good abstract-good refl)))

  pub member-good : Good strict (member i) (member i')
  member-good =
      or-good (made-good member_of (spanned-good (specified-good (and-good specifiers-good
      (and-good (made-good listed (and-good declarator-good (many-good (made-good after (and-good (token-good (t.Comma ∷ []) mark) declarator-good refl)) refl refl) refl))
      (token-good (t.Semicolon ∷ []) mark) refl) refl))))
      (made-good m.Asserts assertion-good) refl refl
