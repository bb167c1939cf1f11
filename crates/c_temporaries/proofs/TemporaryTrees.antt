-- What each part of a tree needs, at the constructors by which Rust sees it.
use Rattle.std.proofs.Common.{◌≡◌, ℕ, suc, ◌+◌, max, List, [], ◌∷◌, refl, sym, ap, ◌∙◌}
use Rattle.std.specs.Prelude.{Option, Some, None}
use Rattle.filc_num.specs.declared.integer.BinOp.{BinOp}
use denote.Hole.Carrier
use Rattle.c_parts.specs.declared.span.Span.{Span}
use Rattle.c_parts.specs.declared.lexeme.Binding.{Binding}
use Rattle.c_syntax.specs.declared.words.Prefix.{Prefix}
use Rattle.c_syntax.specs.declared.words.RecordKind.{RecordKind}
use Rattle.c_syntax.specs.declared.expr.Expr.{Expr}
use Rattle.c_syntax.specs.declared.expr.Link.{Link}
use Rattle.c_syntax.specs.declared.expr.Postfix.{Postfix}
use Rattle.c_syntax.specs.declared.expr.TypeName.{TypeName, TypeName', out-TypeName}
use Rattle.c_syntax.specs.declared.expr.Specifiers.{Specifiers, Specifiers', out-Specifiers}
use Rattle.c_syntax.specs.declared.expr.Assertion.{Assertion}
use Rattle.c_syntax.specs.declared.expr.Specifier.{Specifier}
use Rattle.c_syntax.specs.declared.expr.Member.{Member}
use Rattle.c_syntax.specs.declared.expr.EnumConstant.{EnumConstant, EnumConstant', out-EnumConstant}
use Rattle.c_syntax.specs.declared.expr.Declarator.{Declarator, Declarator', out-Declarator}
use Rattle.c_syntax.specs.declared.expr.Suffix.{Suffix}
use Rattle.c_syntax.specs.declared.expr.Parameter.{Parameter, Parameter', out-Parameter}
use Rattle.c_syntax.specs.declared.expr.ExprKind.TheVariants as kind
use Rattle.c_syntax.specs.declared.expr.PostfixKind.TheVariants as postfix
use Rattle.c_syntax.specs.declared.expr.SpecifierKind.TheVariants as specifier
use Rattle.c_syntax.specs.declared.expr.SuffixKind.TheVariants as suffix
use Rattle.c_syntax.specs.declared.expr.Core.TheVariants as core
use Rattle.c_syntax.specs.declared.expr.Member.TheVariants as member
use Rattle.c_syntax.specs.declared.expr.Core.TheBlock as b
use Rattle.c_syntax.specs.declared.expr.ExprKind.{Row_of-Expr, end_of-Expr, more_of-Expr, Row_of-Postfix, end_of-Postfix, more_of-Postfix, Row_of-Link, end_of-Link, more_of-Link, items-the_row-Expr, items-the_row-Postfix, items-the_row-Link}
use Rattle.c_syntax.specs.declared.expr.Specifiers.{Row_of-Specifier, end_of-Specifier, more_of-Specifier, items-the_row-Specifier}
use Rattle.c_syntax.specs.declared.expr.SpecifierKind.{Row_of-Member, end_of-Member, more_of-Member, items-the_row-Member, Row_of-EnumConstant, end_of-EnumConstant, more_of-EnumConstant, items-the_row-EnumConstant}
use Rattle.c_syntax.specs.declared.expr.Member.{Row_of-Declarator, end_of-Declarator, more_of-Declarator, items-the_row-Declarator}
use Rattle.c_syntax.specs.declared.expr.Declarator.{Row_of-Suffix, end_of-Suffix, more_of-Suffix, items-the_row-Suffix}
use Rattle.c_syntax.specs.declared.expr.SuffixKind.{SuffixKind-Array-0-None' as NoExpr, SuffixKind-Array-0-Some' as SomeExpr, Row_of-Parameter, end_of-Parameter, more_of-Parameter, items-the_row-Parameter}
use Rattle.c_expr_rules.specs.Temporaries.{temporaries_in, temporaries_of, operators_temporaries, operator_temporaries, arguments_temporaries, links_temporaries, seconds_temporaries, type_temporaries, specifiers_temporaries, list_temporaries, specifier_temporaries, members_temporaries, member_temporaries, constants_temporaries, constant_temporaries, declarators_temporaries, declarator_temporaries, core_temporaries, suffixes_temporaries, suffix_temporaries, parameters_temporaries, parameter_temporaries}
use Rattle.c_file_rules.specs.Values.{optional_temporaries}
use Rattle.c_temporaries.specs.TemporaryLists.{most_of_operators, most_of_arguments, most_of_links, most_of_seconds, most_of_specifiers, most_of_members, most_of_constants, most_of_declarators, most_of_suffixes, most_of_parameters}

-- ---- rows as lists

operators_rows : {m : _} (k : Row_of-Postfix m) → operators_temporaries k ≡ most_of_operators (items-the_row-Postfix _ k)
operators_rows end_of-Postfix = refl
operators_rows (more_of-Postfix span o rest) = ap (max (operator_temporaries o)) (operators_rows rest)

arguments_rows : {m : _} (i : ℕ) (k : Row_of-Expr m) → arguments_temporaries i k ≡ most_of_arguments i (items-the_row-Expr _ k)
arguments_rows i end_of-Expr = refl
arguments_rows i (more_of-Expr s1 k1 rest) = ap (max (i + temporaries_in k1)) (arguments_rows (suc i) rest)

links_rows : {m : _} (k : Row_of-Link m) → links_temporaries k ≡ most_of_links (items-the_row-Link _ k)
links_rows end_of-Link = refl
links_rows (more_of-Link span o s1 k1 rest) = ap (max (1 + temporaries_in k1)) (links_rows rest)

seconds_rows : {m : _} (k : Row_of-Expr m) → seconds_temporaries k ≡ most_of_seconds (items-the_row-Expr _ k)
seconds_rows end_of-Expr = refl
seconds_rows (more_of-Expr s1 k1 rest) = ap (max (1 + temporaries_in k1)) (seconds_rows rest)

specifiers_rows : {m : _} (k : Row_of-Specifier m) → list_temporaries k ≡ most_of_specifiers (items-the_row-Specifier _ k)
specifiers_rows end_of-Specifier = refl
specifiers_rows (more_of-Specifier span k rest) = ap (max (specifier_temporaries k)) (specifiers_rows rest)

members_rows : {m : _} (k : Row_of-Member m) → members_temporaries k ≡ most_of_members (items-the_row-Member _ k)
members_rows end_of-Member = refl
members_rows (more_of-Member member rest) = ap (max (member_temporaries member)) (members_rows rest)

constants_rows : {m : _} (k : Row_of-EnumConstant m) → constants_temporaries k ≡ most_of_constants (items-the_row-EnumConstant _ k)
constants_rows end_of-EnumConstant = refl
constants_rows (more_of-EnumConstant constant rest) = ap (max (constant_temporaries constant)) (constants_rows rest)

declarators_rows : {m : _} (k : Row_of-Declarator m) → declarators_temporaries k ≡ most_of_declarators (items-the_row-Declarator _ k)
declarators_rows end_of-Declarator = refl
declarators_rows (more_of-Declarator declarator rest) = ap (max (declarator_temporaries declarator)) (declarators_rows rest)

suffixes_rows : {m : _} (k : Row_of-Suffix m) → suffixes_temporaries k ≡ most_of_suffixes (items-the_row-Suffix _ k)
suffixes_rows end_of-Suffix = refl
suffixes_rows (more_of-Suffix span k rest) = ap (max (suffix_temporaries k)) (suffixes_rows rest)

parameters_rows : {m : _} (k : Row_of-Parameter m) → parameters_temporaries k ≡ most_of_parameters (items-the_row-Parameter _ k)
parameters_rows end_of-Parameter = refl
parameters_rows (more_of-Parameter parameter rest) = ap (max (parameter_temporaries parameter)) (parameters_rows rest)

-- ---- expressions

pub parens_needs : (e : Expr) → temporaries_in (kind.Parens e) ≡ temporaries_of e
unfolding b.hidden-the_row-Expr-1 b.shape-the_row-Expr-1 Carrier.hidden
parens_needs e = refl

pub prefix_needs : (o : Prefix) (e : Expr) → temporaries_in (kind.Prefix o e) ≡ temporaries_of e
unfolding b.hidden-the_row-Expr-1 b.shape-the_row-Expr-1 Carrier.hidden
prefix_needs o e = refl

pub sizeof_needs : (e : Expr) → temporaries_in (kind.SizeofExpr e) ≡ temporaries_of e
unfolding b.hidden-the_row-Expr-1 b.shape-the_row-Expr-1 Carrier.hidden
sizeof_needs e = refl

pub size_needs : (ty : TypeName) → temporaries_in (kind.SizeofType ty) ≡ max 1 (type_temporaries ty)
unfolding b.hidden-the_row-TypeName-3 b.shape-the_row-TypeName-3 Carrier.hidden
size_needs ty = refl

pub align_needs : (ty : TypeName) → temporaries_in (kind.AlignofType ty) ≡ max 1 (type_temporaries ty)
unfolding b.hidden-the_row-TypeName-3 b.shape-the_row-TypeName-3 Carrier.hidden
align_needs ty = refl

pub cast_needs : (ty : TypeName) (e : Expr) → temporaries_in (kind.Cast ty e) ≡ max (type_temporaries ty) (temporaries_of e)
unfolding b.hidden-the_row-Expr-1 b.shape-the_row-Expr-1 b.hidden-the_row-TypeName-3 b.shape-the_row-TypeName-3 Carrier.hidden
cast_needs ty e = refl

pub conditional_needs : (test one other : Expr) → temporaries_in (kind.Conditional test one other) ≡ max (temporaries_of test) (max (1 + temporaries_of one) (2 + temporaries_of other))
unfolding b.hidden-the_row-Expr-1 b.shape-the_row-Expr-1 Carrier.hidden
conditional_needs test one other = refl

pub assign_needs : (o : Option BinOp) (target value : Expr) → temporaries_in (kind.Assign o target value) ≡ max (temporaries_of target) (1 + temporaries_of value)
unfolding b.hidden-the_row-Expr-1 b.shape-the_row-Expr-1 Carrier.hidden
assign_needs o target value = refl

pub postfix_needs : (e : Expr) (operators : List Postfix) → temporaries_in (kind.Postfix e operators) ≡ max (temporaries_of e) (most_of_operators operators)
unfolding b.hidden-the_row-Expr-1 b.shape-the_row-Expr-1 Carrier.hidden
postfix_needs e operators =
    ap (max (temporaries_of e)) (operators_rows (b.hidden-the_row-Postfix-2 operators) ∙ ap most_of_operators (b.items_hidden-the_row-Postfix-2 operators))

pub chain_needs : (e : Expr) (links : List Link) → temporaries_in (kind.Chain e links) ≡ max (temporaries_of e) (most_of_links links)
unfolding b.hidden-the_row-Expr-1 b.shape-the_row-Expr-1 Carrier.hidden
chain_needs e links = ap (max (temporaries_of e)) (links_rows (b.hidden-the_row-Link-4 links) ∙ ap most_of_links (b.items_hidden-the_row-Link-4 links))

pub comma_needs : (e : Expr) (rest : List Expr) → temporaries_in (kind.Comma e rest) ≡ max (temporaries_of e) (most_of_seconds rest)
unfolding b.hidden-the_row-Expr-1 b.shape-the_row-Expr-1 Carrier.hidden
comma_needs e rest = ap (max (temporaries_of e)) (seconds_rows (b.hidden-the_row-Expr-5 rest) ∙ ap most_of_seconds (b.items_hidden-the_row-Expr-5 rest))

pub index_needs : (e : Expr) → operator_temporaries (postfix.Index e) ≡ 1 + temporaries_of e
unfolding b.hidden-the_row-Expr-1 b.shape-the_row-Expr-1 Carrier.hidden
index_needs e = refl

pub call_needs : (arguments : List Expr) → operator_temporaries (postfix.Call arguments) ≡ most_of_arguments 1 arguments
call_needs arguments = arguments_rows 1 (b.hidden-the_row-Expr-5 arguments) ∙ ap (most_of_arguments 1) (b.items_hidden-the_row-Expr-5 arguments)

-- ---- type names, specifiers and declarators

pub specifiers_needs : (ss : Specifiers) → specifiers_temporaries ss ≡ most_of_specifiers (out-Specifiers ss).list
unfolding out-Specifiers Carrier.out
specifiers_needs (Specifiers' span z list) = specifiers_rows list ∙ ap most_of_specifiers (sym (b.items_shown-the_row-Specifier-11 z list))

pub type_needs : (ty : TypeName) → type_temporaries ty ≡ max (specifiers_temporaries (out-TypeName ty).specifiers) (declarator_temporaries (out-TypeName ty).declarator)
unfolding out-TypeName Carrier.out
type_needs (TypeName' span ss d) = refl

pub atomic_needs : (ty : TypeName) → specifier_temporaries (specifier.Atomic ty) ≡ type_temporaries ty
unfolding b.hidden-the_row-TypeName-3 b.shape-the_row-TypeName-3 Carrier.hidden
atomic_needs ty = refl

pub record_needs : (k : RecordKind) (tag : Option ℕ) (ms : List Member) → specifier_temporaries (specifier.Record k tag (Some ms)) ≡ most_of_members ms
record_needs k tag ms = members_rows (b.hidden-the_row-Member-7 ms) ∙ ap most_of_members (b.items_hidden-the_row-Member-7 ms)

pub enum_needs : (tag : Option ℕ) (cs : List EnumConstant) → specifier_temporaries (specifier.Enum tag (Some cs)) ≡ most_of_constants cs
enum_needs tag cs = constants_rows (b.hidden-the_row-EnumConstant-8 cs) ∙ ap most_of_constants (b.items_hidden-the_row-EnumConstant-8 cs)

pub constant_needs : (k : EnumConstant) → constant_temporaries k ≡ optional_temporaries (out-EnumConstant k).value
unfolding out-EnumConstant Carrier.out
constant_needs (EnumConstant' span name NoExpr) = refl
constant_needs (EnumConstant' span name (SomeExpr s1 k1)) = refl

pub declares_needs : (span : Span) (ss : Specifiers) (ds : List Declarator) → member_temporaries (member.Declares span ss ds) ≡ max (specifiers_temporaries ss) (most_of_declarators ds)
declares_needs span ss ds =
    ap (max (specifiers_temporaries ss)) (declarators_rows (b.hidden-the_row-Declarator-6 ds) ∙ ap most_of_declarators (b.items_hidden-the_row-Declarator-6 ds))

pub asserts_needs : (a : Assertion) → member_temporaries (member.Asserts a) ≡ temporaries_of a.condition
asserts_needs a = refl

pub core_needs : (d : Declarator) → core_temporaries (core.Parens d) ≡ declarator_temporaries d
unfolding b.hidden-the_row-Declarator-0 b.shape-the_row-Declarator-0 Carrier.hidden
core_needs d = refl

pub declarator_needs : (d : Declarator) → declarator_temporaries d ≡ max (core_temporaries (out-Declarator d).core) (most_of_suffixes (out-Declarator d).suffixes)
unfolding out-Declarator Carrier.out
declarator_needs (Declarator' span name pointers core z suffixes) =
    ap (max (core_temporaries core)) (suffixes_rows suffixes ∙ ap most_of_suffixes (sym (b.items_shown-the_row-Suffix-10 z suffixes)))

pub array_needs : (size : Option Expr) → suffix_temporaries (suffix.Array size) ≡ optional_temporaries size
array_needs None = refl
array_needs (Some e) = refl

pub function_needs : (ps : List Parameter) (scope : List Binding) → suffix_temporaries (suffix.Function ps scope) ≡ most_of_parameters ps
function_needs ps scope = parameters_rows (b.hidden-the_row-Parameter-9 ps) ∙ ap most_of_parameters (b.items_hidden-the_row-Parameter-9 ps)

pub parameter_needs : (p : Parameter) → parameter_temporaries p ≡ max (specifiers_temporaries (out-Parameter p).specifiers) (declarator_temporaries (out-Parameter p).declarator)
unfolding out-Parameter Carrier.out
parameter_needs (Parameter' span ss d) = refl
