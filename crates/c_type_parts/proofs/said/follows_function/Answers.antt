-- The declarators are those of the list.
use Rattle.std.proofs.Common.{◌≡◌, sym, ◌∙◌, subst}
use Rattle.std.specs.List.{list_any}
use Rattle.c_syntax.specs.declared.file.InitDeclarator.{InitDeclarator}
use Rattle.c_type_parts.specs.declared.said.Follows.{Follows}
use Rattle.c_file_rules.specs.Declarators.{is_function_declared}
use Rattle.c_file_rules.specs.Specifiers.{declarators_in}
use Rattle.c_type_parts.specs.Lists.{seen_follows}
use Rattle.c_type_parts.proofs.AnyOf.{any_map}
use Rattle.c_type_parts.proofs.said.follows_function.Goals as goal

pub returns-in-Declarators : goal.returns-in-Declarators
returns-in-Declarators c =
    let test = is_function_declared c.args.names_function in
    subst (λ (f : Follows). c.is_any_function.result ≡ list_any test (declarators_in (seen_follows f))) (sym c.in-Declarators.is)
    (c.is_any_function.ensures ∙ sym (any_map test (λ (i : InitDeclarator). i.declarator) c.in-Declarators.inits.now))
