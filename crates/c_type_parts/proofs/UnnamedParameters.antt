-- A parameter without a name, and the list that its name's size is given in.
use Rattle.std.proofs.Common.{◌≡◌, ℕ, List, refl, sym, ◌∙◌, subst}
use Rattle.std.specs.Prelude.{Option, Some, None, Result, Ok, Err}
use Rattle.c_syntax.specs.declared.expr.Declarator.{Declarator}
use Rattle.c_types.specs.declared.ctype.Part.{Part}
use Rattle.c_types.specs.declared.derivation.Derivation.{Derivation}
use Rattle.c_types.specs.declared.entry.Entry.{Entry}
use Rattle.c_types.specs.declared.rule.TypeRule.{TypeRule}
use Rattle.c_types.specs.Extensions.{derived}
use Rattle.c_expr_rules.specs.Outcomes.{State, Checked, Fine}
use Rattle.c_expr_rules.specs.Views.{Passes}
use Rattle.c_expr_rules.specs.declared.found.Fault.{Fault}
use Rattle.c_file_rules.specs.Constructs.{Here}
use Rattle.c_file_rules.specs.Naming.{with_types}
use Rattle.c_file_rules.specs.Declarators.{type_rule, unnamed_type, outermost_pointer, line_of, name_of, parameter_found}
use Rattle.c_file_rules.specs.declared.parts.Said.{Said}
use Rattle.c_file_rules.specs.declared.parts.Listed.{Listed}
use Rattle.c_file_rules.specs.declared.parts.Formed.{Formed}
use Rattle.c_type_parts.specs.Lists.{type_or_rule, parameter_of}

same_type : (broken : Option TypeRule) (made : State × Part) → unnamed_type broken made ≡ type_or_rule made.1 broken
same_type None made = refl
same_type (Some broken) made = refl

pub unnamed_is :
    (here : Here) (s : State) (line : ℕ) (said : Said) (ds : List Derivation) (types : List Entry) (made : Part) (broken : Option TypeRule) (ty : Result Part TypeRule) →
    types ≡ (derived s.table said.ty ds).0 → made ≡ (derived s.table said.ty ds).1 → broken ≡ type_rule s said.ty ds → ty ≡ type_or_rule made broken →
    parameter_found here line 0 said None s ds ≡ Fine (with_types types s) (record { name = None; line = line; ty = ty })
unnamed_is here s line said ds types made broken ty grown gives rule is =
    let all = derived s.table said.ty ds in
    let t : ty ≡ unnamed_type (type_rule s said.ty ds) (with_types all.0 s, all.1) =
    is ∙ (λ i. type_or_rule (gives i) (rule i)) ∙ sym (same_type (type_rule s said.ty ds) (with_types all.0 s, all.1)) in
    sym (λ i. Fine (with_types (grown i) s) (record { name = None; line = line; ty = t i }))

-- by the declarator's name, and its derivations with a size
pub found_as :
    (here : Here) (d : Declarator) (index : ℕ) (said : Said) (s new : State) (f : Formed) (r : Result Listed Fault) (name : Option ℕ) (ds : List Derivation) →
    name_of d ≡ name → ds ≡ outermost_pointer f.derivations → Passes new r (parameter_found here (line_of d) index said name s ds) →
    Passes new r (parameter_of here d index said s f)
found_as here d index said s new f r name ds named sized h =
    subst (λ (answer : Checked Listed). Passes new r answer) (λ i. parameter_found here (line_of d) index said (sym named i) s (sized i)) h
