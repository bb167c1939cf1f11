-- Specifiers come before their declarator.
use Rattle.std.proofs.Common.{◌≡◌, List, None, refl, sym, subst}
use Rattle.c_syntax.specs.declared.expr.Specifier.{Specifier}
use Rattle.c_types.proofs.Deriving.{Keeps-trans, All-keeps}
use Rattle.c_types.proofs.Whole.{Keeps-stays}
use Rattle.c_declarations.specs.Specified.{rule_of_specifiers, IsSpecified, IsCause}
use Rattle.c_declarations.specs.Declarations.{derivations_in, IsDeclaredBy, IsFaultBy, IsDeclared, IsFault}
use Rattle.c_declarations.proofs.Outcomes.{if_ok, if_err, always}
use Rattle.c_declarations.proofs.Declaring.{specifiers_fault, declarator_fault, declared}
use Rattle.c_declarations.proofs.declaration.declaration_of.Goals as goal

pub declared_by-requires-clause-lists : goal.declared_by-requires-clause-lists
declared_by-requires-clause-lists c =
    let now = c.specification_of.new.types in
    All-keeps c.args.types.now now (derivations_in c.args.found.now.known c.args.found.now.outermost c.args.declarator.now) (Keeps-stays c.args.types.now now c.specification_of.ensures.kept) c.requires.lists

pub returns-in-Ok-clause-made : goal.returns-in-Ok-clause-made
returns-in-Ok-clause-made c =
    let now = c.specification_of.new.types in
    let new = c.declared_by.new.types in
    let found = c.args.found.now in
    let d = c.args.declarator.now in
    if_ok c.declared_by.result (IsDeclaredBy new c.in-Ok.said found d) (IsDeclared new c.args.standing c.args.specifiers.now found d)
    (declared c.args.types.now now new c.args.standing c.args.specifiers.now found d c.in-Ok.said c.declared_by.ensures.kept
    (subst (λ (list : List Specifier). IsSpecified now c.args.standing list found.whole c.in-Ok.said) c.as_slice-list.ensures c.in-Ok.ensures.said))
    c.declared_by.ensures.made

pub returns-in-Ok-clause-fine : goal.returns-in-Ok-clause-fine
returns-in-Ok-clause-fine c =
    always c.declared_by.result _ (subst (λ (list : List Specifier). rule_of_specifiers c.args.types.now c.args.standing list c.args.found.now.whole ≡ None) c.as_slice-list.ensures c.in-Ok.ensures.fine)

pub returns-in-Ok-clause-fault : goal.returns-in-Ok-clause-fault
returns-in-Ok-clause-fault c =
    let now = c.specification_of.new.types in
    let new = c.declared_by.new.types in
    let found = c.args.found.now in
    let d = c.args.declarator.now in
    if_err c.declared_by.result (IsFaultBy now c.in-Ok.said found d) (IsFault c.args.types.now new c.args.standing c.args.specifiers.now found d)
    (declarator_fault c.args.types.now now new c.args.standing c.args.specifiers.now found d c.in-Ok.said
    (subst (λ (list : List Specifier). rule_of_specifiers c.args.types.now c.args.standing list found.whole ≡ None) c.as_slice-list.ensures c.in-Ok.ensures.fine)
    c.declared_by.ensures.kept
    (subst (λ (list : List Specifier). IsSpecified now c.args.standing list found.whole c.in-Ok.said) c.as_slice-list.ensures c.in-Ok.ensures.said)
    c.in-Ok.ensures.part)
    c.declared_by.ensures.fault

pub returns-in-Ok-clause-kept : goal.returns-in-Ok-clause-kept
returns-in-Ok-clause-kept c = Keeps-trans c.args.types.now c.specification_of.new.types c.declared_by.new.types c.specification_of.ensures.kept c.declared_by.ensures.kept

pub returns-in-Err-clause-fault : goal.returns-in-Err-clause-fault
returns-in-Err-clause-fault c =
    let now = c.specification_of.new.types in
    subst (IsFault c.args.types.now now c.args.standing c.args.specifiers.now c.args.found.now c.args.declarator.now) (sym c.fault_at.ensures)
    (specifiers_fault c.args.types.now now now c.args.standing c.args.specifiers.now c.args.found.now c.args.declarator.now _ c.in-Err.fault refl
    (subst (λ (list : List Specifier). IsCause (rule_of_specifiers c.args.types.now c.args.standing list c.args.found.now.whole) c.in-Err.fault) c.as_slice-list.ensures c.in-Err.ensures.fault))
