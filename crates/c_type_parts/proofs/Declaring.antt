-- A declarator over its base, and a constant that is counted on.
use Rattle.std.proofs.Common.{◌≡◌, ℕ, Bool, true, false, cond, List, [], ◌∷◌, Some, None, refl, sym, ap, ◌∙◌, subst}
use Rattle.std.specs.Prelude.{Option, Result, ◌==◌, ◌||◌}
use Rattle.filc_num.specs.declared.integer.IntType.TheVariants.{I32}
use Rattle.filc_num.specs.Integers.{convert_of}
use Rattle.c_types.specs.declared.ctype.Part.{Part}
use Rattle.c_types.specs.declared.derivation.Derivation.{Derivation}
use Rattle.c_types.specs.declared.entry.Entry.{Entry}
use Rattle.c_types.specs.Extensions.{derived}
use Rattle.c_rules.specs.declared.rule.Rule.{Rule as CRule}
use Rattle.c_rules.specs.Rules.{number_of}
use Rattle.c_tree.specs.declared.declared.Declared.TheVariants.{Constant}
use Rattle.c_declarations.specs.Declarations.{known_rule}
use Rattle.c_expr_rules.specs.Outcomes.{State, Checked, Fine, Rule, first_broken, by_rules, outcome_of, ◌breaks◌}
use Rattle.c_expr_rules.specs.Views.{Passes}
use Rattle.c_expr_rules.specs.declared.found.Fault.{Fault}
use Rattle.c_file_rules.specs.Constructs.{Here}
use Rattle.c_file_rules.specs.Naming.{is_again, declares, with_types}
use Rattle.c_file_rules.specs.Declarators.{type_rule, made_type, declarator_with, declarator_type}
use Rattle.c_file_rules.specs.Tags.{after_constant, counted_constant}
use Rattle.c_file_rules.specs.declared.parts.Counted.{Counted}
use Rattle.c_file_rules.specs.Obeying.{Obeys}
use Rattle.c_file_rules.proofs.Obeying.{obeyed, breaks_anywhere}
use Rattle.c_type_parts.specs.Lists.{constant_with}
use Rattle.c_names.specs.Named.{stated, is_stated_again}
use Rattle.c_names.proofs.Stating.{stated_named, again_named}

-- ---- declarators

some_broken : (b : Bool) (n : ℕ) → first_broken (2 breaks b ∷ n breaks true ∷ []) ≡ Some (cond b 2 n)
some_broken true n = refl
some_broken false n = refl

pub type_broken :
    (s : State) (line : ℕ) (again : Bool) (base : Part) (ds : List Derivation) (known : CRule) (r : Result Part Fault) (rules : State → Part → List Rule) →
    Some known ≡ known_rule (type_rule s base ds) → Obeys r line (first_broken (2 breaks again ∷ number_of known breaks true ∷ [])) base →
    Passes s r (declarator_type line again s base ds rules)
type_broken s line again base ds known r rules is h =
    let made = made_type s base ds in
    subst (λ k. Passes s r (declarator_with line again k made rules)) is
    (breaks_anywhere s made.0 r line (first_broken (2 breaks again ∷ number_of known breaks true ∷ [])) (cond again 2 (number_of known)) base made.1
    (some_broken again (number_of known)) h)

pub type_is_made :
    (s : State) (line : ℕ) (again : Bool) (base made : Part) (ds : List Derivation) (types : List Entry) →
    None ≡ known_rule (type_rule s base ds) → types ≡ (derived s.table base ds).0 → made ≡ (derived s.table base ds).1 →
    declarator_type line again s base ds (λ s p. []) ≡ Fine (with_types types s) made
type_is_made s line again base made ds types none grown gives =
    ap (λ k. declarator_with line again k (made_type s base ds) (λ s p. [])) (sym none)
    ∙ sym (λ i. Fine (with_types (grown i) s) (gives i))

-- ---- constants of enumerations

pub counts_on :
    (here : Here) (s new : State) (line name : ℕ) (c next : Counted) (again : Bool) (letters : List ℕ) (r : Result Counted Fault) →
    letters ≡ here.around.spelling name → again ≡ is_stated_again letters (Constant c.value) s → new ≡ stated letters (Constant c.value) s →
    next ≡ record c { value = after_constant c.value } →
    Obeys r line (first_broken (2 breaks again ∷ 10 breaks (c.value == 2147483648) ∷ [])) next → Passes new r (counted_constant here line name s c)
counts_on here s new line name c next again letters r e a n is h =
    let b : again ≡ is_again here.around s name (Constant c.value) = a ∙ again_named here.around s name (Constant c.value) letters e in
    let t : new ≡ declares here.around s name (Constant c.value) = n ∙ stated_named here.around s name (Constant c.value) letters e in
    subst (λ (answer : Checked Counted). Passes new r answer)
    (λ i. by_rules line (2 breaks b i ∷ 10 breaks (c.value == 2147483648) ∷ []) (t i) (is i))
    (obeyed new r line (first_broken (2 breaks again ∷ 10 breaks (c.value == 2147483648) ∷ [])) next h)

pub is_valued :
    (here : Here) (s new : State) (name value kept : ℕ) (c next : Counted) (again : Bool) (letters : List ℕ) →
    letters ≡ here.around.spelling name → kept ≡ convert_of value I32 → again ≡ is_stated_again letters (Constant kept) s → new ≡ stated letters (Constant kept) s →
    next ≡ record { value = after_constant kept; is_again = c.is_again || again } → constant_with here name s c value ≡ Fine new next
is_valued here s new name value kept c next again letters e k a n is =
    let own = Constant (convert_of value I32) in
    let b : again ≡ is_again here.around s name own =
    a ∙ again_named here.around s name (Constant kept) letters e ∙ ap (λ (v : ℕ). is_again here.around s name (Constant v)) k in
    let t : new ≡ declares here.around s name own =
    n ∙ stated_named here.around s name (Constant kept) letters e ∙ ap (λ (v : ℕ). declares here.around s name (Constant v)) k in
    let m : next ≡ record { value = after_constant (convert_of value I32); is_again = c.is_again || is_again here.around s name own } =
    is ∙ (λ i. record { value = after_constant (k i); is_again = c.is_again || b i }) in
    sym (λ i. Fine (t i) (m i))
