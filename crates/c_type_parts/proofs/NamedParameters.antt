-- A parameter with a name: its declarator, its adjustment, and what it declares.
use Rattle.std.proofs.Common.{◌≡◌, ℕ, Bool, List, [], ◌∷◌, sym, ap, ◌∙◌, subst}
use Rattle.std.specs.Prelude.{Option, Some, Result, Ok, Err}
use Rattle.c_types.specs.declared.ctype.Part.{Part}
use Rattle.c_types.specs.declared.derivation.Derivation.{Derivation}
use Rattle.c_types.specs.declared.entry.Entry.{Entry}
use Rattle.c_types.specs.Extensions.{adjusted}
use Rattle.c_rules.specs.declared.rule.Rule.{Rule as CRule}
use Rattle.c_tree.specs.declared.declared.Declared.{Declared}
use Rattle.c_expr_rules.specs.Outcomes.{State, Checked, Fine, next, first_broken, by_rules, outcome_of, ◌breaks◌}
use Rattle.c_expr_rules.specs.Views.{Passes}
use Rattle.c_expr_rules.specs.declared.found.Fault.{Fault}
use Rattle.c_file_rules.specs.Constructs.{Here, number_in}
use Rattle.c_file_rules.specs.Naming.{is_again, declares, with_types}
use Rattle.c_file_rules.specs.Declarators.{declarator_type, parameter_object, parameter_rules, parameter_found, size_number, size_rule, is_register_word}
use Rattle.c_file_rules.specs.declared.parts.Said.{Said}
use Rattle.c_file_rules.specs.declared.parts.Listed.{Listed}
use Rattle.c_file_rules.specs.Obeying.{Obeys}
use Rattle.c_file_rules.proofs.Obeying.{obeyed}
use Rattle.c_type_parts.proofs.Passed.{passes_behind}
use Rattle.c_names.specs.Named.{stated, is_stated_again}
use Rattle.c_names.proofs.Stating.{stated_named, again_named}

-- a declarator's own rule that the name is declared again goes by the name's letters as by its number
pub declarator_by :
    (here : Here) (s : State) (line index name : ℕ) (is_register again : Bool) (letters : List ℕ) (base : Part) (ds : List Derivation) (answer : Checked Part) →
    letters ≡ here.around.spelling name → again ≡ is_stated_again letters (parameter_object line index is_register base) s →
    declarator_type line again s base ds (λ s p. []) ≡ answer →
    declarator_type line (is_again here.around s name (parameter_object line index is_register base)) s base ds (λ s p. []) ≡ answer
declarator_by here s line index name is_register again letters base ds answer e a h =
    let what = parameter_object line index is_register base in
    ap (λ b. declarator_type line b s base ds (λ s p. [])) (sym (a ∙ again_named here.around s name what letters e)) ∙ h

module _ (here : Here) (line index name : ℕ) (is_register : Bool) where
  abbrev listed_as : Part → Listed
  listed_as made = record { name = Some name; line = line; ty = Ok made }

  abbrev settled : State × Part → Checked Listed
  settled m =
      by_rules line (parameter_rules here name line index is_register m.0 m.1)
      (declares here.around m.0 name (parameter_object line index is_register m.1)) (listed_as m.1)

  -- the parameter as it is declared at last
  pub settles :
      (u new : State) (made : Part) (letters : List ℕ) (again : Bool) (size broken : Option CRule) (r : Result Listed Fault) →
      letters ≡ here.around.spelling name → again ≡ is_stated_again letters (parameter_object line index is_register made) u →
      size ≡ size_rule u made → new ≡ stated letters (parameter_object line index is_register made) u →
      number_in broken ≡ first_broken (2 breaks again ∷ size_number size) → Obeys r line (number_in broken) (listed_as made) →
      Passes new r (settled (u, made))
  settles u new made letters again size broken r spelt a sized n first h =
      let what = parameter_object line index is_register made in
      let b : again ≡ is_again here.around u name what = a ∙ again_named here.around u name what letters spelt in
      let t : new ≡ declares here.around u name what = n ∙ stated_named here.around u name what letters spelt in
      let f : number_in broken ≡ first_broken (parameter_rules here name line index is_register u made) =
      first ∙ (λ i. first_broken (2 breaks b i ∷ size_number (sized i))) in
      subst (λ (answer : Checked Listed). Passes new r answer) (λ i. outcome_of line (f i) (t i) (listed_as made))
      (obeyed new r line (number_in broken) (listed_as made) h)

pub parameter_passes :
    (here : Here) (line index name : ℕ) (said : Said) (s t new : State) (ds : List Derivation) (part made : Part) (types : List Entry) (r : Result Listed Fault) →
    let is_register = is_register_word said.storage in
    declarator_type line (is_again here.around s name (parameter_object line index is_register said.ty)) s said.ty ds (λ s p. []) ≡ Fine t part →
    types ≡ (adjusted t.table part).0 → made ≡ (adjusted t.table part).1 → Passes new r (settled here line index name is_register (with_types types t, made)) →
    Passes new r (parameter_found here line index said (Some name) s ds)
parameter_passes here line index name said s t new ds part made types r declarator grown gives h =
    let is_register = is_register_word said.storage in
    let go : State → Part → Checked Listed = λ s p. settled here line index name is_register (with_types (adjusted s.table p).0 s, (adjusted s.table p).1) in
    subst (λ (answer : Checked Listed). Passes new r answer)
    ((λ i. settled here line index name is_register (with_types (grown i) t, gives i)) ∙ sym (ap (λ c. next c go) declarator)) h

module _ (here : Here) (line index name : ℕ) (said : Said) (s : State) (ds : List Derivation) (letters : List ℕ) (is_register again : Bool) (of_base : Declared)
    (spelt : letters ≡ here.around.spelling name) (register : is_register ≡ is_register_word said.storage) (based : of_base ≡ parameter_object line index is_register said.ty)
    (is_so : again ≡ is_stated_again letters of_base s) where
  again_so : again ≡ is_stated_again letters (parameter_object line index (is_register_word said.storage) said.ty) s
  again_so = is_so ∙ ap (λ (o : Declared). is_stated_again letters o s) (based ∙ ap (λ (r : Bool). parameter_object line index r said.ty) register)

  pub parameter_is_found :
      (t new : State) (part made : Part) (types : List Entry) (again_at_last : Bool) (what : Declared) (size broken : Option CRule) (r : Result Listed Fault) →
      declarator_type line again s said.ty ds (λ s p. []) ≡ Fine t part → types ≡ (adjusted t.table part).0 → made ≡ (adjusted t.table part).1 →
      size ≡ size_rule (with_types types t) made → what ≡ parameter_object line index is_register made →
      again_at_last ≡ is_stated_again letters what (with_types types t) → new ≡ stated letters what (with_types types t) →
      number_in broken ≡ first_broken (2 breaks again_at_last ∷ size_number size) →
      Obeys r line (number_in broken) (record { name = Some name; line = line; ty = Ok made }) →
      Passes new r (parameter_found here line index said (Some name) s ds)
  parameter_is_found t new part made types again_at_last what size broken r declarator grown gives sized is again_then n first h =
      let own = is_register_word said.storage in
      let u = with_types types t in
      let w : what ≡ parameter_object line index own made = is ∙ ap (λ (r : Bool). parameter_object line index r made) register in
      parameter_passes here line index name said s t new ds part made types r
      (declarator_by here s line index name own again letters said.ty ds (Fine t part) spelt again_so declarator)
      grown gives
      (settles here line index name own u new made letters again_at_last size broken r spelt
      (again_then ∙ ap (λ (o : Declared). is_stated_again letters o u) w) sized (n ∙ ap (λ (o : Declared). stated letters o u) w) first h)

  pub parameter_fails :
      (t : State) (f : Fault) → Passes {A = Part} t (Err f) (declarator_type line again s said.ty ds (λ s p. [])) →
      Passes t (Err f) (parameter_found here line index said (Some name) s ds)
  parameter_fails t f h =
      let own = is_register_word said.storage in
      let go : State → Part → Checked Listed = λ s p. settled here line index name own (with_types (adjusted s.table p).0 s, (adjusted s.table p).1) in
      let same : again ≡ is_again here.around s name (parameter_object line index own said.ty) =
      again_so ∙ again_named here.around s name (parameter_object line index own said.ty) letters spelt in
      passes_behind t f (declarator_type line (is_again here.around s name (parameter_object line index own said.ty)) s said.ty ds (λ s p. [])) go
      (subst (λ (b : Bool). Passes {A = Part} t (Err f) (declarator_type line b s said.ty ds (λ s p. []))) same h)
