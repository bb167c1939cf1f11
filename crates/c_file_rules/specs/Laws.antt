-- What is to hold of whole files and of their types, in words that aren't the definition again.
use Rattle.std.specs.Prelude.{◌≡◌, ℕ, List, None, All}
use Rattle.c_syntax.specs.declared.file.File.{File}
use Rattle.c_types.specs.declared.ctype.CType.{CType}
use Rattle.c_types.specs.declared.ctype.Part.{Part}
use Rattle.c_types.specs.declared.derivation.Derivation.{Derivation}
use Rattle.c_types.specs.Declarators.{shape_at, Keeps, IsPlain, IsDerived, IsParameterList, IsAdjusted}
use Rattle.c_types.specs.Derivations.{lowest_rule}
use Rattle.c_types.specs.Whole.{IsTypeAt, IsPart, DerivationFits}
use Rattle.c_tree.specs.Plain.{PlainProgram}
use Rattle.c_expr_rules.specs.Outcomes.{Broken}
use Rattle.c_file_rules.specs.Types.{Table, with_type, type_of_part, derived_each, derived, list_from, parameter_list, adjusted_as, adjusted}
use Rattle.c_file_rules.specs.Files.{Tokens, IsProgramOf, IsRefused}

-- a file isn't both a program and refused, and is refused by one rule at one line
pub record HasOneAnswer (t : Tokens) (file : File) : Type 0 where
  pub one : (program : PlainProgram) (broken : Broken) → IsProgramOf t file program → IsRefused t file broken → ⊥
  pub same : (a b : Broken) → IsRefused t file a → IsRefused t file b → a ≡ b

abbrev pub FilesHaveOneAnswer : Type 0
FilesHaveOneAnswer = (t : Tokens) (file : File) → HasOneAnswer t file

-- a table keeps what it has, and the types that are made in it are those that their words, lists and declarators say
pub record TypesAreMade (t : Table) : Type 0 where
  pub plain : (ty : CType) → Keeps t (with_type t ty).0 × IsPlain (with_type t ty).0 ty (with_type t ty).1
  pub list :
      (types : List ℕ)
      → Keeps t (list_from t types).0 × IsParameterList (list_from t types).0 types (list_from t types).1
  pub list_of_types : (types : List ℕ) → All (IsTypeAt t) types → parameter_list t types ≡ list_from t types
  pub adjusted_part : (p : Part) → IsPart t p → adjusted t p ≡ adjusted_as t p (type_of_part t p)
  pub derived_part :
      (base : Part) (ds : List Derivation) → IsPart t base → All (DerivationFits t) ds
      → lowest_rule (shape_at t base.number) None ds ≡ None → derived t base ds ≡ derived_each t base ds
  pub adjusted :
      (p : Part) → let made = adjusted_as t p (type_of_part t p) in Keeps t made.0 × IsAdjusted t made.0 p made.1
  pub derived :
      (base : Part) (ds : List Derivation) → IsTypeAt t base.number → lowest_rule (shape_at t base.number) None ds ≡ None
      → Keeps t (derived_each t base ds).0 × IsDerived (derived_each t base ds).0 base ds (derived_each t base ds).1

abbrev pub TablesKeepTypes : Type 0
TablesKeepTypes = (t : Table) → TypesAreMade t
