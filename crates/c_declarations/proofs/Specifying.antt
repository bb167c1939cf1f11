-- What specifiers say together, by what was found of each kind of word.
use Rattle.std.proofs.Common.{◌≡◌, ℕ, List, Option, Some, None, Result, refl, sym, ap, ◌∙◌, subst}
use Rattle.std.specs.List.{filter_map}
use Rattle.std.specs.Option.{unwrap_or}
use Rattle.c_syntax.specs.declared.words.Storage.{Storage}
use Rattle.c_syntax.specs.declared.expr.Specifier.{Specifier}
use Rattle.c_types.specs.declared.ctype.CType.{CType}
use Rattle.c_types.specs.declared.ctype.CType.TheVariants.{Void, Integer, Enumeration, Pointer, ArrayOf, Function, Structure, Union}
use Rattle.c_types.specs.declared.ctype.Part.{Part}
use Rattle.c_types.specs.declared.entry.Entry.{Entry}
use Rattle.c_types.specs.declared.qualifier_set.Qualifiers.{Qualifiers}
use Rattle.c_types.specs.Declarators.{Keeps, IsPlain}
use Rattle.c_types.specs.Whole.{HasForm, IsPartOf, IsPart}
use Rattle.c_rules.specs.declared.rule.Rule.{Rule}
use Rattle.c_specifiers.specs.declared.list.Standing.{Standing}
use Rattle.c_specifiers.specs.QualifierSets.{with_qualifiers}
use Rattle.c_specifiers.specs.Lists.{qualifier_word}
use Rattle.c_declarations.specs.declared.fault.DeclarationFault.{DeclarationFault}
use Rattle.c_declarations.specs.declared.fault.DeclarationFault.TheVariants.{NoMemory}
use Rattle.c_declarations.specs.declared.specifier_list.Named.{Named}
use Rattle.c_declarations.specs.declared.specifier_list.Specification.{Specification}
use Rattle.c_declarations.specs.declared.specifier_list.Words.{Words}
use Rattle.c_type_rules.specs.Qualified.{IsQualified}
use Rattle.c_declarations.specs.Specified.{lowest, rule_of_storage, storage_in_list, named_in_list, set_in_list, rule_of_specifiers, rule_of_words, IsNamed, IsNamedWith, AreWords, IsSaid, IsSpecified, IsCause}
use Rattle.c_declarations.proofs.Keeping.{IsNamed-keeps}

-- want of memory says nothing of the rules
pub no_memory : (o : Option Rule) (f : DeclarationFault) → f ≡ NoMemory → IsCause o f
no_memory o f h = subst (IsCause o) (sym h) tt

bits_are : (list : List Specifier) (set : Qualifiers) → set.0 ≡ with_qualifiers 0 (filter_map qualifier_word list) → set ≡ set_in_list list
bits_are list set h = ap (λ (n : ℕ). let s : Qualifiers = record { 0 = n } in s) h

-- where no rule is broken, neither part breaks one
pub first_fine : (a b : Option Rule) → lowest a b ≡ None → a ≡ None
first_fine None b h = refl
first_fine (Some q) None h = h
first_fine (Some q) (Some r) h = cc

pub second_fine : (a b : Option Rule) → lowest a b ≡ None → b ≡ None
second_fine None b h = h
second_fine (Some q) None h = refl
second_fine (Some q) (Some r) h = cc

pub word_there : (storage : Option (Option Storage)) → rule_of_storage storage ≡ None → (word : Option Storage) → word ≡ unwrap_or storage None → storage ≡ Some word
word_there None h word is = cc
word_there (Some w) h word is = ap Some (sym is)

-- ---- the words of a list, and what they say

pub are_words : (standing : Standing) (list : List Specifier) (w : Words) → w.storage ≡ storage_in_list standing list → w.named ≡ named_in_list list → w.set.0 ≡ with_qualifiers 0 (filter_map qualifier_word list) → AreWords standing list w
are_words standing list w storage by bits = record { storage_is = storage; named_is = by; set_is = bits_are list w.set bits }

module _ (t : List Entry) (standing : Standing) (list : List Specifier) (whole : Option (Result Part Rule)) (w : Words) (are : AreWords standing list w) where
  pub rule_of_list : rule_of_words t whole w.storage w.named w.set ≡ rule_of_specifiers t standing list whole
  rule_of_list =
      ap (λ o. rule_of_words t whole o w.named w.set) are.storage_is
      ∙ ap (λ o. rule_of_words t whole (storage_in_list standing list) o w.set) are.named_is
      ∙ ap (λ s. rule_of_words t whole (storage_in_list standing list) (named_in_list list) s) are.set_is

  pub said_of_list : (s : Specification) → IsSaid t whole w.storage w.named w.set list s → IsSpecified t standing list whole s
  said_of_list s h = record {
    class = sym are.storage_is ∙ h.class;
    ty = with_words (w.named) (named_in_list list) w.set (set_in_list list) s.ty are.named_is are.set_is h.ty;
    inline = h.inline;
    no_return = h.no_return;
  }
    where
      with_words : (m n : Option Named) (p q : Qualifiers) (ty : Part) → m ≡ n → p ≡ q → IsNamedWith t whole m p ty → IsNamedWith t whole n q ty
      with_words m n p q ty e f k = record {
        plain = k.plain;
        is_named = subst (λ (o : Option Named). IsNamed t whole o k.plain) e k.is_named;
        qualified = subst (λ (s : Qualifiers). IsQualified t k.plain s ty) f k.qualified;
      }

pub named_with : (now new : List Entry) (whole : Option (Result Part Rule)) (by : Option Named) (set : Qualifiers) (plain ty : Part) → Keeps now new → IsNamed now whole by plain → IsQualified new plain set ty → IsNamedWith new whole by set ty
named_with now new whole by set plain ty k h q = record { plain = plain; is_named = IsNamed-keeps now new whole by plain k h; qualified = q }

-- the storage class where no rule is broken
pub class_there : (storage : Option (Option Storage)) (b : Option Rule) (word : Option Storage) → lowest (rule_of_storage storage) b ≡ None → word ≡ unwrap_or storage None → storage ≡ Some word
class_there storage b word h is = word_there storage (first_fine (rule_of_storage storage) b h) word is

-- ---- types by words

form_of_plain : (ty : CType) (set : ℕ) → set ≡ 0 → HasForm ty set
form_of_plain Void set h = tt
form_of_plain (Integer kind) set h = tt
form_of_plain (Enumeration tag) set h = tt
form_of_plain (Pointer to) set h = tt
form_of_plain (ArrayOf a) set h = h
form_of_plain (Function signature) set h = h
form_of_plain (Structure tag contents) set h = tt
form_of_plain (Union tag contents) set h = tt

pub plain_is_part : (t : List Entry) (ty : CType) (p : Part) → IsPlain t ty p → IsPart t p
plain_is_part t ty p h = subst (λ (o : Option Entry). IsPartOf o p.qualifiers.0) (sym h.0) (form_of_plain ty p.qualifiers.0 h.1)
