-- What a list of specifiers says goes by its words.
use Rattle.std.proofs.Common.{◌≡◌, ℕ, List, sym, ap, ◌∙◌, subst}
use Rattle.std.specs.Prelude.{Option, Result}
use Rattle.c_syntax.specs.declared.expr.Specifier.{Specifier}
use Rattle.c_syntax.specs.declared.words.Storage.{Storage}
use Rattle.c_types.specs.declared.ctype.Part.{Part}
use Rattle.c_types.specs.declared.entry.Entry.{Entry}
use Rattle.c_types.specs.Extensions.{qualified}
use Rattle.c_rules.specs.declared.rule.Rule.{Rule as CRule}
use Rattle.c_specifiers.specs.declared.list.Standing.{Standing}
use Rattle.c_declarations.specs.declared.specifier_list.Words.{Words}
use Rattle.c_declarations.specs.Specified.{AreWords, storage_in_list, named_in_list, set_in_list}
use Rattle.c_expr_rules.specs.Outcomes.{State, Checked}
use Rattle.c_expr_rules.specs.Views.{Passes, Grows, seen_state}
use Rattle.c_expr_rules.specs.declared.state.State.{State as Kept}
use Rattle.c_expr_rules.specs.declared.found.Fault.{Fault}
use Rattle.c_file_rules.specs.Constructs.{by_rule, number_in}
use Rattle.c_file_rules.specs.Obeying.{Obeys}
use Rattle.c_file_rules.specs.Specifiers.{Follows, named_plain, storage_or, said_by, list_rule, specified}
use Rattle.c_file_rules.specs.declared.parts.Parts.{Parts}
use Rattle.c_file_rules.specs.declared.parts.Said.{Said}
use Rattle.c_file_rules.proofs.Obeying.{obeys_rule}
use Rattle.c_names.proofs.Growth.{grows_by_types}
use Rattle.c_type_parts.specs.Lists as lists
use Rattle.c_type_parts.specs.Lists.{said_of}

abbrev words_of : Standing → List Specifier → Words
words_of place list = record { storage = storage_in_list place list; named = named_in_list list; set = set_in_list list }

words_are : (place : Standing) (list : List Specifier) (w : Words) → AreWords place list w → w ≡ words_of place list
words_are place list w a = λ i. record { storage = a.storage_is i; named = a.named_is i; set = a.set_is i }

pub list_is_said :
    (line : ℕ) (place : Standing) (follows : Follows) (list : List Specifier) (s new : State) (p : Parts) (w : Words) (said : Said) (broken : Option CRule) (r : Result Said Fault) →
    AreWords place list w → new ≡ (said_of s w p).0 → said ≡ (said_of s w p).1 → broken ≡ lists.list_rule place follows new w p said →
    Obeys r line (number_in broken) said → Passes new r (specified line place follows list s p)
list_is_said line place follows list s new p w said broken r a after is rule h =
    let e = words_are place list w a in
    let n : new ≡ (said_by place list s p).0 = after ∙ ap (λ (w : Words). (said_of s w p).0) e in
    let t : said ≡ (said_by place list s p).1 = is ∙ ap (λ (w : Words). (said_of s w p).1) e in
    let b : broken ≡ list_rule place follows list (said_by place list s p).0 p (said_by place list s p).1 =
    rule ∙ (λ i. lists.list_rule place follows (n i) (e i) p (t i)) in
    subst (λ (answer : Checked Said). Passes new r answer) (λ i. by_rule line (b i) (n i) (t i)) (obeys_rule new r line broken said h)

-- ---- by the type that words name

module _ (s mid : Kept) (plain : Part) (w : Words) (p : Parts) (leaves : mid ≡ record s { types = (named_plain (seen_state s) p.whole w.named).0 })
    (is_plain : plain ≡ (named_plain (seen_state s) p.whole w.named).1) where
  pub said_leaves : (types : List Entry) → types ≡ (qualified mid.types plain w.set.0).0 → seen_state (record mid { types = types }) ≡ (said_of (seen_state s) w p).0
  said_leaves types grown =
      let own = named_plain (seen_state s) p.whole w.named in
      let t : types ≡ (qualified own.0 own.1 w.set.0).0 = grown ∙ (λ i. (qualified (leaves i).types (is_plain i) w.set.0).0) in
      λ i. seen_state (record (leaves i) { types = t i })

  pub said_is :
      (ty : Part) (storage : Option Storage) → ty ≡ (qualified mid.types plain w.set.0).1 → storage ≡ storage_or w.storage →
      record { storage = storage; ty = ty; declares = p.declares } ≡ (said_of (seen_state s) w p).1
  said_is ty storage gives stored =
      let own = named_plain (seen_state s) p.whole w.named in
      let t : ty ≡ (qualified own.0 own.1 w.set.0).1 = gives ∙ (λ i. (qualified (leaves i).types (is_plain i) w.set.0).1) in
      λ i. record { storage = stored i; ty = t i; declares = p.declares }

  pub said_grows : (types : List Entry) → Grows s (record mid { types = types })
  said_grows types = subst (λ (m : Kept). Grows s (record m { types = types })) (sym leaves) (grows_by_types s types)
