-- The first line of a list with one more, and a map of definitions with one more.
use Rattle.std.proofs.Common.{◌≡◌, ◌≢◌, ℕ, ◌+◌, ◌<◌, Bool, true, false, cond, eqb, List, [], ◌∷◌, length, get_or, take, map, Option, Some, None, refl, sym, ap, ◌∙◌, arith}
use Rattle.std.specs.Prelude.{reverse}
use Rattle.std.specs.BTreeMap.{BTreeMap, get, is_at}
use Rattle.std.specs.List.{filter_map, cons_option}
use Rattle.std.specs.Option.{option_or}
use Rattle.std.specs.Ordering.{nat_cmp}
use Rattle.std.proofs.lemmas.Option.{some_pair_parts}
use Rattle.c_scope.specs.declared.blocks.Declaration.{Declaration}
use Rattle.c_scope.specs.Scopes.{naming_of}
use Rattle.c_scope.specs.Blocks.{Naming}
use Rattle.c_tree.specs.declared.declared.Declared.{Declared}
use Rattle.c_tree.specs.declared.declared.Declared.TheVariants as declared
use Rattle.c_tree.specs.declared.declared.Definition.{Definition}
use Rattle.c_tree.specs.declared.declared.ObjectNumber.{ObjectNumber}
use Rattle.c_tree.specs.declared.declared.ObjectNumber.TheVariants.{Static, Local}
use Rattle.c_expr_rules.specs.Outcomes.{Broken}
use Rattle.c_objects.specs.Closing.{least, defined_as, defined_in, IsWith, AreDefinitions}
use Rattle.c_file_rules.specs.Files.{first_line, is_number, defines, definition_of, at, line_if, first_broken}
use Rattle.c_objects.proofs.Newest.{newest_first}
use Rattle.c_file_rules.proofs.Indexed.{at_equal}

line_first : (o : Option ℕ) (lines : List ℕ) → first_line (cons_option o lines) ≡ least o (first_line lines)
line_first None lines = refl
line_first (Some l) lines = refl

-- a list one longer
pub line_more : {A : Type 0} (f : A → Option ℕ) (xs : List A) (i : ℕ) (d : A) → i < length xs
    → first_line (filter_map f (reverse (take (i + 1) xs))) ≡ least (f (get_or xs i d)) (first_line (filter_map f (reverse (take i xs))))
line_more f xs i d inside =
    ap (λ ys. first_line (filter_map f ys)) (newest_first xs i d inside)
    ∙ line_first (f (get_or xs i d)) (filter_map f (reverse (take i xs)))

-- ---- how far objects are defined

not_static : (n : ℕ) (number : ObjectNumber) (d : Definition) → defined_as d number ≡ None → cond (is_number n number) (Some d) None ≡ None
not_static n (Static m) d h = cc
not_static n (Local m) d h = refl

pub defines_none : (n : ℕ) (what : Declared) → defined_in what ≡ None → defines n what ≡ None
defines_none n (declared.Object o) h = not_static n o.number o.definition h
defines_none n (declared.Function f) h = refl
defines_none n (declared.Typedef p) h = refl
defines_none n (declared.Constant v) h = refl
defines_none n (declared.Tag t) h = refl

static_is : (n m : ℕ) (number : ObjectNumber) (d e : Definition) → defined_as d number ≡ Some (m, e) → cond (is_number n number) (Some d) None ≡ cond (eqb m n) (Some e) None
static_is n m (Static k) d e h =
    let parts = some_pair_parts k m d e h in
    ap (λ i. cond (eqb i n) (Some d) None) parts.0 ∙ ap (λ x. cond (eqb m n) (Some x) None) parts.1
static_is n m (Local k) d e h = cc

pub defines_some : (n m : ℕ) (what : Declared) (e : Definition) → defined_in what ≡ Some (m, e) → defines n what ≡ cond (eqb m n) (Some e) None
defines_some n m (declared.Object o) e h = static_is n m o.number o.definition e h
defines_some n m (declared.Function f) e h = cc
defines_some n m (declared.Typedef p) e h = cc
defines_some n m (declared.Constant v) e h = cc
defines_some n m (declared.Tag t) e h = cc

chosen : {A : Type 0} (b : Bool) (x : A) (o : Option A) → cond b (Some x) o ≡ option_or (cond b (Some x) None) o
chosen true x o = refl
chosen false x o = refl

pub with_none : (what : Declared) (m : BTreeMap ℕ Definition) → defined_in what ≡ None → IsWith what m m
with_none what m h n = sym (ap (λ o. option_or o (get nat_cmp m n)) (defines_none n what h))

pub with_some : (what : Declared) (old new : BTreeMap ℕ Definition) (m : ℕ) (e : Definition) → defined_in what ≡ Some (m, e)
    → ((n : ℕ) → get nat_cmp new n ≡ cond (is_at (nat_cmp m) n) (Some e) (get nat_cmp old n)) → IsWith what old new
with_some what old new m e h step n =
    step n ∙ ap (λ b. cond b (Some e) (get nat_cmp old n)) (at_equal m n)
    ∙ chosen (eqb m n) e (get nat_cmp old n) ∙ sym (ap (λ o. option_or o (get nat_cmp old n)) (defines_some n m what e h))

pub definitions_more : (xs : List Declaration) (i : ℕ) (d : Declaration) (old new : BTreeMap ℕ Definition) → i < length xs
    → IsWith (get_or xs i d).what old new → AreDefinitions (map naming_of (reverse (take i xs))) old
    → AreDefinitions (map naming_of (reverse (take (i + 1) xs))) new
definitions_more xs i d old new inside added h n =
    added n ∙ ap (option_or (defines n (get_or xs i d).what)) (h n)
    ∙ sym (ap (λ ys. definition_of n (map naming_of ys)) (newest_first xs i d inside))

-- ---- the first of the rules that is broken

pub at_some : (n : ℕ) (x : Option ℕ) (l : ℕ) (rest : List (Option Broken)) → x ≡ Some l
    → first_broken (at n x ∷ rest) ≡ Some (record { rule = n; line = l })
at_some n x l rest e = ap (λ y. first_broken (at n y ∷ rest)) e

pub at_none : (n : ℕ) (x : Option ℕ) (rest : List (Option Broken)) → x ≡ None → first_broken (at n x ∷ rest) ≡ first_broken rest
at_none n x rest e = ap (λ y. first_broken (at n y ∷ rest)) e

pub at_true : (n : ℕ) (b : Bool) (l : ℕ) (rest : List (Option Broken)) → b ≡ true
    → first_broken (at n (line_if b l) ∷ rest) ≡ Some (record { rule = n; line = l })
at_true n b l rest e = ap (λ c. first_broken (at n (line_if c l) ∷ rest)) e

pub at_false : (n : ℕ) (b : Bool) (l : ℕ) (rest : List (Option Broken)) → b ≡ false
    → first_broken (at n (line_if b l) ∷ rest) ≡ first_broken rest
at_false n b l rest e = ap (λ c. first_broken (at n (line_if c l) ∷ rest)) e

pub last_rule : (n : ℕ) (x : Option ℕ) → x ≡ None → first_broken (at n x ∷ []) ≡ None
last_rule n x e = ap (λ y. first_broken (at n y ∷ [])) e
