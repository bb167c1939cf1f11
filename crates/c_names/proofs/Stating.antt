-- What a declaration makes a name stand for is in the name space of what is declared.
use Rattle.std.proofs.Common.{◌≡◌, ℕ, Bool, true, false, cond, List, Some, None, refl, sym, ap, ◌∙◌, subst}
use Rattle.std.specs.Prelude.{◌&&◌, ◌||◌, Option, is_none}
use Rattle.c_scope.specs.Blocks.{visible, declared_in, innermost}
use Rattle.std.specs.Option.{IsSomeAnd}
use Rattle.c_scope.specs.declared.space.Space.{Space}
use Rattle.c_scope.specs.Again.{has_linkage, linkage_of, with_linkage, settled_linkage, is_one_thing, merge, same_part, behind, beside, may_be_linked, declared_as}
use Rattle.c_scope.specs.Scopes.{Names, blocks_in, space_of, with_name, declaration_in}
use Rattle.c_tree.specs.declared.declared.Declared.{Declared}
use Rattle.c_tree.specs.declared.declared.Declared.TheVariants.{Object, Function, Typedef, Constant, Tag}
use Rattle.c_tree.specs.declared.declared.Linkage.{Linkage}
use Rattle.c_expr_rules.specs.Outcomes.{State}
use Rattle.c_expr_rules.specs.Expressions.{Around}
use Rattle.c_file_rules.specs.Naming.{with_names, with_declared, declaration, declares, is_again}
use Rattle.c_names.specs.Named.{named_as, is_stated_again, stated_as, stated}

-- what it stands for, if anything, is in this name space
abbrev InSpace : Space → Option Declared → Type 0
InSpace space None = Unit {0}
InSpace space (Some d) = space_of d ≡ space

either_in : (space : Space) (b : Bool) (x y : Option Declared) → InSpace space x → InSpace space y → InSpace space (cond b x y)
either_in space true x y p q = p
either_in space false x y p q = q

behind_in : (entity : Option Declared) (what : Declared) → InSpace (space_of what) (behind entity what)
behind_in None what = refl
behind_in (Some (Object a)) (Object b) = either_in (space_of (Object b)) (is_one_thing (Object a) (Object b)) (Some (merge (Object a) (Object b))) None refl tt
behind_in (Some (Function a)) (Function b) = either_in (space_of (Function b)) (is_one_thing (Function a) (Function b)) (Some (merge (Function a) (Function b))) None refl tt
behind_in (Some before) what = tt

beside_in : (here : Option Declared) (what : Declared) → InSpace (space_of what) (beside here what)
beside_in None what = refl
beside_in (Some (Typedef a)) (Typedef b) = either_in (space_of (Typedef b)) (same_part a b) (Some (Typedef a)) None refl tt
beside_in (Some (Tag a)) (Tag b) =
    either_in (space_of (Tag b)) (a.is_listed && b.is_listed) None (Some (Tag (record a { is_listed = a.is_listed || b.is_listed }))) tt refl
beside_in (Some before) what = tt

space_with : (own : Linkage) (what : Declared) → space_of (with_linkage own what) ≡ space_of what
space_with own (Object o) = refl
space_with own (Function f) = refl
space_with own (Typedef ty) = refl
space_with own (Constant v) = refl
space_with own (Tag t) = refl

declared_in_space : (here entity : Option Declared) (what : Declared) → InSpace (space_of what) (declared_as here entity what)
declared_in_space here entity what =
    let settled = with_linkage (settled_linkage entity (linkage_of what)) what in
    let linked = cond (may_be_linked here) (behind entity settled) None in
    either_in (space_of what) (has_linkage what) linked (beside here what)
    (either_in (space_of what) (may_be_linked here) (behind entity settled) None
    (subst (λ (space : Space). InSpace space (behind entity settled)) (space_with (settled_linkage entity (linkage_of what)) what) (behind_in entity settled)) tt)
    (beside_in here what)

module _ (letters : List ℕ) (what : Declared) (s : State) (new : Names) where
  -- the declaration was made
  abbrev IsMade : Option Declared → Type 0
  IsMade o = IsSomeAnd o (λ d. new ≡ with_name (space_of what) (record { name = letters; what = d }) s.above.names)

  made_so : (o : Option Declared) → InSpace (space_of what) o → IsMade o → with_names new s ≡ stated_as letters o s
  made_so None i made = absurd made
  made_so (Some d) i made =
      ap (λ (names : Names). with_names names s) (made ∙ ap (λ (space : Space). with_name space (record { name = letters; what = d }) s.above.names) (sym i))

  pub fine_state : IsMade (named_as letters what s) → with_names new s ≡ stated letters what s
  fine_state made =
      made_so (named_as letters what s)
      (declared_in_space (declared_in letters (innermost (blocks_in (space_of what) s.above.names))) (visible letters s.above.names.linked) what) made

  is_there : (o : Option Declared) → IsMade o → false ≡ is_none o
  is_there None made = absurd made
  is_there (Some d) made = refl

  pub fine_again : IsMade (named_as letters what s) → false ≡ is_stated_again letters what s
  fine_again made = is_there (named_as letters what s) made

-- nothing changes where it is declared again
pub again_state : (letters : List ℕ) (what : Declared) (s : State) → named_as letters what s ≡ None → s ≡ stated letters what s
again_state letters what s none = ap (λ (o : Option Declared). stated_as letters o s) (sym none)

-- ---- by a name's letters as by its number

same_stated : (around : Around) (s : State) (name : ℕ) (o : Option Declared) → stated_as (around.spelling name) o s ≡ with_declared around s name o
same_stated around s name None = refl
same_stated around s name (Some d) = refl

pub stated_named : (around : Around) (s : State) (name : ℕ) (what : Declared) (letters : List ℕ) → letters ≡ around.spelling name → stated letters what s ≡ declares around s name what
stated_named around s name what letters e = ap (λ (ls : List ℕ). stated ls what s) e ∙ same_stated around s name (declaration around s name what)

pub again_named : (around : Around) (s : State) (name : ℕ) (what : Declared) (letters : List ℕ) → letters ≡ around.spelling name → is_stated_again letters what s ≡ is_again around s name what
again_named around s name what letters e = ap (λ (ls : List ℕ). is_stated_again ls what s) e
