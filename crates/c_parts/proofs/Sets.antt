-- Sets of terminals: what their tests compute.
use Rattle.std.proofs.Common.{◌≡◌, ℕ, Bool, true, false, cond, List, [], ◌∷◌, ◌++◌, refl, sym, ap, ◌∙◌, subst}
use Rattle.std.proofs.lemmas.Bool.{eqb-true}
use Rattle.std.specs.Prelude.{◌||◌, ◌&&◌, not, eqb}
use Rattle.c_parts.specs.declared.terminal.Terminal.{Terminal}
use Rattle.c_parts.specs.declared.terminal.Terminal.TheVariants as t
use Rattle.c_parts.specs.declared.lexeme.Lexeme.{Lexeme}
use Rattle.c_parts.specs.Scopes.{State, Scope, is_typedef, with_scopes, with_specifiers, entered}
use Rattle.c_parts.specs.Terminals.{code}
use Rattle.c_parts.specs.Kinds.{kind_of, kind, Kinds, has_code, member, has, disjoint, subset}
use Rattle.c_parts.specs.Production.{with_typedefs, with_all_names}

pub both-not : (x y : Bool) → not x && y ≡ true → (x ≡ false) × (y ≡ true)
both-not true y e = absurd (let f : false ≡ true = e in cc)
both-not false y e = (refl, e)

pub both : (x y : Bool) → x && y ≡ true → (x ≡ true) × (y ≡ true)
both true y e = (refl, e)
both false y e = absurd (let f : false ≡ true = e in cc)

pub neither : (x y : Bool) → x || y ≡ false → (x ≡ false) × (y ≡ false)
neither true y e = absurd (let f : true ≡ false = e in cc)
neither false y e = (refl, e)

pub not-in : (x : Bool) (P : x ≡ true → ⊥) → x ≡ false
not-in true P = absurd (P refl)
not-in false P = refl

pub both-ways : (x : Bool) → x ≡ true → x ≡ false → ⊥
both-ways x h k = let f : true ≡ false = sym h ∙ k in cc

disjoint-step : (k a : ℕ) (rest bs : Kinds) (b : Bool) → eqb k a ≡ b → has_code a bs ≡ false → (has_code k rest ≡ true → has_code k bs ≡ false)
    → b || has_code k rest ≡ true → has_code k bs ≡ false
disjoint-step k a rest bs true same out ih h = subst (λ l. has_code l bs ≡ false) (sym (eqb-true k a same)) out
disjoint-step k a rest bs false same out ih h = ih h

pub disjoint-out : (k : ℕ) (a b : Kinds) → disjoint a b ≡ true → has_code k a ≡ true → has_code k b ≡ false
disjoint-out k [] bs e h = absurd (let f : false ≡ true = h in cc)
disjoint-out k (a ∷ rest) bs e h =
    let c = both-not (member a bs) (disjoint rest bs) e in
    disjoint-step k (code a) rest bs (eqb k (code a)) refl c.0 (λ w. disjoint-out k rest bs c.1 w) h

subset-step : (k a : ℕ) (rest bs : Kinds) (b : Bool) → eqb k a ≡ b → has_code a bs ≡ true → (has_code k rest ≡ true → has_code k bs ≡ true)
    → b || has_code k rest ≡ true → has_code k bs ≡ true
subset-step k a rest bs true same out ih h = subst (λ l. has_code l bs ≡ true) (sym (eqb-true k a same)) out
subset-step k a rest bs false same out ih h = ih h

pub subset-in : (k : ℕ) (a b : Kinds) → subset a b ≡ true → has_code k a ≡ true → has_code k b ≡ true
subset-in k [] bs e h = absurd (let f : false ≡ true = h in cc)
subset-in k (a ∷ rest) bs e h =
    let c = both (member a bs) (subset rest bs) e in
    subset-step k (code a) rest bs (eqb k (code a)) refl c.0 (λ w. subset-in k rest bs c.1 w) h

pub subset-out : (k : ℕ) (a b : Kinds) → subset a b ≡ true → has_code k b ≡ false → has_code k a ≡ false
subset-out k as' bs e h = not-in (has_code k as') (λ w. both-ways (has_code k bs) (subset-in k as' bs e w) h)

-- ---- unions

pub in-left : (k : ℕ) (a b : Kinds) → has_code k a ≡ true → has_code k (a ++ b) ≡ true
in-left k [] b h = absurd (let f : false ≡ true = h in cc)
in-left k (x ∷ a) b h = in-step (eqb k (code x)) (has_code k a) (has_code k (a ++ b)) (λ w. in-left k a b w) h
  where
    in-step : (x y z : Bool) → (y ≡ true → z ≡ true) → x || y ≡ true → x || z ≡ true
    in-step true y z f e = refl
    in-step false y z f e = f e

pub in-right : (k : ℕ) (a b : Kinds) → has_code k b ≡ true → has_code k (a ++ b) ≡ true
in-right k [] b h = h
in-right k (x ∷ a) b h = in-late (eqb k (code x)) (has_code k (a ++ b)) (in-right k a b h)
  where
    in-late : (x y : Bool) → y ≡ true → x || y ≡ true
    in-late true y e = refl
    in-late false y e = e

pub out-left : (k : ℕ) (a b : Kinds) → has_code k (a ++ b) ≡ false → has_code k a ≡ false
out-left k a b h = not-in (has_code k a) (λ w. both-ways (has_code k (a ++ b)) (in-left k a b w) h)

pub out-right : (k : ℕ) (a b : Kinds) → has_code k (a ++ b) ≡ false → has_code k b ≡ false
out-right k a b h = not-in (has_code k b) (λ w. both-ways (has_code k (a ++ b)) (in-right k a b w) h)

-- ---- where the scopes are others

abbrev pub alike : Bool → Bool → Bool
alike true b = b
alike false b = not b

alike-out : (a b : Bool) → alike a b ≡ true → a ≡ b
alike-out true true e = refl
alike-out true false e = absurd cc
alike-out false true e = absurd cc
alike-out false false e = refl

-- which of the two terminals a typedef is doesn't matter to the set
abbrev pub blind : Kinds → Bool
blind ks = alike (member t.TypedefName ks) (member t.TypedefBehindType ks)

-- nor does it matter whether a name is a typedef
abbrev pub nameless : Kinds → Bool
nameless ks = alike (member t.Name ks) (member t.TypedefName ks) && blind ks

name-kind : (ks : Kinds) (a b c d : Bool) → member t.Name ks ≡ member t.TypedefName ks → member t.TypedefName ks ≡ member t.TypedefBehindType ks
    → member (cond a (cond c t.TypedefBehindType t.TypedefName) t.Name) ks ≡ member (cond b (cond d t.TypedefBehindType t.TypedefName) t.Name) ks
name-kind ks true true true true e f = refl
name-kind ks true true true false e f = sym f
name-kind ks true true false true e f = f
name-kind ks true true false false e f = refl
name-kind ks true false true d e f = sym f ∙ sym e
name-kind ks true false false d e f = sym e
name-kind ks false true c true e f = e ∙ f
name-kind ks false true c false e f = e
name-kind ks false false c d e f = refl

kind-nameless : (ks : Kinds) (a b c d : Bool) (behind x : Terminal) → nameless ks ≡ true → member (kind_of a c behind x) ks ≡ member (kind_of b d behind x) ks
kind-nameless ks a b c d behind t.Name e =
    let f = both (alike (member t.Name ks) (member t.TypedefName ks)) (blind ks) e in
    name-kind ks a b c d (alike-out (member t.Name ks) (member t.TypedefName ks) f.0) (alike-out (member t.TypedefName ks) (member t.TypedefBehindType ks) f.1)
kind-nameless ks a b c d behind t.LeftParen e = refl
kind-nameless ks a b c d behind t.Comma e = refl
kind-nameless ks a b c d behind _ e = refl

pub has-nameless : (ks : Kinds) (n : State) (scopes : List Scope) (token : Lexeme) → nameless ks ≡ true → has ks n token ≡ has ks (with_scopes n scopes) token
unfolding kind
has-nameless ks n scopes token e =
    kind-nameless ks (is_typedef token.name n.scopes) (is_typedef token.name scopes) n.typed n.typed n.behind token.terminal e

-- an empty scope hides nothing
pub has-entered : (ks : Kinds) (n : State) (token : Lexeme) → has ks (entered [] n) token ≡ has ks n token
unfolding kind
has-entered ks n token = refl

-- ---- where the specifiers are others

type-kind : (ks : Kinds) (a c d : Bool) → member t.TypedefName ks ≡ member t.TypedefBehindType ks
    → member (cond a (cond c t.TypedefBehindType t.TypedefName) t.Name) ks ≡ member (cond a (cond d t.TypedefBehindType t.TypedefName) t.Name) ks
type-kind ks true true true f = refl
type-kind ks true true false f = sym f
type-kind ks true false true f = f
type-kind ks true false false f = refl
type-kind ks false c d f = refl

kind-blind : (ks : Kinds) (a c d : Bool) (behind x : Terminal) → blind ks ≡ true → member (kind_of a c behind x) ks ≡ member (kind_of a d behind x) ks
kind-blind ks a c d behind t.Name e = type-kind ks a c d (alike-out (member t.TypedefName ks) (member t.TypedefBehindType ks) e)
kind-blind ks a c d behind t.LeftParen e = refl
kind-blind ks a c d behind t.Comma e = refl
kind-blind ks a c d behind _ e = refl

pub has-blind : (ks : Kinds) (n : State) (typed typedef : Bool) (token : Lexeme) → blind ks ≡ true → has ks n token ≡ has ks (with_specifiers n typed typedef) token
unfolding kind
has-blind ks n typed typedef token e = kind-blind ks (is_typedef token.name n.scopes) n.typed typed n.behind token.terminal e

with-both : (ks : Kinds) (x y : Bool) → member t.TypedefName ks ≡ x → member t.TypedefBehindType ks ≡ y
    → blind (cond (x || y) (t.TypedefName ∷ t.TypedefBehindType ∷ ks) ks) ≡ true
with-both ks true y e f = refl
with-both ks false true e f = refl
with-both ks false false e f = ap (λ a. alike a (member t.TypedefBehindType ks)) e ∙ ap not f

pub typedefs-blind : (ks : Kinds) → blind (with_typedefs ks) ≡ true
typedefs-blind ks = with-both ks (member t.TypedefName ks) (member t.TypedefBehindType ks) refl refl

with-in : (ks : Kinds) (k : ℕ) (b : Bool) → has_code k ks ≡ true → has_code k (cond b (t.TypedefName ∷ t.TypedefBehindType ∷ ks) ks) ≡ true
with-in ks k true h = late (eqb k (code t.TypedefName)) (eqb k (code t.TypedefBehindType)) (has_code k ks) h
  where
    late : (x y z : Bool) → z ≡ true → x || (y || z) ≡ true
    late true y z e = refl
    late false true z e = refl
    late false false z e = e
with-in ks k false h = h

pub typedefs-in : (ks : Kinds) (k : ℕ) → has_code k ks ≡ true → has_code k (with_typedefs ks) ≡ true
typedefs-in ks k h = with-in ks k (member t.TypedefName ks || member t.TypedefBehindType ks) h

-- a token that a set has under some specifiers, the larger one has under others
pub has-typedefs : (ks : Kinds) (n : State) (typed typedef : Bool) (token : Lexeme) → has ks (with_specifiers n typed typedef) token ≡ true → has (with_typedefs ks) n token ≡ true
has-typedefs ks n typed typedef token h =
    has-blind (with_typedefs ks) n typed typedef token (typedefs-blind ks) ∙ typedefs-in ks (code (kind (with_specifiers n typed typedef) token)) h

-- a token that a set lacks under some specifiers, or in some scopes, the set from which a larger one is made lacks under others
pub lacks-typedefs : (ks : Kinds) (n : State) (typed typedef : Bool) (token : Lexeme) → has (with_typedefs ks) (with_specifiers n typed typedef) token ≡ false → has ks n token ≡ false
lacks-typedefs ks n typed typedef token h =
    let all : has (with_typedefs ks) n token ≡ false = has-blind (with_typedefs ks) n typed typedef token (typedefs-blind ks) ∙ h in
    not-in (has ks n token) (λ w. both-ways (has (with_typedefs ks) n token) (typedefs-in ks (code (kind n token)) w) all)

with-three : (ks : Kinds) (x y z : Bool) → member t.Name ks ≡ x → member t.TypedefName ks ≡ y → member t.TypedefBehindType ks ≡ z
    → nameless (cond (x || (y || z)) (t.Name ∷ t.TypedefName ∷ t.TypedefBehindType ∷ ks) ks) ≡ true
with-three ks true y z e f g = refl
with-three ks false true z e f g = refl
with-three ks false false true e f g = refl
with-three ks false false false e f g =
    ap (λ a. alike a (member t.TypedefName ks) && blind ks) e ∙ ap (λ a. not a && alike a (member t.TypedefBehindType ks)) f ∙ ap not g

pub names-nameless : (ks : Kinds) → nameless (with_all_names ks) ≡ true
names-nameless ks = with-three ks (member t.Name ks) (member t.TypedefName ks) (member t.TypedefBehindType ks) refl refl refl

three-in : (ks : Kinds) (k : ℕ) (b : Bool) → has_code k ks ≡ true → has_code k (cond b (t.Name ∷ t.TypedefName ∷ t.TypedefBehindType ∷ ks) ks) ≡ true
three-in ks k true h = late (eqb k (code t.Name)) (eqb k (code t.TypedefName)) (eqb k (code t.TypedefBehindType)) (has_code k ks) h
  where
    late : (w x y z : Bool) → z ≡ true → w || (x || (y || z)) ≡ true
    late true x y z e = refl
    late false true y z e = refl
    late false false true z e = refl
    late false false false z e = e
three-in ks k false h = h

pub names-in : (ks : Kinds) (k : ℕ) → has_code k ks ≡ true → has_code k (with_all_names ks) ≡ true
names-in ks k h = three-in ks k (member t.Name ks || (member t.TypedefName ks || member t.TypedefBehindType ks)) h

pub has-names : (ks : Kinds) (n : State) (scopes : List Scope) (token : Lexeme) → has ks (with_scopes n scopes) token ≡ true → has (with_all_names ks) n token ≡ true
has-names ks n scopes token h =
    has-nameless (with_all_names ks) n scopes token (names-nameless ks) ∙ names-in ks (code (kind (with_scopes n scopes) token)) h

pub lacks-names : (ks : Kinds) (n : State) (scopes : List Scope) (token : Lexeme) → has (with_all_names ks) (with_scopes n scopes) token ≡ false → has ks n token ≡ false
lacks-names ks n scopes token h =
    let all : has (with_all_names ks) n token ≡ false = has-nameless (with_all_names ks) n scopes token (names-nameless ks) ∙ h in
    not-in (has ks n token) (λ w. both-ways (has (with_all_names ks) n token) (names-in ks (code (kind n token)) w) all)
