-- A production at two levels of nesting: it is whole at both, and its readers agree.
use Rattle.std.proofs.Common.{◌≡◌, Bool, true, false, [], ◌++◌, refl, sym, ap, ◌∙◌, subst}
use Rattle.std.specs.Prelude.{Some, None, ◌||◌}
use Rattle.c_parts.specs.declared.lexeme.Lexeme.{Lexeme}
use Rattle.c_parts.specs.Scopes.{Scope, with_scopes, with_names, with_specifiers, entered, innermost}
use Rattle.c_parts.specs.Terminals.{code}
use Rattle.c_parts.specs.Kinds.{kind, Kinds, has, told, disjoint, subset}
use Rattle.c_parts.specs.Reading.{Reader, either, pure}
use Rattle.c_parts.specs.Production.{Shape, Production, lexeme, token, ◌&◌, ◌or◌, joined, either_shape, two_of, told_apart, made, spanned, span_of, many, nothing, optional, declares, scoped_with, scoped, collected, specifies, specified, with_typedefs, with_all_names, carries}
use Rattle.c_parts.proofs.Laws.{Reads}
use Rattle.c_parts.proofs.Carry.{Carries}
use Rattle.c_parts.proofs.Agree.{Agrees, same-agrees, one-agrees, turn-agrees, either-agrees, either-two-agrees, shaped-agrees, many-agrees, carry-agrees}
use Rattle.c_parts.proofs.Sets.{disjoint-out, out-left, out-right}
use Rattle.c_parts.proofs.Whole.{Whole, lexeme-whole, and-whole, or-whole, made-whole, spanned-whole, declares-whole, scoped-whole, scoped-with-whole, collected-whole, specifies-whole, specified-whole, many-whole, nothing-whole, carries-whole}
use Rattle.c_parts.proofs.Openings.{paren, Opening, Declines, Shares, told-apart-whole}

pub record Good {X : Type 0} (strict : Bool) (a b : Production X) : Type 0 where
  pub low : Whole a
  pub high : Whole b
  pub same : a.shape ≡ b.shape
  pub agree : Agrees strict a.read b.read

pub lexeme-good : {strict : Bool} (ks : Kinds) → Good strict (lexeme ks) (lexeme ks)
lexeme-good ks = record { low = lexeme-whole ks; high = lexeme-whole ks; same = refl; agree = one-agrees (told ks) }

pub and-good : {strict : Bool} {A B : Type 0} {a a' : Production A} {b b' : Production B} → Good strict a a' → Good strict b b' → disjoint b.shape.starts a.shape.goes_on ≡ true → Good strict (a & b) (a' & b')
and-good {strict} {A} {B} {a} {a'} {b} {b'} g h apart = record {
  low = and-whole g.low h.low apart;
  high = and-whole g.high h.high (subst (λ s. disjoint s.starts a'.shape.goes_on ≡ true) h.same (subst (λ s. disjoint b.shape.starts s.goes_on ≡ true) g.same apart));
  same = ap (λ s. joined s b.shape) g.same ∙ ap (λ s. joined a'.shape s) h.same;
  agree = turn-agrees (λ x. h.high.reads) g.agree (λ x. h.agree);
}

either-same : {A : Type 0} {strict : Bool} {r r' s s' : Reader A} (k l : Shape) → k ≡ l → Agrees strict r r' → Agrees strict s s' → Agrees strict (either (has k.starts) r s) (either (has l.starts) r' s')
either-same {A} {strict} {r} {r'} {s} {s'} k l e g h = subst (λ m. Agrees strict (either (has k.starts) r s) (either (has m.starts) r' s')) e (either-agrees (has k.starts) g h)

pub or-good : {strict : Bool} {A : Type 0} {a a' b b' : Production A} → Good strict a a' → Good strict b b' → a.shape.solid ≡ true → disjoint b.shape.starts a.shape.starts ≡ true → Good strict (a or b) (a' or b')
or-good {strict} {A} {a} {a'} {b} {b'} g h solid apart = record {
  low = or-whole g.low h.low solid apart;
  high = or-whole g.high h.high (subst (λ s. s.solid ≡ true) g.same solid) (subst (λ s. disjoint s.starts a'.shape.starts ≡ true) h.same (subst (λ s. disjoint b.shape.starts s.starts ≡ true) g.same apart));
  same = ap (λ s. either_shape s b.shape) g.same ∙ ap (λ s. either_shape a'.shape s) h.same;
  agree = either-same a.shape a'.shape g.same g.agree h.agree;
}

pub made-good : {strict : Bool} {A B : Type 0} {a b : Production A} (f : A → B) → Good strict a b → Good strict (made f a) (made f b)
made-good f g = record { low = made-whole f g.low; high = made-whole f g.high; same = g.same; agree = shaped-agrees (λ n. n) (λ n x k. f x) (λ n x k. k) g.agree }

pub token-good : {strict : Bool} {X : Type 0} (ks : Kinds) (f : Lexeme → X) → Good strict (token ks f) (token ks f)
token-good ks f = made-good f (lexeme-good ks)

pub spanned-good : {strict : Bool} {A : Type 0} {a b : Production A} → Good strict a b → Good strict (spanned a) (spanned b)
spanned-good g = record { low = spanned-whole g.low; high = spanned-whole g.high; same = g.same; agree = shaped-agrees (λ n. n) (λ n x k. (span_of n k, x)) (λ n x k. k) g.agree }

abbrev behind_names : Shape → Shape
behind_names s = record { starts = s.starts; goes_on = with_all_names s.goes_on; solid = s.solid }

pub declares-good : {strict : Bool} {A : Type 0} {a b : Production A} (f : Bool → A → Scope) → Good strict a b → a.shape.solid ≡ true → Good strict (declares f a) (declares f b)
declares-good f g solid = record {
  low = declares-whole f g.low solid;
  high = declares-whole f g.high (subst (λ s. s.solid ≡ true) g.same solid);
  same = ap behind_names g.same;
  agree = shaped-agrees (λ n. n) (λ n x k. x) (λ n x k. with_scopes k (with_names (f k.typedef x) k.scopes)) g.agree;
}

pub scoped-good : {strict : Bool} {A : Type 0} {a b : Production A} → Good strict a b → Good strict (scoped a) (scoped b)
scoped-good g = record {
  low = scoped-whole g.low;
  high = scoped-whole g.high;
  same = ap behind_names g.same;
  agree = shaped-agrees (entered []) (λ n x k. x) (λ n x k. with_scopes k n.scopes) g.agree;
}

pub scoped-with-good : {strict : Bool} {A : Type 0} {a b : Production A} (scope : Scope) → Good strict a b → Good strict (scoped_with scope a) (scoped_with scope b)
scoped-with-good scope g = record {
  low = scoped-with-whole scope g.low;
  high = scoped-with-whole scope g.high;
  same = ap (λ s. record { starts = with_all_names s.starts; goes_on = with_all_names s.goes_on; solid = s.solid }) g.same;
  agree = shaped-agrees (entered scope) (λ n x k. x) (λ n x k. with_scopes k n.scopes) g.agree;
}

pub collected-good : {strict : Bool} {A : Type 0} {a b : Production A} → Good strict a b → Good strict (collected a) (collected b)
collected-good g = record {
  low = collected-whole g.low;
  high = collected-whole g.high;
  same = ap behind_names g.same;
  agree = shaped-agrees (entered []) (λ n x k. (x, innermost k.scopes)) (λ n x k. with_scopes k n.scopes) g.agree;
}

pub specifies-good : {strict : Bool} {A : Type 0} {a b : Production A} (is_type is_typedef : A → Bool) → Good strict a b → a.shape.solid ≡ true
    → Good strict (specifies is_type is_typedef a) (specifies is_type is_typedef b)
specifies-good is_type is_typedef g solid = record {
  low = specifies-whole is_type is_typedef g.low solid;
  high = specifies-whole is_type is_typedef g.high (subst (λ s. s.solid ≡ true) g.same solid);
  same = ap (λ s. record { starts = s.starts; goes_on = with_typedefs s.goes_on; solid = s.solid }) g.same;
  agree = shaped-agrees (λ n. n) (λ n x k. x) (λ n x k. with_specifiers k (k.typed || is_type x) (k.typedef || is_typedef x)) g.agree;
}

pub specified-good : {strict : Bool} {A : Type 0} {a b : Production A} → Good strict a b → Good strict (specified a) (specified b)
specified-good g = record {
  low = specified-whole g.low;
  high = specified-whole g.high;
  same = ap (λ s. record { starts = with_typedefs s.starts; goes_on = with_typedefs s.goes_on; solid = s.solid }) g.same;
  agree = shaped-agrees (λ n. with_specifiers n false false) (λ n x k. x) (λ n x k. with_specifiers k n.typed n.typedef) g.agree;
}

many-same : {A : Type 0} {strict : Bool} (r r' : Reader A) (k l : Shape) → k ≡ l → Agrees strict (Rattle.c_parts.specs.Reading.repeat (has k.starts) r) (Rattle.c_parts.specs.Reading.repeat (has k.starts) r')
    → Agrees strict (Rattle.c_parts.specs.Reading.repeat (has k.starts) r) (Rattle.c_parts.specs.Reading.repeat (has l.starts) r')
many-same {A} {strict} r r' k l e g = subst (λ m. Agrees strict (Rattle.c_parts.specs.Reading.repeat (has k.starts) r) (Rattle.c_parts.specs.Reading.repeat (has m.starts) r')) e g

pub many-good : {strict : Bool} {A : Type 0} {a b : Production A} → Good strict a b → a.shape.solid ≡ true → disjoint a.shape.starts a.shape.goes_on ≡ true → Good strict (many a) (many b)
many-good {strict} {A} {a} {b} g solid apart =
    let solid-b : b.shape.solid ≡ true = subst (λ s. s.solid ≡ true) g.same solid in
    let apart-b : disjoint a.shape.starts b.shape.goes_on ≡ true = subst (λ s. disjoint a.shape.starts s.goes_on ≡ true) g.same apart in
    let reads : Reads b.part (has a.shape.starts) (has b.shape.goes_on) b.read = subst (λ s. Reads b.part (has s.starts) (has b.shape.goes_on) b.read) (sym g.same) g.high.reads in
    record {
      low = many-whole g.low solid apart;
      high = many-whole g.high solid-b (subst (λ s. disjoint s.starts b.shape.goes_on ≡ true) g.same apart-b);
      same = ap (λ s. record { starts = s.starts; goes_on = s.goes_on ++ s.starts; solid = false }) g.same;
      agree = many-same a.read b.read a.shape b.shape g.same (many-agrees {goes_on = has (b.shape.goes_on ++ a.shape.starts)} reads (record {
        solid = g.high.full solid-b;
        apart = λ k t h. disjoint-out (code (kind k t)) a.shape.starts b.shape.goes_on apart-b h;
        ends = λ m t h. out-left (code (kind m t)) b.shape.goes_on a.shape.starts h;
        ends_short = λ m t h. out-right (code (kind m t)) b.shape.goes_on a.shape.starts h;
      }) g.agree);
    }

pub nothing-good : {strict : Bool} {X : Type 0} (x : X) → Good strict (nothing x) (nothing x)
nothing-good x = record { low = nothing-whole x; high = nothing-whole x; same = refl; agree = same-agrees (pure x) (λ n ts. refl) }

pub optional-good : {strict : Bool} {A : Type 0} {a b : Production A} → Good strict a b → a.shape.solid ≡ true → Good strict (optional a) (optional b)
optional-good g solid = or-good (made-good Some g) (nothing-good None) solid refl

carry-same : {A B : Type 0} {strict : Bool} (is_some : A → Bool) (f : A × B → A) (r r' : Reader A) (s s' : Reader B) (k l : Shape) → k ≡ l
    → Agrees strict (Rattle.c_parts.specs.Reading.carried is_some (has k.starts) r s f) (Rattle.c_parts.specs.Reading.carried is_some (has k.starts) r' s' f)
    → Agrees strict (Rattle.c_parts.specs.Reading.carried is_some (has k.starts) r s f) (Rattle.c_parts.specs.Reading.carried is_some (has l.starts) r' s' f)
carry-same {A} {B} {strict} is_some f r r' s s' k l e g =
    subst (λ m. Agrees strict (Rattle.c_parts.specs.Reading.carried is_some (has k.starts) r s f) (Rattle.c_parts.specs.Reading.carried is_some (has m.starts) r' s' f)) e g

abbrev pub CarriesBy : {A B : Type 0} → (A → Bool) → (A × B → A) → Production A → Production A → Production B → Type 0
CarriesBy is_some f a some more = Carries a.part some.part more.part is_some (has a.shape.goes_on) (has more.shape.starts) (has more.shape.goes_on) (has (carries is_some f a some more).shape.goes_on)

pub carries-good : {strict : Bool} {A B : Type 0} {a a' : Production A} (some some' : Production A) {more more' : Production B} (is_some : A → Bool) (f : A × B → A)
    → Good strict a a' → Good strict more more' → a.shape.solid ≡ true → more.shape.solid ≡ true
    → CarriesBy is_some f a some more → CarriesBy is_some f a' some' more' → Good strict (carries is_some f a some more) (carries is_some f a' some' more')
carries-good {strict} {A} {B} {a} {a'} some some' {more} {more'} is_some f g h solid-a solid-m j j' = record {
  low = carries-whole some is_some f g.low h.low solid-m solid-a j;
  high = carries-whole some' is_some f g.high h.high (subst (λ s. s.solid ≡ true) h.same solid-m) (subst (λ s. s.solid ≡ true) g.same solid-a) j';
  same = ap (λ s. record { starts = s.starts; goes_on = s.goes_on ++ (more.shape.starts ++ more.shape.goes_on); solid = true }) g.same
      ∙ ap (λ s. record { starts = a'.shape.starts; goes_on = a'.shape.goes_on ++ (s.starts ++ s.goes_on); solid = true }) h.same;
  agree = carry-same is_some f a.read a'.read more.read more'.read more.shape more'.shape h.same (carry-agrees is_some (has more.shape.starts) f h.high.reads g.agree h.agree);
}

pub told-apart-good : {strict : Bool} {A : Type 0} {a a' b b' : Production A} (alive alive' : Bool) (second : Kinds) → Good strict a a' → Good strict b b' → a.shape.solid ≡ true → b.shape.solid ≡ true
    → Opening alive a.part second → Declines alive b.part second → Shares alive b.part
    → Opening alive' a'.part second → Declines alive' b'.part second → Shares alive' b'.part
    → subset a.shape.starts b.shape.starts ≡ true → Good strict (told_apart paren second a b) (told_apart paren second a' b')
told-apart-good {strict} {A} {a} {a'} {b} {b'} alive alive' second g h solid-a solid-b o d s o' d' s' within = record {
  low = told-apart-whole alive second g.low h.low solid-a solid-b o d s within;
  high = told-apart-whole alive' second g.high h.high (subst (λ s. s.solid ≡ true) g.same solid-a) (subst (λ s. s.solid ≡ true) h.same solid-b) o' d' s'
      (subst (λ s. subset s.starts b'.shape.starts ≡ true) g.same (subst (λ s. subset a.shape.starts s.starts ≡ true) h.same within));
  same = ap (λ s. record { starts = b.shape.starts; goes_on = s.goes_on ++ b.shape.goes_on; solid = true }) g.same
      ∙ ap (λ s. record { starts = s.starts; goes_on = a'.shape.goes_on ++ s.goes_on; solid = true }) h.same;
  agree = either-two-agrees (two_of paren second) g.agree h.agree;
}
