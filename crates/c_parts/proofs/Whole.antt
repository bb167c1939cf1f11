-- The laws again, for productions: their conditions compute from the shapes.
use Rattle.std.proofs.Common.{◌≡◌, ℕ, Bool, true, false, cond, List, [], ◌∷◌, ◌++◌, inl, inr, refl, sym, ap, ◌∙◌, subst}
use Rattle.std.specs.Prelude.{Some, None, ◌||◌, ◌&&◌}
use Rattle.c_parts.specs.declared.lexeme.Lexeme.{Lexeme}
use Rattle.c_parts.specs.Scopes.{State, Scope, with_names, with_specifiers, entered, outer_scopes}
use Rattle.c_parts.specs.Terminals.{code}
use Rattle.c_parts.specs.Kinds.{kind, Kinds, has_code, has, disjoint}
use Rattle.c_parts.specs.Part.{Part, ◌&>◌, ◌⊔◌}
use Rattle.c_parts.specs.Reading.{Reader, Test, take_one, pure, ahead, ahead_two}
use Rattle.c_parts.specs.Production.{Shape, Production, lexeme, token, ◌&◌, ◌or◌, joined, made, spanned, many, nothing, optional, declares, scoped_with, scoped, collected, specifies, specified, carries}
use Rattle.c_parts.proofs.Laws.{Reads, Solid, Joins, Parts, turn, choice, shaping, single, solid-one, left-nil, right-nil, nothing-reads}
use Rattle.c_parts.proofs.Many.{repeating}
use Rattle.c_parts.proofs.Carry.{Carries, carrying}
use Rattle.c_parts.proofs.Sets.{disjoint-out, in-left, in-right, out-left, out-right, has-entered, has-typedefs, lacks-typedefs, has-names, lacks-names, both}

abbrev pub ReadsAs : {X : Type 0} → Part X → Shape → Reader X → Type 0
ReadsAs p s r = Reads p (has s.starts) (has s.goes_on) r

-- It is read by its reader, and never empty where its shape says so.
pub record Whole {X : Type 0} (a : Production X) : Type 0 where
  pub reads : ReadsAs a.part a.shape a.read
  pub full : a.shape.solid ≡ true → Solid a.part

-- ---- tokens

told-yes : {X : Type 0} (b : Bool) (v x : X) → cond b (Some v) None ≡ Some x → (b ≡ true) × (x ≡ v)
told-yes true v x e = (refl, cc)
told-yes false v x e = absurd cc

pub lexeme-whole : (ks : Kinds) → Whole (lexeme ks)
lexeme-whole ks = record {
  reads = single (record {
    yes = λ n t x e. told-yes (has ks n t) t x e;
    all = λ n t x h. ap (λ b. cond b (Some t) None) h.0 ∙ ap Some (sym h.1);
    opens = λ n t x h. h.0;
  });
  full = λ e. solid-one;
}

-- ---- in turn

solid-first : {A B : Type 0} {p : Part A} {q : A → Part B} → Solid p → Solid (p &> q)
solid-first {A} {B} {p} {q} solid n x m h = solid n x.0 h.between (subst (λ l. p.Spells n l x.0 h.between) (left-nil h.first h.second h.whole) h.left)

solid-second : {A B : Type 0} {p : Part A} {q : A → Part B} → ((x : A) → Solid (q x)) → Solid (p &> q)
solid-second {A} {B} {p} {q} solid n x m h = solid x.0 h.between x.1 m (subst (λ l. (q x.0).Spells h.between l x.1 m) (right-nil h.first h.second h.whole) h.right)

solid-either : {A B : Type 0} {p : Part A} {q : A → Part B} (a b : Bool) → (a ≡ true → Solid p) → ((x : A) → b ≡ true → Solid (q x)) → a || b ≡ true → Solid (p &> q)
solid-either true b f g e = solid-first (f refl)
solid-either false b f g e = solid-second (λ x. g x e)

-- the last may be empty: then the first may go on
goes-last : (b : Bool) (gq gp : Kinds) (k : ℕ) → has_code k (cond b gq (gq ++ gp)) ≡ false → has_code k gq ≡ false
goes-last true gq gp k h = h
goes-last false gq gp k h = out-left k gq gp h

goes-first : {A : Type 0} (q : Part A) (b : Bool) (gq gp : Kinds) (k : ℕ) → (b ≡ true → Solid q) → (n : State) (y : A) (m : State) → q.Spells n [] y m → has_code k (cond b gq (gq ++ gp)) ≡ false → has_code k gp ≡ false
goes-first q true gq gp k full n y m h e = absurd (full refl n y m h)
goes-first q false gq gp k full n y m h e = out-right k gq gp e

starts-first : (b : Bool) (sp sq : Kinds) (k : ℕ) → has_code k sp ≡ true → has_code k (cond b sp (sp ++ sq)) ≡ true
starts-first true sp sq k h = h
starts-first false sp sq k h = in-left k sp sq h

starts-second : {A : Type 0} (p : Part A) (b : Bool) (sp sq : Kinds) (k : ℕ) → (b ≡ true → Solid p) → (n : State) (x : A) (m : State) → p.Spells n [] x m → has_code k sq ≡ true
    → has_code k (cond b sp (sp ++ sq)) ≡ true
starts-second p true sp sq k full n x m h e = absurd (full refl n x m h)
starts-second p false sp sq k full n x m h e = in-right k sp sq e

module _ {A B : Type 0} {a : Production A} (wa : Whole a) (s : Shape) (p : A → Part B) (r : A → Reader B) (wb : (x : A) → ReadsAs (p x) s (r x))
    (full : (x : A) → s.solid ≡ true → Solid (p x)) (apart : disjoint s.starts a.shape.goes_on ≡ true) where
  pub joins : Joins a.part p (has a.shape.starts) (has a.shape.goes_on) (λ x. has s.starts) (has s.goes_on) (has (joined a.shape s).starts) (has (joined a.shape s).goes_on)
  joins = record {
    apart = λ x k t h. disjoint-out (code (kind k t)) s.starts a.shape.goes_on apart h;
    ends = λ m t h. goes-last s.solid s.goes_on a.shape.goes_on (code (kind m t)) h;
    ends_short = λ x k y m t h e. goes-first (p x) s.solid s.goes_on a.shape.goes_on (code (kind m t)) (full x) k y m h e;
    opens = λ n t h. starts-first a.shape.solid a.shape.starts s.starts (code (kind n t)) h;
    opens_short = λ n x m t h e. starts-second a.part a.shape.solid a.shape.starts s.starts (code (kind n t)) wa.full n x m h
        (subst (λ l. has s.starts l t ≡ true) (wa.reads.empty n x m h) e);
  }

  pub follow-reads : ReadsAs (a.part &> p) (joined a.shape s) (Rattle.c_parts.specs.Reading.in_turn_by a.read r)
  follow-reads = turn wa.reads wb joins

  pub follow-full : (joined a.shape s).solid ≡ true → Solid (a.part &> p)
  follow-full e = solid-either a.shape.solid s.solid wa.full full e

pub and-whole : {A B : Type 0} {a : Production A} {b : Production B} → Whole a → Whole b → disjoint b.shape.starts a.shape.goes_on ≡ true → Whole (a & b)
and-whole {A} {B} {a} {b} wa wb apart = record {
  reads = follow-reads wa b.shape (λ x. b.part) (λ x. b.read) (λ x. wb.reads) (λ x. wb.full) apart;
  full = follow-full wa b.shape (λ x. b.part) (λ x. b.read) (λ x. wb.reads) (λ x. wb.full) apart;
}

-- ---- either

goes-right : (b : Bool) (gp gq sp : Kinds) (k : ℕ) → has_code k (gp ++ cond b gq (gq ++ sp)) ≡ false → has_code k gq ≡ false
goes-right b gp gq sp k h = goes-last b gq sp k (out-right k gp (cond b gq (gq ++ sp)) h)

solid-both : {A : Type 0} (p q : Part A) (a b : Bool) → (a ≡ true → Solid p) → (b ≡ true → Solid q) → a && b ≡ true → Solid (p ⊔ q)
solid-both p q a b f g e n x m h = let c = both a b e in elim h [ inl w ↦ f c.0 n x m w | inr w ↦ g c.1 n x m w ]

pub or-parts : {A : Type 0} {a b : Production A} → Whole a → Whole b → a.shape.solid ≡ true → disjoint b.shape.starts a.shape.starts ≡ true
    → Parts a.part b.part (has a.shape.starts) (has a.shape.goes_on) (has b.shape.starts) (has b.shape.goes_on) (has (a or b).shape.starts) (has (a or b).shape.goes_on)
or-parts {A} {a} {b} wa wb solid apart = record {
  solid = wa.full solid;
  apart = λ n t h. disjoint-out (code (kind n t)) b.shape.starts a.shape.starts apart h;
  ends_left = λ m t h. out-left (code (kind m t)) a.shape.goes_on (cond b.shape.solid b.shape.goes_on (b.shape.goes_on ++ a.shape.starts)) h;
  ends_right = λ m t h. goes-right b.shape.solid a.shape.goes_on b.shape.goes_on a.shape.starts (code (kind m t)) h;
  ends_short = λ n x m t h e. goes-first b.part b.shape.solid b.shape.goes_on a.shape.starts (code (kind m t)) wb.full n x m h
      (out-right (code (kind m t)) a.shape.goes_on (cond b.shape.solid b.shape.goes_on (b.shape.goes_on ++ a.shape.starts)) e);
  opens_left = λ n t h. in-left (code (kind n t)) a.shape.starts b.shape.starts h;
  opens_right = λ n t h. in-right (code (kind n t)) a.shape.starts b.shape.starts h;
}

pub or-whole : {A : Type 0} {a b : Production A} → Whole a → Whole b → a.shape.solid ≡ true → disjoint b.shape.starts a.shape.starts ≡ true → Whole (a or b)
or-whole {A} {a} {b} wa wb solid apart = record {
  reads = choice wa.reads wb.reads (or-parts wa wb solid apart);
  full = λ e. solid-both a.part b.part a.shape.solid b.shape.solid wa.full wb.full e;
}

-- ---- values and states

pub made-whole : {A B : Type 0} {a : Production A} (f : A → B) → Whole a → Whole (made f a)
made-whole f wa = record {
  reads = shaping wa.reads (record { ends = λ n x k t e. e; still = λ n x h. refl; opens = λ n t h. h; keeps = λ n x k h. h });
  full = λ e n y m h. wa.full e n h.value h.after h.of;
}

pub token-whole : {X : Type 0} (ks : Kinds) (f : Lexeme → X) → Whole (token ks f)
token-whole ks f = made-whole f (lexeme-whole ks)

pub spanned-whole : {A : Type 0} {a : Production A} → Whole a → Whole (spanned a)
spanned-whole wa = record {
  reads = shaping wa.reads (record { ends = λ n x k t e. e; still = λ n x h. refl; opens = λ n t h. h; keeps = λ n x k h. h });
  full = λ e n y m h. wa.full e n h.value h.after h.of;
}

outer-with : (more : Scope) (scopes : List Scope) → outer_scopes (with_names more scopes) ≡ outer_scopes scopes
outer-with [] scopes = refl
outer-with (b ∷ more) [] = refl
outer-with (b ∷ more) (scope ∷ outer) = refl

pub declares-whole : {A : Type 0} {a : Production A} (f : Bool → A → Scope) → Whole a → a.shape.solid ≡ true → Whole (declares f a)
declares-whole {A} {a} f wa solid = record {
  reads = shaping wa.reads (record {
    ends = λ n x k t h. lacks-names a.shape.goes_on k (with_names (f k.typedef x) k.scopes) t h;
    still = λ n x h. absurd (wa.full solid n x n h);
    opens = λ n t h. h;
    keeps = λ n x k h. outer-with (f k.typedef x) k.scopes ∙ h;
  });
  full = λ e n y m h. wa.full e n h.value h.after h.of;
}

pub scoped-whole : {A : Type 0} {a : Production A} → Whole a → Whole (scoped a)
scoped-whole {A} {a} wa = record {
  reads = shaping wa.reads (record {
    ends = λ n x k t h. lacks-names a.shape.goes_on k n.scopes t h;
    still = λ n x h. refl;
    opens = λ n t h. sym (has-entered a.shape.starts n t) ∙ h;
    keeps = λ n x k h. refl;
  });
  full = λ e n y m h. wa.full e (entered [] n) h.value h.after h.of;
}

pub scoped-with-whole : {A : Type 0} {a : Production A} (scope : Scope) → Whole a → Whole (scoped_with scope a)
scoped-with-whole {A} {a} scope wa = record {
  reads = shaping wa.reads (record {
    ends = λ n x k t h. lacks-names a.shape.goes_on k n.scopes t h;
    still = λ n x h. refl;
    opens = λ n t h. has-names a.shape.starts n (scope ∷ n.scopes) t h;
    keeps = λ n x k h. refl;
  });
  full = λ e n y m h. wa.full e (entered scope n) h.value h.after h.of;
}

pub collected-whole : {A : Type 0} {a : Production A} → Whole a → Whole (collected a)
collected-whole {A} {a} wa = record {
  reads = shaping wa.reads (record {
    ends = λ n x k t h. lacks-names a.shape.goes_on k n.scopes t h;
    still = λ n x h. refl;
    opens = λ n t h. sym (has-entered a.shape.starts n t) ∙ h;
    keeps = λ n x k h. refl;
  });
  full = λ e n y m h. wa.full e (entered [] n) h.value h.after h.of;
}

pub specifies-whole : {A : Type 0} {a : Production A} (f g : A → Bool) → Whole a → a.shape.solid ≡ true → Whole (specifies f g a)
specifies-whole {A} {a} f g wa solid = record {
  reads = shaping wa.reads (record {
    ends = λ n x k t h. lacks-typedefs a.shape.goes_on k (k.typed || f x) (k.typedef || g x) t h;
    still = λ n x h. absurd (wa.full solid n x n h);
    opens = λ n t h. h;
    keeps = λ n x k h. h;
  });
  full = λ e n y m h. wa.full e n h.value h.after h.of;
}

pub specified-whole : {A : Type 0} {a : Production A} → Whole a → Whole (specified a)
specified-whole {A} {a} wa = record {
  reads = shaping wa.reads (record {
    ends = λ n x k t h. lacks-typedefs a.shape.goes_on k n.typed n.typedef t h;
    still = λ n x h. refl;
    opens = λ n t h. has-typedefs a.shape.starts n false false t h;
    keeps = λ n x k h. h;
  });
  full = λ e n y m h. wa.full e (with_specifiers n false false) h.value h.after h.of;
}

-- ---- any number, and at most one

pub many-whole : {A : Type 0} {a : Production A} → Whole a → a.shape.solid ≡ true → disjoint a.shape.starts a.shape.goes_on ≡ true → Whole (many a)
many-whole {A} {a} wa solid apart = record {
  reads = repeating wa.reads (record {
    solid = wa.full solid;
    apart = λ k t h. disjoint-out (code (kind k t)) a.shape.starts a.shape.goes_on apart h;
    ends = λ m t h. out-left (code (kind m t)) a.shape.goes_on a.shape.starts h;
    ends_short = λ m t h. out-right (code (kind m t)) a.shape.goes_on a.shape.starts h;
  });
  full = λ e. absurd (let f : false ≡ true = e in cc);
}

pub nothing-whole : {X : Type 0} (x : X) → Whole (nothing x)
nothing-whole x = record { reads = nothing-reads x; full = λ e. absurd (let f : false ≡ true = e in cc) }

pub optional-whole : {A : Type 0} {a : Production A} → Whole a → a.shape.solid ≡ true → Whole (optional a)
optional-whole wa solid = or-whole (made-whole Some wa) (nothing-whole None) solid refl

-- ---- one reader for two alternatives

pub carries-whole : {A B : Type 0} {a : Production A} (some : Production A) {more : Production B} (is_some : A → Bool) (f : A × B → A) → Whole a → Whole more → more.shape.solid ≡ true → a.shape.solid ≡ true
    → Carries a.part some.part more.part is_some (has a.shape.goes_on) (has more.shape.starts) (has more.shape.goes_on) (has (carries is_some f a some more).shape.goes_on)
    → Whole (carries is_some f a some more)
carries-whole {A} {B} {a} some {more} is_some f wa wm solid-more solid j = record {
  reads = carrying f wa.reads wm.reads j;
  full = λ e n x m h. elim h [
    | inl w ↦ wa.full solid n x m w
    | inr w ↦ wm.full solid-more w.of.between w.value.1 w.after (subst (λ l. more.part.Spells w.of.between l w.value.1 w.after) (right-nil w.of.first w.of.second w.of.whole) w.of.right)
  ];
}
