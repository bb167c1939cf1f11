-- Parts that begin with a parenthesis, told apart by the token behind it.
use Rattle.std.proofs.Common.{◌≡◌, Bool, true, false, List, [], ◌∷◌, ◌++◌, inl, inr, refl, sym, ap, ◌∙◌, subst}
use Rattle.std.specs.Prelude.{◌&&◌}
use Rattle.c_parts.specs.declared.terminal.Terminal.TheVariants as t
use Rattle.c_parts.specs.declared.lexeme.Lexeme.{Lexeme}
use Rattle.c_parts.specs.Scopes.{State, next}
use Rattle.c_parts.specs.Terminals.{code}
use Rattle.c_parts.specs.Kinds.{kind, Kinds, has, disjoint, subset}
use Rattle.c_parts.specs.Part.{Part, one, ◌&>◌, ◌⊔◌, shaped}
use Rattle.c_parts.specs.Production.{Production, token, sign, mark, ◌&◌, two_of, told_apart}
use Rattle.c_parts.proofs.Laws.{Solid}
use Rattle.c_parts.proofs.Look.{Looks, looking}
use Rattle.c_parts.proofs.Sets.{disjoint-out, subset-in, out-left, out-right, both-ways}
use Rattle.c_parts.proofs.Whole.{Whole}

abbrev pub paren : Kinds
paren = t.LeftParen ∷ []

-- It begins with a parenthesis, and then with these, and is more than one token. Where nothing may be open it isn't there.
pub record Opening {X : Type 0} (alive : Bool) (p : Part X) (second : Kinds) : Type 0 where
  pub two : (n : State) (t u : Lexeme) (us : List Lexeme) → p.Front n (t ∷ u ∷ us) → two_of paren second n t u ≡ true
  pub long : (n : State) (t : Lexeme) (x : X) (m : State) → p.Spells n (t ∷ []) x m → ⊥
  pub first : (n : State) (t : Lexeme) → p.Front n (t ∷ []) → has paren n t ≡ true
  pub begins : alive ≡ true → (n : State) (t : Lexeme) → has paren n t ≡ true → p.Front n (t ∷ [])
  pub dead : alive ≡ false → (n : State) (t : Lexeme) (us : List Lexeme) → p.Front n (t ∷ us) → ⊥

-- It doesn't begin with a parenthesis and one of these.
pub record Declines {X : Type 0} (alive : Bool) (q : Part X) (second : Kinds) : Type 0 where
  pub right : (n : State) (t u : Lexeme) (us : List Lexeme) → q.Front n (t ∷ u ∷ us) → two_of paren second n t u ≡ false
  pub alone : (n : State) (t u : Lexeme) (x : X) (m : State) → q.Spells n (t ∷ []) x m → two_of paren second n t u ≡ false
  pub dead : alive ≡ false → (n : State) (t u : Lexeme) → two_of paren second n t u ≡ true → q.Front n (t ∷ []) → ⊥

-- It may begin with a parenthesis.
pub record Shares {X : Type 0} (alive : Bool) (q : Part X) : Type 0 where
  pub share : alive ≡ true → (n : State) (t : Lexeme) → has paren n t ≡ true → q.Front n (t ∷ [])

-- ---- tests

and-left : (a b : Bool) → a ≡ false → a && b ≡ false
and-left true b e = absurd cc
and-left false b e = refl

and-right : (a b : Bool) → b ≡ false → a && b ≡ false
and-right true b e = e
and-right false b e = refl

and-both : (a b : Bool) → a ≡ true → b ≡ true → a && b ≡ true
and-both true b h k = k
and-both false b h k = absurd cc

and-first : (a b : Bool) → a && b ≡ true → a ≡ true
and-first true b e = refl
and-first false b e = absurd cc

and-second : (a b : Bool) → a && b ≡ true → b ≡ true
and-second true b e = e
and-second false b e = absurd cc

-- ---- a token, and what follows it

module _ {A B : Type 0} (ks : Kinds) (f : Lexeme → A) (q : Part B) where
  pub token-two : (n : State) (t u : Lexeme) (us : List Lexeme) → ((token ks f).part &> (λ x. q)).Front n (t ∷ u ∷ us) → q.Front (next n t) (u ∷ us)
  token-two n t u us h = elim h [
    | inl w ↦ elim w [ inl e ↦ absurd cc | inr v ↦ absurd (let e : t ∷ u ∷ us ≡ v.token ∷ [] = v.whole in cc) ]
    | inr w ↦
        let whole : t ∷ u ∷ us ≡ w.left.of.token ∷ w.second = w.whole ∙ ap (λ l. l ++ w.second) w.left.of.whole in
        let same : w.second ≡ u ∷ us = cc in
        let head : w.left.of.token ≡ t = cc in
        subst (λ k. q.Front k (u ∷ us)) (w.left.moved ∙ w.left.of.moved ∙ ap (λ k. next n k) head) (subst (λ l. q.Front w.between l) same w.right)
  ]

  pub token-long : Solid q → (n : State) (t : Lexeme) (x : A × B) (m : State) → ((token ks f).part &> (λ x. q)).Spells n (t ∷ []) x m → ⊥
  token-long solid n t x m h =
      let whole : t ∷ [] ≡ h.left.of.token ∷ h.second = h.whole ∙ ap (λ l. l ++ h.second) h.left.of.whole in
      let none : h.second ≡ [] = cc in
      solid h.between x.1 m (subst (λ l. q.Spells h.between l x.1 m) none h.right)

  pub token-alone : (n : State) (t : Lexeme) → has ks n t ≡ true → ((token ks f).part &> (λ x. q)).Front n (t ∷ [])
  token-alone n t h = inl (inr (record { token = t; value = t; whole = refl; is = (h, refl) }))

  pub token-first : (n : State) (t : Lexeme) (us : List Lexeme) → ((token ks f).part &> (λ x. q)).Front n (t ∷ us) → has ks n t ≡ true
  token-first n t us h = elim h [
    | inl w ↦ elim w [
      | inl e ↦ absurd cc
      | inr v ↦
          let same : t ≡ v.token = (let e : t ∷ us ≡ v.token ∷ [] = v.whole in cc) in subst (λ l. has ks n l ≡ true) (sym same) v.is.0
    ]
    | inr w ↦
        let whole : t ∷ us ≡ w.left.of.token ∷ w.second = w.whole ∙ ap (λ l. l ++ w.second) w.left.of.whole in
        let same : t ≡ w.left.of.token = cc in subst (λ l. has ks n l ≡ true) (sym same) w.left.of.is.0
  ]

-- ---- what opens

pub opening-sign : {B : Type 0} {b : Production B} (second : Kinds) → Whole b → b.shape.solid ≡ true → subset b.shape.starts second ≡ true → Opening true (sign t.LeftParen & b).part second
opening-sign {B} {b} second wb solid within = record {
  two = λ n t u us h. and-both (has paren n t) (has second (next n t) u) (token-first paren mark b.part n t (u ∷ us) h)
      (subset-in (code (kind (next n t) u)) b.shape.starts second within (wb.reads.begins (next n t) u us (token-two paren mark b.part n t u us h)));
  long = token-long paren mark b.part (wb.full solid);
  first = λ n t h. token-first paren mark b.part n t [] h;
  begins = λ e n t h. token-alone paren mark b.part n t h;
  dead = λ e n t us h. let f : true ≡ false = e in cc;
}

pub opening-never : {X : Type 0} (second : Kinds) → Opening false (Rattle.c_parts.specs.Part.never {A = X}) second
opening-never second = record {
  two = λ n t u us h. absurd (let e : t ∷ u ∷ us ≡ [] = h in cc);
  long = λ n t x m h. h;
  first = λ n t h. absurd (let e : t ∷ [] ≡ [] = h in cc);
  begins = λ e n t h. absurd (let f : false ≡ true = e in cc);
  dead = λ e n t us h. let e : t ∷ us ≡ [] = h in cc;
}

pub opening-shaped : {A B : Type 0} {alive : Bool} {p : Part A} {second : Kinds} {f : State → A → State → B} {g : State → A → State → State} → Opening alive p second → Opening alive (shaped (λ n. n) f g p) second
opening-shaped o = record { two = o.two; long = λ n t x m h. o.long n t h.value h.after h.of; first = o.first; begins = o.begins; dead = o.dead }

module _ {A B : Type 0} {alive : Bool} {a : Production A} {second : Kinds} (q : Part B) (wa : Whole a) (solid : a.shape.solid ≡ true) (o : Opening alive a.part second) where
  opening-two-at : (n : State) (t u : Lexeme) (us f g : List Lexeme) (x : A) (k : State) → t ∷ u ∷ us ≡ f ++ g → a.part.Spells n f x k → two_of paren second n t u ≡ true
  opening-two-at n t u us [] g x k e h = absurd (wa.full solid n x k h)
  opening-two-at n t u us (v ∷ []) g x k e h = absurd (o.long n v x k h)
  opening-two-at n t u us (v ∷ w ∷ f) g x k e h =
      let same : t ≡ v = cc in let same2 : u ≡ w = cc in
      subst (λ l. two_of paren second n l u ≡ true) (sym same) (subst (λ l. two_of paren second n v l ≡ true) (sym same2) (o.two n v w f (wa.reads.front n (v ∷ w ∷ f) x k h)))

  opening-one-at : (n : State) (t : Lexeme) (f g : List Lexeme) (x : A) (k : State) → t ∷ [] ≡ f ++ g → a.part.Spells n f x k → ⊥
  opening-one-at n t [] g x k e h = wa.full solid n x k h
  opening-one-at n t (v ∷ []) g x k e h = o.long n v x k h
  opening-one-at n t (v ∷ w ∷ f) g x k e h = cc

  opening-dead-at : alive ≡ false → (n : State) (t : Lexeme) (us f g : List Lexeme) (x : A) (k : State) → t ∷ us ≡ f ++ g → a.part.Spells n f x k → ⊥
  opening-dead-at off n t us [] g x k e h = wa.full solid n x k h
  opening-dead-at off n t us (v ∷ f) g x k e h = o.dead off n v f (wa.reads.front n (v ∷ f) x k h)

  pub opening-and : Opening alive (a.part &> (λ x. q)) second
  opening-and = record {
    two = λ n t u us h. elim h [ inl w ↦ o.two n t u us w | inr w ↦ opening-two-at n t u us w.first w.second w.value w.between w.whole w.left ];
    long = λ n t x m h. opening-one-at n t h.first h.second x.0 h.between h.whole h.left;
    first = λ n t h. elim h [ inl w ↦ o.first n t w | inr w ↦ absurd (opening-one-at n t w.first w.second w.value w.between w.whole w.left) ];
    begins = λ e n t h. inl (o.begins e n t h);
    dead = λ e n t us h. elim h [ inl w ↦ o.dead e n t us w | inr w ↦ opening-dead-at e n t us w.first w.second w.value w.between w.whole w.left ];
  }

-- ---- what doesn't begin so

pub declines-apart : {X : Type 0} {a : Production X} (alive : Bool) (second : Kinds) → Whole a → disjoint a.shape.starts paren ≡ true → Declines alive a.part second
declines-apart {X} {a} alive second wa apart = record {
  right = λ n t u us h. off n t u (wa.reads.begins n t (u ∷ us) h);
  alone = λ n t u x m h. off n t u (wa.reads.begins n t [] (wa.reads.front n (t ∷ []) x m h));
  dead = λ e n t u h k. both-ways (two_of paren second n t u) h (off n t u (wa.reads.begins n t [] k));
}
  where
    off : (n : State) (t u : Lexeme) → has a.shape.starts n t ≡ true → two_of paren second n t u ≡ false
    off n t u h = and-left (has paren n t) (has second (next n t) u) (disjoint-out (code (kind n t)) a.shape.starts paren apart h)

pub declines-opening : {X : Type 0} {alive : Bool} {p : Part X} {own : Kinds} (second : Kinds) → Opening alive p own → disjoint own second ≡ true → Declines alive p second
declines-opening {X} {alive} {p} {own} second o apart = record {
  right = λ n t u us h. and-right (has paren n t) (has second (next n t) u)
      (disjoint-out (code (kind (next n t) u)) own second apart (and-second (has paren n t) (has own (next n t) u) (o.two n t u us h)));
  alone = λ n t u x m h. absurd (o.long n t x m h);
  dead = λ e n t u h k. o.dead e n t [] k;
}

pub declines-or : {A : Type 0} {alive : Bool} {p q : Part A} {second : Kinds} → Declines alive p second → Declines alive q second → Declines alive (p ⊔ q) second
declines-or a b = record {
  right = λ n t u us h. elim h [ inl w ↦ a.right n t u us w | inr w ↦ b.right n t u us w ];
  alone = λ n t u x m h. elim h [ inl w ↦ a.alone n t u x m w | inr w ↦ b.alone n t u x m w ];
  dead = λ e n t u h k. elim k [ inl w ↦ a.dead e n t u h w | inr w ↦ b.dead e n t u h w ];
}

pub declines-shaped : {A B : Type 0} {alive : Bool} {p : Part A} {second : Kinds} {f : State → A → State → B} {g : State → A → State → State} → Declines alive p second → Declines alive (shaped (λ n. n) f g p) second
declines-shaped d = record { right = d.right; alone = λ n t u x m h. d.alone n t u h.value h.after h.of; dead = d.dead }

module _ {A B : Type 0} {alive : Bool} {a : Production A} {second : Kinds} (q : Part B) (wa : Whole a) (solid : a.shape.solid ≡ true) (d : Declines alive a.part second) where
  declines-right-at : (n : State) (t u : Lexeme) (us f g : List Lexeme) (x : A) (k : State) → t ∷ u ∷ us ≡ f ++ g → a.part.Spells n f x k → two_of paren second n t u ≡ false
  declines-right-at n t u us [] g x k e h = absurd (wa.full solid n x k h)
  declines-right-at n t u us (v ∷ []) g x k e h = let same : t ≡ v = cc in subst (λ l. two_of paren second n l u ≡ false) (sym same) (d.alone n v u x k h)
  declines-right-at n t u us (v ∷ w ∷ f) g x k e h =
      let same : t ≡ v = cc in let same2 : u ≡ w = cc in
      subst (λ l. two_of paren second n l u ≡ false) (sym same) (subst (λ l. two_of paren second n v l ≡ false) (sym same2) (d.right n v w f (wa.reads.front n (v ∷ w ∷ f) x k h)))

  declines-alone-at : (n : State) (t u : Lexeme) (f g : List Lexeme) (x : A) (k : State) → t ∷ [] ≡ f ++ g → a.part.Spells n f x k → two_of paren second n t u ≡ false
  declines-alone-at n t u [] g x k e h = absurd (wa.full solid n x k h)
  declines-alone-at n t u (v ∷ []) g x k e h = let same : t ≡ v = cc in subst (λ l. two_of paren second n l u ≡ false) (sym same) (d.alone n v u x k h)
  declines-alone-at n t u (v ∷ w ∷ f) g x k e h = absurd (let e2 : t ∷ [] ≡ v ∷ w ∷ (f ++ g) = e in cc)

  pub declines-and : Declines alive (a.part &> (λ x. q)) second
  declines-and = record {
    right = λ n t u us h. elim h [ inl w ↦ d.right n t u us w | inr w ↦ declines-right-at n t u us w.first w.second w.value w.between w.whole w.left ];
    alone = λ n t u x m h. declines-alone-at n t u h.first h.second x.0 h.between h.whole h.left;
    dead = λ e n t u h k. elim k [
      | inl w ↦ d.dead e n t u h w
      | inr w ↦ both-ways (two_of paren second n t u) h (declines-alone-at n t u w.first w.second w.value w.between w.whole w.left)
    ];
  }

-- ---- what may begin so

pub shares-opening : {X : Type 0} {alive : Bool} {p : Part X} {second : Kinds} → Opening alive p second → Shares alive p
shares-opening o = record { share = o.begins }

pub shares-left : {A : Type 0} {alive : Bool} {p : Part A} (q : Part A) → Shares alive p → Shares alive (p ⊔ q)
shares-left q s = record { share = λ e n t h. inl (s.share e n t h) }

pub shares-right : {A : Type 0} {alive : Bool} (p : Part A) {q : Part A} → Shares alive q → Shares alive (p ⊔ q)
shares-right p s = record { share = λ e n t h. inr (s.share e n t h) }

pub shares-shaped : {A B : Type 0} {alive : Bool} {p : Part A} {f : State → A → State → B} {g : State → A → State → State} → Shares alive p → Shares alive (shaped (λ n. n) f g p)
shares-shaped s = record { share = s.share }

pub shares-and : {A B : Type 0} {alive : Bool} {p : Part A} (q : Part B) → Shares alive p → Shares alive (p &> (λ x. q))
shares-and q s = record { share = λ e n t h. inl (s.share e n t h) }

-- ---- the two, one beside the other

dead-or : (b : Bool) (P : Type 0) → (b ≡ true → P) → (b ≡ false → ⊥) → P
dead-or true P f g = f refl
dead-or false P f g = absurd (g refl)

module _ {A : Type 0} {a b : Production A} (alive : Bool) (second : Kinds) (wa : Whole a) (wb : Whole b) (solid-a : a.shape.solid ≡ true) (solid-b : b.shape.solid ≡ true)
    (o : Opening alive a.part second) (d : Declines alive b.part second) (s : Shares alive b.part) (within : subset a.shape.starts b.shape.starts ≡ true) where
  looks-apart : Looks a.part b.part (two_of paren second) (has a.shape.starts) (has a.shape.goes_on) (has b.shape.starts) (has b.shape.goes_on)
      (has b.shape.starts) (has (a.shape.goes_on ++ b.shape.goes_on))
  looks-apart = record {
    solid_left = wa.full solid-a;
    solid_right = wb.full solid-b;
    left = o.two;
    right = d.right;
    long = o.long;
    alone = d.alone;
    share_left = λ n t u h. dead-or alive (b.part.Front n (t ∷ [])) (λ e. s.share e n t (o.first n t h)) (λ e. o.dead e n t [] h);
    share_right = λ n t u h e. dead-or alive (a.part.Front n (t ∷ [])) (λ l. o.begins l n t (and-first (has paren n t) (has second (next n t) u) e)) (λ l. d.dead l n t u e h);
    ends_left = λ m t h. out-left (code (kind m t)) a.shape.goes_on b.shape.goes_on h;
    ends_right = λ m t h. out-right (code (kind m t)) a.shape.goes_on b.shape.goes_on h;
    opens_left = λ n t h. subset-in (code (kind n t)) a.shape.starts b.shape.starts within h;
    opens_right = λ n t h. h;
  }

  pub told-apart-whole : Whole (told_apart paren second a b)
  told-apart-whole = record {
    reads = looking wa.reads wb.reads looks-apart;
    full = λ e n x m h. elim h [ inl w ↦ wa.full solid-a n x m w | inr w ↦ wb.full solid-b n x m w ];
  }
