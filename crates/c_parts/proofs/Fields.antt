-- What stands one deeper, at two levels of nesting, and where nothing may be open.
use Rattle.std.proofs.Common.{◌≡◌, ℕ, Bool, true, false, List, [], ◌∷◌, ◌++◌, ◌⊎◌, inl, inr, refl, subst}
use Rattle.std.specs.Prelude.{◌||◌, eqb}
use Rattle.c_parts.specs.declared.lexeme.Lexeme.{Lexeme}
use Rattle.c_parts.specs.Scopes.{State}
use Rattle.c_parts.specs.Terminals.{code}
use Rattle.c_parts.specs.Kinds.{kind, Kinds, has_code, has, subset}
use Rattle.c_parts.specs.Part.{Part, ◌&>◌, ◌⊔◌, shaped, never}
use Rattle.c_parts.specs.Reading.{Reader, ahead}
use Rattle.c_parts.specs.Production.{Shape, Production, token, Nested, nested, opened, outside, said}
use Rattle.c_parts.proofs.Laws.{Reads, Solid, never-reads}
use Rattle.c_parts.proofs.Agree.{Alone, loose-agrees, room-agrees}
use Rattle.c_parts.proofs.Sets.{subset-in, subset-out}
use Rattle.c_parts.proofs.Whole.{Whole}
use Rattle.c_parts.proofs.Good.{Good}

ends-of : (gp goes_on : Kinds) (m : State) (rest : List Lexeme) → subset gp goes_on ≡ true → ahead (has goes_on) m rest ≡ false → ahead (has gp) m rest ≡ false
ends-of gp goes_on m [] b e = refl
ends-of gp goes_on m (t ∷ rest) b e = subset-out (code (kind m t)) gp goes_on b e

opens-of : (sp starts : Kinds) (n : State) (ts : List Lexeme) → subset sp starts ≡ true → ahead (has sp) n ts ≡ true → ahead (has starts) n ts ≡ true
opens-of sp starts n [] b e = e
opens-of sp starts n (t ∷ ts) b e = subset-in (code (kind n t)) sp starts b e

wider-opens : {X : Type 0} (sp starts : Kinds) (n : State) (ts : List Lexeme) (a : Rattle.c_parts.specs.Reading.Answer X) → subset sp starts ≡ true → Rattle.c_parts.proofs.Laws.Opens (has sp) n ts a
    → Rattle.c_parts.proofs.Laws.Opens (has starts) n ts a
wider-opens sp starts n ts (Rattle.c_parts.specs.Reading.Took x rest m) b h = tt
wider-opens sp starts n ts (Rattle.c_parts.specs.Reading.Refused Rattle.c_parts.specs.Reading.Syntax rest) b h = tt
wider-opens sp starts n ts (Rattle.c_parts.specs.Reading.Refused Rattle.c_parts.specs.Reading.Deep rest) b h = λ e. opens-of sp starts n ts b (h e)

wider : {X : Type 0} {p : Part X} (sp gp : Kinds) {r : Reader X} (starts goes_on : Kinds) → subset sp starts ≡ true → subset gp goes_on ≡ true → Reads p (has sp) (has gp) r → Reads p (has starts) (has goes_on) r
wider {X} {p} sp gp {r} starts goes_on a b rp = record {
  sound = rp.sound;
  complete = λ n us x m rest h e. rp.complete n us x m rest h (ends-of gp goes_on m rest b e);
  reached = rp.reached;
  no_further = rp.no_further;
  opens = λ n ts. wider-opens sp starts n ts (r n ts) a (rp.opens n ts);
  begins = λ n t us h. subset-in (code (kind n t)) sp starts a (rp.begins n t us h);
  front = rp.front;
  empty = rp.empty;
  nil = rp.nil;
  keeps = rp.keeps;
  closed = rp.closed;
}

-- a production as what stands one deeper
pub field-good : {strict : Bool} {X : Type 0} {a b : Production X} (starts goes_on : Kinds) → Good strict a b → a.shape.solid ≡ true → subset a.shape.starts starts ≡ true → subset a.shape.goes_on goes_on ≡ true
    → Good strict (opened starts goes_on (nested a)) (opened starts goes_on (nested b))
field-good {strict} {X} {a} {b} starts goes_on g solid within behind = record {
  low = record { reads = wider a.shape.starts a.shape.goes_on starts goes_on within behind g.low.reads; full = λ e. g.low.full solid };
  high = record {
    reads = wider b.shape.starts b.shape.goes_on starts goes_on (subst (λ s. subset s.starts starts ≡ true) g.same within) (subst (λ s. subset s.goes_on goes_on ≡ true) g.same behind) g.high.reads;
    full = λ e. g.high.full (subst (λ s. s.solid ≡ true) g.same solid);
  };
  same = refl;
  agree = g.agree;
}

-- a production with a wider shape
pub said-good : {strict : Bool} {X : Type 0} {a b : Production X} (shape : Shape) → Good strict a b → a.shape.solid ≡ true → subset a.shape.starts shape.starts ≡ true → subset a.shape.goes_on shape.goes_on ≡ true
    → Good strict (said shape a) (said shape b)
said-good {strict} {X} {a} {b} shape g solid within behind = record {
  low = record { reads = wider a.shape.starts a.shape.goes_on shape.starts shape.goes_on within behind g.low.reads; full = λ e. g.low.full solid };
  high = record {
    reads = wider b.shape.starts b.shape.goes_on shape.starts shape.goes_on (subst (λ s. subset s.starts shape.starts ≡ true) g.same within) (subst (λ s. subset s.goes_on shape.goes_on ≡ true) g.same behind) g.high.reads;
    full = λ e. g.high.full (subst (λ s. s.solid ≡ true) g.same solid);
  };
  same = refl;
  agree = g.agree;
}

outside-reads : (X : Type 0) (starts goes_on : Kinds) → Reads (never {A = X}) (has starts) (has goes_on) (outside starts).read
outside-reads X starts goes_on =
    let rp = never-reads {X = X} (has starts) in
    record {
      sound = rp.sound;
      complete = λ n us x m rest h e. absurd h;
      reached = rp.reached;
      no_further = rp.no_further;
      opens = rp.opens;
      begins = rp.begins;
      front = rp.front;
      empty = rp.empty;
      nil = rp.nil;
      keeps = rp.keeps;
      closed = rp.closed;
    }

pub outside-whole : {X : Type 0} (starts goes_on : Kinds) → Whole (opened starts goes_on (outside {X = X} starts))
outside-whole {X} starts goes_on = record { reads = outside-reads X starts goes_on; full = λ e n x m h. h }

-- no room, against itself
pub outside-good : {X : Type 0} (starts goes_on : Kinds) → Good false (opened starts goes_on (outside {X = X} starts)) (opened starts goes_on (outside starts))
outside-good {X} starts goes_on = record { low = outside-whole starts goes_on; high = outside-whole starts goes_on; same = refl; agree = loose-agrees (outside starts).read }

-- ---- what begins so at all

-- each of these tokens is a front of the part
pub record Begins {X : Type 0} (p : Part X) (ks : Kinds) : Type 0 where
  pub alone : Alone p (has ks)

-- no room, against a part that begins as it says
pub room-good : {X : Type 0} {starts goes_on : Kinds} {f : Nested X} → Good false (opened starts goes_on f) (opened starts goes_on f) → Begins f.part starts
    → Good true (opened starts goes_on (outside starts)) (opened starts goes_on f)
room-good {X} {starts} {goes_on} {f} g b = record {
  low = outside-whole starts goes_on;
  high = g.high;
  same = refl;
  agree = room-agrees g.high.reads (g.high.full refl) true b.alone;
}

member-split : (k : ℕ) (a b : Kinds) → has_code k (a ++ b) ≡ true → (has_code k a ≡ true) ⊎ (has_code k b ≡ true)
member-split k [] b h = inr h
member-split k (x ∷ a) b h = split-step (eqb k (code x)) (has_code k (a ++ b)) h (λ e. member-split k a b e)
  where
    split-step : {P : Bool} {Q : Type 0} (x y : Bool) → x || y ≡ true → (y ≡ true → (P ≡ true) ⊎ Q) → (x || P ≡ true) ⊎ Q
    split-step true y e f = inl refl
    split-step false y e f = f e

pub begins-or : {A : Type 0} {p q : Part A} {sp sq : Kinds} → Begins p sp → Begins q sq → Begins (p ⊔ q) (sp ++ sq)
begins-or {A} {p} {q} {sp} {sq} a b = record {
  alone = λ n t h.
      elim (member-split (code (kind n t)) sp sq h) [ inl e ↦ inl (a.alone n t e) | inr e ↦ inr (b.alone n t e) ];
}

pub begins-left : {A : Type 0} {p : Part A} {ks : Kinds} (q : Part A) → Begins p ks → Begins (p ⊔ q) ks
begins-left q a = record { alone = λ n t h. inl (a.alone n t h) }

pub begins-right : {A : Type 0} (p : Part A) {q : Part A} {ks : Kinds} → Begins q ks → Begins (p ⊔ q) ks
begins-right p a = record { alone = λ n t h. inr (a.alone n t h) }

pub begins-shaped : {A B : Type 0} {p : Part A} {ks : Kinds} {f : State → A → State → B} {g : State → A → State → State} → Begins p ks → Begins (shaped (λ n. n) f g p) ks
begins-shaped a = record { alone = a.alone }

pub begins-and : {A B : Type 0} {p : Part A} (q : Part B) {ks : Kinds} → Begins p ks → Begins (p &> (λ x. q)) ks
begins-and q a = record { alone = λ n t h. inl (a.alone n t h) }

pub begins-token : {X : Type 0} (ks : Kinds) (f : Lexeme → X) → Begins (token ks f).part ks
begins-token ks f = record { alone = λ n t h. inr (record { token = t; value = t; whole = refl; is = (h, refl) }) }

-- the same with fewer
pub begins-fewer : {X : Type 0} {p : Part X} {ks : Kinds} (fewer : Kinds) → Begins p ks → subset fewer ks ≡ true → Begins p fewer
begins-fewer {X} {p} {ks} fewer a within = record { alone = λ n t h. a.alone n t (subset-in (code (kind n t)) fewer ks within h) }
