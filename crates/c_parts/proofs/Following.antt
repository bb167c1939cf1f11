-- Two ways more for one production to follow another, and what a token that hangs has to do with them: an `else` belongs
-- to the nearest statement that it can go on with.
use Rattle.std.proofs.Common.{◌≡◌, Bool, true, false, List, [], ◌∷◌, ◌++◌, inl, refl, sym, ap, ◌∙◌, subst}
use Rattle.c_parts.specs.declared.terminal.Terminal.TheVariants as t
use Rattle.c_parts.specs.declared.lexeme.Lexeme.{Lexeme}
use Rattle.c_parts.specs.Scopes.{State, Scope, entered}
use Rattle.c_parts.specs.Terminals.{code}
use Rattle.c_parts.specs.Kinds.{kind, Kinds, has, disjoint, subset}
use Rattle.c_parts.specs.Production.{Shape, Production, sign, mark, joined, ◌&◌, ◌or◌, made, spanned, span_of, optional, nothing, scoped, scoped_with}
use Rattle.c_parts.specs.Following.{followed, ◌>&◌}
use Rattle.std.specs.Prelude.{Option, Some, None}
use Rattle.c_parts.proofs.Laws.{Reads, Solid, left-nil}
use Rattle.c_parts.proofs.Agree.{turn-agrees}
use Rattle.c_parts.proofs.Sets.{disjoint-out, subset-in, in-left, in-right, out-left, out-right, has-nameless, has-entered, nameless}
use Rattle.c_parts.proofs.Whole.{Whole, ReadsAs, follow-reads, follow-full, joins, or-parts, made-whole, nothing-whole}
use Rattle.c_parts.proofs.Far.{Hangs, Far, calm, far, turn-hangs, or-hangs, shaped-hangs, far-hangs}
use Rattle.c_parts.proofs.Fields.{Begins, begins-and, begins-token}
use Rattle.c_parts.proofs.Good.{Good}

-- ---- a second that goes by the first's value

pub followed-good : {strict : Bool} {A B : Type 0} {a a' : Production A} (shape : Shape) {b b' : A → Production B} → Good strict a a' → ((x : A) → Good strict (b x) (b' x))
    → ((x : A) → (b x).shape ≡ shape) → disjoint shape.starts a.shape.goes_on ≡ true → Good strict (followed a shape b) (followed a' shape b')
followed-good {strict} {A} {B} {a} {a'} shape {b} {b'} g h alike apart =
    let high : (x : A) → (b' x).shape ≡ shape = λ x. sym (h x).same ∙ alike x in
    let low-reads : (x : A) → ReadsAs (b x).part shape (b x).read = λ x. subst (λ s. ReadsAs (b x).part s (b x).read) (alike x) (h x).low.reads in
    let low-full : (x : A) → shape.solid ≡ true → Solid (b x).part = λ x e. (h x).low.full (subst (λ s. s.solid ≡ true) (sym (alike x)) e) in
    let high-reads : (x : A) → ReadsAs (b' x).part shape (b' x).read = λ x. subst (λ s. ReadsAs (b' x).part s (b' x).read) (high x) (h x).high.reads in
    let high-full : (x : A) → shape.solid ≡ true → Solid (b' x).part = λ x e. (h x).high.full (subst (λ s. s.solid ≡ true) (sym (high x)) e) in
    let apart' : disjoint shape.starts a'.shape.goes_on ≡ true = subst (λ s. disjoint shape.starts s.goes_on ≡ true) g.same apart in
    record {
      low = record {
        reads = follow-reads g.low shape (λ x. (b x).part) (λ x. (b x).read) low-reads low-full apart;
        full = follow-full g.low shape (λ x. (b x).part) (λ x. (b x).read) low-reads low-full apart;
      };
      high = record {
        reads = follow-reads g.high shape (λ x. (b' x).part) (λ x. (b' x).read) high-reads high-full apart';
        full = follow-full g.high shape (λ x. (b' x).part) (λ x. (b' x).read) high-reads high-full apart';
      };
      same = ap (λ s. joined s shape) g.same;
      agree = turn-agrees high-reads g.agree (λ x. (h x).agree);
    }

-- ---- what hangs

abbrev pub hanging : Kinds
hanging = t.Else ∷ []

-- A whole production that a hanging token doesn't carry on is taken, whatever else that token could do behind one.
pub record HangsBy {X : Type 0} (a : Production X) : Type 0 where
  pub hangs : Hangs a.part (has hanging) a.read

-- where no hanging token could go on
pub calm-hangs : {X : Type 0} {a : Production X} → Whole a → disjoint hanging a.shape.goes_on ≡ true → HangsBy a
calm-hangs {X} {a} w apart = record { hangs = calm w.reads (λ m t e. disjoint-out (code (kind m t)) hanging a.shape.goes_on apart e) }

pub and-hangs : {A B : Type 0} {a : Production A} {b : Production B} → Whole a → Whole b → HangsBy a → HangsBy b → disjoint b.shape.starts a.shape.goes_on ≡ true → HangsBy (a & b)
and-hangs {A} {B} {a} {b} wa wb ha hb apart = record {
  hangs = turn-hangs wa.reads ha.hangs (λ x. wb.reads) (λ x. hb.hangs) (joins wa b.shape (λ x. b.part) (λ x. b.read) (λ x. wb.reads) (λ x. wb.full) apart);
}

pub made-hangs : {A B : Type 0} {a : Production A} (f : A → B) → HangsBy a → HangsBy (made f a)
made-hangs f h = record { hangs = shaped-hangs h.hangs (λ n x k t e. e) }

pub spanned-hangs : {A : Type 0} {a : Production A} → HangsBy a → HangsBy (spanned a)
spanned-hangs h = record { hangs = shaped-hangs h.hangs (λ n x k t e. e) }

pub scoped-hangs : {A : Type 0} {a : Production A} → HangsBy a → HangsBy (scoped a)
scoped-hangs h = record { hangs = shaped-hangs h.hangs (λ n x k t e. has-nameless hanging k n.scopes t refl ∙ e) }

-- either of two that are never empty
pub or-hangs-by : {A : Type 0} {a b : Production A} → Whole a → Whole b → HangsBy a → HangsBy b → a.shape.solid ≡ true → b.shape.solid ≡ true → disjoint b.shape.starts a.shape.starts ≡ true → HangsBy (a or b)
or-hangs-by {A} {a} {b} wa wb ha hb solid-a solid-b apart = record {
  hangs = or-hangs wa.reads ha.hangs wb.reads hb.hangs (or-parts wa wb solid-a apart) (λ n x m t h s e. absurd (wb.full solid-b n x m h));
}

-- at most one, where each hanging token that may begin it does
pub optional-hangs : {A : Type 0} {a : Production A} → Whole a → HangsBy a → a.shape.solid ≡ true → Begins a.part a.shape.starts → HangsBy (optional a)
optional-hangs {A} {a} w h solid begins =
    let none : Whole (nothing {A = Option A} None) = nothing-whole None in
    record {
      hangs = or-hangs (made-whole Some w).reads (made-hangs Some h).hangs none.reads (calm-hangs none refl).hangs (or-parts (made-whole Some w) none solid refl)
          (λ n x m t v s e. begins.alone n t s);
    }

-- ---- one as far as it goes, and then another that begins with what hangs

module _ {A B : Type 0} {a : Production A} {b : Production B} (wa : Whole a) (wb : Whole b) (ha : HangsBy a) (solid : a.shape.solid ≡ true) (within : subset b.shape.starts hanging ≡ true) where
  law : Far a.part b.part (has a.shape.starts) (has a.shape.goes_on) (has b.shape.starts) (has b.shape.goes_on) (has (a >& b).shape.goes_on) (has hanging)
  law = record {
    apart = λ k t h e. subset-in (code (kind k t)) b.shape.starts hanging within h;
    ends = λ m t h. out-right (code (kind m t)) a.shape.goes_on b.shape.goes_on h;
    ends_short = λ k y m t h e. out-left (code (kind m t)) a.shape.goes_on b.shape.goes_on e;
    solid = wa.full solid;
  }

  pub far-whole : Whole (a >& b)
  far-whole = record {
    reads = far wa.reads ha.hangs wb.reads law;
    full = λ e n x m h. wa.full solid n x.0 h.turn.between (subst (λ l. a.part.Spells n l x.0 h.turn.between) (left-nil h.turn.first h.turn.second h.turn.whole) h.turn.left);
  }

  pub far-hangs-by : HangsBy b → HangsBy (a >& b)
  far-hangs-by hb = record { hangs = far-hangs wa.reads ha.hangs wb.reads law hb.hangs }

pub far-good : {strict : Bool} {A B : Type 0} {a a' : Production A} {b b' : Production B} → Good strict a a' → Good strict b b' → HangsBy a → HangsBy a' → a.shape.solid ≡ true → subset b.shape.starts hanging ≡ true
    → Good strict (a >& b) (a' >& b')
far-good {strict} {A} {B} {a} {a'} {b} {b'} g h hang hang' solid within = record {
  low = far-whole g.low h.low hang solid within;
  high = far-whole g.high h.high hang' (subst (λ s. s.solid ≡ true) g.same solid) (subst (λ s. subset s.starts hanging ≡ true) h.same within);
  same = ap (λ s. record { starts = s.starts; goes_on = s.goes_on ++ b.shape.goes_on; solid = s.solid }) g.same
      ∙ ap (λ s. record { starts = a'.shape.starts; goes_on = a'.shape.goes_on ++ s.goes_on; solid = a'.shape.solid }) h.same;
  agree = turn-agrees (λ x. h.high.reads) g.agree (λ x. h.agree);
}

-- ---- what begins so in a scope of its own

pub begins-scoped : {A : Type 0} (a : Production A) (scope : Scope) (ks : Kinds) → Begins a.part ks → nameless ks ≡ true → Begins (scoped_with scope a).part ks
begins-scoped a scope ks b e = record { alone = λ n t h. b.alone (entered scope n) t (sym (has-nameless ks n (scope ∷ n.scopes) t e) ∙ h) }

pub begins-entered : {A : Type 0} (a : Production A) (ks : Kinds) → Begins a.part ks → Begins (scoped a).part ks
begins-entered a ks b = record { alone = λ n t h. b.alone (entered [] n) t (has-entered ks n t ∙ h) }
