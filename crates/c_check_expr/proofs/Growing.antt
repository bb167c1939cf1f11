-- Lists that are only added to: the state before is a beginning of the state after.
use Rattle.std.proofs.Common.{◌≡◌, ℕ, ◌≤◌, List, ◌++◌, length, take, refl, sym, ap, ◌∙◌, arith}
use Rattle.std.proofs.lemmas.List.{take_all, take_at, take-take, length-take}
use Rattle.std.specs.Prelude.{reverse, Result, Ok, Err, OnOk, IsErrAnd}
use Rattle.c_tree.specs.declared.declared.Declared.{Declared}
use Rattle.c_expr_rules.specs.Outcomes.{unevaluated}
use Rattle.c_expr_rules.specs.declared.state.Literal.{Literal}
use Rattle.c_expr_rules.specs.Views.{Grows, IsMarkOf, seen_state}
use Rattle.c_expr_rules.specs.declared.state.Mark.{Mark}
use Rattle.c_expr_rules.specs.declared.state.State.{State}

all_kept : {A : Type 0} (xs : List A) → take (length xs) xs ≡ xs
all_kept xs = let h : length xs ≤ length xs = omega arith in take_all (length xs) xs h

-- what is added stands behind
pub added_kept : {A : Type 0} (xs more : List A) → take (length xs) (xs ++ more) ≡ xs
added_kept xs more = take_at xs more (length xs) refl

-- a beginning is no longer than the list
no_longer : {A : Type 0} (a b : List A) → take (length a) b ≡ a → length a ≤ length b
no_longer a b p = let e = ap length p in omega (arith, e, length-take (length a) b)

kept_on : {A : Type 0} (a b c : List A) → take (length a) b ≡ a → take (length b) c ≡ b → take (length a) c ≡ a
kept_on a b c p q = sym (take-take (length a) (length b) c (no_longer a b p)) ∙ ap (take (length a)) q ∙ p

pub stays : (s : State) → Grows s s
stays s =
    record {
      depth = refl;
      used = all_kept s.used.items;
      taken = all_kept s.taken.items;
      literals = all_kept s.literals.items;
    }

pub grows_on : (s t u : State) → Grows s t → Grows t u → Grows s u
grows_on s t u g h =
    record {
      depth = h.depth ∙ g.depth;
      used = kept_on s.used.items t.used.items u.used.items g.used h.used;
      taken = kept_on s.taken.items t.taken.items u.taken.items g.taken h.taken;
      literals = kept_on s.literals.items t.literals.items u.literals.items g.literals h.literals;
    }

-- from a state to what a call left, where it didn't fail
pub ok_on : {T E : Type 0} (r : Result T E) (s t u : State) → Grows s t → OnOk r (Grows t u) → OnOk r (Grows s u)
ok_on (Ok x) s t u g h = grows_on s t u g h
ok_on (Err e) s t u g h = h

-- what holds in any case holds where a call didn't fail
pub on_any : {T E : Type 0} (r : Result T E) (s t : State) → Grows s t → OnOk r (Grows s t)
on_any (Ok x) s t g = g
on_any (Err e) s t g = tt

-- nothing is promised of a call that failed
pub err_on : {T E : Type 0} (Q : E → Type 0) (r : Result T E) (s t : State) → IsErrAnd r Q → OnOk r (Grows s t)
err_on Q (Ok x) s t h = absurd h
err_on Q (Err e) s t h = tt

-- ---- an operand that isn't evaluated is taken back

four_same :
    {A B C D R : Type 0} (f : A → B → C → D → R) (a a2 : A) (b b2 : B) (c c2 : C) (d d2 : D) → a ≡ a2 → b ≡ b2 → c ≡ c2 → d ≡ d2 → f a b c d ≡ f a2 b2 c2 d2
four_same f a a2 b b2 c c2 d d2 p q r s = ap (λ x. f x b c d) p ∙ ap (λ x. f a2 x c d) q ∙ ap (λ x. f a2 b2 x d) r ∙ ap (λ x. f a2 b2 c2 x) s

-- what a list had before, where it is cut to that length
cut_back : {A : Type 0} (a b c : List A) (n : ℕ) → c ≡ take n b → n ≡ length a → take (length a) b ≡ a → c ≡ a
cut_back a b c n p q r = p ∙ ap (λ k. take k b) q ∙ r

pub taken_back :
    (before old new : State) (mark : Mark) → IsMarkOf before mark → Grows before old →
    new ≡ record old { next_static = mark.next_static; literals = new.literals; used = new.used; taken = new.taken } →
    new.literals.items ≡ take mark.literals old.literals.items → new.used.items ≡ take mark.used old.used.items → new.taken.items ≡ take mark.taken old.taken.items →
    seen_state new ≡ unevaluated (seen_state before) (seen_state old)
taken_back before old new mark m g e l u t =
    ap seen_state e
    ∙ four_same (λ (n : ℕ) (ls : List Literal) (us : List Declared) (ts : List ℕ). record (seen_state old) { next_static = n; literals = reverse ls; used = reverse us; taken = reverse ts })
    mark.next_static before.next_static new.literals.items before.literals.items new.used.items before.used.items new.taken.items before.taken.items
    m.next_static
    (cut_back before.literals.items old.literals.items new.literals.items mark.literals l m.literals g.literals)
    (cut_back before.used.items old.used.items new.used.items mark.used u m.used g.used)
    (cut_back before.taken.items old.taken.items new.taken.items mark.taken t m.taken g.taken)
