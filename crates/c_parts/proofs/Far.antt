-- One part as far as it goes, and then another: no condition on what begins the second.
use Rattle.std.proofs.Common.{◌≡◌, ◌≤◌, Bool, true, false, cond, List, [], ◌∷◌, ◌++◌, ◌⊎◌, inl, inr, length, refl, sym, ap, ◌∙◌, subst, append_assoc, append-nil}
use Rattle.c_parts.specs.declared.lexeme.Lexeme.{Lexeme}
use Rattle.c_parts.specs.Scopes.{State}
use Rattle.c_parts.specs.Part.{Part, ◌&>◌, ◌⊔◌, shaped, Stops, ◌>&◌}
use Rattle.c_parts.specs.Reading.{Syntax, Deep, Answer, Took, Refused, Reader, Test, left_of, and_then, pure, ◌>>=◌, ahead, in_turn_by, in_turn, either, shape_of, reshape}
use Rattle.c_parts.proofs.Laws.{Taken, Sound, Reached, Opens, Reads, Solid, left-nil, shrinks, Within, Beyond, split, none-taken, stopped, left-second, turn-short, Joins, Parts}

pub stops-at-once : {X : Type 0} (p : Part X) (n : State) (us g rest : List Lexeme) → Stops p n us (g ++ rest) → Stops p n us g
stops-at-once p n us [] rest h = tt
stops-at-once p n us (t ∷ g) rest h = h

-- A whole p that a hanging token doesn't carry on is taken, whatever else that token could do after a p.
pub record Hangs {X : Type 0} (p : Part X) (hangs : Test) (r : Reader X) : Type 0 where
  pub maximal : (n : State) (us : List Lexeme) (x : X) (m : State) (t : Lexeme) (rest : List Lexeme) → p.Spells n us x m → hangs m t ≡ true
      → (p.Front n (us ++ (t ∷ [])) → ⊥) → r n (us ++ (t ∷ rest)) ≡ Took x (t ∷ rest) m

-- where no hanging token could go on, nothing is to be shown
pub calm : {X : Type 0} {p : Part X} {sp gp hangs : Test} {r : Reader X} → Reads p sp gp r → ((m : State) (t : Lexeme) → hangs m t ≡ true → gp m t ≡ false) → Hangs p hangs r
calm rp out = record { maximal = λ n us x m t rest h e st. rp.complete n us x m (t ∷ rest) h (out m t e) }

module _ {A B : Type 0} {p : Part A} {q : A → Part B} {sp gp : Test} {sq : A → Test} {gq starts goes_on hangs : Test} {r : Reader A} {s : A → Reader B}
    (rp : Reads p sp gp r) (hp : Hangs p hangs r) (rq : (x : A) → Reads (q x) (sq x) gq (s x)) (hq : (x : A) → Hangs (q x) hangs (s x)) (j : Joins p q sp gp sq gq starts goes_on) where
  turn-maximal-first : (n : State) (f g : List Lexeme) (x : A) (k : State) (y : B) (m : State) (t : Lexeme) (rest : List Lexeme) → p.Spells n f x k → (q x).Spells k g y m → hangs m t ≡ true
      → ((p &> q).Front n ((f ++ g) ++ (t ∷ [])) → ⊥) → r n (f ++ (g ++ (t ∷ rest))) ≡ Took x (g ++ (t ∷ rest)) k
  turn-maximal-first n f [] x k y m t rest h w e st =
      hp.maximal n f x k t rest h (subst (λ l. hangs l t ≡ true) ((rq x).empty k y m w) e) (λ v. st (inl (subst (λ l. p.Front n (l ++ (t ∷ []))) (sym (append-nil f)) v)))
  turn-maximal-first n f (u ∷ g) x k y m t rest h w e st =
      rp.complete n f x k (u ∷ (g ++ (t ∷ rest))) h (j.apart x k u ((rq x).begins k u g ((rq x).front k (u ∷ g) y m w)))

  turn-maximal-at : (n : State) (f g : List Lexeme) (x : A) (k : State) (y : B) (m : State) (t : Lexeme) (rest : List Lexeme) → p.Spells n f x k → (q x).Spells k g y m → hangs m t ≡ true
      → ((p &> q).Front n ((f ++ g) ++ (t ∷ [])) → ⊥) → in_turn_by r s n ((f ++ g) ++ (t ∷ rest)) ≡ Took (x, y) (t ∷ rest) m
  turn-maximal-at n f g x k y m t rest h w e st =
      ap (λ l. in_turn_by r s n l) (append_assoc f g (t ∷ rest))
      ∙ ap (λ a. and_then a (λ x. s x >>= λ y. pure (x, y))) (turn-maximal-first n f g x k y m t rest h w e st)
      ∙ ap (λ b. and_then b (λ y. pure (x, y)))
      ((hq x).maximal k g y m t rest w e (λ v. st (inr (record { first = f; second = g ++ (t ∷ []); value = x; between = k; whole = append_assoc f g (t ∷ []); left = h; right = v }))))

  pub turn-hangs : Hangs (p &> q) hangs (in_turn_by r s)
  turn-hangs = record {
    maximal = λ n us x m t rest h e st.
        ap (λ l. in_turn_by r s n (l ++ (t ∷ rest))) h.whole
        ∙ turn-maximal-at n h.first h.second x.0 h.between x.1 m t rest h.left h.right e (subst (λ l. (p &> q).Front n (l ++ (t ∷ [])) → ⊥) h.whole st);
  }

module _ {A : Type 0} {p q : Part A} {sp gp sq gq starts goes_on hangs : Test} {r s : Reader A} (rp : Reads p sp gp r) (hp : Hangs p hangs r) (rq : Reads q sq gq s) (hq : Hangs q hangs s)
    (j : Parts p q sp gp sq gq starts goes_on)
    -- a hanging token that p may begin with is a front of it, or q isn't empty
    (alone : (n : State) (x : A) (m : State) (t : Lexeme) → q.Spells n [] x m → sp n t ≡ true → hangs m t ≡ true → p.Front n (t ∷ [])) where
  or-maximal-left : (n : State) (us : List Lexeme) (x : A) (m : State) (t : Lexeme) (rest : List Lexeme) → p.Spells n us x m → hangs m t ≡ true → ((p ⊔ q).Front n (us ++ (t ∷ [])) → ⊥)
      → either sp r s n (us ++ (t ∷ rest)) ≡ Took x (t ∷ rest) m
  or-maximal-left n [] x m t rest h e st = absurd (j.solid n x m h)
  or-maximal-left n (u ∷ us) x m t rest h e st =
      ap (λ b. cond b (r n (u ∷ (us ++ (t ∷ rest)))) (s n (u ∷ (us ++ (t ∷ rest))))) (rp.begins n u us (rp.front n (u ∷ us) x m h))
      ∙ hp.maximal n (u ∷ us) x m t rest h e (λ v. st (inl v))

  none-begins : (n : State) (x : A) (m : State) (b : Bool) (t : Lexeme) → q.Spells n [] x m → hangs m t ≡ true → sp n t ≡ b → ((p ⊔ q).Front n (t ∷ []) → ⊥) → b ≡ false
  none-begins n x m true t h e b st = absurd (st (inl (alone n x m t h b e)))
  none-begins n x m false t h e b st = refl

  or-maximal-right : (n : State) (us : List Lexeme) (x : A) (m : State) (t : Lexeme) (rest : List Lexeme) → q.Spells n us x m → hangs m t ≡ true → ((p ⊔ q).Front n (us ++ (t ∷ [])) → ⊥)
      → either sp r s n (us ++ (t ∷ rest)) ≡ Took x (t ∷ rest) m
  or-maximal-right n [] x m t rest h e st =
      ap (λ b. cond b (r n (t ∷ rest)) (s n (t ∷ rest))) (none-begins n x m (sp n t) t h e refl st)
      ∙ hq.maximal n [] x m t rest h e (λ v. st (inr v))
  or-maximal-right n (u ∷ us) x m t rest h e st =
      ap (λ b. cond b (r n (u ∷ (us ++ (t ∷ rest)))) (s n (u ∷ (us ++ (t ∷ rest))))) (j.apart n u (rq.begins n u us (rq.front n (u ∷ us) x m h)))
      ∙ hq.maximal n (u ∷ us) x m t rest h e (λ v. st (inr v))

  pub or-hangs : Hangs (p ⊔ q) hangs (either sp r s)
  or-hangs = record { maximal = λ n us x m t rest h e st. elim h [ inl w ↦ or-maximal-left n us x m t rest w e st | inr w ↦ or-maximal-right n us x m t rest w e st ] }

pub shaped-hangs : {A B : Type 0} {b : State → State} {f : State → A → State → B} {g : State → A → State → State} {p : Part A} {hangs : Test} {r : Reader A} → Hangs p hangs r
    → ((n : State) (x : A) (k : State) (t : Lexeme) → hangs (g n x k) t ≡ true → hangs k t ≡ true) → Hangs (shaped b f g p) hangs (reshape b f g r)
shaped-hangs {A} {B} {b} {f} {g} {p} {hangs} {r} hp kept = record {
  maximal = λ n us y m t rest h e st.
      ap (λ a. shape_of f g n a) (hp.maximal (b n) us h.value h.after t rest h.of (kept n h.value h.after t (subst (λ k. hangs k t ≡ true) h.moved e)) st)
      ∙ ap (λ z. Took z (t ∷ rest) (g n h.value h.after)) (sym h.made) ∙ ap (λ k. Took y (t ∷ rest) k) (sym h.moved);
}

-- ---- the law

pub record Far {A B : Type 0} (p : Part A) (q : Part B) (sp gp sq gq goes_on hangs : Test) : Type 0 where
  -- what begins the second part doesn't carry the first on, or it hangs
  pub apart : (k : State) (t : Lexeme) → sq k t ≡ true → gp k t ≡ true → hangs k t ≡ true
  pub ends : (m : State) (t : Lexeme) → goes_on m t ≡ false → gq m t ≡ false
  pub ends_short : (k : State) (y : B) (m : State) (t : Lexeme) → q.Spells k [] y m → goes_on m t ≡ false → gp m t ≡ false
  pub solid : Solid p

module _ {A B : Type 0} {p : Part A} {q : Part B} {sp gp sq gq goes_on hangs : Test} {r : Reader A} {s : Reader B}
    (rp : Reads p sp gp r) (hp : Hangs p hangs r) (rq : Reads q sq gq s) (j : Far p q sp gp sq gq goes_on hangs) where
  abbrev follow : A → Reader (A × B)
  follow x = s >>= λ y. pure (x, y)

  far-sound-second : (n : State) (us : List Lexeme) (x : A) (after : List Lexeme) (k : State) (b : Answer B) → p.Spells n us x k → Stops p n us after → Sound q k after b
      → Sound (p >& q) n (us ++ after) (and_then b (λ y. pure (x, y)))
  far-sound-second n us x after k (Took y rest m) h st tq =
      record {
        taken = us ++ tq.taken;
        whole = ap (λ l. us ++ l) tq.whole ∙ sym (append_assoc us tq.taken rest);
        spells = record {
          turn = record { first = us; second = tq.taken; between = k; whole = refl; left = h; right = tq.spells };
          stops = stops-at-once p n us tq.taken rest (subst (λ l. Stops p n us l) tq.whole st);
        };
      }
  far-sound-second n us x after k (Refused why rest) h st tq = tt

  far-sound : (n : State) (ts : List Lexeme) (a : Answer A) → r n ts ≡ a → Sound p n ts a → Sound (p >& q) n ts (and_then a follow)
  far-sound n ts (Took x after k) e h =
      subst (λ l. Sound (p >& q) n l (and_then (s k after) (λ y. pure (x, y)))) (sym h.whole)
      (far-sound-second n h.taken x after k (s k after) h.spells (stopped rp n h.taken x after k (ap (λ l. r n l) (sym h.whole) ∙ e)) (rq.sound k after))
  far-sound n ts (Refused why rest) e h = tt

  far-front : (n : State) (us : List Lexeme) (x : A) (after : List Lexeme) (k : State) (rest : List Lexeme) → p.Spells n us x k → Stops p n us after → Reached q k after rest
      → Reached (p >& q) n (us ++ after) rest
  far-front n us x after k rest h st tq =
      record {
        taken = us ++ tq.taken;
        whole = ap (λ l. us ++ l) tq.whole ∙ sym (append_assoc us tq.taken rest);
        front = inr (record {
          turn = record { first = us; second = tq.taken; value = x; between = k; whole = refl; left = h; right = tq.front };
          stops = stops-at-once p n us tq.taken rest (subst (λ l. Stops p n us l) tq.whole st);
        });
      }

  far-reached : (n : State) (ts : List Lexeme) (a : Answer A) → r n ts ≡ a → Sound p n ts a → Reached p n ts (left_of a)
      → Reached (p >& q) n ts (left_of {X = A × B} (and_then a follow))
  far-reached n ts (Took x after k) e h w =
      subst (λ l. Reached (p >& q) n ts l) (sym (left-second (λ z. rq) x (s k after)))
      (subst (λ l. Reached (p >& q) n l (left_of (s k after))) (sym h.whole)
      (far-front n h.taken x after k (left_of (s k after)) h.spells (stopped rp n h.taken x after k (ap (λ l. r n l) (sym h.whole) ∙ e)) (rq.reached k after)))
  far-reached n ts (Refused why rest) e h w = record { taken = w.taken; whole = w.whole; front = inl w.front }

  far-opens-second : (n : State) (ts : List Lexeme) (x : A) (after : List Lexeme) (k : State) (b : Answer B) → Taken p n ts x after k → Reached q k after (left_of b)
      → Opens {X = A × B} sp n ts (and_then b (λ y. pure (x, y)))
  far-opens-second n ts x after k (Took y rest m) tp tq = tt
  far-opens-second n ts x after k (Refused Syntax rest) tp tq = tt
  far-opens-second n ts x after k (Refused Deep rest) tp tq = λ e.
      let none : tp.taken ≡ [] = none-taken ts tp.taken after tp.whole (subst (λ l. length l ≤ length after) (sym e) (shrinks tq)) in
      absurd (j.solid n x k (subst (λ l. p.Spells n l x k) none tp.spells))

  far-opens : (n : State) (ts : List Lexeme) (a : Answer A) → Sound p n ts a → Opens sp n ts a → Opens sp n ts (and_then a follow)
  far-opens n ts (Took x after k) h o = far-opens-second n ts x after k (s k after) h (rq.reached k after)
  far-opens n ts (Refused Syntax rest) h o = tt
  far-opens n ts (Refused Deep rest) h o = o

  takes-by : (n : State) (f : List Lexeme) (x : A) (k : State) (t : Lexeme) (rest : List Lexeme) (b : Bool) → gp k t ≡ b → p.Spells n f x k → sq k t ≡ true
      → (p.Front n (f ++ (t ∷ [])) → ⊥) → r n (f ++ (t ∷ rest)) ≡ Took x (t ∷ rest) k
  takes-by n f x k t rest true b h e st = hp.maximal n f x k t rest h (j.apart k t e b) st
  takes-by n f x k t rest false b h e st = rp.complete n f x k (t ∷ rest) h b

  -- the first part, with what follows it
  takes : (n : State) (f : List Lexeme) (x : A) (k : State) (t : Lexeme) (g rest : List Lexeme) → p.Spells n f x k → q.Front k (t ∷ g) → (p.Front n (f ++ (t ∷ [])) → ⊥)
      → in_turn r s n ((f ++ (t ∷ g)) ++ rest) ≡ and_then (s k ((t ∷ g) ++ rest)) (λ y. pure (x, y))
  takes n f x k t g rest h w st =
      ap (λ l. in_turn r s n l) (append_assoc f (t ∷ g) rest)
      ∙ ap (λ a. and_then a follow) (takes-by n f x k t (g ++ rest) (gp k t) refl h (rq.begins k t g w) st)

  quiet : (m : State) (rest : List Lexeme) → ahead goes_on m rest ≡ false → ahead gq m rest ≡ false
  quiet m [] e = refl
  quiet m (t ∷ rest) e = j.ends m t e

  short : (k : State) (y : B) (m : State) (rest : List Lexeme) → q.Spells k [] y m → ahead goes_on m rest ≡ false → ahead gp k rest ≡ false
  short k y m [] w e = refl
  short k y m (t ∷ rest) w e = subst (λ l. gp l t ≡ false) (rq.empty k y m w) (j.ends_short k y m t w e)

  far-complete-at : (n : State) (f g : List Lexeme) (x : A) (k : State) (y : B) (m : State) (rest : List Lexeme) → p.Spells n f x k → q.Spells k g y m → Stops p n f g
      → ahead goes_on m rest ≡ false → in_turn r s n ((f ++ g) ++ rest) ≡ Took (x, y) rest m
  far-complete-at n f [] x k y m rest h w st e =
      ap (λ l. in_turn r s n l) (append_assoc f [] rest)
      ∙ ap (λ a. and_then a follow) (rp.complete n f x k rest h (short k y m rest w e))
      ∙ ap (λ b. and_then b (λ y. pure (x, y))) (rq.complete k [] y m rest w (quiet m rest e))
  far-complete-at n f (t ∷ g) x k y m rest h w st e =
      takes n f x k t g rest h (rq.front k (t ∷ g) y m w) st
      ∙ ap (λ b. and_then b (λ y. pure (x, y))) (rq.complete k (t ∷ g) y m rest w (quiet m rest e))

  far-no-further : (n : State) (us vs f g : List Lexeme) (x : A) (k : State) → us ≡ f ++ g → p.Spells n f x k → q.Front k g → Stops p n f g
      → length (left_of (in_turn r s n (us ++ vs))) ≤ length vs
  far-no-further n us vs f [] x k e h w st = turn-short (λ z. rq) rp n us vs (subst (λ l. p.Front n l) (sym (e ∙ append-nil f)) (rp.front n f x k h))
  far-no-further n us vs f (t ∷ g) x k e h w st =
      let same : left_of (in_turn r s n (us ++ vs)) ≡ left_of (s k ((t ∷ g) ++ vs)) =
      ap (λ l. left_of (in_turn r s n (l ++ vs))) e
      ∙ ap left_of (takes n f x k t g vs h w st)
      ∙ left-second (λ z. rq) x (s k ((t ∷ g) ++ vs)) in
      subst (λ l. length l ≤ length vs) (sym same) (rq.no_further k (t ∷ g) vs w)

  far-begins : (n : State) (t : Lexeme) (us f g : List Lexeme) (x : A) (k : State) → t ∷ us ≡ f ++ g → p.Spells n f x k → sp n t ≡ true
  far-begins n t us [] g x k e h = absurd (j.solid n x k h)
  far-begins n t us (u ∷ f) g x k e h = let same : t ≡ u = cc in subst (λ l. sp n l ≡ true) (sym same) (rp.begins n u f (rp.front n (u ∷ f) x k h))

  far-closed-at : (n : State) (us vs f g : List Lexeme) (x : A) (k : State) → p.Spells n f x k → q.Front k g → Stops p n f g → Within us f ⊎ Beyond us vs f g → (p >& q).Front n us
  far-closed-at n us vs f g x k h w st z = elim z [
    | inl y ↦ inl (rp.closed n us y.more (subst (λ l. p.Front n l) y.whole (rp.front n f x k h)))
    | inr y ↦ inr (record {
      turn = record { first = f; second = y.more; value = x; between = k; whole = y.whole; left = h; right = rq.closed k y.more vs (subst (λ l. q.Front k l) y.rest w) };
      stops = stops-at-once p n f y.more vs (subst (λ l. Stops p n f l) y.rest st);
    })
  ]

  pub far : Reads (p >& q) sp goes_on (in_turn r s)
  far = record {
    sound = λ n ts. far-sound n ts (r n ts) refl (rp.sound n ts);
    complete = λ n us x m rest h e.
        ap (λ l. in_turn r s n (l ++ rest)) h.turn.whole
        ∙ far-complete-at n h.turn.first h.turn.second x.0 h.turn.between x.1 m rest h.turn.left h.turn.right h.stops e;
    reached = λ n ts. far-reached n ts (r n ts) refl (rp.sound n ts) (rp.reached n ts);
    no_further = λ n us vs h. elim h [
      | inl w ↦ turn-short (λ z. rq) rp n us vs w
      | inr w ↦ far-no-further n us vs w.turn.first w.turn.second w.turn.value w.turn.between w.turn.whole w.turn.left w.turn.right w.stops
    ];
    opens = λ n ts. far-opens n ts (r n ts) (rp.sound n ts) (rp.opens n ts);
    begins = λ n t us h. elim h [ inl w ↦ rp.begins n t us w | inr w ↦ far-begins n t us w.turn.first w.turn.second w.turn.value w.turn.between w.turn.whole w.turn.left ];
    front = λ n us x m h. inr (record {
      turn = record {
        first = h.turn.first;
        second = h.turn.second;
        value = x.0;
        between = h.turn.between;
        whole = h.turn.whole;
        left = h.turn.left;
        right = rq.front h.turn.between h.turn.second x.1 m h.turn.right;
      };
      stops = h.stops;
    });
    empty = λ n x m h. absurd (j.solid n x.0 h.turn.between (subst (λ l. p.Spells n l x.0 h.turn.between) (left-nil h.turn.first h.turn.second h.turn.whole) h.turn.left));
    nil = λ n. inl (rp.nil n);
    keeps = λ n us x m h. rq.keeps h.turn.between h.turn.second x.1 m h.turn.right ∙ rp.keeps n h.turn.first x.0 h.turn.between h.turn.left;
    closed = λ n us vs h. elim h [
      | inl w ↦ inl (rp.closed n us vs w)
      | inr w ↦ far-closed-at n us vs w.turn.first w.turn.second w.turn.value w.turn.between w.turn.left w.turn.right w.stops (split us vs w.turn.first w.turn.second w.turn.whole)
    ];
  }

  module _ (hq : Hangs q hangs s) where
    far-stop-first : (n : State) (f g : List Lexeme) (t : Lexeme) → Stops p n f g → ((p >& q).Front n ((f ++ g) ++ (t ∷ [])) → ⊥) → Stops p n f (g ++ (t ∷ []))
    far-stop-first n f [] t st w = λ v. w (inl (subst (λ l. p.Front n (l ++ (t ∷ []))) (sym (append-nil f)) v))
    far-stop-first n f (u ∷ g) t st w = st

    far-stop-second : (n : State) (f g : List Lexeme) (x : A) (k : State) (t : Lexeme) → p.Spells n f x k → Stops p n f g → ((p >& q).Front n ((f ++ g) ++ (t ∷ [])) → ⊥)
        → q.Front k (g ++ (t ∷ [])) → ⊥
    far-stop-second n f g x k t h st w = λ v. w (inr (record {
      turn = record { first = f; second = g ++ (t ∷ []); value = x; between = k; whole = append_assoc f g (t ∷ []); left = h; right = v };
      stops = far-stop-first n f g t st w;
    }))

    far-maximal-first : (n : State) (f g : List Lexeme) (x : A) (k : State) (y : B) (m : State) (t : Lexeme) (rest : List Lexeme) → p.Spells n f x k → q.Spells k g y m → hangs m t ≡ true
        → Stops p n f g → ((p >& q).Front n ((f ++ g) ++ (t ∷ [])) → ⊥) → r n (f ++ (g ++ (t ∷ rest))) ≡ Took x (g ++ (t ∷ rest)) k
    far-maximal-first n f [] x k y m t rest h w e st over =
        hp.maximal n f x k t rest h (subst (λ l. hangs l t ≡ true) (rq.empty k y m w) e) (far-stop-first n f [] t st over)
    far-maximal-first n f (u ∷ g) x k y m t rest h w e st over =
        takes-by n f x k u (g ++ (t ∷ rest)) (gp k u) refl h (rq.begins k u g (rq.front k (u ∷ g) y m w)) st

    far-maximal-at : (n : State) (f g : List Lexeme) (x : A) (k : State) (y : B) (m : State) (t : Lexeme) (rest : List Lexeme) → p.Spells n f x k → q.Spells k g y m → hangs m t ≡ true
        → Stops p n f g → ((p >& q).Front n ((f ++ g) ++ (t ∷ [])) → ⊥) → in_turn r s n ((f ++ g) ++ (t ∷ rest)) ≡ Took (x, y) (t ∷ rest) m
    far-maximal-at n f g x k y m t rest h w e st over =
        ap (λ l. in_turn r s n l) (append_assoc f g (t ∷ rest))
        ∙ ap (λ a. and_then a follow) (far-maximal-first n f g x k y m t rest h w e st over)
        ∙ ap (λ b. and_then b (λ y. pure (x, y))) (hq.maximal k g y m t rest w e (far-stop-second n f g x k t h st over))

    pub far-hangs : Hangs (p >& q) hangs (in_turn r s)
    far-hangs = record {
      maximal = λ n us x m t rest h e over.
          ap (λ l. in_turn r s n (l ++ (t ∷ rest))) h.turn.whole
          ∙ far-maximal-at n h.turn.first h.turn.second x.0 h.turn.between x.1 m t rest h.turn.left h.turn.right e h.stops
          (subst (λ l. (p >& q).Front n (l ++ (t ∷ [])) → ⊥) h.turn.whole over);
    }
