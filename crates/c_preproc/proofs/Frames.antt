-- Frames: what holds of those that are open after each step, and what they have still to give.
use Rattle.std.proofs.Common.{◌≡◌, ℕ, zero, suc, ◌+◌, ◌<◌, ◌≤◌, Bool, true, false, IsTrue, List, [], ◌∷◌, ◌++◌, length, drop, take, Some, refl, sym, ap, ◌∙◌, subst, arith, append_assoc, length-append}
use Rattle.std.specs.List.{flat_map, sum_by}
use Rattle.std.proofs.lemmas.Bool.{false≢true}
use Rattle.std.proofs.lemmas.List.{take-append-le, drop-append-le, take-append-drop, drop_all, take_all, length-take-le}
use Rattle.std.proofs.lemmas.List.Sums.{sum_by-cons}
use Rattle.c_lexer.specs.declared.token.Token.{Token}
use Rattle.c_preproc.specs.declared.expander.Frame.{Frame}
use Rattle.c_preproc.specs.Texts.{text_of}
use Rattle.c_preproc.specs.Macros.{without, replacement_of}
use Rattle.c_preproc.specs.Code.Table.{IsIndexed, body_at, name_at}
use Rattle.c_preproc.specs.Code.Expander.{Setting, LeavesOut, NameYields, Yields, AreAt, AreTraced, AreWaiting, but_for, effort_of, entries_of, entry_of, is_one_of, left_of, macros_inside, macros_of, taint, work_of}
use Rattle.std.specs.Option.{option_map}
use Rattle.c_preproc.proofs.Efforts.{effort_inside}
use Rattle.c_preproc.proofs.LeftOut.{body_there, but_for_open, entry_leads, goes, leaves_out_more, named_there}
use Rattle.c_preproc.proofs.Yields.{AtLeast, TokenYields, entry_yields, token_yields, yields_more, yields_nothing, yields_push}

-- ---- parts of a list

pub take_take : {X : Type 0} (n m : ℕ) (xs : List X) → n ≤ m → take n (take m xs) ≡ take n xs
take_take zero m xs h = refl
take_take (suc n) zero xs h = absurd (omega arith)
take_take (suc n) (suc m) [] h = refl
take_take (suc n) (suc m) (x ∷ xs) h = ap (λ ys. x ∷ ys) (take_take n m xs (omega arith))

pub drop_rest : {X : Type 0} (n m : ℕ) (xs : List X) → n ≤ m → m ≤ length xs → drop n (take m xs) ++ drop m xs ≡ drop n xs
drop_rest n m xs h g =
    let size : length (take m xs) ≡ m = length-take-le m xs g in
    sym (drop-append-le n (take m xs) (drop m xs) (omega arith)) ∙ ap (drop n) (take-append-drop m xs)

-- ---- what holds of frames

waiting_more : (s : Setting) (kept more : ℕ → Bool) → AtLeast kept more → (frames : List Frame) (entry : ℕ) (tokens : List Token) → AreWaiting s kept entry frames tokens → AreWaiting s more entry frames tokens
waiting_more s kept more least [] entry tokens h = tt
waiting_more s kept more least (f ∷ outer) entry tokens h =
    let at = h.0.2 in (
      (h.0.0, h.0.1, record { opened = at.opened; before = at.before; taken = at.taken; clean = λ clean. yields_more s kept more _ _ least (at.clean clean) }),
      waiting_more s kept more least outer f.entry (take f.start tokens) h.1,
    )

module _ (s : Setting) (kept : ℕ → Bool) (t : Token) (f : Frame) (outer : List Frame) (tokens : List Token) (at : AreAt s kept t (f ∷ outer) tokens) where
  -- tokens were put out in place of the token
  pub traced_put : (more : List Token) → (IsTrue f.clean → TokenYields s kept t more) → AreTraced s kept (f ∷ outer) (tokens ++ more)
  traced_put more one =
      let within = at.0.opened.within in (
        record {
          opened = record { defined = at.0.opened.defined; within = omega (arith, length-append tokens more) };
          clean = λ clean.
              subst (λ body. Yields s kept body (drop f.start (tokens ++ more))) (sym at.0.taken)
              (subst (λ out. Yields s kept (at.0.before ++ t ∷ []) out) (sym (drop-append-le f.start tokens more within))
              (yields_push s kept at.0.before (drop f.start tokens) more t (at.0.clean clean) (one clean)));
        },
        subst (λ before. AreWaiting s kept f.entry outer before) (sym (take-append-le f.start tokens more within)) at.1,
      )

  -- the same, where it is a hidden name
  pub traced_hidden : (more : List Token) → AreTraced s kept (taint (f ∷ outer)) (tokens ++ more)
  traced_hidden more =
      let within = at.0.opened.within in (
        record {
          opened = record { defined = at.0.opened.defined; within = omega (arith, length-append tokens more) };
          clean = λ clean. absurd (false≢true clean);
        },
        subst (λ before. AreWaiting s kept f.entry outer before) (sym (take-append-le f.start tokens more within)) at.1,
      )

  -- its entry was opened
  pub traced_open : IsIndexed s.places s.entries → (entry : ℕ) → entry_of s t ≡ Some entry → AreTraced s kept (record { entry = entry; next = 0; start = length tokens; clean = true } ∷ f ∷ outer) tokens
  traced_open indexed entry names =
      let leads = entry_leads s t entry names in
      let all : take (length tokens) tokens ≡ tokens = take_all (length tokens) tokens (omega arith) in (
        record {
          opened = record {
            defined = ap s.places (named_there s.places s.entries indexed (text_of s.bytes t) entry leads) ∙ leads;
            within = omega arith;
          };
          clean = λ clean. subst (λ out. Yields s kept [] out) (sym (drop_all (length tokens) tokens (omega arith))) (yields_nothing s kept);
        },
        subst (λ before. AreWaiting s kept entry (f ∷ outer) before) (sym all) ((t, names, at.0), at.1),
      )

-- the innermost frame was closed, where its expansion is kept
pub traced_kept : (s : Setting) (kept more : ℕ → Bool) → AtLeast kept more → (g : Frame) (outer : List Frame) (tokens : List Token) → AreTraced s kept (g ∷ outer) tokens → NameYields s more g.entry (drop g.start tokens) → AreTraced s more outer tokens
traced_kept s kept more least g [] tokens traced named = tt
traced_kept s kept more least g (f ∷ outer) tokens traced named =
    let at = traced.1.0.2 in
    let start = traced.0.opened.within in
    let size : length (take g.start tokens) ≡ g.start = length-take-le g.start tokens start in
    let within = at.opened.within in
    let before : f.start ≤ g.start = omega arith in (
      record {
        opened = record { defined = at.opened.defined; within = omega arith };
        clean = λ clean.
            subst (λ body. Yields s more body (drop f.start tokens)) (sym at.taken)
            (subst (λ out. Yields s more (at.before ++ traced.1.0.0 ∷ []) out) (drop_rest f.start g.start tokens before start)
            (yields_push s more at.before (drop f.start (take g.start tokens)) (drop g.start tokens) traced.1.0.0 (yields_more s kept more _ _ least (at.clean clean))
            (token_yields s more traced.1.0.0 g.entry (drop g.start tokens) traced.1.0.1 named)));
      },
      subst (λ front. AreWaiting s more f.entry outer front) (take_take f.start g.start tokens before) (waiting_more s kept more least outer f.entry _ traced.1.1),
    )

-- the same, where it isn't
pub traced_tainted : (s : Setting) (kept : ℕ → Bool) (g : Frame) (outer : List Frame) (tokens : List Token) → AreTraced s kept (g ∷ outer) tokens → AreTraced s kept (taint outer) tokens
traced_tainted s kept g [] tokens traced = tt
traced_tainted s kept g (f ∷ outer) tokens traced =
    let at = traced.1.0.2 in
    let start = traced.0.opened.within in
    let size : length (take g.start tokens) ≡ g.start = length-take-le g.start tokens start in
    let within = at.opened.within in
    let before : f.start ≤ g.start = omega arith in (
      record {
        opened = record { defined = at.opened.defined; within = omega arith };
        clean = λ clean. absurd (false≢true clean);
      },
      subst (λ front. AreWaiting s kept f.entry outer front) (take_take f.start g.start tokens before) traced.1.1,
    )

-- all its tokens are replaced
pub traced_whole : (s : Setting) → IsIndexed s.places s.entries → (kept more : ℕ → Bool) (g : Frame) (outer : List Frame) (tokens : List Token) → AreTraced s kept (g ∷ outer) tokens → IsTrue g.clean → length (body_at s.entries g.entry) ≤ g.next
    → kept g.entry ≡ false → more g.entry ≡ true → AtLeast kept more → NameYields s more g.entry (drop g.start tokens)
traced_whole s indexed kept more g outer tokens traced clean done old new least =
    entry_yields s indexed kept more g.entry (drop g.start tokens) old new least
    (subst (λ body. Yields s kept body (drop g.start tokens)) (take_all g.next (body_at s.entries g.entry) done) (traced.0.clean clean))

-- ---- the macros inside of frames

abbrev AreDefined : Setting → List Frame → Type 0
AreDefined s [] = Unit {0}
AreDefined s (f ∷ outer) = (s.places (name_at s.entries f.entry) ≡ Some f.entry) × AreDefined s outer

waiting_defined : (s : Setting) (kept : ℕ → Bool) (frames : List Frame) (entry : ℕ) (tokens : List Token) → AreWaiting s kept entry frames tokens → AreDefined s frames
waiting_defined s kept [] entry tokens h = tt
waiting_defined s kept (f ∷ outer) entry tokens h = (h.0.2.opened.defined, waiting_defined s kept outer f.entry _ h.1)

pub at_defined : (s : Setting) (kept : ℕ → Bool) (t : Token) (frames : List Frame) (tokens : List Token) → AreAt s kept t frames tokens → AreDefined s frames
at_defined s kept t [] tokens h = absurd h
at_defined s kept t (f ∷ outer) tokens h = (h.0.opened.defined, waiting_defined s kept outer f.entry _ h.1)

pub inside_leaves_out : (s : Setting) → IsIndexed s.places s.entries → LeavesOut s [] (macros_of s) → (frames : List Frame) → AreDefined s frames → LeavesOut s (entries_of frames) (macros_inside s frames)
unfolding macros_inside
inside_leaves_out s indexed first [] h = first
inside_leaves_out s indexed first (f ∷ outer) h =
    leaves_out_more s indexed (entries_of outer) (macros_inside s outer) (name_at s.entries f.entry) f.entry h.0 (inside_leaves_out s indexed first outer h.1)

-- ---- what is left

-- the frame before its next token is taken
abbrev pub at_index : Frame → ℕ → Frame
at_index f n = record f { next = n }

pub left_token : (s : Setting) (f : Frame) (outer : List Frame) (t : Token) → drop f.next (body_at s.entries f.entry) ≡ t ∷ drop (f.next + 1) (body_at s.entries f.entry)
    → replacement_of s.bytes (macros_inside s (at_index f (f.next + 1) ∷ outer)) t ++ left_of s (at_index f (f.next + 1) ∷ outer) ≡ left_of s (f ∷ outer)
unfolding left_of macros_inside
left_token s f outer t h =
    sym (append_assoc (replacement_of s.bytes (macros_inside s (f ∷ outer)) t) _ (left_of s outer))
    ∙ ap (λ ts. flat_map (replacement_of s.bytes (macros_inside s (f ∷ outer))) ts ++ left_of s outer) (sym h)

pub work_token : (s : Setting) (f : Frame) (outer : List Frame) (t : Token) → drop f.next (body_at s.entries f.entry) ≡ t ∷ drop (f.next + 1) (body_at s.entries f.entry)
    → effort_of s.bytes (macros_inside s (at_index f (f.next + 1) ∷ outer)) t + work_of s (at_index f (f.next + 1) ∷ outer) ≡ work_of s (f ∷ outer)
unfolding work_of macros_inside
work_token s f outer t h =
    let effort = effort_of s.bytes (macros_inside s (f ∷ outer)) in
    let split : sum_by effort (t ∷ drop (f.next + 1) (body_at s.entries f.entry)) ≡ effort t + sum_by effort (drop (f.next + 1) (body_at s.entries f.entry)) = sum_by-cons effort t (drop (f.next + 1) (body_at s.entries f.entry)) in
    rw h (omega (arith, split))

pub left_closed : (s : Setting) (g : Frame) (outer : List Frame) → length (body_at s.entries g.entry) ≤ g.next → left_of s (g ∷ outer) ≡ left_of s outer
unfolding left_of
left_closed s g outer h = ap (λ ts. flat_map (replacement_of s.bytes (macros_inside s (g ∷ outer))) ts ++ left_of s outer) (drop_all g.next (body_at s.entries g.entry) h)

pub work_closed : (s : Setting) (g : Frame) (outer : List Frame) → work_of s outer < work_of s (g ∷ outer)
unfolding work_of
work_closed s g outer = omega arith

pub left_tainted : (s : Setting) (frames : List Frame) → left_of s (taint frames) ≡ left_of s frames
unfolding left_of macros_inside
left_tainted s [] = refl
left_tainted s (f ∷ outer) = refl

pub work_tainted : (s : Setting) (frames : List Frame) → work_of s (taint frames) ≡ work_of s frames
unfolding work_of macros_inside
work_tainted s [] = refl
work_tainted s (f ∷ outer) = refl

-- a frame for the entry of a token gives what stands for the token
pub left_opened : (s : Setting) → IsIndexed s.places s.entries → LeavesOut s [] (macros_of s) → (frames : List Frame) → AreDefined s frames → (t : Token) (entry : ℕ) → entry_of s t ≡ Some entry → is_one_of (entries_of frames) entry ≡ false → (start : ℕ)
    → left_of s (record { entry = entry; next = 0; start = start; clean = true } ∷ frames) ≡ replacement_of s.bytes (macros_inside s frames) t ++ left_of s frames
unfolding left_of macros_inside
left_opened s indexed first frames defined t entry names closed start =
    let leaves = inside_leaves_out s indexed first frames defined in
    let named = named_there s.places s.entries indexed (text_of s.bytes t) entry (entry_leads s t entry names) in
    ap (λ name. flat_map (replacement_of s.bytes (without (macros_inside s frames) name)) (body_at s.entries entry) ++ left_of s frames) named
    ∙ ap (λ ts. ts ++ left_of s frames) (sym (goes s (entries_of frames) (macros_inside s frames) leaves t entry (ap (but_for (entries_of frames)) names ∙ but_for_open (entries_of frames) entry closed)))

pub work_opened : (s : Setting) → IsIndexed s.places s.entries → LeavesOut s [] (macros_of s) → (frames : List Frame) → AreDefined s frames → (t : Token) (entry : ℕ) → entry_of s t ≡ Some entry → is_one_of (entries_of frames) entry ≡ false → (start : ℕ)
    → work_of s (record { entry = entry; next = 0; start = start; clean = true } ∷ frames) < effort_of s.bytes (macros_inside s frames) t + work_of s frames
unfolding work_of macros_inside
work_opened s indexed first frames defined t entry names closed start =
    let leaves = inside_leaves_out s indexed first frames defined in
    let named = named_there s.places s.entries indexed (text_of s.bytes t) entry (entry_leads s t entry names) in
    let body = body_there s (entries_of frames) (macros_inside s frames) leaves t ∙ ap (option_map (body_at s.entries)) (ap (but_for (entries_of frames)) names ∙ but_for_open (entries_of frames) entry closed) in
    let more = effort_inside s.bytes (macros_inside s frames) t (body_at s.entries entry) body in
    let same : sum_by (effort_of s.bytes (without (macros_inside s frames) (name_at s.entries entry))) (body_at s.entries entry) ≡ sum_by (effort_of s.bytes (without (macros_inside s frames) (text_of s.bytes t))) (body_at s.entries entry) =
    ap (λ name. sum_by (effort_of s.bytes (without (macros_inside s frames) name)) (body_at s.entries entry)) named in
    omega (arith, more, same)
