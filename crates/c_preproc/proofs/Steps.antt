-- Steps of an expansion: what holds after each.
use Rattle.std.proofs.Common.{◌≡◌, ℕ, ◌+◌, ◌<◌, ◌≤◌, ◌||◌, ◌==◌, Bool, true, false, cond, IsTrue, List, [], ◌∷◌, ◌++◌, length, set, drop, take, Option, Some, None, is_some, get_or, Vec, Result, Ok, Err, IfOk, refl, sym, ap, ◌∙◌, subst, arith, append_assoc, length-append, eq-eqb, map}
use Rattle.std.specs.Prelude.{reverse}
use Rattle.std.specs.declared.alloc.Global.{Global}
use Rattle.std.specs.List.{slice_get}
use Rattle.std.specs.declared.alloc.AllocError.{AllocError}
use Rattle.std.proofs.lemmas.Bool.{false≢true}
use Rattle.std.proofs.lemmas.Bool.Decides.{nat_tests}
use Rattle.std.proofs.lemmas.List.{append-nil, drop_all, length-set, reverse-append, take_rest}
use Rattle.c_lexer.specs.declared.token.Token.{Token}
use Rattle.c_preproc.specs.declared.expander.Expander.{Expander}
use Rattle.c_preproc.specs.declared.expander.Fit.{Fit}
use Rattle.c_preproc.specs.declared.expander.Fit.TheVariants.{Fits, TooMany}
use Rattle.c_preproc.specs.declared.expander.Found.{Found}
use Rattle.c_preproc.specs.declared.expander.Found.TheVariants.{Plain, Hidden, Known, New}
use Rattle.c_preproc.specs.declared.expander.Frame.{Frame}
use Rattle.c_preproc.specs.declared.expander.Kept.{Kept}
use Rattle.c_preproc.specs.Macros.{expansion_of_token, placed_at, replacement_of}
use Rattle.c_preproc.specs.Texts.{text_of}
use Rattle.c_preproc.specs.Code.Table.{IsIndexed, body_at, name_at}
use Rattle.c_preproc.specs.Code.Expander.{IsPart}
use Rattle.c_preproc.specs.Expansion.{token_limit}
use Rattle.c_preproc.specs.Code.Expander.{Setting, Advances, AllKept, AreAt, AreSeated, AreTraced, ArePlaced, Appends, Grows, IsKept, IsReplaced, IsRunning, IsStep, IsStore, IsWalking, IsWalkingAt, LeavesOut, NameYields, Yields, but_for, effort_of, entries_of, entry_of, found_by, found_of, known_or_new, if_of, is_kept, is_one_of, kept_at, left_of, macros_inside, macros_of, part_of, taint, work_of}
use Rattle.c_preproc.proofs.Efforts.{effort_some}
use Rattle.c_preproc.proofs.Frames.{at_defined, inside_leaves_out, left_closed, left_opened, left_tainted, left_token, traced_hidden, traced_kept, traced_open, traced_put, traced_tainted, traced_whole, work_closed, work_opened, work_tainted, work_token}
use Rattle.c_preproc.proofs.LeftOut.{entry_below, entry_leads, leads_below, named_there, stays}
use Rattle.c_preproc.proofs.MacroTable.{leaves_nothing_out}
use Rattle.c_preproc.proofs.Seats.{apart-less, entries_of-push, is_one_of-push, is_one_of-reverse, length-entries_of, seated-less, seated-push}
use Rattle.c_preproc.proofs.Store.{at_least_kept, kept_grown, kept_one_more, newly_kept, others_kept}
use Rattle.c_preproc.proofs.Yields.{TokenYields, plain_yields, token_yields, yields_nothing}

pub reverse_last : {X : Type 0} (xs : List X) (x : X) → reverse (xs ++ x ∷ []) ≡ x ∷ reverse xs
reverse_last xs x = reverse-append xs (x ∷ [])

-- ---- the store

pub store_grown : (s : Setting) (x : Expander) (stack : Vec Frame Global) (tokens : Vec Token Global) → IsStore s x → Grows x.tokens.items tokens.items → IsStore s (record x { stack = stack; tokens = tokens })
store_grown s x stack tokens store grown = record {
  seats = store.seats;
  spots = store.spots;
  kept = subst (AllKept s x.spots.items x.kept.items) (sym grown.1) (kept_grown s x.spots.items x.kept.items x.tokens.items grown.0 store.kept);
}

-- ---- what a token is found to be

-- what each finding says
module _ (opened : List ℕ) (kept : ℕ → Option Kept) where
  abbrev Means : Option ℕ → Found → Type 0
  Means o Plain = o ≡ None
  Means o Hidden = (e : ℕ) × (o ≡ Some e) × (is_one_of opened e ≡ true)
  Means o (Known k) = (e : ℕ) × (o ≡ Some e) × (is_one_of opened e ≡ false) × (kept e ≡ Some k)
  Means o (New e) = (o ≡ Some e) × (is_one_of opened e ≡ false) × (is_some (kept e) ≡ false)

  found_means : (o : Option ℕ) → Means o (found_by opened kept o)
  found_means None = refl
  found_means (Some e) = by (is_one_of opened e) refl (kept e) refl
    where
      by : (b : Bool) → is_one_of opened e ≡ b → (k : Option Kept) → kept e ≡ k → Means (Some e) (cond b Hidden (known_or_new e k))
      by true f k g = (e, refl, f)
      by false f None g = (refl, f, ap is_some g)
      by false f (Some k) g = (e, refl, f, g)

  found_view : (o : Option ℕ) (found : Found) → found ≡ found_by opened kept o → Means o found
  found_view o found h = subst (Means o) (sym h) (found_means o)

-- ---- a token is replaced

some_of_kept : (o : Option Kept) (entry : ℕ) (k : Kept) → if_of entry o ≡ Some k → (o ≡ Some k) × (k.entry ≡ entry)
some_of_kept None entry k h = cc
some_of_kept (Some j) entry k h = by (j.entry == entry) refl h
  where
    by : (b : Bool) → (j.entry == entry) ≡ b → cond b (Some j) None ≡ Some k → (Some j ≡ Some k) × (k.entry ≡ entry)
    by false e g = cc
    by true e g =
        let same : j ≡ k = cc in
        let named : j.entry ≡ entry = grind (arith, nat_tests) in
        (g, ap (λ n. n.entry) (sym same) ∙ named)

module _ (s : Setting) (indexed : IsIndexed s.places s.entries) (limit : ℕ) (x : Expander) (t : Token) (walking : IsWalkingAt s x t) where
  -- tokens are put out in place of the token
  puts : (stack : Vec Frame Global) (tokens : Vec Token Global) (more : List Token) → replacement_of s.bytes (macros_inside s (reverse x.stack.items)) t ≡ more
      → AreTraced s (is_kept x.spots.items x.kept.items) (reverse stack.items) (x.tokens.items ++ more) → entries_of stack.items ≡ entries_of x.stack.items
      → left_of s (reverse stack.items) ≡ left_of s (reverse x.stack.items) → work_of s (reverse stack.items) ≡ work_of s (reverse x.stack.items)
      → (fit : Fit) → Appends fit limit more x.tokens.items tokens.items → IsReplaced fit s limit t x (record x { stack = stack; tokens = tokens })
  puts stack tokens more stands traced same_entries same_left same_work Fits room =
      let kept = is_kept x.spots.items x.kept.items in (
        record {
          store = store_grown s x stack tokens walking.store (more, room.0);
          placed = record {
            seated = subst (AreSeated x.seats.items) (sym same_entries) walking.placed.seated;
            apart = λ entry one. walking.placed.apart entry (ap (λ es. is_one_of es entry) (sym same_entries) ∙ one);
          };
          traced = subst (AreTraced s kept (reverse stack.items)) (sym room.0) traced;
        },
        record {
          added = more;
          grown = room.0;
          gives = ap (λ ts. more ++ ts) same_left ∙ ap (λ ts. ts ++ left_of s (reverse x.stack.items)) (sym stands);
          less = omega (arith, same_work, effort_some (length (macros_inside s (reverse x.stack.items))) s.bytes (macros_inside s (reverse x.stack.items)) t);
        },
      )
  puts stack tokens more stands traced same_entries same_left same_work TooMany room =
      omega (arith, room, length-append (replacement_of s.bytes (macros_inside s (reverse x.stack.items)) t) (left_of s (reverse x.stack.items)), ap length stands)

  leaves : LeavesOut s (entries_of (reverse x.stack.items)) (macros_inside s (reverse x.stack.items))
  leaves = inside_leaves_out s indexed (leaves_nothing_out s indexed) (reverse x.stack.items) (at_defined s (is_kept x.spots.items x.kept.items) t (reverse x.stack.items) x.tokens.items walking.at)

  apart : (entry : ℕ) → is_one_of (entries_of (reverse x.stack.items)) entry ≡ true → is_kept x.spots.items x.kept.items entry ≡ false
  apart entry one = walking.placed.apart entry (sym (is_one_of-reverse x.stack.items entry) ∙ one)

  traced_after : (more : List Token) → TokenYields s (is_kept x.spots.items x.kept.items) t more → (frames : List Frame) → AreAt s (is_kept x.spots.items x.kept.items) t frames x.tokens.items → AreTraced s (is_kept x.spots.items x.kept.items) frames (x.tokens.items ++ more)
  traced_after more one [] at = absurd at
  traced_after more one (f ∷ outer) at = traced_put s (is_kept x.spots.items x.kept.items) t f outer x.tokens.items at more (λ clean. one)

  traced_after_hidden : (more : List Token) (frames : List Frame) → AreAt s (is_kept x.spots.items x.kept.items) t frames x.tokens.items → AreTraced s (is_kept x.spots.items x.kept.items) (taint frames) (x.tokens.items ++ more)
  traced_after_hidden more [] at = absurd at
  traced_after_hidden more (f ∷ outer) at = traced_hidden s (is_kept x.spots.items x.kept.items) t f outer x.tokens.items at more

  pub puts_plain : (tokens : Vec Token Global) → Plain ≡ found_of s x t → (r : Result Fit AllocError) → IfOk r (λ fit. Appends fit limit (t ∷ []) x.tokens.items tokens.items) → IfOk r (λ fit. IsReplaced fit s limit t x (record x { tokens = tokens }))
  puts_plain tokens found (Err e) room = room
  puts_plain tokens found (Ok fit) room =
      let plain = found_view _ _ (entry_of s t) Plain found in
      puts x.stack tokens (t ∷ []) (stays s _ _ leaves t (ap (but_for _) plain))
      (traced_after (t ∷ []) (plain_yields s _ t plain) (reverse x.stack.items) walking.at) refl refl refl fit room

  pub puts_hidden : (stack : Vec Frame Global) (tokens : Vec Token Global) → Hidden ≡ found_of s x t → reverse stack.items ≡ taint (reverse x.stack.items) → entries_of stack.items ≡ entries_of x.stack.items
      → (r : Result Fit AllocError) → IfOk r (λ fit. Appends fit limit (t ∷ []) x.tokens.items tokens.items) → IfOk r (λ fit. IsReplaced fit s limit t x (record x { stack = stack; tokens = tokens }))
  puts_hidden stack tokens found frames same (Err e) room = room
  puts_hidden stack tokens found frames same (Ok fit) room =
      let hidden = found_view _ _ (entry_of s t) Hidden found in
      let one : is_one_of (entries_of (reverse x.stack.items)) hidden.0 ≡ true = is_one_of-reverse x.stack.items hidden.0 ∙ hidden.2 in
      let none : but_for (entries_of (reverse x.stack.items)) (entry_of s t) ≡ None = ap (but_for _) hidden.1 ∙ ap (λ b. cond b None (Some hidden.0)) one in
      puts stack tokens (t ∷ []) (stays s _ _ leaves t none)
      (subst (λ fs. AreTraced s (is_kept x.spots.items x.kept.items) fs (x.tokens.items ++ t ∷ [])) (sym frames) (traced_after_hidden (t ∷ []) (reverse x.stack.items) walking.at)) same
      (ap (left_of s) frames ∙ left_tainted s (reverse x.stack.items)) (ap (work_of s) frames ∙ work_tainted s (reverse x.stack.items)) fit room

  -- what a kept expansion is
  pub known_kept : (k : Kept) → Known k ≡ found_of s x t → IsKept s x.spots.items x.kept.items x.tokens.items (get_or x.spots.items k.entry 0) k × (entry_of s t ≡ Some k.entry)
  known_kept k found =
      let known = found_view _ _ (entry_of s t) (Known k) found in
      let there = some_of_kept (slice_get x.kept.items (get_or x.spots.items known.0 0)) known.0 k known.3 in
      let at : slice_get x.kept.items (get_or x.spots.items k.entry 0) ≡ Some k = ap (λ e. slice_get x.kept.items (get_or x.spots.items e 0)) there.1 ∙ there.0 in
      (walking.store.kept (get_or x.spots.items k.entry 0) k at, known.1 ∙ ap Some (sym there.1))

  pub puts_known : (k : Kept) (tokens : Vec Token Global) → Known k ≡ found_of s x t
      → (r : Result Fit AllocError) → IfOk r (λ fit. Appends fit limit (part_of x.tokens.items k.start k.end) x.tokens.items tokens.items) → IfOk r (λ fit. IsReplaced fit s limit t x (record x { tokens = tokens }))
  puts_known k tokens found (Err e) room = room
  puts_known k tokens found (Ok fit) room =
      let known = known_kept k found in
      let more = part_of x.tokens.items k.start k.end in
      puts x.stack tokens more (known.0.yields (entries_of (reverse x.stack.items)) (macros_inside s (reverse x.stack.items)) leaves apart t known.1)
      (traced_after more (token_yields s _ t k.entry more known.1 known.0.yields) (reverse x.stack.items) walking.at) refl refl refl fit room

  traced_opened : (entry : ℕ) → entry_of s t ≡ Some entry → (frames : List Frame) → AreAt s (is_kept x.spots.items x.kept.items) t frames x.tokens.items → AreTraced s (is_kept x.spots.items x.kept.items) (record { entry = entry; next = 0; start = length x.tokens.items; clean = true } ∷ frames) x.tokens.items
  traced_opened entry names [] at = absurd at
  traced_opened entry names (f ∷ outer) at = traced_open s (is_kept x.spots.items x.kept.items) t f outer x.tokens.items at indexed entry names

  pub opens : (entry start : ℕ) (seats : Vec ℕ Global) (stack : Vec Frame Global) → New entry ≡ found_of s x t → start ≡ length x.tokens.items → seats.items ≡ set x.seats.items entry (length x.stack.items) → stack.items ≡ x.stack.items ++ record { entry = entry; next = 0; start = start; clean = true } ∷ []
      → IsReplaced Fits s limit t x (record x { seats = seats; stack = stack })
  opens entry start seats stack found begins seat pushed =
      let new = found_view _ _ (entry_of s t) (New entry) found in
      let below = entry_below s indexed t entry (sym new.0) in
      let f : Frame = record { entry = entry; next = 0; start = start; clean = true } in
      let frames : reverse stack.items ≡ f ∷ reverse x.stack.items = ap reverse pushed ∙ reverse_last x.stack.items f in
      let entries : entries_of stack.items ≡ entries_of x.stack.items ++ entry ∷ [] = ap entries_of pushed ∙ entries_of-push x.stack.items f in
      let closed : is_one_of (entries_of (reverse x.stack.items)) entry ≡ false = is_one_of-reverse x.stack.items entry ∙ new.1 in
      let defined = at_defined s (is_kept x.spots.items x.kept.items) t (reverse x.stack.items) x.tokens.items walking.at in
      let kept = is_kept x.spots.items x.kept.items in (
        record {
          store = record {
            seats = omega (arith, walking.store.seats, ap length seat, length-set x.seats.items entry (length x.stack.items));
            spots = walking.store.spots;
            kept = walking.store.kept;
          };
          placed = record {
            seated = subst (AreSeated seats.items) (sym entries) (subst (λ ss. AreSeated ss (entries_of x.stack.items ++ entry ∷ [])) (ap (set x.seats.items entry) (length-entries_of x.stack.items) ∙ sym seat)
                (seated-push x.seats.items (entries_of x.stack.items) entry new.1 (omega (arith, walking.store.seats)) walking.placed.seated));
            apart = λ other one. by_entry entry new.2 other (entry == other) refl (sym (is_one_of-push (entries_of x.stack.items) entry other) ∙ ap (λ es. is_one_of es other) (sym entries) ∙ one);
          };
          traced = subst (λ fs. AreTraced s kept fs x.tokens.items) (sym frames) (subst (λ n. AreTraced s kept (record f { start = n } ∷ reverse x.stack.items) x.tokens.items) (sym begins) (traced_opened entry new.0 (reverse x.stack.items) walking.at));
        },
        record {
          added = [];
          grown = sym (append-nil x.tokens.items);
          gives = ap (left_of s) frames ∙ left_opened s indexed (leaves_nothing_out s indexed) (reverse x.stack.items) defined t entry new.0 closed start;
          less = subst (λ fs. work_of s fs < effort_of s.bytes (macros_inside s (reverse x.stack.items)) t + work_of s (reverse x.stack.items)) (sym frames)
              (work_opened s indexed (leaves_nothing_out s indexed) (reverse x.stack.items) defined t entry new.0 closed start);
        },
      )
    where
      by_entry : (entry : ℕ) → is_kept x.spots.items x.kept.items entry ≡ false → (other : ℕ) (b : Bool) → (entry == other) ≡ b → (b || is_one_of (entries_of x.stack.items) other) ≡ true → is_kept x.spots.items x.kept.items other ≡ false
      by_entry entry new other true e g = let same : entry ≡ other = grind (arith, nat_tests) in ap (is_kept x.spots.items x.kept.items) (sym same) ∙ new
      by_entry entry new other false e g = walking.placed.apart other g

  pub new_below : (entry : ℕ) → New entry ≡ found_of s x t → entry < length s.entries
  new_below entry found = entry_below s indexed t entry (sym (found_view _ _ (entry_of s t) (New entry) found).0)

-- ---- a frame is taken

module _ (s : Setting) (indexed : IsIndexed s.places s.entries) (limit : ℕ) (x : Expander) (frame : Frame) (walking : IsWalking s x (x.stack.items ++ frame ∷ [])) where
  traced_first : AreTraced s (is_kept x.spots.items x.kept.items) (frame ∷ reverse x.stack.items) x.tokens.items
  traced_first = subst (λ fs. AreTraced s (is_kept x.spots.items x.kept.items) fs x.tokens.items) (reverse_last x.stack.items frame) walking.traced

  pub frame_below : frame.entry < length s.entries
  frame_below = leads_below s.places s.entries indexed (name_at s.entries frame.entry) frame.entry traced_first.0.opened.defined

  -- its next token is taken
  pub takes : (stack : Vec Frame Global) (t : Token) → stack.items ≡ x.stack.items ++ record frame { next = frame.next + 1 } ∷ [] → take (frame.next + 1) (body_at s.entries frame.entry) ≡ take frame.next (body_at s.entries frame.entry) ++ t ∷ []
      → IsWalkingAt s (record x { stack = stack }) t
  takes stack t pushed taken =
      let f : Frame = record frame { next = frame.next + 1 } in
      let kept = is_kept x.spots.items x.kept.items in
      let frames : reverse stack.items ≡ f ∷ reverse x.stack.items = ap reverse pushed ∙ reverse_last x.stack.items f in
      let same : entries_of stack.items ≡ entries_of (x.stack.items ++ frame ∷ []) = ap entries_of pushed ∙ entries_of-push x.stack.items f ∙ sym (entries_of-push x.stack.items frame) in
      record {
        store = record { seats = walking.store.seats; spots = walking.store.spots; kept = walking.store.kept };
        placed = record {
          seated = subst (AreSeated x.seats.items) (sym same) walking.placed.seated;
          apart = λ entry one. walking.placed.apart entry (ap (λ es. is_one_of es entry) (sym same) ∙ one);
        };
        at = subst (λ fs. AreAt s kept t fs x.tokens.items) (sym frames) (
          record {
            opened = record { defined = traced_first.0.opened.defined; within = traced_first.0.opened.within };
            before = take frame.next (body_at s.entries frame.entry);
            taken = taken;
            clean = traced_first.0.clean;
          },
          traced_first.1,
        );
      }

  pub takes_step : (stack : Vec Frame Global) (t : Token) → stack.items ≡ x.stack.items ++ record frame { next = frame.next + 1 } ∷ [] → drop frame.next (body_at s.entries frame.entry) ≡ t ∷ drop (frame.next + 1) (body_at s.entries frame.entry)
      → (y : Expander) (r : Result Fit AllocError) → IfOk r (λ fit. IsReplaced fit s limit t (record x { stack = stack }) y) → IfOk r (λ fit. IsStep fit s limit (left_of s (frame ∷ reverse x.stack.items)) (work_of s (frame ∷ reverse x.stack.items)) x.tokens.items y)
  takes_step stack t pushed next y (Err e) h = h
  takes_step stack t pushed next y (Ok fit) h =
      let f : Frame = record frame { next = frame.next + 1 } in
      let frames : reverse stack.items ≡ f ∷ reverse x.stack.items = ap reverse pushed ∙ reverse_last x.stack.items f in
      let left : replacement_of s.bytes (macros_inside s (reverse stack.items)) t ++ left_of s (reverse stack.items) ≡ left_of s (frame ∷ reverse x.stack.items) =
      ap (λ fs. replacement_of s.bytes (macros_inside s fs) t ++ left_of s fs) frames ∙ left_token s frame (reverse x.stack.items) t next in
      let work : effort_of s.bytes (macros_inside s (reverse stack.items)) t + work_of s (reverse stack.items) ≡ work_of s (frame ∷ reverse x.stack.items) =
      ap (λ fs. effort_of s.bytes (macros_inside s fs) t + work_of s fs) frames ∙ work_token s frame (reverse x.stack.items) t next in
      subst (λ l. IsStep fit s limit l (work_of s (frame ∷ reverse x.stack.items)) x.tokens.items y) left (subst (λ w. IsStep fit s limit (replacement_of s.bytes (macros_inside s (reverse stack.items)) t ++ left_of s (reverse stack.items)) w x.tokens.items y) work h)

  -- it has no token left
  module _ (done : length (body_at s.entries frame.entry) ≤ frame.next) where
    was_open : is_one_of (entries_of (x.stack.items ++ frame ∷ [])) frame.entry ≡ true
    was_open =
        ap (λ es. is_one_of es frame.entry) (entries_of-push x.stack.items frame) ∙ is_one_of-push (entries_of x.stack.items) frame.entry frame.entry
        ∙ ap (λ b. b || is_one_of (entries_of x.stack.items) frame.entry) (eq-eqb frame.entry frame.entry refl)

    seated_with : AreSeated x.seats.items (entries_of x.stack.items ++ frame.entry ∷ [])
    seated_with = subst (AreSeated x.seats.items) (entries_of-push x.stack.items frame) walking.placed.seated

    was_apart : (entry : ℕ) → is_one_of (entries_of x.stack.items) entry ≡ true → is_kept x.spots.items x.kept.items entry ≡ false
    was_apart entry one =
        walking.placed.apart entry (ap (λ es. is_one_of es entry) (entries_of-push x.stack.items frame) ∙ is_one_of-push (entries_of x.stack.items) frame.entry entry ∙ ap (λ b. (frame.entry == entry) || b) one ∙ or_true (frame.entry == entry))
      where
        or_true : (b : Bool) → (b || true) ≡ true
        or_true true = refl
        or_true false = refl

    closed_advance : (stack : List Frame) (tokens : List Token) → tokens ≡ x.tokens.items → left_of s stack ≡ left_of s (reverse x.stack.items) → work_of s stack ≡ work_of s (reverse x.stack.items) → Advances s (left_of s (frame ∷ reverse x.stack.items)) (work_of s (frame ∷ reverse x.stack.items)) x.tokens.items tokens stack
    closed_advance stack tokens same left work = record {
      added = [];
      grown = same ∙ sym (append-nil x.tokens.items);
      gives = left ∙ sym (left_closed s frame (reverse x.stack.items) done);
      less = omega (arith, work, work_closed s frame (reverse x.stack.items));
    }

    pub closes_tainted : (stack : Vec Frame Global) → reverse stack.items ≡ taint (reverse x.stack.items) → entries_of stack.items ≡ entries_of x.stack.items → IsStep Fits s limit (left_of s (frame ∷ reverse x.stack.items)) (work_of s (frame ∷ reverse x.stack.items)) x.tokens.items (record x { stack = stack })
    closes_tainted stack frames same =
        let kept = is_kept x.spots.items x.kept.items in (
          record {
            store = record { seats = walking.store.seats; spots = walking.store.spots; kept = walking.store.kept };
            placed = record {
              seated = subst (AreSeated x.seats.items) (sym same) (seated-less x.seats.items (entries_of x.stack.items) frame.entry seated_with);
              apart = λ entry one. was_apart entry (ap (λ es. is_one_of es entry) (sym same) ∙ one);
            };
            traced = subst (λ fs. AreTraced s kept fs x.tokens.items) (sym frames) (traced_tainted s kept frame (reverse x.stack.items) x.tokens.items traced_first);
          },
          closed_advance (reverse stack.items) x.tokens.items refl (ap (left_of s) frames ∙ left_tainted s (reverse x.stack.items)) (ap (work_of s) frames ∙ work_tainted s (reverse x.stack.items)),
        )

    module _ (clean : IsTrue frame.clean) (end : ℕ) (last : end ≡ length x.tokens.items) where
      was_new : is_kept x.spots.items x.kept.items frame.entry ≡ false
      was_new = walking.placed.apart frame.entry was_open

      pub closes_kept : (spots : Vec ℕ Global) (kept : Vec Kept Global) → spots.items ≡ set x.spots.items frame.entry (length x.kept.items) → kept.items ≡ x.kept.items ++ record { entry = frame.entry; start = frame.start; end = end } ∷ []
          → IsStep Fits s limit (left_of s (frame ∷ reverse x.stack.items)) (work_of s (frame ∷ reverse x.stack.items)) x.tokens.items (record x { spots = spots; kept = kept })
      closes_kept spots kept spot pushed =
          let k : Kept = record { entry = frame.entry; start = frame.start; end = end } in
          let below = frame_below in
          let there : frame.entry < length x.spots.items = omega (arith, walking.store.spots) in
          let old = is_kept x.spots.items x.kept.items in
          let more = is_kept (set x.spots.items frame.entry (length x.kept.items)) (x.kept.items ++ k ∷ []) in
          let least = at_least_kept x.spots.items x.kept.items k there was_new in
          let named = traced_whole s indexed old more frame (reverse x.stack.items) x.tokens.items traced_first clean done was_new (newly_kept x.spots.items x.kept.items k there) least in
          let part : part_of x.tokens.items frame.start end ≡ drop frame.start x.tokens.items = ap (λ n. part_of x.tokens.items frame.start n) last ∙ take_rest x.tokens.items frame.start in
          let is : is_kept spots.items kept.items ≡ more = ap (λ ss. is_kept ss kept.items) spot ∙ ap (is_kept (set x.spots.items frame.entry (length x.kept.items))) pushed in (
            record {
              store = record {
                seats = walking.store.seats;
                spots = omega (arith, walking.store.spots, ap length spot, length-set x.spots.items frame.entry (length x.kept.items));
                kept = subst (λ ss. AllKept s ss kept.items x.tokens.items) (sym spot) (subst (λ ks. AllKept s (set x.spots.items frame.entry (length x.kept.items)) ks x.tokens.items) (sym pushed)
                    (kept_one_more x.spots.items x.kept.items k there s x.tokens.items walking.store.kept was_new below (omega (arith, last, traced_first.0.opened.within)) (omega (arith, last)) (subst (NameYields s more frame.entry) (sym part) named)));
              };
              placed = record {
                seated = seated-less x.seats.items (entries_of x.stack.items) frame.entry seated_with;
                apart = λ entry one.
                    ap (λ test. test entry) is
                    ∙ others_kept x.spots.items x.kept.items k there entry (λ same. false≢true (sym (apart-less x.seats.items (entries_of x.stack.items) frame.entry seated_with) ∙ ap (is_one_of (entries_of x.stack.items)) (sym same) ∙ one))
                    ∙ was_apart entry one;
              };
              traced = subst (λ test. AreTraced s test (reverse x.stack.items) x.tokens.items) (sym is) (traced_kept s old more least frame (reverse x.stack.items) x.tokens.items traced_first named);
            },
            closed_advance (reverse x.stack.items) x.tokens.items refl refl refl,
          )

-- ---- the whole walk

module _ (s : Setting) (indexed : IsIndexed s.places s.entries) (x : Expander) (t : Token) (entry : ℕ) (names : entry_of s t ≡ Some entry) (store : IsStore s x) (new : is_kept x.spots.items x.kept.items entry ≡ false) where
  pub begins : (start : ℕ) (seats : Vec ℕ Global) (cleared stack : Vec Frame Global) → start ≡ length x.tokens.items → cleared.items ≡ [] → seats.items ≡ set x.seats.items entry (length cleared.items) → stack.items ≡ cleared.items ++ record { entry = entry; next = 0; start = start; clean = true } ∷ []
      → IsRunning s (record x { seats = seats; stack = stack }) x.tokens.items (replacement_of s.bytes (macros_of s) t)
  unfolding macros_inside left_of
  begins start seats cleared stack at none seat pushed =
      let f : Frame = record { entry = entry; next = 0; start = start; clean = true } in
      let one : stack.items ≡ f ∷ [] = pushed ∙ ap (λ fs. fs ++ f ∷ []) none in
      let below = entry_below s indexed t entry (sym names) in
      let leads = entry_leads s t entry names in
      let first : seats.items ≡ set x.seats.items entry 0 = seat ∙ ap (λ fs. set x.seats.items entry (length fs)) none in
      record {
        walking = record {
          store = record {
            seats = omega (arith, store.seats, ap length first, length-set x.seats.items entry 0);
            spots = store.spots;
            kept = store.kept;
          };
          placed = record {
            seated = subst (λ fs. AreSeated seats.items (entries_of fs)) (sym one) (subst (λ ss. AreSeated ss (entry ∷ [])) (sym first) (seated-push x.seats.items [] entry refl (omega (arith, store.seats)) none_seated));
            apart = λ other h. by other (entry == other) refl (ap (λ fs. is_one_of (entries_of fs) other) (sym one) ∙ h);
          };
          traced = subst (λ fs. AreTraced s (is_kept x.spots.items x.kept.items) (reverse fs) x.tokens.items) (sym one) (
            record {
              opened = record { defined = ap s.places (named_there s.places s.entries indexed (text_of s.bytes t) entry leads) ∙ leads; within = omega (arith, at) };
              clean = λ clean. subst (λ out. Yields s (is_kept x.spots.items x.kept.items) [] out) (sym (drop_all start x.tokens.items (omega (arith, at)))) (yields_nothing s (is_kept x.spots.items x.kept.items));
            },
            tt,
          );
        };
        added = [];
        grown = sym (append-nil x.tokens.items);
        gives = ap (λ fs. left_of s (reverse fs)) one ∙ left_opened s indexed (leaves_nothing_out s indexed) [] tt t entry names refl start ∙ append-nil (replacement_of s.bytes (macros_of s) t);
      }
    where
      none_seated : AreSeated x.seats.items []
      none_seated k h = absurd (omega arith)

      by : (other : ℕ) (b : Bool) → (entry == other) ≡ b → (b || false) ≡ true → is_kept x.spots.items x.kept.items other ≡ false
      by other true e g = let same : entry ≡ other = grind (arith, nat_tests) in ap (is_kept x.spots.items x.kept.items) (sym same) ∙ new
      by other false e g = absurd (false≢true g)

module _ (s : Setting) (limit : ℕ) (x : Expander) (start wanted : List Token) (running : IsRunning s x start wanted) (rest : Vec Frame Global) (frame : Frame) (popped : x.stack.items ≡ rest.items ++ frame ∷ []) where
  pub goes_on : IsWalking s (record x { stack = rest }) (rest.items ++ frame ∷ [])
  goes_on = record {
    store = record { seats = running.walking.store.seats; spots = running.walking.store.spots; kept = running.walking.store.kept };
    placed = subst (ArePlaced x.seats.items x.spots.items x.kept.items) popped running.walking.placed;
    traced = subst (λ fs. AreTraced s (is_kept x.spots.items x.kept.items) (reverse fs) x.tokens.items) popped running.walking.traced;
  }

  frames_are : reverse x.stack.items ≡ frame ∷ reverse rest.items
  frames_are = ap reverse popped ∙ reverse_last rest.items frame

  pub runs_on : (y : Expander) → IsStep Fits s limit (left_of s (frame ∷ reverse rest.items)) (work_of s (frame ∷ reverse rest.items)) x.tokens.items y → IsRunning s y start wanted
  runs_on y step = record {
    walking = step.0;
    added = running.added ++ step.1.added;
    grown = step.1.grown ∙ ap (λ ts. ts ++ step.1.added) running.grown ∙ append_assoc start running.added step.1.added;
    gives = append_assoc running.added step.1.added (left_of s (reverse y.stack.items)) ∙ ap (λ ts. running.added ++ ts) (step.1.gives ∙ ap (left_of s) (sym frames_are)) ∙ running.gives;
  }

  pub runs_less : (y : Expander) → IsStep Fits s limit (left_of s (frame ∷ reverse rest.items)) (work_of s (frame ∷ reverse rest.items)) x.tokens.items y → work_of s (reverse y.stack.items) < work_of s (reverse x.stack.items)
  runs_less y step = subst (λ fs. work_of s (reverse y.stack.items) < work_of s fs) (sym frames_are) step.1.less

  pub runs_over : (room : ℕ) (y : Expander) → limit ≡ length start + room → IsStep TooMany s limit (left_of s (frame ∷ reverse rest.items)) (work_of s (frame ∷ reverse rest.items)) x.tokens.items y → room < length wanted
  runs_over room y is step =
      omega (arith, step, is, ap length running.grown, length-append start running.added, ap length running.gives, length-append running.added (left_of s (reverse x.stack.items)), ap (λ fs. length (left_of s fs)) frames_are)

pub run_ends : (s : Setting) (x : Expander) (start wanted : List Token) → IsRunning s x start wanted → x.stack.items ≡ [] → x.tokens.items ≡ start ++ wanted
unfolding left_of
run_ends s x start wanted running none =
    running.grown ∙ ap (λ ts. start ++ ts) (sym (append-nil running.added) ∙ ap (λ fs. running.added ++ left_of s (reverse fs)) (sym none) ∙ running.gives)

pub none_left : (frames : List Frame) → length frames ≡ 0 → frames ≡ []
none_left [] h = refl
none_left (f ∷ frames) h = absurd (omega arith)

-- ---- the range of a name

-- a name whose expansion is kept
pub known_range : (s : Setting) → IsIndexed s.places s.entries → (x : Expander) (t : Token) (entry : ℕ) → entry_of s t ≡ Some entry → IsStore s x → (spots : List ℕ) (kept : List Kept) (k : Kept) → spots ≡ x.spots.items → kept ≡ x.kept.items → Some k ≡ kept_at spots kept entry → IsPart k x.tokens.items (replacement_of s.bytes (macros_of s) t)
known_range s indexed x t entry names store spots kept k same same_kept found =
    let at : kept_at x.spots.items x.kept.items entry ≡ Some k = sym (found ∙ ap (λ ss. kept_at ss kept entry) same ∙ ap (λ ks. kept_at x.spots.items ks entry) same_kept) in
    let there = some_of_kept (slice_get x.kept.items (get_or x.spots.items entry 0)) entry k at in
    let is = store.kept (get_or x.spots.items entry 0) k there.0 in
    record {
      ordered = is.ordered;
      within = is.within;
      part = sym (is.yields [] (macros_of s) (leaves_nothing_out s indexed) (λ other one. absurd (false≢true one)) t (names ∙ ap Some (sym there.1)));
    }

-- a token that is no macro's name
pub placed_alone : (s : Setting) → IsIndexed s.places s.entries → (t : Token) (o : Option ℕ) → o ≡ entry_of s t → ((entry : ℕ) → o ≡ Some entry → ⊥) → (r : Result Fit AllocError) (old new : List Token) → IfOk r (λ fit. Appends fit token_limit (map (placed_at t) (t ∷ [])) old new) → IfOk r (λ fit. Appends fit token_limit (expansion_of_token s.bytes (macros_of s) t) old new)
placed_alone s indexed t None same none r old new h =
    subst (λ ts. IfOk r (λ fit. Appends fit token_limit (map (placed_at t) ts) old new)) (sym (stays s [] (macros_of s) (leaves_nothing_out s indexed) t (ap (but_for []) (sym same)))) h
placed_alone s indexed t (Some entry) same none r old new h = absurd (none entry refl)
