-- Past one construct, and past those of a file.
use Rattle.std.proofs.Common.{◌≡◌, ℕ, ◌+◌, ◌<◌, ◌≤◌, List, [], ◌∷◌, ◌++◌, length, get_or, drop, refl, sym, ap, ◌∙◌, Option}
use Rattle.std.specs.Prelude.{Err}
use Rattle.c_syntax.specs.declared.file.External.{External}
use Rattle.c_syntax.specs.declared.file.File.{File}
use Rattle.c_expr_rules.specs.declared.found.Fault.{Fault}
use Rattle.c_expr_rules.specs.declared.found.Fault.TheVariants as fault
use Rattle.c_expr_rules.specs.Outcomes.{State, Checked, Fine, Breaks, Broke, next}
use Rattle.c_expr_rules.specs.Views.{seen_broken, Passes}
use Rattle.c_names.specs.declared.facts.Facts.{Facts}
use Rattle.c_names.specs.Code.{here_at}
use Rattle.c_objects.specs.Contents.{in_list}
use Rattle.c_file_rules.specs.Constructs.{Here, in_order}
use Rattle.c_file_rules.specs.Files.{bodies_of, external_checked, here_of, start_state}
use Rattle.c_file_rules.specs.Printing.{printer_in}
use Rattle.c_file_rules.specs.declared.made.Made.{Made}
use Rattle.c_check.specs.Going.{Adds, HasGone, HasStopped, IsOfFile, IsSameFile, IsStopped, ahead_of, construct_at, constructs_by, look_at, taken_at}
use Rattle.c_check.specs.Rounds.{round_at, tokens_of}
use Rattle.c_check.specs.Tokens.{PlainTokens}
use Rattle.c_check.proofs.Going.{before, order_more, order_stopped, order_ended}
use Rattle.c_check.proofs.Heres.{here_same}
use Rattle.c_check.proofs.Looking.{external_same, listed, listed_fine, listed_broke}

abbrev pub looking : PlainTokens → Facts → List (List ℕ) → State → External → Checked (List Made)
looking t facts homes = look_at t (ahead_of facts.kinds homes) facts.bodies

abbrev here_for : PlainTokens → Facts → Here
here_for t facts = here_at facts (round_at t facts 201)

-- the code looks at a construct as the definition does
look_same : (t : PlainTokens) (facts : Facts) (homes : List (List ℕ)) (s : State) (item : External) → IsOfFile t facts
    → facts.printer ≡ printer_in (length facts.bodies) s
    → looking t facts homes s item ≡ listed (construct_at (here_for t facts) homes s item)
look_same t facts homes s item h e =
    ap (λ p. external_checked (here_of (tokens_of t) (ahead_of facts.kinds homes) facts.bodies p) (taken_at homes) s item) (sym e)
    ∙ ap (λ (here : Here). external_checked here (taken_at homes) s item) (sym (here_same t facts homes h))
    ∙ external_same (here_for t facts) homes s item

pub goes_past : (t : PlainTokens) (facts : Facts) (homes : List (List ℕ)) (s r : State) (item : External) (made : Option Made)
    (so_far after : List Made) → IsOfFile t facts → facts.printer ≡ printer_in (length facts.bodies) s
    → construct_at (here_for t facts) homes s item ≡ Fine r made → after ≡ so_far ++ in_list made
    → Adds so_far (looking t facts homes s item) r after
goes_past t facts homes s r item made so_far after h p e j =
    record {
      made = in_list made;
      is = look_same t facts homes s item h p ∙ listed_fine (construct_at (here_for t facts) homes s item) r made e;
      joined = j;
    }

pub stops_at : (t : PlainTokens) (facts : Facts) (homes : List (List ℕ)) (s r : State) (item : External) (f : Fault) → IsOfFile t facts
    → facts.printer ≡ printer_in (length facts.bodies) s
    → Passes {A = Option Made} r (Err f) (construct_at (here_for t facts) homes s item)
    → IsStopped (looking t facts homes s item) f
stops_at t facts homes s r item (fault.Broke b) h p e =
    look_same t facts homes s item h p ∙ listed_broke (construct_at (here_for t facts) homes s item) (seen_broken b) e
stops_at t facts homes s r item fault.NoMemory h p e = tt

-- ---- all of a file

same_look : (t : PlainTokens) (old new : Facts) (homes : List (List ℕ)) (s : State) (x : External) → IsSameFile old new
    → looking t new homes s x ≡ looking t old homes s x
same_look t old new homes s x h =
    ap (λ k. look_at t (ahead_of k homes) new.bodies s x) h.kinds
    ∙ ap (λ b. look_at t (ahead_of old.kinds homes) b s x) h.bodies

abbrev pub whole_order : PlainTokens → Facts → List (List ℕ) → List External → Checked (List Made)
whole_order t facts homes xs = in_order (looking t facts homes) (start_state (length facts.bodies)) xs

-- what is left of a file's constructs, behind those that were gone past
pub record IsLeft (t : PlainTokens) (first facts : Facts) (homes : List (List ℕ)) (xs : List External) (i : ℕ) (s : State) (made : List Made) : Type 0 where
  pub left : before made (in_order (looking t first homes) s (drop i xs)) ≡ whole_order t first homes xs
  pub kept : IsSameFile first facts

-- with none before, what constructs in their order make is the same
none_ahead : {A B : Type 0} (c : Checked A) (go : State → A → Checked (List B)) → ((s : State) (x : A) → before [] (go s x) ≡ go s x)
    → before [] (next c go) ≡ next c go
none_ahead (Fine s x) go h = h s x
none_ahead (Breaks b s known) go h = refl
none_ahead (Broke b) go h = refl

none_joined : {B : Type 0} (c : Checked (List B)) (first : List B)
    → before [] (next c (λ s others. Fine s (first ++ others))) ≡ next c (λ s others. Fine s (first ++ others))
none_joined (Fine s x) first = refl
none_joined (Breaks b s known) first = refl
none_joined (Broke b) first = refl

none_before : {A B : Type 0} (look : State → A → Checked (List B)) (s : State) (xs : List A)
    → before [] (in_order look s xs) ≡ in_order look s xs
none_before look s [] = refl
none_before look s (x ∷ rest) =
    none_ahead (look s x) (λ s first. next (in_order look s rest) (λ s others. Fine s (first ++ others)))
    (λ s first. none_joined (in_order look s rest) first)

pub left_first : (t : PlainTokens) (facts : Facts) (homes : List (List ℕ)) (xs : List External) (s : State) (made : List Made)
    → s ≡ start_state (length facts.bodies) → made ≡ [] → IsLeft t facts facts homes xs 0 s made
left_first t facts homes xs s made e none =
    record {
      left =
          ap (λ made. before made (in_order (looking t facts homes) s xs)) none
          ∙ none_before (looking t facts homes) s xs
          ∙ ap (λ s. in_order (looking t facts homes) s xs) e;
      kept = record { bodies = refl; kinds = refl; library = refl };
    }

pub left_more : (t : PlainTokens) (first facts next : Facts) (homes : List (List ℕ)) (xs : List External) (i : ℕ) (d : External) (s r : State)
    (made after : List Made) → i < length xs → d ≡ get_or xs i d → IsLeft t first facts homes xs i s made
    → Adds made (looking t facts homes s d) r after → IsSameFile facts next → IsLeft t first next homes xs (i + 1) r after
left_more t first facts next homes xs i d s r made after inside at h a k =
    let e : looking t first homes s (get_or xs i d) ≡ Fine r a.made =
    ap (looking t first homes s) (sym at) ∙ sym (same_look t first facts homes s d h.kept) ∙ a.is in
    record {
      left =
          ap (λ l. before l (in_order (looking t first homes) r (drop (i + 1) xs))) a.joined
          ∙ sym (order_more (looking t first homes) xs i d s r made a.made inside e)
          ∙ h.left;
      kept =
          record {
            bodies = k.bodies ∙ h.kept.bodies;
            kinds = k.kinds ∙ h.kept.kinds;
            library = k.library ∙ h.kept.library;
          };
    }

of_file : (t : PlainTokens) (first : Facts) (homes : List (List ℕ)) (file : File) (xs : List External) → xs ≡ file.items → first.bodies ≡ bodies_of file
    → constructs_by t (ahead_of first.kinds homes) file ≡ whole_order t first homes xs
of_file t first homes file xs same bodies =
    ap (λ b. in_order (look_at t (ahead_of first.kinds homes) b) (start_state (length b)) file.items) (sym bodies)
    ∙ ap (whole_order t first homes) (sym same)

pub left_stops : (t : PlainTokens) (first facts : Facts) (homes : List (List ℕ)) (file : File) (xs : List External) (i : ℕ) (d : External) (s : State)
    (made : List Made) (f : Fault) → xs ≡ file.items → first.bodies ≡ bodies_of file → i < length xs → d ≡ get_or xs i d
    → IsLeft t first facts homes xs i s made → IsStopped (looking t facts homes s d) f → HasStopped t (ahead_of first.kinds homes) file f
left_stops t first facts homes file xs i d s made (fault.Broke b) same bodies inside at h e =
    let e : looking t first homes s (get_or xs i d) ≡ Broke (seen_broken b) =
    ap (looking t first homes s) (sym at) ∙ sym (same_look t first facts homes s d h.kept) ∙ e in
    of_file t first homes file xs same bodies
    ∙ sym h.left ∙ order_stopped (looking t first homes) xs i d s made (seen_broken b) inside e
left_stops t first facts homes file xs i d s made fault.NoMemory same bodies inside at h e = tt

pub left_ends : (t : PlainTokens) (first facts : Facts) (homes : List (List ℕ)) (file : File) (xs : List External) (i : ℕ) (s : State) (made : List Made)
    → xs ≡ file.items → first.bodies ≡ bodies_of file → length xs ≤ i → IsLeft t first facts homes xs i s made
    → HasGone t (ahead_of first.kinds homes) file s made
left_ends t first facts homes file xs i s made same bodies past h =
    of_file t first homes file xs same bodies ∙ sym h.left ∙ order_ended (looking t first homes) xs i s made past
