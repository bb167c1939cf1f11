-- Which words are a command.
use Rattle.std.proofs.Common.{◌≡◌, ℕ, ◌≤◌, true, false, List, [], ◌∷◌, length, map, get_or, refl, sym, ap, subst, ◌∙◌, arith, codes}
use Rattle.std.specs.Prelude.{Option, Some, None, IfSome, IfNone}
use Rattle.std.specs.Fmt.{decimal}
use Rattle.std.proofs.lemmas.Fmt.{decimal_injective}
use Rattle.std.proofs.lemmas.List.{length-map}
use Rattle.filc_top.specs.Commands.{begins_with_dash, IsFileName, IsTurns, IsRun, alone, before, after, IsCheck, IsCode, IsNoCommand}

pub some_map : {T : Type 0} (r : Option T) (P Q : T → Type 0) → IfSome r P → ((x : T) → P x → Q x) → IfSome r Q
some_map (Some x) P Q p f = f x p
some_map None P Q p f = tt

pub none_map : {T : Type 0} (r : Option T) (A B : Type 0) → IfNone r A → (A → B) → IfNone r B
none_map (Some x) A B a f = tt
none_map None A B a f = f a

-- lists of two and of four
pub of_length_two : {A : Type 0} (f : A → List ℕ) (xs : List A) (d : A) → length xs ≡ 2 → map f xs ≡ f (get_or xs 0 d) ∷ f (get_or xs 1 d) ∷ []
of_length_two f [] d two = absurd (omega (arith, two))
of_length_two f (a ∷ []) d two = absurd (omega (arith, two))
of_length_two f (a ∷ (b ∷ [])) d two = refl
of_length_two f (a ∷ (b ∷ (e ∷ xs))) d two = absurd (omega (arith, two))

pub of_length_four : {A : Type 0} (f : A → List ℕ) (xs : List A) (d : A) → length xs ≡ 4 → map f xs ≡ f (get_or xs 0 d) ∷ f (get_or xs 1 d) ∷ f (get_or xs 2 d) ∷ f (get_or xs 3 d) ∷ []
of_length_four f [] d four = absurd (omega (arith, four))
of_length_four f (a ∷ []) d four = absurd (omega (arith, four))
of_length_four f (a ∷ (b ∷ [])) d four = absurd (omega (arith, four))
of_length_four f (a ∷ (b ∷ (e ∷ []))) d four = absurd (omega (arith, four))
of_length_four f (a ∷ (b ∷ (e ∷ (g ∷ [])))) d four = refl
of_length_four f (a ∷ (b ∷ (e ∷ (g ∷ (h ∷ xs))))) d four = absurd (omega (arith, four))

-- a command has two words or four
pub other_length : {A : Type 0} (f : A → List ℕ) (xs : List A) → (length xs ≡ 2 → ⊥) → (length xs ≡ 4 → ⊥) → IsNoCommand (map f xs)
other_length f xs two four = record { runs_none = runs; checks_none = checks; lists_none = lists }
  where
    runs : (name : List ℕ) (turns : ℕ) → IsRun (map f xs) name turns → ⊥
    runs name turns (alone same is default) = two (sym (length-map xs f) ∙ ap length same)
    runs name turns (before same is within) = four (sym (length-map xs f) ∙ ap length same)
    runs name turns (after same is within) = four (sym (length-map xs f) ∙ ap length same)

    checks : (name : List ℕ) → IsCheck (map f xs) name → ⊥
    checks name is = two (sym (length-map xs f) ∙ ap length is.words_are)

    lists : (name : List ℕ) → IsCode (map f xs) name → ⊥
    lists name is = two (sym (length-map xs f) ∙ ap length is.words_are)

-- one word spells one number
pub one_number : (m n : ℕ) (word : List ℕ) → m ≤ 2147483647 → IsTurns n → word ≡ decimal m → word ≡ decimal n → m ≡ n
one_number m n word small turns one other = decimal_injective m n (omega arith) (omega (arith, turns.most)) (sym one ∙ other)

-- two words
module _ (command name : List ℕ) where
  not_run_two : (file : List ℕ) (turns : ℕ) → (command ≡ codes "run" → ⊥) → IsRun (command ∷ name ∷ []) file turns → ⊥
  not_run_two file turns other (alone same is default) = let word : command ≡ codes "run" = cc in other word
  not_run_two file turns other (before same is within) = cc
  not_run_two file turns other (after same is within) = cc

  not_name_two : (file : List ℕ) (turns : ℕ) → (IsFileName name → ⊥) → IsRun (command ∷ name ∷ []) file turns → ⊥
  not_name_two file turns other (alone same is default) =
      let one : file ≡ name = cc in
      other (subst IsFileName one is)
  not_name_two file turns other (before same is within) = cc
  not_name_two file turns other (after same is within) = cc

  not_check_two : (file : List ℕ) → (command ≡ codes "check" → ⊥) → IsCheck (command ∷ name ∷ []) file → ⊥
  not_check_two file other is =
      let same = is.words_are in
      let word : command ≡ codes "check" = cc in
      other word

  not_name_check : (file : List ℕ) → (IsFileName name → ⊥) → IsCheck (command ∷ name ∷ []) file → ⊥
  not_name_check file other is =
      let same = is.words_are in
      let one : file ≡ name = cc in
      other (subst IsFileName one is.name_is)

  not_code_two : (file : List ℕ) → (command ≡ codes "code" → ⊥) → IsCode (command ∷ name ∷ []) file → ⊥
  not_code_two file other is =
      let same = is.words_are in
      let word : command ≡ codes "code" = cc in
      other word

  not_name_code : (file : List ℕ) → (IsFileName name → ⊥) → IsCode (command ∷ name ∷ []) file → ⊥
  not_name_code file other is =
      let same = is.words_are in
      let one : file ≡ name = cc in
      other (subst IsFileName one is.name_is)

  pub no_name_two : (IsFileName name → ⊥) → IsNoCommand (command ∷ name ∷ [])
  no_name_two other =
      record {
        runs_none = λ file turns is. not_name_two file turns other is;
        checks_none = λ file is. not_name_check file other is;
        lists_none = λ file is. not_name_code file other is;
      }

  pub no_word_two : (command ≡ codes "run" → ⊥) → (command ≡ codes "check" → ⊥) → (command ≡ codes "code" → ⊥) → IsNoCommand (command ∷ name ∷ [])
  no_word_two run check code =
      record {
        runs_none = λ file turns is. not_run_two file turns run is;
        checks_none = λ file is. not_check_two file check is;
        lists_none = λ file is. not_code_two file code is;
      }

  pub run_two : command ≡ codes "run" → IsFileName name → IsRun (command ∷ name ∷ []) name 100000000
  run_two word is = alone (ap (λ (w : List ℕ). w ∷ name ∷ []) word) is refl

  pub check_two : command ≡ codes "check" → IsFileName name → IsCheck (command ∷ name ∷ []) name
  check_two word is = record { words_are = ap (λ (w : List ℕ). w ∷ name ∷ []) word; name_is = is }

  pub code_two : command ≡ codes "code" → IsFileName name → IsCode (command ∷ name ∷ []) name
  code_two word is = record { words_are = ap (λ (w : List ℕ). w ∷ name ∷ []) word; name_is = is }

-- what checks a file runs none
pub check_is_no_run : (words : List (List ℕ)) (name file : List ℕ) (turns : ℕ) → IsCheck words name → IsRun words file turns → ⊥
check_is_no_run words name file turns is (alone same is_name default) =
    let check : words ≡ codes "check" ∷ name ∷ [] = is.words_are in
    cc
check_is_no_run words name file turns is (before same is_name within) =
    let check : words ≡ codes "check" ∷ name ∷ [] = is.words_are in
    cc
check_is_no_run words name file turns is (after same is_name within) =
    let check : words ≡ codes "check" ∷ name ∷ [] = is.words_are in
    cc

-- what lists a file's code neither runs nor checks one
pub code_is_no_run : (words : List (List ℕ)) (name file : List ℕ) (turns : ℕ) → IsCode words name → IsRun words file turns → ⊥
code_is_no_run words name file turns is (alone same is_name default) =
    let code : words ≡ codes "code" ∷ name ∷ [] = is.words_are in
    cc
code_is_no_run words name file turns is (before same is_name within) =
    let code : words ≡ codes "code" ∷ name ∷ [] = is.words_are in
    cc
code_is_no_run words name file turns is (after same is_name within) =
    let code : words ≡ codes "code" ∷ name ∷ [] = is.words_are in
    cc

pub code_is_no_check : (words : List (List ℕ)) (name file : List ℕ) → IsCode words name → IsCheck words file → ⊥
code_is_no_check words name file is other =
    let code : words ≡ codes "code" ∷ name ∷ [] = is.words_are in
    let check : words ≡ codes "check" ∷ file ∷ [] = other.words_are in
    cc

-- four words
module _ (run first second third : List ℕ) where
  not_check_four : (file : List ℕ) → IsCheck (run ∷ first ∷ second ∷ third ∷ []) file → ⊥
  not_check_four file is = let same = is.words_are in cc

  not_code_four : (file : List ℕ) → IsCode (run ∷ first ∷ second ∷ third ∷ []) file → ⊥
  not_code_four file is = let same = is.words_are in cc

  none_of_four : ((file : List ℕ) (turns : ℕ) → IsRun (run ∷ first ∷ second ∷ third ∷ []) file turns → ⊥) → IsNoCommand (run ∷ first ∷ second ∷ third ∷ [])
  none_of_four runs = record { runs_none = runs; checks_none = not_check_four; lists_none = not_code_four }

  not_run_four : (file : List ℕ) (turns : ℕ) → (run ≡ codes "run" → ⊥) → IsRun (run ∷ first ∷ second ∷ third ∷ []) file turns → ⊥
  not_run_four file turns other (alone same is default) = cc
  not_run_four file turns other (before same is within) = let word : run ≡ codes "run" = cc in other word
  not_run_four file turns other (after same is within) = let word : run ≡ codes "run" = cc in other word

  pub run_before :
      (name : List ℕ) (turns : ℕ) → run ≡ codes "run" → first ≡ codes "--turns" →
      (name ≡ third) × IsFileName third × IsTurns turns × (second ≡ decimal turns) →
      IsRun (run ∷ first ∷ second ∷ third ∷ []) name turns
  run_before name turns word option (same, is, within, spelled) =
      before (λ i. word i ∷ option i ∷ spelled i ∷ sym same i ∷ []) (subst IsFileName (sym same) is) within

  pub run_after :
      (name : List ℕ) (turns : ℕ) → run ≡ codes "run" → second ≡ codes "--turns" →
      (name ≡ first) × IsFileName first × IsTurns turns × (third ≡ decimal turns) →
      IsRun (run ∷ first ∷ second ∷ third ∷ []) name turns
  run_after name turns word option (same, is, within, spelled) =
      after (λ i. word i ∷ sym same i ∷ option i ∷ spelled i ∷ []) (subst IsFileName (sym same) is) within

  not_before : (file : List ℕ) (turns : ℕ) → first ≡ codes "--turns" → (IsFileName third → (n : ℕ) → IsTurns n → second ≡ decimal n → ⊥) → IsRun (run ∷ first ∷ second ∷ third ∷ []) file turns → ⊥
  not_before file turns option other (alone same is default) = cc
  not_before file turns option other (before same is within) =
      let one : file ≡ third = cc in
      let spelled : second ≡ decimal turns = cc in
      other (subst IsFileName one is) turns within spelled
  not_before file turns option other (after same is within) =
      let one : file ≡ codes "--turns" = sym (let name : first ≡ file = cc in name) ∙ option in
      let dash : true ≡ false = ap begins_with_dash (sym one) ∙ is.no_dash in
      cc

  not_after :
      (file : List ℕ) (turns : ℕ) → (first ≡ codes "--turns" → ⊥) →
      (IsFileName first → (n : ℕ) → IsTurns n → third ≡ decimal n → ⊥) →
      IsRun (run ∷ first ∷ second ∷ third ∷ []) file turns → ⊥
  not_after file turns option other (alone same is default) = cc
  not_after file turns option other (before same is within) = let word : first ≡ codes "--turns" = cc in option word
  not_after file turns option other (after same is within) =
      let one : file ≡ first = cc in
      let spelled : third ≡ decimal turns = cc in
      other (subst IsFileName one is) turns within spelled

  not_four : (file : List ℕ) (turns : ℕ) → (first ≡ codes "--turns" → ⊥) → (second ≡ codes "--turns" → ⊥) → IsRun (run ∷ first ∷ second ∷ third ∷ []) file turns → ⊥
  not_four file turns option other (alone same is default) = cc
  not_four file turns option other (before same is within) = let word : first ≡ codes "--turns" = cc in option word
  not_four file turns option other (after same is within) = let word : second ≡ codes "--turns" = cc in other word

  pub no_run_four : (run ≡ codes "run" → ⊥) → IsNoCommand (run ∷ first ∷ second ∷ third ∷ [])
  no_run_four other = none_of_four (λ file turns is. not_run_four file turns other is)

  pub no_turns_before : first ≡ codes "--turns" → (IsFileName third → (n : ℕ) → IsTurns n → second ≡ decimal n → ⊥) → IsNoCommand (run ∷ first ∷ second ∷ third ∷ [])
  no_turns_before option other = none_of_four (λ file turns is. not_before file turns option other is)

  pub no_turns_after : (first ≡ codes "--turns" → ⊥) → (IsFileName first → (n : ℕ) → IsTurns n → third ≡ decimal n → ⊥) → IsNoCommand (run ∷ first ∷ second ∷ third ∷ [])
  no_turns_after option other = none_of_four (λ file turns is. not_after file turns option other is)

  pub no_option_four : (first ≡ codes "--turns" → ⊥) → (second ≡ codes "--turns" → ⊥) → IsNoCommand (run ∷ first ∷ second ∷ third ∷ [])
  no_option_four no_first no_second = none_of_four (λ file turns is. not_four file turns no_first no_second is)
