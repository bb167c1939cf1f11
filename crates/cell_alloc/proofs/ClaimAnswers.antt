-- A claim with any answers.
use Rattle.std.proofs.Common.{◌≡◌, ◌≢◌, ℕ, suc, ◌+◌, List, [], ◌∷◌, ◌++◌, length, Option, Some, None, if◌then◌else◌, refl, add-zero, sym, ap, ◌∙◌, subst, arith}
use Rattle.std.proofs.lemmas.List.{append_assoc, length-append}
use Rattle.std.proofs.lemmas.List.Elements.{All-nil, All-push}
use Rattle.heap_words.specs.Answers.{Answered, operations_at, TellsAfter}
use Rattle.heap_words.specs.Work.{Next}
use Rattle.heap_words.specs.declared.piece.Step.TheVariants.{More, Done}
use Rattle.heap_words.proofs.Rules.{by_less, by_equal, ThenOf, at_any_answers}
use Rattle.object_header.specs.WordMap.{Layout, Cell, Header, IsCell, IsWellFormed, class_at, place_of}
use Rattle.object_header.specs.declared.codings.Collect.{Collect}
use Rattle.object_header.specs.declared.words.HeaderWord.TheVariants.{State}
use Rattle.cell_alloc.specs.declared.claim.Claim.{Claim}
use Rattle.cell_alloc.specs.declared.claim.ClaimStage.{ClaimStage}
use Rattle.cell_alloc.specs.declared.claim.ClaimStage.TheVariants.{Looking, Taking}
use Rattle.cell_alloc.specs.Claim.{claim, claim_at, claim_place, claim_op, pass_over, take_free, claim_work, OfClass}
use Rattle.cell_alloc.specs.Claims.{Look, Taken, Lost, word_in, loads, exchanges, operations_of, operations_from, PassesOver, Wins}
use Rattle.cell_alloc.proofs.ClaimSteps.{place_at, wants_at}

module _ (l : Layout) (class : ℕ) where
  -- the operations of one look more
  operations-push : (cell : ℕ) (looks : List Look) (look : Look) → operations_from l class cell (looks ++ look ∷ []) ≡ operations_from l class cell looks ++ operations_of l class (cell + length looks) look
  operations-push cell [] (Taken word) = ap (λ n. operations_of l class n (Taken word)) (sym (add-zero cell))
  operations-push cell [] (Lost word) = ap (λ n. operations_of l class n (Lost word)) (sym (add-zero cell))
  operations-push cell (first ∷ looks) look =
      let there : cell + 1 + length looks ≡ cell + suc (length looks) = omega arith in
      ap (λ rest. operations_of l class cell first ++ rest) (operations-push (cell + 1) looks look ∙ ap (λ n. operations_from l class (cell + 1) looks ++ operations_of l class n look) there)
      ∙ sym (append_assoc (operations_of l class cell first) (operations_from l class (cell + 1) looks) (operations_of l class (cell + suc (length looks)) look))

  passes_more : (cell : ℕ) (made : List Answered) (look : Look) → word_in look ≢ 0 → PassesOver l class cell made → PassesOver l class (cell + 1) (made ++ operations_of l class cell look)
  passes_more cell made look not_free passes = let here : cell ≡ 0 + length passes.looks = omega (arith, passes.as_many) in record {
    looks = passes.looks ++ look ∷ [];
    as_many = length-append passes.looks (look ∷ []) ∙ ap (λ n. n + 1) passes.as_many;
    not_free = All-push (λ look. word_in look ≢ 0) passes.looks look passes.not_free not_free;
    made_are = ap (λ m. m ++ operations_of l class cell look) passes.made_are ∙ ap (λ n. operations_from l class 0 passes.looks ++ operations_of l class n look) here ∙ sym (operations-push 0 passes.looks look);
  }

module _ (l : Layout) (class : ℕ) (collect : Collect) (well_formed : IsWellFormed l) where
  abbrev at : ℕ → ClaimStage → Claim
  at cell stage = claim_at l class collect cell stage

  abbrev cells : ℕ
  cells = (class_at l.classes class).1

  -- the cells before the one that it is at were looked at, and this one's load showed that it is
  -- free
  abbrev KnowsAt : List Answered → ℕ → ClaimStage → Type 0
  KnowsAt made cell Looking = PassesOver l class cell made
  KnowsAt made cell Taking = (before : List Answered) × PassesOver l class cell before × (made ≡ before ++ loads l class cell 0 ∷ [])

  abbrev Knows : List Answered → Claim → Type 0
  Knows made piece = (cell : ℕ) × (stage : ClaimStage) × (piece ≡ at cell stage) × IsCell l.classes class cell × KnowsAt made cell stage

  abbrev Ends : List Answered → Option ℕ → Type 0
  Ends made None = PassesOver l class cells made
  Ends made (Some place) = Wins l class place made

  abbrev Known : List Answered → Next Claim (Option ℕ) → Type 0
  Known made next = ThenOf claim_work Knows Ends made next

  abbrev place_of_state : ℕ → ℕ
  place_of_state cell = place_of l (Header (Cell class cell) State)

  passed : (made : List Answered) (cell : ℕ) (stage : ClaimStage) → IsCell l.classes class cell → PassesOver l class (cell + 1) made → Known made (pass_over (at cell stage))
  unfolding pass_over
  passed made cell stage is passes =
      by_less (λ b. Known made (if b then record { piece = at (cell + 1) Looking; told = More } else record { piece = at cell stage; told = Done None })) (cell + 1) cells
      (λ more. (cell + 1, Looking, refl, record { class_in_range = is.class_in_range; cell_in_range = more }, passes))
      (λ last. subst (λ n. PassesOver l class n made) (let all : cell + 1 ≡ cells = omega (arith, last, is.cell_in_range) in all) passes)

  step_at : (made : List Answered) (cell : ℕ) (stage : ClaimStage) (answer : ℕ) → IsCell l.classes class cell → KnowsAt made cell stage → Known (made ++ record { op = claim_op stage (place_of_state cell); answer = answer } ∷ []) (claim_work.takes (at cell stage) answer)
  unfolding claim_op take_free
  step_at made cell Looking answer is passes =
      by_equal (λ b. Known (made ++ loads l class cell answer ∷ []) (if b then record { piece = at cell Taking; told = More } else pass_over (at cell Looking))) answer 0
      (λ free. (cell, Taking, refl, is, (made, passes, ap (λ a. made ++ loads l class cell a ∷ []) free)))
      (λ not_free. passed (made ++ loads l class cell answer ∷ []) cell Looking is (passes_more l class cell made (Taken answer) not_free passes))
  step_at made cell Taking answer is (before, passes, made_are) =
      let all : made ++ exchanges l class cell answer ∷ [] ≡ before ++ loads l class cell 0 ∷ (exchanges l class cell answer ∷ []) =
      ap (λ m. m ++ exchanges l class cell answer ∷ []) made_are ∙ append_assoc before (loads l class cell 0 ∷ []) (exchanges l class cell answer ∷ []) in
      by_equal (λ b. Known (made ++ exchanges l class cell answer ∷ []) (if b then record { piece = at cell Taking; told = Done (Some (claim_place (at cell Taking))) } else pass_over (at cell Taking))) answer 0
      (λ won. record {
        cell = cell;
        in_class = is;
        place_is = sym (place_at l class collect well_formed cell Taking is);
        before = before;
        passes = passes;
        made_are = all ∙ ap (λ a. before ++ loads l class cell 0 ∷ (exchanges l class cell a ∷ [])) won;
      })
      (λ lost. subst (λ m. Known m (pass_over (at cell Taking))) (sym all) (passed (before ++ loads l class cell 0 ∷ (exchanges l class cell answer ∷ [])) cell Taking is (passes_more l class cell before (Lost answer) lost passes)))

  step : (made : List Answered) (piece : Claim) (answer : ℕ) → Knows made piece → ThenOf claim_work Knows Ends (made ++ record { op = claim_work.wants piece; answer = answer } ∷ []) (claim_work.takes piece answer)
  step made piece answer (cell, stage, piece_is, is, known) =
      let here : Known (made ++ record { op = claim_work.wants (at cell stage); answer = answer } ∷ []) (claim_work.takes (at cell stage) answer) =
      subst (λ op. Known (made ++ record { op = op; answer = answer } ∷ []) (claim_work.takes (at cell stage) answer)) (sym (wants_at l class collect well_formed cell stage is)) (step_at made cell stage answer is known) in
      subst (λ p. Known (made ++ record { op = claim_work.wants p; answer = answer } ∷ []) (claim_work.takes p answer)) (sym piece_is) here

  pub ends : (answers : List ℕ) (out : Option ℕ) → OfClass l class (claim l class collect) → TellsAfter claim_work (claim l class collect) answers out → Ends (operations_at claim_work (claim l class collect) answers) out
  ends answers out is told =
      at_any_answers claim_work Knows Ends step answers [] (claim l class collect) out
      (0, Looking, refl, is.in_class, record { looks = []; as_many = refl; not_free = All-nil (λ look. word_in look ≢ 0); made_are = refl }) told
