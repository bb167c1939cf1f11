-- A body, and the function that it makes, by what was found of each part.
use Rattle.std.proofs.Common.{◌≡◌, ℕ, suc, ◌+◌, ◌<◌, ◌≤◌, List, [], ◌∷◌, ◌++◌, length, reverse, get_or, drop, sym, ap, ap₂, ◌∙◌, append_assoc, append-nil}
use Rattle.std.proofs.lemmas.List.{at_drop_all, at_drop_more}
use Rattle.std.specs.Prelude.{Option, Err}
use Rattle.c_syntax.specs.declared.file.BlockItem.{BlockItem}
use Rattle.c_syntax.specs.declared.file.Function.{Function}
use Rattle.c_types.specs.declared.ctype.Part.{Part}
use Rattle.c_tree.specs.declared.stmt.LocalDef.{LocalDef}
use Rattle.c_tree.specs.declared.stmt.Stmt.{Stmt}
use Rattle.c_expr_rules.specs.Outcomes.{State, Checked, Fine, next}
use Rattle.c_expr_rules.specs.Views.{Passes}
use Rattle.c_expr_rules.specs.declared.found.Fault.{Fault}
use Rattle.c_check_expr.proofs.Outcomes.{Fails, behind_passed, fails_at}
use Rattle.c_file_rules.specs.Constructs.{Here, in_order}
use Rattle.c_file_rules.specs.Functions.{listed_in, parameter_homes, at_body, inside_function, values_of, function_of}
use Rattle.c_file_rules.specs.Naming.{out_of_scope, leaves}
use Rattle.c_file_rules.specs.Statements.{item_checked, block_of, with_locals}
use Rattle.c_file_rules.specs.declared.jumps.Inside.{Inside}
use Rattle.c_file_rules.specs.declared.made.Made.{Made}
use Rattle.c_file_rules.specs.declared.parts.Listed.{Listed}
use Rattle.c_file_rules.specs.declared.parts.Prototype.{Prototype}
use Rattle.c_statements.specs.Bodied.{entered, home_of, made_with, body_of}
use Rattle.c_statements.specs.declared.functions.Counts.{Counts}
use Rattle.c_statements.specs.Waiting.{block_left}
use Rattle.c_statements.proofs.Steps.{next_fails, leaves_fails}

abbrev begun_with : State → (taken : List ℕ) → (count : ℕ) → (locals : List LocalDef) → State
begun_with t taken count locals = record t { taken = taken; above = record t.above { next_local = count; locals = reverse locals } }

-- the state at a body's begin
pub at_body_is :
    (here : Here) (prototype : Option Prototype) (s t : State) (taken : List ℕ) (count : ℕ) (locals : List LocalDef) →
    t ≡ entered prototype s → taken ≡ [] → count ≡ length (listed_in prototype) → locals ≡ parameter_homes here t 0 (listed_in prototype) →
    begun_with t taken count locals ≡ at_body here prototype s
at_body_is here prototype s t taken count locals e k c l =
    ap (λ (taken : List ℕ). begun_with t taken count locals) k
    ∙ ap (λ (count : ℕ). begun_with t [] count locals) c
    ∙ ap (λ (locals : List LocalDef). begun_with t [] (length (listed_in prototype)) locals) l
    ∙ ap (λ (t : State). begun_with t [] (length (listed_in prototype)) (parameter_homes here t 0 (listed_in prototype))) e

module _ (here : Here) (f : Function) (p : Part) (prototype : Option Prototype) (s begun : State) (inside : Inside) (items : List BlockItem)
    (b : begun ≡ at_body here prototype s) (i : inside ≡ inside_function s p) (l : items ≡ f.body.items) where
  abbrev behind : State → List Stmt → Checked Stmt
  behind s statements = block_of [] s statements

  abbrev made_of : State → Stmt → Checked Made
  made_of s tree = function_of here f p prototype s tree

  abbrev at_last : State → Made → Checked Made
  at_last s made = Fine (with_locals [] s) made

  first_is : in_order (item_checked here inside) begun items ≡ in_order (item_checked here (inside_function s p)) (at_body here prototype s) f.body.items
  first_is =
      ap (λ (b : State). in_order (item_checked here inside) b items) b
      ∙ ap (λ (i : Inside). in_order (item_checked here i) (at_body here prototype s) items) i
      ∙ ap (λ (l : List BlockItem). in_order (item_checked here (inside_function s p)) (at_body here prototype s) l) l

  body_is : body_of here f p prototype s ≡ next (leaves (next (next (in_order (item_checked here inside) begun items) behind) made_of)) at_last
  body_is = ap (λ (c : Checked (List Stmt)). next (leaves (next (next c behind) made_of)) at_last) (sym first_is)

  pub body_goes :
      (t u v : State) (statements : List Stmt) (tree : Stmt) (made : Made) →
      in_order (item_checked here inside) begun items ≡ Fine t statements → u ≡ with_locals [] t → tree ≡ block_left t statements →
      function_of here f p prototype u tree ≡ Fine u made → v ≡ out_of_scope u → body_of here f p prototype s ≡ Fine v made
  body_goes t u v statements tree made found q w m o =
      body_is
      ∙ ap (λ (c : Checked (List Stmt)). next (leaves (next (next c behind) made_of)) at_last) found
      ∙ ap₂ (λ (u : State) (tree : Stmt). next (leaves (made_of u tree)) at_last) (sym q) (sym w)
      ∙ ap (λ (c : Checked Made). next (leaves c) at_last) m
      ∙ ap (λ (u : State). Fine (with_locals [] (out_of_scope u)) made) q
      ∙ ap (λ (u : State). Fine u made) (sym (o ∙ ap out_of_scope q))

  pub body_stops : (t : State) (fault : Fault) → Passes {A = List Stmt} t (Err fault) (in_order (item_checked here inside) begun items) → Fails fault (body_of here f p prototype s)
  body_stops t fault h =
      let c = in_order (item_checked here inside) begun items in
      fails_at fault (body_of here f p prototype s) (next (leaves (next (next c behind) made_of)) at_last) body_is
      (next_fails fault (leaves (next (next c behind) made_of)) at_last (leaves_fails fault (next (next c behind) made_of)
      (next_fails fault (next c behind) made_of (behind_passed t fault c behind h))))

-- ---- the homes of parameters, of which these are there

module _ (here : Here) (s : State) where
  pub homes_go :
      (homes more : List LocalDef) (number after : ℕ) (xs : List Listed) (i : ℕ) (x d : Listed) → i < length xs → x ≡ get_or xs i d →
      more ≡ homes ++ home_of here s number x → after ≡ suc number →
      more ++ parameter_homes here s after (drop (i + 1) xs) ≡ homes ++ parameter_homes here s number (drop i xs)
  homes_go homes more number after xs i x d within is m a =
      ap₂ (λ (l : List LocalDef) (n : ℕ). l ++ parameter_homes here s n (drop (i + 1) xs)) m a
      ∙ append_assoc homes (home_of here s number x) (parameter_homes here s (suc number) (drop (i + 1) xs))
      ∙ sym (at_drop_more (λ (l : List Listed). homes ++ parameter_homes here s number l) xs i d within
      ∙ ap (λ (y : Listed). homes ++ parameter_homes here s number (y ∷ drop (i + 1) xs)) (sym is))

  pub homes_end : (homes : List LocalDef) (number : ℕ) (xs : List Listed) (i : ℕ) → length xs ≤ i → homes ++ parameter_homes here s number (drop i xs) ≡ homes
  homes_end homes number xs i past = at_drop_all (λ (l : List Listed). homes ++ parameter_homes here s number l) xs i past ∙ append-nil homes

-- what is counted of it is what the definition counts
pub counted_made :
    (here : Here) (f : Function) (p : Part) (prototype : Option Prototype) (s : State) (c : Counts) (tree : Stmt) →
    c.values ≡ values_of s f → c.parameters ≡ length (listed_in prototype) → c.taken ≡ s.taken → function_of here f p prototype s tree ≡ Fine s (made_with here f p s c tree)
counted_made here f p prototype s c tree v n t =
    let of : (values parameters : ℕ) → List ℕ → Checked Made = λ values parameters taken. Fine s (made_with here f p s (record { values = values; parameters = parameters; taken = taken }) tree) in
    ap (λ (k : ℕ). of k (length (listed_in prototype)) s.taken) (sym v) ∙ ap (λ (k : ℕ). of c.values k s.taken) (sym n) ∙ ap (of c.values c.parameters) (sym t)
