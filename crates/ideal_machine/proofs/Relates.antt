-- What relates two plays that are made alike, phrase by phrase.
--
-- A relation that goes along with each way to make a play, and with two bounds on rounds, relates every phrase to itself. It is
-- shown once here, and serves each law that goes through all of C's text or all of code: that a greater bound only
-- adds, that a cut is far away, that nothing follows an end.
use Rattle.std.proofs.Common.{◌≡◌, ℕ, zero, suc, List, Option, Some, None, Bool, true, false, Result, Ok, Err, refl}
use Rattle.std.specs.Prelude.{slice_get, ◌==◌, if◌then◌else◌}
use Rattle.filc_num.specs.declared.integer.IntType.{IntType}
use Rattle.filc_num.specs.declared.integer.BinOp.{BinOp}
use Rattle.filc_num.specs.declared.integer.ArithFault.{ArithFault}
use Rattle.filc_num.specs.declared.reason.Reason.{Reason}
use Rattle.ideal_machine.specs.declared.value.Half.{Half}
use Rattle.ideal_machine.specs.declared.value.Half.TheVariants.{Nothing, Freed, Object as ObjectHalf, Function as FunctionHalf}
use Rattle.ideal_machine.specs.declared.value.Found.{Found}
use Rattle.ideal_machine.specs.declared.value.Found.TheVariants.{Plain as FoundPlain, Pair as FoundPair}
use Rattle.ideal_machine.specs.declared.value.Value.{Value}
use Rattle.ideal_machine.specs.declared.event.Access.{Access}
use Rattle.ideal_machine.specs.declared.event.Operation.{Operation}
use Rattle.ideal_machine.specs.Values.{integer}
use Rattle.ideal_machine.specs.Queries.{Query, Reply, Locks, LockReply, Taken, CheckedAgain, NewObject, event_of}
use Rattle.ideal_machine.specs.Play.{Play, Gives, Asks, Jump, Call, bind}
use Rattle.ideal_machine.specs.Phrases.{Phrase, trap, unless_refused, exit, put_out, operator_result, arithmetic_result, arithmetic, if_zero}
use Rattle.ideal_machine.specs.Retries.{retry}
use Rattle.ideal_machine.specs.Addresses.{look_at, distance, compare, int_of_pointer}
use Rattle.ideal_machine.specs.IntAccess.{check_access, load_int, store_int, update_int, exchange_int}
use Rattle.ideal_machine.specs.PointerAccess.{check_store, pointer_found, load_pointer, store_pointer, store_pair, swap_pair, replace_seen, exchange_round, exchange_pair}
use Rattle.ideal_machine.specs.Lifetimes.{home_or_trap, make_home, make_object, free_object, size_or_trap, tell_size}
use Rattle.ideal_machine.specs.Threads.{lock_result, take_lock, if_kind, function_of_half, function_named, thread_kind, start_thread, join_thread, take_in}
use Rattle.ideal_machine.specs.Endings.{is_end}

-- it goes along with each way to make a play, where the second has another bound on rounds
pub record Relates (rounds rounds' : ℕ) (R : (S A : Type 0) → Play S A → Play S A → Type 0) : Type 1 where
  pub gives : {S A : Type 0} (state : S) (value : A) → R S A (Gives state value) (Gives state value)
  pub asks :
      {S A : Type 0} (query : Query) (next next' : Reply query → Play S A) → ((reply : Reply query) → is_end (event_of query reply) ≡ false) →
      ((reply : Reply query) → R S A (next reply) (next' reply)) → R S A (Asks query next) (Asks query next')
  pub checks :
      (base : ℕ → ℕ) (p : Value) (width : ℕ) (write : Bool) (line : ℕ) →
      R (Unit {0}) Access (check_access base p width write line) (check_access base p width write line)
  pub cell_checks : (base : ℕ → ℕ) (p : Value) (line : ℕ) → R (Unit {0}) Access (check_store base p line) (check_store base p line)
  pub traps : {S A : Type 0} (reason : Reason) (line : ℕ) → R S A (trap reason line) (trap reason line)
  pub exits : (value : Value) → R (Unit {0}) ℕ (exit value) (exit value)
  pub jumps : {S A : Type 0} (p p' : Play S A) → R S A p p' → R S A (Jump p) (Jump p')
  pub calls : {S A : Type 0} (p p' : Play S A) → R S A p p' → R S A (Call p) (Call p')
  pub binds :
      {S A T B : Type 0} (p p' : Play S A) (go go' : S → A → Play T B) → R S A p p' → ((s : S) (v : A) → R T B (go s v) (go' s v)) → R T B (bind p go) (bind p' go')
  pub retries : {X : Type 0} (step : Phrase (Option X)) → R (Unit {0}) (Option X) step step → R (Unit {0}) X (retry rounds step) (retry rounds' step)

module _ (rounds rounds' : ℕ) (R : (S A : Type 0) → Play S A → Play S A → Type 0) (r : Relates rounds rounds' R) where
  abbrev Related : {S A : Type 0} → Play S A → Play S A → Type 0
  Related {S} {A} p q = R S A p q

  -- a play is related to itself
  abbrev Self : {S A : Type 0} → Play S A → Type 0
  Self p = Related p p

  self_bind : {S A T B : Type 0} (p : Play S A) (go : S → A → Play T B) → Self p → ((s : S) (v : A) → Self (go s v)) → Self (bind p go)
  self_bind p go h each = r.binds p p go go h each

  pub either : {S A : Type 0} (b : Bool) (p q p' q' : Play S A) → Related p p' → Related q q' → Related (if b then p else q) (if b then p' else q')
  either true p q p' q' h k = h
  either false p q p' q' h k = k

  pub by_zero : {S A : Type 0} (n : ℕ) (p q p' q' : Play S A) → Related p p' → Related q q' → Related (if_zero n p q) (if_zero n p' q')
  by_zero zero p q p' q' h k = h
  by_zero (suc n) p q p' q' h k = k

  refusal : {S A : Type 0} (line : ℕ) (go : Play S A) → Self go → (reply : Option Reason) → Self (unless_refused line go reply)
  refusal line go h None = h
  refusal line go h (Some reason) = r.traps reason line

  -- ---- output and arithmetic

  pub out : (v : Value) (line : ℕ) → Self (put_out v line)
  out v line = r.asks _ _ _ (λ _. refl) (refusal line (Gives tt tt) (r.gives tt tt))

  result : (o : Result ℕ ArithFault) (line : ℕ) → Self (arithmetic_result o line)
  result (Ok n) line = r.gives tt (integer n)
  result (Err fault) line = r.traps _ line

  pub operator : (op : BinOp) (ty : IntType) (a b : Value) (line : ℕ) → Self (arithmetic op ty a b line)
  operator op ty a b line = result (operator_result op ty a.number b.number) line

  -- ---- addresses

  look : (p : Value) → Self (look_at p)
  look p = r.asks _ _ _ (λ _. refl) (λ _. r.gives tt _)

  pub between : (bytes : ℕ) (p q : Value) → Self (distance bytes p q)
  between bytes p q = r.asks _ _ _ (λ _. refl) (λ _. r.asks _ _ _ (λ _. refl) (λ _. r.gives tt _))

  pub comparison : (op : BinOp) (p q : Value) (line : ℕ) → Self (compare op p q line)
  comparison op p q line = r.asks _ _ _ (λ _. refl) (λ _. r.asks _ _ _ (λ _. refl) (λ _. operator op _ p q line))

  pub as_int : (ty : IntType) (p : Value) → Self (int_of_pointer ty p)
  as_int ty p = r.asks _ _ _ (λ _. refl) (λ _. r.gives tt _)

  -- ---- integers

  pub read : (base : ℕ → ℕ) (ty : IntType) (p : Value) (line : ℕ) → Self (load_int base ty p line)
  read base ty p line = self_bind _ _ (r.checks base p _ false line) (λ _ access. r.asks _ _ _ (λ _. refl) (λ n. r.gives tt _))

  pub write : (base : ℕ → ℕ) (ty : IntType) (p v : Value) (line : ℕ) → Self (store_int base ty p v line)
  write base ty p v line = self_bind _ _ (r.checks base p _ true line) (λ _ access. r.asks _ _ _ (λ _. refl) (λ _. r.gives tt _))

  pub update : (base : ℕ → ℕ) (ty : IntType) (p : Value) (operation : Operation) (v : Value) (line : ℕ) → Self (update_int base ty p operation v line)
  update base ty p operation v line =
      self_bind _ _ (r.checks base p _ true line) (λ _ access. r.asks _ _ _ (λ _. refl) (λ n. r.gives tt _))

  pub exchange : (base : ℕ → ℕ) (ty : IntType) (p expected desired : Value) (line : ℕ) → Self (exchange_int base ty p expected desired line)
  exchange base ty p expected desired line = self_bind _ _ (r.checks base p _ true line) (λ _ access. r.asks _ _ _ (λ _. refl) (λ _. r.gives tt _))

  -- ---- pointers

  pointer : (access : Access) (f : Found) → Self (pointer_found access f)
  pointer access (FoundPlain half) = r.asks _ _ _ (λ _. refl) (λ n. r.gives tt _)
  pointer access (FoundPair pair) = r.asks _ _ _ (λ _. refl) (λ opened. r.gives tt _)

  pub read_both : (base : ℕ → ℕ) (p : Value) (line : ℕ) → Self (load_pointer base p line)
  read_both base p line =
      self_bind _ _ (r.checks base p 8 false line) (λ _ access. r.asks _ _ _ (λ _. refl) (λ f. pointer access f))

  pub write_both : (base : ℕ → ℕ) (p v : Value) (line : ℕ) → Self (store_pointer base p v line)
  write_both base p v line =
      self_bind _ _ (r.cell_checks base p line) (λ _ access. r.asks _ _ _ (λ _. refl) (λ _. r.asks _ _ _ (λ _. refl) (λ _. r.gives tt _)))

  pub write_pair : (base : ℕ → ℕ) (p v : Value) (line : ℕ) → Self (store_pair base p v line)
  write_pair base p v line = self_bind _ _ (r.cell_checks base p line) (λ _ access. r.asks _ _ _ (λ _. refl) (λ _. r.gives tt _))

  pub swap_both : (base : ℕ → ℕ) (p v : Value) (line : ℕ) → Self (swap_pair base p v line)
  swap_both base p v line =
      self_bind _ _ (r.cell_checks base p line) (λ _ access. r.asks _ _ _ (λ _. refl) (λ f. pointer access f))

  replacement : (access : Access) (seen : Found) (there desired : Value) → Self (replace_seen access seen there desired)
  replacement access seen there desired = r.asks _ _ _ (λ _. refl) (λ _. r.gives tt _)

  round : (access : Access) (expected desired : Value) → Self (exchange_round access expected desired)
  round access expected desired =
      r.asks _ _ _ (λ _. refl) (λ seen. self_bind _ _ (pointer access seen) (λ _ f. r.asks _ _ _ (λ _. refl) (λ _.
      either (f.number == expected.number) _ _ _ _ (replacement access seen f desired) (r.gives tt _))))

  pub exchange_both :
      (base : ℕ → ℕ) (p expected desired : Value) (line : ℕ) →
      Related (exchange_pair base rounds p expected desired line) (exchange_pair base rounds' p expected desired line)
  exchange_both base p expected desired line =
      r.binds _ _ _ _ (r.cell_checks base p line) (λ _ access. r.retries _ (round access expected desired))

  -- ---- lifetimes

  home_or : (line : ℕ) (made : Option NewObject) → Self (home_or_trap line made)
  home_or line None = r.traps _ line
  home_or line (Some made) = r.gives tt _

  pub home : (bytes line : ℕ) → Self (make_home bytes line)
  home bytes line = r.asks _ _ _ (λ _. refl) (λ made. home_or line made)

  pub object : (bytes : Value) → Self (make_object bytes)
  object bytes = r.asks _ _ _ (λ _. refl) (λ made. r.gives tt _)

  pub free : (p : Value) (line : ℕ) → Self (free_object p line)
  free p line = by_zero p.number _ _ _ _ (r.gives tt tt) (r.asks _ _ _ (λ _. refl) (refusal line _ (r.gives tt tt)))

  size_or : (line : ℕ) (size : Result ℕ Reason) → Self (size_or_trap line size)
  size_or line (Ok bytes) = r.gives tt _
  size_or line (Err reason) = r.traps reason line

  pub size : (p : Value) (line : ℕ) → Self (tell_size p line)
  size p line = r.asks _ _ _ (λ _. refl) (λ s. size_or line s)

  -- ---- locks, threads and input

  lock_reply : (line : ℕ) (reply : LockReply) → Self (lock_result line reply)
  lock_reply line Taken = r.gives tt _
  lock_reply line (CheckedAgain None) = r.gives tt _
  lock_reply line (CheckedAgain (Some reason)) = r.traps reason line

  lock_ends : (p : Value) (access : Access) (reply : LockReply) → is_end (event_of (Locks p.half p.number access.object access.offset) reply) ≡ false
  lock_ends p access Taken = refl
  lock_ends p access (CheckedAgain refusal) = refl

  pub lock : (base : ℕ → ℕ) (p : Value) (line : ℕ) → Related (take_lock base rounds p line) (take_lock base rounds' p line)
  lock base p line =
      r.binds _ _ _ _ (r.checks base p 4 true line)
      (λ _ access. r.retries _ (r.asks _ _ _ (lock_ends p access) (lock_reply line)))

  of_kind : (wanted f line : ℕ) (kind : Option ℕ) → Self (if_kind wanted f line kind)
  of_kind wanted f line None = r.traps _ line
  of_kind wanted f line (Some kind) = either (kind == wanted) _ _ _ _ (r.gives tt f) (r.traps _ line)

  of_half : (kinds : List ℕ) (wanted line : ℕ) (half : Half) → Self (function_of_half kinds wanted line half)
  of_half kinds wanted line (FunctionHalf f) = of_kind wanted f line (slice_get kinds f)
  of_half kinds wanted line Nothing = r.traps _ line
  of_half kinds wanted line Freed = r.traps _ line
  of_half kinds wanted line (ObjectHalf n) = r.traps _ line

  pub function : (kinds : List ℕ) (wanted : ℕ) (p : Value) (line : ℕ) → Self (function_named kinds wanted p line)
  function kinds wanted p line = of_half kinds wanted line p.half

  pub start : (kinds : List ℕ) (f v : Value) (line : ℕ) → Self (start_thread kinds f v line)
  start kinds f v line = self_bind _ _ (function kinds thread_kind f line) (λ _ g. r.asks _ _ _ (λ _. refl) (λ id. r.gives tt _))

  pub join : (id : Value) → Self (join_thread id)
  join id = r.asks _ _ _ (λ _. refl) (λ result. r.gives tt _)

  pub input : Self take_in
  input = r.asks _ _ _ (λ _. refl) (λ byte. r.gives tt _)
