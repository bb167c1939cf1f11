-- `printf`: the lock, each piece with its count, and the release of the lock.
use Rattle.std.proofs.Common.{◌≡◌, ◌≢◌, ℕ, zero, suc, ◌+◌, ◌<◌, ◌≤◌, List, [], ◌∷◌, ◌++◌, Some, None, refl, sym, ap, ◌∙◌, subst, arith}
use Rattle.std.specs.Prelude.{All}
use Rattle.std.proofs.lemmas.List.Elements.{All-head, All-tail}
use Rattle.filc_num.specs.declared.integer.BinOp.TheVariants.{Add}
use Rattle.filc_num.specs.declared.integer.IntType.TheVariants.{I32}
use Rattle.c_tree.specs.declared.operation.Access.TheVariants as access
use Rattle.c_tree.specs.declared.operation.Piece.{Piece}
use Rattle.c_tree.specs.declared.operation.Piece.TheVariants as piece
use Rattle.c_tree.specs.Operands.{Outline}
use Rattle.c_tree.specs.Fits.{PieceFits}
use Rattle.whole_code.specs.declared.op.Op.{Op}
use Rattle.whole_code.specs.declared.op.Op.TheVariants as code
use Rattle.whole_code.specs.Numbers.{type_number}
use Rattle.ideal_machine.specs.declared.value.Value.{Value}
use Rattle.ideal_machine.specs.Values.{State, integer, value_at, put_at}
use Rattle.ideal_machine.specs.Play.{Gives, bind, Log, Goes, run}
use Rattle.ideal_machine.specs.Phrases.{Phrase, arithmetic, put_out}
use Rattle.ideal_machine.specs.IntAccess.{store_int}
use Rattle.ideal_machine.proofs.Values.{value_at-put_same, value_at-put_other}
use Rattle.tree_play.specs.Around.{Around, in_state}
use Rattle.tree_play.specs.Printing.{put_piece, put_pieces, print}
use Rattle.expr_gen.specs.Operations.{binary_op, pieces_ops}
use Rattle.expr_gen.specs.Code.{instructions, print_code}
use Rattle.expr_gen.specs.Stretch.{Site, around_at, Between, from, Landing, Runs, HasWords, CallRuns, values_from, Matches, Arrived, InRegister}
use Rattle.expr_gen.proofs.Registers.{matches_same}
use Rattle.expr_gen.proofs.Stretch.{line_at, bind_bind, lands, bind_runs, Has}
use Rattle.expr_gen.proofs.Instructions.{const_runs, move_runs, does_runs, binary_runs, store_runs}
use Rattle.expr_gen.proofs.Rounds.{lock_runs}
use Rattle.expr_gen.proofs.Calls.{call_runs}

value_from_at : (regs : List Value) (t n i : ℕ) → i < n → value_at (values_from regs t n) i ≡ value_at regs (t + i)
value_from_at regs t zero i lt = absurd (omega (arith, lt))
value_from_at regs t (suc n) zero lt = let e : t ≡ t + 0 = omega arith in ap (value_at regs) e
value_from_at regs t (suc n) (suc i) lt =
    let e : t + 1 + i ≡ t + suc i = omega arith in value_from_at regs (t + 1) n i (omega (arith, lt)) ∙ ap (value_at regs) e

module _ (site : Site) (rounds : ℕ) (call : (function line : ℕ) → List Value → Phrase Value) (more : 0 < rounds) (calls : CallRuns site call) (k t to : ℕ) (base : List Value) (le : k ≤ t)
    (outline : Outline) where
  module _ (line n : ℕ) (regs : List Value) (env : State) where
    -- where the phrase gives the count
    abbrev P : Landing (Unit {0}) Value
    P _ v at after = Arrived k t to base (InRegister t) env v at after

    abbrev l : ℕ
    l = line_at site line

    abbrev around : Around
    around = around_at site rounds call

    abbrev values : List Value
    values = values_from regs t n

    -- the register that counts
    abbrev c : ℕ
    c = t + n

    abbrev Below : List Value → Type 0
    Below regs1 = (x : ℕ) → x < c → value_at regs1 x ≡ value_at regs x

    abbrev Continues : List Op → (Value → Phrase Value) → Type 0
    Continues rest go =
        (total : Value) (pc : ℕ) (regs1 : List Value) (w : Log) → HasWords w → Between site pc (instructions site.library line rest) to → value_at regs1 c ≡ total → Below regs1 →
        Runs site P (from site pc regs1) w (run (go total) w)

    below_put : (d : ℕ) (v : Value) (regs1 : List Value) → c ≤ d → Below regs1 → Below (put_at regs1 d v)
    below_put d v regs1 le below x lt = let ne : x ≢ d = omega (arith, lt, le) in value_at-put_other regs1 d x v ne ∙ below x lt

    operand_at : (i : ℕ) (regs1 : List Value) → i < n → Below regs1 → value_at regs1 (t + i) ≡ value_at values i
    operand_at i regs1 lt below = below (t + i) (omega (arith, lt)) ∙ sym (value_from_at regs t n i lt)

    -- the bytes of a piece are in c + 1, and are counted
    add_runs :
        (pieces : List Piece) (count bytes : Value) (pc : ℕ) (regs1 : List Value) (w : Log) (go : Value → Phrase Value) → HasWords w →
        Has site pc line (binary_op Add I32 c c (c + 1)) → value_at regs1 c ≡ count → value_at regs1 (c + 1) ≡ bytes → Below regs1 →
        ((total : Value) (regs2 : List Value) (w1 : Log) → HasWords w1 → value_at regs2 c ≡ total → Below regs2 →
        Runs site P (from site (pc + 1) regs2) w1 (run (bind (put_pieces around values l pieces total) (λ _ v. go v)) w1)) →
        Runs site P (from site pc regs1) w
        (run (bind (bind (arithmetic Add I32 count bytes l) (λ _ total. put_pieces around values l pieces total)) (λ _ v. go v)) w)
    add_runs pieces count bytes pc regs1 w go words h ec eb below next =
        subst (Runs site P (from site pc regs1) w) (sym (bind_bind (arithmetic Add I32 count bytes l) (λ _ total. put_pieces around values l pieces total) (λ _ v. go v) w))
        (binary_runs site P pc line c c (c + 1) Add I32 count bytes regs1 w (λ total. bind (put_pieces around values l pieces total) (λ _ v. go v)) words h ec eb
        (λ total w1 words1. next total (put_at regs1 c total) w1 words1 (value_at-put_same regs1 c total) (below_put c total regs1 (omega arith) below)))

    pieces_run :
        (pieces : List Piece) (rest : List Op) (count : Value) (pc : ℕ) (regs1 : List Value) (w : Log) (go : Value → Phrase Value) → HasWords w → All (PieceFits outline n) pieces →
        Between site pc (instructions site.library line (pieces_ops pieces t c ++ rest)) to → value_at regs1 c ≡ count → Below regs1 → Continues rest go →
        Runs site P (from site pc regs1) w (run (bind (put_pieces around values l pieces count) (λ _ v. go v)) w)
    pieces_run [] rest count pc regs1 w go words fits has ec below each = each count pc regs1 w words has ec below
    pieces_run (piece.Byte byte ∷ pieces) rest count pc regs1 w go words fits has ec below each =
        let add = λ (bytes : Value). bind (arithmetic Add I32 count bytes l) (λ _ total. put_pieces around values l pieces total) in
        let out = put_out (integer byte) l in
        let after = bind (add (integer 1)) (λ _ v. go v) in
        let regs2 = put_at regs1 (c + 1) (integer byte) in
        let regs3 = put_at regs2 (c + 1) (integer 1) in
        let ne : c ≢ c + 1 = omega arith in
        let le1 : c ≤ c + 1 = omega arith in
        const_runs site P pc line (c + 1) byte regs1 w (run (bind (put_pieces around values l (piece.Byte byte ∷ pieces) count) (λ _ v. go v)) w) has.0
        (subst (Runs site P (from site (pc + 1) regs2) w)
        (sym (bind_bind (put_piece around values l (piece.Byte byte)) (λ _ bytes. add bytes) (λ _ v. go v) w ∙ bind_bind out (λ _ _. Gives tt (integer 1)) (λ _ bytes. bind (add bytes) (λ _ v. go v)) w))
        (does_runs site P (pc + 1) line (code.Out (c + 1)) (put_out (value_at regs2 (c + 1)) l) out regs2 w after words has.1.0 (λ m. refl)
        (ap (λ v. put_out v l) (value_at-put_same regs1 (c + 1) (integer byte)))
        (λ w1 words1.
        const_runs site P (pc + 1 + 1) line (c + 1) 1 regs2 w1 (run after w1) has.1.1.0
        (add_runs pieces count (integer 1) (pc + 1 + 1 + 1) regs3 w1 go words1 has.1.1.1.0
        (value_at-put_other regs2 (c + 1) c (integer 1) ne ∙ value_at-put_other regs1 (c + 1) c (integer byte) ne ∙ ec) (value_at-put_same regs2 (c + 1) (integer 1))
        (below_put (c + 1) (integer 1) regs2 le1 (below_put (c + 1) (integer byte) regs1 le1 below))
        (λ total regs4 w2 words2 ec2 below2.
        pieces_run pieces rest total (pc + 1 + 1 + 1 + 1) regs4 w2 go words2 (All-tail (PieceFits outline n) (piece.Byte byte) pieces fits) has.1.1.1.1 ec2 below2 each)))))
    pieces_run (piece.Out operand ∷ pieces) rest count pc regs1 w go words fits has ec below each =
        let add = λ (bytes : Value). bind (arithmetic Add I32 count bytes l) (λ _ total. put_pieces around values l pieces total) in
        let fit = All-head (PieceFits outline n) (piece.Out operand) pieces fits in
        let v = value_at values operand in
        let out = put_out v l in
        let after = bind (add (integer 1)) (λ _ v. go v) in
        let regs3 = put_at regs1 (c + 1) (integer 1) in
        let ne : c ≢ c + 1 = omega arith in
        let le1 : c ≤ c + 1 = omega arith in
        subst (Runs site P (from site pc regs1) w)
        (sym (bind_bind (put_piece around values l (piece.Out operand)) (λ _ bytes. add bytes) (λ _ v. go v) w ∙ bind_bind out (λ _ _. Gives tt (integer 1)) (λ _ bytes. bind (add bytes) (λ _ v. go v)) w))
        (does_runs site P pc line (code.Out (t + operand)) (put_out (value_at regs1 (t + operand)) l) out regs1 w after words has.0 (λ m. refl)
        (ap (λ v. put_out v l) (operand_at operand regs1 fit.1 below))
        (λ w1 words1.
        const_runs site P (pc + 1) line (c + 1) 1 regs1 w1 (run after w1) has.1.0
        (add_runs pieces count (integer 1) (pc + 1 + 1) regs3 w1 go words1 has.1.1.0
        (value_at-put_other regs1 (c + 1) c (integer 1) ne ∙ ec) (value_at-put_same regs1 (c + 1) (integer 1)) (below_put (c + 1) (integer 1) regs1 le1 below)
        (λ total regs4 w2 words2 ec2 below2.
        pieces_run pieces rest total (pc + 1 + 1 + 1) regs4 w2 go words2 (All-tail (PieceFits outline n) (piece.Out operand) pieces fits) has.1.1.1 ec2 below2 each))))
    pieces_run (piece.Put f operand None ∷ pieces) rest count pc regs1 w go words fits has ec below each =
        let add = λ (bytes : Value). bind (arithmetic Add I32 count bytes l) (λ _ total. put_pieces around values l pieces total) in
        let fit = All-head (PieceFits outline n) (piece.Put f operand None) pieces fits in
        let v = value_at values operand in
        let regs2 = put_at regs1 (c + 1) v in
        let ne : c ≢ c + 1 = omega arith in
        let le1 : c ≤ c + 1 = omega arith in
        subst (Runs site P (from site pc regs1) w)
        (sym (bind_bind (put_piece around values l (piece.Put f operand None)) (λ _ bytes. add bytes) (λ _ v. go v) w))
        (move_runs site P pc line (c + 1) (t + operand) v regs1 w (run (bind (put_piece around values l (piece.Put f operand None)) (λ _ bytes. bind (add bytes) (λ _ v. go v))) w) has.0
        (operand_at operand regs1 fit.0.1 below)
        (call_runs site P call calls (pc + 1) line (c + 1) f (c + 1) 1 (v ∷ []) regs2 w (λ bytes. bind (add bytes) (λ _ v. go v)) words has.1.0
        (ap (λ x. x ∷ []) (value_at-put_same regs1 (c + 1) v))
        (λ bytes w1 words1.
        add_runs pieces count bytes (pc + 1 + 1) (put_at regs2 (c + 1) bytes) w1 go words1 has.1.1.0
        (value_at-put_other regs2 (c + 1) c bytes ne ∙ value_at-put_other regs1 (c + 1) c v ne ∙ ec) (value_at-put_same regs2 (c + 1) bytes)
        (below_put (c + 1) bytes regs2 le1 (below_put (c + 1) v regs1 le1 below))
        (λ total regs4 w2 words2 ec2 below2.
        pieces_run pieces rest total (pc + 1 + 1 + 1) regs4 w2 go words2 (All-tail (PieceFits outline n) (piece.Put f operand None) pieces fits) has.1.1.1 ec2 below2 each))))
    pieces_run (piece.Put f operand (Some radix) ∷ pieces) rest count pc regs1 w go words fits has ec below each =
        let add = λ (bytes : Value). bind (arithmetic Add I32 count bytes l) (λ _ total. put_pieces around values l pieces total) in
        let fit = All-head (PieceFits outline n) (piece.Put f operand (Some radix)) pieces fits in
        let v = value_at values operand in
        let r = integer radix in
        let regs2 = put_at regs1 (c + 1) v in
        let regs3 = put_at regs2 (c + 2) r in
        let ne : c ≢ c + 1 = omega arith in
        let ne2 : c ≢ c + 2 = omega arith in
        let ne3 : c + 1 ≢ c + 2 = omega arith in
        let le1 : c ≤ c + 1 = omega arith in
        let le2 : c ≤ c + 2 = omega arith in
        let e2 : c + 1 + 1 ≡ c + 2 = omega arith in
        subst (Runs site P (from site pc regs1) w)
        (sym (bind_bind (put_piece around values l (piece.Put f operand (Some radix))) (λ _ bytes. add bytes) (λ _ v. go v) w))
        (move_runs site P pc line (c + 1) (t + operand) v regs1 w (run (bind (put_piece around values l (piece.Put f operand (Some radix))) (λ _ bytes. bind (add bytes) (λ _ v. go v))) w) has.0
        (operand_at operand regs1 fit.0.1 below)
        (const_runs site P (pc + 1) line (c + 2) radix regs2 w (run (bind (put_piece around values l (piece.Put f operand (Some radix))) (λ _ bytes. bind (add bytes) (λ _ v. go v))) w) has.1.0
        (call_runs site P call calls (pc + 1 + 1) line (c + 1) f (c + 1) 2 (v ∷ r ∷ []) regs3 w (λ bytes. bind (add bytes) (λ _ v. go v)) words has.1.1.0
        (ap (λ x. x ∷ value_at regs3 (c + 1 + 1) ∷ []) (value_at-put_other regs2 (c + 2) (c + 1) r ne3 ∙ value_at-put_same regs1 (c + 1) v)
        ∙ ap (λ x. v ∷ x ∷ []) (ap (value_at regs3) e2 ∙ value_at-put_same regs2 (c + 2) r))
        (λ bytes w1 words1.
        add_runs pieces count bytes (pc + 1 + 1 + 1) (put_at regs3 (c + 1) bytes) w1 go words1 has.1.1.1.0
        (value_at-put_other regs3 (c + 1) c bytes ne ∙ value_at-put_other regs2 (c + 2) c r ne2 ∙ value_at-put_other regs1 (c + 1) c v ne ∙ ec) (value_at-put_same regs3 (c + 1) bytes)
        (below_put (c + 1) bytes regs3 le1 (below_put (c + 2) r regs2 le2 (below_put (c + 1) v regs1 le1 below)))
        (λ total regs4 w2 words2 ec2 below2.
        pieces_run pieces rest total (pc + 1 + 1 + 1 + 1) regs4 w2 go words2 (All-tail (PieceFits outline n) (piece.Put f operand (Some radix)) pieces fits) has.1.1.1.1 ec2 below2 each)))))

    -- the lock becomes 0, and the count comes into t
    release_runs : 0 < n → Matches k t base regs env → (lock : Value) → value_at regs t ≡ lock →
        Continues (code.Const (c + 1) 0 ∷ code.StoreInt t (c + 1) (type_number I32) ∷ code.Move t c ∷ []) (λ total. bind (store_int site.start.base I32 lock (integer 0) l) (λ _ _. Gives tt total))
    release_runs some matches lock el total pc regs1 w words has ec below =
        let regs2 = put_at regs1 (c + 1) (integer 0) in
        let ne : c ≢ c + 1 = omega arith in
        let nt : t ≢ c + 1 = omega arith in
        let lt : t < c = omega (arith, some) in
        const_runs site P pc line (c + 1) 0 regs1 w (run (bind (store_int site.start.base I32 lock (integer 0) l) (λ _ _. Gives tt total)) w) has.0
        (store_runs site P (access.Integer I32) (pc + 1) line t (c + 1) lock (integer 0) regs2 w (Gives tt total) words has.1.0
        (value_at-put_other regs1 (c + 1) t (integer 0) nt ∙ below t lt ∙ el) (value_at-put_same regs1 (c + 1) (integer 0))
        (λ w1 _.
        move_runs site P (pc + 1 + 1) line t c total regs2 w1 (Goes tt total w1) has.1.1.0 (value_at-put_other regs1 (c + 1) c (integer 0) ne ∙ ec)
        (lands site P (pc + 1 + 1 + 1) (put_at regs2 t total) w1 tt total (record {
          here = has.1.1.1;
          matches = matches_same k t base regs (put_at regs2 t total) env le
              (λ x lx.
              let n0 : x ≢ t = omega (arith, lx) in
              let n1 : x ≢ c + 1 = omega (arith, lx) in
              let l2 : x < c = omega (arith, lx) in
              value_at-put_other regs2 t x total n0 ∙ value_at-put_other regs1 (c + 1) x (integer 0) n1 ∙ below x l2) matches;
          value = value_at-put_same regs2 t total;
        }))))

  pub print_runs :
      (pieces : List Piece) (line pc n : ℕ) (regs : List Value) (env : State) (w : Log) → HasWords w → Matches k t base regs env → 0 < n → All (PieceFits outline n) pieces →
      Between site pc (print_code site.library pieces line t n) to →
      Runs site (Arrived k t to base (InRegister t)) (from site pc regs) w (run (in_state env (print (around_at site rounds call) pieces (line_at site line) (values_from regs t n))) w)
  print_runs pieces line pc zero regs env w words matches some fits has = absurd (omega (arith, some))
  print_runs pieces line pc (suc m) regs env w words matches some fits has =
      let n = suc m in
      let l = line_at site line in
      let lock = value_at regs t in
      let around = around_at site rounds call in
      let Q = P line n regs env in
      let release = λ (total : Value). bind (store_int site.start.base I32 lock (integer 0) l) (λ _ _. Gives tt total) in
      let counts = bind (put_pieces around (values_from regs t n) l pieces (integer 0)) (λ _ total. release total) in
      let rest = code.Const (t + n + 1) 0 ∷ code.StoreInt t (t + n + 1) (type_number I32) ∷ code.Move t (t + n) ∷ [] in
      bind_runs site Q (Arrived k t to base (InRegister t)) (from site pc regs) w (print around pieces l (values_from regs t n)) (λ _ v. Gives env v) words
      (lock_runs site Q rounds more pc line t lock regs w counts words has.0 refl
      (λ w1 words1.
      const_runs site Q (pc + 1) line (t + n) 0 regs w1 (run counts w1) has.1.0
      (pieces_run line n regs env pieces rest (integer 0) (pc + 1 + 1) (put_at regs (t + n) (integer 0)) w1 release words1 fits has.1.1 (value_at-put_same regs (t + n) (integer 0))
      (below_put line n regs env (t + n) (integer 0) regs (omega arith) (λ x _. refl)) (release_runs line n regs env some matches lock refl))))
      (λ _ v at after w1 _ h. lands site (Arrived k t to base (InRegister t)) at after w1 env v h)
