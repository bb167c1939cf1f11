-- The code of every operation that fits is well formed.
use Rattle.std.proofs.Common.{◌≡◌, ℕ, zero, suc, ◌+◌, ◌-◌, ◌<◌, ◌≤◌, refl, List, [], ◌∷◌, ◌++◌, length, arith, subst, sym}
use Rattle.std.specs.Prelude.{slice_get, IsSomeAnd, Some, None}
use Rattle.filc_num.specs.declared.integer.BinOp.TheVariants.{Add, Sub, Xor, Eq}
use Rattle.filc_num.specs.declared.integer.IntType.TheVariants.{I32, U64}
use Rattle.c_tree.specs.declared.operation.Access.{Access}
use Rattle.c_tree.specs.declared.operation.Access.TheVariants as access
use Rattle.c_tree.specs.declared.operation.Change.{Change}
use Rattle.c_tree.specs.declared.operation.Change.TheVariants as change
use Rattle.c_tree.specs.declared.operation.Operation.{Operation}
use Rattle.c_tree.specs.declared.operation.Operation.TheVariants as op
use Rattle.c_tree.specs.declared.operation.Piece.{Piece}
use Rattle.c_tree.specs.declared.operation.Piece.TheVariants as piece
use Rattle.c_tree.specs.Operands.{Callee, Outline, Context, OpFits, ChangeFits, IsChangeOf}
use Rattle.c_tree.specs.Fits.{PieceFits}
use Rattle.ideal_machine.specs.Threads.{minus_one}
use Rattle.tree_play.specs.Memory.{unit_access, unit_bytes}
use Rattle.whole_code.specs.declared.op.Op.{Op}
use Rattle.whole_code.specs.declared.op.Op.TheVariants.{Const, Move, StaticAt, FunctionAt, Convert, PointerAdd, PointerSub, PointerCompare, ToInteger, ToPointer, Jump, JumpZero, LoadInt, StoreInt, CasInt, LoadPointer, StorePointer, BoxCas, Call, CallPointer, New, Free, Size, Lock, Out, Input, Spawn, Join, SelfId, Exit, Abort}
use Rattle.whole_code.specs.Numbers.{operator_number, type_number}
use Rattle.whole_code.specs.Plain.{PlainFunction}
use Rattle.whole_code.specs.WellFormed.{Named, IsOpWellFormed}
use Rattle.expr_gen.specs.Operations.{copy_ops, cas_ops, unsigned_of, operation_ops, piece_ops, pieces_ops, print_ops, binary_op, load_op, store_op, change_ops}
use Rattle.expr_gen.specs.Code.{op_size}
use Rattle.std.specs.List.{AllByRecursion}
use Rattle.code_fits.specs.Formed.{named_by}
use Rattle.code_fits.proofs.Instructions.{comparison_within, type_within, AreOps, formed, both, registers_from, binary_formed, load_formed, store_formed, swap_formed, fetch_formed, change_formed}

-- a function that is there has a number below their count
pub is_there : {X : Type 0} (l : List X) (k : ℕ) (P : X → Type 0) → IsSomeAnd (slice_get l k) P → k < length l
is_there [] zero P h = absurd h
is_there [] (suc k) P h = absurd h
is_there (x ∷ l) zero P h = omega arith
is_there (x ∷ l) (suc k) P h = omega (arith, is_there l k P h)

change_of : (lies : Access) (how : Change) → IsChangeOf lies how → ChangeFits how
change_of (access.Integer ty) (change.Integer o computed to) h = h.0
change_of (access.Integer ty) (change.Advance bytes) h = absurd h
change_of (access.Integer ty) (change.Retreat bytes) h = absurd h
change_of access.Pointer (change.Integer o computed to) h = absurd h
change_of access.Pointer (change.Advance bytes) h = h
change_of access.Pointer (change.Retreat bytes) h = h
change_of access.Box how h = absurd h

module _ (outline : Outline) (f : PlainFunction) where
  abbrev n : Named
  n = named_by outline

  copy_formed : (lies : Access) (bytes count t at : ℕ) → t + 7 ≤ f.values → at + 10 < length f.instructions → AreOps n f (copy_ops lies bytes count t at)
  copy_formed lies bytes count t at wide inside =
      let h0 : t < f.values = omega arith in
      let h1 : t + 1 < f.values = omega arith in
      let h2 : t + 2 < f.values = omega arith in
      let h3 : t + 3 < f.values = omega arith in
      let h4 : t + 4 < f.values = omega arith in
      let h5 : t + 5 < f.values = omega arith in
      let back : at + 3 < length f.instructions = omega arith in (
        formed n f (Move (t + 2) t) (h0, tt) (h2, tt) tt tt tt,
        (
          formed n f (Const (t + 3) count) tt (h3, tt) tt tt tt,
          (
            formed n f (Const (t + 4) 1) tt (h4, tt) tt tt tt,
            (
              formed n f (JumpZero (t + 3) (at + 10)) (h3, tt) tt inside tt tt,
              (
                load_formed n f lies (t + 5) (t + 1) h5 h1,
                (
                  store_formed n f lies (t + 2) (t + 5) h2 h5,
                  (
                    formed n f (PointerAdd (t + 2) (t + 2) (t + 4) bytes) (h2, (h4, tt)) (h2, tt) tt tt tt,
                    (
                      formed n f (PointerAdd (t + 1) (t + 1) (t + 4) bytes) (h1, (h4, tt)) (h1, tt) tt tt tt,
                      (
                        binary_formed n f Sub U64 (t + 3) (t + 3) (t + 4) h3 h3 h4 refl,
                        (formed n f (Jump (at + 3)) tt tt back tt tt, tt),
                      ),
                    ),
                  ),
                ),
              ),
            ),
          ),
        ),
      )

  pair_formed : (t at : ℕ) → t + 7 ≤ f.values → at + 7 < length f.instructions → AreOps n f (cas_ops access.Box t at)
  pair_formed t at wide inside =
      let h0 : t < f.values = omega arith in
      let h1 : t + 1 < f.values = omega arith in
      let h2 : t + 2 < f.values = omega arith in
      let h3 : t + 3 < f.values = omega arith in
      let h4 : t + 4 < f.values = omega arith in
      let h5 : t + 5 < f.values = omega arith in
      let failed : at + 5 < length f.instructions = omega arith in (
        formed n f (LoadPointer (t + 3) (t + 1)) (h1, tt) (h3, tt) tt tt tt,
        (
          formed n f (BoxCas (t + 4) (t + 5) t (t + 3) (t + 2)) (h0, (h3, (h2, tt))) (h4, (h5, tt)) tt tt tt,
          (
            formed n f (JumpZero (t + 5) (at + 5)) (h5, tt) tt failed tt tt,
            (
              formed n f (Const t 1) tt (h0, tt) tt tt tt,
              (
                formed n f (Jump (at + 7)) tt tt inside tt tt,
                (
                  formed n f (StorePointer (t + 1) (t + 4)) (h1, (h4, tt)) tt tt tt tt,
                  (formed n f (Const t 0) tt (h0, tt) tt tt tt, tt),
                ),
              ),
            ),
          ),
        ),
      )

  exchange_formed : (lies : Access) (t at : ℕ) → t + 7 ≤ f.values → at + op_size (op.Cas lies) < length f.instructions → AreOps n f (cas_ops lies t at)
  exchange_formed (access.Integer ty) t at wide inside =
      let h0 : t < f.values = omega arith in
      let h1 : t + 1 < f.values = omega arith in
      let h2 : t + 2 < f.values = omega arith in
      let h3 : t + 3 < f.values = omega arith in
      let h4 : t + 4 < f.values = omega arith in
      let h5 : t + 5 < f.values = omega arith in
      let failed : at + 7 < length f.instructions = omega arith in (
        formed n f (LoadInt (t + 3) (t + 1) (type_number ty)) (h1, tt) (h3, tt) tt tt (type_within ty),
        (
          formed n f (CasInt (t + 4) t (t + 3) (t + 2) (type_number ty)) (h0, (h3, (h2, tt))) (h4, tt) tt tt (type_within ty),
          (
            formed n f (Convert (t + 5) (t + 3) (type_number (unsigned_of ty))) (h3, tt) (h5, tt) tt tt (type_within (unsigned_of ty)),
            (
              binary_formed n f Eq U64 (t + 5) (t + 4) (t + 5) h5 h4 h5 refl,
              (
                formed n f (JumpZero (t + 5) (at + 7)) (h5, tt) tt failed tt tt,
                (
                  formed n f (Const t 1) tt (h0, tt) tt tt tt,
                  (
                    formed n f (Jump (at + 10)) tt tt inside tt tt,
                    (
                      formed n f (Convert (t + 4) (t + 4) (type_number ty)) (h4, tt) (h4, tt) tt tt (type_within ty),
                      (
                        formed n f (StoreInt (t + 1) (t + 4) (type_number ty)) (h1, (h4, tt)) tt tt tt (type_within ty),
                        (formed n f (Const t 0) tt (h0, tt) tt tt tt, tt),
                      ),
                    ),
                  ),
                ),
              ),
            ),
          ),
        ),
      )
  exchange_formed access.Pointer t at wide inside = pair_formed t at wide inside
  exchange_formed access.Box t at wide inside = pair_formed t at wide inside

  update_formed :
      (lies : Access) (how : Change) (t told : ℕ) → ChangeFits how → t + 7 ≤ f.values → told < f.values →
      AreOps n f (load_op lies (t + 2) t ∷ change_ops how (t + 1) (t + 3) (t + 2) (t + 1) ++ store_op lies t (t + 1) ∷ Move t told ∷ [])
  update_formed lies how t told fit wide there =
      let h0 : t < f.values = omega arith in
      let h1 : t + 1 < f.values = omega arith in
      let h2 : t + 2 < f.values = omega arith in
      let h3 : t + 3 < f.values = omega arith in (
        load_formed n f lies (t + 2) t h2 h0,
        both n f (change_ops how (t + 1) (t + 3) (t + 2) (t + 1)) (store_op lies t (t + 1) ∷ Move t told ∷ [])
            (change_formed n f how (t + 1) (t + 3) (t + 2) (t + 1) fit h1 h3 h2 h1)
            (store_formed n f lies t (t + 1) h0 h1, (formed n f (Move t told) (there, tt) (h0, tt) tt tt tt, tt)),
      )

  module _ (here : Context) (t c at : ℕ) (le : here.locals ≤ t) (h0 : t < f.values) (h1 : t + 1 < f.values) (h2 : t + 2 < f.values) (wide : t + 7 ≤ f.values) (room : t + c ≤ f.values) where
    pub ops_formed : (o : Operation) → OpFits outline here o c → at + op_size o < length f.instructions → AreOps n f (operation_ops o t c at)
    ops_formed (op.Number v) fit inside = (formed n f (Const t v) tt (h0, tt) tt tt tt, tt)
    ops_formed (op.Local x) fit inside =
        let hx : x < f.values = omega (arith, fit.1) in
        (formed n f (Move t x) (hx, tt) (h0, tt) tt tt tt, tt)
    ops_formed (op.Static s) fit inside = (formed n f (StaticAt t s) tt (h0, tt) tt fit.1 tt, tt)
    ops_formed (op.Function g) fit inside = (formed n f (FunctionAt t g) tt (h0, tt) tt fit.1 tt, tt)
    ops_formed (op.Convert ty) fit inside = (formed n f (Convert t t (type_number ty)) (h0, tt) (h0, tt) tt tt (type_within ty), tt)
    ops_formed (op.Binary o ty) fit inside = (binary_formed n f o ty t t (t + 1) h0 h0 h1 fit.1, tt)
    ops_formed (op.Negate ty) fit inside =
        (formed n f (Const (t + 1) 0) tt (h1, tt) tt tt tt, (binary_formed n f Sub ty t (t + 1) t h0 h1 h0 fit.1, tt))
    ops_formed (op.Complement ty) fit inside =
        (formed n f (Const (t + 1) minus_one) tt (h1, tt) tt tt tt, (binary_formed n f Xor ty t t (t + 1) h0 h0 h1 fit.1, tt))
    ops_formed (op.Not ty) fit inside =
        (formed n f (Const (t + 1) 0) tt (h1, tt) tt tt tt, (binary_formed n f Eq ty t t (t + 1) h0 h0 h1 fit.1, tt))
    ops_formed (op.Advance bytes) fit inside = (formed n f (PointerAdd t t (t + 1) bytes) (h0, (h1, tt)) (h0, tt) tt tt tt, tt)
    ops_formed (op.Retreat bytes) fit inside = change_formed n f (change.Retreat bytes) t (t + 2) t (t + 1) fit.1 h0 h2 h0 h1
    ops_formed (op.AdvanceBy bytes) fit inside = (formed n f (PointerAdd t (t + 1) t bytes) (h1, (h0, tt)) (h0, tt) tt tt tt, tt)
    ops_formed (op.Offset bytes) fit inside =
        (formed n f (Const (t + 1) bytes) tt (h1, tt) tt tt tt, (formed n f (PointerAdd t t (t + 1) 1) (h0, (h1, tt)) (h0, tt) tt tt tt, tt))
    ops_formed op.ToPointer fit inside = (formed n f (ToPointer t t) (h0, tt) (h0, tt) tt tt tt, tt)
    ops_formed (op.Distance bytes) fit inside = (formed n f (PointerSub t t (t + 1) bytes) (h0, (h1, tt)) (h0, tt) tt tt fit.1, tt)
    ops_formed (op.Compare o) fit inside =
        (formed n f (PointerCompare t t (t + 1) (operator_number o)) (h0, (h1, tt)) (h0, tt) tt tt (comparison_within o fit.1), tt)
    ops_formed (op.ToInteger ty) fit inside = (formed n f (ToInteger t t (type_number ty)) (h0, tt) (h0, tt) tt tt (type_within ty), tt)
    ops_formed (op.SetLocal x) fit inside =
        let hx : x < f.values = omega (arith, fit.1.0) in
        (formed n f (Move x t) (h0, tt) (hx, tt) tt tt tt, tt)
    ops_formed (op.UpdateLocal x how) fit inside =
        let hx : x < f.values = omega (arith, fit.1.0) in
        both n f (change_ops how t (t + 1) x t) (Move x t ∷ []) (change_formed n f how t (t + 1) x t fit.2 h0 h1 hx h0)
        (formed n f (Move x t) (h0, tt) (hx, tt) tt tt tt, tt)
    ops_formed (op.StepLocal x how) fit inside =
        let hx : x < f.values = omega (arith, fit.1.0) in
        both n f (change_ops how (t + 1) (t + 1) x t) (Move t x ∷ Move x (t + 1) ∷ []) (change_formed n f how (t + 1) (t + 1) x t fit.2 h1 h1 hx h0)
        (formed n f (Move t x) (hx, tt) (h0, tt) tt tt tt, (formed n f (Move x (t + 1)) (h1, tt) (hx, tt) tt tt tt, tt))
    ops_formed (op.Load lies) fit inside = (load_formed n f lies t t h0 h0, tt)
    ops_formed (op.Store lies) fit inside =
        (store_formed n f lies t (t + 1) h0 h1, (formed n f (Move t (t + 1)) (h1, tt) (h0, tt) tt tt tt, tt))
    ops_formed (op.Update lies how) fit inside = update_formed lies how t (t + 1) (change_of lies how fit.1) wide h1
    ops_formed (op.Step lies how) fit inside = update_formed lies how t (t + 2) (change_of lies how fit.1) wide h2
    ops_formed (op.Copy unit count) fit inside = copy_formed (unit_access unit) (unit_bytes unit) count t at wide inside
    ops_formed (op.Swap lies) fit inside = (swap_formed n f lies t t (t + 1) h0 h0 h1, tt)
    ops_formed (op.Cas lies) fit inside = exchange_formed lies t at wide inside
    ops_formed (op.Fetch object o computed) fit inside = (fetch_formed n f object o computed t t (t + 1) h0 h0 h1 fit.2, tt)
    ops_formed (op.Combine object o computed) fit inside = (
      fetch_formed n f object o computed (t + 2) t (t + 1) h2 h0 h1 fit.1,
      (
        binary_formed n f o computed t (t + 2) (t + 1) h0 h2 h1 fit.1,
        (formed n f (Convert t t (type_number object)) (h0, tt) (h0, tt) tt tt (type_within object), tt),
      ),
    )
    ops_formed (op.Call g) fit inside =
        (formed n f (Call t g t c) (registers_from n f t c room) (h0, tt) tt (is_there outline.callees g _ fit) tt, tt)
    ops_formed (op.CallPointer kind) fit inside =
        (formed n f (CallPointer t t (t + 1) (c - 1) kind) (h0, registers_from n f (t + 1) (c - 1) (omega (arith, fit.0))) (h0, tt) tt tt tt, tt)
    ops_formed op.New fit inside = (formed n f (New t t) (h0, tt) (h0, tt) tt tt tt, tt)
    ops_formed op.Free fit inside = (formed n f (Free t) (h0, tt) tt tt tt tt, tt)
    ops_formed op.Size fit inside = (formed n f (Size t t) (h0, tt) (h0, tt) tt tt tt, tt)
    ops_formed op.Lock fit inside = (formed n f (Lock t) (h0, tt) tt tt tt tt, tt)
    ops_formed op.Out fit inside = (formed n f (Out t) (h0, tt) tt tt tt tt, tt)
    ops_formed op.Input fit inside = (formed n f (Input t) tt (h0, tt) tt tt tt, tt)
    ops_formed op.Spawn fit inside = (formed n f (Spawn t t (t + 1)) (h0, (h1, tt)) (h0, tt) tt tt tt, tt)
    ops_formed op.Join fit inside = (formed n f (Join t t) (h0, tt) (h0, tt) tt tt tt, tt)
    ops_formed op.SelfId fit inside = (formed n f (SelfId t) tt (h0, tt) tt tt tt, tt)
    ops_formed op.Exit fit inside = (formed n f (Exit t) (h0, tt) tt tt tt tt, tt)
    ops_formed op.Abort fit inside = (formed n f Abort tt tt tt tt tt, tt)
    ops_formed op.Second fit inside = (formed n f (Move t (t + 1)) (h1, tt) (h0, tt) tt tt tt, tt)

  -- ---- printf

  module _ (t c : ℕ) (hd : c + 3 ≤ f.values) where
    piece_formed : (operands : ℕ) (p : Piece) → PieceFits outline operands p → t + operands ≤ f.values → AreOps n f (piece_ops p t c)
    piece_formed operands (piece.Byte byte) fit room =
        let h : c + 1 < f.values = omega arith in
        (formed n f (Const (c + 1) byte) tt (h, tt) tt tt tt, (formed n f (Out (c + 1)) (h, tt) tt tt tt tt, (formed n f (Const (c + 1) 1) tt (h, tt) tt tt tt, tt)))
    piece_formed operands (piece.Out operand) fit room =
        let h : c + 1 < f.values = omega arith in
        let ho : t + operand < f.values = omega (arith, fit.1) in
        (formed n f (Out (t + operand)) (ho, tt) tt tt tt tt, (formed n f (Const (c + 1) 1) tt (h, tt) tt tt tt, tt))
    piece_formed operands (piece.Put g operand None) fit room =
        let h : c + 1 < f.values = omega arith in
        let ho : t + operand < f.values = omega (arith, fit.0.1) in (
          formed n f (Move (c + 1) (t + operand)) (ho, tt) (h, tt) tt tt tt,
          (formed n f (Call (c + 1) g (c + 1) 1) (h, tt) (h, tt) tt (is_there outline.callees g _ fit.1) tt, tt),
        )
    piece_formed operands (piece.Put g operand (Some radix)) fit room =
        let h : c + 1 < f.values = omega arith in
        let h2 : c + 2 < f.values = omega arith in
        let ho : t + operand < f.values = omega (arith, fit.0.1) in (
          formed n f (Move (c + 1) (t + operand)) (ho, tt) (h, tt) tt tt tt,
          (
            formed n f (Const (c + 2) radix) tt (h2, tt) tt tt tt,
            (formed n f (Call (c + 1) g (c + 1) 2) (registers_from n f (c + 1) 2 (omega arith)) (h, tt) tt (is_there outline.callees g _ fit.1) tt, tt),
          ),
        )

    pieces_formed : (operands : ℕ) (ps : List Piece) → AllByRecursion (PieceFits outline operands) ps → t + operands ≤ f.values → AreOps n f (pieces_ops ps t c)
    pieces_formed operands [] fit room = tt
    pieces_formed operands (p ∷ ps) fit room =
        let h : c < f.values = omega arith in
        let h1 : c + 1 < f.values = omega arith in
        both n f (piece_ops p t c) (binary_op Add I32 c c (c + 1) ∷ pieces_ops ps t c) (piece_formed operands p fit.0 room)
        (binary_formed n f Add I32 c c (c + 1) h h h1 refl, pieces_formed operands ps fit.1 room)

  pub print_formed :
      (t operands : ℕ) (ps : List Piece) → AllByRecursion (PieceFits outline operands) ps → t + operands + 3 ≤ f.values → AreOps n f (print_ops ps t operands)
  print_formed t operands ps fit room =
      let c = t + operands in
      let h : t < f.values = omega arith in
      let hc : c < f.values = omega arith in
      let hc1 : c + 1 < f.values = omega arith in (
        formed n f (Lock t) (h, tt) tt tt tt tt,
        (
          formed n f (Const c 0) tt (hc, tt) tt tt tt,
          both n f (pieces_ops ps t c) (Const (c + 1) 0 ∷ StoreInt t (c + 1) (type_number I32) ∷ Move t c ∷ []) (pieces_formed t c room operands ps fit (omega arith)) (
            formed n f (Const (c + 1) 0) tt (hc1, tt) tt tt tt,
            (
              formed n f (StoreInt t (c + 1) (type_number I32)) (h, (hc1, tt)) tt tt tt (type_within I32),
              (formed n f (Move t c) (hc, tt) (h, tt) tt tt tt, tt),
            ),
          ),
        ),
      )
