-- Lists of operands: what waits for one more, and what an atomic call gives with its tree.
use Rattle.std.proofs.Common.{◌≡◌, List, [], ◌∷◌, ◌++◌, refl, sym, ap, ◌∙◌}
use Rattle.std.specs.Prelude.{ℕ, Some, Result, Ok, Err, IfOk}
use Rattle.c_types.specs.declared.ctype.CType.{CType}
use Rattle.c_types.specs.declared.ctype.Part.{Part}
use Rattle.c_expr_rules.specs.declared.known.Known.TheVariants as known
use Rattle.c_expr_rules.specs.Outcomes.{State}
use Rattle.c_expr_rules.specs.TypedExpressions.{Typed, Made, value, type_at, pointed_part}
use Rattle.c_expr_rules.specs.Calls.{waits_for, AtomicCall, AtomicLoad, AtomicStore, AtomicExchange, AtomicCompareExchange, AtomicFetch, AtomicResult, atomic_on, atomic_at, atomic_part, atomic_result}
use Rattle.c_expr_rules.specs.AtomicParts.{atomic_tree, type_of_result}

pub waits_more : (xs : List Typed) (x : Typed) (m : Made) → waits_for (xs ++ x ∷ []) m ≡ waits_for (x ∷ []) (waits_for xs m)
waits_more [] x m = refl
waits_more (y ∷ ys) x m = waits_more ys x _

-- what a result is, where what it is follows
pub ok_then : {T E : Type 0} (r : Result T E) (P Q : T → Type 0) → ((t : T) → P t → Q t) → IfOk r P → IfOk r Q
ok_then (Ok x) P Q h p = h x p
ok_then (Err e) P Q h p = p

abbrev result_value : ℕ → AtomicResult → Typed
result_value line r = value r.ty line r.made known.Nothing

pub tree_gives :
    (s : State) (line : ℕ) (what : AtomicCall) (number : ℕ) (ty : CType) (p : Typed) (rest : List Typed) (m : Made) → atomic_tree s line what ty p.made rest ≡ Some m →
    result_value line (atomic_on s line what number ty (p ∷ rest)) ≡ value (type_of_result what ty) line m known.Nothing
tree_gives s line AtomicLoad number ty p rest m h = cc
tree_gives s line AtomicStore number ty p [] m h = cc
tree_gives s line AtomicStore number ty p (v ∷ rest) m h = cc
tree_gives s line AtomicExchange number ty p [] m h = cc
tree_gives s line AtomicExchange number ty p (v ∷ rest) m h = cc
tree_gives s line AtomicCompareExchange number ty p [] m h = cc
tree_gives s line AtomicCompareExchange number ty p (e ∷ []) m h = cc
tree_gives s line AtomicCompareExchange number ty p (e ∷ v ∷ rest) m h = cc
tree_gives s line (AtomicFetch operator) number ty p [] m h = cc
tree_gives s line (AtomicFetch operator) number ty p (v ∷ rest) m h = cc

-- the same of the call's list of operands
pub call_gives :
    (s : State) (line : ℕ) (what : AtomicCall) (values rest : List Typed) (p : Typed) (to : Part) (ty : CType) (m : Made) →
    values ≡ p ∷ rest → atomic_part (pointed_part p.ty) ≡ Some to → ty ≡ type_at s to.number → atomic_tree s line what ty p.made rest ≡ Some m →
    value (type_of_result what ty) line m known.Nothing ≡ result_value line (atomic_result s line what values)
call_gives s line what values rest p to ty m values-are to-is ty-is h =
    sym (tree_gives s line what to.number ty p rest m h)
    ∙ ap (λ ty. result_value line (atomic_on s line what to.number ty (p ∷ rest))) ty-is
    ∙ ap (λ part. result_value line (atomic_at s line what part (p ∷ rest))) (sym to-is)
    ∙ ap (λ vs. result_value line (atomic_result s line what vs)) (sym values-are)
