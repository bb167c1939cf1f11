-- Derivations in which an array whose size isn't said has one element.
use Rattle.std.proofs.Common.{◌≡◌, ℕ, ◌≤◌, List, ◌++◌, length, take, drop, sym, ap, ◌∙◌, arith}
use Rattle.std.specs.Prelude.{Option}
use Rattle.std.proofs.lemmas.List.{append-nil, drop_all, take_all}
use Rattle.c_types.specs.declared.ctype.ElementCount.{ElementCount}
use Rattle.c_types.specs.declared.derivation.Derivation.{Derivation}
use Rattle.c_types.specs.Extensions.{count_of}
use Rattle.c_declarators.specs.Outermost.{with_outermost}
use Rattle.c_file_rules.specs.Declarators.{outermost_one, outermost_pointer}
use Rattle.c_names.proofs.Counting.{count_known}

pub is_sized : (count : ElementCount) (ds new : List Derivation) → count.value ≡ 1 → new ≡ with_outermost count ds → new ≡ outermost_pointer ds
is_sized count ds new one h =
    h ∙ sym (ap (λ (o : Option ElementCount). outermost_one o ds) (ap count_of (sym one) ∙ count_known count))

-- a list that is changed in its place
pub kept_whole : (xs new : List Derivation) (n : ℕ) → n ≡ length xs → length new ≡ length xs → take n (new ++ drop (length new) xs) ≡ new
kept_whole xs new n is same =
    let none : length xs ≤ length new = omega arith in
    let whole : length new ≤ n = omega arith in
    ap (λ (rest : List Derivation). take n (new ++ rest)) (drop_all (length new) xs none)
    ∙ ap (take n) (append-nil new)
    ∙ take_all n new whole
