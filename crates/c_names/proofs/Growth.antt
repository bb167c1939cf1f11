-- What a declaration or a type changes in a state takes nothing back.
use Rattle.std.proofs.Common.{◌≡◌, ℕ, ◌≤◌, List, length, take, refl, sym, ap, ◌∙◌, arith}
use Rattle.std.proofs.lemmas.List.{take_all, take-take, length-take}
use Rattle.c_scope.specs.Scopes.{Names}
use Rattle.c_types.specs.declared.entry.Entry.{Entry}
use Rattle.c_expr_rules.specs.declared.state.Contents.{Contents}
use Rattle.std.specs.BTreeMap.{BTreeMap}
use Rattle.c_expr_rules.specs.Views.{Grows}
use Rattle.c_expr_rules.specs.declared.state.State.{State}
use Rattle.c_names.specs.Blocks.{AddsTo}

kept : {A : Type 0} (xs : List A) → take (length xs) xs ≡ xs
kept xs = let h : length xs ≤ length xs = omega arith in take_all (length xs) xs h

pub grows_by_names : (old : State) (names : Names) → length names.ordinary ≡ length old.scopes.ordinary → Grows old (record old { scopes = names })
grows_by_names old names depth =
    record {
      depth = depth;
      used = kept old.used.items;
      taken = kept old.taken.items;
      literals = kept old.literals.items;
    }

pub grows_by_types : (old : State) (types : List Entry) → Grows old (record old { types = types })
grows_by_types old types =
    record { depth = refl; used = kept old.used.items; taken = kept old.taken.items; literals = kept old.literals.items }

pub grows_by_contents : (old : State) (contents : BTreeMap ℕ Contents) → Grows old (record old { contents = contents })
grows_by_contents old contents =
    record { depth = refl; used = kept old.used.items; taken = kept old.taken.items; literals = kept old.literals.items }

pub adds_by_names : (old : State) (names : Names) → AddsTo old (record old { scopes = names })
adds_by_names old names = record { used = kept old.used.items; taken = kept old.taken.items; literals = kept old.literals.items }

-- ---- a scope that is opened, gone through and closed

no_longer : {A : Type 0} (a b : List A) → take (length a) b ≡ a → length a ≤ length b
no_longer a b p = let e = ap length p in omega (arith, e, length-take (length a) b)

kept_on : {A : Type 0} (a b c : List A) → take (length a) b ≡ a → take (length b) c ≡ b → take (length a) c ≡ a
kept_on a b c p q = sym (take-take (length a) (length b) c (no_longer a b p)) ∙ ap (take (length a)) q ∙ p

pub adds_then_grows : (s t u : State) → AddsTo s t → Grows t u → AddsTo s u
adds_then_grows s t u a g =
    record {
      used = kept_on s.used.items t.used.items u.used.items a.used g.used;
      taken = kept_on s.taken.items t.taken.items u.taken.items a.taken g.taken;
      literals = kept_on s.literals.items t.literals.items u.literals.items a.literals g.literals;
    }

pub adds_on : (s t u : State) → AddsTo s t → AddsTo t u → AddsTo s u
adds_on s t u a b =
    record {
      used = kept_on s.used.items t.used.items u.used.items a.used b.used;
      taken = kept_on s.taken.items t.taken.items u.taken.items a.taken b.taken;
      literals = kept_on s.literals.items t.literals.items u.literals.items a.literals b.literals;
    }

pub grows_of : (s t : State) → AddsTo s t → length t.scopes.ordinary ≡ length s.scopes.ordinary → Grows s t
grows_of s t a depth = record { depth = depth; used = a.used; taken = a.taken; literals = a.literals }
