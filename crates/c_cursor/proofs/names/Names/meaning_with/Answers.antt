use Rattle.std.proofs.Common.{◌≡◌, ℕ, Bool, true, false, length, refl, ap, ◌∙◌}
use Rattle.std.specs.Prelude.{◌&&◌, eqb}
use Rattle.std.proofs.lemmas.Bool.{eq-eqb}
use Rattle.c_cursor.proofs.Meanings.{here_typedef, other_typedef}
use Rattle.c_cursor.proofs.names.Names.meaning_with.Goals as goal
use Rattle.c_cursor.proofs.names.Names.meaning_with.Goals.{else-was-via-then-was+then-was-depth+else-was-2, else-was-via-then-was+else-was-depth, else-was-via-else-was}

both : (a b c : Bool) → a ≡ true → b ≡ true → c ≡ true → a && (b && c) ≡ true
both true true true d e f = refl
both true true false d e f = absurd cc
both true false c d e f = absurd cc
both false b c d e f = absurd cc

first-off : (a b c : Bool) → a ≡ false → a && (b && c) ≡ false
first-off false b c h = refl
first-off true b c h = absurd cc

third-off : (a b c : Bool) → c ≡ false → a && (b && c) ≡ false
third-off false b c h = refl
third-off true false c h = refl
third-off true true c h = h

second-off : (a b c : Bool) → b ≡ false → a && (b && c) ≡ false
second-off false b c h = refl
second-off true false c h = refl
second-off true true c h = absurd cc

unequal : (x y : ℕ) (b : Bool) → eqb x y ≡ b → (x ≡ y → ⊥) → eqb x y ≡ false
unequal x y true e f = absurd (f (Rattle.std.proofs.lemmas.Bool.eqb-true x y e))
unequal x y false e f = e

pub returns-then-was-2 : goal.returns-then-was-2
returns-then-was-2 c =
    here_typedef c.args.binding c.args.self.now c.self.inside.depth c.meaning-was.result (c.self.invariant.counted ∙ ap length c.self.view_is) c.meaning-was.ensures
    (both c.meaning-was.result.is_declared (eqb c.meaning-was.result.depth c.self.inside.depth) c.meaning-was.result.is_typedef c.if-was.true
    (eq-eqb c.meaning-was.result.depth c.self.inside.depth c.if-was-depth.true) c.if-was-2.true)

pub returns : goal.returns
returns c =
    other_typedef c.args.binding c.args.self.now c.self.inside.depth c.meaning-was.result (c.self.invariant.counted ∙ ap length c.self.view_is) c.meaning-was.ensures
    (elim c.else-was.branch [
      | else-was-via-then-was+then-was-depth+else-was-2 w ↦ third-off c.meaning-was.result.is_declared (eqb c.meaning-was.result.depth c.self.inside.depth) c.meaning-was.result.is_typedef w.if-was-2.false
      | else-was-via-then-was+else-was-depth w ↦ second-off c.meaning-was.result.is_declared (eqb c.meaning-was.result.depth c.self.inside.depth) c.meaning-was.result.is_typedef
          (unequal c.meaning-was.result.depth c.self.inside.depth (eqb c.meaning-was.result.depth c.self.inside.depth) refl w.if-was-depth.false)
      | else-was-via-else-was w ↦ first-off c.meaning-was.result.is_declared (eqb c.meaning-was.result.depth c.self.inside.depth) c.meaning-was.result.is_typedef w.if-was.false
    ])
