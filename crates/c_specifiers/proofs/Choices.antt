-- One choice among equal things.
use Rattle.std.proofs.Common.{◌≡◌, ℕ, Bool, Option, Some, None, Result, Ok, Err, ap, sym, ◌∙◌, subst}
use Rattle.c_types.specs.declared.ctype.CType.{CType}
use Rattle.c_syntax.specs.declared.expr.Specifier.{Specifier}
use Rattle.c_specifiers.specs.Lists.{named_among}

pub same_choice : (n m : ℕ) (b c : Bool) (p q : Option CType) (s t : Option Specifier) → n ≡ m → b ≡ c → p ≡ q → s ≡ t → named_among n b p s ≡ named_among m c q t
same_choice n m b c p q s t e f g h =
    ap (λ x. named_among x b p s) e ∙ ap (λ x. named_among m x p s) f ∙ ap (λ x. named_among m c x s) g ∙ ap (λ x. named_among m c q x) h
