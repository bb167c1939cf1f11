-- A fault that is handed on.
use Rattle.std.proofs.Common.{◌≡◌, sym, subst}
use Rattle.std.specs.Prelude.{Result, Ok, Err, IsErrAnd, IfErr}

pub hands_on : {A E : Type 0} (P : E → Type 0) (r : Result A E) (f : E) → IsErrAnd r (λ e. e ≡ f) → P f → IfErr r P
hands_on P (Ok x) f e p = absurd e
hands_on P (Err g) f e p = subst P (sym e) p
