-- What follows from a fact of an outcome.
use Rattle.std.proofs.Common.{Result, Ok, Err}
use Rattle.std.specs.Prelude.{IfOk, IfErr, OnOk}

pub if_ok : {T E : Type 0} (r : Result T E) (P Q : T → Type 0) → ((x : T) → P x → Q x) → IfOk r P → IfOk r Q
if_ok (Ok x) P Q f h = f x h
if_ok (Err e) P Q f h = h

pub if_err : {T E : Type 0} (r : Result T E) (P Q : E → Type 0) → ((e : E) → P e → Q e) → IfErr r P → IfErr r Q
if_err (Ok x) P Q f h = h
if_err (Err e) P Q f h = f e h

pub always : {T E : Type 0} (r : Result T E) (P : Type 0) → P → OnOk r P
always (Ok x) P h = h
always (Err e) P h = tt
