-- Results.
use Rattle.std.specs.Prelude.{Result, Ok, Err, IfOk, OnOk}

-- two facts of the value in one
pub IfOk-both : {A E : Type 0} (r : Result A E) (P Q R : A → Type 0) → ((x : A) → P x → Q x → R x) → IfOk r P → IfOk r Q → IfOk r R
IfOk-both (Ok x) P Q R h p q = h x p q
IfOk-both (Err e) P Q R h p q = tt

-- what follows from a fact after success
pub OnOk-weaker : {A E : Type 0} (r : Result A E) (P Q : Type 0) → (P → Q) → OnOk r P → OnOk r Q
OnOk-weaker (Ok x) P Q h p = h p
OnOk-weaker (Err e) P Q h p = tt

pub on-ok : {A E P : Type 0} (r : Result A E) → P → OnOk r P
on-ok (Ok x) p = p
on-ok (Err e) p = tt
