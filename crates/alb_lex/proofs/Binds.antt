-- One step after another.
use Rattle.std.proofs.Common.{◌≡◌, Bool, true, false, cond, Result, Ok, Err, refl}
use Rattle.alb_lex.specs.Results.{◌>>=◌}

-- the value of a step that did not fail
pub bind_ok : {E A B : Type 0} (r : Result A E) (f : A → Result B E) (y : B) → (r >>= f) ≡ Ok y → (x : A) × (r ≡ Ok x) × (f x ≡ Ok y)
bind_ok (Ok x) f y e = (x, refl, e)
bind_ok (Err d) f y e = absurd cc

-- a test that did not fail
pub guard_ok : {E A : Type 0} (b : Bool) (r : Result A E) (d : E) (y : A) → cond b r (Err d) ≡ Ok y → (b ≡ true) × (r ≡ Ok y)
guard_ok true r d y e = (refl, e)
guard_ok false r d y e = absurd cc

abbrev done : (E : Type 0) {A : Type 0} → A → Result A E
done E x = Ok x

pub ok_is : {E A : Type 0} (x y : A) → done E x ≡ done E y → x ≡ y
ok_is x y e = cc
