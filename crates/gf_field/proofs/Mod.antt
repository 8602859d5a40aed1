-- The laws of numbers modulo `p`.
use Rattle.std.proofs.Common.{◌≡◌, ℕ, ◌+◌, ◌-◌, ◌*◌, ◌%◌, ◌<◌, sym, refl, ap, ◌∙◌, arith}
use Rattle.std.proofs.Math.Nat.{add-mod, mod-mod, mul-add-mod_self_right, mod-eq_of_lt}
use Rattle.std.proofs.lemmas.Nat.{mul-mod}
use Rattle.gf_field.specs.Modular.{IsSameMod, IsUnit}

infixr 30 ◌⊙◌
module _ {p : ℕ} where
  pub same : {a b : ℕ} → a ≡ b → IsSameMod p a b
  same e = record { same = ap (λ x. x % p) e }

  pub back : {a b : ℕ} → IsSameMod p a b → IsSameMod p b a
  back h = record { same = sym h.same }

  pub next : {a b c : ℕ} → IsSameMod p a b → IsSameMod p b c → IsSameMod p a c
  next h k = record { same = h.same ∙ k.same }

  pub ◌⊙◌ : {a b c : ℕ} → IsSameMod p a b → IsSameMod p b c → IsSameMod p a c
  ◌⊙◌ h k = next h k

  pub plus : {a b c d : ℕ} → IsSameMod p a b → IsSameMod p c d → IsSameMod p (a + c) (b + d)
  plus {a} {b} {c} {d} h k = record { same = rw (add-mod a c p, add-mod b d p, h.same, k.same) }

  pub times : {a b c d : ℕ} → IsSameMod p a b → IsSameMod p c d → IsSameMod p (a * c) (b * d)
  times {a} {b} {c} {d} h k = record { same = rw (mul-mod a c p, mul-mod b d p, h.same, k.same) }

  pub of_mod : (a : ℕ) → IsSameMod p (a % p) a
  of_mod a = record { same = mod-mod a p }

  pub multiple : (k a : ℕ) → IsSameMod p (k * p + a) a
  multiple k a = record { same = mul-add-mod_self_right k p a }

  pub residues : {a b : ℕ} → a < p → b < p → IsSameMod p a b → a ≡ b
  residues x y h = sym (mod-eq_of_lt x) ∙ h.same ∙ mod-eq_of_lt y

  pub cancel_times : {a b : ℕ} (x : ℕ) → IsUnit p x → IsSameMod p (x * a) (x * b) → IsSameMod p a b
  cancel_times {a} {b} x u h =
      let left : (c : ℕ) → IsSameMod p (u.0 * (x * c)) c =
      λ c. next (same (grind arith)) (next (times (u.1) (same {a = c} refl)) (same (grind arith))) in
      next (back (left a)) (next (times (same {a = u.0} refl) h) (left b))

  pub unit_times : (x y : ℕ) → IsUnit p x → IsUnit p y → IsUnit p (x * y)
  unit_times x y u v = (u.0 * v.0, next (same (grind arith)) (times u.1 v.1))

pub cancel_plus : {p a b : ℕ} (c : ℕ) → 0 < p → IsSameMod p (a + c) (b + c) → IsSameMod p a b
cancel_plus {p} {a} {b} c pos h =
    let q : (p - 1) + 1 ≡ p = omega arith in
    let e : (x : ℕ) → (x + c) + c * (p - 1) ≡ c * p + x = λ x. omega (arith, ap (λ z. c * z) q) in
    next (back (multiple c a)) (next (back (same (e a))) (next (plus h (same {a = c * (p - 1)} refl)) (next (same (e b)) (multiple c b))))
