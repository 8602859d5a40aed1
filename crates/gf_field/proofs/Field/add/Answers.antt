use Rattle.std.proofs.Common.{◌≡◌, ℕ, ◌+◌, ◌-◌, ◌%◌, ◌≤◌, ◌<◌, sym, ◌∙◌, arith}
use Rattle.std.proofs.Math.Nat.{mod-eq_of_lt, mod-eq-sub-mod}
use Rattle.gf_field.proofs.Field.add.Goals as goal

pub returns-then-sum-p-clause-value : goal.returns-then-sum-p-clause-value
returns-then-sum-p-clause-value c = sym (mod-eq_of_lt (omega arith))

-- a number from p to 2p - 1 less p
less_p : (p q s : ℕ) → q ≡ p → q ≤ s → s < p + p → s - q ≡ s % p
less_p p q s e low high = rw e (sym (mod-eq-sub-mod {n = s} {m = p} (omega arith) ∙ mod-eq_of_lt (omega arith)))

pub returns-else-sum-p-clause-value : goal.returns-else-sum-p-clause-value
returns-else-sum-p-clause-value c =
    less_p c.args.self.now c.self.inside.p (c.args.x + c.args.y) c.self.view_is c.if-sum-p.false (omega (arith, c.requires.left, c.requires.right))
