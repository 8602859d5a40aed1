use Rattle.std.proofs.Common.{ℕ, get_or, sym, lit<}
use Rattle.std.proofs.lemmas.Grind.{get_or_default_zero}
use Rattle.alb_linear.proofs.IdentityLemmas.{variables_room}
use Rattle.alb_linear.proofs.identity.variables.Goals as goal

pub push-requires : goal.push-requires
push-requires c =
    let n : ℕ = get_or c.args.e.now c.loop-k.k 0 in
    (lit< tt, variables_room c.args.e.now c.loop-k.k n c.loop-k.found.items c.loop-k-test.true (sym (get_or_default_zero c.args.e.now c.loop-k.k n c.loop-k-test.true)) c.if-n-gt0.true c.requires.small c.loop-k.invariant)
