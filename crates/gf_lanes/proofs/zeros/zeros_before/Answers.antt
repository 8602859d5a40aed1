use Rattle.std.proofs.Common.{eqb, not, sym, ap, ◌∙◌, arith, w16}
use lib.Count.{count_trailing_zeros}
use lib.Lanes.{chunk}
use Rattle.std.proofs.lemmas.Simd.{length-chunk, bitmask_splat, leading_from_mask_l, trailing_mask_l}
use Rattle.gf_lanes.proofs.zeros.zeros_before.Goals as goal

pub returns-then-hits-eq0 : goal.returns-then-hits-eq0
returns-then-hits-eq0 c =
    let v = chunk c.args.at 32 c.args.xs.now in
    let long = length-chunk c.args.at 32 c.args.xs.now c.requires in
    let hits = bitmask_splat w16 (λ a b. not (eqb a b)) v 32 0 long (omega arith) in
    sym (leading_from_mask_l (λ x. not (eqb x 0)) v (sym hits ∙ c.if-hits-eq0.true) ∙ long)

pub returns-else-hits-eq0 : goal.returns-else-hits-eq0
returns-else-hits-eq0 c =
    let v = chunk c.args.at 32 c.args.xs.now in
    let long = length-chunk c.args.at 32 c.args.xs.now c.requires in
    let hits = bitmask_splat w16 (λ a b. not (eqb a b)) v 32 0 long (omega arith) in
    ap (count_trailing_zeros 64) hits ∙ trailing_mask_l (λ x. not (eqb x 0)) 64 v (omega arith) (omega arith)
