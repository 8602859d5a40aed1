use Rattle.std.proofs.Common.{eqb, not, ap, ◌∙◌, arith, w16}
use lib.Count.{ones}
use lib.Lanes.{chunk}
use Rattle.std.proofs.lemmas.Simd.{length-chunk, bitmask_splat, ones-mask_l}
use Rattle.gf_lanes.proofs.zeros.count_in.Goals as goal

pub returns : goal.returns
returns c =
    let v = chunk c.args.at 32 c.args.xs.now in
    ap ones (bitmask_splat w16 (λ a b. not (eqb a b)) v 32 0 (length-chunk c.args.at 32 c.args.xs.now c.requires) (omega arith)) ∙ ones-mask_l (λ x. not (eqb x 0)) v
