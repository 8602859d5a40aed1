use Rattle.std.proofs.Common.{◌+◌, ◌-◌, arith, ◌∙◌}
use Rattle.std.proofs.lemmas.Simd.{length-chunk, get_or-chunk, get_or-put_chunk_below, get_or-put_chunk_above}
use Rattle.gf_lanes.proofs.LaneLemmas.{load_at, store_at}
use Rattle.gf_lanes.proofs.lazy.reduce_block.Goals as goal

pub remainders-requires-clause-length : goal.remainders-requires-clause-length
remainders-requires-clause-length c = length-chunk c.args.at 32 c.args.dst.now (omega arith)

pub remainders-requires-clause-fits : goal.remainders-requires-clause-fits
remainders-requires-clause-fits c i l = rw (get_or-chunk c.args.at 32 c.args.dst.now i 0 l) (c.type_inv.dst (c.args.at + i)).fits

pub returns-clause-value : goal.returns-clause-value
returns-clause-value c i h l =
    store_at c.args.at i c.args.dst.now _ c.remainders.ensures.len (omega arith) h l
    ∙ c.remainders.ensures.value (i - c.args.at) (omega arith)
    ∙ rw (load_at c.args.at i c.args.dst.now h l)

pub returns-clause-before : goal.returns-clause-before
returns-clause-before c i l = get_or-put_chunk_below c.args.at c.args.dst.now _ i 0 l

pub returns-clause-after : goal.returns-clause-after
returns-clause-after c i l = get_or-put_chunk_above c.args.at c.args.dst.now _ i 0 (omega arith)
