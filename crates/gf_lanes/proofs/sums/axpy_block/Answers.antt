use Rattle.std.proofs.Common.{◌+◌, ◌-◌, arith, ◌∙◌}
use Rattle.std.proofs.lemmas.Simd.{length-chunk, get_or-chunk, get_or-put_chunk_below, get_or-put_chunk_above}
use Rattle.gf_lanes.proofs.LaneLemmas.{load_at, store_at}
use Rattle.gf_lanes.proofs.sums.axpy_block.Goals as goal

pub sums-requires-clause-lengths : goal.sums-requires-clause-lengths
sums-requires-clause-lengths c =
    (length-chunk c.args.at 32 c.args.dst.now (omega arith), length-chunk c.args.at 32 c.args.src.now (omega arith))

pub sums-requires-clause-left : goal.sums-requires-clause-left
sums-requires-clause-left c i l =
    rw (get_or-chunk c.args.at 32 c.args.dst.now i 0 l) (c.requires.dst_in (c.args.at + i) (omega arith) (omega arith))

pub sums-requires-clause-right : goal.sums-requires-clause-right
sums-requires-clause-right c i l = rw (get_or-chunk c.args.at 32 c.args.src.now i 0 l) (c.requires.src_in (c.args.at + i) (omega arith))

pub returns-clause-value : goal.returns-clause-value
returns-clause-value c i h l =
    store_at c.args.at i c.args.dst.now _ c.sums.ensures.len (omega arith) h l
    ∙ c.sums.ensures.value (i - c.args.at) (omega arith)
    ∙ rw (load_at c.args.at i c.args.dst.now h l, load_at c.args.at i c.args.src.now h l)

pub returns-clause-before : goal.returns-clause-before
returns-clause-before c i l = get_or-put_chunk_below c.args.at c.args.dst.now _ i 0 l

pub returns-clause-after : goal.returns-clause-after
returns-clause-after c i l = get_or-put_chunk_above c.args.at c.args.dst.now _ i 0 (omega arith)
