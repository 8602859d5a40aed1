use Rattle.std.proofs.Common.{◌+◌, ◌-◌, arith}
use Rattle.std.proofs.lemmas.Simd.{length-chunk, get_or-chunk, get_or-put_chunk_below, get_or-put_chunk_above}
use Rattle.gf_lanes.proofs.LaneLemmas.{load_at, store_at}
use Rattle.gf_lanes.proofs.LoopLemmas.{lazy_stored}
use Rattle.gf_lanes.proofs.lazy.lazy_block.Goals as goal

pub lazy_sums-requires-clause-lengths : goal.lazy_sums-requires-clause-lengths
lazy_sums-requires-clause-lengths c =
    (length-chunk c.args.at 32 c.args.dst.now (omega arith), length-chunk c.args.at 32 c.args.src.now (omega arith))

pub lazy_sums-requires-clause-room : goal.lazy_sums-requires-clause-room
lazy_sums-requires-clause-room c i l =
    rw (get_or-chunk c.args.at 32 c.args.dst.now i 0 l) (c.requires.room (c.args.at + i) (omega arith) (omega arith))

pub lazy_sums-requires-clause-fits : goal.lazy_sums-requires-clause-fits
lazy_sums-requires-clause-fits c i l = rw (get_or-chunk c.args.at 32 c.args.src.now i 0 l) (c.type_inv.src (c.args.at + i)).fits

pub returns-clause-value : goal.returns-clause-value
returns-clause-value c i h l =
    lazy_stored c.args.p c.args.c c.args.dst.now c.args.src.now i _ _ _ _
    (store_at c.args.at i c.args.dst.now _ c.lazy_sums.ensures.len (omega arith) h l)
    (load_at c.args.at i c.args.dst.now h l)
    (load_at c.args.at i c.args.src.now h l)
    (c.lazy_sums.ensures.same (i - c.args.at) (omega arith))
    (c.lazy_sums.ensures.below (i - c.args.at) (omega arith))

pub returns-clause-before : goal.returns-clause-before
returns-clause-before c i l = get_or-put_chunk_below c.args.at c.args.dst.now _ i 0 l

pub returns-clause-after : goal.returns-clause-after
returns-clause-after c i l = get_or-put_chunk_above c.args.at c.args.dst.now _ i 0 (omega arith)
