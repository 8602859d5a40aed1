use Rattle.alb_table.proofs.KeptLemmas.{first_are_full, kept_first}
use Rattle.alb_table.proofs.tables.Tables.first.Goals as goal

pub grown-requires-clause-full : goal.grown-requires-clause-full
grown-requires-clause-full c = rw c.in_ok-parts.ensures (first_are_full _ c.args.target.now)

pub invariant_of-result : goal.invariant_of-result
invariant_of-result c =
    rw (c.of.ensures, c.counts.ensures.value)
    (kept_first c.args.field c.args.target.now c.empty_store-empty.result c.in_ok-store.store c.p.ensures.listed c.requires c.empty_store-empty.ensures.parts
    (rw c.in_ok-parts.ensures at c.in_ok-store.ensures))
