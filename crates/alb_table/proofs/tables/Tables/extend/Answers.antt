use Rattle.std.proofs.Common.{map, refl}
use Rattle.alb_table.specs.Table.{part_view}
use Rattle.alb_table.specs.Views.{views}
use Rattle.alb_table.proofs.KeptLemmas.{are_full, kept_extended}
use Rattle.alb_table.proofs.tables.Tables.extend.Goals as goal

pub grown-requires-clause-full : goal.grown-requires-clause-full
grown-requires-clause-full c =
    let s = c.self.inside in
    are_full (record { p = s.field; target = s.target; degree = s.degree; parts = views s.store }) _ _ c.self.invariant.table
    (rw (← c.self.view_is) at c.requires.types) (rw (← c.self.view_is) at c.requires.parts)

pub invariant_of-result : goal.invariant_of-result
invariant_of-result c =
    let s = c.self.inside in
    rw (c.of.ensures, c.counts.ensures.value)
    (kept_extended (record { p = s.field; target = s.target; degree = s.degree; parts = views s.store }) s.store c.in_ok-store.store (map part_view c.args.parts.items)
    c.self.invariant.table refl (rw (← c.self.view_is) at c.requires.room) (rw (← c.self.view_is) at c.requires.types) (rw (← c.self.view_is) at c.requires.parts)
    (rw (← c.self.view_is) at c.requires.countable) c.in_ok-store.ensures)
