use Rattle.std.proofs.Common.{map, vec_len, ◌++◌, reverse}
use Rattle.alb_table.specs.Table.{part_view}
use Rattle.alb_table.specs.Views.{views}
use Rattle.alb_table.proofs.PartLemmas.{Extends}
use Rattle.alb_table.proofs.build.grown.Given as goal

abbrev pub invariant-loop-part : goal.invariant-loop-part
invariant-loop-part l =
    Extends (views l.old) (views l.old ++ map part_view (reverse l.initial.left.items)) l.store l.left.items

abbrev pub decreases-loop-part : goal.decreases-loop-part
decreases-loop-part l = vec_len l.left
