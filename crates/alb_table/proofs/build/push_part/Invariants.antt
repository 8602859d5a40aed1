use Rattle.std.proofs.Common.{◌≡◌, ◌++◌, replicate, take}
use Rattle.alb_table.proofs.build.push_part.Given as goal

abbrev pub invariant-loop-elem : goal.invariant-loop-elem
invariant-loop-elem l =
    (l.store.part_of.items ≡ l.initial.store.part_of.items ++ replicate l.elem-index l.k)
    × (l.store.elems.items ≡ l.initial.store.elems.items ++ take l.elem-index l.elem-items)
    × (l.store.parts ≡ l.initial.store.parts)
