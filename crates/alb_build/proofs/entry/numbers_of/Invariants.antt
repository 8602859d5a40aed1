use Rattle.std.proofs.Common.{◌≡◌, ◌+◌, ◌≤◌, ◌++◌, drop}
use Rattle.alb_build.specs.Part.{numbers_from}
use Rattle.alb_build.proofs.entry.numbers_of.Given as goal

abbrev pub invariant-loop-is_free : goal.invariant-loop-is_free
invariant-loop-is_free l = record {
  numbers : l.out.items ++ numbers_from l.next (drop l.is_free-index l.free) ≡ numbers_from l.first l.free;
  most : l.next ≤ l.first + l.is_free-index;
}
