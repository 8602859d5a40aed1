use Rattle.std.proofs.Common.{◌≡◌, ◌-◌}
use Rattle.alb_syntax.specs.Reading.{IsCanonicalPoly, raised}
use Rattle.alb_syntax.proofs.operations.power.Given as goal

abbrev pub invariant-loop : goal.invariant-loop
invariant-loop l = record {
  so_far : raised l.field l.place l.x (l.n - l.counter) l.f ≡ raised l.field l.place l.x (l.n - 1) l.x;
  kept : IsCanonicalPoly l.field l.f;
}
