use Rattle.std.proofs.Common.{◌≤◌, ◌<◌, List, drop, length, All}
use Rattle.alb_poly.specs.Instance.{Form}
use Rattle.alb_poly.specs.Poly.{Poly}
use Rattle.alb_deriv.specs.Short.{IsSumOf}
use Rattle.alb_table.specs.Table.{Table}
use Rattle.alb_trace.specs.Trace.{lines_of, IsTrace, Carries}
use Rattle.alb_trace.proofs.trace.Trace.sum_line.Given as goal

abbrev pub invariant-loop-item : goal.invariant-loop-item
invariant-loop-item l = record {
  few : length l.part.items ≤ 64;
  carries : (fs : List Form) (t : Table) (f : Poly) → IsTrace fs t l.initial.self → All (λ c. c.0 < t.p) l.sum.items.items
      → IsSumOf t.p fs (lines_of l.initial.self) l.sum.items.items f → Carries fs t l.initial.self l.self l.part.items (drop l.item-index l.sum.items.items) f;
}
