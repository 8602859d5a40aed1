use Rattle.std.proofs.Common.{List}
use Rattle.alb_poly.specs.Instance.{Form}
use Rattle.alb_poly.specs.Consequence.{forms}
use Rattle.alb_table.specs.End.{IsEnd, end_of}
use Rattle.alb_table.specs.Table.{next_types}
use Rattle.alb_build.specs.Next.{PassesProducts, PassesCoefficients}
use Rattle.alb_build.proofs.Wide.{all-narrow}
use Rattle.alb_pool.proofs.StopLemmas.{stop-of-end}
use Rattle.alb_builder.proofs.next.next_tables.Goals as goal

pub returns-in-Err-TooManyProducts-clause-stopped : goal.returns-in-Err-TooManyProducts-clause-stopped
returns-in-Err-TooManyProducts-clause-stopped g c =
    let h : PassesProducts c.args.tables.now c.in-Err-TooManyProducts.count = rw c.in-Err-TooManyProducts.field-0-is at c.in-Err-TooManyProducts.ensures in
    record {
      goes_on = record { room = c.requires.room; narrow = all-narrow (forms c.args.rules.now) c.args.tables.now (next_types c.args.tables.now) _ c.in-Ok.ensures.blocks };
      number = h.number;
      many = h.many;
    }

pub returns-in-Err-TooManyCoefficients-clause-stopped : goal.returns-in-Err-TooManyCoefficients-clause-stopped
returns-in-Err-TooManyCoefficients-clause-stopped g c =
    let h : PassesCoefficients (forms c.args.rules.now) c.args.tables.now c.in-Err-TooManyCoefficients.count =
    rw c.in-Err-TooManyCoefficients.field-0-is at c.in-Err-TooManyCoefficients.ensures in
    record {
      goes_on = record { room = c.requires.room; narrow = all-narrow (forms c.args.rules.now) c.args.tables.now (next_types c.args.tables.now) _ c.in-Ok.ensures.blocks };
      few = h.few;
      next = h.next;
      many = h.many;
    }

pub returns-in-Ok-Some-clause-stopped : goal.returns-in-Ok-Some-clause-stopped
returns-in-Ok-Some-clause-stopped g c =
    let h : (fs : List Form) → IsEnd fs c.args.tables.now (end_of c.in-Ok-Some.end) = rw c.in-Ok-Some.field-0-is at c.in-Ok-Some.ensures.end in
    stop-of-end (forms c.args.rules.now) c.args.tables.now (end_of c.in-Ok-Some.end) (h (forms c.args.rules.now))
