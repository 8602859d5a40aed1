use Rattle.std.proofs.Common.{List, map}
use Rattle.alb_poly.specs.Instance.{Form}
use Rattle.alb_table.specs.End.{IsEnd, end_of}
use Rattle.alb_block.specs.View.{block_view}
use Rattle.alb_poly.specs.Consequence.{forms}
use Rattle.alb_table.specs.Table.{next_types}
use Rattle.alb_build.specs.Next.{PassesProducts, PassesCoefficients}
use Rattle.alb_build.proofs.Wide.{all-narrow}
use Rattle.alb_build.proofs.step.next_step.Goals as goal

pub returns-in-Err-TooManyProducts : goal.returns-in-Err-TooManyProducts
returns-in-Err-TooManyProducts c =
    let h : PassesProducts c.args.tables.now c.in-Err-TooManyProducts.count = rw c.in-Err-TooManyProducts.field-0-is at c.in-Err-TooManyProducts.ensures in
    record {
      goes_on = record { room = c.requires.room; narrow = all-narrow (forms c.args.rules.now) c.args.tables.now (next_types c.args.tables.now) (map block_view c.in-Ok.blocks.items) c.in-Ok.ensures.blocks };
      number = h.number;
      many = h.many;
    }

pub returns-in-Err-TooManyCoefficients : goal.returns-in-Err-TooManyCoefficients
returns-in-Err-TooManyCoefficients c =
    let h : PassesCoefficients (forms c.args.rules.now) c.args.tables.now c.in-Err-TooManyCoefficients.count =
    rw c.in-Err-TooManyCoefficients.field-0-is at c.in-Err-TooManyCoefficients.ensures in
    record {
      goes_on = record { room = c.requires.room; narrow = all-narrow (forms c.args.rules.now) c.args.tables.now (next_types c.args.tables.now) (map block_view c.in-Ok.blocks.items) c.in-Ok.ensures.blocks };
      few = h.few;
      next = h.next;
      many = h.many;
    }

pub returns-in-Some : goal.returns-in-Some
returns-in-Some c =
    let h : (fs : List Form) → IsEnd fs c.args.tables.now (end_of c.in-Some.end) = rw c.in-Some.is at c.in_ok-end.ensures.end in
    h (forms c.args.rules.now)
