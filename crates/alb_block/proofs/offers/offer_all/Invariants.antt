use Rattle.std.proofs.Common.{map}
use Rattle.alb_table.specs.Table.{origin_view}
use Rattle.alb_block.specs.Asked.{block_setting}
use Rattle.alb_block.specs.Offers.{AreKept, HasBefore}
use Rattle.alb_block.proofs.offers.offer_all.Given as goal

abbrev pub invariant-loop-k : goal.invariant-loop-k
invariant-loop-k l = record {
  kept : AreKept (block_setting l.from.rules.now l.from.tables.now l.from.at.now) l.offers.echelon (map origin_view l.offers.origins.items);
  before : HasBefore (block_setting l.from.rules.now l.from.tables.now l.from.at.now) l.offers.echelon l.k;
}
