use Rattle.std.proofs.Common.{map, length}
use Rattle.alb_table.specs.Table.{origin_view}
use Rattle.alb_block.specs.Asked.{block_setting}
use Rattle.alb_block.specs.Offers.{AreKept, HasBefore}
use Rattle.alb_block.proofs.OfferLemmas.{Lacks}
use Rattle.alb_block.proofs.offers.offer_form.Given as goal

abbrev pub invariant-loop-tuple : goal.invariant-loop-tuple
invariant-loop-tuple l = record {
  kept : AreKept (block_setting l.from.rules.now l.from.tables.now l.from.at.now) l.offers.echelon (map origin_view l.offers.origins.items);
  before : HasBefore (block_setting l.from.rules.now l.from.tables.now l.from.at.now) l.offers.echelon l.k;
  lacks : Lacks (block_setting l.from.rules.now l.from.tables.now l.from.at.now) l.offers.echelon l.k l.instances;
}

abbrev pub decreases-loop-tuple : goal.decreases-loop-tuple
decreases-loop-tuple l = length l.instances
