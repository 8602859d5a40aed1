use Rattle.std.proofs.Common.{◌≡◌, [], map, sym, subst, ap, ◌∙◌, length, arith}
use Rattle.alb_table.specs.Table.{origin_view}
use Rattle.alb_block.specs.Asked.{block_setting}
use Rattle.alb_block.specs.Instances.{BlockSetting}
use Rattle.alb_block.specs.Offers.{AreKept}
use Rattle.alb_block.proofs.OfferLemmas.{kept-nothing}
use Rattle.alb_block.proofs.offers.offer_all.Goals as goal

pub loop-k-init : goal.loop-k-init
loop-k-init c =
    let s : BlockSetting = block_setting c.args.from.now.rules.now c.args.from.now.tables.now c.args.from.now.at.now in
    let e = c.new.ensures in
    let none : map origin_view c.new-2.result.items ≡ [] = ap (map origin_view) c.new-2.ensures.items in
    record {
      kept = subst (AreKept s c.new.result) (sym none)
          (kept-nothing s c.new.result (ap (λ r. r.p) e ∙ c.field.ensures) (ap (λ r. r.columns) e ∙ c.len.ensures.value ∙ ap length c.requires.columns_are)
          (ap (λ r. r.keeps_recipes) e) (ap (λ r. r.rows) e));
      before = λ name h l. absurd (omega arith);
    }
