use Rattle.std.proofs.Common.{◌≡◌, ℕ, get_or}
use Rattle.std.proofs.lemmas.List.{get_or_default}
use Rattle.alb_deriv.specs.Tally.{tallied}
use Rattle.alb_deriv.proofs.TallyLemmas.{tally-more}
use Rattle.alb_deriv.proofs.tally.Tally.add_multiple.Goals as goal

pub loop-t-preserved : goal.loop-t-preserved
loop-t-preserved c =
    let i = c.loop-t.t-index in
    let list = c.args.list.now in
    let item : ℕ × ℕ = get_or list i (0, 0) in
    let is : item ≡ get_or list i item = get_or_default list i (0, 0) item c.loop-t-test.true in
    record {
      value = tally-more c.args.field.now c.args.c c.mul.result (tallied c.args.self.now) (tallied c.loop-t.self) (tallied c.add.new.self) list i item
          c.loop-t-test.true is c.mul.ensures.value c.loop-t.invariant.value c.in_ok-add.ensures.value;
      tally = c.in_ok-add.ensures.tally;
      fit = λ target ts old all. c.in_ok-add.ensures.fit target ts (c.loop-t.invariant.fit target ts old all) (all i (0, 0) c.loop-t-test.true);
    }
