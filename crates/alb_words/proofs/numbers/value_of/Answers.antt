use Rattle.std.proofs.Common.{arith}
use Rattle.alb_words.proofs.NumberLemmas.{digit, small-fits, small-next, value-next, value-start}
use Rattle.alb_words.proofs.numbers.value_of.Goals as goal

pub loop-digit-init : goal.loop-digit-init
loop-digit-init c = record { value = value-start; small = omega arith }

pub overflow_mul-value : goal.overflow_mul-value
overflow_mul-value c =
    let l = c.loop-digit-test.true in
    let few = c.requires.few in
    omega (arith, small-fits c.loop-digit.value c.loop-digit.digit-index c.loop-digit.invariant.small (omega (arith, l, few)))

pub overflow_add-value : goal.overflow_add-value
overflow_add-value c =
    let l = c.loop-digit-test.true in
    let few = c.requires.few in
    let d = digit c.args.digits.now c.loop-digit.digit-index l c.requires.digits in
    omega (arith, small-fits c.loop-digit.value c.loop-digit.digit-index c.loop-digit.invariant.small (omega (arith, l, few)), c.from.ensures, d)

pub loop-digit-preserved : goal.loop-digit-preserved
loop-digit-preserved c =
    let l = c.loop-digit-test.true in
    let d = digit c.args.digits.now c.loop-digit.digit-index l c.requires.digits in
    record {
      value = value-next c.args.digits.now c.loop-digit.digit-index c.loop-digit.value c.from.result l c.loop-digit.invariant.value c.from.ensures;
      small = small-next c.loop-digit.value c.loop-digit.digit-index c.from.result c.loop-digit.invariant.small (omega (arith, c.from.ensures, d));
    }
