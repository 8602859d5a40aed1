use Rattle.std.proofs.Common.{◌+◌, ◌*◌, ◌∙◌, sym, ap, drop, get_or, arith}
use Rattle.std.specs.Char.{is_ascii_digit}
use Rattle.alb_lex.specs.Lexing.{value_after}
use Rattle.alb_lex.proofs.Steps.{digit_range, small_next, small_fits, value-more}
use Rattle.alb_evidence.proofs.WordLemmas.{all-at, value-whole}
use Rattle.alb_evidence.proofs.words.value.Goals as goal

pub overflow_mul-value : goal.overflow_mul-value
overflow_mul-value c = omega (arith, small_fits c.loop-i.value c.loop-i.i c.loop-i.invariant.small (omega arith))

pub overflow_add-value : goal.overflow_add-value
overflow_add-value c =
    let d = digit_range (get_or c.args.word.now c.loop-i.i 0) (all-at is_ascii_digit c.args.word.now c.loop-i.i c.requires.digits (omega arith)) in
    omega (arith, small_fits c.loop-i.value c.loop-i.i c.loop-i.invariant.small (omega arith), c.from.ensures, d.1)

pub loop-i-preserved : goal.loop-i-preserved
loop-i-preserved c =
    let e = all-at is_ascii_digit c.args.word.now c.loop-i.i c.requires.digits (omega arith) in
    let d = digit_range (get_or c.args.word.now c.loop-i.i 0) e in
    record {
      small = small_next c.loop-i.value c.loop-i.i c.from.result c.loop-i.invariant.small (omega (arith, c.from.ensures, d.1));
      so_far = c.loop-i.invariant.so_far ∙ value-more c.args.word.now c.loop-i.i (omega arith) c.loop-i.value e ∙ ap (λ x. value_after (c.loop-i.value * 10 + x) (drop (c.loop-i.i + 1) c.args.word.now)) (sym c.from.ensures);
    }

pub returns : goal.returns
returns c = sym (c.loop-i.invariant.so_far ∙ value-whole c.loop-i.value c.loop-i.i c.args.word.now (omega arith))
