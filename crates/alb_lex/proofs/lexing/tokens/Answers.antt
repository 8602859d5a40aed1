use Rattle.std.proofs.Common.{◌≡◌, ◌+◌, false, drop, length, sym, ◌∙◌, ap, subst, arith}
use Rattle.std.proofs.lemmas.List.{length-drop}
use Rattle.alb_lex.specs.Lexing.{tokens_from, digit_run, value_after}
use Rattle.alb_lex.proofs.Steps.{Goes, cut, after_blank, after_number_at, at_long, after_single, at_bad, at_end, run_positive}
use Rattle.alb_lex.proofs.lexing.tokens.Goals as goal

pub loop-at-preserved-then-is_blank : goal.loop-at-preserved-then-is_blank
loop-at-preserved-then-is_blank c =
    let here = cut c.args.line.now c.loop-at.at c.loop-at-test.true in
    let so_far = subst (Goes _ c.loop-at.out.items (c.loop-at.at + 1)) here c.loop-at.invariant.so_far in
    record { within = omega arith; so_far = after_blank _ _ _ _ _ so_far (sym c.is_blank.ensures ∙ c.if-is_blank.true) }

pub returns-then-digits-gt18 : goal.returns-then-digits-gt18
returns-then-digits-gt18 c =
    let here = cut c.args.line.now c.loop-at.at c.loop-at-test.true in
    let so_far = subst (Goes _ c.loop-at.out.items (c.loop-at.at + 1)) here c.loop-at.invariant.so_far in
    let digits = c.run-digits.ensures.value ∙ ap digit_run (c.text_from-text.ensures ∙ here) in
    at_long _ _ _ _ _ so_far (sym c.is_ascii_digit.ensures.value ∙ c.if-is_ascii_digit.true) (omega (arith, digits, c.if-digits-gt18.true))

pub loop-at-preserved-then-is_ascii_digit : goal.loop-at-preserved-then-is_ascii_digit
loop-at-preserved-then-is_ascii_digit c =
    let text = drop c.loop-at.at c.args.line.now in
    let here = cut c.args.line.now c.loop-at.at c.loop-at-test.true in
    let is_text = c.text_from-text.ensures in
    let digits : c.run-digits.result ≡ digit_run text = c.run-digits.ensures.value ∙ ap digit_run is_text in
    let value : c.number.result ≡ value_after 0 text = c.number.ensures ∙ ap (value_after 0) is_text in
    record {
      within = omega (arith, c.run-digits.ensures.bound, ap length is_text, length-drop c.loop-at.at c.args.line.now);
      so_far = after_number_at _ c.loop-at.out.items c.args.line.now c.loop-at.at c.push.new.self.items c.run-digits.result c.number.result
          c.loop-at-test.true c.loop-at.invariant.so_far (sym c.is_ascii_digit.ensures.value ∙ c.if-is_ascii_digit.true) digits value c.if-digits-gt18.false
          c.in_ok-push.ensures.items;
    }

pub returns-in-None : goal.returns-in-None
returns-in-None c =
    let here = cut c.args.line.now c.loop-at.at c.loop-at-test.true in
    let so_far = subst (Goes _ c.loop-at.out.items (c.loop-at.at + 1)) here c.loop-at.invariant.so_far in
    at_bad _ _ _ _ _ so_far (sym c.is_blank.ensures ∙ c.if-is_blank.false) (sym c.is_ascii_digit.ensures.value ∙ c.if-is_ascii_digit.false) (sym c.single.ensures ∙ c.in-None.is)

pub loop-at-preserved : goal.loop-at-preserved
loop-at-preserved c =
    let here = cut c.args.line.now c.loop-at.at c.loop-at-test.true in
    let so_far = subst (Goes _ c.loop-at.out.items (c.loop-at.at + 1)) here c.loop-at.invariant.so_far in
    let after = after_single _ _ _ _ _ so_far (sym c.is_blank.ensures ∙ c.if-is_blank.false) (sym c.is_ascii_digit.ensures.value ∙ c.if-is_ascii_digit.false)
    c.in-Some.kind (sym c.single.ensures ∙ c.in-Some.is) in
    record { within = omega arith; so_far = subst (λ ts. Goes (tokens_from false (c.args.start + 1) (drop c.args.start c.args.line.now)) ts ((c.loop-at.at + 1) + 1) (drop (c.loop-at.at + 1) c.args.line.now)) (sym c.in_ok-push-in-Some.ensures.items) after }

pub returns : goal.returns
returns c = at_end _ _ _ _ c.loop-at.invariant.so_far (omega (arith, length-drop c.loop-at.at c.args.line.now))

pub loop-at-smaller-then-is_ascii_digit : goal.loop-at-smaller-then-is_ascii_digit
loop-at-smaller-then-is_ascii_digit c =
    let digits : c.run-digits.result ≡ digit_run (drop c.loop-at.at c.args.line.now) = c.run-digits.ensures.value ∙ ap digit_run c.text_from-text.ensures in
    omega (arith, run_positive c.args.line.now c.loop-at.at c.loop-at-test.true (sym c.is_ascii_digit.ensures.value ∙ c.if-is_ascii_digit.true))
