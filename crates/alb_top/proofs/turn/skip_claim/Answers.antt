use Rattle.std.proofs.Common.{refl, subst}
use Rattle.std.proofs.Common.{Err}
use Rattle.alb_io.specs.declared.step.LineStep.TheVariants as step
use Rattle.alb_evidence.specs.Reads.{Breaks, Skips}
use Rattle.alb_evidence.specs.declared.error.SkipError.{SkipError}
use Rattle.alb_top.specs.View.{state}
use Rattle.alb_top.proofs.TurnLemmas.{inside-skipped, block-broken, skipped-taken}
use Rattle.alb_top.proofs.turn.skip_claim.Goals as goal

pub returns-in-Ok-clause-takes : goal.returns-in-Ok-clause-takes
returns-in-Ok-clause-takes g c =
    let r = c.in-Ok.ensures.reads in
    skipped-taken _ _ (state c.args.script) _ _ _ r.0 r.1 c.refuse-response.result.0 c.refuse-response.result.1 c.ended.result c.answered.result c.requires.going refl r.2 c.refuse-response.ensures.responds c.ended.ensures c.answered.ensures

pub returns-in-Err-ReadFault-clause-takes : goal.returns-in-Err-ReadFault-clause-takes
returns-in-Err-ReadFault-clause-takes g c =
    let b : Breaks step.ReadFault c.args.reader.now c.skip_evidence.new.reader (g.S.Source.left c.args.input.now) (g.S.Source.left c.skip_evidence.new.source) =
    subst (λ (e : SkipError). Skips (Err e) c.args.reader.now c.skip_evidence.new.reader (g.S.Source.left c.args.input.now) (g.S.Source.left c.skip_evidence.new.source)) c.in-Err-ReadFault.field-0-is c.in-Err-ReadFault.ensures.reads in
    block-broken _ _ _ _ _ _ _ b (inside-skipped (state c.args.script) _ b.lines c.requires.going b.no_end) c.requires.going

pub returns-clause-takes : goal.returns-clause-takes
returns-clause-takes g c =
    let b : Breaks step.InputLimit c.args.reader.now c.skip_evidence.new.reader (g.S.Source.left c.args.input.now) (g.S.Source.left c.skip_evidence.new.source) =
    subst (λ (e : SkipError). Skips (Err e) c.args.reader.now c.skip_evidence.new.reader (g.S.Source.left c.args.input.now) (g.S.Source.left c.skip_evidence.new.source)) c.in-Err-InputLimit.field-0-is c.in-Err-InputLimit.ensures.reads in
    block-broken _ _ _ _ _ _ _ b (inside-skipped (state c.args.script) _ b.lines c.requires.going b.no_end) c.requires.going
