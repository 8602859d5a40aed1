use Rattle.std.proofs.Common.{refl, sym, ◌∙◌, arith}
use Rattle.alb_table.specs.End.{end_of}
use Rattle.alb_host.proofs.StatusLemmas.{after-ended, after-read, after-write, after-limit, after-all}
use Rattle.alb_host.proofs.status.run_status.Goals as goal

pub loop-i-init : goal.loop-i-init
loop-i-init g c = refl

pub loop-i-preserved : goal.loop-i-preserved
loop-i-preserved g c = after-ended (end_of c.args.end.now) c.args.sessions.now c.loop-i.i _ c.loop-i.invariant _ c.loop-i-test.true c.in-Ended.is

pub returns-in-ReadFault : goal.returns-in-ReadFault
returns-in-ReadFault g c = sym (after-read (end_of c.args.end.now) c.args.sessions.now c.loop-i.i _ c.loop-i.invariant _ c.loop-i-test.true c.in-ReadFault.is)

pub returns-in-WriteFault : goal.returns-in-WriteFault
returns-in-WriteFault g c = sym (after-write (end_of c.args.end.now) c.args.sessions.now c.loop-i.i _ c.loop-i.invariant _ c.loop-i-test.true c.in-WriteFault.is)

pub returns-in-InputLimit : goal.returns-in-InputLimit
returns-in-InputLimit g c = sym (after-limit (end_of c.args.end.now) c.args.sessions.now c.loop-i.i _ c.loop-i.invariant _ c.loop-i-test.true c.in-InputLimit.is)

pub returns : goal.returns
returns g c = c.status_of_end.ensures ∙ sym (after-all (end_of c.args.end.now) c.args.sessions.now c.loop-i.i _ c.loop-i.invariant (omega arith))
