use Rattle.std.proofs.Common.{arith, refl}
use Rattle.std.specs.List.{flat_map}
use Rattle.std.proofs.lemmas.List.{at_drop_all}
use Rattle.alb_evidence.specs.Texts.{entry_text}
use Rattle.alb_print.proofs.Pieces.{flat-get}
use Rattle.alb_io.proofs.Writers.{Writes-exit, Writing-start, Writing-more, Writing-fails, Writing-all}
use Rattle.alb_evidence.proofs.basis.write_entries.Goals as goal

pub loop-entry-init : goal.loop-entry-init
loop-entry-init g c = Writing-start _ refl

pub returns-in_err-write_entry : goal.returns-in_err-write_entry
returns-in_err-write_entry g c =
    let here = flat-get (entry_text c.args.field.now) c.args.entries.now c.loop-entry.entry-index (record { left = 0; right = 0; to = 0; coef = 0 }) c.loop-entry-test.true in
    Writes-exit _ _ c.from_residual.ensures.1 (Writing-fails _ c.loop-entry.invariant c.in_err-write_entry.ensures here)

pub loop-entry-preserved : goal.loop-entry-preserved
loop-entry-preserved g c =
    let here = flat-get (entry_text c.args.field.now) c.args.entries.now c.loop-entry.entry-index (record { left = 0; right = 0; to = 0; coef = 0 }) c.loop-entry-test.true in
    Writing-more c.loop-entry.invariant c.in_ok-write_entry.ensures here

pub returns : goal.returns
returns g c = Writing-all c.loop-entry.invariant (at_drop_all (flat_map (entry_text c.args.field.now)) c.args.entries.now c.loop-entry.entry-index (omega arith))
