use Rattle.std.proofs.Common.{sym}
use Rattle.alb_lex.proofs.Binds.{ok_is}
use Rattle.alb_syntax.proofs.Kept.{kept-residues, kept-above_one, counted-kept, difference-counted}
use Rattle.alb_syntax.proofs.operations.difference.Goals as goal

pub add-requires-clause-left : goal.add-requires-clause-left
add-requires-clause-left c = kept-residues c.args.field.now c.args.f.now c.requires.left

pub add-requires-clause-right : goal.add-requires-clause-right
add-requires-clause-right c = kept-residues c.args.field.now _ c.in_ok-turned.ensures.kept

pub returns-clause-value : goal.returns-clause-value
returns-clause-value c =
    difference-counted c.args.field.now c.args.place c.args.f.now c.args.g.now c.in_ok-turned.turned c.in_ok-h.h c.within.result
    (kept-above_one c.args.field.now c.args.f.now c.requires.left) (sym (ok_is _ _ c.in_ok-turned.ensures.value)) c.in_ok-h.ensures.value c.within.ensures.value

pub returns-clause-kept : goal.returns-clause-kept
returns-clause-kept c = counted-kept c.args.field.now _ c.in_ok-h.h c.within.result c.requires.left.listed c.in_ok-h.ensures.value c.within.ensures.same c.within.ensures.few
