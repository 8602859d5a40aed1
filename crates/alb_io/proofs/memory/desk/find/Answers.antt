use Rattle.std.proofs.Common.{map, ap, sym, ◌∙◌, true, false, arith}
use Rattle.std.proofs.lemmas.List.{at_drop_all}
use Rattle.std.specs.Str.{bytes_eq}
use Rattle.alb_io.specs.Memory.{file_named}
use Rattle.alb_io.specs.MemFiles.{stored_of}
use Rattle.alb_io.proofs.Shelves.{file_named-more}
use Rattle.alb_io.proofs.memory.desk.find.Goals as goal

pub returns-then-eq : goal.returns-then-eq
returns-then-eq c =
    sym c.loop-file.invariant
    ∙ file_named-more c.args.name.now c.args.files.now c.loop-file.file-index c.file-item.result true (omega arith) c.file-item.is (c.if-eq.ensures ∙ ap (bytes_eq c.args.name.now) c.as_str.ensures.value)

pub loop-file-preserved : goal.loop-file-preserved
loop-file-preserved c =
    sym (file_named-more c.args.name.now c.args.files.now c.loop-file.file-index c.file-item.result false (omega arith) c.file-item.is (c.if-eq.ensures ∙ ap (bytes_eq c.args.name.now) c.as_str.ensures.value))
    ∙ c.loop-file.invariant

pub returns : goal.returns
returns c = sym c.loop-file.invariant ∙ at_drop_all (λ l. file_named c.args.name.now (map stored_of l)) c.args.files.now c.loop-file.file-index (omega arith)
