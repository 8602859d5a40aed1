use Rattle.std.proofs.Common.{rules, sym, Ok, Err}
use Rattle.std.proofs.lemmas.List.Sorted.{answers_always}
use Rattle.alb_rows.proofs.SearchLemmas.{entry_searched}
use Rattle.alb_rows.proofs.search.entry_at.Goals as goal

pub returns-in-Ok : goal.returns-in-Ok
returns-in-Ok c =
    let facts = c.in-Ok.ensures in
    let by_column = facts.position (λ cell. cell.0) (answers_always _ _ _ (λ f a r g called. search rules)) in
    sym (entry_searched c.args.cells.now c.requires c.args.column (Ok c.in-Ok.at) facts.bound by_column).1

pub returns-in-Err : goal.returns-in-Err
returns-in-Err c =
    let facts = c.in-Err.ensures in
    let by_column = facts.position (λ cell. cell.0) (answers_always _ _ _ (λ f a r g called. search rules)) in
    sym (entry_searched c.args.cells.now c.requires c.args.column (Err c.in-Err.field-0) facts.bound by_column)
