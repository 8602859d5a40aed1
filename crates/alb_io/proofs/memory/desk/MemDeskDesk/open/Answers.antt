use Rattle.std.proofs.Common.{◌≡◌, map, None, sym, ap, ◌∙◌, subst, refl, rules, arith}
use Rattle.alb_io.specs.MemFiles.{stored_of}
use Rattle.alb_io.specs.Memory.{Shelf, Giving, IsSoundShelf, file_named}
use Rattle.alb_io.proofs.Shelves.{HasFile-named, IsFile-named, FailsNoMore-opened, piece_named}
use Rattle.alb_io.proofs.memory.desk.MemDeskDesk.open.Goals as goal

pub returns-in_default-clause-stays_sound : goal.returns-in_default-clause-stays_sound
returns-in_default-clause-stays_sound c = λ sound.
    let was : IsSoundShelf (record { files = map stored_of c.self.inside.files.items; failing = c.self.inside.failing.items; next = c.self.inside.next; faults = c.self.inside.faults }) = subst IsSoundShelf (sym c.self.view_is) sound in
    ((λ k le. was.0 k (omega arith), was.1), tt)

pub returns-in_default-clause-opens : goal.returns-in_default-clause-opens
returns-in_default-clause-opens c = λ sound file failed.
    let none : file_named c.args.name.now c.args.self.now.files ≡ None =
    ap (λ (d : Shelf). file_named c.args.name.now d.files) (sym c.self.view_is)
    ∙ ap (λ l. file_named c.args.name.now (map stored_of l)) (sym c.deref-2.ensures.value) ∙ c.in_default.ensures in
    IsFile-named c.args.name.now c.args.self.now.files none file

pub open_file-requires : goal.open_file-requires
open_file-requires c =
    piece_named c.args.name.now (map stored_of c.self.inside.files.items) (stored_of c.in-Some.file.now) c.self.invariant
    (ap (λ l. file_named c.args.name.now (map stored_of l)) (sym c.deref-2.ensures.value) ∙ c.in-Some.ensures)

pub returns-in-Ok-clause-content : goal.returns-in-Ok-clause-content
returns-in-Ok-clause-content c =
    HasFile-named c.args.name.now c.args.self.now.files (stored_of c.in-Some.file.now) c.in-Ok.source.left
    (ap (λ (d : Shelf). file_named c.args.name.now d.files) (sym c.self.view_is) ∙ ap (λ l. file_named c.args.name.now (map stored_of l)) (sym c.deref-2.ensures.value) ∙ c.in-Some.ensures)
    (ap (λ (s : Giving). s.left) c.in-Ok.ensures)

pub returns-in-Ok-clause-stays_sound : goal.returns-in-Ok-clause-stays_sound
returns-in-Ok-clause-stays_sound c = λ sound.
    let was : IsSoundShelf (record { files = map stored_of c.self.inside.files.items; failing = c.self.inside.failing.items; next = c.self.inside.next; faults = c.self.inside.faults }) = subst IsSoundShelf (sym c.self.view_is) sound in (
      (λ k le. was.0 k (omega arith), was.1),
      FailsNoMore-opened c.args.name.now (map stored_of c.self.inside.files.items) (stored_of c.in-Some.file.now) c.in-Ok.source was.1
          (ap (λ l. file_named c.args.name.now (map stored_of l)) (sym c.deref-2.ensures.value) ∙ c.in-Some.ensures) c.in-Ok.ensures,
    )

pub returns-in-Ok-clause-answer : goal.returns-in-Ok-clause-answer
returns-in-Ok-clause-answer c = (
  search rules,
  (
    stored_of c.in-Some.file.now,
    ap (λ (d : Shelf). file_named c.args.name.now d.files) (sym c.self.view_is) ∙ ap (λ l. file_named c.args.name.now (map stored_of l)) (sym c.deref-2.ensures.value) ∙ c.in-Some.ensures,
    c.in-Ok.ensures,
  ),
  search rules,
)

pub returns-in-Err-clause-answer : goal.returns-in-Err-clause-answer
returns-in-Err-clause-answer c = (
  search rules,
  (
    stored_of c.in-Some.file.now,
    ap (λ (d : Shelf). file_named c.args.name.now d.files) (sym c.self.view_is) ∙ ap (λ l. file_named c.args.name.now (map stored_of l)) (sym c.deref-2.ensures.value) ∙ c.in-Some.ensures,
  ),
  refl,
)
