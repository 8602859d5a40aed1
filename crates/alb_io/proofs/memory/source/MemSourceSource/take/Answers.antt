use Rattle.std.proofs.Common.{rules, arith, sym, ap, ◌∙◌, subst}
use Rattle.std.proofs.Math.ListN.{drop_of_length-le}
use Rattle.alb_io.specs.Memory.{Giving, FailsNoMore}
use Rattle.alb_io.proofs.Fronts.{given}
use Rattle.alb_io.proofs.memory.source.MemSourceSource.take.Goals as goal

pub returns-clause-bytes : goal.returns-clause-bytes
returns-clause-bytes c = (
  sym (ap (λ (g : Giving). g.left) c.self.view_is)
      ∙ given c.self.inside.bytes.items c.copy_from_slice.new.self _ c.self.inside.at c.min-count.result (omega (arith, c.self.inside.bytes.ok.0)) (search rules),
  λ none room. drop_of_length-le c.self.inside.bytes.items
      (omega (arith, c.self.inside.bytes.ok.0, c.self.invariant.1, c.requires)),
)

pub returns-clause-sound : goal.returns-clause-sound
returns-clause-sound c = λ sound.
    let was : FailsNoMore c.self.inside.failing.items c.self.inside.next = subst (λ (g : Giving). FailsNoMore g.failing g.next) (sym c.self.view_is) sound in
    (search rules, λ k le. was k (omega arith))
