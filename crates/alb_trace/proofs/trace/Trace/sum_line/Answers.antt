use Rattle.std.proofs.Common.{◌≡◌, ◌<◌, ◌≤◌, ◌++◌, ◌∷◌, [], List, ℕ, get_or, sym, subst, ap, ◌∙◌, arith, length, drop}
use Rattle.std.proofs.lemmas.List.{length-append}
use Rattle.std.proofs.lemmas.Result.{IfOk-weaker}
use Rattle.alb_trace.specs.Trace.{Carries}
use Rattle.alb_trace.proofs.TraceLemmas.{carries-itself, carries-next, carries-end, derives-joined}
use Rattle.alb_trace.proofs.trace.Trace.sum_line.Goals as goal

pub loop-item-init : goal.loop-item-init
loop-item-init c = record {
  few = omega arith;
  carries = λ fs t f h a s. subst (λ (xs : List (ℕ × ℕ)). Carries fs t c.args.self.now c.args.self.now xs c.args.sum.now.items.items f) (sym c.new-part.ensures.items)
      (carries-itself fs t c.args.self.now h [] c.args.sum.now.items.items f (λ k d l. absurd (omega arith)) s);
}

pub loop-item-preserved : goal.loop-item-preserved
loop-item-preserved c =
    let items : List (ℕ × ℕ) = c.args.sum.now.items.items in
    let k : ℕ = c.loop-item.item-index in
    let e : c.deref-item-items.result.now ≡ items = c.deref-item-items.ensures.value in
    let here : k < length items = subst (λ (xs : List (ℕ × ℕ)). k < length xs) e c.loop-item-test.true in
    let more : c.push.new.self.items ≡ c.in_ok-part.part.items ++ get_or items k (0, 0) ∷ [] =
    subst (λ (xs : List (ℕ × ℕ)). c.push.new.self.items ≡ c.in_ok-part.part.items ++ get_or xs k (0, 0) ∷ []) e c.in_ok-push.ensures.items in
    record {
      few = (let n = ap length c.in_ok-push.ensures.items ∙ length-append c.in_ok-part.part.items _ in omega (arith, n, c.in_ok-part.ensures.room));
      carries = λ fs t f h a s.
          let x = c.loop-item.invariant.carries fs t f h a s in
          carries-next fs t c.args.self.now c.loop-item.self c.part_with_room.new.self c.push.new.self.items c.in_ok-part.part.items items k (0, 0) f here more a x.longer
          (c.in_ok-part.ensures.carries fs t (drop k items) f x.trace x.residues x.sum);
    }

pub returns : goal.returns
returns c =
    let items : List (ℕ × ℕ) = c.args.sum.now.items.items in
    let k : ℕ = c.loop-item.item-index in
    let end : length items ≤ k = subst (λ (xs : List (ℕ × ℕ)). length xs ≤ k) c.deref-item-items.ensures.value c.loop-item-test.false in
    record {
      derives = λ fs t f h a s.
          let x = c.loop-item.invariant.carries fs t f h a s in
          IfOk-weaker c.short_sum_line.result _ _ (λ o d. derives-joined fs t c.args.self.now c.loop-item.self c.short_sum_line.new.self o f x.longer d)
          (c.short_sum_line.ensures.derives fs t f x.trace x.residues (carries-end fs t c.args.self.now c.loop-item.self c.loop-item.part.items items k f end x));
    }
