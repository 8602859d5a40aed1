use Rattle.std.proofs.Common.{sym, ap, ◌∙◌, ◌+◌, arith, length, ℕ, ◌≡◌, List}
use Rattle.alb_mono.specs.Tree.{type_le}
use Rattle.alb_check.specs.SubTable.{is_kept, number_of}
use Rattle.alb_check.proofs.SubCode.{keep-pass, keep-skip, map-push}
use Rattle.alb_check.proofs.sub.kept_elements.Goals.{then-le+in_ok-push-2, else-le}
use Rattle.alb_check.proofs.sub.kept_elements.Goals as goal

pub loop-b-preserved : goal.loop-b-preserved
loop-b-preserved c =
    let t = c.args.tables.now in
    let top = c.args.top.now in
    let is : type_le c.type_at.result.now top ≡ is_kept t top c.loop-b.b = ap (λ (w : List ℕ). type_le w top) c.type_at.ensures.value in
    let test : is_kept t top c.loop-b.b ≡ c.le.result = sym (c.le.ensures ∙ is) in
    record {
      elements = elim c.if-le.branch [
        | then-le+in_ok-push-2 w ↦ keep-pass (is_kept t top) c.loop-b.elements.items c.if-le.elements.items c.loop-b.b (test ∙ w.if-le.true) c.loop-b.invariant.elements
            (ap (λ v. v.items) w.elements-is ∙ w.in_ok-push-2.ensures.items)
        | else-le w ↦ keep-skip (is_kept t top) c.loop-b.elements.items c.if-le.elements.items c.loop-b.b (test ∙ w.if-le.false) c.loop-b.invariant.elements
            (ap (λ v. v.items) w.elements-is)
      ];
      numbers = map-push (number_of t top) c.loop-b.numbers.items c.push.new.self.items c.loop-b.b (c.len.result + 1) c.loop-b.invariant.numbers c.in_ok-push.ensures.items
          (let l = ap length c.loop-b.invariant.elements in omega (arith, c.len.ensures, l));
    }
