use Rattle.std.proofs.Common.{◌≡◌, ◌∙◌, ℕ, ◌+◌, List, ◌<◌, ◌++◌, ◌∷◌, [], get_or, length, ap, subst, arith}
use Rattle.std.specs.Prelude.{vec_len}
use Rattle.std.specs.List.{filter}
use Rattle.std.proofs.lemmas.List.{length-append}
use Rattle.alb_poly.specs.Consequence.{form}
use Rattle.alb_check.specs.Raw.{raw}
use Rattle.alb_check.specs.TableAlgebra.{IsZeroAtTuple}
use Rattle.alb_check.specs.Walk.{fits_top, IsZeroFrom, IsFirstFrom}
use Rattle.alb_check.proofs.TableLemmas.{shaped}
use Rattle.alb_check.proofs.WalkLemmas.{tells_zero, tells_fails, zero_end, first_end, chosen_at, next_elements, next_leaves, next_candidates, zero_all, first_found, zero_more, popped}
use Rattle.alb_check.proofs.walk.+walk.Goals as goal

pub returns-then-len-from-clause-zero : goal.returns-then-len-from-clause-zero
returns-then-len-from-clause-zero n c = λ e.
    let t = raw c.args.trial.now.table.now in
    let f = form c.args.trial.now.linear.now in
    zero_end c.args.trial.now.rules.now.field t f c.args.tuple.now.items (omega arith)
    (tells_zero c.in_ok-zero.zero (IsZeroAtTuple c.args.trial.now.rules.now.field t f c.args.tuple.now.items) (rw c.deref.ensures.value at c.in_ok-zero.ensures) e)

pub returns-then-len-from-clause-first : goal.returns-then-len-from-clause-first
returns-then-len-from-clause-first n c = λ e.
    let t = raw c.args.trial.now.table.now in
    let f = form c.args.trial.now.linear.now in
    first_end c.args.trial.now.rules.now.field t f c.args.tuple.now.items (record { long = omega arith; elements = c.requires.elements })
    (tells_fails c.in_ok-zero.zero (IsZeroAtTuple c.args.trial.now.rules.now.field t f c.args.tuple.now.items) (rw c.deref.ensures.value at c.in_ok-zero.ensures) e)

pub rest_after-left-requires-clause-element : goal.rest_after-left-requires-clause-element
rest_after-left-requires-clause-element n c =
    (chosen_at c.args.trial.now.rules.now.field c.args.trial.now.rules.now.target (raw c.args.trial.now.table.now) c.requires.trial.table (shaped c.args.trial.now.rules.now.target c.args.trial.now.rules.now.field (raw c.args.trial.now.table.now) c.requires.trial.shape)
    c.args.tuple.now.items c.args.rest.now c.args.candidates.now c.deref-k-items.result.now c.loop-k.k-index c.requires.leaves c.requires.candidates
    (c.deref-k-items.ensures.value ∙ c.in_ok-fitting.ensures) c.loop-k-test.true).element

pub rest_after-left-requires-clause-long : goal.rest_after-left-requires-clause-long
rest_after-left-requires-clause-long n c =
    (chosen_at c.args.trial.now.rules.now.field c.args.trial.now.rules.now.target (raw c.args.trial.now.table.now) c.requires.trial.table (shaped c.args.trial.now.rules.now.target c.args.trial.now.rules.now.field (raw c.args.trial.now.table.now) c.requires.trial.shape)
    c.args.tuple.now.items c.args.rest.now c.args.candidates.now c.deref-k-items.result.now c.loop-k.k-index c.requires.leaves c.requires.candidates
    (c.deref-k-items.ensures.value ∙ c.in_ok-fitting.ensures) c.loop-k-test.true).long

pub rest_after-left-requires-clause-fits : goal.rest_after-left-requires-clause-fits
rest_after-left-requires-clause-fits n c =
    (chosen_at c.args.trial.now.rules.now.field c.args.trial.now.rules.now.target (raw c.args.trial.now.table.now) c.requires.trial.table (shaped c.args.trial.now.rules.now.target c.args.trial.now.rules.now.field (raw c.args.trial.now.table.now) c.requires.trial.shape)
    c.args.tuple.now.items c.args.rest.now c.args.candidates.now c.deref-k-items.result.now c.loop-k.k-index c.requires.leaves c.requires.candidates
    (c.deref-k-items.ensures.value ∙ c.in_ok-fitting.ensures) c.loop-k-test.true).fitting

pub walk-requires : goal.walk-requires
walk-requires n c =
    let t = raw c.args.trial.now.table.now in
    let right = shaped c.args.trial.now.rules.now.target c.args.trial.now.rules.now.field t c.requires.trial.shape in
    let xs = c.deref-k-items.result.now in
    let is : xs ≡ filter (fits_top t c.args.rest.now) c.args.candidates.now = c.deref-k-items.ensures.value ∙ c.in_ok-fitting.ensures in
    let chosen = chosen_at c.args.trial.now.rules.now.field c.args.trial.now.rules.now.target t c.requires.trial.table right
    c.args.tuple.now.items c.args.rest.now c.args.candidates.now xs c.loop-k.k-index c.requires.leaves c.requires.candidates is c.loop-k-test.true in
    let k : ℕ = get_or xs c.loop-k.k-index 0 in
    let long : length c.push.new.self.items ≡ length c.args.tuple.now.items + 1 =
    ap length (c.in_ok-push.ensures.items ∙ ap (λ ys. ys ++ k ∷ []) c.loop-k.invariant.same) ∙ length-append c.args.tuple.now.items (k ∷ []) in (
      omega arith,
      (
        c.requires.trial,
        (
          next_elements c.args.trial.now.rules.now.field c.args.trial.now.rules.now.target t c.requires.trial.table right c.args.tuple.now.items c.loop-k.tuple.items c.push.new.self.items k
              c.requires.elements chosen.element c.loop-k.invariant.same c.in_ok-push.ensures.items,
          (
            omega arith,
            (
              next_leaves c.args.trial.now.rules.now.field c.args.trial.now.rules.now.target t c.requires.trial.table right c.args.tuple.now.items c.loop-k.tuple.items c.push.new.self.items c.args.rest.now
                  c.rest_after-left.result k c.requires.leaves chosen c.loop-k.invariant.same c.in_ok-push.ensures.items c.rest_after-left.ensures,
              next_candidates c.args.trial.now.rules.now.field c.args.trial.now.rules.now.target t c.requires.trial.table right c.args.rest.now c.rest_after-left.result c.args.candidates.now
                  c.deref-in-loop-k.result.now k c.requires.candidates (c.deref-in-loop-k.ensures.value ∙ c.in_ok-fitting.ensures) c.rest_after-left.ensures,
            ),
          ),
        ),
      ),
    )

pub returns-then-branch-clause-first : goal.returns-then-branch-clause-first
returns-then-branch-clause-first n c = λ e.
    let t = raw c.args.trial.now.table.now in
    let f = form c.args.trial.now.linear.now in
    let p = c.args.trial.now.rules.now.field in
    let right = shaped c.args.trial.now.rules.now.target p t c.requires.trial.shape in
    let ks = c.args.tuple.now.items in
    let F : List ℕ = filter (fits_top t c.args.rest.now) c.args.candidates.now in
    let xs = c.deref-k-items.result.now in
    let is : xs ≡ F = c.deref-k-items.ensures.value ∙ c.in_ok-fitting.ensures in
    let i = c.loop-k.k-index in
    let pushed : c.push.new.self.items ≡ ks ++ get_or F i 0 ∷ [] =
    c.in_ok-push.ensures.items ∙ ap (λ ys. ys ++ get_or xs i 0 ∷ []) c.loop-k.invariant.same ∙ ap (λ ys. ks ++ get_or ys i 0 ∷ []) is in
    first_found p c.args.trial.now.rules.now.target t c.requires.trial.table right f c.requires.trial.linearized.multilinear ks c.args.rest.now c.args.candidates.now
    c.requires.leaves c.requires.candidates (omega arith) i c.walk.new.tuple.items (omega (arith, ap length is, c.loop-k-test.true))
    (subst (λ (ys : List ℕ). (j : ℕ) → j < i → IsZeroFrom p t f (ks ++ get_or ys j 0 ∷ [])) is c.loop-k.invariant.zero)
    (subst (λ (ys : List ℕ). IsFirstFrom p t f ys c.walk.new.tuple.items) pushed (c.in_ok-walk.ensures.first c.if-branch.true))

pub loop-k-preserved : goal.loop-k-preserved
loop-k-preserved n c = record {
  same = popped c.loop-k.tuple.items c.push.new.self.items c.walk.new.tuple.items c.pop.new.self.items _ (vec_len c.walk.new.tuple)
      (c.in_ok-walk.ensures.kept c.if-branch.false) c.in_ok-push.ensures.items (omega arith) c.pop.ensures.rest ∙ c.loop-k.invariant.same;
  zero = zero_more c.args.trial.now.rules.now.field (raw c.args.trial.now.table.now) (form c.args.trial.now.linear.now) c.args.tuple.now.items c.loop-k.tuple.items c.push.new.self.items
      c.deref-k-items.result.now c.loop-k.k-index c.loop-k.invariant.zero c.loop-k.invariant.same c.in_ok-push.ensures.items (c.in_ok-walk.ensures.zero c.if-branch.false);
}

pub returns-clause-zero : goal.returns-clause-zero
returns-clause-zero n c = λ e.
    let t = raw c.args.trial.now.table.now in
    let f = form c.args.trial.now.linear.now in
    let p = c.args.trial.now.rules.now.field in
    let right = shaped c.args.trial.now.rules.now.target p t c.requires.trial.shape in
    let ks = c.args.tuple.now.items in
    let F : List ℕ = filter (fits_top t c.args.rest.now) c.args.candidates.now in
    let is : c.deref-k-items.result.now ≡ F = c.deref-k-items.ensures.value ∙ c.in_ok-fitting.ensures in
    let all : (j : ℕ) → j < length F → IsZeroFrom p t f (ks ++ get_or F j 0 ∷ []) =
    λ j l. subst (λ (ys : List ℕ). IsZeroFrom p t f (ks ++ get_or ys j 0 ∷ [])) is (c.loop-k.invariant.zero j (omega (arith, ap length is))) in
    zero_all p c.args.trial.now.rules.now.target t c.requires.trial.table right f c.requires.trial.linearized.multilinear ks c.args.rest.now c.args.candidates.now
    c.requires.leaves c.requires.candidates (omega arith) all
