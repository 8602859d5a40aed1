-- Each kind of step keeps the rule.
use Rattle.std.proofs.Common.{◌≡◌, ◌≢◌, ℕ, ◌+◌, ◌*◌, ◌%◌, ◌^◌, ◌<◌, ◌≤◌, eqb, Bool, true, false, cond, List, [], ◌∷◌, ◌++◌, length, get_or, set, sym, refl, ap, ◌∙◌, subst, ⊎_elim, arith, length-set, length-append, get_or-set_same}
use mathlib.Core.Option.{none}
use lib.Seq.{set-get_or}
use Rattle.std.specs.List.{sum_by}
use Rattle.std.proofs.lemmas.List.Sums.{sum_by-append, sum_by-cons}
use Rattle.std.proofs.lemmas.Bool.Decides.{nat_tests}
use Rattle.atomic_table.specs.Table.{step, keeps, Allows, Splits, Joins}
use Rattle.atomic_table.proofs.Lists.{at_set, set_again, at_snoc}
use Rattle.alb_claims.specs.declared.rule.Claim.{Claim}
use Rattle.alb_claims.specs.Claimed.{S, M, claim, times, once_below, next, Sits, Knows, Claimed, draws, learns}
use Rattle.alb_claims.proofs.Seats.{sum_set, sum_most, one_of}

-- no number wraps
bounded : (s : S) (r : Claimed s) → next s ≤ 16 * 2 ^ 32
bounded s r = let all = sum_most (λ (v : Claim). length v.drawn) s.views (2 ^ 32) (λ i v at. (r.each_seat i v at).bounded) in let n = r.counted in let few = r.few in omega arith

each_set : (K K' : ℕ → Claim → Type 0) (vs : List Claim) (id : ℕ) (w : Claim) → K' id w → ((i : ℕ) (v : Claim) → i ≢ id → Sits vs i v → K i v → K' i v)
    → ((i : ℕ) (v : Claim) → Sits vs i v → K i v) → (i : ℕ) (v : Claim) → Sits (set vs id w) i v → K' i v
each_set K K' vs id w mine others all i v e = ⊎_elim (λ (t : (i ≡ id) × (w ≡ v)). subst (λ (x : ℕ × Claim). K' x.0 x.1) (λ k. (sym t.0 k, t.1 k)) mine)
    (λ (t : (i ≢ id) × Sits vs i v). others i v t.0 t.1 (all i v t.1)) (at_set vs id i w v e)

times-snoc : (x : ℕ) (xs : List ℕ) (n : ℕ) → times x (xs ++ n ∷ []) ≡ times x xs + cond (eqb n x) 1 0
times-snoc x xs n = let one : times x (n ∷ []) ≡ cond (eqb n x) 1 0 + 0 = sum_by-cons (λ (y : ℕ). cond (eqb y x) 1 0) n [] in omega (arith, sum_by-append (λ (y : ℕ). cond (eqb y x) 1 0) xs (n ∷ []), one)

below_next : (x n : ℕ) → once_below x (n + 1) ≡ once_below x n + cond (eqb n x) 1 0
below_next x n = grind (arith, nat_tests)

pub draws_keeps : (slots id : ℕ) (me : M) → length me.0.drawn < 2 ^ 32 → Allows Claimed slots id me 0 (λ n. (n + 1) % 2 ^ 64) (draws (step slots 0 1 0 none) me)
draws_keeps slots id me room s r deep at small =
    let v : Claim = me.0 in let n : ℕ = next s in let w : Claim = claim (v.drawn ++ n ∷ []) v.opener v.passes in
    let most = bounded s r in let up : (n + 1) % 2 ^ 64 ≡ n + 1 = omega arith in let wide = r.wide in let ws : List ℕ = set s.words 0 ((n + 1) % 2 ^ 64) in
    let now : get_or ws 0 0 ≡ n + 1 = get_or-set_same s.words 0 ((n + 1) % 2 ^ 64) 0 (omega arith) ∙ up in
    let long : length (set s.views id w) ≡ length s.views = length-set s.views id w in let mine = r.each_seat id v at in
    let more : length (v.drawn ++ n ∷ []) ≡ length v.drawn + 1 = length-append v.drawn (n ∷ []) in let sums = sum_set (λ (u : Claim). length u.drawn) s.views id v w at in let counted = r.counted in (
      w,
      keeps,
      tt,
      record {
        wide = length-set s.words 0 ((n + 1) % 2 ^ 64) ∙ wide;
        few = omega (arith, r.few);
        spread = λ x. subst (λ (k : ℕ). sum_by (λ (u : Claim). times x u.drawn) (set s.views id w) ≡ once_below x k) (sym now)
            (let sums' = sum_set (λ (u : Claim). times x u.drawn) s.views id v w at in let was = r.spread x in let one = times-snoc x v.drawn n in let below = below_next x n in omega arith);
        counted = omega arith;
        each_seat = subst (λ (k : ℕ). (i : ℕ) (u : Claim) → Sits (set s.views id w) i u → Knows k i u) (sym long)
            (each_set (Knows (length s.views)) (Knows (length s.views)) s.views id w record { bounded = omega arith; opens = mine.opens } (λ i u _ _ k. k) r.each_seat);
      },
      (refl, refl),
    )

is_false : (b : Bool) → (b ≡ true → ⊥) → b ≡ false
is_false true n = absurd (n refl)
is_false false n = refl

pub splits_keeps : (id : ℕ) (v : Claim) → v.opener ≡ true → v.passes < 16 → Splits Claimed id v (claim v.drawn v.opener (v.passes + 1)) (claim [] false 0)
splits_keeps id v opens room s r at = let w : Claim = claim v.drawn v.opener (v.passes + 1) in let none_yet : Claim = claim [] false 0 in let vs : List Claim = set s.views id w in
    let mine = r.each_seat id v at in let first = mine.opens opens in let long : length (vs ++ none_yet ∷ []) ≡ length s.views + 1 = omega (arith, length-append vs (none_yet ∷ []), length-set s.views id w) in
    let sums = sum_set (λ (u : Claim). length u.drawn) s.views id v w at in let counted = r.counted in record {
      wide = r.wide;
      few = omega arith;
      spread = λ x. let was = r.spread x in let sums' = sum_set (λ (u : Claim). times x u.drawn) s.views id v w at in omega (arith, sum_by-append (λ (u : Claim). times x u.drawn) vs (none_yet ∷ []));
      counted = omega (arith, sum_by-append (λ (u : Claim). length u.drawn) vs (none_yet ∷ []));
      each_seat = subst (λ (k : ℕ). (i : ℕ) (u : Claim) → Sits (vs ++ none_yet ∷ []) i u → Knows k i u) (sym long)
          (λ i u e. ⊎_elim
          (λ (o : Sits vs i u). each_set (Knows (length s.views)) (Knows (length s.views + 1)) s.views id w record { bounded = mine.bounded; opens = λ _. (first.0, ap (λ (n : ℕ). n + 1) first.1) }
          (λ i u other _ k. record { bounded = k.bounded; opens = λ t. absurd (other ((k.opens t).0 ∙ sym first.0)) }) r.each_seat i u o)
          (λ (o : none_yet ≡ u). subst (Knows (length s.views + 1) i) o record { bounded = omega arith; opens = λ t. absurd (cc) }) (at_snoc vs none_yet u i e));
    }

pub joins_keeps : (id : ℕ) (v : Claim) (other : ℕ) (u : Claim) → length v.drawn + length u.drawn ≤ 2 ^ 32 → Joins Claimed id v other u (claim (v.drawn ++ u.drawn) v.opener v.passes) (claim [] false 0)
joins_keeps id v other u room s r at apart there = let w : Claim = claim (v.drawn ++ u.drawn) v.opener v.passes in let spent : Claim = claim [] false 0 in let vs : List Claim = set s.views id w in
    let mine = r.each_seat id v at in let long : length (set vs other spent) ≡ length s.views = length-set vs other spent ∙ length-set s.views id w in
    let sums = sum_set (λ (c : Claim). length c.drawn) s.views id v w at in let sums' = sum_set (λ (c : Claim). length c.drawn) vs other u spent there in let counted = r.counted in
    let both : length (v.drawn ++ u.drawn) ≡ length v.drawn + length u.drawn = length-append v.drawn u.drawn in record {
      wide = r.wide;
      few = omega (arith, r.few);
      spread = λ x. let was = r.spread x in let a = sum_set (λ (c : Claim). times x c.drawn) s.views id v w at in let b = sum_set (λ (c : Claim). times x c.drawn) vs other u spent there in
          let two : times x (v.drawn ++ u.drawn) ≡ times x v.drawn + times x u.drawn = sum_by-append (λ (y : ℕ). cond (eqb y x) 1 0) v.drawn u.drawn in omega arith;
      counted = omega arith;
      each_seat = subst (λ (k : ℕ). (i : ℕ) (c : Claim) → Sits (set vs other spent) i c → Knows k i c) (sym long)
          (each_set (Knows (length s.views)) (Knows (length s.views)) vs other spent record { bounded = omega arith; opens = λ t. absurd (cc) } (λ i c _ _ k. k)
          (each_set (Knows (length s.views)) (Knows (length s.views)) s.views id w record { bounded = omega arith; opens = mine.opens } (λ i c _ _ k. k) r.each_seat));
    }

once_at_most : (x n : ℕ) → once_below x n ≤ 1
once_at_most x n = grind (arith, nat_tests)

pub learns_keeps : (slots id : ℕ) (me : M) → Allows Claimed slots id me 0 (λ n. n) (learns (step slots 0 0 0 none) me)
learns_keeps slots id me s r deep at small = (
  me.0,
  keeps,
  tt,
  subst Claimed (λ i. record { words = sym (set-get_or s.words 0 0) i; homes = s.homes; views = sym (set_again s.views id me.0 at) i }) r,
  (refl, λ x. let one = one_of (λ (c : Claim). times x c.drawn) s.views id me.0 at in let was = r.spread x in let most = once_at_most x (next s) in omega arith),
)
