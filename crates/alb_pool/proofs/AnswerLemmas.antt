-- The answers of workers, taken in the order of the types.
use Rattle.std.proofs.Common.{◌≡◌, ℕ, zero, suc, ◌+◌, ◌<◌, List, [], ◌∷◌, ◌++◌, length, map, get_or, take, sym, refl, ap, ◌∙◌, subst, arith, Result, Option, Ok, Err, Some, IfSome, set, length-set, get_or-set_same, get_or-set_other}
use native.Mathlib.Decide.{ℕ_discrete}
use mathlib.Core.Logic.{dite}
use Rattle.std.proofs.lemmas.List.{map-append}
use Rattle.alb_mono.specs.Tree.{IsTypeWithin}
use Rattle.alb_poly.specs.Consequence.{forms}
use Rattle.alb_block.specs.View.{block_view}
use Rattle.alb_block.specs.declared.block.Block.{Block}
use Rattle.alb_block.specs.declared.error.BlockStop.{BlockStop}
use Rattle.alb_build.specs.Next.{AreBlocks, IsWideStop}
use Rattle.alb_build.proofs.Wide.{type-next, wide-stop, blocks-more}
use Rattle.alb_pool.specs.Work.{IsDegree, IsAnswerAt, IsAnswerOf, ArePlaces}
use Rattle.alb_pool.specs.declared.workers.Degree.{Degree}

-- inside a list no default counts
same-read : (ws : List (List ℕ)) (k : ℕ) (v w : List ℕ) → k < length ws → v ≡ get_or ws k v → w ≡ get_or ws k w → v ≡ w
same-read [] k v w l e f = absurd (omega arith)
same-read (x ∷ ws) zero v w l e f = e ∙ sym f
same-read (x ∷ ws) (suc k) v w l e f = same-read ws k v w (omega arith) e f

pub read-again : (ws : List (List ℕ)) (k : ℕ) (v : List ℕ) → k < length ws → get_or ws k v ≡ get_or ws k (get_or ws k v)
read-again [] k v l = absurd (omega arith)
read-again (x ∷ ws) zero v l = refl
read-again (x ∷ ws) (suc k) v l = read-again ws k v (omega arith)

module _ (d : Degree) (k : ℕ) (inside : k < length d.types.now) where
  -- the type of the number k is one of the next degree
  pub type-within : (w : List ℕ) → IsDegree d → w ≡ get_or d.types.now k w → IsTypeWithin d.tables.now.target (d.tables.now.degree + 1) w
  type-within w h e = type-next d.tables.now.target (d.tables.now.degree + 1) d.types.now k w h.types inside (sym e)

  -- what was answered at it
  pub answer-of : (w : List ℕ) (block : Result Block BlockStop) → w ≡ get_or d.types.now k w → IsAnswerAt d w block → IsAnswerOf d k block
  answer-of w block e a v f = subst (λ x. IsAnswerAt d x block) (same-read d.types.now k w v inside e f) a

  -- one more block
  pub block-more : (blocks new : List Block) (b : Block) → AreBlocks (forms d.rules.now) d.tables.now (take k d.types.now) (map block_view blocks)
      → IsAnswerOf d k (Ok b) → new ≡ blocks ++ b ∷ [] → AreBlocks (forms d.rules.now) d.tables.now (take (k + 1) d.types.now) (map block_view new)
  block-more blocks new b before a e =
      let w : List ℕ = get_or d.types.now k [] in
      let r : w ≡ get_or d.types.now k w = read-again d.types.now k [] inside in
      let h : IsAnswerAt d w (Ok b) = a w r in
      let next : suc k ≡ k + 1 = omega arith in
      let m : map block_view new ≡ map block_view blocks ++ block_view b ∷ [] = ap (map block_view) e ∙ map-append block_view blocks (b ∷ []) in
      subst (λ n. AreBlocks (forms d.rules.now) d.tables.now (take n d.types.now) (map block_view new)) next
      (subst (AreBlocks (forms d.rules.now) d.tables.now (take (suc k) d.types.now)) (sym m)
      (blocks-more (forms d.rules.now) d.tables.now d.types.now k (map block_view blocks) w (block_view b) before inside (sym r)
      record { block = h.answer; meaning = h.meaning }))

  -- the first type that has no block
  pub first-stop : (blocks : List Block) (stop : BlockStop) → IsDegree d → AreBlocks (forms d.rules.now) d.tables.now (take k d.types.now) (map block_view blocks)
      → IsAnswerOf d k (Err stop) → IsWideStop d.tables.now stop
  first-stop blocks stop h before a =
      let w : List ℕ = get_or d.types.now k [] in
      let r : w ≡ get_or d.types.now k w = read-again d.types.now k [] inside in
      wide-stop (forms d.rules.now) d.tables.now d.types.now k (map block_view blocks) w stop before inside (sym r) h.types (a w r).answer

-- an answer at the place of its type
pub filled : (d : Degree) (places : List (Option (Result Block BlockStop))) (number : ℕ) (block : Result Block BlockStop) → ArePlaces d places
    → number < length d.types.now → IsAnswerOf d number block → ArePlaces d (set places number (Some block))
filled d places number block p inside a =
    let full = p.full in
    record {
      full = length-set places number (Some block) ∙ p.full;
      each = λ k q l. dite (ℕ_discrete k number)
          (λ e. subst (λ j. IfSome (get_or (set places number (Some block)) j q) (IsAnswerOf d j)) (sym e)
          (subst (λ (o : Option (Result Block BlockStop)). IfSome o (IsAnswerOf d number)) (sym (get_or-set_same places number (Some block) q (omega arith))) a))
          (λ ne. subst (λ (o : Option (Result Block BlockStop)). IfSome o (IsAnswerOf d k)) (sym (get_or-set_other places number k (Some block) q ne)) (p.each k q l));
    }
