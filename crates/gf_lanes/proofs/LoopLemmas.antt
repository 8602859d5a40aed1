-- Places that are done one by one, and 32 at once.
use Rattle.std.proofs.Common.{◌≡◌, ℕ, ◌+◌, ◌*◌, ◌<◌, ◌≤◌, List, length, get_or, set, refl, ◌∙◌, sym, arith, inl, inr, subst}
use Rattle.std.proofs.lemmas.List.{get_or-set_same, get_or-set_other}
use Rattle.std.proofs.lemmas.Bool.{cases_eq, cases_lt}
use Rattle.gf_field.specs.Modular.{IsSameMod}
use Rattle.gf_lanes.specs.Lanes.{IsDoneTo, IsLazySumAt}

pub none_done : (P : ℕ → ℕ → Type 0) (old : List ℕ) → IsDoneTo P old 0 old
none_done P old = record { within = omega arith; done = λ i l. absurd (omega arith); rest = λ i l. refl }

pub one_more : (P : ℕ → ℕ → Type 0) (old new : List ℕ) (at v : ℕ) → IsDoneTo P old at new → at < length old → length new ≡ length old → P at v → IsDoneTo P old (at + 1) (set new at v)
one_more P old new at v a l long right =
    record {
      within = omega arith;
      done = λ i h. elim (cases_eq i at) [
        | inl e ↦ rw (e, get_or-set_same new at v 0 (omega arith)) right
        | inr ne ↦ rw (get_or-set_other new at i v 0 ne) (a.done i (omega arith))
      ];
      rest = λ i h. rw (get_or-set_other new at i v 0 (λ e. absurd (omega arith))) (a.rest i (omega arith));
    }

pub block_more : (P : ℕ → ℕ → Type 0) (old mid new : List ℕ) (at : ℕ) → IsDoneTo P old at mid → at + 32 ≤ length old
    → ((i : ℕ) → at ≤ i → i < at + 32 → P i (get_or new i 0))
    → ((i : ℕ) → i < at → get_or new i 0 ≡ get_or mid i 0)
    → ((i : ℕ) → at + 32 ≤ i → get_or new i 0 ≡ get_or mid i 0)
    → IsDoneTo P old (at + 32) new
block_more P old mid new at a room value before after =
    record {
      within = room;
      done = λ i h. elim (cases_lt i at) [
        | inl l ↦ subst (P i) (sym (before i l)) (a.done i l)
        | inr l ↦ value i l h
      ];
      rest = λ i h. after i h ∙ a.rest i (omega arith);
    }

-- the sum of a lane depends on nothing but that lane
pub lazy_from : (p c : ℕ) (old mid src : List ℕ) (i x : ℕ) → get_or mid i 0 ≡ get_or old i 0 → IsLazySumAt p c mid src i x → IsLazySumAt p c old src i x
lazy_from p c old mid src i x e h = record { same = rw e at h.same; below = rw e at h.below }

-- a lane that was loaded, added to and stored
pub lazy_stored : (p c : ℕ) (d s : List ℕ) (i x r dl sl : ℕ) → x ≡ r → dl ≡ get_or d i 0 → sl ≡ get_or s i 0 → IsSameMod p r (dl + c * sl) → r < dl + 2 * p → IsLazySumAt p c d s i x
lazy_stored p c d s i x r dl sl ex ed es same below = record { same = rw (ex, ← ed, ← es) same; below = rw (ex, ← ed) below }
