-- What is kept of the first lines, by marks.
use Rattle.std.proofs.Common.{◌≡◌, ℕ, ◌+◌, ◌-◌, ◌<◌, ◌≤◌, ◌⊎◌, Bool, true, false, List, [], ◌∷◌, ◌++◌, length, get_or, refl, sym, ap, ◌∙◌, subst, arith, inl, inr, length-append}
use Rattle.std.proofs.lemmas.Bool.{false≢true, cases_lt}
use Rattle.std.proofs.Math.ListN.{get_or-append}
use Rattle.std.proofs.Math.Seq.{get_or-append_seam}
use Rattle.alb_deriv.specs.Derivation.{Line}
use Rattle.alb_tidy.specs.Tidy.{line_at, cites, IsCited, AreDifferent, IsTidy}
use Rattle.alb_tidy.specs.Cites.{IsNumber, CitesWithin, AreOrdered, new_number, renumbered}
use Rattle.alb_tidy.specs.Needed.{is_marked, IsCitedBy, AreNeeded}
use Rattle.alb_tidy.proofs.Citing.{cites-within, renumbered-within, renumbered-cites, renumbered-kept, within-more}
use Rattle.alb_tidy.proofs.Numbered.{Numbers, at-front, at-end, at-kept, length-more, number-last}

-- the new number of the line at a place
abbrev pub number_at : List ℕ → ℕ → ℕ
number_at places j = get_or places j 0

-- the line with number x + 1 is that of one of the first k lines, a marked one
pub record HasSource (marks : List Bool) (k : ℕ) (places : List ℕ) (x : ℕ) : Type 0 where
  pub place : ℕ
  pub below : place < k
  pub marked : is_marked marks place ≡ true
  pub is : number_at places place ≡ x + 1

-- of the first k lines `ls` those that are marked are kept as the lines `ms`, with new numbers
pub record IsKept (ls : List Line) (marks : List Bool) (k : ℕ) (ms : List Line) (places : List ℕ) : Type 0 where
  pub count : length places ≡ k
  pub number : (j : ℕ) → j < k → is_marked marks j ≡ true → IsNumber (length ms) (number_at places j)
  pub stands : (j : ℕ) → j < k → is_marked marks j ≡ true → line_at ms (number_at places j - 1) ≡ renumbered places (line_at ls j)
  pub source : (x : ℕ) → x < length ms → HasSource marks k places x
  pub ordered : AreOrdered ms
  pub different : AreDifferent ms

pub kept-nothing : (ls : List Line) (marks : List Bool) → IsKept ls marks 0 [] []
kept-nothing ls marks = record {
  count = refl;
  number = λ j h e. absurd (omega arith);
  stands = λ j h e. absurd (omega arith);
  source = λ x h. absurd (omega arith);
  ordered = λ x h. absurd (omega arith);
  different = λ j k h l. absurd (omega arith);
}

pub number-front : (places : List ℕ) (n k j : ℕ) → length places ≡ k → j < k → number_at (places ++ n ∷ []) j ≡ number_at places j
number-front places n k j c h = get_or-append places (n ∷ []) 0 j (omega (arith, c))

pub number-end : (places : List ℕ) (n k : ℕ) → length places ≡ k → number_at (places ++ n ∷ []) k ≡ n
number-end places n k c = ap (λ j. number_at (places ++ n ∷ []) j) (sym c) ∙ get_or-append_seam places n [] 0

pub at-or-below : (j k : ℕ) → j < k + 1 → (j < k) ⊎ (j ≡ k)
at-or-below j k h = elim (cases_lt j k) [
  | inl l ↦ inl l
  | inr l ↦ inr (omega (arith, l))
]

module _ (ls : List Line) (marks : List Bool) (k : ℕ) (ms : List Line) (places : List ℕ) (h : IsKept ls marks k ms places) (ordered : AreOrdered ls) (below : k < length ls) where
  -- ---- a line that is left out

  source-more : (n x : ℕ) → HasSource marks k places x → HasSource marks (k + 1) (places ++ n ∷ []) x
  source-more n x s = record {
    place = s.place;
    below = omega (arith, s.below);
    marked = s.marked;
    is = number-front places n k s.place h.count s.below ∙ s.is;
  }

  stands-more : (n j : ℕ) → j < k → renumbered (places ++ n ∷ []) (line_at ls j) ≡ renumbered places (line_at ls j)
  stands-more n j l = renumbered-kept places n j (line_at ls j) (ordered j (omega arith)) (omega (arith, h.count))

  pub kept-skip : is_marked marks k ≡ false → IsKept ls marks (k + 1) ms (places ++ 0 ∷ [])
  kept-skip out = record {
    count = omega (arith, length-append places (0 ∷ []), h.count);
    number = λ j l e. let b = inside j l e in subst (IsNumber (length ms)) (sym (number-front places 0 k j h.count b)) (h.number j b e);
    stands = λ j l e. let b = inside j l e in ap (λ n. line_at ms (n - 1)) (number-front places 0 k j h.count b) ∙ h.stands j b e ∙ sym (stands-more 0 j b);
    source = λ x l. source-more 0 x (h.source x l);
    ordered = h.ordered;
    different = h.different;
  }
    where
      inside : (j : ℕ) → j < k + 1 → is_marked marks j ≡ true → j < k
      inside j l e = elim (at-or-below j k l) [
        | inl b ↦ b
        | inr q ↦ absurd (false≢true (sym out ∙ ap (is_marked marks) (sym q) ∙ e))
      ]

  -- ---- a line that is kept

  -- what it cites has new numbers
  pub cited-number : ((j : ℕ) → cites (line_at ls k) (j + 1) ≡ true → is_marked marks j ≡ true) → (c : ℕ) → cites (line_at ls k) c ≡ true →
      (c - 1 < k) × (is_marked marks (c - 1) ≡ true) × IsNumber (length ms) (new_number places c)
  cited-number closed c e =
      let w : IsNumber k c = cites-within k (line_at ls k) c (ordered k below) e in
      let one : c ≡ c - 1 + 1 = omega (arith, w.above) in
      let b : c - 1 < k = omega (arith, w.above, w.among) in
      let m = closed (c - 1) (subst (λ x. cites (line_at ls k) x ≡ true) one e) in
      (b, m, h.number (c - 1) b m)

  module _ (closed : (j : ℕ) → cites (line_at ls k) (j + 1) ≡ true → is_marked marks j ≡ true) (new : List Line) (n : ℕ) (s : Numbers ms new (renumbered places (line_at ls k)) n) where
    number-next : (j : ℕ) → j < k + 1 → is_marked marks j ≡ true → IsNumber (length new) (number_at (places ++ n ∷ []) j)
    number-next j l e = elim (at-or-below j k l) [
      | inl b ↦ (let x = h.number j b e in
          subst (IsNumber (length new)) (sym (number-front places n k j h.count b)) (record { above = x.above; among = omega (arith, x.among, length-more s) }))
      | inr q ↦ subst (IsNumber (length new)) (sym (ap (number_at (places ++ n ∷ [])) q ∙ number-end places n k h.count)) s.number
    ]

    own-same : renumbered (places ++ n ∷ []) (line_at ls k) ≡ renumbered places (line_at ls k)
    own-same = renumbered-kept places n k (line_at ls k) (ordered k below) (omega (arith, h.count))

    stands-next : (j : ℕ) → j < k + 1 → is_marked marks j ≡ true → line_at new (number_at (places ++ n ∷ []) j - 1) ≡ renumbered (places ++ n ∷ []) (line_at ls j)
    stands-next j l e = elim (at-or-below j k l) [
      | inl b ↦ (let x = h.number j b e in
          ap (λ m. line_at new (m - 1)) (number-front places n k j h.count b)
          ∙ at-kept s (number_at places j - 1) (omega (arith, x.above, x.among)) ∙ h.stands j b e ∙ sym (stands-more n j b))
      | inr q ↦ ap (λ m. line_at new (m - 1)) (ap (number_at (places ++ n ∷ [])) q ∙ number-end places n k h.count) ∙ s.stands ∙ sym own-same
          ∙ ap (λ i. renumbered (places ++ n ∷ []) (line_at ls i)) (sym q)
    ]

    source-next : is_marked marks k ≡ true → (x : ℕ) → x < length new → HasSource marks (k + 1) (places ++ n ∷ []) x
    source-next mark x l = elim s.lines [
      | inl e ↦ source-more n x (h.source x (omega (arith, ap length e)))
      | inr e ↦ elim (at-or-below x (length ms) (omega (arith, ap length e, length-append ms (renumbered places (line_at ls k) ∷ [])))) [
        | inl b ↦ source-more n x (h.source x b)
        | inr q ↦ record {
          place = k;
          below = omega arith;
          marked = mark;
          is = number-end places n k h.count ∙ number-last s e ∙ ap (λ m. m + 1) (sym q);
        }
      ]
    ]

    ordered-next : AreOrdered new
    ordered-next = elim s.lines [
      | inl e ↦ subst AreOrdered (sym e) h.ordered
      | inr e ↦ subst AreOrdered (sym e) (λ x l. elim (at-or-below x (length ms) (omega (arith, length-append ms (renumbered places (line_at ls k) ∷ [])))) [
        | inl b ↦ subst (CitesWithin x) (sym (at-front ms (renumbered places (line_at ls k)) x b)) (h.ordered x b)
        | inr q ↦ subst (λ m. CitesWithin m (line_at (ms ++ renumbered places (line_at ls k) ∷ []) m)) (sym q)
            (subst (CitesWithin (length ms)) (sym (at-end ms (renumbered places (line_at ls k))))
            (renumbered-within (length ms) places (line_at ls k) (λ c w. (cited-number closed c w).2)))
      ])
    ]

    pub kept-next : is_marked marks k ≡ true → IsKept ls marks (k + 1) new (places ++ n ∷ [])
    kept-next mark = record {
      count = omega (arith, length-append places (n ∷ []), h.count);
      number = number-next;
      stands = stands-next;
      source = source-next mark;
      ordered = ordered-next;
      different = s.different;
    }

-- ---- at the end

module _ (ls : List Line) (marks : List Bool) (last : ℕ) (ms : List Line) (places : List ℕ) (h : IsKept ls marks last ms places) (pos : 0 < last) (need : AreNeeded ls last marks) where
  -- a line with a source before the last is cited by a later one
  source-cited : (x : ℕ) (s : HasSource marks last places x) → s.place + 1 < last → IsCited ms x
  source-cited x s l =
      let r = need.reason s.place l s.marked in
      let y = number_at places r.place in
      let w : IsNumber (length ms) y = h.number r.place r.among r.marked in
      let z : s.place + 1 - 1 ≡ s.place = omega arith in
      let named : new_number places (s.place + 1) ≡ x + 1 = ap (number_at places) z ∙ s.is in
      let c : cites (line_at ms (y - 1)) (x + 1) ≡ true =
      subst (λ m. cites m (x + 1) ≡ true) (sym (h.stands r.place r.among r.marked))
      (subst (λ m. cites (renumbered places (line_at ls r.place)) m ≡ true) named (renumbered-cites places (line_at ls r.place) (s.place + 1) r.cited)) in
      let b : y - 1 < length ms = omega (arith, w.above, w.among) in
      let o : IsNumber (y - 1) (x + 1) = cites-within (y - 1) (line_at ms (y - 1)) (x + 1) (h.ordered (y - 1) b) c in
      record { place = y - 1; later = omega (arith, o.among); among = b; cited = c }

  -- the last line has the last number
  pub last-number : number_at places (last - 1) ≡ length ms
  last-number =
      let w : IsNumber (length ms) (number_at places (last - 1)) = h.number (last - 1) (omega arith) need.ends in
      let e : length ms - 1 + 1 ≡ length ms = omega (arith, w.above, w.among) in
      let s = h.source (length ms - 1) (omega (arith, w.above, w.among)) in
      elim (cases_lt (s.place + 1) last) [
        | inl l ↦ (let c = source-cited (length ms - 1) s l in absurd (omega (arith, c.later, c.among)))
        | inr l ↦ (let q : last - 1 ≡ s.place = omega (arith, l, s.below) in ap (number_at places) q ∙ s.is ∙ e)
      ]

  pub kept-tidy : IsTidy ms
  kept-tidy = record {
    different = h.different;
    cited = λ x l. (let s = h.source x (omega arith) in elim (cases_lt (s.place + 1) last) [
      | inl b ↦ source-cited x s b
      | inr b ↦ (let q : s.place ≡ last - 1 = omega (arith, b, s.below) in
          let n : x + 1 ≡ length ms = sym s.is ∙ ap (number_at places) q ∙ last-number in absurd (omega (arith, n, l)))
    ]);
  }
