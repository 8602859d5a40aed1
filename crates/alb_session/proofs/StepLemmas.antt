-- Steps and runs of sessions: what they show, and that there is one for all lines.
use Rattle.std.proofs.Common.{◌≡◌, ◌⊎◌, ℕ, ◌≤◌, Bool, true, false, List, [], ◌∷◌, ◌++◌, length, Option, None, Some, Result, Ok, Err, refl, sym, ap, ◌∙◌, subst, inl, inr, append_assoc, arith}
use Rattle.std.specs.Prelude.{nat_lt}
use Rattle.std.proofs.lemmas.List.{append-nil}
use Rattle.alb_board.specs.declared.kept.PassView.{PassView}
use Rattle.alb_mono.specs.Listing.{Each}
use Rattle.alb_question.specs.Question.{Shot, Pair, pair_of}
use Rattle.alb_script.specs.Asked.{Asked, Blank, Field, Generators, Identity, Build, Polynomial, Prove, Dimensions, Table, Claim, Await, Quit}
use Rattle.alb_script.specs.Refusals.{command_text, too_long_text}
use Rattle.alb_script.specs.declared.error.CommandError.{CommandError}
use Rattle.alb_session.specs.Session.{Session, Support, nothing, seen_pair, having_seen, RestsOn, RestsOnNone, Finds, Awaits, IsPlain, Obeys, AnswersAsked, LacksMemory, AnswersUnless, AnswersShort, AnswersLine, Step, asked_of, is_skipped, no_memory_text}
use Rattle.alb_session.specs.Served.{Run, all_shots, degree_after, NeverBack, HasTable, IsOfTable, session_of, Answered}
use Rattle.alb_table.specs.RightTable.{RulesView}

-- ---- runs

module _ {S L : Type 0} (by : S → List ℕ → L → List ℕ → S → Type 0) where
  pub Run-join : (old mid new : S) (xs ys : List (List ℕ)) (ps qs : List L) (t u : List ℕ) → Run by old xs ps t mid → Run by mid ys qs u new → Run by old (xs ++ ys) (ps ++ qs) (t ++ u) new
  Run-join old mid new [] ys ps qs t u p q =
      subst (λ s. Run by s ys (ps ++ qs) (t ++ u) new) p.2 (subst (λ l. Run by mid ys (l ++ qs) (t ++ u) new) (sym p.0) (subst (λ l. Run by mid ys qs (l ++ u) new) (sym p.1) q))
  Run-join old mid new (x ∷ xs) ys ps qs t u p q =
      (p.0, p.1 ++ qs, p.2, p.3 ++ u, p.4, ap (λ l. l ++ qs) p.5, ap (λ l. l ++ u) p.6 ∙ append_assoc p.2 p.3 u, p.7, Run-join p.4 mid new xs ys p.1 qs p.3 u p.8 q)

  pub Run-one : (old new : S) (line : List ℕ) (a : L) (t : List ℕ) → by old line a t new → Run by old (line ∷ []) (a ∷ []) t new
  Run-one old new line a t p = (a, [], t, [], new, refl, sym (append-nil t), p, (refl, refl, refl))

pub shots-append : (ps qs : List Support) → all_shots (ps ++ qs) ≡ all_shots ps ++ all_shots qs
shots-append [] qs = refl
shots-append (p ∷ ps) qs = ap (λ l. p.shots ++ l) (shots-append ps qs) ∙ sym (append_assoc p.shots (all_shots ps) (all_shots qs))

-- ---- what a step shows

record Shows (r : RulesView) (old : Session) (support : Support) (new : Session) : Type 0 where
  rises : old.seen ≤ new.seen
  known : (new.seen ≡ old.seen) ⊎ HasTable r new.seen
  pair : ((support.pair ≡ None) × (new.seen ≡ old.seen)) ⊎ ((p : Pair) × (support.pair ≡ Some p) × (p.degree ≡ new.seen))

module _ (r : RulesView) (letters : List ℕ) where
  plain-shows : (answer : List ℕ) (old next : Session) (support : Support) (text : List ℕ) (new : Session) → next.seen ≡ old.seen → IsPlain answer next support text new → Shows r old support new
  plain-shows answer old next support text new same p =
      let e : new.seen ≡ old.seen = ap (λ (s : Session). s.seen) p.2 ∙ same in
      record { rises = omega (arith, e); known = inl e; pair = inl (ap (λ (s : Support). s.pair) p.0, e) }

  rests-shows : (old : Session) (asks : Result Asked CommandError) (shot : Shot) (support : Support) (new : Session) → RestsOn r old asks shot support new → Shows r old support new
  rests-shows old asks shot support new p =
      let e : new.seen ≡ shot.table.degree = ap (λ (s : Session). s.seen) p.seen in
      record {
        rises = omega (arith, p.later.degree, e);
        known = inr (record { table = shot.table; right = p.later.right; degree_is = sym e });
        pair = inr (pair_of shot, ap (λ (s : Support). s.pair) p.support_is, sym e);
      }

  none-shows : (old : Session) (support : Support) (new : Session) → RestsOnNone old support new → Shows r old support new
  none-shows old support new p =
      let e : new.seen ≡ old.seen = ap (λ (s : Session). s.seen) p.1 in
      record { rises = omega (arith, e); known = inl e; pair = inr (seen_pair old, ap (λ (s : Support). s.pair) p.0, sym e) }

  obeys-shows : (old : Session) (a : Asked) (support : Support) (text : List ℕ) (new : Session) → Obeys r letters old a support text new → Shows r old support new
  obeys-shows old Quit support text new p = plain-shows [] old (record old { closed = true }) support text new refl p
  obeys-shows old (Await k) support text new p = rests-shows old (Ok (Await k)) p.shot support new p.rests
  obeys-shows old (Polynomial g) support text new p = rests-shows old (Ok (Polynomial g)) p.shot support new p.rests
  obeys-shows old (Prove g) support text new p = rests-shows old (Ok (Prove g)) p.shot support new p.rests
  obeys-shows old Dimensions support text new p = rests-shows old (Ok Dimensions) p.shot support new p.rests
  obeys-shows old Table support text new p = rests-shows old (Ok Table) p.shot support new p.rests
  obeys-shows old Blank support text new p = absurd p
  obeys-shows old (Field n) support text new p = absurd p
  obeys-shows old (Generators ts n) support text new p = absurd p
  obeys-shows old (Identity f) support text new p = absurd p
  obeys-shows old Build support text new p = absurd p
  obeys-shows old (Claim f) support text new p = absurd p

  asked-shows : (old : Session) (asks : Result Asked CommandError) (support : Support) (text : List ℕ) (new : Session) → AnswersAsked r letters old asks support text new → Shows r old support new
  asked-shows old (Ok a) support text new p = obeys-shows old a support text new p
  asked-shows old (Err e) support text new p = plain-shows (command_text e) old old support text new refl p

  lacks-shows : (old : Session) (asks : Result Asked CommandError) (support : Support) (new : Session) → RestsOnNone old support new ⊎ ((shot : Shot) × RestsOn r old asks shot support new) → Shows r old support new
  lacks-shows old asks support new (inl p) = none-shows old support new p
  lacks-shows old asks support new (inr p) = rests-shows old asks p.0 support new p.1

  either-shows : (old : Session) (asks : Result Asked CommandError) (support : Support) (text : List ℕ) (new : Session)
      → AnswersAsked r letters old asks support text new ⊎ LacksMemory r old asks support text new → Shows r old support new
  either-shows old asks support text new (inl p) = asked-shows old asks support text new p
  either-shows old asks support text new (inr p) = lacks-shows old asks support new p.rests

  unless-shows : (b : Bool) (old : Session) (asks : Result Asked CommandError) (support : Support) (text : List ℕ) (new : Session) → AnswersUnless b r letters old asks support text new → Shows r old support new
  unless-shows true old asks support text new p = plain-shows [] old old support text new refl p
  unless-shows false old asks support text new p = either-shows old asks support text new p

  short-shows : (b : Bool) (old : Session) (line : List ℕ) (support : Support) (text : List ℕ) (new : Session) → AnswersShort b r letters old line support text new → Shows r old support new
  short-shows true old line support text new p = plain-shows too_long_text old old support text new refl p
  short-shows false old line support text new p = unless-shows (is_skipped (asked_of r letters line)) old (asked_of r letters line) support text new p

  line-shows : (b : Bool) (old : Session) (line : List ℕ) (support : Support) (text : List ℕ) (new : Session) → AnswersLine b r letters old line support text new → Shows r old support new
  line-shows true old line support text new p = plain-shows [] old old support text new refl p
  line-shows false old line support text new p = short-shows (nat_lt 65536 (length line)) old line support text new p

  -- ---- what a run shows

  after-pair : (old new : Session) (o : Option Pair) → ((o ≡ None) × (new.seen ≡ old.seen)) ⊎ ((p : Pair) × (o ≡ Some p) × (p.degree ≡ new.seen)) → degree_after old.seen o ≡ new.seen
  after-pair old new o (inl p) = ap (degree_after old.seen) p.0 ∙ sym p.1
  after-pair old new o (inr p) = ap (degree_after old.seen) p.1 ∙ p.2

  known-on : (from a b : ℕ) → (a ≡ from) ⊎ HasTable r a → (b ≡ a) ⊎ HasTable r b → (b ≡ from) ⊎ HasTable r b
  known-on from a b p (inr q) = inr q
  known-on from a b p (inl q) = subst (λ (n : ℕ). (n ≡ from) ⊎ HasTable r n) (sym q) p

  of-table : (from : ℕ) (old new : Session) (o : Option Pair) → (new.seen ≡ from) ⊎ HasTable r new.seen → ((o ≡ None) × (new.seen ≡ old.seen)) ⊎ ((p : Pair) × (o ≡ Some p) × (p.degree ≡ new.seen)) → IsOfTable r from o
  of-table from old new o h (inl p) = subst (IsOfTable r from) (sym p.0) tt
  of-table from old new o h (inr p) = subst (IsOfTable r from) (sym p.1) (subst (λ (n : ℕ). (n ≡ from) ⊎ HasTable r n) (sym p.2) h)

  run-rises : (old new : Session) (lines : List (List ℕ)) (supports : List Support) (text : List ℕ) → Run (Step r letters) old lines supports text new → NeverBack old.seen supports new.seen
  run-rises old new [] supports text p =
      subst (λ (l : List Support). NeverBack old.seen l new.seen) (sym p.0) (let e : new.seen ≡ old.seen = ap (λ (s : Session). s.seen) p.2 in omega (arith, e))
  run-rises old new (line ∷ lines) supports text p =
      let s = line-shows old.closed old line p.0 p.2 p.4 p.7 in
      let e : degree_after old.seen p.0.pair ≡ p.4.seen = after-pair old p.4 p.0.pair s.pair in
      subst (λ (l : List Support). NeverBack old.seen l new.seen) (sym p.5) (
        subst (λ (n : ℕ). old.seen ≤ n) (sym e) s.rises,
        subst (λ (n : ℕ). NeverBack n p.1 new.seen) (sym e) (run-rises p.4 new lines p.1 p.3 p.8),
      )

  run-tables : (from : ℕ) (old new : Session) (lines : List (List ℕ)) (supports : List Support) (text : List ℕ) → (old.seen ≡ from) ⊎ HasTable r old.seen → Run (Step r letters) old lines supports text new
      → Each (λ s. IsOfTable r from s.pair) supports
  run-tables from old new [] supports text h p = subst (λ (l : List Support). Each (λ s. IsOfTable r from s.pair) l) (sym p.0) tt
  run-tables from old new (line ∷ lines) supports text h p =
      let s = line-shows old.closed old line p.0 p.2 p.4 p.7 in
      let k = known-on from old.seen p.4.seen h s.known in
      subst (λ (l : List Support). Each (λ s. IsOfTable r from s.pair) l) (sym p.5) (of-table from old p.4 p.0.pair k s.pair, run-tables from p.4 new lines p.1 p.3 k p.8)

  -- a run is a transcript
  pub answered : (v w : PassView) (lines : List (List ℕ)) (supports : List Support) (text : List ℕ) (closed : Bool) → Run (Step r letters) (session_of v false) lines supports text (session_of w closed)
      → w.shots ≡ v.shots ++ all_shots supports → Answered r letters v w lines text closed
  answered v w lines supports text closed run shots = record {
    supports = supports;
    run = run;
    shots = shots;
    never_back = run-rises (session_of v false) (session_of w closed) lines supports text run;
    of_tables = run-tables v.seen (session_of v false) (session_of w closed) lines supports text (inl refl) run;
  }

  -- ---- there is a run for all lines: where there is no memory for any, no shot is asked for

  lacks-unless : (b : Bool) (s : Session) (asks : Result Asked CommandError) → (support : Support) × (text : List ℕ) × AnswersUnless b r letters s asks support text s × (support.shots ≡ [])
  lacks-unless true s asks = (nothing, [], (refl, refl, refl), refl)
  lacks-unless false s asks = (record { pair = Some (seen_pair s); shots = [] }, no_memory_text s.seen, inr (record { rests = inl (refl, refl); text_is = refl }), refl)

  lacks-short : (b : Bool) (s : Session) (line : List ℕ) → (support : Support) × (text : List ℕ) × AnswersShort b r letters s line support text s × (support.shots ≡ [])
  lacks-short true s line = (nothing, too_long_text, (refl, refl, refl), refl)
  lacks-short false s line = lacks-unless (is_skipped (asked_of r letters line)) s (asked_of r letters line)

  lacks-line : (b : Bool) (s : Session) (line : List ℕ) → (support : Support) × (text : List ℕ) × AnswersLine b r letters s line support text s × (support.shots ≡ [])
  lacks-line true s line = (nothing, [], (refl, refl, refl), refl)
  lacks-line false s line = lacks-short (nat_lt 65536 (length line)) s line

  pub run-some : (s : Session) (lines : List (List ℕ)) → (supports : List Support) × (text : List ℕ) × Run (Step r letters) s lines supports text s × (all_shots supports ≡ [])
  run-some s [] = ([], [], (refl, refl, refl), refl)
  run-some s (line ∷ lines) =
      let one = lacks-line s.closed s line in
      let rest = run-some s lines in
      let none : one.0.shots ++ all_shots rest.0 ≡ [] = ap (λ l. l ++ all_shots rest.0) one.3 ∙ rest.3 in
      (one.0 ∷ rest.0, one.1 ++ rest.1, (one.0, rest.0, one.1, rest.1, s, refl, refl, one.2, rest.2), none)

  -- after the end of the session no line is read
  pub closed-run : (s : Session) (lines : List (List ℕ)) → s.closed ≡ true → (supports : List Support) × Run (Step r letters) s lines supports [] s × (all_shots supports ≡ [])
  closed-run s [] h = ([], (refl, refl, refl), refl)
  closed-run s (line ∷ lines) h =
      let rest = closed-run s lines h in
      (nothing ∷ rest.0, (nothing, rest.0, [], [], s, refl, refl, subst (λ c. AnswersLine c r letters s line nothing [] s) (sym h) (refl, refl, refl), rest.1), rest.2)
