-- What a shot of the board says to a session, and waiting for a degree.
use Rattle.std.proofs.Common.{◌≡◌, ◌⊎◌, ℕ, ◌+◌, ◌-◌, ◌<◌, ◌≤◌, Bool, true, false, List, [], ◌∷◌, ◌++◌, Option, Some, None, Result, Ok, refl, sym, ap, ◌∙◌, subst, inl, inr, append_assoc, arith}
use Rattle.std.specs.Prelude.{option_map, ◌≢◌}
use Rattle.std.specs.Arc.{arc_value}
use Rattle.std.specs.Option.{is_some}
use Rattle.std.proofs.lemmas.List.{append-nil}
use Rattle.alb_board.specs.Calls.{ShowsShot, ShowsNothing}
use Rattle.alb_board.specs.Published.{published_of, published, number_of, end_count, MayEnd, IsAllowedEnd}
use Rattle.alb_board.specs.declared.kept.PassView.{PassView}
use Rattle.alb_board.specs.declared.kept.Published.{Published}
use Rattle.alb_board.specs.declared.kept.Shot as board
use Rattle.alb_mono.specs.Listing.{Each}
use Rattle.alb_mono.proofs.ListingLemmas.{each-append}
use Rattle.alb_poly.specs.declared.rules.Rules.{Rules}
use Rattle.alb_question.specs.Question.{Shot, Pair, pair_of}
use Rattle.alb_script.specs.Asked.{Asked, Await}
use Rattle.alb_script.specs.declared.error.CommandError.{CommandError}
use Rattle.alb_session.specs.Session.{Session, Support, IsLater, RestsOn, RestsOnNone, AreBefore, LacksMemory, TellsWhether, listed, seen_pair, having_seen, no_memory_text, ready_text, stopped_text}
use Rattle.alb_session.specs.Served.{session_of}
use Rattle.alb_session.specs.View.{shot_of, Spends, Took, Waiting}
use Rattle.alb_table.specs.End.{End, end_of}
use Rattle.alb_table.specs.RightTable.{RulesView, rules_view, IsRightFor}
use Rattle.alb_table.specs.Table.{Table}
use Rattle.alb_table.specs.declared.end.BuildEnd.{BuildEnd}

-- ---- one shot

-- a pair, by the parts of what is kept
abbrev pair_by : Published → Pair
pair_by k = record { degree = k.degree; end = option_map end_of k.end }

-- a session, by its parts
abbrev session_by : ℕ → Option BuildEnd → Bool → Session
session_by seen end closed = record { seen = seen; end = option_map end_of end; closed = closed }

session-alike : (a b : ℕ) (e f : Option BuildEnd) (closed : Bool) → a ≡ b → e ≡ f → session_by a e closed ≡ session_by b f closed
session-alike a b e f closed p q = ap (λ (x : ℕ). session_by x e closed) p ∙ ap (λ (y : Option BuildEnd). session_by b y closed) q

same_end : (x y : End) → Some x ≡ Some y → x ≡ y
same_end x y h = cc

allowed : (r : RulesView) (d : ℕ) (e : Option BuildEnd) → MayEnd r d e → (x : End) → option_map end_of e ≡ Some x → IsAllowedEnd r d x
allowed r d None m x h = absurd (cc)
allowed r d (Some b) m x h = subst (IsAllowedEnd r d) (same_end (end_of b) x h) m

shown_again : (seen : ℕ) (e : Option BuildEnd) (k : Published) → ((b : BuildEnd) → e ≡ Some b → k ≡ published seen (Some b)) → (x : End) → option_map end_of e ≡ Some x
    → pair_by k ≡ record { degree = seen; end = option_map end_of e }
shown_again seen None k h x is = absurd (cc)
shown_again seen (Some b) k h x is = ap pair_by (h b refl)

some_mapped : (e : Option BuildEnd) → is_some (option_map end_of e) ≡ is_some e
some_mapped None = refl
some_mapped (Some b) = refl

module _ (rules : Rules) (v w : PassView) (k : board.Shot) (p : ShowsShot rules v k w) where
  pub shot-later : IsLater (rules_view rules) (session_of v false) (shot_of k)
  shot-later = record {
    right = p.right;
    allowed = allowed (rules_view rules) (arc_value k.tables).degree k.end p.allowed;
    degree = p.degree;
    same_end = shown_again v.seen v.end (published_of k) p.same_end;
  }

  pub shot-seen : session_of w false ≡ having_seen (pair_of (shot_of k)) (session_of v false)
  shot-seen = session-alike w.seen (arc_value k.tables).degree w.end k.end false p.seen p.end

  pub shot-listed : w.shots ≡ v.shots ++ listed (pair_of (shot_of k)) ∷ []
  shot-listed = p.shots ∙ ap (λ (b : Bool). v.shots ++ ((arc_value k.tables).degree, b) ∷ []) (sym (some_mapped k.end))

  pub shot-known : v.known ≤ w.known
  shot-known = omega (arith, p.number, p.known)

  pub shot-spends : Spends v w
  shot-spends = record { known = shot-known; calls = omega (arith, shot-known, p.called.calls) }

  -- a line of one shot
  abbrev pub by_shot : Support
  by_shot = record { pair = Some (pair_of (shot_of k)); shots = listed (pair_of (shot_of k)) ∷ [] }

  pub shot-rests : (asks : Result Asked CommandError) → AreBefore asks [] → RestsOn (rules_view rules) (session_of v false) asks (shot_of k) by_shot (session_of w false)
  shot-rests asks none = record { before = []; before_are = none; later = shot-later; support_is = refl; seen = shot-seen }

  pub shot-took : Took by_shot v w
  shot-took = record { shots = shot-listed; spends = shot-spends }

module _ (v w : PassView) (p : ShowsNothing v w) where
  pub none-seen : session_of w false ≡ session_of v false
  none-seen = session-alike w.seen v.seen w.end v.end false p.seen p.end

  -- a line of no shot
  abbrev pub by_none : Support
  by_none = record { pair = Some (seen_pair (session_of v false)); shots = [] }

  pub none-spends : Spends v w
  none-spends = record { known = p.known; calls = omega (arith, p.known, p.called.calls) }

  pub none-took : Took by_none v w
  none-took = record { shots = p.shots ∙ sym (append-nil v.shots); spends = none-spends }

pub same-spends : (v : PassView) → Spends v v
same-spends v = record { known = omega arith; calls = omega arith }

-- ---- waiting

pub waiting-start : (r : RulesView) (k : ℕ) (v : PassView) → Waiting r k v v
waiting-start r k v = record {
  support = record { pair = Some (seen_pair (session_of v false)); shots = [] };
  rests = inl (refl, refl);
  early = tt;
  shots = sym (append-nil v.shots);
  later = omega arith;
  stays = λ e h. (refl, refl);
  known = omega arith;
  calls = omega arith;
}

-- a session that has seen the same
later-again : (r : RulesView) (a b : Session) (s : Shot) → a.seen ≤ b.seen → ((e : End) → a.end ≡ Some e → seen_pair b ≡ seen_pair a) → IsLater r b s → IsLater r a s
later-again r a b s h same p = record {
  right = p.right;
  allowed = p.allowed;
  degree = omega (arith, h, p.degree);
  same_end = λ e is. let q : seen_pair b ≡ seen_pair a = same e is in p.same_end e (ap (λ (x : Pair). x.end) q ∙ is) ∙ q;
}

stays_pair : (a b : ℕ) (e f : Option BuildEnd) → ((x : BuildEnd) → e ≡ Some x → (b ≡ a) × (f ≡ e)) → (x : End) → option_map end_of e ≡ Some x → pair_by (published b f) ≡ pair_by (published a e)
stays_pair a b None f h x is = absurd (cc)
stays_pair a b (Some y) f h x is = let q = h y refl in ap (λ (n : ℕ). pair_by (published n f)) q.0 ∙ ap (λ (o : Option BuildEnd). pair_by (published a o)) q.1

module _ (rules : Rules) (k : ℕ) (v u w : PassView) (so_far : Waiting (rules_view rules) k v u) (s : board.Shot) (p : ShowsShot rules u s w) where
  abbrev r : RulesView
  r = rules_view rules

  wait-later : IsLater r (session_of v false) (shot_of s)
  wait-later = later-again r (session_of v false) (session_of u false) (shot_of s) so_far.later (stays_pair v.seen u.seen v.end u.end so_far.stays) (shot-later rules u w s p)

  abbrev pub wait_support : Support
  wait_support = record { pair = Some (pair_of (shot_of s)); shots = so_far.support.shots ++ listed (pair_of (shot_of s)) ∷ [] }

  pub wait-seen : session_of w false ≡ having_seen (pair_of (shot_of s)) (session_of v false)
  wait-seen = session-alike w.seen (arc_value s.tables).degree w.end s.end false p.seen p.end

  -- the last shot
  pub wait-rests : RestsOn r (session_of v false) (Ok (Await k)) (shot_of s) wait_support (session_of w false)
  wait-rests = record { before = so_far.support.shots; before_are = so_far.early; later = wait-later; support_is = refl; seen = wait-seen }

  wait-shots : w.shots ≡ v.shots ++ wait_support.shots
  wait-shots = shot-listed rules u w s p ∙ ap (λ l. l ++ listed (pair_of (shot_of s)) ∷ []) so_far.shots ∙ append_assoc v.shots so_far.support.shots (listed (pair_of (shot_of s)) ∷ [])

  pub wait-took : Took wait_support v w
  wait-took = record {
    shots = wait-shots;
    spends = record { known = omega (arith, so_far.known, shot-known rules u w s p); calls = omega (arith, so_far.calls, shot-known rules u w s p, p.called.calls) };
  }

  -- there is more to wait for: the degree is below 13, and a later number is known
  pub wait-on : (x : PassView) (n : ℕ) → (arc_value s.tables).degree < k → s.end ≡ None → (arc_value s.tables).degree < 13 → x ≡ record w { known = n } → w.seen < n → Waiting r k v x
  wait-on x n below none few is more =
      let no_end : end_count s.end ≡ 0 = ap end_count none in
      let number : w.known ≡ (arc_value s.tables).degree = omega (arith, p.known, no_end) in
      let before : u.known ≤ w.known = shot-known rules u w s p in
      subst (Waiting r k v) (sym is) (record {
        support = wait_support;
        rests = inr (shot_of s, wait-rests);
        early = each-append (λ (x : ℕ × Bool). (x.0 < k) × (x.1 ≡ false)) so_far.support.shots (listed (pair_of (shot_of s)) ∷ []) so_far.early ((below, ap is_some (ap (option_map end_of) none)), tt);
        shots = wait-shots;
        later = omega (arith, so_far.later, p.degree, p.seen);
        stays = λ e h. absurd (let q = p.same_end e ((so_far.stays e h).1 ∙ h) in let f : s.end ≡ Some e = ap (λ (x : Published). x.end) q in cc);
        known = omega (arith, so_far.known, before, number, more, p.seen);
        calls = omega (arith, so_far.calls, before, number, more, few, p.seen, p.called.calls);
      })

-- there was no memory for the next shot
module _ (r : RulesView) (k : ℕ) (v u w : PassView) (so_far : Waiting r k v u) (p : ShowsNothing u w) where
  pub lacks-rests : RestsOnNone (session_of v false) so_far.support (session_of w false) ⊎ ((shot : Shot) × RestsOn r (session_of v false) (Ok (Await k)) shot so_far.support (session_of w false))
  lacks-rests = subst (λ (x : Session). RestsOnNone (session_of v false) so_far.support x ⊎ ((shot : Shot) × RestsOn r (session_of v false) (Ok (Await k)) shot so_far.support x)) (sym (none-seen u w p)) so_far.rests

  pub lacks-took : Took so_far.support v w
  lacks-took = record {
    shots = p.shots ∙ so_far.shots;
    spends = record { known = omega (arith, so_far.known, p.known); calls = omega (arith, so_far.calls, p.known, p.called.calls) };
  }

-- ---- what one shot tells of a degree

pub tells-ready : (k : ℕ) (s : board.Shot) (d : ℕ) → k ≤ d → d ≡ (arc_value s.tables).degree → TellsWhether k (pair_of (shot_of s)) (ready_text d)
tells-ready k s d there is = inl (omega (arith, there, is), ap ready_text is)

mapped_some : (e : Option BuildEnd) (b : BuildEnd) → e ≡ Some b → option_map end_of e ≢ None
mapped_some None b is h = cc
mapped_some (Some c) b is h = cc

pub tells-stopped : (k : ℕ) (s : board.Shot) (d : ℕ) (b : BuildEnd) → d < k → d ≡ (arc_value s.tables).degree → s.end ≡ Some b → TellsWhether k (pair_of (shot_of s)) (stopped_text d)
tells-stopped k s d b early is some = inr (omega (arith, early, is), mapped_some s.end b some, ap stopped_text is)
