-- Who gives a verdict: a node that was called by itself, and that is the one which opened the round. Assumes nothing.
use mathlib.Core.Path.{◌≡◌, refl, sym, ap, ◌∙◌, subst}
use mathlib.Core.Bool.{Bool, true, false, cond, false≢true}
use mathlib.Core.Logic.{inl, inr}
use mathlib.Core.List.{List, [], ◌∷◌, Memᴰ}
use mathlib.Core.List.Memᴰ.{head as here}
use mathlib.Core.List.Memᴰ.{tail as there}
use Prim.Native.Nat.{ℕ}
use Rattle.lemmas.proofs.Cases.{both_branches}
use Rattle.lemmas.proofs.Tests.{true_or_false}
use Rattle.nodes.specs.Sets.{has}
use Rattle.records.specs.Causes.{by_itself}
use Rattle.records.specs.Rounds.{behind, ahead}
use Rattle.records.specs.Messages.{Letter}
use Rattle.records.specs.Records.{State, in_round, had_of, mark_of}
use Rattle.records.proofs.Higher.{in_round_at}
use Rattle.records.proofs.Marks.{mark_round, mark_call}
use Rattle.waits.specs.Waits.{Waits}
use Rattle.std.specs.Prelude.{Result, Ok}
use Rattle.waits.specs.declared.refusals.Refusal.{Refusal}
use Rattle.step.specs.declared.answers.Verdict.{Verdict}
use Rattle.step.specs.declared.answers.Answer.{Answer}
use Rattle.step.specs.declared.answers.Answer.TheVariants.{Stray, Repeat}
use Rattle.step.specs.Step.{Seen, Outcome, seen_in, still, open_round, stray, take, receive}
use Rattle.step.proofs.Local.{old, arrives, takes_or_stays}
use Rattle.step.proofs.Taken.{Follows, take_follows, take_answer, open_begins}
use Rattle.rounds.specs.Verdicts.{verdict_in}
use Rattle.rounds.specs.History.{Event, node_of, round_of, outcome, since, Opened, answers_of}
use Rattle.rounds.proofs.Put.{put_all}
use Rattle.rounds.proofs.Verdicts.{verdict_other}

-- if the node was called by itself, it opened the round that its record is in
abbrev Own : List Event → ℕ → State → Type 0
Own l i r = by_itself r.call ≡ true → Opened l i r.round

-- ---- a message comes
module _ (w : Waits) (r : State) (m : Letter) where
  abbrev o : Seen
  o = seen_in w m.to

  -- the record in the message's round
  abbrev at : State
  at = in_round m.round r

  follows : Follows (mark_of m.kind m.from at) (take o at m).state
  follows = take_follows o at m

  take_own : (l : List Event) → Own l m.to r → Own l m.to (take o at m).state
  unfolding in_round
  take_own l own e =
      subst (Opened l m.to) (sym (follows.round ∙ mark_round m.from at m.kind))
      (both_branches (Own l m.to) (ahead m.round r.round) (λ f. absurd (false≢true f)) own
      (ap by_itself (sym (mark_call m.from at m.kind)) ∙ follows.opener e))

  receive_own : (l : List Event) → Own l m.to r → Own l m.to (receive o r m).state
  receive_own l own = elim (takes_or_stays o r m) [
    | inl t ↦ subst (λ (x : Outcome). Own l m.to x.state) (sym t.0) (take_own l own)
    | inr s ↦ subst (λ (x : Outcome). Own l m.to x.state) (sym s.1) own
  ]

  -- a verdict is given only by a node that was called by itself, in the message's round
  abbrev ByOpener : Outcome → Type 0
  ByOpener out = (v : Verdict) → Memᴰ v (verdict_in out.answer) → (by_itself out.state.call ≡ true) × (out.state.round ≡ m.round)

  take_says : behind m.round r.round ≡ false → ByOpener (take o at m)
  take_says n v i = elim (true_or_false (by_itself (take o at m).state.call)) [
    | inl e ↦ (e, follows.round ∙ mark_round m.from at m.kind ∙ in_round_at m.round r n)
    | inr e ↦ absurd (elim (subst (λ (x : List Verdict). Memᴰ v x) (ap verdict_in (take_answer o at m) ∙ verdict_other _ _ e) i) [ ])
  ]

  receive_says : ByOpener (receive o r m)
  receive_says = elim (true_or_false (behind m.round r.round)) [
    | inl e ↦ subst ByOpener (sym (old o r m e)) (λ v i. absurd (elim i [ ]))
    | inr e ↦ subst ByOpener (sym (arrives o r m e refl refl refl)) (go (stray o at m) (has (had_of m.kind at) m.from) (take_says e))
  ]
    where
      go : (a b : Bool) → ByOpener (take o at m) → ByOpener (cond a (still r (Ok Stray)) (cond b (still r (Ok Repeat)) (take o at m)))
      go true b t = λ v i. absurd (elim i [ ])
      go false true t = λ v i. absurd (elim i [ ])
      go false false t = t

-- ---- all events
module _ (w : Waits) where
  all_own : (l : List Event) (i : ℕ) → Own l i ((since w l).records i)
  unfolding since
  all_own [] = λ i e. absurd (false≢true e)
  all_own (Event.opens s round ∷ l) =
      let ih = all_own l in
      put_all (Own (Event.opens s round ∷ l)) (since w l).records s (open_round (seen_in w s) round).state
      (λ e. here (ap (Event.opens s) (open_begins (seen_in w s) round).at))
      (λ i d e. there (ih i e))
  all_own (Event.arrives m ∷ l) =
      let ih = all_own l in
      put_all (Own (Event.arrives m ∷ l)) (since w l).records m.to (receive (seen_in w m.to) ((since w l).records m.to) m).state
      (λ e. there (receive_own w ((since w l).records m.to) m l (ih m.to) e))
      (λ i d e. there (ih i e))

  event_opener : (l : List Event) (e : Event) (v : Verdict) → Memᴰ v (verdict_in (outcome w (since w l) e).answer) → Opened (e ∷ l) (node_of e) (round_of e)
  event_opener l (Event.opens i round) v h = here refl
  event_opener l (Event.arrives m) v h =
      let r = (since w l).records m.to in
      let says = receive_says w r m v h in
      there (subst (Opened l m.to) says.1 (receive_own w r m l (all_own l m.to) says.0))

  -- Theorem: a verdict is given by the node that opened the round, whatever happened.
  pub all_openers : (l : List Event) (e : Event) (a : Result Answer Refusal) → Memᴰ (e, a) (answers_of w l) → (v : Verdict) → Memᴰ v (verdict_in a) → Opened l (node_of e) (round_of e)
  all_openers (x ∷ l) e a (here q) v i =
      subst (λ (y : Event × Result Answer Refusal). Memᴰ v (verdict_in y.1) → Opened (x ∷ l) (node_of y.0) (round_of y.0)) (sym q) (event_opener l x v) i
  all_openers (x ∷ l) e a (there h) v i = there (all_openers l e a h v i)
  all_openers [] e a x'' v i = elim x'' [ ]
