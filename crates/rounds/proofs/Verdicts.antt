-- A round gives one verdict, in the step that ends it: whether its initiator is free. Assumes nothing.
use mathlib.Core.Path.{◌≡◌, refl, sym, ap, ◌∙◌, subst}
use mathlib.Core.Bool.{Bool, true, false, cond}
use mathlib.Core.Logic.{inl, inr}
use mathlib.Core.List.{List, [], ◌∷◌, ◌++◌, append-nil, Memᴰ}
use Prim.Native.Nat.{ℕ, ◌<◌}
use native.Mathlib.Decide.{ℕ_discrete}
use Rattle.lemmas.proofs.Tests.{not_both, not_true_false}
use Rattle.nodes.proofs.Bit.{in_has}
use Rattle.records.specs.Causes.{by_itself}
use Rattle.records.specs.Messages.{Letter}
use Rattle.records.specs.Records.{State, free}
use Rattle.waits.specs.Waits.{Waits, Lawful}
use Rattle.std.specs.Prelude.{None, Some}
use Rattle.step.specs.declared.answers.Verdict.{Verdict}
use Rattle.step.specs.declared.answers.Verdict.TheVariants.{Deadlocked, NotDeadlocked}
use Rattle.step.specs.Step.{Seen, Outcome, seen_in, complete, newly, verdict_of, open_round}
use Rattle.step.proofs.Taken.{take_answer, open_says, open_begins}
use Rattle.rounds.specs.Course.{Stage, put, unheard, reply, after, Course, ended}
use Rattle.rounds.specs.Verdicts.{given, verdict_in, verdicts, Right}
use Rattle.rounds.proofs.Put.{put_same, put_other, put_still}
use Rattle.rounds.proofs.Delivery.{Takes, repeats_or_takes, delivery_goes}
use Rattle.rounds.proofs.Courses.{Good, course_good}
use Rattle.rounds.proofs.Ended.{all_had}

-- of a node one verdict is right
pub one_right : (w : Waits) (s : ℕ) (u v : Verdict) → Right w s u → Right w s v → u ≡ v
one_right w s Deadlocked Deadlocked p q = refl
one_right w s Deadlocked NotDeadlocked p q = absurd (q p)
one_right w s NotDeadlocked Deadlocked p q = absurd (p q)
one_right w s NotDeadlocked NotDeadlocked p q = refl

-- a free node's verdict, and another's
abbrev pub by_free : Bool → List Verdict
by_free f = given (Some (cond f NotDeadlocked Deadlocked))

-- the verdict on node i by its record, if it has all that it awaits
abbrev pub ending_at : Waits → ℕ → State → List Verdict
ending_at w i t = cond (complete (seen_in w i) t) (by_free (free t)) []

verdict_opener : (x : Bool) (t : State) → by_itself t.call ≡ true → given (verdict_of x t) ≡ cond x (by_free (free t)) []
unfolding verdict_of
verdict_opener true t e = ap (λ (b : Bool). given (cond b (Some (cond (free t) NotDeadlocked Deadlocked)) None)) e
verdict_opener false t e = refl

pub verdict_other : (x : Bool) (t : State) → by_itself t.call ≡ false → given (verdict_of x t) ≡ []
unfolding verdict_of
verdict_other true t e = ap (λ (b : Bool). given (cond b (Some (cond (free t) NotDeadlocked Deadlocked)) None)) e
verdict_other false t e = refl

opening_verdict : (w : Waits) (s round : ℕ) → verdict_in (open_round (seen_in w s) round).answer ≡ ending_at w s (open_round (seen_in w s) round).state
opening_verdict w s round = ap verdict_in (open_says (seen_in w s) round) ∙ verdict_opener _ _ (open_begins (seen_in w s) round).opener

-- ---- a message that was sent is delivered
module _ {w : Waits} {s round : ℕ} {c : Stage} {l : List Letter} (good : Good w s round c l) (m : Letter) (i : Memᴰ m c.sent) where
  abbrev o : Seen
  o = seen_in w m.to

  abbrev t : State
  t = (reply w c m).state

  abbrev next : ℕ → State
  next = put c.records m.to t

  module _ (takes : Takes w c m) where
    -- nothing is taken after the end, when all is had
    not_ended : ended w s c ≡ false
    not_ended = not_true_false _ (λ e.
        let p = good.sending.said m i in
        not_both (in_has _ _ (all_had good.invariant e m.kind m.from m.to p.1 p.2).1) takes.1.1)

    taken : verdict_in (reply w c m).answer ≡ given (verdict_of (newly (complete o (c.records m.to)) (complete o t)) t)
    taken = subst (λ (x : Outcome). verdict_in x.answer ≡ given (verdict_of (newly (complete o (c.records m.to)) (complete o x.state)) x.state)) (sym takes.0)
        (ap verdict_in (take_answer o (c.records m.to) m))

    -- at the initiator
    taken_there : m.to ≡ s → by_itself (next s).call ≡ true → verdict_in (reply w c m).answer ≡ ending_at w s (next s)
    taken_there q b =
        taken
        ∙ ap (λ (x : Bool). given (verdict_of (newly x (complete o t)) t)) (subst (λ (x : ℕ). complete (seen_in w x) (c.records x) ≡ false) (sym q) not_ended)
        ∙ verdict_opener (complete o t) t (ap (λ (x : State). by_itself x.call) (sym (put_same c.records m.to t)) ∙ ap (λ (x : ℕ). by_itself (next x).call) q ∙ b)
        ∙ ap (ending_at w m.to) (sym (put_same c.records m.to t))
        ∙ ap (λ (x : ℕ). ending_at w x (next x)) q

    taken_elsewhere : (m.to ≡ s → ⊥) → verdict_in (reply w c m).answer ≡ ending_at w s (next s)
    taken_elsewhere d =
        taken
        ∙ verdict_other _ _ (not_true_false _ (λ b. d ((delivery_goes good.invariant good.sending m i).opener b)))
        ∙ ap (λ (x : Bool). cond x (by_free (free (c.records s))) []) (sym not_ended)
        ∙ ap (ending_at w s) (sym (put_other c.records m.to t s (λ q. d (sym q))))

    taken_verdicts : (vs : List Verdict) → vs ≡ ending_at w s (c.records s) → by_itself (next s).call ≡ true → verdict_in (reply w c m).answer ++ vs ≡ ending_at w s (next s)
    taken_verdicts vs e b =
        ap (λ (x : List Verdict). verdict_in (reply w c m).answer ++ x) (e ∙ ap (λ (x : Bool). cond x (by_free (free (c.records s))) []) not_ended)
        ∙ append-nil (verdict_in (reply w c m).answer)
        ∙ elim (ℕ_discrete m.to s) [ yes q ↦ taken_there q b | no d ↦ taken_elsewhere d ]

  delivery_verdicts : (vs : List Verdict) → vs ≡ ending_at w s (c.records s) → by_itself (next s).call ≡ true → verdict_in (reply w c m).answer ++ vs ≡ ending_at w s (next s)
  delivery_verdicts vs e b = elim (repeats_or_takes good.invariant good.sending m i) [
    | inl p ↦ ap (λ (x : Outcome). verdict_in x.answer ++ vs) p.0
        ∙ e
        ∙ ap (ending_at w s) (sym (put_still c.records m.to t (ap (λ (x : Outcome). x.state) p.0) s))
    | inr p ↦ taken_verdicts p vs e b
  ]

-- Theorem: the verdicts given are none before the end, and from then on that one.
pub verdicts_are : (w : Waits) (lawful : Lawful w) (s : ℕ) (node : s < w.nodes) (round : ℕ) (l : List Letter) → Course w s round l
    → verdicts w s round l ≡ ending_at w s ((after w s round l).records s)
unfolding verdicts after
verdicts_are w lawful s node round [] e =
    opening_verdict w s round ∙ ap (ending_at w s) (sym (put_same (unheard round).records s (open_round (seen_in w s) round).state))
verdicts_are w lawful s node round (m ∷ l) e =
    delivery_verdicts (course_good w lawful s node round l e.1) m e.0
    (verdicts w s round l) (verdicts_are w lawful s node round l e.1) (course_good w lawful s node round (m ∷ l) e).began
