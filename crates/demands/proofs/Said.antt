-- A step of a bench and its table: it is refused and changes nothing with the first line that says so, and only then. Assumes
-- nothing.
use mathlib.Core.Path.{◌≡◌, refl, sym, ap, ◌∙◌}
use mathlib.Core.Bool.{Bool, true, false, cond, not, ◌&&◌, ◌||◌, true≢false}
use mathlib.Core.Logic.{◌↔◌}
use mathlib.Core.List.{List}
use Prim.Native.Nat.{ℕ, ◌+◌}
use native.Mathlib.Omega.{arith}
use lib.Dec.{eqb, leb, ltb}
use borrow.Author.Tests.{eqb-true}
use Rattle.std.specs.Prelude.{Result, Ok, Err}
use Rattle.nodes.specs.Sets.{no_node}
use Rattle.records.specs.Rounds.{cannot_open}
use Rattle.records.specs.Messages.{Letter}
use Rattle.records.specs.Records.{State}
use Rattle.waits.specs.declared.refusals.Refusal.{Refusal}
use Rattle.waits.specs.Waits.{Waits}
use Rattle.waits.specs.Rows.{waits_of}
use Rattle.waits.specs.Numbers.{first_said}
use Rattle.waits.proofs.Table.{refused_not_accepted}
use Rattle.step.specs.declared.answers.Answer.{Answer}
use Rattle.step.specs.Step.{Seen, Outcome, seen_in, open_round, receive}
use Rattle.step.proofs.Answered.{Plain, open_answer, receive_answer}
use Rattle.lent.specs.declared.steps.Step.{Step}
use Rattle.lent.specs.Kept.{state_at}
use Rattle.bench.specs.Bench.{Bench, After, after, room, refusal}
use Rattle.bench.specs.Strange.{strange_bench}
use Rattle.bench.specs.Steps.{letter_at, refuse, join, open_at, arrive_at, deliver_at, take_step, step_on}
use Rattle.demands.specs.Turns.{accepted}
use Rattle.demands.specs.Refusals.{sends_of, would_send, step_lines}
use Rattle.waits.specs.declared.refusals.Reason.{Reason}
use Rattle.waits.specs.declared.refusals.Reason.TheVariants.{NoNode, CannotOpen, NoStep, FullRoom, StrangeState}

-- ---- what a node answers is no refusal
pub not_refused : {a : Result Answer Refusal} {r : Refusal} → accepted a ≡ true → a ≡ Err r → ⊥
not_refused e f = true≢false (sym e ∙ ap accepted f)

plain : Plain (λ a. accepted a ≡ true)
plain = record { old = refl; stray = refl; repeat = refl; taken = λ v. refl; opened = λ v. refl }

pub open_accepted : (o : Seen) (round : ℕ) → accepted (open_round o round).answer ≡ true
open_accepted = open_answer (λ a. accepted a ≡ true) plain

pub receive_accepted : (o : Seen) (r : State) (m : Letter) → accepted (receive o r m).answer ≡ true
receive_accepted = receive_answer (λ a. accepted a ≡ true) plain

-- ---- what the table says of a step, and what the step leaves
abbrev pub Says : Bench → After → Result Unit Refusal → Type 0
Says b a (Ok tt) = accepted a.answer ≡ true
Says b a (Err r) = a ≡ after b (Err r)

pub one_refusal : {A : Type 0} {r t : Refusal} → ◌≡◌ {A = Result A Refusal} (Err t) (Err r) → t ≡ r
one_refusal e = cc e

module _ (b : Bench) (a : After) where
  pub says_refused : (r : Refusal) (c : Result Unit Refusal) → Says b a c → (a.answer ≡ Err r) ↔ (c ≡ Err r)
  says_refused r (Ok tt) e = (λ f. absurd (not_refused e f), λ f. absurd (refused_not_accepted (sym f)))
  says_refused r (Err t) e = (
    λ f. ap Err (one_refusal (sym (ap (λ (y : After). y.answer) e) ∙ f)),
    λ f. ap (λ (y : After). y.answer) e ∙ ap Err (cc f),
  )

  pub says_left : (r : Refusal) (c : Result Unit Refusal) → Says b a c → a.answer ≡ Err r → a ≡ after b (Err r)
  says_left r (Ok tt) e f = absurd (not_refused e f)
  says_left r (Err t) e f = e ∙ ap (after b) (sym (ap (λ (y : After). y.answer) e) ∙ f)

  pub says_accepted : (c : Result Unit Refusal) → Says b a c → accepted a.answer ≡ true → c ≡ Ok tt
  says_accepted (Ok tt) e f = refl
  says_accepted (Err r) e f = absurd (not_refused f (ap (λ (y : After). y.answer) e))

-- ---- line by line
module _ (b : Bench) where
  by_line : (t : Bool) (why : Reason) (a : After) (c : Result Unit Refusal) → Says b a c → Says b (cond t (refuse why b) a) (cond t (Err (refusal why)) c)
  by_line true why a c e = refl
  by_line false why a c e = e

  -- one of two tests, of which the second one is false
  by_first : (t : Bool) (why : Reason) (a : After) (c : Result Unit Refusal) → Says b a c → Says b (cond t (refuse why b) a) (cond (t || false) (Err (refusal why)) c)
  by_first true why a c e = refl
  by_first false why a c e = e

  join_says : (highest i : ℕ) (out : Outcome) → accepted out.answer ≡ true
      → Says b (join b highest i out) (cond (ltb (room b) (b.sent + sends_of i out)) (Err (refusal FullRoom)) (Ok tt))
  unfolding join
  join_says highest i out e = by_line (ltb (room b) (b.sent + sends_of i out)) FullRoom _ (Ok tt) e

  module _ (n : ℕ) (rows : List ℕ) (x : Step) where
    abbrev w : Waits
    w = waits_of n rows

    -- what the node does that opens, and the one that the message comes to
    abbrev begun : Outcome
    begun = open_round (seen_in w x.a) x.b

    abbrev m : Letter
    m = letter_at b x.a

    abbrev got : Outcome
    got = receive (seen_in w m.to) (state_at b.records m.to) m

    opening_says : Says b (open_at w b x.a x.b)
        (cond (no_node n x.a) (Err (refusal NoNode)) (cond (cannot_open b.highest x.b) (Err (refusal CannotOpen))
        (cond (ltb (room b) (b.sent + sends_of x.a begun)) (Err (refusal FullRoom)) (Ok tt))))
    unfolding open_at
    opening_says =
        by_line (no_node n x.a) NoNode _ _ (by_line (cannot_open b.highest x.b) CannotOpen _ _
        (join_says x.b x.a begun (open_accepted (seen_in w x.a) x.b)))

    delivery_says : Says b (deliver_at w b x.a)
        (cond (leb b.sent x.a || false) (Err (refusal NoStep)) (cond (ltb (room b) (b.sent + sends_of m.to got)) (Err (refusal FullRoom)) (Ok tt)))
    unfolding deliver_at arrive_at
    delivery_says =
        by_first (leb b.sent x.a) NoStep _ _
        (join_says b.highest m.to got (receive_accepted (seen_in w m.to) (state_at b.records m.to) m))

    -- Theorem: a step is refused, and changes nothing, with the first line of its table that says so; if none does, it isn't refused.
    pub step_says : Says b (step_on n rows b x) (first_said (step_lines n rows b x))
    unfolding step_on take_step would_send
    step_says = by_line (strange_bench n rows b) StrangeState _ _ (go (eqb x.kind 0) (eqb x.kind 1) refl refl)
      where
        go : (p q : Bool) → eqb x.kind 0 ≡ p → eqb x.kind 1 ≡ q
            → Says b (cond p (open_at w b x.a x.b) (cond q (deliver_at w b x.a) (refuse NoStep b)))
            (cond (p && no_node n x.a) (Err (refusal NoNode)) (cond (p && cannot_open b.highest x.b) (Err (refusal CannotOpen))
            (cond (q && leb b.sent x.a || not (p || q)) (Err (refusal NoStep))
            (cond (ltb (room b) (b.sent + cond p (sends_of x.a begun) (sends_of m.to got))) (Err (refusal FullRoom)) (Ok tt)))))
        go true true e f = absurd (let h = eqb-true x.kind 0 e in let k = eqb-true x.kind 1 f in omega arith)
        go true false e f = opening_says
        go false true e f = delivery_says
        go false false e f = refl
