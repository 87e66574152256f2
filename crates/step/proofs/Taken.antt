-- What a taken message leaves of a record, whatever it says: who called and who freed the node stays once it is so, and nobody is
-- marked but the sender. Assumes nothing.
use mathlib.Core.Path.{◌≡◌, refl, sym, ap, ◌∙◌}
use mathlib.Core.Bool.{true, false, not, false≢true}
use Prim.Native.Nat.{ℕ}
use borrow.Author.Tests.{not-true}
use Rattle.lemmas.proofs.Tests.{not_both, and_left}
use Rattle.records.specs.declared.causes.Why.{Why}
use Rattle.records.specs.declared.causes.Why.TheVariants.{Itself, By}
use Rattle.records.specs.declared.messages.Kind.{Kind}
use Rattle.records.specs.declared.messages.Kind.TheVariants.{Notify, Grant, Ack, Done}
use Rattle.records.specs.Causes.{by_itself}
use Rattle.records.specs.Messages.{Letter}
use Rattle.records.specs.Records.{State, called, free, blank_of, with_call, with_freed, had_of, mark_of}
use Rattle.records.proofs.Marks.{blank_had}
use Rattle.std.specs.Prelude.{Ok}
use Rattle.step.specs.declared.answers.Answer.TheVariants.{Taken, Opened}
use Rattle.step.specs.Step.{Seen, complete, be_called, react, newly, verdict_of, settle, open_round, take}
use Rattle.step.proofs.Reacts.{called_cases, react_cases}

-- from t, the record in which the sender is marked, to s
pub record Follows (t s : State) : Type 0 where
  pub round : s.round ≡ t.round
  pub had : (k : Kind) → had_of k s ≡ had_of k t
  pub call : called t ≡ true → s.call ≡ t.call
  pub freed : free t ≡ true → s.freed ≡ t.freed
  pub opener : by_itself s.call ≡ true → by_itself t.call ≡ true

itself_follows : (t : State) → Follows t t
itself_follows t = record { round = refl; had = λ k. refl; call = λ e. refl; freed = λ e. refl; opener = λ e. e }

-- through whom it was doesn't touch who was had
call_had : (k : Kind) (by : Why) (s : State) → had_of k (with_call by s) ≡ had_of k s
call_had Notify by s = refl
call_had Grant by s = refl
call_had Ack by s = refl
call_had Done by s = refl

freed_had : (k : Kind) (by : Why) (s : State) → had_of k (with_freed by s) ≡ had_of k s
freed_had Notify by s = refl
freed_had Grant by s = refl
freed_had Ack by s = refl
freed_had Done by s = refl

module _ (o : Seen) (t : State) where
  -- being called: through whom is new, and it isn't the node itself
  module _ (by : Why) (c : called t ≡ false) (other : by_itself by ≡ false) where
    newly_called : (s : State) → s.round ≡ t.round → s.call ≡ by → ((k : Kind) → had_of k s ≡ had_of k t) → (free t ≡ true → s.freed ≡ t.freed) → Follows t s
    newly_called s r b h f = record {
      round = r;
      had = h;
      call = λ g. absurd (not_both g c);
      freed = f;
      opener = λ g. absurd (not_both (ap by_itself (sym b) ∙ g) other);
    }

    calls_follow : Follows t (be_called o by t).state
    calls_follow = called_cases (λ m. Follows t m.state) o t by
        (λ d. newly_called _ refl refl (λ k. call_had k by t) (λ g. refl))
        (λ d e. newly_called _ refl refl (λ k. call_had k by t) (λ g. refl))
        (λ d e. newly_called _ refl refl (λ k. freed_had k Itself (with_call by t) ∙ call_had k by t) (λ g. absurd (not_both g e)))

  react_follows : (a : ℕ) (k : Kind) → Follows t (react o a t k).state
  react_follows a = react_cases (λ m. Follows t m.state) o t a
      (λ c. itself_follows t)
      (λ c. calls_follow (By (record { 0 = a })) c refl)
      (λ e. record {
        round = refl;
        had = λ k. freed_had k (By (record { 0 = a })) t;
        call = λ g. refl;
        freed = λ g. absurd (not_both g (not-true (free t) (and_left (not (free t)) _ e)));
        opener = λ g. g;
      })
      (λ e. itself_follows t)
      (itself_follows t)

pub take_follows : (o : Seen) (s : State) (m : Letter) → Follows (mark_of m.kind m.from s) (take o s m).state
unfolding take settle
take_follows o s m = react_follows o (mark_of m.kind m.from s) m.from m.kind

-- What an opening leaves: nobody's message was had, and the node was called by itself.
pub record Begins (round : ℕ) (s : State) : Type 0 where
  pub at : s.round ≡ round
  pub had : (k : Kind) → had_of k s ≡ 0
  pub opener : by_itself s.call ≡ true

begins : (o : Seen) (round : ℕ) → Begins round (be_called o Itself (blank_of round)).state
begins o round = called_cases (λ m. Begins round m.state) o (blank_of round) Itself
    (λ d. record { at = refl; had = λ k. call_had k Itself (blank_of round) ∙ blank_had k round; opener = refl })
    (λ d e. absurd (false≢true e))
    (λ d e. record { at = refl; had = λ k. freed_had k Itself (with_call Itself (blank_of round)) ∙ call_had k Itself (blank_of round) ∙ blank_had k round; opener = refl })

pub open_begins : (o : Seen) (round : ℕ) → Begins round (open_round o round).state
unfolding open_round settle
open_begins o round = begins o round

-- ---- what is answered: a verdict goes with the step in which the node comes to be complete
pub take_answer : (o : Seen) (s : State) (m : Letter)
    → (take o s m).answer ≡ Ok (Taken (verdict_of (newly (complete o s) (complete o (take o s m).state)) (take o s m).state))
unfolding take settle
take_answer o s m = refl

pub open_says : (o : Seen) (round : ℕ) → (open_round o round).answer ≡ Ok (Opened (verdict_of (complete o (open_round o round).state) (open_round o round).state))
unfolding open_round settle complete
open_says o round = refl
