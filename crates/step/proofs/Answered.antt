-- What a node answers when nothing is refused: what is so of each such answer is so of an opening's and of a delivery's. Assumes nothing.
use mathlib.Core.Bool.{Bool, true, false, cond}
use Prim.Native.Nat.{ℕ}
use Rattle.nodes.specs.Sets.{has}
use Rattle.records.specs.declared.causes.Why.TheVariants.{Itself}
use Rattle.records.specs.Messages.{Letter}
use Rattle.records.specs.Records.{State, blank_of, in_round, had_of, mark_of}
use Rattle.records.specs.Rounds.{behind}
use Rattle.std.specs.Prelude.{Option, Result, Ok}
use Rattle.waits.specs.declared.refusals.Refusal.{Refusal}
use Rattle.step.specs.declared.answers.Verdict.{Verdict}
use Rattle.step.specs.declared.answers.Answer.{Answer}
use Rattle.step.specs.declared.answers.Answer.TheVariants.{Old, Stray, Repeat, Taken, Opened}
use Rattle.step.specs.Step.{Seen, be_called, react, settle, still, open_round, receive, arrive, take, stray as is_stray}

-- it is so of each answer that isn't a refusal
pub record Plain (P : Result Answer Refusal → Type 0) : Type 0 where
  pub old : P (Ok Old)
  pub stray : P (Ok Stray)
  pub repeat : P (Ok Repeat)
  pub taken : (v : Option Verdict) → P (Ok (Taken v))
  pub opened : (v : Option Verdict) → P (Ok (Opened v))

module _ (P : Result Answer Refusal → Type 0) (p : Plain P) where
  pub open_answer : (o : Seen) (round : ℕ) → P (open_round o round).answer
  unfolding open_round
  open_answer o round = p.opened (settle o (blank_of round) (be_called o Itself (blank_of round))).verdict

  take_answer : (o : Seen) (s : State) (m : Letter) → P (take o s m).answer
  unfolding take
  take_answer o s m = p.taken (settle o s (react o m.from (mark_of m.kind m.from s) m.kind)).verdict

  pub receive_answer : (o : Seen) (r : State) (m : Letter) → P (receive o r m).answer
  unfolding receive arrive
  receive_answer o r m = go (behind m.round r.round) (is_stray o (in_round m.round r) m) (has (had_of m.kind (in_round m.round r)) m.from)
    where
      go : (a b c : Bool) → P (cond a (still r (Ok Old)) (cond b (still r (Ok Stray)) (cond c (still r (Ok Repeat)) (take o (in_round m.round r) m)))).answer
      go true b c = p.old
      go false true c = p.stray
      go false false true = p.repeat
      go false false false = take_answer o (in_round m.round r) m
