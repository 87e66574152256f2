-- The mornings that the paper marks with *, in its order: all that it says of them, under one claim, which `table` in
-- ../proofs/Table.antt shows. The paper counts nodes from 1; every node number here is one less. A step that says nothing of its round
-- has no verdict, `None`. Assumes nothing.
use Rattle.std.specs.Prelude.{◌≡◌, true, false, ◌↔◌, ℕ, ◌<◌, length, replicate, Ok, Err, Some, None}
use mathlib.Core.List.{List, [], ◌∷◌, ◌++◌, map, Memᴰ}
use Rattle.records.specs.declared.messages.Kind.TheVariants.{Notify, Grant, Ack, Done}
use Rattle.records.specs.Messages.{Letter}
use Rattle.waits.specs.Waits.{Waits, edges}
use Rattle.waits.specs.Deadlocked.{Deadlocked as Dead, Path, passes}
use Rattle.waits.specs.Rows.{waits_of}
use Rattle.waits.specs.Numbers.{check_of}
use Rattle.waits.specs.Mornings.{first_rows, second_rows, fourth_rows, fifth_rows, sixth_rows, ninth_rows, tenth_rows}
use Rattle.deadlock.specs.declared.evidence.Judged.TheVariants.{Passes, ClaimMissing, MemberSatisfied}
use Rattle.deadlock.specs.declared.ring.Report.TheVariants.{InRing, BehindRing, NotDeadlocked as Report-as-NotDeadlocked}
use Rattle.deadlock.specs.Refusals.{check_node_of}
use Rattle.deadlock.specs.Evidence.{Evidence, judged_of}
use Rattle.deadlock.specs.Ring.{ReportSays}
use Rattle.step.specs.declared.answers.Verdict.{Verdict}
use Rattle.step.specs.declared.answers.Verdict.TheVariants.{Deadlocked, NotDeadlocked}
use Rattle.step.specs.declared.answers.Answer.TheVariants.{Taken, Opened}
use Rattle.step.specs.Step.{seen_in, open_round}
use Rattle.step.specs.Letters.{letter}
use Rattle.lent.specs.Coded.{number_of}
use Rattle.lent.specs.Steps.{step_number, answer_number}
use Rattle.bench.specs.Bench.{fresh}
use Rattle.bench.specs.Runs.{Run, run_of}
use Rattle.rounds.specs.Course.{after, Course, ended}
use Rattle.rounds.specs.Verdicts.{verdicts}
use Rattle.waits.specs.declared.refusals.Reason.TheVariants.{WrongThreshold, NotAscending}

module _ (n : ℕ) (rows : List ℕ) where
  abbrev w : Waits
  w = waits_of n rows

  -- The graph is accepted and has so many edges, and exactly the nodes of the list are deadlocked.
  pub record Morning (count : ℕ) (dead : List ℕ) : Type 0 where
    pub accepted : check_of n rows ≡ Ok tt
    pub edge_count : edges w ≡ count
    pub deadlocked : (i : ℕ) → ((i < n) × Dead w i) ↔ Memᴰ i dead

  -- A full round from node s, whatever number the round has, and in whatever order its messages came and however often: when it has
  -- ended, it has sent so many and given this verdict, once. And it can end, whatever came so far.
  pub record FullRound (s count : ℕ) (v : Verdict) : Type 0 where
    pub every : (round : ℕ) (l : List Letter) → Course w s round l → ended w s (after w s round l) ≡ true
        → (length (after w s round l).sent ≡ count) × (verdicts w s round l ≡ v ∷ [])
    pub can_end : (round : ℕ) (l : List Letter) → Course w s round l
        → (k : List Letter) × Course w s round (k ++ l) × (ended w s (after w s round (k ++ l)) ≡ true)

  -- a list of steps, from a fresh bench with room for so many messages
  abbrev ran : List ℕ → ℕ → Run
  ran steps room = run_of n rows (fresh n (replicate room 0)) steps (replicate (length steps) 0)

  -- It sends these messages, numbered from 0, in just the room that they take. Each step has its answer, with how many were sent so far.
  pub record OnBench (steps : List ℕ) (messages : List Letter) (answers : List ℕ) : Type 0 where
    pub accepted : (ran steps (length messages)).checked ≡ Ok tt
    pub sent_list : (ran steps (length messages)).bench.messages ≡ map number_of messages
    pub sent_count : (ran steps (length messages)).bench.sent ≡ length messages
    pub answer_list : (ran steps (length messages)).answers ≡ answers

-- a step as a number: node i opens a round; message k is delivered
abbrev pub opens : ℕ → ℕ → ℕ
opens i round = step_number 0 i round

abbrev pub delivers : ℕ → ℕ
delivers k = step_number 1 k 0

pub record Table : Type 0 where
  -- 1, document 000, figure 1: 12 edges, nobody deadlocked; a full round from 1 sends 48.
  pub first : Morning 7 first_rows 12 []
  pub first_round : FullRound 7 first_rows 0 48 NotDeadlocked
  -- It has cycles, and no deadlock: 2 waits on 3, and 3 on 2.
  pub first_cycle : Path (waits_of 7 first_rows) 1 1
  -- 2, document 004's example: 14 edges, deadlocked 1, 3, 4, 5, 7, 8, 9; a full round from 1 sends 34. The evidence for 1 is all seven.
  pub second : Morning 10 second_rows 14 (0 ∷ 2 ∷ 3 ∷ 4 ∷ 6 ∷ 7 ∷ 8 ∷ [])
  pub second_round : FullRound 10 second_rows 0 34 Deadlocked
  pub second_evidence : Evidence (waits_of 10 second_rows) 0 (0 ∷ 2 ∷ 3 ∷ 4 ∷ 6 ∷ 7 ∷ 8 ∷ [])
  -- 3: there {1, 3, 4, 5, 7, 8} passes for 1; {1, 3, 5} doesn't (4 is outside). It fails at 1; from behind it is refused.
  pub third_passes : judged_of 10 second_rows 0 (0 ∷ 2 ∷ 3 ∷ 4 ∷ 6 ∷ 7 ∷ []) ≡ Ok Passes
  pub third_fails : judged_of 10 second_rows 0 (0 ∷ 2 ∷ 4 ∷ []) ≡ Ok (MemberSatisfied (record { 0 = 0 }))
  pub third_turned : judged_of 10 second_rows 0 (4 ∷ 2 ∷ 0 ∷ []) ≡ Err (record { reason = NotAscending; row = record { 0 = 0 } })
  -- 4: both deadlocked, 4 messages, from 1 or from 2. The evidence for either is both.
  pub fourth : Morning 2 fourth_rows 2 (0 ∷ 1 ∷ [])
  pub fourth_round : FullRound 2 fourth_rows 0 4 Deadlocked × FullRound 2 fourth_rows 1 4 Deadlocked
  pub fourth_evidence : Evidence (waits_of 2 fourth_rows) 0 (0 ∷ 1 ∷ []) × Evidence (waits_of 2 fourth_rows) 1 (0 ∷ 1 ∷ [])
  -- 5: opening ends at once, not deadlocked, 0 messages.
  pub fifth : Morning 1 fifth_rows 0 []
  pub fifth_round : FullRound 1 fifth_rows 0 0 NotDeadlocked
  pub fifth_opening : (round : ℕ)
      → ((open_round (seen_in (waits_of 1 fifth_rows) 0) round).answer ≡ Ok (Opened (Some NotDeadlocked))) × ((after (waits_of 1 fifth_rows) 0 round []).sent ≡ [])
  pub fifth_bench : OnBench 1 fifth_rows (opens 0 1 ∷ []) [] (answer_number 0 (Ok (Opened (Some NotDeadlocked))) ∷ [])
  -- 6: open 1 in round 1. The whole list: 0 NOTIFY 1 to 2; 1 GRANT 2 to 1; 2 ACK 1 to 2; 3 DONE 2 to 1. Delivering 0, 1, 2, 3 ends not
  -- deadlocked at 3.
  pub sixth : Morning 2 sixth_rows 1 []
  pub sixth_round : FullRound 2 sixth_rows 0 4 NotDeadlocked
  pub sixth_bench : OnBench 2 sixth_rows (opens 0 1 ∷ delivers 0 ∷ delivers 1 ∷ delivers 2 ∷ delivers 3 ∷ [])
      (letter Notify 0 1 1 ∷ letter Grant 1 0 1 ∷ letter Ack 0 1 1 ∷ letter Done 1 0 1 ∷ [])
      (answer_number 1 (Ok (Opened None)) ∷ answer_number 2 (Ok (Taken None)) ∷ answer_number 3 (Ok (Taken None))
      ∷ answer_number 4 (Ok (Taken None)) ∷ answer_number 4 (Ok (Taken (Some NotDeadlocked))) ∷ [])
  -- 9: 1 needs 2 of {2, 3, 4}: 1, 3, 4 deadlocked, 12 messages. With P = 1: nobody, 20. P = 3 accepted; P = 0 and P = 4 are number 5, of
  -- the row of 1.
  pub ninth : Morning 4 (ninth_rows 2) 5 (0 ∷ 2 ∷ 3 ∷ [])
  pub ninth_round : FullRound 4 (ninth_rows 2) 0 12 Deadlocked
  pub ninth_evidence : Evidence (waits_of 4 (ninth_rows 2)) 0 (0 ∷ 2 ∷ 3 ∷ [])
  pub ninth_one : Morning 4 (ninth_rows 1) 5 []
  pub ninth_one_round : FullRound 4 (ninth_rows 1) 0 20 NotDeadlocked
  pub ninth_three : check_of 4 (ninth_rows 3) ≡ Ok tt
  pub ninth_none : check_of 4 (ninth_rows 0) ≡ Err (record { reason = WrongThreshold; row = record { 0 = 0 } })
  pub ninth_four : check_of 4 (ninth_rows 4) ≡ Err (record { reason = WrongThreshold; row = record { 0 = 0 } })
  -- 10: 1, 2, 3 deadlocked. They are the evidence for 1.
  pub tenth : Morning 5 tenth_rows 6 (0 ∷ 1 ∷ 2 ∷ [])
  pub tenth_evidence : Evidence (waits_of 5 tenth_rows) 0 (0 ∷ 1 ∷ 2 ∷ [])
  -- 1 gets back to itself, but through 4, which is free: it stands behind the ring of 2 and 3. 4 and 5 aren't deadlocked.
  pub tenth_cycle : Path (waits_of 5 tenth_rows) 0 0
  pub tenth_behind : ReportSays 5 tenth_rows 0 (Ok BehindRing)
  pub tenth_in : ReportSays 5 tenth_rows 1 (Ok InRing) × ReportSays 5 tenth_rows 2 (Ok InRing)
  pub tenth_free : ReportSays 5 tenth_rows 3 (Ok Report-as-NotDeadlocked) × ReportSays 5 tenth_rows 4 (Ok Report-as-NotDeadlocked)
  -- 12: the empty list passes for nobody, in any graph: it lacks the claim.
  pub twelfth : (w : Waits) (i : ℕ) → passes w i [] ≡ false
  pub twelfth_lacks : (n : ℕ) (rows : List ℕ) (i : ℕ) → check_node_of n rows i ≡ Ok tt → judged_of n rows i [] ≡ Ok ClaimMissing
