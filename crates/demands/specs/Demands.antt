-- The page that a reader must believe: the three demands, sentence by sentence, with what the paper adds to them. Every name means
-- what its own file says, and ../proofs/Demands.antt shows that the statements follow. The calls promise what is spoken of here:
-- `check` check_of, `check_evidence` judged_of, `all_deadlocked` FoundSays, `deadlocked` ClaimSays, `ring_report` ReportSays,
-- `write_evidence` WrittenSays, `waiting_on` InSays, `open` open_of, `deliver` deliver_of, `step` step_on, `run` run_of. A call that is
-- refused answers `Err` and the refusal, any other `Ok` and what it says; of a claim that is whether it is deadlocked. Assumes nothing.
use Rattle.std.specs.Prelude.{◌≡◌, true, false, ◌⊎◌, ◌↔◌, ℕ, ◌+◌, ◌*◌, ◌≤◌, ◌<◌, length, take, drop, Result, Ok, Err, Option, Bool}
use mathlib.Core.List.{List, [], ◌∷◌, ◌++◌, map, Memᴰ}
use Rattle.nodes.specs.declared.Node.{Node}
use Rattle.nodes.specs.declared.Set.{Set}
use Rattle.nodes.specs.Sets.{In, Inside, meet, members, size, set_of}
use Rattle.nodes.specs.Words.{num}
use Rattle.records.specs.declared.messages.Message.{Message}
use Rattle.records.specs.Rounds.{last_round, behind, ahead}
use Rattle.records.specs.Records.{State}
use Rattle.waits.specs.declared.refusals.Refusal.{Refusal}
use Rattle.waits.specs.Waits.{Waits, edges}
use Rattle.waits.specs.Deadlocked.{Deadlocked, Reachable, outside}
use Rattle.waits.specs.Rows.{row_at, sets_of, waits_of}
use Rattle.waits.specs.Numbers.{graph_lines, check_of, Gives}
use Rattle.deadlock.specs.declared.ring.Report.{Report}
use Rattle.deadlock.specs.declared.ring.Report.TheVariants.{InRing, NotDeadlocked}
use Rattle.deadlock.specs.declared.evidence.Judged.TheVariants.{Passes, ClaimMissing, MemberSatisfied}
use Rattle.deadlock.specs.Refusals.{asked_lines, list_lines, room_lines, check_node_of, check_list_of}
use Rattle.deadlock.specs.Claims.{FoundSays, ClaimSays}
use Rattle.deadlock.specs.Ring.{LeadsTo, ReportSays}
use Rattle.deadlock.specs.Waiters.{InSays}
use Rattle.deadlock.specs.Evidence.{Evidence, WrittenSays, judged_of}
use Rattle.step.specs.declared.answers.Verdict.{Verdict}
use Rattle.step.specs.declared.answers.Verdict.TheVariants.{Deadlocked as Verdict-as-Deadlocked}
use Rattle.step.specs.declared.answers.Answer.TheVariants.{Opened as Answer-as-Opened}
use Rattle.step.specs.Step.{seen_in, still}
use Rattle.step.specs.Answers.{said_at_once}
use Rattle.node.specs.Refusals.{open_lines, deliver_lines}
use Rattle.node.specs.Calls.{open_of, deliver_of}
use Rattle.lent.specs.declared.steps.Step.{Step}
use Rattle.lent.specs.Coded.{number_of}
use Rattle.bench.specs.Bench.{Bench, fresh, room, after}
use Rattle.bench.specs.Steps.{step_on}
use Rattle.bench.specs.Runs.{run, run_of}
use Rattle.rounds.specs.Verdicts.{verdict_in, Right}
use Rattle.rounds.specs.Ends.{FreedFrom, leaving, entering}
use Rattle.rounds.specs.History.{node_of, round_of, since, History, openings}
use Rattle.demands.specs.Turns.{after_steps, Turn, turn, turns, accepted, Full, Unless12, opening, Leaves, taken_singly}
use Rattle.demands.specs.Turns.{event_of, heard, Opened, AllArrived, CanAllArrive, verdicts_given, messages_of, held_on}
use Rattle.demands.specs.Refusals.{step_lines, run_lines}

-- "Any graph of waits, any record, any message or list may be handed in. Nothing undefined happens and every call ends." No call from
-- outside has a `requires`, and every function is proved to end safely: the checker shows that of the code itself.
pub record Demand1 (n : ℕ) (rows : List ℕ) (r : Refusal) : Type 0 where
  -- "Bad input gets its refusal number from your paper": that of the first line of its table that says so, and only then. A refusal has
  -- its reason, and `reason_number` gives the number that the paper has for each.
  pub graph_refused : (check_of n rows ≡ Err r) ↔ Gives (graph_lines n rows) r
  pub all_refused : (x : Result Set Refusal) → FoundSays n rows x → (x ≡ Err r) ↔ Gives (graph_lines n rows) r
  pub claim_refused : (i : ℕ) (x : Result Bool Refusal) → ClaimSays n rows i x → (x ≡ Err r) ↔ Gives (asked_lines n rows i []) r
  pub ring_refused : (i : ℕ) (x : Result Report Refusal) → ReportSays n rows i x → (x ≡ Err r) ↔ Gives (asked_lines n rows i []) r
  pub list_refused : (i : ℕ) (l : List ℕ) → (judged_of n rows i l ≡ Err r) ↔ Gives (list_lines n rows i l) r
  pub evidence_refused : (i : ℕ) (found left : List ℕ) (x : Result ℕ Refusal) → WrittenSays n rows i found left x → (x ≡ Err r) ↔ Gives (room_lines n rows i (length found)) r
  pub in_refused : (i : ℕ) (x : Result Set Refusal) → InSays n rows i x → (x ≡ Err r) ↔ Gives (asked_lines n rows i []) r
  pub opening_refused : (me : ℕ) (row : List ℕ) (ins : ℕ) (s : State) (round : ℕ)
      → ((open_of n me row ins s round).answer ≡ Err r) ↔ Gives (open_lines n me row ins s round) r
  pub delivery_refused : (me : ℕ) (row : List ℕ) (ins : ℕ) (s : State) (m : Message)
      → ((deliver_of n me row ins s m).answer ≡ Err r) ↔ Gives (deliver_lines n me row ins s m) r
  pub step_refused : (b : Bench) (x : Step) → ((step_on n rows b x).answer ≡ Err r) ↔ Gives (step_lines n rows b x) r
  pub run_refused : (b : Bench) (l answers : List ℕ) → ((run_of n rows b l answers).checked ≡ Err r) ↔ Gives (run_lines n rows b l answers) r
  -- "and a refused call leaves everything lent exactly as found."
  pub evidence_left : (i : ℕ) (found left : List ℕ) → WrittenSays n rows i found left (Err r) → left ≡ found
  pub opening_left : (me : ℕ) (row : List ℕ) (ins : ℕ) (s : State) (round : ℕ)
      → (open_of n me row ins s round).answer ≡ Err r → open_of n me row ins s round ≡ still s (Err r)
  pub delivery_left : (me : ℕ) (row : List ℕ) (ins : ℕ) (s : State) (m : Message)
      → (deliver_of n me row ins s m).answer ≡ Err r → deliver_of n me row ins s m ≡ still s (Err r)
  pub step_left : (b : Bench) (x : Step) → (step_on n rows b x).answer ≡ Err r → step_on n rows b x ≡ after b (Err r)
  pub run_left : (b : Bench) (l answers : List ℕ) → (run_of n rows b l answers).checked ≡ Err r → run_of n rows b l answers ≡ run b answers (Err r)

module _ (n : ℕ) (rows : List ℕ) where
  abbrev w : Waits
  w = waits_of n rows

  pub record Demand2 (i : ℕ) : Type 0 where
    -- "A claim is called deadlocked exactly when, by the published AND-OR and P-out-of-Q rules, no order of granting ever frees it." The
    -- rules: an active node needs nobody; at least P of Q have granted; all of at least one nonempty set have.
    pub active : (g : ℕ) → (row_at rows i).kind ≡ 0 → w.holds i g ≡ true
    pub p_of_q : (g : ℕ) → (row_at rows i).kind ≡ 1 → (w.holds i g ≡ true) ↔ ((row_at rows i).threshold ≤ size (meet (num (row_at rows i).first) g))
    pub and_or : (g : ℕ) → (row_at rows i).kind ≡ 2
        → (w.holds i g ≡ true) ↔ ((q : ℕ) × Memᴰ q (sets_of (row_at rows i)) × (q ≡ 0 → ⊥) × Inside q g)
    pub all : (s : Set) → FoundSays n rows (Ok s) → In i (num s) ↔ ((i < n) × Deadlocked w i)
    pub claim : check_node_of n rows i ≡ Ok tt → (x : Result Bool Refusal) → ClaimSays n rows i x → (x ≡ Ok true) ↔ Deadlocked w i
    pub ring : check_node_of n rows i ≡ Ok tt → (x : Result Report Refusal) → ReportSays n rows i x → (x ≡ Ok NotDeadlocked) ↔ (Deadlocked w i → ⊥)
    -- The paper: a deadlocked node is in the ring exactly if a path of one or more edges leads from it back to itself through deadlocked
    -- nodes only; and from every deadlocked node such a path leads to one that is in the ring.
    pub in_ring : check_node_of n rows i ≡ Ok tt → Deadlocked w i → (x : Result Report Refusal) → ReportSays n rows i x → (x ≡ Ok InRing) ↔ LeadsTo w i i
    pub to_ring : check_node_of n rows i ≡ Ok tt → Deadlocked w i → (j : ℕ) × LeadsTo w i j × ReportSays n rows j (Ok InRing)
    -- "A list offered as evidence passes exactly when it holds the claim asked about and the nodes outside it satisfy no member's
    -- condition": of lists that aren't refused.
    pub list : (l : List ℕ) → check_list_of n rows i l ≡ Ok tt
        → (judged_of n rows i l ≡ Ok Passes) ↔ (Memᴰ i l × ((j : ℕ) → Memᴰ j l → w.holds j (outside w l) ≡ false))
    pub those_outside : (l : List ℕ) (k : ℕ) → In k (outside w l) ↔ ((k < n) × (Memᴰ k l → ⊥))
    -- The paper: of a list that doesn't pass it is said why: the claim isn't in it, and that is said first; or the first member, in the
    -- list's order, whose condition the nodes outside satisfy.
    pub claim_missing : (l : List ℕ) → check_list_of n rows i l ≡ Ok tt → (judged_of n rows i l ≡ Ok ClaimMissing) ↔ (Memᴰ i l → ⊥)
    pub member_satisfied : (l : List ℕ) → check_list_of n rows i l ≡ Ok tt → (k : Node)
        → (judged_of n rows i l ≡ Ok (MemberSatisfied k))
        ↔ (Memᴰ i l
        × ((before : List ℕ) × (after : List ℕ) × (l ≡ before ++ k.0 ∷ after) × (w.holds k.0 (outside w l) ≡ true)
        × ((j : ℕ) → Memᴰ j before → w.holds j (outside w l) ≡ false)))
    -- "Whoever wrote the list, that is all that counts." The paper: a list that isn't refused is a set. If graph and node aren't
    -- refused, a list is accepted exactly if it names nodes alone and is the ascending list of its set's members; no other with these
    -- members is then accepted, and the member that comes first is the lowest.
    pub as_a_set : check_node_of n rows i ≡ Ok tt → (l : List ℕ)
        → (check_list_of n rows i l ≡ Ok tt) ↔ (((j : ℕ) → Memᴰ j l → j < n) × (members (set_of l) ≡ l))
    pub one_list : (l m : List ℕ) → check_list_of n rows i l ≡ Ok tt → check_list_of n rows i m ≡ Ok tt → ((j : ℕ) → Memᴰ j l ↔ Memᴰ j m) → l ≡ m
    pub lowest : (l : List ℕ) → check_list_of n rows i l ≡ Ok tt → (k : Node) → judged_of n rows i l ≡ Ok (MemberSatisfied k)
        → (j : ℕ) → Memᴰ j l → w.holds j (outside w l) ≡ true → k.0 ≤ j
    -- The paper: the evidence that is written is never refused, for whatever node of the graph it is offered.
    pub written_accepted : (found left : List ℕ) (k : ℕ) → WrittenSays n rows i found left (Ok k)
        → (j : ℕ) → check_node_of n rows j ≡ Ok tt → check_list_of n rows j (take k left) ≡ Ok tt
    -- The paper: a node is deadlocked exactly if some list passes for it.
    pub link : check_node_of n rows i ≡ Ok tt → Deadlocked w i ↔ ((l : List ℕ) × (judged_of n rows i l ≡ Ok Passes))

  -- "From a fresh start, the waits stand still": a fresh bench, whatever the lent list has in its places. `steps` were taken, the newest
  -- first, whatever they are: "let messages be lost, repeated, shuffled, or come late from old rounds, in any mixture".
  module _ (messages : List ℕ) (steps : List Step) where
    abbrev now : Bench
    now = after_steps n rows (fresh n messages) steps

    abbrev past : List Turn
    past = turns n rows (fresh n messages) steps

    pub record Demand3 : Type 0 where
      -- "each round gets a higher number than every round before": one node opens it, above all before, and 65,535 is the last. Older
      -- and newer are those of numbers.
      pub one_opener : (s t round : ℕ) → Opened past s round → Opened past t round → s ≡ t
      pub newest : (now.highest ≡ 0) ⊎ ((s : ℕ) × Opened past s now.highest)
      pub higher : (s round : ℕ) → Opened past s round → round ≤ now.highest
      pub opens : (s round : ℕ) → s < n → (now.highest < round) × (round ≤ last_round) → Unless12 (step_on n rows now (opening s round))
      pub opens_only : (s round : ℕ) → accepted (step_on n rows now (opening s round)).answer ≡ true → (now.highest < round) × (round ≤ last_round)
      pub as_numbers : (round own : ℕ) → ((behind round own ≡ true) ↔ (round < own)) × ((ahead round own ≡ true) ↔ (own < round))
      -- The paper: a node sees only its own row and IN. So an opening says nothing, but of an active node that nobody waits on.
      pub at_once : (b : Bench) (s round : ℕ) (v : Option Verdict) → (step_on n rows b (opening s round)).answer ≡ Ok (Answer-as-Opened v)
          → v ≡ said_at_once (seen_in w s)
      -- "no round ever gives a false verdict": what is said in a round, once at most, is said by the node that opened it, and is right of
      -- that node.
      pub opener : (t : Turn) → Memᴰ t past → (v : Verdict) → Memᴰ v (verdict_in t.gave.answer) → Opened past (node_of (event_of t)) (round_of (event_of t))
      pub no_false : (s round : ℕ) (v : Verdict) → Opened past s round → Memᴰ v (verdicts_given round past) → Right w s v
      pub one_verdict : (round : ℕ) → length (verdicts_given round past) ≤ 1
      -- "If no later round is opened, and each message of the newest round arrives at least once, that round ends with the right verdict,
      -- having sent at most four messages for each wait, whatever befell the rounds before it." And each message can arrive.
      pub ends : (s : ℕ) → Opened past s now.highest → AllArrived now.highest now past
          → (v : Verdict) × (verdicts_given now.highest past ≡ v ∷ []) × Right w s v
      pub at_most_four : (round : ℕ) → length (messages_of round now) ≤ 4 * edges w
      pub can_arrive : 4 * edges w * openings (heard past) ≤ room now → CanAllArrive n rows (fresh n messages) steps
      -- The paper: while 4 times edges times rounds opened (this one included) is within the room, 12 can't occur.
      pub room_enough : (x : Step) → 4 * edges w * openings (event_of (turn n rows now x) ∷ heard past) ≤ room now → Full (step_on n rows now x) → ⊥
      -- The paper: how many messages a run has sent is the length of the rules' own list, and that list is what the bench has.
      pub by_rules : History w (heard past) × (take now.sent now.messages ≡ map number_of (since w (heard past)).sent)
      pub count : now.sent ≡ length (since w (heard past)).sent
      -- The paper: what a round that has ended has sent; and its evidence, if it ended deadlocked and no later round has been opened.
      pub count_exactly : (s round : ℕ) (v : Verdict) → Opened past s round → Memᴰ v (verdicts_given round past) → (reachable : ℕ) × (freed : ℕ)
          × ((i : ℕ) → In i reachable ↔ Reachable w s i) × ((i : ℕ) → In i freed ↔ FreedFrom w s i)
          × (length (messages_of round now) ≡ 2 * leaving w reachable + 2 * entering w freed)
      pub evidence : (s : ℕ) → Opened past s now.highest → Memᴰ Verdict-as-Deadlocked (verdicts_given now.highest past)
          → Evidence w s (held_on n now)
          × ((found left : List ℕ) (k : ℕ) → WrittenSays n rows s found left (Ok k) → left ≡ held_on n now ++ drop k found)
      -- The paper: a step writes only its new messages, the sent count, the highest round and one record, that of the node where it
      -- happens; places past the room are never touched. This is said of every bench; a refused step changes nothing at all (`step_left`).
      pub leaves : (b : Bench) (x : Step) → Leaves b (node_of (event_of (turn n rows b x))) (step_on n rows b x).bench
      -- The paper: a list of steps answers as its steps taken singly do, and touches no answer place but theirs.
      pub as_a_list : (l answers : List ℕ) → length l ≤ length answers → run_of n rows now l answers ≡ taken_singly n rows now l answers

pub record Demands : Type 0 where
  pub first : (n : ℕ) (rows : List ℕ) (r : Refusal) → Demand1 n rows r
  pub second : (n : ℕ) (rows : List ℕ) (i : ℕ) → Demand2 n rows i
  pub third : (n : ℕ) (rows messages : List ℕ) (steps : List Step) → check_of n rows ≡ Ok tt → Demand3 n rows messages steps
