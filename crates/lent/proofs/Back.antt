-- What was written is read back: a record where it was put, all others as they were, a message's parts, and a step's. Assumes nothing.
use mathlib.Core.Path.{◌≡◌, refl, sym, ap, ◌∙◌}
use mathlib.Core.Logic.{◌⊎◌, ⊎_elim}
use mathlib.Core.List.{List}
use Prim.Native.Nat.{ℕ, zero, suc, ◌+◌, ◌*◌, ◌/◌, ◌%◌, ◌^◌, ◌≤◌, ◌<◌}
use native.Mathlib.Nat.{add-zero}
use native.Mathlib.Omega.{arith}
use lib.Dec.{lit<}
use lib.ListN.{length, get_or}
use lib.Seq.{sets, length-sets}
use Rattle.lemmas.proofs.Stores.{sets_before, sets_after, sets_at, sets_same}
use Rattle.nodes.specs.Words.{num}
use Rattle.records.specs.declared.causes.Why.{Why}
use Rattle.records.specs.declared.causes.Why.TheVariants.{Not, Itself, By}
use Rattle.records.specs.declared.messages.Kind.{Kind}
use Rattle.records.specs.declared.messages.Kind.TheVariants.{Notify, Grant, Ack, Done}
use Rattle.records.specs.Causes.{why_of, cause_number}
use Rattle.records.specs.Messages.{Letter, kind_of, kind_number, letter_of}
use Rattle.records.specs.Records.{State}
use Rattle.records.proofs.Unique.{numbered}
use Rattle.lent.specs.Kept.{record_size, record_at, state_at, state_numbers, put_state}
use Rattle.lent.specs.Coded.{message_of, number_of}
use Rattle.lent.specs.Steps.{step_number, step_of}
use Rattle.lent.proofs.Letters.{kind_number_le}

-- ---- records
module _ (records : List ℕ) (i j : ℕ) (s : State) (h : (i < j) ⊎ (j < i)) where
  kept : (p : ℕ) → p < record_size → get_or (sets records (i * record_size) (state_numbers s)) (j * record_size + p) 0 ≡ get_or records (j * record_size + p) 0
  kept p l =
      ⊎_elim
      (λ (q : i < j). sets_after (state_numbers s) records (i * record_size) (j * record_size + p) (omega arith))
      (λ (q : j < i). sets_before (state_numbers s) records (i * record_size) (j * record_size + p) (omega arith))
      h

  kept_first : get_or (sets records (i * record_size) (state_numbers s)) (j * record_size) 0 ≡ get_or records (j * record_size) 0
  kept_first = rw add-zero at (kept 0 (lit< tt))

  pub record_kept : state_at (put_state records i s) j ≡ state_at records j
  unfolding state_at record_at put_state
  record_kept = rw (kept_first, kept 1 (lit< tt), kept 2 (lit< tt), kept 3 (lit< tt), kept 4 (lit< tt), kept 5 (lit< tt), kept 6 (lit< tt))

pub length_put : (records : List ℕ) (i : ℕ) (s : State) → length (put_state records i s) ≡ length records
unfolding put_state
length_put records i s = length-sets records (i * record_size) (state_numbers s)

cause_back : (why : Why) → why_of (cause_number why) ≡ why
cause_back Not = refl
cause_back Itself = refl
cause_back (By k) = refl

module _ (records : List ℕ) (i : ℕ) (s : State) (h : i * record_size + record_size ≤ length records) where
  there : (j : ℕ) → j < record_size → get_or (sets records (i * record_size) (state_numbers s)) (i * record_size + j) 0 ≡ get_or (state_numbers s) j 0
  there j l = sets_at (state_numbers s) records (i * record_size) j l h

  first : get_or (sets records (i * record_size) (state_numbers s)) (i * record_size) 0 ≡ s.round
  first = rw add-zero at (there 0 (lit< tt))

  pub record_back : state_at (put_state records i s) i ≡ s
  unfolding state_at record_at put_state num
  record_back = λ k. record {
    round = first k;
    call = (ap why_of (there 1 (lit< tt)) ∙ cause_back s.call) k;
    freed = (ap why_of (there 2 (lit< tt)) ∙ cause_back s.freed) k;
    notify = there 3 (lit< tt) k;
    grant = there 4 (lit< tt) k;
    ack = there 5 (lit< tt) k;
    done = there 6 (lit< tt) k;
  }

-- a record that is put where it stands changes nothing
module _ (records : List ℕ) (i : ℕ) where
  stands : (j : ℕ) → j < record_size → get_or (state_numbers (state_at records i)) j 0 ≡ get_or records (i * record_size + j) 0
  unfolding state_at record_at num
  stands zero h = ap (λ (k : ℕ). get_or records k 0) (sym (add-zero (i * record_size)))
  stands (suc zero) h = numbered (get_or records (i * record_size + 1) 0)
  stands (suc (suc zero)) h = numbered (get_or records (i * record_size + 2) 0)
  stands (suc (suc (suc zero))) h = refl
  stands (suc (suc (suc (suc zero)))) h = refl
  stands (suc (suc (suc (suc (suc zero))))) h = refl
  stands (suc (suc (suc (suc (suc (suc zero)))))) h = refl
  stands (suc (suc (suc (suc (suc (suc (suc j))))))) h = absurd (omega arith)

  pub record_stands : put_state records i (state_at records i) ≡ records
  unfolding put_state
  record_stands = sets_same (state_numbers (state_at records i)) records (i * record_size) stands

-- ---- messages
kind_back : (k : Kind) → kind_of (kind_number k) ≡ k
kind_back Notify = refl
kind_back Grant = refl
kind_back Ack = refl
kind_back Done = refl

module _ (m : Letter) (f : m.from < 256) (t : m.to < 256) where
  few : kind_number m.kind ≤ 3
  few = kind_number_le m.kind

  pub message_kind : (message_of (number_of m)).kind ≡ kind_number m.kind
  unfolding message_of number_of
  message_kind = omega (arith, few)

  pub message_from : (message_of (number_of m)).from.0 ≡ m.from
  unfolding message_of number_of
  message_from = omega (arith, few)

  pub message_to : (message_of (number_of m)).to.0 ≡ m.to
  unfolding message_of number_of
  message_to = omega (arith, few)

  pub message_round : (message_of (number_of m)).round.0 ≡ m.round
  unfolding message_of number_of
  message_round = omega (arith, few)

  pub letter_back : letter_of (message_of (number_of m)) ≡ m
  letter_back = λ i. record {
    kind = (ap kind_of message_kind ∙ kind_back m.kind) i;
    from = message_from i;
    to = message_to i;
    round = message_round i;
  }

-- ---- steps
pub step_back : (kind a b : ℕ) → a < 2 ^ 24 → b < 2 ^ 24 → step_of (step_number kind a b) ≡ record { kind = kind; a = a; b = b }
unfolding step_of step_number
step_back kind a b h l =
    let x = kind * 2 ^ 48 + a * 2 ^ 24 + b in
    let k : x / 2 ^ 48 ≡ kind = omega arith in
    let c : x / 2 ^ 24 % 2 ^ 24 ≡ a = omega arith in
    let d : x % 2 ^ 24 ≡ b = omega arith in
    λ i. record { kind = k i; a = c i; b = d i }
