-- A check or a step made of what its callees said, over plain variables. Assumes nothing.
use mathlib.Core.Path.{◌≡◌, sym, ap, ◌∙◌, subst}
use mathlib.Core.Bool.{Bool, true, false}
use mathlib.Core.List.{List, map}
use Prim.Native.Nat.{ℕ, ◌+◌, ◌*◌, ◌≤◌, ◌<◌}
use native.Mathlib.Omega.{arith}
use lib.ListN.{length, get_or, take}
use lib.Seq.{sets, length-take-le}
use borrow.Author.Tests.{lt-ltb, le-ltb}
use Rattle.lemmas.specs.Lists.{any_below}
use Rattle.lemmas.proofs.Cases.{at_true, at_false}
use Rattle.lemmas.proofs.Any.{below_next, some_below}
use Rattle.lemmas.proofs.Tests.{or_left_false}
use Rattle.nodes.specs.Sets.{Inside, below}
use Rattle.nodes.specs.Words.{places}
use Rattle.nodes.proofs.Operations.{in_below}
use Rattle.nodes.proofs.Inside.{inside_in, inside_trans}
use Rattle.records.specs.declared.messages.Kind.{Kind}
use Rattle.records.specs.declared.messages.Message.{Message}
use Rattle.records.specs.declared.records.Record.{Record}
use Rattle.records.specs.Rounds.{last_round, cannot_open}
use Rattle.records.specs.Messages.{Letter, letter_of}
use Rattle.records.specs.Records.{Fitting, state_of}
use Rattle.records.proofs.Fits.{record_fits}
use Rattle.records.proofs.Among.{record_among}
use Rattle.std.specs.Prelude.{Result, Err}
use Rattle.std.specs.Result.{is_err}
use Rattle.waits.specs.declared.refusals.Refusal.{Refusal}
use Rattle.waits.specs.Rows.{waits_of, Shaped}
use Rattle.waits.specs.Numbers.{check_of}
use Rattle.waits.proofs.Table.{accepted_shaped}
use Rattle.step.specs.Step.{Seen, Outcome, seen_in, open_round, receive}
use Rattle.step.specs.Letters.{letters_of, how_many}
use Rattle.step.specs.Sent.{to_whom}
use Rattle.step.proofs.Said.{received_as}
use Rattle.step.proofs.Among.{ToAmong}
use Rattle.step.proofs.Letters.{letters_count}
use Rattle.lent.specs.Kept.{record_size, record_at, state_at, put_state}
use Rattle.lent.specs.Coded.{message_of, number_of}
use Rattle.step.specs.declared.answers.Answer.{Answer}
use Rattle.bench.specs.Bench.{Bench, bench, after, refusal, room_of, most_room}
use Rattle.bench.specs.Strange.{strange_record_on, strange_message_on, strange_records, Good}
use Rattle.bench.specs.Steps.{join}
use Rattle.bench.proofs.Sound.{Sound, is_accepted, good_sound, shaped, room_le, few_sent, sent_listed, record_there, sent_fine}
use Rattle.bench.proofs.Keeping.{opened_fine, from_there, to_there, was_record, arrived_fine}
use Rattle.waits.specs.declared.refusals.Reason.TheVariants.{FullRoom}

-- ---- a walk over the records
abbrev pub NoneBelow : ℕ → ℕ → List ℕ → ℕ → Type 0
NoneBelow n highest records i = any_below (λ j. strange_record_on n highest (state_at records j)) i ≡ false

module _ (n highest : ℕ) (records : List ℕ) (i : ℕ) {x : Record} {r : Bool} (e : x ≡ record_at records i) (f : r ≡ strange_record_on n highest (state_of x)) where
  there : {b : Bool} → r ≡ b → strange_record_on n highest (state_at records i) ≡ b
  unfolding state_at
  there g = sym (f ∙ ap (λ (y : Record). strange_record_on n highest (state_of y)) e) ∙ g

  pub record_found : i < n → r ≡ true → true ≡ strange_records n highest records
  unfolding strange_records
  record_found h g = some_below (λ j. strange_record_on n highest (state_at records j)) n i h (there g)

  pub record_passed : NoneBelow n highest records i → r ≡ false → NoneBelow n highest records (i + 1)
  record_passed h g = below_next (λ j. strange_record_on n highest (state_at records j)) i h (there g)

pub records_passed : (n highest : ℕ) (records : List ℕ) {i : ℕ} → i ≡ n → NoneBelow n highest records i → false ≡ strange_records n highest records
unfolding strange_records
records_passed n highest records e h = sym (rw e at h)

-- ---- the graph, and the room
pub graph_shaped : (n : ℕ) (rows : List ℕ) {x : Result Unit Refusal} {r : Bool} → x ≡ check_of n rows → r ≡ is_err x → r ≡ false → Shaped n rows
graph_shaped n rows e f g = accepted_shaped n rows (is_accepted _ (sym (f ∙ ap is_err e) ∙ g))

pub in_list : (messages : List ℕ) (sent : ℕ) {x : ℕ} → x ≡ room_of (length messages) → sent ≤ x → sent ≡ length (take sent messages)
in_list messages sent e h = sym (length-take-le sent messages (omega (arith, e, room_le (length messages))))

pub has_room : (lent sent new : ℕ) {x y : ℕ} → x ≡ room_of lent → y ≡ new → sent + y ≤ x → sent + new ≤ lent
has_room lent sent new e f h = omega (arith, e, f, room_le lent)

-- ---- what a node did joins, or doesn't fit
module _ (b : Bench) (next i : ℕ) (out : Outcome) {x y : ℕ} (room : x ≡ room_of (length b.messages)) (new : y ≡ how_many out.sends) where
  count : b.sent + y ≡ b.sent + length (letters_of i out.state.round out.sends)
  count = ap (λ (k : ℕ). b.sent + k) (new ∙ sym (letters_count i out.state.round out.sends))

  pub join_over : {r : Result Answer Refusal} → x < b.sent + y → r ≡ Err (refusal FullRoom) → after b r ≡ join b next i out
  unfolding join
  join_over h e = at_true _ (lt-ltb (room_of (length b.messages)) (b.sent + length (letters_of i out.state.round out.sends)) (omega (arith, room, count))) (ap (after b) e)

  pub join_fits : {records messages : List ℕ} {sent : ℕ} → b.sent + y ≤ x → records ≡ put_state b.records i out.state
      → (sent ≡ b.sent + how_many out.sends) × (messages ≡ sets b.messages b.sent (map number_of (letters_of i out.state.round out.sends)))
      → after (bench records messages sent next) out.answer ≡ join b next i out
  unfolding join
  join_fits h e f =
      at_false _ (le-ltb (room_of (length b.messages)) (b.sent + length (letters_of i out.state.round out.sends)) (omega (arith, room, count)))
      (λ k. after (bench (e k) (f.1 k) ((f.0 ∙ ap (λ (z : ℕ). b.sent + z) (sym (letters_count i out.state.round out.sends))) k) next) out.answer)

-- ---- what a node does with its record in the list
pub arrived_as : (records : List ℕ) (i : ℕ) {m n : Letter} {o p : Seen} {r : Record} {x : Outcome} → x ≡ receive o (state_of r) m → o ≡ p → r ≡ record_at records i → m ≡ n
    → x ≡ receive p (state_at records i) n
unfolding state_at
arrived_as records i e f g h = received_as e f (ap state_of g) h

-- ---- rows that a good state stands on
pub good_shaped : (n : ℕ) (rows : List ℕ) (b : Bench) → Good n rows b → Shaped n rows
good_shaped n rows b good = shaped n rows b (good_sound n rows b good)

pub good_listed : (n : ℕ) (rows : List ℕ) (b : Bench) → Good n rows b → b.sent ≤ length b.messages
good_listed n rows b good = sent_listed n rows b (good_sound n rows b good)

-- ---- what joining asks for
abbrev pub Joins : List ℕ → ℕ → ℕ → Outcome → Type 0
Joins records sent i out =
    (i * record_size + record_size ≤ length records)
    × (i < places)
    × (sent ≤ most_room)
    × (out.state.round ≤ last_round)
    × ((k : Kind) → Inside (to_whom out.sends k) (below places))

module _ (n : ℕ) (rows : List ℕ) (b : Bench) (good : Good n rows b) where
  sound : Sound n rows b
  sound = good_sound n rows b good

  joins : (i highest : ℕ) (out : Outcome) → i < n → strange_record_on n highest out.state ≡ false → ToAmong n out.sends → Joins b.records b.sent i out
  unfolding strange_record_on
  joins i highest out h e to =
      let few : n ≤ places = (shaped n rows b sound).0 in (
        record_there n rows b sound i h,
        omega arith,
        few_sent n rows b sound,
        (record_among n out.state (or_left_false _ _ e)).0,
        λ k. inside_trans _ _ _ (to k) (inside_in _ _ (λ j m. let l = (in_below n j).0 m in (in_below places j).1 (omega arith))),
      )

  pub open_joins : (i round : ℕ) {out : Outcome} → i < n → cannot_open b.highest round ≡ false → out ≡ open_round (seen_in (waits_of n rows) i) round
      → Joins b.records b.sent i out
  open_joins i round h e q =
      let f = opened_fine n rows b sound i round h e in
      subst (Joins b.records b.sent i) (sym q) (joins i round (open_round (seen_in (waits_of n rows) i) round) h f.0 f.2)

  pub arrive_joins : (m : Message) {out : Outcome} → strange_message_on n b.highest m ≡ false
      → out ≡ receive (seen_in (waits_of n rows) m.to.0) (state_at b.records m.to.0) (letter_of m) → Joins b.records b.sent m.to.0 out
  arrive_joins m e q =
      let f = arrived_fine n rows b sound m e in
      subst (Joins b.records b.sent m.to.0) (sym q)
      (joins m.to.0 b.highest (receive (seen_in (waits_of n rows) m.to.0) (state_at b.records m.to.0) (letter_of m)) (to_there n rows b sound m e) f.0 f.2)

  -- and what receiving asks for
  pub arrive_there : (m : Message) → strange_message_on n b.highest m ≡ false → (m.to.0 < n) × (m.to.0 * record_size + record_size ≤ length b.records)
  arrive_there m e = let h = to_there n rows b sound m e in (h, record_there n rows b sound m.to.0 h)

  pub from_fits : (m : Message) → strange_message_on n b.highest m ≡ false → m.from.0 < places
  from_fits m e = let few : n ≤ places = (shaped n rows b sound).0 in let h = from_there n rows b sound m e in omega arith

  pub arrive_fits : (m : Message) {r : Record} → strange_message_on n b.highest m ≡ false → r ≡ record_at b.records m.to.0 → Fitting (state_of r)
  unfolding state_at
  arrive_fits m e q =
      let few : n ≤ places = (shaped n rows b sound).0 in
      subst (λ (x : Record). Fitting (state_of x)) (sym q) (record_fits n _ few (was_record n rows b sound m e))

  pub sent_there : (k : ℕ) {m : Message} → k < b.sent → m ≡ message_of (get_or b.messages k 0) → strange_message_on n b.highest m ≡ false
  sent_there k h e = ap (strange_message_on n b.highest) e ∙ sent_fine n rows b sound k h
