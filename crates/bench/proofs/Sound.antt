-- What is known of a state that isn't refused, part by part. Assumes nothing.
use mathlib.Core.Path.{◌≡◌, refl, ap, ap₂, subst}
use mathlib.Core.Bool.{Bool, false, not, ◌||◌, true≢false}
use mathlib.Core.List.{List}
use Prim.Native.Nat.{ℕ, ◌+◌, ◌*◌, ◌≤◌, ◌<◌}
use native.Mathlib.Omega.{arith}
use lib.Dec.{eqb, ltb}
use lib.ListN.{length, get_or, take}
use lib.Seq.{length-take-le, get_or-take}
use borrow.Author.Tests.{not-false, eqb-true, eq-eqb, ltb-false, le-ltb}
use Rattle.lemmas.proofs.Tests.{or_left_false, or_right_false}
use Rattle.lemmas.proofs.Any.{none_at, none_below, all_below}
use Rattle.nodes.specs.Sets.{Inside, below}
use Rattle.records.specs.Rounds.{last_round}
use Rattle.std.specs.Prelude.{Result, Ok, Err}
use Rattle.waits.specs.declared.refusals.Refusal.{Refusal}
use Rattle.waits.specs.Rows.{waits_of, Shaped}
use Rattle.waits.specs.Numbers.{check_of}
use Rattle.waits.proofs.Table.{accepted_shaped}
use Rattle.waits.proofs.Lawful.{accepted_lawful}
use Rattle.waits.proofs.In.{out_inside, ins_inside}
use Rattle.step.specs.Step.{seen_in}
use Rattle.lent.specs.Kept.{record_size, state_at}
use Rattle.lent.specs.Coded.{message_of}
use Rattle.bench.specs.Bench.{Bench, room, room_of, most_room}
use Rattle.bench.specs.Strange.{is_refused, strange_record_on, strange_message_on, strange_records, strange_messages, strange_bench, Good}

pub record Sound (n : ℕ) (rows : List ℕ) (b : Bench) : Type 0 where
  pub accepted : check_of n rows ≡ Ok tt
  pub each : length b.records ≡ n * record_size
  pub within : b.sent ≤ room b
  pub last : b.highest ≤ last_round
  pub kept : (i : ℕ) → i < n → strange_record_on n b.highest (state_at b.records i) ≡ false
  pub listed : strange_messages n b.highest (take b.sent b.messages) ≡ false

pub is_accepted : (c : Result Unit Refusal) → is_refused c ≡ false → c ≡ Ok tt
is_accepted (Ok t) e = refl
is_accepted (Err r) e = absurd (true≢false e)

module _ (n : ℕ) (rows : List ℕ) (b : Bench) where
  pub good_sound : Good n rows b → Sound n rows b
  unfolding strange_bench strange_records
  good_sound e =
      let f = or_right_false (is_refused (check_of n rows)) _ e in
      let g = or_right_false (not (eqb (length b.records) (n * record_size))) _ f in
      let h = or_right_false (ltb (room b) b.sent) _ g in
      let i = or_right_false (ltb last_round b.highest) _ h in
      record {
        accepted = is_accepted _ (or_left_false _ _ e);
        each = eqb-true _ _ (not-false _ (or_left_false _ _ f));
        within = ltb-false (room b) b.sent (or_left_false _ _ g);
        last = ltb-false last_round b.highest (or_left_false _ _ h);
        kept = λ k l. none_below (λ j. strange_record_on n b.highest (state_at b.records j)) n k l (or_left_false _ _ i);
        listed = or_right_false (strange_records n b.highest b.records) _ i;
      }

  pub sound_good : Sound n rows b → Good n rows b
  unfolding strange_bench strange_records
  sound_good s =
      ap₂ ◌||◌ (ap is_refused s.accepted)
      (ap₂ ◌||◌ (ap not (eq-eqb _ _ s.each))
      (ap₂ ◌||◌ (le-ltb (room b) b.sent s.within)
      (ap₂ ◌||◌ (le-ltb last_round b.highest s.last)
      (ap₂ ◌||◌ (all_below (λ j. strange_record_on n b.highest (state_at b.records j)) n s.kept) s.listed))))

pub room_le : (lent : ℕ) → (room_of lent ≤ lent) × (room_of lent ≤ most_room)
unfolding room_of
room_le lent = (omega arith, omega arith)

module _ (n : ℕ) (rows : List ℕ) (b : Bench) (s : Sound n rows b) where
  pub shaped : Shaped n rows
  shaped = accepted_shaped n rows s.accepted

  pub few_sent : b.sent ≤ most_room
  few_sent = omega (arith, s.within, room_le (length b.messages))

  pub sent_listed : b.sent ≤ length b.messages
  sent_listed = omega (arith, s.within, room_le (length b.messages))

  pub record_there : (i : ℕ) → i < n → i * record_size + record_size ≤ length b.records
  record_there i h = omega (arith, s.each)

  -- ---- a message that was sent
  pub sent_fine : (k : ℕ) → k < b.sent → strange_message_on n b.highest (message_of (get_or b.messages k 0)) ≡ false
  unfolding strange_messages
  sent_fine k h =
      let p : ℕ → Bool = λ x. strange_message_on n b.highest (message_of x) in
      let l : length (take b.sent b.messages) ≡ b.sent = length-take-le b.sent b.messages sent_listed in
      subst (λ (x : ℕ). p x ≡ false) (get_or-take b.sent b.messages k 0 h)
      (none_at p (take b.sent b.messages) k (omega (arith, l)) s.listed)

  -- ---- whom a node waits on, and who waits on it
  pub out_among : (i : ℕ) → i < n → Inside (seen_in (waits_of n rows) i).out (below n)
  out_among = out_inside (waits_of n rows) (accepted_lawful n rows s.accepted)

  pub ins_among : (i : ℕ) → Inside (seen_in (waits_of n rows) i).ins (below n)
  ins_among = ins_inside (waits_of n rows)
