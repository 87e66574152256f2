-- When a bench of numbers stands for a history of the rules, and that a fresh bench does. Assumes nothing.
use mathlib.Core.Path.{◌≡◌, refl, sym, ap, ap₂, ◌∙◌, subst}
use mathlib.Core.Bool.{◌||◌, false}
use mathlib.Core.List.Memᴰ
use mathlib.Core.List.{List, [], ◌∷◌, map, Memᴰ}
use mathlib.Core.List.Memᴰ.{head as here}
use mathlib.Core.List.Memᴰ.{tail as there}
use Prim.Native.Nat.{ℕ, zero, suc, ◌+◌, ◌*◌, ◌<◌}
use native.Mathlib.Nat.{not-suc-le-zero, le_of_suc-le-suc}
use native.Mathlib.Omega.{arith}
use lib.ListN.{length, get_or, take, replicate, length-replicate, length-map}
use lib.Seq.{length-take-le, get_or-take}
use Rattle.std.specs.Prelude.{Ok}
use Rattle.nodes.specs.Words.{num}
use Rattle.records.specs.Messages.{Letter, letter_of}
use Rattle.records.specs.Records.{State, blank_of}
use Rattle.records.specs.Causes.{why_of}
use Rattle.records.proofs.Higher.{not_ahead_itself}
use Rattle.records.proofs.Among.{among_record, blank_among}
use Rattle.waits.specs.Rows.{waits_of}
use Rattle.waits.specs.Numbers.{check_of}
use Rattle.waits.proofs.Lawful.{accepted_lawful}
use Rattle.lent.specs.Kept.{record_size, record_at, state_at}
use Rattle.lent.specs.Coded.{message_of, number_of}
use Rattle.lent.proofs.Back.{letter_back}
use Rattle.bench.specs.Bench.{Bench, fresh}
use Rattle.bench.specs.Strange.{strange_record_on, strange_messages, Good}
use Rattle.bench.specs.Steps.{letter_at}
use Rattle.bench.proofs.Sound.{Sound, good_sound, sound_good, shaped, sent_listed}
use Rattle.rounds.specs.History.{Event, since, highest_in, History}
use Rattle.rounds.proofs.Among.{history_named}

-- The bench isn't refused, every record is what the rules say, the messages sent are the rules' own in their order, as numbers,
-- and the highest round opened is the same.
pub record Stands (n : ℕ) (rows : List ℕ) (b : Bench) (l : List Event) : Type 0 where
  pub good : Good n rows b
  pub history : History (waits_of n rows) l
  pub records : (i : ℕ) → i < n → state_at b.records i ≡ (since (waits_of n rows) l).records i
  pub messages : take b.sent b.messages ≡ map number_of (since (waits_of n rows) l).sent
  pub highest : b.highest ≡ highest_in l

-- ---- a fresh bench
zero_at : (k j : ℕ) → ◌≡◌ {A = ℕ} (get_or (replicate k 0) j 0) 0
zero_at zero j = refl
zero_at (suc k) zero = refl
zero_at (suc k) (suc j) = zero_at k j

blank_at : (k i : ℕ) → state_at (replicate k 0) i ≡ blank_of 0
unfolding state_at record_at num
blank_at k i = λ j. record {
  round = zero_at k (i * record_size) j;
  call = why_of (zero_at k (i * record_size + 1) j);
  freed = why_of (zero_at k (i * record_size + 2) j);
  notify = zero_at k (i * record_size + 3) j;
  grant = zero_at k (i * record_size + 4) j;
  ack = zero_at k (i * record_size + 5) j;
  done = zero_at k (i * record_size + 6) j;
}

blank_fine : (n : ℕ) → strange_record_on n 0 (blank_of 0) ≡ false
unfolding strange_record_on
blank_fine n = ap₂ ◌||◌ (among_record n (blank_of 0) (omega arith) (blank_among n 0)) (not_ahead_itself 0)

module _ (n : ℕ) (rows messages : List ℕ) (ok : check_of n rows ≡ Ok tt) where
  fresh_sound : Sound n rows (fresh n messages)
  unfolding strange_messages
  fresh_sound = record {
    accepted = ok;
    each = length-replicate (n * record_size) 0;
    within = omega arith;
    last = omega arith;
    kept = λ i h. subst (λ (s : State). strange_record_on n 0 s ≡ false) (sym (blank_at (n * record_size) i)) (blank_fine n);
    listed = refl;
  }

  -- Theorem: it stands for the history in which nothing has happened.
  pub fresh_stands : Stands n rows (fresh n messages) []
  unfolding since
  fresh_stands = record {
    good = sound_good n rows (fresh n messages) fresh_sound;
    history = tt;
    records = λ i h. blank_at (n * record_size) i;
    messages = refl;
    highest = refl;
  }

-- ---- a list that is mapped: what stands at a place, and where something stands
module _ {A : Type 0} (f : A → ℕ) where
  at_place : (l : List A) (k : ℕ) → k < length l → (x : A) × Memᴰ x l × (get_or (map f l) k 0 ≡ f x)
  at_place [] k h = absurd (not-suc-le-zero h)
  at_place (a ∷ l) zero h = (a, here refl, refl)
  at_place (a ∷ l) (suc k) h = let r = at_place l k (le_of_suc-le-suc h) in (r.0, there r.1, r.2)

  place_of : (l : List A) (x : A) → Memᴰ x l → (k : ℕ) × (k < length l) × (get_or (map f l) k 0 ≡ f x)
  place_of (a ∷ l) x (here e) = (0, omega arith, ap f (sym e))
  place_of (a ∷ l) x (there m) = let r = place_of l x m in (suc r.0, omega (arith, r.1), r.2)
  place_of [] x x3 = elim x3 [ ]

-- ---- the messages of a bench that stands for a history
module _ {n : ℕ} {rows : List ℕ} {b : Bench} {l : List Event} (st : Stands n rows b l) where
  abbrev letters : List Letter
  letters = (since (waits_of n rows) l).sent

  sound : Sound n rows b
  sound = good_sound n rows b st.good

  -- Theorem: they are as many as the rules'.
  pub sent_count : b.sent ≡ length letters
  sent_count = sym (length-take-le b.sent b.messages (sent_listed n rows b sound)) ∙ ap length st.messages ∙ length-map letters number_of

  number_at : (k : ℕ) → k < b.sent → get_or b.messages k 0 ≡ get_or (map number_of letters) k 0
  number_at k h = sym (get_or-take b.sent b.messages k 0 h) ∙ ap (λ (x : List ℕ). get_or x k 0) st.messages

  -- a letter of the rules is read back from its number: there are at most 64 nodes
  pub read_back : (m : Letter) → Memᴰ m letters → letter_of (message_of (number_of m)) ≡ m
  read_back m i =
      let few = (shaped n rows b sound).0 in
      let h = (history_named (waits_of n rows) (accepted_lawful n rows sound.accepted) l st.history).letters m i in
      letter_back m (omega (arith, few, h.0)) (omega (arith, few, h.1))

  -- Theorem: message k is one of the rules', and each of those is some message.
  pub letter_sent : (k : ℕ) → k < b.sent → Memᴰ (letter_at b k) letters
  letter_sent k h =
      let p = at_place number_of letters k (omega (arith, sent_count)) in
      Memᴰ.cast (ap (λ (x : ℕ). letter_of (message_of x)) (number_at k h ∙ p.2) ∙ read_back p.0 p.1) p.1

  pub sent_letter : (m : Letter) → Memᴰ m letters → (k : ℕ) × (k < b.sent) × (letter_at b k ≡ m)
  sent_letter m i =
      let p = place_of number_of letters m i in
      let h : p.0 < b.sent = omega (arith, sent_count, p.1) in
      (p.0, h, ap (λ (x : ℕ). letter_of (message_of x)) (number_at p.0 h ∙ p.2) ∙ read_back m i)
