-- The local laws: what holds of one node's record through an opening and through any message, whatever the other nodes do.
-- Assumes nothing.
use mathlib.Core.Path.{◌≡◌, refl, sym, ap, ap₂, ◌∙◌, subst}
use mathlib.Core.Bool.{Bool, true, false, cond, not, false≢true}
use mathlib.Core.Logic.{◌⊎◌, inl, inr}
use Prim.Native.Nat.{ℕ, ◌<◌}
use lib.Dec.{eqb}
use borrow.Author.Tests.{not-true, not-false}
use Rattle.lemmas.proofs.Cases.{both_branches}
use Rattle.lemmas.proofs.Tests.{not_both, true_or_false, and_left, and_right, or_left_false, or_right_false}
use Rattle.nodes.specs.Sets.{bit, In, Inside, has, union, minus, single, with}
use Rattle.nodes.proofs.Bit.{has_in, has_out}
use Rattle.nodes.proofs.Inside.{single_inside, with_inside, empty_inside}
use Rattle.records.specs.declared.causes.Why.TheVariants.{Itself, By}
use Rattle.records.specs.declared.messages.Kind.{Kind}
use Rattle.records.specs.declared.messages.Kind.TheVariants.{Notify, Grant, Ack, Done}
use Rattle.records.specs.Causes.{sender_of}
use Rattle.records.specs.Messages.{Letter}
use Rattle.records.specs.Records.{State, called, free, blank_of, in_round, had_of, mark_of}
use Rattle.records.specs.Rounds.{behind, ahead}
use Rattle.waits.specs.Waits.{Waits, Lawful}
use Rattle.std.specs.Prelude.{Ok}
use Rattle.step.specs.declared.answers.Answer.{Answer}
use Rattle.step.specs.declared.answers.Answer.TheVariants.{Old, Stray, Repeat}
use Rattle.step.specs.Step.{Seen, Outcome, still, seen_in, be_called, react, newly, settle, open_round, neighbours, expects, stray, take, arrive, receive}
use Rattle.step.specs.Sent.{answered, Adds, Grows, Sound, Formed, Fresh}
use Rattle.step.proofs.Held.{adds_held, adds_still}
use Rattle.step.proofs.Reacts.{called_cases, notify_cases, grant_cases}
use Rattle.step.proofs.Keeps.{Keeps, not_happened, notified_keeps, granted_keeps, freed_keeps, acked_keeps, done_keeps, called_keeps, active_keeps}

-- a node of a lawful graph of waits
pub seen_sound : (w : Waits) → Lawful w → (i : ℕ) → i < w.nodes → Sound (seen_in w i)
seen_sound w l i h = record { monotone = λ g k s e. l.monotone i g k h s e; active_out = λ e. l.active i h e }

module _ (o : Seen) (sound : Sound o) where
  -- a blank record can come about
  pub blank_formed : (round : ℕ) → Formed o (blank_of round)
  blank_formed round = record {
    caller = empty_inside 0;
    uncalled = λ e. (refl, refl);
    freer = empty_inside 0;
    unfree = λ e. refl;
    if_active = λ e. (refl, refl);
    if_waiting = λ e. (sym e, refl);
    senders = nobody_had;
  }
    where
      nobody_had : (k : Kind) → Inside (had_of k (blank_of round)) (neighbours o k)
      nobody_had Notify = empty_inside o.ins
      nobody_had Grant = empty_inside o.out
      nobody_had Ack = empty_inside o.ins
      nobody_had Done = empty_inside o.out

  opens_keep : (round : ℕ) → Keeps o (blank_of round) (be_called o Itself (blank_of round))
  opens_keep round = called_cases (Keeps o (blank_of round)) o (blank_of round) Itself
      (called_keeps o (blank_of round) (blank_formed round) Itself 0 refl refl (empty_inside 0) (empty_inside o.ins) (λ r. adds_still 0 r))
      (λ d e. absurd (false≢true e))
      (λ d e. active_keeps o (blank_of round) (blank_formed round) Itself 0 refl refl (empty_inside 0) (empty_inside o.ins) (λ r. adds_still 0 r) sound d e)

  module _ (s : State) (w : Formed o s) where
    -- the first NOTIFY
    first_keeps : (a : ℕ) → In a o.ins → bit s.notify a ≡ 0 → called s ≡ false → Keeps o s (be_called o (By (record { 0 = a })) (mark_of Notify a s))
    first_keeps a m z c =
        let inside = with_inside s.notify a o.ins (w.senders Notify) m in
        called_cases (Keeps o s) o (mark_of Notify a s) (By (record { 0 = a }))
        (called_keeps o s w (By (record { 0 = a })) (with s.notify a) c refl (single_inside s.notify a) inside held)
        (λ d e. absurd (not_both e ((w.if_active d).0 ∙ c)))
        (λ d e. active_keeps o s w (By (record { 0 = a })) (with s.notify a) c refl (single_inside s.notify a) inside held sound d e)
      where
        held : (r : Bool) → Adds (minus s.notify (sender_of s.call)) (union 0 (cond (newly false r) (single a) 0)) (answered r (with s.notify a) (single a))
        held r = rw (not_happened s.call c) (adds_held s.notify a z r)

    notify_keeps : (a : ℕ) → In a o.ins → bit s.notify a ≡ 0 → Keeps o s (react o a (mark_of Notify a s) Notify)
    notify_keeps a m z = notify_cases (Keeps o s) o (mark_of Notify a s) a (notified_keeps o s w a m z) (first_keeps a m z)

    grant_keeps : (a : ℕ) → In a o.out → bit s.grant a ≡ 0 → Keeps o s (react o a (mark_of Grant a s) Grant)
    grant_keeps a m z = grant_cases (Keeps o s) o (mark_of Grant a s) a
        (λ t. freed_keeps o s w a sound m z (not-true (free s) (and_left (not (free s)) _ t)) (and_right (not (free s)) _ t))
        (granted_keeps o s w a sound m z)

    react_keeps : (kind : Kind) (a : ℕ) → In a (neighbours o kind) → bit (had_of kind s) a ≡ 0 → expects s kind ≡ true
        → Keeps o s (react o a (mark_of kind a s) kind)
    react_keeps Notify a m z e = notify_keeps a m z
    react_keeps Grant a m z e = grant_keeps a m z
    react_keeps Ack a m z e = acked_keeps o s w a m e
    react_keeps Done a m z e = done_keeps o s w a m e

    take_keeps : (m : Letter) → Fresh o s m → Keeps o s (react o m.from (mark_of m.kind m.from s) m.kind)
    unfolding stray
    take_keeps m f =
        let g = or_right_false (not (eqb m.to o.me)) _ f.0 in
        react_keeps m.kind m.from
        (has_in _ _ (not-false _ (or_left_false (not (has (neighbours o m.kind) m.from)) _ g)))
        (has_out _ _ f.1)
        (not-false _ (or_right_false (not (has (neighbours o m.kind) m.from)) _ g))

    -- Theorem: a message that is taken adds to what the record says was sent exactly what the step sends, and nothing of it was
    -- sent before; and the next record can come about.
    pub take_grows : (m : Letter) → Fresh o s m → Grows o s (take o s m).sends (take o s m).state
    unfolding take settle
    take_grows m f = (take_keeps m f).grows

    pub take_formed : (m : Letter) → Fresh o s m → Formed o (take o s m).state
    unfolding take settle
    take_formed m f = (take_keeps m f).formed

  -- Theorem: the same of an opening, from a blank record.
  pub open_grows : (round : ℕ) → Grows o (blank_of round) (open_round o round).sends (open_round o round).state
  unfolding open_round settle
  open_grows round = (opens_keep round).grows

  pub open_formed : (round : ℕ) → Formed o (open_round o round).state
  unfolding open_round settle
  open_formed round = (opens_keep round).formed

-- ---- any message
module _ (o : Seen) (r : State) (m : Letter) where
  abbrev now : State
  now = in_round m.round r

  -- nothing is sent and the record stays
  abbrev pub Stays : Type 0
  Stays = (a : Answer) × (receive o r m ≡ still r (Ok a))

  -- it is taken, in the message's round, which isn't behind
  abbrev Takes : Type 0
  Takes = (receive o r m ≡ take o now m) × Fresh o now m × (behind m.round r.round ≡ false)

  pub old : behind m.round r.round ≡ true → receive o r m ≡ still r (Ok Old)
  unfolding receive
  old e = rw e refl

  -- if it isn't, x being the record in its round
  pub arrives : {x : State} {a b : Bool} → behind m.round r.round ≡ false → now ≡ x → stray o x m ≡ a → has (had_of m.kind x) m.from ≡ b
      → receive o r m ≡ cond a (still r (Ok Stray)) (cond b (still r (Ok Repeat)) (take o x m))
  unfolding receive arrive
  arrives {x} n same e f =
      let started : receive o r m ≡ arrive o r now m = rw n refl in
      started
      ∙ ap (λ (y : State). arrive o r y m) same
      ∙ ap₂ (λ (a b : Bool). cond a (still r (Ok Stray)) (cond b (still r (Ok Repeat)) (take o x m))) e f

  arrival : behind m.round r.round ≡ false → (a b : Bool) → stray o now m ≡ a → has (had_of m.kind now) m.from ≡ b → Takes ⊎ Stays
  arrival n true b e f = inr (Stray, arrives n refl e f)
  arrival n false true e f = inr (Repeat, arrives n refl e f)
  arrival n false false e f = inl (arrives n refl e f, (e, f), n)

  -- Theorem: a message is taken or leaves everything as it was.
  pub takes_or_stays : Takes ⊎ Stays
  takes_or_stays = elim (true_or_false (behind m.round r.round)) [
    | inl e ↦ inr (Old, old e)
    | inr e ↦ arrival e (stray o now m) (has (had_of m.kind now) m.from) refl refl
  ]

  module _ (sound : Sound o) (w : Formed o r) where
    round_formed : Formed o now
    unfolding in_round
    round_formed = both_branches (Formed o) (ahead m.round r.round) (blank_formed o sound m.round) w

    -- Theorem: records that can come about stay so, whatever is delivered.
    pub receive_formed : Formed o (receive o r m).state
    receive_formed = elim takes_or_stays [
      | inl t ↦ subst (λ (x : Outcome). Formed o x.state) (sym t.0) (take_formed o sound now round_formed m t.1)
      | inr s ↦ subst (λ (x : Outcome). Formed o x.state) (sym s.1) w
    ]

    -- Theorem: a message adds to what the record, in the message's round, says was sent exactly what the step sends, and none
    -- of that was sent before; or it leaves everything as it was.
    pub receive_grows : Grows o now (receive o r m).sends (receive o r m).state ⊎ Stays
    receive_grows = elim takes_or_stays [
      | inl t ↦ inl (subst (λ (x : Outcome). Grows o now x.sends x.state) (sym t.0) (take_grows o sound now round_formed m t.1))
      | inr s ↦ inr s
    ]
