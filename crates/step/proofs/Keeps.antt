-- One step of a record that can come about: what it is said to have sent grows by what it sends, and the next record can come
-- about too. Assumes nothing.
use mathlib.Core.Path.{◌≡◌, refl, sym, ap}
use mathlib.Core.Bool.{Bool, true, false, cond, not, ◌&&◌, ◌||◌, true≢false}
use mathlib.Core.Logic.{⊎_elim}
use Prim.Native.Nat.{ℕ}
use native.Mathlib.Nat.{le_refl}
use Rattle.lemmas.proofs.Tests.{not_both, and_intro, and_left, and_right, or_intro_right, or_intro_left, or_cases}
use Rattle.nodes.specs.Sets.{bit, In, Inside, union, minus, with, inside}
use Rattle.nodes.proofs.Inside.{inside_trans, inside_more, with_grows, single_inside, with_inside, empty_inside, none_in}
use Rattle.records.specs.declared.causes.Why.{Why}
use Rattle.records.specs.declared.causes.Why.TheVariants.{Not, Itself, By}
use Rattle.records.specs.declared.messages.Kind.{Kind}
use Rattle.records.specs.declared.messages.Kind.TheVariants.{Notify, Grant, Ack, Done}
use Rattle.records.specs.Causes.{happened, sender_of}
use Rattle.records.specs.Records.{State, called, free, with_call, with_freed, had_of, with_had, mark_of}
use Rattle.step.specs.Step.{Seen, Move, active, acked, complete, nobody, sending, move, answer_with, frees, newly, owed, settle, neighbours}
use Rattle.step.specs.Sent.{answered, sent, to_whom, Adds, Grows, Sound, Formed}
use Rattle.step.proofs.Held.{adds_none, adds_all, adds_late, adds_once, adds_held, adds_still}

-- what a move comes to: it grows what is said to be sent, and leaves a record that can come about
pub record Keeps (o : Seen) (before : State) (m : Move) : Type 0 where
  pub grows : Grows o before (settle o before m).sends m.state
  pub formed : Formed o m.state

-- ---- what was not so
pub not_happened : (w : Why) → happened w ≡ false → sender_of w ≡ 0
not_happened Not e = refl
not_happened Itself e = absurd (true≢false e)
not_happened (By k) e = absurd (true≢false e)

not_acked : (o : Seen) (s : State) → free s ≡ false → acked o s ≡ false
unfolding acked
not_acked o s e = ap (λ (b : Bool). b && inside o.ins s.ack) e

not_complete : (o : Seen) (s : State) → called s ≡ false → complete o s ≡ false
unfolding complete
not_complete o s e = ap (λ (b : Bool). b && (inside o.out s.done && (not (active o) || inside o.ins s.ack))) e

-- ---- more that is in never undoes what was awaited
acked_more : (o : Seen) (s : State) (a : ℕ) → acked o s ≡ true → acked o (mark_of Ack a s) ≡ true
unfolding acked
acked_more o s a e =
    and_intro (free s) _ (and_left (free s) _ e) (inside_more o.ins s.ack (with s.ack a) (and_right (free s) _ e) (with_grows s.ack a))

complete_more : (o : Seen) (s : State) (ack done : ℕ) → Inside s.ack ack → Inside s.done done → complete o s ≡ true
    → complete o (with_had Ack ack (with_had Done done s)) ≡ true
unfolding complete
complete_more o s ack done i j e =
    let f = and_right (called s) _ e in
    and_intro (called s) _ (and_left (called s) _ e)
    (and_intro (inside o.out done) _ (inside_more o.out s.done done (and_left (inside o.out s.done) _ f) j)
    (⊎_elim
    (λ (n : not (active o) ≡ true). or_intro_left (not (active o)) _ n)
    (λ (n : inside o.ins s.ack ≡ true). or_intro_right (not (active o)) _ (inside_more o.ins s.ack ack n i))
    (or_cases (not (active o)) _ (and_right (inside o.out s.done) _ f))))

-- ---- senders
by_kind : (o : Seen) (s : State) → Inside s.notify o.ins → Inside s.grant o.out → Inside s.ack o.ins → Inside s.done o.out
    → (k : Kind) → Inside (had_of k s) (neighbours o k)
by_kind o s n g a d Notify = n
by_kind o s n g a d Grant = g
by_kind o s n g a d Ack = a
by_kind o s n g a d Done = d

-- kind by kind
module _ (o : Seen) (s : State) (m : Move) where
  abbrev Grew : Kind → Type 0
  Grew k = Adds (sent o s k) (to_whom (settle o s m).sends k) (sent o m.state k)

  grown : Grew Notify → Grew Grant → Grew Ack → Grew Done → Grows o s (settle o s m).sends m.state
  grown n g a d Notify = n
  grown n g a d Grant = g
  grown n g a d Ack = a
  grown n g a d Done = d

-- a GRANT that doesn't free leaves a node as free as its condition says
as_met : (o : Seen) → Sound o → (f : Bool) (g a : ℕ) → f ≡ o.holds g → (not f && o.holds (with g a)) ≡ false → f ≡ o.holds (with g a)
as_met o sound true g a e n = sym (sound.monotone g (with g a) (with_grows g a) (sym e))
as_met o sound false g a e n = sym n

module _ (o : Seen) (s : State) (w : Formed o s) where
  -- ---- NOTIFY to a node that is called
  pub notified_keeps : (a : ℕ) → In a o.ins → bit s.notify a ≡ 0 → called s ≡ true → Keeps o s (answer_with Done a (mark_of Notify a s))
  unfolding settle owed acked complete
  notified_keeps a m z c = record {
    grows = grown o s (answer_with Done a (mark_of Notify a s))
        (adds_none _)
        (adds_none _)
        (adds_late s.grant (sender_of s.freed) w.freer (acked o s) (acked o s) (λ e. e))
        (adds_once s.notify (sender_of s.call) w.caller a z (complete o s));
    formed = record {
      caller = inside_trans _ _ _ w.caller (with_grows s.notify a);
      uncalled = λ e. absurd (not_both c e);
      freer = w.freer;
      unfree = w.unfree;
      if_active = w.if_active;
      if_waiting = w.if_waiting;
      senders = by_kind o _ (with_inside s.notify a o.ins (w.senders Notify) m) (w.senders Grant) (w.senders Ack) (w.senders Done);
    };
  }

  -- ---- GRANT to a node that is free already, or that it doesn't free
  pub granted_keeps : (a : ℕ) → Sound o → In a o.out → bit s.grant a ≡ 0 → frees o (mark_of Grant a s) ≡ false
      → Keeps o s (answer_with Ack a (mark_of Grant a s))
  unfolding settle owed acked complete
  granted_keeps a sound m z n = record {
    grows = grown o s (answer_with Ack a (mark_of Grant a s))
        (adds_none _)
        (adds_none _)
        (adds_once s.grant (sender_of s.freed) w.freer a z (acked o s))
        (adds_late s.notify (sender_of s.call) w.caller (complete o s) (complete o s) (λ e. e));
    formed = record {
      caller = w.caller;
      uncalled = w.uncalled;
      freer = inside_trans _ _ _ w.freer (with_grows s.grant a);
      unfree = w.unfree;
      if_active = w.if_active;
      if_waiting = λ e. (as_met o sound (free s) s.grant a (w.if_waiting e).0 n, (w.if_waiting e).1);
      senders = by_kind o _ (w.senders Notify) (with_inside s.grant a o.out (w.senders Grant) m) (w.senders Ack) (w.senders Done);
    };
  }

  -- ---- GRANT that frees
  pub freed_keeps : (a : ℕ) → Sound o → In a o.out → bit s.grant a ≡ 0 → free s ≡ false → o.holds (with s.grant a) ≡ true
      → Keeps o s (move (with_freed (By (record { 0 = a })) (mark_of Grant a s)) (sending Grant o.ins))
  unfolding settle owed complete
  freed_keeps a sound m z f h = record {
    grows = grown o s (move (with_freed (By (record { 0 = a })) (mark_of Grant a s)) (sending Grant o.ins))
        (adds_none _)
        (rw f (adds_all o.ins))
        (rw (not_acked o s f) (rw (not_happened s.freed f) (adds_held s.grant a z (acked o (with_freed (By (record { 0 = a })) (mark_of Grant a s))))))
        (adds_late s.notify (sender_of s.call) w.caller (complete o s) (complete o s) (λ e. e));
    formed = record {
      caller = w.caller;
      uncalled = w.uncalled;
      freer = single_inside s.grant a;
      unfree = λ e. absurd (true≢false e);
      if_active = λ e. absurd (none_in _ a (sound.active_out e) m);
      if_waiting = λ e. (sym h, refl);
      senders = by_kind o _ (w.senders Notify) (with_inside s.grant a o.out (w.senders Grant) m) (w.senders Ack) (w.senders Done);
    };
  }

  -- ---- ACK
  pub acked_keeps : (a : ℕ) → In a o.ins → free s ≡ true → Keeps o s (move (mark_of Ack a s) nobody)
  unfolding settle owed
  acked_keeps a m f = record {
    grows = grown o s (move (mark_of Ack a s) nobody)
        (adds_none _)
        (adds_none _)
        (adds_late s.grant (sender_of s.freed) w.freer (acked o s) _ (acked_more o s a))
        (adds_late s.notify (sender_of s.call) w.caller (complete o s) _ (complete_more o s (with s.ack a) s.done (with_grows s.ack a) (λ k. le_refl (bit s.done k))));
    formed = record {
      caller = w.caller;
      uncalled = w.uncalled;
      freer = w.freer;
      unfree = λ e. absurd (not_both f e);
      if_active = w.if_active;
      if_waiting = w.if_waiting;
      senders = by_kind o _ (w.senders Notify) (w.senders Grant) (with_inside s.ack a o.ins (w.senders Ack) m) (w.senders Done);
    };
  }

  -- ---- DONE
  pub done_keeps : (a : ℕ) → In a o.out → called s ≡ true → Keeps o s (move (mark_of Done a s) nobody)
  unfolding settle owed acked
  done_keeps a m c = record {
    grows = grown o s (move (mark_of Done a s) nobody)
        (adds_none _)
        (adds_none _)
        (adds_late s.grant (sender_of s.freed) w.freer (acked o s) (acked o s) (λ e. e))
        (adds_late s.notify (sender_of s.call) w.caller (complete o s) _ (complete_more o s s.ack (with s.done a) (λ k. le_refl (bit s.ack k)) (with_grows s.done a)));
    formed = record {
      caller = w.caller;
      uncalled = λ e. absurd (not_both c e);
      freer = w.freer;
      unfree = w.unfree;
      if_active = w.if_active;
      if_waiting = w.if_waiting;
      senders = by_kind o _ (w.senders Notify) (w.senders Grant) (w.senders Ack) (with_inside s.done a o.out (w.senders Done) m);
    };
  }

  -- ---- being called: n are the senders of NOTIFY then, by is how, and the caller's DONE is held back
  module _ (by : Why) (n : ℕ) (c : called s ≡ false) (b : happened by ≡ true) (i : Inside (sender_of by) n) (j : Inside n o.ins)
      (d : (r : Bool) → Adds (minus s.notify (sender_of s.call)) (union 0 (cond (newly false r) (sender_of by) 0)) (answered r n (sender_of by))) where
    pub called_keeps : active o ≡ false → Keeps o s (move (with_call by (with_had Notify n s)) (sending Notify o.out))
    unfolding settle owed acked
    called_keeps e = record {
      grows = grown o s (move (with_call by (with_had Notify n s)) (sending Notify o.out))
          (rw c (rw b (adds_all o.out)))
          (adds_none _)
          (adds_late s.grant (sender_of s.freed) w.freer (acked o s) (acked o s) (λ e. e))
          (rw (not_complete o s c) (d (complete o (with_call by (with_had Notify n s)))));
      formed = record {
        caller = i;
        uncalled = λ f. absurd (not_both b f);
        freer = w.freer;
        unfree = w.unfree;
        if_active = λ f. absurd (not_both f e);
        if_waiting = w.if_waiting;
        senders = by_kind o _ j (w.senders Grant) (w.senders Ack) (w.senders Done);
      };
    }

    pub active_keeps : Sound o → active o ≡ true → free s ≡ false → Keeps o s (move (with_freed Itself (with_call by (with_had Notify n s))) (sending Grant o.ins))
    unfolding settle owed
    active_keeps sound e f = record {
      grows = grown o s (move (with_freed Itself (with_call by (with_had Notify n s))) (sending Grant o.ins))
          (rw c (rw b (rw (sound.active_out e) (adds_none 0))))
          (rw f (adds_all o.ins))
          (rw (not_acked o s f) (rw (not_happened s.freed f) (adds_still s.grant (acked o (with_freed Itself (with_call by (with_had Notify n s)))))))
          (rw (not_complete o s c) (d (complete o (with_freed Itself (with_call by (with_had Notify n s))))));
      formed = record {
        caller = i;
        uncalled = λ g. absurd (not_both b g);
        freer = empty_inside s.grant;
        unfree = λ g. absurd (true≢false g);
        if_active = λ g. (sym b, refl);
        if_waiting = λ g. absurd (not_both e g);
        senders = by_kind o _ j (w.senders Grant) (w.senders Ack) (w.senders Done);
      };
    }
