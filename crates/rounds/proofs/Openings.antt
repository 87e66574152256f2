-- How a round begins: nobody has heard of it, and its initiator opens it. Assumes nothing.
use mathlib.Core.Path.{refl, sym}
use mathlib.Core.Bool.{true≢false}
use mathlib.Core.List.{[]}
use Prim.Native.Nat.{ℕ, ◌<◌}
use Rattle.nodes.proofs.Inside.{none_in}
use Rattle.records.specs.declared.messages.Kind.{Kind}
use Rattle.records.specs.declared.messages.Kind.TheVariants.{Notify, Grant, Ack, Done}
use Rattle.records.specs.Records.{blank_of}
use Rattle.records.proofs.Marks.{blank_had}
use Rattle.waits.specs.Waits.{Waits, Lawful}
use Rattle.step.specs.Step.{seen_in, open_round}
use Rattle.step.proofs.Local.{seen_sound, blank_formed, open_grows, open_formed}
use Rattle.step.proofs.Taken.{open_begins}
use Rattle.rounds.specs.Course.{unheard}
use Rattle.rounds.proofs.Members.{sent_notify, sent_grant, sent_ack, sent_done}
use Rattle.rounds.proofs.Orders.{order_none}
use Rattle.rounds.proofs.Invariant.{Says, Invariant, Goes}
use Rattle.rounds.proofs.Sending.{Sending}

module _ (w : Waits) (lawful : Lawful w) (s : ℕ) (node : s < w.nodes) (round : ℕ) where
  blank_says : (k : Kind) (a b : ℕ) → Says w (unheard round).records a k b → ⊥
  blank_says Notify a b m = true≢false (sym ((sent_notify (seen_in w a) (blank_of round) b).0 m).0)
  blank_says Grant a b m = true≢false (sym ((sent_grant (seen_in w a) (blank_of round) b).0 m).0)
  blank_says Ack a b m = none_in 0 b refl ((sent_ack (seen_in w a) (blank_of round) b).0 m).0
  blank_says Done a b m = none_in 0 b refl ((sent_done (seen_in w a) (blank_of round) b).0 m).0

  pub unheard_invariant : Invariant w s round (unheard round).records
  unheard_invariant = record {
    lawful = lawful;
    initiator = node;
    at = λ i. refl;
    formed = λ i h. blank_formed (seen_in w i) (seen_sound w lawful i h) round;
    took = λ k a b h m. absurd (none_in _ a (blank_had k round) m);
    calls = [];
    called_order = order_none _ (λ i. refl);
    reach = λ i m. absurd (elim m [ ]);
    opener = λ i e. absurd (true≢false (sym e));
    frees = [];
    freed_order = order_none _ (λ i. refl);
    reduction = (tt, λ i m. absurd (elim m [ ]));
  }

  pub unheard_sending : Sending w round (unheard round)
  unheard_sending = record {
    said = λ m i. absurd (elim i [ ]);
    listed = λ a h k b m. absurd (blank_says k a b m);
    once = tt;
  }

  pub opening_goes : Goes w s round (unheard round).records s (open_round (seen_in w s) round).sends (open_round (seen_in w s) round).state
  opening_goes = record {
    node = node;
    at = (open_begins (seen_in w s) round).at;
    formed = open_formed (seen_in w s) (seen_sound w lawful s node) round;
    grows = open_grows (seen_in w s) (seen_sound w lawful s node) round;
    came = λ k a m. absurd (none_in _ a ((open_begins (seen_in w s) round).had k) m);
    call = λ e. absurd (true≢false (sym e));
    freed = λ e. absurd (true≢false (sym e));
    opener = λ e. refl;
  }
