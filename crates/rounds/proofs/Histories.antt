-- Every history is told right, as Told has it: an opening keeps it so, and so does a message that arrives. Assumes nothing.
use mathlib.Core.Path.{◌≡◌, refl, sym, ap, ◌∙◌, subst}
use mathlib.Core.Logic.{inl, inr, ⊎_elim}
use mathlib.Core.List.Memᴰ
use mathlib.Core.List.{List, [], ◌∷◌, ◌++◌, Memᴰ}
use mathlib.Core.List.Memᴰ.{head as here}
use mathlib.Core.List.Memᴰ.{tail as there}
use Prim.Native.Nat.{ℕ, ◌≤◌, ◌<◌}
use native.Mathlib.Decide.{ℕ_discrete}
use native.Mathlib.Omega.{arith}
use lib.Dec.{eqb}
use borrow.Author.Tests.{ne_eqb}
use Rattle.lemmas.proofs.Those.{those_none}
use Rattle.records.specs.Messages.{Letter}
use Rattle.records.specs.Records.{State}
use Rattle.records.proofs.Higher.{opens_iff}
use Rattle.waits.specs.Waits.{Waits, Lawful}
use Rattle.step.specs.declared.answers.Verdict.{Verdict}
use Rattle.step.specs.Step.{seen_in, open_round}
use Rattle.rounds.specs.Course.{reply}
use Rattle.rounds.specs.Verdicts.{verdict_in}
use Rattle.rounds.specs.History.{Event, round_of, since, highest_in, History, Opened, of_round}
use Rattle.rounds.proofs.Put.{put_all}
use Rattle.rounds.proofs.Effects.{sent_by, Effect, open_effect, receive_effect}
use Rattle.rounds.proofs.Running.{Runs, other_runs, opening_runs, message_runs}
use Rattle.rounds.proofs.Saying.{said_own, said_else, said_nothing}
use Rattle.rounds.proofs.Told.{AsCourse, Told, same_message, opened_before, arrived_before, opened_now}

-- ---- a round is opened
module _ {w : Waits} {l : List Event} (told : Told w l) (i round : ℕ) (node : i < w.nodes) (above : highest_in l < round) where
  abbrev opening : Event
  opening = Event.opens i round

  begins : Effect round i ((since w l).records i) (open_round (seen_in w i) round)
  begins = open_effect w i round ((since w l).records i) (omega (arith, told.low i, above))

  not_yet : (e : Event) → Memᴰ e l → round_of e ≡ round → ⊥
  not_yet e h q = omega (arith, told.events_low e h, above)

  none_sent : of_round round (since w l).sent ≡ []
  none_sent = those_none (λ m. eqb m.round round) (since w l).sent (λ m h. ne_eqb m.round round (λ q. let o = told.sent_opened m h in not_yet (Event.opens o.0 m.round) o.1 q))

  own_course : AsCourse w (opening ∷ l) i round
  unfolding since
  own_course = record {
    delivered = [];
    runs = subst (λ (x : List Verdict). Runs w (since w (opening ∷ l)) x i round [])
        (sym (said_own w round opening l refl ∙ ap (λ (x : List Verdict). verdict_in (open_round (seen_in w i) round).answer ++ x) (said_nothing w round l not_yet)))
        (opening_runs w (since w l) i round none_sent (λ k. omega (arith, told.low k, above)) begins);
    heard = λ m at top h. absurd (not_yet (Event.arrives m) (arrived_before h) at);
  }

  older_course : (s r : ℕ) → Opened l s r → AsCourse w (opening ∷ l) s r
  unfolding since
  older_course s r o =
      let c = told.courses s r o in
      let d : round ≡ r → ⊥ = λ q. not_yet (Event.opens s r) o (sym q) in
      record {
        delivered = c.delivered;
        runs = subst (λ (x : List Verdict). Runs w (since w (opening ∷ l)) x s r c.delivered) (sym (said_else w r opening l d))
            (other_runs c.runs round i (open_round (seen_in w i) round) begins d);
        heard = λ m at top h. absurd (d (sym top));
      }

  same_opener : (s t r : ℕ) → Opened (opening ∷ l) s r → Opened (opening ∷ l) t r → s ≡ t
  same_opener s t r a b = elim (opened_now a) [
    | inl p ↦ elim (opened_now b) [
      | inl q ↦ p.0 ∙ sym q.0
      | inr q ↦ absurd (not_yet (Event.opens t r) q p.1)
    ]
    | inr p ↦ elim (opened_now b) [
      | inl q ↦ absurd (not_yet (Event.opens s r) p q.1)
      | inr q ↦ told.one_opener s t r p q
    ]
  ]

  pub opening_told : Told w (opening ∷ l)
  unfolding since
  opening_told = record {
    low = put_all (λ k x. x.round ≤ round) (since w l).records i (open_round (seen_in w i) round).state opened_low (λ k d. omega (arith, told.low k, above));
    events_low = events_low;
    sent_opened = λ m h. ⊎_elim
        (λ (g : Memᴰ m (since w l).sent). let o = told.sent_opened m g in (o.0, there o.1))
        (λ (g : Memᴰ m (sent_by i (open_round (seen_in w i) round))). (i, here (λ j. Event.opens i (begins.letters m g j))))
        (Memᴰ.append_cases (since w l).sent h);
    node = λ s r o. ⊎_elim (λ (p : (s ≡ i) × (r ≡ round)). subst (λ (x : ℕ). x < w.nodes) (sym p.0) node) (λ (p : Opened l s r). told.node s r p) (opened_now o);
    one_opener = same_opener;
    courses = λ s r o. ⊎_elim
        (λ (p : (s ≡ i) × (r ≡ round)). subst (λ (x : ℕ). AsCourse w (opening ∷ l) x r) (sym p.0) (subst (λ (x : ℕ). AsCourse w (opening ∷ l) i x) (sym p.1) own_course))
        (λ (p : Opened l s r). older_course s r p)
        (opened_now o);
  }
    where
      opened_low : (open_round (seen_in w i) round).state.round ≤ round
      opened_low = elim begins.state [
        | inl q ↦ (let h = ap (λ (x : State). x.round) q in omega (arith, told.low i, above))
        | inr p ↦ (let h = p.0 in omega arith)
      ]

      events_low : (e : Event) → Memᴰ e (opening ∷ l) → round_of e ≤ round
      events_low e (here q) = let h : round_of e ≡ round = ap round_of q in omega arith
      events_low e (there h) = omega (arith, told.events_low e h, above)

-- ---- a message arrives
module _ {w : Waits} (lawful : Lawful w) {l : List Event} (told : Told w l) (m : Letter) (i : Memᴰ m (since w l).sent) where
  abbrev arrival : Event
  arrival = Event.arrives m

  opener : (s : ℕ) × Opened l s m.round
  opener = told.sent_opened m i

  does : Effect m.round m.to ((since w l).records m.to) (reply w (since w l) m)
  does = receive_effect w ((since w l).records m.to) m

  round_low : m.round ≤ highest_in l
  round_low = told.events_low (Event.opens opener.0 m.round) opener.1

  other_course : (s r : ℕ) → Opened l s r → (m.round ≡ r → ⊥) → AsCourse w (arrival ∷ l) s r
  unfolding since
  other_course s r o d =
      let c = told.courses s r o in
      record {
        delivered = c.delivered;
        runs = subst (λ (x : List Verdict). Runs w (since w (arrival ∷ l)) x s r c.delivered) (sym (said_else w r arrival l d))
            (other_runs c.runs m.round m.to (reply w (since w l) m) does d);
        heard = λ x at top h. c.heard x at top (not_it x (λ q. d (ap (λ (y : Letter). y.round) (sym q) ∙ at)) h);
      }
    where
      not_it : (x : Letter) → (x ≡ m → ⊥) → Memᴰ (Event.arrives x) (arrival ∷ l) → Memᴰ (Event.arrives x) l
      not_it x n (here q) = absurd (n (same_message q))
      not_it x n (there h) = h

  its_course : (s r : ℕ) → Opened l s r → m.round ≡ r → AsCourse w (arrival ∷ l) s r
  unfolding since
  its_course s r o q =
      let c = told.courses s r o in
      let h = message_runs lawful (told.node s r o) c.runs m q i in
      record {
        delivered = h.0;
        runs = subst (λ (x : List Verdict). Runs w (since w (arrival ∷ l)) x s r h.0) (sym (said_own w r arrival l q)) h.1;
        heard = λ x at top a. all_heard h.0 h.2 h.3 (c.heard x at top) top a;
      }
    where
      all_heard : (k : List Letter) {x : Letter} {d : List Letter} → ((y : Letter) → Memᴰ y d → Memᴰ y k)
          → (((since w l).records m.to).round ≤ r → Memᴰ m k) → (Memᴰ (Event.arrives x) l → Memᴰ x d) → r ≡ highest_in l
          → Memᴰ (Event.arrives x) (arrival ∷ l) → Memᴰ x k
      all_heard k {x} keeps this older top (here e) =
          subst (λ (y : Letter). Memᴰ y k) (sym (same_message e)) (this (omega (arith, told.low m.to, top)))
      all_heard k {x} keeps this older top (there h) = keeps x (older h)

  pub arrival_told : Told w (arrival ∷ l)
  unfolding since
  arrival_told = record {
    low = put_all (λ k x. x.round ≤ highest_in l) (since w l).records m.to (reply w (since w l) m).state there_low (λ k d. told.low k);
    events_low = events_low;
    sent_opened = λ x h. ⊎_elim
        (λ (g : Memᴰ x (since w l).sent). let o = told.sent_opened x g in (o.0, there o.1))
        (λ (g : Memᴰ x (sent_by m.to (reply w (since w l) m))). (opener.0, there (subst (λ (r : ℕ). Opened l opener.0 r) (sym (does.letters x g)) opener.1)))
        (Memᴰ.append_cases (since w l).sent h);
    node = λ s r o. told.node s r (opened_before o);
    one_opener = λ s t r a b. told.one_opener s t r (opened_before a) (opened_before b);
    courses = λ s r o. elim (ℕ_discrete m.round r) [ yes q ↦ its_course s r (opened_before o) q | no d ↦ other_course s r (opened_before o) d ];
  }
    where
      there_low : (reply w (since w l) m).state.round ≤ highest_in l
      there_low = elim does.state [
        | inl q ↦ (let h = ap (λ (x : State). x.round) q in omega (arith, told.low m.to))
        | inr p ↦ (let h = p.0 in omega (arith, round_low))
      ]

      events_low : (e : Event) → Memᴰ e (arrival ∷ l) → round_of e ≤ highest_in l
      events_low e (here q) = let h : round_of e ≡ m.round = ap round_of q in omega (arith, round_low)
      events_low e (there h) = told.events_low e h

-- Theorem: all of it holds of every history.
pub history_told : (w : Waits) → Lawful w → (l : List Event) → History w l → Told w l
unfolding since
history_told w lawful [] h = record {
  low = λ i. omega arith;
  events_low = λ e m. absurd (elim m [ ]);
  sent_opened = λ m i. absurd (elim i [ ]);
  node = λ s r o. absurd (elim o [ ]);
  one_opener = λ s t r o p. absurd (elim o [ ]);
  courses = λ s r o. absurd (elim o [ ]);
}
history_told w lawful (Event.opens i round ∷ l) h = opening_told (history_told w lawful l h.2) i round h.0 ((opens_iff (highest_in l) round).0 h.1).0
history_told w lawful (Event.arrives m ∷ l) h = arrival_told lawful (history_told w lawful l h.1) m h.0
