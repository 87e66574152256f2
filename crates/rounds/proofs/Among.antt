-- In every history all that is named exists: nodes, and rounds from 1 to the last. Assumes nothing.
use mathlib.Core.Path.{◌≡◌, sym, subst}
use mathlib.Core.Logic.{inl, inr, ⊎_elim}
use mathlib.Core.List.Memᴰ
use mathlib.Core.List.{List, [], ◌∷◌, Memᴰ}
use Prim.Native.Nat.{ℕ, ◌≤◌, ◌<◌}
use native.Mathlib.Omega.{arith}
use Rattle.nodes.proofs.Operations.{in_below}
use Rattle.nodes.proofs.Inside.{inside_member}
use Rattle.records.specs.Rounds.{last_round}
use Rattle.records.specs.Messages.{Letter}
use Rattle.records.proofs.Higher.{opens_iff}
use Rattle.records.proofs.Among.{Among, blank_among}
use Rattle.waits.specs.Waits.{Waits, Lawful}
use Rattle.waits.proofs.In.{out_inside, ins_inside}
use Rattle.step.specs.Step.{Outcome, seen_in}
use Rattle.step.proofs.Letters.{letter_in}
use Rattle.step.proofs.Among.{ToAmong, nobody_among, open_among, receive_among}
use Rattle.rounds.specs.History.{Event, node_of, outcome, since, highest_in, History, Opened}
use Rattle.rounds.proofs.Put.{put_all}
use Rattle.rounds.proofs.Effects.{sent_by}
use Rattle.rounds.proofs.Told.{Told, opened_now, opened_before}
use Rattle.rounds.proofs.Histories.{history_told}

-- every record names nodes alone, and every message goes from node to node
pub record Named (w : Waits) (l : List Event) : Type 0 where
  pub records : (i : ℕ) → Among w.nodes ((since w l).records i)
  pub letters : (m : Letter) → Memᴰ m (since w l).sent → (m.from < w.nodes) × (m.to < w.nodes)

-- ---- one event more
module _ {w : Waits} {l : List Event} (named : Named w l) (e : Event) (node : node_of e < w.nodes) where
  abbrev out : Outcome
  out = outcome w (since w l) e

  new_letters : ToAmong w.nodes out.sends → (m : Letter) → Memᴰ m (sent_by (node_of e) out) → (m.from < w.nodes) × (m.to < w.nodes)
  new_letters sends m i =
      let p = (letter_in (node_of e) out.state.round out.sends m).0 i in
      (subst (λ (x : ℕ). x < w.nodes) (sym p.0) node, (in_below w.nodes m.to).0 (inside_member _ _ m.to (sends m.kind) p.2))

  next_named : Among w.nodes out.state → ToAmong w.nodes out.sends → Named w (e ∷ l)
  unfolding since
  next_named names sends = record {
    records = put_all (λ i x. Among w.nodes x) (since w l).records (node_of e) out.state names (λ i d. named.records i);
    letters = λ m i. ⊎_elim (named.letters m) (new_letters sends m) (Memᴰ.append_cases (since w l).sent i);
  }

module _ (w : Waits) (lawful : Lawful w) where
  -- Theorem: all that is named is among the nodes.
  pub history_named : (l : List Event) → History w l → Named w l
  unfolding since
  history_named [] h = record { records = λ i. blank_among w.nodes 0; letters = λ m i. absurd (elim i [ ]) }
  history_named (Event.opens i round ∷ l) h =
      let begun = open_among w.nodes (seen_in w i) (out_inside w lawful i h.0) (ins_inside w i) round in
      next_named (history_named l h.2) (Event.opens i round) h.0 begun.names begun.sends
  history_named (Event.arrives m ∷ l) h =
      let named = history_named l h.1 in
      let (from, to) = named.letters m h.0 in
      let r = (since w l).records m.to in
      elim (receive_among w.nodes (seen_in w m.to) (out_inside w lawful m.to to) (ins_inside w m.to) r m (named.records m.to) from) [
        | inl t ↦ next_named named (Event.arrives m) to t.names t.sends
        | inr s ↦ next_named named (Event.arrives m) to
            (subst (λ (x : Outcome). Among w.nodes x.state) (sym s.1) (named.records m.to))
            (subst (λ (x : Outcome). ToAmong w.nodes x.sends) (sym s.1) (nobody_among w.nodes))
      ]

  -- ---- rounds
  opened_range : (l : List Event) → History w l → (s round : ℕ) → Opened l s round → (0 < round) × (round ≤ last_round)
  opened_range [] h s round o = absurd (elim o [ ])
  opened_range (Event.opens i r ∷ l) h s round o =
      let p = (opens_iff (highest_in l) r).0 h.1 in
      let ih = opened_range l h.2 s round in
      elim (opened_now o) [
        | inl q ↦ let e : round ≡ r = q.1 in (omega (arith, p.0), omega (arith, p.1))
        | inr q ↦ ih q
      ]
  opened_range (Event.arrives m ∷ l) h s round o = opened_range l h.1 s round (opened_before o)

  highest_last : (l : List Event) → History w l → highest_in l ≤ last_round
  highest_last [] h = omega arith
  highest_last (Event.opens i r ∷ l) h = ((opens_iff (highest_in l) r).0 h.1).1
  highest_last (Event.arrives m ∷ l) h = highest_last l h.1

  module _ (l : List Event) (h : History w l) where
    told : Told w l
    told = history_told w lawful l h

    -- Theorems: a message is of a round that there is, and no record is in one past the last.
    pub sent_range : (m : Letter) → Memᴰ m (since w l).sent → (0 < m.round) × (m.round ≤ last_round)
    sent_range m i = let o = told.sent_opened m i in opened_range l h o.0 m.round o.1

    pub records_low : (i : ℕ) → ((since w l).records i).round ≤ highest_in l
    records_low = told.low

    pub records_last : (i : ℕ) → ((since w l).records i).round ≤ last_round
    records_last i = omega (arith, told.low i, highest_last l h)
