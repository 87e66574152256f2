-- What a bench that stands for a history shows: how many messages a round has sent, and who is called, free and held in the highest
-- round. Assumes nothing.
use mathlib.Core.Path.{◌≡◌, ap, ap₂, ◌∙◌}
use mathlib.Core.Bool.{Bool}
use mathlib.Core.List.{List}
use Prim.Native.Nat.{ℕ}
use lib.Dec.{eqb}
use lib.ListN.{length}
use Rattle.lemmas.specs.Lists.{those}
use Rattle.lemmas.proofs.Those.{as_many}
use Rattle.nodes.specs.Sets.{minus, members, gather}
use Rattle.nodes.proofs.Gather.{gather_same}
use Rattle.records.specs.Messages.{Letter}
use Rattle.records.specs.Records.{State, called, free, in_round}
use Rattle.waits.specs.Rows.{waits_of}
use Rattle.lent.specs.Kept.{state_at}
use Rattle.lent.specs.Coded.{message_of, number_of}
use Rattle.bench.specs.Bench.{Bench}
use Rattle.rounds.specs.Ends.{called_in, free_in, held_in}
use Rattle.rounds.specs.History.{Event, since, highest_in, of_round, standing}
use Rattle.demands.specs.Turns.{messages_of, called_on, free_on, held_on}
use Rattle.demands.proofs.Stands.{Stands, read_back}

module _ {n : ℕ} {rows : List ℕ} {b : Bench} {l : List Event} (st : Stands n rows b l) where
  -- Theorem: the messages of a round are as many as the rules'.
  pub round_count : (round : ℕ) → length (messages_of round b) ≡ length (of_round round (since (waits_of n rows) l).sent)
  unfolding messages_of
  round_count round =
      ap (λ (x : List ℕ). length (those (λ y. eqb (message_of y).round.0 round) x)) st.messages
      ∙ as_many (λ y. eqb (message_of y).round.0 round) (λ m. eqb m.round round) number_of (since (waits_of n rows) l).sent
      (λ m i. ap (λ (x : Letter). eqb x.round round) (read_back st m i))

  -- Theorems: the nodes called in the highest round, those free and those held are the rules' own.
  shown : (p : State → Bool)
      → gather (λ i. p (in_round b.highest (state_at b.records i))) n ≡ gather (λ i. p (in_round (highest_in l) ((since (waits_of n rows) l).records i))) n
  shown p = gather_same _ _ n (λ i h. ap₂ (λ (round : ℕ) (s : State). p (in_round round s)) st.highest (st.records i h))

  pub called_same : called_on n b ≡ called_in (waits_of n rows) (standing (highest_in l) (since (waits_of n rows) l))
  unfolding called_on called_in
  called_same = shown called

  pub free_same : free_on n b ≡ free_in (waits_of n rows) (standing (highest_in l) (since (waits_of n rows) l))
  unfolding free_on free_in
  free_same = shown free

  pub held_same : held_on n b ≡ held_in (waits_of n rows) (standing (highest_in l) (since (waits_of n rows) l))
  unfolding held_on held_in
  held_same = ap₂ (λ (c f : ℕ). members (minus c f)) called_same free_same
