-- Everything that a record names is among n nodes: what 13 asks of it besides its round. Assumes nothing.
use mathlib.Core.Path.{◌≡◌, refl, ap, ap₂}
use mathlib.Core.Bool.{false, not, ◌||◌}
use Prim.Native.Nat.{ℕ, ◌≤◌, ◌<◌}
use lib.Dec.{ltb}
use borrow.Author.Tests.{ltb-false, le-ltb, lt-leb, not-false, leb-false}
use Rattle.lemmas.proofs.Cases.{both_branches}
use Rattle.lemmas.proofs.Tests.{or_left_false, or_right_false}
use Rattle.nodes.specs.Sets.{Inside, no_node, union, with, below}
use Rattle.nodes.proofs.Operations.{in_below}
use Rattle.nodes.proofs.Inside.{inside_of, of_inside, inside_union, inside_trans, union_left, union_right, single_below, with_inside, empty_inside}
use Rattle.records.specs.declared.causes.Why.{Why}
use Rattle.records.specs.declared.causes.Why.TheVariants.{Not, Itself, By}
use Rattle.records.specs.declared.messages.Kind.{Kind}
use Rattle.records.specs.declared.messages.Kind.TheVariants.{Notify, Grant, Ack, Done}
use Rattle.records.specs.Causes.{sender_of, strange_why}
use Rattle.records.specs.Rounds.{last_round, ahead}
use Rattle.records.specs.Records.{State, blank_of, in_round, with_call, with_freed, mark_of, strange_set, strange_record}

pub record Among (n : ℕ) (s : State) : Type 0 where
  pub call : strange_why n s.call ≡ false
  pub freed : strange_why n s.freed ≡ false
  pub notify : Inside s.notify (below n)
  pub grant : Inside s.grant (below n)
  pub ack : Inside s.ack (below n)
  pub done : Inside s.done (below n)

-- ---- 13, and back
module _ (n : ℕ) (s : State) where
  abbrev all : ℕ
  all = union s.notify (union s.grant (union s.ack s.done))

  pub record_among : strange_record n s ≡ false → (s.round ≤ last_round) × Among n s
  unfolding strange_record strange_set
  record_among e =
      let f = or_right_false (ltb last_round s.round) _ e in
      let g = or_right_false (strange_why n s.call) _ f in
      let i : Inside all (below n) = inside_of all (below n) (not-false _ (or_right_false (strange_why n s.freed) _ g)) in
      let i₁ = inside_trans _ _ _ (union_right s.notify _) i in
      let i₂ = inside_trans _ _ _ (union_right s.grant _) i₁ in (
        ltb-false last_round s.round (or_left_false _ _ e),
        record {
          call = or_left_false _ _ f;
          freed = or_left_false _ _ g;
          notify = inside_trans _ _ _ (union_left s.notify _) i;
          grant = inside_trans _ _ _ (union_left s.grant _) i₁;
          ack = inside_trans _ _ _ (union_left s.ack _) i₂;
          done = inside_trans _ _ _ (union_right s.ack _) i₂;
        },
      )

  pub among_record : s.round ≤ last_round → Among n s → strange_record n s ≡ false
  unfolding strange_record strange_set
  among_record h w =
      let i : Inside all (below n) =
      inside_union _ _ _ w.notify (inside_union _ _ _ w.grant (inside_union _ _ _ w.ack w.done)) in
      ap₂ ◌||◌ (le-ltb last_round s.round h) (ap₂ ◌||◌ w.call (ap₂ ◌||◌ w.freed (ap not (of_inside all (below n) i))))

-- ---- what is named
pub by_among : (n k : ℕ) → k < n → strange_why n (By (record { 0 = k })) ≡ false
unfolding no_node
by_among n k h = lt-leb n k h

pub sender_among : (n : ℕ) (why : Why) → strange_why n why ≡ false → Inside (sender_of why) (below n)
unfolding no_node
sender_among n Not e = empty_inside (below n)
sender_among n Itself e = empty_inside (below n)
sender_among n (By k) e = single_below n k.0 (leb-false n k.0 e)

-- ---- records made from others
pub blank_among : (n round : ℕ) → Among n (blank_of round)
blank_among n round = record {
  call = refl;
  freed = refl;
  notify = empty_inside (below n);
  grant = empty_inside (below n);
  ack = empty_inside (below n);
  done = empty_inside (below n);
}

pub round_among : (n round : ℕ) (s : State) → Among n s → Among n (in_round round s)
unfolding in_round
round_among n round s w = both_branches (Among n) (ahead round s.round) (blank_among n round) w

module _ (n : ℕ) (s : State) (w : Among n s) where
  pub call_among : (by : Why) → strange_why n by ≡ false → Among n (with_call by s)
  call_among by e = record { call = e; freed = w.freed; notify = w.notify; grant = w.grant; ack = w.ack; done = w.done }

  pub freed_among : (by : Why) → strange_why n by ≡ false → Among n (with_freed by s)
  freed_among by e = record { call = w.call; freed = e; notify = w.notify; grant = w.grant; ack = w.ack; done = w.done }

  module _ (from : ℕ) (h : from < n) where
    one_more : (had : ℕ) → Inside had (below n) → Inside (with had from) (below n)
    one_more had i = with_inside had from (below n) i ((in_below n from).1 h)

    pub mark_among : (kind : Kind) → Among n (mark_of kind from s)
    mark_among Notify = record { call = w.call; freed = w.freed; notify = one_more _ w.notify; grant = w.grant; ack = w.ack; done = w.done }
    mark_among Grant = record { call = w.call; freed = w.freed; notify = w.notify; grant = one_more _ w.grant; ack = w.ack; done = w.done }
    mark_among Ack = record { call = w.call; freed = w.freed; notify = w.notify; grant = w.grant; ack = one_more _ w.ack; done = w.done }
    mark_among Done = record { call = w.call; freed = w.freed; notify = w.notify; grant = w.grant; ack = w.ack; done = one_more _ w.done }
