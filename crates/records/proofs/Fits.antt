-- The nodes that called and freed have places in a set. Assumes nothing.
use mathlib.Core.Path.{◌≡◌}
use mathlib.Core.Bool.{false}
use Prim.Native.Nat.{ℕ, ◌≤◌}
use native.Mathlib.Omega.{arith}
use borrow.Author.Tests.{leb-false}
use Rattle.lemmas.proofs.Cases.{both_branches}
use Rattle.nodes.specs.Sets.{no_node}
use Rattle.nodes.specs.Words.{places}
use Rattle.records.specs.declared.causes.Why.{Why}
use Rattle.records.specs.declared.causes.Why.TheVariants.{Not, Itself, By}
use Rattle.records.specs.declared.messages.Kind.{Kind}
use Rattle.records.specs.declared.messages.Kind.TheVariants.{Notify, Grant, Ack, Done}
use Rattle.records.specs.Causes.{Fits, strange_why}
use Rattle.records.specs.Rounds.{ahead}
use Rattle.records.specs.Records.{State, Fitting, in_round, mark_of, strange_record}
use Rattle.records.proofs.Among.{record_among}

pub mark_fits : (kind : Kind) (from : ℕ) (s : State) → Fitting s → Fitting (mark_of kind from s)
mark_fits Notify from s fit = fit
mark_fits Grant from s fit = fit
mark_fits Ack from s fit = fit
mark_fits Done from s fit = fit

pub round_fits : (round : ℕ) (s : State) → Fitting s → Fitting (in_round round s)
unfolding in_round
round_fits round s fit = both_branches Fitting (ahead round s.round) (tt, tt) fit

pub same_fits : {s t : State} → s ≡ t → Fitting t → Fitting s
same_fits e fit = rw e fit

-- a cause that isn't strange among so few nodes
why_fits : (n : ℕ) (why : Why) → n ≤ places → strange_why n why ≡ false → Fits why
unfolding no_node
why_fits n Not h e = tt
why_fits n Itself h e = tt
why_fits n (By k) h e = let p = leb-false n k.0 e in omega arith

pub record_fits : (n : ℕ) (s : State) → n ≤ places → strange_record n s ≡ false → Fitting s
record_fits n s h e = let w = (record_among n s e).1 in (why_fits n s.call h w.call, why_fits n s.freed h w.freed)
