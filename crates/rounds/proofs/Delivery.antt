-- A message that was sent is delivered: it is a repeat or it is taken, and what was had then is what was had before and it. Assumes
-- nothing.
use mathlib.Core.Path.{◌≡◌, refl, sym, ap, ◌∙◌, subst}
use mathlib.Core.Bool.{Bool, true, false, cond}
use mathlib.Core.Logic.{◌⊎◌, inl, inr, ⊎_elim, ◌↔◌}
use mathlib.Core.List.{Memᴰ}
use Prim.Native.Nat.{ℕ, ◌<◌}
use Rattle.lemmas.proofs.Tests.{true_or_false}
use Rattle.nodes.specs.Sets.{In, has}
use Rattle.nodes.proofs.Bit.{has_in}
use Rattle.records.specs.declared.messages.Kind.{Kind}
use Rattle.records.specs.declared.messages.Kind.TheVariants.{Notify, Grant, Ack, Done}
use Rattle.records.specs.Causes.{happened, by_itself}
use Rattle.records.specs.Rounds.{behind}
use Rattle.records.specs.Messages.{Letter}
use Rattle.records.specs.Records.{State, in_round, had_of, mark_of}
use Rattle.records.proofs.Higher.{not_behind_itself, in_round_stays}
use Rattle.records.proofs.Marks.{mark_round, mark_call, mark_freed, had_marked}
use Rattle.waits.specs.Waits.{Waits}
use Rattle.std.specs.Prelude.{Ok}
use Rattle.step.specs.declared.answers.Answer.TheVariants.{Repeat}
use Rattle.step.specs.Step.{Seen, Outcome, seen_in, nobody, still, stray, take}
use Rattle.step.specs.Sent.{Grows, Fresh, Sound}
use Rattle.step.proofs.Held.{adds_none}
use Rattle.step.proofs.Local.{seen_sound, take_grows, take_formed, arrives}
use Rattle.step.proofs.Taken.{Follows, take_follows}
use Rattle.rounds.specs.Course.{Stage, reply}
use Rattle.rounds.proofs.Invariant.{Says, Invariant, Goes}
use Rattle.rounds.proofs.Neighbours.{along_edge, not_stray}
use Rattle.rounds.proofs.Sending.{Sending}

nobody_grows : (o : Seen) (r : State) → Grows o r nobody r
nobody_grows o r Notify = adds_none _
nobody_grows o r Grant = adds_none _
nobody_grows o r Ack = adds_none _
nobody_grows o r Done = adds_none _

-- ---- what becomes of a message, and what was had then
abbrev pub Repeats : Waits → Stage → Letter → Type 0
Repeats w c m = (reply w c m ≡ still (c.records m.to) (Ok Repeat)) × In m.from (had_of m.kind (c.records m.to))

abbrev pub Takes : Waits → Stage → Letter → Type 0
Takes w c m = (reply w c m ≡ take (seen_in w m.to) (c.records m.to) m) × Fresh (seen_in w m.to) (c.records m.to) m

abbrev pub HadThen : State → Letter → State → Type 0
HadThen r m t = (k : Kind) (a : ℕ) → In a (had_of k t) ↔ (In a (had_of k r) ⊎ ((k ≡ m.kind) × (a ≡ m.from)))

module _ {w : Waits} {s round : ℕ} {c : Stage} (v : Invariant w s round c.records) (sending : Sending w round c) (m : Letter) (i : Memᴰ m c.sent) where
  abbrev o : Seen
  o = seen_in w m.to

  abbrev r : State
  r = c.records m.to

  said : (m.round ≡ round) × (m.from < w.nodes) × Says w c.records m.from m.kind m.to
  said = sending.said m i

  pub to_node : m.to < w.nodes
  to_node = (along_edge v m.from said.1 m.to m.kind said.2).0

  sound : Sound o
  sound = seen_sound w v.lawful m.to to_node

  -- ---- never old and never stray
  same_round : r.round ≡ m.round
  same_round = v.at m.to ∙ sym said.0

  stays : in_round m.round r ≡ r
  stays = in_round_stays m.round r same_round

  pub fits : stray o r m ≡ false
  fits = not_stray v m said.1 said.2

  arrived : (b : Bool) → has (had_of m.kind r) m.from ≡ b → reply w c m ≡ cond b (still r (Ok Repeat)) (take o r m)
  arrived b e = arrives o r m (ap (behind m.round) same_round ∙ not_behind_itself m.round) stays fits e

  pub repeats_or_takes : Repeats w c m ⊎ Takes w c m
  repeats_or_takes = elim (true_or_false (has (had_of m.kind r) m.from)) [
    | inl e ↦ inl (arrived true e, has_in _ _ e)
    | inr e ↦ inr (arrived false e, (fits, e))
  ]

  -- ---- a repeat
  repeat_goes : Goes w s round c.records m.to nobody r
  repeat_goes = record {
    node = to_node;
    at = v.at m.to;
    formed = v.formed m.to to_node;
    grows = nobody_grows o r;
    came = λ k a h. v.took k a m.to to_node h;
    call = λ e. refl;
    freed = λ e. refl;
    opener = v.opener m.to;
  }

  repeat_had : In m.from (had_of m.kind r) → HadThen r m r
  repeat_had h k a = (
    λ g. inl g,
    λ g. ⊎_elim
        (λ (x : In a (had_of k r)). x)
        (λ (x : (k ≡ m.kind) × (a ≡ m.from)). subst (λ (y : Kind). In a (had_of y r)) (sym x.0) (subst (λ (y : ℕ). In y (had_of m.kind r)) (sym x.1) h))
        g,
  )

  -- ---- a message that is taken
  follows : Follows (mark_of m.kind m.from r) (take o r m).state
  follows = take_follows o r m

  same_call : (mark_of m.kind m.from r).call ≡ r.call
  same_call = mark_call m.from r m.kind

  same_freed : (mark_of m.kind m.from r).freed ≡ r.freed
  same_freed = mark_freed m.from r m.kind

  take_had : HadThen r m (take o r m).state
  take_had k a = subst (λ (x : ℕ). In a x ↔ (In a (had_of k r) ⊎ ((k ≡ m.kind) × (a ≡ m.from)))) (sym (follows.had k)) (had_marked m.from r m.kind k a)

  take_came : (k : Kind) (a : ℕ) → In a (had_of k (take o r m).state) → (a < w.nodes) × Says w c.records a k m.to
  take_came k a h =
      ⊎_elim
      (λ (g : In a (had_of k r)). v.took k a m.to to_node g)
      (λ (g : (k ≡ m.kind) × (a ≡ m.from)). (
        subst (λ (x : ℕ). x < w.nodes) (sym g.1) said.1,
        subst (λ (x : Kind). Says w c.records a x m.to) (sym g.0) (subst (λ (x : ℕ). Says w c.records x m.kind m.to) (sym g.1) said.2),
      ))
      ((take_had k a).0 h)

  take_goes : Fresh o r m → Goes w s round c.records m.to (take o r m).sends (take o r m).state
  take_goes f = record {
    node = to_node;
    at = follows.round ∙ mark_round m.from r m.kind ∙ v.at m.to;
    formed = take_formed o sound r (v.formed m.to to_node) m f;
    grows = take_grows o sound r (v.formed m.to to_node) m f;
    came = take_came;
    call = λ e. follows.call (ap happened same_call ∙ e) ∙ same_call;
    freed = λ e. follows.freed (ap happened same_freed ∙ e) ∙ same_freed;
    opener = λ e. v.opener m.to (ap by_itself (sym same_call) ∙ follows.opener e);
  }

  -- ---- either
  pub delivery_goes : Goes w s round c.records m.to (reply w c m).sends (reply w c m).state
  delivery_goes = elim repeats_or_takes [
    | inl p ↦ subst (λ (x : Outcome). Goes w s round c.records m.to x.sends x.state) (sym p.0) repeat_goes
    | inr p ↦ subst (λ (x : Outcome). Goes w s round c.records m.to x.sends x.state) (sym p.0) (take_goes p.1)
  ]

  pub delivery_had : HadThen r m (reply w c m).state
  delivery_had = elim repeats_or_takes [
    | inl p ↦ subst (λ (x : Outcome). HadThen r m x.state) (sym p.0) (repeat_had p.1)
    | inr p ↦ subst (λ (x : Outcome). HadThen r m x.state) (sym p.0) take_had
  ]
