-- A round among others is a course of its own: what an event of another round, its opening and a message of it do to that. Assumes
-- nothing.
use mathlib.Core.Path.{◌≡◌, refl, sym, ap, ◌∙◌, subst}
use mathlib.Core.Bool.{Bool, false, cond}
use mathlib.Core.Logic.{inl, inr}
use mathlib.Core.List.Memᴰ
use mathlib.Core.List.{List, [], ◌∷◌, ◌++◌, append-nil, Memᴰ}
use mathlib.Core.List.Memᴰ.{head as here}
use mathlib.Core.List.Memᴰ.{tail as there}
use Prim.Native.Nat.{ℕ, ◌≤◌, ◌<◌}
use native.Mathlib.Omega.{arith}
use lib.Dec.{eqb}
use borrow.Author.Tests.{eq-eqb, ne_eqb}
use Rattle.lemmas.proofs.Those.{those_append, those_all, those_none, those_in}
use Rattle.lemmas.proofs.Tests.{true_or_false}
use Rattle.nodes.specs.Sets.{In, has}
use Rattle.nodes.proofs.Bit.{in_has}
use Rattle.records.specs.Messages.{Letter}
use Rattle.records.specs.Rounds.{behind}
use Rattle.records.specs.Records.{State, in_round, had_of}
use Rattle.records.proofs.Higher.{behind_iff, not_behind, in_round_stays, in_round_blank}
use Rattle.records.proofs.Marks.{mark_round}
use Rattle.waits.specs.Waits.{Waits, Lawful}
use Rattle.std.specs.Prelude.{Ok}
use Rattle.step.specs.declared.answers.Verdict.{Verdict}
use Rattle.step.specs.declared.answers.Answer.{Answer}
use Rattle.step.specs.declared.answers.Answer.TheVariants.{Old, Repeat}
use Rattle.step.specs.Step.{Seen, Outcome, seen_in, still, open_round, take}
use Rattle.step.specs.Letters.{letter}
use Rattle.step.proofs.Letters.{letter_in}
use Rattle.step.proofs.Local.{old, arrives}
use Rattle.step.proofs.Taken.{take_follows, open_begins}
use Rattle.rounds.specs.Course.{Stage, joined, unheard, reply, after, Course}
use Rattle.rounds.specs.Verdicts.{verdict_in, verdicts}
use Rattle.rounds.specs.History.{of_round}
use Rattle.rounds.proofs.Put.{put_same, put_other, put_all}
use Rattle.rounds.proofs.Delivery.{to_node, fits, repeats_or_takes}
use Rattle.rounds.proofs.Courses.{Good, course_good}
use Rattle.rounds.proofs.Effects.{sent_by, still_joined, Effect}

-- A round that s opened, in a state of all rounds: its messages are those of a course of it, what was said in it is what that course
-- said, and every record that hasn't gone past it stands in it as the course left it.
pub record Runs (w : Waits) (c : Stage) (said : List Verdict) (s round : ℕ) (k : List Letter) : Type 0 where
  pub course : Course w s round k
  pub sent : of_round round c.sent ≡ (after w s round k).sent
  pub said_so : said ≡ verdicts w s round k
  pub kept : (i : ℕ) → (c.records i).round ≤ round → in_round round (c.records i) ≡ (after w s round k).records i

-- ---- messages that join those sent
module _ (round : ℕ) (sent new : List Letter) where
  others_join : (other : ℕ) → (other ≡ round → ⊥) → ((m : Letter) → Memᴰ m new → m.round ≡ other) → of_round round (sent ++ new) ≡ of_round round sent
  others_join other d h =
      those_append (λ m. eqb m.round round) sent new
      ∙ ap (λ (x : List Letter). of_round round sent ++ x) (those_none (λ m. eqb m.round round) new (λ m i. ne_eqb m.round round (λ e. d (sym (h m i) ∙ e))))
      ∙ append-nil (of_round round sent)

  own_join : ((m : Letter) → Memᴰ m new → m.round ≡ round) → of_round round (sent ++ new) ≡ of_round round sent ++ new
  own_join h =
      those_append (λ m. eqb m.round round) sent new
      ∙ ap (λ (x : List Letter). of_round round sent ++ x) (those_all (λ m. eqb m.round round) new (λ m i. eq-eqb m.round round (h m i)))

-- ---- an event of another round
pub other_runs : {w : Waits} {c : Stage} {said : List Verdict} {s round : ℕ} {k : List Letter} → Runs w c said s round k
    → (other i : ℕ) (out : Outcome) → Effect other i (c.records i) out → (other ≡ round → ⊥) → Runs w (joined c i out) said s round k
other_runs {w} {c} {said} {s} {round} {k} runs other i out effect d = record {
  course = runs.course;
  sent = others_join round c.sent (sent_by i out) other d effect.letters ∙ runs.sent;
  said_so = runs.said_so;
  kept = put_all (λ j x. x.round ≤ round → in_round round x ≡ (after w s round k).records j) c.records i out.state there_kept (λ j n. runs.kept j);
}
  where
    there_kept : out.state.round ≤ round → in_round round out.state ≡ (after w s round k).records i
    there_kept h = elim effect.state [
      | inl q ↦ ap (in_round round) q ∙ runs.kept i (subst (λ (x : State). x.round ≤ round) q h)
      | inr p ↦
          let q : out.state.round ≡ other = p.0 in
          let l : (c.records i).round ≤ other = p.1 in
          in_round_blank round out.state (omega (arith, d))
          ∙ sym (in_round_blank round (c.records i) (omega (arith, d)))
          ∙ runs.kept i (omega arith)
    ]

-- ---- its opening, above every record's round
module _ (w : Waits) (c : Stage) (i round : ℕ) where
  abbrev begun : Outcome
  begun = open_round (seen_in w i) round

  pub opening_runs : of_round round c.sent ≡ [] → ((k : ℕ) → (c.records k).round < round) → Effect round i (c.records i) begun
      → Runs w (joined c i begun) (verdict_in begun.answer ++ []) i round []
  unfolding after verdicts
  opening_runs none low effect = record {
    course = tt;
    sent = own_join round c.sent (sent_by i begun) effect.letters ∙ ap (λ (x : List Letter). x ++ sent_by i begun) none;
    said_so = append-nil (verdict_in begun.answer);
    kept = put_all (λ k x. x.round ≤ round → in_round round x ≡ (joined (unheard round) i begun).records k) c.records i begun.state
        (λ h. in_round_stays round begun.state (open_begins (seen_in w i) round).at ∙ sym (put_same (unheard round).records i begun.state))
        (λ k d h. in_round_blank round (c.records k) (low k) ∙ sym (put_other (unheard round).records i begun.state k d));
  }

-- ---- a message of it
module _ {w : Waits} (lawful : Lawful w) {c : Stage} {said : List Verdict} {s round : ℕ} (node : s < w.nodes) {k : List Letter} (runs : Runs w c said s round k)
    (m : Letter) (at : m.round ≡ round) (i : Memᴰ m c.sent) where
  abbrev o : Seen
  o = seen_in w m.to

  abbrev r : State
  r = c.records m.to

  -- the course so far
  abbrev d : Stage
  d = after w s round k

  good : Good w s round d k
  good = course_good w lawful s node round k runs.course

  in_course : Memᴰ m d.sent
  in_course = subst (λ (x : List Letter). Memᴰ m x) runs.sent (those_in (λ x. eqb x.round round) c.sent m i (eq-eqb m.round round at))

  -- the state, and what was said, then
  abbrev Then : Outcome → List Letter → Type 0
  Then out l = Runs w (joined c m.to out) (verdict_in out.answer ++ said) s round l

  -- nothing changes
  stays_runs : (a : Answer) → verdict_in (Ok a) ≡ [] → Then (still r (Ok a)) k
  stays_runs a e =
      subst (λ (x : Stage). Runs w x (verdict_in (Ok a) ++ said) s round k) (sym (still_joined c m.to (Ok a)))
      (subst (λ (x : List Verdict). Runs w c (x ++ said) s round k) (sym e) runs)

  -- the node hasn't gone past the round, and its record in it is the course's
  module _ (now : behind m.round r.round ≡ false) where
    low : r.round ≤ round
    low = omega (arith, not_behind m.round r.round now)

    same : in_round m.round r ≡ d.records m.to
    same = ap (λ (x : ℕ). in_round x r) at ∙ runs.kept m.to low

    arrived : {b : Bool} → has (had_of m.kind (d.records m.to)) m.from ≡ b → reply w c m ≡ cond b (still r (Ok Repeat)) (take o (d.records m.to) m)
    arrived e = arrives o r m now same (fits good.invariant good.sending m in_course) e

    before : In m.from (had_of m.kind (d.records m.to)) → Memᴰ m k
    before h = Memᴰ.cast (ap (letter m.kind m.from m.to) at)
        (good.having.delivered m.to (to_node good.invariant good.sending m in_course) m.kind m.from h)

    -- it is taken
    abbrev out : Outcome
    out = take o (d.records m.to) m

    in_it : out.state.round ≡ round
    in_it = (take_follows o (d.records m.to) m).round ∙ mark_round m.from (d.records m.to) m.kind ∙ good.invariant.at m.to

    taken_runs : reply w d m ≡ take o (d.records m.to) m → Then (take o (d.records m.to) m) (m ∷ k)
    unfolding after verdicts
    taken_runs q = record {
      course = (in_course, runs.course);
      sent = own_join round c.sent (sent_by m.to out) (λ x h. ((letter_in m.to out.state.round out.sends x).0 h).1 ∙ in_it)
          ∙ ap (λ (x : List Letter). x ++ sent_by m.to out) runs.sent
          ∙ ap (λ (x : Outcome). d.sent ++ sent_by m.to x) (sym q);
      said_so = ap (λ (x : List Verdict). verdict_in out.answer ++ x) runs.said_so ∙ ap (λ (x : Outcome). verdict_in x.answer ++ verdicts w s round k) (sym q);
      kept = put_all (λ j x. x.round ≤ round → in_round round x ≡ (joined d m.to (reply w d m)).records j) c.records m.to out.state
          (λ h. in_round_stays round out.state in_it ∙ ap (λ (x : Outcome). x.state) (sym q) ∙ sym (put_same d.records m.to (reply w d m).state))
          (λ j n h. runs.kept j h ∙ sym (put_other d.records m.to (reply w d m).state j n));
    }

  -- Then the round is a course again, of all that it had; and the message is in it, unless its receiver has gone past the round.
  abbrev Heard : Type 0
  Heard = (l : List Letter) × Then (reply w c m) l × ((x : Letter) → Memᴰ x k → Memᴰ x l) × (r.round ≤ round → Memᴰ m l)

  now_heard : behind m.round r.round ≡ false → Heard
  now_heard now = elim (repeats_or_takes good.invariant good.sending m in_course) [
    | inl p ↦ (k, subst (λ (x : Outcome). Then x k) (sym (arrived now (in_has _ _ p.1))) (stays_runs Repeat refl), λ x h. h, λ h. before now p.1)
    | inr p ↦ (m ∷ k, subst (λ (x : Outcome). Then x (m ∷ k)) (sym (arrived now p.1.1)) (taken_runs now p.0), λ x h. there h, λ h. here refl)
  ]

  pub message_runs : Heard
  message_runs = elim (true_or_false (behind m.round r.round)) [
    | inl e ↦ (
      k,
      subst (λ (x : Outcome). Then x k) (sym (old o r m e)) (stays_runs Old refl),
      λ x h. h,
      λ h. absurd (let g = (behind_iff m.round r.round).0 e in omega arith),
    )
    | inr e ↦ now_heard e
  ]
