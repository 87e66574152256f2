-- All controllers together do what the rules say: in every history each record and each message is one that a controller accepts. So
-- what is shown of histories is shown of them. Assumes nothing.
use mathlib.Core.Path.{◌≡◌, refl, sym, ap, ap₂, ◌∙◌, subst}
use mathlib.Core.Bool.{Bool, true, false, cond, not, ◌||◌}
use mathlib.Core.Logic.{◌⊎◌, inl, inr}
use mathlib.Core.List.Memᴰ
use mathlib.Core.List.{List, [], ◌∷◌, Memᴰ}
use mathlib.Core.List.Memᴰ.{head as here}
use mathlib.Core.List.Memᴰ.{tail as there}
use Prim.Native.Nat.{ℕ, ◌≤◌, ◌<◌}
use native.Mathlib.Omega.{arith}
use lib.Dec.{eqb}
use lib.ListN.{length}
use borrow.Author.Tests.{lt-leb, eq-eqb, ne_eqb}
use Rattle.std.specs.Prelude.{Result, Ok}
use Rattle.waits.specs.declared.refusals.Refusal.{Refusal}
use Rattle.lemmas.proofs.Tests.{true_or_false, or_intro_left}
use Rattle.nodes.specs.Sets.{no_node}
use Rattle.nodes.specs.Words.{num}
use Rattle.records.specs.declared.messages.Kind.{Kind}
use Rattle.records.specs.declared.messages.Kind.TheVariants.{Notify, Grant, Ack, Done}
use Rattle.records.specs.Rounds.{last_round, behind}
use Rattle.records.specs.Messages.{Letter, kinds, kind_of, kind_number, letter_of, strange_message}
use Rattle.records.specs.Records.{strange_record}
use Rattle.records.proofs.Higher.{range_round, opens_iff}
use Rattle.records.proofs.Among.{among_record}
use Rattle.waits.specs.Waits.{Waits, Lawful}
use Rattle.waits.specs.Rows.{row_at, row_numbers, waits_of}
use Rattle.waits.specs.Numbers.{check_of}
use Rattle.waits.proofs.Lawful.{accepted_lawful}
use Rattle.step.specs.declared.answers.Verdict.{Verdict}
use Rattle.step.specs.declared.answers.Answer.{Answer}
use Rattle.step.specs.declared.answers.Answer.TheVariants.{Old, Stray}
use Rattle.step.specs.Step.{seen_in, still, open_round, stray, receive}
use Rattle.step.proofs.Local.{old, arrives}
use Rattle.lent.proofs.Letters.{kind_number_le}
use Rattle.rounds.specs.Course.{Stage, joined}
use Rattle.rounds.specs.Verdicts.{verdict_in, Right}
use Rattle.rounds.specs.History.{Event, node_of, round_of, outcome, since, highest_in, History, Opened, answers_of, verdicts_among, verdicts_of}
use Rattle.rounds.specs.ManyRounds.{ManyRounds}
use Rattle.rounds.proofs.Among.{Named, history_named, sent_range, records_low, records_last}
use Rattle.rounds.proofs.ManyRounds.{many_rounds}
use Rattle.demands.specs.Turns.{accepted}
use Rattle.demands.specs.Alone.{OwnRow}
use Rattle.demands.specs.Controllers.{message, opens, delivers, call, together, answers, MayHappen, Together, AllControllers}
use Rattle.demands.proofs.Heard.{outcome_accepted}
use Rattle.demands.proofs.Controller.{opens as opens_alone, takes}

-- a verdict in an answer is among those of the answer's round
among_verdicts : (l : List (Event × Result Answer Refusal)) (x : Event × Result Answer Refusal) → Memᴰ x l → (v : Verdict) → Memᴰ v (verdict_in x.1) → Memᴰ v (verdicts_among (round_of x.0) l)
among_verdicts (y ∷ l) x (here q) v i =
    Memᴰ.append_left _ (subst (λ (z : Event × Result Answer Refusal). Memᴰ v (cond (eqb (round_of z.0) (round_of x.0)) (verdict_in z.1) [])) q
    (subst (λ (t : Bool). Memᴰ v (cond t (verdict_in x.1) [])) (sym (eq-eqb (round_of x.0) (round_of x.0) refl)) i))
among_verdicts (y ∷ l) x (there h) v i = Memᴰ.append_right (cond (eqb (round_of y.0) (round_of x.0)) (verdict_in y.1) []) (among_verdicts l x h v i)
among_verdicts [] x x4 v i = elim x4 [ ]

-- ---- a message and its numbers
kind_back : (k : Kind) → kind_of (kind_number k) ≡ k
kind_back Notify = refl
kind_back Grant = refl
kind_back Ack = refl
kind_back Done = refl

letter_handed : (m : Letter) → letter_of (message m) ≡ m
letter_handed m = λ j. record { kind = kind_back m.kind j; from = m.from; to = m.to; round = m.round }

own_row : (n : ℕ) (rows : List ℕ) (i : ℕ) → i < n → OwnRow n rows i (row_numbers (row_at rows i))
unfolding row_at row_numbers num
own_row n rows i h = (h, refl, refl)

module _ (n : ℕ) (rows : List ℕ) (ok : check_of n rows ≡ Ok tt) where
  abbrev w : Waits
  w = waits_of n rows

  lawful : Lawful w
  lawful = accepted_lawful n rows ok

  -- ---- in a history nothing is strange to a controller
  module _ (l : List Event) (h : History w l) where
    abbrev now : Stage
    now = since w l

    named : Named w l
    named = history_named w lawful l h

    record_fine : (i : ℕ) → strange_record n (now.records i) ≡ false
    record_fine i = among_record n (now.records i) (records_last w lawful l h i) (named.records i)

    message_fine : (m : Letter) → Memᴰ m now.sent → strange_message n (message m) ≡ false
    unfolding strange_message no_node
    message_fine m i =
        let (from, to) = named.letters m i in
        let (first, last) = sent_range w lawful l h m i in
        ap₂ ◌||◌ (lt-leb kinds (kind_number m.kind) (omega (arith, kind_number_le m.kind)))
        (ap₂ ◌||◌ (lt-leb n m.from from) (ap₂ ◌||◌ (lt-leb n m.to to) (range_round m.round (omega arith) last)))

    delivered : (m : Letter) → Memᴰ m now.sent → (i : ℕ) → i < n → delivers n rows i (now.records i) m ≡ receive (seen_in w i) (now.records i) m
    delivered m sent i node =
        takes n rows ok i (row_numbers (row_at rows i)) (own_row n rows i node) (now.records i) (record_fine i) (message m) (message_fine m sent)
        ∙ ap (receive (seen_in w i) (now.records i)) (letter_handed m)

    opened : (i : ℕ) → i < n → (round : ℕ) → highest_in l < round → round ≤ last_round → opens n rows i (now.records i) round ≡ open_round (seen_in w i) round
    opened i node round above last =
        opens_alone n rows ok i (row_numbers (row_at rows i)) (own_row n rows i node) (now.records i) (record_fine i) round
        (omega (arith, records_low w lawful l h i)) last

    -- a message for another: it is old or stray
    astray : (m : Letter) (i : ℕ) → (m.to ≡ i → ⊥) → (receive (seen_in w i) (now.records i) m ≡ still (now.records i) (Ok Old))
        ⊎ (receive (seen_in w i) (now.records i) m ≡ still (now.records i) (Ok Stray))
    unfolding stray
    astray m i d = elim (true_or_false (behind m.round (now.records i).round)) [
      | inl e ↦ inl (old (seen_in w i) (now.records i) m e)
      | inr e ↦ inr (arrives (seen_in w i) (now.records i) m e refl (or_intro_left _ _ (ap not (ne_eqb m.to i d))) refl)
    ]

  -- ---- event by event
  calls_as : (l : List Event) (e : Event) → History w (e ∷ l) → call n rows (since w l) e ≡ outcome w (since w l) e
  calls_as l (Event.opens i round) h = let p = (opens_iff (highest_in l) round).0 h.1 in opened l h.2 i h.0 round p.0 p.1
  calls_as l (Event.arrives m) h = delivered l h.1 m h.0 m.to ((history_named w lawful l h.1).letters m h.0).1

  -- what may happen is a history, its state is the rules', and its calls answer what the rules say
  abbrev ByRules : List Event → Type 0
  ByRules l = History w l × (together n rows l ≡ since w l) × (answers n rows l ≡ answers_of w l)

  next_by_rules : (l : List Event) (e : Event) → ByRules l → History w (e ∷ l) → ByRules (e ∷ l)
  unfolding together since
  next_by_rules l e (_, same, said) h =
      let did : call n rows (together n rows l) e ≡ outcome w (since w l) e = ap (λ (c : Stage). call n rows c e) same ∙ calls_as l e h in
      (h, λ j. joined (same j) (node_of e) (did j), λ j. (e, (did j).answer) ∷ said j)

  by_rules : (l : List Event) → MayHappen n rows l → ByRules l
  unfolding together since
  by_rules [] may = (tt, refl, refl)
  by_rules (Event.opens i round ∷ l) may =
      let before = by_rules l may.3 in
      next_by_rules l (Event.opens i round) before (may.0, (opens_iff (highest_in l) round).1 (may.1, may.2), before.0)
  by_rules (Event.arrives m ∷ l) may =
      let before = by_rules l may.1 in
      next_by_rules l (Event.arrives m) before (subst (λ (c : Stage). Memᴰ m c.sent) before.1 may.0, before.0)

  -- a node answers, and doesn't refuse
  all_accepted : (l : List Event) (x : Event × Result Answer Refusal) → Memᴰ x (answers_of w l) → accepted x.1 ≡ true
  all_accepted (e ∷ l) x (here q) = ap (λ (y : Event × Result Answer Refusal). accepted y.1) q ∙ outcome_accepted w (since w l) e
  all_accepted (e ∷ l) x (there i) = all_accepted l x i
  all_accepted [] x x3 = elim x3 [ ]

  module _ (l : List Event) (may : MayHappen n rows l) where
    history : History w l
    history = (by_rules l may).0

    same : together n rows l ≡ since w l
    same = (by_rules l may).1

    said : answers n rows l ≡ answers_of w l
    said = (by_rules l may).2

    all : ManyRounds w l
    all = many_rounds w lawful l history

    answered : (x : Event × Result Answer Refusal) → Memᴰ x (answers n rows l) → Memᴰ x (answers_of w l)
    answered x = subst (λ (k : List (Event × Result Answer Refusal)). Memᴰ x k) said

    verdicts : (round : ℕ) → verdicts_among round (answers n rows l) ≡ verdicts_of w round l
    unfolding verdicts_of
    verdicts round = ap (verdicts_among round) said

    opener : (e : Event) (a : Result Answer Refusal) → Memᴰ (e, a) (answers n rows l) → (v : Verdict) → Memᴰ v (verdict_in a) → Opened l (node_of e) (round_of e)
    opener e a i = all.opener e a (answered (e, a) i)

    right : (e : Event) (a : Result Answer Refusal) → Memᴰ (e, a) (answers n rows l) → (v : Verdict) → Memᴰ v (verdict_in a) → Right w (node_of e) v
    unfolding verdicts_of
    right e a i v j = all.verdict_right (node_of e) (round_of e) (opener e a i v j) v (among_verdicts (answers_of w l) (e, a) (answered (e, a) i) v j)

    ends : (s : ℕ) → Opened l s (highest_in l)
        → ((m : Letter) → Memᴰ m (together n rows l).sent → m.round ≡ highest_in l → Memᴰ (Event.arrives m) l)
        → (v : Verdict) × (verdicts_among (highest_in l) (answers n rows l) ≡ v ∷ []) × Right w s v
    ends s o arrived =
        let (v, e) = all.it_ends s o (λ m i. arrived m (subst (λ (c : Stage). Memᴰ m c.sent) (sym same) i)) in (
          v,
          verdicts (highest_in l) ∙ e,
          all.verdict_right s (highest_in l) o v (subst (λ (x : List Verdict). Memᴰ v x) (sym e) (here refl)),
        )

    abbrev Astray : Stage → Letter → ℕ → Type 0
    Astray c m i = (delivers n rows i (c.records i) m ≡ still (c.records i) (Ok Old)) ⊎ (delivers n rows i (c.records i) m ≡ still (c.records i) (Ok Stray))

    comes_astray : (m : Letter) → Memᴰ m (since w l).sent → (i : ℕ) → i < n → (m.to ≡ i → ⊥) → Astray (since w l) m i
    comes_astray m sent i node d = elim (astray l history m i d) [
      | inl e ↦ inl (delivered l history m sent i node ∙ e)
      | inr e ↦ inr (delivered l history m sent i node ∙ e)
    ]

    together_right : Together n rows l
    together_right = record {
      not_refused = λ e a i. all_accepted l (e, a) (answered (e, a) i);
      astray = subst (λ (c : Stage). (m : Letter) → Memᴰ m c.sent → (i : ℕ) → i < n → (m.to ≡ i → ⊥) → Astray c m i) (sym same) comes_astray;
      no_false = λ e a i v j. (opener e a i v j, right e a i v j);
      one_verdict = λ round. subst (λ (x : List Verdict). length x ≤ 1) (sym (verdicts round)) (all.one_verdict round);
      ends = ends;
      by_rules = by_rules l may;
      many_rounds = all;
    }

-- Theorem: what is promised of all controllers together.
pub all_controllers : AllControllers
all_controllers = together_right
