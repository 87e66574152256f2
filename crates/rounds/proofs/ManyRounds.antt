-- Many rounds are right, in every history, over any lawful graph of waits: each round is a course of its own, and a course is right.
-- Assumes nothing.
use mathlib.Core.Path.{◌≡◌, refl, sym, ap, ◌∙◌, subst}
use mathlib.Core.Bool.{Bool, true, false, cond}
use mathlib.Core.Logic.{◌⊎◌, inl, inr, ◌↔◌}
use mathlib.Core.List.{List, [], ◌∷◌, Memᴰ}
use mathlib.Core.List.Memᴰ.{head as here}
use mathlib.Core.List.Memᴰ.{tail as there}
use Prim.Native.Nat.{ℕ, suc, ◌+◌, ◌*◌, ◌≤◌}
use native.Mathlib.Omega.{arith}
use lib.Dec.{eqb}
use lib.ListN.{length}
use borrow.Author.Tests.{eqb-true}
use Rattle.lemmas.proofs.Those.{those_from, numbered_most}
use Rattle.lemmas.proofs.Tests.{not_true_false}
use Rattle.nodes.specs.Sets.{In}
use Rattle.records.specs.Messages.{Letter}
use Rattle.waits.specs.Waits.{Waits, Lawful, edges}
use Rattle.waits.specs.Deadlocked.{Reachable}
use Rattle.deadlock.specs.Evidence.{Evidence}
use Rattle.step.specs.declared.answers.Verdict.{Verdict}
use Rattle.step.specs.declared.answers.Verdict.TheVariants.{Deadlocked}
use Rattle.rounds.specs.Course.{Stage, after, AllDelivered, ended}
use Rattle.rounds.specs.Verdicts.{verdicts}
use Rattle.rounds.specs.Ends.{called_in, free_in, held_in, FreedFrom, leaving, entering}
use Rattle.rounds.specs.OneRound.{OneRound}
use Rattle.rounds.specs.History.{Event, node_of, since, highest_in, History, openings, Opened, of_round, verdicts_of, standing, AllArrived}
use Rattle.rounds.specs.ManyRounds.{ManyRounds}
use Rattle.rounds.proofs.OneRound.{called_set, free_set, one_round}
use Rattle.rounds.proofs.Saying.{said_by_lem}
use Rattle.rounds.proofs.Openers.{all_openers}
use Rattle.rounds.proofs.Told.{AsCourse, Told}
use Rattle.rounds.proofs.Histories.{history_told}

-- ---- the rounds that were opened
abbrev pub rounds : List Event → List ℕ
rounds [] = []
rounds (Event.opens i round ∷ l) = round ∷ rounds l
rounds (Event.arrives m ∷ l) = rounds l

rounds_length : (l : List Event) → length (rounds l) ≡ openings l
rounds_length [] = refl
rounds_length (Event.opens i round ∷ l) = ap suc (rounds_length l)
rounds_length (Event.arrives m ∷ l) = rounds_length l

-- the round of an event, if it is an opening, is one of them
abbrev Listed : List ℕ → Event → Type 0
Listed rs (Event.opens i round) = Memᴰ round rs
Listed rs (Event.arrives m) = Unit {0}

listed_on : (r : ℕ) (rs : List ℕ) (e : Event) → Listed rs e → Listed (r ∷ rs) e
listed_on r rs (Event.opens i round) h = there h
listed_on r rs (Event.arrives m) h = tt

pub rounds_listed : (l : List Event) (e : Event) → Memᴰ e l → Listed (rounds l) e
rounds_listed (Event.opens i round ∷ l) e (here q) = subst (Listed (round ∷ rounds l)) (sym q) (here refl)
rounds_listed (Event.opens i round ∷ l) e (there m) = listed_on round (rounds l) e (rounds_listed l e m)
rounds_listed (Event.arrives m ∷ l) e (here q) = subst (Listed (rounds l)) (sym q) tt
rounds_listed (Event.arrives x ∷ l) e (there m) = rounds_listed l e m
rounds_listed [] e x' = elim x' [ ]

-- the highest round was opened, unless none was
newest_opened : (l : List Event) → (highest_in l ≡ 0) ⊎ ((s : ℕ) × Opened l s (highest_in l))
newest_opened [] = inl refl
newest_opened (Event.opens i round ∷ l) = inr (i, here refl)
newest_opened (Event.arrives m ∷ l) = elim (newest_opened l) [ inl e ↦ inl e | inr o ↦ inr (o.0, there o.1) ]

-- ---- lists of verdicts
only_one : (l : List Verdict) → length l ≡ 1 → (v : Verdict) × (l ≡ v ∷ [])
only_one [] e = absurd (omega arith)
only_one (v ∷ []) e = (v, refl)
only_one (v ∷ x ∷ l) e = absurd (omega arith)

some_ended : (b : Bool) (l : List Verdict) (v : Verdict) → length l ≡ cond b 1 0 → Memᴰ v l → b ≡ true
some_ended true l v e m = refl
some_ended false (x ∷ l) v e m = absurd (omega arith)
some_ended false [] v e m = elim m [ ]

module _ (w : Waits) (lawful : Lawful w) (l : List Event) (history : History w l) where
  told : Told w l
  told = history_told w lawful l history

  -- ---- a round that s opened
  module _ (s round : ℕ) (o : Opened l s round) where
    course : AsCourse w l s round
    course = told.courses s round o

    abbrev now : Stage
    now = after w s round course.delivered

    right : OneRound w s round course.delivered now
    right = one_round w lawful s (told.node s round o) round course.delivered course.runs.course

    in_course : (v : Verdict) → Memᴰ v (verdicts_of w round l) → Memᴰ v (verdicts w s round course.delivered)
    in_course v = subst (λ (x : List Verdict). Memᴰ v x) course.runs.said_so

    -- it has ended, if something was said
    has_ended : (v : Verdict) → Memᴰ v (verdicts_of w round l) → ended w s now ≡ true
    has_ended v m = some_ended (ended w s now) _ v right.one_verdict (in_course v m)

    four : length (of_round round (since w l).sent) ≤ 4 * edges w
    four = subst (λ (x : List Letter). length x ≤ 4 * edges w) (sym course.runs.sent) right.at_most_four

    -- at the end the nodes called are the set of those reachable, and the nodes free that of those freed
    called : ended w s now ≡ true → (i : ℕ) → In i (called_in w now) ↔ Reachable w s i
    called = called_set w lawful s (told.node s round o) round course.delivered course.runs.course

    free : ended w s now ≡ true → (i : ℕ) → In i (free_in w now) ↔ FreedFrom w s i
    free = free_set w lawful s (told.node s round o) round course.delivered course.runs.course

    count_exactly : (v : Verdict) → Memᴰ v (verdicts_of w round l) → (reachable : ℕ) × (freed : ℕ)
        × ((i : ℕ) → In i reachable ↔ Reachable w s i) × ((i : ℕ) → In i freed ↔ FreedFrom w s i)
        × (length (of_round round (since w l).sent) ≡ 2 * leaving w reachable + 2 * entering w freed)
    count_exactly v m =
        let end = has_ended v m in (
          called_in w now,
          free_in w now,
          called end,
          free end,
          ap (λ (x : List Letter). length x) course.runs.sent ∙ right.count_exactly end (called_in w now) (free_in w now) (called end) (free end),
        )

  -- ---- the newest round
  module _ (s : ℕ) (o : Opened l s (highest_in l)) where
    abbrev newest : AsCourse w l s (highest_in l)
    newest = course s (highest_in l) o

    it_ends : AllArrived w (highest_in l) l → (v : Verdict) × (verdicts_of w (highest_in l) l ≡ v ∷ [])
    it_ends all =
        let one = right s (highest_in l) o in
        let end = one.it_ends delivered in
        let v = only_one _ (one.one_verdict ∙ ap (λ (b : Bool). cond b 1 0) end) in
        (v.0, newest.runs.said_so ∙ v.1)
      where
        delivered : AllDelivered newest.delivered (now s (highest_in l) o)
        delivered m i =
            let p = those_from (λ x. eqb x.round (highest_in l)) (since w l).sent m (subst (λ (x : List Letter). Memᴰ m x) (sym newest.runs.sent) i) in
            let at = eqb-true m.round (highest_in l) p.1 in
            newest.heard m at refl (all m p.0 at)

    -- no record has gone past it, so all stand in it as the course left them
    standing_so : standing (highest_in l) (since w l) ≡ now s (highest_in l) o
    standing_so = λ j. record { records = λ i. newest.runs.kept i (told.low i) j; sent = newest.runs.sent j }

    called_exactly : (v : Verdict) → Memᴰ v (verdicts_of w (highest_in l) l) → (i : ℕ) → In i (called_in w (standing (highest_in l) (since w l))) ↔ Reachable w s i
    called_exactly v m i =
        subst (λ (x : Stage). In i (called_in w x) ↔ Reachable w s i) (sym standing_so) (called s (highest_in l) o (has_ended s (highest_in l) o v m) i)

    free_exactly : (v : Verdict) → Memᴰ v (verdicts_of w (highest_in l) l) → (i : ℕ) → In i (free_in w (standing (highest_in l) (since w l))) ↔ FreedFrom w s i
    free_exactly v m i =
        subst (λ (x : Stage). In i (free_in w x) ↔ FreedFrom w s i) (sym standing_so) (free s (highest_in l) o (has_ended s (highest_in l) o v m) i)

    evidence_exactly : Memᴰ Deadlocked (verdicts_of w (highest_in l) l) → Evidence w s (held_in w (standing (highest_in l) (since w l)))
    evidence_exactly m =
        let one = right s (highest_in l) o in
        let dead = one.verdict_right Deadlocked (in_course s (highest_in l) o Deadlocked m) in
        subst (λ (x : Stage). Evidence w s (held_in w x)) (sym standing_so)
        (one.evidence_exactly (has_ended s (highest_in l) o Deadlocked m)
        (not_true_false _ (λ e. let r = one.free_rightly s e in dead r.0 r.1 r.2)))

  -- ---- all rounds
  said_opened : (round : ℕ) (v : Verdict) → Memᴰ v (verdicts_of w round l) → (s : ℕ) × Opened l s round
  said_opened round v m =
      let (x, i, e, j) = said_by_lem w round l v m in
      (node_of x.0, subst (Opened l (node_of x.0)) e (all_openers w l x.0 x.1 i v j))

  one_verdict : (round : ℕ) → length (verdicts_of w round l) ≤ 1
  one_verdict round = some (verdicts_of w round l) refl
    where
      one_or_none : (b : Bool) → cond b 1 0 ≤ 1
      one_or_none true = omega arith
      one_or_none false = omega arith

      some : (x : List Verdict) → verdicts_of w round l ≡ x → length x ≤ 1
      some [] e = omega arith
      some (v ∷ x) e =
          let o = said_opened round v (subst (λ (y : List Verdict). Memᴰ v y) (sym e) (here refl)) in
          subst (λ (y : List Verdict). length y ≤ 1) (sym (course o.0 round o.1).runs.said_so ∙ e)
          (subst (λ (k : ℕ). k ≤ 1) (sym (right o.0 round o.1).one_verdict) (one_or_none (ended w o.0 (now o.0 round o.1))))

  each_four : (round : ℕ) → length (of_round round (since w l).sent) ≤ 4 * edges w
  each_four round = some (of_round round (since w l).sent) refl
    where
      some : (x : List Letter) → of_round round (since w l).sent ≡ x → length x ≤ 4 * edges w
      some [] e = omega arith
      some (m ∷ x) e =
          let p = those_from (λ y. eqb y.round round) (since w l).sent m (subst (λ (y : List Letter). Memᴰ m y) (sym e) (here refl)) in
          let o = told.sent_opened m p.0 in
          subst (λ (y : List Letter). length y ≤ 4 * edges w) e
          (four o.0 round (subst (λ (r : ℕ). Opened l o.0 r) (eqb-true m.round round p.1) o.1))

  in_all : length (since w l).sent ≤ 4 * edges w * openings l
  in_all = subst (λ (x : ℕ). length (since w l).sent ≤ 4 * edges w * x) (rounds_length l)
      (numbered_most (λ m. m.round) (since w l).sent (rounds l) (4 * edges w)
      (λ m i. let o = told.sent_opened m i in rounds_listed l (Event.opens o.0 m.round) o.1)
      each_four)

  -- Theorem: many rounds are right.
  pub many_rounds : ManyRounds w l
  many_rounds = record {
    one_opener = told.one_opener;
    newest = newest_opened l;
    higher = λ s round o. told.events_low (Event.opens s round) o;
    sent_opened = told.sent_opened;
    opener = all_openers w l;
    verdict_right = λ s round o v m. (right s round o).verdict_right v (in_course s round o v m);
    one_verdict = one_verdict;
    it_ends = it_ends;
    at_most_four = each_four;
    at_most_in_all = in_all;
    count_exactly = count_exactly;
    called_exactly = called_exactly;
    free_exactly = free_exactly;
    evidence_exactly = evidence_exactly;
  }
