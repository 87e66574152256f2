-- The paper's table for a step of a bench and for a list of steps: each number with its line. Assumes nothing.
use Rattle.std.specs.Prelude.{cond, not, ◌&&◌, ◌||◌, List, [], ◌∷◌, ℕ, ◌+◌, eqb, leb, ltb, length}
use Rattle.nodes.specs.Sets.{no_node}
use Rattle.records.specs.Rounds.{cannot_open}
use Rattle.waits.specs.Waits.{Waits}
use Rattle.waits.specs.Rows.{waits_of}
use Rattle.waits.specs.Numbers.{Line, line}
use Rattle.step.specs.Step.{Outcome, seen_in, open_round, receive}
use Rattle.step.specs.Letters.{letters_of}
use Rattle.lent.specs.declared.steps.Step.{Step}
use Rattle.lent.specs.Kept.{state_at}
use Rattle.bench.specs.Bench.{Bench, room}
use Rattle.bench.specs.Strange.{strange_bench}
use Rattle.bench.specs.Steps.{letter_at}
use Rattle.waits.specs.declared.refusals.Reason.TheVariants.{NoNode, CannotOpen, NoStep, FullRoom, StrangeState, ShortRoom}

-- how many messages a step sends
abbrev pub sends_of : ℕ → Outcome → ℕ
sends_of i out = length (letters_of i out.state.round out.sends)

unfoldable pub would_send : Waits → Bench → Step → ℕ
would_send w b x =
    let m = letter_at b x.a in
    cond (eqb x.kind 0) (sends_of x.a (open_round (seen_in w x.a) x.b))
    (sends_of m.to (receive (seen_in w m.to) (state_at b.records m.to) m))

-- 13; then 9 and 10 of an opening, 11 of a delivery and of a kind of step that there isn't; then 12. None is of a row.
abbrev pub step_lines : ℕ → List ℕ → Bench → Step → List Line
step_lines n rows b x =
    line StrangeState 0 (strange_bench n rows b)
    ∷ line NoNode 0 (eqb x.kind 0 && no_node n x.a)
    ∷ line CannotOpen 0 (eqb x.kind 0 && cannot_open b.highest x.b)
    ∷ line NoStep 0 (eqb x.kind 1 && leb b.sent x.a || not (eqb x.kind 0 || eqb x.kind 1))
    ∷ line FullRoom 0 (ltb (room b) (b.sent + would_send (waits_of n rows) b x))
    ∷ []

-- of a list as a whole: 13, then 15
abbrev pub run_lines : ℕ → List ℕ → Bench → List ℕ → List ℕ → List Line
run_lines n rows b steps answers = line StrangeState 0 (strange_bench n rows b) ∷ line ShortRoom 0 (ltb (length answers) (length steps)) ∷ []
