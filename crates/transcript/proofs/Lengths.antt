-- How long the text of a script can be. Assumes nothing.
use mathlib.Core.Path.{◌≡◌, refl, sym, ap, ◌∙◌, subst}
use mathlib.Core.Bool.{Bool, true, false, cond, ◌&&◌}
use mathlib.Core.Logic.{⊎_elim}
use mathlib.Core.List.{List, [], ◌∷◌}
use Prim.Native.Nat.{ℕ, suc, ◌+◌, ◌*◌, ◌≤◌, ◌<◌}
use native.Mathlib.Omega.{arith}
use lib.Dec.{leb}
use lib.ListN.{length, take, length-append, length-drop}
use lib.Seq.{length-take-le}
use borrow.Author.Tests.{leb-false}
use Rattle.std.specs.Prelude.{Ok}
use Rattle.lemmas.specs.Lists.{any_of}
use Rattle.lemmas.proofs.Tests.{or_left_false, or_right_false}
use Rattle.nodes.specs.Sets.{no_node}
use Rattle.nodes.specs.Words.{places}
use Rattle.records.specs.declared.messages.Message.{Message}
use Rattle.records.specs.Rounds.{ahead}
use Rattle.records.specs.Messages.{kinds, strange_message}
use Rattle.records.proofs.Higher.{round_range}
use Rattle.waits.specs.Rows.{waits_of}
use Rattle.step.specs.Answers.{code_of}
use Rattle.lent.specs.Coded.{message_of}
use Rattle.lent.specs.Steps.{step_of, answer_number}
use Rattle.bench.specs.Bench.{Bench, After, fresh}
use Rattle.bench.specs.Strange.{strange_message_on, strange_messages, strange_bench, Good}
use Rattle.bench.specs.Steps.{step_on}
use Rattle.bench.specs.Runs.{said, run_on, answers_on, run_of}
use Rattle.bench.proofs.Sound.{good_sound, shaped, few_sent, sent_listed}
use Rattle.bench.proofs.Keeping.{step_good, step_taken}
use Rattle.bench.proofs.Codes.{answer_few}
use Rattle.bench.proofs.Turns.{run_good, answers_length, run_refused, run_taken}
use Rattle.lines.specs.Lines.{answer_line, answer_lines}
use Rattle.lines.proofs.Lengths.{answer_length, message_length, refused_length, no_script_length}
use Rattle.script.specs.Script.{most, longest, Script, Meant, script_of, meant_by}
use Rattle.script.specs.Script.Meant.{NoScript}
use Rattle.script.specs.Numbers.{numbers_of}
use Rattle.script.proofs.Triples.{steps_length}
use Rattle.script.proofs.Shapes.{from, count, rest, script, Passed, is_script, none_or_passed}
use Rattle.transcript.specs.Transcript.{zeros, line_of, message_lines, told_of, told, played, answered_by, transcript_of, longest_text}
use Rattle.transcript.proofs.Fresh.{zeros_length, filled}

-- ---- the answers
module _ (n : ℕ) (rows : List ℕ) where
  next_good : (b : Bench) (x : ℕ) → Good n rows b → Good n rows (step_on n rows b (step_of x)).bench
  next_good b x good =
      subst (λ (a : After). Good n rows a.bench) (step_taken n rows b good (step_of x)) (step_good n rows b good (step_of x))

  said_small : (b : Bench) (x : ℕ) → Good n rows b → said (step_on n rows b (step_of x)) < 100000 * 65536
  unfolding answer_number
  said_small b x good =
      let few : code_of (step_on n rows b (step_of x)).answer ≤ 122 =
      subst (λ (a : After). code_of a.answer ≤ 122) (step_taken n rows b good (step_of x)) (answer_few (waits_of n rows) b (step_of x)) in
      omega (arith, few_sent n rows _ (good_sound n rows _ (next_good b x good)))

  answers_short : (steps : List ℕ) (b : Bench) → Good n rows b → length (answer_lines (answers_on n rows b steps)) ≤ 28 * length steps
  unfolding answer_lines
  answers_short [] b good = omega arith
  answers_short (x ∷ xs) b good =
      let rest = answers_on n rows (step_on n rows b (step_of x)).bench xs in
      omega (
        arith,
        length-append (answer_line (said (step_on n rows b (step_of x)))) (answer_lines rest),
        answer_length (said (step_on n rows b (step_of x))) (said_small b x good),
        answers_short xs (step_on n rows b (step_of x)).bench (next_good b x good),
      )

-- ---- the messages
line_short : (n highest k : ℕ) (m : Message) → n ≤ places → k < 100000 → strange_message_on n highest m ≡ false → length (line_of k m) ≤ 39
unfolding strange_message_on strange_message no_node
line_short n highest k m few h e =
    let f = or_right_false (leb kinds m.kind) _ (or_left_false _ (ahead m.round.0 highest) e) in
    let g = or_right_false (no_node n m.from.0) _ f in
    let from = leb-false n m.from.0 (or_left_false _ _ f) in
    let to = leb-false n m.to.0 (or_left_false _ _ g) in
    let round = round_range m.round.0 (or_right_false (no_node n m.to.0) _ g) in
    message_length k m.kind m.from.0 m.to.0 m.round.0 h (omega arith) (omega arith) (omega (arith, round))

messages_short : (n highest : ℕ) → n ≤ places → (l : List ℕ) (k : ℕ) → k + length l ≤ 100000 → strange_messages n highest l ≡ false
    → length (message_lines k l) ≤ 39 * length l
unfolding strange_messages message_lines
messages_short n highest few [] k h e = omega arith
messages_short n highest few (x ∷ l) k h e =
    let p : ℕ → Bool = λ y. strange_message_on n highest (message_of y) in
    omega (
      arith,
      length-append (line_of k (message_of x)) (message_lines (suc k) l),
      line_short n highest k (message_of x) few (omega arith) (or_left_false (p x) (any_of p l) e),
      messages_short n highest few l (suc k) (omega arith) (or_right_false (p x) (any_of p l) e),
    )

-- ---- the whole text
module _ (s : Script) (few : length s.steps ≤ most) where
  abbrev n : ℕ
  n = s.nodes

  abbrev start : Bench
  start = fresh n (zeros s.room)

  abbrev places_for : List ℕ
  places_for = zeros (length s.steps)

  refused_short : strange_bench n s.rows start ≡ true → length (played s) ≤ longest_text
  unfolding played told_of
  refused_short e =
      subst (λ (x : List ℕ). length x ≤ longest_text) (sym (ap told (run_refused n s.rows start s.steps places_for e)))
      (let r = refused_length 13 0 (omega arith) (omega arith) in omega arith)

  taken_short : Good n s.rows start → length (played s) ≤ longest_text
  unfolding played told_of
  taken_short good =
      let ended = run_on n s.rows start s.steps in
      let said = answers_on n s.rows start s.steps in
      let sound = good_sound n s.rows ended (run_good n s.rows s.steps start good) in
      let list = take ended.sent ended.messages in
      let long : length list ≡ ended.sent = length-take-le ended.sent ended.messages (sent_listed n s.rows ended sound) in
      let count = few_sent n s.rows ended sound in
      let text : told (run_of n s.rows start s.steps places_for) ≡ told_of (Ok tt) said list =
      ap told (run_taken n s.rows start s.steps places_for good (omega (arith, zeros_length (length s.steps))))
      ∙ ap (λ (l : List ℕ). told_of (Ok tt) l list) (filled (length s.steps) said (answers_length n s.rows s.steps start)) in
      subst (λ (x : List ℕ). length x ≤ longest_text) (sym text)
      (omega (
        arith,
        length-append (answer_lines said) (message_lines 0 list),
        answers_short n s.rows s.steps start good,
        messages_short n ended.highest (shaped n s.rows ended sound).0 list 0 (omega (arith, long, count)) sound.listed,
        long,
        count,
        few,
      ))

  played_short : length (played s) ≤ longest_text
  played_short = by (strange_bench n s.rows start) refl
    where
      by : (p : Bool) → strange_bench n s.rows start ≡ p → length (played s) ≤ longest_text
      by true e = refused_short e
      by false e = taken_short e

abbrev Fits : Meant → Type 0
Fits m = length (answered_by m) ≤ longest_text

none_fits : Fits NoScript
none_fits = let h = no_script_length in omega arith

script_fits : (l : List ℕ) → Fits (script_of l)
script_fits l =
    ⊎_elim
    (λ (e : script_of l ≡ NoScript). subst Fits (sym e) none_fits)
    (λ (p : Passed l). subst Fits (sym (is_script l p)) (played_short (script l) (few_steps p)))
    (none_or_passed l)
  where
    few_steps : Passed l → length (script l).steps ≤ most
    few_steps p = omega (arith, p.few_steps, steps_length (count l) (rest l) (length-drop (from l) l ∙ p.size))

either_fits : (t : Bool) (l : List ℕ) → Fits (cond t (script_of l) NoScript)
either_fits true l = script_fits l
either_fits false l = none_fits

-- Theorem: no text is longer than this, whatever the script.
pub transcript_fits : (bytes : List ℕ) → length (transcript_of bytes) ≤ longest_text
unfolding transcript_of meant_by
transcript_fits bytes = either_fits (leb (length bytes) longest && (numbers_of bytes).good) (numbers_of bytes).numbers
