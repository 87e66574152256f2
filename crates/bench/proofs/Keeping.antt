-- Steps keep a good state good. Assumes nothing.
use mathlib.Core.Path.{◌≡◌, refl, sym, ap, ap₂, ◌∙◌, subst}
use mathlib.Core.Bool.{Bool, true, false, cond, ◌||◌}
use mathlib.Core.Logic.{◌⊎◌, inl, inr}
use mathlib.Core.List.{List, ◌++◌, map, map-append}
use Prim.Native.Nat.{ℕ, ◌+◌, ◌≤◌, ◌<◌}
use native.Mathlib.Decide.{dec_lt, ℕ_discrete}
use native.Mathlib.Omega.{arith}
use lib.Dec.{leb, ltb}
use lib.ListN.{length, get_or, take, drop, length-append, length-map}
use lib.Seq.{sets, sets-eq, length-sets, length-take-le, take_at}
use borrow.Author.Tests.{lt-leb, leb-false, ltb-false, not-false}
use Rattle.lemmas.specs.Lists.{any_of}
use Rattle.lemmas.proofs.Cases.{at_false}
use Rattle.lemmas.proofs.Tests.{or_left_false, or_right_false}
use Rattle.lemmas.proofs.Any.{any_append, any_map, any_weaker}
use Rattle.nodes.specs.Sets.{Inside, no_node, below, members_from, members}
use Rattle.nodes.specs.Words.{places}
use Rattle.nodes.proofs.Operations.{in_below}
use Rattle.nodes.proofs.Inside.{inside_member}
use Rattle.nodes.proofs.Members.{members_in}
use Rattle.records.specs.declared.messages.Kind.{Kind}
use Rattle.records.specs.declared.messages.Kind.TheVariants.{Notify, Grant, Ack, Done}
use Rattle.records.specs.declared.messages.Message.{Message}
use Rattle.records.specs.Rounds.{last_round, ahead, no_round, cannot_open}
use Rattle.records.specs.Messages.{Letter, kinds, kind_number, letter_of, strange_message}
use Rattle.records.specs.Records.{State, in_round, strange_record}
use Rattle.records.proofs.Higher.{not_ahead_itself, not_ahead_later, round_range, in_round_exists, in_round_not_ahead}
use Rattle.records.proofs.Among.{Among, record_among, among_record}
use Rattle.std.specs.Prelude.{Result, Ok}
use Rattle.waits.specs.declared.refusals.Refusal.{Refusal}
use Rattle.waits.specs.Rows.{waits_of}
use Rattle.step.specs.declared.answers.Answer.{Answer}
use Rattle.step.specs.Step.{Receivers, Outcome, still, seen_in, open_round, receive}
use Rattle.step.specs.Letters.{letters, letters_of}
use Rattle.step.proofs.Among.{ToAmong, nobody_among, Within, open_among, receive_among}
use Rattle.lent.specs.declared.steps.Step.{Step}
use Rattle.lent.specs.Kept.{state_at, put_state}
use Rattle.lent.specs.Coded.{base_of, message_of, number_of}
use Rattle.lent.proofs.Letters.{kind_number_le, letters_numbers}
use Rattle.lent.proofs.Back.{length_put, record_back, record_kept, message_kind, message_from, message_to, message_round}
use Rattle.bench.specs.Bench.{Bench, After, bench, after, room, room_of}
use Rattle.bench.specs.Strange.{strange_record_on, strange_message_on, strange_messages, Good}
use Rattle.bench.specs.Steps.{refuse, join, arrive_at, step_on, take_step}
use Rattle.bench.proofs.Ways.{Way, step_way}
use Rattle.bench.proofs.Ways.Way.{refused, opened, arrived}
use Rattle.bench.proofs.Sound.{Sound, good_sound, sound_good, shaped, room_le, record_there, sent_fine, out_among, ins_among}
use Rattle.waits.specs.declared.refusals.Reason.TheVariants.{FullRoom}

-- ---- what a node sends can be
letter_fine : (n highest : ℕ) (m : Letter) → n ≤ places → m.from < n → m.to < n → no_round m.round ≡ false → ahead m.round highest ≡ false
    → strange_message_on n highest (message_of (number_of m)) ≡ false
unfolding strange_message_on strange_message no_node
letter_fine n highest m h f t e g =
    let f' : m.from < 256 = omega arith in
    let t' : m.to < 256 = omega arith in
    ap₂ ◌||◌
    (ap₂ ◌||◌ (ap (leb kinds) (message_kind m f' t') ∙ lt-leb kinds (kind_number m.kind) (omega (arith, kind_number_le m.kind)))
    (ap₂ ◌||◌ (ap (leb n) (message_from m f' t') ∙ lt-leb n m.from f)
    (ap₂ ◌||◌ (ap (leb n) (message_to m f' t') ∙ lt-leb n m.to t)
    (ap no_round (message_round m f' t') ∙ e))))
    (ap (λ (x : ℕ). ahead x highest) (message_round m f' t') ∙ g)

module _ (n highest i round : ℕ) (few : n ≤ places) (from : i < n) (exists : no_round round ≡ false) (low : ahead round highest ≡ false) where
  kind_fine : (kind : Kind) (s : ℕ) → Inside s (below n) → strange_messages n highest (map number_of (letters kind i round s)) ≡ false
  unfolding strange_messages number_of
  kind_fine kind s to =
      subst (λ (l : List ℕ). any_of (λ x. strange_message_on n highest (message_of x)) l ≡ false) (letters_numbers kind i round s)
      (any_map (λ x. strange_message_on n highest (message_of x)) (λ k. base_of kind i round + k) (members s)
      (λ k m. letter_fine n highest (record { kind = kind; from = i; to = k; round = round }) few from
      ((in_below n k).0 (inside_member s (below n) k to ((members_in s k).0 m))) exists low))

  then_fine : (xs ys : List Letter) → strange_messages n highest (map number_of xs) ≡ false → strange_messages n highest (map number_of ys) ≡ false
      → strange_messages n highest (map number_of (xs ++ ys)) ≡ false
  unfolding strange_messages
  then_fine xs ys e f =
      ap (any_of (λ x. strange_message_on n highest (message_of x))) (map-append number_of xs ys)
      ∙ any_append (λ x. strange_message_on n highest (message_of x)) (map number_of xs) (map number_of ys) e f

  pub new_fine : (r : Receivers) → ToAmong n r → strange_messages n highest (map number_of (letters_of i round r)) ≡ false
  unfolding letters_of
  new_fine r to =
      then_fine (letters Notify i round r.notify) _ (kind_fine Notify r.notify (to Notify))
      (then_fine (letters Grant i round r.grant) _ (kind_fine Grant r.grant (to Grant))
      (then_fine (letters Ack i round r.ack) (letters Done i round r.done) (kind_fine Ack r.ack (to Ack)) (kind_fine Done r.done (to Done))))

-- ---- a higher round
abbrev Later : ℕ → ℕ → Type 0
Later old highest = (round : ℕ) → ahead round old ≡ false → ahead round highest ≡ false

kept_later : (n old highest : ℕ) (s : State) → Later old highest → strange_record_on n old s ≡ false → strange_record_on n highest s ≡ false
unfolding strange_record_on
kept_later n old highest s later e =
    ap₂ ◌||◌ (or_left_false (strange_record n s) _ e) (later s.round (or_right_false (strange_record n s) _ e))

sent_later : (n old highest : ℕ) (m : Message) → Later old highest → strange_message_on n old m ≡ false → strange_message_on n highest m ≡ false
unfolding strange_message_on
sent_later n old highest m later e =
    ap₂ ◌||◌ (or_left_false (strange_message n m) _ e) (later m.round.0 (or_right_false (strange_message n m) _ e))

-- two numbers that differ
pub apart : (i j : ℕ) → (j ≡ i → ⊥) → (i < j) ⊎ (j < i)
apart i j d = elim (dec_lt i j) [ yes l ↦ inl l | no l ↦ inr (omega (arith, d)) ]

-- ---- the messages sent, with the new ones
pub joined : (l new : List ℕ) (sent : ℕ) → sent + length new ≤ length l → take (sent + length new) (sets l sent new) ≡ take sent l ++ new
joined l new sent h =
    ap (take (sent + length new)) (sets-eq new l sent h)
    ∙ take_at (take sent l ++ new) (drop (sent + length new) l) (sent + length new)
    (length-append (take sent l) new ∙ ap (λ (x : ℕ). x + length new) (length-take-le sent l (omega arith)))

module _ (n : ℕ) (rows : List ℕ) (b : Bench) (s : Sound n rows b) (highest i : ℕ) (out : Outcome) (there : i < n) (last : highest ≤ last_round)
    (later : Later b.highest highest) (fine : strange_record_on n highest out.state ≡ false)
    (sends : strange_messages n highest (map number_of (letters_of i out.state.round out.sends)) ≡ false) where
  abbrev new : List Letter
  new = letters_of i out.state.round out.sends

  abbrev next : Bench
  next = bench (put_state b.records i out.state) (sets b.messages b.sent (map number_of new)) (b.sent + length new) highest

  next_kept : (j : ℕ) → j < n → strange_record_on n highest (state_at (put_state b.records i out.state) j) ≡ false
  next_kept j h = elim (ℕ_discrete j i) [
    | yes e ↦ subst (λ (x : State). strange_record_on n highest x ≡ false)
        (sym (ap (state_at (put_state b.records i out.state)) e ∙ record_back b.records i out.state (record_there n rows b s i there))) fine
    | no d ↦ subst (λ (x : State). strange_record_on n highest x ≡ false) (sym (record_kept b.records i j out.state (apart i j d)))
        (kept_later n b.highest highest (state_at b.records j) later (s.kept j h))
  ]

  next_listed : b.sent + length new ≤ room b → strange_messages n highest (take (b.sent + length new) (sets b.messages b.sent (map number_of new))) ≡ false
  unfolding strange_messages
  next_listed h =
      let p : ℕ → Bool = λ x. strange_message_on n highest (message_of x) in
      let c : length (map number_of new) ≡ length new = length-map new number_of in
      let l : take (b.sent + length new) (sets b.messages b.sent (map number_of new)) ≡ take b.sent b.messages ++ map number_of new =
      ap (λ (x : ℕ). take (b.sent + x) (sets b.messages b.sent (map number_of new))) (sym c)
      ∙ joined b.messages (map number_of new) b.sent (omega (arith, c, room_le (length b.messages))) in
      ap (any_of p) l
      ∙ any_append p (take b.sent b.messages) (map number_of new)
      (any_weaker (λ x. strange_message_on n b.highest (message_of x)) p (take b.sent b.messages) (λ x e. sent_later n b.highest highest (message_of x) later e) s.listed)
      sends

  joins : (t : Bool) → ltb (room b) (b.sent + length new) ≡ t → Sound n rows (cond t (refuse FullRoom b) (after next out.answer)).bench
  joins true e = s
  joins false e =
      let h : b.sent + length new ≤ room b = ltb-false (room b) (b.sent + length new) e in
      record {
        accepted = s.accepted;
        each = length_put b.records i out.state ∙ s.each;
        within = subst (λ (x : ℕ). b.sent + length new ≤ x) (sym (same_room (length-sets b.messages b.sent (map number_of new)))) h;
        last = last;
        kept = next_kept;
        listed = next_listed h;
      }
    where
      same_room : {x y : ℕ} → x ≡ y → room_of x ≡ room_of y
      same_room e = ap room_of e

  pub join_sound : Sound n rows (join b highest i out).bench
  unfolding join
  join_sound = joins (ltb (room b) (b.sent + length new)) refl

-- ---- one step
module _ (n : ℕ) (rows : List ℕ) (b : Bench) (s : Sound n rows b) where
  few : n ≤ places
  few = (shaped n rows b s).0

  module _ (i round : ℕ) (there : i < n) (opens : cannot_open b.highest round ≡ false) where
    exists : no_round round ≡ false
    unfolding cannot_open
    exists = or_left_false (no_round round) _ opens

    above : ahead round b.highest ≡ true
    unfolding cannot_open
    above = not-false _ (or_right_false (no_round round) _ opens)

    -- its record can be, so can its messages, and they go to nodes
    fine_as : (st : State) (r : Receivers) → Within n round st r
        → (strange_record_on n round st ≡ false) × (strange_messages n round (map number_of (letters_of i st.round r)) ≡ false) × ToAmong n r
    unfolding strange_record_on
    fine_as st r w =
        let same = ap (λ (x : ℕ). ahead x round) w.in_round_lem ∙ not_ahead_itself round in
        let e = ap no_round w.in_round_lem ∙ exists in
        (ap₂ ◌||◌ (among_record n st (round_range st.round e).1 w.names) same, new_fine n round i st.round few there e same r w.sends, w.sends)

    abbrev begun : Outcome
    begun = open_round (seen_in (waits_of n rows) i) round

    pub opened_fine : (strange_record_on n round begun.state ≡ false) × (strange_messages n round (map number_of (letters_of i begun.state.round begun.sends)) ≡ false)
        × ToAmong n begun.sends
    opened_fine = fine_as begun.state begun.sends (open_among n (seen_in (waits_of n rows) i) (out_among n rows b s i there) (ins_among n rows b s i) round)

    open_sound : Sound n rows (join b round i begun).bench
    open_sound =
        join_sound n rows b s round i begun there (round_range round exists).1
        (λ r e. not_ahead_later r b.highest round e above) opened_fine.0 opened_fine.1

  -- ---- a message that was sent
  module _ (m : Message) (fine : strange_message_on n b.highest m ≡ false) where
    pub from_there : m.from.0 < n
    unfolding strange_message_on strange_message no_node
    from_there =
        leb-false n m.from.0 (or_left_false _ _ (or_right_false (leb kinds m.kind) _ (or_left_false (strange_message n m) (ahead m.round.0 b.highest) fine)))

    pub to_there : m.to.0 < n
    unfolding strange_message_on strange_message no_node
    to_there =
        leb-false n m.to.0 (or_left_false _ _ (or_right_false (no_node n m.from.0) _
        (or_right_false (leb kinds m.kind) _ (or_left_false (strange_message n m) (ahead m.round.0 b.highest) fine))))

    sent_exists : no_round m.round.0 ≡ false
    unfolding strange_message_on strange_message no_node
    sent_exists =
        or_right_false (no_node n m.to.0) _ (or_right_false (no_node n m.from.0) _
        (or_right_false (leb kinds m.kind) _ (or_left_false (strange_message n m) (ahead m.round.0 b.highest) fine)))

    low : ahead m.round.0 b.highest ≡ false
    unfolding strange_message_on
    low = or_right_false (strange_message n m) _ fine

    abbrev was : State
    was = state_at b.records m.to.0

    pub was_record : strange_record n was ≡ false
    unfolding strange_record_on
    was_record = or_left_false _ _ (s.kept m.to.0 to_there)

    was_low : ahead was.round b.highest ≡ false
    unfolding strange_record_on
    was_low = or_right_false (strange_record n was) _ (s.kept m.to.0 to_there)

    was_among : (was.round ≤ last_round) × Among n was
    was_among = record_among n was was_record

    abbrev out : Outcome
    out = receive (seen_in (waits_of n rows) m.to.0) was (letter_of m)

    abbrev Fine : Outcome → Type 0
    Fine o =
        (strange_record_on n b.highest o.state ≡ false)
        × (strange_messages n b.highest (map number_of (letters_of m.to.0 o.state.round o.sends)) ≡ false)
        × ToAmong n o.sends

    taken_fine : Within n (in_round m.round.0 was).round out.state out.sends → Fine out
    unfolding strange_record_on
    taken_fine w =
        let e = ap no_round w.in_round_lem ∙ in_round_exists m.round.0 was sent_exists was_among.0 in
        let l = ap (λ (x : ℕ). ahead x b.highest) w.in_round_lem ∙ in_round_not_ahead m.round.0 was b.highest low was_low in (
          ap₂ ◌||◌ (among_record n out.state (round_range out.state.round e).1 w.names) l,
          new_fine n b.highest m.to.0 out.state.round few to_there e l out.sends w.sends,
          w.sends,
        )

    -- nothing is sent
    still_fine : (a : Result Answer Refusal) → Fine (still was a)
    unfolding strange_messages letters_of members members_from
    still_fine a = (s.kept m.to.0 to_there, refl, nobody_among n)

    pub arrived_fine : Fine out
    arrived_fine = elim (receive_among n (seen_in (waits_of n rows) m.to.0) (out_among n rows b s m.to.0 to_there) (ins_among n rows b s m.to.0)
        was (letter_of m) was_among.1 from_there) [
          | inl w ↦ taken_fine w
          | inr t ↦ subst Fine (sym t.1) (still_fine (Ok t.0))
        ]

    arrive_sound : Sound n rows (arrive_at (waits_of n rows) b (letter_of m)).bench
    unfolding arrive_at
    arrive_sound = join_sound n rows b s b.highest m.to.0 out to_there s.last (λ r e. e) arrived_fine.0 arrived_fine.1

  way_sound : {a : After} → Way (waits_of n rows) b a → Sound n rows a.bench
  way_sound (refused number h) = s
  way_sound (opened i round h e) = open_sound i round h e
  way_sound (arrived k h) = arrive_sound (message_of (get_or b.messages k 0)) (sent_fine n rows b s k h)

module _ (n : ℕ) (rows : List ℕ) (b : Bench) (good : Good n rows b) (x : Step) where
  -- Theorem: a step keeps a good state good.
  pub step_good : Good n rows (take_step (waits_of n rows) b x).bench
  step_good = sound_good n rows _ (way_sound n rows b (good_sound n rows b good) (step_way (waits_of n rows) b x))

  -- and one step by itself is then that step
  pub step_taken : take_step (waits_of n rows) b x ≡ step_on n rows b x
  unfolding step_on
  step_taken = at_false _ good refl
