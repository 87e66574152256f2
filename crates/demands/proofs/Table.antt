-- The table of the paper's small mornings, computed by the checker from the definitions. Assumes nothing.
use mathlib.Core.Path.{◌≡◌, refl, sym, ap, ◌∙◌}
use mathlib.Core.Bool.{Bool, false, not, ◌&&◌}
use mathlib.Core.List.{List, []}
use Prim.Native.Nat.{ℕ}
use lib.Dec.{lit<}
use Rattle.std.specs.Prelude.{Ok}
use Rattle.lemmas.specs.Lists.{any_of}
use Rattle.nodes.specs.Sets.{set_of}
use Rattle.nodes.proofs.Bit.{bit_empty, out_has}
use Rattle.waits.specs.Waits.{Waits}
use Rattle.waits.specs.Deadlocked.{outside, passes}
use Rattle.waits.specs.Deadlocked.Path.{edge, then}
use Rattle.waits.specs.Rows.{waits_of}
use Rattle.waits.specs.Mornings.{first_rows, second_rows, fourth_rows, fifth_rows, sixth_rows, ninth_rows, tenth_rows}
use Rattle.deadlock.specs.declared.evidence.Judged.TheVariants.{ClaimMissing}
use Rattle.deadlock.specs.Refusals.{strange_entry, check_node_of}
use Rattle.deadlock.specs.Evidence.{judged_of}
use Rattle.deadlock.proofs.Refused.{list_fine}
use Rattle.deadlock.proofs.Judging.{judgement_missing, judged_as}
use Rattle.deadlock.proofs.Answers.{not_in_ring, in_ring, behind_ring}
use Rattle.bench.proofs.Open.{open_bench}
use Rattle.rounds.proofs.Open.{open_rounds}
use Rattle.demands.specs.Table.{Table}
use Rattle.demands.proofs.Computed.{morning, evidence, full_round}

-- nobody is in the empty list
nobody_passes : (w : Waits) (i : ℕ) → passes w i [] ≡ false
unfolding passes set_of
nobody_passes w i = ap (λ (b : Bool). b && not (any_of (λ j. w.holds j (outside w [])) [])) (out_has 0 i (bit_empty i))

claim_lacking : (n : ℕ) (rows : List ℕ) (i : ℕ) → check_node_of n rows i ≡ Ok tt → judged_of n rows i [] ≡ Ok ClaimMissing
unfolding strange_entry
claim_lacking n rows i ok =
    sym (judged_as n rows i [] (list_fine n rows i [] ok refl refl)) ∙ ap Ok ((judgement_missing (waits_of n rows) i []).1 (λ m. elim m [ ]))

-- Theorem: all that the paper says of these mornings is so.
pub table : Table
unfolding open_bench open_rounds
table = record {
  first = morning 7 first_rows refl refl refl;
  first_round = full_round 7 first_rows refl 0 (lit< tt) refl refl refl;
  first_cycle = then {j = 2} refl (edge refl);
  second = morning 10 second_rows refl refl refl;
  second_round = full_round 10 second_rows refl 0 (lit< tt) refl refl refl;
  second_evidence = evidence 10 second_rows refl 0 (lit< tt) refl;
  third_passes = refl;
  third_fails = refl;
  third_turned = refl;
  fourth = morning 2 fourth_rows refl refl refl;
  fourth_round = (full_round 2 fourth_rows refl 0 (lit< tt) refl refl refl, full_round 2 fourth_rows refl 1 (lit< tt) refl refl refl);
  fourth_evidence = (evidence 2 fourth_rows refl 0 (lit< tt) refl, evidence 2 fourth_rows refl 1 (lit< tt) refl);
  fifth = morning 1 fifth_rows refl refl refl;
  fifth_round = full_round 1 fifth_rows refl 0 (lit< tt) refl refl refl;
  fifth_opening = λ round. (refl, refl);
  fifth_bench = record { accepted = refl; sent_list = refl; sent_count = refl; answer_list = refl };
  sixth = morning 2 sixth_rows refl refl refl;
  sixth_round = full_round 2 sixth_rows refl 0 (lit< tt) refl refl refl;
  sixth_bench = record { accepted = refl; sent_list = refl; sent_count = refl; answer_list = refl };
  ninth = morning 4 (ninth_rows 2) refl refl refl;
  ninth_round = full_round 4 (ninth_rows 2) refl 0 (lit< tt) refl refl refl;
  ninth_evidence = evidence 4 (ninth_rows 2) refl 0 (lit< tt) refl;
  ninth_one = morning 4 (ninth_rows 1) refl refl refl;
  ninth_one_round = full_round 4 (ninth_rows 1) refl 0 (lit< tt) refl refl refl;
  ninth_three = refl;
  ninth_none = refl;
  ninth_four = refl;
  tenth = morning 5 tenth_rows refl refl refl;
  tenth_evidence = evidence 5 tenth_rows refl 0 (lit< tt) refl;
  tenth_cycle = then {j = 3} refl (edge refl);
  tenth_behind = behind_ring 5 tenth_rows 0 refl refl refl;
  tenth_in = (in_ring 5 tenth_rows 1 refl refl refl, in_ring 5 tenth_rows 2 refl refl refl);
  tenth_free = (not_in_ring 5 tenth_rows 3 refl refl, not_in_ring 5 tenth_rows 4 refl refl);
  twelfth = nobody_passes;
  twelfth_lacks = claim_lacking;
}
