-- Each reason once, computed. Assumes nothing.
use mathlib.Core.Path.{◌≡◌, refl, sym, ap}
use mathlib.Core.List.{List, [], ◌++◌}
use Prim.Native.Nat.{ℕ, ◌-◌, ◌<◌}
use Prim.Native.String.{String}
use lib.ListN.{length}
use borrow.Author.Tests.{lt-ltb}
use Rattle.lemmas.proofs.Cases.{at_true}
use Rattle.nodes.specs.Words.{places}
use Rattle.text.specs.Words.{word}
use Rattle.format.specs.Files.{read_of}
use Rattle.format.proofs.Open.{open_format}
use Rattle.faults.specs.Flaws.{number_flaw, member_in, members_flaw, set_flaw}
use Rattle.faults.specs.Faults.{line_fault, mark, header_fault, field_flaw, fields_fault, row_fault, fault_of}
use Rattle.report.specs.Report.{longest, input_of}
use Rattle.report.specs.Report.Input.{Says}
use Rattle.reasons.specs.Reasons.{longest_reason, flaw_words, fault_words, line_reason, number_words, place_words, graph_reason, reason_for, reason_of}
use Rattle.waits.specs.declared.refusals.Reason.TheVariants.{WrongThreshold, ManyEdges}

-- the definitions that are computed with
unfoldable open_reasons : Unit {0}
unfolding open_format input_of number_flaw member_in members_flaw set_flaw line_fault header_fault field_flaw fields_fault row_fault fault_of flaw_words fault_words line_reason number_words place_words graph_reason reason_for reason_of
open_reasons = tt

-- these lines under the header
abbrev under : String → List ℕ
under lines = word "node,kind,threshold,set1,set2,set3,set4\r\n" ++ word lines

-- ---- the file
not_refused : reason_of (under "0,1,1,1,,,\r\n1,1,1,0,,,\r\n") ≡ []
unfolding open_reasons
not_refused = refl

too_long : (bytes : List ℕ) → longest < length bytes → reason_of bytes ≡ word "the file has more than 65536 bytes\n"
unfolding reason_of input_of reason_for
too_long bytes h = ap (reason_for bytes) (sym (at_true (Says (read_of bytes)) (lt-ltb longest (length bytes) h) refl))

-- ---- a line
empty_file : reason_of ([]) ≡ word "the file is empty; line 1 must be the header node,kind,threshold,set1,set2,set3,set4\n"
unfolding open_reasons
empty_file = refl

marked : reason_of (mark ++ under "0,0,0,,,,\r\n") ≡ word "line 1 begins with a byte-order mark, which is no part of the header\n"
unfolding open_reasons
marked = refl

header : reason_of (word "node,kind,set1,set2,set3,set4\r\n0,0,0,,,,\r\n") ≡ word "line 1 isn't the header node,kind,threshold,set1,set2,set3,set4\n"
unfolding open_reasons
header = refl

lf_file : reason_of (word "node,kind,threshold,set1,set2,set3,set4\n0,0,0,,,,\n") ≡ word "line 1 ends in LF where CR LF is wanted\n"
unfolding open_reasons
lf_file = refl

semicolon_header : reason_of (word "node;kind;threshold;set1;set2;set3;set4\r\n") ≡ word "line 1: its fields are separated by semicolons where commas are wanted\n"
unfolding open_reasons
semicolon_header = refl

lf_row : reason_of (under "0,0,0,,,,\r\n1,0,0,,,,\n2,0,0,,,,\r\n") ≡ word "line 3 ends in LF where CR LF is wanted\n"
unfolding open_reasons
lf_row = refl

semicolon_row : reason_of (under "0,0,0,,,,\r\n1;0;0;;;;\r\n") ≡ word "line 3: its fields are separated by semicolons where commas are wanted\n"
unfolding open_reasons
semicolon_row = refl

empty_node : reason_of (under "0,0,0,,,,\r\n,0,0,,,,\r\n") ≡ word "line 3: node is empty\n"
unfolding open_reasons
empty_node = refl

strange_kind_lem : reason_of (under "0,+1,0,,,,\r\n") ≡ word "line 2: kind has a character that isn't a digit\n"
unfolding open_reasons
strange_kind_lem = refl

large_kind : reason_of (under "0,18446744073709551616,0,,,,\r\n") ≡ word "line 2: kind is past 64 bits\n"
unfolding open_reasons
large_kind = refl

empty_line : reason_of (under "\r\n") ≡ word "line 2: node is empty\n"
unfolding open_reasons
empty_line = refl

no_threshold : reason_of (under "0,0\r\n") ≡ word "line 2: threshold is missing\n"
unfolding open_reasons
no_threshold = refl

two_spaces : reason_of (under "0,1,1,1  2,,,\r\n") ≡ word "line 2: set1 has a space too many\n"
unfolding open_reasons
two_spaces = refl

strange_member_lem : reason_of (under "0,1,1,1;2,,,\r\n") ≡ word "line 2: set1 has a character that is neither a digit nor a space\n"
unfolding open_reasons
strange_member_lem = refl

no_place_for_64 : reason_of (under "0,2,0,1,2 64,,\r\n") ≡ word "line 2: set2 has a member over 63\n"
unfolding open_reasons
no_place_for_64 = refl

same_member : reason_of (under "0,2,0,1,2,3 3,\r\n") ≡ word "line 2: set3 has a member twice\n"
unfolding open_reasons
same_member = refl

descending : reason_of (under "0,2,0,1,2,4 3,\r\n") ≡ word "line 2: set3 isn't ascending\n"
unfolding open_reasons
descending = refl

six_fields : reason_of (under "0,0,0,,,\r\n") ≡ word "line 2: set4 is missing\n"
unfolding open_reasons
six_fields = refl

eight_fields : reason_of (under "0,0,0,,,,,\r\n") ≡ word "line 2: it has more than seven fields\n"
unfolding open_reasons
eight_fields = refl

not_next : reason_of (under "0,0,0,,,,\r\n2,0,0,,,,\r\n") ≡ word "line 3: its node isn't 1, the next one\n"
unfolding open_reasons
not_next = refl

-- ---- the graph
nobody : reason_of (under "") ≡ word "there is no node, or there are more than 64\n"
unfolding open_reasons
nobody = refl

no_kind : reason_of (under "0,0,0,,,,\r\n1,3,0,,,,\r\n") ≡ word "row 1: the kind isn't 0, 1 or 2\n"
unfolding open_reasons
no_kind = refl

no_such_node : reason_of (under "0,1,1,1,,,\r\n") ≡ word "row 0: a set names something that is no node\n"
unfolding open_reasons
no_such_node = refl

on_itself : reason_of (under "0,1,1,0,,,\r\n") ≡ word "row 0: the node waits on itself\n"
unfolding open_reasons
on_itself = refl

wrong_threshold_lem : reason_of (under "0,0,0,,,,\r\n1,1,2,0,,,\r\n")
    ≡ word "row 1: the threshold isn't 1 to the size of set1 at kind 1, or isn't 0 at another kind\n"
unfolding open_reasons
wrong_threshold_lem = refl

set_too_many : reason_of (under "0,0,0,,,,\r\n1,0,0,0,,,\r\n")
    ≡ word "row 1: there is a set where the kind has none: any at kind 0, any but set1 at kind 1\n"
unfolding open_reasons
set_too_many = refl

nothing_to_wait_for : reason_of (under "0,2,0,,,,\r\n") ≡ word "row 0: kind 2 has no set, or one of its sets lies inside another\n"
unfolding open_reasons
nothing_to_wait_for = refl

many_edges_lem : graph_reason (record { reason = ManyEdges; row = record { 0 = 0 } }) ≡ word "there are more than 512 edges\n"
unfolding open_reasons
many_edges_lem = refl

-- the longest reason is as long as `longest_reason` says
longest_reached : length (graph_reason (record { reason = WrongThreshold; row = record { 0 = places - 1 } })) ≡ longest_reason
unfolding open_reasons
longest_reached = refl
