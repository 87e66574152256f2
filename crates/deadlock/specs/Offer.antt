-- A list that is offered as evidence, as the functions hold it. Assumes nothing.
use Rattle.std.specs.Prelude.{◌≡◌, List, ℕ, Result, Ok, Err}
use Rattle.waits.specs.declared.refusals.Refusal.{Refusal}
use Rattle.waits.specs.Graph.{GraphSays}
use Rattle.deadlock.specs.declared.offer.Offer.{Offer}

-- Of these nodes and rows, and this list, when a check of them answers so: its refusal, or the graph that has them, and the list.
abbrev pub OfferSays : Result Unit Refusal → ℕ → List ℕ → List ℕ → Result Offer Refusal → Type 0
OfferSays answer n rows l (Err r) = answer ≡ Err r
OfferSays answer n rows l (Ok o) = GraphSays answer n rows (Ok o.graph) × (o.list.now ≡ l)
