-- The messages that a round owes when it has ended, as a list, and how many they are, at most. Assumes nothing.
use mathlib.Core.Path.{◌≡◌, refl, sym, ap, ap₂, ◌∙◌, subst}
use mathlib.Core.Bool.{false, false≢true}
use mathlib.Core.Logic.{◌↔◌}
use mathlib.Core.List.Memᴰ
use mathlib.Core.List.{List, [], ◌∷◌, ◌++◌, map, flat_map, Memᴰ}
use mathlib.Core.List.Memᴰ.{head as here}
use mathlib.Core.List.Memᴰ.{tail as there}
use Prim.Native.Nat.{ℕ, zero, suc, ◌+◌, ◌*◌, ◌≤◌, ◌<◌}
use native.Mathlib.Nat.{not-suc-le-zero}
use native.Mathlib.Omega.{arith}
use native.Mathlib.Decide.{ℕ_discrete}
use lib.Dec.{eqb}
use lib.ListN.{length, length-append, length-map}
use borrow.Author.Tests.{eq-eqb}
use Rattle.lemmas.specs.Lists.{any_of, total, Once}
use Rattle.lemmas.proofs.Any.{some_any}
use Rattle.lemmas.proofs.Once.{mapped_from, mapped, once_map, no_longer}
use Rattle.lemmas.proofs.Each.{each_from, each_in, each_length, once_each}
use Rattle.nodes.specs.Sets.{In, Inside, below, members, size}
use Rattle.nodes.proofs.Operations.{in_below}
use Rattle.nodes.proofs.Inside.{inside_member}
use Rattle.nodes.proofs.Members.{members_in, members_once}
use Rattle.nodes.proofs.Size.{size_members}
use Rattle.records.specs.declared.messages.Kind.{Kind}
use Rattle.records.specs.declared.messages.Kind.TheVariants.{Notify, Grant, Ack, Done}
use Rattle.records.specs.Messages.{Letter, kind_number}
use Rattle.waits.specs.Waits.{Waits, in_of, edges_to, edges}
use Rattle.waits.proofs.In.{in_of_lem}
use Rattle.step.specs.Letters.{letter}
use Rattle.rounds.specs.Ends.{leaving, entering}

-- ---- one thing for each edge of the nodes of a set: `row i` has the nodes at the other ends of those of i

-- different edges give different things
abbrev Apart : {B : Type 0} → (ℕ → ℕ → B) → Type 0
Apart make = (i j k l : ℕ) → make i j ≡ make k l → (i ≡ k) × (j ≡ l)

module _ {B : Type 0} (make : ℕ → ℕ → B) (row : ℕ → ℕ) where
  abbrev per_node : ℕ → List B
  per_node i = map (make i) (members (row i))

  abbrev per_edge : ℕ → List B
  per_edge s = flat_map per_node (members s)

  edge_from : (s : ℕ) (x : B) → Memᴰ x (per_edge s) → (i : ℕ) × (j : ℕ) × In i s × In j (row i) × (x ≡ make i j)
  edge_from s x m =
      let n = each_from per_node (members s) x m in
      let e = mapped_from (make n.0) (members (row n.0)) x n.2 in
      (n.0, e.0, (members_in s n.0).0 n.1, (members_in (row n.0) e.0).0 e.1, e.2)

  node_in : (i j : ℕ) → In j (row i) → Memᴰ (make i j) (per_node i)
  node_in i j m = mapped (make i) (members (row i)) j ((members_in (row i) j).1 m)

  edge_in : (s i j : ℕ) → In i s → In j (row i) → Memᴰ (make i j) (per_edge s)
  edge_in s i j m n = each_in per_node (members s) i (make i j) ((members_in s i).1 m) (node_in i j n)

  node_length : (i : ℕ) → length (per_node i) ≡ size (row i)
  node_length i = length-map (members (row i)) (make i) ∙ sym (size_members (row i))

  edge_length : (s : ℕ) → length (per_edge s) ≡ total (λ i. size (row i)) (members s)
  edge_length s = each_length per_node (members s) ∙ λ t. total (λ i. node_length i t) (members s)

  edge_once : Apart make → (s : ℕ) → Once (per_edge s)
  edge_once apart s =
      once_each per_node (λ i. once_map (make i) (members (row i)) (λ j l m n e. (apart i j i l e).1) (members_once (row i))) one (members s) (members_once s)
    where
      one : (i k : ℕ) (x : B) → Memᴰ x (per_node i) → Memᴰ x (per_node k) → i ≡ k
      one i k x m n =
          let p = mapped_from (make i) (members (row i)) x m in
          let q = mapped_from (make k) (members (row k)) x n in
          (apart i p.0 k q.0 (sym p.2 ∙ q.2)).0

-- ---- the messages

-- Who sends each kind to whom, where c are the called nodes and f the free ones: NOTIFY goes along every edge that leaves a
-- node of c, and DONE comes back; GRANT goes back along every edge that enters a node of f, and ACK comes along it.
abbrev pub Along : Waits → ℕ → ℕ → Kind → ℕ → ℕ → Type 0
Along w c f Notify a b = In a c × In b (w.out a)
Along w c f Grant a b = In a f × In b (in_of w a)
Along w c f Ack a b = In b f × In a (in_of w b)
Along w c f Done a b = In b c × In a (w.out b)

abbrev pub Owed : Waits → ℕ → ℕ → ℕ → Letter → Type 0
Owed w round c f m = (m.round ≡ round) × Along w c f m.kind m.from m.to

abbrev all_kinds : List Kind
all_kinds = Notify ∷ Grant ∷ Ack ∷ Done ∷ []

every : (k : Kind) → Memᴰ k all_kinds
every Notify = here refl
every Grant = there (here refl)
every Ack = there (there (here refl))
every Done = there (there (there (here refl)))

all_once : Once all_kinds
all_once = (new Notify (Grant ∷ Ack ∷ Done ∷ []) refl, (new Grant (Ack ∷ Done ∷ []) refl, (new Ack (Done ∷ []) refl, (new Done [] refl, tt))))
  where
    -- kinds are told apart by their numbers
    new : (k : Kind) (l : List Kind) → any_of (eqb (kind_number k)) (map kind_number l) ≡ false → Memᴰ k l → ⊥
    new k l e m =
        false≢true (sym e ∙ some_any (eqb (kind_number k)) (map kind_number l) (kind_number k) (mapped kind_number l k m) (eq-eqb (kind_number k) (kind_number k) refl))

module _ (w : Waits) (round c f : ℕ) where
  -- from a node to one of its row; and the other way
  abbrev onward : Kind → ℕ → ℕ → Letter
  onward kind i j = letter kind i j round

  abbrev back : Kind → ℕ → ℕ → Letter
  back kind i j = letter kind j i round

  onward_apart : (kind : Kind) → Apart (onward kind)
  onward_apart kind i j k l e = (ap (λ (m : Letter). m.from) e, ap (λ (m : Letter). m.to) e)

  back_apart : (kind : Kind) → Apart (back kind)
  back_apart kind i j k l e = (ap (λ (m : Letter). m.to) e, ap (λ (m : Letter). m.from) e)

  abbrev of_kind : Kind → List Letter
  of_kind Notify = per_edge (onward Notify) w.out c
  of_kind Grant = per_edge (onward Grant) (in_of w) f
  of_kind Ack = per_edge (back Ack) (in_of w) f
  of_kind Done = per_edge (back Done) w.out c

  is_owed : (kind : Kind) (a b : ℕ) {m : Letter} → m ≡ letter kind a b round → Along w c f kind a b → (m.kind ≡ kind) × Owed w round c f m
  is_owed kind a b e h = (ap (λ (x : Letter). x.kind) e, subst (λ (x : Letter). Owed w round c f x) (sym e) (refl, h))

  of_kind_lem : (kind : Kind) (m : Letter) → Memᴰ m (of_kind kind) → (m.kind ≡ kind) × Owed w round c f m
  of_kind_lem Notify m i = let e = edge_from (onward Notify) w.out c m i in is_owed Notify e.0 e.1 e.4 (e.2, e.3)
  of_kind_lem Grant m i = let e = edge_from (onward Grant) (in_of w) f m i in is_owed Grant e.0 e.1 e.4 (e.2, e.3)
  of_kind_lem Ack m i = let e = edge_from (back Ack) (in_of w) f m i in is_owed Ack e.1 e.0 e.4 (e.2, e.3)
  of_kind_lem Done m i = let e = edge_from (back Done) w.out c m i in is_owed Done e.1 e.0 e.4 (e.2, e.3)

  in_kind : (kind : Kind) (a b : ℕ) → Along w c f kind a b → Memᴰ (letter kind a b round) (of_kind kind)
  in_kind Notify a b h = edge_in (onward Notify) w.out c a b h.0 h.1
  in_kind Grant a b h = edge_in (onward Grant) (in_of w) f a b h.0 h.1
  in_kind Ack a b h = edge_in (back Ack) (in_of w) f b a h.0 h.1
  in_kind Done a b h = edge_in (back Done) w.out c b a h.0 h.1

  kind_once : (kind : Kind) → Once (of_kind kind)
  kind_once Notify = edge_once (onward Notify) w.out (onward_apart Notify) c
  kind_once Grant = edge_once (onward Grant) (in_of w) (onward_apart Grant) f
  kind_once Ack = edge_once (back Ack) (in_of w) (back_apart Ack) f
  kind_once Done = edge_once (back Done) w.out (back_apart Done) c

  unfoldable pub due : List Letter
  due = flat_map of_kind all_kinds

  pub due_in : (m : Letter) → Memᴰ m due ↔ Owed w round c f m
  unfolding due
  due_in m = (
    λ i. let k = each_from of_kind all_kinds m i in (of_kind_lem k.0 m k.2).1,
    λ o. each_in of_kind all_kinds m.kind m (every m.kind) (Memᴰ.cast (same o.0) (in_kind m.kind m.from m.to o.1)),
  )
    where
      same : m.round ≡ round → m ≡ letter m.kind m.from m.to round
      same e = ap (letter m.kind m.from m.to) e

  pub due_once : Once due
  unfolding due
  due_once = once_each of_kind kind_once (λ k l m i j. sym (of_kind_lem k m i).0 ∙ (of_kind_lem l m j).0) all_kinds all_once

  pub due_length : length due ≡ 2 * leaving w c + 2 * entering w f
  unfolding due leaving entering
  due_length =
      let n = edge_length (onward Notify) w.out c in
      let g = edge_length (onward Grant) (in_of w) f in
      let a = edge_length (back Ack) (in_of w) f in
      let d = edge_length (back Done) w.out c in
      let t = each_length of_kind all_kinds in
      omega arith

-- ---- no more edges leave or enter some nodes than there are
abbrev pair : ℕ → ℕ → ℕ × ℕ
pair i j = (i, j)

module _ (w : Waits) where
  -- the edges that leave the nodes below k
  abbrev pairs_to : ℕ → List (ℕ × ℕ)
  pairs_to zero = []
  pairs_to (suc k) = pairs_to k ++ per_node pair w.out k

  pairs_length : (k : ℕ) → length (pairs_to k) ≡ edges_to w k
  unfolding edges_to
  pairs_length zero = refl
  pairs_length (suc k) = length-append (pairs_to k) (per_node pair w.out k) ∙ ap₂ (λ (x y : ℕ). x + y) (pairs_length k) (node_length pair w.out k)

  pairs_in : (k i j : ℕ) → i < k → In j (w.out i) → Memᴰ (i, j) (pairs_to k)
  pairs_in zero i j h m = absurd (not-suc-le-zero h)
  pairs_in (suc k) i j h m =
      let ih = pairs_in k i j in
      elim (ℕ_discrete i k) [
        | yes e ↦ Memᴰ.append_right (pairs_to k) (subst (λ (x : ℕ). Memᴰ (i, j) (per_node pair w.out x)) e (node_in pair w.out i j m))
        | no n ↦ Memᴰ.append_left (per_node pair w.out k) (ih (omega arith) m)
      ]

  -- rows of which each place is an edge of its own
  no_more : (make : ℕ → ℕ → ℕ × ℕ) (row : ℕ → ℕ) (s : ℕ) → Apart make
      → ((i j : ℕ) → In i s → In j (row i) → ((make i j).0 < w.nodes) × In (make i j).1 (w.out (make i j).0))
      → total (λ i. size (row i)) (members s) ≤ edges w
  unfolding edges
  no_more make row s apart edge =
      let l = edge_length make row s in
      let p = pairs_length w.nodes in
      let n = no_longer (per_edge make row s) (pairs_to w.nodes) (edge_once make row apart s) among in
      omega arith
    where
      among : (x : ℕ × ℕ) → Memᴰ x (per_edge make row s) → Memᴰ x (pairs_to w.nodes)
      among x m =
          let e = edge_from make row s x m in
          let h = edge e.0 e.1 e.2 e.3 in
          Memᴰ.cast e.4 (pairs_in w.nodes (make e.0 e.1).0 (make e.0 e.1).1 h.0 h.1)

  pub leaving_le : (c : ℕ) → Inside c (below w.nodes) → leaving w c ≤ edges w
  unfolding leaving
  leaving_le c inside =
      no_more pair w.out c (λ i j k l e. (ap (λ (p : ℕ × ℕ). p.0) e, ap (λ (p : ℕ × ℕ). p.1) e))
      (λ i j m n. ((in_below w.nodes i).0 (inside_member c (below w.nodes) i inside m), n))

  pub entering_le : (f : ℕ) → entering w f ≤ edges w
  unfolding entering
  entering_le f =
      no_more (λ i j. (j, i)) (in_of w) f (λ i j k l e. (ap (λ (p : ℕ × ℕ). p.1) e, ap (λ (p : ℕ × ℕ). p.0) e)) (λ i j m n. (in_of_lem w i j).0 n)
