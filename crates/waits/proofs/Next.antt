-- One line of the table more, after an answer to those before it. Assumes nothing.
use mathlib.Core.Path.{◌≡◌, refl, sym, ap, ◌∙◌}
use mathlib.Core.Bool.{Bool, true, false, cond}
use mathlib.Core.List.{List, [], ◌∷◌, ◌++◌}
use mathlib.Core.List.Memᴰ.{head as here}
use Rattle.std.specs.Prelude.{Result, Ok, Err}
use Rattle.waits.specs.declared.refusals.Refusal.{Refusal}
use Rattle.waits.specs.Numbers.{Line, first_said}
use Rattle.waits.proofs.Table.{or_else, said_append, refused_not_accepted, accepted_silent}

-- s is the answer when the line l follows those that answered a
abbrev pub Next : Result Unit Refusal → Line → Result Unit Refusal → Type 0
Next a l s = s ≡ or_else a (first_said (l ∷ []))

pub next : (ls : List Line) (l : Line) → Next (first_said ls) l (first_said (ls ++ l ∷ []))
next ls l = said_append ls (l ∷ [])

-- ---- what is answered then
module _ {a s : Result Unit Refusal} (l : Line) (follows : Next a l s) where
  pub after : {x : Result Unit Refusal} → a ≡ x → s ≡ or_else x (first_said (l ∷ []))
  after e = follows ∙ ap (λ (x : Result Unit Refusal). or_else x (first_said (l ∷ []))) e

  pub refused_before : {r : Refusal} → a ≡ Err r → Err r ≡ s
  refused_before e = sym (after e)

  pub refused_here : a ≡ Ok tt → l.says ≡ true → Err l.gives ≡ s
  refused_here e f = sym (after e ∙ ap (λ (b : Bool). cond b (Err l.gives) (Ok tt)) f)

  pub not_refused : a ≡ Ok tt → l.says ≡ false → Ok tt ≡ s
  not_refused e f = sym (after e ∙ ap (λ (b : Bool). cond b (Err l.gives) (Ok tt)) f)

-- ---- and back: what isn't refused
or_both : (a b : Result Unit Refusal) → or_else a b ≡ Ok tt → (a ≡ Ok tt) × (b ≡ Ok tt)
or_both (Ok tt) b e = (refl, e)
or_both (Err r) b e = absurd (refused_not_accepted e)

pub next_accepted : {a s : Result Unit Refusal} (l : Line) → Next a l s → s ≡ Ok tt → (a ≡ Ok tt) × (l.says ≡ false)
next_accepted {a} l follows e =
    let p = or_both a (first_said (l ∷ [])) (sym follows ∙ e) in
    (p.0, accepted_silent (l ∷ []) p.1 l (here refl))
