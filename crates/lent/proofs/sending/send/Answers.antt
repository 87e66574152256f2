-- `send` meets its contract. Assumes nothing.
use native.Mathlib.Omega.{arith}
use Rattle.lent.proofs.Letters.{wrote_all}
use Rattle.records.specs.declared.messages.Kind.TheVariants.{Ack, Done, Grant, Notify}
use Rattle.lent.proofs.sending.send.Goals as goal

pub send_kind-second-requires : goal.send_kind-second-requires
send_kind-second-requires c = (omega (arith, c.requires.0), c.requires.1 Notify, c.requires.2, c.requires.3)

pub send_kind-third-requires : goal.send_kind-third-requires
send_kind-third-requires c = (omega (arith, c.requires.0, c.send_kind-second.ensures.0, c.send_kind-second.auto), c.requires.1 Grant, c.requires.2, c.requires.3)

pub send_kind-fourth-requires : goal.send_kind-fourth-requires
send_kind-fourth-requires c = (omega (arith, c.requires.0, c.send_kind-third.ensures.0, c.send_kind-second.ensures.0, c.send_kind-third.auto, c.send_kind-second.auto), c.requires.1 Ack, c.requires.2, c.requires.3)

pub send_kind-requires : goal.send_kind-requires
send_kind-requires c = (omega (arith, c.requires.0, c.send_kind-fourth.ensures.0, c.send_kind-third.ensures.0, c.send_kind-second.ensures.0, c.send_kind-fourth.auto, c.send_kind-third.auto, c.send_kind-second.auto), c.requires.1 Done, c.requires.2, c.requires.3)

pub returns : goal.returns
returns c = wrote_all _ _ _ _ _ _ _ _ _ _ _ _ _ c.send_kind-second.ensures c.send_kind-third.ensures c.send_kind-fourth.ensures c.send_kind.ensures
