use Rattle.std.proofs.Common.{ltb, vec_items, ◌∙◌, ap₂}
use Rattle.machine.specs.Entry.{is_hot}
use Rattle.records.specs.Reading.{entry_of}
use Rattle.plain.proofs.Placing.{counted}
use Rattle.plain.proofs.hands.State.is_too_hot.Goals as goal

pub returns : goal.returns
returns g c = ap₂ ltb c.saturating_sub.ensures (c.hot.ensures ∙ counted (entry_of g.K.Key.meaning) is_hot (vec_items c.args.self.now.ring))
