use Rattle.std.proofs.Common.{ltb, vec_items, ap, ◌∙◌}
use Rattle.machine.specs.Entry.{remembered}
use Rattle.records.specs.Reading.{entry_of}
use Rattle.plain.proofs.Placing.{counted}
use Rattle.plain.proofs.hands.State.has_too_many.Goals as goal

pub returns : goal.returns
returns g c = let s = c.args.self.now in ap (ltb s.frames) (c.remembered.ensures ∙ counted (entry_of g.K.Key.meaning) remembered (vec_items s.ring))
