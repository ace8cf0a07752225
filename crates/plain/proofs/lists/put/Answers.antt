use Rattle.std.proofs.Common.{suc, ◌<◌, ◌++◌, length, take, drop, sym, ap, ◌∙◌, arith}
use Rattle.std.specs.Option.{option_to_list}
use Rattle.std.proofs.lemmas.List.{set_split}
use Rattle.plain.proofs.lists.put.Goals as goal

pub returns-in-Some-clause-items : goal.returns-in-Some-clause-items
returns-in-Some-clause-items g c =
    let v = c.args.ring.now in
    let o = v.ok.0 in let p = c.requires in
    let h : c.args.at < length v.items = omega arith in
    set_split v.items c.args.at c.in-Some.e h ∙ ap (λ o. take c.args.at v.items ++ (option_to_list o ++ drop (suc c.args.at) v.items)) (sym c.in-Some.is)
