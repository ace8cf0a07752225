use Rattle.std.proofs.Common.{◌≡◌, ℕ, Bool, true, false, cond, not, ltb, if◌then◌else◌, Some, None, vec_items, Option, sym, refl, ap, ◌∙◌}
use Rattle.std.proofs.lemmas.Bool.{le-ltb}
use Rattle.machine.specs.Entry.{count, idle}
use Rattle.records.specs.Reading.{entry_of, entries_of}
use Rattle.plain.proofs.Placing.{some_counted}
use Rattle.plain.proofs.hands.State.is_full.Goals as goal

no_idle : (b : Bool) → cond {A = Option ℕ} b None (Some 11) ≡ (if not b then Some 11 else None)
no_idle true = refl
no_idle false = refl

pub returns-then-self : goal.returns-then-self
returns-then-self g c =
    let w = g.K.Key.meaning in let s = c.args.self.now in let es = vec_items s.ring in
    ap (λ b. cond b None (cond (ltb 0 (count idle (entries_of w es))) None (Some 11))) (le-ltb s.used s.frames c.if-self.true)
    ∙ ap (λ b. cond b None (Some 11)) (sym (c.has_idle.ensures ∙ some_counted (entry_of w) idle es))
    ∙ no_idle c.has_idle.result
