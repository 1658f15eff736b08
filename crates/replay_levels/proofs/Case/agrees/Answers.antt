use Rattle.std.proofs.Common.{◌≡◌, drop, length, is_ok, true, sym, ◌∙◌, rules, arith}
use Rattle.levels.specs.RuleL1.{adjusted}
use Rattle.std.proofs.lemmas.List.{take_at}
use Rattle.std.proofs.lemmas.Slice.Eq.{slice_eq-Decides}
use Rattle.std.proofs.lemmas.Bool.Decides.{Decides-eqb}
use Rattle.replay_levels.proofs.Case.agrees.Goals as goal

pub returns-then-is_ok : goal.returns-then-is_ok
returns-then-is_ok c h =
    let last = c.adjust_levels.new.levels in
    let last_long : length last ≡ c.args.self.now.levels.len = omega (arith, c.adjust_levels.auto.levels, c.deref_mut.ensures.len) in
    let list_is = take_at last (drop (length last) c.args.self.now.levels.items) c.args.self.now.levels.len last_long in
    let granted : is_ok c.adjust_levels.result ≡ true = sym c.is_ok.ensures.value ∙ c.if-is_ok.true in
    let written : last ≡ adjusted c.args.self.now.paragraph_level c.args.self.now.classes.items c.args.self.now.lengths.items c.args.self.now.levels.items = search rules in
    (search rules, sym written ∙ sym list_is ∙ (slice_eq-Decides Decides-eqb _ _ _ c.eq.ensures).0 h)
