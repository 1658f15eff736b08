use Rattle.std.proofs.Common.{sym, subst, rules}
use Rattle.levels.specs.RuleL1.{Leveled, roles_of}
use Rattle.levels.proofs.Bytes.{leveled}
use Rattle.levels.proofs.Verdicts.{judged}
use Rattle.levels.proofs.adjust.adjust_levels.Goals as goal

pub reset_runs-requires : goal.reset_runs-requires
reset_runs-requires c =
    judged c.args.paragraph_level c.args.classes.now c.args.lengths.now c.args.levels.now _ c.in_ok-check_tables.ensures

pub returns-in_err-check_tables-clause-grounds : goal.returns-in_err-check_tables-clause-grounds
returns-in_err-check_tables-clause-grounds c =
    judged c.args.paragraph_level c.args.classes.now c.args.lengths.now c.args.levels.now _ (search rules)

pub returns-clause-grounds : goal.returns-clause-grounds
returns-clause-grounds c =
    judged c.args.paragraph_level c.args.classes.now c.args.lengths.now c.args.levels.now _ c.in_ok-check_tables.ensures

pub returns-clause-rule : goal.returns-clause-rule
returns-clause-rule c =
    let fit = judged c.args.paragraph_level c.args.classes.now c.args.lengths.now c.args.levels.now _ c.in_ok-check_tables.ensures in
    subst (λ new. Leveled c.args.paragraph_level (roles_of c.args.classes.now) c.args.lengths.now c.args.levels.now new)
    (sym c.reset_runs.ensures)
    (leveled c.args.paragraph_level c.args.classes.now c.args.lengths.now c.args.levels.now fit)
