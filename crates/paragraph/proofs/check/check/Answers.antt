use Rattle.paragraph.proofs.Verdicts.{granted, refused}
use Rattle.paragraph.proofs.check.check.Goals as goal

pub returns : goal.returns
returns c = record {
  exact = c.run_checks.ensures;
  granted = granted _ _ _ c.run_checks.ensures;
  refused = refused _ _ _ c.run_checks.ensures;
}
