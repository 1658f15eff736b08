use Rattle.runs.proofs.Runs.{every_run, every_step}
use Rattle.runs.proofs.Standing.{every_start}
use Rattle.runs.proofs.laws.runs_are_lawful.Goals as goal

pub returns : goal.returns
returns g c =
    let k = g.M.Measure in
    let m = c.args.m.now in
    let laws = c.order_laws.ensures in
    record {
      start = every_start g.row.M-Width.Denot;
      step = every_step k m laws.pairs laws.once;
      run = every_run k m laws.pairs laws.once;
    }
