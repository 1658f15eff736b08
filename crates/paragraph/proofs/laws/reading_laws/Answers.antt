use Rattle.paragraph.proofs.Fitting.{fits}
use Rattle.paragraph.proofs.laws.reading_laws.Goals as goal

pub returns : goal.returns
returns c = fits
