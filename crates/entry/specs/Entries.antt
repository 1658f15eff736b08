-- What an entry holds
use Rattle.entry.specs.declared.entry.Entry.{Entry}
use Rattle.entry.specs.declared.progress.Progress.{Progress}

abbrev pub measure_of : {S : Type 0} → Entry S → S
measure_of e = e.measure

abbrev pub progress_of : {S : Type 0} → Entry S → Progress
progress_of e = e.progress
