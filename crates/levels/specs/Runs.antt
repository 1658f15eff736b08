-- What one character of a line does in the scan by rule L1, with the run that stands open before it.
use Rattle.std.specs.Prelude.{ℕ, ◌-◌, List, ◌++◌, take, drop, replicate, Option, Some, None}
use Rattle.levels.specs.Classes.{Role, separator, space, removed, other}

-- levels of which the bytes from..to are given the paragraph's
abbrev pub painted : ℕ → ℕ → ℕ → List ℕ → List ℕ
painted level from to levels = (take from levels ++ replicate (to - from) level) ++ drop to levels

-- the first byte of the run that stands open, if one does, after a character of the bytes at..end: only white space and isolate
-- formatting open one, only what X9 removed leaves it as it is, and any other character shuts it
abbrev pub run_after : Option ℕ → Role → ℕ → Option ℕ
run_after (Some from) separator at = None
run_after (Some from) space at = Some from
run_after (Some from) removed at = Some from
run_after (Some from) other at = None
run_after None separator at = None
run_after None space at = Some at
run_after None removed at = None
run_after None other at = None

-- where a run that a separator at this place would end began
abbrev pub start_of : Option ℕ → ℕ → ℕ
start_of (Some from) at = from
start_of None at = at

-- the levels after it: a separator resets the open run together with itself
abbrev pub levels_after : ℕ → Option ℕ → Role → ℕ → ℕ → List ℕ → List ℕ
levels_after paragraph run separator at end levels = painted paragraph (start_of run at) end levels
levels_after paragraph run space at end levels = levels
levels_after paragraph run removed at end levels = levels
levels_after paragraph run other at end levels = levels
