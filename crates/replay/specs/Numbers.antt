-- Numbers that words write
use Rattle.std.specs.Prelude.{ℕ, List, Ok, Result}
use Rattle.std.specs.Borrow.{Bor}
use Rattle.std.specs.List.{AllZip}

-- there is a number for each word, and it is what the word is read as
abbrev pub Reads : {N E : Type 0} → (List ℕ → Result N E → Type 0) → List (Bor (List ℕ)) → List N → Type 0
Reads reads words numbers = AllZip (λ word number. reads word.now (Ok number)) words numbers
