-- The parts of words that stand in a stretch
use Rattle.std.specs.Prelude.{◌≡◌, ℕ, zero, suc, ◌+◌, ◌-◌, cond, List, [], ◌++◌, ◌==◌}
use Rattle.std.specs.List.{range_with_len}
use Rattle.paragraph.specs.declared.part.Part.{Part}
use Rattle.paragraph.specs.declared.place.Stretch.{Stretch}
use Rattle.paragraph.specs.declared.span.Span.{Span}
use Rattle.paragraph.specs.Text.{Text, word_at}
use Rattle.paragraph.specs.Reading.{boundary}
use Rattle.paragraph.specs.Before.{word_begins}

-- the part of the word w, of n glyphs: from the stretch's start if that is in this word, up to its end if that is
abbrev pub part : Stretch → ℕ → ℕ → Part
part a w n =
    record { low = cond (w == a.start.word) a.start.glyph 0; high = cond (w == a.end.word) a.end.glyph n }

-- the glyphs of the n words from w on that are in a stretch, by their indices in the table
abbrev pub parts_from : Text → Span → Stretch → ℕ → ℕ → List ℕ
parts_from t sp a w zero = []
parts_from t sp a w (suc n) =
    let its = part a w (word_at t (sp.offset + w)).len in
    range_with_len (word_begins t sp w + its.low) (its.high - its.low) ++ parts_from t sp a (w + 1) n

-- word by word, a stretch has exactly the glyphs between its two places
abbrev pub PartsJoin : Text → Span → Stretch → Type 0
PartsJoin t sp a =
    parts_from t sp a a.start.word (suc (a.end.word - a.start.word))
    ≡ range_with_len (boundary t sp a.start) (boundary t sp a.end - boundary t sp a.start)
