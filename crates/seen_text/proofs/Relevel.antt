-- The characters of a text, by their bytes, and their levels after the resets
use Rattle.std.proofs.Common.{◌≡◌, ℕ, zero, suc, ◌+◌, ◌<◌, ◌≤◌, Bool, true, false, cond, List, [], ◌∷◌, ◌++◌, map, length, get_or, take, drop, replicate, Result, sym, refl, ap, ◌∙◌, subst, ap₂, append_assoc, arith, length-append}
use lib.ListN.{length-replicate}
use Rattle.std.specs.Char.{len_utf8}
use Rattle.std.specs.List.{All, AllByRecursion}
use Rattle.std.proofs.ByRecursion.{All-get_or, All-weaker}
use Rattle.std.proofs.lemmas.List.{drop_at, get_or-append-add, get_or_append_left, get_or-replicate, length-map, take_at}
use Rattle.std.proofs.lemmas.Str.{len_utf8_bounds}
use Rattle.levels.specs.Classes.{Role, class_of, code_of, other, removed, role_of, separator, space}
use Rattle.levels.specs.Refusals.{verdict}
use Rattle.levels.specs.RuleL1.{adjusted, releveled, resets, roles_of}
use Rattle.levels.specs.declared.fault.ClassCause.{ClassCause}
use Rattle.levels.specs.declared.fault.ClassTable.{ClassTable}
use Rattle.refusals.specs.declared.fault.Fault.{Fault}
use Rattle.visual_order.specs.declared.character.Character.{Character}
use Rattle.seen_text.specs.Classes.{Resets}
use Rattle.seen_text.specs.Resets.{ResetsByRule, byte_lengths, byte_levels, first_levels, reset_levels, reset_verdict}
use Rattle.seen_text.specs.Seen.{characters_of}

-- a character has up to four bytes
short : (start : ℕ) (chars levels : List ℕ) → AllByRecursion (λ c. c.len ≤ 4) (characters_of start chars levels)
short start [] levels = tt
short start (c ∷ chars) [] = tt
short start (c ∷ chars) (level ∷ levels) = ((len_utf8_bounds c).1, short (start + len_utf8 c) chars levels)

pub all_short : (chars levels : List ℕ) (characters : List Character) → characters ≡ characters_of 0 chars levels → All (λ c. c.len ≤ 4) characters
all_short chars levels characters is = λ k d l. All-get_or (λ c. c.len ≤ 4) characters k d l (subst (AllByRecursion (λ c. c.len ≤ 4)) (sym is) (short 0 chars levels))

-- each character has a first byte
inside : (start : ℕ) (chars levels : List ℕ) → AllByRecursion (λ c. c.start < start + length (byte_levels (characters_of start chars levels))) (characters_of start chars levels)
inside start [] levels = tt
inside start (c ∷ chars) [] = tt
inside start (c ∷ chars) (level ∷ levels) =
    let more = characters_of (start + len_utf8 c) chars levels in
    let long = length-append (replicate (len_utf8 c) level) (byte_levels more) in
    let own = length-replicate (len_utf8 c) level in (
      omega (arith, long, own, len_utf8_bounds c),
      All-weaker (λ d. d.start < (start + len_utf8 c) + length (byte_levels more)) (λ d. d.start < start + length (byte_levels (characters_of start (c ∷ chars) (level ∷ levels)))) (λ d l. omega (arith, long, own, l)) more (inside (start + len_utf8 c) chars levels),
    )

pub all_inside : (chars levels bytes : List ℕ) (characters : List Character) → characters ≡ characters_of 0 chars levels → length bytes ≡ length (byte_levels (characters_of 0 chars levels)) → All (λ c. c.start < length bytes) characters
all_inside chars levels bytes characters is long = λ k d l.
    let below : AllByRecursion (λ c. c.start < 0 + length (byte_levels (characters_of 0 chars levels))) characters = subst (AllByRecursion (λ c. c.start < 0 + length (byte_levels (characters_of 0 chars levels)))) (sym is) (inside 0 chars levels) in
    omega (arith, long, All-get_or (λ c. c.start < 0 + length (byte_levels (characters_of 0 chars levels))) characters k d l below)

-- the tables that the rule is given
module _ (asked : Resets) (characters : List Character) (codes lengths bytes : List ℕ) (codes_are : codes ≡ map code_of asked.classes) (lengths_are : lengths ≡ byte_lengths characters) (bytes_are : bytes ≡ byte_levels characters) where
  pub verdict_is : (r : Result (Unit {0}) (Fault ClassCause ClassTable)) → r ≡ verdict asked.paragraph codes lengths bytes → reset_verdict asked characters ≡ r
  verdict_is r e =
      sym (e ∙ ap (λ (t : List ℕ). verdict asked.paragraph t lengths bytes) codes_are ∙ ap₂ (λ (t u : List ℕ). verdict asked.paragraph (map code_of asked.classes) t u) lengths_are bytes_are)

  pub reset_is : (same : List Character) (after list levels : List ℕ) → after ≡ adjusted asked.paragraph codes lengths bytes → list ≡ after → same ≡ characters → levels ≡ first_levels list same → levels ≡ reset_levels asked characters
  reset_is same after list levels after_is list_is same_is levels_are =
      let adjusted_is : list ≡ adjusted asked.paragraph (map code_of asked.classes) (byte_lengths characters) (byte_levels characters) = list_is ∙ after_is ∙ ap (λ (t : List ℕ). adjusted asked.paragraph t lengths bytes) codes_are ∙ ap₂ (λ (t u : List ℕ). adjusted asked.paragraph (map code_of asked.classes) t u) lengths_are bytes_are in
      levels_are ∙ ap₂ first_levels adjusted_is same_is

-- WHAT THE LEVELS AFTER THE RULE ARE, character by character

-- the bytes of one character that has the level `own`, of which there is one at least
module _ (level own n : ℕ) (some : 0 < n) (more : List ℕ) where
  abbrev block : Bool → List ℕ
  block reset = cond reset (replicate n level) (take n (replicate n own ++ more))

  block_long : (reset : Bool) → length (block reset) ≡ n
  block_long true = length-replicate n level
  block_long false = ap length (take_at (replicate n own) more n (length-replicate n own)) ∙ length-replicate n own

  block_first : (reset : Bool) → get_or (block reset) 0 0 ≡ cond reset level own
  block_first true = get_or-replicate n 0 level 0 some
  block_first false = ap (λ (t : List ℕ). get_or t 0 0) (take_at (replicate n own) more n (length-replicate n own)) ∙ get_or-replicate n 0 own 0 some

level_after : (level : ℕ) (flags : List Bool) (start : ℕ) (chars levels before bytes : List ℕ) (k : ℕ) → length flags ≡ length chars → length chars ≡ length levels → length before ≡ start → bytes ≡ before ++ releveled level flags (byte_lengths (characters_of start chars levels)) (byte_levels (characters_of start chars levels)) → k < length levels → get_or (first_levels bytes (characters_of start chars levels)) k 0 ≡ cond (get_or flags k false) level (get_or levels k 0)
level_after level flags start [] levels before bytes k flagged long at is l = absurd (omega arith)
level_after level flags start (c ∷ chars) [] before bytes k flagged long at is l = absurd (omega arith)
level_after level [] start (c ∷ chars) (own ∷ levels) before bytes k flagged long at is l = absurd (omega arith)
level_after level (reset ∷ flags) start (c ∷ chars) (own ∷ levels) before bytes zero flagged long at is l =
    let n = len_utf8 c in
    let some : 0 < n = omega (arith, len_utf8_bounds c) in
    let more = byte_levels (characters_of (start + n) chars levels) in
    let rest = releveled level flags (byte_lengths (characters_of (start + n) chars levels)) (drop n (replicate n own ++ more)) in
    let place : start ≡ length before + 0 = omega arith in
    ap₂ (λ (t : List ℕ) (i : ℕ). get_or t i 0) is place
    ∙ get_or-append-add before (block level own n some more reset ++ rest) 0 0
    ∙ get_or_append_left (block level own n some more reset) rest 0 0 (omega (arith, block_long level own n some more reset))
    ∙ block_first level own n some more reset
level_after level (reset ∷ flags) start (c ∷ chars) (own ∷ levels) before bytes (suc k) flagged long at is l =
    let n = len_utf8 c in
    let some : 0 < n = omega (arith, len_utf8_bounds c) in
    let characters = characters_of (start + n) chars levels in
    let more = byte_levels characters in
    let own_Block = block level own n some more reset in
    level_after level flags (start + n) chars levels (before ++ own_Block) bytes k (omega arith) (omega arith) (omega (arith, length-append before own_Block, block_long level own n some more reset))
    (is ∙ ap (λ (t : List ℕ). before ++ (own_Block ++ releveled level flags (byte_lengths characters) t)) (drop_at (replicate n own) more n (length-replicate n own)) ∙ sym (append_assoc before own_Block (releveled level flags (byte_lengths characters) more)))
    (omega arith)

resets_long : (run : Bool) (line : List Role) → length (resets run line) ≡ length line
resets_long run [] = refl
resets_long run (separator ∷ line) = ap suc (resets_long false line)
resets_long run (space ∷ line) = ap suc (resets_long true line)
resets_long run (removed ∷ line) = ap suc (resets_long run line)
resets_long run (other ∷ line) = ap suc (resets_long false line)

pub resets_by_rule : ResetsByRule
resets_by_rule = λ asked chars levels long classed k l.
    let codes = map code_of asked.classes in
    level_after asked.paragraph (resets true (roles_of codes)) 0 chars levels [] _ k (resets_long true (roles_of codes) ∙ length-map codes (λ code. role_of (class_of code)) ∙ length-map asked.classes code_of ∙ sym classed) long refl refl l
