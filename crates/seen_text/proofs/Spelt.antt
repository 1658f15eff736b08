-- The characters of a text and their bytes
use Rattle.std.proofs.Common.{◌≡◌, ℕ, zero, suc, ◌+◌, ◌-◌, ◌<◌, ◌≤◌, true, List, [], ◌∷◌, ◌++◌, map, length, get_or, take, drop, IsUtf8, sym, refl, ap, ◌∙◌, subst, ap₂, arith, length-append, length-drop}
use lib.Utf8.{encode, encodes, scalar, scalars}
use Rattle.std.specs.Char.{len_utf8}
use Rattle.std.specs.Str.{IsCharBoundary, chars as decodes}
use Rattle.std.proofs.lemmas.List.{nil_from_length, take_at, take_more, flat_map_more}
use Rattle.std.proofs.lemmas.Str.{length-encode, IsCharBoundary-from_drop, IsCharBoundary-past_char, scalars-chars, encodes-chars, chars-nil, drop_past_char, IsUtf8-past_char, chars_past_char}
use Rattle.std.proofs.lemmas.Bool.{and_parts}
use Rattle.std.specs.Str.Iter.{char_indices_offset, char_indices_rest, char_indices_steps}
use Rattle.std.specs.declared.str.CharIndices.{CharIndices}
use Rattle.std.proofs.lemmas.Iterator.{YieldsList}
use Rattle.std.proofs.lemmas.Iterator.Splits.{YieldsList-from_shown_while}
use Rattle.std.specs.List.{zip}
use Rattle.visual_order.specs.declared.character.Character.{Character}
use Rattle.seen_text.specs.Seen.{characters_of, level_of, seen_bytes}

-- characters, each with the byte at which it starts
abbrev pub placed : ℕ → List ℕ → List (ℕ × ℕ)
placed start [] = []
placed start (c ∷ chars) = (start, c) ∷ placed (start + len_utf8 c) chars

pub made_of : (start : ℕ) (chars levels : List ℕ) → map (λ p. record { start = p.0.0; len = len_utf8 p.0.1; level = p.1 }) (zip (placed start chars) levels) ≡ characters_of start chars levels
made_of start [] levels = refl
made_of start (c ∷ chars) [] = refl
made_of start (c ∷ chars) (level ∷ levels) = ap (λ (t : List Character). record { start = start; len = len_utf8 c; level = level } ∷ t) (made_of (start + len_utf8 c) chars levels)

-- what the characters of a text and the bytes at which they start are
pub places_given : (s : CharIndices) (text : List ℕ) → IsUtf8 text → char_indices_rest s ≡ text → char_indices_offset s ≡ 0 → YieldsList char_indices_steps (λ p. p) s (placed 0 (decodes text))
places_given s text u rest offset =
    let shown : CharIndices → List (ℕ × ℕ) = λ t. placed (char_indices_offset t) (decodes (char_indices_rest t)) in
    subst (YieldsList char_indices_steps (λ p. p) s) (ap₂ (λ (n : ℕ) (t : List ℕ). placed n (decodes t)) offset rest)
    (YieldsList-from_shown_while char_indices_steps (λ p. p) shown (λ t. IsUtf8 (char_indices_rest t))
    (λ t v h k. ap (λ (bs : List ℕ). length (placed (char_indices_offset t) bs)) (ap decodes (nil_from_length (char_indices_rest t) k.0) ∙ chars-nil))
    (λ t p v h k. (
      IsUtf8-past_char (char_indices_rest t) (char_indices_rest v) p.1 h k.1,
      ap (placed (char_indices_offset t)) (chars_past_char (char_indices_rest t) (char_indices_rest v) p.1 h k.1)
          ∙ ap₂ (λ (at next : ℕ). (at, p.1) ∷ placed next (decodes (char_indices_rest v))) (sym k.0) (ap (λ (n : ℕ). char_indices_offset t + n) (sym (length-encode p.1)) ∙ sym k.2),
    ))
    s (subst IsUtf8 (sym rest) u))

-- what the bytes of a text are at one of its characters
pub record Stands (text : List ℕ) (ch : Character) (c : ℕ) : Type 0 where
  pub rest : List ℕ
  pub long : ch.len ≡ len_utf8 c
  pub within : ch.start ≤ length text
  pub spelt : IsUtf8 (drop ch.start text)
  pub is : drop ch.start text ≡ encode c ++ rest

stands_from : (text chars levels : List ℕ) (start i : ℕ) (d : Character) → scalars chars ≡ true → start ≤ length text → drop start text ≡ encodes chars → i < length (characters_of start chars levels) → Stands text (get_or (characters_of start chars levels) i d) (get_or chars i 0)
stands_from text [] levels start i d sc within is l = absurd (omega arith)
stands_from text (c ∷ chars) [] start i d sc within is l = absurd (omega arith)
stands_from text (c ∷ chars) (level ∷ levels) start zero d sc within is l =
    record { rest = encodes chars; long = refl; within = within; spelt = (c ∷ chars, (sc, sym is)); is = is }
stands_from text (c ∷ chars) (level ∷ levels) start (suc i) d sc within is l =
    stands_from text chars levels (start + len_utf8 c) i d (and_parts (scalar c) (scalars chars) sc).1
    (omega (arith, ap length is, length-append (encode c) (encodes chars), length-encode c, length-drop start text))
    (drop_past_char text (encodes chars) start c is) (omega arith)

module _ {text : List ℕ} {ch : Character} {c : ℕ} (s : Stands text ch c) where
  pub ends_within : ch.start + ch.len ≤ length text
  ends_within = omega (arith, s.within, s.long, ap length s.is, length-append (encode c) s.rest, length-encode c, length-drop ch.start text)

  pub starts_whole : IsCharBoundary text ch.start
  starts_whole = IsCharBoundary-from_drop text ch.start s.within s.spelt

  pub ends_whole : IsCharBoundary text (ch.start + ch.len)
  ends_whole = subst (λ (n : ℕ). IsCharBoundary text (ch.start + n)) (sym s.long) (IsCharBoundary-past_char text s.rest ch.start c s.within s.spelt s.is)

  pub bytes_are : take (ch.start + ch.len - ch.start) (drop ch.start text) ≡ encode c
  bytes_are = ap (take (ch.start + ch.len - ch.start)) s.is ∙ take_at (encode c) s.rest (ch.start + ch.len - ch.start) (omega (arith, length-encode c, s.long))

pub stands : (text levels : List ℕ) (characters : List Character) (i : ℕ) (d : Character) → IsUtf8 text → characters ≡ characters_of 0 (decodes text) levels → i < length characters → Stands text (get_or characters i d) (get_or (decodes text) i 0)
stands text levels characters i d u is l =
    subst (λ (cs : List Character). Stands text (get_or cs i d) (get_or (decodes text) i 0)) (sym is)
    (stands_from text (decodes text) levels 0 i d (scalars-chars text u) (omega arith) (sym (encodes-chars text u)) (omega (arith, ap length is)))

-- one character more is seen
pub seen_more : (chars order seen after bytes : List ℕ) (i : ℕ) → i < length order → seen ≡ seen_bytes chars (take i order) → after ≡ seen ++ bytes → bytes ≡ encode (get_or chars (get_or order i 0) 0) → after ≡ seen_bytes chars (take (i + 1) order)
seen_more chars order seen after bytes i l seen_is after_is bytes_is =
    after_is
    ∙ ap₂ ◌++◌ seen_is bytes_is
    ∙ flat_map_more (λ n. encode (get_or chars n 0)) [] (take i order) (get_or order i 0)
    ∙ ap (seen_bytes chars) (sym (take_more order i 0 l))

-- the characters have the levels that they were given
pub levels_are : (start : ℕ) (chars levels : List ℕ) → length chars ≡ length levels → map level_of (characters_of start chars levels) ≡ levels
levels_are start [] [] e = refl
levels_are start [] (level ∷ levels) e = absurd (omega arith)
levels_are start (c ∷ chars) [] e = absurd (omega arith)
levels_are start (c ∷ chars) (level ∷ levels) e = ap (λ (t : List ℕ). level ∷ t) (levels_are (start + len_utf8 c) chars levels (omega arith))
