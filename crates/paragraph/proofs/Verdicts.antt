-- The verdict on tables, in words: what a grant says, and what each refusal
use Rattle.std.proofs.Common.{◌≡◌, ℕ, ◌<◌, ◌≤◌, false, ◌⊎◌, List, length, Some, None, Ok, Err, Option, Result, sym, refl, ap, ◌∙◌, subst, inl, inr, arith, length-append}
use Rattle.std.proofs.lemmas.Bool.{cases_lt, le-leb, leb-true, lt-leb, ne_eqb}
use Rattle.std.proofs.lemmas.Bool.Decides.{nat_tests}
use Rattle.glyph.specs.declared.glyph.Glyph.{Glyph}
use Rattle.glyph.specs.Ranges.{glyph_in}
use Rattle.paragraph.specs.declared.fault.TableCause.{TableCause}
use Rattle.paragraph.specs.declared.fault.TableCause.TheVariants.{TooManyRows, GlyphField, WordPair, SpanRow, Ellipsis}
use Rattle.paragraph.specs.Faults.{TableFault}
use Rattle.paragraph.specs.declared.fault.TableName.{TableName}
use Rattle.paragraph.specs.declared.fault.TableName.TheVariants as table
use Rattle.paragraph.specs.declared.word.Word.{Word}
use Rattle.paragraph.specs.declared.span.Span.{Span}
use Rattle.paragraph.specs.Faults.{fault}
use Rattle.paragraph.specs.Pieces.{word_piece, span_piece, first_loose, first_failing}
use Rattle.paragraph.specs.Text.{Text, Sound}
use Rattle.paragraph.specs.Verdict.{verdict, ◌then◌, limited, refused_at, rows_verdict, glyphs_verdict, words_verdict, spans_verdict, ellipsis_verdict}
use Rattle.paragraph.specs.Lawful.{Lawful, Failing, InRange, Few, WordsRun, SpansRun, GoodBefore, Found, FirstFault, GrantedExactly, RefusedExactly}
use Rattle.paragraph.proofs.Failing as failing
use Rattle.paragraph.proofs.Tiling as tiling

-- one check after another
both_ok : (a b : Result (Unit {0}) TableFault) → (a then b) ≡ Ok tt → (a ≡ Ok tt) × (b ≡ Ok tt)
both_ok (Ok tt) b h = (refl, h)
both_ok (Err f) b h = absurd (grind arith)

either_err : (a b : Result (Unit {0}) TableFault) (f : TableFault) → (a then b) ≡ Err f → (a ≡ Err f) ⊎ ((a ≡ Ok tt) × (b ≡ Err f))
either_err (Ok tt) b f h = inr (refl, h)
either_err (Err g) b f h = inl h

-- a row that is refused, if one was found
found_row : (why : TableCause) (name : TableName) (o : Option ℕ) (f : TableFault) → refused_at why name o ≡ Err f → (row : ℕ) × (o ≡ Some row) × (f ≡ fault why row name)
found_row why name None f h = absurd (grind arith)
found_row why name (Some row) f h = (row, refl, cc)

none_found : (why : TableCause) (name : TableName) (o : Option ℕ) → refused_at why name o ≡ Ok tt → o ≡ None
none_found why name None h = refl
none_found why name (Some row) h = absurd (grind arith)

-- 1
limited_ok : (name : TableName) (limit n : ℕ) → limited name limit n ≡ Ok tt → n ≤ limit
limited_ok name limit n h = grind (arith, nat_tests)

limited_err : (name : TableName) (limit n : ℕ) (f : TableFault) → limited name limit n ≡ Err f → (limit < n) × (fault TooManyRows limit name ≡ f)
limited_err name limit n f h = (grind (arith, nat_tests), grind (arith, nat_tests))

few_of_ok : (t : Text) → rows_verdict t ≡ Ok tt → Few t
few_of_ok t h =
    let a = both_ok (limited table.Glyphs 16384 (length t.glyphs)) (limited table.Words 4096 (length t.words) then limited table.Spans 256 (length t.spans)) h in
    let b = both_ok (limited table.Words 4096 (length t.words)) (limited table.Spans 256 (length t.spans)) a.1 in
    (limited_ok table.Glyphs 16384 (length t.glyphs) a.0, limited_ok table.Words 4096 (length t.words) b.0, limited_ok table.Spans 256 (length t.spans) b.1)

limited_in : (name : TableName) (limit n : ℕ) → n ≤ limit → limited name limit n ≡ Ok tt
limited_in name limit n h = rw le-leb

limited_out : (name : TableName) (limit n : ℕ) → limit < n → limited name limit n ≡ Err (fault TooManyRows limit name)
limited_out name limit n h = rw lt-leb

ok_of_few : (t : Text) → Few t → rows_verdict t ≡ Ok tt
ok_of_few t h =
    rw (
      limited_in table.Glyphs 16384 (length t.glyphs) h.0,
      limited_in table.Words 4096 (length t.words) h.1,
      limited_in table.Spans 256 (length t.spans) h.2,
    )

too_many : (t : Text) (e : List Glyph) (f : TableFault) → rows_verdict t ≡ Err f → FirstFault t e f
too_many t e f h =
    elim (either_err (limited table.Glyphs 16384 (length t.glyphs)) (limited table.Words 4096 (length t.words) then limited table.Spans 256 (length t.spans)) f h) [
      | inl a ↦ let p = limited_err table.Glyphs 16384 (length t.glyphs) f a in
          subst (FirstFault t e) p.1 (record { before = tt; found = (refl, p.0) })
      | inr a ↦
          let few : length t.glyphs ≤ 16384 = limited_ok table.Glyphs 16384 (length t.glyphs) a.0 in
          elim (either_err (limited table.Words 4096 (length t.words)) (limited table.Spans 256 (length t.spans)) f a.1) [
            | inl b ↦ let p = limited_err table.Words 4096 (length t.words) f b in
                subst (FirstFault t e) p.1 (record { before = tt; found = (refl, few, p.0) })
            | inr b ↦ let p = limited_err table.Spans 256 (length t.spans) f b.1 in
                subst (FirstFault t e) p.1
                (record { before = tt; found = (refl, few, limited_ok table.Words 4096 (length t.words) b.0, p.0) })
          ]
    ]

err_of_too_many : (t : Text) (e : List Glyph) (row : ℕ) (name : TableName) → Found TooManyRows t e name row → rows_verdict t ≡ Err (fault TooManyRows row name)
err_of_too_many t e row table.Glyphs h =
    rw (limited_out table.Glyphs 16384 (length t.glyphs) h.1) (ap (λ r. Err (fault TooManyRows r table.Glyphs)) (sym h.0))
err_of_too_many t e row table.Words h =
    rw (limited_in table.Glyphs 16384 (length t.glyphs) h.1, limited_out table.Words 4096 (length t.words) h.2)
    (ap (λ r. Err (fault TooManyRows r table.Words)) (sym h.0))
err_of_too_many t e row table.Spans h =
    rw (
      limited_in table.Glyphs 16384 (length t.glyphs) h.1,
      limited_in table.Words 4096 (length t.words) h.2,
      limited_out table.Spans 256 (length t.spans) h.3,
    )
    (ap (λ r. Err (fault TooManyRows r table.Spans)) (sym h.0))
err_of_too_many t e row table.Ellipsis h = absurd h

-- 2
range_of_ok : (t : Text) → glyphs_verdict t ≡ Ok tt → InRange t.glyphs
range_of_ok t h =
    failing.all_of_none glyph_in t.glyphs 0
    (none_found GlyphField table.Glyphs (first_failing glyph_in 0 t.glyphs) h)

ok_of_range : (t : Text) → InRange t.glyphs → glyphs_verdict t ≡ Ok tt
ok_of_range t h = ap (refused_at GlyphField table.Glyphs) (failing.none_of_all glyph_in t.glyphs 0 h)

-- 3
words_of_ok : (t : Text) → words_verdict t ≡ Ok tt → WordsRun t
words_of_ok t h =
    tiling.run_of_none word_piece t.words (length t.glyphs) 0 0
    (none_found WordPair table.Words (first_loose word_piece (length t.glyphs) 0 0 t.words) h)

ok_of_words : (t : Text) → WordsRun t → words_verdict t ≡ Ok tt
ok_of_words t h =
    ap (refused_at WordPair table.Words) (tiling.none_of_run word_piece t.words (length t.glyphs) 0 0 h)

-- 4
spans_of_ok : (t : Text) → spans_verdict t ≡ Ok tt → SpansRun t
spans_of_ok t h =
    tiling.run_of_none span_piece t.spans (length t.words) 0 0
    (none_found SpanRow table.Spans (first_loose span_piece (length t.words) 0 0 t.spans) h)

ok_of_spans : (t : Text) → SpansRun t → spans_verdict t ≡ Ok tt
ok_of_spans t h =
    ap (refused_at SpanRow table.Spans) (tiling.none_of_run span_piece t.spans (length t.words) 0 0 h)

-- 5
record EllipsisIn (e : List Glyph) : Type 0 where
  pub some : 1 ≤ length e
  pub short : length e ≤ 16
  pub range : InRange e

by_count : (e : List Glyph) → (length e ≡ 0) ⊎ ((16 < length e) ⊎ ((1 ≤ length e) × (length e ≤ 16)))
by_count e =
    elim (cases_lt 16 (length e)) [
      | inl a ↦ inr (inl a)
      | inr a ↦ elim (cases_lt 0 (length e)) [ inl b ↦ inr (inr (b, a)) | inr b ↦ inl (omega arith) ]
    ]

empty_verdict : (e : List Glyph) → length e ≡ 0 → ellipsis_verdict e ≡ Err (fault Ellipsis 0 table.Ellipsis)
empty_verdict e h = rw h

long_verdict : (e : List Glyph) → 16 < length e → ellipsis_verdict e ≡ Err (fault Ellipsis 16 table.Ellipsis)
long_verdict e h = let ne = ne_eqb (length e) 0 (omega arith) in rw (ne, lt-leb)

fitting_verdict : (e : List Glyph) → 1 ≤ length e → length e ≤ 16 → ellipsis_verdict e ≡ refused_at Ellipsis table.Ellipsis (first_failing glyph_in 0 e)
fitting_verdict e a b = let ne = ne_eqb (length e) 0 (omega arith) in rw (ne, le-leb)

ellipsis_of_ok : (e : List Glyph) → ellipsis_verdict e ≡ Ok tt → EllipsisIn e
ellipsis_of_ok e h =
    elim (by_count e) [
      | inl a ↦ let z = sym (empty_verdict e a) ∙ h in absurd (grind arith)
      | inr r ↦
          elim r [
            | inl a ↦ let z = sym (long_verdict e a) ∙ h in absurd (grind arith)
            | inr a ↦ record {
              some = a.0;
              short = a.1;
              range = failing.all_of_none glyph_in e 0
                  (none_found Ellipsis table.Ellipsis (first_failing glyph_in 0 e) (sym (fitting_verdict e a.0 a.1) ∙ h));
            }
          ]
    ]

ok_of_ellipsis : (e : List Glyph) → 1 ≤ length e → length e ≤ 16 → InRange e → ellipsis_verdict e ≡ Ok tt
ok_of_ellipsis e a b r =
    fitting_verdict e a b ∙ ap (refused_at Ellipsis table.Ellipsis) (failing.none_of_all glyph_in e 0 r)

ellipsis_found : (t : Text) (e : List Glyph) (f : TableFault) → GoodBefore Ellipsis t → ellipsis_verdict e ≡ Err f → FirstFault t e f
ellipsis_found t e f good h =
    elim (by_count e) [
      | inl a ↦ let z : fault Ellipsis 0 table.Ellipsis ≡ f = let y = sym (empty_verdict e a) ∙ h in cc in
          subst (FirstFault t e) z (record { before = good; found = (refl, inl (refl, a)) })
      | inr r ↦
          elim r [
            | inl a ↦ let z : fault Ellipsis 16 table.Ellipsis ≡ f = let y = sym (long_verdict e a) ∙ h in cc in
                subst (FirstFault t e) z (record { before = good; found = (refl, inr (inl (refl, a))) })
            | inr a ↦
                let p = found_row Ellipsis table.Ellipsis (first_failing glyph_in 0 e) f (sym (fitting_verdict e a.0 a.1) ∙ h) in
                subst (FirstFault t e) (sym p.2) (record {
                  before = good;
                  found = (refl, inr (inr (a.1, failing.failing_of_some glyph_in e p.0 p.1)));
                })
          ]
    ]

err_of_ellipsis : (t : Text) (e : List Glyph) (row : ℕ) (name : TableName) → Found Ellipsis t e name row → ellipsis_verdict e ≡ Err (fault Ellipsis row name)
err_of_ellipsis t e row name h =
    elim h.1 [
      | inl a ↦ empty_verdict e a.1 ∙ named 0 a.0
      | inr r ↦
          elim r [
            | inl a ↦ long_verdict e a.1 ∙ named 16 a.0
            | inr a ↦
                let found = failing.some_of_failing glyph_in e row a.1 in
                fitting_verdict e (some_row e a.1) a.0 ∙ ap (refused_at Ellipsis table.Ellipsis) found ∙ named row refl
          ]
    ]
  where
    named : (at : ℕ) → row ≡ at → ◌≡◌ {A = Result (Unit {0}) TableFault} (Err (fault Ellipsis at table.Ellipsis)) (Err (fault Ellipsis row name))
    named at p = let q = h.0 in cc

    some_row : (e : List Glyph) → Failing glyph_in e row → 1 ≤ length e
    some_row e k = omega (arith, simp length-append at (ap length k.split))

-- the tables' shape, by the checks 1, 3 and 4, and back
pub sound_of_runs : (t : Text) → Few t → WordsRun t → SpansRun t → Sound t
sound_of_runs t few words spans =
    let last_word : Word = record { blank = false; offset = length t.glyphs; len = 0 } in
    let last_span : Span = record { level = 0; offset = length t.words; len = 0 } in
    record {
      few_glyphs = few.0;
      few_words = few.1;
      few_spans = few.2;
      words_first = tiling.first_row word_piece (length t.glyphs) last_word refl refl refl t.words 0 words;
      words_next = λ i. tiling.next_row word_piece (length t.glyphs) last_word refl refl refl t.words 0 i words;
      spans_first = tiling.first_row span_piece (length t.words) last_span refl refl refl t.spans 0 spans;
      spans_next = λ i. tiling.next_row span_piece (length t.words) last_span refl refl refl t.spans 0 i spans;
      levels = λ i. leb-true _ 126 (tiling.lawful_row span_piece (length t.words) last_span refl refl refl t.spans 0 i spans);
    }

words_of_sound : (t : Text) → Sound t → WordsRun t
words_of_sound t s =
    tiling.run_of_rows word_piece (length t.glyphs) (record { blank = false; offset = length t.glyphs; len = 0 }) refl refl refl t.words 0
    s.words_first s.words_next (λ i. refl)

spans_of_sound : (t : Text) → Sound t → SpansRun t
spans_of_sound t s =
    tiling.run_of_rows span_piece (length t.words) (record { level = 0; offset = length t.words; len = 0 }) refl refl refl t.spans 0
    s.spans_first s.spans_next (λ i. le-leb _ 126 (s.levels i))

lawful_of_ok : (t : Text) (e : List Glyph) → verdict t e ≡ Ok tt → Lawful t e
lawful_of_ok t e h =
    let a = both_ok (rows_verdict t) (glyphs_verdict t then words_verdict t then spans_verdict t then ellipsis_verdict e) h in
    let b = both_ok (glyphs_verdict t) (words_verdict t then spans_verdict t then ellipsis_verdict e) a.1 in
    let d = both_ok (words_verdict t) (spans_verdict t then ellipsis_verdict e) b.1 in
    let g = both_ok (spans_verdict t) (ellipsis_verdict e) d.1 in
    let i = ellipsis_of_ok e g.1 in
    record {
      sound = sound_of_runs t (few_of_ok t a.0) (words_of_ok t d.0) (spans_of_ok t g.0);
      glyphs = range_of_ok t b.0;
      some_ellipsis = i.some;
      short_ellipsis = i.short;
      ellipsis = i.range;
    }

ok_of_lawful : (t : Text) (e : List Glyph) → Lawful t e → verdict t e ≡ Ok tt
ok_of_lawful t e h =
    let s = h.sound in
    rw (
      ok_of_few t (s.few_glyphs, s.few_words, s.few_spans),
      ok_of_range t h.glyphs,
      ok_of_words t (words_of_sound t s),
      ok_of_spans t (spans_of_sound t s),
      ok_of_ellipsis e h.some_ellipsis h.short_ellipsis h.ellipsis,
    )

first_of_err : (t : Text) (e : List Glyph) (f : TableFault) → verdict t e ≡ Err f → FirstFault t e f
first_of_err t e f h =
    elim (either_err (rows_verdict t) (glyphs_verdict t then words_verdict t then spans_verdict t then ellipsis_verdict e) f h) [
      | inl a ↦ too_many t e f a
      | inr a ↦ elim (either_err (glyphs_verdict t) (words_verdict t then spans_verdict t then ellipsis_verdict e) f a.1) [
        | inl b ↦
            let p = found_row GlyphField table.Glyphs (first_failing glyph_in 0 t.glyphs) f b in
            subst (FirstFault t e) (sym p.2) (record {
              before = few_of_ok t a.0;
              found = (refl, failing.failing_of_some glyph_in t.glyphs p.0 p.1);
            })
        | inr b ↦ elim (either_err (words_verdict t) (spans_verdict t then ellipsis_verdict e) f b.1) [
          | inl d ↦
              let p = found_row WordPair table.Words (first_loose word_piece (length t.glyphs) 0 0 t.words) f d in
              subst (FirstFault t e) (sym p.2) (record {
                before = (few_of_ok t a.0, range_of_ok t b.0);
                found = (refl, tiling.loose_of_some word_piece t.words (length t.glyphs) p.0 p.1);
              })
          | inr d ↦ elim (either_err (spans_verdict t) (ellipsis_verdict e) f d.1) [
            | inl g ↦
                let p = found_row SpanRow table.Spans (first_loose span_piece (length t.words) 0 0 t.spans) f g in
                subst (FirstFault t e) (sym p.2) (record {
                  before = (few_of_ok t a.0, range_of_ok t b.0, words_of_ok t d.0);
                  found = (refl, tiling.loose_of_some span_piece t.spans (length t.words) p.0 p.1);
                })
            | inr g ↦ ellipsis_found t e f (few_of_ok t a.0, range_of_ok t b.0, words_of_ok t d.0, spans_of_ok t g.0) g.1
          ]
        ]
      ]
    ]

-- a fault that is found after all before it is good
err_of_found : (t : Text) (e : List Glyph) (why : TableCause) (row : ℕ) (name : TableName) → GoodBefore why t → Found why t e name row → verdict t e ≡ Err (fault why row name)
err_of_found t e TooManyRows row name b h = rw (err_of_too_many t e row name h)
err_of_found t e GlyphField row name b h =
    rw (ok_of_few t b, failing.some_of_failing glyph_in t.glyphs row h.1, h.0)
err_of_found t e WordPair row name b h =
    rw (ok_of_few t b.0, ok_of_range t b.1, tiling.some_of_loose word_piece t.words (length t.glyphs) row h.1, h.0)
err_of_found t e SpanRow row name b h =
    rw (
      ok_of_few t b.0,
      ok_of_range t b.1,
      ok_of_words t b.2,
      tiling.some_of_loose span_piece t.spans (length t.words) row h.1,
      h.0,
    )
err_of_found t e Ellipsis row name b h =
    rw (
      ok_of_few t b.0,
      ok_of_range t b.1,
      ok_of_words t b.2,
      ok_of_spans t b.3,
      err_of_ellipsis t e row name h,
    )

pub granted : (t : Text) (e : List Glyph) (r : Result (Unit {0}) TableFault) → r ≡ verdict t e → GrantedExactly t e r
granted t e r is = (λ h. lawful_of_ok t e (sym is ∙ h), λ h. is ∙ ok_of_lawful t e h)

pub refused : (t : Text) (e : List Glyph) (r : Result (Unit {0}) TableFault) → r ≡ verdict t e → RefusedExactly t e r
refused t e r is f = (
  λ h. first_of_err t e f (sym is ∙ h),
  λ h. is ∙ err_of_found t e f.cause f.row f.table h.before h.found,
)
