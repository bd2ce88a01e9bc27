-- The spellings of values, with spaces between them, are read back as these values.
use Rattle.std.proofs.Common.{◌≡◌, ℕ, zero, suc, List, [], ◌∷◌, ◌++◌, map, length, drop, false, append-nil, refl, sym, ◌∙◌, ap, Ok, Result, if◌then◌else◌, arith}
use Rattle.std.specs.Prelude.{All}
use Rattle.std.specs.Str.{encode_utf8_all}
use Rattle.std.proofs.lemmas.List.{drop_at}
use Rattle.std.proofs.lemmas.List.Elements.{All-head, All-tail}
use Rattle.std.proofs.lemmas.Simd.{map-map}
use Rattle.pp_lexer.specs.declared.rules.Rules.{Rules}
use Rattle.pp_lexer.specs.declared.token.PreprocessorError.{PreprocessorError}
use Rattle.pp_lexer.specs.declared.token.TokenValue.{TokenValue}
use Rattle.pp_lexer.specs.declared.token.TokenValue.TheVariants.{Ident, Integer, Float, Punct, Version, Extension, Pragma}
use Rattle.pp_lexer.specs.declared.lexer.item.TokenValue.{TokenValue as LexerTokenValue}
use Rattle.pp_lexer.specs.declared.lexer.item.TokenValue.TheVariants.{NewLine}
use Rattle.pp_lexer.specs.declared.lexer.char_iterator.Spot.{Spot}
use Rattle.pp_lexer.specs.inner.PlainWords.{is_newline_value}
use Rattle.pp_lexer.specs.Items.{Item, item_at, items_by}
use Rattle.pp_lexer.specs.Lexed.{Seen, seen}
use Rattle.pp_lexer.specs.Outcome.{Outcome}
use Rattle.pp_lexer.specs.Reading.{letters}
use Rattle.pp_lexer.specs.Respelling.{IsSpellableBy, lexer_value, item_value, read_values_by, ending}
use Rattle.pp_lexer.specs.Segments.{Kind, blank, comment, item, Segment, kind_of, taken_by, segment_at, segments}
use Rattle.pp_lexer.specs.inner.Segments.{is_mark}
use Rattle.pp_lexer.specs.Spelling.{spelling, spelled_text}
use Rattle.pp_lexer.specs.Spots.{spots_of}
use Rattle.pp_lexer.specs.Words.{is_blank, word_at}
use Rattle.pp_lexer.proofs.numbers.DecimalLemmas.{spelled_integer}
use Rattle.pp_lexer.proofs.spelling.FloatSpellingLemmas.{spelled_float}
use Rattle.pp_lexer.proofs.items.ItemsLemmas.{items_from, items_at_start}
use Rattle.pp_lexer.proofs.words.LongestLemmas.{longest_empty}
use Rattle.pp_lexer.proofs.characters.PlainPhasesLemmas.{plain_letters}
use Rattle.pp_lexer.proofs.items.SegmentsLemmas.{segments_none, segments_first}
use Rattle.pp_lexer.proofs.spelling.SpelledTextLemmas.{text_clean}
use Rattle.pp_lexer.proofs.spelling.SpelledWordLemmas.{IsBreak, spelled_identifier, spelled_punctuator}
use Rattle.pp_lexer.proofs.words.WordAtLemmas.{no_word}
use Rattle.pp_lexer.proofs.words.WordsLemmas.{longest_blank}

-- the outcome of a value's spelling
abbrev outcome_of : TokenValue → Outcome
outcome_of v = record { value = Ok (lexer_value v); taken = length (spelling v) }

-- a spelling with a space or the end after it is read as its value
pub spelled_word : (rules : Rules) (v : TokenValue) (cs : List ℕ) → IsSpellableBy rules v → IsBreak cs
    → word_at rules (spelling v ++ cs) ≡ outcome_of v
spelled_word rules (Ident name) cs h k = spelled_identifier rules name cs h.0 k
spelled_word rules (Integer i) cs h k = spelled_integer rules i cs h.0 h.1 k
spelled_word rules (Float f) cs h k = spelled_float rules f cs h.0 h.1 h.2 k
spelled_word rules (Punct p) cs h k = spelled_punctuator rules p cs k
spelled_word rules (Version v) cs h k = absurd h
spelled_word rules (Extension e) cs h k = absurd h
spelled_word rules (Pragma p) cs h k = absurd h

-- the characters of what is left
pub letters-drop : (n : ℕ) (ss : List Spot) → letters (drop n ss) ≡ drop n (letters ss)
letters-drop zero ss = refl
letters-drop (suc n) [] = refl
letters-drop (suc n) (s ∷ ss) = letters-drop n ss

no_letters : (ss : List Spot) → letters ss ≡ [] → ss ≡ []
no_letters [] e = refl
no_letters (s ∷ ss) e = cc

-- the first segment of a text that begins with a spelling
record IsFirst (rules : Rules) (s : Spot) (ss : List Spot) (v : TokenValue) (cs : List ℕ) : Type 0 where
  kind : kind_of rules s ss ≡ item (Ok (lexer_value v))
  after : letters (drop (taken_by rules s ss) (s ∷ ss)) ≡ cs

first_value : (rules : Rules) (s : Spot) (ss : List Spot) (v : TokenValue) (cs : List ℕ) → IsSpellableBy rules v → IsBreak cs
    → letters (s ∷ ss) ≡ spelling v ++ cs → IsFirst rules s ss v cs
first_value rules s ss v cs h b e = grind (arith, spelled_word, no_word, longest_blank, letters-drop, drop_at)

nothing_read : (rules : Rules) (v : TokenValue) (cs : List ℕ) → IsSpellableBy rules v → IsBreak cs → [] ≡ spelling v ++ cs → ⊥
nothing_read rules v cs h b e = grind (arith, no_word, longest_empty, spelled_word)

-- the values of items
abbrev pub values_in : List Item → List (Result LexerTokenValue PreprocessorError)
values_in is = map (λ i. item_value i.item) is

-- the items of a text, by its first segment
module _ (rules : Rules) (before : List Segment) (s : Spot) (ss : List Spot) where
  items_first : (k : Kind) → kind_of rules s ss ≡ k
      → items_from before (segments rules (s ∷ ss)) ≡ item_at before (segment_at rules s ss) k ++ items_from
      (segment_at rules s ss ∷ before) (segments rules (drop (taken_by rules s ss) (s ∷ ss)))
  unfolding items_from
  items_first k e = grind (arith, segments_first)

last_newline : (rules : Rules) (g : Segment) (before : List Segment) (v : LexerTokenValue) → g.kind ≡ item (Ok v) → is_newline_value v ≡ false
    → values_in (items_from (g ∷ before) (segments rules [])) ≡ Ok NewLine ∷ []
unfolding items_from
last_newline rules g before v e n = grind (arith, segments_none)

no_newline : (v : TokenValue) → is_newline_value (lexer_value v) ≡ false
no_newline (Ident name) = refl
no_newline _ = refl

-- a space is passed
space_passed : (rules : Rules) (before : List Segment) (ss : List Spot) (cs : List ℕ) → letters ss ≡ 32 ∷ cs → (rest : List Spot) × (g : Segment)
    × (letters rest ≡ cs) × (items_from before (segments rules ss) ≡ items_from (g ∷ before) (segments rules rest))
space_passed rules before [] cs e = cc
space_passed rules before (s ∷ ss) cs e =
    let first : s.c ≡ 32 = cc in
    let here : kind_of rules s ss ≡ blank =
    ap (λ c. if is_blank c then (if is_mark c then comment else blank) else item (word_at rules (letters (s ∷ ss))).value) first in
    let one : taken_by rules s ss ≡ 1 = ap (λ c. if is_blank c then 1 else (word_at rules (letters (s ∷ ss))).taken) first in (
      ss,
      segment_at rules s ss,
      cc,
      items_first rules before s ss blank here
          ∙ ap (λ n. items_from (segment_at rules s ss ∷ before) (segments rules (drop n (s ∷ ss)))) one,
    )

-- the values of a text after other segments
read_from : (rules : Rules) (values : List TokenValue) (v : TokenValue) (before : List Segment) (ss : List Spot) → IsSpellableBy rules v
    → All (IsSpellableBy rules) values
    → letters ss ≡ spelled_text (v ∷ values)
    → values_in (items_from before (segments rules ss)) ≡ map Ok (map lexer_value (v ∷ values) ++ NewLine ∷ [])
read_from rules [] v before [] h k e = absurd (nothing_read rules v [] h tt (e ∙ sym (append-nil (spelling v))))
read_from rules [] v before (s ∷ ss) h k e =
    let f = first_value rules s ss v [] h tt (e ∙ sym (append-nil (spelling v))) in
    let g : Segment = segment_at rules s ss in
    ap values_in (items_first rules before s ss (item (Ok (lexer_value v))) f.kind)
    ∙ ap (λ xs. Ok (lexer_value v) ∷ values_in (items_from (g ∷ before) (segments rules xs)))
    (no_letters (drop (taken_by rules s ss) (s ∷ ss)) f.after)
    ∙ ap (λ xs. Ok (lexer_value v) ∷ xs) (last_newline rules g before (lexer_value v) f.kind (no_newline v))
read_from rules (u ∷ values) v before [] h k e = absurd (nothing_read rules v (32 ∷ spelled_text (u ∷ values)) h refl e)
read_from rules (u ∷ values) v before (s ∷ ss) h k e =
    let f = first_value rules s ss v (32 ∷ spelled_text (u ∷ values)) h refl e in
    let p = space_passed rules (segment_at rules s ss ∷ before) (drop (taken_by rules s ss) (s ∷ ss)) (spelled_text (u ∷ values)) f.after in
    ap values_in (items_first rules before s ss (item (Ok (lexer_value v))) f.kind)
    ∙ ap (λ xs. Ok (lexer_value v) ∷ values_in xs) p.3
    ∙ ap (λ xs. Ok (lexer_value v) ∷ xs)
    (read_from rules values u (p.1 ∷ segment_at rules s ss ∷ before) p.0 (All-head (IsSpellableBy rules) u values k)
    (All-tail (IsSpellableBy rules) u values k) p.2)

read_all : (rules : Rules) (values : List TokenValue) (ss : List Spot) → All (IsSpellableBy rules) values → letters ss ≡ spelled_text values
    → values_in (items_by rules ss) ≡ map Ok (map lexer_value values ++ ending values)
unfolding items_from
read_all rules [] ss h e = ap (λ xs. values_in (items_by rules xs)) (no_letters ss e)
    ∙ ap values_in (items_at_start rules [] ∙ ap (items_from []) (segments_none rules))
read_all rules (v ∷ values) ss h e = ap values_in (items_at_start rules ss)
    ∙ read_from rules values v [] ss (All-head (IsSpellableBy rules) v values h) (All-tail (IsSpellableBy rules) v values h) e

-- values that can be spelled are read back from their spellings
pub read_back : (rules : Rules) (values : List TokenValue) → All (IsSpellableBy rules) values
    → read_values_by rules (encode_utf8_all (spelled_text values)) ≡ map Ok (map lexer_value values ++ ending values)
read_back rules values h =
    let text : List ℕ = encode_utf8_all (spelled_text values) in
    let clean = text_clean rules values h in
    map-map (λ (x : Seen). item_value x.item) seen (items_by rules (spots_of text))
    ∙ read_all rules values (spots_of text) h (plain_letters (spelled_text values) clean.scalars clean.plain)
