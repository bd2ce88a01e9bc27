-- No error of the lexer is that of the end of the input.
use Rattle.std.proofs.Common.{◌≡◌, ℕ, zero, suc, Bool, true, false, if◌then◌else◌, List, [], ◌∷◌, ◌++◌, Option, Some, None, take, drop, length, refl, ap, subst, rules}
use Rattle.std.specs.Prelude.{◌==◌, ℤ, Ok, Err, ok_or, ⊤, not, option_map}
use Rattle.std.specs.Option.{option_map_or}
use Rattle.pp_lexer.specs.Identifiers.{is_identifier}
use Rattle.pp_lexer.specs.Items.{Lexeme}
use Rattle.pp_lexer.specs.Lexed.{Seen, start_by, after_first_item}
use Rattle.pp_lexer.specs.Location.{nowhere}
use Rattle.pp_lexer.specs.Longest.{longest}
use Rattle.pp_lexer.specs.NumberValue.{is_l, number_outcome, is_float, float_text, is_float_text, float_value, float_suffix, float_outcome, is_h, is_s, base_of, digits_of, whole, integer_suffix, integer_outcome, is_u}
use Rattle.pp_lexer.specs.Numbers.{is_number}
use Rattle.pp_lexer.specs.Outcome.{Answer, Outcome}
use Rattle.pp_lexer.specs.Punctuators.{punctuation_outcome, punctuation_value}
use Rattle.pp_lexer.specs.Reading.{Reading, letters}
use Rattle.pp_lexer.specs.Segments.{Kind, blank, comment, item, Segment, segments_within, segments, taken_by}
use Rattle.pp_lexer.specs.Surroundings.{begins_with}
use Rattle.pp_lexer.specs.Words.{is_blank, is_newline_word, is_word, word_outcome, word_at}
use Rattle.pp_lexer.specs.declared.lexer.char_iterator.Spot.{Spot}
use Rattle.pp_lexer.specs.declared.lexer.Flags.{Flags}
use Rattle.pp_lexer.specs.declared.lexer.item.Token.{Token as LexerToken}
use Rattle.pp_lexer.specs.declared.lexer.item.TokenValue.{TokenValue}
use Rattle.pp_lexer.specs.declared.lexer.item.TokenValue.TheVariants.{Hash, NewLine, Ident, Integer, Float, Punct}
use Rattle.pp_lexer.specs.declared.rules.Rules.{Rules}
use Rattle.pp_lexer.specs.declared.token.PreprocessorError.TheVariants.{NotSupported64BitLiteral, NotSupported16BitLiteral, IntegerOverflow, FloatParsingError}
use Rattle.pp_lexer.specs.inner.Passing.{passed, lexeme_seen, item_seen, newline_seen, seen_from}
use Rattle.pp_lexer.proofs.items.ItemsLemmas.{start_seen}
use Rattle.pp_model.specs.Conversions.{refused_token}
use Rattle.pp_model.specs.Faults.{is_shown}
use Rattle.pp_model.specs.Moves.{fails}
use Rattle.pp_model.specs.Places.{Fault}
use Rattle.pp_macros.specs.inner.LineReading.{as_next, next_token}
use Rattle.pp_directives.specs.inner.Lined.{ShowsError, ShowErrors}

-- what begins at a place of a text
abbrev IsShown : Answer → Type 0
IsShown (Ok value) = ⊤
IsShown (Err error) = is_shown (fails (error, nowhere)) ≡ true

either_shown : (b : Bool) (x y : Answer) → IsShown x → IsShown y → IsShown (if b then x else y)
either_shown true x y h k = h
either_shown false x y h k = k

refusal_shown : (takes long short : Bool) (value : Answer) → IsShown value
    → IsShown (option_map_or Err (if takes then None else if long then Some NotSupported64BitLiteral else if short then Some NotSupported16BitLiteral else None) value)
refusal_shown true long short value h = h
refusal_shown false true short value h = refl
refusal_shown false false true value h = refl
refusal_shown false false false value h = h

integer_shown : (signed : Bool) (width : ℤ) (found : Option ℕ)
    → IsShown (ok_or (option_map (λ n. Integer (record { value = n; signed = signed; width = width })) found)
    IntegerOverflow)
integer_shown signed width None = refl
integer_shown signed width (Some n) = tt

punctuation_shown : (rules : Rules) (n : ℕ) (value : Option TokenValue) → IsShown (punctuation_outcome rules n value).value
punctuation_shown rules n None = refl
punctuation_shown rules n (Some value) = tt

either_outcome : (b : Bool) (x y : Outcome) → IsShown x.value → IsShown y.value → IsShown (if b then x else y).value
either_outcome true x y h k = h
either_outcome false x y h k = k

float_shown : (width : ℤ) (w : List ℕ) → IsShown (float_value width w)
float_shown width w = either_shown (is_float_text (float_text w)) (Ok (Float (record { text = float_text w; width = width })))
    (Err FloatParsingError) tt refl

number_shown : (rules : Rules) (w after : List ℕ) → IsShown (number_outcome rules w after).value
number_shown rules w after = either_outcome (is_float w) (float_outcome rules w after) (integer_outcome rules w after)
    (refusal_shown rules.takes_widths (begins_with is_l after) (begins_with is_h after) _ (float_shown (float_suffix rules after).width w))
    (refusal_shown rules.takes_widths (begins_with is_l (drop (integer_suffix rules after).taken after))
    (begins_with is_s (drop (integer_suffix rules after).taken after)) _
    (integer_shown (not (begins_with is_u after)) (integer_suffix rules after).width (whole (base_of w) (digits_of w))))

word_shown : (rules : Rules) (w after : List ℕ) → IsShown (word_outcome rules w after).value
word_shown rules w after =
    either_outcome (is_newline_word w) (record { value = Ok NewLine; taken = 1 }) _ tt
    (either_outcome (is_identifier w) (record { value = Ok (Ident w); taken = length w }) _ tt
    (either_outcome (is_number w) (number_outcome rules w after) _ (number_shown rules w after)
    (punctuation_shown rules (length w) (punctuation_value w))))

any_shown : (rules : Rules) (cs : List ℕ) → IsShown (word_at rules cs).value
unfolding word_at
any_shown rules cs = word_shown rules (take (longest is_word cs) cs) (drop (longest is_word cs) cs)

-- a segment, and segments
abbrev IsKindShown : Kind → Type 0
IsKindShown blank = ⊤
IsKindShown comment = ⊤
IsKindShown (item r) = IsShown r

abbrev AreShown : List Segment → Type 0
AreShown [] = ⊤
AreShown (g ∷ gs) = IsKindShown g.kind × AreShown gs

kind_shown : (is_blank is_comment : Bool) (r : Answer) → IsShown r
    → IsKindShown (if is_blank then (if is_comment then comment else blank) else item r)
kind_shown true true r h = tt
kind_shown true false r h = tt
kind_shown false is_comment r h = h

segments_shown : (rules : Rules) (n : ℕ) (ss : List Spot) → AreShown (segments_within rules n ss)
segments_shown rules zero ss = tt
segments_shown rules (suc n) [] = tt
segments_shown rules (suc n) (s ∷ ss) =
    (kind_shown (is_blank s.c) (s.c == 13) _ (any_shown rules (letters (s ∷ ss))), segments_shown rules n (drop (taken_by rules s ss) (s ∷ ss)))

all_shown : (rules : Rules) (ss : List Spot) → AreShown (segments rules ss)
unfolding segments
all_shown rules ss = segments_shown rules (length ss) ss

newline_shown : (spaced at_start comments : Bool) (last : Spot)
    → ShowErrors (newline_seen (record { leading_whitespace = spaced; start_of_line = at_start; had_comments = comments }) last)
newline_shown spaced true comments last = tt
newline_shown spaced false comments last = (tt, tt)

lexeme_shown : (f : Flags) (first last : Spot) (r : Answer) → IsShown r → ShowsError (lexeme_seen f first last r)
lexeme_shown f first last (Ok value) h = tt
lexeme_shown f first last (Err error) h = h

item_shown : (k : Kind) (f : Flags) (g : Segment) (later : List Seen) → IsKindShown k → ShowErrors later → ShowErrors (item_seen f g k ++ later)
item_shown blank f g later h k = k
item_shown comment f g later h k = k
item_shown (item r) f g later h k = (lexeme_shown f g.first g.last r h, k)

shown_from : (gs : List Segment) (f : Flags) (last : Spot) → AreShown gs → ShowErrors (seen_from f last gs)
shown_from [] f last h = newline_shown f.leading_whitespace f.start_of_line f.had_comments last
shown_from (g ∷ gs) f last h = item_shown g.kind f g (seen_from (passed f g.kind) g.last gs) h.0 (shown_from gs (passed f g.kind) g.last h.1)

-- so it is in a text
pub start_shown : (rules : Rules) (ss : List Spot) → ShowErrors (start_by rules ss).rest
start_shown rules ss =
    let f : Flags = record { leading_whitespace = true; start_of_line = true; had_comments = false } in
    let last : Spot = record { c = 0; line = 0; begin = 0; end = 0 } in
    let r : Reading = record { rest = ss; last = last } in
    subst ShowErrors (ap (λ l. l.rest) (start_seen rules r ss last refl)) (shown_from (segments rules ss) f last (all_shown rules ss))

-- a token that isn't allowed
pub refused_shown : (token : LexerToken) → is_shown (fails (refused_token token)) ≡ true
refused_shown token = by token.value
  where
    by : (value : TokenValue) → is_shown (fails (refused_token (record token { value = value }))) ≡ true
    by Hash = refl
    by NewLine = refl
    by (Ident name) = refl
    by (Integer i) = refl
    by (Float f) = refl
    by (Punct p) = refl

-- the first of some items
pub first_shown : (rest : List Seen) (fault : Fault) → ShowErrors rest → next_token rest ≡ Err fault → is_shown (fails fault) ≡ true
first_shown [] fault h e = cc
first_shown (s ∷ rest) fault h e = go s.item h.0 e
  where
    go : (found : Lexeme) → ShowsError found → as_next found ≡ Err fault → is_shown (fails fault) ≡ true
    go (Ok token) shown e = cc
    go (Err other) shown e = let same : other ≡ fault = cc in subst (λ (f : Fault). is_shown (fails f) ≡ true) same shown

-- those after the first
pub shown_after : (items : List Seen) → ShowErrors items → ShowErrors (after_first_item items)
shown_after [] h = h
shown_after (s ∷ rest) h = h.1

-- and after some of them
pub shown_further : (n : ℕ) (items : List Seen) → ShowErrors items → ShowErrors (drop n items)
shown_further zero [] h = h
shown_further (suc n) [] h = h
shown_further zero (s ∷ rest) h = h
shown_further (suc n) (s ∷ rest) h = shown_further n rest h.1
