-- The words of a source, after the phases: the tokens of GLSL ES 3.20, section 3.6, with the
-- newline and the `#` of section 3.4.
use Rattle.std.specs.Prelude.{ℕ, Bool, ◌||◌, ◌==◌, if◌then◌else◌, List, Ok, length, take, drop}
use Rattle.pp_lexer.specs.declared.lexer.item.TokenValue.TheVariants.{NewLine, Ident}
use Rattle.pp_lexer.specs.declared.rules.Rules.{Rules}
use Rattle.pp_lexer.specs.Identifiers.{is_identifier}
use Rattle.pp_lexer.specs.Longest.{longest}
use Rattle.pp_lexer.specs.Numbers.{is_number}
use Rattle.pp_lexer.specs.NumberValue.{number_outcome}
use Rattle.pp_lexer.specs.Outcome.{Outcome}
use Rattle.pp_lexer.specs.Punctuators.{is_punctuation, punctuation_value, punctuation_outcome}
use Rattle.pp_lexer.specs.Spellings.{nothing, one}

-- the characters between words: space, tab, vertical tab, form feed, and the carriage return that marks a comment
abbrev pub is_blank : ℕ → Bool
is_blank c = (c == 32) || ((c == 9) || ((c == 11) || ((c == 12) || (c == 13))))

-- a newline alone
unfoldable pub is_newline_word : List ℕ → Bool
is_newline_word = one (λ c. c == 10) nothing

-- a newline, an identifier, a number, or a punctuator or `#`
unfoldable pub is_word : List ℕ → Bool
is_word w = is_newline_word w || (is_identifier w || (is_number w || is_punctuation w))

-- the value or the error of a word, by the characters after it; no word at all is a bad character
abbrev pub word_outcome : Rules → List ℕ → List ℕ → Outcome
word_outcome rules w after =
    if is_newline_word w then record { value = Ok NewLine; taken = 1 }
    else if is_identifier w then record { value = Ok (Ident w); taken = length w }
    else if is_number w then number_outcome rules w after
    else punctuation_outcome rules (length w) (punctuation_value w)

-- what begins here, if no blank does: the longest word, or a bad character
unfoldable pub word_at : Rules → List ℕ → Outcome
word_at rules cs = word_outcome rules (take (longest is_word cs) cs) (drop (longest is_word cs) cs)
