-- Whether a comment is before the end of a line, as the lexer says it once the line was read.
use Rattle.std.proofs.Common.{◌≡◌, ◌≢◌, Bool, true, false, if◌then◌else◌, List, [], ◌∷◌, drop, Option, Some, None, Result, Ok, Err, refl}
use Rattle.pp_lexer.specs.Items.{Lexeme}
use Rattle.pp_lexer.specs.Lexed.{Seen, comments_before}
use Rattle.pp_lexer.specs.declared.token.Token.{Token}
use Rattle.pp_model.specs.Places.{Fault}
use Rattle.pp_model.specs.Conversions.{is_newline, conversion}
use Rattle.pp_model.specs.Lines.{comments_before_end}
use Rattle.pp_expression.specs.Answers.{◌>>=◌}
use Rattle.pp_macros.specs.inner.LineReading.{some_token, next_line_token, comments_after}

comments_by : (rest : List Seen) (had at_item : Bool) (next : Option Token) (ends : Bool) (first : Result Token Fault)
    → (if ends then Ok None else (first >>= some_token)) ≡ Ok next → had ≡ at_item
    → comments_after next rest had ≡ (if ends then at_item else comments_before_end rest)
comments_by rest had at_item next true first e h = let is : next ≡ None = cc in rw is h
comments_by rest had at_item next false (Ok token) e h = let is : next ≡ Some token = cc in rw is refl
comments_by rest had at_item next false (Err fault) e h = cc

comments_at_item : (item : Lexeme) (at_item : Bool) (rest : List Seen) (had : Bool) (next : Option Token)
    → next_line_token (record { item = item; had_comments = at_item } ∷ rest) ≡ Ok next → had ≡ at_item
    → comments_after next rest had ≡ comments_before_end (record { item = item; had_comments = at_item } ∷ rest)
comments_at_item (Err fault) at_item rest had next e h = cc
comments_at_item (Ok token) at_item rest had next e h = comments_by rest had at_item next (is_newline token.value) (conversion token) e h

-- one token more of a line is read
pub comments_more : (rest after : List Seen) (next : Option Token) (had at_end : Bool) → rest ≢ [] → next_line_token rest ≡ Ok next
    → after ≡ drop 1 rest → had ≡ comments_before rest at_end
    → comments_after next after had ≡ comments_before_end rest
comments_more [] after next had at_end left e d h = absurd (left refl)
comments_more (s ∷ rest) after next had at_end left e d h = rw d (comments_at_item s.item s.had_comments rest had next e h)
