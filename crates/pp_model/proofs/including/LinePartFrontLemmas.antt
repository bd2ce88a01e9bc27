-- What is read of a directive's line depends on the items up to the line's end alone.
use Rattle.std.proofs.Common.{◌≡◌, ℕ, ◌+◌, ◌≤◌, Bool, true, false, if◌then◌else◌, ◌||◌, List, [], ◌∷◌, ◌++◌, length, refl, ap, arith}
use Rattle.std.specs.Prelude.{Result, Ok, Err, Some, None, unwrap_or, ok_or}
use Rattle.std.specs.Option.{option_or}
use Rattle.std.specs.Result.{result_err}
use Rattle.pp_lexer.specs.Items.{Lexeme}
use Rattle.pp_lexer.specs.Lexed.{Seen}
use Rattle.pp_lexer.specs.declared.lexer.item.TokenValue.{TokenValue as LexerTokenValue}
use Rattle.pp_lexer.specs.declared.lexer.item.TokenValue.TheVariants.{NewLine}
use Rattle.pp_lexer.specs.declared.token.Location.{Location}
use Rattle.pp_expression.specs.Answers.{◌>>=◌}
use Rattle.pp_model.specs.Places.{Fault}
use Rattle.pp_model.specs.Conversions.{is_newline, identifier_of, conversion, refused_token}
use Rattle.pp_model.specs.Emitting.{first_before}
use Rattle.pp_model.specs.Lines.{ends_line, line_length, newline_start, line_end, include_line, line_fault, line_tokens, comments_before_end, name_of, first_name, ended_line, only_name}
use Rattle.pp_model.specs.declared.definition.Placed.{Placed}
use Rattle.pp_model.proofs.including.LineFrontLemmas.{has_line, HasLine, stays_before}

-- what comes at a line's end is the same, and so is what comes of the items after one that doesn't end it
same_up_to_end : {A : Type 0} (ends later : Bool) (x y z : A) → ends || later ≡ true → (later ≡ true → y ≡ z)
    → (if ends then x else y) ≡ (if ends then x else z)
same_up_to_end true later x y z h same = refl
same_up_to_end false later x y z h same = same h

-- the number of its items
pub line_length_front : (rest more : List Seen) → HasLine rest → line_length (rest ++ more) ≡ line_length rest
line_length_front [] more h = cc
line_length_front (s ∷ rest) more h =
    same_up_to_end (ends_line s.item) (has_line rest) _ _ _ h
    (λ later. ap (λ n. 1 + n) (line_length_front rest more later))

-- the line has no more items than there are
pub line_length_within : (rest : List Seen) → line_length rest ≤ length rest
line_length_within [] = omega arith
line_length_within (s ∷ rest) = by (ends_line s.item) (line_length_within rest)
  where
    by : (ends : Bool) → line_length rest ≤ length rest → (if ends then 1 else 1 + line_length rest) ≤ length (s ∷ rest)
    by true later = omega arith
    by false later = omega (arith, later)

-- where it ends
pub line_end_front : (from : ℕ) (rest more : List Seen) → HasLine rest → line_end from (rest ++ more) ≡ line_end from rest
line_end_front from [] more h = cc
line_end_front from (s ∷ rest) more h = by s.item h (line_end_front from rest more)
  where
    by : (item : Lexeme) → ends_line item || has_line rest ≡ true → (HasLine rest → line_end from (rest ++ more) ≡ line_end from rest)
        → unwrap_or (newline_start item) (line_end from (rest ++ more)) ≡ unwrap_or (newline_start item) (line_end from rest)
    by (Err fault) ends same = same ends
    by (Ok token) ends same = of (is_newline token.value) ends
      where
        of : (newline : Bool) → newline || has_line rest ≡ true
            → unwrap_or (if newline then Some token.location.start else None) (line_end from (rest ++ more))
            ≡ unwrap_or (if newline then Some token.location.start else None) (line_end from rest)
        of true ends = refl
        of false ends = same ends

-- what an `#include` line asks for
pub include_line_front : (word : Location) (rest more : List Seen) → HasLine rest → include_line word (rest ++ more) ≡ include_line word rest
include_line_front word rest more h =
    ap (λ n. record { word = word; rest = record { start = word.end; end = n; line = word.line } }) (line_end_front word.end rest more h)

-- the first error on it
pub line_fault_front : (rest more : List Seen) → HasLine rest → line_fault (rest ++ more) ≡ line_fault rest
line_fault_front [] more h = cc
line_fault_front (s ∷ rest) more h =
    same_up_to_end (ends_line s.item) (has_line rest) _ _ _ h
    (λ later. ap (λ found. option_or (result_err s.item) found) (line_fault_front rest more later))

-- its tokens
pub line_tokens_front : (rest more : List Seen) → HasLine rest → line_tokens (rest ++ more) ≡ line_tokens rest
line_tokens_front [] more h = cc
line_tokens_front (s ∷ rest) more h =
    same_up_to_end (ends_line s.item) (has_line rest) _ _ _ h
    (λ later. ap (λ tokens. s.item >>= λ token. conversion token >>= λ first. first_before first tokens) (line_tokens_front rest more later))

-- whether comments were passed before its end
pub comments_before_end_front : (rest more : List Seen) → HasLine rest → comments_before_end (rest ++ more) ≡ comments_before_end rest
comments_before_end_front [] more h = cc
comments_before_end_front (s ∷ rest) more h =
    same_up_to_end (ends_line s.item) (has_line rest) _ _ _ h (comments_before_end_front rest more)

-- that it ends at its first item
pub ended_line_front : (word : Location) (rest more : List Seen) → HasLine rest → ended_line word (rest ++ more) ≡ ended_line word rest
ended_line_front word [] more h = cc
ended_line_front word (s ∷ rest) more h = refl

-- what is read after a value that is there
pub same_next : {A B E : Type 0} (value : Result A E) (f g : A → Result B E) → ((a : A) → value ≡ Ok a → f a ≡ g a) → (value >>= f) ≡ (value >>= g)
same_next (Ok a) f g same = same a refl
same_next (Err fault) f g same = refl

-- a name doesn't end the line,
named_value : (value : LexerTokenValue) (fault : Fault) (place : Location) (name : Placed)
    → (ok_or (identifier_of value) fault >>= λ found. Ok (record { name = found; location = place })) ≡ Ok name → is_newline value ≡ false
named_value NewLine fault place name e = cc
named_value _ fault place name e = refl

named_item : (item : Lexeme) (name : Placed)
    → (item >>= λ token. name_of token >>= λ found. Ok (record { name = found; location = token.location })) ≡ Ok name → ends_line item ≡ false
named_item (Ok token) name e = named_value token.value (refused_token token) token.location name e
named_item (Err fault) name e = cc

-- so the line's end comes after it
pub name_before : (word : Location) (s : Seen) (rest : List Seen) (name : Placed) → first_name word (s ∷ rest) ≡ Ok name → HasLine (s ∷ rest) → HasLine rest
name_before word s rest name e h = stays_before (ends_line s.item) (has_line rest) (named_item s.item name e) h

-- the only name on it
pub only_name_front : (word : Location) (rest more : List Seen) → HasLine rest → only_name word (rest ++ more) ≡ only_name word rest
only_name_front word [] more h = cc
only_name_front word (s ∷ rest) more h =
    same_next (first_name word (s ∷ rest)) (λ first. ended_line word (rest ++ more) >>= λ end. Ok first.name)
    (λ first. ended_line word rest >>= λ end. Ok first.name)
    (λ name e. ap (λ ended. ended >>= λ end. Ok name.name) (ended_line_front word rest more (name_before word s rest name e h)))
