-- A line has at most as many tokens as items.
use Rattle.std.proofs.Common.{ℕ, ◌+◌, ◌≤◌, Bool, true, false, if◌then◌else◌, List, [], ◌∷◌, length, arith, Result, Ok, Err, IfOk}
use Rattle.pp_lexer.specs.Lexed.{Seen}
use Rattle.pp_lexer.specs.Items.{Lexeme}
use Rattle.pp_lexer.specs.declared.token.Token.{Token}
use Rattle.pp_model.specs.Places.{Fault}
use Rattle.pp_model.specs.Conversions.{is_newline, conversion}
use Rattle.pp_model.specs.inner.Emitting.{token_before}
use Rattle.pp_model.specs.Lines.{line_length, line_tokens, ends_line}
use Rattle.pp_model.specs.inner.Lines.{tokens_from}
use Rattle.pp_expression.specs.Answers.{◌>>=◌}
use Rattle.pp_model.proofs.PartsLemmas.{line_tokens_is}

-- the tokens of a line are at most as many as its items
tokens_least : (item : Lexeme) (later : Result (List Token) Fault) (n : ℕ) → IfOk later (λ tokens. length tokens ≤ n)
    → IfOk (tokens_from item later) (λ tokens. length tokens ≤ (if ends_line item then 1 else 1 + n))
tokens_least (Err fault) later n h = tt
tokens_least (Ok token) later n h = go (is_newline token.value) (conversion token) later h
  where
    go : (b : Bool) (c : Result Token Fault) (l : Result (List Token) Fault) → IfOk l (λ tokens. length tokens ≤ n)
        → IfOk (if b then Ok [] else (c >>= λ first. token_before first l)) (λ tokens. length tokens ≤ (if b then 1 else 1 + n))
    go true c l h = omega arith
    go false (Err fault) l h = tt
    go false (Ok first) (Err fault) h = tt
    go false (Ok first) (Ok tokens) h = omega arith

pub line_tokens_least : (rest : List Seen) → IfOk (line_tokens rest) (λ tokens. length tokens ≤ line_length rest)
line_tokens_least [] = omega arith
line_tokens_least (s ∷ rest) = rw (line_tokens_is s rest) (tokens_least s.item (line_tokens rest) (line_length rest) (line_tokens_least rest))

-- a line is at most as long as what is left
pub line_length_least : (rest : List Seen) → line_length rest ≤ length rest
line_length_least [] = omega arith
line_length_least (s ∷ rest) = go (ends_line s.item) (line_length_least rest)
  where
    go : (b : Bool) → line_length rest ≤ length rest → (if b then 1 else 1 + line_length rest) ≤ length (s ∷ rest)
    go true h = omega arith
    go false h = omega arith
