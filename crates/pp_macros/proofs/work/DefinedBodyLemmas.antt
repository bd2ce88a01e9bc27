-- A body that is defined on a line has at most as many tokens as the line has items.
use Rattle.std.proofs.Common.{◌≡◌, ℕ, ◌+◌, ◌≤◌, Bool, true, false, ◌&&◌, if◌then◌else◌, List, [], ◌∷◌, length, refl, arith, Result, Ok, Err, IfOk}
use Rattle.pp_lexer.specs.Lexed.{Seen}
use Rattle.pp_lexer.specs.declared.rules.Rules.{Rules}
use Rattle.pp_lexer.specs.Items.{Lexeme}
use Rattle.pp_lexer.specs.declared.lexer.item.Token.{Token as LexerToken}
use Rattle.pp_lexer.specs.declared.lexer.item.TokenValue.{TokenValue as LexerTokenValue}
use Rattle.pp_lexer.specs.declared.lexer.item.TokenValue.TheVariants.{Ident as LexerIdent}
use Rattle.pp_lexer.specs.declared.token.Location.{Location}
use Rattle.pp_lexer.specs.declared.token.Token.{Token}
use Rattle.pp_model.specs.Places.{Fault, source_text}
use Rattle.pp_model.specs.Names.{Name}
use Rattle.pp_model.specs.Conversions.{is_newline, identifier_of}
use Rattle.pp_model.specs.Definitions.{Definition, object_like}
use Rattle.pp_lexer.specs.declared.token.PreprocessorError.TheVariants.{UnexpectedToken}
use Rattle.pp_lexer.specs.declared.token.TokenValue.TheVariants.{Ident}
use Rattle.pp_model.specs.DefineLines.{is_attached_paren, definition_at, is_own_name, free_name, defined_on}
use Rattle.pp_model.specs.Lines.{line_length, line_tokens}
use Rattle.pp_model.specs.inner.Lines.{name_or_refused}
use Rattle.pp_expression.specs.Answers.{◌>>=◌}
use Rattle.pp_model.specs.declared.definition.Named.{Named}
use Rattle.pp_model.specs.declared.definition.Placed.{Placed}
use Rattle.pp_macros.specs.inner.ParameterReading.{function_at}
use Rattle.pp_macros.proofs.work.BodyLemmas.{line_tokens_least}
use Rattle.pp_macros.proofs.work.LinePartsLemmas.{name_or_refused_is}
use Rattle.pp_macros.proofs.work.ParameterLemmas.{function_least, paren_goes_on}

body_least : (r : Result (List Token) Fault) (n : ℕ) → IfOk r (λ tokens. length tokens ≤ n)
    → IfOk (r >>= λ body. Ok (object_like source_text body)) (λ definition. length definition.body ≤ n)
body_least (Err fault) n h = tt
body_least (Ok tokens) n h = h

no_longer : (r : Result Definition Fault) (m n : ℕ) → m ≤ n → IfOk r (λ definition. length definition.body ≤ m)
    → IfOk r (λ definition. length definition.body ≤ n)
no_longer (Err fault) m n low h = tt
no_longer (Ok definition) m n low h = omega arith

-- with parameters, where a `(` stands directly after the name, or without
definition_by : (word : Location) (item : Lexeme) (had : Bool) (rest : List Seen) (attached : Bool) → is_attached_paren item ≡ attached
    → IfOk (if attached then function_at word rest else (line_tokens (record { item = item; had_comments = had } ∷ rest) >>= λ body. Ok (object_like source_text body)))
    (λ definition. length definition.body ≤ line_length (record { item = item; had_comments = had } ∷ rest))
definition_by word item had rest true e =
    no_longer (function_at word rest) (line_length rest) (line_length (record { item = item; had_comments = had } ∷ rest))
    (paren_goes_on item had rest e).shorter (function_least word rest)
definition_by word item had rest false e =
    let line = record { item = item; had_comments = had } ∷ rest in
    body_least (line_tokens line) (line_length line) (line_tokens_least line)

definition_least : (word : Location) (rest : List Seen) → IfOk (definition_at word rest) (λ definition. length definition.body ≤ line_length rest)
definition_least word [] = body_least (line_tokens []) (line_length []) (line_tokens_least [])
definition_least word (s ∷ rest) = definition_by word s.item s.had_comments rest (is_attached_paren s.item) refl

named_least : (r : Result Definition Fault) (name : Name) (place : Location) (n : ℕ) → IfOk r (λ definition. length definition.body ≤ n)
    → IfOk (r >>= λ definition. Ok (record { name = name; location = place; definition = definition }))
    (λ (named : Named). length named.definition.body ≤ 1 + n)
named_least (Err fault) name place n h = tt
named_least (Ok definition) name place n h = omega arith

-- the name is free, or the line has a fault
free_least : (rules : Rules) (first : Placed) (r : Result Definition Fault) (n : ℕ) → IfOk r (λ definition. length definition.body ≤ n)
    → IfOk (free_name rules first >>= λ free. r >>= λ definition. Ok (record { name = free.name; location = free.location; definition = definition }))
    (λ (named : Named). length named.definition.body ≤ 1 + n)
free_least rules first r n h = go (rules.keeps_own_names && is_own_name first.name)
  where
    go : (b : Bool)
        → IfOk ((if b then Err (UnexpectedToken (Ident first.name), first.location) else Ok first) >>= λ free. r >>= λ definition. Ok (record {
          name = free.name;
          location = free.location;
          definition = definition;
        })) (λ (named : Named). length named.definition.body ≤ 1 + n)
    go true = tt
    go false = named_least r first.name first.location n h

defined_after : (rules : Rules) (word : Location) (token : LexerToken) (value : LexerTokenValue) (rest : List Seen)
    → IfOk ((name_or_refused token (identifier_of value) >>= free_name rules) >>= λ first. definition_at word rest >>= λ definition. Ok (record {
      name = first.name;
      location = first.location;
      definition = definition;
    })) (λ (named : Named). length named.definition.body ≤ (if is_newline value then 1 else 1 + line_length rest))
defined_after rules word token (LexerIdent name) rest =
    free_least rules (record { name = name; location = token.location }) (definition_at word rest) (line_length rest) (definition_least word rest)
defined_after rules word token _ rest = tt

defined_at : (rules : Rules) (word : Location) (item : Lexeme) (had : Bool) (rest : List Seen)
    → IfOk (defined_on rules word (record { item = item; had_comments = had } ∷ rest))
    (λ named. length named.definition.body ≤ line_length (record { item = item; had_comments = had } ∷ rest))
defined_at rules word (Err fault) had rest = tt
defined_at rules word (Ok token) had rest = rw (name_or_refused_is token) (defined_after rules word token token.value rest)

-- a macro's body has no more tokens than its line has items
pub defined_least : (rules : Rules) (word : Location) (after : List Seen) → IfOk (defined_on rules word after) (λ named. length named.definition.body ≤ line_length after)
defined_least rules word [] = tt
defined_least rules word (s ∷ rest) = defined_at rules word s.item s.had_comments rest
