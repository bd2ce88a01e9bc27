-- What a `#define` or an `#undef` line says depends on the items up to the line's end alone.
use Rattle.std.proofs.Common.{◌≡◌, Bool, true, false, not, ◌&&◌, ◌||◌, if◌then◌else◌, List, [], ◌∷◌, ◌++◌, refl, ap}
use Rattle.std.specs.Prelude.{Result, Ok, Err, ok_or}
use Rattle.pp_lexer.specs.Items.{Lexeme}
use Rattle.pp_lexer.specs.Lexed.{Seen}
use Rattle.pp_lexer.specs.declared.lexer.item.Token.{Token as LexerToken}
use Rattle.pp_lexer.specs.declared.lexer.item.TokenValue.{TokenValue as LexerTokenValue}
use Rattle.pp_lexer.specs.declared.lexer.item.TokenValue.TheVariants.{NewLine}
use Rattle.pp_lexer.specs.declared.rules.Rules.{Rules}
use Rattle.pp_lexer.specs.declared.token.Location.{Location}
use Rattle.pp_expression.specs.Answers.{◌>>=◌}
use Rattle.pp_model.specs.Places.{Fault, source_text}
use Rattle.pp_model.specs.Names.{Name}
use Rattle.pp_model.specs.Definitions.{Definition, object_like}
use Rattle.pp_model.specs.Conversions.{is_newline, identifier_of, opens_parameters, closes_parameters, parts_parameters, refused_token}
use Rattle.pp_model.specs.Lines.{ends_line, line_tokens, name_of, first_name}
use Rattle.pp_model.specs.DefineLines.{Parameters, new_parameter, after_parameter, after_comma, parameters, is_attached_paren, definition_at, free_name, defined_on, undefined_on}
use Rattle.pp_model.specs.declared.definition.Placed.{Placed}
use Rattle.pp_model.proofs.including.LineFrontLemmas.{has_line, HasLine, stays_before}
use Rattle.pp_model.proofs.including.LinePartFrontLemmas.{ended_line_front, line_tokens_front, same_next, name_before}

-- a `)`, a comma and a name end no line
closing_stays : (value : LexerTokenValue) → closes_parameters value ≡ true → is_newline value ≡ false
closing_stays NewLine h = cc
closing_stays _ h = refl

parting_stays : (value : LexerTokenValue) → parts_parameters value ≡ true → is_newline value ≡ false
parting_stays NewLine h = cc
parting_stays _ h = refl

naming_stays : (value : LexerTokenValue) (fault : Fault) (name : Name) → ok_or (identifier_of value) fault ≡ Ok name → is_newline value ≡ false
naming_stays NewLine fault name h = cc
naming_stays _ fault name h = refl

-- nor does the `(` after a macro's name
attached_stays : (item : Lexeme) → is_attached_paren item ≡ true → ends_line item ≡ false
attached_stays (Ok token) h = by token.value h
  where
    by : (value : LexerTokenValue) → opens_parameters value && not token.leading_whitespace ≡ true → is_newline value ≡ false
    by NewLine h = cc
    by _ h = refl
attached_stays (Err fault) h = cc

-- what the first token gives after a parameter, after a comma and after the `(`
abbrev at_parameter_end : Location → List Name → List Seen → LexerToken → Result Parameters Fault
at_parameter_end word names rest token =
    if closes_parameters token.value then Ok (record { names = names; after = rest })
    else if parts_parameters token.value then after_comma word names rest
    else Err (refused_token token)

abbrev at_parameter : Location → List Name → List Seen → LexerToken → Result Parameters Fault
at_parameter word names rest token = name_of token >>= new_parameter names token.location >>= λ others. after_parameter word others rest

abbrev at_first_parameter : Location → List Seen → LexerToken → Result Parameters Fault
at_first_parameter word rest token = if closes_parameters token.value then Ok (record { names = []; after = rest }) else at_parameter word [] rest token

-- `next` goes on alike from the items after the parameters, which have the line's end
module _ {B : Type 0} (more : List Seen) (next : Parameters → Result B Fault)
    (same : (names : List Name) (after : List Seen) → HasLine after
    → next (record { names = names; after = after ++ more }) ≡ next (record { names = names; after = after })) (word : Location) where
  -- whatever comes of the first token
  abbrev Same : Result Parameters Fault → Result Parameters Fault → Type 0
  Same longer shorter = (longer >>= next) ≡ (shorter >>= next)

  -- an error is the same
  on_token : (item : Lexeme) (longer shorter : LexerToken → Result Parameters Fault)
      → ((token : LexerToken) → item ≡ Ok token → Same (longer token) (shorter token)) → Same (item >>= longer) (item >>= shorter)
  on_token (Ok token) longer shorter each = each token refl
  on_token (Err fault) longer shorter each = refl

  -- the same after a parameter, and after a comma, in the rest of the line
  abbrev Later : List Seen → Type 0
  Later rest = HasLine rest → (names : List Name)
      → Same (after_parameter word names (rest ++ more)) (after_parameter word names rest)
      × Same (after_comma word names (rest ++ more)) (after_comma word names rest)

  module _ (token : LexerToken) (rest : List Seen) (h : is_newline token.value || has_line rest ≡ true) (later : Later rest) where
    -- a comma goes on with a parameter
    parting : (names : List Name) (p : Bool) → parts_parameters token.value ≡ p
        → Same (if p then after_comma word names (rest ++ more) else Err (refused_token token))
        (if p then after_comma word names rest else Err (refused_token token))
    parting names true e = (later (stays_before (is_newline token.value) (has_line rest) (parting_stays token.value e) h) names).1
    parting names false e = refl

    -- a `)` ends the parameters
    closing : (names : List Name) (longer shorter : Result Parameters Fault) → Same longer shorter → (c : Bool) → closes_parameters token.value ≡ c
        → Same (if c then Ok (record { names = names; after = rest ++ more }) else longer) (if c then Ok (record { names = names; after = rest }) else shorter)
    closing names longer shorter otherwise true e = same names rest (stays_before (is_newline token.value) (has_line rest) (closing_stays token.value e) h)
    closing names longer shorter otherwise false e = otherwise

    -- the token after a parameter
    parameter_end_front : (names : List Name) → Same (at_parameter_end word names (rest ++ more) token) (at_parameter_end word names rest token)
    parameter_end_front names = closing names _ _ (parting names (parts_parameters token.value) refl) (closes_parameters token.value) refl

    -- a name is a new parameter, or a fault
    added : (name : Name) → name_of token ≡ Ok name → (others : Result (List Name) Fault)
        → Same (others >>= λ found. after_parameter word found (rest ++ more)) (others >>= λ found. after_parameter word found rest)
    added name e (Ok others) =
        (later (stays_before (is_newline token.value) (has_line rest) (naming_stays token.value (refused_token token) name e) h) others).0
    added name e (Err fault) = refl

    -- the token after a comma
    parameter_front : (names : List Name) → Same (at_parameter word names (rest ++ more) token) (at_parameter word names rest token)
    parameter_front names = by (name_of token) refl
      where
        by : (found : Result Name Fault) → name_of token ≡ found
            → Same (found >>= new_parameter names token.location >>= λ others. after_parameter word others (rest ++ more))
            (found >>= new_parameter names token.location >>= λ others. after_parameter word others rest)
        by (Err fault) e = refl
        by (Ok name) e = added name e (new_parameter names token.location name)

    -- the token after the `(`
    first_parameter_front : Same (at_first_parameter word (rest ++ more) token) (at_first_parameter word rest token)
    first_parameter_front = closing [] _ _ (parameter_front []) (closes_parameters token.value) refl

  -- so it is with all the items after a parameter or a comma
  later_front : (rest : List Seen) → Later rest
  later_front [] h names = cc
  later_front (s ∷ rest) h names =
      let later : Later rest = later_front rest in (
        on_token s.item (at_parameter_end word names (rest ++ more)) (at_parameter_end word names rest)
            (λ token e. parameter_end_front token rest (rw e at h) later names),
        on_token s.item (at_parameter word names (rest ++ more)) (at_parameter word names rest)
            (λ token e. parameter_front token rest (rw e at h) later names),
      )

  -- the parameters, and what `next` makes of them
  pub parameters_front : (rest : List Seen) → HasLine rest → (parameters word (rest ++ more) >>= next) ≡ (parameters word rest >>= next)
  parameters_front [] h = cc
  parameters_front (s ∷ rest) h =
      on_token s.item (at_first_parameter word (rest ++ more)) (at_first_parameter word rest)
      (λ token e. first_parameter_front token rest (rw e at h) (later_front rest))

-- the definition with this list of parameters
abbrev with_parameters : Parameters → Result Definition Fault
with_parameters list = line_tokens list.after >>= λ body. Ok (record { function_like = true; parameters = list.names; body = body; text = source_text })

-- the definition after a name
pub definition_at_front : (word : Location) (rest more : List Seen) → HasLine rest → definition_at word (rest ++ more) ≡ definition_at word rest
definition_at_front word [] more h = cc
definition_at_front word (s ∷ rest) more h = by (is_attached_paren s.item) refl
  where
    by : (attached : Bool) → is_attached_paren s.item ≡ attached
        → (if attached then parameters word (rest ++ more) >>= with_parameters
        else line_tokens (s ∷ (rest ++ more)) >>= λ body. Ok (object_like source_text body))
        ≡ (if attached then parameters word rest >>= with_parameters else line_tokens (s ∷ rest) >>= λ body. Ok (object_like source_text body))
    by true e =
        parameters_front more with_parameters
        (λ names after ended. ap (λ line. line >>= λ body. Ok (record { function_like = true; parameters = names; body = body; text = source_text }))
        (line_tokens_front after more ended))
        word rest (stays_before (ends_line s.item) (has_line rest) (attached_stays s.item e) h)
    by false e = ap (λ line. line >>= λ body. Ok (object_like source_text body)) (line_tokens_front (s ∷ rest) more h)

-- a name that is free is the first one
free_is_first : (rules : Rules) (first : Result Placed Fault) (name : Placed) → (first >>= free_name rules) ≡ Ok name → (found : Placed) × (first ≡ Ok found)
free_is_first rules (Ok found) name e = (found, refl)
free_is_first rules (Err fault) name e = cc

-- what a `#define` line says
pub defined_on_front : (rules : Rules) (word : Location) (rest more : List Seen) → HasLine rest
    → defined_on rules word (rest ++ more) ≡ defined_on rules word rest
defined_on_front rules word [] more h = cc
defined_on_front rules word (s ∷ rest) more h =
    same_next (first_name word (s ∷ rest) >>= free_name rules) _ _
    (λ name e. let found = free_is_first rules (first_name word (s ∷ rest)) name e in
    ap (λ line. line >>= λ definition. Ok (record { name = name.name; location = name.location; definition = definition }))
    (definition_at_front word rest more (name_before word s rest found.0 found.1 h)))

-- what an `#undef` line says
pub undefined_on_front : (rules : Rules) (word : Location) (rest more : List Seen) → HasLine rest
    → undefined_on rules word (rest ++ more) ≡ undefined_on rules word rest
undefined_on_front rules word [] more h = cc
undefined_on_front rules word (s ∷ rest) more h =
    same_next (first_name word (s ∷ rest) >>= free_name rules) _ _
    (λ name e. let found = free_is_first rules (first_name word (s ∷ rest)) name e in
    ap (λ ended. ended >>= λ end. Ok name.name) (ended_line_front word rest more (name_before word s rest found.0 found.1 h)))
