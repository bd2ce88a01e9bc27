-- What holds of each token among items holds of the tokens of a line, and of the body that a `#define` line gives.
use Rattle.std.proofs.Common.{Bool, true, false, if◌then◌else◌, List, [], ◌∷◌}
use Rattle.std.specs.Prelude.{⊤, IfOk, Result, Ok, Err}
use Rattle.std.specs.List.{AllByRecursion as Each}
use Rattle.pp_lexer.specs.Items.{Lexeme}
use Rattle.pp_lexer.specs.Lexed.{Seen}
use Rattle.pp_lexer.specs.declared.lexer.item.Token.{Token as LexerToken}
use Rattle.pp_lexer.specs.declared.token.Location.{Location}
use Rattle.pp_lexer.specs.declared.token.Token.{Token}
use Rattle.pp_lexer.specs.declared.rules.Rules.{Rules}
use Rattle.pp_model.specs.Places.{Fault, source_text}
use Rattle.pp_model.specs.Names.{Name}
use Rattle.pp_model.specs.Conversions.{is_newline, closes_parameters, parts_parameters, conversion, refused_token}
use Rattle.pp_model.specs.Definitions.{Definition, object_like}
use Rattle.pp_model.specs.inner.Emitting.{token_before}
use Rattle.pp_model.specs.Lines.{line_tokens, first_name, name_of}
use Rattle.pp_model.specs.inner.Lines.{tokens_from, after_first_token}
use Rattle.pp_model.specs.Run.{content_tokens}
use Rattle.pp_model.specs.inner.Run.{content_from}
use Rattle.pp_expression.specs.Answers.{◌>>=◌}
use Rattle.pp_model.specs.DefineLines.{Parameters, new_parameter, after_parameter, after_comma, parameters, has_parameters, definition_at, defined_on, free_name}
use Rattle.pp_model.proofs.PartsLemmas.{line_tokens_is, content_tokens_is}
use Rattle.pp_model.proofs.holding.HoldingLemmas.{more_holds}

if_ok_then : {A B : Type 0} (P : A → Type 0) (Q : B → Type 0) (result : Result A Fault) (next : A → Result B Fault) → IfOk result P
    → ((a : A) → P a → IfOk (next a) Q) → IfOk (result >>= next) Q
if_ok_then P Q (Ok a) next h more = more a h
if_ok_then P Q (Err fault) next h more = tt

any_ok : {A : Type 0} (result : Result A Fault) → IfOk result (λ a. ⊤)
any_ok (Ok a) = tt
any_ok (Err fault) = tt

either_ok : {A : Type 0} (P : A → Type 0) (b : Bool) (x y : Result A Fault) → IfOk x P → IfOk y P → IfOk (if b then x else y) P
either_ok P true x y h k = h
either_ok P false x y h k = k

module _ (Q : Token → Type 0) where
  -- the token that an item is, if it is one of the text, has it
  abbrev pub HoldsOfLexeme : Lexeme → Type 0
  HoldsOfLexeme item = IfOk item (λ token. IfOk (conversion token) Q)

  abbrev pub HoldInItems : List Seen → Type 0
  HoldInItems items = Each (λ s. HoldsOfLexeme s.item) items

  converted_hold : (token : LexerToken) (later : Result (List Token) Fault) → HoldsOfLexeme (Ok token) → IfOk later (Each Q)
      → IfOk (conversion token >>= λ first. token_before first later) (Each Q)
  converted_hold token later h all = if_ok_then Q (Each Q) (conversion token) _ h (λ first q. more_holds Q first later q all)

  tokens_from_hold : (item : Lexeme) (later : Result (List Token) Fault) → HoldsOfLexeme item → IfOk later (Each Q) → IfOk (tokens_from item later) (Each Q)
  tokens_from_hold (Err fault) later h all = tt
  tokens_from_hold (Ok token) later h all = either_ok (Each Q) (is_newline token.value) (Ok []) _ tt (converted_hold token later h all)

  content_from_holds : (item : Lexeme) (later : Result (List Token) Fault) → HoldsOfLexeme item → IfOk later (Each Q)
      → IfOk (content_from item later) (Each Q)
  content_from_holds (Err fault) later h all = tt
  content_from_holds (Ok token) later h all = either_ok (Each Q) (is_newline token.value) later _ all (converted_hold token later h all)

  -- the tokens of a line have it
  pub line_tokens_hold : (rest : List Seen) → HoldInItems rest → IfOk (line_tokens rest) (Each Q)
  line_tokens_hold [] all = tt
  line_tokens_hold (s ∷ rest) all = rw (line_tokens_is s rest) (tokens_from_hold s.item (line_tokens rest) all.0 (line_tokens_hold rest all.1))

  -- so have those of an added content
  pub content_holds : (items : List Seen) → HoldInItems items → IfOk (content_tokens items) (Each Q)
  content_holds [] all = tt
  content_holds (s ∷ rest) all = rw (content_tokens_is s rest) (content_from_holds s.item (content_tokens rest) all.0 (content_holds rest all.1))

  pub after_holds : (rest : List Seen) → HoldInItems rest → HoldInItems (after_first_token rest)
  after_holds [] all = tt
  after_holds (s ∷ rest) all = all.1

  abbrev HoldsAfter : Parameters → Type 0
  HoldsAfter list = HoldInItems list.after

  mutual
    parameter_holds : (word : Location) (names : List Name) (rest : List Seen) → HoldInItems rest → IfOk (after_parameter word names rest) HoldsAfter
    parameter_holds word names [] all = tt
    parameter_holds word names (s ∷ rest) all =
        if_ok_then (λ token. ⊤) HoldsAfter s.item _ (any_ok s.item) (λ token h.
        either_ok HoldsAfter (closes_parameters token.value) (Ok (record { names = names; after = rest })) _ all.1
        (either_ok HoldsAfter (parts_parameters token.value) (after_comma word names rest) (Err (refused_token token)) (comma_holds word names rest all.1) tt))

    comma_holds : (word : Location) (names : List Name) (rest : List Seen) → HoldInItems rest → IfOk (after_comma word names rest) HoldsAfter
    comma_holds word names [] all = tt
    comma_holds word names (s ∷ rest) all =
        if_ok_then (λ token. ⊤) HoldsAfter s.item _ (any_ok s.item) (λ token h.
        if_ok_then (λ more. ⊤) HoldsAfter (name_of token >>= new_parameter names token.location) (λ more. after_parameter word more rest)
        (any_ok (name_of token >>= new_parameter names token.location))
        (λ more g. parameter_holds word more rest all.1))

  parameters_hold : (word : Location) (rest : List Seen) → HoldInItems rest → IfOk (parameters word rest) HoldsAfter
  parameters_hold word [] all = tt
  parameters_hold word (s ∷ rest) all =
      if_ok_then (λ token. ⊤) HoldsAfter s.item _ (any_ok s.item) (λ token h.
      either_ok HoldsAfter (closes_parameters token.value) (Ok (record { names = []; after = rest })) _ all.1
      (if_ok_then (λ names. ⊤) HoldsAfter (name_of token >>= new_parameter [] token.location) (λ names. after_parameter word names rest)
      (any_ok (name_of token >>= new_parameter [] token.location))
      (λ names g. parameter_holds word names rest all.1)))

  abbrev HoldsInBody : Definition → Type 0
  HoldsInBody definition = Each Q definition.body

  definition_holds : (word : Location) (rest : List Seen) → HoldInItems rest → IfOk (definition_at word rest) HoldsInBody
  definition_holds word rest all =
      either_ok HoldsInBody (has_parameters rest) _ _
      (if_ok_then HoldsAfter HoldsInBody (parameters word (after_first_token rest)) _ (parameters_hold word (after_first_token rest) (after_holds rest all))
      (λ list h. if_ok_then (Each Q) HoldsInBody (line_tokens list.after)
      (λ body. Ok (record { function_like = true; parameters = list.names; body = body; text = source_text })) (line_tokens_hold list.after h) (λ body g. g)))
      (if_ok_then (Each Q) HoldsInBody (line_tokens rest) (λ body. Ok (object_like source_text body)) (line_tokens_hold rest all) (λ body g. g))

  -- so has the body that a `#define` line says
  pub defined_holds : (rules : Rules) (word : Location) (rest : List Seen) → HoldInItems rest
      → IfOk (defined_on rules word rest) (λ named. Each Q named.definition.body)
  defined_holds rules word rest all =
      if_ok_then (λ first. ⊤) (λ named. Each Q named.definition.body) (first_name word rest >>= free_name rules) _
      (any_ok (first_name word rest >>= free_name rules)) (λ first h.
      if_ok_then HoldsInBody (λ named. Each Q named.definition.body) (definition_at word (after_first_token rest))
      (λ definition. Ok (record { name = first.name; location = first.location; definition = definition }))
      (definition_holds word (after_first_token rest) (after_holds rest all)) (λ definition g. g))
