-- The parameters of a macro, read token by token.
use Rattle.std.proofs.Common.{◌≡◌, ◌∙◌, ℕ, suc, ◌+◌, ◌≤◌, arith, drop, length, ◌++◌, Option, Some, None, Bool, true, false, if◌then◌else◌, List, [], ◌∷◌, refl, sym, ap, subst, Result, Ok, Err, IfOk}
use Rattle.std.specs.Prelude.{not, ◌&&◌}
use Rattle.pp_lexer.specs.Items.{Lexeme}
use Rattle.pp_lexer.specs.Lexed.{Seen}
use Rattle.pp_lexer.specs.declared.lexer.item.Token.{Token as LexerToken}
use Rattle.pp_lexer.specs.declared.lexer.item.TokenValue.{TokenValue as LexerTokenValue}
use Rattle.pp_lexer.specs.declared.lexer.item.TokenValue.TheVariants.{NewLine}
use Rattle.pp_lexer.specs.declared.token.Location.{Location}
use Rattle.pp_lexer.specs.declared.token.Token.{Token}
use Rattle.pp_lexer.specs.declared.token.PreprocessorError.TheVariants.{UnexpectedEndOfInput, DuplicateParameter}
use Rattle.pp_model.specs.Places.{Fault, source_text}
use Rattle.pp_model.specs.Conversions.{is_newline, opens_parameters, identifier_of, closes_parameters, parts_parameters, refused_token}
use Rattle.pp_model.specs.DefineLines.{is_attached_paren, Parameters, parameters, after_parameter, after_comma}
use Rattle.pp_model.specs.inner.DefineLines.{parameter_here}
use Rattle.pp_model.specs.Lines.{first_name, line_length, line_tokens, ends_line}
use Rattle.pp_model.specs.inner.Lines.{name_or_refused}
use Rattle.pp_expression.specs.Answers.{◌>>=◌}
use Rattle.pp_model.specs.Definitions.{Definition}
use Rattle.pp_model.specs.Names.{Name, is_in}
use Rattle.pp_model.specs.declared.definition.Placed.{Placed}
use Rattle.pp_macros.specs.inner.LineReading.{Meets, as_next, next_token}
use Rattle.pp_macros.specs.inner.ParameterReading.{ends_parameters, some_names, first_parameter, function_at}
use Rattle.pp_macros.specs.declared.halt.Halt.{Halt}
use Rattle.pp_macros.specs.declared.halt.Halt.TheVariants as halt
use Rattle.pp_macros.proofs.work.BodyLemmas.{line_tokens_least}
use Rattle.pp_macros.proofs.work.LinePartsLemmas.{parameter_here_is, name_or_refused_is}

-- where neither `)` nor a comma stands, the parameters have that fault
refused_at : (word : Location) (names : List Name) (token : LexerToken) (rest : List Seen) (fault : Fault) (closes parts : Bool)
    → (if closes then Ok true else if parts then Ok false else Err (refused_token token)) ≡ Err fault
    → ◌≡◌ {A = Result Parameters Fault}
    (if closes then Ok (record { names = names; after = rest }) else if parts then after_comma word names rest else Err (refused_token token)) (Err fault)
refused_at word names token rest fault true parts e = cc
refused_at word names token rest fault false true e = cc
refused_at word names token rest fault false false e = let same : refused_token token ≡ fault = cc in ap (λ (f : Fault). Err f) same

refused_item : (word : Location) (names : List Name) (item : Lexeme) (had : Bool) (rest : List Seen) (fault : Fault)
    → ends_parameters word (record { item = item; had_comments = had } ∷ rest) ≡ Err fault
    → after_parameter word names (record { item = item; had_comments = had } ∷ rest) ≡ Err fault
refused_item word names (Err f) had rest fault e = let same : f ≡ fault = cc in ap (λ (x : Fault). Err x) same
refused_item word names (Ok token) had rest fault e = refused_at word names token rest fault (closes_parameters token.value) (parts_parameters token.value) e

pub end_refused : (word : Location) (names : List Name) (rest : List Seen) (fault : Fault) → ends_parameters word rest ≡ Err fault
    → after_parameter word names rest ≡ Err fault
end_refused word names [] fault e = cc
end_refused word names (s ∷ rest) fault e = refused_item word names s.item s.had_comments rest fault e

-- where no first parameter stands, the parameters have that fault
first_at : (closes : Bool) (here : Result (List Name) Fault) (none : Parameters) (later : List Name → Result Parameters Fault) (fault : Fault)
    → ◌≡◌ {A = Result (Option (List Name)) Fault} (if closes then Ok None else (here >>= some_names)) (Err fault)
    → ◌≡◌ {A = Result Parameters Fault} (if closes then Ok none else (here >>= later)) (Err fault)
first_at true here none later fault e = cc
first_at false (Ok names) none later fault e = cc
first_at false (Err other) none later fault e = let same : other ≡ fault = cc in ap (λ (f : Fault). Err f) same

-- a parameter that stands here, and what goes on after it
abbrev after_here : Location → List Seen → Result (List Name) Fault → Result Parameters Fault
after_here word rest here = here >>= λ names. after_parameter word names rest

-- no parameters, or a first one that stands here
abbrev first_here : Location → LexerToken → List Seen → Result (List Name) Fault → Result Parameters Fault
first_here word token rest here = if closes_parameters token.value then Ok (record { names = []; after = rest }) else after_here word rest here

parameters_are : (word : Location) (token : LexerToken) (had : Bool) (rest : List Seen)
    → parameters word (record { item = Ok token; had_comments = had } ∷ rest)
    ≡ first_here word token rest (parameter_here [] token (identifier_of token.value))
parameters_are word token had rest = ap (first_here word token rest) (parameter_here_is [] token)

after_comma_are : (word : Location) (names : List Name) (token : LexerToken) (had : Bool) (rest : List Seen)
    → after_comma word names (record { item = Ok token; had_comments = had } ∷ rest)
    ≡ after_here word rest (parameter_here names token (identifier_of token.value))
after_comma_are word names token had rest = ap (after_here word rest) (parameter_here_is names token)

first_item : (word : Location) (item : Lexeme) (had : Bool) (rest : List Seen) (fault : Fault)
    → first_parameter word (record { item = item; had_comments = had } ∷ rest) ≡ Err fault
    → parameters word (record { item = item; had_comments = had } ∷ rest) ≡ Err fault
first_item word (Err f) had rest fault e = let same : f ≡ fault = cc in ap (λ (x : Fault). Err x) same
first_item word (Ok token) had rest fault e =
    let here = parameter_here [] token (identifier_of token.value) in
    let none : Parameters = record { names = []; after = rest } in
    parameters_are word token had rest ∙ first_at (closes_parameters token.value) here none (λ names. after_parameter word names rest) fault e

first_refused : (word : Location) (rest : List Seen) (fault : Fault) → first_parameter word rest ≡ Err fault → parameters word rest ≡ Err fault
first_refused word [] fault e = let same : (UnexpectedEndOfInput, word) ≡ fault = cc in ap (λ (f : Fault). Err f) same
first_refused word (s ∷ rest) fault e = first_item word s.item s.had_comments rest fault e

pub meets_first : {A B : Type 0} (shows : A → Parameters) (shown : B → Option (List Name)) (r : Result A Halt)
    (h : Halt) (word : Location) (rest : List Seen) → r ≡ Err h
    → Meets shown (Err h) (first_parameter word rest) → Meets shows r (parameters word rest)
meets_first {A} shows shown r (halt.Fault fault) word rest is h =
    subst (λ (x : Result A Halt). Meets shows x (parameters word rest)) (sym is) (first_refused word rest fault h)
meets_first {A} shows shown r halt.OutOfMemory word rest is h = subst (λ (x : Result A Halt). Meets shows x (parameters word rest)) (sym is) tt

-- that fault is the answer
pub meets_refused : {A : Type 0} (shows : A → Parameters) (r : Result A Halt) (h : Halt) (word : Location) (names : List Name) (rest : List Seen)
    (whole : Result Parameters Fault) → r ≡ Err h → whole ≡ after_parameter word names rest
    → Meets {A = Bool} (λ b. b) (Err h) (ends_parameters word rest) → Meets shows r whole
meets_refused {A} shows r (halt.Fault fault) word names rest whole is e h =
    subst (λ (x : Result A Halt). Meets shows x whole) (sym is) (e ∙ end_refused word names rest fault h)
meets_refused {A} shows r halt.OutOfMemory word names rest whole is e h = subst (λ (x : Result A Halt). Meets shows x whole) (sym is) tt

-- the line goes on from here to there
pub record IsOnLine (rest after : List Seen) : Type 0 where
  pub place : drop (line_length rest) rest ≡ drop (line_length after) after
  pub fewer : length after ≤ length rest
  pub shorter : line_length after ≤ line_length rest

on_line_then : (a b c : List Seen) → IsOnLine a b → IsOnLine b c → IsOnLine a c
on_line_then a b c h k = record { place = h.place ∙ k.place; fewer = omega (arith, h.fewer, k.fewer); shorter = omega (arith, h.shorter, k.shorter) }

past_item : (item : Lexeme) (had : Bool) (rest : List Seen) → ends_line item ≡ false → IsOnLine (record { item = item; had_comments = had } ∷ rest) rest
past_item item had rest e =
    let one : 1 + line_length rest ≡ suc (line_length rest) = omega arith in
    record { place = rw e (ap (λ (k : ℕ). drop k (record { item = item; had_comments = had } ∷ rest)) one); fewer = omega arith; shorter = rw e (omega arith) }

closes_on : (value : LexerTokenValue) → closes_parameters value ≡ true → is_newline value ≡ false
closes_on NewLine e = cc
closes_on _ e = refl

parts_on : (value : LexerTokenValue) → parts_parameters value ≡ true → is_newline value ≡ false
parts_on NewLine e = cc
parts_on _ e = refl

name_on : (value : LexerTokenValue) (name : Name) → identifier_of value ≡ Some name → is_newline value ≡ false
name_on NewLine name e = cc
name_on _ name e = refl

-- after a parameter, where this is known of what goes on after a comma
after_token : (word : Location) (names : List Name) (token : LexerToken) (had : Bool) (rest : List Seen) (p : Parameters)
    → ((q : Parameters) → after_comma word names rest ≡ Ok q → IsOnLine rest q.after)
    → (closes parts : Bool) → closes_parameters token.value ≡ closes → parts_parameters token.value ≡ parts
    → (if closes then Ok (record { names = names; after = rest }) else if parts then after_comma word names rest else Err
    (refused_token token)) ≡ Ok p → IsOnLine (record { item = Ok token; had_comments = had } ∷ rest) p.after
after_token word names token had rest p comma true parts c d e =
    let same : record { names = names; after = rest } ≡ p = cc in
    subst (λ (x : Parameters). IsOnLine (record { item = Ok token; had_comments = had } ∷ rest) x.after) same
    (past_item (Ok token) had rest (closes_on token.value c))
after_token word names token had rest p comma false true c d e =
    on_line_then (record { item = Ok token; had_comments = had } ∷ rest) rest p.after (past_item (Ok token) had rest (parts_on token.value d)) (comma p e)
after_token word names token had rest p comma false false c d e = cc

-- a parameter that stands here, where this is known of what goes on after it
here_token : (word : Location) (names : List Name) (token : LexerToken) (had : Bool) (rest : List Seen) (p : Parameters)
    → ((more : List Name) (q : Parameters) → after_parameter word more rest ≡ Ok q → IsOnLine rest q.after)
    → (found : Option Name) → identifier_of token.value ≡ found
    → (parameter_here names token found >>= λ more. after_parameter word more rest) ≡ Ok p
    → IsOnLine (record { item = Ok token; had_comments = had } ∷ rest) p.after
here_token word names token had rest p after None f e = cc
here_token word names token had rest p after (Some name) f e =
    on_line_then (record { item = Ok token; had_comments = had } ∷ rest) rest p.after (past_item (Ok token) had rest (name_on token.value name f))
    (go (is_in name names) e)
  where
    go : (b : Bool) → ((if b then Err (DuplicateParameter, token.location) else Ok
        (names ++ name ∷ [])) >>= λ more. after_parameter word more rest) ≡ Ok p → IsOnLine rest p.after
    go true e = cc
    go false e = after (names ++ name ∷ []) p e

after_item : (word : Location) (names : List Name) (item : Lexeme) (had : Bool) (rest : List Seen) (p : Parameters)
    → ((q : Parameters) → after_comma word names rest ≡ Ok q → IsOnLine rest q.after)
    → after_parameter word names (record { item = item; had_comments = had } ∷ rest) ≡ Ok p
    → IsOnLine (record { item = item; had_comments = had } ∷ rest) p.after
after_item word names (Err fault) had rest p comma e = cc
after_item word names (Ok token) had rest p comma e = after_token word names token had rest p comma (closes_parameters token.value)
    (parts_parameters token.value) refl refl e

comma_item : (word : Location) (names : List Name) (item : Lexeme) (had : Bool) (rest : List Seen) (p : Parameters)
    → ((more : List Name) (q : Parameters) → after_parameter word more rest ≡ Ok q → IsOnLine rest q.after)
    → after_comma word names (record { item = item; had_comments = had } ∷ rest) ≡ Ok p → IsOnLine (record { item = item; had_comments = had } ∷ rest) p.after
comma_item word names (Err fault) had rest p after e = cc
comma_item word names (Ok token) had rest p after e =
    here_token word names token had rest p after (identifier_of token.value) refl (sym (after_comma_are word names token had rest) ∙ e)

mutual
  after_on_line : (word : Location) (names : List Name) (rest : List Seen) (p : Parameters) → after_parameter word names rest ≡ Ok p → IsOnLine rest p.after
  after_on_line word names [] p e = cc
  after_on_line word names (s ∷ rest) p e = after_item word names s.item s.had_comments rest p (λ q f. comma_on_line word names rest q f) e

  comma_on_line : (word : Location) (names : List Name) (rest : List Seen) (p : Parameters) → after_comma word names rest ≡ Ok p → IsOnLine rest p.after
  comma_on_line word names [] p e = cc
  comma_on_line word names (s ∷ rest) p e = comma_item word names s.item s.had_comments rest p (λ more q f. after_on_line word more rest q f) e

opening_token : (word : Location) (token : LexerToken) (had : Bool) (rest : List Seen) (p : Parameters) (closes : Bool) → closes_parameters token.value ≡ closes
    → (if closes then Ok (record { names = []; after = rest }) else
    (parameter_here [] token (identifier_of token.value) >>= λ names. after_parameter word names rest)) ≡ Ok p
    → IsOnLine (record { item = Ok token; had_comments = had } ∷ rest) p.after
opening_token word token had rest p true c e =
    let same : record { names = []; after = rest } ≡ p = cc in
    subst (λ (x : Parameters). IsOnLine (record { item = Ok token; had_comments = had } ∷ rest) x.after) same
    (past_item (Ok token) had rest (closes_on token.value c))
opening_token word token had rest p false c e = here_token word [] token had rest p (λ more q f. after_on_line word more rest q f)
    (identifier_of token.value) refl e

opening_item : (word : Location) (item : Lexeme) (had : Bool) (rest : List Seen) (p : Parameters)
    → parameters word (record { item = item; had_comments = had } ∷ rest) ≡ Ok p → IsOnLine (record { item = item; had_comments = had } ∷ rest) p.after
opening_item word (Err fault) had rest p e = cc
opening_item word (Ok token) had rest p e =
    opening_token word token had rest p (closes_parameters token.value) refl (sym (parameters_are word token had rest) ∙ e)

-- the parameters stand on one line
pub parameters_on_line : (word : Location) (rest : List Seen) (p : Parameters) → parameters word rest ≡ Ok p → IsOnLine rest p.after
parameters_on_line word [] p e = cc
parameters_on_line word (s ∷ rest) p e = opening_item word s.item s.had_comments rest p e

paren_on : (value : LexerTokenValue) (b : Bool) → (opens_parameters value && b) ≡ true → is_newline value ≡ false
paren_on NewLine b e = cc
paren_on _ b e = refl

-- the line goes on after a `(` that stands directly after a name
pub paren_goes_on : (item : Lexeme) (had : Bool) (rest : List Seen) → is_attached_paren item ≡ true
    → IsOnLine (record { item = item; had_comments = had } ∷ rest) rest
paren_goes_on (Ok token) had rest e = past_item (Ok token) had rest (paren_on token.value (not token.leading_whitespace) e)
paren_goes_on (Err fault) had rest e = cc

paren_item : (item : Lexeme) (had : Bool) (rest : List Seen) (token : LexerToken) → as_next item ≡ Ok (Some token)
    → is_attached_paren (Ok token) ≡ true → IsOnLine (record { item = item; had_comments = had } ∷ rest) rest
paren_item (Ok found) had rest token e paren =
    let same : token ≡ found = cc in
    paren_goes_on (Ok found) had rest (ap (λ (t : LexerToken). is_attached_paren (Ok t)) (sym same) ∙ paren)
paren_item (Err fault) had rest token e paren = cc

-- the line goes on after a `(`
pub paren_place : (rest after : List Seen) (token : LexerToken) → next_token rest ≡ Ok (Some token) → is_attached_paren (Ok token) ≡ true
    → after ≡ drop 1 rest → drop (line_length rest) rest ≡ drop (line_length after) after
paren_place [] after token e paren is = cc
paren_place (s ∷ rest) after token e paren is = (paren_item s.item s.had_comments rest token e paren).place
    ∙ ap (λ (r : List Seen). drop (line_length r) r) (sym is)

-- a body after parameters has at most as many tokens as their line has items
pub function_least : (word : Location) (rest : List Seen) → IfOk (function_at word rest) (λ definition. length definition.body ≤ line_length rest)
function_least word rest = of_list (parameters word rest) refl
  where
    of_body : (names : List Name) (p : Parameters) → IsOnLine rest p.after → (body : Result (List Token) Fault)
        → IfOk body (λ tokens. length tokens ≤ line_length p.after)
        → IfOk (body >>= λ tokens. Ok (record { function_like = true; parameters = names; body = tokens; text = source_text }))
        (λ (definition : Definition). length definition.body ≤ line_length rest)
    of_body names p on (Ok tokens) low = omega (arith, on.shorter, low)
    of_body names p on (Err fault) low = tt

    of_list : (list : Result Parameters Fault) → parameters word rest ≡ list
        → IfOk (list >>= λ l. line_tokens l.after >>= λ body. Ok (record { function_like = true; parameters = l.names; body = body; text = source_text }))
        (λ (definition : Definition). length definition.body ≤ line_length rest)
    of_list (Ok p) e = of_body p.names p (parameters_on_line word rest p e) (line_tokens p.after) (line_tokens_least p.after)
    of_list (Err fault) e = tt

named_here : (token : LexerToken) (had : Bool) (rest : List Seen) (p : Placed) (found : Option Name) → identifier_of token.value ≡ found
    → name_or_refused token found ≡ Ok p → IsOnLine (record { item = Ok token; had_comments = had } ∷ rest) rest
named_here token had rest p None f e = cc
named_here token had rest p (Some name) f e = past_item (Ok token) had rest (name_on token.value name f)

named_item : (word : Location) (item : Lexeme) (had : Bool) (rest : List Seen) (p : Placed)
    → first_name word (record { item = item; had_comments = had } ∷ rest) ≡ Ok p → IsOnLine (record { item = item; had_comments = had } ∷ rest) rest
named_item word (Err fault) had rest p e = cc
named_item word (Ok token) had rest p e = named_here token had rest p (identifier_of token.value) refl (sym (name_or_refused_is token) ∙ e)

-- the line goes on after a name
pub name_place : (word : Location) (rest after : List Seen) (p : Placed) → first_name word rest ≡ Ok p → after ≡ drop 1 rest
    → drop (line_length rest) rest ≡ drop (line_length after) after
name_place word [] after p e is = cc
name_place word (s ∷ rest) after p e is = (named_item word s.item s.had_comments rest p e).place ∙ ap (λ (r : List Seen). drop (line_length r) r) (sym is)
