-- The items that show the fault of a line that is read in parts.
use Rattle.std.specs.Prelude.{◌+◌, ok_or, not, ◌&&◌}
use Rattle.std.proofs.Common.{◌≡◌, ◌∙◌, ◌⊎◌, inl, ℕ, Bool, true, false, if◌then◌else◌, List, [], ◌∷◌, drop, ap, sym, refl, Result, Ok, Err, Option, Some, None}
use Rattle.pp_lexer.specs.Items.{Lexeme}
use Rattle.pp_lexer.specs.Lexed.{Seen}
use Rattle.pp_lexer.specs.declared.rules.Rules.{Rules}
use Rattle.pp_lexer.specs.declared.lexer.item.Token.{Token as LexerToken}
use Rattle.pp_lexer.specs.declared.lexer.item.TokenValue.{TokenValue as LexerTokenValue}
use Rattle.pp_lexer.specs.declared.lexer.item.TokenValue.TheVariants.{Hash, NewLine, Ident, Integer, Float, Punct}
use Rattle.pp_lexer.specs.declared.token.Location.{Location}
use Rattle.pp_lexer.specs.declared.token.Token.{Token}
use Rattle.pp_expression.specs.Answers.{◌>>=◌}
use Rattle.pp_model.specs.Places.{Fault, source_text}
use Rattle.pp_model.specs.Conversions.{is_newline, conversion, opens_parameters, identifier_of, refused_token}
use Rattle.pp_model.specs.Definitions.{Definition, object_like}
use Rattle.pp_model.specs.DefineLines.{definition_at, defined_on, is_attached_paren}
use Rattle.pp_model.specs.Faults.{is_shown}
use Rattle.pp_model.specs.Lines.{ends_line, line_length, name_of, first_name, ended_line, only_name}
use Rattle.pp_model.specs.Moves.{fails}
use Rattle.pp_model.specs.Names.{Name}
use Rattle.pp_model.specs.declared.definition.Named.{Named}
use Rattle.pp_model.specs.declared.definition.Placed.{Placed}
use Rattle.pp_macros.specs.inner.LineReading.{HasTaken, Meets, TakesItems, IsShownOrLast, endif_end, length_after, shown_on, shown_after, as_next, next_token, some_token, line_token, tokens_after}
use Rattle.pp_macros.specs.inner.ParameterReading.{function_at}
use Rattle.pp_macros.specs.inner.SourceLexed.{SourceLexed, unreported_at}
use Rattle.pp_macros.specs.inner.Unreported.{Reports}
use Rattle.pp_macros.specs.declared.halt.Halt.{Halt}
use Rattle.pp_macros.specs.declared.halt.Halt.TheVariants as halt
use Rattle.pp_directives.specs.inner.DefineReading.{opens_list}
use Rattle.pp_directives.specs.inner.ReadingLines.{first_free_name, ReadsPart, ReadsNext, ReadsLine, ReadsBy}
use Rattle.pp_directives.proofs.FurtherLemmas.{GoesFurther, goes_then}
use Rattle.pp_directives.proofs.LineReadingLemmas.{line_tokens-next, free_is_first}
use Rattle.pp_directives.proofs.UnreportedLemmas.{nothing_met, reports_after, same_none}
use Rattle.pp_directives.proofs.ShownLemmas.{fails_shown, same_taken, end_taken, mapped_shown, shown_then, shown_there}

-- two parts, the first of which reads one item
module _ {A B : Type 0} (first : List Seen → Result A Fault) (next : A → List Seen → Result B Fault)
    (only : (s : Seen) (items : List Seen) → first (s ∷ items) ≡ first (s ∷ [])) where
  abbrev pub both_parts : List Seen → Result B Fault
  both_parts rest = first rest >>= λ value. next value (drop 1 rest)

  abbrev pub next_part : Result A Fault → List Seen → Result B Fault
  next_part found items = found >>= λ value. next value items

  pub second_shown : (rest : List Seen) (value : A) → first rest ≡ Ok value
      → ((s : Seen) (items : List Seen) → first (s ∷ items) ≡ Ok value → ends_line s.item ≡ false) → fails_shown (next value []) ≡ false
      → drop (shown_on both_parts rest) rest ≡ drop (shown_on (next value) (drop 1 rest)) (drop 1 rest)
  second_shown rest value e on none = shown_then both_parts first next_part (λ items. refl) only rest (Ok value) e on none

  -- the first one has a fault
  pub first_fails : {C D : Type 0} (shows : C → A) (shown : D → B) (h : Halt) (total : ℕ) (old new : SourceLexed)
      → ReadsPart false shows (first old.rest) 1 1 old (Err h) new
      → ReadsPart false shown (both_parts old.rest) total (shown_on both_parts old.rest) old (Err h) new
  first_fails shows shown (halt.Fault fault) total old new p = record {
    is = ap (λ r. next_part r (drop 1 old.rest)) p.is;
    takes = record {
      rest = shown_there both_parts first next_part (λ items. refl) only old.rest new.rest (Err fault) p.is p.takes.rest p.fault;
      further = p.takes.further;
      spent = p.takes.spent;
    };
    fault = p.fault;
    errors = p.errors;
  }
  first_fails shows shown halt.OutOfMemory total old new p = record { is = tt; takes = tt; fault = tt; errors = tt }

-- the only part
pub one_shown : {A : Type 0} (part : List Seen → Result A Fault) (only : (s : Seen) (items : List Seen) → part (s ∷ items) ≡ part (s ∷ []))
    (rest after : List Seen) (fault : Fault) → part rest ≡ Err fault → after ≡ drop 1 rest
    → (is_shown (fails fault) ≡ true) ⊎ (after ≡ []) → after ≡ drop (shown_on part rest) rest
one_shown part only rest after fault e d h =
    shown_there part part (λ found items. found) (λ items. refl) only rest after (Err fault) e d h

-- the end of a line
pub end_shown : (word : Location) (rest after : List Seen) (fault : Fault) → ended_line word rest ≡ Err fault → after ≡ drop 1 rest
    → (is_shown (fails fault) ≡ true) ⊎ (after ≡ []) → after ≡ drop (shown_on (ended_line word) rest) rest
end_shown word = one_shown (ended_line word) (λ s items. refl)

-- a token that can't be part of a line
pub refusal_shown : (token : LexerToken) (fault : Fault) → conversion token ≡ Err fault → is_shown (fails fault) ≡ true
refusal_shown token fault = by token.value
  where
    by : (value : LexerTokenValue) → conversion (record token { value = value }) ≡ Err fault → is_shown (fails fault) ≡ true
    by Hash e = cc
    by NewLine e = cc
    by (Ident name) e = cc
    by (Integer i) e = cc
    by (Float f) e = cc
    by (Punct p) e = cc

pub token_shown : (token : Option LexerToken) (fault : Fault) → line_token token ≡ Err fault → is_shown (fails fault) ≡ true
token_shown None fault e = cc
token_shown (Some token) fault e = by (is_newline token.value) (conversion token) refl e
  where
    by : (ends : Bool) (found : Result Token Fault) → conversion token ≡ found
        → ◌≡◌ {A = Result (Option Token) Fault} (if ends then Ok None else (found >>= λ t. Ok (Some t))) (Err fault) → is_shown (fails fault) ≡ true
    by true found is e = cc
    by false (Ok t) is e = cc
    by false (Err other) is e = let same : other ≡ fault = cc in refusal_shown token fault (is ∙ ap (λ (f : Fault). Err f) same)

-- nothing is left after the end
pub none_left : (rest : List Seen) → next_token rest ≡ Ok None → drop 1 rest ≡ []
none_left [] e = refl
none_left (s ∷ rest) e = go s.item e
  where
    go : (item : Lexeme) → next_token (record { item = item; had_comments = false } ∷ rest) ≡ Ok None → rest ≡ []
    go (Ok token) e = cc
    go (Err fault) e = cc

-- ---- the definition of a macro, by the first token after the name

abbrev pub definition_from : Location → Result (Option LexerToken) Fault → List Seen → Result Definition Fault
definition_from word (Ok None) items = Ok (object_like source_text [])
definition_from word (Ok (Some token)) items =
    if is_attached_paren (Ok token) then function_at word items
    else ((line_token (Some token) >>= λ first. tokens_after first items) >>= λ body. Ok (object_like source_text body))
definition_from word (Err fault) items = Err fault

definition_is : (word : Location) (rest : List Seen) → definition_at word rest ≡ definition_from word (next_token rest) (drop 1 rest)
definition_is word [] = refl
definition_is word (s ∷ rest) = go s.item
  where
    go : (item : Lexeme) → definition_at word (record { item = item; had_comments = s.had_comments } ∷ rest)
        ≡ definition_from word (next_token (record { item = item; had_comments = s.had_comments } ∷ rest)) rest
    go (Ok token) = ap (λ (line : Result (List Token) Fault). if is_attached_paren (Ok token) then function_at word rest
        else (line >>= λ body. Ok (object_like source_text body)))
        (line_tokens-next (record { item = Ok token; had_comments = s.had_comments } ∷ rest))
    go (Err fault) = refl

-- the line goes on after the first token
next_goes_on : (token : LexerToken) (s : Seen) (items : List Seen) → is_newline token.value ≡ false → next_token (s ∷ items) ≡ Ok (Some token)
    → ends_line s.item ≡ false
next_goes_on token s items on e = go s.item e
  where
    go : (item : Lexeme) → as_next item ≡ Ok (Some token) → ends_line item ≡ false
    go (Ok found) e = let same : found ≡ token = cc in ap (λ (t : LexerToken). is_newline t.value) same ∙ on
    go (Err fault) e = cc

paren_on : (token : LexerToken) → is_attached_paren (Ok token) ≡ true → is_newline token.value ≡ false
paren_on token e = by token.value e
  where
    by : (value : LexerTokenValue) → (opens_parameters value && not token.leading_whitespace) ≡ true → is_newline value ≡ false
    by NewLine e = cc
    by _ e = refl

token_on : (token : LexerToken) (first : Token) → line_token (Some token) ≡ Ok (Some first) → is_newline token.value ≡ false
token_on token first e = by (is_newline token.value) (conversion token) e
  where
    by : (ends : Bool) (found : Result Token Fault)
        → ◌≡◌ {A = Result (Option Token) Fault} (if ends then Ok None else (found >>= some_token)) (Ok (Some first)) → ends ≡ false
    by true found e = cc
    by false found e = refl

token_ends : (token : LexerToken) → line_token (Some token) ≡ Ok None → is_newline token.value ≡ true
token_ends token e = by (is_newline token.value) (conversion token) e
  where
    by : (ends : Bool) (found : Result Token Fault)
        → ◌≡◌ {A = Result (Option Token) Fault} (if ends then Ok None else (found >>= some_token)) (Ok None) → ends ≡ true
    by true found e = refl
    by false (Ok t) e = cc
    by false (Err fault) e = cc

next_ends : (token : LexerToken) (s : Seen) (items : List Seen) → is_newline token.value ≡ true → next_token (s ∷ items) ≡ Ok (Some token)
    → ends_line s.item ≡ true
next_ends token s items on e = go s.item e
  where
    go : (item : Lexeme) → as_next item ≡ Ok (Some token) → ends_line item ≡ true
    go (Ok found) e = let same : found ≡ token = cc in ap (λ (t : LexerToken). is_newline t.value) same ∙ on
    go (Err fault) e = cc

-- a `(` comes directly after the name
pub list_shown : (word : Location) (rest after : List Seen) (token : Option LexerToken) → next_token rest ≡ Ok token → opens_list token ≡ true
    → after ≡ drop 1 rest → drop (shown_on (definition_at word) rest) rest ≡ drop (shown_on (function_at word) after) after
list_shown word rest after None e opens d = cc
list_shown word rest after (Some token) e opens d =
    let by : (items : List Seen) → definition_from word (Ok (Some token)) items ≡ function_at word items =
    λ items. ap (λ (b : Bool). if b then function_at word items
    else ((line_token (Some token) >>= λ first. tokens_after first items) >>= λ body. Ok (object_like source_text body))) opens in
    rw d (shown_then (definition_at word) next_token (definition_from word) (definition_is word) (λ s items. refl) rest (Ok (Some token)) e
    (λ s items. next_goes_on token s items (paren_on token opens)) (ap fails_shown (by []))
    ∙ same_taken (definition_from word (Ok (Some token))) (function_at word) (λ items. ap fails_shown (by items)) (drop 1 rest))

-- another token does, or none
abbrev body_from : Option Token → List Seen → Result Definition Fault
body_from first items = tokens_after first items >>= λ body. Ok (object_like source_text body)

plain_is : (word : Location) (token : Option LexerToken) (first : Result (Option Token) Fault) → opens_list token ≡ false → line_token token ≡ first
    → (items : List Seen) → definition_from word (Ok token) items ≡ (first >>= λ next. body_from next items)
plain_is word None first opens is items = ap (λ (f : Result (Option Token) Fault). f >>= λ next. body_from next items) is
plain_is word (Some token) first opens is items =
    ap (λ (b : Bool). if b then function_at word items
    else ((line_token (Some token) >>= λ next. tokens_after next items) >>= λ body. Ok (object_like source_text body))) opens
    ∙ ap (λ (f : Result (Option Token) Fault). (f >>= λ next. tokens_after next items) >>= λ body. Ok (object_like source_text body)) is
    ∙ joined first items
  where
    joined : (f : Result (Option Token) Fault) (rest : List Seen)
        → ◌≡◌ {A = Result Definition Fault} ((f >>= λ next. tokens_after next rest) >>= λ body. Ok (object_like source_text body))
        (f >>= λ next. body_from next rest)
    joined (Ok next) rest = refl
    joined (Err fault) rest = refl

plain_shown : (word : Location) (rest : List Seen) (token : LexerToken) (first : Token) → next_token rest ≡ Ok (Some token)
    → opens_list (Some token) ≡ false → line_token (Some token) ≡ Ok (Some first)
    → drop (shown_on (definition_at word) rest) rest ≡ drop (shown_after (Some first) (drop 1 rest)) (drop 1 rest)
plain_shown word rest token first e opens is =
    let by = plain_is word (Some token) (Ok (Some first)) opens is in
    shown_then (definition_at word) next_token (definition_from word) (definition_is word) (λ s items. refl) rest (Ok (Some token)) e
    (λ s items. next_goes_on token s items (token_on token first is)) (ap fails_shown (by []))
    ∙ same_taken (definition_from word (Ok (Some token))) (tokens_after (Some first))
    (λ items. ap fails_shown (by items) ∙ mapped_shown (λ body. object_like source_text body) (tokens_after (Some first) items)) (drop 1 rest)

ended_shown : (word : Location) (rest : List Seen) (token : LexerToken) → next_token rest ≡ Ok (Some token) → line_token (Some token) ≡ Ok None
    → drop (shown_on (definition_at word) rest) rest ≡ drop 1 rest
ended_shown word [] token e is = refl
ended_shown word (s ∷ rest) token e is = end_taken (definition_at word) s rest (next_ends token s rest (token_ends token is) e)

nothing_shown : (word : Location) (rest : List Seen) → next_token rest ≡ Ok None → drop (shown_on (definition_at word) rest) rest ≡ drop 1 rest
nothing_shown word [] e = refl
nothing_shown word (s ∷ rest) e = absurd (go s.item e)
  where
    go : (item : Lexeme) → ◌≡◌ {A = Result (Option LexerToken) Fault} (as_next item) (Ok None) → ⊥
    go (Ok token) e = cc
    go (Err fault) e = cc

pub body_shown : (word : Location) (rest after : List Seen) (token : Option LexerToken) (first : Option Token) → next_token rest ≡ Ok token
    → opens_list token ≡ false → line_token token ≡ Ok first → after ≡ drop 1 rest
    → drop (shown_on (definition_at word) rest) rest ≡ drop (shown_after first after) after
body_shown word rest after (Some token) (Some first) e opens is d = rw d (plain_shown word rest token first e opens is)
body_shown word rest after (Some token) None e opens is d = rw d (ended_shown word rest token e is)
body_shown word rest after None (Some first) e opens is d = cc
body_shown word rest after None None e opens is d = rw d (nothing_shown word rest e)

-- it is no token of a line
pub refused_taken : (word : Location) (rest after : List Seen) (token : Option LexerToken) (fault : Fault) → next_token rest ≡ Ok token
    → opens_list token ≡ false → line_token token ≡ Err fault → after ≡ drop 1 rest → after ≡ drop (shown_on (definition_at word) rest) rest
refused_taken word rest after token fault e opens is d =
    shown_there (definition_at word) next_token (definition_from word) (definition_is word) (λ s items. refl) rest after (Ok token) e d
    (inl (ap fails_shown (plain_is word token (Err fault) opens is []) ∙ token_shown token fault is))

-- an error of the lexer does
pub error_taken : (word : Location) (rest after : List Seen) (fault : Fault) → next_token rest ≡ Err fault → after ≡ drop 1 rest
    → (is_shown (fails fault) ≡ true) ⊎ (after ≡ []) → after ≡ drop (shown_on (definition_at word) rest) rest
error_taken word rest after fault e d h =
    shown_there (definition_at word) next_token (definition_from word) (definition_is word) (λ s items. refl) rest after (Err fault) e d h

-- ---- a `#define` line, and a name alone on its line

pub name_goes_on : (word : Location) (first : Placed) (s : Seen) (items : List Seen) → first_name word (s ∷ items) ≡ Ok first → ends_line s.item ≡ false
name_goes_on word first s items e = go s.item e
  where
    by : (token : LexerToken) (value : LexerTokenValue)
        → (ok_or (identifier_of value) (refused_token token) >>= λ name. Ok (record { name = name; location = token.location })) ≡ Ok first
        → is_newline value ≡ false
    by token NewLine e = cc
    by token _ e = refl

    go : (item : Lexeme) → (item >>= λ token. name_of token >>= λ name. Ok (record { name = name; location = token.location })) ≡ Ok first
        → ends_line item ≡ false
    go (Ok token) e = by token token.value e
    go (Err fault) e = cc

pub define_shown : (rules : Rules) (word : Location) (rest after : List Seen) (first : Placed) → first_free_name rules word rest ≡ Ok first
    → after ≡ drop 1 rest → drop (shown_on (defined_on rules word) rest) rest ≡ drop (shown_on (definition_at word) after) after
define_shown rules word rest after first e d =
    let named : Definition → Named = λ definition. record { name = first.name; location = first.location; definition = definition } in
    rw d (second_shown (first_free_name rules word)
    (λ found items. definition_at word items >>= λ definition. Ok (record { name = found.name; location = found.location; definition = definition }))
    (λ s items. refl) rest first e (λ s items f. name_goes_on word first s items (free_is_first rules _ first f)) refl
    ∙ same_taken (λ items. definition_at word items >>= λ definition. Ok (named definition)) (definition_at word)
    (λ items. mapped_shown named (definition_at word items)) (drop 1 rest))

pub name_shown : (word : Location) (rest after : List Seen) (first : Placed) → first_name word rest ≡ Ok first → after ≡ drop 1 rest
    → drop (shown_on (only_name word) rest) rest ≡ drop (shown_on (ended_line word) after) after
name_shown word rest after first e d =
    rw d (second_shown (first_name word) (λ found items. ended_line word items >>= λ end. Ok found.name) (λ s items. refl) rest first e
    (name_goes_on word first) refl
    ∙ same_taken (λ items. ended_line word items >>= λ end. Ok first.name) (ended_line word)
    (λ items. mapped_shown (λ end. first.name) (ended_line word items)) (drop 1 rest))

-- ---- faults of what comes after the first part

-- a line whose end has a fault
pub name_fails : {A : Type 0} (shows : A → Name) (h : Halt) (word : Location) (first : Placed) (old mid new : SourceLexed)
    → first_name word old.rest ≡ Ok first → mid.rest ≡ drop 1 old.rest → GoesFurther old mid → unreported_at mid ≡ unreported_at old
    → ReadsNext {A = Unit {0}} (λ t. t) (ended_line word) mid (Err h) new → ReadsLine shows (only_name word) old (Err h) new
name_fails shows (halt.Fault fault) word first old mid new e d went same p = record {
  is = ap (λ (r : Result Placed Fault). r >>= λ found. ended_line word (drop 1 old.rest) >>= λ end. Ok found.name) e
      ∙ ap (λ (r : List Seen). ended_line word r >>= λ end. Ok first.name) (sym d)
      ∙ ap (λ (r : Result (Unit {0}) Fault). r >>= λ end. Ok first.name) p.is;
  takes = record {
    rest = end_shown word mid.rest new.rest fault p.is p.takes.rest p.fault ∙ sym (name_shown word old.rest mid.rest first e d);
    further = goes_then old mid new went p.takes.further;
    spent = p.takes.spent;
  };
  fault = p.fault;
  errors = reports_after false {A = Unit {0}} (Err (halt.Fault fault)) (unreported_at old) (unreported_at mid) (unreported_at new) same p.errors;
}
name_fails shows halt.OutOfMemory word first old mid new e d went same p = record { is = tt; takes = tt; fault = tt; errors = tt }

-- a `#define` whose definition has one
pub define_fails : {A B : Type 0} (shows : A → Named) (shown : B → Definition) (h : Halt) (rules : Rules) (word : Location) (first : Placed)
    (old mid new : SourceLexed)
    → first_free_name rules word old.rest ≡ Ok first → mid.rest ≡ drop 1 old.rest → GoesFurther old mid → unreported_at mid ≡ unreported_at old
    → ReadsLine shown (definition_at word) mid (Err h) new → ReadsLine shows (defined_on rules word) old (Err h) new
define_fails shows shown (halt.Fault fault) rules word first old mid new e d went same p = record {
  is = ap (λ (r : Result Placed Fault). r >>= λ found. definition_at word (drop 1 old.rest)
      >>= λ definition. Ok (record { name = found.name; location = found.location; definition = definition })) e
      ∙ ap (λ (r : List Seen). definition_at word r >>= λ definition. Ok (record { name = first.name; location = first.location; definition = definition })) (sym d)
      ∙ ap (λ (r : Result Definition Fault). r >>= λ definition. Ok (record { name = first.name; location = first.location; definition = definition })) p.is;
  takes = record {
    rest = p.takes.rest ∙ sym (define_shown rules word old.rest mid.rest first e d);
    further = goes_then old mid new went p.takes.further;
    spent = p.takes.spent;
  };
  fault = p.fault;
  errors = reports_after false {A = Unit {0}} (Err (halt.Fault fault)) (unreported_at old) (unreported_at mid) (unreported_at new) same p.errors;
}
define_fails shows shown halt.OutOfMemory rules word first old mid new e d went same p = record { is = tt; takes = tt; fault = tt; errors = tt }

-- a line that ends here has one item left
end_place : (word : Location) (rest : List Seen) → ended_line word rest ≡ Ok tt → drop 1 rest ≡ drop (line_length rest) rest
end_place word [] e = cc
end_place word (s ∷ rest) e = go s.item e
  where
    by : (had : Bool) (token : LexerToken) (newline : Bool) → ◌≡◌ {A = Result (Unit {0}) Fault} (if newline then Ok tt else Err (refused_token token)) (Ok tt)
        → ◌≡◌ {A = List Seen} rest (drop (if newline then 1 else 1 + line_length rest) (record { item = Ok token; had_comments = had } ∷ rest))
    by had token true e = refl
    by had token false e = cc

    go : (item : Lexeme) → ended_line word (record { item = item; had_comments = s.had_comments } ∷ rest) ≡ Ok tt
        → ◌≡◌ {A = List Seen} rest
        (drop (line_length (record { item = item; had_comments = s.had_comments } ∷ rest)) (record { item = item; had_comments = s.had_comments } ∷ rest))
    go (Ok token) e = by s.had_comments token (is_newline token.value) e
    go (Err fault) e = cc

-- the end of a line, read alone
pub ended_by : (passes : Bool) (word : Location) (result : Result (Unit {0}) Halt) (live : Bool) (old new : SourceLexed) → live ≡ true
    → ReadsNext (λ t. t) (ended_line word) old result new → ReadsBy passes (endif_end live passes word) old result new
ended_by passes word (Ok done) live old new on p = rw on (record {
  is = p.is;
  takes = record { rest = p.takes.rest ∙ end_place word old.rest p.is; further = p.takes.further; spent = p.takes.spent };
  fault = tt;
  errors = same_none passes (unreported_at old) (unreported_at new) p.errors;
})
ended_by passes word (Err (halt.Fault fault)) live old new on p = rw on (record {
  is = p.is;
  takes = record {
    rest = end_shown word old.rest new.rest fault p.is p.takes.rest p.fault;
    further = p.takes.further;
    spent = p.takes.spent;
  };
  fault = p.fault;
  errors = p.errors;
})
ended_by passes word (Err halt.OutOfMemory) live old new on p = record { is = tt; takes = tt; fault = tt; errors = tt }

-- a definition whose first token has a fault, or is no token of a line
pub definition_fails : {A : Type 0} (shows : A → Definition) (h : Halt) (word : Location) (old new : SourceLexed)
    → Meets {A = Option LexerToken} (λ t. t) (Err h) (next_token old.rest) → TakesItems {A = Option LexerToken} 1 1 old (Err h) new
    → IsShownOrLast {A = Option LexerToken} (Err h) new → Reports {A = Option LexerToken} false (Err h) (unreported_at old) (unreported_at new)
    → ReadsLine shows (definition_at word) old (Err h) new
definition_fails shows (halt.Fault fault) word old new is took fault_shown met = record {
  is = definition_is word old.rest ∙ ap (λ r. definition_from word r (drop 1 old.rest)) is;
  takes = record { rest = error_taken word old.rest new.rest fault is took.rest fault_shown; further = took.further; spent = took.spent };
  fault = fault_shown;
  errors = met;
}
definition_fails shows halt.OutOfMemory word old new is took fault_shown met = record { is = tt; takes = tt; fault = tt; errors = tt }

pub definition_refused : {A : Type 0} (shows : A → Definition) (h : Halt) (word : Location) (token : Option LexerToken) (old new : SourceLexed)
    → next_token old.rest ≡ Ok token → HasTaken 1 old new → unreported_at new ≡ unreported_at old → opens_list token ≡ false
    → Meets {A = Option Token} (λ t. t) (Err h) (line_token token) → ReadsLine shows (definition_at word) old (Err h) new
definition_refused shows (halt.Fault fault) word token old new e took same opens is = record {
  is = definition_is word old.rest ∙ ap (λ r. definition_from word r (drop 1 old.rest)) e ∙ plain_is word token (Err fault) opens is (drop 1 old.rest);
  takes = record { rest = refused_taken word old.rest new.rest token fault e opens is took.rest; further = took.further; spent = took.spent };
  fault = inl (token_shown token fault is);
  errors = nothing_met fault (unreported_at old) (unreported_at new) same;
}
definition_refused shows halt.OutOfMemory word token old new e took same opens is = record { is = tt; takes = tt; fault = tt; errors = tt }

-- one whose body is read
pub definition_body : (word : Location) (token : Option LexerToken) (first : Option Token) (rest after : List Seen) (tokens : List Token)
    → next_token rest ≡ Ok token → after ≡ drop 1 rest → opens_list token ≡ false → line_token token ≡ Ok first
    → tokens_after first after ≡ Ok tokens → definition_at word rest ≡ Ok (object_like source_text tokens)
definition_body word token first rest after tokens e d opens is all =
    definition_is word rest ∙ ap (λ r. definition_from word r (drop 1 rest)) e ∙ plain_is word token (Ok first) opens is (drop 1 rest)
    ∙ ap (λ (r : List Seen). tokens_after first r >>= λ body. Ok (object_like source_text body)) (sym d)
    ∙ ap (λ (r : Result (List Token) Fault). r >>= λ body. Ok (object_like source_text body)) all

-- one whose body has a fault
pub definition_body_fails : {A B : Type 0} (shows : A → Definition) (shown : B → List Token) (h : Halt) (word : Location) (token : Option LexerToken)
    (first : Option Token) (old mid new : SourceLexed)
    → next_token old.rest ≡ Ok token → HasTaken 1 old mid → unreported_at mid ≡ unreported_at old → opens_list token ≡ false → line_token token ≡ Ok first
    → ReadsPart false shown (tokens_after first mid.rest) (length_after first mid.rest) (shown_after first mid.rest) mid (Err h) new
    → ReadsLine shows (definition_at word) old (Err h) new
definition_body_fails shows shown (halt.Fault fault) word token first old mid new e took same opens is p = record {
  is = definition_is word old.rest ∙ ap (λ r. definition_from word r (drop 1 old.rest)) e ∙ plain_is word token (Ok first) opens is (drop 1 old.rest)
      ∙ ap (λ (r : List Seen). tokens_after first r >>= λ body. Ok (object_like source_text body)) (sym took.rest)
      ∙ ap (λ (r : Result (List Token) Fault). r >>= λ body. Ok (object_like source_text body)) p.is;
  takes = record {
    rest = p.takes.rest ∙ sym (body_shown word old.rest mid.rest token first e opens is took.rest);
    further = goes_then old mid new took.further p.takes.further;
    spent = p.takes.spent;
  };
  fault = p.fault;
  errors = reports_after false {A = Unit {0}} (Err (halt.Fault fault)) (unreported_at old) (unreported_at mid) (unreported_at new) same p.errors;
}
definition_body_fails shows shown halt.OutOfMemory word token first old mid new e took same opens is p = record { is = tt; takes = tt; fault = tt; errors = tt }
