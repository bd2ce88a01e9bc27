-- How many items of a line a fault takes once the directive's word was read.
use Rattle.std.proofs.Common.{◌≡◌, ◌∙◌, ◌⊎◌, inl, inr, ℕ, zero, suc, ◌+◌, Bool, true, false, if◌then◌else◌, List, [], ◌∷◌, ◌++◌, take, drop, length, ap, sym, refl, Option, Some, None, Result, Ok, Err}
use Rattle.std.proofs.lemmas.List.{take-append-drop}
use Rattle.pp_lexer.specs.Items.{Lexeme}
use Rattle.pp_lexer.specs.Lexed.{Seen}
use Rattle.pp_lexer.specs.declared.lexer.item.Token.{Token as LexerToken}
use Rattle.pp_lexer.specs.declared.rules.Rules.{Rules}
use Rattle.pp_lexer.specs.declared.token.Location.{Location}
use Rattle.pp_lexer.specs.declared.token.Token.{Token}
use Rattle.pp_expression.specs.Answers.{◌>>=◌}
use Rattle.pp_model.specs.Places.{Fault, source_text}
use Rattle.pp_model.specs.Conversions.{is_newline, conversion, closes_parameters, parts_parameters, refused_token}
use Rattle.pp_model.specs.Definitions.{Definition, object_like}
use Rattle.pp_model.specs.DefineLines.{Parameters, new_parameter, after_parameter, after_comma, is_attached_paren, definition_at, free_name, defined_on}
use Rattle.pp_model.specs.Names.{Name}
use Rattle.pp_model.specs.declared.definition.Named.{Named}
use Rattle.pp_model.specs.declared.definition.Placed.{Placed}
use Rattle.pp_model.specs.Emitting.{first_before}
use Rattle.pp_model.specs.Faults.{is_shown, shown_length}
use Rattle.pp_model.specs.Lines.{ends_line, line_length, line_fault, line_tokens, name_of, first_name}
use Rattle.pp_model.specs.Moves.{Effect, line_move, unread_move}
use Rattle.pp_macros.specs.inner.LineReading.{effect_of, shown_on, passed_line}
use Rattle.pp_macros.specs.inner.ParameterReading.{function_at}
use Rattle.pp_directives.specs.inner.SourceActs.{taken_after}
use Rattle.pp_directives.proofs.ShownLemmas.{fails_shown, mapped_shown, line_ended, line_going_on, one_past}

-- effects that are shown by the same items
pub same_length : (f g : List Seen → Effect) → ((items : List Seen) → is_shown (f items) ≡ is_shown (g items)) → (rest : List Seen)
    → shown_length f rest ≡ shown_length g rest
same_length f g same [] = refl
same_length f g same (s ∷ rest) =
    ap (λ (b : Bool). if b then 1 else 1 + shown_length (λ more. f (s ∷ more)) rest) (same (s ∷ []))
    ∙ ap (λ (n : ℕ). if is_shown (g (s ∷ [])) then 1 else 1 + n) (same_length (λ more. f (s ∷ more)) (λ more. g (s ∷ more)) (λ more. same (s ∷ more)) rest)

pub same_after : (f g : List Seen → Effect) → ((items : List Seen) → is_shown (f items) ≡ is_shown (g items)) → (rest : List Seen)
    → taken_after f rest ≡ taken_after g rest
same_after f g same rest =
    ap (λ (b : Bool). if b then 0 else shown_length f rest) (same []) ∙ ap (λ (n : ℕ). if is_shown (g []) then 0 else n) (same_length f g same rest)

-- the word alone shows the fault, or it doesn't
pub word_shows : (f : List Seen → Effect) (rest : List Seen) → is_shown (f []) ≡ true → taken_after f rest ≡ 0
word_shows f rest shown = ap (λ (b : Bool). if b then 0 else shown_length f rest) shown

pub word_hides : (f : List Seen → Effect) (rest : List Seen) → is_shown (f []) ≡ false → taken_after f rest ≡ shown_length f rest
word_hides f rest none = ap (λ (b : Bool). if b then 0 else shown_length f rest) none

-- an effect that is shown as the fault of a part
pub part_taken : {A : Type 0} (f : List Seen → Effect) (part : List Seen → Result A Fault)
    → ((items : List Seen) → is_shown (f items) ≡ fails_shown (part items)) → fails_shown (part []) ≡ false → (rest : List Seen)
    → taken_after f (take (line_length rest) rest) ≡ shown_on part rest
part_taken f part same none rest =
    word_hides f (take (line_length rest) rest) (same [] ∙ none) ∙ same_length f (λ items. effect_of (part items)) same (take (line_length rest) rest)

-- a line with a value shows nothing
pub line_effect : {A : Type 0} (line : Result A Fault) (effect : A → Effect) (rest : List Seen) → ((value : A) → is_shown (effect value) ≡ false)
    → is_shown (line_move line effect rest).effect ≡ fails_shown line
line_effect (Ok value) effect rest none = none value
line_effect (Err fault) effect rest none = refl

pub line_taken : {A : Type 0} (part : List Seen → Result A Fault) (effect : List Seen → A → Effect)
    → ((items : List Seen) (value : A) → is_shown (effect items value) ≡ false) → fails_shown (part []) ≡ false → (rest : List Seen)
    → taken_after (λ items. (line_move (part items) (effect items) items).effect) (take (line_length rest) rest) ≡ shown_on part rest
line_taken part effect hides none rest =
    part_taken (λ items. (line_move (part items) (effect items) items).effect) part (λ items. line_effect (part items) (effect items) items (hides items)) none rest

-- a line that isn't read
pub unread_effect : (rules : Rules) (effect : Effect) (items : List Seen) → is_shown effect ≡ false
    → is_shown (unread_move rules effect items).effect ≡ fails_shown (passed_line rules.passes_dead_errors items)
unread_effect rules effect items none = by rules rules.passes_dead_errors refl (line_fault items) refl
  where
    by : (rules : Rules) (passes : Bool) → rules.passes_dead_errors ≡ passes → (found : Option Fault) → line_fault items ≡ found
        → is_shown (unread_move rules effect items).effect ≡ fails_shown (passed_line rules.passes_dead_errors items)
    by rules true e found f = rw e none
    by rules false e None f = rw (e, f) none
    by rules false e (Some fault) f = rw (e, f) refl

pub unread_taken : (rules : Rules) (effect : List Seen → Effect) → ((items : List Seen) → is_shown (effect items) ≡ false) → (rest : List Seen)
    → taken_after (λ items. (unread_move rules (effect items) items).effect) (take (line_length rest) rest)
    ≡ shown_on (passed_line rules.passes_dead_errors) rest
unread_taken rules effect hides rest =
    part_taken (λ items. (unread_move rules (effect items) items).effect) (passed_line rules.passes_dead_errors)
    (λ items. unread_effect rules (effect items) items (hides items)) (empty rules.passes_dead_errors) rest
  where
    empty : (b : Bool) → fails_shown (passed_line b []) ≡ false
    empty true = refl
    empty false = refl

-- no front of the items shows a fault
pub none_shown : (f : List Seen → Effect) (rest : List Seen) → ((front more : List Seen) → rest ≡ front ++ more → is_shown (f front) ≡ false)
    → shown_length f rest ≡ length rest
none_shown f [] none = refl
none_shown f (s ∷ rest) none =
    ap (λ (b : Bool). if b then 1 else 1 + shown_length (λ more. f (s ∷ more)) rest) (none (s ∷ []) rest refl)
    ∙ ap (λ (n : ℕ). 1 + n) (none_shown (λ more. f (s ∷ more)) rest (λ front more e. none (s ∷ front) more (ap (λ r. s ∷ r) e)))
    ∙ one_past (length rest)

-- a fault that is shown stays if more items follow
abbrev pub Persists : {A : Type 0} → (List Seen → Result A Fault) → Type 0
Persists part = (front more : List Seen) → fails_shown (part front) ≡ true → fails_shown (part (front ++ more)) ≡ true

either_bool : (b : Bool) → (b ≡ true → ⊥) → b ≡ false
either_bool true h = absurd (h refl)
either_bool false h = refl

regroup : (front more later : List Seen) → (front ++ more) ++ later ≡ front ++ (more ++ later)
regroup [] more later = refl
regroup (s ∷ front) more later = ap (λ r. s ∷ r) (regroup front more later)

pub taken_part : (n : ℕ) (rest : List Seen) → drop (length (take n rest)) rest ≡ drop n rest
taken_part zero [] = refl
taken_part (suc n) [] = refl
taken_part zero (s ∷ rest) = refl
taken_part (suc n) (s ∷ rest) = taken_part n rest

-- a line with a value whose effect has a fault is taken whole
pub whole_taken : {A : Type 0} (part : List Seen → Result A Fault) (f : List Seen → Effect) → Persists part
    → ((items : List Seen) → is_shown (f items) ≡ fails_shown (part items)) → fails_shown (part []) ≡ false
    → (rest : List Seen) (value : A) → part rest ≡ Ok value
    → drop (taken_after f (take (line_length rest) rest)) rest ≡ drop (line_length rest) rest
whole_taken part f persists same none rest value e =
    let line = take (line_length rest) rest in
    let later = drop (line_length rest) rest in
    let whole : line ++ later ≡ rest = take-append-drop (line_length rest) rest in
    ap (λ n. drop n rest) (word_hides f line (same [] ∙ none)
    ∙ none_shown f line (λ front more is. same front ∙ either_bool (fails_shown (part front)) (λ shown.
    let there : fails_shown (part rest) ≡ true = ap (λ r. fails_shown (part r)) (sym (sym (regroup front more later) ∙ ap (λ r. r ++ later) (sym is) ∙ whole)) ∙ persists front (more ++ later) shown in
    let bad : false ≡ true = sym (ap fails_shown e) ∙ there in
    cc)))
    ∙ taken_part (line_length rest) rest

-- so it is of the tokens of a line
before_persists : (first : Token) (shorter longer : Result (List Token) Fault)
    → (fails_shown shorter ≡ true → fails_shown longer ≡ true)
    → fails_shown (first_before first shorter) ≡ true → fails_shown (first_before first longer) ≡ true
before_persists first (Ok tokens) longer h e = cc
before_persists first (Err fault) (Ok tokens) h e = let bad : false ≡ true = h e in cc
before_persists first (Err fault) (Err other) h e = h e

pub tokens_persist : Persists line_tokens
tokens_persist [] more e = cc
tokens_persist (s ∷ rest) more e = by (tokens_persist rest more) s.item s.had_comments e
  where
    found : (fails_shown (line_tokens rest) ≡ true → fails_shown (line_tokens (rest ++ more)) ≡ true) → (converted : Result Token Fault)
        → fails_shown (converted >>= λ first. first_before first (line_tokens rest)) ≡ true
        → fails_shown (converted >>= λ first. first_before first (line_tokens (rest ++ more))) ≡ true
    found later (Ok first) e = before_persists first (line_tokens rest) (line_tokens (rest ++ more)) later e
    found later (Err fault) e = e

    going : (fails_shown (line_tokens rest) ≡ true → fails_shown (line_tokens (rest ++ more)) ≡ true) → (ends : Bool) (token : LexerToken)
        → fails_shown (if ends then Ok [] else (conversion token >>= λ first. first_before first (line_tokens rest))) ≡ true
        → fails_shown (if ends then Ok [] else (conversion token >>= λ first. first_before first (line_tokens (rest ++ more)))) ≡ true
    going later true token e = cc
    going later false token e = found later (conversion token) e

    by : (fails_shown (line_tokens rest) ≡ true → fails_shown (line_tokens (rest ++ more)) ≡ true) → (item : Lexeme) (had : Bool)
        → fails_shown (line_tokens (record { item = item; had_comments = had } ∷ rest)) ≡ true
        → fails_shown (line_tokens (record { item = item; had_comments = had } ∷ (rest ++ more))) ≡ true
    by later (Ok token) had e = going later (is_newline token.value) token e
    by later (Err fault) had e = e

-- of the definition of a macro
abbrev body_of : Result Parameters Fault → Result Definition Fault
body_of found = found >>= λ list. line_tokens list.after >>= λ body.
    Ok (record { function_like = true; parameters = list.names; body = body; text = source_text })

list_persists : (names : List Name) (rest more : List Seen) → fails_shown (body_of (Ok (record { names = names; after = rest }))) ≡ true
    → fails_shown (body_of (Ok (record { names = names; after = rest ++ more }))) ≡ true
list_persists names rest more e =
    let made : List Token → Definition = λ body. record { function_like = true; parameters = names; body = body; text = source_text } in
    mapped_shown made (line_tokens (rest ++ more)) ∙ tokens_persist rest more (sym (mapped_shown made (line_tokens rest)) ∙ e)

-- after a parameter, and after a comma
abbrev AfterPersists : Location → List Seen → List Seen → Type 0
AfterPersists word rest more = (names : List Name) → fails_shown (body_of (after_parameter word names rest)) ≡ true
    → fails_shown (body_of (after_parameter word names (rest ++ more))) ≡ true

abbrev CommaPersists : Location → List Seen → List Seen → Type 0
CommaPersists word rest more = (names : List Name) → fails_shown (body_of (after_comma word names rest)) ≡ true
    → fails_shown (body_of (after_comma word names (rest ++ more))) ≡ true

after_persists : (word : Location) (rest more : List Seen) (item : Lexeme) (had : Bool) → CommaPersists word rest more → (names : List Name)
    → fails_shown (body_of (after_parameter word names (record { item = item; had_comments = had } ∷ rest))) ≡ true
    → fails_shown (body_of (after_parameter word names (record { item = item; had_comments = had } ∷ (rest ++ more)))) ≡ true
after_persists word rest more (Err fault) had comma names e = e
after_persists word rest more (Ok token) had comma names e = by (closes_parameters token.value) (parts_parameters token.value) e
  where
    by : (closes parts : Bool)
        → fails_shown (body_of (if closes then Ok (record { names = names; after = rest })
        else if parts then after_comma word names rest else Err (refused_token token))) ≡ true
        → fails_shown (body_of (if closes then Ok (record { names = names; after = rest ++ more })
        else if parts then after_comma word names (rest ++ more) else Err (refused_token token))) ≡ true
    by true parts e = list_persists names rest more e
    by false true e = comma names e
    by false false e = e

named_persists : (word : Location) (rest more : List Seen) (found : Result (List Name) Fault) → AfterPersists word rest more
    → fails_shown (body_of (found >>= λ names. after_parameter word names rest)) ≡ true
    → fails_shown (body_of (found >>= λ names. after_parameter word names (rest ++ more))) ≡ true
named_persists word rest more (Ok names) after e = after names e
named_persists word rest more (Err fault) after e = e

comma_persists : (word : Location) (rest more : List Seen) (item : Lexeme) (had : Bool) → AfterPersists word rest more → (names : List Name)
    → fails_shown (body_of (after_comma word names (record { item = item; had_comments = had } ∷ rest))) ≡ true
    → fails_shown (body_of (after_comma word names (record { item = item; had_comments = had } ∷ (rest ++ more)))) ≡ true
comma_persists word rest more (Err fault) had after names e = e
comma_persists word rest more (Ok token) had after names e =
    named_persists word rest more (name_of token >>= new_parameter names token.location) after e

both_persist : (word : Location) (rest more : List Seen) → AfterPersists word rest more × CommaPersists word rest more
both_persist word [] more = (λ names e. cc, λ names e. cc)
both_persist word (s ∷ rest) more =
    let later = both_persist word rest more in
    (after_persists word rest more s.item s.had_comments later.1, comma_persists word rest more s.item s.had_comments later.0)

function_persists : (word : Location) → Persists (function_at word)
function_persists word [] more e = cc
function_persists word (s ∷ rest) more e = by s.item s.had_comments e
  where
    going : (closes : Bool) (token : LexerToken)
        → fails_shown (body_of (if closes then Ok (record { names = []; after = rest })
        else (name_of token >>= new_parameter [] token.location >>= λ names. after_parameter word names rest))) ≡ true
        → fails_shown (body_of (if closes then Ok (record { names = []; after = rest ++ more })
        else (name_of token >>= new_parameter [] token.location >>= λ names. after_parameter word names (rest ++ more)))) ≡ true
    going true token e = list_persists [] rest more e
    going false token e = named_persists word rest more (name_of token >>= new_parameter [] token.location) (both_persist word rest more).0 e

    by : (item : Lexeme) (had : Bool) → fails_shown (function_at word (record { item = item; had_comments = had } ∷ rest)) ≡ true
        → fails_shown (function_at word (record { item = item; had_comments = had } ∷ (rest ++ more))) ≡ true
    by (Err fault) had e = e
    by (Ok token) had e = going (closes_parameters token.value) token e

definition_persists : (word : Location) → Persists (definition_at word)
definition_persists word [] more e = cc
definition_persists word (s ∷ rest) more e = by (is_attached_paren s.item) e
  where
    made : List Token → Definition
    made body = object_like source_text body

    by : (opens : Bool)
        → fails_shown (if opens then function_at word rest else (line_tokens (s ∷ rest) >>= λ body. Ok (object_like source_text body))) ≡ true
        → fails_shown (if opens then function_at word (rest ++ more)
        else (line_tokens (s ∷ (rest ++ more)) >>= λ body. Ok (object_like source_text body))) ≡ true
    by true e = function_persists word rest more e
    by false e = mapped_shown (λ body. object_like source_text body) (line_tokens (s ∷ (rest ++ more)))
        ∙ tokens_persist (s ∷ rest) more (sym (mapped_shown (λ body. object_like source_text body) (line_tokens (s ∷ rest))) ∙ e)

pub define_persists : (rules : Rules) (word : Location) → Persists (defined_on rules word)
define_persists rules word [] more e = cc
define_persists rules word (s ∷ rest) more e = by (first_name word (s ∷ rest) >>= free_name rules) e
  where
    by : (found : Result Placed Fault)
        → fails_shown {A = Named} (found >>= λ first. definition_at word rest >>= λ definition.
        Ok (record { name = first.name; location = first.location; definition = definition })) ≡ true
        → fails_shown {A = Named} (found >>= λ first. definition_at word (rest ++ more) >>= λ definition.
        Ok (record { name = first.name; location = first.location; definition = definition })) ≡ true
    by (Err fault) e = e
    by (Ok first) e =
        let named : Definition → Named = λ definition. record { name = first.name; location = first.location; definition = definition } in
        mapped_shown named (definition_at word (rest ++ more)) ∙ definition_persists word rest more (sym (mapped_shown named (definition_at word rest)) ∙ e)

-- the first item shows a fault, or is the last one
pub first_length : (f : List Seen → Effect) (s : Seen) (rest : List Seen) → (is_shown (f (s ∷ [])) ≡ true) ⊎ (rest ≡ [])
    → shown_length f (take (line_length (s ∷ rest)) (s ∷ rest)) ≡ 1
first_length f s rest h = by (ends_line s.item) refl h
  where
    one_or_last : (b : Bool) → (if b then 1 else 1 + 0) ≡ 1
    one_or_last true = refl
    one_or_last false = refl

    by : (ends : Bool) → ends_line s.item ≡ ends → (is_shown (f (s ∷ [])) ≡ true) ⊎ (rest ≡ [])
        → shown_length f (take (line_length (s ∷ rest)) (s ∷ rest)) ≡ 1
    by true e h = ap (shown_length f) (line_ended s rest e) ∙ one_or_last (is_shown (f (s ∷ [])))
    by false e (inl shown) = ap (shown_length f) (line_going_on s rest e)
        ∙ ap (λ (b : Bool). if b then 1 else 1 + shown_length (λ more. f (s ∷ more)) (take (line_length rest) rest)) shown
    by false e (inr none) = ap (shown_length f) (line_going_on s rest e ∙ ap (λ (r : List Seen). s ∷ take (line_length r) r) none)
        ∙ one_or_last (is_shown (f (s ∷ [])))
