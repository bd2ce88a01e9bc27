-- The parameters of a macro, from the first one on.
use Rattle.std.proofs.Common.{◌≡◌, ◌∙◌, ◌≤◌, ℕ, length, drop, ◌++◌, Option, Some, None, Bool, true, false, if◌then◌else◌, List, [], ◌∷◌, refl, sym, ap, subst, arith, Result, Ok, Err}
use Rattle.pp_lexer.specs.Items.{Lexeme}
use Rattle.pp_lexer.specs.Lexed.{Seen}
use Rattle.pp_lexer.specs.declared.lexer.item.Token.{Token as LexerToken}
use Rattle.pp_lexer.specs.declared.lexer.item.TokenValue.{TokenValue as LexerTokenValue}
use Rattle.pp_lexer.specs.declared.lexer.item.TokenValue.TheVariants.{NewLine}
use Rattle.pp_lexer.specs.declared.token.Location.{Location}
use Rattle.pp_lexer.specs.declared.token.Token.{Token}
use Rattle.pp_model.specs.Definitions.{Definition}
use Rattle.pp_model.specs.Lines.{line_tokens, ends_line}
use Rattle.pp_model.specs.Places.{Fault, source_text}
use Rattle.pp_model.specs.Conversions.{is_newline, identifier_of, closes_parameters, parts_parameters, refused_token}
use Rattle.pp_model.specs.DefineLines.{Parameters, parameters, after_parameter, after_comma}
use Rattle.pp_model.specs.Names.{Name}
use Rattle.pp_model.specs.inner.DefineLines.{parameter_here}
use Rattle.pp_expression.specs.Answers.{◌>>=◌}
use Rattle.pp_macros.specs.inner.LineReading.{Meets, TakesItems, shown_on}
use Rattle.pp_macros.specs.inner.ParameterReading.{parameter_end, opening_parameter, ends_parameters, one_parameter, first_parameter, some_names, alone, function_at, GoesOnInLine, ShowsOnLine}
use Rattle.pp_macros.specs.inner.SourceLexed.{SourceLexed, unreported_at}
use Rattle.pp_macros.specs.declared.halt.Halt.{Halt}
use Rattle.pp_macros.specs.declared.halt.Halt.TheVariants as halt
use Rattle.pp_directives.specs.inner.ReadingLines.{ReadsNext, ReadsLine}
use Rattle.pp_directives.proofs.FurtherLemmas.{GoesFurther, goes_then}
use Rattle.pp_directives.proofs.LineReadingLemmas.{drop_fewer}
use Rattle.pp_directives.proofs.ShownLemmas.{same_taken, mapped_shown, shown_then, shown_there}
use Rattle.pp_directives.proofs.UnreportedLemmas.{reports_after}
use Rattle.pp_macros.proofs.work.LinePartsLemmas.{parameter_here_is}

-- what goes on where the parameters end, or where they don't
abbrev ended_or : Location → List Name → List Seen → Result Bool Fault → Result Parameters Fault
ended_or word names after (Ok true) = Ok (record { names = names; after = after })
ended_or word names after (Ok false) = after_comma word names after
ended_or word names after (Err fault) = Err fault

after_token : (word : Location) (names : List Name) (token : LexerToken) (rest : List Seen) (closes parts : Bool)
    → (if closes then Ok (record { names = names; after = rest }) else if parts then after_comma word names rest else Err (refused_token token))
    ≡ ended_or word names rest (if closes then Ok true else if parts then Ok false else Err (refused_token token))
after_token word names token rest true parts = refl
after_token word names token rest false true = refl
after_token word names token rest false false = refl

after_is : (word : Location) (names : List Name) (rest : List Seen)
    → after_parameter word names rest ≡ ended_or word names (drop 1 rest) (ends_parameters word rest)
after_is word names [] = refl
after_is word names (s ∷ rest) = by s.item
  where
    by : (item : Lexeme) → after_parameter word names (record { item = item; had_comments = s.had_comments } ∷ rest)
        ≡ ended_or word names rest (ends_parameters word (record { item = item; had_comments = s.had_comments } ∷ rest))
    by (Err fault) = refl
    by (Ok token) = after_token word names token rest (closes_parameters token.value) (parts_parameters token.value)

abbrev after_names : Location → List Seen → Result (List Name) Fault → Result Parameters Fault
after_names word rest here = here >>= λ names. after_parameter word names rest

comma_is : (word : Location) (names : List Name) (rest : List Seen)
    → after_comma word names rest ≡ after_names word (drop 1 rest) (one_parameter word names rest)
comma_is word names [] = refl
comma_is word names (s ∷ rest) = by s.item
  where
    by : (item : Lexeme) → after_comma word names (record { item = item; had_comments = s.had_comments } ∷ rest)
        ≡ after_names word rest (one_parameter word names (record { item = item; had_comments = s.had_comments } ∷ rest))
    by (Err fault) = refl
    by (Ok token) = ap (after_names word rest) (parameter_here_is names token)

-- what goes on after a first parameter, or where there is none
abbrev after_first : Location → List Seen → Result (Option (List Name)) Fault → Result Parameters Fault
after_first word rest (Ok None) = Ok (record { names = []; after = rest })
after_first word rest (Ok (Some names)) = after_parameter word names rest
after_first word rest (Err fault) = Err fault

first_token_is : (word : Location) (rest : List Seen) (closes : Bool) (here : Result (List Name) Fault)
    → (if closes then Ok (record { names = []; after = rest }) else after_names word rest here)
    ≡ after_first word rest (if closes then Ok None else (here >>= some_names))
first_token_is word rest true here = refl
first_token_is word rest false (Ok names) = refl
first_token_is word rest false (Err fault) = refl

abbrev unless_closed : Location → List Seen → Bool → Result (List Name) Fault → Result Parameters Fault
unless_closed word rest closes here = if closes then Ok (record { names = []; after = rest }) else after_names word rest here

parameters_are : (word : Location) (rest : List Seen) → parameters word rest ≡ after_first word (drop 1 rest) (first_parameter word rest)
parameters_are word [] = refl
parameters_are word (s ∷ rest) = by s.item
  where
    by : (item : Lexeme) → parameters word (record { item = item; had_comments = s.had_comments } ∷ rest)
        ≡ after_first word rest (first_parameter word (record { item = item; had_comments = s.had_comments } ∷ rest))
    by (Err fault) = refl
    by (Ok token) =
        ap (unless_closed word rest (closes_parameters token.value)) (parameter_here_is [] token)
        ∙ first_token_is word rest (closes_parameters token.value) (parameter_here [] token (identifier_of token.value))

-- there is no first parameter
pub none_first : (word : Location) (names : List Name) (rest after : List Seen) (found : Option Name)
    → first_parameter word rest ≡ Ok (alone found) → found ≡ None → names ≡ [] → after ≡ drop 1 rest
    → parameters word rest ≡ Ok (record { names = names; after = after })
none_first word names rest after found is none empty at =
    rw (empty, at) (parameters_are word rest ∙ ap (after_first word (drop 1 rest)) (is ∙ ap (λ f. Ok (alone f)) none))

-- a first parameter was read
pub one_first : (word : Location) (before names : List Name) (name : Name) (rest after : List Seen) (found : Option Name)
    → first_parameter word rest ≡ Ok (alone found) → found ≡ Some name → before ≡ [] → names ≡ before ++ name ∷ [] → after ≡ drop 1 rest
    → parameters word rest ≡ after_parameter word names after
one_first word before names name rest after found is some empty more at =
    rw (more, empty, at) (parameters_are word rest ∙ ap (after_first word (drop 1 rest)) (is ∙ ap (λ f. Ok (alone f)) some))

-- the parameters end here
pub names_end : (word : Location) (names : List Name) (rest after : List Seen) (whole : Result Parameters Fault) (ends : Bool)
    → whole ≡ after_parameter word names rest → ends_parameters word rest ≡ Ok ends → ends ≡ true → after ≡ drop 1 rest
    → whole ≡ Ok (record { names = names; after = after })
names_end word names rest after whole ends so_far is ended at =
    rw at (so_far ∙ after_is word names rest ∙ ap (ended_or word names (drop 1 rest)) (is ∙ ap (λ b. Ok b) ended))

-- a comma was read
goes_on : (word : Location) (names : List Name) (rest middle : List Seen) (whole : Result Parameters Fault) (ends : Bool)
    → whole ≡ after_parameter word names rest → ends_parameters word rest ≡ Ok ends → ends ≡ false → middle ≡ drop 1 rest
    → whole ≡ after_names word (drop 1 middle) (one_parameter word names middle)
goes_on word names rest middle whole ends so_far is ended at =
    rw at (so_far ∙ after_is word names rest ∙ ap (ended_or word names (drop 1 rest)) (is ∙ ap (λ b. Ok b) ended) ∙ comma_is word names (drop 1 rest))

-- a comma and one more parameter were read
pub one_more : (word : Location) (shown names more : List Name) (name : Name) (rest middle after : List Seen) (whole : Result Parameters Fault) (ends : Bool)
    → whole ≡ after_parameter word names rest → ends_parameters word rest ≡ Ok ends → ends ≡ false → middle ≡ drop 1 rest
    → shown ≡ names → one_parameter word shown middle ≡ Ok (shown ++ name ∷ []) → more ≡ names ++ name ∷ [] → after ≡ drop 1 middle
    → whole ≡ after_parameter word more after
one_more word shown names more name rest middle after whole ends so_far is ended at same one grown there =
    let read : one_parameter word names middle ≡ Ok (names ++ name ∷ []) =
    subst (λ (x : List Name). one_parameter word x middle ≡ Ok (x ++ name ∷ [])) same one in
    rw (grown, there) (goes_on word names rest middle whole ends so_far is ended at ∙ ap (after_names word (drop 1 middle)) read)

abbrev with_one : List Name → Name → List Name
with_one names name = names ++ name ∷ []

one_fault : {A : Type 0} (shows : A → Parameters) (h : Halt) (word : Location) (names : List Name) (middle : List Seen) (whole : Result Parameters Fault)
    → whole ≡ after_names word (drop 1 middle) (one_parameter word names middle) → Meets (with_one names) (Err h) (one_parameter word names middle)
    → Meets shows (Err h) whole
one_fault shows (halt.Fault fault) word names middle whole so_far is = so_far ∙ ap (after_names word (drop 1 middle)) is
one_fault shows halt.OutOfMemory word names middle whole so_far is = tt

-- after a comma stands no parameter
pub no_more : {A : Type 0} (shows : A → Parameters) (r : Result A Halt) (h : Halt) (word : Location) (shown names : List Name)
    (rest middle : List Seen) (whole : Result Parameters Fault) (ends : Bool)
    → r ≡ Err h → whole ≡ after_parameter word names rest → ends_parameters word rest ≡ Ok ends → ends ≡ false → middle ≡ drop 1 rest
    → shown ≡ names → Meets (λ name. shown ++ name ∷ []) (Err h) (one_parameter word shown middle)
    → Meets shows r whole
no_more {A} shows r h word shown names rest middle whole ends fails so_far is ended at same one =
    let read : Meets (with_one names) (Err h) (one_parameter word names middle) =
    subst (λ (x : List Name). Meets (with_one x) (Err h) (one_parameter word x middle)) same one in
    subst (λ (x : Result A Halt). Meets shows x whole) (sym fails)
    (one_fault shows h word names middle whole (goes_on word names rest middle whole ends so_far is ended at) read)

-- the definition that has these parameters, and a body on what is left of the line
abbrev body_of : Parameters → Result Definition Fault
body_of list = line_tokens list.after >>= λ body.
    Ok (record { function_like = true; parameters = list.names; body = body; text = source_text })

-- what is left of a definition after a parameter
abbrev pub function_from : Location → List Name → List Seen → Result Definition Fault
function_from word names rest = after_parameter word names rest >>= body_of

abbrev function_on : Location → List Name → List Seen → Result Definition Fault
function_on word names rest = after_comma word names rest >>= body_of

-- the items that show a fault of it, by the parts that are read first
abbrev from_first : Location → Result (Option (List Name)) Fault → List Seen → Result Definition Fault
from_first word found items = after_first word items found >>= body_of

abbrev from_end : Location → List Name → Result Bool Fault → List Seen → Result Definition Fault
from_end word names found items = ended_or word names items found >>= body_of

abbrev from_one : Location → Result (List Name) Fault → List Seen → Result Definition Fault
from_one word found items = after_names word items found >>= body_of

body_shown : (names : List Name) (rest : List Seen)
    → drop (shown_on (λ items. body_of (record { names = names; after = items })) rest) rest ≡ drop (shown_on line_tokens rest) rest
body_shown names rest =
    same_taken (λ items. body_of (record { names = names; after = items })) line_tokens
    (λ items. mapped_shown (λ body. record { function_like = true; parameters = names; body = body; text = source_text }) (line_tokens items)) rest

first_is : (word : Location) (rest : List Seen) → function_at word rest ≡ from_first word (first_parameter word rest) (drop 1 rest)
first_is word rest = ap (λ r. r >>= body_of) (parameters_are word rest)

end_is : (word : Location) (names : List Name) (rest : List Seen) → function_from word names rest ≡ from_end word names (ends_parameters word rest) (drop 1 rest)
end_is word names rest = ap (λ r. r >>= body_of) (after_is word names rest)

one_is : (word : Location) (names : List Name) (rest : List Seen) → function_on word names rest ≡ from_one word (one_parameter word names rest) (drop 1 rest)
one_is word names rest = ap (λ r. r >>= body_of) (comma_is word names rest)

-- the line goes on after each of them
opening_goes_on : (word : Location) (found : Option (List Name)) (s : Seen) (items : List Seen) → first_parameter word (s ∷ items) ≡ Ok found
    → ends_line s.item ≡ false
opening_goes_on word found s items e = go s.item e
  where
    by : (token : LexerToken) (value : LexerTokenValue) → opening_parameter (record token { value = value }) ≡ Ok found → is_newline value ≡ false
    by token NewLine e = cc
    by token _ e = refl

    go : (item : Lexeme) → (item >>= opening_parameter) ≡ Ok found → ends_line item ≡ false
    go (Ok token) e = by token token.value e
    go (Err fault) e = cc

end_goes_on : (word : Location) (found : Bool) (s : Seen) (items : List Seen) → ends_parameters word (s ∷ items) ≡ Ok found → ends_line s.item ≡ false
end_goes_on word found s items e = go s.item e
  where
    by : (token : LexerToken) (value : LexerTokenValue) → parameter_end (record token { value = value }) ≡ Ok found → is_newline value ≡ false
    by token NewLine e = cc
    by token _ e = refl

    go : (item : Lexeme) → (item >>= parameter_end) ≡ Ok found → ends_line item ≡ false
    go (Ok token) e = by token token.value e
    go (Err fault) e = cc

one_goes_on : (word : Location) (names found : List Name) (s : Seen) (items : List Seen) → one_parameter word names (s ∷ items) ≡ Ok found
    → ends_line s.item ≡ false
one_goes_on word names found s items e = go s.item e
  where
    by : (token : LexerToken) (value : LexerTokenValue) → parameter_here names token (identifier_of value) ≡ Ok found → is_newline value ≡ false
    by token NewLine e = cc
    by token _ e = refl

    go : (item : Lexeme) → (item >>= λ token. parameter_here names token (identifier_of token.value)) ≡ Ok found → ends_line item ≡ false
    go (Ok token) e = by token token.value e
    go (Err fault) e = cc

pub none_shown : (word : Location) (rest after : List Seen) (found : Option Name)
    → first_parameter word rest ≡ Ok (alone found) → found ≡ None → after ≡ drop 1 rest
    → drop (shown_on (function_at word) rest) rest ≡ drop (shown_on line_tokens after) after
none_shown word rest after found is none at =
    rw at (shown_then (function_at word) (first_parameter word) (from_first word) (first_is word) (λ s items. refl) rest (Ok None)
    (is ∙ ap (λ f. Ok (alone f)) none) (opening_goes_on word None) refl ∙ body_shown [] (drop 1 rest))

pub first_name_shown : (word : Location) (before names : List Name) (name : Name) (rest after : List Seen) (found : Option Name)
    → first_parameter word rest ≡ Ok (alone found) → found ≡ Some name → before ≡ [] → names ≡ before ++ name ∷ [] → after ≡ drop 1 rest
    → drop (shown_on (function_at word) rest) rest ≡ drop (shown_on (function_from word names) after) after
first_name_shown word before names name rest after found is some empty more at =
    rw (more, empty, at) (shown_then (function_at word) (first_parameter word) (from_first word) (first_is word) (λ s items. refl) rest
    (Ok (Some (name ∷ []))) (is ∙ ap (λ f. Ok (alone f)) some) (opening_goes_on word (Some (name ∷ []))) refl)

-- the parameters end
pub end_shown : (word : Location) (names : List Name) (rest after end : List Seen) (ends : Bool)
    → end ≡ drop (shown_on (function_from word names) rest) rest → ends_parameters word rest ≡ Ok ends → ends ≡ true → after ≡ drop 1 rest
    → end ≡ drop (shown_on line_tokens after) after
end_shown word names rest after end ends so_far is ended at =
    rw at (so_far ∙ shown_then (function_from word names) (ends_parameters word) (from_end word names) (end_is word names) (λ s items. refl) rest
    (Ok true) (is ∙ ap (λ b. Ok b) ended) (end_goes_on word true) refl ∙ body_shown names (drop 1 rest))

comma_shown : (word : Location) (names : List Name) (rest middle end : List Seen) (ends : Bool)
    → end ≡ drop (shown_on (function_from word names) rest) rest → ends_parameters word rest ≡ Ok ends → ends ≡ false → middle ≡ drop 1 rest
    → end ≡ drop (shown_on (function_on word names) middle) middle
comma_shown word names rest middle end ends so_far is ended at =
    rw at (so_far ∙ shown_then (function_from word names) (ends_parameters word) (from_end word names) (end_is word names) (λ s items. refl) rest
    (Ok false) (is ∙ ap (λ b. Ok b) ended) (end_goes_on word false) refl)

-- a comma and one more were read
pub more_shown : (word : Location) (shown names more : List Name) (name : Name) (rest middle after end : List Seen) (ends : Bool)
    → end ≡ drop (shown_on (function_from word names) rest) rest → ends_parameters word rest ≡ Ok ends → ends ≡ false → middle ≡ drop 1 rest
    → shown ≡ names → one_parameter word shown middle ≡ Ok (shown ++ name ∷ []) → more ≡ names ++ name ∷ [] → after ≡ drop 1 middle
    → end ≡ drop (shown_on (function_from word more) after) after
more_shown word shown names more name rest middle after end ends so_far is ended at same one grown there =
    let read : one_parameter word names middle ≡ Ok (names ++ name ∷ []) =
    subst (λ (x : List Name). one_parameter word x middle ≡ Ok (x ++ name ∷ [])) same one in
    rw (grown, there) (comma_shown word names rest middle end ends so_far is ended at
    ∙ shown_then (function_on word names) (one_parameter word names) (from_one word) (one_is word names) (λ s items. refl) middle
    (Ok (names ++ name ∷ [])) read (one_goes_on word names (names ++ name ∷ [])) refl)

-- faults
pub first_fault_shown : {A : Type 0} (r : Result A Halt) (h : Halt) (word : Location) (old new : SourceLexed) → r ≡ Err h
    → ReadsNext {A = Option Name} alone (first_parameter word) old (Err h) new → ShowsOnLine word r old new
first_fault_shown {A} r (halt.Fault fault) word old new fails p = subst (λ (x : Result A Halt). ShowsOnLine word x old new) (sym fails)
    (shown_there (function_at word) (first_parameter word) (from_first word) (first_is word) (λ s items. refl) old.rest new.rest (Err fault) p.is p.takes.rest p.fault)
first_fault_shown {A} r halt.OutOfMemory word old new fails p = subst (λ (x : Result A Halt). ShowsOnLine word x old new) (sym fails) tt

pub end_fault_shown : {A : Type 0} (r : Result A Halt) (h : Halt) (word : Location) (names : List Name) (start old new : SourceLexed) → r ≡ Err h
    → drop (shown_on (function_at word) start.rest) start.rest ≡ drop (shown_on (function_from word names) old.rest) old.rest
    → ReadsNext {A = Bool} (λ b. b) (ends_parameters word) old (Err h) new → ShowsOnLine word r start new
end_fault_shown {A} r (halt.Fault fault) word names start old new fails so_far p = subst (λ (x : Result A Halt). ShowsOnLine word x start new) (sym fails)
    (shown_there (function_from word names) (ends_parameters word) (from_end word names) (end_is word names) (λ s items. refl) old.rest new.rest (Err fault) p.is p.takes.rest p.fault
    ∙ sym so_far)
end_fault_shown {A} r halt.OutOfMemory word names start old new fails so_far p = subst (λ (x : Result A Halt). ShowsOnLine word x start new) (sym fails) tt

pub one_fault_shown : {A : Type 0} (r : Result A Halt) (h : Halt) (word : Location) (shown names : List Name) (start old mid new : SourceLexed) (ends : Bool) → r ≡ Err h
    → drop (shown_on (function_at word) start.rest) start.rest ≡ drop (shown_on (function_from word names) old.rest) old.rest
    → ends_parameters word old.rest ≡ Ok ends → ends ≡ false → mid.rest ≡ drop 1 old.rest → shown ≡ names
    → ReadsNext {A = Name} (with_one shown) (one_parameter word shown) mid (Err h) new → ShowsOnLine word r start new
one_fault_shown {A} r (halt.Fault fault) word shown names start old mid new ends fails so_far is ended at same p =
    subst (λ (x : Result A Halt). ShowsOnLine word x start new) (sym fails)
    (shown_there (function_on word names) (one_parameter word names) (from_one word) (one_is word names) (λ s items. refl) mid.rest new.rest (Err fault)
    (subst (λ (x : List Name). one_parameter word x mid.rest ≡ Err fault) same p.is) p.takes.rest p.fault
    ∙ sym (comma_shown word names old.rest mid.rest (drop (shown_on (function_at word) start.rest) start.rest) ends so_far is ended at))
one_fault_shown {A} r halt.OutOfMemory word shown names start old mid new ends fails so_far is ended at same p =
    subst (λ (x : Result A Halt). ShowsOnLine word x start new) (sym fails) tt

-- a fault after some of the parameters
pub fault_goes : {A : Type 0} (B : Type 0) (result : Result A Halt) (h : Halt) (taken shown : ℕ) (old mid new : SourceLexed) → result ≡ Err h
    → length mid.rest ≤ length old.rest → GoesFurther old mid → TakesItems {A = B} taken shown mid (Err h) new → GoesOnInLine result old new
fault_goes B result (halt.Fault fault) taken shown old mid new e fewer went t = rw e (record {
  rest = omega (arith, drop_fewer mid.rest new.rest shown t.rest, fewer);
  further = goes_then old mid new went t.further;
  spent = t.spent;
})
fault_goes B result halt.OutOfMemory taken shown old mid new e fewer went t = rw e tt

-- the body has a fault
pub function_fails : {A B : Type 0} (shows : A → Definition) (shown : B → List Token) (h : Halt) (word : Location) (names : List Name)
    (old mid new : SourceLexed) → parameters word old.rest ≡ Ok (record { names = names; after = mid.rest }) → GoesFurther old mid
    → drop (shown_on (function_at word) old.rest) old.rest ≡ drop (shown_on line_tokens mid.rest) mid.rest → unreported_at mid ≡ unreported_at old
    → ReadsLine shown line_tokens mid (Err h) new → ReadsLine shows (function_at word) old (Err h) new
function_fails shows shown (halt.Fault fault) word names old mid new is went same_shown same p = record {
  is = ap (λ r. r >>= body_of) is
      ∙ ap (λ (r : Result (List Token) Fault). r >>= λ body. Ok (record { function_like = true; parameters = names; body = body; text = source_text })) p.is;
  takes = record { rest = p.takes.rest ∙ sym same_shown; further = goes_then old mid new went p.takes.further; spent = p.takes.spent };
  fault = p.fault;
  errors = reports_after false {A = Unit {0}} (Err (halt.Fault fault)) (unreported_at old) (unreported_at mid) (unreported_at new) same p.errors;
}
function_fails shows shown halt.OutOfMemory word names old mid new is went same_shown same p = record { is = tt; takes = tt; fault = tt; errors = tt }
