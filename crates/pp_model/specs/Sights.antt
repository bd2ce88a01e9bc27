-- What is at a position of a source: text or a directive (GLSL ES 3.20, section 3.4, and docs/RULES.md, Directives 1
-- and 2).
use Rattle.std.specs.Prelude.{ℕ, Bool, true, false, ◌&&◌, if◌then◌else◌, List, [], ◌∷◌, Option, Some, None, option_map}
use Rattle.std.specs.Prelude.{unwrap_or, Result, Ok, Err, codes}
use Rattle.std.specs.List.{find}
use Rattle.pp_lexer.specs.Lexed.{Seen}
use Rattle.pp_lexer.specs.Items.{Lexeme}
use Rattle.pp_lexer.specs.declared.lexer.item.Token.{Token as LexerToken}
use Rattle.pp_model.specs.Places.{Fault}
use Rattle.pp_model.specs.Names.{Name, is_same_name}
use Rattle.pp_model.specs.Conversions.{is_newline, is_hash, identifier_of, conversion, refused_token}
use Rattle.pp_model.specs.Lines.{first_token}
use Rattle.pp_model.specs.declared.directive.Directive.{Directive}
use Rattle.pp_model.specs.declared.directive.Directive.TheVariants as d
use Rattle.pp_model.specs.declared.sight.Sight.{Sight}
use Rattle.pp_model.specs.declared.sight.Sight.TheVariants as sight

-- the words of directives
abbrev pub directives : List (List ℕ × Directive)
directives =
    (codes "define", d.Define) ∷ (codes "undef", d.Undef) ∷ (codes "if", d.If) ∷ (codes "ifdef", d.Ifdef) ∷
    (codes "ifndef", d.Ifndef) ∷ (codes "elif", d.Elif) ∷ (codes "else", d.Else) ∷ (codes "endif", d.Endif) ∷
    (codes "error", d.Error) ∷ (codes "include", d.Include) ∷ (codes "line", d.Line) ∷
    (codes "version", d.Version) ∷ (codes "extension", d.Extension) ∷ (codes "pragma", d.Pragma) ∷ []

-- the directive of a word, or an unknown one
unfoldable pub directive_of : Name → Directive
directive_of name = unwrap_or (option_map (λ row. row.1) (find (λ row. is_same_name name row.0) directives)) d.Unknown

-- what is seen of a value, or its fault
abbrev pub sight_from : {A : Type 0} → (A → Sight) → Result A Fault → Sight
sight_from see (Ok value) = see value
sight_from see (Err fault) = sight.Fault fault

-- what comes after the `#` of a directive: its word, or the end of the line, or neither
abbrev pub named_directive : LexerToken → Option Name → Sight
named_directive token (Some name) = sight.Directive (directive_of name) token.location
named_directive token None = if is_newline token.value then sight.Lone else sight.NoWord (refused_token token)

-- A `#` begins a directive if only blanks come before it on its line.
abbrev pub token_sight : LexerToken → List Seen → Sight
token_sight token rest =
    if is_newline token.value then sight.NewLine
    else if is_hash token.value
    then
    (if token.start_of_line
    then sight_from (λ word. named_directive word (identifier_of word.value)) (first_token token.location rest)
    else sight.Hash token.location)
    else sight_from sight.Token (conversion token)

-- what is at the front of these items
abbrev pub sight_of : List Seen → Sight
sight_of [] = sight.End
sight_of (s ∷ rest) = sight_from (λ token. token_sight token rest) s.item

-- a directive with a word, or a `#` that is alone on its line
abbrev pub is_directive : Sight → Bool
is_directive (sight.Directive word location) = true
is_directive sight.Lone = true
is_directive _ = false

abbrev pub is_text : Sight → Bool
is_text (sight.Token token) = true
is_text _ = false

abbrev pub is_directive_hash : Lexeme → Bool
is_directive_hash (Ok token) = is_hash token.value && token.start_of_line
is_directive_hash (Err fault) = false

-- the number of items at the front that show it
abbrev pub least_items : Sight → ℕ
least_items sight.End = 0
least_items sight.Lone = 2
least_items (sight.NoWord fault) = 2
least_items (sight.Directive word location) = 2
least_items _ = 1
