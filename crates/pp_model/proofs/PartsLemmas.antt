-- The definitions, by the parts of them that have names of their own.
use Rattle.std.proofs.Common.{◌≡◌, ℕ, Bool, true, false, List, [], ◌∷◌, Result, Ok, Err, Option, Some, option_map, unwrap_or, if◌then◌else◌, refl, ap, ◌∙◌}
use Rattle.std.specs.List.{find}
use Rattle.std.specs.Str.{chars}
use Rattle.pp_lexer.specs.Items.{Lexeme}
use Rattle.pp_lexer.specs.Lexed.{Seen}
use Rattle.pp_lexer.specs.declared.token.Token.{Token}
use Rattle.pp_expression.specs.Answers.{◌>>=◌}
use Rattle.pp_model.specs.Places.{Fault}
use Rattle.pp_model.specs.Conversions.{conversion}
use Rattle.pp_model.specs.Emitting.{first_before}
use Rattle.pp_model.specs.Lines.{ends_line, line_tokens}
use Rattle.pp_model.specs.Run.{content_tokens}
use Rattle.pp_model.specs.Names.{Name, is_same_name}
use Rattle.pp_model.specs.Sights.{directives, directive_of}
use Rattle.pp_model.specs.declared.directive.Directive.{Directive}
use Rattle.pp_model.specs.declared.directive.Directive.TheVariants as d
use Rattle.pp_model.specs.inner.Sights.{is_word, directive_by_words}
use Rattle.pp_model.specs.inner.Lines.{tokens_from}
use Rattle.pp_model.specs.inner.Run.{content_from}

pub line_tokens_is : (s : Seen) (rest : List Seen) → line_tokens (s ∷ rest) ≡ tokens_from s.item (line_tokens rest)
line_tokens_is s rest = by s.item (line_tokens rest)
  where
    by : (item : Lexeme) (later : Result (List Token) Fault)
        → (if ends_line item then Ok [] else (item >>= λ token. conversion token >>= λ first. first_before first later)) ≡ tokens_from item later
    by (Ok token) later = refl
    by (Err fault) later = refl

pub content_tokens_is : (s : Seen) (rest : List Seen) → content_tokens (s ∷ rest) ≡ content_from s.item (content_tokens rest)
content_tokens_is s rest = by s.item (content_tokens rest)
  where
    by : (item : Lexeme) (later : Result (List Token) Fault)
        → (if ends_line item then later else (item >>= λ token. conversion token >>= λ first. first_before first later)) ≡ content_from item later
    by (Ok token) later = refl
    by (Err fault) later = refl

choice : {X Y : Type 0} (f : X → Y) (b : Bool) (x : X) (o : Option X) (otherwise : Y)
    → unwrap_or (option_map f (if b then Some x else o)) otherwise ≡ (if b then f x else unwrap_or (option_map f o) otherwise)
choice f true x o otherwise = refl
choice f false x o otherwise = refl

abbrev by_rows : List (List ℕ × Directive) → Name → Directive
by_rows [] name = d.Unknown
by_rows (row ∷ rows) name = if is_same_name name row.0 then row.1 else by_rows rows name

rows_are : (rows : List (List ℕ × Directive)) (name : Name)
    → unwrap_or (option_map (λ row. row.1) (find (λ row. is_same_name name row.0) rows)) d.Unknown ≡ by_rows rows name
rows_are [] name = refl
rows_are (row ∷ rows) name =
    choice (λ x. x.1) (is_same_name name row.0) row (find (λ x. is_same_name name x.0) rows) d.Unknown
    ∙ ap (λ x. if is_same_name name row.0 then row.1 else x) (rows_are rows name)

by_words : (name : Name) → by_rows directives name ≡ directive_by_words name
unfolding is_word chars
by_words name = refl

pub directive_of_is : (name : Name) → directive_of name ≡ directive_by_words name
unfolding directive_of
directive_of_is name = rows_are directives name ∙ by_words name
