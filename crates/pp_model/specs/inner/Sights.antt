-- Parts of what is at a position of a source, under names of their own.
use Rattle.std.specs.Prelude.{ℕ, Bool, if◌then◌else◌, List, Result, codes}
use Rattle.std.specs.Str.{chars}
use Rattle.pp_lexer.specs.Items.{Lexeme}
use Rattle.pp_lexer.specs.Lexed.{Seen}
use Rattle.pp_lexer.specs.declared.lexer.item.Token.{Token as LexerToken}
use Rattle.pp_lexer.specs.declared.token.Token.{Token}
use Rattle.pp_model.specs.Places.{Fault}
use Rattle.pp_model.specs.Names.{Name, is_same_name}
use Rattle.pp_model.specs.Conversions.{identifier_of}
use Rattle.pp_model.specs.Sights.{sight_from, named_directive, token_sight}
use Rattle.pp_model.specs.declared.directive.Directive.{Directive}
use Rattle.pp_model.specs.declared.directive.Directive.TheVariants as d
use Rattle.pp_model.specs.declared.sight.Sight.{Sight}
use Rattle.pp_model.specs.declared.sight.Sight.TheVariants as sight

-- the name has the characters of this text
unfoldable pub is_word : Name → List ℕ → Bool
is_word name text = is_same_name name (chars text)

-- the directive of a word, word by word
abbrev pub directive_by_words : Name → Directive
directive_by_words name =
    if is_word name (codes "define") then d.Define
    else if is_word name (codes "undef") then d.Undef
    else if is_word name (codes "if") then d.If
    else if is_word name (codes "ifdef") then d.Ifdef
    else if is_word name (codes "ifndef") then d.Ifndef
    else if is_word name (codes "elif") then d.Elif
    else if is_word name (codes "else") then d.Else
    else if is_word name (codes "endif") then d.Endif
    else if is_word name (codes "error") then d.Error
    else if is_word name (codes "include") then d.Include
    else if is_word name (codes "line") then d.Line
    else if is_word name (codes "version") then d.Version
    else if is_word name (codes "extension") then d.Extension
    else if is_word name (codes "pragma") then d.Pragma
    else d.Unknown

-- what comes after the `#` of a directive
abbrev pub directive_sight : Result LexerToken Fault → Sight
directive_sight = sight_from (λ word. named_directive word (identifier_of word.value))

abbrev pub text_sight : Result Token Fault → Sight
text_sight = sight_from sight.Token

abbrev pub item_sight : Lexeme → List Seen → Sight
item_sight item rest = sight_from (λ token. token_sight token rest) item
