-- Identifiers: GLSL ES 3.20, section 3.8, with the letters of Unicode Standard Annex 31.
use Rattle.std.specs.Prelude.{ℕ, Bool, ◌||◌, ◌==◌, List}
use Rattle.unicode_ident.specs.Ident.{is_xid_start, is_xid_continue}
use Rattle.pp_lexer.specs.Spellings.{nothing, one, many}
use Rattle.pp_lexer.specs.Surroundings.{begins_with}

-- a letter, or an underscore
abbrev pub is_start : ℕ → Bool
is_start c = is_xid_start c || (c == 95)

-- a first character, and any number of characters that may continue it
unfoldable pub is_identifier : List ℕ → Bool
is_identifier = one is_start (many is_xid_continue nothing)

-- an identifier begins here
abbrev pub begins_identifier : List ℕ → Bool
begins_identifier = begins_with is_start
