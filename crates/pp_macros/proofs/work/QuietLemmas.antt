-- Items without a line of a block among them, no matter what follows them.
use Rattle.std.proofs.Common.{◌≡◌, ◌∙◌, sym, ℕ, suc, ◌+◌, Bool, true, false, ◌&&◌, List, [], ◌∷◌, ◌++◌, length, ◌≤◌, take, refl, ap, Option, Some, None, arith}
use Rattle.std.specs.Prelude.{Result, Ok, Err, if◌then◌else◌}
use Rattle.std.specs.List.{cons_option}
use Rattle.pp_lexer.specs.Lexed.{Seen}
use Rattle.pp_lexer.specs.Items.{Lexeme}
use Rattle.pp_lexer.specs.declared.lexer.item.Token.{Token as LexerToken}
use Rattle.pp_lexer.specs.declared.lexer.item.TokenValue.{TokenValue as LexerTokenValue}
use Rattle.pp_lexer.specs.declared.lexer.item.TokenValue.TheVariants.{Hash, NewLine, Ident as LexerIdent, Integer as LexerInteger, Float as LexerFloat, Punct as LexerPunct}
use Rattle.pp_lexer.specs.declared.token.Location.{Location}
use Rattle.pp_model.specs.Places.{Fault}
use Rattle.pp_model.specs.Conversions.{is_newline, is_hash, identifier_of, refused_token}
use Rattle.pp_model.specs.Lines.{first_token, ends_line}
use Rattle.pp_model.specs.Names.{Name}
use Rattle.pp_model.specs.Sights.{sight_of, token_sight, named_directive, is_directive_hash}
use Rattle.pp_model.specs.inner.Sights.{item_sight, directive_sight}
use Rattle.pp_model.specs.declared.sight.Sight.{Sight}
use Rattle.pp_model.specs.declared.sight.Sight.TheVariants as sight
use Rattle.pp_model.specs.Blocks.{line_at, block_lines}

-- a token that is not the number sign of a directive begins no line of a block
quiet_token : (position : ℕ) (location : Location) (value : LexerTokenValue) (blank at_start : Bool) (rest : List Seen) → is_hash value && at_start ≡ false
    → line_at position (token_sight (record { value = value; location = location; leading_whitespace = blank; start_of_line = at_start }) rest) ≡ None
quiet_token position location Hash blank true rest h = cc
quiet_token position location Hash blank false rest h = refl
quiet_token position location NewLine blank at_start rest h = refl
quiet_token position location (LexerIdent name) blank at_start rest h = refl
quiet_token position location (LexerInteger i) blank at_start rest h = refl
quiet_token position location (LexerFloat f) blank at_start rest h = refl
quiet_token position location (LexerPunct p) blank at_start rest h = refl

quiet_lexeme : (position : ℕ) (item : Lexeme) (comments : Bool) (rest : List Seen) → is_directive_hash item ≡ false
    → block_lines position (record { item = item; had_comments = comments } ∷ rest) ≡ block_lines (position + 1) rest
quiet_lexeme position (Ok token) comments rest h =
    ap (λ line. cons_option line (block_lines (position + 1) rest))
    (quiet_token position token.location token.value token.leading_whitespace token.start_of_line rest h)
quiet_lexeme position (Err fault) comments rest h = refl

-- an item that is not the number sign of a directive adds no line of a block
pub quiet_item : (position : ℕ) (s : Seen) (rest : List Seen) → is_directive_hash s.item ≡ false
    → block_lines position (s ∷ rest) ≡ block_lines (position + 1) rest
quiet_item position s rest h = quiet_lexeme position s.item s.had_comments rest h

-- one item is taken, and more after it
pub take_more : (n : ℕ) (s : Seen) (rest : List Seen) → take (1 + n) (s ∷ rest) ≡ s ∷ take n rest
take_more n s rest =
    let e : 1 + n ≡ suc n = omega arith in
    ap (λ k. take k (s ∷ rest)) e

-- so many items in front add no line of a block
abbrev pub IsQuietLine : ℕ → List Seen → List Seen → ℕ → Type 0
IsQuietLine position rest after n = block_lines position (take n rest ++ after) ≡ block_lines (position + n) after

-- a newline, a token of the text, or a number sign that begins no line
abbrev pub is_one_item : Sight → Bool
is_one_item sight.NewLine = true
is_one_item (sight.Token token) = true
is_one_item (sight.Hash location) = true
is_one_item _ = false

bare_is_more : (newline : Bool) (fault : Fault) → is_one_item (if newline then sight.Lone else sight.NoWord fault) ≡ true → ⊥
bare_is_more true fault h = cc
bare_is_more false fault h = cc

word_is_more : (token : LexerToken) (name : Option Name) → is_one_item (named_directive token name) ≡ true → ⊥
word_is_more token (Some name) h = cc
word_is_more token None h = bare_is_more (is_newline token.value) (refused_token token) h

directive_is_more : (first : Result LexerToken Fault) → is_one_item (directive_sight first) ≡ true → ⊥
directive_is_more (Ok token) h = word_is_more token (identifier_of token.value) h
directive_is_more (Err fault) h = cc

one_value : (location : Location) (value : LexerTokenValue) (blank at_start : Bool) (rest : List Seen)
    → is_one_item (token_sight (record { value = value; location = location; leading_whitespace = blank; start_of_line = at_start }) rest) ≡ true
    → is_hash value && at_start ≡ false
one_value location Hash blank true rest h = absurd (directive_is_more (first_token location rest) h)
one_value location Hash blank false rest h = refl
one_value location NewLine blank at_start rest h = refl
one_value location (LexerIdent name) blank at_start rest h = refl
one_value location (LexerInteger i) blank at_start rest h = refl
one_value location (LexerFloat f) blank at_start rest h = refl
one_value location (LexerPunct p) blank at_start rest h = refl

one_lexeme : (item : Lexeme) (rest : List Seen) → is_one_item (item_sight item rest) ≡ true → is_directive_hash item ≡ false
one_lexeme (Ok token) rest h = one_value token.location token.value token.leading_whitespace token.start_of_line rest h
one_lexeme (Err fault) rest h = cc

-- where such an item stands in front, it adds no line of a block
pub quiet_one : (position : ℕ) (rest after : List Seen) → is_one_item (sight_of rest) ≡ true
    → block_lines position (take 1 rest ++ after) ≡ block_lines (position + 1) after
quiet_one position [] after h = cc
quiet_one position (s ∷ rest) after h = quiet_item position s after (one_lexeme s.item rest h)

-- such an item is there
pub one_there : (rest : List Seen) → is_one_item (sight_of rest) ≡ true → 1 ≤ length rest
one_there [] h = cc
one_there (s ∷ rest) h = omega arith

-- such an item, and that it is no number sign of a directive
pub record OneInFront (rest : List Seen) : Type 0 where
  pub first : Seen
  pub later : List Seen
  pub front : rest ≡ first ∷ later
  pub quiet : is_directive_hash first.item ≡ false

pub one_in_front : (rest : List Seen) → is_one_item (sight_of rest) ≡ true → OneInFront rest
one_in_front [] h = cc
one_in_front (s ∷ rest) h = record { first = s; later = rest; front = refl; quiet = one_lexeme s.item rest h }

-- the number sign of a directive has no word after it
abbrev pub is_bare : Sight → Bool
is_bare sight.Lone = true
is_bare (sight.NoWord fault) = true
is_bare _ = false

-- a number sign of a directive with a token after it that is no word
pub record BeginsBare (shown : Sight) (rest : List Seen) : Type 0 where
  pub hash : Seen
  pub name : Seen
  pub after : List Seen
  pub front : rest ≡ hash ∷ name ∷ after
  pub seen : (later : List Seen) → sight_of (hash ∷ name ∷ later) ≡ shown
  pub goes_on : ends_line hash.item ≡ false

no_bare : {A : Type 0} (found shown : Sight) → is_bare found ≡ false → found ≡ shown → is_bare shown ≡ true → A
no_bare found shown not_bare e bare = let bad : true ≡ false = sym bare ∙ ap is_bare (sym e) ∙ not_bare in cc

bare_after : (place : Location) (blank comments : Bool) (rest : List Seen) (shown : Sight) → is_bare shown ≡ true
    → directive_sight (first_token place rest) ≡ shown
    → BeginsBare shown
    (record { item = Ok (record { value = Hash; location = place; leading_whitespace = blank; start_of_line = true }); had_comments = comments } ∷ rest)
bare_after place blank comments [] shown bare e = no_bare _ shown refl e bare
bare_after place blank comments (name ∷ after) shown bare e = record { hash = _; name = name; after = after; front = refl; seen = λ later. e; goes_on = refl }

bare_token : (location : Location) (value : LexerTokenValue) (blank at_start comments : Bool) (rest : List Seen) (shown : Sight) → is_bare shown ≡ true
    → token_sight (record { value = value; location = location; leading_whitespace = blank; start_of_line = at_start }) rest ≡ shown
    → BeginsBare shown
    (record {
      item = Ok (record { value = value; location = location; leading_whitespace = blank; start_of_line = at_start });
      had_comments = comments;
    } ∷ rest)
bare_token location Hash blank true comments rest shown bare e = bare_after location blank comments rest shown bare e
bare_token location Hash blank false comments rest shown bare e = no_bare _ shown refl e bare
bare_token location NewLine blank at_start comments rest shown bare e = no_bare _ shown refl e bare
bare_token location (LexerIdent name) blank at_start comments rest shown bare e = no_bare _ shown refl e bare
bare_token location (LexerInteger i) blank at_start comments rest shown bare e = no_bare _ shown refl e bare
bare_token location (LexerFloat f) blank at_start comments rest shown bare e = no_bare _ shown refl e bare
bare_token location (LexerPunct p) blank at_start comments rest shown bare e = no_bare _ shown refl e bare

bare_lexeme : (item : Lexeme) (comments : Bool) (rest : List Seen) (shown : Sight) → is_bare shown ≡ true → item_sight item rest ≡ shown
    → BeginsBare shown (record { item = item; had_comments = comments } ∷ rest)
bare_lexeme (Ok token) comments rest shown bare e =
    bare_token token.location token.value token.leading_whitespace token.start_of_line comments rest shown bare e
bare_lexeme (Err error) comments rest shown bare e = no_bare _ shown refl e bare

-- where a number sign is alone on its line, or no word is seen after it, both items stand in front
pub begins_bare : (rest : List Seen) (shown : Sight) → is_bare shown ≡ true → sight_of rest ≡ shown → BeginsBare shown rest
begins_bare [] shown bare e = no_bare _ shown refl e bare
begins_bare (s ∷ rest) shown bare e = bare_lexeme s.item s.had_comments rest shown bare e

lone_value : (location : Location) (value : LexerTokenValue) (blank at_start : Bool)
    → named_directive (record { value = value; location = location; leading_whitespace = blank; start_of_line = at_start }) (identifier_of value) ≡ sight.Lone
    → is_newline value ≡ true
lone_value location Hash blank at_start e = cc
lone_value location NewLine blank at_start e = refl
lone_value location (LexerIdent name) blank at_start e = cc
lone_value location (LexerInteger i) blank at_start e = cc
lone_value location (LexerFloat f) blank at_start e = cc
lone_value location (LexerPunct p) blank at_start e = cc

lone_item : (item : Lexeme) → directive_sight item ≡ sight.Lone → ends_line item ≡ true
lone_item (Ok token) e = lone_value token.location token.value token.leading_whitespace token.start_of_line e
lone_item (Err fault) e = cc

lone_token : (location : Location) (value : LexerTokenValue) (blank at_start : Bool) (name : Seen) (later : List Seen)
    → token_sight (record { value = value; location = location; leading_whitespace = blank; start_of_line = at_start }) (name ∷ later) ≡ sight.Lone
    → ends_line name.item ≡ true
lone_token location Hash blank true name later e = lone_item name.item e
lone_token location Hash blank false name later e = cc
lone_token location NewLine blank at_start name later e = cc
lone_token location (LexerIdent text) blank at_start name later e = cc
lone_token location (LexerInteger i) blank at_start name later e = cc
lone_token location (LexerFloat f) blank at_start name later e = cc
lone_token location (LexerPunct p) blank at_start name later e = cc

lone_lexeme : (item : Lexeme) (name : Seen) (later : List Seen) → item_sight item (name ∷ later) ≡ sight.Lone → ends_line name.item ≡ true
lone_lexeme (Ok token) name later e = lone_token token.location token.value token.leading_whitespace token.start_of_line name later e
lone_lexeme (Err fault) name later e = cc

-- after a number sign that is alone on its line the line ends
pub lone_ends : (hash name : Seen) (later : List Seen) → sight_of (hash ∷ name ∷ later) ≡ sight.Lone → ends_line name.item ≡ true
lone_ends hash name later e = lone_lexeme hash.item name later e
