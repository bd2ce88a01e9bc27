-- An error of the lexer in front, in a text in which each line ends.
use Rattle.std.proofs.Common.{◌≡◌, ◌≢◌, ◌∙◌, Bool, true, false, if◌then◌else◌, List, [], ◌∷◌, refl, sym, ap}
use Rattle.std.specs.Prelude.{Ok, Err}
use Rattle.pp_lexer.specs.Items.{Lexeme}
use Rattle.pp_lexer.specs.Lexed.{Seen}
use Rattle.pp_lexer.specs.declared.lexer.item.TokenValue.{TokenValue as LexerTokenValue}
use Rattle.pp_lexer.specs.declared.lexer.item.TokenValue.TheVariants.{Hash, NewLine, Ident as LexerIdent, Integer as LexerInteger, Float as LexerFloat, Punct as LexerPunct}
use Rattle.pp_lexer.specs.declared.token.Location.{Location}
use Rattle.pp_model.specs.Places.{Fault}
use Rattle.pp_model.specs.Lines.{ends_line}
use Rattle.pp_model.specs.Moves.{error_length}
use Rattle.pp_model.specs.Sights.{sight_of, token_sight, is_directive_hash}
use Rattle.pp_model.specs.declared.sight.Sight.{Sight}
use Rattle.pp_model.specs.declared.sight.Sight.TheVariants as sight
use Rattle.pp_model.specs.inner.Sights.{item_sight}
use Rattle.pp_macros.proofs.work.QuietLemmas.{BeginsBare, OneInFront}
use Rattle.pp_directives.specs.inner.Lined.{AreEnded}

-- the number sign of a directive and what stands after it are in front
value_begins : (location : Location) (value : LexerTokenValue) (blank at_start comments : Bool) (second : Seen) (later : List Seen) (shown : Sight)
    → is_directive_hash (Ok (record { value = value; location = location; leading_whitespace = blank; start_of_line = at_start })) ≡ true
    → token_sight (record { value = value; location = location; leading_whitespace = blank; start_of_line = at_start }) (second ∷ later) ≡ shown
    → BeginsBare shown
    (record {
      item = Ok (record { value = value; location = location; leading_whitespace = blank; start_of_line = at_start });
      had_comments = comments;
    } ∷ second ∷ later)
value_begins location Hash blank true comments second later shown is e =
    record { hash = _; name = second; after = later; front = refl; seen = λ more. e; goes_on = refl }
value_begins location Hash blank false comments second later shown is e = cc
value_begins location NewLine blank at_start comments second later shown is e = cc
value_begins location (LexerIdent name) blank at_start comments second later shown is e = cc
value_begins location (LexerInteger i) blank at_start comments second later shown is e = cc
value_begins location (LexerFloat f) blank at_start comments second later shown is e = cc
value_begins location (LexerPunct p) blank at_start comments second later shown is e = cc

hash_begins : (item : Lexeme) (comments : Bool) (second : Seen) (later : List Seen) (shown : Sight) → is_directive_hash item ≡ true
    → item_sight item (second ∷ later) ≡ shown → BeginsBare shown (record { item = item; had_comments = comments } ∷ second ∷ later)
hash_begins (Ok token) comments second later shown is e =
    value_begins token.location token.value token.leading_whitespace token.start_of_line comments second later shown is e
hash_begins (Err fault) comments second later shown is e = cc

-- the number sign of a directive doesn't end its line
hash_within : (item : Lexeme) → is_directive_hash item ≡ true → ends_line item ≡ false
hash_within (Ok token) is = go token.value is
  where
    go : (value : LexerTokenValue) → is_directive_hash (Ok (record token { value = value })) ≡ true → ends_line (Ok (record token { value = value })) ≡ false
    go NewLine is = cc
    go _ is = refl
hash_within (Err fault) is = cc

-- An error is in front: it is alone, or the number sign of a directive is before it.
pub data ErrorInFront (fault : Fault) (rest : List Seen) : Type 0 where
  alone : OneInFront rest → error_length rest ≡ 1 → ErrorInFront fault rest
  after_hash : (begins : BeginsBare (sight.Fault fault) rest) → is_directive_hash begins.hash.item ≡ true → error_length rest ≡ 2
      → ErrorInFront fault rest

front_by : (fault : Fault) (first : Seen) (later : List Seen) (hash : Bool) → is_directive_hash first.item ≡ hash
    → sight_of (first ∷ later) ≡ sight.Fault fault → (ends_line first.item ≡ false → later ≢ []) → ErrorInFront fault (first ∷ later)
front_by fault first [] true is e some = absurd (some (hash_within first.item is) refl)
front_by fault first (second ∷ later) true is e some =
    let begins : BeginsBare (sight.Fault fault) (first ∷ second ∷ later) =
    hash_begins first.item first.had_comments second later (sight.Fault fault) is e in
    let front : first ∷ second ∷ later ≡ begins.hash ∷ begins.name ∷ begins.after = begins.front in
    let same : first ≡ begins.hash = cc in
    after_hash begins (ap (λ (s : Seen). is_directive_hash s.item) (sym same) ∙ is) (ap (λ (b : Bool). if b then 2 else 1) is)
front_by fault first [] false is e some = alone (record { first = first; later = []; front = refl; quiet = is }) refl
front_by fault first (second ∷ later) false is e some =
    alone (record { first = first; later = second ∷ later; front = refl; quiet = is }) (ap (λ (b : Bool). if b then 2 else 1) is)

pub error_in_front : (fault : Fault) (rest : List Seen) → sight_of rest ≡ sight.Fault fault → AreEnded rest → ErrorInFront fault rest
error_in_front fault [] e ended = cc
error_in_front fault (first ∷ later) e ended = front_by fault first later (is_directive_hash first.item) refl e ended.0
