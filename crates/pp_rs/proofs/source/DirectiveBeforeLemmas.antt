-- Whether a directive is before a position, by the items before it.
use Rattle.std.proofs.Common.{◌≡◌, ◌∙◌, ℕ, ◌+◌, Bool, true, false, ◌&&◌, ◌||◌, List, [], ◌∷◌, ◌++◌, take, drop, refl, ap, sym, subst, append-nil, append_assoc, Result, Ok, Err}
use Rattle.std.proofs.Math.Bool.{or-false, or_assoc}
use Rattle.std.proofs.Math.Seq.{take-add}
use Rattle.pp_lexer.specs.Items.{Lexeme}
use Rattle.pp_lexer.specs.Lexed.{Seen}
use Rattle.pp_lexer.specs.declared.lexer.item.Token.{Token as LexerToken}
use Rattle.pp_lexer.specs.declared.lexer.item.TokenValue.{TokenValue as LexerTokenValue}
use Rattle.pp_lexer.specs.declared.lexer.item.TokenValue.TheVariants.{Hash, NewLine}
use Rattle.pp_lexer.specs.declared.token.Location.{Location}
use Rattle.pp_lexer.specs.declared.token.Token.{Token}
use Rattle.pp_model.specs.Places.{Fault}
use Rattle.pp_model.specs.Conversions.{is_hash}
use Rattle.pp_model.specs.Sights.{sight_of, token_sight, is_directive, is_directive_hash}
use Rattle.pp_model.specs.inner.Sights.{item_sight, text_sight}
use Rattle.pp_model.specs.SourceReader.{has_directive}
use Rattle.pp_model.specs.declared.directive.Directive.{Directive}
use Rattle.pp_model.specs.declared.sight.Sight.{Sight}
use Rattle.pp_model.specs.declared.sight.Sight.TheVariants as sight
use Rattle.pp_directives.specs.inner.Lined.{AreLined}
use Rattle.pp_macros.proofs.work.DirectiveLineLemmas.{begins_directive}
use Rattle.pp_macros.proofs.work.QuietLemmas.{begins_bare}

-- the number sign of a directive stands there, and an item after it that isn't an error
abbrev pub begins_with_hash : Sight → Bool
begins_with_hash (sight.Directive directive word) = true
begins_with_hash sight.Lone = true
begins_with_hash (sight.NoWord fault) = true
begins_with_hash _ = false

text_begins_none : (converted : Result Token Fault) → begins_with_hash (text_sight converted) ≡ false
text_begins_none (Ok token) = refl
text_begins_none (Err fault) = refl

token_begins_none : (token : LexerToken) (value : LexerTokenValue) (at_start : Bool) (rest : List Seen) → is_hash value && at_start ≡ false
    → begins_with_hash (token_sight (record token { value = value; start_of_line = at_start }) rest) ≡ false
token_begins_none token Hash true rest h = cc
token_begins_none token Hash false rest h = refl
token_begins_none token NewLine at_start rest h = refl
token_begins_none token _ at_start rest h = refl

item_begins_none : (item : Lexeme) (rest : List Seen) → is_directive_hash item ≡ false → begins_with_hash (item_sight item rest) ≡ false
item_begins_none (Ok token) rest h = token_begins_none token token.value token.start_of_line rest h
item_begins_none (Err fault) rest h = refl

hash_by : (item : Lexeme) (rest : List Seen) (hash : Bool) → is_directive_hash item ≡ hash → begins_with_hash (item_sight item rest) ≡ true → hash ≡ true
hash_by item rest true is e = refl
hash_by item rest false is e = let bad : true ≡ false = sym e ∙ item_begins_none item rest is in cc

-- what stands in front is a number sign then
pub hash_in_front : (s : Seen) (rest : List Seen) (shown : Sight) → sight_of (s ∷ rest) ≡ shown → begins_with_hash shown ≡ true
    → is_directive_hash s.item ≡ true
hash_in_front s rest shown e begins = hash_by s.item rest (is_directive_hash s.item) refl (ap begins_with_hash e ∙ begins)

begins_is_directive : (shown : Sight) → begins_with_hash shown ≡ false → is_directive shown ≡ false
begins_is_directive sight.Lone e = cc
begins_is_directive (sight.NoWord fault) e = cc
begins_is_directive (sight.Directive directive word) e = cc
begins_is_directive _ e = refl

-- an item that is no number sign of a directive adds none
pub item_adds_none : (s : Seen) (rest : List Seen) → is_directive_hash s.item ≡ false → has_directive (s ∷ rest) ≡ has_directive rest
item_adds_none s rest h = ap (λ b. b || has_directive rest) (begins_is_directive (sight_of (s ∷ rest)) (item_begins_none s.item rest h))

-- so many items add a directive, or none, whatever stands after them
abbrev pub AddsDirective : ℕ → List Seen → Bool → Type 0
AddsDirective count items found = (after : List Seen) → has_directive (take count items ++ after) ≡ (found || has_directive after)

-- whether a directive stands before a position does not hang on what stands after it
abbrev pub IsApart : List Seen → ℕ → Type 0
IsApart source position = (after : List Seen) → has_directive (take position source ++ after) ≡ (has_directive (take position source) || has_directive after)

module _ (source : List Seen) (position count : ℕ) (found : Bool) (apart : IsApart source position)
    (adds : AddsDirective count (drop position source) found) where
  pub directive_further : has_directive (take (position + count) source) ≡ (has_directive (take position source) || found)
  directive_further =
      ap has_directive (take-add position count source) ∙ apart (take count (drop position source))
      ∙ ap (λ b. has_directive (take position source) || b) (ap has_directive (sym (append-nil (take count (drop position source)))) ∙ adds [] ∙ or-false found)

  pub apart_further : IsApart source (position + count)
  apart_further after =
      ap (λ items. has_directive (items ++ after)) (take-add position count source)
      ∙ ap has_directive (append_assoc (take position source) (take count (drop position source)) after)
      ∙ apart (take count (drop position source) ++ after)
      ∙ ap (λ b. has_directive (take position source) || b) (adds after)
      ∙ sym (or_assoc (has_directive (take position source)) found (has_directive after))
      ∙ ap (λ b. b || has_directive after) (sym directive_further)

-- the number sign and the word of a directive
pub word_adds : (rest : List Seen) (directive : Directive) (word : Location) → sight_of rest ≡ sight.Directive directive word → AddsDirective 2 rest true
word_adds rest directive word e after =
    let b = begins_directive rest directive word e in
    ap (λ items. has_directive (take 2 items ++ after)) b.front ∙ ap (λ shown. is_directive shown || has_directive (b.name ∷ after)) (b.seen after)

-- a number sign alone on its line
pub lone_adds : (rest : List Seen) → sight_of rest ≡ sight.Lone → AddsDirective 2 rest true
lone_adds rest e after =
    let b = begins_bare rest sight.Lone refl e in
    ap (λ items. has_directive (take 2 items ++ after)) b.front ∙ ap (λ shown. is_directive shown || has_directive (b.name ∷ after)) (b.seen after)

-- a number sign with a token after it that is no word
pub no_word_adds : (rest : List Seen) (fault : Fault) → sight_of rest ≡ sight.NoWord fault → AreLined rest → AddsDirective 2 rest false
no_word_adds rest fault e lined after =
    let b = begins_bare rest (sight.NoWord fault) refl e in
    let there : AreLined (b.hash ∷ b.name ∷ b.after) = subst AreLined b.front lined in
    ap (λ items. has_directive (take 2 items ++ after)) b.front ∙ ap (λ shown. is_directive shown || has_directive (b.name ∷ after)) (b.seen after)
    ∙ item_adds_none b.name after (there.0 b.goes_on)
