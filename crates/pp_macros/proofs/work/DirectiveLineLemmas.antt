-- What is in front of the rest of a directive's line.
use Rattle.std.proofs.Common.{◌≡◌, ◌∙◌, ℕ, suc, ◌+◌, Bool, true, false, List, [], ◌∷◌, take, refl, ap, None, arith}
use Rattle.std.specs.Prelude.{Ok, Err}
use Rattle.std.specs.List.{cons_option}
use Rattle.pp_lexer.specs.Lexed.{Seen}
use Rattle.pp_lexer.specs.Items.{Lexeme}
use Rattle.pp_lexer.specs.declared.lexer.item.TokenValue.{TokenValue as LexerTokenValue}
use Rattle.pp_lexer.specs.declared.lexer.item.TokenValue.TheVariants.{Hash, NewLine, Ident as LexerIdent, Integer as LexerInteger, Float as LexerFloat, Punct as LexerPunct}
use Rattle.pp_lexer.specs.declared.token.Location.{Location}
use Rattle.pp_model.specs.Conversions.{identifier_of}
use Rattle.pp_model.specs.Lines.{ends_line, first_token}
use Rattle.pp_model.specs.Sights.{sight_of, named_directive, token_sight, is_directive_hash}
use Rattle.pp_model.specs.inner.Sights.{directive_sight}
use Rattle.pp_model.specs.Blocks.{part_of, line_at, block_lines}
use Rattle.pp_model.specs.inner.Blocks.{line_with}
use Rattle.pp_model.specs.declared.directive.Directive.{Directive}
use Rattle.pp_model.specs.declared.sight.Sight.{Sight}
use Rattle.pp_model.specs.declared.sight.Sight.TheVariants as sight
use Rattle.pp_macros.proofs.work.QuietLemmas.{quiet_item}

-- the number sign and the word of a directive stand in front
pub record BeginsDirective (directive : Directive) (word : Location) (rest : List Seen) : Type 0 where
  pub hash : Seen
  pub name : Seen
  pub after : List Seen
  pub front : rest ≡ hash ∷ name ∷ after
  pub seen : (later : List Seen) → sight_of (hash ∷ name ∷ later) ≡ sight.Directive directive word
  pub plain : is_directive_hash name.item ≡ false
  pub goes_on : ends_line name.item ≡ false

begins_word : (place : Location) (blank : Bool) (comments : Bool) (location : Location) (value : LexerTokenValue)
    (word_blank at_start word_comments : Bool) (later : List Seen) (directive : Directive) (word : Location)
    → named_directive (record { value = value; location = location; leading_whitespace = word_blank; start_of_line = at_start })
    (identifier_of value) ≡ sight.Directive directive word
    → BeginsDirective directive word
    (record {
      item = Ok (record { value = Hash; location = place; leading_whitespace = blank; start_of_line = true });
      had_comments = comments;
    } ∷ record {
      item = Ok (record { value = value; location = location; leading_whitespace = word_blank; start_of_line = at_start });
      had_comments = word_comments;
    } ∷ later)
begins_word place blank comments location (LexerIdent text) word_blank at_start word_comments later directive word e = record {
  hash = _;
  name = _;
  after = later;
  front = refl;
  seen = λ rest. e;
  plain = refl;
  goes_on = refl;
}
begins_word place blank comments location Hash word_blank at_start word_comments later directive word e = cc
begins_word place blank comments location NewLine word_blank at_start word_comments later directive word e = cc
begins_word place blank comments location (LexerInteger i) word_blank at_start word_comments later directive word e = cc
begins_word place blank comments location (LexerFloat f) word_blank at_start word_comments later directive word e = cc
begins_word place blank comments location (LexerPunct p) word_blank at_start word_comments later directive word e = cc

begins_with : (place : Location) (blank comments : Bool) (item : Lexeme) (others : Bool) (later : List Seen) (directive : Directive) (word : Location)
    → directive_sight item ≡ sight.Directive directive word
    → BeginsDirective directive word
    (record {
      item = Ok (record { value = Hash; location = place; leading_whitespace = blank; start_of_line = true });
      had_comments = comments;
    } ∷ record { item = item; had_comments = others } ∷ later)
begins_with place blank comments (Ok token) others later directive word e =
    begins_word place blank comments token.location token.value token.leading_whitespace token.start_of_line others later directive word e
begins_with place blank comments (Err fault) others later directive word e = cc

begins_after : (place : Location) (blank comments : Bool) (rest : List Seen) (directive : Directive) (word : Location)
    → directive_sight (first_token place rest) ≡ sight.Directive directive word
    → BeginsDirective directive word
    (record { item = Ok (record { value = Hash; location = place; leading_whitespace = blank; start_of_line = true }); had_comments = comments } ∷ rest)
begins_after place blank comments [] directive word e = cc
begins_after place blank comments (s ∷ later) directive word e = begins_with place blank comments s.item s.had_comments later directive word e

begins_token : (location : Location) (value : LexerTokenValue) (blank at_start comments : Bool) (rest : List Seen) (directive : Directive) (word : Location)
    → token_sight (record { value = value; location = location; leading_whitespace = blank; start_of_line = at_start }) rest ≡ sight.Directive directive word
    → BeginsDirective directive word
    (record {
      item = Ok (record { value = value; location = location; leading_whitespace = blank; start_of_line = at_start });
      had_comments = comments;
    } ∷ rest)
begins_token location Hash blank true comments rest directive word e = begins_after location blank comments rest directive word e
begins_token location Hash blank false comments rest directive word e = cc
begins_token location NewLine blank at_start comments rest directive word e = cc
begins_token location (LexerIdent text) blank at_start comments rest directive word e = cc
begins_token location (LexerInteger i) blank at_start comments rest directive word e = cc
begins_token location (LexerFloat f) blank at_start comments rest directive word e = cc
begins_token location (LexerPunct p) blank at_start comments rest directive word e = cc

begins_lexeme : (item : Lexeme) (comments : Bool) (rest : List Seen) (directive : Directive) (word : Location)
    → sight_of (record { item = item; had_comments = comments } ∷ rest) ≡ sight.Directive directive word
    → BeginsDirective directive word (record { item = item; had_comments = comments } ∷ rest)
begins_lexeme (Ok token) comments rest directive word e =
    begins_token token.location token.value token.leading_whitespace token.start_of_line comments rest directive word e
begins_lexeme (Err fault) comments rest directive word e = cc

-- where a directive is seen, its number sign and its word stand in front
pub begins_directive : (rest : List Seen) (directive : Directive) (word : Location) → sight_of rest ≡ sight.Directive directive word
    → BeginsDirective directive word rest
begins_directive [] directive word e = cc
begins_directive (s ∷ rest) directive word e = begins_lexeme s.item s.had_comments rest directive word e

no_block_line : (position : ℕ) (directive : Directive) (word : Location) (shown : Sight) → part_of directive ≡ None
    → shown ≡ sight.Directive directive word → line_at position shown ≡ None
no_block_line position directive word shown p e =
    ap (λ s. line_at position s) e ∙ ap (λ q. line_with position word q) p

-- the number sign and the word of a directive that is no line of a block add none
pub quiet_word : (position : ℕ) (rest later : List Seen) (directive : Directive) (word : Location) (b : BeginsDirective directive word rest)
    → part_of directive ≡ None
    → block_lines position (b.hash ∷ b.name ∷ later) ≡ block_lines (position + 2) later
quiet_word position rest later directive word b p =
    ap (λ line. cons_option line (block_lines (position + 1) (b.name ∷ later)))
    (no_block_line position directive word (sight_of (b.hash ∷ b.name ∷ later)) p (b.seen later))
    ∙ quiet_item (position + 1) b.name later b.plain ∙ ap (λ n. block_lines n later) (omega arith)

-- two items are taken, and more after them
pub take_two : (n : ℕ) (a b : Seen) (rest : List Seen) → take (2 + n) (a ∷ b ∷ rest) ≡ a ∷ b ∷ take n rest
take_two n a b rest =
    let e : 2 + n ≡ suc (suc n) = omega arith in
    ap (λ k. take k (a ∷ b ∷ rest)) e
