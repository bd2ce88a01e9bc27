-- What is said of a position by the items before it is the same in each source that begins with these items.
use Rattle.std.proofs.Common.{◌≡◌, ◌∙◌, ℕ, zero, suc, ◌+◌, ◌-◌, ◌≤◌, ◌<◌, Bool, true, false, not, ◌&&◌, ◌||◌, List, [], ◌∷◌, ◌++◌, length, take, drop, reverse, refl, sym, ap, arith}
use Rattle.std.specs.Prelude.{Option, Some, None, Result, Ok, Err, if◌then◌else◌}
use Rattle.std.specs.List.{list_any, list_all, take_while}
use Rattle.std.proofs.lemmas.List.{drop-take, take-take, take-append-le, length-take-le}
use Rattle.pp_lexer.specs.Items.{Lexeme}
use Rattle.pp_lexer.specs.Lexed.{Seen}
use Rattle.pp_lexer.specs.declared.lexer.item.Token.{Token as LexerToken}
use Rattle.pp_lexer.specs.declared.token.Token.{Token}
use Rattle.pp_model.specs.Places.{Fault}
use Rattle.pp_model.specs.Names.{Name}
use Rattle.pp_model.specs.Conversions.{is_newline, is_hash, conversion, identifier_of, refused_token}
use Rattle.pp_model.specs.Lines.{ends_line, first_token}
use Rattle.pp_model.specs.Blocks.{Block, Truths, block_lines, open_blocks, blocks_at, is_last_chosen, is_live, are_surroundings_live}
use Rattle.pp_model.specs.Sights.{sight_of, named_directive, is_text, is_directive_hash}
use Rattle.pp_model.specs.inner.Sights.{item_sight, directive_sight, text_sight}
use Rattle.pp_model.specs.SourceReader.{has_directive, is_on_directive_line, is_live_text, has_live_text_before}
use Rattle.pp_model.specs.declared.sight.Sight.TheVariants as sight

-- two sources have the same items before this position
abbrev pub SameFront : ℕ → List Seen → List Seen → Type 0
SameFront position items others = take position items ≡ take position others

-- the first items of a source, and others after them
pub same_front : (position : ℕ) (items rest : List Seen) → position ≤ length items → SameFront position (take position items ++ rest) items
same_front position items rest h =
    take-append-le position (take position items) rest (omega (arith, length-take-le position items h)) ∙ take-take position position items (omega arith)

-- so they have before an earlier one
pub same_earlier : (earlier position : ℕ) (items others : List Seen) → earlier ≤ position → SameFront position items others → SameFront earlier items others
same_earlier earlier position items others h same =
    sym (take-take earlier position items h) ∙ ap (take earlier) same ∙ take-take earlier position others h

-- what is seen after the number sign of a directive is no token of the text
no_text_bare : (newline : Bool) (fault : Fault) → is_text (if newline then sight.Lone else sight.NoWord fault) ≡ false
no_text_bare true fault = refl
no_text_bare false fault = refl

no_text_named : (token : LexerToken) (name : Option Name) → is_text (named_directive token name) ≡ false
no_text_named token (Some name) = refl
no_text_named token None = no_text_bare (is_newline token.value) (refused_token token)

no_text_hash : (first : Result LexerToken Fault) → is_text (directive_sight first) ≡ false
no_text_hash (Ok token) = no_text_named token (identifier_of token.value)
no_text_hash (Err fault) = refl

text_by_value : (token : LexerToken) (newline hash first : Bool) (seen other : Result LexerToken Fault) (shown : Result Token Fault)
    → is_text (if newline then sight.NewLine else if hash then (if first then directive_sight seen else sight.Hash token.location) else text_sight shown)
    ≡ is_text (if newline then sight.NewLine else if hash then (if first then directive_sight other else sight.Hash token.location) else text_sight shown)
text_by_value token true hash first seen other shown = refl
text_by_value token false true true seen other shown = no_text_hash seen ∙ sym (no_text_hash other)
text_by_value token false true false seen other shown = refl
text_by_value token false false first seen other shown = refl

text_by_lexeme : (item : Lexeme) (rest other : List Seen) → is_text (item_sight item rest) ≡ is_text (item_sight item other)
text_by_lexeme (Ok token) rest other =
    text_by_value token (is_newline token.value) (is_hash token.value) token.start_of_line (first_token token.location rest)
    (first_token token.location other) (conversion token)
text_by_lexeme (Err fault) rest other = refl

-- whether an item is a token of the text is known without the items after it
pub text_by_item : (items others : List Seen) → take 1 items ≡ take 1 others → is_text (sight_of items) ≡ is_text (sight_of others)
text_by_item [] [] same = refl
text_by_item [] (t ∷ others) same = cc
text_by_item (s ∷ items) [] same = cc
text_by_item (s ∷ items) (t ∷ others) same =
    let first : s ≡ t = cc in
    text_by_lexeme s.item items others ∙ ap (λ (x : Seen). is_text (sight_of (x ∷ others))) first

-- the item at a position is among those before a later one
first_there : (place more : ℕ) (items : List Seen) → take 1 (drop place items) ≡ take 1 (drop place (take (place + suc more) items))
first_there place more items = sym (ap (take 1) (drop-take place (suc more) items) ∙ take-take 1 (suc more) (drop place items) (omega arith))

module _ (items others : List Seen) (position : ℕ) (same : SameFront position items others) where
  -- the same item stands at an earlier position,
  pub first_same : (place : ℕ) → place < position → take 1 (drop place items) ≡ take 1 (drop place others)
  first_same place h =
      let more : place + suc (position - place - 1) ≡ position = omega (arith, h) in
      let front : take (place + suc (position - place - 1)) items ≡ take (place + suc (position - place - 1)) others =
      ap (λ n. take n items) more ∙ same ∙ ap (λ n. take n others) (sym more) in
      first_there place (position - place - 1) items ∙ ap (λ found. take 1 (drop place found)) front
      ∙ sym (first_there place (position - place - 1) others)

  module _ (place : ℕ) (h : place ≤ position) where
    front_there : SameFront place items others
    front_there = same_earlier place position items others h same

    -- the same blocks are open there,
    pub blocks_same : blocks_at items place ≡ blocks_at others place
    blocks_same = ap (λ front. open_blocks (block_lines 0 front)) front_there

    -- it is live alike,
    pub live_same : (truths : Truths) → is_live items truths place ≡ is_live others truths place
    live_same truths = ap (list_all (λ (block : Block). is_last_chosen truths block.first block.partings)) blocks_same

    -- it is on a directive's line in both or in none,
    pub line_same : is_on_directive_line items place ≡ is_on_directive_line others place
    line_same = ap (λ front. list_any (λ (s : Seen). is_directive_hash s.item) (take_while (λ (s : Seen). not (ends_line s.item)) (reverse front))) front_there

    -- and a directive is before it in both or in none.
    pub directive_same : has_directive (take place items) ≡ has_directive (take place others)
    directive_same = ap has_directive front_there

  -- the surroundings of a block are live alike
  pub surroundings_same : (truths : Truths) (block : Block) → block.first.position ≤ position
      → are_surroundings_live items truths block ≡ are_surroundings_live others truths block
  surroundings_same truths block h = live_same block.first.position h truths

  -- live text is at an earlier position in both or in none,
  live_text_same : (truths : Truths) (place : ℕ) → place < position → is_live_text items truths place ≡ is_live_text others truths place
  live_text_same truths place h =
      let below : place ≤ position = omega (arith, h) in
      ap (λ text. text && not (is_on_directive_line items place) && is_live items truths place)
      (text_by_item (drop place items) (drop place others) (first_same place h))
      ∙ ap (λ on. is_text (sight_of (drop place others)) && not on && is_live items truths place) (line_same place below)
      ∙ ap (λ live. is_text (sight_of (drop place others)) && not (is_on_directive_line others place) && live) (live_same place below truths)

  -- and so it is before one.
  pub text_same : (truths : Truths) (place : ℕ) → place ≤ position → has_live_text_before items truths place ≡ has_live_text_before others truths place
  text_same truths zero h = refl
  text_same truths (suc place) h =
      ap (λ found. found || has_live_text_before items truths place) (live_text_same truths place (omega (arith, h)))
      ∙ ap (λ before. is_live_text others truths place || before) (text_same truths place (omega (arith, h)))
