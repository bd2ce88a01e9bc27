-- A text that is one word of plain text.
use Rattle.std.proofs.Common.{◌≡◌, ◌∙◌, ℕ, List, [], ◌∷◌, ap, sym}
use Rattle.std.specs.Prelude.{map, Ok, Result}
use Rattle.pp_lexer.specs.declared.lexer.item.TokenValue.{TokenValue}
use Rattle.pp_lexer.specs.declared.lexer.item.TokenValue.TheVariants.{NewLine}
use Rattle.pp_lexer.specs.declared.lexer.plain_item.PlainItem.{PlainItem}
use Rattle.pp_lexer.specs.declared.rules.Rules.{Rules}
use Rattle.pp_lexer.specs.declared.token.PreprocessorError.{PreprocessorError}
use Rattle.pp_lexer.specs.Kept.{CanPass, flags_after, reading_after}
use Rattle.pp_lexer.specs.Lexed.{Lexed, Seen, start_by}
use Rattle.pp_lexer.specs.PlainItems.{PassesBlanks, token_of, value_of}
use Rattle.pp_lexer.specs.Respelling.{item_value, read_values_by}
use Rattle.pp_lexer.specs.Segments.{segments}
use Rattle.pp_lexer.specs.Spots.{spots_of}
use Rattle.pp_lexer.specs.inner.Fronts.{spots_from}
use Rattle.pp_lexer.specs.inner.Passing.{seen_from}
use Rattle.pp_lexer.proofs.characters.FrontsLemmas.{nothing_left}
use Rattle.pp_lexer.proofs.items.SegmentsLemmas.{segments_none}

-- the values of a text whose first word takes it to its end: the word's, and the newline after it
pub one_word : (rules : Rules) (text : List ℕ) (l : Lexed) (word : PlainItem) → PassesBlanks (start_by rules (spots_of text)) l → CanPass l word
    → word.rest.now ≡ [] → read_values_by rules text ≡ Ok (value_of word.form word.spelling.now) ∷ Ok NewLine ∷ []
one_word rules text l word same passes none =
    let values = λ (seen : List Seen). map (λ s. item_value s.item) seen in
    let last = (reading_after word).last in
    let after = λ (ss : List _). values (record { item = Ok (token_of word); had_comments = l.had_comments } ∷ seen_from (flags_after l.had_comments) last ss) in
    ap (λ k. values k.rest) (sym same) ∙ ap values passes.items
    ∙ ap (λ rest. after (segments l.rules (spots_from word.location.line word.location.end rest))) none
    ∙ ap (λ ss. after (segments l.rules ss)) (nothing_left word.location.line word.location.end)
    ∙ ap after (segments_none l.rules)

-- one token, and the newline after it
abbrev pub readings : TokenValue → List (Result TokenValue PreprocessorError)
readings value = Ok value ∷ Ok NewLine ∷ []

-- texts of one token are read as the same only if they are the same token
pub same_value : (a b : TokenValue) → readings a ≡ readings b → a ≡ b
same_value a b e = cc
