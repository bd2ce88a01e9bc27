-- The items of the text `a`, as the definitions give them.
use Rattle.std.proofs.Common.{◌≡◌, ◌∙◌, true, false, ◌&&◌, ◌||◌, ◌==◌, if◌then◌else◌, [], ◌∷◌, ◌++◌, reverse, map, take, drop, codes, refl, ap, arith, rules}
use Rattle.std.specs.Prelude.{Ok}
use Rattle.std.specs.List.{flat_map}
use Rattle.std.proofs.lemmas.Str.{chars-IsAscii}
use Rattle.unicode_ident.proofs.IdentLemmas.{is_xid_start-ascii}
use Rattle.pp_lexer.specs.Comments.{replaced}
use Rattle.pp_lexer.specs.Continuations.{continued}
use Rattle.pp_lexer.specs.Cut.{cut}
use Rattle.pp_lexer.specs.Identifiers.{is_identifier}
use Rattle.pp_lexer.specs.Items as lexer
use Rattle.pp_lexer.specs.Items.{item_at, final_newline}
use Rattle.pp_lexer.specs.Lexed.{Seen, seen}
use Rattle.pp_lexer.specs.Lines.{lines}
use Rattle.pp_lexer.specs.Longest.{longest, longest_within}
use Rattle.pp_lexer.specs.NumberValue.{number_outcome}
use Rattle.pp_lexer.specs.Numbers.{is_number}
use Rattle.pp_lexer.specs.Outcome.{Outcome}
use Rattle.pp_lexer.specs.Punctuators.{is_punctuation, punctuation_value, punctuation_outcome}
use Rattle.pp_lexer.specs.Reading.{spots}
use Rattle.pp_lexer.specs.Rules.{pp_rs}
use Rattle.pp_lexer.specs.Segments.{item, segments, last_of}
use Rattle.pp_lexer.specs.Surroundings.{surrounded}
use Rattle.pp_lexer.specs.Words.{is_newline_word, is_word, word_at, word_outcome}
use Rattle.pp_lexer.specs.declared.lexer.char_iterator.Spot.{Spot}
use Rattle.pp_lexer.specs.declared.lexer.item.Token.{Token as LexerToken}
use Rattle.pp_lexer.specs.declared.lexer.item.TokenValue.TheVariants.{Ident, NewLine}
use Rattle.pp_model.specs.Run.{items_of}

identifier : is_identifier (97 ∷ []) ≡ true
unfolding is_identifier
identifier = ap (λ b. (b || (97 == 95)) && true) (is_xid_start-ascii 97 (omega arith))

word : is_word (97 ∷ []) ≡ true
unfolding is_word is_newline_word
word = ap (λ b. b || (is_number (97 ∷ []) || is_punctuation (97 ∷ []))) identifier

-- its one word is the identifier
pub word_of_a : word_at pp_rs (97 ∷ []) ≡ record { value = Ok (Ident (97 ∷ [])); taken = 1 }
unfolding word_at longest is_newline_word
word_of_a =
    ap (λ n. word_outcome pp_rs (take n (97 ∷ [])) (drop n (97 ∷ []))) (ap (λ b. if b then 1 else longest_within is_word (97 ∷ []) 0) word)
    ∙ ap (λ b. if b then record { value = Ok (Ident (97 ∷ [])); taken = 1 } else if is_number (97 ∷ []) then number_outcome pp_rs (97 ∷ []) []
    else punctuation_outcome pp_rs 1 (punctuation_value (97 ∷ []))) identifier

abbrev spot : Spot
spot = record { c = 97; line = 1; begin = 0; end = 1 }

spots_of_a : spots 0 (replaced 1 (continued (lines (97 ∷ [])))) ≡ spot ∷ []
unfolding lines continued replaced cut
spots_of_a = refl

segments_of_a : segments pp_rs (spot ∷ []) ≡ record { kind = item (Ok (Ident (97 ∷ []))); first = spot; last = spot } ∷ []
unfolding segments
segments_of_a = ap (λ (o : Outcome). record { kind = item o.value; first = spot; last = last_of spot (take o.taken (spot ∷ [])) } ∷ []) word_of_a

abbrev pub word_token : LexerToken
word_token = record { value = Ident (97 ∷ []); location = record { start = 0; end = 1; line = 1 }; leading_whitespace = true; start_of_line = true }

abbrev pub newline_token : LexerToken
newline_token = record { value = NewLine; location = record { start = 1; end = 1; line = 1 }; leading_whitespace = false; start_of_line = false }

pub items_of_a : map (λ (s : Seen). s.item) (items_of (codes "a")) ≡ Ok word_token ∷ Ok newline_token ∷ []
items_of_a =
    ap (λ cs. map (λ (s : Seen). s.item) (map seen (lexer.items_of (spots 0 (replaced 1 (continued (lines cs))))))) (chars-IsAscii (codes "a") (search rules))
    ∙ ap (λ ss. map (λ (s : Seen). s.item) (map seen (lexer.items_of ss))) spots_of_a
    ∙ ap (λ gs. map (λ (s : Seen). s.item) (map seen (flat_map (λ s. item_at s.before s.here s.here.kind) (surrounded gs) ++ final_newline (reverse gs)))) segments_of_a
