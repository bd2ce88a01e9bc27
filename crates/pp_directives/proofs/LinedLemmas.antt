-- In the items of a text the number sign of a directive is first, or directly follows a NewLine: neither a token nor an
-- error is before it on its line.
use Rattle.std.proofs.Common.{◌≡◌, ◌∙◌, ℕ, zero, suc, Bool, true, false, ◌&&◌, List, [], ◌∷◌, ◌++◌, drop, refl, sym, ap, subst}
use Rattle.std.specs.Prelude.{Result, Ok, Err}
use Rattle.pp_lexer.specs.declared.rules.Rules.{Rules}
use Rattle.pp_lexer.specs.declared.lexer.char_iterator.Spot.{Spot}
use Rattle.pp_lexer.specs.declared.lexer.Flags.{Flags}
use Rattle.pp_lexer.specs.declared.lexer.item.TokenValue.{TokenValue}
use Rattle.pp_lexer.specs.declared.lexer.item.TokenValue.TheVariants.{Hash, NewLine, Ident, Integer, Float, Punct}
use Rattle.pp_lexer.specs.declared.token.PreprocessorError.{PreprocessorError}
use Rattle.pp_lexer.specs.Lexed.{Seen, start_by}
use Rattle.pp_lexer.specs.inner.Passing.{is_newline_result, passed, lexeme_seen, item_seen, newline_seen, seen_from}
use Rattle.pp_lexer.specs.Reading.{Reading}
use Rattle.pp_lexer.specs.Segments.{Kind, blank, comment, item, Segment, segments}
use Rattle.pp_lexer.specs.Spots.{spots_of}
use Rattle.pp_lexer.proofs.items.ItemsLemmas.{start_seen}
use Rattle.pp_model.specs.Conversions.{is_newline, is_hash}
use Rattle.pp_model.specs.Lines.{ends_line}
use Rattle.pp_model.specs.Run.{items_by}
use Rattle.pp_model.specs.Sights.{is_directive_hash}
use Rattle.pp_directives.specs.inner.Lined.{BeginsNoDirective, AreLined}

same_newline : (value : TokenValue) → is_newline value ≡ is_newline_result (Ok value)
same_newline Hash = refl
same_newline NewLine = refl
same_newline (Ident name) = refl
same_newline (Integer i) = refl
same_newline (Float f) = refl
same_newline (Punct p) = refl

-- an item ends a line where the lexer is at a line's start after it
pub ends_with : (f : Flags) (first last : Spot) (r : Result TokenValue PreprocessorError) → ends_line (lexeme_seen f first last r) ≡ is_newline_result r
ends_with f first last (Ok value) = same_newline value
ends_with f first last (Err fault) = refl

hash_within : (value : TokenValue) (at_start : Bool) → at_start ≡ false → is_hash value && at_start ≡ false
hash_within Hash at_start h = h
hash_within NewLine at_start h = refl
hash_within (Ident name) at_start h = refl
hash_within (Integer i) at_start h = refl
hash_within (Float f) at_start h = refl
hash_within (Punct p) at_start h = refl

-- within a line no item is the number sign of a directive
no_directive : (f : Flags) (first last : Spot) (r : Result TokenValue PreprocessorError) → f.start_of_line ≡ false
    → is_directive_hash (lexeme_seen f first last r) ≡ false
no_directive f first last (Ok value) h = hash_within value f.start_of_line h
no_directive f first last (Err fault) h = refl

-- the items that a lexer with these flags gives
abbrev AreLinedFrom : Flags → List Seen → Type 0
AreLinedFrom f items = AreLined items × (f.start_of_line ≡ false → BeginsNoDirective items)

lined_end : (spaced at_start comments : Bool) (last : Spot)
    → AreLinedFrom (record { leading_whitespace = spaced; start_of_line = at_start; had_comments = comments })
    (newline_seen (record { leading_whitespace = spaced; start_of_line = at_start; had_comments = comments }) last)
lined_end spaced true comments last = (tt, λ h. tt)
lined_end spaced false comments last = ((λ h. tt, tt), λ h. refl)

lined_item : (k : Kind) (f : Flags) (g : Segment) (later : List Seen) → AreLinedFrom (passed f k) later → AreLinedFrom f (item_seen f g k ++ later)
lined_item blank f g later h = h
lined_item comment f g later h = h
lined_item (item r) f g later h = ((λ e. h.1 (sym (ends_with f g.first g.last r) ∙ e), h.0), λ e. no_directive f g.first g.last r e)

lined_from : (gs : List Segment) (f : Flags) (last : Spot) → AreLinedFrom f (seen_from f last gs)
lined_from [] f last = lined_end f.leading_whitespace f.start_of_line f.had_comments last
lined_from (g ∷ gs) f last = lined_item g.kind f g (seen_from (passed f g.kind) g.last gs) (lined_from gs (passed f g.kind) g.last)

lined_at_start : (rules : Rules) (ss : List Spot) → AreLined (start_by rules ss).rest
lined_at_start rules ss =
    let f : Flags = record { leading_whitespace = true; start_of_line = true; had_comments = false } in
    let last : Spot = record { c = 0; line = 0; begin = 0; end = 0 } in
    let r : Reading = record { rest = ss; last = last } in
    subst AreLined (ap (λ l. l.rest) (start_seen rules r ss last refl)) (lined_from (segments rules ss) f last).0

-- so in the items of a text they stand only where a line begins
pub items_lined : (rules : Rules) (text : List ℕ) → AreLined (items_by rules text)
items_lined rules text = lined_at_start rules (spots_of text)

-- the same after some of the items
pub lined_after : (n : ℕ) (items : List Seen) → AreLined items → AreLined (drop n items)
lined_after zero [] h = h
lined_after (suc n) [] h = h
lined_after zero (s ∷ rest) h = h
lined_after (suc n) (s ∷ rest) h = lined_after n rest h.1
