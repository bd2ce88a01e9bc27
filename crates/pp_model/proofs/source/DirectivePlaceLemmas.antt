-- Which positions of a source lie on a directive's line, by the item before them.
use Rattle.std.proofs.Common.{◌≡◌, ◌∙◌, ℕ, zero, suc, ◌-◌, ◌<◌, Bool, true, false, cond, not, ◌&&◌, ◌||◌, List, [], ◌∷◌, ◌++◌, reverse, take, refl, ap, sym, Some, Ok, Err, arith}
use Rattle.std.specs.List.{slice_get, list_any, take_while}
use Rattle.std.proofs.lemmas.List.{reverse-append}
use Rattle.std.proofs.lemmas.List.Sums.{take_while-cons}
use Rattle.pp_lexer.specs.Items.{Lexeme}
use Rattle.pp_lexer.specs.Lexed.{Seen}
use Rattle.pp_lexer.specs.declared.lexer.item.TokenValue.{TokenValue as LexerTokenValue}
use Rattle.pp_lexer.specs.declared.lexer.item.TokenValue.TheVariants.{NewLine}
use Rattle.pp_model.specs.Conversions.{is_newline, is_hash}
use Rattle.pp_model.specs.Lines.{ends_line}
use Rattle.pp_model.specs.Sights.{is_directive_hash}
use Rattle.pp_model.specs.SourceReader.{earlier_on_line, is_on_directive_line}

newline_begins_none : (value : LexerTokenValue) (at_start : Bool) → is_newline value ≡ true → is_hash value && at_start ≡ false
newline_begins_none NewLine at_start e = refl
newline_begins_none _ at_start e = cc

-- what ends a line is no number sign
pub end_is_no_hash : (item : Lexeme) → ends_line item ≡ true → is_directive_hash item ≡ false
end_is_no_hash (Ok token) e = newline_begins_none token.value token.start_of_line e
end_is_no_hash (Err fault) e = cc

take_one_more : (source : List Seen) (position : ℕ) (s : Seen) → slice_get source position ≡ Some s
    → take (suc position) source ≡ take position source ++ s ∷ []
take_one_more [] zero s e = cc
take_one_more [] (suc position) s e = cc
take_one_more (x ∷ xs) zero s e = let same : x ≡ s = cc in ap (λ (y : Seen). y ∷ []) same
take_one_more (x ∷ xs) (suc position) s e = ap (λ (rest : List Seen). x ∷ rest) (take_one_more xs position s e)

-- what is found on a line after one more item
found_after : (s : Seen) (earlier : List Seen) (last : Bool) → ends_line s.item ≡ last
    → list_any (λ s. is_directive_hash s.item) (cond (not last) (s ∷ earlier) [])
    ≡ (is_directive_hash s.item || (not last && list_any (λ s. is_directive_hash s.item) earlier))
found_after s earlier true e = ap (λ hash. hash || false) (sym (end_is_no_hash s.item e))
found_after s earlier false e = refl

-- after an item a directive's line goes on, or begins
pub on_line_after : (source : List Seen) (position : ℕ) (s : Seen) → slice_get source position ≡ Some s
    → is_on_directive_line source (suc position) ≡ (is_directive_hash s.item || (not (ends_line s.item) && is_on_directive_line source position))
on_line_after source position s e =
    ap (λ (items : List Seen). list_any (λ s. is_directive_hash s.item) (take_while (λ s. not (ends_line s.item)) items))
    (ap reverse (take_one_more source position s e) ∙ reverse-append (take position source) (s ∷ []))
    ∙ ap (list_any (λ s. is_directive_hash s.item)) (take_while-cons (λ s. not (ends_line s.item)) s (reverse (take position source)))
    ∙ found_after s (earlier_on_line source position) (ends_line s.item) refl

-- the same of a position that isn't the first
pub on_line_before : (source : List Seen) (position : ℕ) (s : Seen) → 0 < position → slice_get source (position - 1) ≡ Some s
    → is_on_directive_line source position ≡ (is_directive_hash s.item || (not (ends_line s.item) && is_on_directive_line source (position - 1)))
on_line_before source zero s h e = absurd (omega (arith, h))
on_line_before source (suc position) s h e =
    let one : suc position ≡ suc (suc position - 1) = omega arith in
    ap (is_on_directive_line source) one ∙ on_line_after source (suc position - 1) s e
