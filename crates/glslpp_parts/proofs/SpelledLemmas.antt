-- A text that spells a value is read as the value.
use Rattle.std.proofs.Common.{◌≡◌, ℕ, ℤ, pos, true, List, [], ◌∷◌, ◌++◌, refl, sym, ◌∙◌, ap, subst}
use Rattle.std.specs.Prelude.{All, Ok}
use Rattle.std.specs.Fmt.{decimal}
use Rattle.std.proofs.lemmas.List.{append-nil}
use Rattle.std.specs.Str.{IsUtf8, chars}
use Rattle.std.proofs.lemmas.List.Elements.{All-cons, All-head, All-nil}
use Rattle.std.proofs.lemmas.Str.{encodes-chars}
use lib.Utf8.{encodes}
use Rattle.pp_lexer.specs.declared.lexer.item.TokenValue.TheVariants.{NewLine, Ident as LexerIdent}
use Rattle.pp_lexer.specs.declared.rules.Rules.{Rules}
use Rattle.pp_lexer.specs.declared.token.Integer.{Integer as IntegerLiteral}
use Rattle.pp_lexer.specs.declared.token.TokenValue.{TokenValue}
use Rattle.pp_lexer.specs.declared.token.TokenValue.TheVariants.{Ident, Float}
use Rattle.pp_lexer.specs.Respelling.{IsSpellableBy, IsSpelled}
use Rattle.pp_lexer.specs.Spelling.{integer_letters, integer_literal, float_literal, spelling}
use Rattle.pp_lexer.proofs.spelling.RespellingLemmas.{read_back}
use Rattle.pp_lexer.proofs.spelling.SpelledValuesLemmas.{values_spelled}
use Rattle.glslpp_parts.specs.Reading.{IsReadAs}

pub spelled_read : (rules : Rules) (value : TokenValue) (text : List ℕ) → IsUtf8 text → chars text ≡ spelling value → IsSpellableBy rules value
    → IsReadAs rules value text
spelled_read rules value text u e h =
    let back : IsReadAs rules value (encodes (spelling value)) =
    read_back rules (value ∷ []) (All-cons (IsSpellableBy rules) value [] h (All-nil (IsSpellableBy rules))) in
    subst (IsReadAs rules value) (ap encodes (sym e) ∙ encodes-chars text u) back

-- a name is one by all rules
pub name_read : (first second : Rules) (text : List ℕ) → IsUtf8 text → IsReadAs first (Ident (chars text)) text
    → IsReadAs second (Ident (chars text)) text
name_read first second text u h =
    spelled_read second (Ident (chars text)) text u refl
    (All-head (IsSpelled first) (Ok (LexerIdent (chars text))) (Ok NewLine ∷ []) (subst (All (IsSpelled first)) h (values_spelled first text u)))

-- a signed number of 32 bits is its digits
pub signed_literal : (i : IntegerLiteral) → i.signed ≡ true → i.width ≡ pos 32 → integer_literal i ≡ decimal i.value
signed_literal i e w =
    ap (λ signed. decimal i.value ++ integer_letters signed i.width) e ∙ ap (λ width. decimal i.value ++ integer_letters true width) w
    ∙ append-nil (decimal i.value)

-- a float of 32 bits is its text
pub usual_float : (text : List ℕ) (width : ℤ) → width ≡ pos 32 → float_literal text width ≡ text
usual_float text width w = ap (float_literal text) w ∙ append-nil text

-- so its text is read as the float
pub float_read : (rules : Rules) (digits text : List ℕ) (width : ℤ) → IsUtf8 text → text ≡ digits → width ≡ pos 32
    → IsSpellableBy rules (Float (record { text = chars digits; width = width }))
    → IsReadAs rules (Float (record { text = chars digits; width = width })) text
float_read rules digits text width u same w h =
    spelled_read rules (Float (record { text = chars digits; width = width })) text u
    (ap chars same ∙ sym (usual_float (chars digits) width w)) h
