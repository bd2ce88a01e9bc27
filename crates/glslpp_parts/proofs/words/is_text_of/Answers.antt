use Rattle.std.proofs.Common.{◌≡◌, ◌∙◌, ap, sym, rules}
use Rattle.std.specs.Cmp.Lexicographic.{bytes_decides}
use Rattle.std.specs.Str.{chars}
use Rattle.pp_lexer.specs.declared.token.TokenValue.TheVariants.{Ident, Integer, Float, Punct}
use Rattle.pp_rs.proofs.runs.SpellingLemmas.{chars-punctuator, chars-decimal}
use Rattle.glslpp_parts.proofs.SpelledLemmas.{spelled_read, signed_literal, usual_float}
use Rattle.glslpp_parts.proofs.words.is_text_of.Goals as goal

pub returns-in-Ident : goal.returns-in-Ident
returns-in-Ident c =
    rw c.in-Ident.is
    (λ h. let same : c.in-Ident.name.now ≡ c.args.word.now = (bytes_decides c.in-Ident.name.now c.args.word.now).0 (sym c.eq.ensures ∙ h) in
    spelled_read c.args.rules (Ident (chars c.in-Ident.name.now)) c.args.word.now c.utf8.word (ap chars (sym same)))

pub returns-in-Punct : goal.returns-in-Punct
returns-in-Punct c =
    rw c.in-Punct.is
    (λ h. let same : c.spelling.result.now ≡ c.args.word.now = (bytes_decides c.spelling.result.now c.args.word.now).0 (sym c.eq-in-Punct.ensures ∙ h) in
    spelled_read c.args.rules (Punct c.in-Punct.punct) c.args.word.now c.utf8.word (ap chars (sym same ∙ c.spelling.ensures) ∙ chars-punctuator c.in-Punct.punct))

pub returns-in-Integer : goal.returns-in-Integer
returns-in-Integer c =
    rw c.in-Integer.is
    (λ _ h. spelled_read c.args.rules (Integer c.in-Integer.integer) c.args.word.now c.utf8.word
    (ap chars (sym c.as_bytes.ensures.value ∙ c.is_decimal.ensures c.if-is_decimal.true) ∙ chars-decimal c.in-Integer.integer.value h.0
    ∙ sym (signed_literal c.in-Integer.integer c.if-integer.true (search rules))) h)

pub returns-in-Float : goal.returns-in-Float
returns-in-Float c =
    rw c.in-Float.is (λ _ h.
    let known = (bytes_decides _ c.args.word.now).0 (sym c.eq-then-width-eq32.ensures ∙ c.if-eq.true) in
    let same : c.in-Float.text.now ≡ c.args.word.now = cc in
    spelled_read c.args.rules (Float (record { text = chars c.in-Float.text.now; width = c.in-Float.width })) c.args.word.now c.utf8.word
    (ap chars (sym same) ∙ sym (usual_float (chars c.in-Float.text.now) c.in-Float.width (search rules))) h)
