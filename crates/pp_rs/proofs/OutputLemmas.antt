-- The lines of tokens, made token by token.
use Rattle.std.proofs.Common.{◌≡◌, ℕ, Bool, true, false, if◌then◌else◌, List, [], ◌∷◌, ◌++◌, map, Some, None, refl, sym, ap, ◌∙◌, append_assoc}
use Rattle.std.specs.Str.{encode_utf8_all}
use Rattle.std.proofs.lemmas.Str.{encodes-append}
use Rattle.pp_lexer.specs.Spelling.{spelling, spelled_text, values_of}
use Rattle.pp_lexer.specs.TokenValue.{is_ordinary}
use Rattle.pp_lexer.specs.declared.token.Token.{Token}
use Rattle.pp_lexer.specs.ItemText.{item_text}
use Rattle.pp_lexer.proofs.spelling.ItemTextLemmas.{spaced}
use Rattle.pp_rs.specs.Output.{begins_ordinary, put_before, lines_of, line_text, output_lines}
use Rattle.pp_rs.specs.inner.OutputLines.{lines_from}

abbrev bytes_of : List Token → List ℕ
bytes_of line = encode_utf8_all (line_text line)

abbrev word_of : Token → List ℕ
word_of t = encode_utf8_all (spelling t.value)

-- the lines' bytes, the first of them after a line that has been begun: with a space where both are of ordinary tokens
abbrev after_line : List ℕ → List (List Token) → List (List ℕ)
after_line begun [] = begun ∷ []
after_line begun (line ∷ lines) =
    if begins_ordinary line then (begun ++ (32 ∷ bytes_of line)) ∷ map bytes_of lines else begun ∷ bytes_of line ∷ map bytes_of lines

-- an ordinary token in front of others
in_front : (t u : Token) (us : List Token) → encode_utf8_all (spelled_text (values_of (t ∷ u ∷ us))) ≡ word_of t ++ (32 ∷ encode_utf8_all
    (spelled_text (values_of (u ∷ us))))
in_front t u us = encodes-append (spelling t.value) (32 ∷ spelled_text (values_of (u ∷ us)))
    ∙ ap (λ rest. word_of t ++ rest) (spaced (spelled_text (values_of (u ∷ us))))

module _ (t : Token) (ordinary : is_ordinary t.value ≡ true) where
  begins_at : (u : Token) (us : List Token) (lines : List (List Token)) (b : Bool) → is_ordinary u.value ≡ b
      → after_line (word_of t) ((u ∷ us) ∷ lines) ≡ map bytes_of (put_before t ((u ∷ us) ∷ lines))
  begins_at u us lines true e = simp (ordinary, e) (ap (λ line. line ∷ map bytes_of lines) (sym (in_front t u us)))
  begins_at u us lines false e = simp (ordinary, e)

  -- it begins a line
  begins : (lines : List (List Token)) → after_line (word_of t) lines ≡ map bytes_of (put_before t lines)
  begins [] = simp ordinary
  begins ([] ∷ lines) = simp ordinary
  begins ((u ∷ us) ∷ lines) = begins_at u us lines (is_ordinary u.value) refl

  goes_on_at : (begun : List ℕ) (u : Token) (us : List Token) (lines : List (List Token)) (b : Bool) → is_ordinary u.value ≡ b
      → after_line (begun ++ (32 ∷ word_of t)) ((u ∷ us) ∷ lines) ≡ after_line begun (put_before t ((u ∷ us) ∷ lines))
  goes_on_at begun u us lines true e =
      let rest = encode_utf8_all (spelled_text (values_of (u ∷ us))) in
      simp (ordinary, e)
      (ap (λ line. line ∷ map bytes_of lines) (append_assoc begun (32 ∷ word_of t) (32 ∷ rest) ∙ ap (λ line. begun ++ (32 ∷ line)) (sym (in_front t u us))))
  goes_on_at begun u us lines false e = simp (ordinary, e)

  -- or it goes on with the line that has been begun
  goes_on : (begun : List ℕ) (lines : List (List Token)) → after_line (begun ++ (32 ∷ word_of t)) lines ≡ after_line begun (put_before t lines)
  goes_on begun [] = simp ordinary
  goes_on begun ([] ∷ lines) = simp ordinary
  goes_on begun ((u ∷ us) ∷ lines) = goes_on_at begun u us lines (is_ordinary u.value) refl

module _ (t : Token) (directive : is_ordinary t.value ≡ false) where
  -- an item that is no ordinary token is a line by itself
  stands : (lines : List (List Token)) → map bytes_of (put_before t lines) ≡ encode_utf8_all (item_text t.value) ∷ map bytes_of lines
  stands [] = simp directive
  stands (line ∷ lines) = simp directive

  -- and ends the line that has been begun
  ends : (begun : List ℕ) (lines : List (List Token)) → after_line begun (put_before t lines) ≡ begun ∷ encode_utf8_all
      (item_text t.value) ∷ map bytes_of lines
  ends begun [] = simp directive
  ends begun (line ∷ lines) = simp directive

-- the lines of tokens, after a line that has been begun and without one
abbrev LinesCome : List Token → Type 0
LinesCome ts = ((begun : List ℕ) → lines_from (Some begun) ts ≡ after_line begun (lines_of ts)) × (lines_from None ts ≡ output_lines ts)

come_with : (t : Token) (ts : List Token) (b : Bool) → is_ordinary t.value ≡ b → LinesCome ts → LinesCome (t ∷ ts)
come_with t ts true e (after, alone) = (
  λ begun. rw e (after (begun ++ (32 ∷ word_of t)) ∙ goes_on t e begun (lines_of ts)),
  rw e (after (word_of t) ∙ begins t e (lines_of ts)),
)
come_with t ts false e (after, alone) =
    let text = encode_utf8_all (item_text t.value) in (
      λ begun. rw e (ap (λ lines. begun ∷ text ∷ lines) alone ∙ sym (ends t e begun (lines_of ts))),
      rw e (ap (λ lines. text ∷ lines) alone ∙ sym (stands t e (lines_of ts))),
    )

lines_come : (ts : List Token) → LinesCome ts
lines_come [] = (λ begun. refl, refl)
lines_come (t ∷ ts) = come_with t ts (is_ordinary t.value) refl (lines_come ts)

-- the lines of tokens come of the tokens one by one
pub output_lines-from : (ts : List Token) → output_lines ts ≡ lines_from None ts
output_lines-from ts = sym ((lines_come ts).1)
