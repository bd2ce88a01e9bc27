-- The text of items, as it grows item by item.
use Rattle.std.proofs.Common.{◌≡◌, ℕ, ◌+◌, ◌<◌, ◌≤◌, Bool, true, false, List, [], ◌∷◌, ◌++◌, Some, None, length, drop, get_or, append_assoc, refl, sym, ap, ◌∙◌}
use Rattle.std.specs.List.{flat_map}
use Rattle.std.specs.Str.{encode_utf8_all}
use Rattle.std.proofs.lemmas.List.{append-nil, at_drop_more, at_drop_all}
use Rattle.pp_lexer.specs.ItemText.{item_text, with_tokens}
use Rattle.pp_lexer.specs.Preorder.{preorder}
use Rattle.pp_lexer.specs.Spelling.{spelling, spelled_text, values_of}
use Rattle.pp_lexer.specs.TokenValue.{is_ordinary}
use Rattle.pp_lexer.specs.declared.token.Token.{Token}
use Rattle.pp_lexer.specs.declared.token.TokenValue.{TokenValue}
use Rattle.pp_lexer.specs.declared.token.TokenValue.TheVariants.{Ident, Integer, Float, Punct, Version, Extension, Pragma}
use Rattle.pp_lexer.proofs.spelling.ItemTextLemmas.{token_word, words_of_entries}
use Rattle.pp_rs.specs.Output.{written_lines, output}
use Rattle.pp_rs.specs.inner.ItemsText.{item_piece, pieces}
use Rattle.pp_rs.specs.inner.OutputLines.{lines_from}
use Rattle.pp_rs.proofs.OutputLemmas.{output_lines-from}

-- tokens after a space each are a space and their text
words_spelled : (t : Token) (ts : List Token) → flat_map token_word (t ∷ ts) ≡ 32 ∷ spelled_text (values_of (t ∷ ts))
words_spelled t [] = append-nil (32 ∷ spelling t.value)
words_spelled t (u ∷ us) = ap (λ rest. (32 ∷ spelling t.value) ++ rest) (words_spelled u us)

-- so are the tokens of a directive
pub held_tokens_spelled : (word : List ℕ) (t : Token) (ts : List Token)
    → with_tokens word (preorder (t ∷ ts)) ≡ word ++ (32 ∷ spelled_text (values_of (t ∷ ts)))
held_tokens_spelled word t ts = ap (λ rest. word ++ rest) (words_of_entries (t ∷ ts) ∙ words_spelled t ts)

-- an ordinary token's text is its spelling
ordinary_text : (value : TokenValue) → is_ordinary value ≡ true → item_text value ≡ spelling value
ordinary_text (Ident _) e = refl
ordinary_text (Integer _) e = refl
ordinary_text (Float _) e = refl
ordinary_text (Punct _) e = refl
ordinary_text (Version _) e = absurd cc
ordinary_text (Extension _) e = absurd cc
ordinary_text (Pragma _) e = absurd cc

-- the lines of tokens as one text, after a line that has been begun and without one
abbrev AreLines : List Token → Type 0
AreLines ts = ((begun : List ℕ) → written_lines (lines_from (Some begun) ts) ≡ begun ++ pieces true ts)
    × (written_lines (lines_from None ts) ≡ pieces false ts)

lines_with : (t : Token) (ts : List Token) (b : Bool) → is_ordinary t.value ≡ b → AreLines ts → AreLines (t ∷ ts)
lines_with t ts true e (after, alone) =
    let word = encode_utf8_all (spelling t.value) in (
      λ begun. rw (e, ordinary_text t.value e, append-nil word) (after (begun ++ (32 ∷ word)) ∙ append_assoc begun (32 ∷ word) (pieces true ts)),
      rw (e, ordinary_text t.value e, append-nil word) (after word),
    )
lines_with t ts false e (after, alone) =
    let text = encode_utf8_all (item_text t.value) in (
      λ begun. rw e (ap (λ rest. (begun ++ (10 ∷ [])) ++ ((text ++ (10 ∷ [])) ++ rest)) alone
          ∙ append_assoc begun (10 ∷ []) ((text ++ (10 ∷ [])) ++ pieces false ts)),
      rw e (ap (λ rest. (text ++ (10 ∷ [])) ++ rest) alone),
    )

are_lines : (ts : List Token) → AreLines ts
are_lines [] = (λ begun. append-nil (begun ++ (10 ∷ [])), refl)
are_lines (t ∷ ts) = lines_with t ts (is_ordinary t.value) refl (are_lines ts)

-- the pieces of items are their lines
pub pieces_output : (ts : List Token) → pieces false ts ≡ output ts
pieces_output ts = sym (ap written_lines (output_lines-from ts) ∙ (are_lines ts).1)

-- a text to which the items are added one by one
module _ (whole text : List ℕ) (in_line : Bool) (ts : List Token) (i : ℕ) (so_far : text ++ pieces in_line (drop i ts) ≡ whole) where
  pub one_more_item : (new : List ℕ) (t : Token) (next : Bool) → i < length ts → t ≡ get_or ts i t → new ≡ text ++ item_piece in_line t.value
      → next ≡ is_ordinary t.value → new ++ pieces next (drop (i + 1) ts) ≡ whole
  one_more_item new t next low is e n =
      rw (e, n) (append_assoc text (item_piece in_line t.value) (pieces (is_ordinary t.value) (drop (i + 1) ts))
      ∙ ap (λ rest. text ++ rest) (sym (at_drop_more (λ xs. pieces in_line xs) ts i t low
      ∙ ap (λ (x : Token). item_piece in_line x.value ++ pieces (is_ordinary x.value) (drop (i + 1) ts)) (sym is))) ∙ so_far)

  pub all_items : length ts ≤ i → text ++ pieces in_line [] ≡ whole
  all_items high = ap (λ rest. text ++ rest) (sym (at_drop_all (λ xs. pieces in_line xs) ts i high)) ∙ so_far
