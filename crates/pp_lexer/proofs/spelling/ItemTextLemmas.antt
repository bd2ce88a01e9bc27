-- The text of an item, as it is written piece by piece.
use Rattle.std.proofs.Common.{◌≡◌, ℕ, ℤ, pos, ◌^◌, ◌<◌, Bool, true, false, if◌then◌else◌, List, [], ◌∷◌, ◌++◌, filter, codes, get_or, length, take, ◌+◌, refl, sym, ap, ◌∙◌, lit<, arith}
use Rattle.std.specs.Fmt.{decimal}
use Rattle.std.specs.List.{flat_map}
use Rattle.std.specs.Ordering.{int_eq}
use Rattle.std.specs.Str.{chars, encode_utf8_all, IsUtf8, IsAscii}
use Rattle.std.proofs.lemmas.Fmt.{IsAscii-decimal}
use Rattle.std.proofs.lemmas.List.{flat_map_more, take_more}
use Rattle.std.proofs.lemmas.Str.{encodes-append, encodes-chars, encodes-IsAscii, encode_ascii, IsAscii-append}
use Rattle.std.proofs.lemmas.Str.Ascii.{IsAscii-nil, IsAscii-cons}
use Rattle.pp_lexer.specs.Entry.{Entry, is_outermost}
use Rattle.pp_lexer.specs.ItemText.{leaf_spelling, with_tokens}
use Rattle.pp_lexer.specs.Preorder.{leaf_of, inner, preorder}
use Rattle.pp_lexer.specs.Punctuators.{punctuator}
use Rattle.pp_lexer.specs.Spelling.{width_letters, integer_letters, integer_literal, float_literal, spelling}
use Rattle.pp_lexer.specs.declared.token.Integer.{Integer as IntegerLiteral}
use Rattle.pp_lexer.specs.declared.token.Punct.{Punct as Punctuator}
use Rattle.pp_lexer.specs.declared.token.Punct.TheVariants.{AddAssign}
use Rattle.pp_lexer.specs.declared.token.Token.{Token}
use Rattle.pp_lexer.specs.declared.token.TokenValue.{TokenValue}
use Rattle.pp_lexer.proofs.values.PreorderLemmas.{none_kept}

-- a punctuator is ASCII, and its bytes are its characters
pub punctuator_bytes : (p : Punctuator) → encode_utf8_all (punctuator p) ≡ punctuator p
unfolding lib.Utf8.encode
punctuator_bytes AddAssign = refl
punctuator_bytes _ = refl

-- so it is with the letters of a width
letters_ascii : (long short : List ℕ) (width : ℤ) → IsAscii long → IsAscii short → IsAscii (width_letters long short width)
letters_ascii long short width h k = by (int_eq width (pos 64)) (int_eq width (pos 16))
  where
    by : (a b : Bool) → IsAscii (if a then long else if b then short else [])
    by true b = h
    by false true = k
    by false false = IsAscii-nil

one_ascii : (c : ℕ) → c < 128 → IsAscii (c ∷ [])
one_ascii c h = IsAscii-cons c [] h IsAscii-nil

two_ascii : (c d : ℕ) → c < 128 → d < 128 → IsAscii (c ∷ d ∷ [])
two_ascii c d h k = IsAscii-cons c (d ∷ []) h (one_ascii d k)

-- with those of an integer
pub integer_letters_ascii : (signed : Bool) (width : ℤ) → IsAscii (integer_letters signed width)
integer_letters_ascii signed width = by signed
    (letters_ascii (codes "l") (codes "s") width (one_ascii 108 (omega arith)) (one_ascii 115 (omega arith)))
  where
    by : (signed : Bool) → IsAscii (width_letters (codes "l") (codes "s") width) → IsAscii (integer_letters signed width)
    by true h = h
    by false h = IsAscii-cons 117 (width_letters (codes "l") (codes "s") width) (omega arith) h

pub integer_bytes : (i : IntegerLiteral) → i.value < 2 ^ 64
    → decimal i.value ++ integer_letters i.signed i.width ≡ encode_utf8_all (integer_literal i)
integer_bytes i fits =
    sym (encodes-IsAscii (integer_literal i)
    (IsAscii-append (decimal i.value) (integer_letters i.signed i.width) (IsAscii-decimal i.value fits) (integer_letters_ascii i.signed i.width)))

-- and with those after the text of a float
pub float_letters_ascii : (width : ℤ) → IsAscii (width_letters (codes "lf") (codes "hf") width)
float_letters_ascii width =
    letters_ascii (codes "lf") (codes "hf") width (two_ascii 108 102 (omega arith) (omega arith)) (two_ascii 104 102 (omega arith) (omega arith))

pub float_bytes : (text : List ℕ) (width : ℤ)
    → encode_utf8_all text ++ width_letters (codes "lf") (codes "hf") width ≡ encode_utf8_all (float_literal text width)
float_bytes text width =
    let letters = width_letters (codes "lf") (codes "hf") width in
    sym (encodes-append text letters
    ∙ ap (λ bytes. encode_utf8_all text ++ bytes)
    (encodes-IsAscii letters (float_letters_ascii width)))

-- the entry of a token is spelled as the token is
pub leaf_spelled : (value : TokenValue) → leaf_spelling (leaf_of value) ≡ spelling value
leaf_spelled value = grind arith

abbrev pub entry_word : Entry → List ℕ
entry_word e = 32 ∷ leaf_spelling e.leaf

abbrev pub token_word : Token → List ℕ
token_word t = 32 ∷ spelling t.value

-- each token of a list after a space, as characters
pub words_of_entries : (ts : List Token) → flat_map entry_word (filter is_outermost (preorder ts)) ≡ flat_map token_word ts
words_of_entries [] = refl
words_of_entries (t ∷ ts) =
    rw (none_kept (inner t.value) ts, leaf_spelled t.value) (ap (λ rest. (32 ∷ spelling t.value) ++ rest) (words_of_entries ts))

-- each token of a list after a space, as bytes
abbrev pub token_bytes : Token → List ℕ
token_bytes t = 32 ∷ encode_utf8_all (spelling t.value)

-- a space and the text after it
pub spaced : (text : List ℕ) → encode_utf8_all (32 ∷ text) ≡ 32 ∷ encode_utf8_all text
spaced text = ap (λ space. space ++ encode_utf8_all text) (encode_ascii 32 (lit< tt))

bytes_of_words : (ts : List Token) → encode_utf8_all (flat_map token_word ts) ≡ flat_map token_bytes ts
bytes_of_words [] = refl
bytes_of_words (t ∷ ts) = grind (arith, encodes-append, spaced, bytes_of_words ts)

-- a directive's word, and each of its tokens after a space
pub directive_bytes : (word : List ℕ) (ts : List Token) (entries : List Entry) → IsUtf8 word → preorder ts ≡ entries
    → word ++ flat_map token_bytes ts ≡ encode_utf8_all (with_tokens (chars word) entries)
directive_bytes word ts entries u e = grind (arith, encodes-append, encodes-chars, words_of_entries, bytes_of_words)

-- one more of the tokens after a space
pub one_more : (word : List ℕ) (ts : List Token) (i : ℕ) (t : Token) → i < length ts → t ≡ get_or ts i t
    → (word ++ flat_map token_bytes (take i ts)) ++ ((32 ∷ []) ++ encode_utf8_all (spelling t.value)) ≡ word ++ flat_map token_bytes (take (i + 1) ts)
one_more word ts i t low is = flat_map_more token_bytes word (take i ts) t
    ∙ ap (λ x. word ++ flat_map token_bytes (take i ts ++ (x ∷ []))) is
    ∙ ap (λ front. word ++ flat_map token_bytes front) (sym (take_more ts i t low))
