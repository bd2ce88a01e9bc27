-- A plain text whose words are no errors, whatever they are.
use Rattle.std.specs.Prelude.{◌≡◌, ◌≢◌, ℕ, zero, suc, ◌+◌, ◌-◌, ◌<◌, ◌≤◌, Bool, true, false, not, ◌||◌, ◌&&◌, ◌==◌}
use Rattle.std.specs.Prelude.{List, drop, length, get_or, nat_lt, is_some, if◌then◌else◌}
use Rattle.pp_lexer.specs.declared.lexer.item.TokenValue.{TokenValue}
use Rattle.pp_lexer.specs.declared.lexer.item.TokenValue.TheVariants.{Hash as HashValue}
use Rattle.pp_lexer.specs.declared.lexer.plain.Form.{Form}
use Rattle.pp_lexer.specs.declared.lexer.plain.Form.TheVariants.{Hash}
use Rattle.pp_lexer.specs.declared.lexer.plain.words.Words.{Words}
use Rattle.pp_lexer.specs.Numbers.{is_decimal, is_point}
use Rattle.pp_lexer.specs.inner.PlainWords.{begins, continues, single, is_lone, IsPlainWord}

-- an ASCII byte that may stand after any: a letter, a space or a tab, or a punctuator that begins no comment
abbrev pub is_free : ℕ → Bool
is_free c = nat_lt c 128 && (begins c || ((c == 32) || ((c == 9) || (is_some (single c) && not (c == 47)))))

-- such a byte, a newline or a digit
abbrev pub is_tame : ℕ → Bool
is_tame c = nat_lt c 128 && (is_free c || ((c == 10) || is_decimal c))

-- the first `n` bytes are such bytes, and a digit is one only within an identifier
pub record IsTameFront (text : List ℕ) (n : ℕ) : Type 0 where
  pub within : n ≤ length text
  pub tame : (k : ℕ) → k < n → is_tame (get_or text k 0) ≡ true
  pub digits : (k : ℕ) → k < n → is_decimal (get_or text k 0) ≡ true
      → (0 < k) × (continues (get_or text (k - 1) 0) ≡ true)

-- whatever word the first of these two bytes ends, it doesn't go on with the second
abbrev pub parts : ℕ → ℕ → Bool
parts c d = is_lone d || (continues d && not (continues c || is_point c))

-- and the words in these bytes end before what follows
pub record IsTame (text : List ℕ) (n : ℕ) : Type 0 where
  pub front : IsTameFront text n
  pub more : n < length text
  pub ends : 0 < n → parts (get_or text (n - 1) 0) (get_or text n 0) ≡ true

-- a number begins at this byte, whatever stands before it
pub record BeginsNumber (text : List ℕ) (n : ℕ) : Type 0 where
  pub within : n < length text
  pub digit : is_decimal (get_or text n 0) ≡ true
  pub before : 0 < n → (continues (get_or text (n - 1) 0) || is_point (get_or text (n - 1) 0)) ≡ false

-- a word begins at this byte, whatever stands before it: a punctuator that begins no other, or an identifier
pub record BeginsLast (text : List ℕ) (n : ℕ) : Type 0 where
  pub start : (is_lone (get_or text n 0) || begins (get_or text n 0)) ≡ true
  pub before : is_lone (get_or text n 0) ≡ false → 0 < n
      → (continues (get_or text (n - 1) 0) || is_point (get_or text (n - 1) 0)) ≡ false

-- a digit is at this byte, within an identifier
pub record IsInnerDigit (text : List ℕ) (n : ℕ) : Type 0 where
  pub some : 0 < n
  pub digit : is_decimal (get_or text n 0) ≡ true
  pub after : continues (get_or text (n - 1) 0) ≡ true

-- the word is a `#`
abbrev pub is_hash_form : Form → Bool
is_hash_form Hash = true
is_hash_form _ = false

-- how many newlines are among the first `n` bytes
abbrev pub feeds : List ℕ → ℕ → ℕ
feeds text zero = zero
feeds text (suc n) = feeds text n + (if get_or text n 0 == 10 then 1 else 0)

-- such bytes are at the front, with a word after them that is no `#`
pub record ArePlainWords (text : List ℕ) (words : Words) : Type 0 where
  pub tame : IsTame text words.before
  pub newlines : words.newlines ≡ feeds text words.before
  pub value : TokenValue
  pub no_hash : value ≢ HashValue
  pub word : IsPlainWord (drop words.before text) value words.taken
