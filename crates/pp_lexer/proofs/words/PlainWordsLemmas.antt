-- Words at the front of a plain text, by the byte after them, and identifiers.
use Rattle.std.proofs.Common.{◌≡◌, ℕ, zero, suc, ◌<◌, ◌≤◌, List, [], ◌∷◌, ◌++◌, length, take, drop, get_or, Bool, true, false, ◌&&◌, ◌||◌, ◌==◌, refl, sym, ◌∙◌, ap, arith, Ok}
use Rattle.std.specs.List.{list_all}
use Rattle.std.specs.Str.{IsUtf8, IsAscii, IsCharBoundary}
use Rattle.std.proofs.lemmas.Bool.{and_parts, false≢true}
use Rattle.std.proofs.lemmas.Bool.Decides.{nat_tests}
use Rattle.std.proofs.lemmas.List.{length-take-le}
use Rattle.std.proofs.lemmas.Str.{IsUtf8-drop}
use Rattle.unicode_ident.specs.Ident.{is_xid_continue}
use Rattle.unicode_ident.proofs.IdentLemmas.{is_xid_start-ascii, is_xid_continue-ascii}
use Rattle.pp_lexer.specs.declared.rules.Rules.{Rules}
use Rattle.pp_lexer.specs.declared.lexer.item.TokenValue.{TokenValue}
use Rattle.pp_lexer.specs.declared.lexer.item.TokenValue.TheVariants.{Ident}
use Rattle.pp_lexer.specs.inner.Fronts.{spots_from, is_plain}
use Rattle.pp_lexer.specs.Identifiers.{is_start}
use Rattle.pp_lexer.specs.inner.PlainWords.{is_newline_value, begins, continues, Stops, IsFront, IsPlainWord}
use Rattle.pp_lexer.specs.Reading.{letters}
use Rattle.pp_lexer.specs.Surroundings.{begins_with}
use Rattle.pp_lexer.specs.Words.{is_blank, word_at}
use Rattle.pp_lexer.proofs.characters.FrontsLemmas.{plain_parts}
use Rattle.pp_lexer.proofs.words.IdentifiersLemmas.{longest_identifier}
use Rattle.pp_lexer.proofs.characters.PlainFrontsLemmas.{all_plain, plain_ascii, cut_after_plain, letters-run, after_is_not, front_len-append, take_seam, drop_some, get_or-drop, front_of, front_plain}
use Rattle.pp_lexer.proofs.words.WordAtLemmas.{identifier_first}

-- a word at the front of each text that begins so
pub word_always : (text : List ℕ) (n : ℕ) (value : TokenValue) → 0 < n → n ≤ length text → IsCharBoundary text n → IsAscii (take n text)
    → IsFront text n → is_blank (get_or text 0 0) ≡ false → is_newline_value value ≡ false
    → ((rules : Rules) (line at : ℕ)
    → word_at rules (take n text ++ letters (spots_from line at (drop n text))) ≡ record { value = Ok value; taken = n }) → IsPlainWord text value n
word_always text n value some le cut ascii front blank newline word = grind (arith, letters-run)

-- a word that ends before each character which fails
module _ (P : ℕ → Bool) (feed : P 10 ≡ false) (mark : P 13 ≡ false) (text : List ℕ) (n : ℕ) (u : IsUtf8 text) (some : 0 < n) (le : n ≤ length text)
    (stops : Stops P text n) where
  ends_there : (line at : ℕ) → IsCharBoundary text n → begins_with P (letters (spots_from line at (drop n text))) ≡ false
  ends_there line at cut = grind (arith, get_or-drop, drop_some, after_is_not, IsUtf8-drop)

  pub word_before : (value : TokenValue) → IsCharBoundary text n → IsAscii (take n text) → IsFront text n → is_blank (get_or text 0 0) ≡ false
      → is_newline_value value ≡ false
      → ((rules : Rules) (cs : List ℕ) → begins_with P cs ≡ false → word_at rules (take n text ++ cs) ≡ record { value = Ok value; taken = n })
      → IsPlainWord text value n
  word_before value cut ascii front blank newline word =
      word_always text n value some le cut ascii front blank newline
      (λ rules line at. word rules (letters (spots_from line at (drop n text))) (ends_there line at cut))

  -- one whose bytes no phase looks at
  pub plain_before : (value : TokenValue) → list_all is_plain (take n text) ≡ true → is_blank (get_or text 0 0) ≡ false → is_newline_value value ≡ false
      → ((rules : Rules) (cs : List ℕ) → begins_with P cs ≡ false → word_at rules (take n text ++ cs) ≡ record { value = Ok value; taken = n })
      → IsPlainWord text value n
  plain_before value plain =
      word_before value (cut_after_plain n text u some le plain) (plain_ascii (take n text) plain) (front_plain n text u le plain)

-- Identifiers

pub continues_plain : (b : ℕ) → continues b ≡ true → is_plain b ≡ true
continues_plain b h = grind (arith, nat_tests)

begins_continues : (b : ℕ) → begins b ≡ true → continues b ≡ true
begins_continues b h = grind arith

begins_no_blank : (b : ℕ) → begins b ≡ true → is_blank b ≡ false
begins_no_blank b h = grind arith

begins_start : (b : ℕ) → begins b ≡ true → is_start b ≡ true
begins_start b h = ap (λ t. t || (b == 95)) (is_xid_start-ascii b (plain_parts b (continues_plain b (begins_continues b h))).small) ∙ h

all_continue : (w : List ℕ) → list_all continues w ≡ true → list_all is_xid_continue w ≡ true
all_continue [] h = refl
all_continue (c ∷ w) h =
    let b = and_parts (continues c) (list_all continues w) h in
    let k : is_xid_continue c ≡ true = is_xid_continue-ascii c (plain_parts c (continues_plain c b.0)).small ∙ b.0 in
    ap (λ t. t && list_all is_xid_continue w) k ∙ all_continue w b.1

-- an identifier and what does not continue it
identifier_at : (rules : Rules) (c : ℕ) (w cs : List ℕ) → begins c ≡ true → list_all continues w ≡ true → begins_with is_xid_continue cs ≡ false
    → word_at rules ((c ∷ w) ++ cs) ≡ record { value = Ok (Ident (c ∷ w)); taken = suc (length w) }
identifier_at rules c w cs b h k = grind (arith, begins_start, longest_identifier, front_len-append, all_continue, identifier_first, take_seam)

identifier_of : (rules : Rules) (c : ℕ) (w v cs : List ℕ) (n : ℕ) → v ≡ c ∷ w → length v ≡ n → begins c ≡ true → list_all continues v ≡ true
    → begins_with is_xid_continue cs ≡ false
    → word_at rules (v ++ cs) ≡ record { value = Ok (Ident v); taken = n }
identifier_of rules c w v cs n e l b h k = grind (arith, identifier_at)

-- an identifier has a character
continued_some : (n : ℕ) (text : List ℕ) → 0 < length text → begins (get_or text 0 0) ≡ true → (n < length text → continues (get_or text n 0) ≡ false) → 0 < n
continued_some zero text some b stops = absurd (false≢true (sym (stops some) ∙ begins_continues (get_or text 0 0) b))
continued_some (suc n) text some b stops = omega arith

pub plain_identifier : (text : List ℕ) (n : ℕ) → IsUtf8 text → n ≤ length text → 0 < length text → begins (get_or text 0 0) ≡ true
    → list_all continues (take n text) ≡ true
    → (n < length text → continues (get_or text n 0) ≡ false) → Stops (λ _. false) text n → IsPlainWord text (Ident (take n text)) n
plain_identifier text n u le some b passes stops ends =
    let more : 0 < n = continued_some n text some b stops in
    let stopped : Stops is_xid_continue text n = λ l. ((ends l).0, (ends l).1, is_xid_continue-ascii (get_or text n 0) (ends l).0 ∙ stops l) in
    plain_before is_xid_continue (is_xid_continue-ascii 10 (omega arith)) (is_xid_continue-ascii 13 (omega arith)) text n u more le stopped
    (Ident (take n text))
    (all_plain continues continues_plain (take n text) passes) (begins_no_blank (get_or text 0 0) b) refl
    (λ rules cs k. identifier_of rules (get_or text 0 0) (drop 1 (take n text)) (take n text) cs n (front_of n text more some)
    (length-take-le n text le) b passes k)
