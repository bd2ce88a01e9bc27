-- An identifier, a number or a punctuator with a space or the end after it is the word that stands there.
use Rattle.std.proofs.Common.{◌≡◌, ℕ, ◌<◌, List, [], ◌∷◌, ◌++◌, length, take, Bool, true, false, refl, sym, ◌∙◌, ap, subst, arith, Ok, Option, Some, None, is_some, option_map, if◌then◌else◌}
use Rattle.std.specs.List.{list_all}
use Rattle.std.proofs.lemmas.Bool.{or_right, false≢true}
use lib.Pointwise.{bytes_decides}
use Rattle.unicode_ident.specs.Ident.{is_xid_continue}
use Rattle.unicode_ident.proofs.IdentLemmas.{is_xid_continue-ascii}
use Rattle.pp_lexer.specs.declared.rules.Rules.{Rules}
use Rattle.pp_lexer.specs.declared.token.Punct.{Punct as Punctuator}
use Rattle.pp_lexer.specs.declared.token.Punct.TheVariants.{AddAssign}
use Rattle.pp_lexer.specs.declared.lexer.item.TokenValue.TheVariants.{Hash, Ident, Punct}
use Rattle.pp_lexer.specs.Identifiers.{is_start, is_identifier, begins_identifier}
use Rattle.pp_lexer.specs.Longest.{longest}
use Rattle.pp_lexer.specs.Numbers.{is_decimal, is_number, begins_number}
use Rattle.pp_lexer.specs.NumberValue.{number_outcome, number_at}
use Rattle.pp_lexer.specs.Punctuators.{punctuator, punct_of, is_hash, is_punctuator, is_punctuation, punctuation_value, punctuation_outcome, punctuation_at}
use Rattle.pp_lexer.specs.Surroundings.{begins_with}
use Rattle.pp_lexer.specs.Words.{word_at}
use Rattle.pp_lexer.specs.inner.Words.{is_line_end}
use Rattle.pp_lexer.proofs.words.SetsLemmas.{Lacks, is_other, missing, union_part, made_nothing, made_one, made_many}
use Rattle.pp_lexer.proofs.words.BoundedLemmas.{EndsBefore, longest_before, taken_before, after_before}
use Rattle.pp_lexer.proofs.numbers.NumberSetsLemmas.{number_lacks}
use Rattle.pp_lexer.proofs.words.PunctuatorsLemmas.{found, punct_of-punctuator}
use Rattle.pp_lexer.proofs.words.WordsLemmas.{first_char, ascii_no_start, punct_no_start, no_identifier_front, no_number_here}
use Rattle.pp_lexer.proofs.words.WordAtLemmas.{identifier_first, number_first, other_first}

-- a space or the end stands there
abbrev pub IsBreak : List ℕ → Type 0
IsBreak [] = Unit {0}
IsBreak (c ∷ cs) = c ≡ 32

-- a set whose spellings have no space ends before a space
pub ends_at_break : (P : List ℕ → Bool) → Lacks 32 P → (cs : List ℕ) → IsBreak cs → EndsBefore P cs
ends_at_break P h [] b = tt
ends_at_break P h (c ∷ cs) b = subst (λ k. Lacks k P) (sym b) h

-- no character that fails at a space begins there
pub break_begins : (p : ℕ → Bool) → p 32 ≡ false → (cs : List ℕ) → IsBreak cs → begins_with p cs ≡ false
break_begins p h [] b = refl
break_begins p h (c ∷ cs) b = ap p b ∙ h

-- a set without the empty spelling
some_of : (P : List ℕ → Bool) (w : List ℕ) → P [] ≡ false → P w ≡ true → 0 < length w
some_of P [] h e = absurd (false≢true (sym h ∙ e))
some_of P (c ∷ w) h e = omega arith

-- Identifiers

-- no identifier has a character that neither begins nor continues one
pub identifier_lacks : (k : ℕ) → is_start k ≡ false → is_xid_continue k ≡ false → Lacks k is_identifier
unfolding is_identifier
identifier_lacks k s c = grind (arith, made_one, missing, made_many, made_nothing)

identifier_some : (w : List ℕ) → is_identifier w ≡ true → 0 < length w
unfolding is_identifier
identifier_some w e = some_of is_identifier w refl e

-- an identifier is read as itself
pub spelled_identifier : (rules : Rules) (w cs : List ℕ) → is_identifier w ≡ true → IsBreak cs
    → word_at rules (w ++ cs) ≡ record { value = Ok (Ident w); taken = length w }
spelled_identifier rules w cs e b = by (begins_identifier (w ++ cs)) refl
  where
    ends : EndsBefore is_identifier cs
    ends = ends_at_break is_identifier (identifier_lacks 32 (ascii_no_start 32 refl refl) (is_xid_continue-ascii 32 (omega arith))) cs b

    by : (t : Bool) → begins_identifier (w ++ cs) ≡ t → word_at rules (w ++ cs) ≡ record { value = Ok (Ident w); taken = length w }
    by t h = grind (arith, no_identifier_front, taken_before, identifier_some, ends, longest_before, identifier_first)

-- Numbers

number_some : (w : List ℕ) → is_number w ≡ true → 0 < length w
unfolding is_number
number_some w e = some_of is_number w refl e

-- a number that ends here is read by its spelling and what stands after it
pub spelled_number : (rules : Rules) (w cs : List ℕ) → is_number w ≡ true → EndsBefore is_number cs
    → word_at rules (w ++ cs) ≡ number_outcome rules w cs
unfolding number_at
spelled_number rules w cs e ends = grind (arith, no_number_here, taken_before, number_some, after_before, number_first)

-- a number ends before a space
pub number_ends : (cs : List ℕ) → IsBreak cs → EndsBefore is_number cs
number_ends cs b = ends_at_break is_number (number_lacks 32 refl refl refl refl refl refl refl) cs b

-- Punctuators

punctuator_lacks_space : (p : Punctuator) → list_all (is_other 32) (punctuator p) ≡ true
punctuator_lacks_space AddAssign = refl
punctuator_lacks_space _ = refl

hash_lacks_space : Lacks 32 is_hash
hash_lacks_space w e = ap (list_all (is_other 32)) (sym ((bytes_decides (35 ∷ []) w).0 e))

punctuators_lack_space : Lacks 32 is_punctuator
unfolding is_punctuator
punctuators_lack_space w e = by (punct_of w) refl e
  where
    by : (o : Option Punctuator) → punct_of w ≡ o → is_some o ≡ true → list_all (is_other 32) w ≡ true
    by None f t = cc
    by (Some p) f t = ap (list_all (is_other 32)) (sym (found w p f)) ∙ punctuator_lacks_space p

punctuation_lacks_space : Lacks 32 is_punctuation
unfolding is_punctuation
punctuation_lacks_space = union_part is_hash is_punctuator (list_all (is_other 32)) hash_lacks_space punctuators_lack_space

punctuator_word : (p : Punctuator) → is_punctuation (punctuator p) ≡ true
unfolding is_punctuation is_punctuator
punctuator_word p = or_right (is_hash (punctuator p)) (is_some (punct_of (punctuator p))) (ap is_some (punct_of-punctuator p))

punctuator_some : (p : Punctuator) → 0 < length (punctuator p)
punctuator_some AddAssign = omega arith
punctuator_some _ = omega arith

no_hash : (p : Punctuator) → is_hash (punctuator p) ≡ false
no_hash AddAssign = refl
no_hash _ = refl

value_of_punctuator : (p : Punctuator) → punctuation_value (punctuator p) ≡ Some (Punct p)
value_of_punctuator p =
    ap (λ b. if b then Some Hash else option_map Punct (punct_of (punctuator p))) (no_hash p) ∙ ap (option_map Punct) (punct_of-punctuator p)

first_begins : (q : ℕ → Bool) (p : Punctuator) (cs : List ℕ) → begins_with q (punctuator p ++ cs) ≡ q (first_char p)
first_begins q AddAssign cs = refl
first_begins q _ cs = refl

no_line_end : (p : Punctuator) (cs : List ℕ) → begins_with is_line_end (punctuator p ++ cs) ≡ false
no_line_end AddAssign cs = refl
no_line_end _ cs = refl

no_number : (p : Punctuator) (cs : List ℕ) → begins_with is_decimal cs ≡ false → begins_number (punctuator p ++ cs) ≡ false
no_number p cs h = grind arith

-- a punctuator is read as itself
pub spelled_punctuator : (rules : Rules) (p : Punctuator) (cs : List ℕ) → IsBreak cs
    → word_at rules (punctuator p ++ cs) ≡ record { value = Ok (Punct p); taken = length (punctuator p) }
unfolding punctuation_at
spelled_punctuator rules p cs b =
    let w : List ℕ = punctuator p in
    let ends : EndsBefore is_punctuation cs = ends_at_break is_punctuation punctuation_lacks_space cs b in
    let text : take (longest is_punctuation (w ++ cs)) (w ++ cs) ≡ w = taken_before is_punctuation w (punctuator_some p) (punctuator_word p) cs ends in
    let size : longest is_punctuation (w ++ cs) ≡ length w = longest_before is_punctuation w (punctuator_some p) (punctuator_word p) cs ends in
    other_first rules (w ++ cs) (no_line_end p cs) (first_begins is_start p cs ∙ punct_no_start p)
    (no_number p cs (break_begins is_decimal refl cs b))
    ∙ (λ i. punctuation_outcome rules (size i) (punctuation_value (text i))) ∙ ap (punctuation_outcome rules (length w)) (value_of_punctuator p)
