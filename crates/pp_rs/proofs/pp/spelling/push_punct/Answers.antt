use Rattle.std.proofs.Common.{◌≡◌, ◌∙◌, ◌++◌, ◌<◌, ℕ, List, [], ◌∷◌, length, get_or, true, nat_lt, if◌then◌else◌, refl, ap, arith, string_bytes}
use Rattle.std.specs.Prelude.{is_ok}
use Rattle.std.proofs.lemmas.Bool.{ltb-true}
use Rattle.std.proofs.lemmas.Str.{IsUtf8-string_bytes}
use Rattle.pp_lexer.specs.Punctuators.{punctuator}
use Rattle.pp_lexer.specs.declared.token.Punct.{Punct}
use Rattle.pp_lexer.specs.declared.token.Punct.TheVariants.{AddAssign}
use Rattle.pp_rs.proofs.runs.SpellingLemmas.{chars-punctuator, chars-pushed, not-pushed}
use Rattle.pp_rs.proofs.pp.spelling.push_punct.Goals as goal

begins_ascii : (p : Punct) → nat_lt (get_or (punctuator p) 0 0) 128 ≡ true
begins_ascii AddAssign = refl
begins_ascii _ = refl

only : (s : List ℕ) → length s ≡ 1 → get_or s 0 0 ∷ [] ≡ s
only [] e = absurd (omega arith)
only (c ∷ []) e = refl
only (c ∷ d ∷ s) e = absurd (omega arith)

-- a punctuator of one character
one_letter : (p : Punct) (bytes : List ℕ) → bytes ≡ punctuator p → length bytes ≡ 1
    → (get_or bytes 0 0 < 128) × (get_or bytes 0 0 ∷ [] ≡ punctuator p)
one_letter p bytes e one =
    (ltb-true (get_or bytes 0 0) 128 (ap (λ s. nat_lt (get_or s 0 0) 128) e ∙ begins_ascii p), only bytes one ∙ e)

pub returns-then-bytes-eq1-clause-appended : goal.returns-then-bytes-eq1-clause-appended
returns-then-bytes-eq1-clause-appended c =
    let e : c.as_bytes-bytes.result.now ≡ punctuator c.args.punct = c.as_bytes-bytes.ensures.value ∙ c.spelling-spelling.ensures in
    let one = one_letter c.args.punct c.as_bytes-bytes.result.now e c.if-bytes-eq1.true in
    let old = string_bytes c.args.text.now in
    let h = chars-pushed c.push.result _ old (punctuator c.args.punct) (IsUtf8-string_bytes c.args.text.now)
    (c.push.ensures.bytes ∙ ap (λ t. if is_ok c.push.result then old ++ t else old) (c.push.ensures.ascii one.0 ∙ one.1)) in
    rw (← chars-punctuator c.args.punct) h

pub returns-clause-appended : goal.returns-clause-appended
returns-clause-appended c =
    let h = chars-pushed c.push_str.result _ _ _ (IsUtf8-string_bytes c.args.text.now) c.push_str.ensures.bytes in
    rw (← chars-punctuator c.args.punct, ← c.spelling-spelling.ensures) h

pub returns-then-bytes-eq1-clause-refused : goal.returns-then-bytes-eq1-clause-refused
returns-then-bytes-eq1-clause-refused c = not-pushed c.push.result _ _ _ c.push.ensures.bytes

pub returns-clause-refused : goal.returns-clause-refused
returns-clause-refused c = not-pushed c.push_str.result _ _ _ c.push_str.ensures.bytes
