use Rattle.std.proofs.Common.{◌≡◌, ◌∙◌, ◌∷◌, [], sym, arith, Some, get_or}
use Rattle.pp_lexer.specs.Punctuators.{punct_of}
use Rattle.pp_lexer.proofs.words.PlainPunctuationLemmas.{hash_word, lone_word, single_is, single_word, stops_single}
use Rattle.pp_lexer.proofs.lexer.plain.punctuation.plain_punctuation.Goals as goal

pub returns-then-first-eq35 : goal.returns-then-first-eq35
returns-then-first-eq35 c = hash_word c.args.bytes.now c.requires.utf8 c.requires.some (omega arith)

pub returns-then-is_lone : goal.returns-then-is_lone
returns-then-is_lone c =
    let one : punct_of (get_or c.args.bytes.now 0 0 ∷ []) ≡ Some c.in_ok-one.one = single_is (get_or c.args.bytes.now 0 0) ∙ sym c.in_ok-one.ensures in
    lone_word c.args.bytes.now c.in_ok-one.one c.requires.utf8 c.requires.some one (sym c.is_lone.ensures ∙ c.if-is_lone.true)

pub returns-then-bytes-eq1 : goal.returns-then-bytes-eq1
returns-then-bytes-eq1 c =
    let one : punct_of (get_or c.args.bytes.now 0 0 ∷ []) ≡ Some c.in_ok-one.one = single_is (get_or c.args.bytes.now 0 0) ∙ sym c.in_ok-one.ensures in
    single_word c.args.bytes.now c.in_ok-one.one c.requires.utf8 c.requires.some one (λ l. absurd (omega arith))

pub long_punctuator-requires : goal.long_punctuator-requires
long_punctuator-requires c = record { utf8 = c.requires.utf8; some = omega arith; pair = sym c.pair.ensures ∙ c.in-Some.is }

pub returns-in-None : goal.returns-in-None
returns-in-None c =
    let one : punct_of (get_or c.args.bytes.now 0 0 ∷ []) ≡ Some c.in_ok-one.one = single_is (get_or c.args.bytes.now 0 0) ∙ sym c.in_ok-one.ensures in
    single_word c.args.bytes.now c.in_ok-one.one c.requires.utf8 c.requires.some one
    (stops_single c.args.bytes.now (c.ends_plainly.ensures c.if-not-ends_plainly.false)
    (λ l. sym c.pair.ensures ∙ c.in-None.is) (λ l. sym c.begins_other.ensures ∙ c.if-begins_other.false))
