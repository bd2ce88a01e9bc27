use Rattle.std.proofs.Common.{sym, ◌∙◌, ap, take, Option, arith}
use Rattle.pp_lexer.specs.declared.token.Punct.{Punct as Punctuator}
use Rattle.pp_lexer.specs.Reading.{Reading, letters}
use Rattle.pp_lexer.specs.Longest.{longest}
use Rattle.pp_lexer.specs.Punctuators.{is_punctuator, punct_of}
use Rattle.pp_lexer.proofs.characters.AdvancedLemmas.{advanced-zero, after_first-one}
use Rattle.pp_lexer.proofs.words.PunctuationLemmas.{at_hash, at_punct, at_nothing, none_passed}
use Rattle.pp_lexer.proofs.lexer.punctuation.parse_punctuation.Goals as goal

pub returns-then-is_next-clause-value : goal.returns-then-is_next-clause-value
returns-then-is_next-clause-value c = ap (λ o. o.value) (sym (at_hash _ _ (sym c.is_next.ensures.test ∙ c.if-is_next.true)))

pub returns-then-is_next-clause-state : goal.returns-then-is_next-clause-state
returns-then-is_next-clause-state c = grind (arith, at_hash, after_first-one)

-- what is sought in a reader that stands where this one does
abbrev sought : Reading → Option Punctuator
sought r = punct_of (take (longest is_punctuator (letters r.rest)) (letters r.rest))

pub returns-in-Some-clause-value : goal.returns-in-Some-clause-value
returns-in-Some-clause-value c =
    ap (λ o. o.value) (sym
    (at_punct _ _ _ (sym c.is_next.ensures.test ∙ c.if-is_next.false) (c.in-Some.ensures.value ∙ ap sought c.is_next.ensures.same)))

pub returns-in-Some-clause-state : goal.returns-in-Some-clause-state
returns-in-Some-clause-state c = grind (arith, at_punct)

pub returns : goal.returns
returns c = grind (arith, at_nothing, none_passed, advanced-zero)
