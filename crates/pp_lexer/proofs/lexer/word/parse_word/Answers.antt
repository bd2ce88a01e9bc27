use Rattle.std.proofs.Common.{Result, OnOk, sym, ◌∙◌, ap, inl, Ok, arith}
use Rattle.pp_lexer.proofs.characters.AdvancedLemmas.{after_first-one}
use Rattle.pp_lexer.proofs.words.WordAtLemmas.{newline_first, identifier_first, number_first, other_first}
use Rattle.pp_lexer.proofs.lexer.word.parse_word.Goals as goal

-- a fact holds on `Ok` where it holds
on_ok : {T E : Type 0} (r : Result T E) (P : Type 0) → P → OnOk r P
on_ok r P h = grind arith

pub returns-then-is_next-clause-value : goal.returns-then-is_next-clause-value
returns-then-is_next-clause-value c = inl (ap (λ x. Ok x.value) (sym (newline_first _ _ (sym c.is_next.ensures.test ∙ c.if-is_next.true))))

pub returns-then-is_next-clause-state : goal.returns-then-is_next-clause-state
returns-then-is_next-clause-state c = grind (arith, newline_first, after_first-one)

pub returns-then-begins_identifier : goal.returns-then-begins_identifier
returns-then-begins_identifier c = grind (arith, identifier_first)

pub returns-in_err-name-clause-value : goal.returns-in_err-name-clause-value
returns-in_err-name-clause-value c = grind (arith, identifier_first)

pub returns-then-begins_number : goal.returns-then-begins_number
returns-then-begins_number c = grind (arith, number_first)

pub returns : goal.returns
returns c = grind (arith, other_first)
